use Rattle.std.proofs.Common.{◌++◌, ◌∷◌, [], Bool, List, Option, map, take, ap, sym, ◌∙◌, append-nil}
use Rattle.std.proofs.lemmas.List.{map-append}
use Rattle.std.proofs.lemmas.Result.{IfOk-from_err}
use Rattle.vx_ast.specs.declared.names.Fault.{Fault}
use Rattle.vx_ast.specs.declared.syntax.Definition.{Definition}
use Rattle.vx_ast.specs.declared.tree.Function.{Function}
use Rattle.vx_ast.specs.Faults.{fault_if, function_faults, is_repeated, least}
use Rattle.vx_ast.specs.SyntaxView.{definition_of, function_of}
use Rattle.vx_ast.specs.Tree as tree
use Rattle.vx_ast.specs.View as view
use Rattle.vx_types.specs.Whole.{at_start, own_faults, own_functions}
use Rattle.vx_types.proofs.Leasts.{least_append}
use Rattle.vx_types.proofs.program.definition.Goals as goal

pub returns-in_ok-push-in-Function-clause-made : goal.returns-in_ok-push-in-Function-clause-made
returns-in_ok-push-in-Function-clause-made c =
    ap (λ (z : List Function). map view.function_of z) c.in_ok-push-in-Function.ensures.items
    ∙ map-append view.function_of c.args.functions.now.items (c.in_ok-made-in-Function.made ∷ [])
    ∙ ap (λ (z : tree.Function). map view.function_of c.args.functions.now.items ++ z ∷ []) c.in_ok-made-in-Function.ensures.made
    ∙ ap (λ (z : Definition). map view.function_of c.args.functions.now.items ++ own_functions c.args.names.now c.args.arrays (definition_of z)) (sym c.in-Function.is)

pub returns-in_ok-push-in-Function-clause-faults : goal.returns-in_ok-push-in-Function-clause-faults
returns-in_ok-push-in-Function-clause-faults c =
    let own = function_faults (at_start c.args.names.now c.args.arrays) (function_of c.in-Function.written) in
    let repeated : List Fault = fault_if (is_repeated (take c.args.names.now.above c.args.names.now.names) c.in-Function.written.name.bytes) 6 c.in-Function.written.name.place in
    c.in_ok-made-in-Function.ensures.faults
    ∙ ap (λ (z : Option Fault). least z own) (c.note-in-Function.ensures ∙ ap (λ (b : Bool). least c.args.first.now (fault_if b 6 c.in-Function.written.name.place)) (c.is_repeated-in-Function.ensures ∙ ap (λ z. is_repeated (take c.args.names.now.above c.args.names.now.names) z) c.as_slice-in-Function.ensures))
    ∙ sym (least_append c.args.first.now repeated own)
    ∙ ap (λ (z : Definition). least c.args.first.now (own_faults c.args.names.now c.args.arrays (definition_of z))) (sym c.in-Function.is)

pub returns-in_err-made-in-Function-clause-made : goal.returns-in_err-made-in-Function-clause-made
returns-in_err-made-in-Function-clause-made c = IfOk-from_err _ _ c.from_residual.ensures.0

pub returns-in_err-made-in-Function-clause-faults : goal.returns-in_err-made-in-Function-clause-faults
returns-in_err-made-in-Function-clause-faults c = IfOk-from_err _ _ c.from_residual.ensures.0

pub returns-in_err-made-in-Function-clause-locals : goal.returns-in_err-made-in-Function-clause-locals
returns-in_err-made-in-Function-clause-locals c = IfOk-from_err _ _ c.from_residual.ensures.0

pub returns-in_err-made-in-Function-clause-names : goal.returns-in_err-made-in-Function-clause-names
returns-in_err-made-in-Function-clause-names c = IfOk-from_err _ _ c.from_residual.ensures.0

pub returns-in_err-made-in-Function-clause-takes : goal.returns-in_err-made-in-Function-clause-takes
returns-in_err-made-in-Function-clause-takes c = IfOk-from_err _ _ c.from_residual.ensures.0

pub returns-in_err-made-in-Function-clause-above : goal.returns-in_err-made-in-Function-clause-above
returns-in_err-made-in-Function-clause-above c = IfOk-from_err _ _ c.from_residual.ensures.0

pub returns-in_err-push-in-Function-clause-made : goal.returns-in_err-push-in-Function-clause-made
returns-in_err-push-in-Function-clause-made c = IfOk-from_err _ _ c.from_residual-in_err-push-in-Function.ensures.0

pub returns-in_err-push-in-Function-clause-faults : goal.returns-in_err-push-in-Function-clause-faults
returns-in_err-push-in-Function-clause-faults c = IfOk-from_err _ _ c.from_residual-in_err-push-in-Function.ensures.0

pub returns-in_err-push-in-Function-clause-locals : goal.returns-in_err-push-in-Function-clause-locals
returns-in_err-push-in-Function-clause-locals c = IfOk-from_err _ _ c.from_residual-in_err-push-in-Function.ensures.0

pub returns-in_err-push-in-Function-clause-names : goal.returns-in_err-push-in-Function-clause-names
returns-in_err-push-in-Function-clause-names c = IfOk-from_err _ _ c.from_residual-in_err-push-in-Function.ensures.0

pub returns-in_err-push-in-Function-clause-takes : goal.returns-in_err-push-in-Function-clause-takes
returns-in_err-push-in-Function-clause-takes c = IfOk-from_err _ _ c.from_residual-in_err-push-in-Function.ensures.0

pub returns-in_err-push-in-Function-clause-above : goal.returns-in_err-push-in-Function-clause-above
returns-in_err-push-in-Function-clause-above c = IfOk-from_err _ _ c.from_residual-in_err-push-in-Function.ensures.0

pub returns-in-Array-clause-made : goal.returns-in-Array-clause-made
returns-in-Array-clause-made c =
    sym (append-nil (map view.function_of c.args.functions.now.items)) ∙ ap (λ (z : Definition). map view.function_of c.args.functions.now.items ++ own_functions c.args.names.now c.args.arrays (definition_of z)) (sym c.in-Array.is)

pub returns-in-Scalar-clause-made : goal.returns-in-Scalar-clause-made
returns-in-Scalar-clause-made c =
    sym (append-nil (map view.function_of c.args.functions.now.items)) ∙ ap (λ (z : Definition). map view.function_of c.args.functions.now.items ++ own_functions c.args.names.now c.args.arrays (definition_of z)) (sym c.in-Scalar.is)

pub returns-in_ok-push-in-Function-clause-locals : goal.returns-in_ok-push-in-Function-clause-locals
returns-in_ok-push-in-Function-clause-locals c = c.in_ok-made-in-Function.ensures.locals

pub returns-in_ok-push-in-Function-clause-names : goal.returns-in_ok-push-in-Function-clause-names
returns-in_ok-push-in-Function-clause-names c = c.in_ok-made-in-Function.ensures.names

pub returns-in_ok-push-in-Function-clause-takes : goal.returns-in_ok-push-in-Function-clause-takes
returns-in_ok-push-in-Function-clause-takes c = c.in_ok-made-in-Function.ensures.takes

pub returns-in_ok-push-in-Function-clause-above : goal.returns-in_ok-push-in-Function-clause-above
returns-in_ok-push-in-Function-clause-above c = c.in_ok-made-in-Function.ensures.above
