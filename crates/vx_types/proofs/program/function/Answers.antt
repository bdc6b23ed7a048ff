use Rattle.std.proofs.Common.{◌≡◌, ◌++◌, ◌-◌, ℕ, false, List, length, Option, refl, ap, sym, ◌∙◌, arith}
use Rattle.std.proofs.lemmas.List.{drop_all}
use Rattle.std.proofs.lemmas.Result.{IfOk-from_err}
use Rattle.vx_ast.specs.declared.names.Fault.{Fault}
use Rattle.vx_ast.specs.declared.syntax.Parameter.{Parameter}
use Rattle.vx_ast.specs.declared.syntax.Statement.{Statement}
use Rattle.vx_ast.specs.declared.tree.Gives.{Gives}
use Rattle.vx_ast.specs.declared.tree.Takes.{Takes}
use Rattle.vx_ast.specs.Accepted.{numbers_among}
use Rattle.vx_ast.specs.Faults.{code_faults, least, parameter_faults}
use Rattle.vx_ast.specs.Resolved.{code_in}
use Rattle.vx_ast.specs.Scopes.{Environment, behind, takes_of, with_parameters}
use Rattle.vx_ast.specs.SyntaxView.{all_in}
use Rattle.vx_ast.specs.Tree as tree
use Rattle.vx_types.specs.Whole.{at_start}
use Rattle.vx_types.proofs.Leasts.{least_append}
use Rattle.vx_types.proofs.Scoping.{behind_keeps, parameters_keep}
use Rattle.vx_types.proofs.SuitsProgram.{parameter_counts}
use Rattle.vx_types.proofs.program.function.Goals as goal

-- what is known before the body
before : (start env known : Environment) (read params : List Parameter) → start ≡ env → known ≡ with_parameters read start → read ≡ params → known ≡ with_parameters params env
before start env known read params s k p = k ∙ ap (λ (z : List Parameter). with_parameters z start) p ∙ ap (λ (z : Environment). with_parameters params z) s

same : (x y : tree.Function) → x.name ≡ y.name → x.gives ≡ y.gives → x.parameters ≡ y.parameters → x.takes ≡ y.takes → x.scalars ≡ y.scalars → x.arrays ≡ y.arrays → x.body ≡ y.body → x ≡ y
same x y name gives parameters takes scalars arrays body =
    ap (λ (z : List ℕ). let f : tree.Function = record { name = z; gives = x.gives; parameters = x.parameters; takes = x.takes; scalars = x.scalars; arrays = x.arrays; body = x.body } in f) name
    ∙ ap (λ (z : Gives). let f : tree.Function = record { name = y.name; gives = z; parameters = x.parameters; takes = x.takes; scalars = x.scalars; arrays = x.arrays; body = x.body } in f) gives
    ∙ ap (λ (z : ℕ). let f : tree.Function = record { name = y.name; gives = y.gives; parameters = z; takes = x.takes; scalars = x.scalars; arrays = x.arrays; body = x.body } in f) parameters
    ∙ ap (λ (z : List Takes). let f : tree.Function = record { name = y.name; gives = y.gives; parameters = y.parameters; takes = z; scalars = x.scalars; arrays = x.arrays; body = x.body } in f) takes
    ∙ ap (λ (z : ℕ). let f : tree.Function = record { name = y.name; gives = y.gives; parameters = y.parameters; takes = y.takes; scalars = z; arrays = x.arrays; body = x.body } in f) scalars
    ∙ ap (λ (z : List ℕ). let f : tree.Function = record { name = y.name; gives = y.gives; parameters = y.parameters; takes = y.takes; scalars = y.scalars; arrays = z; body = x.body } in f) arrays
    ∙ ap (λ (z : tree.Code). let f : tree.Function = record { name = y.name; gives = y.gives; parameters = y.parameters; takes = y.takes; scalars = y.scalars; arrays = y.arrays; body = z } in f) body

-- how many scalars there are behind the parameters
numbers_are : (env known : Environment) (params : List Parameter) (n : ℕ) → env.scalars ≡ 0 → known ≡ with_parameters params env → n ≡ known.scalars → n ≡ numbers_among (takes_of params)
numbers_are env known params n z k e =
    let c = (parameter_counts params env).0 in
    let l = ap (λ (x : Environment). x.scalars) k in
    omega (arith, z, e, l, c)

last_is : (env known last : Environment) (params : List Parameter) (read all : List Statement) → known ≡ with_parameters params env → last ≡ behind (all_in read) known → read ≡ all → last ≡ behind (all_in all) (with_parameters params env)
last_is env known last params read all k l a = l ∙ ap (λ (z : List Statement). behind (all_in z) known) a ∙ ap (λ (z : Environment). behind (all_in all) z) k

body_is : (env known : Environment) (params : List Parameter) (read all : List Statement) (body : tree.Code) → known ≡ with_parameters params env → body ≡ code_in known (all_in read) → read ≡ all → body ≡ code_in (with_parameters params env) (all_in all)
body_is env known params read all body k b a = b ∙ ap (λ (z : List Statement). code_in known (all_in z)) a ∙ ap (λ (z : Environment). code_in z (all_in all)) k

faults_are : (gives : Gives) (start env known : Environment) (read params : List Parameter) (seen all : List Statement) (first middle last : Option Fault) → start ≡ env → read ≡ params → known ≡ with_parameters params env → seen ≡ all
    → middle ≡ least first (parameter_faults start read) → last ≡ least middle (code_faults gives false known (all_in seen)) → last ≡ least first (parameter_faults env params ++ code_faults gives false (with_parameters params env) (all_in all))
faults_are gives start env known read params seen all first middle last s p k a m l =
    l ∙ ap (λ (z : List Statement). least middle (code_faults gives false known (all_in z))) a ∙ ap (λ (z : Environment). least middle (code_faults gives false z (all_in all))) k
    ∙ ap (λ (z : Option Fault). least z (code_faults gives false (with_parameters params env) (all_in all)))
    (m ∙ ap (λ (z : List Parameter). least first (parameter_faults start z)) p ∙ ap (λ (z : Environment). least first (parameter_faults z params)) s)
    ∙ sym (least_append first (parameter_faults env params) (code_faults gives false (with_parameters params env) (all_in all)))

pub returns-clause-made : goal.returns-clause-made
returns-clause-made c =
    let env = at_start c.args.names.now c.args.arrays in
    let params = c.args.function.now.parameters in
    let all = c.args.function.now.body.items in
    let k = before _ env _ _ params c.start.ensures c.in_ok-parameters.ensures.known c.as_slice.ensures in
    let l = last_is env _ _ params _ all k c.in_ok-body.ensures.known c.as_slice-2.ensures.value in
    same _ _ c.in_ok-heading.ensures.name refl (numbers_are env _ params _ refl k c.scalars-numbers.ensures) c.in_ok-heading.ensures.takes
    (c.scalars-scalars.ensures ∙ ap (λ (e : Environment). e.scalars) c.in_ok-leave.ensures ∙ ap (λ (e : Environment). e.scalars) l)
    (c.take_sizes-arrays.ensures.sizes ∙ ap (λ (e : Environment). e.sizes) c.in_ok-leave.ensures ∙ ap (λ (e : Environment). e.sizes) l)
    (body_is env _ params _ all _ k c.in_ok-body.ensures.made c.as_slice-2.ensures.value)

pub returns-clause-faults : goal.returns-clause-faults
returns-clause-faults c =
    let k = before _ _ _ _ _ c.start.ensures c.in_ok-parameters.ensures.known c.as_slice.ensures in
    faults_are _ _ _ _ _ _ _ _ _ _ _ c.start.ensures c.as_slice.ensures k c.as_slice-2.ensures.value c.in_ok-parameters.ensures.faults c.in_ok-body.ensures.faults

pub returns-clause-locals : goal.returns-clause-locals
returns-clause-locals c =
    ap (λ (e : Environment). e.locals) c.take_sizes-arrays.ensures.left ∙ ap (λ (e : Environment). e.locals) c.in_ok-leave.ensures
    ∙ drop_all (length c.statements.new.names.locals - 0) c.statements.new.names.locals (omega arith)

pub returns-in_err-parameters-clause-made : goal.returns-in_err-parameters-clause-made
returns-in_err-parameters-clause-made c = IfOk-from_err _ _ c.from_residual.ensures.0

pub returns-in_err-parameters-clause-faults : goal.returns-in_err-parameters-clause-faults
returns-in_err-parameters-clause-faults c = IfOk-from_err _ _ c.from_residual.ensures.0

pub returns-in_err-parameters-clause-locals : goal.returns-in_err-parameters-clause-locals
returns-in_err-parameters-clause-locals c = IfOk-from_err _ _ c.from_residual.ensures.0

pub returns-in_err-parameters-clause-names : goal.returns-in_err-parameters-clause-names
returns-in_err-parameters-clause-names c = IfOk-from_err _ _ c.from_residual.ensures.0

pub returns-in_err-parameters-clause-takes : goal.returns-in_err-parameters-clause-takes
returns-in_err-parameters-clause-takes c = IfOk-from_err _ _ c.from_residual.ensures.0

pub returns-in_err-parameters-clause-above : goal.returns-in_err-parameters-clause-above
returns-in_err-parameters-clause-above c = IfOk-from_err _ _ c.from_residual.ensures.0

pub returns-in_err-body-clause-made : goal.returns-in_err-body-clause-made
returns-in_err-body-clause-made c = IfOk-from_err _ _ c.from_residual-in_err-body.ensures.0

pub returns-in_err-body-clause-faults : goal.returns-in_err-body-clause-faults
returns-in_err-body-clause-faults c = IfOk-from_err _ _ c.from_residual-in_err-body.ensures.0

pub returns-in_err-body-clause-locals : goal.returns-in_err-body-clause-locals
returns-in_err-body-clause-locals c = IfOk-from_err _ _ c.from_residual-in_err-body.ensures.0

pub returns-in_err-body-clause-names : goal.returns-in_err-body-clause-names
returns-in_err-body-clause-names c = IfOk-from_err _ _ c.from_residual-in_err-body.ensures.0

pub returns-in_err-body-clause-takes : goal.returns-in_err-body-clause-takes
returns-in_err-body-clause-takes c = IfOk-from_err _ _ c.from_residual-in_err-body.ensures.0

pub returns-in_err-body-clause-above : goal.returns-in_err-body-clause-above
returns-in_err-body-clause-above c = IfOk-from_err _ _ c.from_residual-in_err-body.ensures.0

pub returns-in_err-leave-clause-made : goal.returns-in_err-leave-clause-made
returns-in_err-leave-clause-made c = IfOk-from_err _ _ c.from_residual-in_err-leave.ensures.0

pub returns-in_err-leave-clause-faults : goal.returns-in_err-leave-clause-faults
returns-in_err-leave-clause-faults c = IfOk-from_err _ _ c.from_residual-in_err-leave.ensures.0

pub returns-in_err-leave-clause-locals : goal.returns-in_err-leave-clause-locals
returns-in_err-leave-clause-locals c = IfOk-from_err _ _ c.from_residual-in_err-leave.ensures.0

pub returns-in_err-leave-clause-names : goal.returns-in_err-leave-clause-names
returns-in_err-leave-clause-names c = IfOk-from_err _ _ c.from_residual-in_err-leave.ensures.0

pub returns-in_err-leave-clause-takes : goal.returns-in_err-leave-clause-takes
returns-in_err-leave-clause-takes c = IfOk-from_err _ _ c.from_residual-in_err-leave.ensures.0

pub returns-in_err-leave-clause-above : goal.returns-in_err-leave-clause-above
returns-in_err-leave-clause-above c = IfOk-from_err _ _ c.from_residual-in_err-leave.ensures.0

pub returns-in_err-heading-clause-made : goal.returns-in_err-heading-clause-made
returns-in_err-heading-clause-made c = IfOk-from_err _ _ c.from_residual-in_err-heading.ensures.0

pub returns-in_err-heading-clause-faults : goal.returns-in_err-heading-clause-faults
returns-in_err-heading-clause-faults c = IfOk-from_err _ _ c.from_residual-in_err-heading.ensures.0

pub returns-in_err-heading-clause-locals : goal.returns-in_err-heading-clause-locals
returns-in_err-heading-clause-locals c = IfOk-from_err _ _ c.from_residual-in_err-heading.ensures.0

pub returns-in_err-heading-clause-names : goal.returns-in_err-heading-clause-names
returns-in_err-heading-clause-names c = IfOk-from_err _ _ c.from_residual-in_err-heading.ensures.0

pub returns-in_err-heading-clause-takes : goal.returns-in_err-heading-clause-takes
returns-in_err-heading-clause-takes c = IfOk-from_err _ _ c.from_residual-in_err-heading.ensures.0

pub returns-in_err-heading-clause-above : goal.returns-in_err-heading-clause-above
returns-in_err-heading-clause-above c = IfOk-from_err _ _ c.from_residual-in_err-heading.ensures.0

pub returns-clause-names : goal.returns-clause-names
returns-clause-names c =
    ap (λ (e : Environment). e.names) c.take_sizes-arrays.ensures.left ∙ ap (λ (e : Environment). e.names) c.in_ok-leave.ensures ∙ ap (λ (e : Environment). e.names) c.in_ok-body.ensures.known
    ∙ (behind_keeps (all_in c.as_slice-2.result.now) c.parameters.new.names).names ∙ ap (λ (e : Environment). e.names) c.in_ok-parameters.ensures.known
    ∙ (parameters_keep c.as_slice.result.now c.start.new.self).names ∙ ap (λ (e : Environment). e.names) c.start.ensures

pub returns-clause-takes : goal.returns-clause-takes
returns-clause-takes c =
    ap (λ (e : Environment). e.takes) c.take_sizes-arrays.ensures.left ∙ ap (λ (e : Environment). e.takes) c.in_ok-leave.ensures ∙ ap (λ (e : Environment). e.takes) c.in_ok-body.ensures.known
    ∙ (behind_keeps (all_in c.as_slice-2.result.now) c.parameters.new.names).takes ∙ ap (λ (e : Environment). e.takes) c.in_ok-parameters.ensures.known
    ∙ (parameters_keep c.as_slice.result.now c.start.new.self).takes ∙ ap (λ (e : Environment). e.takes) c.start.ensures

pub returns-clause-above : goal.returns-clause-above
returns-clause-above c =
    ap (λ (e : Environment). e.above) c.take_sizes-arrays.ensures.left ∙ ap (λ (e : Environment). e.above) c.in_ok-leave.ensures ∙ ap (λ (e : Environment). e.above) c.in_ok-body.ensures.known
    ∙ (behind_keeps (all_in c.as_slice-2.result.now) c.parameters.new.names).above ∙ ap (λ (e : Environment). e.above) c.in_ok-parameters.ensures.known
    ∙ (parameters_keep c.as_slice.result.now c.start.new.self).above ∙ ap (λ (e : Environment). e.above) c.start.ensures
