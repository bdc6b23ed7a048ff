use Rattle.std.proofs.Common.{◌≡◌, ℕ, Bool, not, List, [], length, map, Option, None, ap, sym, ◌∙◌}
use Rattle.std.specs.List.{list_any}
use Rattle.vx_ast.specs.declared.syntax.Definition.{Definition}
use Rattle.vx_ast.specs.declared.names.Fault.{Fault}
use Rattle.vx_ast.specs.declared.tree.GlobalVariable.{GlobalVariable}
use Rattle.vx_ast.specs.Tree as tree
use Rattle.vx_ast.specs.Syntax as syntax
use Rattle.vx_ast.specs.Scopes.{Environment, globals_of, names_from, takes_from}
use Rattle.vx_ast.specs.Faults.{definitions_faults, fault_if, is_main, least}
use Rattle.vx_ast.specs.Resolved.{main_from}
use Rattle.vx_ast.specs.SyntaxView.{definition_of, program_of}
use Rattle.vx_types.proofs.Leasts.{least_append}
use Rattle.vx_types.proofs.program.resolve_program.Goals as goal

same : (x y : tree.Program) → x.globals ≡ y.globals → x.functions ≡ y.functions → x.main ≡ y.main → x ≡ y
same x y globals functions main =
    ap (λ (z : List GlobalVariable). let p : tree.Program = record { globals = z; functions = x.functions; main = x.main } in p) globals
    ∙ ap (λ (z : List tree.Function). let p : tree.Program = record { globals = y.globals; functions = z; main = x.main } in p) functions
    ∙ ap (λ (z : ℕ). let p : tree.Program = record { globals = y.globals; functions = y.functions; main = z } in p) main

abbrev known_first_of : List syntax.Definition → Environment
known_first_of ds = record { depth = 0; locals = []; names = names_from 0 0 ds; above = 0; takes = takes_from ds; scalars = 0; arrays = 0; sizes = [] }

pub make_functions-requires : goal.make_functions-requires
make_functions-requires c =
    let e = c.as_slice-definitions.ensures.value in
    record {
      start = c.in_ok-names.ensures ∙ ap (λ (z : List Definition). known_first_of (map definition_of z)) e;
      arrays = c.len.ensures.len ∙ ap (λ (z : List GlobalVariable). length z) (c.in_ok-globals.ensures ∙ ap (λ (z : List Definition). globals_of (map definition_of z)) e);
    }

pub returns-clause-program : goal.returns-clause-program
returns-clause-program c =
    let e = c.as_slice-definitions.ensures.value in
    same _ _ (c.in_ok-globals.ensures ∙ ap (λ (z : List Definition). globals_of (map definition_of z)) e) c.in_ok-made.ensures.made (c.in_ok-main.ensures ∙ ap (λ (z : List Definition). main_from 0 (map definition_of z)) e)

pub returns-clause-fault : goal.returns-clause-fault
returns-clause-fault c =
    let e = c.as_slice-definitions.ensures.value in
    let p = program_of c.args.program.now in
    let fs : List Fault = definitions_faults p 0 p.definitions in
    c.note-first.ensures ∙ ap (λ (z : Option Fault). least z (fault_if (not c.has_main.result) 10 p.end)) c.in_ok-made.ensures.faults
    ∙ ap (λ (b : Bool). least (least None fs) (fault_if (not b) 10 p.end)) (c.has_main.ensures ∙ ap (λ (z : List Definition). list_any is_main (map definition_of z)) e)
    ∙ sym (least_append None fs (fault_if (not (list_any is_main p.definitions)) 10 p.end))
