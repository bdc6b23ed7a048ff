-- Whole programs.
use Rattle.std.proofs.Common.{◌≡◌, ℕ, true, List, [], ◌∷◌, map, Some, refl, sym, ap, ◌∙◌, subst}
use Rattle.std.specs.Prelude.{slice_get}
use Rattle.vx_ast.specs.declared.tree.GlobalVariable.{GlobalVariable}
use Rattle.vx_ast.specs.declared.tree.GlobalVariable.TheVariants.{Scalar as ScalarGlobal, Array as ArrayGlobal}
use Rattle.vx_ast.specs.declared.tree.Program.{Program as AProgram}
use Rattle.vx_ast.specs.Tree.{Function, Program}
use Rattle.vx_ast.specs.View.{function_of, program_of}
use Rattle.vx_ast.specs.Accepted.{global_words, is_accepted}
use Rattle.vx_flow.specs.declared.graph.Flow.{Flow}
use Rattle.vx_lower.specs.FlowOf.{RunsAs}
use Rattle.vx_lower.specs.Graphs.{FunctionWithin, AllGraphed}
use Rattle.vx_lower.specs.Lowered.{sees_of, global_of, AllLowered}
use Rattle.vx_lower.proofs.Facts.{function_suits}
use Rattle.vx_lower.proofs.PrintMaking.{begins_self}
use Rattle.vx_lower.proofs.TrapBlocks.{got_map}
use Rattle.vx_lower.proofs.Whole.{lowering_holds}
use Rattle.vx_lower.proofs.Within.{steps_in, function_within}

-- the functions of an accepted program name what is there
pub functions_within : (source : AProgram) → is_accepted (program_of source) ≡ true → (i : ℕ) (f : Function) → slice_get (program_of source).functions i ≡ Some f → FunctionWithin (sees_of (program_of source) f) f
functions_within source accepted i f e =
    let x = got_map function_of source.functions.items i f e in
    let s = function_suits (program_of source) accepted i (function_of x.0) (e ∙ ap Some (sym x.2)) in
    subst (λ z. FunctionWithin (sees_of (program_of source) z) z) x.2 (function_within (program_of source) (function_of x.0) (steps_in x.0.body.items) s)

pub all_lowered : (source : AProgram) (flow : Flow) → flow.globals ≡ map global_of source.globals → flow.main ≡ source.main → AllGraphed (program_of source) (program_of source).functions flow.functions [] flow.texts → is_accepted (program_of source) ≡ true → AllLowered (program_of source) flow
all_lowered source flow eg em x accepted = record {
  globals = eg;
  main = em;
  count = x.count;
  lowered = λ i f g e d. x.lowered i f g e d (functions_within source accepted i f e) flow.texts (begins_self flow.texts);
}

global_size : (v : GlobalVariable) → (global_of v).words ≡ global_words v
global_size (ScalarGlobal z) = refl
global_size (ArrayGlobal n) = refl

global_sizes : (gs : List GlobalVariable) → map (λ global. global.words) (map global_of gs) ≡ map global_words gs
global_sizes [] = refl
global_sizes (v ∷ gs) = ap (λ n. n ∷ map (λ global. global.words) (map global_of gs)) (global_size v) ∙ ap (λ z. global_words v ∷ z) (global_sizes gs)

pub words_declared : (p : Program) (flow : Flow) → AllLowered p flow → map (λ global. global.words) flow.globals ≡ map global_words p.globals
words_declared p flow all = ap (map (λ global. global.words)) all.globals ∙ global_sizes p.globals

pub runs_as : (p : Program) (flow : Flow) → is_accepted p ≡ true → AllLowered p flow → RunsAs p flow
runs_as p flow accepted all = record {
  same = λ input numbers. (lowering_holds p flow accepted all input numbers).0;
  never_wrong = λ input numbers. (lowering_holds p flow accepted all input numbers).1;
}
