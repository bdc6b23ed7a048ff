-- A flow of a program stays one where its graphs keep their shape and its runs come to the same.
use Rattle.std.proofs.Common.{◌≡◌, ℕ, true, ℤ, List, slice_get, Option, Some, None, refl, sym, ◌∙◌, subst}
use Rattle.vx_base.specs.Outcome.{Same, NeverFails}
use Rattle.vx_ast.specs.Tree.{Function, Program}
use Rattle.vx_ast.specs.Meaning.{source}
use Rattle.vx_flow.specs.declared.graph.Block.{Block}
use Rattle.vx_flow.specs.declared.graph.Graph.{Graph}
use Rattle.vx_flow.specs.declared.graph.Flow.{Flow}
use Rattle.vx_flow.specs.Meaning.{graph_run}
use Rattle.vx_flow.specs.Sound.{is_sound_flow}
use Rattle.vx_lower.specs.FlowOf.{AreNumbers, GraphOf}
use Rattle.vx_shape.specs.Flows.{with_graphs, Each, FlowStays}
use Rattle.vx_shape.specs.Shape.{Shaped}
use Rattle.vx_shape.proofs.Pairs.{At, each_at, each_length}

-- the new graph has the shape of the graph of a function where the old one has
abbrev pub KeepsShape : Graph → Graph → Type 0
KeepsShape old new = (p : Program) (function : Function) → GraphOf p function old → GraphOf p function new

pub shape_kept : (p : Program) (function : Function) (blocks : List Block) (g : Graph) → GraphOf p function g → Shaped (record g { blocks = blocks }) → GraphOf p function (record g { blocks = blocks })
shape_kept p function blocks g o s = record {
  parameters = o.parameters;
  arrays = o.arrays;
  bases = o.bases;
  trap_empty = s.trap_empty;
  trap_alone = s.trap_alone;
  traps_last = s.traps_last;
  short = s.short;
  apart = s.apart;
  uncritical = s.uncritical;
  entry = s.entry;
  general_values = o.general_values;
  branch_values = o.branch_values;
}

pub shape_by : (R : Graph → Graph → Type 0) → ((g h : Graph) → R g h → KeepsShape g h) → (p : Program) (function : Function) (o q : Option Graph) → At R o q → ((g : Graph) → o ≡ Some g → GraphOf p function g) → (h : Graph) → q ≡ Some h → GraphOf p function h
shape_by R keeps p function None None s k h e = absurd (cc)
shape_by R keeps p function None (Some y) s k h e = absurd s
shape_by R keeps p function (Some g) None s k h e = absurd s
shape_by R keeps p function (Some g) (Some y) s k h e = let q : y ≡ h = cc in subst (GraphOf p function) q (keeps g y s p function (k g refl))

pub runs_stay : (R : Graph → Graph → Type 0) → ((g h : Graph) → R g h → KeepsShape g h) → (flow : Flow) (graphs : List Graph) → Each R flow.functions graphs →
    ((input : List ℤ) → NeverFails (graph_run flow input) → (n : ℕ) → graph_run (with_graphs flow graphs) input n ≡ graph_run flow input n) →
    is_sound_flow (with_graphs flow graphs) ≡ true → FlowStays flow (with_graphs flow graphs)
runs_stay R keeps flow graphs s come sound p o =
    let at : (f : ℕ) → At R (slice_get flow.functions f) (slice_get graphs f) = each_at R flow.functions graphs s in
    let runs : (input : List ℤ) → AreNumbers input → graph_run (with_graphs flow graphs) input ≡ graph_run flow input =
    λ input numbers. (λ i n. come input (o.runs.never_wrong input numbers) n i) in
    record {
      sound = sound;
      count = each_length R flow.functions graphs s ∙ o.count;
      graphs = λ f function graph e q. shape_by R keeps p function (slice_get flow.functions f) (slice_get graphs f) (at f) (λ g r. o.graphs f function g e r) graph q;
      globals = o.globals;
      main = o.main;
      runs = record {
        same = λ input numbers. subst (Same (source p input)) (sym (runs input numbers)) (o.runs.same input numbers);
        never_wrong = λ input numbers. subst NeverFails (sym (runs input numbers)) (o.runs.never_wrong input numbers);
      };
    }
