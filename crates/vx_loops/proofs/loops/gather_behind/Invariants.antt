use Rattle.std.proofs.Common.{◌≡◌, ℕ, List}
use Rattle.vx_flow.specs.declared.graph.Graph.{Graph}
use Rattle.vx_loops.specs.Noted.{NotesOf, TablesOf}
use Rattle.vx_loops.proofs.loops.gather_behind.Given as goal

abbrev pub invariant-loop : goal.invariant-loop
invariant-loop l = record {
  number : l.loops.number ≡ l.initial.loops.number;
  tables : (g : Graph) → TablesOf g l.initial.loops → TablesOf g l.loops;
  notes : (members : List ℕ) → NotesOf l.blocks members l.initial.loops → (found : List ℕ) × NotesOf l.blocks found l.loops;
}
