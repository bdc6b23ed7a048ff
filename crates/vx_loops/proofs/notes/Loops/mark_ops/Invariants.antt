use Rattle.std.proofs.Common.{◌≡◌, ◌++◌, ℕ, Bool, List, take}
use Rattle.std.specs.List.{flat_map}
use Rattle.vx_flow.specs.declared.graph.Graph.{Graph}
use Rattle.vx_flow.specs.Effects.{writes}
use Rattle.vx_loops.specs.Noted.{Notes, stores_of, TablesOf}
use Rattle.vx_loops.proofs.notes.Loops.mark_ops.Given as goal

abbrev pub invariant-loop-op : goal.invariant-loop-op
invariant-loop-op l = record {
  number : l.self.number ≡ l.initial.self.number;
  tables : (g : Graph) → TablesOf g l.initial.self → TablesOf g l.self;
  notes : (m w s : List ℕ) (c : Bool) → Notes m w s c l.initial.self → Notes m (w ++ flat_map writes (take l.op-index l.ops)) (s ++ flat_map stores_of (take l.op-index l.ops)) c l.self;
}
