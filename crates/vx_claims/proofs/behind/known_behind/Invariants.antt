use Rattle.std.proofs.Common.{◌≡◌, drop}
use Rattle.vx_claims.specs.Forming.{after_from, accessed_from}
use Rattle.vx_claims.proofs.behind.known_behind.Given as goal

abbrev pub invariant-loop-op : goal.invariant-loop-op
invariant-loop-op l = record {
  facts : after_from l.arrays l.facts l.known (drop l.op-index l.ops) ≡ after_from l.arrays l.claims l.accesses l.ops;
  accesses : accessed_from l.arrays l.facts l.known (drop l.op-index l.ops) ≡ accessed_from l.arrays l.claims l.accesses l.ops;
}
