use Rattle.std.proofs.Common.{◌≡◌, ◌++◌, drop}
use Rattle.vx_claims.specs.Forming.{after_from, accessed_from}
use Rattle.vx_narrow.specs.Shortening.{improved_from}
use Rattle.vx_narrow.proofs.block_pass.pass_each.Given as goal

abbrev pub invariant-loop-op : goal.invariant-loop-op
invariant-loop-op l = record {
  facts : after_from l.arrays l.facts l.known (drop l.op-index l.ops) ≡ after_from l.arrays l.initial.facts l.initial.known l.ops;
  accesses : accessed_from l.arrays l.facts l.known (drop l.op-index l.ops) ≡ accessed_from l.arrays l.initial.facts l.initial.known l.ops;
  made : l.made ++ improved_from l.arrays l.all l.facts l.known (drop l.op-index l.ops) ≡ l.initial.made ++ improved_from l.arrays l.all l.initial.facts l.initial.known l.ops;
}
