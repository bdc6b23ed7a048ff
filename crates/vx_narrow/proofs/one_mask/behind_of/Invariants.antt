use Rattle.std.proofs.Common.{◌≡◌, drop}
use Rattle.vx_narrow.specs.Masking.{behind_of}
use Rattle.vx_narrow.proofs.one_mask.behind_of.Given as goal

abbrev pub invariant-loop-fact : goal.invariant-loop-fact
invariant-loop-fact l = behind_of (drop l.fact-index l.facts) l.of l.mask ≡ behind_of l.facts l.of l.mask
