use Rattle.std.proofs.Common.{◌≡◌, take, map}
use Rattle.vx_base_tests.specs.Programs.{word_of}
use Rattle.vx_base_tests.proofs.programs.words.Given as goal

abbrev pub invariant-loop-ops : goal.invariant-loop-ops
invariant-loop-ops l = l.list ≡ map word_of (map (λ ops. ops.now) (take l.ops-index l.words))
