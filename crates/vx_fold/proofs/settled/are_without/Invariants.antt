use Rattle.std.proofs.Common.{◌≡◌, take, true}
use Rattle.std.specs.List.{list_all}
use Rattle.vx_fold.specs.Folding.{no_number, numbers_of}
use Rattle.vx_fold.proofs.settled.are_without.Given as goal

abbrev pub invariant-loop-value : goal.invariant-loop-value
invariant-loop-value l = list_all (λ v. no_number (numbers_of l.numbers v)) (take l.value-index l.values) ≡ true
