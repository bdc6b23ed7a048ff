use Rattle.std.proofs.Common.{◌≡◌, ◌++◌, drop}
use Rattle.vx_calls.specs.Saves.{saved_from}
use Rattle.vx_calls.proofs.saves.saved.Given as goal

abbrev pub invariant-loop-place : goal.invariant-loop-place
invariant-loop-place l = l.saved ++ saved_from l.living l.values l.place (drop l.place l.words) ≡ saved_from l.living l.values 0 l.words
