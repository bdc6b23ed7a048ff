-- what was found, and what is left
use Rattle.std.proofs.Common.{◌≡◌, ◌++◌, drop}
use Rattle.vx_calls.specs.Globals.{firsts_from}
use Rattle.vx_calls.proofs.addresses.firsts.Given as goal

abbrev pub invariant-loop-global : goal.invariant-loop-global
invariant-loop-global l = l.start ++ firsts_from l.words (drop l.global-index l.globals) ≡ firsts_from 0 l.globals
