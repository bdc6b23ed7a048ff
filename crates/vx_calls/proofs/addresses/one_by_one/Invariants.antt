-- what begins, and what is left
use Rattle.std.proofs.Common.{◌≡◌, ◌+◌, ◌++◌, drop}
use Rattle.vx_calls.specs.Globals.{begins_from, words_in}
use Rattle.vx_calls.proofs.addresses.one_by_one.Given as goal

abbrev pub invariant-loop-global : goal.invariant-loop-global
invariant-loop-global l = record {
  begins : l.begins ++ begins_from l.words (drop l.global-index l.globals) ≡ begins_from 0 l.globals;
  words : l.words + words_in (drop l.global-index l.globals) ≡ words_in l.globals;
}
