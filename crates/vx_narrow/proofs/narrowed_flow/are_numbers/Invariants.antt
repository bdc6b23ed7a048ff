-- the first numbers so far have 32 bits
use Rattle.std.proofs.Common.{◌≡◌, true, take}
use Rattle.vx_narrow.specs.Narrowing.{are_numbers}
use Rattle.vx_narrow.proofs.narrowed_flow.are_numbers.Given as goal

abbrev pub invariant-loop-global : goal.invariant-loop-global
invariant-loop-global l = are_numbers (take l.global-index l.globals) ≡ true
