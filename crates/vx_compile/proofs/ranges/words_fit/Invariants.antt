-- What is left is all that can be wrong.
use Rattle.std.proofs.Common.{◌≡◌, true, length}
use Rattle.std.specs.List.{list_all}
use Rattle.vx_isa.specs.declared.program.Word.{Word}
use Rattle.vx_isa.specs.Range.{fits_operation}
use Rattle.vx_compile.proofs.ranges.words_fit.Given as goal

abbrev pub invariant-look : goal.invariant-look
invariant-look l = list_all (λ (word : Word). list_all fits_operation word.ops) l.rest ≡ true → list_all (λ (word : Word). list_all fits_operation word.ops) l.fn.words ≡ true

abbrev pub decreases-look : goal.decreases-look
decreases-look l = length l.rest
