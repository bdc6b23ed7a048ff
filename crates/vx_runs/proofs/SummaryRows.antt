-- The line of `soak` and the sum of bytes, worked out by hand.
use Rattle.std.proofs.Common.{◌≡◌, refl, [], ◌∷◌, codes}
use Rattle.std.specs.Fmt.{digits}
use Rattle.vx_runs.specs.Summary.{byte_sum, summary}

-- the line

a_line : summary 21 305 40 1979 0 4294967295 100000000 ≡ codes "functions 21 blocks 305 traces 40 words 1979 copies 0 sum 4294967295 issued 100000000\n"
unfolding digits
a_line = refl

-- the sum

of_nothing : byte_sum [] ≡ 0
of_nothing = refl

-- 45 + 49 + 10
of_a_line : byte_sum (codes "-1\n") ≡ 104
of_a_line = refl

past_the_end : byte_sum (4294967295 ∷ 2 ∷ []) ≡ 1
past_the_end = refl
