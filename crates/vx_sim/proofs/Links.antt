-- The link of a call.
use Rattle.std.proofs.Common.{◌≡◌, ℕ, ◌+◌, ◌<◌, ◌^◌, pos, ◌+ℤ◌, sym, ap, ◌∙◌, to_z, w32}
use Rattle.std.proofs.lemmas.Int.{int_wrap-add_left}
use Rattle.vx_base.specs.Arithmetic.{sum_of, wrap}
use Rattle.vx_base.proofs.WrapLaws.{wrap-below}

-- the following place, read as a number
pub link_is : (p : ℕ) → p < 2 ^ 32 → sum_of (to_z w32 p) (pos 1) ≡ wrap (pos (p + 1))
unfolding sum_of
link_is p lt = ap (λ z. wrap (z +ℤ pos 1)) (sym (wrap-below p lt)) ∙ int_wrap-add_left w32 (pos p) (pos 1)
