-- What is done at each time on the way from an entrance to an exit: copies at a join, words, copies at a split.
use Rattle.std.specs.Prelude.{◌+◌, ◌-◌, ℕ, Bool, List, [], ◌∷◌, cond, nat_lt, nat_le, ◌&&◌}
use Rattle.vx_motion.specs.Trace.{nth}
use Rattle.vx_mixed.specs.declared.region.Item.{Item}
use Rattle.vx_motion.specs.Facts.{places}

abbrev pub one_if : Bool → ℕ → List ℕ
one_if b k = cond b (k ∷ []) []

-- what is done at a time: the copies at a join (n times), the words of the region up to w, the copies on the edge of the
-- split at place e (r is the rejoin word)
abbrev pub later : (ℕ → ℕ) → ℕ → ℕ → ℕ → ℕ → ℕ → List ℕ
later word n r w e j = cond (nat_le j w) (cond (nat_lt j r) [] (places word j 0 n)) (one_if (nat_lt w (word (j - (w + 1))) && nat_lt (j - (w + 1)) e) (j - (w + 1)))

abbrev pub at_time : (ℕ → ℕ) → ℕ → ℕ → ℕ → ℕ → ℕ → List ℕ
at_time word n r w e t = cond (nat_lt t n) (one_if (nat_lt (word t) r) t) (later word n r w e (t - n))

-- in the form of the region, but as in the trace on the edge of a split
abbrev pub form : List Item → (ℕ → Item) → ℕ → ℕ → ℕ → ℕ → Item
form is mark n w t k = cond (nat_le (n + (w + 1)) t) (nth is k) (mark k)
