-- A timing: a nonempty list of numbers and a place in it.
use Rattle.std.specs.Prelude.{◌≡◌, refl, ℕ, zero, suc, ◌+◌, ◌%◌, List, [], ◌∷◌, length, drop, slice_index}

pub record Times : Type 0 where
  pub first : ℕ
  pub others : List ℕ
  -- the place of the number that comes next, from 0
  pub place : ℕ

abbrev pub list_of : Times → List ℕ
list_of t = t.first ∷ t.others

-- the next place, and the first one behind the last
abbrev pub moved_on : Times → Times
moved_on t = record t { place = (t.place + 1) % length (list_of t) }

abbrev pub moved_by : ℕ → Times → Times
moved_by zero t = t
moved_by (suc n) t = moved_by n (moved_on t)

-- the list of one number
abbrev pub always : ℕ → Times
always n = record { first = n; others = []; place = 0 }

-- the list, which is not empty, at a place
abbrev pub cycling : List ℕ → ℕ → Times
cycling list p = record { first = slice_index list 0; others = drop 1 list; place = p }

-- behind the last number comes the first again
moves_round : (moved_by 3 (record { first = 4; others = 5 ∷ []; place = 1 })).place ≡ 0
moves_round = refl
