-- The places of a trace in the order in which their operations are placed: greater heights first, and of equal heights the lower
-- place.
use Rattle.std.specs.Prelude.{◌≡◌, ◌<◌, ◌+◌, ◌-◌, ◌*◌, ◌&&◌, ℕ, Bool, cond, nat_lt, nat_eq, All, Option, Some, None, List, [], ◌∷◌, length, count_by}
use Rattle.std.specs.List.Sorted.{IsNonDecreasingBy}
use Rattle.vx_sched.specs.declared.height_order.Ranked.{Ranked}
use Rattle.vx_sched.specs.Filling.{word_in, is_without}

-- the number by which a place is sorted
abbrev pub rank_of : (height place : ℕ) → ℕ
rank_of height place = (4294967295 - height) * 4294967296 + place

pub record IsRanked (h : ℕ → ℕ) (r : Ranked) : Type 0 where
  pub is : r.rank ≡ rank_of (h r.place) r.place
  pub low : h r.place < 4294967296
  pub few : r.place < 4294967296

abbrev pub is_of : ℕ → Ranked → Bool
is_of p r = nat_eq r.place p

-- each of the first n places is there once
pub record AreRanked (h : ℕ → ℕ) (n : ℕ) (all : List Ranked) : Type 0 where
  pub ranks : All (IsRanked h) all
  pub once : (p : ℕ) → count_by (is_of p) all ≡ cond (nat_lt p n) 1 0

abbrev pub AreSorted : List Ranked → Type 0
AreSorted all = IsNonDecreasingBy (λ (r : Ranked). r.rank) all

-- each place whose operation has no word is there once, in order
pub record AreLeft (h : ℕ → ℕ) (words : List (Option ℕ)) (left : List Ranked) : Type 0 where
  pub ranks : All (IsRanked h) left
  pub once : (p : ℕ) → count_by (is_of p) left ≡ cond (nat_lt p (length words) && is_without (word_in words p)) 1 0
  pub sorted : AreSorted left

abbrev pub first_of : List Ranked → Option ℕ
first_of [] = None
first_of (r ∷ rs) = Some r.place
