-- Writes in flight, and what cycles land of them. Registers are of any type R, told apart by a test `same`; what
-- they hold is of any type N.
use Rattle.std.specs.Prelude.{◌≤◌, ℕ, zero, suc, ◌%◌, Bool, List, [], ◌∷◌, cond, min, max, length, slice_index}

-- a write in flight: its register, its number, and the cycles until it lands, at least 1
pub record Write (R N : Type 0) : Type 0 where
  pub to : R
  pub number : N
  pub left : ℕ

-- the registers after a write
abbrev pub written : {R N : Type 0} → (R → R → Bool) → (R → N) → R → N → R → N
written same registers r x q = cond (same q r) x (registers q)

abbrev pub lands_or : {A : Type 0} → ℕ → A → (ℕ → A) → A
lands_or zero now later = now
lands_or (suc zero) now later = now
lands_or (suc (suc n)) now later = later (suc n)

-- the registers after one cycle: the writes with one cycle left land, in the order of their issue
abbrev pub landed : {R N : Type 0} → (R → R → Bool) → (R → N) → List (Write R N) → R → N
landed same registers [] = registers
landed same registers (w ∷ ws) = lands_or w.left (landed same (written same registers w.to w.number) ws) (λ n. landed same registers ws)

-- what is still in flight then, with one cycle less
abbrev pub flying : {R N : Type 0} → List (Write R N) → List (Write R N)
flying [] = []
flying (w ∷ ws) = lands_or w.left (flying ws) (λ n. record { to = w.to; number = w.number; left = n } ∷ flying ws)

-- the same after so many cycles
abbrev pub landed_in : {R N : Type 0} → (R → R → Bool) → ℕ → (R → N) → List (Write R N) → R → N
landed_in same zero registers ws = registers
landed_in same (suc n) registers ws = landed_in same n (landed same registers ws) (flying ws)

abbrev pub flying_in : {R N : Type 0} → ℕ → List (Write R N) → List (Write R N)
flying_in zero ws = ws
flying_in (suc n) ws = flying_in n (flying ws)

-- A timing answers, for the i-th operation of a run that asks and its latency, in how many cycles its write lands.

-- every write lands within its latency
abbrev pub InTime : (ℕ → ℕ → ℕ) → Type 0
InTime time = (i latency : ℕ) → 1 ≤ latency → (1 ≤ time i latency) × (time i latency ≤ latency)

-- the i-th number of a cyclic list, cut to 1 to the latency; the list is not empty
abbrev pub landing_time : List ℕ → ℕ → ℕ → ℕ
landing_time times i latency = min latency (max 1 (slice_index times (i % length times)))
