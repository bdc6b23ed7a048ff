-- Paths of words, and words that come too early on them. Places of words are of any type P, registers of any type R.
use Rattle.std.specs.Prelude.{ℕ, ◌+◌, ◌≤◌}

-- a path of one step or more from the word at p to that at q, with the cycles from the issue of p to the issue of q
pub data After {P : Type 0} (Leads : P → P → Type 0) (cycles : P → ℕ) (p : P) : ℕ → P → Type 0 where
  first : {q : P} → Leads p q → After Leads cycles p (cycles p) q
  more : {c : ℕ} {q u : P} → After Leads cycles p c q → Leads q u → After Leads cycles p (c + cycles q) u

-- on no path does a word touch a register that an earlier word wrote with latency l fewer than l cycles before
abbrev pub NeverEarly : {P R : Type 0} → (P → P → Type 0) → (P → ℕ) → (P → R → Type 0) → (P → R → ℕ → Type 0) → Type 0
NeverEarly {P} {R} Leads cycles Touches Writes = (p q : P) (r : R) (l c : ℕ) → Writes p r l → After Leads cycles p c q → Touches q r → l ≤ c

-- the places of the paths that begin at a place, that place included
pub data Reached {P : Type 0} (Leads : P → P → Type 0) (start : P) : P → Type 0 where
  here : Reached Leads start start
  beyond : {p q : P} → Reached Leads start p → Leads p q → Reached Leads start q

-- the same on the paths that begin at a place alone
abbrev pub NeverEarlyFrom : {P R : Type 0} → P → (P → P → Type 0) → (P → ℕ) → (P → R → Type 0) → (P → R → ℕ → Type 0) → Type 0
NeverEarlyFrom {P} {R} start Leads cycles Touches Writes =
    (p q : P) (r : R) (l c : ℕ) → Reached Leads start p → Writes p r l → After Leads cycles p c q → Touches q r → l ≤ c
