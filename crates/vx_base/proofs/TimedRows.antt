-- Worked runs of timed words, of paths and of schedules, by computation.
use Rattle.std.proofs.Common.{◌≡◌, ℕ, zero, ◌+◌, ◌*◌, List, [], ◌∷◌, ◌++◌, cond, refl, pos, Option, Some, None}
use Rattle.std.specs.Prelude.{eqb, slice_get}
use Rattle.vx_base.specs.Outcome.{Outcome, Ends, Goes, Wrong}
use Rattle.vx_base.specs.Flight.{landed, flying, landing_time}
use Rattle.vx_base.specs.Timed.{Lands, AtOnce, Lost, Next, Over, On, timed, early}
use Rattle.vx_base.specs.Schedule.{leaving, through}

-- words over numbered registers
data Op : Type 0 where
  Move : (to number latency : ℕ) → Op
  Times : (to from by latency : ℕ) → Op
  Link : (to number : ℕ) → Op
  Forget : Op
  Print : ℕ → Op
  Halt : Op

record Place : Type 0 where
  at : ℕ
  out : List ℕ

abbrev step_of : (ℕ → ℕ) → Place → Option Op → Next ℕ ℕ Place Outcome
step_of f c None = Over (Wrong c.out)
step_of f c (Some (Move r x l)) = On (Lands r x l ∷ []) (record { at = c.at + 1; out = c.out }) 1
step_of f c (Some (Times r q x l)) = On (Lands r (f q * x) l ∷ []) (record { at = c.at + 1; out = c.out }) 1
step_of f c (Some (Link r x)) = On (AtOnce r x ∷ []) (record { at = c.at + 1; out = c.out }) 1
step_of f c (Some Forget) = On (Lost ∷ []) (record { at = c.at + 1; out = c.out }) 1
step_of f c (Some (Print r)) = On [] (record { at = c.at + 1; out = c.out ++ f r ∷ [] }) 1
step_of f c (Some Halt) = Over (Ends (pos 0) c.out)

abbrev step : List Op → (ℕ → ℕ) → Place → Next ℕ ℕ Place Outcome
step ops f c = step_of f c (slice_get ops c.at)

abbrev with_times : List Op → List ℕ → ℕ → Outcome
with_times ops times n = timed eqb (λ c. Goes c.out) (step ops) (landing_time times) n (record { registers = λ r. 0; flight = []; asked = 0; rest = record { at = 0; out = [] } })

abbrev at_once : List Op → ℕ → Outcome
at_once ops n = early eqb (λ c. Goes c.out) (step ops) n (record { registers = λ r. 0; rest = record { at = 0; out = [] } })

-- 7, times 5 by an operation of latency 2, printed at the next word: 35 where writes land early, 0 where they land late
abbrev product : List Op
product = Move 4 7 1 ∷ Times 3 4 5 2 ∷ Print 3 ∷ Halt ∷ []

product_early : with_times product (1 ∷ []) 4 ≡ Ends (pos 0) (35 ∷ [])
product_early = refl

product_late : with_times product (16 ∷ []) 4 ≡ Ends (pos 0) (0 ∷ [])
product_late = refl

product_at_once : at_once product 4 ≡ Ends (pos 0) (35 ∷ [])
product_at_once = refl

product_goes : with_times product (16 ∷ []) 3 ≡ Goes (0 ∷ [])
product_goes = refl

-- a write of latency 4, then one of latency 1 to the same register, read two words later
abbrev twice : List Op
twice = Move 3 8 4 ∷ Move 3 9 1 ∷ Move 4 0 1 ∷ Move 4 0 1 ∷ Print 3 ∷ Halt ∷ []

twice_early : with_times twice (1 ∷ []) 6 ≡ Ends (pos 0) (9 ∷ [])
twice_early = refl

twice_late : with_times twice (16 ∷ []) 6 ≡ Ends (pos 0) (8 ∷ [])
twice_late = refl

-- the times go round by the operations that ask: what is lost asks, a link does not
abbrev asking : List Op
asking = Forget ∷ Link 5 1 ∷ Move 3 6 3 ∷ Print 3 ∷ Halt ∷ []

asking_second : with_times asking (1 ∷ 3 ∷ []) 5 ≡ Ends (pos 0) (0 ∷ [])
asking_second = refl

asking_first : with_times asking (3 ∷ 1 ∷ []) 5 ≡ Ends (pos 0) (6 ∷ [])
asking_first = refl

-- two writes that land in one cycle are made in the order of their issue
in_order : landed {R = ℕ} {N = ℕ} eqb (λ r. 0) (record { to = 3; number = 8; left = 1 } ∷ record { to = 3; number = 9; left = 1 } ∷ []) 3 ≡ 9
in_order = refl

still_two : flying {R = ℕ} {N = ℕ} (record { to = 3; number = 8; left = 1 } ∷ record { to = 4; number = 9; left = 3 } ∷ []) ≡ record { to = 4; number = 9; left = 2 } ∷ []
still_two = refl

-- a time is cut to the range from 1 to the latency
cut_below : landing_time (0 ∷ []) 5 3 ≡ 1
cut_below = refl

cut_above : landing_time (1 ∷ 7 ∷ []) 5 3 ≡ 3
cut_above = refl

-- operations 0 to 5 in words 0, 0, 2, 3, 1, 4, where operation 2 is a split: left after word 2, operations 0, 1, 2 and 4
-- are done in their words, 3 and 5 never
abbrev word : ℕ → ℕ
word zero = 0
word k = cond (eqb k 1) 0 (cond (eqb k 2) 2 (cond (eqb k 3) 3 (cond (eqb k 4) 1 4)))

left_first : leaving word 2 2 4 ≡ 1
left_first = refl

left_never : leaving word 2 2 3 ≡ 6
left_never = refl

-- a split at 5 in word 2 leaves copies of 3 on the edge
left_copied : leaving word 2 5 3 ≡ 6
left_copied = refl

-- two operations below a join, in words 1 and 4, with rejoin word 4: the first is a copy, the second in its word
entered_copied : through (λ k. cond (eqb k 0) 1 4) 2 4 4 2 0 ≡ 0
entered_copied = refl

entered_later : through (λ k. cond (eqb k 0) 1 4) 2 4 4 2 1 ≡ 6
entered_later = refl
