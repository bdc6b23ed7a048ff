-- A machine of words whose writes land late, and the same machine with every write landing at once. What a
-- word does depends on the registers R → N and on the rest of the state, C.
use Rattle.std.specs.Prelude.{ℕ, zero, suc, ◌+◌, Bool, List, [], ◌∷◌, ◌++◌}
use Rattle.vx_base.specs.Flight.{Write, written, landed_in, flying_in}
use Rattle.vx_base.specs.Outcome.{Outcome, Step}

-- what an operation of a word gives to a register: a number that lands within its latency, for which the timing is
-- asked; a number that is there at the next word, for which it is not asked; or a number that is asked for and lost
pub data Given (R N : Type 0) : Type 0 where
  Lands : (to : R) → (number : N) → (latency : ℕ) → Given R N
  AtOnce : (to : R) → (number : N) → Given R N
  Lost : Given R N

-- a word ends the run; or it gives to registers, changes the rest, and takes so many cycles, one or more
pub data Next (R N C O : Type 0) : Type 0 where
  Over : O → Next R N C O
  On : List (Given R N) → C → (cycles : ℕ) → Next R N C O

-- for how many operations the timing is asked
abbrev pub asked_by : {R N : Type 0} → List (Given R N) → ℕ
asked_by [] = 0
asked_by (Lands r x l ∷ gs) = suc (asked_by gs)
asked_by (AtOnce r x ∷ gs) = asked_by gs
asked_by (Lost ∷ gs) = suc (asked_by gs)

-- the writes in flight, from the i-th asking on
abbrev pub delayed : {R N : Type 0} → (ℕ → ℕ → ℕ) → ℕ → List (Given R N) → List (Write R N)
delayed time i [] = []
delayed time i (Lands r x l ∷ gs) = record { to = r; number = x; left = time i l } ∷ delayed time (suc i) gs
delayed time i (AtOnce r x ∷ gs) = record { to = r; number = x; left = 1 } ∷ delayed time i gs
delayed time i (Lost ∷ gs) = delayed time (suc i) gs

-- the machine before a word: how often the timing was asked so far is part of it
pub record Moment (R N C : Type 0) : Type 0 where
  pub registers : R → N
  pub flight : List (Write R N)
  pub asked : ℕ
  pub rest : C

-- after a word that went on
abbrev pub issued : {R N C : Type 0} → (R → R → Bool) → (ℕ → ℕ → ℕ) → Moment R N C → List (Given R N) → C → ℕ → Moment R N C
issued same time m gs c cycles = record {
  registers = landed_in same cycles m.registers (m.flight ++ delayed time m.asked gs);
  flight = flying_in cycles (m.flight ++ delayed time m.asked gs);
  asked = m.asked + asked_by gs;
  rest = c;
}

abbrev pub next_then : {R N C O P : Type 0} → (O → P) → (List (Given R N) → C → ℕ → P) → Next R N C O → P
next_then over on (Over o) = over o
next_then over on (On gs c cycles) = on gs c cycles

-- at most so many words, where a run that goes on comes to what `goes` says of the rest
abbrev pub timed : {R N C O : Type 0} → (R → R → Bool) → (C → O) → ((R → N) → C → Next R N C O) → (ℕ → ℕ → ℕ) → ℕ → Moment R N C → O
timed same goes step time zero m = goes m.rest
timed same goes step time (suc n) m = next_then (λ o. o) (λ gs c cycles. timed same goes step time n (issued same time m gs c cycles)) (step m.registers m.rest)

-- the same as a step machine, where runs come to outcomes
abbrev pub timed_next : {R N C : Type 0} → (R → R → Bool) → ((R → N) → C → Next R N C Outcome) → (ℕ → ℕ → ℕ) → Moment R N C → Step (Moment R N C)
timed_next same step time m = next_then Step.Over (λ gs c cycles. Step.On (issued same time m gs c cycles)) (step m.registers m.rest)

-- every write at once

-- the machine before a word with nothing in flight
pub record Quiet (R N C : Type 0) : Type 0 where
  pub registers : R → N
  pub rest : C

abbrev pub made : {R N : Type 0} → (R → R → Bool) → (R → N) → List (Given R N) → R → N
made same regs [] = regs
made same regs (Lands r x l ∷ gs) = made same (written same regs r x) gs
made same regs (AtOnce r x ∷ gs) = made same (written same regs r x) gs
made same regs (Lost ∷ gs) = made same regs gs

abbrev pub early : {R N C O : Type 0} → (R → R → Bool) → (C → O) → ((R → N) → C → Next R N C O) → ℕ → Quiet R N C → O
early same goes step zero q = goes q.rest
early same goes step (suc n) q = next_then (λ o. o) (λ gs c cycles. early same goes step n (record { registers = made same q.registers gs; rest = c })) (step q.registers q.rest)

abbrev pub early_next : {R N C : Type 0} → (R → R → Bool) → ((R → N) → C → Next R N C Outcome) → Quiet R N C → Step (Quiet R N C)
early_next same step q = next_then Step.Over (λ gs c cycles. Step.On (record { registers = made same q.registers gs; rest = c })) (step q.registers q.rest)
