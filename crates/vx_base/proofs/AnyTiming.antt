-- Where no word reads or writes a register in flight, a run under any timing is the run whose writes land at once.
use Rattle.std.proofs.Common.{◌≡◌, ◌≢◌, ℕ, zero, suc, Bool, List, [], ◌∷◌, ◌++◌, refl, sym, ap, ◌∙◌}
use Rattle.vx_base.specs.Outcome.{Outcome, Goes, Step, step_then, run}
use Rattle.vx_base.specs.Flight.{Write, written, flying_in}
use Rattle.vx_base.specs.Timed.{Given, Lands, AtOnce, Lost, Next, Over, On, delayed, Moment, issued, next_then, timed, timed_next, Quiet, made, early, early_next}
use Rattle.vx_base.proofs.Settle.{Tells, Without, Apart, settled, settles_in, apart_in, not_in_flight, without_append, settled_append, written_cong}

-- nothing is given to r
abbrev pub GivenWithout : {R N : Type 0} → R → List (Given R N) → Type 0
GivenWithout r [] = Unit {0}
GivenWithout r (Lands q x l ∷ gs) = (q ≢ r) × GivenWithout r gs
GivenWithout r (AtOnce q x ∷ gs) = (q ≢ r) × GivenWithout r gs
GivenWithout r (Lost ∷ gs) = GivenWithout r gs

-- no register is given two numbers
abbrev pub GivenApart : {R N : Type 0} → List (Given R N) → Type 0
GivenApart [] = Unit {0}
GivenApart (Lands q x l ∷ gs) = GivenWithout q gs × GivenApart gs
GivenApart (AtOnce q x ∷ gs) = GivenWithout q gs × GivenApart gs
GivenApart (Lost ∷ gs) = GivenApart gs

-- nothing is given to a register in flight
abbrev pub AllWithout : {R N : Type 0} → List (Given R N) → List (Write R N) → Type 0
AllWithout [] ws = Unit {0}
AllWithout (Lands q x l ∷ gs) ws = Without q ws × AllWithout gs ws
AllWithout (AtOnce q x ∷ gs) ws = Without q ws × AllWithout gs ws
AllWithout (Lost ∷ gs) ws = AllWithout gs ws

-- no word reads or writes a register that is in flight; `Calm` is kept by the words
pub record Calmly {R N C O : Type 0} (step : (R → N) → C → Next R N C O) (time : ℕ → ℕ → ℕ) (Reads : C → R → Type 0) (Calm : C → List (Write R N) → Type 0) : Type 0 where
  pub reads : (c : C) (ws : List (Write R N)) (r : R) → Calm c ws → Reads c r → Without r ws
  pub free : (c : C) (ws : List (Write R N)) (f : R → N) (gs : List (Given R N)) (d : C) (k : ℕ) → Calm c ws → step f c ≡ On gs d k → AllWithout gs ws
  pub apart : (c : C) (f : R → N) (gs : List (Given R N)) (d : C) (k : ℕ) → step f c ≡ On gs d k → GivenApart gs
  pub next : (c : C) (ws : List (Write R N)) (f : R → N) (gs : List (Given R N)) (d : C) (k i : ℕ) → Calm c ws → step f c ≡ On gs d k → Calm d (flying_in k (ws ++ delayed time i gs))
  pub alike : (c : C) (f g : R → N) → ((r : R) → Reads c r → f r ≡ g r) → step f c ≡ step g c

module _ {R N : Type 0} (same : R → R → Bool) (tells : Tells same) (time : ℕ → ℕ → ℕ) where
  without_delayed : (r : R) (i : ℕ) (gs : List (Given R N)) → GivenWithout r gs → Without r (delayed time i gs)
  without_delayed r i [] h = tt
  without_delayed r i (Lands q x l ∷ gs) h = (h.0, without_delayed r (suc i) gs h.1)
  without_delayed r i (AtOnce q x ∷ gs) h = (h.0, without_delayed r i gs h.1)
  without_delayed r i (Lost ∷ gs) h = without_delayed r (suc i) gs h

  apart_delayed : (i : ℕ) (gs : List (Given R N)) → GivenApart gs → Apart (delayed time i gs)
  apart_delayed i [] h = tt
  apart_delayed i (Lands q x l ∷ gs) h = (without_delayed q (suc i) gs h.0, apart_delayed (suc i) gs h.1)
  apart_delayed i (AtOnce q x ∷ gs) h = (without_delayed q i gs h.0, apart_delayed i gs h.1)
  apart_delayed i (Lost ∷ gs) h = apart_delayed (suc i) gs h

  other_way : (i : ℕ) (w : Write R N) (ws : List (Write R N)) (gs : List (Given R N)) → AllWithout gs (w ∷ ws) → Without w.to (delayed time i gs)
  other_way i w ws [] h = tt
  other_way i w ws (Lands q x l ∷ gs) h = ((λ e. h.0.0 (sym e)), other_way (suc i) w ws gs h.1)
  other_way i w ws (AtOnce q x ∷ gs) h = ((λ e. h.0.0 (sym e)), other_way i w ws gs h.1)
  other_way i w ws (Lost ∷ gs) h = other_way (suc i) w ws gs h

  rest_without : (w : Write R N) (ws : List (Write R N)) (gs : List (Given R N)) → AllWithout gs (w ∷ ws) → AllWithout gs ws
  rest_without w ws [] h = tt
  rest_without w ws (Lands q x l ∷ gs) h = (h.0.1, rest_without w ws gs h.1)
  rest_without w ws (AtOnce q x ∷ gs) h = (h.0.1, rest_without w ws gs h.1)
  rest_without w ws (Lost ∷ gs) h = rest_without w ws gs h

  apart_append : (i : ℕ) (ws : List (Write R N)) (gs : List (Given R N)) → Apart ws → GivenApart gs → AllWithout gs ws → Apart (ws ++ delayed time i gs)
  apart_append i [] gs a b h = apart_delayed i gs b
  apart_append i (w ∷ ws) gs a b h = (without_append N same tells w.to ws (delayed time i gs) a.0 (other_way i w ws gs h), apart_append i ws gs a.1 b (rest_without w ws gs h))

  settled_delayed : (i : ℕ) (gs : List (Given R N)) (f g : R → N) → ((s : R) → f s ≡ g s) → (s : R) → settled same f (delayed time i gs) s ≡ made same g gs s
  settled_delayed i [] f g h s = h s
  settled_delayed i (Lands q x l ∷ gs) f g h s = settled_delayed (suc i) gs (written same f q x) (written same g q x) (written_cong N same tells f g q x h) s
  settled_delayed i (AtOnce q x ∷ gs) f g h s = settled_delayed i gs (written same f q x) (written same g q x) (written_cong N same tells f g q x h) s
  settled_delayed i (Lost ∷ gs) f g h s = settled_delayed (suc i) gs f g h s

  module _ {C O : Type 0} (goes : C → O) (step : (R → N) → C → Next R N C O) (Reads : C → R → Type 0) (Calm : C → List (Write R N) → Type 0) (calmly : Calmly step time Reads Calm) where
    -- a machine with writes in flight, and one that has them all made
    pub record Tied (m : Moment R N C) (q : Quiet R N C) : Type 0 where
      pub rest : m.rest ≡ q.rest
      pub calm : Calm m.rest m.flight
      pub apart : Apart m.flight
      pub registers : (s : R) → settled same m.registers m.flight s ≡ q.registers s

    abbrev Equal : ℕ → Type 0
    Equal n = (m : Moment R N C) (q : Quiet R N C) → Tied m q → timed same goes step time n m ≡ early same goes step n q

    tied_next : (m : Moment R N C) (q : Quiet R N C) (gs : List (Given R N)) (d : C) (k : ℕ) → Tied m q → step m.registers m.rest ≡ On gs d k → Tied (issued same time m gs d k) (record { registers = made same q.registers gs; rest = d })
    tied_next m q gs d k t e =
        let a : Apart (m.flight ++ delayed time m.asked gs) = apart_append m.asked m.flight gs t.apart (calmly.apart m.rest m.registers gs d k e) (calmly.free m.rest m.flight m.registers gs d k t.calm e) in
        record {
          rest = refl;
          calm = calmly.next m.rest m.flight m.registers gs d k m.asked t.calm e;
          apart = apart_in N same tells k (m.flight ++ delayed time m.asked gs) a;
          registers = λ s.
              settles_in N same tells k (m.flight ++ delayed time m.asked gs) a m.registers s
              ∙ ap (λ h. h s) (settled_append N same tells m.flight (delayed time m.asked gs) m.registers)
              ∙ settled_delayed m.asked gs (settled same m.registers m.flight) q.registers t.registers s;
        }

    -- both do the same next
    same_next : (m : Moment R N C) (q : Quiet R N C) → Tied m q → step m.registers m.rest ≡ step q.registers q.rest
    same_next m q t =
        calmly.alike m.rest m.registers q.registers (λ r rd. sym (not_in_flight N same tells m.flight m.registers r (calmly.reads m.rest m.flight r t.calm rd)) ∙ t.registers r)
        ∙ ap (step q.registers) t.rest

    after_next : (n : ℕ) (m : Moment R N C) (q : Quiet R N C) → Equal n → Tied m q → (x : Next R N C O) → step m.registers m.rest ≡ x →
        next_then (λ o. o) (λ gs c cycles. timed same goes step time n (issued same time m gs c cycles)) x ≡ next_then (λ o. o) (λ gs c cycles. early same goes step n (record { registers = made same q.registers gs; rest = c })) x
    after_next n m q hyp t (Over o) e = refl
    after_next n m q hyp t (On gs d k) e = hyp (issued same time m gs d k) (record { registers = made same q.registers gs; rest = d }) (tied_next m q gs d k t e)

    -- under any timing the run is the early one
    pub any_timing : (n : ℕ) (m : Moment R N C) (q : Quiet R N C) → Tied m q → timed same goes step time n m ≡ early same goes step n q
    any_timing zero m q t = ap goes t.rest
    any_timing (suc n) m q t =
        after_next n m q (any_timing n) t (step m.registers m.rest) refl
        ∙ ap (next_then (λ o. o) (λ gs c cycles. early same goes step n (record { registers = made same q.registers gs; rest = c }))) (same_next m q t)

-- runs to outcomes are those of the step machines
module _ {R N C : Type 0} (same : R → R → Bool) (out : C → List ℕ) (step : (R → N) → C → Next R N C Outcome) where
  timed_then : (time : ℕ → ℕ → ℕ) (n : ℕ) (m : Moment R N C) → ((k : Moment R N C) → timed same (λ c. Goes (out c)) step time n k ≡ run (timed_next same step time) (λ k. out k.rest) n k) → (x : Next R N C Outcome) →
      next_then (λ o. o) (λ gs c cycles. timed same (λ c. Goes (out c)) step time n (issued same time m gs c cycles)) x ≡ step_then (run (timed_next same step time) (λ k. out k.rest) n) (next_then Step.Over (λ gs c cycles. Step.On (issued same time m gs c cycles)) x)
  timed_then time n m h (Over o) = refl
  timed_then time n m h (On gs d k) = h (issued same time m gs d k)

  pub timed_is_run : (time : ℕ → ℕ → ℕ) (n : ℕ) (m : Moment R N C) → timed same (λ c. Goes (out c)) step time n m ≡ run (timed_next same step time) (λ k. out k.rest) n m
  timed_is_run time zero m = refl
  timed_is_run time (suc n) m = timed_then time n m (timed_is_run time n) (step m.registers m.rest)

  early_then : (n : ℕ) (q : Quiet R N C) → ((k : Quiet R N C) → early same (λ c. Goes (out c)) step n k ≡ run (early_next same step) (λ k. out k.rest) n k) → (x : Next R N C Outcome) →
      next_then (λ o. o) (λ gs c cycles. early same (λ c. Goes (out c)) step n (record { registers = made same q.registers gs; rest = c })) x ≡ step_then (run (early_next same step) (λ k. out k.rest) n) (next_then Step.Over (λ gs c cycles. Step.On (record { registers = made same q.registers gs; rest = c })) x)
  early_then n q h (Over o) = refl
  early_then n q h (On gs d k) = h (record { registers = made same q.registers gs; rest = d })

  pub early_is_run : (n : ℕ) (q : Quiet R N C) → early same (λ c. Goes (out c)) step n q ≡ run (early_next same step) (λ k. out k.rest) n q
  early_is_run zero q = refl
  early_is_run (suc n) q = early_then n q (early_is_run n) (step q.registers q.rest)
