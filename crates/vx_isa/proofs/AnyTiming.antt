-- Where no word reads or writes a register early on any path, a program runs alike under every timing, and no run reads a
-- register in flight.
use Rattle.std.proofs.Common.{◌≡◌, ◌≢◌, ℕ, zero, suc, ◌+◌, ◌≤◌, ℤ, Bool, true, false, Option, Some, None, List, [], ◌∷◌, ◌++◌, refl, sym, ap, ◌∙◌, subst, arith, ⊎_elim, inl, inr}
use Rattle.std.specs.Prelude.{◌⊎◌, ◌&&◌, ◌||◌, if◌then◌else◌, slice_get, drop, count_by}
use Rattle.std.specs.List.{list_any, flat_map}
use Rattle.std.proofs.lemmas.Bool.{eqb-true, true≢false, false≢true}
use Rattle.std.proofs.lemmas.Bool.Decides.{nat_tests}
use Rattle.std.specs.Prelude.{is_some, eqb, length, slice_index_or, ◌<◌, Contains}
use Rattle.vx_base.specs.declared.outcome.Reason.{Reason}
use Rattle.vx_base.specs.declared.outcome.Reason.TheVariants.{BadTarget, BadWord}
use Rattle.vx_base.specs.Outcome.{Ends, Traps, Stuck, Step, On, Over}
use Rattle.vx_base.specs.Flight.{Write, landing_time, landed, flying, landed_in, flying_in}
use Rattle.vx_base.specs.Paths.{Reached, beyond, here}
use Rattle.vx_base.proofs.Runs.{StepsTied, run_in_step}
use Rattle.vx_base.proofs.Settle.{Tells, Without, Apart}
use Rattle.vx_base.proofs.Flight.{Each}
use Rattle.vx_base.proofs.Certificate.{landing_in_time}
use Rattle.vx_base.proofs.InFlight.{Due, MadeOrAtOnce, due_issue, due_without}
use Rattle.vx_base.proofs.TwoTimings.{FlightsTied, tied_read, tied_issue}
use Rattle.vx_isa.proofs.Ranges.{latency_range}
use Rattle.vx_isa.specs.declared.operation.Register.{Register}
use Rattle.vx_isa.specs.declared.operation.Register.TheVariants.{General, Branch, Link}
use Rattle.vx_isa.specs.declared.operation.Operation.{Operation}
use Rattle.vx_isa.specs.declared.operation.Operation.TheVariants.{Compute, Move, Select, Load, Store, Input, More, OutText, OutDecimal, OutByte, Goto, BranchOn, Call, Return, FromLink, ToLink, EndByTrap, Halt}
use Rattle.vx_isa.specs.declared.program.Word.{Word}
use Rattle.vx_isa.specs.declared.program.WordProgram.{WordProgram}
use Rattle.vx_isa.specs.Numbers.{Numbers, IsMachine}
use Rattle.vx_isa.specs.Operations.{same, is_zero, destination_of, list_of, is_call, latency_of}
use Rattle.vx_isa.specs.Fits.{operands, destinations, is_twice, is_bad_word, fits}
use Rattle.vx_isa.specs.Machine.{State, Lead, To, Halts, TrapsBy, number_of, write_to, time_of, writes_of, is_asked, asked_by, takes_input, memory_after, print_of, lead_of, is_taken, register, stuck_by, cycles_of, after_cycles, effect, leads_to, unless_stuck, issue, step, start, issuing_machine, words_from}
use Rattle.vx_isa.specs.Paths.{LeadsTo, WordAt, Leads, cycles_at, cycles_of_some, Among, ReadsAt, WritesAt, NamesAt, NeverReadsEarly, NeverWritesEarly, PathStrictLaw, AnyTimingLaw}
use Rattle.vx_isa.specs.Strict.{Reaches, IsPending}
use Rattle.vx_isa.proofs.IssuingMachine.{issuing_machine_law, reads_for, names_for}
use Rattle.vx_isa.proofs.Alike.{AllAgree, SameRest, stuck_alike, lead_alike, memory_alike, prints_alike, writes_alike}

-- whether a step goes on, and its state, or another where it does not

abbrev is_on : Step State → Bool
is_on (On s) = true
is_on (Over o) = false

abbrev state_of : State → Step State → State
state_of d (On s) = s
state_of d (Over o) = d

and_left : (a b : Bool) → (a && b) ≡ true → a ≡ true
and_left true b e = refl
and_left false b e = e

and_right : (a b : Bool) → (a && b) ≡ true → b ≡ true
and_right true b e = e
and_right false b e = absurd (cc)

or_left : (a b : Bool) → (a || b) ≡ false → a ≡ false
or_left true b e = e
or_left false b e = refl

or_right : (a b : Bool) → (a || b) ≡ false → b ≡ false
or_right true b e = absurd (cc)
or_right false b e = e

same_true : (r s : Register) → same r s ≡ true → r ≡ s
same_true (General r) (General q) e =
    ap (λ c. General (record { cluster = c; number = r.number })) (eqb-true r.cluster q.cluster (and_left _ _ e)) ∙ ap (λ n. General (record { cluster = q.cluster; number = n })) (eqb-true r.number q.number (and_right (eqb r.cluster q.cluster) _ e))
same_true (General r) (Branch q) e = cc
same_true (General r) Link e = cc
same_true (Branch r) (General q) e = cc
same_true (Branch r) (Branch q) e =
    ap (λ c. Branch (record { cluster = c; number = r.number })) (eqb-true r.cluster q.cluster (and_left _ _ e)) ∙ ap (λ n. Branch (record { cluster = q.cluster; number = n })) (eqb-true r.number q.number (and_right (eqb r.cluster q.cluster) _ e))
same_true (Branch r) Link e = cc
same_true Link (General q) e = cc
same_true Link (Branch q) e = cc
same_true Link Link e = refl

eqb_self : (n : ℕ) → eqb n n ≡ true
eqb_self n = grind (arith, nat_tests)

both_self : (a b : ℕ) → (eqb a a && eqb b b) ≡ true
both_self a b = rw (eqb_self a, eqb_self b) refl

same_self : (r : Register) → same r r ≡ true
same_self (General r) = both_self r.cluster r.number
same_self (Branch r) = both_self r.cluster r.number
same_self Link = refl

pub tells : Tells same
tells = record { equal = same_true; itself = same_self }

-- what cycles leave
record After (s : State) (n : ℕ) (t : State) : Type 0 where
  place : t.place ≡ s.place
  memory : t.memory ≡ s.memory
  input : t.input ≡ s.input
  out : t.out ≡ s.out
  registers : t.registers ≡ landed_in same n s.registers s.flying
  flying : t.flying ≡ flying_in n s.flying

after : (n : ℕ) (s : State) → After s n (after_cycles n s)
after zero s = record { place = refl; memory = refl; input = refl; out = refl; registers = refl; flying = refl }
after (suc n) s =
    let a = after n (record s { cycle = s.cycle + 1; registers = landed same s.registers s.flying; flying = flying s.flying }) in
    record { place = a.place; memory = a.memory; input = a.input; out = a.out; registers = a.registers; flying = a.flying }

-- where a word leads is where it can lead
lead_can : (s : State) (q : ℕ) (ops : List Operation) → lead_of s ops ≡ To q → LeadsTo ops s.place q
lead_can s q [] e = cc
lead_can s q (Compute k code to a b ∷ ops) e = lead_can s q ops e
lead_can s q (Move k to a ∷ ops) e = lead_can s q ops e
lead_can s q (Select k to u a b ∷ ops) e = lead_can s q ops e
lead_can s q (Load k to o r d ∷ ops) e = lead_can s q ops e
lead_can s q (Store k o r a ∷ ops) e = lead_can s q ops e
lead_can s q (Input to ∷ ops) e = lead_can s q ops e
lead_can s q (More to ∷ ops) e = lead_can s q ops e
lead_can s q (OutText n ∷ ops) e = lead_can s q ops e
lead_can s q (OutDecimal a ∷ ops) e = lead_can s q ops e
lead_can s q (OutByte a ∷ ops) e = lead_can s q ops e
lead_can s q (Goto p ∷ ops) e = cc
lead_can s q (BranchOn u w p ∷ ops) e = by (is_taken w (register s (Branch (record { cluster = 0; number = u })))) (lead_of s ops) e (lead_can s q ops)
  where
    by : (b : Bool) (l : Lead) → (if b then To p else l) ≡ To q → (l ≡ To q → LeadsTo ops s.place q) → (q ≡ p) ⊎ LeadsTo ops s.place q
    by true l e more = inl (cc)
    by false l e more = inr (more e)
lead_can s q (Call p ∷ ops) e = cc
lead_can s q (Return ∷ ops) e = tt
lead_can s q (FromLink to ∷ ops) e = lead_can s q ops e
lead_can s q (ToLink a ∷ ops) e = lead_can s q ops e
lead_can s q (EndByTrap k ∷ ops) e = cc
lead_can s q (Halt a ∷ ops) e = cc

all_agree : (s t : State) (rs : List Register) → ((r : Register) → Among r rs → is_zero r ≡ false → s.registers r ≡ t.registers r) → AllAgree s t rs
all_agree s t [] h = tt
all_agree s t (r ∷ rs) h = (h r (inl refl), all_agree s t rs (λ q i. h q (inr i)))

-- the writes of a word, one by one
module _ (m : Numbers) (times : List ℕ) (size : ℕ) (s : State) (P : Write Register ℤ → Type 0) where
  abbrev EachOf : List Operation → Type 0
  EachOf ops = (op : Operation) → Among op ops → (r : Register) → destination_of op ≡ Some r → is_zero r ≡ false → (x : ℤ) (i : ℕ) → P (record { to = r; number = x; left = time_of m times i op })

  one : (d : Option Register) (x : ℤ) (left : ℕ) (us : List (Write Register ℤ)) → ((r : Register) → d ≡ Some r → is_zero r ≡ false → P (record { to = r; number = x; left = left })) → Each P us → Each P (write_to d x left ++ us)
  one None x left us h e = e
  one (Some r) x left us h e = by (is_zero r) (h r refl)
    where
      by : (b : Bool) → (b ≡ false → P (record { to = r; number = x; left = left })) → Each P ((if b then [] else record { to = r; number = x; left = left } ∷ []) ++ us)
      by true f = e
      by false f = (f refl, e)

  each_write : (i : ℕ) (ops : List Operation) → EachOf ops → Each P (writes_of m times size s i ops)
  each_write i [] h = tt
  each_write i (op ∷ ops) h =
      one (destination_of op) (number_of size s op) (time_of m times i op) _ (λ r e z. h op (inl refl) r e z (number_of size s op) i)
      (each_write (if is_asked op then i + 1 else i) ops (λ o a. h o (inr a)))

-- no register twice
module _ (m : Numbers) (times : List ℕ) (size : ℕ) (s : State) where
  not_one : (r : Register) (d : Option Register) (x : ℤ) (left : ℕ) (us : List (Write Register ℤ)) (rs : List Register) → list_any (same r) (list_of d ++ rs) ≡ false → (list_any (same r) rs ≡ false → Without r us) → Without r (write_to d x left ++ us)
  not_one r None x left us rs e h = h e
  not_one r (Some q) x left us rs e h = by (is_zero q)
    where
      not_it : (q ≡ r) → ⊥
      not_it f = let a : same r q ≡ false = or_left (same r q) _ e in let b : same r q ≡ true = ap (same r) f ∙ same_self r in cc

      by : (b : Bool) → Without r ((if b then [] else record { to = q; number = x; left = left } ∷ []) ++ us)
      by true = h (or_right (same r q) _ e)
      by false = (not_it, h (or_right (same r q) _ e))

  not_among : (r : Register) (i : ℕ) (ops : List Operation) → list_any (same r) (destinations ops) ≡ false → Without r (writes_of m times size s i ops)
  not_among r i [] e = tt
  not_among r i (op ∷ ops) e = not_one r (destination_of op) (number_of size s op) (time_of m times i op) _ (destinations ops) e (not_among r (if is_asked op then i + 1 else i) ops)

  apart_one : (d : Option Register) (x : ℤ) (left : ℕ) (us : List (Write Register ℤ)) (rs : List Register) → is_twice (list_of d ++ rs) ≡ false → ((r : Register) → list_any (same r) rs ≡ false → Without r us) → (is_twice rs ≡ false → Apart us) → Apart (write_to d x left ++ us)
  apart_one None x left us rs e f h = h e
  apart_one (Some q) x left us rs e f h = by (is_zero q)
    where
      by : (b : Bool) → Apart ((if b then [] else record { to = q; number = x; left = left } ∷ []) ++ us)
      by true = h (or_right (list_any (same q) rs) _ e)
      by false = (f q (or_left (list_any (same q) rs) _ e), h (or_right (list_any (same q) rs) _ e))

  writes_apart : (i : ℕ) (ops : List Operation) → is_twice (destinations ops) ≡ false → Apart (writes_of m times size s i ops)
  writes_apart i [] e = tt
  writes_apart i (op ∷ ops) e =
      apart_one (destination_of op) (number_of size s op) (time_of m times i op) _ (destinations ops) e (λ r h. not_among r (if is_asked op then i + 1 else i) ops h) (writes_apart (if is_asked op then i + 1 else i) ops)

named_left : (r : Register) (xs ys : List Register) → Among r xs → Among r (xs ++ ys)
named_left r [] ys a = absurd a
named_left r (x ∷ xs) ys a = ⊎_elim (λ e. inl e) (λ b. inr (named_left r xs ys b)) a

named_right : (r : Register) (xs ys : List Register) → Among r ys → Among r (xs ++ ys)
named_right r [] ys a = a
named_right r (x ∷ xs) ys a = inr (named_right r xs ys a)

names : (r : Register) (op : Operation) (ops : List Operation) → Among op ops → destination_of op ≡ Some r → Among r (destinations ops)
names r op [] a e = absurd a
names r op (o ∷ ops) a e = ⊎_elim
    (λ q. named_left r (list_of (destination_of o)) (destinations ops) (subst (λ d. Among r (list_of d)) (sym e ∙ ap destination_of q) (inl refl)))
    (λ b. named_right r (list_of (destination_of o)) (destinations ops) (names r op ops b e)) a

latencies : (m : Numbers) → IsMachine m → (op : Operation) (r : Register) → destination_of op ≡ Some r → is_call op ≡ false → 1 ≤ latency_of m op
latencies m one op r e c = (latency_range m one op (ap is_some e) c).least

among : {A : Type 0} (x : A) (xs : List A) (k : ℕ) → k < length xs → slice_index_or xs k x ≡ x → Among x xs
among x [] k lt e = absurd (omega arith)
among x (y ∷ ys) zero lt e = inl (sym e)
among x (y ∷ ys) (suc k) lt e = inr (among x ys k (omega arith) e)

module _ (m : Numbers) (w : WordProgram) (is_one : IsMachine m) where
  -- the writes in flight are due to words of a path
  abbrev pub Calm : State → Type 0
  Calm s = (word : Word) → WordAt w s.place word → Reached (Leads w) 0 s.place × Due 0 (Leads w) (cycles_at w) (WritesAt m w) s.place s.flying

  abbrev new_of : List ℕ → State → Word → List (Write Register ℤ)
  new_of times s word = writes_of m times w.memory s s.asked word.ops

  made : (times : List ℕ) (s : State) (word : Word) → WordAt w s.place word → Each (MadeOrAtOnce 0 (Leads w) (cycles_at w) (WritesAt m w) s.place) (new_of times s word)
  made times s word at = each_write m times w.memory s (MadeOrAtOnce 0 (Leads w) (cycles_at w) (WritesAt m w) s.place) s.asked word.ops (λ op a r e z x i. by op a r e z x i (is_call op) refl)
    where
      by : (op : Operation) → Among op word.ops → (r : Register) → destination_of op ≡ Some r → is_zero r ≡ false → (x : ℤ) (i : ℕ) (c : Bool) → is_call op ≡ c → MadeOrAtOnce 0 (Leads w) (cycles_at w) (WritesAt m w) s.place (record { to = r; number = x; left = if c then 1 else landing_time times i (latency_of m op) })
      by op a r e z x i true c = inr refl
      by op a r e z x i false c =
          let t = landing_in_time times i (latency_of m op) (latencies m is_one op r e c) in
          inl (record { latency = latency_of m op; wrote = (word, op, at, a, e, z, c, refl); some = t.0; lands = t.1 })

  -- after a word that leads to p
  calm_after : (times : List ℕ) (s : State) (word : Word) (p : ℕ) → Calm s → WordAt w s.place word → lead_of s word.ops ≡ To p → Calm (record (effect m times w s word) { place = p })
  calm_after times s word p calm at e = λ next there.
      let c = calm word at in
      let a = after (cycles_of word) (record s { flying = s.flying ++ new_of times s word; memory = memory_after s word.ops s.memory; input = drop (count_by takes_input word.ops) s.input; out = s.out ++ flat_map (print_of w s) word.ops; asked = s.asked + asked_by word.ops }) in
      let l : Leads w s.place p = (word, next, at, there, lead_can s p word.ops e) in
      let n : cycles_at w s.place ≡ cycles_of word = ap cycles_of_some at in
      (beyond c.0 l, subst (λ f. Due 0 (Leads w) (cycles_at w) (WritesAt m w) p f) (sym a.flying) (due_issue 0 (Leads w) (cycles_at w) (WritesAt m w) s.place p (cycles_of word) s.flying (new_of times s word) c.0 l n (omega arith) c.1 (made times s word at)))

  calm_lead : (times : List ℕ) (s u : State) (word : Word) → Calm s → WordAt w s.place word → (l : Lead) → lead_of s word.ops ≡ l → leads_to l (effect m times w s word) ≡ On u → Calm u
  calm_lead times s u word calm at (To p) f e = subst Calm (ap (state_of s) e) (calm_after times s word p calm at f)
  calm_lead times s u word calm at (Halts z) f e = absurd (false≢true (ap is_on e))
  calm_lead times s u word calm at (TrapsBy k) f e = absurd (false≢true (ap is_on e))

  calm_reason : (times : List ℕ) (s u : State) (word : Word) → Calm s → WordAt w s.place word → (x : Option Reason) → unless_stuck x s (leads_to (lead_of s word.ops) (effect m times w s word)) ≡ On u → Calm u
  calm_reason times s u word calm at None e = calm_lead times s u word calm at (lead_of s word.ops) refl e
  calm_reason times s u word calm at (Some why) e = absurd (false≢true (ap is_on e))

  calm_word : (times : List ℕ) (s u : State) → Calm s → (x : Option Word) → slice_get w.words s.place ≡ x → issue m times w s x ≡ On u → Calm u
  calm_word times s u calm None at e = absurd (false≢true (ap is_on e))
  calm_word times s u calm (Some word) at e = calm_reason times s u word calm at (stuck_by m w s word.ops) e

  calm_along : (times : List ℕ) (n : ℕ) (s t : State) → Calm s → Reaches m times w n s t → Calm t
  calm_along times zero s t calm r = subst Calm r calm
  calm_along times (suc n) s t calm r = calm_along times n r.0 t (calm_word times s r.0 calm (slice_get w.words s.place) refl r.1) r.2

  calm_start : (input : List ℤ) → Calm (start w input)
  calm_start input = λ word at. (here, tt)

  not_pending : (r : Register) (ws : List (Write Register ℤ)) (x : Write Register ℤ) → Without r ws → Among x ws → (x.to ≢ r)
  not_pending r [] x h a = absurd a
  not_pending r (w' ∷ ws) x h a = ⊎_elim (λ e q. h.0 (ap (λ z. z.to) (sym e) ∙ q)) (λ b. not_pending r ws x h.1 b) a

  -- no run reads a register in flight
  pub strict : NeverReadsEarly m w → (times : List ℕ) (input : List ℤ) (n : ℕ) (s : State) (word : Word) (r : Register) → Reaches m times w n (start w input) s → WordAt w s.place word →
      Contains (operands word.ops) r → is_zero r ≡ false → IsPending s r → ⊥
  strict never times input n s word r reach at named zero_not pending =
      let calm = calm_along times n (start w input) s (calm_start input) reach in
      let read : ReadsAt w s.place r = (word, at, among r (operands word.ops) named.0 named.1 named.2, zero_not) in
      let out = due_without 0 (Leads w) (cycles_at w) (WritesAt m w) (ReadsAt w) never s.place r s.flying read (calm word at).1 in
      not_pending r s.flying pending.0 out (among pending.0 s.flying pending.1.0 pending.1.1 pending.1.2) pending.2

  module _ (reads : NeverReadsEarly m w) (writes : NeverWritesEarly m w) where
    pub record Tied (s t : State) : Type 0 where
      pub rest : SameRest s t
      pub left : Calm s
      pub right : Calm t
      pub flights : FlightsTied same s.registers s.flying t.registers t.flying

    not_read : (s : State) (word : Word) (r : Register) → Calm s → WordAt w s.place word → Among r (operands word.ops) → is_zero r ≡ false → Without r s.flying
    not_read s word r calm at a z = due_without 0 (Leads w) (cycles_at w) (WritesAt m w) (ReadsAt w) reads s.place r s.flying (word, at, a, z) (calm word at).1

    not_named : (s : State) (word : Word) (r : Register) → Calm s → WordAt w s.place word → Among r (destinations word.ops) → is_zero r ≡ false → Without r s.flying
    not_named s word r calm at a z = due_without 0 (Leads w) (cycles_at w) (WritesAt m w) (NamesAt w) writes s.place r s.flying (word, at, a, z) (calm word at).1

    fresh : (times : List ℕ) (s : State) (word : Word) → Calm s → WordAt w s.place word → Each (λ n. Without n.to s.flying) (new_of times s word)
    fresh times s word calm at = each_write m times w.memory s (λ n. Without n.to s.flying) s.asked word.ops (λ op a r e z x i. not_named s word r calm at (names r op word.ops a e) z)

    module _ (times times' : List ℕ) where
      agree : (s t : State) (word : Word) → Tied s t → WordAt w s.place word → AllAgree s t (operands word.ops)
      agree s t word tied at = all_agree s t (operands word.ops) (λ r a z. tied_read same tells s.registers s.flying t.registers t.flying r tied.flights (not_read s word r tied.left at a z) (not_read t word r tied.right (subst (λ p. WordAt w p word) tied.rest.place at) a z))

      on_tied : (s t : State) (word : Word) (p : ℕ) → Tied s t → WordAt w s.place word → is_twice (destinations word.ops) ≡ false → lead_of s word.ops ≡ To p → lead_of t word.ops ≡ To p →
          Tied (record (effect m times w s word) { place = p }) (record (effect m times' w t word) { place = p })
      on_tied s t word p tied at once e f =
          let there : WordAt w t.place word = subst (λ q. WordAt w q word) tied.rest.place at in
          let ag = agree s t word tied at in
          let a = after (cycles_of word) (record s { flying = s.flying ++ new_of times s word; memory = memory_after s word.ops s.memory; input = drop (count_by takes_input word.ops) s.input; out = s.out ++ flat_map (print_of w s) word.ops; asked = s.asked + asked_by word.ops }) in
          let b = after (cycles_of word) (record t { flying = t.flying ++ new_of times' t word; memory = memory_after t word.ops t.memory; input = drop (count_by takes_input word.ops) t.input; out = t.out ++ flat_map (print_of w t) word.ops; asked = t.asked + asked_by word.ops }) in
          let fl = tied_issue same tells s.registers s.flying t.registers t.flying (new_of times s word) (new_of times' t word) (cycles_of word) tied.flights
          (writes_alike s t tied.rest m times times' w.memory s.asked t.asked word.ops ag)
          (writes_apart m times w.memory s s.asked word.ops once) (writes_apart m times' w.memory t t.asked word.ops once)
          (fresh times s word tied.left at) (fresh times' t word tied.right there) in
          let memory : memory_after s word.ops s.memory ≡ memory_after t word.ops t.memory = memory_alike s t tied.rest word.ops s.memory ag ∙ ap (memory_after t word.ops) tied.rest.memory in
          let out : s.out ++ flat_map (print_of w s) word.ops ≡ t.out ++ flat_map (print_of w t) word.ops = ap (λ o. o ++ flat_map (print_of w s) word.ops) tied.rest.out ∙ ap (λ o. t.out ++ o) (prints_alike s t tied.rest w word.ops ag) in
          record {
            rest = record {
              place = refl;
              memory = a.memory ∙ memory ∙ sym b.memory;
              input = a.input ∙ ap (drop (count_by takes_input word.ops)) tied.rest.input ∙ sym b.input;
              out = a.out ∙ out ∙ sym b.out;
            };
            left = calm_after times s word p tied.left at e;
            right = calm_after times' t word p tied.right there f;
            flights = subst (λ x. FlightsTied same x (effect m times w s word).flying (effect m times' w t word).registers (effect m times' w t word).flying) (sym a.registers)
                (subst (λ x. FlightsTied same (landed_in same (cycles_of word) s.registers (s.flying ++ new_of times s word)) x (effect m times' w t word).registers (effect m times' w t word).flying) (sym a.flying)
                (subst (λ x. FlightsTied same (landed_in same (cycles_of word) s.registers (s.flying ++ new_of times s word)) (flying_in (cycles_of word) (s.flying ++ new_of times s word)) x (effect m times' w t word).flying) (sym b.registers)
                (subst (λ x. FlightsTied same (landed_in same (cycles_of word) s.registers (s.flying ++ new_of times s word)) (flying_in (cycles_of word) (s.flying ++ new_of times s word)) (landed_in same (cycles_of word) t.registers (t.flying ++ new_of times' t word)) x) (sym b.flying) fl)));
          }

      out_alike : (s t : State) (word : Word) → Tied s t → WordAt w s.place word → (effect m times w s word).out ≡ (effect m times' w t word).out
      out_alike s t word tied at =
          let a = after (cycles_of word) (record s { flying = s.flying ++ new_of times s word; memory = memory_after s word.ops s.memory; input = drop (count_by takes_input word.ops) s.input; out = s.out ++ flat_map (print_of w s) word.ops; asked = s.asked + asked_by word.ops }) in
          let b = after (cycles_of word) (record t { flying = t.flying ++ new_of times' t word; memory = memory_after t word.ops t.memory; input = drop (count_by takes_input word.ops) t.input; out = t.out ++ flat_map (print_of w t) word.ops; asked = t.asked + asked_by word.ops }) in
          a.out ∙ ap (λ o. o ++ flat_map (print_of w s) word.ops) tied.rest.out ∙ ap (λ o. t.out ++ o) (prints_alike s t tied.rest w word.ops (agree s t word tied at)) ∙ sym b.out

      -- not stuck: no register twice
      well_formed : (s : State) (word : Word) → stuck_by m w s word.ops ≡ None → is_twice (destinations word.ops) ≡ false
      well_formed s word e = by (is_bad_word m word.ops) refl _ e
        where
          by : (b : Bool) → is_bad_word m word.ops ≡ b → (x : Option Reason) → (if b then Some BadWord else x) ≡ None → is_twice (destinations word.ops) ≡ false
          by true q x f = absurd (true≢false (ap is_some f))
          by false q x f = or_left (is_twice (destinations word.ops)) _ (or_left _ _ q)

      by_lead : (s t : State) (word : Word) → Tied s t → WordAt w s.place word → stuck_by m w s word.ops ≡ None → (l : Lead) → lead_of s word.ops ≡ l → lead_of t word.ops ≡ l →
          StepsTied Tied (leads_to l (effect m times w s word)) (leads_to l (effect m times' w t word))
      by_lead s t word tied at e (To p) f g = on_tied s t word p tied at (well_formed s word e) f g
      by_lead s t word tied at e (Halts z) f g = ap (Ends z) (out_alike s t word tied at)
      by_lead s t word tied at e (TrapsBy k) f g = ap (Traps k) (out_alike s t word tied at)

      by_reason : (s t : State) (word : Word) → Tied s t → WordAt w s.place word → (x : Option Reason) → stuck_by m w s word.ops ≡ x →
          StepsTied Tied (unless_stuck x s (leads_to (lead_of s word.ops) (effect m times w s word))) (unless_stuck x t (leads_to (lead_of t word.ops) (effect m times' w t word)))
      by_reason s t word tied at None e =
          let l : lead_of s word.ops ≡ lead_of t word.ops = lead_alike s t tied.rest word.ops (agree s t word tied at) in
          subst (λ x. StepsTied Tied (leads_to (lead_of s word.ops) (effect m times w s word)) (leads_to x (effect m times' w t word))) l
          (by_lead s t word tied at e (lead_of s word.ops) refl (sym l))
      by_reason s t word tied at (Some why) e = ap (λ p. Stuck why p s.out) tied.rest.place ∙ ap (Stuck why t.place) tied.rest.out

      by_word : (s t : State) → Tied s t → (x : Option Word) → slice_get w.words s.place ≡ x → StepsTied Tied (issue m times w s x) (issue m times' w t x)
      by_word s t tied None e = ap (λ p. Stuck BadTarget p s.out) tied.rest.place ∙ ap (Stuck BadTarget t.place) tied.rest.out
      by_word s t tied (Some word) e =
          subst (λ x. StepsTied Tied (unless_stuck (stuck_by m w s word.ops) s (leads_to (lead_of s word.ops) (effect m times w s word))) (unless_stuck x t (leads_to (lead_of t word.ops) (effect m times' w t word)))) (stuck_alike s t tied.rest m w word.ops (agree s t word tied e))
          (by_reason s t word tied e (stuck_by m w s word.ops) refl)

      steps : (s t : State) → Tied s t → StepsTied Tied (step m times w s) (step m times' w t)
      steps s t tied = subst (λ x. StepsTied Tied (step m times w s) (issue m times' w t x)) (ap (slice_get w.words) tied.rest.place) (by_word s t tied (slice_get w.words s.place) refl)

      at_start : (input : List ℤ) → Tied (start w input) (start w input)
      at_start input = record {
        rest = record { place = refl; memory = refl; input = refl; out = refl };
        left = λ word at. (here, tt);
        right = λ word at. (here, tt);
        flights = record { apart_left = tt; apart_right = tt; comes = λ q. refl };
      }

      -- under any two timings the runs are alike, word for word
      pub any_timing : (input : List ℤ) (n : ℕ) → words_from m times w n (start w input) ≡ words_from m times' w n (start w input)
      any_timing input n = run_in_step (step m times w) (λ s. s.out) (step m times' w) (λ s. s.out) Tied steps (λ s t tied. tied.rest.out) n (start w input) (start w input) (at_start input)

-- a word that fits, fits a machine
machine_of : (m : Numbers) (ops : List Operation) → fits m ops ≡ true → IsMachine m
machine_of m ops e = and_left _ _ (and_left _ _ (and_left _ _ (and_left _ _ (and_left _ _ e))))

pub path_strict_law : PathStrictLaw
path_strict_law m w path = record {
  fit = path.fit;
  never_early = λ times input n s word r some ranges reach at named zero_not pending.
      strict (issuing_machine w m) w (machine_of (issuing_machine w m) word.ops (path.fit s.place word at)) (reads_for w m path.never_early) times input n s word r reach at named zero_not pending;
}

pub any_timing_law : AnyTimingLaw
any_timing_law m w is_one reads writes times times' input n = any_timing (issuing_machine w m) w (issuing_machine_law w m is_one) (reads_for w m reads) (names_for w m writes) times times' input n
