-- The word machine where every write lands at the next word and none is in flight: what one word leaves.
use Rattle.std.proofs.Common.{◌≡◌, ◌≢◌, ℕ, zero, suc, ◌+◌, ◌%◌, ◌≤◌, min, max, ℤ, pos, Bool, true, false, Option, Some, None, List, [], ◌∷◌, ◌++◌, refl, sym, ap, ◌∙◌, subst, arith}
use Rattle.std.specs.Prelude.{if◌then◌else◌, slice_get, slice_index, drop, count_by, not, ◌&&◌}
use Rattle.std.specs.List.{list_any, flat_map}
use Rattle.vx_base.specs.Flight.{Write, lands_or, landed, flying, landing_time, written}
use Rattle.vx_base.specs.Outcome.{Step, On}
use Rattle.vx_base.proofs.Settle.{written_at, written_off}
use Rattle.vx_isa.specs.declared.operation.Register.{Register}
use Rattle.vx_isa.specs.declared.operation.Operation.{Operation}
use Rattle.vx_isa.specs.declared.program.Word.{Word}
use Rattle.vx_isa.specs.declared.program.WordProgram.{WordProgram}
use Rattle.vx_isa.specs.Numbers.{Numbers}
use Rattle.vx_isa.specs.Operations.{same, is_zero, destination_of, is_call, latency_of}
use Rattle.vx_isa.specs.Fits.{is_bad_word, fits}
use Rattle.vx_isa.specs.Machine.{State, number_of, write_to, time_of, writes_of, is_asked, asked_by, after_cycles, memory_after, takes_input, print_of, is_left, has_bad_address, stuck_by, cycles_of, effect, lead_of, To, leads_to, unless_stuck, issue, step}
use Rattle.vx_isa.proofs.AnyTiming.{tells}

-- every write lands at the next word
abbrev pub at_once : List ℕ
at_once = 1 ∷ []

-- what is read of a register
abbrev pub seen : (Register → ℤ) → Register → ℤ
seen regs r = if is_zero r then pos 0 else regs r

abbrev pub put_to : Option Register → ℤ → (Register → ℤ) → Register → ℤ
put_to None x regs = regs
put_to (Some r) x regs = if is_zero r then regs else written same regs r x

-- the registers after a word
abbrev pub given : State → ℕ → List Operation → (Register → ℤ) → Register → ℤ
given s size [] regs = regs
given s size (op ∷ ops) regs = given s size ops (put_to (destination_of op) (number_of size s op) regs)

pub put_at : (r : Register) (x : ℤ) (regs : Register → ℤ) → is_zero r ≡ false → seen (put_to (Some r) x regs) r ≡ x
put_at r x regs e = rw (e) (written_at ℤ same tells regs r x)

pub put_off : (r : Register) (x : ℤ) (regs : Register → ℤ) (q : Register) → (q ≢ r) → seen (put_to (Some r) x regs) q ≡ seen regs q
put_off r x regs q ne = by (is_zero r)
  where
    by : (b : Bool) → (if is_zero q then pos 0 else (if b then regs else written same regs r x) q) ≡ (if is_zero q then pos 0 else regs q)
    by true = refl
    by false = ap (λ z. if is_zero q then pos 0 else z) (written_off ℤ same tells regs r x q ne)

-- the state after a word that leads to a place
abbrev pub after : WordProgram → State → Word → (to : ℕ) → State
after w s word q = record {
  place = q;
  cycle = s.cycle + cycles_of word;
  registers = given s w.memory word.ops s.registers;
  flying = [];
  memory = memory_after s word.ops s.memory;
  input = drop (count_by takes_input word.ops) s.input;
  out = s.out ++ flat_map (print_of w s) word.ops;
  asked = s.asked + asked_by word.ops;
}

one_mod : (i : ℕ) → i % 1 ≡ 0
one_mod i = omega arith

time_once : (i l : ℕ) → landing_time at_once i l ≤ 1
time_once i l = let e : slice_index at_once (i % 1) ≡ 1 = ap (λ j. slice_index at_once j) (one_mod i) in subst (λ x. min l (max 1 x) ≤ 1) (sym e) (omega arith)

time_small : (m : Numbers) (i : ℕ) (op : Operation) → time_of m at_once i op ≤ 1
time_small m i op = by (is_call op)
  where
    by : (b : Bool) → (if b then 1 else landing_time at_once i (latency_of m op)) ≤ 1
    by true = omega arith
    by false = time_once i (latency_of m op)

now_or : {A : Type 0} (n : ℕ) (now : A) (later : ℕ → A) → n ≤ 1 → lands_or n now later ≡ now
now_or zero now later h = refl
now_or (suc zero) now later h = refl
now_or (suc (suc n)) now later h = absurd (omega arith)

write_lands : (d : Option Register) (x : ℤ) (left : ℕ) (us : List (Write Register ℤ)) (regs : Register → ℤ) → left ≤ 1 → landed same regs (write_to d x left ++ us) ≡ landed same (put_to d x regs) us
write_lands None x left us regs h = refl
write_lands (Some r) x left us regs h = by (is_zero r)
  where
    by : (b : Bool) → landed same regs ((if b then [] else record { to = r; number = x; left = left } ∷ []) ++ us) ≡ landed same (if b then regs else written same regs r x) us
    by true = refl
    by false = now_or left (landed same (written same regs r x) us) (λ n. landed same regs us) h

write_gone : (d : Option Register) (x : ℤ) (left : ℕ) (us : List (Write Register ℤ)) → left ≤ 1 → flying (write_to d x left ++ us) ≡ flying us
write_gone None x left us h = refl
write_gone (Some r) x left us h = by (is_zero r)
  where
    by : (b : Bool) → flying ((if b then [] else record { to = r; number = x; left = left } ∷ []) ++ us) ≡ flying us
    by true = refl
    by false = now_or left (flying us) (λ n. record { to = r; number = x; left = n } ∷ flying us) h

word_lands : (m : Numbers) (size : ℕ) (s : State) (i : ℕ) (ops : List Operation) (regs : Register → ℤ) → landed same regs (writes_of m at_once size s i ops) ≡ given s size ops regs
word_lands m size s i [] regs = refl
word_lands m size s i (op ∷ ops) regs =
    write_lands (destination_of op) (number_of size s op) (time_of m at_once i op) _ regs (time_small m i op)
    ∙ word_lands m size s (if is_asked op then i + 1 else i) ops (put_to (destination_of op) (number_of size s op) regs)

word_gone : (m : Numbers) (size : ℕ) (s : State) (i : ℕ) (ops : List Operation) → flying (writes_of m at_once size s i ops) ≡ []
word_gone m size s i [] = refl
word_gone m size s i (op ∷ ops) =
    write_gone (destination_of op) (number_of size s op) (time_of m at_once i op) _ (time_small m i op) ∙ word_gone m size s (if is_asked op then i + 1 else i) ops

-- with nothing in flight cycles change the time alone
pass : (n : ℕ) (s : State) → after_cycles n (record s { flying = [] }) ≡ record s { cycle = s.cycle + n; flying = [] }
pass zero s = let e : s.cycle ≡ s.cycle + 0 = omega arith in ap (λ c. record s { cycle = c; flying = [] }) e
pass (suc n) s = let e : (s.cycle + 1) + n ≡ s.cycle + suc n = omega arith in pass n (record s { cycle = s.cycle + 1 }) ∙ ap (λ c. record s { cycle = c; flying = [] }) e

cycles_some : (word : Word) → (n : ℕ) × (cycles_of word ≡ suc n)
cycles_some word = by word.idle
  where
    by : (k : ℕ) → (n : ℕ) × (max 1 k ≡ suc n)
    by zero = (0, refl)
    by (suc k) = (k, omega arith)

-- one cycle and more land all that is in flight with one cycle left
lands : (n : ℕ) (s : State) (regs : Register → ℤ) → landed same s.registers s.flying ≡ regs → flying s.flying ≡ [] → after_cycles (suc n) s ≡ record s { cycle = s.cycle + suc n; registers = regs; flying = [] }
lands n s regs e f =
    let q : (s.cycle + 1) + n ≡ s.cycle + suc n = omega arith in
    ap (λ r. after_cycles n (record s { cycle = s.cycle + 1; registers = r; flying = flying s.flying })) e
    ∙ ap (λ ws. after_cycles n (record s { cycle = s.cycle + 1; registers = regs; flying = ws })) f
    ∙ pass n (record s { cycle = s.cycle + 1; registers = regs })
    ∙ ap (λ c. record s { cycle = c; registers = regs; flying = [] }) q

module _ (m : Numbers) (w : WordProgram) where
  pub effect_is : (s : State) (word : Word) → s.flying ≡ [] → effect m at_once w s word ≡ after w s word s.place
  effect_is s word calm =
      let c = cycles_some word in
      let f : s.flying ++ writes_of m at_once w.memory s s.asked word.ops ≡ writes_of m at_once w.memory s s.asked word.ops = ap (λ ws. ws ++ writes_of m at_once w.memory s s.asked word.ops) calm in
      let t : State = record s { flying = s.flying ++ writes_of m at_once w.memory s s.asked word.ops; memory = memory_after s word.ops s.memory; input = drop (count_by takes_input word.ops) s.input; out = s.out ++ flat_map (print_of w s) word.ops; asked = s.asked + asked_by word.ops } in
      ap (λ n. after_cycles n t) c.1
      ∙ lands c.0 t (given s w.memory word.ops s.registers) (ap (landed same s.registers) f ∙ word_lands m w.memory s s.asked word.ops s.registers) (ap flying f ∙ word_gone m w.memory s s.asked word.ops)
      ∙ ap (λ n. record t { cycle = s.cycle + n; registers = given s w.memory word.ops s.registers; flying = [] }) (sym c.1)

  -- every word is well formed and fits
  abbrev pub AllFit : Type 0
  AllFit = (p : ℕ) (word : Word) → slice_get w.words p ≡ Some word → (is_bad_word m word.ops ≡ false) × (fits m word.ops ≡ true)

  -- addresses are words of memory, and input is left where some is taken
  pub record Fine (s : State) (ops : List Operation) : Type 0 where
    pub addresses : list_any (has_bad_address w.memory s) ops ≡ false
    pub input : (list_any takes_input ops && not (is_left s.input)) ≡ false

  pub not_stuck : (s : State) (word : Word) → is_bad_word m word.ops ≡ false → fits m word.ops ≡ true → Fine s word.ops → stuck_by m w s word.ops ≡ None
  not_stuck s word a b f = rw (a, b, f.addresses, f.input) refl

  abbrev pub Going : State → Step State
  Going = step m at_once w

  pub word_goes : (s : State) (word : Word) (q : ℕ) → AllFit → s.flying ≡ [] → slice_get w.words s.place ≡ Some word → Fine s word.ops → lead_of s word.ops ≡ To q → Going s ≡ On (after w s word q)
  word_goes s word q fit calm at fine to =
      ap (issue m at_once w s) at
      ∙ ap (λ why. unless_stuck why s (leads_to (lead_of s word.ops) (effect m at_once w s word))) (not_stuck s word (fit s.place word at).0 (fit s.place word at).1 fine)
      ∙ ap (λ l. leads_to l (effect m at_once w s word)) to ∙ placed (effect m at_once w s word) (after w s word s.place) (effect_is s word calm)
    where
      placed : (a b : State) → a ≡ b → leads_to (To q) a ≡ leads_to (To q) b
      placed a b e = ap (leads_to (To q)) e
