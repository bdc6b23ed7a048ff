-- The tables of the writes in flight tell which words read early.
use Rattle.std.proofs.Common.{◌≡◌, ℕ, zero, suc, ◌+◌, ◌≤◌, Bool, true, false, not, ◌&&◌, ◌||◌, nat_lt, List, [], ◌∷◌, refl, subst, ap, ◌∙◌, arith, inl, inr, ltb-false}
use Rattle.std.specs.Prelude.{max}
use Rattle.std.specs.List.{list_any}
use Rattle.vx_tables.specs.Rows.{row_at}
use Rattle.vx_isa.specs.declared.operation.Register.{Register}
use Rattle.vx_isa.specs.declared.program.Word.{Word}
use Rattle.vx_isa.specs.declared.program.WordProgram.{WordProgram}
use Rattle.vx_isa.specs.Numbers.{Numbers}
use Rattle.vx_isa.specs.Operations.{is_zero}
use Rattle.vx_isa.specs.Fits.{fits, operands}
use Rattle.vx_isa.specs.Machine.{issuing_machine}
use Rattle.vx_base.specs.Paths.{After, Reached}
use Rattle.vx_isa.specs.Paths.{Among, Leads, ReadsAt, WordAt, WritesAt, cycles_at}
use Rattle.vx_check.specs.declared.verdict.Verdict.TheVariants.{Yes, Pending}
use Rattle.vx_check.specs.declared.in_flight.InFlight.{InFlight}
use Rattle.vx_check.specs.Checked.{AllFit, Checks, IsEarly, IsLowest}
use Rattle.vx_check.specs.InFlight.{AreDue, IsDue, IsHot, Tell, hot, is_hot, left_of}
use Rattle.vx_check.proofs.Entries.{Found, found}
use Rattle.vx_check.proofs.Reaches.{same_word, there_word}

-- which registers of a word are hot

record HotOf (row anywhere : List InFlight) (rs : List Register) : Type 0 where
  register : Register
  here : Among register rs
  is : is_hot row anywhere register ≡ true

any_hot : (row anywhere : List InFlight) (rs : List Register) → list_any (is_hot row anywhere) rs ≡ true → HotOf row anywhere rs
any_hot row anywhere [] h = absurd (cc)
any_hot row anywhere (r ∷ rs) h = by (is_hot row anywhere r) refl h (any_hot row anywhere rs)
  where
    by : (b : Bool) → is_hot row anywhere r ≡ b → (b || list_any (is_hot row anywhere) rs) ≡ true → (list_any (is_hot row anywhere) rs ≡ true → HotOf row anywhere rs) → HotOf row anywhere (r ∷ rs)
    by true e k more = record { register = r; here = inl refl; is = e }
    by false e k more = let x = more k in record { register = x.register; here = inr x.here; is = x.is }

none_by : (row anywhere : List InFlight) (s : Register) (rs : List Register) (r : Register) (b : Bool) → is_hot row anywhere s ≡ b → (b || list_any (is_hot row anywhere) rs) ≡ false → Among r (s ∷ rs) →
    (list_any (is_hot row anywhere) rs ≡ false → Among r rs → is_hot row anywhere r ≡ false) → is_hot row anywhere r ≡ false
none_by row anywhere s rs r true e k i rest = absurd (cc)
none_by row anywhere s rs r false e k (inl q) rest = ap (is_hot row anywhere) q ∙ e
none_by row anywhere s rs r false e k (inr i) rest = rest k i

none_hot : (row anywhere : List InFlight) (rs : List Register) (r : Register) → list_any (is_hot row anywhere) rs ≡ false → Among r rs → is_hot row anywhere r ≡ false
none_hot row anywhere [] r h a = absurd a
none_hot row anywhere (s ∷ rs) r h a = none_by row anywhere s rs r (is_hot row anywhere s) refl h a (none_hot row anywhere rs r)

hot_is : (row anywhere : List InFlight) (r : Register) → is_hot row anywhere r ≡ true → (is_zero r ≡ false) × (1 ≤ max (left_of row r) (left_of anywhere r))
hot_is row anywhere r h = by (is_zero r) (left_of row r) (left_of anywhere r) refl refl refl h
  where
    by : (z : Bool) (n k : ℕ) → is_zero r ≡ z → left_of row r ≡ n → left_of anywhere r ≡ k → (not z && (nat_lt 0 n || nat_lt 0 k)) ≡ true → (is_zero r ≡ false) × (1 ≤ max (left_of row r) (left_of anywhere r))
    by true n k e f g h = absurd (cc)
    by false (suc n) k e f g h = (e, omega arith)
    by false zero (suc k) e f g h = (e, omega arith)
    by false zero zero e f g h = absurd (cc)

-- a test that comes out false of a register that is no register 0
cold_by : (z a b : Bool) → z ≡ false → (not z && (a || b)) ≡ false → (a ≡ false) × (b ≡ false)
cold_by true a b e h = absurd (cc)
cold_by false true b e h = absurd (cc)
cold_by false false b e h = (refl, h)

cold_is : (row anywhere : List InFlight) (r : Register) → is_hot row anywhere r ≡ false → is_zero r ≡ false → 1 ≤ max (left_of row r) (left_of anywhere r) → ⊥
cold_is row anywhere r h z some =
    let none = cold_by (is_zero r) (nat_lt 0 (left_of row r)) (nat_lt 0 (left_of anywhere r)) z h in
    let a = ltb-false 0 (left_of row r) none.0 in
    let b = ltb-false 0 (left_of anywhere r) none.1 in
    absurd (omega arith)

module _ (w : WordProgram) (at : List (List InFlight)) (anywhere : List InFlight) (p : ℕ) (word : Word) (stands : WordAt w p word) where
  pub word_hot : list_any (is_hot (row_at at p) anywhere) (operands word.ops) ≡ true → IsHot w at anywhere p
  word_hot h =
      let x = any_hot (row_at at p) anywhere (operands word.ops) h in
      let y = hot_is (row_at at p) anywhere x.register x.is in
      (x.register, (word, stands, x.here, y.0), y.1)

  pub word_cold : list_any (is_hot (row_at at p) anywhere) (operands word.ops) ≡ false → IsHot w at anywhere p → ⊥
  word_cold h x =
      let e : x.1.0 ≡ word = same_word w p x.1.0 word x.1.1 stands in
      cold_is (row_at at p) anywhere x.0 (none_hot (row_at at p) anywhere (operands word.ops) x.0 h (subst (λ (z : Word). Among x.0 (operands z.ops)) e x.1.2)) x.1.3 x.2

-- hot words are those that read early

module _ (m : Numbers) (w : WordProgram) (at : List (List InFlight)) (anywhere : List InFlight) (tell : Tell m w at anywhere) (due : AreDue m w at anywhere) where
  due_early : (q : ℕ) (r : Register) (x : InFlight) → ReadsAt w q r → x.to ≡ r → IsDue m w q x → IsEarly m w q
  due_early q r x reads to d = record {
    writer = d.writer;
    register = r;
    latency = d.latency;
    since = d.since;
    reached = d.reached;
    writes = subst (λ z. WritesAt m w d.writer z d.latency) to d.writes;
    path = d.path;
    reads = reads;
    early = let a = d.some in let b = d.lands in omega arith;
  }

  hot_early : (q : ℕ) → IsHot w at anywhere q → IsEarly m w q
  hot_early q x = by (left_of (row_at at q) x.0) refl
    where
      by : (n : ℕ) → left_of (row_at at q) x.0 ≡ n → IsEarly m w q
      by (suc n) e = let f : Found x.0 (row_at at q) = found x.0 (row_at at q) (omega arith) in due_early q x.0 f.entry x.1 f.to_is (due.there q f.entry f.here)
      by zero e = let some = x.2 in let f : Found x.0 anywhere = found x.0 anywhere (omega arith) in due_early q x.0 f.entry x.1 f.to_is (due.everywhere q f.entry (there_word w.words q x.1.0 x.1.1) f.here)

  early_hot : (q : ℕ) → IsEarly m w q → IsHot w at anywhere q
  early_hot q e =
      let h : e.latency ≤ hot at anywhere q e.register + e.since = tell e.writer q e.register e.latency e.since e.reached e.writes e.path in
      let k = e.early in
      (e.register, e.reads, omega arith)

  pub checks_yes : AllFit m w → ((q : ℕ) → IsHot w at anywhere q → ⊥) → Checks m w Yes
  checks_yes fit cold = record {
    fit = λ p word stands. fitting p word stands (fits (issuing_machine w m) word.ops) refl;
    never_early = λ p q r l c reached writes path reads. late p q r l c reached writes path reads (hot at anywhere q r) refl;
  }
    where
      fitting : (p : ℕ) (word : Word) → WordAt w p word → (b : Bool) → fits (issuing_machine w m) word.ops ≡ b → fits (issuing_machine w m) word.ops ≡ true
      fitting p word stands true e = e
      fitting p word stands false e = absurd (fit p (word, stands, e))

      late : (p q : ℕ) (r : Register) (l c : ℕ) → Reached (Leads w) 0 p → WritesAt m w p r l → After (Leads w) (cycles_at w) p c q → ReadsAt w q r → (n : ℕ) → hot at anywhere q r ≡ n → l ≤ c
      late p q r l c reached writes path reads zero e = let h : l ≤ hot at anywhere q r + c = tell p q r l c reached writes path in omega arith
      late p q r l c reached writes path reads (suc n) e = absurd (cold q (r, reads, omega arith))

  pub checks_pending : (p : ℕ) → AllFit m w → IsLowest (IsHot w at anywhere) p → Checks m w (Pending p)
  checks_pending p fit lowest = (fit, record { here = hot_early p lowest.here; first = λ q lt e. lowest.first q lt (early_hot q e) })
