-- Single words of which all but plan words are made, where every write lands at the next word.
use Rattle.std.proofs.Common.{◌≡◌, ◌≢◌, ◌<◌, ◌+◌, ◌*◌, ◌^◌, ℕ, zero, suc, ℤ, pos, Bool, true, false, ◌&&◌, ◌||◌, not, cond, Some, List, [], ◌∷◌, ◌++◌, length, refl, sym, ap, ◌∙◌, subst, arith}
use Rattle.std.specs.Prelude.{if◌then◌else◌, slice_get, drop, count_by}
use Rattle.std.proofs.lemmas.Bool.{and_parts, eqb-true}
use Rattle.std.proofs.lemmas.List.{append-nil}
use Rattle.vx_base.specs.Arithmetic.{sum_of, unsigned}
use Rattle.vx_base.proofs.Runs.{Reach, reach_on}
use Rattle.vx_isa.specs.declared.operation.GeneralRegister.{GeneralRegister}
use Rattle.vx_isa.specs.declared.operation.Register.{Register}
use Rattle.vx_isa.specs.declared.operation.Register.TheVariants.{General}
use Rattle.vx_isa.specs.declared.operation.Source.{Source}
use Rattle.vx_isa.specs.declared.operation.Operation.{Operation}
use Rattle.vx_isa.specs.declared.operation.Operation.TheVariants.{Load, Store, Goto}
use Rattle.vx_isa.specs.declared.program.Word.{Word}
use Rattle.vx_isa.specs.declared.program.WordProgram.{WordProgram}
use Rattle.vx_isa.specs.Fits.{fits}
use Rattle.vx_isa.specs.Numbers.{Numbers}
use Rattle.vx_isa.specs.Operations.{is_zero, destination_of}
use Rattle.vx_isa.specs.Machine.{State, To, register, source, address, number_of, stored, memory_after, print_of, takes_input, has_bad_address, lead_of, is_left, is_word_of}
use Rattle.vx_isa.proofs.Lists.{count_by-cons}
use Rattle.vx_target.specs.Target.{Target, one, together, waits, pause, follows, way, bytes}
use Rattle.vx_target.specs.Tied.{word_at}
use Rattle.vx_target.proofs.Bytes.{address_is, is_word}
use Rattle.vx_target.proofs.Calm.{seen, put_to, put_at, put_off, after, AllFit, Fine, Going, word_goes}
use Rattle.vx_target.proofs.Forms.{Plainly, memory_on}
use Rattle.vx_target.proofs.Cells.{store_at, store_off}

-- words stand in a program from a place on
abbrev pub Stands : List Word → ℕ → List Word → Type 0
Stands words q [] = Unit {0}
Stands words q (x ∷ xs) = (slice_get words q ≡ Some x) × Stands words (q + 1) xs

pub stands_left : (words : List Word) (q : ℕ) (a b : List Word) → Stands words q (a ++ b) → Stands words q a
stands_left words q [] b s = tt
stands_left words q (x ∷ a) b s = (s.0, stands_left words (q + 1) a b s.1)

pub stands_right : (words : List Word) (q : ℕ) (a b : List Word) → Stands words q (a ++ b) → Stands words (q + length a) b
stands_right words q [] b s = let e : q ≡ q + 0 = omega arith in subst (λ p. Stands words p b) e s
stands_right words q (x ∷ a) b s = let e : (q + 1) + length a ≡ q + suc (length a) = omega arith in subst (λ p. Stands words p b) e (stands_right words (q + 1) a b s.1)

-- nothing is in flight, and neither input nor output was met
pub record Quiet (u v : State) : Type 0 where
  pub calm : v.flying ≡ []
  pub input : v.input ≡ u.input
  pub out : v.out ≡ u.out

pub quiet_on : (u v x : State) → Quiet u v → Quiet v x → Quiet u x
quiet_on u v x a b = record { calm = b.calm; input = b.input ∙ a.input; out = b.out ∙ a.out }

module _ (m : Numbers) (w : WordProgram) (fit : AllFit m w) where
  abbrev pub Comes : State → State → Type 0
  Comes u v = (n : ℕ) × Reach (Going m w) n u v

  -- one step or more
  abbrev pub Forth : State → State → Type 0
  Forth u v = (n : ℕ) × Reach (Going m w) (suc n) u v

  pub stay : (u : State) → Comes u u
  stay u = (0, refl)

  pub comes_on : (u v x : State) → Comes u v → Comes v x → Comes u x
  comes_on u v x a b = (a.0 + b.0, reach_on (Going m w) a.0 b.0 u v x a.1 b.1)

  pub forth_on : (u v x : State) → Forth u v → Comes v x → Forth u x
  forth_on u v x a b =
      let e : suc a.0 + b.0 ≡ suc (a.0 + b.0) = omega arith in
      (a.0 + b.0, subst (λ n. Reach (Going m w) n u x) e (reach_on (Going m w) (suc a.0) b.0 u v x a.1 b.1))

  pub then_forth : (u v x : State) → Comes u v → Forth v x → Forth u x
  then_forth u v x a b =
      let e : a.0 + suc b.0 ≡ suc (a.0 + b.0) = omega arith in
      (a.0 + b.0, subst (λ n. Reach (Going m w) n u x) e (reach_on (Going m w) a.0 (suc b.0) u v x a.1 b.1))

  pub forth_comes : (u v : State) → Forth u v → Comes u v
  forth_comes u v a = (suc a.0, a.1)

  pub word_step : (u : State) (word : Word) (q : ℕ) → u.flying ≡ [] → slice_get w.words u.place ≡ Some word → Fine m w u word.ops → lead_of u word.ops ≡ To q → Forth u (after w u word q)
  word_step u word q calm at fine to = (0, (after w u word q, word_goes m w u word q fit calm at fine to, refl))

  or_not : (b : Bool) → b ≡ false → (b || false) ≡ false
  or_not b e = ap (λ x. x || false) e

  no_take : (o : Operation) → takes_input o ≡ false → count_by takes_input (o ∷ []) ≡ 0
  no_take o e = count_by-cons takes_input o [] ∙ ap (λ b. cond b 1 0 + 0) e

  -- an operation that changes a register alone
  pub record Set (u : State) (r : Register) (x : ℤ) : Type 0 where
    pub to : State
    pub forth : Forth u to
    pub place : to.place ≡ u.place + 1
    pub quiet : Quiet u to
    pub memory : to.memory ≡ u.memory
    pub at : seen to.registers r ≡ x
    pub others : (q : Register) → (q ≢ r) → seen to.registers q ≡ seen u.registers q

  pub set_step : (u : State) (o : Operation) (r : Register) (x : ℤ) → u.flying ≡ [] → slice_get w.words u.place ≡ Some (one o) → Plainly w u o → destination_of o ≡ Some r → is_zero r ≡ false → number_of w.memory u o ≡ x → Set u r x
  set_step u o r x calm at plainly to_r not_zero number = record {
    to = after w u (one o) (u.place + 1);
    forth = word_step u (one o) (u.place + 1) calm at (record { addresses = or_not (has_bad_address w.memory u o) plainly.bad; input = ap (λ b. (b || false) && not (is_left u.input)) plainly.takes }) (plainly.leads []);
    place = refl;
    quiet = record { calm = refl; input = ap (λ n. drop n u.input) (no_take o plainly.takes); out = ap (λ ys. u.out ++ (ys ++ [])) plainly.prints ∙ append-nil u.out };
    memory = plainly.stores u.memory;
    at = ap (λ d. seen (put_to d (number_of w.memory u o) u.registers) r) to_r ∙ put_at r (number_of w.memory u o) u.registers not_zero ∙ number;
    others = λ q ne. ap (λ d. seen (put_to d (number_of w.memory u o) u.registers) q) to_r ∙ put_off r (number_of w.memory u o) u.registers q ne;
  }

  -- two operations of one word that change a register each
  pub record SetTwo (u : State) (r s : Register) (x y : ℤ) (taken : ℕ) : Type 0 where
    pub to : State
    pub comes : Comes u to
    pub place : to.place ≡ u.place + taken
    pub quiet : Quiet u to
    pub memory : to.memory ≡ u.memory
    pub first : seen to.registers r ≡ x
    pub second : seen to.registers s ≡ y
    pub others : (q : Register) → (q ≢ r) → (q ≢ s) → seen to.registers q ≡ seen u.registers q

  set_two : (u : State) (o p : Operation) (r s : Register) (x y : ℤ) → u.flying ≡ [] → slice_get w.words u.place ≡ Some (record { ops = o ∷ p ∷ []; idle = 0 }) → Plainly w u o → Plainly w u p → destination_of o ≡ Some r → destination_of p ≡ Some s → r ≢ s → is_zero r ≡ false → is_zero s ≡ false → number_of w.memory u o ≡ x → number_of w.memory u p ≡ y → SetTwo u r s x y 1
  set_two u o p r s x y calm at po pp to_r to_s apart zr zs xo yp = record {
    to = after w u (record { ops = o ∷ p ∷ []; idle = 0 }) (u.place + 1);
    comes = forth_comes u (after w u (record { ops = o ∷ p ∷ []; idle = 0 }) (u.place + 1)) (word_step u (record { ops = o ∷ p ∷ []; idle = 0 }) (u.place + 1) calm at (record { addresses = addresses; input = ap (λ b. (b || (takes_input p || false)) && not (is_left u.input)) po.takes ∙ ap (λ b. (b || false) && not (is_left u.input)) pp.takes }) (po.leads (p ∷ []) ∙ pp.leads []));
    place = refl;
    quiet = record {
      calm = refl;
      input = ap (λ n. drop n u.input) (count_by-cons takes_input o (p ∷ []) ∙ ap (λ b. cond b 1 0 + count_by takes_input (p ∷ [])) po.takes ∙ ap (λ n. 0 + n) (no_take p pp.takes));
      out = ap (λ ys. u.out ++ (ys ++ (print_of w u p ++ []))) po.prints ∙ ap (λ ys. u.out ++ (ys ++ [])) pp.prints ∙ append-nil u.out;
    };
    memory = memory_on u o (p ∷ []) u.memory ∙ ap (memory_after u (p ∷ [])) (po.stores u.memory) ∙ pp.stores u.memory;
    first = ap (λ d. seen (put_to d (number_of w.memory u p) (put_to (destination_of o) (number_of w.memory u o) u.registers)) r) to_s ∙ put_off s (number_of w.memory u p) (put_to (destination_of o) (number_of w.memory u o) u.registers) r apart ∙ ap (λ d. seen (put_to d (number_of w.memory u o) u.registers) r) to_r ∙ put_at r (number_of w.memory u o) u.registers zr ∙ xo;
    second = ap (λ d. seen (put_to d (number_of w.memory u p) (put_to (destination_of o) (number_of w.memory u o) u.registers)) s) to_s ∙ put_at s (number_of w.memory u p) (put_to (destination_of o) (number_of w.memory u o) u.registers) zs ∙ yp;
    others = λ q nr ns. ap (λ d. seen (put_to d (number_of w.memory u p) (put_to (destination_of o) (number_of w.memory u o) u.registers)) q) to_s ∙ put_off s (number_of w.memory u p) (put_to (destination_of o) (number_of w.memory u o) u.registers) q ns ∙ ap (λ d. seen (put_to d (number_of w.memory u o) u.registers) q) to_r ∙ put_off r (number_of w.memory u o) u.registers q nr;
  }
    where
      addresses : (has_bad_address w.memory u o || (has_bad_address w.memory u p || false)) ≡ false
      addresses = ap (λ b. b || (has_bad_address w.memory u p || false)) po.bad ∙ or_not (has_bad_address w.memory u p) pp.bad

  -- cycles without an operation, or a jump
  pub record Passed (u : State) (q : ℕ) : Type 0 where
    pub to : State
    pub forth : Forth u to
    pub place : to.place ≡ q
    pub quiet : Quiet u to
    pub memory : to.memory ≡ u.memory
    pub registers : to.registers ≡ u.registers

  pub wait_step : (u : State) (n : ℕ) → u.flying ≡ [] → slice_get w.words u.place ≡ Some (waits n) → Passed u (u.place + 1)
  wait_step u n calm at = record {
    to = after w u (waits n) (u.place + 1);
    forth = word_step u (waits n) (u.place + 1) calm at (record { addresses = refl; input = refl }) refl;
    place = refl;
    quiet = record { calm = refl; input = refl; out = append-nil u.out };
    memory = refl;
    registers = refl;
  }

  -- a pause, or none
  pub record Paused (u : State) (q : ℕ) : Type 0 where
    pub to : State
    pub comes : Comes u to
    pub place : to.place ≡ q
    pub quiet : Quiet u to
    pub memory : to.memory ≡ u.memory
    pub registers : to.registers ≡ u.registers

  pub pause_step : (u : State) (n : ℕ) → u.flying ≡ [] → Stands w.words u.place (pause n) → Paused u (u.place + length (pause n))
  pause_step u zero calm st = record { to = u; comes = stay u; place = omega arith; quiet = record { calm = calm; input = refl; out = refl }; memory = refl; registers = refl }
  pause_step u (suc n) calm st =
      let a = wait_step u (suc n) calm st.0 in
      record { to = a.to; comes = forth_comes u a.to a.forth; place = a.place; quiet = a.quiet; memory = a.memory; registers = a.registers }

  pub goto_step : (u : State) (q : ℕ) → u.flying ≡ [] → slice_get w.words u.place ≡ Some (one (Goto q)) → Passed u q
  goto_step u q calm at = record {
    to = after w u (one (Goto q)) q;
    forth = word_step u (one (Goto q)) q calm at (record { addresses = refl; input = refl }) refl;
    place = refl;
    quiet = record { calm = refl; input = refl; out = append-nil u.out };
    memory = refl;
    registers = refl;
  }

  -- the way to a place of a layout, or none from the place before it
  pub way_step : (T : Target) (f next q : ℕ) (u : State) → u.flying ≡ [] → u.place + length (way T f next q) ≡ T.starts f next → Stands w.words u.place (way T f next q) → Paused u (T.starts f q)
  way_step T f next q u calm there st = by (follows T f next q) refl there st
    where
      by : (b : Bool) → follows T f next q ≡ b → u.place + length (if b then [] else one (Goto (T.starts f q)) ∷ []) ≡ T.starts f next → Stands w.words u.place (if b then [] else one (Goto (T.starts f q)) ∷ []) → Paused u (T.starts f q)
      by true e t s =
          let same : next ≡ q = eqb-true next q (and_parts _ _ e).0 in
          let none : u.place ≡ u.place + 0 = omega arith in
          record { to = u; comes = stay u; place = none ∙ t ∙ ap (T.starts f) same; quiet = record { calm = calm; input = refl; out = refl }; memory = refl; registers = refl }
      by false e t s =
          let a = goto_step u (T.starts f q) calm s.0 in
          record { to = a.to; comes = forth_comes u a.to a.forth; place = a.place; quiet = a.quiet; memory = a.memory; registers = a.registers }

  module _ (words : ℕ) (size : w.memory ≡ 4 * words) (small : 4 * words < 2 ^ 32) where
    pub slot_address : (u : State) (b : GeneralRegister) (p o : ℕ) → register u (General b) ≡ pos (4 * p) → p + o < words → address u b (bytes o) ≡ 4 * (p + o)
    slot_address u b p o e lt = ap (λ z. unsigned (sum_of z (bytes o))) e ∙ address_is (4 * p) (4 * o) (omega arith) ∙ omega arith

    pub slot_word : (u : State) (b : GeneralRegister) (p o : ℕ) → register u (General b) ≡ pos (4 * p) → p + o < words → is_word_of w.memory (address u b (bytes o)) ≡ true
    slot_word u b p o e lt = ap (is_word_of w.memory) (slot_address u b p o e lt) ∙ ap (λ n. is_word_of n (4 * (p + o))) size ∙ is_word (p + o) words lt

    pub load_step : (u : State) (k : ℕ) (r b : GeneralRegister) (p o : ℕ) → u.flying ≡ [] → slice_get w.words u.place ≡ Some (one (Load k r (bytes o) b false)) → register u (General b) ≡ pos (4 * p) → p + o < words → is_zero (General r) ≡ false → Set u (General r) (word_at u.memory (p + o))
    load_step u k r b p o calm at e lt not_zero =
        let there = slot_word u b p o e lt in
        set_step u (Load k r (bytes o) b false) (General r) (word_at u.memory (p + o)) calm at
        (record { bad = ap not there; takes = refl; prints = refl; stores = λ m. refl; leads = λ ops. refl }) refl not_zero
        (ap (λ c. if c then u.memory (address u b (bytes o)) else pos 0) there ∙ ap u.memory (slot_address u b p o e lt))

    -- an operation that changes a register, and a load, in one word or in two
    pub load_beside : (u : State) (o : Operation) (r : Register) (x : ℤ) (k : ℕ) (t b : GeneralRegister) (p d : ℕ) → u.flying ≡ [] → Stands w.words u.place (together m o (Load k t (bytes d) b false)) → ((v : State) → Plainly w v o) → destination_of o ≡ Some r → r ≢ General t → General b ≢ r → is_zero r ≡ false → number_of w.memory u o ≡ x → register u (General b) ≡ pos (4 * p) → p + d < words → is_zero (General t) ≡ false → SetTwo u r (General t) x (word_at u.memory (p + d)) (length (together m o (Load k t (bytes d) b false)))
    load_beside u o r x k t b p d calm st plain to_r apart other zr xo e lt zt = by (fits m (o ∷ Load k t (bytes d) b false ∷ [])) st
      where
        by : (c : Bool) → Stands w.words u.place (if c then record { ops = o ∷ Load k t (bytes d) b false ∷ []; idle = 0 } ∷ [] else one o ∷ one (Load k t (bytes d) b false) ∷ []) → SetTwo u r (General t) x (word_at u.memory (p + d)) (length (if c then record { ops = o ∷ Load k t (bytes d) b false ∷ []; idle = 0 } ∷ [] else one o ∷ one (Load k t (bytes d) b false) ∷ []))
        by true s =
            let there = slot_word u b p d e lt in
            set_two u o (Load k t (bytes d) b false) r (General t) x (word_at u.memory (p + d)) calm s.0 (plain u)
            (record { bad = ap not there; takes = refl; prints = refl; stores = λ m. refl; leads = λ ops. refl }) to_r refl apart zr zt xo
            (ap (λ c. if c then u.memory (address u b (bytes d)) else pos 0) there ∙ ap u.memory (slot_address u b p d e lt))
        by false s =
            let a = set_step u o r x calm s.0 (plain u) to_r zr xo in
            let c = load_step a.to k t b p d a.quiet.calm (subst (λ q. slice_get w.words q ≡ Some (one (Load k t (bytes d) b false))) (sym a.place) s.1.0) (a.others (General b) other ∙ e) lt zt in
            let pa = a.place in
            let pc = c.place in
            record {
              to = c.to;
              comes = comes_on u a.to c.to (forth_comes u a.to a.forth) (forth_comes a.to c.to c.forth);
              place = omega arith;
              quiet = quiet_on u a.to c.to a.quiet c.quiet;
              memory = c.memory ∙ a.memory;
              first = c.others r apart ∙ a.at;
              second = c.at ∙ ap (λ g. word_at g (p + d)) a.memory;
              others = λ q nr nt. c.others q nt ∙ a.others q nr;
            }

    -- a word of memory is written
    pub record Kept (u : State) (x : ℕ) (z : ℤ) : Type 0 where
      pub to : State
      pub forth : Forth u to
      pub place : to.place ≡ u.place + 1
      pub quiet : Quiet u to
      pub registers : to.registers ≡ u.registers
      pub at : (y : ℕ) → y ≡ x → word_at to.memory y ≡ z
      pub elsewhere : (y : ℕ) → (y ≢ x) → word_at to.memory y ≡ word_at u.memory y

    pub store_step : (u : State) (k : ℕ) (b : GeneralRegister) (a : Source) (p o : ℕ) → u.flying ≡ [] → slice_get w.words u.place ≡ Some (one (Store k (bytes o) b a)) → register u (General b) ≡ pos (4 * p) → p + o < words → Kept u (p + o) (source u a)
    store_step u k b a p o calm at e lt = record {
      to = after w u (one (Store k (bytes o) b a)) (u.place + 1);
      forth = word_step u (one (Store k (bytes o) b a)) (u.place + 1) calm at (record { addresses = or_not (not (is_word_of w.memory (address u b (bytes o)))) (ap not (slot_word u b p o e lt)); input = refl }) refl;
      place = refl;
      quiet = record { calm = refl; input = refl; out = append-nil u.out };
      registers = refl;
      at = λ y q. ap (λ j. word_at (stored u.memory j (source u a)) y) (slot_address u b p o e lt) ∙ store_at u.memory (p + o) y (source u a) q;
      elsewhere = λ y ne. ap (λ j. word_at (stored u.memory j (source u a)) y) (slot_address u b p o e lt) ∙ store_off u.memory (p + o) y (source u a) ne;
    }
