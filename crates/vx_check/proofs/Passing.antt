-- What a word passes on to the places to which it leads.
use Rattle.std.proofs.Common.{◌≡◌, ℕ, zero, suc, ◌+◌, ◌<◌, ◌≤◌, true, List, [], ◌∷◌, length, slice_get, slice_set, Some, None, Option, refl, sym, subst, ap, ◌∙◌, arith, inl, inr, ⊎_elim}
use Rattle.std.specs.Prelude.{◌⊎◌}
use Rattle.vx_base.specs.Paths.{After, first, more, Reached, beyond}
use Rattle.vx_tables.specs.Rows.{IsIn, row_at}
use Rattle.vx_tables.proofs.Members.{set_there, set_elsewhere}
use Rattle.vx_isa.specs.declared.operation.Register.{Register}
use Rattle.vx_isa.specs.declared.operation.Operation.{Operation}
use Rattle.vx_isa.specs.declared.program.Word.{Word}
use Rattle.vx_isa.specs.declared.program.WordProgram.{WordProgram}
use Rattle.vx_isa.specs.Numbers.{Numbers}
use Rattle.vx_isa.specs.Operations.{latency_of}
use Rattle.vx_isa.specs.Machine.{cycles_of}
use Rattle.vx_isa.specs.Paths.{Among, Leads, WordAt, WritesAt, cycles_at, cycles_of_some}
use Rattle.vx_check.specs.declared.in_flight.InFlight.{InFlight}
use Rattle.vx_check.specs.InFlight.{AllPassed, AreDue, IsCarried, IsDue, IsMade, Joins, JoinsAt, Leaves, Passed, Spread, TellWithin, Tell, hot, leads_anywhere, left_of, places_of}
use Rattle.vx_check.proofs.Reaches.{leads_listed, listed_leads, return_leads, same_word, there_word, word_there}

-- rows

same_len : (rows : List (List InFlight)) (p : ℕ) (x : List InFlight) → length (slice_set rows p x) ≡ length rows
same_len [] p x = refl
same_len (r ∷ rows) zero x = refl
same_len (r ∷ rows) (suc p) x = ap suc (same_len rows p x)

row_there : (rows : List (List InFlight)) (p : ℕ) (x : InFlight) → IsIn x (row_at rows p) → p < length rows
row_there [] p x h = absurd h
row_there (r ∷ rows) zero x h = omega arith
row_there (r ∷ rows) (suc p) x h = let k = row_there rows p x h in omega arith

data Same (p q : ℕ) : Type 0 where
  yes : q ≡ p → Same p q
  no : (q ≡ p → ⊥) → Same p q

same : (p q : ℕ) → Same p q
same zero zero = yes refl
same zero (suc q) = no (λ e. absurd (cc))
same (suc p) zero = no (λ e. absurd (cc))
same (suc p) (suc q) = by (same p q)
  where
    by : Same p q → Same (suc p) (suc q)
    by (yes e) = yes (ap suc e)
    by (no f) = no (λ e. f (omega arith))

-- one row joins
pub joins_at : (rows : List (List InFlight)) (p : ℕ) (out new : List InFlight) → p < length rows → Joins (row_at rows p) out new → JoinsAt (p ∷ []) out rows (slice_set rows p new)
joins_at rows p out new lt j = record {
  len = same_len rows p new;
  grows = λ q r. grows q r (same p q);
  has = λ q r i k. ⊎_elim (λ e. subst (λ z. left_of out r ≤ left_of (row_at (slice_set rows p new) z) r) (sym e) (subst (λ (l : List InFlight). left_of out r ≤ left_of l r) (sym there) (j.has r))) (λ z. absurd z) i;
  only = λ q x h. only q x h (same p q);
}
  where
    there : row_at (slice_set rows p new) p ≡ new
    there = set_there rows p new lt

    grows : (q : ℕ) (r : Register) → Same p q → left_of (row_at rows q) r ≤ left_of (row_at (slice_set rows p new) q) r
    grows q r (yes e) = subst (λ z. left_of (row_at rows z) r ≤ left_of (row_at (slice_set rows p new) z) r) (sym e) (subst (λ (l : List InFlight). left_of (row_at rows p) r ≤ left_of l r) (sym there) (j.grows r))
    grows q r (no f) = subst (λ (l : List InFlight). left_of (row_at rows q) r ≤ left_of l r) (sym (set_elsewhere rows p new q f)) (omega arith)

    only : (q : ℕ) (x : InFlight) → IsIn x (row_at (slice_set rows p new) q) → Same p q → IsIn x (row_at rows q) ⊎ (IsIn q (p ∷ []) × IsIn x out)
    only q x h (yes e) =
        let k : IsIn x new = subst (IsIn x) there (subst (λ z. IsIn x (row_at (slice_set rows p new) z)) e h) in
        ⊎_elim (λ a. inl (subst (λ z. IsIn x (row_at rows z)) (sym e) a)) (λ a. inr (inl e, a)) (j.only x k)
    only q x h (no f) = inl (subst (IsIn x) (set_elsewhere rows p new q f) h)

pub joins_nowhere : (rows : List (List InFlight)) (p : ℕ) (out : List InFlight) → (p < length rows → ⊥) → JoinsAt (p ∷ []) out rows rows
joins_nowhere rows p out away = record {
  len = refl;
  grows = λ q r. omega arith;
  has = λ q r i k. ⊎_elim (λ e. absurd (away (subst (λ z. z < length rows) e k))) (λ z. absurd z) i;
  only = λ q x h. inl h;
}

pub joins_at_none : (rows : List (List InFlight)) (out : List InFlight) → JoinsAt [] out rows rows
joins_at_none rows out = record { len = refl; grows = λ q r. omega arith; has = λ q r i k. absurd i; only = λ q x h. inl h }

pub joins_at_then : (p : ℕ) (ps : List ℕ) (out : List InFlight) (a b c : List (List InFlight)) → JoinsAt (p ∷ []) out a b → JoinsAt ps out b c → JoinsAt (p ∷ ps) out a c
joins_at_then p ps out a b c x y = record {
  len = y.len ∙ x.len;
  grows = λ q r. let h = x.grows q r in let k = y.grows q r in omega arith;
  has = has;
  only = λ q e h. ⊎_elim (λ i. ⊎_elim (λ j. inl j) (λ j. inr (one q j.0, j.1)) (x.only q e i)) (λ i. inr (inr i.0, i.1)) (y.only q e h);
}
  where
    one : (q : ℕ) → IsIn q (p ∷ []) → IsIn q (p ∷ ps)
    one q (inl e) = inl e
    one q (inr z) = absurd z

    has : (q : ℕ) (r : Register) → IsIn q (p ∷ ps) → q < length a → left_of out r ≤ left_of (row_at c q) r
    has q r (inl e) k = let h = x.has q r (inl e) k in let g = y.grows q r in omega arith
    has q r (inr i) k = y.has q r i (subst (λ n. q < n) (sym x.len) k)

-- one word

module _ (m : Numbers) (w : WordProgram) (p : ℕ) (word : Word) (at : WordAt w p word) where
  takes : cycles_at w p ≡ cycles_of word
  takes = ap cycles_of_some at

  -- a write of a row at p that is carried to a place where p leads is due there
  due_carried : (row : List InFlight) (q : ℕ) (x : InFlight) → ((y : InFlight) → IsIn y row → IsDue m w p y) → Leads w p q → IsCarried (cycles_of word) row x → IsDue m w q x
  due_carried row q x due l c =
      let d = due c.from c.here in
      record {
        writer = d.writer;
        latency = d.latency;
        since = d.since + cycles_at w p;
        reached = d.reached;
        writes = subst (λ r. WritesAt m w d.writer r d.latency) c.to_is d.writes;
        path = more d.path l;
        some = c.some;
        lands = let a = d.lands in let b = c.lands in let t = takes in omega arith;
      }

  -- and so is a write of the word itself
  due_made : (q : ℕ) (x : InFlight) → Reached (Leads w) 0 p → Leads w p q → IsMade m (cycles_of word) word.ops x → IsDue m w q x
  due_made q x reached l c = record {
    writer = p;
    latency = latency_of m c.op;
    since = cycles_at w p;
    reached = reached;
    writes = (word, c.op, at, c.here, c.writes, c.real, c.no_call, refl);
    path = first l;
    some = c.some;
    lands = let b = c.lands in let t = takes in omega arith;
  }

  due_left : (row out : List InFlight) (q : ℕ) (x : InFlight) → Reached (Leads w) 0 p → ((y : InFlight) → IsIn y row → IsDue m w p y) → Leads w p q → Leaves m word row out → IsIn x out → IsDue m w q x
  due_left row out q x reached due l leaves i = ⊎_elim (λ c. due_carried row q x due l c) (λ c. due_made q x reached l c) (leaves.only x i)

  module _ (before after : List (List InFlight)) (out anywhere later : List InFlight) (spread : Spread word.ops (p + 1) out before anywhere after later) (leaves : Leaves m word (row_at before p) out) (len : length before ≡ length w.words) where
    joins : JoinsAt (places_of word.ops (p + 1)) out before after
    joins = spread.places

    grown : (r : Register) → left_of anywhere r ≤ left_of later r
    grown = spread.everywhere.grows

    -- what is left stands where the word leads
    left_stands : (q : ℕ) (r : Register) → Leads w p q → left_of out r ≤ hot after later q r
    left_stands q r l =
        ⊎_elim (λ t. let h = spread.everywhere.has t r in omega arith)
        (λ i. let h = joins.has q r i (subst (λ n. q < n) (sym len) (there_word w.words q l.1 l.3)) in omega arith)
        (leads_listed w p q word at l)

    pub passed : Passed m w p before anywhere after later
    passed = record {
      grows = λ q r. let a = joins.grows q r in let b = grown r in omega arith;
      steps = λ q r l. let a = left_stands q r l in let b = leaves.carried r in let g = grown r in let t = takes in omega arith;
      fresh = λ q r n l s. by q r n l s;
    }
      where
        by : (q : ℕ) (r : Register) (n : ℕ) → Leads w p q → WritesAt m w p r n → n ≤ hot after later q r + cycles_at w p
        by q r n l s =
            let e : s.0 ≡ word = same_word w p s.0 word s.2 at in
            let h : latency_of m s.1 ≤ left_of out r + cycles_of word = leaves.made s.1 r (subst (λ (z : Word). Among s.1 z.ops) e s.3) s.4 s.5 s.6 in
            let a = left_stands q r l in
            let k = s.7 in
            let t = takes in
            omega arith

    pub still_due : Reached (Leads w) 0 p → AreDue m w before anywhere → AreDue m w after later
    still_due reached due = record {
      len = joins.len ∙ len;
      there = λ q x h. ⊎_elim (λ a. due.there q x a) (λ a. to q x (subst (λ n. q < n) (joins.len ∙ len) (row_there after q x h)) a.0 a.1) (joins.only q x h);
      everywhere = λ q x lt h. ⊎_elim (λ a. due.everywhere q x lt a) (λ a. back q x lt a.0 a.1) (spread.everywhere.only x h);
    }
      where
        to : (q : ℕ) (x : InFlight) → q < length w.words → IsIn q (places_of word.ops (p + 1)) → IsIn x out → IsDue m w q x
        to q x lt i o =
            let there = word_there w.words q lt in
            due_left (row_at before p) out q x reached (λ y k. due.there p y k) (listed_leads w p q word there.0 at there.1 i) leaves o

        back : (q : ℕ) (x : InFlight) → q < length w.words → leads_anywhere word.ops ≡ true → IsIn x out → IsDue m w q x
        back q x lt t o =
            let there = word_there w.words q lt in
            due_left (row_at before p) out q x reached (λ y k. due.there p y k) (return_leads w p q word there.0 at there.1 t) leaves o

less_or_last : (n q : ℕ) → q < n + 1 → (q < n) ⊎ (q ≡ n)
less_or_last zero zero h = inr refl
less_or_last zero (suc q) h = absurd (omega arith)
less_or_last (suc n) zero h = inl (omega arith)
less_or_last (suc n) (suc q) h = ⊎_elim (λ k. inl (omega arith)) (λ k. inr (ap suc k)) (less_or_last n q (omega arith))

-- nothing below a place, and not there
pub one_more : (Holds : ℕ → Type 0) (n : ℕ) → ((q : ℕ) → q < n → Holds q → ⊥) → (Holds n → ⊥) → (q : ℕ) → q < n + 1 → Holds q → ⊥
one_more Holds n low at q lt h = by (less_or_last n q lt)
  where
    by : (q < n) ⊎ (q ≡ n) → ⊥
    by (inl k) = low q k h
    by (inr e) = at (subst Holds e h)

-- all words, one after the other: those below a place have passed on

pub record PassedBelow (m : Numbers) (w : WordProgram) (n : ℕ) (at : List (List InFlight)) (anywhere : List InFlight) (at' : List (List InFlight)) (anywhere' : List InFlight) : Type 0 where
  pub grows : (q : ℕ) (r : Register) → hot at anywhere q r ≤ hot at' anywhere' q r
  pub steps : (p q : ℕ) (r : Register) → p < n → Reached (Leads w) 0 p → Leads w p q → hot at anywhere p r ≤ hot at' anywhere' q r + cycles_at w p
  pub fresh : (p q : ℕ) (r : Register) (l : ℕ) → p < n → Reached (Leads w) 0 p → Leads w p q → WritesAt m w p r l → l ≤ hot at' anywhere' q r + cycles_at w p

module _ (m : Numbers) (w : WordProgram) where
  pub below_none : (at : List (List InFlight)) (anywhere : List InFlight) → PassedBelow m w 0 at anywhere at anywhere
  below_none at anywhere = record { grows = λ q r. omega arith; steps = λ p q r lt e l. absurd (omega arith); fresh = λ p q r l lt e g s. absurd (omega arith) }

  module _ (n : ℕ) (a b c : List (List InFlight)) (u v x : List InFlight) (so_far : PassedBelow m w n a u b v) where
    pub below_passed : Passed m w n b v c x → PassedBelow m w (n + 1) a u c x
    below_passed k = record {
      grows = λ q r. let h = so_far.grows q r in let g = k.grows q r in omega arith;
      steps = λ p q r lt e l. steps p q r (less_or_last n p lt) e l;
      fresh = λ p q r i lt e l s. fresh p q r i (less_or_last n p lt) e l s;
    }
      where
        steps : (p q : ℕ) (r : Register) → (p < n) ⊎ (p ≡ n) → Reached (Leads w) 0 p → Leads w p q → hot a u p r ≤ hot c x q r + cycles_at w p
        steps p q r (inl lt) e l = let h = so_far.steps p q r lt e l in let g = k.grows q r in omega arith
        steps p q r (inr i) e l =
            let h : hot b v n r ≤ hot c x q r + cycles_at w n = k.steps q r (subst (λ z. Leads w z q) i l) in
            let g : hot a u n r ≤ hot b v n r = so_far.grows n r in
            subst (λ z. hot a u z r ≤ hot c x q r + cycles_at w z) (sym i) (omega arith)

        fresh : (p q : ℕ) (r : Register) (i : ℕ) → (p < n) ⊎ (p ≡ n) → Reached (Leads w) 0 p → Leads w p q → WritesAt m w p r i → i ≤ hot c x q r + cycles_at w p
        fresh p q r i (inl lt) e l s = let h = so_far.fresh p q r i lt e l s in let g = k.grows q r in omega arith
        fresh p q r i (inr z) e l s =
            subst (λ y. i ≤ hot c x q r + cycles_at w y) (sym z) (k.fresh q r i (subst (λ y. Leads w y q) z l) (subst (λ y. WritesAt m w y r i) z s))

  -- a place that is not reached passes nothing on
  pub below_skipped : (n : ℕ) (a b : List (List InFlight)) (u v : List InFlight) → PassedBelow m w n a u b v → (Reached (Leads w) 0 n → ⊥) → PassedBelow m w (n + 1) a u b v
  below_skipped n a b u v so_far not = record {
    grows = so_far.grows;
    steps = λ p q r lt e l. steps p q r (less_or_last n p lt) e l;
    fresh = λ p q r i lt e l s. fresh p q r i (less_or_last n p lt) e l s;
  }
    where
      steps : (p q : ℕ) (r : Register) → (p < n) ⊎ (p ≡ n) → Reached (Leads w) 0 p → Leads w p q → hot a u p r ≤ hot b v q r + cycles_at w p
      steps p q r (inl lt) e l = so_far.steps p q r lt e l
      steps p q r (inr i) e l = absurd (not (subst (Reached (Leads w) 0) i e))

      fresh : (p q : ℕ) (r : Register) (i : ℕ) → (p < n) ⊎ (p ≡ n) → Reached (Leads w) 0 p → Leads w p q → WritesAt m w p r i → i ≤ hot b v q r + cycles_at w p
      fresh p q r i (inl lt) e l s = so_far.fresh p q r i lt e l s
      fresh p q r i (inr z) e l s = absurd (not (subst (Reached (Leads w) 0) z e))

  pub all_passed : (n : ℕ) (a b : List (List InFlight)) (u v : List InFlight) → length w.words ≤ n → PassedBelow m w n a u b v → AllPassed m w a u b v
  all_passed n a b u v whole k = record {
    grows = k.grows;
    steps = λ p q r e l. k.steps p q r (let h = there_word w.words p l.0 l.2 in omega arith) e l;
    fresh = λ p q r i e l s. k.fresh p q r i (let h = there_word w.words p l.0 l.2 in omega arith) e l s;
  }

  -- rounds

  some_cycle : (p : ℕ) → 1 ≤ cycles_at w p
  some_cycle p = by (slice_get w.words p)
    where
      by : (o : Option Word) → 1 ≤ cycles_of_some o
      by None = omega arith
      by (Some word) = omega arith

  reached_along : (p : ℕ) {c : ℕ} {q : ℕ} → Reached (Leads w) 0 p → After (Leads w) (cycles_at w) p c q → Reached (Leads w) 0 q
  reached_along p {c} {q} e (first l) = beyond e l
  reached_along p e (more {c} {q} {u} a l) = beyond (reached_along p e a) l

  pub tells_none : (at : List (List InFlight)) (anywhere : List InFlight) → TellWithin m w 0 at anywhere
  tells_none at anywhere p q r l c e s a le = absurd (no a le)
    where
      no : {c q : ℕ} → After (Leads w) (cycles_at w) p c q → c ≤ 0 → ⊥
      no {c} {q} (first g) le = let h = some_cycle p in absurd (omega arith)
      no (more {c} {q} {u} g k) le = let h = some_cycle q in absurd (omega arith)

  pub tells_next : (n : ℕ) (a b : List (List InFlight)) (f g : List InFlight) → TellWithin m w n a f → AllPassed m w a f b g → TellWithin m w (n + 1) b g
  tells_next n a b f g t k p q r l c e s path le = by path le
    where
      by : {c q : ℕ} → After (Leads w) (cycles_at w) p c q → c ≤ n + 1 → l ≤ hot b g q r + c
      by {c} {q} (first i) le = k.fresh p q r l e i s
      by (more {c} {q} {u} i j) le =
          let one = some_cycle q in
          let h : l ≤ hot a f q r + c = t p q r l c e s i (omega arith) in
          let o : hot a f q r ≤ hot b g u r + cycles_at w q = k.steps q u r (reached_along p e i) j in
          omega arith

  data Within (n c : ℕ) : Type 0 where
    short : c ≤ n → Within n c
    long : n ≤ c → Within n c

  within : (n c : ℕ) → Within n c
  within zero c = long (omega arith)
  within (suc n) zero = short (omega arith)
  within (suc n) (suc c) = by (within n c)
    where
      by : Within n c → Within (suc n) (suc c)
      by (short h) = short (omega arith)
      by (long h) = long (omega arith)

  -- a path of as many cycles as an operation takes at most has nothing to tell
  pub tells_all : (n : ℕ) (at : List (List InFlight)) (anywhere : List InFlight) → ((op : Operation) → latency_of m op ≤ n) → TellWithin m w n at anywhere → Tell m w at anywhere
  tells_all n at anywhere most t p q r l c e s a = by (within n c)
    where
      by : Within n c → l ≤ hot at anywhere q r + c
      by (short h) = t p q r l c e s a h
      by (long h) = let k = most s.1 in let g = s.7 in omega arith
