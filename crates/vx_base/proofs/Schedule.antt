-- Operations in words that keep the order leave what trace order leaves.
use Rattle.std.proofs.Common.{◌≡◌, ℕ, zero, suc, ◌+◌, ◌-◌, ◌<◌, ◌≤◌, refl, sym, ap, ◌∙◌, subst, ⊎_elim, inl, inr, arith, add-one}
use Rattle.std.specs.Prelude.{◌⊎◌}
use Rattle.std.proofs.lemmas.Bool.{cases_lt, cases_order}
use Rattle.vx_base.specs.Schedule.{InOrder, WordDoes, InWords, Ordered, Exactly, NoneBefore}

module _ {Loc V : Type 0} (Refines : Loc → V → V → Type 0) (order words : ℕ → Loc → V) (Reads Writes : ℕ → Loc → Type 0) (when : ℕ → ℕ) (end : ℕ) (Wanted : Loc → Type 0)
    (io : InOrder order Writes) (iw : InWords Refines order words Reads Writes when end Wanted) (od : Ordered Reads Writes when end) where
  untouched : (n i : ℕ) (l : Loc) → ((k : ℕ) → i ≤ k → k < i + n → Writes k l → ⊥) → order (i + n) l ≡ order i l
  untouched zero i l none = let e : i + 0 ≡ i = omega arith in ap (λ j. order j l) e
  untouched (suc n) i l none =
      let e : i + suc n ≡ (i + n) + 1 = omega arith in
      ap (λ j. order j l) e ∙ io.frame (i + n) l (none (i + n) (omega arith) (omega arith)) ∙ untouched n i l (λ k a b. none k a (omega arith))

  -- no writer from operation i up to operation p
  pub between : (i p : ℕ) (l : Loc) → i ≤ p → ((k : ℕ) → i ≤ k → k < p → Writes k l → ⊥) → order p l ≡ order i l
  between i p l le none =
      let n : ℕ = p - i in
      let e : i + n ≡ p = omega arith in
      ap (λ j. order j l) (sym e) ∙ untouched n i l (λ k a b. none k a (omega arith))

  -- before word v, what exactly the first q operations' writers of l make is there
  abbrev pub Upto : ℕ → Type 0
  Upto v = (l : Loc) (q : ℕ) → Exactly Writes when v l q → (NoneBefore Writes l q → Wanted l) → Refines l (order q l) (words v l)

  -- the writers of what o reads that are done before the word of o are those above o
  at_reads : (w o : ℕ) (l : Loc) → suc w ≤ end → when o ≡ w → Reads o l → Exactly Writes when w l o
  at_reads w o l le e r k wr =
      let runs : when o < end = omega arith in (
        (λ before. ⊎_elim (λ lt. lt) (λ ge. ⊎_elim (λ same. absurd (let h : when k ≡ when o = ap when (sym same) in omega arith)) (λ more. absurd (let h = od.anti o k l more r wr runs in omega arith)) (split o k ge)) (cases_lt k o)),
        (λ lt. let h = od.flow k o l lt wr r runs in omega arith),
      )
    where
      split : (a b : ℕ) → a ≤ b → (a ≡ b) ⊎ (a < b)
      split a b h = ⊎_elim (λ e. inl e) (λ c. ⊎_elim (λ l. inr l) (λ g. absurd (omega arith)) c) (cases_order a b)

  does : (w : ℕ) → suc w ≤ end → Upto w → WordDoes Refines order words Writes when w
  does w le up = iw.word w (omega arith) (λ o l e r. up l o (at_reads w o l le e r) (λ none. iw.wants o l (let h : when o < end = omega arith in h) r none))

  by_writer : (w : ℕ) → suc w ≤ end → (l : Loc) (p : ℕ) → Exactly Writes when (suc w) l p → (o : ℕ) → when o ≡ w → Writes o l → Upto w → Refines l (order p l) (words (suc w) l)
  by_writer w le l p ex o e wr up =
      let below : o < p = (ex o wr).0 (omega arith) in
      let got = (does w le up).made o l e wr in
      let same = between (o + 1) p l (omega arith) (λ k a b c. absurd (let h1 : when k < suc w = (ex k c).1 b in let h2 : when o < when k = od.output o k l (omega arith) wr c (omega arith) in omega arith)) in
      subst (λ v. Refines l v (words (suc w) l)) (sym same) (subst (λ n. Refines l (order (o + 1) l) (words n l)) (add-one w) got)

  by_none : (w : ℕ) → suc w ≤ end → (l : Loc) (p : ℕ) → Exactly Writes when (suc w) l p → ((o : ℕ) → when o ≡ w → Writes o l → ⊥) → Upto w → (NoneBefore Writes l p → Wanted l) → Refines l (order p l) (words (suc w) l)
  by_none w le l p ex none up want =
      let ex' : Exactly Writes when w l p = λ k wr. ((λ a. (ex k wr).0 (omega arith)), (λ b. let h = (ex k wr).1 b in ⊎_elim (λ lt. lt) (λ ge. absurd (none k (omega arith) wr)) (cases_lt (when k) w))) in
      subst (λ v. Refines l (order p l) v) (sym (ap (λ n. words n l) (sym (add-one w)) ∙ (does w le up).still l none)) (up l p ex' want)

  pub upto : (w : ℕ) → w ≤ end → Upto w
  upto zero le l p ex want =
      let e = between 0 p l (omega arith) (λ k a b c. absurd (let h = (ex k c).1 b in omega arith)) in
      subst (λ v. Refines l v (words 0 l)) (sym e) (iw.start l (want (λ k b c. absurd (let h = (ex k c).1 b in omega arith))))
  upto (suc w) le l p ex want = ⊎_elim (λ some. by_writer w le l p ex some.0 some.1 some.2 (upto w (omega arith))) (λ none. by_none w le l p ex none (upto w (omega arith)) want) (iw.decided w l (let h : w < end = omega arith in h))

  -- at the end
  pub at_end : (l : Loc) (p : ℕ) → Exactly Writes when end l p → (NoneBefore Writes l p → Wanted l) → Refines l (order p l) (words end l)
  at_end l p ex want = upto end (omega arith) l p ex want

  -- what is executed reads what it reads in trace order
  pub reads_well : (o : ℕ) (l : Loc) → when o < end → Reads o l → Refines l (order o l) (words (when o) l)
  reads_well o l run r = upto (when o) (let h : when o ≤ end = omega arith in h) l o (at_reads (when o) o l (let h : suc (when o) ≤ end = omega arith in h) refl r) (λ none. iw.wants o l run r none)
