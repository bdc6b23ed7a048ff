-- Terms that ascend are put into a row in one pass: what stands before the first of them is passed for all of them.
use Rattle.std.proofs.Common.{◌≡◌, pos, refl, sym, ◌∙◌, ap, subst, Bool, true, false, if◌then◌else◌, List, [], ◌∷◌, ◌++◌, append_assoc, arith}
use Rattle.std.specs.Ordering.{int_eq}
use Rattle.std.proofs.lemmas.Bool.Decides.{nat_tests}
use Rattle.vx_base.specs.Arithmetic.{sum_of}
use Rattle.vx_linear.specs.declared.form.Symbol.{Symbol}
use Rattle.vx_linear.specs.declared.form.Term.{Term}
use Rattle.vx_linear.specs.Forms.{is_before, is_same, is_before_all}
use Rattle.vx_linear.specs.Linear.{unless_zero, with_term, with_terms}
use Rattle.vx_linear.specs.Ascending.{ascend}
use Rattle.vx_linear.proofs.Symbols.{before_all_trans, same_before_all, first-true, second-true, true-both}
use Rattle.vx_linear.proofs.Merging.{before_back}

abbrev pub joined : Term → Term → Term
joined t u = record { symbol = u.symbol; factor = sum_of t.factor u.factor }

same_back : (x y : Symbol) → is_same x y ≡ true → is_same y x ≡ true
same_back x y h = grind (arith, nat_tests)

not_before_back : (x y : Symbol) → is_before x y ≡ true → is_before y x ≡ false
not_before_back x y h = grind (arith, nat_tests)

not_same_back : (x y : Symbol) → is_before x y ≡ true → is_same y x ≡ false
not_same_back x y h = grind (arith, nat_tests)

not_before_same : (x y : Symbol) → is_same x y ≡ true → is_before x y ≡ false
not_before_same x y h = grind (arith, nat_tests)

-- the first of ascending terms is before all others

ascend_rest : (t : Term) (ts : List Term) → ascend (t ∷ ts) ≡ true → ascend ts ≡ true
ascend_rest t ts h = second-true _ _ h

ascend_first : (t : Term) (ts : List Term) → ascend (t ∷ ts) ≡ true → is_before_all t.symbol ts ≡ true
ascend_first t [] h = refl
ascend_first t (u ∷ ts) h = true-both _ _ (first-true _ _ h) (before_all_trans t.symbol u.symbol ts (first-true _ _ h) (ascend_first u ts (second-true _ _ h)))

-- a term passes what is before it
passes_one : (t u : Term) (us : List Term) → is_before u.symbol t.symbol ≡ true → with_term t (u ∷ us) ≡ u ∷ with_term t us
passes_one t u us h = by (is_before t.symbol u.symbol) (is_same t.symbol u.symbol) (not_before_back u.symbol t.symbol h) (not_same_back u.symbol t.symbol h)
  where
    by : (y z : Bool) → y ≡ false → z ≡ false → (if y then unless_zero t (u ∷ us) else (if z then unless_zero (joined t u) us else u ∷ with_term t us)) ≡ u ∷ with_term t us
    by false false e f = refl
    by false true e f = absurd (clash f)
      where
        clash : true ≡ false → ⊥
        clash f = cc
    by true z e f = absurd (clash e)
      where
        clash : true ≡ false → ⊥
        clash e = cc

-- so do all of a row
pass_all : (u : Term) (ts us : List Term) → is_before_all u.symbol ts ≡ true → with_terms ts (u ∷ us) ≡ u ∷ with_terms ts us
pass_all u [] us h = refl
pass_all u (t ∷ ts) us h = ap (with_terms ts) (passes_one t u us (first-true _ _ h)) ∙ pass_all u ts (with_term t us) (second-true _ _ h)

pass_unless_zero : (u : Term) (ts us : List Term) → is_before_all u.symbol ts ≡ true → with_terms ts (unless_zero u us) ≡ unless_zero u (with_terms ts us)
pass_unless_zero u ts us h = by (int_eq u.factor (pos 0))
  where
    by : (z : Bool) → with_terms ts (if z then us else u ∷ us) ≡ (if z then with_terms ts us else u ∷ with_terms ts us)
    by true = refl
    by false = pass_all u ts us h

-- one turn

before_rows : (t u : Term) (ts : List Term) → is_before u.symbol t.symbol ≡ true → ascend (t ∷ ts) ≡ true → is_before_all u.symbol (t ∷ ts) ≡ true
before_rows t u ts h o = true-both _ _ h (before_all_trans u.symbol t.symbol ts h (ascend_first t ts o))

module _ (terms onto : List Term) where
  -- what is done, and what is left of both, come to the whole
  abbrev pub Merges : (list rest left : List Term) → Type 0
  Merges list rest left = (list ++ with_terms rest left ≡ with_terms terms onto) × (ascend rest ≡ true)

  turn_passes : (list ts us : List Term) (t u : Term) → Merges list (t ∷ ts) (u ∷ us) → is_before u.symbol t.symbol ≡ true → Merges (list ++ u ∷ []) (t ∷ ts) us
  turn_passes list ts us t u m h = (append_assoc list (u ∷ []) (with_terms (t ∷ ts) us) ∙ ap (λ xs. list ++ xs) (sym (pass_all u (t ∷ ts) us (before_rows t u ts h m.1))) ∙ m.0, m.1)

  turn_joins : (list new ts us : List Term) (t u : Term) → ((rest : List Term) → new ++ rest ≡ list ++ unless_zero (joined t u) rest) → Merges list (t ∷ ts) (u ∷ us) → is_same t.symbol u.symbol ≡ true → Merges new ts us
  turn_joins list new ts us t u p m h = (p (with_terms ts us) ∙ ap (λ xs. list ++ xs) (sym whole) ∙ m.0, ascend_rest t ts m.1)
    where
      one : with_term t (u ∷ us) ≡ unless_zero (joined t u) us
      one = by (is_before t.symbol u.symbol) (is_same t.symbol u.symbol) (not_before_same t.symbol u.symbol h) h
        where
          by : (y z : Bool) → y ≡ false → z ≡ true → (if y then unless_zero t (u ∷ us) else (if z then unless_zero (joined t u) us else u ∷ with_term t us)) ≡ unless_zero (joined t u) us
          by false true e f = refl
          by false false e f = absurd (clash f)
            where
              clash : false ≡ true → ⊥
              clash f = cc
          by true z e f = absurd (clash e)
            where
              clash : true ≡ false → ⊥
              clash e = cc

      whole : with_terms ts (with_term t (u ∷ us)) ≡ unless_zero (joined t u) (with_terms ts us)
      whole = ap (with_terms ts) one ∙ pass_unless_zero (joined t u) ts us (same_before_all u.symbol t.symbol ts (same_back t.symbol u.symbol h) (ascend_first t ts m.1))

  turn_puts : (list new ts us : List Term) (t u : Term) → ((rest : List Term) → new ++ rest ≡ list ++ unless_zero t rest) → Merges list (t ∷ ts) (u ∷ us) → is_before u.symbol t.symbol ≡ false → is_same t.symbol u.symbol ≡ false → Merges new ts (u ∷ us)
  turn_puts list new ts us t u p m h k = (p (with_terms ts (u ∷ us)) ∙ ap (λ xs. list ++ xs) (sym whole) ∙ m.0, ascend_rest t ts m.1)
    where
      before : is_before t.symbol u.symbol ≡ true
      before = by (is_before t.symbol u.symbol) refl
        where
          by : (y : Bool) → is_before t.symbol u.symbol ≡ y → y ≡ true
          by true e = refl
          by false e = sym h ∙ before_back t.symbol u.symbol e k

      one : with_term t (u ∷ us) ≡ unless_zero t (u ∷ us)
      one = ap (λ y. if y then unless_zero t (u ∷ us) else (if is_same t.symbol u.symbol then unless_zero (joined t u) us else u ∷ with_term t us)) before

      whole : with_terms ts (with_term t (u ∷ us)) ≡ unless_zero t (with_terms ts (u ∷ us))
      whole = ap (with_terms ts) one ∙ pass_unless_zero t ts (u ∷ us) (ascend_first t ts m.1)

  turn_puts_last : (list new ts : List Term) (t : Term) → ((rest : List Term) → new ++ rest ≡ list ++ unless_zero t rest) → Merges list (t ∷ ts) [] → Merges new ts []
  turn_puts_last list new ts t p m = (p (with_terms ts []) ∙ ap (λ xs. list ++ xs) (sym (pass_unless_zero t ts [] (ascend_first t ts m.1))) ∙ m.0, ascend_rest t ts m.1)

  -- the same by what is known of both rows

  pub passes : (list rest left ts us : List Term) (t u : Term) → Merges list rest left → rest ≡ t ∷ ts → left ≡ u ∷ us → is_before u.symbol t.symbol ≡ true → Merges (list ++ u ∷ []) rest us
  passes list rest left ts us t u m e f h = subst (λ xs. Merges (list ++ u ∷ []) xs us) (sym e) (turn_passes list ts us t u (subst (λ xs. Merges list (t ∷ ts) xs) f (subst (λ xs. Merges list xs left) e m)) h)

  pub joins : (list new rest left ts us : List Term) (t u : Term) → ((xs : List Term) → new ++ xs ≡ list ++ unless_zero (joined t u) xs) → Merges list rest left → rest ≡ t ∷ ts → left ≡ u ∷ us → is_same t.symbol u.symbol ≡ true → Merges new ts us
  joins list new rest left ts us t u p m e f h = turn_joins list new ts us t u p (subst (λ xs. Merges list (t ∷ ts) xs) f (subst (λ xs. Merges list xs left) e m)) h

  pub puts : (list new rest left ts us : List Term) (t u : Term) → ((xs : List Term) → new ++ xs ≡ list ++ unless_zero t xs) → Merges list rest left → rest ≡ t ∷ ts → left ≡ u ∷ us → is_before u.symbol t.symbol ≡ false → is_same t.symbol u.symbol ≡ false → Merges new ts left
  puts list new rest left ts us t u p m e f h k = subst (λ xs. Merges new ts xs) (sym f) (turn_puts list new ts us t u p (subst (λ xs. Merges list (t ∷ ts) xs) f (subst (λ xs. Merges list xs left) e m)) h k)

  pub puts_last : (list new rest left ts : List Term) (t : Term) → ((xs : List Term) → new ++ xs ≡ list ++ unless_zero t xs) → Merges list rest left → rest ≡ t ∷ ts → left ≡ [] → Merges new ts left
  puts_last list new rest left ts t p m e f = subst (λ xs. Merges new ts xs) (sym f) (turn_puts_last list new ts t p (subst (λ xs. Merges list (t ∷ ts) xs) f (subst (λ xs. Merges list xs left) e m)))
