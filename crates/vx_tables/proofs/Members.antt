-- What is in a list, and in the rows of a table.
use Rattle.std.proofs.Common.{◌≡◌, ◌⊎◌, inl, inr, ℕ, zero, suc, ◌<◌, List, [], ◌∷◌, ◌++◌, length, slice_index_or, slice_set, refl, sym, ap, subst, ◌∙◌, arith}
use Rattle.vx_tables.specs.Rows.{IsIn}
use Rattle.vx_tables.specs.Rows.{Added, row_at}

pub in_left : {A : Type 0} (x : A) (xs ys : List A) → IsIn x xs → IsIn x (xs ++ ys)
in_left x [] ys h = absurd h
in_left x (y ∷ xs) ys (inl e) = inl e
in_left x (y ∷ xs) ys (inr h) = inr (in_left x xs ys h)

pub in_right : {A : Type 0} (x : A) (xs ys : List A) → IsIn x ys → IsIn x (xs ++ ys)
in_right x [] ys h = h
in_right x (y ∷ xs) ys h = inr (in_right x xs ys h)

pub in_either : {A : Type 0} (x : A) (xs ys : List A) → IsIn x (xs ++ ys) → IsIn x xs ⊎ IsIn x ys
in_either x [] ys h = inr h
in_either x (y ∷ xs) ys (inl e) = inl (inl e)
in_either x (y ∷ xs) ys (inr h) = elim (in_either x xs ys h) [ inl a ↦ inl (inr a) | inr b ↦ inr b ]

pub in_last : {A : Type 0} (x : A) (xs : List A) → IsIn x (xs ++ x ∷ [])
in_last x xs = in_right x xs (x ∷ []) (inl refl)

pub in_front_or_last : {A : Type 0} (x y : A) (xs : List A) → IsIn x (xs ++ y ∷ []) → IsIn x xs ⊎ (x ≡ y)
in_front_or_last x y xs h = elim (in_either x xs (y ∷ []) h) [ inl a ↦ inl a | inr b ↦ elim b [ inl e ↦ inr e | inr z ↦ absurd z ] ]

-- rows

pub set_there : {A : Type 0} (rows : List (List A)) (p : ℕ) (x : List A) → p < length rows → row_at (slice_set rows p x) p ≡ x
set_there [] p x h = absurd (omega arith)
set_there (r ∷ rows) zero x h = refl
set_there (r ∷ rows) (suc p) x h = set_there rows p x (omega arith)

pub kept : {A : Type 0} (rows : List (List A)) (p : ℕ) (x : List A) → ((o : A) → IsIn o (row_at rows p) → IsIn o x) → (q : ℕ) (o : A) → IsIn o (row_at rows q) → IsIn o (row_at (slice_set rows p x) q)
kept [] p x f q o h = h
kept (r ∷ rows) zero x f zero o h = f o h
kept (r ∷ rows) zero x f (suc q) o h = h
kept (r ∷ rows) (suc p) x f zero o h = h
kept (r ∷ rows) (suc p) x f (suc q) o h = kept rows p x f q o h

pub row_is : {A : Type 0} (rows : List (List A)) (p : ℕ) (d : List A) → p < length rows → d ≡ slice_index_or rows p d → row_at rows p ≡ d
row_is [] p d h e = absurd (omega arith)
row_is (r ∷ rows) zero d h e = sym e
row_is (r ∷ rows) (suc p) d h e = row_is rows p d (omega arith) e

-- the row with an item put at its end
pub added_keeps : {A : Type 0} (old reached rows : List (List A)) (p : ℕ) (row new : List A) (x : A) → reached ≡ rows → p < length reached → ((q : ℕ) → row_at reached q ≡ row_at old q) → row ≡ slice_index_or rows p row → new ≡ row ++ x ∷ [] →
    (q : ℕ) (o : A) → IsIn o (row_at old q) → IsIn o (row_at (slice_set rows p new) q)
added_keeps old reached rows p row new x v h same e n q o m =
    let k : p < length rows = subst (λ l. p < length l) v h in
    kept rows p new (λ u i. subst (IsIn u) (sym n) (in_left u row (x ∷ []) (subst (IsIn u) (row_is rows p row k e) i))) q o (subst (λ l. IsIn o (row_at l q)) v (subst (IsIn o) (sym (same q)) m))

pub added_has : {A : Type 0} (reached rows : List (List A)) (p : ℕ) (row new : List A) (x : A) → reached ≡ rows → p < length reached → new ≡ row ++ x ∷ [] → IsIn x (row_at (slice_set rows p new) p)
added_has reached rows p row new x v h n = subst (IsIn x) (sym (set_there rows p new (subst (λ l. p < length l) v h) ∙ n)) (in_last x row)

pub set_elsewhere : {A : Type 0} (rows : List (List A)) (p : ℕ) (x : List A) (q : ℕ) → (q ≡ p → ⊥) → row_at (slice_set rows p x) q ≡ row_at rows q
set_elsewhere [] p x q n = refl
set_elsewhere (r ∷ rows) zero x zero n = absurd (n refl)
set_elsewhere (r ∷ rows) zero x (suc q) n = refl
set_elsewhere (r ∷ rows) (suc p) x zero n = refl
set_elsewhere (r ∷ rows) (suc p) x (suc q) n = set_elsewhere rows p x q (λ e. n (ap suc e))

pub added_exact : (old reached rows : List (List ℕ)) (p : ℕ) (row new : List ℕ) (x : ℕ) → reached ≡ rows → p < length reached → ((q : ℕ) → row_at reached q ≡ row_at old q) → row ≡ slice_index_or rows p row → new ≡ row ++ x ∷ [] → Added p x old (slice_set rows p new)
added_exact old reached rows p row new x v h same e n =
    let k : p < length rows = subst (λ l. p < length l) v h in
    let o : (q : ℕ) → row_at rows q ≡ row_at old q = λ q. ap (λ l. row_at l q) (sym v) ∙ same q in
    record {
      there = set_there rows p new k ∙ n ∙ ap (λ l. l ++ x ∷ []) (sym (row_is rows p row k e) ∙ o p);
      elsewhere = λ q w. set_elsewhere rows p new q w ∙ o q;
    }

-- one row more at the end, which is empty
pub grown : {A : Type 0} (xs : List A) (d : A) (i : ℕ) → slice_index_or (xs ++ d ∷ []) i d ≡ slice_index_or xs i d
grown [] d zero = refl
grown [] d (suc i) = refl
grown (x ∷ xs) d zero = refl
grown (x ∷ xs) d (suc i) = grown xs d i
