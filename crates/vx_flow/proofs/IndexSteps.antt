-- One more route in an index of routes.
use Rattle.std.proofs.Common.{◌≡◌, ◌⊎◌, inl, inr, ℕ, zero, suc, ◌+◌, ◌<◌, ◌≤◌, Bool, true, false, ◌==◌, cond, List, [], ◌∷◌, ◌++◌, length, drop, drop-cons, get_or, slice_get, slice_set, Option, Some, refl, sym, ap, subst, ◌∙◌, arith, eq-eqb, eqb-true}
use Rattle.std.proofs.lemmas.Bool.Decides.{eqb_tells}
use Rattle.vx_flow.specs.declared.routes.Touch.{Touch}
use Rattle.vx_flow.specs.declared.routes.Route.{Route}
use Rattle.vx_flow.specs.Effects.{IsIn}
use Rattle.vx_flow.specs.Live.{first_touch}
use Rattle.vx_flow.specs.Rows.{row_at, RowsKept}
use Rattle.vx_flow.specs.Closing.{MarkPut, mark_at}

pub get_some : {A : Type 0} (xs : List A) (i : ℕ) (d : A) → i < length xs → d ≡ get_or xs i d → slice_get xs i ≡ Some d
get_some [] i d h e = absurd (omega arith)
get_some (x ∷ xs) zero d h e = ap Some (sym e)
get_some (x ∷ xs) (suc i) d h e = get_some xs i d (omega arith) e

pub get_below : {A : Type 0} (xs : List A) (i : ℕ) (d : A) → slice_get xs i ≡ Some d → i < length xs
get_below [] i d e = absurd (cc)
get_below (x ∷ xs) zero d e = omega arith
get_below (x ∷ xs) (suc i) d e = let h = get_below xs i d e in omega arith

-- what is listed, and what is still to do
pub record Entered (to : List ℕ) (index : ℕ) (before after : List (List ℕ)) (todo : List ℕ) : Type 0 where
  pub keeps : RowsKept before after
  pub has : (c : ℕ) → IsIn c to → IsIn index (row_at after c) ⊎ IsIn c todo

pub entered_step : (to : List ℕ) (index : ℕ) (before now after : List (List ℕ)) (i : ℕ) → i < length to → Entered to index before now (drop i to) → RowsKept now after → IsIn index (row_at after (get_or to i 0)) → Entered to index before after (drop (i + 1) to)
entered_step to index before now after i h s k n = record {
  keeps = λ row other m. k row other (s.keeps row other m);
  has = λ c m. elim (s.has c m) [
    | inl a ↦ inl (k c index a)
    | inr b ↦ let q : IsIn c (get_or to i 0 ∷ drop (suc i) to) = subst (IsIn c) (drop-cons to i 0 h) b in elim q [
      | inl e ↦ inl (subst (λ x. IsIn index (row_at after x)) (sym e) n)
      | inr d ↦ inr (let w : suc i ≡ i + 1 = omega arith in subst (λ j. IsIn c (drop j to)) w d)
    ]
  ];
}

-- what is listed, and what is still to do; a value with the mark has been listed if the route reads it first
pub record Listing (touches : List Touch) (index mark : ℕ) (before after : List (List ℕ)) (marks : List ℕ) (todo : List Touch) : Type 0 where
  pub keeps : RowsKept before after
  pub has : (v : ℕ) → first_touch v touches ≡ Some true → IsIn index (row_at after v) ⊎ (first_touch v todo ≡ Some true)
  pub seen : (v : ℕ) → mark_at marks v ≡ mark → first_touch v touches ≡ Some true → IsIn index (row_at after v)
  pub most : (v : ℕ) → mark_at marks v ≤ mark

pub listing_first : (touches : List Touch) (index mark : ℕ) (rows : List (List ℕ)) (marks : List ℕ) → ((v : ℕ) → mark_at marks v < mark) → Listing touches index mark rows rows marks touches
listing_first touches index mark rows marks h = record {
  keeps = λ row other m. m;
  has = λ v m. inr m;
  seen = λ v e m. let k : mark_at marks v < mark = h v in absurd (omega (arith, e, k));
  most = λ v. let k : mark_at marks v < mark = h v in omega (arith, k);
}

first_cases : (v : ℕ) (t : Touch) (ts : List Touch) (b : Bool) → (t.value == v) ≡ b → cond b (Some t.reads) (first_touch v ts) ≡ Some true → ((t.value ≡ v) × (t.reads ≡ true)) ⊎ (first_touch v ts ≡ Some true)
first_cases v t ts true e h = inl (eqb-true t.value v e, cc)
first_cases v t ts false e h = inr h

same_or_not : (m n : ℕ) → (m ≡ n) ⊎ (m ≡ n → ⊥)
same_or_not m n = elim (eqb_tells m n) [ inl t ↦ inl t.1 | inr t ↦ inr t.1 ]

module _ (touches : List Touch) (index mark : ℕ) (before now after : List (List ℕ)) (marks later : List ℕ) (t : Touch) (rest : List Touch)
    (s : Listing touches index mark before now marks (t ∷ rest)) (k : RowsKept now after) (n : (mark_at marks t.value ≡ mark → ⊥) → t.reads ≡ true → IsIn index (row_at after t.value)) where
  -- the value of this touch is listed, if the route reads it first
  this_one : first_touch t.value touches ≡ Some true → IsIn index (row_at after t.value) ⊎ (first_touch t.value (t ∷ rest) ≡ Some true) → (mark_at marks t.value ≡ mark) ⊎ (mark_at marks t.value ≡ mark → ⊥) → IsIn index (row_at after t.value)
  this_one m (inl a) d = a
  this_one m (inr b) (inl e) = k t.value index (s.seen t.value e m)
  this_one m (inr b) (inr d) = n d (read_now (first_touch t.value rest) b)
    where
      read_now : (o : Option Bool) → cond (t.value == t.value) (Some t.reads) o ≡ Some true → t.reads ≡ true
      read_now o q = let e : (t.value == t.value) ≡ true = eq-eqb t.value t.value refl in let z : Some t.reads ≡ Some true = sym (ap (λ b. cond b (Some t.reads) o) e) ∙ q in cc

  this_is : first_touch t.value touches ≡ Some true → IsIn index (row_at after t.value)
  this_is m = this_one m (elim (s.has t.value m) [ inl a ↦ inl (k t.value index a) | inr b ↦ inr b ]) (same_or_not (mark_at marks t.value) mark)

  pub listing_step : MarkPut t.value mark marks later → Listing touches index mark before after later rest
  listing_step p = record {
    keeps = λ row other m. k row other (s.keeps row other m);
    has = λ v m. elim (s.has v m) [
      | inl a ↦ inl (k v index a)
      | inr b ↦ elim (first_cases v t rest (t.value == v) refl b) [ inl q ↦ inl (subst (λ x. first_touch x touches ≡ Some true → IsIn index (row_at after x)) q.0 this_is m) | inr c ↦ inr c ]
    ];
    seen = λ v e m. elim (same_or_not v t.value) [
      | inl q ↦ subst (λ x. first_touch x touches ≡ Some true → IsIn index (row_at after x)) (sym q) this_is m
      | inr d ↦ k v index (s.seen v (sym (p.elsewhere v d) ∙ e) m)
    ];
    most = λ v. elim (same_or_not v t.value) [
      | inl q ↦ let e : mark_at later v ≡ mark = ap (mark_at later) q ∙ p.there in omega (arith, e)
      | inr d ↦ let e : mark_at later v ≡ mark_at marks v = p.elsewhere v d in let h : mark_at marks v ≤ mark = s.most v in omega (arith, e, h)
    ];
  }

-- the routes before number n are listed

pub at_or_after : (n i : ℕ) → n ≤ i → (n ≡ i) ⊎ (n + 1 ≤ i)
at_or_after zero zero h = inl refl
at_or_after zero (suc i) h = inr (omega arith)
at_or_after (suc n) zero h = absurd (omega arith)
at_or_after (suc n) (suc i) h = elim (at_or_after n i (omega arith)) [ inl e ↦ inl (ap suc e) | inr k ↦ inr (omega arith) ]

pub record EnteredBelow (routes : List Route) (rows : List (List ℕ)) (n : ℕ) : Type 0 where
  pub found : (i c : ℕ) (r : Route) → slice_get routes i ≡ Some r → IsIn c r.to → IsIn i (row_at rows c) ⊎ (n ≤ i)

pub entered_below : (routes : List Route) (now after : List (List ℕ)) (n : ℕ) (r : Route) → EnteredBelow routes now n → slice_get routes n ≡ Some r → RowsKept now after → ((c : ℕ) → IsIn c r.to → IsIn n (row_at after c)) → EnteredBelow routes after (n + 1)
entered_below routes now after n r s e k h = record {
  found = λ i c x q m. elim (s.found i c x q m) [
    | inl a ↦ inl (k c i a)
    | inr b ↦ elim (at_or_after n i b) [
      | inl w ↦ inl (let u : r ≡ x = cc in subst (λ j. IsIn j (row_at after c)) w (h c (subst (λ (z : Route). IsIn c z.to) (sym u) m)))
      | inr w ↦ inr w
    ]
  ];
}

pub record ReadBelow (routes : List Route) (rows : List (List ℕ)) (n : ℕ) : Type 0 where
  pub found : (i v : ℕ) (r : Route) → slice_get routes i ≡ Some r → first_touch v r.touches ≡ Some true → IsIn i (row_at rows v) ⊎ (n ≤ i)

pub read_below : (routes : List Route) (now after : List (List ℕ)) (n : ℕ) (r : Route) → ReadBelow routes now n → slice_get routes n ≡ Some r → RowsKept now after → ((v : ℕ) → first_touch v r.touches ≡ Some true → IsIn n (row_at after v)) → ReadBelow routes after (n + 1)
read_below routes now after n r s e k h = record {
  found = λ i v x q m. elim (s.found i v x q m) [
    | inl a ↦ inl (k v i a)
    | inr b ↦ elim (at_or_after n i b) [
      | inl w ↦ inl (let u : r ≡ x = cc in subst (λ j. IsIn j (row_at after v)) w (h v (subst (λ (z : Route). first_touch v z.touches ≡ Some true) (sym u) m)))
      | inr w ↦ inr w
    ]
  ];
}

pub listing_along : (touches : List Touch) (index mark : ℕ) (before now after : List (List ℕ)) (marks later : List ℕ) (i : ℕ) (d : Touch) → i < length touches → Listing touches index mark before now marks (drop i touches) → RowsKept now after →
    ((mark_at marks (get_or touches i d).value ≡ mark → ⊥) → (get_or touches i d).reads ≡ true → IsIn index (row_at after (get_or touches i d).value)) → MarkPut (get_or touches i d).value mark marks later → Listing touches index mark before after later (drop (i + 1) touches)
listing_along touches index mark before now after marks later i d h s k n p =
    let w : suc i ≡ i + 1 = omega arith in
    subst (λ j. Listing touches index mark before after later (drop j touches)) w (listing_step touches index mark before now after marks later (get_or touches i d) (drop (suc i) touches) (subst (λ l. Listing touches index mark before now marks l) (drop-cons touches i d h) s) k n p)

-- marks

pub no_marks : (v : ℕ) → mark_at [] v ≡ 0
no_marks v = refl

pub marks_more : (marks : List ℕ) (v : ℕ) → mark_at (marks ++ 0 ∷ []) v ≡ mark_at marks v
marks_more [] zero = refl
marks_more [] (suc v) = refl
marks_more (x ∷ marks) zero = refl
marks_more (x ∷ marks) (suc v) = marks_more marks v

put_there : (marks : List ℕ) (v mark : ℕ) → v < length marks → mark_at (slice_set marks v mark) v ≡ mark
put_there [] v mark h = absurd (omega arith)
put_there (x ∷ marks) zero mark h = refl
put_there (x ∷ marks) (suc v) mark h = put_there marks v mark (omega arith)

put_elsewhere : (marks : List ℕ) (v mark u : ℕ) → (u ≡ v → ⊥) → mark_at (slice_set marks v mark) u ≡ mark_at marks u
put_elsewhere [] v mark u d = refl
put_elsewhere (x ∷ marks) zero mark zero d = absurd (d refl)
put_elsewhere (x ∷ marks) zero mark (suc u) d = refl
put_elsewhere (x ∷ marks) (suc v) mark zero d = refl
put_elsewhere (x ∷ marks) (suc v) mark (suc u) d = put_elsewhere marks v mark u (λ e. d (ap suc e))

-- a mark is put into a list that was made long enough
pub mark_put : (before reached after : List ℕ) (v mark : ℕ) → v < length reached → ((u : ℕ) → mark_at reached u ≡ mark_at before u) → after ≡ slice_set reached v mark → MarkPut v mark before after
mark_put before reached after v mark h same e = record {
  there = ap (λ l. mark_at l v) e ∙ put_there reached v mark h;
  elsewhere = λ u d. ap (λ l. mark_at l u) e ∙ put_elsewhere reached v mark u d ∙ same u;
}
