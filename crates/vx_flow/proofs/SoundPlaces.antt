-- Values that are places of one array and nothing else: the test and the words for it.
use Rattle.std.proofs.Common.{◌≡◌, inl, inr, ℕ, Bool, true, false, ◌==◌, ◌||◌, [], ◌∷◌, ◌++◌, refl, sym, ap, subst, ◌∙◌, eq-eqb}
use Rattle.std.proofs.lemmas.Bool.{and_parts, false≢true, eqb-true}
use Rattle.std.specs.Cmp.Derive.{both_true}
use Rattle.std.specs.Prelude.{not}
use Rattle.vx_base.specs.declared.arithmetic.Code.{Code}
use Rattle.vx_base.specs.declared.arithmetic.Code.TheVariants.{Mov}
use Rattle.vx_flow.specs.declared.graph.Operand.{Operand}
use Rattle.vx_flow.specs.declared.graph.Operand.TheVariants.{Held, Number, Stack}
use Rattle.vx_flow.specs.declared.graph.Op.{Op}
use Rattle.vx_flow.specs.declared.graph.Op.TheVariants.{Compute, Select, Place, Load, Store, More, Input, Text, Decimal, Across, Base, PlaceIn}
use Rattle.vx_flow.specs.Effects.{IsIn, value_in, reads, writes}
use Rattle.vx_flow.specs.Sound.{is_value, is_right_value, keeps_place, IsAccess, loads, stores, MakesPlace, by_itself, by_base, ReadAsPlace}
use Rattle.vx_flow.proofs.Members.{in_left, in_right, in_either}
use Rattle.vx_flow.proofs.SoundLists.{in_one, or_parts, not_both, not_of, differs, differs_of}

value_is : (v : ℕ) (x : Operand) → is_value v x ≡ true → x ≡ Held v
value_is v (Held u) h = ap Held (eqb-true u v h)
value_is v (Number n) h = absurd (false≢true h)
value_is v Stack h = absurd (false≢true h)

value_of : (v : ℕ) (x : Operand) → x ≡ Held v → is_value v x ≡ true
value_of v x e = subst (λ y. is_value v y ≡ true) (sym e) (eq-eqb v v refl)

pub unheld : (v : ℕ) (x : Operand) → not (is_value v x) ≡ true → x ≡ Held v → ⊥
unheld v x h e = not_both (is_value v x) (value_of v x e) h

pub unheld_of : (v : ℕ) (x : Operand) → (x ≡ Held v → ⊥) → not (is_value v x) ≡ true
unheld_of v x f = not_of (is_value v x) (λ h. f (value_is v x h))

pub read_is : (v : ℕ) (x : Operand) → IsIn v (value_in x) → x ≡ Held v
read_is v (Held u) m = ap Held (sym (in_one v u m))
read_is v (Number n) m = absurd m
read_is v Stack m = absurd m

pub read_of : (v : ℕ) (x : Operand) → x ≡ Held v → IsIn v (value_in x)
read_of v x e = subst (λ y. IsIn v (value_in y)) (sym e) (inl refl)

-- reads of operands that do not hold v
pub none_of : (v : ℕ) (x y : Operand) → not (is_value v x) ≡ true → not (is_value v y) ≡ true → IsIn v (value_in x ++ value_in y) → ⊥
none_of v x y h k m = elim (in_either v (value_in x) (value_in y) m) [ inl a ↦ unheld v x h (read_is v x a) | inr b ↦ unheld v y k (read_is v y b) ]

pub compute_reads : (code : Code) (v u : ℕ) (x y : Operand) → not (is_value v x) ≡ true → not (is_right_value v code y) ≡ true → IsIn v (reads (Compute code u x y)) → ⊥
compute_reads Mov v u x y h k m = unheld v x h (read_is v x m)
compute_reads code v u x y h k m = none_of v x y h k m

pub writes_other : (v u : ℕ) → not (u == v) ≡ true → IsIn v (u ∷ []) → ⊥
writes_other v u h m = differs u v h (sym (in_one v u m))

as_load : (v a u b : ℕ) (p : Operand) (dismissible : Bool) → p ≡ Held v → b ≡ a → ReadAsPlace v a (Load u b p dismissible)
as_load v a u b p dismissible e f = record {
  access = subst (λ q. IsAccess a (Held v) (Load u b q dismissible)) (sym e) (subst (λ c. IsAccess a (Held v) (Load u c (Held v) dismissible)) (sym f) loads);
  unstored = λ x is. absurd (cc);
}

as_store : (v a b : ℕ) (p x : Operand) → p ≡ Held v → b ≡ a → (x ≡ Held v → ⊥) → ReadAsPlace v a (Store b p x)
as_store v a b p x e f unheld = record {
  access = subst (λ q. IsAccess a (Held v) (Store b q x)) (sym e) (subst (λ c. IsAccess a (Held v) (Store c (Held v) x)) (sym f) stores);
  unstored = λ y is held. let same : x ≡ y = cc in unheld (same ∙ held);
}

-- (not (is_value v p) || (b == a)) where p holds v
same_array : (v a b : ℕ) (p : Operand) → (not (is_value v p) || (b == a)) ≡ true → p ≡ Held v → b ≡ a
same_array v a b p h e = elim (or_parts (not (is_value v p)) (b == a) h) [ inl k ↦ absurd (unheld v p k e) | inr k ↦ eqb-true b a k ]

pub keeps_reads : (v a : ℕ) (op : Op) → keeps_place v a op ≡ true → IsIn v (reads op) → ReadAsPlace v a op
keeps_reads v a (Compute code u x y) h m =
    let (ab, c) = and_parts _ _ h in
    absurd (compute_reads code v u x y (and_parts _ _ ab).1 c m)
keeps_reads v a (Select u p x y) h (inl e) =
    let (abc, d) = and_parts _ _ h in
    let (ab, c) = and_parts _ _ abc in
    absurd (differs p v (and_parts _ _ ab).1 (sym e))
keeps_reads v a (Select u p x y) h (inr m) =
    let (abc, d) = and_parts _ _ h in
    absurd (none_of v x y (and_parts _ _ abc).1 d m)
keeps_reads v a (Place u b i) h m = absurd (unheld v i (and_parts _ _ h).1 (read_is v i m))
keeps_reads v a (Load u b p dismissible) h m =
    let e : p ≡ Held v = read_is v p m in
    as_load v a u b p dismissible e (same_array v a b p (and_parts _ _ h).1 e)
keeps_reads v a (Store b p x) h m =
    let (ab, c) = and_parts _ _ h in
    elim (in_either v (value_in p) (value_in x) m) [
      | inl k ↦ as_store v a b p x (read_is v p k) (same_array v a b p ab (read_is v p k)) (unheld v x c)
      | inr k ↦ absurd (unheld v x c (read_is v x k))
    ]
keeps_reads v a (Decimal x) h m = absurd (unheld v x h (read_is v x m))
keeps_reads v a (Across u w) h m = absurd (writes_other v w (and_parts _ _ h).1 m)
keeps_reads v a (PlaceIn u b w i) h m =
    let (ab, c) = and_parts _ _ h in
    let (x, y) = and_parts _ _ ab in
    elim (in_either v (value_in i) (w ∷ []) m) [
      | inl k ↦ absurd (unheld v i y (read_is v i k))
      | inr k ↦ absurd (writes_other v w c k)
    ]
keeps_reads v a op h m = absurd m

by_place : (v a u b : ℕ) (i : Operand) → v ≡ u → b ≡ a → MakesPlace v a (Place u b i)
by_place v a u b i e f = subst (λ w. MakesPlace v a (Place w b i)) e (subst (λ c. MakesPlace v a (Place v c i)) (sym f) by_itself)

by_place_in : (v a u b w : ℕ) (i : Operand) → v ≡ u → b ≡ a → MakesPlace v a (PlaceIn u b w i)
by_place_in v a u b w i e f = subst (λ x. MakesPlace v a (PlaceIn x b w i)) e (subst (λ c. MakesPlace v a (PlaceIn v c w i)) (sym f) by_base)

pub keeps_writes : (v a : ℕ) (op : Op) → keeps_place v a op ≡ true → IsIn v (writes op) → MakesPlace v a op
keeps_writes v a (Compute code u x y) h m =
    let (ab, c) = and_parts _ _ h in
    absurd (writes_other v u (and_parts _ _ ab).0 m)
keeps_writes v a (Select u p x y) h m =
    let (abc, d) = and_parts _ _ h in
    let (ab, c) = and_parts _ _ abc in
    absurd (writes_other v u (and_parts _ _ ab).0 m)
keeps_writes v a (Place u b i) h m =
    let e : v ≡ u = in_one v u m in
    elim (or_parts (not (u == v)) (b == a) (and_parts _ _ h).0) [
      | inl k ↦ absurd (differs u v k (sym e))
      | inr k ↦ by_place v a u b i e (eqb-true b a k)
    ]
keeps_writes v a (Load u b p dismissible) h m = absurd (writes_other v u (and_parts _ _ h).0 m)
keeps_writes v a (More u) h m = absurd (writes_other v u h m)
keeps_writes v a (Input u) h m = absurd (writes_other v u h m)
keeps_writes v a (Across u w) h m = absurd (writes_other v u (and_parts _ _ h).0 m)
keeps_writes v a (Base u b x) h m = absurd (writes_other v u h m)
keeps_writes v a (PlaceIn u b w i) h m =
    let (ab, c) = and_parts _ _ h in
    let e : v ≡ u = in_one v u m in
    elim (or_parts (not (u == v)) (b == a) (and_parts _ _ ab).0) [
      | inl k ↦ absurd (differs u v k (sym e))
      | inr k ↦ by_place_in v a u b w i e (eqb-true b a k)
    ]
keeps_writes v a op h m = absurd m

-- and back

unwritten : (v a u : ℕ) (op : Op) → (IsIn v (u ∷ []) → MakesPlace v a op) → (MakesPlace v a op → ⊥) → not (u == v) ≡ true
unwritten v a u op w f = differs_of u v (λ e. f (w (inl (sym e))))

-- an operand that is read by what is no access
unread : (v a : ℕ) (op : Op) (x : Operand) → (x ≡ Held v → ReadAsPlace v a op) → (IsAccess a (Held v) op → ⊥) → not (is_value v x) ≡ true
unread v a op x r f = unheld_of v x (λ e. f (r e).access)

compute_keeps : (v a : ℕ) (code : Code) (u : ℕ) (x y : Operand) → (IsIn v (u ∷ []) → MakesPlace v a (Compute code u x y)) → (IsIn v (reads (Compute code u x y)) → ReadAsPlace v a (Compute code u x y)) → keeps_place v a (Compute code u x y) ≡ true
compute_keeps v a Mov u x y w r =
    both_true (both_true (unwritten v a u (Compute Mov u x y) w (λ n. elim n [ ])) (unread v a (Compute Mov u x y) x (λ e. r (read_of v x e)) (λ n. elim n [ ]))) refl
compute_keeps v a code u x y w r =
    both_true
    (both_true (unwritten v a u (Compute code u x y) w (λ n. elim n [ ])) (unread v a (Compute code u x y) x (λ e. r (in_left v (value_in x) (value_in y) (read_of v x e))) (λ n. elim n [ ])))
    (unread v a (Compute code u x y) y (λ e. r (in_right v (value_in x) (value_in y) (read_of v y e))) (λ n. elim n [ ]))

array_made : (v a u b : ℕ) (i : Operand) → MakesPlace v a (Place u b i) → b ≡ a
array_made v a u b i by_itself = refl

array_made_by : (v a u b w : ℕ) (i : Operand) → MakesPlace v a (PlaceIn u b w i) → b ≡ a
array_made_by v a u b w i by_base = refl

same_where : (v a u b : ℕ) → (IsIn v (u ∷ []) → b ≡ a) → (not (u == v) || (b == a)) ≡ true
same_where v a u b f = by (u == v) refl
  where
    by : (t : Bool) → (u == v) ≡ t → (not t || (b == a)) ≡ true
    by true e = eq-eqb b a (f (inl (sym (eqb-true u v e))))
    by false e = refl

place_of_same : (v a b : ℕ) (p : Operand) → (p ≡ Held v → b ≡ a) → (not (is_value v p) || (b == a)) ≡ true
place_of_same v a b p f = by (is_value v p) refl
  where
    by : (t : Bool) → is_value v p ≡ t → (not t || (b == a)) ≡ true
    by true e = eq-eqb b a (f (value_is v p e))
    by false e = refl

access_array : (a b : ℕ) (q : Operand) (u : ℕ) (p : Operand) (dismissible : Bool) → IsAccess a q (Load u b p dismissible) → b ≡ a
access_array a b q u p dismissible loads = refl

store_array : (a b : ℕ) (q p x : Operand) → IsAccess a q (Store b p x) → b ≡ a
store_array a b q p x stores = refl

store_is : (a b : ℕ) (q p x : Operand) → IsAccess a q (Store b p x) → Store b p x ≡ Store a q x
store_is a b q p x stores = refl

stored_place : (v a b : ℕ) (p x : Operand) → (x ≡ Held v → ReadAsPlace v a (Store b p x)) → x ≡ Held v → ⊥
stored_place v a b p x r e = (r e).unstored x (store_is a b (Held v) p x (r e).access) e

pub keeps_of : (v a : ℕ) (op : Op) → (IsIn v (writes op) → MakesPlace v a op) → (IsIn v (reads op) → ReadAsPlace v a op) → keeps_place v a op ≡ true
keeps_of v a (Compute code u x y) w r = compute_keeps v a code u x y w r
keeps_of v a (Select u p x y) w r =
    let op : Op = Select u p x y in
    both_true
    (both_true
    (both_true (unwritten v a u op w (λ n. elim n [ ])) (differs_of p v (λ e. elim (r (inl (sym e))).access [ ])))
    (unread v a op x (λ e. r (inr (in_left v (value_in x) (value_in y) (read_of v x e)))) (λ n. elim n [ ])))
    (unread v a op y (λ e. r (inr (in_right v (value_in x) (value_in y) (read_of v y e)))) (λ n. elim n [ ]))
keeps_of v a (Place u b i) w r =
    both_true (same_where v a u b (λ m. array_made v a u b i (w m))) (unread v a (Place u b i) i (λ e. r (read_of v i e)) (λ n. elim n [ ]))
keeps_of v a (Load u b p dismissible) w r =
    both_true (unwritten v a u (Load u b p dismissible) w (λ n. elim n [ ])) (place_of_same v a b p (λ e. access_array a b (Held v) u p dismissible (r (read_of v p e)).access))
keeps_of v a (Store b p x) w r = both_true
    (place_of_same v a b p (λ e. store_array a b (Held v) p x (r (in_left v (value_in p) (value_in x) (read_of v p e))).access))
    (unheld_of v x (stored_place v a b p x (λ e. r (in_right v (value_in p) (value_in x) (read_of v x e)))))
keeps_of v a (Text n) w r = refl
keeps_of v a (Decimal x) w r = unread v a (Decimal x) x (λ e. r (read_of v x e)) (λ n. elim n [ ])
keeps_of v a (Across u t) w r = both_true (unwritten v a u (Across u t) w (λ n. elim n [ ])) (differs_of t v (λ e. elim (r (inl (sym e))).access [ ]))
keeps_of v a (PlaceIn u b t i) w r =
    let op : Op = PlaceIn u b t i in
    both_true
    (both_true (same_where v a u b (λ m. array_made_by v a u b t i (w m))) (unread v a op i (λ e. r (in_left v (value_in i) (t ∷ []) (read_of v i e))) (λ n. elim n [ ])))
    (differs_of t v (λ e. elim (r (in_right v (value_in i) (t ∷ []) (inl (sym e)))).access [ ]))
keeps_of v a op w r = unwritten v a _ op w (λ n. elim n [ ])
