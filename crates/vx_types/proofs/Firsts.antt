-- The first of faults is the least of them.
use Rattle.std.proofs.Common.{◌≡◌, ◌⊎◌, inl, inr, ℕ, zero, suc, ◌<◌, ◌≤◌, Bool, true, false, if◌then◌else◌, nat_lt, List, [], ◌∷◌, length, refl, ap, sym, ◌∙◌, subst, Some, None, Contains, arith}
use Rattle.std.proofs.lemmas.Bool.{cases_lt, cases_order, ltb-true, lt-ltb}
use Rattle.vx_ast.specs.declared.names.Fault.{Fault}
use Rattle.vx_ast.specs.Faults.{least, stands_before, faults_of}
use Rattle.vx_types.specs.Laws.{Before, IsLeast, FirstIsLeast}
use Rattle.vx_types.proofs.SuitsProgram.{no_first}

-- lists

pub head_or_tail : {A : Type 0} (x : A) (xs : List A) (q : A) → Contains (x ∷ xs) q → (x ≡ q) ⊎ Contains xs q
head_or_tail x xs q (zero, h, e) = inl e
head_or_tail x xs q (suc k, h, e) = inr (k, (let n : suc k < suc (length xs) = h in omega (arith, n)), e)

in_head : {A : Type 0} (x : A) (xs : List A) → Contains (x ∷ xs) x
in_head x xs = (zero, omega arith, refl)

in_tail : {A : Type 0} (x : A) (xs : List A) (q : A) → Contains xs q → Contains (x ∷ xs) q
in_tail x xs q (k, h, e) = (suc k, (let n : k < length xs = h in omega (arith, n)), e)

in_none : {A : Type 0} (q : A) → Contains [] q → ⊥
in_none q (k, h, e) = (let n : k < 0 = h in omega (arith, n))

-- the order of three numbers each

abbrev Lower : (l c k m d n : ℕ) → Type 0
Lower l c k m d n = (l < m) ⊎ ((l ≡ m) × ((c < d) ⊎ ((c ≡ d) × (k < n))))

-- what stands between stands behind the first or before the last
splits : (l c k m d n p e o : ℕ) → Lower l c k p e o → Lower l c k m d n ⊎ Lower m d n p e o
splits l c k m d n p e o (inl h) = elim (cases_lt l m) [ inl x ↦ inl (inl x) | inr x ↦ inr (inl (omega (arith, h, x))) ]
splits l c k m d n p e o (inr (q, inl h)) = elim (cases_order l m) [
  | inl s ↦ elim (cases_lt c d) [ inl x ↦ inl (inr (s, inl x)) | inr x ↦ inr (inr (sym s ∙ q, inl (omega (arith, h, x)))) ]
  | inr t ↦ elim t [ inl x ↦ inl (inl x) | inr x ↦ inr (inl (omega (arith, q, x))) ]
]
splits l c k m d n p e o (inr (q, inr (r, h))) = elim (cases_order l m) [
  | inl s ↦ elim (cases_order c d) [
    | inl u ↦ elim (cases_lt k n) [ inl x ↦ inl (inr (s, inr (u, x))) | inr x ↦ inr (inr (sym s ∙ q, inr (sym u ∙ r, omega (arith, h, x)))) ]
    | inr t ↦ elim t [ inl x ↦ inl (inr (s, inl x)) | inr x ↦ inr (inr (sym s ∙ q, inl (omega (arith, r, x)))) ]
  ]
  | inr t ↦ elim t [ inl x ↦ inl (inl x) | inr x ↦ inr (inl (omega (arith, q, x))) ]
]

one_way : (l c k m d n : ℕ) → Lower l c k m d n → Lower m d n l c k → ⊥
one_way l c k m d n (inl h) (inl g) = omega (arith, h, g)
one_way l c k m d n (inl h) (inr (q, g)) = omega (arith, h, q)
one_way l c k m d n (inr (q, h)) (inl g) = omega (arith, q, g)
one_way l c k m d n (inr (q, inl h)) (inr (r, inl g)) = omega (arith, h, g)
one_way l c k m d n (inr (q, inl h)) (inr (r, inr (u, g))) = omega (arith, h, u)
one_way l c k m d n (inr (q, inr (s, h))) (inr (r, inl g)) = omega (arith, s, g)
one_way l c k m d n (inr (q, inr (s, h))) (inr (r, inr (u, g))) = omega (arith, h, g)

-- the test says what the order is

at_least : (m n : ℕ) → nat_lt m n ≡ false → n ≤ m
at_least m n e = elim (cases_lt m n) [ inl h ↦ (let t = lt-ltb m n h in cc) | inr h ↦ h ]

lower_true : (l c k m d n : ℕ) (x y z w : Bool) → nat_lt l m ≡ x → nat_lt m l ≡ y → nat_lt c d ≡ z → nat_lt d c ≡ w
    → (if x then true else if y then false else if z then true else if w then false else nat_lt k n) ≡ true → Lower l c k m d n
lower_true l c k m d n true y z w p q r s e = inl (ltb-true l m p)
lower_true l c k m d n false true z w p q r s e = cc
lower_true l c k m d n false false true w p q r s e =
    let a = at_least l m p in
    let b = at_least m l q in
    inr (omega (arith, a, b), inl (ltb-true c d r))
lower_true l c k m d n false false false true p q r s e = cc
lower_true l c k m d n false false false false p q r s e =
    let a = at_least l m p in
    let b = at_least m l q in
    let f = at_least c d r in
    let g = at_least d c s in
    inr (omega (arith, a, b), inr (omega (arith, f, g), ltb-true k n e))

lower_false : (l c k m d n : ℕ) (x y z w : Bool) → nat_lt l m ≡ x → nat_lt m l ≡ y → nat_lt c d ≡ z → nat_lt d c ≡ w
    → (if x then true else if y then false else if z then true else if w then false else nat_lt k n) ≡ false → Lower l c k m d n → ⊥
lower_false l c k m d n true y z w p q r s e o = cc
lower_false l c k m d n false true z w p q r s e (inl h) = (let a = at_least l m p in omega (arith, a, h))
lower_false l c k m d n false true z w p q r s e (inr (u, h)) = (let a = ltb-true m l q in omega (arith, a, u))
lower_false l c k m d n false false true w p q r s e o = cc
lower_false l c k m d n false false false w p q r s e (inl h) = (let a = at_least l m p in omega (arith, a, h))
lower_false l c k m d n false false false w p q r s e (inr (u, inl h)) = (let a = at_least c d r in omega (arith, a, h))
lower_false l c k m d n false false false true p q r s e (inr (u, inr (v, h))) = (let a = ltb-true d c s in omega (arith, a, v))
lower_false l c k m d n false false false false p q r s e (inr (u, inr (v, h))) = (let a = at_least k n e in omega (arith, a, h))

before_true : (f g : Fault) → stands_before f g ≡ true → Before f g
before_true f g e = lower_true f.place.line f.place.column f.code g.place.line g.place.column g.code (nat_lt f.place.line g.place.line) (nat_lt g.place.line f.place.line) (nat_lt f.place.column g.place.column) (nat_lt g.place.column f.place.column) refl refl refl refl e

before_false : (f g : Fault) → stands_before f g ≡ false → Before f g → ⊥
before_false f g e = lower_false f.place.line f.place.column f.code g.place.line g.place.column g.code (nat_lt f.place.line g.place.line) (nat_lt g.place.line f.place.line) (nat_lt f.place.column g.place.column) (nat_lt g.place.column f.place.column) refl refl refl refl e

between : (f g h : Fault) → Before f h → Before f g ⊎ Before g h
between f g h b = splits f.place.line f.place.column f.code g.place.line g.place.column g.code h.place.line h.place.column h.code b

never_both : (f g : Fault) → Before f g → Before g f → ⊥
never_both f g b d = one_way f.place.line f.place.column f.code g.place.line g.place.column g.code b d

-- the least of a fault and of others

record Least (a : Fault) (fs : List Fault) (f : Fault) : Type 0 where
  one : (f ≡ a) ⊎ Contains fs f
  not_first : Before a f → ⊥
  not_later : (g : Fault) → Contains fs g → Before g f → ⊥

least_of_more : (a b : Fault) (bs : List Fault) (f : Fault) (v : Bool) → stands_before b a ≡ v → Least (if v then b else a) bs f → Least a (b ∷ bs) f
least_of_more a b bs f true t r = record {
  one = elim r.one [ inl q ↦ inr (subst (λ (z : Fault). Contains (b ∷ bs) z) (sym q) (in_head b bs)) | inr c ↦ inr (in_tail b bs f c) ];
  not_first = λ h. elim (between a b f h) [ inl x ↦ never_both a b x (before_true b a t) | inr x ↦ r.not_first x ];
  not_later = λ g c h. elim (head_or_tail b bs g c) [ inl q ↦ r.not_first (subst (λ (z : Fault). Before z f) (sym q) h) | inr x ↦ r.not_later g x h ];
}
least_of_more a b bs f false t r = record {
  one = elim r.one [ inl q ↦ inl q | inr c ↦ inr (in_tail b bs f c) ];
  not_first = r.not_first;
  not_later = λ g c h. elim (head_or_tail b bs g c) [
    | inl q ↦ elim (between b a f (subst (λ (z : Fault). Before z f) (sym q) h)) [ inl x ↦ before_false b a t x | inr x ↦ r.not_first x ]
    | inr x ↦ r.not_later g x h
  ];
}

some_least : (a : Fault) (fs : List Fault) (f : Fault) → least (Some a) fs ≡ Some f → Least a fs f
some_least a [] f e =
    let q : f ≡ a = cc in
    record {
      one = inl q;
      not_first = λ h. never_both a a (subst (λ (z : Fault). Before a z) q h) (subst (λ (z : Fault). Before a z) q h);
      not_later = λ g c h. absurd (in_none g c);
    }
some_least a (b ∷ bs) f e = least_of_more a b bs f (stands_before b a) refl (some_least (if stands_before b a then b else a) bs f e)

least_is : (fs : List Fault) (f : Fault) → least None fs ≡ Some f → IsLeast f fs
least_is [] f e = cc
least_is (a ∷ fs) f e =
    let r = some_least a fs f e in
    record {
      is_one = elim r.one [ inl q ↦ subst (λ (z : Fault). Contains (a ∷ fs) z) (sym q) (in_head a fs) | inr c ↦ in_tail a fs f c ];
      none_before = λ g c h. elim (head_or_tail a fs g c) [ inl q ↦ r.not_first (subst (λ (z : Fault). Before z f) (sym q) h) | inr x ↦ r.not_later g x h ];
    }

pub first_is_least : FirstIsLeast
first_is_least p = (λ f e. least_is (faults_of p) f e, (λ e. no_first (faults_of p) e, λ e. ap (λ (z : List Fault). least None z) e))
