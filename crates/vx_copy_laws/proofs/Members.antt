-- Members of lists, and of lists of copies that serve.
use Rattle.std.proofs.Common.{◌≡◌, inl, inr, ⊎_elim, ◌&&◌, ◌||◌, ◌==◌, refl, sym, ◌∙◌, ap, subst, Bool, true, false, nat_eq, if◌then◌else◌, ℕ, zero, suc, Some, List, [], ◌∷◌, slice_get}
use Rattle.std.specs.List.{list_any, filter}
use Rattle.std.proofs.lemmas.Bool.{eqb-true, eq-eqb, true≢false}
use Rattle.vx_flow.specs.Effects.{IsIn}
use Rattle.vx_bug.specs.declared.served.Served.{Served}
use Rattle.vx_bug.specs.Copies.{is_served, serve}

-- members

pub in_place : {A : Type 0} (xs : List A) (n : ℕ) (x : A) → slice_get xs n ≡ Some x → IsIn x xs
in_place [] n x e = absurd cc
in_place (y ∷ ys) zero x e = let q : x ≡ y = cc in inl q
in_place (y ∷ ys) (suc n) x e = inr (in_place ys n x e)

pub place_of_member : {A : Type 0} (xs : List A) (x : A) → IsIn x xs → (n : ℕ) × (slice_get xs n ≡ Some x)
place_of_member [] x i = absurd i
place_of_member (y ∷ ys) x (inl q) = (0, ap Some (sym q))
place_of_member (y ∷ ys) x (inr i) = let r = place_of_member ys x i in (suc r.0, r.1)

pub in_filter : {A : Type 0} (p : A → Bool) (xs : List A) (x : A) → IsIn x (filter p xs) → IsIn x xs × (p x ≡ true)
in_filter p [] x h = absurd h
in_filter p (y ∷ ys) x h = by (p y) refl (in_filter p ys x)
  where
    by : (b : Bool) → p y ≡ b → (IsIn x (filter p ys) → IsIn x ys × (p x ≡ true)) → IsIn x (y ∷ ys) × (p x ≡ true)
    by true e more = ⊎_elim (λ q. (inl q, ap p q ∙ e)) (λ i. (inr (more i).0, (more i).1)) (subst (λ b. IsIn x (if b then y ∷ filter p ys else filter p ys)) e h)
    by false e more = let r = more (subst (λ b. IsIn x (if b then y ∷ filter p ys else filter p ys)) e h) in (inr r.0, r.1)

pub filter_has : {A : Type 0} (p : A → Bool) (xs : List A) (x : A) → IsIn x xs → p x ≡ true → IsIn x (filter p xs)
filter_has p [] x i e = absurd i
filter_has p (y ∷ ys) x i e = by (p y) refl (λ j. filter_has p ys x j e)
  where
    by : (b : Bool) → p y ≡ b → (IsIn x ys → IsIn x (filter p ys)) → IsIn x (if p y then y ∷ filter p ys else filter p ys)
    by true f more = subst (λ b. IsIn x (if b then y ∷ filter p ys else filter p ys)) (sym f) (⊎_elim (λ q. inl q) (λ j. inr (more j)) i)
    by false f more = subst (λ b. IsIn x (if b then y ∷ filter p ys else filter p ys)) (sym f) (⊎_elim (λ q. absurd (true≢false (sym e ∙ ap p q ∙ f))) (λ j. more j) i)

pub any_is_in : (x : ℕ) (xs : List ℕ) → list_any (nat_eq x) xs ≡ true → IsIn x xs
any_is_in x [] e = absurd cc
any_is_in x (y ∷ ys) e = by (nat_eq x y) refl (any_is_in x ys)
  where
    by : (b : Bool) → nat_eq x y ≡ b → (list_any (nat_eq x) ys ≡ true → IsIn x ys) → IsIn x (y ∷ ys)
    by true f more = inl (eqb-true x y f)
    by false f more = inr (more (sym (ap (λ b. b || list_any (nat_eq x) ys) f) ∙ e))

-- copies that serve

abbrev pub copy : (v k : ℕ) → Served
copy v k = record { value = v; cluster = k }

abbrev pub Has : List Served → (v k : ℕ) → Type 0
Has served v k = IsIn (copy v k) served

both_true : (a b : Bool) → (a && b) ≡ true → (a ≡ true) × (b ≡ true)
both_true true true e = (refl, refl)
both_true true false e = absurd cc
both_true false b e = absurd cc

pub served_has : (served : List Served) (v k : ℕ) → is_served served v k ≡ true → Has served v k
served_has [] v k e = absurd cc
served_has (s ∷ ss) v k e = by ((s.value == v) && (s.cluster == k)) refl (served_has ss v k)
  where
    by : (b : Bool) → ((s.value == v) && (s.cluster == k)) ≡ b → (is_served ss v k ≡ true → Has ss v k) → Has (s ∷ ss) v k
    by true f more =
        let r = both_true (s.value == v) (s.cluster == k) f in
        let one : s.value ≡ v = eqb-true s.value v r.0 in
        let two : s.cluster ≡ k = eqb-true s.cluster k r.1 in
        let q : copy v k ≡ s = ap (λ x. copy x k) (sym one) ∙ ap (λ x. copy s.value x) (sym two) in
        inl q
    by false f more = inr (more (sym (ap (λ b. b || is_served ss v k) f) ∙ e))

pub has_served : (served : List Served) (v k : ℕ) → Has served v k → is_served served v k ≡ true
has_served [] v k i = absurd i
has_served (s ∷ ss) v k (inl q) =
    let one : (s.value == v) ≡ true = eq-eqb s.value v (ap (λ (x : Served). x.value) (sym q)) in
    let two : (s.cluster == k) ≡ true = eq-eqb s.cluster k (ap (λ (x : Served). x.cluster) (sym q)) in
    ap (λ b. (b && (s.cluster == k)) || is_served ss v k) one ∙ ap (λ b. b || is_served ss v k) two
has_served (s ∷ ss) v k (inr i) = by ((s.value == v) && (s.cluster == k)) refl (has_served ss v k i)
  where
    by : (b : Bool) → ((s.value == v) && (s.cluster == k)) ≡ b → is_served ss v k ≡ true → (((s.value == v) && (s.cluster == k)) || is_served ss v k) ≡ true
    by true f more = ap (λ b. b || is_served ss v k) f
    by false f more = ap (λ b. b || is_served ss v k) f ∙ more

pub not_served : (served : List Served) (v k : ℕ) → (Has served v k → ⊥) → is_served served v k ≡ false
not_served served v k free = by (is_served served v k) refl
  where
    by : (b : Bool) → is_served served v k ≡ b → is_served served v k ≡ false
    by true e = absurd (free (served_has served v k e))
    by false e = e

-- the copies of some values to one cluster

pub in_serve : (k : ℕ) (vs : List ℕ) (v c : ℕ) → Has (serve k vs) v c → IsIn v vs × (c ≡ k)
in_serve k [] v c i = absurd i
in_serve k (u ∷ us) v c (inl q) = let e : v ≡ u = ap (λ (x : Served). x.value) q in (inl e, ap (λ (x : Served). x.cluster) q)
in_serve k (u ∷ us) v c (inr i) = let r = in_serve k us v c i in (inr r.0, r.1)

pub serve_in : (k : ℕ) (vs : List ℕ) (v : ℕ) → IsIn v vs → Has (serve k vs) v k
serve_in k [] v i = absurd i
serve_in k (u ∷ us) v (inl q) = let e : copy v k ≡ copy u k = ap (λ x. copy x k) q in inl e
serve_in k (u ∷ us) v (inr i) = inr (serve_in k us v i)
