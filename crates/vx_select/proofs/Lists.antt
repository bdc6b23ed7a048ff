-- Lists of values, and what takes a place in them.
use Rattle.std.proofs.Common.{◌≡◌, ◌⊎◌, inl, inr, ℕ, zero, suc, ◌+◌, ◌≤◌, ◌<◌, ◌==◌, Bool, true, false, cond, List, [], ◌∷◌, length, take, drop, refl, sym, ap, subst, ◌∙◌, eq-eqb, arith}
use Rattle.std.proofs.lemmas.Bool.{false≢true, eqb-true}
use Rattle.vx_flow.specs.Effects.{IsIn}
use Rattle.vx_flow.proofs.SoundLists.{any_in, any_of}
use Rattle.vx_select.specs.Selected.{has, those_from, takes}

pub in_has : (vs : List ℕ) (v : ℕ) → IsIn v vs → has vs v ≡ true
in_has vs v m = any_of (λ u. u == v) vs v m (eq-eqb v v refl)

pub has_in : (vs : List ℕ) (v : ℕ) → has vs v ≡ true → IsIn v vs
has_in vs v h = let f = any_in (λ u. u == v) vs h in subst (λ x. IsIn x vs) (eqb-true f.item v f.holds) f.has

pub has_not : (vs : List ℕ) (v : ℕ) → has vs v ≡ false → IsIn v vs → ⊥
has_not vs v h m = false≢true (sym h ∙ in_has vs v m)

pub not_has : (vs : List ℕ) (v : ℕ) → (IsIn v vs → ⊥) → has vs v ≡ false
not_has vs v f = by (has vs v) refl
  where
    by : (b : Bool) → has vs v ≡ b → b ≡ false
    by true e = absurd (f (has_in vs v e))
    by false e = refl

pub not_eqb : (u v : ℕ) → (u ≡ v → ⊥) → (u == v) ≡ false
not_eqb u v f = by (u == v) refl
  where
    by : (b : Bool) → (u == v) ≡ b → b ≡ false
    by true e = absurd (f (eqb-true u v e))
    by false e = refl

-- ---- the numbers that pass

pub record Passes (p : ℕ → Bool) (k n v : ℕ) : Type 0 where
  pub passes : p v ≡ true
  pub least : k ≤ v
  pub below : v < k + n

pub those_pass : (p : ℕ → Bool) (k n v : ℕ) → IsIn v (those_from p k n) → Passes p k n v
those_pass p k zero v m = absurd m
those_pass p k (suc n) v m = by (p k) refl m (those_pass p (suc k) n v)
  where
    later : Passes p (suc k) n v → Passes p k (suc n) v
    later q = let a = q.least in let b = q.below in record { passes = q.passes; least = omega arith; below = omega arith }

    by : (b : Bool) → p k ≡ b → IsIn v (cond b (k ∷ those_from p (suc k) n) (those_from p (suc k) n)) → (IsIn v (those_from p (suc k) n) → Passes p (suc k) n v) → Passes p k (suc n) v
    by true e (inl q) rec = record { passes = ap p q ∙ e; least = subst (λ x. k ≤ x) (sym q) (omega arith); below = subst (λ x. x < k + suc n) (sym q) (omega arith) }
    by true e (inr h) rec = later (rec h)
    by false e h rec = later (rec h)

pub pass_those : (p : ℕ → Bool) (k n v : ℕ) → p v ≡ true → k ≤ v → v < k + n → IsIn v (those_from p k n)
pass_those p k zero v e l h = absurd (omega arith)
pass_those p k (suc n) v e l h = by (k == v) refl (λ a. pass_those p (suc k) n v e a (omega arith))
  where
    at : (b : Bool) → IsIn v (those_from p (suc k) n) → IsIn v (cond b (k ∷ those_from p (suc k) n) (those_from p (suc k) n))
    at true m = inr m
    at false m = m

    by : (b : Bool) → (k == v) ≡ b → (suc k ≤ v → IsIn v (those_from p (suc k) n)) → IsIn v (cond (p k) (k ∷ those_from p (suc k) n) (those_from p (suc k) n))
    by true q rec = let d : k ≡ v = eqb-true k v q in subst (λ b. IsIn v (cond b (k ∷ those_from p (suc k) n) (those_from p (suc k) n))) (sym (ap p d ∙ e)) (inl (sym d))
    by false q rec = let n1 : k ≡ v → ⊥ = λ d. false≢true (sym q ∙ eq-eqb k v d) in at (p k) (rec (more n1))
      where
        more : (k ≡ v → ⊥) → suc k ≤ v
        more f = grind (arith, f)

-- ---- no value twice

abbrev pub Distinct : List ℕ → Type 0
Distinct [] = Unit {0}
Distinct (v ∷ vs) = (IsIn v vs → ⊥) × Distinct vs

pub those_distinct : (p : ℕ → Bool) (k n : ℕ) → Distinct (those_from p k n)
those_distinct p k zero = tt
those_distinct p k (suc n) = by (p k) (those_distinct p (suc k) n)
  where
    first : IsIn k (those_from p (suc k) n) → ⊥
    first m = let a = (those_pass p (suc k) n k m).least in absurd (omega arith)

    by : (b : Bool) → Distinct (those_from p (suc k) n) → Distinct (cond b (k ∷ those_from p (suc k) n) (those_from p (suc k) n))
    by true d = (first, d)
    by false d = d

pub in_drop : (k : ℕ) (vs : List ℕ) (v : ℕ) → IsIn v (drop k vs) → IsIn v vs
in_drop zero vs v m = m
in_drop (suc k) [] v m = m
in_drop (suc k) (u ∷ us) v m = inr (in_drop k us v m)

pub in_take : (k : ℕ) (vs : List ℕ) (v : ℕ) → IsIn v (take k vs) → IsIn v vs
in_take zero vs v m = absurd m
in_take (suc k) [] v m = m
in_take (suc k) (u ∷ us) v (inl e) = inl e
in_take (suc k) (u ∷ us) v (inr m) = inr (in_take k us v m)

pub drop_distinct : (k : ℕ) (vs : List ℕ) → Distinct vs → Distinct (drop k vs)
drop_distinct zero vs d = d
drop_distinct (suc k) [] d = d
drop_distinct (suc k) (u ∷ us) d = drop_distinct k us d.1

pub front_apart : (k : ℕ) (vs : List ℕ) (v : ℕ) → Distinct vs → IsIn v (take k vs) → IsIn v (drop k vs) → ⊥
front_apart zero vs v d m n = m
front_apart (suc k) [] v d m n = m
front_apart (suc k) (u ∷ us) v d (inl e) n = d.0 (subst (λ x. IsIn x us) e (in_drop k us v n))
front_apart (suc k) (u ∷ us) v d (inr m) n = front_apart k us v d.1 m n

pub drop_length : (k : ℕ) (vs : List ℕ) → k + length (drop k vs) ≡ length vs ⊎ (length vs ≤ k)
drop_length zero vs = inl (omega arith)
drop_length (suc k) [] = inr (omega arith)
drop_length (suc k) (u ∷ us) = elim (drop_length k us) [ inl e ↦ inl (omega arith) | inr h ↦ inr (omega arith) ]

pub drop_room : (a b : ℕ) (vs : List ℕ) → a + b ≤ length vs → b ≤ length (drop a vs)
drop_room zero b vs h = omega arith
drop_room (suc a) b [] h = absurd (omega arith)
drop_room (suc a) b (u ∷ us) h = drop_room a b us (omega arith)

-- ---- what takes a place

pub takes_off : (us ws : List ℕ) (v : ℕ) → (IsIn v us → ⊥) → takes us ws v ≡ v
takes_off [] ws v f = refl
takes_off (u ∷ us) [] v f = refl
takes_off (u ∷ us) (w ∷ ws) v f = ap (λ b. cond b w (takes us ws v)) (not_eqb u v (λ e. f (inl (sym e)))) ∙ takes_off us ws v (λ m. f (inr m))

pub takes_in : (us ws : List ℕ) (v : ℕ) → length us ≤ length ws → IsIn v us → IsIn (takes us ws v) (take (length us) ws)
takes_in [] ws v l m = absurd m
takes_in (u ∷ us) [] v l m = absurd (omega arith)
takes_in (u ∷ us) (w ∷ ws) v l m = by (u == v) refl m (takes_in us ws v (omega arith))
  where
    by : (b : Bool) → (u == v) ≡ b → IsIn v (u ∷ us) → (IsIn v us → IsIn (takes us ws v) (take (length us) ws)) → IsIn (cond b w (takes us ws v)) (w ∷ take (length us) ws)
    by true e n rec = inl refl
    by false e (inl q) rec = absurd (false≢true (sym e ∙ eq-eqb u v (sym q)))
    by false e (inr n) rec = inr (rec n)

pub takes_one : (us ws : List ℕ) (u v : ℕ) → Distinct ws → length us ≤ length ws → IsIn u us → IsIn v us → takes us ws u ≡ takes us ws v → u ≡ v
takes_one [] ws u v d l m n e = absurd m
takes_one (x ∷ us) [] u v d l m n e = absurd (omega arith)
takes_one (x ∷ us) (w ∷ ws) u v d l m n e = by (x == u) (x == v) refl refl e m n (takes_one us ws u v d.1 (omega arith))
  where
    front : (y : ℕ) → IsIn y us → takes us ws y ≡ w → ⊥
    front y k q = d.0 (subst (λ z. IsIn z ws) q (in_take (length us) ws (takes us ws y) (takes_in us ws y (omega arith) k)))

    tail : (y : ℕ) → (x == y) ≡ false → IsIn y (x ∷ us) → IsIn y us
    tail y q (inl p) = absurd (false≢true (sym q ∙ eq-eqb x y (sym p)))
    tail y q (inr k) = k

    by : (a b : Bool) → (x == u) ≡ a → (x == v) ≡ b → cond a w (takes us ws u) ≡ cond b w (takes us ws v) → IsIn u (x ∷ us) → IsIn v (x ∷ us) → (IsIn u us → IsIn v us → takes us ws u ≡ takes us ws v → u ≡ v) → u ≡ v
    by true true p q k i j rec = sym (eqb-true x u p) ∙ eqb-true x v q
    by true false p q k i j rec = absurd (front v (tail v q j) (sym k))
    by false true p q k i j rec = absurd (front u (tail u p i) k)
    by false false p q k i j rec = rec (tail u p i) (tail v q j) k
