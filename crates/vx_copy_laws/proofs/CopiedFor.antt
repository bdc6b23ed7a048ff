-- The values that are copied for an operation: those that it reads away and that no copy serves, each once, in the order of the
-- operands.
use Rattle.std.proofs.Common.{◌≡◌, ◌<◌, inl, inr, ⊎_elim, ◌&&◌, not, refl, sym, ◌∙◌, ap, arith, subst, Bool, true, false, nat_eq, if◌then◌else◌, ℕ, zero, suc, Option, Some, List, [], ◌∷◌, slice_get}
use Rattle.std.proofs.lemmas.Bool.{eqb-true, eq-eqb, true≢false}
use Rattle.vx_flow.specs.Effects.{IsIn}
use Rattle.vx_bug.specs.declared.served.Served.{Served}
use Rattle.vx_bug.specs.Copies.{is_away, is_served, copied_for}
use Rattle.vx_bug.specs.Choices.{Apart}
use Rattle.vx_copy_laws.specs.CopyStands.{ReadBefore}
use Rattle.vx_copy_laws.proofs.Members.{in_place, place_of_member, copy, Has, has_served, not_served}

module _ (homes : ℕ → Option ℕ) (k : ℕ) where
  abbrev Copied : List Served → List ℕ → List ℕ
  Copied served vs = copied_for homes k served vs

  -- whether a copy is made of the first one
  abbrev Made : List Served → ℕ → Bool
  Made served v = is_away (homes v) k && not (is_served served v k)

  -- what is copied by then
  abbrev By : Bool → List Served → (v : ℕ) → List ℕ → List ℕ
  By b served v vs = if b then v ∷ Copied (copy v k ∷ served) vs else Copied served vs

  made_is : (served : List Served) (v : ℕ) → Made served v ≡ true → (is_away (homes v) k ≡ true) × (Has served v k → ⊥)
  made_is served v e = by (is_away (homes v) k) (is_served served v k) refl refl e
    where
      by : (a b : Bool) → is_away (homes v) k ≡ a → is_served served v k ≡ b → (a && not b) ≡ true → (is_away (homes v) k ≡ true) × (Has served v k → ⊥)
      by true true f g h = absurd cc
      by true false f g h = (f, (λ i. true≢false (sym (has_served served v k i) ∙ g)))
      by false b f g h = absurd cc

  made_has : (served : List Served) (v : ℕ) → is_away (homes v) k ≡ true → (Has served v k → ⊥) → Made served v ≡ true
  made_has served v a free = ap (λ b. b && not (is_served served v k)) a ∙ ap not (not_served served v k free)

  -- it is read away, and no copy served

  pub record IsCopied (served : List Served) (vs : List ℕ) (x : ℕ) : Type 0 where
    pub reads : IsIn x vs
    pub away : is_away (homes x) k ≡ true
    pub no_copy : Has served x k → ⊥

  pub copied_is : (served : List Served) (vs : List ℕ) (x : ℕ) → IsIn x (Copied served vs) → IsCopied served vs x
  copied_is served [] x h = absurd h
  copied_is served (v ∷ vs) x h = by (Made served v) refl (copied_is (copy v k ∷ served) vs x) (copied_is served vs x)
    where
      by : (b : Bool) → Made served v ≡ b → (IsIn x (Copied (copy v k ∷ served) vs) → IsCopied (copy v k ∷ served) vs x) → (IsIn x (Copied served vs) → IsCopied served vs x) → IsCopied served (v ∷ vs) x
      by true e one two =
          let m = made_is served v e in
          ⊎_elim
          (λ q. record { reads = inl q; away = ap (λ u. is_away (homes u) k) q ∙ m.0; no_copy = λ i. m.1 (subst (λ u. Has served u k) q i) })
          (λ i. let r = one i in record { reads = inr r.reads; away = r.away; no_copy = λ j. r.no_copy (inr j) })
          (subst (λ b. IsIn x (By b served v vs)) e h)
      by false e one two = let r = two (subst (λ b. IsIn x (By b served v vs)) e h) in record { reads = inr r.reads; away = r.away; no_copy = r.no_copy }

  pub is_copied : (served : List Served) (vs : List ℕ) (x : ℕ) → IsCopied served vs x → IsIn x (Copied served vs)
  is_copied served [] x r = absurd r.reads
  is_copied served (v ∷ vs) x r = by (Made served v) refl (is_copied (copy v k ∷ served) vs x) (is_copied served vs x)
    where
      by : (b : Bool) → Made served v ≡ b → (IsCopied (copy v k ∷ served) vs x → IsIn x (Copied (copy v k ∷ served) vs)) → (IsCopied served vs x → IsIn x (Copied served vs)) → IsIn x (By (Made served v) served v vs)
      by true e one two = subst (λ b. IsIn x (By b served v vs)) (sym e) (same (nat_eq x v) refl)
        where
          same : (b : Bool) → nat_eq x v ≡ b → IsIn x (v ∷ Copied (copy v k ∷ served) vs)
          same true f = inl (eqb-true x v f)
          same false f = inr (one (record {
            reads = ⊎_elim (λ q. absurd (other q)) (λ i. i) r.reads;
            away = r.away;
            no_copy = λ i. ⊎_elim (λ q. other (ap (λ (s : Served). s.value) q)) (λ j. r.no_copy j) i;
          }))
            where
              other : x ≡ v → ⊥
              other q = true≢false (sym (eq-eqb x v q) ∙ f)
      by false e one two = subst (λ b. IsIn x (By b served v vs)) (sym e) (two (record {
        reads = ⊎_elim (λ q. absurd (true≢false (sym (made_has served v (ap (λ u. is_away (homes u) k) (sym q) ∙ r.away) (λ i. r.no_copy (subst (λ u. Has served u k) (sym q) i))) ∙ e))) (λ i. i) r.reads;
        away = r.away;
        no_copy = r.no_copy;
      }))

  -- each once

  pub copied_apart : (served : List Served) (vs : List ℕ) → Apart (Copied served vs)
  copied_apart served [] = tt
  copied_apart served (v ∷ vs) = by (Made served v) refl (copied_apart (copy v k ∷ served) vs) (copied_apart served vs)
    where
      by : (b : Bool) → Made served v ≡ b → Apart (Copied (copy v k ∷ served) vs) → Apart (Copied served vs) → Apart (By (Made served v) served v vs)
      by true e one two = subst (λ b. Apart (By b served v vs)) (sym e) ((λ i. let r = copied_is (copy v k ∷ served) vs v i in r.no_copy (inl refl)), one)
      by false e one two = subst (λ b. Apart (By b served v vs)) (sym e) two

  -- in the order of the operands

  pub copied_in_order : (served : List Served) (vs : List ℕ) (a b x y : ℕ) → a < b → slice_get (Copied served vs) a ≡ Some x → slice_get (Copied served vs) b ≡ Some y → ReadBefore x y vs
  copied_in_order served [] a b x y l f g = absurd cc
  copied_in_order served (v ∷ vs) a b x y l f g = by (Made served v) refl
      (λ c d. copied_in_order (copy v k ∷ served) vs c d x y)
      (λ c d. copied_in_order served vs c d x y)
    where
      further : ReadBefore x y vs → ReadBefore x y (v ∷ vs)
      further r = let u = r.in_order in record { one = suc r.one; two = suc r.two; in_order = omega (arith, u); is_one = r.is_one; is_two = r.is_two }

      first : (c d : ℕ) → c < d → slice_get (v ∷ Copied (copy v k ∷ served) vs) c ≡ Some x → slice_get (v ∷ Copied (copy v k ∷ served) vs) d ≡ Some y
          → ((c d : ℕ) → c < d → slice_get (Copied (copy v k ∷ served) vs) c ≡ Some x → slice_get (Copied (copy v k ∷ served) vs) d ≡ Some y → ReadBefore x y vs) → ReadBefore x y (v ∷ vs)
      first c zero h p q more = absurd (omega (arith, h))
      first zero (suc d) h p q more =
          let r = copied_is (copy v k ∷ served) vs y (in_place (Copied (copy v k ∷ served) vs) d y q) in
          let there = place_of_member vs y r.reads in
          record { one = 0; two = suc there.0; in_order = omega arith; is_one = p; is_two = there.1 }
      first (suc c) (suc d) h p q more = further (more c d (omega (arith, h)) p q)

      by : (m : Bool) → Made served v ≡ m
          → ((c d : ℕ) → c < d → slice_get (Copied (copy v k ∷ served) vs) c ≡ Some x → slice_get (Copied (copy v k ∷ served) vs) d ≡ Some y → ReadBefore x y vs)
          → ((c d : ℕ) → c < d → slice_get (Copied served vs) c ≡ Some x → slice_get (Copied served vs) d ≡ Some y → ReadBefore x y vs) → ReadBefore x y (v ∷ vs)
      by true e one two = first a b l (subst (λ m. slice_get (By m served v vs) a ≡ Some x) e f) (subst (λ m. slice_get (By m served v vs) b ≡ Some y) e g) one
      by false e one two = further (two a b l (subst (λ m. slice_get (By m served v vs) a ≡ Some x) e f) (subst (λ m. slice_get (By m served v vs) b ≡ Some y) e g))
