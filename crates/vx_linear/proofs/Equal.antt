-- Forms that are equal, and answers that are not.
use Rattle.std.proofs.Common.{◌≡◌, ◌↔◌, inl, inr, ℕ, ◌^◌, refl, sym, ◌∙◌, ap, eq-eqb, arith, Bool, true, false, ◌&&◌, ◌%◌, nat_eq, List, [], ◌∷◌, ℤ, pos, ◌+ℤ◌, ◌*ℤ◌, subst}
use Rattle.std.proofs.lemmas.Int.{ints}
use Rattle.std.proofs.lemmas.Bool.Decides.{nat_tests}
use Rattle.std.proofs.lemmas.Bool.{false≢true, true≢false, eqb-true}
use Rattle.std.specs.Ordering.{int_eq}
use Rattle.vx_base.specs.Arithmetic.{unsigned, difference_of}
use Rattle.vx_flow.specs.Apart.{are_apart}
use Rattle.vx_linear.specs.declared.form.Term.{Term}
use Rattle.vx_linear.specs.declared.form.Form.{Form}
use Rattle.vx_base.specs.declared.answer.Answer.{Answer}
use Rattle.vx_base.specs.declared.answer.Answer.TheVariants.{Never, Always, Maybe}
use Rattle.vx_linear.specs.Forms.{sum_at, value_at, NeverSame, AlwaysSame, is_ordered}
use Rattle.vx_linear.specs.Linear.{same_terms, are_equal}
use Rattle.vx_linear.specs.Steps.{Steps}
use Rattle.vx_linear.proofs.Symbols.{same_is, same_self, first-true, second-true, true-both}
use Rattle.vx_linear.proofs.NeverLaw.{never_by, not_never_by}

pub int_is : (x y : ℤ) → int_eq x y ≡ true → x ≡ y
int_is x y h = grind (arith, nat_tests)

int_self : (x : ℤ) → int_eq x x ≡ true
int_self x = grind (arith, nat_tests)

term_is : (t u : Term) → t.symbol ≡ u.symbol → t.factor ≡ u.factor → t ≡ u
term_is t u e f = ap (λ x. record { symbol = x; factor = t.factor }) e ∙ ap (λ x. record { symbol = u.symbol; factor = x }) f

pub terms_are : (ts us : List Term) → same_terms ts us ≡ true → ts ≡ us
terms_are [] [] h = refl
terms_are [] (u ∷ us) h = absurd (false≢true h)
terms_are (t ∷ ts) [] h = absurd (false≢true h)
terms_are (t ∷ ts) (u ∷ us) h =
    let head = first-true _ _ h in
    let first : t ≡ u = term_is t u (same_is t.symbol u.symbol (first-true _ _ head)) (int_is t.factor u.factor (second-true _ _ head)) in
    let rest : ts ≡ us = terms_are ts us (second-true _ _ h) in
    ap (λ x. x ∷ ts) first ∙ ap (λ xs. u ∷ xs) rest

pub terms_self : (ts : List Term) → same_terms ts ts ≡ true
terms_self [] = refl
terms_self (t ∷ ts) = true-both _ _ (true-both _ _ (same_self t.symbol) (int_self t.factor)) (terms_self ts)

-- what the comparison of two forms whose arrays are not apart says
pub always_by : (a b : Form) → are_apart a.array b.array ≡ false → are_equal a b ≡ true → AlwaysSame a b
always_by a b meet h = record {
  together = λ two. false≢true (sym meet ∙ two);
  array = eqb-true a.array.named b.array.named (first-true _ _ (first-true _ _ h));
  constant = int_is a.constant b.constant (second-true _ _ (first-true _ _ h));
  terms = terms_are a.terms b.terms (second-true _ _ h);
}

pub compared : (a b : Form) → AlwaysSame a b → are_equal a b ≡ true
compared a b h =
    true-both _ _ (true-both _ _ (eq-eqb a.array.named b.array.named h.array) (subst (λ z. int_eq a.constant z ≡ true) h.constant (int_self a.constant)))
    (subst (λ ts. same_terms a.terms ts ≡ true) h.terms (terms_self a.terms))

pub always_not_never : (a b : Form) → AlwaysSame a b → NeverSame a b → ⊥
always_not_never a b h (inl two) = h.together two
always_not_never a b h (inr never) =
    never (λ x. pos 0) (record { multiple = pos 0; equal = ap (λ z. z +ℤ sum_at (λ x. pos 0) a.terms) h.constant ∙ ap (λ ts. b.constant +ℤ sum_at (λ x. pos 0) ts) h.terms ∙ nothing_more (value_at (λ x. pos 0) b) })
  where
    nothing_more : (z : ℤ) → z ≡ z +ℤ pos 0 *ℤ pos (2 ^ 30)
    nothing_more z = omega (arith, ints)

-- answers

abbrev is_never : Answer → Bool
is_never Never = true
is_never Always = false
is_never Maybe = false

abbrev is_always : Answer → Bool
is_always Never = false
is_always Always = true
is_always Maybe = false

always_no_never : Always ≡ Never → ⊥
always_no_never e = false≢true (ap is_never e)

maybe_no_never : Maybe ≡ Never → ⊥
maybe_no_never e = false≢true (ap is_never e)

never_no_always : Never ≡ Always → ⊥
never_no_always e = false≢true (ap is_always e)

maybe_no_always : Maybe ≡ Always → ⊥
maybe_no_always e = false≢true (ap is_always e)

-- the clauses, for each answer

pub two_never : (a b : Form) → are_apart a.array b.array ≡ true → (Never ≡ Never) ↔ NeverSame a b
two_never a b h = (λ e. inl h, λ n. refl)

pub two_always : (a b : Form) → are_apart a.array b.array ≡ true → (Never ≡ Always) ↔ AlwaysSame a b
two_always a b h = (λ e. absurd (never_no_always e), λ s. absurd (s.together h))

pub equal_never : (a b : Form) → are_apart a.array b.array ≡ false → are_equal a b ≡ true → (Always ≡ Never) ↔ NeverSame a b
equal_never a b meet h = (λ w. absurd (always_no_never w), λ n. absurd (always_not_never a b (always_by a b meet h) n))

pub equal_always : (a b : Form) → are_apart a.array b.array ≡ false → are_equal a b ≡ true → (Always ≡ Always) ↔ AlwaysSame a b
equal_always a b meet h = (λ w. always_by a b meet h, λ s. refl)

pub divided_never : (a b : Form) (g : ℕ) → Steps a.terms b.terms (2 ^ 30) g → is_ordered a.terms ≡ true → is_ordered b.terms ≡ true → are_apart a.array b.array ≡ false → unsigned (difference_of a.constant b.constant) % g ≡ 0 → (Maybe ≡ Never) ↔ NeverSame a b
divided_never a b g s oa ob meet h = (λ w. absurd (maybe_no_never w), λ n. absurd (not_never_by a b g s oa ob meet h n))

pub divided_always : (a b : Form) → are_equal a b ≡ false → (Maybe ≡ Always) ↔ AlwaysSame a b
divided_always a b h = (λ w. absurd (maybe_no_always w), λ s. absurd (true≢false (sym (compared a b s) ∙ h)))

pub left_never : (a b : Form) (g : ℕ) → Steps a.terms b.terms (2 ^ 30) g → (unsigned (difference_of a.constant b.constant) % g ≡ 0 → ⊥) → (Never ≡ Never) ↔ NeverSame a b
left_never a b g s h = (λ w. never_by a b g s h, λ n. refl)

pub left_always : (a b : Form) → are_equal a b ≡ false → (Never ≡ Always) ↔ AlwaysSame a b
left_always a b h = (λ w. absurd (never_no_always w), λ s. absurd (true≢false (sym (compared a b s) ∙ h)))

pub steps_of : (ts us xs ys : List Term) (g : ℕ) → xs ≡ ts → ys ≡ us → Steps xs ys (2 ^ 30) g → Steps ts us (2 ^ 30) g
steps_of ts us xs ys g e f s = subst (λ zs. Steps ts zs (2 ^ 30) g) f (subst (λ zs. Steps zs ys (2 ^ 30) g) e s)

pub nat_is : (m n : ℕ) → nat_eq m n ≡ true → m ≡ n
nat_is m n h = grind (arith, nat_tests)

pub nat_self : (m n : ℕ) → m ≡ n → nat_eq m n ≡ true
nat_self m n h = grind (arith, nat_tests)
