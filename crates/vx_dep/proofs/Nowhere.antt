-- Pairs without a delay, and accesses that never meet.
use Rattle.std.proofs.Common.{◌≡◌, ◌≤◌, ℕ, sym, ◌∙◌, ap, arith, subst, Option, Some, None, slice_get, List, Bor, IfSome, IfNone, option_copied}
use Rattle.std.proofs.lemmas.Option.{none-some, same_Some}
use Rattle.vx_flow.specs.declared.trace.Trace.{Trace}
use Rattle.vx_isa.specs.Numbers.{Numbers}
use Rattle.vx_linear.specs.declared.form.Form.{Form}
use Rattle.vx_linear.specs.Forms.{NeverSame}
use Rattle.vx_linear.specs.Followed.{forms_of}
use Rattle.vx_dep.specs.declared.mode.Mode.{Mode}
use Rattle.vx_dep.specs.Delays.{NeverMeet, IsDelay}

pub not_in_order : (m : Numbers) (mode : Mode) (t : Trace) (i j : ℕ) → j ≤ i → IsDelay m mode t i j None
not_in_order m mode t i j h d p = let k = p.in_order in absurd (omega arith)

pub never_meet : (t : Trace) (forms : List (Option Form)) (i j : ℕ) (one two : Form) → forms ≡ forms_of t → slice_get forms i ≡ Some (Some one) → slice_get forms j ≡ Some (Some two) → NeverSame one two → NeverMeet t i j
never_meet t forms i j one two e f g never = record { one = one; two = two; form_one = ap (λ fs. slice_get fs i) (sym e) ∙ f; form_two = ap (λ fs. slice_get fs j) (sym e) ∙ g; never = never }

form_is : (one other : Form) (forms others : List (Option Form)) (i : ℕ) → forms ≡ others → slice_get forms i ≡ Some (Some one) → slice_get others i ≡ Some (Some other) → other ≡ one
form_is one other forms others i e f g = let h : Some (Some other) ≡ Some (Some one) = sym g ∙ ap (λ fs. slice_get fs i) (sym e) ∙ f in cc

pub may_meet : (t : Trace) (forms : List (Option Form)) (i j : ℕ) (one two : Form) → forms ≡ forms_of t → slice_get forms i ≡ Some (Some one) → slice_get forms j ≡ Some (Some two) → (NeverSame one two → ⊥) → NeverMeet t i j → ⊥
may_meet t forms i j one two e f g apart n =
    apart (subst (λ x. NeverSame one x) (form_is two n.two forms (forms_of t) j e g n.form_two) (subst (λ x. NeverSame x n.two) (form_is one n.one forms (forms_of t) i e f n.form_one) n.never))

pub no_form_above : (t : Trace) (forms : List (Option Form)) (i j : ℕ) → forms ≡ forms_of t → ((form : Form) → slice_get forms i ≡ Some (Some form) → ⊥) → NeverMeet t i j → ⊥
no_form_above t forms i j e apart n = apart n.one (ap (λ fs. slice_get fs i) e ∙ n.form_one)

pub no_form_below : (t : Trace) (forms : List (Option Form)) (i j : ℕ) → forms ≡ forms_of t → ((form : Form) → slice_get forms j ≡ Some (Some form) → ⊥) → NeverMeet t i j → ⊥
no_form_below t forms i j e apart n = apart n.two (ap (λ fs. slice_get fs j) e ∙ n.form_two)

-- what is no form at a place that is read
pub none_there : (forms : List (Option Form)) (place : ℕ) (o : Option (Bor Form)) (at : Option Form) → option_copied o ≡ at → slice_get forms place ≡ Some at → IfNone o ((form : Form) → slice_get forms place ≡ Some (Some form) → ⊥)
none_there forms place (Some form) at e there = tt
none_there forms place None at e there = λ form f. none-some form (e ∙ same_Some at (Some form) (sym there ∙ f))

pub some_there : (forms : List (Option Form)) (place : ℕ) (o : Option (Bor Form)) (at : Option Form) → option_copied o ≡ at → slice_get forms place ≡ Some at → IfSome o (λ form. slice_get forms place ≡ Some (Some form.now))
some_there forms place (Some form) at e there = there ∙ ap Some (sym e)
some_there forms place None at e there = tt
