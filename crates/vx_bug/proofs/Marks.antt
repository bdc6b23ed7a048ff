-- A place is listed where it is marked.
use Rattle.std.proofs.Common.{◌≡◌, ◌<◌, ◌≤◌, ◌⊎◌, inl, inr, ◌||◌, refl, sym, ◌∙◌, ap, Bool, true, false, nat_eq, ℕ, zero, suc, List, [], ◌∷◌, ◌++◌, length, slice_set}
use Rattle.std.specs.List.{list_any}
use Rattle.std.proofs.lemmas.Bool.{eq-eqb, ne_eqb, cases_eq}
use Rattle.std.proofs.lemmas.List.{get_or_past, get_or-set_same, get_or-set_other}
use Rattle.std.proofs.lemmas.List.Folds.{list_any-append}
use Rattle.vx_flow.specs.Rows.{is_marked}
use Rattle.vx_bug.specs.Marks.{AreMarks}

pub longer_marks : (marks : List Bool) (i : ℕ) → is_marked (marks ++ false ∷ []) i ≡ is_marked marks i
longer_marks [] zero = refl
longer_marks [] (suc i) = refl
longer_marks (m ∷ marks) zero = refl
longer_marks (m ∷ marks) (suc i) = longer_marks marks i

pub set_mark : (marks longer : List Bool) (place : ℕ) → ((i : ℕ) → is_marked longer i ≡ is_marked marks i) → place < length longer → (i : ℕ) → is_marked (slice_set longer place true) i ≡ (nat_eq i place || is_marked marks i)
set_mark marks longer place same inside i = by (cases_eq i place)
  where
    by : (i ≡ place) ⊎ (i ≡ place → ⊥) → is_marked (slice_set longer place true) i ≡ (nat_eq i place || is_marked marks i)
    by (inl e) = ap (is_marked (slice_set longer place true)) e ∙ get_or-set_same longer place true false inside ∙ sym (ap (λ b. b || is_marked marks i) (eq-eqb i place e))
    by (inr differs) = get_or-set_other longer place i true false differs ∙ same i ∙ sym (ap (λ b. b || is_marked marks i) (ne_eqb i place differs))

or_end : (x y : Bool) → (x || y) ≡ (y || (x || false))
or_end true true = refl
or_end true false = refl
or_end false true = refl
or_end false false = refl

pub one_marked : (marks others : List Bool) (listed more : List ℕ) (place : ℕ) → AreMarks marks listed → ((i : ℕ) → is_marked others i ≡ (nat_eq i place || is_marked marks i)) → more ≡ listed ++ place ∷ [] → AreMarks others more
one_marked marks others listed more place so set e i =
    set i ∙ ap (λ b. nat_eq i place || b) (so i) ∙ or_end (nat_eq i place) (list_any (nat_eq i) listed)
    ∙ sym (list_any-append (nat_eq i) listed (place ∷ [])) ∙ ap (list_any (nat_eq i)) (sym e)

pub mark_is : (marks : List Bool) (listed : List ℕ) (place : ℕ) (mark : Bool) → AreMarks marks listed → mark ≡ is_marked marks place → mark ≡ list_any (nat_eq place) listed
mark_is marks listed place mark so e = e ∙ so place

pub no_mark : (marks : List Bool) (listed : List ℕ) (place : ℕ) → AreMarks marks listed → length marks ≤ place → false ≡ list_any (nat_eq place) listed
no_mark marks listed place so past = sym (get_or_past marks place false past) ∙ so place
