-- Words that lead to words of their layout, one after the other.
use Rattle.std.proofs.Common.{◌≡◌, ◌⊎◌, ◌<◌, ◌≤◌, ◌+◌, ℕ, Some, List, ◌∷◌, inl, inr, sym, ap, subst, ◌∙◌, arith, length, slice_get}
use Rattle.std.proofs.lemmas.Bool.{cases_lt}
use Rattle.std.proofs.lemmas.Option.{slice_get_within}
use Rattle.vx_flow.specs.Effects.{IsIn}
use Rattle.vx_mixed.specs.declared.layout.VirtualWord.{VirtualWord}
use Rattle.vx_mixed.specs.LaidSettled.{LeadsTo}
use Rattle.vx_regs.specs.BusyPlaces.{leads_list}
use Rattle.vx_regs.proofs.BusyHulls.{leads_in}

-- the first words do
abbrev pub LeadInside : List VirtualWord → ℕ → Type 0
LeadInside words count = (p q : ℕ) (word : VirtualWord) → p < count → slice_get words p ≡ Some word → LeadsTo p word q → q < length words

some_is : {A : Type 0} {x y : A} → Some x ≡ Some y → x ≡ y
some_is e = cc

pub inside_first : (words : List VirtualWord) → LeadInside words 0
inside_first words p q word h at leads = absurd (let g : p < 0 = h in omega arith)

pub inside_next : (words : List VirtualWord) (place : ℕ) (word : VirtualWord) → LeadInside words place → slice_get words place ≡ Some word → ((q : ℕ) → IsIn q (leads_list place word) → q < length words) → LeadInside words (place + 1)
inside_next words place word before at all p q w h is leads = by (cases_lt p place)
  where
    by : (p < place) ⊎ (place ≤ p) → q < length words
    by (inl g) = before p q w g is leads
    by (inr g) =
        let e : p ≡ place = omega arith in
        let f : w ≡ word = some_is (sym is ∙ ap (slice_get words) e ∙ at) in
        let l : LeadsTo place word q = subst (λ z. LeadsTo place z q) f (subst (λ z. LeadsTo z w q) e leads) in
        all q (leads_in place q word l)

pub inside_all : (words : List VirtualWord) (count : ℕ) → length words ≤ count → LeadInside words count → (p q : ℕ) (word : VirtualWord) → slice_get words p ≡ Some word → LeadsTo p word q → q < length words
inside_all words count h all p q word at leads = all p q word (let g = slice_get_within words p word at in omega arith) at leads

pub below_more : (target : ℕ) (targets : List ℕ) (count : ℕ) → target < count → ((q : ℕ) → IsIn q targets → q < count) → (q : ℕ) → IsIn q (target ∷ targets) → q < count
below_more target targets count h all q (inl e) = subst (λ z. z < count) (sym e) h
below_more target targets count h all q (inr i) = all q i
