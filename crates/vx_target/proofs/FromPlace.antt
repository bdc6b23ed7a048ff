-- Words of which something holds from a place on, each at the place behind that of the word before it.
use Rattle.std.proofs.Common.{◌≡◌, ◌+◌, ℕ, suc, Some, List, ◌∷◌, refl, subst, arith}
use Rattle.std.specs.Prelude.{slice_get}
use Rattle.vx_mixed.specs.declared.layout.VirtualWord.{VirtualWord}

module _ (HasWordAt : ℕ → VirtualWord → Type 0) where
  abbrev pub StandFrom : ℕ → List VirtualWord → Type 0
  StandFrom p words = (i : ℕ) (word : VirtualWord) → slice_get words i ≡ Some word → HasWordAt (p + i) word

  pub stand_here : (p : ℕ) (word : VirtualWord) (words : List VirtualWord) → StandFrom p (word ∷ words) → HasWordAt p word
  stand_here p word words h = let z : p + 0 ≡ p = omega arith in subst (λ n. HasWordAt n word) z (h 0 word refl)

  pub stand_on : (p : ℕ) (word : VirtualWord) (words : List VirtualWord) → StandFrom p (word ∷ words) → StandFrom (suc p) words
  stand_on p word words h i x e = let z : p + suc i ≡ suc p + i = omega arith in subst (λ n. HasWordAt n x) z (h (suc i) x e)

  pub stand_from_start : (words : List VirtualWord) → ((i : ℕ) (word : VirtualWord) → slice_get words i ≡ Some word → HasWordAt i word) → StandFrom 0 words
  stand_from_start words h i word e = let z : i ≡ 0 + i = omega arith in subst (λ n. HasWordAt n word) z (h i word e)
