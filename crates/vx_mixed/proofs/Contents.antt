-- Contents of which more is known. What is computed of them is in vx_flow proofs/EffectsAlike.
use Rattle.std.proofs.Common.{◌≡◌, ℕ, ℤ, Some, None, List, [], ◌∷◌, ◌++◌, refl, ap, ◌∙◌, inl, inr}
use Rattle.std.specs.Prelude.{◌⊎◌}
use Rattle.vx_flow.specs.Effects.{Content, State, held, cell_in, value_in, IsIn}
use Rattle.vx_flow.specs.declared.graph.Operand.{Operand}
use Rattle.vx_flow.specs.declared.graph.Operand.TheVariants.{Held, Number, Stack}
use Rattle.vx_mixed.specs.Agree.{SameShape}

abbrev pub Grows : Content → Content → Type 0
Grows x y = (n : ℤ) → x ≡ Some n → y ≡ Some n

pub none_is : {A : Type 0} {X : Type 0} {n : X} → None ≡ Some n → A
none_is e = absurd (cc)

pub in_append : (v : ℕ) (xs ys : List ℕ) → (IsIn v xs ⊎ IsIn v ys) → IsIn v (xs ++ ys)
in_append v [] ys (inl h) = absurd h
in_append v [] ys (inr h) = h
in_append v (x ∷ xs) ys (inl (inl h)) = inl h
in_append v (x ∷ xs) ys (inl (inr h)) = inr (in_append v xs ys (inl h))
in_append v (x ∷ xs) ys (inr h) = inr (in_append v xs ys (inr h))

pub grows_held : (s σ : State) (x : Operand) → ((v : ℕ) → IsIn v (value_in x) → Grows (s.values v) (σ.values v)) → Grows (held s x) (held σ x)
grows_held s σ (Held v) g = g v (inl refl)
grows_held s σ (Number n) g = λ m e. e
grows_held s σ Stack g = λ m e. none_is e

pub same_shape : (s : State) → SameShape s s
same_shape s = record { arrays = refl; rows = λ a. refl }

pub cell_from : (k : ℕ) (x y : Content) (i : ℕ) → Grows x y → cell_in k x ≡ Some i → cell_in k y ≡ Some i
cell_from k None y i g e = none_is e
cell_from k (Some n) y i g e = ap (cell_in k) (g n refl) ∙ e
