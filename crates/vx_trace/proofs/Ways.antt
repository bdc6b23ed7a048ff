-- Ways along blocks, in which each block stands once: what holds of a way holds of its parts, and which block may come next.
use Rattle.std.proofs.Common.{◌≡◌, ◌⊎◌, inl, inr, ℕ, List, [], ◌∷◌, ◌++◌, refl, sym, subst, append_assoc}
use Rattle.vx_flow.specs.declared.graph.Edge.{Edge}
use Rattle.vx_flow.specs.Effects.{IsIn}
use Rattle.vx_flow.specs.Walk.{edge}
use Rattle.vx_flow.proofs.Members.{in_left, in_last, in_front_or_last}
use Rattle.vx_mixed.specs.Settled.{NoTwice}
use Rattle.vx_mixed.specs.TraceOf.{inner_edges}
use Rattle.vx_trace.specs.Growing.{Way}

-- edges inside

pub inner_left : (e : Edge) (xs ys : List ℕ) → IsIn e (inner_edges xs) → IsIn e (inner_edges (xs ++ ys))
inner_left e [] ys h = absurd h
inner_left e (x ∷ []) ys h = absurd h
inner_left e (x ∷ y ∷ xs) ys (inl q) = inl q
inner_left e (x ∷ y ∷ xs) ys (inr h) = inr (inner_left e (y ∷ xs) ys h)

pub inner_cons : (e : Edge) (x : ℕ) (ys : List ℕ) → IsIn e (inner_edges ys) → IsIn e (inner_edges (x ∷ ys))
inner_cons e x [] h = absurd h
inner_cons e x (y ∷ ys) h = inr h

pub inner_push : (e : Edge) (xs : List ℕ) (x y : ℕ) → IsIn e (inner_edges (xs ++ x ∷ y ∷ [])) → IsIn e (inner_edges (xs ++ x ∷ [])) ⊎ (e ≡ edge x y)
inner_push e [] x y (inl q) = inr q
inner_push e [] x y (inr h) = absurd h
inner_push e (z ∷ []) x y (inl q) = inl (inl q)
inner_push e (z ∷ []) x y (inr (inl q)) = inr q
inner_push e (z ∷ []) x y (inr (inr h)) = absurd h
inner_push e (z ∷ w ∷ zs) x y (inl q) = inl (inl q)
inner_push e (z ∷ w ∷ zs) x y (inr h) = elim (inner_push e (w ∷ zs) x y h) [ inl a ↦ inl (inr a) | inr q ↦ inr q ]

pub inner_last : (xs : List ℕ) (x y : ℕ) → IsIn (edge x y) (inner_edges (xs ++ x ∷ y ∷ []))
inner_last [] x y = inl refl
inner_last (z ∷ xs) x y = inner_cons (edge x y) z (xs ++ x ∷ y ∷ []) (inner_last xs x y)

-- each once

once_left : (xs ys : List ℕ) → NoTwice (xs ++ ys) → NoTwice xs
once_left [] ys h = tt
once_left (x ∷ xs) ys h = (λ i. h.0 (in_left x xs ys i), once_left xs ys h.1)

once_push : (xs : List ℕ) (y : ℕ) → NoTwice xs → (IsIn y xs → ⊥) → NoTwice (xs ++ y ∷ [])
once_push [] y h n = (n, tt)
once_push (x ∷ xs) y h n = (λ i. elim (in_front_or_last x y xs i) [ inl a ↦ h.0 a | inr q ↦ n (inl (sym q)) ], once_push xs y h.1 (λ i. n (inr i)))

once_apart : (xs : List ℕ) (y : ℕ) → NoTwice (xs ++ y ∷ []) → IsIn y xs → ⊥
once_apart [] y h i = i
once_apart (x ∷ xs) y h (inl q) = h.0 (subst (λ z. IsIn z (xs ++ y ∷ [])) q (in_last y xs))
once_apart (x ∷ xs) y h (inr i) = once_apart xs y h.1 i

-- parts of a way

pub way_left : {P : ℕ → Type 0} {Q : Edge → Type 0} (xs ys : List ℕ) → Way P Q (xs ++ ys) → Way P Q xs
way_left xs ys w = record { blocks = λ b i. w.blocks b (in_left b xs ys i); once = once_left xs ys w.once; edges = λ e i. w.edges e (inner_left e xs ys i) }

pub way_behind : {P : ℕ → Type 0} {Q : Edge → Type 0} (x : ℕ) (xs : List ℕ) → Way P Q (x ∷ xs) → Way P Q xs
way_behind x xs w = record { blocks = λ b i. w.blocks b (inr i); once = w.once.1; edges = λ e i. w.edges e (inner_cons e x xs i) }

pub way_right : {P : ℕ → Type 0} {Q : Edge → Type 0} (xs ys : List ℕ) → Way P Q (xs ++ ys) → Way P Q ys
way_right [] ys w = w
way_right (x ∷ xs) ys w = way_right xs ys (way_behind x (xs ++ ys) w)

pub way_alone : {P : ℕ → Type 0} {Q : Edge → Type 0} (x : ℕ) → P x → Way P Q (x ∷ [])
way_alone {P = P} x p = record { blocks = λ b i. elim i [ inl q ↦ subst P (sym q) p | inr z ↦ absurd z ]; once = (λ z. z, tt); edges = λ e i. absurd i }

-- which block may follow the last

pub way_push : {P : ℕ → Type 0} {Q : Edge → Type 0} (xs : List ℕ) (x y : ℕ) → Way P Q (xs ++ x ∷ []) → P y → (IsIn y (xs ++ x ∷ []) → ⊥) → Q (edge x y) → Way P Q ((xs ++ x ∷ []) ++ y ∷ [])
way_push {P = P} {Q = Q} xs x y w p n q = record {
  blocks = λ b i. elim (in_front_or_last b y (xs ++ x ∷ []) i) [ inl a ↦ w.blocks b a | inr e ↦ subst P (sym e) p ];
  once = once_push (xs ++ x ∷ []) y w.once n;
  edges = λ e i. elim (inner_push e xs x y (subst (λ z. IsIn e (inner_edges z)) (append_assoc xs (x ∷ []) (y ∷ [])) i)) [ inl a ↦ w.edges e a | inr s ↦ subst Q (sym s) q ];
}

pub record Pushed (P : ℕ → Type 0) (Q : Edge → Type 0) (xs : List ℕ) (x y : ℕ) : Type 0 where
  pub block : P y
  pub apart : IsIn y (xs ++ x ∷ []) → ⊥
  pub along : Q (edge x y)

pub pushed : {P : ℕ → Type 0} {Q : Edge → Type 0} (xs : List ℕ) (x y : ℕ) → Way P Q ((xs ++ x ∷ []) ++ y ∷ []) → Pushed P Q xs x y
pushed xs x y w = record {
  block = w.blocks y (in_last y (xs ++ x ∷ []));
  apart = once_apart (xs ++ x ∷ []) y w.once;
  along = w.edges (edge x y) (subst (λ z. IsIn (edge x y) (inner_edges z)) (sym (append_assoc xs (x ∷ []) (y ∷ []))) (inner_last xs x y));
}

-- which may stand before the first

pub way_front : {P : ℕ → Type 0} {Q : Edge → Type 0} (x y : ℕ) (ys : List ℕ) → Way P Q (y ∷ ys) → P x → (IsIn x (y ∷ ys) → ⊥) → Q (edge x y) → Way P Q (x ∷ y ∷ ys)
way_front {P = P} {Q = Q} x y ys w p n q = record {
  blocks = λ b i. elim i [ inl e ↦ subst P (sym e) p | inr a ↦ w.blocks b a ];
  once = (n, w.once);
  edges = λ e i. elim i [ inl s ↦ subst Q (sym s) q | inr a ↦ w.edges e a ];
}
