-- What comes first at a value where some values are touched alike, and then others.
use Rattle.std.proofs.Common.{◌≡◌, inl, inr, ⊎_elim, ℕ, Bool, if◌then◌else◌, Some, List, [], ◌∷◌, ◌++◌, map, refl, sym, ap, ◌∙◌}
use Rattle.std.proofs.lemmas.Bool.{cases_eq, eq-eqb, ne_eqb}
use Rattle.vx_flow.specs.declared.routes.Touch.{Touch}
use Rattle.vx_flow.specs.Effects.{IsIn}
use Rattle.vx_flow.specs.Live.{first_touch, touch}

pub touched_first : (k : Bool) (v : ℕ) (vs : List ℕ) (rest : List Touch) → IsIn v vs → first_touch v (map (touch k) vs ++ rest) ≡ Some k
touched_first k v [] rest h = absurd h
touched_first k v (u ∷ vs) rest h =
    ⊎_elim
    (λ e. ap (λ b. if b then Some k else first_touch v (map (touch k) vs ++ rest)) (eq-eqb u v e))
    (λ n. ap (λ b. if b then Some k else first_touch v (map (touch k) vs ++ rest)) (ne_eqb u v n) ∙ touched_first k v vs rest (⊎_elim (λ e. absurd (n (sym e))) (λ q. q) h))
    (cases_eq u v)

pub touched_behind : (k : Bool) (v : ℕ) (vs : List ℕ) (rest : List Touch) → (IsIn v vs → ⊥) → first_touch v (map (touch k) vs ++ rest) ≡ first_touch v rest
touched_behind k v [] rest h = refl
touched_behind k v (u ∷ vs) rest h = ap (λ b. if b then Some k else first_touch v (map (touch k) vs ++ rest)) (ne_eqb u v (λ e. h (inl (sym e)))) ∙ touched_behind k v vs rest (λ m. h (inr m))
