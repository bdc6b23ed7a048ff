-- The newest facts of a list, by the fact in front.
use Rattle.std.proofs.Common.{◌≡◌, ◌⊎◌, inl, inr, ℕ, zero, suc, ◌-◌, ◌≤◌, List, [], ◌∷◌, ◌++◌, length, take, drop, get_or, refl, sym, ap, ◌∙◌, arith}
use Rattle.std.proofs.lemmas.List.{append_assoc}
use Rattle.vx_base.specs.declared.arithmetic.Code.{Code}
use Rattle.vx_flow.specs.declared.graph.Operand.{Operand}
use Rattle.vx_claims.specs.declared.intervals.Interval.{Interval}
use Rattle.vx_claims.specs.declared.residues.Residue.{Residue}
use Rattle.vx_claims.specs.declared.fact.Fact.{Fact}
use Rattle.vx_claims.specs.declared.fact.Fact.TheVariants.{Between, Congruent, Equals, Never}
use Rattle.vx_claims.specs.Forming.{newest}
use Rattle.vx_claims.proofs.Fronts.{front}

-- a fact that is always kept
abbrev pub IsKept : Fact → Type 0
IsKept f = ((v : ℕ) × (i : Interval) × (f ≡ Between v i)) ⊎ (((v : ℕ) × (c : Residue) × (f ≡ Congruent v c)) ⊎ (f ≡ Never))

kept_front : (left : ℕ) (f : Fact) (fs : List Fact) → IsKept f → newest left (f ∷ fs) ≡ f ∷ newest left fs
kept_front left f fs (inl h) = ap (λ x. newest left (x ∷ fs)) h.2 ∙ ap (λ x. x ∷ newest left fs) (sym h.2)
kept_front left f fs (inr (inl h)) = ap (λ x. newest left (x ∷ fs)) h.2 ∙ ap (λ x. x ∷ newest left fs) (sym h.2)
kept_front left f fs (inr (inr h)) = ap (λ x. newest left (x ∷ fs)) h ∙ ap (λ x. x ∷ newest left fs) (sym h)

pub newest_kept : (left : ℕ) (fs list pushed : List Fact) (d : Fact) → 1 ≤ length fs → IsKept (get_or fs 0 d) → pushed ≡ list ++ get_or fs 0 d ∷ [] → pushed ++ newest left (take (length fs - 1) (drop 1 fs)) ≡ list ++ newest left fs
newest_kept left fs list pushed d n h p =
    let f : Fact = get_or fs 0 d in
    let rest : List Fact = take (length fs - 1) (drop 1 fs) in
    ap (λ l. l ++ newest left rest) p ∙ append_assoc list (f ∷ []) (newest left rest) ∙ ap (λ l. list ++ l) (sym (kept_front left f rest h)) ∙ ap (λ l. list ++ newest left l) (sym (front fs d f n refl))

pub newest_equals : (left : ℕ) (fs list pushed : List Fact) (d : Fact) (v : ℕ) (code : Code) (a b : Operand) → (left ≡ 0 → ⊥) → 1 ≤ length fs → get_or fs 0 d ≡ Equals v code a b → pushed ≡ list ++ get_or fs 0 d ∷ [] → pushed ++ newest (left - 1) (take (length fs - 1) (drop 1 fs)) ≡ list ++ newest left fs
newest_equals zero fs list pushed d v code a b z n h p = absurd (z refl)
newest_equals (suc k) fs list pushed d v code a b z n h p =
    let rest : List Fact = take (length fs - 1) (drop 1 fs) in
    let less : suc k - 1 ≡ k = omega arith in
    ap (λ m. pushed ++ newest m rest) less ∙ ap (λ l. l ++ newest k rest) p ∙ append_assoc list (get_or fs 0 d ∷ []) (newest k rest) ∙ ap (λ f. list ++ f ∷ newest k rest) h
    ∙ ap (λ l. list ++ newest (suc k) l) (sym (front fs d (Equals v code a b) n h))
