-- Facts of each write in flight, cycle by cycle.
use Rattle.std.proofs.Common.{◌≡◌, ℕ, zero, suc, ◌≤◌, List, [], ◌∷◌, ◌++◌, refl, arith}
use Rattle.vx_base.specs.Flight.{Write, lands_or, flying, flying_in}
use Rattle.vx_base.proofs.Settle.{Without, Apart}

abbrev pub Each : {R N : Type 0} → (Write R N → Type 0) → List (Write R N) → Type 0
Each P [] = Unit {0}
Each P (w ∷ ws) = P w × Each P ws

module _ {R N : Type 0} where
  pub each_map : (P Q : Write R N → Type 0) → ((w : Write R N) → P w → Q w) → (ws : List (Write R N)) → Each P ws → Each Q ws
  each_map P Q f [] h = tt
  each_map P Q f (w ∷ ws) h = (f w h.0, each_map P Q f ws h.1)

  pub each_append : (P : Write R N → Type 0) (ws us : List (Write R N)) → Each P ws → Each P us → Each P (ws ++ us)
  each_append P [] us a b = b
  each_append P (w ∷ ws) us a b = (a.0, each_append P ws us a.1 b)

  -- one cycle: a write that does not land has one cycle less
  module _ (P Q : Write R N → Type 0) (next : (w : Write R N) (n : ℕ) → P w → w.left ≡ suc (suc n) → Q (record { to = w.to; number = w.number; left = suc n })) where
    one_flying : (w : Write R N) (ws : List (Write R N)) → P w → Each Q (flying ws) → (n : ℕ) → w.left ≡ n → Each Q (lands_or n (flying ws) (λ m. record { to = w.to; number = w.number; left = m } ∷ flying ws))
    one_flying w ws h rest zero e = rest
    one_flying w ws h rest (suc zero) e = rest
    one_flying w ws h rest (suc (suc n)) e = (next w n h e, rest)

    pub each_flying : (ws : List (Write R N)) → Each P ws → Each Q (flying ws)
    each_flying [] h = tt
    each_flying (w ∷ ws) h = one_flying w ws h.0 (each_flying ws h.1) w.left refl

  -- in so many cycles all have landed
  pub all_land : (n : ℕ) (ws : List (Write R N)) → Each (λ w. (1 ≤ w.left) × (w.left ≤ n)) ws → flying_in n ws ≡ []
  all_land zero [] h = refl
  all_land zero (w ∷ ws) h = absurd (let a = h.0.0 in let b = h.0.1 in omega arith)
  all_land (suc n) ws h = all_land n (flying ws) (each_flying (λ w. (1 ≤ w.left) × (w.left ≤ suc n)) (λ w. (1 ≤ w.left) × (w.left ≤ n)) (λ w m a e. (omega arith, let b = a.1 in omega arith)) ws h)

  without_append : (r : R) (ws us : List (Write R N)) → Without r ws → Without r us → Without r (ws ++ us)
  without_append r [] us a b = b
  without_append r (w ∷ ws) us a b = (a.0, without_append r ws us a.1 b)

  -- two lists, neither of which writes what the other does
  pub apart_append : (ws us : List (Write R N)) → Apart ws → Apart us → Each (λ w. Without w.to us) ws → Apart (ws ++ us)
  apart_append [] us a b h = b
  apart_append (w ∷ ws) us a b h = (without_append w.to ws us a.0 h.0, apart_append ws us a.1 b h.1)
