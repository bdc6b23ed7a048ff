-- What registers come to once every write in flight has landed; one cycle changes nothing of it.
use Rattle.std.proofs.Common.{◌≡◌, ◌≢◌, ℕ, zero, suc, Bool, true, false, List, [], ◌∷◌, ◌++◌, cond, refl, sym, ap, ◌∙◌}
use Rattle.vx_base.specs.Flight.{Write, written, lands_or, landed, flying, landed_in, flying_in}

-- a test that tells registers apart
pub record Tells {R : Type 0} (same : R → R → Bool) : Type 0 where
  pub equal : (r s : R) → same r s ≡ true → r ≡ s
  pub itself : (r : R) → same r r ≡ true

-- no write to r
abbrev pub Without : {R N : Type 0} → R → List (Write R N) → Type 0
Without r [] = Unit {0}
Without r (w ∷ ws) = (w.to ≢ r) × Without r ws

-- no two writes to one register
abbrev pub Apart : {R N : Type 0} → List (Write R N) → Type 0
Apart [] = Unit {0}
Apart (w ∷ ws) = Without w.to ws × Apart ws

-- the registers once every write has landed, in order
abbrev pub settled : {R N : Type 0} → (R → R → Bool) → (R → N) → List (Write R N) → R → N
settled same regs [] = regs
settled same regs (w ∷ ws) = settled same (written same regs w.to w.number) ws

false_of : (b : Bool) → (b ≡ true → ⊥) → b ≡ false
false_of true h = absurd (h refl)
false_of false h = refl

-- two writes to two registers may be made in either order
two_writes : {N : Type 0} → (a b : Bool) (x y z : N) → (a ≡ true → b ≡ true → ⊥) → cond a x (cond b y z) ≡ cond b y (cond a x z)
two_writes true true x y z h = absurd (h refl refl)
two_writes true false x y z h = refl
two_writes false b x y z h = refl

module _ {R : Type 0} (N : Type 0) (same : R → R → Bool) (tells : Tells same) where
  pub differ : (r s : R) → (r ≢ s) → same r s ≡ false
  differ r s h = false_of (same r s) (λ e. h (tells.equal r s e))

  pub written_at : (regs : R → N) (r : R) (x : N) → written same regs r x r ≡ x
  written_at regs r x = ap (λ b. cond b x (regs r)) (tells.itself r)

  pub written_off : (regs : R → N) (r : R) (x : N) (s : R) → (s ≢ r) → written same regs r x s ≡ regs s
  written_off regs r x s h = ap (λ b. cond b x (regs s)) (differ s r h)

  pub written_cong : (f g : R → N) (r : R) (x : N) → ((s : R) → f s ≡ g s) → (s : R) → written same f r x s ≡ written same g r x s
  written_cong f g r x h s = ap (λ y. cond (same s r) x y) (h s)

  -- where two files agree, they agree after the writes
  pub settled_cong : (ws : List (Write R N)) (f g : R → N) → ((s : R) → f s ≡ g s) → (s : R) → settled same f ws s ≡ settled same g ws s
  settled_cong [] f g h s = h s
  settled_cong (w ∷ ws) f g h s = settled_cong ws (written same f w.to w.number) (written same g w.to w.number) (written_cong f g w.to w.number h) s

  flying_at : (r : R) (w : Write R N) (ws : List (Write R N)) (n : ℕ) → (w.to ≢ r) → Without r (flying ws) → Without r (lands_or n (flying ws) (λ m. record { to = w.to; number = w.number; left = m } ∷ flying ws))
  flying_at r w ws zero h k = k
  flying_at r w ws (suc zero) h k = k
  flying_at r w ws (suc (suc n)) h k = (h, k)

  pub without_flying : (r : R) (ws : List (Write R N)) → Without r ws → Without r (flying ws)
  without_flying r [] h = tt
  without_flying r (w ∷ ws) h = flying_at r w ws w.left h.0 (without_flying r ws h.1)

  swap : (regs : R → N) (r : R) (x : N) (q : R) (y : N) → (q ≢ r) → (t : R) → written same (written same regs r x) q y t ≡ written same (written same regs q y) r x t
  swap regs r x q y h t = two_writes (same t q) (same t r) y x (regs t) (λ a b. h (sym (tells.equal t q a) ∙ tells.equal t r b))

  -- a write to a register that no other write names may be made first
  write_first : (ws : List (Write R N)) (regs : R → N) (r : R) (x : N) → Without r ws → (s : R) → settled same (written same regs r x) ws s ≡ written same (settled same regs ws) r x s
  write_first [] regs r x h s = refl
  write_first (w ∷ ws) regs r x h s =
      settled_cong ws (written same (written same regs r x) w.to w.number) (written same (written same regs w.to w.number) r x) (swap regs r x w.to w.number h.0) s ∙ write_first ws (written same regs w.to w.number) r x h.1 s

  settles_at : (regs : R → N) (w : Write R N) (ws : List (Write R N)) (n : ℕ) → Without w.to ws → ((f : R → N) (s : R) → settled same (landed same f ws) (flying ws) s ≡ settled same f ws s) → (s : R) →
      settled same (lands_or n (landed same (written same regs w.to w.number) ws) (λ m. landed same regs ws)) (lands_or n (flying ws) (λ m. record { to = w.to; number = w.number; left = m } ∷ flying ws)) s ≡ settled same (written same regs w.to w.number) ws s
  settles_at regs w ws zero a h s = h (written same regs w.to w.number) s
  settles_at regs w ws (suc zero) a h s = h (written same regs w.to w.number) s
  settles_at regs w ws (suc (suc n)) a h s =
      write_first (flying ws) (landed same regs ws) w.to w.number (without_flying w.to ws a) s
      ∙ ap (λ x. cond (same s w.to) w.number x) (h regs s)
      ∙ sym (write_first ws regs w.to w.number a s)

  -- one cycle changes nothing of what the registers come to
  pub settles : (ws : List (Write R N)) → Apart ws → (regs : R → N) (s : R) → settled same (landed same regs ws) (flying ws) s ≡ settled same regs ws s
  settles [] a regs s = refl
  settles (w ∷ ws) a regs s = settles_at regs w ws w.left a.0 (settles ws a.1) s

  apart_at : (w : Write R N) (ws : List (Write R N)) (n : ℕ) → Without w.to (flying ws) → Apart (flying ws) → Apart (lands_or n (flying ws) (λ m. record { to = w.to; number = w.number; left = m } ∷ flying ws))
  apart_at w ws zero a b = b
  apart_at w ws (suc zero) a b = b
  apart_at w ws (suc (suc n)) a b = (a, b)

  pub apart_flying : (ws : List (Write R N)) → Apart ws → Apart (flying ws)
  apart_flying [] a = tt
  apart_flying (w ∷ ws) a = apart_at w ws w.left (without_flying w.to ws a.0) (apart_flying ws a.1)

  pub settles_in : (n : ℕ) (ws : List (Write R N)) → Apart ws → (regs : R → N) (s : R) → settled same (landed_in same n regs ws) (flying_in n ws) s ≡ settled same regs ws s
  settles_in zero ws a regs s = refl
  settles_in (suc n) ws a regs s = settles_in n (flying ws) (apart_flying ws a) (landed same regs ws) s ∙ settles ws a regs s

  pub apart_in : (n : ℕ) (ws : List (Write R N)) → Apart ws → Apart (flying_in n ws)
  apart_in zero ws a = a
  apart_in (suc n) ws a = apart_in n (flying ws) (apart_flying ws a)

  -- a register that is not in flight holds what it comes to
  pub not_in_flight : (ws : List (Write R N)) (f : R → N) (r : R) → Without r ws → settled same f ws r ≡ f r
  not_in_flight [] f r h = refl
  not_in_flight (w ∷ ws) f r h = not_in_flight ws (written same f w.to w.number) r h.1 ∙ written_off f w.to w.number r (λ e. h.0 (sym e))

  pub without_append : (r : R) (ws vs : List (Write R N)) → Without r ws → Without r vs → Without r (ws ++ vs)
  without_append r [] vs a b = b
  without_append r (w ∷ ws) vs a b = (a.0, without_append r ws vs a.1 b)

  pub settled_append : (ws vs : List (Write R N)) (f : R → N) → settled same f (ws ++ vs) ≡ settled same (settled same f ws) vs
  settled_append [] vs f = refl
  settled_append (w ∷ ws) vs f = settled_append ws vs (written same f w.to w.number)
