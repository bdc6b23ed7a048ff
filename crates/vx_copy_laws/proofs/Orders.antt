-- Two rows of the same numbers in the same order are one.
use Rattle.std.proofs.Common.{◌≡◌, ◌<◌, ⊎_elim, sym, ◌∙◌, ap, arith, subst, ℕ, zero, suc}
use Rattle.std.proofs.lemmas.Bool.{cases_lt}

-- a row of so many numbers: those with a property, each once, in an order
pub record Row (f : ℕ → ℕ) (m : ℕ) (P : ℕ → Type 0) (R : ℕ → ℕ → Type 0) : Type 0 where
  pub each : (j : ℕ) → j < m → P (f j)
  pub all : (v : ℕ) → P v → (j : ℕ) × (j < m) × (f j ≡ v)
  pub ascends : (j l : ℕ) → j < l → l < m → R (f j) (f l)
  pub apart : (j l : ℕ) → j < m → l < m → f j ≡ f l → j ≡ l

abbrev pub OneWay : (ℕ → ℕ → Type 0) → Type 0
OneWay R = (v w : ℕ) → R v w → R w v → v ≡ w

-- below, the same, or above
data Beside (l k : ℕ) : Type 0 where
  below : l < k → Beside l k
  same : l ≡ k → Beside l k
  above : k < l → Beside l k

beside : (l k : ℕ) → Beside l k
beside l k = ⊎_elim (λ h. below h) (λ h. ⊎_elim (λ q. above q) (λ q. same (omega (arith, h, q))) (cases_lt k l)) (cases_lt l k)

module _ (P : ℕ → Type 0) (R : ℕ → ℕ → Type 0) (one_way : OneWay R) where
  -- where they are the same in front of place k, they are at k
  at_place : (f g : ℕ → ℕ) (m n k : ℕ) → Row f m P R → Row g n P R → ((j : ℕ) → j < k → j < m → j < n → f j ≡ g j) → k < m → k < n → f k ≡ g k
  at_place f g m n k F G same_front in_f in_g =
      let one = G.all (f k) (F.each k in_f) in
      let two = F.all (g k) (G.each k in_g) in
      by one.0 one.1 one.2 (beside one.0 k) two.0 two.1 two.2 (beside two.0 k)
    where
      by : (l : ℕ) → l < n → g l ≡ f k → Beside l k → (i : ℕ) → i < m → f i ≡ g k → Beside i k → f k ≡ g k
      by l h q (same e) i u r b = sym (sym (ap g e) ∙ q)
      by l h q (below e) i u r b =
          let inside : l < m = omega (arith, e, in_f) in
          let p : l ≡ k = F.apart l k inside in_f (same_front l e inside h ∙ q) in
          absurd (omega (arith, e, p))
      by l h q (above e) i u r (same d) = sym (ap f d) ∙ r
      by l h q (above e) i u r (below d) =
          let inside : i < n = omega (arith, d, in_g) in
          let p : i ≡ k = G.apart i k inside in_g (sym (same_front i d u inside) ∙ r) in
          absurd (omega (arith, d, p))
      by l h q (above e) i u r (above d) = one_way (f k) (g k) (subst (λ x. R (f k) x) r (F.ascends k i d u)) (subst (λ x. R (g k) x) q (G.ascends k l e h))

  up_to : (f g : ℕ → ℕ) (m n : ℕ) → Row f m P R → Row g n P R → (k j : ℕ) → j < k → j < m → j < n → f j ≡ g j
  up_to f g m n F G zero j l a b = absurd (omega (arith, l))
  up_to f g m n F G (suc k) j l a b =
      ⊎_elim
      (λ h. up_to f g m n F G k j h a b)
      (λ h. let e : j ≡ k = omega (arith, l, h) in
      at_place f g m n j F G (λ i h a b. up_to f g m n F G k i (let z : i < k = omega (arith, h, e) in z) a b) a b)
      (cases_lt j k)

  pub rows_same : (f g : ℕ → ℕ) (m n : ℕ) → Row f m P R → Row g n P R → (j : ℕ) → j < m → j < n → f j ≡ g j
  rows_same f g m n F G j a b = up_to f g m n F G (suc j) j (omega arith) a b

  no_longer : (f g : ℕ → ℕ) (m n : ℕ) → Row f m P R → Row g n P R → m < n → ⊥
  no_longer f g m n F G l =
      let one = F.all (g m) (G.each m l) in
      let h = one.1 in
      let inside : one.0 < n = omega (arith, l, h) in
      let p : one.0 ≡ m = G.apart one.0 m inside l (sym (rows_same f g m n F G one.0 h inside) ∙ one.2) in
      omega (arith, h, p)

  pub rows_long : (f g : ℕ → ℕ) (m n : ℕ) → Row f m P R → Row g n P R → m ≡ n
  rows_long f g m n F G = by (beside m n)
    where
      by : Beside m n → m ≡ n
      by (below l) = absurd (no_longer f g m n F G l)
      by (same e) = e
      by (above l) = absurd (no_longer g f n m G F l)
