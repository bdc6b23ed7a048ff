-- What is done at which time.
use Rattle.std.proofs.Common.{◌≡◌, ℕ, zero, suc, ◌+◌, ◌-◌, ◌<◌, ◌≤◌, Bool, true, false, [], ◌∷◌, cond, ◌&&◌, refl, sym, ap, ◌∙◌, subst, ⊎_elim, inl, inr, arith}
use Rattle.std.specs.Prelude.{◌⊎◌, nat_lt}
use Rattle.std.proofs.lemmas.Bool.{cases_lt, cases_eq, lt-ltb, le-ltb, le-leb, lt-leb, eq-eqb, ne_eqb, ltb-true, and_parts, and_from}
use Rattle.vx_flow.specs.Effects.{IsIn}
use Rattle.vx_base.specs.Schedule.{leaving, through}
use Rattle.vx_base.proofs.Leaving.{when_leaving, when_through, in_word, copied}
use Rattle.vx_motion.specs.Facts.{places}
use Rattle.vx_motion.proofs.AtTimes.{one_if, later, at_time}

pub in_places : (word : ℕ → ℕ) (w k m j : ℕ) → IsIn j (places word w k m) → (word j ≡ w) × (j < k + m)
in_places word w k zero j h = absurd h
in_places word w k (suc m) j h =
    ⊎_elim
    (λ e. let h' : IsIn j (k ∷ places word w (suc k) m) = subst (λ b. IsIn j (cond b (k ∷ places word w (suc k) m) (places word w (suc k) m))) (eq-eqb (word k) w e) h in
    ⊎_elim (λ q. (ap word q ∙ e, let q' = q in omega arith)) (λ q. let r = in_places word w (suc k) m j q in (r.0, let r1 = r.1 in omega arith)) h')
    (λ n. let h' : IsIn j (places word w (suc k) m) = subst (λ b. IsIn j (cond b (k ∷ places word w (suc k) m) (places word w (suc k) m))) (ne_eqb (word k) w n) h in
    let r = in_places word w (suc k) m j h' in (r.0, let r1 = r.1 in omega arith))
    (cases_eq (word k) w)

pub to_places : (word : ℕ → ℕ) (w k m j : ℕ) → word j ≡ w → k ≤ j → j < k + m → IsIn j (places word w k m)
to_places word w k zero j e lo hi = absurd (omega arith)
to_places word w k (suc m) j e lo hi =
    ⊎_elim
    (λ q. subst (λ b. IsIn j (cond b (k ∷ places word w (suc k) m) (places word w (suc k) m))) (sym (eq-eqb (word k) w (ap word (sym q) ∙ e))) (inl q))
    (λ n. let rest = to_places word w (suc k) m j e (let n' = n in omega arith) (omega arith) in
    ⊎_elim
    (λ f. subst (λ b. IsIn j (cond b (k ∷ places word w (suc k) m) (places word w (suc k) m))) (sym (eq-eqb (word k) w f)) (inr rest))
    (λ f. subst (λ b. IsIn j (cond b (k ∷ places word w (suc k) m) (places word w (suc k) m))) (sym (ne_eqb (word k) w f)) rest)
    (cases_eq (word k) w))
    (cases_eq j k)

in_single : (b : Bool) (k j : ℕ) → IsIn j (one_if b k) → (b ≡ true) × (j ≡ k)
in_single true k j (inl e) = (refl, e)
in_single true k j (inr e) = absurd e
in_single false k j e = absurd e

to_single : (b : Bool) (k j : ℕ) → b ≡ true → j ≡ k → IsIn j (one_if b k)
to_single b k j e f = subst (λ z. IsIn j (one_if z k)) (sym e) (inl f)

module _ (word : ℕ → ℕ) (n r w e : ℕ) where
  pub at_join : (t : ℕ) → t < n → at_time word n r w e t ≡ one_if (nat_lt (word t) r) t
  at_join t h = ap (λ b. cond b (one_if (nat_lt (word t) r) t) (later word n r w e (t - n))) (lt-ltb t n h)

  past : (j : ℕ) → at_time word n r w e (n + j) ≡ later word n r w e j
  past j = ap (λ b. cond b (one_if (nat_lt (word (n + j)) r) (n + j)) (later word n r w e ((n + j) - n))) (le-ltb (n + j) n (omega arith)) ∙ ap (later word n r w e) (let q : (n + j) - n ≡ j = omega arith in q)

  pub before_region : (j : ℕ) → j < r → j ≤ w → at_time word n r w e (n + j) ≡ []
  before_region j h k = past j ∙ ap (λ b. cond b (cond (nat_lt j r) [] (places word j 0 n)) (one_if (nat_lt w (word (j - (w + 1))) && nat_lt (j - (w + 1)) e) (j - (w + 1)))) (le-leb j w k) ∙ ap (λ b. cond b [] (places word j 0 n)) (lt-ltb j r h)

  pub in_region : (j : ℕ) → r ≤ j → j ≤ w → at_time word n r w e (n + j) ≡ places word j 0 n
  in_region j h k = past j ∙ ap (λ b. cond b (cond (nat_lt j r) [] (places word j 0 n)) (one_if (nat_lt w (word (j - (w + 1))) && nat_lt (j - (w + 1)) e) (j - (w + 1)))) (le-leb j w k) ∙ ap (λ b. cond b [] (places word j 0 n)) (le-ltb j r h)

  pub on_edge : (j : ℕ) → at_time word n r w e (n + (w + 1 + j)) ≡ one_if (nat_lt w (word j) && nat_lt j e) j
  on_edge j =
      past (w + 1 + j)
      ∙ ap (λ b. cond b (cond (nat_lt (w + 1 + j) r) [] (places word (w + 1 + j) 0 n)) (one_if (nat_lt w (word ((w + 1 + j) - (w + 1))) && nat_lt ((w + 1 + j) - (w + 1)) e) ((w + 1 + j) - (w + 1)))) (lt-leb (w + 1 + j) w (omega arith))
      ∙ ap (λ i. one_if (nat_lt w (word i) && nat_lt i e) i) (let q : (w + 1 + j) - (w + 1) ≡ j = omega arith in q)

  module _ (late : r ≤ w + 1) (last : ℕ) (reach : w ≤ last) (beyond : (k : ℕ) → n ≤ k → last < word k) where
    abbrev pub When : ℕ → ℕ
    When = through word n r w e

    abbrev pub End : ℕ
    End = n + (w + 1 + e)

    few : (k : ℕ) → word k ≤ w → k < n
    few k h = ⊎_elim (λ a. a) (λ a. absurd (let b = beyond k a in omega arith)) (cases_lt k n)

    -- the four ways to be done, or not
    pub ways : (k : ℕ) → ((word k < r) × (k < n) × (When k ≡ k)) ⊎ (((r ≤ word k) × (word k ≤ w) × (k < n) × (When k ≡ n + word k)) ⊎ (((w < word k) × (k < e) × (When k ≡ n + (w + 1 + k))) ⊎ ((w < word k) × (e ≤ k) × (End < When k))))
    ways k = ⊎_elim (λ a. inl (a.0, few k (let a0 = a.0 in omega arith), a.1)) (λ a. inr (below a.0 a.1)) (when_through word n r w e k)
      where
        below : r ≤ word k → When k ≡ n + leaving word w e k → ((r ≤ word k) × (word k ≤ w) × (k < n) × (When k ≡ n + word k)) ⊎ (((w < word k) × (k < e) × (When k ≡ n + (w + 1 + k))) ⊎ ((w < word k) × (e ≤ k) × (End < When k)))
        below a q =
            ⊎_elim
            (λ b. inl (a, b.0, few k b.0, q ∙ ap (λ z. n + z) b.1))
            (λ b. inr (⊎_elim (λ c. inl (c.0, c.1, q ∙ ap (λ z. n + z) c.2)) (λ c. inr (c.0, c.1, let c2 = c.2 in omega arith)) b))
            (when_leaving word w e k)

    pub all : (k t : ℕ) → t < End → When k ≡ t → IsIn k (at_time word n r w e t)
    all k t lt q =
        ⊎_elim
        (λ a. let p : t ≡ k = sym q ∙ a.2 in subst (λ z. IsIn k (at_time word n r w e z)) (sym p) (subst (λ z. IsIn k z) (sym (at_join k a.1)) (to_single (nat_lt (word k) r) k k (lt-ltb (word k) r a.0) refl)))
        (λ x. ⊎_elim
        (λ a. let p : t ≡ n + word k = sym q ∙ a.3 in subst (λ z. IsIn k (at_time word n r w e z)) (sym p) (subst (λ z. IsIn k z) (sym (in_region (word k) a.0 a.1)) (to_places word (word k) 0 n k refl (omega arith) (let a2 = a.2 in omega arith))))
        (λ y. ⊎_elim
        (λ a. let p : t ≡ n + (w + 1 + k) = sym q ∙ a.2 in subst (λ z. IsIn k (at_time word n r w e z)) (sym p) (subst (λ z. IsIn k z) (sym (on_edge k)) (to_single (nat_lt w (word k) && nat_lt k e) k k (and_from (nat_lt w (word k)) (nat_lt k e) (lt-ltb w (word k) a.0) (lt-ltb k e a.1)) refl)))
        (λ a. absurd (let a2 = a.2 in omega arith))
        y)
        x)
        (ways k)

    pub when_copied : (k : ℕ) → word k < r → When k ≡ k
    when_copied k h = ⊎_elim (λ a. a.1) (λ a. absurd (let b = a.0 in omega arith)) (when_through word n r w e k)

    when_below : (k : ℕ) → r ≤ word k → When k ≡ n + leaving word w e k
    when_below k h = ⊎_elim (λ a. absurd (let b = a.0 in omega arith)) (λ a. a.1) (when_through word n r w e k)

    pub when_placed : (k : ℕ) → r ≤ word k → word k ≤ w → When k ≡ n + word k
    when_placed k h i = when_below k h ∙ ap (λ z. n + z) (in_word word w e k i)

    pub only : (k t : ℕ) → t < End → IsIn k (at_time word n r w e t) → When k ≡ t
    only k t lt h =
        ⊎_elim
        (λ a. let s = in_single (nat_lt (word t) r) t k (subst (λ z. IsIn k z) (at_join t a) h) in when_copied k (subst (λ z. word z < r) (sym s.1) (ltb-true (word t) r s.0)) ∙ s.1)
        (λ a. let q : t ≡ n + (t - n) = omega arith in inside (t - n) (let l : n + (t - n) < End = omega arith in l) (subst (λ z. IsIn k (at_time word n r w e z)) q h) ∙ sym q)
        (cases_lt t n)
      where
        edge : (i : ℕ) → IsIn k (at_time word n r w e (n + (w + 1 + i))) → When k ≡ n + (w + 1 + i)
        edge i g =
            let s = in_single (nat_lt w (word i) && nat_lt i e) i k (subst (λ z. IsIn k z) (on_edge i) g) in
            let b = and_parts (nat_lt w (word i)) (nat_lt i e) s.0 in
            let lo = ltb-true w (word i) b.0 in
            let hi = ltb-true i e b.1 in
            let c : When i ≡ n + (w + 1 + i) = when_below i (omega arith) ∙ ap (λ z. n + z) (copied word w e i lo hi) in
            ap When s.1 ∙ c

        inside : (j : ℕ) → n + j < End → IsIn k (at_time word n r w e (n + j)) → When k ≡ n + j
        inside j l g =
            ⊎_elim
            (λ a. let q : j ≡ w + 1 + (j - (w + 1)) = omega arith in ap (λ z. When k) q ∙ edge (j - (w + 1)) (subst (λ z. IsIn k (at_time word n r w e (n + z))) q g) ∙ ap (λ z. n + z) (sym q))
            (λ a. ⊎_elim
            (λ b. absurd (subst (λ z. IsIn k z) (before_region j b a) g))
            (λ b. let s = in_places word j 0 n k (subst (λ z. IsIn k z) (in_region j b a) g) in when_placed k (subst (λ z. r ≤ z) (sym s.0) b) (subst (λ z. z ≤ w) (sym s.0) a) ∙ ap (λ z. n + z) s.0)
            (cases_lt j r))
            (cases_lt w j)
