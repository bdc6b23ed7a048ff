-- Words entered by a join and left by a split, with copies on both edges, keep the order where the words keep the delays.
use Rattle.std.proofs.Common.{◌≡◌, ℕ, ◌+◌, ◌<◌, ◌≤◌, ⊎_elim, inl, inr, arith}
use Rattle.std.specs.Prelude.{◌⊎◌}
use Rattle.std.proofs.lemmas.Bool.{cases_lt}
use Rattle.std.proofs.lemmas.Bool.Decides.{nat_tests}
use Rattle.vx_base.specs.Schedule.{Ordered, Delayed, Exactly, leaving, through}

-- the three cases of leaving
pub in_word : (word : ℕ → ℕ) (w e k : ℕ) → word k ≤ w → leaving word w e k ≡ word k
in_word word w e k h = grind (arith, nat_tests)

pub copied : (word : ℕ → ℕ) (w e k : ℕ) → w < word k → k < e → leaving word w e k ≡ w + 1 + k
copied word w e k h l = grind (arith, nat_tests)

pub never : (word : ℕ → ℕ) (w e k : ℕ) → w < word k → e ≤ k → leaving word w e k ≡ w + 2 + e
never word w e k h l = grind (arith, nat_tests)

pub when_leaving : (word : ℕ → ℕ) (w e k : ℕ) → ((word k ≤ w) × (leaving word w e k ≡ word k)) ⊎ (((w < word k) × (k < e) × (leaving word w e k ≡ w + 1 + k)) ⊎ ((w < word k) × (e ≤ k) × (leaving word w e k ≡ w + 2 + e)))
when_leaving word w e k =
    ⊎_elim
    (λ lt. ⊎_elim (λ b. inr (inl (lt, b, copied word w e k lt b))) (λ b. inr (inr (lt, b, never word w e k lt b))) (cases_lt k e))
    (λ le. inl (le, in_word word w e k le))
    (cases_lt w (word k))

module _ {Loc : Type 0} (Reads Writes : ℕ → Loc → Type 0) (word : ℕ → ℕ) (w e : ℕ) (d : Delayed Reads Writes word) where
  pub ordered : Ordered Reads Writes (leaving word w e) (w + 1 + e)
  ordered = record {
    flow = λ i o l lt wr rd run. let h = d.flow i o l lt wr rd in strict i o lt h run;
    anti = λ o k l lt rd wr run. let h = d.anti o k l lt rd wr in weak o k lt h run;
    output = λ i k l lt a b run. let h = d.output i k l lt a b in strict i k lt h run;
  }
    where
      strict : (i o : ℕ) → i < o → word i < word o → leaving word w e o < w + 1 + e → leaving word w e i < leaving word w e o
      strict i o lt h run = grind (arith, when_leaving word w e i, when_leaving word w e o)

      weak : (o k : ℕ) → o < k → word o ≤ word k → leaving word w e o < w + 1 + e → leaving word w e o ≤ leaving word w e k
      weak o k lt h run = grind (arith, when_leaving word w e o, when_leaving word w e k)

  -- at the exit each live location holds what trace order holds at the split
  pub exactly : (l : Loc) → ((k : ℕ) → e ≤ k → Writes k l → w < word k) → Exactly Writes (leaving word w e) (w + 1 + e) l e
  exactly l live k wr = (
    (λ run. ⊎_elim (λ a. a) (λ b. absurd (let h = live k b wr in let n = never word w e k h b in omega arith)) (cases_lt k e)),
    (λ lt. ⊎_elim (λ a. let c = copied word w e k a lt in omega arith) (λ a. let c = in_word word w e k a in omega arith) (cases_lt w (word k))),
  )

pub when_through : (word : ℕ → ℕ) (n r w e k : ℕ) → ((word k < r) × (through word n r w e k ≡ k)) ⊎ ((r ≤ word k) × (through word n r w e k ≡ n + leaving word w e k))
when_through word n r w e k =
    ⊎_elim
    (λ lt. let q : through word n r w e k ≡ k = grind (arith, nat_tests) in inl (lt, q))
    (λ le. let q : through word n r w e k ≡ n + leaving word w e k = grind (arith, nat_tests) in inr (le, q))
    (cases_lt (word k) r)

-- all n operations stand below the join, and the split is in a word from the rejoin on
module _ {Loc : Type 0} (Reads Writes : ℕ → Loc → Type 0) (word : ℕ → ℕ) (n r w e : ℕ) (d : Delayed Reads Writes word) (few : (k : ℕ) (l : Loc) → Reads k l ⊎ Writes k l → k < n) (late : r ≤ w + 1) where
  pub ordered_through : Ordered Reads Writes (through word n r w e) (n + (w + 1 + e))
  ordered_through = record {
    flow = λ i o l lt wr rd run. let h = d.flow i o l lt wr rd in strict i o lt (few i l (inr wr)) h run;
    anti = λ o k l lt rd wr run. let h = d.anti o k l lt rd wr in weak o k lt (few o l (inl rd)) h run;
    output = λ i k l lt a b run. let h = d.output i k l lt a b in strict i k lt (few i l (inr a)) h run;
  }
    where
      strict : (i o : ℕ) → i < o → i < n → word i < word o → through word n r w e o < n + (w + 1 + e) → through word n r w e i < through word n r w e o
      strict i o lt b h run = grind (arith, when_through word n r w e i, when_through word n r w e o, when_leaving word w e i, when_leaving word w e o)

      weak : (o k : ℕ) → o < k → o < n → word o ≤ word k → through word n r w e o < n + (w + 1 + e) → through word n r w e o ≤ through word n r w e k
      weak o k lt b h run = grind (arith, when_through word n r w e o, when_through word n r w e k, when_leaving word w e o, when_leaving word w e k)

  pub exactly_through : (l : Loc) → e ≤ n → ((k : ℕ) → e ≤ k → Writes k l → w < word k) → Exactly Writes (through word n r w e) (n + (w + 1 + e)) l e
  exactly_through l le live k wr =
      let b = few k l (inr wr) in (
        (λ run. ⊎_elim (λ a. a) (λ c. absurd (let h = live k c wr in grind (arith, when_through word n r w e k, when_leaving word w e k))) (cases_lt k e)),
        (λ lt. grind (arith, when_through word n r w e k, when_leaving word w e k)),
      )
