-- The best of clusters that follow each other is the best of those that are permitted.
use Rattle.std.proofs.Common.{◌≡◌, ◌<◌, ◌≤◌, ◌+◌, ◌⊎◌, inl, inr, ⊎_elim, refl, sym, ◌∙◌, ap, arith, subst, Bool, true, false, nat_lt, if◌then◌else◌, ℕ, zero, suc, Option}
use Rattle.std.proofs.lemmas.Bool.{ltb-true, ltb-false, cases_lt}
use Rattle.vx_flow.specs.declared.trace.TraceOp.{TraceOp}
use Rattle.vx_flow.specs.declared.trace.Trace.{Trace}
use Rattle.vx_flow.specs.Effects.{IsIn}
use Rattle.vx_flow.specs.Walk.{numbers}
use Rattle.vx_isa.specs.Numbers.{Numbers, IsMachine}
use Rattle.vx_isa.proofs.Ranges.{ranges}
use Rattle.vx_bug.specs.declared.cluster_choice.Choice.{Choice}
use Rattle.vx_bug.specs.Clusters.{Books, permitted, cycle_of, IsBest}
use Rattle.vx_bug.specs.Choices.{IsLeast}

-- a machine has clusters

pub some_clusters : (m : Numbers) → IsMachine m → 1 ≤ m.clusters
some_clusters m h = (ranges m h).clusters.least

pub four_clusters : (m : Numbers) → IsMachine m → m.clusters ≤ 4
four_clusters m h = (ranges m h).clusters.most

-- comparing

pub one_least : (f : ℕ → ℕ) (first : ℕ) (cluster : ℕ) → cluster ≡ first → IsLeast f first 1 cluster
one_least f first cluster e = record {
  above = omega (arith, e);
  below = omega (arith, e);
  least = λ o a b. let k : cluster ≡ o = omega (arith, e, a, b) in let h : f cluster ≡ f o = ap f k in omega (arith, h);
  lowest = λ o a b q. omega (arith, e, a);
}

still_least : (f : ℕ → ℕ) (first count b c : ℕ) → IsLeast f first count b → c ≡ first + count → f b ≤ f c → IsLeast f first (count + 1) b
still_least f first count b c l e h = record {
  above = l.above;
  below = let k = l.below in omega (arith, k);
  least = λ o x y. by o x y;
  lowest = λ o x y q. lower o x y q;
}
  where
    split : (o : ℕ) → o < first + (count + 1) → (o < first + count) ⊎ (o ≡ c)
    split o y = ⊎_elim (λ z. inl z) (λ z. let k : o ≡ c = omega (arith, y, z, e) in inr k) (cases_lt o (first + count))

    by : (o : ℕ) → first ≤ o → o < first + (count + 1) → f b ≤ f o
    by o x y = ⊎_elim (λ z. l.least o x z) (λ z. subst (λ n. f b ≤ f n) (sym z) h) (split o y)

    lower : (o : ℕ) → first ≤ o → o < first + (count + 1) → f o ≡ f b → b ≤ o
    lower o x y q = ⊎_elim (λ z. l.lowest o x z q) (λ z. let k = l.below in omega (arith, k, z, e)) (split o y)

now_least : (f : ℕ → ℕ) (first count b c : ℕ) → IsLeast f first count b → c ≡ first + count → f c < f b → IsLeast f first (count + 1) c
now_least f first count b c l e h = record {
  above = omega (arith, e);
  below = omega (arith, e);
  least = λ o x y. by o x y;
  lowest = λ o x y q. lower o x y q;
}
  where
    split : (o : ℕ) → o < first + (count + 1) → (o < first + count) ⊎ (o ≡ c)
    split o y = ⊎_elim (λ z. inl z) (λ z. let k : o ≡ c = omega (arith, y, z, e) in inr k) (cases_lt o (first + count))

    by : (o : ℕ) → first ≤ o → o < first + (count + 1) → f c ≤ f o
    by o x y = ⊎_elim (λ z. let k = l.least o x z in omega (arith, k, h)) (λ z. let k : f c ≡ f o = ap f (sym z) in omega (arith, k)) (split o y)

    lower : (o : ℕ) → first ≤ o → o < first + (count + 1) → f o ≡ f c → c ≤ o
    lower o x y q = ⊎_elim (λ z. let k = l.least o x z in absurd (omega (arith, k, h, q))) (λ z. omega (arith, z)) (split o y)

pub record Compared (f : ℕ → ℕ) (first count : ℕ) (choice : Choice) : Type 0 where
  pub least : IsLeast f first count choice.cluster
  pub cycle : choice.cycle ≡ f choice.cluster

pub one_compared : (f : ℕ → ℕ) (first : ℕ) (choice : Choice) → choice.cluster ≡ first → choice.cycle ≡ f choice.cluster → Compared f first 1 choice
one_compared f first choice e c = record { least = one_least f first choice.cluster e; cycle = c }

pub more_compared : (f : ℕ → ℕ) (first count : ℕ) (best next result : Choice) → Compared f first count best → next.cluster ≡ first + count → next.cycle ≡ f next.cluster →
    result ≡ (if nat_lt next.cycle best.cycle then next else best) → Compared f first (count + 1) result
more_compared f first count best next result k e c r = by (nat_lt next.cycle best.cycle) refl
  where
    by : (x : Bool) → nat_lt next.cycle best.cycle ≡ x → Compared f first (count + 1) result
    by true q =
        let less : next.cycle < best.cycle = ltb-true next.cycle best.cycle q in
        let so : f next.cluster < f best.cluster = let a = c in let b = k.cycle in omega (arith, less, a, b) in
        let chosen : result ≡ next = r ∙ ap (λ x. if x then next else best) q in
        subst (λ choice. Compared f first (count + 1) choice) (sym chosen) (record { least = now_least f first count best.cluster next.cluster k.least e so; cycle = c })
    by false q =
        let most : best.cycle ≤ next.cycle = ltb-false next.cycle best.cycle q in
        let so : f best.cluster ≤ f next.cluster = let a = c in let b = k.cycle in omega (arith, most, a, b) in
        let chosen : result ≡ best = r ∙ ap (λ x. if x then next else best) q in
        subst (λ choice. Compared f first (count + 1) choice) (sym chosen) (record { least = still_least f first count best.cluster next.cluster k.least e so; cycle = k.cycle })

-- as lists

pub in_numbers : (first count o : ℕ) → IsIn o (numbers first count) → (first ≤ o) × (o < first + count)
in_numbers first zero o h = absurd h
in_numbers first (suc count) o h = ⊎_elim
    (λ e. let a : first ≤ o = omega (arith, e) in let b : o < first + suc count = omega (arith, e) in (a, b))
    (λ k. let r = in_numbers (first + 1) count o k in let x = r.0 in let y = r.1 in let a : first ≤ o = omega (arith, x) in let b : o < first + suc count = omega (arith, y) in (a, b))
    h

pub numbers_in : (first count o : ℕ) → first ≤ o → o < first + count → IsIn o (numbers first count)
numbers_in first zero o a b = absurd (omega (arith, a, b))
numbers_in first (suc count) o a b = ⊎_elim (λ e. inl e) (λ l. inr (numbers_in (first + 1) count o (omega (arith, l)) (omega (arith, b)))) (first_or o first a)
  where
    first_or : (o first : ℕ) → first ≤ o → (o ≡ first) ⊎ (first < o)
    first_or o first a = ⊎_elim (λ z. inr z) (λ z. let k : o ≡ first = omega (arith, a, z) in inl k) (cases_lt first o)

pub best_is : (m : Numbers) (t : Trace) (books : Books) (i : ℕ) (fixed : Option ℕ) (op : TraceOp) (first count cluster : ℕ) → numbers first count ≡ permitted m books.homes fixed op →
    IsLeast (cycle_of m t books i op) first count cluster → IsBest m t books i fixed op cluster
best_is m t books i fixed op first count cluster e l = record {
  allowed = subst (λ cs. IsIn cluster cs) e (numbers_in first count cluster l.above l.below);
  least = λ o h. let p = in_numbers first count o (subst (λ cs. IsIn o cs) (sym e) h) in let k = l.least o p.0 p.1 in omega (arith, k);
  lowest = λ o h q. let p = in_numbers first count o (subst (λ cs. IsIn o cs) (sym e) h) in let k : cycle_of m t books i op o ≡ cycle_of m t books i op cluster = omega (arith, q) in l.lowest o p.0 p.1 k;
}
