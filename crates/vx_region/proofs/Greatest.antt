-- The greatest of a list, the first word behind all of these, and the empty cycles behind an exit.
use Rattle.std.proofs.Common.{◌≡◌, ◌⊎◌, inl, inr, ℕ, zero, suc, ◌+◌, ◌-◌, ◌<◌, ◌≤◌, Some, List, [], ◌∷◌, length, map, slice_get, refl, ap, arith}
use Rattle.std.specs.Prelude.{if◌then◌else◌}
use Rattle.std.proofs.lemmas.Bool.{cases_lt, lt-ltb}
use Rattle.vx_flow.specs.declared.trace.TraceOp.{TraceOp}
use Rattle.vx_isa.specs.Numbers.{Numbers}
use Rattle.vx_dep.specs.Delays.{latency_of}
use Rattle.vx_dep.specs.Compensation.{word_at, greatest, rejoin_word, left_at, all_left_at}

pub all_below : (words : List ℕ) (k w : ℕ) → slice_get words k ≡ Some w → w < greatest (map suc words)
all_below [] k w e = absurd (cc)
all_below (v ∷ words) zero w e = let q : v ≡ w = cc in omega (arith, q)
all_below (v ∷ words) (suc k) w e = let h = all_below words k w e in omega (arith, h)

pub first_below : (words : List ℕ) (q k : ℕ) → k < q → k < length words → word_at words k < rejoin_word words q
first_below words zero k lt in_ = absurd (omega (arith, lt))
first_below [] (suc q) k lt in_ = absurd (omega (arith, in_))
first_below (v ∷ words) (suc q) zero lt in_ = omega arith
first_below (v ∷ words) (suc q) (suc k) lt in_ = let h = first_below words q k (omega (arith, lt)) (omega (arith, in_)) in omega (arith, h)

-- it is 0 or directly behind one of them
pub reached : (words : List ℕ) (q : ℕ) → q ≤ length words → (rejoin_word words q ≡ 0) ⊎ ((i : ℕ) × (i < q) × (rejoin_word words q ≡ word_at words i + 1))
reached words zero in_ = inl refl
reached [] (suc q) in_ = absurd (omega (arith, in_))
reached (v ∷ words) (suc q) in_ = by (reached words q (omega (arith, in_))) (cases_lt v (rejoin_word words q))
  where
    by : (rejoin_word words q ≡ 0) ⊎ ((i : ℕ) × (i < q) × (rejoin_word words q ≡ word_at words i + 1)) → (v < rejoin_word words q) ⊎ (rejoin_word words q ≤ v) → (rejoin_word (v ∷ words) (suc q) ≡ 0) ⊎ ((i : ℕ) × (i < suc q) × (rejoin_word (v ∷ words) (suc q) ≡ word_at (v ∷ words) i + 1))
    by (inl e) (inl lt) = absurd (omega (arith, e, lt))
    by (inr (i, lo, e)) (inl lt) = inr (suc i, omega (arith, lo), omega (arith, e, lt))
    by h (inr le) = inr (0, omega arith, omega (arith, le))

-- what is left of each operation before an exit is over when its empty cycles are
pub drained : (m : Numbers) (end : ℕ) (words : List ℕ) (ops : List TraceOp) (k : ℕ) (op : TraceOp) → length words ≡ length ops → slice_get ops k ≡ Some op → word_at words k < end → word_at words k + latency_of m op ≤ end + greatest (all_left_at m end words ops)
drained m end words [] k op many at lt = absurd (cc)
drained m end [] (x ∷ ops) k op many at lt = absurd (omega (arith, many))
drained m end (w ∷ words) (x ∷ ops) zero op many at lt =
    let q : x ≡ op = cc in
    let e : left_at m end w x ≡ (w + latency_of m x) - end = ap (λ b. if b then (w + latency_of m x) - end else 0) (lt-ltb w end lt) in
    let l : latency_of m x ≡ latency_of m op = ap (latency_of m) q in
    omega (arith, e, l)
drained m end (w ∷ words) (x ∷ ops) (suc k) op many at lt =
    let h = drained m end words ops k op (omega (arith, many)) at lt in
    omega (arith, h)
