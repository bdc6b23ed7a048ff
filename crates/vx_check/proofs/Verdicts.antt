-- A program has one verdict, and one that passes is strict on every run.
use Rattle.std.proofs.Common.{◌≡◌, ℕ, zero, suc, ◌<◌, ◌≤◌, refl, ap, arith}
use Rattle.vx_isa.specs.declared.program.WordProgram.{WordProgram}
use Rattle.vx_isa.specs.Numbers.{Numbers}
use Rattle.vx_isa.specs.Paths.{PathStrict}
use Rattle.vx_isa.proofs.AnyTiming.{path_strict_law}
use Rattle.vx_check.specs.declared.verdict.Verdict.TheVariants.{Yes, Unfit, Pending}
use Rattle.vx_check.specs.Checked.{IsEarly, IsLowest, IsUnfit, OneVerdict, PassedIsStrict}

pub data Order (p q : ℕ) : Type 0 where
  below : p < q → Order p q
  same : p ≡ q → Order p q
  above : q < p → Order p q

pub order : (p q : ℕ) → Order p q
order zero zero = same refl
order zero (suc q) = below (omega arith)
order (suc p) zero = above (omega arith)
order (suc p) (suc q) = by (order p q)
  where
    by : Order p q → Order (suc p) (suc q)
    by (below h) = below (omega arith)
    by (same h) = same (ap suc h)
    by (above h) = above (omega arith)

pub one_lowest : (Holds : ℕ → Type 0) (p q : ℕ) → IsLowest Holds p → IsLowest Holds q → p ≡ q
one_lowest Holds p q a b = by (order p q)
  where
    by : Order p q → p ≡ q
    by (below h) = absurd (b.first p h a.here)
    by (same h) = h
    by (above h) = absurd (a.first q h b.here)

module _ (m : Numbers) (w : WordProgram) where
  strict_is_fit : (p : ℕ) → PathStrict m w → IsUnfit m w p → ⊥
  strict_is_fit p s u = let h = s.fit p u.0 u.1 in let k = u.2 in absurd (cc)

  strict_is_late : (q : ℕ) → PathStrict m w → IsEarly m w q → ⊥
  strict_is_late q s e =
      let h : e.latency ≤ e.since = s.never_early e.writer q e.register e.latency e.since e.reached e.writes e.path e.reads in
      let k = e.early in
      absurd (omega arith)

pub one_verdict : OneVerdict
one_verdict m w Yes Yes a b = refl
one_verdict m w Yes (Unfit p) a b = absurd (strict_is_fit m w p a b.here)
one_verdict m w Yes (Pending p) a b = absurd (strict_is_late m w p a b.1.here)
one_verdict m w (Unfit p) Yes a b = absurd (strict_is_fit m w p b a.here)
one_verdict m w (Unfit p) (Unfit q) a b = ap Unfit (one_lowest (IsUnfit m w) p q a b)
one_verdict m w (Unfit p) (Pending q) a b = absurd (b.0 p a.here)
one_verdict m w (Pending p) Yes a b = absurd (strict_is_late m w p b a.1.here)
one_verdict m w (Pending p) (Unfit q) a b = absurd (a.0 q b.here)
one_verdict m w (Pending p) (Pending q) a b = ap Pending (one_lowest (IsEarly m w) p q a.1 b.1)

pub passed_is_strict : PassedIsStrict
passed_is_strict m w s = path_strict_law m w s
