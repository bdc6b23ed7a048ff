-- The machine that a program's words are issued by differs from the machine in its branches alone.
use Rattle.std.proofs.Common.{◌≡◌, ℕ, zero, suc, Bool, true, false, if◌then◌else◌, refl, sym, ap, ◌∙◌, arith}
use Rattle.std.proofs.lemmas.Bool.{and_parts}
use Rattle.std.proofs.lemmas.Bool.Decides.{nat_tests}
use Rattle.std.specs.Cmp.Derive.{both_true}
use Rattle.std.specs.Prelude.{◌==◌}
use Rattle.vx_base.specs.declared.arithmetic.Code.{Code}
use Rattle.vx_base.specs.declared.arithmetic.Code.TheVariants.{ToBranch, Mpylu, Mpyhs, Div, Rem}
use Rattle.vx_isa.specs.declared.operation.Register.{Register}
use Rattle.vx_isa.specs.declared.operation.Operation.{Operation}
use Rattle.vx_isa.specs.declared.operation.Operation.TheVariants.{Compute, Move, Select, Load, Input, More, FromLink, ToLink}
use Rattle.vx_isa.specs.declared.program.WordProgram.{WordProgram}
use Rattle.vx_isa.specs.Numbers.{Numbers, IsMachine, is_between}
use Rattle.vx_isa.specs.Operations.{latency_of, latency_of_code}
use Rattle.vx_isa.specs.Machine.{branches_of, issuing_machine}
use Rattle.vx_isa.specs.Paths.{WritesAt, NeverReadsEarly, NeverWritesEarly}

-- it has the same latencies

pub latency_for : (w : WordProgram) (m : Numbers) (op : Operation) → latency_of (issuing_machine w m) op ≡ latency_of m op
latency_for w m (Compute k code to a b) = code_for code
  where
    code_for : (code : Code) → latency_of_code (issuing_machine w m) code ≡ latency_of_code m code
    code_for (ToBranch compare) = refl
    code_for Mpylu = refl
    code_for Mpyhs = refl
    code_for Div = refl
    code_for Rem = refl
    code_for code = refl
latency_for w m (Move k to a) = refl
latency_for w m (Select k to t a b) = refl
latency_for w m (Load k to o r d) = refl
latency_for w m (Input to) = refl
latency_for w m (More to) = refl
latency_for w m (FromLink to) = refl
latency_for w m (ToLink a) = refl
latency_for w m op = refl

writes_for : (w : WordProgram) (m : Numbers) (p : ℕ) (r : Register) (l : ℕ) → WritesAt (issuing_machine w m) w p r l → WritesAt m w p r l
writes_for w m p r l (word, op, at, among, to, zero_not, no_call, late) = (word, op, at, among, to, zero_not, no_call, sym (latency_for w m op) ∙ late)

pub reads_for : (w : WordProgram) (m : Numbers) → NeverReadsEarly m w → NeverReadsEarly (issuing_machine w m) w
reads_for w m never p q r l c reached writes after touches = never p q r l c reached (writes_for w m p r l writes) after touches

pub names_for : (w : WordProgram) (m : Numbers) → NeverWritesEarly m w → NeverWritesEarly (issuing_machine w m) w
names_for w m never p q r l c reached writes after touches = never p q r l c reached (writes_for w m p r l writes) after touches

branches_for : (version n : ℕ) → is_between 1 2 n ≡ true → is_between 1 2 (branches_of version n) ≡ true
branches_for version n e = by (version == 1)
  where
    by : (b : Bool) → is_between 1 2 (if b then 1 else n) ≡ true
    by true = refl
    by false = e

-- it is a machine
pub issuing_machine_law : (w : WordProgram) (m : Numbers) → IsMachine m → IsMachine (issuing_machine w m)
issuing_machine_law w m is = let parts = and_parts _ (is_between 1 2 m.branches) is in both_true parts.0 (branches_for w.version m.branches parts.1)

-- and the machine itself where the version is the number of its branches
pub issuing_machine_own : (w : WordProgram) (m : Numbers) → w.version ≡ m.branches → issuing_machine w m ≡ m
issuing_machine_own w m e = ap (λ n. record m { branches = n }) (by w.version m.branches e)
  where
    by : (version n : ℕ) → version ≡ n → branches_of version n ≡ n
    by (suc zero) n e = e
    by version n e = grind (arith, nat_tests)
