-- Calls that only read files, one after the other.
use Rattle.std.proofs.Common.{◌≡◌, ◌∙◌, ℕ, Option, refl, arith}
use Rattle.std.specs.Prelude.{◌≤◌}
use Rattle.vx_io.specs.Outside.{Files}
use Rattle.vx_runs.specs.Reading.{OnlyReads}

no_less : (a b c : ℕ) → a ≤ b → b ≤ c → a ≤ c
no_less a b c first second = omega arith

-- no call
pub read_nothing : (held : Option Files) (a k : ℕ) → OnlyReads (record { before = held; after = held; reads_before = a; reads_after = a; replaces_before = k; replaces_after = k })
read_nothing held a k = record { files = refl; reads = omega arith; replaces = omega arith }

-- one call that only reads behind another
pub read_on : (before mid after : Option Files) (a b c k l m : ℕ) → mid ≡ before → a ≤ b → k ≤ l →
    OnlyReads (record { before = mid; after = after; reads_before = b; reads_after = c; replaces_before = l; replaces_after = m }) →
    OnlyReads (record { before = before; after = after; reads_before = a; reads_after = c; replaces_before = k; replaces_after = m })
read_on before mid after a b c k l m same reads replaces later = record {
  files = later.files ∙ same;
  reads = no_less a b c reads later.reads;
  replaces = no_less k l m replaces later.replaces;
}
