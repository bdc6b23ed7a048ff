-- Texts of profiles, worked by hand.
use Rattle.std.specs.Prelude.{◌≡◌, ℕ, List, [], ◌∷◌, codes}
use Rattle.vx_profile.specs.declared.counts.Counts.{Counts}
use Rattle.vx_profile.specs.declared.fault.ProfileFault.TheVariants.{BadLine, CountTooLarge}
use Rattle.vx_profile.specs.Counts.{Pair, Triple}
use Rattle.vx_profile.specs.Text.{Spells, FaultAt, counts_text}

-- the counts that are held are these
abbrev pub Holds : Counts → List (Pair × ℕ) → List (Triple × ℕ) → Type 0
Holds c blocks edges = (c.blocks.entries ≡ blocks) × (c.edges.entries ≡ edges)

pub record TextExample : Type 0 where
  -- no counts; a later line replaces an earlier one
  pub nothing : (c : Counts) → Holds c [] [] → Spells (codes "profile 1\n") c
  pub replaced : (c : Counts) → Holds c (((3, 1), 5) ∷ []) (((0, 0, 1), 2) ∷ []) → Spells (codes "profile 1\nedge 0 0 1 2\nblock 3 1 3\nblock 3 1 5\n") c
  -- no first line, or another one
  pub empty : FaultAt [] (BadLine 1)
  pub unended_header : FaultAt (codes "profile 1") (BadLine 1)
  -- no line feed, a leading zero, a block that is too large, also with such a count, no target
  pub unended : FaultAt (codes "profile 1\nblock 0 0 1") (BadLine 2)
  pub leading_zero : FaultAt (codes "profile 1\nblock 00 0 1\n") (BadLine 2)
  pub large_block : FaultAt (codes "profile 1\nblock 0 4294967296 18446744073709551616\n") (BadLine 2)
  pub no_target : FaultAt (codes "profile 1\nblock 0 0 1\nedge 0 0 1\n") (BadLine 3)
  -- the count alone is too large
  pub large_count : FaultAt (codes "profile 1\nblock 0 0 18446744073709551616\n") (CountTooLarge 2)
  -- what was never passed is not written
  pub written : (c : Counts) → Holds c (((0, 0), 2) ∷ ((0, 1), 0) ∷ ((1, 0), 10) ∷ []) (((0, 0, 1), 2) ∷ []) → counts_text c ≡ codes "profile 1\nblock 0 0 2\nblock 1 0 10\nedge 0 0 1 2\n"
