-- What is claimed at the starts of blocks, when facts give what is claimed of values, and when they say that no run comes there.
use Rattle.std.specs.Prelude.{ℕ, Bool, true, false, ◌&&◌, int_le, List, [], slice_index_or}
use Rattle.std.specs.List.{list_all, list_any}
use Rattle.vx_claims.specs.declared.claim.Claim.{Claim}
use Rattle.vx_claims.specs.declared.intervals.Interval.{Interval}
use Rattle.vx_claims.specs.declared.fact.Fact.{Fact}
use Rattle.vx_claims.specs.declared.fact.Fact.TheVariants.{Between, Congruent, Equals, Never}
use Rattle.vx_flow.specs.declared.graph.Operand.TheVariants.{Held}
use Rattle.vx_claims.specs.Residues.{is_implied}
use Rattle.vx_claims.specs.Facts.{range_of, residue_of, has_equals}

abbrev pub is_inside : Interval → Interval → Bool
is_inside i j = int_le j.low i.low && int_le i.high j.high

-- the facts give the claim
abbrev pub gives : List Fact → Fact → Bool
gives fs (Between v i) = is_inside (range_of fs (Held v)) i
gives fs (Congruent v c) = is_implied (residue_of fs (Held v)) c
gives fs (Equals v code a b) = has_equals fs v code a b
gives fs Never = false

abbrev pub give : List Fact → List Fact → Bool
give fs claims = list_all (gives fs) claims

abbrev pub says_never : Fact → Bool
says_never Never = true
says_never f = false

-- the facts hold in no run
abbrev pub is_never : List Fact → Bool
is_never fs = list_any says_never fs

-- where nothing is claimed
abbrev pub nothing : Claim
nothing = record { facts = []; accesses = [] }

-- what a table claims at the start of a block: nothing where it has no row
abbrev pub listed_claims : List Claim → ℕ → Claim
listed_claims table b = slice_index_or table b nothing
