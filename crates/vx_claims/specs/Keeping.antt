-- What is known behind an operation as two parts: what the operation says, and what it leaves of what was known before, which is
-- `without_written (written_by op)` of Facts.
use Rattle.std.specs.Prelude.{ℕ, zero, suc, Bool, true, false, ◌||◌, pos, List, [], ◌∷◌, ◌++◌}
use Rattle.vx_flow.specs.declared.graph.Op.{Op}
use Rattle.vx_flow.specs.declared.graph.Op.TheVariants.{Compute, Place, More}
use Rattle.vx_flow.specs.Sound.{is_value}
use Rattle.vx_claims.specs.declared.fact.Fact.{Fact}
use Rattle.vx_claims.specs.declared.fact.Fact.TheVariants.{Between, Congruent, Equals, Never}
use Rattle.vx_claims.specs.declared.access.Access.{Access}
use Rattle.vx_claims.specs.Facts.{range_of, times_if, bit, computed_within, computed_residue, equals_if, lies_in, stands_in}
use Rattle.vx_claims.specs.Accesses.{place_known}
use Rattle.vx_claims.specs.Forming.{same_form, said_unless}

-- what an operation says of the value that it writes
abbrev pub said_by : List Fact → Op → List Fact
said_by fs (Compute code v a b) = stands_in v (computed_within fs code a b) (computed_residue fs code a b) (equals_if (is_value v a || is_value v b) v code a b)
said_by fs (Place v a i) = lies_in v (times_if true (range_of fs i) (pos 4)) []
said_by fs (More v) = lies_in v bit []
said_by fs op = []

-- all that an operation says that has this form
abbrev pub all_said : List Fact → List Access → Op → Op → List Fact
all_said fs xs op op' = place_known xs op' ++ (said_unless (same_form op op') fs op ++ said_by fs op')

-- whether there are more facts on what operations give than so many
abbrev pub has_more : (left : ℕ) → List Fact → Bool
has_more left [] = false
has_more left (Between v i ∷ fs) = has_more left fs
has_more left (Congruent v c ∷ fs) = has_more left fs
has_more left (Never ∷ fs) = has_more left fs
has_more zero (Equals v code a b ∷ fs) = true
has_more (suc left) (Equals v code a b ∷ fs) = has_more left fs
