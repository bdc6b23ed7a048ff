-- every number that has an entry is the place of a join that is passed
use Rattle.std.proofs.Common.{◌≡◌, ◌||◌, ℕ, length, nat_eq}
use Rattle.std.specs.List.{list_any}
use Rattle.std.specs.Prelude.{is_some}
use Rattle.std.specs.Map.{lookup}
use Rattle.vx_linear.proofs.passed.join_places.Given as goal

abbrev pub invariant-joins : goal.invariant-joins
invariant-joins l = (p : ℕ) → (is_some (lookup (nat_eq p) l.places.entries.entries) || list_any (λ j. nat_eq j.place p) l.rest) ≡ list_any (λ j. nat_eq j.place p) l.fn.joins

abbrev pub decreases-joins : goal.decreases-joins
decreases-joins l = length l.rest
