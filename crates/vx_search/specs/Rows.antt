-- What was found for the functions of a flow.
use Rattle.std.specs.Prelude.{◌≡◌, ℕ, length}
use Rattle.vx_search.specs.declared.parameters.Found.{Found}

-- it has a row for each of so many functions
pub record HasRows (functions : ℕ) (found : Found) : Type 0 where
  pub given : length found.given.items ≡ functions
  pub kept : length found.kept.items ≡ functions

-- it has as many rows as before
pub record SameRows (before after : Found) : Type 0 where
  pub given : length after.given.items ≡ length before.given.items
  pub kept : length after.kept.items ≡ length before.kept.items
