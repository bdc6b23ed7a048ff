-- Marks of the places that are listed.
use Rattle.std.specs.Prelude.{◌≡◌, ℕ, Bool, nat_eq, List}
use Rattle.std.specs.List.{list_any}
use Rattle.vx_flow.specs.Rows.{is_marked}

abbrev pub AreMarks : (marks : List Bool) → (listed : List ℕ) → Type 0
AreMarks marks listed = (i : ℕ) → is_marked marks i ≡ list_any (nat_eq i) listed
