-- Calls that only read files.
use Rattle.std.specs.Prelude.{◌≤◌}
use Rattle.vx_files.specs.Effects.{Effect, SameFiles}

-- no file was replaced, and no count of failures fell
pub record OnlyReads (e : Effect) : Type 0 where
  pub files : SameFiles e
  pub reads : e.reads_before ≤ e.reads_after
  pub replaces : e.replaces_before ≤ e.replaces_after
