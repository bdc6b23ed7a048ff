-- The timing after one operation.
use Rattle.std.specs.Prelude.{Bool, if◌then◌else◌}
use Rattle.vx_probe.specs.Times.{Times, moved_on}

-- it moves on where it is asked
abbrev pub moved_if : Bool → Times → Times
moved_if asked times = if asked then moved_on times else times
