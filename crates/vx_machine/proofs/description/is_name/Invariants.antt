use Rattle.std.proofs.Common.{◌≡◌, drop}
use Rattle.std.specs.List.{list_any}
use Rattle.std.specs.Str.{bytes_eq}
use Rattle.vx_machine.specs.Descriptions.{names}
use Rattle.vx_machine.proofs.description.is_name.Given as goal

abbrev pub invariant-loop-index : goal.invariant-loop-index
invariant-loop-index l = list_any (bytes_eq l.key) names ≡ list_any (bytes_eq l.key) (drop l.index names)
