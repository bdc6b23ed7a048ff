-- the keys so far are names
use Rattle.std.proofs.Common.{◌≡◌, not, string_bytes}
use Rattle.std.specs.List.{list_any}
use Rattle.std.specs.Map.{keys_of}
use Rattle.std.specs.Str.{bytes_eq}
use Rattle.vx_machine.specs.Descriptions.{names}
use Rattle.vx_machine.proofs.description.has_other_key.Given as goal

abbrev pub invariant-loop-key : goal.invariant-loop-key
invariant-loop-key l = list_any (λ key. not (list_any (bytes_eq (string_bytes key)) names)) (keys_of l.fn.table.entries) ≡ list_any (λ key. not (list_any (bytes_eq (string_bytes key)) names)) l.key-iterator
