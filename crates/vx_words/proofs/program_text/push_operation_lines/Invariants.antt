use Rattle.std.proofs.Common.{◌≡◌, ◌++◌, take}
use Rattle.std.specs.List.{flat_map}
use Rattle.vx_words.specs.Spelling.{operation_line}
use Rattle.vx_words.proofs.program_text.push_operation_lines.Given as goal

abbrev pub invariant-loop-operation : goal.invariant-loop-operation
invariant-loop-operation l = l.out.items ≡ l.fn.out.items ++ flat_map operation_line (take l.operation-index l.operations)
