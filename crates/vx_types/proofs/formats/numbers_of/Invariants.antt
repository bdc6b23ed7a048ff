use Rattle.std.proofs.Common.{◌≡◌, ◌≤◌, ◌+◌, drop, if◌then◌else◌}
use Rattle.std.specs.Prelude.{count_by}
use Rattle.vx_ast.specs.Accepted.{numbers_of, is_number}
use Rattle.vx_ast.specs.Meaning.{pieces_of, directive_of}
use Rattle.vx_types.proofs.formats.numbers_of.Given as goal

abbrev pub invariant-loop-byte : goal.invariant-loop-byte
invariant-loop-byte l = record {
  few : l.count ≤ l.byte-index;
  same : l.count + count_by is_number (if l.directive then directive_of (drop l.byte-index l.fn.format) else pieces_of (drop l.byte-index l.fn.format)) ≡ numbers_of l.fn.format;
}
