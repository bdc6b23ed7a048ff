-- The numbers so far, and those of the rest.
use Rattle.std.proofs.Common.{◌≡◌, ◌≤◌, ◌<◌, ◌+◌, length}
use Rattle.vx_files.specs.InputText.{pieces, numbers_from, input_reading}
use Rattle.vx_files.proofs.Pieces.{behind}
use Rattle.vx_files.proofs.input.read_input.Given as goal

abbrev pub invariant-pieces : goal.invariant-pieces
invariant-pieces l = record {
  so_far : behind l.numbers.items (numbers_from l.place (pieces l.rest)) ≡ input_reading l.bytes;
  within : 0 < length l.rest → l.place + length l.rest ≤ length l.fn.bytes;
}

abbrev pub decreases-pieces : goal.decreases-pieces
decreases-pieces l = length l.rest
