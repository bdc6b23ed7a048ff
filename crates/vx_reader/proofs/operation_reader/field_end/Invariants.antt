-- so many bytes pass, and with those that pass behind them they are all
use Rattle.std.proofs.Common.{◌≡◌, ◌+◌, drop}
use Rattle.std.specs.List.{prefix_len}
use Rattle.vx_reader.specs.Reading.{is_field}
use Rattle.vx_reader.proofs.operation_reader.field_end.Given as goal

abbrev pub invariant-loop-place : goal.invariant-loop-place
invariant-loop-place l = l.place + prefix_len is_field (drop l.place l.text) ≡ prefix_len is_field l.text
