-- so many bytes pass, and with those that pass behind them they are all
use Rattle.std.proofs.Common.{◌≡◌, ◌+◌, drop}
use Rattle.std.specs.List.{prefix_len}
use Rattle.vx_reader.specs.Text.{is_not_feed}
use Rattle.vx_reader.proofs.reader.line_end.Given as goal

abbrev pub invariant-loop-place : goal.invariant-loop-place
invariant-loop-place l = l.place + prefix_len is_not_feed (drop l.place l.text) ≡ prefix_len is_not_feed l.text
