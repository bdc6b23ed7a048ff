-- so many bytes pass, and with those that pass behind them they are all
use Rattle.std.proofs.Common.{◌≡◌, ◌+◌, drop}
use Rattle.std.specs.List.{prefix_len}
use Rattle.vx_profile.specs.Reading.{is_digit}
use Rattle.vx_profile.proofs.count_reader.digits.Given as goal

abbrev pub invariant-loop-place : goal.invariant-loop-place
invariant-loop-place l = l.place + prefix_len is_digit (drop l.place l.text) ≡ prefix_len is_digit l.text
