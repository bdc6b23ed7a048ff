-- cycles that are left, then the words behind a place or the places that are left
use Rattle.std.proofs.Common.{◌+◌, ◌*◌, ◌-◌, ◌^◌, length}
use Rattle.vx_regs.proofs.busy.+flights.Given as goal

abbrev pub decreases-note_flight : goal.decreases-note_flight
decreases-note_flight l = l.left * (2 ^ 65) + (2 ^ 32 - l.place)

abbrev pub decreases-note_flights : goal.decreases-note_flights
decreases-note_flights l = l.left * (2 ^ 65) + 2 ^ 64 + length l.targets.now
