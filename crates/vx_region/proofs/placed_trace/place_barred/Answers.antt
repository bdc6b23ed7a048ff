use Rattle.std.proofs.Common.{◌≡◌, arith}
use Rattle.vx_region.specs.Growth.{copies_of}
use Rattle.vx_region.proofs.Owing.{barred_none}
use Rattle.vx_region.proofs.placed_trace.place_barred.Goals as goal

pub returns : goal.returns
returns c =
    let none : copies_of c.in_ok-owing.owing.placed ≡ 0 = barred_none c.args.clustered.now c.args.machine.now c.args.homes.now c.in_ok-owing.owing.placed c.in_ok-owing.ensures.placed in
    record { mode = c.requires.mode; placed = c.in_ok-owing.ensures.placed; owed = c.in_ok-owing.ensures.owed; rises = omega (arith, none) }
