use Rattle.std.proofs.Common.{◌≡◌, true, ◌∙◌, sym}
use Rattle.std.specs.List.{list_all}
use Rattle.vx_room.specs.Room.{stands_well}
use Rattle.vx_room.proofs.RoomLaw.{sources_pass}
use Rattle.vx_room.proofs.room.stand_well.Goals as goal

pub returns-then-all_stand_well : goal.returns-then-all_stand_well
returns-then-all_stand_well c =
    let on : list_all (stands_well c.args.machine.now) c.args.items.now ≡ true = sym c.all_stand_well.ensures ∙ c.if-all_stand_well.true in
    rw on (c.all_read_well.ensures ∙ sym (sources_pass c.args.machine.now c.args.homes.now c.args.items.now))
