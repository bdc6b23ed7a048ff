use Rattle.std.proofs.Common.{sym, ap, ◌∙◌}
use Rattle.vx_machine.specs.declared.left.Left.{Left}
use Rattle.vx_machine.specs.Left.{fits_left}
use Rattle.vx_room.specs.Left.{need_of}
use Rattle.vx_room.proofs.RoomSteps.{room_by}
use Rattle.vx_room.proofs.room.has_room_at.Goals as goal

pub returns : goal.returns
returns c =
    let left = ap (λ (l : Left). fits_left (need_of c.args.homes.now c.args.cluster) l c.args.items.now) c.limits.ensures in
    c.fits_left.ensures ∙ left ∙ sym (room_by c.args.machine.now c.args.homes.now c.args.items.now c.args.cluster)
