use Rattle.std.proofs.Common.{◌∙◌, ◌++◌, [], sym, ap}
use Rattle.vx_isa.specs.Machine.{write_to, number_of, time_of}
use Rattle.vx_probe.specs.Times.{list_of}
use Rattle.vx_sim.specs.Flying.{flying_of, by_landing}
use Rattle.vx_sim.specs.Standing.{state_of}
use Rattle.vx_sim.proofs.Turning.{nothing_put}
use Rattle.vx_sim.proofs.effects.issue.Goals as goal

pub returns-in_default-clause-write : goal.returns-in_default-clause-write
returns-in_default-clause-write g c =
    let ring = c.args.ring.now in
    let op = c.args.op.now in
    let here = (goal.Timing-dyn g (c.args.timing.now.vtable, c.args.timing.now.value)).times c.args.timing.now.value in
    let number = number_of c.args.size (state_of c.args.now.now []) op in
    let time = time_of c.args.machine.now (list_of here) here.place op in
    nothing_put ring ∙ ap (λ to. by_landing (flying_of ring ++ write_to to number time)) (sym c.in_default.is ∙ c.destination.ensures)
