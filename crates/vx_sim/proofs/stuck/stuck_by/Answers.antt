use Rattle.std.proofs.Common.{◌∙◌, List, ap, sym, [], count_by}
use Rattle.vx_isa.specs.declared.operation.Operation.{Operation}
use Rattle.vx_isa.specs.declared.operation.UnitKind.TheVariants.{Memory}
use Rattle.vx_isa.specs.Fits.{is_of}
use Rattle.vx_sim.specs.declared.shape.UnitCounts.{UnitCounts}
use Rattle.vx_sim.specs.Shapes.{stuck_here}
use Rattle.vx_sim.specs.Standing.{state_of}
use Rattle.vx_sim.proofs.Naming.{stuck_as, stuck_unfit}
use Rattle.vx_sim.proofs.stuck.stuck_by.Goals as goal

pub returns-in-Some : goal.returns-in-Some
returns-in-Some c = λ m is. stuck_unfit m c.args.program.now (state_of c.args.now.now []) c.args.word.now c.args.shape.now c.in-Some.reason is c.in-Some.is

pub returns-in-None : goal.returns-in-None
returns-in-None c = λ m is.
    let w = c.args.program.now in
    let s = state_of c.args.now.now [] in
    stuck_as m w s c.args.word.now c.args.shape.now c.stuck_here.result is c.in-None.is (c.stuck_here.ensures ∙ ap (stuck_here w s) c.as_slice.ensures)

pub stuck_here-requires : goal.stuck_here-requires
stuck_here-requires c = ap (λ (counts : UnitCounts). counts.memory) c.requires ∙ ap (λ (ops : List Operation). count_by (is_of Memory) ops) (sym c.as_slice.ensures)
