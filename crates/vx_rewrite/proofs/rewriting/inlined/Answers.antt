-- Inlining leaves the values of each graph, and so their number.
use Rattle.std.proofs.lemmas.Result.{IfOk-weaker}
use Rattle.vx_ast.specs.View.{program_of}
use Rattle.vx_flow.proofs.SoundFlowLaw.{flow_is, flow_of}
use Rattle.vx_rewrite.proofs.Full.{full_kept}
use Rattle.vx_rewrite.proofs.rewriting.inlined.Goals as goal

pub inlined_all-requires : goal.inlined_all-requires
inlined_all-requires c = record { sound = flow_is c.args.flow c.requires.flow.sound }

pub returns-in-Some-clause-full : goal.returns-in-Some-clause-full
returns-in-Some-clause-full c = IfOk-weaker c.inlined_all.result _ _ (λ new same. full_kept (program_of c.args.program.now.program) c.args.flow new same c.requires.full) c.inlined_all.ensures.banks

pub returns-in-Some-clause-none : goal.returns-in-Some-clause-none
returns-in-Some-clause-none c = rw c.in-Some.is c.inlined_all.ensures.none

pub returns-in-Some-clause-sound : goal.returns-in-Some-clause-sound
returns-in-Some-clause-sound c = IfOk-weaker c.inlined_all.result _ _ (λ new sound. flow_of new sound) c.inlined_all.ensures.sound

pub returns-in-Some-clause-flow : goal.returns-in-Some-clause-flow
returns-in-Some-clause-flow c = IfOk-weaker c.inlined_all.result _ _ (λ new stays. stays (program_of c.args.program.now.program) c.args.program.now.accepted c.requires.flow) c.inlined_all.ensures.stays
