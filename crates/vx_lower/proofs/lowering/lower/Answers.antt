use Rattle.vx_ast.specs.View.{program_of}
use Rattle.vx_lower.proofs.Programs.{runs_as, words_declared}
use Rattle.vx_lower.proofs.FlowShaping.{all_named, flow_of, functions_named, in_words, none_dismissible}
use Rattle.vx_lower.proofs.lowering.lower.Goals as goal

pub returns-clause-runs : goal.returns-clause-runs
returns-clause-runs c = runs_as (program_of c.args.program.now.program) c.in_ok-flow.flow c.args.program.now.accepted c.in_ok-flow.ensures.lowered

pub returns-clause-globals : goal.returns-clause-globals
returns-clause-globals c = words_declared (program_of c.args.program.now.program) c.in_ok-flow.flow c.in_ok-flow.ensures.lowered

pub returns-clause-count : goal.returns-clause-count
returns-clause-count c = c.in_ok-flow.ensures.lowered.count

pub returns-clause-graphs : goal.returns-clause-graphs
returns-clause-graphs c = c.in_ok-flow.ensures.shapes

pub returns-clause-flow : goal.returns-clause-flow
returns-clause-flow c = flow_of (program_of c.args.program.now.program) c.in_ok-flow.flow c.args.program.now.accepted c.in_ok-flow.ensures.lowered c.in_ok-flow.ensures.shapes c.in_ok-flow.ensures.fits (functions_named c.args.program.now.program c.args.program.now.accepted)

pub returns-clause-sound : goal.returns-clause-sound
returns-clause-sound c = in_words (program_of c.args.program.now.program) c.in_ok-flow.flow (flow_of (program_of c.args.program.now.program) c.in_ok-flow.flow c.args.program.now.accepted c.in_ok-flow.ensures.lowered c.in_ok-flow.ensures.shapes c.in_ok-flow.ensures.fits (functions_named c.args.program.now.program c.args.program.now.accepted))

pub returns-clause-named : goal.returns-clause-named
returns-clause-named c = all_named (program_of c.args.program.now.program) c.in_ok-flow.flow c.args.program.now.accepted c.in_ok-flow.ensures.lowered c.in_ok-flow.ensures.shapes c.in_ok-flow.ensures.fits (functions_named c.args.program.now.program c.args.program.now.accepted)

pub returns-clause-loads : goal.returns-clause-loads
returns-clause-loads c = none_dismissible (program_of c.args.program.now.program) c.in_ok-flow.flow c.args.program.now.accepted c.in_ok-flow.ensures.lowered c.in_ok-flow.ensures.shapes c.in_ok-flow.ensures.fits (functions_named c.args.program.now.program c.args.program.now.accepted)
