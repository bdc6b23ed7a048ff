-- Each stage does what the one before it does, so the words do what the program does.
use Rattle.vx_ast.specs.View.{program_of}
use Rattle.vx_compile.proofs.Beginning.{all_begin, all_small}
use Rattle.vx_compile.proofs.Chain.{compiled_from}
use Rattle.vx_compile.proofs.words.compile_flow.Goals as goal

pub compiled_of-requires-clause-begin : goal.compiled_of-requires-clause-begin
compiled_of-requires-clause-begin c = all_begin (program_of c.args.program.now.program) c.args.flow.now c.args.program.now.accepted c.requires

pub compiled_of-requires-clause-small : goal.compiled_of-requires-clause-small
compiled_of-requires-clause-small c = all_small (program_of c.args.program.now.program) c.args.flow.now c.args.program.now.accepted c.requires

pub compiled_of-requires-clause-sound : goal.compiled_of-requires-clause-sound
compiled_of-requires-clause-sound c = c.requires.sound

pub returns : goal.returns
returns c =
    let compiled = c.in_ok-compiled.compiled in
    let plan = compiled.plan in
    let is = c.in_ok-compiled.ensures in
    compiled_from c.stages_do_the_same.ensures (program_of c.args.program.now.program) c.args.flow.now c.args.machine.now is.layouts c.requires is.laid.laid is.finished.maps
    (record { program = compiled.words; places = plan.places }) c.keeps_ranges.ensures is.finished.finished c.args.counts.now c.args.growth plan.traces plan.spilled plan.copies is.laid.planned is.laid.layouts_are
    is.finished.kept is.finished.spilled_is is.finished.in_range
