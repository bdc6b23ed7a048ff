-- The graphs that are compiled come of what is asked.
use Rattle.vx_ast.specs.View.{program_of}
use Rattle.vx_compile.proofs.Chain.{compiled_with}
use Rattle.vx_compile.proofs.words.compile_with.Goals as goal

pub returns : goal.returns
returns c =
    let compiled = c.in_ok-compiled.compiled in
    compiled_with (program_of c.args.program.now.program) c.args.counts.now c.args.machine.now c.args.growth c.in_ok-flow.flow compiled.words compiled.plan c.in_ok-compiled.ensures c.args.options.inline c.args.options.select c.in_ok-flow.ensures.rewritten
