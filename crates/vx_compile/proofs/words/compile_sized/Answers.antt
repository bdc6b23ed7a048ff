-- The graphs that are compiled are those whose size is told.
use Rattle.vx_ast.specs.View.{program_of}
use Rattle.vx_compile.proofs.Chain.{compiled_sized}
use Rattle.vx_compile.proofs.words.compile_sized.Goals as goal

pub returns : goal.returns
returns c =
    let compiled = c.in_ok-compiled.compiled in
    compiled_sized (program_of c.args.program.now.program) c.args.counts.now c.args.machine.now c.args.growth c.in_ok-flow.flow compiled.words compiled.plan c.in_ok-compiled.ensures c.in_ok-size.size c.in_ok-size.ensures.functions c.in_ok-size.ensures.blocks
