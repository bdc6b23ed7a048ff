use Rattle.vx_base.proofs.Same.{same_self}
use Rattle.vx_ast.specs.Meaning.{source}
use Rattle.vx_ast.specs.View.{program_of}
use Rattle.vx_unroll.proofs.program.unrolled_by.Goals as goal

pub returns-in-None-clause-same : goal.returns-in-None-clause-same
returns-in-None-clause-same c = λ input. same_self (source (program_of c.args.typed.program) input)
