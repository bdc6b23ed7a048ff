use Rattle.vx_ast.specs.View.{program_of}
use Rattle.vx_unroll.proofs.Outcomes.{same_of, words_of, names_of}
use Rattle.vx_unroll.proofs.program.unroll.Goals as goal

pub returns-clause-same : goal.returns-clause-same
returns-clause-same c = same_of c.typed_unrolled.result (program_of c.args.typed.program) c.args.factor c.typed_unrolled.ensures

pub returns-clause-names : goal.returns-clause-names
returns-clause-names c = names_of c.typed_unrolled.result (program_of c.args.typed.program) c.args.factor c.typed_unrolled.ensures

pub returns-clause-words : goal.returns-clause-words
returns-clause-words c = words_of c.typed_unrolled.result (program_of c.args.typed.program) c.args.factor c.typed_unrolled.ensures
