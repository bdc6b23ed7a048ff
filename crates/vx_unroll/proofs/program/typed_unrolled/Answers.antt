use Rattle.std.proofs.Common.{ap, ◌∙◌}
use Rattle.vx_ast.specs.Accepted.{is_accepted}
use Rattle.vx_ast.specs.View.{program_of}
use Rattle.vx_unroll.proofs.Accepting.{unrolled_is_accepted}
use Rattle.vx_unroll.proofs.Declaring.{accepted_small}
use Rattle.vx_unroll.proofs.program.typed_unrolled.Goals as goal

pub make-requires : goal.make-requires
make-requires c = ap is_accepted c.in_ok-program.ensures ∙ unrolled_is_accepted c.args.factor (program_of c.args.typed.now.program) c.args.typed.now.accepted

pub program_unrolled-requires : goal.program_unrolled-requires
program_unrolled-requires c = record { least = c.requires.least; most = c.requires.most; small = accepted_small (program_of c.args.typed.now.program) c.args.typed.now.accepted }
