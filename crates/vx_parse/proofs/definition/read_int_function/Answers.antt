use Rattle.std.proofs.Common.{refl}
use Rattle.vx_ast.specs.declared.syntax.Definition.TheVariants as definitions
use Rattle.vx_parse.proofs.HandedOn.{handed_on}
use Rattle.vx_parse.proofs.Definitions.{function_before, int_function_is}
use Rattle.vx_parse.proofs.definition.read_int_function.Goals as goal

pub returns-in_err-function-clause-stop : goal.returns-in_err-function-clause-stop
returns-in_err-function-clause-stop c =
    let b = function_before c.args.tokens.now c.args.before.next c.requires.within c.requires.here in
    handed_on _ _ _ c.from_residual.ensures.1 (b.stops c.in_err-function.field-0.0 c.in_err-function.ensures.stop)

pub returns-clause-ok : goal.returns-clause-ok
returns-clause-ok c =
    int_function_is c.args.tokens.now c.args.name c.args.before _ c.in_ok-function.function (definitions.Function c.in_ok-function.function.function) c.requires.within c.requires.here c.in_ok-function.ensures.ok c.in_ok-append.ensures.ok refl refl

pub read_function-requires-clause-ended : goal.read_function-requires-clause-ended
read_function-requires-clause-ended c = c.requires.ended
