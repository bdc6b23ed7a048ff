-- What is converted comes of graphs with room, in which nothing is left to inline.
use Rattle.std.proofs.lemmas.Result.{IfOk-weaker}
use Rattle.vx_ast.specs.View.{program_of}
use Rattle.vx_rewrite.proofs.Asked.{converted_stays, nothing_asked, rewritten_asked}
use Rattle.vx_rewrite.proofs.rewriting.rewritten.Goals as goal

pub returns-then-is_nothing-clause-rewritten : goal.returns-then-is_nothing-clause-rewritten
returns-then-is_nothing-clause-rewritten c =
    nothing_asked (program_of c.args.program.now.program) c.args.options.inline c.args.options.select c.args.flow (c.is_nothing.ensures.inline c.if-is_nothing.true) (c.is_nothing.ensures.select c.if-is_nothing.true) c.requires.flow

pub returns-clause-rewritten : goal.returns-clause-rewritten
returns-clause-rewritten c =
    let before = c.in_ok-before.ensures in
    IfOk-weaker c.converted.result _ _
    (λ new is. rewritten_asked (program_of c.args.program.now.program) c.args.options.inline c.args.options.select c.in_ok-before.before new before.flow before.full before.none is) c.converted.ensures.converted

pub returns-clause-flow : goal.returns-clause-flow
returns-clause-flow c = IfOk-weaker c.converted.result _ _ (λ new is. converted_stays (program_of c.args.program.now.program) c.args.options.select c.in_ok-before.before new is c.in_ok-before.ensures.flow) c.converted.ensures.converted

pub converted-requires : goal.converted-requires
converted-requires c = record { sound = c.in_ok-before.ensures.sound; sides = c.args.options.sides }

pub inlined-requires : goal.inlined-requires
inlined-requires c = record { full = c.in_ok-full.ensures.full; flow = c.in_ok-full.ensures.flow }
