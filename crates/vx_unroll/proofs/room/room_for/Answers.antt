use Rattle.std.proofs.Common.{ap, sym, ◌∙◌}
use Rattle.vx_ast.specs.View.{code_of}
use Rattle.vx_unroll.specs.Growth.{fitting}
use Rattle.vx_unroll.specs.Unrolling.{own_words}
use Rattle.vx_unroll.proofs.Rooms.{is_counted, does_not_fit}
use Rattle.vx_unroll.proofs.room.room_for.Goals as goal

pub returns-then-is_small : goal.returns-then-is_small
returns-then-is_small c = λ b e.
    c.fitting.ensures ∙ ap fitting (c.grown_by.ensures
    ∙ is_counted c.args.more c.requires.some (own_words c.args.own c.args.arrays.now) c.args.size (code_of c.args.body.now) c.statement_nodes-nodes.result c.turn_nodes-turn.result c.args.behind c.statement_words-words.result b
    c.statement_nodes-nodes.ensures.nodes c.turn_nodes-turn.ensures e c.statement_words-words.ensures (sym c.is_small.ensures ∙ c.if-is_small.true))

pub returns-else-is_small : goal.returns-else-is_small
returns-else-is_small c = λ b e.
    does_not_fit c.args.more c.requires.some (own_words c.args.own c.args.arrays.now) c.args.size (code_of c.args.body.now) c.statement_nodes-nodes.result c.turn_nodes-turn.result c.args.behind c.statement_words-words.result b
    c.statement_nodes-nodes.ensures.nodes c.turn_nodes-turn.ensures e c.statement_words-words.ensures (sym c.is_small.ensures ∙ c.if-is_small.false)
