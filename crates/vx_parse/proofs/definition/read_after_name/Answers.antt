use Rattle.std.proofs.Common.{sym, ◌∙◌}
use Rattle.vx_parse.proofs.definition.read_after_name.Goals as goal

pub read_int_function-requires-clause-here : goal.read_int_function-requires-clause-here
read_int_function-requires-clause-here c =
    sym c.kind_at.ensures ∙ c.is_mark.ensures.yes c.if-is_mark.true

pub read_globals-requires-clause-here : goal.read_globals-requires-clause-here
read_globals-requires-clause-here c =
    λ e. c.is_mark.ensures.no c.if-is_mark.false (c.kind_at.ensures ∙ e)
