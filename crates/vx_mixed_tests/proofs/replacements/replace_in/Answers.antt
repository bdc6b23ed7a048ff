use Rattle.vx_motion.proofs.Traced.{if_traces}
use Rattle.vx_mixed_tests.proofs.replacements.replace_in.Goals as goal

pub replacement_of-requires : goal.replacement_of-requires
replacement_of-requires c = if_traces c.args.graph.now c.requires.blocks c.args.mixed.now c.requires.from

pub put-requires : goal.put-requires
put-requires c =
    c.an_if_is_replaced.ensures c.args.graph.now c.args.mixed.now c.in_ok-replacement.replacement c.requires.blocks c.requires.banks c.requires.from
    c.in_ok-replacement.ensures.trace c.in_ok-replacement.ensures.worked
