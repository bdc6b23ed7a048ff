use Rattle.vx_linear.proofs.trace_forms.forms.Goals as goal

pub follow_all-requires-clause-passed : goal.follow_all-requires-clause-passed
follow_all-requires-clause-passed c = c.none_passed-passed.ensures c.args.trace.now
