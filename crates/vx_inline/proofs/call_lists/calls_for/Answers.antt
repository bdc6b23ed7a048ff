use Rattle.vx_inline.proofs.Calling.{calls_anew}
use Rattle.vx_inline.proofs.call_lists.calls_for.Goals as goal

pub returns : goal.returns
returns c = calls_anew c.args.new.now c.args.graph.now c.args.function c.args.calls.items c.with_calls.result.items c.in_ok-own.own c.requires c.in_ok-own.ensures c.with_calls.ensures
