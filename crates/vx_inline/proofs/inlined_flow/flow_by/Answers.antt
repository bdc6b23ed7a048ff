use Rattle.vx_inline.proofs.KnownStays.{site_known}
use Rattle.vx_inline.proofs.inlined_flow.flow_by.Goals as goal

pub with_live-requires-clause-live : goal.with_live-requires-clause-live
with_live-requires-clause-live c = site_known c.args.flow c.args.site c.args.known.now c.args.live.now c.requires.known c.requires.live
