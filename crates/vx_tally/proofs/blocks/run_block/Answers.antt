use Rattle.std.proofs.Common.{◌≡◌, IfOk, Option, ap, subst, sym}
use Rattle.vx_flow.specs.declared.graph.Graph.{Graph}
use Rattle.vx_tally.specs.Machine.{graph_hop, hop_from}
use Rattle.vx_tally.specs.Storage.{state_of}
use Rattle.vx_tally.proofs.Turns.{absent_at, found_at}
use Rattle.vx_tally.proofs.blocks.run_block.Goals as goal

pub returns-in-None : goal.returns-in-None
returns-in-None c =
    ap (λ (o : Option Graph). graph_hop c.args.flow.now o c.args.passed.now c.args.base c.args.number (state_of c.args.storage.now))
    (absent_at c.as_slice.result.now c.args.flow.now.functions c.args.function c.as_slice.ensures c.in-None.ensures.lookup.0)

pub returns-in-Some : goal.returns-in-Some
returns-in-Some c =
    let l = c.in-Some.ensures.lookup in
    subst (λ (o : Option Graph). IfOk c.run_block_of.result (λ left. graph_hop c.args.flow.now o c.args.passed.now c.args.base c.args.number (state_of c.args.storage.now) ≡ hop_from c.args.number (state_of c.run_block_of.new.storage) left))
    (sym (found_at c.as_slice.result.now c.args.flow.now.functions c.args.function c.in-Some.graph.now c.as_slice.ensures l.0 l.1)) c.run_block_of.ensures
