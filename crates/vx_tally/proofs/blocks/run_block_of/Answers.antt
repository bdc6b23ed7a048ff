use Rattle.std.proofs.Common.{◌≡◌, IfOk, Option, ap, subst, sym}
use Rattle.vx_flow.specs.declared.graph.Block.{Block}
use Rattle.vx_flow.specs.Meaning.{hop_of}
use Rattle.vx_tally.specs.Machine.{hop_from}
use Rattle.vx_tally.specs.Storage.{setting_in, state_of}
use Rattle.vx_tally.proofs.Turns.{absent_at, found_at}
use Rattle.vx_tally.proofs.blocks.run_block_of.Goals as goal

pub returns-in-Some : goal.returns-in-Some
returns-in-Some c =
    let l = c.in-Some.ensures.lookup in
    subst (λ (o : Option Block). IfOk c.run_through.result (λ left. hop_of (setting_in c.args.flow.now c.args.passed.now c.args.base) c.args.number o (state_of c.args.storage.now) ≡ hop_from c.args.number (state_of c.run_through.new.storage) left))
    (sym (found_at c.as_slice.result.now _ c.args.number c.in-Some.block.now c.as_slice.ensures l.0 l.1)) c.run_through.ensures

pub returns-in-None : goal.returns-in-None
returns-in-None c =
    ap (λ (o : Option Block). hop_of (setting_in c.args.flow.now c.args.passed.now c.args.base) c.args.number o (state_of c.args.storage.now))
    (absent_at c.as_slice.result.now _ c.args.number c.as_slice.ensures c.in-None.ensures.lookup.0)
