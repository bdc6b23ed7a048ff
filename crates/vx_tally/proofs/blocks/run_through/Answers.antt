use Rattle.std.proofs.Common.{ap, ◌∙◌, sym}
use Rattle.vx_tally.specs.Machine.{hop_from}
use Rattle.vx_tally.specs.Storage.{effects, setting_in, state_of}
use Rattle.vx_tally.proofs.Running.{through, not_through}
use Rattle.vx_tally.proofs.blocks.run_through.Goals as goal

pub returns : goal.returns
returns c =
    let setting = setting_in c.args.flow.now c.args.passed.now c.args.base in
    let s = state_of c.args.storage.now in
    let t = state_of c.execute_all.new.storage in
    through setting c.args.number c.args.block.now.ops c.args.block.now.exit s t c.in_ok-done.done (hop_from c.args.number t c.in_ok-left.left)
    (ap (effects setting s) (sym c.as_slice.ensures) ∙ c.in_ok-done.ensures) c.if-not-done.false c.in_ok-left.ensures

pub returns-then-not-done : goal.returns-then-not-done
returns-then-not-done c =
    let setting = setting_in c.args.flow.now c.args.passed.now c.args.base in
    let s = state_of c.args.storage.now in
    not_through setting c.args.number c.args.block.now.ops c.args.block.now.exit s (state_of c.execute_all.new.storage) c.in_ok-done.done (ap (effects setting s) (sym c.as_slice.ensures) ∙ c.in_ok-done.ensures) c.if-not-done.true
