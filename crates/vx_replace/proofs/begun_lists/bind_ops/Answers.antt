use Rattle.std.proofs.Common.{◌≡◌, ◌+◌, suc, take, sym, ap, ◌∙◌, arith}
use Rattle.std.proofs.lemmas.List.{take_all}
use Rattle.vx_mixed.specs.FromGraph.{bound_in, bound_to}
use Rattle.vx_replace.proofs.StartHomes.{bound_in_more}
use Rattle.vx_replace.proofs.begun_lists.bind_ops.Goals as goal

pub loop-op-preserved : goal.loop-op-preserved
loop-op-preserved c =
    let i = c.loop-op.op-index in
    let ops = c.args.ops.now in
    let homes = c.args.homes.now.items in
    let a : suc i ≡ i + 1 = omega arith in
    let m = bound_in_more ops i _ homes c.loop-op-test.true in
    c.bind.ensures ∙ ap (λ o. bound_to o c.loop-op.homes.items) c.binds.ensures ∙ ap (bound_to _) c.loop-op.invariant ∙ sym m ∙ ap (λ j. bound_in (take j ops) homes) a

pub returns : goal.returns
returns c = c.loop-op.invariant ∙ ap (λ ops. bound_in ops c.args.homes.now.items) (take_all c.loop-op.op-index c.args.ops.now c.loop-op-test.false)
