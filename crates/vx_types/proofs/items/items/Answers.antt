use Rattle.std.proofs.Common.{drop, false, ◌+◌}
use Rattle.vx_ast.specs.declared.tree.Gives.TheVariants.{Int}
use Rattle.vx_types.proofs.Declarations.{items_step, items_end}
use Rattle.std.proofs.lemmas.List.{drop_all}
use Rattle.vx_names.proofs.Lists.{drop_next}
use Rattle.vx_types.proofs.items.items.Goals as goal

pub loop-one-preserved : goal.loop-one-preserved
loop-one-preserved c =
    items_step Int false c.loop-one.made.items c.append.new.made.items c.in_ok-declared.declared c.loop-one.names c.item.new.names c.loop-one.first c.item.new.first
    (drop c.loop-one.one-index c.args.all.now) (drop (c.loop-one.one-index + 1) c.args.all.now) c.one-item.result c.args.names.now c.args.first.now c.args.all.now
    c.loop-one.invariant (drop_next c.args.all.now c.loop-one.one-index c.one-item.result c.loop-one-test.true c.one-item.is) c.in_ok-append.ensures c.in_ok-declared.ensures.made c.in_ok-declared.ensures.known c.in_ok-declared.ensures.faults

pub returns-clause-made : goal.returns-clause-made
returns-clause-made c =
    (items_end Int false c.loop-one.made.items c.loop-one.names c.loop-one.first (drop c.loop-one.one-index c.args.all.now) c.args.names.now c.args.first.now c.args.all.now c.loop-one.invariant
    (drop_all c.loop-one.one-index c.args.all.now c.loop-one-test.false)).0

pub returns-clause-known : goal.returns-clause-known
returns-clause-known c =
    (items_end Int false c.loop-one.made.items c.loop-one.names c.loop-one.first (drop c.loop-one.one-index c.args.all.now) c.args.names.now c.args.first.now c.args.all.now c.loop-one.invariant
    (drop_all c.loop-one.one-index c.args.all.now c.loop-one-test.false)).1

pub returns-clause-faults : goal.returns-clause-faults
returns-clause-faults c =
    (items_end Int false c.loop-one.made.items c.loop-one.names c.loop-one.first (drop c.loop-one.one-index c.args.all.now) c.args.names.now c.args.first.now c.args.all.now c.loop-one.invariant
    (drop_all c.loop-one.one-index c.args.all.now c.loop-one-test.false)).2
