use Rattle.std.proofs.Common.{sym}
use Rattle.vx_tables.proofs.Members.{added_exact, added_has, added_keeps}
use Rattle.vx_tables.proofs.rows.Rows.add.Goals as goal

pub returns-clause-keeps : goal.returns-clause-keeps
returns-clause-keeps c = added_keeps c.args.self.now c.reach.new.self c.self.inside.rows.items c.args.place c.index_mut-row.result.now c.push.new.self c.args.item (sym c.self.view_is) c.in_ok-reach.ensures.there c.in_ok-reach.ensures.same c.index_mut-row.ensures.value c.in_ok-push.ensures.ok

pub returns-clause-has : goal.returns-clause-has
returns-clause-has c = added_has c.reach.new.self c.self.inside.rows.items c.args.place c.index_mut-row.result.now c.push.new.self c.args.item (sym c.self.view_is) c.in_ok-reach.ensures.there c.in_ok-push.ensures.ok

pub returns-clause-exact : goal.returns-clause-exact
returns-clause-exact c = added_exact c.args.self.now c.reach.new.self c.self.inside.rows.items c.args.place c.index_mut-row.result.now c.push.new.self c.args.item (sym c.self.view_is) c.in_ok-reach.ensures.there c.in_ok-reach.ensures.same c.index_mut-row.ensures.value c.in_ok-push.ensures.ok
