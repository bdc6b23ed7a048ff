use Rattle.vx_names.proofs.Lookups.{entry_some, entry_none}
use Rattle.vx_names.proofs.table.Table.look.Goals as goal

pub returns-in-Some : goal.returns-in-Some
returns-in-Some c = entry_some c.args.name.now c.args.self.now.entries.entries c.in-Some.meant.now c.in-Some.ensures.value

pub returns-in-None : goal.returns-in-None
returns-in-None c = entry_none c.args.name.now c.args.self.now.entries.entries c.in-None.ensures.value
