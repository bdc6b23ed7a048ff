use Rattle.std.proofs.Common.{◌<◌, length, rules}
use Rattle.vx_rename.proofs.Making.{placed}
use Rattle.vx_rename.proofs.table.Table.place.Goals as goal

pub returns-then-value-len-2 : goal.returns-then-value-len-2
returns-then-value-len-2 c _ =
    let in_names : c.args.value < length c.self.inside.names.items = search rules in
    let in_had : c.args.value < length c.self.inside.had.items = search rules in
    placed c.args.self.now c.self.inside.names.items c.self.inside.had.items c.self.inside.given.items c.as_slice.result.now c.self.inside.last c.args.value c.args.name c.number_at-number.result c.self.view_is in_names in_had c.number_at-number.ensures c.as_slice.ensures.value c.if-number-ne0.true
