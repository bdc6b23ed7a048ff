use Rattle.std.proofs.Common.{◌≤◌, ◌∙◌, length, arith}
use Rattle.std.proofs.lemmas.List.{length-set}
use Rattle.vx_loops.proofs.Notings.{store_noted, store_past}
use Rattle.vx_loops.proofs.notes.Loops.store.Goals as goal

pub returns-then-place-len-clause-notes : goal.returns-then-place-len-clause-notes
returns-then-place-len-clause-notes c = λ m w s called h. store_noted h c.args.array

pub returns-else-place-len-clause-notes : goal.returns-else-place-len-clause-notes
returns-else-place-len-clause-notes c = λ m w s called h. let past : length c.args.self.now.stores.items ≤ c.args.array = omega (arith, c.if-place-len.false, c.len.ensures, c.args.self.now.stores.ok.0) in store_past h c.args.array past

pub returns-then-place-len-clause-tables : goal.returns-then-place-len-clause-tables
returns-then-place-len-clause-tables c = λ g t. record { members = t.members; values = t.values; arrays = length-set c.args.self.now.stores.items c.args.array c.args.self.now.number ∙ t.arrays; edges = t.edges; leads = t.leads }
