use Rattle.std.proofs.Common.{◌∙◌}
use Rattle.std.proofs.lemmas.List.{length-set}
use Rattle.vx_loops.proofs.Notings.{member_noted, not_inside}
use Rattle.vx_loops.proofs.notes.Loops.put_member.Goals as goal

pub returns-clause-notes : goal.returns-clause-notes
returns-clause-notes c = λ m w s called h. member_noted h c.args.block c.requires.inside (not_inside c.args.self.now c.args.block c.requires.inside c.requires.new)

pub returns-clause-tables : goal.returns-clause-tables
returns-clause-tables c = λ g t. record { members = length-set c.args.self.now.members.items c.args.block c.args.self.now.number ∙ t.members; values = t.values; arrays = t.arrays; edges = t.edges; leads = t.leads }
