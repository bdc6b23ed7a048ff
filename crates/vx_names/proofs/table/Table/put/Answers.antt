use Rattle.std.proofs.Common.{ap, ◌∙◌, if◌then◌else◌}
use Rattle.vx_ast.specs.Scopes.{same_name}
use Rattle.vx_names.specs.Entries.{entry_of}
use Rattle.vx_names.proofs.Lookups.{put_entry}
use Rattle.vx_names.proofs.table.Table.put.Goals as goal

pub returns-clause-ok : goal.returns-clause-ok
returns-clause-ok c = λ x. ap (λ z. entry_of x z) c.in_ok-insert.ensures.entries ∙ put_entry x c.args.self.now.entries.entries c.in_ok-key.key c.args.meant ∙ ap (λ z. if same_name x z then c.args.meant else entry_of x c.args.self.now.entries.entries) c.in_ok-key.ensures
