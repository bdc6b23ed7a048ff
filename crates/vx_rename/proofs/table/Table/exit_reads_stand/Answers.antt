use Rattle.std.proofs.Common.{◌∙◌, ap, sym}
use Rattle.std.specs.List.{list_all}
use Rattle.vx_flow.specs.Effects.{value_in}
use Rattle.vx_flow.specs.Live.{reads_of_exit}
use Rattle.vx_rename.specs.Renaming.{all_stand}
use Rattle.vx_rename.specs.Making.{standing}
use Rattle.vx_rename.proofs.Making.{stand_all}
use Rattle.vx_rename.proofs.table.Table.exit_reads_stand.Goals as goal

pub returns-in-Call : goal.returns-in-Call
returns-in-Call c =
    c.operands_stand.ensures ∙ ap (list_all (λ x. all_stand (standing c.args.self.now) (value_in x))) c.as_slice.ensures ∙ sym (stand_all (standing c.args.self.now) c.in-Call.arguments)
    ∙ ap (λ e. all_stand (standing c.args.self.now) (reads_of_exit e)) (sym c.in-Call.is)
