use Rattle.std.proofs.Common.{List, sym, ap}
use Rattle.std.proofs.lemmas.List.{nil_from_length}
use Rattle.vx_mixed.specs.declared.layout.Laid.{Laid}
use Rattle.vx_regs.specs.Ways.{marked_by_items}
use Rattle.vx_regs.proofs.nodes.+mark_items.Goals as goal

pub returns-in-None : goal.returns-in-None
returns-in-None t c = ap (λ (z : List Laid). marked_by_items c.args.marks.now.items c.args.next z) (sym (nil_from_length c.args.items.now c.in-None.ensures.cases))
