use Rattle.std.proofs.Common.{◌∙◌, refl, sym, true, false}
use Rattle.vx_select.specs.Known.{told}
use Rattle.vx_select.proofs.Freeing.{free_by}
use Rattle.vx_select.proofs.values.is_free.Goals as goal

pub returns-then-is_open : goal.returns-then-is_open
returns-then-is_open c = free_by (told c.args.known.now) c.args.graph.now c.args.corners.now c.args.addresses.now c.args.value c.requires true c.is_unused.result (sym c.if-is_open.true ∙ c.is_open.ensures) c.is_unused.ensures

pub returns-else-is_open : goal.returns-else-is_open
returns-else-is_open c = c.if-is_open.false ∙ free_by (told c.args.known.now) c.args.graph.now c.args.corners.now c.args.addresses.now c.args.value c.requires false _ (sym c.if-is_open.false ∙ c.is_open.ensures) refl
