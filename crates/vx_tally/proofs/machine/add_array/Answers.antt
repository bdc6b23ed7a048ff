use Rattle.std.proofs.Common.{◌++◌, ap, append-nil, sym, ◌∙◌}
use Rattle.vx_tally.proofs.Passing.{adds_none, adds_one}
use Rattle.vx_tally.proofs.machine.add_array.Goals as goal

pub returns-then-has_base : goal.returns-then-has_base
returns-then-has_base c = sym (ap (λ q. c.args.arrays.now.items ++ q) (adds_none c.args.array.now (sym c.has_base.ensures ∙ c.if-has_base.true)) ∙ append-nil c.args.arrays.now.items)

pub returns : goal.returns
returns c = c.in_ok-push.ensures.items ∙ ap (λ q. c.args.arrays.now.items ++ q) (sym (adds_one c.args.array.now c.in_ok-cells.cells (sym c.has_base.ensures ∙ c.if-has_base.false) c.in_ok-cells.ensures))
