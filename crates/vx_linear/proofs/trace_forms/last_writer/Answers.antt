use Rattle.std.proofs.Common.{sym, ◌∙◌}
use Rattle.vx_linear.proofs.Writing.{writer_below}
use Rattle.vx_linear.proofs.trace_forms.last_writer.Goals as goal

pub returns-clause-below : goal.returns-clause-below
returns-clause-below c = λ j e. writer_below c.args.trace.now.ops c.args.place c.args.value j (sym (c.look.ensures ∙ c.requires.passed.writers c.args.value) ∙ e)
