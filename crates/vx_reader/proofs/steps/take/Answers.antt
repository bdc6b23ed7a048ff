-- The step is the one of the first field of the line.
use Rattle.std.proofs.Common.{◌∙◌, ap, sym}
use Rattle.vx_reader.specs.Steps.{memory_step}
use Rattle.vx_reader.proofs.Taken.{by_idle, by_label, by_memory, by_start, by_text, by_version, gives_as, no_operation}
use Rattle.vx_reader.proofs.steps.take.Goals as goal

pub returns-then-is_same-2 : goal.returns-then-is_same-2
returns-then-is_same-2 c = gives_as _ c.take_version.result _ _ (by_version c.args.marks.now c.args.total c.args.before.now c.args.text.now c.field_end.result c.field_end.ensures.end (no_operation c.args.text.now c.cluster_of_line.result c.cluster_of_line.ensures c.in_default.not-Some) (sym c.is_same.ensures ∙ c.if-is_same.false) (sym c.is_same-2.ensures ∙ c.if-is_same-2.true)) c.take_version.ensures

pub returns-then-is_same-4 : goal.returns-then-is_same-4
returns-then-is_same-4 c = gives_as _ c.take_start.result _ _ (by_start c.args.marks.now c.args.total c.args.before.now c.args.text.now c.field_end.result c.field_end.ensures.end (no_operation c.args.text.now c.cluster_of_line.result c.cluster_of_line.ensures c.in_default.not-Some) (sym c.is_same.ensures ∙ c.if-is_same.false) (sym c.is_same-2.ensures ∙ c.if-is_same-2.false) (sym c.is_same-else-is_same-2.ensures ∙ c.if-is_same-3.false) (sym c.is_same-else-is_same-3.ensures ∙ c.if-is_same-4.true)) c.take_start.ensures

pub returns-then-is_same-5 : goal.returns-then-is_same-5
returns-then-is_same-5 c = gives_as _ c.take_text.result _ _ (by_text c.args.marks.now c.args.total c.args.before.now c.args.text.now c.field_end.result c.field_end.ensures.end (no_operation c.args.text.now c.cluster_of_line.result c.cluster_of_line.ensures c.in_default.not-Some) (sym c.is_same.ensures ∙ c.if-is_same.false) (sym c.is_same-2.ensures ∙ c.if-is_same-2.false) (sym c.is_same-else-is_same-2.ensures ∙ c.if-is_same-3.false) (sym c.is_same-else-is_same-3.ensures ∙ c.if-is_same-4.false) (sym c.is_same-else-is_same-4.ensures ∙ c.if-is_same-5.true)) c.take_text.ensures

pub returns-then-is_same-6 : goal.returns-then-is_same-6
returns-then-is_same-6 c = gives_as _ c.take_idle.result _ _ (by_idle c.args.marks.now c.args.total c.args.before.now c.args.text.now c.field_end.result c.field_end.ensures.end (no_operation c.args.text.now c.cluster_of_line.result c.cluster_of_line.ensures c.in_default.not-Some) (sym c.is_same.ensures ∙ c.if-is_same.false) (sym c.is_same-2.ensures ∙ c.if-is_same-2.false) (sym c.is_same-else-is_same-2.ensures ∙ c.if-is_same-3.false) (sym c.is_same-else-is_same-3.ensures ∙ c.if-is_same-4.false) (sym c.is_same-else-is_same-4.ensures ∙ c.if-is_same-5.false) (sym c.is_same-else-is_same-5.ensures ∙ c.if-is_same-6.true)) c.take_idle.ensures

pub returns-else-is_same-6 : goal.returns-else-is_same-6
returns-else-is_same-6 c = gives_as _ c.take_label.result _ _ (by_label c.args.marks.now c.args.total c.args.before.now c.args.text.now c.field_end.result c.field_end.ensures.end (no_operation c.args.text.now c.cluster_of_line.result c.cluster_of_line.ensures c.in_default.not-Some) (sym c.is_same.ensures ∙ c.if-is_same.false) (sym c.is_same-2.ensures ∙ c.if-is_same-2.false) (sym c.is_same-else-is_same-2.ensures ∙ c.if-is_same-3.false) (sym c.is_same-else-is_same-3.ensures ∙ c.if-is_same-4.false) (sym c.is_same-else-is_same-4.ensures ∙ c.if-is_same-5.false) (sym c.is_same-else-is_same-5.ensures ∙ c.if-is_same-6.false)) c.take_label.ensures

pub returns-then-is_same-3 : goal.returns-then-is_same-3
returns-then-is_same-3 c = gives_as _ c.take_memory.result _ _ (by_memory c.args.marks.now c.args.total c.args.before.now c.args.text.now c.field_end.result c.field_end.ensures.end (no_operation c.args.text.now c.cluster_of_line.result c.cluster_of_line.ensures c.in_default.not-Some) (sym c.is_same.ensures ∙ c.if-is_same.false) (sym c.is_same-2.ensures ∙ c.if-is_same-2.false) (sym c.is_same-else-is_same-2.ensures ∙ c.if-is_same-3.true) ∙ ap (memory_step c.args.before.now) (sym c.skip-then-is_same-3.ensures)) c.take_memory.ensures
