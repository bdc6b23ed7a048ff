-- What the tests say of the operation.
use Rattle.std.proofs.Common.{◌≡◌, ◌∙◌, ◌||◌, false, true, sym, arith}
use Rattle.std.proofs.lemmas.Bool.{and_left, and_right, or_left, or_right}
use Rattle.vx_reader.specs.Steps.{begins_word, is_operations_stage}
use Rattle.vx_reader.proofs.Taken.{neither, other_number, stage_beyond, stage_no, stage_yes}
use Rattle.vx_reader.proofs.steps.operation_fault.Goals.{then-cluster-via-then-cluster, then-cluster-via-else-cluster+then-not-is_at_operations, then-word_begins, else-word_begins}
use Rattle.vx_reader.proofs.steps.operation_fault.Goals as goal

pub returns-clause-none : goal.returns-clause-none
returns-clause-none c =
    stage_yes c.args.marks.now c.args.total c.args.before.now c.args.cluster c.args.operation (omega (arith, c.if-len-texts_of.false, c.len.ensures.len, c.texts_of.ensures)) (sym c.is_beyond_words.ensures ∙ c.if-is_beyond_words.false)
    (c.if-cluster.false ∙ c.cluster.ensures) (elim c.if-word_begins.branch [
      | then-word_begins w ↦ or_left _ _ (sym c.word_begins.ensures ∙ w.if-word_begins.true)
      | else-word_begins w ↦ or_right _ _ (sym w.is_at_operations.ensures ∙ sym w.value-is ∙ c.if-not-is_at_operations.false)
    ])

pub returns-then-is_beyond_words-clause-fault : goal.returns-then-is_beyond_words-clause-fault
returns-then-is_beyond_words-clause-fault c =
    stage_beyond c.args.marks.now c.args.total c.args.before.now c.args.cluster c.args.operation (omega (arith, c.if-len-texts_of.false, c.len.ensures.len, c.texts_of.ensures)) (sym c.is_beyond_words.ensures ∙ c.if-is_beyond_words.true)

pub returns-then-cluster-clause-fault : goal.returns-then-cluster-clause-fault
returns-then-cluster-clause-fault c =
    stage_no c.args.marks.now c.args.total c.args.before.now c.args.cluster c.args.operation (omega (arith, c.if-len-texts_of.false, c.len.ensures.len, c.texts_of.ensures)) (sym c.is_beyond_words.ensures ∙ c.if-is_beyond_words.false) (elim c.then-cluster.branch [
      | then-cluster-via-then-cluster w ↦ and_left _ _ (other_number _ _ (λ same. w.if-cluster.true (same ∙ sym c.cluster.ensures)))
      | then-cluster-via-else-cluster+then-not-is_at_operations w ↦ and_right _ (begins_word c.args.marks.now c.args.before.now || is_operations_stage c.args.before.now.stage) (elim w.if-word_begins.branch [
        | then-word_begins v ↦ let wrong : true ≡ false = sym v.if-word_begins.true ∙ sym v.value-is ∙ w.if-not-is_at_operations.true in absurd cc
        | else-word_begins v ↦ neither _ _ (sym w.word_begins.ensures ∙ v.if-word_begins.false) (sym v.is_at_operations.ensures ∙ sym v.value-is ∙ w.if-not-is_at_operations.true)
      ])
    ])
