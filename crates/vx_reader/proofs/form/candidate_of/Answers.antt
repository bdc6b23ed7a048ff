-- The operation of each form.
use Rattle.std.proofs.Common.{◌∙◌, ap, sym}
use Rattle.vx_isa.specs.declared.operation.Operation.TheVariants.{Input, More, OutText, OutDecimal, OutByte, Goto, Call, FromLink as ReadLink, ToLink as WriteLink, EndByTrap, Halt}
use Rattle.vx_reader.specs.declared.form.Form.{Form}
use Rattle.vx_reader.specs.Fields.{number_at, source_at}
use Rattle.vx_reader.specs.Forms.{candidate, trap_of}
use Rattle.vx_reader.proofs.form.candidate_of.Goals as goal

pub returns-in-Computes : goal.returns-in-Computes
unfolding candidate
returns-in-Computes c = c.compute.ensures ∙ ap (λ (f : Form). candidate c.args.cluster f c.args.text.now) (sym c.in-Computes.is)

pub returns-in-Moves : goal.returns-in-Moves
unfolding candidate
returns-in-Moves c = c.move_text.ensures ∙ ap (λ (f : Form). candidate c.args.cluster f c.args.text.now) (sym c.in-Moves.is)

pub returns-in-Selects : goal.returns-in-Selects
unfolding candidate
returns-in-Selects c = c.select.ensures ∙ ap (λ (f : Form). candidate c.args.cluster f c.args.text.now) (sym c.in-Selects.is)

pub returns-in-Loads : goal.returns-in-Loads
unfolding candidate
returns-in-Loads c = c.load.ensures ∙ ap (λ (f : Form). candidate c.args.cluster f c.args.text.now) (sym c.in-Loads.is)

pub returns-in-Stores : goal.returns-in-Stores
unfolding candidate
returns-in-Stores c = c.store.ensures ∙ ap (λ (f : Form). candidate c.args.cluster f c.args.text.now) (sym c.in-Stores.is)

pub returns-in-Branches : goal.returns-in-Branches
unfolding candidate
returns-in-Branches c = c.branch_on.ensures ∙ ap (λ (f : Form). candidate c.args.cluster f c.args.text.now) (sym c.in-Branches.is)

pub returns-in-TakesInput : goal.returns-in-TakesInput
unfolding candidate
returns-in-TakesInput c = ap Input c.general.ensures.register ∙ ap (λ (f : Form). candidate c.args.cluster f c.args.text.now) (sym c.in-TakesInput.is)

pub returns-in-AsksInput : goal.returns-in-AsksInput
unfolding candidate
returns-in-AsksInput c = ap More c.general-in-AsksInput.ensures.register ∙ ap (λ (f : Form). candidate c.args.cluster f c.args.text.now) (sym c.in-AsksInput.is)

pub returns-in-FromLink : goal.returns-in-FromLink
unfolding candidate
returns-in-FromLink c = ap ReadLink c.general-in-FromLink.ensures.register ∙ ap (λ (f : Form). candidate c.args.cluster f c.args.text.now) (sym c.in-FromLink.is)

pub returns-in-PrintsDecimal : goal.returns-in-PrintsDecimal
unfolding candidate
returns-in-PrintsDecimal c = ap OutDecimal c.source.ensures.source ∙ ap (λ (f : Form). candidate c.args.cluster f c.args.text.now) (sym c.in-PrintsDecimal.is)

pub returns-in-PrintsByte : goal.returns-in-PrintsByte
unfolding candidate
returns-in-PrintsByte c = ap OutByte c.source-in-PrintsByte.ensures.source ∙ ap (λ (f : Form). candidate c.args.cluster f c.args.text.now) (sym c.in-PrintsByte.is)

pub returns-in-Halts : goal.returns-in-Halts
unfolding candidate
returns-in-Halts c = ap Halt c.source-in-Halts.ensures.source ∙ ap (λ (f : Form). candidate c.args.cluster f c.args.text.now) (sym c.in-Halts.is)

pub returns-in-ToLink : goal.returns-in-ToLink
unfolding candidate
returns-in-ToLink c = ap WriteLink (c.source-in-ToLink.ensures.source ∙ ap (λ t. (source_at t).0) c.skip-in-ToLink.ensures) ∙ ap (λ (f : Form). candidate c.args.cluster f c.args.text.now) (sym c.in-ToLink.is)

pub returns-in-PrintsText : goal.returns-in-PrintsText
unfolding candidate
returns-in-PrintsText c = ap OutText (c.number.ensures.value ∙ ap (λ t. (number_at t).0) c.skip.ensures) ∙ ap (λ (f : Form). candidate c.args.cluster f c.args.text.now) (sym c.in-PrintsText.is)

pub returns-in-Goes : goal.returns-in-Goes
unfolding candidate
returns-in-Goes c = ap Goto (c.number-in-Goes.ensures.value ∙ ap (λ t. (number_at t).0) c.skip-in-Goes.ensures) ∙ ap (λ (f : Form). candidate c.args.cluster f c.args.text.now) (sym c.in-Goes.is)

pub returns-in-Calls : goal.returns-in-Calls
unfolding candidate
returns-in-Calls c = ap Call (c.number-in-Calls.ensures.value ∙ ap (λ t. (number_at t).0) c.skip-in-Calls.ensures) ∙ ap (λ (f : Form). candidate c.args.cluster f c.args.text.now) (sym c.in-Calls.is)

pub returns-in-Traps : goal.returns-in-Traps
unfolding candidate
returns-in-Traps c = ap EndByTrap (c.trap_numbered.ensures ∙ ap trap_of c.number-in-Traps.ensures.value) ∙ ap (λ (f : Form). candidate c.args.cluster f c.args.text.now) (sym c.in-Traps.is)
