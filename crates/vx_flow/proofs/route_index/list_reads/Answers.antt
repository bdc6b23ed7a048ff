use Rattle.std.proofs.Common.{◌≡◌, ◌⊎◌, inl, inr, Some, List, true, false, subst}
use Rattle.std.proofs.lemmas.List.{drop_all}
use Rattle.std.proofs.lemmas.Option.{none-some}
use Rattle.std.proofs.lemmas.Result.{IfOk-from_err}
use Rattle.vx_flow.specs.declared.routes.Touch.{Touch}
use Rattle.vx_flow.specs.Effects.{IsIn}
use Rattle.vx_flow.specs.Live.{first_touch}
use Rattle.vx_flow.specs.Rows.{row_at}
use Rattle.vx_flow.proofs.IndexSteps.{listing_along, listing_first}
use Rattle.vx_flow.proofs.route_index.list_reads.Goals as goal

pub loop-touch-init : goal.loop-touch-init
loop-touch-init c = listing_first c.args.touches.now c.args.index c.args.mark c.args.rows.now c.args.marks.now.items c.requires

pub loop-touch-preserved : goal.loop-touch-preserved
loop-touch-preserved c = listing_along c.args.touches.now c.args.index c.args.mark c.args.rows.now c.loop-touch.rows c.list_read.new.rows c.loop-touch.marks.items c.list_read.new.marks.items c.loop-touch.touch-index (record { value = 0; reads = false }) c.loop-touch-test.true c.loop-touch.invariant c.in_ok-list_read.ensures.keeps c.in_ok-list_read.ensures.has c.in_ok-list_read.ensures.marks

pub returns-clause-has : goal.returns-clause-has
returns-clause-has c = λ v m.
    let l = drop_all c.loop-touch.touch-index c.args.touches.now c.loop-touch-test.false in
    elim (subst (λ (ts : List Touch). IsIn c.args.index (row_at c.loop-touch.rows v) ⊎ (first_touch v ts ≡ Some true)) l (c.loop-touch.invariant.has v m)) [ inl a ↦ a | inr b ↦ absurd (none-some true b) ]

pub returns-in_err-list_read-clause-keeps : goal.returns-in_err-list_read-clause-keeps
returns-in_err-list_read-clause-keeps c = IfOk-from_err _ _ c.from_residual.ensures.0

pub returns-in_err-list_read-clause-has : goal.returns-in_err-list_read-clause-has
returns-in_err-list_read-clause-has c = IfOk-from_err _ _ c.from_residual.ensures.0

pub returns-in_err-list_read-clause-marks : goal.returns-in_err-list_read-clause-marks
returns-in_err-list_read-clause-marks c = IfOk-from_err _ _ c.from_residual.ensures.0
