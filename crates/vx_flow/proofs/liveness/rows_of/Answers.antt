use Rattle.std.proofs.Common.{◌≡◌, length, subst, sym, ◌∙◌, arith}
use Rattle.std.proofs.lemmas.Result.{IfOk-from_err}
use Rattle.vx_flow.specs.Effects.{IsIn}
use Rattle.vx_flow.specs.Closing.{BeginWithin}
use Rattle.vx_flow.proofs.ClosingSteps.{marked_below}
use Rattle.vx_flow.proofs.LiveRoutes.{RowsBelow, rows_all, rows_more, rows_none}
use Rattle.vx_flow.proofs.liveness.rows_of.Goals as goal

pub list_found-requires-clause-within : goal.list_found-requires-clause-within
list_found-requires-clause-within c = λ b m. marked_below c.live_nodes.new.row.items b ((c.in_ok-found.ensures.found b).1 (subst (IsIn b) c.as_slice.ensures.value m))

pub loop-value-preserved : goal.loop-value-preserved
loop-value-preserved c = record {
  so_far = rows_more c.args.routes.now c.loop-value.rows c.list_found.new.rows c.live_nodes.new.row.items c.loop-value.value c.loop-value.invariant.so_far
      c.in_ok-found.ensures.exact c.in_ok-list_found.ensures.listed;
  none = c.in_ok-list_found.ensures.none;
  len = c.list_found.ensures.len ∙ c.in_ok-found.ensures.len ∙ c.loop-value.invariant.len;
}

pub returns : goal.returns
returns c =
    let z : length c.args.readers.now ≡ c.loop-value.value = omega (arith, c.in-Ok.ensures, c.len.ensures) in
    record {
      exact = rows_all c.args.routes.now c.args.readers.now c.loop-value.rows c.loop-value.value c.requires.readers z c.loop-value.invariant.so_far;
      rising = c.loop-value.invariant.so_far.rising;
    }

pub loop-value-init : goal.loop-value-init
loop-value-init c = record {
  so_far = subst (λ rows. RowsBelow c.args.routes.now rows 0) (sym c.new-rows.ensures) (rows_none c.args.routes.now);
  none = c.in_ok-marks.ensures.none;
  len = c.in_ok-marks.ensures.len;
}

pub live_nodes-requires-clause-readers : goal.live_nodes-requires-clause-readers
live_nodes-requires-clause-readers c = λ i r there first. subst (IsIn i) (sym c.of-read_by.ensures) (c.requires.readers i c.loop-value.value r there first)

pub list_found-requires-clause-found : goal.list_found-requires-clause-found
list_found-requires-clause-found c = λ b m. subst (IsIn b) (sym c.as_slice.ensures.value) ((c.in_ok-found.ensures.found b).0 m)

pub live_nodes-requires-clause-within : goal.live_nodes-requires-clause-within
live_nodes-requires-clause-within c = subst (λ n. BeginWithin n c.args.routes.now) (sym c.loop-value.invariant.len) c.requires.within

pub returns-in_err-marks-clause-exact : goal.returns-in_err-marks-clause-exact
returns-in_err-marks-clause-exact c = IfOk-from_err _ _ c.from_residual.ensures.0

pub returns-in_err-marks-clause-rising : goal.returns-in_err-marks-clause-rising
returns-in_err-marks-clause-rising c = IfOk-from_err _ _ c.from_residual.ensures.0

pub returns-in_err-found-clause-exact : goal.returns-in_err-found-clause-exact
returns-in_err-found-clause-exact c = IfOk-from_err _ _ c.from_residual-in_err-found.ensures.0

pub returns-in_err-found-clause-rising : goal.returns-in_err-found-clause-rising
returns-in_err-found-clause-rising c = IfOk-from_err _ _ c.from_residual-in_err-found.ensures.0

pub returns-in_err-list_found-clause-exact : goal.returns-in_err-list_found-clause-exact
returns-in_err-list_found-clause-exact c = IfOk-from_err _ _ c.from_residual-in_err-list_found.ensures.0

pub returns-in_err-list_found-clause-rising : goal.returns-in_err-list_found-clause-rising
returns-in_err-list_found-clause-rising c = IfOk-from_err _ _ c.from_residual-in_err-list_found.ensures.0

pub live_nodes-requires-clause-none : goal.live_nodes-requires-clause-none
live_nodes-requires-clause-none c = c.loop-value.invariant.none
