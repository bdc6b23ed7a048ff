use Rattle.std.proofs.Common.{◌≡◌, ◌↔◌, ℕ, List, true, subst, sym, ◌∙◌}
use Rattle.std.proofs.lemmas.Result.{IfOk-from_err}
use Rattle.vx_flow.specs.declared.routes.Route.{Route}
use Rattle.vx_flow.specs.Closing.{BeginWithin, EnteringFound, ReadersFound}
use Rattle.vx_flow.specs.Live.{LiveOn}
use Rattle.vx_flow.specs.Rows.{lives}
use Rattle.vx_flow.proofs.liveness.live_on.Goals as goal

pub rows_of-requires-clause-within : goal.rows_of-requires-clause-within
rows_of-requires-clause-within c = subst (λ (rs : List Route). BeginWithin c.args.nodes rs) (sym c.as_slice-3.ensures) c.requires

pub rows_of-requires-clause-entering : goal.rows_of-requires-clause-entering
rows_of-requires-clause-entering c = subst (λ (rs : List Route). EnteringFound rs c.in_ok-entering.entering) (c.as_slice.ensures ∙ sym c.as_slice-3.ensures) c.in_ok-entering.ensures

pub rows_of-requires-clause-readers : goal.rows_of-requires-clause-readers
rows_of-requires-clause-readers c = subst (λ (rs : List Route). ReadersFound rs c.in_ok-readers.readers) (c.as_slice-2.ensures ∙ sym c.as_slice-3.ensures) c.in_ok-readers.ensures

pub returns : goal.returns
returns c = record {
  exact = λ b v. subst (λ (rs : List Route). (lives c.from_rows.result b v ≡ true) ↔ LiveOn rs b v) c.as_slice-3.ensures
      (subst (λ (l : List (List ℕ)). (lives l b v ≡ true) ↔ LiveOn c.as_slice-3.result.now b v) (sym c.from_rows.ensures) (c.in_ok-rows.ensures.exact b v));
}

pub returns-in_err-entering : goal.returns-in_err-entering
returns-in_err-entering c = record { exact = IfOk-from_err _ _ c.from_residual.ensures.0 }

pub returns-in_err-readers : goal.returns-in_err-readers
returns-in_err-readers c = record { exact = IfOk-from_err _ _ c.from_residual-in_err-readers.ensures.0 }

pub returns-in_err-rows : goal.returns-in_err-rows
returns-in_err-rows c = record { exact = IfOk-from_err _ _ c.from_residual-in_err-rows.ensures.0 }

pub from_rows-requires : goal.from_rows-requires
from_rows-requires c = c.in_ok-rows.ensures.rising
