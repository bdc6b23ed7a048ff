use Rattle.std.proofs.Common.{ℕ, List, arith, get_or, inl, refl, subst, sym, ◌∙◌}
use Rattle.std.proofs.lemmas.List.{drop_all}
use Rattle.std.proofs.lemmas.Result.{IfOk-from_err}
use Rattle.vx_flow.specs.Closing.{BeginWithin, Closing}
use Rattle.vx_flow.proofs.ClosingSteps.{closing_along, spreads_along}
use Rattle.vx_flow.proofs.Remaining.{followed_less}
use Rattle.vx_flow.proofs.live_nodes.follow_all.Goals as goal

pub loop-index-preserved : goal.loop-index-preserved
loop-index-preserved c = record {
  within = subst (λ n. BeginWithin n c.args.routes.now) (sym c.follow.ensures.len) c.loop-index.invariant.within;
  so_far = closing_along c.args.routes.now c.args.value c.args.node c.args.entering.now c.loop-index.index-index c.loop-index.row.items c.follow.new.row.items c.loop-index.pending.items c.follow.new.pending.items c.loop-index-test.true c.loop-index.invariant.within c.loop-index.invariant.so_far c.in_ok-follow.ensures.row c.in_ok-follow.ensures.pending;
  spreads = spreads_along c.args.routes.now c.args.value c.args.node (get_or c.args.entering.now c.loop-index.index-index 0) c.args.row.now.items c.loop-index.row.items c.follow.new.row.items c.args.pending.now.items c.loop-index.pending.items c.follow.new.pending.items c.loop-index.invariant.within c.loop-index.invariant.spreads c.in_ok-follow.ensures.row c.in_ok-follow.ensures.pending;
  len = c.follow.ensures.len ∙ c.loop-index.invariant.len;
  less =
      let h = followed_less c.args.routes.now (get_or c.args.entering.now c.loop-index.index-index 0) c.args.value c.args.node c.loop-index.row.items c.follow.new.row.items c.loop-index.pending.items c.follow.new.pending.items c.loop-index.invariant.within c.in_ok-follow.ensures.row c.in_ok-follow.ensures.pending in
      let k = c.loop-index.invariant.less in
      omega arith;
}

pub loop-index-init : goal.loop-index-init
loop-index-init c = record { within = c.requires.within; so_far = c.requires.closing; spreads = record { keeps = λ b m. m; anew = λ b m. inl m; pends = λ b m. m }; len = refl; less = omega arith }

pub returns-clause-closed : goal.returns-clause-closed
returns-clause-closed c =
    subst (λ (l : List ℕ). Closing c.args.routes.now c.args.value c.args.node l c.loop-index.row.items c.loop-index.pending.items) (drop_all c.loop-index.index-index c.args.entering.now c.loop-index-test.false) c.loop-index.invariant.so_far

pub returns-in_err-follow-clause-closed : goal.returns-in_err-follow-clause-closed
returns-in_err-follow-clause-closed c = IfOk-from_err _ _ c.from_residual.ensures.0

pub returns-in_err-follow-clause-spreads : goal.returns-in_err-follow-clause-spreads
returns-in_err-follow-clause-spreads c = IfOk-from_err _ _ c.from_residual.ensures.0

pub follow-requires : goal.follow-requires
follow-requires c = c.loop-index.invariant.within

pub returns-in_err-follow-clause-less : goal.returns-in_err-follow-clause-less
returns-in_err-follow-clause-less c = IfOk-from_err _ _ c.from_residual.ensures.0
