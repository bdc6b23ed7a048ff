use Rattle.std.proofs.Common.{ℕ, List, refl, subst, sym, ◌∙◌}
use Rattle.std.proofs.lemmas.List.{drop_all}
use Rattle.std.proofs.lemmas.Result.{IfOk-from_err}
use Rattle.vx_flow.specs.Closing.{BeginWithin, Starting}
use Rattle.vx_flow.proofs.ClosingSteps.{starting_along}
use Rattle.vx_flow.proofs.live_nodes.start_all.Goals as goal

pub loop-index-preserved : goal.loop-index-preserved
loop-index-preserved c = record {
  within = subst (λ n. BeginWithin n c.args.routes.now) (sym c.start.ensures.len) c.loop-index.invariant.within;
  so_far = starting_along c.args.routes.now c.args.value c.args.readers.now c.loop-index.index-index c.loop-index.row.items c.start.new.row.items c.loop-index.pending.items c.start.new.pending.items c.loop-index-test.true c.loop-index.invariant.within c.loop-index.invariant.so_far c.in_ok-start.ensures.row c.in_ok-start.ensures.pending;
  len = c.start.ensures.len ∙ c.loop-index.invariant.len;
}

pub loop-index-init : goal.loop-index-init
loop-index-init c = record { within = c.requires.within; so_far = c.requires.starting; len = refl }

pub returns-clause-started : goal.returns-clause-started
returns-clause-started c =
    subst (λ (l : List ℕ). Starting c.args.routes.now c.args.value l c.loop-index.row.items c.loop-index.pending.items) (drop_all c.loop-index.index-index c.args.readers.now c.loop-index-test.false) c.loop-index.invariant.so_far

pub returns-in_err-start-clause-started : goal.returns-in_err-start-clause-started
returns-in_err-start-clause-started c = IfOk-from_err _ _ c.from_residual.ensures.0

pub start-requires : goal.start-requires
start-requires c = c.loop-index.invariant.within
