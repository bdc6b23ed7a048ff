use Rattle.std.proofs.Common.{◌≡◌, ℕ, true, List, [], refl, subst, sym, ◌∙◌, arith}
use Rattle.std.proofs.lemmas.Result.{IfOk-from_err}
use Rattle.vx_flow.specs.Effects.{IsIn}
use Rattle.vx_flow.specs.Rows.{is_marked, row_at}
use Rattle.vx_flow.specs.Closing.{BeginWithin, Closing, Starting}
use Rattle.vx_flow.proofs.ClosingSteps.{closing_any, closing_exact, closing_first, closing_next, empty_list, starting_first, Tracked, tracked_all, tracked_first, tracked_next}
use Rattle.vx_flow.proofs.Members.{in_last}
use Rattle.vx_flow.proofs.live_nodes.live_nodes.Goals as goal

pub follow_all-requires-clause-closing : goal.follow_all-requires-clause-closing
follow_all-requires-clause-closing c =
    subst (λ l. Closing c.args.routes.now c.args.value c.in-Some.node l c.pending.row.items c.pop.new.self.items) (sym c.of-routes_in.ensures)
    (closing_next c.args.routes.now c.args.value 0 c.in-Some.node (row_at c.args.entering.now c.in-Some.node) c.pending.row.items c.pending.pending.items c.pop.new.self.items c.pending.invariant.so_far c.in-Some.ensures.items
    (λ i r q k. c.requires.entering i c.in-Some.node r q k))

pub returns-in-None-clause-exact : goal.returns-in-None-clause-exact
returns-in-None-clause-exact c =
    let h = c.in-None.ensures.cases in
    let e : c.pending.pending.items ≡ [] = empty_list c.pending.pending.items (omega arith) in
    let s : Closing c.args.routes.now c.args.value 0 [] c.pending.row.items [] = subst (λ p. Closing c.args.routes.now c.args.value 0 [] c.pending.row.items p) e c.pending.invariant.so_far in
    closing_exact c.args.routes.now c.args.value 0 c.pending.row.items s

pub pending-preserved : goal.pending-preserved
pending-preserved c =
    let e = c.in-Some.ensures.items in
    let node = c.in-Some.node in
    let rest = c.pop.new.self.items in
    let m : is_marked c.pending.row.items node ≡ true = c.pending.invariant.so_far.marked node (subst (IsIn node) (sym e) (in_last node rest)) in
    record {
      within = subst (λ n. BeginWithin n c.args.routes.now) (sym c.follow_all.ensures.len) c.pending.invariant.within;
      so_far = closing_any c.args.routes.now c.args.value node 0 c.follow_all.new.row.items c.follow_all.new.pending.items c.in_ok-follow_all-in-Some.ensures.closed;
      tracked = tracked_next c.pending.row.items c.follow_all.new.row.items c.pending.pending.items rest c.follow_all.new.pending.items c.pending.found.items c.push.new.self.items node c.pending.invariant.tracked m e c.in_ok-push-in-Some.ensures.items c.in_ok-follow_all-in-Some.ensures.spreads;
      len = c.follow_all.ensures.len ∙ c.pending.invariant.len;
    }

pub returns-in-None-clause-found : goal.returns-in-None-clause-found
returns-in-None-clause-found c =
    let h = c.in-None.ensures.cases in
    let e : c.pending.pending.items ≡ [] = empty_list c.pending.pending.items (omega arith) in
    tracked_all c.pending.row.items c.pending.found.items (subst (λ p. Tracked c.pending.row.items p c.pending.found.items) e c.pending.invariant.tracked)

pub start_all-requires-clause-starting : goal.start_all-requires-clause-starting
start_all-requires-clause-starting c =
    subst (λ (l : List ℕ). Starting c.args.routes.now c.args.value c.args.readers.now c.args.row.now.items l) (sym c.new-pending.ensures.items)
    (starting_first c.args.routes.now c.args.value c.args.readers.now c.args.row.now.items c.requires.none c.requires.readers)

pub pending-init : goal.pending-init
pending-init c =
    let s = c.in_ok-start_all.ensures.started in
    record {
      within = subst (λ n. BeginWithin n c.args.routes.now) (sym c.start_all.ensures.len) c.requires.within;
      so_far = closing_first c.args.routes.now c.args.value c.start_all.new.row.items c.start_all.new.pending.items s;
      tracked = subst (λ (l : List ℕ). Tracked c.start_all.new.row.items c.start_all.new.pending.items l) (sym c.new-found.ensures.items) (tracked_first c.start_all.new.row.items c.start_all.new.pending.items s.pends);
      len = refl;
    }

pub returns-in_err-start_all-clause-exact : goal.returns-in_err-start_all-clause-exact
returns-in_err-start_all-clause-exact c = IfOk-from_err _ _ c.from_residual.ensures.0

pub returns-in_err-start_all-clause-found : goal.returns-in_err-start_all-clause-found
returns-in_err-start_all-clause-found c = IfOk-from_err _ _ c.from_residual.ensures.0

pub returns-in_err-push-in-Some-clause-exact : goal.returns-in_err-push-in-Some-clause-exact
returns-in_err-push-in-Some-clause-exact c = IfOk-from_err _ _ c.from_residual-in_err-push-in-Some.ensures.0

pub returns-in_err-push-in-Some-clause-found : goal.returns-in_err-push-in-Some-clause-found
returns-in_err-push-in-Some-clause-found c = IfOk-from_err _ _ c.from_residual-in_err-push-in-Some.ensures.0

pub returns-in_err-follow_all-in-Some-clause-exact : goal.returns-in_err-follow_all-in-Some-clause-exact
returns-in_err-follow_all-in-Some-clause-exact c = IfOk-from_err _ _ c.from_residual-in_err-follow_all-in-Some.ensures.0

pub returns-in_err-follow_all-in-Some-clause-found : goal.returns-in_err-follow_all-in-Some-clause-found
returns-in_err-follow_all-in-Some-clause-found c = IfOk-from_err _ _ c.from_residual-in_err-follow_all-in-Some.ensures.0

pub follow_all-requires-clause-within : goal.follow_all-requires-clause-within
follow_all-requires-clause-within c = c.pending.invariant.within

pub returns-in-None-clause-len : goal.returns-in-None-clause-len
returns-in-None-clause-len c = c.pending.invariant.len ∙ c.start_all.ensures.len
