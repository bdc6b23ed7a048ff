use Rattle.std.proofs.Common.{◌≡◌, sym, ap, subst, ltb-false, ltb-true, Bool, Option, if◌then◌else◌, IfOk}
use Rattle.std.proofs.lemmas.Option.{slice_get_past}
use Rattle.vx_flow.specs.declared.routes.Route.{Route}
use Rattle.vx_flow.specs.Closing.{marked_row, marked_pending, pending_passed, row_passed}
use Rattle.vx_flow.proofs.IndexSteps.{get_some}
use Rattle.vx_flow.proofs.live_nodes.follow.Goals as goal

pub mark_if-requires : goal.mark_if-requires
mark_if-requires c =
    let l = c.in-Some.ensures.lookup in
    c.requires c.args.index c.in-Some.route.now (get_some c.args.routes.now c.args.index c.in-Some.route.now (ltb-true _ _ (sym l.0)) l.1)

pub returns-in-Some-clause-row : goal.returns-in-Some-clause-row
returns-in-Some-clause-row c =
    let l = c.in-Some.ensures.lookup in
    let route = c.in-Some.route.now in
    let row = c.args.row.now.items in
    let at = get_some c.args.routes.now c.args.index route (ltb-true _ _ (sym l.0)) l.1 in
    subst (λ (o : Option Route). IfOk c.mark_if.result (λ _. c.mark_if.new.row.items ≡ row_passed o c.args.value c.args.node row)) (sym at)
    (subst (λ (b : Bool). IfOk c.mark_if.result (λ _. c.mark_if.new.row.items ≡ (if b then marked_row row route.from else row))) c.passes.ensures c.mark_if.ensures.row)

pub returns-in-Some-clause-pending : goal.returns-in-Some-clause-pending
returns-in-Some-clause-pending c =
    let l = c.in-Some.ensures.lookup in
    let route = c.in-Some.route.now in
    let row = c.args.row.now.items in
    let pending = c.args.pending.now.items in
    let at = get_some c.args.routes.now c.args.index route (ltb-true _ _ (sym l.0)) l.1 in
    subst (λ (o : Option Route). IfOk c.mark_if.result (λ _. c.mark_if.new.pending.items ≡ pending_passed o c.args.value c.args.node row pending)) (sym at)
    (subst (λ (b : Bool). IfOk c.mark_if.result (λ _. c.mark_if.new.pending.items ≡ (if b then marked_pending row pending route.from else pending))) c.passes.ensures c.mark_if.ensures.pending)

pub returns-in-None-clause-row : goal.returns-in-None-clause-row
returns-in-None-clause-row c =
    let at = slice_get_past c.args.routes.now c.args.index (ltb-false _ _ (sym c.in-None.ensures.lookup.0)) in
    ap (λ (o : Option Route). row_passed o c.args.value c.args.node c.args.row.now.items) (sym at)

pub returns-in-None-clause-pending : goal.returns-in-None-clause-pending
returns-in-None-clause-pending c =
    let at = slice_get_past c.args.routes.now c.args.index (ltb-false _ _ (sym c.in-None.ensures.lookup.0)) in
    ap (λ (o : Option Route). pending_passed o c.args.value c.args.node c.args.row.now.items c.args.pending.now.items) (sym at)
