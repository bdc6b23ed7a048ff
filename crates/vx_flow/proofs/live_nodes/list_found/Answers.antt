use Rattle.std.proofs.Common.{ℕ, ◌<◌, List, get_or, refl, subst, sym, ◌∙◌}
use Rattle.std.proofs.lemmas.List.{drop_all}
use Rattle.std.proofs.lemmas.Result.{IfOk-from_err}
use Rattle.vx_flow.specs.Effects.{IsIn}
use Rattle.vx_flow.proofs.ClosingSteps.{Putting, in_along, putting_along, putting_ends, putting_first}
use Rattle.vx_flow.proofs.live_nodes.list_found.Goals as goal

pub list_node-requires : goal.list_node-requires
list_node-requires c =
    let found = c.args.found.now in
    let i = c.loop-node.node-index in
    subst (λ n. get_or found i 0 < n) (sym c.loop-node.invariant.len) (c.requires.within (get_or found i 0) (in_along found i c.loop-node-test.true))

pub loop-node-preserved : goal.loop-node-preserved
loop-node-preserved c = record {
  so_far = putting_along c.args.value c.args.marks.now.items c.loop-node.marks.items c.list_node.new.marks.items c.args.rows.now c.loop-node.rows c.list_node.new.rows c.args.found.now c.loop-node.node-index c.loop-node-test.true c.loop-node.invariant.so_far c.in_ok-list_node.ensures.marks c.in_ok-list_node.ensures.added c.in_ok-list_node.ensures.same;
  len = c.list_node.ensures.len ∙ c.loop-node.invariant.len;
}

pub loop-node-init : goal.loop-node-init
loop-node-init c = record { so_far = putting_first c.args.value c.args.marks.now.items c.args.rows.now c.args.found.now c.requires.found; len = refl }

pub returns-clause-listed : goal.returns-clause-listed
returns-clause-listed c =
    let first = c.args.marks.now.items in
    let marks = c.loop-node.marks.items in
    let none = drop_all c.loop-node.node-index c.args.found.now c.loop-node-test.false in
    putting_ends c.args.value first marks c.args.rows.now c.loop-node.rows (subst (λ (l : List ℕ). Putting c.args.value first marks c.args.rows.now c.loop-node.rows l) none c.loop-node.invariant.so_far)

pub returns-clause-none : goal.returns-clause-none
returns-clause-none c = λ b m. subst (λ (l : List ℕ). IsIn b l) (drop_all c.loop-node.node-index c.args.found.now c.loop-node-test.false) (c.loop-node.invariant.so_far.comes b m)

pub returns-in_err-list_node-clause-listed : goal.returns-in_err-list_node-clause-listed
returns-in_err-list_node-clause-listed c = IfOk-from_err _ _ c.from_residual.ensures.0

pub returns-in_err-list_node-clause-none : goal.returns-in_err-list_node-clause-none
returns-in_err-list_node-clause-none c = IfOk-from_err _ _ c.from_residual.ensures.0
