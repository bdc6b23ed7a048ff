use Rattle.std.proofs.Common.{◌≡◌, ◌∷◌, ◌+◌, suc, arith, Bool, List, drop, drop-cons, get_or, length, subst, sym}
use Rattle.std.proofs.lemmas.List.{drop_all}
use Rattle.vx_flow.specs.declared.graph.Edge.{Edge}
use Rattle.vx_flow.proofs.HeaderSteps.{Targets, targets_first, targets_last, targets_step}
use Rattle.vx_flow.proofs.header_blocks.mark_targets.Goals as goal

pub loop-edge-preserved : goal.loop-edge-preserved
loop-edge-preserved c =
    let marks = c.loop-edge.targets.items in
    let edges = c.args.edges.now in
    let place = c.loop-edge.edge-index in
    let n = length c.args.targets.now.items in
    let none : Edge = record { from = 0; to = 0 } in
    let h : Targets marks edges (get_or edges place none ∷ drop (suc place) edges) n = subst (λ (l : List Edge). Targets marks edges l n) (drop-cons edges place none c.loop-edge-test.true) c.loop-edge.invariant in
    let k : suc place ≡ place + 1 = omega arith in
    subst (λ j. Targets c.mark_target.new.targets.items edges (drop j edges) n) k
    (subst (λ (m : List Bool). Targets m edges (drop (suc place) edges) n) (sym c.mark_target.ensures) (targets_step marks edges (drop (suc place) edges) n (get_or edges place none) h))

pub loop-edge-init : goal.loop-edge-init
loop-edge-init c = targets_first c.args.targets.now.items c.args.edges.now c.requires

pub returns : goal.returns
returns c =
    let n = length c.args.targets.now.items in
    targets_last c.loop-edge.targets.items c.args.edges.now n
    (subst (λ (l : List Edge). Targets c.loop-edge.targets.items c.args.edges.now l n) (drop_all c.loop-edge.edge-index c.args.edges.now c.loop-edge-test.false) c.loop-edge.invariant)
