use Rattle.std.proofs.Common.{◌≡◌, ℕ, ◌+◌, ◌-◌, List, drop, Some, None, ap, sym, ◌∙◌, subst, arith, IfOk}
use Rattle.std.specs.Prelude.{option_map}
use Rattle.std.proofs.lemmas.List.{drop_all}
use Rattle.vx_ast.specs.declared.tree.Statement.{Statement}
use Rattle.vx_ast.specs.Tree.{Code, Block}
use Rattle.vx_ast.specs.View.{all_in, code_of, items_of, step_of, tree_of, action_of}
use Rattle.vx_limits.proofs.Views.{block_view}
use Rattle.vx_unroll.specs.Growth.{code_onto, decided_as, grown, step_cost, test_cost}
use Rattle.vx_unroll.specs.Unrolling.{block_of, exchanged, for_body, has_loop, inside, own_words, turns_of, unrolled_in, while_body}
use Rattle.vx_unroll.proofs.Falls.{drop_next, all_falls, one_falls}
use Rattle.vx_unroll.proofs.Making.{plain, items_loops, all_step, all_end, exchanged_is, for_body_is, turns_step, same_code, plain_body, body_kept, body_grown, turns_closed}
use Rattle.vx_unroll.proofs.unrolling.+unrolling.Goals as goal

pub decided-decided_all-requires : goal.decided-decided_all-requires
decided-decided_all-requires t c =
    (all_falls (code_of c.args.statement.now) c.as_slice.result.now c.in-Block.all.items t c.decreases (ap code_of c.in-Block.is ∙ block_view c.in-Block.all) c.as_slice.ensures.value, (c.requires.some, c.requires.few))

pub decided-returns-in_ok-made-in-Block-clause-code : goal.decided-returns-in_ok-made-in-Block-clause-code
decided-returns-in_ok-made-in-Block-clause-code t c =
    let w = own_words c.args.own c.args.arrays.now in
    ap (λ (z : Code). decided_as z c.in_ok-made-in-Block.made.size) (block_view c.in_ok-made-in-Block.made.all)
    ∙ ap (inside Block) c.in_ok-made-in-Block.ensures.code
    ∙ ap (λ (z : List Statement). unrolled_in c.args.more w c.args.size (Block (all_in z))) c.as_slice.ensures.value
    ∙ sym (ap (λ (z : Statement). unrolled_in c.args.more w c.args.size (code_of z)) c.in-Block.is ∙ ap (unrolled_in c.args.more w c.args.size) (block_view c.in-Block.all))

pub decided-returns-in_ok-made-in-Block-clause-loops : goal.decided-returns-in_ok-made-in-Block-clause-loops
decided-returns-in_ok-made-in-Block-clause-loops t c =
    c.in_ok-made-in-Block.ensures.loops ∙ ap (λ (z : List Statement). has_loop (all_in z)) c.as_slice.ensures.value
    ∙ sym (ap (λ (z : Statement). has_loop (code_of z)) c.in-Block.is ∙ ap has_loop (block_view c.in-Block.all))

pub decided-returns-in_ok-items-in-Declaration-clause-code : goal.decided-returns-in_ok-items-in-Declaration-clause-code
decided-returns-in_ok-items-in-Declaration-clause-code t c =
    let w = own_words c.args.own c.args.arrays.now in
    let is = c.in-Declaration.items.items in
    ap (λ (z : Code). decided_as z c.args.size) (c.in_ok-items-in-Declaration.ensures ∙ ap items_of c.as_slice-in-Declaration.ensures.value)
    ∙ sym (plain c.args.more w c.args.size (items_of is) (items_loops is))
    ∙ sym (ap (λ (z : Statement). unrolled_in c.args.more w c.args.size (code_of z)) c.in-Declaration.is)

pub decided-returns-in_ok-items-in-Declaration-clause-loops : goal.decided-returns-in_ok-items-in-Declaration-clause-loops
decided-returns-in_ok-items-in-Declaration-clause-loops t c = sym (ap (λ (z : Statement). has_loop (code_of z)) c.in-Declaration.is ∙ items_loops c.in-Declaration.items.items)

pub decided_all-decided-requires : goal.decided_all-decided-requires
decided_all-decided-requires t c = (one_falls c.args.all.now c.loop-one.one-index c.one-item.result t c.decreases c.loop-one-test.true c.one-item.is, (c.requires.some, c.requires.few))

pub decided_all-loop-one-preserved : goal.decided_all-loop-one-preserved
decided_all-loop-one-preserved t c =
    all_step c.args.more (own_words c.args.own c.args.arrays.now) c.args.size c.loop-one.reached c.in_ok-done.done.size c.loop-one.loops c.in_ok-done.done.loops c.either-loops.result c.loop-one.made.items c.append.new.made.items
    (drop c.loop-one.one-index c.args.all.now) (drop (c.loop-one.one-index + 1) c.args.all.now) c.args.all.now c.one-item.result c.in_ok-done.done.statement c.loop-one.invariant
    (drop_next c.args.all.now c.loop-one.one-index c.one-item.result c.loop-one-test.true c.one-item.is) c.in_ok-done.ensures.code c.in_ok-done.ensures.loops c.either-loops.ensures c.in_ok-append.ensures

pub decided_all-returns-clause-code : goal.decided_all-returns-clause-code
decided_all-returns-clause-code t c =
    (all_end c.args.more (own_words c.args.own c.args.arrays.now) c.args.size c.loop-one.reached c.loop-one.loops c.loop-one.made.items (drop c.loop-one.one-index c.args.all.now) c.args.all.now c.loop-one.invariant (drop_all c.loop-one.one-index c.args.all.now c.loop-one-test.false)).0

pub decided_all-returns-clause-loops : goal.decided_all-returns-clause-loops
decided_all-returns-clause-loops t c =
    (all_end c.args.more (own_words c.args.own c.args.arrays.now) c.args.size c.loop-one.reached c.loop-one.loops c.loop-one.made.items (drop c.loop-one.one-index c.args.all.now) c.args.all.now c.loop-one.invariant (drop_all c.loop-one.one-index c.args.all.now c.loop-one-test.false)).1

pub turn_copy-returns : goal.turn_copy-returns
turn_copy-returns t c =
    let w = own_words c.args.own c.args.arrays.now in
    let same : code_of c.in_ok-made.made.statement ≡ code_of c.args.body.now = same_code _ _ c.in_ok-made.made.size c.args.size (c.in_ok-made.ensures.code ∙ plain c.args.more w c.args.size (code_of c.args.body.now) c.requires.plain) in
    subst (λ (z : Code). IfOk c.turn_of.result (λ turn. code_of turn ≡ block_of z)) same c.turn_of.ensures

pub while_front-loop-turn-init : goal.while_front-loop-turn-init
while_front-loop-turn-init t c =
    let z : c.args.more - 0 ≡ c.args.more = omega arith in
    ap (λ (s : List Statement). code_onto s (turns_of (c.args.more - 0) (Some (tree_of c.args.test.now)) None (code_of c.args.body.now))) c.new-front.ensures.items ∙ ap (λ (n : ℕ). turns_of n (Some (tree_of c.args.test.now)) None (code_of c.args.body.now)) z

pub while_front-loop-turn-preserved : goal.while_front-loop-turn-preserved
while_front-loop-turn-preserved t c =
    turns_step c.loop-turn.front.items c.append.new.made.items c.put_test.new.made.items c.in_ok-turn.turn c.args.more c.loop-turn._turn (Some (tree_of c.args.test.now)) None (code_of c.args.body.now)
    (turns_of c.args.more (Some (tree_of c.args.test.now)) None (code_of c.args.body.now)) c.loop-turn-test.true c.loop-turn.invariant c.in_ok-append.ensures c.in_ok-turn.ensures c.in_ok-put_test.ensures

pub while_front-returns : goal.while_front-returns
while_front-returns t c =
    let l = c.loop-turn-test.false in
    let z : c.args.more - c.loop-turn._turn ≡ 0 = omega (arith, l) in
    sym (ap (λ (n : ℕ). code_onto c.loop-turn.front.items (turns_of n (Some (tree_of c.args.test.now)) None (code_of c.args.body.now))) z) ∙ c.loop-turn.invariant

pub while_decided-returns-in-None : goal.while_decided-returns-in-None
while_decided-returns-in-None t c =
    let w = own_words c.args.own c.args.arrays.now in
    body_kept c.args.more w c.args.size (code_of c.args.body.now) (while_body c.args.more (tree_of c.args.test.now) (code_of c.args.body.now))
    (grown c.args.more w c.args.size (code_of c.args.body.now) (step_cost None + test_cost (Some (tree_of c.args.test.now)))) (exchanged_is c.args.more w c.args.size (Some (tree_of c.args.test.now)) None (code_of c.args.body.now))
    (code_of c.in_ok-held.held.statement.value) c.in_ok-held.held.size c.in_ok-held.held.loops c.room_for.result c.in_ok-held.ensures.code c.in_ok-held.ensures.loops c.if-held.false
    (c.room_for.ensures (step_cost None + test_cost (Some (tree_of c.args.test.now))) c.while_cost.ensures) c.in-None.is

pub while_decided-returns-in_ok-statement-in-Some : goal.while_decided-returns-in_ok-statement-in-Some
while_decided-returns-in_ok-statement-in-Some t c =
    let w = own_words c.args.own c.args.arrays.now in
    let is = (exchanged_is c.args.more w c.args.size (Some (tree_of c.args.test.now)) None (code_of c.args.body.now)) in
    let g = grown c.args.more w c.args.size (code_of c.args.body.now) (step_cost None + test_cost (Some (tree_of c.args.test.now))) in
    let room = c.room_for.ensures (step_cost None + test_cost (Some (tree_of c.args.test.now))) c.while_cost.ensures in
    let same : code_of c.in_ok-held.held.statement.value ≡ code_of c.args.body.now =
    plain_body c.args.more w c.args.size (code_of c.args.body.now) (while_body c.args.more (tree_of c.args.test.now) (code_of c.args.body.now)) g is
    (code_of c.in_ok-held.held.statement.value) c.in_ok-held.held.size c.in_ok-held.held.loops c.room_for.result c.in_ok-held.ensures.code c.in_ok-held.ensures.loops c.if-held.false room in
    body_grown c.args.more w c.args.size (code_of c.args.body.now) (while_body c.args.more (tree_of c.args.test.now) (code_of c.args.body.now)) g is
    (code_of c.in_ok-held.held.statement.value) c.in_ok-held.held.size c.in_ok-held.held.loops c.room_for.result c.in_ok-held.ensures.code c.in_ok-held.ensures.loops c.if-held.false room
    (code_of c.in_ok-statement-in-Some.statement.value) c.in-Some.next c.in-Some.is
    (turns_closed c.in_ok-front-in-Some.front.items (code_of c.in_ok-held.held.statement.value) (code_of c.args.body.now) (code_of c.in_ok-statement-in-Some.statement.value) (turns_of c.args.more (Some (tree_of c.args.test.now)) None (code_of c.args.body.now))
    c.in_ok-statement-in-Some.ensures same c.in_ok-front-in-Some.ensures)

pub for_front-loop-turn-init : goal.for_front-loop-turn-init
for_front-loop-turn-init t c =
    let z : c.args.more - 0 ≡ c.args.more = omega arith in
    ap (λ (s : List Statement). code_onto s (turns_of (c.args.more - 0) (option_map tree_of c.args.test.now) (option_map action_of c.args.step.now) (code_of c.args.body.now))) c.new-front.ensures.items ∙ ap (λ (n : ℕ). turns_of n (option_map tree_of c.args.test.now) (option_map action_of c.args.step.now) (code_of c.args.body.now)) z

pub for_front-loop-turn-preserved : goal.for_front-loop-turn-preserved
for_front-loop-turn-preserved t c =
    turns_step c.loop-turn.front.items c.append.new.made.items c.put_behind.new.made.items c.in_ok-turn.turn c.args.more c.loop-turn._turn (option_map tree_of c.args.test.now) (option_map action_of c.args.step.now) (code_of c.args.body.now)
    (turns_of c.args.more (option_map tree_of c.args.test.now) (option_map action_of c.args.step.now) (code_of c.args.body.now)) c.loop-turn-test.true c.loop-turn.invariant c.in_ok-append.ensures c.in_ok-turn.ensures c.in_ok-put_behind.ensures

pub for_front-returns : goal.for_front-returns
for_front-returns t c =
    let l = c.loop-turn-test.false in
    let z : c.args.more - c.loop-turn._turn ≡ 0 = omega (arith, l) in
    sym (ap (λ (n : ℕ). code_onto c.loop-turn.front.items (turns_of n (option_map tree_of c.args.test.now) (option_map action_of c.args.step.now) (code_of c.args.body.now))) z) ∙ c.loop-turn.invariant

pub for_decided-returns-in-None : goal.for_decided-returns-in-None
for_decided-returns-in-None t c =
    let w = own_words c.args.own c.args.arrays.now in
    body_kept c.args.more w c.args.size (code_of c.args.body.now) (for_body c.args.more (option_map tree_of c.args.test.now) (step_of c.args.step.now) (code_of c.args.body.now))
    (grown c.args.more w c.args.size (code_of c.args.body.now) (step_cost (option_map action_of c.args.step.now) + test_cost (option_map tree_of c.args.test.now))) (ap (exchanged w c.args.size (code_of c.args.body.now)) (for_body_is c.args.more (option_map tree_of c.args.test.now) c.args.step.now (code_of c.args.body.now)) ∙ exchanged_is c.args.more w c.args.size (option_map tree_of c.args.test.now) (option_map action_of c.args.step.now) (code_of c.args.body.now))
    (code_of c.in_ok-held.held.statement.value) c.in_ok-held.held.size c.in_ok-held.held.loops c.room_for.result c.in_ok-held.ensures.code c.in_ok-held.ensures.loops c.if-held.false
    (c.room_for.ensures (step_cost (option_map action_of c.args.step.now) + test_cost (option_map tree_of c.args.test.now)) c.for_cost.ensures) c.in-None.is

pub for_decided-returns-in_ok-statement-in-Some : goal.for_decided-returns-in_ok-statement-in-Some
for_decided-returns-in_ok-statement-in-Some t c =
    let w = own_words c.args.own c.args.arrays.now in
    let is = (ap (exchanged w c.args.size (code_of c.args.body.now)) (for_body_is c.args.more (option_map tree_of c.args.test.now) c.args.step.now (code_of c.args.body.now)) ∙ exchanged_is c.args.more w c.args.size (option_map tree_of c.args.test.now) (option_map action_of c.args.step.now) (code_of c.args.body.now)) in
    let g = grown c.args.more w c.args.size (code_of c.args.body.now) (step_cost (option_map action_of c.args.step.now) + test_cost (option_map tree_of c.args.test.now)) in
    let room = c.room_for.ensures (step_cost (option_map action_of c.args.step.now) + test_cost (option_map tree_of c.args.test.now)) c.for_cost.ensures in
    let same : code_of c.in_ok-held.held.statement.value ≡ code_of c.args.body.now =
    plain_body c.args.more w c.args.size (code_of c.args.body.now) (for_body c.args.more (option_map tree_of c.args.test.now) (step_of c.args.step.now) (code_of c.args.body.now)) g is
    (code_of c.in_ok-held.held.statement.value) c.in_ok-held.held.size c.in_ok-held.held.loops c.room_for.result c.in_ok-held.ensures.code c.in_ok-held.ensures.loops c.if-held.false room in
    body_grown c.args.more w c.args.size (code_of c.args.body.now) (for_body c.args.more (option_map tree_of c.args.test.now) (step_of c.args.step.now) (code_of c.args.body.now)) g is
    (code_of c.in_ok-held.held.statement.value) c.in_ok-held.held.size c.in_ok-held.held.loops c.room_for.result c.in_ok-held.ensures.code c.in_ok-held.ensures.loops c.if-held.false room
    (code_of c.in_ok-statement-in-Some.statement.value) c.in-Some.next c.in-Some.is
    (turns_closed c.in_ok-front-in-Some.front.items (code_of c.in_ok-held.held.statement.value) (code_of c.args.body.now) (code_of c.in_ok-statement-in-Some.statement.value) (turns_of c.args.more (option_map tree_of c.args.test.now) (option_map action_of c.args.step.now) (code_of c.args.body.now))
    c.in_ok-statement-in-Some.ensures same c.in_ok-front-in-Some.ensures ∙ sym (for_body_is c.args.more (option_map tree_of c.args.test.now) c.args.step.now (code_of c.args.body.now)))
