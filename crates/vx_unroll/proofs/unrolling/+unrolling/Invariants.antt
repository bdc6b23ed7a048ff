use Rattle.std.proofs.Common.{◌≡◌, ◌+◌, ◌-◌, ◌*◌, drop, Some, None}
use Rattle.std.specs.Prelude.{option_map}
use Rattle.vx_ast.specs.Accepted.{code_nodes}
use Rattle.vx_ast.specs.View.{all_in, code_of, tree_of, action_of}
use Rattle.vx_unroll.specs.Growth.{code_onto}
use Rattle.vx_unroll.specs.Unrolling.{own_words, turns_of}
use Rattle.vx_unroll.proofs.Making.{AllSo}
use Rattle.vx_unroll.proofs.unrolling.+unrolling.Given as goal

abbrev pub invariant-decided_all-loop-one : goal.invariant-decided_all-loop-one
invariant-decided_all-loop-one l = AllSo l.fn.more (own_words l.fn.own l.fn.arrays) l.fn.size l.reached l.loops l.made.items (drop l.one-index l.fn.all) l.fn.all

abbrev pub invariant-while_front-loop-turn : goal.invariant-while_front-loop-turn
invariant-while_front-loop-turn l = code_onto l.front.items (turns_of (l.fn.more - l._turn) (Some (tree_of l.fn.test)) None (code_of l.fn.body)) ≡ turns_of l.fn.more (Some (tree_of l.fn.test)) None (code_of l.fn.body)

abbrev pub invariant-for_front-loop-turn : goal.invariant-for_front-loop-turn
invariant-for_front-loop-turn l = code_onto l.front.items (turns_of (l.fn.more - l._turn) (option_map tree_of l.fn.test) (option_map action_of l.fn.step) (code_of l.fn.body)) ≡ turns_of l.fn.more (option_map tree_of l.fn.test) (option_map action_of l.fn.step) (code_of l.fn.body)

abbrev pub decreases-decided : goal.decreases-decided
decreases-decided l = 8 * code_nodes (code_of l.statement.now)

abbrev pub decreases-decided_held : goal.decreases-decided_held
decreases-decided_held l = 8 * code_nodes (code_of l.statement.now) + 1

abbrev pub decreases-decided_all : goal.decreases-decided_all
decreases-decided_all l = 8 * code_nodes (all_in l.all.now) + 1

abbrev pub decreases-decided_behind : goal.decreases-decided_behind
decreases-decided_behind l = 8 * code_nodes (code_of l.right.now) + 2

abbrev pub decreases-turn_copy : goal.decreases-turn_copy
decreases-turn_copy l = 8 * code_nodes (code_of l.body.now) + 1

abbrev pub decreases-while_front : goal.decreases-while_front
decreases-while_front l = 8 * code_nodes (code_of l.body.now) + 2

abbrev pub decreases-for_front : goal.decreases-for_front
decreases-for_front l = 8 * code_nodes (code_of l.body.now) + 2

abbrev pub decreases-while_decided : goal.decreases-while_decided
decreases-while_decided l = 8 * code_nodes (code_of l.body.now) + 3

abbrev pub decreases-for_decided : goal.decreases-for_decided
decreases-for_decided l = 8 * code_nodes (code_of l.body.now) + 3
