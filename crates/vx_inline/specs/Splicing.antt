-- The blocks before there are blocks for edges, by what they are made from.
use Rattle.std.specs.Prelude.{◌≡◌, ◌==◌, ◌++◌, ℕ, suc, if◌then◌else◌, map, slice_get, slice_set, Option, Some, None, List, [], ◌∷◌}
use Rattle.std.specs.List.{filter}
use Rattle.vx_base.specs.declared.outcome.Trap.{Trap}
use Rattle.vx_flow.specs.declared.graph.Operand.{Operand}
use Rattle.vx_flow.specs.declared.graph.Op.{Op}
use Rattle.vx_flow.specs.declared.graph.Exit.{Exit}
use Rattle.vx_flow.specs.declared.graph.Exit.TheVariants.{Goto, Split, Call, Return, Ends}
use Rattle.vx_flow.specs.declared.graph.Block.{Block}
use Rattle.vx_flow.specs.Operands.{with_value_in}
use Rattle.vx_inline.specs.declared.splice.Splice.{Splice}
use Rattle.vx_inline.specs.declared.joint.Joint.{Joint}
use Rattle.vx_inline.specs.declared.site.Site.{Site}
use Rattle.vx_flow.specs.declared.graph.Bank.{Bank}
use Rattle.vx_flow.specs.declared.graph.Flow.{Flow}
use Rattle.vx_flow.specs.declared.graph.Graph.{Graph}
use Rattle.vx_inline.specs.Inlined.{TheCall, CallAt, IsPermitted, all_kinds, all_plain, callee_at, caller_at, copied, is_plain, move, moves_in, moves_out, stayed, taken}
use Rattle.vx_inline.specs.Inlining.{linked_by, with_graph}
use Rattle.vx_inline.specs.Placing.{place_in}
use Rattle.vx_inline.specs.Taking.{value_at}

-- the move of an argument, if there is one
abbrev pub move_at : ℕ → Option Operand → List Op
move_at to None = []
move_at to (Some x) = move to x ∷ []

-- what a copy does behind its operations
abbrev pub back_moves : (ℕ → ℕ) → Option ℕ → Exit → List Op
back_moves to taker (Goto c) = []
back_moves to taker (Split p c d) = []
back_moves to taker (Call f arguments v c) = []
back_moves to taker (Return x) = moves_out taker (with_value_in to x)
back_moves to taker (Ends k) = []

-- where it goes
abbrev pub back_exit : (copy to : ℕ → ℕ) → (back : ℕ) → Exit → Exit
back_exit copy to back (Goto c) = Goto (copy c)
back_exit copy to back (Split p c d) = Split (to p) (copy c) (copy d)
back_exit copy to back (Call f arguments v c) = Call f arguments v (copy c)
back_exit copy to back (Return x) = Goto back
back_exit copy to back (Ends k) = Ends k

abbrev pub trap_block : Trap → Block
trap_block k = record { ops = []; exit = Ends k }

abbrev pub copied_by : Splice → Block → Block
copied_by s block = copied (place_in s.copy.now) (value_at s.to.now) s.call.now.result (place_in s.at.now s.call.now.next) block

abbrev pub added_by : Splice → List Block
added_by s = filter is_plain (map (copied_by s) s.call.now.callee.now.blocks) ++ map trap_block s.kinds.now

-- ---- what comes into the caller

-- the copies of the blocks of the callee, and the trap blocks
abbrev pub added : TheCall → (to : ℕ → ℕ) → List Block
added c to = filter is_plain (map (copied (callee_at c) to c.result (caller_at c c.next)) c.callee.blocks) ++ map trap_block (all_kinds c)

pub record IsJoint (c : TheCall) (to : ℕ → ℕ) (joint : Joint) : Type 0 where
  pub at : (b : ℕ) → place_in joint.at b ≡ caller_at c b
  pub moves : joint.moves ≡ moves_in to c.callee.parameters c.arguments
  pub first : joint.first ≡ callee_at c 0
  pub more : joint.more ≡ added c to
  pub all : joint.all ≡ all_plain c

-- what comes into the caller of a permitted site
abbrev pub IsJointAt : Flow → Site → Joint → Type 0
IsJointAt flow site joint = (c : CallAt flow site) (free : Bank → List ℕ) → IsPermitted flow site c free → IsJoint c.parts (taken c.parts.callee free) joint

-- ---- the blocks of the caller, where that comes into it

abbrev pub placed_block : Joint → (site b : ℕ) → Block → Block
placed_block joint site b block = if b == site then record { ops = block.ops ++ joint.moves; exit = Goto joint.first } else stayed (place_in joint.at) block

-- from block b on
abbrev pub placed_from : Joint → (site b : ℕ) → List Block → List Block
placed_from joint site b [] = []
placed_from joint site b (block ∷ blocks) = placed_block joint site b block ∷ placed_from joint site (suc b) blocks

abbrev pub with_joint : Joint → (site : ℕ) → List Block → List Block
with_joint joint site blocks = linked_by joint.all (filter is_plain (placed_from joint site 0 blocks) ++ joint.more)

-- ---- the flow

abbrev pub joined_graph : Joint → Site → Graph → Graph
joined_graph joint site graph = record graph { blocks = with_joint joint site.block graph.blocks }

abbrev pub AreWithJoint : List Graph → Site → Joint → List Graph → Type 0
AreWithJoint graphs site joint new = (graph : Graph) → slice_get graphs site.function ≡ Some graph → new ≡ slice_set graphs site.function (joined_graph joint site graph)

abbrev pub IsWithJoint : Flow → Site → Joint → Flow → Type 0
IsWithJoint flow site joint new = (graph : Graph) → slice_get flow.functions site.function ≡ Some graph → new ≡ with_graph flow site.function (joined_graph joint site graph)
