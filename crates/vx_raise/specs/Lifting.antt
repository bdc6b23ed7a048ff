-- Any operation of a block, or of two, raised past those before it in its block, and a row of such moves, tested by what is live in the graph
-- that came: what is live where is not found anew behind each move.
use Rattle.std.specs.Prelude.{◌≡◌, ℕ, zero, suc, ◌==◌, Bool, true, false, ◌&&◌, ◌||◌, not, if◌then◌else◌, Option, Some, None, List, [], ◌∷◌, ◌++◌, slice_get}
use Rattle.std.specs.List.{list_any}
use Rattle.vx_flow.specs.declared.graph.Op.{Op}
use Rattle.vx_flow.specs.declared.graph.Array.{Array}
use Rattle.vx_flow.specs.declared.graph.Block.{Block}
use Rattle.vx_flow.specs.declared.graph.Graph.{Graph}
use Rattle.vx_flow.specs.Effects.{dismissed}
use Rattle.vx_flow.specs.Live.{IsLive}
use Rattle.vx_flow.specs.Rows.{lives}
use Rattle.vx_raise.specs.declared.known.Known.{Known}
use Rattle.vx_raise.specs.declared.known.Move.{Move}
use Rattle.vx_raise.specs.declared.known.Noted.{Noted}
use Rattle.vx_raise.specs.Raising.{is_either, leads_to, result_of, same_ops, result_of_first, may_raise}
use Rattle.vx_raise.specs.Exchanging.{may_pass}
use Rattle.vx_raise.specs.Moving.{GraphMoved}

-- ---- the graph

abbrev pub without : ℕ → List Op → List Op
without k [] = []
without zero (op ∷ ops) = ops
without (suc k) (op ∷ ops) = op ∷ without k ops

-- the blocks from which a move raises
abbrev pub blocks_of : Move → ℕ → Bool
blocks_of m = is_either m.block m.other

-- block i without the operation where it is one of those
abbrev pub ops_left : Move → (i : ℕ) → List Op → List Op
ops_left m i ops = if i == m.block then without m.place ops else (if i == m.other then without m.other_place ops else ops)

-- and with the operation at its end where it leads to one
abbrev pub lifted_block : Move → Op → (i : ℕ) → Block → Block
lifted_block m op i block = record { ops = ops_left m i block.ops ++ (if leads_to (blocks_of m) block.exit then dismissed op ∷ [] else []); exit = block.exit }

-- from block i on
abbrev pub lifted_blocks : Move → Op → (i : ℕ) → List Block → List Block
lifted_blocks m op i [] = []
lifted_blocks m op i (block ∷ blocks) = lifted_block m op i block ∷ lifted_blocks m op (suc i) blocks

abbrev pub op_in : ℕ → Option Block → Option Op
op_in k None = None
op_in k (Some block) = slice_get block.ops k

abbrev pub op_at : Graph → (b k : ℕ) → Option Op
op_at g b k = op_in k (slice_get g.blocks b)

-- the operation that a move raises
abbrev pub op_of : Graph → Move → Option Op
op_of g m = op_at g m.block m.place

abbrev pub lifted_by : Graph → Move → Option Op → Graph
lifted_by g m None = g
lifted_by g m (Some op) = record g { blocks = lifted_blocks m op 0 g.blocks }

-- the graph in which the operation ends each block that leads to where it stood
abbrev pub lifted : Graph → Move → Graph
lifted g m = lifted_by g m (op_of g m)

-- ---- when it may be

-- the operation may pass each of the first k
abbrev pub passes : List Array → Op → ℕ → List Op → Bool
passes arrays op zero ops = true
passes arrays op (suc k) [] = false
passes arrays op (suc k) (x ∷ ops) = may_pass arrays x op && passes arrays op k ops

abbrev pub passes_in : List Array → Op → ℕ → Option Block → Bool
passes_in arrays op k None = false
passes_in arrays op k (Some block) = passes arrays op k block.ops

abbrev pub passes_at : Graph → (b k : ℕ) → Option Op → Bool
passes_at g b k None = false
passes_at g b k (Some op) = passes_in g.arrays op k (slice_get g.blocks b)

-- it may pass what stands before it in the other block too, and is one there; of one block alone there is nothing to ask
abbrev pub is_in_both : Graph → Move → Bool
is_in_both g m = (m.block == m.other) || (same_ops (op_of g m) (op_at g m.other m.other_place) && passes_at g m.other m.other_place (op_at g m.other m.other_place))

abbrev pub can_lift_op : (live : (block value : ℕ) → Bool) → Graph → Move → Option Op → Bool
can_lift_op live g m None = false
can_lift_op live g m (Some op) = passes_in g.arrays op m.place (slice_get g.blocks m.block) && may_raise live g (blocks_of m) (result_of op)

abbrev pub can_lift : (live : (block value : ℕ) → Bool) → Graph → Move → Bool
can_lift live g m = not (blocks_of m 0) && is_in_both g m && can_lift_op live g m (op_of g m)

-- ---- rows of moves

abbrev pub all_lifted : Graph → List Move → Graph
all_lifted g [] = g
all_lifted g (m ∷ ms) = all_lifted (lifted g m) ms

-- what may be live behind a move: the value besides at the blocks that lost their operation
abbrev pub live_behind : (live : (block value : ℕ) → Bool) → (from : ℕ → Bool) → Option ℕ → ℕ → ℕ → Bool
live_behind live from None c u = live c u
live_behind live from (Some v) c u = (from c && (u == v)) || live c u

abbrev pub can_lift_all : (live : (block value : ℕ) → Bool) → Graph → List Move → Bool
can_lift_all live g [] = true
can_lift_all live g (m ∷ ms) = can_lift live g m && can_lift_all (live_behind live (blocks_of m) (result_of_first (op_of g m))) (lifted g m) ms

-- a row that passes the test is steps of raising and of exchanging
abbrev pub LiftedMoved : Type 0
LiftedMoved = (live : (block value : ℕ) → Bool) (g : Graph) (moves : List Move) → ((c v : ℕ) → IsLive g c v → live c v ≡ true) → can_lift_all live g moves ≡ true → GraphMoved g (all_lifted g moves)

-- ---- what may be live, as it is kept from move to move: what was live before, and what is noted besides

abbrev pub is_noted : List Noted → ℕ → ℕ → Bool
is_noted noted b v = list_any (λ n. (b == n.block) && (v == n.value)) noted

abbrev pub known_at : (rows : List (List ℕ)) → List Noted → ℕ → ℕ → Bool
known_at rows noted b v = is_noted noted b v || lives rows b v

-- what is noted behind a move of an operation that writes v
abbrev pub noted_of : Move → ℕ → List Noted
noted_of m v = record { block = m.block; value = v } ∷ record { block = m.other; value = v } ∷ []

-- an operation, which writes v, may be raised where so much is known to be live, and is
pub record RaisesOne (rows : List (List ℕ)) (noted : List Noted) (old : Graph) (m : Move) (v : ℕ) (new : Graph) : Type 0 where
  pub can : can_lift (known_at rows noted) old m ≡ true
  pub writes : result_of_first (op_of old m) ≡ Some v
  pub is : new ≡ lifted old m

-- the graph came by steps from a first one, and what is live in it is known
pub record Standing (start : Graph) (rows : List (List ℕ)) (noted : List Noted) (g : Graph) : Type 0 where
  pub moved : GraphMoved start g
  pub covers : (c v : ℕ) → IsLive g c v → known_at rows noted c v ≡ true

-- so it is of the next graph, with what is known then
abbrev pub StandsStill : (before after : Known) → (old new : Graph) → Type 0
StandsStill before after old new = (start : Graph) → Standing start before.live before.noted old → Standing start after.live after.noted new
