-- A flow in which one call is inlined: which calls may be, which values of the caller those of the callee take, and the flow that
-- comes out.
use Rattle.std.specs.Prelude.{◌≡◌, ◌<◌, ◌≤◌, ◌+◌, ◌==◌, ◌&&◌, ◌↔◌, ℕ, suc, pos, Bool, true, not, nat_lt, if◌then◌else◌, Option, Some, None, List, [], ◌∷◌, ◌++◌, length, map, take, drop, slice_get, slice_set}
use Rattle.std.specs.List.{list_any, flat_map, filter}
use Rattle.vx_base.specs.declared.arithmetic.Code.TheVariants.{Mov}
use Rattle.vx_base.specs.declared.outcome.Trap.{Trap}
use Rattle.vx_base.specs.declared.outcome.Trap.TheVariants.{Divide, Index, Input, Depth}
use Rattle.vx_flow.specs.declared.graph.Operand.{Operand}
use Rattle.vx_flow.specs.declared.graph.Operand.TheVariants.{Number}
use Rattle.vx_flow.specs.declared.graph.Bank.{Bank}
use Rattle.vx_flow.specs.declared.graph.Bank.TheVariants.{General}
use Rattle.vx_flow.specs.declared.graph.Op.{Op}
use Rattle.vx_flow.specs.declared.graph.Op.TheVariants.{Compute, Place, Base, PlaceIn}
use Rattle.vx_flow.specs.declared.graph.Exit.{Exit}
use Rattle.vx_flow.specs.declared.graph.Exit.TheVariants.{Goto, Split, Call, Return, Ends}
use Rattle.vx_flow.specs.declared.graph.Block.{Block}
use Rattle.vx_flow.specs.declared.graph.Array.{Array}
use Rattle.vx_flow.specs.declared.graph.Graph.{Graph}
use Rattle.vx_flow.specs.declared.graph.Flow.{Flow}
use Rattle.vx_flow.specs.declared.graph.Edge.{Edge}
use Rattle.vx_flow.specs.Effects.{IsIn, value_in, reads, writes}
use Rattle.vx_flow.specs.Live.{IsLive, reads_of_exit}
use Rattle.vx_flow.specs.Operands.{with_value_in, with_values, value_list}
use Rattle.vx_flow.specs.Sound.{HasOperation, HasExit, Has, IsBase, is_bank, is_local, targets_of, results_of_exit}
use Rattle.vx_flow.specs.Walk.{ascending, edge, numbers}
use Rattle.vx_inline.specs.declared.site.Site.{Site}
use Rattle.vx_shape.specs.Flows.{with_graphs}
use Rattle.vx_shape.specs.ShapeTest.{is_none_left, is_trap, is_trap_of}

-- ---- calls

-- some block of function f calls function g
pub record CallsTo (flow : Flow) (f g : ℕ) : Type 0 where
  pub graph : Graph
  pub is : slice_get flow.functions f ≡ Some graph
  pub arguments : List Operand
  pub result : Option ℕ
  pub next : ℕ
  pub has : HasExit graph (Call g arguments result next)

-- directly, or through others
pub data Reaches (flow : Flow) : ℕ → ℕ → Type 0 where
  calls : {f g : ℕ} → CallsTo flow f g → Reaches flow f g
  through : {f g h : ℕ} → CallsTo flow f g → Reaches flow g h → Reaches flow f h

abbrev pub OnCycle : Flow → ℕ → Type 0
OnCycle flow f = Reaches flow f f

-- ---- the site

-- a block that calls, its call, and the graphs of the caller and of the callee
pub record TheCall : Type 0 where
  pub caller : Graph
  pub block : Block
  pub called : ℕ
  pub arguments : List Operand
  pub result : Option ℕ
  pub next : ℕ
  pub callee : Graph

-- these are those of a site
pub record CallAt (flow : Flow) (site : Site) : Type 0 where
  pub parts : TheCall
  pub is_caller : slice_get flow.functions site.function ≡ Some parts.caller
  pub is_block : slice_get parts.caller.blocks site.block ≡ Some parts.block
  pub ends : parts.block.exit ≡ Call parts.called parts.arguments parts.result parts.next
  pub is_callee : slice_get flow.functions parts.called ≡ Some parts.callee

-- ---- values

abbrev pub is_among : List ℕ → ℕ → Bool
is_among vs v = list_any (λ u. u == v) vs

abbrev pub named_by : Block → List ℕ
named_by block = flat_map (λ op. reads op ++ writes op) block.ops ++ (reads_of_exit block.exit ++ results_of_exit block.exit)

-- the values that a graph names, its parameters among them
abbrev pub names : Graph → List ℕ
names g = g.parameters ++ flat_map named_by g.blocks

-- those of a bank, ascending
abbrev pub named : Graph → Bank → List ℕ
named g bank = filter (λ v. is_bank bank (slice_get g.banks v) && is_among (names g) v) (numbers 0 (length g.banks))

-- a value of the caller is free where the call is
pub record IsFree (c : TheCall) (v : ℕ) : Type 0 where
  pub dead : IsLive c.caller c.next v → ⊥
  pub argument : IsIn v (flat_map value_in c.arguments) → ⊥
  pub result : c.result ≡ Some v → ⊥
  pub place : (a : ℕ) (i : Operand) → HasOperation c.caller (Place v a i) → is_local c.caller.arrays a ≡ true → ⊥
  pub place_by : (a u : ℕ) (i : Operand) → HasOperation c.caller (PlaceIn v a u i) → ⊥
  pub base : IsBase c.caller v → ⊥

abbrev pub Ascends : List ℕ → Type 0
Ascends [] = Unit {0}
Ascends (v ∷ vs) = ((u : ℕ) → IsIn u vs → v < u) × Ascends vs

-- the free values of a bank, ascending
pub record AreFree (c : TheCall) (bank : Bank) (free : List ℕ) : Type 0 where
  pub ascends : Ascends free
  pub exact : (v : ℕ) → IsIn v free ↔ (Has c.caller v bank × IsFree c v)

-- ---- when the call may be inlined

pub record IsPermitted (flow : Flow) (site : Site) (c : CallAt flow site) (free : Bank → List ℕ) : Type 0 where
  -- the caller is on no cycle of calls, and no function on one calls it, directly or through others
  pub alone : OnCycle flow site.function → ⊥
  pub apart : (f : ℕ) → OnCycle flow f → Reaches flow f site.function → ⊥
  -- the callee has no call, makes no base, and has no array but globals. One that was handed over is none: accesses to it name it by
  -- the base that the callee is entered with, which the caller has for another of its arrays, if for any
  pub calls_none : (f next : ℕ) (arguments : List Operand) (result : Option ℕ) → HasExit c.parts.callee (Call f arguments result next) → ⊥
  pub bases_none : (v a : ℕ) (x : Operand) → HasOperation c.parts.callee (Base v a x) → ⊥
  pub globals_alone : (a : ℕ) (array : Array) → slice_get c.parts.callee.arrays a ≡ Some array → array.global ≡ true
  -- of each bank there are as many free values as the callee names
  pub are_free : (bank : Bank) → AreFree c.parts bank (free bank)
  pub enough : (bank : Bank) → length (named c.parts.callee bank) ≤ length (free bank)
  -- blocks stay short
  pub caller_short : length c.parts.block.ops + length c.parts.arguments ≤ 512
  pub callee_short : (b : ℕ) (block : Block) (x : Operand) → slice_get c.parts.callee.blocks b ≡ Some block → block.exit ≡ Return x → length block.ops + length (value_list c.parts.result) ≤ 512

pub record Permitted (flow : Flow) (site : Site) : Type 0 where
  pub call : CallAt flow site
  pub free : Bank → List ℕ
  pub permitted : IsPermitted flow site call free

-- ---- what each value of the callee takes

-- what stands beside v in two lists; v itself where nothing does
abbrev pub beside : List ℕ → List ℕ → ℕ → ℕ
beside [] ys v = v
beside (x ∷ xs) [] v = v
beside (x ∷ xs) (y ∷ ys) v = if v == x then y else beside xs ys v

abbrev pub bank_of : Option Bank → Bank
bank_of None = General
bank_of (Some bank) = bank

abbrev pub taken : Graph → (Bank → List ℕ) → ℕ → ℕ
taken callee free v = beside (named callee (bank_of (slice_get callee.banks v))) (free (bank_of (slice_get callee.banks v))) v

-- ---- where blocks stand

abbrev pub is_plain : Block → Bool
is_plain block = not (is_trap block.exit && is_none_left block.ops)

-- the kinds of trap blocks that there are, by kind
abbrev pub kinds_of : List Block → List Trap
kinds_of blocks = filter (λ k. list_any (λ (block : Block). is_trap_of k block.exit && is_none_left block.ops) blocks) (Divide ∷ Index ∷ Input ∷ Depth ∷ [])

abbrev pub kind_place : List Trap → Exit → ℕ
kind_place [] exit = 0
kind_place (k ∷ ks) exit = if is_trap_of k exit then 0 else suc (kind_place ks exit)

abbrev pub plain_before : List Block → ℕ → ℕ
plain_before blocks b = length (filter is_plain (take b blocks))

-- from a first place on the blocks that are no trap blocks, in their order; from another on the trap blocks, one for each kind
abbrev pub placed_as : (first traps : ℕ) → List Trap → List Block → ℕ → Option Block → ℕ
placed_as first traps kinds blocks b None = first + plain_before blocks b
placed_as first traps kinds blocks b (Some block) = if is_plain block then first + plain_before blocks b else traps + kind_place kinds block.exit

abbrev pub placed : (first traps : ℕ) → List Trap → List Block → ℕ → ℕ
placed first traps kinds blocks b = placed_as first traps kinds blocks b (slice_get blocks b)

-- ---- the blocks

-- with each target moved
abbrev pub moved : (ℕ → ℕ) → Exit → Exit
moved at (Goto c) = Goto (at c)
moved at (Split p c d) = Split p (at c) (at d)
moved at (Call f arguments result c) = Call f arguments result (at c)
moved at (Return x) = Return x
moved at (Ends k) = Ends k

abbrev pub move : ℕ → Operand → Op
move v x = Compute Mov v x (Number (pos 0))

-- the arguments into what the parameters take
abbrev pub moves_in : (ℕ → ℕ) → (parameters : List ℕ) → List Operand → List Op
moves_in to [] xs = []
moves_in to (q ∷ qs) [] = []
moves_in to (q ∷ qs) (x ∷ xs) = move (to q) x ∷ moves_in to qs xs

abbrev pub moves_out : Option ℕ → Operand → List Op
moves_out None x = []
moves_out (Some v) x = move v x ∷ []

-- a block of the caller
abbrev pub stayed : (ℕ → ℕ) → Block → Block
stayed at block = record { ops = block.ops; exit = moved at block.exit }

-- the block that called
abbrev pub entering : (ℕ → ℕ) → (parameters : List ℕ) → List Operand → (first : ℕ) → List Op → Block
entering to parameters arguments first ops = record { ops = ops ++ moves_in to parameters arguments; exit = Goto first }

-- a block of the callee; one that returns goes back to a block of the caller
abbrev pub copied_as : (copy to : ℕ → ℕ) → Option ℕ → (back : ℕ) → List Op → Exit → Block
copied_as copy to result back ops (Goto c) = record { ops = ops; exit = Goto (copy c) }
copied_as copy to result back ops (Split p c d) = record { ops = ops; exit = Split (to p) (copy c) (copy d) }
copied_as copy to result back ops (Call f arguments v c) = record { ops = ops; exit = Call f arguments v (copy c) }
copied_as copy to result back ops (Return x) = record { ops = ops ++ moves_out result (with_value_in to x); exit = Goto back }
copied_as copy to result back ops (Ends k) = record { ops = ops; exit = Ends k }

abbrev pub copied : (copy to : ℕ → ℕ) → Option ℕ → (back : ℕ) → Block → Block
copied copy to result back block = copied_as copy to result back (map (with_values to) block.ops) block.exit

-- the blocks of the caller from block b on, with another in place of the site's
abbrev pub stayed_all : (ℕ → ℕ) → Block → (site b : ℕ) → List Block → List Block
stayed_all at new site b [] = []
stayed_all at new site b (block ∷ blocks) = (if b == site then new else stayed at block) ∷ stayed_all at new site (suc b) blocks

-- those of the caller, those of the callee, the trap blocks
abbrev pub spliced : (at copy to : ℕ → ℕ) → List Trap → TheCall → (site : ℕ) → List Block
spliced at copy to kinds c site =
    filter is_plain (stayed_all at (entering to c.callee.parameters c.arguments (copy 0) c.block.ops) site 0 c.caller.blocks) ++
    (filter is_plain (map (copied copy to c.result (at c.next)) c.callee.blocks) ++ map (λ k. record { ops = []; exit = Ends k }) kinds)

-- ---- edge blocks

-- the two blocks, ascending, to which an exit leads that leads to two
abbrev pub sides : Exit → List ℕ
sides (Goto c) = []
sides (Split p c d) = if c == d then [] else ascending c d
sides (Call f arguments result c) = []
sides (Return x) = []
sides (Ends k) = []

-- how many blocks lead to block c
abbrev pub entries : List Block → ℕ → ℕ
entries blocks c = length (filter (λ block. is_among (targets_of block.exit) c) blocks)

-- the edges from a block with two successors to one with two predecessors or more, from block b on, ascending
abbrev pub critical : List Block → ℕ → List Block → List Edge
critical all b [] = []
critical all b (block ∷ blocks) = map (edge b) (filter (λ c. nat_lt 1 (entries all c)) (sides block.exit)) ++ critical all (suc b) blocks

-- where block c stands behind `count` blocks put in at a place
abbrev pub behind : (place count : ℕ) → ℕ → ℕ
behind place count c = if nat_lt c place then c else c + count

-- the block of this edge, where the blocks of edges stand from a place on; else another
abbrev pub edge_block : (b c place : ℕ) → List Edge → (other : ℕ) → ℕ
edge_block b c place [] other = other
edge_block b c place (e ∷ es) other = if (e.from == b) && (e.to == c) then place else edge_block b c (suc place) es other

-- an exit of block b, where blocks stand behind those of edges; an edge of a split that has a block of its own goes over it
abbrev pub relinked_exit : (place : ℕ) → List Edge → (b : ℕ) → Exit → Exit
relinked_exit place es b (Goto c) = Goto (behind place (length es) c)
relinked_exit place es b (Split p c d) = Split p (edge_block b c place es (behind place (length es) c)) (edge_block b d place es (behind place (length es) d))
relinked_exit place es b (Call f arguments result c) = Call f arguments result (behind place (length es) c)
relinked_exit place es b (Return x) = Return x
relinked_exit place es b (Ends k) = Ends k

-- the blocks from block b on
abbrev pub relinked : (place : ℕ) → List Edge → ℕ → List Block → List Block
relinked place es b [] = []
relinked place es b (block ∷ blocks) = record block { exit = relinked_exit place es b block.exit } ∷ relinked place es (suc b) blocks

-- with a block for each of these edges at a place
abbrev pub with_edges : (place : ℕ) → List Edge → List Block → List Block
with_edges place es blocks = relinked place es 0 (take place blocks) ++ (map (λ (e : Edge). record { ops = []; exit = Goto (behind place (length es) e.to) }) es ++ drop place blocks)

-- ---- the flow

abbrev pub callers_plain : TheCall → ℕ
callers_plain c = length (filter is_plain c.caller.blocks)

abbrev pub all_plain : TheCall → ℕ
all_plain c = callers_plain c + length (filter is_plain c.callee.blocks)

abbrev pub all_kinds : TheCall → List Trap
all_kinds c = kinds_of (c.caller.blocks ++ c.callee.blocks)

-- where the blocks of the caller and those of the callee stand, before there are blocks for edges

abbrev pub caller_at : TheCall → ℕ → ℕ
caller_at c = placed 0 (all_plain c) (all_kinds c) c.caller.blocks

abbrev pub callee_at : TheCall → ℕ → ℕ
callee_at c = placed (callers_plain c) (all_plain c) (all_kinds c) c.callee.blocks

abbrev pub joined : TheCall → (site : ℕ) → (Bank → List ℕ) → List Block
joined c site free = spliced (caller_at c) (callee_at c) (taken c.callee free) (all_kinds c) c site

abbrev pub inlined_blocks : TheCall → (site : ℕ) → (Bank → List ℕ) → List Block
inlined_blocks c site free = with_edges (all_plain c) (critical (joined c site free) 0 (joined c site free)) (joined c site free)

abbrev pub inlined : Flow → Site → TheCall → (Bank → List ℕ) → Flow
inlined flow site c free = with_graphs flow (slice_set flow.functions site.function (record c.caller { blocks = inlined_blocks c site.block free }))

-- new is flow with the call of a permitted site inlined
pub record Inlined (flow : Flow) (site : Site) (new : Flow) : Type 0 where
  pub call : CallAt flow site
  pub free : Bank → List ℕ
  pub permitted : IsPermitted flow site call free
  pub is : new ≡ inlined flow site call.parts free
