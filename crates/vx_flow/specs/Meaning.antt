-- What the graphs of a program do: block by block, with the functions that wait for a call to return.
use Rattle.std.specs.Prelude.{ℕ, zero, suc, ◌+◌, ◌-◌, ◌==◌, ℤ, pos, negsuc, nat_lt, nat_le, if◌then◌else◌, Option, Some, None, List, [], ◌∷◌, ◌++◌, length, map, take, drop, replicate, slice_get, slice_set}
use Rattle.std.specs.Option.{option_map}
use Rattle.vx_base.specs.Outcome.{Outcome, Ends as EndsWith, Traps, Step, On, Over, run}
use Rattle.vx_base.specs.declared.outcome.Trap.{Trap}
use Rattle.vx_base.specs.declared.outcome.Trap.TheVariants.{Depth}
use Rattle.vx_flow.specs.declared.graph.Op.{Op}
use Rattle.vx_flow.specs.declared.graph.Exit.{Exit}
use Rattle.vx_flow.specs.declared.graph.Exit.TheVariants.{Goto, Split, Call, Return, Ends}
use Rattle.vx_flow.specs.declared.graph.Block.{Block}
use Rattle.vx_flow.specs.declared.graph.Array.{Array}
use Rattle.vx_flow.specs.declared.graph.Graph.{Graph}
use Rattle.vx_flow.specs.declared.graph.Global.{Global}
use Rattle.vx_flow.specs.declared.graph.Flow.{Flow}
use Rattle.vx_flow.specs.Effects.{Content, State, Setting, held, is_one, effect}

-- how a block is left: by an edge, a call, a return or a trap; or it has no meaning
pub data Hop : Type 0 where
  Arrives : (from to : ℕ) → State → Hop
  Calls : (function : ℕ) → (arguments : List ℤ) → (result : Option ℕ) → (from next : ℕ) → State → Hop
  Leaves : (result : ℤ) → State → Hop
  Stops : Trap → State → Hop
  Wrong : Hop

-- blocks

abbrev pub with_front : ℤ → Option (List ℤ) → Option (List ℤ)
with_front n None = None
with_front n (Some ns) = Some (n ∷ ns)

-- the numbers, where none is undefined
abbrev pub known : List Content → Option (List ℤ)
known [] = Some []
known (None ∷ xs) = None
known (Some n ∷ xs) = with_front n (known xs)

abbrev pub by_test : Content → Hop → Hop → Hop
by_test None a b = Wrong
by_test (Some z) a b = if is_one z then a else b

abbrev pub calls : ℕ → Option (List ℤ) → Option ℕ → ℕ → ℕ → State → Hop
calls g None result from next s = Wrong
calls g (Some arguments) result from next s = Calls g arguments result from next s

abbrev pub leaves : Content → State → Hop
leaves None s = Wrong
leaves (Some n) s = Leaves n s

-- the exit of block b
abbrev pub leave : ℕ → Exit → State → Hop
leave b (Goto c) s = Arrives b c s
leave b (Split p c d) s = by_test (s.values p) (Arrives b c s) (Arrives b d s)
leave b (Call g arguments result next) s = calls g (known (map (held s) arguments)) result b next s
leave b (Return x) s = leaves (held s x) s
leave b (Ends k) s = Stops k s

abbrev pub and_then : Option State → (State → Hop) → Hop
and_then None f = Wrong
and_then (Some t) f = f t

-- the operations of block b, one after the other, and its exit
abbrev pub block_hop : Setting → ℕ → List Op → Exit → State → Hop
block_hop setting b [] exit s = leave b exit s
block_hop setting b (op ∷ ops) exit s = and_then (effect setting s op s) (block_hop setting b ops exit)

abbrev pub hop_of : Setting → ℕ → Option Block → State → Hop
hop_of setting b None s = Wrong
hop_of setting b (Some block) s = block_hop setting b block.ops block.exit s

-- functions

-- what the run of a program needs of a function: the values that hold its arguments, those of them that hold where an array
-- stands, by the places of these arrays behind the globals and up to the last of them, the words of each of its own arrays,
-- and what it does from each of its blocks
pub record Body : Type 0 where
  pub parameters : List ℕ
  pub bases : List (Option ℕ)
  pub own : List ℕ
  pub hop : Setting → (block : ℕ) → State → Hop

pub record Program : Type 0 where
  pub globals : ℕ
  pub texts : List (List ℕ)
  pub body : (function : ℕ) → Option Body

-- a function that waits for a call to return: its block that called, the block with which it goes on, the value that
-- gets the result, the spots of the arrays that were passed to it, by their places behind the globals, and where its own arrays
-- begin
pub record Frame : Type 0 where
  pub function : ℕ
  pub from : ℕ
  pub next : ℕ
  pub result : Option ℕ
  pub passed : List (Option ℕ)
  pub base : ℕ
  pub values : ℕ → Content

-- the active function at the start of a block
pub record Active : Type 0 where
  pub function : ℕ
  pub block : ℕ
  -- by the places behind the globals the spots of the arrays that were passed to it
  pub passed : List (Option ℕ)
  -- where its own arrays begin
  pub base : ℕ
  pub state : State
  -- those that wait, the latest first
  pub waiting : List Frame

-- the most functions that are active at a time
unfoldable pub deepest : ℕ
deepest = 512

-- where array k behind the globals stands: at its spot where it was passed, else among the function's own, which stand from a
-- base on
abbrev pub spot_behind : (passed : List (Option ℕ)) → (base : ℕ) → ℕ → ℕ
spot_behind [] base k = base + k
spot_behind (Some spot ∷ rest) base zero = spot
spot_behind (Some spot ∷ rest) base (suc k) = spot_behind rest base k
spot_behind (None ∷ rest) base zero = base
spot_behind (None ∷ rest) base (suc k) = spot_behind rest (base + 1) k

-- where array a of a function stands: a global, of so many, at its number, the others behind them
abbrev pub spot_in : (globals : ℕ) → (passed : List (Option ℕ)) → (base : ℕ) → ℕ → ℕ
spot_in globals passed base a = if nat_lt a globals then a else spot_behind passed base (a - globals)

-- the same where nothing was passed
abbrev pub spot_of : (globals base : ℕ) → ℕ → ℕ
spot_of globals base a = spot_in globals [] base a

-- what the operations of a function depend on besides, where these arrays were passed to it and its own begin at base
abbrev pub setting_with : Program → (passed : List (Option ℕ)) → (base : ℕ) → Setting
setting_with p passed base = record { spot = spot_in p.globals passed base; texts = p.texts }

abbrev pub setting_of : Program → ℕ → Setting
setting_of p base = setting_with p [] base

-- what the values hold at the entry: the parameters their arguments
abbrev pub at_entry : (parameters : List ℕ) → (arguments : List ℤ) → ℕ → Content
at_entry [] ns v = None
at_entry (q ∷ qs) [] v = None
at_entry (q ∷ qs) (n ∷ ns) v = if v == q then Some n else at_entry qs ns v

abbrev pub undefined : ℕ → List Content
undefined words = replicate words None

abbrev pub entered : Body → List ℤ → State → State
entered body arguments s = record s { values = at_entry body.parameters arguments; arrays = s.arrays ++ map undefined body.own }

-- the spot that a base holds, where it is that of one of so many arrays
abbrev pub spot_held : (arrays : ℕ) → Content → Option ℕ
spot_held arrays None = None
spot_held arrays (Some (negsuc n)) = None
spot_held arrays (Some (pos k)) = if nat_lt k arrays then Some k else None

abbrev pub with_spot : Option ℕ → Option (List (Option ℕ)) → Option (List (Option ℕ))
with_spot None passed = None
with_spot (Some k) None = None
with_spot (Some k) (Some passed) = Some (Some k ∷ passed)

abbrev pub without_spot : Option (List (Option ℕ)) → Option (List (Option ℕ))
without_spot None = None
without_spot (Some passed) = Some (None ∷ passed)

-- the spots that are passed, where each base holds one
abbrev pub spots_held : (arrays : ℕ) → (ℕ → Content) → (bases : List (Option ℕ)) → Option (List (Option ℕ))
spots_held arrays values [] = Some []
spots_held arrays values (None ∷ bases) = without_spot (spots_held arrays values bases)
spots_held arrays values (Some v ∷ bases) = with_spot (spot_held arrays (values v)) (spots_held arrays values bases)

abbrev pub enters_passed : ℕ → Body → List ℤ → State → List Frame → Option (List (Option ℕ)) → Step Active
enters_passed g body arguments s waiting None = Over (Outcome.Wrong s.out)
enters_passed g body arguments s waiting (Some passed) = On (record { function = g; block = 0; passed = passed; base = length s.arrays; state = entered body arguments s; waiting = waiting })

abbrev pub enters_with : ℕ → Option Body → List ℤ → State → List Frame → Option (List (Option ℕ)) → Step Active
enters_with g None arguments s waiting passed = Over (Outcome.Wrong s.out)
enters_with g (Some body) arguments s waiting passed = enters_passed g body arguments s waiting passed

abbrev pub spots_for : Option Body → List ℤ → State → Option (List (Option ℕ))
spots_for None arguments s = None
spots_for (Some body) arguments s = spots_held (length s.arrays) (at_entry body.parameters arguments) body.bases

-- a function is entered where each array that is passed to it is one that is there
abbrev pub enters : ℕ → Option Body → List ℤ → State → List Frame → Step Active
enters g body arguments s waiting = enters_with g body arguments s waiting (spots_for body arguments s)

abbrev pub with_result : (ℕ → Content) → Option ℕ → ℤ → ℕ → Content
with_result values None n v = values v
with_result values (Some r) n v = if v == r then Some n else values v

-- back from a function whose own arrays begin at base, or the end of the program
abbrev pub returned : ℤ → State → ℕ → List Frame → Step Active
returned n s base [] = Over (EndsWith n s.out)
returned n s base (f ∷ fs) = On (record {
  function = f.function;
  block = f.next;
  passed = f.passed;
  base = f.base;
  state = record s { values = with_result f.values f.result n; arrays = take base s.arrays };
  waiting = fs;
})

abbrev pub waits : Active → Option ℕ → ℕ → ℕ → State → Frame
waits r result from next s = record { function = r.function; from = from; next = next; result = result; passed = r.passed; base = r.base; values = s.values }

abbrev pub after_hop : Program → Active → Hop → Step Active
after_hop p r (Arrives from to s) = On (record r { block = to; state = s })
after_hop p r (Calls g arguments result from next s) =
    if nat_le deepest (length r.waiting + 1) then Over (Traps Depth s.out) else enters g (p.body g) arguments s (waits r result from next s ∷ r.waiting)
after_hop p r (Leaves n s) = returned n s r.base r.waiting
after_hop p r (Stops k s) = Over (Traps k s.out)
after_hop p r Wrong = Over (Outcome.Wrong r.state.out)

abbrev pub body_hop : Program → Active → Option Body → Hop
body_hop p r None = Wrong
body_hop p r (Some body) = body.hop (setting_with p r.passed r.base) r.block r.state

abbrev pub hop : Program → Active → Hop
hop p r = body_hop p r (p.body r.function)

-- one block of the active function
abbrev pub next : Program → Active → Step Active
next p r = after_hop p r (hop p r)

-- at most so many blocks
abbrev pub program_run : Program → ℕ → Active → Outcome
program_run p n r = run (next p) (λ q. q.state.out) n r

-- the path of a run: its blocks, and its edges, each where it is taken; the edge from a call to the block behind it is
-- taken when the call returns

pub data Visit : Type 0 where
  AtBlock : (function block : ℕ) → Visit
  AlongEdge : (function from to : ℕ) → Visit

abbrev pub edge_back : List Frame → List Visit
edge_back [] = []
edge_back (f ∷ fs) = AlongEdge f.function f.from f.next ∷ []

abbrev pub edge_taken : Active → Hop → List Visit
edge_taken r (Arrives from to s) = AlongEdge r.function from to ∷ []
edge_taken r (Calls g arguments result from next s) = []
edge_taken r (Leaves n s) = edge_back r.waiting
edge_taken r (Stops k s) = []
edge_taken r Wrong = []

abbrev pub path_then : (Active → List Visit) → Step Active → List Visit
path_then f (On r) = f r
path_then f (Over o) = []

abbrev pub program_path : Program → ℕ → Active → List Visit
program_path p zero r = []
program_path p (suc n) r = AtBlock r.function r.block ∷ (edge_taken r (hop p r) ++ path_then (program_path p n) (next p r))

-- graphs

abbrev pub base_before : Option ℕ → List (Option ℕ) → List (Option ℕ)
base_before None [] = []
base_before None (base ∷ bases) = None ∷ base ∷ bases
base_before (Some v) bases = Some v ∷ bases

-- the bases of arrays, up to the last one that has one
abbrev pub bases_in : List Array → List (Option ℕ)
bases_in [] = []
bases_in (array ∷ arrays) = base_before array.base (bases_in arrays)

abbrev pub words_before : (base : Option ℕ) → ℕ → List ℕ → List ℕ
words_before None n words = n ∷ words
words_before (Some v) n words = words

-- the words of those that have none
abbrev pub words_in : List Array → List ℕ
words_in [] = []
words_in (array ∷ arrays) = words_before array.base array.words (words_in arrays)

abbrev pub bases_of : ℕ → Graph → List (Option ℕ)
bases_of globals graph = bases_in (drop globals graph.arrays)

abbrev pub own_of : ℕ → Graph → List ℕ
own_of globals graph = words_in (drop globals graph.arrays)

abbrev pub body_of : ℕ → Graph → Body
body_of globals graph = record { parameters = graph.parameters; bases = bases_of globals graph; own = own_of globals graph; hop = λ setting b. hop_of setting b (slice_get graph.blocks b) }

abbrev pub program_of : Flow → Program
program_of flow = record { globals = length flow.globals; texts = flow.texts; body = λ f. option_map (body_of (length flow.globals)) (slice_get flow.functions f) }

-- the first word starts as its number, the others as 0
abbrev pub words_at_start : Global → List Content
words_at_start g = slice_set (replicate g.words (Some (pos 0))) 0 (Some g.first)

abbrev pub globals_at_start : Flow → List ℤ → State
globals_at_start flow input = record { values = λ v. None; arrays = map words_at_start flow.globals; input = input; out = [] }

abbrev pub entered_or : Option Body → State → State
entered_or None s = s
entered_or (Some body) s = entered body [] s

-- the first active function at its entry
abbrev pub at_start : Program → (main : ℕ) → State → Active
at_start p main s = record { function = main; block = 0; passed = []; base = length s.arrays; state = entered_or (p.body main) s; waiting = [] }

abbrev pub start : Flow → List ℤ → Active
start flow input = at_start (program_of flow) flow.main (globals_at_start flow input)

-- what the graphs do with an input, in at most so many blocks
abbrev pub graph_run : Flow → List ℤ → ℕ → Outcome
graph_run flow input n = program_run (program_of flow) n (start flow input)

abbrev pub graph_path : Flow → List ℤ → ℕ → List Visit
graph_path flow input n = program_path (program_of flow) n (start flow input)
