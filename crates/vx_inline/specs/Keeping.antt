-- What is known of a flow while its calls are inlined one after the other, so that each step looks only for what it changes: which
-- functions no cycle of calls reaches, and what is live behind each call.
use Rattle.std.specs.Prelude.{◌≡◌, ◌↔◌, ◌<◌, ◌≤◌, drop, ℕ, Bool, true, false, List, Option, Some, length, nat_lt, slice_get, IsTrue}
use Rattle.std.specs.List.{list_all, prefix_len}
use Rattle.vx_flow.specs.declared.graph.Block.{Block}
use Rattle.vx_flow.specs.declared.graph.Exit.{Exit}
use Rattle.vx_flow.specs.declared.graph.Exit.TheVariants.{Goto, Split, Call, Return, Ends}
use Rattle.vx_flow.specs.declared.graph.Flow.{Flow}
use Rattle.vx_flow.specs.declared.graph.Graph.{Graph}
use Rattle.vx_flow.specs.declared.graph.Operand.{Operand}
use Rattle.vx_flow.specs.Effects.{IsIn}
use Rattle.vx_flow.specs.Live.{IsLive}
use Rattle.vx_flow.specs.Rows.{is_marked, lives, row_at}
use Rattle.vx_flow.specs.Sound.{HasExit, SoundFlow, targets_of}
use Rattle.vx_inline.specs.declared.known.Known.{Known}
use Rattle.vx_inline.specs.declared.site.Site.{Site}
use Rattle.vx_inline.specs.Inlined.{TheCall, CallAt, Inlined, is_plain}
use Rattle.vx_inline.specs.Permitting.{StandsApart}
use Rattle.vx_inline.specs.Values.{is_bare}

-- some path from block b comes to a return
pub data Returns (g : Graph) : ℕ → Type 0 where
  here : {b : ℕ} {block : Block} {x : Operand} → slice_get g.blocks b ≡ Some block → block.exit ≡ Return x → Returns g b
  beyond : {b c : ℕ} {block : Block} → slice_get g.blocks b ≡ Some block → IsIn c (targets_of block.exit) → Returns g c → Returns g b

-- a callee that reads none of its values but parameters before it writes them, and may return: what is live in its callers stays
pub record Passes (g : Graph) : Type 0 where
  pub closed : (v : ℕ) → IsLive g 0 v → IsIn v g.parameters
  pub returns : Returns g 0

-- the row of each block to which a call of the graph returns lists what is live there
abbrev pub KnowsBehind : Graph → (rows : List (List ℕ)) → Type 0
KnowsBehind g rows = (f next : ℕ) (arguments : List Operand) (result : Option ℕ) → HasExit g (Call f arguments result next) → (v : ℕ) → IsTrue (lives rows next v) ↔ IsLive g next v

-- the row of the block behind a call lists what is live there
abbrev pub KnowsSite : Flow → Site → (rows : List (List ℕ)) → Type 0
KnowsSite flow site rows = (c : CallAt flow site) (v : ℕ) → IsTrue (lives rows c.parts.next v) ↔ IsLive c.parts.caller c.parts.next v

-- so behind each call of each function
abbrev pub KnowsLive : Flow → (live : List (List (List ℕ))) → Type 0
KnowsLive flow live = (f : ℕ) (g : Graph) → slice_get flow.functions f ≡ Some g → KnowsBehind g (row_at live f)

-- of all but these it is known what is live behind their calls
pub record LiveFor (graphs : List Graph) (live : List (List (List ℕ))) (todo : List Graph) : Type 0 where
  pub rest : drop (length live) graphs ≡ todo
  pub few : length live ≤ length graphs
  pub known : (f : ℕ) (g : Graph) → f < length live → slice_get graphs f ≡ Some g → KnowsBehind g (row_at live f)

-- the functions are marked that are on no cycle of calls, and that no function on one reaches
abbrev pub KnowsApart : Flow → (apart : List Bool) → Type 0
KnowsApart flow apart = (f : ℕ) → f < length flow.functions → (is_marked apart f ≡ true) ↔ StandsApart flow f

-- a function that is marked makes no place of an array that is no global, and no base
abbrev pub KnowsBare : Flow → (bare : List Bool) → Type 0
KnowsBare flow bare = (f : ℕ) (g : Graph) → slice_get flow.functions f ≡ Some g → is_marked bare f ≡ true → is_bare g.arrays g.blocks ≡ true

-- the caller of a site makes none, if this is said of it
abbrev pub IsSiteBare : Flow → Site → (bare : Bool) → Type 0
IsSiteBare flow site bare = bare ≡ true → (c : CallAt flow site) → is_bare c.parts.caller.arrays c.parts.caller.blocks ≡ true

-- all that is known
pub record Knows (flow : Flow) (known : Known) : Type 0 where
  pub apart : KnowsApart flow known.apart.items
  pub live : KnowsLive flow known.live.items
  pub bare : KnowsBare flow known.bare.items
  pub count : length known.live.items ≡ length flow.functions

-- ---- calls behind which the blocks keep their numbers

-- how many blocks come before the first trap block
abbrev pub front_of : List Block → ℕ
front_of blocks = prefix_len is_plain blocks

abbrev pub returns_below : ℕ → Exit → Bool
returns_below n (Goto c) = true
returns_below n (Split p c d) = true
returns_below n (Call f arguments result c) = nat_lt c n
returns_below n (Return x) = true
returns_below n (Ends k) = true

abbrev pub calls_below : ℕ → List Block → Bool
calls_below n blocks = list_all (λ (block : Block). returns_below n block.exit) blocks

-- each call returns to a block before the first trap block
abbrev pub calls_stay : List Block → Bool
calls_stay blocks = calls_below (front_of blocks) blocks

-- ---- a path from the entry to a return

abbrev pub is_return : Exit → Bool
is_return (Goto c) = false
is_return (Split p c d) = false
is_return (Call f arguments result c) = false
is_return (Return x) = true
is_return (Ends k) = false

-- from the entry a path leads to each marked block
pub record LeadHere (g : Graph) (marks : List Bool) : Type 0 where
  pub lead : (b : ℕ) → is_marked marks b ≡ true → Returns g b → Returns g 0

-- ---- what is live behind calls stays known

-- with the call inlined all that is known of the caller stays so
pub record KeepsKnown (c : TheCall) : Type 0 where
  pub passes : Passes c.callee
  pub stay : calls_stay c.caller.blocks ≡ true
  pub bare : is_bare c.caller.arrays c.callee.blocks ≡ true

abbrev pub KeepsSite : Flow → Site → Type 0
KeepsSite flow site = (c : CallAt flow site) → KeepsKnown c.parts

-- what is known next of a flow in which a call of function f was inlined
abbrev pub NextKnown : (new : Flow) → (f : ℕ) → (known next : Known) → Type 0
NextKnown new f known next = (flow : Flow) (site : Site) → Inlined flow site new → SoundFlow flow → site.function ≡ f → Knows flow known → Knows new next
