-- A graph whose blocks are chains of blocks of another: what is asked of the chains, by the numbers of blocks alone.
use Rattle.std.specs.Prelude.{◌≡◌, ◌⊎◌, ◌+◌, ◌==◌, ℕ, suc, Bool, true, false, Option, Some, None, List, [], ◌∷◌, ◌++◌, length, map, slice_get}
use Rattle.vx_flow.specs.declared.graph.Op.{Op}
use Rattle.vx_flow.specs.declared.graph.Exit.{Exit}
use Rattle.vx_flow.specs.declared.graph.Exit.TheVariants.{Goto, Split, Call, Return, Ends}
use Rattle.vx_flow.specs.declared.graph.Block.{Block}
use Rattle.vx_flow.specs.declared.graph.Graph.{Graph}
use Rattle.vx_flow.specs.Effects.{IsIn}
use Rattle.vx_flow.specs.Sound.{targets_of}
use Rattle.vx_clean.specs.Cleaning.{Place, GraphCleaned}

abbrev pub ops_at : Option Block → List Op
ops_at None = []
ops_at (Some block) = block.ops

abbrev pub ops_of : List Block → List ℕ → List Op
ops_of blocks [] = []
ops_of blocks (b ∷ bs) = ops_at (slice_get blocks b) ++ ops_of blocks bs

abbrev pub one_way : Bool → ℕ → ℕ → ℕ → Exit
one_way true p x y = Goto x
one_way false p x y = Split p x y

-- with each target moved; a test whose two sides come to one block is gone
abbrev pub moved : (ℕ → ℕ) → Exit → Exit
moved to (Goto c) = Goto (to c)
moved to (Split p c d) = one_way (to c == to d) p (to c) (to d)
moved to (Call f arguments result c) = Call f arguments result (to c)
moved to (Return x) = Return x
moved to (Ends k) = Ends k

abbrev pub exit_at : (ℕ → ℕ) → Option Block → Exit
exit_at to None = Goto 0
exit_at to (Some block) = moved to block.exit

abbrev pub last_exit : (ℕ → ℕ) → List Block → List ℕ → Exit
last_exit to blocks [] = Goto 0
last_exit to blocks (b ∷ []) = exit_at to (slice_get blocks b)
last_exit to blocks (b ∷ c ∷ bs) = last_exit to blocks (c ∷ bs)

-- the blocks of a chain as one
abbrev pub joined : (ℕ → ℕ) → List Block → List ℕ → Block
joined to blocks chain = record { ops = ops_of blocks chain; exit = last_exit to blocks chain }

abbrev pub laid : (ℕ → ℕ) → List (List ℕ) → Graph → Graph
laid to chains g = record g { blocks = map (joined to g.blocks) chains }

-- block c stands in the chain, behind empty blocks alone
abbrev pub Near : List Block → ℕ → List ℕ → Type 0
Near blocks c [] = ⊥
Near blocks c (b ∷ bs) = (b ≡ c) ⊎ ((ops_at (slice_get blocks b) ≡ []) × Near blocks c bs)

-- block c stands so at the start of the chain that it is moved to
abbrev pub Begun : (ℕ → ℕ) → List Block → List (List ℕ) → ℕ → Type 0
Begun to blocks chains c = (chain : List ℕ) × (slice_get chains (to c) ≡ Some chain) × Near blocks c chain

-- the exit of a block, with what stands behind it in its chain
abbrev pub ExitLinked : (ℕ → ℕ) → List Block → List (List ℕ) → Exit → List ℕ → Type 0
ExitLinked to blocks chains exit [] = (c : ℕ) → IsIn c (targets_of exit) → Begun to blocks chains c
ExitLinked to blocks chains (Goto c) (b ∷ bs) = Near blocks c (b ∷ bs)
ExitLinked to blocks chains (Split p c d) (b ∷ bs) = Near blocks c (b ∷ bs) × Near blocks d (b ∷ bs)
ExitLinked to blocks chains (Call f arguments result c) (b ∷ bs) = ⊥
ExitLinked to blocks chains (Return x) (b ∷ bs) = ⊥
ExitLinked to blocks chains (Ends k) (b ∷ bs) = ⊥

abbrev pub Linked : (ℕ → ℕ) → List Block → List (List ℕ) → List ℕ → Type 0
Linked to blocks chains [] = Unit {0}
Linked to blocks chains (b ∷ bs) = ((block : Block) → slice_get blocks b ≡ Some block → ExitLinked to blocks chains block.exit bs) × Linked to blocks chains bs

abbrev pub found_if : Bool → Place → List Place → List Place
found_if true p ps = p ∷ ps
found_if false p ps = ps

-- the places of block b in the chain of new block i, from operation k on
abbrev pub places_in : List Block → (i k : ℕ) → List ℕ → ℕ → List Place
places_in blocks i k [] b = []
places_in blocks i k (c ∷ cs) b = found_if (c == b) (record { block = i; before = k; left = length cs }) (places_in blocks i (k + length (ops_at (slice_get blocks c))) cs b)

abbrev pub places_from : List Block → ℕ → List (List ℕ) → ℕ → List Place
places_from blocks i [] b = []
places_from blocks i (chain ∷ chains) b = places_in blocks i 0 chain b ++ places_from blocks (suc i) chains b

-- chains that are linked, and of which the first begins as the graph, are a cleaned graph
abbrev pub LaidCleaned : Type 0
LaidCleaned = (to : ℕ → ℕ) (chains : List (List ℕ)) (g : Graph) → to 0 ≡ 0 → Begun to g.blocks chains 0 →
    ((i : ℕ) (chain : List ℕ) → slice_get chains i ≡ Some chain → Linked to g.blocks chains chain) →
    GraphCleaned (places_from g.blocks 0 chains) g (laid to chains g)
