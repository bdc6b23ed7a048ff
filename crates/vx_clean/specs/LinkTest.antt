-- Whether chains are linked, as a test of numbers of blocks and of which blocks are empty.
use Rattle.std.specs.Prelude.{◌≡◌, ◌==◌, ℕ, Bool, true, false, ◌&&◌, ◌||◌, Option, Some, None, List, [], ◌∷◌, slice_get}
use Rattle.std.specs.List.{list_all}
use Rattle.vx_flow.specs.declared.graph.Exit.{Exit}
use Rattle.vx_flow.specs.declared.graph.Exit.TheVariants.{Goto, Split, Call, Return, Ends}
use Rattle.vx_flow.specs.declared.graph.Block.{Block}
use Rattle.vx_flow.specs.Sound.{targets_of}
use Rattle.vx_clean.specs.Laying.{ops_at, Linked}
use Rattle.vx_shape.specs.ShapeTest.{is_none_left}

abbrev pub is_near : List Block → ℕ → List ℕ → Bool
is_near blocks c [] = false
is_near blocks c (b ∷ bs) = (b == c) || (is_none_left (ops_at (slice_get blocks b)) && is_near blocks c bs)

abbrev pub is_near_in : List Block → ℕ → Option (List ℕ) → Bool
is_near_in blocks c None = false
is_near_in blocks c (Some chain) = is_near blocks c chain

abbrev pub are_begun : (ℕ → ℕ) → List Block → List (List ℕ) → List ℕ → Bool
are_begun to blocks chains [] = true
are_begun to blocks chains (c ∷ cs) = is_near_in blocks c (slice_get chains (to c)) && are_begun to blocks chains cs

abbrev pub is_exit_linked : (ℕ → ℕ) → List Block → List (List ℕ) → Exit → List ℕ → Bool
is_exit_linked to blocks chains exit [] = are_begun to blocks chains (targets_of exit)
is_exit_linked to blocks chains (Goto c) (b ∷ bs) = is_near blocks c (b ∷ bs)
is_exit_linked to blocks chains (Split p c d) (b ∷ bs) = is_near blocks c (b ∷ bs) && is_near blocks d (b ∷ bs)
is_exit_linked to blocks chains (Call f arguments result c) (b ∷ bs) = false
is_exit_linked to blocks chains (Return x) (b ∷ bs) = false
is_exit_linked to blocks chains (Ends k) (b ∷ bs) = false

abbrev pub is_linked_at : (ℕ → ℕ) → List Block → List (List ℕ) → Option Block → List ℕ → Bool
is_linked_at to blocks chains None bs = true
is_linked_at to blocks chains (Some block) bs = is_exit_linked to blocks chains block.exit bs

abbrev pub is_linked : (ℕ → ℕ) → List Block → List (List ℕ) → List ℕ → Bool
is_linked to blocks chains [] = true
is_linked to blocks chains (b ∷ bs) = is_linked_at to blocks chains (slice_get blocks b) bs && is_linked to blocks chains bs

abbrev pub number_or_zero : Option ℕ → ℕ
number_or_zero None = 0
number_or_zero (Some b) = b

-- where each block is moved to, as a list
abbrev pub moves : List ℕ → ℕ → ℕ
moves to b = number_or_zero (slice_get to b)

-- every chain is linked, and the first begins as the graph
abbrev pub is_laid_out : List ℕ → List Block → List (List ℕ) → Bool
is_laid_out to blocks chains = (moves to 0 == 0) && is_near_in blocks 0 (slice_get chains 0) && list_all (is_linked (moves to) blocks chains) chains

abbrev pub LinkedWhereTested : Type 0
LinkedWhereTested = (to : ℕ → ℕ) (blocks : List Block) (chains : List (List ℕ)) (chain : List ℕ) → is_linked to blocks chains chain ≡ true → Linked to blocks chains chain
