-- The blocks of each function that end by a call.
use Rattle.std.specs.Prelude.{◌≡◌, ◌++◌, ◌∷◌, [], ℕ, suc, if◌then◌else◌, List, map}
use Rattle.vx_flow.specs.declared.graph.Block.{Block}
use Rattle.vx_flow.specs.declared.graph.Flow.{Flow}
use Rattle.vx_flow.specs.declared.graph.Graph.{Graph}
use Rattle.vx_inline.specs.Fitting.{is_calling}

-- the number of a block, if it calls
abbrev pub call_place : (b : ℕ) → Block → List ℕ
call_place b block = if is_calling block then b ∷ [] else []

-- the numbers of those that call, from block b on
abbrev pub call_places : (b : ℕ) → List Block → List ℕ
call_places b [] = []
call_places b (block ∷ blocks) = call_place b block ++ call_places (suc b) blocks

abbrev pub calling_blocks : Graph → List ℕ
calling_blocks g = call_places 0 g.blocks

-- of each function the blocks are listed that call
abbrev pub ListsCalls : Flow → (calls : List (List ℕ)) → Type 0
ListsCalls flow calls = calls ≡ map calling_blocks flow.functions
