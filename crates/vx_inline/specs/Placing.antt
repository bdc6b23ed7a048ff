-- Where blocks stand, as a list that is found.
use Rattle.std.specs.Prelude.{◌&&◌, ◌+◌, ℕ, Bool, if◌then◌else◌, List, [], ◌∷◌, slice_index_or}
use Rattle.std.specs.List.{list_any}
use Rattle.vx_base.specs.declared.outcome.Trap.{Trap}
use Rattle.vx_flow.specs.declared.graph.Block.{Block}
use Rattle.vx_shape.specs.ShapeTest.{is_none_left, is_trap_of}
use Rattle.vx_inline.specs.declared.places.Places.{Places}
use Rattle.vx_inline.specs.Inlined.{is_plain, kind_place}

abbrev pub place_in : Places → ℕ → ℕ
place_in places b = slice_index_or places.blocks.items b places.beyond

-- the place of a block, where the next one that is no trap block stands at a place
abbrev pub place_at : (next traps : ℕ) → List Trap → Block → ℕ
place_at next traps kinds block = if is_plain block then next else traps + kind_place kinds block.exit

abbrev pub next_at : (next : ℕ) → Block → ℕ
next_at next block = if is_plain block then next + 1 else next

abbrev pub places_from : (next traps : ℕ) → List Trap → List Block → List ℕ
places_from next traps kinds [] = []
places_from next traps kinds (block ∷ blocks) = place_at next traps kinds block ∷ places_from (next_at next block) traps kinds blocks

-- the place behind the last of them that is no trap block
abbrev pub place_behind : (next : ℕ) → List Block → ℕ
place_behind next [] = next
place_behind next (block ∷ blocks) = place_behind (next_at next block) blocks

abbrev pub has_kind : List Block → Trap → Bool
has_kind blocks k = list_any (λ (block : Block). is_trap_of k block.exit && is_none_left block.ops) blocks
