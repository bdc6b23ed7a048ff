-- Tables of places, by which a graph is laid out.
use Rattle.std.specs.Prelude.{ℕ, ◌+◌, Some, List, length, map, slice_index_or}
use Rattle.vx_flow.specs.Walk.{numbers}
use Rattle.vx_mixed.specs.declared.region.Node.{Node}
use Rattle.vx_mixed.specs.declared.region.Region.{Region}
use Rattle.vx_mixed.specs.Layout.{region_place, place_of_node}

-- where each region begins, and where the last one ends
abbrev pub starts_of : List Region → List ℕ
starts_of gs = map (region_place gs) (numbers 0 (length gs + 1))

-- where each block is entered
abbrev pub places_of : List Region → List Node → List ℕ
places_of gs nodes = map (λ node. place_of_node gs (Some node)) nodes

-- where a block is entered, by such a table
abbrev pub place_in : List ℕ → ℕ → ℕ
place_in places b = slice_index_or places b 0
