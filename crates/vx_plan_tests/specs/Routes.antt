-- The worked routes.
use Rattle.std.specs.Prelude.{◌∷◌, [], ◌++◌, ℕ, true, false, List}
use Rattle.vx_flow.specs.declared.routes.Route.{Route}
use Rattle.vx_flow.specs.declared.routes.Touch.{Touch}

abbrev pub touching : (from to : ℕ) → Touch → Route
touching from to touch = record { from = from; to = to ∷ []; touches = touch ∷ [] }

-- value 5 is written from node 0 to node 1, and read on the way back
abbrev pub through_a_write : List Route
through_a_write = touching 0 1 (record { value = 5; reads = false }) ∷ touching 1 0 (record { value = 5; reads = true }) ∷ []

-- past the write leads a route that reads value 6
abbrev pub past_a_write : List Route
past_a_write = through_a_write ++ touching 0 1 (record { value = 6; reads = true }) ∷ []
