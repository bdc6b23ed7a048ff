-- How much room the writes in flight need: a word that is not unfit has so many operations at most, and a write is in flight
-- for 16 cycles at most.
use Rattle.std.specs.Prelude.{◌≡◌, ◌≤◌, ℕ, ◌+◌, ◌*◌, ◌-◌, max, List, [], ◌∷◌, length, map, get_or, replicate, vec_capacity}
use Rattle.vx_sim.specs.declared.ring.Ring.{Ring}
use Rattle.vx_sim.specs.declared.shape.Shape.{Shape}
use Rattle.vx_sim.specs.Flying.{places_of}

-- Each place has room for the words of 16 cycles. What lands so many cycles behind the next one was issued by the words
-- of so many cycles less than 15, and some in this cycle.
abbrev pub HasRoom : (widest here : ℕ) → Ring → Type 0
HasRoom widest here ring =
    (map vec_capacity ring.places.items ≡ replicate 16 (16 * widest))
    × ((behind : ℕ) → length (get_or (places_of ring) behind []) ≤ widest * (15 - behind) + here)

-- the most operations of a word that is not unfit
abbrev pub widest : List Shape → ℕ
widest [] = 0
widest (shape ∷ shapes) = max shape.width (widest shapes)
