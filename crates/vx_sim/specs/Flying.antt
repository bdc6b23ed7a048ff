-- The writes in flight, as the simulator keeps them: a ring of places by landing cycle, each in the order of issue.
use Rattle.std.specs.Prelude.{ℕ, suc, ◌-◌, ℤ, if◌then◌else◌, nat_le, List, [], ◌∷◌, ◌++◌, map, take, drop, Vec}
use Rattle.std.specs.declared.alloc.Global.{Global}
use Rattle.vx_base.specs.Flight.{Write as InFlight}
use Rattle.vx_isa.specs.declared.operation.Register.{Register}
use Rattle.vx_sim.specs.declared.flight.Flight.{Flight}
use Rattle.vx_sim.specs.declared.ring.Ring.{Ring}

-- a write that lands so many cycles behind the next one
abbrev pub write_of : ℕ → Flight → InFlight Register ℤ
write_of behind f = record { to = f.to; number = f.number; left = suc behind }

abbrev pub flights_in : List (Vec Flight Global) → List (List Flight)
flights_in places = map (λ place. place.items) places

-- round a ring, from a place on
abbrev pub turned : {A : Type 0} → ℕ → List A → List A
turned next places = drop next places ++ take next places

-- the places of the ring, that of the next cycle first
abbrev pub places_of : Ring → List (List Flight)
places_of ring = turned ring.next (flights_in ring.places.items)

-- the writes of places, the first of which lands so many cycles behind the next one
abbrev pub listed : ℕ → List (List Flight) → List (InFlight Register ℤ)
listed behind [] = []
listed behind (place ∷ places) = map (write_of behind) place ++ listed (suc behind) places

-- by landing cycle, and for each cycle in the order of issue
abbrev pub flying_of : Ring → List (InFlight Register ℤ)
flying_of ring = listed 0 (places_of ring)

-- A list of writes in that order. One with no cycle left lands as one with one cycle left does.

abbrev pub put_in : InFlight Register ℤ → List (InFlight Register ℤ) → List (InFlight Register ℤ)
put_in w [] = w ∷ []
put_in w (x ∷ xs) = if nat_le (w.left - 1) (x.left - 1) then w ∷ x ∷ xs else x ∷ put_in w xs

abbrev pub by_landing : List (InFlight Register ℤ) → List (InFlight Register ℤ)
by_landing [] = []
by_landing (w ∷ ws) = put_in w (by_landing ws)
