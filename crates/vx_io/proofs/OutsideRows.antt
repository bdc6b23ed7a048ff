-- Worked values of the definitions on files and sinks, by computation.
use Rattle.std.proofs.Common.{◌≡◌, ◌-◌, ◌^◌, ℕ, true, false, List, [], ◌∷◌, None, Some, refl}
use Rattle.vx_io.specs.Outside.{one_more, with_bytes, SinkMemory, bytes_that_fit, put_fails}

counts : (one_more 0 ≡ 1) × (one_more 41 ≡ 42) × (one_more (2 ^ 64 - 2) ≡ 2 ^ 64 - 1) × (one_more (2 ^ 64 - 1) ≡ 2 ^ 64 - 1)
counts = (refl, refl, refl, refl)

puts : (with_bytes (Some (1 ∷ [])) (2 ∷ 3 ∷ []) ≡ Some (1 ∷ 2 ∷ 3 ∷ [])) × (with_bytes None (2 ∷ []) ≡ None)
puts = (refl, refl)

-- room for three bytes, two of them taken; the second put fails
abbrev sink : ℕ → List ℕ → SinkMemory
sink puts bytes = record { bytes = bytes; room = 3; failing = 2 ∷ []; puts = puts; faults = 0 }

room : (bytes_that_fit (sink 0 (1 ∷ 2 ∷ [])) (3 ∷ 4 ∷ []) ≡ 1) × (put_fails (sink 0 (1 ∷ 2 ∷ [])) (3 ∷ 4 ∷ []) ≡ false)
    × (put_fails (sink 1 []) (3 ∷ []) ≡ true) × (put_fails (sink 4 (1 ∷ 2 ∷ 3 ∷ [])) (4 ∷ []) ≡ true)
    × (put_fails (sink 4 (1 ∷ 2 ∷ 3 ∷ [])) [] ≡ false)
room = (refl, refl, refl, refl, refl)
