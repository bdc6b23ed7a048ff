-- The counts of the probes: of words and of cycles, and of the operations of each kind. Each number stays at the greatest
-- of 64 bits.
use Rattle.std.specs.Prelude.{◌≡◌, refl, false, ℕ, ◌+◌, ◌-◌, ◌^◌, min, List, [], ◌∷◌, ◌++◌, slice_index, codes, decimal}
use Rattle.std.specs.List.{flat_map}
use Rattle.vx_io.specs.Outside.{one_more}
use Rattle.vx_probe.specs.declared.event.Event.{Event}
use Rattle.vx_probe.specs.Watch.{Watch}

-- one word more, and the cycle behind this word's first
abbrev pub count_step : List ℕ → Event → List ℕ
count_step counts event = one_more (slice_index counts 0) ∷ one_more event.cycle ∷ []

abbrev pub count_text : List ℕ → List ℕ
count_text counts = codes "words " ++ decimal (slice_index counts 0) ++ codes " cycles " ++ decimal (slice_index counts 1)

abbrev pub count_watch : List ℕ → Watch
count_watch counts = record { numbers = counts; next = count_step; text = count_text }

-- the fourth word, of cycle 3
fourth_word : count_step (3 ∷ 3 ∷ []) (record { place = 3; cycle = 3; alu = 0; multiply = 0; memory = 0; copy = 0; control = 1; taken = false }) ≡ 4 ∷ 4 ∷ []
fourth_word = refl

-- a sum and a number more
abbrev pub added : ℕ → ℕ → ℕ
added sum more = min (sum + more) (2 ^ 64 - 1)

-- the operations of a word more: those of an ALU, a multiplier, a memory unit, a copy path and the control place
abbrev pub units_step : List ℕ → Event → List ℕ
units_step sums event =
    added (slice_index sums 0) event.alu ∷ added (slice_index sums 1) event.multiply ∷ added (slice_index sums 2) event.memory ∷ added (slice_index sums 3) event.copy ∷ added (slice_index sums 4) event.control ∷ []

-- a sum of more than ten digits is printed as the greatest number of ten
abbrev pub units_text : List ℕ → List ℕ
units_text sums = codes "units" ++ flat_map (λ sum. codes " " ++ decimal (min sum 9999999999)) sums

abbrev pub units_watch : List ℕ → Watch
units_watch sums = record { numbers = sums; next = units_step; text = units_text }

-- a word with two operations of an ALU and one load
two_sums_and_a_load : units_step (7 ∷ 0 ∷ 2 ∷ 0 ∷ 1 ∷ []) (record { place = 3; cycle = 3; alu = 2; multiply = 0; memory = 1; copy = 0; control = 0; taken = false }) ≡ 9 ∷ 0 ∷ 3 ∷ 0 ∷ 1 ∷ []
two_sums_and_a_load = refl
