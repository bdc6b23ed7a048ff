-- Worked rows: the places of the regions of two functions, where the second region of the first one has no words.
use Rattle.std.proofs.Common.{◌≡◌, ℕ, List, [], ◌∷◌, refl}
use Rattle.vx_mixed.specs.declared.layout.VirtualWord.{VirtualWord}
use Rattle.vx_mixed.specs.declared.layout.VirtualWord.TheVariants.{Planned, Drain, Transfer}
use Rattle.vx_mixed.specs.declared.layout.VWords.{VWords}
use Rattle.vx_slots.specs.declared.program.FunctionPlaces.{FunctionPlaces}
use Rattle.vx_target.specs.PlacesIn.{regions_before, places_in}
use Rattle.vx_frame.specs.Regions.{all_traces}

abbrev layout : List VirtualWord → (regions : ℕ) → VWords
layout words regions = record { banks = []; homes = record { clusters = [] }; words = words; entry = 0; regions = regions }

abbrev marked : List ℕ → FunctionPlaces
marked marks = record { entry = 0; starts = []; landings = []; marks = marks }

abbrev layouts : List VWords
layouts = layout (Planned 0 0 [] ∷ Planned 0 1 [] ∷ Drain 2 ∷ Transfer 4 ∷ Transfer 0 ∷ []) 2 ∷ layout (Planned 0 0 [] ∷ Transfer 0 ∷ []) 1 ∷ []

abbrev marks : List FunctionPlaces
marks = marked (3 ∷ 5 ∷ 0 ∷ 0 ∷ 0 ∷ []) ∷ marked (11 ∷ 0 ∷ []) ∷ []

first_region : places_in (all_traces marks 0 layouts) layouts 0 0 ≡ 3 ∷ 5 ∷ []
first_region = refl

-- it has a list, so that the next function's region is not taken for it
region_without_words : places_in (all_traces marks 0 layouts) layouts 0 1 ≡ []
region_without_words = refl

next_function : places_in (all_traces marks 0 layouts) layouts 1 0 ≡ 11 ∷ []
next_function = refl

all_regions : regions_before layouts 2 ≡ 3
all_regions = refl
