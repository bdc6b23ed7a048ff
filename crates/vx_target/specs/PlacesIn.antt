-- The places of the words of a region, in the list for all functions.
use Rattle.std.specs.Prelude.{◌+◌, ℕ, zero, suc, List, [], ◌∷◌, slice_index_or}
use Rattle.vx_mixed.specs.declared.layout.VWords.{VWords}
use Rattle.vx_target.specs.declared.finished.TracePlaces.{TracePlaces}

-- how many regions the functions before one have
abbrev pub regions_before : List VWords → (function : ℕ) → ℕ
regions_before [] f = 0
regions_before (l ∷ ls) zero = 0
regions_before (l ∷ ls) (suc f) = l.regions + regions_before ls f

abbrev pub no_words : TracePlaces
no_words = record { places = [] }

-- the places of the words of region r of function f, where the regions of the functions stand one after the other
abbrev pub places_in : List TracePlaces → List VWords → (f r : ℕ) → List ℕ
places_in places ls f r = (slice_index_or places (regions_before ls f + r) no_words).places
