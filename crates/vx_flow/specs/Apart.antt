-- Which arrays of a function share no word, and where they stand then.
use Rattle.std.specs.Prelude.{◌≡◌, ◌+◌, ◌<◌, ℕ, Bool, true, false, not, ◌==◌, if◌then◌else◌, Option, Some, None, List, length, slice_get, slice_index_or}
use Rattle.vx_flow.specs.declared.graph.Array.{Array}
use Rattle.vx_flow.specs.declared.graph.Graph.{Graph}
use Rattle.vx_flow.specs.declared.graph.Flow.{Flow}
use Rattle.vx_flow.specs.Sound.{is_given, has_base, is_own_array}

-- array a of a function, with its number there as `named`; one that is not there has no words
abbrev pub array_of : ℕ → Option Array → Array
array_of a None = record { words = 0; global = false; named = a; base = None }
array_of a (Some array) = record { words = array.words; global = array.global; named = a; base = array.base }

abbrev pub array_in : List Array → ℕ → Array
array_in arrays a = array_of a (slice_get arrays a)

-- two arrays of a function are apart, and so share no word: both are without a base and their numbers differ, or one has a base and
-- the other is the function's own
abbrev pub are_apart : Array → Array → Bool
are_apart x y = if has_base x then is_own_array y else if has_base y then is_own_array x else not (x.named == y.named)

abbrev pub AreApart : Array → Array → Type 0
AreApart x y = are_apart x y ≡ true

-- two arrays of a function may share a word
abbrev pub may_meet : List Array → ℕ → ℕ → Bool
may_meet arrays a b = not (are_apart (array_in arrays a) (array_in arrays b))

-- arrays of these numbers are global
abbrev pub GlobalsFirst : (globals : ℕ) → List Array → Type 0
GlobalsFirst globals arrays = (a : ℕ) → a < globals → (array_in arrays a).global ≡ true

-- so in each function of a program
abbrev pub HasGlobalsFirst : Flow → Type 0
HasGlobalsFirst flow = (f : ℕ) (g : Graph) → slice_get flow.functions f ≡ Some g → GlobalsFirst (length flow.globals) g.arrays

-- by the places behind the globals, a spot is passed for each array with a base and for no other
abbrev pub Aligned : (globals : ℕ) → List Array → List (Option ℕ) → Type 0
Aligned globals arrays passed = (j : ℕ) → has_base (array_in arrays (globals + j)) ≡ is_given (slice_index_or passed j None)

-- each spot that is passed is in front of the function's own arrays
abbrev pub PassedBelow : (base : ℕ) → List (Option ℕ) → Type 0
PassedBelow base passed = (j k : ℕ) → slice_index_or passed j None ≡ Some k → k < base

-- arrays that are apart stand at different spots
abbrev pub StandApart : List Array → (ℕ → ℕ) → Type 0
StandApart arrays spot = (a b : ℕ) → AreApart (array_in arrays a) (array_in arrays b) → spot a ≡ spot b → ⊥
