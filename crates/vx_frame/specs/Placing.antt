-- The places of the words of a function, where its first word stands at a place.
use Rattle.std.specs.Prelude.{◌≡◌, ℕ, zero, suc, ◌+◌, Some, List, [], ◌∷◌, length, slice_get, slice_index_or}
use Rattle.vx_mixed.specs.declared.layout.Laid.{Laid}
use Rattle.vx_mixed.specs.declared.layout.VirtualWord.{VirtualWord}
use Rattle.vx_mixed.specs.declared.layout.VirtualWord.TheVariants.{Planned, Drain, Transfer, Choice, Call, Return, Ends}
use Rattle.vx_mixed.specs.LaidSettled.{laid_reads, laid_ways}
use Rattle.vx_mixed.specs.Settled.{NoTwice}
use Rattle.vx_slots.specs.declared.program.FunctionPlaces.{FunctionPlaces}
use Rattle.vx_slots.specs.declared.program.SplitLanding.{SplitLanding}
use Rattle.vx_target.specs.Target.{Target, before, call_words, word_words, entry_words, start_words}
use Rattle.vx_slots.specs.Seen.{landed, no_places}
use Rattle.vx_carry.specs.Landings.{item_spots}
use Rattle.vx_target.specs.Placed.{laid_pieces, word_landings, function_pieces, functions_pieces, words_of}

-- the words of a layout from place p on, of which the first one's words begin at q
abbrev pub starts_from : Target → (function q p : ℕ) → List VirtualWord → List ℕ
starts_from T f q p [] = q ∷ []
starts_from T f q p (word ∷ words) = q ∷ starts_from T f (q + length (word_words T f p word)) (suc p) words

-- the landings of the splits of a word, of which the first one stands at q
abbrev pub word_spots : Target → (function place q : ℕ) → VirtualWord → List SplitLanding
word_spots T f p q (Planned r w items) = item_spots T f p q items items
word_spots T f p q (Drain n) = []
word_spots T f p q (Transfer to) = []
word_spots T f p q (Choice test to) = []
word_spots T f p q (Call g arguments result) = []
word_spots T f p q (Return x) = []
word_spots T f p q (Ends k) = []

abbrev pub landings_from : Target → (function q p : ℕ) → List VirtualWord → List (List SplitLanding)
landings_from T f q p [] = []
landings_from T f q p (word ∷ words) = word_spots T f p q word ∷ landings_from T f (q + length (words_of (word_landings T f p word))) (suc p) words

-- where the operations of a planned word stand, and where a call returns
abbrev pub mark_of : Target → (function q p : ℕ) → VirtualWord → ℕ
mark_of T f q p (Planned r w items) = q + length (before T f (laid_reads items))
mark_of T f q p (Call g arguments result) = q + length (call_words T f p g arguments)
mark_of T f q p (Drain n) = 0
mark_of T f q p (Transfer to) = 0
mark_of T f q p (Choice test to) = 0
mark_of T f q p (Return x) = 0
mark_of T f q p (Ends k) = 0

abbrev pub marks_from : Target → (function q p : ℕ) → List VirtualWord → List ℕ
marks_from T f q p [] = []
marks_from T f q p (word ∷ words) = mark_of T f q p word ∷ marks_from T f (q + length (word_words T f p word)) (suc p) words

-- where the words of a layout begin, and where its landings do, behind the entry of the function at q
abbrev pub laid_begin : Target → (function q : ℕ) → ℕ
laid_begin T f q = q + length (entry_words T f)

abbrev pub landings_begin : Target → (function q : ℕ) → ℕ
landings_begin T f q = laid_begin T f q + length (words_of (laid_pieces T f 0 (T.layout f).words))

abbrev pub places_at : Target → (function q : ℕ) → FunctionPlaces
places_at T f q = record {
  entry = q;
  starts = starts_from T f (laid_begin T f q) 0 (T.layout f).words;
  landings = landings_from T f (landings_begin T f q) 0 (T.layout f).words;
  marks = marks_from T f (laid_begin T f q) 0 (T.layout f).words;
}

-- so many functions, from one on, of which the first one begins at q
abbrev pub all_places : Target → (q function count : ℕ) → List FunctionPlaces
all_places T q f zero = []
all_places T q f (suc n) = places_at T f q ∷ all_places T (q + length (words_of (function_pieces T f))) (suc f) n

-- the places of the words of all functions
pub record Spots : Type 0 where
  pub entry : ℕ → ℕ
  pub starts : (function place : ℕ) → ℕ
  pub landing : (function place to : ℕ) → ℕ
  pub back : (function place : ℕ) → ℕ
  pub depth_trap : ℕ

-- the target with these places
abbrev pub at_spots : Target → Spots → Target
at_spots T s = record T { entry = s.entry; starts = s.starts; landing = s.landing; back = s.back; depth_trap = s.depth_trap }

-- the splits of each planned word leave to places that differ, so that each has a landing of its own
abbrev pub WaysDiffer : List VirtualWord → Type 0
WaysDiffer words = (p r w : ℕ) (items : List Laid) → slice_get words p ≡ Some (Planned r w items) → NoTwice (laid_ways items)

-- those of a list, and the place of the trap; what is not in the list is 0
abbrev pub spots_of : List FunctionPlaces → (trap : ℕ) → Spots
spots_of xs trap = record {
  entry = λ f. (slice_index_or xs f no_places).entry;
  starts = λ f p. slice_index_or (slice_index_or xs f no_places).starts p 0;
  landing = λ f p to. landed (slice_index_or (slice_index_or xs f no_places).landings p []) to;
  back = λ f p. slice_index_or (slice_index_or xs f no_places).marks p 0;
  depth_trap = trap;
}

-- where the functions begin, behind the start of the program, and where they end
abbrev pub functions_begin : Target → (main : ℕ) → ℕ
functions_begin T main = length (start_words T main)

abbrev pub functions_end : Target → (main count : ℕ) → ℕ
functions_end T main count = functions_begin T main + length (words_of (functions_pieces T 0 count))

-- the target with the places at which its words stand
abbrev pub standing : Target → (main count : ℕ) → Target
standing T main count = at_spots T (spots_of (all_places T (functions_begin T main) 0 count) (functions_end T main count))
