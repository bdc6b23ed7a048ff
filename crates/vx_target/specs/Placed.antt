-- The words of a whole program: pieces that stand one after the other, each at the place of its label.
use Rattle.std.specs.Prelude.{◌≡◌, ℕ, zero, suc, ◌+◌, List, [], ◌∷◌, ◌++◌, length, Some, Option, slice_get}
use Rattle.std.specs.List.{flat_map}
use Rattle.vx_base.specs.declared.outcome.Trap.TheVariants.{Depth as ByDepth}
use Rattle.vx_flow.specs.declared.graph.Operand.{Operand}
use Rattle.vx_isa.specs.declared.operation.Operation.TheVariants.{EndByTrap}
use Rattle.vx_isa.specs.declared.program.Word.{Word}
use Rattle.vx_mixed.specs.declared.layout.Laid.{Laid}
use Rattle.vx_mixed.specs.declared.layout.Laid.TheVariants.{Plain, Split}
use Rattle.vx_mixed.specs.declared.layout.VirtualWord.{VirtualWord}
use Rattle.vx_mixed.specs.declared.layout.VirtualWord.TheVariants.{Planned, Drain, Transfer, Choice, Call, Return, Ends}
use Rattle.vx_mixed.specs.LaidSettled.{laid_writes}
use Rattle.vx_target.specs.Target.{Target, slotted, one, landing_words, word_words, call_words, entry_words, start_words}

pub data Label : Type 0 where
  Start : Label
  Entry : (function : ℕ) → Label
  At : (function place : ℕ) → Label
  Landing : (function place to : ℕ) → Label
  Depth : Label

pub record Labelled : Type 0 where
  pub label : Label
  pub words : List Word

abbrev pub place_of : Target → Label → ℕ
place_of T Start = 0
place_of T (Entry f) = T.entry f
place_of T (At f p) = T.starts f p
place_of T (Landing f p q) = T.landing f p q
place_of T Depth = T.depth_trap

-- the words of a layout; behind the last one stands nothing
abbrev pub laid_pieces : Target → (function place : ℕ) → List VirtualWord → List Labelled
laid_pieces T f p [] = record { label = At f p; words = [] } ∷ []
laid_pieces T f p (word ∷ words) = record { label = At f p; words = word_words T f p word } ∷ laid_pieces T f (suc p) words

-- a split of a word has a landing where the word leaves results in scratch registers
abbrev pub landing_of : Target → (function place : ℕ) → List Laid → (scratch : List ℕ) → (to : ℕ) → List Labelled
landing_of T f p items [] q = []
landing_of T f p items (v ∷ vs) q = record { label = Landing f p q; words = landing_words T f items q } ∷ []

abbrev pub item_landings : Target → (function place : ℕ) → List Laid → List Laid → List Labelled
item_landings T f p items [] = []
item_landings T f p items (Plain op cluster ∷ rest) = item_landings T f p items rest
item_landings T f p items (Split test y q ∷ rest) = landing_of T f p items (slotted T f (laid_writes items)) q ++ item_landings T f p items rest

abbrev pub word_landings : Target → (function place : ℕ) → VirtualWord → List Labelled
word_landings T f p (Planned r w items) = item_landings T f p items items
word_landings T f p (Drain n) = []
word_landings T f p (Transfer q) = []
word_landings T f p (Choice test q) = []
word_landings T f p (Call g arguments result) = []
word_landings T f p (Return x) = []
word_landings T f p (Ends k) = []

abbrev pub landing_pieces : Target → (function place : ℕ) → List VirtualWord → List Labelled
landing_pieces T f p [] = []
landing_pieces T f p (word ∷ words) = word_landings T f p word ++ landing_pieces T f (suc p) words

abbrev pub function_pieces : Target → (function : ℕ) → List Labelled
function_pieces T f = record { label = Entry f; words = entry_words T f } ∷ (laid_pieces T f 0 (T.layout f).words ++ landing_pieces T f 0 (T.layout f).words)

-- so many functions, from one on
abbrev pub functions_pieces : Target → (function count : ℕ) → List Labelled
functions_pieces T f zero = []
functions_pieces T f (suc n) = function_pieces T f ++ functions_pieces T (suc f) n

abbrev pub all_pieces : Target → (main count : ℕ) → List Labelled
all_pieces T main count = record { label = Start; words = start_words T main } ∷ (functions_pieces T 0 count ++ record { label = Depth; words = one (EndByTrap ByDepth) ∷ [] } ∷ [])

abbrev pub words_of : List Labelled → List Word
words_of pieces = flat_map (λ x. x.words) pieces

-- each piece stands at the place of its label
abbrev pub PlacedAt : Target → (place : ℕ) → List Labelled → Type 0
PlacedAt T q [] = Unit {0}
PlacedAt T q (x ∷ xs) = (place_of T x.label ≡ q) × PlacedAt T (q + length x.words) xs

-- the words are those of the target, and stand where it says; a call returns behind its last word
pub record IsPlaced (T : Target) (main count : ℕ) (words : List Word) : Type 0 where
  pub is : words ≡ words_of (all_pieces T main count)
  pub places : PlacedAt T 0 (all_pieces T main count)
  pub backs : (f p g : ℕ) (arguments : List Operand) (result : Option ℕ) → slice_get (T.layout f).words p ≡ Some (Call g arguments result) → T.back f p ≡ T.starts f p + length (call_words T f p g arguments)
