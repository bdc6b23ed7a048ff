-- How the planned words of a layout are numbered.
use Rattle.std.specs.Prelude.{◌≡◌, ◌<◌, ◌==◌, ℕ, Bool, false, Some, List, length, take, slice_get}
use Rattle.std.specs.List.{filter}
use Rattle.vx_mixed.specs.declared.layout.Laid.{Laid}
use Rattle.vx_mixed.specs.declared.layout.VirtualWord.{VirtualWord}
use Rattle.vx_mixed.specs.declared.layout.VirtualWord.TheVariants.{Planned, Drain, Transfer, Choice, Call, Return, Ends}
use Rattle.vx_mixed.specs.declared.layout.VWords.{VWords}

-- the word is a planned one of region r
abbrev pub is_word_of : (r : ℕ) → VirtualWord → Bool
is_word_of r (Planned s w items) = s == r
is_word_of r (Drain n) = false
is_word_of r (Transfer q) = false
is_word_of r (Choice test q) = false
is_word_of r (Call g arguments result) = false
is_word_of r (Return x) = false
is_word_of r (Ends k) = false

-- how many of some words are
abbrev pub words_in : (r : ℕ) → List VirtualWord → ℕ
words_in r words = length (filter (is_word_of r) words)

-- a planned word is one of the regions that are laid out, and its number is how many words of its region stand before it
pub record IsNumbered (l : VWords) : Type 0 where
  pub region : (p r w : ℕ) (items : List Laid) → slice_get l.words p ≡ Some (Planned r w items) → r < l.regions
  pub word : (p r w : ℕ) (items : List Laid) → slice_get l.words p ≡ Some (Planned r w items) → w ≡ words_in r (take p l.words)
