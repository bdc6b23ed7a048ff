-- Values that are marked: which of them a word names.
use Rattle.std.specs.Prelude.{◌≡◌, ◌⊎◌, ℕ, Bool, true, false, List, ◌++◌, slice_index_or}
use Rattle.std.specs.List.{flat_map}
use Rattle.vx_flow.specs.Effects.{IsIn}
use Rattle.vx_mixed.specs.declared.layout.VirtualWord.{VirtualWord}
use Rattle.vx_regs.specs.Intervals.{word_reads, word_writes}

abbrev pub is_marked : List Bool → ℕ → Bool
is_marked marks v = slice_index_or marks v false

-- these values are marked afterwards, and those that were before
pub record Marks (values : List ℕ) (old new : List Bool) : Type 0 where
  pub named : (v : ℕ) → IsIn v values → is_marked new v ≡ true
  pub kept : (v : ℕ) → is_marked old v ≡ true → is_marked new v ≡ true

abbrev pub names_of_word : VirtualWord → List ℕ
names_of_word word = word_reads word ++ word_writes word

abbrev pub names_of_words : List VirtualWord → List ℕ
names_of_words words = flat_map names_of_word words

-- each value that the words name is marked, or is named by one of those that are left
abbrev pub Naming : (words left : List VirtualWord) → List Bool → Type 0
Naming words left marks = (v : ℕ) → IsIn v (names_of_words words) → (is_marked marks v ≡ true) ⊎ IsIn v (names_of_words left)
