-- At which words of a layout a value is live, named or pending, and the interval of those words.
use Rattle.std.specs.Prelude.{◌≡◌, ◌≤◌, ℕ, suc, Option, Some, None, List, [], ◌∷◌, ◌++◌, slice_get}
use Rattle.std.specs.List.{flat_map}
use Rattle.vx_flow.specs.declared.graph.Op.{Op}
use Rattle.vx_flow.specs.Effects.{IsIn, value_in}
use Rattle.vx_flow.specs.Operands.{value_list}
use Rattle.vx_mixed.specs.declared.layout.VirtualWord.{VirtualWord}
use Rattle.vx_mixed.specs.declared.layout.VirtualWord.TheVariants.{Planned, Drain, Transfer, Choice, Call, Return, Ends}
use Rattle.vx_mixed.specs.declared.layout.VWords.{VWords}
use Rattle.vx_mixed.specs.LaidSettled.{laid_reads, laid_writes, LeadsTo, Pends}

abbrev pub word_reads : VirtualWord → List ℕ
word_reads (Planned r w items) = laid_reads items
word_reads (Drain n) = []
word_reads (Transfer q) = []
word_reads (Choice test q) = test ∷ []
word_reads (Call g arguments result) = flat_map value_in arguments
word_reads (Return x) = value_in x
word_reads (Ends k) = []

abbrev pub result_of : Option ℕ → List ℕ
result_of result = value_list result

abbrev pub word_writes : VirtualWord → List ℕ
word_writes (Planned r w items) = laid_writes items
word_writes (Drain n) = []
word_writes (Transfer q) = []
word_writes (Choice test q) = []
word_writes (Call g arguments result) = result_of result
word_writes (Return x) = []
word_writes (Ends k) = []

-- some way of words from the one at a place on reads v before it writes it; what a word reads was there before the word
pub data IsLive (l : VWords) : (place v : ℕ) → Type 0 where
  here : {p v : ℕ} {word : VirtualWord} → slice_get l.words p ≡ Some word → IsIn v (word_reads word) → IsLive l p v
  beyond : {p q v : ℕ} {word : VirtualWord} → slice_get l.words p ≡ Some word → (IsIn v (word_writes word) → ⊥) → LeadsTo p word q → IsLive l q v → IsLive l p v

-- v is live, named or pending at the word at a place
pub data IsBusy (latency : Op → ℕ) (l : VWords) : (place v : ℕ) → Type 0 where
  is_live : {p v : ℕ} → IsLive l p v → IsBusy latency l p v
  is_named : {p v : ℕ} {word : VirtualWord} → slice_get l.words p ≡ Some word → IsIn v (word_reads word ++ word_writes word) → IsBusy latency l p v
  is_pending : {p v left : ℕ} → Pends latency l p v (suc left) → IsBusy latency l p v

-- the place is in the interval of v: from the first word at which v is busy to the last
pub record Within (latency : Op → ℕ) (l : VWords) (v place : ℕ) : Type 0 where
  pub from : ℕ
  pub to : ℕ
  pub below : from ≤ place
  pub above : place ≤ to
  pub busy_from : IsBusy latency l from v
  pub busy_to : IsBusy latency l to v
