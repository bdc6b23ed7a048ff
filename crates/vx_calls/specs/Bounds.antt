-- How large frames and memory may be, and when those of a program are no larger.
use Rattle.std.specs.Prelude.{◌≡◌, ◌≤◌, ◌+◌, ℕ, zero, suc, Some, List, [], ◌∷◌, length, slice_get}
use Rattle.vx_flow.specs.declared.graph.Array.{Array}
use Rattle.vx_flow.specs.declared.graph.Flow.{Flow}
use Rattle.vx_flow.specs.declared.graph.Graph.{Graph}
use Rattle.vx_flow.specs.Effects.{IsIn}
use Rattle.vx_mixed.specs.declared.layout.VWords.{VWords}
use Rattle.vx_mixed.specs.Settled.{NoTwice}
use Rattle.vx_regs.specs.declared.map.Kept.TheVariants.{InSlot}
use Rattle.vx_regs.specs.declared.map.RegMap.{RegMap}
use Rattle.vx_regs.specs.Intervals.{IsLive}
use Rattle.vx_regs.specs.Mapped.{kept_of}
use Rattle.vx_target.specs.Tied.{words_before}

-- the most words of all globals
abbrev pub most_global_words : ℕ
most_global_words = 262144

-- the most words of a frame
abbrev pub most_frame_words : ℕ
most_frame_words = 64256

-- a value that may need a slot: a parameter, one that is kept in a slot, or one that is live at some word
pub data MayNeedSlot (parameters : List ℕ) (l : VWords) (map : RegMap) (v : ℕ) : Type 0 where
  passes : IsIn v parameters → MayNeedSlot parameters l map v
  keeps : (k : ℕ) → kept_of map v ≡ InSlot k → MayNeedSlot parameters l map v
  lives : (p : ℕ) → IsLive l p v → MayNeedSlot parameters l map v

-- the words of the arrays behind the globals, of which there are so many
abbrev pub own_words : (globals : ℕ) → List Array → ℕ
own_words globals [] = 0
own_words zero (x ∷ xs) = x.words + own_words zero xs
own_words (suc globals) (x ∷ xs) = own_words globals xs

-- a frame of so many words: the link, a slot for each of some values that need one, and the arrays behind the globals
pub record HasSize (Needs : ℕ → Type 0) (globals : ℕ) (arrays : List Array) (words : ℕ) : Type 0 where
  pub values : List ℕ
  pub once : NoTwice values
  pub each : (v : ℕ) → IsIn v values → Needs v
  pub words_are : words ≡ 1 + length values + own_words globals arrays

-- each such frame of the function is within the bound, whichever values have a slot
abbrev pub SmallFrame : Graph → (globals : ℕ) → VWords → RegMap → Type 0
SmallFrame graph globals l map = (words : ℕ) → HasSize (MayNeedSlot graph.parameters l map) globals graph.arrays words → words ≤ most_frame_words

-- the globals of a program and the frames of its functions are within their bounds, so that its memory has at most 132,644,864 bytes
pub record FitsMemory (flow : Flow) (ls : List VWords) (maps : List RegMap) : Type 0 where
  pub globals : words_before flow.globals (length flow.globals) ≤ most_global_words
  pub frames : (f : ℕ) (graph : Graph) (l : VWords) (map : RegMap) → slice_get flow.functions f ≡ Some graph → slice_get ls f ≡ Some l → slice_get maps f ≡ Some map → SmallFrame graph (length flow.globals) l map
