-- The table of seats: where the rows of storage stand in memory, in one table for all activations.
use Rattle.std.specs.Prelude.{◌≡◌, ◌≢◌, ◌<◌, ◌≤◌, ◌+◌, ℕ, ℤ, Some, None, List, length, slice_get, slice_index_or}
use Rattle.vx_flow.specs.declared.graph.Array.{Array}
use Rattle.vx_flow.specs.declared.graph.Flow.{Flow}
use Rattle.vx_flow.specs.Effects.{Content, IsIn}
use Rattle.vx_flow.specs.Meaning.{spot_in}
use Rattle.vx_mixed.specs.declared.layout.VWords.{VWords}
use Rattle.vx_target.specs.Target.{Target, memory_words}
use Rattle.vx_target.specs.Tied.{IsFunction, Stacked, HasCell, row_in, word_at, begins_at, words_before}
use Rattle.vx_target.specs.Frames.{NeedsSlot, IsFramed}

-- a word of an activation's frame that no array may have: the link, or the slot of a value
pub data Framed (T : Target) (x : Stacked) (word : ℕ) : Type 0 where
  is_link : word ≡ x.frame → Framed T x word
  is_slot : (v : ℕ) → NeedsSlot T x.function v → word ≡ x.frame + T.slot x.function v → Framed T x word

-- the frames of a target are where the functions of a program need them
pub record HasFrames (T : Target) (flow : Flow) (ls : List VWords) : Type 0 where
  pub some : 1 ≤ T.frame
  pub globals : T.globals ≡ words_before flow.globals (length flow.globals)
  pub each : (f : ℕ) → IsFunction T flow ls f → IsFramed T flow f

-- row k begins at word `at k` of memory
pub record Seats (T : Target) (globals : ℕ) (stack : List Stacked) (rows : List (List Content)) (memory : ℕ → ℤ) (at : ℕ → ℕ) : Type 0 where
  -- what is known of a word of a row is in memory, from the row's seat on
  pub known : (k i : ℕ) (n : ℤ) → HasCell rows k i → slice_index_or (row_in rows k) i None ≡ Some n → word_at memory (at k + i) ≡ n
  -- each word of a row is within the memory
  pub inside : (k i : ℕ) → HasCell rows k i → at k + i < memory_words T
  -- no two share a word of memory
  pub apart : (k l i j : ℕ) → HasCell rows k i → HasCell rows l j → at k + i ≡ at l + j → (k ≡ l) × (i ≡ j)
  -- none is where an activation, active or waiting, has its link, or the slot of a value
  pub free : (x : Stacked) (word k i : ℕ) → IsIn x stack → Framed T x word → HasCell rows k i → word ≢ at k + i
  -- each row begins within it, also one without words
  pub low : (k : ℕ) → k < length rows → at k ≤ memory_words T
  -- each array of an activation is the row at its spot
  pub stands : (x : Stacked) (a : ℕ) (array : Array) → IsIn x stack → slice_get (T.graph x.function).arrays a ≡ Some array → spot_in globals x.passed x.base a < length rows
  -- one that was not handed over begins where that row has its seat, and has as many words
  pub begins : (x : Stacked) (a : ℕ) (array : Array) → IsIn x stack → slice_get (T.graph x.function).arrays a ≡ Some array → array.base ≡ None → begins_at T x.frame x.function a ≡ at (spot_in globals x.passed x.base a)
  pub sizes : (x : Stacked) (a : ℕ) (array : Array) → IsIn x stack → slice_get (T.graph x.function).arrays a ≡ Some array → array.base ≡ None → length (row_in rows (spot_in globals x.passed x.base a)) ≡ array.words
