-- The arrays of one activation in memory, each for itself.
use Rattle.std.specs.Prelude.{◌≡◌, ◌<◌, ◌+◌, ℕ, ℤ, Some, None, List, length, slice_get, slice_index_or}
use Rattle.vx_flow.specs.declared.graph.Array.{Array}
use Rattle.vx_flow.specs.Effects.{Content}
use Rattle.vx_flow.specs.Meaning.{spot_in}
use Rattle.vx_target.specs.Target.{Target}
use Rattle.vx_target.specs.Tied.{Stacked, row_in, word_at, begins_at}

-- the words of an array stand in memory where they are known
pub record Row (memory : ℕ → ℤ) (at words : ℕ) (row : List Content) : Type 0 where
  pub size : length row ≡ words
  pub is : (i : ℕ) (n : ℤ) → i < words → slice_index_or row i None ≡ Some n → word_at memory (at + i) ≡ n

-- the arrays that an activation sees: the globals and its own where the target says, with their words, and those that were handed to it
-- at the seats of their rows, as long as these are
pub record Arrays (T : Target) (globals : ℕ) (memory : ℕ → ℤ) (seats : ℕ → ℕ) (x : Stacked) (rows : List (List Content)) : Type 0 where
  pub row : (a : ℕ) (array : Array) → slice_get (T.graph x.function).arrays a ≡ Some array → array.base ≡ None → Row memory (begins_at T x.frame x.function a) array.words (row_in rows (spot_in globals x.passed x.base a))
  pub handed : (a : ℕ) (array : Array) → slice_get (T.graph x.function).arrays a ≡ Some array → Row memory (seats (spot_in globals x.passed x.base a)) (length (row_in rows (spot_in globals x.passed x.base a))) (row_in rows (spot_in globals x.passed x.base a))
  pub stands : (a : ℕ) (array : Array) → slice_get (T.graph x.function).arrays a ≡ Some array → spot_in globals x.passed x.base a < length rows
