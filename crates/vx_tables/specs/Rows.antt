-- What is in a list, and rows of growing tables. A row that is not there is empty.
use Rattle.std.specs.Prelude.{◌≡◌, ◌⊎◌, ◌==◌, ◌<◌, ◌+◌, ◌∷◌, ◌++◌, ℕ, Bool, true, false, List, [], Some, length, slice_get, slice_index_or}
use Rattle.std.specs.List.{list_any}

-- x is among the items
abbrev pub IsIn : {A : Type 0} → A → List A → Type 0
IsIn x [] = ⊥
IsIn x (y ∷ ys) = (x ≡ y) ⊎ IsIn x ys

abbrev pub row_at : {A : Type 0} → List (List A) → ℕ → List A
row_at rows place = slice_index_or rows place []

-- whether a place of a row is marked
abbrev pub is_marked : List Bool → ℕ → Bool
is_marked row place = slice_index_or row place false

-- how many places of a row are not marked
abbrev pub unmarked : List Bool → ℕ
unmarked [] = 0
unmarked (true ∷ marks) = unmarked marks
unmarked (false ∷ marks) = unmarked marks + 1

-- what is left to do where each place that is marked is followed once: one that is not marked counts twice, one that waits once
abbrev pub work : List Bool → (waiting : List ℕ) → ℕ
work marks waiting = unmarked marks + unmarked marks + length waiting

-- what is in a row stays there
abbrev pub RowsKept : List (List ℕ) → List (List ℕ) → Type 0
RowsKept before after = (row other : ℕ) → IsIn other (row_at before row) → IsIn other (row_at after row)

-- an item is put at the end of one row, and all others are as they were
pub record Added (place item : ℕ) (before after : List (List ℕ)) : Type 0 where
  pub there : row_at after place ≡ row_at before place ++ item ∷ []
  pub elsewhere : (row : ℕ) → (row ≡ place → ⊥) → row_at after row ≡ row_at before row

-- value v is listed at block b
abbrev pub lives : List (List ℕ) → ℕ → ℕ → Bool
lives rows b v = list_any (λ u. u == v) (row_at rows b)

-- each number is greater than those before it
abbrev pub Rising : List ℕ → Type 0
Rising xs = (i j x y : ℕ) → i < j → slice_get xs i ≡ Some x → slice_get xs j ≡ Some y → x < y
