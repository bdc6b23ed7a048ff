-- What the reading of a whole file, up to a bound on its length, answers.
use Rattle.std.specs.Prelude.{◌≡◌, ◌<◌, ◌≤◌, ℕ, List, length, Some}
use Rattle.vx_io.specs.declared.whole_file.FileRead.{FileRead}
use Rattle.vx_io.specs.declared.whole_file.FileRead.TheVariants.{Whole, TooLong}
use Rattle.vx_io.specs.Outside.{Files}

-- of a file of this content: the content, where it is within the bound, else that it is not
abbrev pub IsReadingOf : List ℕ → ℕ → FileRead → Type 0
IsReadingOf content most (Whole bytes) = (bytes.items ≡ content) × (length content ≤ most)
IsReadingOf content most TooLong = most < length content

-- the answer is of what the name holds
pub record ReadsFile (held : Files) (name : List ℕ) (most : ℕ) (read : FileRead) : Type 0 where
  pub content : List ℕ
  pub holds : held name ≡ Some content
  pub answers : IsReadingOf content most read

-- what is read is within the bound
abbrev pub HasAtMost : ℕ → FileRead → Type 0
HasAtMost most (Whole bytes) = length bytes.items ≤ most
HasAtMost most TooLong = Unit {0}
