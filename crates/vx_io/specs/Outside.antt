-- What a depot of files and a sink of bytes do in a call, as their contracts and those of their callers say it.
use Rattle.std.specs.Prelude.{◌≡◌, ◌≢◌, ◌⊎◌, ◌<◌, ◌≤◌, ◌+◌, ◌-◌, ◌^◌, ◌==◌, ℕ, Bool, List, ◌++◌, length, take, drop, min, Option, Some, if◌then◌else◌, ◌||◌, ◌&&◌, not}
use Rattle.std.specs.Option.{option_map}
use Rattle.std.specs.List.{list_any}
use Rattle.std.specs.Str.{bytes_eq}
use Rattle.vx_base.specs.Outcome.{Begins}

-- a count rose; one that stands at its greatest value may have risen
abbrev pub Rose : ℕ → ℕ → Type 0
Rose before after = (before < after) ⊎ (after ≡ 2 ^ 64 - 1)

-- a count after one more, which stays at its greatest value
abbrev pub one_more : ℕ → ℕ
one_more count = min (count + 1) (2 ^ 64 - 1)

-- the number is in the list
abbrev pub is_listed : ℕ → List ℕ → Bool
is_listed number list = list_any (λ other. other == number) list

-- Files

-- what each name holds
abbrev pub Files : Type 0
Files = List ℕ → Option (List ℕ)

-- the files once a name holds these bytes, and each other name what it held
abbrev pub held_with : List ℕ → List ℕ → Files → Files
held_with name bytes held = λ other. if bytes_eq other name then Some bytes else held other

-- what a depot tells then; where it tells nothing, nothing
abbrev pub with_file : Option Files → List ℕ → List ℕ → Option Files
with_file told name bytes = option_map (held_with name bytes) told

-- so many bytes of the named file, from the place on, stand at the front of the buffer; of a buffer with room there
-- is none only at the file's end or past it
pub record ReadsAt (held : Files) (name : List ℕ) (place count : ℕ) (buffer : List ℕ) : Type 0 where
  pub content : List ℕ
  pub rest : List ℕ
  pub holds : held name ≡ Some content
  pub bytes : drop place content ≡ take count buffer ++ rest
  pub end : count ≡ 0 → 0 < length buffer → length content ≤ place

-- the named file holds a front of the bytes, and each other file is as it was
pub record HoldsFront (before after : Option Files) (name bytes : List ℕ) : Type 0 where
  pub front : List ℕ
  pub begins : Begins front bytes
  pub holds : after ≡ with_file before name front

-- a replacing that was cut short: the files are as they were, or the named one holds a front of the bytes
abbrev pub ReplacesPartly : Option Files → Option Files → List ℕ → List ℕ → Type 0
ReplacesPartly before after name bytes = (after ≡ before) ⊎ HoldsFront before after name bytes

-- the failures that a depot has counted
pub record DepotCounts : Type 0 where
  pub failed_reads : ℕ
  pub failed_replaces : ℕ

-- Sinks

-- what a sink tells once these bytes were put: the bytes before with these behind; where it tells nothing, nothing
abbrev pub with_bytes : Option (List ℕ) → List ℕ → Option (List ℕ)
with_bytes told bytes = option_map (λ before. before ++ bytes) told

-- a front of the bytes was put, and no more
pub record PutsFront (before after : Option (List ℕ)) (bytes : List ℕ) : Type 0 where
  pub front : List ℕ
  pub begins : Begins front bytes
  pub put : after ≡ with_bytes before front

-- what a sink in memory holds: the bytes put, how many have room, which puts fail by their numbers from 1,
-- how many puts there were and how many of them failed
pub record SinkMemory : Type 0 where
  pub bytes : List ℕ
  pub room : ℕ
  pub failing : List ℕ
  pub puts : ℕ
  pub faults : ℕ

-- how many of these bytes still have room
abbrev pub bytes_that_fit : SinkMemory → List ℕ → ℕ
bytes_that_fit sink bytes = min (sink.room - length sink.bytes) (length bytes)

-- the next put of these bytes fails: its number is listed, or there are bytes and none fits
abbrev pub put_fails : SinkMemory → List ℕ → Bool
put_fails sink bytes = is_listed (one_more sink.puts) sink.failing || (bytes_that_fit sink bytes == 0 && not (length bytes == 0))

-- Laws, each the clause of a public function

-- a file that was replaced holds its bytes
abbrev pub ReplacedHolds : Type 0
ReplacedHolds = (name bytes : List ℕ) (held : Files) → held_with name bytes held name ≡ Some bytes

-- each other name holds what it held
abbrev pub OthersStay : Type 0
OthersStay = (name bytes : List ℕ) (held : Files) (other : List ℕ) → other ≢ name → held_with name bytes held other ≡ held other

-- bytes put in two pieces are those put in one
abbrev pub PiecesJoin : Type 0
PiecesJoin = (told : Option (List ℕ)) (front back : List ℕ) → with_bytes (with_bytes told front) back ≡ with_bytes told (front ++ back)

-- a count that never falls and rose in a call, rose over all calls
abbrev pub RoseThroughout : Type 0
RoseThroughout = (first before after last : ℕ) → first ≤ before → before ≤ after → after ≤ last → Rose before after → Rose first last
