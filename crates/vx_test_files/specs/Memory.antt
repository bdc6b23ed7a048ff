-- What a depot in memory holds, and what it is after a call.
use Rattle.std.specs.Prelude.{◌≡◌, ℕ, Bool, List, [], ◌∷◌, None, Some, if◌then◌else◌, map, String, string_bytes, Vec}
use Rattle.std.specs.declared.alloc.Global.{Global}
use Rattle.std.specs.Str.{bytes_eq}
use Rattle.vx_io.specs.Outside.{Files, is_listed, one_more}

pub record NamedFile : Type 0 where
  pub name : List ℕ
  pub content : List ℕ

-- what the first file of this name holds
abbrev pub content_in : List NamedFile → Files
content_in [] name = None
content_in (file ∷ files) name = if bytes_eq name file.name then Some file.content else content_in files name

-- no two files have one name
abbrev pub NamesDiffer : List NamedFile → Type 0
NamesDiffer [] = Unit {0}
NamesDiffer (file ∷ files) = (content_in files file.name ≡ None) × NamesDiffer files

abbrev pub named_file : (String Global × Vec ℕ Global) → NamedFile
named_file file = record { name = string_bytes file.0; content = file.1.items }

abbrev pub named_files : List (String Global × Vec ℕ Global) → List NamedFile
named_files files = map named_file files

-- what a depot in memory holds: its files, which calls fail by their numbers from 1, reads and replacings numbered
-- together, how many calls there were, and how many of each kind failed
pub record DepotMemory : Type 0 where
  pub files : List NamedFile
  pub failing : List ℕ
  pub calls : ℕ
  pub failed_reads : ℕ
  pub failed_replaces : ℕ

-- the next call is one of those that fail
abbrev pub next_fails : DepotMemory → Bool
next_fails depot = is_listed (one_more depot.calls) depot.failing

-- the depot after a read: the call is counted, and its failure
abbrev pub after_read : DepotMemory → DepotMemory
after_read depot = record depot { calls = one_more depot.calls; failed_reads = if next_fails depot then one_more depot.failed_reads else depot.failed_reads }

-- the depot after a replacing, but for its files
abbrev pub after_replace : DepotMemory → List NamedFile → DepotMemory
after_replace depot files = record depot { files = files; calls = one_more depot.calls; failed_replaces = if next_fails depot then one_more depot.failed_replaces else depot.failed_replaces }
