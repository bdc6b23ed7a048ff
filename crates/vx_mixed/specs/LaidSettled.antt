-- When a layout is settled: each of its words can be issued by the machine, and none meets a write that is in flight.
use Rattle.std.specs.Prelude.{◌≡◌, ◌≢◌, ◌⊎◌, ◌<◌, ◌≤◌, ◌+◌, ◌-◌, ◌/◌, ◌%◌, nat_lt, if◌then◌else◌, ℕ, suc, Bool, true, Option, Some, None, List, [], ◌∷◌, length, slice_get}
use Rattle.std.specs.List.{flat_map}
use Rattle.vx_flow.specs.declared.graph.Bank.{Bank}
use Rattle.vx_flow.specs.declared.graph.Bank.TheVariants.{General, Branch}
use Rattle.vx_flow.specs.declared.graph.Op.{Op}
use Rattle.vx_flow.specs.declared.graph.Op.TheVariants.{Across}
use Rattle.vx_flow.specs.Effects.{IsIn, reads, writes}
use Rattle.vx_mixed.specs.declared.layout.Laid.{Laid}
use Rattle.vx_mixed.specs.declared.layout.Laid.TheVariants.{Plain, Split}
use Rattle.vx_mixed.specs.declared.layout.VirtualWord.{VirtualWord}
use Rattle.vx_mixed.specs.declared.layout.VirtualWord.TheVariants.{Planned, Drain, Transfer, Choice, Call, Return, Ends}
use Rattle.vx_mixed.specs.declared.layout.VWords.{VWords}
use Rattle.vx_mixed.specs.Settled.{has_home, stands_for, read_there, NoTwice}

-- what words read and write

abbrev pub item_reads : Laid → List ℕ
item_reads (Plain op cluster) = reads op
item_reads (Split p y q) = p ∷ []

abbrev pub item_writes : Laid → List ℕ
item_writes (Plain op cluster) = writes op
item_writes (Split p y q) = []

abbrev pub laid_reads : List Laid → List ℕ
laid_reads items = flat_map item_reads items

abbrev pub laid_writes : List Laid → List ℕ
laid_writes items = flat_map item_writes items

-- and the places to which their splits leave

abbrev pub item_ways : Laid → List ℕ
item_ways (Plain op cluster) = []
item_ways (Split p y q) = q ∷ []

abbrev pub laid_ways : List Laid → List ℕ
laid_ways items = flat_map item_ways items

-- the cluster on which a value stands: its home, or the one to which it is a copy; a value that no operation names stands on
-- cluster 0
abbrev pub or_zero : Option ℕ → ℕ
or_zero None = 0
or_zero (Some k) = k

abbrev pub home_in : VWords → ℕ → ℕ
home_in l v = if nat_lt v (length l.banks) then or_zero (has_home l.homes.clusters v) else v / length l.banks - 1

abbrev pub bank_in : VWords → ℕ → Option Bank
bank_in l v = slice_get l.banks (v % length l.banks)

-- where a word may lead inside of its function, with every split either way
abbrev pub LeadsTo : (place : ℕ) → VirtualWord → ℕ → Type 0
LeadsTo p (Planned r w items) q = (q ≡ suc p) ⊎ ((test : ℕ) × (y : Bool) × IsIn (Split test y q) items)
LeadsTo p (Drain n) q = q ≡ suc p
LeadsTo p (Transfer t) q = q ≡ t
LeadsTo p (Choice test t) q = (q ≡ t) ⊎ (q ≡ suc p)
LeadsTo p (Call g arguments result) q = q ≡ suc p
LeadsTo p (Return x) q = ⊥
LeadsTo p (Ends k) q = ⊥

-- how many cycles it takes
abbrev pub cycles_of : VirtualWord → ℕ
cycles_of (Drain n) = n
cycles_of word = 1

-- all that is in flight has landed before a word that is none of a region and none of its empty cycles
abbrev pub LeavesCold : VirtualWord → Type 0
LeavesCold (Call g arguments result) = Unit {0}
LeavesCold (Return x) = Unit {0}
LeavesCold (Planned r w items) = ⊥
LeavesCold (Drain n) = ⊥
LeavesCold (Transfer q) = Unit {0}
LeavesCold (Choice test q) = Unit {0}
LeavesCold (Ends k) = Unit {0}

abbrev pub Plans : VWords → ℕ → List Laid → Type 0
Plans l p items = (r : ℕ) × (w : ℕ) × (slice_get l.words p ≡ Some (Planned r w items))

-- Along some way of words a write to v has this many cycles left when the word at a place is issued.
pub data Pends (latency : Op → ℕ) (l : VWords) : (place v left : ℕ) → Type 0 where
  written : {p q v r w : ℕ} {items : List Laid} (op : Op) (cluster : ℕ) → slice_get l.words p ≡ Some (Planned r w items) → IsIn (Plain op cluster) items → IsIn v (writes op) → LeadsTo p (Planned r w items) q → Pends latency l q v (latency op - 1)
  later : {q v : ℕ} (p n : ℕ) (word : VirtualWord) → Pends latency l p v n → slice_get l.words p ≡ Some word → LeadsTo p word q → Pends latency l q v (n - cycles_of word)

-- the layout is settled for a machine with these latencies, where `room` tells which words the machine has room for
pub record SettledLayout (room : List (Option ℕ) → List Laid → Bool) (latency : Op → ℕ) (l : VWords) : Type 0 where
  -- how many cycles a write to a value may still need when the word at a place is issued
  pub left : (place value : ℕ) → ℕ
  -- every word leads to one of the layout, and so does the entry
  pub inside : (p q : ℕ) (word : VirtualWord) → slice_get l.words p ≡ Some word → LeadsTo p word q → q < length l.words
  pub entry : l.entry < length l.words
  -- the machine has room for each planned word, which writes no value twice, and whose splits leave to places that differ
  pub fits : (p : ℕ) (items : List Laid) → Plans l p items → room l.homes.clusters items ≡ true
  pub once : (p : ℕ) (items : List Laid) → Plans l p items → NoTwice (laid_writes items)
  pub ways : (p : ℕ) (items : List Laid) → Plans l p items → NoTwice (laid_ways items)
  -- each operation names values of its own cluster, but for the operand of a copy across; a split tests a branch value
  pub reads_home : (p v cluster : ℕ) (op : Op) (items : List Laid) → Plans l p items → IsIn (Plain op cluster) items → IsIn v (read_there op) → stands_for (bank_in l v) (Some (home_in l v)) cluster
  pub writes_home : (p v cluster : ℕ) (op : Op) (items : List Laid) → Plans l p items → IsIn (Plain op cluster) items → IsIn v (writes op) → stands_for (bank_in l v) (Some (home_in l v)) cluster
  -- a copy across comes from another cluster
  pub across : (p v u cluster : ℕ) (items : List Laid) → Plans l p items → IsIn (Plain (Across v u) cluster) items → bank_in l v ≡ Some General → home_in l u ≢ cluster
  pub tests : (p test q : ℕ) (y : Bool) (items : List Laid) → Plans l p items → IsIn (Split test y q) items → bank_in l test ≡ Some Branch
  -- no word reads or writes a value that is in flight
  pub reads_none : (p v : ℕ) (items : List Laid) → Plans l p items → IsIn v (laid_reads items) → left p v ≡ 0
  pub writes_none : (p v : ℕ) (items : List Laid) → Plans l p items → IsIn v (laid_writes items) → left p v ≡ 0
  pub choices : (p test q : ℕ) → slice_get l.words p ≡ Some (Choice test q) → left p test ≡ 0
  pub cold : (p v : ℕ) (word : VirtualWord) → slice_get l.words p ≡ Some word → LeavesCold word → left p v ≡ 0
  -- what is left passes on from word to word, and what a word writes comes to it
  pub kept : (p q v : ℕ) (word : VirtualWord) → slice_get l.words p ≡ Some word → LeadsTo p word q → left p v ≤ left q v + cycles_of word
  pub fresh : (p q v r w cluster : ℕ) (op : Op) (items : List Laid) → slice_get l.words p ≡ Some (Planned r w items) → LeadsTo p (Planned r w items) q → IsIn (Plain op cluster) items → IsIn v (writes op) → latency op ≤ left q v + 1
  -- and no more is left than along some way
  pub attained : (p v n : ℕ) → left p v ≡ suc n → Pends latency l p v (suc n)
