-- What a placement owes to those who leave its trace in the middle or enter it there: the operations that are copied onto
-- the edges of splits and joins, the loads that may be dismissed, and the empty cycles behind each exit.
use Rattle.std.specs.Prelude.{◌+◌, ◌-◌, ◌&&◌, ◌||◌, ℕ, suc, max, Bool, false, nat_lt, nat_le, if◌then◌else◌, Option, Some, None, List, [], ◌∷◌, ◌++◌, length, map, take, slice_index_or}
use Rattle.std.specs.List.{filter, list_any}
use Rattle.vx_flow.specs.declared.graph.Op.TheVariants.{Load}
use Rattle.vx_flow.specs.declared.trace.TraceOp.{TraceOp}
use Rattle.vx_flow.specs.declared.trace.TraceOp.TheVariants.{Plain, Split}
use Rattle.vx_flow.specs.declared.trace.Join.{Join}
use Rattle.vx_flow.specs.declared.trace.Placed.{Placed}
use Rattle.vx_flow.specs.Walk.{numbers}
use Rattle.vx_isa.specs.Numbers.{Numbers}
use Rattle.vx_dep.specs.Delays.{latency_of}
use Rattle.vx_dep.specs.declared.copies.EdgeCopies.{EdgeCopies}
use Rattle.vx_dep.specs.declared.copies.Rejoin.{Rejoin}

-- the word of the operation at a place
abbrev pub word_at : List ℕ → ℕ → ℕ
word_at words i = slice_index_or words i 0

abbrev pub greatest : List ℕ → ℕ
greatest [] = 0
greatest (n ∷ ns) = max n (greatest ns)

-- splits

-- the operations that stand above the split at place s and are in a later word, in the order of the trace
abbrev pub copies_at_split : List ℕ → ℕ → List ℕ
copies_at_split words s = filter (λ i. nat_lt (word_at words s) (word_at words i)) (numbers 0 s)

abbrev pub split_at : List ℕ → ℕ → TraceOp → List EdgeCopies
split_at words i (Plain op) = []
split_at words i (Split test leaves_when edge live) = record { split = i; edge = edge; copies = copies_at_split words i; drain = 0 } ∷ []

-- one entry for each split of the operations, of which the first stands at place i
abbrev pub splits_from : List ℕ → ℕ → List TraceOp → List EdgeCopies
splits_from words i [] = []
splits_from words i (op ∷ ops) = split_at words i op ++ splits_from words (i + 1) ops

-- the copies at the splits; the empty cycles behind each are still to be counted
abbrev pub at_splits_of : Placed → List EdgeCopies
at_splits_of p = splits_from p.words 0 p.clustered.trace.ops

-- joins

-- the first word after every operation that stood above the join at place q
abbrev pub rejoin_word : List ℕ → ℕ → ℕ
rejoin_word words q = greatest (map suc (take q words))

-- the operations that stood below the join and are in a word before the rejoin word, in the order of the trace
abbrev pub copies_at_join : List ℕ → ℕ → List ℕ
copies_at_join words q = filter (λ i. nat_lt (word_at words i) (rejoin_word words q)) (numbers q (length words - q))

abbrev pub rejoin_of : List ℕ → Join → Rejoin
rejoin_of words join = record { block = join.block; word = rejoin_word words join.place; copies = copies_at_join words join.place }

abbrev pub at_joins_of : Placed → List Rejoin
at_joins_of p = map (rejoin_of p.words) p.clustered.trace.joins

-- loads

-- a split stood above place i that is not in an earlier word
abbrev pub is_freed : Placed → ℕ → Bool
is_freed p i = list_any (λ (s : EdgeCopies). nat_lt s.split i && nat_le (word_at p.words i) (word_at p.words s.split)) (at_splits_of p)

abbrev pub is_dismissible : Bool → TraceOp → Bool
is_dismissible freed (Plain (Load v a place dismissible)) = dismissible || freed
is_dismissible freed op = false

-- the load at place i may be dismissed in the region
abbrev pub may_be_dismissed : Placed → ℕ → Option TraceOp → Bool
may_be_dismissed p i None = false
may_be_dismissed p i (Some op) = is_dismissible (is_freed p i) op

-- exits

-- how many cycles behind its word a result still takes at the start of word `end`
abbrev pub left_at : Numbers → ℕ → ℕ → TraceOp → ℕ
left_at m end word op = if nat_lt word end then (word + latency_of m op) - end else 0

abbrev pub all_left_at : Numbers → ℕ → List ℕ → List TraceOp → List ℕ
all_left_at m end words [] = []
all_left_at m end [] (op ∷ ops) = []
all_left_at m end (word ∷ words) (op ∷ ops) = left_at m end word op ∷ all_left_at m end words ops

-- the empty cycles behind an exit after which nothing that was issued before word `end` can be pending; the exit of a split
-- in word w is at `end` w + 1, that behind the last word at `end` the number of words
abbrev pub drain_at : Numbers → Placed → (end : ℕ) → ℕ
drain_at m p end = greatest (all_left_at m end p.words p.clustered.trace.ops)
