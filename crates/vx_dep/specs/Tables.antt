-- What is found once for each operation of a trace, so that a delay is answered without a search.
use Rattle.std.specs.Prelude.{◌≡◌, not, ℕ, zero, suc, Bool, true, false, nat_eq, List, [], ◌∷◌, ◌++◌, length, map}
use Rattle.std.specs.List.{list_any, prefix_len}
use Rattle.vx_flow.specs.declared.trace.TraceOp.{TraceOp}
use Rattle.vx_flow.specs.declared.trace.TraceOp.TheVariants.{Plain, Split}
use Rattle.vx_flow.specs.declared.trace.Join.{Join}
use Rattle.vx_flow.specs.declared.trace.Trace.{Trace}
use Rattle.vx_flow.specs.Operands.{value_list}
use Rattle.vx_isa.specs.Numbers.{Numbers}
use Rattle.vx_dep.specs.declared.traits.Traits.{Traits}
use Rattle.vx_dep.specs.declared.tables.Standing.{Standing}
use Rattle.vx_dep.specs.Traits.{written, has, traits_of}

-- the second operation writes the value that the first one writes
abbrev pub write_alike : Traits → Traits → Bool
write_alike a b = has a.written (value_list b.written)

-- how many of the operations behind an operation do not write what it writes, up to the first that does
abbrev pub kept : Traits → List Traits → ℕ
kept a behind = prefix_len (λ b. not (write_alike a b)) behind

abbrev pub is_join : List Join → ℕ → Bool
is_join joins i = list_any (λ join. nat_eq join.place i) joins

abbrev pub or_else : Bool → ℕ → ℕ → ℕ
or_else true i last = i
or_else false i last = last

-- the last of the first n places that stands directly below a join, 0 where none does
abbrev pub last_joined : List Join → ℕ → ℕ
last_joined joins zero = 0
last_joined joins (suc i) = or_else (is_join joins i) i (last_joined joins i)

abbrev pub standing_of : List Join → ℕ → Traits → List Traits → Standing
standing_of joins i a behind = record { traits = a; kept = kept a behind; joined = last_joined joins (suc i) }

-- one entry for each operation of a list, of which the first stands at place i
abbrev pub standings_from : List Join → ℕ → List Traits → List Standing
standings_from joins i [] = []
standings_from joins i (a ∷ behind) = standing_of joins i a behind ∷ standings_from joins (suc i) behind

abbrev pub all_traits : Numbers → Trace → List Traits
all_traits m t = map (traits_of m) t.ops

unfoldable pub standings_of : Numbers → Trace → List Standing
standings_of m t = standings_from t.joins 0 (all_traits m t)

-- the entries so far and those of what is left are all
pub record AreStanding (all : List Standing) (joins : List Join) (standings : List Standing) (joined : ℕ) (left : List Traits) : Type 0 where
  pub whole : standings ++ standings_from joins (length standings) left ≡ all
  pub above : joined ≡ last_joined joins (length standings)

-- for each operation behind a split, whether what it writes is live where the split leaves
abbrev pub live_behind : TraceOp → List TraceOp → List Bool
live_behind (Plain op) behind = []
live_behind (Split test leaves_when edge live) behind = map (λ b. has (written b) live) behind

-- one list for each operation
abbrev pub lives_from : List TraceOp → List (List Bool)
lives_from [] = []
lives_from (op ∷ behind) = live_behind op behind ∷ lives_from behind

abbrev pub lives_of : Trace → List (List Bool)
lives_of t = lives_from t.ops
