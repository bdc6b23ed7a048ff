-- Which traces are planned by themselves: those whose operations are all without a cluster, name values of the graph alone, and
-- are neither selections nor read the input; and with which homes.
use Rattle.std.specs.Prelude.{◌&&◌, ◌==◌, not, ℕ, Bool, true, false, nat_lt, nat_le, Option, Some, None, is_some, List, [], ◌∷◌, length}
use Rattle.std.specs.List.{list_all}
use Rattle.vx_flow.specs.declared.trace.TraceOp.{TraceOp}
use Rattle.vx_flow.specs.declared.trace.TraceOp.TheVariants.{Plain, Split}
use Rattle.vx_flow.specs.declared.trace.Join.{Join}
use Rattle.vx_flow.specs.declared.trace.Trace.{Trace}
use Rattle.vx_flow.specs.Operands.{binds}
use Rattle.vx_dep.specs.Delays.{reads_of, writes_of}

abbrev pub is_below : (values v : ℕ) → Bool
is_below values v = nat_lt v values

abbrev pub all_are_below : (values : ℕ) → List ℕ → Bool
all_are_below values vs = list_all (is_below values) vs

-- it writes no value on cluster 0 alone
abbrev pub binds_none : TraceOp → Bool
binds_none (Plain op) = not (is_some (binds op))
binds_none (Split test leaves_when edge live) = true

-- it names values of the graph alone
abbrev pub names_below : (values : ℕ) → TraceOp → Bool
names_below values op = all_are_below values (reads_of op) && all_are_below values (writes_of op)

abbrev pub is_plannable_op : (values : ℕ) → TraceOp → Bool
is_plannable_op values op = binds_none op && names_below values op

-- it has no cluster yet
abbrev pub is_free : Option ℕ → Bool
is_free None = true
is_free (Some cluster) = false

-- joins stand one below the other
abbrev pub ascend : (least : ℕ) → List Join → Bool
ascend least [] = true
ascend least (join ∷ joins) = nat_le least join.place && ascend join.place joins

abbrev pub are_within : (count : ℕ) → List Join → Bool
are_within count joins = list_all (λ (join : Join). nat_le join.place count) joins

-- the greatest count of values of which each has a number for its copy to each of four clusters
abbrev pub most_values : ℕ
most_values = 858993459

abbrev pub is_plannable : Trace → Bool
is_plannable t =
    list_all (is_plannable_op t.values) t.ops && list_all is_free t.fixed && (length t.fixed == length t.ops)
    && ascend 0 t.joins && are_within (length t.ops) t.joins && nat_le t.values most_values

-- a home is a cluster of the machine
abbrev pub is_there : (clusters : ℕ) → Option ℕ → Bool
is_there clusters None = true
is_there clusters (Some cluster) = nat_lt cluster clusters
