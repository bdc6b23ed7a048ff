-- The trace that a constant says.
use Rattle.std.specs.Prelude.{ℕ, true, false, Option, None, List, [], ◌∷◌, length, map, replicate}
use Rattle.vx_base.specs.declared.arithmetic.Code.TheVariants.{Add, ToBranch}
use Rattle.vx_base.specs.declared.arithmetic.Compare.TheVariants.{Lt}
use Rattle.vx_flow.specs.declared.graph.Array.{Array}
use Rattle.vx_flow.specs.declared.graph.Op.{Op}
use Rattle.vx_flow.specs.declared.graph.Op.TheVariants.{Compute, Place as PlaceOf, Load as LoadAt, Store as StoreAt, Text, Decimal}
use Rattle.vx_flow.specs.declared.graph.Operand.TheVariants.{Held, Number}
use Rattle.vx_flow.specs.declared.trace.Join.{Join}
use Rattle.vx_flow.specs.declared.trace.Trace.{Trace}
use Rattle.vx_flow.specs.declared.trace.TraceOp.{TraceOp}
use Rattle.vx_flow.specs.declared.trace.TraceOp.TheVariants.{Plain as PlainOp, Split as SplitOff}
use Rattle.vx_test_graphs.specs.declared.traces.Step.{Step}
use Rattle.vx_test_graphs.specs.declared.traces.Step.TheVariants.{On, Sum, More, Below, Print, Place, Load, Store, Plain, Split}

-- the operation; of a split none, which is written as a text
abbrev pub plain_op : Step → Op
plain_op (On code to left right) = Compute code to (Held left) right
plain_op (Sum to left right) = Compute Add to (Held left) (Held right)
plain_op (More to left number) = Compute Add to (Held left) (Number number)
plain_op (Below to left number) = Compute (ToBranch Lt) to (Held left) (Number number)
plain_op (Print from) = Decimal (Held from)
plain_op (Place to array index) = PlaceOf to array (Held index)
plain_op (Load to array place) = LoadAt to array (Held place) false
plain_op (Store array place from) = StoreAt array (Held place) (Held from)
plain_op (Plain op) = op
plain_op (Split test live) = Text 0

-- a split leaves from block 0 to block 3 where its test is 0
abbrev pub trace_op : Step → TraceOp
trace_op (Split test live) = SplitOff test false (record { from = 0; to = 3 }) live.now
trace_op step = PlainOp (plain_op step)

-- block 2, with the edge from block 3
abbrev pub join_at : ℕ → Join
join_at place = record { place = place; block = 2; edges = record { from = 3; to = 2 } ∷ [] }

abbrev pub words_16 : (named : ℕ) → Array
words_16 named = record { words = 16; global = true; named = named; base = None }

abbrev pub trace_of : List Step → (places : List ℕ) → Trace
trace_of steps places = record {
  function = 0;
  blocks = 0 ∷ [];
  ops = map trace_op steps;
  fixed = replicate (length steps) None;
  joins = map join_at places;
  values = 20;
  arrays = words_16 0 ∷ words_16 1 ∷ [];
}
