-- A report that is worked by hand: an if without else, whose trace takes the branch. Its last product passes the join upward, so it is
-- copied onto the joining edge.
use Rattle.std.proofs.Common.{◌≡◌, pos, false, None, [], ◌∷◌, codes, refl}
use Rattle.std.specs.Fmt.{digits}
use Rattle.vx_base.specs.declared.arithmetic.Code.TheVariants.{Add, Mpylu, ToBranch}
use Rattle.vx_base.specs.declared.arithmetic.Compare.TheVariants.{Lt}
use Rattle.vx_flow.specs.declared.graph.Op.TheVariants.{Compute}
use Rattle.vx_flow.specs.declared.graph.Operand.TheVariants.{Held, Number}
use Rattle.vx_flow.specs.declared.trace.Trace.{Trace}
use Rattle.vx_flow.specs.declared.trace.TraceOp.TheVariants.{Plain, Split}
use Rattle.vx_dep.specs.declared.mode.Mode.TheVariants.{Free}
use Rattle.vx_region.specs.declared.trace_plan.TracePlan.{TracePlan}
use Rattle.vx_report.specs.declared.plan.Plan.{Plan}
use Rattle.vx_report.specs.Report.{report_text}

abbrev if_trace : Trace
if_trace = record {
  function = 1;
  blocks = 0 ∷ 1 ∷ 2 ∷ [];
  ops = Plain (Compute Add 3 (Held 1) (Number (pos 5)))
      ∷ Plain (Compute (ToBranch Lt) 6 (Held 1) (Number (pos 10)))
      ∷ Split 6 false (record { from = 0; to = 3 }) (1 ∷ 2 ∷ 3 ∷ [])
      ∷ Plain (Compute Add 2 (Held 2) (Number (pos 1)))
      ∷ Plain (Compute Mpylu 4 (Held 3) (Held 1))
      ∷ Plain (Compute Add 5 (Held 2) (Held 4))
      ∷ [];
  fixed = None ∷ None ∷ None ∷ None ∷ None ∷ None ∷ [];
  joins = record { place = 4; block = 2; edges = record { from = 3; to = 2 } ∷ [] } ∷ [];
  values = 7;
  arrays = [];
}

abbrev if_plan : TracePlan
if_plan = record {
  function = 1;
  blocks = 0 ∷ 1 ∷ 2 ∷ [];
  count = 100;
  mode = Free;
  placed = record { clustered = record { trace = if_trace; clusters = 0 ∷ 0 ∷ 0 ∷ 0 ∷ 0 ∷ 0 ∷ [] }; words = 0 ∷ 0 ∷ 2 ∷ 3 ∷ 1 ∷ 4 ∷ []; length = 5 };
  splits = record { split = 2; edge = record { from = 0; to = 3 }; copies = []; drain = 0 } ∷ [];
  rejoins = record { block = 2; word = 4; copies = 4 ∷ [] } ∷ [];
}

abbrev whole : Plan
whole = record { traces = if_plan ∷ []; places = record { places = 7 ∷ 8 ∷ 9 ∷ 10 ∷ 12 ∷ [] } ∷ []; spilled = 0; copies = 1 }

if_report : report_text whole (codes "main" ∷ codes "f" ∷ []) ≡ codes "plan 1\ntrace 0 function f count 100 mode free words 5\nblocks 0 1 2\nop 0 word 0 cluster 0\nop 1 word 0 cluster 0\nop 2 word 2 cluster 0\nop 3 word 3 cluster 0\nop 4 word 1 cluster 0\nop 5 word 4 cluster 0\nsplit 2 copies\njoin 2 rejoin 4 copies 4\nplaces 7 8 9 10 12\nspilled 0\ncopies 1\nend\n"
unfolding digits
if_report = refl

-- no trace at all
no_report : report_text (record { traces = []; places = []; spilled = 31; copies = 4000 }) [] ≡ codes "plan 1\nspilled 31\ncopies 4000\nend\n"
unfolding digits
no_report = refl
