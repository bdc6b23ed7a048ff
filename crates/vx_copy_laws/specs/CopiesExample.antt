-- Worked rows on two clusters: two operations on cluster 0 read v1, whose home is cluster 1.
use Rattle.std.specs.Prelude.{◌≡◌, ℕ, pos, None, Some, List, [], ◌∷◌}
use Rattle.vx_flow.specs.declared.graph.Operand.TheVariants.{Held, Number}
use Rattle.vx_flow.specs.declared.graph.Op.TheVariants.{Across}
use Rattle.vx_flow.specs.declared.trace.TraceOp.{TraceOp}
use Rattle.vx_flow.specs.declared.trace.TraceOp.TheVariants.{Plain}
use Rattle.vx_flow.specs.declared.trace.Trace.{Trace}
use Rattle.vx_room.specs.Room.{home_of}
use Rattle.vx_bug.specs.Copies.{with_copies}
use Rattle.vx_bug.specs.ClustersExample.{sum, trace_of, uses, crossed, joined_at}
use Rattle.vx_copy_laws.specs.CopyStands.{CopyStands}

abbrev pub copied : Trace → (chosen : List ℕ) → List TraceOp
copied t chosen = (with_copies t (home_of crossed) chosen).trace.ops

-- v2 = v1 + 1; v1 = v1 + 2; v3 = v1 + 3, the second one on cluster 1, where v1 is
abbrev pub rewritten : Trace
rewritten = trace_of (sum 2 1 (Number (pos 1)) ∷ sum 1 1 (Number (pos 2)) ∷ sum 3 1 (Number (pos 3)) ∷ []) (None ∷ None ∷ None ∷ []) []

-- v2 = v1 + 1; v3 = v1 + 2, the first one copied as compensation, so that it names its copies already
abbrev pub compensated : Trace
compensated = trace_of (sum 2 1 (Number (pos 1)) ∷ sum 3 1 (Number (pos 2)) ∷ []) (Some 0 ∷ None ∷ []) []

-- v1 = v1 + 1; v3 = v1 + 2, both on cluster 0
abbrev pub changed : Trace
changed = trace_of (sum 1 1 (Number (pos 1)) ∷ sum 3 1 (Number (pos 2)) ∷ []) (None ∷ None ∷ []) []

-- v2 = v1 + v1
abbrev pub doubled : Trace
doubled = trace_of (sum 2 1 (Held 1) ∷ []) (None ∷ []) []

pub record CopiesExample : Type 0 where
  -- one copy serves two readers
  pub first : CopyStands (uses []) (home_of crossed) (0 ∷ 0 ∷ []) 0 1 0
  pub served : CopyStands (uses []) (home_of crossed) (0 ∷ 0 ∷ []) 1 1 0 → ⊥
  -- but none below a join
  pub joined : CopyStands (uses (joined_at 1 ∷ [])) (home_of crossed) (0 ∷ 0 ∷ []) 1 1 0
  -- or a writer
  pub written : CopyStands rewritten (home_of crossed) (0 ∷ 1 ∷ 0 ∷ []) 2 1 0
  pub at_home : CopyStands rewritten (home_of crossed) (0 ∷ 1 ∷ 0 ∷ []) 1 1 1 → ⊥
  pub ops : copied rewritten (0 ∷ 1 ∷ 0 ∷ []) ≡ Plain (Across 21 1) ∷ sum 2 21 (Number (pos 1)) ∷ sum 1 1 (Number (pos 2)) ∷ Plain (Across 21 1) ∷ sum 3 21 (Number (pos 3)) ∷ []
  -- also where the reader itself is the writer
  pub rewritten_itself : CopyStands changed (home_of crossed) (0 ∷ 0 ∷ []) 1 1 0
  pub ops_changed : copied changed (0 ∷ 0 ∷ []) ≡ Plain (Across 21 1) ∷ sum 1 21 (Number (pos 1)) ∷ Plain (Across 21 1) ∷ sum 3 21 (Number (pos 2)) ∷ []
  -- an operation copied as compensation needs none, and serves nobody
  pub none_needed : CopyStands compensated (home_of crossed) (0 ∷ 0 ∷ []) 0 1 0 → ⊥
  pub not_served : CopyStands compensated (home_of crossed) (0 ∷ 0 ∷ []) 1 1 0
  pub ops_compensated : copied compensated (0 ∷ 0 ∷ []) ≡ sum 2 1 (Number (pos 1)) ∷ Plain (Across 21 1) ∷ sum 3 21 (Number (pos 2)) ∷ []
  -- both operands of one operation
  pub both : copied doubled (0 ∷ []) ≡ Plain (Across 21 1) ∷ sum 2 21 (Held 21) ∷ []
