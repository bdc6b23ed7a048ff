-- The worked region with the blocks that are left as a second region, laid out.
use Rattle.std.specs.Prelude.{◌≡◌, false, Some, [], ◌∷◌}
use Rattle.vx_flow.specs.declared.graph.Operand.TheVariants.{Held}
use Rattle.vx_flow.specs.declared.trace.TraceOp.TheVariants.{Plain as TracePlain}
use Rattle.vx_mixed.specs.declared.layout.Laid.TheVariants.{Plain as LaidPlain, Split as LaidSplit}
use Rattle.vx_mixed.specs.declared.layout.VirtualWord.TheVariants.{Planned, Drain, Transfer, Return}
use Rattle.vx_motion.specs.Example.{new, sum, test, step, product, total}
use Rattle.vx_mixed.specs.declared.replacement.Replacement.{Replacement}
use Rattle.vx_mixed.specs.Next.{next_mixed}
use Rattle.vx_mixed.specs.Layout.{layout_of}

-- block 3 and the block of copies behind it
abbrev pub rest : Replacement
rest = record {
  trace = record { function = 0; blocks = 3 ∷ 4 ∷ []; ops = TracePlain product ∷ []; fixed = Some 0 ∷ []; joins = []; values = 7; arrays = [] };
  clusters = 0 ∷ [];
  words = 0 ∷ [];
  length = 1;
  drains = [];
  last_drain = 1;
  rejoins = [];
  made = [];
  homes = record { clusters = [] };
}

-- The first region is at places 0 to 6: its words, its return, and the way out of its split. The second one is at 7 to 9,
-- waits a cycle, and goes on at the join.
abbrev pub IsLaidOut : Type 0
IsLaidOut =
    (layout_of (next_mixed new rest)).words ≡
    Planned 0 0 (LaidPlain sum 0 ∷ LaidPlain test 0 ∷ []) ∷ Planned 0 1 (LaidPlain product 0 ∷ []) ∷ Planned 0 2 (LaidSplit 6 false 6 ∷ []) ∷ Planned 0 3 (LaidPlain step 0 ∷ []) ∷ Planned 0 4 (LaidPlain total 0 ∷ []) ∷
    Return (Held 5) ∷ Transfer 7 ∷ Planned 1 0 (LaidPlain product 0 ∷ []) ∷ Drain 1 ∷ Transfer 4 ∷ []
