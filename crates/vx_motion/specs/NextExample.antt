-- The worked region as a replacement: the replacement of the trace, and the graph after it.
use Rattle.std.specs.Prelude.{◌≡◌, true, false, None, [], ◌∷◌}
use Rattle.vx_flow.specs.declared.trace.TraceOp.TheVariants.{Plain as TracePlain, Split as TraceSplit}
use Rattle.vx_flow.specs.declared.trace.Trace.{Trace}
use Rattle.vx_flow.specs.Walk.{edge}
use Rattle.vx_motion.specs.Example.{old, new, sum, test, step, product, total}
use Rattle.vx_mixed.specs.declared.replacement.Replacement.{Replacement}
use Rattle.vx_mixed.specs.Next.{next_mixed}
use Rattle.vx_mixed.specs.Entrances.{meet_old, meet_new, pairs}

-- blocks 0, 1 and 2: the join at block 2 is reached from block 3
abbrev pub trace : Trace
trace = record {
  function = 0;
  blocks = 0 ∷ 1 ∷ 2 ∷ [];
  ops = TracePlain sum ∷ TracePlain test ∷ TraceSplit 6 false (edge 0 3) (1 ∷ 2 ∷ 3 ∷ []) ∷ TracePlain step ∷ TracePlain product ∷ TracePlain total ∷ [];
  fixed = None ∷ None ∷ None ∷ None ∷ None ∷ None ∷ [];
  joins = record { place = 4; block = 2; edges = edge 3 2 ∷ [] } ∷ [];
  values = 7;
  arrays = [];
}

-- five words; the product is in one before the rejoin, so it is copied on the edge from block 3
abbrev pub replacement : Replacement
replacement = record {
  trace = trace;
  clusters = 0 ∷ 0 ∷ 0 ∷ 0 ∷ 0 ∷ 0 ∷ [];
  words = 0 ∷ 0 ∷ 2 ∷ 3 ∷ 1 ∷ 4 ∷ [];
  length = 5;
  drains = 0 ∷ [];
  last_drain = 0;
  rejoins = 4 ∷ [];
  made = record { edge = edge 3 2; ops = product ∷ []; clusters = 0 ∷ [] } ∷ [];
  homes = record { clusters = [] };
}

pub record NextIsNew : Type 0 where
  pub nodes : (next_mixed old replacement).nodes ≡ new.nodes
  pub regions : (next_mixed old replacement).regions ≡ new.regions

-- Entrances 0 and 3 stay, and the join at 2 is reached behind block 4. The edges inside the trace arrive at none, nor does the
-- one from block 4.
pub record SharesEntrances : Type 0 where
  pub start : pairs old replacement 0 0 ≡ true
  pub outside : pairs old replacement 3 3 ≡ true
  pub join : pairs old replacement 2 4 ≡ true
  pub inside : pairs old replacement 1 1 ≡ false
  pub not_at_once : pairs old replacement 2 2 ≡ false
  pub made : pairs old replacement 4 4 ≡ false
  pub on : meet_old replacement 0 1 ≡ false
  pub on_too : meet_old replacement 1 2 ≡ false
  pub leaves : meet_old replacement 0 3 ≡ true
  pub joins : meet_old replacement 3 2 ≡ true
  pub leaves_new : meet_new old replacement 0 3 ≡ true
  pub joins_new : meet_new old replacement 3 4 ≡ true
  pub behind : meet_new old replacement 4 2 ≡ false
