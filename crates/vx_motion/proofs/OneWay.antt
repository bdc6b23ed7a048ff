-- One way into a region: from its start, or by a joining edge.
use Rattle.std.specs.Prelude.{◌≡◌, ◌≤◌, ◌-◌, ℕ, Bool, true, List, length, drop, nat_lt}
use Rattle.vx_flow.specs.Effects.{Setting, IsIn}
use Rattle.vx_flow.specs.Sound.{targets_of}
use Rattle.vx_flow.specs.declared.graph.Edge.{Edge}
use Rattle.vx_flow.specs.declared.graph.Exit.{Exit}
use Rattle.vx_flow.specs.declared.graph.Op.{Op}
use Rattle.vx_motion.specs.Trace.{AfterOf, nth}
use Rattle.vx_motion.specs.Facts.{RowFacts, IsSplit, row, words_from, copies}
use Rattle.vx_mixed.specs.Path.{Path}
use Rattle.vx_mixed.specs.declared.mixed.MixedGraph.{MixedGraph}
use Rattle.vx_mixed.specs.declared.region.Item.TheVariants.{Split}
use Rattle.vx_mixed.specs.declared.region.Item.{Item}
use Rattle.vx_mixed.specs.declared.region.Region.{Region}
use Rattle.vx_mixed.specs.Way.{item_latency, Renamed, LeadsIn, LeadsOut, Clustered}

pub record Way (setting : Setting) (latency : Op → ℕ) (old new : MixedGraph) (meet_old meet_new : ℕ → ℕ → Bool) (pairs : ℕ → ℕ → Bool) (n : ℕ) (reg : Region) (b b' : ℕ) : Type 0 where
  -- the part of the trace from here on, its words and the word to enter at
  pub plain : List Item
  pub items : List Item
  pub end : ℕ
  pub exit : Exit
  pub word : ℕ → ℕ
  pub mark : ℕ → Item
  pub rejoin : ℕ
  pub path : Path old meet_old b plain end exit
  pub clustered : Clustered setting old plain items end exit
  pub facts : RowFacts setting items word mark (item_latency latency) (length reg.words) (AfterOf old items)
  pub low : rejoin ≤ length reg.words
  -- no split below the join stands before the rejoin word
  pub late : (k : ℕ) → IsSplit (nth items k) → rejoin ≤ word k
  -- nothing above the join stands from the rejoin word on
  pub words : drop rejoin reg.words ≡ words_from (row word mark 0 (length items)) rejoin (length reg.words - rejoin)
  pub enters : LeadsIn new meet_new n rejoin (copies (λ k. nat_lt (word k) rejoin) mark 0 (length items)) b'
  pub leaves : (e p d g : ℕ) (y : Bool) (edge edge' : Edge) → nth items e ≡ Split p y edge d → mark e ≡ Split p y edge' g → LeadsOut new meet_new pairs (copies (λ k. nat_lt (word e) (word k)) (nth items) 0 e) edge'.from edge'.to edge.to
  pub last_exit : Renamed pairs exit reg.last
  pub last_meets : (c : ℕ) → IsIn c (targets_of reg.last) → meet_new reg.from c ≡ true
