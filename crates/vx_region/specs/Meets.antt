-- Words that a placement gives meet the delays of the trace, and so the table under which every operation may move.
use Rattle.std.specs.Prelude.{◌≡◌, ◌<◌, ◌≤◌, ◌⊎◌, ◌+◌, ℕ, Bool, true, List, length, slice_get}
use Rattle.vx_flow.specs.declared.trace.Trace.{Trace}
use Rattle.vx_flow.specs.declared.trace.Clustered.{Clustered}
use Rattle.vx_flow.specs.declared.trace.Homes.{Homes}
use Rattle.vx_flow.specs.Apart.{StandApart}
use Rattle.vx_flow.specs.Effects.{Setting, IsIn}
use Rattle.vx_isa.specs.Numbers.{Numbers}
use Rattle.vx_room.specs.Items.{latency_of_op}
use Rattle.vx_motion.specs.Rows.{Meets, NeverApart}
use Rattle.vx_mixed.specs.Way.{item_latency}
use Rattle.vx_motion.specs.Compensation.{live_of, is_join_place}
use Rattle.vx_mixed.specs.TraceItems.{plain_items}
use Rattle.vx_dep.specs.declared.mode.Mode.{Mode}
use Rattle.vx_dep.specs.Delays.{Applies, AreHeights}
use Rattle.vx_dep.specs.Compensation.{word_at}
use Rattle.vx_sched.specs.Placement.{PlacedBy}

-- each operation stands as many words behind an earlier one as a row of the table asks
abbrev pub DelaysMet : Type 0
DelaysMet =
    (c : Clustered) (m : Numbers) (homes : Homes) (mode : Mode) (height : ℕ → ℕ) (words : List ℕ) (i j delay : ℕ)
    → AreHeights m mode c.trace height → PlacedBy c m homes mode height words → Applies m mode c.trace i j delay → word_at words i + delay ≤ word_at words j

-- the words meet the table, with some test of accesses: those for which it says so touch no word in common in any run that
-- enters the trace at its start or at a join
pub record MeetsTable (m : Numbers) (t : Trace) (words : List ℕ) : Type 0 where
  pub never : ℕ → ℕ → Bool
  pub meets : (word : ℕ → ℕ) → ((k : ℕ) → k < length t.ops → word k ≡ word_at words k) →
      Meets (plain_items t.ops) (item_latency (latency_of_op m)) (λ e v. IsIn v (live_of (slice_get t.ops e))) never (is_join_place t.joins) word
  pub apart : (setting : Setting) → StandApart t.arrays setting.spot → (q : ℕ) → ((q ≡ 0) ⊎ (is_join_place t.joins q ≡ true)) → NeverApart setting (plain_items t.ops) never q

abbrev pub TableMet : Type 0
TableMet =
    (c : Clustered) (m : Numbers) (homes : Homes) (mode : Mode) (height : ℕ → ℕ) (words : List ℕ)
    → AreHeights m mode c.trace height → PlacedBy c m homes mode height words → MeetsTable m c.trace words
