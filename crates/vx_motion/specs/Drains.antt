-- Exits that wait until nothing is in flight.
use Rattle.std.specs.Prelude.{◌≡◌, ◌<◌, ◌≤◌, ◌+◌, ℕ, Bool, true, List, length}
use Rattle.vx_flow.specs.declared.graph.Edge.{Edge}
use Rattle.vx_flow.specs.declared.graph.Op.{Op}
use Rattle.vx_flow.specs.declared.graph.Op.TheVariants.{Load}
use Rattle.vx_flow.specs.declared.graph.Operand.{Operand}
use Rattle.vx_mixed.specs.declared.region.Item.{Item}
use Rattle.vx_mixed.specs.declared.region.Item.TheVariants.{Split}
use Rattle.vx_mixed.specs.declared.region.Region.{Region}
use Rattle.vx_motion.specs.Trace.{nth}

pub record Drained (is : List Item) (word : ℕ → ℕ) (mark : ℕ → Item) (latency : Item → ℕ) (reg : Region) : Type 0 where
  pub splits : (k e p d : ℕ) (edge : Edge) (y : Bool) → mark e ≡ Split p y edge d → word k ≤ word e → word k + latency (nth is k) ≤ word e + 1 + d
  pub last : (k : ℕ) → k < length is → word k + latency (nth is k) ≤ length reg.words + reg.drain

-- a dismissible load takes as long as a plain one
abbrev pub LoadsAlike : (Op → ℕ) → Type 0
LoadsAlike latency = (v a : ℕ) (p : Operand) (d : Bool) → latency (Load v a p true) ≡ latency (Load v a p d)
