-- Two splits in one word, worked by hand. They stand there in the order of the trace, so that the first that is taken is the first of the
-- trace, whatever the other one tests; each has its own copies; and a join below both is entered behind both.
use Rattle.std.proofs.Common.{◌≡◌, ℕ, true, false, Some, None, List, [], ◌∷◌, refl, ap, ◌∙◌}
use Rattle.std.specs.Prelude.{pos}
use Rattle.vx_base.specs.declared.arithmetic.Code.TheVariants.{Add, ToBranch}
use Rattle.vx_base.specs.declared.arithmetic.Compare.TheVariants.{Lt}
use Rattle.vx_flow.specs.declared.graph.Op.{Op}
use Rattle.vx_flow.specs.declared.graph.Op.TheVariants.{Compute}
use Rattle.vx_flow.specs.declared.graph.Operand.TheVariants.{Held, Number}
use Rattle.vx_flow.specs.declared.trace.Join.{Join}
use Rattle.vx_flow.specs.declared.trace.Placed.{Placed}
use Rattle.vx_flow.specs.declared.trace.Trace.{Trace}
use Rattle.vx_flow.specs.declared.trace.TraceOp.TheVariants.{Plain as TracePlain, Split as TraceSplit}
use Rattle.vx_flow.specs.Effects.{State}
use Rattle.vx_flow.specs.Walk.{edge}
use Rattle.vx_mixed.specs.declared.region.Item.{Item}
use Rattle.vx_mixed.specs.declared.region.Item.TheVariants.{Plain, Split}
use Rattle.vx_mixed.specs.Meaning.{Stays, Takes, leaves_on, picked, taken, Unsure}
use Rattle.vx_mixed.specs.Next.{in_word, placed}
use Rattle.vx_dep.specs.Compensation.{at_joins_of, at_splits_of, is_freed}

-- the operation behind the first split, and the one behind the second
abbrev between : Op
between = Compute Add 3 (Held 1) (Number (pos 1))

abbrev beyond : Op
beyond = Compute Add 4 (Held 2) (Number (pos 1))

abbrev first_test : Op
first_test = Compute (ToBranch Lt) 5 (Held 1) (Number (pos 10))

abbrev second_test : Op
second_test = Compute (ToBranch Lt) 6 (Held 2) (Number (pos 10))

-- blocks 0, 1 and 2: the first two leave where their test fails, and block 5 goes to the third
abbrev two_ways : Trace
two_ways = record {
  function = 0;
  blocks = 0 ∷ 1 ∷ 2 ∷ [];
  ops = TracePlain first_test ∷ TracePlain second_test ∷ TraceSplit 5 false (edge 0 3) (1 ∷ []) ∷ TracePlain between ∷ TraceSplit 6 false (edge 1 4) (3 ∷ []) ∷ TracePlain beyond ∷ [];
  fixed = None ∷ None ∷ None ∷ None ∷ None ∷ None ∷ [];
  joins = record { place = 5; block = 2; edges = edge 5 2 ∷ [] } ∷ [];
  values = 7;
  arrays = [];
}

-- both splits in word 2, what stands between them behind both, and what stands below them above both
abbrev two_placed : Placed
two_placed = record { clustered = record { trace = two_ways; clusters = 0 ∷ 0 ∷ 0 ∷ 0 ∷ 0 ∷ 0 ∷ [] }; words = 0 ∷ 0 ∷ 2 ∷ 3 ∷ 2 ∷ 1 ∷ []; length = 4 }

abbrev word_of : ℕ → List Item
word_of w = in_word (placed (λ b c. c) two_ways.ops (0 ∷ 0 ∷ 0 ∷ 0 ∷ 0 ∷ 0 ∷ []) two_placed.words (0 ∷ 0 ∷ []) []) w

abbrev both_ways : List Item
both_ways = Split 5 false (edge 0 3) 0 ∷ Split 6 false (edge 1 4) 0 ∷ []

in_trace_order : word_of 2 ≡ both_ways
in_trace_order = refl

above_both : word_of 1 ≡ Plain beyond 0 ∷ []
above_both = refl

-- how the word is left

first_leaves : (s : State) → s.values 5 ≡ Some (pos 0) → taken s both_ways ≡ Takes 0 3 0
first_leaves s h = ap (λ v. picked (leaves_on v false) Unsure (Takes 0 3 0) (taken s (Split 6 false (edge 1 4) 0 ∷ []))) h

second_leaves : (s : State) → s.values 5 ≡ Some (pos 1) → s.values 6 ≡ Some (pos 0) → taken s both_ways ≡ Takes 1 4 0
second_leaves s h k =
    ap (λ v. picked (leaves_on v false) Unsure (Takes 0 3 0) (taken s (Split 6 false (edge 1 4) 0 ∷ []))) h ∙ ap (λ v. picked (leaves_on v false) Unsure (Takes 1 4 0) Stays) k

-- what is owed

copies_of_each : at_splits_of two_placed ≡ record { split = 2; edge = edge 0 3; copies = []; drain = 0 } ∷ record { split = 4; edge = edge 1 4; copies = 3 ∷ []; drain = 0 } ∷ []
copies_of_each = refl

entered_behind_both : at_joins_of two_placed ≡ record { block = 2; word = 4; copies = 5 ∷ [] } ∷ []
entered_behind_both = refl

-- a load there might be dismissed above both, and not behind them
freed_above : is_freed two_placed 5 ≡ true
freed_above = refl

not_freed_behind : is_freed two_placed 3 ≡ false
not_freed_behind = refl
