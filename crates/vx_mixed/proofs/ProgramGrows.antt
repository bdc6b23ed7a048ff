-- The output of a program only grows, where each of its hops only adds to it.
use Rattle.std.proofs.Common.{ℕ, ◌+◌, ℤ, Bool, true, false, Option, Some, None, List, [], ◌∷◌, length, subst}
use Rattle.std.specs.Prelude.{if◌then◌else◌, nat_le}
use Rattle.vx_base.specs.Outcome.{Traps, Begins, Step, On, Over, output_of}
use Rattle.vx_base.specs.declared.outcome.Trap.TheVariants.{Depth}
use Rattle.vx_base.proofs.Runs.{Grows}
use Rattle.vx_base.proofs.Same.{begins_self}
use Rattle.vx_flow.specs.Effects.{State}
use Rattle.vx_flow.specs.Meaning.{Hop, Arrives, Calls, Leaves, Stops, Wrong, Body, Program, Frame, Active, deepest, spots_for, enters_with, enters, returned, waits, after_hop, hop as active_hop, next}
use Rattle.vx_mixed.proofs.Keeps.{HopGood}

module _ (P : Program) (good : (r : Active) → HopGood r.state.out (length r.state.arrays) (active_hop P r)) where
  abbrev StepGrown : List ℕ → Step Active → Type 0
  StepGrown xs (On r) = Begins xs r.state.out
  StepGrown xs (Over o) = Begins xs (output_of o)

  enters_grown : (xs : List ℕ) (g : ℕ) (o : Option Body) (args : List ℤ) (s : State) (fs : List Frame) → Begins xs s.out → StepGrown xs (enters g o args s fs)
  enters_grown xs g None args s fs k = k
  enters_grown xs g (Some body) args s fs k = by (spots_for (Some body) args s)
    where
      by : (spots : Option (List (Option ℕ))) → StepGrown xs (enters_with g (Some body) args s fs spots)
      by None = k
      by (Some passed) = k

  returned_grown : (xs : List ℕ) (n : ℤ) (s : State) (base : ℕ) (fs : List Frame) → Begins xs s.out → StepGrown xs (returned n s base fs)
  returned_grown xs n s base [] k = k
  returned_grown xs n s base (f ∷ fs) k = k

  call_grown : (xs : List ℕ) (deep : Bool) (g : ℕ) (args : List ℤ) (s : State) (fs : List Frame) → Begins xs s.out → StepGrown xs (if deep then Over (Traps Depth s.out) else enters g (P.body g) args s fs)
  call_grown xs true g args s fs k = k
  call_grown xs false g args s fs k = enters_grown xs g (P.body g) args s fs k

  after_grown : (r : Active) (n : ℕ) (h : Hop) → HopGood r.state.out n h → StepGrown r.state.out (after_hop P r h)
  after_grown r n (Arrives b c s) k = k.0
  after_grown r n (Calls g args result from to s) k = call_grown r.state.out (nat_le deepest (length r.waiting + 1)) g args s (waits r result from to s ∷ r.waiting) k.0
  after_grown r n (Leaves m s) k = returned_grown r.state.out m s r.base r.waiting k.0
  after_grown r n (Stops t s) k = k.0
  after_grown r n Wrong k = begins_self r.state.out

  next_grown : (r : Active) → StepGrown r.state.out (next P r)
  next_grown r = after_grown r (length r.state.arrays) (active_hop P r) (good r)

  pub program_grows : Grows (next P) (λ r. r.state.out)
  program_grows = record { on = λ s t e. subst (StepGrown s.state.out) e (next_grown s); over = λ s o e. subst (StepGrown s.state.out) e (next_grown s) }
