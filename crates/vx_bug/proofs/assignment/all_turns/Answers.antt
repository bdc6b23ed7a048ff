use Rattle.std.proofs.Common.{◌≡◌, ◌<◌, ℕ, List, sym, subst, ◌∙◌, length}
use Rattle.vx_flow.specs.Effects.{IsIn}
use Rattle.vx_bug.specs.Clusters.{listed}
use Rattle.vx_bug.specs.Choices.{Apart, TurnsTaken}
use Rattle.vx_bug.specs.Ledgers.{books_of}
use Rattle.vx_bug.proofs.Listing.{listed_apart, listed_below}
use Rattle.vx_bug.proofs.assignment.all_turns.Goals as goal

pub take_turns-requires-clause-below : goal.take_turns-requires-clause-below
take_turns-requires-clause-below c =
    let order : c.as_slice.result.now ≡ listed c.args.trace.now = c.as_slice.ensures ∙ c.in_ok-order.ensures in
    subst (λ (is : List ℕ). (i : ℕ) → IsIn i is → i < length c.args.trace.now.ops) (sym order) (listed_below c.args.trace.now)

pub take_turns-requires-clause-apart : goal.take_turns-requires-clause-apart
take_turns-requires-clause-apart c =
    let order : c.as_slice.result.now ≡ listed c.args.trace.now = c.as_slice.ensures ∙ c.in_ok-order.ensures in
    subst (λ (is : List ℕ). Apart is) (sym order) (listed_apart c.args.trace.now)

pub returns-clause-taken : goal.returns-clause-taken
returns-clause-taken c =
    let m = c.args.machine.now in
    let t = c.args.trace.now in
    let taken = c.in_ok-taken.taken in
    let first = books_of c.args.ledger.now in
    let last = books_of c.take_turns.new.ledger in
    let order : c.as_slice.result.now ≡ listed t = c.as_slice.ensures ∙ c.in_ok-order.ensures in
    let chosen : c.in_ok-chosen.chosen ≡ taken.chosen.items = c.in_ok-chosen.ensures in
    let estimates : c.in_ok-estimates.estimates ≡ taken.estimates.items = c.in_ok-estimates.ensures in
    subst (λ (x : List ℕ). TurnsTaken m t first (listed t) x c.in_ok-estimates.estimates last) (sym chosen)
    (subst (λ (x : List ℕ). TurnsTaken m t first (listed t) taken.chosen.items x last) (sym estimates)
    (subst (λ (x : List ℕ). TurnsTaken m t first x taken.chosen.items taken.estimates.items last) order c.in_ok-taken.ensures))

pub returns-clause-order : goal.returns-clause-order
returns-clause-order c = c.in_ok-order.ensures
