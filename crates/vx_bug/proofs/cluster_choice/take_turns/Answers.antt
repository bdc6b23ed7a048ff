use Rattle.std.proofs.Common.{◌∙◌, ◌<◌, ◌≤◌, ℕ, List, sym, subst, refl, arith, length, take, slice_index_or, slice_set}
use Rattle.std.proofs.lemmas.List.{take_more, take_all}
use Rattle.vx_flow.specs.Effects.{IsIn}
use Rattle.vx_bug.specs.Ledgers.{books_of}
use Rattle.vx_bug.specs.Choices.{TurnsTaken}
use Rattle.vx_bug.proofs.Listing.{place_in, place_new}
use Rattle.vx_bug.proofs.Taking.{no_turns, one_turn}
use Rattle.vx_bug.proofs.cluster_choice.take_turns.Goals as goal

pub index_mut-requires : goal.index_mut-requires
index_mut-requires c =
    let there : slice_index_or c.args.order.now c.loop-place.place-index 0 < length c.args.trace.now.ops = c.requires.below (slice_index_or c.args.order.now c.loop-place.place-index 0) (place_in c.args.order.now c.loop-place.place-index (slice_index_or c.args.order.now c.loop-place.place-index 0) c.loop-place-test.true refl) in
    let e = c.loop-place.invariant.each_chosen in
    let long = c.loop-place.chosen.ok.0 in
    omega (arith, there, e, long)

pub index_mut-requires-in-loop-place : goal.index_mut-requires-in-loop-place
index_mut-requires-in-loop-place c =
    let there : slice_index_or c.args.order.now c.loop-place.place-index 0 < length c.args.trace.now.ops = c.requires.below (slice_index_or c.args.order.now c.loop-place.place-index 0) (place_in c.args.order.now c.loop-place.place-index (slice_index_or c.args.order.now c.loop-place.place-index 0) c.loop-place-test.true refl) in
    let e = c.loop-place.invariant.each_estimate in
    let long = c.loop-place.estimates.ok.0 in
    omega (arith, there, e, long)

pub loop-place-init : goal.loop-place-init
loop-place-init c = no_turns c.args.machine.now c.args.trace.now (books_of c.args.ledger.now) c.in_ok-chosen.chosen.items c.in_ok-estimates.estimates.items (c.in_ok-chosen.ensures ∙ c.len.ensures.len) (c.in_ok-estimates.ensures ∙ c.len-2.ensures.len)

pub loop-place-preserved : goal.loop-place-preserved
loop-place-preserved c =
    let order : List ℕ = c.args.order.now in
    let i : ℕ = c.loop-place.place-index in
    let j : ℕ = slice_index_or order i 0 in
    let so_far : List ℕ = take i order in
    let there : j < length c.args.trace.now.ops = c.requires.below j (place_in order i j c.loop-place-test.true refl) in
    let fresh : IsIn j so_far → ⊥ = place_new order i j c.requires.apart c.loop-place-test.true refl in
    subst (λ is. TurnsTaken c.args.machine.now c.args.trace.now (books_of c.args.ledger.now) is (slice_set c.loop-place.chosen.items j c.in_ok-taken.taken.cluster) (slice_set c.loop-place.estimates.items j c.in_ok-taken.taken.estimate) (books_of c.turn_at.new.ledger))
    (sym (take_more order i 0 c.loop-place-test.true))
    (one_turn c.args.machine.now c.args.trace.now (books_of c.args.ledger.now) so_far j c.in_ok-taken.taken.cluster c.in_ok-taken.taken.estimate c.loop-place.chosen.items c.loop-place.estimates.items
    (books_of c.loop-place.ledger) (books_of c.turn_at.new.ledger) c.loop-place.invariant fresh there c.in_ok-taken.ensures)

pub returns : goal.returns
returns c =
    let all : length c.args.order.now ≤ c.loop-place.place-index = c.loop-place-test.false in
    subst (λ is. TurnsTaken c.args.machine.now c.args.trace.now (books_of c.args.ledger.now) is c.loop-place.chosen.items c.loop-place.estimates.items (books_of c.loop-place.ledger))
    (take_all c.loop-place.place-index c.args.order.now all) c.loop-place.invariant
