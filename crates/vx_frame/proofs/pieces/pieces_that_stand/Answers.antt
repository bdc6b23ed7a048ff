use Rattle.std.proofs.Common.{ap, ◌∙◌}
use Rattle.std.proofs.lemmas.Result.{IfOk-weaker}
use Rattle.vx_frame.specs.Placing.{at_spots, spots_of}
use Rattle.vx_slots.specs.Seen.{seen}
use Rattle.vx_frame.proofs.Standing.{second_pass, second_places}
use Rattle.vx_frame.proofs.pieces.pieces_that_stand.Goals as goal

-- the second pass makes the words at the places of the first
pub returns-clause-placed : goal.returns-clause-placed
returns-clause-placed c =
    let T = seen c.args.whole.now in
    let trap = c.in_ok-draft.draft.depth_trap in
    IfOk-weaker c.pieces_of-2.result _ _ (λ made is. second_pass T (seen c.with_places-standing.result) c.args.main c.args.functions trap c.in_ok-draft.draft.places made.words c.requires.differ c.requires.no_more c.in_ok-draft.ensures.places c.in_ok-draft.ensures.trap (c.with_places-standing.ensures ∙ ap (λ xs. at_spots T (spots_of xs trap)) c.as_slice.ensures) is) c.pieces_of-2.ensures.words

-- and finds the same
pub returns-clause-places : goal.returns-clause-places
returns-clause-places c =
    let T = seen c.args.whole.now in
    let spots = spots_of c.as_slice.result.now c.in_ok-draft.draft.depth_trap in
    IfOk-weaker c.pieces_of-2.result _ _ (λ made is. second_places T (seen c.with_places-standing.result) spots c.args.main c.args.functions made.places c.with_places-standing.ensures is) c.pieces_of-2.ensures.places
