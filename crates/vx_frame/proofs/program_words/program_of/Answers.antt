use Rattle.std.proofs.Common.{◌<◌, ℕ, List, ap, subst, ◌∙◌}
use Rattle.vx_slots.specs.declared.program.FunctionPlaces.{FunctionPlaces}
use Rattle.vx_target.specs.Placed.{IsPlaced}
use Rattle.vx_slots.specs.Seen.{seen}
use Rattle.vx_frame.specs.Placing.{all_places, functions_begin, standing}
use Rattle.vx_frame.specs.Regions.{all_traces}
use Rattle.vx_frame.proofs.program_words.program_of.Goals as goal

pub program_with-requires-clause-placed : goal.program_with-requires-clause-placed
program_with-requires-clause-placed c =
    let main = c.args.flow.now.main in
    subst (λ n. IsPlaced (standing (seen c.args.whole.now) main n) main n c.in_ok-pieces.pieces.words) c.len-functions.ensures.len c.in_ok-pieces.ensures.placed

pub pieces_that_stand-requires-clause-differ : goal.pieces_that_stand-requires-clause-differ
pieces_that_stand-requires-clause-differ c = λ f lt. c.requires.differ f (subst (λ (n : ℕ). f < n) c.len-functions.ensures.len lt)

pub returns-clause-places : goal.returns-clause-places
returns-clause-places c =
    let T = seen c.args.whole.now in
    let main = c.args.flow.now.main in
    c.in_ok-region_places.ensures
    ∙ ap (λ (ps : List FunctionPlaces). all_traces ps 0 c.args.whole.now.layouts.now)
    (c.as_slice.ensures ∙ c.in_ok-pieces.ensures.places ∙ ap (λ (n : ℕ). all_places T (functions_begin T main) 0 n) c.len-functions.ensures.len)
