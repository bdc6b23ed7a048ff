use Rattle.std.proofs.Common.{[], vec_capacity, length, ap, ◌+◌, ◌∙◌, ◌∷◌}
use Rattle.std.proofs.lemmas.List.{length-append}
use Rattle.vx_sim.proofs.Places.{Place, place_more}
use Rattle.vx_sim.proofs.memory.places_for.Goals as goal

pub loop-preserved : goal.loop-preserved
loop-preserved c =
    let old = c.loop.places.items in
    let place = c.in_ok-with_capacity.field-0 in
    let h = c.loop.invariant in
    let pushed = c.in_ok-push.ensures.items in
    record {
      empty = place_more (λ (v : Place). v.items) old _ place c.loop.counter [] pushed h.empty c.in_ok-with_capacity.ensures.items;
      room = place_more vec_capacity old _ place c.loop.counter c.args.room pushed h.room c.in_ok-with_capacity.ensures.exact;
      len = ap length pushed ∙ length-append old (place ∷ []) ∙ ap (λ n. n + 1) h.len;
    }
