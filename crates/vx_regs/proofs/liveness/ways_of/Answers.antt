use Rattle.std.proofs.Common.{◌+◌, ◌++◌, ◌≡◌, ◌<◌, ℕ, None, Option, List, drop, get_or, length, append_assoc, sym, ap, subst, ◌∙◌}
use Rattle.std.proofs.lemmas.List.{drop_more}
use Rattle.vx_flow.specs.declared.routes.Route.{Route}
use Rattle.vx_mixed.specs.declared.layout.VirtualWord.{VirtualWord}
use Rattle.vx_regs.specs.Ways.{way_list, ways_from}
use Rattle.vx_regs.proofs.liveness.ways_of.Goals as goal

-- the way of one place more
one_more : (numbers : List (Option ℕ)) (words : List VirtualWord) (place k : ℕ) (routes more all : List Route) → place < length numbers → k ≡ place → more ≡ routes ++ way_list numbers words k (get_or numbers place None) → routes ++ ways_from numbers words place (drop place numbers) ≡ all → more ++ ways_from numbers words (place + 1) (drop (place + 1) numbers) ≡ all
one_more numbers words place k routes more all below same is before =
    let number : Option ℕ = get_or numbers place None in
    let rest = ways_from numbers words (place + 1) (drop (place + 1) numbers) in
    ap (λ (z : List Route). z ++ rest) is
    ∙ append_assoc routes (way_list numbers words k number) rest
    ∙ ap (λ (n : ℕ). routes ++ (way_list numbers words n number ++ rest)) same
    ∙ ap (λ (z : List (Option ℕ)). routes ++ ways_from numbers words place z) (sym (drop_more numbers place None below))
    ∙ before

pub loop-place-preserved : goal.loop-place-preserved
loop-place-preserved c =
    let numbers = c.args.nodes.now.numbers in
    let words = c.args.words.now in
    let place = c.loop-place.place in
    let k = c.in_ok-number_of.field-0 in
    let routes = c.loop-place.routes in
    let more = c.push_way.new.routes in
    one_more numbers words place k routes more (ways_from numbers words 0 numbers)
    (subst (λ (z : List (Option ℕ)). place < length z) c.as_slice-number-items.ensures c.loop-place-test.true)
    c.in_ok-number_of.ensures
    (subst (λ (z : List (Option ℕ)). more ≡ routes ++ way_list numbers words k (get_or z place None)) c.as_slice-number-items.ensures c.in_ok-push_way.ensures)
    c.loop-place.invariant
