use Rattle.std.proofs.Common.{◌≡◌, ◌+◌, ◌++◌, ◌∷◌, [], ℕ, List, map, length, append_assoc, arith, sym, ap, ◌∙◌}
use Rattle.std.proofs.lemmas.List.{map_push}
use Rattle.vx_target.specs.declared.finished.TracePlaces.{TracePlaces}
use Rattle.vx_frame.specs.Regions.{traced}
use Rattle.vx_frame.proofs.regions.push_rows.Goals as goal

-- the rest is as long as it says, where it was so before
rest_is : (before rest : List (List ℕ)) (row : List ℕ) (many left : ℕ) → before ≡ row ∷ rest → left + 1 ≡ many → length before ≡ many → length rest ≡ left
rest_is before rest row many left e k n = let z : length before ≡ length (row ∷ rest) = ap (λ (rows : List (List ℕ)). length rows) e in omega arith

-- one region more
pub loop-places-preserved : goal.loop-places-preserved
loop-places-preserved c =
    let old = c.args.regions.now in
    let seen = c.loop-places.yielded in
    let places = c.in-Some.places in
    let before = c.loop-places.places-iterator.rest in
    let rest = c.next.new.self.rest in
    record {
      made = c.in_ok-push.ensures.ok
          ∙ ap (λ (z : List TracePlaces). z ++ traced places ∷ []) c.loop-places.invariant.made
          ∙ append_assoc old (map traced seen) (traced places ∷ [])
          ∙ ap (λ (z : List TracePlaces). old ++ z) (sym (map_push traced seen places));
      rest = append_assoc seen (places ∷ []) rest.items
          ∙ ap (λ (z : List (List ℕ)). seen ++ z) (sym c.in-Some.ensures.steps.0)
          ∙ c.loop-places.invariant.rest;
      left = rest_is before.items rest.items places before.len rest.len c.in-Some.ensures.steps.0 c.in-Some.ensures.steps.1 c.loop-places.invariant.left;
    }
