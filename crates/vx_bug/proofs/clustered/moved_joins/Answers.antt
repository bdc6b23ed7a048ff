use Rattle.std.proofs.Common.{◌≡◌, ◌∷◌, ◌++◌, ◌∙◌, [], ℕ, List, map, sym, ap, append_assoc, append-nil}
use Rattle.std.proofs.lemmas.List.{nil_from_length}
use Rattle.vx_flow.specs.declared.graph.Edge.{Edge}
use Rattle.vx_flow.specs.declared.trace.Join.{Join}
use Rattle.vx_bug.specs.Laying.{start_in}
use Rattle.vx_bug.proofs.clustered.moved_joins.Goals as goal

abbrev moved_by : List ℕ → Join → Join
moved_by starts join = record join { place = start_in starts join.place }

one_moved : (starts : List ℕ) (moved more rest others : List Join) (join : Join) (all : List Join) (place : ℕ) (edges : List Edge) → rest ≡ join ∷ others → place ≡ start_in starts join.place → edges ≡ join.edges →
    more ≡ moved ++ record { place = place; block = join.block; edges = edges } ∷ [] → moved ++ map (moved_by starts) rest ≡ all → more ++ map (moved_by starts) others ≡ all
one_moved starts moved more rest others join all place edges r p e m i =
    let same : record { place = place; block = join.block; edges = edges } ≡ moved_by starts join =
    ap (λ n. let j : Join = record { place = n; block = join.block; edges = edges } in j) p ∙ ap (λ es. let j : Join = record { place = start_in starts join.place; block = join.block; edges = es } in j) e in
    ap (λ z. z ++ map (moved_by starts) others) m
    ∙ append_assoc moved (record { place = place; block = join.block; edges = edges } ∷ []) (map (moved_by starts) others)
    ∙ ap (λ j. moved ++ j ∷ map (moved_by starts) others) same
    ∙ ap (λ z. moved ++ map (moved_by starts) z) (sym r)
    ∙ i

pub returns-in-None : goal.returns-in-None
returns-in-None c =
    sym (append-nil c.move_down.moved) ∙ ap (λ z. c.move_down.moved ++ map (moved_by c.args.starts.now) z) (sym (nil_from_length c.move_down.rest.now c.in-None.ensures.cases)) ∙ c.move_down.invariant

pub move_down-preserved : goal.move_down-preserved
move_down-preserved c =
    one_moved c.args.starts.now c.move_down.moved c.push.new.self c.move_down.rest.now c.in-Some.others.now c.in-Some.join.now _ c.start_in.result _ c.in-Some.ensures.cases.0 c.start_in.ensures (c.in_ok-copied-in-Some.ensures ∙ c.as_slice.ensures) c.in_ok-push-in-Some.ensures.ok c.move_down.invariant
