use Rattle.std.proofs.Common.{◌≡◌, ℕ, List, refl, ◌∙◌, ap, subst}
use Rattle.vx_bug.specs.Clusters.{Books, listed, at_first}
use Rattle.vx_bug.specs.Copies.{with_copies}
use Rattle.vx_bug.specs.Choices.{TurnsTaken}
use Rattle.vx_bug.specs.Ledgers.{books_of}
use Rattle.vx_bug.proofs.Assembled.{assigned_told, housed_told}
use Rattle.vx_bug.proofs.assignment.choose_clusters.Goals as goal

pub returns : goal.returns
returns c =
    let m = c.args.machine.now in
    let t = c.args.trace.now in
    let homes = c.args.homes.now in
    let turns = c.in_ok-turns.turns in
    let housed = c.in_ok-housed.housed in
    let last : Books = books_of c.all_turns.new.ledger in
    let order = c.in_ok-turns.ensures.order in
    let taken : TurnsTaken m t (at_first homes) (listed t) turns.chosen turns.estimates last =
    subst (λ (b : Books). TurnsTaken m t b (listed t) turns.chosen turns.estimates last) c.in_ok-ledger.ensures c.in_ok-turns.ensures.taken in
    let clustered : housed.clustered ≡ with_copies t last.homes turns.chosen = c.in_ok-housed.ensures.clustered ∙ ap (λ (x : List ℕ). with_copies t last.homes x) c.as_slice.ensures in (
      assigned_told m t homes _ last turns.chosen turns.estimates housed.homes.clusters order refl refl refl taken clustered c.in_ok-housed.ensures.homes,
      housed_told m t homes _ last turns.chosen turns.estimates housed.homes.clusters order refl refl refl taken clustered c.in_ok-housed.ensures.homes,
    )
