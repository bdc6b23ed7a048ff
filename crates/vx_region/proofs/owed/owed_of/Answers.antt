use Rattle.std.proofs.Common.{◌≡◌, ◌++◌, ◌∙◌, map, ap}
use Rattle.vx_dep.specs.declared.copies.EdgeCopies.{EdgeCopies}
use Rattle.vx_dep.specs.declared.copies.Rejoin.{Rejoin}
use Rattle.vx_dep.specs.Compensation.{at_joins_of, at_splits_of}
use Rattle.vx_region.specs.Owed.{with_drains}
use Rattle.vx_region.specs.Planned.{made_at_joins, made_at_splits}
use Rattle.vx_region.proofs.Owing.{drains_kept}
use Rattle.vx_region.proofs.owed.owed_of.Goals as goal

pub made_blocks-requires : goal.made_blocks-requires
made_blocks-requires c = c.as_slice.ensures.value ∙ c.in_ok-splits.ensures

pub copies_at-copies-requires-clause-splits : goal.copies_at-copies-requires-clause-splits
copies_at-copies-requires-clause-splits c = c.as_slice-3.ensures.value ∙ c.in_ok-splits.ensures

pub copies_at-copies-requires-clause-rejoins : goal.copies_at-copies-requires-clause-rejoins
copies_at-copies-requires-clause-rejoins c = c.as_slice-4.ensures ∙ c.in_ok-rejoins.ensures ∙ c.in_ok-at_joins.ensures

pub returns : goal.returns
returns c =
    let machine = c.args.machine.now in
    let p = c.args.placed.now in
    let joins = p.clustered.trace.joins in
    let rejoins : c.in_ok-rejoins.rejoins ≡ at_joins_of p = c.in_ok-rejoins.ensures ∙ c.in_ok-at_joins.ensures in
    let splits : c.in_ok-splits-2.splits ≡ with_drains machine p (at_splits_of p) = c.in_ok-splits-2.ensures ∙ ap (with_drains machine p) c.in_ok-splits.ensures in
    record {
      splits = splits;
      rejoins = rejoins;
      drains = drains_kept machine p c.in_ok-splits-2.splits c.in_ok-drains.drains splits (c.in_ok-drains.ensures ∙ ap (map (λ (x : EdgeCopies). x.drain)) c.as_slice-5.ensures);
      last_drain = c.drain_at-last_drain.ensures;
      starts = c.in_ok-starts.ensures ∙ ap (map (λ (x : Rejoin). x.word)) (c.as_slice-6.ensures ∙ rejoins);
      made = c.in_ok-made.ensures
          ∙ ap (λ l. made_at_splits p l ++ made_at_joins p joins c.as_slice-2.result.now) (c.as_slice.ensures.value ∙ c.in_ok-splits.ensures)
          ∙ ap (λ l. made_at_splits p (at_splits_of p) ++ made_at_joins p joins l) (c.as_slice-2.ensures ∙ rejoins);
      copies = c.copies_at-copies.ensures;
    }
