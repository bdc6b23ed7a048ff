use Rattle.std.proofs.Common.{◌≡◌, ◌∙◌, slice_get, ap}
use Rattle.vx_mixed.specs.Next.{exit_in, last_of, new_end, renamed_exit}
use Rattle.vx_replace.proofs.region.region_of.Goals as goal

pub returns : goal.returns
returns c =
    let m = c.args.graph.now in
    let r = c.args.replacement.now in
    let from_is : c.last_of-from.result ≡ last_of r.trace.blocks = c.last_of-from.ensures ∙ ap last_of c.as_slice-2.ensures in
    λ i. record {
      blocks = (c.in_ok-blocks.ensures ∙ c.as_slice.ensures) i;
      words = c.in_ok-words.ensures i;
      from = from_is i;
      last = (c.in_ok-last.ensures ∙ ap (λ f. renamed_exit (new_end m r.made f) (exit_in (slice_get m.nodes f))) from_is) i;
      drain = r.last_drain;
    }
