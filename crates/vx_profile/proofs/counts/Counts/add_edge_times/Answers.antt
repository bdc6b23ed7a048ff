use Rattle.std.proofs.Common.{◌+◌, ◌∙◌, ap, refl}
use Rattle.vx_profile.proofs.Counting.{edge_added}
use Rattle.vx_profile.proofs.counts.Counts.add_edge_times.Goals as goal

pub returns : goal.returns
returns c = edge_added c.args.self.now (record { blocks = c.args.self.now.blocks; edges = c.insert.new.self }) c.args.function c.args.from c.args.to c.args.more c.in_ok-next.next (c.in_ok-next.ensures ∙ ap (λ n. n + c.args.more) c.of_edge.ensures) c.in_ok-insert.ensures.updates.0 refl
