use Rattle.std.proofs.Common.{ap, ◌∙◌, min}
use Rattle.vx_probe.proofs.Cycling.{number_at}
use Rattle.vx_probe.proofs.timing.CyclicTiming.lands.Goals as goal

pub returns-clause-number : goal.returns-clause-number
returns-clause-number c =
    c.min.ensures ∙ ap (λ n. min n c.args.latency) c.max.ensures
    ∙ number_at c.args.self.now.list.items c.args.self.now.place c.index-number.result.now c.args.latency c.args.self.now.inside c.index-number.ensures
