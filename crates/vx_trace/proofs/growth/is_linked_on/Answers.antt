use Rattle.vx_trace.proofs.Bests.{into_found, into_missed}
use Rattle.vx_trace.proofs.growth.is_linked_on.Goals as goal

pub returns-then-passes-clause-holds : goal.returns-then-passes-clause-holds
returns-then-passes-clause-holds c = λ t. record { out = c.requires.heaviest; into = into_found c.args.mixed.now c.args.counts.now c.args.edge c.source.result c.source.ensures (c.is_some_of.ensures.holds t); passes = c.passes.ensures.holds c.if-passes.true }

pub returns-then-passes-clause-fails : goal.returns-then-passes-clause-fails
returns-then-passes-clause-fails c = λ f l. into_missed c.args.mixed.now c.args.counts.now c.args.edge c.source.result c.source.ensures (c.is_some_of.ensures.fails f) l.into
