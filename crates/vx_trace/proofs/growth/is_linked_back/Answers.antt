use Rattle.vx_trace.proofs.Bests.{out_found, out_missed}
use Rattle.vx_trace.proofs.growth.is_linked_back.Goals as goal

pub returns-then-passes-clause-holds : goal.returns-then-passes-clause-holds
returns-then-passes-clause-holds c = λ t. record { out = out_found c.args.mixed.now c.args.counts.now c.args.edge c.target.result c.target.ensures (c.is_some_of.ensures.holds t); into = c.requires.heaviest; passes = c.passes.ensures.holds c.if-passes.true }

pub returns-then-passes-clause-fails : goal.returns-then-passes-clause-fails
returns-then-passes-clause-fails c = λ f l. out_missed c.args.mixed.now c.args.counts.now c.args.edge c.target.result c.target.ensures (c.is_some_of.ensures.fails f) l.out
