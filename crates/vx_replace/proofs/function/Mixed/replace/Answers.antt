use Rattle.std.proofs.Common.{◌≡◌, OnOk, subst}
use Rattle.std.specs.Prelude.{OnErr}
use Rattle.vx_mixed.specs.Next.{next_mixed}
use Rattle.vx_replace.proofs.Replaces.{can_at}
use Rattle.vx_replace.proofs.function.Mixed.replace.Goals as goal

pub replace_trace-replaced-requires-clause-can : goal.replace_trace-replaced-requires-clause-can
replace_trace-replaced-requires-clause-can c =
    can_at c.self.inside.graph c.args.self.now c.args.replacement c.self.view_is c.requires.trace c.requires.formed c.requires.names c.requires.lists c.requires.words c.requires.made c.requires.stand c.requires.homes c.requires.away

pub invariant_of-self : goal.invariant_of-self
invariant_of-self c = (c.replace_trace-replaced.ensures.edges, c.replace_trace-replaced.ensures.valid)

pub returns-clause-next : goal.returns-clause-next
returns-clause-next c = subst (λ m. OnOk c.replace_trace-replaced.result (c.replace_trace-replaced.new.graph ≡ next_mixed m c.args.replacement)) c.self.view_is c.replace_trace-replaced.ensures.next

pub returns-clause-unchanged : goal.returns-clause-unchanged
returns-clause-unchanged c = subst (λ m. OnErr c.replace_trace-replaced.result (c.replace_trace-replaced.new.graph ≡ m)) c.self.view_is c.replace_trace-replaced.ensures.unchanged
