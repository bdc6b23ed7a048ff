use Rattle.std.proofs.Common.{ℕ, ◌+◌, ◌<◌, List, length, ap, sym, ◌∙◌, subst}
use Rattle.vx_ast.specs.declared.names.FileName.{FileName}
use Rattle.vx_ast.specs.Scopes.{Environment}
use Rattle.vx_types.proofs.Codes.{holds_on, known_on}
use Rattle.vx_types.proofs.program.pass_definition.Goals as goal

pub returns-in-Ok-clause-made : goal.returns-in-Ok-clause-made
returns-in-Ok-clause-made c = holds_on c.pass.result c.in-Ok.ensures.made

pub returns-in-Ok-clause-faults : goal.returns-in-Ok-clause-faults
returns-in-Ok-clause-faults c = holds_on c.pass.result c.in-Ok.ensures.faults

pub returns-in-Ok-clause-locals : goal.returns-in-Ok-clause-locals
returns-in-Ok-clause-locals c = known_on c.pass.result (λ b e. ap (λ (z : Environment). z.locals) e ∙ c.in-Ok.ensures.locals) c.pass.ensures

pub returns-in-Ok-clause-names : goal.returns-in-Ok-clause-names
returns-in-Ok-clause-names c = known_on c.pass.result (λ b e. ap (λ (z : Environment). z.names) e ∙ c.in-Ok.ensures.names) c.pass.ensures

pub returns-in-Ok-clause-takes : goal.returns-in-Ok-clause-takes
returns-in-Ok-clause-takes c = known_on c.pass.result (λ b e. ap (λ (z : Environment). z.takes) e ∙ c.in-Ok.ensures.takes) c.pass.ensures

pub returns-in-Ok-clause-above : goal.returns-in-Ok-clause-above
returns-in-Ok-clause-above c = known_on c.pass.result (λ b e. ap (λ (z : Environment). z.above) e ∙ ap (λ (n : ℕ). n + 1) c.in-Ok.ensures.above) c.pass.ensures

pub pass-requires-clause-there : goal.pass-requires-clause-there
pass-requires-clause-there c =
    subst (λ (z : List FileName). c.definition.new.names.above < length z) (sym c.in-Ok.ensures.names) (subst (λ (n : ℕ). n < length c.args.names.names) (sym c.in-Ok.ensures.above) c.requires.there)
