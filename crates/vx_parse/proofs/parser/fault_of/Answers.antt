use Rattle.std.proofs.Common.{inr, subst, [], ◌∷◌}
use Rattle.vx_ast.specs.Phrases as phrases
use Rattle.vx_ast.specs.Phrases.{A}
use Rattle.vx_parse.specs.Reading.{Stops}
use Rattle.vx_parse.proofs.Programs.{misparsed, too_deep_program}
use Rattle.vx_parse.specs.declared.stop.Stop.TheVariants.{Unexpected, TooDeep}
use Rattle.vx_parse.proofs.parser.fault_of.Goals as goal

pub returns-in-Unexpected : goal.returns-in-Unexpected
returns-in-Unexpected c =
    let w : Stops (A phrases.Program ∷ []) c.args.tokens.now c.args.tokens.now 0 0 (Unexpected c.in-Unexpected.place) = subst (λ z. Stops (A phrases.Program ∷ []) c.args.tokens.now c.args.tokens.now 0 0 z) c.in-Unexpected.is c.requires in
    inr (misparsed c.args.tokens.now c.in-Unexpected.place c.place_at-line.result w c.place_at-line.ensures)

pub returns-in-TooDeep : goal.returns-in-TooDeep
returns-in-TooDeep c =
    let w : Stops (A phrases.Program ∷ []) c.args.tokens.now c.args.tokens.now 0 0 TooDeep = subst (λ z. Stops (A phrases.Program ∷ []) c.args.tokens.now c.args.tokens.now 0 0 z) c.in-TooDeep.is c.requires in
    inr (too_deep_program c.args.tokens.now w)
