use Rattle.std.proofs.Common.{◌≡◌, pos, ◌-ℤ◌, sym, ◌∙◌, subst, rules, w32, FitsSigned}
use Rattle.std.specs.Prelude.{SomeIff}
use Rattle.std.proofs.lemmas.Int.{to_z-of_z}
use Rattle.vx_ast.specs.declared.token.Mark.TheVariants as marks
use Rattle.vx_parse.proofs.HandedOn.{handed_on}
use Rattle.vx_parse.proofs.Tokens.{passes_mark}
use Rattle.vx_parse.proofs.Parts.{misfit_number}
use Rattle.vx_parse.proofs.Definitions.{minus_before, negative_is}
use Rattle.vx_parse.proofs.definition.read_negative.Goals as goal

pub read_number-requires-clause-within : goal.read_number-requires-clause-within
read_number-requires-clause-within c =
    (passes_mark c.args.tokens.now c.args.place marks.Minus c.requires.ended c.requires.within c.requires.here).within

pub returns-in_err-number-clause-stop : goal.returns-in_err-number-clause-stop
returns-in_err-number-clause-stop c =
    let p = passes_mark c.args.tokens.now c.args.place marks.Minus c.requires.ended c.requires.within c.requires.here in
    let b = minus_before c.args.tokens.now c.args.place p c.requires.within c.requires.here in
    handed_on _ _ _ c.from_residual.ensures.1 (misfit_number b c.in_err-number.field-0.0 c.in_err-number.ensures.stop)

pub returns-in-Some-clause-ok : goal.returns-in-Some-clause-ok
returns-in-Some-clause-ok c =
    let p = passes_mark c.args.tokens.now c.args.place marks.Minus c.requires.ended c.requires.within c.requires.here in
    let v : FitsSigned w32 c.in_ok-number.number.value = search rules in
    let d : SomeIff c.checked_sub.result (FitsSigned w32 (pos 0 -ℤ c.in_ok-number.number.value)) (pos 0 -ℤ c.in_ok-number.number.value) =
    subst (λ z. SomeIff c.checked_sub.result (FitsSigned w32 (pos 0 -ℤ z)) (pos 0 -ℤ z)) (to_z-of_z w32 c.in_ok-number.number.value v) c.checked_sub.ensures in
    let s : FitsSigned w32 (pos 0 -ℤ c.in_ok-number.number.value) × (c.in-Some.value ≡ pos 0 -ℤ c.in_ok-number.number.value) = subst (λ z. SomeIff z (FitsSigned w32 (pos 0 -ℤ c.in_ok-number.number.value)) (pos 0 -ℤ c.in_ok-number.number.value)) c.in-Some.is d in
    let f : FitsSigned w32 c.in-Some.value = subst (FitsSigned w32) (sym s.1) s.0 in
    negative_is c.args.tokens.now c.args.place c.in_ok-number.number _ p c.requires.within c.requires.here c.in_ok-number.ensures.ok (to_z-of_z w32 c.in-Some.value f ∙ s.1)
