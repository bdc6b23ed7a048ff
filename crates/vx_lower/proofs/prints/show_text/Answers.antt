use Rattle.std.proofs.Common.{◌≡◌, ap, length, refl, sym, ◌∙◌, ◌++◌, ◌∷◌, []}
use Rattle.std.proofs.lemmas.Bool.{eqb-true}
use Rattle.std.proofs.lemmas.Result.{on_ok_weaker}
use Rattle.vx_lower.specs.declared.prints.Format.{Format}
use Rattle.vx_lower.specs.Makes.{bytes_of}
use Rattle.vx_lower.proofs.Places.{nothing}
use Rattle.vx_lower.proofs.PrintMaking.{shifts_as, shifts_self, shifts_text}
use Rattle.vx_lower.proofs.FittingStatements.{shows_nothing, shows_text}
use Rattle.vx_lower.proofs.prints.show_text.Goals as goal

pub returns-clause-code : goal.returns-clause-code
returns-clause-code c = on_ok_weaker c.put.result (λ h. (
  ap (λ z. let f : Format = record { text = z; directive = c.args.format.now.directive; next = c.args.format.now.next } in f) (c.replace-text.ensures.after ∙ c.new.ensures),
  λ r ps os. shifts_text c.args.format.now.text _ ps os c.args.b.now c.put.new.self c.args.texts.now c.push.new.self c.len-number.ensures.len (c.in_ok-push.ensures.ok ∙ ap (λ z. c.args.texts.now ++ z ∷ []) c.replace-text.ensures.value) h r,
)) c.put.ensures.code

pub returns-clause-fits : goal.returns-clause-fits
returns-clause-fits c = on_ok_weaker c.put.result (shows_text [] c.args.format.now.text _ c.args.b.now c.put.new.self c.args.texts.now c.push.new.self c.len-number.ensures.len (c.in_ok-push.ensures.ok ∙ ap (λ z. c.args.texts.now ++ z ∷ []) c.replace-text.ensures.value)) c.put.ensures.steps

pub returns-then-is_empty-clause-fits : goal.returns-then-is_empty-clause-fits
returns-then-is_empty-clause-fits c = shows_nothing [] c.args.b.now c.args.texts.now

pub returns-then-is_empty-clause-code : goal.returns-then-is_empty-clause-code
returns-then-is_empty-clause-code c =
    let text = c.args.format.now.text in
    let empty : text ≡ [] = nothing text (eqb-true (length text) 0 (sym c.is_empty.ensures ∙ c.if-is_empty.true)) in (
      ap (λ z. let f : Format = record { text = z; directive = c.args.format.now.directive; next = c.args.format.now.next } in f) empty,
      λ r ps os. shifts_as ps ps (bytes_of text ++ ps) ps os os c.args.b.now c.args.b.now c.args.texts.now c.args.texts.now (ap (λ z. bytes_of z ++ ps) (sym empty)) refl (shifts_self ps os c.args.b.now c.args.texts.now r),
    )
