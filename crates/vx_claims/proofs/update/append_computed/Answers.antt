use Rattle.std.proofs.Common.{◌≡◌, ◌||◌, Bool, false, ap, sym, ◌∙◌}
use Rattle.std.proofs.lemmas.Bool.{false≢true}
use Rattle.vx_flow.specs.Sound.{is_value}
use Rattle.vx_claims.proofs.Kept.{said_pushed}
use Rattle.vx_claims.proofs.update.append_computed.Goals as goal
use Rattle.vx_claims.proofs.update.append_computed.Goals.{then-is_value, else-is_value}

pub returns-in_ok-push : goal.returns-in_ok-push
returns-in_ok-push c =
    let not_read : (is_value c.args.to c.args.left || is_value c.args.to c.args.right) ≡ false = elim c.if-is_value.branch [
      | then-is_value w ↦ absurd (false≢true (sym c.if-not-is_value.true ∙ w.value-is ∙ w.if-is_value.true))
      | else-is_value w ↦ ap (λ (t : Bool). t || is_value c.args.to c.args.right) (sym c.is_value.ensures ∙ w.if-is_value.false) ∙ sym w.is_value-else-is_value.ensures ∙ sym w.value-is ∙ c.if-not-is_value.true
    ] in
    said_pushed c.args.list.now c.append_result.new.list c.push.new.self c.args.facts.now c.args.code c.args.to c.args.left c.args.right c.in_ok-append_result.ensures not_read c.in_ok-push.ensures.ok
