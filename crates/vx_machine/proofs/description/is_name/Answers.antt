use Rattle.std.proofs.Common.{◌≡◌, ◌∙◌, ◌+◌, ◌||◌, Bool, ap, drop, sym}
use Rattle.std.specs.List.{list_any}
use Rattle.std.specs.Str.{bytes_eq}
use Rattle.vx_machine.specs.Descriptions.{name_of, names}
use Rattle.vx_machine.proofs.Views.{is_name_more}
use Rattle.vx_machine.proofs.description.is_name.Goals as goal

pub loop-index-preserved : goal.loop-index-preserved
loop-index-preserved c =
    let key = c.args.key.now in
    let i = c.loop-index.index in
    let this : c.eq.result ≡ bytes_eq key (name_of (i + 1)) = c.eq.ensures ∙ ap (bytes_eq key) c.field_name.ensures in
    c.loop-index.invariant ∙ is_name_more key i c.loop-index-test.true ∙ ap (λ (t : Bool). t || list_any (bytes_eq key) (drop (i + 1) names)) (sym this ∙ c.if-eq.false)

pub returns-then-eq : goal.returns-then-eq
returns-then-eq c =
    let key = c.args.key.now in
    let i = c.loop-index.index in
    let this : c.eq.result ≡ bytes_eq key (name_of (i + 1)) = c.eq.ensures ∙ ap (bytes_eq key) c.field_name.ensures in
    sym (c.loop-index.invariant ∙ is_name_more key i c.loop-index-test.true ∙ ap (λ (t : Bool). t || list_any (bytes_eq key) (drop (i + 1) names)) (sym this ∙ c.if-eq.true))
