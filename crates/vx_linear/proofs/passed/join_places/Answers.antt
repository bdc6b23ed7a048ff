use Rattle.std.proofs.Common.{◌≡◌, ◌∙◌, ◌||◌, Bool, true, false, List, ap, nat_eq, refl, sym}
use Rattle.std.specs.List.{list_any}
use Rattle.std.specs.Map.{lookup}
use Rattle.std.specs.Prelude.{is_some}
use Rattle.std.proofs.lemmas.List.{nil_from_length}
use Rattle.vx_flow.specs.declared.trace.Join.{Join}
use Rattle.vx_linear.proofs.passed.join_places.Goals as goal

or_false : (b : Bool) → b ≡ (b || false)
or_false true = refl
or_false false = refl

-- no join is left
pub returns-in-None : goal.returns-in-None
returns-in-None c = λ p.
    let here = is_some (lookup (nat_eq p) c.joins.places.entries.entries) in
    or_false here ∙ ap (λ (js : List Join). here || list_any (λ j. nat_eq j.place p) js) (sym (nil_from_length c.joins.rest.now c.in-None.ensures.cases)) ∙ c.joins.invariant p
