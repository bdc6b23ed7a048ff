use Rattle.std.proofs.Common.{◌≡◌, ◌++◌, ◌∷◌, [], ℕ, List, append_assoc, ap, sym, ◌∙◌, append-nil}
use Rattle.std.proofs.lemmas.List.{nil_from_length}
use Rattle.std.proofs.lemmas.Result.{IfOk-equal}
use Rattle.vx_isa.specs.declared.operation.Operation.{Operation}
use Rattle.vx_mixed.specs.declared.layout.Laid.{Laid}
use Rattle.vx_mixed.specs.declared.layout.Laid.TheVariants.{Plain, Split}
use Rattle.vx_target.specs.Target.{Target, carried_items}
use Rattle.vx_slots.specs.Seen.{seen}
use Rattle.vx_carry.proofs.carried_word.+push_items.Goals as goal

-- one item more in front
items_are : (T : Target) (f p : ℕ) (reads writes : List ℕ) (item : Laid) (rest : List Laid) (op : Operation) → carried_items T f p reads writes (item ∷ []) ≡ op ∷ [] → carried_items T f p reads writes (item ∷ rest) ≡ op ∷ carried_items T f p reads writes rest
items_are T f p reads writes (Plain o k) rest op e = ap (λ (z : List Operation). z ++ carried_items T f p reads writes rest) e
items_are T f p reads writes (Split test y q) rest op e = ap (λ (z : List Operation). z ++ carried_items T f p reads writes rest) e

pub returns-in_ok-push-in-Some : goal.returns-in_ok-push-in-Some
returns-in_ok-push-in-Some t c =
    let T = seen c.args.whole.now in
    let plan = c.args.plan.now in
    let old = c.args.ops.now in
    let item = c.in-Some.item.now in
    let rest = c.in-Some.rest.now in
    let op = c.in_ok-carried_item-in-Some.field-0 in
    let more = carried_items T plan.function plan.place plan.reads plan.writes rest in
    let all : c.args.items.now ≡ item ∷ rest = c.in-Some.ensures.cases.0 in
    IfOk-equal _ _ _ _ c.push_items.ensures
    (ap (λ (z : List Operation). z ++ more) c.in_ok-push-in-Some.ensures.ok
    ∙ append_assoc old (op ∷ []) more
    ∙ ap (λ (z : List Operation). old ++ z) (sym (items_are T plan.function plan.place plan.reads plan.writes item rest op c.in_ok-carried_item-in-Some.ensures))
    ∙ ap (λ (z : List Laid). old ++ carried_items T plan.function plan.place plan.reads plan.writes z) (sym all))

pub returns-in-None : goal.returns-in-None
returns-in-None t c =
    let plan = c.args.plan.now in
    let old = c.args.ops.now in
    sym (append-nil old) ∙ ap (λ (z : List Laid). old ++ carried_items (seen c.args.whole.now) plan.function plan.place plan.reads plan.writes z) (sym (nil_from_length c.args.items.now c.in-None.ensures.cases))
