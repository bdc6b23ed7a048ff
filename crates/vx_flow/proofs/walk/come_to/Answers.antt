use Rattle.std.proofs.Common.{◌≡◌, Bool, false, [], ◌∷◌, ◌++◌, if◌then◌else◌, IfOk, ap, ◌∙◌, sym, subst}
use Rattle.std.proofs.lemmas.List.{get_or_read}
use Rattle.std.proofs.lemmas.Result.{IfOk-weaker}
use Rattle.vx_flow.specs.Walk.{edge}
use Rattle.vx_flow.specs.Walking.{path_begun, places_begun, seen_begun}
use Rattle.vx_flow.proofs.walk.come_to.Goals as goal

pub returns-else-index-clause-seen : goal.returns-else-index-clause-seen
returns-else-index-clause-seen c =
    let seen = c.args.seen.now.items in
    let e = sym c.if-index.false ∙ get_or_read c.args.on_path.now.items _ _ c.requires.path_has c.index.ensures false in
    subst (λ (b : Bool). IfOk c.begin.result (λ _. c.begin.new.seen.items ≡ (if b then seen else seen_begun seen c.args.to))) e c.begin.ensures.seen

pub returns-else-index-clause-on_path : goal.returns-else-index-clause-on_path
returns-else-index-clause-on_path c =
    let on_path = c.args.on_path.now.items in
    let e = sym c.if-index.false ∙ get_or_read on_path _ _ c.requires.path_has c.index.ensures false in
    subst (λ (b : Bool). IfOk c.begin.result (λ _. c.begin.new.on_path.items ≡ (if b then on_path else path_begun c.args.seen.now.items on_path c.args.to))) e c.begin.ensures.on_path

pub returns-else-index-clause-places : goal.returns-else-index-clause-places
returns-else-index-clause-places c =
    let places = c.args.places.now.items in
    let e = sym c.if-index.false ∙ get_or_read c.args.on_path.now.items _ _ c.requires.path_has c.index.ensures false in
    subst (λ (b : Bool). IfOk c.begin.result (λ _. c.begin.new.places.items ≡ (if b then places else places_begun c.args.seen.now.items places c.args.to))) e c.begin.ensures.places

pub returns-else-index-clause-back : goal.returns-else-index-clause-back
returns-else-index-clause-back c =
    let back = c.args.back.now.items in
    let e = sym c.if-index.false ∙ get_or_read c.args.on_path.now.items _ _ c.requires.path_has c.index.ensures false in
    IfOk-weaker c.begin.result _ _ (λ done h. ap (λ (b : Bool). if b then back ++ edge c.args.from c.args.to ∷ [] else back) e) c.begin.ensures.seen
