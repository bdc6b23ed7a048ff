use Rattle.std.proofs.Common.{◌≡◌, ◌<◌, ℕ, Option, List, if◌then◌else◌, IfOk, IfSome, length, ap, subst, sym}
use Rattle.std.proofs.lemmas.Result.{IfOk-from_err}
use Rattle.vx_flow.specs.declared.walk.Place.{Place}
use Rattle.vx_flow.specs.Rows.{is_marked}
use Rattle.vx_flow.specs.Walking.{back_after, path_after, places_after, places_begun, seen_after}
use Rattle.vx_flow.proofs.walk.step.Goals as goal

pub come_to-requires-clause-seen_has : goal.come_to-requires-clause-seen_has
come_to-requires-clause-seen_has c = subst (λ (o : Option ℕ). IfSome o (λ x. x < length c.args.seen.now.items)) c.in-Some.is c.requires.seen_has

pub come_to-requires-clause-path_has : goal.come_to-requires-clause-path_has
come_to-requires-clause-path_has c = subst (λ (o : Option ℕ). IfSome o (λ x. x < length c.args.on_path.now.items)) c.in-Some.is c.requires.path_has

pub returns-in_ok-push-in-Some-clause-seen : goal.returns-in_ok-push-in-Some-clause-seen
returns-in_ok-push-in-Some-clause-seen c =
    subst (λ (o : Option ℕ). IfOk c.come_to.result (λ _. c.come_to.new.seen.items ≡ seen_after o c.args.seen.now.items c.args.on_path.now.items)) (sym c.in-Some.is) c.come_to.ensures.seen

pub returns-in_ok-push-in-Some-clause-on_path : goal.returns-in_ok-push-in-Some-clause-on_path
returns-in_ok-push-in-Some-clause-on_path c =
    subst (λ (o : Option ℕ). IfOk c.come_to.result (λ _. c.come_to.new.on_path.items ≡ path_after o c.args.place c.args.seen.now.items c.args.on_path.now.items)) (sym c.in-Some.is) c.come_to.ensures.on_path

pub returns-in_ok-push-in-Some-clause-places : goal.returns-in_ok-push-in-Some-clause-places
returns-in_ok-push-in-Some-clause-places c =
    let seen = c.args.seen.now.items in
    let on_path = c.args.on_path.now.items in
    let to = c.in-Some.to in
    let q = c.in_ok-push-in-Some.ensures.items in
    subst (λ (o : Option ℕ). IfOk c.come_to.result (λ _. c.come_to.new.places.items ≡ places_after o c.args.place seen on_path c.args.places.now.items)) (sym c.in-Some.is)
    (subst (λ (l : List Place). IfOk c.come_to.result (λ _. c.come_to.new.places.items ≡ (if is_marked on_path to then l else places_begun seen l to))) q c.come_to.ensures.places)

pub returns-in_ok-push-in-Some-clause-back : goal.returns-in_ok-push-in-Some-clause-back
returns-in_ok-push-in-Some-clause-back c =
    subst (λ (o : Option ℕ). IfOk c.come_to.result (λ _. c.come_to.new.back.items ≡ back_after o c.args.place c.args.on_path.now.items c.args.back.now.items)) (sym c.in-Some.is) c.come_to.ensures.back

pub returns-in-None-clause-seen : goal.returns-in-None-clause-seen
returns-in-None-clause-seen c = ap (λ (o : Option ℕ). seen_after o c.args.seen.now.items c.args.on_path.now.items) (sym c.in-None.is)

pub returns-in-None-clause-on_path : goal.returns-in-None-clause-on_path
returns-in-None-clause-on_path c = ap (λ (o : Option ℕ). path_after o c.args.place c.args.seen.now.items c.args.on_path.now.items) (sym c.in-None.is)

pub returns-in-None-clause-places : goal.returns-in-None-clause-places
returns-in-None-clause-places c = ap (λ (o : Option ℕ). places_after o c.args.place c.args.seen.now.items c.args.on_path.now.items c.args.places.now.items) (sym c.in-None.is)

pub returns-in-None-clause-back : goal.returns-in-None-clause-back
returns-in-None-clause-back c = ap (λ (o : Option ℕ). back_after o c.args.place c.args.on_path.now.items c.args.back.now.items) (sym c.in-None.is)

pub returns-in_err-push-in-Some-clause-seen : goal.returns-in_err-push-in-Some-clause-seen
returns-in_err-push-in-Some-clause-seen c = IfOk-from_err _ _ c.from_residual.ensures.0

pub returns-in_err-push-in-Some-clause-on_path : goal.returns-in_err-push-in-Some-clause-on_path
returns-in_err-push-in-Some-clause-on_path c = IfOk-from_err _ _ c.from_residual.ensures.0

pub returns-in_err-push-in-Some-clause-places : goal.returns-in_err-push-in-Some-clause-places
returns-in_err-push-in-Some-clause-places c = IfOk-from_err _ _ c.from_residual.ensures.0

pub returns-in_err-push-in-Some-clause-back : goal.returns-in_err-push-in-Some-clause-back
returns-in_err-push-in-Some-clause-back c = IfOk-from_err _ _ c.from_residual.ensures.0
