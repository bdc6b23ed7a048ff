use Rattle.std.proofs.Common.{◌≡◌, ◌∙◌, Bool, true, false, [], ◌∷◌, ◌++◌, if◌then◌else◌, get_or, slice_set, ap, subst, sym}
use Rattle.std.proofs.lemmas.List.{get_or_read}
use Rattle.std.proofs.lemmas.Result.{IfOk-from_err}
use Rattle.vx_flow.specs.Walking.{place}
use Rattle.vx_tables.proofs.Marks.{length_set}
use Rattle.vx_flow.proofs.walk.begin.Goals as goal

pub returns-in_ok-push-clause-seen : goal.returns-in_ok-push-clause-seen
returns-in_ok-push-clause-seen c =
    let e = subst (λ (d : Bool). d ≡ get_or c.args.seen.now.items c.args.block d) c.if-not-index.true c.index.ensures in
    ap (λ (b : Bool). if b then c.args.seen.now.items else slice_set c.args.seen.now.items c.args.block true) e

pub returns-in_ok-push-clause-on_path : goal.returns-in_ok-push-clause-on_path
returns-in_ok-push-clause-on_path c =
    let e = subst (λ (d : Bool). d ≡ get_or c.args.seen.now.items c.args.block d) c.if-not-index.true c.index.ensures in
    ap (λ (b : Bool). if b then c.args.on_path.now.items else slice_set c.args.on_path.now.items c.args.block true) e

pub returns-in_ok-push-clause-places : goal.returns-in_ok-push-clause-places
returns-in_ok-push-clause-places c =
    let e = subst (λ (d : Bool). d ≡ get_or c.args.seen.now.items c.args.block d) c.if-not-index.true c.index.ensures in
    c.in_ok-push.ensures.items ∙ ap (λ (b : Bool). if b then c.args.places.now.items else c.args.places.now.items ++ place c.args.block 0 ∷ []) e

pub returns-else-not-index-clause-seen : goal.returns-else-not-index-clause-seen
returns-else-not-index-clause-seen c =
    let e = sym c.if-not-index.false ∙ get_or_read c.args.seen.now.items _ _ c.requires.seen_has c.index.ensures false in
    ap (λ (b : Bool). if b then c.args.seen.now.items else slice_set c.args.seen.now.items c.args.block true) e

pub returns-else-not-index-clause-on_path : goal.returns-else-not-index-clause-on_path
returns-else-not-index-clause-on_path c =
    let e = sym c.if-not-index.false ∙ get_or_read c.args.seen.now.items _ _ c.requires.seen_has c.index.ensures false in
    ap (λ (b : Bool). if b then c.args.on_path.now.items else slice_set c.args.on_path.now.items c.args.block true) e

pub returns-else-not-index-clause-places : goal.returns-else-not-index-clause-places
returns-else-not-index-clause-places c =
    let e = sym c.if-not-index.false ∙ get_or_read c.args.seen.now.items _ _ c.requires.seen_has c.index.ensures false in
    ap (λ (b : Bool). if b then c.args.places.now.items else c.args.places.now.items ++ place c.args.block 0 ∷ []) e

pub returns-in_err-push-clause-seen : goal.returns-in_err-push-clause-seen
returns-in_err-push-clause-seen c = IfOk-from_err _ _ c.from_residual.ensures.0

pub returns-in_err-push-clause-on_path : goal.returns-in_err-push-clause-on_path
returns-in_err-push-clause-on_path c = IfOk-from_err _ _ c.from_residual.ensures.0

pub returns-in_err-push-clause-places : goal.returns-in_err-push-clause-places
returns-in_err-push-clause-places c = IfOk-from_err _ _ c.from_residual.ensures.0

pub returns-in_ok-push-clause-seen_len : goal.returns-in_ok-push-clause-seen_len
returns-in_ok-push-clause-seen_len c = length_set c.args.seen.now.items c.args.block

pub returns-in_ok-push-clause-path_len : goal.returns-in_ok-push-clause-path_len
returns-in_ok-push-clause-path_len c = length_set c.args.on_path.now.items c.args.block

pub returns-in_err-push-clause-seen_len : goal.returns-in_err-push-clause-seen_len
returns-in_err-push-clause-seen_len c = length_set c.args.seen.now.items c.args.block

pub returns-in_err-push-clause-path_len : goal.returns-in_err-push-clause-path_len
returns-in_err-push-clause-path_len c = length_set c.args.on_path.now.items c.args.block
