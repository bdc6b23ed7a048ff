use Rattle.std.proofs.Common.{◌≡◌, ◌∙◌, ◌+◌, ◌<◌, ◌≤◌, [], length, refl, sym, subst, arith}
use Rattle.std.proofs.lemmas.Result.{IfOk-from_err}
use Rattle.vx_flow.specs.Walking.{back_after, path_after, path_begun, places_after, places_begun, seen_after, seen_begun}
use Rattle.vx_flow.proofs.ClosingSteps.{empty_list}
use Rattle.vx_flow.proofs.WalkSteps.{walking_first, walking_step, walking_begin, walking_last, walking_same, last_below, next_below}
use Rattle.vx_flow.proofs.Remaining.{begun_less, stepped_less, taken_below}
use Rattle.vx_flow.proofs.walk.walk.Goals as goal

pub steps-init : goal.steps-init
steps-init c =
    let seen = c.args.seen.now.items in
    let on_path = c.args.on_path.now.items in
    record {
      walking = walking_same c.args.graph.now 0 0 seen seen on_path on_path [] c.new-places.result.items [] c.new-back.result.items
          (walking_first c.args.graph.now seen on_path c.requires.none_seen c.requires.none_on_path) refl refl refl c.new-places.ensures.items c.new-back.ensures.items;
      seen_len = c.requires.seen_len;
      path_len = c.requires.path_len;
    }

pub step-requires-clause-block : goal.step-requires-clause-block
step-requires-clause-block c = last_below c.args.graph.now c.steps.root c.steps.seen.items c.steps.on_path.items c.steps.places.items c.pop.new.self.items c.in-Some.place c.steps.back.items c.steps.invariant.walking c.in-Some.ensures.items

pub step-requires-clause-few : goal.step-requires-clause-few
step-requires-clause-few c = taken_below c.args.graph.now c.in-Some.place.block c.in-Some.place.taken c.successor-next.result c.successor-next.ensures

pub step-requires-clause-seen_has : goal.step-requires-clause-seen_has
step-requires-clause-seen_has c = next_below c.args.graph.now c.in-Some.place.block c.in-Some.place.taken (length c.steps.seen.items) c.successor-next.result c.requires.within (sym c.steps.invariant.seen_len) c.successor-next.ensures

pub step-requires-clause-path_has : goal.step-requires-clause-path_has
step-requires-clause-path_has c = next_below c.args.graph.now c.in-Some.place.block c.in-Some.place.taken (length c.steps.on_path.items) c.successor-next.result c.requires.within (sym c.steps.invariant.path_len) c.successor-next.ensures

pub returns-then-root-blocks : goal.returns-then-root-blocks
returns-then-root-blocks c =
    let h = c.in-None.ensures.cases in
    let e : c.steps.places.items ≡ [] = empty_list c.steps.places.items (omega arith) in
    let k = c.len-blocks.ensures.len in
    let n : length c.args.graph.now.blocks ≤ c.steps.root = omega arith in
    walking_last c.args.graph.now c.steps.root c.steps.seen.items c.steps.on_path.items c.steps.places.items c.steps.back.items c.steps.invariant.walking e n

pub steps-preserved-in-Continue-1 : goal.steps-preserved-in-Continue-1
steps-preserved-in-Continue-1 c =
    let g = c.args.graph.now in
    let p = c.in-Some.place in
    let next = c.successor-next.result in
    let seen = c.steps.seen.items in
    let on_path = c.steps.on_path.items in
    let rest = c.pop.new.self.items in
    let walk = walking_step g c.steps.root seen on_path c.steps.places.items rest p c.steps.back.items next c.steps.invariant.walking c.in-Some.ensures.items c.successor-next.ensures
    (next_below g p.block p.taken (length seen) next c.requires.within (sym c.steps.invariant.seen_len) c.successor-next.ensures)
    (next_below g p.block p.taken (length on_path) next c.requires.within (sym c.steps.invariant.path_len) c.successor-next.ensures) in
    let e = c.in_ok-step-in-Some.ensures in
    record {
      walking = walking_same g c.steps.root c.steps.root (seen_after next seen on_path) c.step.new.seen.items (path_after next p seen on_path) c.step.new.on_path.items (places_after next p seen on_path rest) c.step.new.places.items
          (back_after next p on_path c.steps.back.items) c.step.new.back.items walk refl e.seen e.on_path e.places e.back;
      seen_len = e.seen_len ∙ c.steps.invariant.seen_len;
      path_len = e.path_len ∙ c.steps.invariant.path_len;
    }

pub steps-smaller-in-Continue-1 : goal.steps-smaller-in-Continue-1
steps-smaller-in-Continue-1 c =
    let e = c.in_ok-step-in-Some.ensures in
    stepped_less c.args.graph.now c.steps.root c.steps.seen.items c.step.new.seen.items c.steps.on_path.items c.steps.places.items c.step.new.places.items c.pop.new.self.items c.in-Some.place c.successor-next.result c.in-Some.ensures.items e.seen e.places
    c.successor-next.ensures (next_below c.args.graph.now c.in-Some.place.block c.in-Some.place.taken (length c.steps.seen.items) c.successor-next.result c.requires.within (sym c.steps.invariant.seen_len) c.successor-next.ensures)

pub steps-preserved : goal.steps-preserved
steps-preserved c =
    let g = c.args.graph.now in
    let r = c.steps.root in
    let seen = c.steps.seen.items in
    let on_path = c.steps.on_path.items in
    let h = c.in-None.ensures.cases in
    let z : c.steps.places.items ≡ [] = empty_list c.steps.places.items (omega arith) in
    let z' : c.pop.new.self.items ≡ [] = empty_list c.pop.new.self.items (omega arith) in
    let k = c.len-blocks.ensures.len in
    let more = c.if-root-blocks.false in
    let sl = c.steps.invariant.seen_len in
    let pl = c.steps.invariant.path_len in
    let y : r < length g.blocks = omega arith in
    let u : r < length seen = omega arith in
    let v : r < length on_path = omega arith in
    let walk = walking_begin g r seen on_path c.steps.places.items c.steps.back.items c.steps.invariant.walking z y u v in
    let e = c.in_ok-begin-in-None.ensures in
    let l : c.begin.new.places.items ≡ places_begun seen [] r = subst (λ x. c.begin.new.places.items ≡ places_begun seen x r) z' e.places in
    record {
      walking = walking_same g (r + 1) (r + 1) (seen_begun seen r) c.begin.new.seen.items (path_begun seen on_path r) c.begin.new.on_path.items (places_begun seen [] r) c.begin.new.places.items c.steps.back.items c.steps.back.items
          walk refl e.seen e.on_path l refl;
      seen_len = e.seen_len ∙ c.steps.invariant.seen_len;
      path_len = e.path_len ∙ c.steps.invariant.path_len;
    }

pub steps-smaller : goal.steps-smaller
steps-smaller c =
    let h = c.in-None.ensures.cases in
    let z : c.steps.places.items ≡ [] = empty_list c.steps.places.items (omega arith) in
    let z' : c.pop.new.self.items ≡ [] = empty_list c.pop.new.self.items (omega arith) in
    let k = c.len-blocks.ensures.len in
    let more = c.if-root-blocks.false in
    let sl = c.steps.invariant.seen_len in
    let e = c.in_ok-begin-in-None.ensures in
    begun_less (length c.args.graph.now.blocks) c.steps.root c.steps.seen.items c.begin.new.seen.items c.steps.places.items c.begin.new.places.items c.pop.new.self.items z z' e.seen e.places (omega arith) (omega arith)

pub returns-in_err-step-in-Some : goal.returns-in_err-step-in-Some
returns-in_err-step-in-Some c = IfOk-from_err _ _ c.from_residual.ensures.0

pub returns-in_err-begin-in-None : goal.returns-in_err-begin-in-None
returns-in_err-begin-in-None c = IfOk-from_err _ _ c.from_residual-in_err-begin-in-None.ensures.0
