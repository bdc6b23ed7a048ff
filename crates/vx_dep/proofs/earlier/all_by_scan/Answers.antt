use Rattle.std.proofs.Common.{rules, ◌≡◌, ◌<◌, ◌≤◌, ◌++◌, [], ◌∷◌, length, ap, sym, subst, ◌∙◌, arith}
use Rattle.std.proofs.lemmas.List.{length-append}
use Rattle.vx_dep.specs.Earlier.{AreEarlier}
use Rattle.vx_dep.proofs.Noting.{no_lists, one_more_list, all_lists}
use Rattle.vx_dep.proofs.earlier.all_by_scan.Goals as goal

pub find-preserved : goal.find-preserved
find-preserved c =
    let s = c.args.sight.now in
    let here = c.find.invariant.1 in
    let test = c.find-test.true in
    let len = c.len.ensures.len in
    let inside : c.find.place < length s.trace.now.ops = omega (arith, test, len) in
    let pushed : c.push.new.self ≡ c.find.lists ++ c.in_ok-list.list ∷ [] = c.in_ok-push.ensures.ok in
    let is : AreEarlier s.machine s.mode s.trace.now c.find.place c.find.place c.in_ok-list.list = subst (AreEarlier s.machine s.mode s.trace.now c.find.place c.find.place) (sym (c.in_ok-list.ensures ∙ c.as_slice.ensures.value)) c.in_ok-find_earlier.ensures in
    let longer : length c.push.new.self ≡ length (c.find.lists ++ c.in_ok-list.list ∷ []) = ap length pushed in
    let long = length-append c.find.lists (c.in_ok-list.list ∷ []) in
    (one_more_list s.machine s.mode s.trace.now c.find.lists c.push.new.self c.in_ok-list.list c.find.place c.find.invariant.0 here is pushed, omega (arith, here, longer, long), omega (arith, inside))

pub returns : goal.returns
returns c =
    let s = c.args.sight.now in
    let here = c.find.invariant.1 in
    let most = c.find.invariant.2 in
    let past : length s.trace.now.ops ≤ c.find.place = search rules in
    all_lists s.machine s.mode s.trace.now c.find.lists c.find.invariant.0 (omega (arith, here, most)) (omega (arith, past, here))

pub find-init : goal.find-init
find-init c =
    let s = c.args.sight.now in
    (no_lists s.machine s.mode s.trace.now c.new-lists.result c.new-lists.ensures, sym (ap length c.new-lists.ensures), omega arith)
