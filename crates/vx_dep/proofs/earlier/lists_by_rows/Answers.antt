use Rattle.std.proofs.Common.{rules, ◌≡◌, ◌<◌, ◌≤◌, ◌++◌, [], ◌∷◌, length, ap, arith}
use Rattle.std.proofs.lemmas.List.{length-append}
use Rattle.vx_dep.specs.Earlier.{AreEarlier}
use Rattle.vx_dep.proofs.Noting.{one_more_list, all_lists}
use Rattle.vx_dep.proofs.earlier.lists_by_rows.Goals as goal

pub find-preserved : goal.find-preserved
find-preserved c =
    let s = c.args.sight.now in
    let here = c.find.invariant.place in
    let test = c.find-test.true in
    let len = c.len.ensures.len in
    let inside : c.find.place < length s.trace.now.ops = omega (arith, test, len) in
    let pushed : c.push.new.self ≡ c.find.lists ++ c.in_ok-list.list ∷ [] = c.in_ok-push.ensures.ok in
    let is : AreEarlier s.machine s.mode s.trace.now c.find.place c.find.place c.in_ok-list.list = c.in_ok-list.ensures.list in
    let longer : length c.push.new.self ≡ length (c.find.lists ++ c.in_ok-list.list ∷ []) = ap length pushed in
    let long = length-append c.find.lists (c.in_ok-list.list ∷ []) in
    record {
      noted = c.in_ok-list.ensures.noted;
      so_far = one_more_list s.machine s.mode s.trace.now c.find.lists c.push.new.self c.in_ok-list.list c.find.place c.find.invariant.so_far here is pushed;
      place = omega (arith, here, longer, long);
      within = omega (arith, inside);
    }

pub returns : goal.returns
returns c =
    let s = c.args.sight.now in
    let here = c.find.invariant.place in
    let most = c.find.invariant.within in
    let past : length s.trace.now.ops ≤ c.find.place = search rules in
    all_lists s.machine s.mode s.trace.now c.find.lists c.find.invariant.so_far (omega (arith, here, most)) (omega (arith, past, here))
