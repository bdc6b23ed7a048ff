use Rattle.std.proofs.Common.{rules, ◌≡◌, true, Some, None, ◌<◌, ◌++◌, [], arith, drop, slice_set, map, length, subst, sym}
use Rattle.std.proofs.lemmas.Result.{IfOk-weaker}
use Rattle.vx_isa.specs.Numbers.{is_machine}
use Rattle.vx_room.specs.Room.{has_room}
use Rattle.vx_dep.specs.Deps.{height_in}
use Rattle.vx_sched.specs.Placement.{PlacedBy}
use Rattle.vx_sched.specs.Filling.{AreWithout, word_or_0, IsNext, IsReadyNow, IsFirstWith}
use Rattle.vx_sched.specs.Ranking.{AreRanked, AreLeft}
use Rattle.vx_sched.proofs.Ranks.{all_left, first_next, rest_left, fewer}
use Rattle.vx_sched.proofs.Filled.{Filled, none_filled, one_filled, all_filled}
use Rattle.vx_sched.proofs.list_schedule.place_all.Goals as goal

pub fill-init : goal.fill-init
fill-init c =
    let mode = c.args.deps.now.sight.mode in
    let h = height_in c.args.deps.now in
    let words = c.in_ok-words.words.items in
    let machine : is_machine c.args.machine.now ≡ true = search rules in
    let none : AreWithout (length c.args.trace.now.trace.ops) words = subst (λ n. AreWithout n words) c.len.ensures.len c.in_ok-words.ensures in
    let order = c.in_ok-order.order.items in
    let ranked : AreRanked h (length c.args.trace.now.trace.ops) order = subst (λ n. AreRanked h n order) c.len-2.ensures.len c.in_ok-order.ensures.ranked in
    let left : AreLeft h words order = all_left h (length c.args.trace.now.trace.ops) words order none ranked c.in_ok-order.ensures.sorted in
    (subst (Filled c.args.trace.now c.args.machine.now c.args.homes.now mode h words) (sym c.new-rows.ensures.items) (none_filled c.args.trace.now c.args.machine.now c.args.homes.now mode h words machine none), subst (AreLeft h words) (sym c.as_slice-left.ensures.value) left)

pub returns-in-None : goal.returns-in-None
returns-in-None c =
    let mode = c.args.deps.now.sight.mode in
    let h = height_in c.args.deps.now in
    let words = c.fill.words.items in
    let all : IsNext h words (length words) None = subst (IsNext h words (length words)) (sym c.in-None.ensures) (first_next h words c.fill.left.now c.fill.invariant.1) in
    let placed = all_filled c.args.trace.now c.args.machine.now c.args.homes.now mode h words c.fill.rows.items c.fill.invariant.0 all in
    IfOk-weaker c.all_words.result
    (λ list. list ≡ map word_or_0 c.as_slice.result.now)
    (PlacedBy c.args.trace.now c.args.machine.now c.args.homes.now mode h)
    (λ list e. subst (PlacedBy c.args.trace.now c.args.machine.now c.args.homes.now mode h) (sym (subst (λ ws. list ≡ map word_or_0 ws) c.as_slice.ensures.value e)) placed)
    c.all_words.ensures

pub fill-preserved : goal.fill-preserved
fill-preserved c =
    let m = c.args.machine.now in
    let homes = c.args.homes.now in
    let trace = c.args.trace.now in
    let mode = c.args.deps.now.sight.mode in
    let h = height_in c.args.deps.now in
    let words = c.fill.words.items in
    let rows = c.fill.rows.items in
    let place = c.in-Some.place in
    let ready = c.in_ok-ready-in-Some.ready in
    let word = c.in_ok-word-in-Some.word in
    let item = c.item_at-item.result in
    let next : IsNext h words (length words) (Some place) = subst (IsNext h words (length words)) (sym c.in-Some.ensures) (first_next h words c.fill.left.now c.fill.invariant.1) in
    let now : IsReadyNow c.args.deps.now words place place ready = subst (λ ws. IsReadyNow c.args.deps.now ws place place ready) c.as_slice-in-Some.ensures.value c.in_ok-ready-in-Some.ensures in
    let first : IsFirstWith m homes rows item ready word = subst (λ rs. IsFirstWith m homes rs item ready word) c.as_slice-in-Some-2.ensures.value c.in_ok-word-in-Some.ensures in
    let left : AreLeft h (slice_set words place (Some word)) (drop 1 c.fill.left.now) = rest_left h words c.fill.left.now place word c.fill.invariant.1 c.in-Some.ensures in
    (one_filled trace m homes mode h words rows c.put.new.rows.items place ready word item c.fill.invariant.0 c.requires.delays.heights next (now m mode trace.trace c.requires.delays) c.item_at-item.ensures first c.in_ok-put-in-Some.ensures, subst (AreLeft h (slice_set words place (Some word))) (sym c.behind-left.ensures) left)

pub item_at-item-requires-clause-each : goal.item_at-item-requires-clause-each
item_at-item-requires-clause-each c = c.requires.each

pub item_at-item-requires-clause-inside : goal.item_at-item-requires-clause-inside
item_at-item-requires-clause-inside c =
    let h = height_in c.args.deps.now in
    let words = c.fill.words.items in
    let next : IsNext h words (length words) (Some c.in-Some.place) = subst (IsNext h words (length words)) (sym c.in-Some.ensures) (first_next h words c.fill.left.now c.fill.invariant.1) in
    let inside : c.in-Some.place < length words = next.0 in
    let each : length words ≡ length c.args.trace.now.trace.ops = c.fill.invariant.0.each in
    omega (arith, inside, each)

pub first_word-requires : goal.first_word-requires
first_word-requires c =
    let h = height_in c.args.deps.now in
    let words = c.fill.words.items in
    let next : IsNext h words (length words) (Some c.in-Some.place) = subst (IsNext h words (length words)) (sym c.in-Some.ensures) (first_next h words c.fill.left.now c.fill.invariant.1) in
    let inside : c.in-Some.place < length words = next.0 in
    let each : length words ≡ length c.args.trace.now.trace.ops = c.fill.invariant.0.each in
    let there : c.in-Some.place < length c.args.trace.now.trace.ops = omega (arith, inside, each) in
    record { alone = subst (λ xs. has_room c.args.machine.now c.args.homes.now (xs ++ []) ≡ true) c.item_at-item.ensures (c.requires.alone c.in-Some.place there) }

pub index_mut-requires : goal.index_mut-requires
index_mut-requires c =
    let h = height_in c.args.deps.now in
    let words = c.fill.words.items in
    let next : IsNext h words (length words) (Some c.in-Some.place) = subst (IsNext h words (length words)) (sym c.in-Some.ensures) (first_next h words c.fill.left.now c.fill.invariant.1) in
    let inside : c.in-Some.place < length words = next.0 in
    let same : c.fill.words.len ≡ length words = search rules in
    omega (arith, inside, same)

pub fill-smaller : goal.fill-smaller
fill-smaller c =
    let left = c.fill.left.now in
    let some : length (drop 1 left) < length left = fewer left c.in-Some.place c.in-Some.ensures in
    subst (λ xs. length xs < length left) (sym c.behind-left.ensures) some

pub overflow_cast-place-in-Some : goal.overflow_cast-place-in-Some
overflow_cast-place-in-Some c =
    let h = height_in c.args.deps.now in
    let words = c.fill.words.items in
    let next : IsNext h words (length words) (Some c.in-Some.place) = subst (IsNext h words (length words)) (sym c.in-Some.ensures) (first_next h words c.fill.left.now c.fill.invariant.1) in
    let inside : c.in-Some.place < length words = next.0 in
    let each : length words ≡ length c.args.trace.now.trace.ops = c.fill.invariant.0.each in
    let here = c.len.ensures.len in
    let few = c.len.ensures.few in
    record { fits = omega (arith, inside, each, here, few) }
