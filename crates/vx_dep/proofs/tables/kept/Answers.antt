use Rattle.std.proofs.Common.{◌≡◌, ◌∙◌, ◌+◌, Bool, not, drop, ap, sym, arith}
use Rattle.std.proofs.lemmas.List.Sums.{prefix_len-drop_yes, prefix_len-drop_no, prefix_len-drop_all}
use Rattle.vx_dep.specs.declared.traits.Traits.{Traits}
use Rattle.vx_dep.specs.Tables.{kept, write_alike}
use Rattle.vx_dep.proofs.tables.kept.Goals as goal

pub returns-then-write_alike : goal.returns-then-write_alike
returns-then-write_alike c =
    let first = c.args.first.now in
    let other : Traits → Bool = λ b. not (write_alike first b) in
    let so_far = c.loop-other.invariant.0 in
    let none : kept first (drop c.loop-other.other-index c.args.behind.now) ≡ 0 = prefix_len-drop_no other c.args.behind.now c.loop-other.other-index _ c.loop-other-test.true (ap not (sym c.write_alike.ensures ∙ c.if-write_alike.true)) in
    omega (arith, so_far, none)

pub loop-other-preserved : goal.loop-other-preserved
loop-other-preserved c =
    let first = c.args.first.now in
    let other : Traits → Bool = λ b. not (write_alike first b) in
    let so_far = c.loop-other.invariant.0 in
    let bound = c.loop-other.invariant.1 in
    let one : kept first (drop c.loop-other.other-index c.args.behind.now) ≡ 1 + kept first (drop (c.loop-other.other-index + 1) c.args.behind.now) = prefix_len-drop_yes other c.args.behind.now c.loop-other.other-index _ c.loop-other-test.true (ap not (sym c.write_alike.ensures ∙ c.if-write_alike.false)) in
    (omega (arith, so_far, one), omega (arith, bound))

pub returns : goal.returns
returns c =
    let first = c.args.first.now in
    let other : Traits → Bool = λ b. not (write_alike first b) in
    let so_far = c.loop-other.invariant.0 in
    let none : kept first (drop c.loop-other.other-index c.args.behind.now) ≡ 0 = prefix_len-drop_all other c.args.behind.now c.loop-other.other-index c.loop-other-test.false in
    omega (arith, so_far, none)
