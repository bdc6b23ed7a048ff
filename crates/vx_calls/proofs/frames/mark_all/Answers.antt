use Rattle.std.proofs.Common.{◌+◌, [], ◌∷◌, ℕ, List, drop, get_or, subst}
use Rattle.std.proofs.lemmas.List.{drop_all, drop_more}
use Rattle.vx_calls.specs.Slots.{Marking}
use Rattle.vx_calls.proofs.Offsets.{all_marked, more_marked}
use Rattle.vx_calls.proofs.frames.mark_all.Goals as goal

-- one value more
pub loop-value-preserved : goal.loop-value-preserved
loop-value-preserved c =
    let vs = c.args.values.now in
    let i = c.loop-value.value-index in
    more_marked vs (get_or vs i 0 ∷ []) (drop i vs) (drop (i + 1) vs) c.args.marks.now.items c.loop-value.marks.items c.mark.new.marks.items (drop_more vs i 0 c.loop-value-test.true) c.loop-value.invariant c.in_ok-mark.ensures

pub returns : goal.returns
returns c =
    let vs = c.args.values.now in
    let old = c.args.marks.now.items in
    let new = c.loop-value.marks.items in
    all_marked vs old new (subst (λ (xs : List ℕ). Marking vs xs old new) (drop_all c.loop-value.value-index vs c.loop-value-test.false) c.loop-value.invariant)
