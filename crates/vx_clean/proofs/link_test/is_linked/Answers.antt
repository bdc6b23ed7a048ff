use Rattle.std.proofs.Common.{◌≡◌, ◌∙◌, ◌+◌, ◌<◌, Bool, true, false, List, ap, drop, get_or, length, sym, ℕ}
use Rattle.std.specs.Prelude.{◌&&◌, slice_get}
use Rattle.std.proofs.lemmas.List.{drop_more, take_rest}
use Rattle.vx_flow.specs.declared.graph.Block.{Block}
use Rattle.vx_clean.specs.LinkTest.{is_linked, is_linked_at, moves}
use Rattle.vx_clean.proofs.link_test.is_linked.Goals as goal

-- one block of the chain
passed : (to : ℕ → ℕ) (blocks : List Block) (chains : List (List ℕ)) (chain behind : List ℕ) (whole e x : Bool) (i d : ℕ) → i < length chain → whole ≡ is_linked to blocks chains (drop i chain) → behind ≡ drop (i + 1) chain
    → e ≡ is_linked_at to blocks chains (slice_get blocks (get_or chain i d)) behind → e ≡ x → whole ≡ (x && is_linked to blocks chains (drop (i + 1) chain))
passed to blocks chains chain behind whole e x i d lt so cut is same =
    let rest = drop (i + 1) chain in
    let here = slice_get blocks (get_or chain i d) in
    so ∙ ap (is_linked to blocks chains) (drop_more chain i d lt) ∙ ap (λ z. z && is_linked to blocks chains rest) (sym (is ∙ ap (is_linked_at to blocks chains here) cut) ∙ same)

pub loop-place-preserved : goal.loop-place-preserved
loop-place-preserved c = passed (moves c.args.to.now) c.args.blocks.now c.args.chains.now c.args.chain.now _ _ c.is_linked_at.result true c.loop-place.place _ c.loop-place-test.true c.loop-place.invariant (take_rest c.args.chain.now (c.loop-place.place + 1)) c.is_linked_at.ensures c.if-not-is_linked_at.false

pub returns-then-not-is_linked_at : goal.returns-then-not-is_linked_at
returns-then-not-is_linked_at c = sym (passed (moves c.args.to.now) c.args.blocks.now c.args.chains.now c.args.chain.now _ _ c.is_linked_at.result false c.loop-place.place _ c.loop-place-test.true c.loop-place.invariant (take_rest c.args.chain.now (c.loop-place.place + 1)) c.is_linked_at.ensures c.if-not-is_linked_at.true)
