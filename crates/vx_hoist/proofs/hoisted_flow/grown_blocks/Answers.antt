use Rattle.std.proofs.Common.{◌≡◌, ◌+◌, ◌<◌, ℕ, Bool, List, IfSome, sym, take, length, get_or, subst}
use Rattle.vx_flow.specs.declared.graph.Block.{Block}
use Rattle.vx_fold.specs.Thinning.{unread_of}
use Rattle.vx_shape.specs.Flows.{Each}
use Rattle.vx_shape.proofs.Pairs.{each_next}
use Rattle.vx_hoist.specs.Growing.{BlockGrows}
use Rattle.vx_hoist.proofs.hoisted_flow.grown_blocks.Goals as goal

pub loop-place-preserved : goal.loop-place-preserved
loop-place-preserved c =
    let unread : ℕ → Bool = unread_of c.args.named.now in
    let blocks : List Block = c.args.blocks.now in
    let i : ℕ = c.loop-place.place in
    let b : Block = c.index-blocks-place.result in
    let k : Block = c.in-Some.new in
    let l : i < length blocks = search in
    let e : b ≡ get_or blocks i b = search in
    let g : BlockGrows unread b k = subst (λ o. IfSome o (λ x. BlockGrows unread b x)) c.in-Some.is c.in_ok-new.ensures in
    let s = each_next (BlockGrows unread) blocks c.loop-place.grown i b k l e c.loop-place.invariant g in
    subst (Each (BlockGrows unread) (take (i + 1) blocks)) (sym c.in_ok-push-in-Some.ensures.ok) s
