use Rattle.std.proofs.Common.{◌≡◌, ℕ, ◌+◌, ◌<◌, ◌&&◌, true, ◌++◌, ◌∷◌, [], List, IfSome, length, get_or, drop, ap, sym, subst, ◌∙◌}
use Rattle.std.proofs.lemmas.List.{append-nil, append_assoc, at_drop_all, at_drop_more}
use Rattle.vx_flow.specs.declared.graph.Array.{Array}
use Rattle.vx_flow.specs.declared.graph.Block.{Block}
use Rattle.vx_claims.specs.declared.claim.Claim.{Claim}
use Rattle.vx_claims.specs.declared.intervals.Interval.{Interval}
use Rattle.vx_claims.specs.Claims.{listed_claims}
use Rattle.vx_narrow.specs.Checking.{is_block_checked, listed_given}
use Rattle.vx_narrow.specs.Narrowing.{are_blocks_checked}
use Rattle.vx_narrow.specs.Rewriting.{narrowed_block, narrowed_from}
use Rattle.vx_narrow.proofs.narrowed_flow.narrowed_blocks.Goals as goal

next_is : {Y : Type 0} (F : List Block → Y) (blocks : List Block) (i : ℕ) (b : Block) → i < length blocks → b ≡ get_or blocks i b → F (b ∷ drop (i + 1) blocks) ≡ F (drop i blocks)
next_is F blocks i b l e = ap (λ (z : Block). F (z ∷ drop (i + 1) blocks)) e ∙ sym (at_drop_more F blocks i b l)

made_step : (arrays : List Array) (claims : ℕ → Claim) (blocks done more : List Block) (i : ℕ) (b new : Block) → i < length blocks → b ≡ get_or blocks i b → new ≡ narrowed_block arrays claims i b → more ≡ done ++ new ∷ []
    → more ++ narrowed_from arrays claims (i + 1) (drop (i + 1) blocks) ≡ done ++ narrowed_from arrays claims i (drop i blocks)
made_step arrays claims blocks done more i b new l e n m =
    ap (λ (z : List Block). z ++ narrowed_from arrays claims (i + 1) (drop (i + 1) blocks)) m
    ∙ append_assoc done (new ∷ []) (narrowed_from arrays claims (i + 1) (drop (i + 1) blocks))
    ∙ ap (λ (z : Block). done ++ z ∷ narrowed_from arrays claims (i + 1) (drop (i + 1) blocks)) n
    ∙ next_is (λ z. done ++ narrowed_from arrays claims i z) blocks i b l e

checked_step : (arrays : List Array) (given : ℕ → List Interval) (claims : ℕ → Claim) (blocks : List Block) (i : ℕ) (b : Block) → i < length blocks → b ≡ get_or blocks i b → is_block_checked arrays given claims i b ≡ true
    → are_blocks_checked arrays given claims (i + 1) (drop (i + 1) blocks) ≡ are_blocks_checked arrays given claims i (drop i blocks)
checked_step arrays given claims blocks i b l e t =
    sym (ap (λ z. z && are_blocks_checked arrays given claims (i + 1) (drop (i + 1) blocks)) t)
    ∙ next_is (λ z. are_blocks_checked arrays given claims i z) blocks i b l e

pub loop-place-preserved : goal.loop-place-preserved
loop-place-preserved c =
    let claims = listed_claims c.args.table.now in
    let given = listed_given c.args.given.now in
    let blocks : List Block = c.args.blocks.now in
    let i = c.loop-place.place in
    let b : Block = c.index-blocks-place.result in
    let new : Block = c.in-Some.narrowed in
    let n : new ≡ narrowed_block c.args.arrays.now claims i b = subst (λ o. IfSome o (λ made. made ≡ narrowed_block c.args.arrays.now claims i b)) c.in-Some.is c.in_ok-narrowed.ensures.narrowed in
    let t : is_block_checked c.args.arrays.now given claims i b ≡ true = subst (λ o. IfSome o (λ _. is_block_checked c.args.arrays.now given claims i b ≡ true)) c.in-Some.is c.in_ok-narrowed.ensures.checked in
    record {
      made = made_step c.args.arrays.now claims blocks c.loop-place.made _ i b new c.loop-place-test.true c.index-blocks-place.is n c.in_ok-push-in-Some.ensures.ok ∙ c.loop-place.invariant.made;
      checked = checked_step c.args.arrays.now given claims blocks i b c.loop-place-test.true c.index-blocks-place.is t ∙ c.loop-place.invariant.checked;
    }

pub returns-clause-narrowed : goal.returns-clause-narrowed
returns-clause-narrowed c =
    sym (append-nil c.loop-place.made)
    ∙ sym (at_drop_all (λ (z : List Block). c.loop-place.made ++ narrowed_from c.args.arrays.now (listed_claims c.args.table.now) c.loop-place.place z) c.args.blocks.now c.loop-place.place c.loop-place-test.false) ∙ c.loop-place.invariant.made

pub returns-clause-checked : goal.returns-clause-checked
returns-clause-checked c =
    sym c.loop-place.invariant.checked
    ∙ at_drop_all (λ (z : List Block). are_blocks_checked c.args.arrays.now (listed_given c.args.given.now) (listed_claims c.args.table.now) c.loop-place.place z) c.args.blocks.now c.loop-place.place c.loop-place-test.false
