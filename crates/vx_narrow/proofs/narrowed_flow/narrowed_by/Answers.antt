use Rattle.std.proofs.Common.{◌≡◌, ◌∙◌, sym, true, subst, length, leb-true, IfSome, Option, List}
use Rattle.vx_flow.specs.declared.graph.Array.{Array}
use Rattle.vx_flow.specs.declared.graph.Block.{Block}
use Rattle.vx_narrow.specs.Rewriting.{narrowed_from}
use Rattle.vx_narrow.specs.Narrowing.{are_blocks_checked}
use Rattle.vx_claims.specs.Claims.{listed_claims}
use Rattle.vx_narrow.specs.Checking.{listed_given}
use Rattle.vx_narrow.specs.Checking.{is_entry_checked, most_arrays}
use Rattle.vx_narrow.proofs.Staged.{graph_by_table, with_blocks_is}
use Rattle.vx_narrow.proofs.narrowed_flow.narrowed_by.Goals as goal

pub returns-in_ok-narrowed-in-Some : goal.returns-in_ok-narrowed-in-Some
returns-in_ok-narrowed-in-Some c =
    let table = c.args.table.now in
    let given = listed_given c.args.given.now in
    let g = c.args.graph.now in
    let h = c.in_ok-narrowed-in-Some.narrowed in
    let blocks : List Block = c.in-Some.blocks in
    let e : is_entry_checked (given c.args.function) g.parameters (listed_claims table 0) ≡ true = sym c.in_ok-is_entry_checked.ensures ∙ c.if-not-branch.false in
    let k : are_blocks_checked g.arrays given (listed_claims table) 0 g.blocks ≡ true = subst (λ o. IfSome o (λ _. are_blocks_checked g.arrays given (listed_claims table) 0 g.blocks ≡ true)) c.in-Some.is
    (subst (λ (xs : List Array). IfSome c.in_ok-blocks.field-0 (λ _. are_blocks_checked xs given (listed_claims table) 0 g.blocks ≡ true)) c.as_slice.ensures
    (subst (λ bs. IfSome c.in_ok-blocks.field-0 (λ _. are_blocks_checked c.as_slice.result.now given (listed_claims table) 0 bs ≡ true)) c.as_slice-2.ensures c.in_ok-blocks.ensures.checked)) in
    let n : blocks ≡ narrowed_from g.arrays (listed_claims table) 0 g.blocks = subst (λ (o : Option (List Block)). IfSome o (λ made. made ≡ narrowed_from g.arrays (listed_claims table) 0 g.blocks)) c.in-Some.is
    (subst (λ (xs : List Array). IfSome c.in_ok-blocks.field-0 (λ made. made ≡ narrowed_from xs (listed_claims table) 0 g.blocks)) c.as_slice.ensures
    (subst (λ bs. IfSome c.in_ok-blocks.field-0 (λ made. made ≡ narrowed_from c.as_slice.result.now (listed_claims table) 0 bs)) c.as_slice-2.ensures c.in_ok-blocks.ensures.narrowed)) in
    graph_by_table given c.args.function table g h (leb-true (length g.arrays) most_arrays (sym c.has_few_arrays.ensures ∙ c.if-not-has_few_arrays.false)) e k (with_blocks_is (listed_claims table) g h blocks n c.in_ok-narrowed-in-Some.ensures)
