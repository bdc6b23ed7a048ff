use Rattle.std.proofs.Common.{◌≡◌, ◌∙◌, ◌++◌, ap, length, map}
use Rattle.vx_lower.specs.Finished.{kinds_in, settled, trap_block}
use Rattle.vx_lower.proofs.trap_blocks.finish_all.Goals as goal

pub returns : goal.returns
returns c =
    let slots = c.args.slots.items in
    let kinds : c.in_ok-kinds.kinds.items ≡ kinds_in slots = c.in_ok-kinds.ensures ∙ ap kinds_in c.as_slice.ensures.value in
    c.in_ok-from_vec.ensures ∙ c.in_ok-add_traps.ensures
    ∙ ap (λ blocks. blocks ++ map trap_block c.as_slice-3.result.now) (c.in_ok-blocks.ensures ∙ ap (λ k. map (settled (length slots) k) slots) (c.as_slice-2.ensures.value ∙ kinds))
    ∙ ap (λ k. map (settled (length slots) (kinds_in slots)) slots ++ map trap_block k) (c.as_slice-3.ensures.value ∙ kinds)
