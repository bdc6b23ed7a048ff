use Rattle.std.proofs.Common.{◌≡◌, ℕ, ◌∙◌, ◌++◌, ◌∷◌, [], List, None, Option, ap, replicate}
use Rattle.vx_flow.specs.declared.graph.Bank.{Bank}
use Rattle.vx_flow.specs.declared.graph.Bank.TheVariants.{General}
use Rattle.vx_flow.specs.declared.graph.Block.{Block}
use Rattle.vx_flow.specs.declared.graph.Op.{Op}
use Rattle.vx_lower.specs.Graphs.{beginning}
use Rattle.vx_lower.proofs.lowering.begin.Goals as goal

begins_as : (n : ℕ) (blocks : List (Option Block)) (ops : List Op) (banks : List Bank) → blocks ≡ None ∷ [] → ops ≡ [] → banks ≡ replicate n General → record { blocks = blocks; current = 0; ops = ops; banks = banks } ≡ beginning n
begins_as n blocks ops banks e h k = λ i. record { blocks = e i; current = 0; ops = h i; banks = k i }

pub returns : goal.returns
returns c =
    let banks : c.in_ok-banks.banks.items ≡ replicate c.args.values General = c.in_ok-banks.ensures.items_if_clones_equal (λ bank same. same) in
    begins_as c.args.values _ c.new.result c.in_ok-from_vec.field-0 (c.blocks-2.view_is ∙ c.in_ok-push.ensures.ok ∙ ap (λ blocks. blocks ++ None ∷ []) c.new-blocks.ensures) c.new.ensures (c.in_ok-from_vec.ensures ∙ banks)
