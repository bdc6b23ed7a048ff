use Rattle.std.proofs.Common.{◌++◌, ◌∷◌, [], List, ap, ◌∙◌}
use Rattle.vx_isa.specs.declared.operation.Operation.{Operation}
use Rattle.vx_isa.specs.declared.program.Word.{Word}
use Rattle.vx_slots.proofs.transfers.push_one.Goals as goal

abbrev at_once : List Operation → Word
at_once ops = record { ops = ops; idle = 0 }

pub returns : goal.returns
returns c =
    let old = c.args.words.now in
    let op = c.args.operation in
    c.in_ok-push-2.ensures.ok ∙ ap (λ (z : List Operation). old ++ at_once z ∷ []) (c.in_ok-push.ensures.ok ∙ ap (λ (z : List Operation). z ++ op ∷ []) c.new-ops.ensures)
