-- The pieces stand one behind the other.
use Rattle.std.proofs.Common.{◌≡◌, ◌∙◌, ◌++◌, codes, ap, sym, w32}
use Rattle.std.proofs.lemmas.Int.{to_z-of_z}
use Rattle.std.specs.Prelude.{if◌then◌else◌}
use Rattle.vx_words.specs.Spelling.{address_text, general_text}
use Rattle.vx_words.proofs.operation_text.push_load.Goals.{then-dismissible, else-dismissible}
use Rattle.vx_words.proofs.Pieces.{put_behind, three_at_once}
use Rattle.vx_words.proofs.operation_text.push_load.Goals as goal

pub returns : goal.returns
returns c =
    let old = c.args.out.now.items in
    let to = general_text c.args.to in
    let name : c.if-dismissible.name.now ≡ (if c.args.dismissible then codes "ldw.d " else codes "ldw ") = elim c.if-dismissible.branch [
      | then-dismissible w ↦ ap (λ b. b.now) w.name-is ∙ ap (λ b. if b then codes "ldw.d " else codes "ldw ") (sym w.if-dismissible.true)
      | else-dismissible w ↦ ap (λ b. b.now) w.name-is ∙ ap (λ b. if b then codes "ldw.d " else codes "ldw ") (sym w.if-dismissible.false)
    ] in
    let first = three_at_once old _ c.if-dismissible.name.now to (codes " = ") c.in_ok-push_general_to.ensures ∙ ap (λ l. old ++ (l ++ to ++ codes " = ")) name in
    put_behind c.push_address.result old _ _ ((if c.args.dismissible then codes "ldw.d " else codes "ldw ") ++ to ++ codes " = ") (address_text c.args.offset c.args.base) first (rw (to_z-of_z w32 c.args.offset c.ranges.offset) at c.push_address.ensures)
