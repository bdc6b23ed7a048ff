-- The pieces stand one behind the other.
use Rattle.std.proofs.Common.{◌≡◌, ◌∙◌, ◌++◌, codes, ap, sym}
use Rattle.std.specs.Prelude.{decimal, if◌then◌else◌}
use Rattle.vx_words.specs.Spelling.{label_text}
use Rattle.vx_words.proofs.Pieces.{put_two_behind, two_at_once}
use Rattle.vx_words.proofs.operation_text.push_branch_on.Goals as goal
use Rattle.vx_words.proofs.operation_text.push_branch_on.Goals.{then-taken_at_one, else-taken_at_one}

pub returns : goal.returns
returns c =
    let old = c.args.out.now.items in
    let test = decimal c.args.test in
    let name = if c.args.taken_at_one then codes "br $b0." else codes "brf $b0." in
    let is : c.if-taken_at_one.name.now ≡ name = elim c.if-taken_at_one.branch [
      | then-taken_at_one w ↦ ap (λ b. b.now) w.name-is ∙ ap (λ b. if b then codes "br $b0." else codes "brf $b0.") (sym w.if-taken_at_one.true)
      | else-taken_at_one w ↦ ap (λ b. b.now) w.name-is ∙ ap (λ b. if b then codes "br $b0." else codes "brf $b0.") (sym w.if-taken_at_one.false)
    ] in
    let two = two_at_once old _ c.if-taken_at_one.name.now test c.in_ok-push_named_number.ensures ∙ ap (λ l. old ++ (l ++ test)) is in
    put_two_behind c.push_named_label.result old _ _ (name ++ test) (codes ", ") (label_text c.args.target) two c.push_named_label.ensures
