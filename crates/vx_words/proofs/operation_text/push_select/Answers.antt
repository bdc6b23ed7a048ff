-- The pieces stand one behind the other.
use Rattle.std.proofs.Common.{◌++◌, codes}
use Rattle.vx_words.specs.Spelling.{branch_text, general_text, source_text}
use Rattle.vx_words.proofs.Pieces.{put_pair_behind, three_at_once, two_put}
use Rattle.vx_words.proofs.operation_text.push_select.Goals as goal

pub returns : goal.returns
returns c =
    let old = c.args.out.now.items in
    let name = codes "slct " in
    let to = general_text c.args.to in
    let test = branch_text c.args.test in
    let first = three_at_once old _ name to (codes " = ") c.in_ok-push_general_to.ensures in
    let two = two_put old _ _ (name ++ to ++ codes " = ") test first c.in_ok-push_branch.ensures in
    let three = two_put old _ _ (name ++ to ++ codes " = " ++ test) (codes ", ") two c.in_ok-push_bytes.ensures in
    put_pair_behind c.push_pair.result old _ _ (name ++ to ++ codes " = " ++ test ++ codes ", ") (source_text c.args.left) (codes ", ") (source_text c.args.right) three c.push_pair.ensures
