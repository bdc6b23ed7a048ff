-- The pieces stand one behind the other.
use Rattle.std.proofs.Common.{◌++◌, codes}
use Rattle.std.specs.Prelude.{decimal}
use Rattle.vx_words.proofs.Pieces.{put_two_behind, two_at_once}
use Rattle.vx_words.proofs.operation_text.push_general.Goals as goal

pub returns : goal.returns
returns c =
    let old = c.args.out.now.items in
    let name = codes "$r" in
    let cluster = decimal c.args.register.cluster in
    let two = two_at_once old _ name cluster c.in_ok-push_named_number.ensures in
    put_two_behind c.push_named_number-2.result old _ _ (name ++ cluster) (codes ".") (decimal c.args.register.number) two c.push_named_number-2.ensures
