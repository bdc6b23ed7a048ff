-- The pieces stand one behind the other, and behind them the line feed.
use Rattle.std.proofs.Common.{◌∙◌, ◌++◌, codes, ap}
use Rattle.std.specs.Prelude.{decimal}
use Rattle.vx_isa.specs.Operations.{cluster_of}
use Rattle.vx_words.specs.Spelling.{body_text, operation_text}
use Rattle.vx_words.proofs.Pieces.{put_behind, two_at_once, two_put}
use Rattle.vx_words.proofs.operation_text.push_operation_line.Goals as goal

pub returns : goal.returns
returns c =
    let old = c.args.out.now.items in
    let name = codes "c" in
    let cluster = decimal (cluster_of c.args.operation) in
    let first = two_at_once old _ name (decimal c.cluster.result) c.in_ok-push_named_number.ensures ∙ ap (λ k. old ++ (name ++ decimal k)) c.cluster.ensures in
    let two = two_put old _ _ (name ++ cluster) (codes " ") first c.in_ok-push_bytes.ensures in
    let three = two_put old _ _ (name ++ cluster ++ codes " ") (body_text c.args.operation) two c.in_ok-push_body.ensures in
    put_behind c.push_bytes-2.result old _ _ (operation_text c.args.operation) (codes "\n") three c.push_bytes-2.ensures
