-- The pieces stand one behind the other.
use Rattle.std.proofs.Common.{◌∙◌, ◌++◌, codes, ap}
use Rattle.vx_words.specs.Spelling.{code_name, register_text, source_text}
use Rattle.vx_words.proofs.Pieces.{put_pair_behind, two_put}
use Rattle.vx_words.proofs.operation_text.push_compute.Goals as goal

pub returns : goal.returns
returns c =
    let old = c.args.out.now.items in
    let name = code_name c.args.code in
    let to = register_text c.args.to in
    let first = c.in_ok-push_bytes.ensures ∙ ap (λ l. old ++ l) c.name_of_code.ensures in
    let two = two_put old _ _ name (codes " ") first c.in_ok-push_bytes-2.ensures in
    let three = two_put old _ _ (name ++ codes " ") to two c.in_ok-push_register.ensures in
    let four = two_put old _ _ (name ++ codes " " ++ to) (codes " = ") three c.in_ok-push_bytes-3.ensures in
    put_pair_behind c.push_pair.result old _ _ (name ++ codes " " ++ to ++ codes " = ") (source_text c.args.left) (codes ", ") (source_text c.args.right) four c.push_pair.ensures
