-- The pieces stand one behind the other.
use Rattle.std.proofs.Common.{◌++◌, codes, w32}
use Rattle.std.specs.Fmt.{signed_decimal}
use Rattle.std.proofs.lemmas.Int.{to_z-of_z}
use Rattle.vx_words.specs.Spelling.{general_text}
use Rattle.vx_words.proofs.Pieces.{put_behind, two_behind}
use Rattle.vx_words.proofs.operation_text.push_address.Goals as goal

pub returns : goal.returns
returns c =
    let old = c.args.out.now.items in
    let offset = signed_decimal c.args.offset in
    let base = general_text c.args.base in
    let three = two_behind old _ _ offset (codes "[") base (rw (to_z-of_z w32 c.args.offset c.ranges.offset) at c.in_ok-push_signed.ensures) c.in_ok-push_named_general.ensures in
    put_behind c.push_bytes.result old _ _ (offset ++ codes "[" ++ base) (codes "]") three c.push_bytes.ensures
