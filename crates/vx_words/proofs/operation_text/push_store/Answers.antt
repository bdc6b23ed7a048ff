-- The pieces stand one behind the other.
use Rattle.std.proofs.Common.{◌++◌, codes, w32}
use Rattle.std.proofs.lemmas.Int.{to_z-of_z}
use Rattle.vx_words.specs.Spelling.{address_text, source_text}
use Rattle.vx_words.proofs.Pieces.{put_two_behind, two_put}
use Rattle.vx_words.proofs.operation_text.push_store.Goals as goal

pub returns : goal.returns
returns c =
    let old = c.args.out.now.items in
    let name = codes "stw " in
    let address = address_text c.args.offset c.args.base in
    let two = two_put old _ _ name address c.in_ok-push_bytes.ensures (rw (to_z-of_z w32 c.args.offset c.ranges.offset) at c.in_ok-push_address.ensures) in
    put_two_behind c.push_named_source.result old _ _ (name ++ address) (codes " = ") (source_text c.args.from) two c.push_named_source.ensures
