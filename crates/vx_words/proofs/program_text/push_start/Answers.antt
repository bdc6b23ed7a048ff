-- The pieces stand one behind the other.
use Rattle.std.proofs.Common.{◌++◌, codes, rules, w32}
use Rattle.std.specs.Fmt.{signed_decimal}
use Rattle.std.specs.Prelude.{decimal}
use Rattle.std.proofs.lemmas.Int.{to_z-of_z}
use Rattle.vx_base.specs.Arithmetic.{IsNumber}
use Rattle.vx_words.proofs.Pieces.{put_behind, two_at_once, two_put}
use Rattle.vx_words.proofs.program_text.push_start.Goals as goal

pub returns : goal.returns
returns c =
    let old = c.args.out.now.items in
    let name = codes ".word " in
    let address = decimal c.args.entry.0 in
    let two = two_at_once old _ name address c.in_ok-push_named_number.ensures in
    let three = two_put old _ _ (name ++ address) (codes " = ") two c.in_ok-push_bytes.ensures in
    let fits : IsNumber c.args.entry.1 = search rules in
    put_behind c.push_signed.result old _ _ (name ++ address ++ codes " = ") (signed_decimal c.args.entry.1) three (rw (to_z-of_z w32 c.args.entry.1 fits) at c.push_signed.ensures)
