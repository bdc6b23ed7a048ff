-- Each turn takes one piece more.
use Rattle.std.proofs.Common.{◌∙◌, arith, sym, w32}
use Rattle.std.proofs.lemmas.Int.{to_z-of_z}
use Rattle.std.proofs.lemmas.Bool.Decides.{nat_tests}
use Rattle.vx_files.proofs.InRange.{number_fits}
use Rattle.vx_files.proofs.Pieces.{number_more, within_more}
use Rattle.vx_files.proofs.input.read_input.Goals as goal

pub pieces-preserved-in-Continue-1 : goal.pieces-preserved-in-Continue-1
pieces-preserved-in-Continue-1 c =
    let piece = c.next_piece.result.0.now in
    let after = c.next_piece.result.1.now in
    let rest = c.pieces.rest.now in
    let is = sym c.number.ensures ∙ c.in-Some.is in
    let put = rw (to_z-of_z w32 c.in-Some.number (number_fits piece c.in-Some.number is)) at c.in_ok-add-in-Some.ensures.added in record {
      so_far = number_more c.pieces.numbers.items c.add.new.numbers.items c.pieces.place rest piece after c.in-Some.number _ c.pieces.invariant.so_far c.next_piece.ensures.pieces (grind (arith, nat_tests, c.is_empty-in-pieces.ensures, c.if-not-is_empty.true)) is put;
      within = within_more c.pieces.place _ rest piece after (grind (arith, nat_tests, c.is_empty.ensures, c.pieces-test.true)) c.pieces.invariant.within c.next_piece.ensures.blank;
    }
