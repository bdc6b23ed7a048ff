-- The first piece and what stands behind it are shorter than the text by a blank, where it has one.
use Rattle.vx_files.proofs.Pieces.{blank_behind, pieces_first, shorter_behind}
use Rattle.vx_files.proofs.input.next_piece.Goals as goal

pub returns-clause-pieces : goal.returns-clause-pieces
returns-clause-pieces c = rw (c.behind.ensures, c.piece_end-end.ensures.end) (pieces_first c.args.text.now c.requires)

pub returns-clause-blank : goal.returns-clause-blank
returns-clause-blank c = blank_behind c.args.text.now c.behind.result.now c.piece_end-end.result c.piece_end-end.ensures.within c.behind.ensures

pub returns-clause-shorter : goal.returns-clause-shorter
returns-clause-shorter c = shorter_behind c.args.text.now c.behind.result.now c.piece_end-end.result c.requires c.behind.ensures
