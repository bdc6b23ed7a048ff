use Rattle.std.proofs.Common.{refl}
use Rattle.vx_frame.proofs.pieces.push_function.Goals as goal

pub returns-clause-places : goal.returns-clause-places
returns-clause-places c = c.in_ok-note_function.ensures.places _ c.len-entry.ensures.len refl refl refl
