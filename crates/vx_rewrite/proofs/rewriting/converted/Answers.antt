-- The number is one that may be asked.
use Rattle.vx_rewrite.proofs.rewriting.converted.Goals as goal

pub select-requires : goal.select-requires
select-requires c =
    let range = rw c.in-Some.is at c.requires.sides in
    record { sound = c.requires.sound; least = range.0; greatest = range.1 }
