-- Where the landings of a planned word stand: each of its splits has one of its own.
use Rattle.std.specs.Prelude.{ℕ, ◌+◌, List, [], ◌∷◌, length}
use Rattle.vx_mixed.specs.declared.layout.Laid.{Laid}
use Rattle.vx_mixed.specs.declared.layout.Laid.TheVariants.{Plain, Split}
use Rattle.vx_mixed.specs.LaidSettled.{laid_writes}
use Rattle.vx_target.specs.Target.{Target, slotted}
use Rattle.vx_target.specs.Placed.{landing_of, words_of}
use Rattle.vx_slots.specs.declared.program.SplitLanding.{SplitLanding}

-- those of some items of the word, of which the first one stands at q; where nothing is stored they have no words
abbrev pub item_spots : Target → (function place q : ℕ) → List Laid → List Laid → List SplitLanding
item_spots T f p q items [] = []
item_spots T f p q items (Plain op cluster ∷ rest) = item_spots T f p q items rest
item_spots T f p q items (Split test y to ∷ rest) = record { to = to; at = q } ∷ item_spots T f p (q + length (words_of (landing_of T f p items (slotted T f (laid_writes items)) to))) items rest
