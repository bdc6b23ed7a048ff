-- Where the words of the regions of all functions stand.
use Rattle.std.specs.Prelude.{◌≡◌, ◌<◌, ◌+◌, ℕ, Some, List, length, slice_get}
use Rattle.vx_mixed.specs.declared.layout.Laid.{Laid}
use Rattle.vx_mixed.specs.declared.layout.VirtualWord.TheVariants.{Planned}
use Rattle.vx_mixed.specs.declared.layout.VWords.{VWords}
use Rattle.vx_mixed.specs.LaidSettled.{laid_reads}
use Rattle.vx_layout.specs.Numbered.{words_in}
use Rattle.vx_target.specs.declared.finished.TracePlaces.{TracePlaces}
use Rattle.vx_target.specs.Target.{Target, before}
use Rattle.vx_target.specs.PlacesIn.{regions_before, places_in}

-- where the operations of a planned word stand: behind the loads of what it reads from slots
abbrev pub plan_place : Target → (function place : ℕ) → List Laid → ℕ
plan_place T f p items = T.starts f p + length (before T f (laid_reads items))

-- each region of each function has its places, as many as it has words, and the one with a word's number is where the operations of
-- that word stand; there are no more
pub record ArePlaces (T : Target) (ls : List VWords) (places : List TracePlaces) : Type 0 where
  pub regions : length places ≡ regions_before ls (length ls)
  pub words : (f r : ℕ) → f < length ls → r < (T.layout f).regions → length (places_in places ls f r) ≡ words_in r (T.layout f).words
  pub each : (f p r w : ℕ) (items : List Laid) → f < length ls → slice_get (T.layout f).words p ≡ Some (Planned r w items) → slice_get (places_in places ls f r) w ≡ Some (plan_place T f p items)
