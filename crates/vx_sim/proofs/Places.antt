-- The list of the ring's places.
use Rattle.std.proofs.Common.{◌≡◌, ℕ, zero, suc, ◌+◌, ◌<◌, List, [], ◌∷◌, ◌++◌, map, replicate, length, set, get_or, Vec, vec_capacity, refl, sym, ap, ◌∙◌, arith}
use Rattle.std.proofs.lemmas.List.{map-append, replicate_more}
use Rattle.std.specs.declared.alloc.Global.{Global}
use Rattle.vx_sim.specs.declared.flight.Flight.{Flight}
use Rattle.vx_sim.specs.Flying.{flights_in}

abbrev pub Place : Type 0
Place = Vec Flight Global

pub place_is : (places : List Place) (i : ℕ) (place : Place) → i < length places → place ≡ get_or places i place → get_or (flights_in places) i [] ≡ place.items
place_is [] i place lt e = absurd (omega arith)
place_is (p ∷ ps) zero place lt e = ap (λ (v : Place). v.items) (sym e)
place_is (p ∷ ps) (suc i) place lt e = place_is ps i place (omega arith) e

pub place_set : (places : List Place) (i : ℕ) (place : Place) (fs : List Flight) → place.items ≡ fs → flights_in (set places i place) ≡ set (flights_in places) i fs
place_set [] i place fs e = refl
place_set (p ∷ ps) zero place fs e = ap (λ gs. gs ∷ flights_in ps) e
place_set (p ∷ ps) (suc i) place fs e = ap (λ rest. p.items ∷ rest) (place_set ps i place fs e)

pub capacity_is : (places : List Place) (i : ℕ) (place : Place) → i < length places → place ≡ get_or places i place → get_or (map vec_capacity places) i 0 ≡ vec_capacity place
capacity_is [] i place lt e = absurd (omega arith)
capacity_is (p ∷ ps) zero place lt e = ap (λ (v : Place). vec_capacity v) (sym e)
capacity_is (p ∷ ps) (suc i) place lt e = capacity_is ps i place (omega arith) e

pub capacity_stays : (places : List Place) (i : ℕ) (old new : Place) → i < length places → old ≡ get_or places i old → vec_capacity new ≡ vec_capacity old → map vec_capacity (set places i new) ≡ map vec_capacity places
capacity_stays [] i old new lt e same = absurd (omega arith)
capacity_stays (p ∷ ps) zero old new lt e same = ap (λ n. n ∷ map vec_capacity ps) (same ∙ ap (λ (v : Place). vec_capacity v) e)
capacity_stays (p ∷ ps) (suc i) old new lt e same = ap (λ ns. vec_capacity p ∷ ns) (capacity_stays ps i old new (omega arith) e same)

-- one place more, of which the same is said
pub place_more : {X : Type 0} (f : Place → X) (old new : List Place) (place : Place) (n : ℕ) (x : X) → new ≡ old ++ place ∷ [] → map f old ≡ replicate n x → f place ≡ x → map f new ≡ replicate (n + 1) x
place_more f old new place n x e all one = ap (map f) e ∙ map-append f old (place ∷ []) ∙ ap (λ xs. xs ++ f place ∷ []) all ∙ ap (λ y. replicate n x ++ y ∷ []) one ∙ replicate_more n x
