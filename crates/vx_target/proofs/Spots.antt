-- Spots of arrays that are given and of a function's own.
use Rattle.std.proofs.Common.{not, ◌≡◌, ◌⊎◌, inl, inr, ⊎_elim, ◌<◌, ◌≤◌, ◌+◌, ◌-◌, ℕ, zero, suc, Bool, true, false, cond, Option, Some, None, List, [], ◌∷◌, refl, sym, ap, ◌∙◌, arith}
use Rattle.std.specs.Prelude.{if◌then◌else◌, slice_get, slice_index_or}
use Rattle.std.proofs.lemmas.Bool.{cases_lt, lt-ltb, le-ltb}
use Rattle.vx_flow.specs.Meaning.{spot_in, spot_behind}
use Rattle.vx_target.specs.Given.{owned, Passes, IsForeign, OwnSpotsLaw, OwnedLaw, GivenSpotsLaw, SpotsApartLaw}

low : (globals base a : ℕ) (passed : List (Option ℕ)) → a < globals → spot_in globals passed base a ≡ a
low globals base a passed lt = ap (λ z. if z then a else spot_behind passed base (a - globals)) (lt-ltb a globals lt)

high : (globals base a : ℕ) (passed : List (Option ℕ)) → globals ≤ a → spot_in globals passed base a ≡ spot_behind passed base (a - globals)
high globals base a passed le = ap (λ z. if z then a else spot_behind passed base (a - globals)) (le-ltb a globals le)

-- behind the first array

given_next : (given : ℕ → Bool) (b n : ℕ) (x : Option ℕ) (rest : List (Option ℕ)) → Passes given b (suc n) (x ∷ rest) → Passes given (b + 1) n rest
given_next given b n x rest p = record {
  spots = λ j lt e. let q : b + 1 + j ≡ b + suc j = omega arith in p.spots (suc j) (omega arith) (ap given (sym q) ∙ e);
  no_more = λ j lt e. let q : b + 1 + j ≡ b + suc j = omega arith in p.no_more (suc j) (omega arith) (ap given (sym q) ∙ e);
}

none_next : (given : ℕ → Bool) (b n : ℕ) → Passes given b (suc n) [] → Passes given (b + 1) n []
none_next given b n p = record {
  spots = λ j lt e. let q : b + 1 + j ≡ b + suc j = omega arith in p.spots (suc j) (omega arith) (ap given (sym q) ∙ e);
  no_more = λ j lt e. refl;
}

-- an own array and its place behind the globals
record Stands (b n base j a : ℕ) (passed : List (Option ℕ)) : Type 0 where
  place : ℕ
  is : a ≡ b + place
  below : place < n
  spot : spot_behind passed base place ≡ base + j

own_stands : (given : ℕ → Bool) (b n base : ℕ) (passed : List (Option ℕ)) → Passes given b n passed → (j a : ℕ) → slice_get (owned given b n) j ≡ Some a → Stands b n base j a passed
own_stands given b zero base passed p j a e = absurd (cc)
own_stands given b (suc n) base passed p j a e = by (given b) refl e (λ origin rest q i g. own_stands given (b + 1) n origin rest q i a g)
  where
    none : (passed : List (Option ℕ)) → Passes given b (suc n) passed → given b ≡ false → slice_index_or passed 0 None ≡ None
    none passed p g = p.no_more 0 (omega arith) (let q : b + 0 ≡ b = omega arith in ap given q ∙ g)

    some : (passed : List (Option ℕ)) → Passes given b (suc n) passed → given b ≡ true → (k : ℕ) × (slice_index_or passed 0 None ≡ Some k)
    some passed p g = p.spots 0 (omega arith) (let q : b + 0 ≡ b = omega arith in ap given q ∙ g)

    skip : (passed : List (Option ℕ)) → Passes given b (suc n) passed → (k : ℕ) → slice_index_or passed 0 None ≡ Some k → slice_get (owned given (b + 1) n) j ≡ Some a → ((origin : ℕ) (rest : List (Option ℕ)) → Passes given (b + 1) n rest → (i : ℕ) → slice_get (owned given (b + 1) n) i ≡ Some a → Stands (b + 1) n origin i a rest) → Stands b (suc n) base j a passed
    skip [] p k h e later = absurd (cc)
    skip (None ∷ rest) p k h e later = absurd (cc)
    skip (Some m ∷ rest) p k h e later =
        let s = later base rest (given_next given b n (Some m) rest p) j e in
        let q = s.is in
        let l = s.below in
        record { place = suc s.place; is = omega arith; below = omega arith; spot = s.spot }

    first : (passed : List (Option ℕ)) → slice_index_or passed 0 None ≡ None → b ≡ a → Stands b (suc n) base 0 a passed
    first [] h q = record { place = 0; is = omega arith; below = omega arith; spot = refl }
    first (None ∷ rest) h q = record { place = 0; is = omega arith; below = omega arith; spot = omega arith }
    first (Some m ∷ rest) h q = absurd (cc)

    more : (passed : List (Option ℕ)) → Passes given b (suc n) passed → slice_index_or passed 0 None ≡ None → (i : ℕ) → slice_get (owned given (b + 1) n) i ≡ Some a → ((origin : ℕ) (rest : List (Option ℕ)) → Passes given (b + 1) n rest → (i : ℕ) → slice_get (owned given (b + 1) n) i ≡ Some a → Stands (b + 1) n origin i a rest) → Stands b (suc n) base (suc i) a passed
    more [] p h i e later =
        let s = later (base + 1) [] (none_next given b n p) i e in
        let q = s.is in
        let l = s.below in
        let t : base + 1 + s.place ≡ base + 1 + i = s.spot in
        record { place = suc s.place; is = omega arith; below = omega arith; spot = omega arith }
    more (None ∷ rest) p h i e later =
        let s = later (base + 1) rest (given_next given b n None rest p) i e in
        let q = s.is in
        let l = s.below in
        let t : base + 1 + i ≡ base + suc i = omega arith in
        record { place = suc s.place; is = omega arith; below = omega arith; spot = s.spot ∙ t }
    more (Some m ∷ rest) p h i e later = absurd (cc)

    own : (j : ℕ) → given b ≡ false → slice_get (b ∷ owned given (b + 1) n) j ≡ Some a → ((origin : ℕ) (rest : List (Option ℕ)) → Passes given (b + 1) n rest → (i : ℕ) → slice_get (owned given (b + 1) n) i ≡ Some a → Stands (b + 1) n origin i a rest) → Stands b (suc n) base j a passed
    own zero g e later = first passed (none passed p g) (cc)
    own (suc i) g e later = more passed p (none passed p g) i e later

    by : (c : Bool) → given b ≡ c → slice_get (cond (not c) (b ∷ owned given (b + 1) n) (owned given (b + 1) n)) j ≡ Some a → ((origin : ℕ) (rest : List (Option ℕ)) → Passes given (b + 1) n rest → (i : ℕ) → slice_get (owned given (b + 1) n) i ≡ Some a → Stands (b + 1) n origin i a rest) → Stands b (suc n) base j a passed
    by true g h later = let s = some passed p g in skip passed p s.0 s.1 h later
    by false g h later = own j g h later

pub own_spots : OwnSpotsLaw
own_spots given globals count base passed p j a e =
    let s = own_stands given globals count base passed p j a e in
    let q = s.is in
    let place : a - globals ≡ s.place = omega arith in
    high globals base a passed (omega arith) ∙ ap (spot_behind passed base) place ∙ s.spot

pub owned_law : OwnedLaw
owned_law given b zero a le lt g = absurd (omega arith)
owned_law given b (suc n) a le lt g = by (given b) refl (λ less. owned_law given (b + 1) n a (omega arith) (omega arith) g)
  where
    in_case : (c : Bool) → (j : ℕ) → given b ≡ c → slice_get (cond (not c) (b ∷ owned given (b + 1) n) (owned given (b + 1) n)) j ≡ Some a → slice_get (owned given b (suc n)) j ≡ Some a
    in_case c j g e = ap (λ x. slice_get (cond (not x) (b ∷ owned given (b + 1) n) (owned given (b + 1) n)) j) g ∙ e

    by : (c : Bool) → given b ≡ c → (b < a → (j : ℕ) × (slice_get (owned given (b + 1) n) j ≡ Some a)) → (j : ℕ) × (slice_get (owned given b (suc n)) j ≡ Some a)
    by true h rest = ⊎_elim (λ less. let r = rest less in (r.0, in_case true r.0 h r.1)) (λ ge. absurd (let q : b ≡ a = omega arith in let z : true ≡ false = sym h ∙ ap given q ∙ g in cc)) (cases_lt b a)
    by false h rest = ⊎_elim (λ less. let r = rest less in (suc r.0, in_case false (suc r.0) h r.1)) (λ ge. let q : b ≡ a = omega arith in (0, in_case false 0 h (ap Some q))) (cases_lt b a)

given_behind : (base j k : ℕ) (passed : List (Option ℕ)) → slice_index_or passed j None ≡ Some k → spot_behind passed base j ≡ k
given_behind base j k [] e = absurd (cc)
given_behind base zero k (None ∷ rest) e = absurd (cc)
given_behind base zero k (Some m ∷ rest) e = cc
given_behind base (suc j) k (None ∷ rest) e = given_behind (base + 1) j k rest e
given_behind base (suc j) k (Some m ∷ rest) e = given_behind base j k rest e

pub given_spots : GivenSpotsLaw
given_spots globals base a k passed le e = high globals base a passed le ∙ given_behind base (a - globals) k passed e

-- an array stands in front of the base, or is one of the function's own
data Spotted (given : ℕ → Bool) (globals count base a spot : ℕ) : Type 0 where
  is_global : a < globals → spot ≡ a → Spotted given globals count base a spot
  is_given : given a ≡ true → spot < base → Spotted given globals count base a spot
  is_own : (j : ℕ) → slice_get (owned given globals count) j ≡ Some a → spot ≡ base + j → Spotted given globals count base a spot

module _ (given : ℕ → Bool) (globals count base : ℕ) (passed : List (Option ℕ)) (p : Passes given globals count passed) (first : globals ≤ base) (front : (j k : ℕ) → slice_index_or passed j None ≡ Some k → k < base) where
  abbrev Spot : ℕ → ℕ
  Spot a = spot_in globals passed base a

  spotted : (a : ℕ) → a < globals + count → Spotted given globals count base a (Spot a)
  spotted a lt = ⊎_elim (λ less. is_global less (low globals base a passed less)) (λ le. by (given a) refl le) (cases_lt a globals)
    where
      by : (c : Bool) → given a ≡ c → globals ≤ a → Spotted given globals count base a (Spot a)
      by true g le =
          let q : globals + (a - globals) ≡ a = omega arith in
          let s = p.spots (a - globals) (omega arith) (ap given q ∙ g) in
          let h = front (a - globals) s.0 s.1 in
          let t = given_spots globals base a s.0 passed le s.1 in
          is_given g (omega arith)
      by false g le = let s = owned_law given globals count a le lt g in is_own s.0 s.1 (own_spots given globals count base passed p s.0 a s.1)

  two : (a b : ℕ) → Spotted given globals count base a (Spot a) → Spotted given globals count base b (Spot b) → Spot a ≡ Spot b → (a ≡ b) ⊎ (IsForeign given globals a × IsForeign given globals b)
  two a b (is_global l e) (is_global m f) q = inl (omega arith)
  two a b (is_global l e) (is_given g h) q = inr (inl l, inr g)
  two a b (is_global l e) (is_own j o s) q = absurd (omega arith)
  two a b (is_given g h) (is_global m f) q = inr (inr g, inl m)
  two a b (is_given g h) (is_given k m) q = inr (inr g, inr k)
  two a b (is_given g h) (is_own j o s) q = absurd (omega arith)
  two a b (is_own j o s) (is_global m f) q = absurd (omega arith)
  two a b (is_own j o s) (is_given k m) q = absurd (omega arith)
  two a b (is_own i o s) (is_own j r t) q = inl (let same : i ≡ j = omega arith in let z : Some a ≡ Some b = sym o ∙ ap (slice_get (owned given globals count)) same ∙ r in cc)

pub spots_apart : SpotsApartLaw
spots_apart given globals count base passed p first front a b la lb e = two given globals count base passed p first front a b (spotted given globals count base passed p first front a la) (spotted given globals count base passed p first front b lb) e
