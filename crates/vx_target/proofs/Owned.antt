-- The arrays of its own of a function, and those that were handed over: which they are, the rows that they get, and where they stand.
use Rattle.std.proofs.Common.{not, ◌≡◌, ◌<◌, ◌≤◌, ◌+◌, ◌-◌, ℕ, zero, suc, Bool, true, false, cond, Option, Some, None, List, [], ◌∷◌, length, map, drop, refl, sym, ap, ◌∙◌, subst, arith}
use Rattle.std.specs.Prelude.{slice_get, slice_index_or}
use Rattle.std.proofs.lemmas.List.{length-map, length-drop, get_or-map}
use Rattle.std.proofs.lemmas.Option.{get_or_from_slice_get}
use Rattle.vx_flow.specs.declared.graph.Array.{Array}
use Rattle.vx_flow.specs.Apart.{array_of, array_in}
use Rattle.vx_flow.specs.Meaning.{undefined, words_before, words_in, own_of, spot_in}
use Rattle.vx_flow.specs.Sound.{is_given, has_base, base_of, is_handed as is_handed_array}
use Rattle.vx_flow.proofs.Entering.{behind}
use Rattle.vx_target.specs.Target.{Target, is_handed}
use Rattle.vx_target.specs.Given.{owned, Passes}
use Rattle.vx_target.specs.Tied.{Stacked, WasPassed, own_arrays, row_in}
use Rattle.vx_target.proofs.Frames.{get_below, get_some}
use Rattle.vx_target.proofs.Spots.{own_spots, owned_law, given_spots}

-- numbers from one on that are not given

record Among (given : ℕ → Bool) (b n a : ℕ) : Type 0 where
  from : b ≤ a
  below : a < b + n
  own : given a ≡ false

owned_is : (given : ℕ → Bool) (b n j a : ℕ) → slice_get (owned given b n) j ≡ Some a → Among given b n a
owned_is given b zero j a e = absurd (cc)
owned_is given b (suc n) j a e = by (given b) refl j e (λ i q. owned_is given (b + 1) n i a q)
  where
    later : Among given (b + 1) n a → Among given b (suc n) a
    later r = record { from = (let x = r.from in omega arith); below = (let x = r.below in omega arith); own = r.own }

    by : (c : Bool) → given b ≡ c → (j : ℕ) → slice_get (cond (not c) (b ∷ owned given (b + 1) n) (owned given (b + 1) n)) j ≡ Some a → ((i : ℕ) → slice_get (owned given (b + 1) n) i ≡ Some a → Among given (b + 1) n a) → Among given b (suc n) a
    by true g j h more = later (more j h)
    by false g zero h more = let q : b ≡ a = cc in record { from = omega arith; below = omega arith; own = ap given (sym q) ∙ g }
    by false g (suc j) h more = later (more j h)

owned_once : (given : ℕ → Bool) (b n i j a : ℕ) → slice_get (owned given b n) i ≡ Some a → slice_get (owned given b n) j ≡ Some a → i ≡ j
owned_once given b zero i j a e f = absurd (cc)
owned_once given b (suc n) i j a e f = by (given b) refl i j e f (λ x y p q. owned_once given (b + 1) n x y a p q)
  where
    first : (j : ℕ) → b ≡ a → slice_get (owned given (b + 1) n) j ≡ Some a → ⊥
    first j q h = let r = (owned_is given (b + 1) n j a h).from in omega arith

    by : (c : Bool) → given b ≡ c → (i j : ℕ) → slice_get (cond (not c) (b ∷ owned given (b + 1) n) (owned given (b + 1) n)) i ≡ Some a → slice_get (cond (not c) (b ∷ owned given (b + 1) n) (owned given (b + 1) n)) j ≡ Some a → ((x y : ℕ) → slice_get (owned given (b + 1) n) x ≡ Some a → slice_get (owned given (b + 1) n) y ≡ Some a → x ≡ y) → i ≡ j
    by true g i j p q more = more i j p q
    by false g zero zero p q more = refl
    by false g zero (suc j) p q more = absurd (first j (cc) q)
    by false g (suc i) zero p q more = absurd (first i (cc) p)
    by false g (suc i) (suc j) p q more = ap suc (more i j p q)

-- an array is handed over if it has a base

pub handed_is : (arrays : List Array) (a : ℕ) → has_base (array_in arrays a) ≡ is_handed_array arrays a
handed_is arrays a = by (slice_get arrays a)
  where
    by : (o : Option Array) → has_base (array_of a o) ≡ is_given (base_of o)
    by None = refl
    by (Some array) = refl

pub handed_by : (arrays : List Array) (a : ℕ) (array : Array) → slice_get arrays a ≡ Some array → is_handed_array arrays a ≡ is_given array.base
handed_by arrays a array e = ap (λ o. is_given (base_of o)) e

pub no_base : (base : Option ℕ) → is_given base ≡ false → base ≡ None
no_base None e = refl
no_base (Some v) e = absurd (cc)

-- the words of arrays without a base, in their order, are those of the numbers that are not handed over

module _ (arrays : List Array) where
  abbrev Handed : ℕ → Bool
  Handed a = is_handed_array arrays a

  -- these are the arrays from number b on
  abbrev From : ℕ → List Array → Type 0
  From b xs = (k : ℕ) → slice_get xs k ≡ slice_get arrays (b + k)

  from_next : (b : ℕ) (x : Array) (xs : List Array) → From b (x ∷ xs) → From (b + 1) xs
  from_next b x xs h k = let q : b + suc k ≡ b + 1 + k = omega arith in h (suc k) ∙ ap (slice_get arrays) q

  from_first : (b : ℕ) (x : Array) (xs : List Array) → From b (x ∷ xs) → slice_get arrays b ≡ Some x
  from_first b x xs h = let q : b + 0 ≡ b = omega arith in sym (h 0 ∙ ap (slice_get arrays) q)

  count_from : (b : ℕ) (xs : List Array) → From b xs → length (words_in xs) ≡ length (owned Handed b (length xs))
  count_from b [] h = refl
  count_from b (x ∷ xs) h = by x.base refl (count_from (b + 1) xs (from_next b x xs h))
    where
      is : (base : Option ℕ) → x.base ≡ base → Handed b ≡ is_given base
      is base e = handed_by arrays b x (from_first b x xs h) ∙ ap is_given e

      by : (base : Option ℕ) → x.base ≡ base → length (words_in xs) ≡ length (owned Handed (b + 1) (length xs)) → length (words_before x.base x.words (words_in xs)) ≡ length (owned Handed b (suc (length xs)))
      by None e more =
          ap (λ o. length (words_before o x.words (words_in xs))) e ∙ ap suc more
          ∙ sym (ap (λ c. length (cond (not c) (b ∷ owned Handed (b + 1) (length xs)) (owned Handed (b + 1) (length xs)))) (is None e))
      by (Some v) e more =
          ap (λ o. length (words_before o x.words (words_in xs))) e ∙ more
          ∙ sym (ap (λ c. length (cond (not c) (b ∷ owned Handed (b + 1) (length xs)) (owned Handed (b + 1) (length xs)))) (is (Some v) e))

  word_from : (b : ℕ) (xs : List Array) → From b xs → (j a : ℕ) (array : Array) → slice_get (owned Handed b (length xs)) j ≡ Some a → slice_get arrays a ≡ Some array → slice_get (words_in xs) j ≡ Some array.words
  word_from b [] h j a array e there = absurd (cc)
  word_from b (x ∷ xs) h j a array e there = by x.base refl j e (λ i q. word_from (b + 1) xs (from_next b x xs h) i a array q there)
    where
      is : (base : Option ℕ) → x.base ≡ base → Handed b ≡ is_given base
      is base e = handed_by arrays b x (from_first b x xs h) ∙ ap is_given e

      not_handed : x.base ≡ None → (j : ℕ) → slice_get (owned Handed b (suc (length xs))) j ≡ Some a → slice_get (b ∷ owned Handed (b + 1) (length xs)) j ≡ Some a
      not_handed e j q = sym (ap (λ c. slice_get (cond (not c) (b ∷ owned Handed (b + 1) (length xs)) (owned Handed (b + 1) (length xs))) j) (is None e)) ∙ q

      own : (j : ℕ) → slice_get (b ∷ owned Handed (b + 1) (length xs)) j ≡ Some a → ((i : ℕ) → slice_get (owned Handed (b + 1) (length xs)) i ≡ Some a → slice_get (words_in xs) i ≡ Some array.words) → slice_get (x.words ∷ words_in xs) j ≡ Some array.words
      own zero q more =
          let same : b ≡ a = cc in
          let z : Some x ≡ Some array = sym (from_first b x xs h) ∙ ap (slice_get arrays) same ∙ there in
          let y : x ≡ array = cc in
          ap (λ r. Some (r.words)) y
      own (suc j) q more = more j q

      by : (base : Option ℕ) → x.base ≡ base → (j : ℕ) → slice_get (owned Handed b (suc (length xs))) j ≡ Some a → ((i : ℕ) → slice_get (owned Handed (b + 1) (length xs)) i ≡ Some a → slice_get (words_in xs) i ≡ Some array.words) → slice_get (words_before x.base x.words (words_in xs)) j ≡ Some array.words
      by None e j q more = ap (λ o. slice_get (words_before o x.words (words_in xs)) j) e ∙ own j (not_handed e j q) more
      by (Some v) e j q more =
          ap (λ o. slice_get (words_before o x.words (words_in xs)) j) e
          ∙ more j (sym (ap (λ c. slice_get (cond (not c) (b ∷ owned Handed (b + 1) (length xs)) (owned Handed (b + 1) (length xs))) j) (is (Some v) e)) ∙ q)

module _ (T : Target) (globals f : ℕ) where
  abbrev pub Own : List ℕ
  Own = own_arrays T globals f

  abbrev Arrays : List Array
  Arrays = (T.graph f).arrays

  abbrev Behind : ℕ
  Behind = length Arrays - globals

  among : (j a : ℕ) → slice_get Own j ≡ Some a → Among (λ b. is_handed T f b) globals Behind a
  among j a e = owned_is (λ b. is_handed T f b) globals Behind j a e

  -- each stands behind the globals, is there without a base, and is among them once
  pub own_from : (j a : ℕ) → slice_get Own j ≡ Some a → globals ≤ a
  own_from j a e = (among j a e).from

  pub own_there : (j a : ℕ) → slice_get Own j ≡ Some a → (array : Array) × (slice_get Arrays a ≡ Some array) × (array.base ≡ None)
  own_there j a e =
      let m = among j a e in
      let f = m.from in
      let l = m.below in
      let x = get_some Arrays a (omega arith) in
      (x.0, x.1, no_base x.0.base (sym (handed_by Arrays a x.0 x.1) ∙ m.own))

  pub own_once : (i j a b : ℕ) → slice_get Own i ≡ Some a → slice_get Own j ≡ Some b → a ≡ b → i ≡ j
  own_once i j a b e g s = owned_once (λ b. is_handed T f b) globals Behind i j a e (g ∙ ap Some (sym s))

  -- each array behind the globals that has no base is one
  pub own_at : (a : ℕ) (array : Array) → globals ≤ a → slice_get Arrays a ≡ Some array → array.base ≡ None → (j : ℕ) × (slice_get Own j ≡ Some a)
  own_at a array le has bare =
      let lt = get_below Arrays a array has in
      owned_law (λ b. is_handed T f b) globals Behind a le (omega arith) (handed_by Arrays a array has ∙ ap is_given bare)

  -- where the function is entered their rows are undefined, and as long as they are

  rest_count : length (drop globals Arrays) ≡ Behind
  rest_count = length-drop globals Arrays

  pub own_count : length (map undefined (own_of globals (T.graph f))) ≡ length Own
  own_count =
      length-map (own_of globals (T.graph f)) undefined
      ∙ count_from Arrays globals (drop globals Arrays) (λ k. behind Arrays globals k)
      ∙ ap (λ n. length (owned (λ b. is_handed T f b) globals n)) rest_count

  pub own_row : (j a : ℕ) (array : Array) → slice_get Own j ≡ Some a → slice_get Arrays a ≡ Some array → row_in (map undefined (own_of globals (T.graph f))) j ≡ undefined array.words
  own_row j a array e has =
      let w : slice_get (own_of globals (T.graph f)) j ≡ Some array.words =
      word_from Arrays globals (drop globals Arrays) (λ k. behind Arrays globals k) j a array (ap (λ n. slice_get (owned (λ b. is_handed T f b) globals n) j) rest_count ∙ e) has in
      get_or-map undefined (own_of globals (T.graph f)) j 0 [] (get_below (own_of globals (T.graph f)) j array.words w)
      ∙ ap undefined (get_or_from_slice_get (own_of globals (T.graph f)) j array.words 0 w)

-- where the arrays of an activation stand

module _ (T : Target) (globals : ℕ) (x : Stacked) (passed : WasPassed T globals x) where
  abbrev ItsArrays : List Array
  ItsArrays = (T.graph x.function).arrays

  given_at : (j : ℕ) → is_handed T x.function (globals + j) ≡ is_given (slice_index_or x.passed j None)
  given_at j = sym (handed_is ItsArrays (globals + j)) ∙ passed.aligned j

  pub passes : (count : ℕ) → Passes (λ a. is_handed T x.function a) globals count x.passed
  passes count = record {
    spots = λ j lt e. some (slice_index_or x.passed j None) (sym (given_at j) ∙ e);
    no_more = λ j lt e. no_base (slice_index_or x.passed j None) (sym (given_at j) ∙ e);
  }
    where
      some : (o : Option ℕ) → is_given o ≡ true → (k : ℕ) × (o ≡ Some k)
      some None e = absurd (cc)
      some (Some k) e = (k, refl)

  -- its own behind its base
  pub own_spot : (j a : ℕ) → slice_get (own_arrays T globals x.function) j ≡ Some a → spot_in globals x.passed x.base a ≡ x.base + j
  own_spot j a e = own_spots (λ b. is_handed T x.function b) globals (length ItsArrays - globals) x.base x.passed (passes (length ItsArrays - globals)) j a e

  -- those that were handed over in front of it
  pub handed_spot : (a v : ℕ) (array : Array) → globals ≤ a → slice_get ItsArrays a ≡ Some array → array.base ≡ Some v → spot_in globals x.passed x.base a < x.base
  handed_spot a v array le has base =
      let q : globals + (a - globals) ≡ a = omega arith in
      let lt = get_below ItsArrays a array has in
      let given : is_handed T x.function (globals + (a - globals)) ≡ true = ap (λ b. is_handed T x.function b) q ∙ handed_by ItsArrays a array has ∙ ap is_given base in
      let s = (passes (length ItsArrays - globals)).spots (a - globals) (omega arith) given in
      let low = passed.below (a - globals) s.0 s.1 in
      subst (λ k. k < x.base) (sym (given_spots globals x.base a s.0 x.passed le s.1)) low
