-- Where the arrays of the active functions stand is a number of 32 bits: each function has so few arrays, and at most 512 are active.
use Rattle.std.proofs.Common.{◌≡◌, ℕ, zero, suc, ◌+◌, ◌-◌, ◌*◌, ◌<◌, ◌≤◌, Bool, true, false, cond, nat_le, nat_lt, ℤ, pos, List, [], ◌∷◌, ◌++◌, length, map, take, drop, replicate, slice_get, slice_index_or, Option, Some, None, refl, sym, ap, ◌∙◌, subst, arith, ltb-true, ltb-false}
use Rattle.std.proofs.lemmas.Bool.{false≢true, leb-false}
use Rattle.std.proofs.lemmas.Int.{ints}
use Rattle.std.proofs.lemmas.List.{length-map, length-append}
use Rattle.std.proofs.lemmas.Option.{slice_get_past}
use Rattle.std.specs.Option.{option_map}
use Rattle.vx_base.specs.Outcome.{Outcome, Step, On, Over}
use Rattle.vx_base.specs.declared.outcome.Trap.TheVariants.{Depth}
use Rattle.vx_flow.specs.declared.graph.Array.{Array}
use Rattle.vx_flow.specs.declared.graph.Graph.{Graph}
use Rattle.vx_flow.specs.declared.graph.Flow.{Flow}
use Rattle.vx_flow.specs.Apart.{array_of, array_in, HasGlobalsFirst, PassedBelow}
use Rattle.vx_flow.specs.Effects.{Content, State, Setting}
use Rattle.vx_flow.specs.Meaning.{Hop, Arrives, Calls, Leaves, Stops, Wrong, Body, Frame, Active, deepest, undefined, at_entry, spot_behind, spot_in, spots_for, enters_with, enters, returned, waits, after_hop, hop, next, words_at_start, words_before, words_in, bases_in, own_of, body_of, program_of, setting_with, globals_at_start, entered_or, start}
use Rattle.vx_flow.proofs.Entering.{Holds, spots_hold}
use Rattle.vx_claims.specs.Facts.{full, Within}
use Rattle.vx_narrow.specs.Checking.{most_arrays}
use Rattle.vx_narrow.proofs.Operations.{SpotsFit}
use Rattle.vx_shape.proofs.Sizes.{HopSized, hop_sized}

-- ---- lists

take_few : {A : Type 0} (n : ℕ) (xs : List A) → length (take n xs) ≤ n
take_few zero [] = omega arith
take_few zero (x ∷ xs) = omega arith
take_few (suc n) [] = omega arith
take_few (suc n) (x ∷ xs) = let l = take_few n xs in omega (arith, l)

drop_few : {A : Type 0} (n : ℕ) (xs : List A) → length (drop n xs) ≤ length xs
drop_few zero xs = omega arith
drop_few (suc n) [] = omega arith
drop_few (suc n) (x ∷ xs) = let l = drop_few n xs in omega (arith, l)

words_few : (arrays : List Array) → length (words_in arrays) ≤ length arrays
words_few [] = omega arith
words_few (array ∷ arrays) = by array.base (words_few arrays)
  where
    by : (b : Option ℕ) → length (words_in arrays) ≤ length arrays → length (words_before b array.words (words_in arrays)) ≤ suc (length arrays)
    by None l = omega (arith, l)
    by (Some v) l = omega (arith, l)

-- ---- one function

-- no array stands further behind where the own ones of the function begin than its number says
abbrev StandLow : (globals : ℕ) → List (Option ℕ) → (base : ℕ) → Type 0
StandLow globals passed base = (a : ℕ) → spot_in globals passed base a ≤ base + a

behind_low : (passed : List (Option ℕ)) (base k : ℕ) → PassedBelow base passed → spot_behind passed base k ≤ base + k
behind_low [] base k h = omega arith
behind_low (Some s ∷ rest) base zero h = let l : s < base = h 0 s refl in omega (arith, l)
behind_low (Some s ∷ rest) base (suc k) h = let l = behind_low rest base k (λ j i e. h (suc j) i e) in omega (arith, l)
behind_low (None ∷ rest) base zero h = omega arith
behind_low (None ∷ rest) base (suc k) h = let l = behind_low rest (base + 1) k (λ j i e. (let b : i < base = h (suc j) i e in omega (arith, b))) in omega (arith, l)

stand_low : (globals : ℕ) (passed : List (Option ℕ)) (base : ℕ) → PassedBelow base passed → StandLow globals passed base
stand_low globals passed base h a = by (nat_lt a globals)
  where
    by : (t : Bool) → cond t a (spot_behind passed base (a - globals)) ≤ base + a
    by true = omega arith
    by false = let l = behind_low passed base (a - globals) h in omega (arith, l)

abbrev no_spots : List (Option ℕ)
no_spots = []

none_below : (base : ℕ) → PassedBelow base []
none_below base j k e = absurd (let q : slice_index_or no_spots j None ≡ None = nothing j in cc)
  where
    nothing : (i : ℕ) → slice_index_or no_spots i None ≡ None
    nothing zero = refl
    nothing (suc i) = refl

spot_fits : (spot : ℕ) → spot < 2147483648 → Within full (Some (pos spot))
spot_fits spot l = (omega (arith, ints, l), omega (arith, ints, l))

few_enough : (globals base n a spot : ℕ) → globals ≤ most_arrays → base ≤ globals + most_arrays * n → n ≤ 511 → a < most_arrays → spot ≤ base + a → spot < 2147483648
unfolding most_arrays
few_enough globals base n a spot g b d l s = omega (arith, g, b, d, l, s)

deeper : (n : ℕ) → nat_le deepest (n + 1) ≡ false → n + 1 ≤ 511
unfolding deepest
deeper n e = let l : n + 1 < 512 = leb-false 512 (n + 1) e in omega (arith, l)

more_room : (globals m n k base count : ℕ) → base ≤ globals + m * n → count ≤ base + m → k ≡ n + 1 → count ≤ globals + m * k
more_room globals m n k base count b c e = let p : m * k ≡ m * n + m = ap (λ z. m * z) e ∙ again in omega (arith, b, c, p)
  where
    again : m * (n + 1) ≡ m * n + m
    again = omega arith

-- ---- programs

module _ (flow : Flow) (first : HasGlobalsFirst flow) (few : (f : ℕ) (g : Graph) → slice_get flow.functions f ≡ Some g → length g.arrays ≤ most_arrays) where
  abbrev Globals : ℕ
  Globals = length flow.globals

  -- how far behind the globals the arrays begin that belong to the functions that wait
  abbrev pub FramesRoomy : (count : ℕ) → List Frame → Type 0
  FramesRoomy count [] = Unit {0}
  FramesRoomy count (f ∷ fs) = (count ≤ f.base + most_arrays) × (f.base ≤ Globals + most_arrays * length fs) × StandLow Globals f.passed f.base × FramesRoomy f.base fs

  pub record Roomy (r : Active) : Type 0 where
    pub begins : r.base ≤ Globals + most_arrays * length r.waiting
    pub room : length r.state.arrays ≤ r.base + most_arrays
    pub deep : length r.waiting ≤ 511
    pub low : StandLow Globals r.passed r.base
    pub frames : FramesRoomy r.base r.waiting

  abbrev StepRoomy : Step Active → Type 0
  StepRoomy (On q) = Roomy q
  StepRoomy (Over o) = Unit {0}

  own_few : (f : ℕ) (g : Graph) → slice_get flow.functions f ≡ Some g → (rows : List (List Content)) → length (rows ++ map undefined (own_of Globals g)) ≤ length rows + most_arrays
  own_few f g e rows =
      let a : length (rows ++ map undefined (own_of Globals g)) ≡ length rows + length (map undefined (own_of Globals g)) = length-append rows (map undefined (own_of Globals g)) in
      let m : length (map undefined (own_of Globals g)) ≡ length (own_of Globals g) = length-map (own_of Globals g) undefined in
      let w : length (own_of Globals g) ≤ length (drop Globals g.arrays) = words_few (drop Globals g.arrays) in
      let d : length (drop Globals g.arrays) ≤ length g.arrays = drop_few Globals g.arrays in
      let l : length g.arrays ≤ most_arrays = few f g e in
      omega (arith, a, m, w, d, l)

  enters_roomy : (g : ℕ) (o : Option Graph) → slice_get flow.functions g ≡ o → (ns : List ℤ) (s : State) (fs : List Frame) → length s.arrays ≤ Globals + most_arrays * length fs → length fs ≤ 511 → FramesRoomy (length s.arrays) fs → StepRoomy (enters g (option_map (body_of Globals) o) ns s fs)
  enters_roomy g None e ns s fs l d f = tt
  enters_roomy g (Some graph) e ns s fs l d f = by (spots_for (Some (body_of Globals graph)) ns s) refl
    where
      by : (spots : Option (List (Option ℕ))) → spots_for (Some (body_of Globals graph)) ns s ≡ spots → StepRoomy (enters_with g (Some (body_of Globals graph)) ns s fs spots)
      by None q = tt
      by (Some passed) q =
          let h : Holds (length s.arrays) (bases_in (drop Globals graph.arrays)) passed = spots_hold (length s.arrays) (at_entry graph.parameters ns) (bases_in (drop Globals graph.arrays)) passed q in
          record { begins = l; room = own_few g graph e s.arrays; deep = d; low = stand_low Globals passed (length s.arrays) h.below; frames = f }

  returned_roomy : (n : ℤ) (s : State) (base : ℕ) (fs : List Frame) → length fs ≤ 511 → FramesRoomy base fs → StepRoomy (returned n s base fs)
  returned_roomy n s base [] d f = tt
  returned_roomy n s base (g ∷ fs) d f =
      let t : length (take base s.arrays) ≤ base = take_few base s.arrays in
      let r : base ≤ g.base + most_arrays = f.0 in
      record { begins = f.1; room = omega (arith, t, r); deep = omega (arith, d); low = f.2; frames = f.3 }

  after_roomy : (r : Active) (h : Hop) → Roomy r → HopSized (λ k. k ≤ r.base + most_arrays) h → StepRoomy (after_hop (program_of flow) r h)
  after_roomy r (Arrives from to s) z k = record { begins = z.begins; room = k; deep = z.deep; low = z.low; frames = z.frames }
  after_roomy r (Calls g ns result from to s) z k = by (nat_le deepest (length r.waiting + 1)) refl
    where
      fs : List Frame
      fs = waits r result from to s ∷ r.waiting

      by : (t : Bool) → nat_le deepest (length r.waiting + 1) ≡ t → StepRoomy (cond t (Over (Outcome.Traps Depth s.out)) (enters g ((program_of flow).body g) ns s fs))
      by true e = tt
      by false e =
          let d : length r.waiting + 1 ≤ 511 = deeper (length r.waiting) e in
          let n : length fs ≡ length r.waiting + 1 = omega arith in
          enters_roomy g (slice_get flow.functions g) refl ns s fs (more_room Globals most_arrays (length r.waiting) (length fs) r.base (length s.arrays) z.begins k n) (omega (arith, d, n)) (k, z.begins, z.low, z.frames)
  after_roomy r (Leaves n s) z k = returned_roomy n s r.base r.waiting z.deep z.frames
  after_roomy r (Stops t s) z k = tt
  after_roomy r Wrong z k = tt

  step_roomy : (q : Active) (x : Step Active) → StepRoomy x → x ≡ On q → Roomy q
  step_roomy q x k e = subst StepRoomy e k

  pub next_roomy : (r q : Active) → Roomy r → next (program_of flow) r ≡ On q → Roomy q
  next_roomy r q z e = step_roomy q (next (program_of flow) r) (after_roomy r (hop (program_of flow) r) z (hop_sized flow (λ k. k ≤ r.base + most_arrays) r z.room)) e

  pub start_roomy : (input : List ℤ) → Roomy (start flow input)
  start_roomy input =
      let s = globals_at_start flow input in
      let e : length s.arrays ≡ Globals = length-map flow.globals words_at_start in
      record { begins = omega (arith, e); room = by (slice_get flow.functions flow.main) refl; deep = omega arith; low = stand_low Globals [] (length s.arrays) (none_below (length s.arrays)); frames = tt }
    where
      by : (o : Option Graph) → slice_get flow.functions flow.main ≡ o → length (entered_or (option_map (body_of Globals) o) (globals_at_start flow input)).arrays ≤ length (globals_at_start flow input).arrays + most_arrays
      by None q = omega arith
      by (Some g) q = own_few flow.main g q (globals_at_start flow input).arrays

  -- the globals are among the arrays of a function
  globals_few : (f : ℕ) (g : Graph) → slice_get flow.functions f ≡ Some g → Globals ≤ most_arrays
  globals_few f g e = by (nat_lt (length g.arrays) Globals) refl
    where
      by : (t : Bool) → nat_lt (length g.arrays) Globals ≡ t → Globals ≤ most_arrays
      by true q =
          let l : length g.arrays < Globals = ltb-true (length g.arrays) Globals q in
          let past : slice_get g.arrays (length g.arrays) ≡ None = slice_get_past g.arrays (length g.arrays) (omega arith) in
          absurd (false≢true (sym (ap (λ o. (array_of (length g.arrays) o).global) past) ∙ first f g e (length g.arrays) l))
      by false q =
          let l : Globals ≤ length g.arrays = ltb-false (length g.arrays) Globals q in
          let m : length g.arrays ≤ most_arrays = few f g e in
          omega (arith, l, m)

  pub roomy_fits : (r : Active) → Roomy r → (g : Graph) → slice_get flow.functions r.function ≡ Some g → SpotsFit (setting_with (program_of flow) r.passed r.base)
  roomy_fits r z g e a l =
      let spot = (setting_with (program_of flow) r.passed r.base).spot a in
      spot_fits spot (few_enough Globals r.base (length r.waiting) a spot (globals_few r.function g e) z.begins z.deep l (z.low a))
