-- Entering a function: each base of it gets a spot in front of its own arrays, and where no array has a base nothing is passed.
use Rattle.std.proofs.Common.{◌≡◌, inl, inr, ℕ, ℤ, zero, suc, pos, negsuc, ◌+◌, ◌<◌, ◌≤◌, Bool, true, false, if◌then◌else◌, List, [], ◌∷◌, length, map, drop, Option, Some, None, slice_get, slice_index_or, refl, sym, ap, subst, ◌∙◌, arith}
use Rattle.std.specs.Prelude.{◌||◌, nat_lt}
use Rattle.std.specs.List.{list_any}
use Rattle.std.proofs.lemmas.Bool.{false≢true, ltb-true}
use Rattle.std.proofs.lemmas.Option.{slice_get_cases}
use Rattle.vx_base.specs.Outcome.{On}
use Rattle.vx_flow.specs.declared.graph.Array.{Array}
use Rattle.vx_flow.specs.declared.graph.Flow.{Flow}
use Rattle.vx_flow.specs.Effects.{Content, State, IsIn}
use Rattle.vx_flow.specs.Sound.{is_given, has_base, base_of, base_at, SoundFlow}
use Rattle.vx_flow.specs.Apart.{array_of, StandApart, GlobalsFirst, HasGlobalsFirst, Aligned, PassedBelow}
use Rattle.vx_flow.specs.Meaning.{Body, Frame, at_entry, entered, enters, enters_passed, spot_held, with_spot, without_spot, spots_held, spot_in, base_before, bases_in, words_before, words_in}
use Rattle.vx_flow.proofs.Passed.{passed_apart}

-- ---- spots of bases

-- a spot that a base holds is that of one of so many arrays
spot_below : (count : ℕ) (x : Content) (k : ℕ) → spot_held count x ≡ Some k → k < count
spot_below count None k e = absurd (cc)
spot_below count (Some (negsuc n)) k e = absurd (cc)
spot_below count (Some (pos j)) k e = by (nat_lt j count) refl e
  where
    by : (t : Bool) → nat_lt j count ≡ t → (if t then Some j else None) ≡ Some k → k < count
    by true q f = let l : j < count = ltb-true j count q in let same : j ≡ k = cc in subst (λ z. z < count) same l
    by false q f = absurd (cc)

-- what is passed is in front of so many arrays, and stands where a base does
pub record Holds (count : ℕ) (bases passed : List (Option ℕ)) : Type 0 where
  pub below : PassedBelow count passed
  pub aligned : (j : ℕ) → is_given (slice_index_or bases j None) ≡ is_given (slice_index_or passed j None)

abbrev no_spots : List (Option ℕ)
no_spots = []

nothing_at : (j : ℕ) → slice_index_or no_spots j None ≡ None
nothing_at zero = refl
nothing_at (suc j) = refl

holds_none : (count : ℕ) → Holds count [] []
holds_none count = record { below = λ j k e. absurd (let q = nothing_at j in cc); aligned = λ j. refl }

holds_before : (count : ℕ) (bases passed : List (Option ℕ)) → Holds count bases passed → Holds count (None ∷ bases) (None ∷ passed)
holds_before count bases passed h = record { below = below; aligned = aligned }
  where
    below : PassedBelow count (None ∷ passed)
    below zero k e = absurd (cc)
    below (suc j) k e = h.below j k e

    aligned : (j : ℕ) → is_given (slice_index_or (None ∷ bases) j None) ≡ is_given (slice_index_or (None ∷ passed) j None)
    aligned zero = refl
    aligned (suc j) = h.aligned j

holds_spot : (count v s : ℕ) (bases passed : List (Option ℕ)) → s < count → Holds count bases passed → Holds count (Some v ∷ bases) (Some s ∷ passed)
holds_spot count v s bases passed l h = record { below = below; aligned = aligned }
  where
    below : PassedBelow count (Some s ∷ passed)
    below zero k e = let q : s ≡ k = cc in subst (λ z. z < count) q l
    below (suc j) k e = h.below j k e

    aligned : (j : ℕ) → is_given (slice_index_or (Some v ∷ bases) j None) ≡ is_given (slice_index_or (Some s ∷ passed) j None)
    aligned zero = refl
    aligned (suc j) = h.aligned j

holds_as : (count : ℕ) (bases passed rest : List (Option ℕ)) → Option.Some passed ≡ Some rest → Holds count bases passed → Holds count bases rest
holds_as count bases passed rest e h = let q : passed ≡ rest = cc in subst (Holds count bases) q h

pub spots_hold : (count : ℕ) (values : ℕ → Content) (bases passed : List (Option ℕ)) → spots_held count values bases ≡ Some passed → Holds count bases passed
spots_hold count values [] passed e = holds_as count [] [] passed e (holds_none count)
spots_hold count values (None ∷ bases) passed e = by (spots_held count values bases) (λ rest q. spots_hold count values bases rest q) e
  where
    by : (o : Option (List (Option ℕ))) → ((rest : List (Option ℕ)) → o ≡ Some rest → Holds count bases rest) → without_spot o ≡ Some passed → Holds count (None ∷ bases) passed
    by None k f = absurd (cc)
    by (Some rest) k f = holds_as count (None ∷ bases) (None ∷ rest) passed f (holds_before count bases rest (k rest refl))
spots_hold count values (Some v ∷ bases) passed e = by (spot_held count (values v)) (spots_held count values bases) (λ s q. spot_below count (values v) s q) (λ rest q. spots_hold count values bases rest q) e
  where
    by : (x : Option ℕ) (o : Option (List (Option ℕ))) → ((s : ℕ) → x ≡ Some s → s < count) → ((rest : List (Option ℕ)) → o ≡ Some rest → Holds count bases rest) → with_spot x o ≡ Some passed → Holds count (Some v ∷ bases) passed
    by None o l k f = absurd (cc)
    by (Some s) None l k f = absurd (cc)
    by (Some s) (Some rest) l k f = holds_as count (Some v ∷ bases) (Some s ∷ rest) passed f (holds_spot count v s bases rest (l s refl) (k rest refl))

-- ---- bases of arrays

first_base : (b : Option ℕ) (bases : List (Option ℕ)) → slice_index_or (base_before b bases) 0 None ≡ b
first_base None [] = refl
first_base None (x ∷ xs) = refl
first_base (Some v) bases = refl

later_base : (b : Option ℕ) (bases : List (Option ℕ)) (j : ℕ) → slice_index_or (base_before b bases) (suc j) None ≡ slice_index_or bases j None
later_base None [] j = nothing_at (suc j) ∙ sym (nothing_at j)
later_base None (x ∷ xs) j = refl
later_base (Some v) bases j = refl

pub bases_at : (arrays : List Array) (j : ℕ) → slice_index_or (bases_in arrays) j None ≡ base_at arrays j
bases_at [] zero = refl
bases_at [] (suc j) = refl
bases_at (a ∷ arrays) zero = first_base a.base (bases_in arrays)
bases_at (a ∷ arrays) (suc j) = later_base a.base (bases_in arrays) j ∙ bases_at arrays j

abbrev no_arrays : List Array
no_arrays = []

nothing_there : (j : ℕ) → slice_get no_arrays j ≡ None
nothing_there zero = refl
nothing_there (suc j) = refl

pub behind : (arrays : List Array) (n j : ℕ) → slice_get (drop n arrays) j ≡ slice_get arrays (n + j)
behind arrays zero j = let e : 0 + j ≡ j = omega arith in ap (slice_get arrays) (sym e)
behind [] (suc n) j = nothing_there j ∙ sym (nothing_there (suc n + j))
behind (a ∷ arrays) (suc n) j = let e : suc n + j ≡ suc (n + j) = omega arith in behind arrays n j ∙ ap (slice_get (a ∷ arrays)) (sym e)

given_is : (a : ℕ) (o : Option Array) → has_base (array_of a o) ≡ is_given (base_of o)
given_is a None = refl
given_is a (Some array) = refl

bases_aligned : (globals count : ℕ) (arrays : List Array) (passed : List (Option ℕ)) → Holds count (bases_in (drop globals arrays)) passed → Aligned globals arrays passed
bases_aligned globals count arrays passed h j =
    given_is (globals + j) (slice_get arrays (globals + j))
    ∙ ap (λ o. is_given (base_of o)) (sym (behind arrays globals j))
    ∙ ap is_given (sym (bases_at (drop globals arrays) j))
    ∙ h.aligned j

-- the arrays of a function that is entered with these spots stand apart
pub entered_apart : (globals count : ℕ) (arrays : List Array) (values : ℕ → Content) (passed : List (Option ℕ)) → GlobalsFirst globals arrays → globals ≤ count → spots_held count values (bases_in (drop globals arrays)) ≡ Some passed → StandApart arrays (spot_in globals passed count)
entered_apart globals count arrays values passed first le e =
    let h : Holds count (bases_in (drop globals arrays)) passed = spots_hold count values (bases_in (drop globals arrays)) passed e in
    passed_apart arrays globals count passed first le h.below (bases_aligned globals count arrays passed h)

-- ---- no bases

-- no array has a base
abbrev pub Bare : List Array → Type 0
Bare arrays = (i : ℕ) (array : Array) → slice_get arrays i ≡ Some array → array.base ≡ None

or_false : (a b : Bool) → (a || b) ≡ false → (a ≡ false) × (b ≡ false)
or_false true b h = absurd (false≢true (sym h))
or_false false b h = (refl, h)

not_given : (o : Option ℕ) → is_given o ≡ false → o ≡ None
not_given None h = refl
not_given (Some v) h = absurd (false≢true (sym h))

pub bare_by : (arrays : List Array) → list_any has_base arrays ≡ false → Bare arrays
bare_by [] h i array e = absurd (cc)
bare_by (a ∷ arrays) h zero array e = let q : a ≡ array = cc in ap (λ x. x.base) (sym q) ∙ not_given a.base (or_false (has_base a) (list_any has_base arrays) h).0
bare_by (a ∷ arrays) h (suc i) array e = bare_by arrays (or_false (has_base a) (list_any has_base arrays) h).1 i array e

pub bare_behind : (n : ℕ) (arrays : List Array) → Bare arrays → Bare (drop n arrays)
bare_behind n arrays f i array e = f (n + i) array (sym (behind arrays n i) ∙ e)

pub no_bases_in : (arrays : List Array) → Bare arrays → bases_in arrays ≡ []
no_bases_in [] f = refl
no_bases_in (a ∷ arrays) f = ap (λ b. base_before b (bases_in arrays)) (f 0 a refl) ∙ ap (base_before None) (no_bases_in arrays (λ i array e. f (suc i) array e))

pub all_words_in : (arrays : List Array) → Bare arrays → words_in arrays ≡ map (λ a. a.words) arrays
all_words_in [] f = refl
all_words_in (a ∷ arrays) f = ap (λ b. words_before b a.words (words_in arrays)) (f 0 a refl) ∙ ap (λ ws. a.words ∷ ws) (all_words_in arrays (λ i array e. f (suc i) array e))

-- a function without bases is entered with nothing passed
pub enters_bare : (g : ℕ) (body : Body) (arguments : List ℤ) (s : State) (waiting : List Frame) → body.bases ≡ [] →
    enters g (Some body) arguments s waiting ≡ On (record { function = g; block = 0; passed = []; base = length s.arrays; state = entered body arguments s; waiting = waiting })
enters_bare g body arguments s waiting e = ap (λ bases. enters_passed g body arguments s waiting (spots_held (length s.arrays) (at_entry body.parameters arguments) bases)) e

-- ---- globals
pub in_at : {A : Type 0} (xs : List A) (i : ℕ) (x : A) → slice_get xs i ≡ Some x → IsIn x xs
in_at [] zero x e = absurd (cc)
in_at [] (suc i) x e = absurd (cc)
in_at (y ∷ ys) zero x e = inl (let q : y ≡ x = cc in sym q)
in_at (y ∷ ys) (suc i) x e = inr (in_at ys i x e)

found : {A : Type 0} (xs : List A) (i : ℕ) → i < length xs → (x : A) × (slice_get xs i ≡ Some x)
found xs i h = elim (slice_get_cases xs i).1 [ inl a ↦ (a.0, a.2) | inr b ↦ let l = b.0 in absurd (omega arith) ]

-- its globals are flagged
pub globals_first : (flow : Flow) → SoundFlow flow → HasGlobalsFirst flow
globals_first flow s f g e a l =
    let x = found flow.globals a l in
    let it = s.globals g a x.0 (in_at flow.functions f g e) x.1 in
    ap (λ o. (array_of a o).global) it.is ∙ it.global

-- worked rows: two arrays behind a global have a base, an own one stands between them

abbrev bare : ℕ → Array
bare words = record { words = words; global = false; named = 0; base = None }

abbrev handed : ℕ → Array
handed v = record { words = 0; global = false; named = 0; base = Some v }

bases_are : bases_in (handed 7 ∷ bare 3 ∷ handed 9 ∷ bare 5 ∷ []) ≡ Some 7 ∷ None ∷ Some 9 ∷ []
bases_are = refl

words_are : words_in (handed 7 ∷ bare 3 ∷ handed 9 ∷ bare 5 ∷ []) ≡ 3 ∷ 5 ∷ []
words_are = refl

all_held : spots_held 4 (λ v. Some (pos 3)) (Some 7 ∷ None ∷ Some 9 ∷ []) ≡ Some (Some 3 ∷ None ∷ Some 3 ∷ [])
all_held = refl

one_outside : spots_held 3 (λ v. Some (pos 3)) (Some 7 ∷ None ∷ Some 9 ∷ []) ≡ None
one_outside = refl
