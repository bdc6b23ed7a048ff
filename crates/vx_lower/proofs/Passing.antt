-- What is passed to a function: its arguments in the values that hold them, and where the arrays stand that it sees.
use Rattle.std.proofs.Common.{◌≡◌, ℕ, zero, suc, ◌+◌, ◌-◌, ◌*◌, ◌<◌, ◌≤◌, ℤ, pos, Bool, true, false, cond, ◌||◌, List, [], ◌∷◌, ◌++◌, length, map, drop, slice_index_or, Option, Some, None, refl, sym, ap, ◌∙◌, inl, inr, arith, append_assoc}
use Rattle.std.specs.Prelude.{slice_get, nat_lt, nat_eq}
use Rattle.std.proofs.lemmas.Bool.{cases_lt, ne_eqb, eqb-true}
use Rattle.std.proofs.lemmas.List.{length-map, length-append}
use Rattle.std.proofs.Math.Path.{fun_ext}
use Rattle.vx_ast.specs.declared.tree.GlobalVariable.{GlobalVariable}
use Rattle.vx_ast.specs.declared.tree.Takes.{Takes}
use Rattle.vx_ast.specs.declared.tree.Takes.TheVariants.{Number as TakesNumber, Array as TakesArray}
use Rattle.vx_ast.specs.Tree.{Function, Program}
use Rattle.vx_ast.specs.Meaning.{Argument, NumberArgument, ArrayArgument, numbers_given, arrays_given, spot_behind as place_behind, spot_in as place_in}
use Rattle.vx_ast.specs.Accepted.{is_in, below, global_words, same_take, same_takes, numbers_among, arrays_among, arrays_taken}
use Rattle.vx_flow.specs.Effects.{Content}
use Rattle.vx_flow.specs.Meaning.{at_entry, spot_behind, spot_in, spot_held, with_spot, spots_held, base_before, bases_in, words_in}
use Rattle.vx_lower.specs.declared.seen.Seen.{Seen}
use Rattle.vx_lower.specs.declared.seen.Seen.TheVariants.{GlobalArray, OwnArray, Handed}
use Rattle.vx_lower.specs.Seen.{seen_at, arrays_from}
use Rattle.vx_lower.specs.Lowered.{values_for, handed_from, global_seen, arrays_seen, sees_of}
use Rattle.vx_lower.proofs.Base.{same_eq, is_below, and_one, and_two}
use Rattle.vx_lower.proofs.Values.{takes_given, passed_by}
use Rattle.vx_lower.proofs.Facts.{front_item, back_item}

-- kinds

pub same_kinds : (xs ys : List Takes) → same_takes xs ys ≡ true → xs ≡ ys
same_kinds [] [] e = refl
same_kinds [] (y ∷ ys) e = absurd (cc)
same_kinds (x ∷ xs) [] e = absurd (cc)
same_kinds (x ∷ xs) (y ∷ ys) e = ap (λ z. z ∷ xs) (same x y (and_one (same_take x y) (same_takes xs ys) e)) ∙ ap (λ zs. y ∷ zs) (same_kinds xs ys (and_two (same_take x y) (same_takes xs ys) e))
  where
    same : (x y : Takes) → same_take x y ≡ true → x ≡ y
    same TakesNumber TakesNumber e = refl
    same TakesNumber TakesArray e = absurd (cc)
    same TakesArray TakesNumber e = absurd (cc)
    same TakesArray TakesArray e = refl

pub count_numbers : (args : List Argument) → length (numbers_given args) ≡ numbers_among (takes_given args)
count_numbers [] = refl
count_numbers (NumberArgument z ∷ args) = ap suc (count_numbers args)
count_numbers (ArrayArgument k ∷ args) = count_numbers args

pub count_arrays : (args : List Argument) → length (arrays_given args) ≡ arrays_among (takes_given args)
count_arrays [] = refl
count_arrays (NumberArgument z ∷ args) = count_arrays args
count_arrays (ArrayArgument k ∷ args) = ap suc (count_arrays args)

-- values at the entry

past_value : (v u : ℕ) (n : ℤ) (qs : List ℕ) (ns : List ℤ) → (u ≡ v → ⊥) → at_entry (v ∷ qs) (n ∷ ns) u ≡ at_entry qs ns u
past_value v u n qs ns d = ap (λ b. cond b (Some n) (at_entry qs ns u)) (ne_eqb u v d)

first_is : (v : ℕ) (n : ℤ) (qs : List ℕ) (ns : List ℤ) → at_entry (v ∷ qs) (n ∷ ns) v ≡ Some n
first_is v n qs ns = ap (λ b. cond b (Some n) (at_entry qs ns v)) (same_eq v)

pub entry_number : (x v : ℕ) (shapes : List ℕ) (args : List Argument) → x + numbers_among (takes_given args) ≤ v → (k : ℕ) → k < numbers_among (takes_given args) → at_entry (values_for x v (takes_given args)) (passed_by shapes args) (x + k) ≡ Some (slice_index_or (numbers_given args) k (pos 0))
entry_number x v shapes [] le k h = absurd (omega arith)
entry_number x v shapes (NumberArgument z ∷ args) le zero h = let e : x + 0 ≡ x = omega arith in ap (at_entry (values_for x v (takes_given (NumberArgument z ∷ args))) (passed_by shapes (NumberArgument z ∷ args))) e ∙ first_is x z (values_for (suc x) v (takes_given args)) (passed_by shapes args)
entry_number x v shapes (NumberArgument z ∷ args) le (suc k) h =
    let e : x + suc k ≡ suc x + k = omega arith in
    past_value x (x + suc k) z (values_for (suc x) v (takes_given args)) (passed_by shapes args) (λ q. omega arith)
    ∙ ap (at_entry (values_for (suc x) v (takes_given args)) (passed_by shapes args)) e
    ∙ entry_number (suc x) v shapes args (omega arith) k (omega arith)
entry_number x v shapes (ArrayArgument s ∷ args) le k h =
    let size = slice_index_or shapes s 0 in
    let rest = values_for x (suc (suc v)) (takes_given args) in
    past_value v (x + k) (pos s) (suc v ∷ rest) (pos size ∷ passed_by shapes args) (λ q. omega arith)
    ∙ past_value (suc v) (x + k) (pos size) rest (passed_by shapes args) (λ q. omega arith)
    ∙ entry_number x (suc (suc v)) shapes args (omega arith) k h

-- what holds where array j stands, and how many words it has
pub record EntryArray (x v : ℕ) (shapes : List ℕ) (args : List Argument) (j : ℕ) : Type 0 where
  pub base : at_entry (values_for x v (takes_given args)) (passed_by shapes args) (v + 2 * j) ≡ Some (pos (slice_index_or (arrays_given args) j 0))
  pub size : at_entry (values_for x v (takes_given args)) (passed_by shapes args) (suc (v + 2 * j)) ≡ Some (pos (slice_index_or shapes (slice_index_or (arrays_given args) j 0) 0))

pub entry_array : (x v : ℕ) (shapes : List ℕ) (args : List Argument) → x + numbers_among (takes_given args) ≤ v → (j : ℕ) → j < arrays_among (takes_given args) → EntryArray x v shapes args j
entry_array x v shapes [] le j h = absurd (omega arith)
entry_array x v shapes (NumberArgument z ∷ args) le j h =
    let y = entry_array (suc x) v shapes args (omega arith) j h in
    record {
      base = past_value x (v + 2 * j) z (values_for (suc x) v (takes_given args)) (passed_by shapes args) (λ q. omega arith) ∙ y.base;
      size = past_value x (suc (v + 2 * j)) z (values_for (suc x) v (takes_given args)) (passed_by shapes args) (λ q. omega arith) ∙ y.size;
    }
entry_array x v shapes (ArrayArgument s ∷ args) le zero h =
    let words = slice_index_or shapes s 0 in
    let rest = values_for x (suc (suc v)) (takes_given args) in
    let e : v + 2 * 0 ≡ v = omega arith in
    record {
      base = ap (at_entry (v ∷ suc v ∷ rest) (pos s ∷ pos words ∷ passed_by shapes args)) e ∙ first_is v (pos s) (suc v ∷ rest) (pos words ∷ passed_by shapes args);
      size = ap (λ z. at_entry (v ∷ suc v ∷ rest) (pos s ∷ pos words ∷ passed_by shapes args) (suc z)) e ∙ past_value v (suc v) (pos s) (suc v ∷ rest) (pos words ∷ passed_by shapes args) (λ q. omega arith) ∙ first_is (suc v) (pos words) rest (passed_by shapes args);
    }
entry_array x v shapes (ArrayArgument s ∷ args) le (suc j) h =
    let words = slice_index_or shapes s 0 in
    let rest = values_for x (suc (suc v)) (takes_given args) in
    let y = entry_array x (suc (suc v)) shapes args (omega arith) j (omega arith) in
    let e : v + 2 * suc j ≡ suc (suc v) + 2 * j = omega arith in
    record {
      base = past_value v (v + 2 * suc j) (pos s) (suc v ∷ rest) (pos words ∷ passed_by shapes args) (λ q. omega arith) ∙ past_value (suc v) (v + 2 * suc j) (pos words) rest (passed_by shapes args) (λ q. omega arith) ∙ ap (at_entry rest (passed_by shapes args)) e ∙ y.base;
      size = past_value v (suc (v + 2 * suc j)) (pos s) (suc v ∷ rest) (pos words ∷ passed_by shapes args) (λ q. omega arith) ∙ past_value (suc v) (suc (v + 2 * suc j)) (pos words) rest (passed_by shapes args) (λ q. omega arith) ∙ ap (λ z. at_entry rest (passed_by shapes args) (suc z)) e ∙ y.size;
    }

-- the arrays of a graph

pub drop_globals : (place : ℕ) (gs : List GlobalVariable) (xs : List Seen) → drop (length gs) (arrays_from place (map global_seen gs ++ xs)) ≡ arrays_from (place + length gs) xs
drop_globals place [] xs = let e : place ≡ place + 0 = omega arith in ap (λ k. arrays_from k xs) e
drop_globals place (g ∷ gs) xs = let e : suc place + length gs ≡ place + suc (length gs) = omega arith in drop_globals (suc place) gs xs ∙ ap (λ k. arrays_from k xs) e

abbrev pub handed_bases : (value count : ℕ) → List ℕ
handed_bases v zero = []
handed_bases v (suc n) = v ∷ handed_bases (suc (suc v)) n

own_bases : (place : ℕ) (ns : List ℕ) → bases_in (arrays_from place (map OwnArray ns)) ≡ []
own_bases place [] = refl
own_bases place (n ∷ ns) = ap (base_before None) (own_bases (suc place) ns)

own_words : (place : ℕ) (ns : List ℕ) → words_in (arrays_from place (map OwnArray ns)) ≡ ns
own_words place [] = refl
own_words place (n ∷ ns) = ap (λ z. n ∷ z) (own_words (suc place) ns)

pub bases_are : (place v n : ℕ) (ns : List ℕ) → bases_in (arrays_from place (handed_from v n ++ map OwnArray ns)) ≡ map Some (handed_bases v n)
bases_are place v zero ns = own_bases place ns
bases_are place v (suc n) ns = ap (λ z. Some v ∷ z) (bases_are (suc place) (suc (suc v)) n ns)

pub words_are : (place v n : ℕ) (ns : List ℕ) → words_in (arrays_from place (handed_from v n ++ map OwnArray ns)) ≡ ns
words_are place v zero ns = own_words place ns
words_are place v (suc n) ns = words_are (suc place) (suc (suc v)) n ns

pub behind_globals : (p : Program) (f : Function) → drop (length p.globals) (arrays_from 0 (arrays_seen p f)) ≡ arrays_from (0 + length p.globals) (handed_from f.scalars (arrays_taken f) ++ map OwnArray f.arrays)
behind_globals p f = ap (λ z. drop (length p.globals) (arrays_from 0 z)) (append_assoc (map global_seen p.globals) (handed_from f.scalars (arrays_taken f)) (map OwnArray f.arrays)) ∙ drop_globals 0 p.globals (handed_from f.scalars (arrays_taken f) ++ map OwnArray f.arrays)

-- spots

pub spots_are : (count v : ℕ) (values : ℕ → Content) (ks : List ℕ) → ((j : ℕ) → j < length ks → values (v + 2 * j) ≡ Some (pos (slice_index_or ks j 0))) → ((j : ℕ) → j < length ks → slice_index_or ks j 0 < count) → spots_held count values (map Some (handed_bases v (length ks))) ≡ Some (map Some ks)
spots_are count v values [] holds there = refl
spots_are count v values (k ∷ ks) holds there =
    let e : v ≡ v + 2 * 0 = omega arith in
    let rest = spots_held count values (map Some (handed_bases (suc (suc v)) (length ks))) in
    let at : values v ≡ Some (pos k) = ap values e ∙ holds 0 (omega arith) in
    ap (λ x. with_spot (spot_held count x) rest) at
    ∙ ap (λ b. with_spot (cond b (Some k) None) rest) (is_below k count (there 0 (omega arith)))
    ∙ ap (with_spot (Some k)) (spots_are count (suc (suc v)) values ks (λ j l. let q : suc (suc v) + 2 * j ≡ v + 2 * suc j = omega arith in ap values q ∙ holds (suc j) (omega arith)) (λ j l. there (suc j) (omega arith)))

same_behind : (ks : List ℕ) (base k : ℕ) → spot_behind (map Some ks) base k ≡ place_behind ks base k
same_behind [] base k = refl
same_behind (s ∷ ks) base zero = refl
same_behind (s ∷ ks) base (suc k) = same_behind ks base k

pub same_spots : (g : ℕ) (ks : List ℕ) (base : ℕ) → spot_in g (map Some ks) base ≡ place_in g ks base
same_spots g ks base = fun_ext (λ a. ap (λ z. cond (nat_lt a g) a z) (same_behind ks base (a - g)))

handed_behind : (ks : List ℕ) (base j : ℕ) → j < length ks → spot_behind (map Some ks) base j ≡ slice_index_or ks j 0
handed_behind [] base j h = absurd (omega arith)
handed_behind (k ∷ ks) base zero h = refl
handed_behind (k ∷ ks) base (suc j) h = handed_behind ks base j (omega arith)

own_behind : (ks : List ℕ) (base k : ℕ) → spot_behind (map Some ks) base (length ks + k) ≡ base + k
own_behind [] base k = let e : 0 + k ≡ k = omega arith in ap (λ z. base + z) e
own_behind (s ∷ ks) base k = let e : suc (length ks) + k ≡ suc (length ks + k) = omega arith in ap (spot_behind (map Some (s ∷ ks)) base) e ∙ own_behind ks base k

pub spot_past : (g : ℕ) (passed : List (Option ℕ)) (base k : ℕ) → spot_in g passed base (g + k) ≡ spot_behind passed base k
spot_past g passed base k =
    let b : nat_lt (g + k) g ≡ false = grind arith in
    let e : g + k - g ≡ k = omega arith in
    ap (λ b. cond b (g + k) (spot_behind passed base (g + k - g))) b ∙ ap (spot_behind passed base) e

pub spot_handed : (g : ℕ) (ks : List ℕ) (base j : ℕ) → j < length ks → spot_in g (map Some ks) base (g + j) ≡ slice_index_or ks j 0
spot_handed g ks base j h = spot_past g (map Some ks) base j ∙ handed_behind ks base j h

pub spot_own : (g : ℕ) (ks : List ℕ) (base k : ℕ) → spot_in g (map Some ks) base (g + (length ks + k)) ≡ base + k
spot_own g ks base k = spot_past g (map Some ks) base (length ks + k) ∙ own_behind ks base k

-- which array it is that a function sees

pub data Sees_as (p : Program) (f : Function) (a : ℕ) : Type 0 where
  a_global : a < length p.globals → seen_at (sees_of p f) a ≡ GlobalArray (slice_index_or (map global_words p.globals) a 0) → Sees_as p f a
  a_handed : (j : ℕ) → j < arrays_taken f → a ≡ length p.globals + j → seen_at (sees_of p f) a ≡ Handed (f.scalars + 2 * j) (suc (f.scalars + 2 * j)) → Sees_as p f a
  an_own : (k : ℕ) → a ≡ length p.globals + (arrays_taken f + k) → seen_at (sees_of p f) a ≡ OwnArray (slice_index_or f.arrays k 0) → Sees_as p f a

globals_at : (gs : List GlobalVariable) (a : ℕ) → a < length gs → slice_index_or (map global_seen gs) a (OwnArray 0) ≡ GlobalArray (slice_index_or (map global_words gs) a 0)
globals_at [] a h = absurd (omega arith)
globals_at (g ∷ gs) zero h = refl
globals_at (g ∷ gs) (suc a) h = globals_at gs a (omega arith)

handed_at : (v n j : ℕ) → j < n → slice_index_or (handed_from v n) j (OwnArray 0) ≡ Handed (v + 2 * j) (suc (v + 2 * j))
handed_at v zero j h = absurd (omega arith)
handed_at v (suc n) zero h = let e : v ≡ v + 2 * 0 = omega arith in ap (λ z. Handed z (suc z)) e
handed_at v (suc n) (suc j) h = let e : suc (suc v) + 2 * j ≡ v + 2 * suc j = omega arith in handed_at (suc (suc v)) n j (omega arith) ∙ ap (λ z. Handed z (suc z)) e

own_at : (ns : List ℕ) (k : ℕ) → slice_index_or (map OwnArray ns) k (OwnArray 0) ≡ OwnArray (slice_index_or ns k 0)
own_at [] k = refl
own_at (n ∷ ns) zero = refl
own_at (n ∷ ns) (suc k) = own_at ns k

pub length_handed : (v n : ℕ) → length (handed_from v n) ≡ n
length_handed v zero = refl
length_handed v (suc n) = ap suc (length_handed (suc (suc v)) n)

pub length_seen : (p : Program) (f : Function) → length (arrays_seen p f) ≡ length p.globals + (arrays_taken f + length f.arrays)
length_seen p f =
    let a = length-append (map global_seen p.globals ++ handed_from f.scalars (arrays_taken f)) (map OwnArray f.arrays) in
    let b = length-append (map global_seen p.globals) (handed_from f.scalars (arrays_taken f)) in
    let c = length-map p.globals global_seen in
    let d = length_handed f.scalars (arrays_taken f) in
    let e = length-map f.arrays OwnArray in
    omega arith

pub sees_as : (p : Program) (f : Function) (a : ℕ) → Sees_as p f a
sees_as p f a = elim (cases_lt a (length p.globals)) [
  | inl h ↦ a_global h (at_front h)
  | inr h ↦ by (a - length p.globals) (omega arith)
]
  where
    gs : List Seen
    gs = map global_seen p.globals

    hs : List Seen
    hs = handed_from f.scalars (arrays_taken f)

    os : List Seen
    os = map OwnArray f.arrays

    at_front : a < length p.globals → slice_index_or ((map global_seen p.globals ++ handed_from f.scalars (arrays_taken f)) ++ map OwnArray f.arrays) a (OwnArray 0) ≡ GlobalArray (slice_index_or (map global_words p.globals) a 0)
    at_front h =
        let l = length-map p.globals global_seen in
        ap (λ z. slice_index_or z a (OwnArray 0)) (append_assoc (map global_seen p.globals) (handed_from f.scalars (arrays_taken f)) (map OwnArray f.arrays))
        ∙ front_item (OwnArray 0) (map global_seen p.globals) (handed_from f.scalars (arrays_taken f) ++ map OwnArray f.arrays) a (omega arith) ∙ globals_at p.globals a h

    behind : (i : ℕ) → slice_index_or ((map global_seen p.globals ++ handed_from f.scalars (arrays_taken f)) ++ map OwnArray f.arrays) (length p.globals + i) (OwnArray 0) ≡ slice_index_or (handed_from f.scalars (arrays_taken f) ++ map OwnArray f.arrays) i (OwnArray 0)
    behind i =
        let l = length-map p.globals global_seen in
        ap (λ z. slice_index_or z (length p.globals + i) (OwnArray 0)) (append_assoc (map global_seen p.globals) (handed_from f.scalars (arrays_taken f)) (map OwnArray f.arrays))
        ∙ ap (λ k. slice_index_or (map global_seen p.globals ++ (handed_from f.scalars (arrays_taken f) ++ map OwnArray f.arrays)) (k + i) (OwnArray 0)) (sym l)
        ∙ back_item (OwnArray 0) (map global_seen p.globals) (handed_from f.scalars (arrays_taken f) ++ map OwnArray f.arrays) i

    by : (i : ℕ) → a ≡ length p.globals + i → Sees_as p f a
    by i e = elim (cases_lt i (arrays_taken f)) [
      | inl h ↦
          let l = length_handed f.scalars (arrays_taken f) in
          a_handed i h e (ap (λ z. slice_index_or (arrays_seen p f) z (OwnArray 0)) e ∙ behind i ∙ front_item (OwnArray 0) (handed_from f.scalars (arrays_taken f)) (map OwnArray f.arrays) i (omega arith) ∙ handed_at f.scalars (arrays_taken f) i h)
      | inr h ↦
          let l = length_handed f.scalars (arrays_taken f) in
          let k = i - arrays_taken f in
          let q : i ≡ arrays_taken f + k = omega arith in
          let r : a ≡ length p.globals + (arrays_taken f + k) = omega arith in
          an_own k r (ap (λ z. slice_index_or (arrays_seen p f) z (OwnArray 0)) e ∙ behind i ∙ ap (λ z. slice_index_or (handed_from f.scalars (arrays_taken f) ++ map OwnArray f.arrays) z (OwnArray 0)) q ∙ ap (λ z. slice_index_or (handed_from f.scalars (arrays_taken f) ++ map OwnArray f.arrays) (z + k) (OwnArray 0)) (sym l) ∙ back_item (OwnArray 0) (handed_from f.scalars (arrays_taken f)) (map OwnArray f.arrays) k ∙ own_at f.arrays k)
    ]

-- the array parameters are in force at the start
pub in_handed : (g n a : ℕ) → is_in a (map (λ k. g + k) (below n)) ≡ true → (j : ℕ) × (j < n) × (a ≡ g + j)
in_handed g zero a i = absurd (cc)
in_handed g (suc n) a i = by (λ j. in_handed g n a j) (nat_eq a (g + n)) refl
  where
    by : (is_in a (map (λ k. g + k) (below n)) ≡ true → (j : ℕ) × (j < n) × (a ≡ g + j)) → (t : Bool) → nat_eq a (g + n) ≡ t → (j : ℕ) × (j < suc n) × (a ≡ g + j)
    by f true e = let q = eqb-true a (g + n) e in (n, omega arith, q)
    by f false e = let y = f (sym (ap (λ t. t || is_in a (map (λ k. g + k) (below n))) e) ∙ i) in let l = y.1 in (y.0, omega arith, y.2)

pub there_is : (xs : List Seen) (a : ℕ) (d : Seen) → a < length xs → slice_get xs a ≡ Some (slice_index_or xs a d)
there_is [] a d h = absurd (omega arith)
there_is (x ∷ xs) zero d h = refl
there_is (x ∷ xs) (suc a) d h = there_is xs a d (omega arith)
