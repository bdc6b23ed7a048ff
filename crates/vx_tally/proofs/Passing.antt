-- What is passed as a function is entered, one array after the other.
use Rattle.std.proofs.Common.{◌≡◌, ℕ, zero, suc, ◌+◌, ◌-◌, ◌<◌, ◌≤◌, Bool, true, false, List, [], ◌∷◌, ◌++◌, length, map, drop, take, get_or, Option, Some, None, refl, sym, ap, ◌∙◌, append-nil, append_assoc, arith}
use Rattle.std.specs.Option.{option_map}
use Rattle.std.proofs.lemmas.Bool.{false≢true}
use Rattle.std.proofs.lemmas.List.{drop_all, drop_more, map_more}
use Rattle.vx_flow.specs.declared.graph.Array.{Array}
use Rattle.vx_flow.specs.Effects.{Content}
use Rattle.vx_flow.specs.Sound.{has_base, is_given}
use Rattle.vx_flow.specs.Meaning.{undefined, base_before, bases_in, words_before, words_in, spot_held, with_spot, without_spot, spots_held}
use Rattle.vx_tally.specs.Machine.{all_bases, entry_held, undefined_all}

-- ---- the list, one more at its end

no_base : (o : Option ℕ) → is_given o ≡ false → o ≡ None
no_base None h = refl
no_base (Some v) h = absurd (false≢true (sym h))

take_next : {A : Type 0} (xs : List A) (i : ℕ) (d : A) → i < length xs → take (i + 1) xs ≡ take i xs ++ get_or xs i d ∷ []
take_next [] i d h = absurd (omega arith)
take_next (x ∷ xs) zero d h = refl
take_next (x ∷ xs) (suc i) d h =
    let e : suc i + 1 ≡ suc (i + 1) = omega arith in
    ap (λ k. take k (x ∷ xs)) e ∙ ap (λ ys. x ∷ ys) (take_next xs i d (omega arith))

base_behind : (b c : Option ℕ) (v : ℕ) (bases : List (Option ℕ)) → c ≡ Some v → base_before b (bases ++ c ∷ []) ≡ b ∷ bases ++ c ∷ []
base_behind None c v [] e = refl
base_behind None c v (x ∷ xs) e = refl
base_behind (Some w) c v bases e = refl

-- up to an array with a base all bases count

pub bases_with : (xs : List Array) (x : Array) (v : ℕ) → x.base ≡ Some v → bases_in (xs ++ x ∷ []) ≡ all_bases (xs ++ x ∷ [])
bases_with [] x v h = ap (λ b. base_before b []) h ∙ ap (λ b. b ∷ []) (sym h)
bases_with (y ∷ ys) x v h =
    ap (base_before y.base) (bases_with ys x v h ∙ all_more ys) ∙ base_behind y.base x.base v (all_bases ys) h ∙ ap (λ bs. y.base ∷ bs) (sym (all_more ys))
  where
    all_more : (zs : List Array) → all_bases (zs ++ x ∷ []) ≡ all_bases zs ++ x.base ∷ []
    all_more [] = refl
    all_more (z ∷ zs) = ap (λ bs. z.base ∷ bs) (all_more zs)

-- and one without a base counts only in front of another

pub bases_without : (xs : List Array) (x : Array) → x.base ≡ None → bases_in (xs ++ x ∷ []) ≡ bases_in xs
bases_without [] x h = ap (λ b. base_before b []) h
bases_without (y ∷ ys) x h = ap (base_before y.base) (bases_without ys x h)

given_at : (o : Option ℕ) → is_given o ≡ true → (v : ℕ) × (o ≡ Some v)
given_at None h = absurd (false≢true h)
given_at (Some v) h = (v, refl)

-- so many arrays stand up to the last one that has a base, of the first i
pub record BasedIn (arrays : List Array) (i count : ℕ) : Type 0 where
  pub within : count ≤ i
  pub bases : all_bases (take count arrays) ≡ bases_in (take i arrays)

pub based_none : (arrays : List Array) → BasedIn arrays 0 0
based_none arrays = record { within = omega arith; bases = refl }

pub based_here : (arrays : List Array) (i : ℕ) (d : Array) → i < length arrays → has_base (get_or arrays i d) ≡ true → BasedIn arrays (i + 1) (i + 1)
based_here arrays i d h b =
    let x = get_or arrays i d in
    let g = given_at x.base b in
    record { within = omega arith; bases = ap all_bases (take_next arrays i d h) ∙ sym (bases_with (take i arrays) x g.0 g.1) ∙ ap bases_in (sym (take_next arrays i d h)) }

pub based_past : (arrays : List Array) (i count : ℕ) (d : Array) → i < length arrays → has_base (get_or arrays i d) ≡ false → BasedIn arrays i count → BasedIn arrays (i + 1) count
based_past arrays i count d h b it =
    let x = get_or arrays i d in
    let l : count ≤ i = it.within in
    record { within = omega arith; bases = it.bases ∙ sym (bases_without (take i arrays) x (no_base x.base b)) ∙ ap bases_in (sym (take_next arrays i d h)) }

-- ---- spots, one after the other

-- these spots, and then those
abbrev pub with_spots : List (Option ℕ) → Option (List (Option ℕ)) → Option (List (Option ℕ))
with_spots spots None = None
with_spots spots (Some rest) = Some (spots ++ rest)

abbrev with_entry : Option (Option ℕ) → Option (List (Option ℕ)) → Option (List (Option ℕ))
with_entry None o = None
with_entry (Some e) o = with_spots (e ∷ []) o

spot_first : (k : Option ℕ) (o : Option (List (Option ℕ))) → with_spot k o ≡ with_entry (option_map Some k) o
spot_first None o = refl
spot_first (Some k) None = refl
spot_first (Some k) (Some rest) = refl

none_first : (o : Option (List (Option ℕ))) → without_spot o ≡ with_entry (Some None) o
none_first None = refl
none_first (Some rest) = refl

held_first : (count : ℕ) (values : ℕ → Content) (b : Option ℕ) (bases : List (Option ℕ)) → spots_held count values (b ∷ bases) ≡ with_entry (entry_held count values b) (spots_held count values bases)
held_first count values None bases = none_first (spots_held count values bases)
held_first count values (Some v) bases = spot_first (spot_held count (values v)) (spots_held count values bases)

spots_front : (spots : List (Option ℕ)) (e : Option ℕ) (o : Option (List (Option ℕ))) → with_spots spots (with_spots (e ∷ []) o) ≡ with_spots (spots ++ e ∷ []) o
spots_front spots e None = refl
spots_front spots e (Some rest) = ap Some (sym (append_assoc spots (e ∷ []) rest))

pub spots_turn : (count : ℕ) (values : ℕ → Content) (arrays : List Array) (i : ℕ) (d : Array) (e : Option ℕ) (spots now : List (Option ℕ)) (o : Option (List (Option ℕ))) → i < length arrays → o ≡ with_spots spots (spots_held count values (all_bases (drop i arrays))) →
    entry_held count values (get_or arrays i d).base ≡ Some e → now ≡ spots ++ e ∷ [] → o ≡ with_spots now (spots_held count values (all_bases (drop (i + 1) arrays)))
spots_turn count values arrays i d e spots now o h k f p =
    let rest = spots_held count values (all_bases (drop (i + 1) arrays)) in
    k ∙ ap (λ xs. with_spots spots (spots_held count values (all_bases xs))) (drop_more arrays i d h)
    ∙ ap (with_spots spots) (held_first count values (get_or arrays i d).base (all_bases (drop (i + 1) arrays)) ∙ ap (λ q. with_entry q rest) f)
    ∙ spots_front spots e rest ∙ ap (λ q. with_spots q rest) (sym p)

pub spots_stop : (count : ℕ) (values : ℕ → Content) (arrays : List Array) (i : ℕ) (d : Array) (spots : List (Option ℕ)) (o : Option (List (Option ℕ))) → i < length arrays → o ≡ with_spots spots (spots_held count values (all_bases (drop i arrays))) →
    entry_held count values (get_or arrays i d).base ≡ None → o ≡ None
spots_stop count values arrays i d spots o h k f =
    let rest = spots_held count values (all_bases (drop (i + 1) arrays)) in
    k ∙ ap (λ xs. with_spots spots (spots_held count values (all_bases xs))) (drop_more arrays i d h)
    ∙ ap (with_spots spots) (held_first count values (get_or arrays i d).base (all_bases (drop (i + 1) arrays)) ∙ ap (λ q. with_entry q rest) f)

pub spots_end : (count : ℕ) (values : ℕ → Content) (arrays : List Array) (i : ℕ) (spots : List (Option ℕ)) (o : Option (List (Option ℕ))) → length arrays ≤ i → o ≡ with_spots spots (spots_held count values (all_bases (drop i arrays))) → o ≡ Some spots
spots_end count values arrays i spots o h k = k ∙ ap (λ xs. with_spots spots (spots_held count values (all_bases xs))) (drop_all i arrays h) ∙ ap Some (append-nil spots)

-- ---- arrays that are added, one after the other

words_more : (xs ys : List Array) → words_in (xs ++ ys) ≡ words_in xs ++ words_in ys
words_more [] ys = refl
words_more (x ∷ xs) ys = ap (words_before x.base x.words) (words_more xs ys) ∙ before x.base x.words
  where
    before : (b : Option ℕ) (n : ℕ) → words_before b n (words_in xs ++ words_in ys) ≡ words_before b n (words_in xs) ++ words_in ys
    before None n = refl
    before (Some v) n = refl

undefined_more : (xs ys : List ℕ) → map undefined (xs ++ ys) ≡ map undefined xs ++ map undefined ys
undefined_more [] ys = refl
undefined_more (x ∷ xs) ys = ap (λ rows. undefined x ∷ rows) (undefined_more xs ys)

-- one that has a base adds nothing
pub adds_none : (array : Array) → has_base array ≡ true → undefined_all (array ∷ []) ≡ []
adds_none array h = let g = given_at array.base h in ap (λ b. map undefined (words_before b array.words [])) g.1

pub adds_one : (array : Array) (cells : List Content) → has_base array ≡ false → cells ≡ undefined array.words → undefined_all (array ∷ []) ≡ cells ∷ []
adds_one array cells h e = ap (λ b. map undefined (words_before b array.words [])) (no_base array.base h) ∙ ap (λ c. c ∷ []) (sym e)

pub own_turn : (own : List Array) (i : ℕ) (d : Array) (first rows more : List (List Content)) → i < length own → rows ≡ first ++ undefined_all (take i own) → more ≡ rows ++ undefined_all (get_or own i d ∷ []) → more ≡ first ++ undefined_all (take (i + 1) own)
own_turn own i d first rows more lt e h =
    let x = get_or own i d in
    h ∙ ap (λ r. r ++ undefined_all (x ∷ [])) e ∙ append_assoc first (undefined_all (take i own)) (undefined_all (x ∷ []))
    ∙ ap (λ q. first ++ q) (sym (undefined_more (words_in (take i own)) (words_in (x ∷ []))) ∙ ap (map undefined) (sym (words_more (take i own) (x ∷ []))) ∙ ap undefined_all (sym (take_next own i d lt)))

-- worked rows: an array with base 7 holds spot 1 of two arrays, one behind it has none

abbrev bare : ℕ → Array
bare words = record { words = words; global = false; named = 0; base = None }

abbrev handed : ℕ → Array
handed v = record { words = 0; global = false; named = 0; base = Some v }

added : undefined_all (handed 7 ∷ bare 2 ∷ []) ≡ (None ∷ None ∷ []) ∷ []
added = refl
