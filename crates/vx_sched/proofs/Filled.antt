-- What the filling keeps: those that have words are closed under "comes before", and stand as the placement says.
use Rattle.std.proofs.Common.{◌≡◌, ℕ, ◌<◌, ◌≤◌, ◌⊎◌, inl, inr, ◌+◌, Bool, ◌&&◌, cond, true, false, nat_eq, Option, Some, None, List, [], ◌∷◌, ◌++◌, length, map, slice_set, sym, ◌∙◌, refl, ap, subst, arith}
use Rattle.std.proofs.lemmas.Bool.{true≢false, cases_eq, and_right, eq-eqb, ne_eqb}
use Rattle.std.proofs.lemmas.List.{get_or-set_same, get_or-set_other, length-set, length-map, get_or-map}
use Rattle.std.proofs.lemmas.List.Sums.{sum_by-cons, sum_by_push}
use Rattle.std.proofs.lemmas.Option.{same_Some, none-some, slice_get_within}
use Rattle.std.specs.List.{filter, sum_by}
use Rattle.vx_flow.specs.declared.trace.Clustered.{Clustered}
use Rattle.vx_flow.specs.declared.trace.Homes.{Homes}
use Rattle.vx_flow.specs.Walk.{numbers}
use Rattle.vx_isa.specs.Numbers.{Numbers, is_machine}
use Rattle.vx_room.specs.declared.items.ClusteredItem.{ClusteredItem}
use Rattle.vx_room.specs.Room.{has_room}
use Rattle.vx_dep.specs.declared.mode.Mode.{Mode}
use Rattle.vx_dep.specs.Delays.{Applies, AreHeights}
use Rattle.vx_dep.specs.Compensation.{word_at}
use Rattle.vx_sched.specs.Placement.{comes_before, items_at, places_in, with_earlier, IsReady, PlacedBy}
use Rattle.vx_sched.specs.Filling.{word_in, word_or_0, is_word, places_so_far, AreWithout, IsNext, IsReadySoFar, row_of, IsFirstWith, Puts, IsItem}
use Rattle.vx_sched.proofs.Totals.{Within, room_within, nothing_has_room, weight, sum_kept, sum_more, sum_at, filter_numbers, filter_twice}
use Rattle.vx_sched.proofs.Order.{applies_before, before_either, before_once, not_before, not_before_itself}

-- the operation at place o stands in word w: there is no room for it between the first word that its delays allow and w
pub record IsPlaced (c : Clustered) (m : Numbers) (homes : Homes) (mode : Mode) (height : ℕ → ℕ) (words : List (Option ℕ)) (o w : ℕ) : Type 0 where
  pub first : ℕ
  pub is : IsReadySoFar m mode c.trace words o o first
  pub after : first ≤ w
  pub tight : (v : ℕ) → first ≤ v → v < w → has_room m homes (items_at c (o ∷ filter (λ p. comes_before height p o) (places_so_far words v))) ≡ false

pub record Filled (c : Clustered) (m : Numbers) (homes : Homes) (mode : Mode) (height : ℕ → ℕ) (words : List (Option ℕ)) (rows : List (List ClusteredItem)) : Type 0 where
  pub each : length words ≡ length c.trace.ops
  -- what comes before one that has a word has one
  pub closed : (o p v : ℕ) → o < length words → comes_before height o p ≡ true → word_in words p ≡ Some v → word_in words o ≡ None → ⊥
  pub placed : (o w : ℕ) → word_in words o ≡ Some w → IsPlaced c m homes mode height words o w
  -- each row holds the items of its word, in whatever order
  pub held : (v : ℕ) (f : ClusteredItem → ℕ) → sum_by f (row_of rows v) ≡ sum_by f (items_at c (places_so_far words v))
  pub room : (v : ℕ) → has_room m homes (row_of rows v) ≡ true

with_word : (o : Option ℕ) → (o ≡ None → ⊥) → (w : ℕ) × (o ≡ Some w)
with_word None never = absurd (never refl)
with_word (Some w) never = (w, refl)

and_true : (b : Bool) → (b && true) ≡ b
and_true true = refl
and_true false = refl

keeps_none : {X : Type 0} (p : X → Bool) (xs : List X) → ((x : X) → p x ≡ false) → filter p xs ≡ []
keeps_none p [] never = refl
keeps_none p (x ∷ xs) never = ap (λ b. cond b (x ∷ filter p xs) (filter p xs)) (never x) ∙ keeps_none p xs never

-- nothing has a word yet

pub none_filled : (c : Clustered) (m : Numbers) (homes : Homes) (mode : Mode) (height : ℕ → ℕ) (words : List (Option ℕ)) → is_machine m ≡ true → AreWithout (length c.trace.ops) words → Filled c m homes mode height words []
none_filled c m homes mode height words machine none = record {
  each = none.each;
  closed = λ o p v l b e f. none-some v (sym (none.without p) ∙ e);
  placed = λ o w e. absurd (none-some w (sym (none.without o) ∙ e));
  held = λ v f. ap (λ places. sum_by f (items_at c places)) (sym (keeps_none (λ i. is_word v (word_in words i)) (numbers 0 (length words)) (λ i. ap (is_word v) (none.without i))));
  room = λ v. nothing_has_room m homes machine;
}

-- one more operation gets a word

module _ (c : Clustered) (m : Numbers) (homes : Homes) (mode : Mode) (height : ℕ → ℕ) (words : List (Option ℕ)) (rows others : List (List ClusteredItem)) (o ready w : ℕ) (item : ClusteredItem) (filled : Filled c m homes mode height words rows) (heights : AreHeights m mode c.trace height) (next : IsNext height words (length words) (Some o)) (is_ready : IsReadySoFar m mode c.trace words o o ready) (is_item : IsItem c o item) (fits : IsFirstWith m homes rows item ready w) (puts : Puts rows others w item) where
  abbrev After : List (Option ℕ)
  After = slice_set words o (Some w)

  long : length After ≡ length words
  long = length-set words o (Some w)

  here : word_in After o ≡ Some w
  here = get_or-set_same words o (Some w) None next.0

  other : (p : ℕ) → (p ≡ o → ⊥) → word_in After p ≡ word_in words p
  other p differs = get_or-set_other words o p (Some w) None differs

  -- what has a word is another operation, and comes before this one
  not_this : (p v : ℕ) → word_in words p ≡ Some v → p ≡ o → ⊥
  not_this p v e same = none-some v (sym next.1 ∙ ap (word_in words) (sym same) ∙ e)

  before_this : (p v : ℕ) → word_in words p ≡ Some v → comes_before height p o ≡ true
  before_this p v e = by (before_either height p o (not_this p v e))
    where
      by : (comes_before height p o ≡ true) ⊎ (comes_before height o p ≡ true) → comes_before height p o ≡ true
      by (inl before) = before
      by (inr behind) = absurd (filled.closed o p v next.0 behind e next.1)

  -- what comes before this one has a word
  all_before : (p : ℕ) → p < length words → comes_before height p o ≡ true → word_in words p ≡ None → ⊥
  all_before p inside before e = by (next.2 p inside e)
    where
      by : (p ≡ o) ⊎ (comes_before height o p ≡ true) → ⊥
      by (inl same) = not_before_itself height o (subst (λ x. comes_before height x o ≡ true) same before)
      by (inr behind) = before_once height p o before behind

  still_closed : (q p v : ℕ) → q < length After → comes_before height q p ≡ true → word_in After p ≡ Some v → word_in After q ≡ None → ⊥
  still_closed q p v inside before e f = by (cases_eq q o) (cases_eq p o)
    where
      within : q < length words
      within = let l = long in omega (arith, inside, l)

      by : (q ≡ o) ⊎ (q ≡ o → ⊥) → (p ≡ o) ⊎ (p ≡ o → ⊥) → ⊥
      by (inl same) any = none-some w (sym f ∙ ap (word_in After) same ∙ here)
      by (inr differs) (inl same) = all_before q within (subst (λ x. comes_before height q x ≡ true) same before) (sym (other q differs) ∙ f)
      by (inr differs) (inr apart) = filled.closed q p v within before (sym (other p apart) ∙ e) (sym (other q differs) ∙ f)

  -- those that have words stay as they are

  -- this one comes before none of them
  not_first : (q v : ℕ) → word_in words q ≡ Some v → comes_before height o q ≡ true → ⊥
  not_first q v e before = filled.closed o q v next.0 before e next.1

  ready_stays : (q first : ℕ) → ((i delay : ℕ) → Applies m mode c.trace i q delay → i ≡ o → ⊥) → IsReadySoFar m mode c.trace words q q first → IsReadySoFar m mode c.trace After q q first
  ready_stays q first never is = record {
    met = λ i d v l a e. is.met i d v l a (sym (other i (never i d a)) ∙ e);
    reached = by is.reached;
  }
    where
      by : (first ≡ 0) ⊎ ((i : ℕ) × (delay : ℕ) × (v : ℕ) × Applies m mode c.trace i q delay × (word_in words i ≡ Some v) × (first ≡ v + delay)) → (first ≡ 0) ⊎ ((i : ℕ) × (delay : ℕ) × (v : ℕ) × Applies m mode c.trace i q delay × (word_in After i ≡ Some v) × (first ≡ v + delay))
      by (inl none) = inl none
      by (inr (i, d, v, a, e, f)) = inr (i, d, v, a, other i (never i d a) ∙ e, f)

  same_beside : (q u v : ℕ) → word_in words q ≡ Some u → filter (λ p. comes_before height p q) (places_so_far After v) ≡ filter (λ p. comes_before height p q) (places_so_far words v)
  same_beside q u v e =
      filter_twice (λ i. is_word v (word_in After i)) (λ i. comes_before height i q) (numbers 0 (length After))
      ∙ ap (λ n. filter (λ i. is_word v (word_in After i) && comes_before height i q) (numbers 0 n)) long
      ∙ filter_numbers (λ i. is_word v (word_in After i) && comes_before height i q) (λ i. is_word v (word_in words i) && comes_before height i q) 0 (length words) (λ i l k. by i (cases_eq i o))
      ∙ sym (filter_twice (λ i. is_word v (word_in words i)) (λ i. comes_before height i q) (numbers 0 (length words)))
    where
      by : (i : ℕ) → (i ≡ o) ⊎ (i ≡ o → ⊥) → (is_word v (word_in After i) && comes_before height i q) ≡ (is_word v (word_in words i) && comes_before height i q)
      by i (inl same) =
          let behind : comes_before height i q ≡ false = not_before height i q (λ b. not_first q u e (subst (λ x. comes_before height x q ≡ true) same b)) in
          and_right (is_word v (word_in After i)) (comes_before height i q) behind ∙ sym (and_right (is_word v (word_in words i)) (comes_before height i q) behind)
      by i (inr differs) = ap (λ x. is_word v x && comes_before height i q) (other i differs)

  stays_placed : (q u : ℕ) → word_in words q ≡ Some u → IsPlaced c m homes mode height After q u
  stays_placed q u e = record {
    first = (filled.placed q u e).first;
    is = ready_stays q (filled.placed q u e).first (λ i d a same. not_first q u e (subst (λ x. comes_before height x q ≡ true) same (applies_before m mode c.trace height i q d heights a))) (filled.placed q u e).is;
    after = (filled.placed q u e).after;
    tight = λ v l k. ap (λ places. has_room m homes (items_at c (q ∷ places))) (same_beside q u v e) ∙ (filled.placed q u e).tight v l k;
  }

  -- the new one

  weighs : (f : ClusteredItem → ℕ) → weight c f o ≡ f item
  weighs f =
      let one : weight c f o ≡ sum_by f (item ∷ []) = ap (sum_by f) is_item in
      let two = sum_by-cons f item [] in
      omega (arith, one, two)

  all_beside : (v : ℕ) → filter (λ p. comes_before height p o) (places_so_far After v) ≡ places_so_far words v
  all_beside v =
      filter_twice (λ i. is_word v (word_in After i)) (λ i. comes_before height i o) (numbers 0 (length After))
      ∙ ap (λ n. filter (λ i. is_word v (word_in After i) && comes_before height i o) (numbers 0 n)) long
      ∙ filter_numbers (λ i. is_word v (word_in After i) && comes_before height i o) (λ i. is_word v (word_in words i)) 0 (length words) (λ i l k. by i (cases_eq i o))
    where
      there : (i : ℕ) (x : Option ℕ) → word_in words i ≡ x → (is_word v x && comes_before height i o) ≡ is_word v x
      there i None e = refl
      there i (Some u) e = ap (λ b. nat_eq u v && b) (before_this i u e) ∙ and_true (nat_eq u v)

      by : (i : ℕ) → (i ≡ o) ⊎ (i ≡ o → ⊥) → (is_word v (word_in After i) && comes_before height i o) ≡ is_word v (word_in words i)
      by i (inl same) =
          let behind : comes_before height i o ≡ false = not_before height i o (λ b. not_before_itself height o (subst (λ x. comes_before height x o ≡ true) same b)) in
          let free : word_in words i ≡ None = ap (word_in words) same ∙ next.1 in
          and_right (is_word v (word_in After i)) (comes_before height i o) behind ∙ sym (ap (is_word v) free)
      by i (inr differs) = ap (λ x. is_word v x && comes_before height i o) (other i differs) ∙ there i (word_in words i) refl

  beside : (v : ℕ) → Within (row_of rows v ++ item ∷ []) (items_at c (o ∷ filter (λ p. comes_before height p o) (places_so_far After v)))
  beside v = record { at = less }
    where
      less : (f : ClusteredItem → ℕ) → sum_by f (row_of rows v ++ item ∷ []) ≤ sum_by f (items_at c (o ∷ filter (λ p. comes_before height p o) (places_so_far After v)))
      less f =
          let row = sum_by_push f (row_of rows v) item in
          let held = filled.held v f in
          let more = sum_more c f o (filter (λ p. comes_before height p o) (places_so_far After v)) in
          let same : sum_by f (items_at c (filter (λ p. comes_before height p o) (places_so_far After v))) ≡ sum_by f (items_at c (places_so_far words v)) = ap (λ places. sum_by f (items_at c places)) (all_beside v) in
          let one = weighs f in
          omega (arith, row, held, more, same, one)

  now_placed : IsPlaced c m homes mode height After o w
  now_placed = record {
    first = ready;
    is = ready_stays o ready (λ i d a same. let l = a.in_order in absurd (omega (arith, l, same))) is_ready;
    after = fits.from;
    tight = λ v l k. by v l k (has_room m homes (items_at c (o ∷ filter (λ p. comes_before height p o) (places_so_far After v)))) refl;
  }
    where
      by : (v : ℕ) → ready ≤ v → v < w → (b : Bool) → has_room m homes (items_at c (o ∷ filter (λ p. comes_before height p o) (places_so_far After v))) ≡ b → has_room m homes (items_at c (o ∷ filter (λ p. comes_before height p o) (places_so_far After v))) ≡ false
      by v l k false e = e
      by v l k true e = absurd (true≢false (sym (room_within m homes (row_of rows v ++ item ∷ []) (items_at c (o ∷ filter (λ p. comes_before height p o) (places_so_far After v))) (beside v) e) ∙ fits.tight v l k))

  all_placed : (q u : ℕ) → word_in After q ≡ Some u → IsPlaced c m homes mode height After q u
  all_placed q u e = by (cases_eq q o)
    where
      by : (q ≡ o) ⊎ (q ≡ o → ⊥) → IsPlaced c m homes mode height After q u
      by (inl same) =
          let is : w ≡ u = same_Some w u (sym here ∙ ap (word_in After) (sym same) ∙ e) in
          subst (λ x. IsPlaced c m homes mode height After x u) (sym same) (subst (IsPlaced c m homes mode height After o) is now_placed)
      by (inr differs) = stays_placed q u (sym (other q differs) ∙ e)

  -- rows

  sum_before : (f : ClusteredItem → ℕ) (v : ℕ) → sum_by f (items_at c (places_so_far words v)) ≡ sum_by (λ i. cond (is_word v (word_in words i)) (weight c f i) 0) (numbers 0 (length words))
  sum_before f v = sum_kept c f (λ i. is_word v (word_in words i)) (numbers 0 (length words))

  sum_after : (f : ClusteredItem → ℕ) (v : ℕ) → sum_by f (items_at c (places_so_far After v)) ≡ sum_by (λ i. cond (is_word v (word_in After i)) (weight c f i) 0) (numbers 0 (length words))
  sum_after f v =
      sum_kept c f (λ i. is_word v (word_in After i)) (numbers 0 (length After))
      ∙ ap (λ n. sum_by (λ i. cond (is_word v (word_in After i)) (weight c f i) 0) (numbers 0 n)) long

  grows : (f : ClusteredItem → ℕ) → sum_by f (items_at c (places_so_far After w)) ≡ sum_by f (items_at c (places_so_far words w)) + weight c f o
  grows f =
      let old = λ (i : ℕ). cond (is_word w (word_in words i)) (weight c f i) 0 in
      let new = λ (i : ℕ). cond (is_word w (word_in After i)) (weight c f i) 0 in
      let none : old o ≡ 0 = ap (λ x. cond (is_word w x) (weight c f o) 0) next.1 in
      let all : new o ≡ weight c f o = ap (λ x. cond (is_word w x) (weight c f o) 0) here ∙ ap (λ b. cond b (weight c f o) 0) (eq-eqb w w refl) in
      let same = λ (i : ℕ) (differs : i ≡ o → ⊥). ap (λ x. cond (is_word w x) (weight c f i) 0) (other i differs) in
      let inside = next.0 in
      let up = sum_at old new o (weight c f o) 0 0 (length words) (λ i differs. let e : new i ≡ old i = same i differs in omega (arith, e)) (omega (arith, none, all)) (omega arith) (omega (arith, inside)) in
      let down = sum_at new old o 0 (weight c f o) 0 (length words) (λ i differs. let e : new i ≡ old i = same i differs in omega (arith, e)) (omega (arith, none, all)) (omega arith) (omega (arith, inside)) in
      let before = sum_before f w in
      let after = sum_after f w in
      omega (arith, up, down, before, after)

  same_places : (v : ℕ) → (v ≡ w → ⊥) → places_so_far After v ≡ places_so_far words v
  same_places v apart =
      ap (λ n. filter (λ i. is_word v (word_in After i)) (numbers 0 n)) long
      ∙ filter_numbers (λ i. is_word v (word_in After i)) (λ i. is_word v (word_in words i)) 0 (length words) (λ i l k. by i (cases_eq i o))
    where
      by : (i : ℕ) → (i ≡ o) ⊎ (i ≡ o → ⊥) → is_word v (word_in After i) ≡ is_word v (word_in words i)
      by i (inl same) =
          let stands : word_in After i ≡ Some w = ap (word_in After) same ∙ here in
          let free : word_in words i ≡ None = ap (word_in words) same ∙ next.1 in
          ap (is_word v) stands ∙ ne_eqb w v (λ e. apart (sym e)) ∙ sym (ap (is_word v) free)
      by i (inr differs) = ap (is_word v) (other i differs)

  still_held : (v : ℕ) (f : ClusteredItem → ℕ) → sum_by f (row_of others v) ≡ sum_by f (items_at c (places_so_far After v))
  still_held v f = by (cases_eq v w)
    where
      at_word : sum_by f (row_of others w) ≡ sum_by f (items_at c (places_so_far After w))
      at_word =
          let row : sum_by f (row_of others w) ≡ sum_by f (row_of rows w ++ item ∷ []) = ap (sum_by f) puts.here in
          let push = sum_by_push f (row_of rows w) item in
          let held = filled.held w f in
          let more = grows f in
          let one = weighs f in
          omega (arith, row, push, held, more, one)

      by : (v ≡ w) ⊎ (v ≡ w → ⊥) → sum_by f (row_of others v) ≡ sum_by f (items_at c (places_so_far After v))
      by (inl same) = subst (λ x. sum_by f (row_of others x) ≡ sum_by f (items_at c (places_so_far After x))) (sym same) at_word
      by (inr apart) = ap (sum_by f) (puts.elsewhere v apart) ∙ filled.held v f ∙ ap (λ places. sum_by f (items_at c places)) (sym (same_places v apart))

  still_room : (v : ℕ) → has_room m homes (row_of others v) ≡ true
  still_room v = by (cases_eq v w)
    where
      by : (v ≡ w) ⊎ (v ≡ w → ⊥) → has_room m homes (row_of others v) ≡ true
      by (inl same) = ap (λ x. has_room m homes (row_of others x)) same ∙ ap (has_room m homes) puts.here ∙ fits.room
      by (inr apart) = ap (has_room m homes) (puts.elsewhere v apart) ∙ filled.room v

  pub one_filled : Filled c m homes mode height (slice_set words o (Some w)) others
  one_filled = record { each = long ∙ filled.each; closed = still_closed; placed = all_placed; held = still_held; room = still_room }

-- all operations have words

module _ (c : Clustered) (m : Numbers) (homes : Homes) (mode : Mode) (height : ℕ → ℕ) (words : List (Option ℕ)) (rows : List (List ClusteredItem)) (filled : Filled c m homes mode height words rows) (all : IsNext height words (length words) None) where
  stands : (i : ℕ) → i < length words → (w : ℕ) × (word_in words i ≡ Some w)
  stands i inside = with_word (word_in words i) (all i inside)

  final : (i w : ℕ) → i < length words → word_in words i ≡ Some w → word_at (map word_or_0 words) i ≡ w
  final i w inside e = get_or-map word_or_0 words i None 0 inside ∙ ap word_or_0 e

  inside_too : (i : ℕ) → i < length (map word_or_0 words) → i < length words
  inside_too i l = let e = length-map words word_or_0 in omega (arith, l, e)

  above_inside : (i o delay : ℕ) → Applies m mode c.trace i o delay → i < length words
  above_inside i o delay a = let l = slice_get_within c.trace.ops i a.one a.stands_one in let e = filled.each in omega (arith, l, e)

  same_row : (w : ℕ) → places_in (map word_or_0 words) w ≡ places_so_far words w
  same_row w =
      ap (λ n. filter (λ i. nat_eq (word_at (map word_or_0 words) i) w) (numbers 0 n)) (length-map words word_or_0)
      ∙ filter_numbers (λ i. nat_eq (word_at (map word_or_0 words) i) w) (λ i. is_word w (word_in words i)) 0 (length words) (λ i l k. by i (omega (arith, k)))
    where
      by : (i : ℕ) → i < length words → nat_eq (word_at (map word_or_0 words) i) w ≡ is_word w (word_in words i)
      by i inside =
          let (u, e) = stands i inside in
          ap (λ x. nat_eq x w) (final i u inside e) ∙ sym (ap (is_word w) e)

  -- the first word that the delays allow in the end is that at its turn
  at_most : (o ready w : ℕ) (p : IsPlaced c m homes mode height words o w) → IsReady m mode c.trace (map word_or_0 words) o ready → ready ≤ p.first
  at_most o ready w p is = by is.reached
    where
      by : (ready ≡ 0) ⊎ ((i : ℕ) × (delay : ℕ) × Applies m mode c.trace i o delay × (ready ≡ word_at (map word_or_0 words) i + delay)) → ready ≤ p.first
      by (inl none) = omega (arith, none)
      by (inr (i, d, a, e)) =
          let (u, f) = stands i (above_inside i o d a) in
          let v = final i u (above_inside i o d a) f in
          let met = p.is.met i d u a.in_order a f in
          omega (arith, e, v, met)

  at_least : (o ready w : ℕ) (p : IsPlaced c m homes mode height words o w) → IsReady m mode c.trace (map word_or_0 words) o ready → p.first ≤ ready
  at_least o ready w p is = by p.is.reached
    where
      by : (p.first ≡ 0) ⊎ ((i : ℕ) × (delay : ℕ) × (v : ℕ) × Applies m mode c.trace i o delay × (word_in words i ≡ Some v) × (p.first ≡ v + delay)) → p.first ≤ ready
      by (inl none) = omega (arith, none)
      by (inr (i, d, u, a, f, e)) =
          let v = final i u (above_inside i o d a) f in
          let met = is.met i d a in
          omega (arith, e, v, met)

  after_ready : (o ready : ℕ) → o < length (map word_or_0 words) → IsReady m mode c.trace (map word_or_0 words) o ready → ready ≤ word_at (map word_or_0 words) o
  after_ready o ready inside is =
      let (w, e) = stands o (inside_too o inside) in
      let p = filled.placed o w e in
      let one = at_most o ready w p is in
      let two = p.after in
      let three = final o w (inside_too o inside) e in
      omega (arith, one, two, three)

  has_room_in : (w : ℕ) → has_room m homes (items_at c (places_in (map word_or_0 words) w)) ≡ true
  has_room_in w =
      ap (λ places. has_room m homes (items_at c places)) (same_row w)
      ∙ room_within m homes (items_at c (places_so_far words w)) (row_of rows w) (record { at = λ f. let e = filled.held w f in omega (arith, e) }) (filled.room w)

  none_earlier : (o ready w : ℕ) → o < length (map word_or_0 words) → IsReady m mode c.trace (map word_or_0 words) o ready → ready ≤ w → w < word_at (map word_or_0 words) o → has_room m homes (items_at c (with_earlier height (map word_or_0 words) w o)) ≡ false
  none_earlier o ready w inside is from to =
      let (u, e) = stands o (inside_too o inside) in
      let p = filled.placed o u e in
      let one = at_least o ready u p is in
      let two = final o u (inside_too o inside) e in
      ap (λ places. has_room m homes (items_at c (o ∷ filter (λ q. comes_before height q o) places))) (same_row w) ∙ p.tight w (omega (arith, one, from)) (omega (arith, to, two))

  pub all_filled : PlacedBy c m homes mode height (map word_or_0 words)
  all_filled = record { each = length-map words word_or_0 ∙ filled.each; ready = after_ready; room = has_room_in; tight = none_earlier }
