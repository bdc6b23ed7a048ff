-- Sums over lists: a list of items has room where another has that holds as much of everything. Sums over the places of a
-- trace.
use Rattle.std.proofs.Common.{◌≡◌, ℕ, zero, suc, ◌<◌, ◌≤◌, ◌⊎◌, inl, inr, ◌+◌, Bool, ◌&&◌, cond, true, false, nat_le, List, [], ◌∷◌, slice_get, slice_index_or, sym, ◌∙◌, refl, ap, count_by, arith}
use Rattle.std.proofs.lemmas.Bool.{and_parts, leb-true, le-leb, cases_eq}
use Rattle.std.proofs.lemmas.List.Sums.{sum_by-cons, sum_by-append}
use Rattle.std.specs.Cmp.Derive.{both_true}
use Rattle.std.specs.List.{list_all, flat_map, filter, sum_by}
use Rattle.vx_flow.specs.declared.trace.Clustered.{Clustered}
use Rattle.vx_flow.specs.declared.trace.Homes.{Homes}
use Rattle.vx_flow.specs.Walk.{numbers}
use Rattle.vx_isa.specs.declared.operation.UnitKind.TheVariants.{Alu, Multiply, Memory, Copies}
use Rattle.vx_isa.specs.Numbers.{Numbers, is_machine}
use Rattle.vx_isa.specs.Fits.{all_below}
use Rattle.vx_isa.proofs.Lists.{list_all-flat_map}
use Rattle.vx_isa.proofs.FitsLaw.{six_parts, six_together, all_below-at, all_below-holds}
use Rattle.vx_room.specs.declared.items.ClusteredItem.{ClusteredItem}
use Rattle.vx_room.specs.Items.{is_split, is_observable_item}
use Rattle.vx_room.specs.Room.{read_clusters, is_at, count_at, count_in, needs, reads_at, writes_at, has_room_at, stands_well, is_cluster, stand_well, has_room}
use Rattle.vx_sched.specs.Placement.{item_there, items_at}

-- the first list holds no more of anything than the second
pub record Within {X : Type 0} (ys xs : List X) : Type 0 where
  pub at : (f : X → ℕ) → sum_by f ys ≤ sum_by f xs

pub sum_flat : {X Y : Type 0} (g : Y → ℕ) (f : X → List Y) (xs : List X) → sum_by g (flat_map f xs) ≡ sum_by (λ x. sum_by g (f x)) xs
sum_flat g f [] = refl
sum_flat g f (x ∷ xs) =
    let one = sum_by-append g (f x) (flat_map f xs) in
    let all = sum_by-cons (λ y. sum_by g (f y)) x xs in
    let more = sum_flat g f xs in
    omega (arith, one, all, more)

pub sum_filter : {X : Type 0} (g : X → ℕ) (p : X → Bool) (xs : List X) → sum_by g (filter p xs) ≡ sum_by (λ x. cond (p x) (g x) 0) xs
sum_filter g p [] = refl
sum_filter g p (x ∷ xs) = by (p x) (sum_filter g p xs) ∙ sym (sum_by-cons (λ y. cond (p y) (g y) 0) x xs)
  where
    by : (b : Bool) → sum_by g (filter p xs) ≡ sum_by (λ y. cond (p y) (g y) 0) xs → sum_by g (cond b (x ∷ filter p xs) (filter p xs)) ≡ cond b (g x) 0 + sum_by (λ y. cond (p y) (g y) 0) xs
    by true more = let one = sum_by-cons g x (filter p xs) in omega (arith, one, more)
    by false more = omega (arith, more)

-- tests as sums of what fails

abbrev failing : Bool → ℕ
failing b = cond b 0 1

fails_none : {X : Type 0} (p : X → Bool) (xs : List X) → list_all p xs ≡ true → sum_by (λ x. failing (p x)) xs ≡ 0
fails_none p [] all = refl
fails_none p (x ∷ xs) all =
    let parts = and_parts (p x) (list_all p xs) all in
    let one = sum_by-cons (λ y. failing (p y)) x xs in
    let here : failing (p x) ≡ 0 = ap failing parts.0 in
    let more = fails_none p xs parts.1 in
    omega (arith, one, here, more)

none_fails : {X : Type 0} (p : X → Bool) (xs : List X) → sum_by (λ x. failing (p x)) xs ≤ 0 → list_all p xs ≡ true
none_fails p [] none = refl
none_fails p (x ∷ xs) none = by (p x) refl (none_fails p xs)
  where
    by : (b : Bool) → p x ≡ b → (sum_by (λ y. failing (p y)) xs ≤ 0 → list_all p xs ≡ true) → (p x && list_all p xs) ≡ true
    by true e more =
        let one = sum_by-cons (λ y. failing (p y)) x xs in
        both_true e (more (omega (arith, one, none)))
    by false e more =
        let one = sum_by-cons (λ y. failing (p y)) x xs in
        let here : failing (p x) ≡ 1 = ap failing e in
        absurd (omega (arith, one, here, none))

-- room

all_within : {X : Type 0} (p : X → Bool) (ys xs : List X) → Within ys xs → list_all p xs ≡ true → list_all p ys ≡ true
all_within p ys xs within all =
    let one = within.at (λ x. failing (p x)) in
    let none = fails_none p xs all in
    none_fails p ys (omega (arith, one, none))

rows_within : {X Y : Type 0} (p : Y → Bool) (f : X → List Y) (ys xs : List X) → Within ys xs → count_by p (flat_map f ys) ≤ count_by p (flat_map f xs)
rows_within p f ys xs within =
    let one = sum_flat (λ y. cond (p y) 1 0) f ys in
    let two = sum_flat (λ y. cond (p y) 1 0) f xs in
    let less = within.at (λ x. sum_by (λ y. cond (p y) 1 0) (f x)) in
    omega (arith, one, two, less)

count_within : {X : Type 0} (p : X → Bool) (ys xs : List X) → Within ys xs → count_by p ys ≤ count_by p xs
count_within p ys xs within = within.at (λ x. cond (p x) 1 0)

at_most : (a b n : ℕ) → a ≤ b → nat_le b n ≡ true → nat_le a n ≡ true
at_most a b n le fits = let whole = leb-true b n fits in le-leb a n (omega (arith, le, whole))

module _ (m : Numbers) (homes : Homes) (ys xs : List ClusteredItem) (within : Within ys xs) where
  at_one : (k : ℕ) → has_room_at m homes xs k ≡ true → has_room_at m homes ys k ≡ true
  at_one k h =
      let s = six_parts (nat_le (count_at k (λ item. true) xs) m.issue) (nat_le (count_at k (needs Alu) xs) m.alus) (nat_le (count_at k (needs Multiply) xs) m.multipliers) (nat_le (count_at k (needs Memory) xs) m.memory_units) (nat_le (reads_at homes k xs) m.read_ports) (nat_le (writes_at k xs) m.write_ports) h in
      six_together (nat_le (count_at k (λ item. true) ys) m.issue) (nat_le (count_at k (needs Alu) ys) m.alus) (nat_le (count_at k (needs Multiply) ys) m.multipliers) (nat_le (count_at k (needs Memory) ys) m.memory_units) (nat_le (reads_at homes k ys) m.read_ports) (nat_le (writes_at k ys) m.write_ports)
      (record {
        one = at_most _ _ m.issue (count_within _ ys xs within) s.one;
        two = at_most _ _ m.alus (count_within _ ys xs within) s.two;
        three = at_most _ _ m.multipliers (count_within _ ys xs within) s.three;
        four = at_most _ _ m.memory_units (count_within _ ys xs within) s.four;
        five = at_most _ _ m.read_ports (rows_within (is_at k) (read_clusters homes) ys xs within) s.five;
        six = at_most _ _ m.write_ports (count_within _ ys xs within) s.six;
      })

  stand : stand_well m homes xs ≡ true → stand_well m homes ys ≡ true
  stand well =
      let (on, sources) = and_parts (list_all (stands_well m) xs) (list_all (is_cluster m) (flat_map (read_clusters homes) xs)) well in
      let each = sym (list_all-flat_map (is_cluster m) (read_clusters homes) xs) ∙ sources in
      both_true (all_within (stands_well m) ys xs within on) (list_all-flat_map (is_cluster m) (read_clusters homes) ys ∙ all_within (λ x. list_all (is_cluster m) (read_clusters homes x)) ys xs within each)

  pub room_within : has_room m homes xs ≡ true → has_room m homes ys ≡ true
  room_within h =
      let s = six_parts (is_machine m) (stand_well m homes xs) (all_below m.clusters (has_room_at m homes xs)) (nat_le (count_in (needs Copies) xs) m.copy_paths) (nat_le (count_in is_split xs) m.branches) (nat_le (count_in is_observable_item xs) 1) h in
      six_together (is_machine m) (stand_well m homes ys) (all_below m.clusters (has_room_at m homes ys)) (nat_le (count_in (needs Copies) ys) m.copy_paths) (nat_le (count_in is_split ys) m.branches) (nat_le (count_in is_observable_item ys) 1)
      (record {
        one = s.one;
        two = stand s.two;
        three = all_below-holds (has_room_at m homes ys) m.clusters (λ k below. at_one k (all_below-at (has_room_at m homes xs) m.clusters k s.three below));
        four = at_most _ _ m.copy_paths (count_within _ ys xs within) s.four;
        five = at_most _ _ m.branches (count_within _ ys xs within) s.five;
        six = at_most _ _ 1 (count_within _ ys xs within) s.six;
      })

-- nothing has room on a machine
pub nothing_has_room : (m : Numbers) (homes : Homes) → is_machine m ≡ true → has_room m homes [] ≡ true
nothing_has_room m homes is =
    six_together (is_machine m) (stand_well m homes []) (all_below m.clusters (has_room_at m homes [])) (nat_le 0 m.copy_paths) (nat_le 0 m.branches) (nat_le 0 1)
    (record {
      one = is;
      two = refl;
      three = all_below-holds (has_room_at m homes []) m.clusters (λ k below. six_together (nat_le 0 m.issue) (nat_le 0 m.alus) (nat_le 0 m.multipliers) (nat_le 0 m.memory_units) (nat_le 0 m.read_ports) (nat_le 0 m.write_ports) (record {
        one = le-leb 0 m.issue (omega arith);
        two = le-leb 0 m.alus (omega arith);
        three = le-leb 0 m.multipliers (omega arith);
        four = le-leb 0 m.memory_units (omega arith);
        five = le-leb 0 m.read_ports (omega arith);
        six = le-leb 0 m.write_ports (omega arith);
      }));
      four = le-leb 0 m.copy_paths (omega arith);
      five = le-leb 0 m.branches (omega arith);
      six = refl;
    })

-- sums and filters over places

pub sum_later : (h g : ℕ → ℕ) (b n : ℕ) → ((i : ℕ) → b ≤ i → h i ≤ g i) → sum_by h (numbers b n) ≤ sum_by g (numbers b n)
sum_later h g b zero less = omega arith
sum_later h g b (suc n) less =
    let one = sum_by-cons h b (numbers (b + 1) n) in
    let two = sum_by-cons g b (numbers (b + 1) n) in
    let here = less b (omega arith) in
    let more = sum_later h g (b + 1) n (λ i l. less i (omega (arith, l))) in
    omega (arith, one, two, here, more)

-- two sums that differ at one place at most
pub sum_at : (h g : ℕ → ℕ) (o e d b n : ℕ) → ((i : ℕ) → (i ≡ o → ⊥) → h i ≤ g i) → h o + e ≤ g o + d → b ≤ o → o < b + n → sum_by h (numbers b n) + e ≤ sum_by g (numbers b n) + d
sum_at h g o e d b zero less at from to = absurd (omega (arith, from, to))
sum_at h g o e d b (suc n) less at from to = by (cases_eq b o) (sum_at h g o e d (b + 1) n less at)
  where
    one : sum_by h (b ∷ numbers (b + 1) n) ≡ h b + sum_by h (numbers (b + 1) n)
    one = sum_by-cons h b (numbers (b + 1) n)

    two : sum_by g (b ∷ numbers (b + 1) n) ≡ g b + sum_by g (numbers (b + 1) n)
    two = sum_by-cons g b (numbers (b + 1) n)

    by : (b ≡ o) ⊎ (b ≡ o → ⊥) → (b + 1 ≤ o → o < b + 1 + n → sum_by h (numbers (b + 1) n) + e ≤ sum_by g (numbers (b + 1) n) + d) → sum_by h (numbers b (suc n)) + e ≤ sum_by g (numbers b (suc n)) + d
    by (inl same) more =
        let rest = sum_later h g (b + 1) n (λ i l. less i (λ is. let x : i ≡ o = is in absurd (omega (arith, l, x, same)))) in
        let left : h b ≡ h o = ap h same in
        let right : g b ≡ g o = ap g same in
        let first = one in
        let second = two in
        omega (arith, rest, left, right, first, second, at)
    by (inr other) more =
        let here = less b other in
        let rest = more (omega (arith, from, other)) (omega (arith, to)) in
        let first = one in
        let second = two in
        omega (arith, here, rest, first, second)

pub filter_numbers : (p q : ℕ → Bool) (b n : ℕ) → ((i : ℕ) → b ≤ i → i < b + n → p i ≡ q i) → filter p (numbers b n) ≡ filter q (numbers b n)
filter_numbers p q b zero same = refl
filter_numbers p q b (suc n) same =
    let more = filter_numbers p q (b + 1) n (λ i l u. same i (omega (arith, l)) (omega (arith, u))) in
    let here = same b (omega arith) (omega arith) in
    ap (λ x. cond x (b ∷ filter p (numbers (b + 1) n)) (filter p (numbers (b + 1) n))) here ∙ ap (λ xs. cond (q b) (b ∷ xs) xs) more

pub filter_twice : {X : Type 0} (p q : X → Bool) (xs : List X) → filter q (filter p xs) ≡ filter (λ x. p x && q x) xs
filter_twice p q [] = refl
filter_twice p q (x ∷ xs) = by (p x) (filter_twice p q xs)
  where
    by : (b : Bool) → filter q (filter p xs) ≡ filter (λ y. p y && q y) xs → filter q (cond b (x ∷ filter p xs) (filter p xs)) ≡ cond (b && q x) (x ∷ filter (λ y. p y && q y) xs) (filter (λ y. p y && q y) xs)
    by true more = ap (λ ys. cond (q x) (x ∷ ys) ys) more
    by false more = more

pub sum_filter_le : {X : Type 0} (g : X → ℕ) (p : X → Bool) (xs : List X) → sum_by g (filter p xs) ≤ sum_by g xs
sum_filter_le g p [] = omega arith
sum_filter_le g p (x ∷ xs) = by (p x) (sum_filter_le g p xs)
  where
    by : (b : Bool) → sum_by g (filter p xs) ≤ sum_by g xs → sum_by g (cond b (x ∷ filter p xs) (filter p xs)) ≤ sum_by g (x ∷ xs)
    by true less =
        let one = sum_by-cons g x (filter p xs) in
        let all = sum_by-cons g x xs in
        omega (arith, one, all, less)
    by false less = let all = sum_by-cons g x xs in omega (arith, all, less)

-- items of places

abbrev pub items_of : Clustered → ℕ → List ClusteredItem
items_of c i = item_there (slice_index_or c.clusters i 0) (slice_get c.trace.ops i)

abbrev pub weight : Clustered → (ClusteredItem → ℕ) → ℕ → ℕ
weight c f i = sum_by f (items_of c i)

pub sum_items : (c : Clustered) (f : ClusteredItem → ℕ) (places : List ℕ) → sum_by f (items_at c places) ≡ sum_by (weight c f) places
sum_items c f places = sum_flat f (items_of c) places

pub sum_kept : (c : Clustered) (f : ClusteredItem → ℕ) (p : ℕ → Bool) (places : List ℕ) → sum_by f (items_at c (filter p places)) ≡ sum_by (λ i. cond (p i) (weight c f i) 0) places
sum_kept c f p places = sum_flat f (items_of c) (filter p places) ∙ sum_filter (weight c f) p places

pub sum_more : (c : Clustered) (f : ClusteredItem → ℕ) (o : ℕ) (places : List ℕ) → sum_by f (items_at c (o ∷ places)) ≡ weight c f o + sum_by f (items_at c places)
sum_more c f o places = sum_by-append f (items_of c o) (items_at c places)
