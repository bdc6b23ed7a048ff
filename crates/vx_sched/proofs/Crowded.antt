-- A crowded row has no room for the item.
use Rattle.std.proofs.Common.{◌≡◌, ℕ, ◌<◌, ◌≤◌, ◌⊎◌, inl, inr, ◌+◌, Bool, ◌&&◌, ◌==◌, cond, true, false, nat_lt, nat_le, List, [], ◌∷◌, ◌++◌, sym, ◌∙◌, refl, ap, count_by, arith}
use Rattle.std.proofs.lemmas.Bool.{and_parts, leb-true, or_cases, false≢true}
use Rattle.std.proofs.lemmas.Bool.Decides.{nat_tests}
use Rattle.std.proofs.lemmas.List.Folds.{list_all-append}
use Rattle.std.specs.List.{list_all, flat_map}
use Rattle.vx_flow.specs.declared.trace.Homes.{Homes}
use Rattle.vx_isa.specs.declared.operation.UnitKind.{UnitKind}
use Rattle.vx_isa.specs.declared.operation.UnitKind.TheVariants.{Alu, Multiply, Memory, Copies, Control}
use Rattle.vx_isa.specs.Numbers.{Numbers, is_machine}
use Rattle.vx_isa.specs.Operations.{same_unit}
use Rattle.vx_isa.specs.Fits.{all_below}
use Rattle.vx_isa.proofs.Lists.{count_by-append, count_by-cons}
use Rattle.vx_isa.proofs.FitsLaw.{Six, six_parts, all_below-at}
use Rattle.vx_room.specs.declared.items.ClusteredItem.{ClusteredItem}
use Rattle.vx_room.specs.declared.items.Item.{Item}
use Rattle.vx_room.specs.Items.{unit_of_item, is_split, is_observable_item}
use Rattle.vx_room.specs.Room.{read_clusters, count_at, count_in, needs, reads_at, writes_at, has_room_at, stands_well, is_cluster, stand_well, has_room}
use Rattle.vx_sched.specs.Crowding.{slots_at, takes_all, is_crowded}

-- one more item is one more of what it counts as
one_more_counts : {X : Type 0} (p : X → Bool) (xs : List X) (x : X) → p x ≡ true → count_by p (xs ++ x ∷ []) ≡ count_by p xs + 1
one_more_counts p xs x e =
    let both = count_by-append p xs (x ∷ []) in
    let one = count_by-cons p x [] in
    let here : cond (p x) 1 0 ≡ 1 = ap {B = ℕ} (λ b. cond b 1 0) e in
    omega (arith, both, one, here)

-- a test that implies another counts at most as much
slot_of : (k : ℕ) (xs : List ClusteredItem) → count_by (λ (x : ClusteredItem). x.cluster == k) xs ≤ count_at k (λ item. true) xs
slot_of k [] = omega arith
slot_of k (x ∷ xs) =
    let more = slot_of k xs in
    let one = count_by-cons (λ (y : ClusteredItem). y.cluster == k) x xs in
    let other = count_by-cons (λ (y : ClusteredItem). (y.cluster == k) && true) x xs in
    let here = least (x.cluster == k) in
    omega (arith, more, one, other, here)
  where
    least : (b : Bool) → cond b 1 0 ≤ cond (b && true) 1 0
    least true = omega arith
    least false = omega arith

equal_self : (k : ℕ) → (k == k) ≡ true
equal_self k = grind (arith, nat_tests)

is_own : (u : UnitKind) → same_unit u u ≡ true
is_own Alu = refl
is_own Multiply = refl
is_own Memory = refl
is_own Copies = refl
is_own Control = refl

module _ (m : Numbers) (homes : Homes) (row : List ClusteredItem) (x : ClusteredItem) (fits : has_room m homes (row ++ x ∷ []) ≡ true) where
  abbrev longer : List ClusteredItem
  longer = row ++ x ∷ []

  parts : Six (is_machine m) (stand_well m homes longer) (all_below m.clusters (has_room_at m homes longer)) (nat_le (count_in (needs Copies) longer) m.copy_paths) (nat_le (count_in is_split longer) m.branches) (nat_le (count_in is_observable_item longer) 1)
  parts = six_parts _ _ _ _ _ _ fits

  inside : x.cluster < m.clusters
  inside =
      let (on, sources) = and_parts (list_all (stands_well m) longer) (list_all (is_cluster m) (flat_map (read_clusters homes) longer)) parts.two in
      let (before, last) = and_parts (list_all (stands_well m) row) (list_all (stands_well m) (x ∷ [])) (sym (list_all-append (stands_well m) row (x ∷ [])) ∙ on) in
      let (here, none) = and_parts (stands_well m x) true last in
      let (there, rest) = and_parts (nat_lt x.cluster m.clusters) _ here in
      grind (arith, nat_tests)

  at : Six (nat_le (count_at x.cluster (λ item. true) longer) m.issue) (nat_le (count_at x.cluster (needs Alu) longer) m.alus) (nat_le (count_at x.cluster (needs Multiply) longer) m.multipliers)
      (nat_le (count_at x.cluster (needs Memory) longer) m.memory_units) (nat_le (reads_at homes x.cluster longer) m.read_ports) (nat_le (writes_at x.cluster longer) m.write_ports)
  at = six_parts _ _ _ _ _ _ (all_below-at (has_room_at m homes longer) m.clusters x.cluster parts.three inside)

  -- what is counted here is one more with the item
  counted : (p : Item → Bool) (limit : ℕ) → p x.item ≡ true → nat_le (count_at x.cluster p longer) limit ≡ true → count_at x.cluster p row < limit
  counted p limit e most =
      let here : ((x.cluster == x.cluster) && p x.item) ≡ true = ap (λ b. b && p x.item) (equal_self x.cluster) ∙ e in
      let one = one_more_counts (λ (y : ClusteredItem). (y.cluster == x.cluster) && p y.item) row x here in
      let le = leb-true _ _ most in
      omega (arith, one, le)

  slots_left : slots_at x.cluster row < m.issue
  slots_left = let some = counted (λ item. true) m.issue refl at.one in let less = slot_of x.cluster row in omega (arith, some, less)

  need : (u : UnitKind) → unit_of_item x.item ≡ u → needs u x.item ≡ true
  need u e = ap (λ y. same_unit y u) e ∙ is_own u

  not_all : (limit count : ℕ) → count < limit → nat_le limit count ≡ true → ⊥
  not_all limit count less e = let le = leb-true _ _ e in absurd (omega (arith, less, le))

  units_left : (u : UnitKind) → unit_of_item x.item ≡ u → takes_all m u x.cluster row ≡ true → ⊥
  units_left Alu e all = not_all m.alus _ (counted (needs Alu) m.alus (need Alu e) at.two) all
  units_left Multiply e all = not_all m.multipliers _ (counted (needs Multiply) m.multipliers (need Multiply e) at.three) all
  units_left Memory e all = not_all m.memory_units _ (counted (needs Memory) m.memory_units (need Memory e) at.four) all
  units_left Copies e all =
      let one = one_more_counts (λ (y : ClusteredItem). needs Copies y.item) row x (need Copies e) in
      let le = leb-true _ _ parts.four in
      not_all m.copy_paths (count_in (needs Copies) row) (omega (arith, one, le)) all
  units_left Control e all = false≢true all

  not_crowded : is_crowded m row x ≡ true → ⊥
  not_crowded e = by (or_cases _ _ e)
    where
      by : (nat_le m.issue (slots_at x.cluster row) ≡ true) ⊎ (takes_all m (unit_of_item x.item) x.cluster row ≡ true) → ⊥
      by (inl full) = not_all m.issue (slots_at x.cluster row) slots_left full
      by (inr all) = units_left (unit_of_item x.item) refl all

pub crowded : (m : Numbers) (homes : Homes) (row : List ClusteredItem) (x : ClusteredItem) → is_crowded m row x ≡ true → has_room m homes (row ++ x ∷ []) ≡ false
crowded m homes row x e = by (has_room m homes (row ++ x ∷ [])) refl
  where
    by : (b : Bool) → has_room m homes (row ++ x ∷ []) ≡ b → b ≡ false
    by false f = refl
    by true f = absurd (not_crowded m homes row x f e)
