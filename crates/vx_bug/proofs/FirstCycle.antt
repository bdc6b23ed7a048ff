-- So many bookings leave a cycle free among so many more cycles, so that the first one that is found is free.
use Rattle.std.proofs.Common.{◌≡◌, ◌<◌, ◌≤◌, ◌⊎◌, inl, inr, ◌+◌, ◌==◌, ◌&&◌, cond, refl, ◌∙◌, ap, arith, Bool, true, false, nat_lt, lt-ltb, ℕ, zero, suc, List, [], ◌∷◌, length, map}
use Rattle.std.specs.Prelude.{if◌then◌else◌, count_by}
use Rattle.std.proofs.lemmas.Bool.{cases_lt, cases_eq, eqb-true}
use Rattle.std.proofs.lemmas.List.Sums.{sum_by-cons}
use Rattle.vx_isa.specs.declared.operation.UnitKind.{UnitKind}
use Rattle.vx_isa.specs.declared.operation.UnitKind.TheVariants.{Alu, Multiply, Memory, Copies, Control}
use Rattle.vx_isa.specs.Numbers.{Numbers, IsMachine}
use Rattle.vx_isa.specs.Operations.{same_unit}
use Rattle.vx_isa.proofs.Ranges.{Ranges, ranges}
use Rattle.vx_machine.specs.Resources.{units_of}
use Rattle.vx_room.specs.Items.{item_of, unit_of_item}
use Rattle.vx_dep.specs.Delays.{reads_of}
use Rattle.vx_dep.specs.Compensation.{greatest}
use Rattle.vx_bug.specs.declared.bookings.Booking.{Booking}
use Rattle.vx_bug.specs.Clusters.{counts_at, available, is_free, first_free}
use Rattle.vx_bug.specs.FirstFree.{IsFirstFree, FirstIsFree}

-- counting

count_more : {X : Type 0} (p : X → Bool) (x : X) (xs : List X) → count_by p (x ∷ xs) ≡ cond (p x) 1 0 + count_by p xs
count_more p x xs = sum_by-cons (λ y. cond (p y) 1 0) x xs

fewer : {X : Type 0} (p q : X → Bool) (xs : List X) → count_by (λ x. p x && q x) xs ≤ count_by p xs
fewer p q [] = omega arith
fewer p q (x ∷ xs) =
    let a = count_more (λ y. p y && q y) x xs in
    let b = count_more p x xs in
    let c = fewer p q xs in
    let d = one (p x) (q x) in
    omega (arith, a, b, c, d)
  where
    one : (y z : Bool) → cond (y && z) 1 0 ≤ cond y 1 0
    one true true = omega arith
    one true false = omega arith
    one false z = omega arith

-- how many bookings stand in a cycle

abbrev there : ℕ → List Booking → ℕ
there cycle bookings = count_by (λ (b : Booking). b.cycle == cycle) bookings

-- whether a cycle is among so many from one on, as a number

abbrev hits : (n from cycle : ℕ) → ℕ
hits zero from cycle = 0
hits (suc n) from cycle = hits n from cycle + cond (cycle == from + n) 1 0

past : (n from cycle : ℕ) → from + n ≤ cycle → hits n from cycle ≡ 0
past zero from cycle l = refl
past (suc n) from cycle l = by (cycle == from + n) refl (past n from cycle (omega (arith, l)))
  where
    by : (b : Bool) → (cycle == from + n) ≡ b → hits n from cycle ≡ 0 → hits n from cycle + cond b 1 0 ≡ 0
    by true e h = let same : cycle ≡ from + n = eqb-true cycle (from + n) e in absurd (omega (arith, same, l))
    by false e h = omega (arith, h)

once : (n from cycle : ℕ) → hits n from cycle ≤ 1
once zero from cycle = omega arith
once (suc n) from cycle = by (cycle == from + n) refl (once n from cycle)
  where
    by : (b : Bool) → (cycle == from + n) ≡ b → hits n from cycle ≤ 1 → hits n from cycle + cond b 1 0 ≤ 1
    by true e h =
        let same : cycle ≡ from + n = eqb-true cycle (from + n) e in
        let none = past n from cycle (omega (arith, same)) in
        omega (arith, none)
    by false e h = omega (arith, h)

-- how many bookings stand in so many cycles from one on

abbrev total : (n from : ℕ) → List Booking → ℕ
total zero from bookings = 0
total (suc n) from bookings = total n from bookings + there (from + n) bookings

total_none : (n from : ℕ) → total n from [] ≡ 0
total_none zero from = refl
total_none (suc n) from = let h = total_none n from in let z : there (from + n) [] ≡ 0 = refl in omega (arith, h, z)

total_more : (n from : ℕ) (b : Booking) (bookings : List Booking) → total n from (b ∷ bookings) ≡ hits n from b.cycle + total n from bookings
total_more zero from b bookings = refl
total_more (suc n) from b bookings =
    let more = total_more n from b bookings in
    let one = count_more (λ (x : Booking). x.cycle == from + n) b bookings in
    omega (arith, more, one)

at_most : (n from : ℕ) (bookings : List Booking) → total n from bookings ≤ length bookings
at_most n from [] = let h = total_none n from in omega (arith, h)
at_most n from (b ∷ bookings) =
    let more = total_more n from b bookings in
    let rest = at_most n from bookings in
    let one = once n from b.cycle in
    omega (arith, more, rest, one)

at_least : (n from : ℕ) (bookings : List Booking) → ((k : ℕ) → k < n → 1 ≤ there (from + k) bookings) → n ≤ total n from bookings
at_least zero from bookings each = omega arith
at_least (suc n) from bookings each =
    let rest = at_least n from bookings (λ k l. each k (omega (arith, l))) in
    let one = each n (omega arith) in
    omega (arith, rest, one)

-- the units of a machine

some_of_kind : (m : Numbers) → Ranges m → (unit : UnitKind) → 1 ≤ units_of m unit
some_of_kind m s Alu = s.alus.least
some_of_kind m s Multiply = s.multipliers.least
some_of_kind m s Memory = s.memory_units.least
some_of_kind m s Copies = s.copy_paths.least
some_of_kind m s Control = s.branches.least

module _ (m : Numbers) (machine : IsMachine m) (bookings : List Booking) (cluster : ℕ) (unit : UnitKind) where
  abbrev free : ℕ → Bool
  free = is_free m bookings cluster unit

  -- where nothing is booked all is free
  vacant : (cycle : ℕ) → there cycle bookings ≤ 0 → free cycle ≡ true
  vacant cycle none =
      let units = ranges m machine in
      let issue = units.issue.least in
      let kind = some_of_kind m units unit in
      let slots = fewer (λ (b : Booking). b.cycle == cycle) (λ (b : Booking). b.cluster == cluster) bookings in
      let taken = fewer (λ (b : Booking). b.cycle == cycle) (λ (b : Booking). same_unit b.unit unit && counts_at unit cluster b.cluster) bookings in
      let one : nat_lt (count_by (λ (b : Booking). (b.cycle == cycle) && (b.cluster == cluster)) bookings) m.issue ≡ true = lt-ltb _ _ (omega (arith, slots, none, issue)) in
      let two : nat_lt (count_by (λ (b : Booking). (b.cycle == cycle) && (same_unit b.unit unit && counts_at unit cluster b.cluster)) bookings) (units_of m unit) ≡ true = lt-ltb _ _ (omega (arith, taken, none, kind)) in
      ap (λ x. x && nat_lt (count_by (λ (b : Booking). (b.cycle == cycle) && (same_unit b.unit unit && counts_at unit cluster b.cluster)) bookings) (units_of m unit)) one ∙ two

  booked_there : (cycle : ℕ) → free cycle ≡ false → 1 ≤ there cycle bookings
  booked_there cycle e = by (cases_lt 0 (there cycle bookings))
    where
      by : (0 < there cycle bookings) ⊎ (there cycle bookings ≤ 0) → 1 ≤ there cycle bookings
      by (inl some) = omega (arith, some)
      by (inr none) = let f = vacant cycle none in absurd cc

  -- the first that is found, or that none is

  abbrev Found : (n from : ℕ) → Type 0
  Found n from = IsFirstFree free from (first_free n free from) ⊎ ((first_free n free from ≡ from + n) × ((k : ℕ) → from ≤ k → k < from + n → free k ≡ false))

  found : (n from : ℕ) → Found n from
  found zero from = inr (omega arith, λ k l u. absurd (omega (arith, l, u)))
  found (suc n) from = by (free from) refl (found n (from + 1))
    where
      here_or : (k : ℕ) → from ≤ k → (k ≡ from) ⊎ (from + 1 ≤ k)
      here_or k l = either (cases_eq k from)
        where
          either : (k ≡ from) ⊎ (k ≡ from → ⊥) → (k ≡ from) ⊎ (from + 1 ≤ k)
          either (inl e) = inl e
          either (inr e) = inr (omega (arith, l, e))

      by : (b : Bool) → free from ≡ b → Found n (from + 1) → IsFirstFree free from (if b then from else first_free n free (from + 1)) ⊎ (((if b then from else first_free n free (from + 1)) ≡ from + suc n) × ((k : ℕ) → from ≤ k → k < from + suc n → free k ≡ false))
      by true e more = inl (record { above = omega arith; vacant = e; tight = λ k l u. absurd (omega (arith, l, u)) })
      by false e (inl is) = inl (record { above = let l = is.above in omega (arith, l); vacant = is.vacant; tight = λ k l u. early k u (here_or k l) })
        where
          early : (k : ℕ) → k < first_free n free (from + 1) → (k ≡ from) ⊎ (from + 1 ≤ k) → free k ≡ false
          early k u (inl same) = ap free same ∙ e
          early k u (inr l) = is.tight k l u
      by false e (inr (last, none)) = inr (omega (arith, last), λ k l u. early k u (here_or k l))
        where
          early : (k : ℕ) → k < from + suc n → (k ≡ from) ⊎ (from + 1 ≤ k) → free k ≡ false
          early k u (inl same) = ap free same ∙ e
          early k u (inr l) = none k l (omega (arith, u))

  first_is_free : (from : ℕ) → IsFirstFree free from (first_free (length bookings) free from)
  first_is_free from = by (found (length bookings) from)
    where
      last : ((k : ℕ) → from ≤ k → k < from + length bookings → free k ≡ false) → (b : Bool) → free (from + length bookings) ≡ b → free (from + length bookings) ≡ true
      last none true e = e
      last none false e =
          let most = at_most (suc (length bookings)) from bookings in
          let least = at_least (suc (length bookings)) from bookings (λ k l. each k l (cases_eq k (length bookings))) in
          absurd (omega (arith, most, least))
        where
          each : (k : ℕ) → k < suc (length bookings) → (k ≡ length bookings) ⊎ (k ≡ length bookings → ⊥) → 1 ≤ there (from + k) bookings
          each k l (inl same) = booked_there (from + k) (ap (λ x. free (from + x)) same ∙ e)
          each k l (inr other) = booked_there (from + k) (none (from + k) (omega arith) (omega (arith, l, other)))

      by : Found (length bookings) from → IsFirstFree free from (first_free (length bookings) free from)
      by (inl is) = is
      by (inr (at, none)) = record {
        above = omega (arith, at);
        vacant = ap free at ∙ last none (free (from + length bookings)) refl;
        tight = λ k l u. none k l (omega (arith, u, at));
      }

pub first_is_free_law : FirstIsFree
first_is_free_law m t books i op cluster machine = first_is_free m machine books.bookings cluster (unit_of_item (item_of op)) (greatest (map (available m t books i op cluster) (reads_of op)))
