-- A description without a fault gives numbers in their ranges.
use Rattle.std.proofs.Common.{◌≡◌, ℕ, ◌*◌, ◌≤◌, ℤ, pos, negsuc, Bool, true, false, ◌&&◌, ◌==◌, nat_le, if◌then◌else◌, List, [], ◌∷◌, Option, Some, None, option_and_then, map, drop, inl, inr, refl, arith}
use Rattle.std.proofs.lemmas.Bool.{and_parts, false≢true, cases_eq, leb-true, le-leb}
use Rattle.std.proofs.lemmas.Bool.Decides.{nat_tests}
use Rattle.std.specs.Cmp.Derive.{both_true}
use Rattle.std.specs.List.{list_all, list_any}
use Rattle.toml.specs.Data.{Data, as_integer, Members, get_member}
use Rattle.vx_isa.specs.Numbers.{Numbers, is_between, is_machine}
use Rattle.vx_machine.specs.declared.description.Field.{Field}
use Rattle.vx_machine.specs.declared.description.MachineFault.{MachineFault}
use Rattle.vx_machine.specs.declared.description.MachineFault.TheVariants.{Bad}
use Rattle.vx_machine.specs.Descriptions.{name_of, fields, is_field, branches_field, whole, whole_or_one, number_at, branches_at, has_unknown, is_within, fault_of, fault_or, fault_if_there, first_fault, machine_fault, numbers_of}

-- a field without a fault has an integer of its range

in_range : (f : Field) (z : Option ℤ) → is_within f z ≡ true → is_between f.least f.greatest (whole z) ≡ true
in_range f (Some (pos n)) h = h
in_range f (Some (negsuc n)) h = absurd (false≢true h)
in_range f None h = absurd (false≢true h)

no_fault : (f : Field) (o : Option Data) → fault_of f o ≡ None → is_within f (option_and_then as_integer o) ≡ true
no_fault f None h = cc
no_fault f (Some d) h =
    elim (is_within f (as_integer d)) as (λ b. (if b then None else Some (Bad 3 f.number)) ≡ None → b ≡ true) [ true ↦ λ e. refl | false ↦ λ e. cc ] h

pub first_none : (a b : Option MachineFault) → fault_or a b ≡ None → (a ≡ None) × (b ≡ None)
first_none None b h = (refl, h)
first_none (Some why) b h = cc

abbrev pub passes : Members → Field → Bool
passes t f = is_between f.least f.greatest (number_at t f.number)

all_pass : (t : Members) (fs : List Field) → first_fault t fs ≡ None → list_all (passes t) fs ≡ true
all_pass t [] h = refl
all_pass t (f ∷ fs) h =
    let o = get_member (name_of f.number) t in
    let (here, more) = first_none (fault_of f o) (first_fault t fs) h in
    both_true (in_range f (option_and_then as_integer o) (no_fault f o here)) (all_pass t fs more)

pub known : (t : Members) (b : Bool) (o : Option MachineFault) → (if b then Some (Bad 4 0) else o) ≡ None → o ≡ None
known t true o h = cc
known t false o h = h

pub fields_pass : (t : Members) → machine_fault t ≡ None → list_all (passes t) (fields (number_at t 2)) ≡ true
fields_pass t h = all_pass t (fields (number_at t 2)) (first_none _ _ (known t (has_unknown t) _ h)).0

-- the branches too

branches_pass_at : (o : Option Data) → fault_if_there branches_field o ≡ None → is_between 1 2 (whole_or_one o) ≡ true
branches_pass_at None h = refl
branches_pass_at (Some d) h = in_range branches_field (as_integer d) (no_fault branches_field (Some d) h)

pub last_fault : (t : Members) → machine_fault t ≡ None → fault_if_there branches_field (get_member (name_of 17) t) ≡ None
last_fault t h = (first_none _ _ (known t (has_unknown t) _ h)).1

pub branches_pass : (t : Members) → machine_fault t ≡ None → is_between 1 2 (branches_at t) ≡ true
branches_pass t h = branches_pass_at (get_member (name_of 17) t) (last_fault t h)

pub few_branches : (t : Members) → machine_fault t ≡ None → branches_at t ≤ 2
few_branches t h = leb-true _ _ (and_parts (nat_le 1 (branches_at t)) (nat_le (branches_at t) 2) (branches_pass t h)).1

-- the same tests, grouped to the left
abbrev pub all_left : Bool → List Bool → Bool
all_left a [] = a
all_left a (b ∷ bs) = all_left (a && b) bs

left_all : (a : Bool) (bs : List Bool) → (a && list_all (λ b. b) bs) ≡ true → all_left a bs ≡ true
left_all a [] h = (and_parts a true h).0
left_all a (b ∷ bs) h =
    let (first, more) = and_parts a (b && list_all (λ b. b) bs) h in
    let (second, rest) = and_parts b (list_all (λ b. b) bs) more in
    left_all (a && b) bs (both_true (both_true first second) rest)

pub in_ranges : (t : Members) → machine_fault t ≡ None → is_machine (numbers_of t) ≡ true
in_ranges t h = both_true (left_all (is_between 1 4 (number_at t 1)) (map (passes t) (drop 1 (fields (number_at t 2)))) (fields_pass t h)) (branches_pass t h)

-- and no number is over 64

small_in : (t : Members) (fs : List Field) (n : ℕ) → list_all (passes t) fs ≡ true → list_all (λ f. nat_le f.greatest 64) fs ≡ true → list_any (λ f. f.number == n) fs ≡ true → number_at t n ≤ 64
small_in t [] n pass small there = absurd (false≢true there)
small_in t (f ∷ fs) n pass small there =
    let (here, more) = and_parts (passes t f) (list_all (passes t) fs) pass in
    let (low, high) = and_parts (nat_le f.least (number_at t f.number)) (nat_le (number_at t f.number) f.greatest) here in
    let (least, others) = and_parts (nat_le f.greatest 64) (list_all (λ f. nat_le f.greatest 64) fs) small in
    let a = leb-true (number_at t f.number) f.greatest high in
    let b = leb-true f.greatest 64 least in
    elim (cases_eq f.number n) [
      | inl same ↦ rw (← same) (omega arith)
      | inr other ↦ small_in t fs n more others (grind (arith, nat_tests))
    ]

issue_small : (t : Members) → machine_fault t ≡ None → number_at t 2 ≤ 4
issue_small t h =
    let p = fields_pass t h in
    let (one, more) = and_parts (is_between 1 4 (number_at t 1)) _ p in
    let (two, rest) = and_parts (is_between 1 4 (number_at t 2)) _ more in
    leb-true _ _ (and_parts (nat_le 1 (number_at t 2)) (nat_le (number_at t 2) 4) two).1

greatest_small : (issue : ℕ) → issue ≤ 4 → list_all (λ f. nat_le f.greatest 64) (fields issue) ≡ true
greatest_small issue h = rw (le-leb (2 * issue) 64 (omega arith), le-leb issue 64 (omega arith))

pub small_at : (t : Members) (n : ℕ) → machine_fault t ≡ None → is_field n ≡ true → number_at t n ≤ 64
small_at t n h there = small_in t (fields (number_at t 2)) n (fields_pass t h) (greatest_small _ (issue_small t h)) there

pub in_ranges_as : (t : Members) (m : Numbers) → m ≡ numbers_of t → machine_fault t ≡ None → is_machine m ≡ true
in_ranges_as t m same h = rw same (in_ranges t h)
