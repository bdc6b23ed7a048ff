-- What is read, in words.
use Rattle.std.proofs.Common.{◌≡◌, ℕ, pos, negsuc, Bool, true, false, ◌&&◌, ◌||◌, not, if◌then◌else◌, List, [], ◌∷◌, Option, Some, None, Ok, Contains, Ordering, Less, Equal, Greater, nat_cmp, is_eq, option_and_then, map, drop, ◌⊎◌, inl, inr, refl, sym, subst, ap, ◌∙◌}
use Rattle.std.specs.List.{list_all, list_any, AllByRecursion}
use Rattle.std.specs.Str.{bytes_eq}
use Rattle.std.specs.Ordering.{match_ordering}
use Rattle.std.specs.Cmp.Lexicographic.{slice_cmp}
use Rattle.std.specs.Cmp.Derive.{both_true}
use Rattle.std.proofs.lemmas.Bool.{and_parts, false≢true}
use Rattle.std.proofs.lemmas.Cmp.{nat_list_cmp_total, nat_list_eq_equiv, tied_itself}
use Rattle.std.proofs.lemmas.Slice.Eq.{bytes_eq-Decides}
use Rattle.std.proofs.lemmas.Map.Text.{is_eq-slice_cmp}
use Rattle.std.proofs.lemmas.Map.Views.{list_any-from_Contains, Contains-from_any}
use Rattle.toml.specs.Data.{Data, integer, as_integer, Members, no_members, member, get_member}
use Rattle.vx_isa.specs.Numbers.{Numbers, is_between, is_machine}
use Rattle.vx_machine.specs.declared.description.Field.{Field}
use Rattle.vx_machine.specs.declared.description.MachineFault.{MachineFault}
use Rattle.vx_machine.specs.declared.description.MachineFault.TheVariants.{Bad}
use Rattle.vx_machine.specs.Descriptions.{names, name_of, fields, branches_field, whole, whole_or_one, number_at, branches_at, has_unknown, is_within, fault_of, fault_if_there, first_fault, machine_fault, numbers_of, numbers_unless, of_table, table_of, Describes, ReadsInWords}
use Rattle.vx_machine.proofs.Ranges.{passes, first_none, known, in_ranges, last_fault, all_left}

-- the keys

same_from_equal : (k l : List ℕ) → slice_cmp nat_cmp k l ≡ Equal → k ≡ l
same_from_equal k l e = (bytes_eq-Decides k l).0 (sym (is_eq-slice_cmp k l) ∙ ap is_eq e)

is_named : (key : List ℕ) → list_any (bytes_eq key) names ≡ true → Contains names key
is_named key h = Contains-from_any (λ x y. (bytes_eq-Decides x y).0) key names h

or_false : (a b : Bool) → (not a || b) ≡ false → (a ≡ true) × (b ≡ false)
or_false true b h = (refl, h)
or_false false b h = absurd (false≢true (sym h))

one_known : (o : Ordering) (key l : List ℕ) (e d : Data) (ms : Members) → slice_cmp nat_cmp key l ≡ o → Contains names l
    → ((k : List ℕ) (x : Data) → get_member k ms ≡ Some x → Contains names k) → match_ordering o (get_member key ms) (Some e) (get_member key ms) ≡ Some d → Contains names key
one_known Less key l e d ms cmp here more h = more key d h
one_known Equal key l e d ms cmp here more h = subst (λ (k : List ℕ). Contains names k) (sym (same_from_equal key l cmp)) here
one_known Greater key l e d ms cmp here more h = more key d h

keys_known : (t : Members) → has_unknown t ≡ false → (key : List ℕ) (d : Data) → get_member key t ≡ Some d → Contains names key
keys_known no_members h key d found = cc
keys_known (member l e ms) h key d found =
    let (here, more) = or_false (list_any (bytes_eq l) names) (has_unknown ms) h in
    one_known (slice_cmp nat_cmp key l) key l e d ms refl (is_named l here) (keys_known ms more) found

found_first : (o : Ordering) (e d : Data) (rest : Option Data) → rest ≡ Some d → (x : Data) × (match_ordering o rest (Some e) rest ≡ Some x)
found_first Less e d rest h = (d, h)
found_first Equal e d rest h = (e, refl)
found_first Greater e d rest h = (d, h)

none_unknown : (t : Members) → ((key : List ℕ) (d : Data) → get_member key t ≡ Some d → Contains names key) → has_unknown t ≡ false
none_unknown no_members h = refl
none_unknown (member l e ms) h =
    let here = list_any-from_Contains nat_list_eq_equiv l names (h l e (rw (tied_itself nat_list_cmp_total l))) in
    let more = none_unknown ms (λ key d found. let (x, first) = found_first (slice_cmp nat_cmp key l) e d (get_member key ms) found in h key x first) in
    rw (here, more)

-- the fields

abbrev Stands : Members → ℕ → Type 0
Stands t n = get_member (name_of n) t ≡ Some (integer (pos (number_at t n)))

whole_within : (f : Field) (d : Data) → is_within f (as_integer d) ≡ true → d ≡ integer (pos (whole (as_integer d)))
whole_within f (integer (pos n)) h = refl
whole_within f (integer (negsuc n)) h = absurd (false≢true h)
whole_within f d h = absurd (false≢true h)

stands_if : (f : Field) (o : Option Data) → fault_of f o ≡ None → o ≡ Some (integer (pos (whole (option_and_then as_integer o))))
stands_if f None h = cc
stands_if f (Some d) h =
    let inside : is_within f (as_integer d) ≡ true = elim (is_within f (as_integer d)) as (λ b. (if b then None else Some (Bad 3 f.number)) ≡ None → b ≡ true) [ true ↦ λ e. refl | false ↦ λ e. cc ] h in
    ap Some (whole_within f d inside)

all_stand : (t : Members) (fs : List Field) → first_fault t fs ≡ None → AllByRecursion (λ f. Stands t f.number) fs
all_stand t [] h = tt
all_stand t (f ∷ fs) h =
    let o = get_member (name_of f.number) t in
    let (here, more) = first_none (fault_of f o) (first_fault t fs) h in
    (stands_if f o here, all_stand t fs more)

no_fault_if : (t : Members) (fs : List Field) → AllByRecursion (λ f. Stands t f.number) fs → list_all (passes t) fs ≡ true → first_fault t fs ≡ None
no_fault_if t [] stand pass = refl
no_fault_if t (f ∷ fs) stand pass =
    let (here, more) = and_parts (passes t f) (list_all (passes t) fs) pass in
    rw (stand.0, here) (no_fault_if t fs stand.1 more)

-- the tests of a machine, grouped to the right
right_all : (a : Bool) (bs : List Bool) → all_left a bs ≡ true → (a && list_all (λ b. b) bs) ≡ true
right_all a [] h = both_true h refl
right_all a (b ∷ bs) h =
    let (both, rest) = and_parts (a && b) (list_all (λ b. b) bs) (right_all (a && b) bs h) in
    let (first, second) = and_parts a b both in
    both_true first (both_true second rest)

fields_pass_if : (t : Members) → is_machine (numbers_of t) ≡ true → list_all (passes t) (fields (number_at t 2)) ≡ true
fields_pass_if t h = right_all (is_between 1 4 (number_at t 1)) (map (passes t) (drop 1 (fields (number_at t 2)))) (and_parts _ (is_between 1 2 (branches_at t)) h).0

number_if : (t : Members) (n k : ℕ) → get_member (name_of n) t ≡ Some (integer (pos k)) → (number_at t n ≡ k) × Stands t n
number_if t n k h =
    let is : number_at t n ≡ k = ap (λ o. whole (option_and_then as_integer o)) h in
    (is, h ∙ ap (λ m. Some (integer (pos m))) (sym is))

-- both directions

all_known : (b : Bool) (o : Option MachineFault) → (if b then Some (Bad 4 0) else o) ≡ None → b ≡ false
all_known true o h = cc
all_known false o h = refl

branches_stand : (o : Option Data) → fault_if_there branches_field o ≡ None → (o ≡ Some (integer (pos (whole_or_one o)))) ⊎ ((o ≡ None) × (whole_or_one o ≡ 1))
branches_stand None h = inr (refl, refl)
branches_stand (Some d) h = inl (stands_if branches_field (Some d) h)

branches_if : (o : Option Data) (n : ℕ) → is_between 1 2 n ≡ true → (o ≡ Some (integer (pos n))) ⊎ ((o ≡ None) × (n ≡ 1)) → (whole_or_one o ≡ n) × (fault_if_there branches_field o ≡ None)
branches_if o n within (inl there) = (ap whole_or_one there, ap (fault_if_there branches_field) there ∙ rw within refl)
branches_if o n within (inr (absent, one)) = (ap whole_or_one absent ∙ sym one, ap (fault_if_there branches_field) absent)

describes : (t : Members) → machine_fault t ≡ None → Describes t (numbers_of t)
unfolding names
describes t h =
    let s : AllByRecursion (λ f. Stands t f.number) (fields (number_at t 2)) = all_stand t (fields (number_at t 2)) (first_none _ _ (known t (has_unknown t) _ h)).0 in
    record {
      clusters = s.0;
      issue = s.1.0;
      alus = s.1.1.0;
      multipliers = s.1.1.1.0;
      memory_units = s.1.1.1.1.0;
      registers = s.1.1.1.1.1.0;
      branch_registers = s.1.1.1.1.1.1.0;
      read_ports = s.1.1.1.1.1.1.1.0;
      write_ports = s.1.1.1.1.1.1.1.1.0;
      copy_paths = s.1.1.1.1.1.1.1.1.1.0;
      latency_alu = s.1.1.1.1.1.1.1.1.1.1.0;
      latency_compare = s.1.1.1.1.1.1.1.1.1.1.1.0;
      latency_multiply = s.1.1.1.1.1.1.1.1.1.1.1.1.0;
      latency_load = s.1.1.1.1.1.1.1.1.1.1.1.1.1.0;
      latency_divide = s.1.1.1.1.1.1.1.1.1.1.1.1.1.1.0;
      latency_copy = s.1.1.1.1.1.1.1.1.1.1.1.1.1.1.1.0;
      branches = branches_stand (get_member (name_of 17) t) (last_fault t h);
      ranges = in_ranges t h;
      keys = keys_known t (all_known (has_unknown t) _ h);
    }

described : (t : Members) (m : Numbers) → Describes t m → (machine_fault t ≡ None) × (numbers_of t ≡ m)
unfolding names
described t m d =
    let n1 = number_if t 1 m.clusters d.clusters in
    let n2 = number_if t 2 m.issue d.issue in
    let n3 = number_if t 3 m.alus d.alus in
    let n4 = number_if t 4 m.multipliers d.multipliers in
    let n5 = number_if t 5 m.memory_units d.memory_units in
    let n6 = number_if t 6 m.registers d.registers in
    let n7 = number_if t 7 m.branch_registers d.branch_registers in
    let n8 = number_if t 8 m.read_ports d.read_ports in
    let n9 = number_if t 9 m.write_ports d.write_ports in
    let n10 = number_if t 10 m.copy_paths d.copy_paths in
    let n11 = number_if t 11 m.latency_alu d.latency_alu in
    let n12 = number_if t 12 m.latency_compare d.latency_compare in
    let n13 = number_if t 13 m.latency_multiply d.latency_multiply in
    let n14 = number_if t 14 m.latency_load d.latency_load in
    let n15 = number_if t 15 m.latency_divide d.latency_divide in
    let n16 = number_if t 16 m.latency_copy d.latency_copy in
    let copy : Numbers = record { clusters = m.clusters; issue = m.issue; alus = m.alus; multipliers = m.multipliers; memory_units = m.memory_units; registers = m.registers; branch_registers = m.branch_registers; read_ports = m.read_ports; write_ports = m.write_ports; copy_paths = m.copy_paths; latency_alu = m.latency_alu; latency_compare = m.latency_compare; latency_multiply = m.latency_multiply; latency_load = m.latency_load; latency_divide = m.latency_divide; latency_copy = m.latency_copy; branches = m.branches } in
    let n17 = branches_if (get_member (name_of 17) t) m.branches (and_parts _ (is_between 1 2 m.branches) d.ranges).1 d.branches in
    let same : numbers_of t ≡ copy = cc in
    let ranges : is_machine (numbers_of t) ≡ true = subst (λ (n : Numbers). is_machine n ≡ true) (sym same) d.ranges in
    let stand : AllByRecursion (λ f. Stands t f.number) (fields (number_at t 2)) = (n1.1, (n2.1, (n3.1, (n4.1, (n5.1, (n6.1, (n7.1, (n8.1, (n9.1, (n10.1, (n11.1, (n12.1, (n13.1, (n14.1, (n15.1, (n16.1, tt)))))))))))))))) in
    (rw (none_unknown t d.keys, no_fault_if t (fields (number_at t 2)) stand (fields_pass_if t ranges)) n17.1, same)

no_why : (o : Option MachineFault) (n m : Numbers) → numbers_unless o n ≡ Ok m → (o ≡ None) × (n ≡ m)
no_why None n m h = (refl, cc)
no_why (Some why) n m h = cc

from_reading : (o : Option Members) (m : Numbers) → of_table o ≡ Ok m → (t : Members) × (o ≡ Some t) × Describes t m
from_reading None m h = cc
from_reading (Some t) m h =
    let (free, same) = no_why (machine_fault t) (numbers_of t) m h in
    (t, refl, subst (λ (n : Numbers). Describes t n) same (describes t free))

to_reading : (o : Option Members) (t : Members) (m : Numbers) → o ≡ Some t → Describes t m → of_table o ≡ Ok m
to_reading o t m at d =
    let (free, same) = described t m d in
    rw (at, free) (ap Ok same)

pub reads_in_words : ReadsInWords
reads_in_words bytes m = (from_reading (table_of bytes) m, λ (t, at, d). to_reading (table_of bytes) t m at d)
