-- The test of a word and the words for it.
use Rattle.std.proofs.Common.{◌≡◌, ℕ, zero, suc, ◌<◌, ◌≤◌, Bool, ◌&&◌, ◌||◌, not, ◌==◌, ◌⊎◌, All, slice_index_or, ap, true, false, nat_lt, nat_le, List, [], ◌∷◌, ◌++◌, sym, ◌∙◌, refl, inl, inr, count_by, arith}
use Rattle.std.proofs.lemmas.Bool.{false≢true, cases_eq, and_parts, leb-true, le-leb, lt-ltb}
use Rattle.std.proofs.lemmas.Bool.Decides.{nat_tests, leb_tells}
use Rattle.std.specs.Cmp.Derive.{both_true}
use Rattle.std.specs.List.{list_all}
use Rattle.std.proofs.lemmas.List.Folds.{list_all-append}
use Rattle.std.proofs.lemmas.List.Sums.{AllPass-from_list_all, list_all-from_AllPass}
use Rattle.vx_isa.specs.declared.operation.UnitKind.TheVariants.{Alu, Multiply, Memory, Copies}
use Rattle.vx_isa.specs.declared.operation.Register.{Register}
use Rattle.vx_isa.specs.declared.operation.Register.TheVariants.{General, Branch, Link}
use Rattle.vx_isa.specs.declared.operation.Operation.{Operation}
use Rattle.vx_isa.specs.Numbers.{Numbers, is_machine}
use Rattle.vx_isa.specs.Operations.{list_of, cluster_of, reads_of, destination_of, is_control, is_lone, is_observable}
use Rattle.vx_isa.specs.Fits.{operands, destinations, all_below, stands_on, fits_cluster, fits_control, FitsMachine, FitsInWords, is_of, count_on, reads_on, writes_on, has, is_in_file, IsInFile, takes_read_port, takes_write_port}
use Rattle.vx_isa.proofs.Lists.{list_all-flat_map, count_by-none, count_by-cons}

-- the registers of a word pass where those of each operation do
pub registers_pass : (p : Register → Bool) (ops : List Operation)
    → list_all p (operands ops ++ destinations ops) ≡ (list_all (λ op. list_all p (reads_of op)) ops && list_all (λ op. list_all p (list_of (destination_of op))) ops)
registers_pass p ops = list_all-append p (operands ops) (destinations ops) ∙ rw (list_all-flat_map p reads_of ops, list_all-flat_map p (λ op. list_of (destination_of op)) ops)

and_false : (a : Bool) → (a && false) ≡ false
and_false true = refl
and_false false = refl

-- one that fails is enough
pub all_below-fails : (p : ℕ → Bool) (n k : ℕ) → k < n → p k ≡ false → all_below n p ≡ false
all_below-fails p zero k h fails = absurd (omega arith)
all_below-fails p (suc n) k h fails =
    elim (cases_eq k n) [
      | inl same ↦ rw (← same, fails) (and_false _)
      | inr other ↦ rw (all_below-fails p n k (omega arith) fails)
    ]

pub all_below-at : (p : ℕ → Bool) (n k : ℕ) → all_below n p ≡ true → k < n → p k ≡ true
all_below-at p zero k all h = absurd (omega arith)
all_below-at p (suc n) k all h =
    let (before, last) = and_parts (all_below n p) (p n) all in
    elim (cases_eq k n) [
      | inl same ↦ rw same last
      | inr other ↦ all_below-at p n k before (omega arith)
    ]

pub all_below-holds : (p : ℕ → Bool) (n : ℕ) → ((k : ℕ) → k < n → p k ≡ true) → all_below n p ≡ true
all_below-holds p zero each = refl
all_below-holds p (suc n) each = both_true (all_below-holds p n (λ k h. each k (omega arith))) (each n (omega arith))

-- what a cluster has

pub has_there : (m : Numbers) (k n : ℕ) → k < m.clusters → has m k n ≡ n
has_there m k n h = rw (lt-ltb k m.clusters h)

has_none : (m : Numbers) (k n : ℕ) → m.clusters ≤ k → has m k n ≡ 0
has_none m k n h = grind (arith, nat_tests)

pub is_there : (m : Numbers) (k n : ℕ) → 0 < has m k n → k < m.clusters
is_there m k n h = grind (arith, nat_tests)

pub limit : (m : Numbers) (k n c : ℕ) → (k < m.clusters → nat_le c n ≡ true) → (m.clusters ≤ k → c ≡ 0) → c ≤ has m k n
limit m k n c there absent =
    elim (leb_tells (suc k) m.clusters) [
      | inl present ↦ let le = leb-true c n (there (omega arith)) in rw (has_there m k n (omega arith)) le
      | inr not_there ↦ rw (absent (omega arith)) (omega arith)
    ]

pub limit_at : (m : Numbers) (k n c : ℕ) → k < m.clusters → c ≤ has m k n → nat_le c n ≡ true
limit_at m k n c there le = let e = has_there m k n there in le-leb c n (omega arith)

in_file : (m : Numbers) (r : Register) → is_in_file m r ≡ true → IsInFile m r
in_file m (General r) h = grind (arith, nat_tests)
in_file m (Branch r) h = grind (arith, nat_tests)
in_file m Link h = tt

in_file_back : (m : Numbers) (r : Register) → IsInFile m r → is_in_file m r ≡ true
in_file_back m (General r) h = grind (arith, nat_tests)
in_file_back m (Branch r) h = grind (arith, nat_tests)
in_file_back m Link h = refl

-- on a cluster that is not there

count_on-absent : (p : Operation → Bool) (n k : ℕ) (ops : List Operation) → n ≤ k → list_all (λ op. nat_lt (cluster_of op) n) ops ≡ true → count_on k p ops ≡ 0
count_on-absent p n k ops h all = count_by-none _ (λ op. nat_lt (cluster_of op) n) ops (λ op below. grind (arith, nat_tests)) all

reads_none : (m : Numbers) (k : ℕ) (r : Register) → m.clusters ≤ k → is_in_file m r ≡ true → takes_read_port k r ≡ false
reads_none m k (General r) h all = grind (arith, nat_tests)
reads_none m k (Branch r) h all = grind (arith, nat_tests)
reads_none m k Link h all = grind (arith, nat_tests)

writes_none : (m : Numbers) (k : ℕ) (r : Register) → m.clusters ≤ k → is_in_file m r ≡ true → takes_write_port k r ≡ false
writes_none m k (General r) h all = grind (arith, nat_tests)
writes_none m k (Branch r) h all = grind (arith, nat_tests)
writes_none m k Link h all = grind (arith, nat_tests)

-- operations stand on clusters that have slots
stand : (m : Numbers) (ops : List Operation) → ((k : ℕ) → count_on k (λ op. true) ops ≤ has m k m.issue) → list_all (λ op. nat_lt (cluster_of op) m.clusters) ops ≡ true
stand m [] slots = refl
stand m (op ∷ ops) slots =
    let q = λ (k : ℕ) (o : Operation). (cluster_of o == k) && true in
    let here = count_by-cons (q (cluster_of op)) op ops in
    let some : 0 < has m (cluster_of op) m.issue = let le = slots (cluster_of op) in grind (arith, nat_tests) in
    both_true (lt-ltb _ _ (is_there m (cluster_of op) m.issue some)) (stand m ops (λ k. let le = slots k in let cons = count_by-cons (q k) op ops in omega arith))

-- a test of six parts

pub record Six (a b c d e f : Bool) : Type 0 where
  pub one : a ≡ true
  pub two : b ≡ true
  pub three : c ≡ true
  pub four : d ≡ true
  pub five : e ≡ true
  pub six : f ≡ true

pub six_parts : (a b c d e f : Bool) → (a && b && c && d && e && f) ≡ true → Six a b c d e f
six_parts true true true true true true h = record { one = refl; two = refl; three = refl; four = refl; five = refl; six = refl }
six_parts a b c d e f h = absurd (false≢true h)

pub six_together : (a b c d e f : Bool) → Six a b c d e f → (a && b && c && d && e && f) ≡ true
six_together a b c d e f s = both_true (both_true (both_true (both_true (both_true s.one s.two) s.three) s.four) s.five) s.six

-- both directions

abbrev ClusterFits : Numbers → List Operation → ℕ → Type 0
ClusterFits m ops k =
    Six (nat_le (count_on k (λ op. true) ops) m.issue) (nat_le (count_on k (is_of Alu) ops) m.alus) (nat_le (count_on k (is_of Multiply) ops) m.multipliers)
    (nat_le (count_on k (is_of Memory) ops) m.memory_units) (nat_le (reads_on k ops) m.read_ports) (nat_le (writes_on k ops) m.write_ports)

cluster_parts : (m : Numbers) (ops : List Operation) (k : ℕ) → all_below m.clusters (fits_cluster m ops) ≡ true → k < m.clusters → ClusterFits m ops k
cluster_parts m ops k all below = six_parts _ _ _ _ _ _ (all_below-at (fits_cluster m ops) m.clusters k all below)

abbrev WordFits : Numbers → List Operation → Type 0
WordFits m ops =
    Six (is_machine m) (stands_on m ops) (all_below m.clusters (fits_cluster m ops))
    (nat_le (count_by (is_of Copies) ops) m.copy_paths) (fits_control m ops) (nat_le (count_by is_observable ops) 1)

-- the control places

or_right : (a b : Bool) → b ≡ true → (a || b) ≡ true
or_right true b h = refl
or_right false b h = h

lone_in_words : (ops : List Operation) (b : Bool) → nat_le (count_by is_control ops) 1 ≡ b → (b || list_all (λ op. not (is_lone op)) ops) ≡ true →
    (count_by is_control ops ≤ 1) ⊎ All (λ op. is_lone op ≡ false) ops
lone_in_words ops true e h = inl (leb-true _ _ e)
lone_in_words ops false e h = inr (λ k d below. none (slice_index_or ops k d) (AllPass-from_list_all (λ op. not (is_lone op)) ops h k d below))
  where
    none : (op : Operation) → not (is_lone op) ≡ true → is_lone op ≡ false
    none op h = by (is_lone op) refl h
      where
        by : (b : Bool) → is_lone op ≡ b → not b ≡ true → b ≡ false
        by true e h = absurd (false≢true h)
        by false e h = refl

lone_by_test : (ops : List Operation) → (count_by is_control ops ≤ 1) ⊎ All (λ op. is_lone op ≡ false) ops → (nat_le (count_by is_control ops) 1 || list_all (λ op. not (is_lone op)) ops) ≡ true
lone_by_test ops (inl few) = rw (le-leb _ _ few)
lone_by_test ops (inr none) = or_right (nat_le (count_by is_control ops) 1) _ (list_all-from_AllPass (λ op. not (is_lone op)) ops (λ k d below. ap not (none k d below)))

in_words : (m : Numbers) (ops : List Operation) → WordFits m ops → FitsMachine m ops
in_words m ops s =
    let (on, inside) = and_parts (list_all (λ op. nat_lt (cluster_of op) m.clusters) ops) (list_all (is_in_file m) (operands ops ++ destinations ops)) s.two in
    let (reads, writes) = and_parts (list_all (is_in_file m) (operands ops)) (list_all (is_in_file m) (destinations ops)) (sym (list_all-append (is_in_file m) (operands ops) (destinations ops)) ∙ inside) in
    let each = λ (k : ℕ) (below : k < m.clusters). cluster_parts m ops k s.three below in
    record {
      ranges = s.one;
      slots = λ k. limit m k m.issue _ (λ below. (each k below).one) (λ gone. count_on-absent (λ op. true) m.clusters k ops gone on);
      alus = λ k. limit m k m.alus _ (λ below. (each k below).two) (λ gone. count_on-absent (is_of Alu) m.clusters k ops gone on);
      multipliers = λ k. limit m k m.multipliers _ (λ below. (each k below).three) (λ gone. count_on-absent (is_of Multiply) m.clusters k ops gone on);
      memory_units = λ k. limit m k m.memory_units _ (λ below. (each k below).four) (λ gone. count_on-absent (is_of Memory) m.clusters k ops gone on);
      read_ports = λ k. limit m k m.read_ports _ (λ below. (each k below).five) (λ gone. count_by-none (takes_read_port k) (is_in_file m) (operands ops) (λ r there. reads_none m k r gone there) reads);
      write_ports = λ k. limit m k m.write_ports _ (λ below. (each k below).six) (λ gone. count_by-none (takes_write_port k) (is_in_file m) (destinations ops) (λ r there. writes_none m k r gone there) writes);
      registers = λ k d h. in_file m _ (AllPass-from_list_all (is_in_file m) (operands ops ++ destinations ops) inside k d h);
      copies = leb-true _ _ s.four;
      control = leb-true _ _ (and_parts _ _ s.five).0;
      lone = lone_in_words ops (nat_le (count_by is_control ops) 1) refl (and_parts _ _ s.five).1;
      observable = leb-true _ _ s.six;
    }

by_test : (m : Numbers) (ops : List Operation) → FitsMachine m ops → WordFits m ops
by_test m ops f = record {
  one = f.ranges;
  two = both_true (stand m ops f.slots) (list_all-from_AllPass (is_in_file m) (operands ops ++ destinations ops) (λ k d h. in_file_back m _ (f.registers k d h)));
  three = all_below-holds (fits_cluster m ops) m.clusters (λ k below. six_together _ _ _ _ _ _ (record {
    one = limit_at m k m.issue _ below (f.slots k);
    two = limit_at m k m.alus _ below (f.alus k);
    three = limit_at m k m.multipliers _ below (f.multipliers k);
    four = limit_at m k m.memory_units _ below (f.memory_units k);
    five = limit_at m k m.read_ports _ below (f.read_ports k);
    six = limit_at m k m.write_ports _ below (f.write_ports k);
  }));
  four = le-leb _ _ f.copies;
  five = both_true (le-leb _ _ f.control) (lone_by_test ops f.lone);
  six = le-leb _ _ f.observable;
}

pub fits_in_words : FitsInWords
fits_in_words m ops = (λ h. in_words m ops (six_parts _ _ _ _ _ _ h), λ f. six_together _ _ _ _ _ _ (by_test m ops f))
