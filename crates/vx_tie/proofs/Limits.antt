-- Words of one operation, and of one on each cluster, are well formed and fit.
use Rattle.std.proofs.Common.{◌≡◌, ◌≢◌, ◌<◌, ◌≤◌, ◌⊎◌, inl, inr, ⊎_elim, ◌+◌, ℕ, zero, suc, Bool, true, false, ◌&&◌, ◌||◌, not, eqb, nat_le, nat_lt, cond, Option, Some, None, List, [], ◌∷◌, ◌++◌, map, count_by, refl, sym, ap, ◌∙◌, subst, arith}
use Rattle.std.specs.List.{list_all, list_any, flat_map}
use Rattle.std.specs.Cmp.Derive.{both_true}
use Rattle.std.proofs.lemmas.Bool.{and_parts, leb-true, le-leb, lt-ltb, ne_eqb}
use Rattle.vx_flow.specs.Walk.{numbers}
use Rattle.vx_isa.specs.declared.operation.Register.{Register}
use Rattle.vx_isa.specs.declared.operation.Register.TheVariants.{General, Branch, Link}
use Rattle.vx_isa.specs.declared.operation.BranchRegister.{BranchRegister}
use Rattle.vx_isa.specs.declared.operation.Source.{Source}
use Rattle.vx_isa.specs.declared.operation.Source.TheVariants.{Held, Number}
use Rattle.vx_isa.specs.declared.operation.UnitKind.TheVariants.{Alu, Multiply, Memory, Copies}
use Rattle.vx_isa.specs.declared.operation.Operation.{Operation}
use Rattle.vx_isa.specs.declared.operation.Operation.TheVariants.{Compute, Move, Select, Load, Store, Input, More, OutText, OutDecimal, OutByte, Goto, BranchOn, Call, Return, FromLink, ToLink, EndByTrap, Halt}
use Rattle.vx_isa.specs.Numbers.{Numbers, is_machine, IsMachine}
use Rattle.vx_isa.specs.Operations.{same, cluster_of, read_of, reads_of, list_of, destination_of, is_control, is_lone, is_observable}
use Rattle.vx_isa.specs.Fits.{operands, destinations, is_twice, keeps_to_cluster, is_in_file, is_bad_word, is_of, count_on, reads_on, writes_on, takes_read_port, takes_write_port, all_below, stands_on, fits_cluster, fits_control, fits}
use Rattle.vx_isa.proofs.FitsLaw.{six_parts, six_together, all_below-holds, registers_pass}
use Rattle.vx_isa.proofs.Lists.{count_by-append, count_by-cons}
use Rattle.vx_isa.proofs.Ranges.{ranges}
use Rattle.vx_target.specs.Target.{stack_on}
use Rattle.vx_target.proofs.Limits.{Limits}

-- well formed, and fits

abbrev pub Good : Numbers → List Operation → Type 0
Good m ops = (is_bad_word m ops ≡ false) × (fits m ops ≡ true)

bad_parts : (a b c : Bool) → a ≡ false → b ≡ true → c ≡ true → (a || not b || not c) ≡ false
bad_parts true b c e f g = absurd (let z : true ≡ false = e in cc)
bad_parts false true true e f g = refl
bad_parts false true false e f g = absurd (let z : false ≡ true = g in cc)
bad_parts false false c e f g = absurd (let z : false ≡ true = f in cc)

all_filed : (m : Numbers) (ops : List Operation) → fits m ops ≡ true → list_all (is_in_file m) (operands ops ++ destinations ops) ≡ true
all_filed m ops fit =
    let six = six_parts (is_machine m) (stands_on m ops) (all_below m.clusters (fits_cluster m ops)) (nat_le (count_by (is_of Copies) ops) m.copy_paths) (fits_control m ops) (nat_le (count_by is_observable ops) 1) fit in
    (and_parts (list_all (λ op. nat_lt (cluster_of op) m.clusters) ops) (list_all (is_in_file m) (operands ops ++ destinations ops)) six.two).1

pub well : (m : Numbers) (ops : List Operation) → is_twice (destinations ops) ≡ false → list_all keeps_to_cluster ops ≡ true → fits m ops ≡ true → Good m ops
well m ops once keeps fit = (bad_parts (is_twice (destinations ops)) (list_all keeps_to_cluster ops) (list_all (is_in_file m) (operands ops ++ destinations ops)) once keeps (all_filed m ops fit), fit)

not_bad : (a b c : Bool) → (a || not b || not c) ≡ false → (a ≡ false) × (b ≡ true)
not_bad true b c e = absurd (let z : true ≡ false = e in cc)
not_bad false true c e = (refl, refl)
not_bad false false c e = absurd (let z : true ≡ false = e in cc)

-- an operation without a destination in front of others
pub good_behind : (m : Numbers) (op : Operation) (ops : List Operation) → destination_of op ≡ None → keeps_to_cluster op ≡ true → Good m ops → fits m (op ∷ ops) ≡ true → Good m (op ∷ ops)
good_behind m op ops none keeps good fit =
    let a = not_bad (is_twice (destinations ops)) (list_all keeps_to_cluster ops) (list_all (is_in_file m) (operands ops ++ destinations ops)) good.0 in
    well m (op ∷ ops) (ap (λ d. is_twice (list_of d ++ destinations ops)) none ∙ a.0) (ap (λ b. b && list_all keeps_to_cluster ops) keeps ∙ a.1) fit

-- an operation of a good word keeps to its cluster
pub keeps_alone : (m : Numbers) (op : Operation) → Good m (op ∷ []) → keeps_to_cluster op ≡ true
keeps_alone m op good =
    let a = not_bad (is_twice (destinations (op ∷ []))) (list_all keeps_to_cluster (op ∷ [])) (list_all (is_in_file m) (operands (op ∷ []) ++ destinations (op ∷ []))) good.0 in
    (and_parts (keeps_to_cluster op) true a.1).0

-- counts

abbrev pub bit : Bool → ℕ
bit b = cond b 1 0

pub bit_le : (b : Bool) → bit b ≤ 1
bit_le true = omega arith
bit_le false = omega arith

pub count_single : {A : Type 0} (p : A → Bool) (x : A) → count_by p (x ∷ []) ≤ 1
count_single p x = let a = bit_le (p x) in let k : count_by p (x ∷ []) ≡ bit (p x) + 0 = count_by-cons p x [] in omega arith

pub count_none : {A : Type 0} (p : A → Bool) (x : A) → p x ≡ false → count_by p (x ∷ []) ≡ 0
count_none p x e = let a : bit (p x) ≡ 0 = ap bit e in let k : count_by p (x ∷ []) ≡ bit (p x) + 0 = count_by-cons p x [] in omega arith

pub source_reads : (k : ℕ) (a : Source) → count_by (takes_read_port k) (read_of a) ≤ 1
source_reads k (Held r) = count_single (takes_read_port k) (General r)
source_reads k (Number z) = let q : count_by (takes_read_port k) [] ≡ 0 = refl in omega arith

pub no_branch : (k : ℕ) (t : BranchRegister) → takes_read_port k (Branch t) ≡ false
no_branch k t = by (eqb t.cluster k)
  where
    by : (b : Bool) → ((b && false) && true) ≡ false
    by true = refl
    by false = refl

two_sources : (k : ℕ) (a b : Source) → count_by (takes_read_port k) (read_of a ++ read_of b) ≤ 2
two_sources k a b = let x = source_reads k a in let y = source_reads k b in let c = count_by-append (takes_read_port k) (read_of a) (read_of b) in omega arith

nothing : (k : ℕ) → count_by (takes_read_port k) [] ≤ 2
nothing k = let q : count_by (takes_read_port k) [] ≡ 0 = refl in omega arith

single : (k : ℕ) (r : Register) → count_by (takes_read_port k) (r ∷ []) ≤ 2
single k r = let q = count_single (takes_read_port k) r in omega arith

source_two : (k : ℕ) (a : Source) → count_by (takes_read_port k) (read_of a) ≤ 2
source_two k a = let q = source_reads k a in omega arith

pub reads_two : (k : ℕ) (op : Operation) → count_by (takes_read_port k) (reads_of op) ≤ 2
reads_two k (Compute j code to a b) = two_sources k a b
reads_two k (Move j to a) = source_two k a
reads_two k (Select j to t a b) =
    let x = two_sources k a b in
    let c = count_by-cons (takes_read_port k) (Branch t) (read_of a ++ read_of b) in
    let z : bit (takes_read_port k (Branch t)) ≡ 0 = ap bit (no_branch k t) in omega arith
reads_two k (Load j to o r d) = single k (General r)
reads_two k (Store j o r a) = let x = source_reads k a in let y = bit_le (takes_read_port k (General r)) in let c = count_by-cons (takes_read_port k) (General r) (read_of a) in omega arith
reads_two k (Input to) = nothing k
reads_two k (More to) = nothing k
reads_two k (OutText n) = nothing k
reads_two k (OutDecimal a) = source_two k a
reads_two k (OutByte a) = source_two k a
reads_two k (Goto p) = nothing k
reads_two k (BranchOn t y p) = single k (Branch (record { cluster = 0; number = t }))
reads_two k (Call p) = nothing k
reads_two k Return = single k Link
reads_two k (FromLink to) = single k Link
reads_two k (ToLink a) = source_two k a
reads_two k (EndByTrap t) = nothing k
reads_two k (Halt a) = source_two k a

-- words

-- each machine has a place for one control operation
one_place : (m : Numbers) (ops : List Operation) → IsMachine m → count_by is_control ops ≤ 1 → fits_control m ops ≡ true
one_place m ops machine few =
    let least = (ranges m machine).branches.least in
    both_true (le-leb (count_by is_control ops) m.branches (omega arith)) (ap (λ b. b || list_all (λ op. not (is_lone op)) ops) (le-leb (count_by is_control ops) 1 few))

module _ (m : Numbers) (machine : IsMachine m) (l : Limits m) where
  pub empty_good : Good m []
  empty_good = well m [] refl refl (six_together _ _ _ _ _ _ (record {
    one = machine;
    two = refl;
    three = all_below-holds (fits_cluster m []) m.clusters (λ k lt. six_together _ _ _ _ _ _ (record { one = at_least m.issue; two = at_least m.alus; three = at_least m.multipliers; four = at_least m.memory_units; five = at_least m.read_ports; six = at_least m.write_ports }));
    four = at_least m.copy_paths;
    five = one_place m [] machine (let q : count_by is_control [] ≡ 0 = refl in omega arith);
    six = refl;
  }))
    where
      at_least : (n : ℕ) → nat_le 0 n ≡ true
      at_least n = le-leb 0 n (omega arith)

  pub one_good : (op : Operation) → cluster_of op < m.clusters → keeps_to_cluster op ≡ true → list_all (is_in_file m) (reads_of op) ≡ true → list_all (is_in_file m) (list_of (destination_of op)) ≡ true → Good m (op ∷ [])
  one_good op lt keeps reads writes = well m (op ∷ []) (once (destination_of op)) (both_true keeps refl) (six_together _ _ _ _ _ _ (record {
    one = machine;
    two = both_true (both_true (lt-ltb (cluster_of op) m.clusters lt) refl) (registers_pass (is_in_file m) (op ∷ []) ∙ both_true (both_true reads refl) (both_true writes refl));
    three = all_below-holds (fits_cluster m (op ∷ [])) m.clusters (λ k below. six_together _ _ _ _ _ _ (record {
      one = most (λ o. (eqb (cluster_of o) k) && true) m.issue l.issue;
      two = most (λ o. (eqb (cluster_of o) k) && is_of Alu o) m.alus l.alus;
      three = most (λ o. (eqb (cluster_of o) k) && is_of Multiply o) m.multipliers l.multipliers;
      four = most (λ o. (eqb (cluster_of o) k) && is_of Memory o) m.memory_units l.memory_units;
      five = le-leb (reads_on k (op ∷ [])) m.read_ports (let a = reads_two k op in let c : reads_on k (op ∷ []) ≡ count_by (takes_read_port k) (reads_of op) + 0 = count_by-append (takes_read_port k) (reads_of op) [] in let b = l.reads in omega arith);
      six = le-leb (writes_on k (op ∷ [])) m.write_ports (let a = written (destination_of op) k in let b = l.writes in omega arith);
    }));
    four = most (is_of Copies) m.copy_paths l.copies;
    five = one_place m (op ∷ []) machine (count_single is_control op);
    six = most is_observable 1 (omega arith);
  }))
    where
      once : (d : Option Register) → is_twice (list_of d ++ []) ≡ false
      once None = refl
      once (Some r) = refl

      most : (p : Operation → Bool) (n : ℕ) → 1 ≤ n → nat_le (count_by p (op ∷ [])) n ≡ true
      most p n le = le-leb (count_by p (op ∷ [])) n (let a = count_single p op in omega arith)

      written : (d : Option Register) (k : ℕ) → count_by (takes_write_port k) (list_of d ++ []) ≤ 1
      written None k = let q : count_by (takes_write_port k) [] ≡ 0 = refl in omega arith
      written (Some r) k = count_single (takes_write_port k) r

-- an operation on each cluster

pub below_of : (n k : ℕ) → (n ≡ k) ⊎ (n ≢ k)
below_of zero zero = inl refl
below_of zero (suc k) = inr (λ e. let z : 0 ≡ suc k = e in omega arith)
below_of (suc n) zero = inr (λ e. let z : suc n ≡ 0 = e in omega arith)
below_of (suc n) (suc k) = ⊎_elim (λ e. inl (ap suc e)) (λ h. inr (λ e. h (let z : suc n ≡ suc k = e in omega arith))) (below_of n k)

module _ (g : ℕ → Operation) where
  abbrev Spread : ℕ → ℕ → List Operation
  Spread j n = map g (numbers j n)

  counted_none : (p : Operation → Bool) (k j n : ℕ) → ((i : ℕ) → i ≢ k → p (g i) ≡ false) → k < j → count_by p (Spread j n) ≡ 0
  counted_none p k j zero h lt = refl
  counted_none p k j (suc n) h lt =
      let a = counted_none p k (j + 1) n h (omega arith) in
      let b : bit (p (g j)) ≡ 0 = ap bit (h j (λ e. let z : j ≡ k = e in omega arith)) in
      let c = count_by-cons p (g j) (Spread (j + 1) n) in omega arith

  counted_one : (p : Operation → Bool) (k j n : ℕ) → ((i : ℕ) → i ≢ k → p (g i) ≡ false) → count_by p (Spread j n) ≤ 1
  counted_one p k j zero h = let q : count_by p [] ≡ 0 = refl in omega arith
  counted_one p k j (suc n) h =
      let c = count_by-cons p (g j) (Spread (j + 1) n) in
      ⊎_elim
      (λ e. let a = counted_none p k (j + 1) n h (omega arith) in let b = bit_le (p (g j)) in omega arith)
      (λ ne. let a = counted_one p k (j + 1) n h in let b : bit (p (g j)) ≡ 0 = ap bit (h j ne) in omega arith)
      (below_of j k)

  flat_none : (f : Operation → List Register) (p : Register → Bool) (k j n : ℕ) → ((i : ℕ) → i ≢ k → count_by p (f (g i)) ≡ 0) → k < j → count_by p (flat_map f (Spread j n)) ≡ 0
  flat_none f p k j zero h lt = refl
  flat_none f p k j (suc n) h lt =
      let a = flat_none f p k (j + 1) n h (omega arith) in
      let b = h j (λ e. let z : j ≡ k = e in omega arith) in
      let c = count_by-append p (f (g j)) (flat_map f (Spread (j + 1) n)) in omega arith

  flat_one : (f : Operation → List Register) (p : Register → Bool) (k j n : ℕ) → ((i : ℕ) → i ≢ k → count_by p (f (g i)) ≡ 0) → ((i : ℕ) → count_by p (f (g i)) ≤ 1) → count_by p (flat_map f (Spread j n)) ≤ 1
  flat_one f p k j zero h one = let q : count_by p [] ≡ 0 = refl in omega arith
  flat_one f p k j (suc n) h one =
      let c = count_by-append p (f (g j)) (flat_map f (Spread (j + 1) n)) in
      ⊎_elim
      (λ e. let a = flat_none f p k (j + 1) n h (omega arith) in let b = one j in omega arith)
      (λ ne. let a = flat_one f p k (j + 1) n h one in let b = h j ne in omega arith)
      (below_of j k)

  all_spread : (q : Operation → Bool) (j n : ℕ) → ((i : ℕ) → i < j + n → q (g i) ≡ true) → list_all q (Spread j n) ≡ true
  all_spread q j zero h = refl
  all_spread q j (suc n) h = both_true (h j (omega arith)) (all_spread q (j + 1) n (λ i lt. h i (omega arith)))

  module _ (to_is : (k : ℕ) → destination_of (g k) ≡ Some (General (stack_on k))) where
    abbrev To : ℕ → ℕ → List Register
    To j n = destinations (Spread j n)

    to_cons : (j n : ℕ) → To j (suc n) ≡ General (stack_on j) ∷ To (j + 1) n
    to_cons j n = ap (λ d. list_of d ++ To (j + 1) n) (to_is j)

    not_later : (i j n : ℕ) → i < j → list_any (same (General (stack_on i))) (To j n) ≡ false
    not_later i j zero lt = refl
    not_later i j (suc n) lt =
        let other : eqb i j ≡ false = ne_eqb i j (λ e. let z : i ≡ j = e in omega arith) in
        let here : same (General (stack_on i)) (General (stack_on j)) ≡ false = ap (λ b. b && true) other in
        ap (list_any (same (General (stack_on i)))) (to_cons j n) ∙ ap (λ b. b || list_any (same (General (stack_on i))) (To (j + 1) n)) here ∙ not_later i (j + 1) n (omega arith)

    not_twice : (j n : ℕ) → is_twice (To j n) ≡ false
    not_twice j zero = refl
    not_twice j (suc n) = ap is_twice (to_cons j n) ∙ ap (λ b. b || is_twice (To (j + 1) n)) (not_later j (j + 1) n (omega arith)) ∙ not_twice (j + 1) n

    module _ (m : Numbers) (machine : IsMachine m) (l : Limits m) (at : (k : ℕ) → cluster_of (g k) ≡ k) (reads_at : (k i : ℕ) → i ≢ k → count_by (takes_read_port k) (reads_of (g i)) ≡ 0)
        (keeps : (k : ℕ) → keeps_to_cluster (g k) ≡ true) (no_copy : (k : ℕ) → is_of Copies (g k) ≡ false) (no_control : (k : ℕ) → is_control (g k) ≡ false) (unseen : (k : ℕ) → is_observable (g k) ≡ false)
        (reads_one : (k i : ℕ) → count_by (takes_read_port k) (reads_of (g i)) ≤ 1) (filed : (k : ℕ) → k < m.clusters → list_all (is_in_file m) (reads_of (g k)) ≡ true) where
      abbrev Ops : List Operation
      Ops = Spread 0 m.clusters

      away : (p : Operation → Bool) (k i : ℕ) → i ≢ k → ((eqb (cluster_of (g i)) k) && p (g i)) ≡ false
      away p k i ne = ap (λ c. eqb c k && p (g i)) (at i) ∙ ap (λ b. b && p (g i)) (ne_eqb i k ne)

      on_one : (p : Operation → Bool) (k n : ℕ) → 1 ≤ n → nat_le (count_on k p Ops) n ≡ true
      on_one p k n le = le-leb (count_on k p Ops) n (let a = counted_one (λ o. (eqb (cluster_of o) k) && p o) k 0 m.clusters (away p k) in omega arith)

      none_of : (p : Operation → Bool) (n : ℕ) → ((k : ℕ) → p (g k) ≡ false) → nat_le (count_by p Ops) n ≡ true
      none_of p n h = le-leb (count_by p Ops) n (let a = none 0 m.clusters in omega arith)
        where
          none : (j k : ℕ) → count_by p (Spread j k) ≡ 0
          none j zero = refl
          none j (suc k) = let a = none (j + 1) k in let b : bit (p (g j)) ≡ 0 = ap bit (h j) in let c = count_by-cons p (g j) (Spread (j + 1) k) in omega arith

      writes_off : (k i : ℕ) → i ≢ k → count_by (takes_write_port k) (list_of (destination_of (g i))) ≡ 0
      writes_off k i ne = ap (λ d. count_by (takes_write_port k) (list_of d)) (to_is i) ∙ count_none (takes_write_port k) (General (stack_on i)) (ap (λ b. b && true) (ne_eqb i k ne))

      writes_one : (k i : ℕ) → count_by (takes_write_port k) (list_of (destination_of (g i))) ≤ 1
      writes_one k i = subst (λ d. count_by (takes_write_port k) (list_of d) ≤ 1) (sym (to_is i)) (count_single (takes_write_port k) (General (stack_on i)))

      to_filed : (k : ℕ) → k < m.clusters → list_all (is_in_file m) (list_of (destination_of (g k))) ≡ true
      to_filed k lt = ap (λ d. list_all (is_in_file m) (list_of d)) (to_is k) ∙ both_true (both_true (lt-ltb k m.clusters lt) (lt-ltb 1 m.registers (let a = l.registers in omega arith))) refl

      on_cluster : (k : ℕ) → fits_cluster m Ops k ≡ true
      on_cluster k = six_together _ _ _ _ _ _ (record {
        one = on_one (λ o. true) k m.issue l.issue;
        two = on_one (is_of Alu) k m.alus l.alus;
        three = on_one (is_of Multiply) k m.multipliers l.multipliers;
        four = on_one (is_of Memory) k m.memory_units l.memory_units;
        five = le-leb (reads_on k Ops) m.read_ports (let a = flat_one reads_of (takes_read_port k) k 0 m.clusters (reads_at k) (reads_one k) in let b = l.reads in omega arith);
        six = le-leb (writes_on k Ops) m.write_ports (let a = flat_one (λ op. list_of (destination_of op)) (takes_write_port k) k 0 m.clusters (writes_off k) (writes_one k) in let b = l.writes in omega arith);
      })

      pub spread_good : Good m Ops
      spread_good = well m Ops (not_twice 0 m.clusters) (all_spread keeps_to_cluster 0 m.clusters (λ i lt. keeps i)) (six_together _ _ _ _ _ _ (record {
        one = machine;
        two = both_true
            (all_spread (λ op. nat_lt (cluster_of op) m.clusters) 0 m.clusters (λ i lt. ap (λ c. nat_lt c m.clusters) (at i) ∙ lt-ltb i m.clusters (omega arith)))
            (registers_pass (is_in_file m) Ops ∙ both_true (all_spread (λ op. list_all (is_in_file m) (reads_of op)) 0 m.clusters (λ i lt. filed i (omega arith))) (all_spread (λ op. list_all (is_in_file m) (list_of (destination_of op))) 0 m.clusters (λ i lt. to_filed i (omega arith))));
        three = all_below-holds (fits_cluster m Ops) m.clusters (λ k lt. on_cluster k);
        four = none_of (is_of Copies) m.copy_paths no_copy;
        five = one_place m Ops machine (leb-true (count_by is_control Ops) 1 (none_of is_control 1 no_control));
        six = none_of is_observable 1 unseen;
      }))
