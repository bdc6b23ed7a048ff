-- What the operations that carry a planned word need of a machine: no more than its items.
use Rattle.std.proofs.Common.{◌≡◌, ◌≢◌, ◌<◌, ◌≤◌, ◌⊎◌, inl, inr, ⊎_elim, ◌+◌, ℕ, pos, Bool, true, false, ◌&&◌, ◌||◌, not, eqb, nat_lt, Option, Some, None, List, [], ◌∷◌, ◌++◌, length, map, count_by, refl, sym, ap, ◌∙◌, subst, arith}
use Rattle.std.specs.Prelude.{if◌then◌else◌}
use Rattle.std.specs.List.{list_all, filter}
use Rattle.std.specs.Cmp.Derive.{both_true}
use Rattle.std.proofs.lemmas.Bool.{and_parts, eqb-true, ne_eqb, lt-ltb, ltb-true}
use Rattle.std.proofs.lemmas.Bool.Decides.{nat_tests}
use Rattle.std.proofs.lemmas.List.Folds.{list_all-append}
use Rattle.vx_base.specs.declared.arithmetic.Code.{Code}
use Rattle.vx_base.specs.declared.arithmetic.Code.TheVariants.{Add, Mov, ToBranch, Mpylu, Mpyhs, Div, Rem}
use Rattle.vx_flow.specs.declared.graph.Bank.{Bank}
use Rattle.vx_flow.specs.declared.graph.Bank.TheVariants.{General as GeneralBank, Branch as BranchBank}
use Rattle.vx_flow.specs.declared.graph.Operand.{Operand}
use Rattle.vx_flow.specs.declared.graph.Operand.TheVariants.{Held as HeldValue, Number as AsNumber, Stack}
use Rattle.vx_flow.specs.declared.graph.Op.{Op}
use Rattle.vx_flow.specs.declared.graph.Op.TheVariants.{Compute as Computes, Select as Selects, Place, Load as Loads, Store as Stores, More as Asks, Input as Takes, Text, Decimal, Across, Base, PlaceIn}
use Rattle.vx_flow.specs.declared.trace.Homes.{Homes}
use Rattle.vx_flow.specs.Effects.{IsIn, is_unary, value_in, reads, writes}
use Rattle.vx_flow.specs.Operands.{is_observable as is_observable_op}
use Rattle.vx_flow.specs.Sound.{Sound}
use Rattle.vx_flow.proofs.Members.{in_left, in_right}
use Rattle.vx_isa.specs.declared.operation.GeneralRegister.{GeneralRegister}
use Rattle.vx_isa.specs.declared.operation.Register.{Register}
use Rattle.vx_isa.specs.declared.operation.Register.TheVariants.{General, Branch}
use Rattle.vx_isa.specs.declared.operation.Source.{Source}
use Rattle.vx_isa.specs.declared.operation.Source.TheVariants.{Held, Number}
use Rattle.vx_isa.specs.declared.operation.UnitKind.TheVariants.{Alu, Copies, Control}
use Rattle.vx_isa.specs.declared.operation.Operation.{Operation}
use Rattle.vx_isa.specs.declared.operation.Operation.TheVariants.{Compute, Move}
use Rattle.vx_isa.specs.Operations.{cluster_of_register, is_general, is_zero, cluster_of, read_of, reads_of, list_of, destination_of, unit_of, unit_of_code, same_unit, comes_from, is_branch as is_branch_op, is_lone, is_observable}
use Rattle.vx_isa.specs.Fits.{keeps_to_cluster, all_on, is_in_file, takes_read_port, takes_write_port}
use Rattle.vx_isa.proofs.Lists.{count_by-append, count_by-cons, count_by-none}
use Rattle.vx_room.specs.declared.items.ClusteredItem.{ClusteredItem}
use Rattle.vx_room.specs.declared.items.Item.TheVariants.{Plain as PlainItem}
use Rattle.vx_room.specs.Items.{base_of as base_operand, general_reads_of_op, takes_port, writes_general_op, unit_of_item}
use Rattle.vx_room.specs.Needs.{Needs}
use Rattle.vx_room.specs.Room.{home_of, source_of as room_source, read_clusters, is_at, stands_well}
use Rattle.vx_mixed.specs.declared.layout.Laid.{Laid}
use Rattle.vx_mixed.specs.declared.layout.Laid.TheVariants.{Plain, Split}
use Rattle.vx_mixed.specs.Settled.{read_there}
use Rattle.vx_mixed.specs.LaidSettled.{bank_in, item_reads, item_writes, laid_reads, laid_writes, Plans}
use Rattle.vx_target.specs.Target.{Target, home, is_branch, holds_branch, general, general_of, branch_of, register_of, source_of, access_base, is_own, stack_on, zero_on, bytes, computes, carried}
use Rattle.vx_target.specs.Carried.{IsMapped, item_of_laid}
use Rattle.vx_target.proofs.Forms.{to_branch}
use Rattle.vx_target.proofs.Proper.{PlainOperand, IsPlacedIn, ProperOp, ProperItems}
use Rattle.vx_target.proofs.Names.{Few, file_self}
use Rattle.vx_target.proofs.Enough.{few_reads, few_writes, named_busy, in_all_of, operands_code, across_source}
use Rattle.vx_target.proofs.Limits.{Limits}
use Rattle.vx_tie.proofs.Limits.{bit, count_single, count_none, no_branch, below_of}
use Rattle.vx_tie.proofs.Filed.{general_filed, branch_filed, general_there, branch_there}

same_eqb : (a b : ℕ) → a ≡ b → eqb a b ≡ true
same_eqb a b e = grind (arith, nat_tests)

-- computations, where a move has its own form

record Computing (k : ℕ) (code : Code) (to : Register) (g : GeneralRegister) (a b : Source) (o : Operation) : Type 0 where
  cluster : cluster_of o ≡ k
  reads : reads_of o ≡ (if is_unary code then read_of a else read_of a ++ read_of b)
  to_is : destination_of o ≡ Some (if is_unary code then General g else to)
  unit : comes_from k a ≡ true → unit_of o ≡ unit_of_code code
  observable : is_observable o ≡ false
  keeps : eqb (cluster_of_register (if is_unary code then General g else to)) k ≡ true → all_on k (reads_of o) ≡ true → keeps_to_cluster o ≡ true

computing : (k : ℕ) (code : Code) (to : Register) (g : GeneralRegister) (a b : Source) → Computing k code to g a b (computes k code to g a b)
computing k Mov to g a b = record { cluster = refl; reads = refl; to_is = refl; unit = λ e. ap (λ t. if t then Alu else Copies) e; observable = refl; keeps = λ e h. e }
computing k code to g a b = record { cluster = refl; reads = refl; to_is = refl; unit = λ e. refl; observable = refl; keeps = λ e h. both_true e h }

general_code : (code : Code) (v : ℕ) (a b : Operand) → writes_general_op (Computes code v a b) ≡ not (to_branch code)
general_code Add v a b = refl
general_code code v a b = refl

unary_general : (code : Code) → is_unary code ≡ true → to_branch code ≡ false
unary_general (ToBranch c) e = absurd (cc)
unary_general code e = refl

-- no operation on values takes a control place

no_control : (code : Code) → same_unit (unit_of_code code) Control ≡ false
no_control Mpylu = refl
no_control Mpyhs = refl
no_control Div = refl
no_control Rem = refl
no_control code = refl

no_control_op : (op : Op) → same_unit (unit_of_item (PlainItem op)) Control ≡ false
no_control_op (Computes code v a b) = no_control code
no_control_op op = refl

-- registers of one cluster

abbrev ports : List Operand → ℕ
ports ys = length (filter takes_port ys)

ports_cons : (x : Operand) (ys : List Operand) → ports (x ∷ ys) ≡ ports (x ∷ []) + ports ys
ports_cons (HeldValue v) ys = omega arith
ports_cons (AsNumber n) ys = omega arith
ports_cons Stack ys = omega arith

base_ports : (x : Operand) → ports (base_operand x ∷ []) ≡ 1
base_ports (HeldValue v) = refl
base_ports (AsNumber n) = refl
base_ports Stack = refl

off_cluster : (k c : ℕ) (rs : List Register) → k ≢ c → all_on k rs ≡ true → count_by (takes_read_port c) rs ≡ 0
off_cluster k c rs ne on = count_by-none (takes_read_port c) (λ r. eqb (cluster_of_register r) k) rs other on
  where
    other : (r : Register) → eqb (cluster_of_register r) k ≡ true → takes_read_port c r ≡ false
    other r e = let q = eqb-true (cluster_of_register r) k e in ap (λ b. b && is_general r && not (is_zero r)) (ne_eqb (cluster_of_register r) c (λ z. ne (sym q ∙ z)))

source_count : (k : ℕ) (src : Option ℕ) (ys : List Operand) → src ≡ Some k → count_by (is_at k) (map (λ y. src) ys) ≡ length ys
source_count k src [] e = refl
source_count k src (y ∷ ys) e =
    let a = source_count k src ys e in
    let q : is_at k src ≡ true = ap (is_at k) e ∙ same_eqb k k refl in
    let b : bit (is_at k src) ≡ 1 = ap bit q in
    let c = count_by-cons (is_at k) src (map (λ z. src) ys) in omega arith

write_general : (k c : ℕ) (g : GeneralRegister) → g.cluster ≡ k → count_by (takes_write_port c) (General g ∷ []) ≤ (if eqb k c && true then 1 else 0)
write_general k c g e = subst (λ j. count_by (takes_write_port c) (General g ∷ []) ≤ (if eqb j c && true then 1 else 0)) e (by (eqb g.cluster c) refl)
  where
    by : (b : Bool) → eqb g.cluster c ≡ b → count_by (takes_write_port c) (General g ∷ []) ≤ (if b && true then 1 else 0)
    by true q = count_single (takes_write_port c) (General g)
    by false q = let z = count_none (takes_write_port c) (General g) (ap (λ b. b && true) q) in omega arith

no_write : (c : ℕ) (r : Register) → is_general r ≡ false → count_by (takes_write_port c) (r ∷ []) ≡ 0
no_write c r e = count_none (takes_write_port c) r (ap (λ b. eqb (cluster_of_register r) c && b) e ∙ by (eqb (cluster_of_register r) c))
  where
    by : (b : Bool) → (b && false) ≡ false
    by true = refl
    by false = refl

no_register : (c n : ℕ) → count_by (takes_write_port c) [] ≤ n
no_register c n = let q : count_by (takes_write_port c) [] ≡ 0 = refl in omega arith

module _ (T : Target) (f : ℕ) (mapped : IsMapped T f) (sound : Sound (T.graph f)) (IsArray : ℕ → Type 0) (p : ℕ) (items : List Laid) (plans : Plans (T.layout f) p items) (proper : ProperItems T f IsArray items)
    (bank : (v : ℕ) → IsIn v (laid_reads items) ⊎ IsIn v (laid_writes items) → (b : Bank) × (bank_in (T.layout f) v ≡ Some b))
    (l : Limits T.machine) (well_placed : (x : Laid) → IsIn x items → stands_well T.machine (item_of_laid x) ≡ true) where
  abbrev Rs : List ℕ
  Rs = laid_reads items

  abbrev Ws : List ℕ
  Ws = laid_writes items

  abbrev N : ℕ → GeneralRegister
  N = general_of T f Rs

  abbrev TheHomes : Homes
  TheHomes = record { clusters = (T.layout f).homes.clusters }

  abbrev InFile : Register → Bool
  InFile r = is_in_file T.machine r

  abbrev Filed : List Register → Type 0
  Filed rs = list_all InFile rs ≡ true

  few_r : Few T f mapped Rs
  few_r = few_reads T f mapped sound IsArray p items plans proper bank

  few_w : Few T f mapped Ws
  few_w = few_writes T f mapped sound IsArray p items plans proper bank

  home_lt : (v : ℕ) → IsIn v Rs ⊎ IsIn v Ws → home T f v < T.machine.clusters
  home_lt v i = mapped.homes p v (named_busy T f mapped sound IsArray p items plans proper bank v i)

  in_reads : (op : Op) (k y : ℕ) → IsIn (Plain op k) items → IsIn y (reads op) → IsIn y Rs
  in_reads op k y i j = in_all_of item_reads (Plain op k) y items i j

  in_writes : (op : Op) (k y : ℕ) → IsIn (Plain op k) items → IsIn y (writes op) → IsIn y Ws
  in_writes op k y i j = in_all_of item_writes (Plain op k) y items i j

  cluster_lt : (op : Op) (k : ℕ) → IsIn (Plain op k) items → k < T.machine.clusters
  cluster_lt op k i = ltb-true k T.machine.clusters (and_parts (nat_lt k T.machine.clusters) (eqb k 0 || not (is_observable_op op)) (well_placed (Plain op k) i)).0

  first_cluster : (op : Op) (k : ℕ) → IsIn (Plain op k) items → is_observable_op op ≡ true → k ≡ 0
  first_cluster op k i e = eqb-true k 0 (by (eqb k 0) (ap (λ b. eqb k 0 || not b) (sym e) ∙ (and_parts (nat_lt k T.machine.clusters) (eqb k 0 || not (is_observable_op op)) (well_placed (Plain op k) i)).1))
    where
      by : (b : Bool) → (b || false) ≡ true → b ≡ true
      by true q = refl
      by false q = q

  proper_op : (op : Op) (k : ℕ) (xs : List Laid) → ProperItems T f IsArray xs → IsIn (Plain op k) xs → ProperOp T f IsArray op k
  proper_op op k [] h i = absurd i
  proper_op op k (Plain o j ∷ xs) h i = ⊎_elim (λ e. let a : op ≡ o = cc in let b : k ≡ j = cc in subst (λ z. ProperOp T f IsArray z k) (sym a) (subst (λ z. ProperOp T f IsArray o z) (sym b) h.0)) (λ m. proper_op op k xs h.1 m) i
  proper_op op k (Split test y q ∷ xs) h i = ⊎_elim (λ e. absurd (cc)) (λ m. proper_op op k xs h.1 m) i

  proper_test : (test q : ℕ) (y : Bool) (xs : List Laid) → ProperItems T f IsArray xs → IsIn (Split test y q) xs → holds_branch T f test ≡ true
  proper_test test q y [] h i = absurd i
  proper_test test q y (Plain o j ∷ xs) h i = ⊎_elim (λ e. absurd (cc)) (λ m. proper_test test q y xs h.1 m) i
  proper_test test q y (Split t z r ∷ xs) h i = ⊎_elim (λ e. let a : test ≡ t = cc in ap (holds_branch T f) a ∙ h.0.1) (λ m. proper_test test q y xs h.1 m) i

  as_general : (v : ℕ) → (b : Bank) × (bank_in (T.layout f) v ≡ Some b) → holds_branch T f v ≡ false → bank_in (T.layout f) v ≡ Some GeneralBank
  as_general v b e = by b.0 b.1
    where
      by : (c : Bank) → bank_in (T.layout f) v ≡ Some c → bank_in (T.layout f) v ≡ Some GeneralBank
      by GeneralBank q = q
      by BranchBank q = absurd (let z : true ≡ false = sym (ap is_branch q) ∙ e in cc)

  -- registers that are read on a cluster

  record Reading (k : ℕ) (rs : List Register) (n : ℕ) : Type 0 where
    on : all_on k rs ≡ true
    filed : Filed rs
    few : (c : ℕ) → count_by (takes_read_port c) rs ≤ n

  both_read : (k : ℕ) (rs qs : List Register) (n j : ℕ) → Reading k rs n → Reading k qs j → Reading k (rs ++ qs) (n + j)
  both_read k rs qs n j a b = record {
    on = list_all-append (λ r. eqb (cluster_of_register r) k) rs qs ∙ both_true a.on b.on;
    filed = list_all-append InFile rs qs ∙ both_true a.filed b.filed;
    few = λ c. (let x = a.few c in let y = b.few c in let q = count_by-append (takes_read_port c) rs qs in omega arith);
  }

  one_read : (k : ℕ) (r : Register) → cluster_of_register r ≡ k → InFile r ≡ true → Reading k (r ∷ []) 1
  one_read k r e h = record { on = both_true (same_eqb (cluster_of_register r) k e) refl; filed = both_true h refl; few = λ c. count_single (takes_read_port c) r }

  none_read : (k n : ℕ) → Reading k [] n
  none_read k n = record { on = refl; filed = refl; few = λ c. (let q : count_by (takes_read_port c) [] ≡ 0 = refl in omega arith) }

  test_read : (k n : ℕ) (t : ℕ) (rs : List Register) → k ≡ 0 → InFile (Branch (record { cluster = 0; number = t })) ≡ true → Reading k rs n → Reading k (Branch (record { cluster = 0; number = t }) ∷ rs) n
  test_read k n t rs e h a = record {
    on = both_true (same_eqb 0 k (sym e)) a.on;
    filed = both_true h a.filed;
    few = λ c. (let x = a.few c in let z : bit (takes_read_port c (Branch (record { cluster = 0; number = t }))) ≡ 0 = ap bit (no_branch c (record { cluster = 0; number = t })) in let q = count_by-cons (takes_read_port c) (Branch (record { cluster = 0; number = t })) rs in omega arith);
  }

  more_ports : (k : ℕ) (rs : List Register) (n j : ℕ) → n ≤ j → Reading k rs n → Reading k rs j
  more_ports k rs n j le a = record { on = a.on; filed = a.filed; few = λ c. (let x = a.few c in omega arith) }

  own_register : (k n : ℕ) → n < 16 → k < T.machine.clusters → InFile (General (general k n)) ≡ true
  own_register k n lt below = both_true (lt-ltb k T.machine.clusters below) (lt-ltb n T.machine.registers (let a = l.registers in omega arith))

  abbrev Here : ℕ → ℕ → Type 0
  Here k y = (home T f y ≡ k) × (InFile (General (N y)) ≡ true)

  here : (op : Op) (k y : ℕ) → IsIn (Plain op k) items → IsIn y (reads op) → IsIn y (read_there op) → holds_branch T f y ≡ false → Here k y
  here op k y i j there e =
      let m : IsIn y Rs = in_reads op k y i j in (
        general_there T f mapped l y k (bank y (inl m)) e (mapped.settled.reads_home p y k op items plans i there),
        general_filed T f mapped l Rs y few_r m (bank y (inl m)) (home_lt y (inl m)) e,
      )

  operand_read : (k : ℕ) (a : Operand) → ((y : ℕ) → IsIn y (value_in a) → Here k y) → Reading k (read_of (source_of N a)) (ports (a ∷ []))
  operand_read k (HeldValue y) h = let a = h y (inl refl) in one_read k (General (N y)) a.0 a.1
  operand_read k (AsNumber n) h = none_read k 0
  operand_read k Stack h = none_read k 1

  operand_comes : (k : ℕ) (a : Operand) → ((y : ℕ) → IsIn y (value_in a) → Here k y) → comes_from k (source_of N a) ≡ true
  operand_comes k (HeldValue y) h = same_eqb (home T f y) k (h y (inl refl)).0
  operand_comes k (AsNumber n) h = refl
  operand_comes k Stack h = refl

  base_read : (k a : ℕ) (q : Operand) → k < T.machine.clusters → ((y : ℕ) → IsIn y (value_in q) → Here k y) → Reading k (General (access_base T f N k a q) ∷ []) 1
  base_read k a (HeldValue y) lt h = let z = h y (inl refl) in one_read k (General (N y)) z.0 z.1
  base_read k a (AsNumber n) lt h = by (is_own T f a)
    where
      by : (b : Bool) → Reading k (General (if b then stack_on k else zero_on k) ∷ []) 1
      by true = one_read k (General (stack_on k)) refl (own_register k 1 (omega arith) lt)
      by false = one_read k (General (zero_on k)) refl (own_register k 0 (omega arith) lt)
  base_read k a Stack lt h = by (is_own T f a)
    where
      by : (b : Bool) → Reading k (General (if b then stack_on k else zero_on k) ∷ []) 1
      by true = one_read k (General (stack_on k)) refl (own_register k 1 (omega arith) lt)
      by false = one_read k (General (zero_on k)) refl (own_register k 0 (omega arith) lt)

  plain_general : (x : Operand) → PlainOperand T f IsArray x → (y : ℕ) → IsIn y (value_in x) → holds_branch T f y ≡ false
  plain_general (HeldValue v) h y i = ⊎_elim (λ e. ap (holds_branch T f) e ∙ h.1) (λ j. absurd j) i
  plain_general (AsNumber n) h y i = absurd i
  plain_general Stack h y i = absurd i

  place_general : (a : ℕ) (x : Operand) → IsPlacedIn T f IsArray a x → (y : ℕ) → IsIn y (value_in x) → holds_branch T f y ≡ false
  place_general a (HeldValue v) h y i = ⊎_elim (λ e. ap (holds_branch T f) e ∙ h.1) (λ j. absurd j) i
  place_general a (AsNumber n) h y i = absurd i
  place_general a Stack h y i = absurd i

  -- results

  abbrev to_register : ℕ → Register
  to_register v = register_of T f Ws v

  general_name : (v : ℕ) → holds_branch T f v ≡ false → General (general_of T f Ws v) ≡ to_register v
  general_name v e = sym (ap (λ b. if b then Branch (record { cluster = 0; number = branch_of T f Ws v }) else General (general_of T f Ws v)) e)

  branch_name : (v : ℕ) → holds_branch T f v ≡ true → Branch (record { cluster = 0; number = branch_of T f Ws v }) ≡ to_register v
  branch_name v e = sym (ap (λ b. if b then Branch (record { cluster = 0; number = branch_of T f Ws v }) else General (general_of T f Ws v)) e)

  result_there : (op : Op) (k v : ℕ) → IsIn (Plain op k) items → IsIn v (writes op) → holds_branch T f v ≡ false → (home T f v ≡ k) × (InFile (General (general_of T f Ws v)) ≡ true)
  result_there op k v i j e =
      let m : IsIn v Ws = in_writes op k v i j in (
        general_there T f mapped l v k (bank v (inr m)) e (mapped.settled.writes_home p v k op items plans i j),
        general_filed T f mapped l Ws v few_w m (bank v (inr m)) (home_lt v (inr m)) e,
      )

  -- an operation that carries an item

  never_lone : (op : Op) (o : Operation) → unit_of o ≡ unit_of_item (PlainItem op) → is_lone o ≡ false
  never_lone op o e = ap (λ u. same_unit u Control && not (is_branch_op o)) e ∙ ap (λ b. b && not (is_branch_op o)) (no_control_op op)

  abbrev at_item : Op → ℕ → ClusteredItem
  at_item op k = record { item = PlainItem op; cluster = k }

  pub record Carrying (x : ClusteredItem) (o : Operation) (vs : List ℕ) : Type 0 where
    pub needs : Needs TheHomes x o
    pub not_lone : is_lone o ≡ false
    pub keeps : keeps_to_cluster o ≡ true
    pub reads : Filed (reads_of o)
    pub writes : Filed (list_of (destination_of o))
    pub to_is : list_of (destination_of o) ≡ map to_register vs

  needs_reads : (op : Op) (k : ℕ) (rs : List Register) → room_source TheHomes (at_item op k) ≡ Some k → Reading k rs (ports (general_reads_of_op op)) → (c : ℕ) → count_by (takes_read_port c) rs ≤ count_by (is_at c) (read_clusters TheHomes (at_item op k))
  needs_reads op k rs src a c = ⊎_elim
      (λ e. let x = a.few c in let q = source_count c (room_source TheHomes (at_item op k)) (filter takes_port (general_reads_of_op op)) (src ∙ ap (λ n. Some n) e) in omega arith)
      (λ ne. let z = off_cluster k c rs ne a.on in omega arith)
      (below_of k c)

  needs_across : (c u : ℕ) (s : Option ℕ) → s ≡ Some (home T f u) → count_by (takes_read_port c) (General (N u) ∷ []) ≤ count_by (is_at c) (s ∷ [])
  needs_across c u s e = by (eqb (home T f u) c) refl
    where
      by : (b : Bool) → eqb (home T f u) c ≡ b → count_by (takes_read_port c) (General (N u) ∷ []) ≤ count_by (is_at c) (s ∷ [])
      by true q =
          let x = count_single (takes_read_port c) (General (N u)) in
          let z : bit (is_at c s) ≡ 1 = ap (λ o. bit (is_at c o)) e ∙ ap bit q in
          let y : count_by (is_at c) (s ∷ []) ≡ bit (is_at c s) + 0 = count_by-cons (is_at c) s [] in omega arith
      by false q = let x = count_none (takes_read_port c) (General (N u)) (ap (λ b. b && true && not (is_zero (General (N u)))) q) in omega arith

  general_result : (op : Op) (k v : ℕ) (o : Operation) → IsIn (Plain op k) items → IsIn v (writes op) → holds_branch T f v ≡ false → writes op ≡ v ∷ [] → cluster_of o ≡ k → unit_of o ≡ unit_of_item (PlainItem op) → is_observable o ≡ is_observable_op op → writes_general_op op ≡ true → destination_of o ≡ Some (General (general_of T f Ws v)) → ((c : ℕ) → count_by (takes_read_port c) (reads_of o) ≤ count_by (is_at c) (read_clusters TheHomes (at_item op k))) → Filed (reads_of o) → keeps_to_cluster o ≡ true → Carrying (at_item op k) o (writes op)
  general_result op k v o i j e one cl un ob wg to rd filed keeps =
      let r = result_there op k v i j e in
      record {
        needs = record {
          cluster = cl;
          unit = un;
          observable = ob;
          reads = rd;
          writes = λ c. subst (λ d. count_by (takes_write_port c) (list_of d) ≤ (if eqb k c && writes_general_op op then 1 else 0)) (sym to)
              (subst (λ b. count_by (takes_write_port c) (General (general_of T f Ws v) ∷ []) ≤ (if eqb k c && b then 1 else 0)) (sym wg) (write_general k c (general_of T f Ws v) r.0));
        };
        not_lone = never_lone op o un;
        keeps = keeps;
        reads = filed;
        writes = subst (λ d. Filed (list_of d)) (sym to) (both_true r.1 refl);
        to_is = ap list_of to ∙ ap (λ x. x ∷ []) (general_name v e) ∙ ap (map to_register) (sym one);
      }

  branch_result : (op : Op) (k v : ℕ) (o : Operation) → IsIn (Plain op k) items → IsIn v (writes op) → holds_branch T f v ≡ true → writes op ≡ v ∷ [] → cluster_of o ≡ k → unit_of o ≡ unit_of_item (PlainItem op) → is_observable o ≡ is_observable_op op → destination_of o ≡ Some (Branch (record { cluster = 0; number = branch_of T f Ws v })) → ((c : ℕ) → count_by (takes_read_port c) (reads_of o) ≤ count_by (is_at c) (read_clusters TheHomes (at_item op k))) → Filed (reads_of o) → keeps_to_cluster o ≡ true → Carrying (at_item op k) o (writes op)
  branch_result op k v o i j e one cl un ob to rd filed keeps =
      let m : IsIn v Ws = in_writes op k v i j in
      record {
        needs = record {
          cluster = cl;
          unit = un;
          observable = ob;
          reads = rd;
          writes = λ c. subst (λ d. count_by (takes_write_port c) (list_of d) ≤ (if eqb k c && writes_general_op op then 1 else 0)) (sym to)
              (let z = no_write c (Branch (record { cluster = 0; number = branch_of T f Ws v })) refl in omega arith);
        };
        not_lone = never_lone op o un;
        keeps = keeps;
        reads = filed;
        writes = subst (λ d. Filed (list_of d)) (sym to) (both_true (branch_filed T f mapped l Ws v few_w m (bank v (inr m)) e) refl);
        to_is = ap list_of to ∙ ap (λ x. x ∷ []) (branch_name v e) ∙ ap (map to_register) (sym one);
      }

  no_result : (op : Op) (k : ℕ) (o : Operation) → writes op ≡ [] → cluster_of o ≡ k → unit_of o ≡ unit_of_item (PlainItem op) → is_observable o ≡ is_observable_op op → destination_of o ≡ None → ((c : ℕ) → count_by (takes_read_port c) (reads_of o) ≤ count_by (is_at c) (read_clusters TheHomes (at_item op k))) → Filed (reads_of o) → keeps_to_cluster o ≡ true → Carrying (at_item op k) o (writes op)
  no_result op k o none cl un ob to rd filed keeps = record {
    needs = record {
      cluster = cl;
      unit = un;
      observable = ob;
      reads = rd;
      writes = λ c. subst (λ d. count_by (takes_write_port c) (list_of d) ≤ (if eqb k c && writes_general_op op then 1 else 0)) (sym to) (no_register c (if eqb k c && writes_general_op op then 1 else 0));
    };
    not_lone = never_lone op o un;
    keeps = keeps;
    reads = filed;
    writes = subst (λ d. Filed (list_of d)) (sym to) refl;
    to_is = ap list_of to ∙ ap (map to_register) (sym none);
  }

  -- computations

  module _ (code : Code) (v : ℕ) (a b : Operand) (k : ℕ) (i : IsIn (Plain (Computes code v a b) k) items) where
    abbrev TheOp : Op
    TheOp = Computes code v a b

    abbrev G : GeneralRegister
    G = general_of T f Ws v

    abbrev Carried : Operation
    Carried = computes k code (to_register v) G (source_of N a) (source_of N b)

    form : Computing k code (to_register v) G (source_of N a) (source_of N b) Carried
    form = computing k code (to_register v) G (source_of N a) (source_of N b)

    is_proper : ProperOp T f IsArray TheOp k
    is_proper = proper_op TheOp k items proper i

    named : (y : ℕ) → IsIn y (reads TheOp) → holds_branch T f y ≡ false → Here k y
    named y j e = here TheOp k y i j j e

    reading_by : (c : Bool) → is_unary code ≡ c → Reading k (if c then read_of (source_of N a) else read_of (source_of N a) ++ read_of (source_of N b)) (ports (if c then a ∷ [] else a ∷ b ∷ []))
    reading_by true e = operand_read k a (λ y j. named y (subst (λ d. IsIn y (if d then value_in a else value_in a ++ value_in b)) (sym e) j) (plain_general a is_proper.2 y j))
    reading_by false e =
        let x = operand_read k a (λ y j. named y (subst (λ d. IsIn y (if d then value_in a else value_in a ++ value_in b)) (sym e) (in_left y (value_in a) (value_in b) j)) (plain_general a is_proper.2 y j)) in
        let z = operand_read k b (λ y j. named y (subst (λ d. IsIn y (if d then value_in a else value_in a ++ value_in b)) (sym e) (in_right y (value_in a) (value_in b) j)) (plain_general b (is_proper.3 e) y j)) in
        more_ports k (read_of (source_of N a) ++ read_of (source_of N b)) (ports (a ∷ []) + ports (b ∷ [])) (ports (a ∷ b ∷ [])) (let q = ports_cons a (b ∷ []) in omega arith)
        (both_read k (read_of (source_of N a)) (read_of (source_of N b)) (ports (a ∷ [])) (ports (b ∷ [])) x z)

    reading : Reading k (reads_of Carried) (ports (general_reads_of_op TheOp))
    reading = subst (λ ys. Reading k (reads_of Carried) (ports ys)) (sym (operands_code code v a b)) (subst (λ rs. Reading k rs (ports (if is_unary code then a ∷ [] else a ∷ b ∷ []))) (sym form.reads) (reading_by (is_unary code) refl))

    comes : comes_from k (source_of N a) ≡ true
    comes = operand_comes k a (λ y j. named y (first y j) (plain_general a is_proper.2 y j))
      where
        first : (y : ℕ) → IsIn y (value_in a) → IsIn y (reads TheOp)
        first y j = by (is_unary code)
          where
            by : (c : Bool) → IsIn y (if c then value_in a else value_in a ++ value_in b)
            by true = j
            by false = in_left y (value_in a) (value_in b) j

    either_way : (c : Bool) (r : Register) → (if c then r else r) ≡ r
    either_way true r = refl
    either_way false r = refl

    compute_by : (c : Bool) → to_branch code ≡ c → Carrying (at_item TheOp k) Carried (writes TheOp)
    compute_by false e =
        let hb : holds_branch T f v ≡ false = is_proper.1 ∙ e in
        let to_eq : (if is_unary code then General G else to_register v) ≡ General G = ap (λ r. if is_unary code then General G else r) (sym (general_name v hb)) ∙ either_way (is_unary code) (General G) in
        let r = result_there TheOp k v i (inl refl) hb in
        let on : eqb (cluster_of_register (if is_unary code then General G else to_register v)) k ≡ true = ap (λ x. eqb (cluster_of_register x) k) to_eq ∙ same_eqb (home T f v) k r.0 in
        general_result TheOp k v Carried i (inl refl) hb refl form.cluster (form.unit comes) form.observable (general_code code v a b ∙ ap not e) (form.to_is ∙ ap (λ x. Some x) to_eq) (needs_reads TheOp k (reads_of Carried) refl reading) reading.filed (form.keeps on reading.on)
    compute_by true e =
        let hb : holds_branch T f v ≡ true = is_proper.1 ∙ e in
        let m : IsIn v Ws = in_writes TheOp k v i (inl refl) in
        let k0 : k ≡ 0 = branch_there T f mapped l v k (bank v (inr m)) hb (mapped.settled.writes_home p v k TheOp items plans i (inl refl)) in
        let two : is_unary code ≡ false = not_unary (is_unary code) refl in
        let to_eq : (if is_unary code then General G else to_register v) ≡ Branch (record { cluster = 0; number = branch_of T f Ws v }) = ap (λ c. if c then General G else to_register v) two ∙ sym (branch_name v hb) in
        let on : eqb (cluster_of_register (if is_unary code then General G else to_register v)) k ≡ true = ap (λ x. eqb (cluster_of_register x) k) to_eq ∙ same_eqb 0 k (sym k0) in
        branch_result TheOp k v Carried i (inl refl) hb refl form.cluster (form.unit comes) form.observable (form.to_is ∙ ap (λ x. Some x) to_eq) (needs_reads TheOp k (reads_of Carried) refl reading) reading.filed (form.keeps on reading.on)
      where
        not_unary : (c : Bool) → is_unary code ≡ c → is_unary code ≡ false
        not_unary true q = absurd (let z : true ≡ false = sym e ∙ unary_general code q in cc)
        not_unary false q = q

    compute_carries : Carrying (at_item TheOp k) Carried (writes TheOp)
    compute_carries = compute_by (to_branch code) refl

  -- each operation

  stack_read : (k : ℕ) → k < T.machine.clusters → (b : Bool) → Reading k (read_of (if b then Held (stack_on k) else Number (pos 0))) 1
  stack_read k lt true = one_read k (General (stack_on k)) refl (own_register k 1 (omega arith) lt)
  stack_read k lt false = none_read k 1

  pub op_carries : (op : Op) (k : ℕ) → IsIn (Plain op k) items → Carrying (at_item op k) (carried T f Rs Ws k op) (writes op)
  op_carries (Computes code v a b) k i = compute_carries code v a b k i
  op_carries (Selects v t a b) k i =
      let op : Op = Selects v t a b in
      let h = proper_op (Selects v t a b) k items proper i in
      let mt : IsIn t Rs = in_reads op k t i (inl refl) in
      let k0 : k ≡ 0 = branch_there T f mapped l t k (bank t (inl mt)) h.1.1 (mapped.settled.reads_home p t k (Selects v t a b) items plans i (inl refl)) in
      let ra = operand_read k a (λ y j. here (Selects v t a b) k y i (inr (in_left y (value_in a) (value_in b) j)) (inr (in_left y (value_in a) (value_in b) j)) (plain_general a h.2 y j)) in
      let rb = operand_read k b (λ y j. here (Selects v t a b) k y i (inr (in_right y (value_in a) (value_in b) j)) (inr (in_right y (value_in a) (value_in b) j)) (plain_general b h.3 y j)) in
      let both = both_read k (read_of (source_of N a)) (read_of (source_of N b)) (ports (a ∷ [])) (ports (b ∷ [])) ra rb in
      let all = test_read k (ports (a ∷ []) + ports (b ∷ [])) (branch_of T f Rs t) (read_of (source_of N a) ++ read_of (source_of N b)) k0 (branch_filed T f mapped l Rs t few_r mt (bank t (inl mt)) h.1.1) both in
      let rs : List Register = Branch (record { cluster = 0; number = branch_of T f Rs t }) ∷ (read_of (source_of N a) ++ read_of (source_of N b)) in
      let r = more_ports k rs (ports (a ∷ []) + ports (b ∷ [])) (ports (a ∷ b ∷ [])) (let q = ports_cons a (b ∷ []) in omega arith) all in
      let to = result_there (Selects v t a b) k v i (inl refl) h.0.1 in
      general_result (Selects v t a b) k v (carried T f Rs Ws k (Selects v t a b)) i (inl refl) h.0.1 refl refl refl refl refl refl (needs_reads (Selects v t a b) k rs refl r) r.filed (both_true (same_eqb (home T f v) k to.0) r.on)
  op_carries (Place v a x) k i =
      let h = proper_op (Place v a x) k items proper i in
      let ra = operand_read k x (λ y j. here (Place v a x) k y i j j (plain_general x h.1 y j)) in
      let rb = stack_read k h.2 (is_own T f a) in
      let rs : List Register = read_of (source_of N x) ++ read_of (if is_own T f a then Held (stack_on k) else Number (pos 0)) in
      let both = both_read k (read_of (source_of N x)) (read_of (if is_own T f a then Held (stack_on k) else Number (pos 0))) (ports (x ∷ [])) 1 ra rb in
      let r = more_ports k rs (ports (x ∷ []) + 1) (ports (x ∷ Stack ∷ [])) (let q = ports_cons x (Stack ∷ []) in omega arith) both in
      let to = result_there (Place v a x) k v i (inl refl) h.0.1 in
      general_result (Place v a x) k v (carried T f Rs Ws k (Place v a x)) i (inl refl) h.0.1 refl refl refl refl refl refl (needs_reads (Place v a x) k rs refl r) r.filed (both_true (same_eqb (home T f v) k to.0) r.on)
  op_carries (Loads v a q d) k i =
      let h = proper_op (Loads v a q d) k items proper i in
      let ra = base_read k a q h.2 (λ y j. here (Loads v a q d) k y i j j (place_general a q h.1 y j)) in
      let rs : List Register = General (access_base T f N k a q) ∷ [] in
      let r = more_ports k rs 1 (ports (base_operand q ∷ [])) (let z = base_ports q in omega arith) ra in
      let to = result_there (Loads v a q d) k v i (inl refl) h.0.1 in
      general_result (Loads v a q d) k v (carried T f Rs Ws k (Loads v a q d)) i (inl refl) h.0.1 refl refl refl refl refl refl (needs_reads (Loads v a q d) k rs refl r) r.filed (both_true (same_eqb (home T f v) k to.0) r.on)
  op_carries (Stores a q x) k i =
      let h = proper_op (Stores a q x) k items proper i in
      let ra = base_read k a q h.2 (λ y j. here (Stores a q x) k y i (in_left y (value_in q) (value_in x) j) (in_left y (value_in q) (value_in x) j) (place_general a q h.0 y j)) in
      let rb = operand_read k x (λ y j. here (Stores a q x) k y i (in_right y (value_in q) (value_in x) j) (in_right y (value_in q) (value_in x) j) (plain_general x h.1 y j)) in
      let rs : List Register = General (access_base T f N k a q) ∷ read_of (source_of N x) in
      let both = both_read k (General (access_base T f N k a q) ∷ []) (read_of (source_of N x)) 1 (ports (x ∷ [])) ra rb in
      let r = more_ports k rs (1 + ports (x ∷ [])) (ports (base_operand q ∷ x ∷ [])) (let z = ports_cons (base_operand q) (x ∷ []) in let o = base_ports q in omega arith) both in
      no_result (Stores a q x) k (carried T f Rs Ws k (Stores a q x)) refl refl refl refl refl (needs_reads (Stores a q x) k rs refl r) r.filed r.on
  op_carries (Asks v) k i =
      let h = proper_op (Asks v) k items proper i in
      let k0 = first_cluster (Asks v) k i refl in
      let to = result_there (Asks v) k v i (inl refl) h.1 in
      general_result (Asks v) k v (carried T f Rs Ws k (Asks v)) i (inl refl) h.1 refl (sym k0) refl refl refl refl (needs_reads (Asks v) k [] refl (none_read k 0)) refl (both_true (same_eqb (home T f v) 0 (to.0 ∙ k0)) refl)
  op_carries (Takes v) k i =
      let h = proper_op (Takes v) k items proper i in
      let k0 = first_cluster (Takes v) k i refl in
      let to = result_there (Takes v) k v i (inl refl) h.1 in
      general_result (Takes v) k v (carried T f Rs Ws k (Takes v)) i (inl refl) h.1 refl (sym k0) refl refl refl refl (needs_reads (Takes v) k [] refl (none_read k 0)) refl (both_true (same_eqb (home T f v) 0 (to.0 ∙ k0)) refl)
  op_carries (Text n) k i =
      let k0 = first_cluster (Text n) k i refl in
      no_result (Text n) k (carried T f Rs Ws k (Text n)) refl (sym k0) refl refl refl (needs_reads (Text n) k [] refl (none_read k 0)) refl refl
  op_carries (Decimal x) k i =
      let h = proper_op (Decimal x) k items proper i in
      let k0 = first_cluster (Decimal x) k i refl in
      let r = operand_read k x (λ y j. here (Decimal x) k y i j j (plain_general x h y j)) in
      no_result (Decimal x) k (carried T f Rs Ws k (Decimal x)) refl (sym k0) refl refl refl (needs_reads (Decimal x) k (read_of (source_of N x)) refl r) r.filed (subst (λ j. all_on j (read_of (source_of N x)) ≡ true) k0 r.on)
  op_carries (Across v u) k i =
      let h = proper_op (Across v u) k items proper i in
      let m : IsIn u Rs = in_reads (Across v u) k u i (inl refl) in
      let to = result_there (Across v u) k v i (inl refl) h.1 in
      let src = across_source T f mapped sound IsArray p items plans proper bank u v u k u h.2 i refl (file_self T f mapped u) in
      general_result (Across v u) k v (carried T f Rs Ws k (Across v u)) i (inl refl) h.1 refl refl (ap (λ b. if b then Alu else Copies) (ne_eqb (home T f u) k (mapped.settled.across p v u k items plans i (as_general v (bank v (inr (in_writes (Across v u) k v i (inl refl)))) h.1)))) refl refl refl
      (λ c. needs_across c u (home_of TheHomes u) src) (both_true (general_filed T f mapped l Rs u few_r m (bank u (inl m)) (home_lt u (inl m)) h.2) refl) (same_eqb (home T f v) k to.0)
  op_carries (Base v a x) k i = by (is_own T f a) h.from
    where
      h : ProperOp T f IsArray (Base v a x) k
      h = proper_op (Base v a x) k items proper i

      to : (home T f v ≡ k) × (InFile (General (general_of T f Ws v)) ≡ true)
      to = result_there (Base v a x) k v i (inl refl) h.general

      on : eqb (home T f v) k ≡ true
      on = same_eqb (home T f v) k to.0

      by : (own : Bool) → x ≡ (if own then Stack else AsNumber (pos 0)) → Carrying (at_item (Base v a x) k) (if own then Compute k Add (General (general_of T f Ws v)) (Held (stack_on k)) (Number (bytes (T.array_at f a))) else Move k (general_of T f Ws v) (Number (bytes (T.array_at f a)))) (v ∷ [])
      by true e =
          let r : Reading k (General (stack_on k) ∷ []) (ports (x ∷ [])) = subst (λ y. Reading k (General (stack_on k) ∷ []) (ports (y ∷ []))) (sym e) (one_read k (General (stack_on k)) refl (own_register k 1 (omega arith) h.below)) in
          general_result (Base v a x) k v (Compute k Add (General (general_of T f Ws v)) (Held (stack_on k)) (Number (bytes (T.array_at f a)))) i (inl refl) h.general refl refl refl refl refl refl (needs_reads (Base v a x) k (General (stack_on k) ∷ []) refl r) r.filed (both_true on r.on)
      by false e = general_result (Base v a x) k v (Move k (general_of T f Ws v) (Number (bytes (T.array_at f a)))) i (inl refl) h.general refl refl refl refl refl refl (needs_reads (Base v a x) k [] refl (none_read k (ports (x ∷ [])))) refl on
  op_carries (PlaceIn v a u x) k i =
      let op : Op = PlaceIn v a u x in
      let h = proper_op op k items proper i in
      let ra = operand_read k x (λ y j. here op k y i (in_left y (value_in x) (u ∷ []) j) (in_left y (value_in x) (u ∷ []) j) (plain_general x h.index y j)) in
      let b = here op k u i (in_right u (value_in x) (u ∷ []) (inl refl)) (in_right u (value_in x) (u ∷ []) (inl refl)) h.base_general in
      let rb = one_read k (General (N u)) b.0 b.1 in
      let rs : List Register = read_of (source_of N x) ++ General (N u) ∷ [] in
      let both = both_read k (read_of (source_of N x)) (General (N u) ∷ []) (ports (x ∷ [])) 1 ra rb in
      let r = more_ports k rs (ports (x ∷ []) + 1) (ports (x ∷ HeldValue u ∷ [])) (let q = ports_cons x (HeldValue u ∷ []) in omega arith) both in
      let to = result_there op k v i (inl refl) h.general in
      general_result op k v (carried T f Rs Ws k op) i (inl refl) h.general refl refl refl refl refl refl (needs_reads op k rs refl r) r.filed (both_true (same_eqb (home T f v) k to.0) r.on)

  pub split_carries : (test q to : ℕ) (y : Bool) → IsIn (Split test y q) items → Carrying (item_of_laid (Split test y q)) (Operation.BranchOn (branch_of T f Rs test) y to) []
  split_carries test q to y i =
      let m : IsIn test Rs = in_all_of item_reads (Split test y q) test items i (inl refl) in
      let e = proper_test test q y items proper i in
      record {
        needs = record {
          cluster = refl;
          unit = refl;
          observable = refl;
          reads = λ c. (let z = count_none (takes_read_port c) (Branch (record { cluster = 0; number = branch_of T f Rs test })) (no_branch c (record { cluster = 0; number = branch_of T f Rs test })) in omega arith);
          writes = λ c. no_register c (if eqb 0 c && false then 1 else 0);
        };
        not_lone = refl;
        keeps = refl;
        reads = both_true (branch_filed T f mapped l Rs test few_r m (bank test (inl m)) e) refl;
        writes = refl;
        to_is = refl;
      }
