-- Where a machine has room for a word, its scratch registers are enough for what the word names.
use Rattle.std.proofs.Common.{◌≡◌, ◌<◌, ◌≤◌, ◌⊎◌, inl, inr, ⊎_elim, ◌+◌, ◌*◌, ◌/◌, ◌-◌, ℕ, zero, suc, Bool, true, false, ◌&&◌, eqb, nat_le, cond, Option, Some, None, List, [], ◌∷◌, ◌++◌, length, map, refl, sym, ap, ◌∙◌, subst, arith}
use Rattle.std.specs.Prelude.{if◌then◌else◌, ◌==◌, count_by, slice_get}
use Rattle.std.specs.List.{flat_map, filter}
use Rattle.std.proofs.lemmas.Bool.{eqb-true, and_parts, leb-true, lt-ltb}
use Rattle.std.proofs.lemmas.Bool.Decides.{nat_tests}
use Rattle.vx_base.specs.declared.arithmetic.Code.{Code}
use Rattle.vx_base.specs.declared.arithmetic.Code.TheVariants.{Add}
use Rattle.vx_flow.specs.declared.graph.Bank.{Bank}
use Rattle.vx_flow.specs.declared.graph.Bank.TheVariants.{General as GeneralBank, Branch as BranchBank}
use Rattle.vx_flow.specs.declared.graph.Operand.{Operand}
use Rattle.vx_flow.specs.declared.graph.Operand.TheVariants.{Held, Number, Stack}
use Rattle.vx_flow.specs.declared.graph.Op.{Op}
use Rattle.vx_flow.specs.declared.graph.Op.TheVariants.{Compute, Select, Place, Load, Store, Text, Decimal, Across, PlaceIn}
use Rattle.vx_flow.specs.declared.trace.Homes.{Homes}
use Rattle.vx_flow.specs.Effects.{IsIn, is_unary, value_in, reads, writes}
use Rattle.vx_flow.specs.Sound.{Sound, operands_of}
use Rattle.vx_flow.proofs.Members.{in_left, in_right, in_either}
use Rattle.vx_flow.proofs.SoundLists.{all_in}
use Rattle.vx_isa.specs.Numbers.{Numbers, IsMachine, is_machine}
use Rattle.vx_isa.specs.declared.operation.UnitKind.TheVariants.{Alu, Multiply, Memory, Copies}
use Rattle.vx_isa.specs.Fits.{all_below}
use Rattle.vx_isa.proofs.FitsLaw.{Six, six_parts, all_below-at}
use Rattle.vx_isa.proofs.Lists.{count_by-append, count_by-cons}
use Rattle.vx_room.specs.declared.items.ClusteredItem.{ClusteredItem}
use Rattle.vx_room.specs.declared.items.Item.TheVariants.{Plain as PlainItem}
use Rattle.vx_room.specs.Items.{base_of, general_reads_of_op, takes_port, is_split, is_observable_item, latency_of_op}
use Rattle.vx_regs.specs.Intervals.{IsBusy, is_named}
use Rattle.vx_room.specs.Room.{home_of, source_of, read_clusters, is_at, count_at, count_in, needs, reads_at, writes_at, has_room_at, is_cluster, stand_well}
use Rattle.vx_mixed.specs.declared.layout.Laid.{Laid}
use Rattle.vx_mixed.specs.declared.layout.Laid.TheVariants.{Plain, Split}
use Rattle.vx_mixed.specs.Settled.{stands_for}
use Rattle.vx_mixed.specs.LaidSettled.{bank_in, or_zero, item_reads, item_writes, laid_reads, laid_writes, Plans}
use Rattle.vx_target.specs.Target.{Target, is_branch, same_file, same_bool, home, holds_branch, scratch, slotted, kept, is_slotted}
use Rattle.vx_target.specs.Carried.{IsMapped, item_of_laid}
use Rattle.vx_target.proofs.Proper.{PlainOperand, IsPlacedIn, ProperOp, ProperItems}
use Rattle.vx_target.proofs.Live.{across_of}
use Rattle.vx_target.proofs.Names.{Few, Filed, filed, index_below}
use Rattle.vx_target.proofs.Limits.{limits}

-- counting

abbrev bit : Bool → ℕ
bit b = cond b 1 0

filter_step : (t : ℕ → Bool) (x : ℕ) (xs : List ℕ) (b : Bool) → length (filter t xs) ≡ count_by t xs → length (cond b (x ∷ filter t xs) (filter t xs)) ≡ bit b + count_by t xs
filter_step t x xs true h = omega arith
filter_step t x xs false h = omega arith

length_filter : (t : ℕ → Bool) (xs : List ℕ) → length (filter t xs) ≡ count_by t xs
length_filter t [] = refl
length_filter t (x ∷ xs) = filter_step t x xs (t x) (length_filter t xs) ∙ sym (count_by-cons t x xs)

count_step : (t q : ℕ → Bool) (x : ℕ) (xs : List ℕ) (b : Bool) → count_by t (filter q xs) ≤ count_by t xs → count_by t (cond b (x ∷ filter q xs) (filter q xs)) ≤ bit (t x) + count_by t xs
count_step t q x xs true h = let k = count_by-cons t x (filter q xs) in omega arith
count_step t q x xs false h = omega arith

-- of some of the values not more are counted
count_filter : (t q : ℕ → Bool) (xs : List ℕ) → count_by t (filter q xs) ≤ count_by t xs
count_filter t q [] = omega arith
count_filter t q (x ∷ xs) = let a = count_step t q x xs (q x) (count_filter t q xs) in let k = count_by-cons t x xs in omega arith

count_none : (t : ℕ → Bool) (xs : List ℕ) → ((x : ℕ) → IsIn x xs → t x ≡ false) → count_by t xs ≡ 0
count_none t [] h = refl
count_none t (x ∷ xs) h = let a = count_none t xs (λ y i. h y (inr i)) in let b : bit (t x) ≡ 0 = ap bit (h x (inl refl)) in let k = count_by-cons t x xs in omega arith

none_or : (t : ℕ → Bool) (xs : List ℕ) → (count_by t xs ≡ 0) ⊎ ((x : ℕ) × IsIn x xs × (t x ≡ true))
none_or t [] = inl refl
none_or t (x ∷ xs) = by (t x) refl (none_or t xs)
  where
    by : (b : Bool) → t x ≡ b → (count_by t xs ≡ 0) ⊎ ((y : ℕ) × IsIn y xs × (t y ≡ true)) → (count_by t (x ∷ xs) ≡ 0) ⊎ ((y : ℕ) × IsIn y (x ∷ xs) × (t y ≡ true))
    by true e r = inr (x, inl refl, e)
    by false e (inl z) = inl (let b : bit (t x) ≡ 0 = ap bit e in let k = count_by-cons t x xs in omega arith)
    by false e (inr r) = inr (r.0, inr r.1, r.2)

bit_le : (b : Bool) → bit b ≤ 1
bit_le true = omega arith
bit_le false = omega arith

count_one : (t : ℕ → Bool) (x : ℕ) → count_by t (x ∷ []) ≤ 1
count_one t x = let a = bit_le (t x) in let k : count_by t (x ∷ []) ≡ bit (t x) + 0 = count_by-cons t x [] in omega arith

-- one read port for each operand that holds a value

abbrev ports : List Operand → ℕ
ports ys = length (filter takes_port ys)

operand_port : (t : ℕ → Bool) (x : Operand) → count_by t (value_in x) ≤ ports (x ∷ [])
operand_port t (Held v) = count_one t v
operand_port t (Number n) = omega arith
operand_port t Stack = let k : count_by t [] ≡ 0 = refl in omega arith

base_port : (t : ℕ → Bool) (x : Operand) → count_by t (value_in x) ≤ ports (base_of x ∷ [])
base_port t (Held v) = count_one t v
base_port t (Number n) = let k : count_by t [] ≡ 0 = refl in omega arith
base_port t Stack = let k : count_by t [] ≡ 0 = refl in omega arith

ports_cons : (x : Operand) (ys : List Operand) → ports (x ∷ ys) ≡ ports (x ∷ []) + ports ys
ports_cons (Held v) ys = omega arith
ports_cons (Number n) ys = omega arith
ports_cons Stack ys = omega arith

two_ports : (t : ℕ → Bool) (a b : Operand) → count_by t (value_in a ++ value_in b) ≤ ports (a ∷ b ∷ [])
two_ports t a b = let x = operand_port t a in let y = operand_port t b in let k = count_by-append t (value_in a) (value_in b) in let c = ports_cons a (b ∷ []) in omega arith

source_count : (k : ℕ) (src : Option ℕ) (ys : List Operand) → src ≡ Some k → count_by (is_at k) (map (λ y. src) ys) ≡ length ys
source_count k src [] e = refl
source_count k src (y ∷ ys) e =
    let a = source_count k src ys e in
    let q : is_at k src ≡ true = ap (is_at k) e ∙ grind (arith, nat_tests) in
    let b : bit (is_at k src) ≡ 1 = ap bit q in
    let c = count_by-cons (is_at k) src (map (λ z. src) ys) in omega arith

-- a machine has at most twice as many read ports as issue slots
ports_bound : (m : Numbers) → IsMachine m → m.read_ports ≤ 2 * m.issue
ports_bound m h = (limits m h).most_reads

pub some_cluster : (m : Numbers) → IsMachine m → 0 < m.clusters
some_cluster m h = let le = (limits m h).clusters in omega arith

pub some_issue : (m : Numbers) → IsMachine m → 1 ≤ m.issue
some_issue m h = (limits m h).issue

pub operands_code : (code : Code) (v : ℕ) (a b : Operand) → operands_of (Compute code v a b) ≡ (if is_unary code then a ∷ [] else a ∷ b ∷ [])
operands_code Add v a b = refl
operands_code code v a b = refl

compute_ports : (t : ℕ → Bool) (code : Code) (v : ℕ) (a b : Operand) → count_by t (reads (Compute code v a b)) ≤ ports (operands_of (Compute code v a b))
compute_ports t code v a b = subst (λ ys. count_by t (reads (Compute code v a b)) ≤ ports ys) (sym (operands_code code v a b)) (by (is_unary code))
  where
    by : (c : Bool) → count_by t (if c then value_in a else value_in a ++ value_in b) ≤ ports (if c then a ∷ [] else a ∷ b ∷ [])
    by true = operand_port t a
    by false = two_ports t a b

pub in_all_of : {A B : Type 0} (g : A → List B) (x : A) (y : B) (xs : List A) → IsIn x xs → IsIn y (g x) → IsIn y (flat_map g xs)
in_all_of g x y [] i j = absurd i
in_all_of g x y (z ∷ zs) i j = ⊎_elim (λ e. in_left y (g z) (flat_map g zs) (subst (λ w. IsIn y (g w)) e j)) (λ k. in_right y (g z) (flat_map g zs) (in_all_of g x y zs k j)) i

pub in_map : {A B : Type 0} (g : A → B) (x : A) (xs : List A) → IsIn x xs → IsIn (g x) (map g xs)
in_map g x [] i = absurd i
in_map g x (y ∷ ys) i = ⊎_elim (λ e. inl (ap g e)) (λ j. inr (in_map g x ys j)) i

get_below : {A : Type 0} (xs : List A) (i : ℕ) (x : A) → slice_get xs i ≡ Some x → i < length xs
get_below [] i x e = absurd (cc)
get_below (y ∷ ys) zero x e = omega arith
get_below (y ∷ ys) (suc i) x e = let h = get_below ys i x e in omega arith

cluster_there : (m : Numbers) (c : Option ℕ) → is_cluster m c ≡ true → (k : ℕ) × (c ≡ Some k)
cluster_there m None e = absurd (cc)
cluster_there m (Some k) e = (k, refl)

module _ (T : Target) (f : ℕ) (mapped : IsMapped T f) (sound : Sound (T.graph f)) (IsArray : ℕ → Type 0) (p : ℕ) (items : List Laid) (plans : Plans (T.layout f) p items) (proper : ProperItems T f IsArray items)
    (bank : (v : ℕ) → IsIn v (laid_reads items) ⊎ IsIn v (laid_writes items) → (b : Bank) × (bank_in (T.layout f) v ≡ Some b)) where
  abbrev Same : ℕ → ℕ → Bool
  Same v u = same_file T f u v

  abbrev TheHomes : Homes
  TheHomes = record { clusters = (T.layout f).homes.clusters }

  abbrev Clustered : List ClusteredItem
  Clustered = map item_of_laid items

  room_parts : Six (is_machine T.machine) (stand_well T.machine TheHomes Clustered) (all_below T.machine.clusters (has_room_at T.machine TheHomes Clustered)) (nat_le (count_in (needs Copies) Clustered) T.machine.copy_paths) (nat_le (count_in is_split Clustered) T.machine.branches) (nat_le (count_in is_observable_item Clustered) 1)
  room_parts = six_parts _ _ _ _ _ _ (mapped.settled.fits p items plans)

  cluster_parts : (k : ℕ) → k < T.machine.clusters → Six (nat_le (count_at k (λ item. true) Clustered) T.machine.issue) (nat_le (count_at k (needs Alu) Clustered) T.machine.alus) (nat_le (count_at k (needs Multiply) Clustered) T.machine.multipliers) (nat_le (count_at k (needs Memory) Clustered) T.machine.memory_units) (nat_le (reads_at TheHomes k Clustered) T.machine.read_ports) (nat_le (writes_at k Clustered) T.machine.write_ports)
  cluster_parts k lt = six_parts _ _ _ _ _ _ (all_below-at (has_room_at T.machine TheHomes Clustered) T.machine.clusters k room_parts.three lt)

  slots_at : (k : ℕ) → k < T.machine.clusters → count_at k (λ item. true) Clustered ≤ T.machine.issue
  slots_at k lt = leb-true (count_at k (λ item. true) Clustered) T.machine.issue (cluster_parts k lt).one

  ports_at : (k : ℕ) → k < T.machine.clusters → reads_at TheHomes k Clustered ≤ T.machine.read_ports
  ports_at k lt = leb-true (reads_at TheHomes k Clustered) T.machine.read_ports (cluster_parts k lt).five

  pub named_busy : (v : ℕ) → IsIn v (laid_reads items) ⊎ IsIn v (laid_writes items) → IsBusy (latency_of_op T.machine) (T.layout f) p v
  named_busy v i = is_named plans.2 (⊎_elim (in_left v (laid_reads items) (laid_writes items)) (in_right v (laid_reads items) (laid_writes items)) i)

  home_below : (v : ℕ) → IsIn v (laid_reads items) ⊎ IsIn v (laid_writes items) → home T f v < T.machine.clusters
  home_below v i = mapped.homes p v (named_busy v i)

  -- values of one file

  same_general : (v u : ℕ) → holds_branch T f v ≡ false → Same v u ≡ true → (holds_branch T f u ≡ false) × (home T f u ≡ home T f v)
  same_general v u e h = by (holds_branch T f u) (holds_branch T f v) refl e h
    where
      by : (a b : Bool) → holds_branch T f u ≡ a → b ≡ false → (same_bool a b && (if a then true else eqb (home T f u) (home T f v))) ≡ true → (holds_branch T f u ≡ false) × (home T f u ≡ home T f v)
      by true true q z k = absurd (cc)
      by true false q z k = absurd (cc)
      by false true q z k = absurd (cc)
      by false false q z k = (q, eqb-true (home T f u) (home T f v) k)

  same_branch : (v u : ℕ) → holds_branch T f v ≡ true → Same v u ≡ true → holds_branch T f u ≡ true
  same_branch v u e h = by (holds_branch T f u) (holds_branch T f v) refl e h
    where
      by : (a b : Bool) → holds_branch T f u ≡ a → b ≡ true → (same_bool a b && (if a then true else eqb (home T f u) (home T f v))) ≡ true → holds_branch T f u ≡ true
      by true b q z k = q
      by false true q z k = absurd (cc)
      by false false q z k = absurd (cc)

  not_general : (v u : ℕ) → holds_branch T f v ≡ false → holds_branch T f u ≡ true → Same v u ≡ false
  not_general v u e h = by (Same v u) refl
    where
      by : (b : Bool) → Same v u ≡ b → Same v u ≡ false
      by true q = absurd (let k = (same_general v u e q).0 in let z : true ≡ false = sym h ∙ k in cc)
      by false q = q

  not_branch : (v u : ℕ) → holds_branch T f v ≡ true → holds_branch T f u ≡ false → Same v u ≡ false
  not_branch v u e h = by (Same v u) refl
    where
      by : (b : Bool) → Same v u ≡ b → Same v u ≡ false
      by true q = absurd (let k = same_branch v u e q in let z : true ≡ false = sym k ∙ h in cc)
      by false q = q

  -- the cluster of an operation is that of the values that it names there
  general_cluster : (v c : ℕ) → ((b : Bank) × (bank_in (T.layout f) v ≡ Some b)) → holds_branch T f v ≡ false → stands_for (bank_in (T.layout f) v) (Some (home T f v)) c → c ≡ home T f v
  general_cluster v c b e s = by b.0 b.1 s
    where
      by : (x : Bank) → bank_in (T.layout f) v ≡ Some x → stands_for (bank_in (T.layout f) v) (Some (home T f v)) c → c ≡ home T f v
      by GeneralBank q k = let z : Some (home T f v) ≡ Some c = subst (λ o. stands_for o (Some (home T f v)) c) q k in cc
      by BranchBank q k = absurd (let z : true ≡ false = sym (ap is_branch q) ∙ e in cc)

  branch_cluster : (v c : ℕ) → ((b : Bank) × (bank_in (T.layout f) v ≡ Some b)) → holds_branch T f v ≡ true → stands_for (bank_in (T.layout f) v) (Some (home T f v)) c → c ≡ 0
  branch_cluster v c b e s = by b.0 b.1 s
    where
      by : (x : Bank) → bank_in (T.layout f) v ≡ Some x → stands_for (bank_in (T.layout f) v) (Some (home T f v)) c → c ≡ 0
      by BranchBank q k = subst (λ o. stands_for o (Some (home T f v)) c) q k
      by GeneralBank q k = absurd (let z : false ≡ true = sym (ap is_branch q) ∙ e in cc)

  -- results: a slot of the cluster for each

  abbrev write_cluster : ℕ → ℕ
  write_cluster v = if holds_branch T f v then 0 else home T f v

  one_write : (op : Op) → (writes op ≡ []) ⊎ ((y : ℕ) × (writes op ≡ y ∷ []))
  one_write (Store a q x) = inl refl
  one_write (Text n) = inl refl
  one_write (Decimal x) = inl refl
  one_write op = inr (_, refl)

  in_all : (g : Laid → List ℕ) (x : Laid) (v : ℕ) (xs : List Laid) → IsIn x xs → IsIn v (g x) → IsIn v (flat_map g xs)
  in_all g x v [] i j = absurd i
  in_all g x v (y ∷ ys) i j = ⊎_elim (λ e. in_left v (g y) (flat_map g ys) (subst (λ z. IsIn v (g z)) e j)) (λ k. in_right v (g y) (flat_map g ys) (in_all g x v ys k j)) i

  written_cluster : (v y k : ℕ) (op : Op) → IsIn (Plain op k) items → IsIn y (writes op) → Same v y ≡ true → k ≡ write_cluster v
  written_cluster v y k op i j e = by (holds_branch T f v) refl
    where
      b : (b : Bank) × (bank_in (T.layout f) y ≡ Some b)
      b = bank y (inr (in_all item_writes (Plain op k) y items i j))

      by : (c : Bool) → holds_branch T f v ≡ c → k ≡ (if c then 0 else home T f v)
      by true q = branch_cluster y k b (same_branch v y q e) (mapped.settled.writes_home p y k op items plans i j)
      by false q = let s = same_general v y q e in general_cluster y k b s.0 (mapped.settled.writes_home p y k op items plans i j) ∙ s.1

  item_writes_le : (v : ℕ) (x : Laid) → IsIn x items → count_by (Same v) (item_writes x) ≤ bit (((item_of_laid x).cluster == write_cluster v) && true)
  item_writes_le v (Split test y q) i = omega arith
  item_writes_le v (Plain op k) i = ⊎_elim
      (λ z. let a : count_by (Same v) (writes op) ≡ 0 = ap (count_by (Same v)) z in omega arith)
      (λ r. ⊎_elim (λ z. omega arith)
      (λ w. let c = written_cluster v w.0 k op i w.1 w.2 in
      let q : ((k == write_cluster v) && true) ≡ true = (let z : eqb k (write_cluster v) ≡ true = grind (arith, nat_tests) in ap (λ b. b && true) z) in
      let a : bit ((k == write_cluster v) && true) ≡ 1 = ap bit q in
      let l : count_by (Same v) (writes op) ≤ 1 = subst (λ ys. count_by (Same v) ys ≤ 1) (sym r.1) (count_one (Same v) r.0) in omega arith)
      (none_or (Same v) (writes op)))
      (one_write op)

  sum_writes : (v : ℕ) (xs : List Laid) → ((x : Laid) → IsIn x xs → IsIn x items) → count_by (Same v) (laid_writes xs) ≤ count_at (write_cluster v) (λ item. true) (map item_of_laid xs)
  sum_writes v [] h = omega arith
  sum_writes v (x ∷ xs) h =
      let a = item_writes_le v x (h x (inl refl)) in
      let b = sum_writes v xs (λ y i. h y (inr i)) in
      let c = count_by-append (Same v) (item_writes x) (laid_writes xs) in
      let d = count_by-cons (λ (z : ClusteredItem). (z.cluster == write_cluster v) && true) (item_of_laid x) (map item_of_laid xs) in omega arith

  counted : (names : List ℕ) (v : ℕ) → IsIn v names → is_slotted (kept T f v) ≡ true → scratch T f names v < count_by (Same v) names
  counted names v i e =
      let a = index_below v (Filed T f mapped names v) (filed T f mapped names v i e) in
      let b = length_filter (Same v) (slotted T f names) in
      let c = count_filter (Same v) (λ u. is_slotted (kept T f u)) names in omega arith

  write_below : (v : ℕ) → home T f v < T.machine.clusters → write_cluster v < T.machine.clusters
  write_below v lt = by (holds_branch T f v)
    where
      by : (b : Bool) → (if b then 0 else home T f v) < T.machine.clusters
      by true = omega arith
      by false = lt

  writes_bound : (v : ℕ) → IsIn v (laid_writes items) → is_slotted (kept T f v) ≡ true → scratch T f (laid_writes items) v < T.machine.issue
  writes_bound v i e =
      let a = counted (laid_writes items) v i e in
      let b = sum_writes v items (λ x j. j) in
      let c = slots_at (write_cluster v) (write_below v (home_below v (inr i))) in omega arith

  pub few_writes : Few T f mapped (laid_writes items)
  few_writes = record {
    general = λ v i e b. (let a = writes_bound v i e in omega arith);
    branch = λ v i e b. writes_bound v i e;
  }

  -- operands: a read port of the cluster for each general value

  proper_op : (op : Op) (k : ℕ) (xs : List Laid) → ProperItems T f IsArray xs → IsIn (Plain op k) xs → ProperOp T f IsArray op k
  proper_op op k [] h i = absurd i
  proper_op op k (Plain o j ∷ xs) h i = ⊎_elim (λ e. let a : op ≡ o = cc in let b : k ≡ j = cc in subst (λ z. ProperOp T f IsArray z k) (sym a) (subst (λ z. ProperOp T f IsArray o z) (sym b) h.0)) (λ l. proper_op op k xs h.1 l) i
  proper_op op k (Split test y q ∷ xs) h i = ⊎_elim (λ e. absurd (cc)) (λ l. proper_op op k xs h.1 l) i

  proper_test : (test q : ℕ) (y : Bool) (xs : List Laid) → ProperItems T f IsArray xs → IsIn (Split test y q) xs → holds_branch T f test ≡ true
  proper_test test q y [] h i = absurd i
  proper_test test q y (Plain o j ∷ xs) h i = ⊎_elim (λ e. absurd (cc)) (λ l. proper_test test q y xs h.1 l) i
  proper_test test q y (Split t z r ∷ xs) h i = ⊎_elim (λ e. let a : test ≡ t = cc in ap (holds_branch T f) a ∙ h.0.1) (λ l. proper_test test q y xs h.1 l) i

  abbrev at_item : Op → ℕ → ClusteredItem
  at_item op k = record { item = PlainItem op; cluster = k }

  plain_general : (v : ℕ) (op : Op) (k : ℕ) → count_by (Same v) (reads op) ≤ ports (general_reads_of_op op) → ((u : ℕ) → IsIn u (reads op) → Same v u ≡ true → source_of TheHomes (at_item op k) ≡ Some (home T f v)) → count_by (Same v) (reads op) ≤ count_by (is_at (home T f v)) (read_clusters TheHomes (at_item op k))
  plain_general v op k le src = ⊎_elim (λ z. omega arith)
      (λ r. let c = source_count (home T f v) (source_of TheHomes (at_item op k)) (filter takes_port (general_reads_of_op op)) (src r.0 r.1 r.2) in omega arith)
      (none_or (Same v) (reads op))

  read_cluster : (v : ℕ) (op : Op) (k u : ℕ) → holds_branch T f v ≡ false → IsIn (Plain op k) items → IsIn u (reads op) → Same v u ≡ true → stands_for (bank_in (T.layout f) u) (Some (home T f u)) k → Some k ≡ Some (home T f v)
  read_cluster v op k u e i j same st =
      let s = same_general v u e same in
      ap (λ c. Some c) (general_cluster u k (bank u (inl (in_all item_reads (Plain op k) u items i j))) s.0 st ∙ s.1)

  pub across_source : (v x y k u : ℕ) → holds_branch T f v ≡ false → IsIn (Plain (Across x y) k) items → u ≡ y → Same v u ≡ true → home_of TheHomes y ≡ Some (home T f v)
  across_source v x y k u e i q same =
      let s = same_general v u e same in
      let sources = (and_parts _ _ room_parts.two).1 in
      let there = all_in (is_cluster T.machine) (flat_map (read_clusters TheHomes) (map item_of_laid items)) (home_of TheHomes y) sources
      (in_all_of (read_clusters TheHomes) (at_item (Across x y) k) (home_of TheHomes y) (map item_of_laid items) (in_map item_of_laid (Plain (Across x y) k) items i) (inl refl)) in
      let c = cluster_there T.machine (home_of TheHomes y) there in
      let lt : y < length (T.layout f).banks = subst (λ bs. y < length bs) (sym mapped.code.banks) (get_below (T.graph f).banks y GeneralBank (across_of T f mapped sound (Across x y) (mapped.code.ops p k (Across x y) items plans i) x y refl)) in
      let h : home T f y ≡ c.0 = ap (λ b. if b then or_zero (home_of TheHomes y) else y / length (T.layout f).banks - 1) (lt-ltb y (length (T.layout f).banks) lt) ∙ ap or_zero c.1 in
      c.1 ∙ ap (λ z. Some z) (sym h ∙ ap (home T f) (sym q) ∙ s.1)

  item_general : (v : ℕ) (x : Laid) → holds_branch T f v ≡ false → IsIn x items → count_by (Same v) (item_reads x) ≤ count_by (is_at (home T f v)) (read_clusters TheHomes (item_of_laid x))
  item_general v (Split test y q) e i =
      let z = count_none (Same v) (test ∷ []) (λ u j. ⊎_elim (λ s. not_general v u e (ap (holds_branch T f) s ∙ proper_test test q y items proper i)) (λ s. absurd s) j) in omega arith
  item_general v (Plain (Across x y) k) e i = plain_general v (Across x y) k (count_one (Same v) y) (λ u j s. across_source v x y k u e i (⊎_elim (λ q. q) (λ q. absurd q) j) s)
  item_general v (Plain (PlaceIn x a w y) k) e i =
      let one = operand_port (Same v) y in
      let two = count_one (Same v) w in
      let c = ports_cons y (Held w ∷ []) in
      let d = count_by-append (Same v) (value_in y) (w ∷ []) in
      plain_general v (PlaceIn x a w y) k (omega arith) (λ u j s. read_cluster v (PlaceIn x a w y) k u e i j s (mapped.settled.reads_home p u k (PlaceIn x a w y) items plans i j))
  item_general v (Plain (Compute code x a b) k) e i = plain_general v (Compute code x a b) k (compute_ports (Same v) code x a b) (λ u j s. read_cluster v (Compute code x a b) k u e i j s (mapped.settled.reads_home p u k (Compute code x a b) items plans i j))
  item_general v (Plain (Select x t a b) k) e i =
      let no_test : bit (Same v t) ≡ 0 = ap bit (not_general v t e (proper_op (Select x t a b) k items proper i).1.1) in
      let c = count_by-cons (Same v) t (value_in a ++ value_in b) in
      let two = two_ports (Same v) a b in
      plain_general v (Select x t a b) k (omega arith) (λ u j s. read_cluster v (Select x t a b) k u e i j s (mapped.settled.reads_home p u k (Select x t a b) items plans i j))
  item_general v (Plain (Place x a y) k) e i =
      let one = operand_port (Same v) y in
      let c = ports_cons y (Stack ∷ []) in
      plain_general v (Place x a y) k (omega arith) (λ u j s. read_cluster v (Place x a y) k u e i j s (mapped.settled.reads_home p u k (Place x a y) items plans i j))
  item_general v (Plain (Load x a q d) k) e i = plain_general v (Load x a q d) k (base_port (Same v) q) (λ u j s. read_cluster v (Load x a q d) k u e i j s (mapped.settled.reads_home p u k (Load x a q d) items plans i j))
  item_general v (Plain (Store a q x) k) e i =
      let one = base_port (Same v) q in
      let two = operand_port (Same v) x in
      let c = ports_cons (base_of q) (x ∷ []) in
      let d = count_by-append (Same v) (value_in q) (value_in x) in
      plain_general v (Store a q x) k (omega arith) (λ u j s. read_cluster v (Store a q x) k u e i j s (mapped.settled.reads_home p u k (Store a q x) items plans i j))
  item_general v (Plain (Decimal x) k) e i = plain_general v (Decimal x) k (operand_port (Same v) x) (λ u j s. read_cluster v (Decimal x) k u e i j s (mapped.settled.reads_home p u k (Decimal x) items plans i j))
  item_general v (Plain op k) e i = plain_general v op k (omega arith) (λ u j s. absurd j)

  sum_general : (v : ℕ) (xs : List Laid) → holds_branch T f v ≡ false → ((x : Laid) → IsIn x xs → IsIn x items) → count_by (Same v) (laid_reads xs) ≤ reads_at TheHomes (home T f v) (map item_of_laid xs)
  sum_general v [] e h = omega arith
  sum_general v (x ∷ xs) e h =
      let a = item_general v x e (h x (inl refl)) in
      let b = sum_general v xs e (λ y i. h y (inr i)) in
      let c = count_by-append (Same v) (item_reads x) (laid_reads xs) in
      let d = count_by-append (is_at (home T f v)) (read_clusters TheHomes (item_of_laid x)) (flat_map (read_clusters TheHomes) (map item_of_laid xs)) in omega arith

  -- tests: a slot of cluster 0 for each

  operand_general : (x : Operand) → PlainOperand T f IsArray x → (u : ℕ) → IsIn u (value_in x) → holds_branch T f u ≡ false
  operand_general (Held y) h u i = ⊎_elim (λ e. ap (holds_branch T f) e ∙ h.1) (λ j. absurd j) i
  operand_general (Number n) h u i = absurd i
  operand_general Stack h u i = absurd i

  place_general : (a : ℕ) (x : Operand) → IsPlacedIn T f IsArray a x → (u : ℕ) → IsIn u (value_in x) → holds_branch T f u ≡ false
  place_general a (Held y) h u i = ⊎_elim (λ e. ap (holds_branch T f) e ∙ h.1) (λ j. absurd j) i
  place_general a (Number n) h u i = absurd i
  place_general a Stack h u i = absurd i

  both_general : (x y : Operand) → PlainOperand T f IsArray x → PlainOperand T f IsArray y → (u : ℕ) → IsIn u (value_in x ++ value_in y) → holds_branch T f u ≡ false
  both_general x y hx hy u i = ⊎_elim (operand_general x hx u) (operand_general y hy u) (in_either u (value_in x) (value_in y) i)

  compute_general : (code : Code) (v : ℕ) (a b : Operand) → PlainOperand T f IsArray a → (is_unary code ≡ false → PlainOperand T f IsArray b) → (u : ℕ) → IsIn u (reads (Compute code v a b)) → holds_branch T f u ≡ false
  compute_general code v a b ha hb u i = by (is_unary code) refl i
    where
      by : (c : Bool) → is_unary code ≡ c → IsIn u (if c then value_in a else value_in a ++ value_in b) → holds_branch T f u ≡ false
      by true e j = operand_general a ha u j
      by false e j = both_general a b ha (hb e) u j

  all_general : (v : ℕ) (xs : List ℕ) (n : ℕ) → holds_branch T f v ≡ true → ((u : ℕ) → IsIn u xs → holds_branch T f u ≡ false) → count_by (Same v) xs ≤ n
  all_general v xs n e h = let z = count_none (Same v) xs (λ u i. not_branch v u e (h u i)) in omega arith

  item_branch : (v : ℕ) (x : Laid) → holds_branch T f v ≡ true → IsIn x items → count_by (Same v) (item_reads x) ≤ bit (((item_of_laid x).cluster == 0) && true)
  item_branch v (Split test y q) e i = count_one (Same v) test
  item_branch v (Plain (Across x y) k) e i = all_general v (y ∷ []) _ e (λ u j. ⊎_elim (λ s. ap (holds_branch T f) s ∙ (proper_op (Across x y) k items proper i).2) (λ s. absurd s) j)
  item_branch v (Plain (PlaceIn x a w y) k) e i =
      let h = proper_op (PlaceIn x a w y) k items proper i in
      all_general v (value_in y ++ w ∷ []) _ e (λ u j. ⊎_elim (operand_general y h.index u) (λ l. ⊎_elim (λ s. ap (holds_branch T f) s ∙ h.base_general) (λ z. absurd z) l) (in_either u (value_in y) (w ∷ []) j))
  item_branch v (Plain (Compute code x a b) k) e i = let h = proper_op (Compute code x a b) k items proper i in all_general v (reads (Compute code x a b)) _ e (compute_general code x a b h.2 h.3)
  item_branch v (Plain (Select x t a b) k) e i =
      let h = proper_op (Select x t a b) k items proper i in
      let c = count_by-cons (Same v) t (value_in a ++ value_in b) in
      let z = all_general v (value_in a ++ value_in b) 0 e (both_general a b h.2 h.3) in
      let k0 : k ≡ 0 = branch_cluster t k (bank t (inl (in_all item_reads (Plain (Select x t a b) k) t items i (inl refl)))) h.1.1 (mapped.settled.reads_home p t k (Select x t a b) items plans i (inl refl)) in
      let q : bit ((k == 0) && true) ≡ 1 = ap (λ j. bit (eqb j 0 && true)) k0 in
      let l = bit_le (Same v t) in omega arith
  item_branch v (Plain (Place x a y) k) e i = let h = proper_op (Place x a y) k items proper i in all_general v (value_in y) _ e (operand_general y h.1)
  item_branch v (Plain (Load x a q d) k) e i = let h = proper_op (Load x a q d) k items proper i in all_general v (value_in q) _ e (place_general a q h.1)
  item_branch v (Plain (Store a q x) k) e i = let h = proper_op (Store a q x) k items proper i in all_general v (value_in q ++ value_in x) _ e (λ u j. ⊎_elim (place_general a q h.0 u) (operand_general x h.1 u) (in_either u (value_in q) (value_in x) j))
  item_branch v (Plain (Decimal x) k) e i = all_general v (value_in x) _ e (operand_general x (proper_op (Decimal x) k items proper i))
  item_branch v (Plain op k) e i = all_general v [] _ e (λ u j. absurd j)

  sum_branch : (v : ℕ) (xs : List Laid) → holds_branch T f v ≡ true → ((x : Laid) → IsIn x xs → IsIn x items) → count_by (Same v) (laid_reads xs) ≤ count_at 0 (λ item. true) (map item_of_laid xs)
  sum_branch v [] e h = omega arith
  sum_branch v (x ∷ xs) e h =
      let a = item_branch v x e (h x (inl refl)) in
      let b = sum_branch v xs e (λ y i. h y (inr i)) in
      let c = count_by-append (Same v) (item_reads x) (laid_reads xs) in
      let d = count_by-cons (λ (z : ClusteredItem). (z.cluster == 0) && true) (item_of_laid x) (map item_of_laid xs) in omega arith

  pub few_reads : Few T f mapped (laid_reads items)
  few_reads = record {
    general = λ v i e b. (
        let a = counted (laid_reads items) v i e in
        let s = sum_general v items b (λ x j. j) in
        let c = ports_at (home T f v) (home_below v (inl i)) in
        let g = ports_bound T.machine room_parts.one in omega arith);
    branch = λ v i e b. (
        let a = counted (laid_reads items) v i e in
        let s = sum_branch v items b (λ x j. j) in
        let lt = home_below v (inl i) in
        let c = slots_at 0 (omega arith) in omega arith);
  }
