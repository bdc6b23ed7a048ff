-- A planned word meets nothing in flight, and after it no more is in flight than the layout says, and what it left in scratch
-- registers.
use Rattle.std.proofs.Common.{◌≡◌, ◌≢◌, ◌<◌, ◌≤◌, ◌⊎◌, inl, inr, ⊎_elim, ◌+◌, ◌-◌, ℕ, suc, Bool, true, false, cond, Option, Some, None, List, [], ◌∷◌, ◌++◌, length, map, refl, sym, ap, ◌∙◌, subst, arith}
use Rattle.std.specs.Prelude.{if◌then◌else◌, max, not, slice_get}
use Rattle.std.specs.List.{flat_map, list_all, list_any}
use Rattle.std.proofs.lemmas.Bool.{and_parts, false≢true, ltb-true}
use Rattle.std.proofs.lemmas.List.{append-nil}
use Rattle.vx_base.proofs.Pieces.{Hit, raised, cold, fine_less, fine_append}
use Rattle.vx_flow.specs.declared.graph.Array.{Array}
use Rattle.vx_flow.specs.declared.graph.Op.{Op}
use Rattle.vx_flow.specs.declared.graph.Op.TheVariants.{Across}
use Rattle.vx_flow.specs.Effects.{IsIn, reads, writes}
use Rattle.vx_flow.specs.Sound.{Sound}
use Rattle.vx_flow.specs.Operands.{read_by as reading, written_by, value_list}
use Rattle.vx_flow.proofs.OperandLaws.{reads_are, writes_are}
use Rattle.vx_flow.proofs.Members.{in_left, in_right, in_either}
use Rattle.vx_flow.proofs.SoundLists.{all_in}
use Rattle.vx_isa.specs.declared.operation.Register.{Register}
use Rattle.vx_isa.specs.declared.operation.Operation.{Operation}
use Rattle.vx_isa.specs.declared.operation.Operation.TheVariants.{Goto}
use Rattle.vx_isa.specs.declared.program.Word.{Word}
use Rattle.vx_isa.specs.Operations.{same, is_zero, reads_of, list_of, destination_of, latency_of}
use Rattle.vx_isa.specs.Paths.{Among}
use Rattle.vx_isa.proofs.AnyTiming.{tells}
use Rattle.vx_isa.proofs.FitsLaw.{six_parts}
use Rattle.vx_room.specs.Items.{latency_of_op}
use Rattle.vx_room.specs.Room.{stands_well}
use Rattle.vx_mixed.specs.declared.layout.Laid.{Laid}
use Rattle.vx_mixed.specs.declared.layout.Laid.TheVariants.{Plain, Split}
use Rattle.vx_mixed.specs.Settled.{read_there}
use Rattle.vx_mixed.specs.declared.layout.VirtualWord.TheVariants.{Planned}
use Rattle.vx_mixed.specs.LaidSettled.{item_reads, item_writes, laid_reads, laid_writes, Plans, LeadsTo}
use Rattle.vx_regs.specs.Intervals.{is_named}
use Rattle.vx_target.specs.Target.{Target, home, is_branch, kept, is_slotted, slotted, register_of, past, leads, carried, carried_items, slots_in_flight, if_some, settled, once, load_slots, store_slots, pause, before, behind, plan_word, plan_words, landing_words, one, is_elsewhere, all_elsewhere, item_elsewhere, is_for_values, spares, is_split, plan_ops}
use Rattle.vx_target.specs.Carried.{IsMapped, item_of_laid}
use Rattle.vx_target.proofs.Beside.{Going, Beside as WithGoto, alone, going, beside}
use Rattle.vx_target.proofs.FromGraph.{op_proper, test_proper}
use Rattle.vx_target.proofs.Frames.{get_some}
use Rattle.vx_target.proofs.Pauses.{slots_land}
use Rattle.vx_target.proofs.Proper.{ProperOp, ProperItems}
use Rattle.vx_target.proofs.Names.{Few, file_general}
use Rattle.vx_target.proofs.Live.{reads_bank, writes_bank}
use Rattle.vx_target.proofs.Enough.{few_reads, few_writes, in_all_of, in_map}
use Rattle.vx_target.proofs.Word.{slotted_in, slotted_from, own_name}
use Rattle.vx_target.proofs.Limits.{Limits}
use Rattle.vx_tie.proofs.Filed.{general_there}
use Rattle.vx_tie.proofs.AtEnd.{touches_then, hits_then}
use Rattle.vx_tie.proofs.Early.{falls, hits, Jumps, Touches, words_kind, words_cool}
use Rattle.vx_tie.proofs.Heats.{lift, lift_from, lift_at, raised_bound, stop_fine}
use Rattle.vx_tie.proofs.ColdPieces.{Fine}
use Rattle.vx_tie.proofs.Operations.{from_operation, from_hit, ReadBy, of_value, of_zero, of_pointer, OfItem, of_op, of_split, proper_op, branch_name, op_reads, op_writes, op_latency, items_jump, goto_jumps, of_item}
use Rattle.vx_tie.proofs.Pending.{Banked, Busy, pend, pend_kept, pend_own, pend_name, pend_scratch, written_there, left_pends}
use Rattle.vx_tie.proofs.PlanHeats.{Settles, before_fine}
use Rattle.vx_tie.proofs.StoreHeats.{behind_fine}
use Rattle.vx_tie.proofs.Spared.{fine_also}

among_map : (g : ℕ → Register) (r : Register) (vs : List ℕ) → Among r (map g vs) → (v : ℕ) × IsIn v vs × (r ≡ g v)
among_map g r [] i = absurd i
among_map g r (v ∷ vs) i = ⊎_elim (λ e. (v, inl refl, e)) (λ k. let a = among_map g r vs k in (a.0, inr a.1, a.2)) i

map_among : (g : ℕ → Register) (r : Register) (v : ℕ) (vs : List ℕ) → IsIn v vs → r ≡ g v → Among r (map g vs)
map_among g r v [] i e = absurd i
map_among g r v (u ∷ vs) i e = ⊎_elim (λ q. inl (e ∙ ap g q)) (λ k. inr (map_among g r v vs k e)) i

-- what an operation names on its own cluster it reads
all_there : (op : Op) (y : ℕ) → IsIn y (read_there op) → IsIn y (reads op)
all_there (Across v u) y i = absurd i
all_there op y i = i

-- a value that is in a register other than r is named by another register

not_true : (b : Bool) → not b ≡ true → b ≡ false
not_true true e = absurd (false≢true e)
not_true false e = refl

not_named : (T : Target) (f : ℕ) (r : Register) (v : ℕ) (names : List ℕ) → is_elsewhere T f r v ≡ true → r ≡ register_of T f names v → ⊥
not_named T f r v names h e =
    let parts = and_parts (not (is_slotted (kept T f v))) (not (same r (register_of T f (v ∷ []) v))) h in
    let is : r ≡ register_of T f (v ∷ []) v = e ∙ own_name T f v names (v ∷ []) (not_true (is_slotted (kept T f v)) parts.0) in
    let yes : same r (register_of T f (v ∷ []) v) ≡ true = ap (same r) (sym is) ∙ tells.itself r in
    let no_ : same r (register_of T f (v ∷ []) v) ≡ false = not_true (same r (register_of T f (v ∷ []) v)) parts.1 in
    absurd (false≢true (sym no_ ∙ yes))

one_elsewhere : (T : Target) (f : ℕ) (r : Register) (o : Option ℕ) (v : ℕ) → all_elsewhere T f r o ≡ true → IsIn v (value_list o) → is_elsewhere T f r v ≡ true
one_elsewhere T f r None v h i = absurd i
one_elsewhere T f r (Some u) v h i = ⊎_elim (λ e. ap (is_elsewhere T f r) e ∙ h) (λ z. absurd z) i

item_values : (T : Target) (f : ℕ) (r : Register) (x : Laid) (v : ℕ) → item_elsewhere T f r x ≡ true → IsIn v (item_reads x) ⊎ IsIn v (item_writes x) → is_elsewhere T f r v ≡ true
item_values T f r (Plain op k) v h i =
    let both = and_parts _ _ h in
    let first = and_parts _ _ both.1 in
    let others = and_parts _ _ first.1 in
    ⊎_elim
    (λ j. ⊎_elim (one_elsewhere T f r (reading op).first v first.0)
    (λ z. ⊎_elim (one_elsewhere T f r (reading op).second v others.0) (one_elsewhere T f r (reading op).third v others.1) (in_either v (value_list (reading op).second) (value_list (reading op).third) z))
    (in_either v (value_list (reading op).first) (value_list (reading op).second ++ value_list (reading op).third) (subst (IsIn v) (sym (reads_are op)) j)))
    (λ j. one_elsewhere T f r (written_by op) v both.0 (subst (IsIn v) (sym (writes_are op)) j)) i
item_values T f r (Split test y q) v h i = ⊎_elim (λ j. ⊎_elim (λ e. ap (is_elsewhere T f r) e ∙ h) (λ z. absurd z) j) (λ j. absurd j) i

from_all_of : (g : Laid → List ℕ) (v : ℕ) (xs : List Laid) → IsIn v (flat_map g xs) → (x : Laid) × IsIn x xs × IsIn v (g x)
from_all_of g v [] i = absurd i
from_all_of g v (x ∷ xs) i = ⊎_elim (λ j. (x, inl refl, j)) (λ j. let a = from_all_of g v xs j in (a.0, inr a.1, a.2)) (in_either v (g x) (flat_map g xs) i)

some_split : (xs : List Laid) (test q : ℕ) (y : Bool) → IsIn (Split test y q) xs → list_any is_split xs ≡ true
some_split [] test q y i = absurd i
some_split (Plain op k ∷ xs) test q y i = ⊎_elim (λ e. absurd (let z : is_split (Split test y q) ≡ is_split (Plain op k) = ap is_split e in cc)) (λ j. some_split xs test q y j) i
some_split (Split u w p ∷ xs) test q y i = refl

module _ (T : Target) (heat : ℕ → Register → ℕ) (f : ℕ) (mapped : IsMapped T f) (sound : Sound (T.graph f)) (l : Limits T.machine) (p rg wd : ℕ) (items : List Laid) (at : slice_get (T.layout f).words p ≡ Some (Planned rg wd items)) where
  abbrev F : (Register → ℕ) → List Word → (Register → ℕ) → Type 0
  F h ws e = Fine T heat h ws e

  abbrev Heat : ℕ → Register → ℕ
  Heat q = pend T f mapped sound q

  abbrev Rs : List ℕ
  Rs = laid_reads items

  abbrev Ws : List ℕ
  Ws = laid_writes items

  abbrev Ops : List Operation
  Ops = carried_items T f p Rs Ws items

  abbrev IsArray : ℕ → Type 0
  IsArray a = (array : Array) × (slice_get (T.graph f).arrays a ≡ Some array)

  plans : Plans (T.layout f) p items
  plans = (rg, wd, at)

  cluster_below : (op : Op) (k : ℕ) → IsIn (Plain op k) items → k < T.machine.clusters
  cluster_below op k i =
      let room = six_parts _ _ _ _ _ _ (mapped.settled.fits p items plans) in
      let well = all_in (stands_well T.machine) (map item_of_laid items) (item_of_laid (Plain op k)) (and_parts _ _ room.two).0 (in_map item_of_laid (Plain op k) items i) in
      ltb-true k T.machine.clusters (and_parts _ _ well).0

  arrays : (a : ℕ) → a < length (T.graph f).arrays → IsArray a
  arrays a below = get_some (T.graph f).arrays a below

  proper_items : (xs : List Laid) → ((x : Laid) → IsIn x xs → IsIn x items) → ProperItems T f IsArray xs
  proper_items [] h = tt
  proper_items (Plain op k ∷ xs) h = (op_proper T f IsArray sound mapped.code arrays op k (cluster_below op k (h (Plain op k) (inl refl))) (mapped.code.ops p k op items plans (h (Plain op k) (inl refl))), proper_items xs (λ x i. h x (inr i)))
  proper_items (Split test y q ∷ xs) h =
      let parts = mapped.code.splits p test q y items plans (h (Split test y q) (inl refl)) in
      (test_proper T f IsArray sound mapped.code arrays test parts.yes parts.no parts.has, proper_items xs (λ x i. h x (inr i)))

  proper : ProperItems T f IsArray items
  proper = proper_items items (λ x i. i)

  properly : (op : Op) (k : ℕ) → IsIn (Plain op k) items → ProperOp T f IsArray op k
  properly op k i = proper_op T f IsArray op k items proper i

  banks : (v : ℕ) → IsIn v Rs ⊎ IsIn v Ws → Banked T f mapped sound v
  banks v i = ⊎_elim (reads_bank T f mapped sound p items plans v) (writes_bank T f mapped sound p items plans v) i

  busy : (v : ℕ) → IsIn v Rs ⊎ IsIn v Ws → Busy T f mapped sound p v
  busy v i = is_named at (⊎_elim (in_left v Rs Ws) (in_right v Rs Ws) i)

  pub few_r : Few T f mapped Rs
  few_r = few_reads T f mapped sound IsArray p items plans proper banks

  pub few_w : Few T f mapped Ws
  few_w = few_writes T f mapped sound IsArray p items plans proper banks

  read_settles : (v : ℕ) → IsIn v Rs → Settles T heat f mapped sound p v
  read_settles v i = (banks v (inl i), busy v (inl i), mapped.settled.reads_none p v items plans i)

  -- nothing is in flight to what it names

  read_cold : (v : ℕ) → IsIn v Rs → Heat p (register_of T f Rs v) ≡ 0
  read_cold v i = pend_name T f mapped sound p v Rs few_r i (banks v (inl i)) (busy v (inl i)) (mapped.settled.reads_none p v items plans i)

  write_cold : (v : ℕ) → IsIn v Ws → Heat p (register_of T f Ws v) ≡ 0
  write_cold v i = pend_name T f mapped sound p v Ws few_w i (banks v (inr i)) (busy v (inr i)) (mapped.settled.writes_none p v items plans i)

  read_by : (vs : List ℕ) (r : Register) → ((y : ℕ) → IsIn y vs → IsIn y Rs) → is_zero r ≡ false → ReadBy T f Rs vs r → Heat p r ≡ 0
  read_by vs r sub nz (of_value y i e) = ap (Heat p) e ∙ read_cold y (sub y i)
  read_by vs r sub nz (of_zero e) = absurd (let z : true ≡ false = sym e ∙ nz in cc)
  read_by vs r sub nz (of_pointer k e) = ap (Heat p) e ∙ pend_own T f mapped sound p k 1 (omega arith)

  item_reads_cold : (o : Operation) (r : Register) → OfItem T f p Rs Ws items o → Among r (reads_of o) → is_zero r ≡ false → Heat p r ≡ 0
  item_reads_cold o r (of_op op k i e) a nz = read_by (reads op) r (λ y j. in_all_of item_reads (Plain op k) y items i j) nz (op_reads T f IsArray Rs Ws op k (properly op k i) r (subst (λ z. Among r (reads_of z)) e a))
  item_reads_cold o r (of_split test q y i e) a nz = ⊎_elim
      (λ s. ap (Heat p) (s ∙ branch_name T f IsArray Rs test (ap is_branch (mapped.settled.tests p test q y items plans i))) ∙ read_cold test (in_all_of item_reads (Split test y q) test items i (inl refl)))
      (λ z. absurd z)
      (subst (λ z. Among r (reads_of z)) e a)

  -- what an operation writes is the name of one of its values
  record Results (r : Register) (op : Op) : Type 0 where
    value : ℕ
    written : IsIn value (writes op)
    is : r ≡ register_of T f Ws value

  results : (o : Operation) (r : Register) (op : Op) (k : ℕ) → IsIn (Plain op k) items → o ≡ carried T f Rs Ws k op → Among r (list_of (destination_of o)) → Results r op
  results o r op k i e a =
      let x = among_map (register_of T f Ws) r (writes op) (subst (Among r) (op_writes T f IsArray Rs Ws op k (properly op k i)) (subst (λ z. Among r (list_of (destination_of z))) e a)) in
      record { value = x.0; written = x.1; is = x.2 }

  item_writes_cold : (o : Operation) (r : Register) → OfItem T f p Rs Ws items o → Among r (list_of (destination_of o)) → Heat p r ≡ 0
  item_writes_cold o r (of_op op k i e) a = let x = results o r op k i e a in ap (Heat p) x.is ∙ write_cold x.value (in_all_of item_writes (Plain op k) x.value items i x.written)
  item_writes_cold o r (of_split test q y i e) a = absurd (subst (λ z. Among r (list_of (destination_of z))) e a)

  meets : (r : Register) → Touches Ops r → Heat p r ≡ 0
  meets r t = ⊎_elim
      (λ a. let o = from_operation reads_of Ops r a in item_reads_cold o.op r (of_item T f IsArray Rs Ws p o.op items o.among) o.has t.1)
      (λ a. let o = from_operation (λ op. list_of (destination_of op)) Ops r a in item_writes_cold o.op r (of_item T f IsArray Rs Ws p o.op items o.among) o.has)
      t.0

  -- what is in flight after it

  abbrev Late : ℕ
  Late = slots_in_flight T f items

  abbrev pub Lifted : ℕ → Register → ℕ
  Lifted q = lift Late (Heat q) (map (register_of T f Ws) (slotted T f Ws))

  op_takes : (op : Op) (k : ℕ) → IsIn (Plain op k) items → latency_of T.machine (carried T f Rs Ws k op) ≡ latency_of_op T.machine op
  op_takes op k i = op_latency T f IsArray Rs Ws op k (properly op k i)
      (λ y j e. general_there T f mapped l y k (there y j) e (mapped.settled.reads_home p y k op items plans i j))
      (λ v u e. away v u (subst (λ z. IsIn (Plain z k) items) e i))
    where
      there : (y : ℕ) → IsIn y (read_there op) → Banked T f mapped sound y
      there y j = banks y (inl (in_all_of item_reads (Plain op k) y items i (all_there op y j)))

      away : (v u : ℕ) → IsIn (Plain (Across v u) k) items → home T f u ≢ k
      away v u j = mapped.settled.across p v u k items plans j (file_general T f mapped v (banks v (inr (in_all_of item_writes (Plain (Across v u) k) v items j (inl refl)))) (properly (Across v u) k j).1).bank_is

  of_register : (q : ℕ) (x : Hit Register) (op : Op) (k v : ℕ) → LeadsTo p (Planned rg wd items) q → IsIn (Plain op k) items → IsIn v (writes op) → x.to ≡ register_of T f Ws v → x.latency ≡ latency_of T.machine (carried T f Rs Ws k op) → is_slotted (kept T f v) ≡ false → x.latency ≤ Lifted q x.to + 1
  of_register q x op k v leads i w e t s =
      let a = mapped.settled.fresh p q v rg wd k op items at leads i w in
      let b = left_pends T f mapped sound q v Ws s (written_there T f mapped sound p v (Planned rg wd items) at (in_all_of item_writes (Plain op k) v items i w)) in
      let c : Heat q x.to ≡ Heat q (register_of T f Ws v) = ap (Heat q) e in
      let d = lift_from Late (Heat q) (map (register_of T f Ws) (slotted T f Ws)) x.to in
      let y = op_takes op k i in omega arith

  of_slot : (q : ℕ) (x : Hit Register) (op : Op) (k v : ℕ) → IsIn (Plain op k) items → IsIn v (writes op) → x.to ≡ register_of T f Ws v → x.latency ≡ latency_of T.machine (carried T f Rs Ws k op) → is_slotted (kept T f v) ≡ true → x.latency ≤ Lifted q x.to + 1
  of_slot q x op k v j w e t s =
      let i : IsIn v Ws = in_all_of item_writes (Plain op k) v items j w in
      let a = lift_at Late (Heat q) (map (register_of T f Ws) (slotted T f Ws)) x.to (map_among (register_of T f Ws) x.to v (slotted T f Ws) (slotted_in T f v Ws i s) e) in
      let b = slots_land T f v op k items j w s in
      let y = op_takes op k j in omega arith

  hit_bound : (q : ℕ) (x : Hit Register) (o : Operation) → LeadsTo p (Planned rg wd items) q → OfItem T f p Rs Ws items o → Among x.to (list_of (destination_of o)) → x.latency ≡ latency_of T.machine o → x.latency ≤ Lifted q x.to + 1
  hit_bound q x o leads (of_split test to y i e) a t = absurd (subst (λ z. Among x.to (list_of (destination_of z))) e a)
  hit_bound q x o leads (of_op op k i e) a t = by (is_slotted (kept T f res.value)) refl
    where
      res : Results x.to op
      res = results o x.to op k i e a

      by : (b : Bool) → is_slotted (kept T f res.value) ≡ b → x.latency ≤ Lifted q x.to + 1
      by true s = of_slot q x op k res.value i res.written res.is (t ∙ ap (latency_of T.machine) e) s
      by false s = of_register q x op k res.value leads i res.written res.is (t ∙ ap (latency_of T.machine) e) s

  plan_cooled : (q : ℕ) → LeadsTo p (Planned rg wd items) q → (r : Register) → raised same (hits T.machine Ops) (Heat p) r - 1 ≤ Lifted q r
  plan_cooled q leads r =
      let k = raised_bound (hits T.machine Ops) (Heat p) (λ s. Lifted q s + 1)
      (λ s. (let a = pend_kept T f mapped sound p q s (Planned rg wd items) at leads in let c = lift_from Late (Heat q) (map (register_of T f Ws) (slotted T f Ws)) s in omega arith))
      (λ x i. let h = from_hit T.machine Ops x i in hit_bound q x h.op leads (of_item T f IsArray Rs Ws p h.op items h.among) h.to h.latency) r in
      omega arith

  -- results in slots

  written_cold : (q v : ℕ) → IsIn v (slotted T f Ws) → Heat q (register_of T f Ws v) ≡ 0
  written_cold q v i = let a = slotted_from T f v Ws i in pend_scratch T f mapped sound q v Ws few_w a.0 a.1

  stored : (q : ℕ) (rest : List Word) (e : Register → ℕ) → F (Heat q) rest e → F (Lifted q) (behind T f items ++ rest) e
  stored q rest e more = behind_fine T heat f Ws (Heat q) (λ k. pend_own T f mapped sound q k 1 (omega arith)) (pend_own T f mapped sound q 0 2 (omega arith)) Late rest e (written_cold q) more

  -- the words of a planned word, where each split leads to where no less may be in flight
  -- and a goto in it too
  abbrev pub Leaves : Type 0
  Leaves = (test to : ℕ) (y : Bool) → IsIn (Split test y to) items → (r : Register) → Lifted to r ≤ heat (leads T f p (slotted T f Ws) to) r

  abbrev pub GoesOn : Type 0
  GoesOn = (d : ℕ) → Going T f p items d → (r : Register) → Heat (suc p) r ≤ heat (T.starts f d) r

  abbrev Cooled : List Operation → Register → ℕ
  Cooled code r = raised same (hits T.machine code) (Heat p) r - 1

  last : F (Lifted (suc p)) (behind T f items) (Heat (suc p))
  last = subst (λ ws. F (Lifted (suc p)) ws (Heat (suc p))) (append-nil (behind T f items)) (stored (suc p) [] (Heat (suc p)) (λ r. omega arith))

  then_last : (code : List Operation) → ((r : Register) → Cooled code r ≤ Lifted (suc p) r) → F (cond (falls code) (Cooled code) cold) (behind T f items) (Heat (suc p))
  then_last code le = fine_less (words_kind T.machine) (words_cool T.machine) heat (cond (falls code) (Cooled code) cold) (Lifted (suc p)) (Heat (suc p)) (behind T f items) (λ r. by r (falls code)) last
    where
      by : (r : Register) (b : Bool) → cond b (Cooled code) cold r ≤ Lifted (suc p) r
      by r true = le r
      by r false = omega arith

  goto_cooled : (d : ℕ) (r : Register) → Cooled (Ops ++ Goto d ∷ []) r ≤ Lifted (suc p) r
  goto_cooled d r = let a = plan_cooled (suc p) (inl refl) r in let b = ap (λ hs. raised same hs (Heat p) r) (hits_then T.machine Ops d) in omega arith

  word_fine : Leaves → GoesOn → (code : List Operation) → WithGoto T f p items code → F (Heat p) (record { ops = code; idle = 0 } ∷ behind T f items) (Heat (suc p))
  word_fine there goes code alone = (
    meets,
    (λ q r j. (let k = items_jump T f IsArray Rs Ws p q items j in
        let a = plan_cooled k.to (inr (k.test, k.when, k.split)) r in
        let b = there k.test k.to k.when k.split r in
        let c = ap (λ x. heat x r) k.leads_there in omega arith)),
    then_last Ops (plan_cooled (suc p) (inl refl)),
  )
  word_fine there goes code (going d g) = (
    (λ r t. meets r (touches_then Ops (T.starts f d) r t)),
    (λ q r j. (let k : q ≡ T.starts f d = goto_jumps T f IsArray Rs Ws p (T.starts f d) q items g.no_split j in
        let a = goto_cooled (T.starts f d) r in
        let b : Lifted (suc p) r ≡ Heat (suc p) r = ap (λ vs. lift Late (Heat (suc p)) (map (register_of T f Ws) vs) r) g.no_slot in
        let c = goes d g r in
        let e = ap (λ x. heat x r) k in omega arith)),
    then_last (Ops ++ Goto (T.starts f d) ∷ []) (goto_cooled (T.starts f d)),
  )

  pub plan_fine : Leaves → GoesOn → F (Heat p) (plan_words T f p items) (Heat (suc p))
  plan_fine there goes = fine_append (words_kind T.machine) (words_cool T.machine) heat (Heat p) (Heat p) (Heat (suc p)) (before T f Rs) (plan_word T f p items ∷ behind T f items)
      (before_fine T heat f mapped sound p Rs few_r read_settles) (word_fine there goes (plan_ops T f p items) (beside T f p items))

  -- a register that it spares may be in flight besides

  spared_value : (r : Register) (v : ℕ) → spares T f r items ≡ true → IsIn v Rs ⊎ IsIn v Ws → is_elsewhere T f r v ≡ true
  spared_value r v h i =
      let all : list_all (item_elsewhere T f r) items ≡ true = (and_parts _ _ h).1 in
      ⊎_elim
      (λ j. let x = from_all_of item_reads v items j in item_values T f r x.0 v (all_in (item_elsewhere T f r) items x.0 all x.1) (inl x.2))
      (λ j. let x = from_all_of item_writes v items j in item_values T f r x.0 v (all_in (item_elsewhere T f r) items x.0 all x.1) (inr x.2)) i

  not_read : (vs : List ℕ) (r : Register) → spares T f r items ≡ true → ((y : ℕ) → IsIn y vs → IsIn y Rs) → is_zero r ≡ false → ReadBy T f Rs vs r → ⊥
  not_read vs r h sub nz (of_value y i e) = not_named T f r y Rs (spared_value r y h (inl (sub y i))) e
  not_read vs r h sub nz (of_zero e) = absurd (let z : true ≡ false = sym e ∙ nz in cc)
  not_read vs r h sub nz (of_pointer k e) = absurd (false≢true (sym (ap is_for_values e) ∙ (and_parts (is_for_values r) (list_all (item_elsewhere T f r) items) h).0))

  untouched : (r : Register) → spares T f r items ≡ true → Touches Ops r → ⊥
  untouched r h t = ⊎_elim
      (λ a. let o = from_operation reads_of Ops r a in reads_off o.op (of_item T f IsArray Rs Ws p o.op items o.among) o.has)
      (λ a. let o = from_operation (λ op. list_of (destination_of op)) Ops r a in writes_off o.op (of_item T f IsArray Rs Ws p o.op items o.among) o.has)
      t.0
    where
      reads_off : (o : Operation) → OfItem T f p Rs Ws items o → Among r (reads_of o) → ⊥
      reads_off o (of_op op k i e) a = not_read (reads op) r h (λ y j. in_all_of item_reads (Plain op k) y items i j) t.1 (op_reads T f IsArray Rs Ws op k (properly op k i) r (subst (λ z. Among r (reads_of z)) e a))
      reads_off o (of_split test q y i e) a = ⊎_elim
          (λ s. not_named T f r test Rs (spared_value r test h (inl (in_all_of item_reads (Split test y q) test items i (inl refl)))) (s ∙ branch_name T f IsArray Rs test (ap is_branch (mapped.settled.tests p test q y items plans i))))
          (λ z. absurd z)
          (subst (λ z. Among r (reads_of z)) e a)

      writes_off : (o : Operation) → OfItem T f p Rs Ws items o → Among r (list_of (destination_of o)) → ⊥
      writes_off o (of_op op k i e) a = let x = results o r op k i e a in not_named T f r x.value Ws (spared_value r x.value h (inr (in_all_of item_writes (Plain op k) x.value items i x.written))) x.is
      writes_off o (of_split test q y i e) a = absurd (subst (λ z. Among r (list_of (destination_of z))) e a)

  module _ (on : Register → ℕ) (e : Register → ℕ) where
    abbrev pub Beside : Register → ℕ
    Beside r = if spares T f r items then (if list_any is_split items then 1 else suc (on r)) else 0

    beside_off : (v : ℕ) (r : Register) → IsIn v Rs ⊎ IsIn v Ws → is_slotted (kept T f v) ≡ true → Beside r ≡ 0
    beside_off v r i s = by (spares T f r items) refl
      where
        by : (b : Bool) → spares T f r items ≡ b → (if b then (if list_any is_split items then 1 else suc (on r)) else 0) ≡ 0
        by false h = refl
        by true h = absurd (false≢true (sym (not_true (is_slotted (kept T f v)) (and_parts _ _ (spared_value r v h i)).0) ∙ s))

    beside_touched : (r : Register) → Touches Ops r → Beside r ≡ 0
    beside_touched r t = by (spares T f r items) refl
      where
        by : (b : Bool) → spares T f r items ≡ b → (if b then (if list_any is_split items then 1 else suc (on r)) else 0) ≡ 0
        by false h = refl
        by true h = absurd (untouched r h t)

    beside_jumps : (q : ℕ) (r : Register) → Jumps Ops q → Beside r - 1 ≤ heat q r
    beside_jumps q r j =
        let k = items_jump T f IsArray Rs Ws p q items j in
        let s = some_split items k.test k.to k.when k.split in by (spares T f r items) (list_any is_split items) s
      where
        by : (b c : Bool) → c ≡ true → (if b then (if c then 1 else suc (on r)) else 0) - 1 ≤ heat q r
        by true true s = omega arith
        by true false s = absurd (false≢true s)
        by false c s = omega arith

    beside_left : ((r : Register) → on r ≤ e r) → (r : Register) → Beside r - 1 ≤ e r
    beside_left le r = by (spares T f r items) (list_any is_split items)
      where
        by : (b c : Bool) → (if b then (if c then 1 else suc (on r)) else 0) - 1 ≤ e r
        by true true = omega arith
        by true false = let a = le r in omega arith
        by false c = omega arith

    -- where a goto in the word leads there is as much time
    abbrev pub GoesLater : Type 0
    GoesLater = (d : ℕ) → Going T f p items d → (r : Register) → on r ≤ heat (T.starts f d) r

    code_touched : (code : List Operation) → WithGoto T f p items code → (r : Register) → Touches code r → Beside r ≡ 0
    code_touched code alone r t = beside_touched r t
    code_touched code (going d g) r t = beside_touched r (touches_then Ops (T.starts f d) r t)

    code_jumps : GoesLater → (code : List Operation) → WithGoto T f p items code → (q : ℕ) (r : Register) → Jumps code q → Beside r - 1 ≤ heat q r
    code_jumps later code alone q r j = beside_jumps q r j
    code_jumps later code (going d g) q r j =
        let k : q ≡ T.starts f d = goto_jumps T f IsArray Rs Ws p (T.starts f d) q items g.no_split j in
        let a = later d g r in
        let b = ap (λ x. heat x r) k in
        let c = by (spares T f r items) (list_any is_split items) in omega arith
      where
        by : (b c : Bool) → (if b then (if c then 1 else suc (on r)) else 0) - 1 ≤ on r
        by true true = omega arith
        by true false = omega arith
        by false c = omega arith

    pub beside_fine : F (Heat p) (plan_words T f p items) e → ((r : Register) → on r ≤ e r) → GoesLater → F (λ r. max (Heat p r) (Beside r)) (plan_words T f p items) e
    beside_fine fine le later = by (slotted T f Rs) (slotted T f Ws) refl refl fine
      where
        Loads : List Word
        Loads = settled T (load_slots T f Rs (once (slotted T f Rs)))

        Stores : List Word
        Stores = pause (slots_in_flight T f items) ++ store_slots T f Ws (slotted T f Ws)

        none : (v : ℕ) (ws : List Word) → IsIn v Rs ⊎ IsIn v Ws → is_slotted (kept T f v) ≡ true → F (Heat p) ws e → F (λ r. max (Heat p r) (Beside r)) ws e
        none v ws i s a = fine_less (words_kind T.machine) (words_cool T.machine) heat (λ r. max (Heat p r) (Beside r)) (Heat p) e ws (λ r. (let z = beside_off v r i s in omega arith)) a

        by : (xs ys : List ℕ) → slotted T f Rs ≡ xs → slotted T f Ws ≡ ys → F (Heat p) (if_some xs Loads ++ plan_word T f p items ∷ if_some ys Stores) e → F (λ r. max (Heat p r) (Beside r)) (if_some xs Loads ++ plan_word T f p items ∷ if_some ys Stores) e
        by [] [] s t a = fine_also T.machine heat (Heat p) Beside e (plan_ops T f p items) a (code_touched (plan_ops T f p items) (beside T f p items)) (code_jumps later (plan_ops T f p items) (beside T f p items)) (beside_left le)
        by (v ∷ vs) ys s t a = let x = slotted_from T f v Rs (subst (IsIn v) (sym s) (inl refl)) in none v (Loads ++ plan_word T f p items ∷ if_some ys Stores) (inl x.0) x.1 a
        by [] (v ∷ vs) s t a = let x = slotted_from T f v Ws (subst (IsIn v) (sym t) (inl refl)) in none v (plan_word T f p items ∷ Stores) (inr x.0) x.1 a

  -- and of a landing of it
  pub landing_fine : (q : ℕ) (e : Register → ℕ) → ((r : Register) → Heat q r ≤ heat (T.starts f (past T f q)) r) → F (Lifted q) (landing_words T f items q) e
  landing_fine q e there = stored q (one (Goto (T.starts f (past T f q))) ∷ []) e
      (stop_fine T.machine heat (Heat q) (Goto (T.starts f (past T f q)) ∷ []) [] e refl (λ t r j. (let a = there r in let b = ap (λ x. heat x r) j in omega arith)) refl (λ r t. ⊎_elim (λ i. absurd i) (λ i. absurd i) t.0) (λ r. omega arith))
