-- A planned word is well formed and fits: its items have room, and its operations need no more.
use Rattle.std.proofs.Common.{◌≡◌, ◌≢◌, ◌⊎◌, inl, inr, ℕ, All, Bool, true, false, ◌||◌, not, slice_index_or, Some, List, [], ◌∷◌, ◌++◌, map, refl, sym, ap, ◌∙◌, arith}
use Rattle.std.specs.List.{list_all, list_any}
use Rattle.std.specs.Cmp.Derive.{both_true}
use Rattle.std.proofs.lemmas.Bool.{and_parts, false≢true}
use Rattle.std.proofs.lemmas.Bool.Decides.{nat_tests}
use Rattle.std.proofs.lemmas.List.Folds.{list_all-append}
use Rattle.std.proofs.lemmas.List.Sums.{AllPass-from_list_all}
use Rattle.vx_flow.specs.declared.graph.Bank.{Bank}
use Rattle.vx_flow.specs.declared.trace.Homes.{Homes}
use Rattle.vx_flow.specs.Effects.{IsIn, writes}
use Rattle.vx_flow.specs.Sound.{Sound}
use Rattle.vx_flow.proofs.SoundLists.{all_in}
use Rattle.vx_isa.specs.declared.operation.Register.{Register}
use Rattle.vx_isa.specs.declared.operation.Register.TheVariants.{General, Branch, Link}
use Rattle.vx_isa.specs.declared.operation.Operation.{Operation}
use Rattle.vx_isa.specs.declared.operation.Operation.TheVariants.{Goto, BranchOn}
use Rattle.vx_isa.specs.Numbers.{Numbers}
use Rattle.vx_isa.specs.Operations.{same, reads_of, list_of, destination_of, is_lone}
use Rattle.vx_isa.specs.Fits.{operands, destinations, is_twice, keeps_to_cluster, is_in_file, IsInFile}
use Rattle.vx_isa.proofs.AnyTiming.{tells}
use Rattle.vx_isa.proofs.FitsLaw.{six_parts, registers_pass, fits_in_words}
use Rattle.vx_room.specs.Needs.{NeedsEach, FitsByRoom}
use Rattle.vx_room.specs.Room.{stands_well}
use Rattle.vx_mixed.specs.declared.layout.Laid.{Laid}
use Rattle.vx_mixed.specs.declared.layout.Laid.TheVariants.{Plain, Split}
use Rattle.vx_mixed.specs.Settled.{NoTwice}
use Rattle.vx_mixed.specs.LaidSettled.{bank_in, item_writes, laid_reads, laid_writes, Plans}
use Rattle.vx_target.specs.Target.{Target, branch_of, register_of, slotted, leads, carried, carried_items}
use Rattle.vx_target.specs.Carried.{IsMapped, item_of_laid}
use Rattle.vx_target.proofs.Beside.{Beside, alone, going, all_then}
use Rattle.vx_target.proofs.Proper.{ProperItems}
use Rattle.vx_target.proofs.Names.{apart_all}
use Rattle.vx_target.proofs.Enough.{few_writes, named_busy, in_map}
use Rattle.vx_target.proofs.Limits.{Limits}
use Rattle.vx_tie.proofs.Limits.{Good, well}
use Rattle.vx_tie.proofs.Needing.{Carrying, op_carries, split_carries}

in_file : (m : Numbers) (r : Register) → is_in_file m r ≡ true → IsInFile m r
in_file m (General r) h = grind (arith, nat_tests)
in_file m (Branch r) h = grind (arith, nat_tests)
in_file m Link h = tt

map_append : {A B : Type 0} (g : A → B) (xs ys : List A) → map g (xs ++ ys) ≡ map g xs ++ map g ys
map_append g [] ys = refl
map_append g (x ∷ xs) ys = ap (λ zs. g x ∷ zs) (map_append g xs ys)

pub differ : (r s : Register) → r ≢ s → same r s ≡ false
differ r s ne = by (same r s) refl
  where
    by : (b : Bool) → same r s ≡ b → same r s ≡ false
    by true e = absurd (ne (tells.equal r s e))
    by false e = e

module _ (T : Target) (f : ℕ) (mapped : IsMapped T f) (sound : Sound (T.graph f)) (IsArray : ℕ → Type 0) (p : ℕ) (items : List Laid) (plans : Plans (T.layout f) p items) (proper : ProperItems T f IsArray items)
    (bank : (v : ℕ) → IsIn v (laid_reads items) ⊎ IsIn v (laid_writes items) → (b : Bank) × (bank_in (T.layout f) v ≡ Some b))
    (l : Limits T.machine) where
  abbrev Rs : List ℕ
  Rs = laid_reads items

  abbrev Ws : List ℕ
  Ws = laid_writes items

  abbrev TheHomes : Homes
  TheHomes = record { clusters = (T.layout f).homes.clusters }

  abbrev Ops : List Laid → List Operation
  Ops xs = carried_items T f p Rs Ws xs

  abbrev Among : List Laid → Type 0
  Among xs = (x : Laid) → IsIn x xs → IsIn x items

  abbrev to_register : ℕ → Register
  to_register v = register_of T f Ws v

  well_placed : (x : Laid) → IsIn x items → stands_well T.machine (item_of_laid x) ≡ true
  well_placed x i =
      let room = six_parts _ _ _ _ _ _ (mapped.settled.fits p items plans) in
      all_in (stands_well T.machine) (map item_of_laid items) (item_of_laid x) (and_parts _ _ room.two).0 (in_map item_of_laid x items i)

  abbrev item_op : Laid → Operation
  item_op (Plain op k) = carried T f Rs Ws k op
  item_op (Split test y q) = BranchOn (branch_of T f Rs test) y (leads T f p (slotted T f Ws) q)

  item_carries : (x : Laid) → IsIn x items → Carrying T f mapped sound IsArray p items plans proper bank l well_placed (item_of_laid x) (item_op x) (item_writes x)
  item_carries (Plain op k) i = op_carries T f mapped sound IsArray p items plans proper bank l well_placed op k i
  item_carries (Split test y q) i = split_carries T f mapped sound IsArray p items plans proper bank l well_placed test q (leads T f p (slotted T f Ws) q) y i

  needs_each : (xs : List Laid) → Among xs → NeedsEach TheHomes (map item_of_laid xs) (Ops xs)
  needs_each [] h = tt
  needs_each (Plain op k ∷ xs) h = ((item_carries (Plain op k) (h (Plain op k) (inl refl))).needs, needs_each xs (λ x i. h x (inr i)))
  needs_each (Split test y q ∷ xs) h = ((item_carries (Split test y q) (h (Split test y q) (inl refl))).needs, needs_each xs (λ x i. h x (inr i)))

  all_pass : (t : Operation → Bool) → ((x : Laid) → IsIn x items → t (item_op x) ≡ true) → (xs : List Laid) → Among xs → list_all t (Ops xs) ≡ true
  all_pass t each [] h = refl
  all_pass t each (Plain op k ∷ xs) h = both_true (each (Plain op k) (h (Plain op k) (inl refl))) (all_pass t each xs (λ x i. h x (inr i)))
  all_pass t each (Split test y q ∷ xs) h = both_true (each (Split test y q) (h (Split test y q) (inl refl))) (all_pass t each xs (λ x i. h x (inr i)))

  results : (xs : List Laid) → Among xs → destinations (Ops xs) ≡ map to_register (laid_writes xs)
  results [] h = refl
  results (Plain op k ∷ xs) h =
      ap (λ z. z ++ destinations (Ops xs)) (item_carries (Plain op k) (h (Plain op k) (inl refl))).to_is
      ∙ ap (λ z. map to_register (writes op) ++ z) (results xs (λ x i. h x (inr i)))
      ∙ sym (map_append to_register (writes op) (laid_writes xs))
  results (Split test y q ∷ xs) h = results xs (λ x i. h x (inr i))

  apart : (x y : ℕ) → IsIn x Ws → IsIn y Ws → x ≢ y → to_register x ≢ to_register y
  apart x y i j ne = apart_all T f mapped p Ws x y (λ v k. (bank v (inr k), named_busy T f mapped sound IsArray p items plans proper bank v (inr k))) (few_writes T f mapped sound IsArray p items plans proper bank) i j ne

  none_again : (v : ℕ) (vs : List ℕ) → IsIn v Ws → ((u : ℕ) → IsIn u vs → IsIn u Ws) → (IsIn v vs → ⊥) → list_any (same (to_register v)) (map to_register vs) ≡ false
  none_again v [] i h no_ = refl
  none_again v (u ∷ vs) i h no_ =
      ap (λ b. b || list_any (same (to_register v)) (map to_register vs)) (differ (to_register v) (to_register u) (apart v u i (h u (inl refl)) (λ e. no_ (inl e))))
      ∙ none_again v vs i (λ x j. h x (inr j)) (λ j. no_ (inr j))

  once : (vs : List ℕ) → ((u : ℕ) → IsIn u vs → IsIn u Ws) → NoTwice vs → is_twice (map to_register vs) ≡ false
  once [] h n = refl
  once (v ∷ vs) h n = ap (λ b. b || is_twice (map to_register vs)) (none_again v vs (h v (inl refl)) (λ x j. h x (inr j)) n.0) ∙ once vs (λ x j. h x (inr j)) n.1

  all_filed : list_all (is_in_file T.machine) (operands (Ops items) ++ destinations (Ops items)) ≡ true
  all_filed = registers_pass (is_in_file T.machine) (Ops items)
      ∙ both_true
      (all_pass (λ op. list_all (is_in_file T.machine) (reads_of op)) (λ x i. (item_carries x i).reads) items (λ x i. i))
      (all_pass (λ op. list_all (is_in_file T.machine) (list_of (destination_of op))) (λ x i. (item_carries x i).writes) items (λ x i. i))

  none_lone : All (λ op. is_lone op ≡ false) (Ops items)
  none_lone k d h = by (is_lone (slice_index_or (Ops items) k d)) (AllPass-from_list_all (λ op. not (is_lone op)) (Ops items) (all_pass (λ op. not (is_lone op)) (λ x i. ap not (item_carries x i).not_lone) items (λ x i. i)) k d h)
    where
      by : (b : Bool) → not b ≡ true → b ≡ false
      by true e = absurd (false≢true e)
      by false e = refl

  carried_good : FitsByRoom → Good T.machine (Ops items)
  carried_good by_room = well T.machine (Ops items) (ap is_twice (results items (λ x i. i)) ∙ once Ws (λ u i. i) (mapped.settled.once p items plans)) (all_pass keeps_to_cluster (λ x i. (item_carries x i).keeps) items (λ x i. i))
      ((fits_in_words T.machine (Ops items)).1 (by_room T.machine TheHomes (map item_of_laid items) (Ops items) (mapped.settled.fits p items plans) (needs_each items (λ x i. i)) (inr none_lone)
      (λ k d h. in_file T.machine _ (AllPass-from_list_all (is_in_file T.machine) (operands (Ops items) ++ destinations (Ops items)) all_filed k d h))))

  pub plan_good : FitsByRoom → (code : List Operation) → Beside T f p items code → Good T.machine code
  plan_good by_room code alone = carried_good by_room
  plan_good by_room code (going q g) = well T.machine (Ops items ++ Goto (T.starts f q) ∷ [])
      (ap is_twice (all_then (λ op. list_of (destination_of op)) (Ops items) (Goto (T.starts f q)) refl ∙ results items (λ x i. i)) ∙ once Ws (λ u i. i) (mapped.settled.once p items plans))
      (list_all-append keeps_to_cluster (Ops items) (Goto (T.starts f q) ∷ []) ∙ both_true (all_pass keeps_to_cluster (λ x i. (item_carries x i).keeps) items (λ x i. i)) refl)
      g.fit
