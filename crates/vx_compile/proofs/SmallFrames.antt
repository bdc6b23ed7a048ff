-- The frames of an accepted program are small: a general value stands on one cluster and is copied to others, so that at most one
-- for each cluster has a slot, and a branch value has no copies.
use Rattle.std.proofs.Common.{◌≡◌, ◌⊎◌, inl, inr, ℕ, zero, suc, ◌<◌, ◌≤◌, ◌+◌, ◌*◌, List, [], ◌∷◌, ◌++◌, length, count_by, Some, None, refl, sym, ap, ◌∙◌, subst, arith, length-append}
use Rattle.std.specs.Prelude.{◌/◌, ◌%◌, ◌-◌, slice_get, if◌then◌else◌}
use Rattle.std.proofs.Math.Nat.{mod-eq_of_lt}
use Rattle.std.proofs.lemmas.Bool.{cases_lt, lt-ltb, le-ltb}
use Rattle.std.proofs.lemmas.Option.{slice_get_within}
use Rattle.vx_flow.specs.declared.graph.Bank.{Bank}
use Rattle.vx_flow.specs.declared.graph.Bank.TheVariants.{General, Branch}
use Rattle.vx_flow.specs.declared.graph.Graph.{Graph}
use Rattle.vx_flow.specs.declared.graph.Flow.{Flow}
use Rattle.vx_flow.specs.Effects.{IsIn}
use Rattle.vx_flow.specs.Sound.{Sound}
use Rattle.vx_flow.proofs.Members.{in_left, in_right}
use Rattle.vx_flow.proofs.SoundLaw.{sound_is}
use Rattle.vx_isa.specs.Numbers.{Numbers, IsMachine}
use Rattle.vx_isa.proofs.Lists.{count_by-cons}
use Rattle.vx_isa.proofs.Ranges.{ranges}
use Rattle.vx_lower.specs.FlowOf.{is_general, is_branch}
use Rattle.vx_room.specs.Items.{latency_of_op}
use Rattle.vx_mixed.specs.declared.layout.VWords.{VWords}
use Rattle.vx_mixed.specs.LaidSettled.{home_in, or_zero}
use Rattle.vx_mixed.specs.Settled.{NoTwice, has_home}
use Rattle.vx_region.specs.Regions.{IsCopyAway}
use Rattle.vx_region.proofs.ClusteredOps.{copy_whole, copy_home, behind_values}
use Rattle.vx_regs.specs.declared.map.RegMap.{RegMap}
use Rattle.vx_regs.specs.Intervals.{IsBusy, is_live}
use Rattle.vx_regs.specs.Mapped.{Mapped}
use Rattle.vx_target.proofs.Frames.{get_some}
use Rattle.vx_calls.specs.Bounds.{FitsMemory, MayNeedSlot, SmallFrame, passes, keeps, lives}
use Rattle.vx_compiled.specs.Compiled.{AreMapsOf}
use Rattle.vx_compile.specs.Stages.{AreLayoutsFrom, AreLayoutsOf, IsLayoutOf, IsSmall, IsSmallGraph, StageLaws}
use Rattle.vx_compile.proofs.OneFunction.{Finishable, finishable}

-- numbers that differ, each with a place of its own in a list, are no more than the list has items

without : (y : ℕ) (ys : List ℕ) → IsIn y ys → (rest : List ℕ) × (length ys ≡ suc (length rest)) × ((z : ℕ) → IsIn z ys → (z ≡ y → ⊥) → IsIn z rest)
without y [] i = absurd i
without y (x ∷ ys) (inl e) = (ys, refl, λ z i other. elim i [ inl q ↦ absurd (other (q ∙ sym e)) | inr j ↦ j ])
without y (x ∷ ys) (inr i) = let r = without y ys i in (x ∷ r.0, ap suc r.1, λ z j other. elim j [ inl q ↦ inl q | inr k ↦ inr (r.2 z k other) ])

few_of : (At : ℕ → ℕ → Type 0) → ((u v z : ℕ) → At u z → At v z → u ≡ v) → (xs ys : List ℕ) → NoTwice xs → ((v : ℕ) → IsIn v xs → (z : ℕ) × At v z × IsIn z ys) → length xs ≤ length ys
few_of At one [] ys once each = omega arith
few_of At one (x ∷ xs) ys once each =
    let c = each x (inl refl) in
    let r = without c.0 ys c.2 in
    let h : length xs ≤ length r.0 = few_of At one xs r.0 once.1 (λ v i. let d = each v (inr i) in (d.0, d.1, r.2 d.0 d.2 (λ e. once.0 (subst (λ u. IsIn u xs) (one v x c.0 (subst (At v) e d.1) c.1) i)))) in
    let e : length ys ≡ suc (length r.0) = r.1 in
    omega (arith, h, e)

-- places for values: the number of its copy to each cluster for a general value, and its own for a branch value

abbrev copy : (values v cluster : ℕ) → ℕ
copy values v cluster = (cluster + 1) * values + v

abbrev copies_of : (clusters values v : ℕ) → List ℕ
copies_of zero values v = []
copies_of (suc k) values v = copy values v k ∷ copies_of k values v

abbrev places_of : (clusters values v : ℕ) → Bank → List ℕ
places_of clusters values v General = copies_of clusters values v
places_of clusters values v Branch = v ∷ []

abbrev places_from : (clusters values v : ℕ) → List Bank → List ℕ
places_from clusters values v [] = []
places_from clusters values v (b ∷ banks) = places_of clusters values v b ++ places_from clusters values (suc v) banks

as_many_copies : (clusters values v : ℕ) → length (copies_of clusters values v) ≡ clusters
as_many_copies zero values v = refl
as_many_copies (suc k) values v = ap suc (as_many_copies k values v)

few_places : (clusters values v : ℕ) (banks : List Bank) → clusters ≤ 4 → length (places_from clusters values v banks) ≤ 4 * count_by is_general banks + count_by is_branch banks
few_places clusters values v [] few = omega arith
few_places clusters values v (General ∷ banks) few =
    let a = count_by-cons is_general General banks in
    let b = count_by-cons is_branch General banks in
    let c = few_places clusters values (suc v) banks few in
    let d = length-append (copies_of clusters values v) (places_from clusters values (suc v) banks) in
    let e = as_many_copies clusters values v in
    omega (arith, a, b, c, d, e, few)
few_places clusters values v (Branch ∷ banks) few =
    let a = count_by-cons is_general Branch banks in
    let b = count_by-cons is_branch Branch banks in
    let c = few_places clusters values (suc v) banks few in
    omega (arith, a, b, c)

in_copies : (clusters values v k : ℕ) → k < clusters → IsIn (copy values v k) (copies_of clusters values v)
in_copies zero values v k lt = absurd (omega (arith, lt))
in_copies (suc c) values v k lt = by (cases_lt k c) (λ l. in_copies c values v k l)
  where
    by : (k < c) ⊎ (c ≤ k) → (k < c → IsIn (copy values v k) (copies_of c values v)) → IsIn (copy values v k) (copies_of (suc c) values v)
    by (inl l) more = inr (more l)
    by (inr l) more = let e : k ≡ c = omega (arith, lt, l) in inl (ap (copy values v) e)

bank_is : {a b : Bank} → Some a ≡ Some b → a ≡ b
bank_is e = cc

in_places : (clusters values v : ℕ) (banks : List Bank) (i : ℕ) (b : Bank) (z : ℕ) → slice_get banks i ≡ Some b → IsIn z (places_of clusters values (v + i) b) → IsIn z (places_from clusters values v banks)
in_places clusters values v [] i b z e h = absurd (let q : None ≡ Some b = e in cc)
in_places clusters values v (x ∷ banks) zero b z e h =
    let n : v + 0 ≡ v = omega arith in
    in_left z (places_of clusters values v x) (places_from clusters values (suc v) banks)
    (subst (λ y. IsIn z (places_of clusters values v y)) (sym (bank_is e)) (subst (λ n. IsIn z (places_of clusters values n b)) n h))
in_places clusters values v (x ∷ banks) (suc i) b z e h =
    let n : v + suc i ≡ suc v + i = omega arith in
    in_right z (places_of clusters values v x) (places_from clusters values (suc v) banks)
    (in_places clusters values (suc v) banks i b z e (subst (λ n. IsIn z (places_of clusters values n b)) n h))

in_all : (clusters values : ℕ) (banks : List Bank) (i : ℕ) (b : Bank) (z : ℕ) → slice_get banks i ≡ Some b → IsIn z (places_of clusters values i b) → IsIn z (places_from clusters values 0 banks)
in_all clusters values banks i b z e h = let n : i ≡ 0 + i = omega arith in in_places clusters values 0 banks i b z e (subst (λ n. IsIn z (places_of clusters values n b)) n h)

-- the values of a layout

module _ (l : VWords) where
  abbrev N : ℕ
  N = length l.banks

  -- the place of a value or of a copy
  data Stands (v z : ℕ) : Type 0 where
    general_value : v < N → z ≡ copy N v (home_in l v) → Stands v z
    branch_value : v < N → z ≡ v → Stands v z
    copied_value : IsCopyAway l.banks l.homes.clusters v → z ≡ v → Stands v z

  value_of : (v k : ℕ) → v < N → copy N v k % N ≡ v
  value_of v k lt = copy_whole N v k ∙ mod-eq_of_lt lt

  same_value : (u v k h : ℕ) → u < N → v < N → copy N u k ≡ copy N v h → u ≡ v
  same_value u v k h a b e = sym (value_of u k a) ∙ ap (λ z. z % N) e ∙ value_of v h b

  home_of_value : (v k : ℕ) → v < N → has_home l.homes.clusters v ≡ Some k → home_in l v ≡ k
  home_of_value v k lt e = ap (λ b. if b then or_zero (has_home l.homes.clusters v) else v / N - 1) (lt-ltb v N lt) ∙ ap or_zero e

  home_of_copy : (v k w : ℕ) → N ≤ v → w < N → v ≡ copy N w k → home_in l v ≡ k
  home_of_copy v k w le lt e = ap (λ b. if b then or_zero (has_home l.homes.clusters v) else v / N - 1) (le-ltb v N le) ∙ ap (λ z. z / N - 1) e ∙ copy_home N w k lt

  -- the place of a general value is none of its copies
  not_both : (u v : ℕ) → u < N → (a : IsCopyAway l.banks l.homes.clusters v) → copy N u (home_in l u) ≡ v → ⊥
  not_both u v lt a e =
      let w : a.value < N = slice_get_within l.banks a.value General a.bank in
      let both : copy N u (home_in l u) ≡ copy N a.value a.cluster = e ∙ a.number in
      let same : u ≡ a.value = same_value u a.value (home_in l u) a.cluster lt w both in
      let here : home_in l u ≡ a.cluster = sym (copy_home N u (home_in l u) lt) ∙ ap (λ z. z / N - 1) both ∙ copy_home N a.value a.cluster w in
      let home : home_in l u ≡ a.home = ap (home_in l) same ∙ home_of_value a.value a.home w a.has in
      a.other (sym home ∙ here)

  copy_behind : (v : ℕ) → IsCopyAway l.banks l.homes.clusters v → N ≤ v
  copy_behind v a = let b = behind_values N a.value a.cluster in let e = a.number in omega (arith, b, e)

  one_each : (u v z : ℕ) → Stands u z → Stands v z → u ≡ v
  one_each u v z (general_value a e) (general_value b f) = same_value u v (home_in l u) (home_in l v) a b (sym e ∙ f)
  one_each u v z (general_value a e) (branch_value b f) = absurd (let h = behind_values N u (home_in l u) in omega (arith, h, b, e, f))
  one_each u v z (general_value a e) (copied_value b f) = absurd (not_both u v a b (sym e ∙ f))
  one_each u v z (branch_value a e) (general_value b f) = absurd (let h = behind_values N v (home_in l v) in omega (arith, h, a, e, f))
  one_each u v z (branch_value a e) (branch_value b f) = sym e ∙ f
  one_each u v z (branch_value a e) (copied_value b f) = sym e ∙ f
  one_each u v z (copied_value a e) (general_value b f) = absurd (not_both v u b a (sym f ∙ e))
  one_each u v z (copied_value a e) (branch_value b f) = sym e ∙ f
  one_each u v z (copied_value a e) (copied_value b f) = sym e ∙ f

  module _ (clusters : ℕ) where
    abbrev Places : List ℕ
    Places = places_from clusters N 0 l.banks

    of_value : (v : ℕ) → v < N → home_in l v < clusters → (z : ℕ) × Stands v z × IsIn z Places
    of_value v lt there = let b = get_some l.banks v lt in by b.0 b.1
      where
        by : (b : Bank) → slice_get l.banks v ≡ Some b → (z : ℕ) × Stands v z × IsIn z Places
        by General e = (copy N v (home_in l v), general_value lt refl, in_all clusters N l.banks v General (copy N v (home_in l v)) e (in_copies clusters N v (home_in l v) there))
        by Branch e = (v, branch_value lt refl, in_all clusters N l.banks v Branch v e (inl refl))

    of_copy : (v : ℕ) → N ≤ v → IsCopyAway l.banks l.homes.clusters v → home_in l v < clusters → (z : ℕ) × Stands v z × IsIn z Places
    of_copy v le a there =
        let w : a.value < N = slice_get_within l.banks a.value General a.bank in
        let k : a.cluster < clusters = subst (λ n. n < clusters) (home_of_copy v a.cluster a.value le w a.number) there in
        (v, copied_value a refl, subst (λ z. IsIn z Places) (sym a.number) (in_all clusters N l.banks a.value General (copy N a.value a.cluster) a.bank (in_copies clusters N a.value a.cluster k)))

-- a frame

small_frame : (machine : Numbers) (globals : ℕ) (graph : Graph) (l : VWords) (map : RegMap) → IsMachine machine → Sound graph → IsSmallGraph globals graph → Finishable machine graph l → Mapped machine (latency_of_op machine) l map → SmallFrame graph globals l map
small_frame machine globals graph l map works sound small can mapped words size =
    let four : machine.clusters ≤ 4 = (ranges machine works).clusters.most in
    let few : length size.values ≤ length (Places l machine.clusters) = few_of (Stands l) (one_each l) size.values (Places l machine.clusters) size.once (λ v i. place v (size.each v i)) in
    let all : length (Places l machine.clusters) ≤ 4 * count_by is_general l.banks + count_by is_branch l.banks = few_places machine.clusters (length l.banks) 0 l.banks four in
    let generals : count_by is_general l.banks ≤ 12000 = subst (λ bs. count_by is_general bs ≤ 12000) (sym can.code.banks) small.general in
    let branches : count_by is_branch l.banks ≤ 8000 = subst (λ bs. count_by is_branch bs ≤ 8000) (sym can.code.banks) small.branch in
    let arrays = small.arrays in
    let is = size.words_are in
    omega (arith, few, all, generals, branches, arrays, is)
  where
    of_busy : (p v : ℕ) → IsBusy (latency_of_op machine) l p v → (z : ℕ) × Stands l v z × IsIn z (Places l machine.clusters)
    of_busy p v busy = elim (cases_lt v (length l.banks)) [
      | inl lt ↦ of_value l machine.clusters v lt (can.values v lt)
      | inr le ↦ of_copy l machine.clusters v le (can.copies p v busy le) (can.homes p v busy)
    ]

    place : (v : ℕ) → MayNeedSlot graph.parameters l map v → (z : ℕ) × Stands l v z × IsIn z (Places l machine.clusters)
    place v (passes i) = let lt : v < length l.banks = slice_get_within l.banks v General (subst (λ bs. slice_get bs v ≡ Some General) (sym can.code.banks) (sound.parameters v i)) in of_value l machine.clusters v lt (can.values v lt)
    place v (keeps k e) = let c = mapped.forced v k e in of_busy c.at.from v c.at.busy_from
    place v (lives p live) = of_busy p v (is_live live)

-- a program

laid_at : (n : ℕ) (machine : Numbers) (graphs : List Graph) (ls : List VWords) → AreLayoutsFrom n machine graphs ls → (f : ℕ) (graph : Graph) (l : VWords) → slice_get graphs f ≡ Some graph → slice_get ls f ≡ Some l → (number : ℕ) × IsLayoutOf machine number graph l
laid_at n machine [] ls h f graph l a b = absurd (let z : None ≡ Some graph = a in cc)
laid_at n machine (g ∷ graphs) [] h f graph l a b = absurd (let z : None ≡ Some l = b in cc)
laid_at n machine (g ∷ graphs) (x ∷ ls) h zero graph l a b = let p : g ≡ graph = cc in let q : x ≡ l = cc in (n, subst (IsLayoutOf machine n graph) q (subst (λ y. IsLayoutOf machine n y x) p h.0))
laid_at n machine (g ∷ graphs) (x ∷ ls) h (suc f) graph l a b = laid_at (n + 1) machine graphs ls h.1 f graph l a b

mapped_at : (machine : Numbers) (ls : List VWords) (maps : List RegMap) → AreMapsOf machine ls maps → (f : ℕ) (l : VWords) (map : RegMap) → slice_get ls f ≡ Some l → slice_get maps f ≡ Some map → Mapped machine (latency_of_op machine) l map
mapped_at machine [] maps h f l map a b = absurd (let z : None ≡ Some l = a in cc)
mapped_at machine (x ∷ ls) [] h f l map a b = absurd (let z : None ≡ Some map = b in cc)
mapped_at machine (x ∷ ls) (y ∷ maps) h zero l map a b = let p : x ≡ l = cc in let q : y ≡ map = cc in subst (Mapped machine (latency_of_op machine) l) q (subst (λ z. Mapped machine (latency_of_op machine) z y) p h.0)
mapped_at machine (x ∷ ls) (y ∷ maps) h (suc f) l map a b = mapped_at machine ls maps h.1 f l map a b

pub fits_memory : (laws : StageLaws) (machine : Numbers) (flow : Flow) (ls : List VWords) (maps : List RegMap) → IsMachine machine → IsSmall flow → AreLayoutsOf machine flow.functions ls → AreMapsOf machine ls maps → FitsMemory flow ls maps
fits_memory laws machine flow ls maps works small laid kept = record {
  globals = small.globals;
  frames = λ f graph l map graph_is layout_is map_is. (
      let is = laid_at 0 machine flow.functions ls laid f graph l graph_is layout_is in
      let can : Finishable machine graph l = finishable laws.settles laws.comes laws.brief machine is.0 graph l works is.1 in
      small_frame machine (length flow.globals) graph l map works (sound_is graph is.1.replaced.is.sound) (small.graphs f graph graph_is) can (mapped_at machine ls maps kept f l map layout_is map_is));
}
