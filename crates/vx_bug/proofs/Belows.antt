-- Clusters that are chosen, and homes, are those of the machine; homes stay, and what an operation names gets one.
use Rattle.std.proofs.Common.{◌≡◌, ◌<◌, ◌≤◌, ◌⊎◌, inl, inr, ⊎_elim, ◌==◌, ◌&&◌, not, refl, sym, ◌∙◌, ap, arith, subst, Bool, true, false, if◌then◌else◌, ℕ, zero, suc, Option, Some, None, is_some, List, [], ◌∷◌, ◌++◌, length, take, slice_get, slice_index_or}
use Rattle.std.proofs.lemmas.Bool.{eqb-true, eq-eqb, cases_lt}
use Rattle.std.proofs.lemmas.List.{take_all, get_or_past}
use Rattle.vx_flow.specs.declared.trace.TraceOp.{TraceOp}
use Rattle.vx_flow.specs.declared.trace.Trace.{Trace}
use Rattle.vx_flow.specs.declared.trace.Homes.{Homes}
use Rattle.vx_flow.specs.Effects.{IsIn}
use Rattle.vx_isa.specs.Numbers.{Numbers}
use Rattle.vx_dep.specs.Delays.{Stands}
use Rattle.vx_bug.specs.declared.clusters.Clusters.{Clusters}
use Rattle.vx_bug.specs.Clusters.{Books, some_of, general_reads, general_writes, is_bound, home_clusters, home_or_any, permitted, with_home, with_homes, after_turn, books_after, at_first}
use Rattle.vx_bug.specs.CanAssign.{IsFixed, ClustersAreThere}
use Rattle.vx_bug.specs.Assigned.{books_at, last_books, Assigned}
use Rattle.vx_bug.proofs.Best.{in_numbers}
use Rattle.vx_bug.proofs.Listing.{in_append}
use Rattle.vx_bug.proofs.Taking.{books_end}
use Rattle.vx_bug.proofs.Everyone.{listed_all, got_at}

-- homes

pub record HomesBelow (n : ℕ) (homes : ℕ → Option ℕ) : Type 0 where
  pub below : (v c : ℕ) → homes v ≡ Some c → c < n

with_home_either : (c : ℕ) (homes : ℕ → Option ℕ) (v u : ℕ) → (with_home c homes v u ≡ Some c) ⊎ (with_home c homes v u ≡ homes u)
with_home_either c homes v u = by ((u == v) && not (is_some (homes v))) refl
  where
    by : (b : Bool) → ((u == v) && not (is_some (homes v))) ≡ b → (with_home c homes v u ≡ Some c) ⊎ (with_home c homes v u ≡ homes u)
    by true e = inl (ap (λ x. if x then Some c else homes u) e)
    by false e = inr (ap (λ x. if x then Some c else homes u) e)

with_home_below : (n c : ℕ) (homes : ℕ → Option ℕ) (v : ℕ) → c < n → HomesBelow n homes → HomesBelow n (with_home c homes v)
with_home_below n c homes v l h = record {
  below = λ u k e. ⊎_elim
      (λ p. let q : Some c ≡ Some k = sym p ∙ e in let same : c ≡ k = cc in omega (arith, l, same))
      (λ p. h.below u k (sym p ∙ e))
      (with_home_either c homes v u);
}

with_homes_below : (n c : ℕ) (homes : ℕ → Option ℕ) (vs : List ℕ) → c < n → HomesBelow n homes → HomesBelow n (with_homes c homes vs)
with_homes_below n c homes [] l h = h
with_homes_below n c homes (v ∷ vs) l h = with_homes_below n c (with_home c homes v) vs l (with_home_below n c homes v l h)

with_home_stays : (c : ℕ) (homes : ℕ → Option ℕ) (v u k : ℕ) → homes u ≡ Some k → with_home c homes v u ≡ Some k
with_home_stays c homes v u k e = by (u == v) refl
  where
    by : (b : Bool) → (u == v) ≡ b → with_home c homes v u ≡ Some k
    by true q =
        let same : u ≡ v = eqb-true u v q in
        let there : homes v ≡ Some k = ap homes (sym same) ∙ e in
        ap (λ x. if x && not (is_some (homes v)) then Some c else homes u) q ∙ ap (λ o. if not (is_some o) then Some c else homes u) there ∙ e
    by false q = ap (λ x. if x && not (is_some (homes v)) then Some c else homes u) q ∙ e

pub with_homes_stays : (c : ℕ) (homes : ℕ → Option ℕ) (vs : List ℕ) (u k : ℕ) → homes u ≡ Some k → with_homes c homes vs u ≡ Some k
with_homes_stays c homes [] u k e = e
with_homes_stays c homes (v ∷ vs) u k e = with_homes_stays c (with_home c homes v) vs u k (with_home_stays c homes v u k e)

pub record Has (homes : ℕ → Option ℕ) (v : ℕ) : Type 0 where
  pub home : ℕ
  pub is : homes v ≡ Some home

with_home_has : (c : ℕ) (homes : ℕ → Option ℕ) (v : ℕ) → Has (with_home c homes v) v
with_home_has c homes v = by (homes v) refl
  where
    by : (o : Option ℕ) → homes v ≡ o → Has (with_home c homes v) v
    by None e =
        let same : (v == v) ≡ true = eq-eqb v v refl in
        record { home = c; is = ap (λ x. if x && not (is_some (homes v)) then Some c else homes v) same ∙ ap (λ o. if not (is_some o) then Some c else homes v) e }
    by (Some k) e = record { home = k; is = with_home_stays c homes v v k e }

with_homes_has : (c : ℕ) (homes : ℕ → Option ℕ) (vs : List ℕ) (u : ℕ) → IsIn u vs → Has (with_homes c homes vs) u
with_homes_has c homes [] u h = absurd h
with_homes_has c homes (v ∷ vs) u h = ⊎_elim
    (λ e. let r = with_home_has c homes v in
    subst (λ x. Has (with_homes c (with_home c homes v) vs) x) (sym e) (record { home = r.home; is = with_homes_stays c (with_home c homes v) vs v r.home r.is }))
    (λ i. with_homes_has c (with_home c homes v) vs u i)
    h

-- a turn

turn_stays : (m : Numbers) (t : Trace) (b : Books) (i c : ℕ) (o : Option TraceOp) (u k : ℕ) → b.homes u ≡ Some k → (after_turn m t b i o c).homes u ≡ Some k
turn_stays m t b i c None u k e = e
turn_stays m t b i c (Some op) u k e = with_homes_stays c b.homes (general_reads op ++ general_writes op) u k e

pub books_stay : (m : Numbers) (t : Trace) (chosen : List ℕ) (b : Books) (is : List ℕ) (u k : ℕ) → b.homes u ≡ Some k → (books_after m t chosen b is).homes u ≡ Some k
books_stay m t chosen b [] u k e = e
books_stay m t chosen b (i ∷ is) u k e =
    books_stay m t chosen (after_turn m t b i (slice_get t.ops i) (slice_index_or chosen i 0)) is u k (turn_stays m t b i (slice_index_or chosen i 0) (slice_get t.ops i) u k e)

turn_has : (m : Numbers) (t : Trace) (b : Books) (i c : ℕ) (o : Option TraceOp) (op : TraceOp) (u : ℕ) → o ≡ Some op → IsIn u (general_reads op ++ general_writes op) → Has (after_turn m t b i o c).homes u
turn_has m t b i c o op u e h = subst (λ x. Has (after_turn m t b i x c).homes u) (sym e) (with_homes_has c b.homes (general_reads op ++ general_writes op) u h)

-- whoever had a turn has homes for what it names
pub books_have : (m : Numbers) (t : Trace) (chosen : List ℕ) (b : Books) (is : List ℕ) (i : ℕ) (op : TraceOp) (u : ℕ) → IsIn i is → Stands t i op → IsIn u (general_reads op ++ general_writes op) → Has (books_after m t chosen b is).homes u
books_have m t chosen b [] i op u h s g = absurd h
books_have m t chosen b (j ∷ is) i op u h s g = ⊎_elim
    (λ e.
    let there : slice_get t.ops j ≡ Some op = ap (slice_get t.ops) (sym e) ∙ s in
    let r = turn_has m t b j (slice_index_or chosen j 0) (slice_get t.ops j) op u there g in
    record { home = r.home; is = books_stay m t chosen (after_turn m t b j (slice_get t.ops j) (slice_index_or chosen j 0)) is u r.home r.is })
    (λ k. books_have m t chosen (after_turn m t b j (slice_get t.ops j) (slice_index_or chosen j 0)) is i op u k s g)
    h

-- what may be taken

home_in_list : (n : ℕ) (homes : ℕ → Option ℕ) (vs : List ℕ) (c : ℕ) → HomesBelow n homes → IsIn c (home_clusters homes vs) → c < n
home_in_list n homes [] c h i = absurd i
home_in_list n homes (v ∷ vs) c h i = ⊎_elim (λ a. h.below v c (some_is (homes v) a)) (λ b. home_in_list n homes vs c h b) (in_append c (some_of (homes v)) (home_clusters homes vs) i)
  where
    some_is : (o : Option ℕ) → IsIn c (some_of o) → o ≡ Some c
    some_is None a = absurd a
    some_is (Some k) a = ⊎_elim (λ e. ap Some (sym e)) (λ z. absurd z) a

any_below : (m : Numbers) (hs : List ℕ) (c : ℕ) → ((h : ℕ) → IsIn h hs → h < m.clusters) → IsIn c (home_or_any m hs) → c < m.clusters
any_below m [] c all i = let r = in_numbers 0 m.clusters c i in let b = r.1 in omega (arith, b)
any_below m (h ∷ more) c all i = ⊎_elim (λ e. subst (λ x. x < m.clusters) (sym e) (all h (inl refl))) (λ z. absurd z) i

free_below : (m : Numbers) (homes : ℕ → Option ℕ) (op : TraceOp) (c : ℕ) (b : Bool) → HomesBelow m.clusters homes → 1 ≤ m.clusters →
    IsIn c (if b then 0 ∷ [] else home_or_any m (home_clusters homes (general_writes op))) → c < m.clusters
free_below m homes op c true h l i = ⊎_elim (λ e. omega (arith, e, l)) (λ z. absurd z) i
free_below m homes op c false h l i = any_below m (home_clusters homes (general_writes op)) c (λ x k. home_in_list m.clusters homes (general_writes op) x h k) i

pub permitted_below : (m : Numbers) (homes : ℕ → Option ℕ) (fixed : Option ℕ) (op : TraceOp) (c : ℕ) → HomesBelow m.clusters homes → ((k : ℕ) → fixed ≡ Some k → k < m.clusters) → 1 ≤ m.clusters → IsIn c (permitted m homes fixed op) → c < m.clusters
permitted_below m homes (Some k) op c h f l i = ⊎_elim (λ e. subst (λ x. x < m.clusters) (sym e) (f k refl)) (λ z. absurd z) i
permitted_below m homes None op c h f l i = free_below m homes op c (is_bound op) h l i

bound_zero_by : (m : Numbers) (homes : ℕ → Option ℕ) (op : TraceOp) (c : ℕ) (b : Bool) → b ≡ true → IsIn c (if b then 0 ∷ [] else home_or_any m (home_clusters homes (general_writes op))) → c ≡ 0
bound_zero_by m homes op c true e i = ⊎_elim (λ q. q) (λ z. absurd z) i
bound_zero_by m homes op c false e i = absurd cc

pub bound_zero : (m : Numbers) (homes : ℕ → Option ℕ) (op : TraceOp) (c : ℕ) → is_bound op ≡ true → IsIn c (permitted m homes None op) → c ≡ 0
bound_zero m homes op c e i = bound_zero_by m homes op c (is_bound op) e i

-- the first turns

take_got : (xs : List ℕ) (k x : ℕ) → slice_get xs k ≡ Some x → take (suc k) xs ≡ take k xs ++ x ∷ []
take_got [] k x e = absurd cc
take_got (y ∷ ys) zero x e = let h : y ≡ x = cc in ap (λ z. z ∷ []) h
take_got (y ∷ ys) (suc k) x e = ap (λ z. y ∷ z) (take_got ys k x e)

take_past : (xs : List ℕ) (k : ℕ) → slice_get xs k ≡ None → take (suc k) xs ≡ take k xs
take_past [] zero e = refl
take_past [] (suc k) e = refl
take_past (y ∷ ys) zero e = absurd cc
take_past (y ∷ ys) (suc k) e = ap (λ z. y ∷ z) (take_past ys k e)

module _ (m : Numbers) (t : Trace) (homes : Homes) (r : Clusters) (some : 1 ≤ m.clusters) (there : ClustersAreThere m t homes) (a : Assigned m t homes r) where
  chosen_by : (k i : ℕ) (op : TraceOp) → HomesBelow m.clusters (books_at m t homes r k).homes → slice_get r.order k ≡ Some i → Stands t i op → slice_index_or r.chosen i 0 < m.clusters
  chosen_by k i op h e s =
      let best = a.best k i op e s in
      permitted_below m (books_at m t homes r k).homes (slice_index_or t.fixed i None) op (slice_index_or r.chosen i 0) h (λ c f. there.fixed i c f) some best.allowed

  after_below : (b : Books) (i c : ℕ) (o : Option TraceOp) → HomesBelow m.clusters b.homes → ((op : TraceOp) → o ≡ Some op → c < m.clusters) → HomesBelow m.clusters (after_turn m t b i o c).homes
  after_below b i c None h l = h
  after_below b i c (Some op) h l = with_homes_below m.clusters c b.homes (general_reads op ++ general_writes op) (l op refl) h

  step_below : (k : ℕ) (o : Option ℕ) → slice_get r.order k ≡ o → HomesBelow m.clusters (books_at m t homes r k).homes → HomesBelow m.clusters (books_at m t homes r (suc k)).homes
  step_below k None e h = subst (λ is. HomesBelow m.clusters (books_after m t r.chosen (at_first homes) is).homes) (sym (take_past r.order k e)) h
  step_below k (Some i) e h =
      subst (λ is. HomesBelow m.clusters (books_after m t r.chosen (at_first homes) is).homes) (sym (take_got r.order k i e))
      (subst (λ (b : Books). HomesBelow m.clusters b.homes) (sym (books_end m t r.chosen (at_first homes) (take k r.order) i))
      (after_below (books_at m t homes r k) i (slice_index_or r.chosen i 0) (slice_get t.ops i) h (λ op s. chosen_by k i op h e s)))

  pub at_below : (k : ℕ) → HomesBelow m.clusters (books_at m t homes r k).homes
  at_below zero = record { below = λ v c e. there.homes_there v c e }
  at_below (suc k) = step_below k (slice_get r.order k) refl (at_below k)

  pub last_below : HomesBelow m.clusters (last_books m t homes r).homes
  last_below = subst (λ is. HomesBelow m.clusters (books_after m t r.chosen (at_first homes) is).homes) (take_all (length r.order) r.order (omega arith)) (at_below (length r.order))

  pub in_order : (i : ℕ) → i < length t.ops → (k : ℕ) × (slice_get r.order k ≡ Some i)
  in_order i h = got_at r.order i (subst (λ (is : List ℕ). IsIn i is) (sym a.order) (listed_all t i h))

  chosen_there_by : (i : ℕ) (o : Option TraceOp) → slice_get t.ops i ≡ o → i < length t.ops → slice_index_or r.chosen i 0 < m.clusters
  chosen_there_by i None e h = absurd (none t.ops i h e)
    where
      none : {A : Type 0} (xs : List A) (k : ℕ) → k < length xs → slice_get xs k ≡ None → ⊥
      none [] k h f = omega (arith, h)
      none (x ∷ xs) zero h f = cc
      none (x ∷ xs) (suc k) h f = none xs k (omega (arith, h)) f
  chosen_there_by i (Some op) e h = let p = in_order i h in chosen_by p.0 i op (at_below p.0) p.1 e

  pub chosen_there : (i : ℕ) → slice_index_or r.chosen i 0 < m.clusters
  chosen_there i = ⊎_elim
      (λ h. chosen_there_by i (slice_get t.ops i) refl h)
      (λ h.
      let long = a.each_chosen in
      let past : length r.chosen ≤ i = omega (arith, h, long) in
      let zero_there : slice_index_or r.chosen i 0 ≡ 0 = get_or_past r.chosen i 0 past in
      omega (arith, zero_there, some))
      (cases_lt i (length t.ops))

  pub bound_at_zero : (i : ℕ) (op : TraceOp) → i < length t.ops → Stands t i op → slice_index_or t.fixed i None ≡ None → is_bound op ≡ true → slice_index_or r.chosen i 0 ≡ 0
  bound_at_zero i op h s f e =
      let p = in_order i h in
      let best = a.best p.0 i op p.1 s in
      bound_zero m (books_at m t homes r p.0).homes op (slice_index_or r.chosen i 0) e (subst (λ x. IsIn (slice_index_or r.chosen i 0) (permitted m (books_at m t homes r p.0).homes x op)) f best.allowed)

  pub fixed_is_chosen : (i c : ℕ) (op : TraceOp) → i < length t.ops → Stands t i op → IsFixed t i c → slice_index_or r.chosen i 0 ≡ c
  fixed_is_chosen i c op h s f =
      let p = in_order i h in
      let best = a.best p.0 i op p.1 s in
      let only : IsIn (slice_index_or r.chosen i 0) (permitted m (books_at m t homes r p.0).homes (Some c) op) = subst (λ x. IsIn (slice_index_or r.chosen i 0) (permitted m (books_at m t homes r p.0).homes x op)) f best.allowed in
      ⊎_elim (λ q. q) (λ z. absurd z) only
