-- The homes after all turns: what a free operation writes has its home where it stands, and each home was there at the start
-- or is that of a value that an operation names.
use Rattle.std.proofs.Common.{◌≡◌, ◌≤◌, ◌⊎◌, inl, inr, ⊎_elim, ◌==◌, ◌&&◌, not, refl, sym, ◌∙◌, ap, subst, Bool, true, false, if◌then◌else◌, ℕ, zero, suc, Option, Some, None, is_some, List, [], ◌∷◌, ◌++◌, take, drop, slice_get, slice_index_or}
use Rattle.std.proofs.lemmas.Bool.{eqb-true, eq-eqb, and_parts}
use Rattle.std.proofs.lemmas.Option.{slice_get_within}
use Rattle.vx_flow.specs.declared.trace.TraceOp.{TraceOp}
use Rattle.vx_flow.specs.declared.trace.Trace.{Trace}
use Rattle.vx_flow.specs.declared.trace.Homes.{Homes}
use Rattle.vx_flow.specs.Effects.{IsIn}
use Rattle.vx_isa.specs.Numbers.{Numbers}
use Rattle.vx_room.specs.Room.{home_of}
use Rattle.vx_dep.specs.Delays.{Stands}
use Rattle.vx_bug.specs.declared.clusters.Clusters.{Clusters}
use Rattle.vx_bug.specs.Clusters.{Books, some_of, general_reads, general_writes, is_bound, home_clusters, home_or_any, permitted, with_home, with_homes, after_turn, books_after, at_first}
use Rattle.vx_bug.specs.CanAssign.{IsFree, ClustersAreThere, BoundAtHome}
use Rattle.vx_bug.specs.Assigned.{books_at, last_books, Assigned}
use Rattle.vx_bug.proofs.Listing.{append_in_right}
use Rattle.vx_bug.proofs.Belows.{books_stay, with_homes_stays, in_order, bound_zero}
use Rattle.vx_region.proofs.Renamed.{one_written, bound_written}

-- giving homes

with_home_new : (c : ℕ) (homes : ℕ → Option ℕ) (v : ℕ) → homes v ≡ None → with_home c homes v v ≡ Some c
with_home_new c homes v e =
    let same : (v == v) ≡ true = eq-eqb v v refl in
    ap (λ x. if x && not (is_some (homes v)) then Some c else homes v) same ∙ ap (λ o. if not (is_some o) then Some c else homes v) e

-- a home that is new is given, one that was there stays
with_home_from : (c : ℕ) (homes : ℕ → Option ℕ) (v u k : ℕ) → with_home c homes v u ≡ Some k → (homes u ≡ Some k) ⊎ ((u ≡ v) × (c ≡ k))
with_home_from c homes v u k e = by ((u == v) && not (is_some (homes v))) refl
  where
    by : (b : Bool) → ((u == v) && not (is_some (homes v))) ≡ b → (homes u ≡ Some k) ⊎ ((u ≡ v) × (c ≡ k))
    by true q =
        let p = and_parts (u == v) (not (is_some (homes v))) q in
        let f : Some c ≡ Some k = sym (ap (λ x. if x then Some c else homes u) q) ∙ e in
        let g : c ≡ k = cc in
        inr (eqb-true u v p.0, g)
    by false q = inl (sym (ap (λ x. if x then Some c else homes u) q) ∙ e)

with_homes_from : (c : ℕ) (homes : ℕ → Option ℕ) (vs : List ℕ) (u k : ℕ) → with_homes c homes vs u ≡ Some k → (homes u ≡ Some k) ⊎ IsIn u vs
with_homes_from c homes [] u k e = inl e
with_homes_from c homes (v ∷ vs) u k e = ⊎_elim
    (λ a. ⊎_elim (λ b. inl b) (λ (b : (u ≡ v) × (c ≡ k)). inr (inl b.0)) (with_home_from c homes v u k a))
    (λ a. inr (inr a))
    (with_homes_from c (with_home c homes v) vs u k e)

with_homes_new : (c : ℕ) (homes : ℕ → Option ℕ) (vs : List ℕ) (u : ℕ) → homes u ≡ None → IsIn u vs → with_homes c homes vs u ≡ Some c
with_homes_new c homes [] u e h = absurd h
with_homes_new c homes (v ∷ vs) u e h = ⊎_elim
    (λ q. with_homes_stays c (with_home c homes v) vs u c (subst (λ x. with_home c homes x u ≡ Some c) q (with_home_new c homes u e)))
    (λ i. by (with_home c homes v u) refl (λ n. with_homes_new c (with_home c homes v) vs u n i))
    h
  where
    by : (o : Option ℕ) → with_home c homes v u ≡ o → (with_home c homes v u ≡ None → with_homes c (with_home c homes v) vs u ≡ Some c) → with_homes c (with_home c homes v) vs u ≡ Some c
    by None q again = again q
    by (Some k) q again = ⊎_elim
        (λ a. let f : None ≡ Some k = sym e ∙ a in absurd cc)
        (λ (a : (u ≡ v) × (c ≡ k)). with_homes_stays c (with_home c homes v) vs u c (q ∙ ap Some (sym a.1)))
        (with_home_from c homes v u k q)

-- turns

pub record IsNamedAt (t : Trace) (u : ℕ) : Type 0 where
  pub place : ℕ
  pub op : TraceOp
  pub stands : Stands t place op
  pub member : IsIn u (general_reads op ++ general_writes op)

turn_from : (m : Numbers) (t : Trace) (b : Books) (i c : ℕ) (o : Option TraceOp) (u k : ℕ) → slice_get t.ops i ≡ o → (after_turn m t b i o c).homes u ≡ Some k → (b.homes u ≡ Some k) ⊎ IsNamedAt t u
turn_from m t b i c None u k s e = inl e
turn_from m t b i c (Some op) u k s e = ⊎_elim
    (λ a. inl a)
    (λ a. inr (record { place = i; op = op; stands = s; member = a }))
    (with_homes_from c b.homes (general_reads op ++ general_writes op) u k e)

books_from : (m : Numbers) (t : Trace) (chosen : List ℕ) (b : Books) (is : List ℕ) (u k : ℕ) → (books_after m t chosen b is).homes u ≡ Some k → (b.homes u ≡ Some k) ⊎ IsNamedAt t u
books_from m t chosen b [] u k e = inl e
books_from m t chosen b (i ∷ is) u k e = ⊎_elim
    (λ a. turn_from m t b i (slice_index_or chosen i 0) (slice_get t.ops i) u k refl a)
    (λ a. inr a)
    (books_from m t chosen (after_turn m t b i (slice_get t.ops i) (slice_index_or chosen i 0)) is u k e)

books_append : (m : Numbers) (t : Trace) (chosen : List ℕ) (b : Books) (xs ys : List ℕ) → books_after m t chosen b (xs ++ ys) ≡ books_after m t chosen (books_after m t chosen b xs) ys
books_append m t chosen b [] ys = refl
books_append m t chosen b (i ∷ xs) ys = books_append m t chosen (after_turn m t b i (slice_get t.ops i) (slice_index_or chosen i 0)) xs ys

cut_at : (xs : List ℕ) (k x : ℕ) → slice_get xs k ≡ Some x → xs ≡ take k xs ++ x ∷ drop (suc k) xs
cut_at [] k x e = absurd cc
cut_at (y ∷ ys) zero x e = let h : y ≡ x = cc in ap (λ z. z ∷ ys) h
cut_at (y ∷ ys) (suc k) x e = ap (λ z. y ∷ z) (cut_at ys k x e)

-- what is written gets its home, or had it

allowed_home : (m : Numbers) (homes : ℕ → Option ℕ) (op : TraceOp) (w c : ℕ) → is_bound op ≡ false → IsIn w (general_writes op) → IsIn c (permitted m homes None op) → (homes w ≡ None) ⊎ (homes w ≡ Some c)
allowed_home m homes op w c n h i = by (homes w) refl
    (subst (λ vs. IsIn c (home_or_any m (home_clusters homes vs))) (one_written op w h) (subst (λ b. IsIn c (if b then 0 ∷ [] else home_or_any m (home_clusters homes (general_writes op)))) n i))
  where
    by : (o : Option ℕ) → homes w ≡ o → IsIn c (home_or_any m (some_of (homes w) ++ [])) → (homes w ≡ None) ⊎ (homes w ≡ Some c)
    by None e j = inl e
    by (Some k) e j = inr (e ∙ ⊎_elim (λ q. ap Some (sym q)) (λ z. absurd z) (subst (λ o. IsIn c (home_or_any m (some_of o ++ []))) e j))

module _ (m : Numbers) (t : Trace) (homes : Homes) (r : Clusters) (some : 1 ≤ m.clusters) (there : ClustersAreThere m t homes) (a : Assigned m t homes r) where
  -- a home that was there before or after the turn at a place of the order is there at the end
  behind : (k i : ℕ) → slice_get r.order k ≡ Some i → (u c : ℕ) → (after_turn m t (books_at m t homes r k) i (slice_get t.ops i) (slice_index_or r.chosen i 0)).homes u ≡ Some c → (last_books m t homes r).homes u ≡ Some c
  behind k i e u c h =
      let cut : books_after m t r.chosen (at_first homes) r.order ≡ books_after m t r.chosen (after_turn m t (books_at m t homes r k) i (slice_get t.ops i) (slice_index_or r.chosen i 0)) (drop (suc k) r.order) =
      ap (books_after m t r.chosen (at_first homes)) (cut_at r.order k i e) ∙ books_append m t r.chosen (at_first homes) (take k r.order) (i ∷ drop (suc k) r.order) in
      ap (λ (b : Books). b.homes u) cut
      ∙ books_stay m t r.chosen (after_turn m t (books_at m t homes r k) i (slice_get t.ops i) (slice_index_or r.chosen i 0)) (drop (suc k) r.order) u c h

  unbound_home : (k i : ℕ) (op : TraceOp) (w : ℕ) → slice_get r.order k ≡ Some i → Stands t i op → IsFree t i → is_bound op ≡ false → IsIn w (general_writes op) → (last_books m t homes r).homes w ≡ Some (slice_index_or r.chosen i 0)
  unbound_home k i op w e s f n h =
      let c : ℕ = slice_index_or r.chosen i 0 in
      let b : Books = books_at m t homes r k in
      let best = a.best k i op e s in
      let allowed : IsIn c (permitted m b.homes None op) = subst (λ x. IsIn c (permitted m b.homes x op)) f best.allowed in
      let turned : with_homes c b.homes (general_reads op ++ general_writes op) w ≡ Some c → (after_turn m t b i (slice_get t.ops i) c).homes w ≡ Some c = λ q. ap (λ o. (after_turn m t b i o c).homes w) s ∙ q in
      behind k i e w c (turned (⊎_elim
      (λ q. with_homes_new c b.homes (general_reads op ++ general_writes op) w q (append_in_right w (general_reads op) (general_writes op) h))
      (λ q. with_homes_stays c b.homes (general_reads op ++ general_writes op) w c q)
      (allowed_home m b.homes op w c n h allowed)))

  -- what a free operation writes has its home on the operation's cluster
  pub written_home : BoundAtHome t homes → (i : ℕ) (op : TraceOp) (w : ℕ) → Stands t i op → IsFree t i → IsIn w (general_writes op) → (last_books m t homes r).homes w ≡ Some (slice_index_or r.chosen i 0)
  written_home at_home i op w s f h = by (in_order m t homes r some there a i (slice_get_within t.ops i op s)) (is_bound op) refl
    where
      by : ((k : ℕ) × (slice_get r.order k ≡ Some i)) → (b : Bool) → is_bound op ≡ b → (last_books m t homes r).homes w ≡ Some (slice_index_or r.chosen i 0)
      by p true n =
          let best = a.best p.0 i op p.1 s in
          let zero_there : slice_index_or r.chosen i 0 ≡ 0 = bound_zero m (books_at m t homes r p.0).homes op (slice_index_or r.chosen i 0) n (subst (λ x. IsIn (slice_index_or r.chosen i 0) (permitted m (books_at m t homes r p.0).homes x op)) f best.allowed) in
          books_stay m t r.chosen (at_first homes) r.order w 0 (at_home i op w s (bound_written op w n h)) ∙ ap Some (sym zero_there)
      by p false n = unbound_home p.0 i op w p.1 s f n h

  pub home_from : (u k : ℕ) → (last_books m t homes r).homes u ≡ Some k → (home_of homes u ≡ Some k) ⊎ IsNamedAt t u
  home_from u k e = books_from m t r.chosen (at_first homes) r.order u k e
