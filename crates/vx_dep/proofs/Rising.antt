-- Heights from the last operation to the first: those that an operation has to stand behind are raised by its height.
use Rattle.std.proofs.Common.{◌≡◌, ◌<◌, ◌≤◌, ◌⊎◌, inl, inr, ◌+◌, ℕ, suc, refl, sym, ◌∙◌, ap, arith, subst, max, length, slice_index_or, List, [], ◌∷◌, ◌++◌}
use Rattle.std.proofs.lemmas.Bool.{cases_eq}
use Rattle.std.proofs.lemmas.List.{length-set, set_past, get_or-set_same, get_or-set_other, get_or_past, get_or_append_left, get_or_push, length-append}
use Rattle.std.proofs.lemmas.Option.{slice_get_within}
use Rattle.vx_flow.specs.declared.trace.Trace.{Trace}
use Rattle.vx_flow.specs.Effects.{IsIn}
use Rattle.vx_isa.specs.Numbers.{Numbers}
use Rattle.vx_dep.specs.declared.mode.Mode.{Mode}
use Rattle.vx_dep.specs.declared.earlier.Earlier.{Earlier}
use Rattle.vx_dep.specs.Delays.{Applies, AreHeights}
use Rattle.vx_dep.specs.Earlier.{AreEarlier, AreAllEarlier, list_at, raised_at, raised}
use Rattle.vx_dep.specs.Heights.{at, AreZero, IsHighest}
use Rattle.vx_dep.proofs.Telling.{less_or}

pub nothing_raised : (below : ℕ) (heights : List ℕ) (e : Earlier) → length heights ≤ e.place → heights ≡ raised_at below heights e
nothing_raised below heights e l = sym (set_past heights e.place (max (slice_index_or heights e.place 0) (e.delay + below)) l)

-- zeros

pub no_zeros : (zeros : List ℕ) → zeros ≡ [] → AreZero 0 zeros
no_zeros zeros e = subst (AreZero 0) (sym e) (record { each = refl; zero = λ i. refl })

pub one_more_zero : (count : ℕ) (zeros others : List ℕ) → AreZero count zeros → others ≡ zeros ++ 0 ∷ [] → AreZero (count + 1) others
one_more_zero count zeros others so e = record { each = let n = so.each in omega (arith, long, n); zero = λ i. ap (λ xs. at xs i) e ∙ by i (less_or i (length zeros)) }
  where
    long : length others ≡ length zeros + 1
    long = ap length e ∙ length-append zeros (0 ∷ [])

    by : (i : ℕ) → (i < length zeros) ⊎ (length zeros ≤ i) → at (zeros ++ 0 ∷ []) i ≡ 0
    by i (inl l) = get_or_append_left zeros (0 ∷ []) 0 i l ∙ so.zero i
    by i (inr l) = last i (cases_eq i (length zeros)) l
      where
        last : (i : ℕ) → (i ≡ length zeros) ⊎ (i ≡ length zeros → ⊥) → length zeros ≤ i → at (zeros ++ 0 ∷ []) i ≡ 0
        last i (inl same) l = get_or_push zeros 0 0 i (sym same)
        last i (inr other) l = let n = length-append zeros (0 ∷ []) in get_or_past (zeros ++ 0 ∷ []) i 0 (omega (arith, n, l, other))

-- one list

-- what is raised by a list of those that an operation of a height has to stand behind
record AreRaised (below : ℕ) (before after : List ℕ) (list : List Earlier) : Type 0 where
  each : length after ≡ length before
  stays : (i : ℕ) → at before i ≤ at after i
  met : (e : Earlier) → IsIn e list → e.place < length before → e.delay + below ≤ at after e.place
  reached : (i : ℕ) → (at after i ≡ at before i) ⊎ ((e : Earlier) × IsIn e list × (e.place ≡ i) × (at after i ≡ e.delay + below))

module _ (below : ℕ) where
  here : (heights : List ℕ) (e : Earlier) → e.place < length heights → at (raised_at below heights e) e.place ≡ max (at heights e.place) (e.delay + below)
  here heights e l = get_or-set_same heights e.place (max (at heights e.place) (e.delay + below)) 0 l

  other : (heights : List ℕ) (e : Earlier) (i : ℕ) → (i ≡ e.place → ⊥) → at (raised_at below heights e) i ≡ at heights i
  other heights e i differs = get_or-set_other heights e.place i (max (at heights e.place) (e.delay + below)) 0 differs

  one_long : (heights : List ℕ) (e : Earlier) → length (raised_at below heights e) ≡ length heights
  one_long heights e = length-set heights e.place (max (at heights e.place) (e.delay + below))

  past : (heights : List ℕ) (e : Earlier) (i : ℕ) → length heights ≤ e.place → at (raised_at below heights e) i ≡ at heights i
  past heights e i l = ap (λ xs. at xs i) (sym (nothing_raised below heights e l))

  one_stays : (heights : List ℕ) (e : Earlier) (i : ℕ) → at heights i ≤ at (raised_at below heights e) i
  one_stays heights e i = by (cases_eq i e.place) (less_or e.place (length heights))
    where
      by : (i ≡ e.place) ⊎ (i ≡ e.place → ⊥) → (e.place < length heights) ⊎ (length heights ≤ e.place) → at heights i ≤ at (raised_at below heights e) i
      by (inr differs) any = let h = other heights e i differs in omega (arith, h)
      by (inl same) (inr l) = let h = past heights e i l in omega (arith, h)
      by (inl same) (inl l) = subst (λ x. at heights x ≤ at (raised_at below heights e) x) (sym same) (let h = here heights e l in omega (arith, h))

  one_reached : (heights : List ℕ) (e : Earlier) (i : ℕ) → (at (raised_at below heights e) i ≡ at heights i) ⊎ ((e.place ≡ i) × (at (raised_at below heights e) i ≡ e.delay + below))
  one_reached heights e i = by (cases_eq i e.place) (less_or e.place (length heights))
    where
      at_place : e.place < length heights → (at heights e.place < e.delay + below) ⊎ (e.delay + below ≤ at heights e.place) → (at (raised_at below heights e) e.place ≡ at heights e.place) ⊎ ((e.place ≡ e.place) × (at (raised_at below heights e) e.place ≡ e.delay + below))
      at_place l (inl less) = let h = here heights e l in inr (refl, omega (arith, h, less))
      at_place l (inr more) = let h = here heights e l in inl (omega (arith, h, more))

      by : (i ≡ e.place) ⊎ (i ≡ e.place → ⊥) → (e.place < length heights) ⊎ (length heights ≤ e.place) → (at (raised_at below heights e) i ≡ at heights i) ⊎ ((e.place ≡ i) × (at (raised_at below heights e) i ≡ e.delay + below))
      by (inr differs) any = inl (other heights e i differs)
      by (inl same) (inr l) = inl (past heights e i l)
      by (inl same) (inl l) = subst (λ x. (at (raised_at below heights e) x ≡ at heights x) ⊎ ((e.place ≡ x) × (at (raised_at below heights e) x ≡ e.delay + below))) (sym same) (at_place l (less_or (at heights e.place) (e.delay + below)))

  all_raised : (heights : List ℕ) (list : List Earlier) → AreRaised below heights (raised below heights list) list
  all_raised heights [] = record { each = refl; stays = λ i. omega arith; met = λ e i l. absurd i; reached = λ i. inl refl }
  all_raised heights (e ∷ es) = by (all_raised (raised_at below heights e) es)
    where
      by : AreRaised below (raised_at below heights e) (raised below (raised_at below heights e) es) es → AreRaised below heights (raised below (raised_at below heights e) es) (e ∷ es)
      by more = record {
        each = more.each ∙ one_long heights e;
        stays = λ i. let u = one_stays heights e i in let v = more.stays i in omega (arith, u, v);
        met = met;
        reached = λ i. reached i (more.reached i) (one_reached heights e i);
      }
        where
          met : (x : Earlier) → IsIn x (e ∷ es) → x.place < length heights → x.delay + below ≤ at (raised below (raised_at below heights e) es) x.place
          met x (inl same) l = subst (λ (y : Earlier). y.delay + below ≤ at (raised below (raised_at below heights e) es) y.place) (sym same) (let u : e.place < length heights = subst (λ (y : Earlier). y.place < length heights) same l in let h = here heights e u in let v = more.stays e.place in omega (arith, h, v))
          met x (inr i) l = more.met x i (let n = one_long heights e in omega (arith, l, n))

          reached : (i : ℕ) → (at (raised below (raised_at below heights e) es) i ≡ at (raised_at below heights e) i) ⊎ ((x : Earlier) × IsIn x es × (x.place ≡ i) × (at (raised below (raised_at below heights e) es) i ≡ x.delay + below))
              → (at (raised_at below heights e) i ≡ at heights i) ⊎ ((e.place ≡ i) × (at (raised_at below heights e) i ≡ e.delay + below))
              → (at (raised below (raised_at below heights e) es) i ≡ at heights i) ⊎ ((x : Earlier) × IsIn x (e ∷ es) × (x.place ≡ i) × (at (raised below (raised_at below heights e) es) i ≡ x.delay + below))
          reached i (inr (x, there, p, h)) any = inr (x, inr there, p, h)
          reached i (inl same) (inl old) = inl (same ∙ old)
          reached i (inl same) (inr (p, h)) = inr (e, inl refl, p, same ∙ h)

-- whether an operation is listed
find : (i : ℕ) (list : List Earlier) → ((e : Earlier) × IsIn e list × (e.place ≡ i)) ⊎ ((e : Earlier) → IsIn e list → e.place ≡ i → ⊥)
find i [] = inr (λ e there p. there)
find i (e ∷ es) = by (cases_eq e.place i) (find i es)
  where
    by : (e.place ≡ i) ⊎ (e.place ≡ i → ⊥) → ((x : Earlier) × IsIn x es × (x.place ≡ i)) ⊎ ((x : Earlier) → IsIn x es → x.place ≡ i → ⊥) → ((x : Earlier) × IsIn x (e ∷ es) × (x.place ≡ i)) ⊎ ((x : Earlier) → IsIn x (e ∷ es) → x.place ≡ i → ⊥)
    by (inl p) any = inl (e, inl refl, p)
    by (inr differs) (inl (x, there, p)) = inl (x, inr there, p)
    by (inr differs) (inr none) = inr neither
      where
        neither : (x : Earlier) → IsIn x (e ∷ es) → x.place ≡ i → ⊥
        neither x (inl same) p = differs (subst (λ (y : Earlier). y.place ≡ i) same p)
        neither x (inr there) p = none x there p

-- one operation after the other

module _ (m : Numbers) (mode : Mode) (t : Trace) where
  -- the lists of those from place k on are walked
  pub record AreFrom (heights : List ℕ) (k : ℕ) : Type 0 where
    pub each : length heights ≡ length t.ops
    pub right : (i : ℕ) → IsHighest m mode t (at heights) i k (at heights i)

  inside : (i j d : ℕ) → Applies m mode t i j d → (i < length t.ops) × (j < length t.ops)
  inside i j d a = (slice_get_within t.ops i a.one a.stands_one, slice_get_within t.ops j a.two a.stands_two)

  pub none_from : (heights : List ℕ) (count k : ℕ) → AreZero count heights → count ≡ length t.ops → k ≡ count → AreFrom heights k
  none_from heights count k zeros e f = record {
    each = zeros.each ∙ e;
    right = λ i. record {
      met = λ j d l a. let n = (inside i j d a).1 in absurd (omega (arith, n, l, e, f));
      reached = inl (zeros.zero i, λ j d l a. let n = (inside i j d a).1 in absurd (omega (arith, n, l, e, f)));
    };
  }

  pub all_from : (heights : List ℕ) (k : ℕ) → k ≤ 0 → AreFrom heights k → AreHeights m mode t (at heights)
  all_from heights k l so i u = ((λ j d a. (so.right i).met j d (omega (arith, l)) a), by (so.right i).reached)
    where
      by : ((at heights i ≡ 0) × ((j delay : ℕ) → k ≤ j → Applies m mode t i j delay → ⊥)) ⊎ ((j : ℕ) × (delay : ℕ) × (k ≤ j) × Applies m mode t i j delay × (at heights i ≡ delay + at heights j)) → ((at heights i ≡ 0) × ((j delay : ℕ) → Applies m mode t i j delay → ⊥)) ⊎ ((j : ℕ) × (delay : ℕ) × Applies m mode t i j delay × (at heights i ≡ delay + at heights j))
      by (inl (z, none)) = inl (z, λ j d a. none j d (omega (arith, l)) a)
      by (inr (j, d, v, a, e)) = inr (j, d, a, e)

  -- the list of the operation at place k is walked too
  module _ (heights : List ℕ) (k : ℕ) (list : List Earlier) (so : AreFrom heights (suc k)) (earlier : AreEarlier m mode t k k list) where
    abbrev After : List ℕ
    After = raised (at heights k) heights list

    walked : AreRaised (at heights k) heights After list
    walked = all_raised (at heights k) heights list

    -- only those above the place are raised
    above : (e : Earlier) → IsIn e list → e.place < k
    above e i = (earlier.sound e i).applies.in_order

    same : (j : ℕ) → k ≤ j → at After j ≡ at heights j
    same j l = by (walked.reached j)
      where
        by : (at After j ≡ at heights j) ⊎ ((e : Earlier) × IsIn e list × (e.place ≡ j) × (at After j ≡ e.delay + at heights k)) → at After j ≡ at heights j
        by (inl h) = h
        by (inr (e, i, p, h)) = let u = above e i in absurd (omega (arith, u, p, l))

    here_or : (j : ℕ) → k ≤ j → (j ≡ k) ⊎ (suc k ≤ j)
    here_or j l = by (less_or k j)
      where
        by : (k < j) ⊎ (j ≤ k) → (j ≡ k) ⊎ (suc k ≤ j)
        by (inl u) = inr (omega (arith, u))
        by (inr u) = inl (omega (arith, u, l))

    still_met : (i j d : ℕ) → k ≤ j → Applies m mode t i j d → (j ≡ k) ⊎ (suc k ≤ j) → d + at After j ≤ at After i
    still_met i j d l a (inr u) =
        let v = (so.right i).met j d u a in
        let w = walked.stays i in
        let x = same j l in
        omega (arith, v, w, x)
    still_met i j d l a (inl e) =
        let is = earlier.whole i d (let o = a.in_order in omega (arith, o, e)) (subst (λ x. Applies m mode t i x d) e a) in
        let there = above is.entry is.is in
        let n = so.each in
        let o = (inside i j d a).1 in
        let v = walked.met is.entry is.is (omega (arith, there, n, o, e)) in
        let w : at After is.entry.place ≡ at After i = ap (at After) is.place in
        let x = same j l in
        let y : at heights j ≡ at heights k = ap (at heights) e in
        let z = is.delay in
        omega (arith, v, w, x, y, z)

    abbrev Reached : (h : ℕ → ℕ) (i k found : ℕ) → Type 0
    Reached h i k found = ((found ≡ 0) × ((j delay : ℕ) → k ≤ j → Applies m mode t i j delay → ⊥)) ⊎ ((j : ℕ) × (delay : ℕ) × (k ≤ j) × Applies m mode t i j delay × (found ≡ delay + h j))

    still_reached : (i : ℕ) → (at After i ≡ at heights i) ⊎ ((e : Earlier) × IsIn e list × (e.place ≡ i) × (at After i ≡ e.delay + at heights k)) → Reached (at heights) i (suc k) (at heights i) → Reached (at After) i k (at After i)
    still_reached i (inr (e, there, p, h)) any =
        let a : Applies m mode t i k e.delay = subst (λ x. Applies m mode t x k e.delay) p (earlier.sound e there).applies in
        let x = same k (omega arith) in
        inr (k, e.delay, omega arith, a, omega (arith, h, x))
    still_reached i (inl h) (inr (j, d, l, a, e)) =
        let x = same j (omega (arith, l)) in
        inr (j, d, omega (arith, l), a, omega (arith, h, e, x))
    still_reached i (inl h) (inl (z, none)) = by (find i list)
      where
        by : ((e : Earlier) × IsIn e list × (e.place ≡ i)) ⊎ ((e : Earlier) → IsIn e list → e.place ≡ i → ⊥) → Reached (at After) i k (at After i)
        by (inl (e, there, p)) =
            let a : Applies m mode t i k e.delay = subst (λ x. Applies m mode t x k e.delay) p (earlier.sound e there).applies in
            let u = above e there in
            let n = so.each in
            let o = (inside i k e.delay a).1 in
            let v = walked.met e there (omega (arith, u, n, o)) in
            let w : at After e.place ≡ at After i = ap (at After) p in
            let x = same k (omega arith) in
            inr (k, e.delay, omega arith, a, omega (arith, h, z, v, w, x))
        by (inr without) = inl (h ∙ z, λ j d l a. nothing j d a (here_or j l))
          where
            nothing : (j d : ℕ) → Applies m mode t i j d → (j ≡ k) ⊎ (suc k ≤ j) → ⊥
            nothing j d a (inr u) = none j d u a
            nothing j d a (inl e) = let is = earlier.whole i d (let o = a.in_order in omega (arith, o, e)) (subst (λ x. Applies m mode t i x d) e a) in without is.entry is.is is.place

    walked_from : AreFrom After k
    walked_from = record {
      each = walked.each ∙ so.each;
      right = λ i. record { met = λ j d l a. still_met i j d l a (here_or j l); reached = still_reached i (walked.reached i) (so.right i).reached };
    }

  pub one_from : (heights others : List ℕ) (p k below : ℕ) (lists : List (List Earlier)) → AreAllEarlier m mode t lists → AreFrom heights p → p ≡ k + 1 → below ≡ at heights k → others ≡ raised below heights (list_at lists k) → AreFrom others k
  one_from heights others p k below lists all so e f g =
      let l : p ≡ suc k = omega (arith, e) in
      subst (λ xs. AreFrom xs k) (sym (g ∙ ap (λ x. raised x heights (list_at lists k)) f)) (walked_from heights k (list_at lists k) (subst (AreFrom heights) l so) (all.right k))
