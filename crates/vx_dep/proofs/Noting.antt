-- The operations that another one has to stand behind are listed one after the other.
use Rattle.std.proofs.Common.{◌≡◌, ◌<◌, ◌≤◌, ◌⊎◌, inl, inr, ◌+◌, ℕ, refl, sym, ◌∙◌, ap, arith, subst, Option, Some, None, length, List, [], ◌∷◌, ◌++◌}
use Rattle.std.proofs.lemmas.List.{length-append, get_or_append_left, get_or_push, get_or_past}
use Rattle.std.proofs.lemmas.Option.{slice_get_within}
use Rattle.vx_flow.specs.declared.trace.Trace.{Trace}
use Rattle.vx_flow.specs.Effects.{IsIn}
use Rattle.vx_flow.proofs.Members.{in_left, in_right, in_either}
use Rattle.vx_isa.specs.Numbers.{Numbers}
use Rattle.vx_dep.specs.declared.mode.Mode.{Mode}
use Rattle.vx_dep.specs.declared.earlier.Earlier.{Earlier}
use Rattle.vx_dep.specs.Delays.{Applies, IsDelay}
use Rattle.vx_dep.specs.Earlier.{IsListed, AreEarlier, AreAllEarlier, NoneBetween, list_at, noted}
use Rattle.vx_dep.proofs.Telling.{less_or}

pub still_listed : (list more : List Earlier) (i words : ℕ) → IsListed list i words → IsListed (list ++ more) i words
still_listed list more i words is = record { entry = is.entry; is = in_left is.entry list more is.is; place = is.place; delay = is.delay }

module _ (m : Numbers) (mode : Mode) (t : Trace) where
  pub none_noted : (j k : ℕ) (list : List Earlier) → list ≡ [] → k ≡ 0 → AreEarlier m mode t j k list
  none_noted j k list e f = subst (AreEarlier m mode t j k) (sym e) (record { sound = λ x i. absurd i; whole = λ i d l a. absurd (omega (arith, l, f)) })

  step : (j k : ℕ) (list : List Earlier) (d : Option ℕ) → AreEarlier m mode t j k list → IsDelay m mode t k j d → AreEarlier m mode t j (k + 1) (list ++ noted k d)
  step j k list None so is = record {
    sound = λ x i. sound x (in_either x list [] i);
    whole = λ i d l a. whole i d a (less_or i k) l;
  }
    where
      sound : (x : Earlier) → IsIn x list ⊎ IsIn x [] → IsDelay m mode t x.place j (Some x.delay)
      sound x (inl i) = so.sound x i
      sound x (inr i) = absurd i

      whole : (i d : ℕ) → Applies m mode t i j d → (i < k) ⊎ (k ≤ i) → i < k + 1 → IsListed (list ++ []) i d
      whole i d a (inl l) u = still_listed list [] i d (so.whole i d l a)
      whole i d a (inr l) u = let e : i ≡ k = omega (arith, l, u) in absurd (is d (subst (λ x. Applies m mode t x j d) e a))
  step j k list (Some delay) so is = record {
    sound = λ x i. sound x (in_either x list (new ∷ []) i);
    whole = λ i d l a. whole i d a (less_or i k) l;
  }
    where
      new : Earlier
      new = record { place = k; delay = delay }

      sound : (x : Earlier) → IsIn x list ⊎ IsIn x (new ∷ []) → IsDelay m mode t x.place j (Some x.delay)
      sound x (inl i) = so.sound x i
      sound x (inr (inl e)) = subst (λ (y : Earlier). IsDelay m mode t y.place j (Some y.delay)) (sym e) is
      sound x (inr (inr i)) = absurd i

      whole : (i d : ℕ) → Applies m mode t i j d → (i < k) ⊎ (k ≤ i) → i < k + 1 → IsListed (list ++ new ∷ []) i d
      whole i d a (inl l) u = still_listed list (new ∷ []) i d (so.whole i d l a)
      whole i d a (inr l) u =
          let e : i ≡ k = omega (arith, l, u) in
          record { entry = new; is = in_right new list (new ∷ []) (inl refl); place = sym e; delay = is.greatest d (subst (λ x. Applies m mode t x j d) e a) }

  pub one_noted : (j k : ℕ) (list others : List Earlier) (d : Option ℕ) → AreEarlier m mode t j k list → IsDelay m mode t k j d → others ≡ list ++ noted k d → AreEarlier m mode t j (k + 1) others
  one_noted j k list others d so is e = subst (AreEarlier m mode t j (k + 1)) (sym e) (step j k list d so is)

  pub passed : (j k n : ℕ) (list : List Earlier) → AreEarlier m mode t j k list → NoneBetween m mode t j k n → AreEarlier m mode t j n list
  passed j k n list so none = record { sound = so.sound; whole = λ i d l a. by i d a (less_or i k) l }
    where
      by : (i d : ℕ) → Applies m mode t i j d → (i < k) ⊎ (k ≤ i) → i < n → IsListed list i d
      by i d a (inl u) l = so.whole i d u a
      by i d a (inr u) l = absurd (none i d u l a)

  -- the lists so far are right
  abbrev pub AreSoFar : List (List Earlier) → Type 0
  AreSoFar lists = (j : ℕ) → j < length lists → AreEarlier m mode t j j (list_at lists j)

  pub no_lists : (lists : List (List Earlier)) → lists ≡ [] → AreSoFar lists
  no_lists lists e j l = let n : length lists ≡ 0 = ap length e in absurd (omega (arith, l, n))

  pub one_more_list : (lists others : List (List Earlier)) (list : List Earlier) (place : ℕ) → AreSoFar lists → place ≡ length lists → AreEarlier m mode t place place list → others ≡ lists ++ list ∷ [] → AreSoFar others
  one_more_list lists others list place so e is f j l = subst (λ xs. AreEarlier m mode t j j (list_at xs j)) (sym f) (by (less_or j (length lists)))
    where
      long : length others ≡ length lists + 1
      long = ap length f ∙ length-append lists (list ∷ [])

      by : (j < length lists) ⊎ (length lists ≤ j) → AreEarlier m mode t j j (list_at (lists ++ list ∷ []) j)
      by (inl u) = subst (AreEarlier m mode t j j) (sym (get_or_append_left lists (list ∷ []) [] j u)) (so j u)
      by (inr u) =
          let n : j ≡ place = omega (arith, l, long, u, e) in
          let at : length lists ≡ j = omega (arith, l, long, u) in
          subst (AreEarlier m mode t j j) (sym (get_or_push lists list [] j at)) (subst (λ x. AreEarlier m mode t x x list) (sym n) is)

  pub all_lists : (lists : List (List Earlier)) → AreSoFar lists → length lists ≤ length t.ops → length t.ops ≤ length lists → AreAllEarlier m mode t lists
  all_lists lists so most least = record { each = omega (arith, most, least); right = λ j. by j (less_or j (length lists)) }
    where
      by : (j : ℕ) → (j < length lists) ⊎ (length lists ≤ j) → AreEarlier m mode t j j (list_at lists j)
      by j (inl l) = so j l
      by j (inr l) = subst (AreEarlier m mode t j j) (sym (get_or_past lists j [] l)) (record {
        sound = λ x i. absurd i;
        whole = λ i d u a. let n = slice_get_within t.ops j a.two a.stands_two in absurd (omega (arith, n, l, most, least));
      })
