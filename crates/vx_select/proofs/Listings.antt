-- Values that are found one after the other are those that pass, in ascending order.
use Rattle.std.proofs.Common.{◌≡◌, ℕ, zero, suc, ◌+◌, ◌<◌, ◌≤◌, Bool, true, false, cond, List, [], ◌∷◌, ◌++◌, length, take, Some, None, refl, sym, ap, ◌∙◌, arith}
use Rattle.std.proofs.lemmas.List.{append_assoc}
use Rattle.vx_select.specs.Selected.{those_from}
use Rattle.vx_select.specs.Values.{IsNext, Listing, Taking}

nil_append : (xs : List ℕ) → xs ++ [] ≡ xs
nil_append [] = refl
nil_append (x ∷ xs) = ap (λ l. x ∷ l) (nil_append xs)

take_none : (n : ℕ) → take {A = ℕ} n [] ≡ []
take_none zero = refl
take_none (suc n) = refl

length_push : (xs : List ℕ) (v : ℕ) → length (xs ++ v ∷ []) ≡ length xs + 1
length_push [] v = refl
length_push (x ∷ xs) v = let h = length_push xs v in omega arith

module _ (p : ℕ → Bool) where
  one_passes : (k n : ℕ) → p k ≡ true → those_from p k (suc n) ≡ k ∷ those_from p (suc k) n
  one_passes k n e = ap (λ b. cond b (k ∷ those_from p (suc k) n) (those_from p (suc k) n)) e

  one_fails : (k n : ℕ) → p k ≡ false → those_from p k (suc n) ≡ those_from p (suc k) n
  one_fails k n e = ap (λ b. cond b (k ∷ those_from p (suc k) n) (those_from p (suc k) n)) e

  -- numbers that do not pass are left out
  skipped : (k a n : ℕ) → ((u : ℕ) → k ≤ u → u < k + a → p u ≡ false) → those_from p k (a + n) ≡ those_from p (k + a) n
  skipped k zero n f = let e : k ≡ k + 0 = omega arith in let z : 0 + n ≡ n = omega arith in ap (those_from p k) z ∙ ap (λ j. those_from p j n) e
  skipped k (suc a) n f =
      let e : suc k + a ≡ k + suc a = omega arith in
      let s : suc a + n ≡ suc (a + n) = omega arith in
      ap (those_from p k) s ∙ one_fails k (a + n) (f k (omega arith) (omega arith)) ∙ skipped (suc k) a n (λ u l h. f u (omega arith) (omega arith)) ∙ ap (λ j. those_from p j n) e

  none_left : (k n : ℕ) → ((u : ℕ) → k ≤ u → u < k + n → p u ≡ false) → those_from p k n ≡ []
  none_left k zero f = refl
  none_left k (suc n) f = one_fails k n (f k (omega arith) (omega arith)) ∙ none_left (suc k) n (λ u l h. f u (omega arith) (omega arith))

  -- ---- all of them

  pub listing_begun : (count : ℕ) (found : List ℕ) → found ≡ [] → Listing p count 0 found
  listing_begun count found e = record { rest = count; ends = omega arith; whole = ap (λ l. l ++ those_from p 0 count) e }

  module _ (count k : ℕ) (found : List ℕ) (l : Listing p count k found) where
    -- the next one is put behind the others
    pub listing_put : (v : ℕ) (new : List ℕ) → IsNext p k (Some v) → v < count → new ≡ found ++ v ∷ [] → Listing p count (v + 1) new
    listing_put v new n h e = by (gap v n.0 h)
      where
        gap : (v : ℕ) → k ≤ v → v < count → (a b : ℕ) × (k + a ≡ v) × (l.rest ≡ a + suc b)
        gap v h j = between k v l.rest h (let q = l.ends in omega arith)
          where
            between : (k v r : ℕ) → k ≤ v → v < k + r → (a b : ℕ) × (k + a ≡ v) × (r ≡ a + suc b)
            between zero zero zero h j = absurd (omega arith)
            between zero zero (suc r) h j = (0, r, omega arith, omega arith)
            between zero (suc v) zero h j = absurd (omega arith)
            between zero (suc v) (suc r) h j = let x = between zero v r (omega arith) (omega arith) in (suc x.0, x.1, omega arith, omega arith)
            between (suc k) zero r h j = absurd (omega arith)
            between (suc k) (suc v) r h j = let x = between k v r (omega arith) (omega arith) in (x.0, x.1, omega arith, omega arith)

        by : (a b : ℕ) × (k + a ≡ v) × (l.rest ≡ a + suc b) → Listing p count (v + 1) new
        by (a, b, at, rest) =
            let q : those_from p k l.rest ≡ v ∷ those_from p (suc v) b =
            ap (those_from p k) rest ∙ skipped k a (suc b) (λ u x y. n.2 u x (omega arith)) ∙ ap (λ j. those_from p j (suc b)) at ∙ one_passes v b n.1 in
            let one : suc v ≡ v + 1 = omega arith in
            record {
              rest = b;
              ends = (let z = l.ends in omega arith);
              whole = ap (λ x. x ++ those_from p (v + 1) b) e ∙ append_assoc found (v ∷ []) (those_from p (v + 1) b) ∙ ap (λ j. found ++ v ∷ those_from p j b) (sym one) ∙ ap (λ x. found ++ x) (sym q) ∙ l.whole;
            }

    -- the next one is not below the count, or there is none
    pub listing_ended : ((u : ℕ) → k ≤ u → u < count → p u ≡ false) → found ≡ those_from p 0 count
    listing_ended f = sym (nil_append found) ∙ ap (λ x. found ++ x) (sym (none_left k l.rest (λ u x y. f u x (let z = l.ends in omega arith)))) ∙ l.whole

    pub listing_none : IsNext p k None → found ≡ those_from p 0 count
    listing_none n = listing_ended (λ u x y. n u x)

    pub listing_past : (v : ℕ) → IsNext p k (Some v) → count ≤ v → found ≡ those_from p 0 count
    listing_past v n h = listing_ended (λ u x y. n.2 u x (omega arith))

  -- ---- no more than are asked for

  pub taking_begun : (count most : ℕ) (found : List ℕ) → found ≡ [] → Taking p count most 0 found
  taking_begun count most found e = record { rest = count; more = most; ends = omega arith; left = (let z : 0 + most ≡ most = omega arith in ap (λ (l : List ℕ). length l + most) e ∙ z); whole = ap (λ l. l ++ take most (those_from p 0 count)) e }

  module _ (count most k : ℕ) (found : List ℕ) (t : Taking p count most k found) where
    pub taking_put : (new : List ℕ) → k < count → length found < most → p k ≡ true → new ≡ found ++ k ∷ [] → Taking p count most (k + 1) new
    taking_put new h j e q = by (one_more t.rest (let z = t.ends in omega arith)) (one_more t.more (let z = t.left in omega arith))
      where
        one_more : (n : ℕ) → 0 < n → (m : ℕ) × (n ≡ suc m)
        one_more zero h = absurd (omega arith)
        one_more (suc m) h = (m, refl)

        by : (m : ℕ) × (t.rest ≡ suc m) → (m : ℕ) × (t.more ≡ suc m) → Taking p count most (k + 1) new
        by (b, rest) (m, more) =
            let o : suc k ≡ k + 1 = omega arith in
            let w : take t.more (those_from p k t.rest) ≡ k ∷ take m (those_from p (k + 1) b) =
            ap (λ n. take n (those_from p k t.rest)) more ∙ ap (λ n. take (suc m) (those_from p k n)) rest ∙ ap (take (suc m)) (one_passes k b e) ∙ ap (λ j. k ∷ take m (those_from p j b)) o in
            record {
              rest = b;
              more = m;
              ends = (let z = t.ends in omega arith);
              left = (let z = t.left in let y : length new ≡ length found + 1 = ap (λ (l : List ℕ). length l) q ∙ length_push found k in omega arith);
              whole = ap (λ x. x ++ take m (those_from p (k + 1) b)) q ∙ append_assoc found (k ∷ []) (take m (those_from p (k + 1) b)) ∙ ap (λ x. found ++ x) (sym w) ∙ t.whole;
            }

    pub taking_skip : (new : List ℕ) → k < count → p k ≡ false → new ≡ found → Taking p count most (k + 1) new
    taking_skip new h e q = by (one_more t.rest (let z = t.ends in omega arith))
      where
        one_more : (n : ℕ) → 0 < n → (m : ℕ) × (n ≡ suc m)
        one_more zero h = absurd (omega arith)
        one_more (suc m) h = (m, refl)

        by : (m : ℕ) × (t.rest ≡ suc m) → Taking p count most (k + 1) new
        by (b, rest) =
            let o : suc k ≡ k + 1 = omega arith in
            record {
              rest = b;
              more = t.more;
              ends = (let z = t.ends in omega arith);
              left = ap (λ (l : List ℕ). length l + t.more) q ∙ t.left;
              whole = ap (λ x. x ++ take t.more (those_from p (k + 1) b)) q ∙ ap (λ j. found ++ take t.more (those_from p j b)) (sym o) ∙ ap (λ x. found ++ take t.more x) (sym (one_fails k b e) ∙ ap (those_from p k) (sym rest)) ∙ t.whole;
            }

    pub taking_full : most ≤ length found → found ≡ take most (those_from p 0 count)
    taking_full h =
        let z : t.more ≡ 0 = (let y = t.left in omega arith) in
        sym (nil_append found) ∙ ap (λ n. found ++ take n (those_from p k t.rest)) (sym z) ∙ t.whole

    pub taking_ended : count ≤ k → found ≡ take most (those_from p 0 count)
    taking_ended h =
        let z : t.rest ≡ 0 = (let y = t.ends in omega arith) in
        sym (nil_append found) ∙ ap (λ x. found ++ x) (sym (take_none t.more)) ∙ ap (λ n. found ++ take t.more (those_from p k n)) (sym z) ∙ t.whole
