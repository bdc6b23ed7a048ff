-- Words of rows, and what a store to one of them changes.
use Rattle.std.proofs.Common.{◌≡◌, ◌≢◌, ◌<◌, ◌⊎◌, inl, inr, ⊎_elim, ◌+◌, ◌*◌, ℕ, zero, suc, ℤ, Bool, true, false, eqb, Some, None, List, [], ◌∷◌, length, refl, sym, ap, ◌∙◌, arith}
use Rattle.std.specs.Prelude.{if◌then◌else◌, slice_index_or, slice_set}
use Rattle.std.proofs.lemmas.Bool.{eqb-true}
use Rattle.std.proofs.lemmas.Bool.Decides.{nat_tests}
use Rattle.std.proofs.lemmas.List.{get_or-set_same, get_or-set_other, length-set}
use Rattle.vx_flow.specs.Effects.{Content}
use Rattle.vx_isa.specs.Machine.{stored}
use Rattle.vx_target.specs.Tied.{HasCell, row_in, word_at}

pub same_or_not : (a b : ℕ) → ((eqb a b ≡ true) × (a ≡ b)) ⊎ ((eqb a b ≡ false) × (a ≢ b))
same_or_not a b = by_bool (eqb a b) refl
  where
    by_bool : (x : Bool) → eqb a b ≡ x → ((eqb a b ≡ true) × (a ≡ b)) ⊎ ((eqb a b ≡ false) × (a ≢ b))
    by_bool true e = inl (e, eqb-true a b e)
    by_bool false e = inr (e, (λ q. grind (arith, nat_tests)))

-- memory

pub store_at : (m : ℕ → ℤ) (x y : ℕ) (z : ℤ) → y ≡ x → word_at (stored m (4 * x) z) y ≡ z
store_at m x y z e = let q : eqb (4 * y) (4 * x) ≡ true = grind (arith, nat_tests) in ap (λ b. if b then z else m (4 * y)) q

pub store_off : (m : ℕ → ℤ) (x y : ℕ) (z : ℤ) → (y ≢ x) → word_at (stored m (4 * x) z) y ≡ word_at m y
store_off m x y z ne = let q : eqb (4 * y) (4 * x) ≡ false = grind (arith, nat_tests) in ap (λ b. if b then z else m (4 * y)) q

-- rows

pub record SameShape (rows rows' : List (List Content)) : Type 0 where
  pub count : length rows' ≡ length rows
  pub each : (k : ℕ) → length (row_in rows' k) ≡ length (row_in rows k)

pub same_shape : (rows : List (List Content)) → SameShape rows rows
same_shape rows = record { count = refl; each = λ k. refl }

pub shape_on : (a b c : List (List Content)) → SameShape a b → SameShape b c → SameShape a c
shape_on a b c x y = record { count = y.count ∙ x.count; each = λ k. y.each k ∙ x.each k }

-- a row that has a word is there
pub row_there : (rows : List (List Content)) (k i : ℕ) → HasCell rows k i → k < length rows
row_there [] k i lt = absurd (omega arith)
row_there (r ∷ rows) zero i lt = omega arith
row_there (r ∷ rows) (suc k) i lt = let h = row_there rows k i lt in omega arith

-- word i of row k is written
abbrev pub set_cell : List (List Content) → (k i : ℕ) → Content → List (List Content)
set_cell rows k i x = slice_set rows k (slice_set (row_in rows k) i x)

module _ (rows : List (List Content)) (k i : ℕ) (x : Content) (has : HasCell rows k i) where
  written_row : row_in (set_cell rows k i x) k ≡ slice_set (row_in rows k) i x
  written_row = get_or-set_same rows k (slice_set (row_in rows k) i x) [] (row_there rows k i has)

  other_row : (j : ℕ) → (j ≢ k) → row_in (set_cell rows k i x) j ≡ row_in rows j
  other_row j ne = get_or-set_other rows k j (slice_set (row_in rows k) i x) [] ne

  pub set_shape : SameShape rows (set_cell rows k i x)
  set_shape = record {
    count = length-set rows k (slice_set (row_in rows k) i x);
    each = λ j. ⊎_elim
        (λ q. ap (λ y. length (row_in (set_cell rows k i x) y)) q.1 ∙ ap length written_row ∙ length-set (row_in rows k) i x ∙ ap (λ y. length (row_in rows y)) (sym q.1))
        (λ q. ap length (other_row j q.1))
        (same_or_not j k);
  }

  -- then it is what was written, and all else is as before
  pub set_known : (l j : ℕ) → ((l ≡ k) × (j ≡ i) × (slice_index_or (row_in (set_cell rows k i x) l) j None ≡ x)) ⊎ (((l ≡ k) × (j ≡ i) → ⊥) × (slice_index_or (row_in (set_cell rows k i x) l) j None ≡ slice_index_or (row_in rows l) j None))
  set_known l j = ⊎_elim
      (λ q. ⊎_elim
      (λ p. inl (
        q.1,
        p.1,
        ap (λ y. slice_index_or (row_in (set_cell rows k i x) y) j None) q.1 ∙ ap (λ r. slice_index_or r j None) written_row ∙ ap (λ y. slice_index_or (slice_set (row_in rows k) i x) y None) p.1 ∙ get_or-set_same (row_in rows k) i x None has,
      ))
      (λ p. inr (
        λ s. p.1 s.1,
        ap (λ y. slice_index_or (row_in (set_cell rows k i x) y) j None) q.1 ∙ ap (λ r. slice_index_or r j None) written_row ∙ get_or-set_other (row_in rows k) i j x None p.1 ∙ ap (λ y. slice_index_or (row_in rows y) j None) (sym q.1),
      ))
      (same_or_not j i))
      (λ q. inr (λ s. q.1 s.0, ap (λ r. slice_index_or r j None) (other_row l q.1)))
      (same_or_not l k)

-- a store to word i of row k, at the row's seat, keeps known words in memory, where no two share a word there
pub store_known : (rows rows' : List (List Content)) (seats : ℕ → ℕ) (memory : ℕ → ℤ) (k i : ℕ) (n : ℤ) → SameShape rows rows' → HasCell rows k i →
    ((l j : ℕ) → HasCell rows l j → seats l + j ≡ seats k + i → (l ≡ k) × (j ≡ i)) →
    ((l j : ℕ) (z : ℤ) → HasCell rows l j → slice_index_or (row_in rows' l) j None ≡ Some z → word_at memory (seats l + j) ≡ z) →
    (l j : ℕ) (z : ℤ) → HasCell rows l j → slice_index_or (row_in (set_cell rows' k i (Some n)) l) j None ≡ Some z → word_at (stored memory (4 * (seats k + i)) n) (seats l + j) ≡ z
store_known rows rows' seats memory k i n shape has apart known l j z there e = ⊎_elim here other (set_known rows' k i (Some n) (let q = shape.each k in omega arith) l j)
  where
    here : (l ≡ k) × (j ≡ i) × (slice_index_or (row_in (set_cell rows' k i (Some n)) l) j None ≡ Some n) → word_at (stored memory (4 * (seats k + i)) n) (seats l + j) ≡ z
    here q =
        let s : Some n ≡ Some z = sym q.2 ∙ e in
        let k_is : n ≡ z = cc in
        store_at memory (seats k + i) (seats l + j) n (ap (λ y. seats y + j) q.0 ∙ ap (λ y. seats k + y) q.1) ∙ k_is

    other : ((l ≡ k) × (j ≡ i) → ⊥) × (slice_index_or (row_in (set_cell rows' k i (Some n)) l) j None ≡ slice_index_or (row_in rows' l) j None) → word_at (stored memory (4 * (seats k + i)) n) (seats l + j) ≡ z
    other q = store_off memory (seats k + i) (seats l + j) n (λ s. q.0 (apart l j there s)) ∙ known l j z there (sym q.1 ∙ e)
