-- What the words of an array hold behind a store.
use Rattle.std.proofs.Common.{◌≡◌, ℕ, zero, suc, ◌==◌, ◌<◌, ◌/◌, ◌%◌, nat_lt, Bool, true, false, cond, ◌&&◌, ℤ, pos, negsuc, List, [], ◌∷◌, length, slice_index_or, slice_set, Option, Some, None, refl, sym, ap, ◌∙◌, subst, arith, ltb-true}
use Rattle.vx_flow.specs.declared.graph.Operand.{Operand}
use Rattle.vx_flow.specs.declared.graph.Operand.TheVariants.{Held, Number, Stack}
use Rattle.vx_flow.specs.declared.graph.Op.TheVariants.{Store}
use Rattle.vx_flow.specs.Effects.{Content, State, Setting, held, row_of, cell_in, cell_of, stored, with_cell, effect}
use Rattle.vx_claims.specs.Accesses.{HoldsWord}
use Rattle.vx_narrow.proofs.Ranges.{and_two}

-- ---- lists

get_set : {A : Type 0} (xs : List A) (i : ℕ) (v d : A) → i < length xs → slice_index_or (slice_set xs i v) i d ≡ v
get_set [] i v d h = absurd (omega arith)
get_set (x ∷ xs) zero v d h = refl
get_set (x ∷ xs) (suc i) v d h = let k : i < length xs = omega arith in get_set xs i v d k

get_other : {A : Type 0} (xs : List A) (i j : ℕ) (v d : A) → (i ≡ j → ⊥) → slice_index_or (slice_set xs i v) j d ≡ slice_index_or xs j d
get_other [] i j v d n = refl
get_other (x ∷ xs) zero zero v d n = absurd (n refl)
get_other (x ∷ xs) zero (suc j) v d n = refl
get_other (x ∷ xs) (suc i) zero v d n = refl
get_other (x ∷ xs) (suc i) (suc j) v d n = get_other xs i j v d (λ e. n (ap suc e))

pub set_length : {A : Type 0} (xs : List A) (i : ℕ) (v : A) → length (slice_set xs i v) ≡ length xs
set_length [] i v = refl
set_length (x ∷ xs) zero v = refl
set_length (x ∷ xs) (suc i) v = ap suc (set_length xs i v)

-- a row with a word in it is there
row_there : (rows : List (List Content)) (a i : ℕ) → i < length (slice_index_or rows a []) → a < length rows
row_there [] a i h = absurd (omega arith)
row_there (r ∷ rows) zero i h = omega arith
row_there (r ∷ rows) (suc a) i h = let k : a < length rows = row_there rows a i h in omega arith

cell_inside : (words : ℕ) (c : Content) (i : ℕ) → cell_in words c ≡ Some i → i < words
cell_inside words None i e = absurd (cc)
cell_inside words (Some (negsuc n)) i e = absurd (cc)
cell_inside words (Some (pos p)) i e = by ((p % 4 == 0) && nat_lt (p / 4) words) refl e
  where
    by : (t : Bool) → ((p % 4 == 0) && nat_lt (p / 4) words) ≡ t → cond t (Some (p / 4)) None ≡ Some i → i < words
    by true q f = let same : p / 4 ≡ i = cc in subst (λ n. n < words) same (ltb-true (p / 4) words (and_two (p % 4 == 0) (nat_lt (p / 4) words) q))
    by false q f = absurd (cc)

pub held_same : (s t : State) (x : Operand) → t.values ≡ s.values → held t x ≡ held s x
held_same s t (Held v) e = ap (λ (w : ℕ → Content). w v) e
held_same s t (Number n) e = refl
held_same s t Stack e = refl

-- ---- stores

pub stored_is : (s t : State) (a : ℕ) (o : Option ℕ) (x : Content) → stored s a o x ≡ Some t → (i : ℕ) × (n : ℤ) × (o ≡ Some i) × (x ≡ Some n) × (with_cell s a i (Some n) ≡ t)
stored_is s t a None x e = absurd (cc)
stored_is s t a (Some i) None e = absurd (cc)
stored_is s t a (Some i) (Some n) e = (i, n, refl, refl, cc)

module _ (setting : Setting) (s : State) (a : ℕ) (i : ℕ) (c : Content) where
  abbrev spot : ℕ
  spot = setting.spot a

  row_set : i < length (row_of s spot) → row_of (with_cell s spot i c) spot ≡ slice_set (row_of s spot) i c
  row_set h = get_set s.arrays spot (slice_set (row_of s spot) i c) [] (row_there s.arrays spot i h)

  -- the word that was stored, at any place of its array that names it; other places of the array must name other words
  pub word_set : (p x : Operand) → i < length (row_of s spot) → held s x ≡ c → cell_of setting s a p ≡ Some i → HoldsWord setting (with_cell s spot i c) a p x
  word_set p x h e at j q =
      let t : State = with_cell s spot i c in
      let r : row_of t spot ≡ slice_set (row_of s spot) i c = row_set h in
      let size : length (row_of t spot) ≡ length (row_of s spot) = ap (λ (row : List Content). length row) r ∙ set_length (row_of s spot) i c in
      let same : cell_of setting t a p ≡ cell_of setting s a p = ap (λ n. cell_in n (held t p)) size ∙ ap (cell_in (length (row_of s spot))) (held_same s t p refl) in
      let ij : i ≡ j = (let z : Some i ≡ Some j = sym at ∙ sym same ∙ q in cc) in
      ap (λ (row : List Content). slice_index_or row j None) r ∙ ap (λ k. slice_index_or (slice_set (row_of s spot) i c) k None) (sym ij) ∙ get_set (row_of s spot) i c None h ∙ sym e ∙ sym (held_same s t x refl)

  -- a word of another array stays
  pub other_array : (b : ℕ) (p x : Operand) → (setting.spot a ≡ setting.spot b → ⊥) → HoldsWord setting s b p x → HoldsWord setting (with_cell s spot i c) b p x
  other_array b p x n k j q =
      let t : State = with_cell s spot i c in
      let r : row_of t (setting.spot b) ≡ row_of s (setting.spot b) = get_other s.arrays spot (setting.spot b) (slice_set (row_of s spot) i c) [] n in
      let same : cell_of setting t b p ≡ cell_of setting s b p = ap (λ (row : List Content). cell_in (length row) (held t p)) r ∙ ap (cell_in (length (row_of s (setting.spot b)))) (held_same s t p refl) in
      ap (λ (row : List Content). slice_index_or row j None) r ∙ k j (sym same ∙ q) ∙ sym (held_same s t x refl)

pub store_new : (setting : Setting) (s t : State) (a : ℕ) (p x : Operand) → effect setting s (Store a p x) s ≡ Some t → HoldsWord setting t a p x
store_new setting s t a p x e =
    let w = stored_is s t (setting.spot a) (cell_of setting s a p) (held s x) e in
    let h = cell_inside (length (row_of s (setting.spot a))) (held s p) w.0 w.2 in
    subst (λ (u : State). HoldsWord setting u a p x) w.4 (word_set setting s a w.0 (Some w.1) p x h w.3 w.2)
