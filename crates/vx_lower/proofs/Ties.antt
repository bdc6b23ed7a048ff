-- What ties the source's store to the graph's state.
use Rattle.std.proofs.Common.{◌≡◌, ℕ, zero, suc, ◌<◌, ◌≤◌, ◌⊎◌, ◌^◌, ℤ, pos, Bool, true, false, cond, ◌||◌, List, [], ◌∷◌, length, map, slice_index_or, slice_set, Some, None, refl, sym, ap, ◌∙◌, inl, inr, arith}
use Rattle.std.specs.Prelude.{nat_eq}
use Rattle.std.proofs.lemmas.Bool.Decides.{eqb_tells}
use Rattle.std.proofs.lemmas.List.{length-map}
use Rattle.vx_base.specs.Arithmetic.{IsNumber, value_of, product_of}
use Rattle.vx_base.specs.declared.arithmetic.Code.{Code}
use Rattle.vx_base.specs.declared.arithmetic.Code.TheVariants.{Mov}
use Rattle.vx_ast.specs.Meaning.{Store, with_scalar, with_word, array_at, word_at}
use Rattle.vx_ast.specs.Accepted.{Scope, is_in}
use Rattle.vx_flow.specs.declared.graph.Operand.{Operand}
use Rattle.vx_flow.specs.declared.graph.Operand.TheVariants.{Held, Number, Stack}
use Rattle.vx_flow.specs.declared.graph.Op.TheVariants.{Compute, Load, Store as Keep}
use Rattle.vx_flow.specs.Effects.{Content, State, Setting, held, with_value, with_cell, row_of, both, is_unary, effect, loaded, stored, cell_in, place_of, place_by as place_from}
use Rattle.vx_flow.specs.Meaning.{known, with_front}
use Rattle.vx_lower.specs.FlowOf.{AreNumbers}
use Rattle.vx_lower.specs.Holds.{IsBelow}
use Rattle.vx_lower.specs.Seen.{Sees, seen_at, size_at, size_of, place_op, place_by}
use Rattle.vx_lower.specs.declared.seen.Seen.{Seen}
use Rattle.vx_lower.specs.declared.seen.Seen.TheVariants.{GlobalArray, OwnArray, Handed}
use Rattle.vx_lower.proofs.Base.{SameRow, set_row, set_shape, length_of_row, map_set, known_word, cell_of, above_not_eq, below_not_eq, same_eq}

-- all numbers of a store have 32 bits
pub record InRange (σ : Store) : Type 0 where
  pub scalars : (x : ℕ) → IsNumber (σ.scalars x)
  pub words : (p j : ℕ) → IsNumber (slice_index_or (slice_index_or σ.arrays p []) j (pos 0))
  pub input : AreNumbers σ.input

-- an array that may be read and written: a global, or one that was handed over or is the function's own and in force
abbrev pub InForce : (globals : ℕ) → Scope → ℕ → Type 0
InForce globals sc a = (a < globals) ⊎ (is_in a sc.arrays ≡ true)

-- the values of each array that was handed over hold where it stands and how many words it has
abbrev pub HoldsHanded : Sees → (ℕ → ℕ) → List ℕ → State → Type 0
HoldsHanded words spot shapes s = (a b c : ℕ) → seen_at words a ≡ Handed b c → (s.values b ≡ Some (pos (spot a))) × (s.values c ≡ Some (pos (slice_index_or shapes (spot a) 0)))

-- kept: the places of other arrays that are known
pub record Tied (globals : ℕ) (spot : ℕ → ℕ) (sc : Scope) (kept : ℕ → Type 0) (shapes : List ℕ) (words : Sees) (σ : Store) (s : State) : Type 0 where
  pub scalars : (x : ℕ) → is_in x sc.scalars ≡ true → s.values x ≡ Some (σ.scalars x)
  pub handed : HoldsHanded words spot shapes s
  pub own : (a : ℕ) → InForce globals sc a → SameRow σ.arrays s.arrays (spot a)
  pub others : (p : ℕ) → kept p → SameRow σ.arrays s.arrays p
  pub shape : map (λ z. length z) s.arrays ≡ shapes
  pub source_shape : map (λ z. length z) σ.arrays ≡ shapes
  pub input : s.input ≡ σ.input
  pub out : s.out ≡ σ.out
  pub ranges : InRange σ

-- the scalars in force are scalars, the arrays in force are there, and the values of what was handed over are no scalars and
-- below lo
pub record Above (words : Sees) (sc : Scope) (lo : ℕ) : Type 0 where
  pub scalars : (x : ℕ) → is_in x sc.scalars ≡ true → x < words.scalars
  pub few : words.scalars ≤ lo
  pub there : (a : ℕ) → is_in a sc.arrays ≡ true → a < length words.arrays
  pub handed : (a b c : ℕ) → seen_at words a ≡ Handed b c → (words.scalars ≤ b) × (b < lo) × (words.scalars ≤ c) × (c < lo)

pub above_on : (words : Sees) (sc : Scope) (lo mid : ℕ) → lo ≤ mid → Above words sc lo → Above words sc mid
above_on words sc lo mid le x = let f = x.few in record {
  scalars = x.scalars;
  few = omega arith;
  there = x.there;
  handed = λ a b c e. let h = x.handed a b c e in let hb = h.1 in let hc = h.3 in (h.0, omega arith, h.2, omega arith);
}

abbrev pub Keeps : ℕ → State → State → Type 0
Keeps lo s t = (u : ℕ) → u < lo → t.values u ≡ s.values u

pub held_kept : (lo : ℕ) (s t : State) (o : Operand) → Keeps lo s t → IsBelow lo o → held t o ≡ held s o
held_kept lo s t (Held v) k b = k v b
held_kept lo s t (Number z) k b = refl
held_kept lo s t Stack k b = refl

pub below_on : (lo hi : ℕ) (o : Operand) → lo ≤ hi → IsBelow lo o → IsBelow hi o
below_on lo hi (Held v) h b = omega arith
below_on lo hi (Number z) h b = tt
below_on lo hi Stack h b = b

pub keeps_value : (lo t : ℕ) (s : State) (x : Content) → lo ≤ t → Keeps lo s (with_value s t x)
keeps_value lo t s x h = λ u l. ap (λ b. cond b x (s.values u)) (above_not_eq u t (omega arith))

pub keeps_value_at : (u t : ℕ) (s : State) (x : Content) → t < u → (with_value s t x).values u ≡ s.values u
keeps_value_at u t s x h = ap (λ b. cond b x (s.values u)) (below_not_eq u t h)

pub value_there : (t : ℕ) (s : State) (x : Content) → (with_value s t x).values t ≡ x
value_there t s x = ap (λ b. cond b x (s.values t)) (same_eq t)

by_both : (setting : Setting) (code : Code) (t : ℕ) (a b : Operand) (s : State) (x y : ℤ) → is_unary code ≡ false → held s a ≡ Some x → held s b ≡ Some y → effect setting s (Compute code t a b) s ≡ Some (with_value s t (Some (value_of code x y)))
by_both setting code t a b s x y u e f =
    ap (λ z. Some (with_value s t (cond z (held s a) (both (value_of code) (held s a) (held s b))))) u
    ∙ ap (λ o. Some (with_value s t (both (value_of code) o (held s b)))) e ∙ ap (λ o. Some (with_value s t (both (value_of code) (Some x) o))) f

pub computes : (setting : Setting) (code : Code) (t : ℕ) (a b : Operand) (s : State) (x y : ℤ) → held s a ≡ Some x → held s b ≡ Some y → effect setting s (Compute code t a b) s ≡ Some (with_value s t (Some (value_of code x y)))
computes setting code t a b s x y e f = by code (is_unary code) refl
  where
    by : (c : Code) (u : Bool) → is_unary c ≡ u → effect setting s (Compute c t a b) s ≡ Some (with_value s t (Some (value_of c x y)))
    by Mov u q = ap (λ o. Some (with_value s t o)) e
    by c false q = by_both setting c t a b s x y q e f
    by c true q = absurd (cc)

pub known_all : (vs : List ℤ) → known (map Some vs) ≡ Some vs
known_all [] = refl
known_all (v ∷ vs) = ap (with_front v) (known_all vs)

-- ranges

pub range_scalar : (x : ℕ) (σ : Store) (v : ℤ) → IsNumber v → InRange σ → InRange (with_scalar σ x v)
range_scalar x σ v f r = record { scalars = λ y. by y (nat_eq y x); words = r.words; input = r.input }
  where
    by : (y : ℕ) (b : Bool) → IsNumber (cond b v (σ.scalars y))
    by y true = f
    by y false = r.scalars y

-- a word of a list whose words are numbers stays one where a number is set
set_words : (xs : List ℤ) (i : ℕ) (v : ℤ) → IsNumber v → ((j : ℕ) → IsNumber (slice_index_or xs j (pos 0))) → (j : ℕ) → IsNumber (slice_index_or (slice_set xs i v) j (pos 0))
set_words [] i v f r j = r j
set_words (x ∷ xs) zero v f r zero = f
set_words (x ∷ xs) zero v f r (suc j) = r (suc j)
set_words (x ∷ xs) (suc i) v f r zero = r zero
set_words (x ∷ xs) (suc i) v f r (suc j) = set_words xs i v f (λ k. r (suc k)) j

set_rows : (xs : List (List ℤ)) (a : ℕ) (row : List ℤ) → ((j : ℕ) → IsNumber (slice_index_or row j (pos 0))) → ((p j : ℕ) → IsNumber (slice_index_or (slice_index_or xs p []) j (pos 0))) → (p j : ℕ) → IsNumber (slice_index_or (slice_index_or (slice_set xs a row) p []) j (pos 0))
set_rows [] a row f r p j = r p j
set_rows (x ∷ xs) zero row f r zero j = f j
set_rows (x ∷ xs) zero row f r (suc p) j = r (suc p) j
set_rows (x ∷ xs) (suc a) row f r zero j = r zero j
set_rows (x ∷ xs) (suc a) row f r (suc p) j = set_rows xs a row f (λ q k. r (suc q) k) p j

pub range_row : (σ : Store) (a : ℕ) (row : List ℤ) → ((j : ℕ) → IsNumber (slice_index_or row j (pos 0))) → InRange σ → InRange (record σ { arrays = slice_set σ.arrays a row })
range_row σ a row f r = record { scalars = r.scalars; words = set_rows σ.arrays a row f r.words; input = r.input }

pub range_word : (a j : ℕ) (σ : Store) (v : ℤ) → IsNumber v → InRange σ → InRange (with_word σ a j v)
range_word a j σ v f r = range_row σ a (slice_set (array_at σ a) j v) (set_words (array_at σ a) j v f (r.words a)) r

module _ (globals : ℕ) (spot : ℕ → ℕ) (kept : ℕ → Type 0) (shapes : List ℕ) (words : Sees) where
  pub tied_value : (sc : Scope) (lo t : ℕ) (σ : Store) (s : State) (x : Content) → Above words sc lo → lo ≤ t → Tied globals spot sc kept shapes words σ s → Tied globals spot sc kept shapes words σ (with_value s t x)
  tied_value sc lo t σ s x bound le tied = record {
    scalars = λ y i. keeps_value lo t s x le y (let l = bound.scalars y i in let f = bound.few in omega arith) ∙ tied.scalars y i;
    handed = λ a b c e. let h = bound.handed a b c e in let v = tied.handed a b c e in (keeps_value lo t s x le b h.1 ∙ v.0, keeps_value lo t s x le c h.3 ∙ v.1);
    own = tied.own;
    others = tied.others;
    shape = tied.shape;
    source_shape = tied.source_shape;
    input = tied.input;
    out = tied.out;
    ranges = tied.ranges;
  }

  pub tied_scalar : (sc : Scope) (lo x : ℕ) (σ : Store) (s : State) (v : ℤ) → Above words sc lo → x < words.scalars → IsNumber v → Tied globals spot sc kept shapes words σ s → Tied globals spot (record sc { scalars = x ∷ sc.scalars }) kept shapes words (with_scalar σ x v) (with_value s x (Some v))
  tied_scalar sc lo x σ s v bound lt f tied = record {
    scalars = λ y i. after y i (eqb_tells y x);
    handed = λ a b c e. let h = bound.handed a b c e in let w = tied.handed a b c e in let hb = h.0 in let hc = h.2 in (keeps_value_at b x s (Some v) (omega arith) ∙ w.0, keeps_value_at c x s (Some v) (omega arith) ∙ w.1);
    own = tied.own;
    others = tied.others;
    shape = tied.shape;
    source_shape = tied.source_shape;
    input = tied.input;
    out = tied.out;
    ranges = range_scalar x σ v f tied.ranges;
  }
    where
      after : (y : ℕ) → is_in y (x ∷ sc.scalars) ≡ true → ((nat_eq y x ≡ true) × (y ≡ x)) ⊎ ((nat_eq y x ≡ false) × (y ≡ x → ⊥)) → (with_value s x (Some v)).values y ≡ Some ((with_scalar σ x v).scalars y)
      after y i (inl t) = ap (λ b. cond b (Some v) (s.values y)) t.0 ∙ ap (λ b. Some (cond b v (σ.scalars y))) (sym t.0)
      after y i (inr t) = ap (λ b. cond b (Some v) (s.values y)) t.0 ∙ tied.scalars y (sym (ap (λ b. b || is_in y sc.scalars) t.0) ∙ i) ∙ ap (λ b. Some (cond b v (σ.scalars y))) (sym t.0)

  -- how many arrays there are, and how many words an array has, in both
  pub same_count : (sc : Scope) (σ : Store) (s : State) → Tied globals spot sc kept shapes words σ s → length σ.arrays ≡ length s.arrays
  same_count sc σ s tied = sym (length-map σ.arrays (λ z. length z)) ∙ ap length (tied.source_shape ∙ sym tied.shape) ∙ length-map s.arrays (λ z. length z)

  pub row_length : (sc : Scope) (σ : Store) (s : State) (p : ℕ) → Tied globals spot sc kept shapes words σ s → length (slice_index_or s.arrays p []) ≡ slice_index_or shapes p 0
  row_length sc σ s p tied = length_of_row s.arrays p ∙ ap (λ l. slice_index_or l p 0) tied.shape

  pub source_length : (sc : Scope) (σ : Store) (s : State) (p : ℕ) → Tied globals spot sc kept shapes words σ s → length (slice_index_or σ.arrays p []) ≡ slice_index_or shapes p 0
  source_length sc σ s p tied = length_of_row σ.arrays p ∙ ap (λ l. slice_index_or l p 0) tied.source_shape

  -- a whole row is set
  pub tied_row : (sc : Scope) (p : ℕ) (row : List ℤ) (row' : List Content) (σ : Store) (s : State) → row' ≡ map Some row → length row ≡ length (array_at σ p) → ((j : ℕ) → IsNumber (slice_index_or row j (pos 0))) → Tied globals spot sc kept shapes words σ s →
      Tied globals spot sc kept shapes words (record σ { arrays = slice_set σ.arrays p row }) (record s { arrays = slice_set s.arrays p row' })
  tied_row sc p row row' σ s e l f tied = record {
    scalars = tied.scalars;
    handed = tied.handed;
    own = λ a i. set_row σ.arrays s.arrays p (spot a) row row' count e (tied.own a i);
    others = λ q i. set_row σ.arrays s.arrays p q row row' count e (tied.others q i);
    shape = set_shape s.arrays p row' (ap length e ∙ length-map row Some ∙ l ∙ source_length sc σ s p tied ∙ sym (row_length sc σ s p tied)) ∙ tied.shape;
    source_shape = set_shape σ.arrays p row l ∙ tied.source_shape;
    input = tied.input;
    out = tied.out;
    ranges = range_row σ p row f tied.ranges;
  }
    where
      count : length σ.arrays ≡ length s.arrays
      count = same_count sc σ s tied

  -- a word is set
  pub tied_word : (sc : Scope) (a j : ℕ) (v : ℤ) (σ : Store) (s : State) → InForce globals sc a → IsNumber v → Tied globals spot sc kept shapes words σ s → Tied globals spot sc kept shapes words (with_word σ (spot a) j v) (with_cell s (spot a) j (Some v))
  tied_word sc a j v σ s i f tied =
      tied_row sc (spot a) (slice_set (array_at σ (spot a)) j v) (slice_set (row_of s (spot a)) j (Some v)) σ s (ap (λ r. slice_set r j (Some v)) (tied.own a i) ∙ sym (map_set Some (array_at σ (spot a)) j v)) (set_length (array_at σ (spot a)) j v) (set_words (array_at σ (spot a)) j v f (tied.ranges.words (spot a))) tied
    where
      set_length : (xs : List ℤ) (j : ℕ) (v : ℤ) → length (slice_set xs j v) ≡ length xs
      set_length [] j v = refl
      set_length (x ∷ xs) zero v = refl
      set_length (x ∷ xs) (suc j) v = ap suc (set_length xs j v)

-- a load and a store of a word that is there
pub loads : (setting : Setting) (t a j size : ℕ) (o : Operand) (σ : Store) (s : State) → size < 2 ^ 29 → j < size → length (row_of s (setting.spot a)) ≡ size → SameRow σ.arrays s.arrays (setting.spot a) → held s o ≡ Some (product_of (pos 4) (pos j)) → effect setting s (Load t a o false) s ≡ Some (with_value s t (Some (word_at σ (setting.spot a) j)))
loads setting t a j size o σ s small l e row at =
    let n : length (array_at σ (setting.spot a)) ≡ size = sym (length-map (array_at σ (setting.spot a)) Some) ∙ ap length (sym row) ∙ e in
    ap (λ z. loaded s t (row_of s (setting.spot a)) (cell_in (length (row_of s (setting.spot a))) z) false) at
    ∙ ap (λ z. loaded s t (row_of s (setting.spot a)) (cell_in z (Some (product_of (pos 4) (pos j)))) false) e
    ∙ ap (λ z. loaded s t (row_of s (setting.spot a)) z false) (cell_of size j l small)
    ∙ ap (λ z. Some (with_value s t (slice_index_or z j None))) row
    ∙ ap (λ z. Some (with_value s t z)) (known_word (array_at σ (setting.spot a)) j (omega arith))

pub stores : (setting : Setting) (a j size : ℕ) (o x : Operand) (v : ℤ) (s : State) → size < 2 ^ 29 → j < size → length (row_of s (setting.spot a)) ≡ size → held s o ≡ Some (product_of (pos 4) (pos j)) → held s x ≡ Some v → effect setting s (Keep a o x) s ≡ Some (with_cell s (setting.spot a) j (Some v))
stores setting a j size o x v s small l e at is =
    ap (λ z. stored s (setting.spot a) (cell_in (length (row_of s (setting.spot a))) z) (held s x)) at
    ∙ ap (λ z. stored s (setting.spot a) (cell_in z (Some (product_of (pos 4) (pos j)))) (held s x)) e
    ∙ ap (λ z. stored s (setting.spot a) z (held s x)) (cell_of size j l small)
    ∙ ap (λ z. stored s (setting.spot a) (Some j) z) is

-- the size of an array, and the place of an element of it, by what is held

-- how many words an array has stands in its operand: own: each other one has the words that are told
pub record Sized (words : Sees) (spot : ℕ → ℕ) (shapes : List ℕ) : Type 0 where
  pub global_words : (a n : ℕ) → seen_at words a ≡ GlobalArray n → slice_index_or shapes (spot a) 0 ≡ n
  pub own_words : (a n : ℕ) → seen_at words a ≡ OwnArray n → slice_index_or shapes (spot a) 0 ≡ n

pub held_size : (words : Sees) (spot : ℕ → ℕ) (shapes : List ℕ) (s : State) (a : ℕ) → Sized words spot shapes → HoldsHanded words spot shapes s → held s (size_at words a) ≡ Some (pos (slice_index_or shapes (spot a) 0))
held_size words spot shapes s a sized handed = by (seen_at words a) refl
  where
    by : (x : Seen) → seen_at words a ≡ x → held s (size_of x) ≡ Some (pos (slice_index_or shapes (spot a) 0))
    by (GlobalArray n) e = ap (λ k. Some (pos k)) (sym (sized.global_words a n e))
    by (OwnArray n) e = ap (λ k. Some (pos k)) (sym (sized.own_words a n e))
    by (Handed b c) e = (handed a b c e).1

pub size_below : (words : Sees) (sc : Scope) (lo a : ℕ) → Above words sc lo → IsBelow lo (size_at words a)
size_below words sc lo a above = by (seen_at words a) refl
  where
    by : (x : Seen) → seen_at words a ≡ x → IsBelow lo (size_of x)
    by (GlobalArray n) e = tt
    by (OwnArray n) e = tt
    by (Handed b c) e = (above.handed a b c e).3

pub places : (setting : Setting) (words : Sees) (shapes : List ℕ) (t a : ℕ) (o : Operand) (v : ℤ) (s : State) → HoldsHanded words setting.spot shapes s → held s o ≡ Some v → effect setting s (place_op words t a o) s ≡ Some (with_value s t (Some (product_of (pos 4) v)))
places setting words shapes t a o v s handed e = by (seen_at words a) refl
  where
    by : (x : Seen) → seen_at words a ≡ x → effect setting s (place_by x t a o) s ≡ Some (with_value s t (Some (product_of (pos 4) v)))
    by (GlobalArray n) q = ap (λ r. Some (with_value s t (place_of r))) e
    by (OwnArray n) q = ap (λ r. Some (with_value s t (place_of r))) e
    by (Handed b c) q = ap (λ r. Some (with_value s t (place_from r (held s o)))) (handed a b c q).0 ∙ ap (λ r. Some (with_value s t (place_of r))) e
