-- Lists that are gone over: the item in front, and the item that comes next.
use Rattle.std.proofs.Common.{◌≡◌, ℕ, zero, suc, ◌+◌, ◌-◌, ◌<◌, ◌≤◌, ◌==◌, ◌&&◌, ◌||◌, ◌⊎◌, inl, inr, Bool, true, false, List, [], ◌∷◌, ◌++◌, length, take, drop, get_or, Some, None, refl, sym, ap, ◌∙◌, arith}
use Rattle.std.proofs.lemmas.Bool.Decides.{eqb_tells}
use Rattle.std.proofs.lemmas.List.{append_assoc, take_all, take_more}
use Rattle.vx_base.specs.declared.arithmetic.Code.{Code}
use Rattle.vx_flow.specs.declared.graph.Operand.{Operand}
use Rattle.vx_claims.specs.declared.intervals.Interval.{Interval}
use Rattle.vx_claims.specs.declared.residues.Residue.{Residue}
use Rattle.vx_claims.specs.declared.fact.Fact.{Fact}
use Rattle.vx_claims.specs.declared.fact.Fact.TheVariants.{Between, Congruent, Equals, Never}
use Rattle.vx_claims.specs.declared.access.Access.{Access}
use Rattle.vx_claims.specs.declared.access.Access.TheVariants.{Placed}
use Rattle.vx_claims.specs.Facts.{is_claimed, has_equals, range, residue, finer_if, meet, meet_if, decided_by, decided_if, first_of, found, found_if, same_code, same_operand}
use Rattle.vx_claims.specs.Residues.{finer}
use Rattle.vx_claims.specs.Accesses.{first_or, is_told, place_in, same_access, value_if}

pub front : {X : Type 0} (xs : List X) (d x : X) → 1 ≤ length xs → get_or xs 0 d ≡ x → xs ≡ x ∷ take (length xs - 1) (drop 1 xs)
front [] d x n e = absurd (omega (arith, n))
front (y ∷ ys) d x n e = ap (λ z. z ∷ ys) e ∙ ap (λ zs. x ∷ zs) (sym (take_all (length (y ∷ ys) - 1) ys (omega arith)))

pub put_front : {X : Type 0} (said old mid new : List X) (d : X) → 1 ≤ length said → mid ≡ take (length said - 1) (drop 1 said) ++ old → new ≡ get_or said 0 d ∷ mid → new ≡ said ++ old
put_front [] old mid new d n m e = absurd (omega (arith, n))
put_front (x ∷ xs) old mid new d n m e = e ∙ ap (λ l. x ∷ l) (m ∙ ap (λ l. l ++ old) (take_all (length (x ∷ xs) - 1) xs (omega arith)))

pub pushed : {X : Type 0} (start list new all : List X) (i : ℕ) (d : X) → list ≡ start ++ take i all → new ≡ list ++ get_or all i d ∷ [] → i < length all → new ≡ start ++ take (i + 1) all
pushed start list new all i d e p n =
    p ∙ ap (λ l. l ++ get_or all i d ∷ []) e ∙ append_assoc start (take i all) (get_or all i d ∷ []) ∙ ap (λ l. start ++ l) (sym (take_more all i d n))

either_true : (s t : Bool) → t ≡ true → (s || t) ≡ true
either_true true t h = refl
either_true false t h = h

-- ---- where a value lies and what its low bits are

-- both say the same of the value
pub record SaysOf (fs rest : List Fact) (v : ℕ) : Type 0 where
  pub within : range fs v ≡ range rest v
  pub residue : residue fs v ≡ residue rest v

pub passed_equals : (fs rest : List Fact) (v u : ℕ) (code : Code) (a b : Operand) → fs ≡ Equals u code a b ∷ rest → SaysOf fs rest v
passed_equals fs rest v u code a b e = record { within = ap (λ l. range l v) e; residue = ap (λ l. residue l v) e }

pub passed_never : (fs rest : List Fact) (v : ℕ) → fs ≡ Never ∷ rest → SaysOf fs rest v
passed_never fs rest v e = record { within = ap (λ l. range l v) e; residue = ap (λ l. residue l v) e }

pub not_equal : (u v : ℕ) → (u ≡ v → ⊥) → (u == v) ≡ false
not_equal u v n = by (eqb_tells u v)
  where
    by : (((u == v) ≡ true) × (u ≡ v)) ⊎ (((u == v) ≡ false) × (u ≡ v → ⊥)) → (u == v) ≡ false
    by (inl h) = absurd (n h.1)
    by (inr h) = h.0

are_equal : (u v : ℕ) → u ≡ v → (u == v) ≡ true
are_equal u v e = by (eqb_tells u v)
  where
    by : (((u == v) ≡ true) × (u ≡ v)) ⊎ (((u == v) ≡ false) × (u ≡ v → ⊥)) → (u == v) ≡ true
    by (inl h) = h.0
    by (inr h) = absurd (h.1 e)

pub passed_between : (fs rest : List Fact) (v u : ℕ) (i : Interval) → fs ≡ Between u i ∷ rest → (u ≡ v → ⊥) → SaysOf fs rest v
passed_between fs rest v u i e n = record { within = ap (λ l. range l v) e ∙ ap (λ t. meet_if t i (range rest v)) (not_equal u v n); residue = ap (λ l. residue l v) e }

pub passed_congruent : (fs rest : List Fact) (v u : ℕ) (c : Residue) → fs ≡ Congruent u c ∷ rest → (u ≡ v → ⊥) → SaysOf fs rest v
passed_congruent fs rest v u c e n = record { within = ap (λ l. range l v) e; residue = ap (λ l. residue l v) e ∙ ap (λ t. finer_if t c (residue rest v)) (not_equal u v n) }

pub range_met : (fs rest : List Fact) (v u : ℕ) (i : Interval) → fs ≡ Between u i ∷ rest → u ≡ v → range fs v ≡ meet i (range rest v)
range_met fs rest v u i e n = ap (λ l. range l v) e ∙ ap (λ t. meet_if t i (range rest v)) (are_equal u v n)

pub residue_refined : (fs rest : List Fact) (v u : ℕ) (c : Residue) → fs ≡ Congruent u c ∷ rest → u ≡ v → residue fs v ≡ finer c (residue rest v)
residue_refined fs rest v u c e n = ap (λ l. residue l v) e ∙ ap (λ t. finer_if t c (residue rest v)) (are_equal u v n)

pub fewer : {X : Type 0} (xs rest : List X) (x : X) (n : ℕ) → xs ≡ x ∷ rest → length xs ≤ n → length rest ≤ n
fewer xs rest x n e h = let k = ap length e in omega (arith, k, h)

-- ---- how a test comes out

pub decided_past : (all fs rest : List Fact) (p u : ℕ) (code : Code) (a b : Operand) → fs ≡ Equals u code a b ∷ rest → decided_if (u == p) all code a b ≡ None → decided_by all p fs ≡ decided_by all p rest
decided_past all fs rest p u code a b e n = ap (λ l. decided_by all p l) e ∙ ap (λ o. first_of o (decided_by all p rest)) n

-- ---- the place of an element

pub place_behind : (xs rest : List Access) (v b i : ℕ) (j k : Operand) (place : ℕ) → xs ≡ Placed v b j ∷ rest → place_in rest i k ≡ Some place → place_in xs i k ≡ Some place
place_behind xs rest v b i j k place e p = ap (λ l. place_in l i k) e ∙ ap (λ o. first_or o (value_if ((b == i) && same_operand j k) v)) p

-- ---- a value that holds what an operation gives

pub found_here : (fs rest : List Fact) (u : ℕ) (code other : Code) (a b c d : Operand) → fs ≡ Equals u other c d ∷ rest → same_code other code ≡ true → (same_operand c a && same_operand d b) ≡ true → found fs code a b ≡ Some u
found_here fs rest u code other a b c d e p q =
    ap (λ l. found l code a b) e ∙ ap (λ t. found_if (t && (same_operand c a && same_operand d b)) u (found rest code a b)) p ∙ ap (λ t. found_if t u (found rest code a b)) q

pub place_here : (xs rest : List Access) (v b i : ℕ) (j k : Operand) (t : Bool) → xs ≡ Placed v b j ∷ rest → place_in rest i k ≡ None → t ≡ ((b == i) && same_operand j k) → value_if t v ≡ place_in xs i k
place_here xs rest v b i j k t e p h =
    ap (λ x. value_if x v) h ∙ sym (ap (λ l. place_in l i k) e ∙ ap (λ o. first_or o (value_if ((b == i) && same_operand j k) v)) p)

pub same_test : (b i : ℕ) (s t : Bool) → b ≡ i → t ≡ s → t ≡ ((b == i) && s)
same_test b i s t e h = h ∙ ap (λ x. x && s) (sym (are_equal b i e))

pub other_test : (b i : ℕ) (s t : Bool) → (b ≡ i → ⊥) → t ≡ (b == i) → t ≡ ((b == i) && s)
other_test b i s t n h = h ∙ not_equal b i n ∙ ap (λ x. x && s) (sym (not_equal b i n))

-- ---- whether a value holds what an operation gives

pub equals_at : (fs : List Fact) (i : ℕ) (d : Fact) (v : ℕ) (code : Code) (a b : Operand) → i < length fs → is_claimed v code a b (get_or fs i d) ≡ true → has_equals fs v code a b ≡ true
equals_at [] i d v code a b n h = absurd (omega (arith, n))
equals_at (f ∷ fs) zero d v code a b n h = ap (λ t. t || has_equals fs v code a b) h
equals_at (f ∷ fs) (suc i) d v code a b n h = either_true (is_claimed v code a b f) (has_equals fs v code a b) (equals_at fs i d v code a b (omega (arith, n)) h)

pub equals_behind : (k : ℕ) (fs : List Fact) (v : ℕ) (code : Code) (a b : Operand) → has_equals (drop k fs) v code a b ≡ true → has_equals fs v code a b ≡ true
equals_behind zero fs v code a b h = h
equals_behind (suc k) [] v code a b h = h
equals_behind (suc k) (f ∷ fs) v code a b h = either_true (is_claimed v code a b f) (has_equals fs v code a b) (equals_behind k fs v code a b h)

pub not_all : (r s t u : Bool) → u ≡ t → u ≡ false → u ≡ (r && (s && t))
not_all false s t u e h = h
not_all true false t u e h = h
not_all true true t u e h = e

-- ---- whether something is told

pub told_at : (xs : List Access) (i : ℕ) (d x : Access) → i < length xs → same_access x (get_or xs i d) ≡ true → is_told xs x ≡ true
told_at [] i d x n h = absurd (omega (arith, n))
told_at (y ∷ ys) zero d x n h = ap (λ t. t || is_told ys x) h
told_at (y ∷ ys) (suc i) d x n h = either_true (same_access x y) (is_told ys x) (told_at ys i d x (omega (arith, n)) h)

pub told_behind : (k : ℕ) (xs : List Access) (x : Access) → is_told (drop k xs) x ≡ true → is_told xs x ≡ true
told_behind zero xs x h = h
told_behind (suc k) [] x h = h
told_behind (suc k) (y ∷ ys) x h = either_true (same_access x y) (is_told ys x) (told_behind k ys x h)
