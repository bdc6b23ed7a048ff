-- A derivation that goes as far as some token is a front of each other one that goes further, and is no deeper.
use Rattle.std.proofs.Common.{◌≡◌, ◌≤◌, ◌+◌, ℕ, zero, suc, max, Bool, true, false, if◌then◌else◌, List, refl, sym, ◌∙◌, ap, subst, arith}
use Rattle.vx_ast.specs.declared.token.Token.{Token}
use Rattle.vx_ast.specs.Tree.{Shape, One, Row}
use Rattle.vx_ast.specs.Phrases.{Phrase, Block, Statement, ChoiceRest, Level, LevelRest, Primary, NameRest, Part, Derivation, Leaf, Node, NoMore, Then, Is, token, phrase, Stuck, unfit, behind, no_phrase, inside, after, Begins, reached, reached_behind, reached_inside, reached_after}
use Rattle.vx_ast.specs.Derivations.{is_begun, are_begun, itself, depth_behind, row_depth, operator_depth, choice_depth}
use Rattle.vx_parse.proofs.Ways.{same_parts, exchanged, one, never}

pub data Within : (k : Shape) → Derivation k → Derivation k → Type 0 where
  none : {d : Derivation Row} → Within Row NoMore d
  leaf : (t : Token) → Within One (Leaf t) (Leaf t)
  node : (p : Phrase) {e d : Derivation Row} → Within Row e d → Within One (Node p e) (Node p d)
  both : {x y : Derivation One} {e d : Derivation Row} → Within One x y → Within Row e d → Within Row (Then x e) (Then y d)

itself_within : {k : Shape} (d : Derivation k) → Within k d d
itself_within (Leaf t) = leaf t
itself_within (Node p d) = node p (itself_within d)
itself_within NoMore = none
itself_within (Then x d) = both (itself_within x) (itself_within d)

same_within : {e d : Derivation Row} → d ≡ e → Within Row e d
same_within {e} h = subst (λ (z : Derivation Row). Within Row e z) (sym h) (itself_within e)

begun_so : {a b : List Part} {m n : List Token} {d : Derivation Row} {r : List Token} → b ≡ a → n ≡ m → Begins b n d r → Begins a m d r
begun_so {a} {n} {d} {r} p q i = subst (λ l. Begins a l d r) q (subst (λ l. Begins l n d r) p i)

pub of_read : {parts : List Part} {ts r s : List Token} {d e : Derivation Row} → Is parts ts d r → Begins parts ts e s → Within Row e d
of_read i reached = none
of_read (token {t} f a) (reached_behind g b) = both (leaf t) (of_read a b)
of_read (token f a) (reached_inside p inner k b) = absurd f
of_read (token f a) (reached_after p inner k j b) = absurd f
of_read (phrase p inner k i a) (reached_behind g b) = absurd g
of_read (phrase p inner k i a) (reached_inside q other l b) = both (node p (of_read i (begun_so (same_parts k l) refl b))) none
of_read (phrase p inner k i a) (reached_after q other l j b) =
    let x = one i (exchanged (same_parts k l) refl j) in both (node p (same_within x.0)) (of_read a (begun_so refl (sym x.1) b))

pub of_stuck : {parts : List Part} {ts r s : List Token} {d e : Derivation Row} → Stuck parts ts d r → Begins parts ts e s → Within Row e d
of_stuck i reached = none
of_stuck (unfit n u) (reached_behind f b) = absurd (u f)
of_stuck (unfit n u) (reached_inside p inner k b) = absurd (n p refl)
of_stuck (unfit n u) (reached_after p inner k j b) = absurd (n p refl)
of_stuck (behind {t} f s) (reached_behind g b) = both (leaf t) (of_stuck s b)
of_stuck (behind f s) (reached_inside p inner k b) = absurd f
of_stuck (behind f s) (reached_after p inner k j b) = absurd f
of_stuck (no_phrase p n) (reached_behind f b) = absurd f
of_stuck (no_phrase p n) (reached_inside q inner k b) = let h = sym n ∙ k in cc
of_stuck (no_phrase p n) (reached_after q inner k j b) = let h = sym n ∙ k in cc
of_stuck (inside p inner k s) (reached_behind f b) = absurd f
of_stuck (inside p inner k s) (reached_inside q other l b) = both (node p (of_stuck s (begun_so (same_parts k l) refl b))) none
of_stuck (inside p inner k s) (reached_after q other l j b) = absurd (never s (exchanged (same_parts k l) refl j))
of_stuck (after p inner k i s) (reached_behind f b) = absurd f
of_stuck (after p inner k i s) (reached_inside q other l b) = both (node p (of_read i (begun_so (same_parts k l) refl b))) none
of_stuck (after p inner k i s) (reached_after q other l j b) =
    let x = one i (exchanged (same_parts k l) refl j) in both (node p (same_within x.0)) (of_stuck s (begun_so refl (sym x.1) b))

-- a list of tokens leaves the grammar in one way
pub one_stuck : {parts : List Part} {ts r s : List Token} {d e : Derivation Row} → Stuck parts ts d r → Stuck parts ts e s → r ≡ s
one_stuck (unfit n u) (unfit m v) = refl
one_stuck (unfit n u) (behind f s) = absurd (u f)
one_stuck (unfit n u) (no_phrase p m) = absurd (n p refl)
one_stuck (unfit n u) (inside p inner k s) = absurd (n p refl)
one_stuck (unfit n u) (after p inner k i s) = absurd (n p refl)
one_stuck (behind f s) (unfit n u) = absurd (u f)
one_stuck (behind f s) (behind g b) = one_stuck s b
one_stuck (behind f s) (no_phrase p m) = absurd f
one_stuck (behind f s) (inside p inner k b) = absurd f
one_stuck (behind f s) (after p inner k i b) = absurd f
one_stuck (no_phrase p n) (unfit m u) = absurd (m p refl)
one_stuck (no_phrase p n) (behind f s) = absurd f
one_stuck (no_phrase p n) (no_phrase q m) = refl
one_stuck (no_phrase p n) (inside q inner k s) = let h = sym n ∙ k in cc
one_stuck (no_phrase p n) (after q inner k i s) = let h = sym n ∙ k in cc
one_stuck (inside p inner k s) (unfit n u) = absurd (n p refl)
one_stuck (inside p inner k s) (behind f b) = absurd f
one_stuck (inside p inner k s) (no_phrase q n) = let h = sym n ∙ k in cc
one_stuck (inside p inner k s) (inside q other l b) = one_stuck s (stuck_so (same_parts k l) refl b)
  where
    stuck_so : {a b : List Part} {m n : List Token} {d : Derivation Row} {r : List Token} → b ≡ a → n ≡ m → Stuck b n d r → Stuck a m d r
    stuck_so {a} {n} {d} {r} p q i = subst (λ l. Stuck a l d r) q (subst (λ l. Stuck l n d r) p i)
one_stuck (inside p inner k s) (after q other l j b) = absurd (never s (exchanged (same_parts k l) refl j))
one_stuck (after p inner k i s) (unfit n u) = absurd (n p refl)
one_stuck (after p inner k i s) (behind f b) = absurd f
one_stuck (after p inner k i s) (no_phrase q n) = let h = sym n ∙ k in cc
one_stuck (after p inner k i s) (inside q other l b) = absurd (never b (exchanged (same_parts l k) refl i))
one_stuck (after p inner k i s) (after q other l j b) =
    let x = one i (exchanged (same_parts k l) refl j) in one_stuck s (stuck_from (sym x.1) b)
  where
    stuck_from : {a : List Part} {m n : List Token} {d : Derivation Row} {r : List Token} → n ≡ m → Stuck a n d r → Stuck a m d r
    stuck_from {a} {d} {r} q i = subst (λ l. Stuck a l d r) q i

-- depths of both shapes

abbrev pub depth_at : {k : Shape} → ℕ → Derivation k → ℕ
depth_at left (Leaf t) = depth_behind left (Leaf t)
depth_at left (Node p d) = depth_behind left (Node p d)
depth_at left NoMore = row_depth left NoMore
depth_at left (Then x d) = row_depth left (Then x d)

one_at : (left : ℕ) (x : Derivation One) → depth_at left x ≡ depth_behind left x
one_at left (Leaf t) = refl
one_at left (Node p d) = refl

pub row_at : (left : ℕ) (d : Derivation Row) → depth_at left d ≡ row_depth left d
row_at left NoMore = refl
row_at left (Then x d) = refl

leaf_is : (left : ℕ) (t : Token) → depth_at left (Leaf t) ≡ left
unfolding depth_behind
leaf_is left t = refl

none_is : (left : ℕ) → depth_at left NoMore ≡ left
unfolding row_depth
none_is left = refl

then_is : (left : ℕ) (x : Derivation One) (d : Derivation Row) → depth_at left (Then x d) ≡ depth_at (depth_at left x) d
unfolding row_depth
then_is left x d = sym (row_at (depth_behind left x) d) ∙ ap (λ (n : ℕ). depth_at n d) (sym (one_at left x))

abbrev is_plain : Phrase → Bool
is_plain (LevelRest n) = false
is_plain ChoiceRest = false
is_plain p = true

plain_is : (p : Phrase) → is_plain p ≡ true → (left : ℕ) (d : Derivation Row) → depth_at left (Node p d) ≡ max left (itself p d + depth_at 0 d)
unfolding depth_behind
plain_is (LevelRest n) h left d = absurd (cc)
plain_is ChoiceRest h left d = absurd (cc)
plain_is p h left d = ap (λ (n : ℕ). max left (itself p d + n)) (sym (row_at 0 d))

mark_alone : (n left : ℕ) (t : Token) → depth_at left (Node (LevelRest n) (Then (Leaf t) NoMore)) ≡ suc left
unfolding depth_behind operator_depth
mark_alone n left t = refl

mark_more : (n left : ℕ) (t : Token) (right : Derivation One) (d : Derivation Row) → depth_at left (Node (LevelRest n) (Then (Leaf t) (Then right d))) ≡ depth_at (suc (max left (depth_at 0 right))) d
unfolding depth_behind operator_depth
mark_more n left t right d = sym (row_at (suc (max left (depth_behind 0 right))) d) ∙ ap (λ (m : ℕ). depth_at (suc (max left m)) d) (sym (one_at 0 right))

no_mark : (n left : ℕ) (p : Phrase) (c d : Derivation Row) → depth_at left (Node (LevelRest n) (Then (Node p c) d)) ≡ left
unfolding depth_behind operator_depth
no_mark n left p c d = refl

no_operator : (n left : ℕ) → depth_at left (Node (LevelRest n) NoMore) ≡ left
unfolding depth_behind operator_depth
no_operator n left = refl

question : (left : ℕ) (t : Token) (d : Derivation Row) → depth_at left (Node ChoiceRest (Then (Leaf t) d)) ≡ suc (max left (depth_at 0 d))
unfolding depth_behind choice_depth
question left t d = ap (λ (n : ℕ). suc (max left n)) (sym (row_at 0 d))

no_question : (left : ℕ) (p : Phrase) (c d : Derivation Row) → depth_at left (Node ChoiceRest (Then (Node p c) d)) ≡ left
unfolding depth_behind choice_depth
no_question left p c d = refl

no_choice : (left : ℕ) → depth_at left (Node ChoiceRest NoMore) ≡ left
unfolding depth_behind choice_depth
no_choice left = refl

-- what stands behind makes nothing less deep

grows : {k : Shape} (d : Derivation k) (left : ℕ) → left ≤ depth_at left d
grows (Leaf t) left = let e = leaf_is left t in omega arith
grows NoMore left = let e = none_is left in omega arith
grows (Then x d) left = let e = then_is left x d in let f = grows x left in let g = grows d (depth_at left x) in omega arith
grows (Node (LevelRest n) NoMore) left = let e = no_operator n left in omega arith
grows (Node (LevelRest n) (Then (Leaf t) NoMore)) left = let e = mark_alone n left t in omega arith
grows (Node (LevelRest n) (Then (Leaf t) (Then right d))) left =
    let e = mark_more n left t right d in let f = grows d (suc (max left (depth_at 0 right))) in omega arith
grows (Node (LevelRest n) (Then (Node p c) d)) left = let e = no_mark n left p c d in omega arith
grows (Node ChoiceRest NoMore) left = let e = no_choice left in omega arith
grows (Node ChoiceRest (Then (Leaf t) d)) left = let e = question left t d in omega arith
grows (Node ChoiceRest (Then (Node p c) d)) left = let e = no_question left p c d in omega arith
grows (Node p d) left = let e = plain_is p refl left d in omega arith

-- a construct that is there stays there

abbrev begun_at : {k : Shape} → Derivation k → Bool
begun_at (Leaf t) = is_begun (Leaf t)
begun_at (Node p d) = is_begun (Node p d)
begun_at NoMore = are_begun NoMore
begun_at (Then x d) = are_begun (Then x d)

begun_one : (x : Derivation One) → begun_at x ≡ is_begun x
begun_one (Leaf t) = refl
begun_one (Node p d) = refl

begun_row : (d : Derivation Row) → begun_at d ≡ are_begun d
begun_row NoMore = refl
begun_row (Then x d) = refl

begun_leaf : (t : Token) → begun_at (Leaf t) ≡ true
unfolding is_begun
begun_leaf t = refl

begun_none : begun_at NoMore ≡ false
unfolding are_begun
begun_none = refl

begun_node : (p : Phrase) (d : Derivation Row) → begun_at (Node p d) ≡ begun_at d
unfolding is_begun
begun_node p d = sym (begun_row d)

begun_then : (x : Derivation One) (d : Derivation Row) → begun_at (Then x d) ≡ (if begun_at x then true else begun_at d)
unfolding are_begun
begun_then x d = ap (λ (b : Bool). if b then true else are_begun d) (sym (begun_one x)) ∙ ap (λ (b : Bool). if begun_at x then true else b) (sym (begun_row d))

either_grows : (a b c d : Bool) → (a ≡ true → c ≡ true) → (b ≡ true → d ≡ true) → (if a then true else b) ≡ true → (if c then true else d) ≡ true
either_grows true b true d f g h = refl
either_grows true b false d f g h = let e = f refl in cc
either_grows false b true d f g h = refl
either_grows false b false d f g h = g h

begun_grows : {k : Shape} {e d : Derivation k} → Within k e d → begun_at e ≡ true → begun_at d ≡ true
begun_grows none h = let e = begun_none in cc
begun_grows (leaf t) h = h
begun_grows (node p {e} {d} w) h = begun_node p d ∙ begun_grows w (sym (begun_node p e) ∙ h)
begun_grows (both {x} {y} {e} {d} w v) h =
    begun_then y d ∙ either_grows (begun_at x) (begun_at e) (begun_at y) (begun_at d) (begun_grows w) (begun_grows v) (sym (begun_then x e) ∙ h)

-- a statement whose first part is a phrase
abbrev begun_by : Phrase → Bool → ℕ
begun_by Block b = 0
begun_by p b = if b then 1 else 0

statement_is : (q : Phrase) (c d : Derivation Row) → itself Statement (Then (Node q c) d) ≡ begun_by q (begun_at (Then (Node q c) d))
statement_is Block c d = refl
statement_is q c d = refl

by_more : (q : Phrase) (a b : Bool) → (a ≡ true → b ≡ true) → begun_by q a ≤ begun_by q b
by_more Block a b f = omega arith
by_more q true true f = omega arith
by_more q true false f = let e = f refl in cc
by_more q false true f = omega arith
by_more q false false f = omega arith

statement_none : itself Statement NoMore ≡ 0
unfolding are_begun
statement_none = refl

statement_leaf : (t : Token) (d : Derivation Row) → itself Statement (Then (Leaf t) d) ≡ 1
unfolding are_begun is_begun
statement_leaf t d = refl

statement_grows : {e d : Derivation Row} → Within Row e d → itself Statement e ≤ itself Statement d
statement_grows none = let e = statement_none in omega arith
statement_grows (both {e} {d} (leaf t) v) = let f = statement_leaf t e in let g = statement_leaf t d in omega arith
statement_grows (both {e} {d} (node q {e = a} {d = b} w) v) =
    let f = statement_is q a e in let g = statement_is q b d in
    let h = by_more q (begun_at (Then (Node q a) e)) (begun_at (Then (Node q b) d)) (begun_grows (both (node q w) v)) in omega arith

itself_grows : (p : Phrase) {e d : Derivation Row} → Within Row e d → itself p e ≤ itself p d
itself_grows Statement w = statement_grows w
itself_grows Block none = omega arith
itself_grows Block (both (leaf t) v) = omega arith
itself_grows Block (both (node q w) v) = omega arith
itself_grows NameRest none = omega arith
itself_grows NameRest (both (leaf t) v) = omega arith
itself_grows NameRest (both (node q w) v) = omega arith
itself_grows Primary none = omega arith
itself_grows Primary (both (leaf t) v) = omega arith
itself_grows Primary (both (node q w) v) = omega arith
itself_grows (Level zero) none = omega arith
itself_grows (Level zero) (both (leaf t) v) = omega arith
itself_grows (Level zero) (both (node q w) v) = omega arith
itself_grows (Level (suc n)) w = omega arith
itself_grows p w = omega arith

pub deeper : {k : Shape} {e d : Derivation k} → Within k e d → (m n : ℕ) → m ≤ n → depth_at m e ≤ depth_at n d
deeper (none {d}) m n le = let a = none_is m in let b = grows d n in omega arith
deeper (leaf t) m n le = let a = leaf_is m t in let b = leaf_is n t in omega arith
deeper (both {x} {y} {e} {d} w v) m n le =
    let a = then_is m x e in let b = then_is n y d in
    let h = deeper w m n le in let g = deeper v (depth_at m x) (depth_at n y) h in omega arith
deeper (node (LevelRest l) (none {d})) m n le = let a = no_operator l m in let b = grows (Node (LevelRest l) d) n in omega arith
deeper (node (LevelRest l) (both (leaf t) (none {d}))) m n le = by d
  where
    by : (d : Derivation Row) → depth_at m (Node (LevelRest l) (Then (Leaf t) NoMore)) ≤ depth_at n (Node (LevelRest l) (Then (Leaf t) d))
    by NoMore = let a = mark_alone l m t in let b = mark_alone l n t in omega arith
    by (Then right c) = let a = mark_alone l m t in let b = mark_more l n t right c in let f = grows c (suc (max n (depth_at 0 right))) in omega arith
deeper (node (LevelRest l) (both (leaf t) (both {x} {y} {e} {d} w v))) m n le =
    let a = mark_more l m t x e in let b = mark_more l n t y d in
    let h = deeper w 0 0 (omega arith) in
    let g = deeper v (suc (max m (depth_at 0 x))) (suc (max n (depth_at 0 y))) (omega arith) in omega arith
deeper (node (LevelRest l) (both {e} {d} (node q {e = a1} {d = b1} w) v)) m n le = let a = no_mark l m q a1 e in let b = no_mark l n q b1 d in omega arith
deeper (node ChoiceRest (none {d})) m n le = let a = no_choice m in let b = grows (Node ChoiceRest d) n in omega arith
deeper (node ChoiceRest (both {e} {d} (leaf t) v)) m n le = let a = question m t e in let b = question n t d in let h = deeper v 0 0 (omega arith) in omega arith
deeper (node ChoiceRest (both {e} {d} (node q {e = a1} {d = b1} w) v)) m n le = let a = no_question m q a1 e in let b = no_question n q b1 d in omega arith
deeper (node p {e} {d} w) m n le =
    let a = plain_is p refl m e in let b = plain_is p refl n d in
    let g = itself_grows p w in let h = deeper w 0 0 (omega arith) in omega arith
