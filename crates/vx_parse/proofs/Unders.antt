-- What begins is no deeper than what is.
use Rattle.std.proofs.Common.{◌≡◌, ◌≤◌, ℕ, zero, suc, max, Bool, true, false, if◌then◌else◌, List, refl, sym, ap, ◌∙◌, subst, arith}
use Rattle.vx_ast.specs.declared.token.Token.{Token}
use Rattle.vx_ast.specs.Tree.{Shape, One, Row}
use Rattle.vx_ast.specs.Phrases as phrases
use Rattle.vx_ast.specs.Phrases.{Phrase, Block, ChoiceRest, Level, LevelRest, Primary, NameRest, Part, A, Fits, parts_of, Derivation, Leaf, Node, NoMore, Then, Is, nothing, token, phrase, Stuck, unfit, behind, no_phrase, inside, after, Begins, reached, reached_behind, reached_inside, reached_after}
use Rattle.vx_ast.specs.Derivations.{is_begun, are_begun, itself, depth_behind, row_depth, operator_depth, choice_depth}
use Rattle.vx_parse.proofs.Ways.{same_parts, exchanged, one, never}
use Rattle.vx_parse.proofs.Depths.{leaf_depth, none_depth, then_depth, plain_depth}

-- a derivation is as far as it goes this other one
pub data Under : (s : Shape) → Derivation s → Derivation s → Type 0 where
  leaf : (t : Token) → Under One (Leaf t) (Leaf t)
  node : (p : Phrase) {d e : Derivation Row} → Under Row d e → Under One (Node p d) (Node p e)
  none : (e : Derivation Row) → Under Row NoMore e
  both : {x y : Derivation One} {d e : Derivation Row} → Under One x y → Under Row d e → Under Row (Then x d) (Then y e)

mutual
  same_one : (x : Derivation One) → Under One x x
  same_one (Leaf t) = leaf t
  same_one (Node p d) = node p (same_row d)

  same_row : (d : Derivation Row) → Under Row d d
  same_row NoMore = none NoMore
  same_row (Then x d) = both (same_one x) (same_row d)

whole_then : {p : Phrase} {d d2 e f : Derivation Row} → d ≡ d2 → Under Row e f → Under Row (Then (Node p d) e) (Then (Node p d2) f)
whole_then {p} {d} {e} {f} q u = subst (λ (z : Derivation Row). Under Row (Then (Node p d) e) (Then (Node p z) f)) q (both (same_one (Node p d)) u)

pub begins_under : {ps : List Part} {ts r s : List Token} {d e : Derivation Row} → Begins ps ts d r → Is ps ts e s → Under Row d e
begins_under {e} reached i = none e
begins_under (reached_behind {t} f b) (token g i) = both (leaf t) (begins_under b i)
begins_under (reached_behind f b) (phrase p inner k i a) = absurd f
begins_under (reached_inside p inner k b) (token g i) = absurd g
begins_under (reached_inside p inner k b) (phrase q other {e} l i a) = both (node p (begins_under b (exchanged (same_parts k l) refl i))) (none e)
begins_under (reached_after p inner k i b) (token g a) = absurd g
begins_under (reached_after p inner k i b) (phrase q other l j a) = let x = one i (exchanged (same_parts k l) refl j) in whole_then x.0 (begins_under b (exchanged refl (sym x.1) a))

stuck_exchanged : {a b : List Part} {m n : List Token} {d : Derivation Row} {r : List Token} → b ≡ a → n ≡ m → Stuck b n d r → Stuck a m d r
stuck_exchanged {a} {n} {d} {r} p q i = subst (λ l. Stuck a l d r) q (subst (λ l. Stuck l n d r) p i)

pub begins_under_stuck : {ps : List Part} {ts r s : List Token} {d e : Derivation Row} → Begins ps ts d r → Stuck ps ts e s → Under Row d e
begins_under_stuck {e} reached i = none e
begins_under_stuck (reached_behind f b) (unfit n u) = absurd (u f)
begins_under_stuck (reached_behind {t} f b) (behind g s) = both (leaf t) (begins_under_stuck b s)
begins_under_stuck (reached_behind f b) (no_phrase p n) = absurd f
begins_under_stuck (reached_behind f b) (inside p inner k s) = absurd f
begins_under_stuck (reached_behind f b) (after p inner k i s) = absurd f
begins_under_stuck (reached_inside p inner k b) (unfit n u) = absurd (n p refl)
begins_under_stuck (reached_inside p inner k b) (behind g s) = absurd g
begins_under_stuck (reached_inside p inner k b) (no_phrase q n) = let h = sym n ∙ k in absurd (cc)
begins_under_stuck (reached_inside p inner k b) (inside q other l s) = both (node p (begins_under_stuck b (stuck_exchanged (same_parts k l) refl s))) (none NoMore)
begins_under_stuck (reached_inside p inner k b) (after q other {e} l i s) = both (node p (begins_under b (exchanged (same_parts k l) refl i))) (none e)
begins_under_stuck (reached_after p inner k i b) (unfit n u) = absurd (n p refl)
begins_under_stuck (reached_after p inner k i b) (behind g s) = absurd g
begins_under_stuck (reached_after p inner k i b) (no_phrase q n) = let h = sym n ∙ k in absurd (cc)
begins_under_stuck (reached_after p inner k i b) (inside q other l s) = absurd (never (stuck_exchanged (same_parts k l) refl s) i)
begins_under_stuck (reached_after p inner k i b) (after q other l j s) = let x = one i (exchanged (same_parts k l) refl j) in whole_then x.0 (begins_under_stuck b (stuck_exchanged refl (sym x.1) s))

-- a list of tokens is stuck in one way
pub one_stuck : {ps : List Part} {ts r s : List Token} {d e : Derivation Row} → Stuck ps ts d r → Stuck ps ts e s → r ≡ s
one_stuck (unfit n u) (unfit m v) = refl
one_stuck (unfit n u) (behind g s) = absurd (u g)
one_stuck (unfit n u) (no_phrase p m) = refl
one_stuck (unfit n u) (inside p inner k s) = absurd (n p refl)
one_stuck (unfit n u) (after p inner k i s) = absurd (n p refl)
one_stuck (behind f s) (unfit m v) = absurd (v f)
one_stuck (behind f s) (behind g z) = one_stuck s z
one_stuck (behind f s) (no_phrase p m) = absurd f
one_stuck (behind f s) (inside p inner k z) = absurd f
one_stuck (behind f s) (after p inner k i z) = absurd f
one_stuck (no_phrase p n) (unfit m v) = refl
one_stuck (no_phrase p n) (behind g z) = absurd g
one_stuck (no_phrase p n) (no_phrase q m) = refl
one_stuck (no_phrase p n) (inside q inner k z) = let h = sym n ∙ k in absurd (cc)
one_stuck (no_phrase p n) (after q inner k i z) = let h = sym n ∙ k in absurd (cc)
one_stuck (inside p inner k s) (unfit m v) = absurd (m p refl)
one_stuck (inside p inner k s) (behind g z) = absurd g
one_stuck (inside p inner k s) (no_phrase q m) = let h = sym m ∙ k in absurd (cc)
one_stuck (inside p inner k s) (inside q other l z) = one_stuck s (stuck_exchanged (same_parts k l) refl z)
one_stuck (inside p inner k s) (after q other l i z) = absurd (never s (exchanged (same_parts k l) refl i))
one_stuck (after p inner k i s) (unfit m v) = absurd (m p refl)
one_stuck (after p inner k i s) (behind g z) = absurd g
one_stuck (after p inner k i s) (no_phrase q m) = let h = sym m ∙ k in absurd (cc)
one_stuck (after p inner k i s) (inside q other l z) = absurd (never (stuck_exchanged (same_parts k l) refl z) i)
one_stuck (after p inner k i s) (after q other l j z) = let x = one i (exchanged (same_parts k l) refl j) in one_stuck s (stuck_exchanged refl (sym x.1) z)

-- depths

at_operator : (left n : ℕ) (d : Derivation Row) → depth_behind left (Node (LevelRest n) d) ≡ operator_depth left d
unfolding depth_behind
at_operator left n d = refl

at_choice : (left : ℕ) (d : Derivation Row) → depth_behind left (Node ChoiceRest d) ≡ choice_depth left d
unfolding depth_behind
at_choice left d = refl

operator_none : (left : ℕ) → operator_depth left NoMore ≡ left
unfolding operator_depth
operator_none left = refl

operator_mark : (left : ℕ) (t : Token) → operator_depth left (Then (Leaf t) NoMore) ≡ suc left
unfolding operator_depth
operator_mark left t = refl

operator_right : (left : ℕ) (t : Token) (x : Derivation One) (d : Derivation Row) → operator_depth left (Then (Leaf t) (Then x d)) ≡ row_depth (suc (max left (depth_behind 0 x))) d
unfolding operator_depth
operator_right left t x d = refl

operator_other : (left : ℕ) (p : Phrase) (c d : Derivation Row) → operator_depth left (Then (Node p c) d) ≡ left
unfolding operator_depth
operator_other left p c d = refl

choice_none : (left : ℕ) → choice_depth left NoMore ≡ left
unfolding choice_depth
choice_none left = refl

choice_mark : (left : ℕ) (t : Token) (d : Derivation Row) → choice_depth left (Then (Leaf t) d) ≡ suc (max left (row_depth 0 d))
unfolding choice_depth
choice_mark left t d = refl

choice_other : (left : ℕ) (p : Phrase) (c d : Derivation Row) → choice_depth left (Then (Node p c) d) ≡ left
unfolding choice_depth
choice_other left p c d = refl

-- what stands before is no deeper than the whole

grows_choice : (left : ℕ) (d : Derivation Row) → left ≤ choice_depth left d
grows_choice left NoMore = let a = choice_none left in omega arith
grows_choice left (Then (Leaf t) d) = let a = choice_mark left t d in omega arith
grows_choice left (Then (Node p c) d) = let a = choice_other left p c d in omega arith

mutual
  pub grows_one : (left : ℕ) (x : Derivation One) → left ≤ depth_behind left x
  grows_one left (Leaf t) = let a = leaf_depth left t in omega arith
  grows_one left (Node (LevelRest n) d) = let a = at_operator left n d in let b = grows_operator left d in omega arith
  grows_one left (Node ChoiceRest d) = let a = at_choice left d in let b = grows_choice left d in omega arith
  grows_one left (Node p d) = let a = plain_depth p refl left d in omega arith

  pub grows_row : (left : ℕ) (d : Derivation Row) → left ≤ row_depth left d
  grows_row left NoMore = let a = none_depth left in omega arith
  grows_row left (Then x d) = let a = then_depth left x d in let b = grows_one left x in let c = grows_row (depth_behind left x) d in omega arith

  grows_operator : (left : ℕ) (d : Derivation Row) → left ≤ operator_depth left d
  grows_operator left NoMore = let a = operator_none left in omega arith
  grows_operator left (Then (Leaf t) NoMore) = let a = operator_mark left t in omega arith
  grows_operator left (Then (Leaf t) (Then x d)) = let a = operator_right left t x d in let b = grows_row (suc (max left (depth_behind 0 x))) d in omega arith
  grows_operator left (Then (Node p c) d) = let a = operator_other left p c d in omega arith

more_operator : (left : ℕ) (t : Token) (d : Derivation Row) → suc left ≤ operator_depth left (Then (Leaf t) d)
more_operator left t NoMore = let a = operator_mark left t in omega arith
more_operator left t (Then x d) = let a = operator_right left t x d in let b = grows_row (suc (max left (depth_behind 0 x))) d in omega arith

-- what is begun in the one is begun in the other

begun_leaf : (t : Token) → is_begun (Leaf t) ≡ true
unfolding is_begun
begun_leaf t = refl

begun_node : (p : Phrase) (d : Derivation Row) → is_begun (Node p d) ≡ are_begun d
unfolding is_begun
begun_node p d = refl

begun_then : (x : Derivation One) (d : Derivation Row) → are_begun (Then x d) ≡ (if is_begun x then true else are_begun d)
unfolding are_begun
begun_then x d = refl

begun_none : are_begun NoMore ≡ false
unfolding are_begun
begun_none = refl

-- true where the other is true
abbrev Implies : Bool → Bool → Type 0
Implies a b = a ≡ true → b ≡ true

implies_or : (a b c d : Bool) → Implies a b → Implies c d → Implies (if a then true else c) (if b then true else d)
implies_or true b c d f g h = ap (λ (z : Bool). if z then true else d) (f refl)
implies_or false true c d f g h = refl
implies_or false false c d f g h = g h

implies_as : {a b c d : Bool} → a ≡ b → c ≡ d → Implies b d → Implies a c
implies_as p q f h = q ∙ f (sym p ∙ h)

implies_none : {a : Bool} → are_begun NoMore ≡ true → a ≡ true
implies_none h = let e : false ≡ true = sym begun_none ∙ h in absurd (cc)

mutual
  begun_one : {x y : Derivation One} → Under One x y → Implies (is_begun x) (is_begun y)
  begun_one (leaf t) h = h
  begun_one (node p {d} {e} u) h = implies_as (begun_node p d) (begun_node p e) (begun_row u) h

  begun_row : {d e : Derivation Row} → Under Row d e → Implies (are_begun d) (are_begun e)
  begun_row (none e) h = implies_none h
  begun_row (both {x} {y} {d} {e} u v) h = implies_as (begun_then x d) (begun_then y e) (implies_or (is_begun x) (is_begun y) (are_begun d) (are_begun e) (begun_one u) (begun_row v)) h

count_by : (a b : Bool) → Implies a b → (if a then 1 else 0) ≤ (if b then 1 else 0)
count_by true true f = omega arith
count_by true false f = let e : false ≡ true = f refl in absurd (cc)
count_by false true f = omega arith
count_by false false f = omega arith

itself_under : (p : Phrase) {d e : Derivation Row} → Under Row d e → itself p d ≤ itself p e
itself_under Block (none e) = omega arith
itself_under Block (both (leaf t) v) = omega arith
itself_under Block (both (node q u) v) = omega arith
itself_under (Level zero) (none e) = omega arith
itself_under (Level zero) (both (leaf t) v) = omega arith
itself_under (Level zero) (both (node q u) v) = omega arith
itself_under (Level (suc n)) u = omega arith
itself_under NameRest (none e) = omega arith
itself_under NameRest (both (leaf t) v) = omega arith
itself_under NameRest (both (node q u) v) = omega arith
itself_under Primary (none e) = omega arith
itself_under Primary (both (leaf t) v) = omega arith
itself_under Primary (both (node q u) v) = omega arith
itself_under phrases.Statement (none e) = let a = begun_none in let b : itself phrases.Statement NoMore ≡ 0 = ap (λ (z : Bool). if z then 1 else 0) begun_none in omega arith
itself_under phrases.Statement (both {d} {e} (leaf t) v) = count_by (are_begun (Then (Leaf t) d)) (are_begun (Then (Leaf t) e)) (begun_row (both (leaf t) v))
itself_under phrases.Statement (both (node Block u) v) = omega arith
itself_under phrases.Statement (both {d} {e} (node q {d = c} {e = f} u) v) = count_by (are_begun (Then (Node q c) d)) (are_begun (Then (Node q f) e)) (begun_row (both (node q u) v))
itself_under p u = omega arith

mutual
  pub depth_under : {x y : Derivation One} → Under One x y → (l m : ℕ) → l ≤ m → depth_behind l x ≤ depth_behind m y
  depth_under (leaf t) l m h = let a = leaf_depth l t in let b = leaf_depth m t in omega arith
  depth_under (node (LevelRest n) {d} {e} u) l m h = let a = at_operator l n d in let b = at_operator m n e in let c = operator_under u l m h in omega arith
  depth_under (node ChoiceRest {d} {e} u) l m h = let a = at_choice l d in let b = at_choice m e in let c = choice_under u l m h in omega arith
  depth_under (node p {d} {e} u) l m h = let a = plain_depth p refl l d in let b = plain_depth p refl m e in let c = itself_under p u in let f = row_under u 0 0 (omega arith) in omega arith

  pub row_under : {d e : Derivation Row} → Under Row d e → (l m : ℕ) → l ≤ m → row_depth l d ≤ row_depth m e
  row_under (none e) l m h = let a = none_depth l in let b = grows_row m e in omega arith
  row_under (both {x} {y} {d} {e} u v) l m h =
      let a = then_depth l x d in let b = then_depth m y e in let c = row_under v (depth_behind l x) (depth_behind m y) (depth_under u l m h) in omega arith

  operator_under : {d e : Derivation Row} → Under Row d e → (l m : ℕ) → l ≤ m → operator_depth l d ≤ operator_depth m e
  operator_under (none e) l m h = let a = operator_none l in let b = grows_operator m e in omega arith
  operator_under (both (leaf t) (none e)) l m h = let a = operator_mark l t in let b = more_operator m t e in omega arith
  operator_under (both (leaf t) (both {x} {y} {d} {e} u v)) l m h =
      let a = operator_right l t x d in let b = operator_right m t y e in
      let f = depth_under u 0 0 (omega arith) in
      let g : suc (max l (depth_behind 0 x)) ≤ suc (max m (depth_behind 0 y)) = omega arith in
      let c = row_under v (suc (max l (depth_behind 0 x))) (suc (max m (depth_behind 0 y))) g in omega arith
  operator_under (both {d} {e} (node q {d = c} {e = f} u) v) l m h = let a = operator_other l q c d in let b = operator_other m q f e in omega arith

  choice_under : {d e : Derivation Row} → Under Row d e → (l m : ℕ) → l ≤ m → choice_depth l d ≤ choice_depth m e
  choice_under (none e) l m h = let a = choice_none l in let b = grows_choice m e in omega arith
  choice_under (both {d} {e} (leaf t) v) l m h = let a = choice_mark l t d in let b = choice_mark m t e in let c = row_under v 0 0 (omega arith) in omega arith
  choice_under (both {d} {e} (node q {d = c} {e = f} u) v) l m h = let a = choice_other l q c d in let b = choice_other m q f e in omega arith
