-- Phrases of which a token stands, and of which none does.
use Rattle.std.proofs.Common.{◌≡◌, ◌≢◌, ◌≤◌, ◌<◌, ◌+◌, ℕ, zero, suc, Bool, true, false, if◌then◌else◌, List, [], ◌∷◌, length, drop, Option, Some, None, refl, sym, ap, ◌∙◌, subst, arith}
use Rattle.vx_ast.specs.declared.token.Mark.TheVariants as marks
use Rattle.vx_ast.specs.declared.token.TokenKind.{TokenKind}
use Rattle.vx_ast.specs.declared.token.TokenKind.TheVariants as kinds
use Rattle.vx_ast.specs.declared.token.Token.{Token}
use Rattle.vx_ast.specs.Tree.{One, Row}
use Rattle.vx_ast.specs.Phrases as phrases
use Rattle.vx_ast.specs.Phrases.{Phrase, Block, Print, ChoiceRest, SimpleRest, Level, LevelRest, Primary, NameRest, Part, The, AName, A, mark, Fits, parts_of, Derivation, Leaf, Node, NoMore, Then, Is, Stuck, no_phrase, inside, Begins, reached, reached_behind, reached_inside, reached_after}
use Rattle.vx_ast.specs.Derivations.{is_begun, are_begun, itself, depth_behind, row_depth, operator_depth, choice_depth}
use Rattle.vx_parse.specs.declared.stop.Stop.{Stop}
use Rattle.vx_parse.specs.declared.stop.Stop.TheVariants.{Unexpected, TooDeep, NoMemory}
use Rattle.vx_parse.specs.Choices.{begins_simple}
use Rattle.vx_parse.specs.Reading.{next_kind, Stops}
use Rattle.vx_parse.proofs.Tokens.{next_token}
use Rattle.vx_parse.proofs.Depths.{is_plain, none_depth, then_depth, plain_depth}
use Rattle.vx_parse.proofs.Steps.{node, stuck_node, begins_node, begins_first, stuck_first}
use Rattle.vx_parse.proofs.Parts.{Before}

-- nothing that stands, no depth

both_false : (a b : Bool) → (if a then true else b) ≡ false → (a ≡ false) × (b ≡ false)
both_false true b h = absurd (cc)
both_false false b h = (refl, h)

begun_leaf : (t : Token) → is_begun (Leaf t) ≡ true
unfolding is_begun
begun_leaf t = refl

begun_node : (p : Phrase) (d : Derivation Row) → is_begun (Node p d) ≡ are_begun d
unfolding is_begun
begun_node p d = refl

begun_then : (x : Derivation One) (d : Derivation Row) → are_begun (Then x d) ≡ (if is_begun x then true else are_begun d)
unfolding are_begun
begun_then x d = refl

begun_none : are_begun NoMore ≡ false
unfolding are_begun
begun_none = refl

no_leaf : (t : Token) (d : Derivation Row) → are_begun (Then (Leaf t) d) ≡ false → ⊥
no_leaf t d h = let a = begun_then (Leaf t) d in let b = both_false (is_begun (Leaf t)) (are_begun d) (sym a ∙ h) in let c = begun_leaf t in let e : true ≡ false = sym c ∙ b.0 in cc

none_itself : (p : Phrase) (d : Derivation Row) → are_begun d ≡ false → itself p d ≡ 0
none_itself Block NoMore h = refl
none_itself Block (Then (Leaf t) d) h = absurd (no_leaf t d h)
none_itself Block (Then (Node q c) d) h = refl
none_itself (Level zero) NoMore h = refl
none_itself (Level zero) (Then (Leaf t) d) h = absurd (no_leaf t d h)
none_itself (Level zero) (Then (Node q c) d) h = refl
none_itself (Level (suc n)) d h = refl
none_itself NameRest NoMore h = refl
none_itself NameRest (Then (Leaf t) d) h = absurd (no_leaf t d h)
none_itself NameRest (Then (Node q c) d) h = refl
none_itself Primary NoMore h = refl
none_itself Primary (Then (Leaf t) d) h = absurd (no_leaf t d h)
none_itself Primary (Then (Node q c) d) h = refl
none_itself phrases.Statement (Then (Node Block c) d) h = refl
none_itself phrases.Statement d h = ap (λ b. if b then 1 else 0) h
none_itself p d h = refl

at_operator : (left n : ℕ) (d : Derivation Row) → depth_behind left (Node (LevelRest n) d) ≡ operator_depth left d
unfolding depth_behind
at_operator left n d = refl

no_operator : (left : ℕ) (d : Derivation Row) → are_begun d ≡ false → operator_depth left d ≡ left
unfolding operator_depth
no_operator left NoMore h = refl
no_operator left (Then (Leaf t) d) h = absurd (no_leaf t d h)
no_operator left (Then (Node q c) d) h = refl

at_question : (left : ℕ) (d : Derivation Row) → depth_behind left (Node ChoiceRest d) ≡ choice_depth left d
unfolding depth_behind
at_question left d = refl

no_question : (left : ℕ) (d : Derivation Row) → are_begun d ≡ false → choice_depth left d ≡ left
unfolding choice_depth
no_question left NoMore h = refl
no_question left (Then (Leaf t) d) h = absurd (no_leaf t d h)
no_question left (Then (Node q c) d) h = refl

node_none : (p : Phrase) (d : Derivation Row) → are_begun d ≡ false → row_depth 0 d ≡ 0 → (left : ℕ) → depth_behind left (Node p d) ≡ left
node_none (LevelRest n) d h e left = at_operator left n d ∙ no_operator left d h
node_none ChoiceRest d h e left = at_question left d ∙ no_question left d h
node_none p d h e left = let a = plain_depth p refl left d in let b = none_itself p d h in omega arith

mutual
  pub one_none : (x : Derivation One) → is_begun x ≡ false → (left : ℕ) → depth_behind left x ≡ left
  one_none (Leaf t) h left = let c = begun_leaf t in let e : true ≡ false = sym c ∙ h in absurd (cc)
  one_none (Node p d) h left = let g : are_begun d ≡ false = sym (begun_node p d) ∙ h in node_none p d g (row_none d g 0) left

  pub row_none : (d : Derivation Row) → are_begun d ≡ false → (left : ℕ) → row_depth left d ≡ left
  row_none NoMore h left = none_depth left
  row_none (Then x d) h left =
      let b = both_false (is_begun x) (are_begun d) (sym (begun_then x d) ∙ h) in
      then_depth left x d ∙ row_none d b.1 (depth_behind left x) ∙ one_none x b.0 left

-- a phrase of which the first token stands
pub record Begun (p : Phrase) (t : Token) (ts : List Token) : Type 0 where
  pub derivation : Derivation Row
  pub is : Begins (A p ∷ []) (t ∷ ts) derivation ts
  pub begun : are_begun derivation ≡ true

pub leaf_begins : (t : Token) (d : Derivation Row) → are_begun (Then (Leaf t) d) ≡ true
leaf_begins t d = begun_then (Leaf t) d ∙ ap (λ b. if b then true else are_begun d) (begun_leaf t)

node_begins : (p : Phrase) (c d : Derivation Row) → are_begun c ≡ true → are_begun (Then (Node p c) d) ≡ true
node_begins p c d h = begun_then (Node p c) d ∙ ap (λ b. if b then true else are_begun d) (begun_node p c ∙ h)

begun_token : (p : Phrase) (q : Part) (ps : List Part) (t : Token) (ts : List Token) → parts_of p t.kind ≡ Some (q ∷ ps) → Fits q t.kind → Begun p t ts
begun_token p q ps t ts e f =
    record { derivation = Then (Node p (Then (Leaf t) NoMore)) NoMore; is = reached_inside p (q ∷ ps) e (reached_behind f reached); begun = node_begins p (Then (Leaf t) NoMore) NoMore (leaf_begins t NoMore) }

begun_in : (p r : Phrase) (ps : List Part) (t : Token) (ts : List Token) → parts_of p t.kind ≡ Some (A r ∷ ps) → Begun r t ts → Begun p t ts
begun_in p r ps t ts e b =
    record { derivation = Then (Node p b.derivation) NoMore; is = reached_inside p (A r ∷ ps) e (begins_first b.is); begun = node_begins p b.derivation NoMore b.begun }

at_kind : {k : TokenKind} {x : Option (List Part)} (p : Phrase) (t : Token) → t.kind ≡ k → parts_of p k ≡ x → parts_of p t.kind ≡ x
at_kind p t e f = ap (parts_of p) e ∙ f

begun_unary : (k : TokenKind) → begins_simple k ≡ true → (k ≢ kinds.Mark marks.PlusPlus) → (k ≢ kinds.Mark marks.MinusMinus) → (t : Token) (ts : List Token) → t.kind ≡ k → Begun (Level 0) t ts
unfolding parts_of
begun_unary (kinds.Mark marks.Minus) h a b t ts e = begun_token (Level 0) (mark marks.Minus) (A (Level 0) ∷ []) t ts (at_kind (Level 0) t e refl) e
begun_unary (kinds.Mark marks.Plus) h a b t ts e = begun_token (Level 0) (mark marks.Plus) (A (Level 0) ∷ []) t ts (at_kind (Level 0) t e refl) e
begun_unary (kinds.Mark marks.Exclamation) h a b t ts e = begun_token (Level 0) (mark marks.Exclamation) (A (Level 0) ∷ []) t ts (at_kind (Level 0) t e refl) e
begun_unary (kinds.Mark marks.Tilde) h a b t ts e = begun_token (Level 0) (mark marks.Tilde) (A (Level 0) ∷ []) t ts (at_kind (Level 0) t e refl) e
begun_unary (kinds.Mark marks.OpenParenthesis) h a b t ts e =
    begun_in (Level 0) Primary [] t ts (at_kind (Level 0) t e refl) (begun_token Primary (mark marks.OpenParenthesis) (A phrases.Expression ∷ mark marks.CloseParenthesis ∷ []) t ts (at_kind Primary t e refl) e)
begun_unary (kinds.Name x) h a b t ts e = begun_in (Level 0) Primary [] t ts (at_kind (Level 0) t e refl) (begun_token Primary AName (A NameRest ∷ []) t ts (at_kind Primary t e refl) (x, e))
begun_unary (kinds.Number z) h a b t ts e = begun_in (Level 0) Primary [] t ts (at_kind (Level 0) t e refl) (begun_token Primary phrases.ANumber [] t ts (at_kind Primary t e refl) (z, e))
begun_unary (kinds.Mark marks.PlusPlus) h a b t ts e = absurd (a refl)
begun_unary (kinds.Mark marks.MinusMinus) h a b t ts e = absurd (b refl)
begun_unary k h a b t ts e = absurd (cc)

begun_level : (n : ℕ) (t : Token) (ts : List Token) → Begun (Level 0) t ts → Begun (Level n) t ts
unfolding parts_of
begun_level zero t ts b = b
begun_level (suc n) t ts b = begun_in (Level (suc n)) (Level n) (A (LevelRest n) ∷ []) t ts refl (begun_level n t ts b)

begun_expression : (t : Token) (ts : List Token) → Begun (Level 0) t ts → Begun phrases.Expression t ts
unfolding parts_of
begun_expression t ts b = begun_in phrases.Expression (Level 10) (A ChoiceRest ∷ []) t ts refl (begun_level 10 t ts b)

simple_of_expression : (k : TokenKind) → (k ≢ kinds.Mark marks.PlusPlus) → (k ≢ kinds.Mark marks.MinusMinus) → parts_of phrases.Simple k ≡ Some (A phrases.Expression ∷ A SimpleRest ∷ [])
unfolding parts_of
simple_of_expression (kinds.Mark marks.PlusPlus) a b = absurd (a refl)
simple_of_expression (kinds.Mark marks.MinusMinus) a b = absurd (b refl)
simple_of_expression k a b = refl

begun_with : (k : TokenKind) → begins_simple k ≡ true → (k ≢ kinds.Mark marks.PlusPlus) → (k ≢ kinds.Mark marks.MinusMinus) → (t : Token) (ts : List Token) → t.kind ≡ k → Begun phrases.Simple t ts
begun_with k h a b t ts e =
    begun_in phrases.Simple phrases.Expression (A SimpleRest ∷ []) t ts (at_kind phrases.Simple t e (simple_of_expression k a b)) (begun_expression t ts (begun_unary k h a b t ts e))

begun_simple : (k : TokenKind) → begins_simple k ≡ true → (t : Token) (ts : List Token) → t.kind ≡ k → Begun phrases.Simple t ts
unfolding parts_of
begun_simple (kinds.Mark marks.PlusPlus) h t ts e = begun_token phrases.Simple (mark marks.PlusPlus) (A (Level 0) ∷ []) t ts (at_kind phrases.Simple t e refl) e
begun_simple (kinds.Mark marks.MinusMinus) h t ts e = begun_token phrases.Simple (mark marks.MinusMinus) (A (Level 0) ∷ []) t ts (at_kind phrases.Simple t e refl) e
begun_simple (kinds.Mark m) h t ts e = begun_with (kinds.Mark m) h (λ q. cc) (λ q. cc) t ts e
begun_simple (kinds.Name x) h t ts e = begun_with (kinds.Name x) h (λ q. cc) (λ q. cc) t ts e
begun_simple (kinds.Number z) h t ts e = begun_with (kinds.Number z) h (λ q. cc) (λ q. cc) t ts e
begun_simple k h t ts e = absurd (cc)

begun_print : (t : Token) (ts : List Token) → Fits AName t.kind → Begun Print t ts
unfolding parts_of
begun_print t ts f = begun_token Print AName (mark marks.OpenParenthesis ∷ phrases.AString ∷ A phrases.MoreExpressions ∷ mark marks.CloseParenthesis ∷ []) t ts refl f

-- a phrase that no such token begins
pub record Barren (p : Phrase) (t : Token) (ts : List Token) : Type 0 where
  pub derivation : Derivation Row
  pub is : Stuck (A p ∷ []) (t ∷ ts) derivation (t ∷ ts)
  pub none : are_begun derivation ≡ false

barren_in : (p r : Phrase) (ps : List Part) (t : Token) (ts : List Token) → parts_of p t.kind ≡ Some (A r ∷ ps) → Barren r t ts → Barren p t ts
barren_in p r ps t ts e b =
    record {
      derivation = Then (Node p b.derivation) NoMore;
      is = inside p (A r ∷ ps) e (stuck_first b.is);
      none = begun_then (Node p b.derivation) NoMore ∙ ap (λ x. if x then true else are_begun NoMore) (begun_node p b.derivation ∙ b.none) ∙ begun_none;
    }

no_unary : (k : TokenKind) → begins_simple k ≡ false → parts_of (Level 0) k ≡ Some (A Primary ∷ [])
unfolding parts_of
no_unary (kinds.Mark marks.Minus) h = absurd (cc)
no_unary (kinds.Mark marks.Plus) h = absurd (cc)
no_unary (kinds.Mark marks.Exclamation) h = absurd (cc)
no_unary (kinds.Mark marks.Tilde) h = absurd (cc)
no_unary k h = refl

no_primary : (k : TokenKind) → begins_simple k ≡ false → parts_of Primary k ≡ None
unfolding parts_of
no_primary (kinds.Mark marks.OpenParenthesis) h = absurd (cc)
no_primary (kinds.Name x) h = absurd (cc)
no_primary (kinds.Number z) h = absurd (cc)
no_primary k h = refl

barren_unary : (k : TokenKind) → begins_simple k ≡ false → (t : Token) (ts : List Token) → t.kind ≡ k → Barren (Level 0) t ts
barren_unary k h t ts e =
    barren_in (Level 0) Primary [] t ts (at_kind (Level 0) t e (no_unary k h)) (record { derivation = NoMore; is = no_phrase Primary (at_kind Primary t e (no_primary k h)); none = begun_none })

barren_level : (n : ℕ) (t : Token) (ts : List Token) → Barren (Level 0) t ts → Barren (Level n) t ts
unfolding parts_of
barren_level zero t ts b = b
barren_level (suc n) t ts b = barren_in (Level (suc n)) (Level n) (A (LevelRest n) ∷ []) t ts refl (barren_level n t ts b)

barren_expression : (t : Token) (ts : List Token) → Barren (Level 0) t ts → Barren phrases.Expression t ts
unfolding parts_of
barren_expression t ts b = barren_in phrases.Expression (Level 10) (A ChoiceRest ∷ []) t ts refl (barren_level 10 t ts b)

differ : (k m : TokenKind) → begins_simple k ≡ false → begins_simple m ≡ true → k ≢ m
differ k m h e q = let f : begins_simple k ≡ true = ap begins_simple q ∙ e in let g : true ≡ false = sym f ∙ h in cc

barren_simple : (k : TokenKind) → begins_simple k ≡ false → (t : Token) (ts : List Token) → t.kind ≡ k → Barren phrases.Simple t ts
barren_simple k h t ts e =
    barren_in phrases.Simple phrases.Expression (A SimpleRest ∷ []) t ts (at_kind phrases.Simple t e (simple_of_expression k (differ k (kinds.Mark marks.PlusPlus) h refl) (differ k (kinds.Mark marks.MinusMinus) h refl))) (barren_expression t ts (barren_unary k h t ts e))

-- statements that no keyword begins and that are no block

abbrev Loose : Phrase → Type 0
Loose phrases.Simple = Unit {0}
Loose Print = Unit {0}
Loose p = ⊥

loose_itself : (q : Phrase) → Loose q → (c d : Derivation Row) → itself phrases.Statement (Then (Node q c) d) ≡ (if are_begun (Then (Node q c) d) then 1 else 0)
loose_itself phrases.Simple h c d = refl
loose_itself Print h c d = refl
loose_itself q h c d = absurd h

bound : (b : Bool) → (if b then 1 else 0) ≤ 1
bound true = omega arith
bound false = omega arith

most_itself : (d : Derivation Row) → itself phrases.Statement d ≤ 1
most_itself (Then (Node Block c) d) = omega arith
most_itself (Then (Node p c) d) = bound (are_begun (Then (Node p c) d))
most_itself (Then (Leaf t) d) = bound (are_begun (Then (Leaf t) d))
most_itself NoMore = bound (are_begun NoMore)

begins_itself : {q : Phrase} {ps : List Part} {a b : List Token} {d : Derivation Row} → Loose q → Begins (A q ∷ ps) a d b → itself phrases.Statement d ≡ (if are_begun d then 1 else 0)
begins_itself l reached = refl
begins_itself l (reached_behind f s) = absurd f
begins_itself {q} l (reached_inside p inner {d} k s) = loose_itself q l d NoMore
begins_itself {q} l (reached_after p inner {d} {e} k i s) = loose_itself q l d e

deep_by : (b : Bool) (k m n : ℕ) → k < 200 → (b ≡ false → n ≡ 0) → m ≡ (if b then 1 else 0) → 200 < (k + 1) + n → 200 < k + (m + n)
deep_by true k m n h z e d = omega arith
deep_by false k m n h z e d = let f = z refl in omega arith

statement_depth : (d : Derivation Row) → row_depth 0 (Then (Node phrases.Statement d) NoMore) ≡ itself phrases.Statement d + row_depth 0 d
statement_depth d =
    let a = then_depth 0 (Node phrases.Statement d) NoMore in let b = none_depth (depth_behind 0 (Node phrases.Statement d)) in let c = plain_depth phrases.Statement refl 0 d in omega arith

loosely : (q : Phrase) → Loose q → (ps : List Part) (ts : List Token) (i k : ℕ) → i < length ts → k < 200 → parts_of phrases.Statement (next_kind (drop i ts)) ≡ Some (A q ∷ mark marks.Semicolon ∷ [])
    → (s : Stop) → Stops (A q ∷ mark marks.Semicolon ∷ []) (drop i ts) ts (k + 1) 0 s → Stops (A phrases.Statement ∷ []) (drop i ts) ts k 0 s
loosely q l ps ts i k h m e (Unexpected j) w =
    let d = w.1.derivation in let a = statement_depth d in let b = most_itself d in let c = w.1.shallow in
    (w.0, record { derivation = Then (Node phrases.Statement d) NoMore; stuck = stuck_node ts i h e w.1.stuck; shallow = omega arith })
loosely q l ps ts i k h m e TooDeep w =
    let d = w.derivation in let a = statement_depth d in
    let c = deep_by (are_begun d) k (itself phrases.Statement d) (row_depth 0 d) m (λ z. row_none d z 0) (begins_itself l w.begins) w.deep in
    record { derivation = Then (Node phrases.Statement d) NoMore; rest = w.rest; begins = begins_node ts i h e w.begins; deep = omega arith }
loosely q l ps ts i k h m e NoMemory w = tt

loose_plain : (q : Phrase) → Loose q → (if is_plain q then true else false) ≡ true
loose_plain phrases.Simple h = refl
loose_plain Print h = refl
loose_plain q h = absurd h

loose_before : (q : Phrase) → Loose q → (ts : List Token) (i k : ℕ) → i < length ts → k < 200 → parts_of phrases.Statement (next_kind (drop i ts)) ≡ Some (A q ∷ mark marks.Semicolon ∷ [])
    → Before (A phrases.Statement ∷ []) ts i k (λ d. Then (Node phrases.Statement d) NoMore) (A q ∷ mark marks.Semicolon ∷ []) i (k + 1)
loose_before q l ts i k h m e =
    record {
      stops = loosely q l [] ts i k h m e;
      whole = λ d n w.
          let a = statement_depth d in let b = most_itself d in let c = w.shallow in
          record { is = node ts i h e w.is; shallow = omega arith; further = w.further; within = w.within };
      plain = loose_plain q l;
      fits = omega arith;
      further = omega arith;
      within = h;
    }

pub simple_statement : (ts : List Token) (i k : ℕ) → i < length ts → k < 200 → parts_of phrases.Statement (next_kind (drop i ts)) ≡ Some (A phrases.Simple ∷ mark marks.Semicolon ∷ [])
    → Before (A phrases.Statement ∷ []) ts i k (λ d. Then (Node phrases.Statement d) NoMore) (A phrases.Simple ∷ mark marks.Semicolon ∷ []) i (k + 1)
simple_statement ts i k h m e = loose_before phrases.Simple tt ts i k h m e

pub print_statement : (ts : List Token) (i k : ℕ) → i < length ts → k < 200 → parts_of phrases.Statement (next_kind (drop i ts)) ≡ Some (A Print ∷ mark marks.Semicolon ∷ [])
    → Before (A phrases.Statement ∷ []) ts i k (λ d. Then (Node phrases.Statement d) NoMore) (A Print ∷ mark marks.Semicolon ∷ []) i (k + 1)
print_statement ts i k h m e = loose_before Print tt ts i k h m e

loose_too_deep : (q : Phrase) → Loose q → (ts : List Token) (i k : ℕ) → i < length ts → 200 ≤ k → parts_of phrases.Statement (next_kind (drop i ts)) ≡ Some (A q ∷ mark marks.Semicolon ∷ [])
    → ((t : Token) (us : List Token) → t.kind ≡ next_kind (drop i ts) → Begun q t us) → Stops (A phrases.Statement ∷ []) (drop i ts) ts k 0 TooDeep
loose_too_deep q l ts i k h m e f =
    let t = next_token ts i h in
    let b = f t.token (drop (i + 1) ts) (sym (ap next_kind t.is)) in
    let d = b.derivation in
    let s : Begins (A q ∷ []) (drop i ts) d (drop (i + 1) ts) = subst (λ z. Begins (A q ∷ []) z d (drop (i + 1) ts)) (sym t.is) b.is in
    let a = statement_depth d in
    let c : itself phrases.Statement d ≡ 1 = begins_itself l s ∙ ap (λ z. if z then 1 else 0) b.begun in
    record { derivation = Then (Node phrases.Statement d) NoMore; rest = drop (i + 1) ts; begins = begins_node ts i h e (begins_first s); deep = omega arith }

pub simple_too_deep : (ts : List Token) (i k : ℕ) → i < length ts → 200 ≤ k → begins_simple (next_kind (drop i ts)) ≡ true → parts_of phrases.Statement (next_kind (drop i ts)) ≡ Some (A phrases.Simple ∷ mark marks.Semicolon ∷ [])
    → Stops (A phrases.Statement ∷ []) (drop i ts) ts k 0 TooDeep
simple_too_deep ts i k h m b e = loose_too_deep phrases.Simple tt ts i k h m e (λ t us f. begun_simple (next_kind (drop i ts)) b t us f)

pub print_too_deep : (ts : List Token) (i k : ℕ) → i < length ts → 200 ≤ k → Fits AName (next_kind (drop i ts)) → parts_of phrases.Statement (next_kind (drop i ts)) ≡ Some (A Print ∷ mark marks.Semicolon ∷ [])
    → Stops (A phrases.Statement ∷ []) (drop i ts) ts k 0 TooDeep
print_too_deep ts i k h m b e = loose_too_deep Print tt ts i k h m e (λ t us f. begun_print t us (subst (Fits AName) (sym f) b))

-- no statement begins with the token
pub no_statement : (ts : List Token) (i k : ℕ) → i < length ts → k ≤ 200 → begins_simple (next_kind (drop i ts)) ≡ false → parts_of phrases.Statement (next_kind (drop i ts)) ≡ Some (A phrases.Simple ∷ mark marks.Semicolon ∷ [])
    → Stops (A phrases.Statement ∷ []) (drop i ts) ts k 0 (Unexpected i)
no_statement ts i k h m b e =
    let t = next_token ts i h in
    let x = barren_simple (next_kind (drop i ts)) b t.token (drop (i + 1) ts) (sym (ap next_kind t.is)) in
    let d = x.derivation in
    let s : Stuck (A phrases.Simple ∷ []) (drop i ts) d (drop i ts) = subst (λ z. Stuck (A phrases.Simple ∷ []) z d z) (sym t.is) x.is in
    let a = statement_depth d in
    let z = row_none d x.none 0 in
    let y = none_itself phrases.Statement d x.none in
    (h, record { derivation = Then (Node phrases.Statement d) NoMore; stuck = stuck_node ts i h e (stuck_first s); shallow = omega arith })
