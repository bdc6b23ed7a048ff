-- Expressions, part by part.
use Rattle.std.proofs.Common.{◌≡◌, ◌≢◌, ◌≤◌, ◌<◌, ◌+◌, ◌⊎◌, inl, inr, ℕ, suc, max, Bool, true, false, nat_eq, if◌then◌else◌, List, [], ◌∷◌, length, drop, Some, None, Result, Ok, Err, refl, sym, ap, ◌∙◌, subst, arith}
use Rattle.std.specs.Prelude.{IfOk, IfErr}
use Rattle.std.proofs.lemmas.Bool.{eqb-true, eq-eqb}
use Rattle.vx_ast.specs.declared.syntax.Name.{Name}
use Rattle.vx_ast.specs.declared.token.Mark.{Mark}
use Rattle.vx_ast.specs.declared.token.Mark.TheVariants as marks
use Rattle.vx_ast.specs.declared.token.TokenKind.{TokenKind}
use Rattle.vx_ast.specs.declared.token.TokenKind.TheVariants as kinds
use Rattle.vx_ast.specs.declared.token.Token.{Token}
use Rattle.vx_ast.specs.Tree.{One, Row}
use Rattle.vx_ast.specs.Syntax as syntax
use Rattle.vx_ast.specs.SyntaxView.{phrase_of, row_in}
use Rattle.vx_ast.specs.Phrases as phrases
use Rattle.vx_ast.specs.Phrases.{Phrase, ChoiceRest, Level, LevelRest, Primary, NameRest, Arguments, Part, The, AName, ANumber, A, mark, parts_of, strength, Derivation, Leaf, Node, NoMore, Then, Is, nothing, token, phrase, Stuck, unfit, behind as read_behind, no_phrase, inside, after, Begins, reached, reached_behind, reached_inside, reached_after}
use Rattle.vx_ast.specs.Derivations.{name_of, number_of, unary_of, joined, expression_of, behind, named, arguments_of, opens, itself, depth_behind, row_depth, operator_depth, choice_depth}
use Rattle.vx_parse.specs.declared.stop.Stop.{Stop}
use Rattle.vx_parse.specs.declared.stop.Stop.TheVariants.{Unexpected, TooDeep, NoMemory}
use Rattle.vx_parse.specs.declared.expression.Operand.{Operand}
use Rattle.vx_parse.specs.declared.expression.Operands.{Operands}
use Rattle.vx_parse.specs.declared.token.NameRead.{NameRead}
use Rattle.vx_parse.specs.Reading.{next_kind, Ended, Passed, PassedName, Misfit, Deep, Stops, IsOperand, IsBehind, AreOperands, IsNamed}
use Rattle.vx_parse.proofs.Tokens.{passes, passes_mark}
use Rattle.vx_parse.proofs.Depths.{is_plain, leaf_depth, none_depth, then_depth, plain_depth, beside, is_plain_row}
use Rattle.vx_parse.proofs.Steps.{no_parts, pass, and_then, node, stuck_first, stuck_after, stuck_node, begins_first, begins_after, begins_node, stops_then, stops_first, stops_after, stops_misfit, stops_node, stops_quiet, Opens, stops_opened, Opened, opened}

pub map_ok : {T : Type 0} {P Q : T → Type 0} (r : Result T Stop) → ((x : T) → P x → Q x) → IfOk r P → IfOk r Q
map_ok (Ok x) f h = f x h
map_ok (Err e) f h = tt

pub map_err : {T : Type 0} {P Q : Stop → Type 0} (r : Result T Stop) → ((s : Stop) → P s → Q s) → IfErr r P → IfErr r Q
map_err (Ok x) f h = tt
map_err (Err e) f h = f e h

-- a derivation of one phrase is of that phrase

pub record OfPhrase (p : Phrase) (x : Derivation One) : Type 0 where
  pub row : Derivation Row
  pub is : x ≡ Node p row

pub of_phrase : {p : Phrase} {a b : List Token} {x : Derivation One} → Is (A p ∷ []) a (Then x NoMore) b → OfPhrase p x
of_phrase (token f nothing) = absurd f
of_phrase (phrase p inner {d} k i nothing) = record { row = d; is = refl }

pub not_phrase : (k : TokenKind) (p : Phrase) → The k ≡ A p → ⊥
not_phrase k p e = cc

-- what stands between a first and a last mark

pub enclosed_inner : {p r : Phrase} {q : Part} {z : TokenKind} {ts : List Token} {i j : ℕ} (k : ℕ) (s : Stop) → Opens p q (A r ∷ The z ∷ []) ts i j 1 → Stops (A r ∷ []) (drop j ts) ts (k + 1) 0 s
    → Stops (A p ∷ []) (drop i ts) ts k 0 s
enclosed_inner {r} {z} {ts} {j} k s o w = stops_opened k s o (stops_first (A r) (The z ∷ []) (drop j ts) ts (k + 1) 0 s w)

pub enclosed_end : {p r : Phrase} {q : Part} {z : TokenKind} {ts : List Token} {i j m : ℕ} {x : Derivation One} (k : ℕ) (s : Stop) → Opens p q (A r ∷ The z ∷ []) ts i j 1
    → Is (A r ∷ []) (drop j ts) (Then x NoMore) (drop m ts) → (k + 1) + depth_behind 0 x ≤ 200 → m < length ts → Misfit (The z) ts m s → Stops (A p ∷ []) (drop i ts) ts k 0 s
enclosed_end {z} {ts} {m} k s o a h l f =
    stops_opened k s o (stops_after (The z ∷ []) ts (k + 1) s a h refl (stops_misfit (The z) [] ts m (k + 1) 0 s (not_phrase z) l (omega arith) f))

pub enclosed : {p r : Phrase} {q : Part} {z : TokenKind} {ts : List Token} {i j m n : ℕ} {x : Derivation One} (o : Opens p q (A r ∷ The z ∷ []) ts i j 1)
    → Is (A r ∷ []) (drop j ts) (Then x NoMore) (drop m ts) → (f : Passed (The z) ts m n)
    → Opened p ts (drop n ts) i (Node p (Then (Leaf o.passed.token) (Then x (Then (Leaf f.token) NoMore)))) (1 + depth_behind 0 x)
enclosed {x} o a f =
    let y = opened o (and_then a (pass f)) in
    let b = then_depth 0 x (Then (Leaf f.token) NoMore) in let c = then_depth (depth_behind 0 x) (Leaf f.token) NoMore in
    let d = none_depth (depth_behind (depth_behind 0 x) (Leaf f.token)) in let e = leaf_depth (depth_behind 0 x) f.token in let g = y.depth in
    record { is = y.is; depth = omega arith }

bracket_parts : {k : TokenKind} → k ≡ kinds.Mark marks.OpenBracket → parts_of NameRest k ≡ Some (mark marks.OpenBracket ∷ A phrases.Expression ∷ mark marks.CloseBracket ∷ [])
unfolding parts_of
bracket_parts e = ap (parts_of NameRest) e

pub bracket_opens : (ts : List Token) (i : ℕ) → Ended ts → i < length ts → next_kind (drop i ts) ≡ kinds.Mark marks.OpenBracket
    → Opens NameRest (mark marks.OpenBracket) (A phrases.Expression ∷ mark marks.CloseBracket ∷ []) ts i (i + 1) 1
bracket_opens ts i e h k = record { passed = passes_mark ts i marks.OpenBracket e h k; here = h; parts = bracket_parts k; counts = λ d. refl; plain = refl }

call_parts : {k : TokenKind} → k ≡ kinds.Mark marks.OpenParenthesis → parts_of NameRest k ≡ Some (mark marks.OpenParenthesis ∷ A Arguments ∷ mark marks.CloseParenthesis ∷ [])
unfolding parts_of
call_parts e = ap (parts_of NameRest) e

pub call_opens : (ts : List Token) (i : ℕ) → Ended ts → i < length ts → next_kind (drop i ts) ≡ kinds.Mark marks.OpenParenthesis
    → Opens NameRest (mark marks.OpenParenthesis) (A Arguments ∷ mark marks.CloseParenthesis ∷ []) ts i (i + 1) 1
call_opens ts i e h k = record { passed = passes_mark ts i marks.OpenParenthesis e h k; here = h; parts = call_parts k; counts = λ d. refl; plain = refl }

nested_parts : {k : TokenKind} → k ≡ kinds.Mark marks.OpenParenthesis → parts_of Primary k ≡ Some (mark marks.OpenParenthesis ∷ A phrases.Expression ∷ mark marks.CloseParenthesis ∷ [])
unfolding parts_of
nested_parts e = ap (parts_of Primary) e

pub nested_opens : (ts : List Token) (i : ℕ) → Ended ts → i < length ts → next_kind (drop i ts) ≡ kinds.Mark marks.OpenParenthesis
    → Opens Primary (mark marks.OpenParenthesis) (A phrases.Expression ∷ mark marks.CloseParenthesis ∷ []) ts i (i + 1) 1
nested_opens ts i e h k =
    let p = passes_mark ts i marks.OpenParenthesis e h k in
    record { passed = p; here = h; parts = nested_parts k; counts = λ d. ap opens p.fits; plain = refl }

end_parts : (k : TokenKind) → parts_of (Level 0) k ≡ Some (The k ∷ A (Level 0) ∷ []) → k ≢ kinds.End
unfolding parts_of
end_parts k e h = let f : parts_of (Level 0) kinds.End ≡ Some (The k ∷ A (Level 0) ∷ []) = ap (parts_of (Level 0)) (sym h) ∙ e in cc

pub unary_opens : (ts : List Token) (i : ℕ) → Ended ts → i < length ts → parts_of (Level 0) (next_kind (drop i ts)) ≡ Some (The (next_kind (drop i ts)) ∷ A (Level 0) ∷ [])
    → Opens (Level 0) (The (next_kind (drop i ts))) (A (Level 0) ∷ []) ts i (i + 1) 1
unary_opens ts i e h k =
    let n = next_kind (drop i ts) in
    record { passed = passes {part = The n} ts i n e h refl (end_parts n k) refl; here = h; parts = k; counts = λ d. refl; plain = refl }

-- operands

pub same_next : {ps : List Part} {a : List Token} {d : Derivation Row} (ts : List Token) {i j : ℕ} → i ≡ j → Is ps a d (drop i ts) → Is ps a d (drop j ts)
same_next {ps} {a} {d} ts e i = subst (λ n. Is ps a d (drop n ts)) e i

pub nested_is : (ts : List Token) (i k m n : ℕ) (inner : Operand) (r : Operand) → (o : Opens Primary (mark marks.OpenParenthesis) (A phrases.Expression ∷ mark marks.CloseParenthesis ∷ []) ts i (i + 1) 1)
    → IsOperand phrases.Expression ts (i + 1) (k + 1) inner → Passed (mark marks.CloseParenthesis) ts inner.next r.next → phrase_of r.expression ≡ phrase_of inner.expression → r.height ≡ 1 + inner.height
    → IsOperand Primary ts i k r
unfolding expression_of
nested_is ts i k m n inner r o a f e h =
    let y = enclosed o a.is f in
    let b = y.depth in let c = a.height in let d = a.shallow in let g = a.further in let l = f.further in
    record {
      derivation = Node Primary (Then (Leaf o.passed.token) (Then a.derivation (Then (Leaf f.token) NoMore)));
      is = y.is;
      tree = a.tree ∙ sym e;
      height = omega arith;
      shallow = omega arith;
      further = omega arith;
      within = f.within;
    }

named_index : (t o c : Token) (x : Derivation One) → OfPhrase phrases.Expression x → named t (Node NameRest (Then (Leaf o) (Then x (Then (Leaf c) NoMore)))) ≡ syntax.Element (name_of t) (expression_of x)
unfolding named
named_index t o c x s =
    let P : Derivation One → Type 0 = λ y. named t (Node NameRest (Then (Leaf o) (Then y (Then (Leaf c) NoMore)))) ≡ syntax.Element (name_of t) (expression_of y) in
    subst P (sym s.is) refl

pub element_is : (ts : List Token) (i k : ℕ) (name : Name) (inner : Operand) (r : Operand) → (o : Opens NameRest (mark marks.OpenBracket) (A phrases.Expression ∷ mark marks.CloseBracket ∷ []) ts i (i + 1) 1)
    → IsOperand phrases.Expression ts (i + 1) (k + 1) inner → Passed (mark marks.CloseBracket) ts inner.next r.next → phrase_of r.expression ≡ syntax.Element name (phrase_of inner.expression) → r.height ≡ 1 + inner.height
    → IsNamed name ts i k r
element_is ts i k name inner r o a f e h =
    let y = enclosed o a.is f in
    let b = y.depth in let c = a.height in let d = a.shallow in let g = a.further in let l = f.further in
    record {
      derivation = Node NameRest (Then (Leaf o.passed.token) (Then a.derivation (Then (Leaf f.token) NoMore)));
      is = y.is;
      tree = λ t same. named_index t o.passed.token f.token a.derivation (of_phrase a.is) ∙ (let u = a.tree in let v : syntax.Element (name_of t) (expression_of a.derivation) ≡ syntax.Element name (phrase_of inner.expression) = cc in v ∙ sym e);
      height = omega arith;
      shallow = omega arith;
      further = omega arith;
      within = f.within;
    }

named_call : (t o c : Token) (x : Derivation One) → OfPhrase Arguments x → named t (Node NameRest (Then (Leaf o) (Then x (Then (Leaf c) NoMore)))) ≡ syntax.Call (name_of t) (arguments_of x)
unfolding named arguments_of
named_call t o c x s =
    let P : Derivation One → Type 0 = λ y. named t (Node NameRest (Then (Leaf o) (Then y (Then (Leaf c) NoMore)))) ≡ syntax.Call (name_of t) (arguments_of y) in
    subst P (sym s.is) refl

pub call_is : (ts : List Token) (i k : ℕ) (name : Name) (inner : Operands) (r : Operand) → (o : Opens NameRest (mark marks.OpenParenthesis) (A Arguments ∷ mark marks.CloseParenthesis ∷ []) ts i (i + 1) 1)
    → AreOperands Arguments ts (i + 1) (k + 1) inner → Passed (mark marks.CloseParenthesis) ts inner.next r.next → phrase_of r.expression ≡ syntax.Call name (row_in inner.arguments.items) → r.height ≡ 1 + inner.height
    → IsNamed name ts i k r
call_is ts i k name inner r o a f e h =
    let y = enclosed o a.is f in
    let b = y.depth in let c = a.height in let d = a.shallow in let g = a.further in let l = f.further in
    record {
      derivation = Node NameRest (Then (Leaf o.passed.token) (Then a.derivation (Then (Leaf f.token) NoMore)));
      is = y.is;
      tree = λ t same. named_call t o.passed.token f.token a.derivation (of_phrase a.is) ∙ (let u = a.tree in let v : syntax.Call (name_of t) (arguments_of a.derivation) ≡ syntax.Call name (row_in inner.arguments.items) = cc in v ∙ sym e);
      height = omega arith;
      shallow = omega arith;
      further = omega arith;
      within = f.within;
    }

abbrev Opener : TokenKind → Type 0
Opener k = (k ≡ kinds.Mark marks.OpenBracket) ⊎ (k ≡ kinds.Mark marks.OpenParenthesis)

-- an empty phrase
pub empty_depth : (p : Phrase) → is_plain p ≡ true → itself p NoMore ≡ 0 → depth_behind 0 (Node p NoMore) ≡ 0
empty_depth p h e = let a = plain_depth p h 0 NoMore in let b = none_depth 0 in omega arith

named_use : (t : Token) → named t (Node NameRest NoMore) ≡ syntax.Use (name_of t)
unfolding named
named_use t = refl

pub no_rest : (k : TokenKind) → (k ≡ kinds.Mark marks.OpenBracket → ⊥) → (k ≡ kinds.Mark marks.OpenParenthesis → ⊥) → parts_of NameRest k ≡ Some []
unfolding parts_of
no_rest (kinds.Mark marks.OpenBracket) a b = absurd (a refl)
no_rest (kinds.Mark marks.OpenParenthesis) a b = absurd (b refl)
no_rest k a b = refl

pub use_is : (ts : List Token) (i k : ℕ) (name : Name) (r : Operand) → i < length ts → k ≤ 200 → parts_of NameRest (next_kind (drop i ts)) ≡ Some [] → phrase_of r.expression ≡ syntax.Use name → r.height ≡ 0 → r.next ≡ i
    → IsNamed name ts i k r
use_is ts i k name r h l e s z n =
    let d = empty_depth NameRest refl refl in
    record {
      derivation = Node NameRest NoMore;
      is = same_next ts (sym n) (node ts i h e nothing);
      tree = λ t same. named_use t ∙ ap syntax.Use (sym same) ∙ sym s;
      height = d ∙ sym z;
      shallow = omega arith;
      further = omega arith;
      within = omega arith;
    }

-- numbers, and names with what stands behind them

number_parts : {k : TokenKind} → (z : _) → k ≡ kinds.Number z → parts_of Primary k ≡ Some (ANumber ∷ [])
unfolding parts_of
number_parts z e = ap (parts_of Primary) e

number_tree : (t : Token) → expression_of (Node Primary (Then (Leaf t) NoMore)) ≡ syntax.Number (number_of t.kind)
unfolding expression_of
number_tree t = refl

pub leaf_alone : (t : Token) → row_depth 0 (Then (Leaf t) NoMore) ≡ 0
leaf_alone t = then_depth 0 (Leaf t) NoMore ∙ none_depth (depth_behind 0 (Leaf t)) ∙ leaf_depth 0 t

opens_number : (k : TokenKind) (z : _) → k ≡ kinds.Number z → opens k ≡ 0
opens_number k z e = ap opens e

pub number_is : (ts : List Token) (i k : ℕ) (z : _) (r : Operand) → Ended ts → i < length ts → k ≤ 200 → next_kind (drop i ts) ≡ kinds.Number z → phrase_of r.expression ≡ syntax.Number z → r.height ≡ 0 → r.next ≡ i + 1
    → IsOperand Primary ts i k r
number_is ts i k z r e h l is s y n =
    let p : Passed ANumber ts i (i + 1) = passes ts i (kinds.Number z) e h is (λ q. cc) (z, refl) in
    let kind : p.token.kind ≡ kinds.Number z = sym (ap next_kind p.is) ∙ is in
    let a = plain_depth Primary refl 0 (Then (Leaf p.token) NoMore) in let b = leaf_alone p.token in let c = opens_number p.token.kind z kind in let w = p.within in
    record {
      derivation = Node Primary (Then (Leaf p.token) NoMore);
      is = same_next ts (sym n) (node ts i h (number_parts z is) (pass p));
      tree = number_tree p.token ∙ ap (λ (m : TokenKind). syntax.Number (number_of m)) kind ∙ sym s;
      height = omega arith;
      shallow = omega arith;
      further = omega arith;
      within = omega arith;
    }

name_parts : {k : TokenKind} → (b : List ℕ) → k ≡ kinds.Name b → parts_of Primary k ≡ Some (AName ∷ A NameRest ∷ [])
unfolding parts_of
name_parts b e = ap (parts_of Primary) e

name_tree : (t : Token) (x : Derivation One) → expression_of (Node Primary (Then (Leaf t) (Then x NoMore))) ≡ named t x
unfolding expression_of
name_tree t x = refl

opens_name : (k : TokenKind) (b : List ℕ) → k ≡ kinds.Name b → opens k ≡ 0
opens_name k b e = ap opens e

name_depth : (t : Token) (b : List ℕ) (d : Derivation Row) → t.kind ≡ kinds.Name b → depth_behind 0 (Node Primary (Then (Leaf t) d)) ≡ row_depth 0 d
name_depth t b d e =
    let a = plain_depth Primary refl 0 (Then (Leaf t) d) in let f = opens_name t.kind b e in let c = then_depth 0 (Leaf t) d in
    let g : row_depth (depth_behind 0 (Leaf t)) d ≡ row_depth 0 d = ap (λ n. row_depth n d) (leaf_depth 0 t) in
    omega arith

pub name_is : (ts : List Token) (i k : ℕ) (n : NameRead) (r : Operand) → i < length ts → PassedName ts i n → IsNamed n.name ts n.next k r → IsOperand Primary ts i k r
name_is ts i k n r h p a =
    let t = p.passed.token in
    let b = p.passed.fits in
    let is : next_kind (drop i ts) ≡ kinds.Name b.0 = ap next_kind p.passed.is ∙ b.1 in
    let c = name_depth t b.0 (Then a.derivation NoMore) b.1 in
    let d = then_depth 0 a.derivation NoMore in let e = none_depth (depth_behind 0 a.derivation) in
    let f = a.height in let g = a.shallow in let l = a.further in let m = p.passed.further in
    record {
      derivation = Node Primary (Then (Leaf t) (Then a.derivation NoMore));
      is = node ts i h (name_parts b.0 is) (and_then (pass p.passed) a.is);
      tree = name_tree t a.derivation ∙ a.tree t p.name;
      height = omega arith;
      shallow = a.shallow;
      further = omega arith;
      within = a.within;
    }

pub name_opens : (ts : List Token) (i : ℕ) (n : NameRead) → i < length ts → PassedName ts i n → Opens Primary AName (A NameRest ∷ []) ts i n.next 0
name_opens ts i n h p =
    let b = p.passed.fits in
    record { passed = p.passed; here = h; parts = name_parts b.0 (ap next_kind p.passed.is ∙ b.1); counts = λ d. opens_name p.passed.token.kind b.0 b.1; plain = refl }

pub name_stops : (ts : List Token) (i k : ℕ) (n : NameRead) (s : Stop) → i < length ts → PassedName ts i n → Stops (A NameRest ∷ []) (drop n.next ts) ts k 0 s → Stops (A Primary ∷ []) (drop i ts) ts k 0 s
name_stops ts i k n s h p w = stops_opened k s (name_opens ts i n h p) (subst (λ m. Stops (A NameRest ∷ []) (drop n.next ts) ts m 0 s) (let e : k ≡ k + 0 = omega arith in e) w)

-- no primary expression

pub no_primary : (k : TokenKind) → ((m : Mark) → k ≡ kinds.Mark m → m ≡ marks.OpenParenthesis → ⊥) → ((z : _) → k ≡ kinds.Number z → ⊥) → ((b : List ℕ) → k ≡ kinds.Name b → ⊥) → parts_of Primary k ≡ None
unfolding parts_of
no_primary (kinds.Number z) m n b = absurd (n z refl)
no_primary (kinds.Name x) m n b = absurd (b x refl)
no_primary (kinds.Mark marks.OpenParenthesis) m n b = absurd (m marks.OpenParenthesis refl refl)
no_primary k m n b = refl

-- operators with one operand

unary_tree : (t : Token) (x : Derivation One) → expression_of (Node (Level 0) (Then (Leaf t) (Then x NoMore))) ≡ syntax.Unary (unary_of t.kind) (expression_of x)
unfolding expression_of
unary_tree t x = refl

pub unary_is : (ts : List Token) (i k : ℕ) (inner r : Operand) (o : Opens (Level 0) (The (next_kind (drop i ts))) (A (Level 0) ∷ []) ts i (i + 1) 1) → IsOperand (Level 0) ts (i + 1) (k + 1) inner
    → phrase_of r.expression ≡ syntax.Unary (unary_of (next_kind (drop i ts))) (phrase_of inner.expression) → r.height ≡ 1 + inner.height → r.next ≡ inner.next → IsOperand (Level 0) ts i k r
unary_is ts i k inner r o a e h n =
    let y = opened o a.is in
    let t = o.passed.token in
    let b = y.depth in let c = then_depth 0 a.derivation NoMore in let d = none_depth (depth_behind 0 a.derivation) in
    let f = a.height in let g = a.shallow in let l = a.further in let m = a.within in
    let q : syntax.Unary (unary_of t.kind) (expression_of a.derivation) ≡ syntax.Unary (unary_of (next_kind (drop i ts))) (phrase_of inner.expression) = let u = a.tree in let v = o.passed.fits in cc in
    record {
      derivation = Node (Level 0) (Then (Leaf t) (Then a.derivation NoMore));
      is = same_next ts (sym n) y.is;
      tree = unary_tree t a.derivation ∙ q ∙ sym e;
      height = omega arith;
      shallow = omega arith;
      further = omega arith;
      within = omega arith;
    }

primary_tree : (x : Derivation One) → OfPhrase Primary x → expression_of (Node (Level 0) (Then x NoMore)) ≡ expression_of x
unfolding expression_of
primary_tree x s = let P : Derivation One → Type 0 = λ y. expression_of (Node (Level 0) (Then y NoMore)) ≡ expression_of y in subst P (sym s.is) refl

-- Level 0 with a phrase first
pub itself_none : (x : Derivation One) (d : Derivation Row) (p : Phrase) → OfPhrase p x → itself (Level 0) (Then x d) ≡ 0
itself_none x d p s = let P : Derivation One → Type 0 = λ y. itself (Level 0) (Then y d) ≡ 0 in subst P (sym s.is) refl

pub alone_depth : (x : Derivation One) → row_depth 0 (Then x NoMore) ≡ depth_behind 0 x
alone_depth x = then_depth 0 x NoMore ∙ none_depth (depth_behind 0 x)

pub primary_is : (ts : List Token) (i k : ℕ) (r : Operand) → i < length ts → parts_of (Level 0) (next_kind (drop i ts)) ≡ Some (A Primary ∷ []) → IsOperand Primary ts i k r → IsOperand (Level 0) ts i k r
primary_is ts i k r h e a =
    let x = a.derivation in
    let s = of_phrase a.is in
    let b = plain_depth (Level 0) refl 0 (Then x NoMore) in let c = itself_none x NoMore Primary s in let d = alone_depth x in let f = a.height in
    record { derivation = Node (Level 0) (Then x NoMore); is = node ts i h e a.is; tree = primary_tree x s ∙ a.tree; height = omega arith; shallow = a.shallow; further = a.further; within = a.within }

stuck_itself : {p : Phrase} {a b : List Token} {d : Derivation Row} → Stuck (A p ∷ []) a d b → itself (Level 0) d ≡ 0
stuck_itself (unfit n u) = refl
stuck_itself (read_behind f s) = absurd f
stuck_itself (no_phrase p n) = refl
stuck_itself (inside p inner k s) = refl
stuck_itself (after p inner k i s) = refl

begins_itself : {p : Phrase} {a b : List Token} {d : Derivation Row} → Begins (A p ∷ []) a d b → itself (Level 0) d ≡ 0
begins_itself reached = refl
begins_itself (reached_behind f s) = absurd f
begins_itself (reached_inside p inner k s) = refl
begins_itself (reached_after p inner k i s) = refl

pub primary_stops : (ts : List Token) (i k : ℕ) (s : Stop) → i < length ts → parts_of (Level 0) (next_kind (drop i ts)) ≡ Some (A Primary ∷ []) → Stops (A Primary ∷ []) (drop i ts) ts k 0 s → Stops (A (Level 0) ∷ []) (drop i ts) ts k 0 s
primary_stops ts i k s h e w =
    stops_node (Level 0) (A Primary ∷ []) ts i k 0 k 0 s h e
    (λ d rest o f. let a = plain_depth (Level 0) refl 0 d in let b = stuck_itself o in omega arith)
    (λ d rest o f. let a = plain_depth (Level 0) refl 0 d in let b = begins_itself o in omega arith) w

-- operators with two operands

at_rest : (left n : ℕ) (d : Derivation Row) → depth_behind left (Node (LevelRest n) d) ≡ operator_depth left d
unfolding depth_behind
at_rest left n d = refl

at_mark : (left : ℕ) (t : Token) → operator_depth left (Then (Leaf t) NoMore) ≡ suc left
unfolding operator_depth
at_mark left t = refl

at_right : (left : ℕ) (t : Token) (x : Derivation One) (d : Derivation Row) → operator_depth left (Then (Leaf t) (Then x d)) ≡ row_depth (suc (max left (depth_behind 0 x))) d
unfolding operator_depth
at_right left t x d = refl

at_no_mark : (left : ℕ) → operator_depth left NoMore ≡ left
unfolding operator_depth
at_no_mark left = refl

data Single : Derivation Row → Type 0 where
  none : Single NoMore
  single : (x : Derivation One) → Single (Then x NoMore)

stuck_single : {p : Phrase} {a b : List Token} {d : Derivation Row} → Stuck (A p ∷ []) a d b → Single d
stuck_single (unfit n u) = none
stuck_single (read_behind f s) = absurd f
stuck_single (no_phrase p n) = none
stuck_single (inside p inner {d} k s) = single (Node p d)
stuck_single (after p inner k i s) = absurd (no_parts refl s)

begins_single : {p : Phrase} {a b : List Token} {d : Derivation Row} → Begins (A p ∷ []) a d b → Single d
begins_single reached = none
begins_single (reached_behind f s) = absurd f
begins_single (reached_inside p inner {d} k s) = single (Node p d)
begins_single (reached_after p inner {d} k i reached) = single (Node p d)

single_depth : (left : ℕ) (t : Token) {d : Derivation Row} → Single d → operator_depth left (Then (Leaf t) d) ≡ suc (max left (row_depth 0 d))
single_depth left t none = let a = at_mark left t in let b = none_depth 0 in omega arith
single_depth left t (single x) =
    let a = at_right left t x NoMore in let b = none_depth (suc (max left (depth_behind 0 x))) in let c = alone_depth x in omega arith

rest_parts : (n : ℕ) (k : TokenKind) → parts_of (LevelRest n) k ≡ Some (if nat_eq (strength k) n then (The k ∷ A (Level n) ∷ A (LevelRest n) ∷ []) else [])
unfolding parts_of
rest_parts n k = refl

rest_none_by : (n : ℕ) (k : TokenKind) (b : Bool) → nat_eq (strength k) n ≡ b → strength k ≢ n → parts_of (LevelRest n) k ≡ Some []
rest_none_by n k true e h = absurd (h (eqb-true (strength k) n e))
rest_none_by n k false e h = rest_parts n k ∙ ap (λ (c : Bool). Some (if c then (The k ∷ A (Level n) ∷ A (LevelRest n) ∷ []) else [])) e

rest_none : (n : ℕ) (k : TokenKind) → strength k ≢ n → parts_of (LevelRest n) k ≡ Some []
rest_none n k h = rest_none_by n k (nat_eq (strength k) n) refl h

rest_some : (n : ℕ) (k : TokenKind) → strength k ≡ n → parts_of (LevelRest n) k ≡ Some (The k ∷ A (Level n) ∷ A (LevelRest n) ∷ [])
rest_some n k h = rest_parts n k ∙ ap (λ (c : Bool). Some (if c then (The k ∷ A (Level n) ∷ A (LevelRest n) ∷ []) else [])) (eq-eqb (strength k) n h)

-- an operator of this strength at a place
pub record Operates (n : ℕ) (ts : List Token) (i : ℕ) : Type 0 where
  pub here : i < length ts
  pub passed : Passed (The (next_kind (drop i ts))) ts i (i + 1)
  pub parts : parts_of (LevelRest n) (next_kind (drop i ts)) ≡ Some (The (next_kind (drop i ts)) ∷ A (Level n) ∷ A (LevelRest n) ∷ [])

not_end : (k : TokenKind) (n : ℕ) → strength k ≡ n → n ≤ 9 → k ≢ kinds.End
not_end k n e h f = let g : strength k ≡ 10 = ap strength f in absurd (omega arith)

pub operates : (n : ℕ) (ts : List Token) (i : ℕ) → Ended ts → i < length ts → n ≤ 9 → strength (next_kind (drop i ts)) ≡ n → Operates n ts i
operates n ts i e h l s =
    let k = next_kind (drop i ts) in
    record { here = h; passed = passes {part = The k} ts i k e h refl (not_end k n s l) refl; parts = rest_some n k s }

behind_nothing : (left : syntax.Phrase One) (n : ℕ) → behind left (Node (LevelRest n) NoMore) ≡ left
unfolding behind
behind_nothing left n = refl

pub rest_is_none : (n : ℕ) (ts : List Token) (k : ℕ) (left : Operand) → left.next < length ts → k + left.height ≤ 200 → strength (next_kind (drop left.next ts)) ≢ n
    → IsBehind n (phrase_of left.expression) left.height ts left.next k left
rest_is_none n ts k left h l s =
    record {
      derivation = Node (LevelRest n) NoMore;
      is = node ts left.next h (rest_none n (next_kind (drop left.next ts)) s) nothing;
      tree = behind_nothing (phrase_of left.expression) n;
      height = at_rest left.height n NoMore ∙ at_no_mark left.height;
      shallow = l;
      further = omega arith;
      within = h;
    }

pub rest_too_deep : (n : ℕ) (ts : List Token) (i k left : ℕ) → Operates n ts i → 200 ≤ k + left → Stops (A (LevelRest n) ∷ []) (drop i ts) ts k left TooDeep
rest_too_deep n ts i k left o h =
    let t = o.passed.token in
    let x = Node (LevelRest n) (Then (Leaf t) NoMore) in
    let a = then_depth left x NoMore in let b = none_depth (depth_behind left x) in let c = at_rest left n (Then (Leaf t) NoMore) in let d = at_mark left t in
    record { derivation = Then x NoMore; rest = drop (i + 1) ts; begins = begins_node ts i o.here o.parts (begins_after (pass o.passed) reached); deep = omega arith }

pub right_stops : (n : ℕ) (ts : List Token) (i k left : ℕ) (s : Stop) → Operates n ts i → k + left < 200 → Stops (A (Level n) ∷ []) (drop (i + 1) ts) ts (k + 1) 0 s → Stops (A (LevelRest n) ∷ []) (drop i ts) ts k left s
right_stops n ts i k left (Unexpected j) o h w =
    let t = o.passed.token in let d = w.1.derivation in
    let x = Node (LevelRest n) (Then (Leaf t) d) in
    let a = then_depth left x NoMore in let b = none_depth (depth_behind left x) in let c = at_rest left n (Then (Leaf t) d) in let e = single_depth left t (stuck_single w.1.stuck) in let g = w.1.shallow in
    (w.0, record { derivation = Then x NoMore; stuck = stuck_node ts i o.here o.parts (stuck_after (pass o.passed) (stuck_first w.1.stuck)); shallow = omega arith })
right_stops n ts i k left TooDeep o h w =
    let t = o.passed.token in let d = w.derivation in
    let x = Node (LevelRest n) (Then (Leaf t) d) in
    let a = then_depth left x NoMore in let b = none_depth (depth_behind left x) in let c = at_rest left n (Then (Leaf t) d) in let e = single_depth left t (begins_single w.begins) in let g = w.deep in
    record { derivation = Then x NoMore; rest = w.rest; begins = begins_node ts i o.here o.parts (begins_after (pass o.passed) (begins_first w.begins)); deep = omega arith }
right_stops n ts i k left NoMemory o h w = tt

behind_more : (left : syntax.Phrase One) (n : ℕ) (t : Token) (x y : Derivation One) → behind left (Node (LevelRest n) (Then (Leaf t) (Then x (Then y NoMore)))) ≡ behind (joined t.kind left (expression_of x)) y
unfolding behind
behind_more left n t x y = refl

pub more_is : (n : ℕ) (ts : List Token) (i k : ℕ) (left : syntax.Phrase One) (left_height : ℕ) (right both r : Operand) → Operates n ts i → IsOperand (Level n) ts (i + 1) (k + 1) right
    → phrase_of both.expression ≡ joined (next_kind (drop i ts)) left (phrase_of right.expression) → both.height ≡ 1 + max left_height right.height → both.next ≡ right.next
    → IsBehind n (phrase_of both.expression) both.height ts both.next k r → IsBehind n left left_height ts i k r
more_is n ts i k left left_height right both r o a e h m b =
    let t = o.passed.token in let x = a.derivation in let y = b.derivation in
    let mid : Is (A (LevelRest n) ∷ []) (drop right.next ts) (Then y NoMore) (drop r.next ts) = subst (λ z. Is (A (LevelRest n) ∷ []) (drop z ts) (Then y NoMore) (drop r.next ts)) m b.is in
    let same : joined t.kind left (expression_of x) ≡ phrase_of both.expression = let u = a.tree in let v = o.passed.fits in cc in
    let c = at_rest left_height n (Then (Leaf t) (Then x (Then y NoMore))) in let d = at_right left_height t x (Then y NoMore) in
    let f = then_depth (suc (max left_height (depth_behind 0 x))) y NoMore in let g = none_depth (depth_behind (suc (max left_height (depth_behind 0 x))) y) in
    let p = a.height in
    let q : suc (max left_height (depth_behind 0 x)) ≡ both.height = omega arith in
    let z : depth_behind (suc (max left_height (depth_behind 0 x))) y ≡ depth_behind both.height y = ap (λ l. depth_behind l y) q in
    let w = b.height in let v = a.further in let u = b.further in
    record {
      derivation = Node (LevelRest n) (Then (Leaf t) (Then x (Then y NoMore)));
      is = node ts i o.here o.parts (and_then (pass o.passed) (and_then a.is mid));
      tree = behind_more left n t x y ∙ ap (λ l. behind l y) same ∙ b.tree;
      height = omega arith;
      shallow = b.shallow;
      further = omega arith;
      within = b.within;
    }

pub more_stops : (n : ℕ) (ts : List Token) (i k left : ℕ) (right both : Operand) (s : Stop) → Operates n ts i → IsOperand (Level n) ts (i + 1) (k + 1) right
    → both.height ≡ 1 + max left right.height → both.next ≡ right.next → Stops (A (LevelRest n) ∷ []) (drop both.next ts) ts k both.height s → Stops (A (LevelRest n) ∷ []) (drop i ts) ts k left s
more_stops n ts i k left right both (Unexpected j) o a h m w =
    let t = o.passed.token in let x = a.derivation in let d = w.1.derivation in
    let mid : Stuck (A (LevelRest n) ∷ []) (drop right.next ts) d (drop j ts) = subst (λ z. Stuck (A (LevelRest n) ∷ []) (drop z ts) d (drop j ts)) m w.1.stuck in
    let y = Node (LevelRest n) (Then (Leaf t) (Then x d)) in
    let b = then_depth left y NoMore in let c = none_depth (depth_behind left y) in let e = at_rest left n (Then (Leaf t) (Then x d)) in let f = at_right left t x d in let p = a.height in
    let q : suc (max left (depth_behind 0 x)) ≡ both.height = omega arith in
    let z : row_depth (suc (max left (depth_behind 0 x))) d ≡ row_depth both.height d = ap (λ l. row_depth l d) q in let g = w.1.shallow in
    (w.0, record { derivation = Then y NoMore; stuck = stuck_node ts i o.here o.parts (stuck_after (pass o.passed) (stuck_after a.is mid)); shallow = omega arith })
more_stops n ts i k left right both TooDeep o a h m w =
    let t = o.passed.token in let x = a.derivation in let d = w.derivation in
    let mid : Begins (A (LevelRest n) ∷ []) (drop right.next ts) d w.rest = subst (λ z. Begins (A (LevelRest n) ∷ []) (drop z ts) d w.rest) m w.begins in
    let y = Node (LevelRest n) (Then (Leaf t) (Then x d)) in
    let b = then_depth left y NoMore in let c = none_depth (depth_behind left y) in let e = at_rest left n (Then (Leaf t) (Then x d)) in let f = at_right left t x d in let p = a.height in
    let q : suc (max left (depth_behind 0 x)) ≡ both.height = omega arith in
    let z : row_depth (suc (max left (depth_behind 0 x))) d ≡ row_depth both.height d = ap (λ l. row_depth l d) q in let g = w.deep in
    record { derivation = Then y NoMore; rest = w.rest; begins = begins_node ts i o.here o.parts (begins_after (pass o.passed) (begins_after a.is mid)); deep = omega arith }
more_stops n ts i k left right both NoMemory o a h m w = tt

-- levels

level_parts : (n : ℕ) (k : TokenKind) → parts_of (Level (suc n)) k ≡ Some (A (Level n) ∷ A (LevelRest n) ∷ [])
unfolding parts_of
level_parts n k = refl

level_tree : (n : ℕ) (x y : Derivation One) → expression_of (Node (Level (suc n)) (Then x (Then y NoMore))) ≡ behind (expression_of x) y
unfolding expression_of
level_tree n x y = refl

pub pair_depth : (p : Phrase) (x y : Derivation One) → is_plain p ≡ true → itself p (Then x (Then y NoMore)) ≡ 0 → depth_behind 0 (Node p (Then x (Then y NoMore))) ≡ depth_behind (depth_behind 0 x) y
pair_depth p x y h e =
    let a = plain_depth p h 0 (Then x (Then y NoMore)) in let b = then_depth 0 x (Then y NoMore) in let c = then_depth (depth_behind 0 x) y NoMore in let d = none_depth (depth_behind (depth_behind 0 x) y) in omega arith

pub level_is : (n : ℕ) (ts : List Token) (i k : ℕ) (left r : Operand) → i < length ts → IsOperand (Level n) ts i k left → IsBehind n (phrase_of left.expression) left.height ts left.next k r → IsOperand (Level (suc n)) ts i k r
level_is n ts i k left r h a b =
    let x = a.derivation in let y = b.derivation in
    let c = pair_depth (Level (suc n)) x y refl refl in
    let d : depth_behind (depth_behind 0 x) y ≡ depth_behind left.height y = ap (λ l. depth_behind l y) a.height in
    let e = b.height in let f = a.further in let g = b.further in
    record {
      derivation = Node (Level (suc n)) (Then x (Then y NoMore));
      is = node ts i h (level_parts n (next_kind (drop i ts))) (and_then a.is b.is);
      tree = level_tree n x y ∙ ap (λ l. behind l y) a.tree ∙ b.tree;
      height = omega arith;
      shallow = b.shallow;
      further = omega arith;
      within = b.within;
    }

pub level_first : (n : ℕ) (ts : List Token) (i k : ℕ) (s : Stop) → i < length ts → Stops (A (Level n) ∷ []) (drop i ts) ts k 0 s → Stops (A (Level (suc n)) ∷ []) (drop i ts) ts k 0 s
level_first n ts i k s h w =
    stops_quiet (Level (suc n)) (A (Level n) ∷ A (LevelRest n) ∷ []) ts i k s refl refl h (level_parts n (next_kind (drop i ts))) (stops_first (A (Level n)) (A (LevelRest n) ∷ []) (drop i ts) ts k 0 s w)

pub level_then : (n : ℕ) (ts : List Token) (i k : ℕ) (left : Operand) (s : Stop) → i < length ts → IsOperand (Level n) ts i k left → Stops (A (LevelRest n) ∷ []) (drop left.next ts) ts k left.height s
    → Stops (A (Level (suc n)) ∷ []) (drop i ts) ts k 0 s
level_then n ts i k left s h a w =
    stops_quiet (Level (suc n)) (A (Level n) ∷ A (LevelRest n) ∷ []) ts i k s refl refl h (level_parts n (next_kind (drop i ts))) (stops_then (A (LevelRest n) ∷ []) ts k 0 left.height s a.is a.height w)

-- choices

at_choice : (left : ℕ) (d : Derivation Row) → depth_behind left (Node ChoiceRest d) ≡ choice_depth left d
unfolding depth_behind
at_choice left d = refl

at_question : (left : ℕ) (t : Token) (d : Derivation Row) → choice_depth left (Then (Leaf t) d) ≡ suc (max left (row_depth 0 d))
unfolding choice_depth
at_question left t d = refl

at_no_question : (left : ℕ) → choice_depth left NoMore ≡ left
unfolding choice_depth
at_no_question left = refl

choice_parts : {k : TokenKind} → k ≡ kinds.Mark marks.Question → parts_of ChoiceRest k ≡ Some (mark marks.Question ∷ A phrases.Expression ∷ mark marks.Colon ∷ A phrases.Expression ∷ [])
unfolding parts_of
choice_parts e = ap (parts_of ChoiceRest) e

pub no_choice : (k : TokenKind) → (k ≡ kinds.Mark marks.Question → ⊥) → parts_of ChoiceRest k ≡ Some []
unfolding parts_of
no_choice (kinds.Mark marks.Question) h = absurd (h refl)
no_choice k h = refl

expression_parts : (k : TokenKind) → parts_of phrases.Expression k ≡ Some (A (Level 10) ∷ A ChoiceRest ∷ [])
unfolding parts_of
expression_parts k = refl

expression_tree : (x y : Derivation One) → expression_of (Node phrases.Expression (Then x (Then y NoMore))) ≡ behind (expression_of x) y
unfolding expression_of
expression_tree x y = refl

behind_choice : (left : syntax.Phrase One) → behind left (Node ChoiceRest NoMore) ≡ left
unfolding behind
behind_choice left = refl

chosen_tree : (left : syntax.Phrase One) (t u : Token) (x y : Derivation One) → behind left (Node ChoiceRest (Then (Leaf t) (Then x (Then (Leaf u) (Then y NoMore))))) ≡ syntax.Choice left (expression_of x) (expression_of y)
unfolding behind
chosen_tree left t u x y = refl

pub test_is : (ts : List Token) (i k : ℕ) (r : Operand) → i < length ts → (next_kind (drop r.next ts) ≡ kinds.Mark marks.Question → ⊥) → IsOperand (Level 10) ts i k r → IsOperand phrases.Expression ts i k r
test_is ts i k r h n a =
    let x = a.derivation in let y = Node ChoiceRest NoMore in
    let c = pair_depth phrases.Expression x y refl refl in let d = at_choice (depth_behind 0 x) NoMore in let e = at_no_question (depth_behind 0 x) in let f = a.height in
    record {
      derivation = Node phrases.Expression (Then x (Then y NoMore));
      is = node ts i h (expression_parts (next_kind (drop i ts))) (and_then a.is (node ts r.next a.within (no_choice (next_kind (drop r.next ts)) n) nothing));
      tree = expression_tree x y ∙ behind_choice (expression_of x) ∙ a.tree;
      height = omega arith;
      shallow = a.shallow;
      further = a.further;
      within = a.within;
    }

pub test_stops : (ts : List Token) (i k : ℕ) (s : Stop) → i < length ts → Stops (A (Level 10) ∷ []) (drop i ts) ts k 0 s → Stops (A phrases.Expression ∷ []) (drop i ts) ts k 0 s
test_stops ts i k s h w =
    stops_quiet phrases.Expression (A (Level 10) ∷ A ChoiceRest ∷ []) ts i k s refl refl h (expression_parts (next_kind (drop i ts))) (stops_first (A (Level 10)) (A ChoiceRest ∷ []) (drop i ts) ts k 0 s w)

abbrev Branches : List Part
Branches = A phrases.Expression ∷ mark marks.Colon ∷ A phrases.Expression ∷ []

-- a test with `?` behind it
pub record Asks (ts : List Token) (i k : ℕ) (test : Operand) : Type 0 where
  pub here : i < length ts
  pub is : IsOperand (Level 10) ts i k test
  pub passed : Passed (mark marks.Question) ts test.next (test.next + 1)
  pub parts : parts_of ChoiceRest (next_kind (drop test.next ts)) ≡ Some (mark marks.Question ∷ Branches)

pub asks : (ts : List Token) (i k : ℕ) (test : Operand) → Ended ts → i < length ts → IsOperand (Level 10) ts i k test → next_kind (drop test.next ts) ≡ kinds.Mark marks.Question → Asks ts i k test
asks ts i k test e h a q = record { here = h; is = a; passed = passes_mark ts test.next marks.Question e a.within q; parts = choice_parts q }

question_stops : (ts : List Token) (i k left : ℕ) (s : Stop) → i < length ts → (p : Passed (mark marks.Question) ts i (i + 1)) → parts_of ChoiceRest (next_kind (drop i ts)) ≡ Some (mark marks.Question ∷ Branches)
    → k + left < 200 → Stops Branches (drop (i + 1) ts) ts (k + 1) 0 s → Stops (A ChoiceRest ∷ []) (drop i ts) ts k left s
question_stops ts i k left (Unexpected j) l p e h w =
    let t = p.token in let d = w.1.derivation in let x = Node ChoiceRest (Then (Leaf t) d) in
    let a = then_depth left x NoMore in let b = none_depth (depth_behind left x) in let c = at_choice left (Then (Leaf t) d) in let f = at_question left t d in let g = w.1.shallow in
    (w.0, record { derivation = Then x NoMore; stuck = stuck_node ts i l e (stuck_after (pass p) w.1.stuck); shallow = omega arith })
question_stops ts i k left TooDeep l p e h w =
    let t = p.token in let d = w.derivation in let x = Node ChoiceRest (Then (Leaf t) d) in
    let a = then_depth left x NoMore in let b = none_depth (depth_behind left x) in let c = at_choice left (Then (Leaf t) d) in let f = at_question left t d in let g = w.deep in
    record { derivation = Then x NoMore; rest = w.rest; begins = begins_node ts i l e (begins_after (pass p) w.begins); deep = omega arith }
question_stops ts i k left NoMemory l p e h w = tt

choice_rest_stops : (ts : List Token) (i k : ℕ) (test : Operand) (s : Stop) → Asks ts i k test → Stops (A ChoiceRest ∷ []) (drop test.next ts) ts k test.height s → Stops (A phrases.Expression ∷ []) (drop i ts) ts k 0 s
choice_rest_stops ts i k test s a w =
    stops_quiet phrases.Expression (A (Level 10) ∷ A ChoiceRest ∷ []) ts i k s refl refl a.here (expression_parts (next_kind (drop i ts))) (stops_then (A ChoiceRest ∷ []) ts k 0 test.height s a.is.is a.is.height w)

pub branches_stop : (ts : List Token) (i k : ℕ) (test : Operand) (s : Stop) → Asks ts i k test → k + test.height < 200 → Stops Branches (drop (test.next + 1) ts) ts (k + 1) 0 s → Stops (A phrases.Expression ∷ []) (drop i ts) ts k 0 s
branches_stop ts i k test s a h w = choice_rest_stops ts i k test s a (question_stops ts test.next k test.height s a.is.within a.passed a.parts h w)

pub choice_too_deep : (ts : List Token) (i k : ℕ) (test : Operand) → Asks ts i k test → 200 ≤ k + test.height → Stops (A phrases.Expression ∷ []) (drop i ts) ts k 0 TooDeep
choice_too_deep ts i k test a h =
    let t = a.passed.token in let x = Node ChoiceRest (Then (Leaf t) NoMore) in let left = test.height in
    let b = then_depth left x NoMore in let c = none_depth (depth_behind left x) in let d = at_choice left (Then (Leaf t) NoMore) in let e = at_question left t NoMore in
    let w : Deep (A ChoiceRest ∷ []) (drop test.next ts) k left = record { derivation = Then x NoMore; rest = drop (test.next + 1) ts; begins = begins_node ts test.next a.is.within a.parts (begins_after (pass a.passed) reached); deep = omega arith } in
    choice_rest_stops ts i k test TooDeep a w

pub chosen_stops : (ts : List Token) (i k : ℕ) (test : Operand) (s : Stop) → Asks ts i k test → k + test.height < 200 → Stops (A phrases.Expression ∷ []) (drop (test.next + 1) ts) ts (k + 1) 0 s → Stops (A phrases.Expression ∷ []) (drop i ts) ts k 0 s
chosen_stops ts i k test s a h w = branches_stop ts i k test s a h (stops_first (A phrases.Expression) (mark marks.Colon ∷ A phrases.Expression ∷ []) (drop (test.next + 1) ts) ts (k + 1) 0 s w)

pub operand_bound : {p : Phrase} {ts : List Token} {i k : ℕ} {r : Operand} → (a : IsOperand p ts i k r) → k + depth_behind 0 a.derivation ≤ 200
operand_bound a = let e = a.height in let f = a.shallow in omega arith

pub colon_stops : (ts : List Token) (i k : ℕ) (test chosen : Operand) (s : Stop) → Asks ts i k test → k + test.height < 200 → IsOperand phrases.Expression ts (test.next + 1) (k + 1) chosen → Misfit (mark marks.Colon) ts chosen.next s
    → Stops (A phrases.Expression ∷ []) (drop i ts) ts k 0 s
colon_stops ts i k test chosen s a h b m =
    branches_stop ts i k test s a h (stops_after (mark marks.Colon ∷ A phrases.Expression ∷ []) ts (k + 1) s b.is (operand_bound b) refl
    (stops_misfit (mark marks.Colon) (A phrases.Expression ∷ []) ts chosen.next (k + 1) 0 s (not_phrase (kinds.Mark marks.Colon)) b.within (omega arith) m))

pub other_stops : (ts : List Token) (i k j : ℕ) (test chosen : Operand) (s : Stop) → Asks ts i k test → k + test.height < 200 → IsOperand phrases.Expression ts (test.next + 1) (k + 1) chosen → Passed (mark marks.Colon) ts chosen.next j
    → Stops (A phrases.Expression ∷ []) (drop j ts) ts (k + 1) 0 s → Stops (A phrases.Expression ∷ []) (drop i ts) ts k 0 s
other_stops ts i k j test chosen s a h b p w =
    let l = leaf_depth 0 p.token in
    branches_stop ts i k test s a h (stops_after (mark marks.Colon ∷ A phrases.Expression ∷ []) ts (k + 1) s b.is (operand_bound b) refl
    (stops_after (A phrases.Expression ∷ []) ts (k + 1) s (pass p) (omega arith) refl w))

pub choice_is : (ts : List Token) (i k j : ℕ) (test chosen other r : Operand) → Asks ts i k test → k + test.height < 200 → IsOperand phrases.Expression ts (test.next + 1) (k + 1) chosen → Passed (mark marks.Colon) ts chosen.next j
    → IsOperand phrases.Expression ts j (k + 1) other → phrase_of r.expression ≡ syntax.Choice (phrase_of test.expression) (phrase_of chosen.expression) (phrase_of other.expression)
    → r.height ≡ 1 + max (max test.height chosen.height) other.height → r.next ≡ other.next → IsOperand phrases.Expression ts i k r
choice_is ts i k j test chosen other r a h b p c e g n =
    let t = a.passed.token in let w = a.is.derivation in let x = b.derivation in let y = c.derivation in
    let row : Derivation Row = Then x (Then (Leaf p.token) (Then y NoMore)) in
    let z = Node ChoiceRest (Then (Leaf t) row) in
    let d1 = pair_depth phrases.Expression w z refl refl in let d2 = at_choice (depth_behind 0 w) (Then (Leaf t) row) in let d3 = at_question (depth_behind 0 w) t row in
    let inner = and_then b.is (and_then (pass p) c.is) in
    let d4 = then_depth 0 x (Then (Leaf p.token) (Then y NoMore)) in let d5 = then_depth (depth_behind 0 x) (Leaf p.token) (Then y NoMore) in
    let d6 : row_depth (depth_behind (depth_behind 0 x) (Leaf p.token)) (Then y NoMore) ≡ row_depth (depth_behind 0 x) (Then y NoMore) = ap (λ l. row_depth l (Then y NoMore)) (leaf_depth (depth_behind 0 x) p.token) in
    let d7 = beside (is_plain_row refl c.is) (depth_behind 0 x) in let d8 = alone_depth y in
    let f1 = a.is.height in let f2 = b.height in let f3 = c.height in
    let s1 = a.is.shallow in let s2 = b.shallow in let s3 = c.shallow in
    let g1 = a.is.further in let g2 = b.further in let g3 = p.further in let g4 = c.further in let g5 = c.within in
    let same : syntax.Choice (expression_of w) (expression_of x) (expression_of y) ≡ syntax.Choice (phrase_of test.expression) (phrase_of chosen.expression) (phrase_of other.expression) = let u1 = a.is.tree in let u2 = b.tree in let u3 = c.tree in cc in
    record {
      derivation = Node phrases.Expression (Then w (Then z NoMore));
      is = same_next ts (sym n) (node ts i a.here (expression_parts (next_kind (drop i ts))) (and_then a.is.is (node ts test.next a.is.within a.parts (and_then (pass a.passed) inner))));
      tree = expression_tree w z ∙ chosen_tree (expression_of w) t p.token x y ∙ same ∙ sym e;
      height = omega arith;
      shallow = omega arith;
      further = omega arith;
      within = omega arith;
    }

-- an operand that is to be the first of a construct, or to have a mark behind it, and is not held in a box

pub choice_not_held : (ts : List Token) (i k : ℕ) (test : Operand) (s : Stop) → Asks ts i k test → (s ≡ NoMemory) ⊎ ((s ≡ TooDeep) × (200 ≤ k + test.height)) → Stops (A phrases.Expression ∷ []) (drop i ts) ts k 0 s
choice_not_held ts i k test s a (inl e) = subst (λ z. Stops (A phrases.Expression ∷ []) (drop i ts) ts k 0 z) (sym e) tt
choice_not_held ts i k test s a (inr d) = subst (λ z. Stops (A phrases.Expression ∷ []) (drop i ts) ts k 0 z) (sym d.0) (choice_too_deep ts i k test a d.1)

pub rest_not_held : (n : ℕ) (ts : List Token) (i k left : ℕ) (s : Stop) → Operates n ts i → (s ≡ NoMemory) ⊎ ((s ≡ TooDeep) × (200 ≤ k + left)) → Stops (A (LevelRest n) ∷ []) (drop i ts) ts k left s
rest_not_held n ts i k left s o (inl e) = subst (λ z. Stops (A (LevelRest n) ∷ []) (drop i ts) ts k left z) (sym e) tt
rest_not_held n ts i k left s o (inr d) = subst (λ z. Stops (A (LevelRest n) ∷ []) (drop i ts) ts k left z) (sym d.0) (rest_too_deep n ts i k left o d.1)

pub colon_not_held : (ts : List Token) (i k : ℕ) (test chosen : Operand) (s : Stop) → Asks ts i k test → k + test.height < 200 → IsOperand phrases.Expression ts (test.next + 1) (k + 1) chosen
    → (s ≡ NoMemory) ⊎ Misfit (mark marks.Colon) ts chosen.next s → Stops (A phrases.Expression ∷ []) (drop i ts) ts k 0 s
colon_not_held ts i k test chosen s a h b (inl e) = subst (λ z. Stops (A phrases.Expression ∷ []) (drop i ts) ts k 0 z) (sym e) tt
colon_not_held ts i k test chosen s a h b (inr m) = colon_stops ts i k test chosen s a h b m

pub end_not_held : {p r : Phrase} {q : Part} {z : TokenKind} {ts : List Token} {i j : ℕ} {inner : Operand} (k : ℕ) (s : Stop) → Opens p q (A r ∷ The z ∷ []) ts i j 1 → IsOperand r ts j (k + 1) inner
    → (s ≡ NoMemory) ⊎ Misfit (The z) ts inner.next s → Stops (A p ∷ []) (drop i ts) ts k 0 s
end_not_held {p} {ts} {i} k s o a (inl e) = subst (λ y. Stops (A p ∷ []) (drop i ts) ts k 0 y) (sym e) tt
end_not_held k s o a (inr m) = enclosed_end k s o a.is (operand_bound a) a.within m
