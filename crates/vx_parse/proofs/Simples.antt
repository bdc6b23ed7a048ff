-- Simple statements and declarations, part by part.
use Rattle.std.proofs.Common.{◌≡◌, ◌≢◌, ◌≤◌, ◌<◌, ◌+◌, ℕ, List, [], ◌∷◌, ◌++◌, length, drop, Some, refl, sym, ap, ◌∙◌, subst, arith}
use Rattle.vx_ast.specs.declared.syntax.Name.{Name}
use Rattle.vx_ast.specs.declared.syntax.Place.{Place}
use Rattle.vx_ast.specs.declared.syntax.Simple.{Simple}
use Rattle.vx_ast.specs.declared.syntax.Item.{Item}
use Rattle.vx_ast.specs.declared.token.Mark.TheVariants as marks
use Rattle.vx_ast.specs.declared.token.TokenKind.{TokenKind}
use Rattle.vx_ast.specs.declared.token.TokenKind.TheVariants as kinds
use Rattle.vx_ast.specs.declared.token.Token.{Token}
use Rattle.vx_ast.specs.Tree.{One, Row}
use Rattle.vx_ast.specs.Syntax as syntax
use Rattle.vx_ast.specs.SyntaxView as view
use Rattle.vx_ast.specs.SyntaxView.{phrase_of}
use Rattle.vx_ast.specs.Phrases as phrases
use Rattle.vx_ast.specs.Phrases.{Phrase, SimpleRest, ItemValue, MoreItems, Level, Part, The, AName, ANumber, A, mark, simple_rest, parts_of, Derivation, Leaf, Node, NoMore, Then}
use Rattle.vx_ast.specs.Derivations.{name_of, size_of, expression_of, target_of, stepped, assigned, done_to, action_of, valued, item_of, more_items_of}
use Rattle.vx_parse.specs.declared.expression.Operand.{Operand}
use Rattle.vx_parse.specs.declared.token.NameRead.{NameRead}
use Rattle.vx_parse.specs.declared.token.SizeRead.{SizeRead}
use Rattle.vx_parse.specs.declared.simple.ItemRead.{ItemRead}
use Rattle.vx_parse.specs.declared.simple.ItemsRead.{ItemsRead}
use Rattle.vx_parse.specs.Reading.{next_kind, next_place, Ended, Passed, PassedName, PassedSize, Parted, IsPhrase, IsOperand, Continues}
use Rattle.vx_parse.specs.Statements.{MeansAction, MeansDone, MeansItem, MeansValue, MeansItems, AreItems, ItemsBehind, row_inside}
use Rattle.vx_parse.proofs.Tokens.{passes}
use Rattle.vx_parse.proofs.Leads.{Leads, begins_at}
use Rattle.vx_parse.proofs.Expressions.{OfPhrase, of_phrase, alone_depth}
use Rattle.vx_parse.proofs.Parts.{Before, begin, past_token, past_phrase, ends, quietly}

pub operand_parted : {p : Phrase} {ts : List Token} {i k : ℕ} {r : Operand} (a : IsOperand p ts i k r) → Parted (A p ∷ []) ts i r.next k (Then a.derivation NoMore)
operand_parted a = let e = alone_depth a.derivation in let f = a.height in let g = a.shallow in let h = a.further in record { is = a.is; shallow = omega arith; further = omega arith; within = a.within }

pub parted_to : {ps : List Part} {ts : List Token} {i j m k : ℕ} {d : Derivation Row} → j ≡ m → Parted ps ts i j k d → Parted ps ts i m k d
parted_to {ps} {ts} {i} {k} {d} e a = subst (λ n. Parted ps ts i n k d) e a

same_target : (a b : syntax.Target) → a.place ≡ b.place → a.phrase ≡ b.phrase → a ≡ b
same_target a b p q =
    let first : a ≡ record { place = b.place; phrase = a.phrase } = ap (λ (z : Place). let n : syntax.Target = record { place = z; phrase = a.phrase } in n) p in
    let second : record { place = b.place; phrase = a.phrase } ≡ b = ap (λ (z : syntax.Phrase One). let n : syntax.Target = record { place = b.place; phrase = z } in n) q in
    first ∙ second

target_is : {p : Phrase} {ts : List Token} {i k : ℕ} {r : Operand} (a : IsOperand p ts i k r) (place : Place) → Leads p → i < length ts → place ≡ next_place (drop i ts) → target_of a.derivation ≡ record { place = place; phrase = phrase_of r.expression }
target_is {ts} {i} {r} a place l h e = same_target (target_of a.derivation) (record { place = place; phrase = phrase_of r.expression }) (begins_at ts i l h a.is ∙ sym e) a.tree

pub expression_target : {ts : List Token} {i k : ℕ} {r : Operand} (a : IsOperand phrases.Expression ts i k r) (place : Place) → i < length ts → place ≡ next_place (drop i ts) → target_of a.derivation ≡ record { place = place; phrase = phrase_of r.expression }
expression_target a place h e = target_is a place tt h e

pub unary_target : {ts : List Token} {i k : ℕ} {r : Operand} (a : IsOperand (Level 0) ts i k r) (place : Place) → i < length ts → place ≡ next_place (drop i ts) → target_of a.derivation ≡ record { place = place; phrase = phrase_of r.expression }
unary_target a place h e = target_is a place tt h e

-- `++` and `--` in front

simple_not_end : (k : TokenKind) → parts_of phrases.Simple k ≡ Some (The k ∷ A (Level 0) ∷ []) → k ≢ kinds.End
unfolding parts_of
simple_not_end k e h = let f : parts_of phrases.Simple kinds.End ≡ Some (The k ∷ A (Level 0) ∷ []) = ap (parts_of phrases.Simple) (sym h) ∙ e in cc

pub step_passed : (ts : List Token) (i : ℕ) → Ended ts → i < length ts → parts_of phrases.Simple (next_kind (drop i ts)) ≡ Some (The (next_kind (drop i ts)) ∷ A (Level 0) ∷ []) → Passed (The (next_kind (drop i ts))) ts i (i + 1)
step_passed ts i e h p = let n = next_kind (drop i ts) in passes {part = The n} ts i n e h refl (simple_not_end n p) refl

pub step_before : (ts : List Token) (i k : ℕ) → (c : Passed (The (next_kind (drop i ts))) ts i (i + 1)) → i < length ts → k ≤ 200 → parts_of phrases.Simple (next_kind (drop i ts)) ≡ Some (The (next_kind (drop i ts)) ∷ A (Level 0) ∷ [])
    → Before (A phrases.Simple ∷ []) ts i k (λ d. Then (Node phrases.Simple (Then (Leaf c.token) d)) NoMore) (A (Level 0) ∷ []) (i + 1) k
step_before ts i k c h l p = past_token (quietly phrases.Simple (The (next_kind (drop i ts)) ∷ A (Level 0) ∷ []) ts i k refl refl refl l h p) c

step_tree : (t : Token) (x : Derivation One) → action_of (Node phrases.Simple (Then (Leaf t) (Then x NoMore))) ≡ stepped t.kind (target_of x)
unfolding action_of
step_tree t x = refl

two_steps : {a b : TokenKind} {x y : syntax.Target} → a ≡ b → x ≡ y → stepped a x ≡ stepped b y
two_steps {a} {y} p q = ap (stepped a) q ∙ ap (λ k. stepped k y) p

pub stepped_is : (ts : List Token) (i k : ℕ) (operand : Operand) (kind : TokenKind) (place : Place) (simple : Simple) (c : Passed (The (next_kind (drop i ts))) ts i (i + 1)) → i < length ts → k ≤ 200
    → parts_of phrases.Simple (next_kind (drop i ts)) ≡ Some (The (next_kind (drop i ts)) ∷ A (Level 0) ∷ []) → IsOperand (Level 0) ts (i + 1) k operand → kind ≡ next_kind (drop i ts) → place ≡ next_place (drop (i + 1) ts)
    → view.action_of simple ≡ stepped kind (record { place = place; phrase = phrase_of operand.expression }) → IsPhrase phrases.Simple ts i (i + 1) operand.next k (MeansAction simple)
stepped_is ts i k operand kind place simple c h l p a e f s =
    let b = past_phrase (step_before ts i k c h l p) (operand_parted a) in
    let g = a.further in
    let t : c.token.kind ≡ kind = c.fits ∙ sym e in
    record {
      derivation = Node phrases.Simple (Then (Leaf c.token) (Then a.derivation NoMore));
      parted = ends b;
      means = step_tree c.token a.derivation ∙ two_steps t (unary_target a place c.within f) ∙ sym s;
      further = omega arith;
    }

-- what stands behind an expression

rest_parts : (k : TokenKind) → parts_of SimpleRest k ≡ Some (simple_rest k)
unfolding parts_of
rest_parts k = refl

pub rest_are : (k : TokenKind) {ps : List Part} → simple_rest k ≡ ps → parts_of SimpleRest k ≡ Some ps
rest_are k e = rest_parts k ∙ ap Some e

rest_not_end : (k : TokenKind) (ps : List Part) → simple_rest k ≡ The k ∷ ps → k ≢ kinds.End
rest_not_end k ps e h = let f : simple_rest kinds.End ≡ The k ∷ ps = ap simple_rest (sym h) ∙ e in cc

-- a mark behind an expression
pub rest_passed : (ts : List Token) (i : ℕ) (ps : List Part) → Ended ts → i < length ts → simple_rest (next_kind (drop i ts)) ≡ The (next_kind (drop i ts)) ∷ ps → Passed (The (next_kind (drop i ts))) ts i (i + 1)
rest_passed ts i ps e h s = let n = next_kind (drop i ts) in passes {part = The n} ts i n e h refl (rest_not_end n ps s) refl

pub step_rest : (ts : List Token) (i k : ℕ) (c : Passed (The (next_kind (drop i ts))) ts i (i + 1)) → i < length ts → k ≤ 200 → simple_rest (next_kind (drop i ts)) ≡ The (next_kind (drop i ts)) ∷ []
    → Before (A SimpleRest ∷ []) ts i k (λ d. Then (Node SimpleRest (Then (Leaf c.token) d)) NoMore) [] (i + 1) k
step_rest ts i k c h l s = past_token (quietly SimpleRest (The (next_kind (drop i ts)) ∷ []) ts i k refl refl refl l h (rest_are (next_kind (drop i ts)) s)) c

pub value_rest : (ts : List Token) (i k : ℕ) (c : Passed (The (next_kind (drop i ts))) ts i (i + 1)) → i < length ts → k ≤ 200 → simple_rest (next_kind (drop i ts)) ≡ The (next_kind (drop i ts)) ∷ A phrases.Expression ∷ []
    → Before (A SimpleRest ∷ []) ts i k (λ d. Then (Node SimpleRest (Then (Leaf c.token) d)) NoMore) (A phrases.Expression ∷ []) (i + 1) k
value_rest ts i k c h l s = past_token (quietly SimpleRest (The (next_kind (drop i ts)) ∷ A phrases.Expression ∷ []) ts i k refl refl refl l h (rest_are (next_kind (drop i ts)) s)) c

pub step_behind : (ts : List Token) (i k : ℕ) (kind : TokenKind) (target : syntax.Target) (simple : Simple) (c : Passed (The (next_kind (drop i ts))) ts i (i + 1)) → i < length ts → k ≤ 200
    → simple_rest (next_kind (drop i ts)) ≡ The (next_kind (drop i ts)) ∷ [] → kind ≡ next_kind (drop i ts) → view.action_of simple ≡ stepped kind target → IsPhrase SimpleRest ts i i (i + 1) k (MeansDone target simple)
step_behind ts i k kind target simple c h l s e f =
    let t : c.token.kind ≡ kind = c.fits ∙ sym e in
    record {
      derivation = Node SimpleRest (Then (Leaf c.token) NoMore);
      parted = ends (step_rest ts i k c h l s);
      means = λ x same. two_steps t same ∙ sym f;
      further = omega arith;
    }

three_assigned : {a b : TokenKind} {x y : syntax.Target} {v w : syntax.Phrase One} → a ≡ b → x ≡ y → v ≡ w → assigned a x v ≡ assigned b y w
three_assigned {a} {b} {x} {y} {v} {w} p q r = ap (λ z. assigned a z v) q ∙ ap (λ z. assigned a y z) r ∙ ap (λ z. assigned z y w) p

pub value_behind : (ts : List Token) (i k : ℕ) (value : Operand) (kind : TokenKind) (target : syntax.Target) (simple : Simple) (c : Passed (The (next_kind (drop i ts))) ts i (i + 1)) → i < length ts → k ≤ 200
    → simple_rest (next_kind (drop i ts)) ≡ The (next_kind (drop i ts)) ∷ A phrases.Expression ∷ [] → IsOperand phrases.Expression ts (i + 1) k value → kind ≡ next_kind (drop i ts)
    → view.action_of simple ≡ assigned kind target (phrase_of value.expression) → IsPhrase SimpleRest ts i i value.next k (MeansDone target simple)
value_behind ts i k value kind target simple c h l s a e f =
    let t : c.token.kind ≡ kind = c.fits ∙ sym e in
    let b = past_phrase (value_rest ts i k c h l s) (operand_parted a) in
    let g = a.further in
    record {
      derivation = Node SimpleRest (Then (Leaf c.token) (Then a.derivation NoMore));
      parted = ends b;
      means = λ x same. three_assigned t same a.tree ∙ sym f;
      further = omega arith;
    }

pub nothing_behind : (ts : List Token) (i k : ℕ) (target : syntax.Target) (simple : Simple) → i < length ts → k ≤ 200 → simple_rest (next_kind (drop i ts)) ≡ [] → view.action_of simple ≡ syntax.Evaluate target.phrase
    → IsPhrase SimpleRest ts i i i k (MeansDone target simple)
nothing_behind ts i k target simple h l s f =
    record {
      derivation = Node SimpleRest NoMore;
      parted = ends (quietly SimpleRest [] ts i k refl refl refl l h (rest_are (next_kind (drop i ts)) s));
      means = λ x same. ap (λ (z : syntax.Target). syntax.Evaluate z.phrase) same ∙ sym f;
      further = omega arith;
    }

-- an expression and what stands behind it

pub simple_before : (ts : List Token) (i k : ℕ) → i < length ts → k ≤ 200 → parts_of phrases.Simple (next_kind (drop i ts)) ≡ Some (A phrases.Expression ∷ A SimpleRest ∷ [])
    → Before (A phrases.Simple ∷ []) ts i k (λ d. Then (Node phrases.Simple d) NoMore) (A phrases.Expression ∷ A SimpleRest ∷ []) i k
simple_before ts i k h l p = quietly phrases.Simple (A phrases.Expression ∷ A SimpleRest ∷ []) ts i k refl refl refl l h p

done_tree : (e r : Derivation One) → OfPhrase phrases.Expression e → OfPhrase SimpleRest r → action_of (Node phrases.Simple (Then e (Then r NoMore))) ≡ done_to e (row_inside r)
unfolding action_of
done_tree e r x y =
    let P : Derivation One → Type 0 = λ z. action_of (Node phrases.Simple (Then z (Then r NoMore))) ≡ done_to z (row_inside r) in
    let Q : Derivation One → Type 0 = λ z. action_of (Node phrases.Simple (Then (Node phrases.Expression x.row) (Then z NoMore))) ≡ done_to (Node phrases.Expression x.row) (row_inside z) in
    subst P (sym x.is) (subst Q (sym y.is) refl)

pub simple_is : (ts : List Token) (i k next : ℕ) (operand : Operand) (place : Place) (simple : Simple) → i < length ts → k ≤ 200 → parts_of phrases.Simple (next_kind (drop i ts)) ≡ Some (A phrases.Expression ∷ A SimpleRest ∷ [])
    → IsOperand phrases.Expression ts i k operand → place ≡ next_place (drop i ts) → IsPhrase SimpleRest ts operand.next operand.next next k (MeansDone (record { place = place; phrase = phrase_of operand.expression }) simple)
    → IsPhrase phrases.Simple ts i (i + 1) next k (MeansAction simple)
simple_is ts i k next operand place simple h l p a f r =
    let b1 = past_phrase (simple_before ts i k h l p) (operand_parted a) in
    let b2 = past_phrase b1 r.parted in
    let g = a.further in let g2 = r.further in
    record {
      derivation = Node phrases.Simple (Then a.derivation (Then r.derivation NoMore));
      parted = ends b2;
      means = done_tree a.derivation r.derivation (of_phrase a.is) (of_phrase r.parted.is) ∙ r.means a.derivation (expression_target a place h f);
      further = omega arith;
    }

-- items

equal_parts : {k : TokenKind} → k ≡ kinds.Mark marks.Equal → parts_of ItemValue k ≡ Some (mark marks.Equal ∷ A phrases.Expression ∷ [])
unfolding parts_of
equal_parts e = ap (parts_of ItemValue) e

bracket_parts : {k : TokenKind} → k ≡ kinds.Mark marks.OpenBracket → parts_of ItemValue k ≡ Some (mark marks.OpenBracket ∷ ANumber ∷ mark marks.CloseBracket ∷ [])
unfolding parts_of
bracket_parts e = ap (parts_of ItemValue) e

pub no_value_parts : (k : TokenKind) → (k ≡ kinds.Mark marks.Equal → ⊥) → (k ≡ kinds.Mark marks.OpenBracket → ⊥) → parts_of ItemValue k ≡ Some []
unfolding parts_of
no_value_parts (kinds.Mark marks.Equal) a b = absurd (a refl)
no_value_parts (kinds.Mark marks.OpenBracket) a b = absurd (b refl)
no_value_parts k a b = refl

pub equal_before : (ts : List Token) (i k : ℕ) (c : Passed (mark marks.Equal) ts i (i + 1)) → i < length ts → k ≤ 200 → next_kind (drop i ts) ≡ kinds.Mark marks.Equal
    → Before (A ItemValue ∷ []) ts i k (λ d. Then (Node ItemValue (Then (Leaf c.token) d)) NoMore) (A phrases.Expression ∷ []) (i + 1) k
equal_before ts i k c h l e = past_token (quietly ItemValue (mark marks.Equal ∷ A phrases.Expression ∷ []) ts i k refl refl refl l h (equal_parts e)) c

pub bracket_before : (ts : List Token) (i k : ℕ) (c : Passed (mark marks.OpenBracket) ts i (i + 1)) → i < length ts → k ≤ 200 → next_kind (drop i ts) ≡ kinds.Mark marks.OpenBracket
    → Before (A ItemValue ∷ []) ts i k (λ d. Then (Node ItemValue (Then (Leaf c.token) d)) NoMore) (ANumber ∷ mark marks.CloseBracket ∷ []) (i + 1) k
bracket_before ts i k c h l e = past_token (quietly ItemValue (mark marks.OpenBracket ∷ ANumber ∷ mark marks.CloseBracket ∷ []) ts i k refl refl refl l h (bracket_parts e)) c

pub valued_is : (ts : List Token) (i k : ℕ) (name : Name) (value : Operand) (item : Item) (c : Passed (mark marks.Equal) ts i (i + 1)) → i < length ts → k ≤ 200 → next_kind (drop i ts) ≡ kinds.Mark marks.Equal
    → IsOperand phrases.Expression ts (i + 1) k value → view.item_of item ≡ syntax.ScalarWith name (phrase_of value.expression) → IsPhrase ItemValue ts i i value.next k (MeansValue name item)
valued_is ts i k name value item c h l e a f =
    let b = past_phrase (equal_before ts i k c h l e) (operand_parted a) in
    let g = a.further in
    record {
      derivation = Node ItemValue (Then (Leaf c.token) (Then a.derivation NoMore));
      parted = ends b;
      means = λ t same. let u : syntax.ScalarWith (name_of t) (expression_of a.derivation) ≡ syntax.ScalarWith name (phrase_of value.expression) = ap (λ z. syntax.ScalarWith (name_of t) z) a.tree ∙ ap (λ z. syntax.ScalarWith z (phrase_of value.expression)) (sym same) in u ∙ sym f;
      further = omega arith;
    }

pub sized_is : (ts : List Token) (i k next : ℕ) (name : Name) (size : SizeRead) (item : Item) (c : Passed (mark marks.OpenBracket) ts i (i + 1)) → i < length ts → k ≤ 200 → next_kind (drop i ts) ≡ kinds.Mark marks.OpenBracket
    → PassedSize ts (i + 1) size → Passed (mark marks.CloseBracket) ts size.next next → view.item_of item ≡ syntax.Array name size.size → IsPhrase ItemValue ts i i next k (MeansValue name item)
sized_is ts i k next name size item c h l e n o f =
    let b = past_token (past_token (bracket_before ts i k c h l e) n.passed) o in
    let g = b.further in
    record {
      derivation = Node ItemValue (Then (Leaf c.token) (Then (Leaf n.passed.token) (Then (Leaf o.token) NoMore)));
      parted = ends b;
      means = λ t same. let u : syntax.Array (name_of t) (size_of n.passed.token) ≡ syntax.Array name size.size = ap (λ z. syntax.Array (name_of t) z) (sym n.size) ∙ ap (λ z. syntax.Array z size.size) (sym same) in u ∙ sym f;
      further = omega arith;
    }

pub scalar_is : (ts : List Token) (i k : ℕ) (name : Name) (item : Item) → i < length ts → k ≤ 200 → parts_of ItemValue (next_kind (drop i ts)) ≡ Some [] → view.item_of item ≡ syntax.Scalar name → IsPhrase ItemValue ts i i i k (MeansValue name item)
scalar_is ts i k name item h l p f =
    record {
      derivation = Node ItemValue NoMore;
      parted = ends (quietly ItemValue [] ts i k refl refl refl l h p);
      means = λ t same. ap syntax.Scalar (sym same) ∙ sym f;
      further = omega arith;
    }

item_parts : (k : TokenKind) → parts_of phrases.Item k ≡ Some (AName ∷ A ItemValue ∷ [])
unfolding parts_of
item_parts k = refl

pub item_before : (ts : List Token) (i k : ℕ) → i < length ts → k ≤ 200 → Before (A phrases.Item ∷ []) ts i k (λ d. Then (Node phrases.Item d) NoMore) (AName ∷ A ItemValue ∷ []) i k
item_before ts i k h l = quietly phrases.Item (AName ∷ A ItemValue ∷ []) ts i k refl refl refl l h (item_parts (next_kind (drop i ts)))

item_tree : (t : Token) (r : Derivation One) → OfPhrase ItemValue r → item_of (Node phrases.Item (Then (Leaf t) (Then r NoMore))) ≡ valued t (row_inside r)
unfolding item_of
item_tree t r s = let P : Derivation One → Type 0 = λ z. item_of (Node phrases.Item (Then (Leaf t) (Then z NoMore))) ≡ valued t (row_inside z) in subst P (sym s.is) refl

pub item_is : (ts : List Token) (i k next : ℕ) (name : NameRead) (item : Item) → i < length ts → k ≤ 200 → PassedName ts i name → IsPhrase ItemValue ts name.next name.next next k (MeansValue name.name item)
    → IsPhrase phrases.Item ts i (i + 1) next k (MeansItem item)
item_is ts i k next name item h l n r =
    let b = past_phrase (past_token (item_before ts i k h l) n.passed) r.parted in
    let g = n.passed.further in let g2 = r.further in
    record {
      derivation = Node phrases.Item (Then (Leaf n.passed.token) (Then r.derivation NoMore));
      parted = ends b;
      means = item_tree n.passed.token r.derivation (of_phrase r.parted.is) ∙ r.means n.passed.token n.name;
      further = omega arith;
    }

-- items behind commas

comma_parts : {k : TokenKind} → k ≡ kinds.Mark marks.Comma → parts_of MoreItems k ≡ Some (mark marks.Comma ∷ A phrases.Item ∷ A MoreItems ∷ [])
unfolding parts_of
comma_parts e = ap (parts_of MoreItems) e

no_comma_parts : (k : TokenKind) → (k ≡ kinds.Mark marks.Comma → ⊥) → parts_of MoreItems k ≡ Some []
unfolding parts_of
no_comma_parts (kinds.Mark marks.Comma) h = absurd (h refl)
no_comma_parts k h = refl

pub comma_before : (ts : List Token) (i k : ℕ) (c : Passed (mark marks.Comma) ts i (i + 1)) → i < length ts → k ≤ 200 → next_kind (drop i ts) ≡ kinds.Mark marks.Comma
    → Before (A MoreItems ∷ []) ts i k (λ d. Then (Node MoreItems (Then (Leaf c.token) d)) NoMore) (A phrases.Item ∷ A MoreItems ∷ []) (i + 1) k
comma_before ts i k c h l e = past_token (quietly MoreItems (mark marks.Comma ∷ A phrases.Item ∷ A MoreItems ∷ []) ts i k refl refl refl l h (comma_parts e)) c

more_tree : (t : Token) (x y : Derivation One) → more_items_of (Node MoreItems (Then (Leaf t) (Then x (Then y NoMore)))) ≡ syntax.Seq (item_of x) (more_items_of y)
unfolding more_items_of
more_tree t x y = refl

no_more_tree : more_items_of (Node MoreItems NoMore) ≡ syntax.Nothing
unfolding more_items_of
no_more_tree = refl

two_items : {a b x y : syntax.Code} → a ≡ b → x ≡ y → syntax.Seq a x ≡ syntax.Seq b y
two_items p q = cc

pub next_item : (ts : List Token) (i k next : ℕ) (item : Item) (c : Passed (mark marks.Comma) ts i (i + 1)) → i < length ts → k ≤ 200 → next_kind (drop i ts) ≡ kinds.Mark marks.Comma
    → IsPhrase phrases.Item ts (i + 1) (i + 1 + 1) next k (MeansItem item) → Continues MoreItems ts i k MeansItems next (item ∷ [])
next_item ts i k next item c h l e r =
    let b = past_phrase (comma_before ts i k c h l e) r.parted in
    let g = b.further in
    record {
      whole = λ end d more a m.
          let f = a.further in
          record {
            derivation = Node MoreItems (Then (Leaf c.token) (Then r.derivation (Then d NoMore)));
            parted = b.whole (Then d NoMore) end a;
            means = more_tree c.token r.derivation d ∙ two_items r.means m;
            further = omega arith;
          };
      stops = b.stops;
      further = omega arith;
      within = b.within;
    }

pub no_more_items : (ts : List Token) (i k : ℕ) → i < length ts → k ≤ 200 → (next_kind (drop i ts) ≡ kinds.Mark marks.Comma → ⊥) → IsPhrase MoreItems ts i i i k (MeansItems [])
no_more_items ts i k h l n =
    record {
      derivation = Node MoreItems NoMore;
      parted = ends (quietly MoreItems [] ts i k refl refl refl l h (no_comma_parts (next_kind (drop i ts)) n));
      means = no_more_tree;
      further = omega arith;
    }

-- an item and those behind it
pub items_start : (ts : List Token) (i k : ℕ) → i < length ts → k ≤ 200 → Before (A phrases.Item ∷ A MoreItems ∷ []) ts i k (λ d. d) (A phrases.Item ∷ A MoreItems ∷ []) i k
items_start ts i k h l = begin (A phrases.Item ∷ A MoreItems ∷ []) ts i k refl l h

pub items_are : (ts : List Token) (i k : ℕ) (first : ItemRead) (before r : ItemsRead) → i < length ts → k ≤ 200 → IsPhrase phrases.Item ts i (i + 1) first.next k (MeansItem first.item) → before.items.items ≡ first.item ∷ [] → before.next ≡ first.next
    → ItemsBehind before ts k r → AreItems ts i k r
items_are ts i k first before r h l a e n b =
    let x = a.derivation in let y = b.phrase.derivation in
    let mid : Parted (A MoreItems ∷ []) ts first.next r.next k (Then y NoMore) = subst (λ z. Parted (A MoreItems ∷ []) ts z r.next k (Then y NoMore)) n b.phrase.parted in
    let c = past_phrase (past_phrase (items_start ts i k h l) a.parted) mid in
    let items : r.items.items ≡ first.item ∷ b.more = b.joined ∙ ap (λ (l : List Item). l ++ b.more) e in
    record { first = x; more = y; parted = ends c; tree = two_items a.means b.phrase.means ∙ sym (ap view.items_of items) }
