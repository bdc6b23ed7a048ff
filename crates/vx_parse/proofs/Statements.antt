-- Statements, part by part.
use Rattle.std.proofs.Common.{◌≡◌, ◌≢◌, ◌≤◌, ◌<◌, ◌+◌, ℕ, Bool, true, if◌then◌else◌, List, [], ◌∷◌, ◌++◌, length, drop, Option, Some, None, refl, sym, ap, ◌∙◌, subst, arith}
use Rattle.std.specs.Prelude.{option_map}
use Rattle.vx_ast.specs.declared.syntax.Place.{Place}
use Rattle.vx_ast.specs.declared.syntax.Simple.{Simple}
use Rattle.vx_ast.specs.declared.syntax.First.{First}
use Rattle.vx_ast.specs.declared.syntax.Argument.{Argument}
use Rattle.vx_ast.specs.declared.syntax.Expression.{Expression}
use Rattle.vx_ast.specs.declared.syntax.Statement.{Statement}
use Rattle.vx_ast.specs.declared.token.Keyword.{Keyword}
use Rattle.vx_ast.specs.declared.token.Keyword.TheVariants as words
use Rattle.vx_ast.specs.declared.token.Mark.TheVariants as marks
use Rattle.vx_ast.specs.declared.token.TokenKind.{TokenKind}
use Rattle.vx_ast.specs.declared.token.TokenKind.TheVariants as kinds
use Rattle.vx_ast.specs.declared.token.Token.{Token}
use Rattle.vx_ast.specs.Tree.{One, Row}
use Rattle.vx_ast.specs.Syntax as syntax
use Rattle.vx_ast.specs.SyntaxView as view
use Rattle.vx_ast.specs.SyntaxView.{phrase_of, row_in}
use Rattle.vx_ast.specs.Phrases as phrases
use Rattle.vx_ast.specs.Phrases.{Phrase, ElsePart, MoreItems, OptionalExpression, OptionalSimple, Print, Block, Items, MoreExpressions, Part, The, AName, AString, A, mark, word, Fits, statement_of_name, parts_of, Derivation, Leaf, Node, NoMore, Then, Is}
use Rattle.vx_ast.specs.Derivations.{place_of, bytes_of, expression_of, arguments_of, action_of, items_of, first_of, test_of, step_of, if_of, print_of, code_of, statement_of, left_by, returned}
use Rattle.vx_parse.specs.declared.expression.Operand.{Operand}
use Rattle.vx_parse.specs.declared.expression.Operands.{Operands}
use Rattle.vx_parse.specs.declared.token.TextRead.{TextRead}
use Rattle.vx_parse.specs.declared.simple.ItemsRead.{ItemsRead}
use Rattle.vx_parse.specs.declared.statement.BodyRead.{BodyRead}
use Rattle.vx_parse.specs.declared.statement.TestRead.{TestRead}
use Rattle.vx_parse.specs.declared.statement.HeadRead.{HeadRead}
use Rattle.vx_parse.specs.declared.statement.PrintRead.{PrintRead}
use Rattle.vx_parse.specs.Reading.{next_kind, next_place, Ended, Passed, PassedText, Parted, IsPhrase, IsOperand, AreMore}
use Rattle.vx_parse.specs.Statements.{MeansAction, MeansFirst, MeansTest, MeansStep, MeansElse, MeansPrint, MeansCode, if_with, Test, Head, IsTest, IsHead, AreItems}
use Rattle.vx_parse.proofs.Tokens.{passes, passes_word}
use Rattle.vx_parse.proofs.Depths.{are_plain}
use Rattle.vx_parse.proofs.Steps.{Opens}
use Rattle.vx_parse.proofs.Expressions.{OfPhrase, of_phrase, alone_depth}
use Rattle.vx_parse.proofs.Parts.{Before, begin, past_token, past_phrase, past_row, ends, quietly, openly}
use Rattle.vx_parse.proofs.Begun.{leaf_begins, simple_statement, print_statement}
use Rattle.vx_parse.proofs.Simples.{operand_parted}

-- a test in parentheses

pub test_start : (ts : List Token) (i k : ℕ) → i < length ts → k ≤ 200 → Before Test ts i k (λ d. d) Test i k
test_start ts i k h l = begin Test ts i k refl l h

pub test_is : (ts : List Token) (i k j : ℕ) (inner : Operand) (r : TestRead) (o : Passed (mark marks.OpenParenthesis) ts i j) → i < length ts → k ≤ 200 → IsOperand phrases.Expression ts j k inner
    → Passed (mark marks.CloseParenthesis) ts inner.next r.next → phrase_of r.test.value ≡ phrase_of inner.expression → IsTest ts i k r
test_is ts i k j inner r o h l a c e =
    let b = past_token (past_phrase (past_token (test_start ts i k h l) o) (operand_parted a)) c in
    record { opening = o.token; derivation = a.derivation; closing = c.token; parted = ends b; tree = a.tree ∙ sym e }

-- the parts of the head of a `for`

nothing_first : {k : TokenKind} → k ≡ kinds.Mark marks.Semicolon → parts_of phrases.First k ≡ Some []
unfolding parts_of
nothing_first e = ap (parts_of phrases.First) e

first_items : {k : TokenKind} → k ≡ kinds.Keyword words.Int → parts_of phrases.First k ≡ Some (word words.Int ∷ A phrases.Item ∷ A MoreItems ∷ [])
unfolding parts_of
first_items e = ap (parts_of phrases.First) e

first_simple : (k : TokenKind) → (k ≡ kinds.Mark marks.Semicolon → ⊥) → (k ≡ kinds.Keyword words.Int → ⊥) → parts_of phrases.First k ≡ Some (A phrases.Simple ∷ [])
unfolding parts_of
first_simple (kinds.Mark marks.Semicolon) a b = absurd (a refl)
first_simple (kinds.Keyword words.Int) a b = absurd (b refl)
first_simple k a b = refl

pub int_before : (ts : List Token) (i k : ℕ) (c : Passed (word words.Int) ts i (i + 1)) → i < length ts → k ≤ 200 → next_kind (drop i ts) ≡ kinds.Keyword words.Int
    → Before (A phrases.First ∷ []) ts i k (λ d. Then (Node phrases.First (Then (Leaf c.token) d)) NoMore) (A phrases.Item ∷ A MoreItems ∷ []) (i + 1) k
int_before ts i k c h l e = past_token (quietly phrases.First (word words.Int ∷ A phrases.Item ∷ A MoreItems ∷ []) ts i k refl refl refl l h (first_items e)) c

items_tree : (t x y : Derivation One) → first_of (Node phrases.First (Then t (Then x (Then y NoMore)))) ≡ items_of x y
unfolding first_of
items_tree t x y = refl

pub first_items_are : (ts : List Token) (i k : ℕ) (items : ItemsRead) (first : First) (c : Passed (word words.Int) ts i (i + 1)) → i < length ts → k ≤ 200 → next_kind (drop i ts) ≡ kinds.Keyword words.Int
    → AreItems ts (i + 1) k items → view.first_of first ≡ view.items_of items.items.items → IsPhrase phrases.First ts i i items.next k (MeansFirst first)
first_items_are ts i k items first c h l e a f =
    let b = past_row (A phrases.Item ∷ A MoreItems ∷ []) [] refl (int_before ts i k c h l e) a.parted in
    record { derivation = Node phrases.First (Then (Leaf c.token) (Then a.first (Then a.more NoMore))); parted = ends b; means = items_tree (Leaf c.token) a.first a.more ∙ a.tree ∙ sym f; further = b.further }

nothing_tree : first_of (Node phrases.First NoMore) ≡ syntax.Nothing
unfolding first_of
nothing_tree = refl

pub first_nothing : (ts : List Token) (i k : ℕ) (first : First) → i < length ts → k ≤ 200 → next_kind (drop i ts) ≡ kinds.Mark marks.Semicolon → view.first_of first ≡ syntax.Nothing → IsPhrase phrases.First ts i i i k (MeansFirst first)
first_nothing ts i k first h l e f =
    let b = quietly phrases.First [] ts i k refl refl refl l h (nothing_first e) in
    record { derivation = Node phrases.First NoMore; parted = ends b; means = nothing_tree ∙ sym f; further = b.further }

pub first_before : (ts : List Token) (i k : ℕ) → i < length ts → k ≤ 200 → (next_kind (drop i ts) ≡ kinds.Mark marks.Semicolon → ⊥) → (next_kind (drop i ts) ≡ kinds.Keyword words.Int → ⊥)
    → Before (A phrases.First ∷ []) ts i k (λ d. Then (Node phrases.First d) NoMore) (A phrases.Simple ∷ []) i k
first_before ts i k h l m n = quietly phrases.First (A phrases.Simple ∷ []) ts i k refl refl refl l h (first_simple (next_kind (drop i ts)) m n)

simple_tree : (x : Derivation One) → first_of (Node phrases.First (Then x NoMore)) ≡ syntax.Head (action_of x)
unfolding first_of
simple_tree x = refl

pub first_is_simple : (ts : List Token) (i k next : ℕ) (simple : Simple) (first : First) → i < length ts → k ≤ 200 → (next_kind (drop i ts) ≡ kinds.Mark marks.Semicolon → ⊥) → (next_kind (drop i ts) ≡ kinds.Keyword words.Int → ⊥)
    → IsPhrase phrases.Simple ts i (i + 1) next k (MeansAction simple) → view.first_of first ≡ syntax.Head (view.action_of simple) → IsPhrase phrases.First ts i i next k (MeansFirst first)
first_is_simple ts i k next simple first h l m n a f =
    let b = past_phrase (first_before ts i k h l m n) a.parted in
    record { derivation = Node phrases.First (Then a.derivation NoMore); parted = ends b; means = simple_tree a.derivation ∙ ap syntax.Head a.means ∙ sym f; further = b.further }

no_expression : {k : TokenKind} → k ≡ kinds.Mark marks.Semicolon → parts_of OptionalExpression k ≡ Some []
unfolding parts_of
no_expression e = ap (parts_of OptionalExpression) e

an_expression : (k : TokenKind) → (k ≡ kinds.Mark marks.Semicolon → ⊥) → parts_of OptionalExpression k ≡ Some (A phrases.Expression ∷ [])
unfolding parts_of
an_expression (kinds.Mark marks.Semicolon) a = absurd (a refl)
an_expression k a = refl

no_test_tree : test_of (Node OptionalExpression NoMore) ≡ None
unfolding test_of
no_test_tree = refl

test_tree : (x : Derivation One) → test_of (Node OptionalExpression (Then x NoMore)) ≡ Some (expression_of x)
unfolding test_of
test_tree x = refl

pub no_test : (ts : List Token) (i k : ℕ) → i < length ts → k ≤ 200 → next_kind (drop i ts) ≡ kinds.Mark marks.Semicolon → IsPhrase OptionalExpression ts i i i k (MeansTest None)
no_test ts i k h l e =
    let b = quietly OptionalExpression [] ts i k refl refl refl l h (no_expression e) in
    record { derivation = Node OptionalExpression NoMore; parted = ends b; means = no_test_tree; further = b.further }

pub optional_before : (ts : List Token) (i k : ℕ) → i < length ts → k ≤ 200 → (next_kind (drop i ts) ≡ kinds.Mark marks.Semicolon → ⊥)
    → Before (A OptionalExpression ∷ []) ts i k (λ d. Then (Node OptionalExpression d) NoMore) (A phrases.Expression ∷ []) i k
optional_before ts i k h l n = quietly OptionalExpression (A phrases.Expression ∷ []) ts i k refl refl refl l h (an_expression (next_kind (drop i ts)) n)

pub some_test : (ts : List Token) (i k : ℕ) (value : Operand) → i < length ts → k ≤ 200 → (next_kind (drop i ts) ≡ kinds.Mark marks.Semicolon → ⊥) → IsOperand phrases.Expression ts i k value
    → IsPhrase OptionalExpression ts i i value.next k (MeansTest (Some value.expression))
some_test ts i k value h l n a =
    let b = past_phrase (optional_before ts i k h l n) (operand_parted a) in
    record { derivation = Node OptionalExpression (Then a.derivation NoMore); parted = ends b; means = test_tree a.derivation ∙ ap Some a.tree; further = b.further }

no_step_parts : {k : TokenKind} → k ≡ kinds.Mark marks.CloseParenthesis → parts_of OptionalSimple k ≡ Some []
unfolding parts_of
no_step_parts e = ap (parts_of OptionalSimple) e

a_step_parts : (k : TokenKind) → (k ≡ kinds.Mark marks.CloseParenthesis → ⊥) → parts_of OptionalSimple k ≡ Some (A phrases.Simple ∷ [])
unfolding parts_of
a_step_parts (kinds.Mark marks.CloseParenthesis) a = absurd (a refl)
a_step_parts k a = refl

no_step_tree : step_of (Node OptionalSimple NoMore) ≡ syntax.Nothing
unfolding step_of
no_step_tree = refl

step_tree : (x : Derivation One) → step_of (Node OptionalSimple (Then x NoMore)) ≡ syntax.Head (action_of x)
unfolding step_of
step_tree x = refl

pub no_step : (ts : List Token) (i k : ℕ) → i < length ts → k ≤ 200 → next_kind (drop i ts) ≡ kinds.Mark marks.CloseParenthesis → IsPhrase OptionalSimple ts i i i k (MeansStep None)
no_step ts i k h l e =
    let b = quietly OptionalSimple [] ts i k refl refl refl l h (no_step_parts e) in
    record { derivation = Node OptionalSimple NoMore; parted = ends b; means = no_step_tree; further = b.further }

pub some_step_before : (ts : List Token) (i k : ℕ) → i < length ts → k ≤ 200 → (next_kind (drop i ts) ≡ kinds.Mark marks.CloseParenthesis → ⊥)
    → Before (A OptionalSimple ∷ []) ts i k (λ d. Then (Node OptionalSimple d) NoMore) (A phrases.Simple ∷ []) i k
some_step_before ts i k h l n = quietly OptionalSimple (A phrases.Simple ∷ []) ts i k refl refl refl l h (a_step_parts (next_kind (drop i ts)) n)

pub some_step : (ts : List Token) (i k next : ℕ) (simple : Simple) → i < length ts → k ≤ 200 → (next_kind (drop i ts) ≡ kinds.Mark marks.CloseParenthesis → ⊥) → IsPhrase phrases.Simple ts i (i + 1) next k (MeansAction simple)
    → IsPhrase OptionalSimple ts i i next k (MeansStep (Some simple))
some_step ts i k next simple h l n a =
    let b = past_phrase (some_step_before ts i k h l n) a.parted in
    record { derivation = Node OptionalSimple (Then a.derivation NoMore); parted = ends b; means = step_tree a.derivation ∙ ap syntax.Head a.means; further = b.further }

pub head_start : (ts : List Token) (i k : ℕ) → i < length ts → k ≤ 200 → Before Head ts i k (λ d. d) Head i k
head_start ts i k h l = begin Head ts i k refl l h

-- prints

print_parts : (k : TokenKind) → parts_of Print k ≡ Some (AName ∷ mark marks.OpenParenthesis ∷ AString ∷ A MoreExpressions ∷ mark marks.CloseParenthesis ∷ [])
unfolding parts_of
print_parts k = refl

name_not_end : {k : TokenKind} → Fits AName k → k ≢ kinds.End
name_not_end f h = let e : kinds.Name f.0 ≡ kinds.End = sym f.1 ∙ h in cc

pub name_passed : (ts : List Token) (i : ℕ) → Ended ts → i < length ts → Fits AName (next_kind (drop i ts)) → Passed AName ts i (i + 1)
name_passed ts i e h f = passes {part = AName} ts i (next_kind (drop i ts)) e h refl (name_not_end f) f

pub print_before : (ts : List Token) (i k : ℕ) (c : Passed AName ts i (i + 1)) → i < length ts → k ≤ 200
    → Before (A Print ∷ []) ts i k (λ d. Then (Node Print (Then (Leaf c.token) d)) NoMore) (mark marks.OpenParenthesis ∷ AString ∷ A MoreExpressions ∷ mark marks.CloseParenthesis ∷ []) (i + 1) k
print_before ts i k c h l = past_token (quietly Print (AName ∷ mark marks.OpenParenthesis ∷ AString ∷ A MoreExpressions ∷ mark marks.CloseParenthesis ∷ []) ts i k refl refl refl l h (print_parts (next_kind (drop i ts)))) c

pub more_parted : {before : Operands} {ts : List Token} {k : ℕ} {r : Operands} (a : AreMore before ts k r) → Parted (A MoreExpressions ∷ []) ts before.next r.next k (Then a.derivation NoMore)
more_parted a = let e = alone_depth a.derivation in let f = a.height in let g = a.shallow in record { is = a.is; shallow = omega arith; further = a.further; within = a.within }

print_tree : (n o f c : Token) (x : Derivation One) → print_of (Node Print (Then (Leaf n) (Then (Leaf o) (Then (Leaf f) (Then x (Then (Leaf c) NoMore)))))) ≡ syntax.Print (place_of n) (place_of f) (bytes_of f.kind) (arguments_of x)
unfolding print_of
print_tree n o f c x = refl

same_print : {a b : Place} {c d : Place} {x y : List ℕ} {v w : syntax.Phrase Row} → a ≡ b → c ≡ d → x ≡ y → v ≡ w → syntax.Print a c x v ≡ syntax.Print b d y w
same_print {a} {b} {c} {d} {x} {y} {v} {w} p q r s =
    ap (λ z. syntax.Print z c x v) p ∙ ap (λ z. syntax.Print b z x v) q ∙ ap (λ z. syntax.Print b d z v) r ∙ ap (λ z. syntax.Print b d y z) s

pub printed_is : (ts : List Token) (i k j next : ℕ) (text : TextRead) (before r : Operands) (print : PrintRead) (c : Passed AName ts i (i + 1)) → i < length ts → k ≤ 200
    → Passed (mark marks.OpenParenthesis) ts (i + 1) j → PassedText ts j text → before.next ≡ text.next → before.arguments.items ≡ [] → AreMore before ts k r → Passed (mark marks.CloseParenthesis) ts r.next next
    → print.place ≡ next_place (drop i ts) → print.format_place ≡ next_place (drop j ts) → print.format ≡ text.bytes → print.arguments.items ≡ r.arguments.items → IsPhrase Print ts i (i + 1) next k (MeansPrint print)
printed_is ts i k j next text before r print c h l o t n z a d p q f g0 =
    let x = a.derivation in
    let mid : Parted (A MoreExpressions ∷ []) ts text.next r.next k (Then x NoMore) = subst (λ m. Parted (A MoreExpressions ∷ []) ts m r.next k (Then x NoMore)) n (more_parted a) in
    let b = past_token (past_phrase (past_token (past_token (print_before ts i k c h l) o) t.passed) mid) d in
    let items : r.arguments.items ≡ a.more = a.joined ∙ ap (λ (m : List Argument). m ++ a.more) z in
    let e1 : place_of c.token ≡ print.place = sym (p ∙ ap next_place c.is) in
    let e2 : place_of t.passed.token ≡ print.format_place = sym (q ∙ ap next_place t.passed.is) in
    let e3 : arguments_of x ≡ row_in print.arguments.items = a.tree ∙ sym (ap row_in (g0 ∙ items)) in
    let g = b.further in let g1 = o.further in let g2 = t.passed.further in let g3 = d.further in let g4 = a.further in
    record {
      derivation = Node Print (Then (Leaf c.token) (Then (Leaf o.token) (Then (Leaf t.passed.token) (Then x (Then (Leaf d.token) NoMore)))));
      parted = ends b;
      means = print_tree c.token o.token t.passed.token d.token x ∙ same_print e1 e2 (sym (f ∙ t.bytes)) e3;
      further = omega arith;
    }

-- statements

print_code : (x : Derivation One) (m : Token) → OfPhrase Print x → code_of (Node phrases.Statement (Then x (Then (Leaf m) NoMore))) ≡ print_of x
unfolding code_of statement_of
print_code x m s = let P : Derivation One → Type 0 = λ y. code_of (Node phrases.Statement (Then y (Then (Leaf m) NoMore))) ≡ print_of y in subst P (sym s.is) refl

simple_code : (x : Derivation One) (m : Token) → OfPhrase phrases.Simple x → code_of (Node phrases.Statement (Then x (Then (Leaf m) NoMore))) ≡ syntax.Simply (action_of x)
unfolding code_of statement_of
simple_code x m s = let P : Derivation One → Type 0 = λ y. code_of (Node phrases.Statement (Then y (Then (Leaf m) NoMore))) ≡ syntax.Simply (action_of y) in subst P (sym s.is) refl

pub print_is : (ts : List Token) (i k j next : ℕ) (print : PrintRead) (statement : Statement) → i < length ts → k < 200 → parts_of phrases.Statement (next_kind (drop i ts)) ≡ Some (A Print ∷ mark marks.Semicolon ∷ [])
    → IsPhrase Print ts i (i + 1) j (k + 1) (MeansPrint print) → Passed (mark marks.Semicolon) ts j next → view.code_of statement ≡ syntax.Print print.place print.format_place print.format (row_in print.arguments.items)
    → IsPhrase phrases.Statement ts i (i + 1) next k (MeansCode statement)
print_is ts i k j next print statement h l p a c f =
    let b = past_token (past_phrase (print_statement ts i k h l p) a.parted) c in
    let g1 = a.further in let g2 = c.further in
    record { derivation = Node phrases.Statement (Then a.derivation (Then (Leaf c.token) NoMore)); parted = ends b; means = print_code a.derivation c.token (of_phrase a.parted.is) ∙ a.means ∙ sym f; further = omega arith }

pub simple_statement_is : (ts : List Token) (i k j next : ℕ) (simple : Simple) (statement : Statement) → i < length ts → k < 200 → parts_of phrases.Statement (next_kind (drop i ts)) ≡ Some (A phrases.Simple ∷ mark marks.Semicolon ∷ [])
    → IsPhrase phrases.Simple ts i (i + 1) j (k + 1) (MeansAction simple) → Passed (mark marks.Semicolon) ts j next → view.code_of statement ≡ syntax.Simply (view.action_of simple) → IsPhrase phrases.Statement ts i (i + 1) next k (MeansCode statement)
simple_statement_is ts i k j next simple statement h l p a c f =
    let b = past_token (past_phrase (simple_statement ts i k h l p) a.parted) c in
    let g1 = a.further in let g2 = c.further in
    record { derivation = Node phrases.Statement (Then a.derivation (Then (Leaf c.token) NoMore)); parted = ends b; means = simple_code a.derivation c.token (of_phrase a.parted.is) ∙ ap syntax.Simply a.means ∙ sym f; further = omega arith }

-- a statement that begins with this token
pub statement_opens : {q : Part} {ps : List Part} {ts : List Token} {i : ℕ} (c : Passed q ts i (i + 1)) → i < length ts → parts_of phrases.Statement (next_kind (drop i ts)) ≡ Some (q ∷ ps) → Opens phrases.Statement q ps ts i (i + 1) 1
statement_opens c h e = record { passed = c; here = h; parts = e; counts = λ d. ap (λ (b : Bool). if b then 1 else 0) (leaf_begins c.token d); plain = refl }

pub statement_before : {q : Part} {ps : List Part} {ts : List Token} {i : ℕ} (k : ℕ) (o : Opens phrases.Statement q ps ts i (i + 1) 1) → are_plain ps ≡ true → k < 200
    → Before (A phrases.Statement ∷ []) ts i k (λ d. Then (Node phrases.Statement (Then (Leaf o.passed.token) d)) NoMore) ps (i + 1) (k + 1)
statement_before k o p l = openly k o p (omega arith)

pub word_parts : {k : TokenKind} (w : Keyword) {x : Option (List Part)} → k ≡ kinds.Keyword w → parts_of phrases.Statement (kinds.Keyword w) ≡ x → parts_of phrases.Statement k ≡ x
word_parts w e f = ap (parts_of phrases.Statement) e ∙ f

abbrev Word : (w : Keyword) (ps : List Part) → Type 0
Word w ps = parts_of phrases.Statement (kinds.Keyword w) ≡ Some (word w ∷ ps)

pub word_opens : (w : Keyword) (ps : List Part) (ts : List Token) (i : ℕ) → Word w ps → Ended ts → i < length ts → next_kind (drop i ts) ≡ kinds.Keyword w → Opens phrases.Statement (word w) ps ts i (i + 1) 1
word_opens w ps ts i f e h k = statement_opens (passes_word ts i w e h k) h (word_parts w k f)

pub if_word : Word words.If (mark marks.OpenParenthesis ∷ A phrases.Expression ∷ mark marks.CloseParenthesis ∷ A phrases.Statement ∷ A ElsePart ∷ [])
unfolding parts_of
if_word = refl

pub while_word : Word words.While (mark marks.OpenParenthesis ∷ A phrases.Expression ∷ mark marks.CloseParenthesis ∷ A phrases.Statement ∷ [])
unfolding parts_of
while_word = refl

pub do_word : Word words.Do (A phrases.Statement ∷ word words.While ∷ mark marks.OpenParenthesis ∷ A phrases.Expression ∷ mark marks.CloseParenthesis ∷ mark marks.Semicolon ∷ [])
unfolding parts_of
do_word = refl

pub for_word : Word words.For (mark marks.OpenParenthesis ∷ A phrases.First ∷ mark marks.Semicolon ∷ A OptionalExpression ∷ mark marks.Semicolon ∷ A OptionalSimple ∷ mark marks.CloseParenthesis ∷ A phrases.Statement ∷ [])
unfolding parts_of
for_word = refl

pub break_word : Word words.Break (mark marks.Semicolon ∷ [])
unfolding parts_of
break_word = refl

pub continue_word : Word words.Continue (mark marks.Semicolon ∷ [])
unfolding parts_of
continue_word = refl

pub return_word : Word words.Return (A OptionalExpression ∷ mark marks.Semicolon ∷ [])
unfolding parts_of
return_word = refl

pub empty_parts : {k : TokenKind} → k ≡ kinds.Mark marks.Semicolon → parts_of phrases.Statement k ≡ Some (mark marks.Semicolon ∷ [])
unfolding parts_of
empty_parts e = ap (parts_of phrases.Statement) e

empty_code : (t : Token) → code_of (Node phrases.Statement (Then (Leaf t) NoMore)) ≡ syntax.Empty
unfolding code_of statement_of
empty_code t = refl

pub empty_is : (ts : List Token) (i k : ℕ) (statement : Statement) (o : Opens phrases.Statement (mark marks.Semicolon) [] ts i (i + 1) 1) → k < 200 → view.code_of statement ≡ syntax.Empty → IsPhrase phrases.Statement ts i (i + 1) (i + 1) k (MeansCode statement)
empty_is ts i k statement o l f =
    let b = statement_before k o refl l in
    record { derivation = Node phrases.Statement (Then (Leaf o.passed.token) NoMore); parted = ends b; means = empty_code o.passed.token ∙ sym f; further = omega arith }

left_code : (t u : Token) → code_of (Node phrases.Statement (Then (Leaf t) (Then (Leaf u) NoMore))) ≡ left_by t.kind (place_of t)
unfolding code_of statement_of
left_code t u = refl

pub left_is : (w : Keyword) (ts : List Token) (i k next : ℕ) (place : Place) (statement : Statement) (o : Opens phrases.Statement (word w) (mark marks.Semicolon ∷ []) ts i (i + 1) 1) → k < 200 → Passed (mark marks.Semicolon) ts (i + 1) next
    → place ≡ next_place (drop i ts) → view.code_of statement ≡ left_by (kinds.Keyword w) place → IsPhrase phrases.Statement ts i (i + 1) next k (MeansCode statement)
left_is w ts i k next place statement o l c p f =
    let b = past_token (statement_before k o refl l) c in
    let e1 : place_of o.passed.token ≡ place = sym (p ∙ ap next_place o.passed.is) in
    let g = c.further in
    record {
      derivation = Node phrases.Statement (Then (Leaf o.passed.token) (Then (Leaf c.token) NoMore));
      parted = ends b;
      means = left_code o.passed.token c.token ∙ ap (λ z. left_by z (place_of o.passed.token)) o.passed.fits ∙ ap (left_by (kinds.Keyword w)) e1 ∙ sym f;
      further = omega arith;
    }

return_code : (t u : Token) (x : Derivation One) → OfPhrase OptionalExpression x → code_of (Node phrases.Statement (Then (Leaf t) (Then x (Then (Leaf u) NoMore)))) ≡ returned (place_of t) (test_of x)
unfolding code_of statement_of
return_code t u x s = let P : Derivation One → Type 0 = λ y. code_of (Node phrases.Statement (Then (Leaf t) (Then y (Then (Leaf u) NoMore)))) ≡ returned (place_of t) (test_of y) in subst P (sym s.is) refl

pub return_is : (ts : List Token) (i k j next : ℕ) (place : Place) (value : Option Expression) (statement : Statement) (o : Opens phrases.Statement (word words.Return) (A OptionalExpression ∷ mark marks.Semicolon ∷ []) ts i (i + 1) 1) → k < 200
    → IsPhrase OptionalExpression ts (i + 1) (i + 1) j (k + 1) (MeansTest value) → Passed (mark marks.Semicolon) ts j next → place ≡ next_place (drop i ts) → view.code_of statement ≡ returned place (option_map phrase_of value)
    → IsPhrase phrases.Statement ts i (i + 1) next k (MeansCode statement)
return_is ts i k j next place value statement o l a c p f =
    let b = past_token (past_phrase (statement_before k o refl l) a.parted) c in
    let e1 : place_of o.passed.token ≡ place = sym (p ∙ ap next_place o.passed.is) in
    let g = c.further in let g1 = a.further in
    record {
      derivation = Node phrases.Statement (Then (Leaf o.passed.token) (Then a.derivation (Then (Leaf c.token) NoMore)));
      parted = ends b;
      means = return_code o.passed.token c.token a.derivation (of_phrase a.parted.is) ∙ ap (returned (place_of o.passed.token)) a.means ∙ ap (λ z. returned z (option_map phrase_of value)) e1 ∙ sym f;
      further = omega arith;
    }

-- statements with statements inside

while_code : (t o c : Token) (x y : Derivation One) → code_of (Node phrases.Statement (Then (Leaf t) (Then (Leaf o) (Then x (Then (Leaf c) (Then y NoMore)))))) ≡ syntax.While (expression_of x) (code_of y)
unfolding code_of statement_of
while_code t o c x y = refl

pub while_is : (ts : List Token) (i k next : ℕ) (test : TestRead) (body statement : Statement) (o : Opens phrases.Statement (word words.While) (Test ++ (A phrases.Statement ∷ [])) ts i (i + 1) 1) → k < 200
    → IsTest ts (i + 1) (k + 1) test → IsPhrase phrases.Statement ts test.next (test.next + 1) next (k + 1) (MeansCode body) → view.code_of statement ≡ syntax.While (phrase_of test.test.value) (view.code_of body)
    → IsPhrase phrases.Statement ts i (i + 1) next k (MeansCode statement)
while_is ts i k next test body statement o l a d f =
    let b0 = past_row Test (A phrases.Statement ∷ []) refl (statement_before k o refl l) a.parted in
    let b = past_phrase b0 d.parted in
    let same : syntax.While (expression_of a.derivation) (code_of d.derivation) ≡ syntax.While (phrase_of test.test.value) (view.code_of body) = ap (λ z. syntax.While z (code_of d.derivation)) a.tree ∙ ap (λ z. syntax.While (phrase_of test.test.value) z) d.means in
    let g = a.parted.further in let g1 = d.further in
    record {
      derivation = Node phrases.Statement (Then (Leaf o.passed.token) (Then (Leaf a.opening) (Then a.derivation (Then (Leaf a.closing) (Then d.derivation NoMore)))));
      parted = ends b;
      means = while_code o.passed.token a.opening a.closing a.derivation d.derivation ∙ same ∙ sym f;
      further = omega arith;
    }

if_code : (t o c : Token) (x y z : Derivation One) → code_of (Node phrases.Statement (Then (Leaf t) (Then (Leaf o) (Then x (Then (Leaf c) (Then y (Then z NoMore))))))) ≡ if_of (expression_of x) (code_of y) z
unfolding code_of statement_of
if_code t o c x y z = refl

pub if_is : (ts : List Token) (i k j next : ℕ) (test : TestRead) (chosen : Statement) (other : Option BodyRead) (statement : Statement) (o : Opens phrases.Statement (word words.If) (Test ++ (A phrases.Statement ∷ A ElsePart ∷ [])) ts i (i + 1) 1) → k < 200
    → IsTest ts (i + 1) (k + 1) test → IsPhrase phrases.Statement ts test.next (test.next + 1) j (k + 1) (MeansCode chosen) → IsPhrase ElsePart ts j j next (k + 1) (MeansElse other)
    → view.code_of statement ≡ if_with (phrase_of test.test.value) (view.code_of chosen) other → IsPhrase phrases.Statement ts i (i + 1) next k (MeansCode statement)
if_is ts i k j next test chosen other statement o l a d e f =
    let b0 = past_row Test (A phrases.Statement ∷ A ElsePart ∷ []) refl (statement_before k o refl l) a.parted in
    let b = past_phrase (past_phrase b0 d.parted) e.parted in
    let same : if_of (expression_of a.derivation) (code_of d.derivation) e.derivation ≡ if_of (phrase_of test.test.value) (view.code_of chosen) e.derivation =
    ap (λ z. if_of z (code_of d.derivation) e.derivation) a.tree ∙ ap (λ z. if_of (phrase_of test.test.value) z e.derivation) d.means in
    let g = a.parted.further in let g1 = d.further in let g2 = e.further in
    record {
      derivation = Node phrases.Statement (Then (Leaf o.passed.token) (Then (Leaf a.opening) (Then a.derivation (Then (Leaf a.closing) (Then d.derivation (Then e.derivation NoMore))))));
      parted = ends b;
      means = if_code o.passed.token a.opening a.closing a.derivation d.derivation e.derivation ∙ same ∙ e.means (phrase_of test.test.value) (view.code_of chosen) ∙ sym f;
      further = omega arith;
    }

do_code : (t w o c m : Token) (x y : Derivation One) → OfPhrase phrases.Statement x → code_of (Node phrases.Statement (Then (Leaf t) (Then x (Then (Leaf w) (Then (Leaf o) (Then y (Then (Leaf c) (Then (Leaf m) NoMore)))))))) ≡ syntax.DoWhile (code_of x) (expression_of y)
unfolding code_of statement_of
do_code t w o c m x y s =
    let P : Derivation One → Type 0 = λ z. code_of (Node phrases.Statement (Then (Leaf t) (Then z (Then (Leaf w) (Then (Leaf o) (Then y (Then (Leaf c) (Then (Leaf m) NoMore)))))))) ≡ syntax.DoWhile (code_of z) (expression_of y) in subst P (sym s.is) refl

pub do_is : (ts : List Token) (i k j m next : ℕ) (body : Statement) (test : TestRead) (statement : Statement) (o : Opens phrases.Statement (word words.Do) (A phrases.Statement ∷ word words.While ∷ (Test ++ (mark marks.Semicolon ∷ []))) ts i (i + 1) 1)
    → k < 200 → IsPhrase phrases.Statement ts (i + 1) (i + 1 + 1) j (k + 1) (MeansCode body) → Passed (word words.While) ts j m → IsTest ts m (k + 1) test → Passed (mark marks.Semicolon) ts test.next next
    → view.code_of statement ≡ syntax.DoWhile (view.code_of body) (phrase_of test.test.value) → IsPhrase phrases.Statement ts i (i + 1) next k (MeansCode statement)
do_is ts i k j m next body test statement o l d w a c f =
    let b0 = past_token (past_phrase (statement_before k o refl l) d.parted) w in
    let b = past_token (past_row Test (mark marks.Semicolon ∷ []) refl b0 a.parted) c in
    let same : syntax.DoWhile (code_of d.derivation) (expression_of a.derivation) ≡ syntax.DoWhile (view.code_of body) (phrase_of test.test.value) = ap (λ z. syntax.DoWhile z (expression_of a.derivation)) d.means ∙ ap (λ z. syntax.DoWhile (view.code_of body) z) a.tree in
    let g = a.parted.further in let g1 = d.further in let g2 = w.further in let g3 = c.further in
    record {
      derivation = Node phrases.Statement (Then (Leaf o.passed.token) (Then d.derivation (Then (Leaf w.token) (Then (Leaf a.opening) (Then a.derivation (Then (Leaf a.closing) (Then (Leaf c.token) NoMore)))))));
      parted = ends b;
      means = do_code o.passed.token w.token a.opening a.closing c.token d.derivation a.derivation (of_phrase d.parted.is) ∙ same ∙ sym f;
      further = omega arith;
    }

for_code : (t o m n c : Token) (x y z s : Derivation One)
    → code_of (Node phrases.Statement (Then (Leaf t) (Then (Leaf o) (Then x (Then (Leaf m) (Then y (Then (Leaf n) (Then z (Then (Leaf c) (Then s NoMore)))))))))) ≡ syntax.For (first_of x) (test_of y) (step_of z) (code_of s)
unfolding code_of statement_of
for_code t o m n c x y z s = refl

same_for : {a b : syntax.Code} {c d : Option (syntax.Phrase One)} {x y v w : syntax.Code} → a ≡ b → c ≡ d → x ≡ y → v ≡ w → syntax.For a c x v ≡ syntax.For b d y w
same_for {a} {b} {c} {d} {x} {y} {v} {w} p q r s = ap (λ z. syntax.For z c x v) p ∙ ap (λ z. syntax.For b z x v) q ∙ ap (λ z. syntax.For b d z v) r ∙ ap (λ z. syntax.For b d y z) s

pub for_is : (ts : List Token) (i k next : ℕ) (head : HeadRead) (body statement : Statement) (o : Opens phrases.Statement (word words.For) (Head ++ (A phrases.Statement ∷ [])) ts i (i + 1) 1) → k < 200 → IsHead ts (i + 1) (k + 1) head
    → IsPhrase phrases.Statement ts head.next (head.next + 1) next (k + 1) (MeansCode body)
    → view.code_of statement ≡ syntax.For (view.first_of head.first.value) (option_map phrase_of head.test.value) (view.step_of head.step.value) (view.code_of body) → IsPhrase phrases.Statement ts i (i + 1) next k (MeansCode statement)
for_is ts i k next head body statement o l a d f =
    let b0 = past_row Head (A phrases.Statement ∷ []) refl (statement_before k o refl l) a.parted in
    let b = past_phrase b0 d.parted in
    let g = a.parted.further in let g1 = d.further in
    record {
      derivation = Node phrases.Statement (Then (Leaf o.passed.token) (Then (Leaf a.opening) (Then a.first (Then (Leaf a.one) (Then a.test (Then (Leaf a.two) (Then a.step (Then (Leaf a.closing) (Then d.derivation NoMore)))))))));
      parted = ends b;
      means = for_code o.passed.token a.opening a.one a.two a.closing a.first a.test a.step d.derivation ∙ same_for a.is_first a.is_test a.is_step d.means ∙ sym f;
      further = omega arith;
    }

-- a `for` of parts that are the same
pub for_from : {a b : First} {c d : Option Expression} {x y : Option Simple} {s : syntax.Code} → a ≡ b → c ≡ d → x ≡ y
    → syntax.For (view.first_of a) (option_map phrase_of c) (view.step_of x) s ≡ syntax.For (view.first_of b) (option_map phrase_of d) (view.step_of y) s
for_from {b} {c} {d} {x} {s} p q r =
    ap (λ z. syntax.For (view.first_of z) (option_map phrase_of c) (view.step_of x) s) p ∙ ap (λ z. syntax.For (view.first_of b) (option_map phrase_of z) (view.step_of x) s) q ∙ ap (λ z. syntax.For (view.first_of b) (option_map phrase_of d) (view.step_of z) s) r
