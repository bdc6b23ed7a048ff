-- What the tokens of each line are derived as.
use Rattle.std.proofs.Common.{◌≡◌, ℕ, ◌+◌, ◌≤◌, max, pos, true, List, [], ◌∷◌, ◌++◌, codes, Some, refl, arith}
use Rattle.vx_ast.specs.declared.tree.BinaryOperator.TheVariants as binary
use Rattle.vx_ast.specs.declared.token.Keyword.TheVariants as words
use Rattle.vx_ast.specs.declared.token.Mark.TheVariants as marks
use Rattle.vx_ast.specs.declared.token.TokenKind.TheVariants as kinds
use Rattle.vx_ast.specs.declared.token.Token.{Token}
use Rattle.vx_ast.specs.Tokens.{token_at}
use Rattle.vx_ast.specs.Tree.{Row}
use Rattle.vx_ast.specs.Syntax as syntax
use Rattle.vx_ast.specs.Phrases as phrases
use Rattle.vx_ast.specs.Phrases.{Part, A, mark, word, Derivation, Leaf, Node, NoMore, Then, Is, parts_of, Expression, Statement, Simple, SimpleRest, Block, Items, ElsePart, First, OptionalExpression, OptionalSimple}
use Rattle.vx_ast.specs.Derivations.{expression_of, behind, named, arguments_of, arguments_in, first_place, target_of, action_of, code_of, statement_of, if_of, block_of, body_of, all_of, first_of, step_of, test_of, is_begun, are_begun, depth_behind, row_depth, operator_depth, choice_depth}
use Rattle.vx_generated.proofs.Forms as forms
use Rattle.vx_generated.proofs.Forms.{Bit, space, bracket, of_variable, ampersand, fifteen, bracket_end, word_if, opening, less, greater, closing, word_for, equal, digit, semicolon, twice, store_front, Variable, InA, InB, InC, InD, byte_of, Drawn, Formula, Alone, Added, Line, Set, Store, Load, IfLess, Repeat, IfMore, tokens_of, pieces_of}
use Rattle.vx_generated.proofs.Parser.{parse, got}
use Rattle.vx_generated.proofs.Lines.{line_tokens}
use Rattle.vx_generated.proofs.Fine.{suits_variable, suits_counter, suits_number, suits_binary, suits_element, suits_more, SuitsTarget, target_variable, target_counter, target_element, suits_assign, suits_increase, Fine, fine_simply, fine_block, fine_if, fine_if_else, fine_for, fine_more}
use Rattle.vx_generated.proofs.Parts.{parts_at, enters, of_expression, Expressed, a_mark, formula_expressed}

-- a row of parts behind another
abbrev pub onto : Derivation Row → Derivation Row → Derivation Row
onto NoMore e = e
onto (Then d ds) e = Then d (onto ds e)

pub joins : (ps qs : List Part) (ts mid rest : List Token) (d e : Derivation Row) → Is ps ts d mid → Is qs mid e rest → Is (ps ++ qs) ts (onto d e) rest
joins ps qs ts mid rest d e phrases.nothing j = j
joins ps qs ts mid rest d e (phrases.token {parts = more} {ts = us} {d = d'} h i) j = phrases.token h (joins more qs us mid rest d' e i j)
joins ps qs ts mid rest d e (phrases.phrase p inner {parts = more} {mid = between} {e = e'} h i i') j = phrases.phrase p inner h i (joins more qs between mid rest e' e i' j)

abbrev pub a_name : (bytes : List ℕ) → Variable → ℕ → Token
a_name bytes v place = token_at bytes (kinds.Name (byte_of v ∷ [])) place 1

abbrev pub one_statement : List Part
one_statement = A Statement ∷ A Items ∷ []

-- a statement of so many nodes and so deep
pub record Stated (n k : ℕ) (ts rest : List Token) : Type 0 where
  pub row : Derivation Row
  pub inner : List Part
  pub enters : parts_at Statement ts ≡ Some inner
  pub is : Is inner ts row rest
  pub in_items : parts_at Items ts ≡ Some one_statement
  pub no_else : parts_at ElsePart ts ≡ Some []
  pub depth : (left : ℕ) → depth_behind left (Node Statement row) ≤ max left k
  pub fine : Fine n (code_of (Node Statement row))

pub stated_more : {n k : ℕ} {ts rest : List Token} (m l : ℕ) → n ≤ m → k ≤ l → Stated n k ts rest → Stated m l ts rest
stated_more {n = n} {k = k} m l h i s = record { row = s.row; inner = s.inner; enters = s.enters; is = s.is; in_items = s.in_items; no_else = s.no_else; depth = λ left. deeper left; fine = fine_more m h s.fine } where
  deeper : (left : ℕ) → depth_behind left (Node Statement s.row) ≤ max left l
  deeper left = let d = s.depth left in omega (arith, d, i)

-- assignments

abbrev a_simple : List Part
a_simple = A Simple ∷ mark marks.Semicolon ∷ []

starts_simple : (v : Variable) → parts_of Statement (kinds.Name (byte_of v ∷ [])) ≡ Some a_simple
unfolding parts_of
starts_simple InA = refl
starts_simple InB = refl
starts_simple InC = refl
starts_simple InD = refl

record Targeted (ts rest : List Token) : Type 0 where
  row : Derivation Row
  is : Is of_expression ts row rest
  enters : parts_at Expression ts ≡ Some of_expression
  depth : (left : ℕ) → depth_behind left (Node Expression row) ≤ max left 8
  begun : are_begun row ≡ true
  suits : SuitsTarget 4 (target_of (Node Expression row))
  starts : parts_at Statement ts ≡ Some a_simple
  simple : parts_at Simple ts ≡ Some (A Expression ∷ A SimpleRest ∷ [])
  in_items : parts_at Items ts ≡ Some one_statement
  no_else : parts_at ElsePart ts ≡ Some []

abbrev assign_row : Derivation Row → Token → Derivation Row → Derivation Row
assign_row target equal value = Then (Node Expression target) (Then (Node SimpleRest (Then (Leaf equal) (Then (Node Expression value) NoMore))) NoMore)

assigns : (bytes : List ℕ) (p q : ℕ) (ts es rest : List Token) → Targeted ts (a_mark bytes marks.Equal p ∷ es) → Expressed es (a_mark bytes marks.Semicolon q ∷ rest) → Stated 14 9 ts rest
unfolding parts_of action_of code_of statement_of is_begun are_begun depth_behind row_depth operator_depth choice_depth
assigns bytes p q ts es rest t e = record {
  row = Then (Node Simple (assign_row t.row (a_mark bytes marks.Equal p) e.row)) (Then (Leaf (a_mark bytes marks.Semicolon q)) NoMore);
  inner = a_simple;
  enters = t.starts;
  is = enters Simple (A Expression ∷ A SimpleRest ∷ []) (mark marks.Semicolon ∷ []) ts (a_mark bytes marks.Semicolon q ∷ rest) rest _ _ t.simple
      (enters Expression of_expression (A SimpleRest ∷ []) ts (a_mark bytes marks.Equal p ∷ es) (a_mark bytes marks.Semicolon q ∷ rest) _ _ t.enters t.is
      (phrases.phrase SimpleRest (mark marks.Equal ∷ A Expression ∷ []) refl (phrases.token refl (enters Expression of_expression [] es _ _ _ _ e.enters e.is phrases.nothing)) phrases.nothing))
      (phrases.token refl phrases.nothing);
  in_items = t.in_items;
  no_else = t.no_else;
  depth = λ left. deep left;
  fine = fine_simply (suits_assign t.suits e.suits);
} where
  deep : (left : ℕ) → depth_behind left (Node Statement (Then (Node Simple (assign_row t.row (a_mark bytes marks.Equal p) e.row)) (Then (Leaf (a_mark bytes marks.Semicolon q)) NoMore))) ≤ max left 9
  deep left =
      let x : depth_behind 0 (Node Expression t.row) ≤ max 0 8 = t.depth 0 in
      let y : depth_behind 0 (Node Expression e.row) ≤ max 0 8 = e.depth 0 in
      rw t.begun (omega (arith, x, y))

target_more : {n : ℕ} {t : syntax.Target} → n ≤ 4 → SuitsTarget n t → SuitsTarget 4 t
target_more h s = record { faults = s.faults; nodes = λ env. let x = s.nodes env in omega (arith, x, h) }

to_variable : (bytes : List ℕ) (v : Variable) (p q : ℕ) (es : List Token) → Targeted (a_name bytes v p ∷ a_mark bytes marks.Equal q ∷ es) (a_mark bytes marks.Equal q ∷ es)
unfolding parts_of expression_of behind named first_place arguments_of arguments_in is_begun are_begun depth_behind row_depth operator_depth choice_depth
to_variable bytes v p q es = record {
  row = (got (parse 60 of_expression (a_name bytes v p ∷ a_mark bytes marks.Equal q ∷ es)) tt).derivation;
  is = (got (parse 60 of_expression (a_name bytes v p ∷ a_mark bytes marks.Equal q ∷ es)) tt).is;
  enters = refl;
  depth = λ left. omega arith;
  begun = refl;
  suits = target_more (omega arith) (target_variable _ v _);
  starts = starts_simple v;
  simple = refl;
  in_items = refl;
  no_else = refl;
}

to_element : (bytes : List ℕ) (v : Variable) (place : ℕ) (es : List Token) → Targeted (tokens_of bytes place (store_front v) ++ es) (a_mark bytes marks.Equal (place + 1 + 1 + 1 + 1 + 1 + 1 + 2 + 1 + 1) ∷ es)
unfolding parts_of expression_of behind named first_place arguments_of arguments_in is_begun are_begun depth_behind row_depth operator_depth choice_depth
to_element bytes v place es = record {
  row = (got (parse 60 of_expression (tokens_of bytes place (store_front v) ++ es)) tt).derivation;
  is = (got (parse 60 of_expression (tokens_of bytes place (store_front v) ++ es)) tt).is;
  enters = refl;
  depth = λ left. omega arith;
  begun = refl;
  suits = target_more (omega arith) (target_element _ _ (suits_binary binary.BitAnd (suits_variable v _) (suits_number (pos 15))));
  starts = refl;
  simple = refl;
  in_items = refl;
  no_else = refl;
}

-- `m[V & 15];`
abbrev element_bits : Variable → List Bit
element_bits v = forms.named (codes "m") ∷ bracket ∷ of_variable v ∷ space ∷ ampersand ∷ space ∷ fifteen ∷ bracket_end ∷ []

element_expressed : (bytes : List ℕ) (v : Variable) (place at : ℕ) (rest : List Token) → Expressed (tokens_of bytes place (element_bits v) ++ a_mark bytes marks.Semicolon at ∷ rest) (a_mark bytes marks.Semicolon at ∷ rest)
unfolding parts_of expression_of behind named arguments_of arguments_in depth_behind row_depth operator_depth choice_depth
element_expressed bytes v place at rest = record {
  row = (got (parse 60 of_expression (tokens_of bytes place (element_bits v) ++ a_mark bytes marks.Semicolon at ∷ rest)) tt).derivation;
  is = (got (parse 60 of_expression (tokens_of bytes place (element_bits v) ++ a_mark bytes marks.Semicolon at ∷ rest)) tt).is;
  enters = refl;
  depth = λ left. omega arith;
  suits = suits_more 9 (omega arith) (suits_element _ (suits_binary binary.BitAnd (suits_variable v _) (suits_number (pos 15))));
}

-- blocks of one statement

blocked : (bytes : List ℕ) (p q n k : ℕ) (ts rest : List Token) → Stated n k ts (a_mark bytes marks.CloseBrace q ∷ rest) → Stated (1 + n) (1 + k) (a_mark bytes marks.OpenBrace p ∷ ts) rest
unfolding parts_of code_of statement_of block_of body_of all_of is_begun are_begun depth_behind row_depth operator_depth choice_depth
blocked bytes p q n k ts rest s = record {
  row = Then (Node Block (Then (Leaf (a_mark bytes marks.OpenBrace p)) (Then (Node Items (Then (Node Statement s.row) (Then (Node Items NoMore) NoMore))) (Then (Leaf (a_mark bytes marks.CloseBrace q)) NoMore)))) NoMore;
  inner = A Block ∷ [];
  enters = refl;
  is = phrases.phrase Block (mark marks.OpenBrace ∷ A Items ∷ mark marks.CloseBrace ∷ []) refl
      (phrases.token refl (enters Items one_statement (mark marks.CloseBrace ∷ []) ts (a_mark bytes marks.CloseBrace q ∷ rest) rest _ _ s.in_items
      (enters Statement s.inner (A Items ∷ []) ts (a_mark bytes marks.CloseBrace q ∷ rest) (a_mark bytes marks.CloseBrace q ∷ rest) _ _ s.enters s.is (phrases.phrase Items [] refl phrases.nothing phrases.nothing))
      (phrases.token refl phrases.nothing))) phrases.nothing;
  in_items = refl;
  no_else = refl;
  depth = λ left. deep left;
  fine = fine_block s.fine;
} where
  deep : (left : ℕ) → depth_behind left (Node Statement (Then (Node Block (Then (Leaf (a_mark bytes marks.OpenBrace p)) (Then (Node Items (Then (Node Statement s.row) (Then (Node Items NoMore) NoMore))) (Then (Leaf (a_mark bytes marks.CloseBrace q)) NoMore)))) NoMore)) ≤ max left (1 + k)
  deep left = let x : depth_behind 0 (Node Statement s.row) ≤ max 0 k = s.depth 0 in omega (arith, x)

-- `if`, with and without `else`, and `for`

deep_if : (left d k : ℕ) → d ≤ max 1 k → 1 ≤ k → max left (1 + max d 0) ≤ max left (1 + k)
deep_if left d k h some = omega (arith, h, some)

deep_else : (left d e k : ℕ) → d ≤ max 1 k → e ≤ max 0 k → 1 ≤ k → max left (1 + max d (0 + e)) ≤ max left (1 + k)
deep_else left d e k h i some = omega (arith, h, i, some)

deep_for : (left d k : ℕ) → d ≤ max 1 k → 1 ≤ k → max left (1 + d) ≤ max left (1 + k)
deep_for left d k h some = omega (arith, h, some)

abbrev if_front : List Part
if_front = word words.If ∷ mark marks.OpenParenthesis ∷ A Expression ∷ mark marks.CloseParenthesis ∷ []

abbrev less_bits : Variable → Variable → List Bit
less_bits u v = word_if ∷ space ∷ opening ∷ of_variable u ∷ space ∷ less ∷ space ∷ of_variable v ∷ closing ∷ space ∷ []

abbrev greater_bits : Variable → Variable → List Bit
greater_bits u v = word_if ∷ space ∷ opening ∷ of_variable u ∷ space ∷ greater ∷ space ∷ of_variable v ∷ closing ∷ space ∷ []

if_stated : (bytes : List ℕ) (u v : Variable) (place n k : ℕ) (ts rest : List Token) → 1 ≤ k → parts_at ElsePart rest ≡ Some [] → Stated n k ts rest → Stated (4 + n) (1 + k) (tokens_of bytes place (less_bits u v) ++ ts) rest
unfolding parts_of expression_of behind named arguments_of arguments_in code_of statement_of if_of is_begun are_begun depth_behind row_depth operator_depth choice_depth
if_stated bytes u v place n k ts rest some h s = record {
  row = onto (got (parse 80 if_front (tokens_of bytes place (less_bits u v) ++ ts)) tt).derivation (Then (Node Statement s.row) (Then (Node ElsePart NoMore) NoMore));
  inner = if_front ++ (A Statement ∷ A ElsePart ∷ []);
  enters = refl;
  is = joins if_front (A Statement ∷ A ElsePart ∷ []) (tokens_of bytes place (less_bits u v) ++ ts) ts rest _ _ (got (parse 80 if_front (tokens_of bytes place (less_bits u v) ++ ts)) tt).is
      (enters Statement s.inner (A ElsePart ∷ []) ts rest rest _ _ s.enters s.is (enters ElsePart [] [] rest rest rest _ _ h phrases.nothing phrases.nothing));
  in_items = refl;
  no_else = refl;
  depth = λ left. deep_if left (depth_behind 1 (Node Statement s.row)) k (s.depth 1) some;
  fine = fine_if (suits_binary binary.Less (suits_variable u _) (suits_variable v _)) s.fine;
}

else_stated : (bytes : List ℕ) (u v : Variable) (place p n m k : ℕ) (ts us rest : List Token) → 1 ≤ k → Stated n k ts (token_at bytes (kinds.Keyword words.Else) p 4 ∷ us) → Stated m k us rest
    → Stated (4 + n + m) (1 + k) (tokens_of bytes place (greater_bits u v) ++ ts) rest
unfolding parts_of expression_of behind named arguments_of arguments_in code_of statement_of if_of is_begun are_begun depth_behind row_depth operator_depth choice_depth
else_stated bytes u v place p n m k ts us rest some s t = record {
  row = onto (got (parse 80 if_front (tokens_of bytes place (greater_bits u v) ++ ts)) tt).derivation (Then (Node Statement s.row) (Then (Node ElsePart (Then (Leaf (token_at bytes (kinds.Keyword words.Else) p 4)) (Then (Node Statement t.row) NoMore))) NoMore));
  inner = if_front ++ (A Statement ∷ A ElsePart ∷ []);
  enters = refl;
  is = joins if_front (A Statement ∷ A ElsePart ∷ []) (tokens_of bytes place (greater_bits u v) ++ ts) ts rest _ _ (got (parse 80 if_front (tokens_of bytes place (greater_bits u v) ++ ts)) tt).is
      (enters Statement s.inner (A ElsePart ∷ []) ts (token_at bytes (kinds.Keyword words.Else) p 4 ∷ us) rest _ _ s.enters s.is
      (phrases.phrase ElsePart (word words.Else ∷ A Statement ∷ []) refl (phrases.token refl (enters Statement t.inner [] us rest rest _ _ t.enters t.is phrases.nothing)) phrases.nothing));
  in_items = refl;
  no_else = refl;
  depth = λ left. deep_else left (depth_behind 1 (Node Statement s.row)) (depth_behind 0 (Node Statement t.row)) k (s.depth 1) (t.depth 0) some;
  fine = fine_if_else (suits_binary binary.Greater (suits_variable u _) (suits_variable v _)) s.fine t.fine;
}

abbrev for_front : List Part
for_front = word words.For ∷ mark marks.OpenParenthesis ∷ A First ∷ mark marks.Semicolon ∷ A OptionalExpression ∷ mark marks.Semicolon ∷ A OptionalSimple ∷ mark marks.CloseParenthesis ∷ []

abbrev for_bits : List Bit
for_bits = word_for ∷ space ∷ opening ∷ forms.named (codes "i") ∷ space ∷ equal ∷ space ∷ digit 0 ∷ semicolon ∷ space ∷ forms.named (codes "i") ∷ space ∷ less ∷ space ∷ digit 8 ∷ semicolon ∷ space ∷ forms.named (codes "i") ∷ twice ∷ closing ∷ space ∷ []

for_stated : (bytes : List ℕ) (place n k : ℕ) (ts rest : List Token) → 1 ≤ k → Stated n k ts rest → Stated (8 + n) (1 + k) (tokens_of bytes place for_bits ++ ts) rest
unfolding parts_of expression_of behind named arguments_of arguments_in code_of statement_of first_of test_of step_of action_of first_place if_of is_begun are_begun depth_behind row_depth operator_depth choice_depth
for_stated bytes place n k ts rest some s = record {
  row = onto (got (parse 120 for_front (tokens_of bytes place for_bits ++ ts)) tt).derivation (Then (Node Statement s.row) NoMore);
  inner = for_front ++ (A Statement ∷ []);
  enters = refl;
  is = joins for_front (A Statement ∷ []) (tokens_of bytes place for_bits ++ ts) ts rest _ _ (got (parse 120 for_front (tokens_of bytes place for_bits ++ ts)) tt).is
      (enters Statement s.inner [] ts rest rest _ _ s.enters s.is phrases.nothing);
  in_items = refl;
  no_else = refl;
  depth = λ left. deep_for left (depth_behind 1 (Node Statement s.row)) k (s.depth 1) some;
  fine = fine_more (8 + n) (omega arith) (fine_for (suits_assign (target_counter _ _) (suits_number (pos 0))) (suits_binary binary.Less (suits_counter _) (suits_number (pos 8))) (suits_increase (target_counter _ _)) s.fine);
}

-- lines

pub line_stated : (l : Line) (bytes : List ℕ) (place : ℕ) (rest : List Token) → parts_at ElsePart rest ≡ Some [] → Stated 34 11 (line_tokens l bytes place rest) rest
line_stated (Set v e) bytes place rest h = stated_more 34 11 (omega arith) (omega arith)
    (assigns bytes _ _ (line_tokens (Set v e) bytes place rest) _ rest (to_variable bytes v _ _ _) (formula_expressed (Alone e) bytes _ _ rest))
line_stated (Store v e) bytes place rest h = stated_more 34 11 (omega arith) (omega arith)
    (assigns bytes _ _ (line_tokens (Store v e) bytes place rest) _ rest (to_element bytes v _ _) (formula_expressed (Alone e) bytes _ _ rest))
line_stated (Load v w) bytes place rest h = stated_more 34 11 (omega arith) (omega arith)
    (assigns bytes _ _ (line_tokens (Load v w) bytes place rest) _ rest (to_variable bytes v _ _ _) (element_expressed bytes w (place + 1 + 1 + 1 + 1) _ rest))
line_stated (IfLess u v w e) bytes place rest h = stated_more 34 11 (omega arith) (omega arith)
    (if_stated bytes u v place 15 10 _ rest (omega arith) h (blocked bytes _ _ 14 9 _ rest (assigns bytes _ _ _ _ _ (to_variable bytes w _ _ _) (formula_expressed (Alone e) bytes _ _ _))))
line_stated (Repeat v w e) bytes place rest h = stated_more 34 11 (omega arith) (omega arith)
    (for_stated bytes place 15 10 _ rest (omega arith) (blocked bytes _ _ 14 9 _ rest (assigns bytes _ _ _ _ _ (to_variable bytes v _ _ _) (formula_expressed (Added w e) bytes _ _ _))))
line_stated (IfMore u v w e x f) bytes place rest h = stated_more 34 11 (omega arith) (omega arith)
    (else_stated bytes u v place _ 15 15 10 _ _ rest (omega arith) (blocked bytes _ _ 14 9 _ _ (assigns bytes _ _ _ _ _ (to_variable bytes w _ _ _) (formula_expressed (Alone e) bytes _ _ _)))
    (blocked bytes _ _ 14 9 _ rest (assigns bytes _ _ _ _ _ (to_variable bytes x _ _ _) (formula_expressed (Alone f) bytes _ _ _))))
