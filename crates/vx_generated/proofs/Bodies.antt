-- The body of a generated function.
use Rattle.std.proofs.Common.{◌≡◌, ℕ, suc, ◌+◌, ◌*◌, ◌≤◌, max, List, [], ◌∷◌, ◌++◌, length, codes, Some, refl, subst, arith}
use Rattle.vx_ast.specs.declared.tree.BinaryOperator.TheVariants as binary
use Rattle.vx_ast.specs.declared.token.Keyword.TheVariants as words
use Rattle.vx_ast.specs.declared.token.Mark.TheVariants as marks
use Rattle.vx_ast.specs.declared.token.Token.{Token}
use Rattle.vx_ast.specs.declared.syntax.Place.{Place}
use Rattle.vx_ast.specs.declared.names.FileName.{FileName}
use Rattle.vx_ast.specs.Tree.{One, Row}
use Rattle.vx_ast.specs.Syntax as syntax
use Rattle.vx_ast.specs.Scopes.{Environment, look, predeclared}
use Rattle.vx_ast.specs.Phrases as phrases
use Rattle.vx_ast.specs.Phrases.{Part, A, mark, word, Derivation, Leaf, Node, NoMore, Then, Is, parts_of, Statement, Items, Item, MoreItems, ElsePart}
use Rattle.vx_ast.specs.Derivations.{expression_of, behind, named, arguments_of, arguments_in, code_of, statement_of, if_of, all_of, item_of, more_items_of, test_of, is_begun, are_begun, depth_behind, row_depth, operator_depth, choice_depth}
use Rattle.vx_generated.proofs.Forms as forms
use Rattle.vx_generated.proofs.Forms.{Bit, InA, InB, InC, InD, Line, word_int, word_return, space, line_end, equal, semicolon, plus, digit, of_variable, tokens_of, line_text}
use Rattle.vx_generated.proofs.Parser.{parse, got}
use Rattle.vx_generated.proofs.Texts.{lines_tokens}
use Rattle.vx_generated.proofs.Fine.{Suits, Knows, suits_variable, suits_binary}
use Rattle.vx_generated.proofs.Scoped.{in_function, array_name, parameters, with_i, with_a, with_b, with_c, all_locals, Leads, of_fine, of_nothing, of_seq, leads_more, of_scalar, of_value}
use Rattle.vx_generated.proofs.Parts.{parts_at, enters, a_mark}
use Rattle.vx_generated.proofs.Statements.{onto, joins, one_statement, Stated, line_stated}

-- items of a block that lead from one environment to another
pub record Listed (n : ℕ) (ts rest : List Token) (e f : Environment) : Type 0 where
  pub row : Derivation Row
  pub inner : List Part
  pub enters : parts_at Items ts ≡ Some inner
  pub is : Is inner ts row rest
  pub no_else : parts_at ElsePart ts ≡ Some []
  pub depth : (left : ℕ) → depth_behind left (Node Items row) ≤ max left 11
  pub leads : Leads n (all_of (Node Items row)) e f

-- `return a + b + c + d;`
abbrev pub return_bits : List Bit
return_bits = word_return ∷ space ∷ of_variable InA ∷ space ∷ plus ∷ space ∷ of_variable InB ∷ space ∷ plus ∷ space ∷ of_variable InC ∷ space ∷ plus ∷ space ∷ of_variable InD ∷ semicolon ∷ line_end ∷ []

leads_return : (place : Place) (n : ℕ) (a : syntax.Phrase One) (e : Environment) → Knows e → Suits n a → Leads (1 + n) (syntax.Seq (syntax.ReturnValue place a) syntax.Nothing) e e
leads_return place n a e k s = leads_more (1 + n) (omega arith) (of_seq {n = 1 + n} {m = 0} {c = syntax.ReturnValue place a} {d = syntax.Nothing}
    (record { faults = s.faults e k; leads = refl; nodes = let x = s.nodes e in omega (arith, x); formats = refl }) (of_nothing e))

pub return_listed : (bytes : List ℕ) (place at : ℕ) (rest : List Token) (e : Environment) → Knows e → Listed 8 (tokens_of bytes place return_bits ++ a_mark bytes marks.CloseBrace at ∷ rest) (a_mark bytes marks.CloseBrace at ∷ rest) e e
unfolding parts_of expression_of behind named arguments_of arguments_in code_of statement_of if_of all_of test_of is_begun are_begun depth_behind row_depth operator_depth choice_depth
return_listed bytes place at rest e k = record {
  row = (got (parse 120 one_statement (tokens_of bytes place return_bits ++ a_mark bytes marks.CloseBrace at ∷ rest)) tt).derivation;
  inner = one_statement;
  enters = refl;
  is = (got (parse 120 one_statement (tokens_of bytes place return_bits ++ a_mark bytes marks.CloseBrace at ∷ rest)) tt).is;
  no_else = refl;
  depth = λ left. omega arith;
  leads = leads_return _ 7 _ e k (suits_binary binary.Add (suits_binary binary.Add (suits_binary binary.Add (suits_variable InA _) (suits_variable InB _)) (suits_variable InC _)) (suits_variable InD _));
}

-- lines before it

deep_more : (left d e : ℕ) → d ≤ max 0 11 → e ≤ max d 11 → max left (0 + e) ≤ max left 11
deep_more left d e h k = omega (arith, h, k)

line_listed : (ts us rest : List Token) (n : ℕ) (e f : Environment) → Knows e → Stated 34 11 ts us → Listed n us rest e f → Listed (34 + n) ts rest e f
unfolding code_of all_of depth_behind row_depth operator_depth choice_depth
line_listed ts us rest n e f k s more = record {
  row = Then (Node Statement s.row) (Then (Node Items more.row) NoMore);
  inner = one_statement;
  enters = s.in_items;
  is = enters Statement s.inner (A Items ∷ []) ts us rest s.row _ s.enters s.is (enters Items more.inner [] us rest rest more.row _ more.enters more.is phrases.nothing);
  no_else = s.no_else;
  depth = λ left. deep_more left (depth_behind 0 (Node Statement s.row)) (depth_behind (depth_behind 0 (Node Statement s.row)) (Node Items more.row)) (s.depth 0) (more.depth (depth_behind 0 (Node Statement s.row)));
  leads = of_seq (of_fine e k s.fine) more.leads;
}

pub lines_listed : (ls : List Line) (bytes : List ℕ) (place : ℕ) (ts rest : List Token) (n : ℕ) (e f : Environment) → Knows e → Listed n ts rest e f → Listed (34 * length ls + n) (lines_tokens ls bytes place ts) rest e f
lines_listed [] bytes place ts rest n e f k s = let same : n ≡ 34 * length {A = Line} [] + n = omega arith in subst (λ (m : ℕ). Listed m ts rest e f) same s
lines_listed (l ∷ ls) bytes place ts rest n e f k s =
    let more : Listed (34 * length ls + n) (lines_tokens ls bytes (place + length (line_text l)) ts) rest e f = lines_listed ls bytes (place + length (line_text l)) ts rest n e f k s in
    let this : Listed (34 + (34 * length ls + n)) (lines_tokens (l ∷ ls) bytes place ts) rest e f = line_listed (lines_tokens (l ∷ ls) bytes place ts) (lines_tokens ls bytes (place + length (line_text l)) ts) rest (34 * length ls + n) e f k (line_stated l bytes place (lines_tokens ls bytes (place + length (line_text l)) ts) more.no_else) more in
    let same : 34 + (34 * length ls + n) ≡ 34 * length (l ∷ ls) + n = omega arith in
    subst (λ (m : ℕ). Listed m (lines_tokens (l ∷ ls) bytes place ts) rest e f) same this

-- declarations before them

abbrev pub declaration_front : List Part
declaration_front = word words.Int ∷ A Item ∷ A MoreItems ∷ mark marks.Semicolon ∷ []

abbrev pub i_bits : List Bit
i_bits = word_int ∷ space ∷ forms.named (codes "i") ∷ semicolon ∷ line_end ∷ []

abbrev pub valued : List ℕ → Bit → List Bit
valued x value = word_int ∷ space ∷ forms.named x ∷ space ∷ equal ∷ space ∷ value ∷ semicolon ∷ line_end ∷ []

deep_declaration : (left e : ℕ) → e ≤ max 0 11 → max left (0 + e) ≤ max left 11
deep_declaration left e k = omega (arith, k)

pub i_listed : (bytes : List ℕ) (place : ℕ) (ts rest : List Token) (above : ℕ) (others : List FileName) (n : ℕ) (f : Environment) → Listed n ts rest (in_function (suc above) (array_name ∷ others) with_i 3) f
    → Listed (1 + n) (tokens_of bytes place (i_bits) ++ ts) rest (in_function (suc above) (array_name ∷ others) parameters 2) f
unfolding parts_of expression_of behind named arguments_of arguments_in code_of all_of item_of more_items_of is_begun are_begun depth_behind row_depth operator_depth choice_depth look predeclared
i_listed bytes place ts rest above others n f s = record {
  row = onto (got (parse 60 declaration_front (tokens_of bytes place (i_bits) ++ ts)) tt).derivation (Then (Node Items s.row) NoMore);
  inner = declaration_front ++ (A Items ∷ []);
  enters = refl;
  is = joins declaration_front (A Items ∷ []) (tokens_of bytes place (i_bits) ++ ts) ts rest _ _ (got (parse 60 declaration_front (tokens_of bytes place (i_bits) ++ ts)) tt).is (enters Items s.inner [] ts rest rest s.row _ s.enters s.is phrases.nothing);
  no_else = refl;
  depth = λ left. deep_declaration left (depth_behind 0 (Node Items s.row)) (s.depth 0);
  leads = of_seq (of_scalar (suc above) (array_name ∷ others) parameters 2 (record { bytes = codes "i"; place = _ }) refl (λ file. refl)) s.leads;
}

pub a_listed : (bytes : List ℕ) (place : ℕ) (ts rest : List Token) (above : ℕ) (others : List FileName) (n : ℕ) (f : Environment) → Listed n ts rest (in_function (suc above) (array_name ∷ others) with_a 4) f
    → Listed (2 + n) (tokens_of bytes place (valued (codes "a") (forms.named (codes "p"))) ++ ts) rest (in_function (suc above) (array_name ∷ others) with_i 3) f
unfolding parts_of expression_of behind named arguments_of arguments_in code_of all_of item_of more_items_of is_begun are_begun depth_behind row_depth operator_depth choice_depth look predeclared
a_listed bytes place ts rest above others n f s = record {
  row = onto (got (parse 60 declaration_front (tokens_of bytes place (valued (codes "a") (forms.named (codes "p"))) ++ ts)) tt).derivation (Then (Node Items s.row) NoMore);
  inner = declaration_front ++ (A Items ∷ []);
  enters = refl;
  is = joins declaration_front (A Items ∷ []) (tokens_of bytes place (valued (codes "a") (forms.named (codes "p"))) ++ ts) ts rest _ _ (got (parse 60 declaration_front (tokens_of bytes place (valued (codes "a") (forms.named (codes "p"))) ++ ts)) tt).is (enters Items s.inner [] ts rest rest s.row _ s.enters s.is phrases.nothing);
  no_else = refl;
  depth = λ left. deep_declaration left (depth_behind 0 (Node Items s.row)) (s.depth 0);
  leads = of_seq (of_value (suc above) (array_name ∷ others) with_i 3 (record { bytes = codes "a"; place = _ }) _ refl (λ file. refl) refl (omega arith)) s.leads;
}

pub b_listed : (bytes : List ℕ) (place : ℕ) (ts rest : List Token) (above : ℕ) (others : List FileName) (n : ℕ) (f : Environment) → Listed n ts rest (in_function (suc above) (array_name ∷ others) with_b 5) f
    → Listed (2 + n) (tokens_of bytes place (valued (codes "b") (forms.named (codes "q"))) ++ ts) rest (in_function (suc above) (array_name ∷ others) with_a 4) f
unfolding parts_of expression_of behind named arguments_of arguments_in code_of all_of item_of more_items_of is_begun are_begun depth_behind row_depth operator_depth choice_depth look predeclared
b_listed bytes place ts rest above others n f s = record {
  row = onto (got (parse 60 declaration_front (tokens_of bytes place (valued (codes "b") (forms.named (codes "q"))) ++ ts)) tt).derivation (Then (Node Items s.row) NoMore);
  inner = declaration_front ++ (A Items ∷ []);
  enters = refl;
  is = joins declaration_front (A Items ∷ []) (tokens_of bytes place (valued (codes "b") (forms.named (codes "q"))) ++ ts) ts rest _ _ (got (parse 60 declaration_front (tokens_of bytes place (valued (codes "b") (forms.named (codes "q"))) ++ ts)) tt).is (enters Items s.inner [] ts rest rest s.row _ s.enters s.is phrases.nothing);
  no_else = refl;
  depth = λ left. deep_declaration left (depth_behind 0 (Node Items s.row)) (s.depth 0);
  leads = of_seq (of_value (suc above) (array_name ∷ others) with_a 4 (record { bytes = codes "b"; place = _ }) _ refl (λ file. refl) refl (omega arith)) s.leads;
}

pub c_listed : (bytes : List ℕ) (place : ℕ) (ts rest : List Token) (above : ℕ) (others : List FileName) (n : ℕ) (f : Environment) → Listed n ts rest (in_function (suc above) (array_name ∷ others) with_c 6) f
    → Listed (2 + n) (tokens_of bytes place (valued (codes "c") (digit 1)) ++ ts) rest (in_function (suc above) (array_name ∷ others) with_b 5) f
unfolding parts_of expression_of behind named arguments_of arguments_in code_of all_of item_of more_items_of is_begun are_begun depth_behind row_depth operator_depth choice_depth look predeclared
c_listed bytes place ts rest above others n f s = record {
  row = onto (got (parse 60 declaration_front (tokens_of bytes place (valued (codes "c") (digit 1)) ++ ts)) tt).derivation (Then (Node Items s.row) NoMore);
  inner = declaration_front ++ (A Items ∷ []);
  enters = refl;
  is = joins declaration_front (A Items ∷ []) (tokens_of bytes place (valued (codes "c") (digit 1)) ++ ts) ts rest _ _ (got (parse 60 declaration_front (tokens_of bytes place (valued (codes "c") (digit 1)) ++ ts)) tt).is (enters Items s.inner [] ts rest rest s.row _ s.enters s.is phrases.nothing);
  no_else = refl;
  depth = λ left. deep_declaration left (depth_behind 0 (Node Items s.row)) (s.depth 0);
  leads = of_seq (of_value (suc above) (array_name ∷ others) with_b 5 (record { bytes = codes "c"; place = _ }) _ refl (λ file. refl) refl (omega arith)) s.leads;
}

pub d_listed : (bytes : List ℕ) (place : ℕ) (ts rest : List Token) (above : ℕ) (others : List FileName) (n : ℕ) (f : Environment) → Listed n ts rest (in_function (suc above) (array_name ∷ others) all_locals 7) f
    → Listed (2 + n) (tokens_of bytes place (valued (codes "d") (digit 2)) ++ ts) rest (in_function (suc above) (array_name ∷ others) with_c 6) f
unfolding parts_of expression_of behind named arguments_of arguments_in code_of all_of item_of more_items_of is_begun are_begun depth_behind row_depth operator_depth choice_depth look predeclared
d_listed bytes place ts rest above others n f s = record {
  row = onto (got (parse 60 declaration_front (tokens_of bytes place (valued (codes "d") (digit 2)) ++ ts)) tt).derivation (Then (Node Items s.row) NoMore);
  inner = declaration_front ++ (A Items ∷ []);
  enters = refl;
  is = joins declaration_front (A Items ∷ []) (tokens_of bytes place (valued (codes "d") (digit 2)) ++ ts) ts rest _ _ (got (parse 60 declaration_front (tokens_of bytes place (valued (codes "d") (digit 2)) ++ ts)) tt).is (enters Items s.inner [] ts rest rest s.row _ s.enters s.is phrases.nothing);
  no_else = refl;
  depth = λ left. deep_declaration left (depth_behind 0 (Node Items s.row)) (s.depth 0);
  leads = of_seq (of_value (suc above) (array_name ∷ others) with_c 6 (record { bytes = codes "d"; place = _ }) _ refl (λ file. refl) refl (omega arith)) s.leads;
}
