-- What the tokens of each line are derived as.
use Rattle.std.proofs.Common.{◌≡◌, ℕ, ◌≤◌, max, pos, List, [], ◌∷◌, ◌++◌, Option, Some, None, refl, arith}
use Rattle.vx_ast.specs.declared.tree.BinaryOperator.TheVariants as binary
use Rattle.vx_ast.specs.declared.token.Mark.{Mark}
use Rattle.vx_ast.specs.declared.token.Mark.TheVariants as marks
use Rattle.vx_ast.specs.declared.token.TokenKind.TheVariants as kinds
use Rattle.vx_ast.specs.declared.token.Token.{Token}
use Rattle.vx_ast.specs.Tokens.{token_at}
use Rattle.vx_ast.specs.Tree.{Row}
use Rattle.vx_ast.specs.Phrases as phrases
use Rattle.vx_ast.specs.Phrases.{Phrase, Part, A, mark, Derivation, Leaf, Node, NoMore, Then, Is, parts_of, Expression, ChoiceRest, Level, Statement, Simple, SimpleRest, Block, Items, ElsePart}
use Rattle.vx_ast.specs.Derivations.{expression_of, behind, named, arguments_of, arguments_in, depth_behind, row_depth, operator_depth, choice_depth}
use Rattle.vx_generated.proofs.Forms.{Sum, Thrice, Quotient, Remainder, Half, Formula, Alone, Added, tokens_of, pieces_of}
use Rattle.vx_generated.proofs.Parser.{parse, got}
use Rattle.vx_generated.proofs.Fine.{Suits, suits_variable, suits_number, suits_binary, suits_more}

-- the parts of a phrase where these tokens stand
abbrev pub parts_at : Phrase → List Token → Option (List Part)
parts_at p [] = None
parts_at p (t ∷ ts) = parts_of p t.kind

pub enters : (p : Phrase) (inner parts : List Part) (ts mid rest : List Token) (d e : Derivation Row) → parts_at p ts ≡ Some inner → Is inner ts d mid → Is parts mid e rest → Is (A p ∷ parts) ts (Then (Node p d) e) rest
enters p inner parts [] mid rest d e h i j = let no_parts : None ≡ Some inner = h in cc
enters p inner parts (t ∷ ts) mid rest d e h i j = phrases.phrase p inner h i j

-- expressions

abbrev pub of_expression : List Part
of_expression = A (Level 10) ∷ A ChoiceRest ∷ []

pub record Expressed (ts rest : List Token) : Type 0 where
  pub row : Derivation Row
  pub is : Is of_expression ts row rest
  pub enters : parts_at Expression ts ≡ Some of_expression
  pub depth : (left : ℕ) → depth_behind left (Node Expression row) ≤ max left 8
  pub suits : Suits 9 (expression_of (Node Expression row))

-- a token of one byte
abbrev pub a_mark : (bytes : List ℕ) → Mark → ℕ → Token
a_mark bytes m place = token_at bytes (kinds.Mark m) place 1

pub formula_expressed : (e : Formula) (bytes : List ℕ) (place at : ℕ) (rest : List Token) → Expressed (tokens_of bytes place (pieces_of e) ++ a_mark bytes marks.Semicolon at ∷ rest) (a_mark bytes marks.Semicolon at ∷ rest)
unfolding parts_of expression_of behind named arguments_of arguments_in depth_behind row_depth operator_depth choice_depth
formula_expressed (Alone (Sum v w)) bytes place at rest = record {
  row = (got (parse 60 of_expression (tokens_of bytes place (pieces_of (Alone (Sum v w))) ++ a_mark bytes marks.Semicolon at ∷ rest)) tt).derivation;
  is = (got (parse 60 of_expression (tokens_of bytes place (pieces_of (Alone (Sum v w))) ++ a_mark bytes marks.Semicolon at ∷ rest)) tt).is;
  enters = refl;
  depth = λ left. omega arith;
  suits = suits_more 9 (omega arith) (suits_binary binary.Add (suits_variable v _) (suits_variable w _));
}
formula_expressed (Alone (Thrice v w)) bytes place at rest = record {
  row = (got (parse 60 of_expression (tokens_of bytes place (pieces_of (Alone (Thrice v w))) ++ a_mark bytes marks.Semicolon at ∷ rest)) tt).derivation;
  is = (got (parse 60 of_expression (tokens_of bytes place (pieces_of (Alone (Thrice v w))) ++ a_mark bytes marks.Semicolon at ∷ rest)) tt).is;
  enters = refl;
  depth = λ left. omega arith;
  suits = suits_more 9 (omega arith) (suits_binary binary.Subtract (suits_binary binary.Multiply (suits_variable v _) (suits_number (pos 3))) (suits_variable w _));
}
formula_expressed (Alone (Quotient v w)) bytes place at rest = record {
  row = (got (parse 60 of_expression (tokens_of bytes place (pieces_of (Alone (Quotient v w))) ++ a_mark bytes marks.Semicolon at ∷ rest)) tt).derivation;
  is = (got (parse 60 of_expression (tokens_of bytes place (pieces_of (Alone (Quotient v w))) ++ a_mark bytes marks.Semicolon at ∷ rest)) tt).is;
  enters = refl;
  depth = λ left. omega arith;
  suits = suits_more 9 (omega arith) (suits_binary binary.Divide (suits_variable v _) (suits_binary binary.Add (suits_binary binary.BitAnd (suits_variable w _) (suits_number (pos 7))) (suits_number (pos 1))));
}
formula_expressed (Alone (Remainder v w)) bytes place at rest = record {
  row = (got (parse 60 of_expression (tokens_of bytes place (pieces_of (Alone (Remainder v w))) ++ a_mark bytes marks.Semicolon at ∷ rest)) tt).derivation;
  is = (got (parse 60 of_expression (tokens_of bytes place (pieces_of (Alone (Remainder v w))) ++ a_mark bytes marks.Semicolon at ∷ rest)) tt).is;
  enters = refl;
  depth = λ left. omega arith;
  suits = suits_more 9 (omega arith) (suits_binary binary.Remainder (suits_variable v _) (suits_binary binary.Add (suits_binary binary.BitAnd (suits_variable w _) (suits_number (pos 7))) (suits_number (pos 1))));
}
formula_expressed (Alone (Half v w)) bytes place at rest = record {
  row = (got (parse 60 of_expression (tokens_of bytes place (pieces_of (Alone (Half v w))) ++ a_mark bytes marks.Semicolon at ∷ rest)) tt).derivation;
  is = (got (parse 60 of_expression (tokens_of bytes place (pieces_of (Alone (Half v w))) ++ a_mark bytes marks.Semicolon at ∷ rest)) tt).is;
  enters = refl;
  depth = λ left. omega arith;
  suits = suits_more 9 (omega arith) (suits_binary binary.ShiftRight (suits_binary binary.BitXor (suits_variable v _) (suits_variable w _)) (suits_number (pos 1)));
}
formula_expressed (Added u (Sum v w)) bytes place at rest = record {
  row = (got (parse 60 of_expression (tokens_of bytes place (pieces_of (Added u (Sum v w))) ++ a_mark bytes marks.Semicolon at ∷ rest)) tt).derivation;
  is = (got (parse 60 of_expression (tokens_of bytes place (pieces_of (Added u (Sum v w))) ++ a_mark bytes marks.Semicolon at ∷ rest)) tt).is;
  enters = refl;
  depth = λ left. omega arith;
  suits = suits_more 9 (omega arith) (suits_binary binary.Add (suits_binary binary.Add (suits_variable u _) (suits_variable v _)) (suits_variable w _));
}
formula_expressed (Added u (Thrice v w)) bytes place at rest = record {
  row = (got (parse 60 of_expression (tokens_of bytes place (pieces_of (Added u (Thrice v w))) ++ a_mark bytes marks.Semicolon at ∷ rest)) tt).derivation;
  is = (got (parse 60 of_expression (tokens_of bytes place (pieces_of (Added u (Thrice v w))) ++ a_mark bytes marks.Semicolon at ∷ rest)) tt).is;
  enters = refl;
  depth = λ left. omega arith;
  suits = suits_more 9 (omega arith) (suits_binary binary.Subtract (suits_binary binary.Add (suits_variable u _) (suits_binary binary.Multiply (suits_variable v _) (suits_number (pos 3)))) (suits_variable w _));
}
formula_expressed (Added u (Quotient v w)) bytes place at rest = record {
  row = (got (parse 60 of_expression (tokens_of bytes place (pieces_of (Added u (Quotient v w))) ++ a_mark bytes marks.Semicolon at ∷ rest)) tt).derivation;
  is = (got (parse 60 of_expression (tokens_of bytes place (pieces_of (Added u (Quotient v w))) ++ a_mark bytes marks.Semicolon at ∷ rest)) tt).is;
  enters = refl;
  depth = λ left. omega arith;
  suits = suits_more 9 (omega arith) (suits_binary binary.Add (suits_variable u _) (suits_binary binary.Divide (suits_variable v _) (suits_binary binary.Add (suits_binary binary.BitAnd (suits_variable w _) (suits_number (pos 7))) (suits_number (pos 1)))));
}
formula_expressed (Added u (Remainder v w)) bytes place at rest = record {
  row = (got (parse 60 of_expression (tokens_of bytes place (pieces_of (Added u (Remainder v w))) ++ a_mark bytes marks.Semicolon at ∷ rest)) tt).derivation;
  is = (got (parse 60 of_expression (tokens_of bytes place (pieces_of (Added u (Remainder v w))) ++ a_mark bytes marks.Semicolon at ∷ rest)) tt).is;
  enters = refl;
  depth = λ left. omega arith;
  suits = suits_more 9 (omega arith) (suits_binary binary.Add (suits_variable u _) (suits_binary binary.Remainder (suits_variable v _) (suits_binary binary.Add (suits_binary binary.BitAnd (suits_variable w _) (suits_number (pos 7))) (suits_number (pos 1)))));
}
formula_expressed (Added u (Half v w)) bytes place at rest = record {
  row = (got (parse 60 of_expression (tokens_of bytes place (pieces_of (Added u (Half v w))) ++ a_mark bytes marks.Semicolon at ∷ rest)) tt).derivation;
  is = (got (parse 60 of_expression (tokens_of bytes place (pieces_of (Added u (Half v w))) ++ a_mark bytes marks.Semicolon at ∷ rest)) tt).is;
  enters = refl;
  depth = λ left. omega arith;
  suits = suits_more 9 (omega arith) (suits_binary binary.ShiftRight (suits_binary binary.Add (suits_variable u _) (suits_binary binary.BitXor (suits_variable v _) (suits_variable w _))) (suits_number (pos 1)));
}
