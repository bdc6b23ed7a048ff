-- The function main of a generated source.
use Rattle.std.proofs.Common.{◌≡◌, ℕ, zero, suc, ◌+◌, ◌*◌, ◌<◌, ◌≤◌, max, pos, false, List, [], ◌∷◌, ◌++◌, length, map, codes, Option, Some, None, refl, sym, ap, subst, arith}
use Rattle.std.specs.Prelude.{decimal}
use Rattle.vx_ast.specs.declared.tree.Gives.TheVariants.{Int as GivesInt}
use Rattle.vx_ast.specs.declared.token.Mark.TheVariants as marks
use Rattle.vx_ast.specs.declared.token.Token.{Token}
use Rattle.vx_ast.specs.declared.tree.Takes.{Takes}
use Rattle.vx_ast.specs.declared.syntax.Place.{Place}
use Rattle.vx_ast.specs.declared.syntax.Name.{Name}
use Rattle.vx_ast.specs.declared.names.Named.{Named}
use Rattle.vx_ast.specs.declared.names.Named.TheVariants.{Function as AFunctionNamed}
use Rattle.vx_ast.specs.declared.names.FileName.{FileName}
use Rattle.vx_ast.specs.Tokens.{line_at, column_at}
use Rattle.vx_ast.specs.Tree.{One, Row}
use Rattle.vx_ast.specs.Tree as tree
use Rattle.vx_ast.specs.Syntax as syntax
use Rattle.vx_ast.specs.Scopes as scopes
use Rattle.vx_ast.specs.Scopes.{Environment, wanted_by}
use Rattle.vx_ast.specs.Faults.{called, code_faults, function_faults}
use Rattle.vx_ast.specs.Resolved.{call_named, row_in, code_in, function_in}
use Rattle.vx_ast.specs.Accepted.{nodes_of, code_nodes, formats_of, function_nodes, over}
use Rattle.vx_ast.specs.Phrases as phrases
use Rattle.vx_ast.specs.Phrases.{Part, A, mark, Derivation, Leaf, Node, NoMore, Then, Is, parts_of, Statement, Items, Block, AfterName, Parameters}
use Rattle.vx_ast.specs.Derivations.{name_of, expression_of, behind, named, arguments_of, arguments_in, first_place, print_of, code_of, statement_of, if_of, block_of, body_of, all_of, test_of, parameters_of, after_name_of, is_begun, are_begun, depth_behind, row_depth, operator_depth, choice_depth}
use Rattle.vx_generated.proofs.Numbers.{first_digit, other_digits}
use Rattle.vx_generated.proofs.Forms.{Bit, opening, closing, word_void, space, tokens_of, text_of, word_return, digit, semicolon, line_end}
use Rattle.vx_generated.proofs.Parser.{parse, got}
use Rattle.vx_generated.proofs.Fine.{both_none}
use Rattle.vx_generated.proofs.Parts.{parts_at, enters, a_mark}
use Rattle.vx_generated.proofs.Statements.{onto, joins, one_statement}
use Rattle.vx_generated.proofs.Functions.{function_name, parameters_front}
use Rattle.vx_generated.proofs.Sources.{call_bits, calls_tokens, calls_text, main_end}
use Rattle.vx_generated.proofs.Scoped.{in_function, array_name, OnlyNumbers, wants_numbers, numbers_fine, numbers_handed}
use Rattle.vx_generated.proofs.Names.{file_names, main_knows}

-- lines of main, which leave its environment as it is
pub record Calling (n : ℕ) (ts rest : List Token) (e : Environment) : Type 0 where
  pub row : Derivation Row
  pub inner : List Part
  pub enters : parts_at Items ts ≡ Some inner
  pub is : Is inner ts row rest
  pub depth : (left : ℕ) → depth_behind left (Node Items row) ≤ max left 11
  pub faults : code_faults GivesInt false e (all_of (Node Items row)) ≡ []
  pub keeps : scopes.behind (all_of (Node Items row)) e ≡ e
  pub nodes : code_nodes (code_in e (all_of (Node Items row))) ≤ n
  pub formats : over 8 4096 (map (λ (f : List ℕ). length f) (formats_of (code_in e (all_of (Node Items row))))) ≡ None

-- `return 0;`
abbrev pub zero_bits : List Bit
zero_bits = word_return ∷ space ∷ digit 0 ∷ semicolon ∷ line_end ∷ []

zero_calling : (bytes : List ℕ) (place at : ℕ) (rest : List Token) (e : Environment) → Calling 2 (tokens_of bytes place zero_bits ++ a_mark bytes marks.CloseBrace at ∷ rest) (a_mark bytes marks.CloseBrace at ∷ rest) e
unfolding parts_of expression_of behind named arguments_of arguments_in code_of statement_of if_of all_of test_of is_begun are_begun depth_behind row_depth operator_depth choice_depth
zero_calling bytes place at rest e = record {
  row = (got (parse 120 one_statement (tokens_of bytes place zero_bits ++ a_mark bytes marks.CloseBrace at ∷ rest)) tt).derivation;
  inner = one_statement;
  enters = refl;
  is = (got (parse 120 one_statement (tokens_of bytes place zero_bits ++ a_mark bytes marks.CloseBrace at ∷ rest)) tt).is;
  depth = λ left. omega arith;
  faults = refl;
  keeps = refl;
  nodes = omega arith;
  formats = refl;
}

-- a call with two numbers
called_none : (x : Name) (o : Option Named) (j : ℕ) → o ≡ Some (AFunctionNamed j GivesInt 2) → called false 2 x o ≡ []
called_none x o j h = rw h refl

call_nodes : (o : Option Named) (j : ℕ) (row : tree.Tree Row) → o ≡ Some (AFunctionNamed j GivesInt 2) → nodes_of row ≤ 2 → nodes_of (call_named o row) ≤ 3
call_nodes o j row h few = subst (λ (q : Option Named). nodes_of (call_named q row) ≤ 3) (sym h) (omega (arith, few))

deep_call : (left e : ℕ) → e ≤ max 2 11 → max left (0 + e) ≤ max left 11
deep_call left e k = omega (arith, k)

-- its numbers, and where they stand

abbrev spot : (bytes : List ℕ) (place : ℕ) → Place
spot bytes place = record { line = line_at bytes place; column = column_at bytes place }

abbrev first_number : (j place : ℕ) → ℕ
first_number j place = place + 6 + 1 + 6 + 1 + 1 + length (102 ∷ decimal j) + 1

abbrev second_number : (j place : ℕ) → ℕ
second_number j place = first_number j place + length (first_digit (j + 1) ∷ other_digits (j + 1)) + 1 + 1

abbrev two_numbers : (bytes : List ℕ) (j place : ℕ) → syntax.Phrase Row
two_numbers bytes j place =
    syntax.Then (spot bytes (first_number j place)) (syntax.Number (pos (j + 1))) (syntax.Then (spot bytes (second_number j place)) (syntax.Number (pos (j + 2))) syntax.NoMore)

two_nodes : (e : Environment) (ks : List Takes) (bytes : List ℕ) (j place : ℕ) → OnlyNumbers ks → nodes_of (row_in e ks (two_numbers bytes j place)) ≤ 2
two_nodes e ks bytes j place h = subst (λ (r : tree.Tree Row). nodes_of r ≤ 2) (sym (numbers_handed e ks (two_numbers bytes j place) h)) (omega arith)

call_calling : (bytes : List ℕ) (j place n : ℕ) (ts rest : List Token) (e : Environment) → ((o : Option Named) → OnlyNumbers (wanted_by e o)) → scopes.named (function_name j) e ≡ Some (AFunctionNamed j GivesInt 2) → Calling n ts rest e → Calling (4 + n) (tokens_of bytes place (call_bits j) ++ ts) rest e
unfolding parts_of expression_of behind named arguments_of arguments_in first_place code_of print_of statement_of if_of all_of is_begun are_begun depth_behind row_depth operator_depth choice_depth
call_calling bytes j place n ts rest e numbers known s = record {
  row = onto (got (parse 200 (A Statement ∷ []) (tokens_of bytes place (call_bits j) ++ ts)) tt).derivation (Then (Node Items s.row) NoMore);
  inner = one_statement;
  enters = refl;
  is = joins (A Statement ∷ []) (A Items ∷ []) (tokens_of bytes place (call_bits j) ++ ts) ts rest _ _ (got (parse 200 (A Statement ∷ []) (tokens_of bytes place (call_bits j) ++ ts)) tt).is (enters Items s.inner [] ts rest rest s.row _ s.enters s.is phrases.nothing);
  depth = λ left. deep_call left (depth_behind 2 (Node Items s.row)) (s.depth 2);
  faults = both_none _ (code_faults GivesInt false e (all_of (Node Items s.row))) (both_none _ [] (both_none _ _ (called_none (record { bytes = function_name j; place = _ }) (scopes.named (function_name j) e) j known) (numbers_fine e (wanted_by e (scopes.named (function_name j) e)) (two_numbers bytes j place) (numbers (scopes.named (function_name j) e)))) refl) s.faults;
  keeps = s.keeps;
  nodes =
      let x : nodes_of (call_named (scopes.named (function_name j) e) (row_in e (wanted_by e (scopes.named (function_name j) e)) (two_numbers bytes j place))) ≤ 3 =
      call_nodes (scopes.named (function_name j) e) j _ known (two_nodes e (wanted_by e (scopes.named (function_name j) e)) bytes j place (numbers (scopes.named (function_name j) e))) in
      let y : code_nodes (code_in e (all_of (Node Items s.row))) ≤ n = s.nodes in
      sum _ _ n x y;
  formats = s.formats;
} where
  sum : (a b n : ℕ) → a ≤ 3 → b ≤ n → 1 + (a + 0) + b ≤ 4 + n
  sum a b n h k = omega (arith, h, k)

calling_more : {n : ℕ} {ts rest : List Token} {e : Environment} (m : ℕ) → n ≤ m → Calling n ts rest e → Calling m ts rest e
calling_more {n = n} {e = e} m h s = record {
  row = s.row;
  inner = s.inner;
  enters = s.enters;
  is = s.is;
  depth = s.depth;
  faults = s.faults;
  keeps = s.keeps;
  formats = s.formats;
  nodes = let x : code_nodes (code_in e (all_of (Node Items s.row))) ≤ n = s.nodes in omega (arith, h, x);
}

calls_calling : (j k : ℕ) (bytes : List ℕ) (place n : ℕ) (ts rest : List Token) (e : Environment) → ((o : Option Named) → OnlyNumbers (wanted_by e o)) → ((i : ℕ) → j ≤ i → i < j + k → scopes.named (function_name i) e ≡ Some (AFunctionNamed i GivesInt 2))
    → Calling n ts rest e → Calling (4 * k + n) (calls_tokens j k bytes place ts) rest e
calls_calling j zero bytes place n ts rest e numbers known s = calling_more (4 * 0 + n) (omega arith) s
calls_calling j (suc k) bytes place n ts rest e numbers known s =
    let next : ℕ = place + length (text_of (call_bits j)) in
    let more : Calling (4 * k + n) (calls_tokens (j + 1) k bytes next ts) rest e = calls_calling (j + 1) k bytes next n ts rest e numbers (λ i h l. known i (omega (arith, h)) (omega (arith, l))) s in
    let this : Calling (4 + (4 * k + n)) (calls_tokens j (suc k) bytes place ts) rest e = call_calling bytes j place (4 * k + n) (calls_tokens (j + 1) k bytes next ts) rest e numbers (known j (omega arith) (omega arith)) more in
    calling_more (4 * suc k + n) (omega arith) this

-- behind the name of main

abbrev pub void_bits : List Bit
void_bits = opening ∷ word_void ∷ closing ∷ space ∷ []

-- what a program needs of main with k functions above it
pub record GoodMain (others : List FileName) (k : ℕ) (f : syntax.Function) : Type 0 where
  pub gives : f.gives ≡ GivesInt
  pub name : f.name.bytes ≡ codes "main"
  pub parameters : f.parameters ≡ []
  pub faults : function_faults (in_function (suc k) (array_name ∷ others) [] 0) f ≡ []
  pub nodes : function_nodes (function_in (in_function (suc k) (array_name ∷ others) [] 0) f) ≤ 4000
  pub arrays : (function_in (in_function (suc k) (array_name ∷ others) [] 0) f).arrays ≡ []
  pub formats : over 8 4096 (map (λ (t : List ℕ). length t) (formats_of (function_in (in_function (suc k) (array_name ∷ others) [] 0) f).body)) ≡ None

pub record NamedMain (others : List FileName) (k : ℕ) (name : Token) (ts rest : List Token) : Type 0 where
  pub row : Derivation Row
  pub inner : List Part
  pub enters : parts_at AfterName ts ≡ Some inner
  pub is : Is inner ts row rest
  pub depth : (left : ℕ) → depth_behind left (Node AfterName row) ≤ max left 12
  pub function : syntax.Function
  pub defines : after_name_of name (Node AfterName row) ≡ syntax.AFunction function ∷ []
  pub good : GoodMain others k function

deep_main : (left e : ℕ) → e ≤ max 0 11 → max left (0 + max 0 (1 + e)) ≤ max left 12
deep_main left e k = omega (arith, k)

abbrev pub block_row : (bytes : List ℕ) (p q : ℕ) → Derivation Row → Derivation Row
block_row bytes p q items = Then (Leaf (a_mark bytes marks.OpenBrace p)) (Then (Node Items items) (Then (Leaf (a_mark bytes marks.CloseBrace q)) NoMore))

named_main : (others : List FileName) (k : ℕ) (name : Token) (bytes : List ℕ) (place p q n : ℕ) (ts rest : List Token) → (name_of name).bytes ≡ codes "main" → n < 4000
    → Calling n ts (a_mark bytes marks.CloseBrace q ∷ rest) (in_function (suc k) (array_name ∷ others) [] 0) → NamedMain others k name (tokens_of bytes place void_bits ++ a_mark bytes marks.OpenBrace p ∷ ts) rest
unfolding parts_of parameters_of after_name_of block_of body_of code_of depth_behind row_depth operator_depth choice_depth
named_main others k name bytes place p q n ts rest is few s = record {
  row = onto (got (parse 60 parameters_front (tokens_of bytes place void_bits ++ a_mark bytes marks.OpenBrace p ∷ ts)) tt).derivation (Then (Node Block (block_row bytes p q s.row)) NoMore);
  inner = parameters_front ++ (A Block ∷ []);
  enters = refl;
  is = joins parameters_front (A Block ∷ []) (tokens_of bytes place void_bits ++ a_mark bytes marks.OpenBrace p ∷ ts) (a_mark bytes marks.OpenBrace p ∷ ts) rest _ _ (got (parse 60 parameters_front (tokens_of bytes place void_bits ++ a_mark bytes marks.OpenBrace p ∷ ts)) tt).is
      (phrases.phrase Block (mark marks.OpenBrace ∷ A Items ∷ mark marks.CloseBrace ∷ []) refl
      (phrases.token refl (enters Items s.inner (mark marks.CloseBrace ∷ []) ts (a_mark bytes marks.CloseBrace q ∷ rest) rest s.row _ s.enters s.is (phrases.token refl phrases.nothing))) phrases.nothing);
  depth = λ left. deep_main left (depth_behind 0 (Node Items s.row)) (s.depth 0);
  function = record { gives = GivesInt; name = name_of name; parameters = []; body = all_of (Node Items s.row) };
  defines = refl;
  good = record {
    gives = refl;
    name = is;
    parameters = refl;
    faults = s.faults;
    nodes = let x : code_nodes (code_in (in_function (suc k) (array_name ∷ others) [] 0) (all_of (Node Items s.row))) ≤ n = s.nodes in omega (arith, x, few);
    arrays = ap (λ (e : Environment). e.sizes) s.keeps;
    formats = s.formats;
  };
}

pub main_named : (k : ℕ) (name : Token) (bytes : List ℕ) (place p place2 : ℕ) (rest : List Token) → (name_of name).bytes ≡ codes "main" → k ≤ 100
    → NamedMain (file_names 0 k) k name (tokens_of bytes place void_bits ++ a_mark bytes marks.OpenBrace p ∷ calls_tokens 0 k bytes place2 (tokens_of bytes (place2 + length (calls_text 0 k)) main_end ++ rest)) rest
main_named k name bytes place p place2 rest is few =
    let e : Environment = in_function (suc k) (array_name ∷ file_names 0 k) [] 0 in
    let back : Calling 2 (tokens_of bytes (place2 + length (calls_text 0 k)) main_end ++ rest) (a_mark bytes marks.CloseBrace _ ∷ rest) e = zero_calling bytes (place2 + length (calls_text 0 k)) _ rest e in
    let all : Calling (4 * k + 2) (calls_tokens 0 k bytes place2 (tokens_of bytes (place2 + length (calls_text 0 k)) main_end ++ rest)) (a_mark bytes marks.CloseBrace _ ∷ rest) e =
    calls_calling 0 k bytes place2 2 (tokens_of bytes (place2 + length (calls_text 0 k)) main_end ++ rest) (a_mark bytes marks.CloseBrace _ ∷ rest) e (wants_numbers (suc k) (array_name ∷ file_names 0 k) [] 0) (λ i h l. main_knows i k (omega (arith, l)) (omega (arith, few))) back in
    named_main (file_names 0 k) k name bytes place p _ (4 * k + 2) _ rest is (omega (arith, few)) all
