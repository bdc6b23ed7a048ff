-- A generated function.
use Rattle.std.proofs.Common.{◌≡◌, ℕ, suc, ◌+◌, ◌*◌, ◌≤◌, max, false, List, [], ◌∷◌, ◌++◌, length, codes, Some, refl, sym, ap, subst, ◌∙◌, arith}
use Rattle.std.specs.Prelude.{decimal}
use Rattle.vx_ast.specs.declared.tree.Gives.TheVariants.{Int as GivesInt}
use Rattle.vx_ast.specs.declared.tree.Takes.TheVariants.{Number as TakesNumber}
use Rattle.vx_ast.specs.declared.token.Mark.TheVariants as marks
use Rattle.vx_ast.specs.declared.token.TokenKind.TheVariants as kinds
use Rattle.vx_ast.specs.declared.token.Token.{Token}
use Rattle.vx_ast.specs.declared.syntax.Place.{Place}
use Rattle.vx_ast.specs.declared.syntax.Name.{Name}
use Rattle.vx_ast.specs.declared.syntax.Parameter.{Parameter}
use Rattle.vx_ast.specs.declared.names.FileName.{FileName}
use Rattle.vx_ast.specs.Tree.{Row}
use Rattle.vx_ast.specs.Syntax as syntax
use Rattle.vx_ast.specs.Scopes.{Environment, Known, look, predeclared, takes_of, with_parameters, with_scalar}
use Rattle.vx_ast.specs.Scopes as scopes
use Rattle.vx_ast.specs.Faults.{function_faults, parameter_faults, code_faults, declares}
use Rattle.vx_ast.specs.Resolved.{function_in, code_in}
use Rattle.vx_ast.specs.Accepted.{function_nodes, code_nodes, formats_of}
use Rattle.vx_ast.specs.Phrases as phrases
use Rattle.vx_ast.specs.Phrases.{Part, A, mark, word, Derivation, Leaf, Node, NoMore, Then, Is, parts_of, Block, Items, Parameters, AfterName}
use Rattle.vx_ast.specs.Derivations.{name_of, block_of, body_of, code_of, parameters_of, after_name_of, depth_behind, row_depth, operator_depth, choice_depth}
use Rattle.vx_generated.proofs.Forms as forms
use Rattle.vx_generated.proofs.Forms.{Bit, Spelt, Line, word_int, space, line_end, comma, opening, closing, brace, brace_end, digit, tokens_of, text_of}
use Rattle.vx_generated.proofs.Parser.{parse, got}
use Rattle.vx_generated.proofs.Spelling.{Tokens, bits_tokens, followed}
use Rattle.vx_generated.proofs.Texts.{lines_text, lines_tokens}
use Rattle.vx_generated.proofs.Fine.{both_none}
use Rattle.vx_generated.proofs.Scoped.{in_function, array_name, local, parameters, all_locals, knows_all, adds, declares_none, Leads, leads_more}
use Rattle.vx_generated.proofs.Parts.{parts_at, enters, a_mark}
use Rattle.vx_generated.proofs.Statements.{onto, joins}
use Rattle.vx_generated.proofs.Bodies.{Listed, return_bits, return_listed, lines_listed, i_bits, valued, i_listed, a_listed, b_listed, c_listed, d_listed}

-- the names of functions
abbrev pub function_name : ℕ → List ℕ
function_name j = 102 ∷ decimal j

-- `(int p, int q) `
abbrev pub parameter_bits : List Bit
parameter_bits = opening ∷ word_int ∷ space ∷ forms.named (codes "p") ∷ comma ∷ space ∷ word_int ∷ space ∷ forms.named (codes "q") ∷ closing ∷ space ∷ []

abbrev pub declaration_bits : List Bit
declaration_bits = i_bits ++ (valued (codes "a") (forms.named (codes "p")) ++ (valued (codes "b") (forms.named (codes "q")) ++ (valued (codes "c") (digit 1) ++ valued (codes "d") (digit 2))))

abbrev pub open_bits : ℕ → List Bit
open_bits j = word_int ∷ space ∷ Spelt (kinds.Name (function_name j)) 102 (decimal j) ∷ (parameter_bits ++ (brace ∷ line_end ∷ declaration_bits))

abbrev pub close_bits : List Bit
close_bits = return_bits ++ (brace_end ∷ line_end ∷ [])

abbrev pub function_tokens : ℕ → List Line → Tokens
function_tokens j ls = followed (text_of (open_bits j)) (bits_tokens (open_bits j)) (followed (lines_text ls) (lines_tokens ls) (bits_tokens close_bits))

-- a body

pub record Bodied (n : ℕ) (ts rest : List Token) (e f : Environment) : Type 0 where
  pub row : Derivation Row
  pub inner : List Part
  pub enters : parts_at Block ts ≡ Some inner
  pub is : Is inner ts row rest
  pub depth : (left : ℕ) → depth_behind left (Node Block row) ≤ max left 12
  pub leads : Leads n (block_of (Node Block row)) e f

deep_body : (left e : ℕ) → e ≤ max 0 11 → max left (1 + e) ≤ max left 12
deep_body left e k = omega (arith, k)

pub bodied : (bytes : List ℕ) (p q n : ℕ) (ts rest : List Token) (e f : Environment) → Listed n ts (a_mark bytes marks.CloseBrace q ∷ rest) e f → Bodied n (a_mark bytes marks.OpenBrace p ∷ ts) rest e f
unfolding parts_of block_of body_of code_of depth_behind row_depth operator_depth choice_depth
bodied bytes p q n ts rest e f s = record {
  row = Then (Leaf (a_mark bytes marks.OpenBrace p)) (Then (Node Items s.row) (Then (Leaf (a_mark bytes marks.CloseBrace q)) NoMore));
  inner = mark marks.OpenBrace ∷ A Items ∷ mark marks.CloseBrace ∷ [];
  enters = refl;
  is = phrases.token refl (enters Items s.inner (mark marks.CloseBrace ∷ []) ts (a_mark bytes marks.CloseBrace q ∷ rest) rest s.row _ s.enters s.is (phrases.token refl phrases.nothing));
  depth = λ left. deep_body left (depth_behind 0 (Node Items s.row)) (s.depth 0);
  leads = s.leads;
}

bodied_more : {n : ℕ} {ts rest : List Token} {e f : Environment} (m : ℕ) → n ≤ m → Bodied n ts rest e f → Bodied m ts rest e f
bodied_more m h s = record { row = s.row; inner = s.inner; enters = s.enters; is = s.is; depth = s.depth; leads = leads_more m h s.leads }

-- the whole body of a function with these lines
pub function_bodied : (above : ℕ) (others : List FileName) (ls : List Line) (bytes : List ℕ) (p place place2 : ℕ) (rest : List Token)
    → Bodied (9 + (34 * length ls + 8)) (a_mark bytes marks.OpenBrace p ∷ (tokens_of bytes place declaration_bits ++ lines_tokens ls bytes place2 (tokens_of bytes (place2 + length (lines_text ls)) close_bits ++ rest))) rest
    (in_function (suc above) (array_name ∷ others) parameters 2) (in_function (suc above) (array_name ∷ others) all_locals 7)
function_bodied above others ls bytes p place place2 rest =
    let e7 : Environment = in_function (suc above) (array_name ∷ others) all_locals 7 in
    let back : Listed 8 (tokens_of bytes (place2 + length (lines_text ls)) close_bits ++ rest) (a_mark bytes marks.CloseBrace _ ∷ rest) e7 e7 = return_listed bytes (place2 + length (lines_text ls)) _ rest e7 (knows_all above others) in
    let all : Listed (34 * length ls + 8) (lines_tokens ls bytes place2 (tokens_of bytes (place2 + length (lines_text ls)) close_bits ++ rest)) (a_mark bytes marks.CloseBrace _ ∷ rest) e7 e7 =
    lines_listed ls bytes place2 (tokens_of bytes (place2 + length (lines_text ls)) close_bits ++ rest) _ 8 e7 e7 (knows_all above others) back in
    let with_d = d_listed bytes _ _ _ above others (34 * length ls + 8) e7 all in
    let with_c = c_listed bytes _ _ _ above others _ e7 with_d in
    let with_b = b_listed bytes _ _ _ above others _ e7 with_c in
    let with_a = a_listed bytes _ _ _ above others _ e7 with_b in
    let with_i = i_listed bytes place _ _ above others _ e7 with_a in
    let whole : Listed (1 + (2 + (2 + (2 + (2 + (34 * length ls + 8)))))) (tokens_of bytes place declaration_bits ++ lines_tokens ls bytes place2 (tokens_of bytes (place2 + length (lines_text ls)) close_bits ++ rest)) (a_mark bytes marks.CloseBrace _ ∷ rest) (in_function (suc above) (array_name ∷ others) parameters 2) e7 = with_i in
    bodied_more (9 + (34 * length ls + 8)) (omega arith) (bodied bytes p _ (1 + (2 + (2 + (2 + (2 + (34 * length ls + 8)))))) _ rest _ e7 whole)

-- behind its name

abbrev pub two_parameters : (p q : Place) → List Parameter
two_parameters p q =
    (record { name = record { bytes = codes "p"; place = p }; takes = TakesNumber }) ∷ (record { name = record { bytes = codes "q"; place = q }; takes = TakesNumber }) ∷ []

abbrev pub parameters_front : List Part
parameters_front = mark marks.OpenParenthesis ∷ A Parameters ∷ mark marks.CloseParenthesis ∷ []

pub record NamedFunction (name : Token) (n : ℕ) (ts rest : List Token) (e f : Environment) : Type 0 where
  pub row : Derivation Row
  pub inner : List Part
  pub enters : parts_at AfterName ts ≡ Some inner
  pub is : Is inner ts row rest
  pub depth : (left : ℕ) → depth_behind left (Node AfterName row) ≤ max left 12
  pub function : syntax.Function
  pub defines : after_name_of name (Node AfterName row) ≡ syntax.AFunction function ∷ []
  pub gives : function.gives ≡ GivesInt
  pub name_is : function.name ≡ name_of name
  pub p : Place
  pub q : Place
  pub parameters_are : function.parameters ≡ two_parameters p q
  pub leads : Leads n function.body e f

deep_function : (left e : ℕ) → e ≤ max 0 12 → max left (0 + e) ≤ max left 12
deep_function left e k = omega (arith, k)

pub named_function : (name : Token) (bytes : List ℕ) (place n : ℕ) (ts rest : List Token) (e f : Environment) → Bodied n ts rest e f → NamedFunction name n (tokens_of bytes place parameter_bits ++ ts) rest e f
unfolding parts_of parameters_of after_name_of block_of depth_behind row_depth operator_depth choice_depth
named_function name bytes place n ts rest e f s = record {
  row = onto (got (parse 60 parameters_front (tokens_of bytes place parameter_bits ++ ts)) tt).derivation (Then (Node Block s.row) NoMore);
  inner = parameters_front ++ (A Block ∷ []);
  enters = refl;
  is = joins parameters_front (A Block ∷ []) (tokens_of bytes place parameter_bits ++ ts) ts rest _ _ (got (parse 60 parameters_front (tokens_of bytes place parameter_bits ++ ts)) tt).is (enters Block s.inner [] ts rest rest s.row _ s.enters s.is phrases.nothing);
  depth = λ left. deep_function left (depth_behind 0 (Node Block s.row)) (s.depth 0);
  function = record { gives = GivesInt; name = name_of name; parameters = two_parameters _ _; body = block_of (Node Block s.row) };
  defines = refl;
  gives = refl;
  name_is = refl;
  p = _;
  q = _;
  parameters_are = refl;
  leads = s.leads;
}

-- what a program needs of a function with so many functions above it

pub record Good (others : List FileName) (j : ℕ) (f : syntax.Function) : Type 0 where
  pub gives : f.gives ≡ GivesInt
  pub name : f.name.bytes ≡ function_name j
  pub takes : takes_of f.parameters ≡ TakesNumber ∷ TakesNumber ∷ []
  pub parameters : length f.parameters ≡ 2
  pub faults : function_faults (in_function (suc j) (array_name ∷ others) [] 0) f ≡ []
  pub nodes : function_nodes (function_in (in_function (suc j) (array_name ∷ others) [] 0) f) ≤ 4000
  pub arrays : (function_in (in_function (suc j) (array_name ∷ others) [] 0) f).arrays ≡ []
  pub formats : formats_of (function_in (in_function (suc j) (array_name ∷ others) [] 0) f).body ≡ []

with_both : (above : ℕ) (names : List FileName) (p q : Place) → with_parameters (two_parameters p q) (in_function above names [] 0) ≡ in_function above names parameters 2
with_both above names p q =
    ap (λ (e : Environment). with_scalar (record { bytes = codes "q"; place = q }) e) (adds above names [] 0 (record { bytes = codes "p"; place = p }) (λ file. refl))
    ∙ adds above names (local (codes "p") 0 ∷ []) 1 (record { bytes = codes "q"; place = q }) (λ file. refl)

no_faults : (above : ℕ) (names : List FileName) (p q : Place) → parameter_faults (in_function above names [] 0) (two_parameters p q) ≡ []
unfolding predeclared
no_faults above names p q =
    both_none (declares (in_function above names [] 0) (record { bytes = codes "p"; place = p })) _ (declares_none above names [] 0 (record { bytes = codes "p"; place = p }) refl (λ file. refl))
    (both_none (declares (with_scalar (record { bytes = codes "p"; place = p }) (in_function above names [] 0)) (record { bytes = codes "q"; place = q })) []
    (ap (λ (e : Environment). declares e (record { bytes = codes "q"; place = q })) (adds above names [] 0 (record { bytes = codes "p"; place = p }) (λ file. refl))
    ∙ declares_none above names (local (codes "p") 0 ∷ []) 1 (record { bytes = codes "q"; place = q }) refl (λ file. refl)) refl)

good_at : (others : List FileName) (j n : ℕ) (name : Name) (p q : Place) (body : syntax.Code) → name.bytes ≡ function_name j → n + 3 ≤ 4000 → Leads n body (in_function (suc j) (array_name ∷ others) parameters 2) (in_function (suc j) (array_name ∷ others) all_locals 7)
    → Good others j (record { gives = GivesInt; name = name; parameters = two_parameters p q; body = body })
good_at others j n name p q body is few s =
    let names : List FileName = array_name ∷ others in
    let start : Environment = with_parameters (two_parameters p q) (in_function (suc j) names [] 0) in
    let w : in_function (suc j) names parameters 2 ≡ start = sym (with_both (suc j) names p q) in
    record {
      gives = refl;
      name = is;
      takes = refl;
      parameters = refl;
      faults = both_none (parameter_faults (in_function (suc j) names [] 0) (two_parameters p q)) (code_faults GivesInt false start body) (no_faults (suc j) names p q) (subst (λ (e : Environment). code_faults GivesInt false e body ≡ []) w s.faults);
      nodes = let x : code_nodes (code_in start body) ≤ n = subst (λ (e : Environment). code_nodes (code_in e body) ≤ n) w s.nodes in omega (arith, x, few);
      arrays = ap (λ (e : Environment). (scopes.behind body e).sizes) (sym w) ∙ ap (λ (e : Environment). e.sizes) s.leads;
      formats = subst (λ (e : Environment). formats_of (code_in e body) ≡ []) w s.formats;
    }

pub is_good : (others : List FileName) (j n : ℕ) (name : Token) (ts rest : List Token) → (name_of name).bytes ≡ function_name j → n + 3 ≤ 4000
    → (s : NamedFunction name n ts rest (in_function (suc j) (array_name ∷ others) parameters 2) (in_function (suc j) (array_name ∷ others) all_locals 7)) → Good others j s.function
is_good others j n name ts rest is few s =
    let here : Good others j (record { gives = GivesInt; name = name_of name; parameters = two_parameters s.p s.q; body = s.function.body }) = good_at others j n (name_of name) s.p s.q s.function.body is few s.leads in
    let same : record { gives = GivesInt; name = name_of name; parameters = two_parameters s.p s.q; body = s.function.body } ≡ s.function = λ i. record { gives = (sym s.gives) i; name = (sym s.name_is) i; parameters = (sym s.parameters_are) i; body = s.function.body } in
    subst (λ (f : syntax.Function). Good others j f) same here
