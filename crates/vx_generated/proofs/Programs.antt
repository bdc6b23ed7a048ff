-- The definitions of a generated source, derived from its tokens.
use Rattle.std.proofs.Common.{◌≡◌, ℕ, suc, ◌+◌, ◌*◌, ◌≤◌, max, pos, List, [], ◌∷◌, ◌++◌, length, codes, Some, refl, sym, subst, arith}
use Rattle.std.specs.Prelude.{decimal}
use Rattle.vx_ast.specs.declared.token.Keyword.TheVariants as words
use Rattle.vx_ast.specs.declared.token.Mark.TheVariants as marks
use Rattle.vx_ast.specs.declared.token.TokenKind.TheVariants as kinds
use Rattle.vx_ast.specs.declared.token.Token.{Token}
use Rattle.vx_ast.specs.declared.syntax.Place.{Place}
use Rattle.vx_ast.specs.declared.names.FileName.{FileName}
use Rattle.vx_ast.specs.Tokens.{token_at}
use Rattle.vx_ast.specs.Tree.{Row}
use Rattle.vx_ast.specs.Syntax as syntax
use Rattle.vx_ast.specs.Phrases as phrases
use Rattle.vx_ast.specs.Phrases.{Part, A, AName, mark, word, Derivation, Leaf, Node, NoMore, Then, Is, parts_of, Program, AfterName}
use Rattle.vx_ast.specs.Derivations.{definitions_of, after_name_of, global_of, more_globals_of, depth_behind, row_depth, operator_depth, choice_depth}
use Rattle.vx_generated.proofs.Forms.{Bit, Line, bracket, bracket_end, semicolon, spelt, line_end, tokens_of, text_of}
use Rattle.vx_generated.proofs.Parser.{parse, got}
use Rattle.vx_generated.proofs.Parts.{parts_at, enters}
use Rattle.vx_generated.proofs.Scoped.{in_function, array_name, parameters, all_locals}
use Rattle.vx_generated.proofs.Functions.{function_name, function_tokens, open_bits, Bodied, function_bodied, NamedFunction, named_function, Good, is_good}
use Rattle.vx_generated.proofs.Sources.{Few, functions_text, functions_tokens, function_text, main_tokens, main_bits, array_bits, source_tokens}
use Rattle.vx_generated.proofs.Names.{file_names}
use Rattle.vx_generated.proofs.Mains.{GoodMain, NamedMain, main_named}

-- k functions from number j on, and main behind them
pub data Listing (others : List FileName) : ℕ → ℕ → List syntax.Definition → Type 0 where
  main_alone : {j : ℕ} {f : syntax.Function} → GoodMain others j f → Listing others j 0 (syntax.AFunction f ∷ [])
  one_more : {j k : ℕ} {f : syntax.Function} {ds : List syntax.Definition} → Good others j f → Listing others (j + 1) k ds → Listing others j (suc k) (syntax.AFunction f ∷ ds)

pub record Programmed (others : List FileName) (j k : ℕ) (ts rest : List Token) : Type 0 where
  pub row : Derivation Row
  pub inner : List Part
  pub enters : parts_at Program ts ≡ Some inner
  pub is : Is inner ts row rest
  pub depth : (left : ℕ) → depth_behind left (Node Program row) ≤ max left 12
  pub listing : Listing others j k (definitions_of (Node Program row))

abbrev int_definition : List Part
int_definition = word words.Int ∷ AName ∷ A AfterName ∷ A Program ∷ []

deep_program : (left a b : ℕ) → a ≤ max 0 12 → b ≤ max a 12 → max left (0 + b) ≤ max left 12
deep_program left a b h k = omega (arith, h, k)

-- main and the end
main_programmed : (k : ℕ) (bytes : List ℕ) (place at : ℕ) → k ≤ 100
    → Programmed (file_names 0 k) k 0 (main_tokens k bytes place (token_at bytes kinds.End at 0 ∷ [])) (token_at bytes kinds.End at 0 ∷ [])
unfolding parts_of definitions_of depth_behind row_depth operator_depth choice_depth
main_programmed k bytes place at few =
    let name : Token = token_at bytes (kinds.Name (codes "main")) (place + 3 + 1) 4 in
    let s : NamedMain (file_names 0 k) k name _ (token_at bytes kinds.End at 0 ∷ []) = main_named k name bytes (place + 3 + 1 + 4) (place + 3 + 1 + 4 + 1 + 4 + 1 + 1) (place + length (text_of main_bits)) (token_at bytes kinds.End at 0 ∷ []) refl few in
    record {
      row = Then (Leaf (token_at bytes (kinds.Keyword words.Int) place 3)) (Then (Leaf name) (Then (Node AfterName s.row) (Then (Node Program NoMore) NoMore)));
      inner = int_definition;
      enters = refl;
      is = phrases.token refl (phrases.token (codes "main", refl) (enters AfterName s.inner (A Program ∷ []) _ (token_at bytes kinds.End at 0 ∷ []) (token_at bytes kinds.End at 0 ∷ []) s.row _ s.enters s.is (phrases.phrase Program [] refl phrases.nothing phrases.nothing)));
      depth = λ left. deep_program left (depth_behind 0 (Node AfterName s.row)) (max (depth_behind 0 (Node AfterName s.row)) 0) (s.depth 0) (omega arith);
      listing = subst (λ (ds : List syntax.Definition). Listing (file_names 0 k) k 0 (ds ++ [])) (sym s.defines) (main_alone s.good);
    }

function_programmed : (others : List FileName) (j k : ℕ) (ls : List Line) (bytes : List ℕ) (place : ℕ) (ts rest : List Token) → length ls ≤ 100 → Programmed others (j + 1) k ts rest
    → Programmed others j (suc k) (function_tokens j ls bytes place ts) rest
unfolding parts_of definitions_of depth_behind row_depth operator_depth choice_depth
function_programmed others j k ls bytes place ts rest few more =
    let name : Token = token_at bytes (kinds.Name (function_name j)) (place + 3 + 1) (length (102 ∷ decimal j)) in
    let small : 9 + (34 * length ls + 8) + 3 ≤ 4000 = omega (arith, few) in
    let b : Bodied (9 + (34 * length ls + 8)) _ ts (in_function (suc j) (array_name ∷ others) parameters 2) (in_function (suc j) (array_name ∷ others) all_locals 7) =
    function_bodied j others ls bytes _ _ (place + length (text_of (open_bits j))) ts in
    let s : NamedFunction name (9 + (34 * length ls + 8)) _ ts (in_function (suc j) (array_name ∷ others) parameters 2) (in_function (suc j) (array_name ∷ others) all_locals 7) =
    named_function name bytes (place + 3 + 1 + length (102 ∷ decimal j)) (9 + (34 * length ls + 8)) _ ts _ _ b in
    let good : Good others j s.function = is_good others j (9 + (34 * length ls + 8)) name _ ts refl small s in
    record {
      row = Then (Leaf (token_at bytes (kinds.Keyword words.Int) place 3)) (Then (Leaf name) (Then (Node AfterName s.row) (Then (Node Program more.row) NoMore)));
      inner = int_definition;
      enters = refl;
      is = phrases.token refl (phrases.token (function_name j, refl) (enters AfterName s.inner (A Program ∷ []) _ ts rest s.row _ s.enters s.is (enters Program more.inner [] ts rest rest more.row _ more.enters more.is phrases.nothing)));
      depth = λ left. deep_program left (depth_behind 0 (Node AfterName s.row)) (depth_behind (depth_behind 0 (Node AfterName s.row)) (Node Program more.row)) (s.depth 0) (more.depth (depth_behind 0 (Node AfterName s.row)));
      listing = subst (λ (ds : List syntax.Definition). Listing others j (suc k) (ds ++ definitions_of (Node Program more.row))) (sym s.defines) (one_more good more.listing);
    }

functions_programmed : (others : List FileName) (j k n : ℕ) (lss : List (List Line)) (bytes : List ℕ) (place : ℕ) (rest : List Token) → Few lss → j + length lss ≡ n → (ts : List Token)
    → Programmed others n 0 ts rest → Programmed others j (length lss) (functions_tokens j lss bytes place ts) rest
functions_programmed others j k n [] bytes place rest few e ts s = let same : n ≡ j = omega (arith, e) in subst (λ (m : ℕ). Programmed others m 0 ts rest) same s
functions_programmed others j k n (ls ∷ lss) bytes place rest (Few.with_list short few) e ts s =
    let next : ℕ = place + length (function_text j ls) in
    function_programmed others j (length lss) ls bytes place (functions_tokens (j + 1) lss bytes next ts) rest short
    (functions_programmed others (j + 1) k n lss bytes next rest few (omega (arith, e)) ts s)

-- the whole: the array, and all functions

pub record Whole (others : List FileName) (k : ℕ) (ts rest : List Token) : Type 0 where
  pub row : Derivation Row
  pub inner : List Part
  pub enters : parts_at Program ts ≡ Some inner
  pub is : Is inner ts row rest
  pub depth : (left : ℕ) → depth_behind left (Node Program row) ≤ max left 12
  pub place : Place
  pub size_place : Place
  pub functions : List syntax.Definition
  pub definitions : definitions_of (Node Program row) ≡ syntax.GlobalArray (record { bytes = codes "m"; place = place }) (record { words = 16; place = size_place }) ∷ functions
  pub listing : Listing others 0 k functions

abbrev array_tail : List Bit
array_tail = bracket ∷ spelt (kinds.Number (pos 16)) (codes "16") ∷ bracket_end ∷ semicolon ∷ line_end ∷ []

deep_whole : (left b : ℕ) → b ≤ max 0 12 → max left (0 + b) ≤ max left 12
deep_whole left b k = omega (arith, k)

whole : (others : List FileName) (k : ℕ) (bytes : List ℕ) (ts rest : List Token) → Programmed others 0 k ts rest → Whole others k (tokens_of bytes 0 array_bits ++ ts) rest
unfolding parts_of definitions_of after_name_of global_of more_globals_of depth_behind row_depth operator_depth choice_depth
whole others k bytes ts rest s =
    let name : Token = token_at bytes (kinds.Name (codes "m")) (0 + 3 + 1) 1 in
    let tail : List Token = tokens_of bytes (0 + 3 + 1 + 1) array_tail ++ ts in
    record {
      row = Then (Leaf (token_at bytes (kinds.Keyword words.Int) 0 3)) (Then (Leaf name) (Then (Node AfterName (got (parse 60 (A phrases.GlobalValue ∷ A phrases.MoreGlobals ∷ mark marks.Semicolon ∷ []) (tokens_of bytes (0 + 3 + 1 + 1) array_tail ++ ts)) tt).derivation) (Then (Node Program s.row) NoMore)));
      inner = int_definition;
      enters = refl;
      is = phrases.token refl (phrases.token (codes "m", refl) (phrases.phrase AfterName (A phrases.GlobalValue ∷ A phrases.MoreGlobals ∷ mark marks.Semicolon ∷ []) refl
          (got (parse 60 (A phrases.GlobalValue ∷ A phrases.MoreGlobals ∷ mark marks.Semicolon ∷ []) (tokens_of bytes (0 + 3 + 1 + 1) array_tail ++ ts)) tt).is
          (enters Program s.inner [] ts rest rest s.row _ s.enters s.is phrases.nothing)));
      depth = λ left. deep_whole left (depth_behind 0 (Node Program s.row)) (s.depth 0);
      place = _;
      size_place = _;
      functions = definitions_of (Node Program s.row);
      definitions = refl;
      listing = s.listing;
    }

pub source_whole : (k : ℕ) (lss : List (List Line)) (bytes : List ℕ) (at : ℕ) → k ≤ 100 → length lss ≡ k → Few lss
    → Whole (file_names 0 k) k (source_tokens k lss bytes 0 (token_at bytes kinds.End at 0 ∷ [])) (token_at bytes kinds.End at 0 ∷ [])
source_whole k lss bytes at few e short =
    let end : List Token = token_at bytes kinds.End at 0 ∷ [] in
    let first : ℕ = 0 + length (text_of array_bits) in
    let ts : List Token = functions_tokens 0 lss bytes first (main_tokens k bytes (first + length (functions_text 0 lss)) end) in
    let all : Programmed (file_names 0 k) 0 (length lss) ts end =
    functions_programmed (file_names 0 k) 0 k k lss bytes first end short (omega (arith, e)) (main_tokens k bytes (first + length (functions_text 0 lss)) end) (main_programmed k bytes (first + length (functions_text 0 lss)) at few) in
    whole (file_names 0 k) k bytes ts end (subst (λ (n : ℕ). Programmed (file_names 0 k) 0 n ts end) e all)
