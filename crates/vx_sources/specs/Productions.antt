-- The grammar as the language's definition writes it (docs/LANGUAGE.md): each phrase with its alternatives, and no token is
-- looked at to choose one. Each pair of brackets is a phrase of its own: an option has an alternative without parts, and a
-- repetition one that ends in the repetition again. What two alternatives begin with, an `int NAME`, a NAME or an expr, stands
-- before one phrase of what may come behind it.
use Rattle.std.specs.Prelude.{◌≡◌, ◌⊎◌, ℕ, suc, List, [], ◌∷◌, codes, get_or}
use Rattle.vx_ast.specs.declared.token.Keyword.TheVariants.{Int, Void, If, Else, While, Do, For, Break, Continue, Return}
use Rattle.vx_ast.specs.declared.token.Mark.{Mark}
use Rattle.vx_ast.specs.declared.token.Mark.TheVariants.{PlusPlus, MinusMinus, PlusEqual, MinusEqual, StarEqual, SlashEqual, PercentEqual, AmpersandEqual, BarEqual, CaretEqual, ShiftLeftEqual, ShiftRightEqual, ShiftLeft, ShiftRight, LessEqual, GreaterEqual, EqualEqual, ExclamationEqual, AmpersandAmpersand, BarBar, Plus, Minus, Star, Slash, Percent, Ampersand, Bar, Caret, Tilde, Exclamation, Less, Greater, Equal, Question, Colon, Comma, Semicolon, OpenParenthesis, CloseParenthesis, OpenBracket, CloseBracket, OpenBrace, CloseBrace}
use Rattle.vx_ast.specs.declared.token.TokenKind.{TokenKind}
use Rattle.vx_ast.specs.declared.token.TokenKind.TheVariants as kinds
use Rattle.vx_ast.specs.declared.token.Token.{Token}
use Rattle.vx_ast.specs.Tree.{Row}
use Rattle.vx_ast.specs.Phrases.{Phrase, Program, AfterName, GlobalValue, SignedNumber, MoreGlobals, Parameters, Parameter, ParameterBrackets, MoreParameters, Block, Items, Item, ItemValue, MoreItems, Statement, ElsePart, First, OptionalExpression, OptionalSimple, Print, Simple, SimpleRest, Expression, ChoiceRest, Level, LevelRest, Primary, NameRest, Arguments, MoreExpressions, Part, The, AName, ANumber, AString, A, mark, word, Fits, Derivation, Leaf, Node, NoMore, Then, Is}
use Rattle.vx_parse.specs.Reading.{next_kind}

abbrev pub IsOneOf : Mark → List Mark → Type 0
IsOneOf m [] = ⊥
IsOneOf m (n ∷ ns) = (m ≡ n) ⊎ IsOneOf m ns

-- the operators with two operands, from the strongest to the weakest
abbrev pub by_strength : List (List Mark)
by_strength = (Star ∷ Slash ∷ Percent ∷ [])
    ∷ (Plus ∷ Minus ∷ [])
    ∷ (ShiftLeft ∷ ShiftRight ∷ [])
    ∷ (Less ∷ LessEqual ∷ Greater ∷ GreaterEqual ∷ [])
    ∷ (EqualEqual ∷ ExclamationEqual ∷ [])
    ∷ (Ampersand ∷ [])
    ∷ (Caret ∷ [])
    ∷ (Bar ∷ [])
    ∷ (AmpersandAmpersand ∷ [])
    ∷ (BarBar ∷ [])
    ∷ []

-- those of strength n, 0 the strongest
abbrev pub operators : ℕ → List Mark
operators n = get_or by_strength n []

abbrev pub signs : List Mark
signs = Minus ∷ Plus ∷ Exclamation ∷ Tilde ∷ []

abbrev pub assigns : List Mark
assigns = Equal ∷ PlusEqual ∷ MinusEqual ∷ StarEqual ∷ SlashEqual ∷ PercentEqual ∷ AmpersandEqual ∷ BarEqual ∷ CaretEqual ∷ ShiftLeftEqual ∷ ShiftRightEqual ∷ []

-- `++` and `--`
abbrev pub steps : List Mark
steps = PlusPlus ∷ MinusMinus ∷ []

-- the name `printf`
abbrev pub printf : TokenKind
printf = kinds.Name (codes "printf")

pub data Production : Phrase → List Part → Type 0 where
  -- program = { "int" NAME after_name | "void" NAME "(" parameters ")" block }
  no_definition : Production Program []
  int_definition : Production Program (word Int ∷ AName ∷ A AfterName ∷ A Program ∷ [])
  void_definition : Production Program (word Void ∷ AName ∷ mark OpenParenthesis ∷ A Parameters ∷ mark CloseParenthesis ∷ A Block ∷ A Program ∷ [])
  -- after_name = "(" parameters ")" block | global_value { "," NAME global_value } ";"
  int_function : Production AfterName (mark OpenParenthesis ∷ A Parameters ∷ mark CloseParenthesis ∷ A Block ∷ [])
  globals : Production AfterName (A GlobalValue ∷ A MoreGlobals ∷ mark Semicolon ∷ [])
  -- global_value = [ "=" [ "-" ] NUMBER | "[" NUMBER "]" ]
  global_without : Production GlobalValue []
  global_with : Production GlobalValue (mark Equal ∷ A SignedNumber ∷ [])
  global_array : Production GlobalValue (mark OpenBracket ∷ ANumber ∷ mark CloseBracket ∷ [])
  number : Production SignedNumber (ANumber ∷ [])
  negative : Production SignedNumber (mark Minus ∷ ANumber ∷ [])
  no_more_globals : Production MoreGlobals []
  more_globals : Production MoreGlobals (mark Comma ∷ AName ∷ A GlobalValue ∷ A MoreGlobals ∷ [])
  -- parameters = [ "void" | param { "," param } ], param = "int" NAME [ "[" "]" ]
  no_parameter : Production Parameters []
  void_parameters : Production Parameters (word Void ∷ [])
  parameters : Production Parameters (A Parameter ∷ A MoreParameters ∷ [])
  parameter : Production Parameter (word Int ∷ AName ∷ A ParameterBrackets ∷ [])
  no_brackets : Production ParameterBrackets []
  brackets : Production ParameterBrackets (mark OpenBracket ∷ mark CloseBracket ∷ [])
  no_more_parameters : Production MoreParameters []
  more_parameters : Production MoreParameters (mark Comma ∷ A Parameter ∷ A MoreParameters ∷ [])
  -- block = "{" { "int" item { "," item } ";" | statement } "}"
  block : Production Block (mark OpenBrace ∷ A Items ∷ mark CloseBrace ∷ [])
  no_more_statements : Production Items []
  declaration : Production Items (word Int ∷ A Item ∷ A MoreItems ∷ mark Semicolon ∷ A Items ∷ [])
  one_statement : Production Items (A Statement ∷ A Items ∷ [])
  -- item = NAME [ "=" expr | "[" NUMBER "]" ]
  item : Production Item (AName ∷ A ItemValue ∷ [])
  item_without : Production ItemValue []
  item_with : Production ItemValue (mark Equal ∷ A Expression ∷ [])
  item_array : Production ItemValue (mark OpenBracket ∷ ANumber ∷ mark CloseBracket ∷ [])
  no_more_items : Production MoreItems []
  more_items : Production MoreItems (mark Comma ∷ A Item ∷ A MoreItems ∷ [])
  -- statement = block | ";" | simple ";" | print ";" | "if" "(" expr ")" statement [ "else" statement ] | ..
  block_statement : Production Statement (A Block ∷ [])
  empty_statement : Production Statement (mark Semicolon ∷ [])
  simple_statement : Production Statement (A Simple ∷ mark Semicolon ∷ [])
  print_statement : Production Statement (A Print ∷ mark Semicolon ∷ [])
  if_statement : Production Statement (word If ∷ mark OpenParenthesis ∷ A Expression ∷ mark CloseParenthesis ∷ A Statement ∷ A ElsePart ∷ [])
  while_statement : Production Statement (word While ∷ mark OpenParenthesis ∷ A Expression ∷ mark CloseParenthesis ∷ A Statement ∷ [])
  do_statement : Production Statement (word Do ∷ A Statement ∷ word While ∷ mark OpenParenthesis ∷ A Expression ∷ mark CloseParenthesis ∷ mark Semicolon ∷ [])
  for_statement : Production Statement (word For ∷ mark OpenParenthesis ∷ A First ∷ mark Semicolon ∷ A OptionalExpression ∷ mark Semicolon ∷ A OptionalSimple ∷ mark CloseParenthesis ∷ A Statement ∷ [])
  break_statement : Production Statement (word Break ∷ mark Semicolon ∷ [])
  continue_statement : Production Statement (word Continue ∷ mark Semicolon ∷ [])
  return_statement : Production Statement (word Return ∷ A OptionalExpression ∷ mark Semicolon ∷ [])
  without_else : Production ElsePart []
  with_else : Production ElsePart (word Else ∷ A Statement ∷ [])
  -- first = [ simple | "int" item { "," item } ]
  no_first : Production First []
  first_declaration : Production First (word Int ∷ A Item ∷ A MoreItems ∷ [])
  first_simple : Production First (A Simple ∷ [])
  no_expression : Production OptionalExpression []
  an_expression : Production OptionalExpression (A Expression ∷ [])
  no_simple : Production OptionalSimple []
  a_simple : Production OptionalSimple (A Simple ∷ [])
  -- print = "printf" "(" STRING { "," expr } ")"
  print : Production Print (The printf ∷ mark OpenParenthesis ∷ AString ∷ A MoreExpressions ∷ mark CloseParenthesis ∷ [])
  -- simple = expr [ assign expr | "++" | "--" ] | "++" unary | "--" unary
  of_expression : Production Simple (A Expression ∷ A SimpleRest ∷ [])
  step_before : {m : Mark} → IsOneOf m steps → Production Simple (mark m ∷ A (Level 0) ∷ [])
  no_assign : Production SimpleRest []
  assign : {m : Mark} → IsOneOf m assigns → Production SimpleRest (mark m ∷ A Expression ∷ [])
  step_behind : {m : Mark} → IsOneOf m steps → Production SimpleRest (mark m ∷ [])
  -- expr = binary [ "?" expr ":" expr ]
  expression : Production Expression (A (Level 10) ∷ A ChoiceRest ∷ [])
  no_choice : Production ChoiceRest []
  choice : Production ChoiceRest (mark Question ∷ A Expression ∷ mark Colon ∷ A Expression ∷ [])
  -- binary: level (n + 1) = level n { operator of strength n, level n }; level 0 is unary
  level : {n : ℕ} → Production (Level (suc n)) (A (Level n) ∷ A (LevelRest n) ∷ [])
  no_operator : {n : ℕ} → Production (LevelRest n) []
  operator : {n : ℕ} {m : Mark} → IsOneOf m (operators n) → Production (LevelRest n) (mark m ∷ A (Level n) ∷ A (LevelRest n) ∷ [])
  -- unary = ( "-" | "+" | "!" | "~" ) unary | primary
  signed : {m : Mark} → IsOneOf m signs → Production (Level 0) (mark m ∷ A (Level 0) ∷ [])
  unsigned : Production (Level 0) (A Primary ∷ [])
  -- primary = NUMBER | NAME [ "[" expr "]" | "(" arguments ")" ] | "(" expr ")"
  a_number : Production Primary (ANumber ∷ [])
  a_name : Production Primary (AName ∷ A NameRest ∷ [])
  in_parentheses : Production Primary (mark OpenParenthesis ∷ A Expression ∷ mark CloseParenthesis ∷ [])
  name_alone : Production NameRest []
  element : Production NameRest (mark OpenBracket ∷ A Expression ∷ mark CloseBracket ∷ [])
  call : Production NameRest (mark OpenParenthesis ∷ A Arguments ∷ mark CloseParenthesis ∷ [])
  -- arguments = [ expr { "," expr } ]
  no_argument : Production Arguments []
  arguments : Production Arguments (A Expression ∷ A MoreExpressions ∷ [])
  no_more_expressions : Production MoreExpressions []
  more_expressions : Production MoreExpressions (mark Comma ∷ A Expression ∷ A MoreExpressions ∷ [])

-- the two rules beside the productions, of a phrase that stands from these tokens up to those behind it: an `else` belongs to
-- the nearest `if` without one, so none stands behind an `if` that has no `else`; and `printf` begins a print where it begins
-- a statement, so it begins no simple statement
abbrev pub Beside : Phrase → List Part → (here behind : List Token) → Type 0
Beside ElsePart [] here behind = next_kind behind ≡ kinds.Keyword Else → ⊥
Beside Statement (A Simple ∷ parts) here behind = next_kind here ≡ printf → ⊥
Beside p parts here behind = Unit {0}

-- the tokens begin with these parts, so derived by productions, and the rest comes after them
pub data Produces : List Part → List Token → Derivation Row → List Token → Type 0 where
  nothing : {rest : List Token} → Produces [] rest NoMore rest
  token : {part : Part} {parts : List Part} {t : Token} {ts rest : List Token} {d : Derivation Row} → Fits part t.kind → Produces parts ts d rest
      → Produces (part ∷ parts) (t ∷ ts) (Then (Leaf t) d) rest
  phrase : (p : Phrase) (inner : List Part) {parts : List Part} {ts mid rest : List Token} {d e : Derivation Row} → Production p inner → Beside p inner ts mid
      → Produces inner ts d mid → Produces parts mid e rest → Produces (A p ∷ parts) ts (Then (Node p d) e) rest

-- a program with the end token behind it is read by the table with a derivation exactly where productions give it that one
abbrev pub TableIsProductions : Type 0
TableIsProductions = (ts : List Token) (d : Derivation Row) (ended : Token) → ended.kind ≡ kinds.End
    → (Is (A Program ∷ []) ts d (ended ∷ []) → Produces (A Program ∷ []) ts d (ended ∷ [])) × (Produces (A Program ∷ []) ts d (ended ∷ []) → Is (A Program ∷ []) ts d (ended ∷ []))
