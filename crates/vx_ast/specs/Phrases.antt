-- The grammar of the source language: what a phrase is made of, told by its next token; the derivations of lists of
-- tokens; and where a list of tokens leaves the grammar.
use Rattle.std.specs.Prelude.{◌≡◌, ℕ, ℤ, zero, suc, nat_eq, if◌then◌else◌, Option, None, Some, List, [], ◌∷◌, ◌++◌, codes}
use Rattle.std.specs.Cmp.Lexicographic.{pointwise}
use Rattle.vx_ast.specs.declared.token.Keyword.{Keyword}
use Rattle.vx_ast.specs.declared.token.Keyword.TheVariants.{Int, Void, If, Else, While, Do, For, Break, Continue, Return}
use Rattle.vx_ast.specs.declared.token.Mark.{Mark}
use Rattle.vx_ast.specs.declared.token.Mark.TheVariants.{PlusPlus, MinusMinus, PlusEqual, MinusEqual, StarEqual, SlashEqual, PercentEqual, AmpersandEqual, BarEqual, CaretEqual, ShiftLeftEqual, ShiftRightEqual, ShiftLeft, ShiftRight, LessEqual, GreaterEqual, EqualEqual, ExclamationEqual, AmpersandAmpersand, BarBar, Plus, Minus, Star, Slash, Percent, Ampersand, Bar, Caret, Tilde, Exclamation, Less, Greater, Equal, Question, Colon, Comma, Semicolon, OpenParenthesis, CloseParenthesis, OpenBracket, CloseBracket, OpenBrace, CloseBrace}
use Rattle.vx_ast.specs.declared.token.TokenKind.{TokenKind}
use Rattle.vx_ast.specs.declared.token.TokenKind.TheVariants as kinds
use Rattle.vx_ast.specs.declared.token.Token.{Token}
use Rattle.vx_ast.specs.Tree.{Shape, One, Row}

pub data Phrase : Type 0 where
  -- { global | function }
  Program : Phrase
  -- behind `int NAME`: a function from its `(` on, or a global from its first value or size on
  AfterName : Phrase
  GlobalValue : Phrase
  SignedNumber : Phrase
  MoreGlobals : Phrase
  Parameters : Phrase
  Parameter : Phrase
  -- behind the name of a parameter: `[]`, where it takes an array
  ParameterBrackets : Phrase
  MoreParameters : Phrase
  Block : Phrase
  -- { decl | statement }
  Items : Phrase
  Item : Phrase
  ItemValue : Phrase
  MoreItems : Phrase
  Statement : Phrase
  ElsePart : Phrase
  First : Phrase
  OptionalExpression : Phrase
  OptionalSimple : Phrase
  Print : Phrase
  Simple : Phrase
  SimpleRest : Phrase
  Expression : Phrase
  ChoiceRest : Phrase
  -- operands of operators of strength n and stronger, 0 the strongest; Level 0 is unary
  Level : ℕ → Phrase
  -- the operators of strength n behind a left operand
  LevelRest : ℕ → Phrase
  Primary : Phrase
  NameRest : Phrase
  Arguments : Phrase
  -- { "," expr }
  MoreExpressions : Phrase

-- a part of a phrase: this token, a name, a number, a string, or a phrase
pub data Part : Type 0 where
  The : TokenKind → Part
  AName : Part
  ANumber : Part
  AString : Part
  A : Phrase → Part

abbrev pub mark : Mark → Part
mark m = The (kinds.Mark m)

abbrev pub word : Keyword → Part
word k = The (kinds.Keyword k)

-- the strength of a binary operator; other tokens have one that no level has
abbrev pub strength : TokenKind → ℕ
strength (kinds.Mark Star) = 0
strength (kinds.Mark Slash) = 0
strength (kinds.Mark Percent) = 0
strength (kinds.Mark Plus) = 1
strength (kinds.Mark Minus) = 1
strength (kinds.Mark ShiftLeft) = 2
strength (kinds.Mark ShiftRight) = 2
strength (kinds.Mark Less) = 3
strength (kinds.Mark LessEqual) = 3
strength (kinds.Mark Greater) = 3
strength (kinds.Mark GreaterEqual) = 3
strength (kinds.Mark EqualEqual) = 4
strength (kinds.Mark ExclamationEqual) = 4
strength (kinds.Mark Ampersand) = 5
strength (kinds.Mark Caret) = 6
strength (kinds.Mark Bar) = 7
strength (kinds.Mark AmpersandAmpersand) = 8
strength (kinds.Mark BarBar) = 9
strength t = 10

-- behind the target of an assignment, or `++` or `--`, or nothing
abbrev pub simple_rest : TokenKind → List Part
simple_rest (kinds.Mark PlusPlus) = mark PlusPlus ∷ []
simple_rest (kinds.Mark MinusMinus) = mark MinusMinus ∷ []
simple_rest (kinds.Mark Equal) = mark Equal ∷ A Expression ∷ []
simple_rest (kinds.Mark PlusEqual) = mark PlusEqual ∷ A Expression ∷ []
simple_rest (kinds.Mark MinusEqual) = mark MinusEqual ∷ A Expression ∷ []
simple_rest (kinds.Mark StarEqual) = mark StarEqual ∷ A Expression ∷ []
simple_rest (kinds.Mark SlashEqual) = mark SlashEqual ∷ A Expression ∷ []
simple_rest (kinds.Mark PercentEqual) = mark PercentEqual ∷ A Expression ∷ []
simple_rest (kinds.Mark AmpersandEqual) = mark AmpersandEqual ∷ A Expression ∷ []
simple_rest (kinds.Mark BarEqual) = mark BarEqual ∷ A Expression ∷ []
simple_rest (kinds.Mark CaretEqual) = mark CaretEqual ∷ A Expression ∷ []
simple_rest (kinds.Mark ShiftLeftEqual) = mark ShiftLeftEqual ∷ A Expression ∷ []
simple_rest (kinds.Mark ShiftRightEqual) = mark ShiftRightEqual ∷ A Expression ∷ []
simple_rest t = []

-- `printf` begins a print where it begins a statement
abbrev pub statement_of_name : List ℕ → List Part
statement_of_name name = if pointwise nat_eq name (codes "printf") then (A Print ∷ mark Semicolon ∷ []) else (A Simple ∷ mark Semicolon ∷ [])

-- the parts of a phrase whose next token is of this kind; None where no such phrase has this token next
unfoldable pub parts_of : Phrase → TokenKind → Option (List Part)
parts_of Program kinds.End = Some []
parts_of Program (kinds.Keyword Int) = Some (word Int ∷ AName ∷ A AfterName ∷ A Program ∷ [])
parts_of Program (kinds.Keyword Void) = Some (word Void ∷ AName ∷ mark OpenParenthesis ∷ A Parameters ∷ mark CloseParenthesis ∷ A Block ∷ A Program ∷ [])
parts_of Program t = None
parts_of AfterName (kinds.Mark OpenParenthesis) = Some (mark OpenParenthesis ∷ A Parameters ∷ mark CloseParenthesis ∷ A Block ∷ [])
parts_of AfterName t = Some (A GlobalValue ∷ A MoreGlobals ∷ mark Semicolon ∷ [])
parts_of GlobalValue (kinds.Mark Equal) = Some (mark Equal ∷ A SignedNumber ∷ [])
parts_of GlobalValue (kinds.Mark OpenBracket) = Some (mark OpenBracket ∷ ANumber ∷ mark CloseBracket ∷ [])
parts_of GlobalValue t = Some []
parts_of SignedNumber (kinds.Mark Minus) = Some (mark Minus ∷ ANumber ∷ [])
parts_of SignedNumber t = Some (ANumber ∷ [])
parts_of MoreGlobals (kinds.Mark Comma) = Some (mark Comma ∷ AName ∷ A GlobalValue ∷ A MoreGlobals ∷ [])
parts_of MoreGlobals t = Some []
parts_of Parameters (kinds.Mark CloseParenthesis) = Some []
parts_of Parameters (kinds.Keyword Void) = Some (word Void ∷ [])
parts_of Parameters t = Some (A Parameter ∷ A MoreParameters ∷ [])
parts_of Parameter t = Some (word Int ∷ AName ∷ A ParameterBrackets ∷ [])
parts_of ParameterBrackets (kinds.Mark OpenBracket) = Some (mark OpenBracket ∷ mark CloseBracket ∷ [])
parts_of ParameterBrackets t = Some []
parts_of MoreParameters (kinds.Mark Comma) = Some (mark Comma ∷ A Parameter ∷ A MoreParameters ∷ [])
parts_of MoreParameters t = Some []
parts_of Block t = Some (mark OpenBrace ∷ A Items ∷ mark CloseBrace ∷ [])
parts_of Items (kinds.Mark CloseBrace) = Some []
parts_of Items (kinds.Keyword Int) = Some (word Int ∷ A Item ∷ A MoreItems ∷ mark Semicolon ∷ A Items ∷ [])
parts_of Items t = Some (A Statement ∷ A Items ∷ [])
parts_of Item t = Some (AName ∷ A ItemValue ∷ [])
parts_of ItemValue (kinds.Mark Equal) = Some (mark Equal ∷ A Expression ∷ [])
parts_of ItemValue (kinds.Mark OpenBracket) = Some (mark OpenBracket ∷ ANumber ∷ mark CloseBracket ∷ [])
parts_of ItemValue t = Some []
parts_of MoreItems (kinds.Mark Comma) = Some (mark Comma ∷ A Item ∷ A MoreItems ∷ [])
parts_of MoreItems t = Some []
parts_of Statement (kinds.Mark OpenBrace) = Some (A Block ∷ [])
parts_of Statement (kinds.Mark Semicolon) = Some (mark Semicolon ∷ [])
parts_of Statement (kinds.Keyword If) = Some (word If ∷ mark OpenParenthesis ∷ A Expression ∷ mark CloseParenthesis ∷ A Statement ∷ A ElsePart ∷ [])
parts_of Statement (kinds.Keyword While) = Some (word While ∷ mark OpenParenthesis ∷ A Expression ∷ mark CloseParenthesis ∷ A Statement ∷ [])
parts_of Statement (kinds.Keyword Do) = Some (word Do ∷ A Statement ∷ word While ∷ mark OpenParenthesis ∷ A Expression ∷ mark CloseParenthesis ∷ mark Semicolon ∷ [])
parts_of Statement (kinds.Keyword For) = Some (word For ∷ mark OpenParenthesis ∷ A First ∷ mark Semicolon ∷ A OptionalExpression ∷ mark Semicolon ∷ A OptionalSimple ∷ mark CloseParenthesis ∷ A Statement ∷ [])
parts_of Statement (kinds.Keyword Break) = Some (word Break ∷ mark Semicolon ∷ [])
parts_of Statement (kinds.Keyword Continue) = Some (word Continue ∷ mark Semicolon ∷ [])
parts_of Statement (kinds.Keyword Return) = Some (word Return ∷ A OptionalExpression ∷ mark Semicolon ∷ [])
parts_of Statement (kinds.Name name) = Some (statement_of_name name)
parts_of Statement t = Some (A Simple ∷ mark Semicolon ∷ [])
-- an `else` belongs to the nearest `if` without one
parts_of ElsePart (kinds.Keyword Else) = Some (word Else ∷ A Statement ∷ [])
parts_of ElsePart t = Some []
parts_of First (kinds.Mark Semicolon) = Some []
parts_of First (kinds.Keyword Int) = Some (word Int ∷ A Item ∷ A MoreItems ∷ [])
parts_of First t = Some (A Simple ∷ [])
parts_of OptionalExpression (kinds.Mark Semicolon) = Some []
parts_of OptionalExpression t = Some (A Expression ∷ [])
parts_of OptionalSimple (kinds.Mark CloseParenthesis) = Some []
parts_of OptionalSimple t = Some (A Simple ∷ [])
parts_of Print t = Some (AName ∷ mark OpenParenthesis ∷ AString ∷ A MoreExpressions ∷ mark CloseParenthesis ∷ [])
parts_of Simple (kinds.Mark PlusPlus) = Some (mark PlusPlus ∷ A (Level 0) ∷ [])
parts_of Simple (kinds.Mark MinusMinus) = Some (mark MinusMinus ∷ A (Level 0) ∷ [])
parts_of Simple t = Some (A Expression ∷ A SimpleRest ∷ [])
parts_of SimpleRest t = Some (simple_rest t)
parts_of Expression t = Some (A (Level 10) ∷ A ChoiceRest ∷ [])
parts_of ChoiceRest (kinds.Mark Question) = Some (mark Question ∷ A Expression ∷ mark Colon ∷ A Expression ∷ [])
parts_of ChoiceRest t = Some []
parts_of (Level zero) (kinds.Mark Minus) = Some (mark Minus ∷ A (Level 0) ∷ [])
parts_of (Level zero) (kinds.Mark Plus) = Some (mark Plus ∷ A (Level 0) ∷ [])
parts_of (Level zero) (kinds.Mark Exclamation) = Some (mark Exclamation ∷ A (Level 0) ∷ [])
parts_of (Level zero) (kinds.Mark Tilde) = Some (mark Tilde ∷ A (Level 0) ∷ [])
parts_of (Level zero) t = Some (A Primary ∷ [])
parts_of (Level (suc n)) t = Some (A (Level n) ∷ A (LevelRest n) ∷ [])
parts_of (LevelRest n) t = Some (if nat_eq (strength t) n then (The t ∷ A (Level n) ∷ A (LevelRest n) ∷ []) else [])
parts_of Primary (kinds.Number n) = Some (ANumber ∷ [])
parts_of Primary (kinds.Name name) = Some (AName ∷ A NameRest ∷ [])
parts_of Primary (kinds.Mark OpenParenthesis) = Some (mark OpenParenthesis ∷ A Expression ∷ mark CloseParenthesis ∷ [])
parts_of Primary t = None
parts_of NameRest (kinds.Mark OpenBracket) = Some (mark OpenBracket ∷ A Expression ∷ mark CloseBracket ∷ [])
parts_of NameRest (kinds.Mark OpenParenthesis) = Some (mark OpenParenthesis ∷ A Arguments ∷ mark CloseParenthesis ∷ [])
parts_of NameRest t = Some []
parts_of Arguments (kinds.Mark CloseParenthesis) = Some []
parts_of Arguments t = Some (A Expression ∷ A MoreExpressions ∷ [])
parts_of MoreExpressions (kinds.Mark Comma) = Some (mark Comma ∷ A Expression ∷ A MoreExpressions ∷ [])
parts_of MoreExpressions t = Some []

-- the token is this part
abbrev pub Fits : Part → TokenKind → Type 0
Fits (The k) t = t ≡ k
Fits AName t = (name : List ℕ) × (t ≡ kinds.Name name)
Fits ANumber t = (value : ℤ) × (t ≡ kinds.Number value)
Fits AString t = (bytes : List ℕ) × (t ≡ kinds.Text bytes)
Fits (A p) t = ⊥

-- derivations: of one part, or of a row of parts
pub data Derivation : Shape → Type 0 where
  Leaf : Token → Derivation One
  Node : Phrase → Derivation Row → Derivation One
  NoMore : Derivation Row
  Then : Derivation One → Derivation Row → Derivation Row

-- the tokens begin with these parts, derived so, and the rest comes after them
pub data Is : List Part → List Token → Derivation Row → List Token → Type 0 where
  nothing : {rest : List Token} → Is [] rest NoMore rest
  token : {part : Part} {parts : List Part} {t : Token} {ts rest : List Token} {d : Derivation Row} → Fits part t.kind → Is parts ts d rest
      → Is (part ∷ parts) (t ∷ ts) (Then (Leaf t) d) rest
  phrase : (p : Phrase) (inner : List Part) {parts : List Part} {t : Token} {ts mid rest : List Token} {d e : Derivation Row} → parts_of p t.kind ≡ Some inner
      → Is inner (t ∷ ts) d mid → Is parts mid e rest → Is (A p ∷ parts) (t ∷ ts) (Then (Node p d) e) rest

-- the tokens up to the rest are the front of such parts, derived so as far as they go, and with the next one no such
-- parts go on
pub data Stuck : List Part → List Token → Derivation Row → List Token → Type 0 where
  unfit : {part : Part} {parts : List Part} {t : Token} {ts : List Token} → ((p : Phrase) → part ≡ A p → ⊥) → (Fits part t.kind → ⊥)
      → Stuck (part ∷ parts) (t ∷ ts) NoMore (t ∷ ts)
  behind : {part : Part} {parts : List Part} {t : Token} {ts rest : List Token} {d : Derivation Row} → Fits part t.kind → Stuck parts ts d rest
      → Stuck (part ∷ parts) (t ∷ ts) (Then (Leaf t) d) rest
  no_phrase : (p : Phrase) {parts : List Part} {t : Token} {ts : List Token} → parts_of p t.kind ≡ None → Stuck (A p ∷ parts) (t ∷ ts) NoMore (t ∷ ts)
  inside : (p : Phrase) (inner : List Part) {parts : List Part} {t : Token} {ts rest : List Token} {d : Derivation Row} → parts_of p t.kind ≡ Some inner
      → Stuck inner (t ∷ ts) d rest → Stuck (A p ∷ parts) (t ∷ ts) (Then (Node p d) NoMore) rest
  after : (p : Phrase) (inner : List Part) {parts : List Part} {t : Token} {ts mid rest : List Token} {d e : Derivation Row} → parts_of p t.kind ≡ Some inner
      → Is inner (t ∷ ts) d mid → Stuck parts mid e rest → Stuck (A p ∷ parts) (t ∷ ts) (Then (Node p d) e) rest

-- the tokens up to the rest begin such parts, derived so as far as they go
pub data Begins : List Part → List Token → Derivation Row → List Token → Type 0 where
  reached : {parts : List Part} {rest : List Token} → Begins parts rest NoMore rest
  reached_behind : {part : Part} {parts : List Part} {t : Token} {ts rest : List Token} {d : Derivation Row} → Fits part t.kind → Begins parts ts d rest
      → Begins (part ∷ parts) (t ∷ ts) (Then (Leaf t) d) rest
  reached_inside : (p : Phrase) (inner : List Part) {parts : List Part} {t : Token} {ts rest : List Token} {d : Derivation Row} → parts_of p t.kind ≡ Some inner
      → Begins inner (t ∷ ts) d rest → Begins (A p ∷ parts) (t ∷ ts) (Then (Node p d) NoMore) rest
  reached_after : (p : Phrase) (inner : List Part) {parts : List Part} {t : Token} {ts mid rest : List Token} {d e : Derivation Row} → parts_of p t.kind ≡ Some inner
      → Is inner (t ∷ ts) d mid → Begins parts mid e rest → Begins (A p ∷ parts) (t ∷ ts) (Then (Node p d) e) rest

-- a program with its derivation; the end token is left
pub record IsProgram (ts : List Token) : Type 0 where
  pub derivation : Derivation Row
  pub ended : Token
  pub last : ended.kind ≡ kinds.End
  pub is : Is (A Program ∷ []) ts derivation (ended ∷ [])

-- these tokens go on to a program, and with this one behind them they do not
pub record Unexpected (front : List Token) (t : Token) : Type 0 where
  pub before : (other : List Token) × IsProgram (front ++ other)
  pub never : (other : List Token) → IsProgram (front ++ t ∷ other) → ⊥
