-- What the calls of this crate answer.
use Rattle.std.specs.Prelude.{◌≡◌, ◌≢◌, ◌<◌, ◌≤◌, ℕ, ◌+◌, max, ◌++◌, List, [], ◌∷◌, length, drop}
use Rattle.vx_ast.specs.declared.token.TokenKind.{TokenKind}
use Rattle.vx_ast.specs.declared.token.TokenKind.TheVariants as kinds
use Rattle.vx_ast.specs.declared.token.Token.{Token}
use Rattle.vx_ast.specs.declared.syntax.Place.{Place}
use Rattle.vx_ast.specs.declared.syntax.Name.{Name}
use Rattle.vx_ast.specs.declared.syntax.Argument.{Argument}
use Rattle.vx_ast.specs.Tree.{One, Row}
use Rattle.vx_ast.specs.Syntax as syntax
use Rattle.vx_ast.specs.SyntaxView.{phrase_of, row_in}
use Rattle.vx_ast.specs.Phrases.{Phrase, LevelRest, NameRest, MoreExpressions, Part, A, AName, ANumber, AString, Fits, Derivation, NoMore, Then, Is, Stuck, Begins}
use Rattle.vx_ast.specs.Derivations.{place_of, name_of, number_of, size_of, bytes_of, expression_of, behind, named, arguments_of, depth_behind, row_depth}
use Rattle.vx_parse.specs.declared.stop.Stop.{Stop}
use Rattle.vx_parse.specs.declared.stop.Stop.TheVariants.{Unexpected, TooDeep, NoMemory}
use Rattle.vx_parse.specs.declared.token.NameRead.{NameRead}
use Rattle.vx_parse.specs.declared.token.NumberRead.{NumberRead}
use Rattle.vx_parse.specs.declared.token.SizeRead.{SizeRead}
use Rattle.vx_parse.specs.declared.token.TextRead.{TextRead}
use Rattle.vx_parse.specs.declared.expression.Operand.{Operand}
use Rattle.vx_parse.specs.declared.expression.Operands.{Operands}
use Rattle.vx_parse.specs.declared.expression.IndexRead.{IndexRead}

abbrev pub next_kind : List Token → TokenKind
next_kind [] = kinds.End
next_kind (t ∷ ts) = t.kind

abbrev pub next_place : List Token → Place
next_place [] = record { line = 0; column = 0 }
next_place (t ∷ ts) = place_of t

-- an end token stands last, and no other
abbrev pub Ended : List Token → Type 0
Ended [] = ⊥
Ended (t ∷ []) = t.kind ≡ kinds.End
Ended (t ∷ u ∷ ts) = (t.kind ≢ kinds.End) × Ended (u ∷ ts)

-- the token at a place is this part, and the next place has a token too
pub record Passed (part : Part) (tokens : List Token) (place next : ℕ) : Type 0 where
  pub token : Token
  pub is : drop place tokens ≡ token ∷ drop next tokens
  pub fits : Fits part token.kind
  pub further : next ≡ place + 1
  pub within : next < length tokens

pub record PassedName (tokens : List Token) (place : ℕ) (r : NameRead) : Type 0 where
  pub passed : Passed AName tokens place r.next
  pub name : r.name ≡ name_of passed.token

pub record PassedNumber (tokens : List Token) (place : ℕ) (r : NumberRead) : Type 0 where
  pub passed : Passed ANumber tokens place r.next
  pub value : r.value ≡ number_of passed.token.kind

pub record PassedSize (tokens : List Token) (place : ℕ) (r : SizeRead) : Type 0 where
  pub passed : Passed ANumber tokens place r.next
  pub size : r.size ≡ size_of passed.token

pub record PassedText (tokens : List Token) (place : ℕ) (r : TextRead) : Type 0 where
  pub passed : Passed AString tokens place r.next
  pub bytes : r.bytes ≡ bytes_of passed.token.kind

-- the token at a place is not this part
pub record Misfit (part : Part) (tokens : List Token) (place : ℕ) (stop : Stop) : Type 0 where
  pub is : stop ≡ Unexpected place
  pub unfit : Fits part (next_kind (drop place tokens)) → ⊥

-- the tokens before the rest are the front of such parts and with the next one no such parts go on; where this stands in so
-- many constructs, no construct there is deeper than 200
pub record Wrong (parts : List Part) (here rest : List Token) (depth left : ℕ) : Type 0 where
  pub derivation : Derivation Row
  pub stuck : Stuck parts here derivation rest
  pub shallow : depth + row_depth left derivation ≤ 200

-- some tokens begin such parts and have a construct deeper than 200
pub record Deep (parts : List Part) (here : List Token) (depth left : ℕ) : Type 0 where
  pub derivation : Derivation Row
  pub rest : List Token
  pub begins : Begins parts here derivation rest
  pub deep : 200 < depth + row_depth left derivation

-- why the reading of these parts stops, in so many constructs and with so many in what stands before them
abbrev pub Stops : (parts : List Part) (here tokens : List Token) (depth left : ℕ) → Stop → Type 0
Stops parts here tokens depth left (Unexpected place) = (place < length tokens) × Wrong parts here (drop place tokens) depth left
Stops parts here tokens depth left TooDeep = Deep parts here depth left
Stops parts here tokens depth left NoMemory = Unit {0}

-- these parts stand at a place, derived so, up to the next place; no construct there is deeper than 200
pub record Parted (parts : List Part) (tokens : List Token) (place next depth : ℕ) (derivation : Derivation Row) : Type 0 where
  pub is : Is parts (drop place tokens) derivation (drop next tokens)
  pub shallow : depth + row_depth 0 derivation ≤ 200
  pub further : place ≤ next
  pub within : next < length tokens

-- a phrase stands at a place up to the next one, which is not before the least one, with a derivation that means this
pub record IsPhrase (p : Phrase) (tokens : List Token) (place least next depth : ℕ) (Means : Derivation One → Type 0) : Type 0 where
  pub derivation : Derivation One
  pub parted : Parted (A p ∷ []) tokens place next depth (Then derivation NoMore)
  pub means : Means derivation
  pub further : least ≤ next

-- a phrase that is a row stands at a place as far as these items of it; with what goes on behind them it is whole, and
-- where that stops, it stops
pub record Continues {T : Type 0} (p : Phrase) (tokens : List Token) (place depth : ℕ) (Means : List T → Derivation One → Type 0) (next : ℕ) (read : List T) : Type 0 where
  pub whole : (end : ℕ) (d : Derivation One) (more : List T) → Parted (A p ∷ []) tokens next end depth (Then d NoMore) → Means more d → IsPhrase p tokens place place end depth (Means (read ++ more))
  pub stops : (stop : Stop) → Stops (A p ∷ []) (drop next tokens) tokens depth 0 stop → Stops (A p ∷ []) (drop place tokens) tokens depth 0 stop
  pub further : place ≤ next
  pub within : next < length tokens

-- the expression of a phrase
pub record IsOperand (p : Phrase) (tokens : List Token) (place depth : ℕ) (r : Operand) : Type 0 where
  pub derivation : Derivation One
  pub is : Is (A p ∷ []) (drop place tokens) (Then derivation NoMore) (drop r.next tokens)
  pub tree : expression_of derivation ≡ phrase_of r.expression
  pub height : depth_behind 0 derivation ≡ r.height
  pub shallow : depth + r.height ≤ 200
  pub further : place < r.next
  pub within : r.next < length tokens

-- the same behind a left operand
pub record IsBehind (strength : ℕ) (left : syntax.Phrase One) (left_height : ℕ) (tokens : List Token) (place depth : ℕ) (r : Operand) : Type 0 where
  pub derivation : Derivation One
  pub is : Is (A (LevelRest strength) ∷ []) (drop place tokens) (Then derivation NoMore) (drop r.next tokens)
  pub tree : behind left derivation ≡ phrase_of r.expression
  pub height : depth_behind left_height derivation ≡ r.height
  pub shallow : depth + r.height ≤ 200
  pub further : place ≤ r.next
  pub within : r.next < length tokens

-- a row of arguments
pub record AreOperands (p : Phrase) (tokens : List Token) (place depth : ℕ) (r : Operands) : Type 0 where
  pub derivation : Derivation One
  pub is : Is (A p ∷ []) (drop place tokens) (Then derivation NoMore) (drop r.next tokens)
  pub tree : arguments_of derivation ≡ row_in r.arguments.items
  pub height : depth_behind 0 derivation ≡ r.height
  pub shallow : depth + r.height ≤ 200
  pub further : place ≤ r.next
  pub within : r.next < length tokens

-- a name with what stands behind it
pub record IsNamed (name : Name) (tokens : List Token) (place depth : ℕ) (r : Operand) : Type 0 where
  pub derivation : Derivation One
  pub is : Is (A NameRest ∷ []) (drop place tokens) (Then derivation NoMore) (drop r.next tokens)
  pub tree : (t : Token) → name ≡ name_of t → named t derivation ≡ phrase_of r.expression
  pub height : depth_behind 0 derivation ≡ r.height
  pub shallow : depth + r.height ≤ 200
  pub further : place ≤ r.next
  pub within : r.next < length tokens

-- arguments with those that were read before
pub record AreMore (before : Operands) (tokens : List Token) (depth : ℕ) (r : Operands) : Type 0 where
  pub derivation : Derivation One
  pub is : Is (A MoreExpressions ∷ []) (drop before.next tokens) (Then derivation NoMore) (drop r.next tokens)
  pub more : List Argument
  pub joined : r.arguments.items ≡ before.arguments.items ++ more
  pub tree : arguments_of derivation ≡ row_in more
  pub height : max before.height (depth_behind 0 derivation) ≡ r.height
  pub shallow : depth + r.height ≤ 200
  pub further : before.next ≤ r.next
  pub within : r.next < length tokens

-- an index with its brackets: the element that a name makes with it is that name with what stands behind it
abbrev pub IsIndex : (tokens : List Token) (place depth : ℕ) → IndexRead → Type 0
IsIndex tokens place depth r = (name : Name) (made : Operand) → phrase_of made.expression ≡ syntax.Element name (phrase_of r.index.value) → made.height ≡ r.height → made.next ≡ r.next → IsNamed name tokens place depth made

-- arguments with their parentheses: the call that a name makes with them is that name with what stands behind it
abbrev pub AreCalled : (tokens : List Token) (place depth : ℕ) → Operands → Type 0
AreCalled tokens place depth r = (name : Name) (made : Operand) → phrase_of made.expression ≡ syntax.Call name (row_in r.arguments.items) → made.height ≡ r.height → made.next ≡ r.next → IsNamed name tokens place depth made
