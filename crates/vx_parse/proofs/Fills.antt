-- From where a list of tokens leaves the grammar, with other tokens it goes on: what is still to be read can always be filled in.
use Rattle.std.proofs.Common.{◌≡◌, ◌<◌, ◌≤◌, ℕ, zero, suc, pos, Bool, true, false, nat_eq, if◌then◌else◌, Some, List, [], ◌∷◌, ◌++◌, refl, sym, ap, subst, append_assoc, arith}
use Rattle.std.specs.Prelude.{IfSome, codes}
use Rattle.std.specs.Cmp.Lexicographic.{pointwise}
use Rattle.std.proofs.lemmas.Bool.{eqb-true}
use Rattle.vx_ast.specs.declared.token.Keyword.TheVariants as words
use Rattle.vx_ast.specs.declared.token.Mark.TheVariants as marks
use Rattle.vx_ast.specs.declared.token.TokenKind.{TokenKind}
use Rattle.vx_ast.specs.declared.token.TokenKind.TheVariants as kinds
use Rattle.vx_ast.specs.declared.token.Token.{Token}
use Rattle.vx_ast.specs.Tree.{Row}
use Rattle.vx_ast.specs.Phrases.{Phrase, Program, AfterName, GlobalValue, SignedNumber, MoreGlobals, Parameters, Parameter, ParameterBrackets, MoreParameters, Block, Items, Item, ItemValue, MoreItems, Statement, ElsePart, First, OptionalExpression, OptionalSimple, Print, Simple, SimpleRest, Expression, ChoiceRest, Level, LevelRest, Primary, NameRest, Arguments, MoreExpressions, Part, The, AName, ANumber, AString, A, Fits, mark, word, strength, parts_of, Derivation, Leaf, Node, NoMore, Then, Is, nothing, token, phrase}

-- a kind of token behind which every phrase ends that may
pub record Neutral (k : TokenKind) : Type 0 where
  pub value : parts_of GlobalValue k ≡ Some []
  pub globals : parts_of MoreGlobals k ≡ Some []
  pub brackets : parts_of ParameterBrackets k ≡ Some []
  pub parameters : parts_of MoreParameters k ≡ Some []
  pub item : parts_of ItemValue k ≡ Some []
  pub items : parts_of MoreItems k ≡ Some []
  pub other : parts_of ElsePart k ≡ Some []
  pub simple : parts_of SimpleRest k ≡ Some []
  pub choice : parts_of ChoiceRest k ≡ Some []
  pub name : parts_of NameRest k ≡ Some []
  pub expressions : parts_of MoreExpressions k ≡ Some []
  pub strong : strength k ≡ 10

rest_by : (n : ℕ) (k : TokenKind) (b : Bool) → nat_eq (strength k) n ≡ b → strength k ≡ 10 → n < 10 → parts_of (LevelRest n) k ≡ Some []
unfolding parts_of
rest_by n k true e s h = let f = eqb-true (strength k) n e in absurd (omega arith)
rest_by n k false e s h = ap (λ (c : Bool). Some (if c then (The k ∷ A (Level n) ∷ A (LevelRest n) ∷ []) else [])) e

level : (n : ℕ) (k : TokenKind) → Neutral k → n < 10 → parts_of (LevelRest n) k ≡ Some []
level n k x h = rest_by n k (nat_eq (strength k) n) refl x.strong h

semicolon : Neutral (kinds.Mark marks.Semicolon)
unfolding parts_of
semicolon = record { value = refl; globals = refl; brackets = refl; parameters = refl; item = refl; items = refl; other = refl; simple = refl; choice = refl; name = refl; expressions = refl; strong = refl }

close_parenthesis : Neutral (kinds.Mark marks.CloseParenthesis)
unfolding parts_of
close_parenthesis = record { value = refl; globals = refl; brackets = refl; parameters = refl; item = refl; items = refl; other = refl; simple = refl; choice = refl; name = refl; expressions = refl; strong = refl }

close_bracket : Neutral (kinds.Mark marks.CloseBracket)
unfolding parts_of
close_bracket = record { value = refl; globals = refl; brackets = refl; parameters = refl; item = refl; items = refl; other = refl; simple = refl; choice = refl; name = refl; expressions = refl; strong = refl }

close_brace : Neutral (kinds.Mark marks.CloseBrace)
unfolding parts_of
close_brace = record { value = refl; globals = refl; brackets = refl; parameters = refl; item = refl; items = refl; other = refl; simple = refl; choice = refl; name = refl; expressions = refl; strong = refl }

colon : Neutral (kinds.Mark marks.Colon)
unfolding parts_of
colon = record { value = refl; globals = refl; brackets = refl; parameters = refl; item = refl; items = refl; other = refl; simple = refl; choice = refl; name = refl; expressions = refl; strong = refl }

while_word : Neutral (kinds.Keyword words.While)
unfolding parts_of
while_word = record { value = refl; globals = refl; brackets = refl; parameters = refl; item = refl; items = refl; other = refl; simple = refl; choice = refl; name = refl; expressions = refl; strong = refl }

the_end : Neutral (kinds.End)
unfolding parts_of
the_end = record { value = refl; globals = refl; brackets = refl; parameters = refl; item = refl; items = refl; other = refl; simple = refl; choice = refl; name = refl; expressions = refl; strong = refl }

-- the shortest tokens of a part
abbrev pub zero_token : Token
zero_token = record { kind = kinds.Number (pos 0); start = 0; end = 0; line = 0; column = 0 }

abbrev pub name_token : Token
name_token = record { kind = kinds.Name (97 ∷ []); start = 0; end = 0; line = 0; column = 0 }

abbrev pub text_token : Token
text_token = record { kind = kinds.Text []; start = 0; end = 0; line = 0; column = 0 }

abbrev pub a_token : TokenKind → Token
a_token k = record { kind = k; start = 0; end = 0; line = 0; column = 0 }

abbrev pub fill_phrase : Phrase → List Token
fill_phrase AfterName = a_token (kinds.Mark marks.Semicolon) ∷ []
fill_phrase SignedNumber = zero_token ∷ []
fill_phrase Parameters = a_token (kinds.Keyword words.Void) ∷ []
fill_phrase Parameter = a_token (kinds.Keyword words.Int) ∷ name_token ∷ []
fill_phrase Block = a_token (kinds.Mark marks.OpenBrace) ∷ a_token (kinds.Mark marks.CloseBrace) ∷ []
fill_phrase Item = name_token ∷ []
fill_phrase Statement = a_token (kinds.Mark marks.Semicolon) ∷ []
fill_phrase First = zero_token ∷ []
fill_phrase OptionalExpression = zero_token ∷ []
fill_phrase OptionalSimple = zero_token ∷ []
fill_phrase Print = name_token ∷ a_token (kinds.Mark marks.OpenParenthesis) ∷ text_token ∷ a_token (kinds.Mark marks.CloseParenthesis) ∷ []
fill_phrase Simple = zero_token ∷ []
fill_phrase Expression = zero_token ∷ []
fill_phrase (Level n) = zero_token ∷ []
fill_phrase Primary = zero_token ∷ []
fill_phrase Arguments = zero_token ∷ []
fill_phrase p = []

abbrev pub fill_part : Part → List Token
fill_part (The k) = a_token k ∷ []
fill_part AName = name_token ∷ []
fill_part ANumber = zero_token ∷ []
fill_part AString = text_token ∷ []
fill_part (A p) = fill_phrase p

abbrev pub fill : List Part → List Token
fill [] = []
fill (q ∷ ps) = fill_part q ++ fill ps

abbrev pub first_kind : List Token → TokenKind → TokenKind
first_kind [] k = k
first_kind (t ∷ ts) k = t.kind

-- behind the shortest tokens of the phrase a token of this kind may stand
abbrev pub Ok : Phrase → TokenKind → Type 0
Ok Items k = k ≡ kinds.Mark marks.CloseBrace
Ok Program k = k ≡ kinds.End
Ok (Level n) k = Neutral k × (n ≤ 10)
Ok (LevelRest n) k = Neutral k × (n < 10)
Ok p k = Neutral k

abbrev pub Good : List Part → TokenKind → Type 0
Good [] k = Unit {0}
Good (A p ∷ ps) k = Ok p (first_kind (fill ps) k) × Good ps k
Good (q ∷ ps) k = Good ps k

pub record Filled (ps : List Part) (front after : List Token) : Type 0 where
  pub derivation : Derivation Row
  pub is : Is ps (front ++ after) derivation after

joined : {q : Part} {ps : List Part} {a b c : List Token} {d e : Derivation Row} → Is (q ∷ []) a d b → Is ps b e c → (r : Derivation Row) × Is (q ∷ ps) a r c
joined {e} (token {t} f nothing) i = (Then (Leaf t) e, token f i)
joined {e} (phrase p inner {d} k j nothing) i = (Then (Node p d) e, phrase p inner k j i)

alone : (p : Phrase) (t : Token) (ts : List Token) → parts_of p t.kind ≡ Some [] → Filled (A p ∷ []) [] (t ∷ ts)
alone p t ts e = record { derivation = Then (Node p NoMore) NoMore; is = phrase p [] e nothing nothing }

-- a phrase around what is filled
around : (p : Phrase) (inner : List Part) (t : Token) (front after : List Token) → parts_of p t.kind ≡ Some inner → Filled inner (t ∷ front) after → Filled (A p ∷ []) (t ∷ front) after
around p inner t front after e f = record { derivation = Then (Node p f.derivation) NoMore; is = phrase p inner e f.is nothing }

-- a part, and a phrase that is empty behind it
with_empty : (q : Part) (p : Phrase) (front : List Token) (t : Token) (ts : List Token) → Filled (q ∷ []) front (t ∷ ts) → parts_of p t.kind ≡ Some [] → Filled (q ∷ A p ∷ []) front (t ∷ ts)
with_empty q p front t ts f e = let j = joined f.is (alone p t ts e).is in record { derivation = j.0; is = j.1 }

zero_primary : (t : Token) (ts : List Token) → Filled (A Primary ∷ []) (zero_token ∷ []) (t ∷ ts)
unfolding parts_of
zero_primary t ts = record { derivation = Then (Node Primary (Then (Leaf zero_token) NoMore)) NoMore; is = phrase Primary (ANumber ∷ []) refl (token (pos 0, refl) nothing) nothing }

zero_level : (n : ℕ) (t : Token) (ts : List Token) → Neutral t.kind → n ≤ 10 → Filled (A (Level n) ∷ []) (zero_token ∷ []) (t ∷ ts)
unfolding parts_of
zero_level zero t ts k h = around (Level zero) (A Primary ∷ []) zero_token [] (t ∷ ts) refl (zero_primary t ts)
zero_level (suc n) t ts k h =
    around (Level (suc n)) (A (Level n) ∷ A (LevelRest n) ∷ []) zero_token [] (t ∷ ts) refl (with_empty (A (Level n)) (LevelRest n) (zero_token ∷ []) t ts (zero_level n t ts k (omega arith)) (level n t.kind k (omega arith)))

zero_expression : (t : Token) (ts : List Token) → Neutral t.kind → Filled (A Expression ∷ []) (zero_token ∷ []) (t ∷ ts)
unfolding parts_of
zero_expression t ts k =
    around Expression (A (Level 10) ∷ A ChoiceRest ∷ []) zero_token [] (t ∷ ts) refl (with_empty (A (Level 10)) ChoiceRest (zero_token ∷ []) t ts (zero_level 10 t ts k (omega arith)) k.choice)

zero_simple : (t : Token) (ts : List Token) → Neutral t.kind → Filled (A Simple ∷ []) (zero_token ∷ []) (t ∷ ts)
unfolding parts_of
zero_simple t ts k = around Simple (A Expression ∷ A SimpleRest ∷ []) zero_token [] (t ∷ ts) refl (with_empty (A Expression) SimpleRest (zero_token ∷ []) t ts (zero_expression t ts k) k.simple)

made : {ps : List Part} {front after : List Token} {d : Derivation Row} → Is ps (front ++ after) d after → Filled ps front after
made {d} i = record { derivation = d; is = i }

fill_one : (p : Phrase) (t : Token) (ts : List Token) → Ok p t.kind → Filled (A p ∷ []) (fill_phrase p) (t ∷ ts)
unfolding parts_of
fill_one Program t ts k = alone Program t ts (ap (parts_of Program) k)
fill_one AfterName t ts k =
    let semi = a_token (kinds.Mark marks.Semicolon) in
    made (phrase AfterName (A GlobalValue ∷ A MoreGlobals ∷ mark marks.Semicolon ∷ []) refl (phrase GlobalValue [] refl nothing (phrase MoreGlobals [] refl nothing (token refl nothing))) nothing)
fill_one GlobalValue t ts k = alone GlobalValue t ts k.value
fill_one SignedNumber t ts k = made (phrase SignedNumber (ANumber ∷ []) refl (token (pos 0, refl) nothing) nothing)
fill_one MoreGlobals t ts k = alone MoreGlobals t ts k.globals
fill_one Parameters t ts k = made (phrase Parameters (word words.Void ∷ []) refl (token refl nothing) nothing)
fill_one Parameter t ts k = made (phrase Parameter (word words.Int ∷ AName ∷ A ParameterBrackets ∷ []) refl (token refl (token (97 ∷ [], refl) (alone ParameterBrackets t ts k.brackets).is)) nothing)
fill_one ParameterBrackets t ts k = alone ParameterBrackets t ts k.brackets
fill_one MoreParameters t ts k = alone MoreParameters t ts k.parameters
fill_one Block t ts k = made (phrase Block (mark marks.OpenBrace ∷ A Items ∷ mark marks.CloseBrace ∷ []) refl (token refl (phrase Items [] refl nothing (token refl nothing))) nothing)
fill_one Items t ts k = alone Items t ts (ap (parts_of Items) k)
fill_one Item t ts k = made (phrase Item (AName ∷ A ItemValue ∷ []) refl (token (97 ∷ [], refl) (alone ItemValue t ts k.item).is) nothing)
fill_one ItemValue t ts k = alone ItemValue t ts k.item
fill_one MoreItems t ts k = alone MoreItems t ts k.items
fill_one Statement t ts k = made (phrase Statement (mark marks.Semicolon ∷ []) refl (token refl nothing) nothing)
fill_one ElsePart t ts k = alone ElsePart t ts k.other
fill_one First t ts k = around First (A Simple ∷ []) zero_token [] (t ∷ ts) refl (zero_simple t ts k)
fill_one OptionalExpression t ts k = around OptionalExpression (A Expression ∷ []) zero_token [] (t ∷ ts) refl (zero_expression t ts k)
fill_one OptionalSimple t ts k = around OptionalSimple (A Simple ∷ []) zero_token [] (t ∷ ts) refl (zero_simple t ts k)
fill_one Print t ts k =
    made (phrase Print (AName ∷ mark marks.OpenParenthesis ∷ AString ∷ A MoreExpressions ∷ mark marks.CloseParenthesis ∷ []) refl
    (token (97 ∷ [], refl) (token refl (token ([], refl) (phrase MoreExpressions [] refl nothing (token refl nothing))))) nothing)
fill_one Simple t ts k = zero_simple t ts k
fill_one SimpleRest t ts k = alone SimpleRest t ts k.simple
fill_one Expression t ts k = zero_expression t ts k
fill_one ChoiceRest t ts k = alone ChoiceRest t ts k.choice
fill_one (Level n) t ts k = zero_level n t ts k.0 k.1
fill_one (LevelRest n) t ts k = alone (LevelRest n) t ts (level n t.kind k.0 k.1)
fill_one Primary t ts k = zero_primary t ts
fill_one NameRest t ts k = alone NameRest t ts k.name
fill_one Arguments t ts k = around Arguments (A Expression ∷ A MoreExpressions ∷ []) zero_token [] (t ∷ ts) refl (with_empty (A Expression) MoreExpressions (zero_token ∷ []) t ts (zero_expression t ts k) k.expressions)
fill_one MoreExpressions t ts k = alone MoreExpressions t ts k.expressions

-- with a token behind the shortest tokens of parts
record Headed (front after : List Token) (k : TokenKind) : Type 0 where
  head : Token
  tail : List Token
  is : front ++ after ≡ head ∷ tail
  kind : head.kind ≡ first_kind front k

headed : (front : List Token) (t : Token) (ts : List Token) → Headed front (t ∷ ts) t.kind
headed [] t ts = record { head = t; tail = ts; is = refl; kind = refl }
headed (u ∷ us) t ts = record { head = u; tail = us ++ t ∷ ts; is = refl; kind = refl }

filled_token : (q : Part) (u : Token) (ps : List Part) (after : List Token) → Fits q u.kind → Filled ps (fill ps) after → Filled (q ∷ ps) (u ∷ fill ps) after
filled_token q u ps after f g = record { derivation = Then (Leaf u) g.derivation; is = token f g.is }

pub fill_all : (ps : List Part) (t : Token) (ts : List Token) → Good ps t.kind → Filled ps (fill ps) (t ∷ ts)
fill_all [] t ts g = record { derivation = NoMore; is = nothing }
fill_all (The k ∷ ps) t ts g = filled_token (The k) (a_token k) ps (t ∷ ts) refl (fill_all ps t ts g)
fill_all (AName ∷ ps) t ts g = filled_token AName name_token ps (t ∷ ts) (97 ∷ [], refl) (fill_all ps t ts g)
fill_all (ANumber ∷ ps) t ts g = filled_token ANumber zero_token ps (t ∷ ts) (pos 0, refl) (fill_all ps t ts g)
fill_all (AString ∷ ps) t ts g = filled_token AString text_token ps (t ∷ ts) ([], refl) (fill_all ps t ts g)
fill_all (A p ∷ ps) t ts g =
    let more = fill_all ps t ts g.1 in
    let h = headed (fill ps) t ts in
    let ok : Ok p h.head.kind = subst (Ok p) (sym h.kind) g.0 in
    let one = fill_one p h.head h.tail ok in
    let first : Is (A p ∷ []) (fill_phrase p ++ (fill ps ++ t ∷ ts)) one.derivation (fill ps ++ t ∷ ts) = subst (λ l. Is (A p ∷ []) (fill_phrase p ++ l) one.derivation l) (sym h.is) one.is in
    let j = joined first more.is in
    record { derivation = j.0; is = subst (λ l. Is (A p ∷ ps) l j.0 (t ∷ ts)) (sym (append_assoc (fill_phrase p) (fill ps) (t ∷ ts))) j.1 }

-- the parts of a phrase may be filled where the phrase may

statement_good : (b : Bool) (k : TokenKind) → Neutral k → Good (if b then (A Print ∷ mark marks.Semicolon ∷ []) else (A Simple ∷ mark marks.Semicolon ∷ [])) k
statement_good true k n = (semicolon, tt)
statement_good false k n = (semicolon, tt)

rest_good : (n : ℕ) (t k : TokenKind) (b : Bool) → Neutral k → n < 10 → Good (if b then (The t ∷ A (Level n) ∷ A (LevelRest n) ∷ []) else []) k
rest_good n t k true x h = ((x, omega arith), ((x, h), tt))
rest_good n t k false x h = tt

pub closed : (p : Phrase) (t k : TokenKind) → Ok p k → IfSome (parts_of p t) (λ inner. Good inner k)
unfolding parts_of
closed Program kinds.End k o = tt
closed Program (kinds.Keyword words.Int) k o = (subst Neutral (sym o) the_end, (o, tt))
closed Program (kinds.Keyword words.Void) k o = (close_parenthesis, (subst Neutral (sym o) the_end, (o, tt)))
closed Program t k o = tt
closed AfterName (kinds.Mark marks.OpenParenthesis) k o = (close_parenthesis, (o, tt))
closed AfterName t k o = (semicolon, (semicolon, tt))
closed GlobalValue (kinds.Mark marks.Equal) k o = (o, tt)
closed GlobalValue (kinds.Mark marks.OpenBracket) k o = tt
closed GlobalValue t k o = tt
closed SignedNumber (kinds.Mark marks.Minus) k o = tt
closed SignedNumber t k o = tt
closed MoreGlobals (kinds.Mark marks.Comma) k o = (o, (o, tt))
closed MoreGlobals t k o = tt
closed Parameters (kinds.Mark marks.CloseParenthesis) k o = tt
closed Parameters (kinds.Keyword words.Void) k o = tt
closed Parameters t k o = (o, (o, tt))
closed Parameter t k o = (o, tt)
closed ParameterBrackets (kinds.Mark marks.OpenBracket) k o = tt
closed ParameterBrackets t k o = tt
closed MoreParameters (kinds.Mark marks.Comma) k o = (o, (o, tt))
closed MoreParameters t k o = tt
closed Block t k o = (refl, tt)
closed Items (kinds.Mark marks.CloseBrace) k o = tt
closed Items (kinds.Keyword words.Int) k o = (semicolon, (semicolon, (o, tt)))
closed Items t k o = (subst Neutral (sym o) close_brace, (o, tt))
closed Item t k o = (o, tt)
closed ItemValue (kinds.Mark marks.Equal) k o = (o, tt)
closed ItemValue (kinds.Mark marks.OpenBracket) k o = tt
closed ItemValue t k o = tt
closed MoreItems (kinds.Mark marks.Comma) k o = (o, (o, tt))
closed MoreItems t k o = tt
closed Statement (kinds.Mark marks.OpenBrace) k o = (o, tt)
closed Statement (kinds.Mark marks.Semicolon) k o = tt
closed Statement (kinds.Keyword words.If) k o = (close_parenthesis, (o, (o, tt)))
closed Statement (kinds.Keyword words.While) k o = (close_parenthesis, (o, tt))
closed Statement (kinds.Keyword words.Do) k o = (while_word, (close_parenthesis, tt))
closed Statement (kinds.Keyword words.For) k o = (semicolon, (semicolon, (close_parenthesis, (o, tt))))
closed Statement (kinds.Keyword words.Break) k o = tt
closed Statement (kinds.Keyword words.Continue) k o = tt
closed Statement (kinds.Keyword words.Return) k o = (semicolon, tt)
closed Statement (kinds.Name name) k o = statement_good (pointwise nat_eq name (codes "printf")) k o
closed Statement t k o = (semicolon, tt)
closed ElsePart (kinds.Keyword words.Else) k o = (o, tt)
closed ElsePart t k o = tt
closed First (kinds.Mark marks.Semicolon) k o = tt
closed First (kinds.Keyword words.Int) k o = (o, (o, tt))
closed First t k o = (o, tt)
closed OptionalExpression (kinds.Mark marks.Semicolon) k o = tt
closed OptionalExpression t k o = (o, tt)
closed OptionalSimple (kinds.Mark marks.CloseParenthesis) k o = tt
closed OptionalSimple t k o = (o, tt)
closed Print t k o = (close_parenthesis, tt)
closed Simple (kinds.Mark marks.PlusPlus) k o = ((o, omega arith), tt)
closed Simple (kinds.Mark marks.MinusMinus) k o = ((o, omega arith), tt)
closed Simple t k o = (o, (o, tt))
closed SimpleRest (kinds.Mark marks.PlusPlus) k o = tt
closed SimpleRest (kinds.Mark marks.MinusMinus) k o = tt
closed SimpleRest (kinds.Mark marks.Equal) k o = (o, tt)
closed SimpleRest (kinds.Mark marks.PlusEqual) k o = (o, tt)
closed SimpleRest (kinds.Mark marks.MinusEqual) k o = (o, tt)
closed SimpleRest (kinds.Mark marks.StarEqual) k o = (o, tt)
closed SimpleRest (kinds.Mark marks.SlashEqual) k o = (o, tt)
closed SimpleRest (kinds.Mark marks.PercentEqual) k o = (o, tt)
closed SimpleRest (kinds.Mark marks.AmpersandEqual) k o = (o, tt)
closed SimpleRest (kinds.Mark marks.BarEqual) k o = (o, tt)
closed SimpleRest (kinds.Mark marks.CaretEqual) k o = (o, tt)
closed SimpleRest (kinds.Mark marks.ShiftLeftEqual) k o = (o, tt)
closed SimpleRest (kinds.Mark marks.ShiftRightEqual) k o = (o, tt)
closed SimpleRest t k o = tt
closed Expression t k o = ((o, omega arith), (o, tt))
closed ChoiceRest (kinds.Mark marks.Question) k o = (colon, (o, tt))
closed ChoiceRest t k o = tt
closed (Level zero) (kinds.Mark marks.Minus) k o = ((o.0, omega arith), tt)
closed (Level zero) (kinds.Mark marks.Plus) k o = ((o.0, omega arith), tt)
closed (Level zero) (kinds.Mark marks.Exclamation) k o = ((o.0, omega arith), tt)
closed (Level zero) (kinds.Mark marks.Tilde) k o = ((o.0, omega arith), tt)
closed (Level zero) t k o = (o.0, tt)
closed (Level (suc n)) t k o = let h = o.1 in ((o.0, omega arith), ((o.0, omega arith), tt))
closed (LevelRest n) t k o = rest_good n t k (nat_eq (strength t) n) o.0 o.1
closed Primary (kinds.Number z) k o = tt
closed Primary (kinds.Name x) k o = (o, tt)
closed Primary (kinds.Mark marks.OpenParenthesis) k o = (close_parenthesis, tt)
closed Primary t k o = tt
closed NameRest (kinds.Mark marks.OpenBracket) k o = (close_bracket, tt)
closed NameRest (kinds.Mark marks.OpenParenthesis) k o = (close_parenthesis, tt)
closed NameRest t k o = tt
closed Arguments (kinds.Mark marks.CloseParenthesis) k o = tt
closed Arguments t k o = (o, (o, tt))
closed MoreExpressions (kinds.Mark marks.Comma) k o = (o, (o, tt))
closed MoreExpressions t k o = tt
