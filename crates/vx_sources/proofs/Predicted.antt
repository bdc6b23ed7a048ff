-- What the productions derive, the table of predictions derives: the alternatives of a phrase begin with different tokens, and
-- one without tokens has others behind it.
use Rattle.std.proofs.Common.{◌≡◌, ◌⊎◌, inl, inr, ◌<◌, ℕ, zero, Bool, true, false, nat_eq, nat_lt, not, if◌then◌else◌, Some, List, [], ◌∷◌, codes, refl, sym, ap, ◌∙◌, subst, arith}
use Rattle.std.specs.Cmp.Lexicographic.{pointwise}
use Rattle.std.proofs.lemmas.Bool.{and_parts, eqb-true, eq-eqb, ltb-true}
use Rattle.vx_ast.specs.declared.token.Keyword.TheVariants as words
use Rattle.vx_ast.specs.declared.token.Mark.{Mark}
use Rattle.vx_ast.specs.declared.token.Mark.TheVariants as marks
use Rattle.vx_ast.specs.declared.token.TokenKind.{TokenKind}
use Rattle.vx_ast.specs.declared.token.TokenKind.TheVariants as kinds
use Rattle.vx_ast.specs.declared.token.Token.{Token}
use Rattle.vx_ast.specs.Tree.{Row}
use Rattle.vx_ast.specs.Phrases as phrases
use Rattle.vx_ast.specs.Phrases.{Phrase, Program, AfterName, GlobalValue, SignedNumber, MoreGlobals, Parameters, Parameter, ParameterBrackets, MoreParameters, Block, Items, ItemValue, MoreItems, Statement, ElsePart, First, OptionalExpression, OptionalSimple, Print, Simple, SimpleRest, Expression, ChoiceRest, Level, LevelRest, Primary, NameRest, Arguments, MoreExpressions, Part, The, AName, ANumber, AString, A, Fits, mark, strength, parts_of, Derivation, Node, Then, Is}
use Rattle.vx_parse.specs.Reading.{next_kind}
use Rattle.vx_sources.specs.Productions as productions
use Rattle.vx_sources.specs.Productions.{IsOneOf, operators, signs, assigns, steps, printf, Production, Beside, Produces, nothing, token, phrase, TableIsProductions}
use Rattle.std.specs.Cmp.Lexicographic.{same_text}
use Rattle.vx_sources.proofs.Produced.{program_produced}
use Rattle.vx_sources.proofs.Firsts.{EmptyRow, Starts, begins_expression, begins_name_rest, begins_primary, begins_rest, begins_simple, begins_statement, begins_value, is_brace, is_bracket, is_comma, is_int, is_printf, each, an_operator, began, emptied}
use Rattle.vx_sources.proofs.Followers.{Ends, closes, closes_block, ends, ends_expression, is_end, is_semicolon, followed}

-- the table's row where a production's is due

record Agrees (p : Phrase) (k : TokenKind) (inner : List Part) : Type 0 where
  row : List Part
  predicts : parts_of p k ≡ Some row
  turn : (ts mid : List Token) (d : Derivation Row) → Is inner ts d mid → Is row ts d mid

same : {p : Phrase} {k : TokenKind} {inner : List Part} → parts_of p k ≡ Some inner → Agrees p k inner
same {inner} e = record { row = inner; predicts = e; turn = λ ts mid d i. i }

-- the next token begins these parts of a phrase, or they are empty and it may stand behind
abbrev Meets : Phrase → List Part → (here mid : List Token) → Type 0
Meets p inner here mid = Starts inner (next_kind here) ⊎ (EmptyRow inner × ((here ≡ mid) × (ends p (next_kind here) ≡ true)))

-- where parts are not empty, and where they are
filled : {X Y : Type 0} → X ⊎ (⊥ × Y) → X
filled (inl x) = x
filled (inr y) = absurd y.0

phrase_filled : {X Y Z W : Type 0} → (X ⊎ (⊥ × Y)) ⊎ ((⊥ × Z) × W) → X
phrase_filled (inl h) = filled h
phrase_filled (inr y) = absurd y.0.0

bare : {X Y Z : Type 0} → ⊥ ⊎ (X × (Y × Z)) → Z
bare (inl x) = absurd x
bare (inr y) = y.1.1

program_none : (k : TokenKind) → is_end k ≡ true → parts_of Program k ≡ Some ([])
unfolding parts_of
program_none kinds.End h = refl
program_none k h = absurd (cc)

value_globals : (k : TokenKind) → begins_value k ≡ true → parts_of AfterName k ≡ Some (A GlobalValue ∷ A MoreGlobals ∷ mark marks.Semicolon ∷ [])
unfolding parts_of
value_globals (kinds.Mark marks.Equal) h = refl
value_globals (kinds.Mark marks.OpenBracket) h = refl
value_globals k h = absurd (cc)

comma_globals : (k : TokenKind) → is_comma k ≡ true → parts_of AfterName k ≡ Some (A GlobalValue ∷ A MoreGlobals ∷ mark marks.Semicolon ∷ [])
unfolding parts_of
comma_globals (kinds.Mark marks.Comma) h = refl
comma_globals k h = absurd (cc)

value_none : (k : TokenKind) → not (begins_value k) ≡ true → parts_of GlobalValue k ≡ Some ([])
unfolding parts_of
value_none (kinds.Mark marks.Equal) h = absurd (cc)
value_none (kinds.Mark marks.OpenBracket) h = absurd (cc)
value_none k h = refl

globals_none : (k : TokenKind) → ends MoreGlobals k ≡ true → parts_of MoreGlobals k ≡ Some ([])
unfolding parts_of
globals_none (kinds.Mark marks.Comma) h = absurd (cc)
globals_none k h = refl

parameters_none : (k : TokenKind) → closes k ≡ true → parts_of Parameters k ≡ Some ([])
unfolding parts_of
parameters_none (kinds.Mark marks.CloseParenthesis) h = refl
parameters_none k h = absurd (cc)

parameters_some : (k : TokenKind) → is_int k ≡ true → parts_of Parameters k ≡ Some (A Parameter ∷ A MoreParameters ∷ [])
unfolding parts_of
parameters_some (kinds.Keyword words.Int) h = refl
parameters_some k h = absurd (cc)

brackets_none : (k : TokenKind) → not (is_bracket k) ≡ true → parts_of ParameterBrackets k ≡ Some ([])
unfolding parts_of
brackets_none (kinds.Mark marks.OpenBracket) h = absurd (cc)
brackets_none k h = refl

more_parameters_none : (k : TokenKind) → ends MoreParameters k ≡ true → parts_of MoreParameters k ≡ Some ([])
unfolding parts_of
more_parameters_none (kinds.Mark marks.Comma) h = absurd (cc)
more_parameters_none k h = refl

items_none : (k : TokenKind) → closes_block k ≡ true → parts_of Items k ≡ Some ([])
unfolding parts_of
items_none (kinds.Mark marks.CloseBrace) h = refl
items_none k h = absurd (cc)

items_statement : (k : TokenKind) → begins_statement k ≡ true → parts_of Items k ≡ Some (A Statement ∷ A Items ∷ [])
unfolding parts_of
items_statement (kinds.Mark marks.CloseBrace) h = absurd (cc)
items_statement (kinds.Keyword words.Int) h = absurd (cc)
items_statement k h = refl

item_none : (k : TokenKind) → ends ItemValue k ≡ true → parts_of ItemValue k ≡ Some ([])
unfolding parts_of
item_none (kinds.Mark marks.Equal) h = absurd (cc)
item_none (kinds.Mark marks.OpenBracket) h = absurd (cc)
item_none k h = refl

more_items_none : (k : TokenKind) → ends MoreItems k ≡ true → parts_of MoreItems k ≡ Some ([])
unfolding parts_of
more_items_none (kinds.Mark marks.Comma) h = absurd (cc)
more_items_none k h = refl

block_some : (k : TokenKind) → is_brace k ≡ true → parts_of Statement k ≡ Some (A Block ∷ [])
unfolding parts_of
block_some (kinds.Mark marks.OpenBrace) h = refl
block_some k h = absurd (cc)

name_simple : (name : List ℕ) (b : Bool) → b ≡ pointwise nat_eq name (codes "printf") → (kinds.Name name ≡ printf → ⊥) → parts_of Statement (kinds.Name name) ≡ Some (A Simple ∷ mark marks.Semicolon ∷ [])
unfolding parts_of
name_simple name true e n = absurd (n (ap kinds.Name (same_text name (codes "printf") e)))
name_simple name false e n = ap (λ (b : Bool). Some (if b then (A Print ∷ mark marks.Semicolon ∷ []) else (A Simple ∷ mark marks.Semicolon ∷ []))) (sym e)

simple_some : (k : TokenKind) → (k ≡ printf → ⊥) → begins_simple k ≡ true → parts_of Statement k ≡ Some (A Simple ∷ mark marks.Semicolon ∷ [])
unfolding parts_of
simple_some (kinds.Mark marks.OpenBrace) n h = absurd (cc)
simple_some (kinds.Mark marks.Semicolon) n h = absurd (cc)
simple_some (kinds.Keyword w) n h = absurd (cc)
simple_some (kinds.Name name) n h = name_simple name (pointwise nat_eq name (codes "printf")) refl n
simple_some k n h = refl

print_some : (k : TokenKind) → is_printf k ≡ true → parts_of Statement k ≡ Some (A Print ∷ mark marks.Semicolon ∷ [])
unfolding parts_of
print_some (kinds.Name name) h = ap (λ (b : Bool). Some (if b then (A Print ∷ mark marks.Semicolon ∷ []) else (A Simple ∷ mark marks.Semicolon ∷ []))) h
print_some k h = absurd (cc)

else_none : (k : TokenKind) → (k ≡ kinds.Keyword words.Else → ⊥) → parts_of ElsePart k ≡ Some []
unfolding parts_of
else_none (kinds.Keyword words.Else) n = absurd (n refl)
else_none k n = refl

first_none : (k : TokenKind) → is_semicolon k ≡ true → parts_of First k ≡ Some ([])
unfolding parts_of
first_none (kinds.Mark marks.Semicolon) h = refl
first_none k h = absurd (cc)

first_some : (k : TokenKind) → begins_simple k ≡ true → parts_of First k ≡ Some (A Simple ∷ [])
unfolding parts_of
first_some (kinds.Mark marks.Semicolon) h = absurd (cc)
first_some (kinds.Keyword words.Int) h = absurd (cc)
first_some k h = refl

expression_none : (k : TokenKind) → is_semicolon k ≡ true → parts_of OptionalExpression k ≡ Some ([])
unfolding parts_of
expression_none (kinds.Mark marks.Semicolon) h = refl
expression_none k h = absurd (cc)

expression_some : (k : TokenKind) → begins_expression k ≡ true → parts_of OptionalExpression k ≡ Some (A Expression ∷ [])
unfolding parts_of
expression_some (kinds.Mark marks.Semicolon) h = absurd (cc)
expression_some k h = refl

simple_none : (k : TokenKind) → closes k ≡ true → parts_of OptionalSimple k ≡ Some ([])
unfolding parts_of
simple_none (kinds.Mark marks.CloseParenthesis) h = refl
simple_none k h = absurd (cc)

simple_there : (k : TokenKind) → begins_simple k ≡ true → parts_of OptionalSimple k ≡ Some (A Simple ∷ [])
unfolding parts_of
simple_there (kinds.Mark marks.CloseParenthesis) h = absurd (cc)
simple_there k h = refl

expression_first : (k : TokenKind) → begins_expression k ≡ true → parts_of Simple k ≡ Some (A Expression ∷ A SimpleRest ∷ [])
unfolding parts_of
expression_first (kinds.Mark marks.PlusPlus) h = absurd (cc)
expression_first (kinds.Mark marks.MinusMinus) h = absurd (cc)
expression_first k h = refl

rest_none_by : (k : TokenKind) → not (begins_rest k) ≡ true → parts_of SimpleRest k ≡ Some []
unfolding parts_of
rest_none_by (kinds.Mark marks.PlusPlus) h = absurd (cc)
rest_none_by (kinds.Mark marks.MinusMinus) h = absurd (cc)
rest_none_by (kinds.Mark marks.Equal) h = absurd (cc)
rest_none_by (kinds.Mark marks.PlusEqual) h = absurd (cc)
rest_none_by (kinds.Mark marks.MinusEqual) h = absurd (cc)
rest_none_by (kinds.Mark marks.StarEqual) h = absurd (cc)
rest_none_by (kinds.Mark marks.SlashEqual) h = absurd (cc)
rest_none_by (kinds.Mark marks.PercentEqual) h = absurd (cc)
rest_none_by (kinds.Mark marks.AmpersandEqual) h = absurd (cc)
rest_none_by (kinds.Mark marks.BarEqual) h = absurd (cc)
rest_none_by (kinds.Mark marks.CaretEqual) h = absurd (cc)
rest_none_by (kinds.Mark marks.ShiftLeftEqual) h = absurd (cc)
rest_none_by (kinds.Mark marks.ShiftRightEqual) h = absurd (cc)
rest_none_by k h = refl

rest_none : (k : TokenKind) → ends SimpleRest k ≡ true → parts_of SimpleRest k ≡ Some []
rest_none k h = rest_none_by k (and_parts (ends_expression k) (not (begins_rest k)) h).1

choice_none : (k : TokenKind) → ends_expression k ≡ true → parts_of ChoiceRest k ≡ Some ([])
unfolding parts_of
choice_none (kinds.Mark marks.Question) h = absurd (cc)
choice_none k h = refl

unsigned_some : (k : TokenKind) → begins_primary k ≡ true → parts_of (Level zero) k ≡ Some (A Primary ∷ [])
unfolding parts_of
unsigned_some (kinds.Mark marks.Minus) h = absurd (cc)
unsigned_some (kinds.Mark marks.Plus) h = absurd (cc)
unsigned_some (kinds.Mark marks.Exclamation) h = absurd (cc)
unsigned_some (kinds.Mark marks.Tilde) h = absurd (cc)
unsigned_some k h = refl

name_none : (k : TokenKind) → not (begins_name_rest k) ≡ true → parts_of NameRest k ≡ Some ([])
unfolding parts_of
name_none (kinds.Mark marks.OpenBracket) h = absurd (cc)
name_none (kinds.Mark marks.OpenParenthesis) h = absurd (cc)
name_none k h = refl

arguments_none : (k : TokenKind) → closes k ≡ true → parts_of Arguments k ≡ Some ([])
unfolding parts_of
arguments_none (kinds.Mark marks.CloseParenthesis) h = refl
arguments_none k h = absurd (cc)

arguments_some : (k : TokenKind) → begins_expression k ≡ true → parts_of Arguments k ≡ Some (A Expression ∷ A MoreExpressions ∷ [])
unfolding parts_of
arguments_some (kinds.Mark marks.CloseParenthesis) h = absurd (cc)
arguments_some k h = refl

expressions_none : (k : TokenKind) → ends MoreExpressions k ≡ true → parts_of MoreExpressions k ≡ Some ([])
unfolding parts_of
expressions_none (kinds.Mark marks.Comma) h = absurd (cc)
expressions_none k h = refl

step_first : (m : Mark) → IsOneOf m steps → parts_of Simple (kinds.Mark m) ≡ Some (mark m ∷ A (Level 0) ∷ [])
unfolding parts_of
step_first m o = each (λ m. parts_of Simple (kinds.Mark m) ≡ Some (mark m ∷ A (Level 0) ∷ [])) steps m (refl, (refl, tt)) o

step_last : (m : Mark) → IsOneOf m steps → parts_of SimpleRest (kinds.Mark m) ≡ Some (mark m ∷ [])
unfolding parts_of
step_last m o = each (λ m. parts_of SimpleRest (kinds.Mark m) ≡ Some (mark m ∷ [])) steps m (refl, (refl, tt)) o

assign_some : (m : Mark) → IsOneOf m assigns → parts_of SimpleRest (kinds.Mark m) ≡ Some (mark m ∷ A Expression ∷ [])
unfolding parts_of
assign_some m o = each (λ m. parts_of SimpleRest (kinds.Mark m) ≡ Some (mark m ∷ A Expression ∷ [])) assigns m (refl, (refl, (refl, (refl, (refl, (refl, (refl, (refl, (refl, (refl, (refl, tt))))))))))) o

sign_some : (m : Mark) → IsOneOf m signs → parts_of (Level zero) (kinds.Mark m) ≡ Some (mark m ∷ A (Level 0) ∷ [])
unfolding parts_of
sign_some m o = each (λ m. parts_of (Level zero) (kinds.Mark m) ≡ Some (mark m ∷ A (Level 0) ∷ [])) signs m (refl, (refl, (refl, (refl, tt)))) o

-- no operator of the strength
other_strength : (n s : ℕ) (b : Bool) → nat_eq s n ≡ b → n < s → nat_eq s n ≡ false
other_strength n s true e h = let f : s ≡ n = eqb-true s n e in absurd (omega arith)
other_strength n s false e h = e

level_none : (n : ℕ) (k : TokenKind) → ends (LevelRest n) k ≡ true → parts_of (LevelRest n) k ≡ Some []
unfolding parts_of
level_none n k h =
    let a = and_parts (nat_lt n (strength k)) (not (begins_name_rest k)) h in
    let e = other_strength n (strength k) (nat_eq (strength k) n) refl (ltb-true n (strength k) a.0) in
    ap (λ (b : Bool). Some (if b then (The k ∷ A (Level n) ∷ A (LevelRest n) ∷ []) else [])) e

level_some : (n : ℕ) (m : Mark) → IsOneOf m (operators n) → parts_of (LevelRest n) (kinds.Mark m) ≡ Some (mark m ∷ A (Level n) ∷ A (LevelRest n) ∷ [])
unfolding parts_of
level_some n m o =
    let f = an_operator n m o in
    let e : nat_eq (strength (kinds.Mark m)) n ≡ true = eq-eqb (strength (kinds.Mark m)) n f.0 in
    ap (λ (b : Bool). Some (if b then (mark m ∷ A (Level n) ∷ A (LevelRest n) ∷ []) else [])) e

globals_some : (k : TokenKind) → Starts (A GlobalValue ∷ A MoreGlobals ∷ mark marks.Semicolon ∷ []) k → parts_of AfterName k ≡ Some (A GlobalValue ∷ A MoreGlobals ∷ mark marks.Semicolon ∷ [])
unfolding parts_of
globals_some k (inl h) = value_globals k h
globals_some k (inr (u, inl h)) = comma_globals k h
globals_some k (inr (u, inr (v, e))) = ap (parts_of AfterName) e

globals_met : {k : TokenKind} {Y : Type 0} → Starts (A GlobalValue ∷ A MoreGlobals ∷ mark marks.Semicolon ∷ []) k ⊎ ((Unit {0} × (Unit {0} × ⊥)) × Y) → Starts (A GlobalValue ∷ A MoreGlobals ∷ mark marks.Semicolon ∷ []) k
globals_met (inl s) = s
globals_met (inr y) = absurd y.0.1.1

elseless : {here mid : List Token} → ⊥ ⊎ (Unit {0} × ((here ≡ mid) × (true ≡ true))) → (next_kind mid ≡ kinds.Keyword words.Else → ⊥) → next_kind here ≡ kinds.Keyword words.Else → ⊥
elseless (inl x) n e = x
elseless (inr y) n e = n (sym (ap next_kind y.1.0) ∙ e)

print_agrees : (k : TokenKind) → Agrees Print k (The printf ∷ mark marks.OpenParenthesis ∷ AString ∷ A MoreExpressions ∷ mark marks.CloseParenthesis ∷ [])
unfolding parts_of
print_agrees k =
    record {
      row = AName ∷ mark marks.OpenParenthesis ∷ AString ∷ A MoreExpressions ∷ mark marks.CloseParenthesis ∷ [];
      predicts = refl;
      turn = λ ts mid d i. named i;
    }
  where
    named : {ps : List Part} {ts mid : List Token} {d : Derivation Row} → Is (The printf ∷ ps) ts d mid → Is (AName ∷ ps) ts d mid
    named (phrases.token f i) = phrases.token (codes "printf", f) i

predicted : {p : Phrase} {inner : List Part} → Production p inner → (here mid : List Token) → Beside p inner here mid → Meets p inner here mid → Agrees p (next_kind here) inner
unfolding parts_of
predicted productions.no_definition here mid b h = same (program_none (next_kind here) (bare h))
predicted productions.int_definition here mid b h = same (ap (parts_of Program) (filled h))
predicted productions.void_definition here mid b h = same (ap (parts_of Program) (filled h))
predicted productions.int_function here mid b h = same (ap (parts_of AfterName) (filled h))
predicted productions.globals here mid b h = same (globals_some (next_kind here) (globals_met h))
predicted productions.global_without here mid b h = same (value_none (next_kind here) (bare h))
predicted productions.global_with here mid b h = same (ap (parts_of GlobalValue) (filled h))
predicted productions.global_array here mid b h = same (ap (parts_of GlobalValue) (filled h))
predicted productions.number here mid b h = same (ap (parts_of SignedNumber) (filled h).1)
predicted productions.negative here mid b h = same (ap (parts_of SignedNumber) (filled h))
predicted productions.no_more_globals here mid b h = same (globals_none (next_kind here) (bare h))
predicted productions.more_globals here mid b h = same (ap (parts_of MoreGlobals) (filled h))
predicted productions.no_parameter here mid b h = same (parameters_none (next_kind here) (bare h))
predicted productions.void_parameters here mid b h = same (ap (parts_of Parameters) (filled h))
predicted productions.parameters here mid b h = same (parameters_some (next_kind here) (phrase_filled h))
predicted productions.parameter here mid b h = same refl
predicted productions.no_brackets here mid b h = same (brackets_none (next_kind here) (bare h))
predicted productions.brackets here mid b h = same (ap (parts_of ParameterBrackets) (filled h))
predicted productions.no_more_parameters here mid b h = same (more_parameters_none (next_kind here) (bare h))
predicted productions.more_parameters here mid b h = same (ap (parts_of MoreParameters) (filled h))
predicted productions.block here mid b h = same refl
predicted productions.no_more_statements here mid b h = same (items_none (next_kind here) (bare h))
predicted productions.declaration here mid b h = same (ap (parts_of Items) (filled h))
predicted productions.one_statement here mid b h = same (items_statement (next_kind here) (phrase_filled h))
predicted productions.item here mid b h = same refl
predicted productions.item_without here mid b h = same (item_none (next_kind here) (bare h))
predicted productions.item_with here mid b h = same (ap (parts_of ItemValue) (filled h))
predicted productions.item_array here mid b h = same (ap (parts_of ItemValue) (filled h))
predicted productions.no_more_items here mid b h = same (more_items_none (next_kind here) (bare h))
predicted productions.more_items here mid b h = same (ap (parts_of MoreItems) (filled h))
predicted productions.block_statement here mid b h = same (block_some (next_kind here) (phrase_filled h))
predicted productions.empty_statement here mid b h = same (ap (parts_of Statement) (filled h))
predicted productions.simple_statement here mid b h = same (simple_some (next_kind here) b (phrase_filled h))
predicted productions.print_statement here mid b h = same (print_some (next_kind here) (phrase_filled h))
predicted productions.if_statement here mid b h = same (ap (parts_of Statement) (filled h))
predicted productions.while_statement here mid b h = same (ap (parts_of Statement) (filled h))
predicted productions.do_statement here mid b h = same (ap (parts_of Statement) (filled h))
predicted productions.for_statement here mid b h = same (ap (parts_of Statement) (filled h))
predicted productions.break_statement here mid b h = same (ap (parts_of Statement) (filled h))
predicted productions.continue_statement here mid b h = same (ap (parts_of Statement) (filled h))
predicted productions.return_statement here mid b h = same (ap (parts_of Statement) (filled h))
predicted productions.without_else here mid b h = same (else_none (next_kind here) (elseless h b))
predicted productions.with_else here mid b h = same (ap (parts_of ElsePart) (filled h))
predicted productions.no_first here mid b h = same (first_none (next_kind here) (bare h))
predicted productions.first_declaration here mid b h = same (ap (parts_of First) (filled h))
predicted productions.first_simple here mid b h = same (first_some (next_kind here) (phrase_filled h))
predicted productions.no_expression here mid b h = same (expression_none (next_kind here) (bare h))
predicted productions.an_expression here mid b h = same (expression_some (next_kind here) (phrase_filled h))
predicted productions.no_simple here mid b h = same (simple_none (next_kind here) (bare h))
predicted productions.a_simple here mid b h = same (simple_there (next_kind here) (phrase_filled h))
predicted productions.print here mid b h = print_agrees (next_kind here)
predicted productions.of_expression here mid b h = same (expression_first (next_kind here) (phrase_filled h))
predicted (productions.step_before {m} o) here mid b h = same (ap (parts_of Simple) (filled h) ∙ step_first m o)
predicted productions.no_assign here mid b h = same (rest_none (next_kind here) (bare h))
predicted (productions.assign {m} o) here mid b h = same (ap (parts_of SimpleRest) (filled h) ∙ assign_some m o)
predicted (productions.step_behind {m} o) here mid b h = same (ap (parts_of SimpleRest) (filled h) ∙ step_last m o)
predicted productions.expression here mid b h = same refl
predicted productions.no_choice here mid b h = same (choice_none (next_kind here) (bare h))
predicted productions.choice here mid b h = same (ap (parts_of ChoiceRest) (filled h))
predicted productions.level here mid b h = same refl
predicted (productions.no_operator {n}) here mid b h = same (level_none n (next_kind here) (bare h))
predicted (productions.operator {n} {m} o) here mid b h = same (ap (parts_of (LevelRest n)) (filled h) ∙ level_some n m o)
predicted (productions.signed {m} o) here mid b h = same (ap (parts_of (Level zero)) (filled h) ∙ sign_some m o)
predicted productions.unsigned here mid b h = same (unsigned_some (next_kind here) (phrase_filled h))
predicted productions.a_number here mid b h = same (ap (parts_of Primary) (filled h).1)
predicted productions.a_name here mid b h = same (ap (parts_of Primary) (filled h).1)
predicted productions.in_parentheses here mid b h = same (ap (parts_of Primary) (filled h))
predicted productions.name_alone here mid b h = same (name_none (next_kind here) (bare h))
predicted productions.element here mid b h = same (ap (parts_of NameRest) (filled h))
predicted productions.call here mid b h = same (ap (parts_of NameRest) (filled h))
predicted productions.no_argument here mid b h = same (arguments_none (next_kind here) (bare h))
predicted productions.arguments here mid b h = same (arguments_some (next_kind here) (phrase_filled h))
predicted productions.no_more_expressions here mid b h = same (expressions_none (next_kind here) (bare h))
predicted productions.more_expressions here mid b h = same (ap (parts_of MoreExpressions) (filled h))

-- the next token begins the parts, or they have none
lead : {ps : List Part} {ts rest : List Token} {d : Derivation Row} → Produces ps ts d rest → Starts ps (next_kind ts) ⊎ (EmptyRow ps × (ts ≡ rest))
lead nothing = inr (tt, refl)
lead (token {part} {parts} {t} f i) = inl (fits_starts part parts t.kind f)
  where
    fits_starts : (q : Part) (ps : List Part) (k : TokenKind) → Fits q k → Starts (q ∷ ps) k
    fits_starts (The m) ps k f = f
    fits_starts AName ps k f = f
    fits_starts ANumber ps k f = f
    fits_starts AString ps k f = f
    fits_starts (A p) ps k f = absurd f
lead (phrase p inner {parts} {ts} {mid} {rest} r b i a) = by (lead i) (lead a)
  where
    by : Starts inner (next_kind ts) ⊎ (EmptyRow inner × (ts ≡ mid)) → Starts parts (next_kind mid) ⊎ (EmptyRow parts × (mid ≡ rest)) → Starts (A p ∷ parts) (next_kind ts) ⊎ (EmptyRow (A p ∷ parts) × (ts ≡ rest))
    by (inl s) y = inl (inl (began r (next_kind ts) s))
    by (inr x) (inl s) = inl (inr (emptied r x.0, subst (λ (l : List Token). Starts parts (next_kind l)) (sym x.1) s))
    by (inr x) (inr y) = inr ((emptied r x.0, y.0), x.1 ∙ y.1)

abbrev HasMore : List Token → Type 0
HasMore [] = ⊥
HasMore (t ∷ ts) = Unit {0}

has_more : {ps : List Part} {ts rest : List Token} {d : Derivation Row} → Produces ps ts d rest → HasMore rest → HasMore ts
has_more nothing h = h
has_more (token f i) h = tt
has_more (phrase p inner r b i a) h = has_more i (has_more a h)

put : (p : Phrase) (row parts : List Part) (ts mid rest : List Token) (d e : Derivation Row) → HasMore ts → parts_of p (next_kind ts) ≡ Some row → Is row ts d mid → Is parts mid e rest → Is (A p ∷ parts) ts (Then (Node p d) e) rest
put p row parts [] mid rest d e m k i a = absurd m
put p row parts (t ∷ ts) mid rest d e m k i a = phrases.phrase p row k i a

ends_token : (q : Part) (ps : List Part) (k j : TokenKind) → Fits q j → Ends (q ∷ ps) k → Ends ps k
ends_token (The m) ps k j f e = e
ends_token AName ps k j f e = e
ends_token ANumber ps k j f e = e
ends_token AString ps k j f e = e
ends_token (A p) ps k j f e = absurd f

-- what stands behind a phrase
behind : (p : Phrase) (parts : List Part) (mid rest : List Token) → Ends (A p ∷ parts) (next_kind rest) → Starts parts (next_kind mid) ⊎ (EmptyRow parts × (mid ≡ rest)) → ends p (next_kind mid) ≡ true
behind p parts mid rest e (inl s) = e.0 (next_kind mid) s
behind p parts mid rest e (inr x) = ap (λ (l : List Token). ends p (next_kind l)) x.1 ∙ e.1.0 x.0

met : (p : Phrase) (inner : List Part) (ts mid : List Token) → ends p (next_kind mid) ≡ true → Starts inner (next_kind ts) ⊎ (EmptyRow inner × (ts ≡ mid)) → Meets p inner ts mid
met p inner ts mid h (inl s) = inl s
met p inner ts mid h (inr x) = inr (x.0, (x.1, ap (λ (l : List Token). ends p (next_kind l)) x.1 ∙ h))

pub predictable : {ps : List Part} {ts rest : List Token} {d : Derivation Row} → Produces ps ts d rest → Ends ps (next_kind rest) → HasMore rest → Is ps ts d rest
predictable nothing e m = phrases.nothing
predictable (token {part} {parts} {t} {ts} {rest} f i) e m = phrases.token f (predictable i (ends_token part parts (next_kind rest) t.kind f e) m)
predictable (phrase p inner {parts} {ts} {mid} {rest} {d} {e} r b i a) h m =
    let more = has_more a m in
    let back = behind p parts mid rest h (lead a) in
    let c = predicted r ts mid b (met p inner ts mid back (lead i)) in
    let within = predictable i (followed r (next_kind mid) back) more in
    put p c.row parts ts mid rest d e (has_more i more) c.predicts (c.turn ts mid d within) (predictable a h.1.1 m)

program_predictable : (ts : List Token) (d : Derivation Row) (ended : Token) → ended.kind ≡ kinds.End → Produces (A Program ∷ []) ts d (ended ∷ []) → Is (A Program ∷ []) ts d (ended ∷ [])
program_predictable ts d ended h i = predictable i ((λ j s. absurd s), ((λ e. ap is_end h), tt)) tt

pub table_is_productions : TableIsProductions
table_is_productions ts d ended h = ((λ i. program_produced ts (ended ∷ []) d i), (λ i. program_predictable ts d ended h i))
