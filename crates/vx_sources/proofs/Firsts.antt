-- The tokens that phrases of the grammar begin with, and which phrases may have no token.
use Rattle.std.proofs.Common.{◌≡◌, ◌⊎◌, inl, inr, ℕ, zero, suc, Bool, true, false, nat_eq, not, ◌&&◌, List, [], ◌∷◌, codes, refl, sym, ap, ◌∙◌, subst}
use Rattle.std.specs.Cmp.Lexicographic.{pointwise}
use Rattle.std.proofs.lemmas.Bool.{eq-eqb}
use Rattle.vx_ast.specs.declared.token.Keyword.TheVariants as words
use Rattle.vx_ast.specs.declared.token.Mark.{Mark}
use Rattle.vx_ast.specs.declared.token.Mark.TheVariants as marks
use Rattle.vx_ast.specs.declared.token.TokenKind.{TokenKind}
use Rattle.vx_ast.specs.declared.token.TokenKind.TheVariants as kinds
use Rattle.vx_ast.specs.Phrases.{Phrase, Program, AfterName, GlobalValue, SignedNumber, MoreGlobals, Parameters, Parameter, ParameterBrackets, MoreParameters, Block, Items, Item, ItemValue, MoreItems, Statement, ElsePart, First, OptionalExpression, OptionalSimple, Print, Simple, SimpleRest, Expression, ChoiceRest, Level, LevelRest, Primary, NameRest, Arguments, MoreExpressions, Part, A, Fits, strength}
use Rattle.vx_sources.specs.Productions as productions
use Rattle.vx_sources.specs.Productions.{IsOneOf, operators, signs, assigns, steps, printf, Production}

-- the tokens that a phrase begins with

abbrev pub is_comma : TokenKind → Bool
is_comma (kinds.Mark marks.Comma) = true
is_comma k = false

abbrev pub begins_program : TokenKind → Bool
begins_program (kinds.Keyword words.Int) = true
begins_program (kinds.Keyword words.Void) = true
begins_program k = false

abbrev pub begins_value : TokenKind → Bool
begins_value (kinds.Mark marks.Equal) = true
begins_value (kinds.Mark marks.OpenBracket) = true
begins_value k = false

abbrev pub begins_after_name : TokenKind → Bool
begins_after_name (kinds.Mark marks.OpenParenthesis) = true
begins_after_name (kinds.Mark marks.Comma) = true
begins_after_name (kinds.Mark marks.Semicolon) = true
begins_after_name k = begins_value k

abbrev pub begins_signed : TokenKind → Bool
begins_signed (kinds.Mark marks.Minus) = true
begins_signed (kinds.Number z) = true
begins_signed k = false

abbrev pub is_int : TokenKind → Bool
is_int (kinds.Keyword words.Int) = true
is_int k = false

abbrev pub is_bracket : TokenKind → Bool
is_bracket (kinds.Mark marks.OpenBracket) = true
is_bracket k = false

abbrev pub is_brace : TokenKind → Bool
is_brace (kinds.Mark marks.OpenBrace) = true
is_brace k = false

abbrev pub is_name : TokenKind → Bool
is_name (kinds.Name x) = true
is_name k = false

abbrev pub is_else : TokenKind → Bool
is_else (kinds.Keyword words.Else) = true
is_else k = false

abbrev pub is_printf : TokenKind → Bool
is_printf (kinds.Name x) = pointwise nat_eq x (codes "printf")
is_printf k = false

abbrev pub is_question : TokenKind → Bool
is_question (kinds.Mark marks.Question) = true
is_question k = false

abbrev pub begins_primary : TokenKind → Bool
begins_primary (kinds.Mark marks.OpenParenthesis) = true
begins_primary (kinds.Name x) = true
begins_primary (kinds.Number z) = true
begins_primary k = false

abbrev pub begins_expression : TokenKind → Bool
begins_expression (kinds.Mark marks.Minus) = true
begins_expression (kinds.Mark marks.Plus) = true
begins_expression (kinds.Mark marks.Exclamation) = true
begins_expression (kinds.Mark marks.Tilde) = true
begins_expression k = begins_primary k

abbrev pub begins_simple : TokenKind → Bool
begins_simple (kinds.Mark marks.PlusPlus) = true
begins_simple (kinds.Mark marks.MinusMinus) = true
begins_simple k = begins_expression k

abbrev pub begins_statement : TokenKind → Bool
begins_statement (kinds.Mark marks.OpenBrace) = true
begins_statement (kinds.Mark marks.Semicolon) = true
begins_statement (kinds.Keyword words.If) = true
begins_statement (kinds.Keyword words.While) = true
begins_statement (kinds.Keyword words.Do) = true
begins_statement (kinds.Keyword words.For) = true
begins_statement (kinds.Keyword words.Break) = true
begins_statement (kinds.Keyword words.Continue) = true
begins_statement (kinds.Keyword words.Return) = true
begins_statement k = begins_simple k

abbrev pub begins_items : TokenKind → Bool
begins_items (kinds.Keyword words.Int) = true
begins_items k = begins_statement k

abbrev pub begins_first : TokenKind → Bool
begins_first (kinds.Keyword words.Int) = true
begins_first k = begins_simple k

abbrev pub begins_rest : TokenKind → Bool
begins_rest (kinds.Mark marks.PlusPlus) = true
begins_rest (kinds.Mark marks.MinusMinus) = true
begins_rest (kinds.Mark marks.Equal) = true
begins_rest (kinds.Mark marks.PlusEqual) = true
begins_rest (kinds.Mark marks.MinusEqual) = true
begins_rest (kinds.Mark marks.StarEqual) = true
begins_rest (kinds.Mark marks.SlashEqual) = true
begins_rest (kinds.Mark marks.PercentEqual) = true
begins_rest (kinds.Mark marks.AmpersandEqual) = true
begins_rest (kinds.Mark marks.BarEqual) = true
begins_rest (kinds.Mark marks.CaretEqual) = true
begins_rest (kinds.Mark marks.ShiftLeftEqual) = true
begins_rest (kinds.Mark marks.ShiftRightEqual) = true
begins_rest k = false

abbrev pub begins_name_rest : TokenKind → Bool
begins_name_rest (kinds.Mark marks.OpenBracket) = true
begins_name_rest (kinds.Mark marks.OpenParenthesis) = true
begins_name_rest k = false

abbrev pub begins : Phrase → TokenKind → Bool
begins Program k = begins_program k
begins AfterName k = begins_after_name k
begins GlobalValue k = begins_value k
begins SignedNumber k = begins_signed k
begins MoreGlobals k = is_comma k
begins Parameters k = begins_program k
begins Parameter k = is_int k
begins ParameterBrackets k = is_bracket k
begins MoreParameters k = is_comma k
begins Block k = is_brace k
begins Items k = begins_items k
begins Item k = is_name k
begins ItemValue k = begins_value k
begins MoreItems k = is_comma k
begins Statement k = begins_statement k
begins ElsePart k = is_else k
begins First k = begins_first k
begins OptionalExpression k = begins_expression k
begins OptionalSimple k = begins_simple k
begins Print k = is_printf k
begins Simple k = begins_simple k
begins SimpleRest k = begins_rest k
begins Expression k = begins_expression k
begins ChoiceRest k = is_question k
begins (Level n) k = begins_expression k
begins (LevelRest n) k = nat_eq (strength k) n && not (begins_name_rest k)
begins Primary k = begins_primary k
begins NameRest k = begins_name_rest k
begins Arguments k = begins_expression k
begins MoreExpressions k = is_comma k

-- phrases that may have no token
abbrev pub Empty : Phrase → Type 0
Empty Program = Unit {0}
Empty GlobalValue = Unit {0}
Empty MoreGlobals = Unit {0}
Empty Parameters = Unit {0}
Empty ParameterBrackets = Unit {0}
Empty MoreParameters = Unit {0}
Empty Items = Unit {0}
Empty ItemValue = Unit {0}
Empty MoreItems = Unit {0}
Empty ElsePart = Unit {0}
Empty First = Unit {0}
Empty OptionalExpression = Unit {0}
Empty OptionalSimple = Unit {0}
Empty SimpleRest = Unit {0}
Empty ChoiceRest = Unit {0}
Empty (LevelRest n) = Unit {0}
Empty NameRest = Unit {0}
Empty Arguments = Unit {0}
Empty MoreExpressions = Unit {0}
Empty p = ⊥

abbrev pub EmptyRow : List Part → Type 0
EmptyRow [] = Unit {0}
EmptyRow (A p ∷ ps) = Empty p × EmptyRow ps
EmptyRow (q ∷ ps) = ⊥

abbrev pub Starts : List Part → TokenKind → Type 0
Starts [] k = ⊥
Starts (A p ∷ ps) k = (begins p k ≡ true) ⊎ (Empty p × Starts ps k)
Starts (q ∷ ps) k = Fits q k

-- one of these marks has what each of them has

abbrev pub Each : (Mark → Type 0) → List Mark → Type 0
Each G [] = Unit {0}
Each G (n ∷ ns) = G n × Each G ns

pub each : (G : Mark → Type 0) (ms : List Mark) (m : Mark) → Each G ms → IsOneOf m ms → G m
each G [] m g o = absurd o
each G (n ∷ ns) m g (inl e) = subst G (sym e) g.0
each G (n ∷ ns) m g (inr o) = each G ns m g.1 o

abbrev pub IsOperator : ℕ → Mark → Type 0
IsOperator n m = (strength (kinds.Mark m) ≡ n) × (not (begins_name_rest (kinds.Mark m)) ≡ true)

pub an_operator : (n : ℕ) (m : Mark) → IsOneOf m (operators n) → IsOperator n m
an_operator zero m o = each (IsOperator 0) (operators 0) m ((refl, refl), ((refl, refl), ((refl, refl), tt))) o
an_operator (suc zero) m o = each (IsOperator 1) (operators 1) m ((refl, refl), ((refl, refl), tt)) o
an_operator (suc (suc zero)) m o = each (IsOperator 2) (operators 2) m ((refl, refl), ((refl, refl), tt)) o
an_operator (suc (suc (suc zero))) m o = each (IsOperator 3) (operators 3) m ((refl, refl), ((refl, refl), ((refl, refl), ((refl, refl), tt)))) o
an_operator (suc (suc (suc (suc zero)))) m o = each (IsOperator 4) (operators 4) m ((refl, refl), ((refl, refl), tt)) o
an_operator (suc (suc (suc (suc (suc zero))))) m o = each (IsOperator 5) (operators 5) m ((refl, refl), tt) o
an_operator (suc (suc (suc (suc (suc (suc zero)))))) m o = each (IsOperator 6) (operators 6) m ((refl, refl), tt) o
an_operator (suc (suc (suc (suc (suc (suc (suc zero))))))) m o = each (IsOperator 7) (operators 7) m ((refl, refl), tt) o
an_operator (suc (suc (suc (suc (suc (suc (suc (suc zero)))))))) m o = each (IsOperator 8) (operators 8) m ((refl, refl), tt) o
an_operator (suc (suc (suc (suc (suc (suc (suc (suc (suc zero))))))))) m o = each (IsOperator 9) (operators 9) m ((refl, refl), tt) o
an_operator n m o = absurd o

-- what a production begins with

value_after_name : (k : TokenKind) → begins_value k ≡ true → begins_after_name k ≡ true
value_after_name (kinds.Mark marks.Equal) h = refl
value_after_name (kinds.Mark marks.OpenBracket) h = refl
value_after_name k h = absurd (cc)

comma_after_name : (k : TokenKind) → is_comma k ≡ true → begins_after_name k ≡ true
comma_after_name (kinds.Mark marks.Comma) h = refl
comma_after_name k h = absurd (cc)

int_parameters : (k : TokenKind) → is_int k ≡ true → begins_program k ≡ true
int_parameters (kinds.Keyword words.Int) h = refl
int_parameters k h = absurd (cc)

primary_expression : (k : TokenKind) → begins_primary k ≡ true → begins_expression k ≡ true
primary_expression (kinds.Mark marks.OpenParenthesis) h = refl
primary_expression (kinds.Name x) h = refl
primary_expression (kinds.Number z) h = refl
primary_expression k h = absurd (cc)

expression_simple : (k : TokenKind) → begins_expression k ≡ true → begins_simple k ≡ true
expression_simple (kinds.Mark marks.Minus) h = refl
expression_simple (kinds.Mark marks.Plus) h = refl
expression_simple (kinds.Mark marks.Exclamation) h = refl
expression_simple (kinds.Mark marks.Tilde) h = refl
expression_simple (kinds.Mark marks.OpenParenthesis) h = refl
expression_simple (kinds.Name x) h = refl
expression_simple (kinds.Number z) h = refl
expression_simple k h = absurd (cc)

simple_statement : (k : TokenKind) → begins_simple k ≡ true → begins_statement k ≡ true
simple_statement (kinds.Mark marks.PlusPlus) h = refl
simple_statement (kinds.Mark marks.MinusMinus) h = refl
simple_statement (kinds.Mark marks.Minus) h = refl
simple_statement (kinds.Mark marks.Plus) h = refl
simple_statement (kinds.Mark marks.Exclamation) h = refl
simple_statement (kinds.Mark marks.Tilde) h = refl
simple_statement (kinds.Mark marks.OpenParenthesis) h = refl
simple_statement (kinds.Name x) h = refl
simple_statement (kinds.Number z) h = refl
simple_statement k h = absurd (cc)

brace_statement : (k : TokenKind) → is_brace k ≡ true → begins_statement k ≡ true
brace_statement (kinds.Mark marks.OpenBrace) h = refl
brace_statement k h = absurd (cc)

printf_statement : (k : TokenKind) → is_printf k ≡ true → begins_statement k ≡ true
printf_statement (kinds.Name x) h = refl
printf_statement k h = absurd (cc)

statement_items : (k : TokenKind) → begins_statement k ≡ true → begins_items k ≡ true
statement_items (kinds.Mark marks.OpenBrace) h = refl
statement_items (kinds.Mark marks.Semicolon) h = refl
statement_items (kinds.Keyword words.If) h = refl
statement_items (kinds.Keyword words.While) h = refl
statement_items (kinds.Keyword words.Do) h = refl
statement_items (kinds.Keyword words.For) h = refl
statement_items (kinds.Keyword words.Break) h = refl
statement_items (kinds.Keyword words.Continue) h = refl
statement_items (kinds.Keyword words.Return) h = refl
statement_items (kinds.Mark marks.PlusPlus) h = refl
statement_items (kinds.Mark marks.MinusMinus) h = refl
statement_items (kinds.Mark marks.Minus) h = refl
statement_items (kinds.Mark marks.Plus) h = refl
statement_items (kinds.Mark marks.Exclamation) h = refl
statement_items (kinds.Mark marks.Tilde) h = refl
statement_items (kinds.Mark marks.OpenParenthesis) h = refl
statement_items (kinds.Name x) h = refl
statement_items (kinds.Number z) h = refl
statement_items k h = absurd (cc)

simple_first : (k : TokenKind) → begins_simple k ≡ true → begins_first k ≡ true
simple_first (kinds.Mark marks.PlusPlus) h = refl
simple_first (kinds.Mark marks.MinusMinus) h = refl
simple_first (kinds.Mark marks.Minus) h = refl
simple_first (kinds.Mark marks.Plus) h = refl
simple_first (kinds.Mark marks.Exclamation) h = refl
simple_first (kinds.Mark marks.Tilde) h = refl
simple_first (kinds.Mark marks.OpenParenthesis) h = refl
simple_first (kinds.Name x) h = refl
simple_first (kinds.Number z) h = refl
simple_first k h = absurd (cc)

only : {X Y : Type 0} → X ⊎ (⊥ × Y) → X
only (inl x) = x
only (inr y) = absurd y.0

operator_begins : (n : ℕ) (k : TokenKind) (m : Mark) → IsOneOf m (operators n) → k ≡ kinds.Mark m → begins (LevelRest n) k ≡ true
operator_begins n k m o e =
    let f = an_operator n m o in
    let a : nat_eq (strength (kinds.Mark m)) n ≡ true = eq-eqb (strength (kinds.Mark m)) n f.0 in
    ap (λ (j : TokenKind). nat_eq (strength j) n && not (begins_name_rest j)) e ∙ rw a f.1

pub began : {p : Phrase} {inner : List Part} → Production p inner → (k : TokenKind) → Starts inner k → begins p k ≡ true
began productions.no_definition k h = absurd h
began productions.int_definition k h = ap begins_program h
began productions.void_definition k h = ap begins_program h
began productions.int_function k h = ap begins_after_name h
began productions.globals k (inl h) = value_after_name k h
began productions.globals k (inr (u, inl h)) = comma_after_name k h
began productions.globals k (inr (u, inr (v, h))) = ap begins_after_name h
began productions.global_without k h = absurd h
began productions.global_with k h = ap begins_value h
began productions.global_array k h = ap begins_value h
began productions.number k h = ap begins_signed h.1
began productions.negative k h = ap begins_signed h
began productions.no_more_globals k h = absurd h
began productions.more_globals k h = ap is_comma h
began productions.no_parameter k h = absurd h
began productions.void_parameters k h = ap begins_program h
began productions.parameters k h = int_parameters k (only h)
began productions.parameter k h = ap is_int h
began productions.no_brackets k h = absurd h
began productions.brackets k h = ap is_bracket h
began productions.no_more_parameters k h = absurd h
began productions.more_parameters k h = ap is_comma h
began productions.block k h = ap is_brace h
began productions.no_more_statements k h = absurd h
began productions.declaration k h = ap begins_items h
began productions.one_statement k h = statement_items k (only h)
began productions.item k h = ap is_name h.1
began productions.item_without k h = absurd h
began productions.item_with k h = ap begins_value h
began productions.item_array k h = ap begins_value h
began productions.no_more_items k h = absurd h
began productions.more_items k h = ap is_comma h
began productions.block_statement k h = brace_statement k (only h)
began productions.empty_statement k h = ap begins_statement h
began productions.simple_statement k h = simple_statement k (only h)
began productions.print_statement k h = printf_statement k (only h)
began productions.if_statement k h = ap begins_statement h
began productions.while_statement k h = ap begins_statement h
began productions.do_statement k h = ap begins_statement h
began productions.for_statement k h = ap begins_statement h
began productions.break_statement k h = ap begins_statement h
began productions.continue_statement k h = ap begins_statement h
began productions.return_statement k h = ap begins_statement h
began productions.without_else k h = absurd h
began productions.with_else k h = ap is_else h
began productions.no_first k h = absurd h
began productions.first_declaration k h = ap begins_first h
began productions.first_simple k h = simple_first k (only h)
began productions.no_expression k h = absurd h
began productions.an_expression k h = only h
began productions.no_simple k h = absurd h
began productions.a_simple k h = only h
began productions.print k h = ap is_printf h
began productions.of_expression k h = expression_simple k (only h)
began (productions.step_before {m} o) k h = ap begins_simple h ∙ each (λ m. begins_simple (kinds.Mark m) ≡ true) steps m (refl, (refl, tt)) o
began productions.no_assign k h = absurd h
began (productions.assign {m} o) k h = ap begins_rest h ∙ each (λ m. begins_rest (kinds.Mark m) ≡ true) assigns m (refl, (refl, (refl, (refl, (refl, (refl, (refl, (refl, (refl, (refl, (refl, tt))))))))))) o
began (productions.step_behind {m} o) k h = ap begins_rest h ∙ each (λ m. begins_rest (kinds.Mark m) ≡ true) steps m (refl, (refl, tt)) o
began productions.expression k h = only h
began productions.no_choice k h = absurd h
began productions.choice k h = ap is_question h
began productions.level k h = only h
began productions.no_operator k h = absurd h
began (productions.operator {n} {m} o) k h = operator_begins n k m o h
began (productions.signed {m} o) k h = ap begins_expression h ∙ each (λ m. begins_expression (kinds.Mark m) ≡ true) signs m (refl, (refl, (refl, (refl, tt)))) o
began productions.unsigned k h = primary_expression k (only h)
began productions.a_number k h = ap begins_primary h.1
began productions.a_name k h = ap begins_primary h.1
began productions.in_parentheses k h = ap begins_primary h
began productions.name_alone k h = absurd h
began productions.element k h = ap begins_name_rest h
began productions.call k h = ap begins_name_rest h
began productions.no_argument k h = absurd h
began productions.arguments k h = only h
began productions.no_more_expressions k h = absurd h
began productions.more_expressions k h = ap is_comma h

-- what may be empty

pub emptied : {p : Phrase} {inner : List Part} → Production p inner → EmptyRow inner → Empty p
emptied productions.no_definition e = tt
emptied productions.int_definition e = tt
emptied productions.void_definition e = tt
emptied productions.int_function e = absurd e
emptied productions.globals e = absurd e.1.1
emptied productions.global_without e = tt
emptied productions.global_with e = tt
emptied productions.global_array e = tt
emptied productions.number e = absurd e
emptied productions.negative e = absurd e
emptied productions.no_more_globals e = tt
emptied productions.more_globals e = tt
emptied productions.no_parameter e = tt
emptied productions.void_parameters e = tt
emptied productions.parameters e = tt
emptied productions.parameter e = absurd e
emptied productions.no_brackets e = tt
emptied productions.brackets e = tt
emptied productions.no_more_parameters e = tt
emptied productions.more_parameters e = tt
emptied productions.block e = absurd e
emptied productions.no_more_statements e = tt
emptied productions.declaration e = tt
emptied productions.one_statement e = tt
emptied productions.item e = absurd e
emptied productions.item_without e = tt
emptied productions.item_with e = tt
emptied productions.item_array e = tt
emptied productions.no_more_items e = tt
emptied productions.more_items e = tt
emptied productions.block_statement e = absurd e.0
emptied productions.empty_statement e = absurd e
emptied productions.simple_statement e = absurd e.0
emptied productions.print_statement e = absurd e.0
emptied productions.if_statement e = absurd e
emptied productions.while_statement e = absurd e
emptied productions.do_statement e = absurd e
emptied productions.for_statement e = absurd e
emptied productions.break_statement e = absurd e
emptied productions.continue_statement e = absurd e
emptied productions.return_statement e = absurd e
emptied productions.without_else e = tt
emptied productions.with_else e = tt
emptied productions.no_first e = tt
emptied productions.first_declaration e = tt
emptied productions.first_simple e = tt
emptied productions.no_expression e = tt
emptied productions.an_expression e = tt
emptied productions.no_simple e = tt
emptied productions.a_simple e = tt
emptied productions.print e = absurd e
emptied productions.of_expression e = absurd e.0
emptied (productions.step_before {m} o) e = absurd e
emptied productions.no_assign e = tt
emptied (productions.assign {m} o) e = tt
emptied (productions.step_behind {m} o) e = tt
emptied productions.expression e = absurd e.0
emptied productions.no_choice e = tt
emptied productions.choice e = tt
emptied productions.level e = absurd e.0
emptied productions.no_operator e = tt
emptied (productions.operator {n} {m} o) e = tt
emptied (productions.signed {m} o) e = absurd e
emptied productions.unsigned e = absurd e.0
emptied productions.a_number e = absurd e
emptied productions.a_name e = absurd e
emptied productions.in_parentheses e = absurd e
emptied productions.name_alone e = tt
emptied productions.element e = tt
emptied productions.call e = tt
emptied productions.no_argument e = tt
emptied productions.arguments e = tt
emptied productions.no_more_expressions e = tt
emptied productions.more_expressions e = tt
