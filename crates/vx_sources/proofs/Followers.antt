-- The tokens that may stand behind phrases of the grammar.
use Rattle.std.proofs.Common.{◌≡◌, ◌⊎◌, inl, inr, ◌<◌, ℕ, zero, suc, Bool, true, false, nat_eq, nat_lt, not, ◌&&◌, List, [], ◌∷◌, refl, ap, arith}
use Rattle.std.proofs.lemmas.Bool.{and_parts, eqb-true, ltb-true, lt-ltb}
use Rattle.vx_ast.specs.declared.token.Mark.TheVariants as marks
use Rattle.vx_ast.specs.declared.token.TokenKind.{TokenKind}
use Rattle.vx_ast.specs.declared.token.TokenKind.TheVariants as kinds
use Rattle.vx_ast.specs.Phrases.{Phrase, Program, GlobalValue, MoreGlobals, Parameters, Parameter, ParameterBrackets, MoreParameters, Items, Item, ItemValue, MoreItems, First, OptionalExpression, OptionalSimple, Simple, SimpleRest, Expression, ChoiceRest, Level, LevelRest, Primary, NameRest, Arguments, MoreExpressions, Part, A, mark, strength}
use Rattle.vx_sources.specs.Productions as productions
use Rattle.vx_sources.specs.Productions.{Production}
use Rattle.vx_sources.proofs.Firsts.{EmptyRow, Starts, begins, begins_name_rest, begins_rest, begins_value, is_bracket, is_comma, is_question}

-- the tokens that may stand behind a phrase

abbrev pub ends_expression : TokenKind → Bool
ends_expression k = nat_lt 9 (strength k) && (not (begins_name_rest k) && not (is_question k))

abbrev pub is_end : TokenKind → Bool
is_end kinds.End = true
is_end k = false

abbrev pub is_semicolon : TokenKind → Bool
is_semicolon (kinds.Mark marks.Semicolon) = true
is_semicolon k = false

abbrev pub closes : TokenKind → Bool
closes (kinds.Mark marks.CloseParenthesis) = true
closes k = false

abbrev pub closes_block : TokenKind → Bool
closes_block (kinds.Mark marks.CloseBrace) = true
closes_block k = false

abbrev pub ends : Phrase → TokenKind → Bool
ends Program k = is_end k
ends GlobalValue k = not (begins_value k)
ends MoreGlobals k = not (begins_value k) && not (is_comma k)
ends Parameters k = closes k
ends Parameter k = not (is_bracket k)
ends ParameterBrackets k = not (is_bracket k)
ends MoreParameters k = not (is_bracket k) && not (is_comma k)
ends Items k = closes_block k
ends Item k = ends_expression k && not (begins_value k)
ends ItemValue k = ends_expression k && not (begins_value k)
ends MoreItems k = (ends_expression k && not (begins_value k)) && not (is_comma k)
ends First k = is_semicolon k
ends OptionalExpression k = is_semicolon k
ends OptionalSimple k = closes k
ends Simple k = ends_expression k && not (begins_rest k)
ends SimpleRest k = ends_expression k && not (begins_rest k)
ends Expression k = ends_expression k
ends ChoiceRest k = ends_expression k
ends (Level zero) k = not (begins_name_rest k)
ends (Level (suc n)) k = nat_lt n (strength k) && not (begins_name_rest k)
ends (LevelRest n) k = nat_lt n (strength k) && not (begins_name_rest k)
ends Primary k = not (begins_name_rest k)
ends NameRest k = not (begins_name_rest k)
ends Arguments k = closes k
ends MoreExpressions k = ends_expression k && not (is_comma k)
ends p k = true

abbrev pub Ends : List Part → TokenKind → Type 0
Ends [] k = Unit {0}
Ends (A p ∷ ps) k = ((j : TokenKind) → Starts ps j → ends p j ≡ true) × ((EmptyRow ps → ends p k ≡ true) × Ends ps k)
Ends (q ∷ ps) k = Ends ps k

-- what stands behind the parts of a production

comma_value : (k : TokenKind) → is_comma k ≡ true → not (begins_value k) ≡ true
comma_value (kinds.Mark marks.Comma) h = refl
comma_value k h = absurd (cc)

comma_parameter : (k : TokenKind) → is_comma k ≡ true → not (is_bracket k) ≡ true
comma_parameter (kinds.Mark marks.Comma) h = refl
comma_parameter k h = absurd (cc)

close_parameter : (k : TokenKind) → closes k ≡ true → not (is_bracket k) ≡ true
close_parameter (kinds.Mark marks.CloseParenthesis) h = refl
close_parameter k h = absurd (cc)

close_parameters : (k : TokenKind) → closes k ≡ true → ends MoreParameters k ≡ true
close_parameters (kinds.Mark marks.CloseParenthesis) h = refl
close_parameters k h = absurd (cc)

comma_item : (k : TokenKind) → is_comma k ≡ true → ends Item k ≡ true
comma_item (kinds.Mark marks.Comma) h = refl
comma_item k h = absurd (cc)

semicolon_item : (k : TokenKind) → is_semicolon k ≡ true → ends Item k ≡ true
semicolon_item (kinds.Mark marks.Semicolon) h = refl
semicolon_item k h = absurd (cc)

semicolon_items : (k : TokenKind) → is_semicolon k ≡ true → ends MoreItems k ≡ true
semicolon_items (kinds.Mark marks.Semicolon) h = refl
semicolon_items k h = absurd (cc)

semicolon_simple : (k : TokenKind) → is_semicolon k ≡ true → ends Simple k ≡ true
semicolon_simple (kinds.Mark marks.Semicolon) h = refl
semicolon_simple k h = absurd (cc)

semicolon_expression : (k : TokenKind) → is_semicolon k ≡ true → ends_expression k ≡ true
semicolon_expression (kinds.Mark marks.Semicolon) h = refl
semicolon_expression k h = absurd (cc)

close_simple : (k : TokenKind) → closes k ≡ true → ends Simple k ≡ true
close_simple (kinds.Mark marks.CloseParenthesis) h = refl
close_simple k h = absurd (cc)

close_expression : (k : TokenKind) → closes k ≡ true → ends_expression k ≡ true
close_expression (kinds.Mark marks.CloseParenthesis) h = refl
close_expression k h = absurd (cc)

close_expressions : (k : TokenKind) → closes k ≡ true → ends MoreExpressions k ≡ true
close_expressions (kinds.Mark marks.CloseParenthesis) h = refl
close_expressions k h = absurd (cc)

comma_expression : (k : TokenKind) → is_comma k ≡ true → ends_expression k ≡ true
comma_expression (kinds.Mark marks.Comma) h = refl
comma_expression k h = absurd (cc)

question_level : (k : TokenKind) → is_question k ≡ true → ends (Level 10) k ≡ true
question_level (kinds.Mark marks.Question) h = refl
question_level k h = absurd (cc)

rest_expression : (k : TokenKind) → begins_rest k ≡ true → ends_expression k ≡ true
rest_expression (kinds.Mark marks.PlusPlus) h = refl
rest_expression (kinds.Mark marks.MinusMinus) h = refl
rest_expression (kinds.Mark marks.Equal) h = refl
rest_expression (kinds.Mark marks.PlusEqual) h = refl
rest_expression (kinds.Mark marks.MinusEqual) h = refl
rest_expression (kinds.Mark marks.StarEqual) h = refl
rest_expression (kinds.Mark marks.SlashEqual) h = refl
rest_expression (kinds.Mark marks.PercentEqual) h = refl
rest_expression (kinds.Mark marks.AmpersandEqual) h = refl
rest_expression (kinds.Mark marks.BarEqual) h = refl
rest_expression (kinds.Mark marks.CaretEqual) h = refl
rest_expression (kinds.Mark marks.ShiftLeftEqual) h = refl
rest_expression (kinds.Mark marks.ShiftRightEqual) h = refl
rest_expression k h = absurd (cc)

expression_apart : (k : TokenKind) → ends_expression k ≡ true → not (begins_name_rest k) ≡ true
expression_apart k h =
    let a = and_parts (nat_lt 9 (strength k)) (not (begins_name_rest k) && not (is_question k)) h in (and_parts (not (begins_name_rest k)) (not (is_question k)) a.1).0

expression_level : (k : TokenKind) → ends_expression k ≡ true → ends (Level 10) k ≡ true
expression_level k h = let a = and_parts (nat_lt 9 (strength k)) (not (begins_name_rest k) && not (is_question k)) h in rw a.0 (rw (expression_apart k h) refl)

rest_level : (n : ℕ) (k : TokenKind) → begins (LevelRest n) k ≡ true → ends (Level n) k ≡ true
rest_level zero k h = (and_parts (nat_eq (strength k) 0) (not (begins_name_rest k)) h).1
rest_level (suc n) k h =
    let a = and_parts (nat_eq (strength k) (suc n)) (not (begins_name_rest k)) h in
    let b : strength k ≡ suc n = eqb-true (strength k) (suc n) a.0 in
    let c : nat_lt n (strength k) ≡ true = lt-ltb n (strength k) (omega arith) in
    rw c (rw a.1 refl)

lower_level : (n : ℕ) (k : TokenKind) → ends (LevelRest n) k ≡ true → ends (Level n) k ≡ true
lower_level zero k h = (and_parts (nat_lt 0 (strength k)) (not (begins_name_rest k)) h).1
lower_level (suc n) k h =
    let a = and_parts (nat_lt (suc n) (strength k)) (not (begins_name_rest k)) h in
    let b : suc n < strength k = ltb-true (suc n) (strength k) a.0 in
    let c : nat_lt n (strength k) ≡ true = lt-ltb n (strength k) (omega arith) in
    rw c (rw a.1 refl)

alone : {X Y : Type 0} → X ⊎ (Y × ⊥) → X
alone (inl x) = x
alone (inr y) = absurd y.1

globals_end : (j : TokenKind) → Starts (A MoreGlobals ∷ mark marks.Semicolon ∷ []) j → not (begins_value j) ≡ true
globals_end j (inl h) = comma_value j h
globals_end j (inr (u, e)) = ap (λ k. not (begins_value k)) e

items_end : (ps : List Part) (j : TokenKind) → Starts (A MoreItems ∷ mark marks.Semicolon ∷ ps) j → ends Item j ≡ true
items_end ps j (inl h) = comma_item j h
items_end ps j (inr (u, e)) = ap (ends Item) e

first_part : (x y : Bool) → (x && y) ≡ true → x ≡ true
first_part x y h = (and_parts x y h).0

pub followed : {p : Phrase} {inner : List Part} → Production p inner → (k : TokenKind) → ends p k ≡ true → Ends inner k
followed productions.no_definition k h = tt
followed productions.int_definition k h = ((λ j s. refl), ((λ e. refl), ((λ j s. absurd s), ((λ e. h), tt))))
followed productions.void_definition k h = ((λ j s. ap closes s), ((λ e. absurd e), ((λ j s. refl), ((λ e. refl), ((λ j s. absurd s), ((λ e. h), tt))))))
followed productions.int_function k h = ((λ j s. ap closes s), ((λ e. absurd e), (((λ j s. absurd s), ((λ e. refl), tt)))))
followed productions.globals k h = ((λ j s. globals_end j s), ((λ e. absurd e.1), (((λ j s. ap (ends MoreGlobals) s), ((λ e. absurd e), tt)))))
followed productions.global_without k h = tt
followed productions.global_with k h = ((λ j s. absurd s), ((λ e. refl), tt))
followed productions.global_array k h = tt
followed productions.number k h = tt
followed productions.negative k h = tt
followed productions.no_more_globals k h = tt
followed productions.more_globals k h = ((λ j s. comma_value j (alone s)), ((λ e. first_part (not (begins_value k)) (not (is_comma k)) h), ((λ j s. absurd s), ((λ e. h), tt))))
followed productions.no_parameter k h = tt
followed productions.void_parameters k h = tt
followed productions.parameters k h = ((λ j s. comma_parameter j (alone s)), ((λ e. close_parameter k h), ((λ j s. absurd s), ((λ e. close_parameters k h), tt))))
followed productions.parameter k h = ((λ j s. absurd s), ((λ e. h), tt))
followed productions.no_brackets k h = tt
followed productions.brackets k h = tt
followed productions.no_more_parameters k h = tt
followed productions.more_parameters k h = ((λ j s. comma_parameter j (alone s)), ((λ e. first_part (not (is_bracket k)) (not (is_comma k)) h), ((λ j s. absurd s), ((λ e. h), tt))))
followed productions.block k h = ((λ j s. ap closes_block s), ((λ e. absurd e), tt))
followed productions.no_more_statements k h = tt
followed productions.declaration k h = ((λ j s. items_end (A Items ∷ []) j s), ((λ e. absurd e.1), (((λ j s. ap (ends MoreItems) s), ((λ e. absurd e), (((λ j s. absurd s), ((λ e. h), tt))))))))
followed productions.one_statement k h = ((λ j s. refl), ((λ e. refl), ((λ j s. absurd s), ((λ e. h), tt))))
followed productions.item k h = ((λ j s. absurd s), ((λ e. h), tt))
followed productions.item_without k h = tt
followed productions.item_with k h = ((λ j s. absurd s), ((λ e. first_part (ends_expression k) (not (begins_value k)) h), tt))
followed productions.item_array k h = tt
followed productions.no_more_items k h = tt
followed productions.more_items k h = ((λ j s. comma_item j (alone s)), ((λ e. first_part (ends_expression k && not (begins_value k)) (not (is_comma k)) h), ((λ j s. absurd s), ((λ e. h), tt))))
followed productions.block_statement k h = ((λ j s. absurd s), ((λ e. refl), tt))
followed productions.empty_statement k h = tt
followed productions.simple_statement k h = ((λ j s. ap (ends Simple) s), ((λ e. absurd e), tt))
followed productions.print_statement k h = ((λ j s. refl), ((λ e. absurd e), tt))
followed productions.if_statement k h = ((λ j s. ap ends_expression s), ((λ e. absurd e), (((λ j s. refl), ((λ e. refl), ((λ j s. absurd s), ((λ e. refl), tt)))))))
followed productions.while_statement k h = ((λ j s. ap ends_expression s), ((λ e. absurd e), (((λ j s. absurd s), ((λ e. refl), tt)))))
followed productions.do_statement k h = ((λ j s. refl), ((λ e. absurd e), (((λ j s. ap ends_expression s), ((λ e. absurd e), tt)))))
followed productions.for_statement k h = ((λ j s. ap is_semicolon s), ((λ e. absurd e), (((λ j s. ap is_semicolon s), ((λ e. absurd e), (((λ j s. ap closes s), ((λ e. absurd e), (((λ j s. absurd s), ((λ e. refl), tt)))))))))))
followed productions.break_statement k h = tt
followed productions.continue_statement k h = tt
followed productions.return_statement k h = ((λ j s. ap is_semicolon s), ((λ e. absurd e), tt))
followed productions.without_else k h = tt
followed productions.with_else k h = ((λ j s. absurd s), ((λ e. refl), tt))
followed productions.no_first k h = tt
followed productions.first_declaration k h = ((λ j s. comma_item j (alone s)), ((λ e. semicolon_item k h), ((λ j s. absurd s), ((λ e. semicolon_items k h), tt))))
followed productions.first_simple k h = ((λ j s. absurd s), ((λ e. semicolon_simple k h), tt))
followed productions.no_expression k h = tt
followed productions.an_expression k h = ((λ j s. absurd s), ((λ e. semicolon_expression k h), tt))
followed productions.no_simple k h = tt
followed productions.a_simple k h = ((λ j s. absurd s), ((λ e. close_simple k h), tt))
followed productions.print k h = ((λ j s. ap (ends MoreExpressions) s), ((λ e. absurd e), tt))
followed productions.of_expression k h = ((λ j s. rest_expression j (alone s)), ((λ e. first_part (ends_expression k) (not (begins_rest k)) h), ((λ j s. absurd s), ((λ e. h), tt))))
followed (productions.step_before o) k h = ((λ j s. absurd s), ((λ e. expression_apart k (first_part (ends_expression k) (not (begins_rest k)) h)), tt))
followed productions.no_assign k h = tt
followed (productions.assign o) k h = ((λ j s. absurd s), ((λ e. first_part (ends_expression k) (not (begins_rest k)) h), tt))
followed (productions.step_behind o) k h = tt
followed productions.expression k h = ((λ j s. question_level j (alone s)), ((λ e. expression_level k h), ((λ j s. absurd s), ((λ e. h), tt))))
followed productions.no_choice k h = tt
followed productions.choice k h = ((λ j s. ap ends_expression s), ((λ e. absurd e), (((λ j s. absurd s), ((λ e. h), tt)))))
followed (productions.level {n}) k h = ((λ j s. rest_level n j (alone s)), ((λ e. lower_level n k h), ((λ j s. absurd s), ((λ e. h), tt))))
followed productions.no_operator k h = tt
followed (productions.operator {n} o) k h = ((λ j s. rest_level n j (alone s)), ((λ e. lower_level n k h), ((λ j s. absurd s), ((λ e. h), tt))))
followed (productions.signed o) k h = ((λ j s. absurd s), ((λ e. h), tt))
followed productions.unsigned k h = ((λ j s. absurd s), ((λ e. h), tt))
followed productions.a_number k h = tt
followed productions.a_name k h = ((λ j s. absurd s), ((λ e. h), tt))
followed productions.in_parentheses k h = ((λ j s. ap ends_expression s), ((λ e. absurd e), tt))
followed productions.name_alone k h = tt
followed productions.element k h = ((λ j s. ap ends_expression s), ((λ e. absurd e), tt))
followed productions.call k h = ((λ j s. ap closes s), ((λ e. absurd e), tt))
followed productions.no_argument k h = tt
followed productions.arguments k h = ((λ j s. comma_expression j (alone s)), ((λ e. close_expression k h), ((λ j s. absurd s), ((λ e. close_expressions k h), tt))))
followed productions.no_more_expressions k h = tt
followed productions.more_expressions k h = ((λ j s. comma_expression j (alone s)), ((λ e. first_part (ends_expression k) (not (is_comma k)) h), ((λ j s. absurd s), ((λ e. h), tt))))
