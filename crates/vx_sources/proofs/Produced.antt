-- What the table of predictions derives, the productions derive.
use Rattle.std.proofs.Common.{◌≡◌, ◌≢◌, ◌<◌, ℕ, zero, suc, Bool, true, false, nat_eq, not, ◌&&◌, ◌||◌, if◌then◌else◌, Option, Some, IfSome, List, [], ◌∷◌, codes, inl, inr, refl, sym, ap, ◌∙◌, subst, arith}
use Rattle.std.specs.List.{list_all}
use Rattle.std.specs.Cmp.Lexicographic.{pointwise, same_text, other_text}
use Rattle.std.proofs.lemmas.Bool.{and_parts, eqb-true, ltb-true}
use Rattle.vx_ast.specs.declared.token.Keyword.TheVariants as words
use Rattle.vx_ast.specs.declared.token.Mark.{Mark}
use Rattle.vx_ast.specs.declared.token.Mark.TheVariants as marks
use Rattle.vx_ast.specs.declared.token.TokenKind.{TokenKind}
use Rattle.vx_ast.specs.declared.token.TokenKind.TheVariants as kinds
use Rattle.vx_ast.specs.declared.token.Token.{Token}
use Rattle.vx_ast.specs.Tree.{Row}
use Rattle.vx_ast.specs.Phrases as phrases
use Rattle.vx_ast.specs.Phrases.{Phrase, Program, AfterName, GlobalValue, SignedNumber, MoreGlobals, Parameters, Parameter, ParameterBrackets, MoreParameters, Block, Items, Item, ItemValue, MoreItems, Statement, ElsePart, First, OptionalExpression, OptionalSimple, Print, Simple, SimpleRest, Expression, ChoiceRest, Level, LevelRest, Primary, NameRest, Arguments, MoreExpressions, Part, The, AName, ANumber, AString, A, Fits, mark, strength, parts_of, Derivation, Is}
use Rattle.vx_parse.specs.Reading.{next_kind}
use Rattle.vx_sources.proofs.Fits.{is_part}
use Rattle.vx_sources.proofs.Rules.{takes, takes_row, leads, rank, is_fine, fine}
use Rattle.vx_sources.specs.Productions as productions
use Rattle.vx_sources.specs.Productions.{IsOneOf, operators, printf, Production, Beside, Produces, nothing, token, phrase}

-- a print stands only where the next token is `printf`

abbrev is_print : Phrase → Bool
is_print Print = true
is_print p = false

abbrev printless : List Part → Bool
printless [] = true
printless (A Print ∷ ps) = false
printless (q ∷ ps) = printless ps

abbrev Fair : List Part → List Token → Type 0
Fair (A Print ∷ ps) ts = (next_kind ts ≡ printf) × (printless ps ≡ true)
Fair ps ts = printless ps ≡ true

printless_fair : (ps : List Part) (ts : List Token) → printless ps ≡ true → Fair ps ts
printless_fair (A Print ∷ ps) ts h = let e : false ≡ true = h in cc
printless_fair ps ts h = h

fair_token : (q : Part) (ps : List Part) (k : TokenKind) (ts : List Token) → Fits q k → Fair (q ∷ ps) ts → printless ps ≡ true
fair_token (The m) ps k ts f h = h
fair_token AName ps k ts f h = h
fair_token ANumber ps k ts f h = h
fair_token AString ps k ts f h = h
fair_token (A p) ps k ts f h = absurd f

fair_phrase : (p : Phrase) (ps : List Part) (ts : List Token) → Fair (A p ∷ ps) ts → (is_print p ≡ true → next_kind ts ≡ printf) × (printless ps ≡ true)
fair_phrase Print ps ts h = ((λ e. h.0), h.1)
fair_phrase p ps ts h = ((λ e. let z : false ≡ true = e in cc), h)

-- the production that a choice of the table is
record Chosen (p : Phrase) (k : TokenKind) (inner : List Part) : Type 0 where
  row : List Part
  production : Production p row
  beside : (here mid : List Token) → next_kind here ≡ k → (inner ≡ [] → next_kind mid ≡ k) → Beside p row here mid
  turn : (here mid : List Token) (d : Derivation Row) → next_kind here ≡ k → Produces inner here d mid → Produces row here d mid
  fair : (here : List Token) → next_kind here ≡ k → Fair inner here

usual : {p : Phrase} {k : TokenKind} {inner : List Part} → Production p inner → ((here mid : List Token) → Beside p inner here mid) → printless inner ≡ true → Chosen p k inner
usual {inner} r b f = record { row = inner; production = r; beside = λ here mid e s. b here mid; turn = λ here mid d e i. i; fair = λ here e. printless_fair inner here f }

-- an operator is one of its strength
record AnOperator (t : TokenKind) : Type 0 where
  mark : Mark
  is : t ≡ kinds.Mark mark
  one : IsOneOf mark (operators (strength t))

operator_in : (t : TokenKind) → strength t < 10 → AnOperator t
operator_in (kinds.Mark marks.Star) h = record { mark = marks.Star; is = refl; one = inl refl }
operator_in (kinds.Mark marks.Slash) h = record { mark = marks.Slash; is = refl; one = inr (inl refl) }
operator_in (kinds.Mark marks.Percent) h = record { mark = marks.Percent; is = refl; one = inr (inr (inl refl)) }
operator_in (kinds.Mark marks.Plus) h = record { mark = marks.Plus; is = refl; one = inl refl }
operator_in (kinds.Mark marks.Minus) h = record { mark = marks.Minus; is = refl; one = inr (inl refl) }
operator_in (kinds.Mark marks.ShiftLeft) h = record { mark = marks.ShiftLeft; is = refl; one = inl refl }
operator_in (kinds.Mark marks.ShiftRight) h = record { mark = marks.ShiftRight; is = refl; one = inr (inl refl) }
operator_in (kinds.Mark marks.Less) h = record { mark = marks.Less; is = refl; one = inl refl }
operator_in (kinds.Mark marks.LessEqual) h = record { mark = marks.LessEqual; is = refl; one = inr (inl refl) }
operator_in (kinds.Mark marks.Greater) h = record { mark = marks.Greater; is = refl; one = inr (inr (inl refl)) }
operator_in (kinds.Mark marks.GreaterEqual) h = record { mark = marks.GreaterEqual; is = refl; one = inr (inr (inr (inl refl))) }
operator_in (kinds.Mark marks.EqualEqual) h = record { mark = marks.EqualEqual; is = refl; one = inl refl }
operator_in (kinds.Mark marks.ExclamationEqual) h = record { mark = marks.ExclamationEqual; is = refl; one = inr (inl refl) }
operator_in (kinds.Mark marks.Ampersand) h = record { mark = marks.Ampersand; is = refl; one = inl refl }
operator_in (kinds.Mark marks.Caret) h = record { mark = marks.Caret; is = refl; one = inl refl }
operator_in (kinds.Mark marks.Bar) h = record { mark = marks.Bar; is = refl; one = inl refl }
operator_in (kinds.Mark marks.AmpersandAmpersand) h = record { mark = marks.AmpersandAmpersand; is = refl; one = inl refl }
operator_in (kinds.Mark marks.BarBar) h = record { mark = marks.BarBar; is = refl; one = inl refl }
operator_in t h = absurd (omega arith)

rest_row : (n : ℕ) (t : TokenKind) → AnOperator t → strength t ≡ n → Chosen (LevelRest n) t (The t ∷ A (Level n) ∷ A (LevelRest n) ∷ [])
rest_row n t x e =
    subst (λ (z : TokenKind). Chosen (LevelRest n) t (The z ∷ A (Level n) ∷ A (LevelRest n) ∷ [])) (sym x.is)
    (usual (productions.operator (subst (λ (m : ℕ). IsOneOf x.mark (operators m)) e x.one)) (λ here mid. tt) refl)

rest_chosen : (n : ℕ) (t : TokenKind) (b : Bool) → nat_eq (strength t) n ≡ b → n < 10 → Chosen (LevelRest n) t (if b then (The t ∷ A (Level n) ∷ A (LevelRest n) ∷ []) else [])
rest_chosen n t true e h = let same : strength t ≡ n = eqb-true (strength t) n e in rest_row n t (operator_in t (omega arith)) same
rest_chosen n t false e h = usual productions.no_operator (λ here mid. tt) refl

other_name : (name : List ℕ) → name ≢ codes "printf" → kinds.Name name ≢ printf
other_name name h e = h (ap bytes e)
  where
    bytes : TokenKind → List ℕ
    bytes (kinds.Name b) = b
    bytes k = []

name_chosen : (name : List ℕ) (b : Bool) → b ≡ pointwise nat_eq name (codes "printf") → Chosen Statement (kinds.Name name) (if b then (A Print ∷ mark marks.Semicolon ∷ []) else (A Simple ∷ mark marks.Semicolon ∷ []))
name_chosen name true e =
    record {
      row = A Print ∷ mark marks.Semicolon ∷ [];
      production = productions.print_statement;
      beside = λ here mid h s. tt;
      turn = λ here mid d h i. i;
      fair = λ here h. (h ∙ ap kinds.Name (same_text name (codes "printf") e), refl);
    }
name_chosen name false e =
    record {
      row = A Simple ∷ mark marks.Semicolon ∷ [];
      production = productions.simple_statement;
      beside = λ here mid h s z. other_name name (other_text name (codes "printf") e) (sym h ∙ z);
      turn = λ here mid d h i. i;
      fair = λ here h. refl;
    }

-- a simple statement that begins with no name
simply : {k : TokenKind} → k ≢ printf → Chosen Statement k (A Simple ∷ mark marks.Semicolon ∷ [])
simply n =
    record {
      row = A Simple ∷ mark marks.Semicolon ∷ [];
      production = productions.simple_statement;
      beside = λ here mid h s z. n (sym h ∙ z);
      turn = λ here mid d h i. i;
      fair = λ here h. refl;
    }

elseless : {k : TokenKind} → k ≢ kinds.Keyword words.Else → Chosen ElsePart k []
elseless n =
    record {
      row = [];
      production = productions.without_else;
      beside = λ here mid h s z. n (sym (s refl) ∙ z);
      turn = λ here mid d h i. i;
      fair = λ here h. refl;
    }

print_row : {ps : List Part} {t : Token} {ts mid : List Token} {d : Derivation Row} → t.kind ≡ printf → Produces (AName ∷ ps) (t ∷ ts) d mid → Produces (The printf ∷ ps) (t ∷ ts) d mid
print_row e (token f i) = token e i

print_turn : (ps : List Part) (here mid : List Token) (d : Derivation Row) → next_kind here ≡ printf → Produces (AName ∷ ps) here d mid → Produces (The printf ∷ ps) here d mid
print_turn ps [] mid d e i = let z = e in absurd (cc)
print_turn ps (t ∷ ts) mid d e i = print_row e i

print_chosen : (k : TokenKind) → k ≡ printf → Chosen Print k (AName ∷ mark marks.OpenParenthesis ∷ phrases.AString ∷ A MoreExpressions ∷ mark marks.CloseParenthesis ∷ [])
print_chosen k e =
    record {
      row = The printf ∷ mark marks.OpenParenthesis ∷ phrases.AString ∷ A MoreExpressions ∷ mark marks.CloseParenthesis ∷ [];
      production = productions.print;
      beside = λ here mid h s. tt;
      turn = λ here mid d h i. print_turn (mark marks.OpenParenthesis ∷ phrases.AString ∷ A MoreExpressions ∷ mark marks.CloseParenthesis ∷ []) here mid d (h ∙ e) i;
      fair = λ here h. refl;
    }

chosen : (p : Phrase) (k : TokenKind) → is_part (A p) ≡ true → (is_print p ≡ true → k ≡ printf) → IfSome (parts_of p k) (λ inner. Chosen p k inner)
unfolding parts_of
chosen Program kinds.End h g = usual productions.no_definition (λ here mid. tt) refl
chosen Program (kinds.Keyword words.Int) h g = usual productions.int_definition (λ here mid. tt) refl
chosen Program (kinds.Keyword words.Void) h g = usual productions.void_definition (λ here mid. tt) refl
chosen Program t h g = tt
chosen AfterName (kinds.Mark marks.OpenParenthesis) h g = usual productions.int_function (λ here mid. tt) refl
chosen AfterName t h g = usual productions.globals (λ here mid. tt) refl
chosen GlobalValue (kinds.Mark marks.Equal) h g = usual productions.global_with (λ here mid. tt) refl
chosen GlobalValue (kinds.Mark marks.OpenBracket) h g = usual productions.global_array (λ here mid. tt) refl
chosen GlobalValue t h g = usual productions.global_without (λ here mid. tt) refl
chosen SignedNumber (kinds.Mark marks.Minus) h g = usual productions.negative (λ here mid. tt) refl
chosen SignedNumber t h g = usual productions.number (λ here mid. tt) refl
chosen MoreGlobals (kinds.Mark marks.Comma) h g = usual productions.more_globals (λ here mid. tt) refl
chosen MoreGlobals t h g = usual productions.no_more_globals (λ here mid. tt) refl
chosen Parameters (kinds.Mark marks.CloseParenthesis) h g = usual productions.no_parameter (λ here mid. tt) refl
chosen Parameters (kinds.Keyword words.Void) h g = usual productions.void_parameters (λ here mid. tt) refl
chosen Parameters t h g = usual productions.parameters (λ here mid. tt) refl
chosen Parameter t h g = usual productions.parameter (λ here mid. tt) refl
chosen ParameterBrackets (kinds.Mark marks.OpenBracket) h g = usual productions.brackets (λ here mid. tt) refl
chosen ParameterBrackets t h g = usual productions.no_brackets (λ here mid. tt) refl
chosen MoreParameters (kinds.Mark marks.Comma) h g = usual productions.more_parameters (λ here mid. tt) refl
chosen MoreParameters t h g = usual productions.no_more_parameters (λ here mid. tt) refl
chosen Block t h g = usual productions.block (λ here mid. tt) refl
chosen Items (kinds.Mark marks.CloseBrace) h g = usual productions.no_more_statements (λ here mid. tt) refl
chosen Items (kinds.Keyword words.Int) h g = usual productions.declaration (λ here mid. tt) refl
chosen Items t h g = usual productions.one_statement (λ here mid. tt) refl
chosen Item t h g = usual productions.item (λ here mid. tt) refl
chosen ItemValue (kinds.Mark marks.Equal) h g = usual productions.item_with (λ here mid. tt) refl
chosen ItemValue (kinds.Mark marks.OpenBracket) h g = usual productions.item_array (λ here mid. tt) refl
chosen ItemValue t h g = usual productions.item_without (λ here mid. tt) refl
chosen MoreItems (kinds.Mark marks.Comma) h g = usual productions.more_items (λ here mid. tt) refl
chosen MoreItems t h g = usual productions.no_more_items (λ here mid. tt) refl
chosen Statement (kinds.Mark marks.OpenBrace) h g = usual productions.block_statement (λ here mid. tt) refl
chosen Statement (kinds.Mark marks.Semicolon) h g = usual productions.empty_statement (λ here mid. tt) refl
chosen Statement (kinds.Mark m) h g = simply (λ e. cc)
chosen Statement (kinds.Keyword words.If) h g = usual productions.if_statement (λ here mid. tt) refl
chosen Statement (kinds.Keyword words.While) h g = usual productions.while_statement (λ here mid. tt) refl
chosen Statement (kinds.Keyword words.Do) h g = usual productions.do_statement (λ here mid. tt) refl
chosen Statement (kinds.Keyword words.For) h g = usual productions.for_statement (λ here mid. tt) refl
chosen Statement (kinds.Keyword words.Break) h g = usual productions.break_statement (λ here mid. tt) refl
chosen Statement (kinds.Keyword words.Continue) h g = usual productions.continue_statement (λ here mid. tt) refl
chosen Statement (kinds.Keyword words.Return) h g = usual productions.return_statement (λ here mid. tt) refl
chosen Statement (kinds.Keyword w) h g = simply (λ e. cc)
chosen Statement (kinds.Name name) h g = name_chosen name (pointwise nat_eq name (codes "printf")) refl
chosen Statement (kinds.Number z) h g = simply (λ e. cc)
chosen Statement (kinds.Text b) h g = simply (λ e. cc)
chosen Statement kinds.End h g = simply (λ e. cc)
chosen ElsePart (kinds.Keyword words.Else) h g = usual productions.with_else (λ here mid. tt) refl
chosen ElsePart (kinds.Keyword w) h g = elseless (λ e. cc)
chosen ElsePart t h g = elseless (λ e. cc)
chosen First (kinds.Mark marks.Semicolon) h g = usual productions.no_first (λ here mid. tt) refl
chosen First (kinds.Keyword words.Int) h g = usual productions.first_declaration (λ here mid. tt) refl
chosen First t h g = usual productions.first_simple (λ here mid. tt) refl
chosen OptionalExpression (kinds.Mark marks.Semicolon) h g = usual productions.no_expression (λ here mid. tt) refl
chosen OptionalExpression t h g = usual productions.an_expression (λ here mid. tt) refl
chosen OptionalSimple (kinds.Mark marks.CloseParenthesis) h g = usual productions.no_simple (λ here mid. tt) refl
chosen OptionalSimple t h g = usual productions.a_simple (λ here mid. tt) refl
chosen Print t h g = print_chosen t (g refl)
chosen Simple (kinds.Mark marks.PlusPlus) h g = usual (productions.step_before (inl refl)) (λ here mid. tt) refl
chosen Simple (kinds.Mark marks.MinusMinus) h g = usual (productions.step_before (inr (inl refl))) (λ here mid. tt) refl
chosen Simple t h g = usual productions.of_expression (λ here mid. tt) refl
chosen SimpleRest (kinds.Mark marks.PlusPlus) h g = usual (productions.step_behind (inl refl)) (λ here mid. tt) refl
chosen SimpleRest (kinds.Mark marks.MinusMinus) h g = usual (productions.step_behind (inr (inl refl))) (λ here mid. tt) refl
chosen SimpleRest (kinds.Mark marks.Equal) h g = usual (productions.assign (inl refl)) (λ here mid. tt) refl
chosen SimpleRest (kinds.Mark marks.PlusEqual) h g = usual (productions.assign (inr (inl refl))) (λ here mid. tt) refl
chosen SimpleRest (kinds.Mark marks.MinusEqual) h g = usual (productions.assign (inr (inr (inl refl)))) (λ here mid. tt) refl
chosen SimpleRest (kinds.Mark marks.StarEqual) h g = usual (productions.assign (inr (inr (inr (inl refl))))) (λ here mid. tt) refl
chosen SimpleRest (kinds.Mark marks.SlashEqual) h g = usual (productions.assign (inr (inr (inr (inr (inl refl)))))) (λ here mid. tt) refl
chosen SimpleRest (kinds.Mark marks.PercentEqual) h g = usual (productions.assign (inr (inr (inr (inr (inr (inl refl))))))) (λ here mid. tt) refl
chosen SimpleRest (kinds.Mark marks.AmpersandEqual) h g = usual (productions.assign (inr (inr (inr (inr (inr (inr (inl refl)))))))) (λ here mid. tt) refl
chosen SimpleRest (kinds.Mark marks.BarEqual) h g = usual (productions.assign (inr (inr (inr (inr (inr (inr (inr (inl refl))))))))) (λ here mid. tt) refl
chosen SimpleRest (kinds.Mark marks.CaretEqual) h g = usual (productions.assign (inr (inr (inr (inr (inr (inr (inr (inr (inl refl)))))))))) (λ here mid. tt) refl
chosen SimpleRest (kinds.Mark marks.ShiftLeftEqual) h g = usual (productions.assign (inr (inr (inr (inr (inr (inr (inr (inr (inr (inl refl))))))))))) (λ here mid. tt) refl
chosen SimpleRest (kinds.Mark marks.ShiftRightEqual) h g = usual (productions.assign (inr (inr (inr (inr (inr (inr (inr (inr (inr (inr (inl refl)))))))))))) (λ here mid. tt) refl
chosen SimpleRest t h g = usual productions.no_assign (λ here mid. tt) refl
chosen Expression t h g = usual productions.expression (λ here mid. tt) refl
chosen ChoiceRest (kinds.Mark marks.Question) h g = usual productions.choice (λ here mid. tt) refl
chosen ChoiceRest t h g = usual productions.no_choice (λ here mid. tt) refl
chosen (Level zero) (kinds.Mark marks.Minus) h g = usual (productions.signed (inl refl)) (λ here mid. tt) refl
chosen (Level zero) (kinds.Mark marks.Plus) h g = usual (productions.signed (inr (inl refl))) (λ here mid. tt) refl
chosen (Level zero) (kinds.Mark marks.Exclamation) h g = usual (productions.signed (inr (inr (inl refl)))) (λ here mid. tt) refl
chosen (Level zero) (kinds.Mark marks.Tilde) h g = usual (productions.signed (inr (inr (inr (inl refl))))) (λ here mid. tt) refl
chosen (Level zero) t h g = usual productions.unsigned (λ here mid. tt) refl
chosen (Level (suc n)) t h g = usual productions.level (λ here mid. tt) refl
chosen (LevelRest n) t h g = rest_chosen n t (nat_eq (strength t) n) refl (ltb-true n 10 h)
chosen Primary (kinds.Number z) h g = usual productions.a_number (λ here mid. tt) refl
chosen Primary (kinds.Name x) h g = usual productions.a_name (λ here mid. tt) refl
chosen Primary (kinds.Mark marks.OpenParenthesis) h g = usual productions.in_parentheses (λ here mid. tt) refl
chosen Primary t h g = tt
chosen NameRest (kinds.Mark marks.OpenBracket) h g = usual productions.element (λ here mid. tt) refl
chosen NameRest (kinds.Mark marks.OpenParenthesis) h g = usual productions.call (λ here mid. tt) refl
chosen NameRest t h g = usual productions.name_alone (λ here mid. tt) refl
chosen Arguments (kinds.Mark marks.CloseParenthesis) h g = usual productions.no_argument (λ here mid. tt) refl
chosen Arguments t h g = usual productions.arguments (λ here mid. tt) refl
chosen MoreExpressions (kinds.Mark marks.Comma) h g = usual productions.more_expressions (λ here mid. tt) refl
chosen MoreExpressions t h g = usual productions.no_more_expressions (λ here mid. tt) refl

choice_of : (p : Phrase) (k : TokenKind) (inner : List Part) → is_part (A p) ≡ true → (is_print p ≡ true → k ≡ printf) → parts_of p k ≡ Some inner → Chosen p k inner
choice_of p k inner h g e = subst (λ (o : Option (List Part)). IfSome o (λ inner. Chosen p k inner)) e (chosen p k h g)

are_parts : (p : Phrase) (k : TokenKind) (inner : List Part) → is_part (A p) ≡ true → parts_of p k ≡ Some inner → list_all is_part inner ≡ true
are_parts p k inner h e = (and_parts (list_all is_part inner) (leads (rank p) inner && (not (takes p) || takes_row inner)) (subst (λ (o : Option (List Part)). IfSome o (λ inner. is_fine p inner ≡ true)) e (fine p k h))).0

empty_stays : {inner : List Part} {ts mid : List Token} {d : Derivation Row} → inner ≡ [] → Produces inner ts d mid → ts ≡ mid
empty_stays e nothing = refl
empty_stays e (token f i) = absurd (cc)
empty_stays e (phrase p row r b i a) = absurd (cc)

produced : {ps : List Part} {ts rest : List Token} {d : Derivation Row} → Is ps ts d rest → list_all is_part ps ≡ true → Fair ps ts → Produces ps ts d rest
produced phrases.nothing h g = nothing
produced (phrases.token {part} {parts} {t} {ts} f i) h g =
    let both = and_parts (is_part part) (list_all is_part parts) h in
    token f (produced i both.1 (printless_fair parts ts (fair_token part parts t.kind (t ∷ ts) f g)))
produced (phrases.phrase p inner {parts} {t} {ts} {mid} {d} k i a) h g =
    let both = and_parts (is_part (A p)) (list_all is_part parts) h in
    let first = fair_phrase p parts (t ∷ ts) g in
    let c = choice_of p t.kind inner both.0 first.0 k in
    let within = produced i (are_parts p t.kind inner both.0 k) (c.fair (t ∷ ts) refl) in
    phrase p c.row c.production (c.beside (t ∷ ts) mid refl (λ e. sym (ap next_kind (empty_stays e within)))) (c.turn (t ∷ ts) mid d refl within) (produced a both.1 (printless_fair parts mid first.1))

pub program_produced : (ts rest : List Token) (d : Derivation Row) → Is (A Program ∷ []) ts d rest → Produces (A Program ∷ []) ts d rest
program_produced ts rest d i = produced i refl refl
