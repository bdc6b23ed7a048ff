-- The rules of the grammar: what they are made of, which phrases begin with which, and which take a token.
use Rattle.std.proofs.Common.{◌≡◌, ◌<◌, ℕ, zero, suc, Bool, true, false, nat_eq, nat_lt, not, ◌&&◌, ◌||◌, if◌then◌else◌, List, [], ◌∷◌, codes, refl, arith, IfSome}
use Rattle.std.specs.List.{list_all}
use Rattle.std.specs.Cmp.Lexicographic.{pointwise}
use Rattle.std.proofs.lemmas.Bool.{eqb-true, lt-ltb, ltb-true}
use Rattle.vx_ast.specs.declared.token.Keyword.TheVariants as words
use Rattle.vx_ast.specs.declared.token.Mark.TheVariants as marks
use Rattle.vx_ast.specs.declared.token.TokenKind.{TokenKind}
use Rattle.vx_ast.specs.declared.token.TokenKind.TheVariants as kinds
use Rattle.vx_ast.specs.Phrases.{Phrase, Program, AfterName, GlobalValue, SignedNumber, MoreGlobals, Parameters, Parameter, ParameterBrackets, MoreParameters, Block, Items, Item, ItemValue, MoreItems, Statement, ElsePart, First, OptionalExpression, OptionalSimple, Print, Simple, SimpleRest, Expression, ChoiceRest, Level, LevelRest, Primary, NameRest, Arguments, MoreExpressions, Part, The, A, mark, strength, parts_of}
use Rattle.vx_sources.proofs.Fits.{is_part}

-- a phrase begins with phrases of lower rank alone, as far as no token is taken
abbrev pub rank : Phrase → ℕ
rank AfterName = 1
rank Parameters = 1
rank (Level n) = suc n
rank Expression = 12
rank Simple = 13
rank OptionalExpression = 13
rank Arguments = 13
rank Statement = 14
rank First = 14
rank OptionalSimple = 14
rank Items = 15
rank p = 0

-- phrases that take a token, where a rule needs that
abbrev pub takes : Phrase → Bool
takes Block = true
takes Statement = true
takes p = false

abbrev pub takes_row : List Part → Bool
takes_row [] = false
takes_row (A p ∷ ps) = takes p || takes_row ps
takes_row (q ∷ ps) = true

-- the phrases that may stand before the first token of parts are below a rank
abbrev pub leads : ℕ → List Part → Bool
leads r [] = true
leads r (A p ∷ ps) = nat_lt (rank p) r && (takes p || leads r ps)
leads r (q ∷ ps) = true

-- what a rule of a phrase owes: its parts are parts, it begins with phrases of lower rank, and it takes a token where the
-- phrase does
abbrev pub is_fine : Phrase → List Part → Bool
is_fine p inner = list_all is_part inner && (leads (rank p) inner && (not (takes p) || takes_row inner))

statement_fine : (b : Bool) → is_fine Statement (if b then (A Print ∷ mark marks.Semicolon ∷ []) else (A Simple ∷ mark marks.Semicolon ∷ [])) ≡ true
statement_fine true = refl
statement_fine false = refl

level_fine : (n : ℕ) → nat_lt (suc n) 11 ≡ true → is_fine (Level (suc n)) (A (Level n) ∷ A (LevelRest n) ∷ []) ≡ true
level_fine n h =
    let small : suc n < 11 = ltb-true (suc n) 11 h in
    let a : nat_lt n 11 ≡ true = lt-ltb n 11 (omega arith) in
    let b : nat_lt n 10 ≡ true = lt-ltb n 10 (omega arith) in
    let c : nat_lt (suc n) (suc (suc n)) ≡ true = lt-ltb (suc n) (suc (suc n)) (omega arith) in
    let d : nat_lt 0 (suc (suc n)) ≡ true = lt-ltb 0 (suc (suc n)) (omega arith) in
    rw a (rw b (rw c (rw d refl)))

-- an operator is no end token
operator_part : (n : ℕ) (t : TokenKind) → strength t ≡ n → n < 10 → is_part (The t) ≡ true
operator_part n (kinds.Mark m) e h = refl
operator_part n (kinds.Keyword w) e h = refl
operator_part n t e h = absurd (omega arith)

rest_fine : (n : ℕ) (t : TokenKind) (b : Bool) → nat_eq (strength t) n ≡ b → nat_lt n 10 ≡ true → is_fine (LevelRest n) (if b then (The t ∷ A (Level n) ∷ A (LevelRest n) ∷ []) else []) ≡ true
rest_fine n t true e h =
    let small : n < 10 = ltb-true n 10 h in
    let a : is_part (The t) ≡ true = operator_part n t (eqb-true (strength t) n e) small in
    let b : nat_lt n 11 ≡ true = lt-ltb n 11 (omega arith) in
    rw a (rw b (rw h refl))
rest_fine n t false e h = refl

pub fine : (p : Phrase) (t : TokenKind) → is_part (A p) ≡ true → IfSome (parts_of p t) (λ inner. is_fine p inner ≡ true)
unfolding parts_of
fine Program kinds.End h = refl
fine Program (kinds.Keyword words.Int) h = refl
fine Program (kinds.Keyword words.Void) h = refl
fine Program t h = tt
fine AfterName (kinds.Mark marks.OpenParenthesis) h = refl
fine AfterName t h = refl
fine GlobalValue (kinds.Mark marks.Equal) h = refl
fine GlobalValue (kinds.Mark marks.OpenBracket) h = refl
fine GlobalValue t h = refl
fine SignedNumber (kinds.Mark marks.Minus) h = refl
fine SignedNumber t h = refl
fine MoreGlobals (kinds.Mark marks.Comma) h = refl
fine MoreGlobals t h = refl
fine Parameters (kinds.Mark marks.CloseParenthesis) h = refl
fine Parameters (kinds.Keyword words.Void) h = refl
fine Parameters t h = refl
fine Parameter t h = refl
fine ParameterBrackets (kinds.Mark marks.OpenBracket) h = refl
fine ParameterBrackets t h = refl
fine MoreParameters (kinds.Mark marks.Comma) h = refl
fine MoreParameters t h = refl
fine Block t h = refl
fine Items (kinds.Mark marks.CloseBrace) h = refl
fine Items (kinds.Keyword words.Int) h = refl
fine Items t h = refl
fine Item t h = refl
fine ItemValue (kinds.Mark marks.Equal) h = refl
fine ItemValue (kinds.Mark marks.OpenBracket) h = refl
fine ItemValue t h = refl
fine MoreItems (kinds.Mark marks.Comma) h = refl
fine MoreItems t h = refl
fine Statement (kinds.Mark marks.OpenBrace) h = refl
fine Statement (kinds.Mark marks.Semicolon) h = refl
fine Statement (kinds.Keyword words.If) h = refl
fine Statement (kinds.Keyword words.While) h = refl
fine Statement (kinds.Keyword words.Do) h = refl
fine Statement (kinds.Keyword words.For) h = refl
fine Statement (kinds.Keyword words.Break) h = refl
fine Statement (kinds.Keyword words.Continue) h = refl
fine Statement (kinds.Keyword words.Return) h = refl
fine Statement (kinds.Name name) h = statement_fine (pointwise nat_eq name (codes "printf"))
fine Statement t h = refl
fine ElsePart (kinds.Keyword words.Else) h = refl
fine ElsePart t h = refl
fine First (kinds.Mark marks.Semicolon) h = refl
fine First (kinds.Keyword words.Int) h = refl
fine First t h = refl
fine OptionalExpression (kinds.Mark marks.Semicolon) h = refl
fine OptionalExpression t h = refl
fine OptionalSimple (kinds.Mark marks.CloseParenthesis) h = refl
fine OptionalSimple t h = refl
fine Print t h = refl
fine Simple (kinds.Mark marks.PlusPlus) h = refl
fine Simple (kinds.Mark marks.MinusMinus) h = refl
fine Simple t h = refl
fine SimpleRest (kinds.Mark marks.PlusPlus) h = refl
fine SimpleRest (kinds.Mark marks.MinusMinus) h = refl
fine SimpleRest (kinds.Mark marks.Equal) h = refl
fine SimpleRest (kinds.Mark marks.PlusEqual) h = refl
fine SimpleRest (kinds.Mark marks.MinusEqual) h = refl
fine SimpleRest (kinds.Mark marks.StarEqual) h = refl
fine SimpleRest (kinds.Mark marks.SlashEqual) h = refl
fine SimpleRest (kinds.Mark marks.PercentEqual) h = refl
fine SimpleRest (kinds.Mark marks.AmpersandEqual) h = refl
fine SimpleRest (kinds.Mark marks.BarEqual) h = refl
fine SimpleRest (kinds.Mark marks.CaretEqual) h = refl
fine SimpleRest (kinds.Mark marks.ShiftLeftEqual) h = refl
fine SimpleRest (kinds.Mark marks.ShiftRightEqual) h = refl
fine SimpleRest t h = refl
fine Expression t h = refl
fine ChoiceRest (kinds.Mark marks.Question) h = refl
fine ChoiceRest t h = refl
fine (Level zero) (kinds.Mark marks.Minus) h = refl
fine (Level zero) (kinds.Mark marks.Plus) h = refl
fine (Level zero) (kinds.Mark marks.Exclamation) h = refl
fine (Level zero) (kinds.Mark marks.Tilde) h = refl
fine (Level zero) t h = refl
fine (Level (suc n)) t h = level_fine n h
fine (LevelRest n) t h = rest_fine n t (nat_eq (strength t) n) refl h
fine Primary (kinds.Number z) h = refl
fine Primary (kinds.Name x) h = refl
fine Primary (kinds.Mark marks.OpenParenthesis) h = refl
fine Primary t h = tt
fine NameRest (kinds.Mark marks.OpenBracket) h = refl
fine NameRest (kinds.Mark marks.OpenParenthesis) h = refl
fine NameRest t h = refl
fine Arguments (kinds.Mark marks.CloseParenthesis) h = refl
fine Arguments t h = refl
fine MoreExpressions (kinds.Mark marks.Comma) h = refl
fine MoreExpressions t h = refl
