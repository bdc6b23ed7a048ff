-- Whether a token is a part that stands for one token.
use Rattle.std.proofs.Common.{◌≡◌, ◌≢◌, ◌⊎◌, inl, inr, ℕ, Bool, true, false, List, [], ◌∷◌, Option, Some, slice_get, nat_eq, nat_lt, refl, sym, ap, ◌∙◌}
use Rattle.std.proofs.lemmas.Bool.Decides.{eqb_tells}
use Rattle.vx_ast.specs.declared.token.Keyword.{Keyword}
use Rattle.vx_ast.specs.declared.token.Keyword.TheVariants as words
use Rattle.vx_ast.specs.declared.token.Mark.{Mark}
use Rattle.vx_ast.specs.declared.token.Mark.TheVariants as marks
use Rattle.vx_ast.specs.declared.token.TokenKind.{TokenKind}
use Rattle.vx_ast.specs.declared.token.TokenKind.TheVariants as kinds
use Rattle.vx_ast.specs.Phrases.{Level, LevelRest, Part, The, AName, ANumber, AString, A, Fits}

-- marks and keywords by their places in a table

abbrev all_marks : List Mark
all_marks = marks.PlusPlus ∷ marks.MinusMinus ∷ marks.PlusEqual ∷ marks.MinusEqual ∷ marks.StarEqual ∷ marks.SlashEqual ∷ marks.PercentEqual ∷ marks.AmpersandEqual ∷ marks.BarEqual ∷ marks.CaretEqual ∷ marks.ShiftLeftEqual ∷ marks.ShiftRightEqual ∷ marks.ShiftLeft ∷ marks.ShiftRight ∷ marks.LessEqual ∷ marks.GreaterEqual ∷ marks.EqualEqual ∷ marks.ExclamationEqual ∷ marks.AmpersandAmpersand ∷ marks.BarBar ∷ marks.Plus ∷ marks.Minus ∷ marks.Star ∷ marks.Slash ∷ marks.Percent ∷ marks.Ampersand ∷ marks.Bar ∷ marks.Caret ∷ marks.Tilde ∷ marks.Exclamation ∷ marks.Less ∷ marks.Greater ∷ marks.Equal ∷ marks.Question ∷ marks.Colon ∷ marks.Comma ∷ marks.Semicolon ∷ marks.OpenParenthesis ∷ marks.CloseParenthesis ∷ marks.OpenBracket ∷ marks.CloseBracket ∷ marks.OpenBrace ∷ marks.CloseBrace ∷ []

abbrev mark_number : Mark → ℕ
mark_number marks.PlusPlus = 0
mark_number marks.MinusMinus = 1
mark_number marks.PlusEqual = 2
mark_number marks.MinusEqual = 3
mark_number marks.StarEqual = 4
mark_number marks.SlashEqual = 5
mark_number marks.PercentEqual = 6
mark_number marks.AmpersandEqual = 7
mark_number marks.BarEqual = 8
mark_number marks.CaretEqual = 9
mark_number marks.ShiftLeftEqual = 10
mark_number marks.ShiftRightEqual = 11
mark_number marks.ShiftLeft = 12
mark_number marks.ShiftRight = 13
mark_number marks.LessEqual = 14
mark_number marks.GreaterEqual = 15
mark_number marks.EqualEqual = 16
mark_number marks.ExclamationEqual = 17
mark_number marks.AmpersandAmpersand = 18
mark_number marks.BarBar = 19
mark_number marks.Plus = 20
mark_number marks.Minus = 21
mark_number marks.Star = 22
mark_number marks.Slash = 23
mark_number marks.Percent = 24
mark_number marks.Ampersand = 25
mark_number marks.Bar = 26
mark_number marks.Caret = 27
mark_number marks.Tilde = 28
mark_number marks.Exclamation = 29
mark_number marks.Less = 30
mark_number marks.Greater = 31
mark_number marks.Equal = 32
mark_number marks.Question = 33
mark_number marks.Colon = 34
mark_number marks.Comma = 35
mark_number marks.Semicolon = 36
mark_number marks.OpenParenthesis = 37
mark_number marks.CloseParenthesis = 38
mark_number marks.OpenBracket = 39
mark_number marks.CloseBracket = 40
mark_number marks.OpenBrace = 41
mark_number marks.CloseBrace = 42

mark_back : (x : Mark) → slice_get all_marks (mark_number x) ≡ Some x
mark_back marks.PlusPlus = refl
mark_back marks.MinusMinus = refl
mark_back marks.PlusEqual = refl
mark_back marks.MinusEqual = refl
mark_back marks.StarEqual = refl
mark_back marks.SlashEqual = refl
mark_back marks.PercentEqual = refl
mark_back marks.AmpersandEqual = refl
mark_back marks.BarEqual = refl
mark_back marks.CaretEqual = refl
mark_back marks.ShiftLeftEqual = refl
mark_back marks.ShiftRightEqual = refl
mark_back marks.ShiftLeft = refl
mark_back marks.ShiftRight = refl
mark_back marks.LessEqual = refl
mark_back marks.GreaterEqual = refl
mark_back marks.EqualEqual = refl
mark_back marks.ExclamationEqual = refl
mark_back marks.AmpersandAmpersand = refl
mark_back marks.BarBar = refl
mark_back marks.Plus = refl
mark_back marks.Minus = refl
mark_back marks.Star = refl
mark_back marks.Slash = refl
mark_back marks.Percent = refl
mark_back marks.Ampersand = refl
mark_back marks.Bar = refl
mark_back marks.Caret = refl
mark_back marks.Tilde = refl
mark_back marks.Exclamation = refl
mark_back marks.Less = refl
mark_back marks.Greater = refl
mark_back marks.Equal = refl
mark_back marks.Question = refl
mark_back marks.Colon = refl
mark_back marks.Comma = refl
mark_back marks.Semicolon = refl
mark_back marks.OpenParenthesis = refl
mark_back marks.CloseParenthesis = refl
mark_back marks.OpenBracket = refl
mark_back marks.CloseBracket = refl
mark_back marks.OpenBrace = refl
mark_back marks.CloseBrace = refl

abbrev all_words : List Keyword
all_words = words.Auto ∷ words.Break ∷ words.Case ∷ words.Char ∷ words.Const ∷ words.Continue ∷ words.Default ∷ words.Do ∷ words.Double ∷ words.Else ∷ words.Enum ∷ words.Extern ∷ words.Float ∷ words.For ∷ words.Goto ∷ words.If ∷ words.Int ∷ words.Long ∷ words.Register ∷ words.Return ∷ words.Short ∷ words.Signed ∷ words.Sizeof ∷ words.Static ∷ words.Struct ∷ words.Switch ∷ words.Typedef ∷ words.Union ∷ words.Unsigned ∷ words.Void ∷ words.Volatile ∷ words.While ∷ []

abbrev word_number : Keyword → ℕ
word_number words.Auto = 0
word_number words.Break = 1
word_number words.Case = 2
word_number words.Char = 3
word_number words.Const = 4
word_number words.Continue = 5
word_number words.Default = 6
word_number words.Do = 7
word_number words.Double = 8
word_number words.Else = 9
word_number words.Enum = 10
word_number words.Extern = 11
word_number words.Float = 12
word_number words.For = 13
word_number words.Goto = 14
word_number words.If = 15
word_number words.Int = 16
word_number words.Long = 17
word_number words.Register = 18
word_number words.Return = 19
word_number words.Short = 20
word_number words.Signed = 21
word_number words.Sizeof = 22
word_number words.Static = 23
word_number words.Struct = 24
word_number words.Switch = 25
word_number words.Typedef = 26
word_number words.Union = 27
word_number words.Unsigned = 28
word_number words.Void = 29
word_number words.Volatile = 30
word_number words.While = 31

word_back : (x : Keyword) → slice_get all_words (word_number x) ≡ Some x
word_back words.Auto = refl
word_back words.Break = refl
word_back words.Case = refl
word_back words.Char = refl
word_back words.Const = refl
word_back words.Continue = refl
word_back words.Default = refl
word_back words.Do = refl
word_back words.Double = refl
word_back words.Else = refl
word_back words.Enum = refl
word_back words.Extern = refl
word_back words.Float = refl
word_back words.For = refl
word_back words.Goto = refl
word_back words.If = refl
word_back words.Int = refl
word_back words.Long = refl
word_back words.Register = refl
word_back words.Return = refl
word_back words.Short = refl
word_back words.Signed = refl
word_back words.Sizeof = refl
word_back words.Static = refl
word_back words.Struct = refl
word_back words.Switch = refl
word_back words.Typedef = refl
word_back words.Union = refl
word_back words.Unsigned = refl
word_back words.Void = refl
word_back words.Volatile = refl
word_back words.While = refl

same_some : {T : Type 0} {x y : T} {o : Option T} → o ≡ Some x → o ≡ Some y → x ≡ y
same_some p q = let e = sym p ∙ q in cc

by_number : {T : Type 0} (number : T → ℕ) (all : List T) → ((x : T) → slice_get all (number x) ≡ Some x) → (x y : T) → (x ≡ y) ⊎ (x ≡ y → ⊥)
by_number {T} number all back x y = split (eqb_tells (number x) (number y))
  where
    split : ((nat_eq (number x) (number y) ≡ true) × (number x ≡ number y)) ⊎ ((nat_eq (number x) (number y) ≡ false) × (number x ≢ number y)) → (x ≡ y) ⊎ (x ≡ y → ⊥)
    split (inl h) = inl (same_some (back x) (ap (slice_get all) h.1 ∙ back y))
    split (inr h) = inr (λ e. h.1 (ap number e))

same_mark : (x y : Mark) → (x ≡ y) ⊎ (x ≡ y → ⊥)
same_mark = by_number mark_number all_marks mark_back

same_word : (x y : Keyword) → (x ≡ y) ⊎ (x ≡ y → ⊥)
same_word = by_number word_number all_words word_back

-- parts that rules are made of: marks and keywords, names, numbers, strings, and phrases, operators of a strength that there is
abbrev pub is_part : Part → Bool
is_part (The (kinds.Mark m)) = true
is_part (The (kinds.Keyword w)) = true
is_part (The k) = false
is_part (A (Level n)) = nat_lt n 11
is_part (A (LevelRest n)) = nat_lt n 10
is_part q = true

if_mark : {x y : Mark} → (x ≡ y) ⊎ (x ≡ y → ⊥) → Fits (The (kinds.Mark y)) (kinds.Mark x) ⊎ (Fits (The (kinds.Mark y)) (kinds.Mark x) → ⊥)
if_mark (inl e) = inl (ap kinds.Mark e)
if_mark (inr n) = inr (λ e. n (let h = e in cc))

if_word : {x y : Keyword} → (x ≡ y) ⊎ (x ≡ y → ⊥) → Fits (The (kinds.Keyword y)) (kinds.Keyword x) ⊎ (Fits (The (kinds.Keyword y)) (kinds.Keyword x) → ⊥)
if_word (inl e) = inl (ap kinds.Keyword e)
if_word (inr n) = inr (λ e. n (let h = e in cc))

pub fits_or_not : (q : Part) (k : TokenKind) → is_part q ≡ true → Fits q k ⊎ (Fits q k → ⊥)
fits_or_not (The (kinds.Mark m)) (kinds.Mark x) h = if_mark (same_mark x m)
fits_or_not (The (kinds.Mark m)) k h = inr (λ e. cc)
fits_or_not (The (kinds.Keyword w)) (kinds.Keyword x) h = if_word (same_word x w)
fits_or_not (The (kinds.Keyword w)) k h = inr (λ e. cc)
fits_or_not (The z) k h = let e : false ≡ true = h in cc
fits_or_not AName (kinds.Name b) h = inl (b, refl)
fits_or_not AName k h = inr (λ f. let e = f.1 in cc)
fits_or_not ANumber (kinds.Number z) h = inl (z, refl)
fits_or_not ANumber k h = inr (λ f. let e = f.1 in cc)
fits_or_not AString (kinds.Text b) h = inl (b, refl)
fits_or_not AString k h = inr (λ f. let e = f.1 in cc)
fits_or_not (A p) k h = inr (λ f. f)

-- such a part is no end token
pub no_end : (q : Part) (k : TokenKind) → is_part q ≡ true → Fits q k → k ≢ kinds.End
no_end (The (kinds.Mark m)) k h f e = cc
no_end (The (kinds.Keyword w)) k h f e = cc
no_end (The z) k h f e = let i : false ≡ true = h in cc
no_end AName k h f e = let i = f.1 in cc
no_end ANumber k h f e = let i = f.1 in cc
no_end AString k h f e = let i = f.1 in cc
no_end (A p) k h f e = f
