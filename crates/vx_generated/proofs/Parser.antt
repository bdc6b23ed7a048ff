-- A parser by the table whose answer is a derivation: where it computes, nothing else is to be proved.
use Rattle.std.proofs.Common.{◌≡◌, ℕ, zero, suc, List, [], ◌∷◌, Option, Some, None, refl, ap}
use Rattle.vx_ast.specs.declared.token.Keyword.{Keyword}
use Rattle.vx_ast.specs.declared.token.Keyword.TheVariants as words
use Rattle.vx_ast.specs.declared.token.Mark.{Mark}
use Rattle.vx_ast.specs.declared.token.Mark.TheVariants as marks
use Rattle.vx_ast.specs.declared.token.TokenKind.{TokenKind}
use Rattle.vx_ast.specs.declared.token.TokenKind.TheVariants as kinds
use Rattle.vx_ast.specs.declared.token.Token.{Token}
use Rattle.vx_ast.specs.Tree.{Row}
use Rattle.vx_ast.specs.Phrases as phrases
use Rattle.vx_ast.specs.Phrases.{Phrase, Part, The, AName, ANumber, AString, A, Fits, Derivation, Leaf, Node, NoMore, Then, Is, parts_of}

pub record Found (parts : List Part) (ts : List Token) : Type 0 where
  pub derivation : Derivation Row
  pub rest : List Token
  pub is : Is parts ts derivation rest

-- of the marks and keywords of generated sources

abbrev pub same_mark : (m n : Mark) → Option (m ≡ n)
same_mark marks.Plus marks.Plus = Some refl
same_mark marks.Minus marks.Minus = Some refl
same_mark marks.Star marks.Star = Some refl
same_mark marks.Slash marks.Slash = Some refl
same_mark marks.Percent marks.Percent = Some refl
same_mark marks.Ampersand marks.Ampersand = Some refl
same_mark marks.Caret marks.Caret = Some refl
same_mark marks.ShiftRight marks.ShiftRight = Some refl
same_mark marks.Less marks.Less = Some refl
same_mark marks.Greater marks.Greater = Some refl
same_mark marks.Equal marks.Equal = Some refl
same_mark marks.PlusPlus marks.PlusPlus = Some refl
same_mark marks.Comma marks.Comma = Some refl
same_mark marks.Semicolon marks.Semicolon = Some refl
same_mark marks.OpenParenthesis marks.OpenParenthesis = Some refl
same_mark marks.CloseParenthesis marks.CloseParenthesis = Some refl
same_mark marks.OpenBracket marks.OpenBracket = Some refl
same_mark marks.CloseBracket marks.CloseBracket = Some refl
same_mark marks.OpenBrace marks.OpenBrace = Some refl
same_mark marks.CloseBrace marks.CloseBrace = Some refl
same_mark m n = None

abbrev pub same_word : (k l : Keyword) → Option (k ≡ l)
same_word words.Int words.Int = Some refl
same_word words.Void words.Void = Some refl
same_word words.If words.If = Some refl
same_word words.Else words.Else = Some refl
same_word words.For words.For = Some refl
same_word words.Return words.Return = Some refl
same_word k l = None

abbrev pub mark_fits : (m n : Mark) → Option (m ≡ n) → Option (kinds.Mark m ≡ kinds.Mark n)
mark_fits m n None = None
mark_fits m n (Some e) = Some (ap (λ (k : Mark). kinds.Mark k) e)

abbrev pub word_fits : (m n : Keyword) → Option (m ≡ n) → Option (kinds.Keyword m ≡ kinds.Keyword n)
word_fits m n None = None
word_fits m n (Some e) = Some (ap (λ (k : Keyword). kinds.Keyword k) e)

abbrev pub fits : (part : Part) (k : TokenKind) → Option (Fits part k)
fits (The (kinds.Mark m)) (kinds.Mark n) = mark_fits n m (same_mark n m)
fits (The (kinds.Keyword m)) (kinds.Keyword n) = word_fits n m (same_word n m)
fits AName (kinds.Name x) = Some (x, refl)
fits ANumber (kinds.Number z) = Some (z, refl)
fits AString (kinds.Text bytes) = Some (bytes, refl)
fits part k = None

abbrev pub Go : Type 0
Go = (parts : List Part) (ts : List Token) → Option (Found parts ts)

abbrev pub finish : (p : Phrase) (inner parts : List Part) (t : Token) (ts : List Token) → parts_of p t.kind ≡ Some inner → (f : Found inner (t ∷ ts)) → Option (Found parts f.rest) → Option (Found (A p ∷ parts) (t ∷ ts))
finish p inner parts t ts e f None = None
finish p inner parts t ts e f (Some g) = Some (record { derivation = Then (Node p f.derivation) g.derivation; rest = g.rest; is = phrases.phrase p inner e f.is g.is })

abbrev pub inside : (p : Phrase) (inner parts : List Part) (t : Token) (ts : List Token) → parts_of p t.kind ≡ Some inner → Option (Found inner (t ∷ ts)) → Go → Option (Found (A p ∷ parts) (t ∷ ts))
inside p inner parts t ts e None go = None
inside p inner parts t ts e (Some f) go = finish p inner parts t ts e f (go parts f.rest)

abbrev pub by_parts : (p : Phrase) (parts : List Part) (t : Token) (ts : List Token) (o : Option (List Part)) → parts_of p t.kind ≡ o → Go → Option (Found (A p ∷ parts) (t ∷ ts))
by_parts p parts t ts None e go = None
by_parts p parts t ts (Some inner) e go = inside p inner parts t ts e (go inner (t ∷ ts)) go

abbrev pub behind : (part : Part) (parts : List Part) (t : Token) (ts : List Token) → Fits part t.kind → Option (Found parts ts) → Option (Found (part ∷ parts) (t ∷ ts))
behind part parts t ts h None = None
behind part parts t ts h (Some g) = Some (record { derivation = Then (Leaf t) g.derivation; rest = g.rest; is = phrases.token h g.is })

abbrev pub by_token : (part : Part) (parts : List Part) (t : Token) (ts : List Token) → Option (Fits part t.kind) → Go → Option (Found (part ∷ parts) (t ∷ ts))
by_token part parts t ts None go = None
by_token part parts t ts (Some h) go = behind part parts t ts h (go parts ts)

abbrev pub by_part : (part : Part) (parts : List Part) (t : Token) (ts : List Token) → Go → Option (Found (part ∷ parts) (t ∷ ts))
by_part (A p) parts t ts go = by_parts p parts t ts (parts_of p t.kind) refl go
by_part part parts t ts go = by_token part parts t ts (fits part t.kind) go

abbrev pub parse : (fuel : ℕ) → Go
parse zero parts ts = None
parse (suc n) [] ts = Some (record { derivation = NoMore; rest = ts; is = phrases.nothing })
parse (suc n) (part ∷ parts) [] = None
parse (suc n) (part ∷ parts) (t ∷ ts) = by_part part parts t ts (λ ps us. parse n ps us)

abbrev pub IsFound : {parts : List Part} {ts : List Token} → Option (Found parts ts) → Type 0
IsFound None = ⊥
IsFound (Some f) = Unit {0}

abbrev pub got : {parts : List Part} {ts : List Token} (o : Option (Found parts ts)) → IsFound o → Found parts ts
got None h = absurd h
got (Some f) h = f
