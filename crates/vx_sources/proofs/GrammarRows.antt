-- Worked rows: productions and the rules beside them, and fronts of programs.
use Rattle.std.proofs.Common.{◌≡◌, inl, List, [], ◌∷◌, codes, refl, pos}
use Rattle.vx_ast.specs.declared.token.Keyword.TheVariants as words
use Rattle.vx_ast.specs.declared.token.Mark.TheVariants as marks
use Rattle.vx_ast.specs.declared.token.TokenKind.TheVariants as kinds
use Rattle.vx_ast.specs.declared.token.Token.{Token}
use Rattle.vx_ast.specs.Tree.{Row}
use Rattle.vx_ast.specs.Phrases as phrases
use Rattle.vx_ast.specs.Phrases.{Program, AfterName, GlobalValue, MoreGlobals, Parameters, Parameter, ParameterBrackets, MoreParameters, Block, Items, Statement, ElsePart, Simple, Level, Primary, A, mark, parts_of, Derivation, Leaf, Node, NoMore, Then, Is, Stuck, IsProgram, Unexpected}
use Rattle.vx_parse.proofs.Fills.{a_token}
use Rattle.vx_sources.specs.Productions as productions
use Rattle.vx_sources.specs.Productions.{operators, printf, Beside, Produces, nothing, token, phrase}
use Rattle.vx_sources.specs.Fronts.{IsFront}

-- `* / %` are the strongest, `||` the weakest, and there is none behind it
strongest : operators 0 ≡ marks.Star ∷ marks.Slash ∷ marks.Percent ∷ []
strongest = refl

weakest : operators 9 ≡ marks.BarBar ∷ []
weakest = refl

no_weaker : operators 10 ≡ []
no_weaker = refl

-- `- 1`
abbrev minus_one : List Token
minus_one = a_token (kinds.Mark marks.Minus) ∷ a_token (kinds.Number (pos 1)) ∷ []

abbrev of_minus_one : Derivation Row
of_minus_one =
    Then (Node (Level 0) (Then (Leaf (a_token (kinds.Mark marks.Minus))) (Then (Node (Level 0) (Then (Node Primary (Then (Leaf (a_token (kinds.Number (pos 1)))) NoMore)) NoMore)) NoMore))) NoMore

negated : Produces (A (Level 0) ∷ []) minus_one of_minus_one []
negated =
    phrase (Level 0) (mark marks.Minus ∷ A (Level 0) ∷ []) (productions.signed (inl refl)) tt
    (token refl (phrase (Level 0) (A Primary ∷ []) productions.unsigned tt (phrase Primary (phrases.ANumber ∷ []) productions.a_number tt (token (pos 1, refl) nothing) nothing) nothing)) nothing

-- an `if` ends without `else` before `}`, and not before `else`
before_brace : Beside ElsePart [] [] (a_token (kinds.Mark marks.CloseBrace) ∷ [])
before_brace e = cc

before_else : Beside ElsePart [] [] (a_token (kinds.Keyword words.Else) ∷ []) → ⊥
before_else h = h refl

-- no simple statement begins with `printf`, and one may begin with another name
not_simple : Beside Statement (A Simple ∷ mark marks.Semicolon ∷ []) (a_token printf ∷ []) [] → ⊥
not_simple h = h refl

-- the program `int a;`
abbrev int_a : List Token
int_a = a_token (kinds.Keyword words.Int) ∷ a_token (kinds.Name (codes "a")) ∷ a_token (kinds.Mark marks.Semicolon) ∷ a_token kinds.End ∷ []

abbrev of_int_a : Derivation Row
of_int_a =
    Then (Node Program (Then (Leaf (a_token (kinds.Keyword words.Int))) (Then (Leaf (a_token (kinds.Name (codes "a"))))
    (Then (Node AfterName (Then (Node GlobalValue NoMore) (Then (Node MoreGlobals NoMore) (Then (Leaf (a_token (kinds.Mark marks.Semicolon))) NoMore)))) (Then (Node Program NoMore) NoMore))))) NoMore

a_global : Produces (A Program ∷ []) int_a of_int_a (a_token kinds.End ∷ [])
a_global =
    phrase Program _ productions.int_definition tt
    (token refl (token (codes "a", refl) (phrase AfterName _ productions.globals tt (phrase GlobalValue _ productions.global_without tt nothing (phrase MoreGlobals _ productions.no_more_globals tt nothing (token refl nothing)))
    (phrase Program _ productions.no_definition tt nothing nothing)))) nothing

by_the_table : Is (A Program ∷ []) int_a of_int_a (a_token kinds.End ∷ [])
unfolding parts_of
by_the_table =
    phrases.phrase Program _ refl
    (phrases.token refl (phrases.token (codes "a", refl) (phrases.phrase AfterName _ refl (phrases.phrase GlobalValue _ refl phrases.nothing (phrases.phrase MoreGlobals _ refl phrases.nothing (phrases.token refl phrases.nothing)))
    (phrases.phrase Program _ refl phrases.nothing phrases.nothing)))) phrases.nothing

-- no tokens and `int a` are fronts of it
of_nothing : IsFront []
of_nothing = (int_a, record { derivation = of_int_a; ended = a_token kinds.End; last = refl; is = by_the_table })

of_two : IsFront (a_token (kinds.Keyword words.Int) ∷ a_token (kinds.Name (codes "a")) ∷ [])
of_two = (a_token (kinds.Mark marks.Semicolon) ∷ a_token kinds.End ∷ [], record { derivation = of_int_a; ended = a_token kinds.End; last = refl; is = by_the_table })

-- no program begins with `;`
none_so : {ts rest : List Token} {d : Derivation Row} → Is (A Program ∷ []) (a_token (kinds.Mark marks.Semicolon) ∷ ts) d rest → ⊥
unfolding parts_of
none_so (phrases.token f i) = f
none_so (phrases.phrase p inner k j i) = cc

alone_unexpected : Unexpected [] (a_token (kinds.Mark marks.Semicolon))
alone_unexpected = record { before = of_nothing; never = λ other p. none_so p.is }

-- `int f(int a`, with this behind it
abbrev up_to_a : List Token → List Token
up_to_a ts = a_token (kinds.Keyword words.Int) ∷ a_token (kinds.Name (codes "f")) ∷ a_token (kinds.Mark marks.OpenParenthesis) ∷ a_token (kinds.Keyword words.Int) ∷ a_token (kinds.Name (codes "a")) ∷ ts

-- `int f(int a[]) {}` is a program
array_parameter : IsProgram (up_to_a (a_token (kinds.Mark marks.OpenBracket) ∷ a_token (kinds.Mark marks.CloseBracket) ∷ a_token (kinds.Mark marks.CloseParenthesis) ∷ a_token (kinds.Mark marks.OpenBrace) ∷ a_token (kinds.Mark marks.CloseBrace) ∷ a_token kinds.End ∷ []))
unfolding parts_of
array_parameter = record {
  derivation = _;
  ended = a_token kinds.End;
  last = refl;
  is =
      phrases.phrase Program _ refl
      (phrases.token refl (phrases.token (codes "f", refl) (phrases.phrase AfterName _ refl
      (phrases.token refl (phrases.phrase Parameters _ refl
      (phrases.phrase Parameter _ refl (phrases.token refl (phrases.token (codes "a", refl) (phrases.phrase ParameterBrackets _ refl (phrases.token refl (phrases.token refl phrases.nothing)) phrases.nothing)))
      (phrases.phrase MoreParameters _ refl phrases.nothing phrases.nothing))
      (phrases.token refl (phrases.phrase Block _ refl (phrases.token refl (phrases.phrase Items _ refl phrases.nothing (phrases.token refl phrases.nothing))) phrases.nothing))))
      (phrases.phrase Program _ refl phrases.nothing phrases.nothing)))) phrases.nothing;
}

-- what stands behind the bracket of such a parameter and does not close it, no program goes on with
behind_bracket : (t : Token) (ts : List Token) → (t.kind ≡ kinds.Mark marks.CloseBracket → ⊥) → (d : Derivation Row) × Stuck (A Program ∷ []) (up_to_a (a_token (kinds.Mark marks.OpenBracket) ∷ t ∷ ts)) d (t ∷ ts)
unfolding parts_of
behind_bracket t ts n = (
  _,
  phrases.inside Program _ refl
      (phrases.behind refl (phrases.behind (codes "f", refl) (phrases.inside AfterName _ refl
      (phrases.behind refl (phrases.inside Parameters _ refl
      (phrases.inside Parameter _ refl (phrases.behind refl (phrases.behind (codes "a", refl) (phrases.inside ParameterBrackets _ refl (phrases.behind refl (phrases.unfit (λ p e. cc) n))))))))))),
)

-- `int f(int a[3` stops at the 3, and `int f(int a[)` at the parenthesis
with_size : (ts : List Token) → (d : Derivation Row) × Stuck (A Program ∷ []) (up_to_a (a_token (kinds.Mark marks.OpenBracket) ∷ a_token (kinds.Number (pos 3)) ∷ ts)) d (a_token (kinds.Number (pos 3)) ∷ ts)
with_size ts = behind_bracket (a_token (kinds.Number (pos 3))) ts (λ e. cc)

half_open : (ts : List Token) → (d : Derivation Row) × Stuck (A Program ∷ []) (up_to_a (a_token (kinds.Mark marks.OpenBracket) ∷ a_token (kinds.Mark marks.CloseParenthesis) ∷ ts)) d (a_token (kinds.Mark marks.CloseParenthesis) ∷ ts)
half_open ts = behind_bracket (a_token (kinds.Mark marks.CloseParenthesis)) ts (λ e. cc)
