-- Definitions, part by part.
use Rattle.std.proofs.Common.{◌≡◌, ◌≤◌, ◌<◌, ◌+◌, ℕ, ℤ, pos, ◌-ℤ◌, List, [], ◌∷◌, ◌++◌, map, length, drop, Some, None, refl, sym, ap, ◌∙◌, subst, arith, append_assoc}
use Rattle.vx_ast.specs.declared.syntax.Name.{Name}
use Rattle.vx_ast.specs.declared.syntax.Parameter.{Parameter as AParameter}
use Rattle.vx_ast.specs.declared.syntax.Definition.{Definition}
use Rattle.vx_ast.specs.declared.syntax.Statement.{Statement}
use Rattle.vx_ast.specs.declared.tree.Gives.{Gives}
use Rattle.vx_ast.specs.declared.tree.Gives.TheVariants as gives
use Rattle.vx_ast.specs.declared.tree.Takes.{Takes}
use Rattle.vx_ast.specs.declared.tree.Takes.TheVariants as takes
use Rattle.vx_ast.specs.declared.token.Keyword.TheVariants as words
use Rattle.vx_ast.specs.declared.token.Mark.TheVariants as marks
use Rattle.vx_ast.specs.declared.token.TokenKind.{TokenKind}
use Rattle.vx_ast.specs.declared.token.TokenKind.TheVariants as kinds
use Rattle.vx_ast.specs.declared.token.Token.{Token}
use Rattle.vx_ast.specs.Tree.{One, Row}
use Rattle.vx_ast.specs.Syntax as syntax
use Rattle.vx_ast.specs.SyntaxView as view
use Rattle.vx_ast.specs.Phrases as phrases
use Rattle.vx_ast.specs.Phrases.{Phrase, AfterName, GlobalValue, SignedNumber, MoreGlobals, Parameters, Parameter, ParameterBrackets, MoreParameters, Block, Part, The, AName, ANumber, A, mark, word, parts_of, Derivation, Leaf, Node, NoMore, Then, Is}
use Rattle.vx_ast.specs.Derivations.{name_of, size_of, signed_of, global_of, more_globals_of, takes_of, parameter_of, parameters_of, block_of, after_name_of, definitions_of}
use Rattle.vx_parse.specs.declared.token.NameRead.{NameRead}
use Rattle.vx_parse.specs.declared.token.NumberRead.{NumberRead}
use Rattle.vx_parse.specs.declared.token.SizeRead.{SizeRead}
use Rattle.vx_parse.specs.declared.definition.Definitions.{Definitions}
use Rattle.vx_parse.specs.declared.definition.ParameterRead.{ParameterRead}
use Rattle.vx_parse.specs.declared.definition.ParametersRead.{ParametersRead}
use Rattle.vx_parse.specs.declared.definition.FunctionRead.{FunctionRead}
use Rattle.vx_parse.specs.Reading.{next_kind, Passed, PassedName, PassedNumber, PassedSize, Parted, IsPhrase, Continues}
use Rattle.vx_parse.specs.Statements.{MeansBlock}
use Rattle.vx_parse.specs.Definitions.{MeansSigned, MeansGlobal, MeansGlobals, GlobalsBehind, MeansBrackets, MeansParameter, MeansParameters, ParametersBehind, Heading, IsFunction, IsAfterName, Defines}
use Rattle.vx_parse.proofs.Parts.{Before, begin, past_token, past_phrase, past_row, ends, quietly}

low : 0 ≤ 200
low = omega arith

-- numbers with a sign

minus_parts : {k : TokenKind} → k ≡ kinds.Mark marks.Minus → parts_of SignedNumber k ≡ Some (mark marks.Minus ∷ ANumber ∷ [])
unfolding parts_of
minus_parts e = ap (parts_of SignedNumber) e

number_parts : (k : TokenKind) → (k ≡ kinds.Mark marks.Minus → ⊥) → parts_of SignedNumber k ≡ Some (ANumber ∷ [])
unfolding parts_of
number_parts (kinds.Mark marks.Minus) h = absurd (h refl)
number_parts k h = refl

pub minus_before : (ts : List Token) (i : ℕ) (c : Passed (mark marks.Minus) ts i (i + 1)) → i < length ts → next_kind (drop i ts) ≡ kinds.Mark marks.Minus
    → Before (A SignedNumber ∷ []) ts i 0 (λ d. Then (Node SignedNumber (Then (Leaf c.token) d)) NoMore) (ANumber ∷ []) (i + 1) 0
minus_before ts i c h e = past_token (quietly SignedNumber (mark marks.Minus ∷ ANumber ∷ []) ts i 0 refl refl refl low h (minus_parts e)) c

pub number_before : (ts : List Token) (i : ℕ) → i < length ts → (next_kind (drop i ts) ≡ kinds.Mark marks.Minus → ⊥) → Before (A SignedNumber ∷ []) ts i 0 (λ d. Then (Node SignedNumber d) NoMore) (ANumber ∷ []) i 0
number_before ts i h n = quietly SignedNumber (ANumber ∷ []) ts i 0 refl refl refl low h (number_parts (next_kind (drop i ts)) n)

pub negative_is : (ts : List Token) (i : ℕ) (number : NumberRead) (z : ℤ) (c : Passed (mark marks.Minus) ts i (i + 1)) → i < length ts → next_kind (drop i ts) ≡ kinds.Mark marks.Minus → PassedNumber ts (i + 1) number → z ≡ pos 0 -ℤ number.value
    → IsPhrase SignedNumber ts i i number.next 0 (MeansSigned z)
negative_is ts i number z c h e n f =
    let b = past_token (minus_before ts i c h e) n.passed in
    record {
      derivation = Node SignedNumber (Then (Leaf c.token) (Then (Leaf n.passed.token) NoMore));
      parted = ends b;
      means = ap (λ (x : ℤ). pos 0 -ℤ x) (sym n.value) ∙ sym f;
      further = b.further;
    }

pub number_is : (ts : List Token) (i : ℕ) (number : NumberRead) → i < length ts → (next_kind (drop i ts) ≡ kinds.Mark marks.Minus → ⊥) → PassedNumber ts i number → IsPhrase SignedNumber ts i i number.next 0 (MeansSigned number.value)
number_is ts i number h m n =
    let b = past_token (number_before ts i h m) n.passed in
    record { derivation = Node SignedNumber (Then (Leaf n.passed.token) NoMore); parted = ends b; means = sym n.value; further = b.further }

-- globals

equal_parts : {k : TokenKind} → k ≡ kinds.Mark marks.Equal → parts_of GlobalValue k ≡ Some (mark marks.Equal ∷ A SignedNumber ∷ [])
unfolding parts_of
equal_parts e = ap (parts_of GlobalValue) e

bracket_parts : {k : TokenKind} → k ≡ kinds.Mark marks.OpenBracket → parts_of GlobalValue k ≡ Some (mark marks.OpenBracket ∷ ANumber ∷ mark marks.CloseBracket ∷ [])
unfolding parts_of
bracket_parts e = ap (parts_of GlobalValue) e

no_value_parts : (k : TokenKind) → (k ≡ kinds.Mark marks.Equal → ⊥) → (k ≡ kinds.Mark marks.OpenBracket → ⊥) → parts_of GlobalValue k ≡ Some []
unfolding parts_of
no_value_parts (kinds.Mark marks.Equal) a b = absurd (a refl)
no_value_parts (kinds.Mark marks.OpenBracket) a b = absurd (b refl)
no_value_parts k a b = refl

pub equal_before : (ts : List Token) (i : ℕ) (c : Passed (mark marks.Equal) ts i (i + 1)) → i < length ts → next_kind (drop i ts) ≡ kinds.Mark marks.Equal
    → Before (A GlobalValue ∷ []) ts i 0 (λ d. Then (Node GlobalValue (Then (Leaf c.token) d)) NoMore) (A SignedNumber ∷ []) (i + 1) 0
equal_before ts i c h e = past_token (quietly GlobalValue (mark marks.Equal ∷ A SignedNumber ∷ []) ts i 0 refl refl refl low h (equal_parts e)) c

pub bracket_before : (ts : List Token) (i : ℕ) (c : Passed (mark marks.OpenBracket) ts i (i + 1)) → i < length ts → next_kind (drop i ts) ≡ kinds.Mark marks.OpenBracket
    → Before (A GlobalValue ∷ []) ts i 0 (λ d. Then (Node GlobalValue (Then (Leaf c.token) d)) NoMore) (ANumber ∷ mark marks.CloseBracket ∷ []) (i + 1) 0
bracket_before ts i c h e = past_token (quietly GlobalValue (mark marks.OpenBracket ∷ ANumber ∷ mark marks.CloseBracket ∷ []) ts i 0 refl refl refl low h (bracket_parts e)) c

scalar_tree : (t u : Token) (x : Derivation One) → global_of t (Node GlobalValue (Then (Leaf u) (Then x NoMore))) ≡ syntax.GlobalScalar (name_of t) (signed_of x)
unfolding global_of
scalar_tree t u x = refl

array_tree : (t u n c : Token) → global_of t (Node GlobalValue (Then (Leaf u) (Then (Leaf n) (Then (Leaf c) NoMore)))) ≡ syntax.GlobalArray (name_of t) (size_of n)
unfolding global_of
array_tree t u n c = refl

zero_tree : (t : Token) → global_of t (Node GlobalValue NoMore) ≡ syntax.GlobalScalar (name_of t) (pos 0)
unfolding global_of
zero_tree t = refl

pub scalar_is : (ts : List Token) (i next : ℕ) (name : Name) (z : ℤ) (global : Definition) (c : Passed (mark marks.Equal) ts i (i + 1)) → i < length ts → next_kind (drop i ts) ≡ kinds.Mark marks.Equal
    → IsPhrase SignedNumber ts (i + 1) (i + 1) next 0 (MeansSigned z) → view.definition_of global ≡ syntax.GlobalScalar name z → IsPhrase GlobalValue ts i i next 0 (MeansGlobal name global)
scalar_is ts i next name z global c h e a f =
    let b = past_phrase (equal_before ts i c h e) a.parted in
    record {
      derivation = Node GlobalValue (Then (Leaf c.token) (Then a.derivation NoMore));
      parted = ends b;
      means = λ t same. scalar_tree t c.token a.derivation ∙ ap (syntax.GlobalScalar (name_of t)) a.means ∙ ap (λ n. syntax.GlobalScalar n z) (sym same) ∙ sym f;
      further = b.further;
    }

pub array_is : (ts : List Token) (i next : ℕ) (name : Name) (size : SizeRead) (global : Definition) (c : Passed (mark marks.OpenBracket) ts i (i + 1)) → i < length ts → next_kind (drop i ts) ≡ kinds.Mark marks.OpenBracket
    → PassedSize ts (i + 1) size → Passed (mark marks.CloseBracket) ts size.next next → view.definition_of global ≡ syntax.GlobalArray name size.size → IsPhrase GlobalValue ts i i next 0 (MeansGlobal name global)
array_is ts i next name size global c h e n o f =
    let b = past_token (past_token (bracket_before ts i c h e) n.passed) o in
    record {
      derivation = Node GlobalValue (Then (Leaf c.token) (Then (Leaf n.passed.token) (Then (Leaf o.token) NoMore)));
      parted = ends b;
      means = λ t same. array_tree t c.token n.passed.token o.token ∙ ap (syntax.GlobalArray (name_of t)) (sym n.size) ∙ ap (λ x. syntax.GlobalArray x size.size) (sym same) ∙ sym f;
      further = b.further;
    }

pub zero_is : (ts : List Token) (i : ℕ) (name : Name) (global : Definition) → i < length ts → (next_kind (drop i ts) ≡ kinds.Mark marks.Equal → ⊥) → (next_kind (drop i ts) ≡ kinds.Mark marks.OpenBracket → ⊥)
    → view.definition_of global ≡ syntax.GlobalScalar name (pos 0) → IsPhrase GlobalValue ts i i i 0 (MeansGlobal name global)
zero_is ts i name global h m n f =
    let b = quietly GlobalValue [] ts i 0 refl refl refl low h (no_value_parts (next_kind (drop i ts)) m n) in
    record { derivation = Node GlobalValue NoMore; parted = ends b; means = λ t same. zero_tree t ∙ ap (λ x. syntax.GlobalScalar x (pos 0)) (sym same) ∙ sym f; further = b.further }

comma_parts : {k : TokenKind} → k ≡ kinds.Mark marks.Comma → parts_of MoreGlobals k ≡ Some (mark marks.Comma ∷ AName ∷ A GlobalValue ∷ A MoreGlobals ∷ [])
unfolding parts_of
comma_parts e = ap (parts_of MoreGlobals) e

no_comma_parts : (k : TokenKind) → (k ≡ kinds.Mark marks.Comma → ⊥) → parts_of MoreGlobals k ≡ Some []
unfolding parts_of
no_comma_parts (kinds.Mark marks.Comma) h = absurd (h refl)
no_comma_parts k h = refl

pub comma_before : (ts : List Token) (i : ℕ) (c : Passed (mark marks.Comma) ts i (i + 1)) → i < length ts → next_kind (drop i ts) ≡ kinds.Mark marks.Comma
    → Before (A MoreGlobals ∷ []) ts i 0 (λ d. Then (Node MoreGlobals (Then (Leaf c.token) d)) NoMore) (AName ∷ A GlobalValue ∷ A MoreGlobals ∷ []) (i + 1) 0
comma_before ts i c h e = past_token (quietly MoreGlobals (mark marks.Comma ∷ AName ∷ A GlobalValue ∷ A MoreGlobals ∷ []) ts i 0 refl refl refl low h (comma_parts e)) c

more_tree : (u n : Token) (x y : Derivation One) → more_globals_of (Node MoreGlobals (Then (Leaf u) (Then (Leaf n) (Then x (Then y NoMore))))) ≡ global_of n x ∷ more_globals_of y
unfolding more_globals_of
more_tree u n x y = refl

no_more_tree : more_globals_of (Node MoreGlobals NoMore) ≡ []
unfolding more_globals_of
no_more_tree = refl

two_cons : {T : Type 0} {x y : T} {xs ys : List T} → x ≡ y → xs ≡ ys → x ∷ xs ≡ y ∷ ys
two_cons p q = cc

pub next_global : (ts : List Token) (i next : ℕ) (name : NameRead) (global : Definition) (c : Passed (mark marks.Comma) ts i (i + 1)) → i < length ts → next_kind (drop i ts) ≡ kinds.Mark marks.Comma → PassedName ts (i + 1) name
    → IsPhrase GlobalValue ts name.next name.next next 0 (MeansGlobal name.name global) → Continues MoreGlobals ts i 0 MeansGlobals next (global ∷ [])
next_global ts i next name global c h e n a =
    let b = past_phrase (past_token (comma_before ts i c h e) n.passed) a.parted in
    let g = b.further in
    record {
      whole = λ end d more p q.
          let f = p.further in
          record {
            derivation = Node MoreGlobals (Then (Leaf c.token) (Then (Leaf n.passed.token) (Then a.derivation (Then d NoMore))));
            parted = b.whole (Then d NoMore) end p;
            means = more_tree c.token n.passed.token a.derivation d ∙ two_cons (a.means n.passed.token n.name) q;
            further = omega arith;
          };
      stops = b.stops;
      further = omega arith;
      within = b.within;
    }

pub no_more_globals : (ts : List Token) (i : ℕ) → i < length ts → (next_kind (drop i ts) ≡ kinds.Mark marks.Comma → ⊥) → IsPhrase MoreGlobals ts i i i 0 (MeansGlobals [])
no_more_globals ts i h n =
    let b = quietly MoreGlobals [] ts i 0 refl refl refl low h (no_comma_parts (next_kind (drop i ts)) n) in
    record { derivation = Node MoreGlobals NoMore; parted = ends b; means = no_more_tree; further = b.further }

-- behind `int` and a name

function_parts : {k : TokenKind} → k ≡ kinds.Mark marks.OpenParenthesis → parts_of AfterName k ≡ Some (mark marks.OpenParenthesis ∷ A Parameters ∷ mark marks.CloseParenthesis ∷ A Block ∷ [])
unfolding parts_of
function_parts e = ap (parts_of AfterName) e

globals_parts : (k : TokenKind) → (k ≡ kinds.Mark marks.OpenParenthesis → ⊥) → parts_of AfterName k ≡ Some (A GlobalValue ∷ A MoreGlobals ∷ mark marks.Semicolon ∷ [])
unfolding parts_of
globals_parts (kinds.Mark marks.OpenParenthesis) h = absurd (h refl)
globals_parts k h = refl

pub globals_before : (ts : List Token) (i : ℕ) → i < length ts → (next_kind (drop i ts) ≡ kinds.Mark marks.OpenParenthesis → ⊥)
    → Before (A AfterName ∷ []) ts i 0 (λ d. Then (Node AfterName d) NoMore) (A GlobalValue ∷ A MoreGlobals ∷ mark marks.Semicolon ∷ []) i 0
globals_before ts i h n = quietly AfterName (A GlobalValue ∷ A MoreGlobals ∷ mark marks.Semicolon ∷ []) ts i 0 refl refl refl low h (globals_parts (next_kind (drop i ts)) n)

globals_tree : (t m : Token) (x y : Derivation One) → after_name_of t (Node AfterName (Then x (Then y (Then (Leaf m) NoMore)))) ≡ global_of t x ∷ more_globals_of y
unfolding after_name_of
globals_tree t m x y = refl

pub globals_are : (ts : List Token) (name : Name) (before all more r : Definitions) (first next : ℕ) (global : Definition) → before.next < length ts → (next_kind (drop before.next ts) ≡ kinds.Mark marks.OpenParenthesis → ⊥)
    → IsPhrase GlobalValue ts before.next before.next first 0 (MeansGlobal name global) → all.definitions.items ≡ before.definitions.items ++ (global ∷ []) → all.next ≡ first → GlobalsBehind all ts more → Passed (mark marks.Semicolon) ts more.next next
    → r.definitions.items ≡ more.definitions.items → r.next ≡ next → IsAfterName name before ts r
globals_are ts name before all more r first next global h n a e f g m k l =
    let x = a.derivation in let y = g.phrase.derivation in
    let mid : Parted (A MoreGlobals ∷ []) ts first more.next 0 (Then y NoMore) = subst (λ z. Parted (A MoreGlobals ∷ []) ts z more.next 0 (Then y NoMore)) f g.phrase.parted in
    let b = past_token (past_phrase (past_phrase (globals_before ts before.next h n) a.parted) mid) m in
    let p : Parted (A AfterName ∷ []) ts before.next r.next 0 (Then (Node AfterName (Then x (Then y (Then (Leaf m.token) NoMore)))) NoMore) = subst (λ z. Parted (A AfterName ∷ []) ts before.next z 0 (Then (Node AfterName (Then x (Then y (Then (Leaf m.token) NoMore)))) NoMore)) (sym l) (ends b) in
    record {
      more = global ∷ g.more;
      joined = k ∙ g.joined ∙ ap (λ (z : List Definition). z ++ g.more) e ∙ append_assoc before.definitions.items (global ∷ []) g.more;
      phrase = record {
        derivation = Node AfterName (Then x (Then y (Then (Leaf m.token) NoMore)));
        parted = p;
        means = λ t same. globals_tree t m.token x y ∙ two_cons (a.means t same) g.phrase.means;
        further = p.further;
      };
    }

-- parameters

bracket_pair_parts : {k : TokenKind} → k ≡ kinds.Mark marks.OpenBracket → parts_of ParameterBrackets k ≡ Some (mark marks.OpenBracket ∷ mark marks.CloseBracket ∷ [])
unfolding parts_of
bracket_pair_parts e = ap (parts_of ParameterBrackets) e

no_bracket_parts : (k : TokenKind) → (k ≡ kinds.Mark marks.OpenBracket → ⊥) → parts_of ParameterBrackets k ≡ Some []
unfolding parts_of
no_bracket_parts (kinds.Mark marks.OpenBracket) h = absurd (h refl)
no_bracket_parts k h = refl

pub brackets_before : (ts : List Token) (i : ℕ) (c : Passed (mark marks.OpenBracket) ts i (i + 1)) → i < length ts → next_kind (drop i ts) ≡ kinds.Mark marks.OpenBracket
    → Before (A ParameterBrackets ∷ []) ts i 0 (λ d. Then (Node ParameterBrackets (Then (Leaf c.token) d)) NoMore) (mark marks.CloseBracket ∷ []) (i + 1) 0
brackets_before ts i c h e = past_token (quietly ParameterBrackets (mark marks.OpenBracket ∷ mark marks.CloseBracket ∷ []) ts i 0 refl refl refl low h (bracket_pair_parts e)) c

pub array_taken : (ts : List Token) (i next : ℕ) (c : Passed (mark marks.OpenBracket) ts i (i + 1)) → i < length ts → next_kind (drop i ts) ≡ kinds.Mark marks.OpenBracket → Passed (mark marks.CloseBracket) ts (i + 1) next
    → IsPhrase ParameterBrackets ts i i next 0 (MeansBrackets takes.Array)
array_taken ts i next c h e o =
    let b = past_token (brackets_before ts i c h e) o in
    record { derivation = Node ParameterBrackets (Then (Leaf c.token) (Then (Leaf o.token) NoMore)); parted = ends b; means = refl; further = b.further }

pub number_taken : (ts : List Token) (i : ℕ) → i < length ts → (next_kind (drop i ts) ≡ kinds.Mark marks.OpenBracket → ⊥) → IsPhrase ParameterBrackets ts i i i 0 (MeansBrackets takes.Number)
number_taken ts i h n =
    let b = quietly ParameterBrackets [] ts i 0 refl refl refl low h (no_bracket_parts (next_kind (drop i ts)) n) in
    record { derivation = Node ParameterBrackets NoMore; parted = ends b; means = refl; further = b.further }

parameter_parts : (k : TokenKind) → parts_of Parameter k ≡ Some (word words.Int ∷ AName ∷ A ParameterBrackets ∷ [])
unfolding parts_of
parameter_parts k = refl

pub parameter_before : (ts : List Token) (i : ℕ) → i < length ts → Before (A Parameter ∷ []) ts i 0 (λ d. Then (Node Parameter d) NoMore) (word words.Int ∷ AName ∷ A ParameterBrackets ∷ []) i 0
parameter_before ts i h = quietly Parameter (word words.Int ∷ AName ∷ A ParameterBrackets ∷ []) ts i 0 refl refl refl low h (parameter_parts (next_kind (drop i ts)))

same_parameter : (x y : AParameter) → x.name ≡ y.name → x.takes ≡ y.takes → x ≡ y
same_parameter x y p q =
    let first : x ≡ record { name = y.name; takes = x.takes } = ap (λ (z : Name). let n : AParameter = record { name = z; takes = x.takes } in n) p in
    let second : record { name = y.name; takes = x.takes } ≡ y = ap (λ (z : Takes). let n : AParameter = record { name = y.name; takes = z } in n) q in
    first ∙ second

pub parameter_is : (ts : List Token) (i j next : ℕ) (name : NameRead) (parameter : AParameter) → i < length ts → Passed (word words.Int) ts i j → PassedName ts j name → IsPhrase ParameterBrackets ts name.next name.next next 0 (MeansBrackets parameter.takes)
    → parameter.name ≡ name.name → IsPhrase Parameter ts i (i + 1) next 0 (MeansParameter parameter)
parameter_is ts i j next name parameter h c n a e =
    let b = past_phrase (past_token (past_token (parameter_before ts i h) c) n.passed) a.parted in
    let f = c.further in let g = n.passed.further in let g1 = a.further in
    let read : AParameter = record { name = name_of n.passed.token; takes = takes_of a.derivation } in
    record {
      derivation = Node Parameter (Then (Leaf c.token) (Then (Leaf n.passed.token) (Then a.derivation NoMore)));
      parted = ends b;
      means = ap (λ (x : AParameter). x ∷ []) (same_parameter read parameter (sym (e ∙ n.name)) a.means);
      further = omega arith;
    }

next_parts : {k : TokenKind} → k ≡ kinds.Mark marks.Comma → parts_of MoreParameters k ≡ Some (mark marks.Comma ∷ A Parameter ∷ A MoreParameters ∷ [])
unfolding parts_of
next_parts e = ap (parts_of MoreParameters) e

no_next_parts : (k : TokenKind) → (k ≡ kinds.Mark marks.Comma → ⊥) → parts_of MoreParameters k ≡ Some []
unfolding parts_of
no_next_parts (kinds.Mark marks.Comma) h = absurd (h refl)
no_next_parts k h = refl

pub next_before : (ts : List Token) (i : ℕ) (c : Passed (mark marks.Comma) ts i (i + 1)) → i < length ts → next_kind (drop i ts) ≡ kinds.Mark marks.Comma
    → Before (A MoreParameters ∷ []) ts i 0 (λ d. Then (Node MoreParameters (Then (Leaf c.token) d)) NoMore) (A Parameter ∷ A MoreParameters ∷ []) (i + 1) 0
next_before ts i c h e = past_token (quietly MoreParameters (mark marks.Comma ∷ A Parameter ∷ A MoreParameters ∷ []) ts i 0 refl refl refl low h (next_parts e)) c

next_tree : (u : Token) (x y : Derivation One) → parameters_of (Node MoreParameters (Then (Leaf u) (Then x (Then y NoMore)))) ≡ parameter_of x ++ parameters_of y
unfolding parameters_of
next_tree u x y = refl

no_next_tree : parameters_of (Node MoreParameters NoMore) ≡ []
unfolding parameters_of
no_next_tree = refl

two_rows : {T : Type 0} {a b c d : List T} → a ≡ b → c ≡ d → a ++ c ≡ b ++ d
two_rows {b} {c} p q = ap (λ l. l ++ c) p ∙ ap (λ l. b ++ l) q

pub next_parameter : (ts : List Token) (i next : ℕ) (parameter : AParameter) (c : Passed (mark marks.Comma) ts i (i + 1)) → i < length ts → next_kind (drop i ts) ≡ kinds.Mark marks.Comma
    → IsPhrase Parameter ts (i + 1) (i + 1 + 1) next 0 (MeansParameter parameter) → Continues MoreParameters ts i 0 MeansParameters next (parameter ∷ [])
next_parameter ts i next parameter c h e a =
    let b = past_phrase (next_before ts i c h e) a.parted in
    let g = b.further in
    record {
      whole = λ end d more p q.
          let f = p.further in
          record {
            derivation = Node MoreParameters (Then (Leaf c.token) (Then a.derivation (Then d NoMore)));
            parted = b.whole (Then d NoMore) end p;
            means = next_tree c.token a.derivation d ∙ two_rows a.means q;
            further = omega arith;
          };
      stops = b.stops;
      further = omega arith;
      within = b.within;
    }

pub no_more_parameters : (ts : List Token) (i : ℕ) → i < length ts → (next_kind (drop i ts) ≡ kinds.Mark marks.Comma → ⊥) → IsPhrase MoreParameters ts i i i 0 (MeansParameters [])
no_more_parameters ts i h n =
    let b = quietly MoreParameters [] ts i 0 refl refl refl low h (no_next_parts (next_kind (drop i ts)) n) in
    record { derivation = Node MoreParameters NoMore; parted = ends b; means = no_next_tree; further = b.further }

none_parts : {k : TokenKind} → k ≡ kinds.Mark marks.CloseParenthesis → parts_of Parameters k ≡ Some []
unfolding parts_of
none_parts e = ap (parts_of Parameters) e

void_parts : {k : TokenKind} → k ≡ kinds.Keyword words.Void → parts_of Parameters k ≡ Some (word words.Void ∷ [])
unfolding parts_of
void_parts e = ap (parts_of Parameters) e

some_parts : (k : TokenKind) → (k ≡ kinds.Mark marks.CloseParenthesis → ⊥) → (k ≡ kinds.Keyword words.Void → ⊥) → parts_of Parameters k ≡ Some (A Parameter ∷ A MoreParameters ∷ [])
unfolding parts_of
some_parts (kinds.Mark marks.CloseParenthesis) a b = absurd (a refl)
some_parts (kinds.Keyword words.Void) a b = absurd (b refl)
some_parts k a b = refl

none_tree : parameters_of (Node Parameters NoMore) ≡ []
unfolding parameters_of
none_tree = refl

void_tree : (t : Token) → parameters_of (Node Parameters (Then (Leaf t) NoMore)) ≡ []
unfolding parameters_of
void_tree t = refl

some_tree : (x y : Derivation One) → parameters_of (Node Parameters (Then x (Then y NoMore))) ≡ parameter_of x ++ parameters_of y
unfolding parameters_of
some_tree x y = refl

pub no_parameters : (ts : List Token) (i : ℕ) (all : List AParameter) → i < length ts → next_kind (drop i ts) ≡ kinds.Mark marks.CloseParenthesis → all ≡ [] → IsPhrase Parameters ts i i i 0 (MeansParameters all)
no_parameters ts i all h e f =
    let b = quietly Parameters [] ts i 0 refl refl refl low h (none_parts e) in
    record { derivation = Node Parameters NoMore; parted = ends b; means = none_tree ∙ sym f; further = b.further }

pub void_parameters : (ts : List Token) (i : ℕ) (all : List AParameter) (c : Passed (word words.Void) ts i (i + 1)) → i < length ts → next_kind (drop i ts) ≡ kinds.Keyword words.Void → all ≡ [] → IsPhrase Parameters ts i i (i + 1) 0 (MeansParameters all)
void_parameters ts i all c h e f =
    let b = past_token (quietly Parameters (word words.Void ∷ []) ts i 0 refl refl refl low h (void_parts e)) c in
    record { derivation = Node Parameters (Then (Leaf c.token) NoMore); parted = ends b; means = void_tree c.token ∙ sym f; further = b.further }

pub some_before : (ts : List Token) (i : ℕ) → i < length ts → (next_kind (drop i ts) ≡ kinds.Mark marks.CloseParenthesis → ⊥) → (next_kind (drop i ts) ≡ kinds.Keyword words.Void → ⊥)
    → Before (A Parameters ∷ []) ts i 0 (λ d. Then (Node Parameters d) NoMore) (A Parameter ∷ A MoreParameters ∷ []) i 0
some_before ts i h m n = quietly Parameters (A Parameter ∷ A MoreParameters ∷ []) ts i 0 refl refl refl low h (some_parts (next_kind (drop i ts)) m n)

pub some_parameters : (ts : List Token) (i : ℕ) (first : ParameterRead) (before r : ParametersRead) → i < length ts → (next_kind (drop i ts) ≡ kinds.Mark marks.CloseParenthesis → ⊥) → (next_kind (drop i ts) ≡ kinds.Keyword words.Void → ⊥)
    → IsPhrase Parameter ts i (i + 1) first.next 0 (MeansParameter first.parameter) → before.parameters ≡ first.parameter ∷ [] → before.next ≡ first.next → ParametersBehind before ts r → IsPhrase Parameters ts i i r.next 0 (MeansParameters r.parameters)
some_parameters ts i first before r h m n a e f g =
    let x = a.derivation in let y = g.phrase.derivation in
    let mid : Parted (A MoreParameters ∷ []) ts first.next r.next 0 (Then y NoMore) = subst (λ z. Parted (A MoreParameters ∷ []) ts z r.next 0 (Then y NoMore)) f g.phrase.parted in
    let b = past_phrase (past_phrase (some_before ts i h m n) a.parted) mid in
    record {
      derivation = Node Parameters (Then x (Then y NoMore));
      parted = ends b;
      means = some_tree x y ∙ two_rows a.means g.phrase.means ∙ sym (g.joined ∙ ap (λ (z : List AParameter). z ++ g.more) e);
      further = b.further;
    }

-- functions

pub heading_start : (ts : List Token) (i : ℕ) → i < length ts → Before Heading ts i 0 (λ d. d) Heading i 0
heading_start ts i h = begin Heading ts i 0 refl low h

same_function : {g : Gives} {n : Name} {a b : List AParameter} {c d : syntax.Code} → a ≡ b → c ≡ d → (let x : syntax.Function = record { gives = g; name = n; parameters = a; body = c } in x) ≡ (let y : syntax.Function = record { gives = g; name = n; parameters = b; body = d } in y)
same_function {g} {n} {a} {b} {c} {d} p q =
    let first : (let x : syntax.Function = record { gives = g; name = n; parameters = a; body = c } in x) ≡ (let y : syntax.Function = record { gives = g; name = n; parameters = b; body = c } in y) =
    ap (λ (z : List AParameter). let x : syntax.Function = record { gives = g; name = n; parameters = z; body = c } in x) p in
    first ∙ ap (λ (z : syntax.Code). let x : syntax.Function = record { gives = g; name = n; parameters = b; body = z } in x) q

pub function_is : (ts : List Token) (i j m : ℕ) (name : Name) (gives : Gives) (parameters : ParametersRead) (statements : List Statement) (r : FunctionRead) → i < length ts → Passed (mark marks.OpenParenthesis) ts i j
    → IsPhrase Parameters ts j j parameters.next 0 (MeansParameters parameters.parameters) → Passed (mark marks.CloseParenthesis) ts parameters.next m → IsPhrase Block ts m (m + 1) r.next 0 (MeansBlock statements)
    → view.function_of r.function ≡ record { gives = gives; name = name; parameters = parameters.parameters; body = view.all_in statements } → IsFunction ts i name gives r
function_is ts i j m name gives parameters statements r h o a c d f =
    let b = past_phrase (past_token (past_phrase (past_token (heading_start ts i h) o) a.parted) c) d.parted in
    record {
      opening = o.token;
      parameters = a.derivation;
      closing = c.token;
      block = d.derivation;
      parted = ends b;
      tree = f ∙ same_function (sym a.means) (sym d.means);
    }

pub function_before : (ts : List Token) (i : ℕ) → i < length ts → next_kind (drop i ts) ≡ kinds.Mark marks.OpenParenthesis → Before (A AfterName ∷ []) ts i 0 (λ d. Then (Node AfterName d) NoMore) Heading i 0
function_before ts i h e = quietly AfterName Heading ts i 0 refl refl refl low h (function_parts e)

function_tree : (t o c : Token) (x y : Derivation One)
    → after_name_of t (Node AfterName (Then (Leaf o) (Then x (Then (Leaf c) (Then y NoMore))))) ≡ syntax.AFunction (record { gives = gives.Int; name = name_of t; parameters = parameters_of x; body = block_of y }) ∷ []
unfolding after_name_of
function_tree t o c x y = refl

named_function : {g : Gives} {m n : Name} {ps : List AParameter} {c : syntax.Code} → m ≡ n → syntax.AFunction (record { gives = g; name = m; parameters = ps; body = c }) ≡ syntax.AFunction (record { gives = g; name = n; parameters = ps; body = c })
named_function {g} {ps} {c} p = ap (λ (z : Name). syntax.AFunction (record { gives = g; name = z; parameters = ps; body = c })) p

pub int_function_is : (ts : List Token) (name : Name) (before r : Definitions) (function : FunctionRead) (definition : Definition) → before.next < length ts → next_kind (drop before.next ts) ≡ kinds.Mark marks.OpenParenthesis
    → IsFunction ts before.next name gives.Int function → r.definitions.items ≡ before.definitions.items ++ (definition ∷ []) → r.next ≡ function.next → view.definition_of definition ≡ syntax.AFunction (view.function_of function.function)
    → IsAfterName name before ts r
int_function_is ts name before r function definition h e a k l f =
    let d : Derivation Row = Then (Leaf a.opening) (Then a.parameters (Then (Leaf a.closing) (Then a.block NoMore))) in
    let b = (function_before ts before.next h e).whole d function.next a.parted in
    let p : Parted (A AfterName ∷ []) ts before.next r.next 0 (Then (Node AfterName d) NoMore) = subst (λ z. Parted (A AfterName ∷ []) ts before.next z 0 (Then (Node AfterName d) NoMore)) (sym l) b in
    record {
      more = definition ∷ [];
      joined = k;
      phrase = record {
        derivation = Node AfterName d;
        parted = p;
        means = λ t same. function_tree t a.opening a.closing a.parameters a.block ∙ two_cons (named_function (sym same) ∙ ap syntax.AFunction (sym a.tree) ∙ sym f) refl;
        further = p.further;
      };
    }

-- definitions of a program

int_parts : {k : TokenKind} → k ≡ kinds.Keyword words.Int → parts_of phrases.Program k ≡ Some (word words.Int ∷ AName ∷ A AfterName ∷ A phrases.Program ∷ [])
unfolding parts_of
int_parts e = ap (parts_of phrases.Program) e

program_void_parts : {k : TokenKind} → k ≡ kinds.Keyword words.Void → parts_of phrases.Program k ≡ Some (word words.Void ∷ AName ∷ (Heading ++ (A phrases.Program ∷ [])))
unfolding parts_of
program_void_parts e = ap (parts_of phrases.Program) e

pub end_parts : {k : TokenKind} → k ≡ kinds.End → parts_of phrases.Program k ≡ Some []
unfolding parts_of
end_parts e = ap (parts_of phrases.Program) e

pub no_definition : (k : TokenKind) → (k ≡ kinds.Keyword words.Int → ⊥) → (k ≡ kinds.Keyword words.Void → ⊥) → (k ≡ kinds.End → ⊥) → parts_of phrases.Program k ≡ None
unfolding parts_of
no_definition (kinds.Keyword words.Int) a b c = absurd (a refl)
no_definition (kinds.Keyword words.Void) a b c = absurd (b refl)
no_definition kinds.End a b c = absurd (c refl)
no_definition k a b c = refl

pub int_before : (ts : List Token) (i : ℕ) (c : Passed (word words.Int) ts i (i + 1)) → i < length ts → next_kind (drop i ts) ≡ kinds.Keyword words.Int
    → Before (A phrases.Program ∷ []) ts i 0 (λ d. Then (Node phrases.Program (Then (Leaf c.token) d)) NoMore) (AName ∷ A AfterName ∷ A phrases.Program ∷ []) (i + 1) 0
int_before ts i c h e = past_token (quietly phrases.Program (word words.Int ∷ AName ∷ A AfterName ∷ A phrases.Program ∷ []) ts i 0 refl refl refl low h (int_parts e)) c

pub void_before : (ts : List Token) (i : ℕ) (c : Passed (word words.Void) ts i (i + 1)) → i < length ts → next_kind (drop i ts) ≡ kinds.Keyword words.Void
    → Before (A phrases.Program ∷ []) ts i 0 (λ d. Then (Node phrases.Program (Then (Leaf c.token) d)) NoMore) (AName ∷ (Heading ++ (A phrases.Program ∷ []))) (i + 1) 0
void_before ts i c h e = past_token (quietly phrases.Program (word words.Void ∷ AName ∷ (Heading ++ (A phrases.Program ∷ []))) ts i 0 refl refl refl low h (program_void_parts e)) c

int_tree : (t n : Token) (x y : Derivation One) → definitions_of (Node phrases.Program (Then (Leaf t) (Then (Leaf n) (Then x (Then y NoMore))))) ≡ after_name_of n x ++ definitions_of y
unfolding definitions_of
int_tree t n x y = refl

program_void_tree : (t n o c : Token) (x y z : Derivation One) → definitions_of (Node phrases.Program (Then (Leaf t) (Then (Leaf n) (Then (Leaf o) (Then x (Then (Leaf c) (Then y (Then z NoMore)))))))) ≡ syntax.AFunction (record { gives = gives.Nothing; name = name_of n; parameters = parameters_of x; body = block_of y }) ∷ definitions_of z
unfolding definitions_of
program_void_tree t n o c x y z = refl

pub end_tree : definitions_of (Node phrases.Program NoMore) ≡ []
unfolding definitions_of
end_tree = refl

map_rows : {S T : Type 0} (f : S → T) (xs ys : List S) → map f (xs ++ ys) ≡ map f xs ++ map f ys
map_rows f [] ys = refl
map_rows f (x ∷ xs) ys = ap (λ l. f x ∷ l) (map_rows f xs ys)

pub int_is : (ts : List Token) (before all r : Definitions) (name : NameRead) (c : Passed (word words.Int) ts before.next (before.next + 1)) → before.next < length ts → next_kind (drop before.next ts) ≡ kinds.Keyword words.Int
    → PassedName ts (before.next + 1) name → all.definitions.items ≡ before.definitions.items → all.next ≡ name.next → IsAfterName name.name all ts r → Defines before ts r
int_is ts before all r name c h e n k l a =
    let x = a.phrase.derivation in
    let mid : Parted (A AfterName ∷ []) ts name.next r.next 0 (Then x NoMore) = subst (λ z. Parted (A AfterName ∷ []) ts z r.next 0 (Then x NoMore)) l a.phrase.parted in
    let b = past_phrase (past_token (int_before ts before.next c h e) n.passed) mid in
    let g1 = c.further in let g2 = n.passed.further in let g3 = mid.further in
    record {
      more = a.more;
      joined = a.joined ∙ ap (λ (z : List Definition). z ++ a.more) k;
      continues = record {
        whole = λ end d more p q.
            let f = p.further in
            record {
              derivation = Node phrases.Program (Then (Leaf c.token) (Then (Leaf n.passed.token) (Then x (Then d NoMore))));
              parted = b.whole (Then d NoMore) end p;
              means = int_tree c.token n.passed.token x d ∙ two_rows (a.phrase.means n.passed.token n.name) q ∙ sym (map_rows view.definition_of a.more more);
              further = omega arith;
            };
        stops = b.stops;
        further = omega arith;
        within = b.within;
      };
      further = omega arith;
    }

pub void_is : (ts : List Token) (before r : Definitions) (name : NameRead) (function : FunctionRead) (definition : Definition) (c : Passed (word words.Void) ts before.next (before.next + 1)) → before.next < length ts
    → next_kind (drop before.next ts) ≡ kinds.Keyword words.Void → PassedName ts (before.next + 1) name → IsFunction ts name.next name.name gives.Nothing function → r.definitions.items ≡ before.definitions.items ++ (definition ∷ []) → r.next ≡ function.next
    → view.definition_of definition ≡ syntax.AFunction (view.function_of function.function) → Defines before ts r
void_is ts before r name function definition c h e n a k l f =
    let row : Derivation Row = Then (Leaf a.opening) (Then a.parameters (Then (Leaf a.closing) (Then a.block NoMore))) in
    let mid : Parted Heading ts name.next r.next 0 row = subst (λ z. Parted Heading ts name.next z 0 row) (sym l) a.parted in
    let b0 = past_token (void_before ts before.next c h e) n.passed in
    let b = past_row Heading (A phrases.Program ∷ []) refl b0 mid in
    let g1 = c.further in let g2 = n.passed.further in let g3 = mid.further in
    record {
      more = definition ∷ [];
      joined = k;
      continues = record {
        whole = λ end d more p q.
            let m = p.further in
            record {
              derivation = Node phrases.Program (Then (Leaf c.token) (Then (Leaf n.passed.token) (Then (Leaf a.opening) (Then a.parameters (Then (Leaf a.closing) (Then a.block (Then d NoMore)))))));
              parted = b.whole (Then d NoMore) end p;
              means = program_void_tree c.token n.passed.token a.opening a.closing a.parameters a.block d ∙ two_cons (named_function (sym n.name) ∙ ap syntax.AFunction (sym a.tree) ∙ sym f) q;
              further = omega arith;
            };
        stops = b.stops;
        further = omega arith;
        within = b.within;
      };
      further = omega arith;
    }
