-- The end of a program, and what a list of tokens that is none answers.
use Rattle.std.proofs.Common.{◌≡◌, ◌+◌, ℕ, List, [], ◌∷◌, map, drop, refl, sym, ap, ◌∙◌, subst, arith}
use Rattle.vx_ast.specs.declared.syntax.Place.{Place}
use Rattle.vx_ast.specs.declared.syntax.Definition.{Definition}
use Rattle.vx_ast.specs.declared.syntax.Program.{Program}
use Rattle.vx_ast.specs.declared.fault.SourceFault.{SourceFault}
use Rattle.vx_ast.specs.declared.fault.SourceFault.TheVariants.{Bad, Limit}
use Rattle.vx_ast.specs.declared.token.Keyword.TheVariants as words
use Rattle.vx_ast.specs.declared.token.TokenKind.TheVariants as kinds
use Rattle.vx_ast.specs.declared.token.Token.{Token}
use Rattle.vx_ast.specs.Syntax as syntax
use Rattle.vx_ast.specs.SyntaxView as view
use Rattle.vx_ast.specs.Phrases as phrases
use Rattle.vx_ast.specs.Phrases.{A, parts_of, Derivation, Leaf, Node, NoMore, Then, Is, Stuck}
use Rattle.vx_ast.specs.Derivations.{place_of, definitions_of, program_of}
use Rattle.vx_ast.specs.Reads.{Parses, Leaves, Misparses, unexpected, too_deep}
use Rattle.vx_parse.specs.declared.stop.Stop.TheVariants.{Unexpected, TooDeep}
use Rattle.vx_parse.specs.declared.definition.Definitions.{Definitions}
use Rattle.vx_parse.specs.Reading.{next_kind, next_place, Ended, Stops}
use Rattle.vx_parse.specs.Definitions.{MeansDefinitions, Defines}
use Rattle.vx_parse.proofs.Tokens.{next_token, ended_drop}
use Rattle.vx_parse.proofs.Steps.{stops_no_phrase}
use Rattle.vx_parse.proofs.Parts.{ends, quietly}
use Rattle.vx_parse.proofs.Loops.{continues_end, Gathers, gathers_rows}
use Rattle.vx_parse.proofs.Definitions.{end_parts, end_tree, no_definition}

last_alone : (t : Token) (ts : List Token) → Ended (t ∷ ts) → t.kind ≡ kinds.End → t ∷ ts ≡ t ∷ []
last_alone t [] e k = refl
last_alone t (u ∷ us) e k = absurd (e.0 k)

pub defined : (ts : List Token) (before r : Definitions) → Gathers phrases.Program ts 0 0 MeansDefinitions [] before.next before.definitions.items → Defines before ts r → Gathers phrases.Program ts 0 0 MeansDefinitions [] r.next r.definitions.items
defined ts before r g d = gathers_rows g d.continues d.joined

pub parsed : (ts : List Token) (i : ℕ) (p : Program) (xs : List Definition) → Ended ts → Gathers phrases.Program ts 0 0 MeansDefinitions [] i xs → next_kind (drop i ts) ≡ kinds.End → p.definitions.items ≡ xs → p.end ≡ next_place (drop i ts)
    → Parses ts (view.program_of p)
parsed ts i p xs e g k f h =
    let l = g.continues.within in
    let t = next_token ts i l in
    let kind : t.token.kind ≡ kinds.End = sym (ap next_kind t.is) ∙ k in
    let rest : drop i ts ≡ t.token ∷ [] = t.is ∙ last_alone t.token (drop (i + 1) ts) (subst Ended t.is (ended_drop i ts l e)) kind in
    let b = quietly phrases.Program [] ts i 0 refl refl refl (omega arith) l (end_parts k) in
    let v = continues_end g.continues (Node phrases.Program NoMore) (ends b) end_tree in
    let a : Is (A phrases.Program ∷ []) ts (Then v.derivation NoMore) (t.token ∷ []) = subst (λ z. Is (A phrases.Program ∷ []) ts (Then v.derivation NoMore) z) rest v.parted.is in
    let same : map view.definition_of p.definitions.items ≡ definitions_of v.derivation = ap (map view.definition_of) (f ∙ g.joined) ∙ sym v.means in
    let place : p.end ≡ place_of t.token = h ∙ ap next_place t.is in
    let first : view.program_of p ≡ record { definitions = definitions_of v.derivation; end = p.end } = ap (λ (z : List syntax.Definition). let n : syntax.Program = record { definitions = z; end = p.end } in n) same in
    let second : record { definitions = definitions_of v.derivation; end = p.end } ≡ program_of (Then v.derivation NoMore) t.token = ap (λ (z : Place). let n : syntax.Program = record { definitions = definitions_of v.derivation; end = z } in n) place in
    let low = v.parted.shallow in
    record { derivation = Then v.derivation NoMore; last = t.token; is = a; shallow = omega arith; is_tree = first ∙ second }

pub undefined : (ts : List Token) (i : ℕ) (xs : List Definition) → Gathers phrases.Program ts 0 0 MeansDefinitions [] i xs → (next_kind (drop i ts) ≡ kinds.Keyword words.Int → ⊥) → (next_kind (drop i ts) ≡ kinds.Keyword words.Void → ⊥)
    → (next_kind (drop i ts) ≡ kinds.End → ⊥) → Stops (A phrases.Program ∷ []) ts ts 0 0 (Unexpected i)
undefined ts i xs g a b c = g.continues.stops (Unexpected i) (stops_no_phrase phrases.Program ts i 0 g.continues.within (omega arith) (no_definition (next_kind (drop i ts)) a b c))

same_fault : (p : Place) (t : Token) → p ≡ place_of t → Bad 4 p.line p.column ≡ Bad 4 t.line t.column
same_fault p t e = ap (λ (z : Place). Bad 4 z.line z.column) e

pub misparsed : (ts : List Token) (i : ℕ) (p : Place) → Stops (A phrases.Program ∷ []) ts ts 0 0 (Unexpected i) → p ≡ next_place (drop i ts) → Misparses ts (Bad 4 p.line p.column)
misparsed ts i p w e =
    let t = next_token ts i w.0 in
    let d = w.1.derivation in
    let s : Stuck (A phrases.Program ∷ []) ts d (t.token ∷ drop (i + 1) ts) = subst (λ z. Stuck (A phrases.Program ∷ []) ts d z) t.is w.1.stuck in
    let place : p ≡ place_of t.token = e ∙ ap next_place t.is in
    let low = w.1.shallow in
    let leaves : Leaves ts t.token = record { derivation = d; rest = drop (i + 1) ts; stuck = s; shallow = omega arith } in
    subst (λ (f : SourceFault). Misparses ts f) (sym (same_fault p t.token place)) (unexpected leaves)

pub too_deep_program : (ts : List Token) → Stops (A phrases.Program ∷ []) ts ts 0 0 TooDeep → Misparses ts (Limit 2 201)
too_deep_program ts w = let low = w.deep in too_deep (record { derivation = w.derivation; rest = w.rest; begins = w.begins; deep = omega arith })
