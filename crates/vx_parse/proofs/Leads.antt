-- Where an expression begins.
use Rattle.std.proofs.Common.{◌≡◌, ◌<◌, ◌+◌, ℕ, zero, suc, List, [], ◌∷◌, length, drop, Option, sym, ap, ◌∙◌, subst, refl}
use Rattle.std.specs.Prelude.{IfSome}
use Rattle.vx_ast.specs.declared.syntax.Place.{Place}
use Rattle.vx_ast.specs.declared.token.Mark.TheVariants as marks
use Rattle.vx_ast.specs.declared.token.TokenKind.{TokenKind}
use Rattle.vx_ast.specs.declared.token.TokenKind.TheVariants as kinds
use Rattle.vx_ast.specs.declared.token.Token.{Token}
use Rattle.vx_ast.specs.Tree.{One, Row}
use Rattle.vx_ast.specs.Phrases as phrases
use Rattle.vx_ast.specs.Phrases.{Phrase, Level, Primary, Part, A, parts_of, Derivation, Leaf, Node, NoMore, Then, Is, nothing, token, phrase}
use Rattle.vx_ast.specs.Derivations.{place_of, first_place}
use Rattle.vx_parse.specs.Reading.{next_place}
use Rattle.vx_parse.proofs.Tokens.{next_token}

abbrev pub Leads : Phrase → Type 0
Leads phrases.Expression = Unit {0}
Leads (Level n) = Unit {0}
Leads Primary = Unit {0}
Leads p = ⊥

abbrev RowLeads : List Part → Type 0
RowLeads [] = ⊥
RowLeads (A p ∷ ps) = Leads p
RowLeads (q ∷ ps) = Unit {0}

leads_on : (p : Phrase) (k : TokenKind) → Leads p → IfSome (parts_of p k) RowLeads
unfolding parts_of
leads_on phrases.Expression k h = tt
leads_on (Level zero) (kinds.Mark marks.Minus) h = tt
leads_on (Level zero) (kinds.Mark marks.Plus) h = tt
leads_on (Level zero) (kinds.Mark marks.Exclamation) h = tt
leads_on (Level zero) (kinds.Mark marks.Tilde) h = tt
leads_on (Level zero) k h = tt
leads_on (Level (suc n)) k h = tt
leads_on Primary (kinds.Number z) h = tt
leads_on Primary (kinds.Name b) h = tt
leads_on Primary (kinds.Mark marks.OpenParenthesis) h = tt
leads_on Primary k h = tt
leads_on p k h = absurd h

abbrev row_place : Derivation Row → Place
row_place (Then d more) = first_place d
row_place NoMore = record { line = 0; column = 0 }

node_place : (p : Phrase) (d : Derivation Row) → first_place (Node p d) ≡ row_place d
unfolding first_place
node_place p NoMore = refl
node_place p (Then d more) = refl

leaf_place : (t : Token) → first_place (Leaf t) ≡ place_of t
unfolding first_place
leaf_place t = refl

lead : {ps : List Part} {t : Token} {ts rest : List Token} {d : Derivation Row} → RowLeads ps → Is ps (t ∷ ts) d rest → row_place d ≡ place_of t
lead h nothing = absurd h
lead {t} h (token f a) = leaf_place t
lead {t} h (phrase p inner {d} k i a) =
    let l : RowLeads inner = subst (λ (z : Option (List Part)). IfSome z RowLeads) k (leads_on p t.kind h) in
    node_place p d ∙ lead l i

pub begins_at : {p : Phrase} {rest : List Token} {x : Derivation One} (ts : List Token) (i : ℕ) → Leads p → i < length ts → Is (A p ∷ []) (drop i ts) (Then x NoMore) rest → first_place x ≡ next_place (drop i ts)
begins_at {p} {rest} {x} ts i l h a =
    let t = next_token ts i h in
    let b : Is (A p ∷ []) (t.token ∷ drop (i + 1) ts) (Then x NoMore) rest = subst (λ z. Is (A p ∷ []) z (Then x NoMore) rest) t.is a in
    lead l b ∙ sym (ap next_place t.is)
