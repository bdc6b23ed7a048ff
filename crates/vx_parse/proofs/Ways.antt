-- Phrases are read in one way, and a list of tokens is never both read and stuck.
use Rattle.std.proofs.Common.{◌≡◌, List, [], ◌∷◌, ◌++◌, Option, Some, refl, sym, ap, ◌∙◌, subst, append_assoc}
use Rattle.vx_ast.specs.declared.token.Token.{Token}
use Rattle.vx_ast.specs.Tree.{Row}
use Rattle.vx_ast.specs.Phrases.{Phrase, Part, A, parts_of, Derivation, Leaf, Node, Then, Is, nothing, token, phrase, Stuck, unfit, behind, no_phrase, inside, after}

pub same_parts : {k : Option (List Part)} {a b : List Part} → k ≡ Some a → k ≡ Some b → b ≡ a
same_parts p q = let h = sym q ∙ p in cc

-- the same parts, from the same place on
pub exchanged : {a b : List Part} {m n : List Token} {d : Derivation Row} {r : List Token} → b ≡ a → n ≡ m → Is b n d r → Is a m d r
exchanged {a} {n} {d} {r} p q i = subst (λ l. Is a l d r) q (subst (λ l. Is l n d r) p i)

pub one : {parts : List Part} {ts r s : List Token} {d e : Derivation Row} → Is parts ts d r → Is parts ts e s → (d ≡ e) × (r ≡ s)
one nothing nothing = (refl, refl)
one (token {t} f a) (token g b) = let x = one a b in (ap (λ l. Then (Leaf t) l) x.0, x.1)
one (token f a) (phrase p inner k i b) = absurd f
one (phrase p inner k i a) (token g b) = absurd g
one (phrase p inner {d} {e} k i a) (phrase q other {d = d2} {e = e2} l j b) =
    let x = one i (exchanged (same_parts k l) refl j) in
    let y = one a (exchanged refl (sym x.1) b) in
    (ap (λ (z : Derivation Row). Then (Node p z) e) x.0 ∙ ap (λ (z : Derivation Row). Then (Node p d2) z) y.0, y.1)

pub never : {parts : List Part} {ts r s : List Token} {d e : Derivation Row} → Stuck parts ts d s → Is parts ts e r → ⊥
never (unfit n u) (token f a) = u f
never (unfit n u) (phrase p inner k i a) = n p refl
never (behind f s) (token g a) = never s a
never (behind f s) (phrase p inner k i a) = f
never (no_phrase p n) (token f a) = f
never (no_phrase p n) (phrase q inner k i a) = let h = sym n ∙ k in cc
never (inside p inner k s) (token f a) = f
never (inside p inner k s) (phrase q other l j a) = never s (exchanged (same_parts k l) refl j)
never (after p inner k i s) (token f a) = f
never (after p inner k i s) (phrase q other l j a) =
    let x = one i (exchanged (same_parts k l) refl j) in never s (exchanged refl (sym x.1) a)

-- the next token is of the same kind, or there is none in both
abbrev pub SameNext : List Token → List Token → Type 0
SameNext [] [] = Unit {0}
SameNext [] (u ∷ us) = ⊥
SameNext (t ∷ ts) [] = ⊥
SameNext (t ∷ ts) (u ∷ us) = t.kind ≡ u.kind

pub same_next : (front rest other : List Token) → SameNext rest other → SameNext (front ++ rest) (front ++ other)
same_next [] rest other h = h
same_next (t ∷ ts) rest other h = refl

-- a phrase whose first token is of the same kind has the same parts
pub chosen : {p : Phrase} {inner parts : List Part} (t : Token) (ts : List Token) {us rest : List Token} {d e : Derivation Row} → parts_of p t.kind ≡ Some inner → SameNext (t ∷ ts) us
    → {mid : List Token} → Is inner us d mid → Is parts mid e rest → Is (A p ∷ parts) us (Then (Node p d) e) rest
chosen t ts {us = []} k h i a = absurd h
chosen {p} {inner} t ts {us = u ∷ us} k h i a = phrase p inner (subst (λ z. parts_of p z ≡ Some inner) h k) i a

pub two_fronts : {ts mid : List Token} (rest a b : List Token) → ts ≡ a ++ mid → mid ≡ b ++ rest → ts ≡ (a ++ b) ++ rest
two_fronts rest a b p q = p ∙ ap (λ l. a ++ l) q ∙ sym (append_assoc a b rest)
