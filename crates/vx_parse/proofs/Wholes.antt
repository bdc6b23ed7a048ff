-- Whole programs and whole sources.
use Rattle.std.proofs.Common.{◌≡◌, ◌≤◌, ◌<◌, ℕ, List, [], ◌∷◌, Option, Some, None, refl, sym, ap, ◌∙◌, subst, arith}
use Rattle.vx_ast.specs.declared.fault.SourceFault.{SourceFault}
use Rattle.vx_ast.specs.declared.fault.SourceFault.TheVariants.{Bad, Limit}
use Rattle.vx_ast.specs.declared.token.Token.{Token}
use Rattle.vx_ast.specs.declared.names.Fault.{Fault}
use Rattle.vx_ast.specs.Tree.{Row}
use Rattle.vx_ast.specs.Syntax as syntax
use Rattle.vx_ast.specs.Tokens.{Lexes}
use Rattle.vx_ast.specs.Phrases.{A, Derivation, Is, Stuck, Begins}
use Rattle.vx_ast.specs.Phrases as phrases
use Rattle.vx_ast.specs.Derivations.{program_of, depth_of}
use Rattle.vx_ast.specs.Faults.{first_fault}
use Rattle.vx_ast.specs.Resolved.{resolved}
use Rattle.vx_ast.specs.Accepted.{Over, limit_of}
use Rattle.vx_ast.specs.Reads.{deepest_construct, Parses, Misparses, unexpected, too_deep, Missuits, faulty, over, too_long, in_tokens, in_grammar, in_names}
use Rattle.vx_ast.proofs.TokenLaws.{one_reading, never_both, one_fault}
use Rattle.vx_parse.specs.PhraseLaws.{OneTree, ParsedOrNot, OneMisparse, OneProgram, ReadOrNot, OneRefusal}
use Rattle.vx_parse.proofs.Ways.{one, never}
use Rattle.vx_parse.proofs.Unders.{begins_under, begins_under_stuck, one_stuck, row_under}

first_of_one : {t u : Token} → t ∷ [] ≡ u ∷ [] → t ≡ u
first_of_one e = cc

first_of_more : {t u : Token} {ts us : List Token} → t ∷ ts ≡ u ∷ us → t ≡ u
first_of_more e = cc

two_programs : {d e : Derivation Row} {t u : Token} → d ≡ e → t ≡ u → program_of d t ≡ program_of e u
two_programs {e} {t} p q = ap (λ z. program_of z t) p ∙ ap (program_of e) q

pub one_tree : OneTree
one_tree ts p q a b = let x = one a.is b.is in a.is_tree ∙ two_programs x.0 (first_of_one x.1) ∙ sym b.is_tree

-- too deep a front has too deep a whole
deep_or_not : {ts r s : List Token} {d e : Derivation Row} → Begins (A phrases.Program ∷ []) ts d r → 200 < depth_of d → Is (A phrases.Program ∷ []) ts e s → depth_of e ≤ deepest_construct → ⊥
deep_or_not b h i l = let u = row_under (begins_under b i) 0 0 (omega arith) in omega arith

deep_or_stuck : {ts r s : List Token} {d e : Derivation Row} → Begins (A phrases.Program ∷ []) ts d r → 200 < depth_of d → Stuck (A phrases.Program ∷ []) ts e s → depth_of e ≤ deepest_construct → ⊥
deep_or_stuck b h i l = let u = row_under (begins_under_stuck b i) 0 0 (omega arith) in omega arith

pub parsed_or_not : ParsedOrNot
parsed_or_not ts p f a (unexpected l) = never l.stuck a.is
parsed_or_not ts p f a (too_deep d) = deep_or_not d.begins d.deep a.is a.shallow

same_fault : {t u : Token} → t ≡ u → Bad 4 t.line t.column ≡ Bad 4 u.line u.column
same_fault e = ap (λ (t : Token). Bad 4 t.line t.column) e

pub one_misparse : OneMisparse
one_misparse ts f g (unexpected a) (unexpected b) = same_fault (first_of_more (one_stuck a.stuck b.stuck))
one_misparse ts f g (unexpected a) (too_deep d) = absurd (deep_or_stuck d.begins d.deep a.stuck a.shallow)
one_misparse ts f g (too_deep d) (unexpected a) = absurd (deep_or_stuck d.begins d.deep a.stuck a.shallow)
one_misparse ts f g (too_deep d) (too_deep e) = refl

-- whole sources

parses_in : {ts us : List Token} {p : syntax.Program} → ts ≡ us → Parses ts p → Parses us p
parses_in {p} e a = subst (λ (z : List Token). Parses z p) e a

misparses_in : {ts us : List Token} {f : SourceFault} → ts ≡ us → Misparses ts f → Misparses us f
misparses_in {f} e a = subst (λ (z : List Token). Misparses z f) e a

trees_agree : (b : List ℕ) {ts us : List Token} {p q : syntax.Program} → Lexes b ts → Lexes b us → Parses ts p → Parses us q → p ≡ q
trees_agree b {ts} {us} {p} {q} k l x y = one_tree us p q (parses_in (one_reading b ts us k l) x) y

pub one_program : OneProgram
one_program b p q x y = x.is_program ∙ ap resolved (trees_agree b x.lexes y.lexes x.parses y.parses) ∙ sym y.is_program

some_or_none : {T : Type 0} {o : Option T} {x : T} → o ≡ Some x → o ≡ None → ⊥
some_or_none p q = let e = sym p ∙ q in cc

missuits_not : (t : syntax.Program) (f : SourceFault) → Missuits t f → first_fault t ≡ None → limit_of (resolved t) ≡ None → ⊥
missuits_not t f (faulty g e) n l = some_or_none e n
missuits_not t f (over o e h) n l = some_or_none h l

pub read_or_not : ReadOrNot
read_or_not b p f x (too_long h) = let s = x.short in omega arith
read_or_not b p f x (in_tokens h r) = never_both b x.tokens f x.lexes r
read_or_not b p f x (in_grammar {ts} h l m) = parsed_or_not ts x.tree f (parses_in (one_reading b x.tokens ts x.lexes l) x.parses) m
read_or_not b p f x (in_names {ts} {tree} h l a m) =
    let e = trees_agree b x.lexes l x.parses a in missuits_not tree f m (ap first_fault (sym e) ∙ x.faultless) (ap (λ t. limit_of (resolved t)) (sym e) ∙ x.within)

same_some : {T : Type 0} {o : Option T} {x y : T} → o ≡ Some x → o ≡ Some y → x ≡ y
same_some p q = let e = sym p ∙ q in cc

one_missuit : (t : syntax.Program) (f g : SourceFault) → Missuits t f → Missuits t g → f ≡ g
one_missuit t f g (faulty a e) (faulty b h) = ap (λ (z : Fault). Bad z.code z.place.line z.place.column) (same_some e h)
one_missuit t f g (faulty a e) (over o h k) = absurd (some_or_none e h)
one_missuit t f g (over o h k) (faulty a e) = absurd (some_or_none e h)
one_missuit t f g (over o h k) (over q i l) = ap (λ (z : Over). Limit z.number z.count) (same_some k l)

pub one_refusal : OneRefusal
one_refusal b f g (too_long h) (too_long i) = refl
one_refusal b f g (too_long h) (in_tokens i r) = absurd (omega arith)
one_refusal b f g (too_long h) (in_grammar i l m) = absurd (omega arith)
one_refusal b f g (too_long h) (in_names i l a m) = absurd (omega arith)
one_refusal b f g (in_tokens i r) (too_long h) = absurd (omega arith)
one_refusal b f g (in_tokens i r) (in_tokens j s) = one_fault b f g r s
one_refusal b f g (in_tokens i r) (in_grammar {ts} j l m) = absurd (never_both b ts f l r)
one_refusal b f g (in_tokens i r) (in_names {ts} j l a m) = absurd (never_both b ts f l r)
one_refusal b f g (in_grammar i l m) (too_long h) = absurd (omega arith)
one_refusal b f g (in_grammar {ts} i l m) (in_tokens j s) = absurd (never_both b ts g l s)
one_refusal b f g (in_grammar {ts} i l m) (in_grammar {ts = us} j k n) = one_misparse us f g (misparses_in (one_reading b ts us l k) m) n
one_refusal b f g (in_grammar {ts} i l m) (in_names {ts = us} {tree} j k a n) = absurd (parsed_or_not us tree f a (misparses_in (one_reading b ts us l k) m))
one_refusal b f g (in_names i l a m) (too_long h) = absurd (omega arith)
one_refusal b f g (in_names {ts} i l a m) (in_tokens j s) = absurd (never_both b ts g l s)
one_refusal b f g (in_names {ts} {tree} i l a m) (in_grammar {ts = us} j k n) = absurd (parsed_or_not ts tree g a (misparses_in (one_reading b us ts k l) n))
one_refusal b f g (in_names {ts} {tree} i l a m) (in_names {ts = us} {tree = other} j k c n) =
    one_missuit other f g (subst (λ (z : syntax.Program). Missuits z f) (trees_agree b l k a c) m) n
