-- No source is both read and refused, none is refused in two ways, and none is read in two ways.
use Rattle.std.proofs.Common.{◌≡◌, ◌≤◌, List, ◌∷◌, Option, Some, None, refl, sym, ◌∙◌, ap, subst, arith}
use Rattle.vx_ast.specs.declared.fault.SourceFault.{SourceFault}
use Rattle.vx_ast.specs.declared.fault.SourceFault.TheVariants.{Bad, Limit}
use Rattle.vx_ast.specs.declared.names.Fault.{Fault}
use Rattle.vx_ast.specs.declared.token.Token.{Token}
use Rattle.vx_ast.specs.Tree.{Row}
use Rattle.vx_ast.specs.Syntax as syntax
use Rattle.vx_ast.specs.Phrases.{Derivation}
use Rattle.vx_ast.specs.Derivations.{program_of, depth_of, TooDeep}
use Rattle.vx_ast.specs.Faults.{first_fault}
use Rattle.vx_ast.specs.Resolved.{resolved}
use Rattle.vx_ast.specs.Accepted.{Over, limit_of}
use Rattle.vx_ast.specs.Reads.{Parses, Leaves, Misparses, unexpected, too_deep, Missuits, faulty, over, too_long, in_tokens, in_grammar, in_names}
use Rattle.vx_ast.proofs.TokenLaws as tokens
use Rattle.vx_parse.proofs.Ways.{one, never}
use Rattle.vx_files.specs.Laws.{OneProgram, ReadOrNot, OneRefusal}
use Rattle.vx_files.proofs.Fronts.{Within, of_read, of_stuck, one_stuck, row_at, deeper}

no_deeper : {e d : Derivation Row} → Within Row e d → depth_of e ≤ depth_of d
no_deeper {e} {d} w = let a = row_at 0 e in let b = row_at 0 d in let h = deeper w 0 0 (omega arith) in omega arith

-- trees

one_tree : (ts : List Token) (t u : syntax.Program) → Parses ts t → Parses ts u → t ≡ u
one_tree ts t u a b =
    let same = one a.is b.is in
    let end : a.last ≡ b.last = let e = same.1 in cc in
    a.is_tree ∙ ap (λ (d : Derivation Row). program_of d a.last) same.0 ∙ ap (program_of b.derivation) end ∙ sym b.is_tree

never_both_here : (ts : List Token) (t : syntax.Program) (f : SourceFault) → Parses ts t → Misparses ts f → ⊥
never_both_here ts t f a (unexpected l) = never l.stuck a.is
never_both_here ts t f a (too_deep d) = let h = no_deeper (of_read a.is d.begins) in let g = d.deep in let k = a.shallow in omega arith

same_token : (t u : Token) (r s : List Token) → t ∷ r ≡ u ∷ s → t ≡ u
same_token t u r s e = cc

not_deep : (ts : List Token) (t : Token) → Leaves ts t → TooDeep ts → ⊥
not_deep ts t l d = let h = no_deeper (of_stuck l.stuck d.begins) in let g = d.deep in let k = l.shallow in omega arith

one_misparse : (ts : List Token) (f g : SourceFault) → Misparses ts f → Misparses ts g → f ≡ g
one_misparse ts f g (unexpected {t} l) (unexpected {t = u} m) = ap (λ (x : Token). Bad 4 x.line x.column) (same_token t u l.rest m.rest (one_stuck l.stuck m.stuck))
one_misparse ts f g (unexpected {t} l) (too_deep d) = absurd (not_deep ts t l d)
one_misparse ts f g (too_deep d) (unexpected {t} l) = absurd (not_deep ts t l d)
one_misparse ts f g (too_deep d) (too_deep e) = refl

-- names, kinds and limits

same_fault : (o : Option Fault) (f g : Fault) → o ≡ Some f → o ≡ Some g → f ≡ g
same_fault o f g a b = cc

same_over : (o : Option Over) (f g : Over) → o ≡ Some f → o ≡ Some g → f ≡ g
same_over o f g a b = cc

no_fault : (o : Option Fault) (f : Fault) → o ≡ Some f → o ≡ None → ⊥
no_fault o f a b = cc

no_over : (o : Option Over) (f : Over) → o ≡ Some f → o ≡ None → ⊥
no_over o f a b = cc

one_missuit : (tree : syntax.Program) (f g : SourceFault) → Missuits tree f → Missuits tree g → f ≡ g
one_missuit tree f g (faulty a e) (faulty b h) = ap (λ (x : Fault). Bad x.code x.place.line x.place.column) (same_fault (first_fault tree) a b e h)
one_missuit tree f g (faulty a e) (over o none is) = absurd (no_fault (first_fault tree) a e none)
one_missuit tree f g (over o none is) (faulty a e) = absurd (no_fault (first_fault tree) a e none)
one_missuit tree f g (over o none is) (over p none' is') = ap (λ (x : Over). Limit x.number x.count) (same_over (limit_of (resolved tree)) o p is is')

no_missuit : (tree : syntax.Program) (f : SourceFault) → first_fault tree ≡ None → limit_of (resolved tree) ≡ None → Missuits tree f → ⊥
no_missuit tree f fine within (faulty a e) = no_fault (first_fault tree) a e fine
no_missuit tree f fine within (over o none is) = no_over (limit_of (resolved tree)) o is within

-- the whole

same_parse : {ts us : List Token} {t : syntax.Program} → us ≡ ts → Parses us t → Parses ts t
same_parse {t} e p = subst (λ (l : List Token). Parses l t) e p

same_misparse : {ts us : List Token} {f : SourceFault} → us ≡ ts → Misparses us f → Misparses ts f
same_misparse {f} e p = subst (λ (l : List Token). Misparses l f) e p

pub never_both : ReadOrNot
never_both bytes program fault r (too_long long) = let s = r.short in omega arith
never_both bytes program fault r (in_tokens short f) = tokens.never_both bytes r.tokens fault r.lexes f
never_both bytes program fault r (in_grammar {ts} short lexes f) = never_both_here r.tokens r.tree fault r.parses (same_misparse (tokens.one_reading bytes ts r.tokens lexes r.lexes) f)
never_both bytes program fault r (in_names {ts} {tree} short lexes parses f) =
    no_missuit r.tree fault r.faultless r.within (subst (λ (t : syntax.Program). Missuits t fault) (one_tree r.tokens tree r.tree (same_parse (tokens.one_reading bytes ts r.tokens lexes r.lexes) parses) r.parses) f)

pub one_refusal : OneRefusal
one_refusal bytes f g (too_long long) (too_long long') = refl
one_refusal bytes f g (too_long long) (in_tokens short b) = absurd (omega arith)
one_refusal bytes f g (too_long long) (in_grammar short lexes b) = absurd (omega arith)
one_refusal bytes f g (too_long long) (in_names short lexes parses b) = absurd (omega arith)
one_refusal bytes f g (in_tokens short a) (too_long long) = absurd (omega arith)
one_refusal bytes f g (in_tokens short a) (in_tokens short' b) = tokens.one_fault bytes f g a b
one_refusal bytes f g (in_tokens short a) (in_grammar {ts} short' lexes b) = absurd (tokens.never_both bytes ts f lexes a)
one_refusal bytes f g (in_tokens short a) (in_names {ts} short' lexes parses b) = absurd (tokens.never_both bytes ts f lexes a)
one_refusal bytes f g (in_grammar short lexes a) (too_long long) = absurd (omega arith)
one_refusal bytes f g (in_grammar {ts} short lexes a) (in_tokens short' b) = absurd (tokens.never_both bytes ts g lexes b)
one_refusal bytes f g (in_grammar {ts} short lexes a) (in_grammar {ts = us} short' lexes' b) = one_misparse ts f g a (same_misparse (tokens.one_reading bytes us ts lexes' lexes) b)
one_refusal bytes f g (in_grammar {ts} short lexes a) (in_names {ts = us} {tree} short' lexes' parses b) =
    absurd (never_both_here ts tree f (same_parse (tokens.one_reading bytes us ts lexes' lexes) parses) a)
one_refusal bytes f g (in_names short lexes parses a) (too_long long) = absurd (omega arith)
one_refusal bytes f g (in_names {ts} short lexes parses a) (in_tokens short' b) = absurd (tokens.never_both bytes ts g lexes b)
one_refusal bytes f g (in_names {ts} {tree} short lexes parses a) (in_grammar {ts = us} short' lexes' b) =
    absurd (never_both_here ts tree g parses (same_misparse (tokens.one_reading bytes us ts lexes' lexes) b))
one_refusal bytes f g (in_names {ts} {tree} short lexes parses a) (in_names {ts = us} {tree = tree'} short' lexes' parses' b) =
    one_missuit tree f g a (subst (λ (t : syntax.Program). Missuits t g) (one_tree ts tree' tree (same_parse (tokens.one_reading bytes us ts lexes' lexes) parses') parses) b)

pub one_program : OneProgram
one_program bytes p q r s =
    r.is_program
    ∙ ap resolved (one_tree r.tokens r.tree s.tree r.parses (same_parse (tokens.one_reading bytes s.tokens r.tokens s.lexes r.lexes) s.parses))
    ∙ sym s.is_program
