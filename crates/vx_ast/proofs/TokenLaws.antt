-- A source has tokens or a fault, in one way.
use Rattle.std.proofs.Common.{◌≡◌, ◌≢◌, ◌≤◌, ◌<◌, ◌+◌, ◌-◌, ◌⊎◌, ℕ, zero, suc, List, [], ◌∷◌, length, refl, sym, ◌∙◌, ap, subst, inl, inr, arith}
use Rattle.std.specs.List.{AllByRecursion}
use Rattle.std.proofs.lemmas.Bool.{cases_lt}
use Rattle.vx_ast.specs.declared.token.TokenKind.{TokenKind}
use Rattle.vx_ast.specs.declared.token.TokenKind.TheVariants as kinds
use Rattle.vx_ast.specs.declared.token.Token.{Token}
use Rattle.vx_ast.specs.declared.token.Piece.{Piece}
use Rattle.vx_ast.specs.declared.token.Piece.TheVariants.{Skipped, Spelled, Faulty}
use Rattle.vx_ast.specs.declared.fault.SourceFault.{SourceFault}
use Rattle.vx_ast.specs.declared.fault.SourceFault.TheVariants.{Bad}
use Rattle.vx_ast.specs.Tokens.{piece_at, IsWithin, LexesFrom, RefusesFrom, Lexes, Refuses, token_at, line_at, column_at, ReadOrRefused, NeverBoth, OneReading, OneFault, InOrder, SpansInOrder, Stands, TextsAreSlices}
use Rattle.vx_ast.proofs.PieceLaws.{at_within}

abbrev Read : List ℕ → ℕ → Type 0
Read bytes place = ((ts : List Token) × LexesFrom bytes place ts) ⊎ ((f : SourceFault) × RefusesFrom bytes place f)

skipped : (bytes : List ℕ) (place count : ℕ) → place < length bytes → piece_at bytes place ≡ Skipped count → Read bytes (place + count) → Read bytes place
skipped bytes place count h is (inl (ts, d)) = inl (ts, LexesFrom.skip count h is d)
skipped bytes place count h is (inr (f, d)) = inr (f, RefusesFrom.skip count h is d)

spelled : (bytes : List ℕ) (place count : ℕ) (kind : TokenKind) → place < length bytes → piece_at bytes place ≡ Spelled kind count → Read bytes (place + count) → Read bytes place
spelled bytes place count kind h is (inl (ts, d)) = inl (token_at bytes kind place count ∷ ts, LexesFrom.token kind count h is d)
spelled bytes place count kind h is (inr (f, d)) = inr (f, RefusesFrom.token kind count h is d)

by_piece : (bytes : List ℕ) (place : ℕ) (p : Piece) → place < length bytes → piece_at bytes place ≡ p → IsWithin p (length bytes - place)
    → ((count : ℕ) → 0 < count → place + count ≤ length bytes → Read bytes (place + count)) → Read bytes place
by_piece bytes place (Skipped count) h is fits more = skipped bytes place count h is (more count fits.0 (omega (arith, fits.1)))
by_piece bytes place (Spelled kind count) h is fits more = spelled bytes place count kind h is (more count fits.1 (omega (arith, fits.2)))
by_piece bytes place (Faulty code offset) h is fits more = inr (Bad code (line_at bytes (place + offset)) (column_at bytes (place + offset)), RefusesFrom.fault code offset h is)

read : (fuel : ℕ) (bytes : List ℕ) (place : ℕ) → length bytes - place ≤ fuel → place ≤ length bytes → (place < length bytes) ⊎ (length bytes ≤ place) → Read bytes place
read zero bytes place few within (inl h) = absurd (omega arith)
read (suc fuel) bytes place few within (inl h) =
    by_piece bytes place (piece_at bytes place) h refl (at_within bytes place h) (λ count some fits. read fuel bytes (place + count) (omega arith) fits (cases_lt (place + count) (length bytes)))
read zero bytes place few within (inr h) = let ended : place ≡ length bytes = omega arith in inl (token_at bytes kinds.End place 0 ∷ [], LexesFrom.end ended)
read (suc fuel) bytes place few within (inr h) = let ended : place ≡ length bytes = omega arith in inl (token_at bytes kinds.End place 0 ∷ [], LexesFrom.end ended)

pub read_or_refused : ReadOrRefused
read_or_refused bytes = read (length bytes) bytes 0 (omega arith) (omega arith) (cases_lt 0 (length bytes))

-- never both, and in one way

both : (bytes : List ℕ) (place : ℕ) (ts : List Token) (f : SourceFault) → LexesFrom bytes place ts → RefusesFrom bytes place f → ⊥
both bytes place ts f (LexesFrom.end e) (RefusesFrom.fault code offset h is) = omega arith
both bytes place ts f (LexesFrom.end e) (RefusesFrom.skip count h is d) = omega arith
both bytes place ts f (LexesFrom.end e) (RefusesFrom.token kind count h is d) = omega arith
both bytes place ts f (LexesFrom.skip n h is d) (RefusesFrom.fault code offset h' is') = let e : Skipped n ≡ Faulty code offset = sym is ∙ is' in cc
both bytes place ts f (LexesFrom.skip n h is d) (RefusesFrom.skip n' h' is' d') =
    let e : Skipped n ≡ Skipped n' = sym is ∙ is' in
    let same : n' ≡ n = cc in
    both bytes (place + n) _ _ d (subst (λ (m : ℕ). RefusesFrom bytes (place + m) f) same d')
both bytes place ts f (LexesFrom.skip n h is d) (RefusesFrom.token kind n' h' is' d') = let e : Skipped n ≡ Spelled kind n' = sym is ∙ is' in cc
both bytes place ts f (LexesFrom.token kind n h is d) (RefusesFrom.fault code offset h' is') = let e : Spelled kind n ≡ Faulty code offset = sym is ∙ is' in cc
both bytes place ts f (LexesFrom.token kind n h is d) (RefusesFrom.skip n' h' is' d') = let e : Spelled kind n ≡ Skipped n' = sym is ∙ is' in cc
both bytes place ts f (LexesFrom.token kind n h is d) (RefusesFrom.token kind' n' h' is' d') =
    let e : Spelled kind n ≡ Spelled kind' n' = sym is ∙ is' in
    let same : n' ≡ n = cc in
    both bytes (place + n) _ _ d (subst (λ (m : ℕ). RefusesFrom bytes (place + m) f) same d')

pub never_both : NeverBoth
never_both bytes ts f d e = both bytes 0 ts f d e

one : (bytes : List ℕ) (place : ℕ) (ts us : List Token) → LexesFrom bytes place ts → LexesFrom bytes place us → ts ≡ us
one bytes place ts us (LexesFrom.end e) (LexesFrom.end e') = refl
one bytes place ts us (LexesFrom.end e) (LexesFrom.skip n h is d) = absurd (omega arith)
one bytes place ts us (LexesFrom.end e) (LexesFrom.token kind n h is d) = absurd (omega arith)
one bytes place ts us (LexesFrom.skip n h is d) (LexesFrom.end e) = absurd (omega arith)
one bytes place ts us (LexesFrom.token kind n h is d) (LexesFrom.end e) = absurd (omega arith)
one bytes place ts us (LexesFrom.skip n h is d) (LexesFrom.token kind n' h' is' d') = let e : Skipped n ≡ Spelled kind n' = sym is ∙ is' in cc
one bytes place ts us (LexesFrom.token kind n h is d) (LexesFrom.skip n' h' is' d') = let e : Spelled kind n ≡ Skipped n' = sym is ∙ is' in cc
one bytes place ts us (LexesFrom.skip n h is d) (LexesFrom.skip n' h' is' d') =
    let e : Skipped n ≡ Skipped n' = sym is ∙ is' in
    let same : n' ≡ n = cc in
    one bytes (place + n) ts us d (subst (λ (m : ℕ). LexesFrom bytes (place + m) us) same d')
one bytes place ts us (LexesFrom.token kind n {ts = ts'} h is d) (LexesFrom.token kind' n' {ts = us'} h' is' d') =
    let e : Spelled kind n ≡ Spelled kind' n' = sym is ∙ is' in
    let same : n' ≡ n = cc in
    let kinds' : kind ≡ kind' = cc in
    let rest = one bytes (place + n) ts' us' d (subst (λ (m : ℕ). LexesFrom bytes (place + m) us') same d') in
    cc

pub one_reading : OneReading
one_reading bytes ts us d e = one bytes 0 ts us d e

one_at : (bytes : List ℕ) (place : ℕ) (f g : SourceFault) → RefusesFrom bytes place f → RefusesFrom bytes place g → f ≡ g
one_at bytes place f g (RefusesFrom.fault code n h is) (RefusesFrom.fault code' n' h' is') =
    let e : Faulty code n ≡ Faulty code' n' = sym is ∙ is' in
    let same : n ≡ n' = cc in
    let codes' : code ≡ code' = cc in
    cc
one_at bytes place f g (RefusesFrom.fault code n h is) (RefusesFrom.skip n' h' is' d') = let e : Faulty code n ≡ Skipped n' = sym is ∙ is' in cc
one_at bytes place f g (RefusesFrom.fault code n h is) (RefusesFrom.token kind n' h' is' d') = let e : Faulty code n ≡ Spelled kind n' = sym is ∙ is' in cc
one_at bytes place f g (RefusesFrom.skip n h is d) (RefusesFrom.fault code n' h' is') = let e : Skipped n ≡ Faulty code n' = sym is ∙ is' in cc
one_at bytes place f g (RefusesFrom.token kind n h is d) (RefusesFrom.fault code n' h' is') = let e : Spelled kind n ≡ Faulty code n' = sym is ∙ is' in cc
one_at bytes place f g (RefusesFrom.skip n h is d) (RefusesFrom.token kind n' h' is' d') = let e : Skipped n ≡ Spelled kind n' = sym is ∙ is' in cc
one_at bytes place f g (RefusesFrom.token kind n h is d) (RefusesFrom.skip n' h' is' d') = let e : Spelled kind n ≡ Skipped n' = sym is ∙ is' in cc
one_at bytes place f g (RefusesFrom.skip n h is d) (RefusesFrom.skip n' h' is' d') =
    let e : Skipped n ≡ Skipped n' = sym is ∙ is' in
    let same : n' ≡ n = cc in
    one_at bytes (place + n) f g d (subst (λ (m : ℕ). RefusesFrom bytes (place + m) g) same d')
one_at bytes place f g (RefusesFrom.token kind n h is d) (RefusesFrom.token kind' n' h' is' d') =
    let e : Spelled kind n ≡ Spelled kind' n' = sym is ∙ is' in
    let same : n' ≡ n = cc in
    one_at bytes (place + n) f g d (subst (λ (m : ℕ). RefusesFrom bytes (place + m) g) same d')

pub one_fault : OneFault
one_fault bytes f g d e = one_at bytes 0 f g d e

-- spans

later : (bytes : List ℕ) (low place : ℕ) (ts : List Token) → low ≤ place → InOrder bytes place ts → InOrder bytes low ts
later bytes low place [] h d = d
later bytes low place (t ∷ []) h d = d
later bytes low place (t ∷ u ∷ ts) h d = (d.0, omega (arith, d.1), d.2, d.3)

put_before : (bytes : List ℕ) (place count : ℕ) (kind : TokenKind) (ts : List Token) → kind ≢ kinds.End → 0 < count → InOrder bytes (place + count) ts → InOrder bytes place (token_at bytes kind place count ∷ ts)
put_before bytes place count kind [] ne some d = absurd d
put_before bytes place count kind (u ∷ ts) ne some d = (ne, omega arith, omega arith, d)

order : (bytes : List ℕ) (place : ℕ) (ts : List Token) → LexesFrom bytes place ts → InOrder bytes place ts
order bytes place ts (LexesFrom.end e) = ap (λ p. token_at bytes kinds.End p 0) e
order bytes place ts (LexesFrom.skip n h is d) = later bytes place (place + n) ts (omega arith) (order bytes (place + n) ts d)
order bytes place ts (LexesFrom.token kind n {ts = us} h is d) =
    let P : Piece → Type 0 = λ p. IsWithin p (length bytes - place) in
    let fits : IsWithin (Spelled kind n) (length bytes - place) = subst P is (at_within bytes place h) in
    put_before bytes place n kind us fits.0 fits.1 (order bytes (place + n) us d)

pub spans_in_order : SpansInOrder
spans_in_order bytes ts d = order bytes 0 ts d

-- texts

stands_at : (bytes : List ℕ) (place count : ℕ) (kind : TokenKind) → piece_at bytes place ≡ Spelled kind count → Stands bytes (token_at bytes kind place count)
stands_at bytes place count kind is = let e : place + count - place ≡ count = omega arith in ((λ _. rw e is), refl, refl)

stands : (bytes : List ℕ) (place : ℕ) (ts : List Token) → LexesFrom bytes place ts → AllByRecursion (Stands bytes) ts
stands bytes place ts (LexesFrom.end e) = (((λ ne. absurd (ne refl)), refl, refl), tt)
stands bytes place ts (LexesFrom.skip n h is d) = stands bytes (place + n) ts d
stands bytes place ts (LexesFrom.token kind n {ts = us} h is d) = (stands_at bytes place n kind is, stands bytes (place + n) us d)

pub texts_are_slices : TextsAreSlices
texts_are_slices bytes ts d = stands bytes 0 ts d
