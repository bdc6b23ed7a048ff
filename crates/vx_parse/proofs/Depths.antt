-- How deep phrases are whose parts stand beside each other.
use Rattle.std.proofs.Common.{◌≡◌, ◌+◌, ℕ, zero, suc, max, Bool, true, false, if◌then◌else◌, List, [], ◌∷◌, refl, ap, ◌∙◌, arith}
use Rattle.vx_ast.specs.declared.token.Token.{Token}
use Rattle.vx_ast.specs.Tree.{One, Row}
use Rattle.vx_ast.specs.Phrases.{Phrase, Block, Statement, ChoiceRest, Level, LevelRest, Primary, NameRest, Part, The, AName, ANumber, AString, A, Derivation, Leaf, Node, NoMore, Then, Is, nothing, token, phrase, Stuck, unfit, behind, no_phrase, inside, after, Begins, reached, reached_behind, reached_inside, reached_after}
use Rattle.vx_ast.specs.Derivations.{depth_behind, row_depth, itself}

-- a phrase that takes nothing that stands before it as an operand
abbrev pub is_plain : Phrase → Bool
is_plain (LevelRest n) = false
is_plain ChoiceRest = false
is_plain p = true

abbrev pub are_plain : List Part → Bool
are_plain [] = true
are_plain (A p ∷ ps) = if is_plain p then are_plain ps else false
are_plain (q ∷ ps) = are_plain ps

-- a phrase that is no construct
abbrev pub is_quiet : Phrase → Bool
is_quiet Block = false
is_quiet (Level n) = quiet_level n
  where
    quiet_level : ℕ → Bool
    quiet_level zero = false
    quiet_level (suc n) = true
is_quiet NameRest = false
is_quiet Primary = false
is_quiet Statement = false
is_quiet p = true

pub leaf_depth : (left : ℕ) (t : Token) → depth_behind left (Leaf t) ≡ left
unfolding depth_behind
leaf_depth left t = refl

pub none_depth : (left : ℕ) → row_depth left NoMore ≡ left
unfolding row_depth
none_depth left = refl

pub then_depth : (left : ℕ) (x : Derivation One) (d : Derivation Row) → row_depth left (Then x d) ≡ row_depth (depth_behind left x) d
unfolding row_depth
then_depth left x d = refl

pub plain_depth : (p : Phrase) → is_plain p ≡ true → (left : ℕ) (d : Derivation Row) → depth_behind left (Node p d) ≡ max left (itself p d + row_depth 0 d)
unfolding depth_behind
plain_depth (LevelRest n) h left d = absurd (cc)
plain_depth ChoiceRest h left d = absurd (cc)
plain_depth p h left d = refl

pub if_both : (a b : Bool) → (if a then b else false) ≡ true → (a ≡ true) × (b ≡ true)
if_both true b h = (refl, h)
if_both false b h = absurd (cc)

-- what stands beside plain phrases only counts by its own depth

pub data PlainRow : Derivation Row → Type 0 where
  no_row : PlainRow NoMore
  leaf_row : {t : Token} {d : Derivation Row} → PlainRow d → PlainRow (Then (Leaf t) d)
  node_row : {p : Phrase} {c d : Derivation Row} → is_plain p ≡ true → PlainRow d → PlainRow (Then (Node p c) d)

pub beside : {d : Derivation Row} → PlainRow d → (left : ℕ) → row_depth left d ≡ max left (row_depth 0 d)
beside no_row left = none_depth left ∙ (let h = none_depth 0 in omega arith)
beside (leaf_row {t} {d} r) left =
    let a = then_depth left (Leaf t) d in let b = then_depth 0 (Leaf t) d in
    let c : row_depth (depth_behind left (Leaf t)) d ≡ row_depth left d = ap (λ n. row_depth n d) (leaf_depth left t) in
    let e : row_depth (depth_behind 0 (Leaf t)) d ≡ row_depth 0 d = ap (λ n. row_depth n d) (leaf_depth 0 t) in
    let f = beside r left in
    omega arith
beside (node_row {p} {c} {d} h r) left =
    let a = then_depth left (Node p c) d in let b = then_depth 0 (Node p c) d in
    let e = plain_depth p h left c in let f = plain_depth p h 0 c in
    let g = beside r (depth_behind left (Node p c)) in let i = beside r (depth_behind 0 (Node p c)) in
    omega arith

pub stuck_plain : {ps : List Part} {here rest : List Token} {d : Derivation Row} → are_plain ps ≡ true → Stuck ps here d rest → PlainRow d
stuck_plain h (unfit n u) = no_row
stuck_plain h (behind {part = The k} f s) = leaf_row (stuck_plain h s)
stuck_plain h (behind {part = AName} f s) = leaf_row (stuck_plain h s)
stuck_plain h (behind {part = ANumber} f s) = leaf_row (stuck_plain h s)
stuck_plain h (behind {part = AString} f s) = leaf_row (stuck_plain h s)
stuck_plain h (behind {part = A p} f s) = absurd f
stuck_plain h (no_phrase p n) = no_row
stuck_plain h (inside p inner {parts} k s) = node_row (if_both (is_plain p) (are_plain parts) h).0 no_row
stuck_plain h (after p inner {parts} k i s) = let b = if_both (is_plain p) (are_plain parts) h in node_row b.0 (stuck_plain b.1 s)

pub begins_plain : {ps : List Part} {here rest : List Token} {d : Derivation Row} → are_plain ps ≡ true → Begins ps here d rest → PlainRow d
begins_plain h reached = no_row
begins_plain h (reached_behind {part = The k} f s) = leaf_row (begins_plain h s)
begins_plain h (reached_behind {part = AName} f s) = leaf_row (begins_plain h s)
begins_plain h (reached_behind {part = ANumber} f s) = leaf_row (begins_plain h s)
begins_plain h (reached_behind {part = AString} f s) = leaf_row (begins_plain h s)
begins_plain h (reached_behind {part = A p} f s) = absurd f
begins_plain h (reached_inside p inner {parts} k s) = node_row (if_both (is_plain p) (are_plain parts) h).0 no_row
begins_plain h (reached_after p inner {parts} k i s) = let b = if_both (is_plain p) (are_plain parts) h in node_row b.0 (begins_plain b.1 s)

pub is_plain_row : {ps : List Part} {here rest : List Token} {d : Derivation Row} → are_plain ps ≡ true → Is ps here d rest → PlainRow d
is_plain_row h nothing = no_row
is_plain_row h (token {part = The k} f s) = leaf_row (is_plain_row h s)
is_plain_row h (token {part = AName} f s) = leaf_row (is_plain_row h s)
is_plain_row h (token {part = ANumber} f s) = leaf_row (is_plain_row h s)
is_plain_row h (token {part = AString} f s) = leaf_row (is_plain_row h s)
is_plain_row h (token {part = A p} f s) = absurd f
is_plain_row h (phrase p inner {parts} k i s) = let b = if_both (is_plain p) (are_plain parts) h in node_row b.0 (is_plain_row b.1 s)

pub quiet_depth : (p : Phrase) → is_quiet p ≡ true → (d : Derivation Row) → itself p d ≡ 0
quiet_depth Block h d = absurd (cc)
quiet_depth NameRest h d = absurd (cc)
quiet_depth Primary h d = absurd (cc)
quiet_depth Statement h d = absurd (cc)
quiet_depth (Level zero) h d = absurd (cc)
quiet_depth (Level (suc n)) h d = refl
quiet_depth p h d = refl
