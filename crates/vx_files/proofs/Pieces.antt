-- The pieces of an input's text, one after the other.
use Rattle.std.proofs.Common.{◌≡◌, ℕ, suc, ◌+◌, ◌<◌, ◌≤◌, Bool, true, false, ℤ, List, [], ◌∷◌, ◌++◌, length, take, drop, Some, None, Result, Ok, Err, refl, ap, ◌∙◌, sym, arith, append_assoc}
use Rattle.std.specs.List.{prefix_len}
use Rattle.std.proofs.lemmas.List.{length-drop, length-take}
use Rattle.vx_files.specs.InputText.{is_blank, is_no_blank, pieces, cons_first, number_of, number_then, numbers_from}

abbrev before_blank : List ℕ → ℕ
before_blank text = prefix_len is_no_blank text

one_more : (c : ℕ) (ds : List ℕ) (n : ℕ) → (c ∷ take n ds) ∷ pieces (drop (n + 1) ds) ≡ take (1 + n) (c ∷ ds) ∷ pieces (drop (1 + n + 1) (c ∷ ds))
one_more c ds n =
    let one : 1 + n ≡ suc n = omega arith in
    let two : 1 + n + 1 ≡ suc (n + 1) = omega arith in
    rw (two, one) refl

pieces_first_by : (c : ℕ) (cs : List ℕ) (b : Bool) → is_blank c ≡ b
    → (0 < length cs → pieces cs ≡ take (before_blank cs) cs ∷ pieces (drop (before_blank cs + 1) cs))
    → pieces (c ∷ cs) ≡ take (before_blank (c ∷ cs)) (c ∷ cs) ∷ pieces (drop (before_blank (c ∷ cs) + 1) (c ∷ cs))
pieces_first_by c cs true e h = rw e refl
pieces_first_by c [] false e h = rw e refl
pieces_first_by c (d ∷ ds) false e h =
    rw e (ap (cons_first c) (h (omega arith)) ∙ one_more c (d ∷ ds) (before_blank (d ∷ ds)))

pub pieces_first : (text : List ℕ) → 0 < length text →
    pieces text ≡ take (prefix_len is_no_blank text) text ∷ pieces (drop (prefix_len is_no_blank text + 1) text)
pieces_first [] some = absurd (omega arith)
pieces_first (c ∷ cs) some = pieces_first_by c cs (is_blank c) refl (λ h. pieces_first cs h)

-- what stands behind a piece and its blank

pub shorter_behind : (text rest : List ℕ) (end : ℕ) → 0 < length text → rest ≡ drop (end + 1) text → length rest < length text
shorter_behind text rest end some is = omega (arith, some, ap (λ (l : List ℕ). length l) is, length-drop (end + 1) text)

pub blank_behind : (text rest : List ℕ) (end : ℕ) → end ≤ length text → rest ≡ drop (end + 1) text → 0 < length rest → length (take end text) + 1 + length rest ≤ length text
blank_behind text rest end within is more = omega (arith, within, more, ap (λ (l : List ℕ). length l) is, length-drop (end + 1) text, length-take end text)

-- numbers that were read before those that a reading gives
abbrev pub behind : List ℤ → Result (List ℤ) ℕ → Result (List ℤ) ℕ
behind before (Ok numbers) = Ok (before ++ numbers)
behind before (Err place) = Err place

pub behind_none : (r : Result (List ℤ) ℕ) → behind [] r ≡ r
behind_none (Ok numbers) = refl
behind_none (Err place) = refl

behind_more : (before : List ℤ) (z : ℤ) (place : ℕ) (r : Result (List ℤ) ℕ) → behind before (number_then place (Some z) r) ≡ behind (before ++ z ∷ []) r
behind_more before z place (Ok numbers) = ap Ok (sym (append_assoc before (z ∷ []) numbers))
behind_more before z place (Err p) = refl

-- an empty piece
pub nothing_there : (before : List ℤ) (place : ℕ) (piece : List ℕ) (rest : List (List ℕ)) → length piece ≡ 0 →
    behind before (numbers_from place (piece ∷ rest)) ≡ behind before (numbers_from (place + length piece + 1) rest)
nothing_there before place [] rest none = let same : place + 0 + 1 ≡ place + 1 = omega arith in ap (λ n. behind before (numbers_from n rest)) (sym same)
nothing_there before place (c ∷ cs) rest none = absurd (omega (arith, none))

-- a piece with a number
pub number_there : (before : List ℤ) (place : ℕ) (piece : List ℕ) (rest : List (List ℕ)) (z : ℤ) → 0 < length piece → number_of piece ≡ Some z →
    behind before (numbers_from place (piece ∷ rest)) ≡ behind (before ++ z ∷ []) (numbers_from (place + length piece + 1) rest)
number_there before place [] rest z some is = absurd (omega (arith, some))
number_there before place (c ∷ cs) rest z some is = rw is (behind_more before z place (numbers_from (place + length (c ∷ cs) + 1) rest))

-- a piece with none
pub no_number_there : (before : List ℤ) (place : ℕ) (piece : List ℕ) (rest : List (List ℕ)) → 0 < length piece → number_of piece ≡ None →
    behind before (numbers_from place (piece ∷ rest)) ≡ Err place
no_number_there before place [] rest some is = absurd (omega (arith, some))
no_number_there before place (c ∷ cs) rest some is = rw is refl

-- a turn with a number, and the end

pub number_more : (before now : List ℤ) (place : ℕ) (rest piece after : List ℕ) (z : ℤ) (whole : Result (List ℤ) ℕ) → behind before (numbers_from place (pieces rest)) ≡ whole → pieces rest ≡ piece ∷ pieces after → 0 < length piece →
    number_of piece ≡ Some z → now ≡ before ++ z ∷ [] → behind now (numbers_from (place + (length piece + 1)) (pieces after)) ≡ whole
number_more before now place rest piece after z whole so_far first some is put =
    let on : place + (length piece + 1) ≡ place + length piece + 1 = omega arith in
    ap (λ l. behind l (numbers_from (place + (length piece + 1)) (pieces after))) put ∙ ap (λ n. behind (before ++ z ∷ []) (numbers_from n (pieces after))) on
    ∙ sym (number_there before place piece (pieces after) z some is) ∙ ap (λ l. behind before (numbers_from place l)) (sym first) ∙ so_far

pub within_more : (place total : ℕ) (rest piece after : List ℕ) → 0 < length rest → (0 < length rest → place + length rest ≤ total) → (0 < length after → length piece + 1 + length after ≤ length rest) → 0 < length after
    → place + (length piece + 1) + length after ≤ total
within_more place total rest piece after some so_far blank more = omega (arith, so_far some, blank more)
