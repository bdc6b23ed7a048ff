-- The line and the column behind one more byte, and how large they can be.
use Rattle.std.proofs.Common.{◌≡◌, ◌≢◌, ℕ, ◌+◌, ◌-◌, ◌<◌, ◌≤◌, Bool, true, nat_eq, List, take, length, get_or, refl, arith}
use Rattle.std.specs.List.{count_by, suffix_len}
use Rattle.std.proofs.lemmas.Bool.{ne_eqb}
use Rattle.std.proofs.lemmas.List.{length-take}
use Rattle.std.proofs.lemmas.List.Sums.{count_by_more_no, count_by_more_yes, suffix_len-take_no, suffix_len-take_yes, count_by-le-length, suffix_len-le-length}
use Rattle.vx_ast.specs.Tokens.{line_at, column_at, is_in_line}

abbrev is_feed : ℕ → Bool
is_feed b = nat_eq b 10

pub line_feed : (bytes : List ℕ) (k : ℕ) → k < length bytes → get_or bytes k 0 ≡ 10 → line_at bytes (k + 1) ≡ line_at bytes k + 1
line_feed bytes k h is =
    let more : count_by is_feed (take (k + 1) bytes) ≡ count_by is_feed (take k bytes) + 1 = count_by_more_yes is_feed bytes k 0 h (rw is refl) in omega arith

pub line_on : (bytes : List ℕ) (k : ℕ) → k < length bytes → get_or bytes k 0 ≢ 10 → line_at bytes (k + 1) ≡ line_at bytes k
line_on bytes k h isnt =
    let more : count_by is_feed (take (k + 1) bytes) ≡ count_by is_feed (take k bytes) = count_by_more_no is_feed bytes k 0 h (ne_eqb _ _ isnt) in omega arith

pub column_feed : (bytes : List ℕ) (k : ℕ) → k < length bytes → get_or bytes k 0 ≡ 10 → column_at bytes (k + 1) ≡ 1
column_feed bytes k h is =
    let e : k + 1 - 1 ≡ k = omega arith in
    let none : suffix_len is_in_line (take (k + 1) bytes) ≡ 0 = suffix_len-take_no is_in_line bytes (k + 1) 0 (omega arith) (omega arith) (rw (e, is) refl) in omega arith

pub column_on : (bytes : List ℕ) (k : ℕ) → k < length bytes → get_or bytes k 0 ≢ 10 → column_at bytes (k + 1) ≡ column_at bytes k + 1
column_on bytes k h isnt =
    let e : k + 1 - 1 ≡ k = omega arith in
    let passes : is_in_line (get_or bytes (k + 1 - 1) 0) ≡ true = rw (e, ne_eqb _ _ isnt) refl in
    let more : suffix_len is_in_line (take (k + 1) bytes) ≡ 1 + suffix_len is_in_line (take (k + 1 - 1) bytes) = suffix_len-take_yes is_in_line bytes (k + 1) 0 (omega arith) (omega arith) passes in
    let more' : suffix_len is_in_line (take (k + 1) bytes) ≡ 1 + suffix_len is_in_line (take k bytes) = rw e at more in omega arith

taken : (bytes : List ℕ) (k : ℕ) → length (take k bytes) ≤ k
taken bytes k = rw (length-take k bytes) (omega arith)

pub line_small : (bytes : List ℕ) (k : ℕ) → line_at bytes k ≤ k + 1
line_small bytes k = omega (arith, count_by-le-length is_feed (take k bytes), taken bytes k)

pub column_small : (bytes : List ℕ) (k : ℕ) → column_at bytes k ≤ k + 1
column_small bytes k = omega (arith, suffix_len-le-length is_in_line (take k bytes), taken bytes k)
