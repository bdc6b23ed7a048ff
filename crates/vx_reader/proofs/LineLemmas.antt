-- The first line of a text, and how long a list of lines is.
use Rattle.std.proofs.Common.{◌≡◌, ℕ, zero, suc, ◌+◌, ◌<◌, ◌≤◌, Bool, true, false, List, [], ◌∷◌, length, take, drop, nat_eq, refl, ap, ◌∙◌, sym, arith, add-zero, get_or, subst, ◌++◌}
use borrow.Author.Tests.{eqb-true}
use Rattle.std.specs.List.{flat_map}
use Rattle.vx_words.specs.Spelling.{line}
use Rattle.vx_reader.specs.Reading.{is_field}
use Rattle.std.specs.List.{prefix_len, list_any}
use Rattle.vx_reader.specs.Text.{is_not_feed, lines, cons_first, marks_from, line_names}

abbrev before_feed : List ℕ → ℕ
before_feed text = prefix_len is_not_feed text

one_more : (c : ℕ) (ds : List ℕ) (n : ℕ) → (c ∷ take n ds) ∷ lines (drop (n + 1) ds) ≡ take (1 + n) (c ∷ ds) ∷ lines (drop (1 + n + 1) (c ∷ ds))
one_more c ds n =
    let one : 1 + n ≡ suc n = omega arith in
    let two : 1 + n + 1 ≡ suc (n + 1) = omega arith in
    rw (two, one) refl

lines_first_by : (c : ℕ) (cs : List ℕ) (b : Bool) → nat_eq c 10 ≡ b
    → (0 < length cs → lines cs ≡ take (before_feed cs) cs ∷ lines (drop (before_feed cs + 1) cs))
    → lines (c ∷ cs) ≡ take (before_feed (c ∷ cs)) (c ∷ cs) ∷ lines (drop (before_feed (c ∷ cs) + 1) (c ∷ cs))
lines_first_by c cs true e h = rw e refl
lines_first_by c [] false e h = rw e refl
lines_first_by c (d ∷ ds) false e h =
    rw e (ap (cons_first c) (h (omega arith)) ∙ one_more c (d ∷ ds) (before_feed (d ∷ ds)))

pub lines_first : (text : List ℕ) → 0 < length text →
    lines text ≡ take (prefix_len is_not_feed text) text ∷ lines (drop (prefix_len is_not_feed text + 1) text)
lines_first [] some = absurd (omega arith)
lines_first (c ∷ cs) some = lines_first_by c cs (nat_eq c 10) refl (λ h. lines_first cs h)

length_cons_first : (c : ℕ) (ls : List (List ℕ)) → length (cons_first c ls) ≤ length ls + 1
length_cons_first c [] = omega arith
length_cons_first c (l ∷ ls) = omega arith

length_lines_by : (c : ℕ) (cs : List ℕ) (b : Bool) → nat_eq c 10 ≡ b → length (lines cs) ≤ length cs → length (lines (c ∷ cs)) ≤ length cs + 1
length_lines_by c cs true e h = rw e (omega arith)
length_lines_by c cs false e h = rw e (omega (arith, length_cons_first c (lines cs)))

-- a line has a byte at least
pub length_lines : (text : List ℕ) → length (lines text) ≤ length text
length_lines [] = omega arith
length_lines (c ∷ cs) = let h = length_lines_by c cs (nat_eq c 10) refl (length_lines cs) in omega arith

-- marks by place are the list of marks
pub marks_from_places_at : (p n : ℕ) (marks : List Bool) (ls : List (List ℕ)) → length marks ≡ n
    → ((q : ℕ) → q < n → get_or marks q false ≡ list_any (line_names (p + q)) ls) → marks ≡ marks_from p n ls
marks_from_places_at p zero [] ls len at = refl
marks_from_places_at p zero (m ∷ ms) ls len at = absurd (omega (arith, len))
marks_from_places_at p (suc n) [] ls len at = absurd (omega (arith, len))
marks_from_places_at p (suc n) (m ∷ ms) ls len at =
    let here : m ≡ list_any (line_names p) ls = subst (λ q. m ≡ list_any (line_names q) ls) (add-zero p) (at 0 (omega arith)) in
    let there : (q : ℕ) → q < n → get_or ms q false ≡ list_any (line_names (p + 1 + q)) ls =
    λ q lt. subst (λ k. get_or ms q false ≡ list_any (line_names k) ls) (let e : p + suc q ≡ p + 1 + q = omega arith in e) (at (suc q) (omega arith)) in
    let tail : ms ≡ marks_from (p + 1) n ls = marks_from_places_at (p + 1) n ms ls (omega (arith, len)) there in
    cc

pub marks_from_places : (n : ℕ) (marks : List Bool) (ls : List (List ℕ)) → length marks ≡ n
    → ((q : ℕ) → q < n → get_or marks q false ≡ list_any (line_names q) ls) → marks ≡ marks_from 0 n ls
marks_from_places n marks ls len at =
    marks_from_places_at 0 n marks ls len (λ q lt. subst (λ k. get_or marks q false ≡ list_any (line_names k) ls) (let e : q ≡ 0 + q = omega arith in e) (at q lt))

-- the lines joined again

abbrev pub unlines : List (List ℕ) → List ℕ
unlines ls = flat_map line ls

joined_first : (c : ℕ) (ls : List (List ℕ)) (rest : List ℕ) → unlines ls ≡ rest ++ 10 ∷ [] → unlines (cons_first c ls) ≡ c ∷ (rest ++ 10 ∷ [])
joined_first c [] [] e = absurd cc
joined_first c [] (d ∷ ds) e = absurd cc
joined_first c (l ∷ ls) rest e = ap (λ t. c ∷ t) e

lines_joined_by : (c : ℕ) (cs : List ℕ) (b : Bool) → nat_eq c 10 ≡ b → unlines (lines (cs ++ 10 ∷ [])) ≡ cs ++ 10 ∷ []
    → unlines (lines (c ∷ (cs ++ 10 ∷ []))) ≡ c ∷ (cs ++ 10 ∷ [])
lines_joined_by c cs true e h = let ten : c ≡ 10 = eqb-true c 10 e in rw e (ap (λ t. 10 ∷ t) h ∙ ap (λ k. k ∷ (cs ++ 10 ∷ [])) (sym ten))
lines_joined_by c cs false e h = rw e (joined_first c (lines (cs ++ 10 ∷ [])) cs h)

pub lines_joined : (xs : List ℕ) → unlines (lines (xs ++ 10 ∷ [])) ≡ xs ++ 10 ∷ []
lines_joined [] = refl
lines_joined (c ∷ cs) = lines_joined_by c cs (nat_eq c 10) refl (lines_joined cs)

-- a field, and what stands behind its blank
pub field_then : (text : List ℕ) → 0 < length (drop (prefix_len is_field text + 1) text)
    → text ≡ take (prefix_len is_field text) text ++ 32 ∷ drop (prefix_len is_field text + 1) text
field_then [] some = absurd (omega arith)
field_then (c ∷ cs) some = field_then_by c cs (nat_eq c 32) refl some (λ h. field_then cs h)
  where
    field_then_by : (c : ℕ) (cs : List ℕ) (b : Bool) → nat_eq c 32 ≡ b → 0 < length (drop (prefix_len is_field (c ∷ cs) + 1) (c ∷ cs))
        → (0 < length (drop (prefix_len is_field cs + 1) cs) → cs ≡ take (prefix_len is_field cs) cs ++ 32 ∷ drop (prefix_len is_field cs + 1) cs)
        → c ∷ cs ≡ take (prefix_len is_field (c ∷ cs)) (c ∷ cs) ++ 32 ∷ drop (prefix_len is_field (c ∷ cs) + 1) (c ∷ cs)
    field_then_by c cs true e some h = rw e (ap (λ k. k ∷ cs) (eqb-true c 32 e))
    field_then_by c cs false e some h =
        let n = prefix_len is_field cs in
        let one : 1 + n ≡ suc n = omega arith in
        let two : 1 + n + 1 ≡ suc (n + 1) = omega arith in
        let some2 : 0 < length (drop (n + 1) cs) = subst (λ k. 0 < length (drop k (c ∷ cs))) two (rw e at some) in
        rw (e, two, one) (ap (λ t. c ∷ t) (h some2))
