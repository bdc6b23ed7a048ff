-- Where globals begin, and how memory starts.
use Rattle.std.proofs.Common.{◌≡◌, ◌≢◌, ◌<◌, ◌≤◌, ◌+◌, ◌*◌, ◌%◌, ℕ, drop, get_or, zero, suc, ℤ, pos, Bool, true, false, nat_lt, Some, None, List, [], ◌∷◌, ◌++◌, length, slice_get, slice_index_or, refl, sym, ap, ◌∙◌, subst, arith}
use Rattle.std.specs.Prelude.{if◌then◌else◌, ◌==◌}
use Rattle.std.proofs.lemmas.Bool.{and_parts, and_from, cond-false, cond-true, eq-eqb, le-leb, lt-ltb, ltb-true, ne_eqb}
use Rattle.std.proofs.lemmas.List.{at_drop_more}
use Rattle.vx_flow.specs.declared.graph.Global.{Global}
use Rattle.vx_isa.specs.Machine.{memory_at_start}
use Rattle.vx_isa.specs.Sound.{is_not_zero, is_start}
use Rattle.vx_target.specs.Frames.{first_or_zero}
use Rattle.vx_target.specs.Tied.{words_before}
use Rattle.vx_calls.proofs.Pieces.{placed_more}
use Rattle.vx_calls.specs.Globals.{begins_from, first_from, firsts_from, is_set, words_in}

-- begins

pub begins_each : (n : ℕ) (gs : List Global) → length (begins_from n gs) ≡ length gs
begins_each n [] = refl
begins_each n (g ∷ gs) = ap suc (begins_each (n + g.words) gs)

begin_is : (n : ℕ) (gs : List Global) (a : ℕ) → a < length gs → slice_index_or (begins_from n gs) a 0 ≡ n + words_before gs a
begin_is n [] a h = absurd (omega arith)
begin_is n (g ∷ gs) zero h = omega arith
begin_is n (g ∷ gs) (suc a) h = let e = begin_is (n + g.words) gs a (omega arith) in omega arith

pub begins : (gs : List Global) (a : ℕ) → a < length gs → slice_index_or (begins_from 0 gs) a 0 ≡ words_before gs a
begins gs a h = let e = begin_is 0 gs a h in omega arith

-- the first words of globals

passed : (b : Bool) (n x : ℕ) (z : ℤ) (rest : List (ℕ × ℤ)) → (b ≡ true → x ≢ 4 * n) → memory_at_start ((if b then (4 * n, z) ∷ [] else []) ++ rest) x ≡ memory_at_start rest x
passed true n x z rest h = cond-false (x == 4 * n) z (memory_at_start rest x) (ne_eqb x (4 * n) (h refl))
passed false n x z rest h = refl

some_words : (g : Global) → is_set g ≡ true → 0 < g.words
some_words g e = ltb-true 0 g.words (and_parts (nat_lt 0 g.words) (is_not_zero g.first) e).0

none_below : (n : ℕ) (gs : List Global) (x : ℕ) → x < 4 * n → memory_at_start (firsts_from n gs) x ≡ pos 0
none_below n [] x h = refl
none_below n (g ∷ gs) x h = passed (is_set g) n x g.first (firsts_from (n + g.words) gs) (λ b e. omega arith) ∙ none_below (n + g.words) gs x (omega arith)

zero_first : (z : ℤ) → is_not_zero z ≡ false → z ≡ pos 0
zero_first (pos zero) e = refl
zero_first (pos (suc n)) e = absurd (let h : true ≡ false = e in cc)
zero_first z e = absurd (let h : true ≡ false = e in cc)

-- the first word of a global
at_first : (n : ℕ) (g : Global) (gs : List Global) → 0 < g.words → memory_at_start (firsts_from n (g ∷ gs)) (4 * n) ≡ g.first
at_first n g gs some = by (is_not_zero g.first) refl
  where
    rest : List (ℕ × ℤ)
    rest = firsts_from (n + g.words) gs

    by : (b : Bool) → is_not_zero g.first ≡ b → memory_at_start ((if is_set g then (4 * n, g.first) ∷ [] else []) ++ rest) (4 * n) ≡ g.first
    by true e =
        let s : is_set g ≡ true = and_from (nat_lt 0 g.words) (is_not_zero g.first) (lt-ltb 0 g.words some) e in
        subst (λ b. memory_at_start ((if b then (4 * n, g.first) ∷ [] else []) ++ rest) (4 * n) ≡ g.first) (sym s) (cond-true (4 * n == 4 * n) g.first (memory_at_start rest (4 * n)) (eq-eqb (4 * n) (4 * n) refl))
    by false e =
        passed (is_set g) n (4 * n) g.first rest (λ s. absurd (let z : true ≡ false = sym (and_parts (nat_lt 0 g.words) (is_not_zero g.first) s).1 ∙ e in cc))
        ∙ none_below (n + g.words) gs (4 * n) (omega arith) ∙ sym (zero_first g.first e)

some_is : {a b : Global} → Some a ≡ Some b → a ≡ b
some_is e = cc

starts_from : (n : ℕ) (gs : List Global) (a i : ℕ) (x : Global) → slice_get gs a ≡ Some x → i < x.words → memory_at_start (firsts_from n gs) (4 * (n + (words_before gs a + i))) ≡ first_or_zero x.first i
starts_from n [] a i x e h = absurd (let z : None ≡ Some x = e in cc)
starts_from n (g ∷ gs) zero zero x e h =
    let s = some_is e in
    let z : 4 * (n + (0 + 0)) ≡ 4 * n = omega arith in
    ap (memory_at_start (firsts_from n (g ∷ gs))) z ∙ at_first n g gs (subst (λ y. 0 < y.words) (sym s) h) ∙ ap (λ y. y.first) s
starts_from n (g ∷ gs) zero (suc i) x e h =
    let s : suc i < g.words = subst (λ y. suc i < y.words) (sym (some_is e)) h in
    passed (is_set g) n (4 * (n + (0 + suc i))) g.first (firsts_from (n + g.words) gs) (λ b z. omega arith)
    ∙ none_below (n + g.words) gs (4 * (n + (0 + suc i))) (omega arith) ∙ sym (cond-false (suc i == 0) x.first (pos 0) (ne_eqb (suc i) 0 (λ z. omega arith)))
starts_from n (g ∷ gs) (suc a) i x e h =
    let w = words_before gs a in
    let z : 4 * (n + (g.words + w + i)) ≡ 4 * (n + g.words + (w + i)) = omega arith in
    passed (is_set g) n (4 * (n + (g.words + w + i))) g.first (firsts_from (n + g.words) gs) (λ b q. let k = some_words g b in omega arith)
    ∙ ap (memory_at_start (firsts_from (n + g.words) gs)) z ∙ starts_from (n + g.words) gs a i x e h

pub starts : (gs : List Global) (a i : ℕ) (x : Global) → slice_get gs a ≡ Some x → i < x.words → memory_at_start (firsts_from 0 gs) (4 * (words_before gs a + i)) ≡ first_or_zero x.first i
starts gs a i x e h =
    let z : 4 * (words_before gs a + i) ≡ 4 * (0 + (words_before gs a + i)) = omega arith in
    ap (memory_at_start (firsts_from 0 gs)) z ∙ starts_from 0 gs a i x e h

-- they ascend, and stand in memory

one_ascends : (b : Bool) (g : Global) (n memory least : ℕ) (rest : List (ℕ × ℤ)) → is_set g ≡ b → least ≤ 4 * n → 4 * (n + g.words) ≤ memory → ((least : ℕ) → least ≤ 4 * (n + g.words) → is_start memory least rest ≡ true) → is_start memory least ((if b then (4 * n, g.first) ∷ [] else []) ++ rest) ≡ true
one_ascends true g n memory least rest e low high more =
    let some = some_words g e in
    and_from _ _ (and_from _ _ (and_from _ _ (and_from _ _ (le-leb least (4 * n) low) (eq-eqb ((4 * n) % 4) 0 (omega arith))) (lt-ltb (4 * n) memory (omega arith))) (and_parts (nat_lt 0 g.words) (is_not_zero g.first) e).1) (more (4 * n + 1) (omega arith))
one_ascends false g n memory least rest e low high more = more least (omega arith)

ascends_from : (n : ℕ) (gs : List Global) (memory least : ℕ) → least ≤ 4 * n → 4 * (n + words_in gs) ≤ memory → is_start memory least (firsts_from n gs) ≡ true
ascends_from n [] memory least low high = refl
ascends_from n (g ∷ gs) memory least low high = one_ascends (is_set g) g n memory least (firsts_from (n + g.words) gs) refl low (omega arith) (λ k q. ascends_from (n + g.words) gs memory k q (omega arith))

pub ascends : (gs : List Global) (memory : ℕ) → 4 * words_before gs (length gs) ≤ memory → is_start memory 0 (firsts_from 0 gs) ≡ true
ascends gs memory h = ascends_from 0 gs memory 0 (omega arith) (omega arith)

-- the words of one more
pub words_more : (gs : List Global) (i n next whole : ℕ) (g : Global) → n + words_in (drop i gs) ≡ whole → i < length gs → next ≡ n + (get_or gs i g).words → next + words_in (drop (i + 1) gs) ≡ whole
words_more gs i n next whole g so_far lt is = let e = at_drop_more words_in gs i g lt in omega (arith, e, is, so_far)

-- the first word of one more
pub first_more : (gs : List Global) (i n next : ℕ) (g : Global) (out now whole : List (ℕ × ℤ)) → out ++ firsts_from n (drop i gs) ≡ whole → i < length gs → now ≡ out ++ first_from n (get_or gs i g) → next ≡ n + (get_or gs i g).words → now ++ firsts_from next (drop (i + 1) gs) ≡ whole
first_more gs i n next g out now whole so_far lt put is =
    let first = first_from n (get_or gs i g) in
    placed_more firsts_from out whole n gs i so_far now first next g lt (ap (λ (k : ℕ). first ++ firsts_from k (drop (i + 1) gs)) (sym is)) put
