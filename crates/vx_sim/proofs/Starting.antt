-- How the memory at the start is filled, word by word.
use Rattle.std.proofs.Common.{◌≡◌, ◌≢◌, ℕ, zero, suc, ◌+◌, ◌*◌, ◌/◌, ◌%◌, ◌<◌, ◌≤◌, Bool, true, false, ◌&&◌, ◌==◌, if◌then◌else◌, ℤ, pos, List, [], ◌∷◌, length, replicate, slice_index_or, nat_lt, nat_le, refl, sym, ap, ◌∙◌, arith, eqb-true, leb-true, ltb-true, le-leb}
use Rattle.std.proofs.Math.Nat.{mod-add-div'}
use Rattle.std.proofs.Math.Path.{fun_ext}
use Rattle.std.proofs.lemmas.Bool.Decides.{nat_tests}
use Rattle.vx_isa.specs.Sound.{is_start, is_not_zero, is_version, is_sound, is_sound_word}
use Rattle.vx_isa.specs.Machine.{stored, memory_at_start, is_word_of}
use Rattle.std.specs.List.{list_all}
use Rattle.vx_isa.specs.declared.program.WordProgram.{WordProgram}
use Rattle.vx_sim.specs.Held.{word_of}

-- the words that are still to be written, over a memory
abbrev pub started : List (ℕ × ℤ) → (ℕ → ℤ) → ℕ → ℤ
started [] memory a = memory a
started (p ∷ ps) memory a = if a == p.0 then p.1 else started ps memory a

and_left : (a b : Bool) → (a && b) ≡ true → a ≡ true
and_left true b e = refl
and_left false b e = e

and_right : (a b : Bool) → (a && b) ≡ true → b ≡ true
and_right true b e = e
and_right false b e = absurd (cc)

pub record Begins (memory least : ℕ) (p : ℕ × ℤ) (ps : List (ℕ × ℤ)) : Type 0 where
  pub low : least ≤ p.0
  pub aligned : p.0 % 4 ≡ 0
  pub below : p.0 < memory
  pub rest : is_start memory (p.0 + 1) ps ≡ true

pub begins : (memory least : ℕ) (p : ℕ × ℤ) (ps : List (ℕ × ℤ)) → is_start memory least (p ∷ ps) ≡ true → Begins memory least p ps
begins memory least p ps e =
    let e1 = and_left _ (is_start memory (p.0 + 1) ps) e in
    let e2 = and_left _ (is_not_zero p.1) e1 in
    let e3 = and_left _ (nat_lt p.0 memory) e2 in
    let e4 = and_left _ (p.0 % 4 == 0) e3 in
    record {
      low = leb-true least p.0 e4;
      aligned = eqb-true (p.0 % 4) 0 (and_right _ _ e3);
      below = ltb-true p.0 memory (and_right _ _ e2);
      rest = and_right _ _ e;
    }

other_word : (a b : ℕ) → a ≢ b → (a == b) ≡ false
other_word a b n = grind (arith, nat_tests)

-- a word below the others is written by none of them
over_stored : (memory least : ℕ) (ps : List (ℕ × ℤ)) (f : ℕ → ℤ) (q : ℕ) (z : ℤ) (a : ℕ) → q < least → is_start memory least ps ≡ true → started ps (stored f q z) a ≡ (if a == q then z else started ps f a)
over_stored memory least [] f q z a lt e = refl
over_stored memory least (p ∷ ps) f q z a lt e =
    let b = begins memory least p ps e in
    by (a == p.0) refl (over_stored memory (p.0 + 1) ps f q z a (let l = b.low in omega arith) b.rest)
  where
    by : (t : Bool) → (a == p.0) ≡ t → started ps (stored f q z) a ≡ (if a == q then z else started ps f a)
        → (if t then p.1 else started ps (stored f q z) a) ≡ (if a == q then z else (if t then p.1 else started ps f a))
    by true h more =
        let same : a ≡ p.0 = eqb-true a p.0 h in
        let l = (begins memory least p ps e).low in
        let n : (a == q) ≡ false = other_word a q (λ k. absurd (omega (arith, k, same, l, lt))) in
        ap (λ t. if t then z else p.1) (sym n)
    by false h more = more

pub started_more : (memory least : ℕ) (p : ℕ × ℤ) (ps : List (ℕ × ℤ)) (f : ℕ → ℤ) → is_start memory least (p ∷ ps) ≡ true → started ps (stored f p.0 p.1) ≡ started (p ∷ ps) f
started_more memory least p ps f e = let b = begins memory least p ps e in fun_ext (λ a. over_stored memory (p.0 + 1) ps f p.0 p.1 a (omega arith) b.rest)

-- over a memory of zeros that is the memory at the start
pub started_all : (ps : List (ℕ × ℤ)) (f : ℕ → ℤ) → ((a : ℕ) → f a ≡ pos 0) → started ps f ≡ memory_at_start ps
started_all ps f zeros = fun_ext (at ps)
  where
    at : (qs : List (ℕ × ℤ)) (a : ℕ) → started qs f a ≡ memory_at_start qs a
    at [] a = zeros a
    at (q ∷ qs) a = ap (λ z. if a == q.0 then q.1 else z) (at qs a)

pub record SoundStart (w : WordProgram) : Type 0 where
  pub aligned : w.memory % 4 ≡ 0
  pub start : is_start w.memory 0 w.start ≡ true

pub sound_start : (w : WordProgram) → is_sound w ≡ true → SoundStart w
sound_start w e =
    let e1 = and_left _ (list_all (is_sound_word (length w.words) (length w.texts)) w.words) e in
    let e2 = and_left _ (is_start w.memory 0 w.start) e1 in
    let e3 = and_left _ (nat_le w.memory 134217728) e2 in
    record { aligned = eqb-true (w.memory % 4) 0 (and_right (is_version w.version) _ e3); start = and_right _ _ e1 }

pub zero_at : (n i : ℕ) → slice_index_or (replicate n (pos 0)) i (pos 0) ≡ pos 0
zero_at zero zero = refl
zero_at zero (suc i) = refl
zero_at (suc n) zero = refl
zero_at (suc n) (suc i) = zero_at n i

pub zero_word : (n a : ℕ) → word_of (replicate n (pos 0)) a ≡ pos 0
zero_word n a = by (a % 4 == 0)
  where
    by : (b : Bool) → (if b then slice_index_or (replicate n (pos 0)) (a / 4) (pos 0) else pos 0) ≡ pos 0
    by true = zero_at n (a / 4)
    by false = refl

-- the word to be written is one of the memory
pub start_word : (memory n least : ℕ) (p : ℕ × ℤ) (ps : List (ℕ × ℤ)) → is_start memory least (p ∷ ps) ≡ true → memory ≡ 4 * n → is_word_of (4 * n) p.0 ≡ true
start_word memory n least p ps e size =
    let b = begins memory least p ps e in
    let low = b.below in
    let al = b.aligned in
    let d : p.0 % 4 + p.0 / 4 * 4 ≡ p.0 = mod-add-div' p.0 4 in
    let x : (p.0 % 4 == 0) ≡ true = ap (λ k. k == 0) al in
    let y : nat_le (p.0 + 4) (4 * n) ≡ true = le-leb (p.0 + 4) (4 * n) (omega (arith, low, al, d, size)) in
    ap (λ k. k && nat_le (p.0 + 4) (4 * n)) x ∙ y

pub started_none : (f : ℕ → ℤ) → started [] f ≡ f
started_none f = fun_ext (λ a. refl)

pub first_words : (ps : List (ℕ × ℤ)) (n : ℕ) → started ps (word_of (replicate n (pos 0))) ≡ memory_at_start ps
first_words ps n = started_all ps (word_of (replicate n (pos 0))) (zero_word n)

pub four_times : (memory n : ℕ) → memory % 4 ≡ 0 → n ≡ memory / 4 → memory ≡ 4 * n
four_times memory n al e = let d : memory % 4 + memory / 4 * 4 ≡ memory = mod-add-div' memory 4 in omega (arith, al, e, d)
