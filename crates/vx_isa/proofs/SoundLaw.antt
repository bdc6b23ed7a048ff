-- The test of a program and the words for it.
use Rattle.std.proofs.Common.{◌≡◌, ◌≢◌, ◌⊎◌, ℕ, zero, suc, ◌+◌, ◌%◌, ◌<◌, ◌≤◌, ℤ, pos, negsuc, Bool, true, false, ◌&&◌, ◌||◌, ◌==◌, nat_lt, nat_le, List, [], ◌∷◌, length, All, slice_index_or, refl, inl, inr, ap, eq-eqb, arith}
use Rattle.std.proofs.lemmas.Bool.{and_parts, false≢true, eqb-true, leb-true, le-leb, ltb-true, lt-ltb}
use Rattle.std.proofs.lemmas.Bool.Decides.{nat_tests}
use Rattle.std.proofs.lemmas.List.{nil_from_length}
use Rattle.std.proofs.lemmas.List.Sums.{AllPass-from_list_all, list_all-from_AllPass}
use Rattle.std.specs.Cmp.Derive.{both_true}
use Rattle.vx_isa.specs.declared.program.Word.{Word}
use Rattle.vx_isa.specs.declared.program.WordProgram.{WordProgram}
use Rattle.vx_isa.specs.Sound.{is_not_zero, is_start, is_sound_operation, is_sound_word, is_version, is_sound, IsSound, SoundInWords}

abbrev Entry : Type 0
Entry = ℕ × ℤ

not_zero : (z : ℤ) → is_not_zero z ≡ true → z ≢ pos 0
not_zero (pos zero) h e = false≢true h
not_zero (pos (suc n)) h e = cc
not_zero (negsuc n) h e = cc

not_zero_back : (z : ℤ) → z ≢ pos 0 → is_not_zero z ≡ true
not_zero_back (pos zero) h = absurd (h refl)
not_zero_back (pos (suc n)) h = refl
not_zero_back (negsuc n) h = refl

abbrev Good : ℕ → Entry → Type 0
Good memory s = (s.0 % 4 ≡ 0) × (s.0 < memory) × (s.1 ≢ pos 0)

-- what the test of one entry tells
record Entered (memory least : ℕ) (p : Entry) (rest : Bool) : Type 0 where
  above : least ≤ p.0
  good : Good memory p
  more : rest ≡ true

entered : (memory least : ℕ) (p : Entry) (rest : Bool) → (nat_le least p.0 && (p.0 % 4 == 0) && nat_lt p.0 memory && is_not_zero p.1 && rest) ≡ true → Entered memory least p rest
entered memory least p rest h =
    let (abcd, e) = and_parts _ _ h in
    let (abc, d) = and_parts _ _ abcd in
    let (ab, c) = and_parts _ _ abc in
    let (a, b) = and_parts _ _ ab in
    record {
      above = leb-true least p.0 a;
      good = (grind (arith, nat_tests), ltb-true p.0 memory c, not_zero p.1 d);
      more = e;
    }

at_least : (memory least : ℕ) (ps : List Entry) → is_start memory least ps ≡ true → (j : ℕ) (d : Entry) → j < length ps → least ≤ (slice_index_or ps j d).0
at_least memory least [] h j d below = absurd (omega arith)
at_least memory least (p ∷ ps) h zero d below = (entered memory least p _ h).above
at_least memory least (p ∷ ps) h (suc j) d below =
    let e = entered memory least p _ h in
    let above = e.above in
    let more = at_least memory (p.0 + 1) ps e.more j d (omega arith) in
    omega arith

all_good : (memory least : ℕ) (ps : List Entry) → is_start memory least ps ≡ true → (k : ℕ) (d : Entry) → k < length ps → Good memory (slice_index_or ps k d)
all_good memory least [] h k d below = absurd (omega arith)
all_good memory least (p ∷ ps) h zero d below = (entered memory least p _ h).good
all_good memory least (p ∷ ps) h (suc k) d below = all_good memory (p.0 + 1) ps (entered memory least p _ h).more k d (omega arith)

ascend : (memory least : ℕ) (ps : List Entry) → is_start memory least ps ≡ true → (i j : ℕ) (d : Entry) → i < j → j < length ps → (slice_index_or ps i d).0 < (slice_index_or ps j d).0
ascend memory least [] h i j d before below = absurd (omega arith)
ascend memory least (p ∷ ps) h i zero d before below = absurd (omega arith)
ascend memory least (p ∷ ps) h zero (suc j) d before below = let more = at_least memory (p.0 + 1) ps (entered memory least p _ h).more j d (omega arith) in omega arith
ascend memory least (p ∷ ps) h (suc i) (suc j) d before below = ascend memory (p.0 + 1) ps (entered memory least p _ h).more i j d (omega arith) (omega arith)

starts : (memory least : ℕ) (ps : List Entry) → ((j : ℕ) (d : Entry) → j < length ps → least ≤ (slice_index_or ps j d).0) → ((k : ℕ) (d : Entry) → k < length ps → Good memory (slice_index_or ps k d))
    → ((i j : ℕ) (d : Entry) → i < j → j < length ps → (slice_index_or ps i d).0 < (slice_index_or ps j d).0) → is_start memory least ps ≡ true
starts memory least [] least_of good rising = refl
starts memory least (p ∷ ps) least_of good rising =
    let above = least_of 0 p (omega arith) in
    let (aligned, inside, kept) = good 0 p (omega arith) in
    let tail = starts memory (p.0 + 1) ps (λ j d h. let before = rising 0 (suc j) d (omega arith) (omega arith) in omega arith) (λ k d h. good (suc k) d (omega arith)) (λ i j d before h. rising (suc i) (suc j) d (omega arith) (omega arith)) in
    both_true (both_true (both_true (both_true (le-leb least p.0 above) (eq-eqb _ _ aligned)) (lt-ltb p.0 memory inside)) (not_zero_back p.1 kept)) tail

-- words

or_parts : (a b : Bool) → (a || b) ≡ true → (a ≡ true) ⊎ (b ≡ true)
or_parts true b h = inl refl
or_parts false b h = inr h

or_right : (a b : Bool) → b ≡ true → (a || b) ≡ true
or_right true b h = refl
or_right false b h = h

abbrev IsIdleWell : Word → Type 0
IsIdleWell w = (w.idle ≤ 255) × ((w.idle ≡ 0) ⊎ (w.ops ≡ []))

abbrev AllSound : ℕ → ℕ → Word → Type 0
AllSound words texts w = All (λ op. is_sound_operation words texts op ≡ true) w.ops

idle_or_empty : (w : Word) → ((w.idle == 0) || (length w.ops == 0)) ≡ true → (w.idle ≡ 0) ⊎ (w.ops ≡ [])
idle_or_empty w h =
    elim (or_parts (w.idle == 0) (length w.ops == 0) h) [
      | inl idle ↦ inl (eqb-true _ _ idle)
      | inr empty ↦ inr (nil_from_length w.ops (eqb-true _ _ empty))
    ]

idle_or_empty_back : (w : Word) → (w.idle ≡ 0) ⊎ (w.ops ≡ []) → ((w.idle == 0) || (length w.ops == 0)) ≡ true
idle_or_empty_back w (inl idle) = rw (eq-eqb _ _ idle)
idle_or_empty_back w (inr empty) = or_right (w.idle == 0) (length w.ops == 0) (eq-eqb _ _ (ap length empty))

word_in_words : (words texts : ℕ) (w : Word) → is_sound_word words texts w ≡ true → IsIdleWell w × AllSound words texts w
word_in_words words texts w h =
    let (ab, c) = and_parts _ _ h in
    let (a, b) = and_parts _ _ ab in
    ((leb-true w.idle 255 a, idle_or_empty w b), AllPass-from_list_all (is_sound_operation words texts) w.ops c)

word_by_test : (words texts : ℕ) (w : Word) → IsIdleWell w → AllSound words texts w → is_sound_word words texts w ≡ true
word_by_test words texts w idle all = both_true (both_true (le-leb w.idle 255 idle.0) (idle_or_empty_back w idle.1)) (list_all-from_AllPass (is_sound_operation words texts) w.ops all)

-- both directions

version_in_words : (n : ℕ) → is_version n ≡ true → (n ≡ 1) ⊎ (n ≡ 2)
version_in_words n h =
    elim (or_parts (n == 1) (n == 2) h) [
      | inl one ↦ inl (eqb-true _ _ one)
      | inr two ↦ inr (eqb-true _ _ two)
    ]

version_by_test : (n : ℕ) → (n ≡ 1) ⊎ (n ≡ 2) → is_version n ≡ true
version_by_test n (inl one) = rw (eq-eqb _ _ one)
version_by_test n (inr two) = or_right (n == 1) (n == 2) (eq-eqb _ _ two)

in_words : (p : WordProgram) → is_sound p ≡ true → IsSound p
in_words p h =
    let (abc, d) = and_parts _ _ h in
    let (ab, c) = and_parts _ _ abc in
    let (va, b) = and_parts _ _ ab in
    let (v, a) = and_parts _ _ va in
    let each = AllPass-from_list_all (is_sound_word (length p.words) (length p.texts)) p.words d in
    record {
      version = version_in_words p.version v;
      memory = (eqb-true _ _ a, leb-true _ _ b);
      start = all_good p.memory 0 p.start c;
      ascending = ascend p.memory 0 p.start c;
      idle = λ k w below. (word_in_words (length p.words) (length p.texts) (slice_index_or p.words k w) (each k w below)).0;
      operations = λ k w below. (word_in_words (length p.words) (length p.texts) (slice_index_or p.words k w) (each k w below)).1;
    }

by_test : (p : WordProgram) → IsSound p → is_sound p ≡ true
by_test p s =
    let first = starts p.memory 0 p.start (λ j d h. omega arith) s.start s.ascending in
    let each = list_all-from_AllPass (is_sound_word (length p.words) (length p.texts)) p.words (λ k w below. word_by_test (length p.words) (length p.texts) (slice_index_or p.words k w) (s.idle k w below) (s.operations k w below)) in
    both_true (both_true (both_true (both_true (version_by_test p.version s.version) (eq-eqb _ _ s.memory.0)) (le-leb _ _ s.memory.1)) first) each

pub sound_in_words : SoundInWords
sound_in_words p = (in_words p, by_test p)
