-- The first line of a text ends at the first line feed.
use Rattle.std.proofs.Common.{◌≡◌, ◌<◌, ◌≤◌, ◌==◌, ℕ, suc, Bool, true, false, not, List, [], ◌∷◌, length, take, drop, refl, arith, inl, inr, one-add}
use Rattle.std.specs.List.{prefix_len}
use Rattle.std.proofs.lemmas.Bool.{cases_Bool}
use Rattle.vx_test_files.specs.Lines.{lines_of}

-- a byte that ends no line
abbrev pub is_inside : ℕ → Bool
is_inside byte = not (byte == 10)

pub lines_of-ended : (text : List ℕ) → prefix_len is_inside text < length text → lines_of text ≡ record { bytes = take (prefix_len is_inside text) text; ended = true } ∷ lines_of (drop (suc (prefix_len is_inside text)) text)
lines_of-ended [] below = absurd (omega arith)
lines_of-ended (byte ∷ text) below =
    elim (cases_Bool (byte == 10)) [
      | inl feed ↦ rw feed refl
      | inr inside ↦
          let later = rw inside at below in
          let rest = lines_of-ended text (omega arith) in
          rw (inside, one-add) (rw rest refl)
    ]

pub lines_of-last : (text : List ℕ) → 0 < length text → length text ≤ prefix_len is_inside text → lines_of text ≡ record { bytes = text; ended = false } ∷ []
lines_of-last [] some past = absurd (omega arith)
lines_of-last (byte ∷ []) some past =
    elim (cases_Bool (byte == 10)) [
      | inl feed ↦ let later = rw feed at past in absurd (omega arith)
      | inr inside ↦ rw inside refl
    ]
lines_of-last (byte ∷ next ∷ text) some past =
    elim (cases_Bool (byte == 10)) [
      | inl feed ↦ let later = rw feed at past in absurd (omega arith)
      | inr inside ↦
          let later = rw inside at past in
          let rest = lines_of-last (next ∷ text) (omega arith) (omega arith) in
          rw inside (rw rest refl)
    ]
