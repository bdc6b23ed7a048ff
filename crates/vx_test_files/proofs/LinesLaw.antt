-- The lines of a text make up the text.
use Rattle.std.proofs.Common.{◌≡◌, ◌==◌, ℕ, Bool, true, false, List, [], ◌∷◌, refl, ap, sym, ◌∙◌, inl, inr}
use Rattle.std.specs.List.{flat_map}
use Rattle.std.proofs.lemmas.Bool.{cases_Bool, eqb-true}
use Rattle.vx_test_files.specs.Lines.{TextLine, line_text, lines_after, lines_of, LinesMakeTheText}

text_after : (byte : ℕ) (lines : List TextLine) → flat_map line_text (lines_after byte lines) ≡ byte ∷ flat_map line_text lines
text_after byte [] = refl
text_after byte (line ∷ lines) = by line.ended refl where
  by : (ended : Bool) → line.ended ≡ ended → flat_map line_text (lines_after byte (line ∷ lines)) ≡ byte ∷ flat_map line_text (line ∷ lines)
  by true e = rw e refl
  by false e = rw e refl

pub lines_make_the_text : LinesMakeTheText
lines_make_the_text [] = refl
lines_make_the_text (byte ∷ text) =
    elim (cases_Bool (byte == 10)) [
      | inl feed ↦ rw feed (ap (λ (rest : List ℕ). 10 ∷ rest) (lines_make_the_text text) ∙ ap (λ (first : ℕ). first ∷ text) (sym (eqb-true byte 10 feed)))
      | inr inside ↦ rw inside (text_after byte (lines_of text) ∙ ap (λ (rest : List ℕ). byte ∷ rest) (lines_make_the_text text))
    ]
