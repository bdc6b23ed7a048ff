-- What was made of the front of a list, and what is made of the rest of it.
use Rattle.std.proofs.Common.{◌≡◌, ◌∙◌, [], List, ◌++◌, sym, ap, append_assoc, append-nil}

-- what was made so far is longer by the piece of the item in front
pub piece_more : {A : Type 0} (now next piece later rest all : List A) → next ≡ now ++ piece → rest ≡ piece ++ later → now ++ rest ≡ all → next ++ later ≡ all
piece_more now next piece later rest all n r e = ap (λ l. l ++ later) n ∙ append_assoc now piece later ∙ ap (λ l. now ++ l) (sym r) ∙ e

-- nothing is left
pub no_more : {A : Type 0} (now rest all : List A) → rest ≡ [] → now ++ rest ≡ all → now ≡ all
no_more now rest all r e = sym (append-nil now) ∙ ap (λ l. now ++ l) (sym r) ∙ e
