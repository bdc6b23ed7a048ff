-- One word more on the way straight on from a node.
use Rattle.std.proofs.Common.{◌≡◌, ℕ, ◌+◌, true, false, Option, List, [], ◌∷◌, ◌++◌, refl, sym, ap, ◌∙◌, append_assoc, append-nil}
use Rattle.std.specs.Prelude.{if◌then◌else◌}
use Rattle.vx_flow.specs.declared.routes.Touch.{Touch}
use Rattle.vx_mixed.specs.declared.layout.VirtualWord.{VirtualWord}
use Rattle.vx_regs.specs.Ways.{word_ways, ends_at, word_touches, way_touches, way_ends, way_from}

-- the touches so far, and the words that are left
pub record Walked (numbers : List (Option ℕ)) (place : ℕ) (words : List VirtualWord) (to : List ℕ) (touches : List Touch) (next : ℕ) (rest : List VirtualWord) : Type 0 where
  pub touched : touches ++ way_touches numbers next rest ≡ way_touches numbers place words
  pub ended : to ++ way_ends numbers next rest ≡ way_ends numbers place words

pub walked_first : (numbers : List (Option ℕ)) (place : ℕ) (words : List VirtualWord) → Walked numbers place words [] [] place words
walked_first numbers place words = record { touched = refl; ended = refl }

pub walked_next : (numbers : List (Option ℕ)) (place next : ℕ) (words rest : List VirtualWord) (word : VirtualWord) (to : List ℕ) (touches more : List Touch) → Walked numbers place words to touches next (word ∷ rest) → more ≡ touches ++ word_touches word → ends_at numbers (next + 1) word ≡ false → Walked numbers place words to more (next + 1) rest
walked_next numbers place next words rest word to touches more s e f = record {
  touched = ap (λ l. l ++ way_touches numbers (next + 1) rest) e ∙ append_assoc touches (word_touches word) (way_touches numbers (next + 1) rest) ∙ ap (λ b. touches ++ (word_touches word ++ (if b then [] else way_touches numbers (next + 1) rest))) (sym f) ∙ s.touched;
  ended = ap (λ b. to ++ (if b then word_ways numbers (next + 1) word else way_ends numbers (next + 1) rest)) (sym f) ∙ s.ended;
}

pub walked_over : (numbers : List (Option ℕ)) (place next node : ℕ) (words : List VirtualWord) (to : List ℕ) (touches : List Touch) → Walked numbers place words to touches next [] → record { from = node; to = to; touches = touches } ≡ way_from numbers place node words
walked_over numbers place next node words to touches s =
    let a : to ≡ way_ends numbers place words = sym (append-nil to) ∙ s.ended in
    let b : touches ≡ way_touches numbers place words = sym (append-nil touches) ∙ s.touched in
    λ i. record { from = node; to = a i; touches = b i }

pub walked_end : (numbers : List (Option ℕ)) (place next node : ℕ) (words rest : List VirtualWord) (word : VirtualWord) (to out : List ℕ) (touches more : List Touch) → Walked numbers place words to touches next (word ∷ rest) → more ≡ touches ++ word_touches word → ends_at numbers (next + 1) word ≡ true → out ≡ to ++ word_ways numbers (next + 1) word → record { from = node; to = out; touches = more } ≡ way_from numbers place node words
walked_end numbers place next node words rest word to out touches more s e f o =
    let a : out ≡ way_ends numbers place words = o ∙ ap (λ b. to ++ (if b then word_ways numbers (next + 1) word else way_ends numbers (next + 1) rest)) (sym f) ∙ s.ended in
    let b : more ≡ way_touches numbers place words = e ∙ ap (λ l. touches ++ l) (sym (append-nil (word_touches word))) ∙ ap (λ c. touches ++ (word_touches word ++ (if c then [] else way_touches numbers (next + 1) rest))) (sym f) ∙ s.touched in
    λ i. record { from = node; to = a i; touches = b i }
