-- The marks of the places that words name.
use Rattle.std.proofs.Common.{◌≡◌, ◌∙◌, ℕ, ◌+◌, ◌<◌, Bool, true, false, ◌||◌, List, [], ◌∷◌, ◌++◌, length, take, drop, get_or, refl, ap, sym, arith}
use Rattle.std.specs.List.{list_any}
use Rattle.std.proofs.lemmas.List.{append-nil, drop_all, take_all, take_more}
use Rattle.std.proofs.lemmas.List.Folds.{list_any-append}
use Rattle.vx_isa.specs.declared.operation.Operation.{Operation}
use Rattle.vx_isa.specs.declared.program.Word.{Word}
use Rattle.vx_words.specs.Spelling.{is_named, names}

or_false : (b : Bool) → (b || false) ≡ b
or_false true = refl
or_false false = refl

named_by : (words : List Word) (i p : ℕ) (word : Word) → word ≡ get_or words i word → i < length words → is_named (take (i + 1) words) p ≡ (is_named (take i words) p || list_any (names p) word.ops)
named_by words i p word is lt =
    ap (λ (l : List Word). is_named l p) (take_more words i word lt) ∙ ap (λ (w : Word). is_named (take i words ++ w ∷ []) p) (sym is) ∙ list_any-append (λ (w : Word). list_any (names p) w.ops) (take i words) (word ∷ [])
    ∙ ap (λ b. is_named (take i words) p || b) (or_false (list_any (names p) word.ops))

pub named_more : (words : List Word) (i : ℕ) (word : Word) (marks now : List Bool) (len : ℕ) (ops : List Operation) → len ≡ length words → len ≡ length marks → length now ≡ length marks
    → ((p : ℕ) → p < length words → get_or marks p false ≡ is_named (take i words) p) → ((p : ℕ) → p < length marks → get_or now p false ≡ (get_or marks p false || list_any (names p) ops))
    → ops ≡ word.ops → word ≡ get_or words i word → i < length words → (p : ℕ) → p < length words → get_or (take len (now ++ drop (length now) marks)) p false ≡ is_named (take (i + 1) words) p
named_more words i word marks now len ops all long same before marked own is lt p within =
    let none : drop (length now) marks ≡ [] = drop_all (length now) marks (omega (arith, same)) in
    let whole : take len (now ++ drop (length now) marks) ≡ now = ap (λ l. take len (now ++ l)) none ∙ ap (take len) (append-nil now) ∙ take_all len now (omega (arith, long, same)) in
    ap (λ l. get_or l p false) whole ∙ marked p (omega (arith, all, long, within)) ∙ (λ k. before p within k || list_any (names p) (own k)) ∙ sym (named_by words i p word is lt)
