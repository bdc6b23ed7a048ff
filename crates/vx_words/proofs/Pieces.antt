-- What a loop puts piece after piece.
use Rattle.std.proofs.Common.{◌≡◌, ◌∙◌, ℕ, ◌+◌, ◌<◌, ◌≤◌, Bool, List, [], ◌∷◌, ◌++◌, length, take, drop, get_or, codes, Result, Ok, Err, OnOk, ap, sym, subst}
use Rattle.std.specs.Prelude.{if◌then◌else◌}
use Rattle.std.specs.List.{flat_map}
use Rattle.std.proofs.lemmas.List.{append_assoc, append-nil, at_drop_all, at_drop_more, take_more, take_all}
use Rattle.std.proofs.lemmas.Grind.{flat_map-append}
use Rattle.vx_isa.specs.declared.operation.Operation.{Operation}
use Rattle.vx_isa.specs.declared.program.Word.{Word}
use Rattle.vx_words.specs.Spelling.{body_text, byte_text, is_named, label_line, quoted_text, word_lines, words_from}

module _ {X : Type 0} (f : X → List ℕ) (start before : List ℕ) (xs : List X) (i : ℕ) where
  -- one piece more
  pub piece_more : (now : List ℕ) (d : X) → before ≡ start ++ flat_map f (take i xs) → now ≡ before ++ f (get_or xs i d) → i < length xs → now ≡ start ++ flat_map f (take (i + 1) xs)
  piece_more now d so_far more lt =
      let last : flat_map f (take (i + 1) xs) ≡ flat_map f (take i xs) ++ f (get_or xs i d) =
      ap (flat_map f) (take_more xs i d lt) ∙ flat_map-append f (take i xs) (get_or xs i d ∷ []) ∙ ap (λ l. flat_map f (take i xs) ++ l) (append-nil (f (get_or xs i d))) in
      more ∙ ap (λ l. l ++ f (get_or xs i d)) so_far ∙ append_assoc start (flat_map f (take i xs)) (f (get_or xs i d)) ∙ ap (λ l. start ++ l) (sym last)

  -- the pieces of all items
  pub pieces_all : before ≡ start ++ flat_map f (take i xs) → length xs ≤ i → before ≡ start ++ flat_map f xs
  pieces_all so_far le = so_far ∙ ap (λ l. start ++ flat_map f l) (take_all i xs le)

-- the lines of one word more, and those of all words
module _ (all ws : List Word) (place : ℕ) (out whole : List ℕ) (so_far : out ++ words_from all place (drop place ws) ≡ whole) where
  pub words_more : (word : Word) (mid now : List ℕ) (named : Bool) → word ≡ get_or ws place word → place < length ws → named ≡ is_named all place → mid ≡ out ++ (if named then label_line place else []) → now ≡ mid ++ word_lines word
      → now ++ words_from all (place + 1) (drop (place + 1) ws) ≡ whole
  words_more word mid now named is lt same label put =
      let rest = words_from all (place + 1) (drop (place + 1) ws) in
      let first : List ℕ = if is_named all place then label_line place else [] in
      let lines : now ≡ out ++ first ++ word_lines word = put ∙ ap (λ m. m ++ word_lines word) (label ∙ ap (λ b. out ++ (if b then label_line place else [])) same) in
      let here : words_from all place (drop place ws) ≡ first ++ word_lines word ++ rest = at_drop_more (words_from all place) ws place word lt ∙ ap (λ (w : Word). words_from all place (w ∷ drop (place + 1) ws)) (sym is) in
      ap (λ n. n ++ rest) (lines ∙ append_assoc out first (word_lines word)) ∙ append_assoc out (first ++ word_lines word) rest ∙ ap (λ l. out ++ l) (sym here) ∙ so_far

  pub words_all : length ws ≤ place → out ≡ whole
  words_all le = sym (append-nil out) ∙ sym (at_drop_all (λ l. out ++ words_from all place l) ws place le) ∙ so_far

-- the quote behind the bytes
pub quoted_all : {T E : Type 0} (start before now bytes : List ℕ) (i : ℕ) (result : Result T E) → before ≡ start ++ codes ".text \"" ++ flat_map byte_text (take i bytes) → length bytes ≤ i
    → OnOk result (now ≡ before ++ codes "\"") → OnOk result (now ≡ start ++ quoted_text bytes)
quoted_all start before now bytes i (Ok x) so_far le quote =
    let front = codes ".text \"" in
    let all : before ≡ start ++ front ++ flat_map byte_text bytes = pieces_all byte_text (start ++ front) before bytes i so_far le in
    quote ∙ ap (λ l. l ++ codes "\"") (all ∙ append_assoc start front (flat_map byte_text bytes)) ∙ append_assoc start (front ++ flat_map byte_text bytes) (codes "\"")
quoted_all start before now bytes i (Err e) so_far le quote = tt

-- pieces one behind the other, the last by a call whose result is handed on

module _ {T E : Type 0} (result : Result T E) (old : List ℕ) where
  pub put_whole : (now text : List ℕ) (operation op : Operation) → operation ≡ op → body_text op ≡ text → OnOk result (now ≡ old ++ text) → OnOk result (now ≡ old ++ body_text operation)
  put_whole now text operation op is same put = subst (λ t. OnOk result (now ≡ old ++ t)) (sym same ∙ ap body_text (sym is)) put

  pub put_named : (now name text : List ℕ) (operation op : Operation) → operation ≡ op → body_text op ≡ name ++ text → OnOk result (now ≡ old ++ name ++ text) → OnOk result (now ≡ old ++ body_text operation)
  put_named now name text operation op is same put =
      subst (λ t. OnOk result (now ≡ old ++ t)) (sym same ∙ ap body_text (sym is)) (subst (λ t. OnOk result (now ≡ t)) (append_assoc old name text) put)

  -- a piece behind what stands already
  pub put_behind : (mid now front next : List ℕ) → mid ≡ old ++ front → OnOk result (now ≡ mid ++ next) → OnOk result (now ≡ old ++ (front ++ next))
  put_behind mid now front next first more = subst (λ t. OnOk result (now ≡ t)) (ap (λ l. l ++ next) first ∙ append_assoc old front next) more

  -- two at once behind it
  pub put_two_behind : (mid now front a b : List ℕ) → mid ≡ old ++ front → OnOk result (now ≡ mid ++ a ++ b) → OnOk result (now ≡ old ++ (front ++ a ++ b))
  put_two_behind mid now front a b first more =
      subst (λ t. OnOk result (now ≡ t)) (ap (λ l. l ++ a ++ b) first ∙ ap (λ l. l ++ b) (append_assoc old front a) ∙ append_assoc old (front ++ a) b) more

  pub put_both : (now a b : List ℕ) → OnOk result (now ≡ old ++ a ++ b) → OnOk result (now ≡ old ++ (a ++ b))
  put_both now a b put = subst (λ t. OnOk result (now ≡ t)) (append_assoc old a b) put

  pub put_pair_behind : (mid now front a b c : List ℕ) → mid ≡ old ++ front → OnOk result (now ≡ mid ++ a ++ b ++ c) → OnOk result (now ≡ old ++ (front ++ a ++ b ++ c))
  put_pair_behind mid now front a b c first more =
      subst (λ t. OnOk result (now ≡ t)) (ap (λ l. l ++ a ++ b ++ c) first ∙ ap (λ l. l ++ b ++ c) (append_assoc old front a) ∙ ap (λ l. l ++ c) (append_assoc old (front ++ a) b) ∙ append_assoc old (front ++ a ++ b) c) more

pub two_put : (old mid now a b : List ℕ) → mid ≡ old ++ a → now ≡ mid ++ b → now ≡ old ++ (a ++ b)
two_put old mid now a b first more = more ∙ ap (λ l. l ++ b) first ∙ append_assoc old a b

pub three_at_once : (old now a b c : List ℕ) → now ≡ old ++ a ++ b ++ c → now ≡ old ++ (a ++ b ++ c)
three_at_once old now a b c is = is ∙ ap (λ l. l ++ c) (append_assoc old a b) ∙ append_assoc old (a ++ b) c

pub two_at_once : (old now a b : List ℕ) → now ≡ old ++ a ++ b → now ≡ old ++ (a ++ b)
two_at_once old now a b is = is ∙ append_assoc old a b

pub two_behind : (old mid now front a b : List ℕ) → mid ≡ old ++ front → now ≡ mid ++ a ++ b → now ≡ old ++ (front ++ a ++ b)
two_behind old mid now front a b first more = more ∙ ap (λ l. l ++ a ++ b) first ∙ ap (λ l. l ++ b) (append_assoc old front a) ∙ append_assoc old (front ++ a) b
