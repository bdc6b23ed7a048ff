-- Texts whose tokens are known, whatever stands before them.
use Rattle.std.proofs.Common.{◌≡◌, ℕ, zero, suc, ◌+◌, ◌<◌, Bool, true, false, ◌&&◌, cond, not, ◌==◌, nat_eq, take, List, [], ◌∷◌, ◌++◌, length, drop, refl, sym, ◌∙◌, ap, subst, arith, append_assoc, length-append}
use Rattle.std.proofs.lemmas.List.{length-drop}
use Rattle.std.proofs.Math.Seq.{drop-append_seam}
use Rattle.std.specs.List.{prefix_len}
use Rattle.vx_ast.specs.declared.token.TokenKind.{TokenKind}
use Rattle.vx_ast.specs.declared.token.Token.{Token}
use Rattle.vx_ast.specs.declared.token.Piece.{Piece}
use Rattle.vx_ast.specs.declared.token.Piece.TheVariants.{Skipped, Spelled}
use Rattle.vx_ast.specs.Tokens.{first_piece, piece_at, is_blank, is_in_line, behind_word, is_include_line, line_of, column_at, LexesFrom}
use Rattle.vx_generated.proofs.Forms.{Bit, Space, Ended, Spelt, text_of, tokens_of}

-- neither blank nor `#`
abbrev pub is_plain : ℕ → Bool
is_plain b = (not (is_blank b) && not (nat_eq 35 b)) && is_in_line b

abbrev pub begins_plain : List ℕ → Bool
begins_plain [] = false
begins_plain (b ∷ bs) = is_plain b

both_hold : (a b : Bool) → (a && b) ≡ true → (a ≡ true) × (b ≡ true)
both_hold true b h = (refl, h)
both_hold false b h = cc

is_not : (b : Bool) → not b ≡ true → b ≡ false
is_not true h = cc
is_not false h = refl

line_cons : (b : ℕ) (after : List ℕ) → is_in_line b ≡ true → line_of (b ∷ after) ≡ b ∷ line_of after
line_cons b after h =
    let n : ℕ = prefix_len is_in_line after in
    let e : 1 + n ≡ suc n = omega arith in
    let f : prefix_len is_in_line (b ∷ after) ≡ 1 + n = ap (λ (t : Bool). cond t (1 + n) 0) h in
    ap (λ (k : ℕ). take k (b ∷ after)) (f ∙ e)

no_hash : (b : ℕ) (bs : List ℕ) → is_blank b ≡ false → nat_eq 35 b ≡ false → is_include_line (b ∷ bs) ≡ false
unfolding is_include_line behind_word
no_hash b bs h k = rw h (rw k refl)

no_hash_behind : (b : ℕ) (bs : List ℕ) → is_blank b ≡ false → nat_eq 35 b ≡ false → is_include_line (32 ∷ b ∷ bs) ≡ false
unfolding is_include_line behind_word
no_hash_behind b bs h k = rw h (rw k refl)

no_include : (b : ℕ) (after : List ℕ) → is_plain b ≡ true → is_include_line (line_of (b ∷ after)) ≡ false
no_include b after h =
    let p = both_hold (not (is_blank b) && not (nat_eq 35 b)) (is_in_line b) h in
    let q = both_hold (not (is_blank b)) (not (nat_eq 35 b)) p.0 in
    ap (λ (l : List ℕ). is_include_line l) (line_cons b after p.1) ∙ no_hash b (line_of after) (is_not (is_blank b) q.0) (is_not (nat_eq 35 b) q.1)

no_include_behind : (text : List ℕ) → begins_plain text ≡ true → is_include_line (line_of (32 ∷ text)) ≡ false
no_include_behind [] h = cc
no_include_behind (b ∷ after) h =
    let p = both_hold (not (is_blank b) && not (nat_eq 35 b)) (is_in_line b) h in
    let q = both_hold (not (is_blank b)) (not (nat_eq 35 b)) p.0 in
    ap (λ (l : List ℕ). is_include_line l) (line_cons 32 (b ∷ after) refl ∙ ap (λ (l : List ℕ). 32 ∷ l) (line_cons b after p.1))
    ∙ no_hash_behind b (line_of after) (is_not (is_blank b) q.0) (is_not (nat_eq 35 b) q.1)

no_include_end : (text : List ℕ) → is_include_line (line_of (10 ∷ text)) ≡ false
unfolding is_include_line behind_word
no_include_end text = refl

skips_space : (text : List ℕ) → first_piece (32 ∷ text) ≡ Skipped 1
unfolding first_piece
skips_space text = refl

skips_end : (text : List ℕ) → first_piece (10 ∷ text) ≡ Skipped 1
unfolding first_piece
skips_end text = refl

-- each bit is what stands first where it stands
pub data Lexed (after : List ℕ) : List Bit → Type 0 where
  done : Lexed after []
  token : {k : TokenKind} {b : ℕ} {bs : List ℕ} {ss : List Bit} → first_piece ((b ∷ bs) ++ (text_of ss ++ after)) ≡ Spelled k (length (b ∷ bs)) → is_plain b ≡ true → Lexed after ss → Lexed after (Spelt k b bs ∷ ss)
  blank : {ss : List Bit} → begins_plain (text_of ss ++ after) ≡ true → Lexed after ss → Lexed after (Space ∷ ss)
  end : {ss : List Bit} → Lexed after ss → Lexed after (Ended ∷ ss)

piece_is : (bytes : List ℕ) (place : ℕ) (text : List ℕ) (p : Piece) → drop place bytes ≡ text → first_piece text ≡ p → is_include_line (line_of text) ≡ false → piece_at bytes place ≡ p
unfolding piece_at
piece_is bytes place text p e f h = by (column_at bytes place == 1) (is_include_line (line_of (drop place bytes))) _ (rw e h) (rw e f) where
  by : (b c : Bool) (q : Piece) → c ≡ false → first_piece (drop place bytes) ≡ p → cond (b && c) q (first_piece (drop place bytes)) ≡ p
  by true true q h f = cc
  by true false q h f = f
  by false c q h f = f

stands_within : (bytes : List ℕ) (place b : ℕ) (bs : List ℕ) → drop place bytes ≡ b ∷ bs → place < length bytes
stands_within bytes place b bs e =
    let left : length (drop place bytes) ≡ suc (length bs) = ap (λ (l : List ℕ). length l) e in
    let is = length-drop place bytes in
    omega (arith, left, is)

drop_none : (n : ℕ) → drop {A = ℕ} n [] ≡ []
drop_none zero = refl
drop_none (suc n) = refl

drop_twice : (n m : ℕ) (xs : List ℕ) → drop (n + m) xs ≡ drop m (drop n xs)
drop_twice zero m xs = let e : 0 + m ≡ m = omega arith in ap (λ (k : ℕ). drop k xs) e
drop_twice (suc n) m [] = drop_none (suc n + m) ∙ sym (drop_none m)
drop_twice (suc n) m (x ∷ xs) = let e : suc n + m ≡ suc (n + m) = omega arith in ap (λ (k : ℕ). drop k (x ∷ xs)) e ∙ drop_twice n m xs

dropped : (bytes : List ℕ) (place : ℕ) (front behind : List ℕ) → drop place bytes ≡ front ++ behind → drop (place + length front) bytes ≡ behind
dropped bytes place front behind e = drop_twice place (length front) bytes ∙ ap (λ (l : List ℕ). drop (length front) l) e ∙ drop-append_seam front behind

pub lexes : (ss : List Bit) (bytes : List ℕ) (place : ℕ) (after : List ℕ) (rest : List Token) → Lexed after ss → drop place bytes ≡ text_of ss ++ after
    → LexesFrom bytes (place + length (text_of ss)) rest → LexesFrom bytes place (tokens_of bytes place ss ++ rest)
lexes [] bytes place after rest Lexed.done e l = let same : place + 0 ≡ place = omega arith in subst (λ (n : ℕ). LexesFrom bytes n rest) same l
lexes (Space ∷ ss) bytes place after rest (Lexed.blank h more) e l =
    let here : drop place bytes ≡ 32 ∷ (text_of ss ++ after) = e in
    let there : drop (place + 1) bytes ≡ text_of ss ++ after = dropped bytes place (32 ∷ []) (text_of ss ++ after) here in
    let same : place + length (32 ∷ text_of ss) ≡ place + 1 + length (text_of ss) = omega arith in
    LexesFrom.skip 1 (stands_within bytes place 32 (text_of ss ++ after) here) (piece_is bytes place _ _ here (skips_space (text_of ss ++ after)) (no_include_behind (text_of ss ++ after) h))
    (lexes ss bytes (place + 1) after rest more there (subst (λ (n : ℕ). LexesFrom bytes n rest) same l))
lexes (Ended ∷ ss) bytes place after rest (Lexed.end more) e l =
    let here : drop place bytes ≡ 10 ∷ (text_of ss ++ after) = e in
    let there : drop (place + 1) bytes ≡ text_of ss ++ after = dropped bytes place (10 ∷ []) (text_of ss ++ after) here in
    let same : place + length (10 ∷ text_of ss) ≡ place + 1 + length (text_of ss) = omega arith in
    LexesFrom.skip 1 (stands_within bytes place 10 (text_of ss ++ after) here) (piece_is bytes place _ _ here (skips_end (text_of ss ++ after)) (no_include_end (text_of ss ++ after)))
    (lexes ss bytes (place + 1) after rest more there (subst (λ (n : ℕ). LexesFrom bytes n rest) same l))
lexes (Spelt k b bs ∷ ss) bytes place after rest (Lexed.token f p more) e l =
    let here : drop place bytes ≡ (b ∷ bs) ++ (text_of ss ++ after) = e ∙ append_assoc (b ∷ bs) (text_of ss) after in
    let there : drop (place + length (b ∷ bs)) bytes ≡ text_of ss ++ after = dropped bytes place (b ∷ bs) (text_of ss ++ after) here in
    let sum = length-append (b ∷ bs) (text_of ss) in
    let same : place + length (text_of (Spelt k b bs ∷ ss)) ≡ place + length (b ∷ bs) + length (text_of ss) = omega (arith, sum) in
    LexesFrom.token k (length (b ∷ bs)) (stands_within bytes place b (bs ++ (text_of ss ++ after)) here) (piece_is bytes place _ _ here f (no_include b (bs ++ (text_of ss ++ after)) p))
    (lexes ss bytes (place + length (b ∷ bs)) after rest more there (subst (λ (n : ℕ). LexesFrom bytes n rest) same l))

-- what tokens a text gives, from its place on and with those behind it
abbrev pub Tokens : Type 0
Tokens = (bytes : List ℕ) (place : ℕ) (rest : List Token) → List Token

abbrev pub bits_tokens : List Bit → Tokens
bits_tokens ss bytes place rest = tokens_of bytes place ss ++ rest

abbrev pub followed : List ℕ → Tokens → Tokens → Tokens
followed text a b bytes place rest = a bytes place (b bytes (place + length text) rest)

pub record Spells (after text : List ℕ) (tokens : Tokens) : Type 0 where
  pub lexed : (bytes : List ℕ) (place : ℕ) (rest : List Token) → drop place bytes ≡ text ++ after → LexesFrom bytes (place + length text) rest → LexesFrom bytes place (tokens bytes place rest)

pub of_bits : (after : List ℕ) (ss : List Bit) → Lexed after ss → Spells after (text_of ss) (bits_tokens ss)
of_bits after ss h = record { lexed = λ bytes place rest e l. lexes ss bytes place after rest h e l }

pub of_both : (after a b : List ℕ) (s t : Tokens) → Spells (b ++ after) a s → Spells after b t → Spells after (a ++ b) (followed a s t)
of_both after a b s t h k = record { lexed = λ bytes place rest e l. both bytes place rest e l } where
  both : (bytes : List ℕ) (place : ℕ) (rest : List Token) → drop place bytes ≡ (a ++ b) ++ after → LexesFrom bytes (place + length (a ++ b)) rest → LexesFrom bytes place (followed a s t bytes place rest)
  both bytes place rest e l =
      let here : drop place bytes ≡ a ++ (b ++ after) = e ∙ append_assoc a b after in
      let there : drop (place + length a) bytes ≡ b ++ after = dropped bytes place a (b ++ after) here in
      let sum = length-append a b in
      let same : place + length (a ++ b) ≡ place + length a + length b = omega (arith, sum) in
      h.lexed bytes place (t bytes (place + length a) rest) here (k.lexed bytes (place + length a) rest there (subst (λ (n : ℕ). LexesFrom bytes n rest) same l))
