-- What is pushed piece by piece behind a text.
use Rattle.std.proofs.Common.{◌≡◌, ℕ, ◌<◌, ◌≤◌, false, cond, List, ◌∷◌, ◌++◌, map, append_assoc, ap, sym, subst, ◌∙◌, arith}
use Rattle.std.specs.Prelude.{codes, nat_lt}
use Rattle.std.specs.List.{AllByRecursion, filter, flat_map}
use Rattle.std.proofs.lemmas.Bool.{lt-ltb}
use Rattle.std.proofs.lemmas.Bool.Decides.{nat_tests}
use Rattle.vx_flow.specs.Meaning.{AtBlock, AlongEdge}
use Rattle.vx_profile.specs.Text.{Fits, Row, is_passed, number_text, row_text}

-- one piece more
one_more : (o p x a b : List ℕ) → a ≡ o ++ p → b ≡ a ++ x → b ≡ o ++ (p ++ x)
one_more o p x a b e h = h ∙ ap (λ z. z ++ x) e ∙ append_assoc o p x

-- two pieces more
two_more : (o p x y a b : List ℕ) → a ≡ o ++ p → b ≡ a ++ x ++ y → b ≡ o ++ (p ++ x ++ y)
two_more o p x y a b e h = one_more o (p ++ x) y (a ++ x) b (ap (λ z. z ++ x) e ∙ append_assoc o p x) h

-- the pieces of two names, a count and an end
two_named : (o w s l f g n a b c d e : List ℕ) → a ≡ o ++ w → b ≡ a ++ f ++ s → c ≡ b ++ g ++ s → d ≡ c ++ n → e ≡ d ++ l → e ≡ o ++ ((w ++ f ++ s ++ g ++ s) ++ n ++ l)
two_named o w s l f g n a b c d e ea eb ec ed ee =
    let p : List ℕ = w ++ f ++ s in
    let q : List ℕ = p ++ g ++ s in
    one_more o (q ++ n) l d e (one_more o q n c d (two_more o p g s b c (two_more o w f s a b ea eb) ec) ed) ee

pub block_pushed : (o a b c d e : List ℕ) (f g n : ℕ) → a ≡ o ++ codes "block " → b ≡ a ++ number_text f ++ codes " " → c ≡ b ++ number_text g ++ codes " " → d ≡ c ++ number_text n → e ≡ d ++ codes "\n" → e ≡ o ++ row_text (record { visit = AtBlock f g; count = n })
block_pushed o a b c d e f g n ea eb ec ed ee = two_named o (codes "block ") (codes " ") (codes "\n") (number_text f) (number_text g) (number_text n) a b c d e ea eb ec ed ee

pub edge_pushed : (o a b c m d e : List ℕ) (f g h n : ℕ) → a ≡ o ++ codes "edge " → b ≡ a ++ number_text f ++ codes " " → c ≡ b ++ number_text g ++ codes " " → m ≡ c ++ number_text h ++ codes " " → d ≡ m ++ number_text n → e ≡ d ++ codes "\n" → e ≡ o ++ row_text (record { visit = AlongEdge f g h; count = n })
edge_pushed o a b c m d e f g h n ea eb ec em ed ee =
    two_named o (codes "edge " ++ number_text f ++ codes " ") (codes " ") (codes "\n") (number_text g) (number_text h) (number_text n) b c m d e (two_more o (codes "edge ") (number_text f) (codes " ") a b ea eb) ec em ed ee

-- a turn over the entries of a map
module _ {E : Type 0} (row : E → Row) (e : E) (es rest : List E) (same : es ≡ e ∷ rest) where
  abbrev passed : List E → List Row
  passed xs = filter is_passed (map row xs)

  one_passed : 0 < (row e).count → passed es ≡ row e ∷ passed rest
  one_passed lt = ap passed same ∙ ap (λ b. cond b (row e ∷ passed rest) (passed rest)) (lt-ltb 0 (row e).count lt)

  none_passed : (row e).count ≤ 0 → passed es ≡ passed rest
  none_passed le =
      let no : nat_lt 0 (row e).count ≡ false = grind (arith, nat_tests) in
      ap passed same ∙ ap (λ b. cond b (row e ∷ passed rest) (passed rest)) no

  pub text_passed : {whole : List ℕ} (out new : List ℕ) → 0 < (row e).count → new ≡ out ++ row_text (row e) → out ++ flat_map row_text (passed es) ≡ whole → new ++ flat_map row_text (passed rest) ≡ whole
  text_passed out new lt h k =
      ap (λ z. z ++ flat_map row_text (passed rest)) h ∙ append_assoc out (row_text (row e)) (flat_map row_text (passed rest))
      ∙ ap (λ z. out ++ flat_map row_text z) (sym (one_passed lt)) ∙ k

  pub fit_passed : {W : Type 0} → 0 < (row e).count → Fits (row e) → (AllByRecursion Fits (passed es) → W) → AllByRecursion Fits (passed rest) → W
  fit_passed lt f g h = g (subst (AllByRecursion Fits) (sym (one_passed lt)) (f, h))

  pub text_left : {whole : List ℕ} (out : List ℕ) → (row e).count ≤ 0 → out ++ flat_map row_text (passed es) ≡ whole → out ++ flat_map row_text (passed rest) ≡ whole
  text_left out le k = ap (λ z. out ++ flat_map row_text z) (sym (none_passed le)) ∙ k

  pub fit_left : {W : Type 0} → (row e).count ≤ 0 → (AllByRecursion Fits (passed es) → W) → AllByRecursion Fits (passed rest) → W
  fit_left le g h = g (subst (AllByRecursion Fits) (sym (none_passed le)) h)
