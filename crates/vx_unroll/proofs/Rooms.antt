-- Room for a loop unrolled, by counts that stop at the greatest number of 64 bits.
use Rattle.std.proofs.Common.{◌≡◌, ℕ, suc, ◌+◌, ◌-◌, ◌*◌, ◌≤◌, ◌<◌, Bool, true, false, ◌&&◌, List, [], ◌∷◌, Some, None, refl, sym, ap, ◌∙◌, arith, ltb-true, lt-ltb}
use Rattle.std.specs.Prelude.{if◌then◌else◌}
use Rattle.std.proofs.lemmas.Bool.{and_parts, and_from, false≢true}
use Rattle.std.proofs.lemmas.Nat.{mul-le}
use Rattle.vx_ast.specs.declared.tree.Item.{Item}
use Rattle.vx_ast.specs.View.{items_of}
use Rattle.vx_ast.specs.Tree.{Code, Nothing, Seq, Block}
use Rattle.vx_ast.specs.Accepted.{at_most, code_nodes}
use Rattle.vx_limits.specs.Capped.{capped}
use Rattle.vx_unroll.specs.declared.size.Size.{Size}
use Rattle.vx_unroll.specs.Unrolling.{block_of, declared_words, keeps_limits}
use Rattle.vx_unroll.specs.Growth.{fitting, grown, grown_by, is_block}
use Rattle.vx_unroll.proofs.Sizes.{limits_kept, block_least}

pub block_is : (c : Code) → is_block c ≡ true → block_of c ≡ c
block_is (Block a) e = refl
block_is c e = absurd (false≢true e)

pub block_made : (c : Code) → is_block c ≡ false → block_of c ≡ Block (Seq c Nothing)
block_made (Block a) e = absurd (false≢true (sym e))
block_made c e = refl

pub block_stays : (c : Code) → is_block c ≡ true → code_nodes (block_of c) ≡ code_nodes c
block_stays c e = ap code_nodes (block_is c e)

pub block_added : (c : Code) → is_block c ≡ false → code_nodes (block_of c) ≡ 1 + code_nodes c
block_added c e = let h : code_nodes (block_of c) ≡ 1 + (code_nodes c + 0) = ap code_nodes (block_made c e) in omega (arith, h)

pub items_no_block : (is : List Item) → is_block (items_of is) ≡ false
items_no_block [] = refl
items_no_block (i ∷ is) = refl

block_most : (c : Code) → code_nodes (block_of c) ≤ 1 + code_nodes c
block_most (Block a) = omega arith
block_most c = omega arith

pub product_small : (k n : ℕ) → k < 8 → n ≤ 8192 → k * n ≤ 65536
product_small k n h l = let m : k ≤ 8 = omega (arith, h) in mul-le k n 8 8192 m l

least_product : (k n : ℕ) → 0 < k → n ≤ k * n
least_product k n h = let m : 1 ≤ k = omega (arith, h) in let s : n ≤ n = omega arith in let r = mul-le 1 n k n m s in omega (arith, r)

abbrev pub small : Size → (nodes behind words : ℕ) → Bool
small size nodes behind words = at_most size.nodes 4000 && (at_most size.words 8192 && (at_most nodes 4000 && (at_most behind 4000 && at_most words 8192)))

pub record Small (size : Size) (nodes behind words : ℕ) : Type 0 where
  pub has_nodes : size.nodes ≤ 4000
  pub has_words : size.words ≤ 8192
  pub few_nodes : nodes ≤ 4000
  pub few_behind : behind ≤ 4000
  pub few_words : words ≤ 8192

below_is : (n most : ℕ) → at_most n most ≡ true → n ≤ most
below_is n most e = let h : n < suc most = ltb-true n (suc most) e in omega (arith, h)

is_below : (n most : ℕ) → n ≤ most → at_most n most ≡ true
is_below n most h = lt-ltb n (suc most) (omega (arith, h))

pub small_is : (size : Size) (nodes behind words : ℕ) → small size nodes behind words ≡ true → Small size nodes behind words
small_is size nodes behind words e =
    let d = at_most behind 4000 && at_most words 8192 in
    let c = at_most nodes 4000 && d in
    let b = at_most size.words 8192 && c in
    let p = and_parts (at_most size.nodes 4000) b e in
    let q = and_parts (at_most size.words 8192) c p.1 in
    let r = and_parts (at_most nodes 4000) d q.1 in
    let s = and_parts (at_most behind 4000) (at_most words 8192) r.1 in
    record { has_nodes = below_is size.nodes 4000 p.0; has_words = below_is size.words 8192 q.0; few_nodes = below_is nodes 4000 r.0; few_behind = below_is behind 4000 s.0; few_words = below_is words 8192 s.1 }

is_small : (size : Size) (nodes behind words : ℕ) → Small size nodes behind words → small size nodes behind words ≡ true
is_small size nodes behind words s =
    let d = at_most behind 4000 && at_most words 8192 in
    let c = at_most nodes 4000 && d in
    let b = at_most size.words 8192 && c in
    and_from (at_most size.nodes 4000) b (is_below size.nodes 4000 s.has_nodes) (and_from (at_most size.words 8192) c (is_below size.words 8192 s.has_words)
    (and_from (at_most nodes 4000) d (is_below nodes 4000 s.few_nodes) (and_from (at_most behind 4000) (at_most words 8192) (is_below behind 4000 s.few_behind) (is_below words 8192 s.few_words))))

module _ (more : ℕ) (some : 0 < more) (words : ℕ → ℕ) (now : Size) (body : Code) (nodes turn behind declared b : ℕ)
    (en : nodes ≡ capped (code_nodes body)) (et : turn ≡ capped (code_nodes (block_of body))) (eb : behind ≡ capped b) (ed : declared ≡ capped (declared_words words body)) where
  -- what grows within the limits was small
  was_small : keeps_limits (grown more words now body b) ≡ true → small now nodes behind declared ≡ true
  was_small e =
      let l = limits_kept words (grown more words now body b) e in
      let t = code_nodes (block_of body) in
      let least : code_nodes body ≤ t = block_least body in
      let turns = least_product more (t + b) some in
      let more_words = least_product more (declared_words words body) some in
      let ln : now.nodes + (1 + t - code_nodes body) + more * (t + b) ≤ 4000 = l.0 in
      let lw : now.words + more * declared_words words body ≤ 8192 = l.1 in
      is_small now nodes behind declared (record {
        has_nodes = omega (arith, ln);
        has_words = omega (arith, lw);
        few_nodes = omega (arith, ln, turns, least, en);
        few_behind = omega (arith, ln, turns, eb);
        few_words = omega (arith, lw, more_words, ed);
      })

  pub does_not_fit : small now nodes behind declared ≡ false → None ≡ fitting (grown more words now body b)
  does_not_fit e =
      let by : (f : Bool) → keeps_limits (grown more words now body b) ≡ f → None ≡ (if f then Some (grown more words now body b) else None)
      = λ f. elim f as (λ f. keeps_limits (grown more words now body b) ≡ f → None ≡ (if f then Some (grown more words now body b) else None)) [
        | true ↦ λ h. absurd (false≢true (sym e ∙ was_small h))
        | false ↦ λ h. refl
      ] in
      by (keeps_limits (grown more words now body b)) refl

  pub is_counted : small now nodes behind declared ≡ true → grown_by more now nodes turn behind declared ≡ grown more words now body b
  is_counted e =
      let s = small_is now nodes behind declared e in
      let few_nodes = s.few_nodes in let few_behind = s.few_behind in let few_words = s.few_words in
      let most = block_most body in
      let n : nodes ≡ code_nodes body = omega (arith, en, few_nodes) in
      let t : turn ≡ code_nodes (block_of body) = omega (arith, et, n, most, few_nodes) in
      let h : behind ≡ b = omega (arith, eb, few_behind) in
      let w : declared ≡ declared_words words body = omega (arith, ed, few_words) in
      ap (λ (z : ℕ). grown_by more now z turn behind declared) n ∙ ap (λ (z : ℕ). grown_by more now (code_nodes body) z behind declared) t
      ∙ ap (λ (z : ℕ). grown_by more now (code_nodes body) (code_nodes (block_of body)) z declared) h ∙ ap (λ (z : ℕ). grown_by more now (code_nodes body) (code_nodes (block_of body)) b z) w

  pub turn_bounds : small now nodes behind declared ≡ true → (nodes ≤ turn) × (turn ≤ 4001)
  turn_bounds e =
      let s = small_is now nodes behind declared e in
      let few_nodes = s.few_nodes in
      let most = block_most body in let least = block_least body in
      (omega (arith, en, et, most, least, few_nodes), omega (arith, en, et, most, few_nodes))
