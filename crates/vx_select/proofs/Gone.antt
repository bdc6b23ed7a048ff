-- The number that a block has where the sides are gone.
use Rattle.std.proofs.Common.{◌≡◌, ℕ, zero, suc, ◌+◌, ◌-◌, ◌<◌, ◌≤◌, ◌==◌, ◌&&◌, Bool, true, false, cond, [], refl, sym, ap, ◌∙◌, eq-eqb, arith, ltb-true}
use Rattle.std.specs.Prelude.{not, nat_lt}
use Rattle.std.proofs.lemmas.Bool.{false≢true, eqb-true, ltb-false}
use Rattle.vx_flow.specs.declared.graph.Graph.{Graph}
use Rattle.vx_select.specs.declared.corners.Corners.{Corners}
use Rattle.vx_select.specs.Selected.{Diamond, stays, staying, numbered}
use Rattle.vx_select.specs.Known.{whole, is_no_side}
use Rattle.vx_select.specs.Joining.{before_one, gone}

not_lt : (m n : ℕ) → nat_lt m n ≡ false → n ≤ m
not_lt m n e = ltb-false m n e

staying_end : (d : Diamond) (k n : ℕ) → staying d k (suc n) ≡ staying d k n + cond (stays d (k + n)) 1 0
staying_end d k zero = let z : k + 0 ≡ k = omega arith in by (stays d k) ∙ ap (λ j. 0 + cond (stays d j) 1 0) (sym z)
  where
    by : (b : Bool) → cond b 1 0 ≡ 0 + cond b 1 0
    by true = omega arith
    by false = omega arith
staying_end d k (suc n) =
    let z : suc k + n ≡ k + suc n = omega arith in
    let h : staying d (suc k) (suc n) ≡ staying d (suc k) n + cond (stays d (k + suc n)) 1 0 = staying_end d (suc k) n ∙ ap (λ j. staying d (suc k) n + cond (stays d j) 1 0) z in
    by (stays d k) (staying d (suc k) (suc n)) (staying d (suc k) n) (cond (stays d (k + suc n)) 1 0) h
  where
    by : (b : Bool) (x y e : ℕ) → x ≡ y + e → cond b (suc x) x ≡ cond b (suc y) y + e
    by true x y e h = omega arith
    by false x y e h = h

below_suc : (side b : ℕ) (x y z : Bool) → nat_lt side (suc b) ≡ x → nat_lt side b ≡ y → (b == side) ≡ z → cond x 1 0 ≡ cond y 1 0 + cond z 1 0
below_suc side b true true true e f h = let p : side < b = ltb-true side b f in let q : b ≡ side = eqb-true b side h in absurd (omega arith)
below_suc side b true true false e f h = omega arith
below_suc side b true false true e f h = omega arith
below_suc side b true false false e f h =
    let p : side < suc b = ltb-true side (suc b) e in
    let q : b ≤ side = not_lt side b f in
    let r : b ≡ side = omega arith in
    absurd (false≢true (sym h ∙ eq-eqb b side r))
below_suc side b false true z e f h = let p : side < b = ltb-true side b f in let q : suc b ≤ side = not_lt side (suc b) e in absurd (omega arith)
below_suc side b false false true e f h = let q : suc b ≤ side = not_lt side (suc b) e in let r : b ≡ side = eqb-true b side h in absurd (omega arith)
below_suc side b false false false e f h = omega arith

before_step : (side b : ℕ) → before_one side (suc b) ≡ before_one side b + cond (b == side) 1 0
before_step side b = below_suc side b (nat_lt side (suc b)) (nat_lt side b) (b == side) refl refl refl

before_first : (side : ℕ) → before_one side 0 ≡ 0
before_first side = by (nat_lt side 0) refl
  where
    by : (x : Bool) → nat_lt side 0 ≡ x → cond {A = ℕ} x 1 0 ≡ 0
    by true e = let p : side < 0 = ltb-true side 0 e in absurd (omega arith)
    by false e = refl

gone_first : (c : Corners) → gone c 0 ≡ 0
gone_first c =
    let p = before_first c.yes in
    let q = before_first c.no in
    by (c.no == c.yes) (before_one c.yes 0) (before_one c.no 0) p q
  where
    by : (s : Bool) (x y : ℕ) → x ≡ 0 → y ≡ 0 → x + cond s 0 y ≡ 0
    by true x y p q = omega arith
    by false x y p q = omega arith

gone_step : (c : Corners) (b : ℕ) → gone c (suc b) ≡ gone c b + cond (is_no_side c b) 0 1
gone_step c b = by (c.no == c.yes) (b == c.yes) (b == c.no) refl refl refl (before_one c.yes (suc b)) (before_one c.no (suc b)) (before_one c.yes b) (before_one c.no b) (before_step c.yes b) (before_step c.no b)
  where
    apart : c.no ≡ c.yes → (b == c.yes) ≡ true → (b == c.no) ≡ false → ⊥
    apart s e f = let p : b ≡ c.yes = eqb-true b c.yes e in false≢true (sym f ∙ eq-eqb b c.no (p ∙ sym s))

    apart_too : c.no ≡ c.yes → (b == c.yes) ≡ false → (b == c.no) ≡ true → ⊥
    apart_too s e f = let p : b ≡ c.no = eqb-true b c.no f in false≢true (sym e ∙ eq-eqb b c.yes (p ∙ s))

    by : (s y n : Bool) → (c.no == c.yes) ≡ s → (b == c.yes) ≡ y → (b == c.no) ≡ n → (p q r t : ℕ) → p ≡ r + cond (b == c.yes) 1 0 → q ≡ t + cond (b == c.no) 1 0 → p + cond s 0 q ≡ (r + cond s 0 t) + cond (not (b == c.yes) && not (b == c.no)) 0 1
    by s y n e f h p q r t i j = at s y n e f h (i ∙ ap (λ x. r + cond x 1 0) f) (j ∙ ap (λ x. t + cond x 1 0) h) ∙ ap (λ x. (r + cond s 0 t) + cond (not x && not n) 0 1) (sym f) ∙ ap (λ x. (r + cond s 0 t) + cond (not (b == c.yes) && not x) 0 1) (sym h)
      where
        at : (s y n : Bool) → (c.no == c.yes) ≡ s → (b == c.yes) ≡ y → (b == c.no) ≡ n → p ≡ r + cond y 1 0 → q ≡ t + cond n 1 0 → p + cond s 0 q ≡ (r + cond s 0 t) + cond (not y && not n) 0 1
        at true true true e f h i j = omega arith
        at true true false e f h i j = absurd (apart (eqb-true c.no c.yes e) f h)
        at true false true e f h i j = absurd (apart_too (eqb-true c.no c.yes e) f h)
        at true false false e f h i j = omega arith
        at false true true e f h i j = let u : b ≡ c.yes = eqb-true b c.yes f in let v : b ≡ c.no = eqb-true b c.no h in absurd (false≢true (sym e ∙ eq-eqb c.no c.yes (sym v ∙ u)))
        at false true false e f h i j = omega arith
        at false false true e f h i j = omega arith
        at false false false e f h i j = omega arith

number_gone : (g : Graph) (c : Corners) (b : ℕ) → numbered (whole g c) b + gone c b ≡ b
number_gone g c zero = let h = gone_first c in omega arith
number_gone g c (suc b) =
    let h = number_gone g c b in
    let z : 0 + b ≡ b = omega arith in
    let p : numbered (whole g c) (suc b) ≡ numbered (whole g c) b + cond (is_no_side c b) 1 0 = staying_end (whole g c) 0 b ∙ ap (λ j. numbered (whole g c) b + cond (stays (whole g c) j) 1 0) z in
    let q = gone_step c b in
    by (is_no_side c b) (numbered (whole g c) b) (numbered (whole g c) (suc b)) (gone c b) (gone c (suc b)) p q h
  where
    by : (x : Bool) (m n u v : ℕ) → n ≡ m + cond x 1 0 → v ≡ u + cond x 0 1 → m + u ≡ b → n + v ≡ suc b
    by true m n u v p q h = omega arith
    by false m n u v p q h = omega arith

no_graph : Graph
no_graph = record { blocks = []; banks = []; parameters = []; arrays = [] }

pub gone_below : (c : Corners) (b n : ℕ) → n ≡ gone c b → n ≤ b
gone_below c b n e = let h = number_gone no_graph c b in omega arith

pub number_is : (g : Graph) (c : Corners) (b n : ℕ) → n ≡ gone c b → b - n ≡ numbered (whole g c) b
number_is g c b n e = let h = number_gone g c b in omega arith
