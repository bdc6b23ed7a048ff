-- The merged steps give the greatest power of 2 that divides every difference of the two sums.
use Rattle.std.proofs.Common.{◌≡◌, ◌⊎◌, inl, inr, ℕ, ◌+◌, ◌*◌, ◌^◌, refl, sym, ◌∙◌, ap, arith, true, false, List, ◌∷◌, ℤ, pos, ◌+ℤ◌, ◌-ℤ◌, ◌*ℤ◌}
use Rattle.std.proofs.lemmas.Int.{ints}
use Rattle.std.proofs.Math.IntN.{pos-*ℤ-pos, zero-*ℤ, *ℤ-zero, *ℤ_comm}
use Rattle.vx_base.specs.Arithmetic.{IsNumber, wrap, unsigned, difference_of}
use Rattle.vx_base.proofs.WrapLaws.{wrap-unsigned, wrap-and_multiple, wrap_fits}
use Rattle.vx_linear.specs.declared.form.Symbol.{Symbol}
use Rattle.vx_linear.specs.declared.form.Term.{Term}
use Rattle.vx_linear.specs.Forms.{sum_at, is_same, is_before_all, is_ordered}
use Rattle.vx_linear.specs.Steps.{Narrows, Steps, none, left, right, both}
use Rattle.vx_linear.proofs.Products.{add_times, subtract_times, times_times, times_swap}
use Rattle.vx_linear.proofs.Narrowing.{Multiple, OddMultiple, divides_number, divides_step, same_or_odd}
use Rattle.vx_linear.proofs.Symbols.{only, only_self, only_other, no_sum, before_apart, same_before_all, first_all, ordered_rest, ordered_first, first-true, second-true, same_is}

-- a number read without sign, up to multiples of 2 ^ 32
pub like_unsigned : (z : ℤ) → IsNumber z → (k : ℤ) × (pos (unsigned z) ≡ z +ℤ k *ℤ pos (2 ^ 32))
like_unsigned z h =
    let k = wrap-and_multiple (pos (unsigned z)) in
    (k.0, k.1 ∙ ap (λ x. x +ℤ k.0 *ℤ pos (2 ^ 32)) (wrap-unsigned z h))

pub like_difference : (a b : ℤ) → (k : ℤ) × (pos (unsigned (difference_of a b)) ≡ (a -ℤ b) +ℤ k *ℤ pos (2 ^ 32))
unfolding difference_of
like_difference a b =
    let k = like_unsigned (wrap (a -ℤ b)) (wrap_fits (a -ℤ b)) in
    let j = wrap-and_multiple (a -ℤ b) in
    (k.0 -ℤ j.0, omega (arith, ints, k.1, j.1))

pub times_multiple : (p q g n step : ℕ) → n ≡ q * step → step ≡ p * g → n ≡ (q * p) * g
times_multiple p q g n step e f = e ∙ ap (λ x. q * x) f ∙ omega arith

pub steps_divide : {a b : List Term} {from g : ℕ} → Steps a b from g → Multiple g from
steps_divide {a} {b} {from} none = (1, omega arith)
steps_divide {a} {b} {from} {g} (left {t} {ts} {us} {step} {next} f h n s) = let d = divides_step n in let m = steps_divide s in (d.0 * m.0, times_multiple m.0 d.0 g step next d.1 m.1)
steps_divide {a} {b} {from} {g} (right {u} {ts} {us} {step} {next} f h n s) = let d = divides_step n in let m = steps_divide s in (d.0 * m.0, times_multiple m.0 d.0 g step next d.1 m.1)
steps_divide {a} {b} {from} {g} (both {t} {u} {ts} {us} {step} {next} h n s) = let d = divides_step n in let m = steps_divide s in (d.0 * m.0, times_multiple m.0 d.0 g step next d.1 m.1)

-- an integer that is a multiple of g
abbrev pub MultipleOf : ℕ → ℤ → Type 0
MultipleOf g z = (k : ℤ) × (z ≡ k *ℤ pos g)

-- z is q * g up to a multiple of 2 ^ 32, which is r * g
pub multiple_of : (g q r n : ℕ) (z k : ℤ) → n ≡ q * g → 2 ^ 32 ≡ r * g → pos n ≡ z +ℤ k *ℤ pos (2 ^ 32) → MultipleOf g z
multiple_of g q r n z k e f h =
    let up : k *ℤ pos (2 ^ 32) ≡ (k *ℤ pos r) *ℤ pos g = ap (λ x. k *ℤ pos x) f ∙ ap (λ x. k *ℤ x) (sym (pos-*ℤ-pos r g)) ∙ sym (times_times k (pos r) (pos g)) in
    let down : pos n ≡ pos q *ℤ pos g = ap pos e ∙ sym (pos-*ℤ-pos q g) in
    (pos q -ℤ k *ℤ pos r, omega (arith, ints, h, up, down, subtract_times (pos q) (k *ℤ pos r) (pos g)))

-- the factor is a multiple of g where the narrowing by it ends at a multiple of g
factor_multiple : {n step next g : ℕ} (z k : ℤ) → Narrows n step next → Multiple g next → Multiple g (2 ^ 32) → pos n ≡ z +ℤ k *ℤ pos (2 ^ 32) → MultipleOf g z
factor_multiple {n} {step} {next} {g} z k narrows m w h =
    let d = divides_number narrows in multiple_of g (d.0 * m.0) w.0 n z k (times_multiple m.0 d.0 g n next d.1 m.1) w.1 h

-- one more term of a multiple of g on the left or on the right
on_left : (f z x p q k g : ℤ) → f ≡ z *ℤ g → p ≡ q +ℤ k *ℤ g → f *ℤ x +ℤ p ≡ q +ℤ (z *ℤ x +ℤ k) *ℤ g
on_left f z x p q k g e h =
    omega (arith, ints, h, ap (λ y. y *ℤ x) e, times_swap z g x, add_times (z *ℤ x) k g)

on_right : (f z x p q k g : ℤ) → f ≡ z *ℤ g → p ≡ q +ℤ k *ℤ g → p ≡ (f *ℤ x +ℤ q) +ℤ (k -ℤ z *ℤ x) *ℤ g
on_right f z x p q k g e h =
    omega (arith, ints, h, ap (λ y. y *ℤ x) e, times_swap z g x, subtract_times k (z *ℤ x) g)

on_both : (f f' z x p q k g : ℤ) → f -ℤ f' ≡ z *ℤ g → p ≡ q +ℤ k *ℤ g → f *ℤ x +ℤ p ≡ (f' *ℤ x +ℤ q) +ℤ (z *ℤ x +ℤ k) *ℤ g
on_both f f' z x p q k g e h =
    omega (arith, ints, h, ap (λ y. y *ℤ x) e, subtract_times f f' x, times_swap z g x, add_times (z *ℤ x) k g)

-- whatever the symbols are, the sums differ by a multiple of it
pub sums_differ : {a b : List Term} {from g : ℕ} → Steps a b from g → Multiple g (2 ^ 32) → (s : Symbol → ℤ) → (k : ℤ) × (sum_at s a ≡ sum_at s b +ℤ k *ℤ pos g)
sums_differ {a} {b} {from} {g} none w s = (pos 0, omega (arith, ints, zero-*ℤ (pos g)))
sums_differ {a} {b} {from} {g} (left {t} {ts} {us} {step} {next} f h n more) w s =
    let l = like_unsigned t.factor f in let z = factor_multiple t.factor l.0 n (steps_divide more) w l.1 in let i = sums_differ more w s in
    (z.0 *ℤ s t.symbol +ℤ i.0, on_left t.factor z.0 (s t.symbol) (sum_at s ts) (sum_at s us) i.0 (pos g) z.1 i.1)
sums_differ {a} {b} {from} {g} (right {u} {ts} {us} {step} {next} f h n more) w s =
    let l = like_unsigned u.factor f in let z = factor_multiple u.factor l.0 n (steps_divide more) w l.1 in let i = sums_differ more w s in
    (i.0 -ℤ z.0 *ℤ s u.symbol, on_right u.factor z.0 (s u.symbol) (sum_at s ts) (sum_at s us) i.0 (pos g) z.1 i.1)
sums_differ {a} {b} {from} {g} (both {t} {u} {ts} {us} {step} {next} h n more) w s =
    let l = like_difference t.factor u.factor in let z = factor_multiple (t.factor -ℤ u.factor) l.0 n (steps_divide more) w l.1 in let i = sums_differ more w s in
    let e : s t.symbol ≡ s u.symbol = ap s (same_is t.symbol u.symbol h) in
    (z.0 *ℤ s u.symbol +ℤ i.0, ap (λ x. t.factor *ℤ x +ℤ sum_at s ts) e ∙ on_both t.factor u.factor z.0 (s u.symbol) (sum_at s ts) (sum_at s us) i.0 (pos g) z.1 i.1)

-- for some numbers of one symbol they differ by each odd multiple of it, up to multiples of 2 ^ 32
pub record Reached (a b : List Term) (g : ℕ) : Type 0 where
  pub symbol : Symbol
  pub odd : ℕ
  pub apart : (x : Symbol) → is_before_all x a ≡ true → is_before_all x b ≡ true → is_same x symbol ≡ false
  pub gives : (m : ℤ) → (n : ℤ) × (k : ℤ) × (sum_at (only symbol n) a ≡ sum_at (only symbol n) b +ℤ pos ((2 * odd + 1) * g) *ℤ m +ℤ k *ℤ pos (2 ^ 32))

odd_left : (f x p q big l m : ℤ) → big ≡ f +ℤ l *ℤ pos (2 ^ 32) → x ≡ m → p ≡ pos 0 → q ≡ pos 0 → f *ℤ x +ℤ p ≡ q +ℤ big *ℤ m +ℤ (pos 0 -ℤ l *ℤ m) *ℤ pos (2 ^ 32)
odd_left f x p q big l m e h i j =
    omega (arith, ints, ap (λ y. f *ℤ y) h, i, j, ap (λ y. y *ℤ m) e, add_times f (l *ℤ pos (2 ^ 32)) m, times_swap l (pos (2 ^ 32)) m, subtract_times (pos 0) (l *ℤ m) (pos (2 ^ 32)))

odd_right : (f x p q big l m : ℤ) → big ≡ f +ℤ l *ℤ pos (2 ^ 32) → x ≡ pos 0 -ℤ m → p ≡ pos 0 → q ≡ pos 0 → p ≡ (f *ℤ x +ℤ q) +ℤ big *ℤ m +ℤ (pos 0 -ℤ l *ℤ m) *ℤ pos (2 ^ 32)
odd_right f x p q big l m e h i j =
    omega (arith, ints, ap (λ y. f *ℤ y) h ∙ *ℤ_comm f (pos 0 -ℤ m), subtract_times (pos 0) m f, *ℤ_comm m f, i, j, ap (λ y. y *ℤ m) e, add_times f (l *ℤ pos (2 ^ 32)) m, times_swap l (pos (2 ^ 32)) m, subtract_times (pos 0) (l *ℤ m) (pos (2 ^ 32)))

odd_both : (f f' x p q big l m : ℤ) → big ≡ (f -ℤ f') +ℤ l *ℤ pos (2 ^ 32) → x ≡ m → p ≡ pos 0 → q ≡ pos 0 → f *ℤ x +ℤ p ≡ (f' *ℤ x +ℤ q) +ℤ big *ℤ m +ℤ (pos 0 -ℤ l *ℤ m) *ℤ pos (2 ^ 32)
odd_both f f' x p q big l m e h i j =
    omega (arith, ints, ap (λ y. f *ℤ y) h, ap (λ y. f' *ℤ y) h, i, j, ap (λ y. y *ℤ m) e, add_times (f -ℤ f') (l *ℤ pos (2 ^ 32)) m, subtract_times f f' m, times_swap l (pos (2 ^ 32)) m, subtract_times (pos 0) (l *ℤ m) (pos (2 ^ 32)))

-- the odd multiple of g that is the number without sign
odd_of : {n next g : ℕ} → g ≡ next → (o : OddMultiple next n) → pos ((2 * o.0 + 1) * g) ≡ pos n
odd_of {n} {next} {g} e o = ap (λ x. pos ((2 * o.0 + 1) * x)) e ∙ ap pos (sym o.1)

none_left : (f x p q big k : ℤ) → x ≡ pos 0 → p ≡ q +ℤ big +ℤ k → f *ℤ x +ℤ p ≡ q +ℤ big +ℤ k
none_left f x p q big k h e = omega (arith, ints, ap (λ y. f *ℤ y) h, *ℤ-zero f, e)

none_right : (f x p q big k : ℤ) → x ≡ pos 0 → p ≡ q +ℤ big +ℤ k → p ≡ (f *ℤ x +ℤ q) +ℤ big +ℤ k
none_right f x p q big k h e = omega (arith, ints, ap (λ y. f *ℤ y) h, *ℤ-zero f, e)

none_both : (f f' x x' p q big k : ℤ) → x ≡ pos 0 → x' ≡ pos 0 → p ≡ q +ℤ big +ℤ k → f *ℤ x +ℤ p ≡ (f' *ℤ x' +ℤ q) +ℤ big +ℤ k
none_both f f' x x' p q big k h h' e = omega (arith, ints, ap (λ y. f *ℤ y) h, *ℤ-zero f, ap (λ y. f' *ℤ y) h', *ℤ-zero f', e)

pub reached : {a b : List Term} {from g : ℕ} → Steps a b from g → is_ordered a ≡ true → is_ordered b ≡ true → (g ≡ from) ⊎ Reached a b g
reached none oa ob = inl refl
reached {a} {b} {from} {g} (left {t} {ts} {us} {step} {next} f h n more) oa ob = by (reached more (ordered_rest t ts oa) ob)
  where
    all_us : is_before_all t.symbol us ≡ true
    all_us = first_all t.symbol us ob h

    l : (k : ℤ) × (pos (unsigned t.factor) ≡ t.factor +ℤ k *ℤ pos (2 ^ 32))
    l = like_unsigned t.factor f

    on : g ≡ next → (next ≡ from) ⊎ OddMultiple next (unsigned t.factor) → (g ≡ from) ⊎ Reached (t ∷ ts) us g
    on e (inl k) = inl (e ∙ k)
    on e (inr o) = inr (record {
      symbol = t.symbol;
      odd = o.0;
      apart = λ x i j. before_apart x t.symbol (first-true _ _ i);
      gives = λ m. (m, pos 0 -ℤ l.0 *ℤ m, odd_left t.factor (only t.symbol m t.symbol) (sum_at (only t.symbol m) ts) (sum_at (only t.symbol m) us) (pos ((2 * o.0 + 1) * g)) l.0 m (odd_of e o ∙ l.1) (only_self t.symbol m) (no_sum t.symbol m ts (ordered_first t ts oa)) (no_sum t.symbol m us all_us));
    })

    by : (g ≡ next) ⊎ Reached ts us g → (g ≡ from) ⊎ Reached (t ∷ ts) us g
    by (inl e) = on e (same_or_odd n)
    by (inr r) = inr (record {
      symbol = r.symbol;
      odd = r.odd;
      apart = λ x i j. r.apart x (second-true _ _ i) j;
      gives = λ m. let e = r.gives m in (e.0, e.1, none_left t.factor (only r.symbol e.0 t.symbol) (sum_at (only r.symbol e.0) ts) (sum_at (only r.symbol e.0) us) (pos ((2 * r.odd + 1) * g) *ℤ m) (e.1 *ℤ pos (2 ^ 32)) (only_other r.symbol t.symbol e.0 (r.apart t.symbol (ordered_first t ts oa) all_us)) e.2);
    })
reached {a} {b} {from} {g} (right {u} {ts} {us} {step} {next} f h n more) oa ob = by (reached more oa (ordered_rest u us ob))
  where
    all_ts : is_before_all u.symbol ts ≡ true
    all_ts = first_all u.symbol ts oa h

    l : (k : ℤ) × (pos (unsigned u.factor) ≡ u.factor +ℤ k *ℤ pos (2 ^ 32))
    l = like_unsigned u.factor f

    on : g ≡ next → (next ≡ from) ⊎ OddMultiple next (unsigned u.factor) → (g ≡ from) ⊎ Reached ts (u ∷ us) g
    on e (inl k) = inl (e ∙ k)
    on e (inr o) = inr (record {
      symbol = u.symbol;
      odd = o.0;
      apart = λ x i j. before_apart x u.symbol (first-true _ _ j);
      gives = λ m. (pos 0 -ℤ m, pos 0 -ℤ l.0 *ℤ m, odd_right u.factor (only u.symbol (pos 0 -ℤ m) u.symbol) (sum_at (only u.symbol (pos 0 -ℤ m)) ts) (sum_at (only u.symbol (pos 0 -ℤ m)) us) (pos ((2 * o.0 + 1) * g)) l.0 m (odd_of e o ∙ l.1) (only_self u.symbol (pos 0 -ℤ m)) (no_sum u.symbol (pos 0 -ℤ m) ts all_ts) (no_sum u.symbol (pos 0 -ℤ m) us (ordered_first u us ob)));
    })

    by : (g ≡ next) ⊎ Reached ts us g → (g ≡ from) ⊎ Reached ts (u ∷ us) g
    by (inl e) = on e (same_or_odd n)
    by (inr r) = inr (record {
      symbol = r.symbol;
      odd = r.odd;
      apart = λ x i j. r.apart x i (second-true _ _ j);
      gives = λ m. let e = r.gives m in (e.0, e.1, none_right u.factor (only r.symbol e.0 u.symbol) (sum_at (only r.symbol e.0) ts) (sum_at (only r.symbol e.0) us) (pos ((2 * r.odd + 1) * g) *ℤ m) (e.1 *ℤ pos (2 ^ 32)) (only_other r.symbol u.symbol e.0 (r.apart u.symbol all_ts (ordered_first u us ob))) e.2);
    })
reached {a} {b} {from} {g} (both {t} {u} {ts} {us} {step} {next} h n more) oa ob = by (reached more (ordered_rest t ts oa) (ordered_rest u us ob))
  where
    l : (k : ℤ) × (pos (unsigned (difference_of t.factor u.factor)) ≡ (t.factor -ℤ u.factor) +ℤ k *ℤ pos (2 ^ 32))
    l = like_difference t.factor u.factor

    all_us : is_before_all t.symbol us ≡ true
    all_us = same_before_all t.symbol u.symbol us h (ordered_first u us ob)

    same_at : (s : Symbol → ℤ) → s t.symbol ≡ s u.symbol
    same_at s = ap s (same_is t.symbol u.symbol h)

    on : g ≡ next → (next ≡ from) ⊎ OddMultiple next (unsigned (difference_of t.factor u.factor)) → (g ≡ from) ⊎ Reached (t ∷ ts) (u ∷ us) g
    on e (inl k) = inl (e ∙ k)
    on e (inr o) = inr (record {
      symbol = t.symbol;
      odd = o.0;
      apart = λ x i j. before_apart x t.symbol (first-true _ _ i);
      gives = λ m. (
        m,
        pos 0 -ℤ l.0 *ℤ m,
        odd_both t.factor u.factor (only t.symbol m t.symbol) (sum_at (only t.symbol m) ts) (sum_at (only t.symbol m) us) (pos ((2 * o.0 + 1) * g)) l.0 m (odd_of e o ∙ l.1) (only_self t.symbol m) (no_sum t.symbol m ts (ordered_first t ts oa)) (no_sum t.symbol m us all_us)
            ∙ ap (λ x. (u.factor *ℤ x +ℤ sum_at (only t.symbol m) us) +ℤ pos ((2 * o.0 + 1) * g) *ℤ m +ℤ (pos 0 -ℤ l.0 *ℤ m) *ℤ pos (2 ^ 32)) (same_at (only t.symbol m)),
      );
    })

    by : (g ≡ next) ⊎ Reached ts us g → (g ≡ from) ⊎ Reached (t ∷ ts) (u ∷ us) g
    by (inl e) = on e (same_or_odd n)
    by (inr r) = inr (record {
      symbol = r.symbol;
      odd = r.odd;
      apart = λ x i j. r.apart x (second-true _ _ i) (second-true _ _ j);
      gives = λ m. let e = r.gives m in let zero_there = only_other r.symbol t.symbol e.0 (r.apart t.symbol (ordered_first t ts oa) all_us) in
          (e.0, e.1, none_both t.factor u.factor (only r.symbol e.0 t.symbol) (only r.symbol e.0 u.symbol) (sum_at (only r.symbol e.0) ts) (sum_at (only r.symbol e.0) us) (pos ((2 * r.odd + 1) * g) *ℤ m) (e.1 *ℤ pos (2 ^ 32)) zero_there (sym (same_at (only r.symbol e.0)) ∙ zero_there) e.2);
    })
