-- Writes in flight listed by landing cycle: what lands and what flies on is the same in that order.
use Rattle.std.proofs.Common.{◌≡◌, ℕ, zero, suc, ◌-◌, ◌<◌, ◌≤◌, Bool, true, false, if◌then◌else◌, nat_le, ℤ, List, [], ◌∷◌, ◌++◌, refl, sym, ap, ◌∙◌, arith, leb-true, leb-false, le-leb, append-nil}
use Rattle.std.proofs.lemmas.Bool.Decides.{nat_tests}
use Rattle.vx_base.specs.Flight.{written, lands_or, landed, flying, landed_in, flying_in}
use Rattle.vx_isa.specs.declared.operation.Register.{Register}
use Rattle.vx_isa.specs.Operations.{same}
use Rattle.vx_isa.specs.Machine.{Write}
use Rattle.vx_sim.specs.Flying.{put_in, by_landing}

abbrev pub is_before : Write → Write → Bool
is_before w x = nat_le (w.left - 1) (x.left - 1)

pub put_first : (w x : Write) (xs : List Write) → is_before w x ≡ true → put_in w (x ∷ xs) ≡ w ∷ x ∷ xs
put_first w x xs e = ap (λ b. if b then w ∷ x ∷ xs else x ∷ put_in w xs) e

pub put_later : (w x : Write) (xs : List Write) → is_before w x ≡ false → put_in w (x ∷ xs) ≡ x ∷ put_in w xs
put_later w x xs e = ap (λ b. if b then w ∷ x ∷ xs else x ∷ put_in w xs) e

-- what lands

lands_alike : (n : ℕ) (a a' : Register → ℤ) (b b' : ℕ → Register → ℤ) → a ≡ a' → ((k : ℕ) → b k ≡ b' k) → lands_or n a b ≡ lands_or n a' b'
lands_alike zero a a' b b' e f = e
lands_alike (suc zero) a a' b b' e f = e
lands_alike (suc (suc n)) a a' b b' e f = f (suc n)

-- a write that lands later changes nothing of what lands now
landed_skips : (held : Register → ℤ) (w : Write) (xs : List Write) → 1 < w.left → landed same held (put_in w xs) ≡ landed same held xs
landed_skips held w [] late = by w.left late
  where
    by : (n : ℕ) → 1 < n → lands_or n (written same held w.to w.number) (λ k. held) ≡ held
    by zero h = absurd (omega arith)
    by (suc zero) h = absurd (omega arith)
    by (suc (suc n)) h = refl
landed_skips held w (x ∷ xs) late =
    by (is_before w x) refl (landed_skips (written same held x.to x.number) w xs late) (landed_skips held w xs late)
  where
    skips : (n : ℕ) (a b : Register → ℤ) → 1 < n → lands_or n a (λ k. b) ≡ b
    skips zero a b h = absurd (omega arith)
    skips (suc zero) a b h = absurd (omega arith)
    skips (suc (suc n)) a b h = refl

    by : (b : Bool) → is_before w x ≡ b → landed same (written same held x.to x.number) (put_in w xs) ≡ landed same (written same held x.to x.number) xs → landed same held (put_in w xs) ≡ landed same held xs → landed same held (put_in w (x ∷ xs)) ≡ landed same held (x ∷ xs)
    by true e p q = ap (landed same held) (put_first w x xs e) ∙ skips w.left (landed same (written same held w.to w.number) (x ∷ xs)) (landed same held (x ∷ xs)) late
    by false e p q = ap (landed same held) (put_later w x xs e) ∙ lands_alike x.left _ _ (λ n. landed same held (put_in w xs)) (λ n. landed same held xs) p (λ k. q)

-- one that lands now is put first
put_now : (w : Write) (xs : List Write) → w.left ≤ 1 → put_in w xs ≡ w ∷ xs
put_now w [] now = refl
put_now w (x ∷ xs) now = put_first w x xs (le-leb (w.left - 1) (x.left - 1) (omega arith))

landed_put : (held : Register → ℤ) (w : Write) (xs : List Write) → landed same held (put_in w xs) ≡ landed same held (w ∷ xs)
landed_put held w xs = by (nat_le w.left 1) refl
  where
    skips : (n : ℕ) (a b : Register → ℤ) → 1 < n → b ≡ lands_or n a (λ k. b)
    skips zero a b h = absurd (omega arith)
    skips (suc zero) a b h = absurd (omega arith)
    skips (suc (suc n)) a b h = refl

    by : (b : Bool) → nat_le w.left 1 ≡ b → landed same held (put_in w xs) ≡ landed same held (w ∷ xs)
    by true e = let h : w.left ≤ 1 = leb-true w.left 1 e in ap (landed same held) (put_now w xs h)
    by false e =
        let l = leb-false w.left 1 e in
        let h : 1 < w.left = omega arith in
        landed_skips held w xs h ∙ skips w.left (landed same (written same held w.to w.number) xs) (landed same held xs) h

pub landed_sorted : (held : Register → ℤ) (ws : List Write) → landed same held (by_landing ws) ≡ landed same held ws
landed_sorted held [] = refl
landed_sorted held (w ∷ ws) =
    landed_put held w (by_landing ws)
    ∙ lands_alike w.left _ _ (λ n. landed same held (by_landing ws)) (λ n. landed same held ws) (landed_sorted (written same held w.to w.number) ws) (λ k. landed_sorted held ws)

-- what flies on

abbrev nearer : Write → Write
nearer w = record w { left = w.left - 1 }

flies_now : (w : Write) (ws : List Write) → w.left ≤ 1 → flying (w ∷ ws) ≡ flying ws
flies_now w ws h = by w.left h (λ n. record { to = w.to; number = w.number; left = n } ∷ flying ws)
  where
    by : (n : ℕ) → n ≤ 1 → (f : ℕ → List Write) → lands_or n (flying ws) f ≡ flying ws
    by zero h f = refl
    by (suc zero) h f = refl
    by (suc (suc n)) h f = absurd (omega arith)

flies_later : (w : Write) (ws : List Write) → 1 < w.left → flying (w ∷ ws) ≡ nearer w ∷ flying ws
flies_later w ws h = by w.left h
  where
    by : (n : ℕ) → 1 < n → lands_or n (flying ws) (λ k. record { to = w.to; number = w.number; left = k } ∷ flying ws) ≡ record { to = w.to; number = w.number; left = n - 1 } ∷ flying ws
    by zero h = absurd (omega arith)
    by (suc zero) h = absurd (omega arith)
    by (suc (suc n)) h = let e : suc n ≡ suc (suc n) - 1 = omega arith in ap (λ k. record { to = w.to; number = w.number; left = k } ∷ flying ws) e

flying_put : (w : Write) (xs : List Write) → 1 < w.left → flying (put_in w xs) ≡ put_in (nearer w) (flying xs)
flying_put w [] late = flies_later w [] late
flying_put w (x ∷ xs) late = by (is_before w x) (nat_le x.left 1) refl refl (flying_put w xs late)
  where
    by : (b d : Bool) → is_before w x ≡ b → nat_le x.left 1 ≡ d → flying (put_in w xs) ≡ put_in (nearer w) (flying xs) → flying (put_in w (x ∷ xs)) ≡ put_in (nearer w) (flying (x ∷ xs))
    by true true e f more = let l = leb-true (w.left - 1) (x.left - 1) e in let k = leb-true x.left 1 f in absurd (omega arith)
    by true false e f more =
        let l = leb-true (w.left - 1) (x.left - 1) e in
        let k = leb-false x.left 1 f in
        let h : 1 < x.left = omega arith in
        let t : is_before (nearer w) (nearer x) ≡ true = le-leb (w.left - 1 - 1) (x.left - 1 - 1) (omega arith) in
        ap flying (put_first w x xs e) ∙ flies_later w (x ∷ xs) late ∙ ap (λ ys. nearer w ∷ ys) (flies_later x xs h)
        ∙ sym (put_first (nearer w) (nearer x) (flying xs) t) ∙ ap (put_in (nearer w)) (sym (flies_later x xs h))
    by false true e f more =
        let k : x.left ≤ 1 = leb-true x.left 1 f in
        ap flying (put_later w x xs e) ∙ flies_now x (put_in w xs) k ∙ more ∙ ap (put_in (nearer w)) (sym (flies_now x xs k))
    by false false e f more =
        let l = leb-false (w.left - 1) (x.left - 1) e in
        let k = leb-false x.left 1 f in
        let h : 1 < x.left = omega arith in
        let t : is_before (nearer w) (nearer x) ≡ false = grind (arith, nat_tests) in
        ap flying (put_later w x xs e) ∙ flies_later x (put_in w xs) h ∙ ap (λ ys. nearer x ∷ ys) more
        ∙ sym (put_later (nearer w) (nearer x) (flying xs) t) ∙ ap (put_in (nearer w)) (sym (flies_later x xs h))

pub flying_sorted : (ws : List Write) → flying (by_landing ws) ≡ by_landing (flying ws)
flying_sorted [] = refl
flying_sorted (w ∷ ws) = by (nat_le w.left 1) refl (flying_sorted ws)
  where
    by : (b : Bool) → nat_le w.left 1 ≡ b → flying (by_landing ws) ≡ by_landing (flying ws) → flying (by_landing (w ∷ ws)) ≡ by_landing (flying (w ∷ ws))
    by true e more =
        let h : w.left ≤ 1 = leb-true w.left 1 e in
        ap flying (put_now w (by_landing ws) h) ∙ flies_now w (by_landing ws) h ∙ more ∙ ap by_landing (sym (flies_now w ws h))
    by false e more =
        let l = leb-false w.left 1 e in
        let h : 1 < w.left = omega arith in
        flying_put w (by_landing ws) h ∙ ap (put_in (nearer w)) more ∙ ap by_landing (sym (flies_later w ws h))

-- so many cycles

pub landed_in_sorted : (n : ℕ) (held : Register → ℤ) (ws : List Write) → landed_in same n held (by_landing ws) ≡ landed_in same n held ws
landed_in_sorted zero held ws = refl
landed_in_sorted (suc n) held ws =
    ap (λ r. landed_in same n r (flying (by_landing ws))) (landed_sorted held ws)
    ∙ ap (landed_in same n (landed same held ws)) (flying_sorted ws)
    ∙ landed_in_sorted n (landed same held ws) (flying ws)

pub flying_in_sorted : (n : ℕ) (ws : List Write) → flying_in n (by_landing ws) ≡ by_landing (flying_in n ws)
flying_in_sorted zero ws = refl
flying_in_sorted (suc n) ws = ap (flying_in n) (flying_sorted ws) ∙ flying_in_sorted n (flying ws)

-- more writes behind

-- two writes that land in different cycles are put in any order
put_apart : (w x : Write) (xs : List Write) → is_before w x ≡ false → put_in x (put_in w xs) ≡ put_in w (put_in x xs)
put_apart w x [] apart =
    let l = leb-false (w.left - 1) (x.left - 1) apart in
    let t : is_before x w ≡ true = le-leb (x.left - 1) (w.left - 1) (omega arith) in
    put_first x w [] t ∙ sym (put_later w x [] apart)
put_apart w x (y ∷ ys) apart = by (is_before w y) (is_before x y) refl refl (put_apart w x ys apart)
  where
    by : (b d : Bool) → is_before w y ≡ b → is_before x y ≡ d → put_in x (put_in w ys) ≡ put_in w (put_in x ys) → put_in x (put_in w (y ∷ ys)) ≡ put_in w (put_in x (y ∷ ys))
    by true true e f more =
        let l = leb-false (w.left - 1) (x.left - 1) apart in
        let t : is_before x w ≡ true = le-leb (x.left - 1) (w.left - 1) (omega arith) in
        ap (put_in x) (put_first w y ys e) ∙ put_first x w (y ∷ ys) t ∙ ap (λ zs. x ∷ zs) (sym (put_first w y ys e))
        ∙ sym (put_later w x (y ∷ ys) apart) ∙ ap (put_in w) (sym (put_first x y ys f))
    by true false e f more =
        let l = leb-false (w.left - 1) (x.left - 1) apart in
        let p = leb-true (w.left - 1) (y.left - 1) e in
        let q = leb-false (x.left - 1) (y.left - 1) f in
        absurd (omega arith)
    by false true e f more =
        ap (put_in x) (put_later w y ys e) ∙ put_first x y (put_in w ys) f ∙ ap (λ zs. x ∷ zs) (sym (put_later w y ys e))
        ∙ sym (put_later w x (y ∷ ys) apart) ∙ ap (put_in w) (sym (put_first x y ys f))
    by false false e f more =
        ap (put_in x) (put_later w y ys e) ∙ put_later x y (put_in w ys) f ∙ ap (λ zs. y ∷ zs) more
        ∙ sym (put_later w y (put_in x ys) e) ∙ ap (put_in w) (sym (put_later x y ys f))

sorted_put : (w : Write) (xs ns : List Write) → by_landing (put_in w xs ++ ns) ≡ put_in w (by_landing (xs ++ ns))
sorted_put w [] ns = refl
sorted_put w (x ∷ xs) ns = by (is_before w x) refl (sorted_put w xs ns)
  where
    by : (b : Bool) → is_before w x ≡ b → by_landing (put_in w xs ++ ns) ≡ put_in w (by_landing (xs ++ ns)) → by_landing (put_in w (x ∷ xs) ++ ns) ≡ put_in w (by_landing (x ∷ xs ++ ns))
    by true e more = ap (λ zs. by_landing (zs ++ ns)) (put_first w x xs e)
    by false e more = ap (λ zs. by_landing (zs ++ ns)) (put_later w x xs e) ∙ ap (put_in x) more ∙ put_apart w x (by_landing (xs ++ ns)) e

sorted_more : (ws ns : List Write) → by_landing (by_landing ws ++ ns) ≡ by_landing (ws ++ ns)
sorted_more [] ns = refl
sorted_more (w ∷ ws) ns = sorted_put w (by_landing ws) ns ∙ ap (put_in w) (sorted_more ws ns)

pub sorted_twice : (ws : List Write) → by_landing (by_landing ws) ≡ by_landing ws
sorted_twice ws = ap by_landing (sym (append-nil (by_landing ws))) ∙ sorted_more ws [] ∙ ap by_landing (append-nil ws)

-- a write that is put where it lands, and more behind it
pub put_more : (ws new now ns ms all : List Write) → now ≡ by_landing (ws ++ new) → (ws ++ new) ++ ns ≡ ms → by_landing ms ≡ all → by_landing (now ++ ns) ≡ all
put_more ws new now ns ms all e behind so_far = ap (λ us. by_landing (us ++ ns)) e ∙ sorted_more (ws ++ new) ns ∙ ap by_landing behind ∙ so_far

pub landed_in_more : (n : ℕ) (held : Register → ℤ) (ws ns : List Write) → landed_in same n held (by_landing ws ++ ns) ≡ landed_in same n held (ws ++ ns)
landed_in_more n held ws ns = sym (landed_in_sorted n held (by_landing ws ++ ns)) ∙ ap (landed_in same n held) (sorted_more ws ns) ∙ landed_in_sorted n held (ws ++ ns)

pub flying_in_more : (n : ℕ) (ws ns : List Write) → by_landing (flying_in n (by_landing ws ++ ns)) ≡ by_landing (flying_in n (ws ++ ns))
flying_in_more n ws ns = sym (flying_in_sorted n (by_landing ws ++ ns)) ∙ ap (flying_in n) (sorted_more ws ns) ∙ flying_in_sorted n (ws ++ ns)

-- the cycles of a word, once its writes are put where they land

pub landed_in_issued : (n k : ℕ) (held new : Register → ℤ) (ws us : List Write) → n ≡ k → us ≡ by_landing ws → new ≡ landed_in same n held us → new ≡ landed_in same k held ws
landed_in_issued n k held new ws us e puts lands = lands ∙ ap (λ i. landed_in same i held us) e ∙ ap (landed_in same k held) puts ∙ landed_in_sorted k held ws

pub flying_in_issued : (n k : ℕ) (ws us new : List Write) → n ≡ k → us ≡ by_landing ws → new ≡ flying_in n us → new ≡ by_landing (flying_in k ws)
flying_in_issued n k ws us new e puts flies = flies ∙ ap (λ i. flying_in i us) e ∙ ap (flying_in k) puts ∙ flying_in_sorted k ws
