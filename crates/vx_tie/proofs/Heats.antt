-- Words after which some registers may be in flight, and words that wait until all has landed.
use Rattle.std.proofs.Common.{◌≡◌, ◌≤◌, ◌⊎◌, inl, inr, ⊎_elim, ◌+◌, ◌-◌, ℕ, zero, suc, Bool, true, false, ◌||◌, cond, Option, Some, None, List, [], ◌∷◌, ◌++◌, refl, sym, ap, ◌∙◌, arith}
use Rattle.std.specs.Prelude.{max}
use Rattle.std.specs.List.{list_any}
use Rattle.vx_base.proofs.Pieces.{Hit, raised, cold, Fine, fine_less}
use Rattle.vx_isa.specs.declared.operation.Register.{Register}
use Rattle.vx_isa.specs.declared.operation.Operation.{Operation}
use Rattle.vx_isa.specs.declared.program.Word.{Word}
use Rattle.vx_isa.specs.Numbers.{Numbers}
use Rattle.vx_isa.specs.Operations.{same, list_of, destination_of, is_call, latency_of}
use Rattle.vx_isa.specs.Fits.{destinations}
use Rattle.vx_isa.specs.Paths.{Among}
use Rattle.vx_isa.proofs.AnyTiming.{tells}
use Rattle.vx_target.specs.Target.{latest, pause}
use Rattle.vx_tie.proofs.Early.{falls, Jumps, hit_of, hits, Touches, words_kind, words_cool}

-- some registers may need up to n cycles more
abbrev pub lift : ℕ → (Register → ℕ) → List Register → Register → ℕ
lift n b rs r = cond (list_any (same r) rs) (max (b r) n) (b r)

pub lift_from : (n : ℕ) (b : Register → ℕ) (rs : List Register) (r : Register) → b r ≤ lift n b rs r
lift_from n b rs r = by (list_any (same r) rs)
  where
    by : (t : Bool) → b r ≤ cond t (max (b r) n) (b r)
    by true = omega arith
    by false = omega arith

pub lift_most : (n : ℕ) (b : Register → ℕ) (rs : List Register) (r : Register) → lift n b rs r ≤ max (b r) n
lift_most n b rs r = by (list_any (same r) rs)
  where
    by : (t : Bool) → cond t (max (b r) n) (b r) ≤ max (b r) n
    by true = omega arith
    by false = omega arith

any_among : (r : Register) (rs : List Register) → Among r rs → list_any (same r) rs ≡ true
any_among r [] i = absurd i
any_among r (x ∷ rs) i = ⊎_elim
    (λ e. ap (λ b. b || list_any (same r) rs) (ap (same r) (sym e) ∙ tells.itself r))
    (λ k. ap (λ b. same r x || b) (any_among r rs k) ∙ or_true (same r x))
    i
  where
    or_true : (b : Bool) → (b || true) ≡ true
    or_true true = refl
    or_true false = refl

any_more : (r : Register) (xs rs : List Register) → list_any (same r) rs ≡ true → list_any (same r) (xs ++ rs) ≡ true
any_more r [] rs e = e
any_more r (x ∷ xs) rs e = ap (λ b. same r x || b) (any_more r xs rs e) ∙ or_true (same r x)
  where
    or_true : (b : Bool) → (b || true) ≡ true
    or_true true = refl
    or_true false = refl

among_left : (r : Register) (xs ys : List Register) → Among r xs → Among r (xs ++ ys)
among_left r [] ys i = absurd i
among_left r (x ∷ xs) ys i = ⊎_elim (λ e. inl e) (λ k. inr (among_left r xs ys k)) i

pub lift_at : (n : ℕ) (b : Register → ℕ) (rs : List Register) (r : Register) → Among r rs → n ≤ lift n b rs r
lift_at n b rs r i = let e : lift n b rs r ≡ max (b r) n = ap (λ t. cond t (max (b r) n) (b r)) (any_among r rs i) in omega arith

lift_more : (n : ℕ) (b : Register → ℕ) (xs rs : List Register) (r : Register) → lift n b rs r ≤ lift n b (xs ++ rs) r
lift_more n b xs rs r = by (list_any (same r) rs) refl
  where
    by : (t : Bool) → list_any (same r) rs ≡ t → cond t (max (b r) n) (b r) ≤ lift n b (xs ++ rs) r
    by true e = let q : lift n b (xs ++ rs) r ≡ max (b r) n = ap (λ t. cond t (max (b r) n) (b r)) (any_more r xs rs e) in omega arith
    by false e = lift_from n b (xs ++ rs) r

-- registers that are not among those
pub lift_off : (n : ℕ) (b : Register → ℕ) (rs : List Register) (r : Register) → b r ≡ 0 → list_any (same r) rs ≡ false → lift n b rs r ≡ 0
lift_off n b rs r z e = ap (λ t. cond t (max (b r) n) (b r)) e ∙ z

abbrev pub HitIn : Hit Register → List (Hit Register) → Type 0
HitIn x [] = ⊥
HitIn x (y ∷ ys) = (x ≡ y) ⊎ HitIn x ys

pub raised_bound : (xs : List (Hit Register)) (h b : Register → ℕ) → ((r : Register) → h r ≤ b r) → ((x : Hit Register) → HitIn x xs → x.latency ≤ b x.to) → (r : Register) → raised same xs h r ≤ b r
raised_bound [] h b le hs r = le r
raised_bound (x ∷ xs) h b le hs r = raised_bound xs (λ s. cond (same s x.to) (max (h s) x.latency) (h s)) b (λ s. by s (same s x.to) refl) (λ y i. hs y (inr i)) r
  where
    by : (s : Register) (t : Bool) → same s x.to ≡ t → cond t (max (h s) x.latency) (h s) ≤ b s
    by s true e = let k = hs x (inl refl) in let q : b s ≡ b x.to = ap b (tells.equal s x.to e) in let a = le s in omega arith
    by s false e = le s

-- what a word writes is a destination, and lands with its latest
record FromWord (m : Numbers) (ops : List Operation) (x : Hit Register) : Type 0 where
  to : Among x.to (destinations ops)
  latency : x.latency ≤ latest m ops

hit_in : (m : Numbers) (op : Operation) (d : Option Register) (x : Hit Register) → HitIn x (hit_of m op d) → Among x.to (list_of d) × (x.latency ≤ latency_of m op)
hit_in m op None x i = absurd i
hit_in m op (Some r) x i = by (is_call op) i
  where
    by : (b : Bool) → HitIn x (cond b [] (record { to = r; latency = latency_of m op } ∷ [])) → Among x.to (r ∷ []) × (x.latency ≤ latency_of m op)
    by true j = absurd j
    by false j = ⊎_elim (λ e. (inl (ap (λ h. h.to) e), let k : x.latency ≡ latency_of m op = ap (λ h. h.latency) e in omega arith)) (λ k. absurd k) j

pub hit_either : (x : Hit Register) (xs ys : List (Hit Register)) → HitIn x (xs ++ ys) → HitIn x xs ⊎ HitIn x ys
hit_either x [] ys i = inr i
hit_either x (y ∷ xs) ys i = ⊎_elim (λ e. inl (inl e)) (λ k. ⊎_elim (λ a. inl (inr a)) (λ b. inr b) (hit_either x xs ys k)) i

among_right : (r : Register) (xs ys : List Register) → Among r ys → Among r (xs ++ ys)
among_right r [] ys i = i
among_right r (x ∷ xs) ys i = inr (among_right r xs ys i)

from_word : (m : Numbers) (ops : List Operation) (x : Hit Register) → HitIn x (hits m ops) → FromWord m ops x
from_word m [] x i = absurd i
from_word m (op ∷ ops) x i = ⊎_elim
    (λ k. let a = hit_in m op (destination_of op) x k in let c = a.1 in record { to = among_left x.to (list_of (destination_of op)) (destinations ops) a.0; latency = omega arith })
    (λ k. let a = from_word m ops x k in let c = a.latency in record { to = among_right x.to (list_of (destination_of op)) (destinations ops) a.to; latency = omega arith })
    (hit_either x (hit_of m op (destination_of op)) (hits m ops) i)

module _ (m : Numbers) (heat : ℕ → Register → ℕ) where
  abbrev pub FineWords : (Register → ℕ) → List Word → (Register → ℕ) → Type 0
  FineWords h ws e = Fine (words_kind m) heat h ws e

  -- one heat is no more than another, once so many cycles have passed
  abbrev pub Cooled : ℕ → (h b : Register → ℕ) → Type 0
  Cooled c h b = (r : Register) → h r - c ≤ b r

  -- after a word of one cycle its destinations may be in flight, and what was so is for a cycle less
  cooled_lift : (n : ℕ) (h b : Register → ℕ) (rs : List Register) (ops : List Operation) → Cooled 1 h b → (r : Register) → raised same (hits m ops) (lift n h rs) r - 1 ≤ lift (max n (latest m ops) - 1) b (destinations ops ++ rs) r
  cooled_lift n h b rs ops cool r =
      let left : ℕ = max n (latest m ops) - 1 in
      let k = raised_bound (hits m ops) (lift n h rs) (λ s. lift left b (destinations ops ++ rs) s + 1) (λ s. was s (list_any (same s) rs) refl)
      (λ x i. (let f = from_word m ops x i in let a = lift_at left b (destinations ops ++ rs) x.to (among_left x.to (destinations ops) rs f.to) in let c = f.latency in omega arith)) r in
      omega arith
    where
      was : (s : Register) (t : Bool) → list_any (same s) rs ≡ t → cond t (max (h s) n) (h s) ≤ lift (max n (latest m ops) - 1) b (destinations ops ++ rs) s + 1
      was s true e =
          let left : ℕ = max n (latest m ops) - 1 in
          let q : lift left b (destinations ops ++ rs) s ≡ max (b s) left = ap (λ t. cond t (max (b s) left) (b s)) (any_more s (destinations ops) rs e) in
          let c = cool s in omega arith
      was s false e = let a = lift_from (max n (latest m ops) - 1) b (destinations ops ++ rs) s in let c = cool s in omega arith

  pub word_fine : (n : ℕ) (h b : Register → ℕ) (rs : List Register) (ops : List Operation) (rest : List Word) (e : Register → ℕ) → falls ops ≡ true → Cooled 1 h b → ((q : ℕ) (r : Register) → Jumps ops q → lift (max n (latest m ops) - 1) b (destinations ops ++ rs) r ≤ heat q r) → ((r : Register) → Touches ops r → lift n h rs r ≡ 0) → FineWords (lift (max n (latest m ops) - 1) b (destinations ops ++ rs)) rest e → FineWords (lift n h rs) (record { ops = ops; idle = 0 } ∷ rest) e
  word_fine n h b rs ops rest e fall cool jump meets f = (
    meets,
    λ q r j. (let a = cooled_lift n h b rs ops cool r in let k = jump q r j in omega arith),
    fine_less (words_kind m) (words_cool m) heat (cond (falls ops) (λ r. raised same (hits m ops) (lift n h rs) r - 1) cold) (lift (max n (latest m ops) - 1) b (destinations ops ++ rs)) e rest
        (λ r. (let a = cooled_lift n h b rs ops cool r in let q : cond (falls ops) (λ r. raised same (hits m ops) (lift n h rs) r - 1) cold r ≡ raised same (hits m ops) (lift n h rs) r - 1 = ap (λ t. cond t (λ r. raised same (hits m ops) (lift n h rs) r - 1) cold r) fall in omega arith)) f,
  )

  -- after a pause that is long enough they have landed
  pub wait_fine : (n k : ℕ) (h b : Register → ℕ) (rs : List Register) (rest : List Word) (e : Register → ℕ) → n ≤ k → Cooled k h b → FineWords b rest e → FineWords (lift n h rs) (pause k ++ rest) e
  wait_fine n zero h b rs rest e long cool f = fine_less (words_kind m) (words_cool m) heat (lift n h rs) b e rest (λ r. (let a = lift_most n h rs r in let c = cool r in omega arith)) f
  wait_fine n (suc k) h b rs rest e long cool f = (
    λ r t. ⊎_elim (λ i. absurd i) (λ i. absurd i) t.0,
    λ q r j. absurd j,
    fine_less (words_kind m) (words_cool m) heat (λ r. lift n h rs r - max 1 (suc k)) b e rest (λ r. (let a = lift_most n h rs r in let c = cool r in omega arith)) f,
  )

  -- a word that the next does not follow, and that jumps to where nothing more is in flight
  pub stop_fine : (b : Register → ℕ) (ops : List Operation) (rest : List Word) (e : Register → ℕ) → falls ops ≡ false → ((q : ℕ) (r : Register) → Jumps ops q → b r ≤ heat q r) → hits m ops ≡ [] → ((r : Register) → Touches ops r → b r ≡ 0) → FineWords cold rest e → FineWords b (record { ops = ops; idle = 0 } ∷ rest) e
  stop_fine b ops rest e fall jump none meets f = (
    meets,
    λ q r j. (let k = jump q r j in let a : raised same (hits m ops) b r ≡ b r = ap (λ xs. raised same xs b r) none in omega arith),
    fine_less (words_kind m) (words_cool m) heat (cond (falls ops) (λ r. raised same (hits m ops) b r - 1) cold) cold e rest
        (λ r. (let q : cond (falls ops) (λ r. raised same (hits m ops) b r - 1) cold r ≡ 0 = ap (λ t. cond t (λ r. raised same (hits m ops) b r - 1) cold r) fall in omega arith)) f,
  )

-- what is no hotter has cooled
pub stays : (c : ℕ) (b : Register → ℕ) (r : Register) → b r - c ≤ b r
stays c b r = omega arith

-- fewer registers, for fewer cycles
pub lift_fewer : (k n : ℕ) (b : Register → ℕ) (xs ys : List Register) (r : Register) → k ≤ n → (list_any (same r) xs ≡ true → list_any (same r) ys ≡ true) → lift k b xs r ≤ lift n b ys r
lift_fewer k n b xs ys r le h = by (list_any (same r) xs) refl
  where
    by : (t : Bool) → list_any (same r) xs ≡ t → cond t (max (b r) k) (b r) ≤ lift n b ys r
    by true e = let q : lift n b ys r ≡ max (b r) n = ap (λ t. cond t (max (b r) n) (b r)) (h e) in omega arith
    by false e = lift_from n b ys r

-- registers that were lifted are so for fewer cycles
pub lift_cooled : (n c : ℕ) (b : Register → ℕ) (rs : List Register) (r : Register) → lift n b rs r - c ≤ lift (n - c) b rs r
lift_cooled n c b rs r = by (list_any (same r) rs)
  where
    by : (t : Bool) → cond t (max (b r) n) (b r) - c ≤ cond t (max (b r) (n - c)) (b r)
    by true = omega arith
    by false = omega arith
