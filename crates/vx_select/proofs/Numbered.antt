-- Where the blocks that stay stand behind a conversion.
use Rattle.std.proofs.Common.{◌≡◌, ◌⊎◌, inl, inr, ℕ, zero, suc, ◌+◌, ◌<◌, ◌==◌, ◌&&◌, Bool, true, false, cond, List, [], ◌∷◌, slice_get, Some, refl, sym, ap, subst, ◌∙◌, eq-eqb, arith}
use Rattle.std.specs.Prelude.{not}
use Rattle.std.specs.Option.{option_map}
use Rattle.std.proofs.lemmas.Bool.{false≢true, eqb-true}
use Rattle.vx_flow.specs.declared.graph.Block.{Block}
use Rattle.vx_flow.specs.declared.graph.Graph.{Graph}
use Rattle.vx_select.specs.Selected.{Diamond, stays, staying, numbered, changed, blocks_left}

-- a block that goes is one of the sides
pub side_is : (d : Diamond) (b : ℕ) → stays d b ≡ false → (b ≡ d.yes) ⊎ (b ≡ d.no)
side_is d b h = by (b == d.yes) (b == d.no) refl refl h
  where
    by : (x y : Bool) → (b == d.yes) ≡ x → (b == d.no) ≡ y → (not x && not y) ≡ false → (b ≡ d.yes) ⊎ (b ≡ d.no)
    by true y p q e = inl (eqb-true b d.yes p)
    by false true p q e = inr (eqb-true b d.no q)
    by false false p q e = absurd (false≢true (sym e))

pub yes_goes : (d : Diamond) → stays d d.yes ≡ false
yes_goes d = ap (λ x. not x && not (d.yes == d.no)) (eq-eqb d.yes d.yes refl)

and_false : (x : Bool) → (x && false) ≡ false
and_false true = refl
and_false false = refl

pub no_goes : (d : Diamond) → stays d d.no ≡ false
no_goes d = ap (λ x. not (d.no == d.yes) && not x) (eq-eqb d.no d.no refl) ∙ and_false (not (d.no == d.yes))

module _ (live : ℕ → ℕ → Bool) (g : Graph) (d : Diamond) where
  abbrev Kept : ℕ → List Block → ℕ → ℕ → Type 0
  Kept b blocks n i = slice_get (blocks_left live g d b blocks) n ≡ option_map (changed live g d (b + i)) (slice_get blocks i)

  pub left_at : (b : ℕ) (blocks : List Block) (i : ℕ) → stays d (b + i) ≡ true → slice_get (blocks_left live g d b blocks) (staying d b i) ≡ option_map (changed live g d (b + i)) (slice_get blocks i)
  left_at b [] i h = refl
  left_at b (block ∷ blocks) zero h = by (stays d b) (let e : b + 0 ≡ b = omega arith in subst (λ n. stays d n ≡ true) e h)
    where
      by : (s : Bool) → s ≡ true → slice_get (cond s (changed live g d b block ∷ blocks_left live g d (suc b) blocks) (blocks_left live g d (suc b) blocks)) 0 ≡ Some (changed live g d (b + 0) block)
      by true e = let q : b ≡ b + 0 = omega arith in ap (λ n. Some (changed live g d n block)) q
      by false e = absurd (false≢true e)
  left_at b (block ∷ blocks) (suc i) h =
      let e : suc b + i ≡ b + suc i = omega arith in
      by (stays d b) (left_at (suc b) blocks i (subst (λ n. stays d n ≡ true) (sym e) h) ∙ ap (λ n. option_map (changed live g d n) (slice_get blocks i)) e)
    where
      by : (s : Bool) → slice_get (blocks_left live g d (suc b) blocks) (staying d (suc b) i) ≡ option_map (changed live g d (b + suc i)) (slice_get blocks i) →
          slice_get (cond s (changed live g d b block ∷ blocks_left live g d (suc b) blocks) (blocks_left live g d (suc b) blocks)) (cond s (suc (staying d (suc b) i)) (staying d (suc b) i)) ≡ option_map (changed live g d (b + suc i)) (slice_get blocks i)
      by true r = r
      by false r = r

  -- the new block at the new number of one that stays
  pub block_at : (b : ℕ) → stays d b ≡ true → slice_get (blocks_left live g d 0 g.blocks) (numbered d b) ≡ option_map (changed live g d b) (slice_get g.blocks b)
  block_at b h =
      let e : 0 + b ≡ b = omega arith in
      left_at 0 g.blocks b (subst (λ n. stays d n ≡ true) (sym e) h) ∙ ap (λ n. option_map (changed live g d n) (slice_get g.blocks b)) e

  -- each new block is an old one that stays
  pub record Was (b : ℕ) (blocks : List Block) (n : ℕ) (block : Block) : Type 0 where
    pub place : ℕ
    pub old : Block
    pub has : slice_get blocks place ≡ Some old
    pub kept : stays d (b + place) ≡ true
    pub number : staying d b place ≡ n
    pub is : block ≡ changed live g d (b + place) old

  pub was_at : (b : ℕ) (blocks : List Block) (n : ℕ) (block : Block) → slice_get (blocks_left live g d b blocks) n ≡ Some block → Was b blocks n block
  was_at b [] n block e = absurd (cc)
  was_at b (x ∷ xs) n block e = by (stays d b) refl n e (λ m q. was_at (suc b) xs m block q)
    where
      up : (P : ℕ → Type 0) (i : ℕ) → P (suc b + i) → P (b + suc i)
      up P i p = let e : suc b + i ≡ b + suc i = omega arith in subst P e p

      number_true : (i : ℕ) → stays d b ≡ true → staying d b (suc i) ≡ suc (staying d (suc b) i)
      number_true i s = ap (λ z. cond z (suc (staying d (suc b) i)) (staying d (suc b) i)) s

      number_false : (i : ℕ) → stays d b ≡ false → staying d b (suc i) ≡ staying d (suc b) i
      number_false i s = ap (λ z. cond z (suc (staying d (suc b) i)) (staying d (suc b) i)) s

      by : (s : Bool) → stays d b ≡ s → (m : ℕ) → slice_get (cond s (changed live g d b x ∷ blocks_left live g d (suc b) xs) (blocks_left live g d (suc b) xs)) m ≡ Some block →
          ((k : ℕ) → slice_get (blocks_left live g d (suc b) xs) k ≡ Some block → Was (suc b) xs k block) → Was b (x ∷ xs) m block
      by true s zero q rec =
          let z : b ≡ b + 0 = omega arith in
          let r : changed live g d b x ≡ block = cc in
          record { place = 0; old = x; has = refl; kept = subst (λ k. stays d k ≡ true) z s; number = refl; is = sym r ∙ ap (λ k. changed live g d k x) z }
      by true s (suc m) q rec =
          let w = rec m q in
          record { place = suc w.place; old = w.old; has = w.has; kept = up (λ k. stays d k ≡ true) w.place w.kept; number = number_true w.place s ∙ ap suc w.number; is = up (λ k. block ≡ changed live g d k w.old) w.place w.is }
      by false s m q rec =
          let w = rec m q in
          record { place = suc w.place; old = w.old; has = w.has; kept = up (λ k. stays d k ≡ true) w.place w.kept; number = number_false w.place s ∙ w.number; is = up (λ k. block ≡ changed live g d k w.old) w.place w.is }

  -- the same from the first block on
  pub record Old (n : ℕ) (block : Block) : Type 0 where
    pub place : ℕ
    pub old : Block
    pub has : slice_get g.blocks place ≡ Some old
    pub kept : stays d place ≡ true
    pub number : numbered d place ≡ n
    pub is : block ≡ changed live g d place old

  pub old_at : (n : ℕ) (block : Block) → slice_get (blocks_left live g d 0 g.blocks) n ≡ Some block → Old n block
  old_at n block e =
      let w = was_at 0 g.blocks n block e in
      let z : 0 + w.place ≡ w.place = omega arith in
      record { place = w.place; old = w.old; has = w.has; kept = subst (λ k. stays d k ≡ true) z w.kept; number = w.number; is = w.is ∙ ap (λ k. changed live g d k w.old) z }

-- numbers rise

pub rises : (d : Diamond) (b i : ℕ) → (j : ℕ) → i < j → stays d (b + i) ≡ true → staying d b i < staying d b j
rises d b zero zero l h = absurd (omega arith)
rises d b zero (suc j) l h = by (stays d b) (let e : b + 0 ≡ b = omega arith in subst (λ n. stays d n ≡ true) e h)
  where
    by : (s : Bool) → s ≡ true → 0 < cond s (suc (staying d (suc b) j)) (staying d (suc b) j)
    by true e = omega arith
    by false e = absurd (false≢true e)
rises d b (suc i) zero l h = absurd (omega arith)
rises d b (suc i) (suc j) l h =
    let e : suc b + i ≡ b + suc i = omega arith in
    by (stays d b) (rises d (suc b) i j (omega arith) (subst (λ n. stays d n ≡ true) (sym e) h))
  where
    by : (s : Bool) → staying d (suc b) i < staying d (suc b) j → cond s (suc (staying d (suc b) i)) (staying d (suc b) i) < cond s (suc (staying d (suc b) j)) (staying d (suc b) j)
    by true r = omega arith
    by false r = r

pub number_rises : (d : Diamond) (i j : ℕ) → i < j → stays d i ≡ true → numbered d i < numbered d j
number_rises d i j l h = let e : 0 + i ≡ i = omega arith in rises d 0 i j l (subst (λ n. stays d n ≡ true) (sym e) h)

pub number_one : (d : Diamond) (i j : ℕ) → stays d i ≡ true → stays d j ≡ true → numbered d i ≡ numbered d j → i ≡ j
number_one d i j h k e = omega_by (number_rises d i j) (number_rises d j i)
  where
    omega_by : (i < j → stays d i ≡ true → numbered d i < numbered d j) → (j < i → stays d j ≡ true → numbered d j < numbered d i) → i ≡ j
    omega_by f q = by (i == j) refl
      where
        by : (s : Bool) → (i == j) ≡ s → i ≡ j
        by true t = eqb-true i j t
        by false t = absurd (apart (λ w. false≢true (sym t ∙ eq-eqb i j w)))
          where
            apart : (i ≡ j → ⊥) → ⊥
            apart n = elim (less n) [ inl a ↦ (let r = f a h in absurd (omega arith)) | inr b ↦ (let r = q b k in absurd (omega arith)) ]
              where
                less : (i ≡ j → ⊥) → (i < j) ⊎ (j < i)
                less n = grind (arith, n)
