-- The lesser of two numbers is chosen.
use Rattle.std.proofs.Common.{◌≡◌, ◌⊎◌, inl, inr, ℕ, zero, suc, ◌+◌, ◌≤◌, ◌==◌, ◌||◌, Bool, true, false, List, [], ◌∷◌, length, slice_get, Option, Some, refl, sym, ap, subst, eq-eqb, arith}
use Rattle.std.proofs.lemmas.Bool.{false≢true, eqb-true}
use Rattle.vx_flow.specs.declared.graph.Bank.{Bank}
use Rattle.vx_flow.specs.declared.graph.Op.{Op}
use Rattle.vx_flow.specs.declared.graph.Op.TheVariants.{Select}
use Rattle.vx_flow.specs.declared.graph.Operand.TheVariants.{Held}
use Rattle.vx_flow.specs.declared.graph.Exit.{Exit}
use Rattle.vx_flow.specs.declared.graph.Exit.TheVariants.{Goto, Split, Return}
use Rattle.vx_flow.specs.declared.graph.Block.{Block}
use Rattle.vx_flow.specs.declared.graph.Graph.{Graph}
use Rattle.vx_flow.specs.Effects.{IsIn}
use Rattle.vx_flow.specs.Sound.{targets_of, Leads}
use Rattle.vx_flow.specs.Live.{IsLive, here, beyond, ReadsFirst, NeverWrites}
use Rattle.vx_flow.proofs.SoundLists.{or_parts}
use Rattle.vx_select.specs.Selected.{Diamond, IsLiveness, IsDiamond, left_values, right_values, free_values, stays, converted, Selects, none_left, converts}
use Rattle.vx_select.specs.Example.{compare, move, lesser_blocks, with_banks, five, four, chosen_blocks, LesserIsChosen}

-- ---- what is live

abbrev lives : ℕ → ℕ → Bool
lives zero v = (0 == v) || (1 == v)
lives (suc zero) v = 0 == v
lives (suc (suc zero)) v = 1 == v
lives (suc (suc (suc zero))) v = 2 == v
lives (suc (suc (suc (suc b)))) v = false

abbrev lives_then : ℕ → ℕ → Bool
lives_then zero v = (0 == v) || (1 == v)
lives_then (suc zero) v = 2 == v
lives_then (suc (suc b)) v = false

some_is : {A : Type 0} (x y : A) → Option.Some x ≡ Some y → x ≡ y
some_is x y e = cc

block_at : (x y : Block) (v : ℕ) → Option.Some x ≡ Some y → ReadsFirst y.ops y.exit v → ReadsFirst x.ops x.exit v
block_at x y v e r = subst (λ (k : Block). ReadsFirst k.ops k.exit v) (sym (some_is x y e)) r

either_of : (v : ℕ) → (v ≡ 0) ⊎ (v ≡ 1) → ((0 == v) || (1 == v)) ≡ true
either_of v (inl e) = subst (λ x. ((0 == x) || (1 == x)) ≡ true) (sym e) refl
either_of v (inr e) = subst (λ x. ((0 == x) || (1 == x)) ≡ true) (sym e) refl

is_of : (k v : ℕ) → v ≡ k → (k == v) ≡ true
is_of k v e = eq-eqb k v (sym e)

-- the compare reads its two values, and then nothing but what it wrote is read there
compared : (v : ℕ) (exit : Exit) → ReadsFirst (compare ∷ []) exit v → (IsIn v (0 ∷ 1 ∷ [])) ⊎ ((IsIn v (5 ∷ []) → ⊥) × ReadsFirst [] exit v)
compared v exit r = r

module _ (banks : List Bank) where
  abbrev g : Graph
  g = with_banks banks lesser_blocks

  forth : (b v : ℕ) → lives b v ≡ true → IsLive g b v
  forth zero v h = elim (or_parts (0 == v) (1 == v) h) [
    | inl a ↦ here {b = 0} {v = v} refl (inl (inl (sym (eqb-true 0 v a))))
    | inr c ↦ here {b = 0} {v = v} refl (inl (inr (inl (sym (eqb-true 1 v c)))))
  ]
  forth (suc zero) v h = here {b = 1} {v = v} refl (inl (inl (sym (eqb-true 0 v h))))
  forth (suc (suc zero)) v h = here {b = 2} {v = v} refl (inl (inl (sym (eqb-true 1 v h))))
  forth (suc (suc (suc zero))) v h = here {b = 3} {v = v} refl (inl (sym (eqb-true 2 v h)))
  forth (suc (suc (suc (suc b)))) v h = absurd (false≢true h)

  read_here : (b v : ℕ) (block : Block) → slice_get lesser_blocks b ≡ Some block → ReadsFirst block.ops block.exit v → lives b v ≡ true
  read_here zero v block e r = by (block_at (record { ops = compare ∷ []; exit = Split 5 1 2 }) block v e r)
    where
      by : ReadsFirst (compare ∷ []) (Split 5 1 2) v → ((0 == v) || (1 == v)) ≡ true
      by (inl (inl m)) = either_of v (inl m)
      by (inl (inr (inl m))) = either_of v (inr m)
      by (inl (inr (inr z))) = absurd z
      by (inr m) = absurd (elim m.1 [ inl q ↦ m.0 (inl q) | inr z ↦ z ])
  read_here (suc zero) v block e r = by (block_at (record { ops = move 2 0 ∷ []; exit = Goto 3 }) block v e r)
    where
      by : ReadsFirst (move 2 0 ∷ []) (Goto 3) v → (0 == v) ≡ true
      by (inl (inl m)) = is_of 0 v m
      by (inl (inr z)) = absurd z
      by (inr m) = absurd m.1
  read_here (suc (suc zero)) v block e r = by (block_at (record { ops = move 2 1 ∷ []; exit = Goto 3 }) block v e r)
    where
      by : ReadsFirst (move 2 1 ∷ []) (Goto 3) v → (1 == v) ≡ true
      by (inl (inl m)) = is_of 1 v m
      by (inl (inr z)) = absurd z
      by (inr m) = absurd m.1
  read_here (suc (suc (suc zero))) v block e r = by (block_at (record { ops = []; exit = Return (Held 2) }) block v e r)
    where
      by : IsIn v (2 ∷ []) → (2 == v) ≡ true
      by (inl m) = is_of 2 v m
      by (inr z) = absurd z
  read_here (suc (suc (suc (suc b)))) v block e r = absurd (cc)

  read_beyond : (b c v : ℕ) (block : Block) → slice_get lesser_blocks b ≡ Some block → NeverWrites block.ops block.exit v → IsIn c (targets_of block.exit) → lives c v ≡ true → lives b v ≡ true
  read_beyond zero c v block e n m l = by (subst (λ (k : Block). IsIn c (targets_of k.exit)) (sym (some_is (record { ops = compare ∷ []; exit = Split 5 1 2 }) block e)) m) l
    where
      by : IsIn c (1 ∷ 2 ∷ []) → lives c v ≡ true → ((0 == v) || (1 == v)) ≡ true
      by (inl q) h = let a : (0 == v) ≡ true = subst (λ x. lives x v ≡ true) q h in either_of v (inl (sym (eqb-true 0 v a)))
      by (inr (inl q)) h = let a : (1 == v) ≡ true = subst (λ x. lives x v ≡ true) q h in either_of v (inr (sym (eqb-true 1 v a)))
      by (inr (inr z)) h = absurd z
  read_beyond (suc zero) c v block e n m l =
      let same = sym (some_is (record { ops = move 2 0 ∷ []; exit = Goto 3 }) block e) in
      absurd (by (subst (λ (k : Block). IsIn c (targets_of k.exit)) same m) (subst (λ (k : Block). NeverWrites k.ops k.exit v) same n) l)
    where
      by : IsIn c (3 ∷ []) → NeverWrites (move 2 0 ∷ []) (Goto 3) v → lives c v ≡ true → ⊥
      by (inl q) k h = let a : (2 == v) ≡ true = subst (λ x. lives x v ≡ true) q h in k.0 (inl (sym (eqb-true 2 v a)))
      by (inr z) k h = z
  read_beyond (suc (suc zero)) c v block e n m l =
      let same = sym (some_is (record { ops = move 2 1 ∷ []; exit = Goto 3 }) block e) in
      absurd (by (subst (λ (k : Block). IsIn c (targets_of k.exit)) same m) (subst (λ (k : Block). NeverWrites k.ops k.exit v) same n) l)
    where
      by : IsIn c (3 ∷ []) → NeverWrites (move 2 1 ∷ []) (Goto 3) v → lives c v ≡ true → ⊥
      by (inl q) k h = let a : (2 == v) ≡ true = subst (λ x. lives x v ≡ true) q h in k.0 (inl (sym (eqb-true 2 v a)))
      by (inr z) k h = z
  read_beyond (suc (suc (suc zero))) c v block e n m l = absurd (subst (λ (k : Block). IsIn c (targets_of k.exit)) (sym (some_is (record { ops = []; exit = Return (Held 2) }) block e)) m)
  read_beyond (suc (suc (suc (suc b)))) c v block e n m l = absurd (cc)

  back : (b v : ℕ) → IsLive g b v → lives b v ≡ true
  back b v (here {block = k} e r) = read_here b v k e r
  back b v (beyond {c = c} {block = k} e n m l) = read_beyond b c v k e n m (back c v l)

  liveness : IsLiveness g lives
  liveness b v = (forth b v, back b v)

-- ---- the diamond

abbrev lesser : Diamond
lesser = record { block = 0; test = 5; yes = 1; no = 2; join = 3; before = compare ∷ []; left = move 2 0 ∷ []; right = move 2 1 ∷ [] }

alone : (b c : ℕ) → Leads lesser_blocks b c → stays lesser c ≡ false → b ≡ 0
alone zero c l h = refl
alone (suc zero) c l h = absurd (by c (subst (λ (k : Block). IsIn c (targets_of k.exit)) (sym (some_is (record { ops = move 2 0 ∷ []; exit = Goto 3 }) l.block l.has)) l.leads) h)
  where
    by : (c : ℕ) → IsIn c (3 ∷ []) → stays lesser c ≡ false → ⊥
    by c (inl q) h = false≢true (sym (subst (λ x. stays lesser x ≡ false) q h))
    by c (inr z) h = z
alone (suc (suc zero)) c l h = absurd (by c (subst (λ (k : Block). IsIn c (targets_of k.exit)) (sym (some_is (record { ops = move 2 1 ∷ []; exit = Goto 3 }) l.block l.has)) l.leads) h)
  where
    by : (c : ℕ) → IsIn c (3 ∷ []) → stays lesser c ≡ false → ⊥
    by c (inl q) h = false≢true (sym (subst (λ x. stays lesser x ≡ false) q h))
    by c (inr z) h = z
alone (suc (suc (suc zero))) c l h = absurd (subst (λ (k : Block). IsIn c (targets_of k.exit)) (sym (some_is (record { ops = []; exit = Return (Held 2) }) l.block l.has)) l.leads)
alone (suc (suc (suc (suc b)))) c l h = let e = l.has in absurd (cc)

is_diamond : IsDiamond lives 2 (with_banks five lesser_blocks) lesser
is_diamond = record {
  splits = refl;
  at_yes = refl;
  at_no = refl;
  alone = alone;
  beyond = refl;
  forward = λ e. absurd (omega arith);
  entry = refl;
  simple_left = refl;
  simple_right = refl;
  some = omega arith;
  few = omega arith;
  room = omega arith;
  short = omega arith;
}

becomes : converted lives (with_banks five lesser_blocks) lesser ≡ with_banks five chosen_blocks
becomes = refl

-- ---- what is live behind it, and that no diamond is left

abbrev first_block : Block
first_block = record { ops = compare ∷ move 3 0 ∷ move 4 1 ∷ Select 2 5 (Held 3) (Held 4) ∷ []; exit = Goto 1 }

abbrev last_block : Block
last_block = record { ops = []; exit = Return (Held 2) }

module _ where
  abbrev chosen : Graph
  chosen = with_banks five chosen_blocks

  then_forth : (b v : ℕ) → lives_then b v ≡ true → IsLive chosen b v
  then_forth zero v h = elim (or_parts (0 == v) (1 == v) h) [
    | inl a ↦ here {b = 0} {v = v} refl (inl (inl (sym (eqb-true 0 v a))))
    | inr c ↦ here {b = 0} {v = v} refl (inl (inr (inl (sym (eqb-true 1 v c)))))
  ]
  then_forth (suc zero) v h = here {b = 1} {v = v} refl (inl (sym (eqb-true 2 v h)))
  then_forth (suc (suc b)) v h = absurd (false≢true h)

  then_here : (b v : ℕ) (block : Block) → slice_get chosen_blocks b ≡ Some block → ReadsFirst block.ops block.exit v → lives_then b v ≡ true
  then_here zero v block e r = by (block_at first_block block v e r)
    where
      by : ReadsFirst first_block.ops first_block.exit v → ((0 == v) || (1 == v)) ≡ true
      by (inl (inl m)) = either_of v (inl m)
      by (inl (inr (inl m))) = either_of v (inr m)
      by (inl (inr (inr z))) = absurd z
      by (inr (n, inl (inl m))) = either_of v (inl m)
      by (inr (n, inl (inr z))) = absurd z
      by (inr (n, inr (k, inl (inl m)))) = either_of v (inr m)
      by (inr (n, inr (k, inl (inr z)))) = absurd z
      by (inr (n, inr (k, inr (l, inl (inl m))))) = absurd (n (inl m))
      by (inr (n, inr (k, inr (l, inl (inr (inl m)))))) = absurd (k (inl m))
      by (inr (n, inr (k, inr (l, inl (inr (inr (inl m))))))) = absurd (l (inl m))
      by (inr (n, inr (k, inr (l, inl (inr (inr (inr z))))))) = absurd z
      by (inr (n, inr (k, inr (l, inr (o, z))))) = absurd z
  then_here (suc zero) v block e r = by (block_at last_block block v e r)
    where
      by : IsIn v (2 ∷ []) → (2 == v) ≡ true
      by (inl m) = is_of 2 v m
      by (inr z) = absurd z
  then_here (suc (suc b)) v block e r = absurd (cc)

  then_beyond : (b c v : ℕ) (block : Block) → slice_get chosen_blocks b ≡ Some block → NeverWrites block.ops block.exit v → IsIn c (targets_of block.exit) → lives_then c v ≡ true → lives_then b v ≡ true
  then_beyond zero c v block e n m l =
      let same = sym (some_is first_block block e) in
      absurd (by (subst (λ (k : Block). IsIn c (targets_of k.exit)) same m) (subst (λ (k : Block). NeverWrites k.ops k.exit v) same n) l)
    where
      by : IsIn c (1 ∷ []) → NeverWrites first_block.ops first_block.exit v → lives_then c v ≡ true → ⊥
      by (inl q) k h = let a : (2 == v) ≡ true = subst (λ x. lives_then x v ≡ true) q h in k.1.1.1.0 (inl (sym (eqb-true 2 v a)))
      by (inr z) k h = z
  then_beyond (suc zero) c v block e n m l = absurd (subst (λ (k : Block). IsIn c (targets_of k.exit)) (sym (some_is last_block block e)) m)
  then_beyond (suc (suc b)) c v block e n m l = absurd (cc)

  then_back : (b v : ℕ) → IsLive chosen b v → lives_then b v ≡ true
  then_back b v (here {block = k} e r) = then_here b v k e r
  then_back b v (beyond {c = c} {block = k} e n m l) = then_beyond b c v k e n m (then_back c v l)

  then_liveness : IsLiveness chosen lives_then
  then_liveness b v = (then_forth b v, then_back b v)

exit_no_split : (k : Block) (ops : List Op) (p x y : ℕ) → k ≡ record { ops = ops; exit = Split p x y } → k.exit ≡ Split p x y
exit_no_split k ops p x y e = ap (λ (b : Block). b.exit) e

none_chosen : (d : Diamond) → IsDiamond lives_then 2 (with_banks five chosen_blocks) d → ⊥
none_chosen d it = by d.block it.splits
  where
    by : (b : ℕ) → slice_get chosen_blocks b ≡ Some (record { ops = d.before; exit = Split d.test d.yes d.no }) → ⊥
    by zero e = let q = exit_no_split first_block d.before d.test d.yes d.no (some_is first_block _ e) in cc
    by (suc zero) e = let q = exit_no_split last_block d.before d.test d.yes d.no (some_is last_block _ e) in cc
    by (suc (suc b)) e = cc

with_two : Selects 2 (with_banks five lesser_blocks) (with_banks five chosen_blocks)
with_two = converts lives lesser (liveness five) is_diamond (λ e it. omega arith) (none_left lives_then then_liveness none_chosen)

-- ---- a diamond that is none

-- the one split is that of block 0
record Sides (d : Diamond) : Type 0 where
  left : d.left ≡ move 2 0 ∷ []
  right : d.right ≡ move 2 1 ∷ []
  at_yes : d.yes ≡ 1
  at_no : d.no ≡ 2
  at_join : d.join ≡ 3

sides : (banks : List Bank) (most : ℕ) (d : Diamond) → IsDiamond lives most (with_banks banks lesser_blocks) d → Sides d
sides banks most d it = by d.block it.splits
  where
    left_is : slice_get lesser_blocks 1 ≡ Some (record { ops = d.left; exit = Goto d.join }) → d.left ≡ move 2 0 ∷ []
    left_is e = sym (ap (λ (b : Block). b.ops) (some_is (record { ops = move 2 0 ∷ []; exit = Goto 3 }) (record { ops = d.left; exit = Goto d.join }) e))

    join_is : slice_get lesser_blocks 1 ≡ Some (record { ops = d.left; exit = Goto d.join }) → d.join ≡ 3
    join_is e = let q = ap (λ (b : Block). b.exit) (some_is (record { ops = move 2 0 ∷ []; exit = Goto 3 }) (record { ops = d.left; exit = Goto d.join }) e) in cc

    right_is : slice_get lesser_blocks 2 ≡ Some (record { ops = d.right; exit = Goto d.join }) → d.right ≡ move 2 1 ∷ []
    right_is e = sym (ap (λ (b : Block). b.ops) (some_is (record { ops = move 2 1 ∷ []; exit = Goto 3 }) (record { ops = d.right; exit = Goto d.join }) e))

    by : (b : ℕ) → slice_get lesser_blocks b ≡ Some (record { ops = d.before; exit = Split d.test d.yes d.no }) → Sides d
    by zero e =
        let q = exit_no_split (record { ops = compare ∷ []; exit = Split 5 1 2 }) d.before d.test d.yes d.no (some_is (record { ops = compare ∷ []; exit = Split 5 1 2 }) _ e) in
        let y : d.yes ≡ 1 = cc in
        let n : d.no ≡ 2 = cc in
        let a = subst (λ k. slice_get lesser_blocks k ≡ Some (record { ops = d.left; exit = Goto d.join })) y it.at_yes in
        let c = subst (λ k. slice_get lesser_blocks k ≡ Some (record { ops = d.right; exit = Goto d.join })) n it.at_no in
        record { left = left_is a; right = right_is c; at_yes = y; at_no = n; at_join = join_is a }
    by (suc zero) e = let q = exit_no_split (record { ops = move 2 0 ∷ []; exit = Goto 3 }) d.before d.test d.yes d.no (some_is (record { ops = move 2 0 ∷ []; exit = Goto 3 }) _ e) in absurd (cc)
    by (suc (suc zero)) e = let q = exit_no_split (record { ops = move 2 1 ∷ []; exit = Goto 3 }) d.before d.test d.yes d.no (some_is (record { ops = move 2 1 ∷ []; exit = Goto 3 }) _ e) in absurd (cc)
    by (suc (suc (suc zero))) e = let q = exit_no_split last_block d.before d.test d.yes d.no (some_is last_block _ e) in absurd (cc)
    by (suc (suc (suc (suc b)))) e = absurd (cc)

none_with_one : (d : Diamond) → IsDiamond lives 1 (with_banks five lesser_blocks) d → ⊥
none_with_one d it =
    let s = sides five 1 d it in
    let few = it.few in
    let l = ap (λ (x : List Op). length x) s.left in
    let r = ap (λ (x : List Op). length x) s.right in
    absurd (omega arith)

none_without_room : (d : Diamond) → IsDiamond lives 2 (with_banks four lesser_blocks) d → ⊥
none_without_room d it =
    let s = sides four 2 d it in
    let g = with_banks four lesser_blocks in
    let e : Diamond = record { block = d.block; test = d.test; yes = 1; no = 2; join = 3; before = d.before; left = move 2 0 ∷ []; right = move 2 1 ∷ [] } in
    let whole : d ≡ e = λ i. record { block = d.block; test = d.test; yes = s.at_yes i; no = s.at_no i; join = s.at_join i; before = d.before; left = s.left i; right = s.right i } in
    no_room d.block d.test d.before (subst (λ x. length (left_values g x) + length (right_values g x) ≤ length (free_values lives g x)) whole it.room)
  where
    no_room : (b t : ℕ) (ops : List Op) → 2 ≤ 1 → ⊥
    no_room b t ops h = absurd (omega arith)

pub lesser_is_chosen : LesserIsChosen
lesser_is_chosen = record {
  with_two = with_two;
  with_one = none_left lives (liveness five) none_with_one;
  without_room = none_left lives (liveness four) none_without_room;
}
