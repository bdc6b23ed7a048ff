-- A graph that passes the test has its shape.
use Rattle.std.proofs.Common.{◌≡◌, ◌⊎◌, inl, inr, ℕ, zero, suc, ◌+◌, ◌<◌, ◌==◌, Bool, true, false, ◌&&◌, ◌||◌, nat_le, List, [], ◌∷◌, length, slice_get, Option, Some, None, refl, sym, ap, ◌∙◌, subst, arith}
use Rattle.std.proofs.lemmas.Bool.{and_parts, false≢true, eqb-true, leb-true}
use Rattle.std.specs.List.{list_all}
use Rattle.std.specs.Prelude.{not}
use Rattle.vx_base.specs.declared.outcome.Trap.{Trap}
use Rattle.vx_base.specs.declared.outcome.Trap.TheVariants.{Divide, Index, Input, Depth}
use Rattle.vx_flow.specs.declared.graph.Op.{Op}
use Rattle.vx_flow.specs.declared.graph.Exit.{Exit}
use Rattle.vx_flow.specs.declared.graph.Exit.TheVariants.{Goto, Split, Call, Return, Ends}
use Rattle.vx_flow.specs.declared.graph.Block.{Block}
use Rattle.vx_flow.specs.declared.graph.Graph.{Graph}
use Rattle.vx_flow.specs.Effects.{IsIn}
use Rattle.vx_flow.specs.Sound.{targets_of}
use Rattle.vx_flow.proofs.SoundLists.{or_parts, not_both, differs, all_in, all_at}
use Rattle.vx_lower.specs.FlowOf.{EndsBy, IsEdge}
use Rattle.vx_shape.specs.Shape.{Shaped}
use Rattle.vx_shape.specs.ShapeTest.{is_none_left}
use Rattle.vx_shape.specs.ShapeTest.{is_trap, is_apart, is_shaped_block, are_traps_last, is_trap_of, is_trap_alone, are_traps_alone, is_this, is_noted, is_uncritical, are_uncritical, is_shaped, ShapedWhereTested}

-- ---- each block by itself

pub none_left : (ops : List Op) → is_none_left ops ≡ true → ops ≡ []
none_left [] e = refl
none_left (op ∷ ops) e = absurd (false≢true e)

record BlockShaped (block : Block) : Type 0 where
  short : nat_le (length block.ops) 512 ≡ true
  trap : (not (is_trap block.exit) || is_none_left block.ops) ≡ true
  apart : is_apart block.exit ≡ true
  entry : list_all (λ c. not (c == 0)) (targets_of block.exit) ≡ true

block_shaped : (block : Block) → is_shaped_block block ≡ true → BlockShaped block
block_shaped block h =
    let a = and_parts _ _ h in
    let b = and_parts _ _ a.0 in
    let c = and_parts _ _ b.0 in
    record { short = c.0; trap = c.1; apart = b.1; entry = a.1 }

empty_by : (exit : Exit) (ops : List Op) (k : Trap) → exit ≡ Ends k → (not (is_trap exit) || is_none_left ops) ≡ true → ops ≡ []
empty_by exit ops k e h = none_left ops (subst (λ x. (not (is_trap x) || is_none_left ops) ≡ true) e h)

apart_by : (exit : Exit) (p c d : ℕ) → exit ≡ Split p c d → is_apart exit ≡ true → c ≡ d → ⊥
apart_by exit p c d e h = differs c d (subst (λ x. is_apart x ≡ true) e h)

-- ---- the order of blocks

ended : (k : Trap) (exit : Exit) → exit ≡ Ends k → is_trap exit ≡ true
ended k exit e = ap is_trap e

trap_of : (exit : Exit) → is_trap exit ≡ true → (k : Trap) × (exit ≡ Ends k)
trap_of (Goto c) h = absurd (false≢true h)
trap_of (Split p c d) h = absurd (false≢true h)
trap_of (Call f arguments result c) h = absurd (false≢true h)
trap_of (Return x) h = absurd (false≢true h)
trap_of (Ends k) h = (k, refl)

or_true : (a : Bool) → (a || true) ≡ true
or_true true = refl
or_true false = refl

behind_true : (blocks : List Block) → are_traps_last true blocks ≡ true → (c : ℕ) (block : Block) → slice_get blocks c ≡ Some block → is_trap block.exit ≡ true
behind_true [] h c block e = absurd (cc)
behind_true (x ∷ xs) h zero block e = let q : x ≡ block = cc in subst (λ (b : Block). is_trap b.exit ≡ true) q (and_parts _ _ h).0
behind_true (x ∷ xs) h (suc c) block e = behind_true xs (and_parts _ _ h).1 c block e

last_at : (behind : Bool) (blocks : List Block) → are_traps_last behind blocks ≡ true → (b c : ℕ) (x y : Block) → slice_get blocks b ≡ Some x → is_trap x.exit ≡ true → b < c → slice_get blocks c ≡ Some y → is_trap y.exit ≡ true
last_at behind [] h b c x y e t l f = absurd (cc)
last_at behind (z ∷ zs) h b zero x y e t l f = absurd (omega arith)
last_at behind (z ∷ zs) h zero (suc c) x y e t l f =
    let q : z ≡ x = cc in
    let u : is_trap z.exit ≡ true = subst (λ (k : Block). is_trap k.exit ≡ true) (sym q) t in
    let v : (behind || is_trap z.exit) ≡ true = ap (λ k. behind || k) u ∙ or_true behind in
    behind_true zs (subst (λ k. are_traps_last k zs ≡ true) v (and_parts _ _ h).1) c y f
last_at behind (z ∷ zs) h (suc b) (suc c) x y e t l f = last_at (behind || is_trap z.exit) zs (and_parts _ _ h).1 b c x y e t (omega arith) f

same_trap : (k : Trap) → is_trap_of k (Ends k) ≡ true
same_trap Divide = refl
same_trap Index = refl
same_trap Input = refl
same_trap Depth = refl

alone_in : (k : Trap) (exit : Exit) (blocks : List Block) (c : ℕ) (y : Block) → exit ≡ Ends k → is_trap_alone exit blocks ≡ true → slice_get blocks c ≡ Some y → y.exit ≡ Ends k → ⊥
alone_in k exit blocks c y e h f g =
    let a : list_all (λ (block : Block). not (is_trap_of k block.exit)) blocks ≡ true = subst (λ x. is_trap_alone x blocks ≡ true) e h in
    not_both (is_trap_of k y.exit) (ap (is_trap_of k) g ∙ same_trap k) (all_at (λ (block : Block). not (is_trap_of k block.exit)) blocks c y a f)

alone_at : (k : Trap) (blocks : List Block) → are_traps_alone blocks ≡ true → (b c : ℕ) (x y : Block) → slice_get blocks b ≡ Some x → x.exit ≡ Ends k → slice_get blocks c ≡ Some y → y.exit ≡ Ends k → b ≡ c
alone_at k [] h b c x y e t f u = absurd (cc)
alone_at k (z ∷ zs) h zero zero x y e t f u = refl
alone_at k (z ∷ zs) h zero (suc c) x y e t f u =
    let q : z ≡ x = cc in
    absurd (alone_in k z.exit zs c y (ap (λ (w : Block). w.exit) q ∙ t) (and_parts _ _ h).0 f u)
alone_at k (z ∷ zs) h (suc b) zero x y e t f u =
    let q : z ≡ y = cc in
    absurd (alone_in k z.exit zs b x (ap (λ (w : Block). w.exit) q ∙ u) (and_parts _ _ h).0 e t)
alone_at k (z ∷ zs) h (suc b) (suc c) x y e t f u = ap suc (alone_at k zs (and_parts _ _ h).1 b c x y e t f u)

there_by : {A : Type 0} (xs : List A) (c : ℕ) → c < length xs → (x : A) × (slice_get xs c ≡ Some x)
there_by [] c l = absurd (omega arith)
there_by (x ∷ xs) zero l = (x, refl)
there_by (x ∷ xs) (suc c) l = there_by xs c (omega arith)

within_by : {A : Type 0} (xs : List A) (c : ℕ) (x : A) → slice_get xs c ≡ Some x → c < length xs
within_by [] c x e = absurd (cc)
within_by (y ∷ ys) zero x e = omega arith
within_by (y ∷ ys) (suc c) x e = let l : c < length ys = within_by ys c x e in omega arith

-- ---- edges

module _ (origins : List ℕ) (many : ℕ) where
  uncritical_at : (first : ℕ) (blocks : List Block) → are_uncritical origins many first blocks ≡ true → (b : ℕ) (block : Block) → slice_get blocks b ≡ Some block → is_uncritical origins many (first + b) block.exit ≡ true
  uncritical_at first [] h b block e = absurd (cc)
  uncritical_at first (x ∷ xs) h zero block e =
      let q : x ≡ block = cc in
      let z : first ≡ first + 0 = omega arith in
      subst (λ n. is_uncritical origins many n block.exit ≡ true) z (subst (λ (k : Block). is_uncritical origins many first k.exit ≡ true) q (and_parts _ _ h).0)
  uncritical_at first (x ∷ xs) h (suc b) block e =
      let z : suc first + b ≡ first + suc b = omega arith in
      subst (λ n. is_uncritical origins many n block.exit ≡ true) z (uncritical_at (suc first) xs (and_parts _ _ h).1 b block e)

  this_by : (b : ℕ) (o : Option ℕ) → is_this b o ≡ true → o ≡ Some b
  this_by b None h = absurd (false≢true h)
  this_by b (Some c) h = ap Some (eqb-true c b h)

  noted_by : (b : ℕ) (o : Option ℕ) → is_noted many b o ≡ true → (o ≡ Some b) ⊎ (o ≡ Some many)
  noted_by b None h = absurd (false≢true h)
  noted_by b (Some c) h = by (or_parts (c == b) (c == many) h)
    where
      by : ((c == b) ≡ true) ⊎ ((c == many) ≡ true) → (Some c ≡ Some b) ⊎ (Some c ≡ Some many)
      by (inl e) = inl (ap Some (eqb-true c b e))
      by (inr e) = inr (ap Some (eqb-true c many e))

  -- every edge is noted
  edge_noted : (b d : ℕ) (exit : Exit) → is_uncritical origins many b exit ≡ true → IsIn d (targets_of exit) → (slice_get origins d ≡ Some b) ⊎ (slice_get origins d ≡ Some many)
  edge_noted b d (Goto c) h (inl e) = subst (λ n. (slice_get origins n ≡ Some b) ⊎ (slice_get origins n ≡ Some many)) (sym e) (noted_by b (slice_get origins c) h)
  edge_noted b d (Goto c) h (inr m) = absurd m
  edge_noted b d (Split p x y) h (inl e) = inl (ap (slice_get origins) e ∙ this_by b (slice_get origins x) (and_parts _ _ h).0)
  edge_noted b d (Split p x y) h (inr (inl e)) = inl (ap (slice_get origins) e ∙ this_by b (slice_get origins y) (and_parts _ _ h).1)
  edge_noted b d (Split p x y) h (inr (inr m)) = absurd m
  edge_noted b d (Call f arguments result c) h (inl e) = subst (λ n. (slice_get origins n ≡ Some b) ⊎ (slice_get origins n ≡ Some many)) (sym e) (noted_by b (slice_get origins c) h)
  edge_noted b d (Call f arguments result c) h (inr m) = absurd m
  edge_noted b d (Return x) h m = absurd m
  edge_noted b d (Ends k) h m = absurd m

  -- an edge of two that leave a block is the only one to its block
  side_only : (b c d : ℕ) (exit : Exit) → is_uncritical origins many b exit ≡ true → IsIn c (targets_of exit) → IsIn d (targets_of exit) → (c ≡ d → ⊥) → slice_get origins d ≡ Some b
  side_only b c d (Goto x) h (inl e) (inl f) n = absurd (n (e ∙ sym f))
  side_only b c d (Goto x) h (inl e) (inr m) n = absurd m
  side_only b c d (Goto x) h (inr m) k n = absurd m
  side_only b c d (Split p x y) h k (inl f) n = ap (slice_get origins) f ∙ this_by b (slice_get origins x) (and_parts _ _ h).0
  side_only b c d (Split p x y) h k (inr (inl f)) n = ap (slice_get origins) f ∙ this_by b (slice_get origins y) (and_parts _ _ h).1
  side_only b c d (Split p x y) h k (inr (inr m)) n = absurd m
  side_only b c d (Call g arguments result x) h (inl e) (inl f) n = absurd (n (e ∙ sym f))
  side_only b c d (Call g arguments result x) h (inl e) (inr m) n = absurd m
  side_only b c d (Call g arguments result x) h (inr m) k n = absurd m
  side_only b c d (Return x) h m k n = absurd m
  side_only b c d (Ends t) h m k n = absurd m

  origin_by : (b e : ℕ) (o : Option ℕ) → o ≡ Some b → b < many → (o ≡ Some e) ⊎ (o ≡ Some many) → e ≡ b
  origin_by b e o h l (inl q) = let r : Some e ≡ Some b = sym q ∙ h in cc
  origin_by b e o h l (inr q) = let r : Some many ≡ Some b = sym q ∙ h in let s : many ≡ b = cc in absurd (omega arith)

-- ---- the whole

module _ (g : Graph) (origins : List ℕ) (h : is_shaped origins g.blocks ≡ true) where
  alone_and_last : ((list_all is_shaped_block g.blocks && are_traps_last false g.blocks) ≡ true) × (are_traps_alone g.blocks ≡ true)
  alone_and_last = and_parts _ _ (and_parts _ _ h).0

  blocks_and_last : (list_all is_shaped_block g.blocks ≡ true) × (are_traps_last false g.blocks ≡ true)
  blocks_and_last = and_parts _ _ alone_and_last.0

  block_at : (b : ℕ) (block : Block) → slice_get g.blocks b ≡ Some block → BlockShaped block
  block_at b block e = block_shaped block (all_at is_shaped_block g.blocks b block blocks_and_last.0 e)

  edge_at : (b : ℕ) (block : Block) → slice_get g.blocks b ≡ Some block → is_uncritical origins (length g.blocks) b block.exit ≡ true
  edge_at b block e =
      let z : 0 + b ≡ b = omega arith in
      subst (λ n. is_uncritical origins (length g.blocks) n block.exit ≡ true) z (uncritical_at origins (length g.blocks) 0 g.blocks (and_parts _ _ h).1 b block e)

  last : (b c : ℕ) (k : Trap) → EndsBy g b k → b < c → c < length g.blocks → (j : Trap) × EndsBy g c j
  last b c k e l m =
      let y = there_by g.blocks c m in
      let t = trap_of y.0.exit (last_at false g.blocks blocks_and_last.1 b c e.block y.0 e.has (ended k e.block.exit e.ends) l y.1) in
      (t.0, record { block = y.0; has = y.1; ends = t.1 })

  uncritical : (b c d e : ℕ) → IsEdge g b c → IsEdge g b d → (c ≡ d → ⊥) → IsEdge g e d → e ≡ b
  uncritical b c d e x y n z =
      let q : Some x.block ≡ Some y.block = sym x.has ∙ y.has in
      let r : y.block ≡ x.block = cc in
      let m : IsIn d (targets_of x.block.exit) = subst (λ (k : Block). IsIn d (targets_of k.exit)) r y.leads in
      origin_by origins (length g.blocks) b e (slice_get origins d) (side_only origins (length g.blocks) b c d x.block.exit (edge_at b x.block x.has) x.leads m n) (within_by g.blocks b x.block x.has) (edge_noted origins (length g.blocks) e d z.block.exit (edge_at e z.block z.has) z.leads)

  shaped : Shaped g
  shaped = record {
    trap_empty = λ b k e. empty_by e.block.exit e.block.ops k e.ends (block_at b e.block e.has).trap;
    trap_alone = λ b c k e f. alone_at k g.blocks alone_and_last.1 b c e.block f.block e.has e.ends f.has f.ends;
    traps_last = last;
    short = λ b block e. leb-true (length block.ops) 512 (block_at b block e).short;
    apart = λ b block p c d e q. apart_by block.exit p c d q (block_at b block e).apart;
    uncritical = uncritical;
    entry = λ b x. differs 0 0 (all_in (λ c. not (c == 0)) (targets_of x.block.exit) 0 (block_at b x.block x.has).entry x.leads) refl;
  }

pub shaped_where_tested : ShapedWhereTested
shaped_where_tested g origins h = shaped g origins h
