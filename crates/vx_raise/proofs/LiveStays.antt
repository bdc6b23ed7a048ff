-- What is live in a graph with an operation raised, or with two exchanged, was live before; besides the value that the raised
-- operation writes, at the blocks that lost it.
use Rattle.std.proofs.Common.{◌≡◌, inl, inr, ℕ, zero, suc, ◌==◌, ◌&&◌, ◌||◌, Bool, true, false, cond, nat_lt, List, [], ◌∷◌, ◌++◌, length, slice_get, Option, Some, None, refl, sym, ap, ◌∙◌, subst, eq-eqb}
use Rattle.std.proofs.lemmas.Bool.{and_parts, false≢true}
use Rattle.std.specs.Option.{option_map}
use Rattle.std.specs.Prelude.{not}
use Rattle.vx_flow.specs.declared.graph.Op.{Op}
use Rattle.vx_flow.specs.declared.graph.Exit.{Exit}
use Rattle.vx_flow.specs.declared.graph.Exit.TheVariants.{Goto, Split, Call, Return, Ends}
use Rattle.vx_flow.specs.declared.graph.Block.{Block}
use Rattle.vx_flow.specs.declared.graph.Array.{Array}
use Rattle.vx_flow.specs.declared.graph.Graph.{Graph}
use Rattle.vx_flow.specs.Effects.{IsIn, reads, writes, dismissed}
use Rattle.vx_flow.specs.Live.{IsLive, here, beyond, ReadsFirst, NeverWrites}
use Rattle.vx_flow.specs.Sound.{targets_of, results_of_exit}
use Rattle.vx_flow.proofs.SoundLists.{all_at}
use Rattle.vx_shape.proofs.Pairs.{At, each_at}
use Rattle.vx_raise.specs.Raising.{is_either, leads_to, behind_first, raised_block, raised_blocks, raised, lets_in, takes_in}
use Rattle.vx_raise.specs.Exchanging.{exchanged_ops, exchanged_blocks, exchanged, can_exchange_ops, can_exchange}
use Rattle.vx_raise.specs.Lifting.{live_behind}
use Rattle.vx_raise.proofs.Written.{dismissed_writes}
use Rattle.vx_raise.proofs.Passing.{Apart, apart_of, result_written}
use Rattle.vx_raise.proofs.Raises.{Front, block_here, LiveIn, live_later, live_at, LiveBehind, reads_live, behind_live}
use Rattle.vx_raise.proofs.Exchanges.{BlockExchanged, each_exchanged}

-- ---- exchanged

reads_back : (arrays : List Array) (k : ℕ) (ops : List Op) (exit : Exit) (u : ℕ) → can_exchange_ops arrays k ops ≡ true → ReadsFirst (exchanged_ops k ops) exit u → ReadsFirst ops exit u
reads_back arrays k [] exit u h r = absurd (false≢true h)
reads_back arrays zero (x ∷ []) exit u h r = absurd (false≢true h)
reads_back arrays zero (x ∷ y ∷ ops) exit u h (inl m) = let a : Apart arrays x y = apart_of arrays x y h in inr (a.kept u m, inl m)
reads_back arrays zero (x ∷ y ∷ ops) exit u h (inr (n, inl m)) = inl m
reads_back arrays zero (x ∷ y ∷ ops) exit u h (inr (n, inr (k, r))) = inr (k, inr (n, r))
reads_back arrays (suc k) (x ∷ ops) exit u h (inl m) = inl m
reads_back arrays (suc k) (x ∷ ops) exit u h (inr (n, r)) = inr (n, reads_back arrays k ops exit u h r)

never_back : (arrays : List Array) (k : ℕ) (ops : List Op) (exit : Exit) (u : ℕ) → can_exchange_ops arrays k ops ≡ true → NeverWrites (exchanged_ops k ops) exit u → NeverWrites ops exit u
never_back arrays k [] exit u h r = absurd (false≢true h)
never_back arrays zero (x ∷ []) exit u h r = absurd (false≢true h)
never_back arrays zero (x ∷ y ∷ ops) exit u h r = (r.1.0, (r.0, r.1.1))
never_back arrays (suc k) (x ∷ ops) exit u h r = (r.0, never_back arrays k ops exit u h r.1)

pub record Was (g : Graph) (c : ℕ) (new : Block) : Type 0 where
  pub block : Block
  pub has : slice_get g.blocks c ≡ Some block
  pub exit : new.exit ≡ block.exit
  pub reads : (u : ℕ) → ReadsFirst new.ops block.exit u → ReadsFirst block.ops block.exit u
  pub never : (u : ℕ) → NeverWrites new.ops block.exit u → NeverWrites block.ops block.exit u

block_was : (g : Graph) (c k : ℕ) (old new : Block) → slice_get g.blocks c ≡ Some old → BlockExchanged g.arrays k old new → Was g c new
block_was g c k old new e (inl d) = record {
  block = old;
  has = e;
  exit = ap (λ (z : Block). z.exit) d;
  reads = λ u r. subst (λ (z : Block). ReadsFirst z.ops old.exit u) d r;
  never = λ u r. subst (λ (z : Block). NeverWrites z.ops old.exit u) d r;
}
block_was g c k old new e (inr d) = record {
  block = old;
  has = e;
  exit = ap (λ (z : Block). z.exit) d.1;
  reads = λ u r. reads_back g.arrays k old.ops old.exit u d.0 (subst (λ (z : Block). ReadsFirst z.ops old.exit u) d.1 r);
  never = λ u r. never_back g.arrays k old.ops old.exit u d.0 (subst (λ (z : Block). NeverWrites z.ops old.exit u) d.1 r);
}

at_was : (g : Graph) (c k : ℕ) (o q : Option Block) → slice_get g.blocks c ≡ o → At (BlockExchanged g.arrays k) o q → (new : Block) → q ≡ Some new → Was g c new
at_was g c k None None e a new d = absurd (cc)
at_was g c k None (Some y) e a new d = absurd a
at_was g c k (Some x) None e a new d = absurd a
at_was g c k (Some x) (Some y) e a new d = let q : y ≡ new = cc in block_was g c k x new e (subst (BlockExchanged g.arrays k x) q a)

exchanged_was : (g : Graph) (b k : ℕ) → can_exchange g b k ≡ true → (c : ℕ) (new : Block) → slice_get (exchanged_blocks b k g.blocks) c ≡ Some new → Was g c new
exchanged_was g b k h c new e =
    at_was g c k (slice_get g.blocks c) (slice_get (exchanged_blocks b k g.blocks) c) refl (each_at (BlockExchanged g.arrays k) g.blocks (exchanged_blocks b k g.blocks) (each_exchanged g.arrays b k g.blocks h) c) new e

pub exchanged_live : (g : Graph) (b k : ℕ) → can_exchange g b k ≡ true → (c u : ℕ) → IsLive (exchanged g b k) c u → IsLive g c u
exchanged_live g b k h _ _ (here {b = c} {v = u} {block} e r) =
    let w : Was g c block = exchanged_was g b k h c block e in
    here w.has (w.reads u (subst (λ x. ReadsFirst block.ops x u) w.exit r))
exchanged_live g b k h _ _ (beyond {b = c} {c = d} {v = u} {block} e n m l) =
    let w : Was g c block = exchanged_was g b k h c block e in
    beyond w.has (w.never u (subst (λ x. NeverWrites block.ops x u) w.exit n)) (subst (λ x. IsIn d (targets_of x)) w.exit m) (exchanged_live g b k h d u l)

-- ---- raised

target_is : (from : ℕ → Bool) (exit : Exit) → leads_to from exit ≡ true → (c : ℕ) × (from c ≡ true) × IsIn c (targets_of exit)
target_is from (Goto c) h = (c, h, inl refl)
target_is from (Split p c d) h = by (from c) refl h
  where
    by : (q : Bool) → from c ≡ q → (q || from d) ≡ true → (x : ℕ) × (from x ≡ true) × IsIn x (c ∷ d ∷ [])
    by true q h = (c, q, inl refl)
    by false q h = (d, h, inr (inl refl))
target_is from (Call f arguments result c) h = (c, h, inl refl)
target_is from (Return x) h = absurd (false≢true h)
target_is from (Ends k) h = absurd (false≢true h)

no_results : (live : ℕ → ℕ → Bool) (from : ℕ → Bool) (v : ℕ) (exit : Exit) → lets_in live from v exit ≡ true → (u : ℕ) → IsIn u (results_of_exit exit) → ⊥
no_results live from v (Goto c) h u m = m
no_results live from v (Split p c d) h u m = m
no_results live from v (Call f arguments result c) h u m = false≢true h
no_results live from v (Return x) h u m = false≢true h
no_results live from v (Ends k) h u m = false≢true h

target_other : (from : ℕ → Bool) (c : ℕ) (exit : Exit) → leads_to from exit ≡ false → IsIn c (targets_of exit) → from c ≡ false
target_other from c (Goto d) h (inl e) = subst (λ x. from x ≡ false) (sym e) h
target_other from c (Goto d) h (inr m) = absurd m
target_other from c (Split p d f) h m = by (from d) refl h m
  where
    by : (q : Bool) → from d ≡ q → (q || from f) ≡ false → IsIn c (d ∷ f ∷ []) → from c ≡ false
    by true q h m = absurd (false≢true (sym h))
    by false q h (inl e) = subst (λ x. from x ≡ false) (sym e) q
    by false q h (inr (inl e)) = subst (λ x. from x ≡ false) (sym e) h
    by false q h (inr (inr m)) = absurd m
target_other from c (Call f arguments result d) h (inl e) = subst (λ x. from x ≡ false) (sym e) h
target_other from c (Call f arguments result d) h (inr m) = absurd m
target_other from c (Return x) h m = absurd m
target_other from c (Ends k) h m = absurd m

module _ (live : ℕ → ℕ → Bool) (g : Graph) (b b' : ℕ) (front : Front live g b b') where
  abbrev from : ℕ → Bool
  from = is_either b b'

  abbrev moved : Op
  moved = dismissed front.op

  abbrev last : Exit → List Op
  last exit = cond (leads_to from exit) (moved ∷ []) []

  abbrev Lasting : Bool → ℕ → ℕ → Type 0
  Lasting true c u = LiveBehind g c u
  Lasting false c u = IsLive g c u

  abbrev Lasts : ℕ → ℕ → Type 0
  Lasts c u = Lasting (from c) c u

  module _ (room : ℕ) (exit : Exit) (takes : (not (leads_to from exit) || (lets_in live from front.value exit && nat_lt room 512)) ≡ true) where
    lets : leads_to from exit ≡ true → lets_in live from front.value exit ≡ true
    lets h = (and_parts (lets_in live from front.value exit) (nat_lt room 512) (subst (λ q. (not q || (lets_in live from front.value exit && nat_lt room 512)) ≡ true) h takes)).0

    leading : (c u : ℕ) → leads_to from exit ≡ true → IsIn c (targets_of exit) → IsLive g c u → LiveIn g [] exit u
    leading c u h m l = inr (record { unwritten = no_results live from front.value exit (lets h) u; target = c; leads = m; live = l })

    end_reads : (u : ℕ) → ReadsFirst (last exit) exit u → LiveIn g [] exit u
    end_reads u r = by (leads_to from exit) refl r
      where
        by : (q : Bool) → leads_to from exit ≡ q → ReadsFirst (cond q (moved ∷ []) []) exit u → LiveIn g [] exit u
        by true q (inl m) = let to = target_is from exit q in leading to.0 u q to.2 (reads_live moved g to.0 u (front.begins to.0 to.1) m)
        by true q (inr (k, m)) = inl m
        by false q r = inl r

    end_never : (d u : ℕ) → NeverWrites (last exit) exit u → IsIn d (targets_of exit) → Lasts d u → LiveIn g [] exit u
    end_never d u n m l = by (leads_to from exit) refl n
      where
        at : (q : Bool) → from d ≡ q → NeverWrites (moved ∷ []) exit u → Lasting q d u → IsLive g d u
        at true q n l = behind_live moved g d u (front.begins d q) n.0 l
        at false q n l = l

        by : (q : Bool) → leads_to from exit ≡ q → NeverWrites (cond q (moved ∷ []) []) exit u → LiveIn g [] exit u
        by true q n = leading d u q m (at (from d) refl n l)
        by false q n = inr (record { unwritten = n; target = d; leads = m; live = subst (λ x. Lasting x d u) (target_other from d exit q m) l })

    ops_read : (ops : List Op) (u : ℕ) → ReadsFirst (ops ++ last exit) exit u → LiveIn g ops exit u
    ops_read [] u r = end_reads u r
    ops_read (op ∷ ops) u (inl m) = inl (inl m)
    ops_read (op ∷ ops) u (inr (k, r)) = live_later g op ops exit u (ops_read ops u r) k

    ops_never : (ops : List Op) (d u : ℕ) → NeverWrites (ops ++ last exit) exit u → IsIn d (targets_of exit) → Lasts d u → LiveIn g ops exit u
    ops_never [] d u n m l = end_never d u n m l
    ops_never (op ∷ ops) d u n m l = live_later g op ops exit u (ops_never ops d u n.1 m l) n.0

  record WasAt (c : ℕ) (new : Block) : Type 0 where
    pub block : Block
    pub has : slice_get g.blocks c ≡ Some block
    pub is : new ≡ raised_block from front.op c block

  was_at : (c : ℕ) (new : Block) → slice_get (raised_blocks from front.op 0 g.blocks) c ≡ Some new → WasAt c new
  was_at c new e = by (slice_get g.blocks c) refl (sym (block_here from front.op g.blocks c) ∙ e)
    where
      by : (o : Option Block) → slice_get g.blocks c ≡ o → option_map (raised_block from front.op c) o ≡ Some new → WasAt c new
      by None q d = absurd (cc)
      by (Some block) q d = record { block = block; has = q; is = cc }

  lasts_at : (c u : ℕ) (block : Block) → slice_get g.blocks c ≡ Some block → LiveIn g (cond (from c) (behind_first block.ops) block.ops) block.exit u → Lasts c u
  lasts_at c u block e l = by (from c) l
    where
      by : (q : Bool) → LiveIn g (cond q (behind_first block.ops) block.ops) block.exit u → Lasting q c u
      by true l = (block, e, l)
      by false l = live_at g c block u e l

  takes_at : (c : ℕ) (block : Block) → slice_get g.blocks c ≡ Some block → takes_in live from front.value block ≡ true
  takes_at c block e = all_at (takes_in live from front.value) g.blocks c block front.takes e

  abbrev after : Graph
  after = record g { blocks = raised_blocks from front.op 0 g.blocks }

  lasts : (c u : ℕ) → IsLive after c u → Lasts c u
  lasts _ _ (here {b = c} {v = u} {block} e r) =
      let w : WasAt c block = was_at c block e in
      let old : Block = w.block in
      let q : ReadsFirst (cond (from c) (behind_first old.ops) old.ops ++ last old.exit) old.exit u = subst (λ (z : Block). ReadsFirst z.ops z.exit u) w.is r in
      lasts_at c u old w.has (ops_read (length old.ops) old.exit (takes_at c old w.has) (cond (from c) (behind_first old.ops) old.ops) u q)
  lasts _ _ (beyond {b = c} {c = d} {v = u} {block} e n m l) =
      let w : WasAt c block = was_at c block e in
      let old : Block = w.block in
      let q : NeverWrites (cond (from c) (behind_first old.ops) old.ops ++ last old.exit) old.exit u = subst (λ (z : Block). NeverWrites z.ops z.exit u) w.is n in
      let to : IsIn d (targets_of old.exit) = subst (λ (z : Block). IsIn d (targets_of z.exit)) w.is m in
      lasts_at c u old w.has (ops_never (length old.ops) old.exit (takes_at c old w.has) (cond (from c) (behind_first old.ops) old.ops) d u q to (lasts d u l))

  pub raised_live : ((c u : ℕ) → IsLive g c u → live c u ≡ true) → (h : Graph) → h ≡ raised g b b' → (c u : ℕ) → IsLive h c u → live_behind live from (Some front.value) c u ≡ true
  raised_live covers h e c u l = by (from c) refl (lasts c u (subst (λ z. IsLive z c u) (e ∙ front.is) l))
    where
      or_right : (x : Bool) → (x || true) ≡ true
      or_right true = refl
      or_right false = refl

      marked : (x : Bool) → live c u ≡ true → (x || live c u) ≡ true
      marked x h = ap (λ z. x || z) h ∙ or_right x

      written : (same : Bool) → (u == front.value) ≡ same → from c ≡ true → LiveBehind g c u → ((true && same) || live c u) ≡ true
      written true q p l = refl
      written false q p l =
          let unwritten : IsIn u (writes moved) → ⊥ = λ m. elim (subst (IsIn u) (dismissed_writes front.op ∙ result_written front.op front.value front.result) m) [ inl i ↦ false≢true (sym q ∙ eq-eqb u front.value i) | inr z ↦ absurd z ] in
          covers c u (behind_live moved g c u (front.begins c p) unwritten l)

      by : (q : Bool) → from c ≡ q → Lasting q c u → ((q && (u == front.value)) || live c u) ≡ true
      by true q l = written (u == front.value) refl q l
      by false q l = marked (false && (u == front.value)) (covers c u l)
