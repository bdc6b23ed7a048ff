-- The shape of a graph stays where operations are raised and exchanged.
use Rattle.std.proofs.Common.{◌≡◌, inl, inr, ℕ, zero, suc, ◌+◌, ◌<◌, ◌≤◌, ◌&&◌, ◌||◌, Bool, true, false, cond, nat_lt, List, [], ◌∷◌, ◌++◌, length, length-append, slice_get, Option, Some, None, refl, sym, ap, ◌∙◌, subst, arith}
use Rattle.std.proofs.lemmas.Bool.{and_parts, ltb-true}
use Rattle.std.specs.Option.{option_map}
use Rattle.std.specs.Prelude.{not}
use Rattle.vx_base.specs.declared.outcome.Trap.{Trap}
use Rattle.vx_ast.specs.Tree.{Function, Program}
use Rattle.vx_flow.specs.declared.graph.Op.{Op}
use Rattle.vx_flow.specs.declared.graph.Exit.TheVariants.{Ends}
use Rattle.vx_flow.specs.declared.graph.Block.{Block}
use Rattle.vx_flow.specs.declared.graph.Array.{Array}
use Rattle.vx_flow.specs.declared.graph.Graph.{Graph}
use Rattle.vx_flow.specs.Effects.{IsIn, dismissed}
use Rattle.vx_flow.specs.Sound.{targets_of}
use Rattle.vx_flow.proofs.SoundLists.{all_at}
use Rattle.vx_lower.specs.FlowOf.{EndsBy, IsEdge, GraphOf}
use Rattle.vx_shape.specs.Flows.{Each}
use Rattle.vx_shape.specs.Shape.{Shaped}
use Rattle.vx_shape.proofs.Pairs.{At, each_at, each_length}
use Rattle.vx_shape.proofs.FlowsStay.{KeepsShape, shape_kept}
use Rattle.vx_raise.specs.Raising.{is_either, leads_to, behind_first, raised_block, raised_blocks, lets_in, takes_in, GraphRaised}
use Rattle.vx_raise.specs.Exchanging.{exchanged_ops, exchanged_blocks, GraphExchanged}
use Rattle.vx_raise.proofs.Raises.{Front, front_of, block_here}
use Rattle.vx_raise.proofs.Exchanges.{BlockExchanged, each_exchanged}

pub record BlockLike (old new : Block) : Type 0 where
  pub exit : new.exit ≡ old.exit
  pub empty : (k : Trap) → old.exit ≡ Ends k → old.ops ≡ [] → new.ops ≡ []
  pub short : length old.ops ≤ 512 → length new.ops ≤ 512

module _ (p : Program) (function : Function) (g : Graph) (blocks : List Block) (o : GraphOf p function g) (count : length blocks ≡ length g.blocks) (like : (i : ℕ) → At BlockLike (slice_get g.blocks i) (slice_get blocks i)) where
  abbrev made : Graph
  made = record g { blocks = blocks }

  record Old (i : ℕ) (new : Block) : Type 0 where
    pub block : Block
    pub has : slice_get g.blocks i ≡ Some block
    pub alike : BlockLike block new

  old_of : (i : ℕ) (new : Block) → slice_get blocks i ≡ Some new → Old i new
  old_of i new e = by (slice_get g.blocks i) (slice_get blocks i) refl (like i) e
    where
      by : (x y : Option Block) → slice_get g.blocks i ≡ x → At BlockLike x y → y ≡ Some new → Old i new
      by None None q a e = absurd (cc)
      by None (Some k) q a e = absurd a
      by (Some b) None q a e = absurd a
      by (Some b) (Some k) q a e = let d : k ≡ new = cc in record { block = b; has = q; alike = subst (BlockLike b) d a }

  old_edge : (b c : ℕ) → IsEdge made b c → IsEdge g b c
  old_edge b c e =
      let f : Old b e.block = old_of b e.block e.has in
      record { block = f.block; has = f.has; leads = subst (λ x. IsIn c (targets_of x)) f.alike.exit e.leads }

  old_ends : (b : ℕ) (k : Trap) → EndsBy made b k → EndsBy g b k
  old_ends b k e =
      let f : Old b e.block = old_of b e.block e.has in
      record { block = f.block; has = f.has; ends = sym f.alike.exit ∙ e.ends }

  new_ends : (b : ℕ) (k : Trap) → EndsBy g b k → EndsBy made b k
  new_ends b k e = by (slice_get g.blocks b) (slice_get blocks b) refl (like b) e.has
    where
      by : (x y : Option Block) → slice_get blocks b ≡ y → At BlockLike x y → x ≡ Some e.block → EndsBy made b k
      by None None q a h = absurd (cc)
      by None (Some z) q a h = absurd a
      by (Some z) None q a h = absurd a
      by (Some w) (Some z) q a h = let d : w ≡ e.block = cc in record { block = z; has = q; ends = a.exit ∙ (ap (λ (x : Block). x.exit) d ∙ e.ends) }

  empty : (b : ℕ) (k : Trap) → (e : EndsBy made b k) → e.block.ops ≡ []
  empty b k e =
      let f : Old b e.block = old_of b e.block e.has in
      let ends : f.block.exit ≡ Ends k = sym f.alike.exit ∙ e.ends in
      f.alike.empty k ends (o.trap_empty b k (record { block = f.block; has = f.has; ends = ends }))

  pub like_shaped : Shaped made
  like_shaped = record {
    trap_empty = empty;
    trap_alone = λ b c k e d. o.trap_alone b c k (old_ends b k e) (old_ends c k d);
    traps_last = λ b c k e l m. let j = o.traps_last b c k (old_ends b k e) l (subst (λ n. c < n) count m) in (j.0, new_ends c j.0 j.1);
    short = λ b block e. let f : Old b block = old_of b block e in f.alike.short (o.short b f.block f.has);
    apart = λ b block test yes no e q. let f : Old b block = old_of b block e in o.apart b f.block test yes no f.has (sym f.alike.exit ∙ q);
    uncritical = λ b c d e x y n z. o.uncritical b c d e (old_edge b c x) (old_edge b d y) n (old_edge e d z);
    entry = λ b x. o.entry b (old_edge b 0 x);
  }

  pub like_kept : GraphOf p function made
  like_kept = shape_kept p function blocks g o like_shaped

-- ---- exchanged

exchanged_length : (k : ℕ) (ops : List Op) → length (exchanged_ops k ops) ≡ length ops
exchanged_length k [] = refl
exchanged_length zero (x ∷ []) = refl
exchanged_length zero (x ∷ y ∷ ops) = refl
exchanged_length (suc k) (x ∷ ops) = ap suc (exchanged_length k ops)

exchanged_like : (arrays : List Array) (k : ℕ) (old new : Block) → BlockExchanged arrays k old new → BlockLike old new
exchanged_like arrays k old new (inl e) = record {
  exit = ap (λ (x : Block). x.exit) e;
  empty = λ t q h. ap (λ (x : Block). x.ops) e ∙ h;
  short = λ h. subst (λ (x : Block). length x.ops ≤ 512) (sym e) h;
}
exchanged_like arrays k old new (inr d) = record {
  exit = ap (λ (x : Block). x.exit) d.1;
  empty = λ t q h. ap (λ (x : Block). x.ops) d.1 ∙ ap (exchanged_ops k) h;
  short = λ h. subst (λ (x : Block). length x.ops ≤ 512) (sym d.1) (subst (λ n. n ≤ 512) (sym (exchanged_length k old.ops)) h);
}

at_like : (arrays : List Array) (k : ℕ) (x y : Option Block) → At (BlockExchanged arrays k) x y → At BlockLike x y
at_like arrays k None None a = tt
at_like arrays k None (Some y) a = absurd a
at_like arrays k (Some x) None a = absurd a
at_like arrays k (Some x) (Some y) a = exchanged_like arrays k x y a

pub exchanged_kept : (g h : Graph) → GraphExchanged g h → KeepsShape g h
exchanged_kept g h x p function o =
    let each : Each (BlockExchanged g.arrays x.place) g.blocks (exchanged_blocks x.block x.place g.blocks) = each_exchanged g.arrays x.block x.place g.blocks x.can in
    subst (GraphOf p function) (sym x.is)
    (like_kept p function g (exchanged_blocks x.block x.place g.blocks) o (each_length (BlockExchanged g.arrays x.place) g.blocks (exchanged_blocks x.block x.place g.blocks) each)
    (λ i. at_like g.arrays x.place (slice_get g.blocks i) (slice_get (exchanged_blocks x.block x.place g.blocks) i) (each_at (BlockExchanged g.arrays x.place) g.blocks (exchanged_blocks x.block x.place g.blocks) each i)))

-- ---- raised

raised_length : (from : ℕ → Bool) (op : Op) (i : ℕ) (blocks : List Block) → length (raised_blocks from op i blocks) ≡ length blocks
raised_length from op i [] = refl
raised_length from op i (block ∷ blocks) = ap suc (raised_length from op (suc i) blocks)

behind_shorter : (q : Bool) (ops : List Op) → length (cond q (behind_first ops) ops) ≤ length ops
behind_shorter true [] = omega arith
behind_shorter true (op ∷ ops) = omega arith
behind_shorter false ops = omega arith

nothing_behind : (q : Bool) → cond q (behind_first []) [] ≡ []
nothing_behind true = refl
nothing_behind false = refl

raised_like : (live : ℕ → ℕ → Bool) (from : ℕ → Bool) (v : ℕ) (op : Op) (i : ℕ) (block : Block) → takes_in live from v block ≡ true → BlockLike block (raised_block from op i block)
raised_like live from v op i block takes = record {
  exit = refl;
  empty = λ k e h.
      ap (λ ops. cond (from i) (behind_first ops) ops ++ cond (leads_to from block.exit) (dismissed op ∷ []) []) h ∙
      (ap (λ x. cond (from i) (behind_first []) [] ++ cond (leads_to from x) (dismissed op ∷ []) []) e ∙
      ap (λ ops. ops ++ []) (nothing_behind (from i)));
  short = λ h. by (leads_to from block.exit) takes h;
}
  where
    by : (q : Bool) → (not q || (lets_in live from v block.exit && nat_lt (length block.ops) 512)) ≡ true → length block.ops ≤ 512 → length (cond (from i) (behind_first block.ops) block.ops ++ cond q (dismissed op ∷ []) []) ≤ 512
    by true t h =
        let room : length block.ops < 512 = ltb-true (length block.ops) 512 (and_parts (lets_in live from v block.exit) (nat_lt (length block.ops) 512) t).1 in
        let most : length (cond (from i) (behind_first block.ops) block.ops) ≤ length block.ops = behind_shorter (from i) block.ops in
        let e : length (cond (from i) (behind_first block.ops) block.ops ++ dismissed op ∷ []) ≡ length (cond (from i) (behind_first block.ops) block.ops) + length (dismissed op ∷ []) = length-append (cond (from i) (behind_first block.ops) block.ops) (dismissed op ∷ []) in
        omega arith
    by false t h =
        let most : length (cond (from i) (behind_first block.ops) block.ops) ≤ length block.ops = behind_shorter (from i) block.ops in
        let e : length (cond (from i) (behind_first block.ops) block.ops ++ []) ≡ length (cond (from i) (behind_first block.ops) block.ops) + length {A = Op} [] = length-append (cond (from i) (behind_first block.ops) block.ops) [] in
        omega arith

option_like : (live : ℕ → ℕ → Bool) (from : ℕ → Bool) (v : ℕ) (op : Op) (i : ℕ) (o : Option Block) → ((block : Block) → o ≡ Some block → takes_in live from v block ≡ true) → At BlockLike o (option_map (raised_block from op i) o)
option_like live from v op i None k = tt
option_like live from v op i (Some block) k = raised_like live from v op i block (k block refl)

pub raised_kept : (g h : Graph) → GraphRaised g h → KeepsShape g h
raised_kept g h r p function o =
    let front : Front r.live g r.block r.other = front_of r.live g r.block r.other r.can in
    let from : ℕ → Bool = is_either r.block r.other in
    let blocks : List Block = raised_blocks from front.op 0 g.blocks in
    subst (GraphOf p function) (sym (r.is ∙ front.is))
    (like_kept p function g blocks o (raised_length from front.op 0 g.blocks)
    (λ i.
    subst (At BlockLike (slice_get g.blocks i)) (sym (block_here from front.op g.blocks i)) (option_like r.live from front.value front.op i (slice_get g.blocks i) (λ block q. all_at (takes_in r.live from front.value) g.blocks i block front.takes q))))
