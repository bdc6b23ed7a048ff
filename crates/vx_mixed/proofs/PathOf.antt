-- The blocks of a trace are a path through the graph.
use Rattle.std.proofs.Common.{◌≡◌, ◌≢◌, ℕ, Bool, true, false, Some, List, [], ◌∷◌, ◌++◌, map, slice_get, refl, sym, ap, ◌∙◌, subst, ⊎_elim, inl, inr}
use Rattle.std.specs.Prelude.{if◌then◌else◌}
use Rattle.std.proofs.lemmas.Bool.{cases_eq, eq-eqb, ne_eqb}
use Rattle.vx_flow.specs.declared.graph.Block.{Block}
use Rattle.vx_flow.specs.declared.graph.Edge.{Edge}
use Rattle.vx_flow.specs.declared.graph.Exit.{Exit}
use Rattle.vx_flow.specs.declared.graph.Exit.TheVariants.{Goto, Split as Branches, Call, Return, Ends}
use Rattle.vx_flow.specs.declared.graph.Op.{Op}
use Rattle.vx_flow.specs.declared.trace.TraceOp.{TraceOp}
use Rattle.vx_flow.specs.declared.trace.TraceOp.TheVariants.{Plain as TracePlain, Split as TraceSplit}
use Rattle.vx_flow.specs.Effects.{IsIn}
use Rattle.vx_flow.specs.Sound.{targets_of}
use Rattle.vx_flow.specs.Walk.{edge}
use Rattle.vx_mixed.specs.declared.region.Item.{Item}
use Rattle.vx_mixed.specs.declared.region.Node.TheVariants.{Unused}
use Rattle.vx_mixed.specs.declared.mixed.MixedGraph.{MixedGraph}
use Rattle.vx_mixed.specs.Live.{plain}
use Rattle.vx_mixed.specs.Path.{Path, ends, jumps, on_yes, on_no}
use Rattle.vx_mixed.specs.Next.{last_of, exit_in}
use Rattle.vx_mixed.specs.Settled.{NoTwice}
use Rattle.vx_mixed.specs.TraceOf.{block_at, block_or_none, split_between, trace_ops, inner_edges, EndsWithCall}
use Rattle.vx_mixed.specs.TraceItems.{plain_item, plain_items}
use Rattle.vx_mixed.specs.Valid.{PartsWays}

plain_append : (xs ys : List TraceOp) → plain_items (xs ++ ys) ≡ plain_items xs ++ plain_items ys
plain_append [] ys = refl
plain_append (x ∷ xs) ys = ap (λ z. plain_item x ∷ z) (plain_append xs ys)

plain_ops : (ops : List Op) → plain_items (map TracePlain ops) ≡ map plain ops
plain_ops [] = refl
plain_ops (op ∷ ops) = ap (λ z. plain op ∷ z) (plain_ops ops)

append_items : (xs ys zs : List Item) → (xs ++ ys) ++ zs ≡ xs ++ (ys ++ zs)
append_items [] ys zs = refl
append_items (x ∷ xs) ys zs = ap (λ z. x ∷ z) (append_items xs ys zs)

no_items : (xs : List Item) → xs ++ [] ≡ xs
no_items [] = refl
no_items (x ∷ xs) = ap (λ z. x ∷ z) (no_items xs)

-- an inner edge begins at a block of the trace, and ends at one that is not its first
pub from_inside : (blocks : List ℕ) (e : Edge) → IsIn e (inner_edges blocks) → IsIn e.from blocks
from_inside [] e h = absurd h
from_inside (b ∷ []) e h = absurd h
from_inside (b ∷ c ∷ bs) e (inl q) = inl (ap (λ (z : Edge). z.from) q)
from_inside (b ∷ c ∷ bs) e (inr h) = inr (from_inside (c ∷ bs) e h)

pub to_inside : (b : ℕ) (bs : List ℕ) (e : Edge) → IsIn e (inner_edges (b ∷ bs)) → IsIn e.to bs
to_inside b [] e h = absurd h
to_inside b (c ∷ bs) e (inl q) = inl (ap (λ (z : Edge). z.to) q)
to_inside b (c ∷ bs) e (inr h) = inr (to_inside c bs e h)

module _ (m : MixedGraph) (meet : ℕ → ℕ → Bool) (live : ℕ → List ℕ) where
  pub record Ways (blocks : List ℕ) : Type 0 where
    pub unused : (b : ℕ) → IsIn b blocks → (block : Block) × (slice_get m.nodes b ≡ Some (Unused block))
    pub parts : (b : ℕ) (block : Block) → slice_get m.nodes b ≡ Some (Unused block) → PartsWays block.exit
    pub once : NoTwice blocks
    pub follow : (b c : ℕ) (block : Block) → IsIn (edge b c) (inner_edges blocks) → slice_get m.nodes b ≡ Some (Unused block) → IsIn c (targets_of block.exit)
    pub no_call : (b c : ℕ) (block : Block) → IsIn (edge b c) (inner_edges blocks) → slice_get m.nodes b ≡ Some (Unused block) → EndsWithCall block.exit → ⊥
    pub inner : (b c : ℕ) → IsIn (edge b c) (inner_edges blocks) → meet b c ≡ false
    pub outer : (b c : ℕ) (block : Block) → IsIn b blocks → slice_get m.nodes b ≡ Some (Unused block) → IsIn c (targets_of block.exit) → (IsIn (edge b c) (inner_edges blocks) → ⊥) → meet b c ≡ true

  -- of the blocks behind the first
  pub ways_behind : (b c : ℕ) (bs : List ℕ) → Ways (b ∷ c ∷ bs) → Ways (c ∷ bs)
  ways_behind b c bs w = record {
    unused = λ x h. w.unused x (inr h);
    parts = w.parts;
    once = w.once.1;
    follow = λ x y k h. w.follow x y k (inr h);
    no_call = λ x y k h. w.no_call x y k (inr h);
    inner = λ x y h. w.inner x y (inr h);
    outer = λ x y k h at t n. w.outer x y k (inr h) at t (λ q. ⊎_elim (λ (e : edge x y ≡ edge b c). w.once.0 (subst (λ z. IsIn z (c ∷ bs)) (ap (λ (z : Edge). z.from) e) h)) n q);
  }

  block_is : (b : ℕ) (k : Block) → slice_get m.nodes b ≡ Some (Unused k) → block_at m b ≡ k
  block_is b k e = ap block_or_none e

  -- what leaves by the edge from b to d, where the trace goes on with c
  module _ (b c : ℕ) (bs : List ℕ) (w : Ways (b ∷ c ∷ bs)) (rest : List Item) (l : ℕ) (x : Exit) (more : Path m meet c rest l x) where
    off : (d : ℕ) (k : Block) → slice_get m.nodes b ≡ Some (Unused k) → IsIn d (targets_of k.exit) → d ≢ c → meet b d ≡ true
    off d k at t n = w.outer b d k (inl refl) at t (λ q. ⊎_elim (λ (e : edge b d ≡ edge b c). n (ap (λ (z : Edge). z.to) e)) (λ h. w.once.0 (from_inside (c ∷ bs) (edge b d) h)) q)

    by : (ops : List Op) (y : Exit) → slice_get m.nodes b ≡ Some (Unused (record { ops = ops; exit = y })) → Path m meet b (map plain ops ++ (plain_items (split_between live b y c) ++ rest)) l x
    by ops (Goto d) at = ⊎_elim (λ (e : c ≡ d). jumps c ops rest (at ∙ ap (λ z. Some (Unused (record { ops = ops; exit = Goto z }))) (sym e)) (w.inner b c (inl refl)) refl more) (λ q. absurd q) (w.follow b c (record { ops = ops; exit = Goto d }) (inl refl) at)
    by ops (Branches p d e) at =
        let parts : d ≢ e = w.parts b (record { ops = ops; exit = Branches p d e }) at in
        let goes = w.follow b c (record { ops = ops; exit = Branches p d e }) (inl refl) at in
        let yes_way : d ≡ c → Path m meet b (map plain ops ++ (plain_items (split_between live b (Branches p d e) c) ++ rest)) l x =
        λ (q : d ≡ c). subst (λ z. Path m meet b (map plain ops ++ (plain_items z ++ rest)) l x) (sym (ap (λ z. if z then TraceSplit p false (edge b e) (live e) ∷ [] else TraceSplit p true (edge b d) (live d) ∷ []) (eq-eqb d c q)))
        (on_yes p c e ops rest (at ∙ ap (λ z. Some (Unused (record { ops = ops; exit = Branches p z e }))) q) (w.inner b c (inl refl)) (off e (record { ops = ops; exit = Branches p d e }) at (inr (inl refl)) (λ r. parts (q ∙ sym r))) refl more) in
        let no_way : d ≢ c → c ≡ e → Path m meet b (map plain ops ++ (plain_items (split_between live b (Branches p d e) c) ++ rest)) l x =
        λ n q. subst (λ z. Path m meet b (map plain ops ++ (plain_items z ++ rest)) l x) (sym (ap (λ z. if z then TraceSplit p false (edge b e) (live e) ∷ [] else TraceSplit p true (edge b d) (live d) ∷ []) (ne_eqb d c n)))
        (on_no p d c ops rest (at ∙ ap (λ z. Some (Unused (record { ops = ops; exit = Branches p d z }))) (sym q)) (w.inner b c (inl refl)) (off d (record { ops = ops; exit = Branches p d e }) at (inl refl) n) refl more) in
        ⊎_elim (λ q. yes_way q) (λ n. ⊎_elim (λ r. absurd (n (sym r))) (λ r. ⊎_elim (λ s. no_way n s) (λ z. absurd z) r) goes) (cases_eq d c)
    by ops (Call g arguments result next) at = absurd (w.no_call b c (record { ops = ops; exit = Call g arguments result next }) (inl refl) at tt)
    by ops (Return y) at = absurd (w.follow b c (record { ops = ops; exit = Return y }) (inl refl) at)
    by ops (Ends k) at = absurd (w.follow b c (record { ops = ops; exit = Ends k }) (inl refl) at)

  pub path_of : (b : ℕ) (bs : List ℕ) → Ways (b ∷ bs) → Path m meet b (plain_items (trace_ops m live (b ∷ bs))) (last_of (b ∷ bs)) (exit_in (slice_get m.nodes (last_of (b ∷ bs))))
  path_of b [] w =
      let u = w.unused b (inl refl) in
      let items : plain_items (trace_ops m live (b ∷ [])) ≡ map plain u.0.ops =
      plain_append (map TracePlain (block_at m b).ops ++ []) [] ∙ no_items (plain_items (map TracePlain (block_at m b).ops ++ [])) ∙ plain_append (map TracePlain (block_at m b).ops) [] ∙ no_items (plain_items (map TracePlain (block_at m b).ops)) ∙ plain_ops (block_at m b).ops ∙ ap (λ (z : Block). map plain z.ops) (block_is b u.0 u.1) in
      let exit : exit_in (slice_get m.nodes b) ≡ u.0.exit = ap exit_in u.1 in
      ends u.0.ops (u.1 ∙ ap (λ z. Some (Unused (record { ops = u.0.ops; exit = z }))) (sym exit)) items refl (λ c t. w.outer b c u.0 (inl refl) u.1 (subst (λ z. IsIn c (targets_of z)) exit t) (λ q. q))
  path_of b (c ∷ bs) w =
      let u = w.unused b (inl refl) in
      let more = path_of c bs (ways_behind b c bs w) in
      let rest = plain_items (trace_ops m live (c ∷ bs)) in
      let split = split_between live b (block_at m b).exit c in
      let items : plain_items (trace_ops m live (b ∷ c ∷ bs)) ≡ map plain u.0.ops ++ (plain_items (split_between live b u.0.exit c) ++ rest) =
      plain_append (map TracePlain (block_at m b).ops ++ split) (trace_ops m live (c ∷ bs))
      ∙ ap (λ z. z ++ rest) (plain_append (map TracePlain (block_at m b).ops) split)
      ∙ append_items (plain_items (map TracePlain (block_at m b).ops)) (plain_items split) rest
      ∙ ap (λ z. z ++ (plain_items split ++ rest)) (plain_ops (block_at m b).ops)
      ∙ ap (λ (z : Block). map plain z.ops ++ (plain_items (split_between live b z.exit c) ++ rest)) (block_is b u.0 u.1) in
      subst (λ z. Path m meet b z (last_of (b ∷ c ∷ bs)) (exit_in (slice_get m.nodes (last_of (b ∷ c ∷ bs))))) (sym items) (by b c bs w rest (last_of (c ∷ bs)) (exit_in (slice_get m.nodes (last_of (c ∷ bs)))) more u.0.ops u.0.exit u.1)
