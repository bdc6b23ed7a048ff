-- A graph keeps the shape of a function's graph behind a conversion.
use Rattle.std.proofs.Common.{◌≡◌, ◌⊎◌, inl, inr, ℕ, zero, suc, ◌≤◌, ◌<◌, ◌==◌, Bool, true, false, List, [], ◌∷◌, length, slice_get, Some, refl, sym, ap, subst, ◌∙◌, eq-eqb, arith}
use Rattle.std.proofs.lemmas.Bool.{false≢true, eqb-true}
use Rattle.vx_base.specs.declared.outcome.Trap.{Trap}
use Rattle.vx_ast.specs.Tree.{Function, Program}
use Rattle.vx_flow.specs.declared.graph.Exit.{Exit}
use Rattle.vx_flow.specs.declared.graph.Exit.TheVariants.{Goto, Split, Call, Return, Ends}
use Rattle.vx_flow.specs.declared.graph.Block.{Block}
use Rattle.vx_flow.specs.declared.graph.Graph.{Graph}
use Rattle.vx_flow.specs.Effects.{IsIn}
use Rattle.vx_flow.specs.Sound.{targets_of, Sound}
use Rattle.vx_lower.specs.FlowOf.{EndsBy, IsEdge, GraphOf}
use Rattle.vx_shape.specs.Shape.{Shaped}
use Rattle.vx_shape.proofs.FlowsStay.{shape_kept}
use Rattle.vx_select.specs.Selected.{Diamond, stays, numbered, led, blocks_left, converted, IsDiamond}
use Rattle.vx_select.proofs.Joined.{get_below}
use Rattle.vx_select.proofs.Numbered.{yes_goes, no_goes, Old, old_at, number_rises, number_one}
use Rattle.vx_select.proofs.Sounds.{Becomes, the_split, another, becomes, led_targets}

led_ends : (to : ℕ → ℕ) (x : Exit) (k : Trap) → led to x ≡ Ends k → x ≡ Ends k
led_ends to (Goto c) k e = absurd (cc)
led_ends to (Split p c b) k e = absurd (cc)
led_ends to (Call f arguments result c) k e = absurd (cc)
led_ends to (Return x) k e = absurd (cc)
led_ends to (Ends j) k e = e

record OldSplit (to : ℕ → ℕ) (x : Exit) (test y n : ℕ) : Type 0 where
  left : ℕ
  right : ℕ
  is : x ≡ Split test left right
  at_left : y ≡ to left
  at_right : n ≡ to right

led_split : (to : ℕ → ℕ) (x : Exit) (test y n : ℕ) → led to x ≡ Split test y n → OldSplit to x test y n
led_split to (Goto c) test y n e = absurd (cc)
led_split to (Split p c b) test y n e = let q : p ≡ test = cc in record { left = c; right = b; is = ap (λ z. Split z c b) q; at_left = cc; at_right = cc }
led_split to (Call f arguments result c) test y n e = absurd (cc)
led_split to (Return x) test y n e = absurd (cc)
led_split to (Ends k) test y n e = absurd (cc)

goto_no_end : (c : ℕ) (k : Trap) → Goto c ≡ Ends k → ⊥
goto_no_end c k e = cc

goto_no_split : (c p x y : ℕ) → Goto c ≡ Split p x y → ⊥
goto_no_split c p x y e = cc

split_no_end : (p c e : ℕ) (k : Trap) → Split p c e ≡ Ends k → ⊥
split_no_end p c e k q = cc

there : (xs : List Block) (i : ℕ) → i < length xs → (block : Block) × (slice_get xs i ≡ Some block)
there [] i l = absurd (omega arith)
there (x ∷ xs) zero l = (x, refl)
there (x ∷ xs) (suc i) l = there xs i (omega arith)

module _ (live : ℕ → ℕ → Bool) (most : ℕ) (g : Graph) (d : Diamond) (sound : Sound g) (it : IsDiamond live most g d) (shape : Shaped g) where
  abbrev h : Graph
  h = converted live g d

  abbrev Came : ℕ → Block → Type 0
  Came n block = Old live g d n block

  came : (n : ℕ) (block : Block) → slice_get h.blocks n ≡ Some block → Came n block
  came n block e = old_at live g d n block e

  became : (n : ℕ) (block : Block) → (o : Came n block) → Becomes live most g d sound it o.place o.old block
  became n block o = subst (Becomes live most g d sound it o.place o.old) (sym o.is) (becomes live most g d sound it o.place o.old o.has)

  -- ---- traps

  record OldEnd (n : ℕ) (block : Block) (k : Trap) : Type 0 where
    place : ℕ
    kept : stays d place ≡ true
    number : numbered d place ≡ n
    end : EndsBy g place k
    same : block.ops ≡ end.block.ops

  old_end : (n : ℕ) (k : Trap) → (e : EndsBy h n k) → OldEnd n e.block k
  old_end n k e = by (came n e.block e.has) (became n e.block (came n e.block e.has))
    where
      by : (o : Came n e.block) → Becomes live most g d sound it o.place o.old e.block → OldEnd n e.block k
      by o (the_split p q r) = absurd (goto_no_end (numbered d d.join) k (sym (ap (λ (b : Block). b.exit) r) ∙ e.ends))
      by o (another p r) = record {
        place = o.place;
        kept = o.kept;
        number = o.number;
        end = record { block = o.old; has = o.has; ends = led_ends (numbered d) o.old.exit k (sym (ap (λ (b : Block). b.exit) r) ∙ e.ends) };
        same = ap (λ (b : Block). b.ops) r;
      }

  new_end : (n : ℕ) (block : Block) (k : Trap) → slice_get h.blocks n ≡ Some block → (o : Came n block) → EndsBy g o.place k → EndsBy h n k
  new_end n block k e o end = by (became n block o)
    where
      same : end.block ≡ o.old
      same = let a : slice_get g.blocks o.place ≡ Some end.block = end.has in let b : slice_get g.blocks o.place ≡ Some o.old = o.has in cc

      by : Becomes live most g d sound it o.place o.old block → EndsBy h n k
      by (the_split p q r) = absurd (split_no_end d.test d.yes d.no k (sym (ap (λ (b : Block). b.exit) (same ∙ q)) ∙ end.ends))
      by (another p r) = record { block = block; has = e; ends = ap (λ (b : Block). b.exit) r ∙ ap (λ (b : Block). led (numbered d) b.exit) (sym same) ∙ ap (led (numbered d)) end.ends }

  -- ---- edges

  data NewEdge (b c : ℕ) : Type 0 where
    joins : stays d d.block ≡ true → numbered d d.block ≡ b → numbered d d.join ≡ c → NewEdge b c
    stood : (place target : ℕ) → stays d place ≡ true → numbered d place ≡ b → stays d target ≡ true → numbered d target ≡ c → IsEdge g place target → NewEdge b c

  new_edge : (b c : ℕ) → IsEdge h b c → NewEdge b c
  new_edge b c e = by (came b e.block e.has) (became b e.block (came b e.block e.has))
    where
      by : (o : Came b e.block) → Becomes live most g d sound it o.place o.old e.block → NewEdge b c
      by o (the_split p q r) = joins (subst (λ x. stays d x ≡ true) p o.kept) (subst (λ x. numbered d x ≡ b) p o.number) (one c (subst (λ (k : Block). IsIn c (targets_of k.exit)) r e.leads))
        where
          one : (x : ℕ) → IsIn x (numbered d d.join ∷ []) → numbered d d.join ≡ x
          one x (inl m) = sym m
          one x (inr z) = absurd z
      by o (another p r) =
          let t = led_targets (numbered d) o.old.exit c (subst (λ (k : Block). IsIn c (targets_of k.exit)) r e.leads) in
          let edge : IsEdge g o.place t.old = record { block = o.old; has = o.has; leads = t.has } in
          stood o.place t.old o.kept o.number (stay t.old edge p) (sym t.is) edge
        where
          stay : (x : ℕ) → IsEdge g o.place x → (o.place ≡ d.block → ⊥) → stays d x ≡ true
          stay x edge n = at (stays d x) refl
            where
              at : (z : Bool) → stays d x ≡ z → z ≡ true
              at true q = refl
              at false q = absurd (n (it.alone o.place x edge q))

  to_join : IsEdge g d.yes d.join
  to_join = record { block = record { ops = d.left; exit = Goto d.join }; has = it.at_yes; leads = inl refl }

  yes_stays_not : stays d d.yes ≡ true → ⊥
  yes_stays_not e = false≢true (sym (yes_goes d) ∙ e)

  no_entry : (b c : ℕ) → c ≡ 0 → NewEdge b c → ⊥
  no_entry b c z (joins s p q) = let e : d.join ≡ 0 = number_one d d.join 0 it.beyond it.entry (q ∙ z) in shape.entry d.yes (subst (IsEdge g d.yes) e to_join)
  no_entry b c z (stood place target s p t q edge) = let e : target ≡ 0 = number_one d target 0 t it.entry (q ∙ z) in shape.entry place (subst (IsEdge g place) e edge)

  uncritical_by : (b c x e : ℕ) → NewEdge b c → NewEdge b x → (c ≡ x → ⊥) → NewEdge e x → e ≡ b
  uncritical_by b c x e (joins s p q) (joins s1 p1 q1) n k = absurd (n (sym q ∙ q1))
  uncritical_by b c x e (joins s p q) (stood place target t u v w edge) n k =
      let same : place ≡ d.block = number_one d place d.block t s (u ∙ sym p) in
      absurd (split_edge target (subst (λ z. IsEdge g z target) same edge) v)
    where
      split_edge : (z : ℕ) → IsEdge g d.block z → stays d z ≡ true → ⊥
      split_edge z edge st =
          let a : slice_get g.blocks d.block ≡ Some edge.block = edge.has in
          let c1 : slice_get g.blocks d.block ≡ Some (record { ops = d.before; exit = Split d.test d.yes d.no }) = it.splits in
          let r : edge.block ≡ record { ops = d.before; exit = Split d.test d.yes d.no } = cc in
          side z (subst (λ (m : Block). IsIn z (targets_of m.exit)) r edge.leads) st
        where
          side : (z : ℕ) → IsIn z (d.yes ∷ d.no ∷ []) → stays d z ≡ true → ⊥
          side z (inl m) st = yes_stays_not (subst (λ y. stays d y ≡ true) m st)
          side z (inr (inl m)) st = false≢true (sym (no_goes d) ∙ subst (λ y. stays d y ≡ true) m st)
          side z (inr (inr m)) st = m
  uncritical_by b c x e (stood place target t u v w edge) (joins s p q) n k =
      let same : place ≡ d.block = number_one d place d.block t s (u ∙ sym p) in
      absurd (split_edge target (subst (λ z. IsEdge g z target) same edge) v)
    where
      split_edge : (z : ℕ) → IsEdge g d.block z → stays d z ≡ true → ⊥
      split_edge z edge st =
          let a : slice_get g.blocks d.block ≡ Some edge.block = edge.has in
          let c1 : slice_get g.blocks d.block ≡ Some (record { ops = d.before; exit = Split d.test d.yes d.no }) = it.splits in
          let r : edge.block ≡ record { ops = d.before; exit = Split d.test d.yes d.no } = cc in
          side z (subst (λ (m : Block). IsIn z (targets_of m.exit)) r edge.leads) st
        where
          side : (z : ℕ) → IsIn z (d.yes ∷ d.no ∷ []) → stays d z ≡ true → ⊥
          side z (inl m) st = yes_stays_not (subst (λ y. stays d y ≡ true) m st)
          side z (inr (inl m)) st = false≢true (sym (no_goes d) ∙ subst (λ y. stays d y ≡ true) m st)
          side z (inr (inr m)) st = m
  uncritical_by b c x e (stood place target t u v w edge) (stood place1 target1 t1 u1 v1 w1 edge1) n (joins s p q) =
      let same : place1 ≡ place = number_one d place1 place t1 t (u1 ∙ sym u) in
      let at_join : target1 ≡ d.join = number_one d target1 d.join v1 it.beyond (w1 ∙ sym q) in
      let apart : target ≡ target1 → ⊥ = λ z. n (sym w ∙ ap (numbered d) z ∙ w1) in
      let r : d.yes ≡ place = shape.uncritical place target target1 d.yes edge (subst (λ z. IsEdge g z target1) same edge1) apart (subst (IsEdge g d.yes) (sym at_join) to_join) in
      absurd (yes_stays_not (subst (λ z. stays d z ≡ true) (sym r) t))
  uncritical_by b c x e (stood place target t u v w edge) (stood place1 target1 t1 u1 v1 w1 edge1) n (stood place2 target2 t2 u2 v2 w2 edge2) =
      let same : place1 ≡ place = number_one d place1 place t1 t (u1 ∙ sym u) in
      let same2 : target2 ≡ target1 = number_one d target2 target1 v2 v1 (w2 ∙ sym w1) in
      let apart : target ≡ target1 → ⊥ = λ z. n (sym w ∙ ap (numbered d) z ∙ w1) in
      let r : place2 ≡ place = shape.uncritical place target target1 place2 edge (subst (λ z. IsEdge g z target1) same edge1) apart (subst (IsEdge g place2) same2 edge2) in
      sym u2 ∙ ap (numbered d) r ∙ u

  -- ---- the whole

  below_place : (i j : ℕ) → stays d i ≡ true → stays d j ≡ true → numbered d i < numbered d j → i < j
  below_place i j s t l = by (i == j) refl
    where
      by : (z : Bool) → (i == j) ≡ z → i < j
      by true e = let q = ap (numbered d) (eqb-true i j e) in absurd (omega arith)
      by false e = at (λ q. false≢true (sym e ∙ eq-eqb i j q)) (number_rises d j i)
        where
          at : (i ≡ j → ⊥) → (j < i → stays d j ≡ true → numbered d j < numbered d i) → i < j
          at n f = elim (less n) [ inl a ↦ a | inr b ↦ (let r = f b t in absurd (omega arith)) ]
            where
              less : (i ≡ j → ⊥) → (i < j) ⊎ (j < i)
              less n = grind (arith, n)

  last_by : (b c : ℕ) (k : Trap) → EndsBy h b k → b < c → c < length h.blocks → (j : Trap) × EndsBy h c j
  last_by b c k e l m =
      let o = old_end b k e in
      let x = there h.blocks c m in
      let p = came c x.0 x.1 in
      let less : o.place < p.place = below_place o.place p.place o.kept p.kept (subst (λ z. z < numbered d p.place) (sym o.number) (subst (λ z. b < z) (sym p.number) l)) in
      let end = shape.traps_last o.place p.place k o.end less (get_below g.blocks p.place p.old p.has) in
      (end.0, new_end c x.0 end.0 x.1 p end.1)

  alone_by : (b c : ℕ) (k : Trap) → EndsBy h b k → EndsBy h c k → b ≡ c
  alone_by b c k e f =
      let o = old_end b k e in
      let p = old_end c k f in
      sym o.number ∙ ap (numbered d) (shape.trap_alone o.place p.place k o.end p.end) ∙ p.number

  short_by : (b : ℕ) (block : Block) → slice_get h.blocks b ≡ Some block → length block.ops ≤ 512
  short_by b block e = by (came b block e) (became b block (came b block e))
    where
      by : (o : Came b block) → Becomes live most g d sound it o.place o.old block → length block.ops ≤ 512
      by o (the_split p q r) = subst (λ (k : Block). length k.ops ≤ 512) (sym r) it.short
      by o (another p r) = subst (λ (k : Block). length k.ops ≤ 512) (sym r) (shape.short o.place o.old o.has)

  apart_by : (b : ℕ) (block : Block) (test y n : ℕ) → slice_get h.blocks b ≡ Some block → block.exit ≡ Split test y n → y ≡ n → ⊥
  apart_by b block test y n e x q = by (came b block e) (became b block (came b block e))
    where
      by : (o : Came b block) → Becomes live most g d sound it o.place o.old block → ⊥
      by o (the_split p s r) = goto_no_split (numbered d d.join) test y n (sym (ap (λ (k : Block). k.exit) r) ∙ x)
      by o (another p r) =
          let w = led_split (numbered d) o.old.exit test y n (sym (ap (λ (k : Block). k.exit) r) ∙ x) in
          shape.apart o.place o.old test w.left w.right o.has w.is
          (number_one d w.left w.right (stay o.place o.old o.has p w.left (subst (λ z. IsIn w.left (targets_of z)) (sym w.is) (inl refl))) (stay o.place o.old o.has p w.right (subst (λ z. IsIn w.right (targets_of z)) (sym w.is) (inr (inl refl)))) (sym w.at_left ∙ q ∙ w.at_right))
        where
          stay : (place : ℕ) (k : Block) → slice_get g.blocks place ≡ Some k → (place ≡ d.block → ⊥) → (c : ℕ) → IsIn c (targets_of k.exit) → stays d c ≡ true
          stay place k has f c m = at (stays d c) refl
            where
              at : (z : Bool) → stays d c ≡ z → z ≡ true
              at true a = refl
              at false a = absurd (f (it.alone place c (record { block = k; has = has; leads = m }) a))

  pub stays_shaped : Shaped h
  stays_shaped = record {
    trap_empty = λ b k e. let o = old_end b k e in o.same ∙ shape.trap_empty o.place k o.end;
    trap_alone = λ b c k e f. alone_by b c k e f;
    traps_last = λ b c k e l m. last_by b c k e l m;
    short = λ b block e. short_by b block e;
    apart = λ b block test y n e x q. apart_by b block test y n e x q;
    uncritical = λ b c x e p q n r. uncritical_by b c x e (new_edge b c p) (new_edge b x q) n (new_edge e x r);
    entry = λ b e. no_entry b 0 refl (new_edge b 0 e);
  }

pub shape_of : (p : Program) (f : Function) (g : Graph) → GraphOf p f g → Shaped g
shape_of p f g o = record {
  trap_empty = o.trap_empty;
  trap_alone = o.trap_alone;
  traps_last = o.traps_last;
  short = o.short;
  apart = o.apart;
  uncritical = o.uncritical;
  entry = o.entry;
}

pub keeps_shape : (live : ℕ → ℕ → Bool) (most : ℕ) (g : Graph) (d : Diamond) → Sound g → IsDiamond live most g d → (p : Program) (f : Function) → GraphOf p f g → GraphOf p f (converted live g d)
keeps_shape live most g d sound it p f o = shape_kept p f (blocks_left live g d 0 g.blocks) g o (stays_shaped live most g d sound it (shape_of p f g o))
