-- How a graph that is being made grows.
use Rattle.std.proofs.Common.{◌≡◌, ◌⊎◌, ℕ, ◌+◌, ◌<◌, ◌≤◌, List, [], ◌∷◌, ◌++◌, length, Option, Some, None, refl, sym, ap, ◌∙◌, subst, inl, inr, arith, append_assoc, append-nil}
use Rattle.std.specs.Prelude.{slice_get, slice_set, nat_eq, true, false}
use Rattle.std.proofs.lemmas.Bool.{cases_lt}
use Rattle.std.proofs.lemmas.Bool.Decides.{eqb_tells}
use Rattle.std.proofs.lemmas.Option.{slice_get_within}
use Rattle.vx_flow.specs.declared.graph.Op.{Op}
use Rattle.vx_flow.specs.declared.graph.Exit.{Exit}
use Rattle.vx_flow.specs.declared.graph.Exit.TheVariants.{Goto, Split, Ends}
use Rattle.vx_flow.specs.declared.graph.Block.{Block}
use Rattle.vx_lower.specs.Holds.{same, on, then_op, ends, jump}
use Rattle.vx_flow.specs.declared.graph.Bank.{Bank}
use Rattle.vx_base.specs.declared.outcome.Trap.{Trap}
use Rattle.vx_lower.specs.declared.builder.Builder.{Builder}
use Rattle.vx_lower.specs.Builds.{reserved, closed, filled, with_value, with_op, Ready, Limited, Grows, Stands, Finishes, Opens, From, Puts, Branches, Guards}
use Rattle.vx_lower.specs.Adds.{Added, far}
use Rattle.vx_lower.specs.Emits.{Spare}
use Rattle.vx_lower.proofs.Places.{get_front, get_last, length_more, set_same, set_other, set_length}

pub current_within : (b : Builder) → Ready b → b.current < length b.blocks
current_within b r = slice_get_within b.blocks b.current None r.is

pub grows_self : (b : Builder) → Ready b → Grows b b
grows_self b r = record { ready = r; kept = λ i h n. refl; longer = omega arith; current = inl refl; values = omega arith; banks = λ v h. refl; limited = λ l. l }

pub grows_on : (a b c : Builder) → Ready a → Grows a b → Grows b c → Grows a c
grows_on a b c r x y =
    let l1 = x.longer in let l2 = y.longer in let v1 = x.values in let v2 = y.values in
    record {
      ready = y.ready;
      kept = λ i h n. y.kept i (omega arith) (λ e. away i h n e x.current) ∙ x.kept i h n;
      longer = omega arith;
      current = place x.current y.current;
      values = omega arith;
      banks = λ v h. y.banks v (omega arith) ∙ x.banks v h;
      limited = λ l. y.limited (x.limited l);
    }
  where
    away : (i : ℕ) → i < length a.blocks → (i ≡ a.current → ⊥) → i ≡ b.current → ((b.current ≡ a.current) ⊎ (length a.blocks ≤ b.current)) → ⊥
    away i h n e (inl f) = n (e ∙ f)
    away i h n e (inr l) = omega arith

    place : ((b.current ≡ a.current) ⊎ (length a.blocks ≤ b.current)) → ((c.current ≡ b.current) ⊎ (length b.blocks ≤ c.current)) → (c.current ≡ a.current) ⊎ (length a.blocks ≤ c.current)
    place (inl e) (inl f) = inl (f ∙ e)
    place (inr l) (inl f) = inr (omega arith)
    place o (inr l) = let l1 = x.longer in inr (omega arith)

pub finishes_back : (B : List Block) (a b : Builder) → Ready a → Grows a b → Finishes B b → Finishes B a
finishes_back B a b r x f = record { stands = λ n block e. f.stands n block (x.kept n (slice_get_within a.blocks n (Some block) e) (λ c. clash n block e c) ∙ e) }
  where
    clash : (n : ℕ) (block : Block) → slice_get a.blocks n ≡ Some (Some block) → n ≡ a.current → ⊥
    clash n block e c = let q : Some (Some block) ≡ Some None = sym e ∙ ap (slice_get a.blocks) c ∙ r.is in cc

pub grows_value : (b : Builder) (bank : Bank) → Ready b → Grows b (with_value b bank)
grows_value b bank r = let e = length_more b.banks bank in record { ready = record { is = r.is }; kept = λ i h n. refl; longer = omega arith; current = inl refl; values = omega arith; banks = λ v h. get_front b.banks (bank ∷ []) v h; limited = λ l. record { opened = l.opened; blocks = l.blocks } }

pub grows_op : (b : Builder) (op : Op) → length b.ops < 512 → Ready b → Grows b (with_op b op)
grows_op b op h r = let e = length_more b.ops op in record { ready = record { is = r.is }; kept = λ i h n. refl; longer = omega arith; current = inl refl; values = omega arith; banks = λ v h. refl; limited = λ l. record { opened = omega arith; blocks = l.blocks } }

pub grows_reserved : (b : Builder) → Ready b → Grows b (reserved b)
grows_reserved b r = let w = current_within b r in let e = length_more b.blocks None in record {
  ready = record { is = get_front b.blocks (None ∷ []) b.current w ∙ r.is };
  kept = λ i h n. get_front b.blocks (None ∷ []) i h;
  longer = omega arith;
  current = inl refl;
  values = omega arith;
  banks = λ v h. refl;
  limited = λ l. record { opened = l.opened; blocks = λ n block q. older n block q (cases_lt n (length b.blocks)) l };
}
  where
    older : (n : ℕ) (block : Block) → slice_get (b.blocks ++ None ∷ []) n ≡ Some (Some block) → (n < length b.blocks) ⊎ (length b.blocks ≤ n) → Limited b → length block.ops ≤ 512
    older n block q (inl h) l = l.blocks n block (sym (get_front b.blocks (None ∷ []) n h) ∙ q)
    older n block q (inr h) l =
        let k = slice_get_within (b.blocks ++ None ∷ []) n (Some block) q in
        let m = length_more b.blocks None in
        let at : length b.blocks ≡ n = omega arith in
        let d : Some None ≡ Some (Some block) = sym (get_last b.blocks None) ∙ ap (slice_get (b.blocks ++ None ∷ [])) at ∙ q in
        absurd (cc)

abbrev ops_in : Option (Option Block) → List Op
ops_in None = []
ops_in (Some None) = []
ops_in (Some (Some b)) = b.ops

-- on to a block that was reserved since
pub grows_closed : (a b : Builder) (exit : Exit) (n : ℕ) → Ready a → Grows a b → slice_get b.blocks n ≡ Some None → (n ≡ b.current → ⊥) → length a.blocks ≤ n → Grows a (closed b exit n)
grows_closed a b exit n r x free apart late = let v = x.values in let l = x.longer in let e = set_length b.blocks b.current (Some (record { ops = b.ops; exit = exit })) in record {
  ready = record { is = set_other b.blocks b.current n (Some (record { ops = b.ops; exit = exit })) apart ∙ free };
  kept = λ i h m. set_other b.blocks b.current i (Some (record { ops = b.ops; exit = exit })) (λ c. away i h m c x.current) ∙ x.kept i h m;
  longer = omega arith;
  current = inr late;
  values = omega arith;
  banks = x.banks;
  limited = λ m. let k = x.limited m in record { opened = omega arith; blocks = λ i block q. one i block q (eqb_tells i b.current) k };
}
  where
    one : (i : ℕ) (block : Block) → slice_get (slice_set b.blocks b.current (Some (record { ops = b.ops; exit = exit }))) i ≡ Some (Some block) → ((nat_eq i b.current ≡ true) × (i ≡ b.current)) ⊎ ((nat_eq i b.current ≡ false) × (i ≡ b.current → ⊥)) → Limited b → length block.ops ≤ 512
    one i block q (inl t) m =
        let w = slice_get_within (slice_set b.blocks b.current (Some (record { ops = b.ops; exit = exit }))) i (Some block) q in
        let e = set_length b.blocks b.current (Some (record { ops = b.ops; exit = exit })) in
        let at = t.1 in
        let same_block : Some (Some (record { ops = b.ops; exit = exit })) ≡ Some (Some block) = sym (set_same b.blocks b.current (Some (record { ops = b.ops; exit = exit })) (omega arith)) ∙ ap (slice_get (slice_set b.blocks b.current (Some (record { ops = b.ops; exit = exit })))) (sym t.1) ∙ q in
        let is : b.ops ≡ block.ops = ap ops_in same_block in
        subst (λ z. length z ≤ 512) is m.opened
    one i block q (inr t) m = m.blocks i block (sym (set_other b.blocks b.current i (Some (record { ops = b.ops; exit = exit })) t.1) ∙ q)

    away : (i : ℕ) → i < length a.blocks → (i ≡ a.current → ⊥) → i ≡ b.current → ((b.current ≡ a.current) ⊎ (length a.blocks ≤ b.current)) → ⊥
    away i h n e (inl f) = n (e ∙ f)
    away i h n e (inr l) = omega arith

-- the block that was open before stands
pub closed_stands : (B : List Block) (b : Builder) (exit : Exit) (n : ℕ) → Ready b → Finishes B (closed b exit n) → Stands B b.current (record { ops = b.ops; exit = exit }) exit
closed_stands B b exit n r f = f.stands b.current (record { ops = b.ops; exit = exit }) (set_same b.blocks b.current (Some (record { ops = b.ops; exit = exit })) (current_within b r))

-- what was finished before it is finished
pub before_closed : (B : List Block) (b : Builder) (exit : Exit) (n : ℕ) → Ready b → Finishes B (closed b exit n) → Finishes B b
before_closed B b exit n r f = record { stands = λ m block e. f.stands m block (set_other b.blocks b.current m (Some (record { ops = b.ops; exit = exit })) (λ c. clash m block e c) ∙ e) }
  where
    clash : (m : ℕ) (block : Block) → slice_get b.blocks m ≡ Some (Some block) → m ≡ b.current → ⊥
    clash m block e c = let q : Some (Some block) ≡ Some None = sym e ∙ ap (slice_get b.blocks) c ∙ r.is in cc

-- an open block that is closed opens on its exit
pub opens_closed : (B : List Block) (b : Builder) (exit : Exit) → slice_get B b.current ≡ Some (record { ops = b.ops; exit = exit }) → Opens B b (ends exit)
opens_closed B b exit e = record { is = e ∙ ap (λ ops. let o : Block = record { ops = ops; exit = exit } in Some o) (sym (append-nil b.ops)) }

pub from_on : (B : List Block) (a b : Builder) (P : Block → Type 0) (Q : Block → Type 0) → From B a P → ((p : Block) → P p → Q p) → From B a Q
from_on B a b P Q x f = record { start = x.start; opens = x.opens; holds = f x.start x.holds }

pub puts_near : (b : Builder) (op : Op) → length b.ops < 512 → Ready b → Puts op b (with_op b op)
puts_near b op h r = record {
  grows = grows_op b op h r;
  banks = refl;
  step = λ B q f o. record { start = then_op op q; opens = record { is = o.is ∙ ap (λ ops. let p : Block = record { ops = ops; exit = q.exit } in Some p) (append_assoc b.ops (op ∷ []) q.ops) }; holds = same refl };
}

pub puts_far : (b : Builder) (op : Op) → Ready b → Puts op b (with_op (closed (reserved b) (Goto (length b.blocks)) (length b.blocks)) op)
puts_far b op r =
    let w = current_within b r in
    let g1 = grows_reserved b r in
    let n = length b.blocks in
    let g2 = grows_closed b (reserved b) (Goto n) n r g1 (get_last b.blocks None) (λ e. omega arith) (omega arith) in
    let p = puts_near (closed (reserved b) (Goto n) n) op (omega arith) g2.ready in
    record {
      grows = grows_on b (closed (reserved b) (Goto n) n) (with_op (closed (reserved b) (Goto n) n) op) r g2 p.grows;
      banks = refl;
      step = λ B q f o.
          let s = p.step B q f o in
          record {
            start = jump n;
            opens = opens_closed B b (Goto n) (closed_stands B (reserved b) (Goto n) n g1.ready (finishes_back B (closed (reserved b) (Goto n) n) (with_op (closed (reserved b) (Goto n) n) op) g2.ready p.grows f));
            holds = on n s.start refl (s.opens.is) s.holds;
          };
    }

pub puts_on : (a b c : Builder) (op : Op) → Puts op a b → b ≡ c → Puts op a c
puts_on a b c op x e = subst (Puts op a) e x

pub branches : (a b : Builder) (op : Op) (c : ℕ) → Ready a → Puts op a b → Branches op c (length (reserved b).blocks) a (closed (reserved (reserved b)) (Split c (length b.blocks) (length (reserved b).blocks)) (length b.blocks))
branches a b op c r x =
    let w = current_within b x.grows.ready in
    let l = x.grows.longer in
    let y = length b.blocks in
    let n = length (reserved b).blocks in
    let e1 : n ≡ y + 1 = length_more b.blocks None in
    let g1 = grows_reserved b x.grows.ready in
    let g2 = grows_reserved (reserved b) g1.ready in
    let g3 = grows_on a b (reserved (reserved b)) r x.grows (grows_on b (reserved b) (reserved (reserved b)) x.grows.ready g1 g2) in
    let free : slice_get (reserved (reserved b)).blocks y ≡ Some None = get_front (reserved b).blocks (None ∷ []) y (omega arith) ∙ get_last b.blocks None in
    let g4 = grows_closed a (reserved (reserved b)) (Split c y n) y r g3 free (λ e. omega arith) l in
    record {
      grows = g4;
      banks = x.banks;
      other = set_other (reserved (reserved b)).blocks b.current n (Some (record { ops = b.ops; exit = Split c y n })) (λ e. omega arith) ∙ get_last (reserved b).blocks None;
      apart = λ e. omega arith;
      late = omega arith;
      moved = l;
      empty = refl;
      step = λ B one two f o at.
          let f1 = before_closed B (reserved (reserved b)) (Split c y n) y g2.ready f in
          let f2 = finishes_back B b (reserved (reserved b)) x.grows.ready (grows_on b (reserved b) (reserved (reserved b)) x.grows.ready g1 g2) f1 in
          let s = x.step B (ends (Split c y n)) f2 (opens_closed B b (Split c y n) (closed_stands B (reserved (reserved b)) (Split c y n) y g2.ready f)) in
          record {
            start = s.start;
            opens = s.opens;
            holds = record { test = ends (Split c y n); y = y; n = n; goes = s.holds; splits = same refl; at_yes = o.is; at_no = at };
          };
    }

-- a block that was reserved since is finished
pub grows_filled : (a b : Builder) (n : ℕ) (block : Block) → Ready a → Grows a b → Spare b n → length a.blocks ≤ n → length block.ops ≤ 512 → Grows a (filled b n block)
grows_filled a b n block r x s late short = let v = x.values in let l = x.longer in let e = set_length b.blocks n (Some block) in record {
  ready = record { is = set_other b.blocks n b.current (Some block) (λ e. s.apart (sym e)) ∙ x.ready.is };
  kept = λ i h m. set_other b.blocks n i (Some block) (λ e. omega arith) ∙ x.kept i h m;
  longer = omega arith;
  current = x.current;
  values = omega arith;
  banks = x.banks;
  limited = λ m. let w = x.limited m in record { opened = w.opened; blocks = λ i other q. one i other q (eqb_tells i n) w };
}
  where
    one : (i : ℕ) (other : Block) → slice_get (slice_set b.blocks n (Some block)) i ≡ Some (Some other) → ((nat_eq i n ≡ true) × (i ≡ n)) ⊎ ((nat_eq i n ≡ false) × (i ≡ n → ⊥)) → Limited b → length other.ops ≤ 512
    one i other q (inl t) m =
        let w = slice_get_within b.blocks n None s.free in
        let same_block : Some (Some block) ≡ Some (Some other) = sym (set_same b.blocks n (Some block) w) ∙ ap (slice_get (slice_set b.blocks n (Some block))) (sym t.1) ∙ q in
        let is : block.ops ≡ other.ops = ap ops_in same_block in
        subst (λ z. length z ≤ 512) is short
    one i other q (inr t) m = m.blocks i other (sym (set_other b.blocks n i (Some block) t.1) ∙ q)

pub before_filled : (B : List Block) (b : Builder) (n : ℕ) (block : Block) → Spare b n → Finishes B (filled b n block) → Finishes B b
before_filled B b n block s f = record { stands = λ m other e. f.stands m other (set_other b.blocks n m (Some block) (λ d. clash m other e d) ∙ e) }
  where
    clash : (m : ℕ) (other : Block) → slice_get b.blocks m ≡ Some (Some other) → m ≡ n → ⊥
    clash m other e d = let q : Some (Some other) ≡ Some None = sym e ∙ ap (slice_get b.blocks) d ∙ s.free in cc

pub filled_stands : (B : List Block) (b : Builder) (n j : ℕ) → Spare b n → Finishes B (filled b n (jump j)) → slice_get B n ≡ Some (jump j)
filled_stands B b n j s f = f.stands n (jump j) (set_same b.blocks n (Some (jump j)) (slice_get_within b.blocks n None s.free))

pub guards : (a b : Builder) (op : Op) (c : ℕ) (k : Trap) (n : ℕ) → Ready a → Branches op c n a b → Guards op c k a (filled b n (ends (Ends k)))
guards a b op c k n r x =
    let late = x.late in
    let v = x.grows.values in
    let l = x.grows.longer in
    let e = set_length b.blocks n (Some (ends (Ends k))) in
    let within : n < length b.blocks = slice_get_within b.blocks n None x.other in
    record {
      grows = record {
        ready = record { is = set_other b.blocks n b.current (Some (ends (Ends k))) (λ e. x.apart (sym e)) ∙ x.grows.ready.is };
        kept = λ i h m. set_other b.blocks n i (Some (ends (Ends k))) (λ e. omega arith) ∙ x.grows.kept i h m;
        longer = omega arith;
        current = x.grows.current;
        values = omega arith;
        banks = x.grows.banks;
        limited = λ m. let w = x.grows.limited m in record { opened = w.opened; blocks = λ i block q. one i block q (eqb_tells i n) w };
      };
      banks = x.banks;
      step = λ B q f o.
          let no = f.stands n (ends (Ends k)) (set_same b.blocks n (Some (ends (Ends k))) within) in
          let s = x.step B q no.0 (record { stands = λ m block e. f.stands m block (set_other b.blocks n m (Some (ends (Ends k))) (λ d. clash m block e d) ∙ e) }) (record { is = o.is }) no.1 in
          record { start = s.start; opens = s.opens; holds = (no.0, s.holds, no.2) };
    }
  where
    one : (i : ℕ) (block : Block) → slice_get (slice_set b.blocks n (Some (ends (Ends k)))) i ≡ Some (Some block) → ((nat_eq i n ≡ true) × (i ≡ n)) ⊎ ((nat_eq i n ≡ false) × (i ≡ n → ⊥)) → Limited b → length block.ops ≤ 512
    one i block q (inl t) m =
        let w = slice_get_within b.blocks n None x.other in
        let same_block : Some (Some (ends (Ends k))) ≡ Some (Some block) = sym (set_same b.blocks n (Some (ends (Ends k))) w) ∙ ap (slice_get (slice_set b.blocks n (Some (ends (Ends k))))) (sym t.1) ∙ q in
        let is : [] ≡ block.ops = ap ops_in same_block in
        subst (λ z. length z ≤ 512) is (omega arith)
    one i block q (inr t) m = m.blocks i block (sym (set_other b.blocks n i (Some (ends (Ends k))) t.1) ∙ q)

    clash : (m : ℕ) (block : Block) → slice_get b.blocks m ≡ Some (Some block) → m ≡ n → ⊥
    clash m block e d = let q : Some (Some block) ≡ Some None = sym e ∙ ap (slice_get b.blocks) d ∙ x.other in cc

-- the same, as the code makes them
pub puts_near_is : (b b1 : Builder) (op : Op) → length b.ops < 512 → b1 ≡ with_op b op → Ready b → Puts op b b1
puts_near_is b b1 op h e r = subst (Puts op b) (sym e) (puts_near b op h r)

pub puts_far_is : (b b1 b2 b3 : Builder) (op : Op) (n : ℕ) → (n ≡ length b.blocks) × (b1 ≡ reserved b) → b2 ≡ closed b1 (Goto n) n → b3 ≡ with_op b2 op → Ready b → Puts op b b3
puts_far_is b b1 b2 b3 op n e1 e2 e3 r = subst (Puts op b) (sym (e3 ∙ ap (λ z. with_op z op) (e2 ∙ ap (λ z. closed z (Goto n) n) e1.1 ∙ ap (λ m. closed (reserved b) (Goto m) m) e1.0))) (puts_far b op r)

pub added_far : (b b1 b2 b3 : Builder) (op : Op) (n : ℕ) → (n ≡ length b.blocks) × (b1 ≡ reserved b) → b2 ≡ closed b1 (Goto n) n → b3 ≡ with_op b2 op → Added op b b3
added_far b b1 b2 b3 op n e1 e2 e3 = far (e3 ∙ ap (λ z. with_op z op) (e2 ∙ ap (λ z. closed z (Goto n) n) e1.1 ∙ ap (λ m. closed (reserved b) (Goto m) m) e1.0))

pub branches_is : (a b b1 b2 b3 : Builder) (op : Op) (c y n : ℕ) → (Ready a → Puts op a b) → (y ≡ length b.blocks) × (b1 ≡ reserved b) → (n ≡ length b1.blocks) × (b2 ≡ reserved b1) → b3 ≡ closed b2 (Split c y n) y → Ready a → Branches op c n a b3
branches_is a b b1 b2 b3 op c y n x e1 e2 e3 r =
    let en : n ≡ length (reserved b).blocks = e2.0 ∙ ap (λ z. length z.blocks) e1.1 in
    let eb : b2 ≡ reserved (reserved b) = e2.1 ∙ ap reserved e1.1 in
    let e4 : b3 ≡ closed (reserved (reserved b)) (Split c (length b.blocks) (length (reserved b).blocks)) (length b.blocks) = e3 ∙ ap (λ z. closed z (Split c y n) y) eb ∙ ap (λ m. closed (reserved (reserved b)) (Split c m n) m) e1.0 ∙ ap (λ m. closed (reserved (reserved b)) (Split c (length b.blocks) m) (length b.blocks)) en in
    subst (λ m. Branches op c m a b3) (sym en) (subst (Branches op c (length (reserved b).blocks) a) (sym e4) (branches a b op c r (x r)))

pub guards_is : (a b b1 : Builder) (op : Op) (c : ℕ) (k : Trap) (n : ℕ) → (Ready a → Branches op c n a b) → b1 ≡ filled b n (ends (Ends k)) → Ready a → Guards op c k a b1
guards_is a b b1 op c k n x e r = subst (Guards op c k a) (sym e) (guards a b op c k n r (x r))
