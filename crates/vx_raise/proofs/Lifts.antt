-- An operation that is raised past those before it, from one block or two: it is brought to the front of each by exchanges, and then
-- raised.
use Rattle.std.proofs.Common.{◌≡◌, inl, inr, ℕ, zero, suc, ◌+◌, ◌==◌, ◌&&◌, ◌||◌, Bool, true, false, cond, nat_lt, List, [], ◌∷◌, ◌++◌, length, slice_get, Option, Some, None, refl, sym, ap, ◌∙◌, subst, eq-eqb, arith}
use Rattle.std.proofs.lemmas.Bool.{and_parts, eqb-true, false≢true, ne_eqb}
use lib.Dec.{eqb-zero-suc, eqb-suc-zero, eqb-suc-suc}
use Rattle.std.specs.Option.{option_map}
use Rattle.std.specs.List.{list_all}
use Rattle.std.specs.Prelude.{not}
use Rattle.vx_flow.specs.declared.graph.Op.{Op}
use Rattle.vx_flow.specs.declared.graph.Block.{Block}
use Rattle.vx_flow.specs.declared.graph.Array.{Array}
use Rattle.vx_flow.specs.declared.graph.Graph.{Graph}
use Rattle.vx_flow.specs.Effects.{dismissed}
use Rattle.vx_flow.specs.Live.{IsLive}
use Rattle.vx_raise.specs.Raising.{leads_to, behind_first, first_in, raised_block, raised_blocks, first_of, raised_by, raised, result_of, same_op, same_ops, are_one, lets_in, takes_in, may_raise, result_of_first, can_raise, GraphRaised}
use Rattle.vx_raise.specs.Exchanging.{exchanged_ops, exchanged_block, exchanged_blocks, exchanged, may_pass, can_exchange_ops, can_exchange_in, can_exchange, GraphExchanged}
use Rattle.vx_raise.specs.Moving.{Steps, GraphMoved}
use Rattle.vx_raise.specs.declared.known.Move.{Move}
use Rattle.vx_raise.specs.Lifting.{without, blocks_of, lifted_block, lifted_blocks, op_in, op_at, op_of, lifted_by, lifted, passes, passes_in, passes_at, is_in_both, can_lift_op, can_lift, all_lifted, live_behind, can_lift_all, LiftedMoved}
use Rattle.vx_raise.proofs.Raises.{Front, front_of, block_here, some_block}
use Rattle.vx_raise.proofs.Moves.{plus}
use Rattle.vx_raise.proofs.LiveStays.{exchanged_live, raised_live}

-- ---- operations exchanged, one pair after the other

data Turns (arrays : List Array) : List Op → List Op → Type 0 where
  none : {ops : List Op} → Turns arrays ops ops
  more : {ops after : List Op} (k : ℕ) → can_exchange_ops arrays k ops ≡ true → Turns arrays (exchanged_ops k ops) after → Turns arrays ops after

under : (arrays : List Array) (x : Op) (ops after : List Op) → Turns arrays ops after → Turns arrays (x ∷ ops) (x ∷ after)
under arrays x _ _ (none {ops}) = none {ops = x ∷ ops}
under arrays x _ _ (more {ops} {after} k h t) = more {ops = x ∷ ops} {after = x ∷ after} (suc k) h (under arrays x (exchanged_ops k ops) after t)

one_more : (arrays : List Array) (k : ℕ) (ops after : List Op) → Turns arrays ops after → can_exchange_ops arrays k after ≡ true → Turns arrays ops (exchanged_ops k after)
one_more arrays k _ _ (none {ops}) h = more {ops = ops} {after = exchanged_ops k ops} k h (none {ops = exchanged_ops k ops})
one_more arrays k _ _ (more {ops} {after} j g t) h = more {ops = ops} {after = exchanged_ops k after} j g (one_more arrays k (exchanged_ops j ops) after t h)

brought : (arrays : List Array) (op : Op) (k : ℕ) (ops : List Op) → slice_get ops k ≡ Some op → passes arrays op k ops ≡ true → Turns arrays ops (op ∷ without k ops)
brought arrays op k [] e h = absurd (cc)
brought arrays op zero (x ∷ ops) e h = let q : x ≡ op = cc in subst (λ z. Turns arrays (x ∷ ops) (z ∷ ops)) q (none {ops = x ∷ ops})
brought arrays op (suc k) (x ∷ ops) e h =
    let both = and_parts (may_pass arrays x op) (passes arrays op k ops) h in
    one_more arrays zero (x ∷ ops) (x ∷ op ∷ without k ops) (under arrays x ops (op ∷ without k ops) (brought arrays op k ops e both.1)) both.0

-- ---- in a graph

with_ops : ℕ → List Op → List Block → List Block
with_ops b ops [] = []
with_ops zero ops (block ∷ blocks) = record { ops = ops; exit = block.exit } ∷ blocks
with_ops (suc b) ops (block ∷ blocks) = block ∷ with_ops b ops blocks

ops_itself : (b : ℕ) (blocks : List Block) (block : Block) → slice_get blocks b ≡ Some block → with_ops b block.ops blocks ≡ blocks
unfolding with_ops
ops_itself b [] block e = absurd (cc)
ops_itself zero (x ∷ blocks) block e = let q : x ≡ block = cc in ap (λ (z : Block). record { ops = z.ops; exit = x.exit } ∷ blocks) (sym q)
ops_itself (suc b) (x ∷ blocks) block e = ap (λ l. x ∷ l) (ops_itself b blocks block e)

ops_again : (b k : ℕ) (ops : List Op) (blocks : List Block) → with_ops b ops (exchanged_blocks b k blocks) ≡ with_ops b ops blocks
unfolding with_ops
ops_again b k ops [] = refl
ops_again zero k ops (block ∷ blocks) = refl
ops_again (suc b) k ops (block ∷ blocks) = ap (λ l. block ∷ l) (ops_again b k ops blocks)

exchanged_there : (b k : ℕ) (blocks : List Block) (block : Block) → slice_get blocks b ≡ Some block → slice_get (exchanged_blocks b k blocks) b ≡ Some (exchanged_block k block)
exchanged_there b k [] block e = absurd (cc)
exchanged_there zero k (x ∷ blocks) block e = let q : x ≡ block = cc in ap (λ z. Some (exchanged_block k z)) q
exchanged_there (suc b) k (x ∷ blocks) block e = exchanged_there b k blocks block e

ops_there : (b : ℕ) (ops : List Op) (blocks : List Block) (block : Block) → slice_get blocks b ≡ Some block → slice_get (with_ops b ops blocks) b ≡ Some (record { ops = ops; exit = block.exit })
unfolding with_ops
ops_there b ops [] block e = absurd (cc)
ops_there zero ops (x ∷ blocks) block e = let q : x ≡ block = cc in ap (λ (z : Block). Some (record { ops = ops; exit = z.exit })) q
ops_there (suc b) ops (x ∷ blocks) block e = ops_there b ops blocks block e

abbrev renewed : Bool → List Op → Block → Block
renewed q ops block = record { ops = cond q ops block.ops; exit = block.exit }

unset : (ops : List Op) (o : Option Block) → option_map (renewed false ops) o ≡ o
unset ops None = refl
unset ops (Some block) = refl

with_at : (b : ℕ) (ops : List Op) (blocks : List Block) (i : ℕ) → slice_get (with_ops b ops blocks) i ≡ option_map (renewed (i == b) ops) (slice_get blocks i)
unfolding with_ops
with_at b ops [] i = refl
with_at zero ops (x ∷ blocks) zero = refl
with_at zero ops (x ∷ blocks) (suc i) = sym (ap (λ q. option_map (renewed q ops) (slice_get blocks i)) (eqb-suc-zero i) ∙ unset ops (slice_get blocks i))
with_at (suc b) ops (x ∷ blocks) zero = ap (λ q. Some (renewed q ops x)) (sym (eqb-zero-suc b))
with_at (suc b) ops (x ∷ blocks) (suc i) = with_at b ops blocks i ∙ ap (λ q. option_map (renewed q ops) (slice_get blocks i)) (sym (eqb-suc-suc i b))

lifted_at : (m : Move) (op : Op) (j : ℕ) (blocks : List Block) (i : ℕ) → slice_get (lifted_blocks m op j blocks) i ≡ option_map (lifted_block m op (j + i)) (slice_get blocks i)
lifted_at m op j [] i = refl
lifted_at m op j (block ∷ blocks) zero = let e : j ≡ j + 0 = omega arith in ap (λ k. Some (lifted_block m op k block)) e
lifted_at m op j (block ∷ blocks) (suc i) = let e : suc j + i ≡ j + suc i = omega arith in lifted_at m op (suc j) blocks i ∙ ap (λ k. option_map (lifted_block m op k) (slice_get blocks i)) e

same_lists : (xs ys : List Block) → ((i : ℕ) → slice_get xs i ≡ slice_get ys i) → xs ≡ ys
same_lists [] [] h = refl
same_lists [] (y ∷ ys) h = let e : ◌≡◌ {A = Option Block} None (Some y) = h 0 in absurd (cc)
same_lists (x ∷ xs) [] h = let e : ◌≡◌ {A = Option Block} (Some x) None = h 0 in absurd (cc)
same_lists (x ∷ xs) (y ∷ ys) h = let e : x ≡ y = some_block x y (h 0) in ap (λ z. z ∷ xs) e ∙ ap (λ l. y ∷ l) (same_lists xs ys (λ i. h (suc i)))

record Reached (g : Graph) (b : ℕ) (after : List Op) : Type 0 where
  pub count : ℕ
  pub steps : Steps count g (record g { blocks = with_ops b after g.blocks })
  pub live : (c u : ℕ) → IsLive (record g { blocks = with_ops b after g.blocks }) c u → IsLive g c u

reached : (arrays : List Array) (b : ℕ) (ops after : List Op) → Turns arrays ops after → (g : Graph) (block : Block) → g.arrays ≡ arrays → slice_get g.blocks b ≡ Some block → block.ops ≡ ops → Reached g b after
reached arrays b _ _ (none {ops}) g block own e q =
    let same : with_ops b ops g.blocks ≡ g.blocks = ap (λ l. with_ops b l g.blocks) (sym q) ∙ ops_itself b g.blocks block e in
    record {
      count = 0;
      steps = ap (λ l. record g { blocks = l }) same;
      live = λ c u l. subst (λ z. IsLive (record g { blocks = z }) c u) same l;
    }
reached arrays b _ _ (more {ops} {after} k h t) g block own e q =
    let can : can_exchange g b k ≡ true = ap (λ z. can_exchange_in z k (slice_get g.blocks b)) own ∙ (ap (can_exchange_in arrays k) e ∙ (ap (can_exchange_ops arrays k) q ∙ h)) in
    let next : Graph = exchanged g b k in
    let rest : Reached next b after = reached arrays b (exchanged_ops k ops) after t next (exchanged_block k block) own (exchanged_there b k g.blocks block e) (ap (exchanged_ops k) q) in
    let again : with_ops b after next.blocks ≡ with_ops b after g.blocks = ops_again b k after g.blocks in
    let one : GraphExchanged g next = record { block = b; place = k; can = can; is = refl } in
    record {
      count = suc rest.count;
      steps = (next, inr (inr one), subst (λ l. Steps rest.count next (record g { blocks = l })) again rest.steps);
      live = λ c u l. exchanged_live g b k can c u (rest.live c u (subst (λ z. IsLive (record g { blocks = z }) c u) (sym again) l));
    }

-- ---- what the test says

pub record Lift (live : ℕ → ℕ → Bool) (g : Graph) (m : Move) : Type 0 where
  pub op : Op
  pub value : ℕ
  pub block : Block
  pub entry : not (blocks_of m 0) ≡ true
  pub both : is_in_both g m ≡ true
  pub has : slice_get g.blocks m.block ≡ Some block
  pub stands : slice_get block.ops m.place ≡ Some op
  pub there : op_of g m ≡ Some op
  pub passed : passes g.arrays op m.place block.ops ≡ true
  pub result : result_of op ≡ Some value
  pub takes : list_all (takes_in live (blocks_of m) value) g.blocks ≡ true
  pub first : result_of_first (op_of g m) ≡ Some value
  pub is : lifted g m ≡ record g { blocks = lifted_blocks m op 0 g.blocks }

module _ (live : ℕ → ℕ → Bool) (g : Graph) (m : Move) where
  by_value : (op : Op) (block : Block) (o : Option ℕ) → not (blocks_of m 0) ≡ true → is_in_both g m ≡ true → slice_get g.blocks m.block ≡ Some block → slice_get block.ops m.place ≡ Some op → passes g.arrays op m.place block.ops ≡ true → result_of op ≡ o →
      may_raise live g (blocks_of m) o ≡ true → Lift live g m
  by_value op block None n s has e p r h = absurd (false≢true h)
  by_value op block (Some v) n s has e p r h =
      let there : op_of g m ≡ Some op = ap (op_in m.place) has ∙ e in
      record {
        op = op;
        value = v;
        block = block;
        entry = n;
        both = s;
        has = has;
        stands = e;
        there = there;
        passed = p;
        result = r;
        takes = h;
        first = ap result_of_first there ∙ r;
        is = ap (lifted_by g m) there;
      }

  by_op : (o : Option Block) (q : Option Op) → not (blocks_of m 0) ≡ true → is_in_both g m ≡ true → slice_get g.blocks m.block ≡ o → op_in m.place o ≡ q → can_lift_op live g m q ≡ true → Lift live g m
  by_op o None n s has e h = absurd (false≢true h)
  by_op None (Some op) n s has e h = absurd (cc)
  by_op (Some block) (Some op) n s has e h =
      let both = and_parts (passes_in g.arrays op m.place (slice_get g.blocks m.block)) (may_raise live g (blocks_of m) (result_of op)) h in
      by_value op block (result_of op) n s has e (sym (ap (passes_in g.arrays op m.place) has) ∙ both.0) refl both.1

  pub lift_of : can_lift live g m ≡ true → Lift live g m
  lift_of h =
      let both = and_parts (not (blocks_of m 0) && is_in_both g m) (can_lift_op live g m (op_of g m)) h in
      let one = and_parts (not (blocks_of m 0)) (is_in_both g m) both.0 in
      by_op (slice_get g.blocks m.block) (op_of g m) one.0 one.1 refl refl both.1

-- the other block holds the operation too
record There (g : Graph) (m : Move) (op : Op) : Type 0 where
  pub op' : Op
  pub block : Block
  pub has : slice_get g.blocks m.other ≡ Some block
  pub stands : slice_get block.ops m.other_place ≡ Some op'
  pub passed : passes g.arrays op' m.other_place block.ops ≡ true
  pub same : same_op op op' ≡ true

there_of : (g : Graph) (m : Move) (op : Op) → op_of g m ≡ Some op → (m.block == m.other) ≡ false → is_in_both g m ≡ true → There g m op
there_of g m op e n h = by (slice_get g.blocks m.other) (op_at g m.other m.other_place) refl refl h'
  where
    h' : (same_ops (op_of g m) (op_at g m.other m.other_place) && passes_at g m.other m.other_place (op_at g m.other m.other_place)) ≡ true
    h' = sym (ap (λ q. q || (same_ops (op_of g m) (op_at g m.other m.other_place) && passes_at g m.other m.other_place (op_at g m.other m.other_place))) n) ∙ h

    by : (o : Option Block) (q : Option Op) → slice_get g.blocks m.other ≡ o → op_in m.other_place o ≡ q → (same_ops (op_of g m) q && passes_at g m.other m.other_place q) ≡ true → There g m op
    by o None has d h = absurd (false≢true (sym (nothing (op_of g m)) ∙ h))
      where
        nothing : (x : Option Op) → (same_ops x None && passes_at g m.other m.other_place None) ≡ false
        nothing None = refl
        nothing (Some x) = refl
    by None (Some op') has d h = absurd (cc)
    by (Some block) (Some op') has d h =
        let both = and_parts (same_ops (op_of g m) (Some op')) (passes_in g.arrays op' m.other_place (slice_get g.blocks m.other)) h in
        record {
          op' = op';
          block = block;
          has = has;
          stands = d;
          passed = sym (ap (passes_in g.arrays op' m.other_place) has) ∙ both.1;
          same = sym (ap (λ x. same_ops x (Some op')) e) ∙ both.0;
        }

-- ---- the operation brought to the front of each block, and raised from there

without_length : (op : Op) (k : ℕ) (ops : List Op) → slice_get ops k ≡ Some op → length (op ∷ without k ops) ≡ length ops
without_length op k [] e = absurd (cc)
without_length op zero (x ∷ ops) e = refl
without_length op (suc k) (x ∷ ops) e = ap suc (without_length op k ops e)

takes_same : (live : ℕ → ℕ → Bool) (from : ℕ → Bool) (v b : ℕ) (ops : List Op) (blocks : List Block) (block : Block) → slice_get blocks b ≡ Some block → length ops ≡ length block.ops → list_all (takes_in live from v) blocks ≡ true →
    list_all (takes_in live from v) (with_ops b ops blocks) ≡ true
unfolding with_ops
takes_same live from v b ops [] block e l h = absurd (cc)
takes_same live from v zero ops (x ∷ blocks) block e l h =
    let q : block ≡ x = cc in
    let n : length x.ops ≡ length ops = sym (ap (λ (z : Block). length z.ops) q) ∙ sym l in
    subst (λ m. ((not (leads_to from x.exit) || (lets_in live from v x.exit && nat_lt m 512)) && list_all (takes_in live from v) blocks) ≡ true) n h
takes_same live from v (suc b) ops (x ∷ blocks) block e l h =
    let both = and_parts (takes_in live from v x) (list_all (takes_in live from v) blocks) h in
    ap (λ z. z && list_all (takes_in live from v) (with_ops b ops blocks)) both.0 ∙ takes_same live from v b ops blocks block e l both.1

-- the other block, where the first has its operations in another order: its own come into one too
record Second (g : Graph) (m : Move) (op : Op) (before : List Op) (g1 : Graph) : Type 0 where
  pub block : Block
  pub has : slice_get g1.blocks m.other ≡ Some block
  pub ops : List Op
  pub turns : Turns g1.arrays block.ops ops
  pub count : length ops ≡ length block.ops
  pub one : are_one m.block m.other (Some op) (first_in ops) ≡ true
  pub both : (m.block == m.other) ≡ true → ops ≡ before
  pub second : (x : Block) → slice_get g.blocks m.other ≡ Some x → (m.block == m.other) ≡ false → behind_first ops ≡ without m.other_place x.ops

second_of : (g : Graph) (m : Move) (op : Op) (before : List Op) (first : Block) → slice_get g.blocks m.block ≡ Some first → op_of g m ≡ Some op → is_in_both g m ≡ true → Second g m op before (record g { blocks = with_ops m.block before g.blocks })
second_of g m op before first has e h = by (m.block == m.other) refl
  where
    by : (q : Bool) → (m.block == m.other) ≡ q → Second g m op before (record g { blocks = with_ops m.block before g.blocks })
    by true q =
        let own : slice_get (with_ops m.block before g.blocks) m.block ≡ Some (record { ops = before; exit = first.exit }) = ops_there m.block before g.blocks first has in
        record {
          block = record { ops = before; exit = first.exit };
          has = subst (λ c. slice_get (with_ops m.block before g.blocks) c ≡ Some (record { ops = before; exit = first.exit })) (eqb-true m.block m.other q) own;
          ops = before;
          turns = none {ops = before};
          count = refl;
          one = ap (λ z. z || same_ops (Some op) (first_in before)) q;
          both = λ z. refl;
          second = λ x f n. absurd (false≢true (sym n ∙ q));
        }
    by false q =
        let it : There g m op = there_of g m op e q h in
        let other : (m.other == m.block) ≡ false = ne_eqb m.other m.block (λ z. false≢true (sym q ∙ eq-eqb m.block m.other (sym z))) in
        let still : slice_get (with_ops m.block before g.blocks) m.other ≡ slice_get g.blocks m.other = with_at m.block before g.blocks m.other ∙ (ap (λ z. option_map (renewed z before) (slice_get g.blocks m.other)) other ∙ unset before (slice_get g.blocks m.other)) in
        record {
          block = it.block;
          has = still ∙ it.has;
          ops = it.op' ∷ without m.other_place it.block.ops;
          turns = brought g.arrays it.op' m.other_place it.block.ops it.stands it.passed;
          count = without_length it.op' m.other_place it.block.ops it.stands;
          one = ap (λ z. z || same_op op it.op') q ∙ it.same;
          both = λ z. absurd (false≢true (sym q ∙ z));
          second = λ x f n. ap (λ (z : Block). without m.other_place z.ops) (some_block it.block x (sym it.has ∙ f));
        }

module _ (m : Move) (op : Op) (before after : List Op) (blocks : List Block) (first : (x : Block) → slice_get blocks m.block ≡ Some x → behind_first before ≡ without m.place x.ops) (both : (m.block == m.other) ≡ true → after ≡ before)
    (second : (x : Block) → slice_get blocks m.other ≡ Some x → (m.block == m.other) ≡ false → behind_first after ≡ without m.other_place x.ops) where
  here_same : (i : ℕ) (block : Block) → slice_get blocks i ≡ Some block → raised_block (blocks_of m) op i (renewed (i == m.other) after (renewed (i == m.block) before block)) ≡ lifted_block m op i block
  here_same i block e = by (i == m.block) (i == m.other) refl refl
    where
      end : List Op
      end = cond (leads_to (blocks_of m) block.exit) (dismissed op ∷ []) []

      by : (p q : Bool) → (i == m.block) ≡ p → (i == m.other) ≡ q →
          ◌≡◌ {A = Block} (record { ops = cond (p || q) (behind_first (cond q after (cond p before block.ops))) (cond q after (cond p before block.ops)) ++ end; exit = block.exit }) (record { ops = cond p (without m.place block.ops) (cond q (without m.other_place block.ops) block.ops) ++ end; exit = block.exit })
      by true true p q =
          let one : (m.block == m.other) ≡ true = eq-eqb m.block m.other (sym (eqb-true i m.block p) ∙ eqb-true i m.other q) in
          let here : slice_get blocks m.block ≡ Some block = sym (ap (slice_get blocks) (eqb-true i m.block p)) ∙ e in
          ap (λ l. record { ops = l ++ end; exit = block.exit }) (ap behind_first (both one) ∙ first block here)
      by true false p q =
          let here : slice_get blocks m.block ≡ Some block = sym (ap (slice_get blocks) (eqb-true i m.block p)) ∙ e in
          ap (λ l. record { ops = l ++ end; exit = block.exit }) (first block here)
      by false true p q =
          let here : slice_get blocks m.other ≡ Some block = sym (ap (slice_get blocks) (eqb-true i m.other q)) ∙ e in
          let two : (m.block == m.other) ≡ false = ne_eqb m.block m.other (λ z. false≢true (sym p ∙ eq-eqb i m.block (eqb-true i m.other q ∙ sym z))) in
          ap (λ l. record { ops = l ++ end; exit = block.exit }) (second block here two)
      by false false p q = refl

  blocks_same : raised_blocks (blocks_of m) op 0 (with_ops m.other after (with_ops m.block before blocks)) ≡ lifted_blocks m op 0 blocks
  blocks_same = same_lists (raised_blocks (blocks_of m) op 0 (with_ops m.other after (with_ops m.block before blocks))) (lifted_blocks m op 0 blocks) at
    where
      at_option : (i : ℕ) (o : Option Block) → slice_get blocks i ≡ o → option_map (raised_block (blocks_of m) op i) (option_map (renewed (i == m.other) after) (option_map (renewed (i == m.block) before) o)) ≡ option_map (lifted_block m op i) o
      at_option i None e = refl
      at_option i (Some block) e = ap Some (here_same i block e)

      at : (i : ℕ) → slice_get (raised_blocks (blocks_of m) op 0 (with_ops m.other after (with_ops m.block before blocks))) i ≡ slice_get (lifted_blocks m op 0 blocks) i
      at i =
          let z : 0 + i ≡ i = omega arith in
          let left : slice_get (with_ops m.other after (with_ops m.block before blocks)) i ≡ option_map (renewed (i == m.other) after) (option_map (renewed (i == m.block) before) (slice_get blocks i)) =
          with_at m.other after (with_ops m.block before blocks) i ∙ ap (option_map (renewed (i == m.other) after)) (with_at m.block before blocks i) in
          let right : slice_get (lifted_blocks m op 0 blocks) i ≡ option_map (lifted_block m op i) (slice_get blocks i) = lifted_at m op 0 blocks i ∙ ap (λ k. option_map (lifted_block m op k) (slice_get blocks i)) z in
          block_here (blocks_of m) op (with_ops m.other after (with_ops m.block before blocks)) i ∙ (ap (option_map (raised_block (blocks_of m) op i)) left ∙ (at_option i (slice_get blocks i) refl ∙ sym right))

pub steps_then : (m n : ℕ) (g h l : Graph) → Steps m g h → Steps n h l → Steps (plus m n) g l
steps_then zero n g h l s t = subst (λ z. Steps n z l) s t
steps_then (suc m) n g h l s t = (s.0, s.1, steps_then m n s.0 h l s.2 t)

pub record Lifted (live : ℕ → ℕ → Bool) (g : Graph) (m : Move) : Type 0 where
  pub moved : GraphMoved g (lifted g m)
  pub covered : (c u : ℕ) → IsLive (lifted g m) c u → live_behind live (blocks_of m) (result_of_first (op_of g m)) c u ≡ true

pub lifts : (live : ℕ → ℕ → Bool) (g : Graph) (m : Move) → ((c u : ℕ) → IsLive g c u → live c u ≡ true) → Lift live g m → Lifted live g m
lifts live g m covers it =
    let before : List Op = it.op ∷ without m.place it.block.ops in
    let g1 : Graph = record g { blocks = with_ops m.block before g.blocks } in
    let first_way : Reached g m.block before = reached g.arrays m.block it.block.ops before (brought g.arrays it.op m.place it.block.ops it.stands it.passed) g it.block refl it.has refl in
    let second : Second g m it.op before g1 = second_of g m it.op before it.block it.has it.there it.both in
    let after : List Op = second.ops in
    let middle : Graph = record g { blocks = with_ops m.other after g1.blocks } in
    let second_way : Reached g1 m.other after = reached g1.arrays m.other second.block.ops after second.turns g1 second.block refl second.has refl in
    let way : Steps (plus first_way.count second_way.count) g middle = steps_then first_way.count second_way.count g g1 middle first_way.steps second_way.steps in
    let own : slice_get g1.blocks m.block ≡ Some (record { ops = before; exit = it.block.exit }) = ops_there m.block before g.blocks it.block it.has in
    let first : first_of (slice_get middle.blocks m.block) ≡ Some it.op = ap first_of (with_at m.other after g1.blocks m.block ∙ ap (option_map (renewed (m.block == m.other) after)) own) ∙ still (m.block == m.other) refl before after it.op refl second.both in
    let other : first_of (slice_get middle.blocks m.other) ≡ first_in after = ap first_of (ops_there m.other after g1.blocks second.block second.has) in
    let takes : list_all (takes_in live (blocks_of m) it.value) middle.blocks ≡ true =
    takes_same live (blocks_of m) it.value m.other after g1.blocks second.block second.has second.count (takes_same live (blocks_of m) it.value m.block before g.blocks it.block it.has (without_length it.op m.place it.block.ops it.stands) it.takes) in
    let may : may_raise live middle (blocks_of m) (result_of_first (first_of (slice_get middle.blocks m.block))) ≡ true = ap (λ o. may_raise live middle (blocks_of m) (result_of_first o)) first ∙ (ap (may_raise live middle (blocks_of m)) it.result ∙ takes) in
    let one : are_one m.block m.other (first_of (slice_get middle.blocks m.block)) (first_of (slice_get middle.blocks m.other)) ≡ true =
    ap (λ o. are_one m.block m.other o (first_of (slice_get middle.blocks m.other))) first ∙ (ap (are_one m.block m.other (Some it.op)) other ∙ second.one) in
    let can : can_raise live middle m.block m.other ≡ true =
    ap (λ q. q && are_one m.block m.other (first_of (slice_get middle.blocks m.block)) (first_of (slice_get middle.blocks m.other)) && may_raise live middle (blocks_of m) (result_of_first (first_of (slice_get middle.blocks m.block)))) it.entry ∙
    (ap (λ q. q && may_raise live middle (blocks_of m) (result_of_first (first_of (slice_get middle.blocks m.block)))) one ∙ may) in
    let covered : (c u : ℕ) → IsLive middle c u → live c u ≡ true = λ c u l. covers c u (first_way.live c u (second_way.live c u l)) in
    let list : raised_blocks (blocks_of m) it.op 0 middle.blocks ≡ lifted_blocks m it.op 0 g.blocks =
    blocks_same m it.op before after g.blocks (λ x e. ap (λ (z : Block). without m.place z.ops) (some_block it.block x (sym it.has ∙ e))) second.both second.second in
    let same : raised middle m.block m.other ≡ lifted g m = ap (raised_by middle (blocks_of m)) first ∙ (ap (λ l. record g { blocks = l }) list ∙ sym it.is) in
    let raise : GraphRaised middle (lifted g m) = record { block = m.block; other = m.other; live = live; covers = covered; can = can; is = sym same } in
    let front : Front live middle m.block m.other = front_of live middle m.block m.other can in
    let value : Some front.value ≡ result_of_first (op_of g m) = sym front.result ∙ (ap result_of_first (sym front.first ∙ first) ∙ (it.result ∙ sym it.first)) in
    let many : ℕ = plus first_way.count second_way.count in
    record {
      moved = record { count = plus many 1; steps = steps_then many 1 g middle (lifted g m) way (lifted g m, inr (inl raise), refl) };
      covered = λ c u l. subst (λ o. live_behind live (blocks_of m) o c u ≡ true) value (raised_live live middle m.block m.other front covered (lifted g m) (sym same) c u l);
    }
  where
    still : (q : Bool) → (m.block == m.other) ≡ q → (before after : List Op) (op : Op) → first_in before ≡ Some op → ((m.block == m.other) ≡ true → after ≡ before) → first_in (cond q after before) ≡ Some op
    still true q before after op e b = ap first_in (b q) ∙ e
    still false q before after op e b = e

lifted_all : (live : ℕ → ℕ → Bool) (g : Graph) (moves : List Move) → ((c v : ℕ) → IsLive g c v → live c v ≡ true) → can_lift_all live g moves ≡ true → GraphMoved g (all_lifted g moves)
lifted_all live g [] covers h = record { count = 0; steps = refl }
lifted_all live g (m ∷ ms) covers h =
    let behind : ℕ → ℕ → Bool = live_behind live (blocks_of m) (result_of_first (op_of g m)) in
    let next : Graph = lifted g m in
    let both = and_parts (can_lift live g m) (can_lift_all behind next ms) h in
    let one : Lifted live g m = lifts live g m covers (lift_of live g m both.0) in
    let rest : GraphMoved next (all_lifted next ms) = lifted_all behind next ms one.covered both.1 in
    record { count = plus one.moved.count rest.count; steps = steps_then one.moved.count rest.count g next (all_lifted next ms) one.moved.steps rest.steps }

pub lifted_moved : LiftedMoved
lifted_moved live g moves covers h = lifted_all live g moves covers h
