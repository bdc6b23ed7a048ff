-- A graph with a diamond converted has the meaning of the old one.
use Rattle.std.proofs.Common.{◌≡◌, ◌≢◌, ◌⊎◌, inl, inr, ℕ, ◌==◌, ◌&&◌, ℤ, Bool, true, false, cond, List, [], ◌∷◌, ◌++◌, slice_get, Option, Some, None, refl, sym, ap, subst, ◌∙◌, eq-eqb}
use Rattle.std.specs.Option.{option_map}
use Rattle.std.proofs.lemmas.Option.{slice_get-map}
use Rattle.std.proofs.lemmas.Bool.{and_parts, false≢true, eqb-true}
use Rattle.std.specs.Cmp.Derive.{both_true}
use Rattle.vx_flow.specs.declared.graph.Op.{Op}
use Rattle.vx_flow.specs.declared.graph.Exit.{Exit}
use Rattle.vx_flow.specs.declared.graph.Exit.TheVariants.{Goto, Split, Call, Return, Ends}
use Rattle.vx_flow.specs.declared.graph.Block.{Block}
use Rattle.vx_flow.specs.declared.graph.Graph.{Graph}
use Rattle.vx_flow.specs.Effects.{Content, State, Setting, IsIn, is_one, effect}
use Rattle.vx_flow.specs.Meaning.{Hop, Arrives, Calls, Leaves, Stops, Wrong, by_test, leave, and_then, block_hop}
use Rattle.vx_flow.specs.Sound.{targets_of, Sound}
use Rattle.vx_mixed.specs.declared.region.Node.TheVariants.{Unused}
use Rattle.vx_mixed.specs.declared.mixed.MixedGraph.{MixedGraph}
use Rattle.vx_mixed.specs.Meaning.{is_same, node_hop, timed_from_start, hop}
use Rattle.vx_mixed.specs.Live.{Live}
use Rattle.vx_mixed.specs.Agree.{EndsAt, Segment, last, on, SameWorld, Agree, Alike, SameMeaning}
use Rattle.vx_mixed.specs.Way.{Renamed, goto, branch, call, return, stop}
use Rattle.vx_motion.specs.Unchanged.{Outside, block}
use Rattle.vx_motion.proofs.Unchanged.{unchanged}
use Rattle.vx_motion.proofs.Blocks.{is_whole}
use Rattle.vx_select.specs.Selected.{Diamond, IsLiveness, both_sides, stays, numbered, led, changed, converted, IsDiamond}
use Rattle.vx_select.proofs.Lists.{not_eqb}
use Rattle.vx_select.proofs.Sides.{AllSimple, steps, steps_hop, steps_world}
use Rattle.vx_select.proofs.Joined.{all_simple, simple_left, simple_right, joined_same}
use Rattle.vx_select.proofs.Numbered.{side_is, yes_goes, no_goes, block_at}
use Rattle.vx_select.proofs.MixedLive.{mixed_of, node_at, live_is}

-- ---- the operations of a block, and then its exit

abbrev then_run : Option State → (State → Option State) → Option State
then_run None f = None
then_run (Some t) f = f t

abbrev run_ops : Setting → List Op → State → Option State
run_ops setting [] s = Some s
run_ops setting (op ∷ ops) s = then_run (effect setting s op s) (run_ops setting ops)

run_by : (setting : Setting) (ops : List Op) (f k : State → Hop) (o : Option State) → ((t : State) → f t ≡ and_then (run_ops setting ops t) k) → and_then o f ≡ and_then (then_run o (run_ops setting ops)) k
run_by setting ops f k None h = refl
run_by setting ops f k (Some t) h = h t

hop_more : (setting : Setting) (b : ℕ) (ops more : List Op) (exit : Exit) (s : State) → block_hop setting b (ops ++ more) exit s ≡ and_then (run_ops setting ops s) (block_hop setting b more exit)
hop_more setting b [] more exit s = refl
hop_more setting b (op ∷ ops) more exit s = run_by setting ops (block_hop setting b (ops ++ more) exit) (block_hop setting b more exit) (effect setting s op s) (hop_more setting b ops more exit)

hop_own : (setting : Setting) (b : ℕ) (ops : List Op) (exit : Exit) (s : State) → block_hop setting b ops exit s ≡ and_then (run_ops setting ops s) (leave b exit)
hop_own setting b [] exit s = refl
hop_own setting b (op ∷ ops) exit s = run_by setting ops (block_hop setting b ops exit) (leave b exit) (effect setting s op s) (hop_own setting b ops exit)

append_none : (ops : List Op) → ops ++ [] ≡ ops
append_none [] = refl
append_none (op ∷ ops) = ap (λ l. op ∷ l) (append_none ops)

simple_whole : (setting : Setting) (b : ℕ) (ops : List Op) (exit : Exit) (s : State) → AllSimple ops → block_hop setting b ops exit s ≡ leave b exit (steps ops s)
simple_whole setting b ops exit s f = ap (λ l. block_hop setting b l exit s) (sym (append_none ops)) ∙ steps_hop setting b ops [] exit s f

-- ---- a split that leaves by an edge

record Splits (o : Option State) (p y n to : ℕ) (t : State) : Type 0 where
  one : Bool
  number : ℤ
  ran : o ≡ Some t
  tested : t.values p ≡ Some number
  answer : is_one number ≡ one
  goes : to ≡ cond one y n

arrives_to : (b c e to : ℕ) (s t : State) → Arrives b c s ≡ Arrives e to t → to ≡ c
arrives_to b c e to s t q = cc

arrives_state : (b c e to : ℕ) (s t : State) → Arrives b c s ≡ Arrives e to t → s ≡ t
arrives_state b c e to s t q = cc

splits_by : (b p y n from to : ℕ) (o : Option State) (t : State) → and_then o (leave b (Split p y n)) ≡ Arrives from to t → Splits o p y n to t
splits_by b p y n from to None t e = absurd (cc)
splits_by b p y n from to (Some s) t e = test (s.values p) refl e
  where
    side : (z : ℤ) (one : Bool) → s.values p ≡ Some z → is_one z ≡ one → cond one (Arrives b y s) (Arrives b n s) ≡ Arrives from to t → Splits (Some s) p y n to t
    side z true v h q = let a = arrives_state b y from to s t q in record { one = true; number = z; ran = ap Some a; tested = ap (λ (x : State). x.values p) (sym a) ∙ v; answer = h; goes = arrives_to b y from to s t q }
    side z false v h q = let a = arrives_state b n from to s t q in record { one = false; number = z; ran = ap Some a; tested = ap (λ (x : State). x.values p) (sym a) ∙ v; answer = h; goes = arrives_to b n from to s t q }

    test : (c : Content) → s.values p ≡ c → by_test c (Arrives b y s) (Arrives b n s) ≡ Arrives from to t → Splits (Some s) p y n to t
    test None v q = absurd (cc)
    test (Some z) v q = side z (is_one z) v refl q

-- a split never leaves but by its edges
splits_or_wrong : (b p y n : ℕ) (o : Option State) (h : Hop) → and_then o (leave b (Split p y n)) ≡ h → (h ≡ Wrong) ⊎ ((to : ℕ) × (t : State) × (h ≡ Arrives b to t) × ((to ≡ y) ⊎ (to ≡ n)))
splits_or_wrong b p y n None h e = inl (sym e)
splits_or_wrong b p y n (Some s) h e = test (s.values p) e
  where
    side : (one : Bool) → cond one (Arrives b y s) (Arrives b n s) ≡ h → (h ≡ Wrong) ⊎ ((to : ℕ) × (t : State) × (h ≡ Arrives b to t) × ((to ≡ y) ⊎ (to ≡ n)))
    side true q = inr (y, s, sym q, inl refl)
    side false q = inr (n, s, sym q, inr refl)

    test : (c : Content) → by_test c (Arrives b y s) (Arrives b n s) ≡ h → (h ≡ Wrong) ⊎ ((to : ℕ) × (t : State) × (h ≡ Arrives b to t) × ((to ≡ y) ⊎ (to ≡ n)))
    test None q = inl (sym q)
    test (Some z) q = side (is_one z) q

module _ (live : ℕ → ℕ → Bool) (most : ℕ) (g : Graph) (d : Diamond) (sound : Sound g) (liveness : IsLiveness g live) (it : IsDiamond live most g d) where
  abbrev old : MixedGraph
  old = mixed_of g

  abbrev new : MixedGraph
  new = mixed_of (converted live g d)

  abbrev meet_old : ℕ → ℕ → Bool
  meet_old from to = stays d to

  abbrev meet_new : ℕ → ℕ → Bool
  meet_new from to = true

  abbrev pairs : ℕ → ℕ → Bool
  pairs b c = stays d b && (numbered d b == c)

  pair_of : (b : ℕ) → stays d b ≡ true → pairs b (numbered d b) ≡ true
  pair_of b h = both_true h (eq-eqb (numbered d b) (numbered d b) refl)

  yes_or_no : (to : ℕ) → (to ≡ d.yes) ⊎ (to ≡ d.no) → stays d to ≡ false
  yes_or_no to (inl e) = ap (stays d) e ∙ yes_goes d
  yes_or_no to (inr e) = ap (stays d) e ∙ no_goes d

  abbrev side_ops : Bool → List Op
  side_ops one = cond one d.left d.right

  abbrev side_of : Bool → ℕ
  side_of one = cond one d.yes d.no

  module _ (setting : Setting) (times : List ℕ) (latency : Op → ℕ) where
    abbrev H : ℕ → State → Hop
    H = hop setting times latency old

    hop_at : (b : ℕ) (k : Block) (s : State) → slice_get g.blocks b ≡ Some k → H b s ≡ block_hop setting b k.ops k.exit s
    hop_at b k s e = ap (λ z. node_hop setting (timed_from_start setting times latency) old b z s) (node_at g b k e)

    hop_none : (b : ℕ) (s : State) → slice_get g.blocks b ≡ None → H b s ≡ Wrong
    hop_none b s e = ap (λ z. node_hop setting (timed_from_start setting times latency) old b z s) (no_node b e)
      where
        no_node : (b : ℕ) → slice_get g.blocks b ≡ None → slice_get (mixed_of g).nodes b ≡ None
        no_node b e = slice_get-map Unused g.blocks b ∙ ap (option_map Unused) e

    side_hop : (one : Bool) (t : State) → H (side_of one) t ≡ Arrives (side_of one) d.join (steps (side_ops one) t)
    side_hop true t = hop_at d.yes _ t it.at_yes ∙ simple_whole setting d.yes d.left (Goto d.join) t (simple_left live most g d sound it)
    side_hop false t = hop_at d.no _ t it.at_no ∙ simple_whole setting d.no d.right (Goto d.join) t (simple_right live most g d sound it)

    split_hop : (s : State) → H d.block s ≡ and_then (run_ops setting d.before s) (leave d.block (Split d.test d.yes d.no))
    split_hop s = hop_at d.block _ s it.splits ∙ hop_own setting d.block d.before (Split d.test d.yes d.no) s

    -- what goes into a side comes to where they meet
    into_side : (to : ℕ) (t : State) → stays d to ≡ false → (w : State) × (H to t ≡ Arrives to d.join w)
    into_side to t h = elim (side_is d to h) [
      | inl e ↦ (steps d.left t, subst (λ x. H x t ≡ Arrives x d.join (steps d.left t)) (sym e) (side_hop true t))
      | inr e ↦ (steps d.right t, subst (λ x. H x t ≡ Arrives x d.join (steps d.right t)) (sym e) (side_hop false t))
    ]

    ends_by : (b : ℕ) (s : State) (h : Hop) → H b s ≡ h → (k : Hop) × Segment H meet_old b s k
    ends_by b s (Arrives from to t) e = by (stays d to) refl
      where
        by : (x : Bool) → stays d to ≡ x → (k : Hop) × Segment H meet_old b s k
        by true q = (Arrives from to t, last e q)
        by false q = let w = into_side to t q in (Arrives to d.join w.0, on e q (last w.1 it.beyond))
    ends_by b s (Calls f ns result from next t) e = (Calls f ns result from next t, last e tt)
    ends_by b s (Leaves n t) e = (Leaves n t, last e tt)
    ends_by b s (Stops k t) e = (Stops k t, last e tt)
    ends_by b s Wrong e = (Wrong, last e tt)

    -- ---- a block that is not the one that splits

    same_exit : (x : Exit) → ((c : ℕ) → IsIn c (targets_of x) → stays d c ≡ true) → Renamed pairs x (led (numbered d) x)
    same_exit (Goto c) f = goto (pair_of c (f c (inl refl)))
    same_exit (Split p c e) f = branch (pair_of c (f c (inl refl))) (pair_of e (f e (inr (inl refl))))
    same_exit (Call k arguments result c) f = call (pair_of c (f c (inl refl)))
    same_exit (Return x) f = return
    same_exit (Ends k) f = stop

    targets_stay : (b : ℕ) (k : Block) → slice_get g.blocks b ≡ Some k → (b ≡ d.block → ⊥) → (c : ℕ) → IsIn c (targets_of k.exit) → stays d c ≡ true
    targets_stay b k has n c m = by (stays d c) refl
      where
        by : (x : Bool) → stays d c ≡ x → x ≡ true
        by true e = refl
        by false e = absurd (n (it.alone b c (record { block = k; has = has; leads = m }) e))

    new_node : (b : ℕ) (k : Block) → stays d b ≡ true → slice_get g.blocks b ≡ Some k → slice_get new.nodes (numbered d b) ≡ Some (Unused (changed live g d b k))
    new_node b k h has = node_at (converted live g d) (numbered d b) (changed live g d b k) (block_at live g d b h ∙ ap (option_map (changed live g d b)) has)

    abbrev as_it_is : Block → Block
    as_it_is k = record { ops = k.ops; exit = led (numbered d) k.exit }

    outside : (b b' : ℕ) (k : Block) → stays d b ≡ true → numbered d b ≡ b' → (b ≡ d.block → ⊥) → slice_get g.blocks b ≡ Some k → Outside latency old new meet_old meet_new pairs b b'
    outside b b' k h e n has =
        let stay = targets_stay b k has n in
        let same : changed live g d b k ≡ as_it_is k = ap (λ x. cond x (record { ops = d.before ++ both_sides live g d; exit = Goto (numbered d d.join) }) (as_it_is k)) (not_eqb b d.block n) in
        block k.ops k.exit (led (numbered d) k.exit) (node_at g b k has)
        (subst (λ x. slice_get new.nodes x ≡ Some (Unused (as_it_is k))) e (new_node b k h has ∙ ap (λ x. Some (Unused x)) same))
        (same_exit k.exit stay) stay (λ c m. refl)

    -- ---- the block that splits

    abbrev any : ℕ → ℕ → Bool
    any from to = true

    alike_self : (b : ℕ) (k : Block) (s t : State) → slice_get g.blocks b ≡ Some k → Agree (Live old b) s t → Alike old is_same (H b s) (H b t)
    alike_self b k s t has a =
        let itself : Outside latency old old any any is_same b b = block k.ops k.exit k.exit (node_at g b k has) (node_at g b k has) (renamed k.exit) (λ c m. refl) (λ c m. refl) in
        let r = unchanged setting latency old old any any is_same b b times times s t a itself (H b s) (last refl (ends_any (H b s))) in
        subst (Alike old is_same (H b s)) (sym (only r.0 r.1)) r.2
      where
        same : (c : ℕ) → is_same c c ≡ true
        same c = eq-eqb c c refl

        renamed : (x : Exit) → Renamed is_same x x
        renamed (Goto c) = goto (same c)
        renamed (Split p c e) = branch (same c) (same e)
        renamed (Call f arguments result c) = call (same c)
        renamed (Return x) = return
        renamed (Ends k) = stop

        ends_any : (h : Hop) → EndsAt any h
        ends_any (Arrives from to u) = refl
        ends_any (Calls f ns result from next u) = tt
        ends_any (Leaves n u) = tt
        ends_any (Stops k u) = tt
        ends_any Wrong = tt

        only : (h : Hop) → Segment H any b t h → H b t ≡ h
        only h (last e m) = e
        only h (on e m rest) = absurd (false≢true (sym m))

    -- the old block and then a side
    record Went (s : State) (h : Hop) : Type 0 where
      one : Bool
      number : ℤ
      state : State
      first : H d.block s ≡ Arrives d.block (side_of one) state
      ran : run_ops setting d.before s ≡ Some state
      tested : state.values d.test ≡ Some number
      answer : is_one number ≡ one
      is : h ≡ Arrives (side_of one) d.join (steps (side_ops one) state)

    first_is : (s : State) (one : Bool) (z : ℤ) (t : State) → run_ops setting d.before s ≡ Some t → t.values d.test ≡ Some z → is_one z ≡ one → H d.block s ≡ Arrives d.block (side_of one) t
    first_is s one z t r v a =
        split_hop s ∙ ap (λ o. and_then o (leave d.block (Split d.test d.yes d.no))) r ∙ ap (λ c. by_test c (Arrives d.block d.yes t) (Arrives d.block d.no t)) v
        ∙ ap (λ x. cond x (Arrives d.block d.yes t) (Arrives d.block d.no t)) a ∙ either one
      where
        either : (x : Bool) → cond x (Arrives d.block d.yes t) (Arrives d.block d.no t) ≡ Arrives d.block (side_of x) t
        either true = refl
        either false = refl

    side_never : (one : Bool) (w : State) (p q : ℕ) (t : State) → Arrives (side_of one) d.join w ≡ Arrives p q t → meet_old p q ≡ false → ⊥
    side_never one w p q t e m = let a : q ≡ d.join = arrives_to (side_of one) d.join p q w t e in false≢true (sym m ∙ ap (stays d) a ∙ it.beyond)

    went : (s : State) (h : Hop) → h ≢ Wrong → Segment H meet_old d.block s h → Went s h
    went s h n (last e m) = by (splits_or_wrong d.block d.test d.yes d.no (run_ops setting d.before s) h (sym (split_hop s) ∙ e))
      where
        by : (h ≡ Wrong) ⊎ ((to : ℕ) × (t : State) × (h ≡ Arrives d.block to t) × ((to ≡ d.yes) ⊎ (to ≡ d.no))) → Went s h
        by (inl q) = absurd (n q)
        by (inr q) = let k : stays d q.0 ≡ true = subst (EndsAt meet_old) q.2 m in absurd (false≢true (sym (yes_or_no q.0 q.3) ∙ k))
    went s h n (on {from = from} {to = to} {t = t} e m rest) =
        let sp = splits_by d.block d.test d.yes d.no from to (run_ops setting d.before s) t (sym (split_hop s) ∙ e) in
        let later : Segment H meet_old (side_of sp.one) t h = subst (λ x. Segment H meet_old x t h) sp.goes rest in
        let end : Arrives (side_of sp.one) d.join (steps (side_ops sp.one) t) ≡ h =
        is_whole setting times latency old meet_old (side_of sp.one) t (Arrives (side_of sp.one) d.join (steps (side_ops sp.one) t)) h (side_hop sp.one t) (side_never sp.one (steps (side_ops sp.one) t)) later in
        record { one = sp.one; number = sp.number; state = t; first = first_is s sp.one sp.number t sp.ran sp.tested sp.answer; ran = sp.ran; tested = sp.tested; answer = sp.answer; is = sym end }

    -- from a state that agrees
    record Too (one : Bool) (u t : State) : Type 0 where
      other : Bool
      number : ℤ
      state : State
      ran : run_ops setting d.before t ≡ Some state
      tested : state.values d.test ≡ Some number
      answer : is_one number ≡ other
      agree : Agree (Live old d.join) (steps (side_ops one) u) (steps (side_ops other) state)
      world : SameWorld u state

    too : (s t u : State) (one : Bool) → H d.block s ≡ Arrives d.block (side_of one) u → Agree (Live old d.block) s t → Too one u t
    too s t u one e a = by (splits_or_wrong d.block d.test d.yes d.no (run_ops setting d.before t) (H d.block t) (sym (split_hop t)))
      where
        like : Alike old is_same (Arrives d.block (side_of one) u) (H d.block t)
        like = subst (λ x. Alike old is_same x (H d.block t)) e (alike_self d.block _ s t it.splits a)

        block_of : (x : Bool) → (k : Block) × (slice_get g.blocks (side_of x) ≡ Some k)
        block_of true = (record { ops = d.left; exit = Goto d.join }, it.at_yes)
        block_of false = (record { ops = d.right; exit = Goto d.join }, it.at_no)

        by : (H d.block t ≡ Wrong) ⊎ ((to : ℕ) × (w : State) × (H d.block t ≡ Arrives d.block to w) × ((to ≡ d.yes) ⊎ (to ≡ d.no))) → Too one u t
        by (inl q) = absurd (subst (Alike old is_same (Arrives d.block (side_of one) u)) q like)
        by (inr q) =
            let near : Alike old is_same (Arrives d.block (side_of one) u) (Arrives d.block q.0 q.1) = subst (Alike old is_same (Arrives d.block (side_of one) u)) q.2 like in
            let sp = splits_by d.block d.test d.yes d.no d.block q.0 (run_ops setting d.before t) q.1 (sym (split_hop t) ∙ q.2) in
            let same : side_of one ≡ side_of sp.one = eqb-true (side_of one) q.0 near.0 ∙ sp.goes in
            let k = block_of one in
            let second : Alike old is_same (H (side_of one) u) (H (side_of one) q.1) = alike_self (side_of one) k.0 u q.1 k.1 near.1 in
            let there : H (side_of one) q.1 ≡ Arrives (side_of sp.one) d.join (steps (side_ops sp.one) q.1) = ap (λ x. H x q.1) same ∙ side_hop sp.one q.1 in
            let both : Alike old is_same (Arrives (side_of one) d.join (steps (side_ops one) u)) (Arrives (side_of sp.one) d.join (steps (side_ops sp.one) q.1)) =
            subst (λ x. Alike old is_same x (Arrives (side_of sp.one) d.join (steps (side_ops sp.one) q.1))) (side_hop one u) (subst (Alike old is_same (H (side_of one) u)) there second) in
            record { other = sp.one; number = sp.number; state = q.1; ran = sp.ran; tested = sp.tested; answer = sp.answer; agree = both.1; world = near.1.world }

  split_stays : stays d d.block ≡ true
  split_stays = by (stays d d.block) refl
    where
      goto_or : (b : ℕ) → (b ≡ d.yes) ⊎ (b ≡ d.no) → (ops : List Op) × (slice_get g.blocks b ≡ Some (record { ops = ops; exit = Goto d.join }))
      goto_or b (inl e) = (d.left, ap (slice_get g.blocks) e ∙ it.at_yes)
      goto_or b (inr e) = (d.right, ap (slice_get g.blocks) e ∙ it.at_no)

      no_goto : (ops : List Op) → slice_get g.blocks d.block ≡ Some (record { ops = ops; exit = Goto d.join }) → ⊥
      no_goto ops e = goto_split (ap exit_of (sym e ∙ it.splits))
        where
          exit_of : Option Block → Exit
          exit_of None = Goto 0
          exit_of (Some k) = k.exit

          goto_split : Goto d.join ≡ Split d.test d.yes d.no → ⊥
          goto_split q = cc

      by : (x : Bool) → stays d d.block ≡ x → x ≡ true
      by true e = refl
      by false e = let q = goto_or d.block (side_is d d.block e) in absurd (no_goto q.0 q.1)

  module _ (setting : Setting) (latency : Op → ℕ) (times times' : List ℕ) where
    changed_block : changed live g d d.block (record { ops = d.before; exit = Split d.test d.yes d.no }) ≡ record { ops = d.before ++ both_sides live g d; exit = Goto (numbered d d.join) }
    changed_block = ap (λ x. cond x (record { ops = d.before ++ both_sides live g d; exit = Goto (numbered d d.join) }) (record { ops = d.before; exit = Split d.test (numbered d d.yes) (numbered d d.no) })) (eq-eqb d.block d.block refl)

    new_hop : (t u : State) → run_ops setting d.before t ≡ Some u → hop setting times' latency new (numbered d d.block) t ≡ Arrives (numbered d d.block) (numbered d d.join) (steps (both_sides live g d) u)
    new_hop t u r =
        ap (λ z. node_hop setting (timed_from_start setting times' latency) new (numbered d d.block) z t) (new_node setting times latency d.block _ split_stays it.splits ∙ ap (λ x. Some (Unused x)) changed_block)
        ∙ hop_more setting (numbered d d.block) d.before (both_sides live g d) (Goto (numbered d d.join)) t
        ∙ ap (λ o. and_then o (block_hop setting (numbered d d.block) (both_sides live g d) (Goto (numbered d d.join)))) r
        ∙ simple_whole setting (numbered d d.block) (both_sides live g d) (Goto (numbered d d.join)) u (all_simple live most g d sound it)

    pick : (one : Bool) (x y : State) (v : ℕ) → cond one (x.values v) (y.values v) ≡ (cond one x y).values v
    pick true x y v = refl
    pick false x y v = refl

    side_steps : (one : Bool) (u : State) → cond one (steps d.left u) (steps d.right u) ≡ steps (side_ops one) u
    side_steps true u = refl
    side_steps false u = refl

    -- behind the new block what is live is as behind the old side
    new_agrees : (one : Bool) (z : ℤ) (u : State) → u.values d.test ≡ Some z → is_one z ≡ one → Agree (Live old d.join) (steps (side_ops one) u) (steps (both_sides live g d) u)
    new_agrees one z u e a =
        let w = steps_world (side_ops one) u in
        let w' = steps_world (both_sides live g d) u in
        record {
          world = record { arrays = w'.arrays ∙ sym w.arrays; input = w'.input ∙ sym w.input; out = w'.out ∙ sym w.out };
          values = λ v n l q.
              joined_same live most g d sound it u z e v ((liveness d.join v).1 (live_is g d.join v l)) ∙ ap (λ x. cond x ((steps d.left u).values v) ((steps d.right u).values v)) a
              ∙ pick one (steps d.left u) (steps d.right u) v ∙ ap (λ (x : State). x.values v) (side_steps one u) ∙ q;
        }

    agree_on : (s t u : State) → Agree (Live old d.join) s t → Agree (Live old d.join) t u → Agree (Live old d.join) s u
    agree_on s t u a b = record {
      world = record { arrays = b.world.arrays ∙ a.world.arrays; input = b.world.input ∙ a.world.input; out = b.world.out ∙ a.world.out };
      values = λ v n l e. b.values v n l (a.values v n l e);
    }

    split_leads : (s t : State) (h : Hop) → Agree (Live old d.block) s t → Segment (hop setting times latency old) meet_old d.block s h → h ≢ Wrong →
        (h' : Hop) × Segment (hop setting times' latency new) meet_new (numbered d d.block) t h' × Alike old pairs h h'
    split_leads s t h a seg n =
        let w = went setting times latency s h n seg in
        let q = too setting times latency s t w.state w.one w.first a in
        let e = new_hop t q.state q.ran in
        let near = agree_on (steps (side_ops w.one) w.state) (steps (side_ops q.other) q.state) (steps (both_sides live g d) q.state) q.agree (new_agrees q.other q.number q.state q.tested q.answer) in
        let h' : Hop = Arrives (numbered d d.block) (numbered d d.join) (steps (both_sides live g d) q.state) in
        (h', last e refl, subst (λ x. Alike old pairs x h') (sym w.is) (pair_of d.join it.beyond, near))

    other_leads : (b b' : ℕ) (s t : State) (h : Hop) → pairs b b' ≡ true → (b ≡ d.block → ⊥) → Agree (Live old b) s t → Segment (hop setting times latency old) meet_old b s h → h ≢ Wrong → (o : Option Block) → slice_get g.blocks b ≡ o →
        (h' : Hop) × Segment (hop setting times' latency new) meet_new b' t h' × Alike old pairs h h'
    other_leads b b' s t h p n a seg w None e = absurd (w (sym (is_whole setting times latency old meet_old b s Wrong h (hop_none setting times latency b s e) (λ x y u q m. wrong_not x y u q) seg)))
      where
        wrong_not : (x y : ℕ) (u : State) → Wrong ≡ Arrives x y u → ⊥
        wrong_not x y u q = cc
    other_leads b b' s t h p n a seg w (Some k) e =
        let (x, y) = and_parts (stays d b) (numbered d b == b') p in
        unchanged setting latency old new meet_old meet_new pairs b b' times times' s t a (outside setting times latency b b' k x (eqb-true (numbered d b) b' y) n e) h seg

    all_leads : (b b' : ℕ) (s t : State) (h : Hop) → pairs b b' ≡ true → Agree (Live old b) s t → Segment (hop setting times latency old) meet_old b s h → h ≢ Wrong →
        (h' : Hop) × Segment (hop setting times' latency new) meet_new b' t h' × Alike old pairs h h'
    all_leads b b' s t h p a seg w = by (b == d.block) refl
      where
        by : (x : Bool) → (b == d.block) ≡ x → (h' : Hop) × Segment (hop setting times' latency new) meet_new b' t h' × Alike old pairs h h'
        by true e =
            let q : b ≡ d.block = eqb-true b d.block e in
            let (x, y) = and_parts (stays d b) (numbered d b == b') p in
            let number : numbered d d.block ≡ b' = ap (numbered d) (sym q) ∙ eqb-true (numbered d b) b' y in
            subst (λ c. (h' : Hop) × Segment (hop setting times' latency new) meet_new c t h' × Alike old pairs h h') number
            (split_leads s t h (subst (λ c. Agree (Live old c) s t) q a) (subst (λ c. Segment (hop setting times latency old) meet_old c s h) q seg) w)
        by false e = other_leads b b' s t h p (λ q. false≢true (sym e ∙ eq-eqb b d.block q)) a seg w (slice_get g.blocks b) refl

  pub same_meaning : (latency : Op → ℕ) → SameMeaning latency old new meet_old meet_new pairs
  same_meaning latency = record {
    start = pair_of 0 it.entry;
    ends = λ setting times b b' s p. ends_by setting times latency b s (hop setting times latency old b s) refl;
    leads = λ setting times times' b b' s t h far some some' p a seg w. all_leads setting latency times times' b b' s t h p a seg w;
  }
