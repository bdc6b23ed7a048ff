-- One graph with two operations exchanged, and one as it is: its blocks leave alike from tied states.
use Rattle.std.proofs.Common.{◌≡◌, ◌⊎◌, inl, inr, ℕ, zero, suc, ◌==◌, Bool, true, false, cond, ℤ, List, [], ◌∷◌, map, slice_get, Option, Some, None, refl, sym, ap, subst}
use Rattle.std.proofs.lemmas.Bool.{false≢true}
use Rattle.std.specs.List.{flat_map}
use Rattle.vx_flow.specs.declared.graph.Op.{Op}
use Rattle.vx_flow.specs.declared.graph.Exit.{Exit}
use Rattle.vx_flow.specs.declared.graph.Exit.TheVariants.{Goto, Split, Call, Return, Ends}
use Rattle.vx_flow.specs.declared.graph.Block.{Block}
use Rattle.vx_flow.specs.declared.graph.Array.{Array}
use Rattle.vx_flow.specs.declared.graph.Graph.{Graph}
use Rattle.vx_flow.specs.Apart.{StandApart}
use Rattle.vx_flow.specs.Effects.{Content, State, Setting, held, effect, value_in, reads}
use Rattle.vx_flow.specs.Meaning.{Hop, known, with_result, at_entry, leave, and_then, block_hop, hop_of}
use Rattle.vx_flow.specs.Agree.{SameWorld, Agree}
use Rattle.vx_flow.proofs.EffectsAlike.{Knows, held_refined, known_refined, Done, effect_alike}
use Rattle.vx_shape.specs.Flows.{Each}
use Rattle.vx_shape.proofs.Pairs.{At, each_at}
use Rattle.vx_raise.specs.Exchanging.{exchanged_ops, exchanged_block, exchanged_blocks, exchanged, may_pass, can_exchange_ops, can_exchange_in, can_exchange}
use Rattle.vx_raise.proofs.Passing.{Always, agree_then, Turned, turned}
use Rattle.vx_raise.proofs.FlowsTied.{holding, Ties, wrong, arrives, stopped, test_tied, calls_tied, leaves_tied, GraphTied}

-- ---- states whose values agree throughout

abbrev pub all_tie : Setting → ℕ → State → State → Type 0
all_tie setting b s t = Agree Always s t

knows : (vs : List ℕ) (s t : State) → Agree Always s t → Knows vs s t
knows vs s t a v m n e = a.values v n tt e

back : (s t : State) (result : Option ℕ) → Agree Always s t → (n : ℤ) (x y : State) → SameWorld x y → Agree Always (holding x (with_result s.values result n)) (holding y (with_result t.values result n))
back s t None a n x y w = record { world = record { arrays = w.arrays; input = w.input; out = w.out }; values = a.values }
back s t (Some r) a n x y w = record { world = record { arrays = w.arrays; input = w.input; out = w.out }; values = λ v m l e. by v m (v == r) e }
  where
    by : (v : ℕ) (m : ℤ) (same : Bool) → cond same (Some n) (s.values v) ≡ Some m → cond same (Some n) (t.values v) ≡ Some m
    by v m true e = e
    by v m false e = a.values v m tt e

exit_tied : (setting : Setting) (i : ℕ) (exit : Exit) (s t : State) → Agree Always s t → Ties all_tie setting (leave i exit s) (leave i exit t)
exit_tied setting i (Goto c) s t a = arrives a.world a
exit_tied setting i (Split p c d) s t a = test_tied all_tie setting i c d s t (s.values p) (t.values p) (λ n e. a.values p n tt e) a.world a a
exit_tied setting i (Call f arguments result c) s t a =
    calls_tied all_tie setting f i c result s t (known (map (held s) arguments)) (known (map (held t) arguments)) (known_refined s t arguments (knows (flat_map value_in arguments) s t a)) a.world (back s t result a)
exit_tied setting i (Return x) s t a = leaves_tied all_tie setting s t (held s x) (held t x) (held_refined s t x (knows (value_in x) s t a)) a.world
exit_tied setting i (Ends k) s t a = stopped a.world

effect_same : (setting : Setting) (op : Op) (s t s' : State) → Agree Always s t → effect setting s op s ≡ Some s' → Done Always s' (effect setting t op t)
effect_same setting op s t s' a e = effect_alike Always setting op s t s t s' a.world a.world (knows (reads op) s t a) (λ v l m n f. a.values v n tt f) e

then_tied : (setting : Setting) (o o' : Option State) (f h : State → Hop) → ((s' : State) → o ≡ Some s' → Done Always s' o') → ((s' t' : State) → Agree Always s' t' → Ties all_tie setting (f s') (h t')) → Ties all_tie setting (and_then o f) (and_then o' h)
then_tied setting None o' f h d k = wrong
then_tied setting (Some s') o' f h d k = let done = d s' refl in subst (λ q. Ties all_tie setting (f s') (and_then q h)) (sym done.is) (k s' done.state done.agree)

same_ops : (setting : Setting) (i : ℕ) (ops : List Op) (exit : Exit) (s t : State) → Agree Always s t → Ties all_tie setting (block_hop setting i ops exit s) (block_hop setting i ops exit t)
same_ops setting i [] exit s t a = exit_tied setting i exit s t a
same_ops setting i (op ∷ ops) exit s t a =
    then_tied setting (effect setting s op s) (effect setting t op t) (block_hop setting i ops exit) (block_hop setting i ops exit) (λ s' e. effect_same setting op s t s' a e) (λ s' t' more. same_ops setting i ops exit s' t' more)

-- ---- exchanged

pair_tied : (arrays : List Array) (setting : Setting) (i : ℕ) (x y : Op) (ops : List Op) (exit : Exit) (s t : State) → StandApart arrays setting.spot → may_pass arrays x y ≡ true → Agree Always s t → Ties all_tie setting (block_hop setting i (x ∷ y ∷ ops) exit s) (block_hop setting i (y ∷ x ∷ ops) exit t)
pair_tied arrays setting i x y ops exit s t stand h a = first (effect setting s x s) refl
  where
    third : (s2 : State) (d : Turned setting x y s s2) (u : Done Always d.between (effect setting t y t)) (w : Done Always d.after (effect setting u.state x u.state)) → Ties all_tie setting (block_hop setting i ops exit s2) (block_hop setting i (y ∷ x ∷ ops) exit t)
    third s2 d u w =
        subst (λ o. Ties all_tie setting (block_hop setting i ops exit s2) (and_then o (block_hop setting i (x ∷ ops) exit))) (sym u.is)
        (subst (λ o. Ties all_tie setting (block_hop setting i ops exit s2) (and_then o (block_hop setting i ops exit))) (sym w.is)
        (same_ops setting i ops exit s2 w.state (agree_then s2 d.after w.state d.agree w.agree)))

    second : (s1 : State) → effect setting s x s ≡ Some s1 → (o : Option State) → effect setting s1 y s1 ≡ o → Ties all_tie setting (and_then o (block_hop setting i ops exit)) (block_hop setting i (y ∷ x ∷ ops) exit t)
    second s1 e None q = wrong
    second s1 e (Some s2) q =
        let d : Turned setting x y s s2 = turned arrays setting x y s s1 s2 stand h e q in
        let u : Done Always d.between (effect setting t y t) = effect_same setting y s t d.between a d.first in
        let w : Done Always d.after (effect setting u.state x u.state) = effect_same setting x d.between u.state d.after u.agree d.second in
        third s2 d u w

    first : (o : Option State) → effect setting s x s ≡ o → Ties all_tie setting (and_then o (block_hop setting i (y ∷ ops) exit)) (block_hop setting i (y ∷ x ∷ ops) exit t)
    first None e = wrong
    first (Some s1) e = second s1 e (effect setting s1 y s1) refl

ops_tied : (arrays : List Array) (setting : Setting) (i k : ℕ) (ops : List Op) (exit : Exit) (s t : State) → StandApart arrays setting.spot → can_exchange_ops arrays k ops ≡ true → Agree Always s t →
    Ties all_tie setting (block_hop setting i ops exit s) (block_hop setting i (exchanged_ops k ops) exit t)
ops_tied arrays setting i k [] exit s t stand h a = absurd (false≢true h)
ops_tied arrays setting i zero (x ∷ []) exit s t stand h a = absurd (false≢true h)
ops_tied arrays setting i zero (x ∷ y ∷ ops) exit s t stand h a = pair_tied arrays setting i x y ops exit s t stand h a
ops_tied arrays setting i (suc k) (x ∷ ops) exit s t stand h a =
    then_tied setting (effect setting s x s) (effect setting t x t) (block_hop setting i ops exit) (block_hop setting i (exchanged_ops k ops) exit) (λ s' e. effect_same setting x s t s' a e)
    (λ s' t' more. ops_tied arrays setting i k ops exit s' t' stand h more)

-- ---- blocks

-- the block is the old one, or that with two operations exchanged
abbrev pub BlockExchanged : List Array → ℕ → Block → Block → Type 0
BlockExchanged arrays k old new = (new ≡ old) ⊎ ((can_exchange_ops arrays k old.ops ≡ true) × (new ≡ exchanged_block k old))

blocks_themselves : (arrays : List Array) (k : ℕ) (blocks : List Block) → Each (BlockExchanged arrays k) blocks blocks
blocks_themselves arrays k [] = tt
blocks_themselves arrays k (block ∷ blocks) = (inl refl, blocks_themselves arrays k blocks)

pub each_exchanged : (arrays : List Array) (b k : ℕ) (blocks : List Block) → can_exchange_in arrays k (slice_get blocks b) ≡ true → Each (BlockExchanged arrays k) blocks (exchanged_blocks b k blocks)
each_exchanged arrays b k [] h = tt
each_exchanged arrays zero k (block ∷ blocks) h = (inr (h, refl), blocks_themselves arrays k blocks)
each_exchanged arrays (suc b) k (block ∷ blocks) h = (inl refl, each_exchanged arrays b k blocks h)

block_tied : (arrays : List Array) (setting : Setting) (i k : ℕ) (old new : Block) (s t : State) → StandApart arrays setting.spot → BlockExchanged arrays k old new → Agree Always s t → Ties all_tie setting (block_hop setting i old.ops old.exit s) (block_hop setting i new.ops new.exit t)
block_tied arrays setting i k old new s t stand (inl e) a = subst (λ (z : Block). Ties all_tie setting (block_hop setting i old.ops old.exit s) (block_hop setting i z.ops z.exit t)) (sym e) (same_ops setting i old.ops old.exit s t a)
block_tied arrays setting i k old new s t stand (inr d) a = subst (λ (z : Block). Ties all_tie setting (block_hop setting i old.ops old.exit s) (block_hop setting i z.ops z.exit t)) (sym d.1) (ops_tied arrays setting i k old.ops old.exit s t stand d.0 a)

at_tied : (arrays : List Array) (setting : Setting) (i k : ℕ) (o q : Option Block) → StandApart arrays setting.spot → At (BlockExchanged arrays k) o q → (s t : State) → Agree Always s t → Ties all_tie setting (hop_of setting i o s) (hop_of setting i q t)
at_tied arrays setting i k None None stand g s t a = wrong
at_tied arrays setting i k None (Some y) stand g s t a = absurd g
at_tied arrays setting i k (Some x) None stand g s t a = absurd g
at_tied arrays setting i k (Some x) (Some y) stand g s t a = block_tied arrays setting i k x y s t stand g a

entry_tied : (x y : State) (values : ℕ → Content) → SameWorld x y → Agree Always (holding x values) (holding y values)
entry_tied x y values w = record { world = record { arrays = w.arrays; input = w.input; out = w.out }; values = λ v n l e. e }

blocks_tied : (g h : Graph) (k : ℕ) (blocks : List Block) → h ≡ record g { blocks = blocks } → Each (BlockExchanged g.arrays k) g.blocks blocks → GraphTied all_tie g h
blocks_tied g h k blocks e each = record {
  blocks = blocks;
  is = e;
  entry = λ setting ns x y w. entry_tied x y (at_entry g.parameters ns) w;
  hops = λ setting i s t stand w a. subst (λ (o : Option Block). Ties all_tie setting (hop_of setting i (slice_get g.blocks i) s) (hop_of setting i o t)) (sym (ap (λ (z : Graph). slice_get z.blocks i) e)) (at_tied g.arrays setting i k (slice_get g.blocks i) (slice_get blocks i) stand (each_at (BlockExchanged g.arrays k) g.blocks blocks each i) s t a);
}

pub exchanged_tied : (g h : Graph) (b k : ℕ) → can_exchange g b k ≡ true → h ≡ exchanged g b k → GraphTied all_tie g h
exchanged_tied g h b k c e = blocks_tied g h k (exchanged_blocks b k g.blocks) e (each_exchanged g.arrays b k g.blocks c)

pub same_tied : (g h : Graph) → h ≡ g → GraphTied all_tie g h
same_tied g h e = blocks_tied g h 0 g.blocks e (blocks_themselves g.arrays 0 g.blocks)
