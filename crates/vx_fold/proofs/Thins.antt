-- One block without the operations whose results are not read, from states that agree on what is read.
use Rattle.std.proofs.Common.{◌≡◌, inl, ℕ, ◌==◌, ◌||◌, Bool, true, false, cond, ℤ, List, [], ◌∷◌, map, slice_index_or, Option, Some, None, refl, sym, ap, ◌∙◌, subst}
use Rattle.std.proofs.lemmas.Bool.{and_parts, false≢true, eqb-true}
use Rattle.std.specs.List.{list_all, flat_map}
use Rattle.std.specs.Prelude.{not}
use Rattle.vx_flow.specs.declared.graph.Op.{Op}
use Rattle.vx_flow.specs.declared.graph.Op.TheVariants.{Load, Store, Input, Text, Decimal}
use Rattle.vx_flow.specs.declared.graph.Exit.{Exit}
use Rattle.vx_flow.specs.declared.graph.Exit.TheVariants.{Goto, Split, Call, Return, Ends}
use Rattle.vx_flow.specs.Effects.{Content, State, Setting, IsIn, held, row_of, cell_of, with_value, loaded, effect, value_in, reads}
use Rattle.vx_flow.specs.Live.{reads_of_exit}
use Rattle.vx_flow.specs.Meaning.{Hop, known, leave, and_then, block_hop}
use Rattle.vx_flow.specs.Agree.{Agree}
use Rattle.vx_flow.proofs.EffectsAlike.{Knows, held_refined, known_refined, Done, effect_alike}
use Rattle.vx_flow.proofs.SoundLists.{all_in}
use Rattle.vx_shape.proofs.FlowsAlike.{Holds, holds_result, Alikes, wrong, arrives, stopped, test_alike, calls_alike, leaves_alike}
use Rattle.vx_fold.specs.Thinning.{result_alone, is_unread, op_unless, thinned_ops, are_read, reads_read}

module _ (unread : ℕ → Bool) where
  abbrev pub Lives : ℕ → Type 0
  Lives v = unread v ≡ false

  lives_by : (v : ℕ) → not (unread v) ≡ true → Lives v
  lives_by v h = by (unread v) h
    where
      by : (b : Bool) → not b ≡ true → b ≡ false
      by true e = absurd (false≢true e)
      by false e = refl

  read_lives : (vs : List ℕ) → are_read unread vs ≡ true → (v : ℕ) → IsIn v vs → Lives v
  read_lives vs h v m = lives_by v (all_in (λ u. not (unread u)) vs v h m)

  pub knows : (vs : List ℕ) (s t : State) → are_read unread vs ≡ true → Agree Lives s t → Knows vs s t
  knows vs s t h a v m n e = a.values v n (read_lives vs h v m) e

  -- ---- an operation that is left out

  written : (s t : State) (v : ℕ) (x : Content) → unread v ≡ true → Agree Lives s t → Agree Lives (with_value s v x) t
  written s t v x u a = record {
    world = record { arrays = a.world.arrays; input = a.world.input; out = a.world.out };
    values = λ w n live e. by w n live (w == v) refl e;
  }
    where
      by : (w : ℕ) (n : ℤ) → Lives w → (same : Bool) → (w == v) ≡ same → cond same x (s.values w) ≡ Some n → t.values w ≡ Some n
      by w n live true q e = absurd (false≢true (sym live ∙ ap unread (eqb-true w v q) ∙ u))
      by w n live false q e = a.values w n live e

  some_is : (s t : State) → Option.Some s ≡ Some t → s ≡ t
  some_is s t e = cc

  written_by : (s t s' : State) (v : ℕ) (x : Content) → unread v ≡ true → Agree Lives s t → Some (with_value s v x) ≡ Some s' → Agree Lives s' t
  written_by s t s' v x u a e = subst (λ q. Agree Lives q t) (some_is (with_value s v x) s' e) (written s t v x u a)

  loaded_by : (s t s' : State) (v : ℕ) (row : List Content) (i : Option ℕ) (dismissible : Bool) → unread v ≡ true → Agree Lives s t → loaded s v row i dismissible ≡ Some s' → Agree Lives s' t
  loaded_by s t s' v row None true u a e = written_by s t s' v None u a e
  loaded_by s t s' v row None false u a e = absurd (cc)
  loaded_by s t s' v row (Some i) dismissible u a e = written_by s t s' v (slice_index_or row i None) u a e

  dropped : (setting : Setting) (op : Op) (s t s' : State) → is_unread unread (result_alone op) ≡ true → Agree Lives s t → effect setting s op s ≡ Some s' → Agree Lives s' t
  dropped setting (Load v a p dismissible) s t s' u g e = loaded_by s t s' v (row_of s (setting.spot a)) (cell_of setting s a p) dismissible u g e
  dropped setting (Store a p x) s t s' u g e = absurd (false≢true u)
  dropped setting (Input v) s t s' u g e = absurd (false≢true u)
  dropped setting (Text n) s t s' u g e = absurd (false≢true u)
  dropped setting (Decimal x) s t s' u g e = absurd (false≢true u)
  dropped setting op s t s' u g e = written_by s t s' _ _ u g e

  -- ---- exits

  pub exit_alike : (b : ℕ) (exit : Exit) (s t : State) → are_read unread (reads_of_exit exit) ≡ true → Agree Lives s t → Alikes (Holds Lives) (leave b exit s) (leave b exit t)
  exit_alike b (Goto c) s t h a = arrives a.world a.values
  exit_alike b (Split p c d) s t h a = test_alike (Holds Lives) b c d s t (s.values p) (t.values p) (knows (p ∷ []) s t h a p (inl refl)) a.world a.values
  exit_alike b (Call f arguments result c) s t h a =
      calls_alike (Holds Lives) f b c result s t (known (map (held s) arguments)) (known (map (held t) arguments)) (known_refined s t arguments (knows (flat_map value_in arguments) s t h a))
      a.world (λ n. holds_result Lives s.values t.values result n a.values)
  exit_alike b (Return x) s t h a = leaves_alike (Holds Lives) s t (held s x) (held t x) (held_refined s t x (knows (value_in x) s t h a)) a.world
  exit_alike b (Ends k) s t h a = stopped a.world

  -- ---- operations, and then the exit

  then_dropped : (o : Option State) (f : State → Hop) (h : Hop) → ((s' : State) → o ≡ Some s' → Alikes (Holds Lives) (f s') h) → Alikes (Holds Lives) (and_then o f) h
  then_dropped None f h k = wrong
  then_dropped (Some s') f h k = k s' refl

  pub then_alike : (o o' : Option State) (f g : State → Hop) → ((s' : State) → o ≡ Some s' → Done Lives s' o') → ((s' t' : State) → Agree Lives s' t' → Alikes (Holds Lives) (f s') (g t')) → Alikes (Holds Lives) (and_then o f) (and_then o' g)
  then_alike None o' f g d k = wrong
  then_alike (Some s') o' f g d k = let done = d s' refl in subst (λ q. Alikes (Holds Lives) (f s') (and_then q g)) (sym done.is) (k s' done.state done.agree)

  read_if_kept : (op : Op) → is_unread unread (result_alone op) ≡ false → reads_read unread op ≡ true → are_read unread (reads op) ≡ true
  read_if_kept op n h = subst (λ b. (b || are_read unread (reads op)) ≡ true) n h

  pub ops_alike : (setting : Setting) (b : ℕ) (ops : List Op) (exit : Exit) → list_all (reads_read unread) ops ≡ true → are_read unread (reads_of_exit exit) ≡ true → (s t : State) → Agree Lives s t →
      Alikes (Holds Lives) (block_hop setting b ops exit s) (block_hop setting b (thinned_ops unread ops) exit t)
  ops_alike setting b [] exit h k s t a = exit_alike b exit s t k a
  ops_alike setting b (op ∷ ops) exit h k s t a = by (is_unread unread (result_alone op)) refl (ops_alike setting b ops exit (and_parts _ _ h).1 k)
    where
      by : (v : Bool) → is_unread unread (result_alone op) ≡ v → ((s' t' : State) → Agree Lives s' t' → Alikes (Holds Lives) (block_hop setting b ops exit s') (block_hop setting b (thinned_ops unread ops) exit t')) →
          Alikes (Holds Lives) (and_then (effect setting s op s) (block_hop setting b ops exit)) (block_hop setting b (op_unless v op (thinned_ops unread ops)) exit t)
      by true e rec = then_dropped (effect setting s op s) (block_hop setting b ops exit) (block_hop setting b (thinned_ops unread ops) exit t) (λ s' q. rec s' t (dropped setting op s t s' e a q))
      by false e rec =
          then_alike (effect setting s op s) (effect setting t op t) (block_hop setting b ops exit) (block_hop setting b (thinned_ops unread ops) exit)
          (λ s' q. effect_alike Lives setting op s t s t s' a.world a.world (knows (reads op) s t (read_if_kept op e (and_parts _ _ h).0) a) (λ v l m n i. a.values v n l i) q) rec
