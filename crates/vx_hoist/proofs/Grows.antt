-- One block with more silent operations at its end, from states that agree on what is read.
use Rattle.std.proofs.Common.{◌≡◌, ℕ, ◌==◌, Bool, true, false, cond, ℤ, pos, List, [], ◌∷◌, ◌++◌, Option, Some, None, refl, sym, ap, ◌∙◌, subst}
use Rattle.std.proofs.lemmas.Bool.{and_parts, false≢true, eqb-true}
use Rattle.std.specs.List.{list_all}
use Rattle.vx_flow.specs.declared.graph.Op.{Op}
use Rattle.vx_flow.specs.declared.graph.Op.TheVariants.{Compute, Select, Place, Load, Base, PlaceIn}
use Rattle.vx_flow.specs.declared.graph.Exit.{Exit}
use Rattle.vx_flow.specs.declared.graph.Block.{Block}
use Rattle.vx_flow.specs.Effects.{Content, State, Setting, held, computed, chosen, place_of, place_by, row_of, cell_of, with_value, loaded, effect, reads}
use Rattle.vx_flow.specs.Live.{reads_of_exit}
use Rattle.vx_flow.specs.Meaning.{leave, and_then, block_hop, hop_of}
use Rattle.vx_flow.specs.Agree.{Agree}
use Rattle.vx_flow.proofs.EffectsAlike.{effect_alike}
use Rattle.vx_fold.specs.Thinning.{result_alone, is_unread, are_read}
use Rattle.vx_shape.proofs.Pairs.{At}
use Rattle.vx_shape.proofs.FlowsAlike.{Holds, Alikes, wrong}
use Rattle.vx_fold.proofs.Thins.{knows, exit_alike, then_alike}
use Rattle.vx_hoist.specs.Growing.{is_total, is_silent, BlockGrows}

module _ (unread : ℕ → Bool) where
  abbrev pub Lives : ℕ → Type 0
  Lives v = unread v ≡ false

  -- ---- an operation that is new

  written : (s t : State) (v : ℕ) (x : Content) → unread v ≡ true → Agree Lives s t → Agree Lives s (with_value t v x)
  written s t v x u a = record {
    world = record { arrays = a.world.arrays; input = a.world.input; out = a.world.out };
    values = λ w n live e. by w n live (w == v) refl (a.values w n live e);
  }
    where
      by : (w : ℕ) (n : ℤ) → Lives w → (same : Bool) → (w == v) ≡ same → t.values w ≡ Some n → cond same x (t.values w) ≡ Some n
      by w n live true q e = absurd (false≢true (sym live ∙ ap unread (eqb-true w v q) ∙ u))
      by w n live false q e = e

  pub record Added (s : State) (o : Option State) : Type 0 where
    pub state : State
    pub is : o ≡ Some state
    pub agree : Agree Lives s state

  added_value : (s t : State) (v : ℕ) (x : Content) → unread v ≡ true → Agree Lives s t → Added s (Some (with_value t v x))
  added_value s t v x u a = record { state = with_value t v x; is = refl; agree = written s t v x u a }

  added_load : (s t : State) (v : ℕ) (row : List Content) (i : Option ℕ) (dismissible : Bool) → dismissible ≡ true → unread v ≡ true → Agree Lives s t → Added s (loaded t v row i dismissible)
  added_load s t v row None true d u a = added_value s t v None u a
  added_load s t v row None false d u a = absurd (false≢true d)
  added_load s t v row (Some i) dismissible d u a = added_value s t v _ u a

  added : (setting : Setting) (op : Op) (s t : State) → is_total op ≡ true → is_unread unread (result_alone op) ≡ true → Agree Lives s t → Added s (effect setting t op t)
  added setting (Compute code v a b) s t h u g = added_value s t v (computed code (held t a) (held t b)) u g
  added setting (Select v p a b) s t h u g = added_value s t v (chosen (t.values p) (held t a) (held t b)) u g
  added setting (Place v a i) s t h u g = added_value s t v (place_of (held t i)) u g
  added setting (Load v a p dismissible) s t h u g = added_load s t v (row_of t (setting.spot a)) (cell_of setting t a p) dismissible h u g
  added setting (Base v a x) s t h u g = added_value s t v (Some (pos (setting.spot a))) u g
  added setting (PlaceIn v a w i) s t h u g = added_value s t v (place_by (t.values w) (held t i)) u g
  added setting op s t h u g = absurd (false≢true h)

  -- ---- operations, and then the exit

  end_alike : (setting : Setting) (b : ℕ) (ops : List Op) (exit : Exit) → list_all (is_silent unread) ops ≡ true → are_read unread (reads_of_exit exit) ≡ true → (s t : State) → Agree Lives s t →
      Alikes (Holds Lives) (leave b exit s) (block_hop setting b ops exit t)
  end_alike setting b [] exit h k s t a = exit_alike unread b exit s t k a
  end_alike setting b (op ∷ ops) exit h k s t a =
      let both = and_parts (is_silent unread op) (list_all (is_silent unread) ops) h in
      let silent = and_parts (is_total op) (is_unread unread (result_alone op)) both.0 in
      let d : Added s (effect setting t op t) = added setting op s t silent.0 silent.1 a in
      subst (λ q. Alikes (Holds Lives) (leave b exit s) (and_then q (block_hop setting b ops exit))) (sym d.is) (end_alike setting b ops exit both.1 k s d.state d.agree)

  ops_alike : (setting : Setting) (b : ℕ) (ops more : List Op) (exit : Exit) → list_all (λ op. are_read unread (reads op)) ops ≡ true → list_all (is_silent unread) more ≡ true → are_read unread (reads_of_exit exit) ≡ true →
      (s t : State) → Agree Lives s t → Alikes (Holds Lives) (block_hop setting b ops exit s) (block_hop setting b (ops ++ more) exit t)
  ops_alike setting b [] more exit h l k s t a = end_alike setting b more exit l k s t a
  ops_alike setting b (op ∷ ops) more exit h l k s t a =
      let both = and_parts (are_read unread (reads op)) (list_all (λ x. are_read unread (reads x)) ops) h in
      then_alike unread (effect setting s op s) (effect setting t op t) (block_hop setting b ops exit) (block_hop setting b (ops ++ more) exit)
      (λ s' q. effect_alike Lives setting op s t s t s' a.world a.world (knows unread (reads op) s t both.0 a) (λ v l m n i. a.values v n l i) q)
      (λ s' t' g. ops_alike setting b ops more exit both.1 l k s' t' g)

  pub block_alike : (setting : Setting) (b : ℕ) (old new : Block) → BlockGrows unread old new → (s t : State) → Agree Lives s t →
      Alikes (Holds Lives) (block_hop setting b old.ops old.exit s) (block_hop setting b new.ops new.exit t)
  block_alike setting b old new grows s t a =
      let both = and_parts (list_all (λ op. are_read unread (reads op)) old.ops) (are_read unread (reads_of_exit old.exit)) grows.reads in
      let made : Alikes (Holds Lives) (block_hop setting b old.ops old.exit s) (block_hop setting b (old.ops ++ grows.added) old.exit t) = ops_alike setting b old.ops grows.added old.exit both.0 grows.silent both.1 s t a in
      let ended : Alikes (Holds Lives) (block_hop setting b old.ops old.exit s) (block_hop setting b (old.ops ++ grows.added) new.exit t) = subst (λ e. Alikes (Holds Lives) (block_hop setting b old.ops old.exit s) (block_hop setting b (old.ops ++ grows.added) e t)) (sym grows.exit) made in
      subst (λ ops. Alikes (Holds Lives) (block_hop setting b old.ops old.exit s) (block_hop setting b ops new.exit t)) (sym grows.ops) ended

  pub at_alike : (setting : Setting) (b : ℕ) (o q : Option Block) → At (BlockGrows unread) o q → (s t : State) → Agree Lives s t → Alikes (Holds Lives) (hop_of setting b o s) (hop_of setting b q t)
  at_alike setting b None None g s t a = wrong
  at_alike setting b None (Some k) g s t a = absurd g
  at_alike setting b (Some x) None g s t a = absurd g
  at_alike setting b (Some x) (Some k) g s t a = block_alike setting b x k g s t a
