-- A block under names leaves the new state as the old block leaves the old one.
use Rattle.std.proofs.Common.{◌≡◌, inl, ℕ, zero, suc, ◌+◌, Bool, true, false, cond, List, [], ◌∷◌, ◌++◌, map, drop, slice_get, Option, Some, None, refl, sym, ap, ◌∙◌, subst, arith}
use Rattle.std.proofs.lemmas.Bool.{and_parts}
use Rattle.std.specs.List.{flat_map}
use Rattle.std.specs.Prelude.{◌&&◌}
use Rattle.std.specs.Option.{option_map}
use Rattle.vx_flow.specs.declared.graph.Op.{Op}
use Rattle.vx_flow.specs.declared.graph.Exit.{Exit}
use Rattle.vx_flow.specs.declared.graph.Exit.TheVariants.{Goto, Split, Call, Return, Ends}
use Rattle.vx_flow.specs.declared.graph.Block.{Block}
use Rattle.vx_flow.specs.Effects.{State, Setting, held, effect, value_in, reads}
use Rattle.vx_flow.specs.Operands.{written_by, with_value_in}
use Rattle.vx_flow.specs.Meaning.{Hop, known, leave, and_then, block_hop, hop_of, with_result}
use Rattle.vx_flow.specs.Agree.{SameWorld}
use Rattle.vx_rename.specs.declared.names.BlockNames.{BlockNames}
use Rattle.vx_rename.specs.Renaming.{Standing, place_if, put_if, starting, source_of, is_there, renamed_op, renamed_one, renamed_result, renamed_exit, first_name, behind_op, behind, op_if, renamed_ops, ending, leaving, renamed_block, renamed_blocks, all_stand, op_stands, ops_stand, carries, exit_stands, block_stands, blocks_stand}
use Rattle.vx_rename.proofs.Standings.{Tied, tied_result, AllAt, carried, start_tied}
use Rattle.vx_rename.proofs.OpsTied.{knows, seen_refined, known_seen, Done, op_tied, left_tied, move_tied}
use Rattle.vx_rename.proofs.RunsTied.{Agreeing, Alikes, wrong, arrives, stopped, test_alike, calls_alike, leaves_alike}

module _ (at : ℕ → BlockNames) where
  -- at the start of each block old values are at their names
  abbrev pub Stands : Agreeing
  Stands c x y = AllAt (at c).start x y

  -- ---- exits

  pub exit_tied : (n : Standing) (w b : ℕ) (exit : Exit) (s t : State) → SameWorld s t → Tied n s.values t.values → exit_stands at n w exit ≡ true → Alikes Stands (leave b exit s) (leave b (renamed_exit n.name w exit) t)
  exit_tied n w b (Goto c) s t same tied h =
      let next = and_parts (carries n (at c).start) true h in
      arrives same (carried n (at c).start s.values t.values tied next.0)
  exit_tied n w b (Split p c d) s t same tied h =
      let k = and_parts (all_stand n (p ∷ [])) (carries n (at c).start && (carries n (at d).start && true)) h in
      let first = and_parts (carries n (at c).start) (carries n (at d).start && true) k.1 in
      let second = and_parts (carries n (at d).start) true first.1 in
      test_alike Stands b c d s t (s.values p) (t.values (n.name p)) (knows n (p ∷ []) s t tied k.0 p (inl refl)) same (carried n (at c).start s.values t.values tied first.0) (carried n (at d).start s.values t.values tied second.0)
  exit_tied n w b (Call f arguments result c) s t same tied h =
      let k = and_parts (all_stand n (flat_map value_in arguments)) (carries (put_if n result w) (at c).start && true) h in
      let next = and_parts (carries (put_if n result w) (at c).start) true k.1 in
      calls_alike Stands f b c result (renamed_result w result) s t (known (map (held s) arguments)) (known (map (held t) (map (with_value_in n.name) arguments)))
      (known_seen n.name s t arguments (knows n (flat_map value_in arguments) s t tied k.0)) same
      (λ m. carried (put_if n result w) (at c).start (with_result s.values result m) (with_result t.values (renamed_result w result) m) (tied_result n result w s.values t.values m tied) next.0)
  exit_tied n w b (Return x) s t same tied h =
      let k = and_parts (all_stand n (value_in x)) true h in
      leaves_alike Stands s t (held s x) (held t (with_value_in n.name x)) (seen_refined n.name s t x (knows n (value_in x) s t tied k.0)) same
  exit_tied n w b (Ends k) s t same tied h = stopped same

  -- ---- operations, and then the exit

  then_tied : (n : Standing) (o o' : Option State) (f g : State → Hop) → ((s' : State) → o ≡ Some s' → Done n s' o') → ((s' t' : State) → SameWorld s' t' → Tied n s'.values t'.values → Alikes Stands (f s') (g t')) → Alikes Stands (and_then o f) (and_then o' g)
  then_tied n None o' f g d k = wrong
  then_tied n (Some s') o' f g d k = let done = d s' refl in subst (λ q. Alikes Stands (f s') (and_then q g)) (sym done.is) (k s' done.state done.world done.tied)

  then_left : (o : Option State) (f : State → Hop) (h : Hop) → ((s' : State) → o ≡ Some s' → Alikes Stands (f s') h) → Alikes Stands (and_then o f) h
  then_left None f h k = wrong
  then_left (Some s') f h k = k s' refl

  -- one operation, then the others with the exit
  one_tied : (n : Standing) (w : Option ℕ) (setting : Setting) (b : ℕ) (op : Op) (ops new : List Op) (exit made : Exit) → op_stands n w op ≡ true → (s t : State) → SameWorld s t → Tied n s.values t.values →
      ((s' t' : State) → SameWorld s' t' → Tied (behind_op n w op) s'.values t'.values → Alikes Stands (block_hop setting b ops exit s') (block_hop setting b new made t')) →
      Alikes Stands (block_hop setting b (op ∷ ops) exit s) (block_hop setting b (op_if (renamed_one n w op) ++ new) made t)
  one_tied n None setting b op ops new exit made h s t same tied rest =
      then_left (effect setting s op s) (block_hop setting b ops exit) (block_hop setting b new made t)
      (λ s' e. (let k = left_tied n setting op s t s' h same tied e in rest s' t k.0 k.1))
  one_tied n (Some w) setting b op ops new exit made h s t same tied rest = by (is_there n w (source_of op)) refl rest
    where
      by : (there : Bool) → is_there n w (source_of op) ≡ there →
          ((s' t' : State) → SameWorld s' t' → Tied (cond there (place_if n (written_by op) w) (put_if n (written_by op) w)) s'.values t'.values → Alikes Stands (block_hop setting b ops exit s') (block_hop setting b new made t')) →
          Alikes Stands (block_hop setting b (op ∷ ops) exit s) (block_hop setting b (op_if (cond there None (Some (renamed_op n.name w op))) ++ new) made t)
      by true q on =
          then_left (effect setting s op s) (block_hop setting b ops exit) (block_hop setting b new made t)
          (λ s' e. (let k = move_tied n w setting op s t s' q same tied e in on s' t k.0 k.1))
      by false q on =
          then_tied (put_if n (written_by op) w) (effect setting s op s) (effect setting t (renamed_op n.name w op) t) (block_hop setting b ops exit) (block_hop setting b new made)
          (λ s' e. op_tied n w setting op s t s' same tied (knows n (reads op) s t tied h) e) on

  ops_tied : (n : Standing) (ws : List (Option ℕ)) (w : ℕ) (setting : Setting) (b : ℕ) (ops : List Op) (exit : Exit) → ops_stand n ws ops ≡ true → exit_stands at (behind n ws ops) w exit ≡ true → (s t : State) → SameWorld s t → Tied n s.values t.values →
      Alikes Stands (block_hop setting b ops exit s) (block_hop setting b (renamed_ops n ws ops) (renamed_exit (behind n ws ops).name w exit) t)
  ops_tied n ws w setting b [] exit h k s t same tied = exit_tied n w b exit s t same tied k
  ops_tied n ws w setting b (op ∷ ops) exit h k s t same tied =
      let m : Standing = behind_op n (first_name ws) op in
      let parts = and_parts (op_stands n (first_name ws) op) (ops_stand m (drop 1 ws) ops) h in
      one_tied n (first_name ws) setting b op ops (renamed_ops m (drop 1 ws) ops) exit (renamed_exit (behind m (drop 1 ws) ops).name w exit) parts.0 s t same tied
      (λ s' t' same' tied'. ops_tied m (drop 1 ws) w setting b ops exit parts.1 k s' t' same' tied')

  pub block_tied : (n : ℕ → ℕ) (setting : Setting) (b : ℕ) (names : BlockNames) (block : Block) → block_stands at n names block ≡ true → (s t : State) → SameWorld s t → AllAt names.start s.values t.values →
      Alikes Stands (block_hop setting b block.ops block.exit s) (block_hop setting b (renamed_block n names block).ops (renamed_block n names block).exit t)
  block_tied n setting b names block h s t same all =
      let parts = and_parts (ops_stand (starting n names) names.written block.ops) (exit_stands at (ending n names block) names.result block.exit) h in
      ops_tied (starting n names) names.written names.result setting b block.ops block.exit parts.0 parts.1 s t same (start_tied n names s.values t.values all)

  -- ---- the block of a number

  -- what stood before it when it was made, and that it passes the test
  pub record Placed (n : ℕ → ℕ) (first : ℕ) (blocks : List Block) (i : ℕ) : Type 0 where
    pub from : ℕ → ℕ
    pub is : slice_get (renamed_blocks at n first blocks) i ≡ option_map (renamed_block from (at (first + i))) (slice_get blocks i)
    pub stand : blocks_stand at n first blocks ≡ true → (block : Block) → slice_get blocks i ≡ Some block → block_stands at from (at (first + i)) block ≡ true

  pub placed : (n : ℕ → ℕ) (first : ℕ) (blocks : List Block) (i : ℕ) → Placed n first blocks i
  placed n first [] i = record { from = n; is = refl; stand = λ h block e. absurd (cc) }
  placed n first (x ∷ blocks) zero =
      let j : first ≡ first + 0 = omega arith in
      record {
        from = n;
        is = ap (λ k. Option.Some (renamed_block n (at k) x)) j;
        stand = λ h block e. (let q : x ≡ block = cc in subst (λ k. block_stands at n (at k) block ≡ true) j (subst (λ y. block_stands at n (at first) y ≡ true) q (and_parts (block_stands at n (at first) x) (blocks_stand at (leaving n (at first) x) (first + 1) blocks) h).0));
      }
  placed n first (x ∷ blocks) (suc i) =
      let j : first + 1 + i ≡ first + suc i = omega arith in
      let p : Placed (leaving n (at first) x) (first + 1) blocks i = placed (leaving n (at first) x) (first + 1) blocks i in
      record {
        from = p.from;
        is = p.is ∙ ap (λ k. option_map (renamed_block p.from (at k)) (slice_get blocks i)) j;
        stand = λ h block e. subst (λ k. block_stands at p.from (at k) block ≡ true) j (p.stand (and_parts (block_stands at n (at first) x) (blocks_stand at (leaving n (at first) x) (first + 1) blocks) h).1 block e);
      }

  hop_tied : (n : ℕ → ℕ) (setting : Setting) (b : ℕ) (o : Option Block) → ((block : Block) → o ≡ Some block → block_stands at n (at b) block ≡ true) → (s t : State) → SameWorld s t → Stands b s.values t.values →
      Alikes Stands (hop_of setting b o s) (hop_of setting b (option_map (renamed_block n (at b)) o) t)
  hop_tied n setting b None h s t same all = wrong
  hop_tied n setting b (Some block) h s t same all = block_tied n setting b (at b) block (h block refl) s t same all

  pub hops_tied : (n : ℕ → ℕ) (setting : Setting) (blocks : List Block) (b : ℕ) → blocks_stand at n 0 blocks ≡ true → (s t : State) → SameWorld s t → Stands b s.values t.values →
      Alikes Stands (hop_of setting b (slice_get blocks b) s) (hop_of setting b (slice_get (renamed_blocks at n 0 blocks) b) t)
  hops_tied n setting blocks b h s t same all =
      let j : 0 + b ≡ b = omega arith in
      let p : Placed n 0 blocks b = placed n 0 blocks b in
      let e : slice_get (renamed_blocks at n 0 blocks) b ≡ option_map (renamed_block p.from (at b)) (slice_get blocks b) = p.is ∙ ap (λ k. option_map (renamed_block p.from (at k)) (slice_get blocks b)) j in
      subst (λ o. Alikes Stands (hop_of setting b (slice_get blocks b) s) (hop_of setting b o t)) (sym e)
      (hop_tied p.from setting b (slice_get blocks b) (λ block q. subst (λ k. block_stands at p.from (at k) block ≡ true) j (p.stand h block q)) s t same all)
