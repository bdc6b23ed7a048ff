-- A placement that meets the delays gives a replacement.
use Rattle.std.proofs.Common.{◌≡◌, ℕ, ◌+◌, ◌<◌, ◌≤◌, Bool, true, length, drop, refl, subst, ⊎_elim, inl, inr, arith}
use Rattle.std.specs.Prelude.{◌⊎◌}
use Rattle.vx_flow.specs.Apart.{StandApart}
use Rattle.vx_flow.specs.Effects.{Setting}
use Rattle.vx_flow.specs.declared.graph.Op.{Op}
use Rattle.vx_mixed.specs.declared.mixed.MixedGraph.{MixedGraph}
use Rattle.vx_motion.specs.Trace.{AfterOf}
use Rattle.vx_mixed.specs.Way.{item_latency}
use Rattle.vx_motion.specs.Replaced.{CellFacts, Join, Replaced}
use Rattle.vx_motion.specs.Rows.{below_join}
use Rattle.vx_motion.specs.Scheduled.{JoinEdge, Scheduled, Keeps, MotionLaw}
use Rattle.vx_mixed.specs.Settled.{HomesStay, InTime}
use Rattle.vx_motion.specs.Unchanged.{LiveWithin}
use Rattle.vx_mixed.specs.declared.replacement.Replacement.{Replacement}
use Rattle.vx_mixed.specs.Next.{next_mixed}
use Rattle.vx_mixed.specs.Entrances.{meet_old, meet_new, pairs}
use Rattle.vx_mixed.specs.Valid.{Valid}
use Rattle.vx_motion.proofs.SettledAfter.{settled_after, the_region}
use Rattle.vx_motion.proofs.Delays.{split_in_trace}
use Rattle.vx_motion.proofs.Rows.{cell_facts, row_facts}
use Rattle.vx_motion.proofs.Joins.{replacement_law, region_is_settled}
use Rattle.vx_motion.proofs.Kept.{liveness_kept}

module _ (latency : Op → ℕ) (old new : MixedGraph) (meet_old meet_new pairs : ℕ → ℕ → Bool) (r : Scheduled latency old new meet_old meet_new pairs) where
  cells : (setting : Setting) → StandApart old.arrays setting.spot → (q : ℕ) → q ≤ length r.items → ((q ≡ 0) ⊎ (r.joins q ≡ true)) → CellFacts setting (drop q r.items) (λ k. r.word (q + k))
  cells setting apart q le h = cell_facts setting r.items (item_latency latency) (AfterOf old r.items) r.never r.joins r.word r.mark (length r.reg.words) r.meets r.placed q le (r.apart setting apart q h)

  all_cells : (setting : Setting) → StandApart old.arrays setting.spot → CellFacts setting r.items r.word
  all_cells setting apart =
      let c = cells setting apart 0 (omega arith) (inl refl) in
      record {
        flow = λ s i o l lt a b. let x : 0 + i ≡ i = omega arith in let y : 0 + o ≡ o = omega arith in subst (λ z. r.word z < r.word o) x (subst (λ z. r.word (0 + i) < r.word z) y (c.flow s i o l lt a b));
        anti = λ s o k l lt a b. let x : 0 + o ≡ o = omega arith in let y : 0 + k ≡ k = omega arith in subst (λ z. r.word z ≤ r.word k) x (subst (λ z. r.word (0 + o) ≤ r.word z) y (c.anti s o k l lt a b));
        output = λ s i k l lt a b. let x : 0 + i ≡ i = omega arith in let y : 0 + k ≡ k = omega arith in subst (λ z. r.word z < r.word k) x (subst (λ z. r.word (0 + i) < r.word z) y (c.output s i k l lt a b));
      }

  join : (j j' : ℕ) → JoinEdge old new meet_old meet_new r.items r.end r.exit r.word r.mark r.n r.joins j j' → Join latency old new meet_old meet_new r.items r.end r.exit r.word r.mark r.n r.reg j j'
  join j j' e = record {
    place = e.place;
    inside = e.inside;
    rejoin = e.rejoin;
    low = ⊎_elim (λ z. omega arith) (λ x. let i = e.inside in let a = x.1 in let b = x.2 in let c = r.placed.inside x.0 (omega arith) in omega arith) e.least;
    plain = e.plain;
    path = e.path;
    clustered = e.clustered;
    above = e.above;
    splits_below = λ k le s. ⊎_elim (λ z. omega arith) (λ x.
        let a = x.1 in
        let b = x.2 in
        let h = r.meets x.0 k 1 (omega arith) (split_in_trace r.items k s) (below_join e.place e.is_join a le (inl s)) in
        omega arith) e.least;
    cells = λ setting apart. cells setting apart e.place e.inside (inr e.is_join);
    enters = e.enters;
  }

  pub replaced : Replaced latency old new meet_old meet_new pairs
  replaced = record {
    begins = r.begins;
    start = r.start;
    items = r.items;
    end = r.end;
    exit = r.exit;
    plain = r.plain;
    path = r.path;
    clustered = r.clustered;
    word = r.word;
    mark = r.mark;
    n = r.n;
    reg = r.reg;
    is_region = r.is_region;
    words = r.words;
    facts = λ setting apart. row_facts setting r.items (item_latency latency) (AfterOf old r.items) r.never r.joins r.word r.mark (length r.reg.words) r.meets r.placed (all_cells setting apart);
    drained = r.drained;
    loads = r.loads;
    leaves = r.leaves;
    last_exit = r.last_exit;
    last_meets = r.last_meets;
    entrances = λ b b' pair. ⊎_elim (λ x. inl x) (λ y. inr (⊎_elim (λ e. inl (join b b' e)) (λ o. inr o) y)) (r.entrances b b' pair);
  }

-- a replacement keeps all of it
module _ (latency : Op → ℕ) (old : MixedGraph) (r : Replacement) (valid : Valid old) (stay : HomesStay old.homes.clusters r.homes.clusters) (s : Scheduled latency old (next_mixed old r) (meet_old r) (meet_new old r) (pairs old r)) where
  abbrev New : MixedGraph
  New = next_mixed old r

  kept : LiveWithin old New (pairs old r)
  kept = (liveness_kept latency old New (meet_old r) (meet_new old r) (pairs old r) (replaced latency old New (meet_old r) (meet_new old r) (pairs old r) s)).0

  in_time : InTime latency s.reg
  unfolding replaced
  in_time = region_is_settled latency old New (meet_old r) (meet_new old r) (pairs old r) (replaced latency old New (meet_old r) (meet_new old r) (pairs old r) s)

  pub motion : Keeps latency old r
  motion = record {
    meaning = replacement_law latency old New (meet_old r) (meet_new old r) (pairs old r) (replaced latency old New (meet_old r) (meet_new old r) (pairs old r) s);
    live = kept;
    tidy = λ tidy b v start made copy live. let b' = s.starts b start made in tidy b'.0 v b'.2 b'.3 copy (kept b'.0 b v b'.1 live);
    settled = λ room is_room settled stand. settled_after latency old r valid stay room is_room settled stand (subst (InTime latency) (the_region old r s.n s.reg s.is_last s.is_region) in_time);
  }

pub motion_law : MotionLaw
motion_law latency old r valid stay s = motion latency old r valid stay s
