-- Two files of registers with writes in flight that come to the same: what two timings of one machine keep.
use Rattle.std.proofs.Common.{◌≡◌, ℕ, ◌+◌, ◌-◌, ◌≤◌, Bool, List, [], ◌∷◌, ◌++◌, sym, ap, ◌∙◌, cond, arith}
use Rattle.vx_base.specs.Flight.{Write, written, landed_in, flying_in}
use Rattle.vx_base.proofs.Settle.{Tells, Without, Apart, settled, settled_append, settles_in, apart_in, not_in_flight}
use Rattle.vx_base.proofs.Flight.{Each, apart_append}
use Rattle.vx_base.proofs.Certificate.{AllHot, hot_more, hot_append, hot_flying_in, cold_without}

-- the same writes, which may land at other times
abbrev pub SameWrites : {R N : Type 0} → List (Write R N) → List (Write R N) → Type 0
SameWrites [] [] = Unit {0}
SameWrites [] (u ∷ us) = ⊥
SameWrites (w ∷ ws) [] = ⊥
SameWrites (w ∷ ws) (u ∷ us) = (w.to ≡ u.to) × (w.number ≡ u.number) × SameWrites ws us

pub record FlightsTied {R N : Type 0} (same : R → R → Bool) (f : R → N) (ws : List (Write R N)) (g : R → N) (us : List (Write R N)) : Type 0 where
  pub apart_left : Apart ws
  pub apart_right : Apart us
  pub comes : (q : R) → settled same f ws q ≡ settled same g us q

module _ {R N : Type 0} where
  -- new writes to registers that are not in flight
  pub each_without : (ws new : List (Write R N)) → Each (λ n. Without n.to ws) new → Each (λ w. Without w.to new) ws
  each_without [] new h = tt
  each_without (w ∷ ws) new h = (heads new h, each_without ws new (tails new h))
    where
      heads : (ns : List (Write R N)) → Each (λ n. Without n.to (w ∷ ws)) ns → Without w.to ns
      heads [] h = tt
      heads (n ∷ ns) h = ((λ e. h.0.0 (sym e)), heads ns h.1)

      tails : (ns : List (Write R N)) → Each (λ n. Without n.to (w ∷ ws)) ns → Each (λ n. Without n.to ws) ns
      tails [] h = tt
      tails (n ∷ ns) h = (h.0.1, tails ns h.1)

  pub cold_each : (h : R → ℕ) (ws new : List (Write R N)) → AllHot h ws → Each (λ n. h n.to ≡ 0) new → Each (λ n. Without n.to ws) new
  cold_each h ws [] a z = tt
  cold_each h ws (n ∷ ns) a z = (cold_without h n.to ws a z.0, cold_each h ws ns a z.1)

  -- a word that takes k cycles keeps what the heat allows
  pub hot_issue : (h g : R → ℕ) (k : ℕ) (ws new : List (Write R N)) → ((r : R) → h r ≤ g r + k) → AllHot h ws → AllHot (λ r. g r + k) new → AllHot g (flying_in k (ws ++ new))
  hot_issue h g k ws new le a b =
      let up : R → ℕ = λ r. g r + k in
      hot_more (λ r. up r - k) g (flying_in k (ws ++ new)) (λ r. omega arith) (hot_flying_in k up (ws ++ new) (hot_append up ws new (hot_more h up ws le a) b))

module _ {R N : Type 0} (same : R → R → Bool) (tells : Tells same) where
  settled_same : (ws us : List (Write R N)) (f g : R → N) → SameWrites ws us → ((q : R) → f q ≡ g q) → (q : R) → settled same f ws q ≡ settled same g us q
  settled_same [] [] f g s h q = h q
  settled_same [] (u ∷ us) f g s h q = absurd s
  settled_same (w ∷ ws) [] f g s h q = absurd s
  settled_same (w ∷ ws) (u ∷ us) f g s h q =
      settled_same ws us (written same f w.to w.number) (written same g u.to u.number) s.2
      (λ p. ap (λ x. cond (same p w.to) w.number x) (h p) ∙ ap (λ x. cond (same p x) w.number (g p)) s.0 ∙ ap (λ x. cond (same p u.to) x (g p)) s.1)
      q

  -- a register in flight in neither holds the same in both
  pub tied_read : (f : R → N) (ws : List (Write R N)) (g : R → N) (us : List (Write R N)) (r : R) → FlightsTied same f ws g us → Without r ws → Without r us → f r ≡ g r
  tied_read f ws g us r t a b = sym (not_in_flight N same tells ws f r a) ∙ t.comes r ∙ not_in_flight N same tells us g r b

  -- a word whose writes are the same and go to registers that are in flight in neither
  pub tied_issue : (f : R → N) (ws : List (Write R N)) (g : R → N) (us new old : List (Write R N)) (k : ℕ) → FlightsTied same f ws g us → SameWrites new old → Apart new → Apart old → Each (λ n. Without n.to ws) new → Each (λ n. Without n.to us) old →
      FlightsTied same (landed_in same k f (ws ++ new)) (flying_in k (ws ++ new)) (landed_in same k g (us ++ old)) (flying_in k (us ++ old))
  tied_issue f ws g us new old k t s an ao fn fo =
      let a : Apart (ws ++ new) = apart_append ws new t.apart_left an (each_without ws new fn) in
      let b : Apart (us ++ old) = apart_append us old t.apart_right ao (each_without us old fo) in
      record {
        apart_left = apart_in N same tells k (ws ++ new) a;
        apart_right = apart_in N same tells k (us ++ old) b;
        comes = λ q.
            settles_in N same tells k (ws ++ new) a f q
            ∙ ap (λ h. h q) (settled_append N same tells ws new f)
            ∙ settled_same new old (settled same f ws) (settled same g us) s t.comes q
            ∙ ap (λ h. h q) (sym (settled_append N same tells us old g))
            ∙ sym (settles_in N same tells k (us ++ old) b g q);
      }
