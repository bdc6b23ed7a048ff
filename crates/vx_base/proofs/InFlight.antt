-- The path property alone shows that no run meets a register in flight: each write in flight is due to a word of the path.
use Rattle.std.proofs.Common.{◌≡◌, ℕ, zero, suc, ◌+◌, ◌≤◌, List, [], ◌∷◌, ◌++◌, sym, subst, arith, ⊎_elim, inl, inr}
use Rattle.std.specs.Prelude.{◌⊎◌}
use Rattle.vx_base.specs.Flight.{Write, flying, flying_in}
use Rattle.vx_base.specs.Paths.{After, first, more, Reached, NeverEarlyFrom}
use Rattle.vx_base.proofs.Settle.{Without}
use Rattle.vx_base.proofs.Flight.{Each, each_map, each_append, each_flying}

module _ {P R N : Type 0} (start : P) (Leads : P → P → Type 0) (cycles : P → ℕ) (Writes : P → R → ℕ → Type 0) where
  -- with so many cycles to go until the word at q is issued, the write was made by an earlier word of a path to q and
  -- lands within that word's latency
  pub record DueWith (q : P) (to_go : ℕ) (w : Write R N) : Type 0 where
    pub at : P
    pub latency : ℕ
    pub since : ℕ
    pub reached : Reached Leads start at
    pub wrote : Writes at w.to latency
    pub path : After Leads cycles at since q
    pub some : 1 ≤ w.left
    pub lands : w.left + since ≤ latency + to_go

  -- when the word at q is issued
  abbrev pub Due : P → List (Write R N) → Type 0
  Due q ws = Each (DueWith q 0) ws

  -- made by the word at p, to land within its latency
  pub record MadeAt (p : P) (w : Write R N) : Type 0 where
    pub latency : ℕ
    pub wrote : Writes p w.to latency
    pub some : 1 ≤ w.left
    pub lands : w.left ≤ latency

  -- or it is there at the next word
  abbrev pub MadeOrAtOnce : P → Write R N → Type 0
  MadeOrAtOnce p w = MadeAt p w ⊎ (w.left ≡ 1)

  one_less : (q : P) (k : ℕ) (w : Write R N) (n : ℕ) → DueWith q (suc k) w → w.left ≡ suc (suc n) → DueWith q k (record { to = w.to; number = w.number; left = suc n })
  one_less q k w n d e = record { at = d.at; latency = d.latency; since = d.since; reached = d.reached; wrote = d.wrote; path = d.path; some = omega arith; lands = let a = d.lands in omega arith }

  due_in : (q : P) (k : ℕ) (ws : List (Write R N)) → Each (DueWith q k) ws → Due q (flying_in k ws)
  due_in q zero ws h = h
  due_in q (suc k) ws h = due_in q k (flying ws) (each_flying (DueWith q (suc k)) (DueWith q k) (one_less q k) ws h)

  due_at_once : (q : P) (k : ℕ) (ws : List (Write R N)) → 1 ≤ k → Each (λ w. DueWith q k w ⊎ (w.left ≡ 1)) ws → Due q (flying_in k ws)
  due_at_once q zero ws some h = absurd (omega arith)
  due_at_once q (suc k) ws some h =
      due_in q k (flying ws) (each_flying (λ w. DueWith q (suc k) w ⊎ (w.left ≡ 1)) (DueWith q k)
      (λ w n d e. ⊎_elim (λ a. one_less q k w n a e) (λ a. absurd (omega arith)) d) ws h)

  -- the word at p is issued, and the next one at q
  pub due_issue : (p q : P) (k : ℕ) (ws new : List (Write R N)) → Reached Leads start p → Leads p q → cycles p ≡ k → 1 ≤ k → Due p ws → Each (MadeOrAtOnce p) new → Due q (flying_in k (ws ++ new))
  due_issue p q k ws new at e long some due made =
      due_at_once q k (ws ++ new) some (each_append (λ w. DueWith q k w ⊎ (w.left ≡ 1)) ws new
      (each_map (DueWith p 0) (λ w. DueWith q k w ⊎ (w.left ≡ 1)) (λ w d. inl (record { at = d.at; latency = d.latency; since = d.since + cycles p; reached = d.reached; wrote = d.wrote; path = more d.path e; some = d.some; lands = let a = d.lands in omega arith })) ws due)
      (each_map (MadeOrAtOnce p) (λ w. DueWith q k w ⊎ (w.left ≡ 1)) (λ w x. ⊎_elim (λ d. inl (record { at = p; latency = d.latency; since = cycles p; reached = at; wrote = d.wrote; path = first e; some = d.some; lands = let a = d.lands in omega arith })) (λ d. inr d) x) new made))

  -- a register that the word at q touches is not in flight
  pub due_without : (Touches : P → R → Type 0) → NeverEarlyFrom start Leads cycles Touches Writes → (q : P) (r : R) (ws : List (Write R N)) → Touches q r → Due q ws → Without r ws
  due_without Touches never q r [] t due = tt
  due_without Touches never q r (w ∷ ws) t due = (
    (λ e. let d = due.0 in
        let late = never d.at q w.to d.latency d.since d.reached d.wrote d.path (subst (Touches q) (sym e) t) in
        let some = d.some in
        let lands = d.lands in
        omega arith),
    due_without Touches never q r ws t due.1,
  )
