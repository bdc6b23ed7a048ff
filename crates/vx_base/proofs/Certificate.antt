-- A map that says for each place how many cycles a write to a register may still need when its word is issued:
-- it shows that no word is early on any path, that no run meets a register in flight, and that any timing is alike.
use Rattle.std.proofs.Common.{◌≡◌, ℕ, zero, suc, ◌+◌, ◌-◌, ◌≤◌, Bool, List, [], ◌∷◌, ◌++◌, refl, ap, subst, arith}
use Rattle.vx_base.specs.Outcome.{Outcome, Step}
use Rattle.vx_base.specs.Flight.{Write, lands_or, flying, flying_in, InTime, landing_time}
use Rattle.vx_base.specs.Timed.{Given, Lands, AtOnce, Lost, Next, Over, On, delayed, Moment, issued, next_then, timed, timed_next, early}
use Rattle.vx_base.specs.Paths.{After, first, more, NeverEarly, Reached, beyond, NeverEarlyFrom}
use Rattle.vx_base.proofs.Settle.{Tells, Without}
use Rattle.vx_base.proofs.AnyTiming.{GivenApart, AllWithout, Calmly, any_timing}
use Rattle.vx_base.proofs.Runs.{Reach}

pub record IsCertificate {P R : Type 0} (Leads : P → P → Type 0) (cycles : P → ℕ) (Touches : P → R → Type 0) (Writes : P → R → ℕ → Type 0) (hot : P → R → ℕ) : Type 0 where
  pub kept : (p q : P) (r : R) → Leads p q → hot p r ≤ hot q r + cycles p
  pub fresh : (p q : P) (r : R) (l : ℕ) → Leads p q → Writes p r l → l ≤ hot q r + cycles p
  pub cold : (p : P) (r : R) → Touches p r → hot p r ≡ 0

module _ {P R : Type 0} (Leads : P → P → Type 0) (cycles : P → ℕ) (Touches : P → R → Type 0) (Writes : P → R → ℕ → Type 0) (hot : P → R → ℕ) (cert : IsCertificate Leads cycles Touches Writes hot) where
  along : (p : P) (r : R) (l : ℕ) {c : ℕ} {q : P} → Writes p r l → After Leads cycles p c q → l ≤ hot q r + c
  along p r l {c} {q} w (first e) = cert.fresh p q r l e w
  along p r l w (more {c} {q} {u} a e) = let h = along p r l w a in let k = cert.kept q u r e in omega arith

  -- a certificate gives the path property
  pub never_early : NeverEarly Leads cycles Touches Writes
  never_early p q r l c w a t = let h = along p r l w a in let z = cert.cold q r t in omega arith

-- fewer paths, fewer registers touched, fewer writes
module _ {P : Type 0} (Leads Fewer : P → P → Type 0) (cycles : P → ℕ) (less : (p q : P) → Fewer p q → Leads p q) where
  fewer_path : {p : P} {c : ℕ} {q : P} → After Fewer cycles p c q → After Leads cycles p c q
  fewer_path {p} {c} {q} (first e) = first (less p q e)
  fewer_path (more {c} {q} {u} a e) = more (fewer_path a) (less q u e)

  pub never_early_fewer : {R : Type 0} → (Touches Touched : P → R → Type 0) (Writes Written : P → R → ℕ → Type 0) → ((p : P) (r : R) → Touched p r → Touches p r) → ((p : P) (r : R) (l : ℕ) → Written p r l → Writes p r l) → NeverEarly Leads cycles Touches Writes → NeverEarly Fewer cycles Touched Written
  never_early_fewer Touches Touched Writes Written touch write never p q r l c w a t = never p q r l c (write p r l w) (fewer_path a) (touch q r t)

-- from everywhere, so from a start
pub never_early_anywhere : {P R : Type 0} → (start : P) (Leads : P → P → Type 0) (cycles : P → ℕ) (Touches : P → R → Type 0) (Writes : P → R → ℕ → Type 0) → NeverEarly Leads cycles Touches Writes → NeverEarlyFrom start Leads cycles Touches Writes
never_early_anywhere start Leads cycles Touches Writes never p q r l c at w a t = never p q r l c w a t

-- a certificate for the places that are reached from a start is enough for the paths that begin there
module _ {P R : Type 0} (start : P) (Leads : P → P → Type 0) (cycles : P → ℕ) (Touches : P → R → Type 0) (Writes : P → R → ℕ → Type 0) (hot : P → R → ℕ) where
  abbrev pub LeadsFrom : P → P → Type 0
  LeadsFrom p q = Reached Leads start p × Leads p q

  abbrev pub TouchesFrom : P → R → Type 0
  TouchesFrom p r = Reached Leads start p × Touches p r

  path_from : (p : P) {c : ℕ} {q : P} → Reached Leads start p → After Leads cycles p c q → After LeadsFrom cycles p c q × Reached Leads start q
  path_from p {c} {q} at (first e) = (first (at, e), beyond at e)
  path_from p at (more {c} {q} {u} a e) = let x = path_from p at a in (more x.0 (x.1, e), beyond x.1 e)

  pub never_early_from : IsCertificate LeadsFrom cycles TouchesFrom Writes hot → NeverEarlyFrom start Leads cycles Touches Writes
  never_early_from cert p q r l c at w a t =
      let x = path_from p at a in
      never_early LeadsFrom cycles TouchesFrom Writes hot cert p q r l c w x.0 (x.1, t)

-- the writes in flight are those that the heat allows
abbrev pub AllHot : {R N : Type 0} → (R → ℕ) → List (Write R N) → Type 0
AllHot h [] = Unit {0}
AllHot h (w ∷ ws) = (1 ≤ w.left) × (w.left ≤ h w.to) × AllHot h ws

-- what a word gives is what its place writes
abbrev pub AllWritten : {R N : Type 0} → (R → ℕ → Type 0) → List (Given R N) → Type 0
AllWritten Writes [] = Unit {0}
AllWritten Writes (Lands r x l ∷ gs) = Writes r l × (1 ≤ l) × AllWritten Writes gs
AllWritten Writes (AtOnce r x ∷ gs) = AllWritten Writes gs
AllWritten Writes (Lost ∷ gs) = AllWritten Writes gs

abbrev pub AllTouched : {R N : Type 0} → (R → Type 0) → List (Given R N) → Type 0
AllTouched Touches [] = Unit {0}
AllTouched Touches (Lands r x l ∷ gs) = Touches r × AllTouched Touches gs
AllTouched Touches (AtOnce r x ∷ gs) = Touches r × AllTouched Touches gs
AllTouched Touches (Lost ∷ gs) = AllTouched Touches gs

-- the steps of a machine go by the paths of its words
pub record ByPaths {P R N C O : Type 0} (step : (R → N) → C → Next R N C O) (place : C → P) (Leads : P → P → Type 0) (cycles : P → ℕ) (Writes : P → R → ℕ → Type 0) : Type 0 where
  pub leads : (c : C) (f : R → N) (gs : List (Given R N)) (d : C) (k : ℕ) → step f c ≡ On gs d k → Leads (place c) (place d)
  pub lasts : (c : C) (f : R → N) (gs : List (Given R N)) (d : C) (k : ℕ) → step f c ≡ On gs d k → (cycles (place c) ≡ k) × (1 ≤ k)
  pub writes : (c : C) (f : R → N) (gs : List (Given R N)) (d : C) (k : ℕ) → step f c ≡ On gs d k → AllWritten (Writes (place c)) gs

-- a word touches what it reads and what it writes, and writes no register twice
pub record Touching {P R N C O : Type 0} (step : (R → N) → C → Next R N C O) (place : C → P) (Reads Touches : P → R → Type 0) : Type 0 where
  pub reads : (p : P) (r : R) → Reads p r → Touches p r
  pub alike : (c : C) (f g : R → N) → ((r : R) → Reads (place c) r → f r ≡ g r) → step f c ≡ step g c
  pub gives : (c : C) (f : R → N) (gs : List (Given R N)) (d : C) (k : ℕ) → step f c ≡ On gs d k → AllTouched (Touches (place c)) gs
  pub apart : (c : C) (f : R → N) (gs : List (Given R N)) (d : C) (k : ℕ) → step f c ≡ On gs d k → GivenApart gs

module _ {R N : Type 0} where
  pub hot_more : (h g : R → ℕ) (ws : List (Write R N)) → ((r : R) → h r ≤ g r) → AllHot h ws → AllHot g ws
  hot_more h g [] le a = tt
  hot_more h g (w ∷ ws) le a = (a.0, (let k = le w.to in let b = a.1 in omega arith), hot_more h g ws le a.2)

  pub hot_append : (h : R → ℕ) (ws vs : List (Write R N)) → AllHot h ws → AllHot h vs → AllHot h (ws ++ vs)
  hot_append h [] vs a b = b
  hot_append h (w ∷ ws) vs a b = (a.0, a.1, hot_append h ws vs a.2 b)

  hot_case : (h : R → ℕ) (w : Write R N) (ws : List (Write R N)) (n : ℕ) → n ≤ h w.to → AllHot (λ r. h r - 1) (flying ws) → AllHot (λ r. h r - 1) (lands_or n (flying ws) (λ m. record { to = w.to; number = w.number; left = m } ∷ flying ws))
  hot_case h w ws zero le a = a
  hot_case h w ws (suc zero) le a = a
  hot_case h w ws (suc (suc n)) le a = ((omega arith), (omega arith), a)

  hot_flying : (h : R → ℕ) (ws : List (Write R N)) → AllHot h ws → AllHot (λ r. h r - 1) (flying ws)
  hot_flying h [] a = tt
  hot_flying h (w ∷ ws) a = hot_case h w ws w.left a.1 (hot_flying h ws a.2)

  pub hot_flying_in : (n : ℕ) (h : R → ℕ) (ws : List (Write R N)) → AllHot h ws → AllHot (λ r. h r - n) (flying_in n ws)
  hot_flying_in zero h ws a = hot_more h (λ r. h r - 0) ws (λ r. omega arith) a
  hot_flying_in (suc n) h ws a = hot_more (λ r. (h r - 1) - n) (λ r. h r - suc n) (flying_in n (flying ws)) (λ r. omega arith) (hot_flying_in n (λ r. h r - 1) (flying ws) (hot_flying h ws a))

  pub cold_without : (h : R → ℕ) (r : R) (ws : List (Write R N)) → AllHot h ws → h r ≡ 0 → Without r ws
  cold_without h r [] a z = tt
  cold_without h r (w ∷ ws) a z = ((λ e. (let k = ap h e in let b = a.0 in let c = a.1 in omega arith)), cold_without h r ws a.2 z)

  -- where nothing may be in flight, nothing is
  pub cold_empty : (h : R → ℕ) (ws : List (Write R N)) → AllHot h ws → ((r : R) → h r ≡ 0) → ws ≡ []
  cold_empty h [] a z = refl
  cold_empty h (w ∷ ws) a z = absurd (let k = z w.to in let b = a.0 in let c = a.1 in omega arith)

  hot_delayed : (time : ℕ → ℕ → ℕ) → InTime time → (Writes : R → ℕ → Type 0) (h : R → ℕ) → ((r : R) → 1 ≤ h r) → ((r : R) (l : ℕ) → Writes r l → l ≤ h r) → (i : ℕ) (gs : List (Given R N)) → AllWritten Writes gs → AllHot h (delayed time i gs)
  hot_delayed time in_time Writes h one le i [] a = tt
  hot_delayed time in_time Writes h one le i (Lands r x l ∷ gs) a = ((in_time i l a.1).0, (let b = (in_time i l a.1).1 in let c = le r l a.0 in omega arith), hot_delayed time in_time Writes h one le (suc i) gs a.2)
  hot_delayed time in_time Writes h one le i (AtOnce r x ∷ gs) a = ((omega arith), one r, hot_delayed time in_time Writes h one le i gs a)
  hot_delayed time in_time Writes h one le i (Lost ∷ gs) a = hot_delayed time in_time Writes h one le (suc i) gs a

  touched_without : (Touches : R → Type 0) (h : R → ℕ) → ((r : R) → Touches r → h r ≡ 0) → (ws : List (Write R N)) → AllHot h ws → (gs : List (Given R N)) → AllTouched Touches gs → AllWithout gs ws
  touched_without Touches h z ws hot [] t = tt
  touched_without Touches h z ws hot (Lands r x l ∷ gs) t = (cold_without h r ws hot (z r t.0), touched_without Touches h z ws hot gs t.1)
  touched_without Touches h z ws hot (AtOnce r x ∷ gs) t = (cold_without h r ws hot (z r t.0), touched_without Touches h z ws hot gs t.1)
  touched_without Touches h z ws hot (Lost ∷ gs) t = touched_without Touches h z ws hot gs t

module _ {P R N C O : Type 0} (step : (R → N) → C → Next R N C O) (place : C → P) (Leads : P → P → Type 0) (cycles : P → ℕ) (Touches : P → R → Type 0) (Writes : P → R → ℕ → Type 0) (hot : P → R → ℕ)
    (paths : ByPaths step place Leads cycles Writes) (cert : IsCertificate Leads cycles Touches Writes hot) (time : ℕ → ℕ → ℕ) (in_time : InTime time) where
  abbrev pub Calm : C → List (Write R N) → Type 0
  Calm c ws = AllHot (hot (place c)) ws

  pub calm_next : (c : C) (ws : List (Write R N)) (f : R → N) (gs : List (Given R N)) (d : C) (k i : ℕ) → Calm c ws → step f c ≡ On gs d k → Calm d (flying_in k (ws ++ delayed time i gs))
  calm_next c ws f gs d k i calm e =
      let up : R → ℕ = λ r. hot (place d) r + k in
      let go = paths.leads c f gs d k e in
      let long = paths.lasts c f gs d k e in
      let same_cycles = long.0 in
      let some = long.1 in
      let a : AllHot up ws = hot_more (hot (place c)) up ws (λ r. let x = cert.kept (place c) (place d) r go in omega arith) calm in
      let b : AllHot up (delayed time i gs) = hot_delayed time in_time (Writes (place c)) up (λ r. omega arith) (λ r l w. let x = cert.fresh (place c) (place d) r l go w in omega arith) i gs (paths.writes c f gs d k e) in
      hot_more (λ r. up r - k) (hot (place d)) (flying_in k (ws ++ delayed time i gs)) (λ r. omega arith) (hot_flying_in k up (ws ++ delayed time i gs) (hot_append up ws (delayed time i gs) a b))

  -- a register that a word touches is not in flight
  pub calm_without : (c : C) (ws : List (Write R N)) (r : R) → Calm c ws → Touches (place c) r → Without r ws
  calm_without c ws r calm t = cold_without (hot (place c)) r ws calm (cert.cold (place c) r t)

  module _ (same : R → R → Bool) (tells : Tells same) (Reads : P → R → Type 0) (touching : Touching step place Reads Touches) where
    calmly : Calmly step time (λ c r. Reads (place c) r) Calm
    calmly = record {
      reads = λ c ws r calm rd. calm_without c ws r calm (touching.reads (place c) r rd);
      free = λ c ws f gs d k calm e. touched_without (Touches (place c)) (hot (place c)) (cert.cold (place c)) ws calm gs (touching.gives c f gs d k e);
      apart = touching.apart;
      next = calm_next;
      alike = touching.alike;
    }

    -- from a start with nothing in flight the run under any timing is the early one
    pub any_timing_by_certificate : (goes : C → O) (n i : ℕ) (f : R → N) (c : C) → timed same goes step time n (record { registers = f; flight = []; asked = i; rest = c }) ≡ early same goes step n (record { registers = f; rest = c })
    any_timing_by_certificate goes n i f c =
        any_timing same tells time goes step (λ d r. Reads (place d) r) Calm calmly n (record { registers = f; flight = []; asked = i; rest = c }) (record { registers = f; rest = c })
        (record { rest = refl; calm = tt; apart = tt; registers = λ s. refl })

-- the runs of the step machine meet no register in flight
module _ {P R N C : Type 0} (step : (R → N) → C → Next R N C Outcome) (place : C → P) (Leads : P → P → Type 0) (cycles : P → ℕ) (Touches : P → R → Type 0) (Writes : P → R → ℕ → Type 0) (hot : P → R → ℕ)
    (paths : ByPaths step place Leads cycles Writes) (cert : IsCertificate Leads cycles Touches Writes hot) (time : ℕ → ℕ → ℕ) (in_time : InTime time) (same : R → R → Bool) where
  abbrev pub CalmAt : Moment R N C → Type 0
  CalmAt m = AllHot (hot (place m.rest)) m.flight

  calm_step : (m k : Moment R N C) (x : Next R N C Outcome) → CalmAt m → step m.registers m.rest ≡ x → next_then Step.Over (λ gs c cycles. Step.On (issued same time m gs c cycles)) x ≡ Step.On k → CalmAt k
  calm_step m k (Over o) calm e q = absurd (cc)
  calm_step m k (On gs d n) calm e q =
      let is : issued same time m gs d n ≡ k = cc in
      subst CalmAt is (calm_next step place Leads cycles Touches Writes hot paths cert time in_time m.rest m.flight m.registers gs d n m.asked calm e)

  pub calm_reach : (n : ℕ) (m k : Moment R N C) → CalmAt m → Reach (timed_next same step time) n m k → CalmAt k
  calm_reach zero m k calm r = subst CalmAt r calm
  calm_reach (suc n) m k calm r = calm_reach n r.0 k (calm_step m r.0 (step m.registers m.rest) calm refl r.1) r.2

  -- a word issued after n words touches no register in flight
  pub never_in_flight : (n : ℕ) (m k : Moment R N C) → CalmAt m → Reach (timed_next same step time) n m k → (r : R) → Touches (place k.rest) r → Without r k.flight
  never_in_flight n m k calm reach r t = cold_without (hot (place k.rest)) r k.flight (calm_reach n m k calm reach) (cert.cold (place k.rest) r t)

-- a list of numbers, used cyclically, answers in time
pub landing_in_time : (times : List ℕ) → InTime (landing_time times)
landing_in_time times i l h = (omega arith, omega arith)
