-- How long registers may be in flight where words of a layout begin that do not name them, and that words are still fine with that
-- much in flight.
use Rattle.std.proofs.Common.{◌≡◌, ◌≤◌, inl, inr, ⊎_elim, ◌+◌, ◌-◌, ℕ, zero, suc, Bool, true, false, ◌||◌, cond, Option, Some, None, List, [], ◌∷◌, ◌++◌, map, refl, sym, ap, ◌∙◌, subst, arith}
use Rattle.std.specs.Prelude.{if◌then◌else◌, max, slice_get}
use Rattle.std.specs.List.{list_any}
use Rattle.std.proofs.lemmas.List.{append-nil}
use Rattle.vx_base.proofs.Pieces.{Hit, raised, cold, next_heat, hits_more, fine_append}
use Rattle.vx_flow.specs.Effects.{IsIn}
use Rattle.vx_isa.specs.declared.operation.Register.{Register}
use Rattle.vx_isa.specs.declared.operation.Operation.{Operation}
use Rattle.vx_isa.specs.declared.program.Word.{Word}
use Rattle.vx_isa.specs.Numbers.{Numbers}
use Rattle.vx_isa.specs.Machine.{cycles_of}
use Rattle.vx_isa.specs.Operations.{same, destination_of, is_call, latency_of}
use Rattle.vx_isa.proofs.AnyTiming.{tells}
use Rattle.vx_mixed.specs.declared.layout.VirtualWord.{VirtualWord}
use Rattle.vx_mixed.specs.declared.layout.VirtualWord.TheVariants.{Planned, Drain, Transfer, Choice, Call as Calls, Return as Returns, Ends}
use Rattle.vx_target.specs.Target.{Target, register_of, is_slotted, kept, past, follows, pause, is_split, turns, spares, by_way, beside_turn, spared_at, spared, most_spared, is_to, landing_of, flight, time_to, wanted}
use Rattle.vx_target.proofs.Pauses.{wanted_covers}
use Rattle.vx_target.proofs.Word.{own_name}
use Rattle.vx_tie.proofs.Early.{falls, Jumps, hit_of, hits, Touches, words_kind, words_cool}
use Rattle.vx_tie.proofs.Heats.{lift, lift_off, FineWords, wait_fine}

-- what is in flight behind words, register by register

module _ (m : Numbers) where
  landing_call : (op : Operation) (ops : List Operation) (q : Register) (c : Bool) (h : Register → ℕ) (r : Register) → ((g : Register → ℕ) → raised same (hits m ops) g r ≤ max (g r) (landing_of m r ops)) →
      raised same (cond c [] (record { to = q; latency = latency_of m op } ∷ []) ++ hits m ops) h r ≤ max (h r) (max (if same r q then latency_of m op else 0) (landing_of m r ops))
  landing_call op ops q true h r rest = let a = rest h in omega arith
  landing_call op ops q false h r rest =
      let a = rest (λ s. cond (same s q) (max (h s) (latency_of m op)) (h s)) in
      let b = by (same r q) in omega arith
    where
      by : (t : Bool) → cond t (max (h r) (latency_of m op)) (h r) ≤ max (h r) (if t then latency_of m op else 0)
      by true = omega arith
      by false = omega arith

  landing_by : (op : Operation) (ops : List Operation) (d : Option Register) (h : Register → ℕ) (r : Register) → ((g : Register → ℕ) → raised same (hits m ops) g r ≤ max (g r) (landing_of m r ops)) →
      raised same (hit_of m op d ++ hits m ops) h r ≤ max (h r) (max (if is_to r d then latency_of m op else 0) (landing_of m r ops))
  landing_by op ops None h r rest = let a = rest h in omega arith
  landing_by op ops (Some q) h r rest = landing_call op ops q (is_call op) h r rest

  landing : (ops : List Operation) (h : Register → ℕ) (r : Register) → raised same (hits m ops) h r ≤ max (h r) (landing_of m r ops)
  landing [] h r = omega arith
  landing (op ∷ ops) h r = landing_by op ops (destination_of op) h r (λ g. landing ops g r)

  abbrev pub after : (Register → ℕ) → List Word → Register → ℕ
  after h [] = h
  after h (w ∷ ws) = after (next_heat (words_kind m) w h) ws

  after_flight : (h : Register → ℕ) (r : Register) (n : ℕ) (ws : List Word) → h r ≤ n → after h ws r ≤ flight m r n ws
  after_flight h r n [] le = le
  after_flight h r n (w ∷ ws) le = after_flight (next_heat (words_kind m) w h) r (max n (landing_of m r w.ops) - cycles_of w) ws (by (falls w.ops))
    where
      by : (t : Bool) → cond t (λ s. raised same (hits m w.ops) h s - cycles_of w) cold r ≤ max n (landing_of m r w.ops) - cycles_of w
      by true = let a = landing w.ops h r in omega arith
      by false = omega arith

  module _ (heat : ℕ → Register → ℕ) where
    fine_after : (h e : Register → ℕ) (ws : List Word) → FineWords m heat h ws e → FineWords m heat h ws (after h ws)
    fine_after h e [] f = λ r. omega arith
    fine_after h e (w ∷ ws) f = (f.0, f.1, fine_after (next_heat (words_kind m) w h) e ws f.2)

    after_below : (h e : Register → ℕ) (ws : List Word) → FineWords m heat h ws e → (r : Register) → after h ws r ≤ e r
    after_below h e [] f r = f r
    after_below h e (w ∷ ws) f r = after_below (next_heat (words_kind m) w h) e ws f.2 r

    pause_after : (k : ℕ) (h e : Register → ℕ) → ((r : Register) → h r - k ≤ e r) → FineWords m heat h (pause k) e
    pause_after k h e le = subst (λ ws. FineWords m heat h ws e) (append-nil (pause k)) (wait_fine m heat 0 k h e [] [] e (omega arith) le (λ r. omega arith))

    -- a word of one cycle is fine with more in flight, where it does not touch that, and where it leads as much may be in flight
    raised_max : (xs : List (Hit Register)) (g h : Register → ℕ) (r : Register) → raised same xs (λ s. max (g s) (h s)) r ≤ max (raised same xs g r) (h r)
    raised_max [] g h r = omega arith
    raised_max (x ∷ xs) g h r =
        let a = hits_more same tells xs 0 (λ s. cond (same s x.to) (max (max (g s) (h s)) x.latency) (max (g s) (h s))) (λ s. max (cond (same s x.to) (max (g s) x.latency) (g s)) (h s)) (λ s. by s (same s x.to)) r in
        let b = raised_max xs (λ s. cond (same s x.to) (max (g s) x.latency) (g s)) h r in omega arith
      where
        by : (s : Register) (t : Bool) → cond t (max (max (g s) (h s)) x.latency) (max (g s) (h s)) ≤ max (cond t (max (g s) x.latency) (g s)) (h s)
        by s true = omega arith
        by s false = omega arith

    pub fine_also : (h l e : Register → ℕ) (ops : List Operation) → FineWords m heat h (record { ops = ops; idle = 0 } ∷ []) e → ((r : Register) → Touches ops r → l r ≡ 0) → ((q : ℕ) (r : Register) → Jumps ops q → l r - 1 ≤ heat q r) → ((r : Register) → l r - 1 ≤ e r) → FineWords m heat (λ r. max (h r) (l r)) (record { ops = ops; idle = 0 } ∷ []) e
    fine_also h l e ops f touch jump left = (
      λ r t. (let a = f.0 r t in let b = touch r t in omega arith),
      λ q r j. (let a = f.1 q r j in let b = raised_max (hits m ops) h l r in let c = jump q r j in omega arith),
      λ r. by r (falls ops) (f.2 r),
    )
      where
        by : (r : Register) (t : Bool) → cond t (λ s. raised same (hits m ops) h s - 1) cold r ≤ e r → cond t (λ s. raised same (hits m ops) (λ u. max (h u) (l u)) s - 1) cold r ≤ e r
        by r true le = let b = raised_max (hits m ops) h l r in let c = left r in omega arith
        by r false le = le

-- registers of values

any_named : (g : ℕ → Register) (r : Register) (vs : List ℕ) → list_any (same r) (map g vs) ≡ true → (v : ℕ) × IsIn v vs × (same r (g v) ≡ true)
any_named g r [] e = absurd (let z : false ≡ true = e in cc)
any_named g r (u ∷ vs) e = by (same r (g u)) refl e (any_named g r vs)
  where
    by : (t : Bool) → same r (g u) ≡ t → (t || list_any (same r) (map g vs)) ≡ true → (list_any (same r) (map g vs) ≡ true → (v : ℕ) × IsIn v vs × (same r (g v) ≡ true)) → (v : ℕ) × IsIn v (u ∷ vs) × (same r (g v) ≡ true)
    by true s k more = (u, inl refl, s)
    by false s k more = let a = more k in (a.0, inr a.1, a.2)

named_any : (g : ℕ → Register) (r : Register) (vs : List ℕ) (v : ℕ) → IsIn v vs → same r (g v) ≡ true → list_any (same r) (map g vs) ≡ true
named_any g r [] v i e = absurd i
named_any g r (u ∷ vs) v i e = ⊎_elim
    (λ q. ap (λ b. b || list_any (same r) (map g vs)) (ap (λ z. same r (g z)) (sym q) ∙ e))
    (λ j. ap (λ b. same r (g u) || b) (named_any g r vs v j e) ∙ or_true (same r (g u))) i
  where
    or_true : (b : Bool) → (b || true) ≡ true
    or_true true = refl
    or_true false = refl

-- those of fewer values
pub any_fewer : (g : ℕ → Register) (r : Register) (us vs : List ℕ) → ((v : ℕ) → IsIn v us → IsIn v vs) → list_any (same r) (map g us) ≡ true → list_any (same r) (map g vs) ≡ true
any_fewer g r us vs sub e = let a = any_named g r us e in named_any g r vs a.0 (sub a.0 a.1) a.2

-- the number of words that are looked at
pub most_more : most_spared ≡ suc 15
unfolding most_spared
most_more = refl

-- more words that are looked at give no less time

module _ (T : Target) (f : ℕ) where
  way_more : (next q n k : ℕ) → n ≤ k → by_way T f next q n ≤ by_way T f next q k
  way_more next q n k le = by (follows T f next q)
    where
      by : (b : Bool) → (if b then n else suc n) ≤ (if b then k else suc k)
      by true = le
      by false = omega arith

  at_more : (r : Register) (p : ℕ) (on more : ℕ → ℕ) (o : Option VirtualWord) → ((q : ℕ) → on q ≤ more q) → spared_at T f r p on o ≤ spared_at T f r p more o
  at_more r p on more None h = omega arith
  at_more r p on more (Some (Planned rg wd items)) h = by (spares T f r items) (list_any is_split items) (turns T f (p + 1))
    where
      by : (s t b : Bool) → (if s then (if t then 1 else suc (beside_turn b (on (p + 1)))) else 0) ≤ (if s then (if t then 1 else suc (beside_turn b (more (p + 1)))) else 0)
      by true true b = omega arith
      by true false true = let a = h (p + 1) in omega arith
      by true false false = let a = h (p + 1) in omega arith
      by false t b = omega arith
  at_more r p on more (Some (Drain n)) h = omega arith
  at_more r p on more (Some (Transfer q)) h = way_more (p + 1) (past T f q) (on (past T f q)) (more (past T f q)) (h (past T f q))
  at_more r p on more (Some (Choice test q)) h = omega arith
  at_more r p on more (Some (Calls g arguments result)) h = omega arith
  at_more r p on more (Some (Returns x)) h = omega arith
  at_more r p on more (Some (Ends k)) h = omega arith

  one_more : (r : Register) (n p : ℕ) → spared T f r n p ≤ spared T f r (suc n) p
  one_more r zero p = omega arith
  one_more r (suc n) p = at_more r p (spared T f r n) (spared T f r (suc n)) (slice_get (T.layout f).words p) (one_more r n)

  some_more : (r : Register) (n k p : ℕ) → spared T f r n p ≤ spared T f r (n + k) p
  some_more r n zero p = let e : n + 0 ≡ n = omega arith in let a = ap (λ z. spared T f r z p) e in omega arith
  some_more r n (suc k) p =
      let a = some_more r n k p in
      let b = one_more r (n + k) p in
      let e : n + suc k ≡ suc (n + k) = omega arith in
      let c = ap (λ z. spared T f r z p) e in omega arith

  -- as many as are looked at in words
  pub up_to_most : (r : Register) (n k p : ℕ) → n + k ≡ most_spared → spared T f r n p ≤ spared T f r most_spared p
  up_to_most r n k p e = subst (λ z. spared T f r n p ≤ spared T f r z p) e (some_more r n k p)

  -- words that bring values to their registers, and a pause until these may be named

  abbrev Own : ℕ → Register
  Own v = register_of T f (v ∷ []) v

  pub map_own : (names us : List ℕ) → ((v : ℕ) → IsIn v us → is_slotted (kept T f v) ≡ false) → map (register_of T f names) us ≡ map (λ v. register_of T f (v ∷ []) v) us
  map_own names [] h = refl
  map_own names (u ∷ us) h = ap (λ x. x ∷ map (register_of T f names) us) (own_name T f u names (u ∷ []) (h u (inl refl))) ∙ ap (λ l. Own u ∷ l) (map_own names us (λ v i. h v (inr i)))

  pub wanted_fine : (heat : ℕ → Register → ℕ) (next : Option ℕ) (q : ℕ) (vs : List ℕ) (ws : List Word) (t : ℕ) (e : Register → ℕ) → FineWords T.machine heat cold ws (lift t cold (map (λ v. register_of T f (v ∷ []) v) vs)) → ((r : Register) → time_to T f next q r ≤ e r) → FineWords T.machine heat cold (ws ++ pause (wanted T f next q vs ws)) e
  wanted_fine heat next q vs ws t e fine there =
      fine_append (words_kind T.machine) (words_cool T.machine) heat cold (after T.machine cold ws) e ws (pause K) (fine_after T.machine heat cold (lift t cold (map Own vs)) ws fine)
      (pause_after T.machine heat K (after T.machine cold ws) e (λ r. by r (list_any (same r) (map Own vs)) refl))
    where
      K : ℕ
      K = wanted T f next q vs ws

      by : (r : Register) (b : Bool) → list_any (same r) (map Own vs) ≡ b → after T.machine cold ws r - K ≤ e r
      by r false q = let a = after_below T.machine heat cold (lift t cold (map Own vs)) ws fine r in let z = lift_off t cold (map Own vs) r refl q in omega arith
      by r true s =
          let x = any_named Own r vs s in
          let is : r ≡ Own x.0 = tells.equal r (Own x.0) x.2 in
          let a = after_flight T.machine cold r 0 ws (omega arith) in
          let b = ap (λ z. flight T.machine z 0 ws) is in
          let c = wanted_covers T f next q vs ws x.0 x.1 in
          let d = ap (time_to T f next q) is in
          let g = there r in omega arith
