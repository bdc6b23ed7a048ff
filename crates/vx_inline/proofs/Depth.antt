-- How many functions wait where one is active that is on no cycle of calls and that no function on one calls: they differ, so
-- there are fewer than there are functions.
use Rattle.std.proofs.Common.{◌≡◌, inl, inr, ℕ, zero, suc, ◌+◌, ◌<◌, ◌≤◌, Bool, true, false, cond, ◌==◌, nat_le, ℤ, List, [], ◌∷◌, length, map, slice_get, Option, Some, None, refl, sym, ap, ◌∙◌, subst, arith, eq-eqb, eqb-true, leb-true}
use Rattle.std.proofs.lemmas.Bool.{false≢true}
use Rattle.std.proofs.lemmas.List.{length-map}
use Rattle.std.proofs.lemmas.Option.{slice_get_within}
use Rattle.std.specs.Option.{option_map}
use Rattle.vx_base.specs.Outcome.{Outcome, Step, On, Over}
use Rattle.vx_base.specs.declared.outcome.Trap.TheVariants.{Depth}
use Rattle.vx_flow.specs.declared.graph.Op.{Op}
use Rattle.vx_flow.specs.declared.graph.Exit.{Exit}
use Rattle.vx_flow.specs.declared.graph.Exit.TheVariants.{Goto, Split, Call, Return, Ends}
use Rattle.vx_flow.specs.declared.graph.Block.{Block}
use Rattle.vx_flow.specs.declared.graph.Graph.{Graph}
use Rattle.vx_flow.specs.declared.graph.Flow.{Flow}
use Rattle.vx_flow.specs.Effects.{Content, State, Setting, IsIn, held, is_one, effect}
use Rattle.vx_flow.specs.Meaning.{Hop, Arrives, Calls, Leaves, Stops, Wrong, known, by_test, calls, leaves, leave, and_then, block_hop, hop_of, Body, Program, Frame, Active, deepest, spots_for, enters_with, enters, returned, waits, after_hop, body_hop, hop, next, body_of, program_of, setting_with}
use Rattle.vx_flow.specs.Sound.{HasExit}
use Rattle.vx_flow.specs.Walking.{Distinct}
use Rattle.vx_inline.specs.Inlined.{CallsTo, Reaches, calls as directly, through, OnCycle}

pub get_in : {A : Type 0} (xs : List A) (i : ℕ) (x : A) → slice_get xs i ≡ Some x → IsIn x xs
get_in [] i x e = absurd (cc)
get_in (y ∷ ys) zero x e = let q : y ≡ x = cc in inl (sym q)
get_in (y ∷ ys) (suc i) x e = inr (get_in ys i x e)

-- ---- numbers that differ and are below another are no more than it

abbrev without : ℕ → List ℕ → List ℕ
without n [] = []
without n (x ∷ xs) = cond (x == n) (without n xs) (x ∷ without n xs)

without_in : (n x : ℕ) (ys : List ℕ) → IsIn x (without n ys) → IsIn x ys × (x ≡ n → ⊥)
without_in n x [] h = absurd h
without_in n x (y ∷ ys) h = by (y == n) refl (without_in n x ys) h
  where
    by : (b : Bool) → (y == n) ≡ b → (IsIn x (without n ys) → IsIn x ys × (x ≡ n → ⊥)) → IsIn x (cond b (without n ys) (y ∷ without n ys)) → IsIn x (y ∷ ys) × (x ≡ n → ⊥)
    by true e hyp m = let r = hyp m in (inr r.0, r.1)
    by false e hyp (inl q) = (inl q, λ i. false≢true (sym e ∙ eq-eqb y n (sym q ∙ i)))
    by false e hyp (inr m) = let r = hyp m in (inr r.0, r.1)

without_distinct : (n : ℕ) (xs : List ℕ) → Distinct xs → Distinct (without n xs)
without_distinct n [] d = tt
without_distinct n (x ∷ xs) d = by (x == n) (without_distinct n xs d.1)
  where
    by : (b : Bool) → Distinct (without n xs) → Distinct (cond b (without n xs) (x ∷ without n xs))
    by true k = k
    by false k = (λ m. let r = without_in n x xs m in d.0 r.0, k)

without_all : (n : ℕ) (xs : List ℕ) → (IsIn n xs → ⊥) → length (without n xs) ≡ length xs
without_all n [] h = refl
without_all n (x ∷ xs) h = by (x == n) refl (without_all n xs (λ m. h (inr m)))
  where
    by : (b : Bool) → (x == n) ≡ b → length (without n xs) ≡ length xs → length (cond b (without n xs) (x ∷ without n xs)) ≡ length (x ∷ xs)
    by true e k = absurd (h (inl (sym (eqb-true x n e))))
    by false e k = ap suc k

without_length : (n : ℕ) (xs : List ℕ) → Distinct xs → length xs ≤ suc (length (without n xs))
without_length n [] d = omega arith
without_length n (x ∷ xs) d = by (x == n) refl (without_length n xs d.1)
  where
    by : (b : Bool) → (x == n) ≡ b → length xs ≤ suc (length (without n xs)) → length (x ∷ xs) ≤ suc (length (cond b (without n xs) (x ∷ without n xs)))
    by true e k =
        let q : length (without n xs) ≡ length xs = without_all n xs (λ m. d.0 (subst (λ z. IsIn z xs) (sym (eqb-true x n e)) m)) in
        omega (arith, q)
    by false e k = omega (arith, k)

pub few_below : (n : ℕ) (xs : List ℕ) → Distinct xs → ((x : ℕ) → IsIn x xs → x < n) → length xs ≤ n
few_below zero [] d k = omega arith
few_below zero (x ∷ xs) d k = let h : x < 0 = k x (inl refl) in absurd (omega arith)
few_below (suc n) xs d k =
    let less : (x : ℕ) → IsIn x (without n xs) → x < n = λ x m. (let r = without_in n x xs m in let h : x < suc n = k x r.0 in let w : x ≡ n → ⊥ = r.1 in smaller x n h w) in
    let m : length (without n xs) ≤ n = few_below n (without n xs) (without_distinct n xs d) less in
    let l : length xs ≤ suc (length (without n xs)) = without_length n xs d in
    omega (arith, m, l)
  where
    smaller : (x n : ℕ) → x < suc n → (x ≡ n → ⊥) → x < n
    smaller x n h w = by (x == n) refl
      where
        by : (b : Bool) → (x == n) ≡ b → x < n
        by true e = absurd (w (eqb-true x n e))
        by false e = let d : x ≡ n → ⊥ = w in grind (arith, d)

-- ---- each function that waits calls the one above it

abbrev pub Chain : Flow → ℕ → List Frame → Type 0
Chain flow f [] = Unit {0}
Chain flow f (w ∷ ws) = CallsTo flow w.function f × Chain flow w.function ws

abbrev pub functions : List Frame → List ℕ
functions ws = map (λ (w : Frame). w.function) ws

module _ (flow : Flow) where
  reach_on : (f g h : ℕ) → Reaches flow f g → Reaches flow g h → Reaches flow f h
  reach_on f g h (directly c) r = through c r
  reach_on f g h (through {g = k} c s) r = through c (reach_on k g h s r)

  -- on no cycle, and reached from none
  record IsClear (f : ℕ) : Type 0 where
    alone : OnCycle flow f → ⊥
    apart : (g : ℕ) → OnCycle flow g → Reaches flow g f → ⊥

  clear_below : (f w : ℕ) → IsClear f → CallsTo flow w f → IsClear w
  clear_below f w k c = record { alone = λ o. k.apart w o (directly c); apart = λ g o r. k.apart g o (reach_on g w f r (directly c)) }

  below_reaches : (f : ℕ) (ws : List Frame) → Chain flow f ws → (g : ℕ) → IsIn g (functions ws) → Reaches flow g f
  below_reaches f [] k g m = absurd m
  below_reaches f (w ∷ ws) k g (inl e) = subst (λ x. Reaches flow x f) (sym e) (directly k.0)
  below_reaches f (w ∷ ws) k g (inr m) = reach_on g w.function f (below_reaches w.function ws k.1 g m) (directly k.0)

  differ : (f : ℕ) (ws : List Frame) → Chain flow f ws → IsClear f → Distinct (f ∷ functions ws)
  differ f [] k c = (λ m. m, tt)
  differ f (w ∷ ws) k c = (λ m. c.alone (below_reaches f (w ∷ ws) k f m), differ w.function ws k.1 (clear_below f w.function c k.0))

  there : (f : ℕ) (ws : List Frame) → Chain flow f ws → f < length flow.functions → (g : ℕ) → IsIn g (f ∷ functions ws) → g < length flow.functions
  there f ws k l g (inl e) = subst (λ x. x < length flow.functions) (sym e) l
  there f [] k l g (inr m) = absurd m
  there f (w ∷ ws) k l g (inr m) = there w.function ws k.1 (slice_get_within flow.functions w.function k.0.graph k.0.is) g m

  few_wait : (f : ℕ) (ws : List Frame) → Chain flow f ws → f < length flow.functions → IsClear f → length ws + 1 ≤ length flow.functions
  few_wait f ws k l c =
      let m : length (f ∷ functions ws) ≤ length flow.functions = few_below (length flow.functions) (f ∷ functions ws) (differ f ws k c) (there f ws k l) in
      let q : length (functions ws) ≡ length ws = length-map ws (λ (w : Frame). w.function) in
      omega (arith, m, q)

  pub wait_few : (f : ℕ) (ws : List Frame) → Chain flow f ws → f < length flow.functions → (OnCycle flow f → ⊥) → ((g : ℕ) → OnCycle flow g → Reaches flow g f → ⊥) → length ws + 1 ≤ length flow.functions
  wait_few f ws k l alone apart = few_wait f ws k l (record { alone = alone; apart = apart })

pub not_deepest : (n : ℕ) → n ≤ 256 → nat_le deepest n ≡ false
unfolding deepest
not_deepest n l = by (nat_le 512 n) refl
  where
    by : (b : Bool) → nat_le 512 n ≡ b → b ≡ false
    by true e = let h : 512 ≤ n = leb-true 512 n e in absurd (omega arith)
    by false e = refl

-- ---- a step keeps the chain

module _ (flow : Flow) where
  abbrev p : Program
  p = program_of flow

  abbrev CallsIn : ℕ → Hop → Type 0
  CallsIn f (Arrives b c s) = Unit {0}
  CallsIn f (Calls g arguments result b c s) = CallsTo flow f g
  CallsIn f (Leaves n s) = Unit {0}
  CallsIn f (Stops k s) = Unit {0}
  CallsIn f Wrong = Unit {0}

  test_calls : (f b c d : ℕ) (s : State) (x : Content) → CallsIn f (by_test x (Arrives b c s) (Arrives b d s))
  test_calls f b c d s None = tt
  test_calls f b c d s (Some z) = elim (is_one z) as (λ t. CallsIn f (cond t (Arrives b c s) (Arrives b d s))) [ true ↦ tt | false ↦ tt ]

  call_calls : (f g b c : ℕ) (o : Option (List ℤ)) (result : Option ℕ) (s : State) → CallsTo flow f g → CallsIn f (calls g o result b c s)
  call_calls f g b c None result s k = tt
  call_calls f g b c (Some ns) result s k = k

  leaves_calls : (f : ℕ) (x : Content) (s : State) → CallsIn f (leaves x s)
  leaves_calls f None s = tt
  leaves_calls f (Some n) s = tt

  then_calls : (f : ℕ) (o : Option State) (k : State → Hop) → ((t : State) → CallsIn f (k t)) → CallsIn f (and_then o k)
  then_calls f None k h = tt
  then_calls f (Some t) k h = h t

  module _ (f : ℕ) (g : Graph) (is : slice_get flow.functions f ≡ Some g) where
    exit_calls : (b : ℕ) (exit : Exit) (s : State) → HasExit g exit → CallsIn f (leave b exit s)
    exit_calls b (Goto c) s m = tt
    exit_calls b (Split x c d) s m = test_calls f b c d s (s.values x)
    exit_calls b (Call h arguments result c) s m =
        call_calls f h b c (known (map (held s) arguments)) result s (record { graph = g; is = is; arguments = arguments; result = result; next = c; has = m })
    exit_calls b (Return x) s m = leaves_calls f (held s x) s
    exit_calls b (Ends k) s m = tt

    ops_call : (setting : Setting) (b : ℕ) (ops : List Op) (exit : Exit) (s : State) → HasExit g exit → CallsIn f (block_hop setting b ops exit s)
    ops_call setting b [] exit s m = exit_calls b exit s m
    ops_call setting b (op ∷ ops) exit s m = then_calls f (effect setting s op s) (block_hop setting b ops exit) (λ t. ops_call setting b ops exit t m)

    block_calls : (setting : Setting) (b : ℕ) (o : Option Block) (s : State) → slice_get g.blocks b ≡ o → CallsIn f (hop_of setting b o s)
    block_calls setting b None s e = tt
    block_calls setting b (Some block) s e = ops_call setting b block.ops block.exit s (record { block = block; has = get_in g.blocks b block e; ends = refl })

  hop_calls : (r : Active) (o : Option Graph) → slice_get flow.functions r.function ≡ o → CallsIn r.function (body_hop p r (option_map (body_of (length flow.globals)) o))
  hop_calls r None e = tt
  hop_calls r (Some g) e = block_calls r.function g e (setting_with p r.passed r.base) r.block (slice_get g.blocks r.block) r.state refl

  abbrev StepChain : Step Active → Type 0
  StepChain (On r) = Chain flow r.function r.waiting
  StepChain (Over o) = Unit {0}

  cond_chain : (b : Bool) (x y : Step Active) → StepChain x → StepChain y → StepChain (cond b x y)
  cond_chain true x y h k = h
  cond_chain false x y h k = k

  enters_chain : (g : ℕ) (body : Option Body) (ns : List ℤ) (s : State) (ws : List Frame) → Chain flow g ws → StepChain (enters g body ns s ws)
  enters_chain g None ns s ws k = tt
  enters_chain g (Some body) ns s ws k = by (spots_for (Some body) ns s)
    where
      by : (spots : Option (List (Option ℕ))) → StepChain (enters_with g (Some body) ns s ws spots)
      by None = tt
      by (Some passed) = k

  returned_chain : (n : ℤ) (s : State) (base f : ℕ) (ws : List Frame) → Chain flow f ws → StepChain (returned n s base ws)
  returned_chain n s base f [] k = tt
  returned_chain n s base f (w ∷ ws) k = k.1

  after_chain : (r : Active) (h : Hop) → CallsIn r.function h → Chain flow r.function r.waiting → StepChain (after_hop p r h)
  after_chain r (Arrives b c s) m k = k
  after_chain r (Calls g ns result b c s) m k =
      cond_chain (nat_le deepest (length r.waiting + 1)) (Over (Outcome.Traps Depth s.out)) (enters g (p.body g) ns s (waits r result b c s ∷ r.waiting)) tt
      (enters_chain g (p.body g) ns s (waits r result b c s ∷ r.waiting) (m, k))
  after_chain r (Leaves n s) m k = returned_chain n s r.base r.function r.waiting k
  after_chain r (Stops t s) m k = tt
  after_chain r Wrong m k = tt

  pub chain_on : (r r' : Active) → next (program_of flow) r ≡ On r' → Chain flow r.function r.waiting → Chain flow r'.function r'.waiting
  chain_on r r' e k = subst StepChain e (after_chain r (hop p r) (hop_calls r (slice_get flow.functions r.function) refl) k)
