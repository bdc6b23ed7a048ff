-- Where the arrays of the active functions stand: the globals first, then the own ones of each, so that arrays of a function
-- that are apart stand at different spots.
use Rattle.std.proofs.Common.{◌≡◌, ℕ, zero, suc, ◌+◌, ◌≤◌, Bool, true, false, cond, nat_le, ℤ, List, [], ◌∷◌, ◌++◌, length, map, take, slice_set, slice_get, Option, Some, None, refl, sym, ap, subst, arith}
use Rattle.std.proofs.lemmas.List.{length-map, length-append}
use Rattle.std.specs.Option.{option_map}
use Rattle.vx_base.specs.Outcome.{Step, On, Over}
use Rattle.vx_flow.specs.declared.graph.Op.{Op}
use Rattle.vx_flow.specs.declared.graph.Op.TheVariants.{Load, Store, Input, Decimal}
use Rattle.vx_flow.specs.declared.graph.Exit.{Exit}
use Rattle.vx_flow.specs.declared.graph.Exit.TheVariants.{Goto, Split, Call, Return, Ends}
use Rattle.vx_flow.specs.declared.graph.Block.{Block}
use Rattle.vx_flow.specs.declared.graph.Graph.{Graph}
use Rattle.vx_flow.specs.declared.graph.Flow.{Flow}
use Rattle.vx_flow.specs.Apart.{HasGlobalsFirst, StandApart}
use Rattle.vx_flow.specs.Effects.{Content, State, Setting, held, is_one, row_of, cell_of, loaded, stored, next_input, printed, effect}
use Rattle.vx_flow.specs.Meaning.{Hop, Arrives, Calls, Leaves, Stops, Wrong, known, by_test, calls, leaves, leave, and_then, block_hop, hop_of, Body, Frame, Active, deepest, undefined, at_entry, spots_for, enters_with, enters, returned, waits, after_hop, body_hop, hop, next, words_at_start, own_of, body_of, program_of, setting_with, globals_at_start, entered_or, start}
use Rattle.vx_flow.proofs.Apart.{spots_apart}
use Rattle.vx_flow.proofs.Entering.{entered_apart}

-- ---- rows

set_length : {A : Type 0} (xs : List A) (i : ℕ) (v : A) → length (slice_set xs i v) ≡ length xs
set_length [] i v = refl
set_length (x ∷ xs) zero v = refl
set_length (x ∷ xs) (suc i) v = ap suc (set_length xs i v)

length_take : {A : Type 0} → (n : ℕ) (xs : List A) → n ≤ length xs → length (take n xs) ≡ n
length_take zero xs h = refl
length_take (suc n) [] h = absurd (omega arith)
length_take (suc n) (x ∷ xs) h = ap suc (length_take n xs (omega arith))

-- ---- blocks

-- of how many arrays there are, what holds before a block holds behind it
module _ (P : ℕ → Type 0) where
  abbrev pub StateSized : Option State → Type 0
  StateSized None = Unit {0}
  StateSized (Some t) = P (length t.arrays)

  abbrev pub HopSized : Hop → Type 0
  HopSized (Arrives from to t) = P (length t.arrays)
  HopSized (Calls g arguments result from to t) = P (length t.arrays)
  HopSized (Leaves k t) = P (length t.arrays)
  HopSized (Stops x t) = Unit {0}
  HopSized Wrong = Unit {0}

  loaded_sized : (s : State) (v : ℕ) (row : List Content) (o : Option ℕ) (d : Bool) → P (length s.arrays) → StateSized (loaded s v row o d)
  loaded_sized s v row None true h = h
  loaded_sized s v row None false h = tt
  loaded_sized s v row (Some i) d h = h

  stored_sized : (s : State) (a : ℕ) (o : Option ℕ) (x : Content) → P (length s.arrays) → StateSized (stored s a o x)
  stored_sized s a None x h = tt
  stored_sized s a (Some i) None h = tt
  stored_sized s a (Some i) (Some m) h = subst P (sym (set_length s.arrays a (slice_set (row_of s a) i (Some m)))) h

  input_sized : (s : State) (v : ℕ) (ns : List ℤ) → P (length s.arrays) → StateSized (next_input s v ns)
  input_sized s v [] h = tt
  input_sized s v (m ∷ ms) h = h

  printed_sized : (s : State) (x : Content) → P (length s.arrays) → StateSized (printed s s.out x)
  printed_sized s None h = tt
  printed_sized s (Some m) h = h

  effect_sized : (setting : Setting) (s : State) (op : Op) → P (length s.arrays) → StateSized (effect setting s op s)
  effect_sized setting s (Load v a p d) h = loaded_sized s v (row_of s (setting.spot a)) (cell_of setting s a p) d h
  effect_sized setting s (Store a p x) h = stored_sized s (setting.spot a) (cell_of setting s a p) (held s x) h
  effect_sized setting s (Input v) h = input_sized s v s.input h
  effect_sized setting s (Decimal x) h = printed_sized s (held s x) h
  effect_sized setting s op h = h

  test_sized : (x : Content) (b c d : ℕ) (s : State) → P (length s.arrays) → HopSized (by_test x (Arrives b c s) (Arrives b d s))
  test_sized None b c d s h = tt
  test_sized (Some z) b c d s h = by (is_one z)
    where
      by : (t : Bool) → HopSized (cond t (Arrives b c s) (Arrives b d s))
      by true = h
      by false = h

  calls_sized : (g : ℕ) (o : Option (List ℤ)) (result : Option ℕ) (b to : ℕ) (s : State) → P (length s.arrays) → HopSized (calls g o result b to s)
  calls_sized g None result b to s h = tt
  calls_sized g (Some ns) result b to s h = h

  leaves_sized : (x : Content) (s : State) → P (length s.arrays) → HopSized (leaves x s)
  leaves_sized None s h = tt
  leaves_sized (Some m) s h = h

  leave_sized : (b : ℕ) (exit : Exit) (s : State) → P (length s.arrays) → HopSized (leave b exit s)
  leave_sized b (Goto c) s h = h
  leave_sized b (Split p c d) s h = test_sized (s.values p) b c d s h
  leave_sized b (Call g arguments result to) s h = calls_sized g (known (map (held s) arguments)) result b to s h
  leave_sized b (Return x) s h = leaves_sized (held s x) s h
  leave_sized b (Ends k) s h = tt

  then_sized : (o : Option State) (f : State → Hop) → StateSized o → ((t : State) → P (length t.arrays) → HopSized (f t)) → HopSized (and_then o f)
  then_sized None f k h = tt
  then_sized (Some t) f k h = h t k

  pub block_sized : (setting : Setting) (b : ℕ) (ops : List Op) (exit : Exit) (s : State) → P (length s.arrays) → HopSized (block_hop setting b ops exit s)
  block_sized setting b [] exit s h = leave_sized b exit s h
  block_sized setting b (op ∷ ops) exit s h = then_sized (effect setting s op s) (block_hop setting b ops exit) (effect_sized setting s op h) (λ t k. block_sized setting b ops exit t k)

-- ---- programs

module _ (flow : Flow) where
  abbrev Globals : ℕ
  Globals = length flow.globals

  -- the arrays of a function that are apart stand at different spots
  abbrev StandsApart : (function : ℕ) → List (Option ℕ) → (base : ℕ) → Type 0
  StandsApart f passed base = (g : Graph) → slice_get flow.functions f ≡ Some g → StandApart g.arrays (setting_with (program_of flow) passed base).spot

  abbrev FramesSized : ℕ → List Frame → Type 0
  FramesSized base [] = Unit {0}
  FramesSized base (f ∷ fs) = (Globals ≤ f.base) × (f.base ≤ base) × StandsApart f.function f.passed f.base × FramesSized f.base fs

  -- the own arrays of each active function begin behind the globals, and behind those of the one that called it, and
  -- those that are apart stand at different spots
  pub record Sized (r : Active) : Type 0 where
    pub low : Globals ≤ r.base
    pub high : r.base ≤ length r.state.arrays
    pub apart : StandsApart r.function r.passed r.base
    pub frames : FramesSized r.base r.waiting

  abbrev StepSized : Step Active → Type 0
  StepSized (On q) = Sized q
  StepSized (Over o) = Unit {0}

  pub hop_sized : (P : ℕ → Type 0) (r : Active) → P (length r.state.arrays) → HopSized P (hop (program_of flow) r)
  hop_sized P r z = by (slice_get flow.functions r.function)
    where
      inner : (o : Option Block) → HopSized P (hop_of (setting_with (program_of flow) r.passed r.base) r.block o r.state)
      inner None = tt
      inner (Some block) = block_sized P (setting_with (program_of flow) r.passed r.base) r.block block.ops block.exit r.state z

      by : (o : Option Graph) → HopSized P (body_hop (program_of flow) r (option_map (body_of Globals) o))
      by None = tt
      by (Some g) = inner (slice_get g.blocks r.block)

  longer : (xs ys : List (List Content)) → length xs ≤ length (xs ++ ys)
  longer xs ys = let e = length-append xs ys in omega arith

  enters_sized : HasGlobalsFirst flow → (g : ℕ) (o : Option Graph) → slice_get flow.functions g ≡ o → (ns : List ℤ) (s : State) (fs : List Frame) → Globals ≤ length s.arrays → FramesSized (length s.arrays) fs → StepSized (enters g (option_map (body_of Globals) o) ns s fs)
  enters_sized first g None e ns s fs l f = tt
  enters_sized first g (Some graph) e ns s fs l f = by (spots_for (Some (body_of Globals graph)) ns s) refl
    where
      by : (spots : Option (List (Option ℕ))) → spots_for (Some (body_of Globals graph)) ns s ≡ spots → StepSized (enters_with g (Some (body_of Globals graph)) ns s fs spots)
      by None q = tt
      by (Some passed) q = record {
        low = l;
        high = longer s.arrays (map undefined (own_of Globals graph));
        apart = λ h d. (let same : graph ≡ h = cc in subst (λ (x : Graph). StandApart x.arrays (setting_with (program_of flow) passed (length s.arrays)).spot) same (entered_apart Globals (length s.arrays) graph.arrays (at_entry graph.parameters ns) passed (first g graph e) l q));
        frames = f;
      }

  returned_sized : (n : ℤ) (s : State) (base : ℕ) (fs : List Frame) → base ≤ length s.arrays → FramesSized base fs → StepSized (returned n s base fs)
  returned_sized n s base [] h f = tt
  returned_sized n s base (g ∷ fs) h f = record { low = f.0; high = subst (λ k. g.base ≤ k) (sym (length_take base s.arrays h)) f.1; apart = f.2; frames = f.3 }

  cond_sized : (t : Bool) (a b : Step Active) → StepSized a → StepSized b → StepSized (cond t a b)
  cond_sized true a b h k = h
  cond_sized false a b h k = k

  after_sized : HasGlobalsFirst flow → (r : Active) (h : Hop) → Sized r → HopSized (λ k. r.base ≤ k) h → StepSized (after_hop (program_of flow) r h)
  after_sized first r (Arrives from to s) z k = record { low = z.low; high = k; apart = z.apart; frames = z.frames }
  after_sized first r (Calls g ns result from to s) z k =
      let p = program_of flow in
      let low : Globals ≤ length s.arrays = (let a = z.low in omega arith) in
      cond_sized (nat_le deepest (length r.waiting + 1)) _ (enters g (p.body g) ns s (waits r result from to s ∷ r.waiting)) tt
      (enters_sized first g (slice_get flow.functions g) refl ns s (waits r result from to s ∷ r.waiting) low (z.low, k, z.apart, z.frames))
  after_sized first r (Leaves n s) z k = returned_sized n s r.base r.waiting k z.frames
  after_sized first r (Stops t s) z k = tt
  after_sized first r Wrong z k = tt

  step_sized : (q : Active) (x : Step Active) → StepSized x → x ≡ On q → Sized q
  step_sized q x k e = subst StepSized e k

  pub next_sized : HasGlobalsFirst flow → (r q : Active) → Sized r → next (program_of flow) r ≡ On q → Sized q
  next_sized first r q z e = step_sized q (next (program_of flow) r) (after_sized first r (hop (program_of flow) r) z (hop_sized (λ k. r.base ≤ k) r z.high)) e

  start_by : (o : Option Body) (s : State) → length s.arrays ≤ length (entered_or o s).arrays
  start_by None s = omega arith
  start_by (Some body) s = longer s.arrays (map undefined body.own)

  pub start_sized : (input : List ℤ) → Sized (start flow input)
  start_sized input =
      let p = program_of flow in
      let s = globals_at_start flow input in
      let e : length s.arrays ≡ Globals = length-map flow.globals words_at_start in
      let low : Globals ≤ length s.arrays = omega arith in
      record { low = low; high = start_by (p.body flow.main) s; apart = λ h e. spots_apart h.arrays Globals (length s.arrays) low; frames = tt }
