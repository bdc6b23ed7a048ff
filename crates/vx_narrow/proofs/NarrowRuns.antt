-- Runs of a program whose decided splits go one way stay the same.
use Rattle.std.proofs.Common.{◌≡◌, inl, inr, ℕ, zero, suc, ◌+◌, Bool, cond, nat_le, ℤ, List, [], ◌∷◌, length, slice_get, Option, Some, None, refl, sym, ap, ◌∙◌, subst, arith}
use Rattle.std.specs.List.{list_all}
use Rattle.std.specs.Option.{option_map}
use Rattle.vx_base.specs.Outcome.{Outcome, NeverFails, Step, On, Over, step_then, run}
use Rattle.vx_base.specs.declared.outcome.Trap.TheVariants.{Depth}
use Rattle.vx_base.proofs.Runs.{runs_from, safe_after, safe_end, reach_one}
use Rattle.vx_flow.specs.declared.graph.Op.{Op}
use Rattle.vx_flow.specs.declared.graph.Exit.TheVariants.{Goto, Split}
use Rattle.vx_flow.specs.declared.graph.Block.{Block}
use Rattle.vx_flow.specs.declared.graph.Graph.{Graph}
use Rattle.vx_flow.specs.declared.graph.Flow.{Flow}
use Rattle.vx_flow.specs.Effects.{State, Setting}
use Rattle.vx_flow.specs.Meaning.{Hop, Arrives, Calls, Leaves, Stops, Wrong, hop_of, block_hop, Body, Program, Frame, Active, deepest, spots_for, enters_with, enters, waits, after_hop, body_hop, hop, next, body_of, program_of, setting_with, globals_at_start, entered_or, start}
use Rattle.vx_claims.specs.declared.claim.Claim.{Claim}
use Rattle.vx_claims.specs.declared.intervals.Interval.{Interval}
use Rattle.vx_claims.specs.declared.fact.Fact.{Fact}
use Rattle.vx_claims.specs.Facts.{decided}
use Rattle.vx_claims.specs.Forming.{after_all, accessed_all}
use Rattle.vx_narrow.specs.Checking.{has_numbers, is_left_checked, Checked}
use Rattle.vx_narrow.specs.Rewriting.{side_of, GoesTo, DecidedGoes}
use Rattle.vx_narrow.specs.Rewriting.{split_by, narrowed_exit, narrowed_block, narrowed_from, narrowed_graph, narrowed, NarrowedRuns}
use Rattle.vx_narrow.specs.Shortening.{improved_all}
use Rattle.vx_narrow.proofs.Ranges.{and_one}
use Rattle.vx_narrow.proofs.RunFacts.{ActiveGood, next_good, start_good, reached_good}
use Rattle.vx_narrow.proofs.Spots.{roomy_fits}
use Rattle.vx_narrow.proofs.Narrows.{Refines, block_refines, get_block, get_function, goes}

module _ (flow : Flow) (given : ℕ → List Interval) (claims : ℕ → ℕ → Claim) (checked : Checked flow given claims) where
  abbrev old : Program
  old = program_of flow

  abbrev new : Program
  new = program_of (narrowed claims flow)

  abbrev as_body : Option Graph → Option Body
  as_body o = option_map (body_of (length flow.globals)) o

  function_is : (f : ℕ) → slice_get (narrowed claims flow).functions f ≡ option_map (narrowed_graph (claims f)) (slice_get flow.functions f)
  function_is f = let e : 0 + f ≡ f = omega arith in get_function claims 0 flow.functions f ∙ ap (λ m. option_map (narrowed_graph (claims m)) (slice_get flow.functions f)) e

  -- ---- one block

  hop_refines : (r : Active) → ActiveGood flow given claims checked r → Refines (hop old r) (hop new r)
  hop_refines r a =
      subst (λ o. Refines (hop old r) (body_hop old r (as_body o))) (sym (function_is r.function)) (by (slice_get flow.functions r.function) refl)
    where
      inner : (g : Graph) → slice_get flow.functions r.function ≡ Some g → (o : Option Block) → slice_get g.blocks r.block ≡ o →
          Refines (hop_of (setting_with old r.passed r.base) r.block o r.state) (hop_of (setting_with old r.passed r.base) r.block (option_map (narrowed_block g.arrays (claims r.function) r.block) o) r.state)
      inner g e None q = inl refl
      inner g e (Some block) q =
          block_refines g.arrays (claims r.function) (setting_with old r.passed r.base) (a.sized.apart g e) (roomy_fits flow checked.first checked.few r a.roomy g e) r.block block r.state a.known
          (and_one (list_all has_numbers block.ops) (is_left_checked given (claims r.function) (after_all g.arrays (claims r.function r.block) block.ops) (accessed_all g.arrays (claims r.function r.block) block.ops) block.exit) (checked.blocks r.function r.block g block e q))

      block_is : (g : Graph) → slice_get (narrowed_from g.arrays (claims r.function) 0 g.blocks) r.block ≡ option_map (narrowed_block g.arrays (claims r.function) r.block) (slice_get g.blocks r.block)
      block_is g = let e : 0 + r.block ≡ r.block = omega arith in get_block g.arrays (claims r.function) 0 g.blocks r.block ∙ ap (λ m. option_map (narrowed_block g.arrays (claims r.function) m) (slice_get g.blocks r.block)) e

      by : (o : Option Graph) → slice_get flow.functions r.function ≡ o → Refines (body_hop old r (as_body o)) (body_hop old r (as_body (option_map (narrowed_graph (claims r.function)) o)))
      by None e = inl refl
      by (Some g) e =
          subst (λ o. Refines (hop_of (setting_with old r.passed r.base) r.block (slice_get g.blocks r.block) r.state) (hop_of (setting_with old r.passed r.base) r.block o r.state)) (sym (block_is g)) (inner g e (slice_get g.blocks r.block) refl)

  -- ---- behind it

  enters_alike : (k : ℕ → Claim) (g : ℕ) (o : Option Graph) (ns : List ℤ) (s : State) (fs : List Frame) → enters g (as_body (option_map (narrowed_graph k) o)) ns s fs ≡ enters g (as_body o) ns s fs
  enters_alike k g None ns s fs = refl
  enters_alike k g (Some h) ns s fs = by (spots_for (as_body (Some h)) ns s)
    where
      by : (spots : Option (List (Option ℕ))) → enters_with g (as_body (Some (narrowed_graph k h))) ns s fs spots ≡ enters_with g (as_body (Some h)) ns s fs spots
      by None = refl
      by (Some passed) = refl

  enters_same : (g : ℕ) (ns : List ℤ) (s : State) (fs : List Frame) → enters g (new.body g) ns s fs ≡ enters g (old.body g) ns s fs
  enters_same g ns s fs = ap (λ o. enters g (as_body o) ns s fs) (function_is g) ∙ enters_alike (claims g) g (slice_get flow.functions g) ns s fs

  after_same : (r : Active) (h : Hop) → after_hop new r h ≡ after_hop old r h
  after_same r (Arrives from to s) = refl
  after_same r (Calls g ns result from to s) = ap (λ x. cond (nat_le deepest (length r.waiting + 1)) (Over (Outcome.Traps Depth s.out)) x) (enters_same g ns s (waits r result from to s ∷ r.waiting))
  after_same r (Leaves n s) = refl
  after_same r (Stops t s) = refl
  after_same r Wrong = refl

  next_same : (r : Active) → ActiveGood flow given claims checked r → (hop old r ≡ Wrong → ⊥) → next new r ≡ next old r
  next_same r a safe = by (hop_refines r a)
    where
      by : Refines (hop old r) (hop new r) → next new r ≡ next old r
      by (inl e) = absurd (safe e)
      by (inr e) = after_same r (hop new r) ∙ ap (after_hop old r) e

  -- ---- runs

  abbrev out_of : Active → List ℕ
  out_of r = r.state.out

  never_wrong : (r : Active) → NeverFails (runs_from (next old) out_of r) → hop old r ≡ Wrong → ⊥
  never_wrong r safe e = let q : next old r ≡ Over (Outcome.Wrong r.state.out) = ap (after_hop old r) e in safe_end (next old) out_of r (Outcome.Wrong r.state.out) q safe tt

  runs_same : (n : ℕ) (r : Active) → ActiveGood flow given claims checked r → NeverFails (runs_from (next old) out_of r) → run (next new) out_of n r ≡ run (next old) out_of n r
  runs_same zero r a safe = refl
  runs_same (suc n) r a safe = ap (step_then (run (next new) out_of n)) (next_same r a (never_wrong r safe)) ∙ by (next old r) refl (λ q e. runs_same n q (next_good flow given claims checked r q a e) (safe_after (next old) out_of 1 r q (reach_one (next old) r q e) safe))
    where
      by : (x : Step Active) → next old r ≡ x → ((q : Active) → next old r ≡ On q → run (next new) out_of n q ≡ run (next old) out_of n q) → step_then (run (next new) out_of n) x ≡ step_then (run (next old) out_of n) x
      by (On q) e h = h q e
      by (Over o) e h = refl

  start_alike : (k : ℕ → Claim) (o : Option Graph) (s : State) → entered_or (as_body (option_map (narrowed_graph k) o)) s ≡ entered_or (as_body o) s
  start_alike k None s = refl
  start_alike k (Some g) s = refl

  start_same : (input : List ℤ) → start (narrowed claims flow) input ≡ start flow input
  start_same input =
      let s = globals_at_start flow input in
      let e : entered_or (new.body flow.main) s ≡ entered_or (old.body flow.main) s = ap (λ o. entered_or (as_body o) s) (function_is flow.main) ∙ start_alike (claims flow.main) (slice_get flow.functions flow.main) s in
      ap (λ (t : State). record { function = flow.main; block = 0; passed = []; base = length s.arrays; state = t; waiting = [] }) e

pub narrowed_runs : NarrowedRuns
narrowed_runs flow given claims checked input numbers safe n =
    ap (run (next (program_of (narrowed claims flow))) (λ q. q.state.out) n) (start_same flow given claims checked input)
    ∙ runs_same flow given claims checked n (start flow input) (start_good flow given claims checked input numbers) safe

-- ---- where a decided split leads

module _ (flow : Flow) (given : ℕ → List Interval) (claims : ℕ → ℕ → Claim) (checked : Checked flow given claims) where
  narrow_goes : (fs : List Fact) (setting : Setting) (b p c d : ℕ) (answer : Bool) (block : Block) (ops : List Op) (s : State) (h : Hop) → block.exit ≡ Split p c d → decided fs p ≡ Some answer →
      Refines h (block_hop setting b ops (narrowed_exit fs block.exit) s) → GoesTo b (side_of answer c d) h
  narrow_goes fs setting b p c d answer block ops s h e q (inl w) = inl w
  narrow_goes fs setting b p c d answer block ops s h e q (inr w) =
      let x : narrowed_exit fs block.exit ≡ Goto (side_of answer c d) = ap (narrowed_exit fs) e ∙ ap (λ o. split_by o p c d) q in
      subst (GoesTo b (side_of answer c d)) (ap (λ y. block_hop setting b ops y s) (sym x) ∙ w) (goes setting b (side_of answer c d) ops s)

  hop_by : (r : Active) (g : Graph) (block : Block) → slice_get flow.functions r.function ≡ Some g → slice_get g.blocks r.block ≡ Some block →
      hop (program_of flow) r ≡ hop_of (setting_with (program_of flow) r.passed r.base) r.block (Some block) r.state
  hop_by r g block e q = let setting = setting_with (program_of flow) r.passed r.base in
      ap (λ o. body_hop (program_of flow) r (as_body flow given claims checked o)) e ∙ ap (λ o. hop_of setting r.block o r.state) q

pub decided_goes : DecidedGoes
decided_goes flow given claims checked input numbers n r l g block p c d answer e q x w =
    let a = reached_good flow given claims checked input numbers n r l in
    let setting = setting_with (program_of flow) r.passed r.base in
    let fs = after_all g.arrays (claims r.function r.block) block.ops in
    let k = block_refines g.arrays (claims r.function) setting (a.sized.apart g e) (roomy_fits flow checked.first checked.few r a.roomy g e) r.block block r.state a.known (and_one (list_all has_numbers block.ops) (is_left_checked given (claims r.function) fs (accessed_all g.arrays (claims r.function r.block) block.ops) block.exit) (checked.blocks r.function r.block g block e q)) in
    subst (GoesTo r.block (side_of answer c d)) (sym (hop_by flow given claims checked r g block e q))
    (narrow_goes flow given claims checked fs setting r.block p c d answer block (improved_all g.arrays (claims r.function r.block) block.ops) r.state (hop_of setting r.block (Some block) r.state) x w k)
