-- Steps of a run: operations, blocks, calls.
use Rattle.std.proofs.Common.{◌≡◌, ℕ, suc, ◌+◌, ◌≤◌, ℤ, Bool, true, false, cond, nat_le, List, [], ◌∷◌, ◌++◌, length, map, drop, slice_get, Option, Some, None, refl, sym, ap, subst, ◌∙◌, append-nil, arith}
use Rattle.std.proofs.Math.Path.{fun_ext}
use Rattle.std.proofs.lemmas.Bool.{false≢true, leb-true, le-leb}
use Rattle.std.specs.Option.{option_map}
use Rattle.vx_base.specs.Outcome.{Outcome, Ends, Traps, Goes, Step, On, Over, step_then}
use Rattle.vx_base.specs.declared.outcome.Trap.TheVariants.{Depth}
use Rattle.vx_flow.specs.declared.graph.Op.{Op}
use Rattle.vx_flow.specs.declared.graph.Exit.{Exit}
use Rattle.vx_flow.specs.declared.graph.Array.{Array}
use Rattle.vx_flow.specs.declared.graph.Graph.{Graph}
use Rattle.vx_flow.specs.declared.graph.Flow.{Flow}
use Rattle.vx_flow.specs.Effects.{Content, State, Setting, effect}
use Rattle.vx_flow.specs.Meaning.{Hop, Frame, Active, Program, bases_in, bases_of, spots_held, enters_passed, leave, and_then, block_hop, deepest, waits, undefined, at_entry, after_hop, body_hop, body_of, hop, next, program_of, program_run, returned, entered_or, start, globals_at_start, words_at_start}
use Rattle.vx_tally.specs.declared.ends.Ending.{Ending}
use Rattle.vx_tally.specs.declared.machine.Waiting.{Waiting}
use Rattle.vx_tally.specs.declared.machine.Machine.{Machine}
use Rattle.vx_tally.specs.Storage.{state_of, came, and_after, effects}
use Rattle.vx_tally.specs.Machine.{graph_hop, frame_of, stacked, active_of, undefined_all, own_in, entered_by, called_by, IsStep, IsOutcome}

-- operations

and_then_after : (o : Option State) (f : State → Hop) (g : State → Option State) (h : State → Hop) → ((t : State) → f t ≡ and_then (g t) h) → and_then o f ≡ and_then (and_after o g) h
and_then_after None f g h k = refl
and_then_after (Some t) f g h k = k t

pub block_by_effects : (setting : Setting) (b : ℕ) (ops : List Op) (exit : Exit) (s : State) → block_hop setting b ops exit s ≡ and_then (effects setting s ops) (leave b exit)
block_by_effects setting b [] exit s = refl
block_by_effects setting b (op ∷ ops) exit s = and_then_after (effect setting s op s) (block_hop setting b ops exit) (λ t. effects setting t ops) (leave b exit) (block_by_effects setting b ops exit)

pub through : (setting : Setting) (b : ℕ) (ops : List Op) (exit : Exit) (s t : State) (done : Bool) (h : Hop) → effects setting s ops ≡ came done t → done ≡ true → leave b exit t ≡ h → block_hop setting b ops exit s ≡ h
through setting b ops exit s t done h e d k = block_by_effects setting b ops exit s ∙ ap (λ o. and_then o (leave b exit)) (e ∙ ap (λ x. came x t) d) ∙ k

pub not_through : (setting : Setting) (b : ℕ) (ops : List Op) (exit : Exit) (s t : State) (done : Bool) → effects setting s ops ≡ came done t → done ≡ false → block_hop setting b ops exit s ≡ Hop.Wrong
not_through setting b ops exit s t done e d = block_by_effects setting b ops exit s ∙ ap (λ o. and_then o (leave b exit)) (e ∙ ap (λ x. came x t) d)

-- numbers that operands are

abbrev pub with_all : List ℤ → Option (List ℤ) → Option (List ℤ)
with_all ns None = None
with_all ns (Some ms) = Some (ns ++ ms)

-- functions that wait

pub stacked_push : (below : List Frame) (ws : List Waiting) (w : Waiting) → stacked below (ws ++ w ∷ []) ≡ frame_of w ∷ stacked below ws
stacked_push below [] w = refl
stacked_push below (u ∷ ws) w = stacked_push (frame_of u ∷ below) ws w

pub stacked_length : (below : List Frame) (ws : List Waiting) → length (stacked below ws) ≡ length below + length ws
stacked_length below [] = omega arith
stacked_length below (u ∷ ws) = let h = stacked_length (frame_of u ∷ below) ws in omega arith

pub gave_back : (n : ℤ) (s : State) (base : ℕ) (items rest : List Waiting) (w : Waiting) (a : Active) → items ≡ rest ++ w ∷ [] → On a ≡ returned n s base (frame_of w ∷ stacked [] rest) → returned n s base (stacked [] items) ≡ On a
gave_back n s base items rest w a e k = ap (λ ws. returned n s base (stacked [] ws)) e ∙ ap (returned n s base) (stacked_push [] rest w) ∙ sym k

-- the most that may wait
pub full_is : (n : ℕ) → nat_le 511 n ≡ nat_le deepest (n + 1)
unfolding deepest
full_is n = by (nat_le 511 n) (nat_le 512 (n + 1)) refl refl
  where
    by : (s t : Bool) → nat_le 511 n ≡ s → nat_le 512 (n + 1) ≡ t → nat_le 511 n ≡ nat_le 512 (n + 1)
    by true true e f = e ∙ sym f
    by false false e f = e ∙ sym f
    by true false e f = let h : 511 ≤ n = leb-true 511 n e in absurd (false≢true (sym f ∙ le-leb 512 (n + 1) (omega arith)))
    by false true e f = let h : 512 ≤ n + 1 = leb-true 512 (n + 1) f in absurd (false≢true (sym e ∙ le-leb 511 n (omega arith)))

-- the start

no_arguments : (qs : List ℕ) (v : ℕ) → at_entry qs [] v ≡ None
no_arguments [] v = refl
no_arguments (q ∷ qs) v = refl

start_by : (flow : Flow) (o : Option Graph) (s : State) → s.values ≡ (λ v. None) → record s { arrays = s.arrays ++ undefined_all (own_in flow o) } ≡ entered_or (option_map (body_of (length flow.globals)) o) s
start_by flow None s h = ap (λ rows. record s { arrays = rows }) (append-nil s.arrays)
start_by flow (Some g) s h = ap (λ f. record s { values = f; arrays = s.arrays ++ undefined_all (drop (length flow.globals) g.arrays) }) (h ∙ fun_ext (λ v. sym (no_arguments g.parameters v)))

pub start_is : (flow : Flow) (input : List ℤ) (f : ℕ → Content) (rows arrays : List (List Content)) (base : ℕ) → ((v : ℕ) → f v ≡ None) → rows ≡ map words_at_start flow.globals → arrays ≡ rows ++ undefined_all (own_in flow (slice_get flow.functions flow.main)) → base ≡ length rows →
    record { function = flow.main; block = 0; passed = []; base = base; state = record { values = f; arrays = arrays; input = input; out = [] }; waiting = [] } ≡ start flow input
start_is flow input f rows arrays base h r a b =
    let f_is : f ≡ (λ v. None) = fun_ext h in
    let s : State = globals_at_start flow input in
    let arrays_is : arrays ≡ s.arrays ++ undefined_all (own_in flow (slice_get flow.functions flow.main)) = a ∙ ap (λ q. q ++ undefined_all (own_in flow (slice_get flow.functions flow.main))) r in
    ap (λ g. record { function = flow.main; block = 0; passed = []; base = base; state = record { values = g; arrays = arrays; input = input; out = [] }; waiting = [] }) f_is
    ∙ ap (λ q. record { function = flow.main; block = 0; passed = []; base = base; state = record { values = λ v. None; arrays = q; input = input; out = [] }; waiting = [] }) arrays_is
    ∙ ap (λ n. record { function = flow.main; block = 0; passed = []; base = n; state = record { values = λ v. None; arrays = s.arrays ++ undefined_all (own_in flow (slice_get flow.functions flow.main)); input = input; out = [] }; waiting = [] }) (b ∙ ap length r)
    ∙ ap (λ q. record { function = flow.main; block = 0; passed = []; base = length s.arrays; state = q; waiting = [] }) (start_by flow (slice_get flow.functions flow.main) s refl)

pub begin_is : (flow : Flow) (input : List ℤ) (f : ℕ → Content) (rows arrays : List (List Content)) (passed : List (Option ℕ)) (base : ℕ) (left : List ℤ) (out : List ℕ) (ws : List Waiting) → passed ≡ [] → ((v : ℕ) → f v ≡ None) → rows ≡ map words_at_start flow.globals →
    arrays ≡ rows ++ undefined_all (own_in flow (slice_get flow.functions flow.main)) → base ≡ length rows → left ≡ input → out ≡ [] → ws ≡ [] →
    record { function = flow.main; block = 0; passed = passed; base = base; state = record { values = f; arrays = arrays; input = left; out = out }; waiting = stacked [] ws } ≡ start flow input
begin_is flow input f rows arrays passed base left out ws p h r a b i o w =
    ap (λ q. record { function = flow.main; block = 0; passed = q; base = base; state = record { values = f; arrays = arrays; input = left; out = out }; waiting = stacked [] ws }) p
    ∙ ap (λ q. record { function = flow.main; block = 0; passed = []; base = base; state = record { values = f; arrays = arrays; input = q; out = out }; waiting = stacked [] ws }) i
    ∙ ap (λ q. record { function = flow.main; block = 0; passed = []; base = base; state = record { values = f; arrays = arrays; input = input; out = q }; waiting = stacked [] ws }) o
    ∙ ap (λ q. record { function = flow.main; block = 0; passed = []; base = base; state = record { values = f; arrays = arrays; input = input; out = [] }; waiting = stacked [] q }) w
    ∙ start_is flow input f rows arrays base h r a b

-- steps

hop_by : (flow : Flow) (m : Machine) (o : Option Graph) → body_hop (program_of flow) (active_of m) (option_map (body_of (length flow.globals)) o) ≡ graph_hop flow o m.passed.items m.base m.block (state_of m.storage)
hop_by flow m None = refl
hop_by flow m (Some g) = refl

pub hop_is : (flow : Flow) (m : Machine) → hop (program_of flow) (active_of m) ≡ graph_hop flow (slice_get flow.functions m.function) m.passed.items m.base m.block (state_of m.storage)
hop_is flow m = hop_by flow m (slice_get flow.functions m.function)

wrong_ends : (ending : Option Ending) (out other : List ℕ) (m : Machine) → IsStep ending (Over (Outcome.Wrong out)) m → IsStep ending (Over (Outcome.Wrong other)) m
wrong_ends None out other m h = absurd (cc)
wrong_ends (Some (Ending.Ends n)) out other m h = absurd (cc)
wrong_ends (Some (Ending.Traps k)) out other m h = absurd (cc)
wrong_ends (Some Ending.Wrong) out other m h = (other, refl)

-- what follows a block does not depend on the state before it, but for the output where it has no meaning
pub step_after : (ending : Option Ending) (p : Program) (r : Active) (t : State) (h : Hop) (m : Machine) → IsStep ending (after_hop p (record r { state = t }) h) m → IsStep ending (after_hop p r h) m
step_after ending p r t (Hop.Arrives b c s) m k = k
step_after ending p r t (Hop.Calls g arguments result b next s) m k = k
step_after ending p r t (Hop.Leaves n s) m k = k
step_after ending p r t (Hop.Stops trap s) m k = k
step_after ending p r t Hop.Wrong m k = wrong_ends ending t.out r.state.out m k

pub entered_is : (a : Active) (g : ℕ) (values : ℕ → Content) (given : List (Option ℕ)) (own : List Array) (result : Option ℕ) (to : ℕ) (passed : List (Option ℕ)) (base : ℕ) (f : ℕ → Content) (arrays : List (List Content)) (ws : List Frame) → passed ≡ given → base ≡ length a.state.arrays → f ≡ values →
    arrays ≡ a.state.arrays ++ undefined_all own → ws ≡ waits a result a.block to a.state ∷ a.waiting →
    record { function = g; block = 0; passed = passed; base = base; state = record (a.state) { values = f; arrays = arrays }; waiting = ws } ≡ entered_by a g values given own result to
entered_is a g values given own result to passed base f arrays ws p b v r w =
    ap (λ q. record { function = g; block = 0; passed = q; base = base; state = record (a.state) { values = f; arrays = arrays }; waiting = ws }) p
    ∙ ap (λ q. record { function = g; block = 0; passed = given; base = q; state = record (a.state) { values = f; arrays = arrays }; waiting = ws }) b
    ∙ ap (λ q. record { function = g; block = 0; passed = given; base = length a.state.arrays; state = record (a.state) { values = q; arrays = arrays }; waiting = ws }) v
    ∙ ap (λ q. record { function = g; block = 0; passed = given; base = length a.state.arrays; state = record (a.state) { values = values; arrays = q }; waiting = ws }) r
    ∙ ap (λ q. record { function = g; block = 0; passed = given; base = length a.state.arrays; state = record (a.state) { values = values; arrays = a.state.arrays ++ undefined_all own }; waiting = q }) w

-- what is passed to the function that is called
pub passed_is : (globals : ℕ) (arrays : ℕ) (graph : Graph) (arguments : List ℤ) (f : ℕ → Content) (own : List Array) (o : Option (List (Option ℕ))) → ((v : ℕ) → f v ≡ at_entry graph.parameters arguments v) → own ≡ drop globals graph.arrays → spots_held arrays f (bases_in own) ≡ o →
    spots_held arrays (at_entry graph.parameters arguments) (bases_of globals graph) ≡ o
passed_is globals arrays graph arguments f own o v e k = ap (λ q. spots_held arrays q (bases_of globals graph)) (sym (fun_ext v)) ∙ ap (λ q. spots_held arrays f (bases_in q)) (sym e) ∙ k

pub enters_is : (globals : ℕ) (r : Active) (g : ℕ) (graph : Graph) (arguments : List ℤ) (result : Option ℕ) (to : ℕ) (f : ℕ → Content) (passed : List (Option ℕ)) (own : List Array) (a : Active) → ((v : ℕ) → f v ≡ at_entry graph.parameters arguments v) → own ≡ drop globals graph.arrays →
    spots_held (length r.state.arrays) f (bases_in own) ≡ Some passed → a ≡ entered_by r g f passed own result to → called_by r globals g (Some graph) arguments result to ≡ On a
enters_is globals r g graph arguments result to f passed own a v o k e =
    ap (enters_passed g (body_of globals graph) arguments r.state (waits r result r.block to r.state ∷ r.waiting)) (passed_is globals (length r.state.arrays) graph arguments f own (Some passed) v o k)
    ∙ ap (λ q. Step.On (entered_by r g (at_entry graph.parameters arguments) passed q result to)) (sym o)
    ∙ ap (λ q. Step.On (entered_by r g q passed own result to)) (sym (fun_ext v))
    ∙ ap Step.On (sym e)

-- the run is wrong where a base holds no spot of an array
pub enters_wrong : (globals : ℕ) (r : Active) (g : ℕ) (graph : Graph) (arguments : List ℤ) (result : Option ℕ) (to : ℕ) (f : ℕ → Content) (own : List Array) → ((v : ℕ) → f v ≡ at_entry graph.parameters arguments v) → own ≡ drop globals graph.arrays →
    spots_held (length r.state.arrays) f (bases_in own) ≡ None → called_by r globals g (Some graph) arguments result to ≡ Over (Outcome.Wrong r.state.out)
enters_wrong globals r g graph arguments result to f own v o k =
    ap (enters_passed g (body_of globals graph) arguments r.state (waits r result r.block to r.state ∷ r.waiting)) (passed_is globals (length r.state.arrays) graph arguments f own None v o k)

pub full_stops : (flow : Flow) (r : Active) (g : ℕ) (arguments : List ℤ) (result : Option ℕ) (to : ℕ) → nat_le deepest (length r.waiting + 1) ≡ true → after_hop (program_of flow) r (Hop.Calls g arguments result r.block to r.state) ≡ Over (Traps Depth r.state.out)
full_stops flow r g arguments result to e = ap (λ b. cond b (Step.Over (Traps Depth r.state.out)) (called_by r (length flow.globals) g (slice_get flow.functions g) arguments result to)) e

pub calls_on : (flow : Flow) (r : Active) (g : ℕ) (arguments : List ℤ) (result : Option ℕ) (to : ℕ) → nat_le deepest (length r.waiting + 1) ≡ false →
    after_hop (program_of flow) r (Hop.Calls g arguments result r.block to r.state) ≡ called_by r (length flow.globals) g (slice_get flow.functions g) arguments result to
calls_on flow r g arguments result to e = ap (λ b. cond b (Step.Over (Traps Depth r.state.out)) (called_by r (length flow.globals) g (slice_get flow.functions g) arguments result to)) e

-- runs

pub run_on : (p : Program) (n k : ℕ) (r s : Active) → n ≡ suc k → next p r ≡ On s → program_run p n r ≡ program_run p k s
run_on p n k r s e f = ap (λ m. program_run p m r) e ∙ ap (λ x. step_then (program_run p k) x) f

pub run_over : (p : Program) (n k : ℕ) (r : Active) (o : Outcome) → n ≡ suc k → next p r ≡ Over o → program_run p n r ≡ o
run_over p n k r o e f = ap (λ m. program_run p m r) e ∙ ap (λ x. step_then (program_run p k) x) f

pub run_none : (p : Program) (n : ℕ) (r : Active) → n ≡ 0 → program_run p n r ≡ Goes r.state.out
run_none p n r e = ap (λ m. program_run p m r) e

-- a step that goes on
pub step_on : (ending : Option Ending) (step : Step Active) (m : Machine) → ending ≡ None → IsStep ending step m → step ≡ On (active_of m)
step_on ending step m e h = subst (λ x. IsStep x step m) e h

-- a step that ends the run
ends_so : (how : Ending) (p : Program) (n k : ℕ) (r : Active) (m : Machine) → n ≡ suc k → IsStep (Some how) (next p r) m → IsOutcome (Some how) m.storage.out.items (program_run p n r)
ends_so (Ending.Ends x) p n k r m e h = run_over p n k r (Ends x m.storage.out.items) e h
ends_so (Ending.Traps t) p n k r m e h = run_over p n k r (Traps t m.storage.out.items) e h
ends_so Ending.Wrong p n k r m e h = let (out, is) = h in (out, run_over p n k r (Outcome.Wrong out) e is)

pub run_ends : (ending : Option Ending) (how : Ending) (p : Program) (n k : ℕ) (r : Active) (m : Machine) → n ≡ suc k → ending ≡ Some how → IsStep ending (next p r) m → IsOutcome (Some how) m.storage.out.items (program_run p n r)
run_ends ending how p n k r m e s h = ends_so how p n k r m e (subst (λ x. IsStep x (next p r) m) s h)
