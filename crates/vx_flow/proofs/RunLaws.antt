-- The output of a run only grows.
use Rattle.std.proofs.Common.{◌≡◌, ℕ, ℤ, Bool, true, false, cond, nat_le, List, [], ◌∷◌, ◌++◌, length, map, slice_get, Option, Some, None, refl, subst, ◌+◌}
use Rattle.std.specs.Option.{option_map}
use Rattle.vx_base.specs.Outcome.{Outcome, Begins, Steady, Step, On, Over, output_of}
use Rattle.vx_base.proofs.Same.{begins_self, begins_on}
use Rattle.vx_base.proofs.Runs.{Grows, run_steady}
use Rattle.vx_flow.specs.declared.graph.Op.{Op}
use Rattle.vx_flow.specs.declared.graph.Op.TheVariants.{Load, Store, Input, Text, Decimal}
use Rattle.vx_flow.specs.declared.graph.Exit.{Exit}
use Rattle.vx_flow.specs.declared.graph.Exit.TheVariants.{Goto, Split, Call, Return, Ends}
use Rattle.vx_flow.specs.declared.graph.Block.{Block}
use Rattle.vx_flow.specs.declared.graph.Graph.{Graph}
use Rattle.vx_flow.specs.declared.graph.Flow.{Flow}
use Rattle.vx_flow.specs.Effects.{Content, State, Setting, held, is_one, effect, loaded, stored, next_input, printed, text_at}
use Rattle.vx_flow.specs.Meaning.{Hop, Arrives, Calls, Leaves, Stops, Wrong, known, by_test, calls, leaves, leave, and_then, block_hop, hop_of, Body, Program, Frame, Active, deepest, at_entry, spots_held, enters_passed, enters, returned, waits, after_hop, body_hop, hop, next, body_of, program_of, setting_with, start, graph_run}
use Rattle.std.specs.Fmt.{signed_decimal}

longer : (xs ys : List ℕ) → Begins xs (xs ++ ys)
longer xs ys = record { rest = ys; is = refl }

-- what a result keeps of the output
abbrev Keeps : List ℕ → Option State → Type 0
Keeps out None = Unit {0}
Keeps out (Some t) = Begins out t.out

loaded_keeps : (t : State) (v : ℕ) (row : List Content) (i : Option ℕ) (d : Bool) → Keeps t.out (loaded t v row i d)
loaded_keeps t v row None true = begins_self t.out
loaded_keeps t v row None false = tt
loaded_keeps t v row (Some i) d = begins_self t.out

stored_keeps : (t : State) (a : ℕ) (i : Option ℕ) (x : Content) → Keeps t.out (stored t a i x)
stored_keeps t a None x = tt
stored_keeps t a (Some i) None = tt
stored_keeps t a (Some i) (Some n) = begins_self t.out

input_keeps : (t : State) (v : ℕ) (ns : List ℤ) → Keeps t.out (next_input t v ns)
input_keeps t v [] = tt
input_keeps t v (n ∷ ns) = begins_self t.out

printed_keeps : (t : State) (x : Content) → Keeps t.out (printed t t.out x)
printed_keeps t None = tt
printed_keeps t (Some n) = longer t.out (signed_decimal n)

effect_keeps : (setting : Setting) (s : State) (op : Op) → Keeps s.out (effect setting s op s)
effect_keeps setting s (Load v a p d) = loaded_keeps s v _ _ d
effect_keeps setting s (Store a p x) = stored_keeps s _ _ (held s x)
effect_keeps setting s (Input v) = input_keeps s v s.input
effect_keeps setting s (Text n) = longer s.out (text_at setting n)
effect_keeps setting s (Decimal x) = printed_keeps s (held s x)
effect_keeps setting s op = begins_self s.out

abbrev HopKeeps : List ℕ → Hop → Type 0
HopKeeps out (Arrives from to t) = Begins out t.out
HopKeeps out (Calls g arguments result from next t) = Begins out t.out
HopKeeps out (Leaves n t) = Begins out t.out
HopKeeps out (Stops k t) = Begins out t.out
HopKeeps out Wrong = Unit {0}

test_keeps : (out : List ℕ) (x : Content) (a b : Hop) → HopKeeps out a → HopKeeps out b → HopKeeps out (by_test x a b)
test_keeps out None a b h k = tt
test_keeps out (Some z) a b h k = elim (is_one z) as (λ t. HopKeeps out (cond t a b)) [ true ↦ h | false ↦ k ]

calls_keep : (g : ℕ) (xs : Option (List ℤ)) (result : Option ℕ) (from to : ℕ) (s : State) → HopKeeps s.out (calls g xs result from to s)
calls_keep g None result from to s = tt
calls_keep g (Some xs) result from to s = begins_self s.out

leaves_keep : (x : Content) (s : State) → HopKeeps s.out (leaves x s)
leaves_keep None s = tt
leaves_keep (Some n) s = begins_self s.out

leave_keeps : (b : ℕ) (exit : Exit) (s : State) → HopKeeps s.out (leave b exit s)
leave_keeps b (Goto c) s = begins_self s.out
leave_keeps b (Split p c d) s = test_keeps s.out (s.values p) (Arrives b c s) (Arrives b d s) (begins_self s.out) (begins_self s.out)
leave_keeps b (Call g arguments result next) s = calls_keep g (known (map (held s) arguments)) result b next s
leave_keeps b (Return x) s = leaves_keep (held s x) s
leave_keeps b (Ends k) s = begins_self s.out

hop_on : (xs ys : List ℕ) (h : Hop) → Begins xs ys → HopKeeps ys h → HopKeeps xs h
hop_on xs ys (Arrives from to t) b k = begins_on xs ys t.out b k
hop_on xs ys (Calls g arguments result from next t) b k = begins_on xs ys t.out b k
hop_on xs ys (Leaves n t) b k = begins_on xs ys t.out b k
hop_on xs ys (Stops r t) b k = begins_on xs ys t.out b k
hop_on xs ys Wrong b k = tt

then_keeps : (out : List ℕ) (o : Option State) (f : State → Hop) → Keeps out o → ((t : State) → HopKeeps t.out (f t)) → HopKeeps out (and_then o f)
then_keeps out None f k h = tt
then_keeps out (Some t) f k h = hop_on out t.out (f t) k (h t)

block_keeps : (setting : Setting) (b : ℕ) (ops : List Op) (exit : Exit) (s : State) → HopKeeps s.out (block_hop setting b ops exit s)
block_keeps setting b [] exit s = leave_keeps b exit s
block_keeps setting b (op ∷ ops) exit s = then_keeps s.out (effect setting s op s) (block_hop setting b ops exit) (effect_keeps setting s op) (block_keeps setting b ops exit)

hop_of_keeps : (setting : Setting) (b : ℕ) (o : Option Block) (s : State) → HopKeeps s.out (hop_of setting b o s)
hop_of_keeps setting b None s = tt
hop_of_keeps setting b (Some k) s = block_keeps setting b k.ops k.exit s

-- programs whose bodies keep the output

abbrev pub BodyKeeps : Option Body → Type 0
BodyKeeps None = Unit {0}
BodyKeeps (Some body) = (setting : Setting) (b : ℕ) (s : State) → HopKeeps s.out (body.hop setting b s)

abbrev StepKeeps : List ℕ → Step Active → Type 0
StepKeeps out (On r) = Begins out r.state.out
StepKeeps out (Over o) = Begins out (output_of o)

body_keeps : (p : Program) (r : Active) (o : Option Body) → BodyKeeps o → HopKeeps r.state.out (body_hop p r o)
body_keeps p r None k = tt
body_keeps p r (Some body) k = k (setting_with p r.passed r.base) r.block r.state

enters_keeps : (out : List ℕ) (g : ℕ) (o : Option Body) (xs : List ℤ) (s : State) (fs : List Frame) → Begins out s.out → StepKeeps out (enters g o xs s fs)
enters_keeps out g None xs s fs k = k
enters_keeps out g (Some body) xs s fs k = by (spots_held (length s.arrays) (at_entry body.parameters xs) body.bases)
  where
    by : (o : Option (List (Option ℕ))) → StepKeeps out (enters_passed g body xs s fs o)
    by None = k
    by (Some passed) = k

returned_keeps : (out : List ℕ) (n : ℤ) (s : State) (base : ℕ) (fs : List Frame) → Begins out s.out → StepKeeps out (returned n s base fs)
returned_keeps out n s base [] k = k
returned_keeps out n s base (f ∷ fs) k = k

cond_keeps : (out : List ℕ) (t : Bool) (a b : Step Active) → StepKeeps out a → StepKeeps out b → StepKeeps out (cond t a b)
cond_keeps out true a b h k = h
cond_keeps out false a b h k = k

after_keeps : (p : Program) (r : Active) (h : Hop) → HopKeeps r.state.out h → StepKeeps r.state.out (after_hop p r h)
after_keeps p r (Arrives from to s) k = k
after_keeps p r (Calls g xs result from to s) k =
    cond_keeps r.state.out (nat_le deepest (length r.waiting + 1)) _ (enters g (p.body g) xs s (waits r result from to s ∷ r.waiting)) k (enters_keeps r.state.out g (p.body g) xs s (waits r result from to s ∷ r.waiting) k)
after_keeps p r (Leaves n s) k = returned_keeps r.state.out n s r.base r.waiting k
after_keeps p r (Stops t s) k = k
after_keeps p r Wrong k = begins_self r.state.out

step_on : (out : List ℕ) (x : Step Active) (r : Active) → StepKeeps out x → x ≡ On r → Begins out r.state.out
step_on out x r k e = subst (StepKeeps out) e k

step_over : (out : List ℕ) (x : Step Active) (o : Outcome) → StepKeeps out x → x ≡ Over o → Begins out (output_of o)
step_over out x o k e = subst (StepKeeps out) e k

pub program_grows : (p : Program) → ((f : ℕ) → BodyKeeps (p.body f)) → Grows (next p) (λ r. r.state.out)
program_grows p k = record {
  on = λ s t e. step_on s.state.out (next p s) t (after_keeps p s (hop p s) (body_keeps p s (p.body s.function) (k s.function))) e;
  over = λ s o e. step_over s.state.out (next p s) o (after_keeps p s (hop p s) (body_keeps p s (p.body s.function) (k s.function))) e;
}

graph_body_keeps : (globals : ℕ) (o : Option Graph) → BodyKeeps (option_map (body_of globals) o)
graph_body_keeps globals None = tt
graph_body_keeps globals (Some g) = λ setting b s. hop_of_keeps setting b (slice_get g.blocks b) s

pub flow_grows : (flow : Flow) → Grows (next (program_of flow)) (λ r. r.state.out)
flow_grows flow = program_grows (program_of flow) (λ f. graph_body_keeps (length flow.globals) (slice_get flow.functions f))

pub graph_run_steady : (flow : Flow) (input : List ℤ) → Steady (graph_run flow input)
graph_run_steady flow input = run_steady (next (program_of flow)) (λ r. r.state.out) (flow_grows flow) (start flow input)
