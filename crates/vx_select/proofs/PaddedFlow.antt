-- A flow of a program whose graphs get more values that no operation names stays one.
use Rattle.std.proofs.Common.{◌≡◌, ◌⊎◌, inl, inr, ℕ, zero, suc, ◌≤◌, ◌*◌, ℤ, List, [], ◌∷◌, ◌++◌, length, slice_get, Option, Some, None, refl, sym, ap, subst, ◌∙◌}
use Rattle.std.specs.Prelude.{count_by}
use Rattle.std.specs.Option.{option_map}
use Rattle.std.proofs.Math.Path.{fun_ext}
use Rattle.vx_base.specs.Outcome.{Same, NeverFails}
use Rattle.vx_ast.specs.Tree.{Function, Program as SourceProgram}
use Rattle.vx_ast.specs.Meaning.{source}
use Rattle.vx_ast.specs.Accepted.{function_nodes}
use Rattle.vx_base.specs.declared.arithmetic.Code.TheVariants.{Mov}
use Rattle.vx_base.specs.declared.outcome.Trap.{Trap}
use Rattle.vx_flow.specs.declared.graph.Bank.{Bank}
use Rattle.vx_flow.specs.declared.graph.Bank.TheVariants.{General, Branch}
use Rattle.vx_flow.specs.declared.graph.Op.{Op}
use Rattle.vx_flow.specs.declared.graph.Op.TheVariants.{Compute, Place, Text, Across, Base, PlaceIn}
use Rattle.vx_flow.specs.declared.graph.Exit.{Exit}
use Rattle.vx_flow.specs.declared.graph.Exit.TheVariants.{Call, Return}
use Rattle.vx_flow.specs.declared.graph.Operand.{Operand}
use Rattle.vx_flow.specs.declared.graph.Operand.TheVariants.{Held, Number, Stack}
use Rattle.vx_flow.specs.declared.graph.Graph.{Graph}
use Rattle.vx_flow.specs.declared.graph.Flow.{Flow}
use Rattle.vx_flow.specs.Meaning.{Body, Program, body_of, program_of, program_run, at_start, globals_at_start, graph_run}
use Rattle.vx_flow.specs.Sound.{bank_written, Has, IsOperandOf, HasOperation, HasExit, IsPlace, in_own, in_handed, IsBase, given, made, Sound, SoundFlow}
use Rattle.vx_flow.proofs.SoundFlowLaw.{flow_is, flow_of}
use Rattle.vx_lower.specs.FlowOf.{EndsBy, is_general, is_branch, GraphOf}
use Rattle.vx_shape.specs.Flows.{with_graphs, Each}
use Rattle.vx_shape.proofs.Pairs.{At, each_at, each_length}
use Rattle.vx_select.specs.Padding.{Padded, PaddedStays}
use Rattle.vx_select.proofs.Kept.{Keeps, came, new_sound}

get_more : (xs ys : List Bank) (i : ℕ) (x : Bank) → slice_get xs i ≡ Some x → slice_get (xs ++ ys) i ≡ Some x
get_more [] ys i x e = absurd (cc)
get_more (z ∷ xs) ys zero x e = e
get_more (z ∷ xs) ys (suc i) x e = get_more xs ys i x e

module _ (g : Graph) (more : List Bank) where
  abbrev padded : Graph
  padded = record g { banks = g.banks ++ more }

  has_more : (v : ℕ) (bank : Bank) → Has g v bank → Has padded v bank
  has_more v bank h = get_more g.banks more v bank h

  operand_more : (x : Operand) → IsOperandOf g x → IsOperandOf padded x
  operand_more (Held v) h = get_more g.banks more v General h
  operand_more (Number n) h = h
  operand_more Stack h = h

  as_old : (op : Op) → HasOperation padded op → HasOperation g op
  as_old op at = record { block = at.block; has = at.has; stands = at.stands }

  as_new : (op : Op) → HasOperation g op → HasOperation padded op
  as_new op at = record { block = at.block; has = at.has; stands = at.stands }

  exit_old : (x : Exit) → HasExit padded x → HasExit g x
  exit_old x at = record { block = at.block; has = at.has; ends = at.ends }

  place_old : (v a : ℕ) → IsPlace padded v a → IsPlace g v a
  place_old v a (in_own i at own) = in_own i (as_old (Place v a i) at) own
  place_old v a (in_handed u i at) = in_handed u i (as_old (PlaceIn v a u i) at)

  place_new : (v a : ℕ) → IsPlace g v a → IsPlace padded v a
  place_new v a (in_own i at own) = in_own i (as_new (Place v a i) at) own
  place_new v a (in_handed u i at) = in_handed u i (as_new (PlaceIn v a u i) at)

  base_old : (v : ℕ) → IsBase padded v → IsBase g v
  base_old v (given a e) = given a e
  base_old v (made a x at) = made a x (as_old (Base v a x) at)

  base_new : (v : ℕ) → IsBase g v → IsBase padded v
  base_new v (given a e) = given a e
  base_new v (made a x at) = made a x (as_new (Base v a x) at)

  placed_new : (a : ℕ) (p : Operand) → ((n : ℤ) × (p ≡ Number n)) ⊎ ((v : ℕ) × (p ≡ Held v) × IsPlace g v a) → ((n : ℤ) × (p ≡ Number n)) ⊎ ((v : ℕ) × (p ≡ Held v) × IsPlace padded v a)
  placed_new a p (inl q) = inl q
  placed_new a p (inr q) = inr (q.0, q.1, place_new q.0 a q.2)

  padded_sound : Sound g → Sound padded
  padded_sound s = record {
    parameters = λ v m. has_more v General (s.parameters v m);
    operands = λ op x at m. operand_more x (s.operands op x (as_old op at) m);
    results = λ op v at m. has_more v (bank_written op) (s.results op v (as_old op at) m);
    tests = λ op v at m. has_more v Branch (s.tests op v (as_old op at) m);
    arrays = λ op a at m. s.arrays op a (as_old op at) m;
    exit_operands = λ exit x at m. operand_more x (s.exit_operands exit x (exit_old exit at) m);
    exit_results = λ exit v at m. has_more v General (s.exit_results exit v (exit_old exit at) m);
    exit_tests = λ exit v at m. has_more v Branch (s.exit_tests exit v (exit_old exit at) m);
    targets = λ exit c at m. s.targets exit c (exit_old exit at) m;
    no_across = λ v u at. s.no_across v u (as_old (Across v u) at);
    base_from = λ v a x at. (let m = s.base_from v a x (as_old (Base v a x) at) in record { array = m.array; is = m.is; bare = m.bare; from = m.from });
    place_bare = λ v a i at. s.place_bare v a i (as_old (Place v a i) at);
    place_base = λ v a u i at. s.place_base v a u i (as_old (PlaceIn v a u i) at);
    place_written = λ v a op place at m. s.place_written v a op (place_old v a place) (as_old op at) m;
    place_read = λ v a op place at m. s.place_read v a op (place_old v a place) (as_old op at) m;
    place_parameter = λ v a place m. s.place_parameter v a (place_old v a place) m;
    place_exit = λ v a exit place at m. s.place_exit v a exit (place_old v a place) (exit_old exit at) m;
    placed = λ a p op at access own. placed_new a p (s.placed a p op (as_old op at) access own);
    placed_by = λ a u p op at access e. (let q = s.placed_by a u p op (as_old op at) access e in (q.0, q.1, place_new q.0 a q.2));
    handed = λ a v array e b. s.handed a v array e b;
    base_written = λ v op base at m. s.base_written v op (base_old v base) (as_old op at) m;
    base_parameter = λ v a x at m. s.base_parameter v a x (as_old (Base v a x) at) m;
    base_read = λ v op base at m. s.base_read v op (base_old v base) (as_old op at) m;
    base_result = λ v exit base at m. s.base_result v exit (base_old v base) (exit_old exit at) m;
    base_returned = λ v x base at e. s.base_returned v x (base_old v base) (exit_old (Return x) at) e;
    moves = λ v a b at. s.moves v a b (as_old (Compute Mov v a b) at);
  }

  padded_keeps : Sound g → Keeps g padded
  padded_keeps s = record {
    parameters = refl;
    arrays = refl;
    sound = padded_sound s;
    some = λ h. h;
    texts = λ n at. as_old (Text n) at;
    calls = λ f next arguments result at. (next, exit_old (Call f arguments result next) at);
    bases = base_old;
    bases_stay = base_new;
  }

  abbrev end_old : (b : ℕ) (k : Trap) → EndsBy padded b k → EndsBy g b k
  end_old b k e = record { block = e.block; has = e.has; ends = e.ends }

  end_new : (b : ℕ) (k : Trap) → EndsBy g b k → EndsBy padded b k
  end_new b k e = record { block = e.block; has = e.has; ends = e.ends }

  last_new : (c : ℕ) → (j : Trap) × EndsBy g c j → (j : Trap) × EndsBy padded c j
  last_new c q = (q.0, end_new c q.0 q.1)

  padded_shape : (p : SourceProgram) (f : Function) → count_by is_general padded.banks ≤ 3 * function_nodes f → count_by is_branch padded.banks ≤ 2 * function_nodes f → GraphOf p f g → GraphOf p f padded
  padded_shape p f general branch o = record {
    parameters = o.parameters;
    arrays = o.arrays;
    bases = o.bases;
    trap_empty = λ b k e. o.trap_empty b k (end_old b k e);
    trap_alone = λ b c k e h. o.trap_alone b c k (end_old b k e) (end_old c k h);
    traps_last = λ b c k e l m. last_new c (o.traps_last b c k (end_old b k e) l m);
    short = o.short;
    apart = o.apart;
    uncritical = o.uncritical;
    entry = o.entry;
    general_values = general;
    branch_values = branch;
  }

pub kept : (g h : Graph) → Sound g → Padded g h → Keeps g h
kept g h s r = subst (Keeps g) (sym r.is) (padded_keeps g r.more s)

shaped : (p : SourceProgram) (f : Function) (g h : Graph) → Padded g h → count_by is_general h.banks ≤ 3 * function_nodes f → count_by is_branch h.banks ≤ 2 * function_nodes f → GraphOf p f g → GraphOf p f h
shaped p f g h r general branch o =
    let a = subst (λ (x : Graph). count_by is_general x.banks ≤ 3 * function_nodes f) r.is general in
    let b = subst (λ (x : Graph). count_by is_branch x.banks ≤ 2 * function_nodes f) r.is branch in
    subst (GraphOf p f) (sym r.is) (padded_shape g r.more p f a b o)

-- ---- runs

module _ (flow : Flow) (graphs : List Graph) (each : Each Padded flow.functions graphs) where
  same_body : (n : ℕ) (o q : Option Graph) → At Padded o q → option_map (body_of n) q ≡ option_map (body_of n) o
  same_body n None None a = refl
  same_body n None (Some y) a = absurd a
  same_body n (Some x) None a = absurd a
  same_body n (Some x) (Some y) a = ap (λ z. Some (body_of n z)) a.is

  abbrev with_body : (ℕ → Option Body) → Program
  with_body z = record { globals = length flow.globals; texts = flow.texts; body = z }

  same_program : program_of (with_graphs flow graphs) ≡ program_of flow
  same_program = ap with_body (fun_ext (λ f. same_body (length flow.globals) (slice_get flow.functions f) (slice_get graphs f) (each_at Padded flow.functions graphs each f)))

  same_run : (input : List ℤ) → graph_run (with_graphs flow graphs) input ≡ graph_run flow input
  same_run input = λ i n. program_run (same_program i) n (at_start (same_program i) flow.main (globals_at_start flow input))

pub padded_stays : PaddedStays
padded_stays p flow graphs each bounded o =
    let s : SoundFlow flow = flow_is flow o.sound in
    record {
      sound = flow_of (with_graphs flow graphs) (new_sound Padded kept flow graphs each s);
      count = each_length Padded flow.functions graphs each ∙ o.count;
      graphs = λ f function h e q.
          let c = came Padded kept flow graphs each s f h q in
          let b = bounded f function h e q in
          shaped p function c.graph h c.related b.0 b.1 (o.graphs f function c.graph e c.is);
      globals = o.globals;
      main = o.main;
      runs = record {
        same = λ input numbers. subst (Same (source p input)) (sym (same_run flow graphs each input)) (o.runs.same input numbers);
        never_wrong = λ input numbers. subst NeverFails (sym (same_run flow graphs each input)) (o.runs.never_wrong input numbers);
      };
    }
