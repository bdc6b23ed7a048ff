-- The graphs of an accepted program are sound and have the shape that the later layers ask for.
use Rattle.std.proofs.Common.{◌≡◌, ℕ, suc, ◌+◌, ◌*◌, ◌<◌, Bool, true, false, List, [], ◌∷◌, length, Option, Some, None, refl, sym, ap, ◌∙◌, subst, arith, eq-eqb}
use Rattle.std.specs.Prelude.{slice_get, nat_eq}
use Rattle.std.specs.Cmp.Derive.{both_true}
use Rattle.std.proofs.lemmas.Bool.{eqb-true}
use Rattle.std.proofs.lemmas.Option.{slice_get_within, get_or_from_slice_get}
use Rattle.vx_ast.specs.declared.tree.Program.{Program as AProgram}
use Rattle.vx_ast.specs.declared.tree.Takes.{Takes}
use Rattle.vx_ast.specs.declared.tree.Takes.TheVariants.{Number as TakesNumber, Array as TakesArray}
use Rattle.vx_ast.specs.Tree.{Function, Program}
use Rattle.vx_ast.specs.View.{function_of, program_of}
use Rattle.vx_ast.specs.Accepted.{is_accepted, is_main, gives_int, numbers_among, arrays_among, arrays_taken}
use Rattle.vx_flow.specs.declared.graph.Operand.{Operand}
use Rattle.vx_flow.specs.declared.graph.Exit.{Exit}
use Rattle.vx_flow.specs.declared.graph.Exit.TheVariants.{Goto, Split, Call, Return, Ends}
use Rattle.vx_flow.specs.declared.graph.Graph.{Graph}
use Rattle.vx_flow.specs.declared.graph.Flow.{Flow}
use Rattle.vx_flow.specs.Effects.{IsIn}
use Rattle.vx_flow.specs.Sound.{has_parameters, is_text_there, agrees, is_given_base, is_base_operand, hands_over, takes as takes_them, is_call_there, is_block_there, begins_with, is_sound_function, is_sound_flow}
use Rattle.vx_flow.proofs.SoundFlowLaw.{flow_is, text_of, given_base_is, given_base_of}
use Rattle.vx_flow.proofs.SoundBases.{array_of_base, base_of_array}
use Rattle.vx_flow.proofs.SoundLists.{all_of, all_of_at, differs_of}
use Rattle.vx_lower.specs.declared.seen.Seen.{Seen}
use Rattle.vx_lower.specs.declared.seen.Seen.TheVariants.{GlobalArray, OwnArray, Handed}
use Rattle.vx_lower.specs.Seen.{array_for, arrays_from}
use Rattle.vx_lower.specs.FlowOf.{values_taken, FlowOf}
use Rattle.vx_lower.specs.LoweredGraphs.{NamedByNumber, NoneDismissible, SoundInWords}
use Rattle.vx_lower.specs.Graphs.{ShapeOf}
use Rattle.vx_lower.specs.Lowered.{values_for, arrays_seen, AllLowered}
use Rattle.vx_lower.specs.Named.{TakesArguments}
use Rattle.vx_lower.specs.Shape.{HandsOver}
use Rattle.vx_lower.specs.FunctionShape.{known_of, FunctionNamed, GraphShape, GraphsWell}
use Rattle.vx_lower.proofs.Base.{and_two}
use Rattle.vx_lower.proofs.Bodies.{array_at, get_array}
use Rattle.vx_lower.proofs.Facts.{function_suits, main_suits}
use Rattle.vx_lower.proofs.FunctionShaping.{words_fit}
use Rattle.vx_lower.proofs.Naming.{stepped_in, function_named}
use Rattle.vx_lower.proofs.Programs.{runs_as, words_declared}
use Rattle.vx_lower.proofs.Shaping.{get_there, in_at}
use Rattle.vx_lower.proofs.TrapBlocks.{got_map}

-- the functions of an accepted program name what is there
pub functions_named : (source : AProgram) → is_accepted (program_of source) ≡ true → (i : ℕ) (f : Function) → slice_get (program_of source).functions i ≡ Some f → FunctionNamed (program_of source) f
functions_named source accepted i f e =
    let x = got_map function_of source.functions.items i f e in
    let s = function_suits (program_of source) accepted i (function_of x.0) (e ∙ ap Some (sym x.2)) in
    subst (FunctionNamed (program_of source)) x.2 (function_named (program_of source) (function_of x.0) (stepped_in x.0.body.items) s)

-- calls

call_there : (flow : Flow) (g : Graph) (exit : Exit) → ((f next : ℕ) (arguments : List Operand) (result : Option ℕ) → exit ≡ Call f arguments result next → takes_them g arguments (slice_get flow.functions f) ≡ true) → is_call_there flow g exit ≡ true
call_there flow g (Call f arguments result next) k = k f next arguments result refl
call_there flow g (Goto c) k = refl
call_there flow g (Split p c d) k = refl
call_there flow g (Return x) k = refl
call_there flow g (Ends t) k = refl

agree_both : (a b : Bool) → a ≡ true → b ≡ true → agrees a b ≡ true
agree_both true b e f = f
agree_both false b e f = absurd (cc)

agree_none : (a b : Bool) → a ≡ false → b ≡ false → agrees a b ≡ true
agree_none true b e f = absurd (cc)
agree_none false true e f = absurd (cc)
agree_none false false e f = refl

-- what is passed is a base exactly where the value that holds it is one
hand_over : (g h : Graph) (x v : ℕ) (takes : List Takes) (os : List Operand) → HandsOver g takes os → ((u : ℕ) → u < x + numbers_among takes → is_given_base h u ≡ false) → ((j : ℕ) → j < arrays_among takes → (is_given_base h (v + 2 * j) ≡ true) × (is_given_base h (suc (v + 2 * j)) ≡ false)) → hands_over g h os (values_for x v takes) ≡ true
hand_over g h x v [] [] m numbers bases = refl
hand_over g h x v [] (o ∷ os) m numbers bases = absurd m
hand_over g h x v (TakesNumber ∷ takes) [] m numbers bases = absurd m
hand_over g h x v (TakesNumber ∷ takes) (o ∷ os) m numbers bases = both_true (agree_none (is_base_operand g o) (is_given_base h x) m.0 (numbers x (omega arith))) (hand_over g h (suc x) v takes os m.1 (λ u l. numbers u (omega arith)) bases)
hand_over g h x v (TakesArray ∷ takes) [] m numbers bases = absurd m
hand_over g h x v (TakesArray ∷ takes) (o ∷ []) m numbers bases = absurd m
hand_over g h x v (TakesArray ∷ takes) (o ∷ n ∷ os) m numbers bases =
    let e : v + 2 * 0 ≡ v = omega arith in
    let first = bases 0 (omega arith) in
    both_true (agree_both (is_base_operand g o) (is_given_base h v) m.0 (subst (λ z. is_given_base h z ≡ true) e first.0))
    (both_true (agree_none (is_base_operand g n) (is_given_base h (suc v)) m.1 (subst (λ z. is_given_base h (suc z) ≡ false) e first.1))
    (hand_over g h x (suc (suc v)) takes os m.2 numbers (λ j l. let q : v + 2 * suc j ≡ suc (suc v) + 2 * j = omega arith in let y = bases (suc j) (omega arith) in (subst (λ z. is_given_base h z ≡ true) q y.0, subst (λ z. is_given_base h (suc z) ≡ false) q y.1))))

-- the bases of a function's graph are the first values of what is handed over
module _ (p : Program) (f : Function) (h : Graph) (ea : h.arrays ≡ arrays_from 0 (arrays_seen p f)) where
  base_is_first : (u : ℕ) → is_given_base h u ≡ true → (j : ℕ) × (u ≡ f.scalars + 2 * j)
  base_is_first u t =
      let b = given_base_is h u t in
      let y = array_of_base h.arrays b.array u b.base in
      let z = array_at 0 (arrays_seen p f) b.array y.0 (subst (λ arrays. slice_get arrays b.array ≡ Some y.0) ea y.1) in
      by b.array z.0 z.1 (sym (ap (λ array. array.base) z.2) ∙ y.2)
    where
      by : (a : ℕ) (x : Seen) → slice_get (arrays_seen p f) a ≡ Some x → (array_for (0 + a) x).base ≡ Some u → (j : ℕ) × (u ≡ f.scalars + 2 * j)
      by a (GlobalArray n) e q = absurd (cc)
      by a (OwnArray n) e q = absurd (cc)
      by a (Handed base size) e q =
          let k : base ≡ u = cc in
          let y = ((words_fit p f).handed a base size (get_or_from_slice_get (arrays_seen p f) a (Handed base size) (OwnArray 0) e)).1 in
          (y.0, sym k ∙ y.2)

  no_base : (u : ℕ) → ((j : ℕ) → u ≡ f.scalars + 2 * j → ⊥) → is_given_base h u ≡ false
  no_base u far = by (is_given_base h u) refl
    where
      by : (t : Bool) → is_given_base h u ≡ t → is_given_base h u ≡ false
      by false e = e
      by true e = let y = base_is_first u e in absurd (far y.0 y.1)

  first_is_base : (j : ℕ) → j < arrays_taken f → is_given_base h (f.scalars + 2 * j) ≡ true
  first_is_base j l =
      let y = (words_fit p f).all j l in
      let at : slice_get h.arrays y.0 ≡ Some (array_for (0 + y.0) (Handed (f.scalars + 2 * j) (suc (f.scalars + 2 * j)))) = ap (λ z. slice_get z y.0) ea ∙ get_array 0 (arrays_seen p f) y.0 (Handed (f.scalars + 2 * j) (suc (f.scalars + 2 * j))) y.1 in
      given_base_of h (f.scalars + 2 * j) (record { array = y.0; base = base_of_array h.arrays y.0 (array_for (0 + y.0) (Handed (f.scalars + 2 * j) (suc (f.scalars + 2 * j)))) (f.scalars + 2 * j) at refl })

none_taken : (takes : List Takes) → length takes ≡ 0 → values_taken takes ≡ 0
none_taken [] e = refl
none_taken (t ∷ takes) e = absurd (omega arith)

module _ (p : Program) (flow : Flow) (accepted : is_accepted p ≡ true) (all : AllLowered p flow) (shapes : (i : ℕ) (f : Function) (g : Graph) → slice_get p.functions i ≡ Some f → slice_get flow.functions i ≡ Some g → ShapeOf p f g) (well : GraphsWell p p.functions flow.functions flow.texts) (named : (i : ℕ) (f : Function) → slice_get p.functions i ≡ Some f → FunctionNamed p f) where
  -- a function of the program has its graph
  graph_for : (i : ℕ) (f : Function) → slice_get p.functions i ≡ Some f → (g : Graph) × (slice_get flow.functions i ≡ Some g)
  graph_for i f e = let n = all.count in let w = slice_get_within p.functions i f e in get_there flow.functions i (omega arith)

  main_takes : has_parameters 0 (slice_get flow.functions flow.main) ≡ true
  main_takes = subst (λ n. has_parameters 0 (slice_get flow.functions n) ≡ true) (sym all.main) (one (slice_get p.functions p.main) refl)
    where
      one : (o : Option Function) → slice_get p.functions p.main ≡ o → has_parameters 0 (slice_get flow.functions p.main) ≡ true
      one None e = let z : is_main None ≡ true = sym (ap is_main e) ∙ main_suits p accepted in absurd (cc)
      one (Some f) e =
          let none : length f.takes ≡ 0 = eqb-true (length f.takes) 0 (and_two (gives_int f.gives) (nat_eq (length f.takes) 0) (sym (ap is_main e) ∙ main_suits p accepted)) in
          let g = graph_for p.main f e in
          subst (λ o. has_parameters 0 o ≡ true) (sym g.1) (eq-eqb (length g.0.parameters) 0 ((shapes p.main f g.0 e g.1).parameters ∙ none_taken f.takes none))

  -- the function that a graph belongs to
  graph_shape : (i : ℕ) (g : Graph) → slice_get flow.functions i ≡ Some g → (f : Function) × GraphShape p f g (length flow.texts)
  graph_shape i g e =
      let n = all.count in let w = slice_get_within flow.functions i g e in
      let f = get_there p.functions i (omega arith) in
      (f.0, well i f.0 g f.1 e (named i f.0 f.1))

  called : (n : ℕ) (caller : Function) (g : Graph) (takes : List Takes) (os : List Operand) → TakesArguments (known_of p caller) n takes → HandsOver g takes os → takes_them g os (slice_get flow.functions n) ≡ true
  called n caller g takes os h m =
      let x = got_map (λ y. y.takes) p.functions n takes h in
      let f = x.0 in
      let y = graph_for n f x.1 in
      let l = all.lowered n f y.0 x.1 y.1 in
      let is = named n f x.1 in
      let few = is.parameters in let counts = is.counts in
      subst (λ o. takes_them g os o ≡ true) (sym y.1) (subst (λ z. hands_over g y.0 os z ≡ true) (sym l.parameters)
      (hand_over g y.0 0 f.scalars f.takes os (subst (λ z. HandsOver g z os) (sym x.2) m)
      (λ u b. no_base p f y.0 l.arrays u (λ j e. omega arith))
      (λ j b. (first_is_base p f y.0 l.arrays j b, no_base p f y.0 l.arrays (suc (f.scalars + 2 * j)) (λ i e. omega arith)))))

  function_sound : (i : ℕ) (g : Graph) → slice_get flow.functions i ≡ Some g → is_sound_function flow g ≡ true
  function_sound i g e =
      let x = graph_shape i g e in
      let s = x.1 in
      let some = s.shape.some in
      both_true (both_true (both_true (both_true s.shape.sound (differs_of (length g.blocks) 0 (λ q. omega arith))) s.distinct)
      (subst (λ z. begins_with z g.arrays ≡ true) (sym all.globals) s.globals))
      (all_of (is_block_there flow g) g.blocks (λ block m. both_true
      (all_of (is_text_there flow) block.ops (λ op n. text_of flow op (λ t q. s.shape.texts_there t (record { block = block; has = m; stands = subst (λ z. IsIn z block.ops) q n }))))
      (call_there flow g block.exit (λ f next arguments result q. let c = s.shape.calls f arguments result next (record { block = block; has = m; ends = sym q }) in called f x.0 g c.0 arguments c.1 c.2))))

  pub flow_sound : is_sound_flow flow ≡ true
  flow_sound = both_true main_takes (all_of_at (is_sound_function flow) flow.functions function_sound)

  pub all_named : (g : Graph) → IsIn g flow.functions → NamedByNumber g
  all_named g m = let at = in_at flow.functions g m in (graph_shape at.0 g at.1).1.named

  pub none_dismissible : (g : Graph) → IsIn g flow.functions → NoneDismissible g
  none_dismissible g m = let at = in_at flow.functions g m in (graph_shape at.0 g at.1).1.shape.loads

  pub flow_of : FlowOf p flow
  flow_of = record {
    sound = flow_sound;
    count = all.count;
    graphs = λ i f g e q.
        let a = shapes i f g e q in
        let b = well i f g e q (named i f e) in
        record {
          parameters = a.parameters;
          arrays = a.arrays;
          bases = a.bases;
          trap_empty = a.trap_empty;
          trap_alone = a.trap_alone;
          traps_last = a.traps_last;
          short = a.short;
          apart = b.shape.apart;
          uncritical = b.shape.uncritical;
          entry = b.shape.entry;
          general_values = b.general_values;
          branch_values = b.branch_values;
        };
    globals = words_declared p flow all;
    main = all.main;
    runs = runs_as p flow accepted all;
  }

-- what the test says in words
pub in_words : SoundInWords
in_words p flow o = flow_is flow o.sound
