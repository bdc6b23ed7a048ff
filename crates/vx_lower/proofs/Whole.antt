-- The graphs of a program do what the program does.
use Rattle.std.proofs.Common.{◌≡◌, ℕ, zero, suc, ◌+◌, ◌<◌, ◌≤◌, ◌^◌, ℤ, pos, negsuc, true, false, List, [], ◌∷◌, ◌++◌, length, map, replicate, slice_index_or, slice_set, Option, Some, None, refl, sym, ap, ◌∙◌, subst, arith, ltb-true}
use Rattle.std.specs.Prelude.{slice_get, nat_eq}
use Rattle.std.specs.List.{list_all}
use Rattle.std.specs.Int.{w32}
use Rattle.std.proofs.lemmas.Int.{fits_signed_from_abs}
use Rattle.std.proofs.lemmas.Bool.{eqb-true}
use Rattle.std.proofs.lemmas.List.{length-map, nil_from_length}
use Rattle.std.proofs.Math.ListN.{get_or-map}
use Rattle.vx_base.specs.Arithmetic.{IsNumber}
use Rattle.vx_base.specs.Outcome.{Ends, FollowsAt, Follows, step_then, run}
use Rattle.vx_base.proofs.Following.{follows_same}
use Rattle.vx_ast.specs.declared.tree.GlobalVariable.{GlobalVariable}
use Rattle.vx_ast.specs.declared.tree.GlobalVariable.TheVariants.{Scalar as ScalarGlobal, Array as ArrayGlobal}
use Rattle.vx_ast.specs.Tree.{Function, Program as TreeProgram}
use Rattle.vx_ast.specs.Meaning.{Store, Part, With, Trapped, Going, Leaves, Falls, Breaks, Continues, Returns, does, spot_in as place_in, result_of, entered as entered_source, activate, active, words_at_start as source_words, at_start as source_start, outcome_of, source}
use Rattle.vx_ast.specs.Accepted.{is_accepted, is_main, gives_int, suits_global, global_words}
use Rattle.vx_flow.specs.declared.graph.Block.{Block}
use Rattle.vx_flow.specs.declared.graph.Graph.{Graph}
use Rattle.vx_flow.specs.declared.graph.Flow.{Flow}
use Rattle.vx_flow.specs.Effects.{State}
use Rattle.vx_flow.specs.Meaning.{Program, spot_in, after_hop, leaves, next, entered_or, program_of, words_at_start as graph_words, globals_at_start, graph_run}
use Rattle.vx_flow.proofs.RunLaws.{graph_run_steady}
use Rattle.vx_lower.specs.FlowOf.{AreNumbers}
use Rattle.vx_lower.specs.Lowered.{global_of, sees_of, AllLowered, LoweringLaw}
use Rattle.vx_lower.proofs.Base.{and_one, and_two}
use Rattle.vx_lower.proofs.Steps.{Here, active_at, rest_run, Gives, arrival}
use Rattle.vx_lower.proofs.Values.{zero_fits}
use Rattle.vx_lower.proofs.Calls.{Fronts, fronts_on, deep, has_blocks, start_state, Rows, Handing, tied_start, Ended, Endings, body_ends, calls_meet, graph_there, count_globals, body_there}
use Rattle.vx_lower.proofs.Passing.{same_spots}
use Rattle.vx_lower.proofs.Facts.{globals_suit, main_suits, numbers_are, few_own, few_global, zeros_fit, RowsFit, length_replicate}

known_zeros : (n : ℕ) → replicate n (Some (pos 0)) ≡ map Some (replicate n (pos 0))
known_zeros zero = refl
known_zeros (suc n) = ap (λ r. Some (pos 0) ∷ r) (known_zeros n)

zero_row : (n : ℕ) → slice_set (replicate n (Some (pos 0))) 0 (Some (pos 0)) ≡ map Some (replicate n (pos 0))
zero_row zero = refl
zero_row (suc n) = ap (λ r. Some (pos 0) ∷ r) (known_zeros n)

one_row : (v : GlobalVariable) → graph_words (global_of v) ≡ map Some (source_words v)
one_row (ScalarGlobal z) = refl
one_row (ArrayGlobal n) = zero_row n

rows_at_start : (gs : List GlobalVariable) → map graph_words (map global_of gs) ≡ map (map Some) (map source_words gs)
rows_at_start [] = refl
rows_at_start (v ∷ gs) = ap (λ r. r ∷ map graph_words (map global_of gs)) (one_row v) ∙ ap (λ rs. map Some (source_words v) ∷ rs) (rows_at_start gs)

shape_at_start : (gs : List GlobalVariable) → map (λ z. length z) (map source_words gs) ≡ map global_words gs
shape_at_start [] = refl
shape_at_start (ScalarGlobal z ∷ gs) = ap (λ ns. 1 ∷ ns) (shape_at_start gs)
shape_at_start (ArrayGlobal n ∷ gs) = ap (λ m. m ∷ map (λ z. length z) (map source_words gs)) (length_replicate n (pos 0)) ∙ ap (λ ns. n ∷ ns) (shape_at_start gs)

known_shape : (xs : List (List ℤ)) → map (λ z. length z) (map (map Some) xs) ≡ map (λ z. length z) xs
known_shape [] = refl
known_shape (x ∷ xs) = ap (λ n. n ∷ map (λ z. length z) (map (map Some) xs)) (length-map x Some) ∙ ap (λ ns. length x ∷ ns) (known_shape xs)

word_fits : (v : GlobalVariable) → suits_global v ≡ true → (j : ℕ) → IsNumber (slice_index_or (source_words v) j (pos 0))
word_fits (ScalarGlobal (pos n)) e zero = let h : n < 2 ^ 31 = ltb-true n (2 ^ 31) e in fits_signed_from_abs w32 (pos n) (omega arith)
word_fits (ScalarGlobal (negsuc n)) e zero = let h : n < 2 ^ 31 = ltb-true n (2 ^ 31) e in record { sfits = omega arith }
word_fits (ScalarGlobal z) e (suc j) = zero_fits
word_fits (ArrayGlobal n) e j = zeros_fit n j

words_fit : (gs : List GlobalVariable) → list_all suits_global gs ≡ true → RowsFit (map source_words gs)
words_fit [] e p j = zero_fits
words_fit (v ∷ gs) e zero j = word_fits v (and_one (suits_global v) (list_all suits_global gs) e) j
words_fit (v ∷ gs) e (suc p) j = words_fit gs (and_two (suits_global v) (list_all suits_global gs) e) p j

module _ (p : TreeProgram) (flow : Flow) (accepted : is_accepted p ≡ true) (all : AllLowered p flow) (input : List ℤ) (numbers : AreNumbers input) where
  abbrev P : Program
  P = program_of flow

  abbrev store : Store
  store = source_start p input

  abbrev state : State
  state = globals_at_start flow input

  abbrev here : Here
  here = record { function = flow.main; passed = []; base = length (map graph_words flow.globals); waiting = [] }

  abbrev none_kept : ℕ → Type 0
  none_kept q = ⊥

  rows_are : map graph_words flow.globals ≡ map (map Some) (map source_words p.globals)
  rows_are = ap (map graph_words) all.globals ∙ rows_at_start p.globals

  rows_start : (n : ℕ) → Rows flow p accepted all n none_kept (map global_words p.globals) store state
  rows_start n = record {
    kept_rows = λ q k. absurd k;
    global_rows = λ a l. ap (λ z. slice_index_or z a []) rows_are ∙ get_or-map (map Some) (map source_words p.globals) a [];
    shape = ap (λ z. map (λ r. length r) z) rows_are ∙ known_shape (map source_words p.globals) ∙ shape_at_start p.globals;
    source_shape = shape_at_start p.globals;
    input = refl;
    out = refl;
    ranges = record { scalars = λ x. zero_fits; words = words_fit p.globals (globals_suit p accepted); input = numbers };
  }

  base_is : length (map graph_words flow.globals) ≡ length (map global_words p.globals)
  base_is = length-map flow.globals graph_words ∙ ap length all.globals ∙ length-map p.globals global_of ∙ sym (length-map p.globals global_words)

  begins : (n k : ℕ) (g : Graph) (start : Block) → (at : slice_get flow.functions flow.main ≡ Some g) → slice_get g.blocks 0 ≡ Some start → graph_run flow input (suc k) ≡ rest_run P here k (record { block = 0; state = start_state flow p accepted all n g [] state }) start (start_state flow p accepted all n g [] state)
  begins n k g start at at_start =
      ap (λ o. run (next P) (λ q. q.state.out) (suc k) (record { function = flow.main; block = 0; passed = []; base = length (map graph_words flow.globals); state = entered_or o state; waiting = [] })) (body_there flow p accepted all n flow.main g at)
      ∙ arrival P here g.blocks (has_blocks flow here g at) (record { block = 0; state = state }) 0 k start (start_state flow p accepted all n g [] state) at_start

  run_ends : (n : ℕ) (g : Graph) (start : Block) (shapes : List ℕ) (r : ℤ) (σ : Store) → (at : slice_get flow.functions flow.main ≡ Some g) → slice_get g.blocks 0 ≡ Some start → Ended flow p accepted all n here start (start_state flow p accepted all n g [] state) none_kept shapes r σ → (m : ℕ) × (graph_run flow input m ≡ Ends r σ.out)
  run_ends n g start shapes r σ at at_start x =
      let y = x.comes.by (record { block = 0; state = start_state flow p accepted all n g [] state }) in
      let z = y.1 0 in
      (suc z.0, begins n z.0 g start at at_start ∙ z.2 ∙ ap (λ v. step_then (run (next P) (λ q. q.state.out) 0) (after_hop P (active_at here y.0) (leaves v x.to))) x.holds ∙ ap (Ends r) x.out)

  follow : (n : ℕ) (g : Graph) (start : Block) (shapes : List ℕ) → (at : slice_get flow.functions flow.main ≡ Some g) → slice_get g.blocks 0 ≡ Some start → (o : Part Leaves) → Gives P here n start (start_state flow p accepted all n g [] state) (Endings flow p accepted all n here start (start_state flow p accepted all n g [] state) none_kept shapes) o → FollowsAt (graph_run flow input) n (outcome_of (result_of store o))
  follow n g start shapes at at_start (With Falls σ) x = run_ends n g start shapes (pos 0) σ at at_start x
  follow n g start shapes at at_start (With Breaks σ) x = run_ends n g start shapes (pos 0) σ at at_start x
  follow n g start shapes at at_start (With Continues σ) x = run_ends n g start shapes (pos 0) σ at at_start x
  follow n g start shapes at at_start (With (Returns r) σ) x = run_ends n g start shapes r σ at at_start x
  follow n g start shapes at at_start (Trapped k out) x = let y = x (record { block = 0; state = start_state flow p accepted all n g [] state }) in (suc y.0, begins n y.0 g start at at_start ∙ y.1)
  follow n g start shapes at at_start (Going out) x = let y = x (record { block = 0; state = start_state flow p accepted all n g [] state }) in let l = y.1 in (suc y.0, omega arith, begins n y.0 g start at at_start ∙ y.2)

  main_there : (f : Function) × (slice_get p.functions p.main ≡ Some f) × ([] ≡ f.takes)
  main_there = by (slice_get p.functions p.main) refl
    where
      by : (o : Option Function) → slice_get p.functions p.main ≡ o → (f : Function) × (slice_get p.functions p.main ≡ Some f) × ([] ≡ f.takes)
      by None e = absurd (no (sym (ap is_main e) ∙ main_suits p accepted))
        where
          no : false ≡ true → ⊥
          no e = absurd (cc)
      by (Some f) e = (f, e, sym (nil_from_length f.takes (eqb-true (length f.takes) 0 (and_two (gives_int f.gives) (nat_eq (length f.takes) 0) (sym (ap is_main e) ∙ main_suits p accepted)))))

  program_follows : Follows (source p input) (graph_run flow input)
  program_follows n =
      let fn = main_there in
      let g = graph_there flow p accepted all n p.main fn.0 fn.1 in
      let x = all.lowered p.main fn.0 g.0 fn.1 g.1 in
      let at : slice_get flow.functions flow.main ≡ Some g.0 = ap (slice_get flow.functions) all.main ∙ g.1 in
      let gs : List ℕ = map global_words p.globals in
      let len = length-map p.globals global_words in
      let fronts : Fronts gs gs = record { same = λ a l. refl; long = omega arith; few = few_global p accepted } in
      let s1 = start_state flow p accepted all n g.0 [] state in
      let depth : length here.waiting + deep.rest ≡ deep.rest = omega arith in
      let long : length p.globals ≤ length gs = omega arith in
      let handing : Handing flow p accepted all n fn.0 [] gs store state = record { kinds = fn.2; counts = numbers_are p accepted p.main fn.0 fn.1; rows = λ j l. absurd (omega arith) } in
      let start1 = tied_start flow p accepted all n here none_kept gs fn.0 g.0 x [] refl (λ i. zero_fits) store state handing long (rows_start n) in
      let body = body_ends flow p accepted all n here none_kept gs p.main deep.rest fn.0 g.0 x [] fn.1 at fronts refl base_is fn.2 (λ j l. absurd (omega arith)) (calls_meet flow p accepted all n deep.rest here g.0.blocks (has_blocks flow here g.0 at) none_kept (gs ++ fn.0.arrays) (sees_of p fn.0) depth (fronts_on gs gs fn.0.arrays (few_own p accepted p.main fn.0 fn.1) fronts)) (entered_source fn.0 [] store) s1 start1 in
      let followed = follow n g.0 x.start (gs ++ fn.0.arrays) at x.at_start (does (spot_in (length flow.globals) [] (length (map graph_words flow.globals))) (active p deep.rest n) n fn.0.body (entered_source fn.0 [] store)) body in
      let bases : length (map graph_words flow.globals) ≡ length (map source_words p.globals) = base_is ∙ len ∙ sym (length-map p.globals source_words) in
      subst (λ d. FollowsAt (graph_run flow input) n (outcome_of (active p d n p.main [] store))) (sym deep.in_source)
      (subst (λ o. FollowsAt (graph_run flow input) n (outcome_of (activate (length p.globals) o (active p deep.rest n) n [] store))) (sym fn.1)
      (subst (λ b. FollowsAt (graph_run flow input) n (outcome_of (result_of store (does (place_in (length p.globals) [] b) (active p deep.rest n) n fn.0.body (entered_source fn.0 [] store))))) bases
      (subst (λ b. FollowsAt (graph_run flow input) n (outcome_of (result_of store (does (place_in b [] (length (map graph_words flow.globals))) (active p deep.rest n) n fn.0.body (entered_source fn.0 [] store))))) (count_globals flow p accepted all n)
      (subst (λ spot. FollowsAt (graph_run flow input) n (outcome_of (result_of store (does spot (active p deep.rest n) n fn.0.body (entered_source fn.0 [] store))))) (same_spots (length flow.globals) [] (length (map graph_words flow.globals))) followed))))

pub lowering_holds : LoweringLaw
lowering_holds p flow accepted all input numbers = follows_same (source p input) (graph_run flow input) (graph_run_steady flow input) (program_follows p flow accepted all input numbers)
