-- The graphs follow calls.
use Rattle.std.proofs.Common.{◌≡◌, ℕ, zero, suc, ◌+◌, ◌-◌, ◌*◌, ◌<◌, ◌≤◌, ℤ, pos, true, false, cond, List, [], ◌∷◌, ◌++◌, length, map, take, drop, replicate, slice_index_or, Option, Some, None, refl, sym, ap, ◌∙◌, subst, inl, inr, arith, nat_le}
use Rattle.std.specs.Prelude.{slice_get}
use Rattle.std.specs.Option.{option_map}
use Rattle.std.proofs.lemmas.Option.{slice_get_cases}
use Rattle.std.proofs.lemmas.Bool.{cases_lt}
use Rattle.std.proofs.lemmas.List.{length-map, length-append}
use Rattle.vx_base.specs.Arithmetic.{IsNumber}
use Rattle.vx_base.specs.Outcome.{Traps, On, Over, step_then, run}
use Rattle.vx_base.specs.declared.outcome.Trap.TheVariants.{Depth}
use Rattle.vx_ast.specs.declared.tree.Takes.{Takes}
use Rattle.vx_ast.specs.Tree.{Function, Program as TreeProgram}
use Rattle.vx_ast.specs.Meaning.{Store, Part, With, Trapped, Going, Leaves, Falls, Breaks, Continues, Returns, Argument, numbers_given, arrays_given, does, spot_in as place_in, result_of, entered as entered_source, activate, active, deepest as source_deepest}
use Rattle.vx_ast.specs.Accepted.{Scope, scope_after, is_accepted, in_force_at_start, global_words, numbers_taken, arrays_taken, numbers_among, arrays_among, same_takes, can_call}
use Rattle.vx_flow.specs.declared.graph.Operand.{Operand}
use Rattle.vx_flow.specs.declared.graph.Operand.TheVariants.{Number}
use Rattle.vx_flow.specs.declared.graph.Exit.TheVariants.{Call, Return}
use Rattle.vx_flow.specs.declared.graph.Block.{Block}
use Rattle.vx_flow.specs.declared.graph.Graph.{Graph}
use Rattle.vx_flow.specs.declared.graph.Flow.{Flow}
use Rattle.vx_flow.specs.Effects.{State, held}
use Rattle.vx_flow.specs.Meaning.{Body, Program, Frame, known, calls, leaves, hop_of, after_hop, body_hop, next, spot_behind, spot_in, spots_held, enters_with, enters, bases_in, words_in, waits, with_result, at_entry, undefined, entered, own_of, bases_of, body_of, program_of, deepest}
use Rattle.vx_lower.specs.Holds.{Goes, ends}
use Rattle.vx_lower.specs.declared.seen.Seen.TheVariants.{GlobalArray, OwnArray, Handed}
use Rattle.vx_lower.specs.Seen.{Sees, seen_at}
use Rattle.vx_lower.specs.Lowered.{values_for, arrays_seen, sees_of, first_value, global_of, Lowered, AllLowered}
use Rattle.vx_lower.proofs.Base.{SameRow, is_below, and_two}
use Rattle.vx_lower.proofs.Steps.{Here, setting_at, Entry, HasBlocks, active_at, rest_run, Comes, comes_self, comes_on, comes_goes, Gives, shift, arrival}
use Rattle.vx_lower.proofs.Ties.{InRange, InForce, Above, Tied}
use Rattle.vx_lower.proofs.Values.{takes_given, passed_by, AllNumbers, KnownArray, Fitting, CallsMeet, Came_back, zero_fits}
use Rattle.vx_lower.proofs.ActionLaws.{Reaches}
use Rattle.vx_lower.proofs.StatementLaws.{Left, stmt_runs}
use Rattle.vx_lower.proofs.Alike.{alike_self, run_alike}
use Rattle.vx_lower.proofs.Facts.{body_suits, numbers_are, few_own, few_both, scalar_at, named_in_force, in_below, take_past, take_within, front_item, back_item, map_append, take_all, map_take, rows_append, rows_take, rows_zero, lengths_replicate}
use Rattle.vx_lower.proofs.Passing.{same_kinds, count_arrays, entry_number, entry_array, behind_globals, handed_bases, bases_are, words_are, spots_are, same_spots, spot_handed, spot_own, Sees_as, a_global, a_handed, an_own, length_seen, sees_as, in_handed}

spot_global : (g : ℕ) (passed : List (Option ℕ)) (base a : ℕ) → a < g → spot_in g passed base a ≡ a
spot_global g passed base a h = ap (λ b. cond b a (spot_behind passed base (a - g))) (is_below a g h)

-- the globals' words stand at the front, and no array has many words
pub record Fronts (gs shapes : List ℕ) : Type 0 where
  pub same : (a : ℕ) → a < length gs → slice_index_or shapes a 0 ≡ slice_index_or gs a 0
  pub long : length gs ≤ length shapes
  pub few : (k : ℕ) → slice_index_or shapes k 0 ≤ 262144

pub fronts_on : (gs shapes own : List ℕ) → ((k : ℕ) → slice_index_or own k 0 ≤ 262144) → Fronts gs shapes → Fronts gs (shapes ++ own)
fronts_on gs shapes own few f = let l = f.long in let e = length-append shapes own in record { same = λ a h. front_item 0 shapes own a (omega arith) ∙ f.same a h; long = omega arith; few = few_both shapes own f.few few }

pub found : {A : Type 0} (xs : List A) (i : ℕ) → i < length xs → (x : A) × (slice_get xs i ≡ Some x)
found xs i h = elim (slice_get_cases xs i).1 [ inl a ↦ (a.0, a.2) | inr b ↦ let l = b.0 in absurd (omega arith) ]

-- the greatest depth of both meanings
pub record Deep : Type 0 where
  pub rest : ℕ
  pub in_source : source_deepest ≡ suc rest
  pub in_graphs : deepest ≡ suc rest

pub deep : Deep
unfolding source_deepest deepest
deep = record { rest = 511; in_source = refl; in_graphs = refl }

pub has_blocks : (flow : Flow) (h : Here) (g : Graph) → slice_get flow.functions h.function ≡ Some g → HasBlocks (program_of flow) h g.blocks
has_blocks flow h g at b q s e =
    ap (λ o. body_hop (program_of flow) (active_at h (record { block = b; state = s })) (option_map (body_of (length flow.globals)) o)) at
    ∙ ap (λ o. hop_of (setting_at (program_of flow) h) b o s) e

module _ (flow : Flow) (p : TreeProgram) (accepted : is_accepted p ≡ true) (all : AllLowered p flow) (n : ℕ) where
  abbrev P : Program
  P = program_of flow

  abbrev pub global_list : List ℕ
  global_list = map global_words p.globals

  pub count_globals : length flow.globals ≡ length p.globals
  count_globals = ap length all.globals ∙ length-map p.globals global_of

  pub same_globals : length flow.globals ≡ length (map global_words p.globals)
  same_globals = count_globals ∙ sym (length-map p.globals global_words)

  own_is : (f : Function) (g : Graph) → Lowered p flow.texts f g → own_of (length flow.globals) g ≡ f.arrays
  own_is f g x = ap (λ k. words_in (drop k g.arrays)) count_globals ∙ ap (λ z. words_in (drop (length p.globals) z)) x.arrays ∙ ap words_in (behind_globals p f) ∙ words_are (0 + length p.globals) f.scalars (arrays_taken f) f.arrays

  pub base_values : (f : Function) (g : Graph) → Lowered p flow.texts f g → bases_of (length flow.globals) g ≡ map Some (handed_bases f.scalars (arrays_taken f))
  base_values f g x = ap (λ k. bases_in (drop k g.arrays)) count_globals ∙ ap (λ z. bases_in (drop (length p.globals) z)) x.arrays ∙ ap bases_in (behind_globals p f) ∙ bases_are (0 + length p.globals) f.scalars (arrays_taken f) f.arrays

  abbrev pub start_state : Graph → List ℤ → State → State
  start_state g args s = entered (body_of (length flow.globals) g) args s

  -- a tie without scalars of its own, at the rows that are kept
  pub record Rows (kept : ℕ → Type 0) (shapes : List ℕ) (σ : Store) (s : State) : Type 0 where
    pub kept_rows : (q : ℕ) → kept q → (q < length shapes) × SameRow σ.arrays s.arrays q
    pub global_rows : (a : ℕ) → a < length p.globals → SameRow σ.arrays s.arrays a
    pub shape : map (λ z. length z) s.arrays ≡ shapes
    pub source_shape : map (λ z. length z) σ.arrays ≡ shapes
    pub input : s.input ≡ σ.input
    pub out : s.out ≡ σ.out
    pub ranges : InRange σ

  -- the arguments of a call are what the function takes, and the arrays among them are there
  pub record Handing (f : Function) (args : List Argument) (shapes : List ℕ) (σ : Store) (s : State) : Type 0 where
    pub kinds : takes_given args ≡ f.takes
    pub counts : f.parameters ≡ numbers_taken f
    pub rows : (j : ℕ) → j < length (arrays_given args) → (slice_index_or (arrays_given args) j 0 < length shapes) × SameRow σ.arrays s.arrays (slice_index_or (arrays_given args) j 0)

  -- where an array parameter stands
  spot_given : (h : Here) (args : List Argument) (j a : ℕ) → h.passed ≡ map Some (arrays_given args) → j < length (arrays_given args) → a ≡ length p.globals + j → (setting_at P h).spot a ≡ slice_index_or (arrays_given args) j 0
  spot_given h args j a passed l e =
      let c = count_globals in
      let q : a ≡ length flow.globals + j = omega arith in
      ap (λ z. spot_in P.globals z h.base a) passed ∙ ap (spot_in P.globals (map Some (arrays_given args)) h.base) q ∙ spot_handed (length flow.globals) (arrays_given args) h.base j l

  taken_is : (f : Function) (args : List Argument) → takes_given args ≡ f.takes → length (arrays_given args) ≡ arrays_taken f
  taken_is f args e = count_arrays args ∙ ap arrays_among e

  -- the tie at a function's start
  pub tied_start : (h : Here) (kept : ℕ → Type 0) (shapes : List ℕ) (f : Function) (g : Graph) → Lowered p flow.texts f g → (args : List Argument) → h.passed ≡ map Some (arrays_given args) → AllNumbers (numbers_given args) → (σ : Store) (s : State) → Handing f args shapes σ s → length p.globals ≤ length shapes → Rows kept shapes σ s →
      Tied P.globals (setting_at P h).spot (in_force_at_start p f) kept (shapes ++ f.arrays) (sees_of p f) (entered_source f args σ) (start_state g (passed_by shapes args) s)
  tied_start h kept shapes f g x args passed numbers σ s handing long rows = record {
    scalars = λ y i. scalar y (in_below f.parameters y i);
    handed = λ a b c e. handed a b c e (sees_as p f a);
    own = owns;
    others = λ q i. let k = rows.kept_rows q i in row q k.0 k.1;
    shape = map_append (λ z. length z) s.arrays (map undefined (own_of (length flow.globals) g)) ∙ ap (λ z. z ++ map (λ r. length r) (map undefined (own_of (length flow.globals) g))) rows.shape ∙ ap (λ z. shapes ++ z) (ap (λ own. map (λ r. length r) (map undefined own)) (own_is f g x) ∙ lengths_replicate None f.arrays);
    source_shape = map_append (λ z. length z) σ.arrays (map (λ size. replicate size (pos 0)) f.arrays) ∙ ap (λ z. z ++ map (λ r. length r) (map (λ size. replicate size (pos 0)) f.arrays)) rows.source_shape ∙ ap (λ z. shapes ++ z) (lengths_replicate (pos 0) f.arrays);
    input = rows.input;
    out = rows.out;
    ranges = record { scalars = numbers; words = rows_append σ.arrays (map (λ size. replicate size (pos 0)) f.arrays) rows.ranges.words (rows_zero f.arrays); input = rows.ranges.input };
  }
    where
      few : 0 + numbers_among (takes_given args) ≤ f.scalars
      few = let e = x.enough in let c = handing.counts in let k = ap numbers_among handing.kinds in omega arith

      at_start : (v : ℕ) → at_entry g.parameters (passed_by shapes args) v ≡ at_entry (values_for 0 f.scalars (takes_given args)) (passed_by shapes args) v
      at_start v = ap (λ qs. at_entry qs (passed_by shapes args) v) (x.parameters ∙ ap (values_for 0 f.scalars) (sym handing.kinds))

      scalar : (y : ℕ) → y < f.parameters → at_entry g.parameters (passed_by shapes args) y ≡ Some (slice_index_or (numbers_given args) y (pos 0))
      scalar y l =
          let z : y ≡ 0 + y = omega arith in
          let c = handing.counts in let k = ap numbers_among handing.kinds in
          at_start y ∙ ap (at_entry (values_for 0 f.scalars (takes_given args)) (passed_by shapes args)) z ∙ entry_number 0 f.scalars shapes args few y (omega arith)

      row : (q : ℕ) → q < length shapes → SameRow σ.arrays s.arrays q → SameRow (entered_source f args σ).arrays (start_state g (passed_by shapes args) s).arrays q
      row q l e =
          let l1 = ap length rows.shape in let l2 = length-map s.arrays (λ z. length z) in
          let l3 = ap length rows.source_shape in let l4 = length-map σ.arrays (λ z. length z) in
          front_item [] s.arrays (map undefined (own_of (length flow.globals) g)) q (omega arith) ∙ e ∙ ap (map Some) (sym (front_item [] σ.arrays (map (λ size. replicate size (pos 0)) f.arrays) q (omega arith)))

      handed : (a b c : ℕ) → seen_at (sees_of p f) a ≡ Handed b c → Sees_as p f a → (at_entry g.parameters (passed_by shapes args) b ≡ Some (pos ((setting_at P h).spot a))) × (at_entry g.parameters (passed_by shapes args) c ≡ Some (pos (slice_index_or (shapes ++ f.arrays) ((setting_at P h).spot a) 0)))
      handed a b c e (a_global l q) = absurd (no_global (sym q ∙ e))
        where
          no_global : {n : ℕ} → GlobalArray n ≡ Handed b c → ⊥
          no_global r = cc
      handed a b c e (an_own k at q) = absurd (no_own (sym q ∙ e))
        where
          no_own : {n : ℕ} → OwnArray n ≡ Handed b c → ⊥
          no_own r = cc
      handed a b c e (a_handed j l at q) =
          let same : Handed (f.scalars + 2 * j) (suc (f.scalars + 2 * j)) ≡ Handed b c = sym q ∙ e in
          let eb : f.scalars + 2 * j ≡ b = cc in
          let ec : suc (f.scalars + 2 * j) ≡ c = cc in
          let taken = taken_is f args handing.kinds in
          let number = count_arrays args in
          let y = entry_array 0 f.scalars shapes args few j (omega arith) in
          let there = handing.rows j (omega arith) in
          let stands = spot_given h args j a passed (omega arith) at in (
            at_start b ∙ ap (at_entry (values_for 0 f.scalars (takes_given args)) (passed_by shapes args)) (sym eb) ∙ y.base ∙ ap (λ z. Some (pos z)) (sym stands),
            at_start c ∙ ap (at_entry (values_for 0 f.scalars (takes_given args)) (passed_by shapes args)) (sym ec) ∙ y.size ∙ ap (λ z. Some (pos z)) (sym (front_item 0 shapes f.arrays (slice_index_or (arrays_given args) j 0) there.0)) ∙ ap (λ z. Some (pos (slice_index_or (shapes ++ f.arrays) z 0))) (sym stands),
          )

      owns : (a : ℕ) → InForce P.globals (in_force_at_start p f) a → SameRow (entered_source f args σ).arrays (start_state g (passed_by shapes args) s).arrays ((setting_at P h).spot a)
      owns a (inl l) =
          let c = count_globals in
          let l2 : a < length p.globals = omega arith in
          subst (SameRow (entered_source f args σ).arrays (start_state g (passed_by shapes args) s).arrays) (sym (spot_global (length flow.globals) h.passed h.base a l)) (row a (omega arith) (rows.global_rows a l2))
      owns a (inr i) =
          let y = in_handed (length p.globals) (arrays_taken f) a i in
          let lj = y.1 in
          let taken = taken_is f args handing.kinds in
          let there = handing.rows y.0 (omega arith) in
          subst (SameRow (entered_source f args σ).arrays (start_state g (passed_by shapes args) s).arrays) (sym (spot_given h args y.0 a passed (omega arith) y.2)) (row (slice_index_or (arrays_given args) y.0 0) there.0 there.1)

  -- the arrays that a function sees, where it is entered with these arguments
  fitting_at : (h : Here) (shapes : List ℕ) (i : ℕ) (f : Function) (args : List Argument) → slice_get p.functions i ≡ Some f → Fronts (map global_words p.globals) shapes → h.passed ≡ map Some (arrays_given args) → h.base ≡ length shapes → takes_given args ≡ f.takes → ((j : ℕ) → j < length (arrays_given args) → slice_index_or (arrays_given args) j 0 < length shapes) → Fitting P h p (shapes ++ f.arrays) (sees_of p f)
  fitting_at h shapes i f args at fronts passed base_is kinds there = record {
    sized = record {
      global_words = λ a n e. global_size a n e (sees_as p f a);
      own_words = λ a n e. own_size a n e (sees_as p f a);
    };
    small = λ k. let l = few_both shapes f.arrays fronts.few (few_own p accepted i f at) k in omega arith;
    one_word = λ a e. let s = scalar_at p.globals a e in global_row a s.1 ∙ s.0;
    is_global = λ a e. let l = (scalar_at p.globals a e).1 in let c = count_globals in omega arith;
    named = λ sc a e. subst (λ z. InForce z sc a) (sym count_globals) (named_in_force p sc a e);
    globals_there = let l = length_seen p f in let c = count_globals in omega arith;
    there = λ a l. within a l (sees_as p f a);
  }
    where
      global_row : (a : ℕ) → a < length p.globals → slice_index_or (shapes ++ f.arrays) ((setting_at P h).spot a) 0 ≡ slice_index_or (map global_words p.globals) a 0
      global_row a l =
          let c = count_globals in
          let len = length-map p.globals global_words in
          let long = fronts.long in
          let l2 : a < length flow.globals = omega arith in
          ap (λ z. slice_index_or (shapes ++ f.arrays) z 0) (spot_global (length flow.globals) h.passed h.base a l2) ∙ front_item 0 shapes f.arrays a (omega arith) ∙ fronts.same a (omega arith)

      own_spot : (a k : ℕ) → a ≡ length p.globals + (arrays_taken f + k) → (setting_at P h).spot a ≡ length shapes + k
      own_spot a k e =
          let c = count_globals in
          let taken = taken_is f args kinds in
          let q : a ≡ length flow.globals + (length (arrays_given args) + k) = omega arith in
          ap (λ z. spot_in P.globals z h.base a) passed ∙ ap (spot_in P.globals (map Some (arrays_given args)) h.base) q ∙ spot_own (length flow.globals) (arrays_given args) h.base k ∙ ap (λ z. z + k) base_is

      global_size : (a n : ℕ) → seen_at (sees_of p f) a ≡ GlobalArray n → Sees_as p f a → slice_index_or (shapes ++ f.arrays) ((setting_at P h).spot a) 0 ≡ n
      global_size a n e (a_global l q) = let same : GlobalArray (slice_index_or (map global_words p.globals) a 0) ≡ GlobalArray n = sym q ∙ e in let is : slice_index_or (map global_words p.globals) a 0 ≡ n = cc in global_row a l ∙ is
      global_size a n e (a_handed j l at q) = absurd (no_handed (sym q ∙ e))
        where
          no_handed : {b c : ℕ} → Handed b c ≡ GlobalArray n → ⊥
          no_handed r = cc
      global_size a n e (an_own k at q) = absurd (no_own (sym q ∙ e))
        where
          no_own : {m : ℕ} → OwnArray m ≡ GlobalArray n → ⊥
          no_own r = cc

      own_size : (a n : ℕ) → seen_at (sees_of p f) a ≡ OwnArray n → Sees_as p f a → slice_index_or (shapes ++ f.arrays) ((setting_at P h).spot a) 0 ≡ n
      own_size a n e (a_global l q) = absurd (no_global (sym q ∙ e))
        where
          no_global : {m : ℕ} → GlobalArray m ≡ OwnArray n → ⊥
          no_global r = cc
      own_size a n e (a_handed j l at q) = absurd (no_handed (sym q ∙ e))
        where
          no_handed : {b c : ℕ} → Handed b c ≡ OwnArray n → ⊥
          no_handed r = cc
      own_size a n e (an_own k at q) = let same : OwnArray (slice_index_or f.arrays k 0) ≡ OwnArray n = sym q ∙ e in let is : slice_index_or f.arrays k 0 ≡ n = cc in ap (λ z. slice_index_or (shapes ++ f.arrays) z 0) (own_spot a k at) ∙ back_item 0 shapes f.arrays k ∙ is

      within : (a : ℕ) → a < length (arrays_seen p f) → Sees_as p f a → (setting_at P h).spot a < length (shapes ++ f.arrays)
      within a l (a_global la q) =
          let c = count_globals in
          let len = length-map p.globals global_words in
          let long = fronts.long in
          let e = length-append shapes f.arrays in
          let l2 : a < length flow.globals = omega arith in
          let s : (setting_at P h).spot a ≡ a = spot_global (length flow.globals) h.passed h.base a l2 in
          omega arith
      within a l (a_handed j lj at q) =
          let taken = taken_is f args kinds in
          let e = length-append shapes f.arrays in
          let s = spot_given h args j a passed (omega arith) at in
          let w = there j (omega arith) in
          omega arith
      within a l (an_own k at q) =
          let e = length-append shapes f.arrays in
          let m = length_seen p f in
          let s = own_spot a k at in
          omega arith

  above_start : (f : Function) → f.parameters ≤ f.scalars → Above (sees_of p f) (in_force_at_start p f) (first_value f)
  above_start f le = record {
    scalars = λ y j. let l = in_below f.parameters y j in omega arith;
    few = omega arith;
    there = λ a i. let y = in_handed (length p.globals) (arrays_taken f) a i in let l = y.1 in let e = y.2 in let m = length_seen p f in omega arith;
    handed = λ a b c e. by a b c e (sees_as p f a);
  }
    where
      by : (a b c : ℕ) → seen_at (sees_of p f) a ≡ Handed b c → Sees_as p f a → (f.scalars ≤ b) × (b < first_value f) × (f.scalars ≤ c) × (c < first_value f)
      by a b c e (a_global l q) = absurd (no_global (sym q ∙ e))
        where
          no_global : {n : ℕ} → GlobalArray n ≡ Handed b c → ⊥
          no_global r = cc
      by a b c e (an_own k at q) = absurd (no_own (sym q ∙ e))
        where
          no_own : {n : ℕ} → OwnArray n ≡ Handed b c → ⊥
          no_own r = cc
      by a b c e (a_handed j l at q) =
          let same : Handed (f.scalars + 2 * j) (suc (f.scalars + 2 * j)) ≡ Handed b c = sym q ∙ e in
          let eb : f.scalars + 2 * j ≡ b = cc in
          let ec : suc (f.scalars + 2 * j) ≡ c = cc in
          (omega arith, omega arith, omega arith, omega arith)

  -- where a body ended, a number is returned
  pub record Ended (h : Here) (start : Block) (s : State) (kept : ℕ → Type 0) (shapes : List ℕ) (r : ℤ) (σ : Store) : Type 0 where
    pub to : State
    pub from : Operand
    pub comes : Comes P h start s (ends (Return from)) to
    pub holds : held to from ≡ Some r
    pub number : IsNumber r
    pub others : (q : ℕ) → kept q → SameRow σ.arrays to.arrays q
    pub shape : map (λ z. length z) to.arrays ≡ shapes
    pub source_shape : map (λ z. length z) σ.arrays ≡ shapes
    pub input : to.input ≡ σ.input
    pub out : to.out ≡ σ.out
    pub ranges : InRange σ

  abbrev pub Endings : (h : Here) (start : Block) (s : State) (kept : ℕ → Type 0) (shapes : List ℕ) → Leaves → Store → Type 0
  Endings h start s kept shapes Falls σ = Ended h start s kept shapes (pos 0) σ
  Endings h start s kept shapes Breaks σ = Ended h start s kept shapes (pos 0) σ
  Endings h start s kept shapes Continues σ = Ended h start s kept shapes (pos 0) σ
  Endings h start s kept shapes (Returns r) σ = Ended h start s kept shapes r σ

  reached_end : (h : Here) (B : List Block) (has : HasBlocks P h B) (kept : ℕ → Type 0) (shapes : List ℕ) (words : Sees) (vars : ℕ) (sc : Scope) (start last : Block) (s : State) (σ : Store) → Goes B (ends (Return (Number (pos 0)))) last → Reaches P h B has p kept shapes words vars sc start s last σ → Ended h start s kept shapes (pos 0) σ
  reached_end h B has kept shapes words vars sc start last s σ g x = record { to = x.to; from = Number (pos 0); comes = comes_on P h x.comes (comes_goes P h B has (ends (Return (Number (pos 0)))) last x.to g); holds = refl; number = zero_fits; others = x.tied.others; shape = x.tied.shape; source_shape = x.tied.source_shape; input = x.tied.input; out = x.tied.out; ranges = x.tied.ranges }

  ended_left : (h : Here) (B : List Block) (has : HasBlocks P h B) (kept : ℕ → Type 0) (shapes : List ℕ) (words : Sees) (vars : ℕ) (after sc : Scope) (start last out : Block) (s : State) → Goes B (ends (Return (Number (pos 0)))) last → Goes B (ends (Return (Number (pos 0)))) out → (l : Leaves) (σ : Store) → Left P h B has p kept shapes words vars after sc start s last out out l σ → Endings h start s kept shapes l σ
  ended_left h B has kept shapes words vars after sc start last out s g g2 Falls σ x = reached_end h B has kept shapes words vars after start last s σ g x
  ended_left h B has kept shapes words vars after sc start last out s g g2 Breaks σ x = reached_end h B has kept shapes words vars sc start out s σ g2 x
  ended_left h B has kept shapes words vars after sc start last out s g g2 Continues σ x = reached_end h B has kept shapes words vars sc start out s σ g2 x
  ended_left h B has kept shapes words vars after sc start last out s g g2 (Returns r) σ x = record { to = x.to; from = x.from; comes = x.comes; holds = x.holds; number = x.number; others = x.tied.others; shape = x.tied.shape; source_shape = x.tied.source_shape; input = x.tied.input; out = x.tied.out; ranges = x.tied.ranges }

  pub body_ends : (h : Here) (kept : ℕ → Type 0) (shapes : List ℕ) (i d : ℕ) (f : Function) (g : Graph) (x : Lowered p flow.texts f g) (args : List Argument) → slice_get p.functions i ≡ Some f → (at : slice_get flow.functions h.function ≡ Some g) → Fronts (map global_words p.globals) shapes → h.passed ≡ map Some (arrays_given args) → h.base ≡ length shapes → takes_given args ≡ f.takes → ((j : ℕ) → j < length (arrays_given args) → slice_index_or (arrays_given args) j 0 < length shapes) → CallsMeet P h g.blocks (has_blocks flow h g at) p kept (shapes ++ f.arrays) (sees_of p f) n (active p d n) → (σ : Store) (s : State) → Tied P.globals (setting_at P h).spot (in_force_at_start p f) kept (shapes ++ f.arrays) (sees_of p f) σ s →
      Gives P h n x.start s (Endings h x.start s kept (shapes ++ f.arrays)) (does (setting_at P h).spot (active p d n) n f.body σ)
  body_ends h kept shapes i d f g x args is at fronts passed base_is kinds there meets σ s tied =
      shift P h n x.start x.start s s (Left P h g.blocks (has_blocks flow h g at) p kept (shapes ++ f.arrays) (sees_of p f) (first_value f) (scope_after f.body (in_force_at_start p f)) (in_force_at_start p f) x.start s x.last x.out x.out) (Endings h x.start s kept (shapes ++ f.arrays)) (comes_self P h x.start s) (does (setting_at P h).spot (active p d n) n f.body σ)
      (stmt_runs P h g.blocks (has_blocks flow h g at) p kept (shapes ++ f.arrays) (sees_of p f) (first_value f) n (active p d n) meets (fitting_at h shapes i f args is fronts passed base_is kinds there) x.body (in_force_at_start p f) f.gives false (body_suits p accepted i f is) (above_start f x.enough) σ s tied)
      (ended_left h g.blocks (has_blocks flow h g at) kept (shapes ++ f.arrays) (sees_of p f) (first_value f) (scope_after f.body (in_force_at_start p f)) (in_force_at_start p f) x.start x.last x.out s x.falls x.out_falls)

  -- at a call: where the callee begins
  abbrev inner_here : Here → List ℕ → ℕ → Option ℕ → ℕ → State → Here
  inner_here h ks f result to s = record { function = f; passed = map Some ks; base = length s.arrays; waiting = record { function = h.function; from = 0; next = to; result = result; passed = h.passed; base = h.base; values = s.values } ∷ h.waiting }

  pub body_there : (f : ℕ) (g : Graph) → slice_get flow.functions f ≡ Some g → P.body f ≡ Some (body_of (length flow.globals) g)
  body_there f g at = ap (option_map (body_of (length flow.globals))) at

  -- a function is entered with the spots of the arrays that are given to it
  enters_given : (f : ℕ) (body : Body) (args : List ℤ) (s : State) (waiting : List Frame) (ks : List ℕ) → spots_held (length s.arrays) (at_entry body.parameters args) body.bases ≡ Some (map Some ks) → enters f (Some body) args s waiting ≡ On (record { function = f; block = 0; passed = map Some ks; base = length s.arrays; state = entered body args s; waiting = waiting })
  enters_given f body args s waiting ks e = ap (enters_with f (Some body) args s waiting) e

  entering : (h : Here) (e : Entry) (f to : ℕ) (result : Option ℕ) (os : List Operand) (args : List ℤ) (ks : List ℕ) (g : Graph) (start : Block) (s : State) (k : ℕ) → nat_le deepest (length h.waiting + 1) ≡ false → known (map (held s) os) ≡ Some args → spots_held (length s.arrays) (at_entry g.parameters args) (bases_of (length flow.globals) g) ≡ Some (map Some ks) → (at : slice_get flow.functions f ≡ Some g) → slice_get g.blocks 0 ≡ Some start → rest_run P h (suc k) e (ends (Call f os result to)) s ≡ rest_run P (inner_here h ks f result to s) k (record { block = 0; state = start_state g args s }) start (start_state g args s)
  entering h e f to result os args ks g start s k room vals spots at at_start =
      ap (λ o. step_then (run (next P) (λ r. r.state.out) (suc k)) (after_hop P (active_at h e) (calls f o result e.block to s))) vals
      ∙ ap (λ b. step_then (run (next P) (λ r. r.state.out) (suc k)) (cond b (Over (Traps Depth s.out)) (enters f (P.body f) args s (waits (active_at h e) result e.block to s ∷ h.waiting)))) room
      ∙ ap (λ o. step_then (run (next P) (λ r. r.state.out) (suc k)) (enters f o args s (waits (active_at h e) result e.block to s ∷ h.waiting))) (body_there f g at)
      ∙ ap (λ x. step_then (run (next P) (λ r. r.state.out) (suc k)) x) (enters_given f (body_of (length flow.globals) g) args s (waits (active_at h e) result e.block to s ∷ h.waiting) ks spots)
      ∙ run_alike P (suc k) (record { function = f; block = 0; passed = map Some ks; base = length s.arrays; state = start_state g args s; waiting = waits (active_at h e) result e.block to s ∷ h.waiting }) (record { function = h.function; from = 0; next = to; result = result; passed = h.passed; base = h.base; values = s.values } ∷ h.waiting) (refl, alike_self h.waiting)
      ∙ arrival P (inner_here h ks f result to s) g.blocks (has_blocks flow (inner_here h ks f result to s) g at) e 0 k start (start_state g args s) at_start

  abbrev back_state : Option ℕ → ℤ → State → State → State
  back_state result r s u = record u { values = with_result s.values result r; arrays = take (length s.arrays) u.arrays }

  leaving : (h : Here) (B : List Block) (has : HasBlocks P h B) (e : Entry) (ks : List ℕ) (f to : ℕ) (result : Option ℕ) (q : Block) (o : Operand) (r : ℤ) (s u : State) (k : ℕ) → slice_get B to ≡ Some q → held u o ≡ Some r → rest_run P (inner_here h ks f result to s) (suc k) e (ends (Return o)) u ≡ rest_run P h k (record { block = to; state = back_state result r s u }) q (back_state result r s u)
  leaving h B has e ks f to result q o r s u k at is =
      ap (λ v. step_then (run (next P) (λ r. r.state.out) (suc k)) (after_hop P (active_at (inner_here h ks f result to s) e) (leaves v u))) is
      ∙ arrival P h B has e to k q (back_state result r s u) at

  -- places whose rows are the same at a call
  abbrev pub AlikeRows : List ℕ → Store → State → ℕ → Type 0
  AlikeRows shapes σ s q = (q < length shapes) × SameRow σ.arrays s.arrays q

  came_back : (h : Here) (B : List Block) (has : HasBlocks P h B) (kept : ℕ → Type 0) (shapes : List ℕ) (words : Sees) (own : List ℕ) (sc : Scope) (f to : ℕ) (result : Option ℕ) (os : List Operand) (args : List ℤ) (ks : List ℕ) (g : Graph) (start q : Block) (σ : Store) (s : State) (r : ℤ) (σ1 : Store) → Tied P.globals (setting_at P h).spot sc kept shapes words σ s → nat_le deepest (length h.waiting + 1) ≡ false → known (map (held s) os) ≡ Some args → spots_held (length s.arrays) (at_entry g.parameters args) (bases_of (length flow.globals) g) ≡ Some (map Some ks) → slice_get flow.functions f ≡ Some g → slice_get g.blocks 0 ≡ Some start → slice_get B to ≡ Some q →
      Ended (inner_here h ks f result to s) start (start_state g args s) (AlikeRows shapes σ s) (shapes ++ own) r σ1 → Came_back P h B has p kept shapes words n sc (ends (Call f os result to)) s q result r (record σ1 { scalars = σ.scalars; arrays = take (length σ.arrays) σ1.arrays })
  came_back h B has kept shapes words own sc f to result os args ks g start q σ s r σ1 tied room vals spots at at_start at_next x = record {
    to = record (x.to) { values = s.values; arrays = take (length s.arrays) x.to.arrays };
    comes = record { by = λ e. let c = x.comes.by (record { block = 0; state = start_state g args s }) in (record { block = to; state = back_state result r s x.to }, λ k. let y = c.1 (suc k) in let l = y.1 in (suc y.0, omega arith, entering h e f to result os args ks g start s y.0 room vals spots at at_start ∙ y.2 ∙ leaving h B has c.0 ks f to result q x.from r s x.to k at_next x.holds)) };
    tied = record {
      scalars = tied.scalars;
      handed = tied.handed;
      own = λ a i. row ((setting_at P h).spot a) (tied.own a i);
      others = λ q i. row q (tied.others q i);
      shape = map_take (λ z. length z) (length s.arrays) x.to.arrays ∙ ap (take (length s.arrays)) x.shape ∙ ap (λ z. take z (shapes ++ own)) m1 ∙ take_all shapes own;
      source_shape = map_take (λ z. length z) (length σ.arrays) σ1.arrays ∙ ap (take (length σ.arrays)) x.source_shape ∙ ap (λ z. take z (shapes ++ own)) m2 ∙ take_all shapes own;
      input = x.input;
      out = x.out;
      ranges = record { scalars = tied.ranges.scalars; words = rows_take (length σ.arrays) σ1.arrays x.ranges.words; input = x.ranges.input };
    };
    keeps = λ u. refl;
    number = x.number;
  }
    where
      m1 : length s.arrays ≡ length shapes
      m1 = sym (length-map s.arrays (λ z. length z)) ∙ ap length tied.shape

      m2 : length σ.arrays ≡ length shapes
      m2 = sym (length-map σ.arrays (λ z. length z)) ∙ ap length tied.source_shape

      row : (q : ℕ) → SameRow σ.arrays s.arrays q → SameRow (take (length σ.arrays) σ1.arrays) (take (length s.arrays) x.to.arrays) q
      row q e = let e1 = m1 in let e2 = m2 in elim (cases_lt q (length shapes)) [
        | inl l ↦ take_within [] (length s.arrays) x.to.arrays q (omega arith) ∙ x.others q (l, e) ∙ ap (map Some) (sym (take_within [] (length σ.arrays) σ1.arrays q (omega arith)))
        | inr l ↦ take_past [] (length s.arrays) x.to.arrays q (omega arith) ∙ ap (map Some) (sym (take_past [] (length σ.arrays) σ1.arrays q (omega arith)))
      ]

  -- the outcomes of a body and of its call
  result_gives : (h : Here) (B : List Block) (has : HasBlocks P h B) (kept : ℕ → Type 0) (shapes : List ℕ) (words : Sees) (own : List ℕ) (sc : Scope) (f to : ℕ) (result : Option ℕ) (os : List Operand) (args : List ℤ) (ks : List ℕ) (g : Graph) (start q : Block) (σ : Store) (s : State) → Tied P.globals (setting_at P h).spot sc kept shapes words σ s → nat_le deepest (length h.waiting + 1) ≡ false → known (map (held s) os) ≡ Some args → spots_held (length s.arrays) (at_entry g.parameters args) (bases_of (length flow.globals) g) ≡ Some (map Some ks) → slice_get flow.functions f ≡ Some g → slice_get g.blocks 0 ≡ Some start → slice_get B to ≡ Some q → (o : Part Leaves) →
      Gives P (inner_here h ks f result to s) n start (start_state g args s) (Endings (inner_here h ks f result to s) start (start_state g args s) (AlikeRows shapes σ s) (shapes ++ own)) o → Gives P h n (ends (Call f os result to)) s (Came_back P h B has p kept shapes words n sc (ends (Call f os result to)) s q result) (result_of σ o)
  result_gives h B has kept shapes words own sc f to result os args ks g start q σ s tied room vals spots at at_start at_next (With Falls σ1) x = came_back h B has kept shapes words own sc f to result os args ks g start q σ s (pos 0) σ1 tied room vals spots at at_start at_next x
  result_gives h B has kept shapes words own sc f to result os args ks g start q σ s tied room vals spots at at_start at_next (With Breaks σ1) x = came_back h B has kept shapes words own sc f to result os args ks g start q σ s (pos 0) σ1 tied room vals spots at at_start at_next x
  result_gives h B has kept shapes words own sc f to result os args ks g start q σ s tied room vals spots at at_start at_next (With Continues σ1) x = came_back h B has kept shapes words own sc f to result os args ks g start q σ s (pos 0) σ1 tied room vals spots at at_start at_next x
  result_gives h B has kept shapes words own sc f to result os args ks g start q σ s tied room vals spots at at_start at_next (With (Returns r) σ1) x = came_back h B has kept shapes words own sc f to result os args ks g start q σ s r σ1 tied room vals spots at at_start at_next x
  result_gives h B has kept shapes words own sc f to result os args ks g start q σ s tied room vals spots at at_start at_next (Trapped k out) x = λ e. let y = x (record { block = 0; state = start_state g args s }) in (suc y.0, entering h e f to result os args ks g start s y.0 room vals spots at at_start ∙ y.1)
  result_gives h B has kept shapes words own sc f to result os args ks g start q σ s tied room vals spots at at_start at_next (Going out) x = λ e. let y = x (record { block = 0; state = start_state g args s }) in let l = y.1 in (suc y.0, omega arith, entering h e f to result os args ks g start s y.0 room vals spots at at_start ∙ y.2)

  full : (h : Here) (e : Entry) (f to : ℕ) (result : Option ℕ) (os : List Operand) (args : List ℤ) (s : State) → nat_le deepest (length h.waiting + 1) ≡ true → known (map (held s) os) ≡ Some args → rest_run P h 0 e (ends (Call f os result to)) s ≡ Traps Depth s.out
  full h e f to result os args s b vals =
      ap (λ o. step_then (run (next P) (λ r. r.state.out) 0) (after_hop P (active_at h e) (calls f o result e.block to s))) vals
      ∙ ap (λ b. step_then (run (next P) (λ r. r.state.out) 0) (cond b (Over (Traps Depth s.out)) (enters f (P.body f) args s (waits (active_at h e) result e.block to s ∷ h.waiting)))) b

  there : (f : ℕ) (takes : List Takes) → can_call (λ gives. true) takes (slice_get p.functions f) ≡ true → (x : Function) × (slice_get p.functions f ≡ Some x) × (takes ≡ x.takes)
  there f takes can = by (slice_get p.functions f) refl
    where
      by : (o : Option Function) → slice_get p.functions f ≡ o → (x : Function) × (slice_get p.functions f ≡ Some x) × (takes ≡ x.takes)
      by None e = absurd (no (sym (ap (can_call (λ gives. true) takes) e) ∙ can))
        where
          no : false ≡ true → ⊥
          no e = absurd (cc)
      by (Some x) e = (x, e, same_kinds takes x.takes (and_two true (same_takes takes x.takes) (sym (ap (can_call (λ gives. true) takes) e) ∙ can)))

  pub graph_there : (f : ℕ) (x : Function) → slice_get p.functions f ≡ Some x → (g : Graph) × (slice_get flow.functions f ≡ Some g)
  graph_there f x e = found flow.functions f (let c = all.count in let l = within p.functions f x e in omega arith)
    where
      within : (xs : List Function) (i : ℕ) (x : Function) → slice_get xs i ≡ Some x → i < length xs
      within [] i x e = absurd (cc)
      within (y ∷ ys) zero x e = omega arith
      within (y ∷ ys) (suc i) x e = let h = within ys i x e in omega arith

  room_for : (k d : ℕ) → k + suc d ≡ deep.rest → nat_le deepest (k + 1) ≡ false
  room_for k d e = ap (λ z. nat_le z (k + 1)) deep.in_graphs ∙ too_few (deep.rest) (k + 1) (omega arith)
    where
      too_few : (a b : ℕ) → b ≤ a → nat_le (suc a) b ≡ false
      too_few a b h = grind arith

  no_room : (k : ℕ) → k + 0 ≡ deep.rest → nat_le deepest (k + 1) ≡ true
  no_room k e = ap (λ z. nat_le z (k + 1)) deep.in_graphs ∙ enough (deep.rest) (k + 1) (omega arith)
    where
      enough : (a b : ℕ) → suc a ≤ b → nat_le (suc a) b ≡ true
      enough a b h = grind arith

  -- an array that is known has the same words in both
  known_row : (h : Here) (B : List Block) (has : HasBlocks P h B) (kept : ℕ → Type 0) (shapes : List ℕ) (words : Sees) (sc : Scope) (σ : Store) (s : State) (k : ℕ) → Tied P.globals (setting_at P h).spot sc kept shapes words σ s → KnownArray P h B has p kept shapes words n sc k → SameRow σ.arrays s.arrays k
  known_row h B has kept shapes words sc σ s k tied x = elim x.is [
    | inl i ↦ tied.others k i
    | inr y ↦ subst (SameRow σ.arrays s.arrays) (sym y.2) (tied.own y.0 y.1)
  ]

  -- the bases hold the spots of what is given
  spots_given : (s : State) (args : List Argument) (f : Function) (g : Graph) (shapes : List ℕ) → Lowered p flow.texts f g → length s.arrays ≡ length shapes → takes_given args ≡ f.takes → f.parameters ≡ numbers_taken f → ((j : ℕ) → j < length (arrays_given args) → slice_index_or (arrays_given args) j 0 < length shapes) → spots_held (length s.arrays) (at_entry g.parameters (passed_by shapes args)) (bases_of (length flow.globals) g) ≡ Some (map Some (arrays_given args))
  spots_given s args f g shapes x m kinds counts there =
      let taken = taken_is f args kinds in
      let number = count_arrays args in
      let e = x.enough in
      let few : 0 + numbers_among (takes_given args) ≤ f.scalars = let k = ap numbers_among kinds in omega arith in
      ap (λ qs. spots_held (length s.arrays) (at_entry qs (passed_by shapes args)) (bases_of (length flow.globals) g)) (x.parameters ∙ ap (values_for 0 f.scalars) (sym kinds))
      ∙ ap (spots_held (length s.arrays) (at_entry (values_for 0 f.scalars (takes_given args)) (passed_by shapes args))) (base_values f g x ∙ ap (λ k. map Some (handed_bases f.scalars k)) (sym taken))
      ∙ spots_are (length s.arrays) f.scalars (at_entry (values_for 0 f.scalars (takes_given args)) (passed_by shapes args)) (arrays_given args) (λ j l. (entry_array 0 f.scalars shapes args few j (omega arith)).base) (λ j l. let w = there j l in omega arith)

  -- with d more active functions the graph follows each call
  pub calls_meet : (d : ℕ) (h : Here) (B : List Block) (has : HasBlocks P h B) (kept : ℕ → Type 0) (shapes : List ℕ) (words : Sees) → length h.waiting + d ≡ deep.rest → Fronts (map global_words p.globals) shapes → CallsMeet P h B has p kept shapes words n (active p d n)
  calls_meet zero h B has kept shapes words depth fronts sc f os result to q args σ s can tied vals numbers at = λ e. (0, full h e f to result os (passed_by shapes args) s (no_room (length h.waiting) depth) vals ∙ ap (Traps Depth) tied.out)
  calls_meet (suc d) h B has kept shapes words depth fronts sc f os result to q args σ s can tied vals numbers at =
      let fn = there f (takes_given args) can in
      let g = graph_there f fn.0 fn.1 in
      let x = all.lowered f fn.0 g.0 fn.1 g.1 in
      let ks = arrays_given args in
      let h1 = inner_here h ks f result to s in
      let m1 : length s.arrays ≡ length shapes = sym (length-map s.arrays (λ z. length z)) ∙ ap length tied.shape in
      let m2 : length σ.arrays ≡ length s.arrays = sym (length-map σ.arrays (λ z. length z)) ∙ ap length tied.source_shape ∙ sym m1 in
      let deeper : length h1.waiting + d ≡ deep.rest = omega arith in
      let kept1 = AlikeRows shapes σ s in
      let s1 = start_state g.0 (passed_by shapes args) s in
      let c = count_globals in
      let long = fronts.long in
      let len = length-map p.globals global_words in
      let rows : Rows kept1 shapes σ s = record { kept_rows = λ q k. k; global_rows = globals_at h shapes words σ s sc kept tied; shape = tied.shape; source_shape = tied.source_shape; input = tied.input; out = tied.out; ranges = tied.ranges } in
      let given_there : (j : ℕ) → j < length ks → slice_index_or ks j 0 < length shapes = λ j l. (numbers.0 j l).there in
      let handing : Handing fn.0 args shapes σ s = record { kinds = fn.2; counts = numbers_are p accepted f fn.0 fn.1; rows = λ j l. (given_there j l, known_row h B has kept shapes words sc σ s (slice_index_or ks j 0) tied (numbers.0 j l)) } in
      let start1 = tied_start h1 kept1 shapes fn.0 g.0 x args refl numbers.1 σ s handing (omega arith) rows in
      let body = body_ends h1 kept1 shapes f d fn.0 g.0 x args fn.1 g.1 fronts refl m1 fn.2 given_there (calls_meet d h1 g.0.blocks (has_blocks flow h1 g.0 g.1) kept1 (shapes ++ fn.0.arrays) (sees_of p fn.0) deeper (fronts_on (map global_words p.globals) shapes fn.0.arrays (few_own p accepted f fn.0 fn.1) fronts)) (entered_source fn.0 args σ) s1 start1 in
      subst (λ o. Gives P h n (ends (Call f os result to)) s (Came_back P h B has p kept shapes words n sc (ends (Call f os result to)) s q result) (activate (length p.globals) o (active p d n) n args σ)) (sym fn.1)
      (subst (λ b. Gives P h n (ends (Call f os result to)) s (Came_back P h B has p kept shapes words n sc (ends (Call f os result to)) s q result) (result_of σ (does (place_in (length p.globals) ks b) (active p d n) n fn.0.body (entered_source fn.0 args σ)))) (sym m2)
      (subst (λ b. Gives P h n (ends (Call f os result to)) s (Came_back P h B has p kept shapes words n sc (ends (Call f os result to)) s q result) (result_of σ (does (place_in b ks (length s.arrays)) (active p d n) n fn.0.body (entered_source fn.0 args σ)))) c
      (subst (λ spot. Gives P h n (ends (Call f os result to)) s (Came_back P h B has p kept shapes words n sc (ends (Call f os result to)) s q result) (result_of σ (does spot (active p d n) n fn.0.body (entered_source fn.0 args σ)))) (same_spots (length flow.globals) ks (length s.arrays))
      (result_gives h B has kept shapes words fn.0.arrays sc f to result os (passed_by shapes args) ks g.0 x.start q σ s tied (room_for (length h.waiting) d depth) vals (spots_given s args fn.0 g.0 shapes x m1 handing.kinds handing.counts given_there) g.1 x.at_start at (does (setting_at P h1).spot (active p d n) n fn.0.body (entered_source fn.0 args σ)) body))))
    where
      globals_at : (h : Here) (shapes : List ℕ) (words : Sees) (σ : Store) (s : State) (sc : Scope) (kept : ℕ → Type 0) → Tied P.globals (setting_at P h).spot sc kept shapes words σ s → (a : ℕ) → a < length p.globals → SameRow σ.arrays s.arrays a
      globals_at h shapes words σ s sc kept tied a l =
          let c = count_globals in
          let l2 : a < length flow.globals = omega arith in
          subst (SameRow σ.arrays s.arrays) (spot_global (length flow.globals) h.passed h.base a l2) (tied.own a (inl l2))
