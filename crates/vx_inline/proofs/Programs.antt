-- A flow of a program with a permitted call inlined runs as the program.
use Rattle.std.proofs.Common.{◌≡◌, ◌⊎◌, inl, inr, ℕ, zero, suc, ◌<◌, ◌≤◌, Bool, true, false, cond, ℤ, List, [], ◌∷◌, length, map, slice_get, Option, Some, None, refl, sym, ap, ◌∙◌, subst, arith, ltb-true}
use Rattle.std.specs.List.{sum, flat_map}
use Rattle.std.proofs.lemmas.Bool.{and_parts}
use Rattle.std.proofs.lemmas.Option.{slice_get_within}
use Rattle.vx_base.specs.Outcome.{Same, NeverFails}
use Rattle.vx_base.specs.declared.outcome.Trap.{Trap}
use Rattle.vx_base.proofs.Same.{same_on}
use Rattle.vx_ast.specs.Meaning.{source}
use Rattle.vx_ast.specs.Tree.{Function, Program}
use Rattle.vx_ast.specs.Accepted.{Over, over, or_else, limit_of, is_none, at_most, is_accepted, is_suited, function_nodes, global_words, formats_of}
use Rattle.vx_flow.specs.declared.graph.Bank.{Bank}
use Rattle.vx_flow.specs.declared.graph.Exit.TheVariants.{Call, Ends}
use Rattle.vx_flow.specs.declared.graph.Block.{Block}
use Rattle.vx_flow.specs.declared.graph.Graph.{Graph}
use Rattle.vx_flow.specs.declared.graph.Flow.{Flow}
use Rattle.vx_flow.specs.Meaning.{graph_run}
use Rattle.vx_flow.specs.Sound.{SoundFlow}
use Rattle.vx_flow.proofs.SoundFlowLaw.{flow_of}
use Rattle.vx_lower.specs.FlowOf.{AreNumbers, EndsBy, GraphOf, RunsAs, FlowOf}
use Rattle.vx_lower.proofs.Facts.{none_is, or_one}
use Rattle.vx_lower.proofs.FlowShaping.{in_words}
use Rattle.vx_lower.proofs.Places.{set_length}
use Rattle.vx_shape.specs.Shape.{Shaped}
use Rattle.vx_shape.proofs.FlowsStay.{shape_kept}
use Rattle.vx_inline.specs.declared.site.Site.{Site}
use Rattle.vx_inline.specs.Inlined.{CallAt, IsPermitted, inlined, inlined_blocks, is_plain}
use Rattle.vx_inline.specs.Counts.{NumbersStay}
use Rattle.vx_inline.proofs.Rests.{not_both_trap}
use Rattle.vx_inline.specs.Laws.{BeginsPlain, InlinedRunsAs, InlinedStays}
use Rattle.vx_inline.proofs.Joining.{inlined_runs}
use Rattle.vx_inline.proofs.JoinedShape.{graph_shaped, number_stays}
use Rattle.vx_inline.proofs.FlowSound.{graph_from, new_sound}
use Rattle.vx_inline.proofs.Numbering.{there, IsTrap, trap_of}

-- ---- at most 256 functions

within_limit : (number most m : ℕ) (rest : Option Over) (t : Bool) → at_most m most ≡ t → cond t rest (Some (record { number = number; count = m })) ≡ None → m ≤ most
within_limit number most m rest true q e = let h : m < suc most = ltb-true m (suc most) q in omega arith
within_limit number most m rest false q e = absurd (cc)

limited : (p : Program) → is_accepted p ≡ true → limit_of p ≡ None
unfolding is_accepted
limited p accepted = none_is (limit_of p) (and_parts (is_suited p) (is_none (limit_of p)) accepted).1

pub few_functions : (p : Program) → is_accepted p ≡ true → length p.functions ≤ 256
few_functions p accepted =
    let rest : Option Over =
    or_else (over 4 8 (map (λ (f : Function). length f.takes) p.functions))
    (or_else (over 5 4000 (map function_nodes p.functions))
    (or_else (over 6 8192 (map (λ (f : Function). sum f.arrays) p.functions))
    (or_else (over 7 262144 (sum (map global_words p.globals) ∷ []))
    (over 8 4096 (flat_map (λ (f : Function). map (λ (format : List ℕ). length format) (formats_of f.body)) p.functions))))) in
    let first : over 3 256 (length p.functions ∷ []) ≡ None = or_one (over 3 256 (length p.functions ∷ [])) rest (limited p accepted) in
    within_limit 3 256 (length p.functions) None (at_most (length p.functions) 256) refl first

-- ---- the entry of a graph that calls is no trap block

module _ (p : Program) (flow : Flow) (o : FlowOf p flow) (site : Site) (c : CallAt flow site) where
  caller_shape : (f : Function) × GraphOf p f c.parts.caller
  caller_shape =
      let l : site.function < length flow.functions = slice_get_within flow.functions site.function c.parts.caller c.is_caller in
      let n : length flow.functions ≡ length p.functions = o.count in
      let f : (x : Function) × (slice_get p.functions site.function ≡ Some x) = there p.functions site.function (omega (arith, l, n)) in
      (f.0, o.graphs site.function f.0 c.parts.caller f.1 c.is_caller)

  no_trap : (b : ℕ) (k : Trap) → b ≡ site.block → EndsBy c.parts.caller b k → ⊥
  no_trap b k e t =
      let q : Option.Some t.block ≡ Some c.parts.block = sym t.has ∙ ap (slice_get c.parts.caller.blocks) e ∙ c.is_block in
      let same : t.block ≡ c.parts.block = cc in
      let x : Ends k ≡ Call c.parts.called c.parts.arguments c.parts.result c.parts.next = sym t.ends ∙ ap (λ (z : Block). z.exit) same ∙ c.ends in
      cc

  begins : BeginsPlain flow site c
  begins block e = by (is_plain block) refl
    where
      late : (n : ℕ) → site.block ≡ suc n → (t : IsTrap block) → ⊥
      late n q t =
          let f = caller_shape in
          let l : site.block < length c.parts.caller.blocks = slice_get_within c.parts.caller.blocks site.block c.parts.block c.is_block in
          let entry : EndsBy c.parts.caller 0 t.kind = record { block = block; has = e; ends = t.exit } in
          let later = f.1.traps_last 0 site.block t.kind entry (omega (arith, q)) l in
          no_trap site.block later.0 refl later.1

      early : (n : ℕ) → site.block ≡ n → (t : IsTrap block) → ⊥
      early zero q t = no_trap 0 t.kind (sym q) (record { block = block; has = e; ends = t.exit })
      early (suc n) q t = late n q t

      by : (b : Bool) → is_plain block ≡ b → b ≡ true
      by true h = refl
      by false h = absurd (early site.block refl (trap_of block h))

  module _ (accepted : is_accepted p ≡ true) (free : Bank → List ℕ) (permitted : IsPermitted flow site c free) where
    both : (input : List ℤ) → AreNumbers input → Same (graph_run flow input) (graph_run (inlined flow site c.parts free) input) × NeverFails (graph_run (inlined flow site c.parts free) input)
    both input numbers =
        let few : length p.functions ≤ 256 = few_functions p accepted in
        let n : length flow.functions ≡ length p.functions = o.count in
        inlined_runs flow site c free permitted (in_words p flow o) begins (omega (arith, few, n)) input (o.runs.never_wrong input numbers)

    pub as_program : RunsAs p (inlined flow site c.parts free)
    as_program = record {
      same = λ input numbers. let b = both input numbers in same_on (source p input) (graph_run flow input) (graph_run (inlined flow site c.parts free) input) (o.runs.same input numbers) b.0;
      never_wrong = λ input numbers. let b = both input numbers in b.1;
    }

-- ---- the flow is sound, and its graphs have their shape

shaped_of : (p : Program) (f : Function) (g : Graph) → GraphOf p f g → Shaped g
shaped_of p f g o = record {
  trap_empty = o.trap_empty;
  trap_alone = o.trap_alone;
  traps_last = o.traps_last;
  short = o.short;
  apart = o.apart;
  uncritical = o.uncritical;
  entry = o.entry;
}

module _ (p : Program) (flow : Flow) (o : FlowOf p flow) (site : Site) (c : CallAt flow site) (free : Bank → List ℕ) (permitted : IsPermitted flow site c free) where
  sound : SoundFlow flow
  sound = in_words p flow o

  entry : BeginsPlain flow site c
  entry = begins p flow o site c

  caller_shaped : Shaped c.parts.caller
  caller_shaped = let f = caller_shape p flow o site c in shaped_of p f.0 c.parts.caller f.1

  callee_shaped : Shaped c.parts.callee
  callee_shaped =
      let l : c.parts.called < length flow.functions = slice_get_within flow.functions c.parts.called c.parts.callee c.is_callee in
      let n : length flow.functions ≡ length p.functions = o.count in
      let f : (x : Function) × (slice_get p.functions c.parts.called ≡ Some x) = there p.functions c.parts.called (omega (arith, l, n)) in
      shaped_of p f.0 c.parts.callee (o.graphs c.parts.called f.0 c.parts.callee f.1 c.is_callee)

  abbrev G : Graph
  G = record c.parts.caller { blocks = inlined_blocks c.parts site.block free }

  abbrev new : Flow
  new = inlined flow site c.parts free

  new_graph : (f : ℕ) (function : Function) (graph : Graph) → slice_get p.functions f ≡ Some function → slice_get new.functions f ≡ Some graph → GraphOf p function graph
  new_graph f function graph e h = by (graph_from flow site c free permitted sound f graph h)
    where
      by : (slice_get flow.functions f ≡ Some graph) ⊎ ((f ≡ site.function) × (graph ≡ G)) → GraphOf p function graph
      by (inl k) = o.graphs f function graph e k
      by (inr k) =
          let old : GraphOf p function c.parts.caller = o.graphs f function c.parts.caller e (ap (slice_get flow.functions) k.0 ∙ c.is_caller) in
          subst (GraphOf p function) (sym k.1) (shape_kept p function (inlined_blocks c.parts site.block free) c.parts.caller old (graph_shaped flow site c free permitted sound entry caller_shaped callee_shaped))

  pub stays_flow : is_accepted p ≡ true → FlowOf p (inlined flow site c.parts free)
  stays_flow accepted = record {
    sound = flow_of new (new_sound flow site c free permitted sound);
    count = set_length flow.functions site.function G ∙ o.count;
    graphs = new_graph;
    globals = o.globals;
    main = o.main;
    runs = as_program p flow o site c accepted free permitted;
  }

-- ---- the caller's blocks keep their numbers

pub numbers_stay : NumbersStay
numbers_stay p flow site c free o permitted b block e plain =
    number_stays flow site c free permitted (in_words p flow o) b block e plain before
  where
    shape : GraphOf p (caller_shape p flow o site c).0 c.parts.caller
    shape = (caller_shape p flow o site c).1

    before : (j : ℕ) (x : Block) → j < b → slice_get c.parts.caller.blocks j ≡ Some x → is_plain x ≡ true
    before j x l h = by (is_plain x) refl
      where
        by : (t : Bool) → is_plain x ≡ t → t ≡ true
        by true q = refl
        by false q =
            let t : IsTrap x = trap_of x q in
            let k : EndsBy c.parts.caller j t.kind = record { block = x; has = h; ends = t.exit } in
            let later = shape.traps_last j b t.kind k l (slice_get_within c.parts.caller.blocks b block e) in
            let none : later.1.block.ops ≡ [] = shape.trap_empty b later.0 later.1 in
            let same : Some later.1.block ≡ Some block = sym later.1.has ∙ e in
            let is : later.1.block ≡ block = cc in
            absurd (not_both_trap block later.0 plain (ap (λ (z : Block). z.exit) (sym is) ∙ later.1.ends) (ap (λ (z : Block). z.ops) (sym is) ∙ none))

pub inlined_stays : InlinedStays
inlined_stays p flow after site accepted o i = subst (FlowOf p) (sym i.is) (stays_flow p flow o site i.call i.free i.permitted accepted)

pub inlined_runs_as : InlinedRunsAs
inlined_runs_as p flow after site accepted o i = subst (RunsAs p) (sym i.is) (as_program p flow o site i.call accepted i.free i.permitted)
