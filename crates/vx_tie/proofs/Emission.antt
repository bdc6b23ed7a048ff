-- A program that is finished from spaced layouts is emitted: the pieces of its functions stand in order, and the loads in front of a
-- planned word lead nowhere else.
use Rattle.std.proofs.Common.{◌≡◌, ◌<◌, ◌≤◌, ⊎_elim, inl, inr, ◌+◌, ◌-◌, ℕ, zero, suc, pos, Bool, true, false, Some, List, [], ◌∷◌, ◌++◌, length, length-append, append_assoc, refl, sym, ap, ◌∙◌, subst, arith}
use Rattle.std.specs.Prelude.{if◌then◌else◌, nat_lt, slice_get}
use Rattle.std.specs.List.{list_any}
use Rattle.std.proofs.lemmas.Bool.{ltb-true, ltb-false}
use Rattle.vx_base.specs.declared.arithmetic.Code.TheVariants.{ToBranch}
use Rattle.vx_base.specs.declared.arithmetic.Compare.TheVariants.{Ne}
use Rattle.vx_base.specs.declared.outcome.Trap.TheVariants.{Depth as ByDepth}
use Rattle.vx_flow.specs.declared.graph.Flow.{Flow}
use Rattle.vx_flow.specs.Effects.{IsIn}
use Rattle.vx_flow.proofs.Members.{in_left, in_right}
use Rattle.vx_isa.specs.declared.operation.GeneralRegister.{GeneralRegister}
use Rattle.vx_isa.specs.declared.operation.Register.TheVariants.{Branch as InBranch}
use Rattle.vx_isa.specs.declared.operation.Source.TheVariants.{Held, Number}
use Rattle.vx_isa.specs.declared.operation.Operation.TheVariants.{Compute, Load, EndByTrap}
use Rattle.vx_isa.specs.declared.program.Word.{Word}
use Rattle.vx_isa.specs.Numbers.{Numbers}
use Rattle.vx_isa.specs.Operations.{is_control}
use Rattle.vx_mixed.specs.declared.layout.Laid.{Laid}
use Rattle.vx_mixed.specs.declared.layout.Laid.TheVariants.{Split}
use Rattle.vx_mixed.specs.declared.layout.VirtualWord.{VirtualWord}
use Rattle.vx_mixed.specs.declared.layout.VirtualWord.TheVariants.{Planned}
use Rattle.vx_mixed.specs.declared.layout.VWords.{VWords}
use Rattle.vx_mixed.specs.LaidSettled.{laid_reads, laid_writes}
use Rattle.vx_regs.specs.declared.map.RegMap.{RegMap}
use Rattle.vx_target.specs.declared.finished.Finished.{Finished}
use Rattle.vx_target.specs.Target.{Target, answer, general_of, branch_of, stack_on, holds_branch, slotted, once, one, pause, in_flight, settled, load_slot, load_slots, if_some, before, behind, plan_word, plan_words, word_words, entry_words, start_words, bytes}
use Rattle.vx_target.specs.Placed.{At, Depth, Labelled, place_of, PlacedAt, laid_pieces, landing_pieces, function_pieces, functions_pieces, words_of, IsPlaced}
use Rattle.vx_target.specs.Carried.{Carries}
use Rattle.vx_target.specs.Finish.{Finishes}
use Rattle.vx_target.specs.Places.{plan_place}
use Rattle.vx_tie.specs.Plans.{IsPlaceIn}
use Rattle.vx_tie.specs.Emitted.{end_of, InOrder, IsInPart}
use Rattle.vx_tie.specs.PlanLaws.{EmittedLaw}
use Rattle.vx_target.proofs.Frames.{get_some}
use Rattle.vx_target.proofs.Stands.{at_left, at_right, landing_at, in_landings, word_stands, word_next, entry_next, depth_stands}
use Rattle.vx_target.proofs.Steps.{Stands, stands_left}
use Rattle.vx_tie.proofs.WholePlan.{plan_law}

-- order

module _ (T : Target) where
  abbrev depth_piece : List Labelled
  depth_piece = record { label = Depth; words = one (EndByTrap ByDepth) ∷ [] } ∷ []

  abbrev size_of : ℕ → ℕ
  size_of g = length (words_of (function_pieces T g))

  -- where the pieces of function g stand, the k-th of so many, and what stands behind them
  record Span (g k count : ℕ) : Type 0 where
    from : ℕ
    placed : PlacedAt T from (function_pieces T g)
    next : suc k < count → T.entry (suc g) ≡ from + size_of g
    trap : suc k ≡ count → T.depth_trap ≡ from + size_of g

  next_entry : (o f n : ℕ) → 0 < n → PlacedAt T o (functions_pieces T f n ++ depth_piece) → T.entry f ≡ o
  next_entry o f zero lt p = absurd (omega arith)
  next_entry o f (suc n) lt p = p.0

  next_trap : (o f n : ℕ) → n ≡ 0 → PlacedAt T o (functions_pieces T f n ++ depth_piece) → T.depth_trap ≡ o
  next_trap o f zero e p = p.0
  next_trap o f (suc n) e p = absurd (omega arith)

  span : (o f k n g : ℕ) → f + k ≡ g → k < n → PlacedAt T o (functions_pieces T f n ++ depth_piece) → Span g k n
  span o f k zero g e lt p = absurd (omega arith)
  span o f zero (suc n) g e lt p =
      let z : f ≡ g = omega arith in
      let here : List Labelled = function_pieces T f in
      let more : List Labelled = functions_pieces T (suc f) n in
      let all : PlacedAt T o (here ++ (more ++ depth_piece)) = subst (PlacedAt T o) (append_assoc here more depth_piece) p in
      let rest : PlacedAt T (o + length (words_of here)) (more ++ depth_piece) = at_right T o here (more ++ depth_piece) all in
      record {
        from = o;
        placed = subst (λ h. PlacedAt T o (function_pieces T h)) z (at_left T o here (more ++ depth_piece) all);
        next = λ l. subst (λ h. T.entry (suc h) ≡ o + size_of h) z (next_entry (o + length (words_of here)) (suc f) n (omega arith) rest);
        trap = λ l. subst (λ h. T.depth_trap ≡ o + size_of h) z (next_trap (o + length (words_of here)) (suc f) n (omega arith) rest);
      }
  span o f (suc k) (suc n) g e lt p =
      let here : List Labelled = function_pieces T f in
      let more : List Labelled = functions_pieces T (suc f) n in
      let all : PlacedAt T o (here ++ (more ++ depth_piece)) = subst (PlacedAt T o) (append_assoc here more depth_piece) p in
      let s : Span g k n = span (o + length (words_of here)) (suc f) k n g (omega arith) (omega arith) (at_right T o here (more ++ depth_piece) all) in
      record { from = s.from; placed = s.placed; next = λ l. s.next (omega arith); trap = λ l. s.trap (omega arith) }

  -- a piece stands between where the first begins and where the last ends
  piece_between : (o : ℕ) (xs : List Labelled) (x : Labelled) → PlacedAt T o xs → IsIn x xs → (o ≤ place_of T x.label) × (place_of T x.label ≤ o + length (words_of xs))
  piece_between o [] x p i = absurd i
  piece_between o (y ∷ xs) x p i =
      let l : length (y.words ++ words_of xs) ≡ length y.words + length (words_of xs) = length-append y.words (words_of xs) in
      ⊎_elim
      (λ e. let z : place_of T x.label ≡ o = ap (λ (u : Labelled). place_of T u.label) e ∙ p.0 in (omega arith, omega arith))
      (λ k. let r = piece_between (o + length y.words) xs x p.1 k in let a = r.0 in let b = r.1 in (omega arith, omega arith))
      i

  abbrev last_piece : (f p : ℕ) → Labelled
  last_piece f p = record { label = At f p; words = [] }

  in_last : (f p : ℕ) (words : List VirtualWord) → IsIn (last_piece f (p + length words)) (laid_pieces T f p words)
  in_last f p [] = let z : p + 0 ≡ p = omega arith in inl (ap (last_piece f) z)
  in_last f p (word ∷ words) = let z : suc p + length words ≡ p + suc (length words) = omega arith in inr (subst (λ n. IsIn (last_piece f n) (laid_pieces T f (suc p) words)) z (in_last f (suc p) words))

  -- behind the last word of a layout
  laid_last : (f o p : ℕ) (words : List VirtualWord) → PlacedAt T o (laid_pieces T f p words) → T.starts f (p + length words) ≡ o + length (words_of (laid_pieces T f p words))
  laid_last f o p [] a =
      let z : p ≡ p + 0 = omega arith in
      let y : o ≡ o + 0 = omega arith in
      subst (λ n. T.starts f n ≡ o + 0) z (a.0 ∙ y)
  laid_last f o p (word ∷ words) a =
      let here : List Word = word_words T f p word in
      let rest : List Word = words_of (laid_pieces T f (suc p) words) in
      let z : suc p + length words ≡ p + suc (length words) = omega arith in
      let l : length (here ++ rest) ≡ length here + length rest = length-append here rest in
      let s : T.starts f (suc p + length words) ≡ o + length here + length rest = laid_last f (o + length here) (suc p) words a.1 in
      let y : o + length here + length rest ≡ o + length (here ++ rest) = omega arith in
      subst (λ n. T.starts f n ≡ o + length (here ++ rest)) z (s ∙ y)

  module _ (main count : ℕ) (words : List Word) (placed : IsPlaced T main count words) (f : ℕ) (lt : f < count) where
    abbrev Laid_out : List VirtualWord
    Laid_out = (T.layout f).words

    here : Span f f count
    here = span (0 + length (start_words T main)) 0 f count f (omega arith) lt placed.places.1

    abbrev Begin : ℕ
    Begin = here.from + length (entry_words T f)

    laid_here : PlacedAt T Begin (laid_pieces T f 0 Laid_out)
    laid_here = at_left T Begin (laid_pieces T f 0 Laid_out) (landing_pieces T f 0 Laid_out) here.placed.1

    landings_here : PlacedAt T (Begin + length (words_of (laid_pieces T f 0 Laid_out))) (landing_pieces T f 0 Laid_out)
    landings_here = at_right T Begin (laid_pieces T f 0 Laid_out) (landing_pieces T f 0 Laid_out) here.placed.1

    end_is : end_of T count f ≡ here.from + size_of f
    end_is = by (nat_lt (suc f) count) refl
      where
        by : (b : Bool) → nat_lt (suc f) count ≡ b → (if b then T.entry (suc f) else T.depth_trap) ≡ here.from + size_of f
        by true e = here.next (ltb-true (suc f) count e)
        by false e = let le : count ≤ suc f = ltb-false (suc f) count e in here.trap (omega arith)

    ends_by : (x : Labelled) → IsIn x (function_pieces T f) → place_of T x.label ≤ end_of T count f
    ends_by x i = let b = (piece_between here.from (function_pieces T f) x here.placed i).1 in let e = end_is in omega arith

    last_is : T.starts f (length Laid_out) ≡ Begin + length (words_of (laid_pieces T f 0 Laid_out))
    last_is = let z : 0 + length Laid_out ≡ length Laid_out = omega arith in subst (λ n. T.starts f n ≡ Begin + length (words_of (laid_pieces T f 0 Laid_out))) z (laid_last f Begin 0 Laid_out laid_here)

    landing_in : (p r i test q : ℕ) (y : Bool) (items : List Laid) (v : ℕ) (vs : List ℕ) → slice_get Laid_out p ≡ Some (Planned r i items) → slotted T f (laid_writes items) ≡ v ∷ vs → IsIn (Split test y q) items → IsIn (landing_at T f p q items) (landing_pieces T f 0 Laid_out)
    landing_in p r i test q y items v vs e s m = let z : 0 + p ≡ p = omega arith in subst (λ n. IsIn (landing_at T f n q items) (landing_pieces T f 0 Laid_out)) z (in_landings T f 0 p q test r i y Laid_out items v vs e s m)

    landing_between : (p r i test q : ℕ) (y : Bool) (items : List Laid) → slice_get Laid_out p ≡ Some (Planned r i items) → IsIn (Split test y q) items → (slotted T f (laid_writes items) ≡ [] → ⊥) → (T.starts f (length Laid_out) ≤ T.landing f p q) × (T.landing f p q ≤ end_of T count f)
    landing_between p r i test q y items e m some = by (slotted T f (laid_writes items)) refl
      where
        by : (xs : List ℕ) → slotted T f (laid_writes items) ≡ xs → (T.starts f (length Laid_out) ≤ T.landing f p q) × (T.landing f p q ≤ end_of T count f)
        by [] s = absurd (some s)
        by (v ∷ vs) s =
            let x : Labelled = landing_at T f p q items in
            let k : IsIn x (landing_pieces T f 0 Laid_out) = landing_in p r i test q y items v vs e s m in
            let a = (piece_between (Begin + length (words_of (laid_pieces T f 0 Laid_out))) (landing_pieces T f 0 Laid_out) x landings_here k).0 in
            let l = last_is in
            (omega arith, ends_by x (inr (in_right x (laid_pieces T f 0 Laid_out) (landing_pieces T f 0 Laid_out) k)))

    goes_up : (p : ℕ) → p < length Laid_out → T.starts f p ≤ T.starts f (suc p)
    goes_up p low = let x = get_some Laid_out p low in let n = word_next T main count words placed f p x.0 lt x.1 in omega arith

    pub in_order : InOrder T f (end_of T count f)
    in_order = record {
      entry = let n = entry_next T main count words placed f lt in omega arith;
      words = goes_up;
      last = let z : 0 + length Laid_out ≡ length Laid_out = omega arith in ends_by (last_piece f (length Laid_out)) (inr (in_left (last_piece f (length Laid_out)) (laid_pieces T f 0 Laid_out) (landing_pieces T f 0 Laid_out) (subst (λ n. IsIn (last_piece f n) (laid_pieces T f 0 Laid_out)) z (in_last f 0 Laid_out))));
      landings = landing_between;
    }

-- places

-- words of which none leads elsewhere
abbrev Straight : List Word → Type 0
Straight [] = Unit {0}
Straight (w ∷ ws) = (list_any is_control w.ops ≡ false) × Straight ws

straight_append : (xs ys : List Word) → Straight xs → Straight ys → Straight (xs ++ ys)
straight_append [] ys a b = b
straight_append (x ∷ xs) ys a b = (a.0, straight_append xs ys a.1 b)

straight_pause : (n : ℕ) → Straight (pause n)
straight_pause zero = tt
straight_pause (suc n) = (refl, tt)

straight_at : (words : List Word) (from : ℕ) (ws : List Word) (d : ℕ) (word : Word) → Stands words from ws → Straight ws → d < length ws → slice_get words (from + d) ≡ Some word → list_any is_control word.ops ≡ false
straight_at words from [] d word s h low e = absurd (omega arith)
straight_at words from (x ∷ ws) zero word s h low e =
    let z : from ≡ from + 0 = omega arith in
    let same : Some x ≡ Some word = sym s.0 ∙ ap (slice_get words) z ∙ e in
    let is : x ≡ word = cc in subst (λ (w : Word). list_any is_control w.ops ≡ false) is h.0
straight_at words from (x ∷ ws) (suc d) word s h low e = let z : from + 1 + d ≡ from + suc d = omega arith in straight_at words (from + 1) ws d word s.1 h.1 (omega arith) (ap (slice_get words) z ∙ e)

module _ (T : Target) where
  straight_settled : (ws : List Word) → Straight ws → Straight (settled T ws)
  straight_settled ws h = straight_append ws (pause (in_flight T.machine 0 ws)) h (straight_pause (in_flight T.machine 0 ws))

  module _ (f : ℕ) where
    straight_slot : (up v : ℕ) (to : GeneralRegister) (b : ℕ) → Straight (load_slot T f up v to b)
    straight_slot up v to b = by (holds_branch T f v)
      where
        by : (c : Bool) → Straight (if c
            then settled T (one (Load 0 answer (bytes (up + T.slot f v)) (stack_on 0) false) ∷ []) ++ one (Compute 0 (ToBranch Ne) (InBranch (record { cluster = 0; number = b })) (Held answer) (Number (pos 0))) ∷ []
            else one (Load to.cluster to (bytes (up + T.slot f v)) (stack_on to.cluster) false) ∷ [])
        by true = straight_append (settled T (one (Load 0 answer (bytes (up + T.slot f v)) (stack_on 0) false) ∷ [])) (one (Compute 0 (ToBranch Ne) (InBranch (record { cluster = 0; number = b })) (Held answer) (Number (pos 0))) ∷ [])
            (straight_settled (one (Load 0 answer (bytes (up + T.slot f v)) (stack_on 0) false) ∷ []) (refl, tt)) (refl, tt)
        by false = (refl, tt)

    straight_slots : (names vs : List ℕ) → Straight (load_slots T f names vs)
    straight_slots names [] = tt
    straight_slots names (v ∷ vs) = straight_append (load_slot T f 0 v (general_of T f names v) (branch_of T f names v)) (load_slots T f names vs) (straight_slot 0 v (general_of T f names v) (branch_of T f names v)) (straight_slots names vs)

    straight_before : (names : List ℕ) → Straight (before T f names)
    straight_before names = by (slotted T f names)
      where
        by : (vs : List ℕ) → Straight (if_some vs (settled T (load_slots T f names (once vs))))
        by [] = tt
        by (v ∷ vs) = straight_settled (load_slots T f names (once (v ∷ vs))) (straight_slots names (once (v ∷ vs)))

-- the whole

module _ (m : Numbers) (flow : Flow) (ls : List VWords) (maps : List RegMap) (x : Finished) (finishes : Finishes m flow ls maps x) where
  abbrev T : Target
  T = finishes.finished.target

  abbrev Count : ℕ
  Count = length flow.functions

  c : Carries T flow ls x.program
  c = finishes.finished.carries

  in_part : (f p r i q : ℕ) (items : List Laid) → f < length ls → slice_get (T.layout f).words p ≡ Some (Planned r i items) → IsPlaceIn x.places ls f r i q → IsInPart T x.program f p q
  in_part f p r i q items low e at =
      let lt : f < Count = subst (λ n. f < n) finishes.functions low in
      let same : Some (plan_place T f p items) ≡ Some q = sym (finishes.places.each f p r i items low e) ∙ at in
      let is : plan_place T f p items ≡ q = cc in
      let loads : List Word = before T f (laid_reads items) in
      let next : T.starts f (suc p) ≡ T.starts f p + length (plan_words T f p items) = word_next T flow.main Count x.program.words c.placed f p (Planned r i items) lt e in
      let len : length (plan_words T f p items) ≡ length loads + suc (length (behind T f items)) = length-append loads (plan_word T f p items ∷ behind T f items) in
      let stand : Stands x.program.words (T.starts f p) loads = stands_left x.program.words (T.starts f p) loads (plan_word T f p items ∷ behind T f items) (word_stands T flow.main Count x.program.words c.placed f p (Planned r i items) lt e) in
      record {
        from = omega arith;
        to = omega arith;
        straight = λ d word a b there. let z : d ≡ T.starts f p + (d - T.starts f p) = omega arith in straight_at x.program.words (T.starts f p) loads (d - T.starts f p) word stand (straight_before T f (laid_reads items)) (omega arith) (ap (slice_get x.program.words) (sym z) ∙ there);
      }

pub emitted_law : EmittedLaw
emitted_law m flow ls maps x finishes sound spaced =
    let all = c m flow ls maps x finishes in
    let target : Target = finishes.finished.target in
    record {
      target = target;
      machine_is = finishes.finished.machine_is;
      one_layout_each = finishes.functions;
      maps_are = finishes.finished.maps_are;
      functions = λ f lt. (all.functions f lt).is;
      saved = λ f lt. (all.functions f lt).saved;
      framed = λ f lt. (all.functions f lt).framed;
      frame_not_empty = all.some_frame;
      globals = all.globals;
      small = all.small;
      memory = all.memory;
      start = all.start;
      texts = all.texts;
      order = in_order target flow.main (length flow.functions) x.program.words all.placed;
      trap = (depth_stands target flow.main (length flow.functions) x.program.words all.placed).0;
      regions = finishes.places.regions;
      counts = finishes.places.words;
      in_part = in_part m flow ls maps x finishes;
      carries = plan_law m flow ls maps x finishes sound spaced;
    }
