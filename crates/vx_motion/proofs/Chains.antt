-- Graphs replaced one after the other.
use Rattle.std.proofs.Common.{◌≡◌, ◌≢◌, ℕ, zero, suc, ℤ, Option, Some, None, List, [], ◌∷◌, length, slice_get, refl, sym, subst}
use Rattle.vx_base.proofs.Same.{same_self, same_on}
use Rattle.vx_flow.specs.declared.graph.Op.{Op}
use Rattle.vx_flow.specs.declared.graph.Flow.{Flow}
use Rattle.vx_flow.specs.Apart.{GlobalsFirst}
use Rattle.vx_mixed.specs.declared.mixed.MixedGraph.{MixedGraph}
use Rattle.vx_mixed.specs.Program.{mixed_run}
use Rattle.vx_motion.specs.Context.{Becomes, Remains, Both, AllBecome, HaveGlobalsFirst, SameRuns, Chain, Done, Then, ChainLaw, Steps, Stays, Goes, AllStep, StepsLaw}
use Rattle.vx_motion.proofs.Context.{arrays_stay, in_context}

-- the arrays stay
first_on : (globals : ℕ) (latency : Op → ℕ) (o p : Option MixedGraph) → Both latency o p → ((m : MixedGraph) → o ≡ Some m → GlobalsFirst globals m.arrays) → (n : MixedGraph) → p ≡ Some n → GlobalsFirst globals n.arrays
first_on globals latency None None l f n e = absurd (cc)
first_on globals latency None (Some y) l f n e = absurd l
first_on globals latency (Some x) None l f n e = absurd l
first_on globals latency (Some x) (Some y) l f n e =
    let q : y ≡ n = cc in
    subst (λ (z : MixedGraph). GlobalsFirst globals z.arrays) q (subst (GlobalsFirst globals) (sym (arrays_stay latency x y l)) (f x refl))

chained : (flow : Flow) (times : List ℕ) (latency : Op → ℕ) (ms ns : List MixedGraph) (input : List ℤ) → times ≢ [] → HaveGlobalsFirst (length flow.globals) ms → Chain latency ms ns → SameRuns flow times latency ms ns input
chained flow times latency ms ns input some first (Done {ms = first_ones}) safe = (same_self (mixed_run flow times latency first_ones input), safe)
chained flow times latency ms ns input some first (Then {ms = first_ones} {ns = bs} {os = cs} one rest) safe =
    let here = in_context flow times latency first_ones bs input some first one safe in
    let next : HaveGlobalsFirst (length flow.globals) bs = λ f n e. first_on (length flow.globals) latency (slice_get first_ones f) (slice_get bs f) (one f) (first f) n e in
    let more = chained flow times latency bs cs input some next rest here.1 in
    (same_on (mixed_run flow times latency first_ones input) (mixed_run flow times latency bs input) (mixed_run flow times latency cs input) here.0 more.0, more.1)

pub chain_law : ChainLaw
chain_law flow times latency ms ns input some first chain = chained flow times latency ms ns input some first chain

-- Each function by itself

module _ (latency : Op → ℕ) where
  both_same : (o : Option MixedGraph) → Both latency o o
  both_same None = tt
  both_same (Some m) = Remains refl

  first_becomes : (m n : MixedGraph) (rest : List MixedGraph) → Becomes latency m n → AllBecome latency (m ∷ rest) (n ∷ rest)
  first_becomes m n rest one zero = one
  first_becomes m n rest one (suc f) = both_same (slice_get rest f)

  others_become : (m : MixedGraph) (ms ns : List MixedGraph) → AllBecome latency ms ns → AllBecome latency (m ∷ ms) (m ∷ ns)
  others_become m ms ns each zero = Remains refl
  others_become m ms ns each (suc f) = each f

  first_steps : (m n : MixedGraph) (rest : List MixedGraph) → Steps latency m n → Chain latency (m ∷ rest) (n ∷ rest)
  first_steps m n rest (Stays {m = x}) = Done {ms = x ∷ rest}
  first_steps m n rest (Goes {m = x} {n = y} {o = z} one more) = Then {ms = x ∷ rest} {ns = y ∷ rest} {os = z ∷ rest} (first_becomes x y rest one) (first_steps y z rest more)

  -- the same with one more function in front
  others_chain : (m : MixedGraph) (ms ns : List MixedGraph) → Chain latency ms ns → Chain latency (m ∷ ms) (m ∷ ns)
  others_chain m ms ns (Done {ms = xs}) = Done {ms = m ∷ xs}
  others_chain m ms ns (Then {ms = xs} {ns = ys} {os = zs} one more) = Then {ms = m ∷ xs} {ns = m ∷ ys} {os = m ∷ zs} (others_become m xs ys one) (others_chain m ys zs more)

  one_after_other : (ms ns os : List MixedGraph) → Chain latency ms ns → Chain latency ns os → Chain latency ms os
  one_after_other ms ns os (Done {ms = xs}) next = next
  one_after_other ms ns os (Then {ms = xs} {ns = ys} {os = zs} one more) next = Then {ms = xs} {ns = ys} {os = os} one (one_after_other ys zs os more next)

  all_chain : (ms ns : List MixedGraph) → AllStep latency ms ns → Chain latency ms ns
  all_chain [] [] each = Done {ms = []}
  all_chain [] (n ∷ ns) each = absurd (each 0)
  all_chain (m ∷ ms) [] each = absurd (each 0)
  all_chain (m ∷ ms) (n ∷ ns) each = one_after_other (m ∷ ms) (n ∷ ms) (n ∷ ns) (first_steps m n ms (each 0)) (others_chain n ms ns (all_chain ms ns (λ f. each (suc f))))

pub steps_law : StepsLaw
steps_law flow times latency ms ms' input some first each = chained flow times latency ms ms' input some first (all_chain latency ms ms' each)
