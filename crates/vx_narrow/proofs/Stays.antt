-- A flow of a program stays one.
use Rattle.std.proofs.Common.{◌≡◌, inl, inr, ℕ, suc, ◌+◌, ◌<◌, ◌≤◌, Bool, true, false, ℤ, List, [], ◌∷◌, length, slice_get, Option, Some, None, refl, sym, ap, ◌∙◌, subst, arith}
use Rattle.std.specs.Option.{option_map}
use Rattle.vx_base.specs.Outcome.{Same, NeverFails}
use Rattle.vx_base.specs.declared.outcome.Trap.{Trap}
use Rattle.vx_ast.specs.Tree.{Function, Program}
use Rattle.vx_ast.specs.Meaning.{source}
use Rattle.vx_flow.specs.declared.graph.Op.{Op}
use Rattle.vx_flow.specs.declared.graph.Exit.{Exit}
use Rattle.vx_flow.specs.declared.graph.Exit.TheVariants.{Goto, Split, Call, Return, Ends}
use Rattle.vx_flow.specs.declared.graph.Array.{Array}
use Rattle.vx_flow.specs.declared.graph.Block.{Block}
use Rattle.vx_flow.specs.declared.graph.Graph.{Graph}
use Rattle.vx_flow.specs.Effects.{IsIn}
use Rattle.vx_flow.specs.Meaning.{graph_run}
use Rattle.vx_flow.specs.Sound.{targets_of}
use Rattle.vx_lower.specs.FlowOf.{AreNumbers, EndsBy, IsEdge, GraphOf}
use Rattle.vx_claims.specs.declared.claim.Claim.{Claim}
use Rattle.vx_claims.specs.declared.fact.Fact.{Fact}
use Rattle.vx_claims.specs.Facts.{decided}
use Rattle.vx_claims.specs.declared.access.Access.{Access}
use Rattle.vx_claims.specs.Accesses.{accessed}
use Rattle.vx_claims.specs.Forming.{form, after_known, after_all}
use Rattle.vx_narrow.specs.Rewriting.{split_by, narrowed_exit, narrowed_block, narrowed_from, narrowed_graph, narrowed_functions, narrowed}
use Rattle.vx_narrow.specs.Shortening.{improved_from, improved_all}
use Rattle.vx_narrow.proofs.Narrows.{get_block, get_function}
use Rattle.vx_narrow.proofs.NarrowRuns.{narrowed_runs}
use Rattle.vx_narrow.specs.Staying.{StaysFlow}

-- ---- lengths

from_length : (arrays : List Array) (block : List Op) (fs : List Fact) (xs : List Access) (ops : List Op) → length (improved_from arrays block fs xs ops) ≡ length ops
from_length arrays block fs xs [] = refl
from_length arrays block fs xs (op ∷ ops) = ap suc (from_length arrays block (after_known fs xs op (form fs xs op)) (accessed arrays xs (form fs xs op)) ops)

improved_length : (arrays : List Array) (claim : Claim) (ops : List Op) → length (improved_all arrays claim ops) ≡ length ops
improved_length arrays claim ops = from_length arrays ops claim.facts claim.accesses ops

blocks_length : (arrays : List Array) (k : ℕ → Claim) (n : ℕ) (bs : List Block) → length (narrowed_from arrays k n bs) ≡ length bs
blocks_length arrays k n [] = refl
blocks_length arrays k n (b ∷ bs) = ap suc (blocks_length arrays k (n + 1) bs)

functions_length : (k : ℕ → ℕ → Claim) (n : ℕ) (gs : List Graph) → length (narrowed_functions k n gs) ≡ length gs
functions_length k n [] = refl
functions_length k n (g ∷ gs) = ap suc (functions_length k (n + 1) gs)

-- ---- exits

split_ends : (o : Option Bool) (p c d : ℕ) (trap : Trap) → split_by o p c d ≡ Ends trap → ⊥
split_ends None p c d trap e = cc
split_ends (Some t) p c d trap e = cc

exit_ends : (fs : List Fact) (exit : Exit) (trap : Trap) → narrowed_exit fs exit ≡ Ends trap → exit ≡ Ends trap
exit_ends fs (Goto c) trap e = e
exit_ends fs (Split p c d) trap e = absurd (split_ends (decided fs p) p c d trap e)
exit_ends fs (Call f arguments result to) trap e = e
exit_ends fs (Return x) trap e = e
exit_ends fs (Ends k) trap e = e

split_splits : (o : Option Bool) (p c d q x y : ℕ) → split_by o p c d ≡ Split q x y → Split p c d ≡ Split q x y
split_splits None p c d q x y e = e
split_splits (Some t) p c d q x y e = absurd (cc)

exit_splits : (fs : List Fact) (exit : Exit) (q x y : ℕ) → narrowed_exit fs exit ≡ Split q x y → exit ≡ Split q x y
exit_splits fs (Goto c) q x y e = e
exit_splits fs (Split p c d) q x y e = split_splits (decided fs p) p c d q x y e
exit_splits fs (Call f arguments result to) q x y e = e
exit_splits fs (Return z) q x y e = e
exit_splits fs (Ends k) q x y e = e

split_leads : (o : Option Bool) (p c d t : ℕ) → IsIn t (targets_of (split_by o p c d)) → IsIn t (c ∷ d ∷ [])
split_leads None p c d t m = m
split_leads (Some true) p c d t (inl e) = inl e
split_leads (Some true) p c d t (inr m) = absurd m
split_leads (Some false) p c d t (inl e) = inr (inl e)
split_leads (Some false) p c d t (inr m) = absurd m

exit_leads : (fs : List Fact) (exit : Exit) (t : ℕ) → IsIn t (targets_of (narrowed_exit fs exit)) → IsIn t (targets_of exit)
exit_leads fs (Goto c) t m = m
exit_leads fs (Split p c d) t m = split_leads (decided fs p) p c d t m
exit_leads fs (Call f arguments result to) t m = m
exit_leads fs (Return x) t m = m
exit_leads fs (Ends k) t m = m

-- ---- graphs

module _ (k : ℕ → Claim) (g : Graph) where
  abbrev thin : Graph
  thin = narrowed_graph k g

  -- the block that a block came from
  record From (b : ℕ) (block : Block) : Type 0 where
    pub before : Block
    pub has : slice_get g.blocks b ≡ Some before
    pub is : narrowed_block g.arrays k b before ≡ block

  from_by : (b : ℕ) (block : Block) (o : Option Block) → slice_get g.blocks b ≡ o → option_map (narrowed_block g.arrays k b) o ≡ Some block → From b block
  from_by b block None e q = absurd (cc)
  from_by b block (Some old) e q = record { before = old; has = e; is = cc }

  at_block : (b : ℕ) → slice_get thin.blocks b ≡ option_map (narrowed_block g.arrays k b) (slice_get g.blocks b)
  at_block b = let e : 0 + b ≡ b = omega arith in get_block g.arrays k 0 g.blocks b ∙ ap (λ m. option_map (narrowed_block g.arrays k m) (slice_get g.blocks b)) e

  from : (b : ℕ) (block : Block) → slice_get thin.blocks b ≡ Some block → From b block
  from b block e = from_by b block (slice_get g.blocks b) refl (sym (at_block b) ∙ e)

  ends_before : (b : ℕ) (trap : Trap) → EndsBy thin b trap → EndsBy g b trap
  ends_before b trap e =
      let f = from b e.block e.has in
      record { block = f.before; has = f.has; ends = exit_ends (after_all g.arrays (k b) f.before.ops) f.before.exit trap (ap (λ (x : Block). x.exit) f.is ∙ e.ends) }

  ends_after : (b : ℕ) (trap : Trap) → EndsBy g b trap → EndsBy thin b trap
  ends_after b trap e = record {
    block = narrowed_block g.arrays k b e.block;
    has = at_block b ∙ ap (option_map (narrowed_block g.arrays k b)) e.has;
    ends = ap (narrowed_exit (after_all g.arrays (k b) e.block.ops)) e.ends;
  }

  edge_before : (b c : ℕ) → IsEdge thin b c → IsEdge g b c
  edge_before b c e =
      let f = from b e.block e.has in
      record { block = f.before; has = f.has; leads = exit_leads (after_all g.arrays (k b) f.before.ops) f.before.exit c (subst (λ (x : Block). IsIn c (targets_of x.exit)) (sym f.is) e.leads) }

  no_ops : (b : ℕ) (block : Block) (f : From b block) → f.before.ops ≡ [] → block.ops ≡ []
  no_ops b block f e = sym (ap (λ (x : Block). x.ops) f.is) ∙ ap (improved_all g.arrays (k b)) e

  graph_of : (p : Program) (function : Function) → GraphOf p function g → GraphOf p function thin
  unfolding from ends_before
  graph_of p function o = record {
    parameters = o.parameters;
    arrays = o.arrays;
    bases = o.bases;
    trap_empty = λ b trap e. no_ops b e.block (from b e.block e.has) (o.trap_empty b trap (ends_before b trap e));
    trap_alone = λ b c trap e f. o.trap_alone b c trap (ends_before b trap e) (ends_before c trap f);
    traps_last = λ b c trap e l m. let w = o.traps_last b c trap (ends_before b trap e) l (subst (λ n. c < n) (blocks_length g.arrays k 0 g.blocks) m) in (w.0, ends_after c w.0 w.1);
    short = λ b block e. let f = from b block e in subst (λ n. n ≤ 512) (sym (improved_length g.arrays (k b) f.before.ops) ∙ ap (λ (x : Block). length x.ops) f.is) (o.short b f.before f.has);
    apart = λ b block test yes no e q. let f = from b block e in o.apart b f.before test yes no f.has (exit_splits (after_all g.arrays (k b) f.before.ops) f.before.exit test yes no (ap (λ (x : Block). x.exit) f.is ∙ q));
    uncritical = λ b c d e x y n z. o.uncritical b c d e (edge_before b c x) (edge_before b d y) n (edge_before e d z);
    entry = λ b e. o.entry b (edge_before b 0 e);
    general_values = o.general_values;
    branch_values = o.branch_values;
  }

-- ---- flows

graph_by : (p : Program) (k : ℕ → Claim) (function : Function) (graph : Graph) (o : Option Graph) → ((g : Graph) → o ≡ Some g → GraphOf p function g) → option_map (narrowed_graph k) o ≡ Some graph → GraphOf p function graph
graph_by p k function graph None h e = absurd (cc)
graph_by p k function graph (Some g) h e = let q : narrowed_graph k g ≡ graph = cc in subst (GraphOf p function) q (graph_of k g p function (h g refl))

pub stays_flow : StaysFlow
stays_flow p flow given claims checked o sound =
    let at : (f : ℕ) → slice_get (narrowed claims flow).functions f ≡ option_map (narrowed_graph (claims f)) (slice_get flow.functions f) =
    λ f. (let e : 0 + f ≡ f = omega arith in get_function claims 0 flow.functions f ∙ ap (λ m. option_map (narrowed_graph (claims m)) (slice_get flow.functions f)) e) in
    let runs : (input : List ℤ) → AreNumbers input → graph_run (narrowed claims flow) input ≡ graph_run flow input =
    λ input numbers. (λ i n. narrowed_runs flow given claims checked input numbers (o.runs.never_wrong input numbers) n i) in
    record {
      sound = sound;
      count = functions_length claims 0 flow.functions ∙ o.count;
      graphs = λ f function graph e q. graph_by p (claims f) function graph (slice_get flow.functions f) (λ g r. o.graphs f function g e r) (sym (at f) ∙ q);
      globals = o.globals;
      main = o.main;
      runs = record {
        same = λ input numbers. subst (Same (source p input)) (sym (runs input numbers)) (o.runs.same input numbers);
        never_wrong = λ input numbers. subst NeverFails (sym (runs input numbers)) (o.runs.never_wrong input numbers);
      };
    }
