use Rattle.std.proofs.Common.{◌≡◌, ◌-◌, ◌∷◌, ◌∙◌, ℕ, Bool, true, false, Some, None, List, length, take, drop, slice_index_or, sym, ap}
use Rattle.std.specs.Prelude.{◌==◌, if◌then◌else◌}
use Rattle.std.specs.List.{list_any}
use Rattle.std.proofs.lemmas.Bool.{eq-eqb, ne_eqb}
use Rattle.std.proofs.lemmas.Result.{IfOk-weaker}
use Rattle.vx_flow.specs.declared.trace.Join.{Join}
use Rattle.vx_mixed.specs.declared.mixed.MixedGraph.{MixedGraph}
use Rattle.vx_mixed.specs.declared.region.Node.{Node}
use Rattle.vx_mixed.specs.declared.region.Node.TheVariants.{Enters}
use Rattle.vx_mixed.specs.declared.replacement.Replacement.{Replacement}
use Rattle.vx_mixed.specs.Next.{entered_at, new_end, rejoin_at, renamed_node, trace_node}
use Rattle.vx_replace.proofs.PutSteps.{first_of, none_of}
use Rattle.vx_replace.proofs.nodes.node_after.Goals as goal

module _ (m : MixedGraph) (r : Replacement) (b : ℕ) (node : Node) where
  abbrev inside : Bool → Node
  inside t = if t then entered_at (length m.regions) (rejoin_at r.trace.joins r.rejoins b) else renamed_node (new_end m r.made) b node

  at_first : (first : ℕ) (others : List ℕ) → first ≡ b → trace_node m r (first ∷ others) b node ≡ Enters (length m.regions) 0
  at_first first others e = ap (λ t. if t then Enters (length m.regions) 0 else inside (list_any (λ c. c == b) others)) (eq-eqb first b e)

  behind : (first : ℕ) (others : List ℕ) (t : Bool) → (first ≡ b → ⊥) → list_any (λ c. c == b) others ≡ t → trace_node m r (first ∷ others) b node ≡ inside t
  behind first others t n e = ap (λ t. if t then Enters (length m.regions) 0 else inside (list_any (λ c. c == b) others)) (ne_eqb first b n) ∙ ap inside e

pub returns-in-empty : goal.returns-in-empty
returns-in-empty c =
    let m = c.args.graph.now in
    let r = c.args.replacement.now in
    let b = c.args.block in
    let node = c.args.node.now in
    IfOk-weaker c.renamed_node.result (λ after. after ≡ renamed_node (new_end m r.made) b node) (λ after. after ≡ trace_node m r r.trace.blocks b node)
    (λ after e. e ∙ ap (λ bs. trace_node m r bs b node) (sym (none_of c.as_slice.result.now c.in-empty.len_below) ∙ c.as_slice.ensures))
    c.renamed_node.ensures

pub returns-then-first-block : goal.returns-then-first-block
returns-then-first-block c =
    let m = c.args.graph.now in
    let r = c.args.replacement.now in
    let b = c.args.block in
    let node = c.args.node.now in
    let bs = c.as_slice.result.now in
    ap (λ q. Enters q 0) c.len-region.ensures.len
    ∙ sym (ap (λ z. trace_node m r z b node) (sym c.as_slice.ensures ∙ first_of bs c.in-len1-up.len_at_least) ∙ at_first m r b node (slice_index_or bs 0 0) (take (length bs - 1) (drop 1 bs)) c.if-first-block.true)

pub returns-in-Some : goal.returns-in-Some
returns-in-Some c =
    let m = c.args.graph.now in
    let r = c.args.replacement.now in
    let b = c.args.block in
    let node = c.args.node.now in
    let bs = c.as_slice.result.now in
    let w = c.in-Some.word in
    let found : rejoin_at r.trace.joins r.rejoins b ≡ Some w = sym (c.rejoin_at.ensures ∙ ap (λ (js : List Join). rejoin_at js c.as_slice-then-is_among.result.now b) c.as_slice-joins.ensures ∙ ap (λ ws. rejoin_at r.trace.joins ws b) c.as_slice-then-is_among.ensures) ∙ c.in-Some.is in
    ap (λ q. Enters q w) c.len-region.ensures.len
    ∙ sym (ap (λ z. trace_node m r z b node) (sym c.as_slice.ensures ∙ first_of bs c.in-len1-up.len_at_least) ∙ behind m r b node (slice_index_or bs 0 0) (take (length bs - 1) (drop 1 bs)) true c.if-first-block.false (sym c.is_among.ensures ∙ c.if-is_among.true) ∙ ap (entered_at (length m.regions)) found)

pub returns-in-None : goal.returns-in-None
returns-in-None c =
    let m = c.args.graph.now in
    let r = c.args.replacement.now in
    let b = c.args.block in
    let node = c.args.node.now in
    let bs = c.as_slice.result.now in
    let found : rejoin_at r.trace.joins r.rejoins b ≡ None = sym (c.rejoin_at.ensures ∙ ap (λ (js : List Join). rejoin_at js c.as_slice-then-is_among.result.now b) c.as_slice-joins.ensures ∙ ap (λ ws. rejoin_at r.trace.joins ws b) c.as_slice-then-is_among.ensures) ∙ c.in-None.is in
    sym (ap (λ z. trace_node m r z b node) (sym c.as_slice.ensures ∙ first_of bs c.in-len1-up.len_at_least) ∙ behind m r b node (slice_index_or bs 0 0) (take (length bs - 1) (drop 1 bs)) true c.if-first-block.false (sym c.is_among.ensures ∙ c.if-is_among.true) ∙ ap (entered_at (length m.regions)) found)

pub returns-else-is_among : goal.returns-else-is_among
returns-else-is_among c =
    let m = c.args.graph.now in
    let r = c.args.replacement.now in
    let b = c.args.block in
    let node = c.args.node.now in
    let bs = c.as_slice.result.now in
    IfOk-weaker c.renamed_node-else-is_among.result (λ after. after ≡ renamed_node (new_end m r.made) b node) (λ after. after ≡ trace_node m r r.trace.blocks b node)
    (λ after e. e ∙ sym (ap (λ z. trace_node m r z b node) (sym c.as_slice.ensures ∙ first_of bs c.in-len1-up.len_at_least) ∙ behind m r b node (slice_index_or bs 0 0) (take (length bs - 1) (drop 1 bs)) false c.if-first-block.false (sym c.is_among.ensures ∙ c.if-is_among.false)))
    c.renamed_node-else-is_among.ensures
