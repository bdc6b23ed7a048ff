-- The graph that counts can begin.
use Rattle.std.proofs.Common.{◌≡◌, ◌≢◌, ℕ, zero, suc, ◌+◌, ◌<◌, Bool, true, false, ◌&&◌, Option, Some, None, List, length, slice_get, refl, sym, ap, ◌∙◌, subst, ⊎_elim, inl, inr, arith}
use Rattle.std.specs.Prelude.{◌==◌, ◌||◌, ◌*◌, ◌^◌, not}
use Rattle.std.specs.List.{list_all}
use Rattle.std.proofs.lemmas.Bool.{or_cases, eq-eqb}
use Rattle.vx_flow.specs.declared.graph.Block.{Block}
use Rattle.vx_flow.specs.declared.graph.Edge.{Edge}
use Rattle.vx_flow.specs.declared.graph.Graph.{Graph}
use Rattle.vx_flow.specs.Effects.{IsIn}
use Rattle.vx_flow.specs.Walk.{edge}
use Rattle.vx_mixed.specs.FromGraph.{same_edge}
use Rattle.vx_motion.specs.CountingExample.{counting_blocks, counting_banks, counting_edges, CountingBegins}
use Rattle.vx_mixed.specs.Valid.{NoCritical, PartsWays, IsGraphEdge, CanBegin}
use Rattle.vx_mixed.proofs.Begins.{all_in}
use Rattle.vx_mixed.proofs.BlockEdges.{to_edges, successor_is}
use Rattle.vx_mixed.proofs.NewNodes.{and_both, same_is}

abbrev alone : Edge → Edge → Edge → Bool
alone e f g = not ((f.from == e.from) && (g.to == e.to)) || (same_edge f e || same_edge g e)

pub no_critical : (Is : Edge → Type 0) (es : List Edge) → ((e : Edge) → Is e → IsIn e es) → list_all (λ e. list_all (λ f. list_all (alone e f) es) es) es ≡ true → NoCritical Is
no_critical Is es into all e f g a b c p q =
    let one = all_in (λ e. list_all (λ f. list_all (alone e f) es) es) es e all (into e a) in
    let two = all_in (λ f. list_all (alone e f) es) es f one (into f b) in
    let three = all_in (alone e f) es g two (into g c) in
    let meets : ((f.from == e.from) && (g.to == e.to)) ≡ true = and_both (f.from == e.from) (g.to == e.to) (eq-eqb f.from e.from p) (eq-eqb g.to e.to q) in
    ⊎_elim
    (λ n. absurd (let z : false ≡ true = sym (ap not meets) ∙ n in cc))
    (λ s. ⊎_elim (λ t. inl (same_is f e t)) (λ t. inr (same_is g e t)) (or_cases (same_edge f e) (same_edge g e) s))
    (or_cases (not ((f.from == e.from) && (g.to == e.to))) (same_edge f e || same_edge g e) three)

abbrev Fits : Option Block → Type 0
Fits None = Unit {0}
Fits (Some k) = PartsWays k.exit

differs : suc (suc (suc zero)) ≡ suc (suc zero) → ⊥
differs e = absurd (omega arith)

each_fits : (b : ℕ) → Fits (slice_get counting_blocks b)
each_fits zero = tt
each_fits (suc zero) = differs
each_fits (suc (suc zero)) = tt
each_fits (suc (suc (suc zero))) = tt
each_fits (suc (suc (suc (suc b)))) = tt

counting_parts : (b : ℕ) (block : Block) → slice_get counting_blocks b ≡ Some block → PartsWays block.exit
counting_parts b block h = subst Fits h (each_fits b)

module _ (graph : Graph) (blocks : graph.blocks ≡ counting_blocks) (banks : graph.banks ≡ counting_banks) where
  listed : (e : Edge) → IsGraphEdge graph e → IsIn e counting_edges
  listed e h =
      let at : slice_get counting_blocks e.from ≡ Some h.block = ap (λ z. slice_get z e.from) (sym blocks) ∙ h.has in
      let z : 0 + e.from ≡ e.from = omega arith in
      subst (λ n. IsIn (edge n e.to) counting_edges) z (to_edges 0 counting_blocks e.from e.to h.block at ((successor_is h.block.exit e.to).1 h.leads))

  not_entry : (e : Edge) → IsIn e counting_edges → e.to ≢ 0
  not_entry e (inl q) h = absurd (let z = ap (λ (x : Edge). x.to) q in omega arith)
  not_entry e (inr (inl q)) h = absurd (let z = ap (λ (x : Edge). x.to) q in omega arith)
  not_entry e (inr (inr (inl q))) h = absurd (let z = ap (λ (x : Edge). x.to) q in omega arith)
  not_entry e (inr (inr (inr (inl q)))) h = absurd (let z = ap (λ (x : Edge). x.to) q in omega arith)
  not_entry e (inr (inr (inr (inr q)))) h = q

  pub counting_begins : CanBegin graph
  counting_begins = record {
    copies = subst (λ z. 5 * length z < 2 ^ 32) (sym banks) (omega arith);
    parts = λ b block h. counting_parts b block (ap (λ z. slice_get z b) (sym blocks) ∙ h);
    entry = λ e h. not_entry e (listed e h);
    uncritical = no_critical (IsGraphEdge graph) counting_edges listed refl;
  }

pub counting_begins_so : CountingBegins
counting_begins_so = record { edges = refl; begins = counting_begins }
