-- A graph that has the shape of a function's graph, and few values, can begin.
use Rattle.std.proofs.Common.{◌≡◌, ◌⊎◌, inl, inr, ℕ, ◌<◌, ◌≤◌, true, List, length, refl, subst, arith}
use Rattle.std.specs.Prelude.{◌*◌, ◌^◌}
use Rattle.std.proofs.lemmas.Bool.{cases_eq}
use Rattle.vx_flow.specs.declared.graph.Edge.{Edge}
use Rattle.vx_flow.specs.declared.graph.Exit.{Exit}
use Rattle.vx_flow.specs.declared.graph.Exit.TheVariants.{Goto, Split, Call, Return, Ends}
use Rattle.vx_flow.specs.declared.graph.Graph.{Graph}
use Rattle.vx_lower.specs.FlowOf.{IsEdge}
use Rattle.vx_mixed.specs.Valid.{PartsWays, NoCritical, IsGraphEdge, CanBegin}
use Rattle.vx_shape.specs.Shape.{Shaped}
use Rattle.vx_shape.specs.ShapeTest.{is_shaped}
use Rattle.vx_shape.proofs.ShapeTests.{shaped_where_tested}

few : (n : ℕ) → n ≤ 858993459 → 5 * n < 2 ^ 32
few n h = omega arith

apart : (exit : Exit) → ((test c d : ℕ) → exit ≡ Split test c d → c ≡ d → ⊥) → PartsWays exit
apart (Split test c d) h = λ e. h test c d refl e
apart (Goto c) h = tt
apart (Call g arguments result next) h = tt
apart (Return x) h = tt
apart (Ends k) h = tt

there : (g : Graph) (e : Edge) → IsGraphEdge g e → IsEdge g e.from e.to
there g e h = record { block = h.block; has = h.has; leads = h.leads }

same : (e f : Edge) → f.from ≡ e.from → f.to ≡ e.to → f ≡ e
same e f a b = λ i. record { from = a i; to = b i }

-- where f leaves as e does, and h enters as e does, one of the two is e
uncritical : (g : Graph) → Shaped g → NoCritical (IsGraphEdge g)
uncritical g shape e f h at_e at_f at_h from to = by (cases_eq f.to e.to)
  where
    by : (f.to ≡ e.to) ⊎ (f.to ≡ e.to → ⊥) → (f ≡ e) ⊎ (h ≡ e)
    by (inl q) = inl (same e f from q)
    by (inr n) =
        let beside : IsEdge g e.from f.to = subst (λ z. IsEdge g z f.to) from (there g f at_f) in
        let before : IsEdge g h.from e.to = subst (λ z. IsEdge g h.from z) to (there g h at_h) in
        inr (same e h (shape.uncritical e.from f.to e.to h.from beside (there g e at_e) n before) to)

pub begins : (g : Graph) (origins : List ℕ) → is_shaped origins g.blocks ≡ true → length g.banks ≤ 858993459 → CanBegin g
begins g origins shaped small =
    let shape : Shaped g = shaped_where_tested g origins shaped in
    record {
      copies = few (length g.banks) small;
      parts = λ b block at. apart block.exit (λ test c d e q. shape.apart b block test c d at e q);
      entry = λ e at to. shape.entry e.from (subst (λ z. IsEdge g e.from z) to (there g e at));
      uncritical = uncritical g shape;
    }
