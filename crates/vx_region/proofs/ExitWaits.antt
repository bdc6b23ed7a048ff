-- The empty cycles of each split, as they stand at it in the region.
use Rattle.std.proofs.Common.{◌≡◌, ◌⊎◌, inl, inr, ℕ, zero, suc, ◌+◌, ◌<◌, Bool, List, [], ◌∷◌, length, map, refl, sym, ap, ◌∙◌, arith}
use Rattle.vx_flow.specs.declared.graph.Edge.{Edge}
use Rattle.vx_flow.specs.declared.trace.TraceOp.{TraceOp}
use Rattle.vx_flow.specs.declared.trace.TraceOp.TheVariants.{Plain as TracePlain, Split as TraceSplit}
use Rattle.vx_isa.specs.Numbers.{Numbers}
use Rattle.vx_room.specs.Items.{latency_of_op}
use Rattle.vx_mixed.specs.declared.region.Item.TheVariants.{Split}
use Rattle.vx_motion.specs.Trace.{nth}
use Rattle.vx_mixed.specs.Way.{item_latency}
use Rattle.vx_mixed.specs.TraceItems.{plain_item}
use Rattle.vx_motion.proofs.PlacedWords.{marks}
use Rattle.vx_dep.specs.declared.copies.EdgeCopies.{EdgeCopies}
use Rattle.vx_dep.specs.Delays.{latency_of}
use Rattle.vx_dep.specs.Compensation.{splits_from}

-- its drain is the one of its place
pub drain_there : (whole : List ℕ) (drain : ℕ → ℕ) (to : ℕ → ℕ → ℕ) (ops : List TraceOp) (cs words above : List ℕ) (b k p d : ℕ) (y : Bool) (edge : Edge) → length cs ≡ length ops → length words ≡ length ops →
    nth (marks to ops cs words (map (λ (x : EdgeCopies). drain x.split) (splits_from whole b ops)) above) k ≡ Split p y edge d → (k < length ops) × (d ≡ drain (b + k))
drain_there whole drain to [] cs words above b k p d y edge c w e = absurd (cc)
drain_there whole drain to (op ∷ ops) [] words above b k p d y edge c w e = absurd (omega (arith, c))
drain_there whole drain to (op ∷ ops) (x ∷ cs) [] above b k p d y edge c w e = absurd (omega (arith, w))
drain_there whole drain to (TracePlain op ∷ ops) (x ∷ cs) (v ∷ words) above b zero p d y edge c w e = absurd (cc)
drain_there whole drain to (TracePlain op ∷ ops) (x ∷ cs) (v ∷ words) above b (suc k) p d y edge c w e =
    let h = drain_there whole drain to ops cs words above (b + 1) k p d y edge (omega (arith, c)) (omega (arith, w)) e in
    let n : b + 1 + k ≡ b + suc k = omega arith in
    ((let l = h.0 in omega (arith, l)), h.1 ∙ ap drain n)
drain_there whole drain to (TraceSplit q z f live ∷ ops) (x ∷ cs) (v ∷ words) above b zero p d y edge c w e =
    let s : drain b ≡ d = cc in
    let n : b ≡ b + 0 = omega arith in
    (omega arith, sym s ∙ ap drain n)
drain_there whole drain to (TraceSplit q z f live ∷ ops) (x ∷ cs) (v ∷ words) above b (suc k) p d y edge c w e =
    let h = drain_there whole drain to ops cs words (v ∷ above) (b + 1) k p d y edge (omega (arith, c)) (omega (arith, w)) e in
    let n : b + 1 + k ≡ b + suc k = omega arith in
    ((let l = h.0 in omega (arith, l)), h.1 ∙ ap drain n)

-- an item takes as long as its operation, a split one cycle
pub takes_at_most : (m : Numbers) (op : TraceOp) → (item_latency (latency_of_op m) (plain_item op) ≡ latency_of m op) ⊎ (item_latency (latency_of_op m) (plain_item op) ≡ 1)
takes_at_most m (TracePlain op) = inl refl
takes_at_most m (TraceSplit p y e live) = inr refl
