-- The exit of a chain is that of its last block.
use Rattle.std.proofs.Common.{◌≡◌, ℕ, suc, ◌-◌, ◌≤◌, List, [], ◌∷◌, length, get_or, slice_get, refl, ap, ◌∙◌, arith}
use Rattle.vx_flow.specs.declared.graph.Block.{Block}
use Rattle.vx_clean.specs.Laying.{exit_at, last_exit}

pub last_at : (to : ℕ → ℕ) (blocks : List Block) (chain : List ℕ) → 1 ≤ length chain → exit_at to (slice_get blocks (get_or chain (length chain - 1) 0)) ≡ last_exit to blocks chain
last_at to blocks [] h = absurd (omega arith)
last_at to blocks (b ∷ []) h = refl
last_at to blocks (b ∷ c ∷ bs) h =
    let e : length (b ∷ c ∷ bs) - 1 ≡ suc (length (c ∷ bs) - 1) = omega arith in
    ap (λ n. exit_at to (slice_get blocks (get_or (b ∷ c ∷ bs) n 0))) e ∙ last_at to blocks (c ∷ bs) (omega arith)
