-- A goto at the end of a word names no register, and leads to its place alone.
use Rattle.std.proofs.Common.{◌≡◌, inl, inr, ⊎_elim, ℕ, List, [], ◌∷◌, ◌++◌, refl, ap, subst}
use Rattle.vx_isa.specs.declared.operation.Register.{Register}
use Rattle.vx_isa.specs.declared.operation.Operation.{Operation}
use Rattle.vx_isa.specs.declared.operation.Operation.TheVariants.{Goto}
use Rattle.vx_isa.specs.Numbers.{Numbers}
use Rattle.vx_isa.specs.Operations.{reads_of, list_of, destination_of}
use Rattle.vx_isa.specs.Paths.{Among}
use Rattle.vx_target.proofs.Beside.{all_then}
use Rattle.vx_tie.proofs.Early.{hit_of, hits, Touches}

pub touches_then : (ops : List Operation) (q : ℕ) (r : Register) → Touches (ops ++ Goto q ∷ []) r → Touches ops r
touches_then ops q r t = (
  ⊎_elim
      (λ a. inl (subst (Among r) (all_then reads_of ops (Goto q) refl) a))
      (λ a. inr (subst (Among r) (all_then (λ op. list_of (destination_of op)) ops (Goto q) refl) a)) t.0,
  t.1,
)

pub hits_then : (m : Numbers) (ops : List Operation) (q : ℕ) → hits m (ops ++ Goto q ∷ []) ≡ hits m ops
hits_then m [] q = refl
hits_then m (op ∷ ops) q = ap (λ z. hit_of m op (destination_of op) ++ z) (hits_then m ops q)
