-- The operation at which a loop over a word stands.
use Rattle.std.proofs.Common.{◌≡◌, ℕ, suc, ◌+◌, ◌<◌, List, ◌∷◌, length, drop, get_or, ap, ◌∙◌, arith, drop-cons}
use Rattle.vx_base.specs.declared.arithmetic.Code.TheVariants.{Add}
use Rattle.vx_isa.specs.declared.operation.Register.TheVariants.{General}
use Rattle.vx_isa.specs.declared.operation.Source.TheVariants.{Held}
use Rattle.vx_isa.specs.declared.operation.Operation.{Operation}
use Rattle.vx_isa.specs.declared.operation.Operation.TheVariants.{Compute}

-- what stands for an operation that is not there
abbrev pub no_operation : Operation
no_operation = Compute 0 Add (General (record { cluster = 0; number = 0 })) (Held (record { cluster = 0; number = 0 })) (Held (record { cluster = 0; number = 0 }))

pub item_at : {A : Type 0} (xs : List A) (i : ℕ) (d : A) → i < length xs → drop i xs ≡ get_or xs i d ∷ drop (i + 1) xs
item_at xs i d lt = drop-cons xs i d lt ∙ ap (λ n. get_or xs i d ∷ drop n xs) (let s : suc i ≡ i + 1 = omega arith in s)

pub operation_here : (ops : List Operation) (i : ℕ) (d : Operation) → i < length ops → drop i ops ≡ get_or ops i d ∷ drop (i + 1) ops
operation_here ops i d lt = item_at ops i d lt
