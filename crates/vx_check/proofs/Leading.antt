-- Where a word leads, by its operations.
use Rattle.std.proofs.Common.{◌≡◌, ℕ, ◌+◌, true, List, [], ◌∷◌, refl, inl, inr, ⊎_elim}
use Rattle.std.specs.Prelude.{◌⊎◌}
use Rattle.vx_tables.specs.Rows.{IsIn}
use Rattle.vx_isa.specs.declared.operation.Operation.{Operation}
use Rattle.vx_isa.specs.declared.operation.Operation.TheVariants.{Compute, Move, Select, Load, Store, Input, More, OutText, OutDecimal, OutByte, Goto, BranchOn, Call, Return, FromLink, ToLink, EndByTrap, Halt}
use Rattle.vx_isa.specs.Paths.{LeadsTo}
use Rattle.vx_check.specs.InFlight.{leads_anywhere, places_of}

-- to a place where the word may lead, by a return or by its list
pub leads_by : (ops : List Operation) (here q : ℕ) → LeadsTo ops here q → (leads_anywhere ops ≡ true) ⊎ IsIn q (places_of ops (here + 1))
leads_by [] here q h = inr (inl h)
leads_by (Goto p ∷ ops) here q h = inr (inl h)
leads_by (BranchOn t u p ∷ ops) here q (inl h) = inr (inl h)
leads_by (BranchOn t u p ∷ ops) here q (inr h) = ⊎_elim (λ a. inl a) (λ b. inr (inr b)) (leads_by ops here q h)
leads_by (Call p ∷ ops) here q h = inr (inl h)
leads_by (Return ∷ ops) here q h = inl refl
leads_by (EndByTrap k ∷ ops) here q h = absurd h
leads_by (Halt a ∷ ops) here q h = absurd h
leads_by (Compute k code to a b ∷ ops) here q h = leads_by ops here q h
leads_by (Move k to a ∷ ops) here q h = leads_by ops here q h
leads_by (Select k to t a b ∷ ops) here q h = leads_by ops here q h
leads_by (Load k to o r d ∷ ops) here q h = leads_by ops here q h
leads_by (Store k o r a ∷ ops) here q h = leads_by ops here q h
leads_by (Input to ∷ ops) here q h = leads_by ops here q h
leads_by (More to ∷ ops) here q h = leads_by ops here q h
leads_by (OutText n ∷ ops) here q h = leads_by ops here q h
leads_by (OutDecimal a ∷ ops) here q h = leads_by ops here q h
leads_by (OutByte a ∷ ops) here q h = leads_by ops here q h
leads_by (FromLink to ∷ ops) here q h = leads_by ops here q h
leads_by (ToLink a ∷ ops) here q h = leads_by ops here q h

pub leads_to : (ops : List Operation) (here q : ℕ) → IsIn q (places_of ops (here + 1)) → LeadsTo ops here q
leads_to [] here q (inl h) = h
leads_to [] here q (inr h) = absurd h
leads_to (Goto p ∷ ops) here q (inl h) = h
leads_to (Goto p ∷ ops) here q (inr h) = absurd h
leads_to (BranchOn t u p ∷ ops) here q (inl h) = inl h
leads_to (BranchOn t u p ∷ ops) here q (inr h) = inr (leads_to ops here q h)
leads_to (Call p ∷ ops) here q (inl h) = h
leads_to (Call p ∷ ops) here q (inr h) = absurd h
leads_to (Return ∷ ops) here q h = tt
leads_to (EndByTrap k ∷ ops) here q h = h
leads_to (Halt a ∷ ops) here q h = h
leads_to (Compute k code to a b ∷ ops) here q h = leads_to ops here q h
leads_to (Move k to a ∷ ops) here q h = leads_to ops here q h
leads_to (Select k to t a b ∷ ops) here q h = leads_to ops here q h
leads_to (Load k to o r d ∷ ops) here q h = leads_to ops here q h
leads_to (Store k o r a ∷ ops) here q h = leads_to ops here q h
leads_to (Input to ∷ ops) here q h = leads_to ops here q h
leads_to (More to ∷ ops) here q h = leads_to ops here q h
leads_to (OutText n ∷ ops) here q h = leads_to ops here q h
leads_to (OutDecimal a ∷ ops) here q h = leads_to ops here q h
leads_to (OutByte a ∷ ops) here q h = leads_to ops here q h
leads_to (FromLink to ∷ ops) here q h = leads_to ops here q h
leads_to (ToLink a ∷ ops) here q h = leads_to ops here q h

pub leads_everywhere : (ops : List Operation) (here q : ℕ) → leads_anywhere ops ≡ true → LeadsTo ops here q
leads_everywhere [] here q h = absurd (cc)
leads_everywhere (Goto p ∷ ops) here q h = absurd (cc)
leads_everywhere (BranchOn t u p ∷ ops) here q h = inr (leads_everywhere ops here q h)
leads_everywhere (Call p ∷ ops) here q h = absurd (cc)
leads_everywhere (Return ∷ ops) here q h = tt
leads_everywhere (EndByTrap k ∷ ops) here q h = absurd (cc)
leads_everywhere (Halt a ∷ ops) here q h = absurd (cc)
leads_everywhere (Compute k code to a b ∷ ops) here q h = leads_everywhere ops here q h
leads_everywhere (Move k to a ∷ ops) here q h = leads_everywhere ops here q h
leads_everywhere (Select k to t a b ∷ ops) here q h = leads_everywhere ops here q h
leads_everywhere (Load k to o r d ∷ ops) here q h = leads_everywhere ops here q h
leads_everywhere (Store k o r a ∷ ops) here q h = leads_everywhere ops here q h
leads_everywhere (Input to ∷ ops) here q h = leads_everywhere ops here q h
leads_everywhere (More to ∷ ops) here q h = leads_everywhere ops here q h
leads_everywhere (OutText n ∷ ops) here q h = leads_everywhere ops here q h
leads_everywhere (OutDecimal a ∷ ops) here q h = leads_everywhere ops here q h
leads_everywhere (OutByte a ∷ ops) here q h = leads_everywhere ops here q h
leads_everywhere (FromLink to ∷ ops) here q h = leads_everywhere ops here q h
leads_everywhere (ToLink a ∷ ops) here q h = leads_everywhere ops here q h
