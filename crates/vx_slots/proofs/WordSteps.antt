-- The steps by which a few words are put together: pauses, and two operations.
use Rattle.std.proofs.Common.{◌≡◌, ℕ, zero, suc, ◌==◌, ◌&&◌, ◌++◌, true, false, [], ◌∷◌, refl, ap}
use Rattle.std.specs.Prelude.{if◌then◌else◌}
use Rattle.vx_isa.specs.Fits.{fits}
use Rattle.vx_isa.specs.Numbers.{Numbers}
use Rattle.vx_isa.specs.Operations.{latency_of}
use Rattle.vx_isa.specs.declared.operation.Operation.{Operation}
use Rattle.vx_target.specs.Target.{Target, one, together, settled, last_beside, waits, pause}

-- pauses

pub some_pause : (n : ℕ) → (n == 0) ≡ false → pause n ≡ waits n ∷ []
some_pause zero e = let z : true ≡ false = e in cc
some_pause (suc n) e = refl

-- two operations

pub beside : (m : Numbers) (a b : Operation) → fits m (a ∷ b ∷ []) ≡ true → together m a b ≡ record { ops = a ∷ b ∷ []; idle = 0 } ∷ []
beside m a b e = ap (λ c. if c then record { ops = a ∷ b ∷ []; idle = 0 } ∷ [] else one a ∷ one b ∷ []) e

pub apart : (m : Numbers) (a b : Operation) → fits m (a ∷ b ∷ []) ≡ false → together m a b ≡ one a ∷ one b ∷ []
apart m a b e = ap (λ c. if c then record { ops = a ∷ b ∷ []; idle = 0 } ∷ [] else one a ∷ one b ∷ []) e

-- an operation and the last one behind it

pub in_one_word : (T : Target) (a b : Operation) → ((latency_of T.machine a == 1) && fits T.machine (a ∷ b ∷ [])) ≡ true → last_beside T a b ≡ record { ops = a ∷ b ∷ []; idle = 0 } ∷ []
in_one_word T a b e = ap (λ c. if c then record { ops = a ∷ b ∷ []; idle = 0 } ∷ [] else settled T (one a ∷ []) ++ one b ∷ []) e

pub in_words : (T : Target) (a b : Operation) → ((latency_of T.machine a == 1) && fits T.machine (a ∷ b ∷ [])) ≡ false → last_beside T a b ≡ settled T (one a ∷ []) ++ one b ∷ []
in_words T a b e = ap (λ c. if c then record { ops = a ∷ b ∷ []; idle = 0 } ∷ [] else settled T (one a ∷ []) ++ one b ∷ []) e
