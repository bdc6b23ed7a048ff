-- Words behind words that were put in place before, and the pause that settles them.
use Rattle.std.proofs.Common.{◌≡◌, ◌≤◌, ◌+◌, ◌++◌, ◌==◌, [], ◌∷◌, ℕ, List, true, false, drop, length, length-append, refl, ap, ◌∙◌, append_assoc, arith}
use Rattle.std.proofs.Math.Seq.{drop-append_seam}
use Rattle.vx_isa.specs.declared.program.Word.{Word}
use Rattle.vx_target.specs.Target.{Target, if_some, in_flight, pause, settled}

-- what stands behind words that were added to others stands behind all of them
pub onto : (old new xs rest : List Word) → new ≡ old ++ xs → new ++ rest ≡ old ++ (xs ++ rest)
onto old new xs rest e = ap (λ z. z ++ rest) e ∙ append_assoc old xs rest

-- words that were added begin within what they make
pub begins_within : (n : ℕ) (old new xs : List Word) → n ≡ length old → new ≡ old ++ xs → n ≤ length new
begins_within n old new xs e a =
    let z : length new ≡ length old + length xs = ap (λ (z : List Word). length z) a ∙ length-append old xs in omega arith

-- a pause as long as they are in flight settles them
pub settles : (T : Target) (n : ℕ) (old new xs : List Word) → n ≡ length old → new ≡ old ++ xs → new ++ pause (in_flight T.machine 0 (drop n new)) ≡ old ++ settled T xs
settles T n old new xs e a =
    ap (λ z. z ++ pause (in_flight T.machine 0 (drop n z))) a
    ∙ ap (λ k. (old ++ xs) ++ pause (in_flight T.machine 0 (drop k (old ++ xs)))) e
    ∙ ap (λ z. (old ++ xs) ++ pause (in_flight T.machine 0 z)) (drop-append_seam old xs)
    ∙ append_assoc old xs (pause (in_flight T.machine 0 xs))

-- words that stand only where there are some values
pub some_there : (xs : List ℕ) (words : List Word) → (length xs == 0) ≡ false → words ≡ if_some xs words
some_there [] words e = let z : true ≡ false = e in cc
some_there (x ∷ xs) words e = refl
