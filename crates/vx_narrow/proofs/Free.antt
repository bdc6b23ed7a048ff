-- Where nothing is claimed, whatever is known gives it.
use Rattle.std.proofs.Common.{◌≡◌, ℕ, Bool, true, false, ◌&&◌, ◌||◌, List, [], refl, ap, ◌∙◌}
use Rattle.vx_claims.specs.declared.fact.Fact.{Fact}
use Rattle.vx_claims.specs.declared.access.Access.{Access}
use Rattle.vx_claims.specs.declared.claim.Claim.{Claim}
use Rattle.vx_claims.specs.Facts.{decided, on_side}
use Rattle.vx_claims.specs.Claims.{give}
use Rattle.vx_claims.specs.Accesses.{tell}
use Rattle.vx_narrow.specs.Checking.{are_given, are_given_on, is_against}

either_true : (s t : Bool) → t ≡ true → (s || t) ≡ true
either_true true t h = refl
either_true false t h = h

pub given_where_free : (answer : Bool) (fs : List Fact) (xs : List Access) (p : ℕ) (claim : Claim) → claim.facts ≡ [] → claim.accesses ≡ [] → are_given_on answer fs xs p claim ≡ true
given_where_free answer fs xs p claim f a =
    let there : List Fact = on_side fs answer p in
    let given : are_given there xs claim ≡ true = ap (λ l. give there l && tell xs claim.accesses) f ∙ ap (λ l. tell xs l) a in
    either_true (is_against answer (decided fs p)) (are_given there xs claim) given
