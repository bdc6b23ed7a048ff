-- Same is an equivalence, and outcomes that do not go on.
use Rattle.std.proofs.Common.{◌≡◌, ℕ, List, [], ◌++◌, sym, ap, ◌∙◌, subst, append_assoc, append-nil}
use Rattle.vx_base.specs.Outcome.{Outcome, Ends, Traps, Goes, Stuck, Wrong, output_of, IsOver, IsFailure, IsGoing, Begins, Within, Same, NeverFails}

pub begins_self : (xs : List ℕ) → Begins xs xs
begins_self xs = record { rest = []; is = sym (append-nil xs) }

pub begins_on : (xs ys zs : List ℕ) → Begins xs ys → Begins ys zs → Begins xs zs
begins_on xs ys zs a b = record { rest = a.rest ++ b.rest; is = b.is ∙ ap (λ l. l ++ b.rest) a.is ∙ append_assoc xs a.rest b.rest }

within_self : (f : ℕ → Outcome) → Within f f
within_self f = record { over = λ n o v e. (n, e); output = λ n. (n, begins_self (output_of (f n))) }

within_on : (f g h : ℕ → Outcome) → Within f g → Within g h → Within f h
within_on f g h a b = record {
  over = λ n o v e. let x = a.over n o v e in b.over x.0 o v x.1;
  output = λ n. let x = a.output n in let y = b.output x.0 in (y.0, begins_on _ _ _ x.1 y.1);
}

pub same_self : (f : ℕ → Outcome) → Same f f
same_self f = (within_self f, within_self f)

pub same_back : (f g : ℕ → Outcome) → Same f g → Same g f
same_back f g a = (a.1, a.0)

pub same_on : (f g h : ℕ → Outcome) → Same f g → Same g h → Same f h
same_on f g h a b = (within_on f g h a.0 b.0, within_on h g f b.1 a.1)

-- a chain of passes, each of which keeps what a run that never fails does
pub safe_on : (f g h : ℕ → Outcome) → (NeverFails f → Same f g × NeverFails g) → (NeverFails g → Same g h × NeverFails h) → NeverFails f → Same f h × NeverFails h
safe_on f g h a b safe = let x = a safe in let y = b x.1 in (same_on f g h x.0 y.0, y.1)

-- families that are equal at every bound

within_equal : (f g : ℕ → Outcome) → ((n : ℕ) → f n ≡ g n) → Within f g
within_equal f g e = record {
  over = λ n o v d. (n, sym (e n) ∙ d);
  output = λ n. (n, subst (λ x. Begins (output_of (f n)) (output_of x)) (e n) (begins_self (output_of (f n))));
}

pub same_if_equal : (f g : ℕ → Outcome) → ((n : ℕ) → f n ≡ g n) → Same f g
same_if_equal f g e = (within_equal f g e, within_equal g f (λ n. sym (e n)))

pub never_fails_if_equal : (f g : ℕ → Outcome) → ((n : ℕ) → f n ≡ g n) → NeverFails f → NeverFails g
never_fails_if_equal f g e never n h = never n (subst IsFailure (sym (e n)) h)

-- what is over, fails or goes on is one of the three alone

pub over_goes_not : (o : Outcome) → IsOver o → IsGoing o → ⊥
over_goes_not (Ends r out) v g = g
over_goes_not (Traps k out) v g = g
over_goes_not (Goes out) v g = v
over_goes_not (Stuck why p out) v g = v
over_goes_not (Wrong out) v g = v

pub failure_goes_not : (o : Outcome) → IsFailure o → IsGoing o → ⊥
failure_goes_not (Ends r out) v g = g
failure_goes_not (Traps k out) v g = g
failure_goes_not (Goes out) v g = v
failure_goes_not (Stuck why p out) v g = g
failure_goes_not (Wrong out) v g = g

pub over_fails_not : (o : Outcome) → IsOver o → IsFailure o → ⊥
over_fails_not (Ends r out) v f = f
over_fails_not (Traps k out) v f = f
over_fails_not (Goes out) v f = f
over_fails_not (Stuck why p out) v f = v
over_fails_not (Wrong out) v f = v
