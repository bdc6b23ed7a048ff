-- Counts from a place on.
use Rattle.std.proofs.Common.{◌≡◌, ℕ, ◌+◌, Bool, true, false, cond, Option, None, Some, refl, ap, arith}
use Rattle.std.specs.Option.{option_map}

-- a count behind k bytes, as one from the start
abbrev pub behind : ℕ → Option ℕ → Option ℕ
behind k o = option_map (λ n. k + n) o

behind_one : (k : ℕ) (o : Option ℕ) → behind k (option_map (λ n. 1 + n) o) ≡ behind (k + 1) o
behind_one k None = refl
behind_one k (Some n) = let e : k + (1 + n) ≡ k + 1 + n = omega arith in ap Some e

pub behind_none : (o : Option ℕ) → behind 0 o ≡ o
behind_none None = refl
behind_none (Some n) = let e : 0 + n ≡ n = omega arith in ap Some e

-- found here, or looked for behind one more byte
pub here_or_behind : (found : Bool) (k : ℕ) (o : Option ℕ) → behind k (cond found (Some 0) (option_map (λ n. 1 + n) o)) ≡ cond found (Some k) (behind (k + 1) o)
here_or_behind true k o = let e : k + 0 ≡ k = omega arith in ap Some e
here_or_behind false k o = behind_one k o

pub none_or_behind : (ends found : Bool) (k : ℕ) (o : Option ℕ) → behind k (cond ends None (cond found (Some 0) (option_map (λ n. 1 + n) o)))
    ≡ cond ends None (cond found (Some k) (behind (k + 1) o))
none_or_behind true found k o = refl
none_or_behind false found k o = here_or_behind found k o
