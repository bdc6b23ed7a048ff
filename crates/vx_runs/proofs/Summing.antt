-- Bytes summed one after the other, modulo 2 ^ 32.
use Rattle.std.proofs.Common.{◌≡◌, ◌∙◌, ℕ, List, length, take, ap, sym}
use Rattle.std.specs.Prelude.{◌+◌, ◌%◌, ◌^◌, ◌<◌, get_or}
use Rattle.std.specs.List.{sum_by}
use Rattle.std.proofs.Math.Nat.{mod-add-mod}
use Rattle.std.proofs.lemmas.List.Sums.{sum_by_more}
use Rattle.vx_runs.specs.Summary.{byte_sum}

pub one_more_byte : (xs : List ℕ) (i d : ℕ) → i < length xs → byte_sum (take (i + 1) xs) ≡ (byte_sum (take i xs) + get_or xs i d) % 2 ^ 32
one_more_byte xs i d below = ap (λ n. n % 2 ^ 32) (sum_by_more (λ b. b) xs i d below) ∙ sym (mod-add-mod (sum_by (λ b. b) (take i xs)) (2 ^ 32) (get_or xs i d))
