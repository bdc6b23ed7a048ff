-- The value of digits, one after the other.
use Rattle.std.proofs.Common.{◌≡◌, ℕ, ◌+◌, ◌-◌, ◌*◌, ◌<◌, List, length, take, get_or, min, arith}
use Rattle.std.proofs.lemmas.List.Sums.{fold_more}
use Rattle.vx_files.specs.InputText.{value_of}

pub digit_more : (digits : List ℕ) (i value next : ℕ) → value ≡ min 2147483649 (value_of (take i digits)) → next ≡ min (10 * value + (get_or digits i 0 - 48)) 2147483649 → i < length digits → next ≡ min 2147483649 (value_of (take (i + 1) digits))
digit_more digits i value next so_far is lt =
    let more : value_of (take (i + 1) digits) ≡ 10 * value_of (take i digits) + (get_or digits i 0 - 48) = fold_more (λ n d. 10 * n + (d - 48)) 0 digits i 0 lt in
    omega (arith, so_far, is, more)
