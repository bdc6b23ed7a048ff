-- A list in which each of so many numbers occurs has at least so many items.
use Rattle.std.proofs.Common.{◌≡◌, ℕ, zero, suc, ◌+◌, ◌<◌, ◌≤◌, Bool, true, false, ◌||◌, nat_eq, List, [], ◌∷◌, length, refl, sym, ap, ◌∙◌, subst, arith, if◌then◌else◌}
use Rattle.std.specs.List.{list_all}
use Rattle.std.proofs.lemmas.Bool.{eq-eqb, eqb-true}
use Rattle.vx_ast.specs.Accepted.{is_in, below}
use Rattle.vx_lower.proofs.Base.{and_one, and_two}

abbrev without : ℕ → List ℕ → List ℕ
without y [] = []
without y (x ∷ xs) = if nat_eq y x then without y xs else x ∷ without y xs

not_longer : (y : ℕ) (xs : List ℕ) → length (without y xs) ≤ length xs
not_longer y [] = omega arith
not_longer y (x ∷ xs) =
    let h = not_longer y xs in
    let by : (b : Bool) → length (if b then without y xs else x ∷ without y xs) ≤ suc (length xs)
    = λ b. elim b as (λ b. length (if b then without y xs else x ∷ without y xs) ≤ suc (length xs)) [
      | true ↦ omega (arith, h)
      | false ↦ omega (arith, h)
    ] in
    by (nat_eq y x)

shorter : (y : ℕ) (xs : List ℕ) → is_in y xs ≡ true → suc (length (without y xs)) ≤ length xs
shorter y [] e = absurd (cc)
shorter y (x ∷ xs) e =
    let by : (b : Bool) → nat_eq y x ≡ b → suc (length (if b then without y xs else x ∷ without y xs)) ≤ suc (length xs)
    = λ b. elim b as (λ b. nat_eq y x ≡ b → suc (length (if b then without y xs else x ∷ without y xs)) ≤ suc (length xs)) [
      | true ↦ λ q. let h = not_longer y xs in omega (arith, h)
      | false ↦ λ q. let h = shorter y xs (sym (ap (λ z. z || is_in y xs) q) ∙ e) in omega (arith, h)
    ] in
    by (nat_eq y x) refl

stays : (y z : ℕ) (xs : List ℕ) → nat_eq z y ≡ false → is_in z xs ≡ true → is_in z (without y xs) ≡ true
stays y z [] d e = e
stays y z (x ∷ xs) d e =
    let on : (b : Bool) → nat_eq z x ≡ b → is_in z (x ∷ without y xs) ≡ true
    = λ b. elim b as (λ b. nat_eq z x ≡ b → is_in z (x ∷ without y xs) ≡ true) [
      | true ↦ λ q. ap (λ t. t || is_in z (without y xs)) q
      | false ↦ λ q. ap (λ t. t || is_in z (without y xs)) q ∙ stays y z xs d (sym (ap (λ t. t || is_in z xs) q) ∙ e)
    ] in
    let apart : nat_eq y x ≡ true → nat_eq z x ≡ false = λ q. let s = eqb-true y x q in subst (λ w. nat_eq z w ≡ false) s d in
    let by : (b : Bool) → nat_eq y x ≡ b → is_in z (if b then without y xs else x ∷ without y xs) ≡ true
    = λ b. elim b as (λ b. nat_eq y x ≡ b → is_in z (if b then without y xs else x ∷ without y xs) ≡ true) [
      | true ↦ λ q. stays y z xs d (sym (ap (λ t. t || is_in z xs) (apart q)) ∙ e)
      | false ↦ λ q. on (nat_eq z x) refl
    ] in
    by (nat_eq y x) refl

apart_of : (m n : ℕ) → (m ≡ n → ⊥) → nat_eq m n ≡ false
apart_of m n h =
    let by : (b : Bool) → nat_eq m n ≡ b → b ≡ false
    = λ b. elim b as (λ b. nat_eq m n ≡ b → b ≡ false) [
      | true ↦ λ e. absurd (h (eqb-true m n e))
      | false ↦ λ e. refl
    ] in
    by (nat_eq m n) refl

at_least : (first count : ℕ) (xs : List ℕ) → ((k : ℕ) → k < count → is_in (first + k) xs ≡ true) → count ≤ length xs
at_least first zero xs h = omega arith
at_least first (suc n) xs h =
    let one = shorter (first + n) xs (h n (omega arith)) in
    let others = at_least first n (without (first + n) xs) (λ k l. stays (first + n) (first + k) xs (apart_of (first + k) (first + n) (λ e. omega arith)) (h k (omega arith))) in
    omega (arith, one, others)

each_below : (p : ℕ → Bool) (n : ℕ) → list_all p (below n) ≡ true → (k : ℕ) → k < n → p k ≡ true
each_below p zero h k l = absurd (omega arith)
each_below p (suc n) h k l =
    let by : (b : Bool) → nat_eq n k ≡ b → p k ≡ true
    = λ b. elim b as (λ b. nat_eq n k ≡ b → p k ≡ true) [
      | true ↦ λ e. subst (λ z. p z ≡ true) (eqb-true n k e) (and_one (p n) (list_all p (below n)) h)
      | false ↦ λ e. let d : n ≡ k → ⊥ = (λ q. (let t = eq-eqb n k q in cc)) in each_below p n (and_two (p n) (list_all p (below n)) h) k (omega (arith, l, d))
    ] in
    by (nat_eq n k) refl

pub all_occur : (first count : ℕ) (xs : List ℕ) → list_all (λ k. is_in (first + k) xs) (below count) ≡ true → count ≤ length xs
all_occur first count xs h = at_least first count xs (each_below (λ k. is_in (first + k) xs) count h)
