-- Lists joined to one: what stands at a place of one of them, and how long those in front of it are.
use Rattle.std.proofs.Common.{◌≡◌, ◌+◌, refl, ◌∙◌, ap, arith, ℕ, zero, suc, Some, List, [], ◌∷◌, ◌++◌, length, length-append, map, take, slice_get}
use Rattle.vx_bug.specs.Copies.{Standing, joined}
use Rattle.vx_bug.specs.Choices.{Apart}
use Rattle.vx_copy_laws.proofs.Members.{in_place}

pub get_left : {A : Type 0} (xs ys : List A) (n : ℕ) (x : A) → slice_get xs n ≡ Some x → slice_get (xs ++ ys) n ≡ Some x
get_left [] ys n x e = absurd cc
get_left (z ∷ xs) ys zero x e = e
get_left (z ∷ xs) ys (suc n) x e = get_left xs ys n x e

pub get_right : {A : Type 0} (xs ys : List A) (n : ℕ) (x : A) → slice_get ys n ≡ Some x → slice_get (xs ++ ys) (length xs + n) ≡ Some x
get_right [] ys n x e = let z : 0 + n ≡ n = omega arith in ap (slice_get ys) z ∙ e
get_right (y ∷ xs) ys n x e = let z : length (y ∷ xs) + n ≡ suc (length xs + n) = omega arith in ap (slice_get (y ∷ (xs ++ ys))) z ∙ get_right xs ys n x e

pub get_mapped : {A B : Type 0} (f : A → B) (xs : List A) (n : ℕ) (x : A) → slice_get xs n ≡ Some x → slice_get (map f xs) n ≡ Some (f x)
get_mapped f [] n x e = absurd cc
get_mapped f (y ∷ xs) zero x e = let q : y ≡ x = cc in ap (λ z. Some (f z)) q
get_mapped f (y ∷ xs) (suc n) x e = get_mapped f xs n x e

pub joined_at : (pieces : List (List Standing)) (i n : ℕ) (piece : List Standing) (s : Standing) → slice_get pieces i ≡ Some piece → slice_get piece n ≡ Some s → slice_get (joined pieces) (length (joined (take i pieces)) + n) ≡ Some s
joined_at [] i n piece s e f = absurd cc
joined_at (p ∷ ps) zero n piece s e f =
    let q : p ≡ piece = cc in
    let z : 0 + n ≡ n = omega arith in
    ap (slice_get (joined (p ∷ ps))) z ∙ get_left p (joined ps) n s (ap (λ l. slice_get l n) q ∙ f)
joined_at (p ∷ ps) (suc i) n piece s e f =
    let l : length (joined (take (suc i) (p ∷ ps))) ≡ length p + length (joined (take i ps)) = length-append p (joined (take i ps)) in
    let z : length (joined (take (suc i) (p ∷ ps))) + n ≡ length p + (length (joined (take i ps)) + n) = omega (arith, l) in
    ap (slice_get (joined (p ∷ ps))) z ∙ get_right p (joined ps) (length (joined (take i ps)) + n) s (joined_at ps i n piece s e f)

pub joined_next : (pieces : List (List Standing)) (i : ℕ) (piece : List Standing) → slice_get pieces i ≡ Some piece → length (joined (take (suc i) pieces)) ≡ length (joined (take i pieces)) + length piece
joined_next [] i piece e = absurd cc
joined_next (p ∷ ps) zero piece e =
    let q : p ≡ piece = cc in
    let l : length (joined (take (suc zero) (p ∷ ps))) ≡ length p + length (joined (take zero ps)) = length-append p (joined (take zero ps)) in
    let g : length p ≡ length piece = ap length q in
    let h : length (joined (take zero ps)) ≡ 0 = refl in
    omega (arith, l, g, h)
joined_next (p ∷ ps) (suc i) piece e =
    let one : length (joined (take (suc (suc i)) (p ∷ ps))) ≡ length p + length (joined (take (suc i) ps)) = length-append p (joined (take (suc i) ps)) in
    let two : length (joined (take (suc i) (p ∷ ps))) ≡ length p + length (joined (take i ps)) = length-append p (joined (take i ps)) in
    let r = joined_next ps i piece e in
    omega (arith, one, two, r)

-- where no item is twice, each has one place

pub one_place : (xs : List ℕ) (m n x : ℕ) → Apart xs → slice_get xs m ≡ Some x → slice_get xs n ≡ Some x → m ≡ n
one_place [] m n x a e f = absurd cc
one_place (y ∷ ys) zero zero x a e f = refl
one_place (y ∷ ys) zero (suc n) x a e f = let q : x ≡ y = cc in absurd (a.0 (in_place ys n y (f ∙ ap Some q)))
one_place (y ∷ ys) (suc m) zero x a e f = let q : x ≡ y = cc in absurd (a.0 (in_place ys m y (e ∙ ap Some q)))
one_place (y ∷ ys) (suc m) (suc n) x a e f = ap suc (one_place ys m n x a.1 e f)
