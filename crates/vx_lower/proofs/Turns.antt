-- One more turn of a loop that makes an item of each item of a list.
use Rattle.std.proofs.Common.{◌≡◌, ℕ, suc, ◌+◌, ◌<◌, arith, List, [], ◌∷◌, ◌++◌, length, map, take, get_or, refl, sym, ap, ◌∙◌, append_assoc}
use Rattle.std.proofs.lemmas.List.{map_more}

pub map_next : {A B : Type 0} (f : A → B) (xs : List A) (i : ℕ) (d : A) (made new : List B) (y : B) → i < length xs → made ≡ map f (take i xs) → y ≡ f (get_or xs i d) → new ≡ made ++ y ∷ [] → new ≡ map f (take (i + 1) xs)
map_next f xs i d made new y lt e h k = k ∙ ap (λ ys. ys ++ y ∷ []) e ∙ ap (λ z. map f (take i xs) ++ z ∷ []) h ∙ sym (map_more f xs i d lt)

pub map_behind : {A B : Type 0} (f : A → B) (first : List B) (xs : List A) (i : ℕ) (d : A) (made new : List B) (y : B) → i < length xs → made ≡ first ++ map f (take i xs) → y ≡ f (get_or xs i d) → new ≡ made ++ y ∷ [] → new ≡ first ++ map f (take (i + 1) xs)
map_behind f first xs i d made new y lt e h k =
    k ∙ ap (λ ys. ys ++ y ∷ []) e ∙ append_assoc first (map f (take i xs)) (y ∷ [])
    ∙ ap (λ q. first ++ q) (ap (λ z. map f (take i xs) ++ z ∷ []) h ∙ sym (map_more f xs i d lt))

-- one more turn of a loop that takes a list apart: what was taken, and what is left

made_next : {A B : Type 0} (f : A → B) (xs : List A) (x : A) → map f (xs ++ x ∷ []) ≡ map f xs ++ f x ∷ []
made_next f [] x = refl
made_next f (z ∷ xs) x = ap (λ ys. f z ∷ ys) (made_next f xs x)

pub taken_made : {A B : Type 0} (f : A → B) (done : List A) (x : A) (made new : List B) (y : B) → made ≡ map f done → y ≡ f x → new ≡ made ++ y ∷ [] → new ≡ map f (done ++ x ∷ [])
taken_made f done x made new y e h k = k ∙ ap (λ ys. ys ++ y ∷ []) e ∙ ap (λ z. map f done ++ z ∷ []) h ∙ sym (made_next f done x)

pub taken_rest : {A : Type 0} (done old new whole : List A) (x : A) → old ≡ x ∷ new → done ++ old ≡ whole → (done ++ x ∷ []) ++ new ≡ whole
taken_rest done old new whole x e h = append_assoc done (x ∷ []) new ∙ ap (λ z. done ++ z) (sym e) ∙ h

pub taken_left : {A : Type 0} (old new : List A) (x : A) (n k : ℕ) → old ≡ x ∷ new → k + 1 ≡ n → length old ≡ n → length new ≡ k
taken_left old new x n k e s l = let q : suc (length new) ≡ n = ap length (sym e) ∙ l in omega arith
