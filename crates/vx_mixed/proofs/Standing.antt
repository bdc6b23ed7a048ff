-- Parts of a list that stand at a place of it.
use Rattle.std.proofs.Common.{◌≡◌, ℕ, zero, suc, ◌+◌, Some, List, [], ◌∷◌, ◌++◌, length, map, slice_get, refl, ap, ◌∙◌, arith, ◌<◌}
use Rattle.std.specs.Option.{option_map}
use Rattle.std.proofs.lemmas.Option.{slice_get-map}

-- the items of a part stand one after the other from a place on
pub record StandsAt {A : Type 0} (whole : List A) (p : ℕ) (part : List A) : Type 0 where
  pub item : (k : ℕ) (x : A) → slice_get part k ≡ Some x → slice_get whole (p + k) ≡ Some x

pub get_front : {A : Type 0} (xs ys : List A) (k : ℕ) (x : A) → slice_get xs k ≡ Some x → slice_get (xs ++ ys) k ≡ Some x
get_front [] ys k x e = absurd (cc)
get_front (z ∷ xs) ys zero x e = e
get_front (z ∷ xs) ys (suc k) x e = get_front xs ys k x e

pub get_back : {A : Type 0} (xs ys : List A) (k : ℕ) → slice_get (xs ++ ys) (length xs + k) ≡ slice_get ys k
get_back [] ys k = let z : 0 + k ≡ k = omega arith in ap (slice_get ys) z
get_back (x ∷ xs) ys k = let z : suc (length xs) + k ≡ suc (length xs + k) = omega arith in ap (slice_get (x ∷ (xs ++ ys))) z ∙ get_back xs ys k

module _ {A : Type 0} (whole : List A) where
  pub stands_front : (p : ℕ) (xs ys : List A) → StandsAt whole p (xs ++ ys) → StandsAt whole p xs
  stands_front p xs ys h = record { item = λ k x e. h.item k x (get_front xs ys k x e) }

  pub stands_back : (p : ℕ) (xs ys : List A) → StandsAt whole p (xs ++ ys) → StandsAt whole (p + length xs) ys
  stands_back p xs ys h = record {
    item = λ k x e. let z : p + length xs + k ≡ p + (length xs + k) = omega arith in ap (slice_get whole) z ∙ h.item (length xs + k) x (get_back xs ys k ∙ e);
  }

  pub stands_here : (p : ℕ) (x : A) (xs : List A) → StandsAt whole p (x ∷ xs) → slice_get whole p ≡ Some x
  stands_here p x xs h = let z : p ≡ p + 0 = omega arith in ap (slice_get whole) z ∙ h.item 0 x refl

  pub stands_next : (p : ℕ) (x : A) (xs : List A) → StandsAt whole p (x ∷ xs) → StandsAt whole (suc p) xs
  stands_next p x xs h = record { item = λ k y e. let z : suc p + k ≡ p + suc k = omega arith in ap (slice_get whole) z ∙ h.item (suc k) y e }

  pub stands_moved : (p q : ℕ) (xs : List A) → p ≡ q → StandsAt whole p xs → StandsAt whole q xs
  stands_moved p q xs e h = record { item = λ k x f. let z : q + k ≡ p + k = omega arith in ap (slice_get whole) z ∙ h.item k x f }

  pub stands_whole : StandsAt whole 0 whole
  stands_whole = record { item = λ k x e. let z : 0 + k ≡ k = omega arith in ap (slice_get whole) z ∙ e }

-- images

pub get_mapped : {A B : Type 0} (f : A → B) (xs : List A) (k : ℕ) (x : A) → slice_get xs k ≡ Some x → slice_get (map f xs) k ≡ Some (f x)
get_mapped f xs k x e = slice_get-map f xs k ∙ ap (option_map f) e

pub record Source {A B : Type 0} (f : A → B) (xs : List A) (k : ℕ) (y : B) : Type 0 where
  pub x : A
  pub has : slice_get xs k ≡ Some x
  pub is : f x ≡ y

pub mapped_from : {A B : Type 0} (f : A → B) (xs : List A) (k : ℕ) (y : B) → slice_get (map f xs) k ≡ Some y → Source f xs k y
mapped_from f [] k y e = absurd (cc)
mapped_from f (x ∷ xs) zero y e = record { x = x; has = refl; is = cc }
mapped_from f (x ∷ xs) (suc k) y e = let r = mapped_from f xs k y e in record { x = r.x; has = r.has; is = r.is }

pub stands_mapped : {A B : Type 0} (f : A → B) (whole : List A) (p : ℕ) (part : List A) → StandsAt whole p part → StandsAt (map f whole) p (map f part)
stands_mapped f whole p part h = record {
  item = λ k y e. let r = mapped_from f part k y e in get_mapped f whole (p + k) r.x (h.item k r.x r.has) ∙ ap Some r.is;
}

-- where an item of two parts stands

pub data InParts {A : Type 0} (xs ys : List A) (p : ℕ) (z : A) : Type 0 where
  in_front : slice_get xs p ≡ Some z → InParts xs ys p z
  in_back : (k : ℕ) → p ≡ length xs + k → slice_get ys k ≡ Some z → InParts xs ys p z

pub in_parts : {A : Type 0} (xs ys : List A) (p : ℕ) (z : A) → slice_get (xs ++ ys) p ≡ Some z → InParts xs ys p z
in_parts [] ys p z e = in_back p (omega arith) e
in_parts (x ∷ xs) ys zero z e = in_front e
in_parts (x ∷ xs) ys (suc p) z e = one (in_parts xs ys p z e)
  where
    one : InParts xs ys p z → InParts (x ∷ xs) ys (suc p) z
    one (in_front f) = in_front f
    one (in_back k q f) = in_back k (omega arith) f

pub get_some : {A : Type 0} (xs : List A) (k : ℕ) → k < length xs → (x : A) × (slice_get xs k ≡ Some x)
get_some [] k h = absurd (omega arith)
get_some (x ∷ xs) zero h = (x, refl)
get_some (x ∷ xs) (suc k) h = get_some xs k (omega arith)
