-- Marks of one step after the other.
use Rattle.std.proofs.Common.{◌≡◌, ◌⊎◌, ℕ, Bool, true, false, List, [], ◌∷◌, ◌++◌, inl, inr, sym, subst, refl, arith}
use Rattle.std.specs.Prelude.{◌<◌, suc, zero, slice_set, length}
use Rattle.vx_flow.specs.Effects.{IsIn}
use Rattle.vx_mixed.specs.declared.layout.Laid.{Laid}
use Rattle.vx_mixed.specs.declared.layout.VirtualWord.{VirtualWord}
use Rattle.vx_mixed.specs.LaidSettled.{item_reads, item_writes, laid_reads, laid_writes}
use Rattle.vx_regs.specs.Marks.{is_marked, Marks, Naming, names_of_word, names_of_words}

pub in_either : {A : Type 0} (x : A) (xs ys : List A) → IsIn x (xs ++ ys) → IsIn x xs ⊎ IsIn x ys
in_either x [] ys i = inr i
in_either x (z ∷ xs) ys (inl e) = inl (inl e)
in_either x (z ∷ xs) ys (inr i) = by (in_either x xs ys i)
  where
    by : IsIn x xs ⊎ IsIn x ys → IsIn x (z ∷ xs) ⊎ IsIn x ys
    by (inl j) = inl (inr j)
    by (inr j) = inr j

pub in_left : {A : Type 0} (x : A) (xs ys : List A) → IsIn x xs → IsIn x (xs ++ ys)
in_left x [] ys i = absurd i
in_left x (z ∷ xs) ys (inl e) = inl e
in_left x (z ∷ xs) ys (inr i) = inr (in_left x xs ys i)

pub in_right : {A : Type 0} (x : A) (xs ys : List A) → IsIn x ys → IsIn x (xs ++ ys)
in_right x [] ys i = i
in_right x (z ∷ xs) ys i = inr (in_right x xs ys i)

pub marks_none : (a : List Bool) → Marks [] a a
marks_none a = record { named = λ v i. absurd i; kept = λ v h. h }

pub marks_both : (xs ys : List ℕ) (a b c : List Bool) → Marks xs a b → Marks ys b c → Marks (xs ++ ys) a c
marks_both xs ys a b c p q = record { named = λ v i. by v (in_either v xs ys i); kept = λ v h. q.kept v (p.kept v h) }
  where
    by : (v : ℕ) → IsIn v xs ⊎ IsIn v ys → is_marked c v ≡ true
    by v (inl i) = q.kept v (p.named v i)
    by v (inr i) = q.named v i

-- the same values in another order, or some of them
pub marks_some : (xs ys : List ℕ) (a b : List Bool) → Marks xs a b → ((v : ℕ) → IsIn v ys → IsIn v xs) → Marks ys a b
marks_some xs ys a b p f = record { named = λ v i. p.named v (f v i); kept = p.kept }

-- one more mark, which is not set
pub kept_pushed : (xs : List Bool) (v : ℕ) → is_marked xs v ≡ true → is_marked (xs ++ (false ∷ [])) v ≡ true
kept_pushed [] v h = absurd (let e : false ≡ true = h in cc)
kept_pushed (x ∷ xs) zero h = h
kept_pushed (x ∷ xs) (suc v) h = kept_pushed xs v h

set_here : (xs : List Bool) (p : ℕ) → p < length xs → is_marked (slice_set xs p true) p ≡ true
set_here [] p h = absurd (omega arith)
set_here (x ∷ xs) zero h = refl
set_here (x ∷ xs) (suc p) h = set_here xs p (omega arith)

set_kept : (xs : List Bool) (p v : ℕ) → is_marked xs v ≡ true → is_marked (slice_set xs p true) v ≡ true
set_kept [] p v h = h
set_kept (x ∷ xs) zero zero h = let z : true ≡ true = refl in z
set_kept (x ∷ xs) zero (suc v) h = h
set_kept (x ∷ xs) (suc p) zero h = h
set_kept (x ∷ xs) (suc p) (suc v) h = set_kept xs p v h

pub marks_one : (a b : List Bool) (p : ℕ) → p < length b → ((v : ℕ) → is_marked a v ≡ true → is_marked b v ≡ true) → Marks (p ∷ []) a (slice_set b p true)
marks_one a b p h k = record { named = λ v i. by v i; kept = λ v e. set_kept b p v (k v e) }
  where
    by : (v : ℕ) → IsIn v (p ∷ []) → is_marked (slice_set b p true) v ≡ true
    by v (inl e) = subst (λ z. is_marked (slice_set b p true) z ≡ true) (sym e) (set_here b p h)
    by v (inr i) = absurd i

-- an item before others
pub items_part : (x : Laid) (xs : List Laid) (a b c : List Bool) → Marks (item_reads x ++ item_writes x) a b → Marks (laid_reads xs ++ laid_writes xs) b c → Marks (laid_reads (x ∷ xs) ++ laid_writes (x ∷ xs)) a c
items_part x xs a b c p q = marks_some ((item_reads x ++ item_writes x) ++ (laid_reads xs ++ laid_writes xs)) (laid_reads (x ∷ xs) ++ laid_writes (x ∷ xs)) a c (marks_both (item_reads x ++ item_writes x) (laid_reads xs ++ laid_writes xs) a b c p q) (λ v i. place v (in_either v (laid_reads (x ∷ xs)) (laid_writes (x ∷ xs)) i))
  where
    one : (v : ℕ) → IsIn v (item_reads x) ⊎ IsIn v (laid_reads xs) → IsIn v ((item_reads x ++ item_writes x) ++ (laid_reads xs ++ laid_writes xs))
    one v (inl i) = in_left v (item_reads x ++ item_writes x) (laid_reads xs ++ laid_writes xs) (in_left v (item_reads x) (item_writes x) i)
    one v (inr i) = in_right v (item_reads x ++ item_writes x) (laid_reads xs ++ laid_writes xs) (in_left v (laid_reads xs) (laid_writes xs) i)

    two : (v : ℕ) → IsIn v (item_writes x) ⊎ IsIn v (laid_writes xs) → IsIn v ((item_reads x ++ item_writes x) ++ (laid_reads xs ++ laid_writes xs))
    two v (inl i) = in_left v (item_reads x ++ item_writes x) (laid_reads xs ++ laid_writes xs) (in_right v (item_reads x) (item_writes x) i)
    two v (inr i) = in_right v (item_reads x ++ item_writes x) (laid_reads xs ++ laid_writes xs) (in_right v (laid_reads xs) (laid_writes xs) i)

    place : (v : ℕ) → IsIn v (laid_reads (x ∷ xs)) ⊎ IsIn v (laid_writes (x ∷ xs)) → IsIn v ((item_reads x ++ item_writes x) ++ (laid_reads xs ++ laid_writes xs))
    place v (inl i) = one v (in_either v (item_reads x) (laid_reads xs) i)
    place v (inr i) = two v (in_either v (item_writes x) (laid_writes xs) i)

-- words

pub none_marked : (words : List VirtualWord) → Naming words words []
none_marked words v i = inr i

pub one_marked : (words left : List VirtualWord) (word : VirtualWord) (a b : List Bool) → Naming words (word ∷ left) a → Marks (names_of_word word) a b → Naming words left b
one_marked words left word a b n m v i = by (n v i)
  where
    then_ : IsIn v (names_of_word word) ⊎ IsIn v (names_of_words left) → (is_marked b v ≡ true) ⊎ IsIn v (names_of_words left)
    then_ (inl j) = inl (m.named v j)
    then_ (inr j) = inr j

    by : (is_marked a v ≡ true) ⊎ IsIn v (names_of_words (word ∷ left)) → (is_marked b v ≡ true) ⊎ IsIn v (names_of_words left)
    by (inl e) = inl (m.kept v e)
    by (inr j) = then_ (in_either v (names_of_word word) (names_of_words left) j)

pub all_marked : (words : List VirtualWord) (a : List Bool) → Naming words [] a → Marks (names_of_words words) [] a
all_marked words a n = record { named = λ v i. by v (n v i); kept = λ v h. none v h }
  where
    by : (v : ℕ) → (is_marked a v ≡ true) ⊎ IsIn v (names_of_words []) → is_marked a v ≡ true
    by v (inl e) = e
    by v (inr i) = absurd i

    none : (v : ℕ) → is_marked [] v ≡ true → is_marked a v ≡ true
    none v h = absurd (let e : false ≡ true = h in cc)
