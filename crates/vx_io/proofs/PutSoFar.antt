-- How far the putting of a text has come: a front of it was put, and the rest is left.
use Rattle.std.proofs.Common.{◌≡◌, ℕ, List, [], ◌++◌, ◌-◌, length, take, drop, take_all, length-drop, arith, Option, None, Some, refl, ap, sym, ◌∙◌, append_assoc, append-nil, take-append-drop}
use Rattle.std.proofs.lemmas.List.{nil_from_length}
use Rattle.vx_io.specs.Outside.{with_bytes, PutsFront}

pub record PutSoFar (before after : Option (List ℕ)) (bytes rest : List ℕ) : Type 0 where
  pub front : List ℕ
  pub is : bytes ≡ front ++ rest
  pub put : after ≡ with_bytes before front

with_bytes-nil : (told : Option (List ℕ)) → told ≡ with_bytes told []
with_bytes-nil None = refl
with_bytes-nil (Some bytes) = ap (λ (xs : List ℕ). Some xs) (sym (append-nil bytes))

with_bytes-append : (told : Option (List ℕ)) (xs ys : List ℕ) → with_bytes (with_bytes told xs) ys ≡ with_bytes told (xs ++ ys)
with_bytes-append None xs ys = refl
with_bytes-append (Some bytes) xs ys = ap (λ (zs : List ℕ). Some zs) (append_assoc bytes xs ys)

-- at the start nothing is put
pub PutSoFar-start : (told : Option (List ℕ)) (bytes : List ℕ) → PutSoFar told told bytes bytes
PutSoFar-start told bytes = record { front = []; is = refl; put = with_bytes-nil told }

-- the slice from n on
pub slice_from : (n : ℕ) (xs : List ℕ) → take (length xs - n) (drop n xs) ≡ drop n xs
slice_from n xs = take_all (length xs - n) (drop n xs) (omega (arith, length-drop n xs))

-- a sink that took the first n bytes of the rest
pub PutSoFar-more : (before middle after : Option (List ℕ)) (bytes rest later : List ℕ) (n : ℕ) → PutSoFar before middle bytes rest → after ≡ with_bytes middle (take n rest) → later ≡ drop n rest → PutSoFar before after bytes later
PutSoFar-more before middle after bytes rest later n so_far took left = record {
  front = so_far.front ++ take n rest;
  is = so_far.is ∙ ap (λ (xs : List ℕ). so_far.front ++ xs) (sym (take-append-drop n rest) ∙ ap (λ (xs : List ℕ). take n rest ++ xs) (sym left)) ∙ sym (append_assoc so_far.front (take n rest) later);
  put = took ∙ ap (λ (told : Option (List ℕ)). with_bytes told (take n rest)) so_far.put ∙ with_bytes-append before so_far.front (take n rest);
}

-- with no rest all is put
pub PutSoFar-all : (before after : Option (List ℕ)) (bytes rest : List ℕ) → PutSoFar before after bytes rest → length rest ≡ 0 → after ≡ with_bytes before bytes
PutSoFar-all before after bytes rest so_far none = so_far.put ∙ ap (λ (xs : List ℕ). with_bytes before xs) (sym (append-nil so_far.front) ∙ ap (λ (xs : List ℕ). so_far.front ++ xs) (sym (nil_from_length rest none)) ∙ sym so_far.is)

-- a fault after it leaves a front put
pub PutSoFar-fault : (before middle after : Option (List ℕ)) (bytes rest : List ℕ) → PutSoFar before middle bytes rest → after ≡ middle → PutsFront before after bytes
PutSoFar-fault before middle after bytes rest so_far same = record {
  front = so_far.front;
  begins = record { rest = rest; is = so_far.is };
  put = same ∙ so_far.put;
}
