-- What unrolled code declares and prints is what the code did, some of it more than once.
use Rattle.std.proofs.Common.{◌≡◌, ℕ, zero, suc, ◌+◌, Bool, true, false, ◌&&◌, ◌||◌, nat_eq, nat_lt, List, [], ◌∷◌, ◌++◌, Option, Some, None, refl, sym, ap, ◌∙◌, subst}
use Rattle.std.specs.List.{list_all, list_any}
use Rattle.std.proofs.lemmas.Bool.{and_parts, and_from}
use Rattle.std.proofs.lemmas.List.{append-nil}
use Rattle.std.proofs.lemmas.List.Folds.{list_all-append, list_any-append}
use Rattle.vx_ast.specs.Tree.{One, Tree, Action, Code, Nothing, Seq, Block, Simply, If, IfElse, While, DoWhile, For, Break}
use Rattle.vx_ast.specs.Accepted.{is_in, at_most, below, scalars_of, arrays_of, formats_of, are_all_from}
use Rattle.vx_unroll.specs.Unrolling.{block_of, step_before, test_before, turns_of}
use Rattle.vx_unroll.specs.Laws.{step_code, Unrolls, Kept, InSeq, InBlock, InIf, InIfElse, InWhile, InDoWhile, InFor, AWhile, AFor}

-- what all of the one list keep all of the other do, and what some of the one do some of the other do
pub record Covers {A : Type 0} (xs ys : List A) : Type 0 where
  pub all : (q : A → Bool) → list_all q xs ≡ true → list_all q ys ≡ true
  pub any : (q : A → Bool) → list_any q xs ≡ true → list_any q ys ≡ true

either_more : (a b c d : Bool) → (a ≡ true → c ≡ true) → (b ≡ true → d ≡ true) → (a || b) ≡ true → (c || d) ≡ true
either_more true b c d h k e = ap (λ (z : Bool). z || d) (h refl)
either_more false b true d h k e = refl
either_more false b false d h k e = k e

module _ {A : Type 0} where
  covers_same : (xs : List A) → Covers xs xs
  covers_same xs = record { all = λ q e. e; any = λ q e. e }

  covers_append : (a b c d : List A) → Covers a c → Covers b d → Covers (a ++ b) (c ++ d)
  covers_append a b c d h k = record {
    all = λ q e. let p = and_parts (list_all q a) (list_all q b) (sym (list_all-append q a b) ∙ e) in list_all-append q c d ∙ and_from (list_all q c) (list_all q d) (h.all q p.0) (k.all q p.1);
    any = λ q e. list_any-append q c d ∙ either_more (list_any q a) (list_any q b) (list_any q c) (list_any q d) (h.any q) (k.any q) (sym (list_any-append q a b) ∙ e);
  }

  -- once, and then again
  covers_twice : (xs ys : List A) → Covers xs ys → Covers xs (xs ++ ys)
  covers_twice xs ys h = record {
    all = λ q e. list_all-append q xs ys ∙ and_from (list_all q xs) (list_all q ys) e (h.all q e);
    any = λ q e. list_any-append q xs ys ∙ ap (λ (z : Bool). z || list_any q ys) e;
  }

  behind_nothing : (xs : List A) → Covers xs (xs ++ [])
  behind_nothing xs = record {
    all = λ q e. list_all-append q xs [] ∙ and_from (list_all q xs) true e refl;
    any = λ q e. list_any-append q xs [] ∙ ap (λ (z : Bool). z || false) e;
  }

  -- a list of what code has that goes by its parts
  pub record Collects (of : Code → List A) : Type 0 where
    pub at_end : of Nothing ≡ []
    pub at_seq : (a b : Code) → of (Seq a b) ≡ of a ++ of b
    pub at_block : (a : Code) → of (block_of a) ≡ of a
    pub at_if : (e : Tree One) (a : Code) → of (If e a) ≡ of a
    pub at_either : (e : Tree One) (a b : Code) → of (IfElse e a b) ≡ of a ++ of b
    pub at_while : (e : Tree One) (a : Code) → of (While e a) ≡ of a
    pub at_do : (e : Tree One) (a : Code) → of (DoWhile a e) ≡ of a
    pub first_has : Code → List A
    pub at_for : (first : Code) (test : Option (Tree One)) (step a : Code) → of (For first test step a) ≡ first_has first ++ of a
    pub at_simple : (a : Action) → of (Simply a) ≡ []
    pub at_break : of Break ≡ []
    pub at_list : (a : Code) → of (Block a) ≡ of a

  module _ (of : Code → List A) (c : Collects of) where
    step_adds : (step : Option Action) (rest : Code) → of (step_before step rest) ≡ of rest
    step_adds None rest = refl
    step_adds (Some a) rest = c.at_seq (Simply a) rest ∙ ap (λ (z : List A). z ++ of rest) (c.at_simple a)

    test_adds : (test : Option (Tree One)) (rest : Code) → of (test_before test rest) ≡ of rest
    test_adds None rest = refl
    test_adds (Some e) rest = c.at_seq _ rest ∙ ap (λ (z : List A). z ++ of rest) (c.at_if _ Break ∙ c.at_break)

    turns_cover : (k : ℕ) (test : Option (Tree One)) (step : Option Action) (a : Code) → Covers (of a) (of (turns_of k test step a))
    turns_cover zero test step a =
        let e : of (turns_of zero test step a) ≡ of a ++ [] = c.at_seq (block_of a) Nothing ∙ ap (λ (z : List A). z ++ of Nothing) (c.at_block a) ∙ ap (λ (z : List A). of a ++ z) c.at_end in
        subst (λ (z : List A). Covers (of a) z) (sym e) (behind_nothing (of a))
    turns_cover (suc k) test step a =
        let rest : Code = turns_of k test step a in
        let e : of (turns_of (suc k) test step a) ≡ of a ++ of rest =
        c.at_seq (block_of a) (step_before step (test_before test rest)) ∙ ap (λ (z : List A). z ++ of (step_before step (test_before test rest))) (c.at_block a)
        ∙ ap (λ (z : List A). of a ++ z) (step_adds step (test_before test rest) ∙ test_adds test rest) in
        subst (λ (z : List A). Covers (of a) z) (sym e) (covers_twice (of a) (of rest) (turns_cover k test step a))

    same_parts : (a b x y : List A) → x ≡ a → y ≡ b → Covers a b → Covers x y
    same_parts a b x y e h k = subst (λ (z : List A). Covers z y) (sym e) (subst (λ (z : List A). Covers a z) (sym h) k)

    pub unrolled_covers : {k : ℕ} {a b : Code} → Unrolls k a b → Covers (of a) (of b)
    unrolled_covers (Kept a) = covers_same (of a)
    unrolled_covers (InSeq a b d e u v) = same_parts (of a ++ of b) (of d ++ of e) _ _ (c.at_seq a b) (c.at_seq d e) (covers_append (of a) (of b) (of d) (of e) (unrolled_covers u) (unrolled_covers v))
    unrolled_covers (InBlock a d u) = same_parts (of a) (of d) _ _ (c.at_list a) (c.at_list d) (unrolled_covers u)
    unrolled_covers (InIf e a d u) = same_parts (of a) (of d) _ _ (c.at_if e a) (c.at_if e d) (unrolled_covers u)
    unrolled_covers (InIfElse t a b d e u v) = same_parts (of a ++ of b) (of d ++ of e) _ _ (c.at_either t a b) (c.at_either t d e) (covers_append (of a) (of b) (of d) (of e) (unrolled_covers u) (unrolled_covers v))
    unrolled_covers (InWhile e a d u) = same_parts (of a) (of d) _ _ (c.at_while e a) (c.at_while e d) (unrolled_covers u)
    unrolled_covers (InDoWhile e a d u) = same_parts (of a) (of d) _ _ (c.at_do e a) (c.at_do e d) (unrolled_covers u)
    unrolled_covers (InFor first test step a d u) =
        same_parts (c.first_has first ++ of a) (c.first_has first ++ of d) _ _ (c.at_for first test step a) (c.at_for first test step d) (covers_append (c.first_has first) (of a) (c.first_has first) (of d) (covers_same (c.first_has first)) (unrolled_covers u))
    unrolled_covers {k} (AWhile e a) =
        let t : Code = turns_of k (Some e) None a in
        same_parts (of a) (of t) _ _ (c.at_while e a) (c.at_while e (Block t) ∙ c.at_list t) (turns_cover k (Some e) None a)
    unrolled_covers {k} (AFor first test step a) =
        let t : Code = turns_of k test step a in
        same_parts (c.first_has first ++ of a) (c.first_has first ++ of t) _ _ (c.at_for first test (step_code step) a) (c.at_for first test (step_code step) (Block t) ∙ ap (λ (z : List A). c.first_has first ++ z) (c.at_list t))
        (covers_append (c.first_has first) (of a) (c.first_has first) (of t) (covers_same (c.first_has first)) (turns_cover k test step a))

scalars_block : (a : Code) → scalars_of (block_of a) ≡ scalars_of a
scalars_block (Block a) = refl
scalars_block a = append-nil (scalars_of a)

arrays_block : (a : Code) → arrays_of (block_of a) ≡ arrays_of a
arrays_block (Block a) = refl
arrays_block a = append-nil (arrays_of a)

formats_block : (a : Code) → formats_of (block_of a) ≡ formats_of a
formats_block (Block a) = refl
formats_block a = append-nil (formats_of a)

scalars_collect : Collects scalars_of
scalars_collect = record {
  at_end = refl;
  at_seq = λ a b. refl;
  at_block = scalars_block;
  at_if = λ e a. refl;
  at_either = λ e a b. refl;
  at_while = λ e a. refl;
  at_do = λ e a. refl;
  first_has = scalars_of;
  at_for = λ first test step a. refl;
  at_simple = λ a. refl;
  at_break = refl;
  at_list = λ a. refl;
}

arrays_collect : Collects arrays_of
arrays_collect = record {
  at_end = refl;
  at_seq = λ a b. refl;
  at_block = arrays_block;
  at_if = λ e a. refl;
  at_either = λ e a b. refl;
  at_while = λ e a. refl;
  at_do = λ e a. refl;
  first_has = arrays_of;
  at_for = λ first test step a. refl;
  at_simple = λ a. refl;
  at_break = refl;
  at_list = λ a. refl;
}

formats_collect : Collects formats_of
formats_collect = record {
  at_end = refl;
  at_seq = λ a b. refl;
  at_block = formats_block;
  at_if = λ e a. refl;
  at_either = λ e a b. refl;
  at_while = λ e a. refl;
  at_do = λ e a. refl;
  first_has = λ first. [];
  at_for = λ first test step a. refl;
  at_simple = λ a. refl;
  at_break = refl;
  at_list = λ a. refl;
}

pub scalars_covered : {k : ℕ} {a b : Code} → Unrolls k a b → Covers (scalars_of a) (scalars_of b)
scalars_covered u = unrolled_covers scalars_of scalars_collect u

pub arrays_covered : {k : ℕ} {a b : Code} → Unrolls k a b → Covers (arrays_of a) (arrays_of b)
arrays_covered u = unrolled_covers arrays_of arrays_collect u

pub formats_covered : {k : ℕ} {a b : Code} → Unrolls k a b → Covers (formats_of a) (formats_of b)
formats_covered u = unrolled_covers formats_of formats_collect u

pub all_more : {A : Type 0} (p q : A → Bool) → ((x : A) → p x ≡ true → q x ≡ true) → (xs : List A) → list_all p xs ≡ true → list_all q xs ≡ true
all_more p q h [] e = refl
all_more p q h (x ∷ xs) e = let b = and_parts (p x) (list_all p xs) e in and_from (q x) (list_all q xs) (h x b.0) (all_more p q h xs b.1)

-- each number of a range still occurs, and no other
pub all_from_covered : (first count : ℕ) (xs ys : List ℕ) → Covers xs ys → are_all_from first count xs ≡ true → are_all_from first count ys ≡ true
all_from_covered first count xs ys c e =
    let range : ℕ → Bool = λ x. at_most first x && nat_lt x (first + count) in
    let b = and_parts (list_all (λ k. is_in (first + k) xs) (below count)) (list_all range xs) e in
    and_from (list_all (λ k. is_in (first + k) ys) (below count)) (list_all range ys)
    (all_more (λ k. is_in (first + k) xs) (λ k. is_in (first + k) ys) (λ k h. c.any (nat_eq (first + k)) h) (below count) b.0)
    (c.all range b.1)
