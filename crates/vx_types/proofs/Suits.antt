-- Expressions without faults suit what is known of their names.
use Rattle.std.proofs.Common.{◌≡◌, ℕ, suc, ◌+◌, Bool, true, false, ◌&&◌, if◌then◌else◌, not, nat_eq, List, [], ◌∷◌, ◌++◌, length, refl, ap, sym, ◌∙◌, subst, Option, Some, None, add-one, arith}
use Rattle.std.specs.Prelude.{slice_get, slice_index_or}
use Rattle.std.proofs.lemmas.Bool.{eqb-true}
use Rattle.vx_ast.specs.declared.tree.Gives.{Gives}
use Rattle.vx_ast.specs.declared.tree.Takes.{Takes}
use Rattle.vx_ast.specs.declared.tree.Takes.TheVariants.{Number as TakesNumber, Array as TakesArray}
use Rattle.vx_ast.specs.declared.syntax.Place.{Place}
use Rattle.vx_ast.specs.declared.syntax.Name.{Name}
use Rattle.vx_ast.specs.declared.names.Named.{Named}
use Rattle.vx_ast.specs.declared.names.Named.TheVariants.{Scalar as AScalar, Global as AGlobal, Array as AnArray, Function as AFunctionNamed, ReadInt as Reads, MoreInput as AsksMore, Print as Prints}
use Rattle.vx_ast.specs.declared.names.Meant.{Meant}
use Rattle.vx_ast.specs.declared.names.Fault.{Fault}
use Rattle.vx_ast.specs.Tree as tree
use Rattle.vx_ast.specs.Tree.{One, Row, Tree}
use Rattle.vx_ast.specs.Accepted as accepted
use Rattle.vx_ast.specs.Accepted.{gives_int, is_scalar, is_in, names_array, has_numbers, takes_of_row, same_take, same_takes, can_call, suits, suits_place, suits_whole, suits_action, suits_test}
use Rattle.vx_ast.specs.Syntax.{Phrase, Number, Use, Element, Call, Unary, Binary, Both, Either, Choice, NoMore, Then, Action, Evaluate, Assign, Compound, Increase, Decrease}
use Rattle.vx_ast.specs.Scopes.{Environment, Known, find, look, named, named_in, same_name, file_in, wanted_by}
use Rattle.vx_ast.specs.Faults.{fault_if, used, indexed, called, changed, row_length, same_place, handed, phrase_faults, row_faults, whole_faults, target_faults, action_faults, test_faults}
use Rattle.vx_ast.specs.Resolved.{number_named, array_named, array_in, call_named, place_named, tree_in, row_in, target_in, action_in, test_in}
use Rattle.vx_limits.specs.Words.{tree_words, place_words, action_words, test_words}

-- small facts

pub and_both : (a b : Bool) → a ≡ true → b ≡ true → (a && b) ≡ true
and_both a b p q = ap (λ (z : Bool). z && b) p ∙ q

pub and_left : (a b : Bool) → (a && b) ≡ true → a ≡ true
and_left true b e = refl
and_left false b e = e

pub and_right : (a b : Bool) → (a && b) ≡ true → b ≡ true
and_right true b e = e
and_right false b e = absurd (apart e)
  where
    apart : false ≡ true → ⊥
    apart h = cc

pub none_left : (xs ys : List Fault) → xs ++ ys ≡ [] → xs ≡ []
none_left [] ys e = refl
none_left (x ∷ xs) ys e = cc

pub none_right : (xs ys : List Fault) → xs ++ ys ≡ [] → ys ≡ []
none_right [] ys e = e
none_right (x ∷ xs) ys e = cc

pub no_fault : (test : Bool) (code : ℕ) (place : Place) → fault_if test code place ≡ [] → test ≡ false
no_fault true code place e = cc
no_fault false code place e = refl

pub not_false : (b : Bool) → not b ≡ false → b ≡ true
not_false true e = refl
not_false false e = sym e

-- what a name stands for is there in the program, and in force

abbrev pub Fits : tree.Program → accepted.Scope → Named → Type 0
Fits P sc (AScalar n) = is_in n sc.scalars ≡ true
Fits P sc (AGlobal a) = is_scalar (slice_get P.globals a) ≡ true
Fits P sc (AnArray a) = names_array P sc a ≡ true
Fits P sc (AFunctionNamed f gives count) = (t : tree.Function) × (slice_get P.functions f ≡ Some t) × (t.gives ≡ gives) × (length t.takes ≡ count)
Fits P sc Reads = Unit {0}
Fits P sc AsksMore = Unit {0}
Fits P sc Prints = Unit {0}

abbrev pub AllFit : tree.Program → accepted.Scope → List Known → Type 0
AllFit P sc [] = Unit {0}
AllFit P sc (k ∷ ks) = Fits P sc k.meant.named × AllFit P sc ks

-- what a function of the program takes is what is known of it
abbrev pub TakesFit : tree.Program → List (List Takes) → Type 0
TakesFit P takes = (f : ℕ) (t : tree.Function) → slice_get P.functions f ≡ Some t → slice_index_or takes f [] ≡ t.takes

pub record AreFit (P : tree.Program) (sc : accepted.Scope) (known : List Known) (taken : List (List Takes)) : Type 0 where
  pub names : AllFit P sc known
  pub takes : TakesFit P taken

abbrev pub KnownFit : tree.Program → accepted.Scope → Environment → Type 0
KnownFit P sc env = AreFit P sc (env.locals ++ file_in env) env.takes

-- rows of arguments that are what is taken

pub same_itself : (ts : List Takes) → same_takes ts ts ≡ true
same_itself [] = refl
same_itself (TakesNumber ∷ ts) = same_itself ts
same_itself (TakesArray ∷ ts) = same_itself ts

pub lengths : (env : Environment) (ts : List Takes) (row : Phrase Row) → row_length row ≡ accepted.row_length (row_in env ts row)
lengths env ts NoMore = refl
lengths env [] (Then at a rest) = add-one (row_length rest) ∙ ap suc (lengths env [] rest)
lengths env (TakesNumber ∷ ts) (Then at a rest) = add-one (row_length rest) ∙ ap suc (lengths env ts rest)
lengths env (TakesArray ∷ ts) (Then at a rest) = add-one (row_length rest) ∙ ap suc (lengths env ts rest)

pub all_numbers : (env : Environment) (row : Phrase Row) → has_numbers (row_in env [] row) ≡ true
all_numbers env NoMore = refl
all_numbers env (Then at a rest) = all_numbers env rest

row_taken : (env : Environment) (ts : List Takes) (row : Phrase Row) → row_length row ≡ length ts → takes_of_row (row_in env ts row) ≡ ts
row_taken env [] NoMore e = refl
row_taken env (t ∷ ts) NoMore e = absurd (let k : 0 ≡ suc (length ts) = e in omega (arith, k))
row_taken env [] (Then at a rest) e = absurd (let k : row_length rest + 1 ≡ 0 = e in omega (arith, k))
row_taken env (TakesNumber ∷ ts) (Then at a rest) e = ap (λ (z : List Takes). TakesNumber ∷ z) (row_taken env ts rest (let k : row_length rest + 1 ≡ suc (length ts) = e in omega (arith, k)))
row_taken env (TakesArray ∷ ts) (Then at a rest) e = ap (λ (z : List Takes). TakesArray ∷ z) (row_taken env ts rest (let k : row_length rest + 1 ≡ suc (length ts) = e in omega (arith, k)))

-- the arguments of a function that is there, as many as it takes
row_same : (P : tree.Program) (env : Environment) (o : Option Named) (row : Phrase Row) → TakesFit P env.takes → (g : ℕ) (gives : Gives) (count : ℕ) (t : tree.Function) → o ≡ Some (AFunctionNamed g gives count) → slice_get P.functions g ≡ Some t → row_length row ≡ length t.takes
    → same_takes (takes_of_row (row_in env (wanted_by env o) row)) t.takes ≡ true
row_same P env o row fit g gives count t e there n =
    let wanted : wanted_by env o ≡ t.takes = ap (λ (z : Option Named). wanted_by env z) e ∙ fit g t there in
    ap (λ (z : List Takes). same_takes (takes_of_row (row_in env z row)) t.takes) wanted ∙ ap (λ (z : List Takes). same_takes z t.takes) (row_taken env t.takes row n) ∙ same_itself t.takes

module _ (P : tree.Program) (sc : accepted.Scope) where
  find_fits : (x : List ℕ) (ks : List Known) (m : Meant) → AllFit P sc ks → find x ks ≡ Some m → Fits P sc m.named
  find_fits x [] m a e = cc
  find_fits x (k ∷ ks) m a e =
      let by : (b : Bool) → (if b then Some k.meant else find x ks) ≡ Some m → Fits P sc m.named
      = λ b. elim b as (λ v. (if v then Some k.meant else find x ks) ≡ Some m → Fits P sc m.named) [
        | true ↦ λ (h : Some k.meant ≡ Some m). (let q : k.meant ≡ m = cc in subst (λ (z : Meant). Fits P sc z.named) q a.0)
        | false ↦ λ h. find_fits x ks m a.1 h
      ] in
      by (same_name x k.name) e

  named_fits : (x : List ℕ) (env : Environment) (n : Named) → KnownFit P sc env → named x env ≡ Some n → Fits P sc n
  unfolding look
  named_fits x env n fit e =
      let a = fit.names in
      let by : (o : Option Meant) → find x (env.locals ++ file_in env) ≡ o → named_in o ≡ Some n → Fits P sc n
      = λ o. elim o as (λ o. find x (env.locals ++ file_in env) ≡ o → named_in o ≡ Some n → Fits P sc n) [
        | None ↦ λ h (q : None ≡ Some n). cc
        | Some m ↦ λ h (q : Some m.named ≡ Some n). (let w : m.named ≡ n = cc in subst (λ (z : Named). Fits P sc z) w (find_fits x (env.locals ++ file_in env) m a h))
      ] in
      by (find x (env.locals ++ file_in env)) refl e

  -- names

  used_suits : (x : Name) (o : Option Named) → ((n : Named) → o ≡ Some n → Fits P sc n) → used x o ≡ [] → suits P sc (number_named o) ≡ true
  used_suits x None f e = cc
  used_suits x (Some (AScalar n)) f e = f (AScalar n) refl
  used_suits x (Some (AGlobal a)) f e = f (AGlobal a) refl
  used_suits x (Some (AnArray a)) f e = cc
  used_suits x (Some (AFunctionNamed g gives count)) f e = cc
  used_suits x (Some Reads) f e = cc
  used_suits x (Some AsksMore) f e = cc
  used_suits x (Some Prints) f e = cc

  indexed_suits : (x : Name) (o : Option Named) → ((n : Named) → o ≡ Some n → Fits P sc n) → indexed x o ≡ [] → names_array P sc (array_named o) ≡ true
  indexed_suits x None f e = cc
  indexed_suits x (Some (AScalar n)) f e = cc
  indexed_suits x (Some (AGlobal a)) f e = cc
  indexed_suits x (Some (AnArray a)) f e = f (AnArray a) refl
  indexed_suits x (Some (AFunctionNamed g gives count)) f e = cc
  indexed_suits x (Some Reads) f e = cc
  indexed_suits x (Some AsksMore) f e = cc
  indexed_suits x (Some Prints) f e = cc

  changed_suits : (at : Place) (x : Name) (o : Option Named) → ((n : Named) → o ≡ Some n → Fits P sc n) → changed at x o ≡ [] → suits_place P sc (place_named o) ≡ true
  changed_suits at x None f e = cc
  changed_suits at x (Some (AScalar n)) f e = f (AScalar n) refl
  changed_suits at x (Some (AGlobal a)) f e = f (AGlobal a) refl
  changed_suits at x (Some (AnArray a)) f e = cc
  changed_suits at x (Some (AFunctionNamed g gives count)) f e = cc
  changed_suits at x (Some Reads) f e = cc
  changed_suits at x (Some AsksMore) f e = cc
  changed_suits at x (Some Prints) f e = cc

  -- an argument where an array is taken

  none_behind : (at : Place) (others : List Fault) → fault_if true 7 at ++ others ≡ [] → ⊥
  none_behind at others e = cc

  handed_suits : (env : Environment) (at : Place) (e : Phrase One) (others : List Fault) → KnownFit P sc env → handed env at e others ≡ [] → names_array P sc (array_in env e) ≡ true
  handed_suits env at (Use x) others fit h =
      let by : (b : Bool) → (if b then indexed x (named x.bytes env) else (fault_if true 7 at ++ others)) ≡ [] → names_array P sc (array_named (named x.bytes env)) ≡ true
      = λ b. elim b as (λ v. (if v then indexed x (named x.bytes env) else (fault_if true 7 at ++ others)) ≡ [] → names_array P sc (array_named (named x.bytes env)) ≡ true) [
        | true ↦ λ q. indexed_suits x (named x.bytes env) (λ n k. named_fits x.bytes env n fit k) q
        | false ↦ λ q. absurd (none_behind at others q)
      ] in
      by (same_place at x.place) h
  handed_suits env at (Number z) others fit h = absurd (none_behind at others h)
  handed_suits env at (Element a i) others fit h = absurd (none_behind at others h)
  handed_suits env at (Call f row) others fit h = absurd (none_behind at others h)
  handed_suits env at (Unary operator a) others fit h = absurd (none_behind at others h)
  handed_suits env at (Binary operator a b) others fit h = absurd (none_behind at others h)
  handed_suits env at (Both a b) others fit h = absurd (none_behind at others h)
  handed_suits env at (Either a b) others fit h = absurd (none_behind at others h)
  handed_suits env at (Choice c a b) others fit h = absurd (none_behind at others h)

  -- a call of a function that is there
  can_call_it : (wanted : Gives → Bool) (takes : List Takes) (o : Option tree.Function) (t : tree.Function) → o ≡ Some t → wanted t.gives ≡ true → same_takes takes t.takes ≡ true → can_call wanted takes o ≡ true
  can_call_it wanted takes o t e w c = ap (λ (z : Option tree.Function). can_call wanted takes z) e ∙ and_both (wanted t.gives) (same_takes takes t.takes) w c

  called_suits : (x : Name) (n : ℕ) (row : Tree Row) (o : Option Named) → ((n : Named) → o ≡ Some n → Fits P sc n)
      → ((g : ℕ) (gives : Gives) (count : ℕ) (t : tree.Function) → o ≡ Some (AFunctionNamed g gives count) → slice_get P.functions g ≡ Some t → n ≡ length t.takes → same_takes (takes_of_row row) t.takes ≡ true)
      → (tree_words row ≡ true → suits P sc row ≡ true) → tree_words (call_named o row) ≡ true → called false n x o ≡ [] → suits P sc (call_named o row) ≡ true
  called_suits x n row None f l r w e = cc
  called_suits x n row (Some (AScalar m)) f l r w e = cc
  called_suits x n row (Some (AGlobal a)) f l r w e = cc
  called_suits x n row (Some (AnArray a)) f l r w e = cc
  called_suits x n row (Some (AFunctionNamed g gives count)) f l r w e =
      let t = f (AFunctionNamed g gives count) refl in
      let a : gives_int gives ≡ true = not_false (gives_int gives) (no_fault (not (gives_int gives)) 7 x.place (none_left (fault_if (not (gives_int gives)) 7 x.place) (fault_if (not (nat_eq n count)) 8 x.place) e)) in
      let b : nat_eq n count ≡ true = not_false (nat_eq n count) (no_fault (not (nat_eq n count)) 8 x.place (none_right (fault_if (not (gives_int gives)) 7 x.place) (fault_if (not (nat_eq n count)) 8 x.place) e)) in
      and_both (can_call gives_int (takes_of_row row) (slice_get P.functions g)) (suits P sc row)
      (can_call_it gives_int (takes_of_row row) (slice_get P.functions g) t.0 t.1 (ap gives_int t.2 ∙ a) (l g gives count t.0 refl t.1 (eqb-true n count b ∙ sym t.3))) (r w)
  called_suits x n row (Some Reads) f l r w e = refl
  called_suits x n row (Some AsksMore) f l r w e = refl
  called_suits x n row (Some Prints) f l r w e = cc

  whole_suits : (x : Name) (n : ℕ) (row : Tree Row) (o : Option Named) → ((n : Named) → o ≡ Some n → Fits P sc n)
      → ((g : ℕ) (gives : Gives) (count : ℕ) (t : tree.Function) → o ≡ Some (AFunctionNamed g gives count) → slice_get P.functions g ≡ Some t → n ≡ length t.takes → same_takes (takes_of_row row) t.takes ≡ true)
      → (tree_words row ≡ true → suits P sc row ≡ true) → tree_words (call_named o row) ≡ true → called true n x o ≡ [] → suits_whole P sc (call_named o row) ≡ true
  whole_suits x n row None f l r w e = cc
  whole_suits x n row (Some (AScalar m)) f l r w e = cc
  whole_suits x n row (Some (AGlobal a)) f l r w e = cc
  whole_suits x n row (Some (AnArray a)) f l r w e = cc
  whole_suits x n row (Some (AFunctionNamed g gives count)) f l r w e =
      let t = f (AFunctionNamed g gives count) refl in
      let b : nat_eq n count ≡ true = not_false (nat_eq n count) (no_fault (not (nat_eq n count)) 8 x.place e) in
      and_both (can_call (λ gives. true) (takes_of_row row) (slice_get P.functions g)) (suits P sc row)
      (can_call_it (λ gives. true) (takes_of_row row) (slice_get P.functions g) t.0 t.1 refl (l g gives count t.0 refl t.1 (eqb-true n count b ∙ sym t.3))) (r w)
  whole_suits x n row (Some Reads) f l r w e = refl
  whole_suits x n row (Some AsksMore) f l r w e = refl
  whole_suits x n row (Some Prints) f l r w e = cc

  -- what suits as a number suits as the whole of a statement
  any_call : (takes : List Takes) (o : Option tree.Function) → can_call gives_int takes o ≡ true → can_call (λ gives. true) takes o ≡ true
  any_call takes None e = e
  any_call takes (Some t) e = and_right (gives_int t.gives) (same_takes takes t.takes) e

  as_whole : (t : Tree One) → suits P sc t ≡ true → suits_whole P sc t ≡ true
  as_whole (tree.Literal z) e = e
  as_whole (tree.Local x) e = e
  as_whole (tree.Global a) e = e
  as_whole (tree.Element a i) e = e
  as_whole (tree.Unary operator a) e = e
  as_whole (tree.Binary operator a b) e = e
  as_whole (tree.Both a b) e = e
  as_whole (tree.Either a b) e = e
  as_whole (tree.Choice c a b) e = e
  as_whole (tree.Apply g row) e =
      and_both (can_call (λ gives. true) (takes_of_row row) (slice_get P.functions g)) (suits P sc row)
      (any_call (takes_of_row row) (slice_get P.functions g) (and_left (can_call gives_int (takes_of_row row) (slice_get P.functions g)) (suits P sc row) e))
      (and_right (can_call gives_int (takes_of_row row) (slice_get P.functions g)) (suits P sc row) e)
  as_whole tree.ReadInt e = e
  as_whole tree.MoreInput e = e

  -- expressions

  mutual
    pub phrase_suits : (env : Environment) (e : Phrase One) → KnownFit P sc env → tree_words (tree_in env e) ≡ true → phrase_faults env e ≡ [] → suits P sc (tree_in env e) ≡ true
    phrase_suits env (Number z) fit w e = w
    phrase_suits env (Use x) fit w e = used_suits x (named x.bytes env) (λ n h. named_fits x.bytes env n fit h) e
    phrase_suits env (Element a i) fit w e =
        and_both (names_array P sc (array_named (named a.bytes env))) (suits P sc (tree_in env i))
        (indexed_suits a (named a.bytes env) (λ n h. named_fits a.bytes env n fit h) (none_left (indexed a (named a.bytes env)) (phrase_faults env i) e))
        (phrase_suits env i fit w (none_right (indexed a (named a.bytes env)) (phrase_faults env i) e))
    phrase_suits env (Call f row) fit w e =
        let taken = row_in env (wanted_by env (named f.bytes env)) row in
        called_suits f (row_length row) taken (named f.bytes env) (λ n h. named_fits f.bytes env n fit h) (row_same P env (named f.bytes env) row fit.takes)
        (λ v. row_suits env (wanted_by env (named f.bytes env)) row fit v (none_right (called false (row_length row) f (named f.bytes env)) (row_faults env (wanted_by env (named f.bytes env)) row) e)) w
        (none_left (called false (row_length row) f (named f.bytes env)) (row_faults env (wanted_by env (named f.bytes env)) row) e)
    phrase_suits env (Unary operator a) fit w e = phrase_suits env a fit w e
    phrase_suits env (Binary operator a b) fit w e =
        and_both (suits P sc (tree_in env a)) (suits P sc (tree_in env b))
        (phrase_suits env a fit (and_left (tree_words (tree_in env a)) (tree_words (tree_in env b)) w) (none_left (phrase_faults env a) (phrase_faults env b) e))
        (phrase_suits env b fit (and_right (tree_words (tree_in env a)) (tree_words (tree_in env b)) w) (none_right (phrase_faults env a) (phrase_faults env b) e))
    phrase_suits env (Both a b) fit w e =
        and_both (suits P sc (tree_in env a)) (suits P sc (tree_in env b))
        (phrase_suits env a fit (and_left (tree_words (tree_in env a)) (tree_words (tree_in env b)) w) (none_left (phrase_faults env a) (phrase_faults env b) e))
        (phrase_suits env b fit (and_right (tree_words (tree_in env a)) (tree_words (tree_in env b)) w) (none_right (phrase_faults env a) (phrase_faults env b) e))
    phrase_suits env (Either a b) fit w e =
        and_both (suits P sc (tree_in env a)) (suits P sc (tree_in env b))
        (phrase_suits env a fit (and_left (tree_words (tree_in env a)) (tree_words (tree_in env b)) w) (none_left (phrase_faults env a) (phrase_faults env b) e))
        (phrase_suits env b fit (and_right (tree_words (tree_in env a)) (tree_words (tree_in env b)) w) (none_right (phrase_faults env a) (phrase_faults env b) e))
    phrase_suits env (Choice c a b) fit w e =
        let wr = and_right (tree_words (tree_in env c)) (tree_words (tree_in env a) && tree_words (tree_in env b)) w in
        let er = none_right (phrase_faults env c) (phrase_faults env a ++ phrase_faults env b) e in
        and_both (suits P sc (tree_in env c)) (suits P sc (tree_in env a) && suits P sc (tree_in env b))
        (phrase_suits env c fit (and_left (tree_words (tree_in env c)) (tree_words (tree_in env a) && tree_words (tree_in env b)) w) (none_left (phrase_faults env c) (phrase_faults env a ++ phrase_faults env b) e))
        (and_both (suits P sc (tree_in env a)) (suits P sc (tree_in env b))
        (phrase_suits env a fit (and_left (tree_words (tree_in env a)) (tree_words (tree_in env b)) wr) (none_left (phrase_faults env a) (phrase_faults env b) er))
        (phrase_suits env b fit (and_right (tree_words (tree_in env a)) (tree_words (tree_in env b)) wr) (none_right (phrase_faults env a) (phrase_faults env b) er)))

    pub row_suits : (env : Environment) (ts : List Takes) (row : Phrase Row) → KnownFit P sc env → tree_words (row_in env ts row) ≡ true → row_faults env ts row ≡ [] → suits P sc (row_in env ts row) ≡ true
    row_suits env ts NoMore fit w e = refl
    row_suits env [] (Then at a rest) fit w e =
        and_both (suits P sc (tree_in env a)) (suits P sc (row_in env [] rest))
        (phrase_suits env a fit (and_left (tree_words (tree_in env a)) (tree_words (row_in env [] rest)) w) (none_left (phrase_faults env a) (row_faults env [] rest) e))
        (row_suits env [] rest fit (and_right (tree_words (tree_in env a)) (tree_words (row_in env [] rest)) w) (none_right (phrase_faults env a) (row_faults env [] rest) e))
    row_suits env (TakesNumber ∷ ts) (Then at a rest) fit w e =
        and_both (suits P sc (tree_in env a)) (suits P sc (row_in env ts rest))
        (phrase_suits env a fit (and_left (tree_words (tree_in env a)) (tree_words (row_in env ts rest)) w) (none_left (phrase_faults env a) (row_faults env ts rest) e))
        (row_suits env ts rest fit (and_right (tree_words (tree_in env a)) (tree_words (row_in env ts rest)) w) (none_right (phrase_faults env a) (row_faults env ts rest) e))
    row_suits env (TakesArray ∷ ts) (Then at a rest) fit w e =
        and_both (names_array P sc (array_in env a)) (suits P sc (row_in env ts rest))
        (handed_suits env at a (phrase_faults env a) fit (none_left (handed env at a (phrase_faults env a)) (row_faults env ts rest) e))
        (row_suits env ts rest fit w (none_right (handed env at a (phrase_faults env a)) (row_faults env ts rest) e))

  whole_phrase_suits : (env : Environment) (e : Phrase One) → KnownFit P sc env → tree_words (tree_in env e) ≡ true → whole_faults env e ≡ [] → suits_whole P sc (tree_in env e) ≡ true
  whole_phrase_suits env (Number z) fit w e = as_whole (tree_in env (Number z)) (phrase_suits env (Number z) fit w e)
  whole_phrase_suits env (Use x) fit w e = as_whole (tree_in env (Use x)) (phrase_suits env (Use x) fit w e)
  whole_phrase_suits env (Element a i) fit w e = as_whole (tree_in env (Element a i)) (phrase_suits env (Element a i) fit w e)
  whole_phrase_suits env (Call f row) fit w e =
      let taken = row_in env (wanted_by env (named f.bytes env)) row in
      whole_suits f (row_length row) taken (named f.bytes env) (λ n h. named_fits f.bytes env n fit h) (row_same P env (named f.bytes env) row fit.takes)
      (λ v. row_suits env (wanted_by env (named f.bytes env)) row fit v (none_right (called true (row_length row) f (named f.bytes env)) (row_faults env (wanted_by env (named f.bytes env)) row) e)) w
      (none_left (called true (row_length row) f (named f.bytes env)) (row_faults env (wanted_by env (named f.bytes env)) row) e)
  whole_phrase_suits env (Unary operator a) fit w e = as_whole (tree_in env (Unary operator a)) (phrase_suits env (Unary operator a) fit w e)
  whole_phrase_suits env (Binary operator a b) fit w e = as_whole (tree_in env (Binary operator a b)) (phrase_suits env (Binary operator a b) fit w e)
  whole_phrase_suits env (Both a b) fit w e = as_whole (tree_in env (Both a b)) (phrase_suits env (Both a b) fit w e)
  whole_phrase_suits env (Either a b) fit w e = as_whole (tree_in env (Either a b)) (phrase_suits env (Either a b) fit w e)
  whole_phrase_suits env (Choice c a b) fit w e = as_whole (tree_in env (Choice c a b)) (phrase_suits env (Choice c a b) fit w e)

  target_suits : (env : Environment) (at : Place) (e : Phrase One) → KnownFit P sc env → place_words (target_in env e) ≡ true → target_faults env at e ≡ [] → suits_place P sc (target_in env e) ≡ true
  target_suits env at (Use x) fit w e = changed_suits at x (named x.bytes env) (λ n h. named_fits x.bytes env n fit h) e
  target_suits env at (Element a i) fit w e =
      and_both (names_array P sc (array_named (named a.bytes env))) (suits P sc (tree_in env i))
      (indexed_suits a (named a.bytes env) (λ n h. named_fits a.bytes env n fit h) (none_left (indexed a (named a.bytes env)) (phrase_faults env i) e))
      (phrase_suits env i fit w (none_right (indexed a (named a.bytes env)) (phrase_faults env i) e))
  target_suits env at (Number z) fit w e = cc
  target_suits env at (Call f row) fit w e = cc
  target_suits env at (Unary operator a) fit w e = cc
  target_suits env at (Binary operator a b) fit w e = cc
  target_suits env at (Both a b) fit w e = cc
  target_suits env at (Either a b) fit w e = cc
  target_suits env at (Choice c a b) fit w e = cc

  pub action_suits : (env : Environment) (a : Action) → KnownFit P sc env → action_words (action_in env a) ≡ true → action_faults env a ≡ [] → suits_action P sc (action_in env a) ≡ true
  action_suits env (Evaluate e) fit w h = whole_phrase_suits env e fit w h
  action_suits env (Assign t e) fit w h =
      and_both (suits_place P sc (target_in env t.phrase)) (suits P sc (tree_in env e))
      (target_suits env t.place t.phrase fit (and_left (place_words (target_in env t.phrase)) (tree_words (tree_in env e)) w) (none_left (target_faults env t.place t.phrase) (phrase_faults env e) h))
      (phrase_suits env e fit (and_right (place_words (target_in env t.phrase)) (tree_words (tree_in env e)) w) (none_right (target_faults env t.place t.phrase) (phrase_faults env e) h))
  action_suits env (Compound t operator e) fit w h =
      and_both (suits_place P sc (target_in env t.phrase)) (suits P sc (tree_in env e))
      (target_suits env t.place t.phrase fit (and_left (place_words (target_in env t.phrase)) (tree_words (tree_in env e)) w) (none_left (target_faults env t.place t.phrase) (phrase_faults env e) h))
      (phrase_suits env e fit (and_right (place_words (target_in env t.phrase)) (tree_words (tree_in env e)) w) (none_right (target_faults env t.place t.phrase) (phrase_faults env e) h))
  action_suits env (Increase t) fit w h = target_suits env t.place t.phrase fit w h
  action_suits env (Decrease t) fit w h = target_suits env t.place t.phrase fit w h

  pub test_suits : (env : Environment) (o : Option (Phrase One)) → KnownFit P sc env → test_words (test_in env o) ≡ true → test_faults env o ≡ [] → suits_test P sc (test_in env o) ≡ true
  test_suits env None fit w h = refl
  test_suits env (Some e) fit w h = phrase_suits env e fit w h
