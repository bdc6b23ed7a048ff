-- Steps of the interpreter: what it answers for a part comes to what it answers for the whole.
use Rattle.std.proofs.Common.{rules, Vec, Global, ◌≤◌, ◌-◌, ◌⊎◌, inl, inr, take, ◌≡◌, ℕ, zero, suc, ◌+◌, ◌<◌, ℤ, pos, negsuc, List, [], ◌∷◌, ◌++◌, length, map, Option, Some, None, Result, Ok, Err, refl, sym, ◌∙◌, ap, subst, arith, append_assoc, w32, of_z, to_z, FitsSigned, slice_get, slice_index_or, replicate}
use Rattle.std.specs.Prelude.{IsErrAnd}
use Rattle.std.specs.Option.{option_map}
use Rattle.std.proofs.lemmas.Bool.{cases_lt}
use Rattle.std.proofs.lemmas.Option.{slice_get-map}
use Rattle.std.proofs.lemmas.Int.{to_z-of_z}
use Rattle.vx_base.specs.Outcome.{Traps, Goes}
use Rattle.vx_base.specs.declared.outcome.Trap.{Trap}
use Rattle.vx_base.specs.declared.outcome.Trap.TheVariants.{Index as ByIndex}
use Rattle.vx_ast.specs.Tree as tree
use Rattle.vx_ast.specs.Tree.{One, Row, Tree, Apply, NoMore, Then, Code, Seq, Place, InLocal, InGlobal, InElement}
use Rattle.vx_ast.specs.Meaning.{Store, Part, With, Trapped, Going, Leaves, Falls, Calls, Argument, NumberArgument, ArrayArgument, numbers_given, arrays_given, and_then, unless_zero, at_index, at_element, index_in, array_at, word_at, with_word, value, changes, does, spot_behind, spot_in, active, activate, result_of, back_in, entered, outcome_of}
use Rattle.vx_plain.specs.Kept.{Kept, store_of}
use Rattle.vx_plain.specs.Interpreting.{IsAnswered, Comes, Passes, itself, leaves_of, given, held_at, put_at, located}
use Rattle.vx_plain.specs.declared.interpreter.Arguments.{Arguments}
use Rattle.vx_plain.specs.declared.interpreter.Stop.{Stop}
use Rattle.vx_plain.specs.declared.interpreter.Stop.TheVariants.{Trap as StopTrap, Bound as StopBound, Memory as StopMemory}
use Rattle.vx_plain.specs.declared.interpreter.Located.{Located}
use Rattle.vx_plain.specs.declared.interpreter.Located.TheVariants.{Word as AtWord}
use Rattle.vx_ast.specs.declared.tree.Expression.{Expression, Row_of-Argument, end_of-Argument, more_of-Argument, items-the_row-Argument, the_lemmas, Call}
use Rattle.vx_ast.specs.declared.tree.Argument.{Argument as TreeArgument}
use Rattle.vx_ast.specs.declared.tree.Statement.{Statement, Row_of-Statement, end_of-Statement, more_of-Statement, items-the_row-Statement, the_lemmas as statement_lemmas, Block, Print}
use Rattle.vx_ast.specs.View.{tree_of, argument_before, row_of, arguments_in, row_in, code_of, all_of, all_in, function_of, program_of}
use Rattle.vx_ast.specs.declared.tree.Function.{Function}
use Rattle.vx_ast.specs.declared.tree.Program.{Program}
use Rattle.vx_plain.specs.declared.interpreter.Leave.{Leave}
use Rattle.vx_plain.specs.declared.interpreter.Leave.TheVariants.{Falls as LeaveFalls, Breaks as LeaveBreaks, Continues as LeaveContinues, Returns as LeaveReturns}

-- a part that is left before it is done leaves the whole

same_stop : {A C D : Type 0} (f : C → A) (g : D → A) (e : Stop) (k : Kept) (p : Part A) → IsAnswered f (Err e) k p → IsAnswered g (Err e) k p
same_stop f g (StopTrap t) k p h = h
same_stop f g StopBound k p h = h
same_stop f g StopMemory k p h = tt

pub stop_as : {A C D : Type 0} (f : C → A) (g : D → A) (r : Result D Stop) (e : Stop) (k : Kept) (p : Part A) → IsErrAnd r (λ y. y ≡ e) → Comes f (Err e) k p → Comes g r k p
stop_as f g (Ok d) e k p h c = absurd h
stop_as f g (Err y) e k p h c = subst (λ z. Comes g (Err z) k p) (sym h) (record { is = same_stop f g e k p c.is })

then_stop : {A B C D : Type 0} (f : C → A) (g : D → B) (e : Stop) (k : Kept) (p : Part A) (h : A → Store → Part B) → IsAnswered f (Err e) k p → IsAnswered g (Err e) k (and_then p h)
then_stop f g (StopTrap t) k p h e = ap (λ q. and_then q h) e
then_stop f g StopBound k p h e = ap (λ q. and_then q h) e
then_stop f g StopMemory k p h e = tt

pub stop_then : {A B C D : Type 0} (f : C → A) (g : D → B) (r : Result D Stop) (e : Stop) (k : Kept) (p : Part A) (h : A → Store → Part B) → IsErrAnd r (λ y. y ≡ e) → Comes f (Err e) k p → Comes g r k (and_then p h)
stop_then f g (Ok d) e k p h i c = absurd i
stop_then f g (Err y) e k p h i c = subst (λ z. Comes g (Err z) k (and_then p h)) (sym i) (record { is = then_stop f g e k p h c.is })

-- a part that is done hands on to the next

pub on_then : {A B D : Type 0} (g : D → B) (r : Result D Stop) (k : Kept) (a : A) (s : Store) (p : Part A) (h : A → Store → Part B) → p ≡ With a s → Comes g r k (h a s) → Comes g r k (and_then p h)
on_then g r k a s p h e c = subst (λ q. Comes g r k (and_then q h)) (sym e) c

-- an index outside its array, and inside

pub stop_index : {A D : Type 0} (g : D → A) (r : Result D Stop) (e : Stop) (k : Kept) (o : Option ℕ) (f : ℕ → Part A) → IsErrAnd r (λ y. y ≡ e) → e ≡ StopTrap ByIndex → o ≡ None → Comes g r k (at_index o (store_of k) f)
stop_index g (Ok d) e k o f h i j = absurd h
stop_index g (Err y) e k o f h i j = subst (λ z. Comes g (Err z) k (at_index o (store_of k) f)) (sym (h ∙ i)) (subst (λ q. Comes g (Err (StopTrap ByIndex)) k (at_index q (store_of k) f)) (sym j) (record { is = refl }))

pub on_index : {A D : Type 0} (g : D → A) (r : Result D Stop) (k : Kept) (i : ℕ) (s : Store) (o : Option ℕ) (f : ℕ → Part A) → o ≡ Some i → Comes g r k (f i) → Comes g r k (at_index o s f)
on_index g r k i s o f e c = subst (λ q. Comes g r k (at_index q s f)) (sym e) c

-- conditions

pub is_zero : (x : ℤ) → FitsSigned w32 x → of_z w32 x ≡ 0 → x ≡ pos 0
is_zero x f h = sym (to_z-of_z w32 x f) ∙ ap (to_z w32) h

pub through : {A : Type 0} (x : ℤ) (a b : A) → (of_z w32 x ≡ 0 → ⊥) → unless_zero x a b ≡ a
through (pos zero) a b h = absurd (h refl)
through (pos (suc n)) a b h = refl
through (negsuc n) a b h = refl

pub around : {A : Type 0} (x : ℤ) (a b : A) → FitsSigned w32 x → of_z w32 x ≡ 0 → unless_zero x a b ≡ b
around x a b f h = ap (λ z. unless_zero z a b) (is_zero x f h)

pub go_through : {A D : Type 0} (g : D → A) (r : Result D Stop) (k : Kept) (x : ℤ) (p q : Part A) → (of_z w32 x ≡ 0 → ⊥) → Comes g r k p → Comes g r k (unless_zero x p q)
go_through g r k x p q h c = subst (Comes g r k) (sym (through x p q h)) c

pub go_around : {A D : Type 0} (g : D → A) (r : Result D Stop) (k : Kept) (x : ℤ) (p q : Part A) → FitsSigned w32 x → of_z w32 x ≡ 0 → Comes g r k q → Comes g r k (unless_zero x p q)
go_around g r k x p q f h c = subst (Comes g r k) (sym (around x p q f h)) c

-- a number that is answered

pub gives : (x z : ℤ) (k : Kept) (p : Part ℤ) → FitsSigned w32 x → x ≡ z → p ≡ With z (store_of k) → Comes itself (Ok (to_z w32 (of_z w32 x))) k p
gives x z k p f e h = record { is = h ∙ ap (λ y. With y (store_of k)) (sym e ∙ sym (to_z-of_z w32 x f)) }

-- where an array behind the globals stands

pub is_given : (given : List ℕ) (base k d : ℕ) → k < length given → slice_index_or given k d ≡ spot_behind given base k
is_given [] base k d h = absurd (omega arith)
is_given (spot ∷ rest) base zero d h = refl
is_given (spot ∷ rest) base (suc k) d h = is_given rest base k d (omega arith)

pub is_own : (given : List ℕ) (base k : ℕ) → length given ≤ k → base + (k - length given) ≡ spot_behind given base k
is_own [] base k h = let e : k - 0 ≡ k = omega arith in ap (λ z. base + z) e
is_own (spot ∷ rest) base zero h = absurd (omega arith)
is_own (spot ∷ rest) base (suc k) h = let e : suc k - suc (length rest) ≡ k - length rest = omega arith in ap (λ z. base + z) e ∙ is_own rest base k (omega arith)

-- rows of arguments

rows_are : (n : _) (k : Row_of-Argument n) → row_of k ≡ arguments_in (items-the_row-Argument n k)
rows_are n end_of-Argument = refl
rows_are n (more_of-Argument a rest) = ap (argument_before a) (rows_are _ rest)

pub view_Call : (f : ℕ) (all : Vec TreeArgument Global) → tree_of (Call f all) ≡ Apply f (arguments_in all.items)
view_Call f all = search (rules, the_lemmas, rows_are)

all_are : (n : _) (k : Row_of-Statement n) → all_of k ≡ all_in (items-the_row-Statement n k)
all_are n end_of-Statement = refl
all_are n (more_of-Statement a rest) = ap (Seq (code_of a)) (all_are _ rest)

pub view_Block : (all : Vec Statement Global) → code_of (Block all) ≡ tree.Block (all_in all.items)
view_Block all = search (rules, statement_lemmas, all_are)

pub view_Print : (format : List ℕ) (all : Vec Expression Global) → code_of (Print format all) ≡ tree.Print format (row_in all.items)
view_Print format all = search (rules, statement_lemmas)

-- what is given to a function, where a part is left before it is done

pub passes_stop : {C : Type 0} (f : C → List Argument) (r : Result Arguments Stop) (e : Stop) (k : Kept) (p : Part (List Argument)) → IsErrAnd r (λ y. y ≡ e) → Comes f (Err e) k p → Passes r k p
passes_stop f (Ok a) e k p h c = absurd h
passes_stop f (Err y) e k p h c = stop_as f (λ a. []) (Err y) e k p h c

-- one more argument

pub numbers_more : (xs : List Argument) (z : ℤ) → numbers_given (xs ++ NumberArgument z ∷ []) ≡ numbers_given xs ++ z ∷ []
numbers_more [] z = refl
numbers_more (NumberArgument y ∷ xs) z = ap (λ l. y ∷ l) (numbers_more xs z)
numbers_more (ArrayArgument k ∷ xs) z = numbers_more xs z

pub numbers_same : (xs : List Argument) (a : ℕ) → numbers_given (xs ++ ArrayArgument a ∷ []) ≡ numbers_given xs
numbers_same [] a = refl
numbers_same (NumberArgument y ∷ xs) a = ap (λ l. y ∷ l) (numbers_same xs a)
numbers_same (ArrayArgument k ∷ xs) a = numbers_same xs a

pub arrays_more : (xs : List Argument) (a : ℕ) → arrays_given (xs ++ ArrayArgument a ∷ []) ≡ arrays_given xs ++ a ∷ []
arrays_more [] a = refl
arrays_more (NumberArgument y ∷ xs) a = arrays_more xs a
arrays_more (ArrayArgument k ∷ xs) a = ap (λ l. k ∷ l) (arrays_more xs a)

pub arrays_same : (xs : List Argument) (z : ℤ) → arrays_given (xs ++ NumberArgument z ∷ []) ≡ arrays_given xs
arrays_same [] z = refl
arrays_same (NumberArgument y ∷ xs) z = arrays_same xs z
arrays_same (ArrayArgument k ∷ xs) z = ap (λ l. k ∷ l) (arrays_same xs z)

pub one_more : (zs : List ℤ) (z : ℤ) → map NumberArgument (zs ++ z ∷ []) ≡ map NumberArgument zs ++ NumberArgument z ∷ []
one_more [] z = refl
one_more (y ∷ ys) z = ap (λ l. NumberArgument y ∷ l) (one_more ys z)

pub more_values : (p : Part (List Argument)) (numbers : List Argument) (x : Argument) → and_then (and_then p (λ xs u. With (x ∷ xs) u)) (λ xs t. With (numbers ++ xs) t) ≡ and_then p (λ xs t. With ((numbers ++ x ∷ []) ++ xs) t)
more_values (With xs s) numbers x = ap (λ l. With l s) (sym (append_assoc numbers (x ∷ []) xs))
more_values (Trapped k out) numbers x = refl
more_values (Going out) numbers x = refl

-- parts behind one another

pub chain : {A B : Type 0} (p : Part A) (a : A) (s : Store) (h : A → Store → Part B) (b : B) (u : Store) → p ≡ With a s → h a s ≡ With b u → and_then p h ≡ With b u
chain p a s h b u e f = ap (λ q. and_then q h) e ∙ f

-- what an assignment does, by the place of its target

found_then : (o : Option ℕ) (s : Store) (a : ℕ) (new : ℤ → Store → Part ℤ) → at_index o s (λ j. and_then (new (word_at s a j) s) (λ v u. With Falls (with_word u a j v))) ≡ and_then (at_index o s (λ j. With (AtWord a j) s)) (λ w t. and_then (new (held_at w t) t) (λ v u. With Falls (put_at w v u)))
found_then None s a new = refl
found_then (Some j) s a new = refl

index_then : (p : Part ℤ) (spot : ℕ → ℕ) (a : ℕ) (new : ℤ → Store → Part ℤ) → and_then p (λ index t. at_element (spot a) index t (λ j. and_then (new (word_at t (spot a) j) t) (λ v u. With Falls (with_word u (spot a) j v)))) ≡ and_then (and_then p (λ index t. at_element (spot a) index t (λ j. With (AtWord (spot a) j) t))) (λ w t. and_then (new (held_at w t) t) (λ v u. With Falls (put_at w v u)))
index_then (With index t) spot a new = found_then (index_in (length (array_at t (spot a))) index) t (spot a) new
index_then (Trapped k out) spot a new = refl
index_then (Going out) spot a new = refl

changes_is : (spot : ℕ → ℕ) (calls : Calls) (p : Place) (new : ℤ → Store → Part ℤ) (s : Store) → changes spot calls p new s ≡ and_then (located spot calls p s) (λ w t. and_then (new (held_at w t) t) (λ v u. With Falls (put_at w v u)))
changes_is spot calls (InLocal x) new s = refl
changes_is spot calls (InGlobal a) new s = refl
changes_is spot calls (InElement a i) new s = index_then (value spot calls i s) spot a new

pub from_located : {D : Type 0} (spot : ℕ → ℕ) (calls : Calls) (p : Place) (new : ℤ → Store → Part ℤ) (s : Store) (g : D → Leaves) (r : Result D Stop) (k : Kept) (w : Located) (t : Store) →
    located spot calls p s ≡ With w t → Comes g r k (and_then (new (held_at w t) t) (λ v u. With Falls (put_at w v u))) → Comes g r k (changes spot calls p new s)
from_located spot calls p new s g r k w t e c =
    subst (Comes g r k) (sym (changes_is spot calls p new s)) (on_then g r k w t (located spot calls p s) (λ w t. and_then (new (held_at w t) t) (λ v u. With Falls (put_at w v u))) e c)

pub stop_located : {D : Type 0} (spot : ℕ → ℕ) (calls : Calls) (p : Place) (new : ℤ → Store → Part ℤ) (s : Store) (g : D → Leaves) (r : Result D Stop) (e : Stop) (k : Kept) →
    IsErrAnd r (λ y. y ≡ e) → Comes {A = Located} itself (Err e) k (located spot calls p s) → Comes g r k (changes spot calls p new s)
stop_located spot calls p new s g r e k h c =
    subst (Comes g r k) (sym (changes_is spot calls p new s)) (stop_then itself g r e k (located spot calls p s) (λ w t. and_then (new (held_at w t) t) (λ v u. With Falls (put_at w v u))) h c)

-- calls

not_none : (depth : ℕ) → (depth ≡ 0 → ⊥) → depth ≡ suc (depth - 1)
not_none depth h = by (cases_lt 0 depth)
  where
    by : (0 < depth) ⊎ (depth ≤ 0) → depth ≡ suc (depth - 1)
    by (inl l) = omega arith
    by (inr l) = let z : depth ≡ 0 = omega arith in absurd (h z)

-- what is given to a function
abbrev pub given_to : Function → List ℤ → Store → Store
given_to F zs s = record s { scalars = λ x. slice_index_or zs x (pos 0); arrays = s.arrays ++ map (λ size. replicate size (pos 0)) (function_of F).arrays }

pub called : (P : Program) (depth base turns f : ℕ) (given : List ℕ) (zs : List ℤ) (args : List Argument) (s inner : Store) (F : Function) → numbers_given args ≡ zs → arrays_given args ≡ given →
    (depth ≡ 0 → ⊥) → slice_get P.functions.items f ≡ Some F → base ≡ length s.arrays → inner ≡ given_to F zs s →
    active (program_of P) depth turns f args s ≡ result_of s (does (spot_in (length P.globals) given base) (active (program_of P) (depth - 1) turns) turns (all_in F.body.items) inner)
called P depth base turns f given zs args s inner F ns gs nz at b e =
    let there : slice_get (map function_of P.functions.items) f ≡ Some (function_of F) = slice_get-map function_of P.functions.items f ∙ ap (option_map function_of) at in
    ap (λ d. active (program_of P) d turns f args s) (not_none depth nz)
    ∙ ap (λ o. activate (length P.globals) o (active (program_of P) (depth - 1) turns) turns args s) there
    ∙ ap (λ n. result_of s (does (spot_in (length P.globals) (arrays_given args) n) (active (program_of P) (depth - 1) turns) turns (all_in F.body.items) (entered (function_of F) args s))) (sym b)
    ∙ ap (λ l. result_of s (does (spot_in (length P.globals) l base) (active (program_of P) (depth - 1) turns) turns (all_in F.body.items) (entered (function_of F) args s))) gs
    ∙ ap (λ l. result_of s (does (spot_in (length P.globals) given base) (active (program_of P) (depth - 1) turns) turns (all_in F.body.items) (given_to F l s))) ns
    ∙ ap (λ t. result_of s (does (spot_in (length P.globals) given base) (active (program_of P) (depth - 1) turns) turns (all_in F.body.items) t)) (sym e)

result_stop : {D : Type 0} (g : D → ℤ) (s : Store) (e : Stop) (k : Kept) (x : Part Leaves) → IsAnswered leaves_of (Err e) k x → IsAnswered g (Err e) k (result_of s x)
result_stop g s (StopTrap t) k x e = ap (result_of s) e
result_stop g s StopBound k x e = ap (result_of s) e
result_stop g s StopMemory k x e = tt

pub stop_result : {D : Type 0} (g : D → ℤ) (r : Result D Stop) (s : Store) (e : Stop) (k : Kept) (x : Part Leaves) → IsErrAnd r (λ y. y ≡ e) → Comes leaves_of (Err e) k x → Comes g r k (result_of s x)
stop_result g (Ok d) s e k x h c = absurd h
stop_result g (Err y) s e k x h c = subst (λ z. Comes g (Err z) k (result_of s x)) (sym h) (record { is = result_stop g s e k x c.is })

result_given : (s : Store) (left : Leave) (t : Store) → result_of s (With (leaves_of left) t) ≡ back_in s (given left) t
result_given s LeaveFalls t = refl
result_given s LeaveBreaks t = refl
result_given s LeaveContinues t = refl
result_given s (LeaveReturns r) t = refl

pub on_result : (s : Store) (left : Leave) (t : Store) (k : Kept) (x : Part Leaves) (z : ℤ) → x ≡ With (leaves_of left) t → store_of k ≡ record t { scalars = s.scalars; arrays = take (length s.arrays) t.arrays } → FitsSigned w32 z → z ≡ given left → Comes itself (Ok (to_z w32 (of_z w32 z))) k (result_of s x)
on_result s left t k x z e f fits g = gives z (given left) k (result_of s x) fits g (ap (result_of s) e ∙ result_given s left t ∙ ap (With (given left)) (sym f))

-- how a run is ended

pub trap_is : (e : Stop) (t : Trap) (k : Kept) (p : Part ℤ) → Comes itself (Err e) k p → e ≡ StopTrap t → outcome_of p ≡ Traps t k.out
trap_is e t k p c h = ap outcome_of (subst (λ z. IsAnswered itself (Err z) k p) h c.is)

pub bound_is : (e : Stop) (k : Kept) (p : Part ℤ) → Comes itself (Err e) k p → e ≡ StopBound → outcome_of p ≡ Goes k.out
bound_is e k p c h = ap outcome_of (subst (λ z. IsAnswered itself (Err z) k p) h c.is)
