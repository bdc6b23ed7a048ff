-- What is known of a value is told by its last writer, and by whether a join stands below it.
use Rattle.std.proofs.Common.{◌≡◌, ◌⊎◌, inl, inr, ◌<◌, ◌≤◌, ℕ, zero, suc, refl, sym, ◌∙◌, ap, arith, Bool, true, false, ◌&&◌, ◌||◌, nat_lt, nat_eq, if◌then◌else◌, Option, Some, None, List, [], ◌∷◌, ◌++◌, ◌+◌, length, drop, get_or, slice_get}
use Rattle.std.proofs.lemmas.Bool.Decides.{nat_tests}
use Rattle.std.proofs.lemmas.Bool.{false≢true, true≢false}
use Rattle.std.proofs.Math.Seq.{drop-cons}
use Rattle.std.proofs.lemmas.List.{length-drop}
use Rattle.std.proofs.lemmas.Option.{slice_get-get_or}
use Rattle.std.specs.List.{list_any}
use Rattle.vx_flow.specs.declared.graph.Operand.TheVariants.{Held}
use Rattle.vx_flow.specs.declared.graph.Op.{Op}
use Rattle.vx_flow.specs.declared.trace.TraceOp.{TraceOp}
use Rattle.vx_flow.specs.declared.trace.TraceOp.TheVariants.{Plain}
use Rattle.vx_flow.specs.declared.trace.Join.{Join}
use Rattle.vx_flow.specs.declared.trace.Trace.{Trace}
use Rattle.vx_flow.specs.Operands.{value_list, written_by}
use Rattle.vx_flow.proofs.OperandLaws.{writes_listed}
use Rattle.vx_linear.specs.declared.form.Symbol.{Symbol}
use Rattle.vx_linear.specs.declared.form.Symbol.TheVariants.{Entry, Made, EntryPlace, MadePlace}
use Rattle.vx_linear.specs.Linear.{symbol}
use Rattle.vx_linear.specs.Followed.{Above, At, writes_it, made_or_entry, made_or_entry_place, plain, made, known, index_made, index_of, is_join, join_at, at_place, above_of, forms_from, forms_of}
use Rattle.vx_linear.specs.Passed.{is_target}
use Rattle.vx_linear.specs.Writers.{writes_there, writer, is_between, has_join, made_there, made_at, index_there, known_by, index_by}

-- the value that an operation writes

target_by : (v : ℕ) (w : Option ℕ) → list_any (nat_eq v) (value_list w) ≡ is_target v w
target_by v None = refl
target_by v (Some u) = refl

pub target_is : (op : Op) (w : Option ℕ) → w ≡ written_by op → (v : ℕ) → writes_it v (Plain op) ≡ is_target v w
target_is op w e v = ap (list_any (nat_eq v)) (sym (writes_listed op w e)) ∙ target_by v w

-- joins

-- a join at the next place stands between
pub joins_there : (joins : List Join) (i j : ℕ) → j ≤ i → list_any (λ k. nat_eq k.place (suc i)) joins ≡ true → has_join joins j (suc i) ≡ true
joins_there [] i j h e = absurd (false≢true e)
joins_there (k ∷ ks) i j h e = by (nat_eq k.place (suc i)) refl (joins_there ks i j h)
  where
    by : (b : Bool) → nat_eq k.place (suc i) ≡ b → (list_any (λ q. nat_eq q.place (suc i)) ks ≡ true → has_join ks j (suc i) ≡ true) → has_join (k ∷ ks) j (suc i) ≡ true
    by true f more = ap (λ x. x || has_join ks j (suc i)) (there k.place f)
      where
        there : (p : ℕ) → nat_eq p (suc i) ≡ true → (nat_lt j p && nat_lt p (suc (suc i))) ≡ true
        there p f = grind (arith, nat_tests)
    by false f more = ap (λ x. is_between j (suc i) k || x) (more (ap (λ x. x || list_any (λ q. nat_eq q.place (suc i)) ks) (sym f) ∙ e)) ∙ or-true (is_between j (suc i) k)
      where
        or-true : (b : Bool) → (b || true) ≡ true
        or-true true = refl
        or-true false = refl

-- else the next place has the joins that this one has
pub joins_same : (joins : List Join) (i j : ℕ) → list_any (λ k. nat_eq k.place (suc i)) joins ≡ false → has_join joins j (suc i) ≡ has_join joins j i
joins_same [] i j e = refl
joins_same (k ∷ ks) i j e = by (nat_eq k.place (suc i)) refl (joins_same ks i j)
  where
    by : (b : Bool) → nat_eq k.place (suc i) ≡ b → (list_any (λ q. nat_eq q.place (suc i)) ks ≡ false → has_join ks j (suc i) ≡ has_join ks j i) → has_join (k ∷ ks) j (suc i) ≡ has_join (k ∷ ks) j i
    by true f more = absurd (true≢false (ap (λ x. x || list_any (λ q. nat_eq q.place (suc i)) ks) (sym f) ∙ e))
    by false f more = ap (λ x. x || has_join ks j (suc i)) (same k.place f) ∙ ap (λ x. is_between j i k || x) (more (ap (λ x. x || list_any (λ q. nat_eq q.place (suc i)) ks) (sym f) ∙ e))
      where
        same : (p : ℕ) → nat_eq p (suc i) ≡ false → (nat_lt j p && nat_lt p (suc (suc i))) ≡ (nat_lt j p && nat_lt p (suc i))
        same p f = grind (arith, nat_tests)

-- no join is between a place and the next one where none stands there
pub joins_none : (joins : List Join) (i : ℕ) → list_any (λ k. nat_eq k.place (suc i)) joins ≡ false → has_join joins i (suc i) ≡ false
joins_none [] i e = refl
joins_none (k ∷ ks) i e = by (nat_eq k.place (suc i)) refl (joins_none ks i)
  where
    by : (b : Bool) → nat_eq k.place (suc i) ≡ b → (list_any (λ q. nat_eq q.place (suc i)) ks ≡ false → has_join ks i (suc i) ≡ false) → has_join (k ∷ ks) i (suc i) ≡ false
    by true f more = absurd (true≢false (ap (λ x. x || list_any (λ q. nat_eq q.place (suc i)) ks) (sym f) ∙ e))
    by false f more = ap (λ x. x || has_join ks i (suc i)) (none k.place f) ∙ more (ap (λ x. x || list_any (λ q. nat_eq q.place (suc i)) ks) (sym f) ∙ e)
      where
        none : (p : ℕ) → nat_eq p (suc i) ≡ false → (nat_lt i p && nat_lt p (suc (suc i))) ≡ false
        none p f = grind (arith, nat_tests)

pub writer_below : (ops : List TraceOp) (i v j : ℕ) → writer ops i v ≡ Some j → j < i
writer_below ops zero v j e = let h : ⊥ = cc in absurd h
writer_below ops (suc i) v j e = by (writes_there v (slice_get ops i)) refl (writer_below ops i v j)
  where
    by : (b : Bool) → writes_there v (slice_get ops i) ≡ b → (writer ops i v ≡ Some j → j < i) → j < suc i
    by true f more = let h : Some i ≡ Some j = ap (λ x. if x then Some i else writer ops i v) (sym f) ∙ e in let k : i ≡ j = cc in omega (arith, k)
    by false f more = let h = more (ap (λ x. if x then Some i else writer ops i v) (sym f) ∙ e) in omega (arith, h)

-- symbols

abbrev pub symbol_by : ℕ → Option ℕ → Symbol
symbol_by v None = Entry v
symbol_by v (Some j) = Made j

abbrev pub place_symbol_by : ℕ → Option ℕ → Symbol
place_symbol_by v None = EntryPlace v
place_symbol_by v (Some j) = MadePlace j

symbol_behind : (ops : List TraceOp) (above : List Above) (i v : ℕ) (op : Option TraceOp) → slice_get ops i ≡ op → made_or_entry above v ≡ symbol_by v (writer ops i v) →
    made_or_entry (at_place i op above) v ≡ symbol_by v (writer ops (suc i) v)
symbol_behind ops above i v None e h = h ∙ ap (λ o. symbol_by v (if writes_there v o then Some i else writer ops i v)) (sym e)
symbol_behind ops above i v (Some op) e h = by (writes_it v op) refl ∙ ap (λ o. symbol_by v (if writes_there v o then Some i else writer ops i v)) (sym e)
  where
    by : (b : Bool) → writes_it v op ≡ b → made_or_entry (At i op ∷ above) v ≡ symbol_by v (if writes_it v op then Some i else writer ops i v)
    by true f = ap (λ x. if x then Made i else made_or_entry above v) f ∙ ap (λ x. symbol_by v (if x then Some i else writer ops i v)) (sym f)
    by false f = ap (λ x. if x then Made i else made_or_entry above v) f ∙ h ∙ ap (λ x. symbol_by v (if x then Some i else writer ops i v)) (sym f)

joined_symbol : (b : Bool) (above : List Above) (v : ℕ) → made_or_entry (join_at b above) v ≡ made_or_entry above v
joined_symbol true above v = refl
joined_symbol false above v = refl

pub symbol_law : (t : Trace) (i v : ℕ) → made_or_entry (above_of t i) v ≡ symbol_by v (writer t.ops i v)
symbol_law t zero v = joined_symbol (is_join t 0) [] v
symbol_law t (suc i) v = joined_symbol (is_join t (suc i)) (at_place i (slice_get t.ops i) (above_of t i)) v ∙ symbol_behind t.ops (above_of t i) i v (slice_get t.ops i) refl (symbol_law t i v)

place_symbol_behind : (ops : List TraceOp) (above : List Above) (i v : ℕ) (op : Option TraceOp) → slice_get ops i ≡ op → made_or_entry_place above v ≡ place_symbol_by v (writer ops i v) →
    made_or_entry_place (at_place i op above) v ≡ place_symbol_by v (writer ops (suc i) v)
place_symbol_behind ops above i v None e h = h ∙ ap (λ o. place_symbol_by v (if writes_there v o then Some i else writer ops i v)) (sym e)
place_symbol_behind ops above i v (Some op) e h = by (writes_it v op) refl ∙ ap (λ o. place_symbol_by v (if writes_there v o then Some i else writer ops i v)) (sym e)
  where
    by : (b : Bool) → writes_it v op ≡ b → made_or_entry_place (At i op ∷ above) v ≡ place_symbol_by v (if writes_it v op then Some i else writer ops i v)
    by true f = ap (λ x. if x then MadePlace i else made_or_entry_place above v) f ∙ ap (λ x. place_symbol_by v (if x then Some i else writer ops i v)) (sym f)
    by false f = ap (λ x. if x then MadePlace i else made_or_entry_place above v) f ∙ h ∙ ap (λ x. place_symbol_by v (if x then Some i else writer ops i v)) (sym f)

joined_place_symbol : (b : Bool) (above : List Above) (v : ℕ) → made_or_entry_place (join_at b above) v ≡ made_or_entry_place above v
joined_place_symbol true above v = refl
joined_place_symbol false above v = refl

pub place_symbol_law : (t : Trace) (i v : ℕ) → made_or_entry_place (above_of t i) v ≡ place_symbol_by v (writer t.ops i v)
place_symbol_law t zero v = joined_place_symbol (is_join t 0) [] v
place_symbol_law t (suc i) v = joined_place_symbol (is_join t (suc i)) (at_place i (slice_get t.ops i) (above_of t i)) v ∙ place_symbol_behind t.ops (above_of t i) i v (slice_get t.ops i) refl (place_symbol_law t i v)

-- what is known behind a join is the symbol, whoever wrote the value
known_joined : (t : Trace) (i v : ℕ) (w : Option ℕ) → ((j : ℕ) → w ≡ Some j → has_join t.joins j (suc i) ≡ true) → plain (symbol (symbol_by v w)) ≡ known_by t (suc i) v w
known_joined t i v None h = refl
known_joined t i v (Some j) h = ap (λ x. if x then plain (symbol (Made j)) else made_at t j) (sym (h j refl))

-- and where no join stands at the next place, what it is there
known_same : (t : Trace) (i v : ℕ) (w : Option ℕ) → is_join t (suc i) ≡ false → known_by t i v w ≡ known_by t (suc i) v w
known_same t i v None h = refl
known_same t i v (Some j) h = ap (λ x. if x then plain (symbol (Made j)) else made_at t j) (sym (joins_same t.joins i j h))

known_behind : (t : Trace) (i v : ℕ) (op : Option TraceOp) → slice_get t.ops i ≡ op → is_join t (suc i) ≡ false → known (above_of t i) (Held v) ≡ known_by t i v (writer t.ops i v) →
    known (at_place i op (above_of t i)) (Held v) ≡ known_by t (suc i) v (if writes_there v op then Some i else writer t.ops i v)
known_behind t i v None e n h = h ∙ known_same t i v (writer t.ops i v) n
known_behind t i v (Some op) e n h = by (writes_it v op) refl
  where
    by : (b : Bool) → writes_it v op ≡ b → (if writes_it v op then made i op (known (above_of t i)) else known (above_of t i) (Held v)) ≡ known_by t (suc i) v (if writes_it v op then Some i else writer t.ops i v)
    by true f =
        ap (λ x. if x then made i op (known (above_of t i)) else known (above_of t i) (Held v)) f
        ∙ ap (made_there t i) (sym e)
        ∙ ap (λ x. if x then plain (symbol (Made i)) else made_at t i) (sym (joins_none t.joins i n))
        ∙ ap (λ x. known_by t (suc i) v (if x then Some i else writer t.ops i v)) (sym f)
    by false f =
        ap (λ x. if x then made i op (known (above_of t i)) else known (above_of t i) (Held v)) f ∙ h ∙ known_same t i v (writer t.ops i v) n
        ∙ ap (λ x. known_by t (suc i) v (if x then Some i else writer t.ops i v)) (sym f)

pub known_law : (t : Trace) (i v : ℕ) → known (above_of t i) (Held v) ≡ known_by t i v (writer t.ops i v)
known_law t zero v = by (is_join t 0)
  where
    by : (b : Bool) → known (join_at b []) (Held v) ≡ plain (symbol (Entry v))
    by true = refl
    by false = refl
known_law t (suc i) v = by (is_join t (suc i)) refl (known_law t i v)
  where
    by : (b : Bool) → is_join t (suc i) ≡ b → known (above_of t i) (Held v) ≡ known_by t i v (writer t.ops i v) → known (join_at (is_join t (suc i)) (at_place i (slice_get t.ops i) (above_of t i))) (Held v) ≡ known_by t (suc i) v (writer t.ops (suc i) v)
    by true f more =
        ap (λ x. known (join_at x (at_place i (slice_get t.ops i) (above_of t i))) (Held v)) f
        ∙ ap (λ x. plain (symbol x)) (symbol_behind t.ops (above_of t i) i v (slice_get t.ops i) refl (symbol_law t i v))
        ∙ known_joined t i v (writer t.ops (suc i) v) (λ j e. joins_there t.joins i j (let h = writer_below t.ops (suc i) v j e in omega (arith, h)) f)
    by false f more =
        ap (λ x. known (join_at x (at_place i (slice_get t.ops i) (above_of t i))) (Held v)) f
        ∙ known_behind t i v (slice_get t.ops i) refl f more

-- the same of places

index_joined : (t : Trace) (i v : ℕ) (w : Option ℕ) → ((j : ℕ) → w ≡ Some j → has_join t.joins j (suc i) ≡ true) → symbol (place_symbol_by v w) ≡ index_by t (suc i) v w
index_joined t i v None h = refl
index_joined t i v (Some j) h = ap (λ x. if x then symbol (MadePlace j) else index_there t j (slice_get t.ops j)) (sym (h j refl))

index_same : (t : Trace) (i v : ℕ) (w : Option ℕ) → is_join t (suc i) ≡ false → index_by t i v w ≡ index_by t (suc i) v w
index_same t i v None h = refl
index_same t i v (Some j) h = ap (λ x. if x then symbol (MadePlace j) else index_there t j (slice_get t.ops j)) (sym (joins_same t.joins i j h))

index_behind : (t : Trace) (i v : ℕ) (op : Option TraceOp) → slice_get t.ops i ≡ op → is_join t (suc i) ≡ false → index_of (above_of t i) (Held v) ≡ index_by t i v (writer t.ops i v) →
    index_of (at_place i op (above_of t i)) (Held v) ≡ index_by t (suc i) v (if writes_there v op then Some i else writer t.ops i v)
index_behind t i v None e n h = h ∙ index_same t i v (writer t.ops i v) n
index_behind t i v (Some op) e n h = by (writes_it v op) refl
  where
    by : (b : Bool) → writes_it v op ≡ b → (if writes_it v op then index_made i op (above_of t i) else index_of (above_of t i) (Held v)) ≡ index_by t (suc i) v (if writes_it v op then Some i else writer t.ops i v)
    by true f =
        ap (λ x. if x then index_made i op (above_of t i) else index_of (above_of t i) (Held v)) f
        ∙ ap (index_there t i) (sym e)
        ∙ ap (λ x. if x then symbol (MadePlace i) else index_there t i (slice_get t.ops i)) (sym (joins_none t.joins i n))
        ∙ ap (λ x. index_by t (suc i) v (if x then Some i else writer t.ops i v)) (sym f)
    by false f =
        ap (λ x. if x then index_made i op (above_of t i) else index_of (above_of t i) (Held v)) f ∙ h ∙ index_same t i v (writer t.ops i v) n
        ∙ ap (λ x. index_by t (suc i) v (if x then Some i else writer t.ops i v)) (sym f)

pub index_law : (t : Trace) (i v : ℕ) → index_of (above_of t i) (Held v) ≡ index_by t i v (writer t.ops i v)
index_law t zero v = by (is_join t 0)
  where
    by : (b : Bool) → index_of (join_at b []) (Held v) ≡ symbol (EntryPlace v)
    by true = refl
    by false = refl
index_law t (suc i) v = by (is_join t (suc i)) refl (index_law t i v)
  where
    by : (b : Bool) → is_join t (suc i) ≡ b → index_of (above_of t i) (Held v) ≡ index_by t i v (writer t.ops i v) → index_of (join_at (is_join t (suc i)) (at_place i (slice_get t.ops i) (above_of t i))) (Held v) ≡ index_by t (suc i) v (writer t.ops (suc i) v)
    by true f more =
        ap (λ x. index_of (join_at x (at_place i (slice_get t.ops i) (above_of t i))) (Held v)) f
        ∙ ap symbol (place_symbol_behind t.ops (above_of t i) i v (slice_get t.ops i) refl (place_symbol_law t i v))
        ∙ index_joined t i v (writer t.ops (suc i) v) (λ j e. joins_there t.joins i j (let h = writer_below t.ops (suc i) v j e in omega (arith, h)) f)
    by false f more =
        ap (λ x. index_of (join_at x (at_place i (slice_get t.ops i) (above_of t i))) (Held v)) f
        ∙ index_behind t i v (slice_get t.ops i) refl f more

-- all forms are those from the first operation on
pub all_forms : (t : Trace) → forms_from t 0 t.ops ≡ forms_of t
unfolding forms_of
all_forms t = refl

-- what is known, by the answer of the search

pub known_none : (t : Trace) (i v : ℕ) (w : Option ℕ) → w ≡ writer t.ops i v → w ≡ None → plain (symbol (Entry v)) ≡ known (above_of t i) (Held v)
known_none t i v w e h = ap (known_by t i v) (sym h ∙ e) ∙ sym (known_law t i v)

pub known_symbol : (t : Trace) (i v j : ℕ) (w : Option ℕ) → w ≡ writer t.ops i v → w ≡ Some j → has_join t.joins j i ≡ true → plain (symbol (Made j)) ≡ known (above_of t i) (Held v)
known_symbol t i v j w e h k = ap (λ b. if b then plain (symbol (Made j)) else made_at t j) (sym k) ∙ ap (known_by t i v) (sym h ∙ e) ∙ sym (known_law t i v)

pub known_made : (t : Trace) (i v j : ℕ) (w : Option ℕ) → w ≡ writer t.ops i v → w ≡ Some j → has_join t.joins j i ≡ false → made_at t j ≡ known (above_of t i) (Held v)
known_made t i v j w e h k = ap (λ b. if b then plain (symbol (Made j)) else made_at t j) (sym k) ∙ ap (known_by t i v) (sym h ∙ e) ∙ sym (known_law t i v)

pub index_none : (t : Trace) (i v : ℕ) (w : Option ℕ) → w ≡ writer t.ops i v → w ≡ None → symbol (EntryPlace v) ≡ index_of (above_of t i) (Held v)
index_none t i v w e h = ap (index_by t i v) (sym h ∙ e) ∙ sym (index_law t i v)

pub index_symbol : (t : Trace) (i v j : ℕ) (w : Option ℕ) → w ≡ writer t.ops i v → w ≡ Some j → has_join t.joins j i ≡ true → symbol (MadePlace j) ≡ index_of (above_of t i) (Held v)
index_symbol t i v j w e h k = ap (λ b. if b then symbol (MadePlace j) else index_there t j (slice_get t.ops j)) (sym k) ∙ ap (index_by t i v) (sym h ∙ e) ∙ sym (index_law t i v)

pub index_found : (t : Trace) (i v j : ℕ) (w : Option ℕ) → w ≡ writer t.ops i v → w ≡ Some j → has_join t.joins j i ≡ false → index_there t j (slice_get t.ops j) ≡ index_of (above_of t i) (Held v)
index_found t i v j w e h k = ap (λ b. if b then symbol (MadePlace j) else index_there t j (slice_get t.ops j)) (sym k) ∙ ap (index_by t i v) (sym h ∙ e) ∙ sym (index_law t i v)

pub found_below : (ops : List TraceOp) (i v j : ℕ) (w : Option ℕ) → w ≡ writer ops i v → w ≡ Some j → j < i
found_below ops i v j w e h = writer_below ops i v j (sym e ∙ h)

-- from operation to operation

-- what stands at a place, by what is left from there on
pub record AtDrop {A : Type 0} (xs ys : List A) (n : ℕ) (x : A) : Type 0 where
  pub get : slice_get xs n ≡ Some x
  pub rest : drop (n + 1) xs ≡ ys
  pub below : n < length xs

pub at_drop : {A : Type 0} (xs ys : List A) (n : ℕ) (x : A) → drop n xs ≡ x ∷ ys → AtDrop xs ys n x
at_drop xs ys n x e =
    let long : n < length xs = omega (arith, length-drop n xs, ap length e) in
    let both : get_or xs n x ∷ drop (suc n) xs ≡ x ∷ ys = sym (drop-cons xs n x long) ∙ e in
    let head : get_or xs n x ≡ x = cc in
    let tail : drop (suc n) xs ≡ ys = cc in
    let next : suc n ≡ n + 1 = omega arith in
    record {
      get = slice_get-get_or xs n x long ∙ ap Some head;
      rest = ap (λ k. drop k xs) (sym next) ∙ tail;
      below = long;
    }

-- an entry of a longer list is one of the list, or the last
pub of_longer : {A : Type 0} (xs : List A) (y : A) (j : ℕ) (k : A) → slice_get (xs ++ y ∷ []) j ≡ Some k → (slice_get xs j ≡ Some k) ⊎ ((j ≡ length xs) × (k ≡ y))
of_longer [] y zero k e = let h : k ≡ y = cc in inr (refl, h)
of_longer [] y (suc j) k e = let h : ⊥ = cc in absurd h
of_longer (x ∷ xs) y zero k e = inl e
of_longer (x ∷ xs) y (suc j) k e = by (of_longer xs y j k e)
  where
    by : (slice_get xs j ≡ Some k) ⊎ ((j ≡ length xs) × (k ≡ y)) → (slice_get xs j ≡ Some k) ⊎ ((suc j ≡ suc (length xs)) × (k ≡ y))
    by (inl h) = inl h
    by (inr (h, i)) = inr (ap suc h, i)
