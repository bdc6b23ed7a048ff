-- What becomes of the notes of a loop as more is noted.
use Rattle.std.proofs.Common.{◌≡◌, ℕ, ◌+◌, ◌-◌, ◌<◌, ◌≤◌, ◌^◌, Bool, true, false, List, [], ◌∷◌, ◌++◌, Option, Some, None, length, get_or, take, slice_index_or, slice_set, slice_get, refl, sym, ap, subst, ◌∙◌, arith, eq-eqb, eqb-true}
use Rattle.std.specs.Prelude.{◌==◌, ◌&&◌, ◌||◌, if◌then◌else◌, min, nat_lt, replicate}
use Rattle.std.specs.List.{flat_map}
use Rattle.std.proofs.lemmas.Bool.{false≢true}
use Rattle.std.proofs.lemmas.Bool.Decides.{nat_tests}
use Rattle.std.proofs.lemmas.List.{append-nil, append_assoc, flat_map_more, take_all, take_more, get_or_read, length-set, get_or-set_same, get_or-set_other, get_or-replicate, get_or_past, length-replicate}
use Rattle.std.proofs.lemmas.Grind.{flat_map-append}
use Rattle.std.proofs.lemmas.Option.{slice_get-get_or, slice_get_past}
use Rattle.vx_flow.specs.declared.graph.Operand.{Operand}
use Rattle.vx_flow.specs.declared.graph.Op.{Op}
use Rattle.vx_flow.specs.declared.graph.Exit.{Exit}
use Rattle.vx_flow.specs.declared.graph.Exit.TheVariants.{Call}
use Rattle.vx_flow.specs.Effects.{writes}
use Rattle.vx_flow.specs.Operands.{value_list, written_by}
use Rattle.vx_flow.proofs.OperandLaws.{writes_are}
use Rattle.vx_flow.specs.Sound.{results_of_exit}
use Rattle.vx_flow.specs.declared.graph.Block.{Block}
use Rattle.vx_loops.specs.declared.notes.Loops.{Loops}
use Rattle.vx_loops.specs.Order.{times_in}
use Rattle.vx_loops.specs.Past.{NamesPast, counted_again}
use Rattle.vx_loops.specs.Noted.{calls_at, calls_in, is_call, is_inside, is_number, is_written, is_written_once, LooksAt, Notes, NotesIn, NotesOf, stands, stores_at, stores_in, stores_of, writes_at, writes_in}
use Rattle.vx_loops.proofs.Orders.{below_or_not, same_or_not, times_more_other, times_more_same}

-- rows

pub past_put : (number p : ℕ) (row : List ℕ) → p < length row → NamesPast number row → NamesPast number (slice_set row p number)
past_put number p row there h k lt = same_or_not k p
    (λ e. let q : slice_index_or (slice_set row p number) k 0 ≡ number = ap (λ z. slice_index_or (slice_set row p number) z 0) e ∙ get_or-set_same row p number 0 there in absurd (omega arith))
    (λ n. let q : slice_index_or (slice_set row p number) k 0 ≡ slice_index_or row k 0 = get_or-set_other row p k number 0 n in q ∙ h k (omega arith))

pub past_later : (number later : ℕ) (row : List ℕ) → number ≤ later → NamesPast number row → NamesPast later row
past_later number later row le h k lt = h k (omega arith)

pub past_none : (n : ℕ) → NamesPast 0 (replicate n (2 ^ 64 - 1))
past_none n k lt = below_or_not k n (λ b. get_or-replicate n k (2 ^ 64 - 1) 0 b) (λ le. let q : slice_index_or (replicate n (2 ^ 64 - 1)) k 0 ≡ 0 = get_or_past (replicate n (2 ^ 64 - 1)) k 0 (let e : length (replicate n (2 ^ 64 - 1)) ≡ n = length-replicate n (2 ^ 64 - 1) in omega arith) in absurd (omega arith))

stands_put : (row : List ℕ) (n p q : ℕ) → p < length row → q ≡ p → stands (slice_set row p n) n q ≡ true
stands_put row n p q there e = eq-eqb (slice_index_or (slice_set row p n) q 0) n (ap (λ z. slice_index_or (slice_set row p n) z 0) e ∙ get_or-set_same row p n 0 there)

stands_other : (row : List ℕ) (n p q : ℕ) → (q ≡ p → ⊥) → stands (slice_set row p n) n q ≡ stands row n q
stands_other row n p q ne = ap (λ z. z == n) (get_or-set_other row p q n 0 ne)

more_than_none : (k m : ℕ) → k ≡ m + 1 → nat_lt 0 k ≡ true
more_than_none k m e = grind (arith, nat_tests)

none_of : (k : ℕ) → nat_lt 0 k ≡ false → k ≡ 0
none_of k e = grind (arith, nat_tests)

noted_more : (row : List ℕ) (n p : ℕ) (xs : List ℕ) → ((v : ℕ) → v < length row → stands row n v ≡ nat_lt 0 (times_in v xs)) →
    (v : ℕ) → v < length (slice_set row p n) → stands (slice_set row p n) n v ≡ nat_lt 0 (times_in v (xs ++ p ∷ []))
noted_more row n p xs h v lt =
    let below : v < length row = subst (λ z. v < z) (length-set row p n) lt in
    same_or_not v p
    (λ e. stands_put row n p v (subst (λ z. z < length row) e below) e ∙ sym (more_than_none (times_in v (xs ++ p ∷ [])) (times_in v xs) (times_more_same v p xs e)))
    (λ ne. stands_other row n p v ne ∙ h v below ∙ ap (nat_lt 0) (sym (times_more_other v p xs ne)))

noted_past : (row : List ℕ) (n p : ℕ) (xs : List ℕ) → length row ≤ p → ((v : ℕ) → v < length row → stands row n v ≡ nat_lt 0 (times_in v xs)) →
    (v : ℕ) → v < length row → stands row n v ≡ nat_lt 0 (times_in v (xs ++ p ∷ []))
noted_past row n p xs past h v lt = h v lt ∙ ap (nat_lt 0) (sym (times_more_other v p xs (λ e. absurd (omega arith))))

counted_more : (writers times : List ℕ) (n p : ℕ) (w : List ℕ) (x : ℕ) → length times ≡ length writers → p < length writers → x ≡ counted_again (slice_index_or times p 0) (stands writers n p) →
    ((v : ℕ) → v < length writers → stands writers n v ≡ nat_lt 0 (times_in v w)) → ((v : ℕ) → v < length writers → stands writers n v ≡ true → slice_index_or times v 0 ≡ min (times_in v w) (2 ^ 32 - 1)) →
    (v : ℕ) → v < length (slice_set writers p n) → stands (slice_set writers p n) n v ≡ true → slice_index_or (slice_set times p x) v 0 ≡ min (times_in v (w ++ p ∷ [])) (2 ^ 32 - 1)
counted_more writers times n p w x same there is h counts v lt stood =
    let below : v < length writers = subst (λ z. v < z) (length-set writers p n) lt in
    same_or_not v p
    (λ e. ap (λ z. slice_index_or (slice_set times p x) z 0) e ∙ get_or-set_same times p x 0 (omega arith) ∙ by (stands writers n p) refl ∙ ap (λ z. min z (2 ^ 32 - 1)) (sym (ap (λ z. times_in z (w ++ p ∷ [])) e ∙ times_more_same p p w refl)))
    (λ ne. get_or-set_other times p v x 0 ne ∙ counts v below (sym (stands_other writers n p v ne) ∙ stood) ∙ ap (λ z. min z (2 ^ 32 - 1)) (sym (times_more_other v p w ne)))
  where
    by : (t : Bool) → stands writers n p ≡ t → x ≡ min (times_in p w + 1) (2 ^ 32 - 1)
    by true e = let q : x ≡ min (slice_index_or times p 0 + 1) (2 ^ 32 - 1) = is ∙ ap (counted_again (slice_index_or times p 0)) e in let k : slice_index_or times p 0 ≡ min (times_in p w) (2 ^ 32 - 1) = counts p there e in omega arith
    by false e = let q : x ≡ 1 = is ∙ ap (counted_again (slice_index_or times p 0)) e in let k : times_in p w ≡ 0 = none_of (times_in p w) (sym (h p there) ∙ e) in omega arith

-- what stands in a row where it is read

pub stands_there : (behind : Bool) (row read : List ℕ) (place x number : ℕ) → read ≡ row → slice_get read place ≡ Some x → (x == number) ≡ is_number behind (slice_get row place) number
stands_there behind row read place x number same there = sym (ap (λ (z : List ℕ). is_number behind (slice_get z place) number) (sym same) ∙ ap (λ z. is_number behind z number) there)

pub stands_past : (behind : Bool) (row read : List ℕ) (place number : ℕ) → read ≡ row → slice_get read place ≡ None → behind ≡ is_number behind (slice_get row place) number
stands_past behind row read place number same past = sym (ap (λ (z : List ℕ). is_number behind (slice_get z place) number) (sym same) ∙ ap (λ z. is_number behind z number) past)

-- notes

module _ {m w s : List ℕ} {c : Bool} {n : ℕ} {members writers times stores : List ℕ} {call : ℕ} (h : NotesIn m w s c n members writers times stores call) where
  pub member_noted : (b : ℕ) → b < length members → stands members n b ≡ false → NotesIn (m ++ b ∷ []) w s c n (slice_set members b n) writers times stores call
  member_noted b there new = record {
    inside = λ q lt. same_or_not q b
        (λ e. (let k : times_in q m ≡ 0 = h.inside q (subst (λ z. q < z) (length-set members b n) lt) ∙ ap (λ z. if z then 1 else 0) (ap (stands members n) e ∙ new) in let t : times_in q (m ++ b ∷ []) ≡ times_in q m + 1 = times_more_same q b m e in let o : times_in q (m ++ b ∷ []) ≡ 1 = omega arith in o) ∙ ap (λ z. if z then 1 else 0) (sym (stands_put members n b q there e)))
        (λ ne. times_more_other q b m ne ∙ h.inside q (subst (λ z. q < z) (length-set members b n) lt) ∙ ap (λ z. if z then 1 else 0) (sym (stands_other members n b q ne)));
    outside = λ q le. let past : length members ≤ q = subst (λ z. z ≤ q) (length-set members b n) le in times_more_other q b m (λ e. absurd (omega arith)) ∙ h.outside q past;
    writes = h.writes;
    counts = h.counts;
    stores = h.stores;
    calls = h.calls;
  }

  pub write_noted : (p x : ℕ) → length times ≡ length writers → p < length writers → x ≡ counted_again (slice_index_or times p 0) (stands writers n p) → NotesIn m (w ++ p ∷ []) s c n members (slice_set writers p n) (slice_set times p x) stores call
  write_noted p x same there is = record {
    inside = h.inside;
    outside = h.outside;
    writes = noted_more writers n p w h.writes;
    counts = counted_more writers times n p w x same there is h.writes h.counts;
    stores = h.stores;
    calls = h.calls;
  }

  pub write_past : (p : ℕ) → length writers ≤ p → NotesIn m (w ++ p ∷ []) s c n members writers times stores call
  write_past p past = record {
    inside = h.inside;
    outside = h.outside;
    writes = noted_past writers n p w past h.writes;
    counts = λ v lt stood. h.counts v lt stood ∙ ap (λ z. min z (2 ^ 32 - 1)) (sym (times_more_other v p w (λ e. absurd (omega arith))));
    stores = h.stores;
    calls = h.calls;
  }

  pub store_noted : (p : ℕ) → NotesIn m w (s ++ p ∷ []) c n members writers times (slice_set stores p n) call
  store_noted p = record {
    inside = h.inside;
    outside = h.outside;
    writes = h.writes;
    counts = h.counts;
    stores = noted_more stores n p s h.stores;
    calls = h.calls;
  }

  pub store_past : (p : ℕ) → length stores ≤ p → NotesIn m w (s ++ p ∷ []) c n members writers times stores call
  store_past p past = record {
    inside = h.inside;
    outside = h.outside;
    writes = h.writes;
    counts = h.counts;
    stores = noted_past stores n p s past h.stores;
    calls = h.calls;
  }

  pub call_noted : NotesIn m w s true n members writers times stores n
  call_noted = record {
    inside = h.inside;
    outside = h.outside;
    writes = h.writes;
    counts = h.counts;
    stores = h.stores;
    calls = eq-eqb n n refl;
  }

-- nothing is noted at first

nothing_stands : (row : List ℕ) (n q : ℕ) → row ≡ replicate n (2 ^ 64 - 1) → q < length row → stands row 0 q ≡ false
nothing_stands row n q e lt =
    let size : length row ≡ n = ap length e ∙ length-replicate n (2 ^ 64 - 1) in
    let below : q < n = omega (arith, size, lt) in
    ap (λ (z : List ℕ). slice_index_or z q 0 == 0) e ∙ ap (λ z. z == 0) (get_or-replicate n q (2 ^ 64 - 1) 0 below)

pub nothing_noted : (members writers times stores : List ℕ) (b v a : ℕ) → members ≡ replicate b (2 ^ 64 - 1) → writers ≡ replicate v (2 ^ 64 - 1) → stores ≡ replicate a (2 ^ 64 - 1) → NotesIn [] [] [] false 0 members writers times stores (2 ^ 64 - 1)
nothing_noted members writers times stores b v a m w s = record {
  inside = λ q lt. ap (λ z. if z then 1 else 0) (sym (nothing_stands members b q m lt));
  outside = λ q le. refl;
  writes = λ q lt. nothing_stands writers v q w lt;
  counts = λ q lt stood. absurd (false≢true (sym (nothing_stands writers v q w lt) ∙ stood));
  stores = λ q lt. nothing_stands stores a q s lt;
  calls = refl;
}

no_stand : (number next : ℕ) (row : List ℕ) → number < next → next < 2 ^ 64 - 1 → NamesPast number row → (k : ℕ) → stands row next k ≡ false
no_stand number next row more few h k = by (stands row next k) refl
  where
    by : (t : Bool) → stands row next k ≡ t → stands row next k ≡ false
    by false e = e
    by true e = let q : slice_index_or row k 0 ≡ next = eqb-true (slice_index_or row k 0) next e in let p : slice_index_or row k 0 ≡ 2 ^ 64 - 1 = h k (omega arith) in absurd (omega arith)

none_called : (number next call : ℕ) → number < next → next < 2 ^ 64 - 1 → (number < call → call ≡ 2 ^ 64 - 1) → (call == next) ≡ false
none_called number next call more few h = by (call == next) refl
  where
    by : (t : Bool) → (call == next) ≡ t → (call == next) ≡ false
    by false e = e
    by true e = let q : call ≡ next = eqb-true call next e in let p : call ≡ 2 ^ 64 - 1 = h (omega arith) in absurd (omega arith)

-- a loop that is begun
pub begun : (number next : ℕ) (members writers times stores : List ℕ) (call : ℕ) → number < next → next < 2 ^ 64 - 1 → NamesPast number members → NamesPast number writers → NamesPast number stores → (number < call → call ≡ 2 ^ 64 - 1) → NotesIn [] [] [] false next members writers times stores call
begun number next members writers times stores call more few ms ws ss cs = record {
  inside = λ b lt. ap (λ z. if z then 1 else 0) (sym (no_stand number next members more few ms b));
  outside = λ b le. refl;
  writes = λ v lt. no_stand number next writers more few ws v;
  counts = λ v lt stood. let e : false ≡ true = sym (no_stand number next writers more few ws v) ∙ stood in absurd (cc);
  stores = λ a lt. no_stand number next stores more few ss a;
  calls = none_called number next call more few cs;
}

pub not_inside : (l : Loops) (b : ℕ) → b < length l.members.items → is_inside l b ≡ false → stands l.members.items l.number b ≡ false
not_inside l b lt e = sym (ap (λ o. is_number false o l.number) (slice_get-get_or l.members.items b 0 lt)) ∙ e

-- what was read of the rows
pub again_is : (writers times : List ℕ) (n p last before x : ℕ) → p < length writers → length times ≡ length writers → last ≡ slice_index_or writers p last → before ≡ slice_index_or times p before → x ≡ counted_again before (last == n) → x ≡ counted_again (slice_index_or times p 0) (stands writers n p)
again_is writers times n p last before x lt same a b e =
    e ∙ ap (λ z. counted_again z (last == n)) (get_or_read times p before (omega arith) b 0) ∙ ap (λ z. counted_again (slice_index_or times p 0) (z == n)) (get_or_read writers p last lt a 0)

-- operations and exits

pub op_noted : (m w s : List ℕ) (c : Bool) (l : Loops) (op : Op) (v a : Option ℕ) → v ≡ written_by op → value_list a ≡ stores_of op → Notes m (w ++ value_list v) (s ++ value_list a) c l → Notes m (w ++ writes op) (s ++ stores_of op) c l
op_noted m w s c l op v a e f h =
    subst (λ z. Notes m (w ++ writes op) (s ++ z) c l) f (subst (λ z. Notes m (w ++ z) (s ++ value_list a) c l) (ap value_list e ∙ writes_are op) h)

pub some_written : (m w s : List ℕ) (c : Bool) (l : Loops) (value : Option ℕ) (v : ℕ) → value ≡ Some v → Notes m (w ++ v ∷ []) s c l → Notes m (w ++ value_list value) s c l
some_written m w s c l value v e h = subst (λ z. Notes m (w ++ value_list z) s c l) (sym e) h

pub none_written : (m w s : List ℕ) (c : Bool) (l : Loops) (value : Option ℕ) → value ≡ None → Notes m w s c l → Notes m (w ++ value_list value) s c l
none_written m w s c l value e h = subst (λ z. Notes m (w ++ value_list z) s c l) (sym e) (subst (λ z. Notes m z s c l) (sym (append-nil w)) h)

pub some_stored : (m w s : List ℕ) (c : Bool) (l : Loops) (array : Option ℕ) (a : ℕ) → array ≡ Some a → Notes m w (s ++ a ∷ []) c l → Notes m w (s ++ value_list array) c l
some_stored m w s c l array a e h = subst (λ z. Notes m w (s ++ value_list z) c l) (sym e) h

pub none_stored : (m w s : List ℕ) (c : Bool) (l : Loops) (array : Option ℕ) → array ≡ None → Notes m w s c l → Notes m w (s ++ value_list array) c l
none_stored m w s c l array e h = subst (λ z. Notes m w (s ++ value_list z) c l) (sym e) (subst (λ z. Notes m w z c l) (sym (append-nil s)) h)

or_true : (c : Bool) → true ≡ (c || true)
or_true true = refl
or_true false = refl

or_false : (c : Bool) → c ≡ (c || false)
or_false true = refl
or_false false = refl

result_is : (f : ℕ) (arguments : List Operand) (held : Option ℕ) (next : ℕ) → value_list held ≡ results_of_exit (Call f arguments held next)
result_is f arguments None next = refl
result_is f arguments (Some v) next = refl

pub exit_called : (m w s : List ℕ) (c : Bool) (l : Loops) (exit : Exit) (f : ℕ) (arguments : List Operand) (held : Option ℕ) (next : ℕ) → exit ≡ Call f arguments held next → Notes m (w ++ value_list held) s true l → Notes m (w ++ results_of_exit exit) s (c || is_call exit) l
exit_called m w s c l exit f arguments held next e h =
    subst (λ z. Notes m (w ++ results_of_exit z) s (c || is_call z) l) (sym e) (subst (λ z. Notes m (w ++ z) s (c || true) l) (result_is f arguments held next) (subst (λ z. Notes m (w ++ value_list held) s z l) (or_true c) h))

pub exit_quiet : (m w s : List ℕ) (c : Bool) (l : Loops) (exit made : Exit) → exit ≡ made → results_of_exit made ≡ [] → is_call made ≡ false → Notes m w s c l → Notes m (w ++ results_of_exit exit) s (c || is_call exit) l
exit_quiet m w s c l exit made e r k h =
    subst (λ z. Notes m (w ++ results_of_exit z) s (c || is_call z) l) (sym e) (subst (λ z. Notes m (w ++ z) s (c || is_call made) l) (sym r) (subst (λ z. Notes m (w ++ []) s (c || z) l) (sym k) (subst (λ z. Notes m (w ++ []) s z l) (or_false c) (subst (λ z. Notes m z s c l) (sym (append-nil w)) h))))

pub block_parts : (m w s : List ℕ) (c : Bool) (l : Loops) (xs ys : List ℕ) → Notes m (w ++ xs ++ ys) s c l → Notes m (w ++ (xs ++ ys)) s c l
block_parts m w s c l xs ys h = subst (λ z. Notes m z s c l) (append_assoc w xs ys) h

pub found_noted : (m w s : List ℕ) (c : Bool) (l : Loops) (found made : Option Block) → found ≡ made → Notes m (w ++ writes_at made) (s ++ stores_at made) (c || calls_at made) l → Notes m (w ++ writes_at found) (s ++ stores_at found) (c || calls_at found) l
found_noted m w s c l found made e h = subst (λ z. Notes m (w ++ writes_at z) (s ++ stores_at z) (c || calls_at z) l) (sym e) h

-- one operation more
pub ops_noted : (m w s : List ℕ) (c : Bool) (l : Loops) (ops : List Op) (i : ℕ) (d : Op) → i < length ops → Notes m (w ++ flat_map writes (take i ops) ++ writes (get_or ops i d)) (s ++ flat_map stores_of (take i ops) ++ stores_of (get_or ops i d)) c l → Notes m (w ++ flat_map writes (take (i + 1) ops)) (s ++ flat_map stores_of (take (i + 1) ops)) c l
ops_noted m w s c l ops i d lt h =
    subst (λ z. Notes m z (s ++ flat_map stores_of (take (i + 1) ops)) c l) (more writes w) (subst (λ z. Notes m (w ++ flat_map writes (take i ops) ++ writes (get_or ops i d)) z c l) (more stores_of s) h)
  where
    more : (f : Op → List ℕ) (xs : List ℕ) → xs ++ flat_map f (take i ops) ++ f (get_or ops i d) ≡ xs ++ flat_map f (take (i + 1) ops)
    more f xs = flat_map_more f xs (take i ops) (get_or ops i d) ∙ ap (λ z. xs ++ flat_map f z) (sym (take_more ops i d lt))

pub ops_all : (m w s : List ℕ) (c : Bool) (l : Loops) (ops : List Op) (i : ℕ) → length ops ≤ i → Notes m (w ++ flat_map writes (take i ops)) (s ++ flat_map stores_of (take i ops)) c l → Notes m (w ++ flat_map writes ops) (s ++ flat_map stores_of ops) c l
ops_all m w s c l ops i le h = subst (λ z. Notes m (w ++ flat_map writes z) (s ++ flat_map stores_of z) c l) (take_all i ops le) h

-- the notes of blocks

pub calls_append : (blocks : List Block) (xs : List ℕ) (b : ℕ) → calls_in blocks (xs ++ b ∷ []) ≡ (calls_in blocks xs || calls_at (slice_get blocks b))
calls_append blocks [] b = by (calls_at (slice_get blocks b))
  where
    by : (t : Bool) → (t || false) ≡ t
    by true = refl
    by false = refl
calls_append blocks (x ∷ xs) b = ap (λ z. calls_at (slice_get blocks x) || z) (calls_append blocks xs b) ∙ by (calls_at (slice_get blocks x)) (calls_in blocks xs) (calls_at (slice_get blocks b))
  where
    by : (a d e : Bool) → (a || (d || e)) ≡ ((a || d) || e)
    by true d e = refl
    by false d e = refl

one_more : {A : Type 0} (f : ℕ → List A) (xs : List ℕ) (b : ℕ) → flat_map f xs ++ f b ≡ flat_map f (xs ++ b ∷ [])
one_more f xs b = ap (λ z. flat_map f xs ++ z) (sym (append-nil (f b))) ∙ sym (flat_map-append f xs (b ∷ []))

pub block_noted : (blocks : List Block) (members : List ℕ) (b : ℕ) (l : Loops) →
    Notes (members ++ b ∷ []) (writes_in blocks members ++ writes_at (slice_get blocks b)) (stores_in blocks members ++ stores_at (slice_get blocks b)) (calls_in blocks members || calls_at (slice_get blocks b)) l → NotesOf blocks (members ++ b ∷ []) l
block_noted blocks members b l h =
    subst (λ z. Notes (members ++ b ∷ []) z (stores_in blocks (members ++ b ∷ [])) (calls_in blocks (members ++ b ∷ [])) l) (one_more (λ x. writes_at (slice_get blocks x)) members b)
    (subst (λ z. Notes (members ++ b ∷ []) (writes_in blocks members ++ writes_at (slice_get blocks b)) z (calls_in blocks (members ++ b ∷ [])) l) (one_more (λ x. stores_at (slice_get blocks x)) members b)
    (subst (λ z. Notes (members ++ b ∷ []) (writes_in blocks members ++ writes_at (slice_get blocks b)) (stores_in blocks members ++ stores_at (slice_get blocks b)) z l) (sym (calls_append blocks members b)) h))

pub nothing_more : (m w s : List ℕ) (c : Bool) (l : Loops) → Notes m w s c l → Notes m (w ++ []) (s ++ []) (c || false) l
nothing_more m w s c l h = subst (λ z. Notes m z (s ++ []) (c || false) l) (sym (append-nil w)) (subst (λ z. Notes m w z (c || false) l) (sym (append-nil s)) (subst (λ z. Notes m w s z l) (sym (by c)) h))
  where
    by : (t : Bool) → (t || false) ≡ t
    by true = refl
    by false = refl

-- what the notes tell

once : (k : ℕ) → (min k (2 ^ 32 - 1) == 1) ≡ (k == 1)
once k = by (k == 1) refl
  where
    by : (t : Bool) → (k == 1) ≡ t → (min k (2 ^ 32 - 1) == 1) ≡ (k == 1)
    by true e = grind (arith, nat_tests)
    by false e = grind (arith, nat_tests)

pub looks : (blocks : List Block) (members : List ℕ) (l : Loops) → NotesOf blocks members l → LooksAt blocks l
looks blocks members l h = record {
  members = members;
  inside = λ b. below_or_not b (length l.members.items)
      (λ lt. h.inside b lt ∙ ap (λ o. if is_number false o l.number then 1 else 0) (sym (slice_get-get_or l.members.items b 0 lt)))
      (λ le. h.outside b le ∙ ap (λ o. if is_number false o l.number then 1 else 0) (sym (slice_get_past l.members.items b le)));
  writes = λ v lt. written v lt ∙ h.writes v lt;
  writes_once = λ v lt. by v lt (stands l.writers.items l.number v) refl;
  stores = λ a lt. ap (λ o. is_number true o l.number) (slice_get-get_or l.stores.items a 0 lt) ∙ h.stores a lt;
  calls = h.calls;
}
  where
    written : (v : ℕ) → v < length l.writers.items → is_written l v ≡ stands l.writers.items l.number v
    written v lt = ap (λ o. is_number true o l.number) (slice_get-get_or l.writers.items v 0 lt)

    counted : (v : ℕ) → v < length l.writers.items → is_number false (slice_get l.times.items v) 1 ≡ (slice_index_or l.times.items v 0 == 1)
    counted v lt = ap (λ o. is_number false o 1) (slice_get-get_or l.times.items v 0 (let e : length l.times.items ≡ length l.writers.items = l.timed in omega arith))

    and_true : (t : Bool) → (t && true) ≡ t
    and_true true = refl
    and_true false = refl

    and_false : (t : Bool) → (t && false) ≡ false
    and_false true = refl
    and_false false = refl

    by : (v : ℕ) → v < length l.writers.items → (t : Bool) → stands l.writers.items l.number v ≡ t → is_written_once l v ≡ (times_in v (writes_in blocks members) == 1)
    by v lt true e =
        ap (λ z. is_number false (slice_get l.times.items v) 1 && z) (written v lt ∙ e) ∙ and_true (is_number false (slice_get l.times.items v) 1) ∙ counted v lt ∙ ap (λ z. z == 1) (h.counts v lt e) ∙ once (times_in v (writes_in blocks members))
    by v lt false e =
        ap (λ z. is_number false (slice_get l.times.items v) 1 && z) (written v lt ∙ e) ∙ and_false (is_number false (slice_get l.times.items v) 1) ∙ ap (λ z. z == 1) (sym (none_of (times_in v (writes_in blocks members)) (sym (h.writes v lt) ∙ e)))
