-- One operation of a word: what it does to values, arrays, input and output, the operation that carries it does to registers,
-- memory, input and output.
use Rattle.std.proofs.Common.{◌≡◌, ◌≢◌, ◌<◌, ◌≤◌, ◌⊎◌, inl, inr, ◌+◌, ◌*◌, ◌^◌, ℕ, zero, suc, ℤ, pos, Bool, true, false, ◌&&◌, not, cond, Option, Some, None, List, [], ◌∷◌, ◌++◌, length, refl, sym, ap, ◌∙◌, subst, arith}
use Rattle.std.specs.Prelude.{if◌then◌else◌, ◌==◌, slice_index_or, slice_get, drop, count_by, unwrap_or}
use Rattle.std.specs.Fmt.{signed_decimal}
use Rattle.std.proofs.lemmas.List.{append-nil}
use Rattle.vx_base.specs.Arithmetic.{sum_of, value_of, one_if, compare_of, product_of}
use Rattle.vx_base.specs.declared.arithmetic.Code.{Code}
use Rattle.vx_base.specs.declared.arithmetic.Code.TheVariants.{Add, Sh2add, Mov, ToBranch}
use Rattle.vx_flow.specs.declared.graph.Operand.{Operand}
use Rattle.vx_flow.specs.declared.graph.Op.{Op}
use Rattle.vx_flow.specs.declared.graph.Op.TheVariants.{Compute as Computes, Select as Selects, Place, Load as Loads, Store as Stores, More as Asks, Input as Takes, Text, Decimal, Across, Base, PlaceIn}
use Rattle.vx_flow.specs.Effects.{Content, State as VState, Setting, held, is_unary, both, computed, is_one as is_one_there, chosen, place_of, place_by, row_of, cell_of, is_left as is_left_there, text_at as text_there, with_value, with_cell, loaded as loaded_there, stored as stored_there, next_input, printed, effect, value_in, reads, writes}
use Rattle.vx_flow.specs.Sound.{is_given}
use Rattle.vx_isa.specs.declared.operation.Register.TheVariants.{General, Branch}
use Rattle.vx_isa.specs.declared.operation.Source.TheVariants.{Held, Number}
use Rattle.vx_isa.specs.declared.operation.Operation.{Operation}
use Rattle.vx_isa.specs.declared.operation.Operation.TheVariants.{Compute, Move}
use Rattle.vx_isa.specs.declared.program.WordProgram.{WordProgram}
use Rattle.vx_isa.specs.Operations.{is_observable, destination_of}
use Rattle.vx_isa.specs.Machine.{State, register, source, address, is_word_of, loaded, stored, number_of, memory_after, takes_input, print_of, has_bad_address, lead_of, is_one, is_left, first_of, flag}
use Rattle.vx_isa.proofs.Lists.{count_by-cons}
use Rattle.vx_target.specs.Target.{Target, general_of, branch_of, register_of, holds_branch, is_own, is_handed, bytes, carried, source_of, access_base, access_offset, stack_on, memory_words}
use Rattle.vx_target.specs.Tied.{Itself, InFrame, InHanded, AsBase, Seating, IsAnswer, IsBaseShown, IsShown, Shows, HasCell, kind_of, kind_in, begins_at, word_at, row_in}
use Rattle.vx_target.proofs.Cells.{SameShape, same_shape, set_cell, set_shape, store_off, store_known}
use Rattle.vx_target.proofs.Bytes.{is_word, sum_up, place_with, place_alone}
use Rattle.vx_target.proofs.Forms.{one_alike, to_branch, Plainly, Computed, computed_is}
use Rattle.vx_target.proofs.Proper.{shows_itself, PlainValue, PlainOperand, IsPlacedIn, ProperBase, ProperPlaceIn, ProperOp}
use Rattle.vx_target.proofs.Reading.{CellKnown, cell_known, Right, right_left, right_right, operand_read, test_read, general_read, address_read, handed_read}

-- what a known result says

pub record BothKnown (f : ℤ → ℤ → ℤ) (x y : Content) (n : ℤ) : Type 0 where
  pub left : ℤ
  pub right : ℤ
  pub first : x ≡ Some left
  pub second : y ≡ Some right
  pub is : n ≡ f left right

pub both_known : (f : ℤ → ℤ → ℤ) (x y : Content) (n : ℤ) → both f x y ≡ Some n → BothKnown f x y n
both_known f None y n e = absurd (cc)
both_known f (Some a) None n e = absurd (cc)
both_known f (Some a) (Some b) n e = record { left = a; right = b; first = refl; second = refl; is = cc }

answer_of : (b : Bool) → (one_if b ≡ pos 0) ⊎ (one_if b ≡ pos 1)
answer_of true = inr refl
answer_of false = inl refl

answers : (code : Code) (a b : ℤ) → IsAnswer (to_branch code) (value_of code a b)
answers (ToBranch c) a b = λ e. answer_of (compare_of c a b)
answers code a b = λ e. absurd cc

unary_general : (code : Code) → is_unary code ≡ true → to_branch code ≡ false
unary_general Mov e = refl
unary_general (ToBranch c) e = absurd (cc)
unary_general code e = by code
  where
    by : (c : Code) → to_branch code ≡ false
    by c = absurd (cc)

left_alike : (xs : List ℤ) → is_left_there xs ≡ is_left xs
left_alike [] = refl
left_alike (x ∷ xs) = refl

flag_alike : (b : Bool) → flag b ≡ one_if b
flag_alike true = refl
flag_alike false = refl

text_alike : (texts : List (List ℕ)) (n : ℕ) → unwrap_or (slice_get texts n) [] ≡ slice_index_or texts n []
text_alike [] n = refl
text_alike (x ∷ xs) zero = refl
text_alike (x ∷ xs) (suc n) = text_alike xs n

no_count : (o : Operation) → takes_input o ≡ false → count_by takes_input (o ∷ []) ≡ 0
no_count o e = count_by-cons takes_input o [] ∙ ap (λ b. cond b 1 0 + 0) e

module _ (T : Target) (w : WordProgram) (f : ℕ) (here : Seating) (setting : Setting) (IsArray : ℕ → Type 0) (rs ws : List ℕ) (s : VState) (u : State) where
  -- row k has a word i, which stands at a word of memory
  abbrev pub Cell : (k i : ℕ) → Type 0
  Cell k i = HasCell s.arrays k i

  abbrev pub At : (k i : ℕ) → ℕ
  At k i = here.seats k + i

  -- known words of rows stand in memory
  abbrev pub Standing : List (List Content) → (ℕ → ℤ) → Type 0
  Standing rows memory = (k i : ℕ) (n : ℤ) → Cell k i → slice_index_or (row_in rows k) i None ≡ Some n → word_at memory (At k i) ≡ n

  -- what holds before the word
  pub record Ready : Type 0 where
    pub memory : w.memory ≡ 4 * memory_words T
    pub small : 4 * memory_words T < 2 ^ 32
    pub texts : w.texts ≡ setting.texts
    pub inside : (k i : ℕ) → Cell k i → At k i < memory_words T
    pub apart : (k l i j : ℕ) → Cell k i → Cell l j → At k i ≡ At l j → (k ≡ l) × (i ≡ j)
    -- an array that was not handed over begins at the seat of its row, and each row that stands begins within the memory
    pub begins : (a : ℕ) → IsArray a → is_handed T f a ≡ false → begins_at T here.frame f a ≡ here.seats (setting.spot a)
    pub spots : (a : ℕ) → here.spot a ≡ setting.spot a
    pub there : (a : ℕ) → IsArray a → setting.spot a < here.rows
    pub low : (k : ℕ) → k < here.rows → here.seats k ≤ memory_words T
    pub less : 4 * memory_words T < 2 ^ 31
    pub start : Standing s.arrays u.memory
    pub stack : (k : ℕ) → k < T.machine.clusters → register u (General (stack_on k)) ≡ pos (4 * here.frame)
    pub input : u.input ≡ s.input
    pub out : u.out ≡ s.out

  -- a value that an operation writes, and the register that its operation writes
  pub data Wrote (op : Op) (o : Operation) (t t1 : VState) : Type 0 where
    no_value : writes op ≡ [] → destination_of o ≡ None → ((v : ℕ) → t1.values v ≡ t.values v) → Wrote op o t t1
    one_value : (v : ℕ) (x : Content) → writes op ≡ v ∷ [] → destination_of o ≡ Some (register_of T f ws v) → ((y : ℕ) → t1.values y ≡ (if y == v then x else t.values y)) → ((n : ℤ) → x ≡ Some n → Shows T here f v n (number_of w.memory u o)) → Wrote op o t t1

  pub record Done (op : Op) (o : Operation) (t t1 : VState) : Type 0 where
    pub wrote : Wrote op o t t1
    pub bad : has_bad_address w.memory u o ≡ false
    pub takes : takes_input o ≡ true → is_left u.input ≡ true
    pub leads : (ops : List Operation) → lead_of u (o ∷ ops) ≡ lead_of u ops
    pub out_same : is_observable o ≡ false → (t1.out ≡ t.out) × (print_of w u o ≡ [])
    pub out_more : t.out ≡ s.out → t1.out ≡ s.out ++ print_of w u o
    pub input_same : is_observable o ≡ false → (t1.input ≡ t.input) × (takes_input o ≡ false)
    pub input_less : t.input ≡ s.input → t1.input ≡ drop (count_by takes_input (o ∷ [])) s.input
    pub shape : SameShape t.arrays t1.arrays
    pub rows : (memory : ℕ → ℤ) → Standing t.arrays memory → Standing t1.arrays (memory_after u (o ∷ []) memory)
    pub elsewhere : (x : ℕ) (memory : ℕ → ℤ) → ((k i : ℕ) → Cell k i → x ≢ At k i) → word_at (memory_after u (o ∷ []) memory) x ≡ word_at memory x

  -- an operation that writes a value and nothing else
  only_value : (op : Op) (o : Operation) (t : VState) (v : ℕ) (x : Content) → writes op ≡ v ∷ [] → destination_of o ≡ Some (register_of T f ws v) → Plainly w u o → ((n : ℤ) → x ≡ Some n → Shows T here f v n (number_of w.memory u o)) → Done op o t (with_value t v x)
  only_value op o t v x writes_v to_v plainly shows = record {
    wrote = one_value v x writes_v to_v (λ y. refl) shows;
    bad = plainly.bad;
    takes = λ e. absurd (let z = plainly.takes in cc);
    leads = plainly.leads;
    out_same = λ e. (refl, plainly.prints);
    out_more = λ e. e ∙ sym (append-nil s.out) ∙ ap (λ ys. s.out ++ ys) (sym plainly.prints);
    input_same = λ e. (refl, plainly.takes);
    input_less = λ e. e ∙ ap (λ n. drop n s.input) (sym (no_count o plainly.takes));
    shape = same_shape t.arrays;
    rows = λ memory h k i n has e. ap (λ g. g (4 * At k i)) (plainly.stores memory) ∙ h k i n has e;
    elsewhere = λ y memory h. ap (λ g. g (4 * y)) (plainly.stores memory);
  }

  general_to : (v : ℕ) → holds_branch T f v ≡ false → Some (General (general_of T f ws v)) ≡ Some (register_of T f ws v)
  general_to v e = ap (λ b. Some (if b then Branch (record { cluster = 0; number = branch_of T f ws v }) else General (general_of T f ws v))) (sym e)

  -- the base of a local array is a sum, that of a global a number
  abbrev base_by : (v a k : ℕ) → Bool → Operation
  base_by v a k own = if own then Compute k Add (General (general_of T f ws v)) (Held (stack_on k)) (Number (bytes (T.array_at f a))) else Move k (general_of T f ws v) (Number (bytes (T.array_at f a)))

  base_to : (v a : ℕ) (x : Operand) (k : ℕ) → holds_branch T f v ≡ false → destination_of (carried T f rs ws k (Base v a x)) ≡ Some (register_of T f ws v)
  base_to v a x k e = by (is_own T f a)
    where
      by : (own : Bool) → destination_of (base_by v a k own) ≡ Some (register_of T f ws v)
      by true = general_to v e
      by false = general_to v e

  base_plainly : (v a : ℕ) (x : Operand) (k : ℕ) → Plainly w u (carried T f rs ws k (Base v a x))
  base_plainly v a x k = by (is_own T f a)
    where
      by : (own : Bool) → Plainly w u (base_by v a k own)
      by true = record { bad = refl; takes = refl; prints = refl; stores = λ m. refl; leads = λ ops. refl }
      by false = record { bad = refl; takes = refl; prints = refl; stores = λ m. refl; leads = λ ops. refl }

  shows_plain : (v : ℕ) (n x : ℤ) → PlainValue T f IsArray v → x ≡ n → Shows T here f v n x
  shows_plain v n x plain e = shows_itself T here f v n x plain.0 (λ b. absurd (let z = plain.1 in cc)) e

  abbrev pub Reads : List ℕ → Type 0
  Reads vs = Right T f here IsArray rs s u vs

  module _ (ready : Ready) where
    read : (a : Operand) (n : ℤ) → Reads (value_in a) → PlainOperand T f IsArray a → held s a ≡ Some n → source u (source_of (general_of T f rs) a) ≡ n
    read = operand_read T f here IsArray rs s u

    compute_shows : (code : Code) (v : ℕ) (a b : Operand) (o : Operation) → Computed w u code (register_of T f ws v) (general_of T f ws v) (source_of (general_of T f rs) a) (source_of (general_of T f rs) b) o → Reads (reads (Computes code v a b)) → kind_of T f v ≡ Itself → holds_branch T f v ≡ to_branch code → PlainOperand T f IsArray a → (is_unary code ≡ false → PlainOperand T f IsArray b) → (n : ℤ) → computed code (held s a) (held s b) ≡ Some n → Shows T here f v n (number_of w.memory u o)
    compute_shows code v a b o c right place branch pa pb n e = by (is_unary code) refl
      where
        by : (unary : Bool) → is_unary code ≡ unary → Shows T here f v n (number_of w.memory u o)
        by true q =
            let r : Reads (value_in a) = subst (λ x. Reads (if x then value_in a else value_in a ++ value_in b)) q right in
            let k : held s a ≡ Some n = sym (ap (λ x. if x then held s a else both (value_of code) (held s a) (held s b)) q) ∙ e in
            let g : holds_branch T f v ≡ false = branch ∙ unary_general code q in
            shows_plain v n _ (place, g) (c.number ∙ ap (λ x. if x then source u (source_of (general_of T f rs) a) else value_of code (source u (source_of (general_of T f rs) a)) (source u (source_of (general_of T f rs) b))) q ∙ read a n r pa k)
        by false q =
            let r : Reads (value_in a ++ value_in b) = subst (λ x. Reads (if x then value_in a else value_in a ++ value_in b)) q right in
            let k : both (value_of code) (held s a) (held s b) ≡ Some n = sym (ap (λ x. if x then held s a else both (value_of code) (held s a) (held s b)) q) ∙ e in
            let known = both_known (value_of code) (held s a) (held s b) n k in
            let ra = read a known.left (right_left T f here IsArray rs s u (value_in a) (value_in b) r) pa known.first in
            let rb = read b known.right (right_right T f here IsArray rs s u (value_in a) (value_in b) r) (pb q) known.second in
            shows_itself T here f v n (number_of w.memory u o) place
            (λ h. subst (λ z. (z ≡ pos 0) ⊎ (z ≡ pos 1)) (sym known.is) (answers code known.left known.right (sym branch ∙ h)))
            (c.number ∙ ap (λ x. if x then source u (source_of (general_of T f rs) a) else value_of code (source u (source_of (general_of T f rs) a)) (source u (source_of (general_of T f rs) b))) q
            ∙ ap (λ x. value_of code x (source u (source_of (general_of T f rs) b))) ra ∙ ap (value_of code known.left) rb ∙ sym known.is)

    compute_to : (code : Code) (v : ℕ) (o : Operation) → holds_branch T f v ≡ to_branch code → destination_of o ≡ Some (if is_unary code then General (general_of T f ws v) else register_of T f ws v) → destination_of o ≡ Some (register_of T f ws v)
    compute_to code v o branch e = by (is_unary code) refl e
      where
        by : (unary : Bool) → is_unary code ≡ unary → destination_of o ≡ Some (if unary then General (general_of T f ws v) else register_of T f ws v) → destination_of o ≡ Some (register_of T f ws v)
        by true q h = h ∙ general_to v (branch ∙ unary_general code q)
        by false q h = h

    select_shows : (v p : ℕ) (a b : Operand) (k : ℕ) → Reads (p ∷ (value_in a ++ value_in b)) → PlainValue T f IsArray v → kind_of T f p ≡ Itself → holds_branch T f p ≡ true → PlainOperand T f IsArray a → PlainOperand T f IsArray b → (n : ℤ) (x : Content) → s.values p ≡ x → chosen x (held s a) (held s b) ≡ Some n →
        Shows T here f v n (if is_one (register u (Branch (record { cluster = 0; number = branch_of T f rs p }))) then source u (source_of (general_of T f rs) a) else source u (source_of (general_of T f rs) b))
    select_shows v p a b k right pv pp bp pa pb n None ex e = absurd (cc)
    select_shows v p a b k right pv pp bp pa pb n (Some z) ex e = shows_plain v n _ pv (at ∙ by (is_one z) (one_alike z))
      where
        at : (if is_one (register u (Branch (record { cluster = 0; number = branch_of T f rs p }))) then source u (source_of (general_of T f rs) a) else source u (source_of (general_of T f rs) b)) ≡ (if is_one z then source u (source_of (general_of T f rs) a) else source u (source_of (general_of T f rs) b))
        at = ap (λ y. if is_one y then source u (source_of (general_of T f rs) a) else source u (source_of (general_of T f rs) b)) (test_read T f here IsArray rs s u p z (right_left T f here IsArray rs s u (p ∷ []) (value_in a ++ value_in b) right) pp bp ex)

        more : Reads (value_in a ++ value_in b)
        more = right_right T f here IsArray rs s u (p ∷ []) (value_in a ++ value_in b) right

        by : (t : Bool) → is_one_there z ≡ t → (if t then source u (source_of (general_of T f rs) a) else source u (source_of (general_of T f rs) b)) ≡ n
        by true q = read a n (right_left T f here IsArray rs s u (value_in a) (value_in b) more) pa (sym (ap (λ y. if y then held s a else held s b) q) ∙ e)
        by false q = read b n (right_right T f here IsArray rs s u (value_in a) (value_in b) more) pb (sym (ap (λ y. if y then held s a else held s b) q) ∙ e)

    place_shows : (v a : ℕ) (i : Operand) (k : ℕ) → Reads (value_in i) → kind_of T f v ≡ kind_in T f a → holds_branch T f v ≡ false → is_handed T f a ≡ false → PlainOperand T f IsArray i → k < T.machine.clusters → (n : ℤ) (x : Content) → held s i ≡ x → place_of x ≡ Some n →
        Shows T here f v n (value_of Sh2add (source u (source_of (general_of T f rs) i)) (source u (if is_own T f a then Held (stack_on k) else Number (pos 0))))
    place_shows v a i k right place branch bare pi lt n None ex e = absurd (cc)
    place_shows v a i k right place branch bare pi lt n (Some z) ex e = record {
      answer = λ h. absurd (cc);
      is = subst (λ x. IsShown (T.graph f).arrays here (kind_of T f v) n (value_of Sh2add x (source u (if is_own T f a then Held (stack_on k) else Number (pos 0))))) (sym (read i z right pi ex)) (subst (λ c. IsShown (T.graph f).arrays here c n (value_of Sh2add z (source u (if is_own T f a then Held (stack_on k) else Number (pos 0))))) (sym place) (by (is_own T f a) refl));
    }
      where
        num : product_of (pos 4) z ≡ n
        num = cc

        kind_is : (own : Bool) → is_own T f a ≡ own → kind_in T f a ≡ (if own then InFrame else Itself)
        kind_is own o = ap (λ b. if b then InFrame else if is_handed T f a then InHanded a else Itself) o ∙ ap (λ b. if own then InFrame else if b then InHanded a else Itself) bare

        by : (own : Bool) → is_own T f a ≡ own → IsShown (T.graph f).arrays here (kind_in T f a) n (value_of Sh2add z (source u (if own then Held (stack_on k) else Number (pos 0))))
        by true q = subst (λ c. IsShown (T.graph f).arrays here c n (value_of Sh2add z (register u (General (stack_on k))))) (sym (kind_is true q)) (ap (value_of Sh2add z) (ready.stack k lt) ∙ place_with z (pos (4 * here.frame)) ∙ ap (λ y. sum_of y (pos (4 * here.frame))) num)
        by false q = subst (λ c. IsShown (T.graph f).arrays here c n (value_of Sh2add z (pos 0))) (sym (kind_is false q)) (place_alone z ∙ num)

    -- a place by a base has the address of the row added that the base numbers
    place_in_shows : (v a y : ℕ) (i : Operand) → Reads (value_in i ++ y ∷ []) → ProperPlaceIn T f IsArray v a y i → (n : ℤ) (b x : Content) → s.values y ≡ b → held s i ≡ x → place_by b x ≡ Some n → Shows T here f v n (value_of Sh2add (source u (source_of (general_of T f rs) i)) (register u (General (general_of T f rs y))))
    place_in_shows v a y i right proper n None x eb ex e = absurd (cc)
    place_in_shows v a y i right proper n (Some m) None eb ex e = absurd (cc)
    place_in_shows v a y i right proper n (Some m) (Some z) eb ex e = record {
      answer = λ h. absurd (let q = proper.general in cc);
      is = subst (λ c. IsShown (T.graph f).arrays here c n (value_of Sh2add (source u (source_of (general_of T f rs) i)) (register u (General (general_of T f rs y))))) (sym proper.kind) (low_row, shown);
    }
      where
        its : IsBaseShown (T.graph f).arrays here proper.value m (register u (General (general_of T f rs y)))
        its = general_read T f here IsArray rs s u y m (AsBase proper.value) (right_right T f here IsArray rs s u (value_in i) (y ∷ []) right) proper.base proper.base_general eb

        row : here.spot a ≡ its.row
        row = its.spots a proper.is

        low_row : here.spot a < here.rows
        low_row = let l = its.stands in let q = row in omega arith

        num : product_of (pos 4) z ≡ n
        num = cc

        shown : value_of Sh2add (source u (source_of (general_of T f rs) i)) (register u (General (general_of T f rs y))) ≡ sum_of n (pos (4 * here.seats (here.spot a)))
        shown =
            ap (λ c. value_of Sh2add c (register u (General (general_of T f rs y)))) (read i z (right_left T f here IsArray rs s u (value_in i) (y ∷ []) right) proper.index ex)
            ∙ ap (value_of Sh2add z) (its.word ∙ ap (λ k. pos (4 * here.seats k)) (sym row))
            ∙ place_with z (pos (4 * here.seats (here.spot a)))
            ∙ ap (λ c. sum_of c (pos (4 * here.seats (here.spot a)))) num

    -- the base of an array is the number of its row, and its word the address of that
    base_shows : (v a k : ℕ) (x : Operand) → (proper : ProperBase T f IsArray v a x k) → (n : ℤ) → Some (pos (setting.spot a)) ≡ Some n → Shows T here f v n (number_of w.memory u (carried T f rs ws k (Base v a x)))
    base_shows v a k x proper n e = record {
      answer = λ h. absurd (let q = proper.general in cc);
      is = subst (λ c. IsShown (T.graph f).arrays here c n (number_of w.memory u (carried T f rs ws k (Base v a x)))) (sym proper.kind) (record {
        row = setting.spot a;
        stands = row_there;
        number = (let q : pos (setting.spot a) ≡ n = cc in sym q);
        word = by (is_own T f a) refl;
        spots = λ b h. absurd (proper.made b h);
      });
    }
      where
        row_there : setting.spot a < here.rows
        row_there = ready.there a proper.array

        begins : begins_at T here.frame f a ≡ here.seats (setting.spot a)
        begins = ready.begins a proper.array (ap is_given proper.bare)

        inside : here.seats (setting.spot a) ≤ memory_words T
        inside = ready.low (setting.spot a) row_there

        by : (own : Bool) → is_own T f a ≡ own → number_of w.memory u (base_by v a k own) ≡ pos (4 * here.seats (setting.spot a))
        by true o =
            let q : here.frame + T.array_at f a ≡ here.seats (setting.spot a) = sym (ap (λ b. if b then here.frame + T.array_at f a else T.array_at f a) o) ∙ begins in
            let l = inside in
            let c = ready.less in
            ap (λ z. sum_of z (bytes (T.array_at f a))) (ready.stack k proper.below) ∙ sum_up (4 * here.frame) (4 * T.array_at f a) (omega arith) ∙ ap pos (omega arith)
        by false o = ap (λ z. pos (4 * z)) (sym (ap (λ b. if b then here.frame + T.array_at f a else T.array_at f a) o) ∙ begins)

    small_at : (k i : ℕ) → Cell k i → 4 * At k i < 2 ^ 32
    small_at k i has = let b = ready.inside k i has in let c = ready.small in omega arith

    -- the address of a word that an access meets
    address_at : (k a i : ℕ) (p : Operand) → Reads (value_in p) → IsPlacedIn T f IsArray a p → k < T.machine.clusters → IsArray a → cell_of setting s a p ≡ Some i → (address u (access_base T f (general_of T f rs) k a p) (access_offset T f a p) ≡ 4 * At (setting.spot a) i) × Cell (setting.spot a) i
    address_at k a i p right place lt is e = (by (is_handed T f a) refl, c.below)
      where
        c : CellKnown (length (row_in s.arrays (setting.spot a))) (held s p) i
        c = cell_known (length (row_in s.arrays (setting.spot a))) (held s p) i e

        by : (handed : Bool) → is_handed T f a ≡ handed → address u (access_base T f (general_of T f rs) k a p) (access_offset T f a p) ≡ 4 * At (setting.spot a) i
        by false h =
            let b = ready.begins a is h in
            let small : 4 * (begins_at T here.frame f a + i) < 2 ^ 32 = subst (λ x. 4 * (x + i) < 2 ^ 32) (sym b) (small_at (setting.spot a) i c.below) in
            address_read T f here IsArray rs s u ready.stack k a i (length (row_in s.arrays (setting.spot a))) p right place h lt e small ∙ ap (λ x. 4 * (x + i)) b
        by true h =
            let q = ready.spots a in
            let small : 4 * (here.seats (here.spot a) + i) < 2 ^ 32 = subst (λ x. 4 * (here.seats x + i) < 2 ^ 32) (sym q) (small_at (setting.spot a) i c.below) in
            handed_read T f here IsArray rs s u k a i (length (row_in s.arrays (setting.spot a))) p right place h e small ∙ ap (λ x. 4 * (here.seats x + i)) q

    word_there : (k i : ℕ) → Cell k i → is_word_of w.memory (4 * At k i) ≡ true
    word_there k i has = ap (λ n. is_word_of n (4 * At k i)) ready.memory ∙ is_word (At k i) (memory_words T) (ready.inside k i has)

    load_done : (v a k : ℕ) (p : Operand) (d : Bool) (t t1 : VState) → Reads (value_in p) → ProperOp T f IsArray (Loads v a p d) k → (c : Option ℕ) → cell_of setting s a p ≡ c → loaded_there t v (row_of s (setting.spot a)) c d ≡ Some t1 → Done (Loads v a p d) (carried T f rs ws k (Loads v a p d)) t t1
    load_done v a k p false t t1 right proper None ec e = absurd (cc)
    load_done v a k p true t t1 right proper None ec e =
        let q : with_value t v None ≡ t1 = cc in
        subst (Done (Loads v a p true) (carried T f rs ws k (Loads v a p true)) t) q
        (only_value (Loads v a p true) (carried T f rs ws k (Loads v a p true)) t v None refl (general_to v proper.0.1) (record { bad = refl; takes = refl; prints = refl; stores = λ m. refl; leads = λ ops. refl }) (λ n h. absurd (cc)))
    load_done v a k p d t t1 right proper (Some i) ec e =
        let q : with_value t v (slice_index_or (row_of s (setting.spot a)) i None) ≡ t1 = cc in
        subst (Done (Loads v a p d) (carried T f rs ws k (Loads v a p d)) t) q
        (only_value (Loads v a p d) (carried T f rs ws k (Loads v a p d)) t v (slice_index_or (row_of s (setting.spot a)) i None) refl (general_to v proper.0.1) (record { bad = bad; takes = refl; prints = refl; stores = λ m. refl; leads = λ ops. refl })
        (λ n h. shows_plain v n _ proper.0 (number ∙ ready.start (setting.spot a) i n at.1 h)))
      where
        at : (address u (access_base T f (general_of T f rs) k a p) (access_offset T f a p) ≡ 4 * At (setting.spot a) i) × Cell (setting.spot a) i
        at = address_at k a i p right proper.1 proper.2 proper.3 ec

        there : is_word_of w.memory (address u (access_base T f (general_of T f rs) k a p) (access_offset T f a p)) ≡ true
        there = ap (is_word_of w.memory) at.0 ∙ word_there (setting.spot a) i at.1

        not_and : (b : Bool) → (b && false) ≡ false
        not_and true = refl
        not_and false = refl

        bad : (not d && not (is_word_of w.memory (address u (access_base T f (general_of T f rs) k a p) (access_offset T f a p)))) ≡ false
        bad = ap (λ b. not d && not b) there ∙ not_and (not d)

        number : loaded w.memory u (address u (access_base T f (general_of T f rs) k a p) (access_offset T f a p)) ≡ word_at u.memory (At (setting.spot a) i)
        number = ap (λ b. if b then u.memory (address u (access_base T f (general_of T f rs) k a p) (access_offset T f a p)) else pos 0) there ∙ ap u.memory at.0

    store_done : (a k : ℕ) (p x : Operand) (t t1 : VState) → Reads (value_in p ++ value_in x) → ProperOp T f IsArray (Stores a p x) k → SameShape s.arrays t.arrays → (c : Option ℕ) → cell_of setting s a p ≡ c → (y : Content) → held s x ≡ y → stored_there t (setting.spot a) c y ≡ Some t1 → Done (Stores a p x) (carried T f rs ws k (Stores a p x)) t t1
    store_done a k p x t t1 right proper like None ec y ey e = absurd (cc)
    store_done a k p x t t1 right proper like (Some i) ec None ey e = absurd (cc)
    store_done a k p x t t1 right proper like (Some i) ec (Some n) ey e =
        let q : with_cell t (setting.spot a) i (Some n) ≡ t1 = cc in
        subst (Done (Stores a p x) (carried T f rs ws k (Stores a p x)) t) q (record {
          wrote = no_value refl refl (λ v. refl);
          bad = ap not (ap (is_word_of w.memory) at.0 ∙ word_there (setting.spot a) i at.1);
          takes = λ h. absurd (cc);
          leads = λ ops. refl;
          out_same = λ h. (refl, refl);
          out_more = λ h. h ∙ sym (append-nil s.out);
          input_same = λ h. (refl, refl);
          input_less = λ h. h;
          shape = set_shape t.arrays (setting.spot a) i (Some n) row_below;
          rows = λ memory h. subst (λ j. Standing (set_cell t.arrays (setting.spot a) i (Some n)) (stored memory j (source u (source_of (general_of T f rs) x)))) (sym at.0)
              (subst (λ z. Standing (set_cell t.arrays (setting.spot a) i (Some n)) (stored memory (4 * At (setting.spot a) i) z)) (sym from)
              (store_known s.arrays t.arrays here.seats memory (setting.spot a) i n like at.1 (λ l j there q. ready.apart l (setting.spot a) j i there at.1 q) h));
          elsewhere = λ y memory h. ap (λ j. word_at (stored memory j (source u (source_of (general_of T f rs) x))) y) at.0 ∙ store_off memory (At (setting.spot a) i) y (source u (source_of (general_of T f rs) x)) (h (setting.spot a) i at.1);
        })
      where
        at : (address u (access_base T f (general_of T f rs) k a p) (access_offset T f a p) ≡ 4 * At (setting.spot a) i) × Cell (setting.spot a) i
        at = address_at k a i p (right_left T f here IsArray rs s u (value_in p) (value_in x) right) proper.0 proper.2 proper.3 ec

        from : (source u (source_of (general_of T f rs) x)) ≡ n
        from = read x n (right_right T f here IsArray rs s u (value_in p) (value_in x) right) proper.1 ey

        row_below : i < length (row_in t.arrays (setting.spot a))
        row_below = let z = like.each (setting.spot a) in let b = at.1 in omega arith

    input_done : (v k : ℕ) (t t1 : VState) → PlainValue T f IsArray v → (xs : List ℤ) → s.input ≡ xs → next_input t v xs ≡ Some t1 → Done (Takes v) (carried T f rs ws k (Takes v)) t t1
    input_done v k t t1 proper [] ex e = absurd (cc)
    input_done v k t t1 proper (n ∷ ns) ex e =
        let q : record (with_value t v (Some n)) { input = ns } ≡ t1 = cc in
        subst (Done (Takes v) (carried T f rs ws k (Takes v)) t) q (record {
          wrote = one_value v (Some n) refl (general_to v proper.1) (λ y. refl) (λ m h. shows_plain v m (first_of u.input) proper (ap first_of (ready.input ∙ ex) ∙ known m h));
          bad = refl;
          takes = λ h. ap is_left (ready.input ∙ ex);
          leads = λ ops. refl;
          out_same = λ h. absurd (cc);
          out_more = λ h. h ∙ sym (append-nil s.out);
          input_same = λ h. absurd (cc);
          input_less = λ h. sym (ap (λ xs. drop 1 xs) ex);
          shape = same_shape t.arrays;
          rows = λ memory h. h;
          elsewhere = λ y memory h. refl;
        })
      where
        known : (m : ℤ) → Some n ≡ Some m → n ≡ m
        known m h = cc

    text_done : (n k : ℕ) (t : VState) → Done (Text n) (carried T f rs ws k (Text n)) t (record t { out = s.out ++ text_there setting n })
    text_done n k t = record {
      wrote = no_value refl refl (λ v. refl);
      bad = refl;
      takes = λ h. absurd (cc);
      leads = λ ops. refl;
      out_same = λ h. absurd (cc);
      out_more = λ h. ap (λ ys. s.out ++ ys) (sym (ap (λ ts. unwrap_or (slice_get ts n) []) ready.texts ∙ text_alike setting.texts n));
      input_same = λ h. absurd (cc);
      input_less = λ h. h;
      shape = same_shape t.arrays;
      rows = λ memory h. h;
      elsewhere = λ y memory h. refl;
    }

    decimal_done : (x : Operand) (k : ℕ) (t t1 : VState) → Reads (value_in x) → PlainOperand T f IsArray x → (y : Content) → held s x ≡ y → printed t s.out y ≡ Some t1 → Done (Decimal x) (carried T f rs ws k (Decimal x)) t t1
    decimal_done x k t t1 right proper None ey e = absurd (cc)
    decimal_done x k t t1 right proper (Some n) ey e =
        let q : record t { out = s.out ++ signed_decimal n } ≡ t1 = cc in
        subst (Done (Decimal x) (carried T f rs ws k (Decimal x)) t) q (record {
          wrote = no_value refl refl (λ v. refl);
          bad = refl;
          takes = λ h. absurd (cc);
          leads = λ ops. refl;
          out_same = λ h. absurd (cc);
          out_more = λ h. ap (λ z. s.out ++ signed_decimal z) (sym (read x n right proper ey));
          input_same = λ h. absurd (cc);
          input_less = λ h. h;
          shape = same_shape t.arrays;
          rows = λ memory h. h;
          elsewhere = λ y memory h. refl;
        })

    more_shows : (v : ℕ) → PlainValue T f IsArray v → (n : ℤ) → Some (one_if (is_left_there s.input)) ≡ Some n → Shows T here f v n (flag (is_left u.input))
    more_shows v proper n h =
        let k : one_if (is_left_there s.input) ≡ n = cc in
        shows_plain v n (flag (is_left u.input)) proper (flag_alike (is_left u.input) ∙ ap one_if (ap is_left ready.input ∙ sym (left_alike s.input)) ∙ k)

    across_shows : (v y : ℕ) → Reads (y ∷ []) → kind_of T f v ≡ kind_of T f y → holds_branch T f v ≡ false → holds_branch T f y ≡ false → (n : ℤ) → s.values y ≡ Some n → Shows T here f v n (register u (General (general_of T f rs y)))
    across_shows v y right place bv by n h = record { answer = λ e. absurd (cc); is = subst (λ c. IsShown (T.graph f).arrays here c n (register u (General (general_of T f rs y)))) (sym place) (general_read T f here IsArray rs s u y n (kind_of T f y) right refl by h) }

    -- what the operation does
    pub op_done : (op : Op) (k : ℕ) (t t1 : VState) → Reads (reads op) → ProperOp T f IsArray op k → SameShape s.arrays t.arrays → effect setting s op t ≡ Some t1 → Done op (carried T f rs ws k op) t t1
    op_done (Computes code v a b) k t t1 right proper like e =
        let c = computed_is w u k code (register_of T f ws v) (general_of T f ws v) (source_of (general_of T f rs) a) (source_of (general_of T f rs) b) in
        let q : with_value t v (computed code (held s a) (held s b)) ≡ t1 = cc in
        subst (Done (Computes code v a b) (carried T f rs ws k (Computes code v a b)) t) q
        (only_value (Computes code v a b) (carried T f rs ws k (Computes code v a b)) t v (computed code (held s a) (held s b)) refl (compute_to code v _ proper.1 c.to_is) c.plainly (compute_shows code v a b _ c right proper.0 proper.1 proper.2 proper.3))
    op_done (Selects v p a b) k t t1 right proper like e =
        let q : with_value t v (chosen (s.values p) (held s a) (held s b)) ≡ t1 = cc in
        subst (Done (Selects v p a b) (carried T f rs ws k (Selects v p a b)) t) q
        (only_value (Selects v p a b) (carried T f rs ws k (Selects v p a b)) t v (chosen (s.values p) (held s a) (held s b)) refl (general_to v proper.0.1) (record { bad = refl; takes = refl; prints = refl; stores = λ m. refl; leads = λ ops. refl })
        (λ n h. select_shows v p a b k right proper.0 proper.1.0 proper.1.1 proper.2 proper.3 n (s.values p) refl h))
    op_done (Place v a i) k t t1 right proper like e =
        let q : with_value t v (place_of (held s i)) ≡ t1 = cc in
        subst (Done (Place v a i) (carried T f rs ws k (Place v a i)) t) q
        (only_value (Place v a i) (carried T f rs ws k (Place v a i)) t v (place_of (held s i)) refl (general_to v proper.0.1) (record { bad = refl; takes = refl; prints = refl; stores = λ m. refl; leads = λ ops. refl })
        (λ n h. place_shows v a i k right proper.0.0 proper.0.1 proper.3 proper.1 proper.2 n (held s i) refl h))
    op_done (Loads v a p d) k t t1 right proper like e = load_done v a k p d t t1 right proper (cell_of setting s a p) refl e
    op_done (Stores a p x) k t t1 right proper like e = store_done a k p x t t1 right proper like (cell_of setting s a p) refl (held s x) refl e
    op_done (Asks v) k t t1 right proper like e =
        let q : with_value t v (Some (one_if (is_left_there s.input))) ≡ t1 = cc in
        subst (Done (Asks v) (carried T f rs ws k (Asks v)) t) q
        (only_value (Asks v) (carried T f rs ws k (Asks v)) t v (Some (one_if (is_left_there s.input))) refl (general_to v proper.1) (record { bad = refl; takes = refl; prints = refl; stores = λ m. refl; leads = λ ops. refl }) (more_shows v proper))
    op_done (Takes v) k t t1 right proper like e = input_done v k t t1 proper s.input refl e
    op_done (Text n) k t t1 right proper like e = let q : record t { out = s.out ++ text_there setting n } ≡ t1 = cc in subst (Done (Text n) (carried T f rs ws k (Text n)) t) q (text_done n k t)
    op_done (Decimal x) k t t1 right proper like e = decimal_done x k t t1 right proper (held s x) refl e
    op_done (Across v y) k t t1 right proper like e =
        let q : with_value t v (s.values y) ≡ t1 = cc in
        subst (Done (Across v y) (carried T f rs ws k (Across v y)) t) q
        (only_value (Across v y) (carried T f rs ws k (Across v y)) t v (s.values y) refl (general_to v proper.1) (record { bad = refl; takes = refl; prints = refl; stores = λ m. refl; leads = λ ops. refl }) (across_shows v y right proper.0 proper.1 proper.2))
    op_done (Base v a x) k t t1 right proper like e =
        let q : with_value t v (Some (pos (setting.spot a))) ≡ t1 = cc in
        subst (Done (Base v a x) (carried T f rs ws k (Base v a x)) t) q
        (only_value (Base v a x) (carried T f rs ws k (Base v a x)) t v (Some (pos (setting.spot a))) refl (base_to v a x k proper.general) (base_plainly v a x k) (base_shows v a k x proper))
    op_done (PlaceIn v a y i) k t t1 right proper like e =
        let q : with_value t v (place_by (s.values y) (held s i)) ≡ t1 = cc in
        subst (Done (PlaceIn v a y i) (carried T f rs ws k (PlaceIn v a y i)) t) q
        (only_value (PlaceIn v a y i) (carried T f rs ws k (PlaceIn v a y i)) t v (place_by (s.values y) (held s i)) refl (general_to v proper.general) (record { bad = refl; takes = refl; prints = refl; stores = λ m. refl; leads = λ ops. refl })
        (λ n h. place_in_shows v a y i right proper n (s.values y) (held s i) refl refl h))
