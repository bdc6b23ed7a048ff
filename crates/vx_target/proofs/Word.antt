-- The words of a planned word: slots are loaded, the word is issued, results in slots are stored.
use Rattle.std.proofs.Common.{◌≡◌, ◌≢◌, ◌<◌, ◌≤◌, ◌⊎◌, inl, inr, ⊎_elim, ◌+◌, ◌*◌, ◌^◌, ℕ, suc, ℤ, pos, Bool, true, false, ◌&&◌, not, cond, Some, None, List, [], ◌∷◌, ◌++◌, length, refl, sym, ap, ◌∙◌, subst, arith}
use Rattle.std.specs.Prelude.{if◌then◌else◌, slice_get, slice_index_or, drop, count_by}
use Rattle.std.specs.List.{list_any, flat_map}
use Rattle.vx_flow.specs.Effects.{State as VState, Setting, IsIn}
use Rattle.vx_isa.specs.declared.operation.Register.{Register}
use Rattle.vx_isa.specs.declared.operation.Register.TheVariants.{General, Branch, Link}
use Rattle.vx_isa.specs.declared.operation.Operation.{Operation}
use Rattle.vx_isa.specs.declared.program.WordProgram.{WordProgram}
use Rattle.vx_isa.specs.Numbers.{Numbers}
use Rattle.vx_isa.specs.Operations.{is_observable}
use Rattle.vx_isa.specs.Machine.{State, To, register, takes_input, print_of, lead_of, memory_after, is_left}
use Rattle.vx_isa.proofs.FitsLaw.{fits_in_words}
use Rattle.vx_mixed.specs.declared.layout.Laid.{Laid}
use Rattle.vx_mixed.specs.declared.layout.Laid.TheVariants.{Split}
use Rattle.vx_mixed.specs.declared.layout.VirtualWord.TheVariants.{Transfer}
use Rattle.vx_layout.specs.Laid.{laid_effect}
use Rattle.vx_mixed.specs.LaidSettled.{laid_reads, laid_writes}
use Rattle.vx_regs.specs.declared.map.Kept.{Kept}
use Rattle.vx_regs.specs.declared.map.Kept.TheVariants.{InRegister, InSlot, Nowhere}
use Rattle.vx_target.specs.Target.{Target, answer, general, stack_on, kept, is_slotted, carried_items, number_by, scratch, home, holds_branch, register_of, slotted, before, behind, plan_word, plan_words, past, landing_words, memory_words, is_handed}
use Rattle.vx_target.specs.Tied.{Seating, Itself, IsShown, Shows, HasCell, kind_of, holds, begins_at, word_at, row_in}
use Rattle.vx_target.proofs.Beside.{Alike, alike, beside}
use Rattle.vx_target.proofs.Calm.{seen, given, after, AllFit, Fine}
use Rattle.vx_target.proofs.Proper.{itself, ProperItems}
use Rattle.vx_target.proofs.Reading.{Right}
use Rattle.vx_target.proofs.Op.{Ready}
use Rattle.vx_target.proofs.Items.{Ran, ran_items, rows_items, elsewhere_items, bad_items, takes_items, stays_items, values_items, Met, met_items}
use Rattle.vx_target.proofs.Steps.{Stands, stands_left, stands_right, Quiet, Comes, Forth, comes_on, forth_on, then_forth, word_step}
use Rattle.vx_target.proofs.Slots.{Usable, Loaded, once_case, Stored, as_read, as_kept, read_answer, kept_answer, stack_no_answer, link_unnamed, link_no_general}

-- values in slots among some

pub slotted_in : (T : Target) (f v : ℕ) (vs : List ℕ) → IsIn v vs → is_slotted (kept T f v) ≡ true → IsIn v (slotted T f vs)
slotted_in T f v [] i e = i
slotted_in T f v (u ∷ us) i e = by (is_slotted (kept T f u)) refl (λ j. slotted_in T f v us j e)
  where
    by : (b : Bool) → is_slotted (kept T f u) ≡ b → (IsIn v us → IsIn v (slotted T f us)) → IsIn v (cond b (u ∷ slotted T f us) (slotted T f us))
    by true h more = ⊎_elim (λ q. inl q) (λ j. inr (more j)) i
    by false h more = ⊎_elim (λ q. absurd (let z : is_slotted (kept T f v) ≡ false = ap (λ x. is_slotted (kept T f x)) q ∙ h in cc)) more i

pub slotted_from : (T : Target) (f v : ℕ) (vs : List ℕ) → IsIn v (slotted T f vs) → IsIn v vs × (is_slotted (kept T f v) ≡ true)
slotted_from T f v [] i = absurd i
slotted_from T f v (u ∷ us) i = by (is_slotted (kept T f u)) refl i (slotted_from T f v us)
  where
    by : (b : Bool) → is_slotted (kept T f u) ≡ b → IsIn v (cond b (u ∷ slotted T f us) (slotted T f us)) → (IsIn v (slotted T f us) → IsIn v us × (is_slotted (kept T f v) ≡ true)) → ((v ≡ u) ⊎ IsIn v us) × (is_slotted (kept T f v) ≡ true)
    by true h j more = ⊎_elim (λ q. (inl q, ap (λ x. is_slotted (kept T f x)) q ∙ h)) (λ k. (inr (more k).0, (more k).1)) j
    by false h j more = (inr (more j).0, (more j).1)

-- a value in a register has one name

number_one : (k : Kept) (a b : ℕ) → is_slotted k ≡ false → number_by k a ≡ number_by k b
number_one (InRegister n) a b e = refl
number_one (InSlot n) a b e = absurd (cc)
number_one Nowhere a b e = absurd (cc)

pub own_name : (T : Target) (f v : ℕ) (xs ys : List ℕ) → is_slotted (kept T f v) ≡ false → register_of T f xs v ≡ register_of T f ys v
own_name T f v xs ys e =
    ap (λ n. if holds_branch T f v then Branch (record { cluster = 0; number = n }) else General (general (home T f v) (number_by (kept T f v) (3 + scratch T f xs v)))) (number_one (kept T f v) (scratch T f xs v) (scratch T f ys v) e)
    ∙ ap (λ n. if holds_branch T f v then Branch (record { cluster = 0; number = number_by (kept T f v) (scratch T f ys v) }) else General (general (home T f v) n)) (number_one (kept T f v) (3 + scratch T f xs v) (3 + scratch T f ys v) e)

-- by way of a slot a value shows the same

pub read_shows : (T : Target) (here : Seating) (f v : ℕ) (n x : ℤ) → (holds_branch T f v ≡ true → kind_of T f v ≡ Itself) → Shows T here f v n x → Shows T here f v n (as_read (holds_branch T f v) x)
read_shows T here f v n x plain h = record { answer = h.answer; is = by (holds_branch T f v) refl }
  where
    by : (b : Bool) → holds_branch T f v ≡ b → IsShown (T.graph f).arrays here (kind_of T f v) n (as_read b x)
    by false e = h.is
    by true e =
        let one_is : x ≡ n = itself h (plain e) in
        subst (λ k. IsShown (T.graph f).arrays here k n (as_read true x)) (sym (plain e)) (ap (as_read true) one_is ∙ read_answer true n (λ q. h.answer e))

pub kept_shows : (T : Target) (here : Seating) (f v : ℕ) (n x : ℤ) → (holds_branch T f v ≡ true → kind_of T f v ≡ Itself) → Shows T here f v n x → Shows T here f v n (as_kept (holds_branch T f v) x)
kept_shows T here f v n x plain h = record { answer = h.answer; is = by (holds_branch T f v) refl }
  where
    by : (b : Bool) → holds_branch T f v ≡ b → IsShown (T.graph f).arrays here (kind_of T f v) n (as_kept b x)
    by false e = h.is
    by true e =
        let one_is : x ≡ n = itself h (plain e) in
        subst (λ k. IsShown (T.graph f).arrays here k n (as_kept true x)) (sym (plain e)) (ap (as_kept true) one_is ∙ kept_answer true n (λ q. h.answer e))

module _ (m : Numbers) (w : WordProgram) (fit : AllFit m w) (T : Target) (f : ℕ) (here : Seating) (p : ℕ) (size : w.memory ≡ 4 * memory_words T) (small : 4 * memory_words T < 2 ^ 32) (some : 0 < T.machine.clusters) (setting : Setting) (IsArray : ℕ → Type 0) (items : List Laid) (s : VState) (u : State) where
  abbrev pub Reads : List ℕ
  Reads = laid_reads items

  abbrev pub Writes : List ℕ
  Writes = laid_writes items

  abbrev pub CanUse : List ℕ → ℕ → Type 0
  CanUse names v = Usable m w fit T f here.frame size small some names v

  abbrev pub Cell : (k i : ℕ) → Type 0
  Cell k i = HasCell s.arrays k i

  -- what holds before a planned word
  pub record Planning : Type 0 where
    pub calm : u.flying ≡ []
    pub stands : Stands w.words u.place (plan_words T f p items)
    pub next : T.starts f (suc p) ≡ u.place + length (plan_words T f p items)
    pub landing : (test to y : ℕ) (b : Bool) (v : ℕ) (vs : List ℕ) → IsIn (Split test b to) items → slotted T f Writes ≡ v ∷ vs → Stands w.words (T.landing f p to) (landing_words T f items to)
    pub stack : (k : ℕ) → k < T.machine.clusters → register u (General (stack_on k)) ≡ pos (4 * here.frame)
    pub shows : (v : ℕ) (n : ℤ) → IsIn v Reads → s.values v ≡ Some n → Shows T here f v n (holds T u here.frame f v)
    pub proper : ProperItems T f IsArray items
    pub branch_plain : (v : ℕ) → holds_branch T f v ≡ true → kind_of T f v ≡ Itself
    pub texts : w.texts ≡ setting.texts
    pub inside : (k i : ℕ) → Cell k i → here.seats k + i < memory_words T
    pub apart : (k l i j : ℕ) → Cell k i → Cell l j → here.seats k + i ≡ here.seats l + j → (k ≡ l) × (i ≡ j)
    pub begins : (a : ℕ) → IsArray a → is_handed T f a ≡ false → begins_at T here.frame f a ≡ here.seats (setting.spot a)
    pub spots : (a : ℕ) → here.spot a ≡ setting.spot a
    pub there : (a : ℕ) → IsArray a → setting.spot a < here.rows
    pub low : (k : ℕ) → k < here.rows → here.seats k ≤ memory_words T
    pub less : 4 * memory_words T < 2 ^ 31
    pub start : (k i : ℕ) (n : ℤ) → Cell k i → slice_index_or (row_in s.arrays k) i None ≡ Some n → word_at u.memory (here.seats k + i) ≡ n
    pub input : u.input ≡ s.input
    pub out : u.out ≡ s.out
    pub reads_usable : (v : ℕ) → IsIn v Reads → CanUse Reads v
    pub reads_apart : (x y : ℕ) → IsIn x Reads → IsIn y Reads → x ≢ y → register_of T f Reads x ≢ register_of T f Reads y
    pub reads_inside : (v : ℕ) → IsIn v (slotted T f Reads) → here.frame + T.slot f v < memory_words T
    pub writes_usable : (v : ℕ) → IsIn v Writes → CanUse Writes v
    pub writes_apart : (x y : ℕ) → IsIn x Writes → IsIn y Writes → x ≢ y → register_of T f Writes x ≢ register_of T f Writes y
    pub writes_inside : (v : ℕ) → IsIn v (slotted T f Writes) → here.frame + T.slot f v < memory_words T
    pub writes_slots : (x y : ℕ) → IsIn x (slotted T f Writes) → IsIn y (slotted T f Writes) → T.slot f x ≡ T.slot f y → x ≡ y
    pub slots_free : (v k i : ℕ) → IsIn v (slotted T f Writes) → Cell k i → here.frame + T.slot f v ≢ here.seats k + i

  -- where the word does not touch what holds a value
  pub record Untouched (v : ℕ) : Type 0 where
    pub answer_not : is_slotted (kept T f v) ≡ false → register_of T f (v ∷ []) v ≢ General answer
    pub reads_not : (y : ℕ) → is_slotted (kept T f v) ≡ false → IsIn y (slotted T f Reads) → register_of T f (v ∷ []) v ≢ register_of T f Reads y
    pub writes_not : (y : ℕ) → is_slotted (kept T f v) ≡ false → IsIn y Writes → register_of T f (v ∷ []) v ≢ register_of T f Writes y
    pub slots_not : (y : ℕ) → is_slotted (kept T f v) ≡ true → IsIn y (slotted T f Writes) → T.slot f v ≢ T.slot f y
    pub arrays_not : (k i : ℕ) → is_slotted (kept T f v) ≡ true → Cell k i → here.frame + T.slot f v ≢ here.seats k + i

  -- a place to which a planned word leads: where the words of a place of the layout begin, or where it leads past transfers, one of
  -- which may stand there itself
  pub data IsAt (q place : ℕ) : Type 0 where
    there : place ≡ T.starts f q → IsAt q place
    past_it : place ≡ T.starts f (past T f q) → IsAt q place
    beyond : (to : ℕ) → slice_get (T.layout f).words q ≡ Some (Transfer to) → place ≡ T.starts f (past T f to) → IsAt q place

  -- what a planned word comes to
  pub record Arrived (t : VState) (q : ℕ) : Type 0 where
    pub to : State
    pub forth : Forth m w fit u to
    pub place : IsAt q to.place
    pub calm : to.flying ≡ []
    pub input : to.input ≡ t.input
    pub out : to.out ≡ t.out
    pub stack : (k : ℕ) → k < T.machine.clusters → register to (General (stack_on k)) ≡ pos (4 * here.frame)
    pub link : seen to.registers Link ≡ seen u.registers Link
    pub written : (v : ℕ) (n : ℤ) → IsIn v Writes → t.values v ≡ Some n → Shows T here f v n (holds T to here.frame f v)
    pub kept_value : (v : ℕ) (n : ℤ) → Untouched v → Shows T here f v n (holds T u here.frame f v) → Shows T here f v n (holds T to here.frame f v)
    pub arrays : (k i : ℕ) (n : ℤ) → Cell k i → slice_index_or (row_in t.arrays k) i None ≡ Some n → word_at to.memory (here.seats k + i) ≡ n
    pub elsewhere : (x : ℕ) → ((k i : ℕ) → Cell k i → x ≢ here.seats k + i) → ((v : ℕ) → IsIn v (slotted T f Writes) → x ≢ here.frame + T.slot f v) → word_at to.memory x ≡ word_at u.memory x

  module _ (h : Planning) where
    slot_reads : List ℕ
    slot_reads = slotted T f Reads

    pub loaded : Loaded m w fit T f here.frame size small some Reads u (slotted T f Reads) (length (before T f Reads))
    loaded = once_case m w fit T f here.frame size small some Reads (slotted T f Reads) u h.calm (stands_left w.words u.place (before T f Reads) (plan_word T f p items ∷ behind T f items) h.stands) h.stack
        (λ v i. h.reads_usable v (slotted_from T f v Reads i).0) h.reads_inside (λ x y i j ne. h.reads_apart x y (slotted_from T f x Reads i).0 (slotted_from T f y Reads j).0 ne)

    -- the state before the word itself
    abbrev pub First : State
    First = loaded.to

    pub rest_stands : Stands w.words First.place (plan_word T f p items ∷ behind T f items)
    rest_stands = subst (λ q. Stands w.words q (plan_word T f p items ∷ behind T f items)) (sym loaded.place) (stands_right w.words u.place (before T f Reads) (plan_word T f p items ∷ behind T f items) h.stands)

    pub right : Right T f here IsArray Reads s First Reads
    right v n i e = by (is_slotted (kept T f v)) refl (h.shows v n i e)
      where
        by : (b : Bool) → is_slotted (kept T f v) ≡ b → Shows T here f v n (if b then word_at u.memory (here.frame + T.slot f v) else register u (register_of T f (v ∷ []) v)) → Shows T here f v n (register First (register_of T f Reads v))
        by true q k = subst (λ x. Shows T here f v n x) (sym (loaded.at v (slotted_in T f v Reads i q))) (read_shows T here f v n (word_at u.memory (here.frame + T.slot f v)) (h.branch_plain v) k)
        by false q k =
            let apart : (y : ℕ) → IsIn y (slotted T f Reads) → register_of T f Reads v ≢ register_of T f Reads y =
            λ y j. h.reads_apart v y i (slotted_from T f y Reads j).0 (λ e. let z : is_slotted (kept T f v) ≡ true = ap (λ x. is_slotted (kept T f x)) e ∙ (slotted_from T f y Reads j).1 in let w : true ≡ false = sym z ∙ q in absurd (cc)) in
            subst (λ x. Shows T here f v n x) (sym (loaded.others (register_of T f Reads v) apart (h.reads_usable v i).not_answer ∙ ap (register u) (own_name T f v Reads (v ∷ []) q))) k

    pub stack_first : (k : ℕ) → k < T.machine.clusters → register First (General (stack_on k)) ≡ pos (4 * here.frame)
    stack_first k lt = loaded.others (General (stack_on k)) (λ v i e. (h.reads_usable v (slotted_from T f v Reads i).0).not_stack k (sym e)) (stack_no_answer k) ∙ h.stack k lt

    pub ready : Ready T w f here setting IsArray Reads Writes s First
    ready = record {
      memory = size;
      small = small;
      texts = h.texts;
      inside = h.inside;
      apart = h.apart;
      begins = h.begins;
      spots = h.spots;
      there = h.there;
      low = h.low;
      less = h.less;
      start = λ k i n has e. ap (λ g. word_at g (here.seats k + i)) loaded.memory ∙ h.start k i n has e;
      stack = stack_first;
      input = loaded.quiet.input ∙ h.input;
      out = loaded.quiet.out ∙ h.out;
    }

    abbrev pub CodeOf : List Operation
    CodeOf = (plan_word T f p items).ops

    module _ (t : VState) (done : laid_effect setting s items s ≡ Some t) where
      pub ran : Ran T w f here setting IsArray Reads Writes s First p items s t
      ran = ran_items T w f here setting IsArray Reads Writes s First p ready items s t right h.proper (record { count = refl; each = λ k. refl }) done

      abbrev Carried : List Operation
      Carried = carried_items T f p Reads Writes items

      same : Alike w First CodeOf Carried
      same = alike T f p items w First CodeOf (beside T f p items)

      few : count_by is_observable Carried ≤ 1
      few = let a = ((fits_in_words m CodeOf).0 (fit First.place (plan_word T f p items) rest_stands.0).1).observable in let b = same.observed_same in omega arith

      pub met : Met T w f here setting IsArray Reads Writes s First p items t
      met = met_items T w f here setting IsArray Reads Writes s First p items s t ran few refl refl

      fine_input : (b : Bool) → (b ≡ true → is_left First.input ≡ true) → (b && not (is_left First.input)) ≡ false
      fine_input true g = ap not (g refl)
      fine_input false g = refl

      pub fine : Fine m w First CodeOf
      fine = record {
        addresses = same.bad_same ∙ bad_items T w f here setting IsArray Reads Writes s First p items s t ran;
        input = fine_input (list_any takes_input CodeOf) (λ e. takes_items T w f here setting IsArray Reads Writes s First p items s t ran (sym same.any_taken ∙ e));
      }

      -- the state after the word itself, which leads to a place
      abbrev pub Second : ℕ → State
      Second to = after w First (plan_word T f p items) to

      named_same : (r : Register) → seen (given First w.memory CodeOf First.registers) r ≡ seen (given First w.memory Carried First.registers) r
      named_same r = ap (λ g. seen g r) (same.given_same First.registers)

      stored_same : (x : ℕ) → word_at (memory_after First CodeOf First.memory) x ≡ word_at (memory_after First Carried First.memory) x
      stored_same x = ap (λ g. word_at g x) (same.memory_same First.memory)

      pub second_forth : (to : ℕ) → lead_of First CodeOf ≡ To to → Forth m w fit u (Second to)
      second_forth to e = then_forth m w fit u First (Second to) loaded.comes (word_step m w fit First (plan_word T f p items) to loaded.quiet.calm rest_stands.0 fine e)

      pub second_stack : (to k : ℕ) → k < T.machine.clusters → register (Second to) (General (stack_on k)) ≡ pos (4 * here.frame)
      second_stack to k lt = named_same (General (stack_on k)) ∙ stays_items T w f here setting IsArray Reads Writes s First p (General (stack_on k)) items s t First.registers ran (λ y i e. (h.writes_usable y i).not_stack k (sym e)) ∙ stack_first k lt

      -- once its results in slots are stored
      module _ (to : ℕ) (last : Stored m w fit T f here.frame size small some Writes (Second to) (slotted T f Writes) (length (behind T f items))) where
        memory_then : (x : ℕ) → ((v : ℕ) → IsIn v (slotted T f Writes) → x ≢ here.frame + T.slot f v) → word_at last.to.memory x ≡ word_at (memory_after First CodeOf First.memory) x
        memory_then x free = last.elsewhere x free

        pub written_then : (v : ℕ) (n : ℤ) → IsIn v Writes → t.values v ≡ Some n → Shows T here f v n (holds T last.to here.frame f v)
        written_then v n i e = by (is_slotted (kept T f v)) refl
          where
            good : Shows T here f v n (seen (given First w.memory CodeOf First.registers) (register_of T f Writes v))
            good = subst (λ x. Shows T here f v n x) (sym (named_same (register_of T f Writes v))) (values_items T w f here setting IsArray Reads Writes s First p v items s t First.registers ran (h.writes_usable v i).not_zero (λ y j ne. h.writes_apart v y i j (λ q. ne (sym q))) (inr i) n e)

            by : (b : Bool) → is_slotted (kept T f v) ≡ b → Shows T here f v n (if b then word_at last.to.memory (here.frame + T.slot f v) else register last.to (register_of T f (v ∷ []) v))
            by true q = subst (λ x. Shows T here f v n x) (sym (last.at v (slotted_in T f v Writes i q))) (kept_shows T here f v n _ (h.branch_plain v) good)
            by false q = subst (λ x. Shows T here f v n x) (sym (ap (register last.to) (own_name T f v (v ∷ []) Writes q) ∙ last.others (register_of T f Writes v) (h.writes_usable v i).not_answer)) good

        pub kept_then : (v : ℕ) (n : ℤ) → Untouched v → Shows T here f v n (holds T u here.frame f v) → Shows T here f v n (holds T last.to here.frame f v)
        kept_then v n free k = by (is_slotted (kept T f v)) refl k
          where
            by : (b : Bool) → is_slotted (kept T f v) ≡ b → Shows T here f v n (if b then word_at u.memory (here.frame + T.slot f v) else register u (register_of T f (v ∷ []) v)) → Shows T here f v n (if b then word_at last.to.memory (here.frame + T.slot f v) else register last.to (register_of T f (v ∷ []) v))
            by true q g = subst (λ x. Shows T here f v n x) (sym (
                last.elsewhere (here.frame + T.slot f v) (λ y j e. free.slots_not y q j (omega arith))
                ∙ stored_same (here.frame + T.slot f v)
                ∙ elsewhere_items T w f here setting IsArray Reads Writes s First p (here.frame + T.slot f v) items s t First.memory ran (λ k i has. free.arrays_not k i q has)
                ∙ ap (λ z. word_at z (here.frame + T.slot f v)) loaded.memory)) g
            by false q g = subst (λ x. Shows T here f v n x) (sym (
                last.others (register_of T f (v ∷ []) v) (free.answer_not q)
                ∙ named_same (register_of T f (v ∷ []) v)
                ∙ stays_items T w f here setting IsArray Reads Writes s First p (register_of T f (v ∷ []) v) items s t First.registers ran (λ y i. free.writes_not y q i)
                ∙ loaded.others (register_of T f (v ∷ []) v) (λ y j. free.reads_not y q j) (free.answer_not q))) g

        pub arrays_then : (k i : ℕ) (n : ℤ) → Cell k i → slice_index_or (row_in t.arrays k) i None ≡ Some n → word_at last.to.memory (here.seats k + i) ≡ n
        arrays_then k i n has e =
            last.elsewhere (here.seats k + i) (λ v j q. h.slots_free v k i j has (sym q))
            ∙ stored_same (here.seats k + i)
            ∙ rows_items T w f here setting IsArray Reads Writes s First p items s t First.memory ran ready.start k i n has e

        pub elsewhere_then : (x : ℕ) → ((k i : ℕ) → Cell k i → x ≢ here.seats k + i) → ((v : ℕ) → IsIn v (slotted T f Writes) → x ≢ here.frame + T.slot f v) → word_at last.to.memory x ≡ word_at u.memory x
        elsewhere_then x free slots = last.elsewhere x slots ∙ stored_same x ∙ elsewhere_items T w f here setting IsArray Reads Writes s First p x items s t First.memory ran free ∙ ap (λ z. word_at z x) loaded.memory

        pub arrived : (q : ℕ) → lead_of First CodeOf ≡ To to → (v : State) → Comes m w fit last.to v → v.registers ≡ last.to.registers → v.memory ≡ last.to.memory → Quiet last.to v → IsAt q v.place → Arrived t q
        arrived q lead v comes regs mem quiet place = record {
          to = v;
          forth = forth_on m w fit u (Second to) v (second_forth to lead) (comes_on m w fit (Second to) last.to v last.comes comes);
          place = place;
          calm = quiet.calm;
          input = quiet.input ∙ last.quiet.input ∙ ap (drop (count_by takes_input CodeOf)) (loaded.quiet.input ∙ h.input) ∙ ap (λ n. drop n s.input) same.taken_same ∙ sym met.input;
          out = quiet.out ∙ last.quiet.out ∙ ap (λ ys. ys ++ flat_map (print_of w First) CodeOf) (loaded.quiet.out ∙ h.out) ∙ ap (λ ys. s.out ++ ys) same.printed_same ∙ sym met.out;
          stack = λ k lt. ap (λ g. seen g (General (stack_on k))) regs ∙ last.others (General (stack_on k)) (stack_no_answer k) ∙ second_stack to k lt;
          link = ap (λ g. seen g Link) regs ∙ last.others Link (link_no_general answer)
              ∙ named_same Link
              ∙ stays_items T w f here setting IsArray Reads Writes s First p Link items s t First.registers ran (λ y i. link_unnamed T f Writes y)
              ∙ loaded.others Link (λ y i. link_unnamed T f Reads y) (link_no_general answer);
          written = λ y n i e. on y n (written_then y n i e);
          kept_value = λ y n free k. on y n (kept_then y n free k);
          arrays = λ k i n has e. ap (λ g. word_at g (here.seats k + i)) mem ∙ arrays_then k i n has e;
          elsewhere = λ x a b. ap (λ g. word_at g x) mem ∙ elsewhere_then x a b;
        }
          where
            on : (y : ℕ) (n : ℤ) → Shows T here f y n (holds T last.to here.frame f y) → Shows T here f y n (holds T v here.frame f y)
            on y n k = subst (λ x. Shows T here f y n x) (sym (ap (λ g. if is_slotted (kept T f y) then word_at g (here.frame + T.slot f y) else seen v.registers (register_of T f (y ∷ []) y)) mem ∙ ap (λ g. if is_slotted (kept T f y) then word_at last.to.memory (here.frame + T.slot f y) else seen g (register_of T f (y ∷ []) y)) regs)) k
