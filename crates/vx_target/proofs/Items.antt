-- The items of a word, one after the other: what they do to values, arrays, input and output, the operations that carry them do to
-- registers, memory, input and output.
use Rattle.std.proofs.Common.{◌≡◌, ◌≢◌, ◌≤◌, ◌⊎◌, inl, inr, ⊎_elim, ◌+◌, ℕ, ℤ, Bool, true, false, ◌||◌, not, eqb, cond, Option, Some, None, List, [], ◌∷◌, ◌++◌, refl, sym, ap, ◌∙◌, subst, arith}
use Rattle.std.specs.Prelude.{if◌then◌else◌, drop, count_by}
use Rattle.std.specs.List.{list_any, flat_map}
use Rattle.std.proofs.lemmas.Bool.{ne_eqb, false≢true}
use Rattle.std.proofs.lemmas.List.{append-nil}
use Rattle.vx_flow.specs.declared.graph.Op.{Op}
use Rattle.vx_flow.specs.Effects.{Content, State as VState, Setting, IsIn, is_one as is_one_there, effect, reads, writes}
use Rattle.vx_flow.proofs.Members.{in_right}
use Rattle.vx_isa.specs.declared.operation.Register.{Register}
use Rattle.vx_isa.specs.declared.operation.Register.TheVariants.{Branch}
use Rattle.vx_isa.specs.declared.operation.Operation.{Operation}
use Rattle.vx_isa.specs.declared.operation.Operation.TheVariants.{Goto}
use Rattle.vx_isa.specs.declared.program.WordProgram.{WordProgram}
use Rattle.vx_isa.specs.Operations.{is_zero, is_observable, destination_of}
use Rattle.vx_isa.specs.Machine.{State, Lead, To, register, number_of, memory_after, takes_input, print_of, has_bad_address, lead_of, is_taken, is_left}
use Rattle.vx_isa.proofs.Lists.{count_by-cons}
use Rattle.vx_mixed.specs.declared.layout.Laid.{Laid}
use Rattle.vx_mixed.specs.declared.layout.Laid.TheVariants.{Plain, Split}
use Rattle.vx_mixed.specs.Meaning.{into, leaves_on, picked}
use Rattle.vx_layout.specs.Laid.{laid_effect, laid_next}
use Rattle.vx_mixed.specs.LaidSettled.{laid_reads, laid_writes}
use Rattle.vx_target.specs.Target.{Target, branch_of, register_of, carried, carried_items, leads, slotted, is_split}
use Rattle.vx_target.specs.Tied.{Seating, Shows, HasCell, word_at}
use Rattle.vx_target.proofs.Cells.{same_or_not, SameShape, shape_on}
use Rattle.vx_target.proofs.Calm.{seen, put_to, put_at, put_off, given}
use Rattle.vx_target.proofs.Forms.{one_alike, memory_on}
use Rattle.vx_target.proofs.Proper.{ProperItems}
use Rattle.vx_target.proofs.Reading.{Right, right_left, right_right, test_read}
use Rattle.vx_target.proofs.Op.{Standing, Ready, Wrote, no_value, one_value, Done, op_done}

taken_alike : (y : Bool) (z : ℤ) → cond (is_one_there z) y (not y) ≡ is_taken y z
taken_alike true z = by (is_one_there z) ∙ one_alike z
  where
    by : (b : Bool) → cond b true false ≡ b
    by true = refl
    by false = refl
taken_alike false z = by (is_one_there z) ∙ ap not (one_alike z)
  where
    by : (b : Bool) → cond b false true ≡ not b
    by true = refl
    by false = refl

or_false : (a b : Bool) → a ≡ false → b ≡ false → (a || b) ≡ false
or_false a b e f = ap (λ x. x || b) e ∙ f

or_cases : (a b : Bool) → (a || b) ≡ true → (a ≡ true) ⊎ (b ≡ true)
or_cases true b e = inl refl
or_cases false b e = inr e

in_nothing : (v : ℕ) (xs ys : List ℕ) → xs ≡ [] → IsIn v (xs ++ ys) → IsIn v ys
in_nothing v xs ys e i = subst (λ z. IsIn v (z ++ ys)) e i

in_one : (v y : ℕ) (xs ys : List ℕ) → xs ≡ y ∷ [] → IsIn v (xs ++ ys) → (v ≡ y) ⊎ IsIn v ys
in_one v y xs ys e i = subst (λ z. IsIn v (z ++ ys)) e i

is_one_of : (y : ℕ) (xs ys : List ℕ) → xs ≡ y ∷ [] → IsIn y (xs ++ ys)
is_one_of y xs ys e = subst (λ z. IsIn y (z ++ ys)) (sym e) (inl refl)

module _ (T : Target) (w : WordProgram) (f : ℕ) (here : Seating) (setting : Setting) (IsArray : ℕ → Type 0) (rs ws : List ℕ) (s : VState) (u : State) (p : ℕ) where
  abbrev pub Ops : List Laid → List Operation
  Ops items = carried_items T f p rs ws items

  abbrev pub OpDone : Op → Operation → VState → VState → Type 0
  OpDone op o t t1 = Done T w f here setting IsArray rs ws s u op o t t1

  abbrev pub Wrought : Op → Operation → VState → VState → Type 0
  Wrought op o t t1 = Wrote T w f here setting IsArray rs ws s u op o t t1

  abbrev pub Shown : List (List Content) → (ℕ → ℤ) → Type 0
  Shown rows memory = Standing T w f here setting IsArray rs ws s u rows memory

  -- the items do something from t to t1, one after the other
  abbrev pub Ran : List Laid → VState → VState → Type 0
  Ran [] t t1 = t ≡ t1
  Ran (Plain op k ∷ items) t t1 = (t' : VState) × OpDone op (carried T f rs ws k op) t t' × Ran items t' t1
  Ran (Split test y q ∷ items) t t1 = Ran items t t1

  pub ran_items : Ready T w f here setting IsArray rs ws s u → (items : List Laid) (t t1 : VState) → Right T f here IsArray rs s u (laid_reads items) → ProperItems T f IsArray items → SameShape s.arrays t.arrays → laid_effect setting s items t ≡ Some t1 → Ran items t t1
  ran_items ready [] t t1 right proper like e = cc
  ran_items ready (Split test y q ∷ items) t t1 right proper like e = ran_items ready items t t1 (right_right T f here IsArray rs s u (test ∷ []) (laid_reads items) right) proper.1 like e
  ran_items ready (Plain op k ∷ items) t t1 right proper like e =
      by (effect setting s op t) refl e (λ t' l h. ran_items ready items t' t1 (right_right T f here IsArray rs s u (reads op) (laid_reads items) right) proper.1 l h)
    where
      by : (x : Option VState) → effect setting s op t ≡ x → into x (laid_effect setting s items) ≡ Some t1 → ((t' : VState) → SameShape s.arrays t'.arrays → laid_effect setting s items t' ≡ Some t1 → Ran items t' t1) → Ran (Plain op k ∷ items) t t1
      by None ex h more = absurd (cc)
      by (Some t') ex h more =
          let d = op_done T w f here setting IsArray rs ws s u ready op k t t' (right_left T f here IsArray rs s u (reads op) (laid_reads items) right) proper.0 like ex in
          (t', d, more t' (shape_on s.arrays t.arrays t'.arrays like d.shape) h)

  -- arrays

  pub shape_items : (items : List Laid) (t t1 : VState) → Ran items t t1 → SameShape t.arrays t1.arrays
  shape_items [] t t1 r = subst (λ x. SameShape t.arrays x.arrays) r (record { count = refl; each = λ k. refl })
  shape_items (Plain op k ∷ items) t t1 r = shape_on t.arrays r.0.arrays t1.arrays r.1.shape (shape_items items r.0 t1 r.2)
  shape_items (Split test y q ∷ items) t t1 r = shape_items items t t1 r

  pub rows_items : (items : List Laid) (t t1 : VState) (memory : ℕ → ℤ) → Ran items t t1 → Shown t.arrays memory → Shown t1.arrays (memory_after u (Ops items) memory)
  rows_items [] t t1 memory r h = subst (λ x. Shown x.arrays memory) r h
  rows_items (Plain op k ∷ items) t t1 memory r h =
      subst (λ m. Shown t1.arrays m) (sym (memory_on u (carried T f rs ws k op) (Ops items) memory))
      (rows_items items r.0 t1 (memory_after u (carried T f rs ws k op ∷ []) memory) r.2 (r.1.rows memory h))
  rows_items (Split test y q ∷ items) t t1 memory r h = rows_items items t t1 memory r h

  pub elsewhere_items : (x : ℕ) (items : List Laid) (t t1 : VState) (memory : ℕ → ℤ) → Ran items t t1 → ((k i : ℕ) → HasCell s.arrays k i → x ≢ here.seats k + i) → word_at (memory_after u (Ops items) memory) x ≡ word_at memory x
  elsewhere_items x [] t t1 memory r h = refl
  elsewhere_items x (Plain op k ∷ items) t t1 memory r h =
      ap (λ m. word_at m x) (memory_on u (carried T f rs ws k op) (Ops items) memory)
      ∙ elsewhere_items x items r.0 t1 (memory_after u (carried T f rs ws k op ∷ []) memory) r.2 h ∙ r.1.elsewhere x memory h
  elsewhere_items x (Split test y q ∷ items) t t1 memory r h = elsewhere_items x items t t1 memory r h

  -- addresses and input

  pub bad_items : (items : List Laid) (t t1 : VState) → Ran items t t1 → list_any (has_bad_address w.memory u) (Ops items) ≡ false
  bad_items [] t t1 r = refl
  bad_items (Plain op k ∷ items) t t1 r = or_false (has_bad_address w.memory u (carried T f rs ws k op)) _ r.1.bad (bad_items items r.0 t1 r.2)
  bad_items (Split test y q ∷ items) t t1 r = bad_items items t t1 r

  pub takes_items : (items : List Laid) (t t1 : VState) → Ran items t t1 → list_any takes_input (Ops items) ≡ true → is_left u.input ≡ true
  takes_items [] t t1 r e = absurd (cc)
  takes_items (Plain op k ∷ items) t t1 r e = ⊎_elim r.1.takes (takes_items items r.0 t1 r.2) (or_cases (takes_input (carried T f rs ws k op)) _ e)
  takes_items (Split test y q ∷ items) t t1 r e = takes_items items t t1 r e

  -- registers and values

  stays_case : (r : Register) (op : Op) (o : Operation) (rest : List ℕ) (t t' : VState) (regs : Register → ℤ) → Wrought op o t t' → ((y : ℕ) → IsIn y (writes op ++ rest) → r ≢ register_of T f ws y) → seen (put_to (destination_of o) (number_of w.memory u o) regs) r ≡ seen regs r
  stays_case r op o rest t t' regs (no_value wn dn vn) h = ap (λ d. seen (put_to d (number_of w.memory u o) regs) r) dn
  stays_case r op o rest t t' regs (one_value v x wv dv tv sh) h =
      ap (λ d. seen (put_to d (number_of w.memory u o) regs) r) dv ∙ put_off (register_of T f ws v) (number_of w.memory u o) regs r (h v (is_one_of v (writes op) rest wv))

  -- a register by which no written value is named stays
  pub stays_items : (r : Register) (items : List Laid) (t t1 : VState) (regs : Register → ℤ) → Ran items t t1 → ((y : ℕ) → IsIn y (laid_writes items) → r ≢ register_of T f ws y) → seen (given u w.memory (Ops items) regs) r ≡ seen regs r
  stays_items r [] t t1 regs ran h = refl
  stays_items r (Plain op k ∷ items) t t1 regs ran h =
      stays_items r items ran.0 t1 (put_to (destination_of (carried T f rs ws k op)) (number_of w.memory u (carried T f rs ws k op)) regs) ran.2 (λ y i. h y (in_right y (writes op) (laid_writes items) i))
      ∙ stays_case r op (carried T f rs ws k op) (laid_writes items) t ran.0 regs ran.1.wrote h
  stays_items r (Split test y q ∷ items) t t1 regs ran h = stays_items r items t t1 regs ran h

  same_case : (v : ℕ) (op : Op) (o : Operation) (rest : List ℕ) (t t' : VState) → Wrought op o t t' → (IsIn v (writes op ++ rest) → ⊥) → t'.values v ≡ t.values v
  same_case v op o rest t t' (no_value wn dn vn) h = vn v
  same_case v op o rest t t' (one_value y x wv dv tv sh) h = tv v ∙ ap (λ b. if b then x else t.values v) (ne_eqb v y (λ e. h (subst (λ z. IsIn z (writes op ++ rest)) (sym e) (is_one_of y (writes op) rest wv))))

  -- a value that is not written stays
  pub same_items : (v : ℕ) (items : List Laid) (t t1 : VState) → Ran items t t1 → (IsIn v (laid_writes items) → ⊥) → t1.values v ≡ t.values v
  same_items v [] t t1 ran h = ap (λ x. x.values v) (sym ran)
  same_items v (Plain op k ∷ items) t t1 ran h = same_items v items ran.0 t1 ran.2 (λ i. h (in_right v (writes op) (laid_writes items) i)) ∙ same_case v op (carried T f rs ws k op) (laid_writes items) t ran.0 ran.1.wrote h
  same_items v (Split test y q ∷ items) t t1 ran h = same_items v items t t1 ran h

  -- the value's register holds its number
  abbrev pub Good : VState → (Register → ℤ) → ℕ → Type 0
  Good t regs v = (n : ℤ) → t.values v ≡ Some n → Shows T here f v n (seen regs (register_of T f ws v))

  values_case : (v : ℕ) (op : Op) (o : Operation) (rest : List ℕ) (t t' : VState) (regs : Register → ℤ) → Wrought op o t t' → is_zero (register_of T f ws v) ≡ false → ((y : ℕ) → IsIn y (writes op ++ rest) → y ≢ v → register_of T f ws v ≢ register_of T f ws y) → Good t regs v ⊎ IsIn v (writes op ++ rest) → Good t' (put_to (destination_of o) (number_of w.memory u o) regs) v ⊎ IsIn v rest
  values_case v op o rest t t' regs (no_value wn dn vn) zero_not apart h = ⊎_elim
      (λ g. inl (λ n e. subst (λ d. Shows T here f v n (seen (put_to d (number_of w.memory u o) regs) (register_of T f ws v))) (sym dn) (g n (sym (vn v) ∙ e))))
      (λ i. inr (in_nothing v (writes op) rest wn i)) h
  values_case v op o rest t t' regs (one_value y x wv dv tv sh) zero_not apart h = ⊎_elim named other (same_or_not v y)
    where
      named : (eqb v y ≡ true) × (v ≡ y) → Good t' (put_to (destination_of o) (number_of w.memory u o) regs) v ⊎ IsIn v rest
      named q = inl (λ n e.
          let known : x ≡ Some n = sym (ap (λ b. if b then x else t.values v) q.0) ∙ sym (tv v) ∙ e in
          let is : seen (put_to (destination_of o) (number_of w.memory u o) regs) (register_of T f ws v) ≡ (number_of w.memory u o) =
          ap (λ d. seen (put_to d (number_of w.memory u o) regs) (register_of T f ws v)) (dv ∙ ap (λ z. Some (register_of T f ws z)) (sym q.1)) ∙ put_at (register_of T f ws v) (number_of w.memory u o) regs zero_not in
          subst (λ z. Shows T here f v n z) (sym is) (subst (λ z. Shows T here f z n (number_of w.memory u o)) (sym q.1) (sh n known)))

      other : (eqb v y ≡ false) × (v ≢ y) → Good t' (put_to (destination_of o) (number_of w.memory u o) regs) v ⊎ IsIn v rest
      other q = ⊎_elim
          (λ g. inl (λ n e.
          let was : t.values v ≡ Some n = sym (ap (λ b. if b then x else t.values v) q.0) ∙ sym (tv v) ∙ e in
          let is : seen (put_to (destination_of o) (number_of w.memory u o) regs) (register_of T f ws v) ≡ seen regs (register_of T f ws v) =
          ap (λ d. seen (put_to d (number_of w.memory u o) regs) (register_of T f ws v)) dv ∙ put_off (register_of T f ws y) (number_of w.memory u o) regs (register_of T f ws v) (apart y (is_one_of y (writes op) rest wv) (λ z. q.1 (sym z))) in
          subst (λ z. Shows T here f v n z) (sym is) (g n was)))
          (λ i. ⊎_elim (λ z. absurd (q.1 z)) (λ j. inr j) (in_one v y (writes op) rest wv i)) h

  pub values_items : (v : ℕ) (items : List Laid) (t t1 : VState) (regs : Register → ℤ) → Ran items t t1 → is_zero (register_of T f ws v) ≡ false → ((y : ℕ) → IsIn y (laid_writes items) → y ≢ v → register_of T f ws v ≢ register_of T f ws y) → Good t regs v ⊎ IsIn v (laid_writes items) → Good t1 (given u w.memory (Ops items) regs) v
  values_items v [] t t1 regs ran zero_not apart h = ⊎_elim (λ g. subst (λ x. Good x regs v) ran g) (λ i. absurd i) h
  values_items v (Plain op k ∷ items) t t1 regs ran zero_not apart h =
      values_items v items ran.0 t1 (put_to (destination_of (carried T f rs ws k op)) (number_of w.memory u (carried T f rs ws k op)) regs) ran.2 zero_not (λ y i. apart y (in_right y (writes op) (laid_writes items) i))
      (values_case v op (carried T f rs ws k op) (laid_writes items) t ran.0 regs ran.1.wrote zero_not apart h)
  values_items v (Split test y q ∷ items) t t1 regs ran zero_not apart h = values_items v items t t1 regs ran zero_not apart h

  -- where a word leads: on, or to the words of the place of the split that is taken
  pub data Went (items : List Laid) (next q : ℕ) (l : Lead) : Type 0 where
    straight : q ≡ next → l ≡ To (u.place + 1) → Went items next q l
    by_split : (test to : ℕ) (y : Bool) → IsIn (Split test y to) items → q ≡ to → l ≡ To (leads T f p (slotted T f ws) to) → Went items next q l

  went_on : (item : Laid) (items : List Laid) (next q : ℕ) (l l' : Lead) → l' ≡ l → Went items next q l → Went (item ∷ items) next q l'
  went_on item items next q l l' e (straight a b) = straight a (e ∙ b)
  went_on item items next q l l' e (by_split test to y m a b) = by_split test to y (inr m) a (e ∙ b)

  split_went : (test to : ℕ) (y : Bool) (items : List Laid) (next q : ℕ) (b : Bool) → picked (Some b) None (Some to) (laid_next s next items) ≡ Some q → (laid_next s next items ≡ Some q → Went items next q (lead_of u (Ops items))) → Went (Split test y to ∷ items) next q (if b then To (leads T f p (slotted T f ws) to) else lead_of u (Ops items))
  split_went test to y items next q true e more = by_split test to y (inl refl) (cc) refl
  split_went test to y items next q false e more = went_on (Split test y to) items next q _ _ refl (more e)

  test_known : (y : Bool) (to q : ℕ) (x : Content) (next : Option ℕ) → picked (leaves_on x y) None (Some to) next ≡ Some q → (z : ℤ) × (x ≡ Some z)
  test_known y to q None next e = absurd (cc)
  test_known y to q (Some z) next e = (z, refl)

  pub lead_items : (items : List Laid) (next q : ℕ) (t t1 : VState) → Ran items t t1 → Right T f here IsArray rs s u (laid_reads items) → ProperItems T f IsArray items → laid_next s next items ≡ Some q → Went items next q (lead_of u (Ops items))
  lead_items [] next q t t1 ran right proper e = straight (cc) refl
  lead_items (Plain op k ∷ items) next q t t1 ran right proper e =
      went_on (Plain op k) items next q _ _ (ran.1.leads (Ops items)) (lead_items items next q ran.0 t1 ran.2 (right_right T f here IsArray rs s u (reads op) (laid_reads items) right) proper.1 e)
  lead_items (Split test y to ∷ items) next q t t1 ran right proper e =
      let z = test_known y to q (s.values test) (laid_next s next items) e in
      let at : register u (Branch (record { cluster = 0; number = branch_of T f rs test })) ≡ z.0 = test_read T f here IsArray rs s u test z.0 (right_left T f here IsArray rs s u (test ∷ []) (laid_reads items) right) proper.0.0 proper.0.1 z.1 in
      let took : picked (Some (is_taken y z.0)) None (Some to) (laid_next s next items) ≡ Some q =
      ap (λ b. picked (Some b) None (Some to) (laid_next s next items)) (sym (taken_alike y z.0)) ∙ ap (λ x. picked (leaves_on x y) None (Some to) (laid_next s next items)) (sym z.1) ∙ e in
      subst (λ x. Went (Split test y to ∷ items) next q (if is_taken y x then To (leads T f p (slotted T f ws) to) else lead_of u (Ops items))) (sym at)
      (split_went test to y items next q (is_taken y z.0) took (λ h. lead_items items next q t t1 ran (right_right T f here IsArray rs s u (test ∷ []) (laid_reads items) right) proper.1 h))

  -- without a split a word goes on, or where a goto behind its operations leads

  pub goes_on : (items : List Laid) (next q : ℕ) → list_any is_split items ≡ false → laid_next s next items ≡ Some q → q ≡ next
  goes_on [] next q h e = (let z : next ≡ q = cc in sym z)
  goes_on (Plain op k ∷ items) next q h e = goes_on items next q h e
  goes_on (Split test y to ∷ items) next q h e = absurd (false≢true (sym h))

  pub goes_items : (items : List Laid) (t t1 : VState) (to : ℕ) → Ran items t t1 → list_any is_split items ≡ false → lead_of u (Ops items ++ Goto to ∷ []) ≡ To to
  goes_items [] t t1 to ran h = refl
  goes_items (Plain op k ∷ items) t t1 to ran h = ran.1.leads (Ops items ++ Goto to ∷ []) ∙ goes_items items ran.0 t1 to ran.2 h
  goes_items (Split test y q ∷ items) t t1 to ran h = absurd (false≢true (sym h))

  -- input and output, where at most one operation meets them

  pub record Nothing (items : List Laid) (t t1 : VState) : Type 0 where
    pub out : t1.out ≡ t.out
    pub prints : flat_map (print_of w u) (Ops items) ≡ []
    pub input : t1.input ≡ t.input
    pub takes : count_by takes_input (Ops items) ≡ 0

  observed : (o : Operation) (ops : List Operation) → count_by is_observable (o ∷ ops) ≡ cond (is_observable o) 1 0 + count_by is_observable ops
  observed o ops = count_by-cons is_observable o ops

  taken : (o : Operation) (ops : List Operation) → count_by takes_input (o ∷ ops) ≡ cond (takes_input o) 1 0 + count_by takes_input ops
  taken o ops = count_by-cons takes_input o ops

  quiet_one : (o : Operation) (ops : List Operation) → count_by is_observable (o ∷ ops) ≡ 0 → (is_observable o ≡ false) × (count_by is_observable ops ≡ 0)
  quiet_one o ops e = by (is_observable o) refl
    where
      by : (b : Bool) → is_observable o ≡ b → (is_observable o ≡ false) × (count_by is_observable ops ≡ 0)
      by true h = absurd (let z : 0 ≡ 1 + count_by is_observable ops = sym e ∙ observed o ops ∙ ap (λ b. cond b 1 0 + count_by is_observable ops) h in omega arith)
      by false h = (h, (let z : 0 ≡ 0 + count_by is_observable ops = sym e ∙ observed o ops ∙ ap (λ b. cond b 1 0 + count_by is_observable ops) h in omega arith))

  pub nothing_items : (items : List Laid) (t t1 : VState) → Ran items t t1 → count_by is_observable (Ops items) ≡ 0 → Nothing items t t1
  nothing_items [] t t1 ran e = record { out = ap (λ x. x.out) (sym ran); prints = refl; input = ap (λ x. x.input) (sym ran); takes = refl }
  nothing_items (Plain op k ∷ items) t t1 ran e =
      let o : Operation = carried T f rs ws k op in
      let q = quiet_one o (Ops items) e in
      let r = nothing_items items ran.0 t1 ran.2 q.1 in
      let x = ran.1.out_same q.0 in
      let y = ran.1.input_same q.0 in
      record {
        out = r.out ∙ x.0;
        prints = ap (λ z. z ++ flat_map (print_of w u) (Ops items)) x.1 ∙ r.prints;
        input = r.input ∙ y.0;
        takes = (let z : count_by takes_input (o ∷ Ops items) ≡ 0 + count_by takes_input (Ops items) = taken o (Ops items) ∙ ap (λ b. cond b 1 0 + count_by takes_input (Ops items)) y.1 in let j = r.takes in omega arith);
      }
  nothing_items (Split test y q ∷ items) t t1 ran e = let r = nothing_items items t t1 ran e in record { out = r.out; prints = r.prints; input = r.input; takes = r.takes }

  pub record Met (items : List Laid) (t1 : VState) : Type 0 where
    pub out : t1.out ≡ s.out ++ flat_map (print_of w u) (Ops items)
    pub input : t1.input ≡ drop (count_by takes_input (Ops items)) s.input

  pub met_items : (items : List Laid) (t t1 : VState) → Ran items t t1 → count_by is_observable (Ops items) ≤ 1 → t.out ≡ s.out → t.input ≡ s.input → Met items t1
  met_items [] t t1 ran few a b = record { out = ap (λ x. x.out) (sym ran) ∙ a ∙ sym (append-nil s.out); input = ap (λ x. x.input) (sym ran) ∙ b }
  met_items (Split test y q ∷ items) t t1 ran few a b = let r = met_items items t t1 ran few a b in record { out = r.out; input = r.input }
  met_items (Plain op k ∷ items) t t1 ran few a b = by (is_observable (carried T f rs ws k op)) refl (λ n x y. met_items items ran.0 t1 ran.2 n x y)
    where
      by : (c : Bool) → is_observable (carried T f rs ws k op) ≡ c → (count_by is_observable (Ops items) ≤ 1 → ran.0.out ≡ s.out → ran.0.input ≡ s.input → Met items t1) → Met (Plain op k ∷ items) t1
      by true h more =
          let n : count_by is_observable (Ops items) ≡ 0 = (let z = observed (carried T f rs ws k op) (Ops items) ∙ ap (λ c. cond c 1 0 + count_by is_observable (Ops items)) h in omega arith) in
          let r = nothing_items items ran.0 t1 ran.2 n in
          let z : count_by takes_input (carried T f rs ws k op ∷ []) ≡ count_by takes_input (carried T f rs ws k op ∷ Ops items) =
          taken (carried T f rs ws k op) [] ∙ ap (λ j. cond (takes_input (carried T f rs ws k op)) 1 0 + j) (sym r.takes) ∙ sym (taken (carried T f rs ws k op) (Ops items)) in
          record {
            out = r.out ∙ ran.1.out_more a ∙ ap (λ ys. s.out ++ ys) (sym (append-nil (print_of w u (carried T f rs ws k op))) ∙ ap (λ ys. print_of w u (carried T f rs ws k op) ++ ys) (sym r.prints));
            input = r.input ∙ ran.1.input_less b ∙ ap (λ j. drop j s.input) z;
          }
      by false h more =
          let n : count_by is_observable (Ops items) ≤ 1 = (let z = observed (carried T f rs ws k op) (Ops items) ∙ ap (λ c. cond c 1 0 + count_by is_observable (Ops items)) h in omega arith) in
          let x = ran.1.out_same h in
          let y = ran.1.input_same h in
          let r = more n (x.0 ∙ a) (y.0 ∙ b) in
          record {
            out = r.out ∙ ap (λ ys. s.out ++ (ys ++ flat_map (print_of w u) (Ops items))) (sym x.1);
            input = r.input ∙ ap (λ j. drop j s.input) (let z : count_by takes_input (carried T f rs ws k op ∷ Ops items) ≡ 0 + count_by takes_input (Ops items) = taken (carried T f rs ws k op) (Ops items) ∙ ap (λ c. cond c 1 0 + count_by takes_input (Ops items)) y.1 in let j : count_by takes_input (Ops items) ≡ count_by takes_input (carried T f rs ws k op ∷ Ops items) = omega arith in j);
          }
