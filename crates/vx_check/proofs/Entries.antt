-- Lists of writes: how many cycles they need, by their entries.
use Rattle.std.proofs.Common.{◌≡◌, ℕ, zero, suc, ◌+◌, ◌≤◌, Bool, true, false, List, [], ◌∷◌, ◌++◌, Some, None, refl, sym, subst, ap, ◌∙◌, arith, inl, inr, ⊎_elim}
use Rattle.std.specs.Prelude.{max, if◌then◌else◌}
use Rattle.vx_tables.specs.Rows.{IsIn}
use Rattle.vx_tables.proofs.Members.{in_left, in_right, in_front_or_last}
use Rattle.vx_isa.specs.declared.operation.Register.{Register}
use Rattle.vx_isa.specs.declared.operation.Operation.{Operation}
use Rattle.vx_isa.specs.declared.operation.Operation.TheVariants.{Compute, Move, Select, Load, Store, Input, More, OutText, OutDecimal, OutByte, Goto, BranchOn, Call, Return, FromLink, ToLink, EndByTrap, Halt}
use Rattle.vx_isa.specs.declared.program.Word.{Word}
use Rattle.vx_isa.specs.Numbers.{Numbers}
use Rattle.vx_isa.specs.Operations.{same, is_zero, destination_of, is_call, latency_of}
use Rattle.vx_isa.specs.Machine.{cycles_of}
use Rattle.vx_isa.specs.Paths.{Among}
use Rattle.vx_isa.proofs.AnyTiming.{tells}
use Rattle.vx_check.specs.declared.in_flight.InFlight.{InFlight}
use Rattle.vx_check.specs.InFlight.{Carries, IsCarried, IsMade, Joins, JoinsIf, Leaves, Makes, leads_anywhere, left_of}

one_below : (r : Register) (n k : ℕ) (x : InFlight) (b : Bool) → same x.to r ≡ b → (x.to ≡ r → x.left ≤ n) → k ≤ n → max (if b then x.left else 0) k ≤ n
one_below r n k x true e h le = let a = h (tells.equal x.to r e) in omega arith
one_below r n k x false e h le = omega arith

-- where each write to the register needs so many cycles at most, the list does
pub left_below : (r : Register) (n : ℕ) (xs : List InFlight) → ((x : InFlight) → IsIn x xs → x.to ≡ r → x.left ≤ n) → left_of xs r ≤ n
left_below r n [] h = omega arith
left_below r n (x ∷ xs) h = one_below r n (left_of xs r) x (same x.to r) refl (h x (inl refl)) (left_below r n xs (λ y a. h y (inr a)))

head_by : (b : Bool) (l k : ℕ) → b ≡ true → l ≤ max (if b then l else 0) k
head_by true l k e = omega arith
head_by false l k e = absurd (cc)

-- a list needs as many cycles as each of its writes
pub left_at : (x : InFlight) (xs : List InFlight) → IsIn x xs → x.left ≤ left_of xs x.to
left_at x [] a = absurd a
left_at x (y ∷ ys) (inl e) = subst (λ (z : InFlight). x.left ≤ max (if same z.to x.to then z.left else 0) (left_of ys x.to)) e (head_by (same x.to x.to) x.left (left_of ys x.to) (tells.itself x.to))
left_at x (y ∷ ys) (inr a) = let h = left_at x ys a in omega arith

pub left_at_of : (x : InFlight) (xs : List InFlight) (r : Register) → IsIn x xs → x.to ≡ r → x.left ≤ left_of xs r
left_at_of x xs r a e = subst (λ q. x.left ≤ left_of xs q) e (left_at x xs a)

-- a list that needs some cycles for a register has a write to it that does
pub record Found (r : Register) (xs : List InFlight) : Type 0 where
  pub entry : InFlight
  pub here : IsIn entry xs
  pub to_is : entry.to ≡ r
  pub some : 1 ≤ entry.left

found_later : (r : Register) (x : InFlight) (xs : List InFlight) → Found r xs → Found r (x ∷ xs)
found_later r x xs f = record { entry = f.entry; here = inr f.here; to_is = f.to_is; some = f.some }

found_by : (r : Register) (x : InFlight) (xs : List InFlight) (b : Bool) (n : ℕ) → same x.to r ≡ b → x.left ≡ n → 1 ≤ max (if b then n else 0) (left_of xs r) → (1 ≤ left_of xs r → Found r xs) → Found r (x ∷ xs)
found_by r x xs true zero e l h more = found_later r x xs (more (omega arith))
found_by r x xs true (suc n) e l h more = record { entry = x; here = inl refl; to_is = tells.equal x.to r e; some = omega arith }
found_by r x xs false n e l h more = found_later r x xs (more (omega arith))

pub found : (r : Register) (xs : List InFlight) → 1 ≤ left_of xs r → Found r xs
found r [] h = absurd (omega arith)
found r (x ∷ xs) h = found_by r x xs (same x.to r) x.left refl refl h (found r xs)

-- joining

pub joins_put : (xs : List InFlight) (x : InFlight) → Joins xs (x ∷ []) (xs ++ x ∷ [])
joins_put xs x = record {
  grows = λ r. left_below r (left_of (xs ++ x ∷ []) r) xs (λ y a e. left_at_of y (xs ++ x ∷ []) r (in_left y xs (x ∷ []) a) e);
  has = λ r. left_below r (left_of (xs ++ x ∷ []) r) (x ∷ []) (λ y a e. left_at_of y (xs ++ x ∷ []) r (in_right y xs (x ∷ []) a) e);
  only = λ y a. ⊎_elim (λ b. inl b) (λ e. inr (inl e)) (in_front_or_last y x xs a);
}

one_left : (x y : InFlight) (n : Register → ℕ) → x.left ≤ n x.to → IsIn y (x ∷ []) → y.left ≤ n y.to
one_left x y n le (inl e) = subst (λ (z : InFlight). z.left ≤ n z.to) (sym e) le
one_left x y n le (inr a) = absurd a

-- what holds of a write of a list with one
pub only_one : (x : InFlight) (n : Register → ℕ) → x.left ≤ n x.to → (r : Register) → left_of (x ∷ []) r ≤ n r
only_one x n le r = left_below r (n r) (x ∷ []) (λ y a e. subst (λ q. y.left ≤ n q) e (one_left x y n le a))

pub joins_skip : (xs : List InFlight) (x : InFlight) → x.left ≤ left_of xs x.to → Joins xs (x ∷ []) xs
joins_skip xs x le = record { grows = λ r. omega arith; has = only_one x (left_of xs) le; only = λ y a. inl a }

pub joins_none : (xs : List InFlight) → Joins xs [] xs
joins_none xs = record { grows = λ r. omega arith; has = λ r. omega arith; only = λ y a. inl a }

-- of a list with one more
cons_left : (x : InFlight) (xs : List InFlight) (n : Register → ℕ) → ((r : Register) → left_of (x ∷ []) r ≤ n r) → ((r : Register) → left_of xs r ≤ n r) → (r : Register) → left_of (x ∷ xs) r ≤ n r
cons_left x xs n one more r = let a = one r in let b = more r in omega arith

pub joins_then : (x : InFlight) (xs before middle after : List InFlight) → Joins before (x ∷ []) middle → Joins middle xs after → Joins before (x ∷ xs) after
joins_then x xs before middle after a b = record {
  grows = λ r. let h = a.grows r in let k = b.grows r in omega arith;
  has = cons_left x xs (left_of after) (λ r. let h = a.has r in let k = b.grows r in omega arith) b.has;
  only = λ y i. ⊎_elim (λ j. ⊎_elim (λ k. inl k) (λ k. inr (one_of y x xs k)) (a.only y j)) (λ j. inr (inr j)) (b.only y i);
}
  where
    one_of : (y x : InFlight) (xs : List InFlight) → IsIn y (x ∷ []) → IsIn y (x ∷ xs)
    one_of y x xs (inl e) = inl e
    one_of y x xs (inr z) = absurd z

pub joins_if : (ops : List Operation) (before out after : List InFlight) → leads_anywhere ops ≡ true → Joins before out after → JoinsIf (leads_anywhere ops) before out after
joins_if ops before out after returns j = record { grows = j.grows; has = λ e. j.has; only = λ x i. ⊎_elim (λ a. inl a) (λ a. inr (returns, a)) (j.only x i) }

pub joins_not : (ops : List Operation) (before out : List InFlight) → leads_anywhere ops ≡ false → JoinsIf (leads_anywhere ops) before out before
joins_not ops before out goes = record { grows = λ r. omega arith; has = λ e. absurd (cc); only = λ x i. inl i }

-- carrying

pub carries_skip : (cycles : ℕ) (x : InFlight) (xs : List InFlight) → x.left ≤ cycles → Carries cycles (x ∷ []) xs xs
carries_skip cycles x xs le = record { grows = λ r. omega arith; has = only_one x (λ r. left_of xs r + cycles) (omega arith); only = λ y a. inl a }

pub carries_put : (cycles : ℕ) (x left : InFlight) (before after : List InFlight) → left.to ≡ x.to → left.left + cycles ≡ x.left → 1 ≤ left.left → Joins before (left ∷ []) after → Carries cycles (x ∷ []) before after
carries_put cycles x left before after to_is lands some j = record {
  grows = j.grows;
  has = only_one x (λ r. left_of after r + cycles)
      (let h : left_of (left ∷ []) x.to ≤ left_of after x.to = j.has x.to in
      let k : left.left ≤ left_of (left ∷ []) x.to = left_at_of left (left ∷ []) x.to (inl refl) to_is in
      omega arith);
  only = λ y a. ⊎_elim (λ b. inl b) (λ b. inr (by y b)) (j.only y a);
}
  where
    by : (y : InFlight) → IsIn y (left ∷ []) → IsCarried cycles (x ∷ []) y
    by y (inl e) = record {
      from = x;
      here = inl refl;
      to_is = sym to_is ∙ ap (λ (z : InFlight). z.to) (sym e);
      some = subst (λ (z : InFlight). 1 ≤ z.left) (sym e) some;
      lands = subst (λ (z : InFlight). z.left + cycles ≡ x.left) (sym e) lands;
    }
    by y (inr z) = absurd z

pub carries_none : (cycles : ℕ) (xs : List InFlight) → Carries cycles [] xs xs
carries_none cycles xs = record { grows = λ r. omega arith; has = λ r. omega arith; only = λ y a. inl a }

pub carries_then : (cycles : ℕ) (x : InFlight) (xs before middle after : List InFlight) → Carries cycles (x ∷ []) before middle → Carries cycles xs middle after → Carries cycles (x ∷ xs) before after
carries_then cycles x xs before middle after a b = record {
  grows = λ r. let h = a.grows r in let k = b.grows r in omega arith;
  has = cons_left x xs (λ r. left_of after r + cycles) (λ r. let h = a.has r in let k = b.grows r in omega arith) b.has;
  only = λ y i. ⊎_elim (λ j. ⊎_elim (λ k. inl k) (λ k. inr (by y k)) (a.only y j)) (λ j. inr (later y j)) (b.only y i);
}
  where
    one_of : (f x : InFlight) (xs : List InFlight) → IsIn f (x ∷ []) → IsIn f (x ∷ xs)
    one_of f x xs (inl e) = inl e
    one_of f x xs (inr z) = absurd z

    by : (y : InFlight) → IsCarried cycles (x ∷ []) y → IsCarried cycles (x ∷ xs) y
    by y c = record { from = c.from; here = one_of c.from x xs c.here; to_is = c.to_is; some = c.some; lands = c.lands }

    later : (y : InFlight) → IsCarried cycles xs y → IsCarried cycles (x ∷ xs) y
    later y c = record { from = c.from; here = inr c.here; to_is = c.to_is; some = c.some; lands = c.lands }

-- making

-- what a call writes takes no cycle
some_no_call : (m : Numbers) (op : Operation) → 1 ≤ latency_of m op → is_call op ≡ false
some_no_call m (Compute k code to a b) h = refl
some_no_call m (Move k to a) h = refl
some_no_call m (Select k to t a b) h = refl
some_no_call m (Load k to o r d) h = refl
some_no_call m (Store k o r a) h = refl
some_no_call m (Input to) h = refl
some_no_call m (More to) h = refl
some_no_call m (OutText n) h = refl
some_no_call m (OutDecimal a) h = refl
some_no_call m (OutByte a) h = refl
some_no_call m (Goto p) h = refl
some_no_call m (BranchOn t u p) h = refl
some_no_call m (Call p) h = absurd (omega arith)
some_no_call m Return h = refl
some_no_call m (FromLink to) h = refl
some_no_call m (ToLink a) h = refl
some_no_call m (EndByTrap k) h = refl
some_no_call m (Halt a) h = refl

module _ (m : Numbers) (cycles : ℕ) where
  -- the write of one operation, carried
  pub makes_carried : (op : Operation) (x : InFlight) (before after : List InFlight) → destination_of op ≡ Some x.to → is_zero x.to ≡ false → x.left ≡ latency_of m op → Carries cycles (x ∷ []) before after → Makes m cycles (op ∷ []) before after
  makes_carried op x before after writes real left c = record {
    grows = c.grows;
    has = λ o r i d z n. one o r i d;
    only = λ y a. ⊎_elim (λ b. inl b) (λ b. inr (by y b)) (c.only y a);
  }
    where
      some_is : {r s : Register} → Some r ≡ Some s → r ≡ s
      some_is {r} {s} e = cc

      one : (o : Operation) (r : Register) → Among o (op ∷ []) → destination_of o ≡ Some r → latency_of m o ≤ left_of after r + cycles
      one o r (inl e) d =
          let t : x.to ≡ r = some_is (sym writes ∙ ap destination_of (sym e) ∙ d) in
          let h : left_of (x ∷ []) r ≤ left_of after r + cycles = c.has r in
          let k : x.left ≤ left_of (x ∷ []) r = left_at_of x (x ∷ []) r (inl refl) t in
          let l : latency_of m o ≡ x.left = ap (latency_of m) e ∙ sym left in
          omega arith
      one o r (inr z) d = absurd z

      of : (y : InFlight) (f : InFlight) → f ≡ x → f.to ≡ y.to → 1 ≤ y.left → y.left + cycles ≡ f.left → IsMade m cycles (op ∷ []) y
      of y f e t s l =
          let u : x.to ≡ y.to = ap (λ (z : InFlight). z.to) (sym e) ∙ t in
          let v : y.left + cycles ≡ latency_of m op = l ∙ ap (λ (z : InFlight). z.left) e ∙ left in
          record {
            op = op;
            here = inl refl;
            writes = writes ∙ ap Some u;
            real = subst (λ q. is_zero q ≡ false) u real;
            no_call = some_no_call m op (omega arith);
            some = s;
            lands = v;
          }

      by : (y : InFlight) → IsCarried cycles (x ∷ []) y → IsMade m cycles (op ∷ []) y
      by y k = ⊎_elim (λ e. of y k.from e k.to_is k.some k.lands) (λ z. absurd z) k.here

  -- an operation that writes nothing that counts
  pub makes_skip : (op : Operation) (xs : List InFlight) → ((r : Register) → destination_of op ≡ Some r → is_zero r ≡ false → ⊥) → Makes m cycles (op ∷ []) xs xs
  makes_skip op xs never = record { grows = λ r. omega arith; has = λ o r i d z n. absurd (one o r i d z); only = λ y a. inl a }
    where
      one : (o : Operation) (r : Register) → Among o (op ∷ []) → destination_of o ≡ Some r → is_zero r ≡ false → ⊥
      one o r (inl e) d z = never r (ap destination_of (sym e) ∙ d) z
      one o r (inr a) d z = a

  pub makes_zero : (op : Operation) (to : Register) (xs : List InFlight) → destination_of op ≡ Some to → is_zero to ≡ true → Makes m cycles (op ∷ []) xs xs
  makes_zero op to xs writes zero_is = makes_skip op xs (λ r d z. never r (sym writes ∙ d) z)
    where
      never : (r : Register) → Some to ≡ Some r → is_zero r ≡ false → ⊥
      never r e z = let t : to ≡ r = cc in absurd (cc)

  pub makes_nothing : (op : Operation) (xs : List InFlight) → destination_of op ≡ None → Makes m cycles (op ∷ []) xs xs
  makes_nothing op xs none = makes_skip op xs (λ r d z. never r (sym none ∙ d))
    where
      never : (r : Register) → None ≡ Some r → ⊥
      never r e = absurd (cc)

  pub makes_none : (xs : List InFlight) → Makes m cycles [] xs xs
  makes_none xs = record { grows = λ r. omega arith; has = λ o r i d z n. absurd i; only = λ y a. inl a }

  pub makes_then : (op : Operation) (ops : List Operation) (before middle after : List InFlight) → Makes m cycles (op ∷ []) before middle → Makes m cycles ops middle after → Makes m cycles (op ∷ ops) before after
  makes_then op ops before middle after a b = record {
    grows = λ r. let h = a.grows r in let k = b.grows r in omega arith;
    has = λ o r i d z n. by o r i d z n;
    only = λ y i. ⊎_elim (λ j. ⊎_elim (λ k. inl k) (λ k. inr (first y k)) (a.only y j)) (λ j. inr (later y j)) (b.only y i);
  }
    where
      by : (o : Operation) (r : Register) → Among o (op ∷ ops) → destination_of o ≡ Some r → is_zero r ≡ false → is_call o ≡ false → latency_of m o ≤ left_of after r + cycles
      by o r (inl e) d z n = let h = a.has o r (inl e) d z n in let k = b.grows r in omega arith
      by o r (inr i) d z n = b.has o r i d z n

      front : (o : Operation) → Among o (op ∷ []) → Among o (op ∷ ops)
      front o (inl e) = inl e
      front o (inr z) = absurd z

      first : (y : InFlight) → IsMade m cycles (op ∷ []) y → IsMade m cycles (op ∷ ops) y
      first y k = record { op = k.op; here = front k.op k.here; writes = k.writes; real = k.real; no_call = k.no_call; some = k.some; lands = k.lands }

      later : (y : InFlight) → IsMade m cycles ops y → IsMade m cycles (op ∷ ops) y
      later y k = record { op = k.op; here = inr k.here; writes = k.writes; real = k.real; no_call = k.no_call; some = k.some; lands = k.lands }

-- what is left behind a word
pub leaves : (m : Numbers) (word : Word) (row middle out : List InFlight) → Carries (cycles_of word) row [] middle → Makes m (cycles_of word) word.ops middle out → Leaves m word row out
leaves m word row middle out a b = record {
  carried = λ r. let h = a.has r in let k = b.grows r in omega arith;
  made = b.has;
  only = λ y i. ⊎_elim (λ j. ⊎_elim (λ k. absurd k) (λ k. inl k) (a.only y j)) (λ j. inr j) (b.only y i);
}
