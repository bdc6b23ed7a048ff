-- What the tables tell of two places is so in the trace, and gives the delay of the pair.
use Rattle.std.proofs.Common.{◌≡◌, ◌<◌, ◌≤◌, ◌⊎◌, inl, inr, ◌+◌, ◌-◌, ℕ, zero, suc, refl, sym, ◌∙◌, ap, arith, subst, Bool, true, false, not, ◌&&◌, nat_eq, nat_lt, nat_le, if◌then◌else◌, Option, Some, None, length, map, drop, slice_get, slice_index_or, List, [], ◌∷◌, ◌++◌, append_assoc}
use Rattle.std.proofs.lemmas.Bool.{or_cases, or_left, or_right, eqb-true, eq-eqb, false≢true, true≢false}
use Rattle.std.proofs.lemmas.List.{length-append}
use Rattle.std.proofs.lemmas.Option.{slice_get_within}
use Rattle.std.specs.List.{prefix_len}
use Rattle.vx_flow.specs.declared.trace.TraceOp.{TraceOp}
use Rattle.vx_flow.specs.declared.trace.TraceOp.TheVariants.{Plain, Split}
use Rattle.vx_flow.specs.declared.trace.Join.{Join}
use Rattle.vx_flow.specs.declared.trace.Trace.{Trace}
use Rattle.vx_flow.specs.Effects.{IsIn}
use Rattle.vx_isa.specs.Numbers.{Numbers}
use Rattle.vx_dep.specs.declared.mode.Mode.{Mode}
use Rattle.vx_dep.specs.declared.traits.Traits.{Traits}
use Rattle.vx_dep.specs.declared.tables.Standing.{Standing}
use Rattle.vx_dep.specs.declared.rows.Ways.{Ways}
use Rattle.vx_dep.specs.Delays.{Stands, writes_of, leaves, live_off, IsLastWriter, JoinBetween, IsDelay}
use Rattle.vx_dep.specs.Traits.{written, has, traits_of}
use Rattle.vx_dep.specs.Tables.{write_alike, kept, is_join, or_else, last_joined, standing_of, standings_from, all_traits, standings_of, AreStanding, live_behind, lives_from, lives_of}
use Rattle.vx_dep.specs.Rows.{delay_of, MayTouch, AreWays, Tells}
use Rattle.vx_dep.specs.Sights.{reaches, has_join, is_live}
use Rattle.vx_dep.proofs.Telling.{le_is, is_le, lt_is, is_lt}
use Rattle.vx_dep.proofs.Written.{writes_are, has_value, value_has, in_written}
use Rattle.vx_dep.proofs.Applying.{delay_is as applying_delay_is}

-- the tables are filled from the front

pub none_standing : (all : List Standing) (joins : List Join) (standings : List Standing) (joined : ℕ) (left : List Traits) → standings ≡ [] → joined ≡ 0 → all ≡ standings_from joins 0 left → AreStanding all joins standings joined left
none_standing all joins standings joined left e f g = record {
  whole = ap (λ s. s ++ standings_from joins (length s) left) e ∙ sym g;
  above = f ∙ sym (ap (λ s. last_joined joins (length s)) e);
}

pub standing_more : (all : List Standing) (joins : List Join) (standings others : List Standing) (joined last n k : ℕ) (a : Traits) (left behind : List Traits) → AreStanding all joins standings joined left → left ≡ a ∷ behind → n ≡ length standings → last ≡ or_else (is_join joins n) n joined → k ≡ kept a behind
    → others ≡ standings ++ record { traits = a; kept = k; joined = last } ∷ [] → AreStanding all joins others last behind
standing_more all joins standings others joined last n k a left behind so front here found count more = record {
  whole = moved_on ∙ ap (λ l. standings ++ standings_from joins (length standings) l) (sym front) ∙ so.whole;
  above = above ∙ ap (last_joined joins) (sym long);
}
  where
    long : length others ≡ suc (length standings)
    long = let p = ap length more in let q = length-append standings (record { traits = a; kept = k; joined = last } ∷ []) in omega (arith, p, q)

    above : last ≡ last_joined joins (suc (length standings))
    above = found ∙ ap (λ i. or_else (is_join joins i) i joined) here ∙ ap (or_else (is_join joins (length standings)) (length standings)) so.above

    is : record { traits = a; kept = k; joined = last } ≡ standing_of joins (length standings) a behind
    is = ap (λ x. record { traits = a; kept = x; joined = last }) count ∙ ap (λ x. record { traits = a; kept = kept a behind; joined = x }) above

    moved_on : others ++ standings_from joins (length others) behind ≡ standings ++ standings_from joins (length standings) (a ∷ behind)
    moved_on = ap (λ i. others ++ standings_from joins i behind) long
        ∙ ap (λ l. l ++ standings_from joins (suc (length standings)) behind) more
        ∙ append_assoc standings (record { traits = a; kept = k; joined = last } ∷ []) (standings_from joins (suc (length standings)) behind)
        ∙ ap (λ x. standings ++ x ∷ standings_from joins (suc (length standings)) behind) is

pub standings_are : (m : Numbers) (t : Trace) (traits : List Traits) (standings : List Standing) → traits ≡ map (traits_of m) t.ops → standings ≡ standings_from t.joins 0 traits → standings ≡ standings_of m t
unfolding standings_of
standings_are m t traits standings e f = f ∙ ap (standings_from t.joins 0) e

-- elements of a mapped list

pub record IsMapped {A B : Type 0} (f : A → B) (xs : List A) (k : ℕ) (y : B) : Type 0 where
  pub from : A
  pub there : slice_get xs k ≡ Some from
  pub is : y ≡ f from

mapped : {A B : Type 0} (f : A → B) (xs : List A) (k : ℕ) (x : A) → slice_get xs k ≡ Some x → slice_get (map f xs) k ≡ Some (f x)
mapped f [] k x e = absurd cc
mapped f (y ∷ ys) zero x e = let h : y ≡ x = cc in ap (λ z. Some (f z)) h
mapped f (y ∷ ys) (suc k) x e = mapped f ys k x e

pub unmapped : {A B : Type 0} (f : A → B) (xs : List A) (k : ℕ) (y : B) → slice_get (map f xs) k ≡ Some y → IsMapped f xs k y
unmapped f [] k y e = absurd cc
unmapped f (x ∷ xs) zero y e = let h : y ≡ f x = cc in record { from = x; there = refl; is = h }
unmapped f (x ∷ xs) (suc k) y e = let h = unmapped f xs k y e in record { from = h.from; there = h.there; is = h.is }

pub mapped_none : {A B : Type 0} (f : A → B) (xs : List A) (k : ℕ) → slice_get (map f xs) k ≡ None → slice_get xs k ≡ None
mapped_none f [] k e = refl
mapped_none f (x ∷ xs) zero e = absurd cc
mapped_none f (x ∷ xs) (suc k) e = mapped_none f xs k e

-- the entry of a place

record IsEntry (joins : List Join) (n : ℕ) (all : List Traits) (i : ℕ) (s : Standing) : Type 0 where
  from : Traits
  there : slice_get all i ≡ Some from
  is : s ≡ standing_of joins n from (drop (suc i) all)

entry_from : (joins : List Join) (k n : ℕ) (all : List Traits) (i : ℕ) (s : Standing) → n ≡ k + i → slice_get (standings_from joins k all) i ≡ Some s → IsEntry joins n all i s
entry_from joins k n [] i s e f = absurd cc
entry_from joins k n (first ∷ all) zero s e f =
    let h : s ≡ standing_of joins k first all = cc in
    let l : n ≡ k = omega (arith, e) in
    record { from = first; there = refl; is = h ∙ ap (λ x. standing_of joins x first all) (sym l) }
entry_from joins k n (first ∷ all) (suc i) s e f =
    let l : n ≡ suc k + i = omega (arith, e) in
    let h = entry_from joins (suc k) n all i s l f in
    record { from = h.from; there = h.there; is = h.is }

stands_from : (joins : List Join) (k : ℕ) (all : List Traits) (i : ℕ) → slice_get (standings_from joins k all) i ≡ None → slice_get all i ≡ None
stands_from joins k [] i e = refl
stands_from joins k (first ∷ all) zero e = absurd cc
stands_from joins k (first ∷ all) (suc i) e = stands_from joins (suc k) all i e

-- places behind a place

behind_from : {A : Type 0} (xs : List A) (d k : ℕ) → slice_get (drop d xs) k ≡ slice_get xs (d + k)
behind_from xs zero k = let l : k ≡ 0 + k = omega arith in ap (slice_get xs) l
behind_from [] (suc d) k = refl
behind_from (x ∷ xs) (suc d) k = let l : suc (d + k) ≡ suc d + k = omega arith in behind_from xs d k ∙ ap (slice_get (x ∷ xs)) l

behind : {A : Type 0} (xs : List A) (i j : ℕ) → i < j → slice_get (drop (suc i) xs) (j - i - 1) ≡ slice_get xs j
behind xs i j h = let l : suc i + (j - i - 1) ≡ j = omega (arith, h) in behind_from xs (suc i) (j - i - 1) ∙ ap (slice_get xs) l

-- the first elements that pass a test

passes : {A : Type 0} (p : A → Bool) (xs : List A) (n k : ℕ) (x : A) → n ≤ prefix_len p xs → k < n → slice_get xs k ≡ Some x → p x ≡ true
passes p [] n k x h l e = absurd cc
passes {A} p (y ∷ ys) n k x h l e = by k (p y) refl h l e (passes p ys)
  where
    by : (k : ℕ) (b : Bool) → p y ≡ b → n ≤ (if b then 1 + prefix_len p ys else 0) → k < n → slice_get (y ∷ ys) k ≡ Some x
        → ((m : ℕ) (i : ℕ) (z : A) → m ≤ prefix_len p ys → i < m → slice_get ys i ≡ Some z → p z ≡ true) → p x ≡ true
    by k false f h l e more = absurd (omega arith)
    by zero true f h l e more = let g : y ≡ x = cc in ap p (sym g) ∙ f
    by (suc k) true f h l e more = more (n - 1) k x (omega arith) (omega arith) e

pass_all : {A : Type 0} (p : A → Bool) (xs : List A) (n : ℕ) → n ≤ length xs → ((k : ℕ) (x : A) → k < n → slice_get xs k ≡ Some x → p x ≡ true) → n ≤ prefix_len p xs
pass_all p xs zero h all = omega arith
pass_all p [] (suc n) h all = absurd (omega arith)
pass_all p (y ∷ ys) (suc n) h all = by (p y) (all 0 y (omega arith) refl) (pass_all p ys n (omega arith) (λ k x l e. all (suc k) x (omega arith) e))
  where
    by : (b : Bool) → b ≡ true → n ≤ prefix_len p ys → suc n ≤ (if b then 1 + prefix_len p ys else 0)
    by true f l = omega arith
    by false f l = absurd (false≢true f)

-- joins

record JoinIn (joins : List Join) (i n : ℕ) : Type 0 where
  join : Join
  is : IsIn join joins
  above : i < join.place
  below : join.place < n

record JoinAt (joins : List Join) (n : ℕ) : Type 0 where
  join : Join
  is : IsIn join joins
  place : join.place ≡ n

join_there : (joins : List Join) (n : ℕ) → is_join joins n ≡ true → JoinAt joins n
join_there [] n e = absurd (false≢true e)
join_there (j ∷ js) n e = by (or_cases (nat_eq j.place n) (is_join js n) e) (join_there js n)
  where
    by : (nat_eq j.place n ≡ true) ⊎ (is_join js n ≡ true) → (is_join js n ≡ true → JoinAt js n) → JoinAt (j ∷ js) n
    by (inl f) more = record { join = j; is = inl refl; place = eqb-true j.place n f }
    by (inr f) more = let k = more f in record { join = k.join; is = inr k.is; place = k.place }

there_join : (joins : List Join) (join : Join) → IsIn join joins → is_join joins join.place ≡ true
there_join [] join i = absurd i
there_join (j ∷ js) join (inl e) = or_left (nat_eq j.place join.place) (is_join js join.place) (eq-eqb j.place join.place (ap (λ (x : Join). x.place) (sym e)))
there_join (j ∷ js) join (inr i) = or_right (nat_eq j.place join.place) (is_join js join.place) (there_join js join i)

joined_in : (joins : List Join) (i n : ℕ) → i < last_joined joins n → JoinIn joins i n
joined_in joins i zero h = absurd (omega arith)
joined_in joins i (suc n) h = by (is_join joins n) refl h (joined_in joins i n)
  where
    by : (b : Bool) → is_join joins n ≡ b → i < or_else b n (last_joined joins n) → (i < last_joined joins n → JoinIn joins i n) → JoinIn joins i (suc n)
    by true f l more =
        let k = join_there joins n f in
        let p = k.place in
        record { join = k.join; is = k.is; above = omega (arith, p, l); below = omega (arith, p) }
    by false f l more = let k = more l in let u = k.below in record { join = k.join; is = k.is; above = k.above; below = omega (arith, u) }

in_joined : (joins : List Join) (i n : ℕ) (join : Join) → IsIn join joins → i < join.place → join.place < n → i < last_joined joins n
in_joined joins i zero join is above below = absurd (omega arith)
in_joined joins i (suc n) join is above below = by (is_join joins n) refl (in_joined joins i n join is above)
  where
    by : (b : Bool) → is_join joins n ≡ b → (join.place < n → i < last_joined joins n) → i < or_else b n (last_joined joins n)
    by true f more = omega (arith, above, below)
    by false f more =
        more (omega (arith, below, other))
      where
        other : (join.place ≡ n) → ⊥
        other e = true≢false (sym (there_join joins join is) ∙ ap (is_join joins) e ∙ f)

lives_there : (ops : List TraceOp) (i : ℕ) (op : TraceOp) → slice_get ops i ≡ Some op → slice_get (lives_from ops) i ≡ Some (live_behind op (drop (suc i) ops))
lives_there [] i op e = absurd cc
lives_there (first ∷ ops) zero op e = let h : first ≡ op = cc in ap (λ x. Some (live_behind x ops)) h
lives_there (first ∷ ops) (suc i) op e = lives_there ops i op e

-- the operation at a place that has an entry

pub record IsOf (m : Numbers) (t : Trace) (i : ℕ) (s : Standing) : Type 0 where
  pub op : TraceOp
  pub stands : Stands t i op
  pub is : s ≡ standing_of t.joins i (traits_of m op) (drop (suc i) (all_traits m t))

entry : (m : Numbers) (t : Trace) (i : ℕ) (s : Standing) → slice_get (standings_of m t) i ≡ Some s → IsOf m t i s
unfolding standings_of
entry m t i s e =
    let l : i ≡ 0 + i = omega arith in
    let h = entry_from t.joins 0 i (all_traits m t) i s l e in
    let o = unmapped (traits_of m) t.ops i h.from h.there in
    record { op = o.from; stands = o.there; is = h.is ∙ ap (λ x. standing_of t.joins i x (drop (suc i) (all_traits m t))) o.is }

nothing_there : (m : Numbers) (t : Trace) (i : ℕ) → slice_get (standings_of m t) i ≡ None → slice_get t.ops i ≡ None
unfolding standings_of
nothing_there m t i e = mapped_none (traits_of m) t.ops i (stands_from t.joins 0 (all_traits m t) i e)

same_op : {x y : TraceOp} → Some x ≡ Some y → x ≡ y
same_op e = cc

module _ (m : Numbers) (t : Trace) (standings : List Standing) (exact : standings ≡ standings_of m t) where
  pub entry_at : (i : ℕ) (s : Standing) → slice_get standings i ≡ Some s → IsOf m t i s
  entry_at i s e = entry m t i s (ap (λ x. slice_get x i) (sym exact) ∙ e)

  entry_is : (i : ℕ) (s : Standing) (op : TraceOp) → slice_get standings i ≡ Some s → Stands t i op → s ≡ standing_of t.joins i (traits_of m op) (drop (suc i) (all_traits m t))
  entry_is i s op e f =
      let h = entry_at i s e in
      h.is ∙ ap (λ x. standing_of t.joins i (traits_of m x) (drop (suc i) (all_traits m t))) (same_op (sym h.stands ∙ f))

  nothing_at : (i : ℕ) → slice_get standings i ≡ None → slice_get t.ops i ≡ None
  nothing_at i e = nothing_there m t i (ap (λ x. slice_get x i) (sym exact) ∙ e)

  pub none_above : (mode : Mode) (i j : ℕ) → slice_get standings i ≡ None → IsDelay m mode t i j None
  none_above mode i j e d p = let f = nothing_at i e in let h = p.stands_one in absurd cc

  pub none_below : (mode : Mode) (i j : ℕ) → slice_get standings j ≡ None → IsDelay m mode t i j None
  none_below mode i j e d p = let f = nothing_at j e in let h = p.stands_two in absurd cc

  -- what is told of two places gives their delay
  pub delay_is : (mode : Mode) (i j : ℕ) (a b : Standing) (w : Ways) (d : Option ℕ) → i < j → slice_get standings i ≡ Some a → slice_get standings j ≡ Some b → Tells t i j a.traits b.traits w → d ≡ delay_of mode a.traits b.traits w → IsDelay m mode t i j d
  delay_is mode i j a b w d in_order e f tells g =
      let one = entry_at i a e in
      let two = entry_at j b f in
      let upper : a.traits ≡ traits_of m one.op = ap (λ (s : Standing). s.traits) one.is in
      let lower : b.traits ≡ traits_of m two.op = ap (λ (s : Standing). s.traits) two.is in
      let told : AreWays t i j a.traits b.traits one.op two.op w = tells one.op two.op one.stands two.stands in
      let half : AreWays t i j (traits_of m one.op) b.traits one.op two.op w = subst (λ x. AreWays t i j x b.traits one.op two.op w) upper told in
      let ways : AreWays t i j (traits_of m one.op) (traits_of m two.op) one.op two.op w = subst (λ x. AreWays t i j (traits_of m one.op) x one.op two.op w) lower half in
      let is : d ≡ delay_of mode (traits_of m one.op) (traits_of m two.op) w = g ∙ ap (λ x. delay_of mode x b.traits w) upper ∙ ap (λ x. delay_of mode (traits_of m one.op) x w) lower in
      applying_delay_is m mode t i j one.op two.op w ways in_order one.stands two.stands d is

-- what is told of two places

module _ (m : Numbers) (t : Trace) (i j : ℕ) (one two : TraceOp) (in_order : i < j) (stands_one : Stands t i one) (stands_two : Stands t j two) where
  abbrev differs : Traits → Bool
  differs x = not (write_alike (traits_of m one) x)

  not_not : (x : Bool) → not x ≡ true → x ≡ true → ⊥
  not_not true e f = false≢true e
  not_not false e f = false≢true f

  is_not : (x : Bool) → (x ≡ true → ⊥) → not x ≡ true
  is_not true f = absurd (f refl)
  is_not false f = refl

  traits_at : (k : ℕ) (op : TraceOp) → Stands t k op → slice_get (all_traits m t) k ≡ Some (traits_of m op)
  traits_at k op e = mapped (traits_of m) t.ops k op e

  between : (k : ℕ) → i < k → slice_get (drop (suc i) (all_traits m t)) (k - i - 1) ≡ slice_get (all_traits m t) k
  between k h = behind (all_traits m t) i k h

  long : j - i - 1 ≤ length (drop (suc i) (all_traits m t))
  long = let h = slice_get_within (drop (suc i) (all_traits m t)) (j - i - 1) (traits_of m two) (between j in_order ∙ traits_at j two stands_two) in omega (arith, h)

  alike : (op : TraceOp) → write_alike (traits_of m one) (traits_of m op) ≡ has (written one) (writes_of op)
  alike op = ap (has (written one)) (writes_are op)

  last_by : j - i - 1 ≤ kept (traits_of m one) (drop (suc i) (all_traits m t)) → (v : ℕ) → IsIn v (writes_of one) → IsLastWriter t v i j
  last_by h v wa k op l u s w =
      not_not (write_alike (traits_of m one) (traits_of m op)) (passes differs (drop (suc i) (all_traits m t)) (j - i - 1) (k - i - 1) (traits_of m op) h (omega (arith, l, u)) (between k l ∙ traits_at k op s)) (alike op ∙ value_has one (writes_of op) v wa w)

  by_last : (v : ℕ) → IsIn v (writes_of one) → IsLastWriter t v i j → j - i - 1 ≤ kept (traits_of m one) (drop (suc i) (all_traits m t))
  by_last v wa last = pass_all differs (drop (suc i) (all_traits m t)) (j - i - 1) long (λ k x l e. is_not (write_alike (traits_of m one) x) (clear k x l e))
    where
      clear : (k : ℕ) (x : Traits) → k < j - i - 1 → slice_get (drop (suc i) (all_traits m t)) k ≡ Some x → write_alike (traits_of m one) x ≡ true → ⊥
      clear k x l e h =
          let o = unmapped (traits_of m) t.ops (suc i + k) x (sym (behind_from (all_traits m t) (suc i) k) ∙ e) in
          let there : has (written one) (writes_of o.from) ≡ true = sym (alike o.from) ∙ sym (ap (write_alike (traits_of m one)) o.is) ∙ h in
          let w = has_value one (writes_of o.from) there in
          let same : w.value ≡ v = value_is (sym (in_written one w.value w.writes) ∙ in_written one v wa) in
          last (suc i + k) o.from (omega arith) (omega (arith, l)) o.there (subst (λ u. IsIn u (writes_of o.from)) same w.among)
        where
          value_is : {u v : ℕ} → Some u ≡ Some v → u ≡ v
          value_is e = cc

  live_here : leaves one ≡ true → slice_index_or (live_behind one (drop (suc i) t.ops)) (j - i - 1) false ≡ has (written two) (live_off one)
  live_here l = by one l
    where
      marked : (f : TraceOp → Bool) (xs : List TraceOp) (k : ℕ) (x : TraceOp) → slice_get xs k ≡ Some x → slice_index_or (map f xs) k false ≡ f x
      marked f [] k x e = absurd cc
      marked f (y ∷ ys) zero x e = let h : y ≡ x = cc in ap f h
      marked f (y ∷ ys) (suc k) x e = marked f ys k x e

      by : (one : TraceOp) → leaves one ≡ true → slice_index_or (live_behind one (drop (suc i) t.ops)) (j - i - 1) false ≡ has (written two) (live_off one)
      by (Plain op) l = absurd (false≢true l)
      by (Split test leaves_when edge live) l = marked (λ x. has (written x) live) (drop (suc i) t.ops) (j - i - 1) two (behind t.ops i j in_order ∙ stands_two)

  module _ (standings : List Standing) (lives : List (List Bool)) (a b : Standing) (exact : standings ≡ standings_of m t) (lives_exact : lives ≡ lives_of t) (at_one : slice_get standings i ≡ Some a) (at_two : slice_get standings j ≡ Some b) where
    is_one : a ≡ standing_of t.joins i (traits_of m one) (drop (suc i) (all_traits m t))
    is_one = entry_is m t standings exact i a one at_one stands_one

    is_two : b ≡ standing_of t.joins j (traits_of m two) (drop (suc j) (all_traits m t))
    is_two = entry_is m t standings exact j b two at_two stands_two

    are_ways : (w : Ways) → w.last ≡ reaches a i j → w.joined ≡ has_join b i → w.live ≡ (a.traits.leaves && is_live (slice_get lives i) i j) → (w.touch ≡ true → MayTouch t i j a.traits b.traits) → (w.touch ≡ false → MayTouch t i j a.traits b.traits → ⊥) → AreWays t i j a.traits b.traits one two w
    are_ways w last joined live touch apart = record {
      last = λ e. last_by (le_is _ _ (sym last_is ∙ e));
      not_last = λ e v wa l. is_le _ _ (sym last_is ∙ e) (by_last v wa l);
      touch = touch;
      not_touch = apart;
      joined = λ e. between_of (joined_in t.joins i (suc j) (lt_is _ _ (sym joined_is ∙ e)));
      not_joined = λ e k. is_lt _ _ (sym joined_is ∙ e) (in_joined t.joins i (suc j) k.join k.is k.above (upto k));
      live = λ e l. let v = has_value two (live_off one) (sym (live_is l) ∙ e) in (v.value, v.among, v.writes);
      not_live = λ e l v on wb. true≢false (sym (value_has two (live_off one) v wb on) ∙ sym (live_is l) ∙ e);
    }
      where
        last_is : w.last ≡ nat_le (j - i - 1) (kept (traits_of m one) (drop (suc i) (all_traits m t)))
        last_is = last ∙ ap (λ s. reaches s i j) is_one

        joined_is : w.joined ≡ nat_lt i (last_joined t.joins (suc j))
        joined_is = joined ∙ ap (λ s. has_join s i) is_two

        leaves_is : leaves one ≡ true → a.traits.leaves ≡ true
        leaves_is l = ap (λ (s : Standing). s.traits.leaves) is_one ∙ l

        live_is : leaves one ≡ true → w.live ≡ has (written two) (live_off one)
        live_is l = live ∙ ap (λ x. x && is_live (slice_get lives i) i j) (leaves_is l) ∙ ap (λ s. is_live (slice_get s i) i j) lives_exact ∙ ap (λ s. is_live s i j) (lives_there t.ops i one stands_one) ∙ live_here l

        between_of : JoinIn t.joins i (suc j) → JoinBetween t i j
        between_of k = let u = k.below in record { join = k.join; is = k.is; above = k.above; below = omega (arith, u) }

        upto : (k : JoinBetween t i j) → k.join.place < suc j
        upto k = let u = k.below in omega (arith, u)

pub tells : (m : Numbers) (t : Trace) (standings : List Standing) (lives : List (List Bool)) (i j : ℕ) (a b : Standing) (w : Ways) → standings ≡ standings_of m t → lives ≡ lives_of t → i < j → slice_get standings i ≡ Some a → slice_get standings j ≡ Some b
    → w.last ≡ reaches a i j → w.joined ≡ has_join b i → w.live ≡ (a.traits.leaves && is_live (slice_get lives i) i j) → (w.touch ≡ true → MayTouch t i j a.traits b.traits) → (w.touch ≡ false → MayTouch t i j a.traits b.traits → ⊥) → Tells t i j a.traits b.traits w
tells m t standings lives i j a b w exact lives_exact in_order at_one at_two last joined live touch apart one two stands_one stands_two =
    are_ways m t i j one two in_order stands_one stands_two standings lives a b exact lives_exact at_one at_two w last joined live touch apart
