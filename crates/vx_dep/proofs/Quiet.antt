-- Of two quiet operations only the values count, and what keeps the lower one below; behind a split few rows apply.
use Rattle.std.proofs.Common.{◌≡◌, ◌<◌, ℕ, refl, sym, ◌∙◌, ap, arith, subst, Bool, true, false, not, ◌&&◌, ◌||◌, if◌then◌else◌, Option, Some, None, slice_get, List}
use Rattle.std.proofs.lemmas.Bool.{or_left, or_right, false≢true, true≢false}
use Rattle.vx_flow.specs.declared.trace.TraceOp.{TraceOp}
use Rattle.vx_flow.specs.declared.trace.TraceOp.TheVariants.{Plain, Split}
use Rattle.vx_flow.specs.declared.trace.Trace.{Trace}
use Rattle.vx_flow.specs.Operands.{values_read}
use Rattle.vx_isa.specs.Numbers.{Numbers}
use Rattle.vx_dep.specs.declared.mode.Mode.{Mode}
use Rattle.vx_dep.specs.declared.traits.Traits.{Traits}
use Rattle.vx_dep.specs.declared.tables.Standing.{Standing}
use Rattle.vx_dep.specs.declared.rows.Ways.{Ways}
use Rattle.vx_dep.specs.Delays.{is_observable, leaves, IsDelay}
use Rattle.vx_dep.specs.Traits.{has, is_fixed, traits_of}
use Rattle.vx_dep.specs.Tables.{standings_of, lives_of}
use Rattle.vx_dep.specs.Rows.{is_barred, are_tied, stays_behind_split, stays_behind_join, stays_behind, stays_below, at_least, delay_of, are_quiet, quiet_delay_of, is_seen, split_delay_of}
use Rattle.vx_dep.specs.Sights.{reaches, has_join, is_live}
use Rattle.vx_dep.proofs.Standing.{IsOf, entry_at, tells, delay_is}

pub neither : (x y : Bool) → x ≡ false → y ≡ false → (x || y) ≡ false
neither false false e f = refl
neither true y e f = absurd (true≢false e)
neither false true e f = absurd (true≢false f)

pub not_both : (x y : Bool) → y ≡ false → (x && y) ≡ false
not_both true y e = e
not_both false y e = refl

-- quiet operations

record IsFree (a : Traits) : Type 0 where
  observable : a.is_observable ≡ false
  leaves : a.leaves ≡ false

free_op : (m : Numbers) (op : TraceOp) → is_fixed op ≡ false → IsFree (traits_of m op)
free_op m op e = by (is_observable op) (leaves op) refl refl e
  where
    by : (o v : Bool) → is_observable op ≡ o → leaves op ≡ v → (o || v) ≡ false → IsFree (traits_of m op)
    by false false observable leaves e = record { observable = observable; leaves = leaves }
    by true v observable leaves e = absurd (true≢false e)
    by false true observable leaves e = absurd (true≢false e)

free_at : (m : Numbers) (t : Trace) (i : ℕ) (s : Standing) → IsOf m t i s → s.traits.is_fixed ≡ false → IsFree s.traits
free_at m t i s is e =
    let same : s.traits ≡ traits_of m is.op = ap (λ (x : Standing). x.traits) is.is in
    subst IsFree (sym same) (free_op m is.op (sym (ap (λ (x : Traits). x.is_fixed) same) ∙ e))

record AreQuiet (a b : Traits) : Type 0 where
  upper : a.is_fixed ≡ false
  apart : a.is_access ≡ true → b.is_access ≡ true → ⊥

quiet_parts : (a b : Traits) → are_quiet a b ≡ true → AreQuiet a b
quiet_parts a b e = by a.is_fixed a.is_access b.is_access refl refl refl e
  where
    by : (f x y : Bool) → a.is_fixed ≡ f → a.is_access ≡ x → b.is_access ≡ y → (not f && not (x && y)) ≡ true → AreQuiet a b
    by true x y k p q e = absurd (false≢true e)
    by false true true k p q e = absurd (false≢true e)
    by false false y k p q e = record { upper = k; apart = λ u v. false≢true (sym p ∙ u) }
    by false true false k p q e = record { upper = k; apart = λ u v. false≢true (sym q ∙ v) }

behind_joined : (s o p v k j : Bool) → o ≡ false → v ≡ false → ((((false && s) || (o && p)) || (v && k)) || j) ≡ j
behind_joined s false p false k j e f = refl
behind_joined s true p v k j e f = absurd (true≢false e)
behind_joined s false p true k j e f = absurd (true≢false f)

below_kept : (r l v w s o k : Bool) → w ≡ false → o ≡ false → ((r || (false && l)) || (v && (((w && s) || o) || k))) ≡ (r || (v && k))
below_kept true l v false s false k e f = refl
below_kept false l v false s false k e f = refl
below_kept r l v true s o k e f = absurd (true≢false e)
below_kept r l v false s true k e f = absurd (true≢false f)

-- what the values give, and what is at least due
by_kept : (l : ℕ) (tied behind read kept : Bool)
    → (if tied then at_least l (if behind then Some 1 else (if (read || kept) then Some 0 else None)) else (if behind then Some 1 else (if (read || kept) then Some 0 else None)))
    ≡ (if behind then at_least 1 (if tied then Some l else (if read then Some 0 else None)) else (if kept then at_least 0 (if tied then Some l else (if read then Some 0 else None)) else (if tied then Some l else (if read then Some 0 else None))))
by_kept l true true read kept = ap Some (omega arith)
by_kept l true false true true = ap Some (omega arith)
by_kept l true false true false = ap Some (omega arith)
by_kept l true false false true = ap Some (omega arith)
by_kept l true false false false = refl
by_kept l false true true kept = ap Some (omega arith)
by_kept l false true false kept = refl
by_kept l false false true true = ap Some (omega arith)
by_kept l false false true false = refl
by_kept l false false false true = refl
by_kept l false false false false = refl

quiet_rows : (mode : Mode) (a b : Traits) (last joined live : Bool) → IsFree a → delay_of mode a b (record { last = last; touch = false; joined = joined; live = live }) ≡ quiet_delay_of mode a b last joined
quiet_rows mode a b last joined live above =
    let w : Ways = record { last = last; touch = false; joined = joined; live = live } in
    let tied : Bool = are_tied a b last in
    let behind : Bool = joined && stays_behind_join mode b in
    let read : Bool = has b.written (values_read a.reads) in
    let kept : Bool = b.leaves && is_barred mode in
    ap (λ x. if tied then at_least a.latency (if x then Some 1 else (if stays_below mode a b w then Some 0 else None)) else (if x then Some 1 else (if stays_below mode a b w then Some 0 else None)))
    (behind_joined a.is_store a.is_observable b.is_observable a.leaves (stays_behind_split mode b w) behind above.observable above.leaves)
    ∙ ap (λ x. if tied then at_least a.latency (if behind then Some 1 else (if x then Some 0 else None)) else (if behind then Some 1 else (if x then Some 0 else None)))
    (below_kept read a.is_load b.leaves a.leaves (not b.alone) a.is_observable (is_barred mode) above.leaves above.observable)
    ∙ by_kept a.latency tied behind read kept

pub quiet_delay_is : (m : Numbers) (mode : Mode) (t : Trace) (standings : List Standing) (lives : List (List Bool)) (i j : ℕ) (a b : Standing) (d : Option ℕ) → standings ≡ standings_of m t → lives ≡ lives_of t → i < j → slice_get standings i ≡ Some a → slice_get standings j ≡ Some b
    → are_quiet a.traits b.traits ≡ true → d ≡ quiet_delay_of mode a.traits b.traits (reaches a i j) (has_join b i) → IsDelay m mode t i j d
quiet_delay_is m mode t standings lives i j a b d exact lives_exact in_order at_one at_two quiet is =
    let parts = quiet_parts a.traits b.traits quiet in
    let above = free_at m t i a (entry_at m t standings exact i a at_one) parts.upper in
    let live : Bool = a.traits.leaves && is_live (slice_get lives i) i j in
    let w : Ways = record { last = reaches a i j; touch = false; joined = has_join b i; live = live } in
    let told = tells m t standings lives i j a b w exact lives_exact in_order at_one at_two refl refl refl (λ e. absurd (false≢true e)) (λ e k. parts.apart k.upper k.lower) in
    delay_is m t standings exact mode i j a b w d in_order at_one at_two told (is ∙ sym (quiet_rows mode a.traits b.traits (reaches a i j) (has_join b i) live above))

-- a split above

record IsSplit (a : Traits) : Type 0 where
  untied : (b : Traits) (last : Bool) → are_tied a b last ≡ false
  access : a.is_access ≡ false

split_op : (m : Numbers) (op : TraceOp) → leaves op ≡ true → IsSplit (traits_of m op)
split_op m (Plain op) l = absurd (false≢true l)
split_op m (Split test leaves_when edge live) l = record { untied = λ b last. neither (last && false) false (not_both last false refl) refl; access = refl }

split_at : (m : Numbers) (t : Trace) (i : ℕ) (s : Standing) → IsOf m t i s → s.traits.leaves ≡ true → IsSplit s.traits
split_at m t i s is e =
    let same : s.traits ≡ traits_of m is.op = ap (λ (x : Standing). x.traits) is.is in
    subst IsSplit (sym same) (split_op m is.op (sym (ap (λ (x : Traits). x.leaves) same) ∙ e))

record IsUnseen (alone p barred : Bool) : Type 0 where
  shares : alone ≡ false
  observable : p ≡ false
  free : barred ≡ false

unseen : (alone s p live barred : Bool) → ((((alone || s) || p) || live) || barred) ≡ false → IsUnseen alone p barred
unseen true s p live barred e = absurd (true≢false e)
unseen false true p live barred e = absurd (true≢false e)
unseen false false true live barred e = absurd (true≢false e)
unseen false false false true barred e = absurd (true≢false e)
unseen false false false false true e = absurd (true≢false e)
unseen false false false false false e = record { shares = refl; observable = refl; free = refl }

behind_seen : (x v s j : Bool) → v ≡ true → s ≡ true → ((x || (v && s)) || j) ≡ true
behind_seen x true true j e f = or_left (x || true) j (or_right x true refl)
behind_seen x true false j e f = absurd (false≢true f)
behind_seen x false s j e f = absurd (false≢true e)

or_none : (x : Bool) → (x || false) ≡ x
or_none true = refl
or_none false = refl

-- what is not seen stays behind a join alone, where it is a split
behind_join : (x v s j p b barred : Bool) → x ≡ false → s ≡ false → p ≡ false → barred ≡ false → ((x || (v && s)) || (j && ((p || b) || barred))) ≡ (j && b)
behind_join false true false j false b false e f g h = ap (λ y. j && y) (or_none b)
behind_join false false false j false b false e f g h = ap (λ y. j && y) (or_none b)
behind_join true v s j p b barred e f g h = absurd (true≢false e)
behind_join false v true j p b barred e f g h = absurd (true≢false f)
behind_join false v false j true b barred e f g h = absurd (true≢false g)
behind_join false v false j false b true e f g h = absurd (true≢false h)

below_unseen : (r l b v alone o k : Bool) → v ≡ true → alone ≡ false → ((r || (false && l)) || (b && (((v && not alone) || o) || k))) ≡ (r || b)
below_unseen true l b v alone o k e f = refl
below_unseen false l false v alone o k e f = refl
below_unseen false l true true false o k e f = refl
below_unseen false l true false alone o k e f = absurd (false≢true e)
below_unseen false l true true true o k e f = absurd (true≢false f)

abbrev by_two : (behind below : Bool) → Option ℕ
by_two behind below = if behind then Some 1 else (if below then Some 0 else None)

abbrev by_kind : (joined b read : Bool) → Option ℕ
by_kind joined b read = if b then (if joined then Some 1 else Some 0) else (if read then Some 0 else None)

of_split : (joined b read : Bool) → by_two (joined && b) (read || b) ≡ by_kind joined b read
of_split true true read = refl
of_split false true true = refl
of_split false true false = refl
of_split true false true = refl
of_split true false false = refl
of_split false false true = refl
of_split false false false = refl

by_seen : (l : ℕ) (tied behind below seen joined b read : Bool) → tied ≡ false → (seen ≡ true → behind ≡ true) → (seen ≡ false → behind ≡ (joined && b)) → (seen ≡ false → below ≡ (read || b))
    → (if tied then at_least l (by_two behind below) else by_two behind below) ≡ (if seen then Some 1 else by_kind joined b read)
by_seen l true behind below seen joined b read e f g h = absurd (true≢false e)
by_seen l false behind below true joined b read e f g h = ap (λ x. by_two x below) (f refl)
by_seen l false behind below false joined b read e f g h = ap (λ x. by_two x below) (g refl) ∙ ap (by_two (joined && b)) (h refl) ∙ of_split joined b read

split_rows : (mode : Mode) (a b : Traits) (last joined live : Bool) → IsSplit a → a.leaves ≡ true → delay_of mode a b (record { last = last; touch = false; joined = joined; live = live }) ≡ split_delay_of mode a b joined live
split_rows mode a b last joined live split leaves =
    let w : Ways = record { last = last; touch = false; joined = joined; live = live } in
    let other : Bool = (false && a.is_store) || (a.is_observable && b.is_observable) in
    by_seen a.latency (are_tied a b last) (stays_behind mode a b w) (stays_below mode a b w) (stays_behind_split mode b w) joined b.leaves (has b.written (values_read a.reads)) (split.untied b last)
    (λ e. behind_seen other a.leaves (stays_behind_split mode b w) (joined && stays_behind_join mode b) leaves e)
    (λ e. behind_join other a.leaves (stays_behind_split mode b w) joined b.is_observable b.leaves (is_barred mode) (not_both a.is_observable b.is_observable (none e).observable) e (none e).observable (none e).free)
    (λ e. below_unseen (has b.written (values_read a.reads)) a.is_load b.leaves a.leaves b.alone a.is_observable (is_barred mode) leaves (none e).shares)
  where
    none : ((is_seen b || live) || is_barred mode) ≡ false → IsUnseen b.alone b.is_observable (is_barred mode)
    none e = unseen b.alone b.is_store b.is_observable live (is_barred mode) e

pub split_delay_is : (m : Numbers) (mode : Mode) (t : Trace) (standings : List Standing) (lives : List (List Bool)) (i j : ℕ) (a b : Standing) (d : Option ℕ) → standings ≡ standings_of m t → lives ≡ lives_of t → i < j → slice_get standings i ≡ Some a → slice_get standings j ≡ Some b
    → a.traits.leaves ≡ true → d ≡ split_delay_of mode a.traits b.traits (has_join b i) (is_live (slice_get lives i) i j) → IsDelay m mode t i j d
split_delay_is m mode t standings lives i j a b d exact lives_exact in_order at_one at_two leaves is =
    let split = split_at m t i a (entry_at m t standings exact i a at_one) leaves in
    let live : Bool = is_live (slice_get lives i) i j in
    let w : Ways = record { last = reaches a i j; touch = false; joined = has_join b i; live = live } in
    let same : live ≡ (a.traits.leaves && live) = ap (λ x. x && live) (sym leaves) in
    let told = tells m t standings lives i j a b w exact lives_exact in_order at_one at_two refl refl same (λ e. absurd (false≢true e)) (λ e k. absurd (false≢true (sym split.access ∙ k.upper))) in
    delay_is m t standings exact mode i j a b w d in_order at_one at_two told (is ∙ sym (split_rows mode a.traits b.traits (reaches a i j) (has_join b i) live split leaves))
