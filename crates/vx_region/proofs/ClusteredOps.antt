-- What is known of the operations of a clustered trace: where they come from, what they name, and that they stand where their
-- values do.
use Rattle.std.proofs.Common.{◌≡◌, ◌≢◌, ◌⊎◌, inl, inr, refl, sym, ◌∙◌, ap, subst, arith, Bool, true, false, ℕ, suc, ◌+◌, ◌*◌, ◌<◌, ◌≤◌, Option, Some, List, [], ◌∷◌, ◌++◌, length, slice_get, slice_index_or}
use Rattle.std.specs.Prelude.{◌%◌, ◌/◌, ◌-◌, if◌then◌else◌, None, not}
use Rattle.std.proofs.Math.Nat.{mod-eq_of_lt, mul_comm, mul-add-mod_self_right, mul-le-mul_right}
use Rattle.std.proofs.lemmas.Bool.{lt-ltb, le-ltb, cases_lt, eq-eqb}
use Rattle.std.proofs.lemmas.Nat.{div-mul-add, mul-add-lt}
use Rattle.vx_base.specs.declared.arithmetic.Code.{Code}
use Rattle.vx_base.specs.declared.arithmetic.Code.TheVariants.{ToBranch}
use Rattle.vx_flow.specs.declared.graph.Bank.{Bank}
use Rattle.vx_flow.specs.declared.graph.Bank.TheVariants.{General, Branch}
use Rattle.vx_flow.specs.declared.graph.Graph.{Graph}
use Rattle.vx_flow.specs.declared.graph.Op.{Op}
use Rattle.vx_flow.specs.declared.graph.Op.TheVariants.{Compute, Select, Load, More, Input, Across, PlaceIn}
use Rattle.vx_flow.specs.declared.graph.Operand.{Operand}
use Rattle.vx_flow.specs.declared.graph.Operand.TheVariants.{Held, Number, Stack}
use Rattle.vx_flow.specs.declared.trace.TraceOp.{TraceOp}
use Rattle.vx_flow.specs.declared.trace.TraceOp.TheVariants.{Plain as TracePlain, Split as TraceSplit}
use Rattle.vx_flow.specs.declared.trace.Trace.{Trace}
use Rattle.vx_flow.specs.Effects.{IsIn, is_unary, dismissed, reads, writes}
use Rattle.vx_flow.specs.Operands.{binds, with_value_in, first_operand, second_operand, with_two}
use Rattle.vx_flow.specs.Sound.{bank_written, tests_of, Sound}
use Rattle.vx_flow.proofs.Members.{in_left, in_right, in_either}
use Rattle.vx_flow.proofs.SoundLaw.{sound_is}
use Rattle.vx_isa.specs.Numbers.{Numbers, IsMachine}
use Rattle.vx_mixed.specs.declared.mixed.MixedGraph.{MixedGraph}
use Rattle.vx_mixed.specs.CanReplace.{OnFirst, Stands, AwayFrom}
use Rattle.vx_layout.specs.Origins.{whole, whole_operand, whole_op, ComesFrom, graph_op, copy}
use Rattle.vx_layout.specs.Origins.{copy_of as copy_to}
use Rattle.vx_mixed.specs.Settled.{has_home, home_of as home_in, bank_of, stands_for, StandsOn, read_there}
use Rattle.vx_mixed.specs.TraceOf.{CanTrace, IsTraceOf}
use Rattle.vx_mixed.specs.Valid.{Valid, IsOp, names_of}
use Rattle.vx_mixed.proofs.Linked.{index_in}
use Rattle.vx_dep.specs.Delays.{Stands as StandsAt, reads_of, writes_of}
use Rattle.vx_bug.specs.declared.clusters.Clusters.{Clusters}
use Rattle.vx_bug.specs.Assigned.{last_books, Assigned}
use Rattle.vx_bug.specs.CanAssign.{IsFree}
use Rattle.vx_bug.specs.Clusters.{general_reads, general_writes, is_bound, is_across}
use Rattle.vx_bug.specs.Copies.{copy_of, is_away, here, renamed, renamed_op}
use Rattle.vx_bug.proofs.Best.{four_clusters}
use Rattle.vx_region.specs.AtHome.{IsAtHome, CopiesAtHome, StandsFor, copies, stays, renames, StandsWell, AllStand}
use Rattle.vx_region.proofs.Fresh.{renamed_read, renamed_writes}
use Rattle.vx_region.proofs.Renamed.{IsNamed}
use Rattle.vx_region.specs.Regions.{IsCopyAway, IsGraphOf}
use Rattle.vx_region.proofs.Assignable.{names_below}
use Rattle.vx_region.proofs.PlanOps.{is_op}
use Rattle.vx_region.proofs.SoundOps.{Known, known, read_kind}

-- numbers of copies

one_more : (k n v : ℕ) → copy_to n v k ≡ copy_of n v k
one_more k n v = let e : suc k ≡ k + 1 = omega arith in ap (λ z. z * n + v) e

pub copy_whole : (n v k : ℕ) → copy_of n v k % n ≡ v % n
copy_whole n v k = mul-add-mod_self_right (k + 1) n v

copy_below : (n v k clusters : ℕ) → v < n → k < clusters → copy_of n v k < (clusters + 1) * n
copy_below n v k clusters lt there =
    let a : (k + 1) * n + v < n * (clusters + 1) = mul-add-lt (k + 1) n v (clusters + 1) (omega (arith, there)) lt in
    let b : n * (clusters + 1) ≡ (clusters + 1) * n = mul_comm n (clusters + 1) in
    omega (arith, a, b)

pub value_below : (n v clusters : ℕ) → v < n → v < (clusters + 1) * n
value_below n v clusters lt = let a : 0 * n + v < n * (clusters + 1) = mul-add-lt 0 n v (clusters + 1) (omega arith) lt in let b : n * (clusters + 1) ≡ (clusters + 1) * n = mul_comm n (clusters + 1) in let c : 0 * n + v ≡ v = omega arith in omega (arith, a, b, c)

pub all_copies : (n clusters v : ℕ) → clusters ≤ 4 → v < (clusters + 1) * n → v < 5 * n
all_copies n clusters v few lt = let a : (clusters + 1) * n ≤ 5 * n = mul-le-mul_right n (omega (arith, few)) in omega (arith, a, lt)

pub copy_home : (n v k : ℕ) → v < n → copy_of n v k / n - 1 ≡ k
copy_home n v k lt = let e : copy_of n v k / n ≡ k + 1 = div-mul-add (k + 1) n v lt in omega (arith, e)

pub behind_values : (n v k : ℕ) → n ≤ copy_of n v k
behind_values n v k = let e : copy_of n v k ≡ k * n + n + v = omega arith in omega (arith, e)

-- a value that stands on another cluster has a home there
away_home : (o : Option ℕ) (k : ℕ) → is_away o k ≡ true → (h : ℕ) × (o ≡ Some h) × (h ≢ k)
away_home (Some h) k e = (h, refl, λ q. let z : false ≡ true = ap not (sym (eq-eqb h k q)) ∙ e in cc)
away_home None k e = absurd (cc)

-- homes that stay leave a copy away
pub still_away : (banks : List Bank) (homes homes' : List (Option ℕ)) (v : ℕ) → ((u k : ℕ) → has_home homes u ≡ Some k → has_home homes' u ≡ Some k) → IsCopyAway banks homes v → IsCopyAway banks homes' v
still_away banks homes homes' v stay a = record { value = a.value; cluster = a.cluster; home = a.home; number = a.number; bank = a.bank; has = stay a.value a.home a.has; other = a.other }

-- the home that a value has in the list is the one where it stands
pub stands_home : (m : MixedGraph) → CopiesAtHome (length m.banks) (has_home m.homes.clusters) → (v k : ℕ) → has_home m.homes.clusters v ≡ Some k → home_in m v ≡ Some k
stands_home m copied v k e = by (cases_lt v (length m.banks))
  where
    by : (v < length m.banks) ⊎ (length m.banks ≤ v) → home_in m v ≡ Some k
    by (inl lt) = ap (λ b. if b then has_home m.homes.clusters v else Some (v / length m.banks - 1)) (lt-ltb v (length m.banks) lt) ∙ e
    by (inr le) =
        let c = copied v k e le in
        ap (λ b. if b then has_home m.homes.clusters v else Some (v / length m.banks - 1)) (le-ltb v (length m.banks) le)
        ∙ ap (λ z. Some (z / length m.banks - 1)) c.2 ∙ ap Some (copy_home (length m.banks) c.0 k c.1)

-- operations

no_across_read : (op : Op) (v : ℕ) → IsIn v (read_there op) → (is_across (TracePlain op) ≡ false) × IsIn v (reads op)
no_across_read (Across w u) v h = absurd h
no_across_read op v h = (refl, h)

tests_bound : (op : Op) (v : ℕ) → IsIn v (tests_of op) → is_bound (TracePlain op) ≡ true
tests_bound (Select w p a b) v h = refl
tests_bound op v h = absurd h

-- what is written is a general value, or a branch value on cluster 0
code_written : (code : Code) (w : ℕ) (a b : Operand) (v : ℕ) → IsIn v (w ∷ []) → (IsIn v (general_writes (TracePlain (Compute code w a b))) × (bank_written (Compute code w a b) ≡ General)) ⊎ ((is_bound (TracePlain (Compute code w a b)) ≡ true) × (bank_written (Compute code w a b) ≡ Branch))
code_written (ToBranch c) w a b v h = inr (refl, refl)
code_written code w a b v h = inl (h, refl)

written : (op : Op) (v : ℕ) → IsIn v (writes op) → (IsIn v (general_writes (TracePlain op)) × (bank_written op ≡ General)) ⊎ ((is_bound (TracePlain op) ≡ true) × (bank_written op ≡ Branch))
written (Compute code w a b) v h = code_written code w a b v h
written op v h = inl (h, refl)

-- what is bound is written, by an operation on cluster 0
bound_written : (op : Op) (v : ℕ) → binds op ≡ Some v → IsIn v (general_writes (TracePlain op)) × (is_bound (TracePlain op) ≡ true)
bound_written (Select w p a b) v e = let q : v ≡ w = cc in (inl q, refl)
bound_written (More w) v e = let q : v ≡ w = cc in (inl q, refl)
bound_written (Input w) v e = let q : v ≡ w = cc in (inl q, refl)
bound_written op v e = absurd cc

first_is : (op : Op) (k : ℕ) → (is_bound (TracePlain op) ≡ true → k ≡ 0) → OnFirst op k
first_is (Compute code w a b) k h = λ e. absurd cc
first_is (Select w p a b) k h = λ e. absurd cc
first_is op k h = λ e. h e

-- a load that may be dismissed is at home where the load is
pub dismissed_at_home : (home : ℕ → Option ℕ) (op : Op) (k : ℕ) → IsAtHome home (TracePlain op) k → IsAtHome home (TracePlain (dismissed op)) k
dismissed_at_home home (Load v a p d) k h = record { reads = λ w no i. h.reads w no i; writes = λ w i. h.writes w i; bound = λ e. h.bound e }
dismissed_at_home home op k h = h

-- an operation at home stands where its values do
module _ (graph : Graph) (M : MixedGraph) (banks : M.banks ≡ graph.banks) (copied : CopiesAtHome (length M.banks) (has_home M.homes.clusters)) (op : Op) (k : ℕ) (knows : Known graph op) (home : IsAtHome (has_home M.homes.clusters) (TracePlain op) k) where
  bank_is : (v : ℕ) (b : Bank) → slice_get graph.banks (v % length graph.banks) ≡ Some b → bank_of M v ≡ Some b
  bank_is v b e = ap (λ bs. slice_get bs (v % length bs)) banks ∙ e

  general : (v : ℕ) → slice_get graph.banks (v % length graph.banks) ≡ Some General → has_home M.homes.clusters v ≡ Some k → StandsOn M v k
  general v b h = subst (λ z. stands_for z (home_in M v) k) (sym (bank_is v General b)) (stands_home M copied v k h)

  branch : (v : ℕ) → slice_get graph.banks (v % length graph.banks) ≡ Some Branch → k ≡ 0 → StandsOn M v k
  branch v b e = subst (λ z. stands_for z (home_in M v) k) (sym (bank_is v Branch b)) e

  pub stands : Stands M op k
  stands = record {
    reads = λ v h. let r = no_across_read op v h in elim (read_kind v op r.1) [
      | inl g ↦ general v (knows.operands v g) (home.reads v r.0 g)
      | inr t ↦ branch v (knows.tests v t) (home.bound (tests_bound op v t))
    ];
    writes = λ v h. elim (written op v h) [
      | inl g ↦ general v (knows.results v h ∙ ap Some g.1) (home.writes v g.0)
      | inr t ↦ branch v (knows.results v h ∙ ap Some t.1) (home.bound t.0)
    ];
    bound = λ v e. let b = bound_written op v e in home.writes v b.0 ∙ ap Some (home.bound b.1);
    first = first_is op k (λ e. home.bound e);
  }

-- an operation with copies among its operands is that operation, but for them

whole_operand_same : (n : ℕ) (to : ℕ → ℕ) → ((v : ℕ) → to v % n ≡ v % n) → (x : Operand) → whole_operand n (with_value_in to x) ≡ whole_operand n x
whole_operand_same n to h (Held v) = ap Held (h v)
whole_operand_same n to h (Number k) = refl
whole_operand_same n to h Stack = refl

right_same : (n : ℕ) (to : ℕ → ℕ) → ((v : ℕ) → to v % n ≡ v % n) → (unary : Bool) (x : Operand) → whole_operand n (if unary then x else with_value_in to x) ≡ whole_operand n x
right_same n to h true x = refl
right_same n to h false x = whole_operand_same n to h x

whole_same : (n : ℕ) (to : ℕ → ℕ) → ((v : ℕ) → to v % n ≡ v % n) → (op : Op) → whole_op n (renamed to op) ≡ whole_op n op
whole_same n to h (Compute code v a b) = ap (λ z. Compute code (whole n v) z (whole_operand n (if is_unary code then b else with_value_in to b))) (whole_operand_same n to h a) ∙ ap (λ z. Compute code (whole n v) (whole_operand n a) z) (right_same n to h (is_unary code) b)
whole_same n to h (PlaceIn v a u i) = ap (λ z. PlaceIn (whole n v) a z (whole_operand n (with_value_in to i))) (h u) ∙ ap (λ z. PlaceIn (whole n v) a (whole n u) z) (whole_operand_same n to h i)
whole_same n to h op =
    ap (λ z. with_two (whole_op n op) z (whole_operand n (with_value_in to (second_operand op)))) (whole_operand_same n to h (first_operand op))
    ∙ ap (λ z. with_two (whole_op n op) (whole_operand n (first_operand op)) z) (whole_operand_same n to h (second_operand op))

here_whole : (n : ℕ) (homes : ℕ → Option ℕ) (k v : ℕ) → here n homes k v % n ≡ v % n
here_whole n homes k v = by (is_away (homes v) k)
  where
    by : (b : Bool) → (if b then copy_of n v k else v) % n ≡ v % n
    by true = copy_whole n v k
    by false = refl

-- it is an operation of which this is a renaming
of_renamed : (to : ℕ → ℕ) (op : Op) (origin : TraceOp) → TracePlain op ≡ renamed_op to origin → (o : Op) × (origin ≡ TracePlain o) × (op ≡ renamed to o)
of_renamed to op (TracePlain o) e = let q : op ≡ renamed to o = cc in (o, refl, q)
of_renamed to op (TraceSplit p y f live) e = absurd cc

renamed_across : (to : ℕ → ℕ) (o : Op) (v u : ℕ) → Across v u ≡ renamed to o → o ≡ Across v u
renamed_across to (Across w x) v u e = sym e
renamed_across to op v u e = absurd cc

-- the operations of a clustered trace

module _ (machine : Numbers) (graph : Graph) (m : MixedGraph) (blocks : List ℕ) (t : Trace) (r : Clusters) (works : IsMachine machine) (valid : Valid m) (G : IsGraphOf machine graph m) (can : CanTrace m blocks) (is : IsTraceOf m blocks t) (A : Assigned machine t m.homes r) (S : AllStand machine t m.homes r) where
  abbrev N : ℕ
  N = length m.banks

  abbrev Last : ℕ → Option ℕ
  Last = (last_books machine t m.homes r).homes

  sound : Sound graph
  sound = sound_is graph G.sound

  many : t.values ≡ N
  many = is.values

  graph_many : length graph.banks ≡ N
  graph_many = ap length (sym G.code.banks)

  of_trace : (i : ℕ) (op : Op) → StandsAt t i (TracePlain op) → IsOp m op
  of_trace i op at = is_op m blocks t can is op (index_in t.ops i (TracePlain op) at)

  value_there : (i : ℕ) (op : TraceOp) → StandsAt t i op → IsFree t i → (v : ℕ) → IsIn v (reads_of op ++ writes_of op) → v < N
  value_there i op at free v h = names_below machine graph m blocks t valid G can is i op at free v h

  -- a general value that is read is read
  general_read : (op : TraceOp) (v : ℕ) → IsIn v (general_reads op) → IsIn v (reads_of op)
  general_read (TracePlain (Select w p a b)) v h = inr h
  general_read (TracePlain op) v h = h
  general_read (TraceSplit p y e live) v h = absurd h

  plain_reads : (op : TraceOp) (v : ℕ) → IsIn v (general_reads op) → (o : Op) × (op ≡ TracePlain o)
  plain_reads (TracePlain o) v h = (o, refl)
  plain_reads (TraceSplit p y e live) v h = absurd h

  module _ (op : Op) (k : ℕ) (there : k < machine.clusters) where
    pub record Facts : Type 0 where
      pub comes : ComesFrom graph op
      pub below : (v : ℕ) → IsIn v (names_of op) → v < (machine.clusters + 1) * N
      pub away : (v u : ℕ) → op ≡ Across v u → AwayFrom m r.homes.clusters v u
      pub copies_away : (v : ℕ) → IsIn v (names_of op) → N ≤ v → IsCopyAway m.banks r.homes.clusters v

    away_of_old : IsOp m op → (v u : ℕ) → op ≡ Across v u → AwayFrom m r.homes.clusters v u
    away_of_old o v u e =
        let across : IsOp m (Across v u) = subst (IsOp m) e o in
        let a = valid.away v u across in
        record { is_copy = valid.copied v u across; value = a.0; home = a.1; has = S.homes_stay u a.1 a.2; other = a.3 }

    old : IsOp m op → Facts
    old o = record { comes = G.code.ops op o; below = λ v h. G.on.values op v o h; away = away_of_old o; copies_away = λ v h le. still_away m.banks m.homes.clusters r.homes.clusters v S.homes_stay (G.on.copied_away op v o h le) }

    copying : (v : ℕ) → v < N → slice_get graph.banks v ≡ Some General → (home : ℕ) → has_home r.homes.clusters v ≡ Some home → home ≢ k → op ≡ Across (copy_of t.values v k) v → Facts
    copying v lt bank home has other e =
        let is_op : op ≡ Across (copy_of N v k) v = e ∙ ap (λ n. Across (copy_of n v k) v) many in
        record {
          comes = subst (ComesFrom graph) (sym (is_op ∙ ap (λ n. Across (copy_of n v k) v) (sym graph_many) ∙ ap (λ z. Across z v) (sym (one_more k (length graph.banks) v)))) (copy {u = v} {k = k} bank (let f = four_clusters machine works in omega (arith, there, f)));
          below = λ w h. below_of w (subst (λ o. IsIn w (names_of o)) is_op h);
          away = λ w u q. away_of w u (sym is_op ∙ q);
          copies_away = λ w h le. copy_away w (subst (λ o. IsIn w (names_of o)) is_op h) le;
        }
      where
        copy_away : (w : ℕ) → IsIn w (names_of (Across (copy_of N v k) v)) → N ≤ w → IsCopyAway m.banks r.homes.clusters w
        copy_away w (inl q) le = absurd (omega (arith, q, lt, le))
        copy_away w (inr (inl q)) le = record { value = v; cluster = k; home = home; number = q; bank = ap (λ bs. slice_get bs v) G.code.banks ∙ bank; has = has; other = other }
        copy_away w (inr (inr h)) le = absurd h

        below_of : (w : ℕ) → IsIn w (names_of (Across (copy_of N v k) v)) → w < (machine.clusters + 1) * N
        below_of w (inl q) = subst (λ z. z < (machine.clusters + 1) * N) (sym q) (value_below N v machine.clusters lt)
        below_of w (inr (inl q)) = subst (λ z. z < (machine.clusters + 1) * N) (sym q) (copy_below N v k machine.clusters lt there)
        below_of w (inr (inr h)) = absurd h

        one_home : (h : ℕ) → home_in m (copy_of N v k) ≡ Some h → h ≡ k
        one_home h s =
            let q : home_in m (copy_of N v k) ≡ Some k = ap (λ b. if b then has_home m.homes.clusters (copy_of N v k) else Some (copy_of N v k / N - 1)) (le-ltb (copy_of N v k) N (behind_values N v k)) ∙ ap Some (copy_home N v k lt) in
            let z : Some h ≡ Some k = sym s ∙ q in
            cc

        away_of : (w u : ℕ) → Across (copy_of N v k) v ≡ Across w u → AwayFrom m r.homes.clusters w u
        away_of w u q =
            let a : copy_of N v k ≡ w = cc in
            let b : v ≡ u = cc in
            record {
              is_copy = subst (λ z. N ≤ z) a (behind_values N v k);
              value = subst (λ z. z < N) b lt;
              home = home;
              has = subst (λ z. has_home r.homes.clusters z ≡ Some home) b has;
              other = λ s. other (one_home home (subst (λ z. home_in m z ≡ Some home) (sym a) s));
            }

    renaming : (i : ℕ) (o : Op) → StandsAt t i (TracePlain o) → IsFree t i → op ≡ renamed (here t.values Last k) o → Facts
    renaming i o at free e = record {
      comes = comes_of o (G.code.ops o (of_trace i o at)) e;
      below = below_of;
      away = λ v u q. absurd (no_copy v u (renamed_across (here t.values Last k) o v u (sym q ∙ e)));
      copies_away = λ v h le. elim (in_either v (reads op) (writes op) h) [
        | inl a ↦ read_away v le (renamed_read to (TracePlain o) v (subst (λ z. IsIn v (reads z)) e a))
        | inr b ↦ let lt : v < N = named v (in_right v (reads o) (writes o) (subst (IsIn v) (ap writes e ∙ renamed_writes to (TracePlain o)) b)) in absurd (omega (arith, lt, le))
      ];
    }
      where
        to : ℕ → ℕ
        to = here t.values Last k

        named : (v : ℕ) → IsIn v (reads o ++ writes o) → v < N
        named = value_there i (TracePlain o) at free

        no_copy : (v u : ℕ) → o ≡ Across v u → ⊥
        no_copy v u q =
            let le : N ≤ v = valid.copied v u (subst (IsOp m) q (of_trace i o at)) in
            let lt : v < N = named v (subst (λ z. IsIn v (reads z ++ writes z)) (sym q) (inr (inl refl))) in
            omega (arith, le, lt)

        to_below : (v : ℕ) → v < N → to v < (machine.clusters + 1) * N
        to_below v lt = by (is_away (Last v) k)
          where
            by : (b : Bool) → (if b then copy_of t.values v k else v) < (machine.clusters + 1) * N
            by true = subst (λ n. copy_of n v k < (machine.clusters + 1) * N) (sym many) (copy_below N v k machine.clusters lt there)
            by false = value_below N v machine.clusters lt

        to_away : (u : ℕ) → u < N → slice_get graph.banks u ≡ Some General → N ≤ to u → IsCopyAway m.banks r.homes.clusters (to u)
        to_away u lt bank = by (is_away (Last u) k) refl
          where
            by : (b : Bool) → is_away (Last u) k ≡ b → N ≤ (if b then copy_of t.values u k else u) → IsCopyAway m.banks r.homes.clusters (if b then copy_of t.values u k else u)
            by true q le =
                let a = away_home (Last u) k q in
                record {
                  value = u;
                  cluster = k;
                  home = a.0;
                  number = ap (λ n. copy_of n u k) many;
                  bank = ap (λ bs. slice_get bs u) G.code.banks ∙ bank;
                  has = A.homes_of_values u (subst (λ n. u < n) (sym many) lt) ∙ a.1;
                  other = a.2;
                }
            by false q le = absurd (omega (arith, lt, le))

        read_away : (v : ℕ) → N ≤ v → IsNamed to (general_reads (TracePlain o)) v ⊎ IsIn v (reads o) → IsCopyAway m.banks r.homes.clusters v
        read_away v le (inl p) =
            let lt : p.value < N = named p.value (in_left p.value (reads o) (writes o) (general_read (TracePlain o) p.value p.member)) in
            let knows : Known graph o = known graph sound o (G.code.ops o (of_trace i o at)) in
            let bank : slice_get graph.banks p.value ≡ Some General = ap (slice_get graph.banks) (sym (mod-eq_of_lt (subst (λ n. p.value < n) (sym graph_many) lt))) ∙ knows.operands p.value p.member in
            subst (IsCopyAway m.banks r.homes.clusters) (sym p.is) (to_away p.value lt bank (subst (λ z. N ≤ z) p.is le))
        read_away v le (inr h) = let lt : v < N = named v (in_left v (reads o) (writes o) h) in absurd (omega (arith, lt, le))

        below_of : (v : ℕ) → IsIn v (names_of op) → v < (machine.clusters + 1) * N
        below_of v h = elim (in_either v (reads op) (writes op) h) [
          | inl a ↦ read_below v (renamed_read to (TracePlain o) v (subst (λ z. IsIn v (reads z)) e a))
          | inr b ↦ value_below N v machine.clusters (named v (in_right v (reads o) (writes o) (subst (IsIn v) (ap writes e ∙ renamed_writes to (TracePlain o)) b)))
        ]
          where
            read_below : (v : ℕ) → IsNamed to (general_reads (TracePlain o)) v ⊎ IsIn v (reads o) → v < (machine.clusters + 1) * N
            read_below v (inl p) = subst (λ z. z < (machine.clusters + 1) * N) (sym p.is) (to_below p.value (named p.value (in_left p.value (reads o) (writes o) (general_read (TracePlain o) p.value p.member))))
            read_below v (inr h) = value_below N v machine.clusters (named v (in_left v (reads o) (writes o) h))

        comes_of : (x : Op) → ComesFrom graph x → op ≡ renamed to x → ComesFrom graph op
        comes_of x (graph_op origin has same w names) q = graph_op origin has
            (ap (λ z. dismissed (whole_op (length graph.banks) z)) q ∙ ap dismissed (whole_same (length graph.banks) to to_whole x) ∙ same)
            (ap writes q ∙ renamed_writes to (TracePlain x) ∙ w)
            (λ v h. subst (λ n. v < 5 * n) (sym graph_many) (all_copies N machine.clusters v (four_clusters machine works) (below_of v h)))
          where
            to_whole : (v : ℕ) → to v % length graph.banks ≡ v % length graph.banks
            to_whole v = subst (λ n. here n Last k v % length graph.banks ≡ v % length graph.banks) (graph_many ∙ sym many) (here_whole (length graph.banks) Last k v)
        comes_of x (copy {u = u} {k = l} there low) q = subst (ComesFrom graph) (sym q) (copy {u = u} {k = l} there low)

    facts_of : StandsFor t Last (TracePlain op) k → Facts
    facts_of (copies i v home reader at free own h has other e) =
        let p = plain_reads reader v h in
        let at' : StandsAt t i (TracePlain p.0) = at ∙ ap Some p.1 in
        let lt : v < N = value_there i reader at free v (in_left v (reads_of reader) (writes_of reader) (general_read reader v h)) in
        let lt' : v < length graph.banks = subst (λ n. v < n) (sym graph_many) lt in
        let knows : Known graph p.0 = known graph sound p.0 (G.code.ops p.0 (of_trace i p.0 at')) in
        let bank : slice_get graph.banks v ≡ Some General = ap (slice_get graph.banks) (sym (mod-eq_of_lt lt')) ∙ knows.operands v (subst (λ o. IsIn v (general_reads o)) p.1 h) in
        let there_home : has_home r.homes.clusters v ≡ Some home = A.homes_of_values v (subst (λ n. v < n) (sym many) lt) ∙ has in
        copying v lt bank home there_home other (let q : op ≡ Across (copy_of t.values v k) v = cc in q)
    facts_of (stays i at fixed) = old (of_trace i op at)
    facts_of (renames i origin at free e) =
        let o = of_renamed (here t.values Last k) op origin e in
        renaming i o.0 (at ∙ ap Some o.1) free o.2

  -- the facts of an operation at a place, and that it is at home

  module _ (i : ℕ) (op : Op) (at : slice_get r.clustered.trace.ops i ≡ Some (TracePlain op)) where
    well : StandsWell machine t m.homes r (TracePlain op) (slice_index_or r.clustered.clusters i 0)
    well = S.each i (TracePlain op) at

    facts : Facts op (slice_index_or r.clustered.clusters i 0) well.there
    facts = facts_of op (slice_index_or r.clustered.clusters i 0) well.there well.for

    pub op_comes : ComesFrom graph op
    op_comes = facts.comes

    pub op_below : (v : ℕ) → IsIn v (names_of op) → v < (machine.clusters + 1) * N
    op_below = facts.below

    pub op_copies_away : (v : ℕ) → IsIn v (names_of op) → N ≤ v → IsCopyAway m.banks r.homes.clusters v
    op_copies_away = facts.copies_away

    pub op_away : (v u : ℕ) → op ≡ Across v u → AwayFrom m r.homes.clusters v u
    op_away = facts.away

    pub op_at_home : IsAtHome (has_home r.homes.clusters) (TracePlain op) (slice_index_or r.clustered.clusters i 0)
    op_at_home = well.at_home

    pub op_there : slice_index_or r.clustered.clusters i 0 < machine.clusters
    op_there = well.there

    pub op_known : Known graph op
    op_known = known graph sound op facts.comes
