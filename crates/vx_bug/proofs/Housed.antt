-- The homes after the copies have theirs: a value of the function's graph keeps what it has, and a copy that is made has its
-- cluster.
use Rattle.std.proofs.Common.{◌≡◌, ◌<◌, ◌≤◌, ◌+◌, ◌*◌, ◌⊎◌, inl, inr, ⊎_elim, ◌==◌, refl, sym, ◌∙◌, ap, arith, Bool, true, false, if◌then◌else◌, ℕ, Option, Some, None, List, [], ◌∷◌, map}
use Rattle.std.proofs.lemmas.Bool.{eqb-true, eq-eqb, cases_lt}
use Rattle.std.proofs.lemmas.Nat.{mul-add-lt}
use Rattle.vx_flow.specs.declared.graph.Op.TheVariants.{Compute, Select, Place, Load, Store, More, Input, Text, Decimal, Across, Base, PlaceIn}
use Rattle.vx_flow.specs.declared.trace.TraceOp.{TraceOp}
use Rattle.vx_flow.specs.declared.trace.TraceOp.TheVariants.{Plain, Split}
use Rattle.vx_flow.specs.Effects.{IsIn}
use Rattle.vx_bug.specs.Copies.{copy_of, Standing, across}
use Rattle.vx_bug.specs.Ledgers.{placed}
use Rattle.vx_bug.specs.Laying.{standing, with_copy, with_homes_of_copies}

-- over the standings themselves
abbrev pub housed : (values : ℕ) → (ℕ → Option ℕ) → List Standing → (ℕ → Option ℕ)
housed values homes [] = homes
housed values homes (s ∷ ss) = housed values (with_copy values homes s.fixed s.op s.cluster) ss

pub housed_lists : (values : ℕ) (homes : ℕ → Option ℕ) (ss : List Standing) → with_homes_of_copies values homes (map (λ (s : Standing). s.op) ss) (map (λ (s : Standing). s.cluster) ss) (map (λ (s : Standing). s.fixed) ss) ≡ housed values homes ss
housed_lists values homes [] = refl
housed_lists values homes (s ∷ ss) = housed_lists values (with_copy values homes s.fixed s.op s.cluster) ss

-- one of them either makes a copy, or changes nothing

pub record Makes (values : ℕ) (homes : ℕ → Option ℕ) (fixed : Option ℕ) (op : TraceOp) (cluster : ℕ) : Type 0 where
  pub from : ℕ
  pub none : fixed ≡ None
  pub is : op ≡ Plain (Across (copy_of values from cluster) from)
  pub new : (u : ℕ) → with_copy values homes fixed op cluster u ≡ (if u == copy_of values from cluster then Some cluster else homes u)

abbrev pub Leaves : (values : ℕ) → (ℕ → Option ℕ) → Option ℕ → TraceOp → ℕ → Type 0
Leaves values homes fixed op cluster = (u : ℕ) → with_copy values homes fixed op cluster u ≡ homes u

across_either : (values : ℕ) (homes : ℕ → Option ℕ) (to from cluster : ℕ) → Makes values homes None (Plain (Across to from)) cluster ⊎ Leaves values homes None (Plain (Across to from)) cluster
across_either values homes to from cluster = by (to == copy_of values from cluster) refl
  where
    by : (b : Bool) → (to == copy_of values from cluster) ≡ b → Makes values homes None (Plain (Across to from)) cluster ⊎ Leaves values homes None (Plain (Across to from)) cluster
    by true e =
        let same : to ≡ copy_of values from cluster = eqb-true to (copy_of values from cluster) e in
        inl (record {
          from = from;
          none = refl;
          is = ap (λ x. Plain (Across x from)) same;
          new = λ u. ap (λ b. (if b then placed cluster homes to else homes) u) e ∙ ap (λ x. if u == x then Some cluster else homes u) same;
        })
    by false e = inr (λ u. ap (λ b. (if b then placed cluster homes to else homes) u) e)

pub either : (values : ℕ) (homes : ℕ → Option ℕ) (fixed : Option ℕ) (op : TraceOp) (cluster : ℕ) → Makes values homes fixed op cluster ⊎ Leaves values homes fixed op cluster
either values homes (Some f) op cluster = inr (λ u. refl)
either values homes None (Split test leaves_when edge live) cluster = inr (λ u. refl)
either values homes None (Plain (Across to from)) cluster = across_either values homes to from cluster
either values homes None (Plain (Base v a x)) cluster = inr (λ u. refl)
either values homes None (Plain (PlaceIn v a w i)) cluster = inr (λ u. refl)
either values homes None (Plain (Compute code v a b)) cluster = inr (λ u. refl)
either values homes None (Plain (Select v test a b)) cluster = inr (λ u. refl)
either values homes None (Plain (Place v a i)) cluster = inr (λ u. refl)
either values homes None (Plain (Load v a p dismissible)) cluster = inr (λ u. refl)
either values homes None (Plain (Store a p x)) cluster = inr (λ u. refl)
either values homes None (Plain (More v)) cluster = inr (λ u. refl)
either values homes None (Plain (Input v)) cluster = inr (λ u. refl)
either values homes None (Plain (Text n)) cluster = inr (λ u. refl)
either values homes None (Plain (Decimal x)) cluster = inr (λ u. refl)

differ : (a b : ℕ) → (a ≡ b → ⊥) → (a == b) ≡ false
differ a b h = by (a == b) refl
  where
    by : (x : Bool) → (a == b) ≡ x → (a == b) ≡ false
    by true e = absurd (h (eqb-true a b e))
    by false e = e

other_home : (u to cluster : ℕ) (homes : ℕ → Option ℕ) → (u ≡ to → ⊥) → (if u == to then Some cluster else homes u) ≡ homes u
other_home u to cluster homes h = ap (λ b. if b then Some cluster else homes u) (differ u to h)

made_standing : (values : ℕ) (homes : ℕ → Option ℕ) (s : Standing) (m : Makes values homes s.fixed s.op s.cluster) → across values s.cluster m.from ≡ s
made_standing values homes s m = ap (λ o. standing o s.cluster None) (sym m.is) ∙ ap (λ f. standing s.op s.cluster f) (sym m.none)

-- values that no copy is, keep their homes

pub housed_other : (values u : ℕ) (homes : ℕ → Option ℕ) (ss : List Standing) → ((v k : ℕ) → IsIn (across values k v) ss → u ≡ copy_of values v k → ⊥) → housed values homes ss u ≡ homes u
housed_other values u homes [] h = refl
housed_other values u homes (s ∷ ss) h =
    housed_other values u (with_copy values homes s.fixed s.op s.cluster) ss (λ v k i e. h v k (inr i) e)
    ∙ ⊎_elim
    (λ (m : Makes values homes s.fixed s.op s.cluster). m.new u ∙ other_home u (copy_of values m.from s.cluster) s.cluster homes (λ e. h m.from s.cluster (inl (made_standing values homes s m)) e))
    (λ (l : Leaves values homes s.fixed s.op s.cluster). l u)
    (either values homes s.fixed s.op s.cluster)

-- copies of values of the graph are apart

behind_values : (values v k : ℕ) → values ≤ copy_of values v k
behind_values values v k = let e : copy_of values v k ≡ k * values + values + v = omega arith in omega (arith, e)

pub copy_is_new : (values u v k : ℕ) → u < values → u ≡ copy_of values v k → ⊥
copy_is_new values u v k h e = let b = behind_values values v k in omega (arith, h, e, b)

less_apart : (values v w k l : ℕ) → v < values → k < l → copy_of values v k ≡ copy_of values w l → ⊥
less_apart values v w k l h g e =
    let a : (k + 1) * values + v < values * (l + 1) = mul-add-lt (k + 1) values v (l + 1) (omega (arith, g)) h in
    omega (arith, a, e)

pub one_cluster : (values v w k l : ℕ) → v < values → w < values → copy_of values v k ≡ copy_of values w l → k ≡ l
one_cluster values v w k l h g e = ⊎_elim
    (λ a. absurd (less_apart values v w k l h a e))
    (λ a. ⊎_elim (λ b. absurd (less_apart values w v l k g b (sym e))) (λ b. omega (arith, a, b)) (cases_lt l k))
    (cases_lt k l)

-- a copy that is made has its cluster

pub record Bounded (values : ℕ) (ss : List Standing) : Type 0 where
  pub below : (v k : ℕ) → IsIn (across values k v) ss → v < values

housed_kept : (values v k : ℕ) (homes : ℕ → Option ℕ) (ss : List Standing) → v < values → Bounded values ss → homes (copy_of values v k) ≡ Some k → housed values homes ss (copy_of values v k) ≡ Some k
housed_kept values v k homes [] h b e = e
housed_kept values v k homes (s ∷ ss) h b e =
    housed_kept values v k (with_copy values homes s.fixed s.op s.cluster) ss h (record { below = λ w l i. b.below w l (inr i) })
    (⊎_elim
    (λ (m : Makes values homes s.fixed s.op s.cluster). m.new (copy_of values v k) ∙ by m (copy_of values v k == copy_of values m.from s.cluster) refl)
    (λ (l : Leaves values homes s.fixed s.op s.cluster). l (copy_of values v k) ∙ e)
    (either values homes s.fixed s.op s.cluster))
  where
    by : (m : Makes values homes s.fixed s.op s.cluster) (x : Bool) → (copy_of values v k == copy_of values m.from s.cluster) ≡ x →
        (if copy_of values v k == copy_of values m.from s.cluster then Some s.cluster else homes (copy_of values v k)) ≡ Some k
    by m true q =
        let small : m.from < values = b.below m.from s.cluster (inl (made_standing values homes s m)) in
        let same : k ≡ s.cluster = one_cluster values v m.from k s.cluster h small (eqb-true (copy_of values v k) (copy_of values m.from s.cluster) q) in
        ap (λ x. if x then Some s.cluster else homes (copy_of values v k)) q ∙ ap Some (sym same)
    by m false q = ap (λ x. if x then Some s.cluster else homes (copy_of values v k)) q ∙ e

given_there : (values v k : ℕ) (homes : ℕ → Option ℕ) → with_copy values homes None (Plain (Across (copy_of values v k) v)) k (copy_of values v k) ≡ Some k
given_there values v k homes =
    let same : (copy_of values v k == copy_of values v k) ≡ true = eq-eqb (copy_of values v k) (copy_of values v k) refl in
    ap (λ b. (if b then placed k homes (copy_of values v k) else homes) (copy_of values v k)) same ∙ ap (λ b. if b then Some k else homes (copy_of values v k)) same

pub housed_made : (values v k : ℕ) (homes : ℕ → Option ℕ) (ss : List Standing) → v < values → Bounded values ss → IsIn (across values k v) ss → housed values homes ss (copy_of values v k) ≡ Some k
housed_made values v k homes [] h b i = absurd i
housed_made values v k homes (s ∷ ss) h b i =
    let more : Bounded values ss = record { below = λ w l j. b.below w l (inr j) } in
    ⊎_elim
    (λ e. housed_kept values v k (with_copy values homes s.fixed s.op s.cluster) ss h more (ap (λ (x : Standing). with_copy values homes x.fixed x.op x.cluster (copy_of values v k)) (sym e) ∙ given_there values v k homes))
    (λ j. housed_made values v k (with_copy values homes s.fixed s.op s.cluster) ss h more j)
    i
