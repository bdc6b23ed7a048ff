-- Operations one after the other: in a longer row, with other values in place of their own, and moves of arguments.
use Rattle.std.proofs.Common.{◌≡◌, inl, inr, ℕ, zero, suc, ℤ, Bool, true, false, cond, ◌==◌, List, [], ◌∷◌, ◌++◌, length, map, slice_set, Option, Some, None, refl, sym, ap, ◌∙◌, subst, eq-eqb, eqb-true}
use Rattle.std.proofs.lemmas.Bool.{and_parts}
use Rattle.std.specs.List.{flat_map}
use Rattle.vx_base.specs.Outcome.{Outcome, IsOver, IsFailure, IsGoing}
use Rattle.vx_flow.specs.declared.graph.Operand.{Operand}
use Rattle.vx_flow.specs.declared.graph.Operand.TheVariants.{Held, Number, Stack}
use Rattle.vx_flow.specs.declared.graph.Op.{Op}
use Rattle.vx_flow.specs.declared.graph.Op.TheVariants.{Compute, Select, Place, Load, Store, More, Input, Text, Decimal, Across, Base, PlaceIn}
use Rattle.vx_flow.specs.declared.graph.Exit.{Exit}
use Rattle.vx_flow.specs.Agree.{SameWorld}
use Rattle.vx_flow.specs.Effects.{Content, State, Setting, IsIn, held, with_value, loaded, stored, next_input, printed, effect, value_in}
use Rattle.vx_flow.specs.Meaning.{Hop, with_front, known, leave, and_then, block_hop, at_entry}
use Rattle.vx_flow.specs.Operands.{with_values}
use Rattle.vx_flow.specs.Sound.{are_distinct}
use Rattle.vx_flow.proofs.Members.{in_left, in_right}
use Rattle.vx_flow.proofs.SoundLists.{all_in, differs}
use Rattle.vx_inline.specs.Inlined.{moves_in}
use Rattle.vx_inline.specs.Renaming.{Carried, AreApart, Within, CarriedTo}
use Rattle.vx_inline.proofs.Renaming.{unequal, effect_renamed}

pub over_by : (o : Outcome) → (IsGoing o → ⊥) → (IsFailure o → ⊥) → IsOver o
over_by (Outcome.Ends r out) g f = tt
over_by (Outcome.Traps k out) g f = tt
over_by (Outcome.Goes out) g f = g tt
over_by (Outcome.Stuck why p out) g f = f tt
over_by (Outcome.Wrong out) g f = f tt

-- ---- rows of operations

abbrev pub then_do : Option State → (State → Option State) → Option State
then_do None f = None
then_do (Some t) f = f t

abbrev pub done : Setting → List Op → State → Option State
done setting [] s = Some s
done setting (op ∷ ops) s = then_do (effect setting s op s) (done setting ops)

done_by : (setting : Setting) (ops : List Op) (f g : State → Hop) (o : Option State) → ((t : State) → f t ≡ and_then (done setting ops t) g) → and_then o f ≡ and_then (then_do o (done setting ops)) g
done_by setting ops f g None h = refl
done_by setting ops f g (Some t) h = h t

pub hop_done : (setting : Setting) (b : ℕ) (ops rest : List Op) (exit : Exit) (s : State) → block_hop setting b (ops ++ rest) exit s ≡ and_then (done setting ops s) (block_hop setting b rest exit)
hop_done setting b [] rest exit s = refl
hop_done setting b (op ∷ ops) rest exit s = done_by setting ops (block_hop setting b (ops ++ rest) exit) (block_hop setting b rest exit) (effect setting s op s) (hop_done setting b ops rest exit)

pub hop_own : (setting : Setting) (b : ℕ) (ops : List Op) (exit : Exit) (s : State) → block_hop setting b ops exit s ≡ and_then (done setting ops s) (leave b exit)
hop_own setting b [] exit s = refl
hop_own setting b (op ∷ ops) exit s = done_by setting ops (block_hop setting b ops exit) (leave b exit) (effect setting s op s) (hop_own setting b ops exit)

-- ---- the number of arrays stays

abbrev Counts : ℕ → Option State → Type 0
Counts n None = Unit {0}
Counts n (Some t) = length t.arrays ≡ n

loaded_counts : (t : State) (v : ℕ) (row : List Content) (i : Option ℕ) (d : Bool) → Counts (length t.arrays) (loaded t v row i d)
loaded_counts t v row None true = refl
loaded_counts t v row None false = tt
loaded_counts t v row (Some i) d = refl

stored_counts : (t : State) (a : ℕ) (i : Option ℕ) (x : Content) → Counts (length t.arrays) (stored t a i x)
stored_counts t a None x = tt
stored_counts t a (Some i) None = tt
stored_counts t a (Some i) (Some n) = set_counts t.arrays a _
  where
    set_counts : (rows : List (List Content)) (k : ℕ) (row : List Content) → length (slice_set rows k row) ≡ length rows
    set_counts [] k row = refl
    set_counts (r ∷ rows) zero row = refl
    set_counts (r ∷ rows) (suc k) row = ap suc (set_counts rows k row)

input_counts : (t : State) (v : ℕ) (ns : List ℤ) → Counts (length t.arrays) (next_input t v ns)
input_counts t v [] = tt
input_counts t v (n ∷ ns) = refl

printed_counts : (t : State) (out : List ℕ) (x : Content) → Counts (length t.arrays) (printed t out x)
printed_counts t out None = tt
printed_counts t out (Some n) = refl

effect_counts : (setting : Setting) (s : State) (op : Op) → Counts (length s.arrays) (effect setting s op s)
effect_counts setting s (Compute code v a b) = refl
effect_counts setting s (Select v p a b) = refl
effect_counts setting s (Place v a i) = refl
effect_counts setting s (Load v a p d) = loaded_counts s v _ _ d
effect_counts setting s (Store a p x) = stored_counts s _ _ (held s x)
effect_counts setting s (More v) = refl
effect_counts setting s (Input v) = input_counts s v s.input
effect_counts setting s (Text n) = refl
effect_counts setting s (Decimal x) = printed_counts s s.out (held s x)
effect_counts setting s (Across v u) = refl
effect_counts setting s (Base v a x) = refl
effect_counts setting s (PlaceIn v a u i) = refl

pub done_counts : (setting : Setting) (ops : List Op) (s s' : State) → done setting ops s ≡ Some s' → length s'.arrays ≡ length s.arrays
done_counts setting [] s s' e = let q : s ≡ s' = cc in ap (λ (x : State). length x.arrays) (sym q)
done_counts setting (op ∷ ops) s s' e = by (effect setting s op s) (effect_counts setting s op) (λ t d. done_counts setting ops t s' d) e
  where
    by : (o : Option State) → Counts (length s.arrays) o → ((t : State) → done setting ops t ≡ Some s' → length s'.arrays ≡ length t.arrays) → then_do o (done setting ops) ≡ Some s' → length s'.arrays ≡ length s.arrays
    by None k hyp d = absurd (cc)
    by (Some t) k hyp d = hyp t d ∙ k

-- ---- with other values

module _ (named : ℕ → Type 0) (keeps : ℕ → ℤ → Type 0) (to : ℕ → ℕ) (apart : AreApart named keeps to) where
  pub done_renamed : (g h : Setting) (ops : List Op) (s t s' : State) → ((op : Op) → IsIn op ops → Within named g h op) → Carried named keeps to s t → done g ops s ≡ Some s' → CarriedTo named keeps to s' (done h (map (with_values to) ops) t)
  done_renamed g h [] s t s' w c e = let q : s ≡ s' = cc in record { state = t; is = refl; carried = subst (λ x. Carried named keeps to x t) q c }
  done_renamed g h (op ∷ ops) s t s' w c e =
      by (effect g s op s) (λ s1 d. effect_renamed named keeps to apart g h op s t s1 (w op (inl refl)) c d) (λ s1 t1 c1 d. done_renamed g h ops s1 t1 s' (λ p m. w p (inr m)) c1 d) e
    where
      on : (s1 : State) → CarriedTo named keeps to s1 (effect h t (with_values to op) t) → ((t1 : State) → Carried named keeps to s1 t1 → CarriedTo named keeps to s' (done h (map (with_values to) ops) t1)) → CarriedTo named keeps to s' (then_do (effect h t (with_values to op) t) (done h (map (with_values to) ops)))
      on s1 d hyp = subst (λ o. CarriedTo named keeps to s' (then_do o (done h (map (with_values to) ops)))) (sym d.is) (hyp d.state d.carried)

      by : (o : Option State) → ((s1 : State) → o ≡ Some s1 → CarriedTo named keeps to s1 (effect h t (with_values to op) t)) →
          ((s1 t1 : State) → Carried named keeps to s1 t1 → done g ops s1 ≡ Some s' → CarriedTo named keeps to s' (done h (map (with_values to) ops) t1)) → then_do o (done g ops) ≡ Some s' → CarriedTo named keeps to s' (then_do (effect h t (with_values to op) t) (done h (map (with_values to) ops)))
      by None one all d = absurd (cc)
      by (Some s1) one all d = on s1 (one s1 refl) (λ t1 c1. all s1 t1 c1 d)

-- ---- moves of arguments

pub same_but : (u : State) (v x : ℕ) (y : Content) → (x ≡ v → ⊥) → (with_value u v y).values x ≡ u.values x
same_but u v x y h = ap (λ b. cond b y (u.values x)) (unequal x v h)

pub same_there : (u : State) (v : ℕ) (y : Content) → (with_value u v y).values v ≡ y
same_there u v y = ap (λ b. cond b y (u.values v)) (eq-eqb v v refl)

held_same : (u w : State) (x : Operand) → ((v : ℕ) → IsIn v (value_in x) → w.values v ≡ u.values v) → held w x ≡ held u x
held_same u w (Held v) k = k v (inl refl)
held_same u w (Number n) k = refl
held_same u w Stack k = refl

all_same : (u w : State) (xs : List Operand) → ((v : ℕ) → IsIn v (flat_map value_in xs) → w.values v ≡ u.values v) → map (held w) xs ≡ map (held u) xs
all_same u w [] k = refl
all_same u w (x ∷ xs) k =
    let one : held w x ≡ held u x = held_same u w x (λ v m. k v (in_left v (value_in x) (flat_map value_in xs) m)) in
    let rest : map (held w) xs ≡ map (held u) xs = all_same u w xs (λ v m. k v (in_right v (value_in x) (flat_map value_in xs) m)) in
    ap (λ y. y ∷ map (held w) xs) one ∙ ap (λ ys. held u x ∷ ys) rest

pub record MovedIn (setting : Setting) (to : ℕ → ℕ) (named : ℕ → Type 0) (qs : List ℕ) (xs : List Operand) (ns : List ℤ) (u : State) : Type 0 where
  pub state : State
  pub is : done setting (moves_in to qs xs) u ≡ Some state
  pub world : SameWorld u state
  pub arrived : (v : ℕ) (n : ℤ) → named v → at_entry qs ns v ≡ Some n → state.values (to v) ≡ Some n
  pub kept : (x : ℕ) → ((q : ℕ) → IsIn q qs → x ≡ to q → ⊥) → state.values x ≡ u.values x

record Split (x : Content) (xs : List Content) (ns : List ℤ) : Type 0 where
  first : ℤ
  rest : List ℤ
  one : x ≡ Some first
  others : known xs ≡ Some rest
  both : ns ≡ first ∷ rest

split : (x : Content) (xs : List Content) (ns : List ℤ) → known (x ∷ xs) ≡ Some ns → Split x xs ns
split None xs ns e = absurd (cc)
split (Some n) xs ns e = by (known xs) refl e
  where
    by : (o : Option (List ℤ)) → known xs ≡ o → with_front n o ≡ Some ns → Split (Some n) xs ns
    by None q d = absurd (cc)
    by (Some ms) q d = let k : n ∷ ms ≡ ns = cc in record { first = n; rest = ms; one = refl; others = q; both = sym k }

module _ (setting : Setting) (to : ℕ → ℕ) (named : ℕ → Type 0) (one : (u v : ℕ) → named u → named v → to u ≡ to v → u ≡ v) where
  nothing_moved : (qs : List ℕ) (xs : List Operand) (ns : List ℤ) (u : State) → done setting (moves_in to qs xs) u ≡ Some u → ((v : ℕ) → at_entry qs ns v ≡ None) → MovedIn setting to named qs xs ns u
  nothing_moved qs xs ns u e none = record {
    state = u;
    is = e;
    world = record { arrays = refl; input = refl; out = refl };
    arrived = λ v n m d. absurd (let q : Option.None ≡ Some n = sym (none v) ∙ d in cc);
    kept = λ x k. refl;
  }

  pub moved_in : (qs : List ℕ) (xs : List Operand) (ns : List ℤ) (u : State) → known (map (held u) xs) ≡ Some ns → ((q : ℕ) → IsIn q qs → named q) → ((v q : ℕ) → IsIn v (flat_map value_in xs) → IsIn q qs → v ≡ to q → ⊥) → are_distinct qs ≡ true →
      MovedIn setting to named qs xs ns u
  moved_in [] xs ns u e name clear distinct = nothing_moved [] xs ns u refl (λ v. refl)
  moved_in (q ∷ qs) [] ns u e name clear distinct =
      let k : [] ≡ ns = cc in
      nothing_moved (q ∷ qs) [] ns u refl (λ v. ap (λ ms. at_entry (q ∷ qs) ms v) (sym k))
  moved_in (q ∷ qs) (x ∷ xs) ns u e name clear distinct =
      let s : Split (held u x) (map (held u) xs) ns = split (held u x) (map (held u) xs) ns e in
      let w : State = with_value u (to q) (held u x) in
      let parts = and_parts _ _ distinct in
      let others : map (held w) xs ≡ map (held u) xs =
      all_same u w xs (λ v m. same_but u (to q) v (held u x) (clear v q (in_right v (value_in x) (flat_map value_in xs) m) (inl refl))) in
      let r : MovedIn setting to named qs xs s.rest w =
      moved_in qs xs s.rest w (ap known others ∙ s.others) (λ p m. name p (inr m)) (λ v p m n. clear v p (in_right v (value_in x) (flat_map value_in xs) m) (inr n)) parts.1 in
      let fresh : (p : ℕ) → IsIn p qs → to q ≡ to p → ⊥ = λ p m i. differs p q (all_in _ qs p parts.0 m) (sym (one q p (name q (inl refl)) (name p (inr m)) i)) in
      let first : r.state.values (to q) ≡ Some s.first = r.kept (to q) fresh ∙ same_there u (to q) (held u x) ∙ s.one in
      record {
        state = r.state;
        is = r.is;
        world = record { arrays = r.world.arrays; input = r.world.input; out = r.world.out };
        arrived = λ v n m d. arrived_by q qs s.first s.rest r.state first r.arrived v n m (v == q) refl (subst (λ ms. at_entry (q ∷ qs) ms v ≡ Some n) s.both d);
        kept = λ y k. r.kept y (λ p m. k p (inr m)) ∙ same_but u (to q) y (held u x) (k q (inl refl));
      }
    where
      arrived_by : (q : ℕ) (qs : List ℕ) (n0 : ℤ) (ms : List ℤ) (t : State) → t.values (to q) ≡ Some n0 → ((v : ℕ) (n : ℤ) → named v → at_entry qs ms v ≡ Some n → t.values (to v) ≡ Some n) →
          (v : ℕ) (n : ℤ) → named v → (b : Bool) → (v == q) ≡ b → cond b (Some n0) (at_entry qs ms v) ≡ Some n → t.values (to v) ≡ Some n
      arrived_by q qs n0 ms t first rest v n m true i d = ap (λ z. t.values (to z)) (eqb-true v q i) ∙ first ∙ d
      arrived_by q qs n0 ms t first rest v n m false i d = rest v n m d
