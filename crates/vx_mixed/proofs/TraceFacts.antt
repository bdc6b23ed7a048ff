-- What is known of the splits and the joins of a trace.
use Rattle.std.proofs.Common.{◌≡◌, ◌≢◌, ℕ, ◌+◌, Bool, true, false, ◌&&◌, List, [], ◌∷◌, ◌++◌, length, map, refl, sym, ap, ◌∙◌, subst, ⊎_elim, inl, inr}
use Rattle.std.specs.Prelude.{◌==◌, not, if◌then◌else◌}
use Rattle.std.specs.List.{filter}
use Rattle.std.proofs.lemmas.Bool.{and_parts, eqb-true, eq-eqb, ne_eqb, cases_eq, cases_Bool, not-true}
use Rattle.vx_flow.specs.declared.graph.Edge.{Edge}
use Rattle.vx_flow.specs.declared.graph.Exit.{Exit}
use Rattle.vx_flow.specs.declared.graph.Exit.TheVariants.{Goto, Split as Branches, Call, Return, Ends}
use Rattle.vx_flow.specs.declared.graph.Op.{Op}
use Rattle.vx_flow.specs.declared.trace.TraceOp.{TraceOp}
use Rattle.vx_flow.specs.declared.trace.TraceOp.TheVariants.{Plain as TracePlain, Split as TraceSplit}
use Rattle.vx_flow.specs.declared.trace.Join.{Join}
use Rattle.vx_flow.specs.Effects.{IsIn}
use Rattle.vx_flow.specs.Sound.{targets_of}
use Rattle.vx_flow.specs.Walk.{edge}
use Rattle.vx_flow.proofs.Members.{in_left, in_right, in_either}
use Rattle.vx_mixed.specs.declared.mixed.MixedGraph.{MixedGraph}
use Rattle.vx_mixed.specs.FromGraph.{same_edge}
use Rattle.vx_mixed.specs.Next.{is_split_edge, last_of}
use Rattle.vx_mixed.specs.Settled.{NoTwice}
use Rattle.vx_mixed.specs.TraceOf.{block_at, split_between, block_ops, trace_ops, inner_edges, joined, joins_behind}
use Rattle.vx_mixed.specs.TraceItems.{splits_of}
use Rattle.vx_mixed.specs.Valid.{PartsWays}
use Rattle.vx_mixed.proofs.NewNodes.{and_both, same_is, is_same_edge}
use Rattle.vx_mixed.proofs.PathOf.{from_inside, to_inside}

pub in_filter : {A : Type 0} (p : A → Bool) (xs : List A) (x : A) → IsIn x (filter p xs) → IsIn x xs × (p x ≡ true)
in_filter p [] x h = absurd h
in_filter {A} p (y ∷ ys) x h = by (p y) refl h (in_filter p ys x)
  where
    by : (b : Bool) → p y ≡ b → IsIn x (if b then y ∷ filter p ys else filter p ys) → (IsIn x (filter p ys) → IsIn x ys × (p x ≡ true)) → IsIn x (y ∷ ys) × (p x ≡ true)
    by true t (inl e) rest = (inl e, ap p e ∙ t)
    by true t (inr q) rest = let r = rest q in (inr r.0, r.1)
    by false f q rest = let r = rest q in (inr r.0, r.1)

pub filter_has : {A : Type 0} (p : A → Bool) (xs : List A) (x : A) → IsIn x xs → p x ≡ true → IsIn x (filter p xs)
filter_has p [] x h t = absurd h
filter_has p (y ∷ ys) x (inl e) t = subst (λ b. IsIn x (if b then y ∷ filter p ys else filter p ys)) (sym (subst (λ z. p z ≡ true) e t)) (inl e)
filter_has p (y ∷ ys) x (inr h) t = by (p y) (filter_has p ys x h t)
  where
    by : (b : Bool) → IsIn x (filter p ys) → IsIn x (if b then y ∷ filter p ys else filter p ys)
    by true i = inr i
    by false i = i

-- splits

pub is_split : (ops : List TraceOp) (p : ℕ) (y : Bool) (e : Edge) (live : List ℕ) → IsIn (TraceSplit p y e live) ops → is_split_edge ops e ≡ true
is_split [] p y e live h = absurd h
is_split (TracePlain op ∷ ops) p y e live (inl q) = absurd (cc)
is_split (TracePlain op ∷ ops) p y e live (inr h) = is_split ops p y e live h
is_split (TraceSplit q u f l ∷ ops) p y e live (inl h) = let s : f ≡ e = cc in ap (λ b. if b then true else is_split_edge ops e) (is_same_edge f e s)
is_split (TraceSplit q u f l ∷ ops) p y e live (inr h) = by (same_edge f e) (is_split ops p y e live h)
  where
    by : (b : Bool) → is_split_edge ops e ≡ true → (if b then true else is_split_edge ops e) ≡ true
    by true i = refl
    by false i = i

pub record SplitOn (ops : List TraceOp) (e : Edge) : Type 0 where
  pub test : ℕ
  pub leaves_when : Bool
  pub live : List ℕ
  pub has : IsIn (TraceSplit test leaves_when e live) ops

pub split_on : (ops : List TraceOp) (e : Edge) → is_split_edge ops e ≡ true → SplitOn ops e
split_on [] e h = absurd (cc)
split_on (TracePlain op ∷ ops) e h = let s = split_on ops e h in record { test = s.test; leaves_when = s.leaves_when; live = s.live; has = inr s.has }
split_on (TraceSplit p y f live ∷ ops) e h =
    ⊎_elim
    (λ t. let q = same_is f e t in record { test = p; leaves_when = y; live = live; has = inl (ap (λ z. TraceSplit p y z live) (sym q)) })
    (λ n. let s = split_on ops e (sym (ap (λ b. if b then true else is_split_edge ops e) n) ∙ h) in record { test = s.test; leaves_when = s.leaves_when; live = s.live; has = inr s.has })
    (cases_Bool (same_edge f e))

pub in_splits : (ops : List TraceOp) (p : ℕ) (y : Bool) (e : Edge) (live : List ℕ) → IsIn (TraceSplit p y e live) ops → IsIn (TraceSplit p y e live) (splits_of ops)
in_splits [] p y e live h = absurd h
in_splits (TracePlain op ∷ ops) p y e live (inl q) = absurd (cc)
in_splits (TracePlain op ∷ ops) p y e live (inr h) = in_splits ops p y e live h
in_splits (TraceSplit q u f l ∷ ops) p y e live (inl h) = inl h
in_splits (TraceSplit q u f l ∷ ops) p y e live (inr h) = inr (in_splits ops p y e live h)

pub of_splits : (ops : List TraceOp) (x : TraceOp) → IsIn x (splits_of ops) → IsIn x ops
of_splits [] x h = absurd h
of_splits (TracePlain op ∷ ops) x h = inr (of_splits ops x h)
of_splits (TraceSplit q u f l ∷ ops) x (inl h) = inl h
of_splits (TraceSplit q u f l ∷ ops) x (inr h) = inr (of_splits ops x h)

-- a split of the trace leaves from one of its blocks, and not to the block that follows
pub record SplitFact (m : MixedGraph) (blocks : List ℕ) (e : Edge) : Type 0 where
  pub next : ℕ
  pub follows : IsIn (edge e.from next) (inner_edges blocks)
  pub target : IsIn e.to (targets_of (block_at m e.from).exit)
  pub other : e.to ≢ next

module _ (m : MixedGraph) (live : ℕ → List ℕ) where
  no_plain : (ops : List Op) (p : ℕ) (y : Bool) (e : Edge) (l : List ℕ) → IsIn (TraceSplit p y e l) (map TracePlain ops) → ⊥
  no_plain [] p y e l h = h
  no_plain (op ∷ ops) p y e l (inl q) = cc
  no_plain (op ∷ ops) p y e l (inr h) = no_plain ops p y e l h

  between : (b c : ℕ) (x : Exit) (p : ℕ) (y : Bool) (e : Edge) (l : List ℕ) → PartsWays x → IsIn c (targets_of x) → IsIn (TraceSplit p y e l) (split_between live b x c) → (e.from ≡ b) × IsIn e.to (targets_of x) × (e.to ≢ c)
  between b c (Goto d) p y e l parts goes h = absurd h
  between b c (Branches q d f) p y e l parts goes h =
      ⊎_elim
      (λ same. let g = subst (λ z. IsIn (TraceSplit p y e l) (if z then TraceSplit q false (edge b f) (live f) ∷ [] else TraceSplit q true (edge b d) (live d) ∷ [])) (eq-eqb d c same) h in
      ⊎_elim (λ (w : TraceSplit p y e l ≡ TraceSplit q false (edge b f) (live f)). let ed : e ≡ edge b f = cc in (ap (λ (z : Edge). z.from) ed, inr (inl (ap (λ (z : Edge). z.to) ed)), (λ r. parts (same ∙ sym r ∙ ap (λ (z : Edge). z.to) ed)))) (λ w. absurd w) g)
      (λ n. let g = subst (λ z. IsIn (TraceSplit p y e l) (if z then TraceSplit q false (edge b f) (live f) ∷ [] else TraceSplit q true (edge b d) (live d) ∷ [])) (ne_eqb d c n) h in
      ⊎_elim (λ (w : TraceSplit p y e l ≡ TraceSplit q true (edge b d) (live d)). let ed : e ≡ edge b d = cc in (ap (λ (z : Edge). z.from) ed, inl (ap (λ (z : Edge). z.to) ed), (λ r. n (sym (ap (λ (z : Edge). z.to) ed) ∙ r)))) (λ w. absurd w) g)
      (cases_eq d c)
  between b c (Call g arguments result next) p y e l parts goes h = absurd h
  between b c (Return x) p y e l parts goes h = absurd h
  between b c (Ends k) p y e l parts goes h = absurd h

  pub split_fact : (blocks : List ℕ) → ((b : ℕ) → IsIn b blocks → PartsWays (block_at m b).exit) → ((b c : ℕ) → IsIn (edge b c) (inner_edges blocks) → IsIn c (targets_of (block_at m b).exit)) → (p : ℕ) (y : Bool) (e : Edge) (l : List ℕ) → IsIn (TraceSplit p y e l) (trace_ops m live blocks) → SplitFact m blocks e
  split_fact [] parts goes p y e l h = absurd h
  split_fact (b ∷ []) parts goes p y e l h =
      ⊎_elim
      (λ a. ⊎_elim (λ i. absurd (no_plain (block_at m b).ops p y e l i)) (λ i. absurd i) (in_either (TraceSplit p y e l) (map TracePlain (block_at m b).ops) [] a))
      (λ a. absurd a)
      (in_either (TraceSplit p y e l) (block_ops m live b []) [] h)
  split_fact (b ∷ c ∷ bs) parts goes p y e l h =
      ⊎_elim
      (λ a. ⊎_elim
      (λ i. absurd (no_plain (block_at m b).ops p y e l i))
      (λ i. let f = between b c (block_at m b).exit p y e l (parts b (inl refl)) (goes b c (inl refl)) i in record {
        next = c;
        follows = inl (ap (λ z. edge z c) f.0);
        target = subst (λ z. IsIn e.to (targets_of (block_at m z).exit)) (sym f.0) f.1;
        other = f.2;
      })
      (in_either (TraceSplit p y e l) (map TracePlain (block_at m b).ops) (split_between live b (block_at m b).exit c) a))
      (λ a. let f = split_fact (c ∷ bs) (λ z i. parts z (inr i)) (λ z w i. goes z w (inr i)) p y e l a in record { next = f.next; follows = inr f.follows; target = f.target; other = f.other })
      (in_either (TraceSplit p y e l) (block_ops m live b (c ∷ bs)) (trace_ops m live (c ∷ bs)) h)

-- inner edges

pub inner_from : (blocks : List ℕ) (e f : Edge) → NoTwice blocks → IsIn e (inner_edges blocks) → IsIn f (inner_edges blocks) → e.from ≡ f.from → e ≡ f
inner_from [] e f once h k q = absurd h
inner_from (b ∷ []) e f once h k q = absurd h
inner_from (b ∷ c ∷ bs) e f once (inl h) (inl k) q = h ∙ sym k
inner_from (b ∷ c ∷ bs) e f once (inl h) (inr k) q = absurd (once.0 (subst (λ z. IsIn z (c ∷ bs)) (sym q ∙ ap (λ (z : Edge). z.from) h) (from_inside (c ∷ bs) f k)))
inner_from (b ∷ c ∷ bs) e f once (inr h) (inl k) q = absurd (once.0 (subst (λ z. IsIn z (c ∷ bs)) (q ∙ ap (λ (z : Edge). z.from) k) (from_inside (c ∷ bs) e h)))
inner_from (b ∷ c ∷ bs) e f once (inr h) (inr k) q = inner_from (c ∷ bs) e f once.1 h k q

pub inner_to : (blocks : List ℕ) (e f : Edge) → NoTwice blocks → IsIn e (inner_edges blocks) → IsIn f (inner_edges blocks) → e.to ≡ f.to → e ≡ f
inner_to [] e f once h k q = absurd h
inner_to (b ∷ []) e f once h k q = absurd h
inner_to (b ∷ c ∷ bs) e f once (inl h) (inl k) q = h ∙ sym k
inner_to (b ∷ c ∷ bs) e f once (inl h) (inr k) q = absurd (once.1.0 (subst (λ z. IsIn z bs) (sym q ∙ ap (λ (z : Edge). z.to) h) (to_inside c bs f k)))
inner_to (b ∷ c ∷ bs) e f once (inr h) (inl k) q = absurd (once.1.0 (subst (λ z. IsIn z bs) (q ∙ ap (λ (z : Edge). z.to) k) (to_inside c bs e h)))
inner_to (b ∷ c ∷ bs) e f once (inr h) (inr k) q = inner_to (c ∷ bs) e f once.1 h k q

-- no inner edge begins at the last block
pub last_none : (b : ℕ) (bs : List ℕ) (c : ℕ) → NoTwice (b ∷ bs) → IsIn (edge (last_of (b ∷ bs)) c) (inner_edges (b ∷ bs)) → ⊥
last_none b [] c once h = h
last_none b (d ∷ bs) c once (inl e) = once.0 (subst (λ z. IsIn z (d ∷ bs)) (ap (λ (z : Edge). z.from) e) (last_in d bs))
  where
    last_in : (x : ℕ) (xs : List ℕ) → IsIn (last_of (x ∷ xs)) (x ∷ xs)
    last_in x [] = inl refl
    last_in x (y ∷ ys) = inr (last_in y ys)
last_none b (d ∷ bs) c once (inr h) = last_none d bs c once.1 h

pub last_among : (b : ℕ) (bs : List ℕ) → IsIn (last_of (b ∷ bs)) (b ∷ bs)
last_among b [] = inl refl
last_among b (c ∷ bs) = inr (last_among c bs)

-- joins

-- an edge of a join goes to its block, which stands behind the first, and is none inside the trace
pub record JoinFact (edges : List Edge) (blocks : List ℕ) (j : Join) : Type 0 where
  pub before : ℕ
  pub follows : IsIn (edge before j.block) (inner_edges blocks)
  pub one : Edge
  pub has_one : IsIn one j.edges
  pub of : (e : Edge) → IsIn e j.edges → IsIn e edges × (e.to ≡ j.block) × (e ≢ edge before j.block)

module _ (m : MixedGraph) (live : ℕ → List ℕ) (edges : List Edge) where
  abbrev Into : ℕ → ℕ → List Edge
  Into before b = filter (λ (e : Edge). (e.to == b) && not (same_edge e (edge before b))) edges

  into_of : (before b : ℕ) (e : Edge) → IsIn e (Into before b) → IsIn e edges × (e.to ≡ b) × (e ≢ edge before b)
  into_of before b e h =
      let f = in_filter (λ (e : Edge). (e.to == b) && not (same_edge e (edge before b))) edges e h in
      let p = and_parts (e.to == b) (not (same_edge e (edge before b))) f.1 in
      (f.0, eqb-true e.to b p.0, (λ q. let t = is_same_edge e (edge before b) q in let n = not-true (same_edge e (edge before b)) p.1 in absurd (let z : true ≡ false = sym t ∙ n in cc)))

  of_joined : (place b : ℕ) (es : List Edge) (j : Join) → IsIn j (joined place b es) → (j.block ≡ b) × (j.edges ≡ es) × (e : Edge) × IsIn e j.edges
  of_joined place b [] j h = absurd h
  of_joined place b (e ∷ es) j (inl q) = (ap (λ (z : Join). z.block) q, ap (λ (z : Join). z.edges) q, e, subst (IsIn e) (sym (ap (λ (z : Join). z.edges) q)) (inl refl))
  of_joined place b (e ∷ es) j (inr h) = absurd h

  pub join_fact : (before place : ℕ) (bs : List ℕ) (j : Join) → IsIn j (joins_behind m live edges before place bs) → JoinFact edges (before ∷ bs) j
  join_fact before place [] j h = absurd h
  join_fact before place (b ∷ bs) j h =
      ⊎_elim
      (λ a. let f = of_joined place b (Into before b) j a in record {
        before = before;
        follows = inl (ap (edge before) f.0);
        one = f.2;
        has_one = f.3;
        of = λ e i. let g = into_of before b e (subst (IsIn e) f.1 i) in (g.0, g.1 ∙ sym f.0, (λ q. g.2 (q ∙ ap (edge before) f.0)));
      })
      (λ a. let f = join_fact b (place + length (block_ops m live b bs)) bs j a in record { before = f.before; follows = inr f.follows; one = f.one; has_one = f.has_one; of = f.of })
      (in_either j (joined place b (Into before b)) (joins_behind m live edges b (place + length (block_ops m live b bs)) bs) h)

  has_joined : (place b : ℕ) (es : List Edge) (e : Edge) → IsIn e es → (j : Join) × IsIn j (joined place b es) × (j.block ≡ b) × IsIn e j.edges
  has_joined place b [] e h = absurd h
  has_joined place b (x ∷ es) e h = (record { place = place; block = b; edges = x ∷ es }, inl refl, refl, h)

  -- an edge from outside to a block behind the first joins there
  pub joins_there : (before place : ℕ) (bs : List ℕ) (e : Edge) → NoTwice (before ∷ bs) → IsIn e edges → IsIn e.to bs → (IsIn e (inner_edges (before ∷ bs)) → ⊥) → (j : Join) × IsIn j (joins_behind m live edges before place bs) × (j.block ≡ e.to) × IsIn e j.edges
  joins_there before place [] e once i to n = absurd to
  joins_there before place (b ∷ bs) e once i (inl q) n =
      let other : same_edge e (edge before b) ≡ false = ⊎_elim (λ t. absurd (n (inl (same_is e (edge before b) t)))) (λ f. f) (cases_Bool (same_edge e (edge before b))) in
      let there = filter_has (λ (e : Edge). (e.to == b) && not (same_edge e (edge before b))) edges e i (and_both (e.to == b) (not (same_edge e (edge before b))) (eq-eqb e.to b q) (ap not other)) in
      let j = has_joined place b (Into before b) e there in
      (j.0, in_left j.0 (joined place b (Into before b)) (joins_behind m live edges b (place + length (block_ops m live b bs)) bs) j.1, j.2 ∙ sym q, j.3)
  joins_there before place (b ∷ bs) e once i (inr to) n =
      let j = joins_there b (place + length (block_ops m live b bs)) bs e once.1 i to (λ h. n (inr h)) in
      (j.0, in_right j.0 (joined place b (Into before b)) (joins_behind m live edges b (place + length (block_ops m live b bs)) bs) j.1, j.2, j.3)

  abbrev Blocks : List Join → List ℕ
  Blocks js = map (λ (j : Join). j.block) js

  joined_within : (place b : ℕ) (es : List Edge) (x : ℕ) → IsIn x (Blocks (joined place b es)) → x ≡ b
  joined_within place b [] x h = absurd h
  joined_within place b (e ∷ es) x (inl q) = q
  joined_within place b (e ∷ es) x (inr h) = absurd h

  blocks_append : (js ks : List Join) → Blocks (js ++ ks) ≡ Blocks js ++ Blocks ks
  blocks_append [] ks = refl
  blocks_append (j ∷ js) ks = ap (λ z. j.block ∷ z) (blocks_append js ks)

  behind_within : (before place : ℕ) (bs : List ℕ) (x : ℕ) → IsIn x (Blocks (joins_behind m live edges before place bs)) → IsIn x bs
  behind_within before place [] x h = absurd h
  behind_within before place (b ∷ bs) x h =
      let rest = joins_behind m live edges b (place + length (block_ops m live b bs)) bs in
      ⊎_elim (λ a. inl (joined_within place b (Into before b) x a)) (λ a. inr (behind_within b (place + length (block_ops m live b bs)) bs x a))
      (in_either x (Blocks (joined place b (Into before b))) (Blocks rest) (subst (IsIn x) (blocks_append (joined place b (Into before b)) rest) h))

  pub joins_once : (before place : ℕ) (bs : List ℕ) → NoTwice bs → NoTwice (Blocks (joins_behind m live edges before place bs))
  joins_once before place [] once = tt
  joins_once before place (b ∷ bs) once =
      let rest = joins_behind m live edges b (place + length (block_ops m live b bs)) bs in
      subst NoTwice (sym (blocks_append (joined place b (Into before b)) rest)) (by (Into before b) (joins_once b (place + length (block_ops m live b bs)) bs once.1))
    where
      by : (es : List Edge) → NoTwice (Blocks (joins_behind m live edges b (place + length (block_ops m live b bs)) bs)) → NoTwice (Blocks (joined place b es) ++ Blocks (joins_behind m live edges b (place + length (block_ops m live b bs)) bs))
      by [] h = h
      by (e ∷ es) h = ((λ i. once.0 (behind_within b (place + length (block_ops m live b bs)) bs b i)), h)
