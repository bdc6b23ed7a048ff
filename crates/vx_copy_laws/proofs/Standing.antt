-- The clustered trace has exactly the copies that are needed.
use Rattle.std.proofs.Common.{◌≡◌, ◌<◌, ◌≤◌, ◌+◌, ◌-◌, ⊎_elim, refl, sym, ◌∙◌, ap, arith, subst, ℕ, suc, Option, Some, List, [], ◌∷◌, ◌++◌, length, length-append, map, take, slice_get, slice_index_or, get_or}
use Rattle.std.proofs.lemmas.Bool.{cases_lt}
use Rattle.std.proofs.lemmas.List.{length-map, take_all, get_or_past}
use Rattle.std.proofs.lemmas.Option.{slice_get-get_or, slice_get_within}
use Rattle.vx_flow.specs.declared.graph.Op.TheVariants.{Across}
use Rattle.vx_flow.specs.declared.trace.TraceOp.{TraceOp}
use Rattle.vx_flow.specs.declared.trace.TraceOp.TheVariants.{Plain}
use Rattle.vx_flow.specs.declared.trace.Trace.{Trace}
use Rattle.vx_flow.specs.declared.trace.Clustered.{Clustered}
use Rattle.vx_dep.specs.Delays.{Stands}
use Rattle.vx_bug.specs.Clusters.{general_reads}
use Rattle.vx_bug.specs.Copies.{copy_of, Standing, across, pieces_of, joined, with_copies}
use Rattle.vx_copy_laws.specs.CopyStands.{CopyStands, ReadBefore, StandsAt, HasCopy, CopiesStand}
use Rattle.vx_copy_laws.specs.CopyLaws.{CopiesLaw}
use Rattle.vx_copy_laws.proofs.Members.{in_place, place_of_member}
use Rattle.vx_copy_laws.proofs.PieceFacts.{IsPiece, itself, pieces_are, pieces_long}
use Rattle.vx_copy_laws.proofs.Joining.{get_left, get_right, get_mapped, joined_at, joined_next, one_place}

-- some copies and an operation
long_of : (piece : List Standing) (vs : List ℕ) (s : Standing) (f : ℕ → Standing) → piece ≡ map f vs ++ s ∷ [] → length piece ≡ length vs + 1
long_of piece vs s f e = ap length e ∙ length-append (map f vs) (s ∷ []) ∙ ap (λ n. n + 1) (length-map vs f)

module _ (t : Trace) (homes : ℕ → Option ℕ) (chosen : List ℕ) (each_chosen : length chosen ≡ length t.ops) (each_fixed : length t.fixed ≡ length t.ops) where
  abbrev Pieces : List (List Standing)
  Pieces = pieces_of t homes chosen

  abbrev Whole : Clustered
  Whole = with_copies t homes chosen

  abbrev Front : ℕ → ℕ
  Front i = length (joined (take i Pieces))

  abbrev Place : ℕ → ℕ
  Place i = Front i + (length (slice_index_or Pieces i []) - 1)

  stands_at : (p : ℕ) (s : Standing) → slice_get (joined Pieces) p ≡ Some s → StandsAt Whole p s
  stands_at p s e = record {
    op = get_mapped (λ (s : Standing). s.op) (joined Pieces) p s e;
    cluster = get_mapped (λ (s : Standing). s.cluster) (joined Pieces) p s e;
    fixed = get_mapped (λ (s : Standing). s.fixed) (joined Pieces) p s e;
  }

  -- what stands for the operation at a place

  record AtTurn (i : ℕ) : Type 0 where
    piece : List Standing
    there : slice_get Pieces i ≡ Some piece
    is : IsPiece t homes chosen i piece
    long : length piece ≡ length is.copied + 1
    place : Place i ≡ Front i + length is.copied

  at_turn : (i : ℕ) → i < length t.ops → AtTurn i
  at_turn i l =
      let many : length Pieces ≡ length t.ops = pieces_long t homes chosen each_chosen each_fixed in
      let inside : i < length Pieces = omega (arith, l, many) in
      let there : slice_get Pieces i ≡ Some (get_or Pieces i []) = slice_get-get_or Pieces i [] inside in
      let facts : IsPiece t homes chosen i (get_or Pieces i []) = pieces_are t homes chosen each_chosen each_fixed i (get_or Pieces i []) there in
      let d : length (slice_index_or Pieces i []) ≡ length facts.copied + 1 = long_of (get_or Pieces i []) facts.copied (itself t homes chosen i facts.op facts.k) (across t.values facts.k) facts.is in
      record { piece = get_or Pieces i []; there = there; is = facts; long = d; place = omega (arith, d) }

  -- the copies

  copy_at : (i : ℕ) (T : AtTurn i) (n v : ℕ) → slice_get T.is.copied n ≡ Some v → StandsAt Whole (Front i + n) (across t.values T.is.k v)
  copy_at i T n v e = stands_at (Front i + n) (across t.values T.is.k v)
      (joined_at Pieces i n T.piece (across t.values T.is.k v) T.there
      (ap (λ l. slice_get l n) T.is.is ∙ get_left (map (across t.values T.is.k) T.is.copied) (itself t homes chosen i T.is.op T.is.k ∷ []) n (across t.values T.is.k v) (get_mapped (across t.values T.is.k) T.is.copied n v e)))

  record Found (i : ℕ) (T : AtTurn i) (p : ℕ) : Type 0 where
    n : ℕ
    at : p ≡ Front i + n
    v : ℕ
    is : slice_get T.is.copied n ≡ Some v
    stands : StandsAt Whole p (across t.values T.is.k v)

  found : (i : ℕ) (T : AtTurn i) (p : ℕ) → Front i ≤ p → p < Place i → Found i T p
  found i T p l m =
      let q = T.place in
      let at : p ≡ Front i + (p - Front i) = omega (arith, l) in
      let few : p - Front i < length T.is.copied = omega (arith, l, m, q) in
      let is : slice_get T.is.copied (p - Front i) ≡ Some (get_or T.is.copied (p - Front i) 0) = slice_get-get_or T.is.copied (p - Front i) 0 few in
      record {
        n = p - Front i;
        at = at;
        v = get_or T.is.copied (p - Front i) 0;
        is = is;
        stands = subst (λ x. StandsAt Whole x (across t.values T.is.k (get_or T.is.copied (p - Front i) 0))) (sym at) (copy_at i T (p - Front i) (get_or T.is.copied (p - Front i) 0) is);
      }

  the_same : (p v k w l : ℕ) → StandsAt Whole p (across t.values k v) → StandsAt Whole p (across t.values l w) → (v ≡ w) × (k ≡ l)
  the_same p v k w l a b =
      let e : Some (Plain (Across (copy_of t.values v k) v)) ≡ Some (Plain (Across (copy_of t.values w l) w)) = sym a.op ∙ b.op in
      let f : Some k ≡ Some l = sym a.cluster ∙ b.cluster in
      (cc, cc)

  -- where copies stand there is an operation

  has_turn : (i p : ℕ) → Front i ≤ p → p < Place i → AtTurn i
  has_turn i p l m = ⊎_elim (λ h. at_turn i h) (λ h. absurd (past h)) (cases_lt i (length t.ops))
    where
      past : length t.ops ≤ i → ⊥
      past h =
          let many : length Pieces ≡ length t.ops = pieces_long t homes chosen each_chosen each_fixed in
          let behind : length Pieces ≤ i = omega (arith, h, many) in
          let e : slice_index_or Pieces i [] ≡ [] = get_or_past Pieces i [] behind in
          let f : length (slice_index_or Pieces i []) ≡ 0 = ap length e in
          omega (arith, l, m, f)

  is_needed : (i v k : ℕ) → CopyStands t homes chosen i v k → HasCopy t.values Whole (Front i) (Place i) v k
  is_needed i v k s =
      let r = s.reads in
      let inside : i < length t.ops = slice_get_within t.ops i r.op r.stands in
      let T = at_turn i inside in
      let a = T.is.all v k s in
      let there = place_of_member T.is.copied v a.1 in
      let few : there.0 < length T.is.copied = slice_get_within T.is.copied there.0 v there.1 in
      let q = T.place in
      record {
        place = Front i + there.0;
        behind = omega arith;
        above = omega (arith, few, q);
        is = subst (λ c. StandsAt Whole (Front i + there.0) (across t.values c v)) (sym a.0) (copy_at i T there.0 v there.1);
      }

  is_no_other : (i v k : ℕ) → HasCopy t.values Whole (Front i) (Place i) v k → CopyStands t homes chosen i v k
  is_no_other i v k h =
      let T = has_turn i h.place h.behind h.above in
      let F = found i T h.place h.behind h.above in
      let same = the_same h.place F.v T.is.k v k F.stands h.is in
      subst (λ c. CopyStands t homes chosen i v c) same.1 (subst (λ x. CopyStands t homes chosen i x T.is.k) same.0 (T.is.each F.v (in_place T.is.copied F.n F.v F.is)))

  are_copies : (i p : ℕ) → Front i ≤ p → p < Place i → (v : ℕ) × (k : ℕ) × StandsAt Whole p (across t.values k v)
  are_copies i p l m =
      let T = has_turn i p l m in
      let F = found i T p l m in
      (F.v, T.is.k, F.stands)

  are_once : (i p q v k : ℕ) → Front i ≤ p → p < Place i → Front i ≤ q → q < Place i → StandsAt Whole p (across t.values k v) → StandsAt Whole q (across t.values k v) → p ≡ q
  are_once i p q v k l m l' m' a b =
      let T = has_turn i p l m in
      let F = found i T p l m in
      let G = found i T q l' m' in
      let one = the_same p F.v T.is.k v k F.stands a in
      let two = the_same q G.v T.is.k v k G.stands b in
      F.at ∙ ap (λ n. Front i + n) (one_place T.is.copied F.n G.n v T.is.apart (F.is ∙ ap Some one.0) (G.is ∙ ap Some two.0)) ∙ sym G.at

  are_in_order : (i p q v w k : ℕ) (op : TraceOp) → Stands t i op → Front i ≤ p → p < q → q < Place i → StandsAt Whole p (across t.values k v) → StandsAt Whole q (across t.values k w) → ReadBefore v w (general_reads op)
  are_in_order i p q v w k op s l m n a b =
      let upper : p < Place i = omega (arith, m, n) in
      let lower : Front i ≤ q = omega (arith, l, m) in
      let T = has_turn i p l upper in
      let F = found i T p l upper in
      let G = found i T q lower n in
      let one = the_same p F.v T.is.k v k F.stands a in
      let two = the_same q G.v T.is.k w k G.stands b in
      let x = F.at in
      let y = G.at in
      let less : F.n < G.n = omega (arith, m, x, y) in
      let e : Some T.is.op ≡ Some op = sym T.is.stands ∙ s in
      let same : T.is.op ≡ op = cc in
      subst (λ o. ReadBefore v w (general_reads o)) same (T.is.ordered F.n G.n v w less (F.is ∙ ap Some one.0) (G.is ∙ ap Some two.0))

  operation_at : (i k : ℕ) (op : TraceOp) → Stands t i op → slice_get chosen i ≡ Some k → StandsAt Whole (Place i) (itself t homes chosen i op k)
  operation_at i k op s e =
      let inside : i < length t.ops = slice_get_within t.ops i op s in
      let T = at_turn i inside in
      let a : Some T.is.op ≡ Some op = sym T.is.stands ∙ s in
      let one : T.is.op ≡ op = cc in
      let b : Some T.is.k ≡ Some k = sym T.is.takes ∙ e in
      let two : T.is.k ≡ k = cc in
      let long : length (map (across t.values T.is.k) T.is.copied) ≡ length T.is.copied = length-map T.is.copied (across t.values T.is.k) in
      let last : slice_get (map (across t.values T.is.k) T.is.copied ++ itself t homes chosen i T.is.op T.is.k ∷ []) (length (map (across t.values T.is.k) T.is.copied) + 0) ≡ Some (itself t homes chosen i T.is.op T.is.k) =
      get_right (map (across t.values T.is.k) T.is.copied) (itself t homes chosen i T.is.op T.is.k ∷ []) 0 (itself t homes chosen i T.is.op T.is.k) refl in
      let n : length (map (across t.values T.is.k) T.is.copied) + 0 ≡ length T.is.copied = omega (arith, long) in
      let there : slice_get T.piece (length T.is.copied) ≡ Some (itself t homes chosen i T.is.op T.is.k) =
      ap (λ l. slice_get l (length T.is.copied)) T.is.is ∙ ap (slice_get (map (across t.values T.is.k) T.is.copied ++ itself t homes chosen i T.is.op T.is.k ∷ [])) (sym n) ∙ last in
      let at : StandsAt Whole (Front i + length T.is.copied) (itself t homes chosen i T.is.op T.is.k) =
      stands_at (Front i + length T.is.copied) (itself t homes chosen i T.is.op T.is.k) (joined_at Pieces i (length T.is.copied) T.piece (itself t homes chosen i T.is.op T.is.k) T.there there) in
      subst (λ p. StandsAt Whole p (itself t homes chosen i op k)) (sym T.place) (subst (λ c. StandsAt Whole (Front i + length T.is.copied) (itself t homes chosen i op c)) two (subst (λ o. StandsAt Whole (Front i + length T.is.copied) (itself t homes chosen i o T.is.k)) one at))

  next_front : (i : ℕ) → i < length t.ops → Front (i + 1) ≡ Place i + 1
  next_front i l =
      let T = at_turn i l in
      let z : i + 1 ≡ suc i = omega arith in
      let a : Front (i + 1) ≡ Front i + length T.piece = ap Front z ∙ joined_next Pieces i T.piece T.there in
      let b = T.long in
      let c = T.place in
      omega (arith, a, b, c)

  all_taken : length (joined Pieces) ≡ Front (length t.ops)
  all_taken =
      let many : length Pieces ≡ length t.ops = pieces_long t homes chosen each_chosen each_fixed in
      let few : length Pieces ≤ length t.ops = omega (arith, many) in
      ap (λ l. length (joined l)) (sym (take_all (length t.ops) Pieces few))

  stand : CopiesStand t homes chosen (with_copies t homes chosen)
  stand = record {
    place = Place;
    front = Front;
    begins = refl;
    ascends = λ i. omega arith;
    follows = next_front;
    ends = length-map (joined Pieces) (λ (s : Standing). s.op) ∙ all_taken;
    clusters_end = length-map (joined Pieces) (λ (s : Standing). s.cluster) ∙ all_taken;
    fixed_end = length-map (joined Pieces) (λ (s : Standing). s.fixed) ∙ all_taken;
    operation = operation_at;
    needed = is_needed;
    no_other = is_no_other;
    copies_alone = are_copies;
    once = are_once;
    in_order = are_in_order;
    joins = refl;
    unchanged = refl;
  }

pub copies_law : CopiesLaw
copies_law t homes chosen each_chosen each_fixed = stand t homes chosen each_chosen each_fixed
