-- A path of blocks reads a value before writing it exactly where a path of the blocks' routes does.
use Rattle.std.proofs.Common.{◌≡◌, ◌⊎◌, inl, inr, ◌↔◌, ℕ, zero, suc, ◌+◌, ◌<◌, ◌≤◌, Bool, true, false, cond, map, take, List, [], ◌∷◌, ◌++◌, length, slice_get, get_or, Option, Some, None, refl, sym, ap, subst, ◌∙◌, arith, append_assoc}
use Rattle.std.specs.List.{flat_map}
use Rattle.std.proofs.lemmas.Bool.Decides.{eqb_tells}
use Rattle.vx_flow.specs.declared.graph.Op.{Op}
use Rattle.vx_flow.specs.declared.graph.Exit.{Exit}
use Rattle.vx_flow.specs.declared.graph.Block.{Block}
use Rattle.vx_flow.specs.declared.graph.Graph.{Graph}
use Rattle.vx_flow.specs.declared.routes.Touch.{Touch}
use Rattle.vx_flow.specs.declared.routes.Route.{Route}
use Rattle.vx_flow.specs.Effects.{IsIn, reads, writes}
use Rattle.vx_flow.specs.Sound.{targets_of, results_of_exit}
use Rattle.vx_flow.specs.Live.{IsLive, LiveOn, ReadsFirst, NeverWrites, reads_of_exit, first_touch, touch, touches_of, touches_of_exit, route_of, routes_from}
use Rattle.vx_flow.specs.Closing.{BeginWithin, PutUnder, ReadersFound}
use Rattle.vx_flow.specs.Rows.{Rising, is_marked, lives, row_at}
use Rattle.vx_flow.proofs.ClosingSteps.{any_in, in_any}
use Rattle.vx_flow.proofs.Members.{in_front_or_last, in_last, in_left}
use Rattle.vx_flow.proofs.IndexSteps.{get_below}

-- blocks and routes by number

pub routes_more : (b : ℕ) (blocks : List Block) (i : ℕ) (k : Block) → i < length blocks → k ≡ get_or blocks i k → routes_from b (take (suc i) blocks) ≡ routes_from b (take i blocks) ++ route_of (b + i) k ∷ []
routes_more b [] i k h e = absurd (omega arith)
routes_more b (x ∷ xs) zero k h e = let z : b ≡ b + 0 = omega arith in ap (λ y. route_of b y ∷ []) (sym e) ∙ ap (λ n. route_of n k ∷ []) z
routes_more b (x ∷ xs) (suc i) k h e =
    let z : b + 1 + i ≡ b + suc i = omega arith in
    ap (λ l. route_of b x ∷ l) (routes_more (b + 1) xs i k (omega arith) e ∙ ap (λ n. routes_from (b + 1) (take i xs) ++ route_of n k ∷ []) z)

routes_at : (n : ℕ) (blocks : List Block) (i : ℕ) (k : Block) → slice_get blocks i ≡ Some k → slice_get (routes_from n blocks) i ≡ Some (route_of (n + i) k)
routes_at n [] i k e = absurd (cc)
routes_at n (x ∷ xs) zero k e = let z : n ≡ n + 0 = omega arith in let q : x ≡ k = cc in ap (λ y. Some (route_of n y)) q ∙ ap (λ m. Some (route_of m k)) z
routes_at n (x ∷ xs) (suc i) k e = let z : n + 1 + i ≡ n + suc i = omega arith in routes_at (n + 1) xs i k e ∙ ap (λ m. Some (route_of m k)) z

routes_back : (n : ℕ) (blocks : List Block) (i : ℕ) (r : Route) → slice_get (routes_from n blocks) i ≡ Some r → (k : Block) × (slice_get blocks i ≡ Some k) × (r ≡ route_of (n + i) k)
routes_back n [] i r e = absurd (cc)
routes_back n (x ∷ xs) zero r e = let z : n ≡ n + 0 = omega arith in let q : route_of n x ≡ r = cc in (x, refl, sym q ∙ ap (λ m. route_of m x) z)
routes_back n (x ∷ xs) (suc i) r e =
    let z : n + 1 + i ≡ n + suc i = omega arith in
    let w = routes_back (n + 1) xs i r e in (w.0, w.1, w.2 ∙ ap (λ m. route_of m w.0) z)

pub routes_begin_within : (blocks : List Block) → BeginWithin (length blocks) (routes_from 0 blocks)
routes_begin_within blocks i r e =
    let w = routes_back 0 blocks i r e in
    let h : i < length blocks = get_below blocks i w.0 w.1 in
    let q : r.from ≡ 0 + i = ap (λ (x : Route). x.from) w.2 in
    omega arith

-- the first touch of some values, and then of the rest

in_or_not : (v : ℕ) (vs : List ℕ) → IsIn v vs ⊎ (IsIn v vs → ⊥)
in_or_not v [] = inr (λ h. h)
in_or_not v (u ∷ vs) = elim (eqb_tells u v) [
  | inl t ↦ inl (inl (sym t.1))
  | inr t ↦ elim (in_or_not v vs) [ inl m ↦ inl (inr m) | inr n ↦ inr (λ h. elim h [ inl e ↦ t.1 (sym e) | inr m ↦ n m ]) ]
]

first_in : (k : Bool) (v : ℕ) (vs : List ℕ) (rest : List Touch) → IsIn v vs → first_touch v (map (touch k) vs ++ rest) ≡ Some k
first_in k v [] rest h = absurd h
first_in k v (u ∷ vs) rest h = elim (eqb_tells u v) [
  | inl t ↦ ap (λ b. cond b (Some k) (first_touch v (map (touch k) vs ++ rest))) t.0
  | inr t ↦ ap (λ b. cond b (Some k) (first_touch v (map (touch k) vs ++ rest))) t.0 ∙ elim h [ inl e ↦ absurd (t.1 (sym e)) | inr m ↦ first_in k v vs rest m ]
]

first_out : (k : Bool) (v : ℕ) (vs : List ℕ) (rest : List Touch) → (IsIn v vs → ⊥) → first_touch v (map (touch k) vs ++ rest) ≡ first_touch v rest
first_out k v [] rest h = refl
first_out k v (u ∷ vs) rest h = elim (eqb_tells u v) [
  | inl t ↦ absurd (h (inl (sym t.1)))
  | inr t ↦ ap (λ b. cond b (Some k) (first_touch v (map (touch k) vs ++ rest))) t.0 ∙ first_out k v vs rest (λ m. h (inr m))
]

-- reading and writing, and then the rest
data Firsts (v : ℕ) (rs ws : List ℕ) (rest first : Option Bool) : Type 0 where
  is_read : IsIn v rs → first ≡ Some true → Firsts v rs ws rest first
  is_written : (IsIn v rs → ⊥) → IsIn v ws → first ≡ Some false → Firsts v rs ws rest first
  is_left : (IsIn v rs → ⊥) → (IsIn v ws → ⊥) → first ≡ rest → Firsts v rs ws rest first

firsts : (v : ℕ) (rs ws : List ℕ) (rest : List Touch) → Firsts v rs ws (first_touch v rest) (first_touch v (map (touch true) rs ++ (map (touch false) ws ++ rest)))
firsts v rs ws rest = elim (in_or_not v rs) [
  | inl m ↦ is_read m (first_in true v rs (map (touch false) ws ++ rest) m)
  | inr n ↦ elim (in_or_not v ws) [
    | inl m ↦ is_written n m (first_out true v rs (map (touch false) ws ++ rest) n ∙ first_in false v ws rest m)
    | inr k ↦ is_left n k (first_out true v rs (map (touch false) ws ++ rest) n ∙ first_out false v ws rest k)
  ]
]

op_firsts : (v : ℕ) (op : Op) (rest : List Touch) → Firsts v (reads op) (writes op) (first_touch v rest) (first_touch v (touches_of op ++ rest))
op_firsts v op rest =
    let e : touches_of op ++ rest ≡ map (touch true) (reads op) ++ (map (touch false) (writes op) ++ rest) = append_assoc (map (touch true) (reads op)) (map (touch false) (writes op)) rest in
    subst (λ l. Firsts v (reads op) (writes op) (first_touch v rest) (first_touch v l)) (sym e) (firsts v (reads op) (writes op) rest)

append_none : (xs ys : List Touch) → xs ++ ys ≡ xs ++ (ys ++ [])
append_none [] [] = refl
append_none [] (y ∷ ys) = ap (λ l. y ∷ l) (append_none [] ys)
append_none (x ∷ xs) ys = ap (λ l. x ∷ l) (append_none xs ys)

exit_firsts : (v : ℕ) (exit : Exit) → Firsts v (reads_of_exit exit) (results_of_exit exit) None (first_touch v (touches_of_exit exit))
exit_firsts v exit =
    let e : touches_of_exit exit ≡ map (touch true) (reads_of_exit exit) ++ (map (touch false) (results_of_exit exit) ++ []) = append_none (map (touch true) (reads_of_exit exit)) (map (touch false) (results_of_exit exit)) in
    subst (λ l. Firsts v (reads_of_exit exit) (results_of_exit exit) None (first_touch v l)) (sym e) (firsts v (reads_of_exit exit) (results_of_exit exit) [])

touches : List Op → Exit → List Touch
touches ops exit = flat_map touches_of ops ++ touches_of_exit exit

cons_firsts : (v : ℕ) (op : Op) (ops : List Op) (exit : Exit) → Firsts v (reads op) (writes op) (first_touch v (flat_map touches_of ops ++ touches_of_exit exit)) (first_touch v (flat_map touches_of (op ∷ ops) ++ touches_of_exit exit))
cons_firsts v op ops exit =
    subst (λ l. Firsts v (reads op) (writes op) (first_touch v (flat_map touches_of ops ++ touches_of_exit exit)) (first_touch v l)) (sym (append_assoc (touches_of op) (flat_map touches_of ops) (touches_of_exit exit)))
    (op_firsts v op (flat_map touches_of ops ++ touches_of_exit exit))

-- a block reads a value first exactly where its route does

reads_first_exit : (v : ℕ) (exit : Exit) (first : Option Bool) → Firsts v (reads_of_exit exit) (results_of_exit exit) None first → IsIn v (reads_of_exit exit) → first ≡ Some true
reads_first_exit v exit first (is_read m e) h = e
reads_first_exit v exit first (is_written n m e) h = absurd (n h)
reads_first_exit v exit first (is_left n k e) h = absurd (n h)

reads_first_op : (v : ℕ) (op : Op) (rest first : Option Bool) (Later : Type 0) → Firsts v (reads op) (writes op) rest first → (Later → rest ≡ Some true) → IsIn v (reads op) ⊎ ((IsIn v (writes op) → ⊥) × Later) → first ≡ Some true
reads_first_op v op rest first Later (is_read m e) f h = e
reads_first_op v op rest first Later (is_written n m e) f (inl a) = absurd (n a)
reads_first_op v op rest first Later (is_written n m e) f (inr b) = absurd (b.0 m)
reads_first_op v op rest first Later (is_left n k e) f (inl a) = absurd (n a)
reads_first_op v op rest first Later (is_left n k e) f (inr b) = e ∙ f b.1

reads_first : (v : ℕ) (ops : List Op) (exit : Exit) → ReadsFirst ops exit v → first_touch v (flat_map touches_of ops ++ touches_of_exit exit) ≡ Some true
reads_first v [] exit h = reads_first_exit v exit (first_touch v (touches_of_exit exit)) (exit_firsts v exit) h
reads_first v (op ∷ ops) exit h = reads_first_op v op (first_touch v (flat_map touches_of ops ++ touches_of_exit exit)) (first_touch v (flat_map touches_of (op ∷ ops) ++ touches_of_exit exit)) (ReadsFirst ops exit v) (cons_firsts v op ops exit) (reads_first v ops exit) h

back_exit : (v : ℕ) (exit : Exit) (first : Option Bool) → Firsts v (reads_of_exit exit) (results_of_exit exit) None first → first ≡ Some true → IsIn v (reads_of_exit exit)
back_exit v exit first (is_read m e) h = m
back_exit v exit first (is_written n m e) h = absurd (cc)
back_exit v exit first (is_left n k e) h = absurd (cc)

back_op : (v : ℕ) (op : Op) (rest first : Option Bool) (Later : Type 0) → Firsts v (reads op) (writes op) rest first → (rest ≡ Some true → Later) → first ≡ Some true → IsIn v (reads op) ⊎ ((IsIn v (writes op) → ⊥) × Later)
back_op v op rest first Later (is_read m e) f h = inl m
back_op v op rest first Later (is_written n m e) f h = absurd (cc)
back_op v op rest first Later (is_left n k e) f h = inr (k, f (sym e ∙ h))

back_reads : (v : ℕ) (ops : List Op) (exit : Exit) → first_touch v (flat_map touches_of ops ++ touches_of_exit exit) ≡ Some true → ReadsFirst ops exit v
back_reads v [] exit h = back_exit v exit (first_touch v (touches_of_exit exit)) (exit_firsts v exit) h
back_reads v (op ∷ ops) exit h = back_op v op (first_touch v (flat_map touches_of ops ++ touches_of_exit exit)) (first_touch v (flat_map touches_of (op ∷ ops) ++ touches_of_exit exit)) (ReadsFirst ops exit v) (cons_firsts v op ops exit) (back_reads v ops exit) h

-- it does not write one where the route reads it first or does nothing to it

kept_exit : (v : ℕ) (exit : Exit) (first : Option Bool) → Firsts v (reads_of_exit exit) (results_of_exit exit) None first → (IsIn v (results_of_exit exit) → ⊥) → (first ≡ Some true) ⊎ (first ≡ None)
kept_exit v exit first (is_read m e) h = inl e
kept_exit v exit first (is_written n m e) h = absurd (h m)
kept_exit v exit first (is_left n k e) h = inr e

kept_op : (v : ℕ) (op : Op) (rest first : Option Bool) → Firsts v (reads op) (writes op) rest first → (IsIn v (writes op) → ⊥) → (rest ≡ Some true) ⊎ (rest ≡ None) → (first ≡ Some true) ⊎ (first ≡ None)
kept_op v op rest first (is_read m e) h f = inl e
kept_op v op rest first (is_written n m e) h f = absurd (h m)
kept_op v op rest first (is_left n k e) h (inl a) = inl (e ∙ a)
kept_op v op rest first (is_left n k e) h (inr a) = inr (e ∙ a)

kept : (v : ℕ) (ops : List Op) (exit : Exit) → NeverWrites ops exit v → (first_touch v (flat_map touches_of ops ++ touches_of_exit exit) ≡ Some true) ⊎ (first_touch v (flat_map touches_of ops ++ touches_of_exit exit) ≡ None)
kept v [] exit h = kept_exit v exit (first_touch v (touches_of_exit exit)) (exit_firsts v exit) h
kept v (op ∷ ops) exit h = kept_op v op (first_touch v (flat_map touches_of ops ++ touches_of_exit exit)) (first_touch v (flat_map touches_of (op ∷ ops) ++ touches_of_exit exit)) (cons_firsts v op ops exit) h.0 (kept v ops exit h.1)

unwritten_exit : (v : ℕ) (exit : Exit) (first : Option Bool) → Firsts v (reads_of_exit exit) (results_of_exit exit) None first → first ≡ None → IsIn v (results_of_exit exit) → ⊥
unwritten_exit v exit first (is_read m e) h w = absurd (cc)
unwritten_exit v exit first (is_written n m e) h w = absurd (cc)
unwritten_exit v exit first (is_left n k e) h w = k w

unwritten_op : (v : ℕ) (op : Op) (rest first : Option Bool) (Later : Type 0) → Firsts v (reads op) (writes op) rest first → (rest ≡ None → Later) → first ≡ None → (IsIn v (writes op) → ⊥) × Later
unwritten_op v op rest first Later (is_read m e) f h = absurd (cc)
unwritten_op v op rest first Later (is_written n m e) f h = absurd (cc)
unwritten_op v op rest first Later (is_left n k e) f h = (k, f (sym e ∙ h))

unwritten : (v : ℕ) (ops : List Op) (exit : Exit) → first_touch v (flat_map touches_of ops ++ touches_of_exit exit) ≡ None → NeverWrites ops exit v
unwritten v [] exit h = unwritten_exit v exit (first_touch v (touches_of_exit exit)) (exit_firsts v exit) h
unwritten v (op ∷ ops) exit h = unwritten_op v op (first_touch v (flat_map touches_of ops ++ touches_of_exit exit)) (first_touch v (flat_map touches_of (op ∷ ops) ++ touches_of_exit exit)) (NeverWrites ops exit v) (cons_firsts v op ops exit) (unwritten v ops exit) h

-- paths

module _ (g : Graph) where
  to_route : (b v : ℕ) → IsLive g b v → LiveOn (routes_from 0 g.blocks) b v
  to_route b v (IsLive.here {block = k} e r) = let z : b ≡ 0 + b = omega arith in LiveOn.here b (routes_at 0 g.blocks b k e) z (reads_first v k.ops k.exit r)
  to_route b v (IsLive.beyond {c = c} {block = k} e w t l) =
      let z : b ≡ 0 + b = omega arith in
      elim (kept v k.ops k.exit w) [
        | inl h ↦ LiveOn.here b (routes_at 0 g.blocks b k e) z h
        | inr h ↦ LiveOn.beyond b (routes_at 0 g.blocks b k e) z h t (to_route c v l)
      ]

  from_route : (b v : ℕ) → LiveOn (routes_from 0 g.blocks) b v → IsLive g b v
  from_route b v (LiveOn.here {r = r} i e q f) =
      let w = routes_back 0 g.blocks i r e in
      let s : first_touch v (flat_map touches_of w.0.ops ++ touches_of_exit w.0.exit) ≡ Some true = subst (λ (x : Route). first_touch v x.touches ≡ Some true) w.2 f in
      let z : r.from ≡ 0 + i = ap (λ (x : Route). x.from) w.2 in
      let y : b ≡ i = omega arith in
      IsLive.here (subst (λ j. slice_get g.blocks j ≡ Some w.0) (sym y) w.1) (back_reads v w.0.ops w.0.exit s)
  from_route b v (LiveOn.beyond {c = c} {r = r} i e q f t l) =
      let w = routes_back 0 g.blocks i r e in
      let s : first_touch v (flat_map touches_of w.0.ops ++ touches_of_exit w.0.exit) ≡ None = subst (λ (x : Route). first_touch v x.touches ≡ None) w.2 f in
      let z : r.from ≡ 0 + i = ap (λ (x : Route). x.from) w.2 in
      let y : b ≡ i = omega arith in
      let n : IsIn c (targets_of w.0.exit) = subst (λ (x : Route). IsIn c x.to) w.2 t in
      IsLive.beyond (subst (λ j. slice_get g.blocks j ≡ Some w.0) (sym y) w.1) (unwritten v w.0.ops w.0.exit s) n (from_route c v l)

  pub live_by_routes : (b v : ℕ) → LiveOn (routes_from 0 g.blocks) b v ↔ IsLive g b v
  live_by_routes b v = (from_route b v, to_route b v)

-- rows of live values

none_live : (routes : List Route) (v : ℕ) → ((i : ℕ) (r : Route) → slice_get routes i ≡ Some r → first_touch v r.touches ≡ Some true → ⊥) → (b u : ℕ) → u ≡ v → LiveOn routes b u → ⊥
none_live routes v n b u w (LiveOn.here {r = r} i e q f) = n i r e (subst (λ x. first_touch x r.touches ≡ Some true) w f)
none_live routes v n b u w (LiveOn.beyond {c = c} i e q f t l) = none_live routes v n c u w l

row_beyond : {A : Type 0} (rows : List (List A)) (p : ℕ) → length rows ≤ p → row_at rows p ≡ []
row_beyond [] p h = refl
row_beyond (r ∷ rows) zero h = absurd (omega arith)
row_beyond (r ∷ rows) (suc p) h = row_beyond rows p (omega arith)

-- ascending lists

got_is_in : (xs : List ℕ) (i x : ℕ) → slice_get xs i ≡ Some x → IsIn x xs
got_is_in [] i x e = absurd (cc)
got_is_in (y ∷ xs) zero x e = let q : y ≡ x = cc in inl (sym q)
got_is_in (y ∷ xs) (suc i) x e = inr (got_is_in xs i x e)

got_or_last : (xs : List ℕ) (n i x : ℕ) → slice_get (xs ++ n ∷ []) i ≡ Some x → (slice_get xs i ≡ Some x) ⊎ ((i ≡ length xs) × (x ≡ n))
got_or_last [] n zero x e = let q : n ≡ x = cc in inr (refl, sym q)
got_or_last [] n (suc i) x e = absurd (cc)
got_or_last (y ∷ xs) n zero x e = inl e
got_or_last (y ∷ xs) n (suc i) x e = elim (got_or_last xs n i x e) [ inl k ↦ inl k | inr q ↦ inr (ap suc q.0, q.1) ]

rising_none : Rising []
rising_none i j x y h e f = absurd (cc)

rising_more : (xs : List ℕ) (n : ℕ) → Rising xs → ((x : ℕ) → IsIn x xs → x < n) → Rising (xs ++ n ∷ [])
rising_more xs n s k i j x y h e f = elim (got_or_last xs n i x e) [
  | inl a ↦ elim (got_or_last xs n j y f) [
    | inl b ↦ s i j x y h a b
    | inr q ↦ let z : x < n = k x (got_is_in xs i x a) in let w : y ≡ n = q.1 in omega (arith, z, w)
  ]
  | inr p ↦ elim (got_or_last xs n j y f) [
    | inl b ↦ let z : j < length xs = get_below xs j y b in let w : i ≡ length xs = p.0 in absurd (omega (arith, z, w, h))
    | inr q ↦ let z : i ≡ length xs = p.0 in let w : j ≡ length xs = q.0 in absurd (omega (arith, z, w, h))
  ]
]

-- the rows of the values below n are exact
pub record RowsBelow (routes : List Route) (rows : List (List ℕ)) (n : ℕ) : Type 0 where
  pub exact : (b v : ℕ) → v < n → IsIn v (row_at rows b) ↔ LiveOn routes b v
  pub below : (b v : ℕ) → IsIn v (row_at rows b) → v < n
  pub rising : (b : ℕ) → Rising (row_at rows b)

below_or_last : (v n : ℕ) → v < n + 1 → (v < n) ⊎ (v ≡ n)
below_or_last zero zero h = inr refl
below_or_last zero (suc n) h = inl (omega arith)
below_or_last (suc v) zero h = absurd (omega arith)
below_or_last (suc v) (suc n) h = elim (below_or_last v n (omega arith)) [ inl k ↦ inl (omega arith) | inr e ↦ inr (ap suc e) ]

-- what one row holds once value n is done
record RowDone (routes : List Route) (row : List ℕ) (b n : ℕ) : Type 0 where
  exact : (v : ℕ) → v < n → IsIn v row ↔ LiveOn routes b v
  below : (v : ℕ) → IsIn v row → v < n
  rising : Rising row

row_with : (routes : List Route) (row : List ℕ) (b n : ℕ) → RowDone routes row b n → LiveOn routes b n → RowDone routes (row ++ n ∷ []) b (n + 1)
row_with routes row b n s l = record {
  exact = λ v k. elim (below_or_last v n k) [
    | inl w ↦ let e = s.exact v w in (
      λ m. elim (in_front_or_last v n row m) [ inl a ↦ e.0 a | inr q ↦ absurd (omega (arith, w, q)) ],
      λ m. in_left v row (n ∷ []) (e.1 m),
    )
    | inr w ↦ (λ m. subst (LiveOn routes b) (sym w) l, λ m. subst (λ x. IsIn x (row ++ n ∷ [])) (sym w) (in_last n row))
  ];
  below = λ v m. elim (in_front_or_last v n row m) [ inl a ↦ let h : v < n = s.below v a in omega (arith, h) | inr q ↦ let h : v ≡ n = q in omega (arith, h) ];
  rising = rising_more row n s.rising s.below;
}

row_without : (routes : List Route) (row : List ℕ) (b n : ℕ) → RowDone routes row b n → (LiveOn routes b n → ⊥) → RowDone routes row b (n + 1)
row_without routes row b n s l = record {
  exact = λ v k. elim (below_or_last v n k) [
    | inl w ↦ s.exact v w
    | inr w ↦ (
      λ m. let h : v < n = s.below v m in absurd (omega (arith, h, w)),
      λ m. absurd (l (subst (LiveOn routes b) w m)),
    )
  ];
  below = λ v m. let h : v < n = s.below v m in omega (arith, h);
  rising = s.rising;
}

row_done : (routes : List Route) (rows after : List (List ℕ)) (marks : List Bool) (n b : ℕ) → RowsBelow routes rows n → ((is_marked marks b ≡ true) ↔ LiveOn routes b n) → PutUnder n marks rows after → (t : Bool) → is_marked marks b ≡ t → RowDone routes (row_at after b) b (n + 1)
row_done routes rows after marks n b s h p true e =
    subst (λ row. RowDone routes row b (n + 1)) (sym (p.marked b e)) (row_with routes (row_at rows b) b n (record { exact = s.exact b; below = s.below b; rising = s.rising b }) (h.0 e))
row_done routes rows after marks n b s h p false e =
    subst (λ row. RowDone routes row b (n + 1)) (sym (p.unmarked b e)) (row_without routes (row_at rows b) b n (record { exact = s.exact b; below = s.below b; rising = s.rising b }) (λ l. let w : true ≡ false = sym (h.1 l) ∙ e in absurd (cc)))

pub rows_more : (routes : List Route) (rows after : List (List ℕ)) (marks : List Bool) (n : ℕ) → RowsBelow routes rows n → ((b : ℕ) → (is_marked marks b ≡ true) ↔ LiveOn routes b n) → PutUnder n marks rows after → RowsBelow routes after (n + 1)
rows_more routes rows after marks n s h p = record {
  exact = λ b. (row_done routes rows after marks n b s (h b) p (is_marked marks b) refl).exact;
  below = λ b. (row_done routes rows after marks n b s (h b) p (is_marked marks b) refl).below;
  rising = λ b. (row_done routes rows after marks n b s (h b) p (is_marked marks b) refl).rising;
}

pub rows_none : (routes : List Route) → RowsBelow routes [] 0
rows_none routes = record { exact = λ b v h. absurd (omega arith); below = λ b v m. absurd m; rising = λ b. rising_none }

below_or_not : (v n : ℕ) → (v < n) ⊎ (n ≤ v)
below_or_not v zero = inr (omega arith)
below_or_not zero (suc n) = inl (omega arith)
below_or_not (suc v) (suc n) = elim (below_or_not v n) [ inl h ↦ inl (omega arith) | inr h ↦ inr (omega arith) ]

rows_in : (routes : List Route) (readers rows : List (List ℕ)) (n : ℕ) → ReadersFound routes readers → length readers ≡ n → RowsBelow routes rows n → (b v : ℕ) → IsIn v (row_at rows b) ↔ LiveOn routes b v
rows_in routes readers rows n f z s b v = elim (below_or_not v n) [
  | inl h ↦ s.exact b v h
  | inr h ↦ let q : length readers ≤ v = subst (λ m. m ≤ v) (sym z) h in (
    λ m. let k : v < n = s.below b v m in absurd (omega (arith, h, k)),
    λ l. absurd (none_live routes v (λ i r e g. subst (IsIn i) (row_beyond readers v q) (f i v r e g)) b v refl l),
  )
]

-- the rows of all values that are read
pub rows_all : (routes : List Route) (readers rows : List (List ℕ)) (n : ℕ) → ReadersFound routes readers → length readers ≡ n → RowsBelow routes rows n → (b v : ℕ) → (lives rows b v ≡ true) ↔ LiveOn routes b v
rows_all routes readers rows n f z s b v =
    let e = rows_in routes readers rows n f z s b v in
    (λ m. e.0 (any_in v (row_at rows b) m), λ l. in_any v (row_at rows b) (e.1 l))
