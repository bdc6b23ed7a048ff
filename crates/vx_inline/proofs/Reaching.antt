-- A function reaches another by calls exactly where the other is live on the routes of calls.
use Rattle.std.proofs.Common.{◌≡◌, ◌⊎◌, inl, inr, ℕ, zero, suc, ◌+◌, ◌<◌, Bool, true, false, cond, ◌==◌, List, [], ◌∷◌, ◌++◌, length, map, take, get_or, slice_get, slice_set, Option, Some, None, refl, sym, ap, ◌∙◌, subst, eq-eqb, eqb-true, arith}
use Rattle.std.proofs.lemmas.Bool.{false≢true}
use Rattle.std.proofs.lemmas.Option.{slice_get_within}
use Rattle.vx_flow.specs.declared.graph.Operand.{Operand}
use Rattle.vx_flow.specs.declared.graph.Exit.{Exit}
use Rattle.vx_flow.specs.declared.graph.Exit.TheVariants.{Goto, Split, Call, Return, Ends}
use Rattle.vx_flow.specs.declared.graph.Block.{Block}
use Rattle.vx_flow.specs.declared.graph.Graph.{Graph}
use Rattle.vx_flow.specs.declared.graph.Flow.{Flow}
use Rattle.vx_flow.specs.declared.routes.Route.{Route}
use Rattle.vx_flow.specs.Closing.{BeginWithin}
use Rattle.vx_flow.specs.Effects.{IsIn}
use Rattle.vx_flow.specs.Live.{LiveOn, first_touch, reading}
use Rattle.vx_inline.specs.Inlined.{CallsTo, Reaches, inlined_blocks}
use Rattle.vx_inline.specs.Reaching.{called_by, callees, call_route, call_routes, ReachedWhereLive, NamesStay}
use Rattle.vx_inline.proofs.Renamed.{into_flat}
use Rattle.vx_inline.proofs.Taking.{from_flat}

-- ---- routes

routes_at : (i : ℕ) (gs : List Graph) (f : ℕ) (g : Graph) → slice_get gs f ≡ Some g → slice_get (call_routes i gs) f ≡ Some (call_route (i + f) g)
routes_at i [] f g e = absurd (cc)
routes_at i (x ∷ xs) zero g e =
    let q : x ≡ g = cc in
    let n : i ≡ i + 0 = omega arith in
    ap (λ z. Some (call_route i z)) q ∙ ap (λ j. Some (call_route j g)) n
routes_at i (x ∷ xs) (suc f) g e = let n : suc i + f ≡ i + suc f = omega arith in routes_at (suc i) xs f g e ∙ ap (λ j. Some (call_route j g)) n

at_routes : (i : ℕ) (gs : List Graph) (f : ℕ) (r : Route) → slice_get (call_routes i gs) f ≡ Some r → (g : Graph) × (slice_get gs f ≡ Some g) × (r ≡ call_route (i + f) g)
at_routes i [] f r e = absurd (cc)
at_routes i (x ∷ xs) zero r e =
    let q : call_route i x ≡ r = cc in
    let n : i ≡ i + 0 = omega arith in
    (x, refl, sym q ∙ ap (λ j. call_route j x) n)
at_routes i (x ∷ xs) (suc f) r e = let n : suc i + f ≡ i + suc f = omega arith in let w = at_routes (suc i) xs f r e in (w.0, w.1, w.2 ∙ ap (λ j. call_route j w.0) n)

read_in : (v : ℕ) (vs : List ℕ) → first_touch v (reading vs) ≡ Some true → IsIn v vs
read_in v [] e = absurd (cc)
read_in v (u ∷ us) e = by (u == v) refl e (read_in v us)
  where
    by : (t : Bool) → (u == v) ≡ t → cond t (Some true) (first_touch v (reading us)) ≡ Some true → (first_touch v (reading us) ≡ Some true → IsIn v us) → IsIn v (u ∷ us)
    by true q d k = inl (sym (eqb-true u v q))
    by false q d k = inr (k d)

in_read : (v : ℕ) (vs : List ℕ) → IsIn v vs → first_touch v (reading vs) ≡ Some true
in_read v [] m = absurd m
in_read v (u ∷ us) m = by (u == v) refl m (in_read v us)
  where
    by : (t : Bool) → (u == v) ≡ t → IsIn v (u ∷ us) → (IsIn v us → first_touch v (reading us) ≡ Some true) → cond t (Some true) (first_touch v (reading us)) ≡ Some true
    by true q k h = refl
    by false q (inl e) h = absurd (false≢true (sym q ∙ eq-eqb u v (sym e)))
    by false q (inr k) h = h k

-- what is only read is read first or not touched
read_or_none : (v : ℕ) (vs : List ℕ) → (first_touch v (reading vs) ≡ Some true) ⊎ (first_touch v (reading vs) ≡ None)
read_or_none v [] = inr refl
read_or_none v (u ∷ us) = by (u == v) (read_or_none v us)
  where
    by : (t : Bool) → (first_touch v (reading us) ≡ Some true) ⊎ (first_touch v (reading us) ≡ None) → (cond t (Some true) (first_touch v (reading us)) ≡ Some true) ⊎ (cond t (Some true) (first_touch v (reading us)) ≡ None)
    by true k = inl refl
    by false k = k

-- ---- calls

callee_is : (exit : Exit) (f : ℕ) → IsIn f (called_by exit) → (xs : List Operand) × (r : Option ℕ) × (n : ℕ) × (Call f xs r n ≡ exit)
callee_is (Goto d) f m = absurd m
callee_is (Split p d e) f m = absurd m
callee_is (Call g xs r n) f (inl e) = (xs, r, n, ap (λ h. Call h xs r n) e)
callee_is (Call g xs r n) f (inr z) = absurd z
callee_is (Return x) f m = absurd m
callee_is (Ends k) f m = absurd m

calls_from : (flow : Flow) (f c : ℕ) (g : Graph) → slice_get flow.functions f ≡ Some g → IsIn c (callees g) → CallsTo flow f c
calls_from flow f c g e m =
    let r = from_flat (λ (b : Block). called_by b.exit) g.blocks c m in
    let k = callee_is r.item.exit c r.names in
    record { graph = g; is = e; arguments = k.0; result = k.1; next = k.2; has = record { block = r.item; has = r.has; ends = k.3 } }

callees_of : (flow : Flow) (f c : ℕ) (k : CallsTo flow f c) → IsIn c (callees k.graph)
callees_of flow f c k = into_flat (λ (b : Block). called_by b.exit) k.graph.blocks k.has.block c k.has.has (subst (λ x. IsIn c (called_by x)) k.has.ends (inl refl))

module _ (flow : Flow) where
  abbrev routes : List Route
  routes = call_routes 0 flow.functions

  -- the function of a route
  of_route : (i f : ℕ) (r : Route) → slice_get routes i ≡ Some r → f ≡ r.from → (g : Graph) × (slice_get flow.functions f ≡ Some g) × (r ≡ call_route f g)
  of_route i f r e q =
      let w = at_routes 0 flow.functions i r e in
      let z : 0 + i ≡ i = omega arith in
      let same : f ≡ i = q ∙ ap (λ (x : Route). x.from) w.2 ∙ z in
      (w.0, ap (slice_get flow.functions) same ∙ w.1, w.2 ∙ ap (λ j. call_route j w.0) (z ∙ sym same))

  reached : (f v : ℕ) → LiveOn routes f v → Reaches flow f v
  reached f v (LiveOn.here {r = r} i e q t) =
      let w = of_route i f r e q in
      Reaches.calls (calls_from flow f v w.0 w.1 (read_in v (callees w.0) (ap (λ (x : Route). first_touch v x.touches) (sym w.2) ∙ t)))
  reached f v (LiveOn.beyond {c = c} {r = r} i e q t m l) =
      let w = of_route i f r e q in
      Reaches.through (calls_from flow f c w.0 w.1 (subst (λ (x : Route). IsIn c x.to) w.2 m)) (reached c v l)

  route_of : (f c : ℕ) (k : CallsTo flow f c) → slice_get routes f ≡ Some (call_route f k.graph)
  route_of f c k = let z : 0 + f ≡ f = omega arith in routes_at 0 flow.functions f k.graph k.is ∙ ap (λ j. Some (call_route j k.graph)) z

  live : (f v : ℕ) → Reaches flow f v → LiveOn routes f v
  live f v (Reaches.calls k) = LiveOn.here f (route_of f v k) refl (in_read v (callees k.graph) (callees_of flow f v k))
  live f v (Reaches.through {g = c} k r) = by (read_or_none v (callees k.graph)) (live c v r)
    where
      by : (first_touch v (reading (callees k.graph)) ≡ Some true) ⊎ (first_touch v (reading (callees k.graph)) ≡ None) → LiveOn routes c v → LiveOn routes f v
      by (inl t) l = LiveOn.here f (route_of f c k) refl t
      by (inr t) l = LiveOn.beyond f (route_of f c k) refl t (callees_of flow f c k) l

  begin_within : BeginWithin (length flow.functions) routes
  begin_within i r e =
      let w = at_routes 0 flow.functions i r e in
      let l : i < length flow.functions = slice_get_within flow.functions i w.0 w.1 in
      let z : r.from ≡ 0 + i = ap (λ (x : Route). x.from) w.2 in
      omega (arith, l, z)

pub reached_where_live : ReachedWhereLive
reached_where_live flow = (begin_within flow, λ f g. (reached flow f g, live flow f g))

-- ---- what stays of the graphs

map_set : {B : Type 0} (f : Graph → B) (gs : List Graph) (i : ℕ) (g h : Graph) → slice_get gs i ≡ Some g → f h ≡ f g → map f (slice_set gs i h) ≡ map f gs
map_set f [] i g h e q = absurd (cc)
map_set f (x ∷ xs) zero g h e q = let s : x ≡ g = cc in ap (λ z. z ∷ map f xs) (q ∙ ap f (sym s))
map_set f (x ∷ xs) (suc i) g h e q = ap (λ zs. f x ∷ zs) (map_set f xs i g h e q)

pub names_stay : NamesStay
names_stay flow after site i =
    (map_same (λ g. g.banks) refl, map_same (λ g. g.parameters) refl, map_same (λ g. g.arrays) refl)
  where
    map_same : {B : Type 0} (f : Graph → B) → f (record i.call.parts.caller { blocks = inlined_blocks i.call.parts site.block i.free }) ≡ f i.call.parts.caller → map f after.functions ≡ map f flow.functions
    map_same f q = ap (λ (x : Flow). map f x.functions) i.is ∙ map_set f flow.functions site.function i.call.parts.caller (record i.call.parts.caller { blocks = inlined_blocks i.call.parts site.block i.free }) i.call.is_caller q

-- ---- the routes made one after the other

pub routes_more : (n : ℕ) (gs : List Graph) (i : ℕ) (g : Graph) → i < length gs → g ≡ get_or gs i g → call_routes n (take (suc i) gs) ≡ call_routes n (take i gs) ++ call_route (n + i) g ∷ []
routes_more n [] i g h e = absurd (omega arith)
routes_more n (x ∷ xs) zero g h e = let z : n ≡ n + 0 = omega arith in ap (λ y. call_route n y ∷ []) (sym e) ∙ ap (λ j. call_route j g ∷ []) z
routes_more n (x ∷ xs) (suc i) g h e =
    let z : suc n + i ≡ n + suc i = omega arith in
    ap (λ l. call_route n x ∷ l) (routes_more (suc n) xs i g (omega arith) e ∙ ap (λ j. call_routes (suc n) (take i xs) ++ call_route j g ∷ []) z)
