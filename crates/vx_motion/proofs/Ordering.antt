-- A walk leaves blocks in an order: each edge that is no back edge leads to a block that was left before. So no cycle is
-- without a back edge.
use Rattle.std.proofs.Common.{◌≡◌, ◌⊎◌, inl, inr, ℕ, zero, suc, ◌+◌, ◌<◌, ◌≤◌, ◌==◌, Bool, true, false, cond, List, [], ◌∷◌, length, slice_get, Option, Some, None, refl, sym, ap, subst, ◌∙◌, arith}
use Rattle.std.specs.List.{filter, list_any}
use Rattle.std.proofs.lemmas.Bool.{eq-eqb}
use Rattle.std.proofs.lemmas.Bool.Decides.{eqb_tells}
use Rattle.vx_flow.specs.declared.graph.Block.{Block}
use Rattle.vx_flow.specs.declared.graph.Graph.{Graph}
use Rattle.vx_flow.specs.declared.graph.Edge.{Edge}
use Rattle.vx_flow.specs.Effects.{IsIn}
use Rattle.vx_flow.specs.Walk.{Walks, BackEdges, edge, numbers, successors, successors_in, headers_of}
use Rattle.vx_flow.proofs.Members.{in_left, in_right}
use Rattle.vx_flow.proofs.SoundLists.{any_of}
use Rattle.vx_motion.specs.Cycles.{Leads, CyclesGoBack, CyclesHaveHeaders, cycle_of, edges_to}

-- blocks that were left, the latest first: each edge leads to one left before, or is a back edge
abbrev pub Ordered : Graph → (Edge → Type 0) → List ℕ → Type 0
Ordered g Back [] = Unit {0}
Ordered g Back (b ∷ order) = ((c : ℕ) → IsIn c (successors g b) → IsIn c order ⊎ Back (edge b c)) × Ordered g Back order

-- the edge to block c from the end of the path
abbrev pub Led : (Edge → Type 0) → (path order : List ℕ) → ℕ → Type 0
Led Back [] order c = IsIn c order
Led Back (b ∷ path) order c = IsIn c order ⊎ Back (edge b c)

led_to : (Back : Edge → Type 0) (path order : List ℕ) (c : ℕ) → IsIn c order → Led Back path order c
led_to Back [] order c h = h
led_to Back (b ∷ path) order c h = inl h

-- what is left after a part of the walk
pub record Left (g : Graph) (Back : Edge → Type 0) (path todo before after : List ℕ) : Type 0 where
  pub order : List ℕ
  pub ordered : Ordered g Back order
  pub reached : (b : ℕ) → IsIn b after → IsIn b order ⊎ IsIn b path
  pub more : (b : ℕ) → IsIn b before → IsIn b order
  pub led : (c : ℕ) → IsIn c todo → Led Back path order c

module _ (g : Graph) (Back : Edge → Type 0) where
  leaves : (path todo seen after : List ℕ) (back : List Edge) → Walks g path todo seen after back → (before : List ℕ) → Ordered g Back before → ((b : ℕ) → IsIn b seen → IsIn b before ⊎ IsIn b path) →
      ((e : Edge) → IsIn e back → Back e) → Left g Back path todo before after
  leaves path todo seen after back (Walks.done) before o r k = record { order = before; ordered = o; reached = r; more = λ b h. h; led = λ c h. absurd h }
  leaves path todo seen after back (Walks.closes {b = b} {c = c} {path = p} {todo = t} {back = later} i w) before o r k =
      let x : Left g Back (b ∷ p) t before after = leaves (b ∷ p) t seen after later w before o r (λ e h. k e (inr h)) in
      record {
        order = x.order;
        ordered = x.ordered;
        reached = x.reached;
        more = x.more;
        led = λ d h. elim h [ inl e ↦ inr (subst (λ z. Back (edge b z)) (sym e) (k (edge b c) (inl refl))) | inr m ↦ x.led d m ];
      }
  leaves path todo seen after back (Walks.passes {c = c} {todo = t} n i w) before o r k =
      let x : Left g Back path t before after = leaves path t seen after back w before o r k in
      let f : IsIn c before = elim (r c i) [ inl h ↦ h | inr h ↦ absurd (n h) ] in
      record {
        order = x.order;
        ordered = x.ordered;
        reached = x.reached;
        more = x.more;
        led = λ d h. elim h [ inl e ↦ led_to Back path x.order d (subst (λ z. IsIn z x.order) (sym e) (x.more c f)) | inr m ↦ x.led d m ];
      }
  leaves path todo seen after back (Walks.enters {c = c} {todo = t} {between = between} {first = first} {later = later} n w v) before o r k =
      let x : Left g Back (c ∷ path) (successors g c) before between =
      leaves (c ∷ path) (successors g c) (c ∷ seen) between first w before o (λ b h. elim h [ inl e ↦ inr (inl e) | inr m ↦ elim (r b m) [ inl q ↦ inl q | inr q ↦ inr (inr q) ] ]) (λ e h. k e (in_left e first later h)) in
      let y : Left g Back path t (c ∷ x.order) after =
      leaves path t between after later v (c ∷ x.order) (x.led, x.ordered) (λ b h. elim (x.reached b h) [ inl q ↦ inl (inr q) | inr q ↦ elim q [ inl e ↦ inl (inl e) | inr m ↦ inr m ] ]) (λ e h. k e (in_right e first later h)) in
      record {
        order = y.order;
        ordered = y.ordered;
        reached = y.reached;
        more = λ b h. y.more b (inr (x.more b h));
        led = λ d h. elim h [ inl e ↦ led_to Back path y.order d (y.more d (inl e)) | inr m ↦ y.led d m ];
      }

  -- a way of one edge or more, none of which is a back edge
  pub data Way : ℕ → ℕ → Type 0 where
    ends : {b c : ℕ} → IsIn c (successors g b) → (Back (edge b c) → ⊥) → Way b c
    goes : {b c d : ℕ} → IsIn c (successors g b) → (Back (edge b c) → ⊥) → Way c d → Way b d

  step_stays : (order : List ℕ) → Ordered g Back order → (b c : ℕ) → IsIn b order → IsIn c (successors g b) → (Back (edge b c) → ⊥) → IsIn c order
  step_stays [] o b c h s n = absurd h
  step_stays (x ∷ order) o b c (inl e) s n = elim (o.0 c (subst (λ z. IsIn c (successors g z)) e s)) [ inl m ↦ inr m | inr k ↦ absurd (n (subst (λ z. Back (edge z c)) (sym e) k)) ]
  step_stays (x ∷ order) o b c (inr m) s n = inr (step_stays order o.1 b c m s n)

  stays : (order : List ℕ) → Ordered g Back order → (b c : ℕ) → IsIn b order → Way b c → IsIn c order
  stays order o b c h (Way.ends s n) = step_stays order o b c h s n
  stays order o b c h (Way.goes {c = d} s n w) = stays order o d c (step_stays order o b d h s n) w

  -- from the latest block left, a way leads to blocks left before
  falls : (x : ℕ) (order : List ℕ) → Ordered g Back (x ∷ order) → (c : ℕ) → Way x c → IsIn c order
  falls x order o c (Way.ends s n) = elim (o.0 c s) [ inl m ↦ m | inr k ↦ absurd (n k) ]
  falls x order o c (Way.goes {c = d} s n w) = stays order o.1 d c (elim (o.0 d s) [ inl m ↦ m | inr k ↦ absurd (n k) ]) w

  pub no_way_back : (order : List ℕ) → Ordered g Back order → (b : ℕ) → IsIn b order → Way b b → ⊥
  no_way_back [] o b h w = h
  no_way_back (x ∷ order) o b (inl e) w = let v : Way x b = subst (λ z. Way z b) e w in no_way_back order o.1 b (falls x order o b v) w
  no_way_back (x ∷ order) o b (inr m) w = no_way_back order o.1 b m w

-- blocks

in_numbers : (n b c : ℕ) → b ≤ c → c < b + n → IsIn c (numbers b n)
in_numbers zero b c h k = absurd (omega arith)
in_numbers (suc n) b c h k = elim (eqb_tells c b) [ inl t ↦ inl t.1 | inr t ↦ inr (in_numbers n (b + 1) c (let z = t.1 in above b c h z) (omega arith)) ]
  where
    above : (b c : ℕ) → b ≤ c → (c ≡ b → ⊥) → b + 1 ≤ c
    above b c h n = grind arith

below : {A : Type 0} (xs : List A) (i : ℕ) (x : A) → slice_get xs i ≡ Some x → i < length xs
below [] i x e = absurd (cc)
below (y ∷ xs) zero x e = omega arith
below (y ∷ xs) (suc i) x e = let h = below xs i x e in omega arith

-- a block with a successor is there
there_by : (g : Graph) (b c : ℕ) (o : Option Block) → slice_get g.blocks b ≡ o → IsIn c (successors_in o) → b < length g.blocks
there_by g b c None e h = absurd h
there_by g b c (Some k) e h = below g.blocks b k e

pub there : (g : Graph) (b c : ℕ) → IsIn c (successors g b) → b < length g.blocks
there g b c h = there_by g b c (slice_get g.blocks b) refl h

-- edges

same_or_not : (e f : Edge) → (e ≡ f) ⊎ (e ≡ f → ⊥)
same_or_not e f = elim (eqb_tells e.from f.from) [
  | inl t ↦ elim (eqb_tells e.to f.to) [
    | inl s ↦ let p : e.from ≡ f.from = t.1 in let q : e.to ≡ f.to = s.1 in inl (ap (λ z. edge z e.to) p ∙ ap (edge f.from) q)
    | inr s ↦ inr (λ z. s.1 (ap (λ (x : Edge). x.to) z))
  ]
  | inr t ↦ inr (λ z. t.1 (ap (λ (x : Edge). x.from) z))
]

edge_or_not : (e : Edge) (es : List Edge) → IsIn e es ⊎ (IsIn e es → ⊥)
edge_or_not e [] = inr (λ h. h)
edge_or_not e (f ∷ es) = elim (same_or_not e f) [
  | inl q ↦ inl (inl q)
  | inr n ↦ elim (edge_or_not e es) [ inl m ↦ inl (inr m) | inr k ↦ inr (λ h. elim h [ inl q ↦ n q | inr m ↦ k m ]) ]
]

-- one list has an edge of the other, or none
pub some_or_none : (es back : List Edge) → ((e : Edge) × IsIn e es × IsIn e back) ⊎ ((e : Edge) → IsIn e es → IsIn e back → ⊥)
some_or_none [] back = inr (λ e h k. h)
some_or_none (f ∷ es) back = elim (edge_or_not f back) [
  | inl m ↦ inl (f, inl refl, m)
  | inr n ↦ elim (some_or_none es back) [ inl w ↦ inl (w.0, inr w.1, w.2) | inr k ↦ inr (λ e h. elim h [ inl q ↦ (λ m. n (subst (λ z. IsIn z back) q m)) | inr m ↦ k e m ]) ]
]

-- cycles

way_of : (g : Graph) (back : List Edge) (first b : ℕ) (blocks : List ℕ) → ((e : Edge) → IsIn e (edges_to first (b ∷ blocks)) → Leads g e) → ((e : Edge) → IsIn e (edges_to first (b ∷ blocks)) → IsIn e back → ⊥) →
    Way g (λ e. IsIn e back) b first
way_of g back first b [] s n = Way.ends (s (edge b first) (inl refl)) (n (edge b first) (inl refl))
way_of g back first b (c ∷ blocks) s n = Way.goes (s (edge b c) (inl refl)) (n (edge b c) (inl refl)) (way_of g back first c blocks (λ e h. s e (inr h)) (λ e h. n e (inr h)))

first_there : (g : Graph) (first b : ℕ) (blocks : List ℕ) → ((e : Edge) → IsIn e (edges_to first (b ∷ blocks)) → Leads g e) → b < length g.blocks
first_there g first b [] s = there g b first (s (edge b first) (inl refl))
first_there g first b (c ∷ blocks) s = there g b c (s (edge b c) (inl refl))

all_left : (g : Graph) (back : List Edge) → BackEdges g back → (order : List ℕ) × Ordered g (λ e. IsIn e back) order × ((b : ℕ) → b < length g.blocks → IsIn b order)
all_left g back w =
    let x : Left g (λ e. IsIn e back) [] (numbers 0 (length g.blocks)) [] w.after = leaves g (λ e. IsIn e back) [] (numbers 0 (length g.blocks)) [] w.after back w.walk [] tt (λ b h. absurd h) (λ e h. h) in
    (x.order, x.ordered, λ b h. x.led b (in_numbers (length g.blocks) 0 b (omega arith) (let z : 0 + length g.blocks ≡ length g.blocks = omega arith in subst (λ n. b < n) (sym z) h)))

pub cycles_go_back : CyclesGoBack
cycles_go_back g back w [] c = absurd (c.0 refl)
cycles_go_back g back w (b ∷ blocks) c = elim (some_or_none (edges_to b (b ∷ blocks)) back) [
  | inl x ↦ x
  | inr n ↦
      let o = all_left g back w in
      absurd (no_way_back g (λ e. IsIn e back) o.0 o.1 b (o.2 b (first_there g b b blocks c.1)) (way_of g back b b blocks c.1 n))
]

-- the block to which an edge of a cycle leads is on it

ends_in : (first b : ℕ) (blocks : List ℕ) (e : Edge) → IsIn e (edges_to first (b ∷ blocks)) → (e.to ≡ first) ⊎ IsIn e.to blocks
ends_in first b [] e (inl q) = inl (ap (λ (x : Edge). x.to) q)
ends_in first b [] e (inr z) = absurd z
ends_in first b (c ∷ blocks) e (inl q) = inr (inl (ap (λ (x : Edge). x.to) q))
ends_in first b (c ∷ blocks) e (inr m) = elim (ends_in first c blocks e m) [ inl q ↦ inl q | inr k ↦ inr (inr k) ]

pub ends_on : (blocks : List ℕ) (e : Edge) → IsIn e (cycle_of blocks) → IsIn e.to blocks
ends_on [] e h = absurd h
ends_on (b ∷ blocks) e h = elim (ends_in b b blocks e h) [ inl q ↦ inl q | inr k ↦ inr k ]

begins_in : (first b : ℕ) (blocks : List ℕ) (c : ℕ) → IsIn c (b ∷ blocks) → (e : Edge) × IsIn e (edges_to first (b ∷ blocks)) × (e.from ≡ c)
begins_in first b [] c (inl q) = (edge b first, inl refl, sym q)
begins_in first b [] c (inr z) = absurd z
begins_in first b (d ∷ blocks) c (inl q) = (edge b d, inl refl, sym q)
begins_in first b (d ∷ blocks) c (inr m) = let w = begins_in first d blocks c m in (w.0, inr w.1, w.2)

-- from each block of a cycle an edge of it leads on
pub leads_on : (blocks : List ℕ) (c : ℕ) → IsIn c blocks → (e : Edge) × IsIn e (cycle_of blocks) × (e.from ≡ c)
leads_on [] c h = absurd h
leads_on (b ∷ blocks) c h = begins_in b b blocks c h

-- headers

in_filter : (p : ℕ → Bool) (xs : List ℕ) (x : ℕ) → IsIn x xs → p x ≡ true → IsIn x (filter p xs)
in_filter p [] x h t = absurd h
in_filter p (y ∷ ys) x (inl e) t = subst (λ b. IsIn x (cond b (y ∷ filter p ys) (filter p ys))) (sym (subst (λ z. p z ≡ true) e t)) (inl e)
in_filter p (y ∷ ys) x (inr h) t = by (p y) (in_filter p ys x h t)
  where
    by : (b : Bool) → IsIn x (filter p ys) → IsIn x (cond b (y ∷ filter p ys) (filter p ys))
    by true i = inr i
    by false i = i

pub target_is_header : (n : ℕ) (back : List Edge) (e : Edge) → IsIn e back → e.to < n → IsIn e.to (headers_of n back)
target_is_header n back e h k =
    in_filter (λ b. list_any (λ (f : Edge). f.to == b) back) (numbers 0 n) e.to (in_numbers n 0 e.to (omega arith) (let z : 0 + n ≡ n = omega arith in subst (λ m. e.to < m) (sym z) k))
    (any_of (λ (f : Edge). f.to == e.to) back e h (eq-eqb e.to e.to refl))

pub cycles_have_headers : CyclesHaveHeaders
cycles_have_headers g headers h blocks c =
    let w = cycles_go_back g h.back h.edges blocks c in
    let on : IsIn w.0.to blocks = ends_on blocks w.0 w.1 in
    let next = leads_on blocks w.0.to on in
    let k : next.0.from < length g.blocks = there g next.0.from next.0.to (c.1 next.0 next.1) in
    (w.0.to, on, subst (IsIn w.0.to) (sym h.targets) (target_is_header (length g.blocks) h.back w.0 w.2 (subst (λ z. z < length g.blocks) next.2 k)))
