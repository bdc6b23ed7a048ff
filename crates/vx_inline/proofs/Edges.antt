-- Blocks with a block for each critical edge: where each block of them comes from, and that no edge is critical any more.
use Rattle.std.proofs.Common.{◌≡◌, ◌⊎◌, inl, inr, ℕ, zero, suc, ◌+◌, ◌-◌, ◌<◌, ◌≤◌, Bool, true, false, cond, ◌==◌, ◌&&◌, nat_lt, List, [], ◌∷◌, ◌++◌, length, map, take, drop, slice_get, Some, refl, sym, ap, ◌∙◌, subst, eq-eqb, eqb-true, ltb-true, ltb-false, arith}
use Rattle.std.proofs.lemmas.Bool.{false≢true, and_parts}
use Rattle.std.proofs.lemmas.List.{length-map, length-drop}
use Rattle.std.proofs.lemmas.Option.{slice_get_within}
use Rattle.std.specs.Cmp.Derive.{both_true}
use Rattle.std.specs.List.{filter}
use Rattle.vx_base.specs.declared.outcome.Trap.{Trap}
use Rattle.vx_flow.specs.declared.graph.Exit.{Exit}
use Rattle.vx_flow.specs.declared.graph.Exit.TheVariants.{Goto, Split, Call, Return, Ends}
use Rattle.vx_flow.specs.declared.graph.Block.{Block}
use Rattle.vx_flow.specs.declared.graph.Graph.{Graph}
use Rattle.vx_flow.specs.declared.graph.Edge.{Edge}
use Rattle.vx_flow.specs.Effects.{IsIn}
use Rattle.vx_flow.specs.Sound.{Leads, targets_of}
use Rattle.vx_flow.specs.Walk.{ascending, edge}
use Rattle.vx_flow.proofs.Members.{in_left, in_right, in_either}
use Rattle.vx_flow.proofs.SoundLists.{any_of, any_in}
use Rattle.vx_lower.specs.FlowOf.{EndsBy}
use Rattle.vx_shape.specs.Shape.{Shaped}
use Rattle.vx_inline.specs.Inlined.{is_among, sides, entries, critical, behind, edge_block, relinked_exit, relinked, with_edges}
use Rattle.vx_inline.proofs.Renaming.{unequal}
use Rattle.vx_inline.proofs.Depth.{get_in}
use Rattle.vx_inline.proofs.Numbering.{get_take, get_drop, there, trap_at}
use Rattle.vx_inline.proofs.Rests.{longer}

-- ---- lists, from what stands there

pub get_either : {A : Type 0} (xs ys : List A) (i : ℕ) (z : A) → slice_get (xs ++ ys) i ≡ Some z → ((i < length xs) × (slice_get xs i ≡ Some z)) ⊎ ((k : ℕ) × (i ≡ length xs + k) × (slice_get ys k ≡ Some z))
get_either [] ys i z e = inr (i, (let q : i ≡ 0 + i = omega arith in q), e)
get_either (x ∷ xs) ys zero z e = inl ((let l : 0 < length (x ∷ xs) = omega arith in l), e)
get_either (x ∷ xs) ys (suc i) z e = by (get_either xs ys i z e)
  where
    by : ((i < length xs) × (slice_get xs i ≡ Some z)) ⊎ ((k : ℕ) × (i ≡ length xs + k) × (slice_get ys k ≡ Some z)) →
        ((suc i < length (x ∷ xs)) × (slice_get xs i ≡ Some z)) ⊎ ((k : ℕ) × (suc i ≡ length (x ∷ xs) + k) × (slice_get ys k ≡ Some z))
    by (inl r) = let l : i < length xs = r.0 in inl (omega (arith, l), r.1)
    by (inr r) = let q : i ≡ length xs + r.0 = r.1 in inr (r.0, omega (arith, q), r.2)

pub get_map : {A B : Type 0} (f : A → B) (xs : List A) (i : ℕ) (y : B) → slice_get (map f xs) i ≡ Some y → (x : A) × (slice_get xs i ≡ Some x) × (f x ≡ y)
get_map f [] i y e = absurd (cc)
get_map f (x ∷ xs) zero y e = (x, refl, let q : f x ≡ y = cc in q)
get_map f (x ∷ xs) (suc i) y e = get_map f xs i y e

pub get_filter : {A : Type 0} (p : A → Bool) (xs : List A) (i : ℕ) (y : A) → slice_get (filter p xs) i ≡ Some y → (b : ℕ) × (slice_get xs b ≡ Some y) × (p y ≡ true)
get_filter p [] i y e = absurd (cc)
get_filter {A} p (x ∷ xs) i y e = by (p x) refl i e (λ j d. get_filter p xs j y d)
  where
    by : (t : Bool) → p x ≡ t → (j : ℕ) → slice_get (cond t (x ∷ filter p xs) (filter p xs)) j ≡ Some y → ((k : ℕ) → slice_get (filter p xs) k ≡ Some y → (b : ℕ) × (slice_get xs b ≡ Some y) × (p y ≡ true)) →
        (b : ℕ) × (slice_get (x ∷ xs) b ≡ Some y) × (p y ≡ true)
    by true h zero d k = let q : x ≡ y = cc in (0, ap Some q, ap p (sym q) ∙ h)
    by true h (suc j) d k = let r = k j d in (suc r.0, r.1, r.2)
    by false h j d k = let r = k j d in (suc r.0, r.1, r.2)

pub in_there : {A : Type 0} (xs : List A) (x : A) → IsIn x xs → (i : ℕ) × (slice_get xs i ≡ Some x)
in_there [] x m = absurd m
in_there (y ∷ ys) x (inl e) = (0, ap Some (sym e))
in_there (y ∷ ys) x (inr m) = let r = in_there ys x m in (suc r.0, r.1)

filter_here : {A : Type 0} (p : A → Bool) (xs : List A) (x : A) → IsIn x xs → p x ≡ true → IsIn x (filter p xs)
filter_here p [] x m h = absurd m
filter_here p (y ∷ ys) x m h = by (p y) refl m (filter_here p ys x)
  where
    by : (t : Bool) → p y ≡ t → IsIn x (y ∷ ys) → (IsIn x ys → p x ≡ true → IsIn x (filter p ys)) → IsIn x (cond t (y ∷ filter p ys) (filter p ys))
    by true e (inl q) k = inl q
    by true e (inr n) k = inr (k n h)
    by false e (inl q) k = absurd (false≢true (sym e ∙ ap p (sym q) ∙ h))
    by false e (inr n) k = k n h

filter_from : {A : Type 0} (p : A → Bool) (xs : List A) (x : A) → IsIn x (filter p xs) → IsIn x xs × (p x ≡ true)
filter_from p [] x m = absurd m
filter_from p (y ∷ ys) x m = by (p y) refl m (filter_from p ys x)
  where
    by : (t : Bool) → p y ≡ t → IsIn x (cond t (y ∷ filter p ys) (filter p ys)) → (IsIn x (filter p ys) → IsIn x ys × (p x ≡ true)) → IsIn x (y ∷ ys) × (p x ≡ true)
    by true e (inl q) k = (inl q, ap p q ∙ e)
    by true e (inr n) k = let r = k n in (inr r.0, r.1)
    by false e n k = let r = k n in (inr r.0, r.1)

map_here : {A B : Type 0} (f : A → B) (xs : List A) (x : A) → IsIn x xs → IsIn (f x) (map f xs)
map_here f [] x m = absurd m
map_here f (y ∷ ys) x (inl e) = inl (ap f e)
map_here f (y ∷ ys) x (inr m) = inr (map_here f ys x m)

pub map_from : {A B : Type 0} (f : A → B) (xs : List A) (y : B) → IsIn y (map f xs) → (x : A) × IsIn x xs × (y ≡ f x)
map_from f [] y m = absurd m
map_from f (x ∷ xs) y (inl e) = (x, inl refl, e)
map_from f (x ∷ xs) y (inr m) = let r = map_from f xs y m in (r.0, inr r.1, r.2)

filter_some : {A : Type 0} (p : A → Bool) (xs : List A) (i : ℕ) (x : A) → slice_get xs i ≡ Some x → p x ≡ true → 0 < length (filter p xs)
filter_some p [] i x e h = absurd (cc)
filter_some p (y ∷ ys) zero x e h =
    let q : y ≡ x = cc in
    let t : p y ≡ true = ap p q ∙ h in
    let l : 0 < length (y ∷ filter p ys) = omega arith in
    subst (λ b. 0 < length (cond b (y ∷ filter p ys) (filter p ys))) (sym t) l
filter_some p (y ∷ ys) (suc i) x e h = by (p y) (filter_some p ys i x e h)
  where
    by : (t : Bool) → 0 < length (filter p ys) → 0 < length (cond t (y ∷ filter p ys) (filter p ys))
    by true l = omega arith
    by false l = l

-- where at most one item is of a kind, two such items stand at one place
pub filter_one : {A : Type 0} (p : A → Bool) (xs : List A) (i j : ℕ) (x y : A) → slice_get xs i ≡ Some x → slice_get xs j ≡ Some y → p x ≡ true → p y ≡ true → length (filter p xs) ≤ 1 → i ≡ j
filter_one p [] i j x y e d h k l = absurd (cc)
filter_one p (z ∷ zs) zero zero x y e d h k l = refl
filter_one p (z ∷ zs) zero (suc j) x y e d h k l =
    let q : z ≡ x = cc in
    let t : p z ≡ true = ap p q ∙ h in
    let two : length (z ∷ filter p zs) ≤ 1 = subst (λ b. length (cond b (z ∷ filter p zs) (filter p zs)) ≤ 1) t l in
    let some : 0 < length (filter p zs) = filter_some p zs j y d k in
    absurd (omega (arith, two, some))
filter_one p (z ∷ zs) (suc i) zero x y e d h k l =
    let q : z ≡ y = cc in
    let t : p z ≡ true = ap p q ∙ k in
    let two : length (z ∷ filter p zs) ≤ 1 = subst (λ b. length (cond b (z ∷ filter p zs) (filter p zs)) ≤ 1) t l in
    let some : 0 < length (filter p zs) = filter_some p zs i x e h in
    absurd (omega (arith, two, some))
filter_one p (z ∷ zs) (suc i) (suc j) x y e d h k l = ap suc (filter_one p zs i j x y e d h k (by (p z) l))
  where
    by : (t : Bool) → length (cond t (z ∷ filter p zs) (filter p zs)) ≤ 1 → length (filter p zs) ≤ 1
    by true l = omega (arith, l)
    by false l = l

-- ---- the edges

ascending_left : (c d : ℕ) → IsIn c (ascending c d)
ascending_left c d = by (c == d) (nat_lt c d)
  where
    by : (s t : Bool) → IsIn c (cond s (c ∷ []) (cond t (c ∷ d ∷ []) (d ∷ c ∷ [])))
    by true t = inl refl
    by false true = inl refl
    by false false = inr (inl refl)

ascending_right : (c d : ℕ) → IsIn d (ascending c d)
ascending_right c d = by (c == d) refl (nat_lt c d)
  where
    by : (s : Bool) → (c == d) ≡ s → (t : Bool) → IsIn d (cond s (c ∷ []) (cond t (c ∷ d ∷ []) (d ∷ c ∷ [])))
    by true e t = inl (sym (eqb-true c d e))
    by false e true = inr (inl refl)
    by false e false = inl refl

side_there : (p c d w : ℕ) → (c ≡ d → ⊥) → IsIn w (targets_of (Split p c d)) → IsIn w (sides (Split p c d))
side_there p c d w n m =
    let q : (c == d) ≡ false = unequal c d n in
    subst (λ t. IsIn w (cond t [] (ascending c d))) (sym q) (by m)
  where
    by : IsIn w (c ∷ d ∷ []) → IsIn w (ascending c d)
    by (inl e) = subst (λ z. IsIn z (ascending c d)) (sym e) (ascending_left c d)
    by (inr (inl e)) = subst (λ z. IsIn z (ascending c d)) (sym e) (ascending_right c d)
    by (inr (inr z)) = absurd z

-- each edge that has a block leads to where two blocks lead
critical_enters : (all : List Block) (i : ℕ) (blocks : List Block) (e : Edge) → IsIn e (critical all i blocks) → nat_lt 1 (entries all e.to) ≡ true
critical_enters all i [] e m = absurd m
critical_enters all i (b ∷ bs) e m = by (in_either e (map (edge i) (filter (λ c. nat_lt 1 (entries all c)) (sides b.exit))) (critical all (suc i) bs) m) (critical_enters all (suc i) bs e)
  where
    by : IsIn e (map (edge i) (filter (λ c. nat_lt 1 (entries all c)) (sides b.exit))) ⊎ IsIn e (critical all (suc i) bs) → (IsIn e (critical all (suc i) bs) → nat_lt 1 (entries all e.to) ≡ true) → nat_lt 1 (entries all e.to) ≡ true
    by (inl n) k =
        let r = map_from (edge i) (filter (λ c. nat_lt 1 (entries all c)) (sides b.exit)) e n in
        let f = filter_from (λ c. nat_lt 1 (entries all c)) (sides b.exit) r.0 r.1 in
        ap (λ (x : Edge). nat_lt 1 (entries all x.to)) r.2 ∙ f.1
    by (inr n) k = k n

-- and each edge from a block with two successors to where two blocks lead has one
critical_has : (all : List Block) (i : ℕ) (blocks : List Block) (x w : ℕ) (b : Block) → slice_get blocks x ≡ Some b → IsIn w (sides b.exit) → nat_lt 1 (entries all w) ≡ true → IsIn (edge (i + x) w) (critical all i blocks)
critical_has all i [] x w b e m h = absurd (cc)
critical_has all i (y ∷ ys) zero w b e m h =
    let q : y ≡ b = cc in
    let here : IsIn w (filter (λ c. nat_lt 1 (entries all c)) (sides y.exit)) = filter_here (λ c. nat_lt 1 (entries all c)) (sides y.exit) w (subst (λ (z : Block). IsIn w (sides z.exit)) (sym q) m) h in
    let n : i ≡ i + 0 = omega arith in
    in_left (edge (i + 0) w) (map (edge i) (filter (λ c. nat_lt 1 (entries all c)) (sides y.exit))) (critical all (suc i) ys)
    (subst (λ j. IsIn (edge j w) (map (edge i) (filter (λ c. nat_lt 1 (entries all c)) (sides y.exit)))) n (map_here (edge i) (filter (λ c. nat_lt 1 (entries all c)) (sides y.exit)) w here))
critical_has all i (y ∷ ys) (suc x) w b e m h =
    let n : suc i + x ≡ i + suc x = omega arith in
    in_right (edge (i + suc x) w) (map (edge i) (filter (λ c. nat_lt 1 (entries all c)) (sides y.exit))) (critical all (suc i) ys)
    (subst (λ j. IsIn (edge j w) (critical all (suc i) ys)) n (critical_has all (suc i) ys x w b e m h))

ascending_from : (c d w : ℕ) → IsIn w (ascending c d) → IsIn w (c ∷ d ∷ [])
ascending_from c d w m = by (c == d) (nat_lt c d) m
  where
    by : (s t : Bool) → IsIn w (cond s (c ∷ []) (cond t (c ∷ d ∷ []) (d ∷ c ∷ []))) → IsIn w (c ∷ d ∷ [])
    by true t (inl e) = inl e
    by true t (inr z) = absurd z
    by false true n = n
    by false false (inl e) = inr (inl e)
    by false false (inr (inl e)) = inl e
    by false false (inr (inr z)) = absurd z

side_leads : (exit : Exit) (w : ℕ) → IsIn w (sides exit) → IsIn w (targets_of exit)
side_leads (Goto c) w m = absurd m
side_leads (Split p c d) w m = by (c == d) m
  where
    by : (t : Bool) → IsIn w (cond t [] (ascending c d)) → IsIn w (c ∷ d ∷ [])
    by true n = absurd n
    by false n = ascending_from c d w n
side_leads (Call f xs result c) w m = absurd m
side_leads (Return x) w m = absurd m
side_leads (Ends k) w m = absurd m

-- it leads where a block did
critical_leads : (all : List Block) (i : ℕ) (blocks : List Block) (e : Edge) → IsIn e (critical all i blocks) → (b : Block) × IsIn b blocks × IsIn e.to (targets_of b.exit)
critical_leads all i [] e m = absurd m
critical_leads all i (b ∷ bs) e m = by (in_either e (map (edge i) (filter (λ c. nat_lt 1 (entries all c)) (sides b.exit))) (critical all (suc i) bs) m) (critical_leads all (suc i) bs e)
  where
    by : IsIn e (map (edge i) (filter (λ c. nat_lt 1 (entries all c)) (sides b.exit))) ⊎ IsIn e (critical all (suc i) bs) → (IsIn e (critical all (suc i) bs) → (b : Block) × IsIn b bs × IsIn e.to (targets_of b.exit)) → (x : Block) × IsIn x (b ∷ bs) × IsIn e.to (targets_of x.exit)
    by (inl n) k =
        let r = map_from (edge i) (filter (λ c. nat_lt 1 (entries all c)) (sides b.exit)) e n in
        let f = filter_from (λ c. nat_lt 1 (entries all c)) (sides b.exit) r.0 r.1 in
        (b, inl refl, subst (λ (x : Edge). IsIn x.to (targets_of b.exit)) (sym r.2) (side_leads b.exit r.0 f.0))
    by (inr n) k = let r = k n in (r.0, inr r.1, r.2)

-- the edge of its own, or none
pub record OverEdge (x c place : ℕ) (es : List Edge) (other : ℕ) : Type 0 where
  pub edge : Edge
  pub j : ℕ
  pub has : slice_get es j ≡ Some edge
  pub from : edge.from ≡ x
  pub leads : edge.to ≡ c
  pub is : edge_block x c place es other ≡ place + j

pub record NoEdge (x c place : ℕ) (es : List Edge) (other : ℕ) : Type 0 where
  pub none : (e : Edge) → IsIn e es → e.from ≡ x → e.to ≡ c → ⊥
  pub is : edge_block x c place es other ≡ other

pub over_or_not : (x c place : ℕ) (es : List Edge) (other : ℕ) → NoEdge x c place es other ⊎ OverEdge x c place es other
over_or_not x c place [] other = inl (record { none = λ e m f t. m; is = refl })
over_or_not x c place (e ∷ es) other = by ((e.from == x) && (e.to == c)) refl (over_or_not x c (suc place) es other)
  where
    by : (t : Bool) → ((e.from == x) && (e.to == c)) ≡ t → NoEdge x c (suc place) es other ⊎ OverEdge x c (suc place) es other → NoEdge x c place (e ∷ es) other ⊎ OverEdge x c place (e ∷ es) other
    by true h r =
        let parts = and_parts (e.from == x) (e.to == c) h in
        inr (record { edge = e; j = 0; has = refl; from = eqb-true e.from x parts.0; leads = eqb-true e.to c parts.1; is = ap (λ t. cond t place (edge_block x c (suc place) es other)) h ∙ (let n : place ≡ place + 0 = omega arith in n) })
    by false h (inl r) = inl (record {
      none = λ k m f t. elim m [ inl q ↦ false≢true (sym h ∙ both_true (eq-eqb e.from x (ap (λ (z : Edge). z.from) (sym q) ∙ f)) (eq-eqb e.to c (ap (λ (z : Edge). z.to) (sym q) ∙ t))) | inr n ↦ r.none k n f t ];
      is = ap (λ t. cond t place (edge_block x c (suc place) es other)) h ∙ r.is;
    })
    by false h (inr r) =
        let n : suc place + r.j ≡ place + suc r.j = omega arith in
        inr (record { edge = r.edge; j = suc r.j; has = r.has; from = r.from; leads = r.leads; is = ap (λ t. cond t place (edge_block x c (suc place) es other)) h ∙ r.is ∙ n })

relinked_from : (m : ℕ) (es : List Edge) (i : ℕ) (blocks : List Block) (x : ℕ) (block : Block) → slice_get (relinked m es i blocks) x ≡ Some block → (old : Block) × (slice_get blocks x ≡ Some old) × (block ≡ record old { exit = relinked_exit m es (i + x) old.exit })
relinked_from m es i [] x block e = absurd (cc)
relinked_from m es i (b ∷ bs) zero block e =
    let n : i ≡ i + 0 = omega arith in
    let q : record b { exit = relinked_exit m es i b.exit } ≡ block = cc in
    (b, refl, sym q ∙ ap (λ j. record b { exit = relinked_exit m es j b.exit }) n)
relinked_from m es i (b ∷ bs) (suc x) block e =
    let r = relinked_from m es (suc i) bs x block e in
    let n : suc i + x ≡ i + suc x = omega arith in
    (r.0, r.1, r.2 ∙ ap (λ j. record r.0 { exit = relinked_exit m es j r.0.exit }) n)

relinked_count : (m : ℕ) (es : List Edge) (i : ℕ) (blocks : List Block) → length (relinked m es i blocks) ≡ length blocks
relinked_count m es i [] = refl
relinked_count m es i (b ∷ bs) = ap suc (relinked_count m es (suc i) bs)

take_count : {A : Type 0} (m : ℕ) (xs : List A) → m ≤ length xs → length (take m xs) ≡ m
take_count zero xs l = refl
take_count (suc m) [] l = absurd (omega arith)
take_count (suc m) (x ∷ xs) l = ap suc (take_count m xs (omega arith))

-- ---- what is asked of the blocks before there are blocks for edges

pub record Rowed (m : ℕ) (S : List Block) : Type 0 where
  pub long : m ≤ length S
  -- trap blocks alone from place m on
  pub tail : (i : ℕ) (block : Block) → slice_get S (m + i) ≡ Some block → (k : Trap) × (block ≡ trap_at k)

-- and what is asked besides where the graph is to have its shape
pub record Ready (m : ℕ) (S : List Block) : Type 0 where
  pub some : 0 < m
  -- no trap before place m, and each kind once from there on
  pub plain : (x : ℕ) (block : Block) (k : Trap) → x < m → slice_get S x ≡ Some block → block.exit ≡ Ends k → ⊥
  pub alone : (i j : ℕ) (k : Trap) → slice_get S (m + i) ≡ Some (trap_at k) → slice_get S (m + j) ≡ Some (trap_at k) → i ≡ j
  pub short : (x : ℕ) (block : Block) → slice_get S x ≡ Some block → length block.ops ≤ 512
  pub apart : (x : ℕ) (block : Block) (p y z : ℕ) → slice_get S x ≡ Some block → block.exit ≡ Split p y z → y ≡ z → ⊥
  pub entry : (x : ℕ) → Leads S x 0 → ⊥

module _ (m : ℕ) (S : List Block) (rowed : Rowed m S) where
  abbrev es : List Edge
  es = critical S 0 S

  abbrev n : ℕ
  n = length es

  abbrev F : List Block
  F = with_edges m es S

  abbrev to_behind : Edge → Block
  to_behind e = record { ops = []; exit = Goto (behind m n e.to) }

  -- ---- where a block of these comes from

  pub record Kept (x : ℕ) (block : Block) : Type 0 where
    pub low : x < m
    pub old : Block
    pub has : slice_get S x ≡ Some old
    pub is : block ≡ record old { exit = relinked_exit m es x old.exit }

  pub record AnEdge (x : ℕ) (block : Block) : Type 0 where
    pub j : ℕ
    pub e : Edge
    pub place : x ≡ m + j
    pub has : slice_get es j ≡ Some e
    pub is : block ≡ to_behind e

  pub record ATrap (x : ℕ) (block : Block) : Type 0 where
    pub j : ℕ
    pub place : x ≡ m + n + j
    pub has : slice_get S (m + j) ≡ Some block

  pub from_where : (x : ℕ) (block : Block) → slice_get (with_edges m (critical S 0 S) S) x ≡ Some block → Kept x block ⊎ (AnEdge x block ⊎ ATrap x block)
  from_where x block e = by (get_either (relinked m es 0 (take m S)) (map to_behind es ++ drop m S) x block e)
    where
      front_count : length (relinked m es 0 (take m S)) ≡ m
      front_count = relinked_count m es 0 (take m S) ∙ take_count m S rowed.long

      behind_front : (k : ℕ) → x ≡ m + k → ((k < length (map to_behind es)) × (slice_get (map to_behind es) k ≡ Some block)) ⊎ ((i : ℕ) × (k ≡ length (map to_behind es) + i) × (slice_get (drop m S) i ≡ Some block)) → Kept x block ⊎ (AnEdge x block ⊎ ATrap x block)
      behind_front k q (inl r) = let w = get_map to_behind es k block r.1 in inr (inl (record { j = k; e = w.0; place = q; has = w.1; is = sym w.2 }))
      behind_front k q (inr r) =
          let len : length (map to_behind es) ≡ n = length-map es to_behind in
          let a : k ≡ length (map to_behind es) + r.0 = r.1 in
          inr (inr (record { j = r.0; place = omega (arith, q, len, a); has = sym (get_drop m S r.0) ∙ r.2 }))

      by : ((x < length (relinked m es 0 (take m S))) × (slice_get (relinked m es 0 (take m S)) x ≡ Some block)) ⊎ ((k : ℕ) × (x ≡ length (relinked m es 0 (take m S)) + k) × (slice_get (map to_behind es ++ drop m S) k ≡ Some block)) →
          Kept x block ⊎ (AnEdge x block ⊎ ATrap x block)
      by (inl r) =
          let len : length (relinked m es 0 (take m S)) ≡ m = front_count in
          let l : x < length (relinked m es 0 (take m S)) = r.0 in
          let low : x < m = omega (arith, l, len) in
          let w = relinked_from m es 0 (take m S) x block r.1 in
          let z : 0 + x ≡ x = omega arith in
          inl (record { low = low; old = w.0; has = sym (get_take m S x low) ∙ w.1; is = w.2 ∙ ap (λ j. record w.0 { exit = relinked_exit m es j w.0.exit }) z })
      by (inr r) =
          let len : length (relinked m es 0 (take m S)) ≡ m = front_count in
          let a : x ≡ length (relinked m es 0 (take m S)) + r.0 = r.1 in
          behind_front r.0 (omega (arith, a, len)) (get_either (map to_behind es) (drop m S) r.0 block r.2)

  -- ---- places

  data Behind (y : ℕ) : Type 0 where
    low : y < m → behind m n y ≡ y → Behind y
    high : m ≤ y → behind m n y ≡ y + n → Behind y

  behind_is : (y : ℕ) → Behind y
  behind_is y = by (nat_lt y m) refl
    where
      by : (t : Bool) → nat_lt y m ≡ t → Behind y
      by true e = low (ltb-true y m e) (ap (λ t. cond t y (y + n)) e)
      by false e = high (ltb-false y m e) (ap (λ t. cond t y (y + n)) e)

  behind_one : (y z : ℕ) → behind m n y ≡ behind m n z → y ≡ z
  behind_one y z e = by (behind_is y) (behind_is z)
    where
      by : Behind y → Behind z → y ≡ z
      by (low l p) (low k q) = sym p ∙ e ∙ q
      by (low l p) (high k q) = let r : y ≡ z + n = sym p ∙ e ∙ q in absurd (omega (arith, l, k, r))
      by (high l p) (low k q) = let r : y + n ≡ z = sym p ∙ e ∙ q in absurd (omega (arith, l, k, r))
      by (high l p) (high k q) = let r : y + n ≡ z + n = sym p ∙ e ∙ q in omega (arith, r)

  -- no block of an edge stands there
  not_edge : (y j : ℕ) → j < n → behind m n y ≡ m + j → ⊥
  not_edge y j l e = by (behind_is y)
    where
      by : Behind y → ⊥
      by (low k q) = let r : y ≡ m + j = sym q ∙ e in omega (arith, k, r)
      by (high k q) = let r : y + n ≡ m + j = sym q ∙ e in omega (arith, k, r, l)

  abbrev over : (x y : ℕ) → ℕ
  over x y = edge_block x y m es (behind m n y)

  -- an edge goes where the old one does, perhaps over a block of its own
  record Goes (x y d : ℕ) : Type 0 where
    over_or : (d ≡ behind m n y) ⊎ ((e : OverEdge x y m es (behind m n y)) × (d ≡ m + e.j))

  over_goes : (x y : ℕ) → Goes x y (over x y)
  over_goes x y = by (over_or_not x y m es (behind m n y))
    where
      by : NoEdge x y m es (behind m n y) ⊎ OverEdge x y m es (behind m n y) → Goes x y (over x y)
      by (inl k) = record { over_or = inl k.is }
      by (inr k) = record { over_or = inr (k, k.is) }

  -- a target of an exit that was linked anew
  record Target (x : ℕ) (exit : Exit) (d : ℕ) : Type 0 where
    y : ℕ
    old : IsIn y (targets_of exit)
    goes : Goes x y d

  straight : (x y d : ℕ) (exit : Exit) → IsIn y (targets_of exit) → d ≡ behind m n y → Target x exit d
  straight x y d exit k q = record { y = y; old = k; goes = record { over_or = inl q } }

  target_from : (x : ℕ) (exit : Exit) (d : ℕ) → IsIn d (targets_of (relinked_exit m es x exit)) → Target x exit d
  target_from x (Goto c) d (inl e) = straight x c d (Goto c) (inl refl) e
  target_from x (Goto c) d (inr z) = absurd z
  target_from x (Split p c f) d (inl e) = record { y = c; old = inl refl; goes = subst (Goes x c) (sym e) (over_goes x c) }
  target_from x (Split p c f) d (inr (inl e)) = record { y = f; old = inr (inl refl); goes = subst (Goes x f) (sym e) (over_goes x f) }
  target_from x (Split p c f) d (inr (inr z)) = absurd z
  target_from x (Call f xs result c) d (inl e) = straight x c d (Call f xs result c) (inl refl) e
  target_from x (Call f xs result c) d (inr z) = absurd z
  target_from x (Return v) d k = absurd k
  target_from x (Ends k) d z = absurd z

  -- what leads to a place
  record Enters (x d : ℕ) : Type 0 where
    low : x < m
    old : Block
    has : slice_get S x ≡ Some old
    target : Target x old.exit d

  record EdgeEnters (x d : ℕ) : Type 0 where
    j : ℕ
    e : Edge
    has : slice_get es j ≡ Some e
    leads : d ≡ behind m n e.to

  entered_by : (x d : ℕ) → Leads F x d → Enters x d ⊎ EdgeEnters x d
  entered_by x d k = by (from_where x k.block k.has)
    where
      by : Kept x k.block ⊎ (AnEdge x k.block ⊎ ATrap x k.block) → Enters x d ⊎ EdgeEnters x d
      by (inl r) = inl (record { low = r.low; old = r.old; has = r.has; target = target_from x r.old.exit d (subst (λ (b : Block). IsIn d (targets_of b.exit)) r.is k.leads) })
      by (inr (inl r)) = inr (record { j = r.j; e = r.e; has = r.has; leads = elim (subst (λ (b : Block). IsIn d (targets_of b.exit)) r.is k.leads) [ inl q ↦ q | inr z ↦ absurd z ] })
      by (inr (inr r)) =
          let t = rowed.tail r.j k.block r.has in
          let z : IsIn d (targets_of (Ends t.0)) = subst (λ (b : Block). IsIn d (targets_of b.exit)) t.1 k.leads in
          absurd z

  -- ---- no edge is critical

  leads_to : (y : ℕ) → Block → Bool
  leads_to y block = is_among (targets_of block.exit) y

  among : (ys : List ℕ) (y : ℕ) → IsIn y ys → is_among ys y ≡ true
  among ys y k = any_of (λ u. u == y) ys y k (eq-eqb y y refl)

  -- two blocks that lead to one, where no more than one does
  same_block : (b x w : ℕ) (old other : Block) → slice_get S b ≡ Some old → slice_get S x ≡ Some other → IsIn w (targets_of old.exit) → IsIn w (targets_of other.exit) → nat_lt 1 (entries S w) ≡ false → x ≡ b
  same_block b x w old other e d k l h =
      let few : entries S w ≤ 1 = ltb-false 1 (entries S w) h in
      filter_one (λ block. is_among (targets_of block.exit) w) S x b other old d e (among (targets_of other.exit) w l) (among (targets_of old.exit) w k) few

  edge_same : (j i : ℕ) (e f : Edge) → slice_get es j ≡ Some e → slice_get es i ≡ Some f → j ≡ i → e ≡ f
  edge_same j i e f p q r = let k : Some e ≡ Some f = sym p ∙ ap (slice_get es) r ∙ q in cc

  edge_low : (j : ℕ) (e : Edge) → slice_get es j ≡ Some e → j < n
  edge_low j e p = slice_get_within es j e p

  record Sides (b : ℕ) (c d : ℕ) : Type 0 where
    p : ℕ
    y : ℕ
    z : ℕ
    old : Block
    low : b < m
    has : slice_get S b ≡ Some old
    exit : old.exit ≡ Split p y z
    first : IsIn c (over b y ∷ over b z ∷ [])
    second : IsIn d (over b y ∷ over b z ∷ [])

  one_target : (x c d : ℕ) → IsIn c (x ∷ []) → IsIn d (x ∷ []) → c ≡ d
  one_target x c d (inl e) (inl f) = e ∙ sym f
  one_target x c d (inl e) (inr z) = absurd z
  one_target x c d (inr z) k = absurd z

  -- two edges leave a block
  two_sides : (b c d : ℕ) → Leads F b c → Leads F b d → (c ≡ d → ⊥) → Sides b c d
  two_sides b c d k l w = by (from_where b k.block k.has) (subst (λ (x : Block). IsIn d (targets_of x.exit)) (sym same) l.leads)
    where
      same : k.block ≡ l.block
      same = let q : Some k.block ≡ Some l.block = sym k.has ∙ l.has in cc

      by_exit : (old : Block) → b < m → slice_get S b ≡ Some old → (exit : Exit) → old.exit ≡ exit → IsIn c (targets_of (relinked_exit m es b exit)) → IsIn d (targets_of (relinked_exit m es b exit)) → Sides b c d
      by_exit old lo h (Goto x) e i j = absurd (w (one_target (behind m n x) c d i j))
      by_exit old lo h (Split p y z) e i j = record { p = p; y = y; z = z; old = old; low = lo; has = h; exit = e; first = i; second = j }
      by_exit old lo h (Call f xs result x) e i j = absurd (w (one_target (behind m n x) c d i j))
      by_exit old lo h (Return v) e i j = absurd i
      by_exit old lo h (Ends t) e i j = absurd i

      by : Kept b k.block ⊎ (AnEdge b k.block ⊎ ATrap b k.block) → IsIn d (targets_of k.block.exit) → Sides b c d
      by (inl r) j = by_exit r.old r.low r.has r.old.exit refl (subst (λ (x : Block). IsIn c (targets_of x.exit)) r.is k.leads) (subst (λ (x : Block). IsIn d (targets_of x.exit)) r.is j)
      by (inr (inl r)) j = absurd (w (one_target (behind m n r.e.to) c d (subst (λ (x : Block). IsIn c (targets_of x.exit)) r.is k.leads) (subst (λ (x : Block). IsIn d (targets_of x.exit)) r.is j)))
      by (inr (inr r)) j =
          let t = rowed.tail r.j k.block r.has in
          let z : IsIn c (targets_of (Ends t.0)) = subst (λ (x : Block). IsIn c (targets_of x.exit)) t.1 k.leads in
          absurd z

  -- the second of them goes to side w
  record Side (b d : ℕ) : Type 0 where
    w : ℕ
    old : Block
    has : slice_get S b ≡ Some old
    side : IsIn w (sides old.exit)
    target : IsIn w (targets_of old.exit)
    goes : d ≡ over b w

  side_of : (b c d : ℕ) → Sides b c d → (c ≡ d → ⊥) → Side b d
  side_of b c d s w = by s.second
    where
      differ : s.y ≡ s.z → ⊥
      differ e = w (two s.first s.second)
        where
          two : IsIn c (over b s.y ∷ over b s.z ∷ []) → IsIn d (over b s.y ∷ over b s.z ∷ []) → c ≡ d
          two i j = one_target (over b s.y) c d (one i) (one j)
            where
              one : {x : ℕ} → IsIn x (over b s.y ∷ over b s.z ∷ []) → IsIn x (over b s.y ∷ [])
              one (inl q) = inl q
              one (inr (inl q)) = inl (q ∙ ap (over b) (sym e))
              one (inr (inr q)) = absurd q

      made : (v : ℕ) → IsIn v (targets_of (Split s.p s.y s.z)) → d ≡ over b v → Side b d
      made v i q = record {
        w = v;
        old = s.old;
        has = s.has;
        side = subst (λ x. IsIn v (sides x)) (sym s.exit) (side_there s.p s.y s.z v differ i);
        target = subst (λ x. IsIn v (targets_of x)) (sym s.exit) i;
        goes = q;
      }

      by : IsIn d (over b s.y ∷ over b s.z ∷ []) → Side b d
      by (inl q) = made s.y (inl refl) q
      by (inr (inl q)) = made s.z (inr (inl refl)) q
      by (inr (inr q)) = absurd q

  -- where the edge has a block of its own, only it leads there
  over_alone : (b w x d : ℕ) (o : OverEdge b w m es (behind m n w)) → d ≡ m + o.j → Enters x d ⊎ EdgeEnters x d → x ≡ b
  over_alone b w x d o q (inl k) = by k.target.goes.over_or
    where
      by : (d ≡ behind m n k.target.y) ⊎ ((e : OverEdge x k.target.y m es (behind m n k.target.y)) × (d ≡ m + e.j)) → x ≡ b
      by (inl e) = absurd (not_edge k.target.y o.j (edge_low o.j o.edge o.has) (sym e ∙ q))
      by (inr e) =
          let r : m + e.0.j ≡ m + o.j = sym e.1 ∙ q in
          let same : e.0.edge ≡ o.edge = edge_same e.0.j o.j e.0.edge o.edge e.0.has o.has (omega (arith, r)) in
          sym e.0.from ∙ ap (λ (z : Edge). z.from) same ∙ o.from
  over_alone b w x d o q (inr k) = absurd (not_edge k.e.to o.j (edge_low o.j o.edge o.has) (sym k.leads ∙ q))

  -- where it has none, no other block led there
  straight_alone : (b w x d : ℕ) (s : Side b d) → s.w ≡ w → NoEdge b w m es (behind m n w) → d ≡ behind m n w → Enters x d ⊎ EdgeEnters x d → x ≡ b
  straight_alone b w x d s i o q k = by (nat_lt 1 (entries S w)) refl k
    where
      enters_same : (k : Enters x d) → nat_lt 1 (entries S w) ≡ false → (d ≡ behind m n k.target.y) ⊎ ((e : OverEdge x k.target.y m es (behind m n k.target.y)) × (d ≡ m + e.j)) → x ≡ b
      enters_same k h (inl e) =
          let same : k.target.y ≡ w = behind_one k.target.y w (sym e ∙ q) in
          same_block b x w s.old k.old s.has k.has (subst (λ v. IsIn v (targets_of s.old.exit)) i s.target) (subst (λ v. IsIn v (targets_of k.old.exit)) same k.target.old) h
      enters_same k h (inr e) = absurd (not_edge w e.0.j (edge_low e.0.j e.0.edge e.0.has) (sym q ∙ e.1))

      by : (t : Bool) → nat_lt 1 (entries S w) ≡ t → Enters x d ⊎ EdgeEnters x d → x ≡ b
      by true h k =
          let z : 0 + b ≡ b = omega arith in
          let m1 : IsIn (edge (0 + b) w) (critical S 0 S) = critical_has S 0 S b w s.old s.has (subst (λ v. IsIn v (sides s.old.exit)) i s.side) h in
          absurd (o.none (edge (0 + b) w) m1 z refl)
      by false h (inl k) = enters_same k h k.target.goes.over_or
      by false h (inr k) =
          let same : k.e.to ≡ w = behind_one k.e.to w (sym k.leads ∙ q) in
          let two : nat_lt 1 (entries S k.e.to) ≡ true = critical_enters S 0 S k.e (in_get k.j k.e k.has) in
          absurd (false≢true (sym h ∙ ap (λ v. nat_lt 1 (entries S v)) (sym same) ∙ two))
        where
          in_get : (j : ℕ) (e : Edge) → slice_get es j ≡ Some e → IsIn e (critical S 0 S)
          in_get j e h = get_in es j e h

  pub no_critical : (b c d x : ℕ) → Leads (with_edges m (critical S 0 S) S) b c → Leads (with_edges m (critical S 0 S) S) b d → (c ≡ d → ⊥) → Leads (with_edges m (critical S 0 S) S) x d → x ≡ b
  no_critical b c d x k l w k2 = by (over_or_not b s.w m es (behind m n s.w))
    where
      s : Side b d
      s = side_of b c d (two_sides b c d k l w) w

      by : NoEdge b s.w m es (behind m n s.w) ⊎ OverEdge b s.w m es (behind m n s.w) → x ≡ b
      by (inl o) = straight_alone b s.w x d s refl o (s.goes ∙ o.is) (entered_by x d k2)
      by (inr o) = over_alone b s.w x d o (s.goes ∙ o.is) (entered_by x d k2)

  -- ---- the rest of the shape

  over_one : (x y z : ℕ) → over x y ≡ over x z → y ≡ z
  over_one x y z e = by (over_or_not x y m es (behind m n y)) (over_or_not x z m es (behind m n z))
    where
      by : NoEdge x y m es (behind m n y) ⊎ OverEdge x y m es (behind m n y) → NoEdge x z m es (behind m n z) ⊎ OverEdge x z m es (behind m n z) → y ≡ z
      by (inl k) (inl l) = behind_one y z (sym k.is ∙ e ∙ l.is)
      by (inl k) (inr l) = absurd (not_edge y l.j (edge_low l.j l.edge l.has) (sym k.is ∙ e ∙ l.is))
      by (inr k) (inl l) = absurd (not_edge z k.j (edge_low k.j k.edge k.has) (sym l.is ∙ sym e ∙ k.is))
      by (inr k) (inr l) =
          let r : m + k.j ≡ m + l.j = sym k.is ∙ e ∙ l.is in
          sym k.leads ∙ ap (λ (w : Edge). w.to) (edge_same k.j l.j k.edge l.edge k.has l.has (omega (arith, r))) ∙ l.leads

  apart_still : (x : ℕ) (exit : Exit) (p y z : ℕ) → ((q u v : ℕ) → exit ≡ Split q u v → u ≡ v → ⊥) → relinked_exit m es x exit ≡ Split p y z → y ≡ z → ⊥
  apart_still x (Goto c) p y z k e d = cc
  apart_still x (Split q u v) p y z k e d =
      let a : over x u ≡ y = cc in
      let b : over x v ≡ z = cc in
      k q u v refl (over_one x u v (a ∙ d ∙ sym b))
  apart_still x (Call f xs result c) p y z k e d = cc
  apart_still x (Return v) p y z k e d = cc
  apart_still x (Ends t) p y z k e d = cc

  ends_still : (x : ℕ) (exit : Exit) (k : Trap) → relinked_exit m es x exit ≡ Ends k → exit ≡ Ends k
  ends_still x (Goto c) k e = absurd (cc)
  ends_still x (Split q u v) k e = absurd (cc)
  ends_still x (Call f xs result c) k e = absurd (cc)
  ends_still x (Return v) k e = absurd (cc)
  ends_still x (Ends t) k e = e

  module _ (ready : Ready m S) where
    -- a trap is one of the tail
    trap_from : (x : ℕ) (k : Trap) (e : EndsBy (record { blocks = F; banks = []; parameters = []; arrays = [] }) x k) → (j : ℕ) × (x ≡ m + n + j) × (slice_get S (m + j) ≡ Some (trap_at k)) × (e.block ≡ trap_at k)
    trap_from x k e = by (from_where x e.block e.has)
      where
        by : Kept x e.block ⊎ (AnEdge x e.block ⊎ ATrap x e.block) → (j : ℕ) × (x ≡ m + n + j) × (slice_get S (m + j) ≡ Some (trap_at k)) × (e.block ≡ trap_at k)
        by (inl r) = absurd (ready.plain x r.old k r.low r.has (ends_still x r.old.exit k (ap (λ (b : Block). b.exit) (sym r.is) ∙ e.ends)))
        by (inr (inl r)) = let q : Goto (behind m n r.e.to) ≡ Ends k = ap (λ (b : Block). b.exit) (sym r.is) ∙ e.ends in absurd (cc)
        by (inr (inr r)) =
            let t = rowed.tail r.j e.block r.has in
            let q : Ends t.0 ≡ Ends k = ap (λ (b : Block). b.exit) (sym t.1) ∙ e.ends in
            let same : t.0 ≡ k = cc in
            let is : e.block ≡ trap_at k = t.1 ∙ ap trap_at same in
            (r.j, r.place, r.has ∙ ap Some is, is)

    no_entry : (x : ℕ) → Leads F x 0 → ⊥
    no_entry x k = by (entered_by x 0 k)
      where
        zero_from : (y : ℕ) → behind m n y ≡ 0 → y ≡ 0
        zero_from y e = is (behind_is y)
          where
            is : Behind y → y ≡ 0
            is (low l q) = sym q ∙ e
            is (high l q) =
                let r : y + n ≡ 0 = sym q ∙ e in
                let s : 0 < m = ready.some in
                absurd (omega (arith, l, r, s))

        target_zero : (k : Enters x 0) → (0 ≡ behind m n k.target.y) ⊎ ((e : OverEdge x k.target.y m es (behind m n k.target.y)) × (0 ≡ m + e.j)) → ⊥
        target_zero k (inl e) = ready.entry x (record { block = k.old; has = k.has; leads = subst (λ v. IsIn v (targets_of k.old.exit)) (zero_from k.target.y (sym e)) k.target.old })
        target_zero k (inr e) = let r : 0 ≡ m + e.0.j = e.1 in let s : 0 < m = ready.some in omega (arith, r, s)

        by : Enters x 0 ⊎ EdgeEnters x 0 → ⊥
        by (inl k) = target_zero k k.target.goes.over_or
        by (inr k) =
            let z : k.e.to ≡ 0 = zero_from k.e.to (sym k.leads) in
            let two : nat_lt 1 (entries S k.e.to) ≡ true = critical_enters S 0 S k.e (get_in es k.j k.e k.has) in
            none (entries S k.e.to) (ltb-true 1 (entries S k.e.to) two) (some_leads (entries S k.e.to) refl z)
          where
            none : (i : ℕ) → 1 < i → i ≡ 0 → ⊥
            none i l e = omega (arith, l, e)

            nothing_leads : (blocks : List Block) → ((i : ℕ) (block : Block) → slice_get blocks i ≡ Some block → IsIn 0 (targets_of block.exit) → ⊥) → entries blocks 0 ≡ 0
            nothing_leads blocks h = by_list (filter (λ block. is_among (targets_of block.exit) 0) blocks) refl
              where
                by_list : (xs : List Block) → filter (λ block. is_among (targets_of block.exit) 0) blocks ≡ xs → length xs ≡ 0
                by_list [] e = refl
                by_list (y ∷ ys) e =
                    let f = filter_from (λ block. is_among (targets_of block.exit) 0) blocks y (subst (IsIn y) (sym e) (inl refl)) in
                    let i = in_there blocks y f.0 in
                    let g = any_in (λ u. u == 0) (targets_of y.exit) f.1 in
                    absurd (h i.0 y i.1 (subst (λ v. IsIn v (targets_of y.exit)) (eqb-true g.item 0 g.holds) g.has))

            some_leads : (i : ℕ) → entries S k.e.to ≡ i → k.e.to ≡ 0 → entries S k.e.to ≡ 0
            some_leads i q z = ap (entries S) z ∙ nothing_leads S (λ j block e l. ready.entry j (record { block = block; has = e; leads = l }))

    pub edges_shaped : (g : Graph) → Shaped (record g { blocks = with_edges m (critical S 0 S) S })
    edges_shaped g = record {
      trap_empty = λ b k e. (let r = trap_from b k (record { block = e.block; has = e.has; ends = e.ends }) in ap (λ (x : Block). x.ops) r.3);
      trap_alone = λ b c k e f. (
          let r = trap_from b k (record { block = e.block; has = e.has; ends = e.ends }) in
          let s = trap_from c k (record { block = f.block; has = f.has; ends = f.ends }) in
          let same : r.0 ≡ s.0 = ready.alone r.0 s.0 k r.2 s.2 in
          let p : b ≡ m + n + r.0 = r.1 in
          let q : c ≡ m + n + s.0 = s.1 in
          omega (arith, same, p, q));
      traps_last = λ b c k e lower top. last b c k (record { block = e.block; has = e.has; ends = e.ends }) lower top;
      short = λ b block e. short_still b block e;
      apart = λ b block p y z e d. apart_at b block p y z e d;
      uncritical = λ b c d x k l w k2. no_critical b c d x (record { block = k.block; has = k.has; leads = k.leads }) (record { block = l.block; has = l.has; leads = l.leads }) w (record { block = k2.block; has = k2.has; leads = k2.leads });
      entry = λ b k. no_entry b (record { block = k.block; has = k.has; leads = k.leads });
    }
      where
        last : (b c : ℕ) (k : Trap) → EndsBy (record { blocks = F; banks = []; parameters = []; arrays = [] }) b k → b < c → c < length F → (j : Trap) × EndsBy (record g { blocks = F }) c j
        last b c k e lower top =
            let r = trap_from b k e in
            let p : b ≡ m + n + r.0 = r.1 in
            let x = there F c top in
            by x.0 x.1 (from_where c x.0 x.1) p
          where
            by : (block : Block) → slice_get F c ≡ Some block → Kept c block ⊎ (AnEdge c block ⊎ ATrap c block) → b ≡ m + n + (trap_from b k e).0 → (j : Trap) × EndsBy (record g { blocks = F }) c j
            by block h (inl s) p = let l : c < m = s.low in absurd (omega (arith, l, lower, p))
            by block h (inr (inl s)) p = let q : c ≡ m + s.j = s.place in let l : s.j < n = edge_low s.j s.e s.has in absurd (omega (arith, q, l, lower, p))
            by block h (inr (inr s)) p = let t = rowed.tail s.j block s.has in (t.0, record { block = block; has = h; ends = ap (λ (z : Block). z.exit) t.1 })

        short_still : (b : ℕ) (block : Block) → slice_get F b ≡ Some block → length block.ops ≤ 512
        short_still b block e = by (from_where b block e)
          where
            by : Kept b block ⊎ (AnEdge b block ⊎ ATrap b block) → length block.ops ≤ 512
            by (inl r) = subst (λ (z : Block). length z.ops ≤ 512) (sym r.is) (ready.short b r.old r.has)
            by (inr (inl r)) = let l : 0 ≤ 512 = omega arith in subst (λ (z : Block). length z.ops ≤ 512) (sym r.is) l
            by (inr (inr r)) = ready.short (m + r.j) block r.has

        apart_at : (b : ℕ) (block : Block) (p y z : ℕ) → slice_get F b ≡ Some block → block.exit ≡ Split p y z → y ≡ z → ⊥
        apart_at b block p y z e d = by (from_where b block e)
          where
            by : Kept b block ⊎ (AnEdge b block ⊎ ATrap b block) → y ≡ z → ⊥
            by (inl r) = apart_still b r.old.exit p y z (λ q u v i. ready.apart b r.old q u v r.has i) (ap (λ (x : Block). x.exit) (sym r.is) ∙ d)
            by (inr (inl r)) = let q : Goto (behind m n r.e.to) ≡ Split p y z = ap (λ (x : Block). x.exit) (sym r.is) ∙ d in absurd (cc)
            by (inr (inr r)) = let t = rowed.tail r.j block r.has in let q : Ends t.0 ≡ Split p y z = ap (λ (x : Block). x.exit) (sym t.1) ∙ d in absurd (cc)

  -- ---- the edges lead to blocks that are there

  module _ (within : (x d : ℕ) → Leads S x d → d < length S) where
    all_length : length F ≡ length S + n
    all_length =
        let a : length (relinked m es 0 (take m S)) ≡ length (take m S) = relinked_count m es 0 (take m S) in
        let b : length (take m S) ≡ m = take_count m S rowed.long in
        let c : length (map to_behind es) ≡ n = length-map es to_behind in
        let d : length (drop m S) ≡ length S - m = length-drop m S in
        let e : length F ≡ length (relinked m es 0 (take m S)) + length (map to_behind es ++ drop m S) = longer (relinked m es 0 (take m S)) (map to_behind es ++ drop m S) in
        let f : length (map to_behind es ++ drop m S) ≡ length (map to_behind es) + length (drop m S) = longer (map to_behind es) (drop m S) in
        let g : m ≤ length S = rowed.long in
        omega (arith, a, b, c, d, e, f, g)

    behind_within : (y : ℕ) → y < length S → behind m n y < length F
    behind_within y l = by (behind_is y)
      where
        by : Behind y → behind m n y < length F
        by (low k q) = let a : length F ≡ length S + n = all_length in subst (λ v. v < length F) (sym q) (omega (arith, a, l))
        by (high k q) = let a : length F ≡ length S + n = all_length in subst (λ v. v < length F) (sym q) (omega (arith, a, l))

    pub edges_within : (x d : ℕ) → Leads (with_edges m (critical S 0 S) S) x d → d < length (with_edges m (critical S 0 S) S)
    edges_within x d k = by (entered_by x d k)
      where
        goes_within : (y : ℕ) → y < length S → (d ≡ behind m n y) ⊎ ((e : OverEdge x y m es (behind m n y)) × (d ≡ m + e.j)) → d < length F
        goes_within y l (inl e) = subst (λ v. v < length F) (sym e) (behind_within y l)
        goes_within y l (inr e) =
            let a : length F ≡ length S + n = all_length in
            let b : e.0.j < n = edge_low e.0.j e.0.edge e.0.has in
            let c : m ≤ length S = rowed.long in
            let q : d ≡ m + e.0.j = e.1 in
            omega (arith, a, b, c, q)

        by : Enters x d ⊎ EdgeEnters x d → d < length F
        by (inl r) = goes_within r.target.y (within x r.target.y (record { block = r.old; has = r.has; leads = r.target.old })) r.target.goes.over_or
        by (inr r) =
            let w = critical_leads S 0 S r.e (get_in es r.j r.e r.has) in
            let i = in_there S w.0 w.1 in
            subst (λ v. v < length F) (sym r.leads) (behind_within r.e.to (within i.0 r.e.to (record { block = w.0; has = i.1; leads = w.2 })))
