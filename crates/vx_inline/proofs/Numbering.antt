-- Where the blocks of the caller and of the callee stand in the graph with the call inlined.
use Rattle.std.proofs.Common.{◌≡◌, ◌⊎◌, inl, inr, ℕ, zero, suc, ◌+◌, ◌<◌, ◌≤◌, Bool, true, false, cond, ◌==◌, ◌&&◌, not, List, [], ◌∷◌, ◌++◌, length, map, take, drop, slice_get, Option, Some, refl, sym, ap, ◌∙◌, eqb-true, lt-ltb, le-ltb, arith}
use Rattle.std.proofs.lemmas.Bool.{false≢true, and_parts}
use Rattle.std.proofs.lemmas.List.{length-map}
use Rattle.std.proofs.lemmas.Option.{slice_get_within, slice_get-map}
use Rattle.std.specs.Cmp.Derive.{both_true}
use Rattle.std.specs.List.{filter, list_any}
use Rattle.std.specs.Option.{option_map}
use Rattle.vx_base.specs.declared.outcome.Trap.{Trap}
use Rattle.vx_base.specs.declared.outcome.Trap.TheVariants.{Divide, Index, Input, Depth}
use Rattle.vx_flow.specs.declared.graph.Op.{Op}
use Rattle.vx_flow.specs.declared.graph.Exit.{Exit}
use Rattle.vx_flow.specs.declared.graph.Exit.TheVariants.{Goto, Split, Call, Return, Ends}
use Rattle.vx_flow.specs.declared.graph.Block.{Block}
use Rattle.vx_flow.specs.declared.graph.Edge.{Edge}
use Rattle.vx_flow.specs.Effects.{IsIn}
use Rattle.vx_flow.specs.Operands.{with_values}
use Rattle.vx_flow.proofs.SoundLists.{any_of}
use Rattle.vx_shape.specs.ShapeTest.{is_none_left, is_trap, is_trap_of}
use Rattle.vx_inline.specs.Inlined.{is_plain, kinds_of, kind_place, plain_before, moved, stayed, copied_as, copied, stayed_all, behind, edge_block, relinked_exit, relinked, with_edges}
use Rattle.vx_inline.specs.Joined.{ComesTo}

-- ---- lists

pub get_front : {A : Type 0} (xs ys : List A) (i : ℕ) → i < length xs → slice_get (xs ++ ys) i ≡ slice_get xs i
get_front [] ys i l = absurd (omega arith)
get_front (x ∷ xs) ys zero l = refl
get_front (x ∷ xs) ys (suc i) l = get_front xs ys i (omega arith)

pub get_behind : {A : Type 0} (xs ys : List A) (k : ℕ) → slice_get (xs ++ ys) (length xs + k) ≡ slice_get ys k
get_behind [] ys k = let e : 0 + k ≡ k = omega arith in ap (slice_get ys) e
get_behind (x ∷ xs) ys k = let e : length (x ∷ xs) + k ≡ suc (length xs + k) = omega arith in ap (slice_get (x ∷ (xs ++ ys))) e ∙ get_behind xs ys k

pub get_take : {A : Type 0} (m : ℕ) (xs : List A) (i : ℕ) → i < m → slice_get (take m xs) i ≡ slice_get xs i
get_take zero xs i l = absurd (omega arith)
get_take (suc m) [] i l = refl
get_take (suc m) (x ∷ xs) zero l = refl
get_take (suc m) (x ∷ xs) (suc i) l = get_take m xs i (omega arith)

pub get_drop : {A : Type 0} (m : ℕ) (xs : List A) (k : ℕ) → slice_get (drop m xs) k ≡ slice_get xs (m + k)
get_drop zero xs k = let e : k ≡ 0 + k = omega arith in ap (slice_get xs) e
get_drop (suc m) [] k = refl
get_drop (suc m) (x ∷ xs) k = let e : suc (m + k) ≡ suc m + k = omega arith in get_drop m xs k ∙ ap (slice_get (x ∷ xs)) e

take_length : {A : Type 0} (m : ℕ) (xs : List A) → m ≤ length xs → length (take m xs) ≡ m
take_length zero xs l = refl
take_length (suc m) [] l = absurd (omega arith)
take_length (suc m) (x ∷ xs) l = ap suc (take_length m xs (omega arith))

pub there : {A : Type 0} (xs : List A) (i : ℕ) → i < length xs → (x : A) × (slice_get xs i ≡ Some x)
there [] i l = absurd (omega arith)
there (x ∷ xs) zero l = (x, refl)
there (x ∷ xs) (suc i) l = there xs i (omega arith)

-- ---- blocks that are plain where others are

abbrev pub AsPlain : List Block → List Block → Type 0
AsPlain [] [] = Unit {0}
AsPlain [] (y ∷ ys) = ⊥
AsPlain (x ∷ xs) [] = ⊥
AsPlain (x ∷ xs) (y ∷ ys) = (is_plain y ≡ is_plain x) × AsPlain xs ys

pub plain_itself : (xs : List Block) → AsPlain xs xs
plain_itself [] = tt
plain_itself (x ∷ xs) = (refl, plain_itself xs)

both_put : (a b : Bool) (x y : Block) (fx fy : List Block) → b ≡ a → length fy ≡ length fx → length (cond b (y ∷ fy) fy) ≡ length (cond a (x ∷ fx) fx)
both_put true true x y fx fy e k = ap suc k
both_put true false x y fx fy e k = absurd (false≢true e)
both_put false true x y fx fy e k = absurd (false≢true (sym e))
both_put false false x y fx fy e k = k

pub count_same : (xs ys : List Block) → AsPlain xs ys → length (filter is_plain ys) ≡ length (filter is_plain xs)
count_same [] [] s = refl
count_same [] (y ∷ ys) s = absurd s
count_same (x ∷ xs) [] s = absurd s
count_same (x ∷ xs) (y ∷ ys) s = both_put (is_plain x) (is_plain y) x y (filter is_plain xs) (filter is_plain ys) s.0 (count_same xs ys s.1)

put_at : (a b : Bool) (x y z : Block) (fy tx : List Block) → b ≡ a → slice_get fy (length tx) ≡ Some z → slice_get (cond b (y ∷ fy) fy) (length (cond a (x ∷ tx) tx)) ≡ Some z
put_at true true x y z fy tx e k = k
put_at true false x y z fy tx e k = absurd (false≢true e)
put_at false true x y z fy tx e k = absurd (false≢true (sym e))
put_at false false x y z fy tx e k = k

pub filter_at : (xs ys : List Block) (b : ℕ) (y : Block) → AsPlain xs ys → slice_get ys b ≡ Some y → is_plain y ≡ true → slice_get (filter is_plain ys) (plain_before xs b) ≡ Some y
filter_at [] [] b y s e p = absurd (cc)
filter_at [] (z ∷ ys) b y s e p = absurd s
filter_at (x ∷ xs) [] b y s e p = absurd s
filter_at (x ∷ xs) (z ∷ ys) zero y s e p =
    let q : z ≡ y = cc in
    let t : is_plain z ≡ true = ap is_plain q ∙ p in
    ap (λ c. slice_get (cond c (z ∷ filter is_plain ys) (filter is_plain ys)) 0) t ∙ e
filter_at (x ∷ xs) (z ∷ ys) (suc b) y s e p =
    put_at (is_plain x) (is_plain z) x z y (filter is_plain ys) (filter is_plain (take b xs)) s.0 (filter_at xs ys b y s.1 e p)

pub before_all : (xs : List Block) (b : ℕ) (x : Block) → slice_get xs b ≡ Some x → is_plain x ≡ true → plain_before xs b < length (filter is_plain xs)
before_all xs b x e p = slice_get_within (filter is_plain xs) (plain_before xs b) x (filter_at xs xs b x (plain_itself xs) e p)

-- ---- trap blocks

abbrev pub trap_at : Trap → Block
trap_at k = record { ops = []; exit = Ends k }

pub record IsTrap (block : Block) : Type 0 where
  pub kind : Trap
  pub exit : block.exit ≡ Ends kind
  pub ops : block.ops ≡ []

not_trap : (exit : Exit) (ops : List Op) → not (is_trap exit && is_none_left ops) ≡ false → (k : Trap) × (exit ≡ Ends k) × (ops ≡ [])
not_trap (Goto d) ops e = absurd (false≢true (sym e))
not_trap (Split p d f) ops e = absurd (false≢true (sym e))
not_trap (Call f xs result d) ops e = absurd (false≢true (sym e))
not_trap (Return x) ops e = absurd (false≢true (sym e))
not_trap (Ends k) [] e = (k, refl, refl)
not_trap (Ends k) (op ∷ ops) e = absurd (false≢true (sym e))

pub trap_of : (block : Block) → is_plain block ≡ false → IsTrap block
trap_of block e = let r = not_trap block.exit block.ops e in record { kind = r.0; exit = r.1; ops = r.2 }

trap_same : (k j : Trap) → is_trap_of k (Ends j) ≡ true → k ≡ j
trap_same Divide Divide e = refl
trap_same Index Index e = refl
trap_same Input Input e = refl
trap_same Depth Depth e = refl
trap_same k j e = absurd (false≢true e)

trap_itself : (k : Trap) → is_trap_of k (Ends k) ≡ true
trap_itself Divide = refl
trap_itself Index = refl
trap_itself Input = refl
trap_itself Depth = refl

kind_found : (P : Trap → Bool) (ks : List Trap) (k : Trap) → IsIn k ks → P k ≡ true → slice_get (map trap_at (filter P ks)) (kind_place (filter P ks) (Ends k)) ≡ Some (trap_at k)
kind_found P [] k m h = absurd m
kind_found P (j ∷ ks) k m h = by (P j) refl (kind_found P ks k)
  where
    first : (t : Bool) → is_trap_of j (Ends k) ≡ t → IsIn k (j ∷ ks) → (IsIn k ks → P k ≡ true → slice_get (map trap_at (filter P ks)) (kind_place (filter P ks) (Ends k)) ≡ Some (trap_at k)) →
        slice_get (trap_at j ∷ map trap_at (filter P ks)) (cond t 0 (suc (kind_place (filter P ks) (Ends k)))) ≡ Some (trap_at k)
    first true e n r = ap (λ z. Some (trap_at z)) (trap_same j k e)
    first false e (inl q) r = absurd (false≢true (sym e ∙ ap (λ z. is_trap_of z (Ends k)) (sym q) ∙ trap_itself k))
    first false e (inr n) r = r n h

    by : (t : Bool) → P j ≡ t → (IsIn k ks → P k ≡ true → slice_get (map trap_at (filter P ks)) (kind_place (filter P ks) (Ends k)) ≡ Some (trap_at k)) →
        slice_get (map trap_at (cond t (j ∷ filter P ks) (filter P ks))) (kind_place (cond t (j ∷ filter P ks) (filter P ks)) (Ends k)) ≡ Some (trap_at k)
    by true e r = first (is_trap_of j (Ends k)) refl m r
    by false e r = r (elim m [ inl q ↦ absurd (false≢true (sym e ∙ ap P (sym q) ∙ h)) | inr n ↦ n ]) h

kind_there : (k : Trap) → IsIn k (Divide ∷ Index ∷ Input ∷ Depth ∷ [])
kind_there Divide = inl refl
kind_there Index = inr (inl refl)
kind_there Input = inr (inr (inl refl))
kind_there Depth = inr (inr (inr (inl refl)))

pub kind_at : (blocks : List Block) (block : Block) → IsIn block blocks → (t : IsTrap block) → slice_get (map trap_at (kinds_of blocks)) (kind_place (kinds_of blocks) block.exit) ≡ Some (trap_at t.kind)
kind_at blocks block m t =
    let there : list_any (λ (b : Block). is_trap_of t.kind b.exit && is_none_left b.ops) blocks ≡ true =
    any_of (λ (b : Block). is_trap_of t.kind b.exit && is_none_left b.ops) blocks block m (both_true (ap (is_trap_of t.kind) t.exit ∙ trap_itself t.kind) (ap is_none_left t.ops)) in
    ap (λ x. slice_get (map trap_at (kinds_of blocks)) (kind_place (kinds_of blocks) x)) t.exit ∙
    kind_found (λ k. list_any (λ (b : Block). is_trap_of k b.exit && is_none_left b.ops) blocks) (Divide ∷ Index ∷ Input ∷ Depth ∷ []) t.kind (kind_there t.kind) there

-- ---- the rows of blocks

moved_is_trap : (at : ℕ → ℕ) (exit : Exit) → is_trap (moved at exit) ≡ is_trap exit
moved_is_trap at (Goto d) = refl
moved_is_trap at (Split p d f) = refl
moved_is_trap at (Call f xs result d) = refl
moved_is_trap at (Return x) = refl
moved_is_trap at (Ends k) = refl

pub stayed_is_plain : (at : ℕ → ℕ) (block : Block) → is_plain (stayed at block) ≡ is_plain block
stayed_is_plain at block = ap (λ t. not (t && is_none_left block.ops)) (moved_is_trap at block.exit)

pub stayed_get : (at : ℕ → ℕ) (new : Block) (site i : ℕ) (blocks : List Block) (b : ℕ) (block : Block) → slice_get blocks b ≡ Some block → slice_get (stayed_all at new site i blocks) b ≡ Some (cond (i + b == site) new (stayed at block))
stayed_get at new site i [] b block e = absurd (cc)
stayed_get at new site i (x ∷ xs) zero block e =
    let q : x ≡ block = cc in
    let n : i ≡ i + 0 = omega arith in
    ap (λ z. Some (cond (i == site) new (stayed at z))) q ∙ ap (λ j. Some (cond (j == site) new (stayed at block))) n
stayed_get at new site i (x ∷ xs) (suc b) block e =
    let n : suc i + b ≡ i + suc b = omega arith in
    stayed_get at new site (suc i) xs b block e ∙ ap (λ j. Some (cond (j == site) new (stayed at block))) n

pub stayed_plain : (at : ℕ → ℕ) (new : Block) (site i : ℕ) (blocks : List Block) → is_plain new ≡ true → ((b : ℕ) (block : Block) → slice_get blocks b ≡ Some block → i + b ≡ site → is_plain block ≡ true) → AsPlain blocks (stayed_all at new site i blocks)
stayed_plain at new site i [] p k = tt
stayed_plain at new site i (x ∷ xs) p k = (by (i == site) refl, stayed_plain at new site (suc i) xs p (λ b block e q. k (suc b) block e (omega (arith, q))))
  where
    by : (t : Bool) → (i == site) ≡ t → is_plain (cond t new (stayed at x)) ≡ is_plain x
    by true e =
        let q : i ≡ site = eqb-true i site e in
        let n : i + 0 ≡ site = omega (arith, q) in
        p ∙ sym (k 0 x refl n)
    by false e = stayed_is_plain at x

pub copied_is_plain : (copy to : ℕ → ℕ) (result : Option ℕ) (back : ℕ) (block : Block) → is_plain (copied copy to result back block) ≡ is_plain block
copied_is_plain copy to result back block = by block.exit block.ops
  where
    by : (exit : Exit) (ops : List Op) → is_plain (copied_as copy to result back (map (with_values to) ops) exit) ≡ not (is_trap exit && is_none_left ops)
    by (Goto d) ops = refl
    by (Split p d f) ops = refl
    by (Call f xs v d) ops = refl
    by (Return x) ops = refl
    by (Ends k) [] = refl
    by (Ends k) (op ∷ ops) = refl

pub map_plain : (f : Block → Block) (blocks : List Block) → ((block : Block) → is_plain (f block) ≡ is_plain block) → AsPlain blocks (map f blocks)
map_plain f [] k = tt
map_plain f (x ∷ xs) k = (k x, map_plain f xs k)

-- ---- blocks for edges

module _ (m : ℕ) (es : List Edge) where
  abbrev edge_blocks : List Block
  edge_blocks = map (λ (e : Edge). record { ops = []; exit = Goto (behind m (length es) e.to) }) es

  relinked_get : (i : ℕ) (blocks : List Block) (x : ℕ) (block : Block) → slice_get blocks x ≡ Some block → slice_get (relinked m es i blocks) x ≡ Some (record block { exit = relinked_exit m es (i + x) block.exit })
  relinked_get i [] x block e = absurd (cc)
  relinked_get i (b ∷ bs) zero block e =
      let q : b ≡ block = cc in
      let n : i ≡ i + 0 = omega arith in
      ap (λ (z : Block). Some (record z { exit = relinked_exit m es i z.exit })) q ∙ ap (λ j. Some (record block { exit = relinked_exit m es j block.exit })) n
  relinked_get i (b ∷ bs) (suc x) block e =
      let n : suc i + x ≡ i + suc x = omega arith in
      relinked_get (suc i) bs x block e ∙ ap (λ j. Some (record block { exit = relinked_exit m es j block.exit })) n

  relinked_length : (i : ℕ) (blocks : List Block) → length (relinked m es i blocks) ≡ length blocks
  relinked_length i [] = refl
  relinked_length i (b ∷ bs) = ap suc (relinked_length (suc i) bs)

  module _ (blocks : List Block) (long : m ≤ length blocks) where
    abbrev front : List Block
    front = relinked m es 0 (take m blocks)

    front_length : length front ≡ m
    front_length = relinked_length 0 (take m blocks) ∙ take_length m blocks long

    pub edges_front : (x : ℕ) (block : Block) → x < m → slice_get blocks x ≡ Some block → slice_get (with_edges m es blocks) x ≡ Some (record block { exit = relinked_exit m es x block.exit })
    edges_front x block l e =
        let len : length front ≡ m = front_length in
        let low : x < length front = omega (arith, l, len) in
        let n : 0 + x ≡ x = omega arith in
        get_front front (edge_blocks ++ drop m blocks) x low ∙ relinked_get 0 (take m blocks) x block (get_take m blocks x l ∙ e) ∙ ap (λ j. Some (record block { exit = relinked_exit m es j block.exit })) n

    pub edges_edge : (j : ℕ) (e : Edge) → slice_get es j ≡ Some e → slice_get (with_edges m es blocks) (m + j) ≡ Some (record { ops = []; exit = Goto (behind m (length es) e.to) })
    edges_edge j e h =
        let q : m + j ≡ length front + j = ap (λ k. k + j) (sym front_length) in
        let l : j < length es = slice_get_within es j e h in
        let len : length edge_blocks ≡ length es = length-map es (λ (e : Edge). record { ops = []; exit = Goto (behind m (length es) e.to) }) in
        let low : j < length edge_blocks = omega (arith, l, len) in
        ap (slice_get (with_edges m es blocks)) q ∙ get_behind front (edge_blocks ++ drop m blocks) j ∙ get_front edge_blocks (drop m blocks) j low ∙
        slice_get-map (λ (e : Edge). record { ops = []; exit = Goto (behind m (length es) e.to) }) es j ∙ ap (option_map (λ (e : Edge). record { ops = []; exit = Goto (behind m (length es) e.to) })) h

    pub edges_behind : (k : ℕ) (block : Block) → slice_get blocks (m + k) ≡ Some block → slice_get (with_edges m es blocks) (m + k + length es) ≡ Some block
    edges_behind k block e =
        let len : length edge_blocks ≡ length es = length-map es (λ (e : Edge). record { ops = []; exit = Goto (behind m (length es) e.to) }) in
        let fl : length front ≡ m = front_length in
        let q : m + k + length es ≡ length front + (length edge_blocks + k) = omega (arith, len, fl) in
        ap (slice_get (with_edges m es blocks)) q ∙ get_behind front (edge_blocks ++ drop m blocks) (length edge_blocks + k) ∙ get_behind edge_blocks (drop m blocks) k ∙ get_drop m blocks k ∙ e

    -- the edge of its own, or none
    record OverEdge (x c place : ℕ) (fs : List Edge) (other : ℕ) : Type 0 where
      edge : Edge
      j : ℕ
      has : slice_get fs j ≡ Some edge
      leads : edge.to ≡ c
      is : edge_block x c place fs other ≡ place + j

    over_edge : (x c place : ℕ) (fs : List Edge) (other : ℕ) → (edge_block x c place fs other ≡ other) ⊎ OverEdge x c place fs other
    over_edge x c place [] other = inl refl
    over_edge x c place (e ∷ fs) other = by ((e.from == x) && (e.to == c)) refl (over_edge x c (suc place) fs other)
      where
        by : (t : Bool) → ((e.from == x) && (e.to == c)) ≡ t → (edge_block x c (suc place) fs other ≡ other) ⊎ OverEdge x c (suc place) fs other → (edge_block x c place (e ∷ fs) other ≡ other) ⊎ OverEdge x c place (e ∷ fs) other
        by true h r =
            let n : place ≡ place + 0 = omega arith in
            inr (record { edge = e; j = 0; has = refl; leads = eqb-true e.to c (and_parts (e.from == x) (e.to == c) h).1; is = ap (λ t. cond t place (edge_block x c (suc place) fs other)) h ∙ n })
        by false h (inl q) = inl (ap (λ t. cond t place (edge_block x c (suc place) fs other)) h ∙ q)
        by false h (inr r) =
            let n : suc place + r.j ≡ place + suc r.j = omega arith in
            inr (record { edge = r.edge; j = suc r.j; has = r.has; leads = r.leads; is = ap (λ t. cond t place (edge_block x c (suc place) fs other)) h ∙ r.is ∙ n })

    pub comes : (x c : ℕ) → ComesTo (with_edges m es blocks) (edge_block x c m es (behind m (length es) c)) (behind m (length es) c)
    comes x c = by (over_edge x c m es (behind m (length es) c))
      where
        by : (edge_block x c m es (behind m (length es) c) ≡ behind m (length es) c) ⊎ OverEdge x c m es (behind m (length es) c) → ComesTo (with_edges m es blocks) (edge_block x c m es (behind m (length es) c)) (behind m (length es) c)
        by (inl e) = inl e
        by (inr r) = inr (ap (slice_get (with_edges m es blocks)) r.is ∙ edges_edge r.j r.edge r.has ∙ ap (λ d. Some (record { ops = []; exit = Goto (behind m (length es) d) })) r.leads)

    behind_low : (x : ℕ) → x < m → behind m (length es) x ≡ x
    behind_low x l = ap (λ t. cond t x (x + length es)) (lt-ltb x m l)

    behind_high : (k : ℕ) → behind m (length es) (m + k) ≡ m + k + length es
    behind_high k = let l : m ≤ m + k = omega arith in ap (λ t. cond t (m + k) (m + k + length es)) (le-ltb (m + k) m l)

    pub plain_edged : (x : ℕ) (block : Block) → x < m → slice_get blocks x ≡ Some block → slice_get (with_edges m es blocks) (behind m (length es) x) ≡ Some (record block { exit = relinked_exit m es x block.exit })
    plain_edged x block l e = ap (slice_get (with_edges m es blocks)) (behind_low x l) ∙ edges_front x block l e

    pub trap_edged : (k : ℕ) (block : Block) → slice_get blocks (m + k) ≡ Some block → slice_get (with_edges m es blocks) (behind m (length es) (m + k)) ≡ Some block
    trap_edged k block e = ap (slice_get (with_edges m es blocks)) (behind_high k) ∙ edges_behind k block e
