-- What is left to do of a walk and of a marking becomes less with each step.
use Rattle.std.proofs.Common.{◌≡◌, ℕ, zero, suc, ◌+◌, ◌-◌, ◌<◌, ◌≤◌, Bool, true, false, if◌then◌else◌, List, [], ◌∷◌, ◌++◌, length, length-append, slice_get, slice_set, Option, Some, None, IfSome, refl, sym, subst, ap, ◌∙◌, arith, ◌==◌, nat_lt}
use Rattle.vx_flow.specs.declared.graph.Graph.{Graph}
use Rattle.vx_flow.specs.declared.graph.Block.{Block}
use Rattle.vx_flow.specs.declared.graph.Exit.{Exit}
use Rattle.vx_flow.specs.declared.graph.Exit.TheVariants.{Goto, Split, Call, Return, Ends}
use Rattle.vx_flow.specs.declared.routes.Route.{Route}
use Rattle.vx_flow.specs.declared.walk.Place.{Place}
use Rattle.vx_flow.specs.Rows.{is_marked, unmarked, work}
use Rattle.vx_flow.specs.Closing.{BeginWithin, marked_pending, marked_row, passes, pending_passed, row_passed}
use Rattle.vx_flow.specs.Walk.{ascending, successors, successors_in, successors_of}
use Rattle.vx_flow.specs.Walking.{place, places_after, places_begun, seen_after, seen_begun}
use Rattle.vx_tables.proofs.Marks.{set_less}

-- marking

one_longer : {A : Type 0} (xs : List A) (x : A) → length (xs ++ x ∷ []) ≡ length xs + 1
one_longer xs x = simp length-append (omega arith)

marked_less : (row : List Bool) (pending : List ℕ) (n : ℕ) → n < length row → work (marked_row row n) (marked_pending row pending n) ≤ work row pending
marked_less row pending n lt = by (is_marked row n) refl
  where
    by : (b : Bool) → is_marked row n ≡ b → work (if b then row else slice_set row n true) (if b then pending else pending ++ n ∷ []) ≤ work row pending
    by true e = omega arith
    by false e = let a = set_less row n lt e in let k = one_longer pending n in omega arith

-- a route that is followed
pub passed_less : (routes : List Route) (i v node : ℕ) (row : List Bool) (pending : List ℕ) → BeginWithin (length row) routes →
    work (row_passed (slice_get routes i) v node row) (pending_passed (slice_get routes i) v node row pending) ≤ work row pending
passed_less routes i v node row pending within = by (slice_get routes i) refl
  where
    passed : (r : Route) → r.from < length row → (b : Bool) → work (if b then marked_row row r.from else row) (if b then marked_pending row pending r.from else pending) ≤ work row pending
    passed r lt true = marked_less row pending r.from lt
    passed r lt false = omega arith

    by : (o : Option Route) → slice_get routes i ≡ o → work (row_passed o v node row) (pending_passed o v node row pending) ≤ work row pending
    by None e = omega arith
    by (Some r) e = passed r (within i r e) (passes r v node)

pub followed_less : (routes : List Route) (i v node : ℕ) (row after : List Bool) (pending later : List ℕ) → BeginWithin (length row) routes →
    after ≡ row_passed (slice_get routes i) v node row → later ≡ pending_passed (slice_get routes i) v node row pending → work after later ≤ work row pending
followed_less routes i v node row after pending later within r p = let h = passed_less routes i v node row pending within in subst (λ (m : List Bool). work m later ≤ work row pending) (sym r) (subst (λ (l : List ℕ). work (row_passed (slice_get routes i) v node row) l ≤ work row pending) (sym p) h)

-- a node that waited is taken off
pub taken_less : (row : List Bool) (pending rest : List ℕ) (n : ℕ) → pending ≡ rest ++ n ∷ [] → work row rest < work row pending
taken_less row pending rest n e = let k = one_longer rest n in let h = ap length e in omega arith

-- the walk

-- of a place of the path: one for itself, and one for each successor of two that it may have
abbrev pub place_work : Place → ℕ
place_work p = (2 - p.taken) + 1

abbrev pub path_work : List Place → ℕ
path_work [] = 0
path_work (p ∷ ps) = place_work p + path_work ps

-- and of a block that was not reached four, of one that is still to be begun at one
abbrev pub walk_work : (blocks root : ℕ) → List Bool → List Place → ℕ
walk_work blocks root seen places = unmarked seen + unmarked seen + unmarked seen + unmarked seen + path_work places + (blocks - root)

path_more : (ps : List Place) (p : Place) → path_work (ps ++ p ∷ []) ≡ path_work ps + place_work p
path_more [] p = omega arith
path_more (q ∷ ps) p = let h = path_more ps p in omega arith

got_below : {A : Type 0} (xs : List A) (i : ℕ) (x : A) → slice_get xs i ≡ Some x → i < length xs
got_below [] i x e = absurd (cc)
got_below (y ∷ xs) zero x e = omega arith
got_below (y ∷ xs) (suc i) x e = let h = got_below xs i x e in omega arith

two_ascending : (c d : ℕ) → length (ascending c d) ≤ 2
two_ascending c d = by (c == d) (nat_lt c d)
  where
    by : (same less : Bool) → length (if same then c ∷ [] else if less then c ∷ d ∷ [] else d ∷ c ∷ []) ≤ 2
    by true less = omega arith
    by false true = omega arith
    by false false = omega arith

two_of : (exit : Exit) → length (successors_of exit) ≤ 2
two_of (Goto c) = omega arith
two_of (Split p c d) = two_ascending c d
two_of (Call g arguments result next) = omega arith
two_of (Return x) = omega arith
two_of (Ends k) = omega arith

two_in : (o : Option Block) → length (successors_in o) ≤ 2
two_in None = omega arith
two_in (Some block) = two_of block.exit

taken_few : (g : Graph) (b i c : ℕ) → slice_get (successors g b) i ≡ Some c → i < 2
taken_few g b i c e = let h = got_below (successors g b) i c e in let k = two_in (slice_get g.blocks b) in omega arith

pub taken_below : (g : Graph) (b i : ℕ) (next : Option ℕ) → next ≡ slice_get (successors g b) i → IfSome next (λ c. i < 2)
taken_below g b i None e = tt
taken_below g b i (Some c) e = taken_few g b i c (sym e)

-- a step from the last place of the path, which was taken off
pub step_less : (g : Graph) (blocks root : ℕ) (seen on_path : List Bool) (rest : List Place) (p : Place) (next : Option ℕ) → next ≡ slice_get (successors g p.block) p.taken →
    ((c : ℕ) → next ≡ Some c → c < length seen) → walk_work blocks root (seen_after next seen on_path) (places_after next p seen on_path rest) < walk_work blocks root seen (rest ++ p ∷ [])
step_less g blocks root seen on_path rest p next is has = by next refl
  where
    popped : path_work (rest ++ p ∷ []) ≡ path_work rest + place_work p
    popped = path_more rest p

    pushed : path_work (rest ++ place p.block (p.taken + 1) ∷ []) ≡ path_work rest + place_work (place p.block (p.taken + 1))
    pushed = path_more rest (place p.block (p.taken + 1))

    begun : (c : ℕ) → path_work ((rest ++ place p.block (p.taken + 1) ∷ []) ++ place c 0 ∷ []) ≡ path_work (rest ++ place p.block (p.taken + 1) ∷ []) + place_work (place c 0)
    begun c = path_more (rest ++ place p.block (p.taken + 1) ∷ []) (place c 0)

    came : (c : ℕ) → p.taken < 2 → c < length seen → (r : Bool) → is_marked seen c ≡ r →
        walk_work blocks root (if r then seen else slice_set seen c true) (if r then rest ++ place p.block (p.taken + 1) ∷ [] else (rest ++ place p.block (p.taken + 1) ∷ []) ++ place c 0 ∷ []) < walk_work blocks root seen (rest ++ p ∷ [])
    came c few lt true e = let a = popped in let b = pushed in omega arith
    came c few lt false e = let a = popped in let b = pushed in let d = begun c in let k = set_less seen c lt e in omega arith

    on : (c : ℕ) → p.taken < 2 → c < length seen → (t : Bool) →
        walk_work blocks root (if t then seen else seen_begun seen c) (if t then rest ++ place p.block (p.taken + 1) ∷ [] else places_begun seen (rest ++ place p.block (p.taken + 1) ∷ []) c) < walk_work blocks root seen (rest ++ p ∷ [])
    on c few lt true = let a = popped in let b = pushed in omega arith
    on c few lt false = came c few lt (is_marked seen c) refl

    by : (o : Option ℕ) → next ≡ o → walk_work blocks root (seen_after o seen on_path) (places_after o p seen on_path rest) < walk_work blocks root seen (rest ++ p ∷ [])
    by None e = let a = popped in omega arith
    by (Some c) e = on c (taken_few g p.block p.taken c (sym is ∙ e)) (has c e) (is_marked on_path c)

-- a block from which the walk begins, or which was reached before
pub begin_less : (blocks root : ℕ) (seen : List Bool) → root < blocks → root < length seen → walk_work blocks (root + 1) (seen_begun seen root) (places_begun seen [] root) < walk_work blocks root seen []
begin_less blocks root seen some lt = by (is_marked seen root) refl
  where
    by : (r : Bool) → is_marked seen root ≡ r → walk_work blocks (root + 1) (if r then seen else slice_set seen root true) (if r then [] else place root 0 ∷ []) < walk_work blocks root seen []
    by true e = omega arith
    by false e = let k = set_less seen root lt e in omega arith

-- the same, of what stands for the marks and the path
pub stepped_less : (g : Graph) (root : ℕ) (seen after on_path : List Bool) (places later rest : List Place) (p : Place) (next : Option ℕ) → places ≡ rest ++ p ∷ [] → after ≡ seen_after next seen on_path →
    later ≡ places_after next p seen on_path rest → next ≡ slice_get (successors g p.block) p.taken → IfSome next (λ c. c < length seen) → walk_work (length g.blocks) root after later < walk_work (length g.blocks) root seen places
stepped_less g root seen after on_path places later rest p next stood marked path is has =
    let h = step_less g (length g.blocks) root seen on_path rest p next is (λ c e. subst (λ (o : Option ℕ). IfSome o (λ x. x < length seen)) e has) in
    subst (λ (l : List Place). walk_work (length g.blocks) root after later < walk_work (length g.blocks) root seen l) (sym stood)
    (subst (λ (m : List Bool). walk_work (length g.blocks) root m later < walk_work (length g.blocks) root seen (rest ++ p ∷ [])) (sym marked)
    (subst (λ (l : List Place). walk_work (length g.blocks) root (seen_after next seen on_path) l < walk_work (length g.blocks) root seen (rest ++ p ∷ [])) (sym path) h))

pub begun_less : (blocks root : ℕ) (seen after : List Bool) (places later rest : List Place) → places ≡ [] → rest ≡ [] → after ≡ seen_begun seen root → later ≡ places_begun seen rest root → root < blocks → root < length seen →
    walk_work blocks (root + 1) after later < walk_work blocks root seen places
begun_less blocks root seen after places later rest stood empty marked path some lt =
    let h = begin_less blocks root seen some lt in
    let l : later ≡ places_begun seen [] root = subst (λ (r : List Place). later ≡ places_begun seen r root) empty path in
    subst (λ (q : List Place). walk_work blocks (root + 1) after later < walk_work blocks root seen q) (sym stood)
    (subst (λ (m : List Bool). walk_work blocks (root + 1) m later < walk_work blocks root seen []) (sym marked)
    (subst (λ (q : List Place). walk_work blocks (root + 1) (seen_begun seen root) q < walk_work blocks root seen []) (sym l) h))
