-- The code of loops and of lists of statements keeps a graph well shaped.
use Rattle.std.proofs.Common.{◌≡◌, ℕ, suc, ◌+◌, ◌*◌, ◌<◌, ◌≤◌, List, [], ◌∷◌, ◌++◌, length, Option, Some, None, refl, arith}
use Rattle.std.proofs.lemmas.List.{length-append}
use Rattle.std.proofs.lemmas.Option.{slice_get_within}
use Rattle.vx_ast.specs.declared.tree.Statement.{Statement}
use Rattle.vx_ast.specs.View.{code_of, all_in}
use Rattle.vx_ast.specs.Accepted.{nodes_of, code_nodes, scalars_of, test_nodes}
use Rattle.vx_ast.specs.Tree.{One, Tree, Code, Nothing, While, DoWhile, For}
use Rattle.vx_flow.specs.declared.graph.Exit.TheVariants.{Goto}
use Rattle.vx_lower.specs.Seen.{Sees}
use Rattle.vx_lower.specs.Builds.{reserved, closed}
use Rattle.vx_lower.specs.Named.{Known, CodeNamed}
use Rattle.vx_lower.specs.Fits.{TestsWell}
use Rattle.vx_lower.specs.StatementFits.{PlainWell, StatementWell, LoopTestWell}
use Rattle.vx_lower.specs.declared.builder.Builder.{Builder}
use Rattle.vx_lower.proofs.Keeping.{keeps_self, keeps_on}
use Rattle.vx_lower.proofs.FittingStatements.{made_by, enters_well, reserves_well, turned_well, way_on}

-- places of blocks

up_to : (a b c : ℕ) → a ≤ b → b ≤ c → a ≤ c
up_to a b c p q = omega arith

to_next : (a b x : ℕ) → a ≤ b → x ≡ b → a ≤ x
to_next a b x p e = omega arith

past_one : (a b x m c : ℕ) → a ≤ b → x ≡ b → m ≡ x + 1 → c ≡ m → a ≤ c
past_one a b x m c p e f g = omega arith

apart : (n x l : ℕ) → n < l → x ≡ l → x ≡ n → ⊥
apart n x l p e d = omega arith

before_next : (x m c : ℕ) → m ≡ x + 1 → c ≡ m → x ≡ c → ⊥
before_next x m c e f d = omega arith

below_next : (n l x m c : ℕ) → n < l → x ≡ l → m ≡ x + 1 → c ≡ m → n ≡ c → ⊥
below_next n l x m c p e f g d = omega arith

under : (x l n : ℕ) → x < l → l ≤ n → x ≡ n → ⊥
under x l n p q d = omega arith

-- how many values

while_generals : (g1 g2 s n1 n2 : ℕ) → suc g1 ≤ 3 * n1 → g2 + s ≤ 3 * n2 → 0 + (g1 + (0 + g2)) + s ≤ 3 * (1 + n1 + n2)
while_generals g1 g2 s n1 n2 p q = omega arith

while_branches : (h1 h2 n1 n2 : ℕ) → h1 ≤ 2 * n1 → h2 ≤ 2 * n2 → 0 + (h1 + (0 + h2)) ≤ 2 * (1 + n1 + n2)
while_branches h1 h2 n1 n2 p q = omega arith

do_while_generals : (g1 g2 s n1 n2 : ℕ) → suc g1 ≤ 3 * n1 → g2 + s ≤ 3 * n2 → 0 + (0 + (0 + g2)) + g1 + s ≤ 3 * (1 + n2 + n1)
do_while_generals g1 g2 s n1 n2 p q = omega arith

do_while_branches : (h1 h2 n1 n2 : ℕ) → h1 ≤ 2 * n1 → h2 ≤ 2 * n2 → 0 + (0 + (0 + h2)) + h1 ≤ 2 * (1 + n2 + n1)
do_while_branches h1 h2 n1 n2 p q = omega arith

for_generals : (g0 g1 g2 g3 s0 s2 s3 s n0 n1 n2 n3 : ℕ) → g0 + s0 ≤ 3 * n0 → g1 ≤ 3 * n1 → g2 + s2 ≤ 3 * n2 → g3 + s3 ≤ 3 * n3 → s ≡ s0 + s2 → g0 + (0 + (g1 + (0 + (0 + g2)))) + g3 + s ≤ 3 * (1 + n0 + n1 + n3 + n2)
for_generals g0 g1 g2 g3 s0 s2 s3 s n0 n1 n2 n3 p0 p1 p2 p3 e = omega arith

for_branches : (h0 h1 h2 h3 n0 n1 n2 n3 : ℕ) → h0 ≤ 2 * n0 → h1 ≤ 2 * n1 → h2 ≤ 2 * n2 → h3 ≤ 2 * n3 → h0 + (0 + (h1 + (0 + (0 + h2)))) + h3 ≤ 2 * (1 + n0 + n1 + n3 + n2)
for_branches h0 h1 h2 h3 n0 n1 n2 n3 q0 q1 q2 q3 = omega arith

more_generals : (g1 g2 s1 s2 s n1 n2 n : ℕ) → g1 + s1 ≤ 3 * n1 → g2 + s2 ≤ 3 * n2 → s ≡ s1 + s2 → n ≡ n1 + n2 → g1 + g2 + s ≤ 3 * n
more_generals g1 g2 s1 s2 s n1 n2 n p q e f = omega arith

more_branches : (h1 h2 n1 n2 n : ℕ) → h1 ≤ 2 * n1 → h2 ≤ 2 * n2 → n ≡ n1 + n2 → h1 + h2 ≤ 2 * n
more_branches h1 h2 n1 n2 n p q f = omega arith

-- loops

pub while_well : {words : Sees} (leaves again : Option ℕ) (h n x : ℕ) (e : Tree One) (body : Code) (b0 b1 b2 b3 b4 b5 b6 : Builder) (t0 t1 : List (List ℕ)) → (h ≡ length b0.blocks) × (b1 ≡ closed (reserved b0) (Goto h) h) → TestsWell words e n b1 b2 → (x ≡ length b2.blocks) × (b3 ≡ reserved b2) → StatementWell words body (Some x) (Some h) b3 b4 t0 t1 → b5 ≡ closed b4 (Goto h) n → b6 ≡ closed b5 (Goto x) x → StatementWell words (While e body) leaves again b0 b6 t0 t1
while_well leaves again h n x e body b0 b1 b2 b3 b4 b5 b6 t0 t1 eh et en eb e5 e6 k roles s is wl wa =
    let a = enters_well h b0 b1 eh s in
    let t = et k (length t0) roles a.keeps.shaped is.0 in
    let r = reserves_well x b2 b3 en t.keeps.shaped in
    let u = eb k t.later r.keeps.shaped is.1 r.free (r.keeps.free h (t.keeps.free h a.free)) in
    let all = keeps_on a.keeps (keeps_on t.keeps (keeps_on r.keeps u.keeps)) in
    let wn = slice_get_within b2.blocks n None t.waits.free in
    let one = turned_well h n b0 b4 b5 e5 all (u.keeps.spare n (r.keeps.spare n t.waits)) (up_to (length b0.blocks) (length b1.blocks) n a.keeps.longer t.late) (u.keeps.free h (r.keeps.free h (t.keeps.free h a.free))) in
    let two = turned_well x x b0 b5 b6 e6 one.keeps (one.spare x (u.keeps.spare x r.spare) (apart n x (length b2.blocks) wn r.at))
    (to_next (length b0.blocks) (length b2.blocks) x (up_to (length b0.blocks) (length b1.blocks) (length b2.blocks) a.keeps.longer t.keeps.longer) r.at) (one.free x (u.keeps.free x r.free)) in
    made_by (While e body) two.keeps (while_generals t.generals u.generals (length (scalars_of body)) (nodes_of e) (code_nodes body) t.few_generals u.few_generals) (while_branches t.branches u.branches (nodes_of e) (code_nodes body) t.few_branches u.few_branches)

pub do_while_well : {words : Sees} (leaves again : Option ℕ) (h n x c : ℕ) (body : Code) (e : Tree One) (b0 b1 b2 b3 b4 b5 b6 b7 b8 : Builder) (t0 t1 : List (List ℕ)) → (h ≡ length b0.blocks) × (b1 ≡ closed (reserved b0) (Goto h) h) → (x ≡ length b1.blocks) × (b2 ≡ reserved b1) → (c ≡ length b2.blocks) × (b3 ≡ reserved b2) → StatementWell words body (Some x) (Some c) b3 b4 t0 t1 → b5 ≡ closed b4 (Goto c) c → TestsWell words e n b5 b6 → b7 ≡ closed b6 (Goto h) n → b8 ≡ closed b7 (Goto x) x → StatementWell words (DoWhile body e) leaves again b0 b8 t0 t1
do_while_well leaves again h n x c body e b0 b1 b2 b3 b4 b5 b6 b7 b8 t0 t1 eh ex ec eb e5 et e7 e8 k roles s is wl wa =
    let a = enters_well h b0 b1 eh s in
    let rx = reserves_well x b1 b2 ex a.keeps.shaped in
    let rc = reserves_well c b2 b3 ec rx.keeps.shaped in
    let free_x = rc.keeps.free x rx.free in
    let free_h = rc.keeps.free h (rx.keeps.free h a.free) in
    let spare_x = rc.keeps.spare x rx.spare in
    let u = eb k roles rc.keeps.shaped is.0 free_x rc.free in
    let all = keeps_on a.keeps (keeps_on rx.keeps (keeps_on rc.keeps u.keeps)) in
    let one = turned_well c c b0 b4 b5 e5 all (u.keeps.spare c rc.spare) (past_one (length b0.blocks) (length b1.blocks) x (length b2.blocks) c a.keeps.longer rx.at rx.more rc.at) (u.keeps.free c rc.free) in
    let t = et k (length t1) u.later one.keeps.shaped is.1 in
    let spare5 = one.spare x (u.keeps.spare x spare_x) (before_next x (length b2.blocks) c rx.more rc.at) in
    let free5 = one.free x (u.keeps.free x free_x) in
    let two = turned_well h n b0 b6 b7 e7 (keeps_on one.keeps t.keeps) t.waits (up_to (length b0.blocks) (length b5.blocks) n one.keeps.longer t.late) (t.keeps.free h (one.free h (u.keeps.free h free_h))) in
    let three = turned_well x x b0 b7 b8 e8 two.keeps (two.spare x (t.keeps.spare x spare5) (under x (length b5.blocks) n free5.below t.late)) (to_next (length b0.blocks) (length b1.blocks) x a.keeps.longer rx.at) (two.free x (t.keeps.free x free5)) in
    made_by (DoWhile body e) three.keeps (do_while_generals t.generals u.generals (length (scalars_of body)) (nodes_of e) (code_nodes body) t.few_generals u.few_generals) (do_while_branches t.branches u.branches (nodes_of e) (code_nodes body) t.few_branches u.few_branches)

pub for_well : {words : Sees} (leaves again : Option ℕ) (h n x c : ℕ) (first step body : Code) (test : Option (Tree One)) (b0 b1 b2 b3 b4 b5 b6 b7 b8 b9 b10 : Builder) (t0 t1 : List (List ℕ)) → PlainWell words first b0 b1 → (h ≡ length b1.blocks) × (b2 ≡ closed (reserved b1) (Goto h) h) → LoopTestWell words test n b2 b3 → (x ≡ length b3.blocks) × (b4 ≡ reserved b3) → (c ≡ length b4.blocks) × (b5 ≡ reserved b4) → StatementWell words body (Some x) (Some c) b5 b6 t0 t1 → b7 ≡ closed b6 (Goto c) c → PlainWell words step b7 b8 → b9 ≡ closed b8 (Goto h) n → b10 ≡ closed b9 (Goto x) x → StatementWell words (For first test step body) leaves again b0 b10 t0 t1
for_well leaves again h n x c first step body test b0 b1 b2 b3 b4 b5 b6 b7 b8 b9 b10 t0 t1 ef eh et ex ec eb e7 es e9 e10 k roles s is wl wa =
    let f = ef k (length t0) roles s is.0 in
    let a = enters_well h b1 b2 eh f.keeps.shaped in
    let t = et k (length t0) f.later a.keeps.shaped is.1 in
    let rx = reserves_well x b3 b4 ex t.keeps.shaped in
    let rc = reserves_well c b4 b5 ec rx.keeps.shaped in
    let free_x = rc.keeps.free x rx.free in
    let free_h = rc.keeps.free h (rx.keeps.free h (t.keeps.free h a.free)) in
    let spare_x = rc.keeps.spare x rx.spare in
    let spare_n = rc.keeps.spare n (rx.keeps.spare n t.waits) in
    let u = eb k t.later rc.keeps.shaped is.3 free_x rc.free in
    let all = keeps_on f.keeps (keeps_on a.keeps (keeps_on t.keeps (keeps_on rx.keeps (keeps_on rc.keeps u.keeps)))) in
    let wn = slice_get_within b3.blocks n None t.waits.free in
    let l2 = up_to (length b0.blocks) (length b1.blocks) (length b2.blocks) f.keeps.longer a.keeps.longer in
    let l3 = up_to (length b0.blocks) (length b2.blocks) (length b3.blocks) l2 t.keeps.longer in
    let one = turned_well c c b0 b6 b7 e7 all (u.keeps.spare c rc.spare) (past_one (length b0.blocks) (length b3.blocks) x (length b4.blocks) c l3 rx.at rx.more rc.at) (u.keeps.free c rc.free) in
    let v = es k (length t1) u.later one.keeps.shaped is.2 in
    let spare7 = one.spare n (u.keeps.spare n spare_n) (below_next n (length b3.blocks) x (length b4.blocks) c wn rx.at rx.more rc.at) in
    let spare7x = one.spare x (u.keeps.spare x spare_x) (before_next x (length b4.blocks) c rx.more rc.at) in
    let two = turned_well h n b0 b8 b9 e9 (keeps_on one.keeps v.keeps) (v.keeps.spare n spare7) (up_to (length b0.blocks) (length b2.blocks) n l2 t.late) (v.keeps.free h (one.free h (u.keeps.free h free_h))) in
    let three = turned_well x x b0 b9 b10 e10 two.keeps (two.spare x (v.keeps.spare x spare7x) (apart n x (length b3.blocks) wn rx.at)) (to_next (length b0.blocks) (length b3.blocks) x l3 rx.at) (two.free x (v.keeps.free x (one.free x (u.keeps.free x free_x)))) in
    let m : length (scalars_of (For first test step body)) ≡ length (scalars_of first) + length (scalars_of body) = length-append (scalars_of first) (scalars_of body) in
    made_by (For first test step body) three.keeps
    (for_generals f.generals t.generals u.generals v.generals (length (scalars_of first)) (length (scalars_of body)) (length (scalars_of step)) (length (scalars_of (For first test step body))) (code_nodes first) (test_nodes test) (code_nodes body) (code_nodes step) f.few_generals t.few_generals u.few_generals v.few_generals m)
    (for_branches f.branches t.branches u.branches v.branches (code_nodes first) (test_nodes test) (code_nodes body) (code_nodes step) f.few_branches t.few_branches u.few_branches v.few_branches)

-- lists of statements

pub nothing_well : {words : Sees} (leaves again : Option ℕ) (b : Builder) (ts : List (List ℕ)) → StatementWell words Nothing leaves again b b ts ts
nothing_well leaves again b ts k roles s is wl wa = made_by Nothing (keeps_self s) (omega arith) (omega arith)

all_nodes : (xs : List Statement) (x : Statement) → code_nodes (all_in (xs ++ x ∷ [])) ≡ code_nodes (all_in xs) + code_nodes (code_of x)
all_nodes [] x = let e : code_nodes (all_in (x ∷ [])) ≡ code_nodes (code_of x) + 0 = refl in let z : code_nodes (all_in []) ≡ 0 = refl in omega arith
all_nodes (y ∷ xs) x = let h = all_nodes xs x in let e : code_nodes (all_in (y ∷ (xs ++ x ∷ []))) ≡ code_nodes (code_of y) + code_nodes (all_in (xs ++ x ∷ [])) = refl in let z : code_nodes (all_in (y ∷ xs)) ≡ code_nodes (code_of y) + code_nodes (all_in xs) = refl in omega arith

all_scalars : (xs : List Statement) (x : Statement) → length (scalars_of (all_in (xs ++ x ∷ []))) ≡ length (scalars_of (all_in xs)) + length (scalars_of (code_of x))
all_scalars [] x = let e = length-append (scalars_of (code_of x)) (scalars_of (all_in [])) in let z : length (scalars_of (all_in [])) ≡ 0 = refl in let q : length (scalars_of (all_in (x ∷ []))) ≡ length (scalars_of (code_of x) ++ scalars_of (all_in [])) = refl in omega arith
all_scalars (y ∷ xs) x = let h = all_scalars xs x in let e = length-append (scalars_of (code_of y)) (scalars_of (all_in (xs ++ x ∷ []))) in let z = length-append (scalars_of (code_of y)) (scalars_of (all_in xs)) in let q : length (scalars_of (all_in (y ∷ (xs ++ x ∷ [])))) ≡ length (scalars_of (code_of y) ++ scalars_of (all_in (xs ++ x ∷ []))) = refl in let r : length (scalars_of (all_in (y ∷ xs))) ≡ length (scalars_of (code_of y) ++ scalars_of (all_in xs)) = refl in omega arith

all_named : {words : Sees} (k : Known words) (xs : List Statement) (x : Statement) → CodeNamed k (all_in (xs ++ x ∷ [])) → CodeNamed k (all_in xs) × CodeNamed k (code_of x)
all_named k [] x h = (tt, h.0)
all_named k (y ∷ xs) x h = let w = all_named k xs x h.1 in ((h.0, w.0), w.1)

pub more_well : {words : Sees} (leaves again : Option ℕ) (xs : List Statement) (x : Statement) (b0 b1 b2 : Builder) (t0 t1 t2 : List (List ℕ)) → StatementWell words (all_in xs) leaves again b0 b1 t0 t1 → StatementWell words (code_of x) leaves again b1 b2 t1 t2 → StatementWell words (all_in (xs ++ x ∷ [])) leaves again b0 b2 t0 t2
more_well leaves again xs x b0 b1 b2 t0 t1 t2 f g k roles s is wl wa =
    let named = all_named k xs x is in
    let u = f k roles s named.0 wl wa in
    let v = g k u.later u.keeps.shaped named.1 (way_on leaves u.keeps wl) (way_on again u.keeps wa) in
    let n1 = code_nodes (all_in xs) in let n2 = code_nodes (code_of x) in let n = code_nodes (all_in (xs ++ x ∷ [])) in
    made_by (all_in (xs ++ x ∷ [])) (keeps_on u.keeps v.keeps) (more_generals u.generals v.generals (length (scalars_of (all_in xs))) (length (scalars_of (code_of x))) (length (scalars_of (all_in (xs ++ x ∷ [])))) n1 n2 n u.few_generals v.few_generals (all_scalars xs x) (all_nodes xs x))
    (more_branches u.branches v.branches n1 n2 n u.few_branches v.few_branches (all_nodes xs x))
