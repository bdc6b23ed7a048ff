-- The code of simple statements keeps a graph well shaped.
use Rattle.std.proofs.Common.{◌≡◌, ℕ, ◌+◌, ◌*◌, ◌≤◌, pos, false, List, length, Option, Some, None, refl, sym, ap, ◌∙◌, subst, arith}
use Rattle.vx_base.specs.declared.arithmetic.Code.TheVariants.{Add, Sub}
use Rattle.vx_ast.specs.declared.tree.BinaryOperator.{BinaryOperator}
use Rattle.vx_ast.specs.Tree.{One, Row, Tree, Place, InLocal, InGlobal, InElement, Action, Evaluate, Assign, Apply}
use Rattle.vx_ast.specs.Accepted.{nodes_of, action_nodes, takes_of_row}
use Rattle.vx_flow.specs.declared.graph.Operand.{Operand}
use Rattle.vx_flow.specs.declared.graph.Operand.TheVariants.{Held, Number}
use Rattle.vx_flow.specs.declared.graph.Op.TheVariants.{Compute, Load, Store}
use Rattle.vx_flow.specs.declared.graph.Exit.TheVariants.{Call}
use Rattle.vx_lower.specs.Seen.{Sees}
use Rattle.vx_lower.specs.Builds.{reserved, closed}
use Rattle.vx_lower.specs.Adds.{Added, Last}
use Rattle.vx_lower.specs.Does.{Change, By, Up, Down, action_of}
use Rattle.vx_lower.specs.Named.{Known, ChangeNamed, PlaceNamed, ActionNamed}
use Rattle.vx_lower.specs.Fits.{Role, PlaceOf, Keeps, ChecksWell, CombinesWell, EmitsWell, RowsWell, Made, change_nodes, AltersWell, ActsWell}
use Rattle.vx_lower.specs.declared.builder.Builder.{Builder}
use Rattle.vx_lower.proofs.Emitting.{spare_reserved}
use Rattle.vx_lower.proofs.Fitting.{operand_on}
use Rattle.vx_lower.proofs.Keeping.{keeps_on, keeps_most, keeps_reserved, free_reserved, keeps_closed, keeps_added, last}
use Rattle.vx_lower.proofs.FittingTrees.{global_there}
use Rattle.vx_lower.proofs.FittingPieces.{dest_on}

pub acts_well_as : {words : Sees} (a b : Builder) (x y : Action) → x ≡ y → ActsWell words x a b → ActsWell words y a b
acts_well_as {words} a b x y e f = subst (λ z. ActsWell words z a b) e f

made : {words : Sees} {k : Known words} {texts : ℕ} {roles later : List Role} {g h : ℕ} {a b : Builder} (nodes : ℕ) → Keeps k texts roles later g h a b → g ≤ 3 * nodes → h ≤ 2 * nodes → Made k texts roles nodes a b
made {later = later} nodes x p q = record { later = later; keeps = keeps_most (3 * nodes) (2 * nodes) p q x }

pub by_well : {words : Sees} (operator : BinaryOperator) (e : Tree One) (from o : Operand) (dest : Option ℕ) (t : ℕ) (b0 b1 b2 : Builder) → EmitsWell words e None o b0 b1 → CombinesWell from o dest t b1 b2 → AltersWell words (By operator e) from dest t b0 b2
by_well operator e from o dest t b0 b1 b2 ex c k texts roles s is f d =
    let x = ex k texts roles s is tt in
    let z = c _ k texts x.later x.keeps.shaped (operand_on roles x.later x.keeps.kept from f) x.operand (dest_on roles x.later x.keeps.kept dest d) in
    let p = x.few_generals in let q = x.few_branches in
    record { later = z.later; keeps = keeps_most (3 * nodes_of e + 2) (2 * nodes_of e) (omega arith) (omega arith) (keeps_on x.keeps z.keeps); has = z.has }

pub up_well : {words : Sees} (from : Operand) (dest : Option ℕ) (t : ℕ) (b0 b1 : Builder) → Last (Compute Add t from (Number (pos 1))) dest t b0 b1 → AltersWell words Up from dest t b0 b1
up_well from dest t b0 b1 p k texts roles s is f d =
    let z = last p s d (λ later kept h. (h, operand_on roles later kept from f, tt)) in
    record { later = z.later; keeps = keeps_most 2 0 (omega arith) (omega arith) z.keeps; has = z.has }

pub down_well : {words : Sees} (from : Operand) (dest : Option ℕ) (t : ℕ) (b0 b1 : Builder) → Last (Compute Sub t from (Number (pos 1))) dest t b0 b1 → AltersWell words Down from dest t b0 b1
down_well from dest t b0 b1 p k texts roles s is f d =
    let z = last p s d (λ later kept h. (h, operand_on roles later kept from f, tt)) in
    record { later = z.later; keeps = keeps_most 2 0 (omega arith) (omega arith) z.keeps; has = z.has }

pub evaluate_well : {words : Sees} (e : Tree One) (o : Operand) (b0 b1 : Builder) → EmitsWell words e None o b0 b1 → ActsWell words (Evaluate e) b0 b1
evaluate_well e o b0 b1 ex k texts roles s is =
    let x = ex k texts roles s is tt in
    let p = x.few_generals in let q = x.few_branches in
    made (nodes_of e) x.keeps (omega arith) (omega arith)

pub act_call_well : {words : Sees} (f n : ℕ) (row : Tree Row) (os : List Operand) (b0 b1 b2 b3 : Builder) → RowsWell words row os b0 b1 → (n ≡ length b1.blocks) × (b2 ≡ reserved b1) → b3 ≡ closed b2 (Call f os None n) n → ActsWell words (Evaluate (Apply f row)) b0 b3
act_call_well f n row os b0 b1 b2 b3 args en e3 k texts roles s is =
    let nn = length b1.blocks in
    let c3 : b3 ≡ closed (reserved b1) (Call f os None nn) nn = e3 ∙ ap (λ z. closed z (Call f os None n) n) en.1 ∙ ap (λ m. closed (reserved b1) (Call f os None m) m) en.0 in
    let x = args k texts roles s is.1 in
    let r = keeps_reserved x.keeps.shaped in
    let all = keeps_closed (Call f os None nn) nn (keeps_on x.keeps r) (spare_reserved b1 x.keeps.shaped.ready) x.keeps.longer ((takes_of_row row, is.0, x.operands), tt, free_reserved x.keeps.shaped) in
    let p = x.few_generals in let q = x.few_branches in
    subst (Made k texts roles (1 + nodes_of row) b0) (sym c3) (made (1 + nodes_of row) all (omega arith) (omega arith))

pub assign_local_well : {words : Sees} (x : ℕ) (e : Tree One) (o : Operand) (b0 b1 : Builder) → EmitsWell words e (Some x) o b0 b1 → ActsWell words (Assign (InLocal x) e) b0 b1
assign_local_well x e o b0 b1 ex k texts roles s is =
    let w = ex k texts roles s is.1 (s.fits.scalars x is.0) in
    let p = w.few_generals in let q = w.few_branches in
    made (1 + nodes_of e) w.keeps (omega arith) (omega arith)

pub assign_global_well : {words : Sees} (a : ℕ) (e : Tree One) (o : Operand) (b0 b1 b2 : Builder) → EmitsWell words e None o b0 b1 → Added (Store a (Number (pos 0)) o) b1 b2 → ActsWell words (Assign (InGlobal a) e) b0 b2
assign_global_well a e o b0 b1 b2 ex ps k texts roles s is =
    let x = ex k texts roles s is.1 tt in
    let z = keeps_added ps x.keeps.shaped (global_there k a is.0, is.0, x.operand) in
    let p = x.few_generals in let q = x.few_branches in
    made (1 + nodes_of e) (keeps_on x.keeps z) (omega arith) (omega arith)

pub assign_element_well : {words : Sees} (a t : ℕ) (i e : Tree One) (oi oe : Operand) (b0 b1 b2 b3 b4 : Builder) → EmitsWell words i None oi b0 b1 → ChecksWell words a oi t b1 b2 → EmitsWell words e None oe b2 b3 → Added (Store a (Held t) oe) b3 b4 → ActsWell words (Assign (InElement a i) e) b0 b4
assign_element_well a t i e oi oe b0 b1 b2 b3 b4 ei ck ee ps k texts roles s is =
    let x = ei k texts roles s is.0.1 tt in
    let y = ck k texts x.later x.keeps.shaped is.0.0 x.operand in
    let w = ee k texts y.later y.keeps.shaped is.1 tt in
    let z = keeps_added ps w.keeps.shaped (is.0.0, w.keeps.kept t (PlaceOf a) y.has, w.operand) in
    let p1 = x.few_generals in let q1 = x.few_branches in let p2 = w.few_generals in let q2 = w.few_branches in
    made (1 + nodes_of i + nodes_of e) (keeps_on x.keeps (keeps_on y.keeps (keeps_on w.keeps z))) (omega arith) (omega arith)

-- a change of a target

split_named : {words : Sees} (k : Known words) (t : Place) (c : Change) → ActionNamed k (action_of t c) → PlaceNamed k t × ChangeNamed k c
split_named k t (By operator e) h = h
split_named k t Up h = (h, tt)
split_named k t Down h = (h, tt)

local_nodes : (x : ℕ) (c : Change) → action_nodes (action_of (InLocal x) c) ≡ 1 + change_nodes c
local_nodes x (By operator e) = refl
local_nodes x Up = refl
local_nodes x Down = refl

global_nodes : (a : ℕ) (c : Change) → action_nodes (action_of (InGlobal a) c) ≡ 1 + change_nodes c
global_nodes a (By operator e) = refl
global_nodes a Up = refl
global_nodes a Down = refl

element_nodes : (a : ℕ) (i : Tree One) (c : Change) → action_nodes (action_of (InElement a i) c) ≡ 1 + nodes_of i + change_nodes c
element_nodes a i (By operator e) = refl
element_nodes a i Up = let h : action_nodes (action_of (InElement a i) Up) ≡ 1 + nodes_of i = refl in let z : change_nodes Up ≡ 0 = refl in omega arith
element_nodes a i Down = let h : action_nodes (action_of (InElement a i) Down) ≡ 1 + nodes_of i = refl in let z : change_nodes Down ≡ 0 = refl in omega arith

pub change_local_well : {words : Sees} (x t : ℕ) (c : Change) (b0 b1 : Builder) → AltersWell words c (Held x) (Some x) t b0 b1 → ActsWell words (action_of (InLocal x) c) b0 b1
change_local_well x t c b0 b1 al k texts roles s is =
    let n = split_named k (InLocal x) c is in
    let h = s.fits.scalars x n.0 in
    let w = al k texts roles s n.1 h h in
    let e = local_nodes x c in
    made (action_nodes (action_of (InLocal x) c)) w.keeps (omega arith) (omega arith)

pub change_global_well : {words : Sees} (a u t : ℕ) (c : Change) (b0 b1 b2 b3 : Builder) → Last (Load u a (Number (pos 0)) false) None u b0 b1 → AltersWell words c (Held u) None t b1 b2 → Added (Store a (Number (pos 0)) (Held t)) b2 b3 → ActsWell words (action_of (InGlobal a) c) b0 b3
change_global_well a u t c b0 b1 b2 b3 pl al ps k texts roles s is =
    let n = split_named k (InGlobal a) c is in
    let x = last pl s tt (λ later kept h. (h, global_there k a n.0, n.0, refl)) in
    let w = al k texts x.later x.keeps.shaped n.1 x.has tt in
    let z = keeps_added ps w.keeps.shaped (global_there k a n.0, n.0, w.has) in
    let e = global_nodes a c in
    made (action_nodes (action_of (InGlobal a) c)) (keeps_on x.keeps (keeps_on w.keeps z)) (omega arith) (omega arith)

pub change_element_well : {words : Sees} (a t u v : ℕ) (i : Tree One) (oi : Operand) (c : Change) (b0 b1 b2 b3 b4 b5 : Builder) → EmitsWell words i None oi b0 b1 → ChecksWell words a oi t b1 b2 → Last (Load u a (Held t) false) None u b2 b3 → AltersWell words c (Held u) None v b3 b4 → Added (Store a (Held t) (Held v)) b4 b5 → ActsWell words (action_of (InElement a i) c) b0 b5
change_element_well a t u v i oi c b0 b1 b2 b3 b4 b5 ei ck pl al ps k texts roles s is =
    let n = split_named k (InElement a i) c is in
    let x = ei k texts roles s n.0.1 tt in
    let y = ck k texts x.later x.keeps.shaped n.0.0 x.operand in
    let l = last pl y.keeps.shaped tt (λ later kept h. (h, n.0.0, kept t (PlaceOf a) y.has, refl)) in
    let w = al k texts l.later l.keeps.shaped n.1 l.has tt in
    let z = keeps_added ps w.keeps.shaped (n.0.0, w.keeps.kept t (PlaceOf a) (l.keeps.kept t (PlaceOf a) y.has), w.has) in
    let e = element_nodes a i c in
    let p = x.few_generals in let q = x.few_branches in
    made (action_nodes (action_of (InElement a i) c)) (keeps_on x.keeps (keeps_on y.keeps (keeps_on l.keeps (keeps_on w.keeps z)))) (omega arith) (omega arith)
