-- The code of expressions keeps a graph well shaped.
use Rattle.std.proofs.Common.{◌≡◌, ℕ, suc, ◌+◌, ◌*◌, ◌<◌, ◌≤◌, pos, false, List, [], ◌∷◌, ◌++◌, length, Option, Some, None, refl, sym, ap, ◌∙◌, subst, arith}
use Rattle.std.proofs.lemmas.Option.{slice_get_within}
use Rattle.vx_base.specs.declared.arithmetic.Code.TheVariants.{Mov, ToGeneral, ToBranch}
use Rattle.vx_base.specs.declared.arithmetic.Compare.{Compare}
use Rattle.vx_base.specs.declared.arithmetic.Compare.TheVariants.{Ne}
use Rattle.vx_base.specs.declared.outcome.Trap.TheVariants.{Input as ByInput}
use Rattle.vx_ast.specs.declared.tree.UnaryOperator.{UnaryOperator}
use Rattle.vx_ast.specs.declared.tree.UnaryOperator.TheVariants.{Minus, Plus, Not, Complement}
use Rattle.vx_ast.specs.declared.tree.BinaryOperator.{BinaryOperator}
use Rattle.vx_ast.specs.declared.tree.Expression.{Expression}
use Rattle.vx_ast.specs.Tree.{One, Row, Tree, Global, Element, Unary, Binary, Both, Either, Choice, Apply, ReadInt, MoreInput, NoMore, Then, Hand}
use Rattle.vx_ast.specs.View.{tree_of, row_in, argument_before, arguments_in}
use Rattle.vx_ast.specs.Accepted.{nodes_of, takes_of_row}
use Rattle.vx_flow.specs.declared.graph.Bank.TheVariants.{General, Branch}
use Rattle.vx_flow.specs.declared.graph.Operand.{Operand}
use Rattle.vx_flow.specs.declared.graph.Operand.TheVariants.{Held, Number}
use Rattle.vx_flow.specs.declared.graph.Op.TheVariants.{Compute, Load, More, Input}
use Rattle.vx_flow.specs.declared.graph.Exit.TheVariants.{Goto, Call}
use Rattle.vx_lower.specs.Seen.{Sees, size_at}
use Rattle.vx_lower.specs.Holds.{unary_op, jump}
use Rattle.vx_lower.specs.Builds.{reserved, closed, filled, turned_to, with_value}
use Rattle.vx_lower.specs.Emits.{row_before, Aimed, Spare}
use Rattle.vx_lower.specs.Adds.{Added, Trapped, Last, Compared, Delivered}
use Rattle.vx_ast.specs.declared.tree.Argument.{Argument}
use Rattle.vx_lower.specs.declared.seen.Seen.TheVariants.{GlobalArray}
use Rattle.vx_lower.specs.Named.{Known, IsThere, IsGlobal, IsNamed}
use Rattle.vx_lower.specs.Fits.{Role, Scalar, PlaceOf, HasRole, OperandFits, OpFits, ArgumentsFit, Fits, Shaped, Free, Keeps, ChecksWell, StandsWell, CombinesWell, Gives, EmitsWell, Asks, TestsWell, GivesAll, RowsWell, BehindWell}
use Rattle.vx_lower.specs.declared.builder.Builder.{Builder}
use Rattle.vx_lower.proofs.Places.{length_more, set_length}
use Rattle.vx_lower.proofs.Emitting.{spare_closed, spare_filled, spare_reserved}
use Rattle.vx_lower.proofs.Rows.{row_more, arguments_more, named_before, nodes_before, arguments_before}
use Rattle.vx_lower.proofs.Fitting.{operand_on, arguments_on}
use Rattle.vx_lower.proofs.Keeping.{free_closed, free_filled, keeps_self, keeps_on, keeps_most, keeps_reserved, free_reserved, keeps_closed, keeps_filled, keeps_turned, keeps_added, taken_scalar, taken_test, aimed, last, forked, trapped}
use Rattle.vx_lower.proofs.FittingPieces.{dest_on, size_fits}

gives : {words : Sees} {k : Known words} {texts : ℕ} {roles later : List Role} {g h : ℕ} {a b : Builder} (nodes : ℕ) (o : Operand) → Keeps k texts roles later g h a b → OperandFits later o → suc g ≤ 3 * nodes → suc h ≤ 2 * nodes → Gives k texts roles nodes o a b
gives {later = later} {g = g} {h = h} nodes o x f p q = record { later = later; generals = g; branches = h; keeps = x; operand = f; few_generals = p; few_branches = q }

-- places of blocks

up_to : (a b c : ℕ) → a ≤ b → b ≤ c → a ≤ c
up_to a b c p q = omega arith

above : (n l m : ℕ) → n < l → l ≤ m → m ≡ n → ⊥
above n l m p q d = omega arith

not_same : (m j : ℕ) → m < j → j ≡ m → ⊥
not_same m j p d = omega arith

behind : (j l m : ℕ) → l ≡ j + 1 → l ≤ m → m ≡ j → ⊥
behind j l m e q d = omega arith

-- how many values

one_generals : (g n : ℕ) → suc g ≤ 3 * n → suc (g + 0) ≤ 3 * n
one_generals g n p = omega arith

one_branches : (h n : ℕ) → suc h ≤ 2 * n → h + 1 ≤ 2 * n
one_branches h n q = omega arith

two_generals : (g1 g2 n1 n2 : ℕ) → suc g1 ≤ 3 * n1 → suc g2 ≤ 3 * n2 → suc (g1 + (g2 + 0)) ≤ 3 * (1 + n1 + n2)
two_generals g1 g2 n1 n2 p q = omega arith

compared_branches : (h1 h2 n1 n2 : ℕ) → suc h1 ≤ 2 * n1 → suc h2 ≤ 2 * n2 → h1 + (h2 + 1) ≤ 2 * (1 + n1 + n2)
compared_branches h1 h2 n1 n2 p q = omega arith

two_branches : (h1 h2 n1 n2 : ℕ) → h1 ≤ 2 * n1 → h2 ≤ 2 * n2 → h1 + (h2 + 0) ≤ 2 * (1 + n1 + n2)
two_branches h1 h2 n1 n2 p q = omega arith

joined_generals : (g1 g2 n1 n2 : ℕ) → suc g1 ≤ 3 * n1 → suc g2 ≤ 3 * n2 → suc (g1 + g2) ≤ 3 * (1 + n1 + n2)
joined_generals g1 g2 n1 n2 p q = omega arith

joined_branches : (h1 h2 n1 n2 : ℕ) → h1 ≤ 2 * n1 → h2 ≤ 2 * n2 → h1 + h2 ≤ 2 * (1 + n1 + n2)
joined_branches h1 h2 n1 n2 p q = omega arith

-- two arms: where the first one ends, and the second one is open

pub record Halfway {words : Sees} (k : Known words) (texts : ℕ) (roles later : List Role) (g h : ℕ) (a c : Builder) (n : ℕ) : Type 0 where
  pub keeps : Keeps k texts roles later g h a (closed (reserved c) (Goto (length c.blocks)) n)
  pub free : Free (closed (reserved c) (Goto (length c.blocks)) n) (length c.blocks)
  pub spare : Spare (closed (reserved c) (Goto (length c.blocks)) n) (length c.blocks)
  pub late : length a.blocks ≤ length c.blocks

pub halfway : {words : Sees} {k : Known words} {texts : ℕ} {roles later : List Role} {g h : ℕ} {a c : Builder} (n : ℕ) → Keeps k texts roles later g h a c → Spare c n → length a.blocks ≤ n → Halfway k texts roles later g h a c n
halfway {k = k} {later = later} {g = g} {h = h} {a = a} {c = c} n x s late =
    let j = length c.blocks in
    let r = keeps_reserved x.shaped in
    let free = free_reserved x.shaped in
    let w = slice_get_within c.blocks n None s.free in
    record {
      keeps = keeps_closed (Goto j) n (keeps_most g h (omega arith) (omega arith) (keeps_on x r)) (r.spare n s) late free;
      free = free_closed k later (Goto j) n j free free;
      spare = spare_closed (reserved c) (Goto j) n j (spare_reserved c x.shaped.ready) (λ e. omega arith);
      late = x.longer;
    }

pub joined_well : {words : Sees} {k : Known words} {before texts : ℕ} {roles later last : List Role} {g h g2 h2 : ℕ} {a c d : Builder} {n : ℕ} → Halfway k before roles later g h a c n → Keeps k texts later last g2 h2 (closed (reserved c) (Goto (length c.blocks)) n) d → Keeps k texts roles last (g + g2) (h + h2) a (closed d (Goto (length c.blocks)) (length c.blocks))
joined_well {c = c} w y = let j = length c.blocks in keeps_closed (Goto j) j (keeps_on w.keeps y) (y.spare j w.spare) w.late (y.free j w.free)

-- operands

pub well_as : {words : Sees} (dest : Option ℕ) (o : Operand) (a b : Builder) (x y : Tree One) → x ≡ y → EmitsWell words x dest o a b → EmitsWell words y dest o a b
well_as {words} dest o a b x y e f = subst (λ z. EmitsWell words z dest o a b) e f

pub operand_well : {words : Sees} (e : Tree One) (dest : Option ℕ) (o r : Operand) (b b1 : Builder) → ((k : Known words) (texts : ℕ) (roles : List Role) → Fits k texts roles b → IsNamed k e → OperandFits roles o) → nodes_of e ≡ 1 → Delivered dest o r b b1 → EmitsWell words e dest r b b1
operand_well e None o r b b1 fits one d k texts roles s is w = gives (nodes_of e) r (subst (Keeps k texts roles roles 0 0 b) (sym d.1) (keeps_self s)) (subst (OperandFits roles) (sym d.0) (fits k texts roles s.fits is)) (omega arith) (omega arith)
operand_well e (Some t) o r b b1 fits one d k texts roles s is w =
    let x = keeps_added d.1 s (w, fits k texts roles s.fits is, refl) in
    gives (nodes_of e) r x (subst (OperandFits roles) (sym d.0) w) (omega arith) (omega arith)

pub global_there : {words : Sees} (k : Known words) (a : ℕ) → IsGlobal k a → IsThere k a
global_there {words} k a is = slice_get_within words.arrays a (GlobalArray is.0) is.1

pub global_well : {words : Sees} (a t : ℕ) (dest : Option ℕ) (b b1 : Builder) → Last (Load t a (Number (pos 0)) false) dest t b b1 → EmitsWell words (Global a) dest (Held t) b b1
global_well a t dest b b1 p k texts roles s is d =
    let z = last p s d (λ later kept h. (h, global_there k a is, is, refl)) in
    gives 1 (Held t) z.keeps z.has (omega arith) (omega arith)

pub more_well : {words : Sees} (t : ℕ) (dest : Option ℕ) (b b1 : Builder) → Last (More t) dest t b b1 → EmitsWell words MoreInput dest (Held t) b b1
more_well t dest b b1 p k texts roles s is d =
    let z = last p s d (λ later kept h. h) in
    gives 1 (Held t) z.keeps z.has (omega arith) (omega arith)

pub element_well : {words : Sees} (a t place : ℕ) (dest : Option ℕ) (i : Tree One) (index : Operand) (b0 b1 b2 b3 : Builder) → EmitsWell words i None index b0 b1 → ChecksWell words a index place b1 b2 → Last (Load t a (Held place) false) dest t b2 b3 → EmitsWell words (Element a i) dest (Held t) b0 b3
element_well a t place dest i index b0 b1 b2 b3 ei ck pl k texts roles s is d =
    let x = ei k texts roles s is.1 tt in
    let y = ck k texts x.later x.keeps.shaped is.0 x.operand in
    let z = last pl y.keeps.shaped (dest_on x.later y.later y.keeps.kept dest (dest_on roles x.later x.keeps.kept dest d)) (λ later kept h. (h, is.0, kept place (PlaceOf a) y.has, refl)) in
    let p = x.few_generals in let q = x.few_branches in
    gives (1 + nodes_of i) (Held t) (keeps_on x.keeps (keeps_on y.keeps z.keeps)) z.has (omega arith) (omega arith)

unary_fits : {words : Sees} (k : Known words) (texts : ℕ) (roles : List Role) (operator : UnaryOperator) (t : ℕ) (o : Operand) → HasRole roles t Scalar → OperandFits roles o → OpFits k texts roles (unary_op operator t o)
unary_fits k texts roles Minus t o h f = (h, tt, f)
unary_fits k texts roles Plus t o h f = (h, f, refl)
unary_fits k texts roles Not t o h f = (h, f, tt)
unary_fits k texts roles Complement t o h f = (h, f, tt)

pub unary_well : {words : Sees} (operator : UnaryOperator) (t : ℕ) (dest : Option ℕ) (a : Tree One) (o : Operand) (b0 b1 b2 : Builder) → EmitsWell words a None o b0 b1 → Last (unary_op operator t o) dest t b1 b2 → EmitsWell words (Unary operator a) dest (Held t) b0 b2
unary_well operator t dest a o b0 b1 b2 ea pt k texts roles s is d =
    let x = ea k texts roles s is tt in
    let z = last pt x.keeps.shaped (dest_on roles x.later x.keeps.kept dest d) (λ later kept h. unary_fits k texts later operator t o h (operand_on x.later later kept o x.operand)) in
    let p = x.few_generals in let q = x.few_branches in
    gives (1 + nodes_of a) (Held t) (keeps_on x.keeps z.keeps) z.has (omega arith) (omega arith)

pub binary_well : {words : Sees} (operator : BinaryOperator) (t : ℕ) (dest : Option ℕ) (x y : Tree One) (ox oy : Operand) (b0 b1 b2 b3 : Builder) → EmitsWell words x None ox b0 b1 → EmitsWell words y None oy b1 b2 → CombinesWell ox oy dest t b2 b3 → EmitsWell words (Binary operator x y) dest (Held t) b0 b3
binary_well operator t dest x y ox oy b0 b1 b2 b3 ex ey c k texts roles s is d =
    let hx = ex k texts roles s is.0 tt in
    let hy = ey k texts hx.later hx.keeps.shaped is.1 tt in
    let z = c _ k texts hy.later hy.keeps.shaped (operand_on hx.later hy.later hy.keeps.kept ox hx.operand) hy.operand (dest_on hx.later hy.later hy.keeps.kept dest (dest_on roles hx.later hx.keeps.kept dest d)) in
    let p1 = hx.few_generals in let q1 = hx.few_branches in let p2 = hy.few_generals in let q2 = hy.few_branches in
    gives (1 + nodes_of x + nodes_of y) (Held t) (keeps_on hx.keeps (keeps_on hy.keeps z.keeps)) z.has (omega arith) (omega arith)

pub read_well : {words : Sees} (v c t : ℕ) (dest : Option ℕ) (b0 b1 b2 b3 b4 b5 : Builder) → (v ≡ length b0.banks) × (b1 ≡ with_value b0 General) → Added (More v) b1 b2 → (c ≡ length b2.banks) × (b3 ≡ with_value b2 Branch) → Trapped (Compute (ToBranch Ne) c (Held v) (Number (pos 0))) c ByInput b3 b4 → Last (Input t) dest t b4 b5 → EmitsWell words ReadInt dest (Held t) b0 b5
read_well v c t dest b0 b1 b2 b3 b4 b5 ev pv ec pc pt k texts roles s is d =
    let x = taken_scalar ev s in
    let p = keeps_added pv x.keeps.shaped x.has in
    let y = taken_test ec p.shaped in
    let g = trapped pc y.keeps.shaped (y.has, y.keeps.kept v Scalar x.has, tt) y.has in
    let z = last pt g.shaped (dest_on x.later y.later y.keeps.kept dest (dest_on roles x.later x.keeps.kept dest d)) (λ later kept h. h) in
    gives 1 (Held t) (keeps_on x.keeps (keeps_on p (keeps_on y.keeps (keeps_on g z.keeps)))) z.has (omega arith) (omega arith)

pub both_well : {words : Sees} (t n j : ℕ) (dest : Option ℕ) (x y : Tree One) (oy : Operand) (b0 b2 b3 b4 b5 b6 b7 b8 : Builder) → TestsWell words x n b0 b2 → Aimed dest t b2 b3 → EmitsWell words y None oy b3 b4 → Added (Compute (ToGeneral Ne) t oy (Number (pos 0))) b4 b5 → (j ≡ length b5.blocks) × (b6 ≡ closed (reserved b5) (Goto j) n) → Added (Compute Mov t (Number (pos 0)) (Number (pos 0))) b6 b7 → b8 ≡ closed b7 (Goto j) j → EmitsWell words (Both x y) dest (Held t) b0 b8
both_well t n j dest x y oy b0 b2 b3 b4 b5 b6 b7 b8 ex ai ey pf ej pn e8 k texts roles s is d =
    let jj = length b5.blocks in
    let c6 : b6 ≡ closed (reserved b5) (Goto jj) n = ej.1 ∙ ap (λ m. closed (reserved b5) (Goto m) n) ej.0 in
    let c8 : b8 ≡ closed b7 (Goto jj) jj = e8 ∙ ap (λ m. closed b7 (Goto m) m) ej.0 in
    let hx = ex k texts roles s is.0 in
    let a = aimed dest t b2 b3 ai hx.keeps.shaped (dest_on roles hx.later hx.keeps.kept dest d) in
    let hy = ey k texts a.later a.keeps.shaped is.1 tt in
    let has = hy.keeps.kept t Scalar a.has in
    let p = keeps_added pf hy.keeps.shaped (has, hy.operand, tt) in
    let second = keeps_on a.keeps (keeps_on hy.keeps p) in
    let w = halfway n (keeps_on hx.keeps second) (second.spare n hx.waits) hx.late in
    let q = keeps_added (subst (λ z. Added (Compute Mov t (Number (pos 0)) (Number (pos 0))) z b7) c6 pn) w.keeps.shaped (has, tt, refl) in
    let all = joined_well w q in
    let p1 = hx.few_generals in let q1 = hx.few_branches in let p2 = hy.few_generals in let q2 = hy.few_branches in
    subst (Gives k texts roles (1 + nodes_of x + nodes_of y) (Held t) b0) (sym c8) (gives (1 + nodes_of x + nodes_of y) (Held t) all has (omega arith) (omega arith))

pub either_well : {words : Sees} (t n j : ℕ) (dest : Option ℕ) (x y : Tree One) (oy : Operand) (b0 b2 b3 b4 b5 b6 b7 b8 : Builder) → TestsWell words x n b0 b2 → Aimed dest t b2 b3 → Added (Compute Mov t (Number (pos 1)) (Number (pos 0))) b3 b4 → (j ≡ length b4.blocks) × (b5 ≡ closed (reserved b4) (Goto j) n) → EmitsWell words y None oy b5 b6 → Added (Compute (ToGeneral Ne) t oy (Number (pos 0))) b6 b7 → b8 ≡ closed b7 (Goto j) j → EmitsWell words (Either x y) dest (Held t) b0 b8
either_well {words} t n j dest x y oy b0 b2 b3 b4 b5 b6 b7 b8 ex ai po ej ey pf e8 k texts roles s is d =
    let jj = length b4.blocks in
    let c5 : b5 ≡ closed (reserved b4) (Goto jj) n = ej.1 ∙ ap (λ m. closed (reserved b4) (Goto m) n) ej.0 in
    let c8 : b8 ≡ closed b7 (Goto jj) jj = e8 ∙ ap (λ m. closed b7 (Goto m) m) ej.0 in
    let hx = ex k texts roles s is.0 in
    let a = aimed dest t b2 b3 ai hx.keeps.shaped (dest_on roles hx.later hx.keeps.kept dest d) in
    let p = keeps_added po a.keeps.shaped (a.has, tt, refl) in
    let second = keeps_on a.keeps p in
    let w = halfway n (keeps_on hx.keeps second) (second.spare n hx.waits) hx.late in
    let ey5 = subst (λ z. EmitsWell words y None oy z b6) c5 ey in
    let hy = ey5 k texts a.later w.keeps.shaped is.1 tt in
    let has = hy.keeps.kept t Scalar a.has in
    let q = keeps_added pf hy.keeps.shaped (has, hy.operand, tt) in
    let all = joined_well w (keeps_on hy.keeps q) in
    let p1 = hx.few_generals in let q1 = hx.few_branches in let p2 = hy.few_generals in let q2 = hy.few_branches in
    subst (Gives k texts roles (1 + nodes_of x + nodes_of y) (Held t) b0) (sym c8) (gives (1 + nodes_of x + nodes_of y) (Held t) all has (omega arith) (omega arith))

pub choice_well : {words : Sees} (t n j : ℕ) (dest : Option ℕ) (c x y : Tree One) (ox oy : Operand) (b0 b2 b3 b4 b5 b6 b7 : Builder) → TestsWell words c n b0 b2 → Aimed dest t b2 b3 → EmitsWell words x (Some t) ox b3 b4 → (j ≡ length b4.blocks) × (b5 ≡ closed (reserved b4) (Goto j) n) → EmitsWell words y (Some t) oy b5 b6 → b7 ≡ closed b6 (Goto j) j → EmitsWell words (Choice c x y) dest (Held t) b0 b7
choice_well {words} t n j dest c x y ox oy b0 b2 b3 b4 b5 b6 b7 ec ai ex ej ey e7 k texts roles s is d =
    let jj = length b4.blocks in
    let c5 : b5 ≡ closed (reserved b4) (Goto jj) n = ej.1 ∙ ap (λ m. closed (reserved b4) (Goto m) n) ej.0 in
    let c7 : b7 ≡ closed b6 (Goto jj) jj = e7 ∙ ap (λ m. closed b6 (Goto m) m) ej.0 in
    let hc = ec k texts roles s is.0 in
    let a = aimed dest t b2 b3 ai hc.keeps.shaped (dest_on roles hc.later hc.keeps.kept dest d) in
    let hx = ex k texts a.later a.keeps.shaped is.1 a.has in
    let second = keeps_on a.keeps hx.keeps in
    let w = halfway n (keeps_on hc.keeps second) (second.spare n hc.waits) hc.late in
    let ey5 = subst (λ z. EmitsWell words y (Some t) oy z b6) c5 ey in
    let hy = ey5 k texts hx.later w.keeps.shaped is.2 (hx.keeps.kept t Scalar a.has) in
    let has = hy.keeps.kept t Scalar (hx.keeps.kept t Scalar a.has) in
    let all = joined_well w hy.keeps in
    let p0 = hc.few_generals in let q0 = hc.few_branches in let p1 = hx.few_generals in let q1 = hx.few_branches in let p2 = hy.few_generals in let q2 = hy.few_branches in
    subst (Gives k texts roles (1 + nodes_of c + nodes_of x + nodes_of y) (Held t) b0) (sym c7) (gives (1 + nodes_of c + nodes_of x + nodes_of y) (Held t) all has (omega arith) (omega arith))

pub call_well : {words : Sees} (f t n : ℕ) (dest : Option ℕ) (row : Tree Row) (os : List Operand) (b0 b1 b2 b3 b4 : Builder) → RowsWell words row os b0 b1 → Aimed dest t b1 b2 → (n ≡ length b2.blocks) × (b3 ≡ reserved b2) → b4 ≡ closed b3 (Call f os (Some t) n) n → EmitsWell words (Apply f row) dest (Held t) b0 b4
call_well f t n dest row os b0 b1 b2 b3 b4 args ai en e4 k texts roles s is d =
    let nn = length b2.blocks in
    let c4 : b4 ≡ closed (reserved b2) (Call f os (Some t) nn) nn = e4 ∙ ap (λ z. closed z (Call f os (Some t) n) n) en.1 ∙ ap (λ m. closed (reserved b2) (Call f os (Some t) m) m) en.0 in
    let x = args k texts roles s is.1 in
    let a = aimed dest t b1 b2 ai x.keeps.shaped (dest_on roles x.later x.keeps.kept dest d) in
    let r = keeps_reserved a.keeps.shaped in
    let l1 = x.keeps.longer in let l2 = a.keeps.longer in
    let all = keeps_closed (Call f os (Some t) nn) nn (keeps_on x.keeps (keeps_on a.keeps r)) (spare_reserved b2 a.keeps.shaped.ready) (omega arith) ((takes_of_row row, is.0, arguments_on x.later a.later a.keeps.kept (takes_of_row row) os x.operands), a.has, free_reserved a.keeps.shaped) in
    let p = x.few_generals in let q = x.few_branches in
    subst (Gives k texts roles (1 + nodes_of row) (Held t) b0) (sym c4) (gives (1 + nodes_of row) (Held t) all a.has (omega arith) (omega arith))

-- tests

asks : {words : Sees} {k : Known words} {texts : ℕ} {roles later : List Role} {g h : ℕ} {a b : Builder} (nodes n : ℕ) → Keeps k texts roles later g h a b → Spare b n → length a.blocks ≤ n → length a.blocks ≤ b.current → suc g ≤ 3 * nodes → h ≤ 2 * nodes → Asks k texts roles nodes n a b
asks {later = later} {g = g} {h = h} nodes n x s l m p q = record { later = later; generals = g; branches = h; keeps = x; waits = s; late = l; moved = m; few_generals = p; few_branches = q }

pub tests_well_as : {words : Sees} (n : ℕ) (a b : Builder) (x y : Tree One) → x ≡ y → TestsWell words x n a b → TestsWell words y n a b
tests_well_as {words} n a b x y e f = subst (λ z. TestsWell words z n a b) e f

-- a compare is tested
pub record Compares {words : Sees} (k : Known words) (texts : ℕ) (roles : List Role) (n : ℕ) (a b : Builder) : Type 0 where
  pub later : List Role
  pub keeps : Keeps k texts roles later 0 1 a b
  pub waits : Spare b n
  pub late : length a.blocks ≤ n
  pub moved : length a.blocks ≤ b.current

compares : {words : Sees} {k : Known words} {texts : ℕ} {roles : List Role} {compare : Compare} {left right : Operand} {n : ℕ} {a b : Builder} → Compared compare left right n a b → Shaped k texts roles a → OperandFits roles left → OperandFits roles right → Compares k texts roles n a b
compares {roles = roles} {left = left} {right = right} x s fl fr =
    let c = taken_test x.taken s in
    let f = forked x.forked c.keeps.shaped (c.has, operand_on roles c.later c.keeps.kept left fl, operand_on roles c.later c.keeps.kept right fr) c.has in
    let l1 = c.keeps.longer in let l2 = f.late in let l3 = f.moved in
    record { later = c.later; keeps = keeps_on c.keeps f.keeps; waits = f.waits; late = omega arith; moved = omega arith }

pub value_tested : {words : Sees} (n : ℕ) (x : Tree One) (o : Operand) (b0 b1 b2 : Builder) → EmitsWell words x None o b0 b1 → Compared Ne o (Number (pos 0)) n b1 b2 → TestsWell words x n b0 b2
value_tested n x o b0 b1 b2 ex c k texts roles s is =
    let hx = ex k texts roles s is tt in
    let t = compares c hx.keeps.shaped hx.operand tt in
    asks (nodes_of x) n (keeps_on hx.keeps t.keeps) t.waits (up_to (length b0.blocks) (length b1.blocks) n hx.keeps.longer t.late) (up_to (length b0.blocks) (length b1.blocks) b2.current hx.keeps.longer t.moved)
    (one_generals hx.generals (nodes_of x) hx.few_generals) (one_branches hx.branches (nodes_of x) hx.few_branches)

pub compare_tested : {words : Sees} (operator : BinaryOperator) (compare : Compare) (n : ℕ) (x y : Tree One) (ox oy : Operand) (b0 b1 b2 b3 : Builder) → EmitsWell words x None ox b0 b1 → EmitsWell words y None oy b1 b2 → Compared compare ox oy n b2 b3 → TestsWell words (Binary operator x y) n b0 b3
compare_tested operator compare n x y ox oy b0 b1 b2 b3 ex ey c k texts roles s is =
    let hx = ex k texts roles s is.0 tt in
    let hy = ey k texts hx.later hx.keeps.shaped is.1 tt in
    let t = compares c hy.keeps.shaped (operand_on hx.later hy.later hy.keeps.kept ox hx.operand) hy.operand in
    let l = up_to (length b0.blocks) (length b1.blocks) (length b2.blocks) hx.keeps.longer hy.keeps.longer in
    asks (1 + nodes_of x + nodes_of y) n (keeps_on hx.keeps (keeps_on hy.keeps t.keeps)) t.waits (up_to (length b0.blocks) (length b2.blocks) n l t.late) (up_to (length b0.blocks) (length b2.blocks) b3.current l t.moved)
    (two_generals hx.generals hy.generals (nodes_of x) (nodes_of y) hx.few_generals hy.few_generals) (compared_branches hx.branches hy.branches (nodes_of x) (nodes_of y) hx.few_branches hy.few_branches)

pub not_tested : {words : Sees} (n y : ℕ) (x : Tree One) (b0 b1 b2 : Builder) → TestsWell words x n b0 b1 → (y ≡ b1.current) × (b2 ≡ turned_to b1 n) → TestsWell words (Unary Not x) y b0 b2
not_tested n y x b0 b1 b2 ex e k texts roles s is =
    let hx = ex k texts roles s is in
    let w : Spare (turned_to b1 n) b1.current = record { free = hx.keeps.shaped.ready.is; apart = λ d. hx.waits.apart (sym d) } in
    let p = hx.few_generals in let q = hx.few_branches in
    subst (λ z. Asks k texts roles (1 + nodes_of x) z b0 b2) (sym e.0)
    (subst (Asks k texts roles (1 + nodes_of x) b1.current b0) (sym e.1)
    (asks (1 + nodes_of x) b1.current (keeps_turned n hx.keeps hx.waits hx.late) w hx.moved hx.late (omega arith) (omega arith)))

pub both_asked : {words : Sees} (n m j : ℕ) (x y : Tree One) (b0 b1 b2 b3 : Builder) → TestsWell words x n b0 b1 → TestsWell words y m b1 b2 → (j ≡ length b2.blocks) × (b3 ≡ filled (filled (reserved b2) n (jump j)) m (jump j)) → TestsWell words (Both x y) j b0 b3
both_asked n m j x y b0 b1 b2 b3 ex ey e k texts roles s is =
    let jj = length b2.blocks in
    let c3 : b3 ≡ filled (filled (reserved b2) n (jump jj)) m (jump jj) = e.1 ∙ ap (λ z. filled (filled (reserved b2) n (jump z)) m (jump z)) e.0 in
    let hx = ex k texts roles s is.0 in
    let hy = ey k texts hx.later hx.keeps.shaped is.1 in
    let r = keeps_reserved hy.keeps.shaped in
    let b4 = reserved b2 in
    let sn = r.spare n (hy.keeps.spare n hx.waits) in
    let sm = r.spare m hy.waits in
    let sj = spare_reserved b2 hy.keeps.shaped.ready in
    let free = free_reserved hy.keeps.shaped in
    let wn = slice_get_within b1.blocks n None hx.waits.free in
    let wm = slice_get_within b2.blocks m None hy.waits.free in
    let b5 = filled b4 n (jump jj) in
    let one = keeps_filled (Goto jj) n (keeps_on hx.keeps (keeps_on hy.keeps r)) sn hx.late free in
    let sm5 = spare_filled b4 n m (jump jj) sm (above n (length b1.blocks) m wn hy.late) in
    let sj5 = spare_filled b4 n jj (jump jj) sj (above n (length b1.blocks) jj wn hy.keeps.longer) in
    let free5 = free_filled b4 n (jump jj) jj (λ d. d) free in
    let two = keeps_filled (Goto jj) m one sm5 (up_to (length b0.blocks) (length b1.blocks) m hx.keeps.longer hy.late) free5 in
    let sj6 = spare_filled b5 m jj (jump jj) sj5 (not_same m jj wm) in
    subst (λ z. Asks k texts roles (1 + nodes_of x + nodes_of y) z b0 b3) (sym e.0)
    (subst (Asks k texts roles (1 + nodes_of x + nodes_of y) jj b0) (sym c3)
    (asks (1 + nodes_of x + nodes_of y) jj two sj6 (up_to (length b0.blocks) (length b1.blocks) jj hx.keeps.longer hy.keeps.longer) (up_to (length b0.blocks) (length b1.blocks) b2.current hx.keeps.longer hy.moved)
    (two_generals hx.generals hy.generals (nodes_of x) (nodes_of y) hx.few_generals hy.few_generals) (two_branches hx.branches hy.branches (nodes_of x) (nodes_of y) hx.few_branches hy.few_branches)))

pub either_asked : {words : Sees} (n m j : ℕ) (x y : Tree One) (b0 b1 b2 b3 b4 : Builder) → TestsWell words x n b0 b1 → (j ≡ length b1.blocks) × (b2 ≡ closed (reserved b1) (Goto j) n) → TestsWell words y m b2 b3 → b4 ≡ closed b3 (Goto j) j → TestsWell words (Either x y) m b0 b4
either_asked {words} n m j x y b0 b1 b2 b3 b4 ex ej ey e4 k texts roles s is =
    let jj = length b1.blocks in
    let b2c = closed (reserved b1) (Goto jj) n in
    let c2 : b2 ≡ b2c = ej.1 ∙ ap (λ z. closed (reserved b1) (Goto z) n) ej.0 in
    let c4 : b4 ≡ closed b3 (Goto jj) jj = e4 ∙ ap (λ z. closed b3 (Goto z) z) ej.0 in
    let hx = ex k texts roles s is.0 in
    let w = halfway n hx.keeps hx.waits hx.late in
    let ey2 = subst (λ z. TestsWell words y m z b3) c2 ey in
    let hy = ey2 k texts hx.later w.keeps.shaped is.1 in
    let lr : length b2c.blocks ≡ length b1.blocks + 1 = set_length (reserved b1).blocks b1.current (Some (record { ops = b1.ops; exit = Goto jj })) ∙ length_more b1.blocks None in
    let waits = spare_closed b3 (Goto jj) jj m hy.waits (behind jj (length b2c.blocks) m lr hy.late) in
    subst (Asks k texts roles (1 + nodes_of x + nodes_of y) m b0) (sym c4)
    (asks (1 + nodes_of x + nodes_of y) m (joined_well w hy.keeps) waits (up_to (length b0.blocks) (length b2c.blocks) m w.keeps.longer hy.late) hx.keeps.longer
    (joined_generals hx.generals hy.generals (nodes_of x) (nodes_of y) hx.few_generals hy.few_generals) (joined_branches hx.branches hy.branches (nodes_of x) (nodes_of y) hx.few_branches hy.few_branches))

-- rows

gives_all : {words : Sees} {k : Known words} {texts : ℕ} {roles later : List Role} {g h : ℕ} {a b : Builder} (row : Tree Row) (os : List Operand) → Keeps k texts roles later g h a b → ArgumentsFit later (takes_of_row row) os → g ≤ 3 * nodes_of row → h ≤ 2 * nodes_of row → GivesAll k texts roles row os a b
gives_all {later = later} {g = g} {h = h} row os x f p q = record { later = later; generals = g; branches = h; keeps = x; operands = f; few_generals = p; few_branches = q }

pub no_row : {words : Sees} (b : Builder) → RowsWell words NoMore [] b b
no_row b k texts roles s is = gives_all NoMore [] (keeps_self s) tt (omega arith) (omega arith)

-- one number, and one array
pub number_row : {words : Sees} (e : Tree One) (o : Operand) (b0 b1 : Builder) → EmitsWell words e None o b0 b1 → RowsWell words (Then e NoMore) (o ∷ []) b0 b1
number_row e o b0 b1 ex k texts roles s is =
    let y = ex k texts roles s is.0 tt in
    let p = y.few_generals in let q = y.few_branches in
    let n : nodes_of (Then e NoMore) ≡ nodes_of e + 0 = refl in
    gives_all (Then e NoMore) (o ∷ []) y.keeps (y.operand, tt) (omega arith) (omega arith)

pub array_row : {words : Sees} (a v : ℕ) (size : Operand) (b0 b1 : Builder) → size ≡ size_at words a → StandsWell words a v b0 b1 → RowsWell words (Hand a NoMore) (Held v ∷ size ∷ []) b0 b1
array_row a v size b0 b1 e st k texts roles s is =
    let y = st k texts roles s is.0 in
    let n : nodes_of (Hand a NoMore) ≡ 1 + 0 = refl in
    gives_all (Hand a NoMore) (Held v ∷ size ∷ []) y.keeps (y.has, size_fits k texts y.later b1 a size e y.keeps.shaped, tt) (omega arith) (omega arith)

-- more behind them
pub row_on : {words : Sees} (front more : Tree Row) (os own os2 : List Operand) (b0 b1 b2 : Builder) → RowsWell words front os b0 b1 → ((k : Known words) (texts : ℕ) (roles : List Role) → Shaped k texts roles b1 → IsNamed k more → GivesAll k texts roles more own b1 b2) → os2 ≡ os ++ own → RowsWell words (row_before front more) os2 b0 b2
row_on front more os own os2 b0 b1 b2 row ex eq k texts roles s is =
    let n = named_before k front more is in
    let x = row k texts roles s n.0 in
    let y = ex k texts x.later x.keeps.shaped n.1 in
    let nodes = nodes_before front more in
    let p1 = x.few_generals in let q1 = x.few_branches in let p2 = y.few_generals in let q2 = y.few_branches in
    subst (λ z. GivesAll k texts roles (row_before front more) z b0 b2) (sym eq)
    (gives_all (row_before front more) (os ++ own) (keeps_on x.keeps y.keeps) (arguments_before y.later front more os own (arguments_on x.later y.later y.keeps.kept (takes_of_row front) os x.operands) y.operands) (omega arith) (omega arith))

pub more_row : {words : Sees} (xs : List Expression) (e : Expression) (os os2 : List Operand) (o : Operand) (b0 b1 b2 : Builder) → RowsWell words (row_in xs) os b0 b1 → EmitsWell words (tree_of e) None o b1 b2 → os2 ≡ os ++ o ∷ [] → RowsWell words (row_in (xs ++ e ∷ [])) os2 b0 b2
more_row {words} xs e os os2 o b0 b1 b2 row ex eq = subst (λ z. RowsWell words z os2 b0 b2) (row_more xs e) (row_on (row_in xs) (Then (tree_of e) NoMore) os (o ∷ []) os2 b0 b1 b2 row (number_row (tree_of e) o b1 b2 ex) eq)

pub behind_well : {words : Sees} (row : Tree Row) (own before after : List Operand) (b0 b1 : Builder) → after ≡ before ++ own → RowsWell words row own b0 b1 → BehindWell words row before after b0 b1
behind_well row own before after b0 b1 e x k texts roles s is = record { own = own; is = e; gives = x k texts roles s is }

pub more_arguments_well : {words : Sees} (xs : List Argument) (x : Argument) (os os2 : List Operand) (b0 b1 b2 : Builder) → RowsWell words (arguments_in xs) os b0 b1 → BehindWell words (argument_before x NoMore) os os2 b1 b2 → RowsWell words (arguments_in (xs ++ x ∷ [])) os2 b0 b2
more_arguments_well {words} xs x os os2 b0 b1 b2 row behind k texts roles s is =
    let m = subst (IsNamed k) (sym (arguments_more xs x)) is in
    let n = named_before k (arguments_in xs) (argument_before x NoMore) m in
    let y = row k texts roles s n.0 in
    let z = behind k texts y.later y.keeps.shaped n.1 in
    let nodes = nodes_before (arguments_in xs) (argument_before x NoMore) in
    let p1 = y.few_generals in let q1 = y.few_branches in let p2 = z.gives.few_generals in let q2 = z.gives.few_branches in
    subst (λ r. GivesAll k texts roles r os2 b0 b2) (arguments_more xs x)
    (subst (λ r. GivesAll k texts roles (row_before (arguments_in xs) (argument_before x NoMore)) r b0 b2) (sym z.is)
    (gives_all (row_before (arguments_in xs) (argument_before x NoMore)) (os ++ z.own) (keeps_on y.keeps z.gives.keeps) (arguments_before z.gives.later (arguments_in xs) (argument_before x NoMore) os z.own (arguments_on y.later z.gives.later z.gives.keeps.kept (takes_of_row (arguments_in xs)) os y.operands) z.gives.operands) (omega arith) (omega arith)))
