-- The code of statements keeps a graph well shaped.
use Rattle.std.proofs.Common.{◌≡◌, ℕ, zero, suc, ◌+◌, ◌*◌, ◌<◌, ◌≤◌, pos, List, [], ◌∷◌, ◌++◌, length, get_or, Option, Some, None, refl, sym, ap, ◌∙◌, subst, inl, inr, arith}
use Rattle.std.proofs.lemmas.List.{length-append}
use Rattle.vx_base.specs.declared.arithmetic.Code.TheVariants.{Add, Mov, ToBranch}
use Rattle.vx_base.specs.declared.arithmetic.Compare.TheVariants.{Lt}
use Rattle.vx_ast.specs.declared.tree.Item.{Item}
use Rattle.vx_ast.specs.View.{item_of, items_of}
use Rattle.vx_ast.specs.Accepted.{nodes_of, action_nodes, code_nodes, scalars_of}
use Rattle.vx_ast.specs.Tree.{One, Row, Tree, Action, Code, Nothing, Empty, Block as Braces, Clear, Declare, ClearArray, Simply, Head, Print, If, IfElse, Break, Continue, Return, ReturnValue}
use Rattle.vx_flow.specs.declared.graph.Bank.TheVariants.{General, Branch}
use Rattle.vx_flow.specs.declared.graph.Operand.{Operand}
use Rattle.vx_flow.specs.declared.graph.Operand.TheVariants.{Held, Number}
use Rattle.vx_flow.specs.declared.graph.Op.TheVariants.{Compute, Place, Store, Text, Decimal}
use Rattle.vx_flow.specs.declared.graph.Exit.{Exit}
use Rattle.vx_flow.specs.declared.graph.Exit.TheVariants.{Goto, Split, Call, Return as Returns, Ends}
use Rattle.vx_flow.specs.Effects.{IsIn}
use Rattle.vx_flow.specs.Sound.{MakesPlace, by_itself}
use Rattle.vx_lower.specs.declared.seen.Seen.TheVariants.{OwnArray}
use Rattle.std.proofs.lemmas.Option.{slice_get_within, get_or_from_slice_get}
use Rattle.vx_lower.proofs.Rows.{all_numbers}
use Rattle.vx_lower.proofs.FittingPieces.{size_fits}
use Rattle.vx_lower.specs.Seen.{Sees, seen_at, size_at}
use Rattle.vx_lower.specs.Builds.{reserved, closed, with_value}
use Rattle.vx_lower.specs.Emits.{Spare}
use Rattle.vx_lower.specs.Adds.{Added, Forked, Last}
use Rattle.vx_lower.specs.Makes.{way_exit}
use Rattle.vx_lower.specs.Named.{Known, CodeNamed}
use Rattle.vx_lower.specs.Fits.{NotHanded, PlaceOf, Role, Scalar, OperandFits, Shaped, Free, Keeps, EmitsWell, TestsWell, RowsWell, ActsWell}
use Rattle.vx_lower.specs.StatementFits.{MadeBy, PlainWell, WayFree, StatementWell, LoopTestWell, WordWell, ShowsWell}
use Rattle.vx_lower.specs.declared.builder.Builder.{Builder}
use Rattle.vx_lower.proofs.Places.{length_more, set_length}
use Rattle.vx_lower.proofs.Emitting.{spare_closed, spare_reserved}
use Rattle.vx_lower.proofs.Keeping.{Makes, Leaves, free_closed, keeps_self, keeps_on, keeps_most, keeps_reserved, free_reserved, keeps_closed, keeps_entered, keeps_added, shaped_texts, taken_test, taken_made, last, forked}
use Rattle.vx_lower.proofs.FittingTrees.{halfway, joined_well}

pub made_by : {words : Sees} {k : Known words} {texts : ℕ} {roles later : List Role} {g h : ℕ} {a b : Builder} (s : Code) → Keeps k texts roles later g h a b → g + length (scalars_of s) ≤ 3 * code_nodes s → h ≤ 2 * code_nodes s → MadeBy k texts roles s a b
made_by {later = later} {g = g} {h = h} s x p q = record { later = later; generals = g; branches = h; keeps = x; few_generals = p; few_branches = q }

pub plain_well_as : {words : Sees} (a b : Builder) (x y : Code) → x ≡ y → PlainWell words x a b → PlainWell words y a b
plain_well_as {words} a b x y e f = subst (λ z. PlainWell words z a b) e f

pub statement_well_as : {words : Sees} (leaves again : Option ℕ) (a b : Builder) (s t : List (List ℕ)) (x y : Code) → x ≡ y → StatementWell words x leaves again a b s t → StatementWell words y leaves again a b s t
statement_well_as {words} leaves again a b s t x y e f = subst (λ z. StatementWell words z leaves again a b s t) e f

-- how many values

more_generals : (g1 g2 s1 s2 s n1 n2 n : ℕ) → g1 + s1 ≤ 3 * n1 → g2 + s2 ≤ 3 * n2 → s ≡ s1 + s2 → n ≡ n1 + n2 → g1 + g2 + s ≤ 3 * n
more_generals g1 g2 s1 s2 s n1 n2 n p q e f = omega arith

more_branches : (h1 h2 n1 n2 n : ℕ) → h1 ≤ 2 * n1 → h2 ≤ 2 * n2 → n ≡ n1 + n2 → h1 + h2 ≤ 2 * n
more_branches h1 h2 n1 n2 n p q f = omega arith

if_generals : (g1 g2 s n1 n2 : ℕ) → suc g1 ≤ 3 * n1 → g2 + s ≤ 3 * n2 → g1 + g2 + 0 + s ≤ 3 * (1 + n1 + n2)
if_generals g1 g2 s n1 n2 p q = omega arith

if_branches : (h1 h2 n1 n2 : ℕ) → h1 ≤ 2 * n1 → h2 ≤ 2 * n2 → h1 + h2 + 0 ≤ 2 * (1 + n1 + n2)
if_branches h1 h2 n1 n2 p q = omega arith

else_generals : (g1 g2 g3 s2 s3 s n1 n2 n3 : ℕ) → suc g1 ≤ 3 * n1 → g2 + s2 ≤ 3 * n2 → g3 + s3 ≤ 3 * n3 → s ≡ s2 + s3 → g1 + g2 + g3 + s ≤ 3 * (1 + n1 + n2 + n3)
else_generals g1 g2 g3 s2 s3 s n1 n2 n3 p1 p2 p3 e = omega arith

else_branches : (h1 h2 h3 n1 n2 n3 : ℕ) → h1 ≤ 2 * n1 → h2 ≤ 2 * n2 → h3 ≤ 2 * n3 → h1 + h2 + h3 ≤ 2 * (1 + n1 + n2 + n3)
else_branches h1 h2 h3 n1 n2 n3 q1 q2 q3 = omega arith

up_to : (a b c : ℕ) → a ≤ b → b ≤ c → a ≤ c
up_to a b c p q = omega arith

-- blocks that others lead to

-- a block is entered
pub record Enters {words : Sees} (k : Known words) (texts : ℕ) (roles : List Role) (h : ℕ) (a b : Builder) : Type 0 where
  pub keeps : Keeps k texts roles roles 0 0 a b
  pub free : Free b h

pub enters_well : {words : Sees} {k : Known words} {texts : ℕ} {roles : List Role} (h : ℕ) (a b : Builder) → (h ≡ length a.blocks) × (b ≡ closed (reserved a) (Goto h) h) → Shaped k texts roles a → Enters k texts roles h a b
enters_well {k} {texts} {roles} h a b e s =
    let n = length a.blocks in
    let is : b ≡ closed (reserved a) (Goto n) n = e.1 ∙ ap (λ m. closed (reserved a) (Goto m) m) e.0 in
    let f = free_reserved s in
    record {
      keeps = subst (Keeps k texts roles roles 0 0 a) (sym is) (keeps_entered s);
      free = subst (λ z. Free z h) (sym is) (subst (Free (closed (reserved a) (Goto n) n)) (sym e.0) (free_closed k roles (Goto n) n n f f));
    }

-- a block waits
pub record Reserves {words : Sees} (k : Known words) (texts : ℕ) (roles : List Role) (n : ℕ) (a b : Builder) : Type 0 where
  pub keeps : Keeps k texts roles roles 0 0 a b
  pub free : Free b n
  pub spare : Spare b n
  pub at : n ≡ length a.blocks
  pub more : length b.blocks ≡ n + 1

pub reserves_well : {words : Sees} {k : Known words} {texts : ℕ} {roles : List Role} (n : ℕ) (a b : Builder) → (n ≡ length a.blocks) × (b ≡ reserved a) → Shaped k texts roles a → Reserves k texts roles n a b
reserves_well {k} {texts} {roles} n a b e s =
    let l = length_more a.blocks None in let m = e.0 in
    let more : length b.blocks ≡ length (reserved a).blocks = ap (λ z. length z.blocks) e.1 in
    record {
      keeps = subst (Keeps k texts roles roles 0 0 a) (sym e.1) (keeps_reserved s);
      free = subst (λ z. Free z n) (sym e.1) (subst (Free (reserved a)) (sym e.0) (free_reserved s));
      spare = subst (λ z. Spare z n) (sym e.1) (subst (Spare (reserved a)) (sym e.0) (spare_reserved a s.ready));
      at = e.0;
      more = omega arith;
    }

-- the open block goes to one that is there, and one that waits is open
pub record Turned {words : Sees} (k : Known words) (texts : ℕ) (roles later : List Role) (g h n : ℕ) (a b c : Builder) : Type 0 where
  pub keeps : Keeps k texts roles later g h a c
  pub free : (m : ℕ) → Free b m → Free c m
  pub spare : (m : ℕ) → Spare b m → (m ≡ n → ⊥) → Spare c m
  pub blocks : length c.blocks ≡ length b.blocks

pub turned_well : {words : Sees} {k : Known words} {texts : ℕ} {roles later : List Role} {g h : ℕ} (target n : ℕ) (a b c : Builder) → c ≡ closed b (Goto target) n → Keeps k texts roles later g h a b → Spare b n → length a.blocks ≤ n → Free b target → Turned k texts roles later g h n a b c
turned_well {k} {texts} {roles} {later} {g} {h} target n a b c e x s late f = record {
  keeps = subst (Keeps k texts roles later g h a) (sym e) (keeps_closed (Goto target) n x s late f);
  free = λ m q. subst (λ z. Free z m) (sym e) (free_closed k later (Goto target) n m f q);
  spare = λ m q d. subst (λ z. Spare z m) (sym e) (spare_closed b (Goto target) n m q d);
  blocks = ap (λ z. length z.blocks) e ∙ set_length b.blocks b.current (Some (record { ops = b.ops; exit = Goto target }));
}

-- a block that nothing leads to is open

leaves_reserved : {words : Sees} (k : Known words) (texts : ℕ) (roles : List Role) (b : Builder) (exit : Exit) → Shaped k texts roles b → Leaves k roles b exit → Leaves k roles (reserved b) exit
leaves_reserved k texts roles b (Goto c) s h = (keeps_reserved s).free c h
leaves_reserved k texts roles b (Split test c d) s h = h
leaves_reserved k texts roles b (Call f os result c) s h = (h.0, h.1, (keeps_reserved s).free c h.2)
leaves_reserved k texts roles b (Returns o) s h = h
leaves_reserved k texts roles b (Ends trap) s h = h

pub ended_well : {words : Sees} {k : Known words} {texts : ℕ} {roles later : List Role} {g h : ℕ} (exit : Exit) (a b c : Builder) → c ≡ closed (reserved b) exit (length b.blocks) → Keeps k texts roles later g h a b → Leaves k later b exit → Keeps k texts roles later g h a c
ended_well {k} {texts} {roles} {later} {g} {h} exit a b c e x out =
    let s = x.shaped in
    subst (Keeps k texts roles later g h a) (sym e) (keeps_closed exit (length b.blocks) (keeps_most g h (omega arith) (omega arith) (keeps_on x (keeps_reserved s))) (spare_reserved b s.ready) x.longer (leaves_reserved k texts later b exit s out))

way_leaves : {words : Sees} (k : Known words) (roles : List Role) (b : Builder) (to : Option ℕ) → WayFree b to → Leaves k roles b (way_exit to)
way_leaves k roles b None h = tt
way_leaves k roles b (Some c) h = h

pub way_on : {words : Sees} {k : Known words} {texts : ℕ} {roles later : List Role} {g h : ℕ} {a b : Builder} (to : Option ℕ) → Keeps k texts roles later g h a b → WayFree a to → WayFree b to
way_on None x w = w
way_on (Some c) x w = x.free c w

-- prints

shows_none : (os : List Operand) (b : Builder) (ts : List (List ℕ)) → ShowsWell os b b ts ts
shows_none os b ts words k roles s f = keeps_self s

pub shows_nothing : (os : List Operand) (b : Builder) (ts : List (List ℕ)) → ShowsWell os b b ts ts
shows_nothing os b ts = shows_none os b ts

pub shows_text : (os : List Operand) (text : List ℕ) (n : ℕ) (b0 b1 : Builder) (t0 t1 : List (List ℕ)) → n ≡ length t0 → t1 ≡ t0 ++ text ∷ [] → Added (Text n) b0 b1 → ShowsWell os b0 b1 t0 t1
shows_text os text n b0 b1 t0 t1 en et p words k roles s f =
    let l = length_more t0 text in
    let more : length t1 ≡ length t0 + 1 = ap length et ∙ l in
    keeps_added p (shaped_texts (length t0) (length t1) (omega arith) s) (omega arith)

item_in : (xs : List Operand) (i : ℕ) (d : Operand) → i < length xs → IsIn (get_or xs i d) xs
item_in [] i d h = absurd (omega arith)
item_in (x ∷ xs) zero d h = inl refl
item_in (x ∷ xs) (suc i) d h = inr (item_in xs i d (omega arith))

pub shows_number : (os : List Operand) (i : ℕ) (o d : Operand) (b0 b1 : Builder) (ts : List (List ℕ)) → i < length os → o ≡ get_or os i d → Added (Decimal o) b0 b1 → ShowsWell os b0 b1 ts ts
shows_number os i o d b0 b1 ts l e p words k roles s f = keeps_added p s (subst (OperandFits roles) (sym e) (f (get_or os i d) (item_in os i d l)))

pub shows_on : (os : List Operand) (b0 b1 b2 : Builder) (t0 t1 t2 : List (List ℕ)) → ShowsWell os b0 b1 t0 t1 → ShowsWell os b1 b2 t1 t2 → ShowsWell os b0 b2 t0 t2
shows_on os b0 b1 b2 t0 t1 t2 x y words k roles s f = let w = x words k roles s f in keeps_on w (y words k roles w.shaped f)

pub shows_all : (os : List Operand) (b0 b1 : Builder) (t0 t1 : List (List ℕ)) → ShowsWell [] b0 b1 t0 t1 → ShowsWell os b0 b1 t0 t1
shows_all os b0 b1 t0 t1 x words k roles s f = x words k roles s (λ o m. absurd m)

pub print_well : {words : Sees} (leaves again : Option ℕ) (format : List ℕ) (row : Tree Row) (os : List Operand) (b0 b1 b2 : Builder) (t0 t1 : List (List ℕ)) → RowsWell words row os b0 b1 → ShowsWell os b1 b2 t0 t1 → StatementWell words (Print format row) leaves again b0 b2 t0 t1
print_well leaves again format row os b0 b1 b2 t0 t1 args sh k roles s is wl wa =
    let x = args k (length t0) roles s is.1 in
    let y = sh _ k x.later x.keeps.shaped (all_numbers x.later row os is.0 x.operands) in
    let p = x.few_generals in let q = x.few_branches in
    let n : code_nodes (Print format row) ≡ 1 + nodes_of row = refl in let m : length (scalars_of (Print format row)) ≡ 0 = refl in
    made_by (Print format row) (keeps_on x.keeps y) (omega arith) (omega arith)

-- items and simple statements

pub plain_nothing_well : {words : Sees} (b : Builder) → PlainWell words Nothing b b
plain_nothing_well b k texts roles s is = made_by Nothing (keeps_self s) (omega arith) (omega arith)

pub plain_clear_well : {words : Sees} (x t : ℕ) (b0 b1 : Builder) → Last (Compute Mov t (Number (pos 0)) (Number (pos 0))) (Some x) t b0 b1 → PlainWell words (Clear x) b0 b1
plain_clear_well x t b0 b1 p k texts roles s is =
    let z = last p s (s.fits.scalars x is) (λ later kept h. (h, tt, refl)) in
    made_by (Clear x) z.keeps (omega arith) (omega arith)

pub plain_declare_well : {words : Sees} (x : ℕ) (e : Tree One) (o : Operand) (b0 b1 : Builder) → EmitsWell words e (Some x) o b0 b1 → PlainWell words (Declare x e) b0 b1
plain_declare_well x e o b0 b1 ex k texts roles s is =
    let w = ex k texts roles s is.1 (s.fits.scalars x is.0) in
    let p = w.few_generals in let q = w.few_branches in
    let n : code_nodes (Declare x e) ≡ 1 + nodes_of e = refl in let m : length (scalars_of (Declare x e)) ≡ 1 = refl in
    made_by (Declare x e) w.keeps (omega arith) (omega arith)

pub plain_simply_well : {words : Sees} (a : Action) (b0 b1 : Builder) → ActsWell words a b0 b1 → PlainWell words (Simply a) b0 b1
plain_simply_well a b0 b1 x k texts roles s is =
    let w = x k texts roles s is in
    let n : code_nodes (Simply a) ≡ 1 + action_nodes a = refl in let m : length (scalars_of (Simply a)) ≡ 0 = refl in
    made_by (Simply a) w.keeps (omega arith) (omega arith)

pub plain_head_well : {words : Sees} (a : Action) (b0 b1 : Builder) → ActsWell words a b0 b1 → PlainWell words (Head a) b0 b1
plain_head_well a b0 b1 x k texts roles s is =
    let w = x k texts roles s is in
    let n : code_nodes (Head a) ≡ action_nodes a = refl in let m : length (scalars_of (Head a)) ≡ 0 = refl in
    made_by (Head a) w.keeps (omega arith) (omega arith)

place_made : (a : ℕ) (index : Operand) → Makes (PlaceOf a) (λ v. Place v a index)
place_made a index = record { place = λ v c e. (let q : a ≡ c = cc in subst (λ z. MakesPlace v z (Place v a index)) q by_itself); stand = λ v e. absurd (cc); general = refl }

pub clears_word_well : {words : Sees} (a i t u : ℕ) (b0 b1 b2 b3 b4 : Builder) → (t ≡ length b0.banks) × (b1 ≡ with_value b0 General) → Added (Place t a (Held i)) b1 b2 → Added (Store a (Held t) (Number (pos 0))) b2 b3 → Last (Compute Add u (Held i) (Number (pos 1))) (Some i) u b3 b4 → WordWell words a i b0 b4
clears_word_well {words} a i t u b0 b1 b2 b3 b4 et pt ps pu k texts roles s own h =
    let below = slice_get_within words.arrays a (OwnArray own.0) own.1 in
    let seen : seen_at words a ≡ OwnArray own.0 = get_or_from_slice_get words.arrays a (OwnArray own.0) (OwnArray 0) own.1 in
    let x = taken_made (PlaceOf a) (λ v. Place v a (Held i)) (place_made a (Held i)) et pt s (λ later kept has. (has, below, kept i Scalar h, subst NotHanded (sym seen) tt)) in
    let hi = x.keeps.kept i Scalar h in
    let y = keeps_added ps x.keeps.shaped (below, x.has, tt) in
    let z = last pu y.shaped hi (λ later kept g. (g, kept i Scalar hi, tt)) in
    record { later = z.later; keeps = keeps_on x.keeps (keeps_on y z.keeps) }

pub clears_array_well : {words : Sees} (a i h c n : ℕ) (size : Operand) (b0 b1 b2 b3 b4 b5 b6 : Builder) → size ≡ size_at words a → Last (Compute Mov i (Number (pos 0)) (Number (pos 0))) None i b0 b1 → (h ≡ length b1.blocks) × (b2 ≡ closed (reserved b1) (Goto h) h) → (c ≡ length b2.banks) × (b3 ≡ with_value b2 Branch) → Forked (Compute (ToBranch Lt) c (Held i) size) c n b3 b4 → WordWell words a i b4 b5 → b6 ≡ closed b5 (Goto h) n → PlainWell words (ClearArray a) b0 b6
clears_array_well a i h c n size b0 b1 b2 b3 b4 b5 b6 sized pi eh ec pc cw e6 k texts roles s is =
    let x = last pi s tt (λ later kept g. (g, tt, refl)) in
    let e = enters_well h b1 b2 eh x.keeps.shaped in
    let y = taken_test ec e.keeps.shaped in
    let hi = y.keeps.kept i Scalar x.has in
    let f = forked pc y.keeps.shaped (y.has, hi, size_fits k texts y.later b3 a size sized y.keeps.shaped) y.has in
    let w = cw k texts y.later f.keeps.shaped is hi in
    let before = keeps_on x.keeps (keeps_on e.keeps y.keeps) in
    let free = w.keeps.free h (f.keeps.free h (y.keeps.free h e.free)) in
    let all = turned_well h n b0 b5 b6 e6 (keeps_on x.keeps (keeps_on e.keeps (keeps_on y.keeps (keeps_on f.keeps w.keeps)))) (w.keeps.spare n f.waits) (up_to (length b0.blocks) (length b3.blocks) n before.longer f.late) free in
    made_by (ClearArray a) all.keeps (omega arith) (omega arith)

items_nodes : (xs : List Item) (x : Item) → code_nodes (items_of (xs ++ x ∷ [])) ≡ code_nodes (items_of xs) + code_nodes (item_of x)
items_nodes [] x = let e : code_nodes (items_of (x ∷ [])) ≡ code_nodes (item_of x) + 0 = refl in let z : code_nodes (items_of []) ≡ 0 = refl in omega arith
items_nodes (y ∷ xs) x = let h = items_nodes xs x in let e : code_nodes (items_of (y ∷ (xs ++ x ∷ []))) ≡ code_nodes (item_of y) + code_nodes (items_of (xs ++ x ∷ [])) = refl in let z : code_nodes (items_of (y ∷ xs)) ≡ code_nodes (item_of y) + code_nodes (items_of xs) = refl in omega arith

items_scalars : (xs : List Item) (x : Item) → length (scalars_of (items_of (xs ++ x ∷ []))) ≡ length (scalars_of (items_of xs)) + length (scalars_of (item_of x))
items_scalars [] x = let e = length-append (scalars_of (item_of x)) (scalars_of (items_of [])) in let z : length (scalars_of (items_of [])) ≡ 0 = refl in let q : length (scalars_of (items_of (x ∷ []))) ≡ length (scalars_of (item_of x) ++ scalars_of (items_of [])) = refl in omega arith
items_scalars (y ∷ xs) x = let h = items_scalars xs x in let e = length-append (scalars_of (item_of y)) (scalars_of (items_of (xs ++ x ∷ []))) in let z = length-append (scalars_of (item_of y)) (scalars_of (items_of xs)) in let q : length (scalars_of (items_of (y ∷ (xs ++ x ∷ [])))) ≡ length (scalars_of (item_of y) ++ scalars_of (items_of (xs ++ x ∷ []))) = refl in let r : length (scalars_of (items_of (y ∷ xs))) ≡ length (scalars_of (item_of y) ++ scalars_of (items_of xs)) = refl in omega arith

items_named : {words : Sees} (k : Known words) (xs : List Item) (x : Item) → CodeNamed k (items_of (xs ++ x ∷ [])) → CodeNamed k (items_of xs) × CodeNamed k (item_of x)
items_named k [] x h = (tt, h.0)
items_named k (y ∷ xs) x h = let w = items_named k xs x h.1 in ((h.0, w.0), w.1)

pub plain_more_well : {words : Sees} (xs : List Item) (x : Item) (b0 b1 b2 : Builder) → PlainWell words (items_of xs) b0 b1 → PlainWell words (item_of x) b1 b2 → PlainWell words (items_of (xs ++ x ∷ [])) b0 b2
plain_more_well xs x b0 b1 b2 f g k texts roles s is =
    let n = items_named k xs x is in
    let u = f k texts roles s n.0 in
    let v = g k texts u.later u.keeps.shaped n.1 in
    let n1 = code_nodes (items_of xs) in let n2 = code_nodes (item_of x) in let all = code_nodes (items_of (xs ++ x ∷ [])) in
    made_by (items_of (xs ++ x ∷ [])) (keeps_on u.keeps v.keeps) (more_generals u.generals v.generals (length (scalars_of (items_of xs))) (length (scalars_of (item_of x))) (length (scalars_of (items_of (xs ++ x ∷ [])))) n1 n2 all u.few_generals v.few_generals (items_scalars xs x) (items_nodes xs x))
    (more_branches u.branches v.branches n1 n2 all u.few_branches v.few_branches (items_nodes xs x))

-- tests of loops

pub loop_always_well : {words : Sees} (n : ℕ) (b0 b1 : Builder) → (n ≡ length b0.blocks) × (b1 ≡ reserved b0) → LoopTestWell words None n b0 b1
loop_always_well n b0 b1 e k texts roles s is =
    let r = reserves_well n b0 b1 e s in let at = r.at in
    record { later = roles; generals = 0; branches = 0; keeps = r.keeps; waits = r.spare; late = omega arith; few_generals = omega arith; few_branches = omega arith }

pub loop_some_well : {words : Sees} (n : ℕ) (e : Tree One) (b0 b1 : Builder) → TestsWell words e n b0 b1 → LoopTestWell words (Some e) n b0 b1
loop_some_well n e b0 b1 t k texts roles s is =
    let x = t k texts roles s is in
    let p = x.few_generals in
    record { later = x.later; generals = x.generals; branches = x.branches; keeps = x.keeps; waits = x.waits; late = x.late; few_generals = omega arith; few_branches = x.few_branches }

-- statements

pub statement_plain_well : {words : Sees} (leaves again : Option ℕ) (s : Code) (a b : Builder) (ts : List (List ℕ)) → PlainWell words s a b → StatementWell words s leaves again a b ts ts
statement_plain_well leaves again s a b ts x k roles h is wl wa = x k (length ts) roles h is

pub empty_well : {words : Sees} (leaves again : Option ℕ) (b : Builder) (ts : List (List ℕ)) → StatementWell words Empty leaves again b b ts ts
empty_well leaves again b ts k roles s is wl wa = made_by Empty (keeps_self s) (omega arith) (omega arith)

pub braces_well : {words : Sees} (leaves again : Option ℕ) (x : Code) (b0 b1 : Builder) (t0 t1 : List (List ℕ)) → StatementWell words x leaves again b0 b1 t0 t1 → StatementWell words (Braces x) leaves again b0 b1 t0 t1
braces_well leaves again x b0 b1 t0 t1 f k roles s is wl wa =
    let w = f k roles s is wl wa in
    let p = w.few_generals in let q = w.few_branches in
    let n : code_nodes (Braces x) ≡ 1 + code_nodes x = refl in let m : length (scalars_of (Braces x)) ≡ length (scalars_of x) = refl in
    made_by (Braces x) w.keeps (omega arith) (omega arith)

pub break_well : {words : Sees} (leaves again : Option ℕ) (b0 b1 : Builder) (ts : List (List ℕ)) → b1 ≡ closed (reserved b0) (way_exit leaves) (length b0.blocks) → StatementWell words Break leaves again b0 b1 ts ts
break_well leaves again b0 b1 ts e k roles s is wl wa = made_by Break (ended_well (way_exit leaves) b0 b0 b1 e (keeps_self s) (way_leaves k roles b0 leaves wl)) (omega arith) (omega arith)

pub continue_well : {words : Sees} (leaves again : Option ℕ) (b0 b1 : Builder) (ts : List (List ℕ)) → b1 ≡ closed (reserved b0) (way_exit again) (length b0.blocks) → StatementWell words Continue leaves again b0 b1 ts ts
continue_well leaves again b0 b1 ts e k roles s is wl wa = made_by Continue (ended_well (way_exit again) b0 b0 b1 e (keeps_self s) (way_leaves k roles b0 again wa)) (omega arith) (omega arith)

pub return_well : {words : Sees} (leaves again : Option ℕ) (b0 b1 : Builder) (ts : List (List ℕ)) → b1 ≡ closed (reserved b0) (Returns (Number (pos 0))) (length b0.blocks) → StatementWell words Return leaves again b0 b1 ts ts
return_well leaves again b0 b1 ts e k roles s is wl wa = made_by Return (ended_well (Returns (Number (pos 0))) b0 b0 b1 e (keeps_self s) tt) (omega arith) (omega arith)

pub value_well : {words : Sees} (leaves again : Option ℕ) (x : Tree One) (o : Operand) (b0 b1 b2 : Builder) (ts : List (List ℕ)) → EmitsWell words x None o b0 b1 → b2 ≡ closed (reserved b1) (Returns o) (length b1.blocks) → StatementWell words (ReturnValue x) leaves again b0 b2 ts ts
value_well leaves again x o b0 b1 b2 ts ex e k roles s is wl wa =
    let w = ex k (length ts) roles s is tt in
    let p = w.few_generals in let q = w.few_branches in
    let n : code_nodes (ReturnValue x) ≡ 1 + nodes_of x = refl in let m : length (scalars_of (ReturnValue x)) ≡ 0 = refl in
    made_by (ReturnValue x) (ended_well (Returns o) b0 b1 b2 e w.keeps w.operand) (omega arith) (omega arith)

pub if_well : {words : Sees} (leaves again : Option ℕ) (n j : ℕ) (e : Tree One) (x : Code) (b0 b1 b2 b3 b4 : Builder) (t0 t1 : List (List ℕ)) → TestsWell words e n b0 b1 → StatementWell words x leaves again b1 b2 t0 t1 → (j ≡ length b2.blocks) × (b3 ≡ closed (reserved b2) (Goto j) n) → b4 ≡ closed b3 (Goto j) j → StatementWell words (If e x) leaves again b0 b4 t0 t1
if_well leaves again n j e x b0 b1 b2 b3 b4 t0 t1 et ex ej e4 k roles s is wl wa =
    let jj = length b2.blocks in
    let c4 : b4 ≡ closed (closed (reserved b2) (Goto jj) n) (Goto jj) jj = e4 ∙ ap (λ z. closed z (Goto j) j) ej.1 ∙ ap (λ m. closed (closed (reserved b2) (Goto m) n) (Goto m) m) ej.0 in
    let t = et k (length t0) roles s is.0 in
    let y = ex k t.later t.keeps.shaped is.1 (way_on leaves t.keeps wl) (way_on again t.keeps wa) in
    let w = halfway n (keeps_on t.keeps y.keeps) (y.keeps.spare n t.waits) t.late in
    let all = joined_well w (keeps_self w.keeps.shaped) in
    subst (MadeBy k (length t1) roles (If e x) b0) (sym c4)
    (made_by (If e x) all (if_generals t.generals y.generals (length (scalars_of x)) (nodes_of e) (code_nodes x) t.few_generals y.few_generals) (if_branches t.branches y.branches (nodes_of e) (code_nodes x) t.few_branches y.few_branches))

pub if_else_well : {words : Sees} (leaves again : Option ℕ) (n j : ℕ) (e : Tree One) (x y : Code) (b0 b1 b2 b3 b4 b5 : Builder) (t0 t1 t2 : List (List ℕ)) → TestsWell words e n b0 b1 → StatementWell words x leaves again b1 b2 t0 t1 → (j ≡ length b2.blocks) × (b3 ≡ closed (reserved b2) (Goto j) n) → StatementWell words y leaves again b3 b4 t1 t2 → b5 ≡ closed b4 (Goto j) j → StatementWell words (IfElse e x y) leaves again b0 b5 t0 t2
if_else_well {words} leaves again n j e x y b0 b1 b2 b3 b4 b5 t0 t1 t2 et ex ej ey e5 k roles s is wl wa =
    let jj = length b2.blocks in
    let c3 : b3 ≡ closed (reserved b2) (Goto jj) n = ej.1 ∙ ap (λ m. closed (reserved b2) (Goto m) n) ej.0 in
    let c5 : b5 ≡ closed b4 (Goto jj) jj = e5 ∙ ap (λ m. closed b4 (Goto m) m) ej.0 in
    let t = et k (length t0) roles s is.0 in
    let u = ex k t.later t.keeps.shaped is.1 (way_on leaves t.keeps wl) (way_on again t.keeps wa) in
    let w = halfway n (keeps_on t.keeps u.keeps) (u.keeps.spare n t.waits) t.late in
    let ey3 = subst (λ z. StatementWell words y leaves again z b4 t1 t2) c3 ey in
    let v = ey3 k u.later w.keeps.shaped is.2 (way_on leaves w.keeps wl) (way_on again w.keeps wa) in
    let all = joined_well w v.keeps in
    let m : length (scalars_of (IfElse e x y)) ≡ length (scalars_of x) + length (scalars_of y) = length-append (scalars_of x) (scalars_of y) in
    subst (MadeBy k (length t2) roles (IfElse e x y) b0) (sym c5) (made_by (IfElse e x y) all
    (else_generals t.generals u.generals v.generals (length (scalars_of x)) (length (scalars_of y)) (length (scalars_of (IfElse e x y))) (nodes_of e) (code_nodes x) (code_nodes y) t.few_generals u.few_generals v.few_generals m)
    (else_branches t.branches u.branches v.branches (nodes_of e) (code_nodes x) (code_nodes y) t.few_branches u.few_branches v.few_branches))
