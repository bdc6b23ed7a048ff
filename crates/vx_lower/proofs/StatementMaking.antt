-- The code of statements.
use Rattle.std.proofs.Common.{◌≡◌, ℕ, ◌≤◌, pos, List, [], ◌∷◌, ◌++◌, length, Option, Some, None, refl, sym, ap, ◌∙◌, subst, arith}
use Rattle.std.specs.Prelude.{slice_get}
use Rattle.vx_base.specs.declared.arithmetic.Code.TheVariants.{Add, Mov, ToBranch}
use Rattle.vx_base.specs.declared.arithmetic.Compare.TheVariants.{Lt}
use Rattle.vx_ast.specs.declared.tree.Item.{Item}
use Rattle.vx_ast.specs.View.{item_of, items_of}
use Rattle.vx_ast.specs.Meaning.{pieces_of}
use Rattle.vx_ast.specs.Tree.{One, Row, Tree, Action, Code, Nothing, Empty, Block as Braces, Clear, Declare, ClearArray, Simply, Head, Print, If, IfElse, Break, Continue, Return, ReturnValue}
use Rattle.vx_flow.specs.declared.graph.Bank.TheVariants.{General, Branch}
use Rattle.vx_flow.specs.declared.graph.Operand.{Operand}
use Rattle.vx_flow.specs.declared.graph.Operand.TheVariants.{Held, Number}
use Rattle.vx_flow.specs.declared.graph.Op.TheVariants.{Compute, Place, Store}
use Rattle.vx_flow.specs.declared.graph.Exit.{Exit}
use Rattle.vx_flow.specs.declared.graph.Exit.TheVariants.{Goto, Return as Returns}
use Rattle.vx_flow.specs.declared.graph.Block.{Block}
use Rattle.vx_lower.specs.Seen.{Sees, size_at}
use Rattle.vx_lower.specs.Holds.{Goes, same, on, Way, To, Into, Tested, Lands, fresh, into, then_op, ends, jump}
use Rattle.vx_lower.specs.Does.{asks, always, Does, nothing, seq, empty, braces, clear, declare, clear_array, simply, head, print, choose, choose_else, break, continue, return, return_value}
use Rattle.vx_lower.specs.Builds.{reserved, closed, with_value, Ready, Grows, Stands, Finishes, Opens, Puts, Branches}
use Rattle.vx_lower.specs.Emits.{Lasts, Emits, EmitsTest, EmitsRow, Spare}
use Rattle.vx_lower.specs.Makes.{CodeWithin, Acted, way_exit, ClearsWord, MakesPlain, Makes, MakesTest, Showed, numbers_in}
use Rattle.vx_lower.specs.declared.builder.Builder.{Builder}
use Rattle.vx_lower.proofs.Building.{grows_self, grows_on, grows_reserved, grows_closed, finishes_back, before_closed, closed_stands, opens_closed}
use Rattle.vx_lower.proofs.PieceMaking.{sets_of, branched_of}
use Rattle.vx_lower.proofs.Emitting.{within_on, spare_on, spare_reserved, ready_closed, joined}
use Rattle.vx_lower.proofs.PrintMaking.{begins_self, begins_on}

pub plain_as : (words : Sees) (a b : Builder) (x y : Code) → x ≡ y → (Ready a → MakesPlain words x a b) → Ready a → MakesPlain words y a b
plain_as words a b x y e f r = subst (λ z. MakesPlain words z a b) e (f r)

pub makes_as : (words : Sees) (leaves again : Option ℕ) (a b : Builder) (s t : List (List ℕ)) (x y : Code) → x ≡ y → (Ready a → Makes words x leaves again a b s t) → Ready a → Makes words y leaves again a b s t
makes_as words leaves again a b s t x y e f r = subst (λ z. Makes words z leaves again a b s t) e (f r)

-- the open block ends, and what comes next is reached by nothing
pub ended : (a b : Builder) (exit : Exit) → Ready a → Grows a b → Grows a (closed (reserved b) exit (length b.blocks))
ended a b exit r g =
    let sp = spare_reserved b g.ready in let l = g.longer in
    grows_closed a (reserved b) exit (length b.blocks) r (grows_on a b (reserved b) r g (grows_reserved b g.ready)) sp.free sp.apart l

-- a value of its own, or the one that is named
abbrev landed_at : ℕ → ℕ → Way One → Type 0
landed_at lo t (To os q) = lo ≤ t
landed_at lo t (Into u q) = u ≡ t
landed_at lo t (Tested one two) = Unit {0}

landed : {lo t : ℕ} {w : Way One} {q : Block} → Lands lo w t q → landed_at lo t w
landed (fresh l) = l
landed into = refl

-- an exit that stands at its own block
abbrev Stays : Exit → Type 0
Stays exit = (B : List Block) (n : ℕ) (block : Block) → Stands B n block exit → slice_get B n ≡ Some block

pub way_stays : (to : Option ℕ) → Stays (way_exit to)
way_stays None B n block h = h
way_stays (Some x) B n block h = h

pub ended_opens : (B : List Block) (b : Builder) (exit : Exit) → Stays exit → Ready b → Finishes B (closed (reserved b) exit (length b.blocks)) → Opens B b (ends exit)
ended_opens B b exit stays r f =
    let h = stays B b.current (record { ops = b.ops; exit = exit }) (closed_stands B (reserved b) exit (length b.blocks) ((grows_reserved b r).ready) f) in
    let o = opens_closed B (reserved b) exit h in record { is = o.is }

pub ended_before : (B : List Block) (b : Builder) (exit : Exit) → Ready b → Finishes B (closed (reserved b) exit (length b.blocks)) → Finishes B b
ended_before B b exit r f = let g = grows_reserved b r in finishes_back B b (reserved b) r g (before_closed B (reserved b) exit (length b.blocks) g.ready f)

-- what is plain is a statement
pub makes_plain : (words : Sees) (leaves again : Option ℕ) (s : Code) (a b : Builder) (ts : List (List ℕ)) → (Ready a → MakesPlain words s a b) → Ready a → Makes words s leaves again a b ts ts
makes_plain words leaves again s a b ts x r =
    let k = x r in
    record { grows = k.grows; texts = begins_self ts; code = λ vars is le B texts q g f o. k.code vars is le B texts q (ends (way_exit leaves)) (ends (way_exit again)) f o }

-- one word of an array is set to 0
pub clears_word : (a i t u : ℕ) (b0 b1 b2 b3 b4 : Builder) → (t ≡ length b0.banks) × (b1 ≡ with_value b0 General) → (Ready b1 → Puts (Place t a (Held i)) b1 b2) → (Ready b2 → Puts (Store a (Held t) (Number (pos 0))) b2 b3) → (Ready b3 → Lasts (Compute Add u (Held i) (Number (pos 1))) (Some i) u b3 b4) → Ready b0 → ClearsWord a i b0 b4
clears_word a i t u b0 b1 b2 b3 b4 et pt st ad r =
    let s = sets_of b0 b1 b2 t General (Place t a (Held i)) et pt r in
    let z = st s.grows.ready in
    let w = ad z.grows.ready in
    let ft = s.fresh in
    record {
      grows = grows_on b0 b2 b4 r s.grows (grows_on b2 b3 b4 s.grows.ready z.grows w.grows);
      t = t;
      fresh = omega arith;
      code = λ B q f o.
          let s3 = w.step B q f o in
          let f3 = finishes_back B b3 b4 z.grows.ready w.grows f in
          let s2 = z.step B s3.start f3 s3.opens in
          let s1 = s.step B s2.start (finishes_back B b2 b3 s.grows.ready z.grows f3) s2.opens in
          let ei = landed (w.lands q) in
          record { start = s1.start; opens = s1.opens; holds = record { store = s2.start; step = s3.start; places = s1.holds; stores = s2.holds; steps = subst (λ x. Goes B (then_op (Compute Add x (Held i) (Number (pos 1))) q) s3.start) (sym ei) s3.holds } };
    }

module _ (words : Sees) where
  pub plain_nothing : (b : Builder) → Ready b → MakesPlain words Nothing b b
  plain_nothing b r = record { grows = grows_self b r; code = λ vars is le B texts q out more f o. record { start = q; opens = o; holds = nothing } }

  pub plain_clear : (x t : ℕ) (b0 b1 : Builder) → (Ready b0 → Lasts (Compute Mov t (Number (pos 0)) (Number (pos 0))) (Some x) t b0 b1) → Ready b0 → MakesPlain words (Clear x) b0 b1
  plain_clear x t b0 b1 p r =
      let k = p r in
      record {
        grows = k.grows;
        code = λ vars is le B texts q out more f o.
            let s = k.step B q f o in
            let e = landed (k.lands q) in
            record { start = s.start; opens = s.opens; holds = clear is (subst (λ z. Goes B (then_op (Compute Mov z (Number (pos 0)) (Number (pos 0))) q) s.start) (sym e) s.holds) };
      }

  pub plain_declare : (x : ℕ) (e : Tree One) (o : Operand) (b0 b1 : Builder) → (Ready b0 → Emits words e (Some x) o b0 b1) → Ready b0 → MakesPlain words (Declare x e) b0 b1
  plain_declare x e o b0 b1 p r =
      let k = p r in
      record {
        grows = k.grows;
        code = λ vars is le B texts q out more f w.
            let s = k.code (within_on vars (length b0.banks) e le is.1) B q f w in
            record { start = s.start; opens = s.opens; holds = declare s.holds le is.0 };
      }

  pub plain_simply : (a : Action) (b0 b1 : Builder) → (Ready b0 → Acted words a b0 b1) → Ready b0 → MakesPlain words (Simply a) b0 b1
  plain_simply a b0 b1 p r =
      let k = p r in
      record { grows = k.grows; code = λ vars is le B texts q out more f w. let s = k.code vars is le B q f w in record { start = s.start; opens = s.opens; holds = simply s.holds } }

  pub plain_head : (a : Action) (b0 b1 : Builder) → (Ready b0 → Acted words a b0 b1) → Ready b0 → MakesPlain words (Head a) b0 b1
  plain_head a b0 b1 p r =
      let k = p r in
      record { grows = k.grows; code = λ vars is le B texts q out more f w. let s = k.code vars is le B q f w in record { start = s.start; opens = s.opens; holds = head s.holds } }

  -- the items of a declaration
  items_within : (vars : ℕ) (xs : List Item) (x : Item) → CodeWithin words vars (items_of (xs ++ x ∷ [])) → CodeWithin words vars (items_of xs) × CodeWithin words vars (item_of x)
  items_within vars [] x h = (tt, h.0)
  items_within vars (y ∷ xs) x h = let w = items_within vars xs x h.1 in ((h.0, w.0), w.1)

  items_do : (B : List Block) (texts : List (List ℕ)) (vars : ℕ) (xs : List Item) (x : Item) {p m q out more : Block} → Does B words texts vars (items_of xs) p m out more → Does B words texts vars (item_of x) m q out more → Does B words texts vars (items_of (xs ++ x ∷ [])) p q out more
  items_do B texts vars [] x nothing y = seq y nothing
  items_do B texts vars (z ∷ xs) x (seq a rest) y = seq a (items_do B texts vars xs x rest y)

  pub plain_more : (xs : List Item) (x : Item) (b0 b1 b2 : Builder) → (Ready b0 → MakesPlain words (items_of xs) b0 b1) → (Ready b1 → MakesPlain words (item_of x) b1 b2) → Ready b0 → MakesPlain words (items_of (xs ++ x ∷ [])) b0 b2
  plain_more xs x b0 b1 b2 ex ey r =
      let hx = ex r in let hy = ey hx.grows.ready in let v = hx.grows.values in
      record {
        grows = grows_on b0 b1 b2 r hx.grows hy.grows;
        code = λ vars is le B texts q out more f o.
            let w = items_within vars xs x is in
            let s2 = hy.code vars w.1 (omega arith) B texts q out more f o in
            let s1 = hx.code vars w.0 le B texts s2.start out more (finishes_back B b1 b2 hx.grows.ready hy.grows f) s2.opens in
            record { start = s1.start; opens = s1.opens; holds = items_do B texts vars xs x s1.holds s2.holds };
      }

  -- tests of loops
  pub test_always : (n : ℕ) (b0 b1 : Builder) → (n ≡ length b0.blocks) × (b1 ≡ reserved b0) → Ready b0 → MakesTest words None n b0 b1
  test_always n b0 b1 e r =
      let m = e.0 in
      record {
        grows = subst (Grows b0) (sym e.1) (grows_reserved b0 r);
        spare = subst (λ z. Spare z n) (sym e.1) (subst (Spare (reserved b0)) (sym e.0) (spare_reserved b0 r));
        late = omega arith;
        code = λ vars is le B one two f o at. let w = subst (λ z. Opens B z one) e.1 o in record { start = one; opens = record { is = w.is }; holds = always (same refl) };
      }

  pub test_some : (n : ℕ) (e : Tree One) (b0 b1 : Builder) → (Ready b0 → EmitsTest words e n b0 b1) → Ready b0 → MakesTest words (Some e) n b0 b1
  test_some n e b0 b1 ex r =
      let k = ex r in
      record {
        grows = k.grows;
        spare = k.spare;
        late = k.late;
        code = λ vars is le B one two f o at.
            let s = k.code (within_on vars (length b0.banks) e le is) B one two f o at in
            record { start = s.start; opens = s.opens; holds = asks s.holds le };
      }

  -- statements

  pub makes_empty : (leaves again : Option ℕ) (b : Builder) (ts : List (List ℕ)) → Ready b → Makes words Empty leaves again b b ts ts
  makes_empty leaves again b ts r = record { grows = grows_self b r; texts = begins_self ts; code = λ vars is le B texts q g f o. record { start = q; opens = o; holds = empty } }

  pub makes_braces : (leaves again : Option ℕ) (x : Code) (b0 b1 : Builder) (t0 t1 : List (List ℕ)) → (Ready b0 → Makes words x leaves again b0 b1 t0 t1) → Ready b0 → Makes words (Braces x) leaves again b0 b1 t0 t1
  makes_braces leaves again x b0 b1 t0 t1 ex r =
      let k = ex r in
      record { grows = k.grows; texts = k.texts; code = λ vars is le B texts q g f o. let s = k.code vars is le B texts q g f o in record { start = s.start; opens = s.opens; holds = braces s.holds } }

  pub makes_break : (leaves again : Option ℕ) (b0 b1 : Builder) (ts : List (List ℕ)) → b1 ≡ closed (reserved b0) (way_exit leaves) (length b0.blocks) → Ready b0 → Makes words Break leaves again b0 b1 ts ts
  makes_break leaves again b0 b1 ts e r = record {
    grows = subst (Grows b0) (sym e) (ended b0 b0 (way_exit leaves) r (grows_self b0 r));
    texts = begins_self ts;
    code = λ vars is le B texts q g f o. record { start = ends (way_exit leaves); opens = ended_opens B b0 (way_exit leaves) (way_stays leaves) r (subst (Finishes B) e f); holds = break (same refl) };
  }

  pub makes_continue : (leaves again : Option ℕ) (b0 b1 : Builder) (ts : List (List ℕ)) → b1 ≡ closed (reserved b0) (way_exit again) (length b0.blocks) → Ready b0 → Makes words Continue leaves again b0 b1 ts ts
  makes_continue leaves again b0 b1 ts e r = record {
    grows = subst (Grows b0) (sym e) (ended b0 b0 (way_exit again) r (grows_self b0 r));
    texts = begins_self ts;
    code = λ vars is le B texts q g f o. record { start = ends (way_exit again); opens = ended_opens B b0 (way_exit again) (way_stays again) r (subst (Finishes B) e f); holds = continue (same refl) };
  }

  pub makes_return : (leaves again : Option ℕ) (b0 b1 : Builder) (ts : List (List ℕ)) → b1 ≡ closed (reserved b0) (Returns (Number (pos 0))) (length b0.blocks) → Ready b0 → Makes words Return leaves again b0 b1 ts ts
  makes_return leaves again b0 b1 ts e r = record {
    grows = subst (Grows b0) (sym e) (ended b0 b0 (Returns (Number (pos 0))) r (grows_self b0 r));
    texts = begins_self ts;
    code = λ vars is le B texts q g f o. record { start = ends (Returns (Number (pos 0))); opens = ended_opens B b0 (Returns (Number (pos 0))) (λ B n block h. h) r (subst (Finishes B) e f); holds = return (same refl) };
  }

  pub makes_value : (leaves again : Option ℕ) (x : Tree One) (o : Operand) (b0 b1 b2 : Builder) (ts : List (List ℕ)) → (Ready b0 → Emits words x None o b0 b1) → b2 ≡ closed (reserved b1) (Returns o) (length b1.blocks) → Ready b0 → Makes words (ReturnValue x) leaves again b0 b2 ts ts
  makes_value leaves again x o b0 b1 b2 ts ex e r =
      let hx = ex r in
      record {
        grows = subst (Grows b0) (sym e) (ended b0 b1 (Returns o) r hx.grows);
        texts = begins_self ts;
        code = λ vars is le B texts q g f w.
            let f2 = subst (Finishes B) e f in
            let s = hx.code (within_on vars (length b0.banks) x le is) B (ends (Returns o)) (ended_before B b1 (Returns o) hx.grows.ready f2) (ended_opens B b1 (Returns o) (λ B n block h. h) hx.grows.ready f2) in
            record { start = s.start; opens = s.opens; holds = return_value s.holds le (same refl) };
      }

  pub makes_print : (leaves again : Option ℕ) (format : List ℕ) (row : Tree Row) (os : List Operand) (b0 b1 b2 : Builder) (t0 t1 : List (List ℕ)) → (Ready b0 → EmitsRow words row os b0 b1) → (Ready b1 → Showed (pieces_of format) os b1 b2 t0 t1) → Ready b0 → Makes words (Print format row) leaves again b0 b2 t0 t1
  makes_print leaves again format row os b0 b1 b2 t0 t1 ex sh r =
      let hx = ex r in let k = sh hx.grows.ready in
      record {
        grows = grows_on b0 b1 b2 r hx.grows k.grows;
        texts = k.texts;
        code = λ vars is le B texts q g f w.
            let iw = within_on vars (length b0.banks) row le is.1 in
            let f1 = finishes_back B b1 b2 hx.grows.ready k.grows f in
            let c = hx.many in let i0 = is.0 in
            let n : numbers_in (pieces_of format) ≤ length os = omega arith in
            let s2 = k.code n B texts q g f w in
            let s1 = hx.code iw B s2.start f1 s2.opens in
            record { start = s1.start; opens = s1.opens; holds = print s1.holds le s2.holds };
      }

  -- the words of an array are set to 0
  pub plain_zeroes : (a i h c n : ℕ) (size : Operand) (b0 b1 b2 b3 b4 b5 b6 : Builder) → size ≡ size_at words a → (Ready b0 → Lasts (Compute Mov i (Number (pos 0)) (Number (pos 0))) None i b0 b1) → (h ≡ length b1.blocks) × (b2 ≡ closed (reserved b1) (Goto h) h) → (c ≡ length b2.banks) × (b3 ≡ with_value b2 Branch) → (Ready b3 → Branches (Compute (ToBranch Lt) c (Held i) size) c n b3 b4) → (Ready b4 → ClearsWord a i b4 b5) → b6 ≡ closed b5 (Goto h) n → Ready b0 → MakesPlain words (ClearArray a) b0 b6
  plain_zeroes a i h c n size b0 b1 b2 b3 b4 b5 b6 es mv eh ec pb cl e6 r =
      let hh = length b1.blocks in
      let op = Compute (ToBranch Lt) c (Held i) (size_at words a) in
      let c2 : b2 ≡ closed (reserved b1) (Goto hh) hh = eh.1 ∙ ap (λ m. closed (reserved b1) (Goto m) m) eh.0 in
      let c6 : b6 ≡ closed b5 (Goto hh) n = e6 ∙ ap (λ m. closed b5 (Goto m) n) eh.0 in
      let m = mv r in
      let g12 = subst (Grows b1) (sym c2) (ended b1 b1 (Goto hh) m.grows.ready (grows_self b1 m.grows.ready)) in
      let k = branched_of b2 b3 b4 c n Branch op ec (subst (λ z. Ready b3 → Branches (Compute (ToBranch Lt) c (Held i) z) c n b3 b4) es pb) g12.ready in
      let w = cl k.grows.ready in
      let sn5 = spare_on b4 b5 n w.grows k.spare in
      let g02 = grows_on b0 b1 b2 r m.grows g12 in
      let g05 = grows_on b0 b2 b5 r g02 (grows_on b2 b4 b5 g12.ready k.grows w.grows) in
      let l2 = g02.longer in let l4 = k.late in
      let v1 = m.grows.values in let v2 = g12.values in let v4 = k.grows.values in let fc = k.fresh in let ft = w.fresh in let li = m.below refl in
      record {
        grows = subst (Grows b0) (sym c6) (grows_closed b0 b5 (Goto hh) n r g05 sn5.free sn5.apart (omega arith));
        code = λ vars is le B texts q out more f0 o0.
            let f6 = subst (Finishes B) c6 f0 in
            let o6 = subst (λ z. Opens B z q) c6 o0 in
            let o5 = opens_closed B b5 (Goto hh) (closed_stands B b5 (Goto hh) n w.grows.ready f6) in
            let f5 = before_closed B b5 (Goto hh) n w.grows.ready f6 in
            let s5 = w.code B (jump hh) f5 o5 in
            let f4 = finishes_back B b4 b5 k.grows.ready w.grows f5 in
            let s4 = k.step B s5.start q f4 s5.opens o6.is in
            let f2 = subst (Finishes B) c2 (finishes_back B b2 b4 g12.ready k.grows f4) in
            let o2 = subst (λ z. Opens B z s4.start) c2 s4.opens in
            let s1 = m.step B (jump hh) (ended_before B b1 (Goto hh) m.grows.ready f2) (ended_opens B b1 (Goto hh) (λ B n block h. h) m.grows.ready f2) in
            let lo = landed (m.lands q) in
            record {
              start = s1.start;
              opens = s1.opens;
              holds = clear_array is (record {
                i = i;
                t = w.t;
                c = c;
                h = hh;
                first = jump hh;
                head = s4.start;
                yes = s5.start;
                no = q;
                store = s5.holds.store;
                step = s5.holds.step;
                last = jump hh;
                starts = s1.holds;
                enters = same refl;
                at_head = o2.is;
                tests = s4.holds;
                places = s5.holds.places;
                stores = s5.holds.stores;
                steps = s5.holds.steps;
                again = same refl;
                ends_at = same refl;
                above = omega arith;
                apart_c = omega arith;
                apart_t = omega arith;
              });
            };
      }

  -- `if`

  pub makes_if : (leaves again : Option ℕ) (n j : ℕ) (e : Tree One) (x : Code) (b0 b1 b2 b3 b4 : Builder) (t0 t1 : List (List ℕ)) → (Ready b0 → EmitsTest words e n b0 b1) → (Ready b1 → Makes words x leaves again b1 b2 t0 t1) → (j ≡ length b2.blocks) × (b3 ≡ closed (reserved b2) (Goto j) n) → b4 ≡ closed b3 (Goto j) j → Ready b0 → Makes words (If e x) leaves again b0 b4 t0 t1
  makes_if leaves again n j e x b0 b1 b2 b3 b4 t0 t1 et mx ej e4 r =
      let jj = length b2.blocks in
      let b3c = closed (reserved b2) (Goto jj) n in
      let c3 : b3 ≡ b3c = ej.1 ∙ ap (λ m. closed (reserved b2) (Goto m) n) ej.0 in
      let c4 : b4 ≡ closed b3c (Goto jj) jj = e4 ∙ ap (λ z. closed z (Goto j) j) c3 ∙ ap (λ m. closed b3c (Goto m) m) ej.0 in
      let k = et r in
      let one = mx k.grows.ready in
      let w = joined b0 b1 b2 b3c n r k.grows k.grows.ready one.grows k.spare k.late (λ q. grows_self b3c q) in
      let v1 = k.grows.values in
      record {
        grows = subst (Grows b0) (sym c4) w.grows;
        texts = one.texts;
        code = λ vars is le B texts q g f0 o0.
            let f = subst (Finishes B) c4 f0 in
            let o = subst (λ z. Opens B z q) c4 o0 in
            let s2 = one.code vars is.1 (omega arith) B texts (jump jj) g (w.first B f) (w.first_opens B f) in
            let f1 = finishes_back B b1 b2 k.grows.ready one.grows (w.first B f) in
            let o3 = w.second_opens B f in
            let s1 = k.code (within_on vars (length b0.banks) e le is.0) B s2.start (jump jj) f1 s2.opens o3.is in
            record { start = s1.start; opens = s1.opens; holds = choose s1.holds le s2.holds (on jj q refl o.is (same refl)) (on jj q refl o.is (same refl)) };
      }

  pub makes_if_else : (leaves again : Option ℕ) (n j : ℕ) (e : Tree One) (x y : Code) (b0 b1 b2 b3 b4 b5 : Builder) (t0 t1 t2 : List (List ℕ)) → (Ready b0 → EmitsTest words e n b0 b1) → (Ready b1 → Makes words x leaves again b1 b2 t0 t1) → (j ≡ length b2.blocks) × (b3 ≡ closed (reserved b2) (Goto j) n) → (Ready b3 → Makes words y leaves again b3 b4 t1 t2) → b5 ≡ closed b4 (Goto j) j → Ready b0 → Makes words (IfElse e x y) leaves again b0 b5 t0 t2
  makes_if_else leaves again n j e x y b0 b1 b2 b3 b4 b5 t0 t1 t2 et mx ej my e5 r =
      let jj = length b2.blocks in
      let b3c = closed (reserved b2) (Goto jj) n in
      let c3 : b3 ≡ b3c = ej.1 ∙ ap (λ m. closed (reserved b2) (Goto m) n) ej.0 in
      let c5 : b5 ≡ closed b4 (Goto jj) jj = e5 ∙ ap (λ m. closed b4 (Goto m) m) ej.0 in
      let k = et r in
      let one = mx k.grows.ready in
      let my3 = subst (λ z. Ready z → Makes words y leaves again z b4 t1 t2) c3 my in
      let r3 = ready_closed (reserved b2) (Goto jj) n (spare_on b1 (reserved b2) n (grows_on b1 b2 (reserved b2) k.grows.ready one.grows (grows_reserved b2 one.grows.ready)) k.spare) in
      let two = my3 r3 in
      let w = joined b0 b1 b2 b4 n r k.grows k.grows.ready one.grows k.spare k.late (λ q. (my3 q).grows) in
      let v1 = k.grows.values in let v2 = one.grows.values in
      record {
        grows = subst (Grows b0) (sym c5) w.grows;
        texts = begins_on t0 t1 t2 one.texts two.texts;
        code = λ vars is le B texts q g f0 o0.
            let f = subst (Finishes B) c5 f0 in
            let o = subst (λ z. Opens B z q) c5 o0 in
            let s4 = two.code vars is.2 (omega arith) B texts (jump jj) g (w.second B f) (w.second_opens B f) in
            let s2 = one.code vars is.1 (omega arith) B texts (jump jj) (begins_on t1 t2 texts two.texts g) (w.first B f) (w.first_opens B f) in
            let f1 = finishes_back B b1 b2 k.grows.ready one.grows (w.first B f) in
            let s1 = k.code (within_on vars (length b0.banks) e le is.0) B s2.start s4.start f1 s2.opens s4.opens.is in
            record { start = s1.start; opens = s1.opens; holds = choose_else s1.holds le s2.holds (on jj q refl o.is (same refl)) s4.holds (on jj q refl o.is (same refl)) };
      }
