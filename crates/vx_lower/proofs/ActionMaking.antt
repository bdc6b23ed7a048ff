-- The code of simple statements.
use Rattle.std.proofs.Common.{◌≡◌, ℕ, ◌<◌, ◌≤◌, pos, false, List, length, Option, Some, None, refl, sym, ap, ◌∙◌, subst, arith}
use Rattle.vx_base.specs.declared.arithmetic.Code.TheVariants.{Add, Sub}
use Rattle.vx_ast.specs.declared.tree.BinaryOperator.{BinaryOperator}
use Rattle.vx_ast.specs.Tree.{One, Row, Tree, Apply, Place, InLocal, InGlobal, InElement, Action, Evaluate, Assign}
use Rattle.vx_flow.specs.declared.graph.Operand.{Operand}
use Rattle.vx_flow.specs.declared.graph.Operand.TheVariants.{Held, Number}
use Rattle.vx_flow.specs.declared.graph.Op.TheVariants.{Compute, Load, Store}
use Rattle.vx_flow.specs.declared.graph.Exit.TheVariants.{Call}
use Rattle.vx_flow.specs.declared.graph.Block.{Block}
use Rattle.vx_lower.specs.Seen.{Sees}
use Rattle.vx_lower.specs.Holds.{same, Way, To, Into, Tested, Lands, fresh, into, ends}
use Rattle.vx_lower.specs.Does.{Change, By, Up, Down, action_of, Changes, by, up, down, is_call, evaluate, call, assign_local, assign_global, assign_element, change_local, change_global, change_element}
use Rattle.vx_lower.specs.Builds.{reserved, closed, Ready, Grows, Finishes, Opens, Puts}
use Rattle.vx_lower.specs.Emits.{way_of, Lasts, Checked, Combined, Emits, EmitsRow}
use Rattle.vx_lower.specs.Makes.{PlaceWithin, ChangeWithin, ActionWithin, Alters, Acted}
use Rattle.vx_lower.specs.declared.builder.Builder.{Builder}
use Rattle.vx_lower.proofs.Building.{grows_on, grows_reserved, grows_closed, finishes_back, before_closed, closed_stands, opens_closed}
use Rattle.vx_lower.proofs.PieceMaking.{lands_on}
use Rattle.vx_lower.proofs.Emitting.{within_on, spare_reserved}

pub acted_as : (words : Sees) (a b : Builder) (x y : Action) → x ≡ y → (Ready a → Acted words x a b) → Ready a → Acted words y a b
acted_as words a b x y e f r = subst (λ z. Acted words z a b) e (f r)

-- a value of its own, or the one that is named
abbrev landed_at : ℕ → ℕ → Way One → Type 0
landed_at lo t (To os q) = lo ≤ t
landed_at lo t (Into u q) = u ≡ t
landed_at lo t (Tested one two) = Unit {0}

landed : {lo t : ℕ} {w : Way One} {q : Block} → Lands lo w t q → landed_at lo t w
landed (fresh l) = l
landed into = refl

-- the new value

pub alters_by : (words : Sees) (operator : BinaryOperator) (e : Tree One) (from o : Operand) (dest : Option ℕ) (t : ℕ) (b0 b1 b2 : Builder) → (Ready b0 → Emits words e None o b0 b1) → (Ready b1 → Combined operator from o dest t b1 b2) → Ready b0 → Alters words (By operator e) from dest t b0 b2
alters_by words operator e from o dest t b0 b1 b2 ex co r =
    let hx = ex r in let k = co hx.grows.ready in let v = hx.grows.values in
    record {
      grows = grows_on b0 b1 b2 r hx.grows k.grows;
      below = k.below;
      lands = λ q. lands_on (length b0.banks) (length b1.banks) (way_of dest (Held t) q) t q v (k.lands q);
      code = λ is below B q f w.
          let s2 = k.step B q f w in
          let s1 = hx.code is B s2.start (finishes_back B b1 b2 hx.grows.ready k.grows f) s2.opens in
          record { start = s1.start; opens = s1.opens; holds = by s1.holds v (hx.below refl is) s2.holds };
    }

pub alters_up : (words : Sees) (from : Operand) (dest : Option ℕ) (t : ℕ) (b0 b1 : Builder) → (Ready b0 → Lasts (Compute Add t from (Number (pos 1))) dest t b0 b1) → Ready b0 → Alters words Up from dest t b0 b1
alters_up words from dest t b0 b1 p r =
    let k = p r in
    record { grows = k.grows; below = k.below; lands = k.lands; code = λ is below B q f w. let s = k.step B q f w in record { start = s.start; opens = s.opens; holds = up s.holds } }

pub alters_down : (words : Sees) (from : Operand) (dest : Option ℕ) (t : ℕ) (b0 b1 : Builder) → (Ready b0 → Lasts (Compute Sub t from (Number (pos 1))) dest t b0 b1) → Ready b0 → Alters words Down from dest t b0 b1
alters_down words from dest t b0 b1 p r =
    let k = p r in
    record { grows = k.grows; below = k.below; lands = k.lands; code = λ is below B q f w. let s = k.step B q f w in record { start = s.start; opens = s.opens; holds = down s.holds } }

change_on : (m n : ℕ) (c : Change) → m ≤ n → ChangeWithin m c → ChangeWithin n c
change_on m n (By operator e) le h = within_on m n e le h
change_on m n Up le h = h
change_on m n Down le h = h

-- what an action with a change names
change_parts : (vars : ℕ) (p : Place) (c : Change) → ActionWithin vars (action_of p c) → PlaceWithin vars p × ChangeWithin vars c
change_parts vars p (By operator e) h = (h.0, h.1)
change_parts vars p Up h = (h, tt)
change_parts vars p Down h = (h, tt)

module _ (words : Sees) where
  pub acts_evaluate : (e : Tree One) (o : Operand) (b0 b1 : Builder) → is_call e ≡ false → (Ready b0 → Emits words e None o b0 b1) → Ready b0 → Acted words (Evaluate e) b0 b1
  acts_evaluate e o b0 b1 plain ex r =
      let hx = ex r in
      record {
        grows = hx.grows;
        code = λ vars is le B q f w.
            let s = hx.code (within_on vars (length b0.banks) e le is) B q f w in
            record { start = s.start; opens = s.opens; holds = evaluate plain s.holds le };
      }

  pub acts_call : (f n : ℕ) (row : Tree Row) (os : List Operand) (b0 b1 b2 b3 : Builder) → (Ready b0 → EmitsRow words row os b0 b1) → (n ≡ length b1.blocks) × (b2 ≡ reserved b1) → b3 ≡ closed b2 (Call f os None n) n → Ready b0 → Acted words (Evaluate (Apply f row)) b0 b3
  acts_call f n row os b0 b1 b2 b3 ex en e3 r =
      let nn = length b1.blocks in
      let c3 : b3 ≡ closed (reserved b1) (Call f os None nn) nn = e3 ∙ ap (λ z. closed z (Call f os None n) n) en.1 ∙ ap (λ m. closed (reserved b1) (Call f os None m) m) en.0 in
      let hx = ex r in
      let gr = grows_reserved b1 hx.grows.ready in
      let sp = spare_reserved b1 hx.grows.ready in
      let g02 = grows_on b0 b1 (reserved b1) r hx.grows gr in
      let l1 = hx.grows.longer in
      let g3 = grows_closed b0 (reserved b1) (Call f os None nn) nn r g02 sp.free sp.apart l1 in
      record {
        grows = subst (Grows b0) (sym c3) g3;
        code = λ vars is le B q fin op.
            let f3 = subst (Finishes B) c3 fin in
            let o3 = subst (λ z. Opens B z q) c3 op in
            let f2 = before_closed B (reserved b1) (Call f os None nn) nn gr.ready f3 in
            let o2 = opens_closed B (reserved b1) (Call f os None nn) (closed_stands B (reserved b1) (Call f os None nn) nn gr.ready f3) in
            let o1 : Opens B b1 (ends (Call f os None nn)) = record { is = o2.is } in
            let f1 = finishes_back B b1 (reserved b1) hx.grows.ready gr f2 in
            let s = hx.code (within_on vars (length b0.banks) row le is) B (ends (Call f os None nn)) f1 o1 in
            record { start = s.start; opens = s.opens; holds = call s.holds le (same refl) o3.is };
      }

  pub acts_local : (x : ℕ) (e : Tree One) (o : Operand) (b0 b1 : Builder) → (Ready b0 → Emits words e (Some x) o b0 b1) → Ready b0 → Acted words (Assign (InLocal x) e) b0 b1
  acts_local x e o b0 b1 ex r =
      let hx = ex r in
      record {
        grows = hx.grows;
        code = λ vars is le B q f w.
            let s = hx.code (within_on vars (length b0.banks) e le is.1) B q f w in
            record { start = s.start; opens = s.opens; holds = assign_local s.holds le };
      }

  pub acts_global : (a : ℕ) (e : Tree One) (o : Operand) (b0 b1 b2 : Builder) → (Ready b0 → Emits words e None o b0 b1) → (Ready b1 → Puts (Store a (Number (pos 0)) o) b1 b2) → Ready b0 → Acted words (Assign (InGlobal a) e) b0 b2
  acts_global a e o b0 b1 b2 ex st r =
      let hx = ex r in let k = st hx.grows.ready in
      record {
        grows = grows_on b0 b1 b2 r hx.grows k.grows;
        code = λ vars is le B q f w.
            let s2 = k.step B q f w in
            let s1 = hx.code (within_on vars (length b0.banks) e le is.1) B s2.start (finishes_back B b1 b2 hx.grows.ready k.grows f) s2.opens in
            record { start = s1.start; opens = s1.opens; holds = assign_global s1.holds le s2.holds };
      }

  pub acts_element : (a t : ℕ) (i e : Tree One) (oi oe : Operand) (b0 b1 b2 b3 b4 : Builder) → (Ready b0 → Emits words i None oi b0 b1) → (Ready b1 → Checked words a oi t b1 b2) → (Ready b2 → Emits words e None oe b2 b3) → (Ready b3 → Puts (Store a (Held t) oe) b3 b4) → Ready b0 → Acted words (Assign (InElement a i) e) b0 b4
  acts_element a t i e oi oe b0 b1 b2 b3 b4 ei ck ee st r =
      let hi = ei r in let k = ck hi.grows.ready in let he = ee k.grows.ready in let z = st he.grows.ready in
      let v1 = hi.grows.values in let v2 = k.grows.values in let lt = k.below in
      record {
        grows = grows_on b0 b2 b4 r (grows_on b0 b1 b2 r hi.grows k.grows) (grows_on b2 b3 b4 k.grows.ready he.grows z.grows);
        code = λ vars is le B q f w.
            let ii = within_on vars (length b0.banks) i le is.0 in
            let ie = within_on vars (length b2.banks) e (omega arith) is.1 in
            let s4 = z.step B q f w in
            let f3 = finishes_back B b3 b4 he.grows.ready z.grows f in
            let s3 = he.code ie B s4.start f3 s4.opens in
            let f2 = finishes_back B b2 b3 k.grows.ready he.grows f3 in
            let s2 = k.step (hi.below refl ii) B s3.start f2 s3.opens in
            let s1 = hi.code ii B s2.start (finishes_back B b1 b2 hi.grows.ready k.grows f2) s2.opens in
            let c = s2.holds in let lo = c.fresh in
            record { start = s1.start; opens = s1.opens; holds = assign_element s1.holds le (record { place = c.place; no = c.no; c = c.c; goes = c.goes; tests = c.tests; stops = c.stops; free = c.free; above = c.above; fresh = omega arith }) lt (omega arith) s3.holds s4.holds };
      }

  pub changes_local : (x t : ℕ) (c : Change) (b0 b1 : Builder) → (Ready b0 → Alters words c (Held x) (Some x) t b0 b1) → Ready b0 → Acted words (action_of (InLocal x) c) b0 b1
  changes_local x t c b0 b1 al r =
      let k = al r in
      record {
        grows = k.grows;
        code = λ vars is le B q f w.
            let parts = change_parts vars (InLocal x) c is in
            let lx = parts.0 in
            let below : x < length b0.banks = omega arith in
            let s = k.code (change_on vars (length b0.banks) c le parts.1) below B q f w in
            record { start = s.start; opens = s.opens; holds = change_local le below (subst (λ z. Changes B words (length b0.banks) (Held x) c s.start z q) (sym (landed (k.lands q))) s.holds) };
      }

  pub changes_global : (a u t : ℕ) (c : Change) (b0 b1 b2 b3 : Builder) → (Ready b0 → Lasts (Load u a (Number (pos 0)) false) None u b0 b1) → (Ready b1 → Alters words c (Held u) None t b1 b2) → (Ready b2 → Puts (Store a (Number (pos 0)) (Held t)) b2 b3) → Ready b0 → Acted words (action_of (InGlobal a) c) b0 b3
  changes_global a u t c b0 b1 b2 b3 ld al st r =
      let l = ld r in let k = al l.grows.ready in let z = st k.grows.ready in
      let v1 = l.grows.values in let lu = l.below refl in
      record {
        grows = grows_on b0 b1 b3 r l.grows (grows_on b1 b2 b3 l.grows.ready k.grows z.grows);
        code = λ vars is le B q f w.
            let parts = change_parts vars (InGlobal a) c is in
            let fu = landed (l.lands q) in let ft = landed (k.lands q) in
            let s3 = z.step B q f w in
            let f2 = finishes_back B b2 b3 k.grows.ready z.grows f in
            let s2 = k.code (change_on vars (length b1.banks) c (omega arith) parts.1) lu B s3.start f2 s3.opens in
            let s1 = l.step B s2.start (finishes_back B b1 b2 l.grows.ready k.grows f2) s2.opens in
            record { start = s1.start; opens = s1.opens; holds = change_global s1.holds (omega arith) lu (omega arith) s2.holds (omega arith) s3.holds };
      }

  pub changes_element : (a t u v : ℕ) (i : Tree One) (oi : Operand) (c : Change) (b0 b1 b2 b3 b4 b5 : Builder) → (Ready b0 → Emits words i None oi b0 b1) → (Ready b1 → Checked words a oi t b1 b2) → (Ready b2 → Lasts (Load u a (Held t) false) None u b2 b3) → (Ready b3 → Alters words c (Held u) None v b3 b4) → (Ready b4 → Puts (Store a (Held t) (Held v)) b4 b5) → Ready b0 → Acted words (action_of (InElement a i) c) b0 b5
  changes_element a t u v i oi c b0 b1 b2 b3 b4 b5 ei ck ld al st r =
      let hi = ei r in let k = ck hi.grows.ready in let l = ld k.grows.ready in let h = al l.grows.ready in let z = st h.grows.ready in
      let v1 = hi.grows.values in let v2 = k.grows.values in let v3 = l.grows.values in let lt = k.below in let lu = l.below refl in
      record {
        grows = grows_on b0 b2 b5 r (grows_on b0 b1 b2 r hi.grows k.grows) (grows_on b2 b3 b5 k.grows.ready l.grows (grows_on b3 b4 b5 l.grows.ready h.grows z.grows));
        code = λ vars is le B q f w.
            let parts = change_parts vars (InElement a i) c is in
            let ii = within_on vars (length b0.banks) i le parts.0 in
            let fu = landed (l.lands q) in let fv = landed (h.lands q) in
            let s5 = z.step B q f w in
            let f4 = finishes_back B b4 b5 h.grows.ready z.grows f in
            let s4 = h.code (change_on vars (length b3.banks) c (omega arith) parts.1) lu B s5.start f4 s5.opens in
            let f3 = finishes_back B b3 b4 l.grows.ready h.grows f4 in
            let s3 = l.step B s4.start f3 s4.opens in
            let f2 = finishes_back B b2 b3 k.grows.ready l.grows f3 in
            let s2 = k.step (hi.below refl ii) B s3.start f2 s3.opens in
            let s1 = hi.code ii B s2.start (finishes_back B b1 b2 hi.grows.ready k.grows f2) s2.opens in
            let d = s2.holds in let lo = d.fresh in
            record { start = s1.start; opens = s1.opens; holds = change_element s1.holds le (record { place = d.place; no = d.no; c = d.c; goes = d.goes; tests = d.tests; stops = d.stops; free = d.free; above = d.above; fresh = omega arith }) s3.holds (omega arith) lu (omega arith) s4.holds (omega arith) (omega arith) s5.holds };
      }
