-- The code of expressions, put together from its pieces.
use Rattle.std.proofs.Common.{◌≡◌, ◌⊎◌, ℕ, ◌+◌, ◌<◌, ◌≤◌, pos, false, List, [], ◌∷◌, ◌++◌, length, Option, Some, None, refl, sym, ap, ◌∙◌, subst, inl, inr, arith, append_assoc, append-nil}
use Rattle.std.specs.Prelude.{slice_get}
use Rattle.std.proofs.lemmas.List.{length-append}
use Rattle.std.proofs.lemmas.Option.{slice_get_within}
use Rattle.vx_base.specs.declared.arithmetic.Code.TheVariants.{Mov, ToGeneral, ToBranch}
use Rattle.vx_base.specs.declared.arithmetic.Compare.{Compare}
use Rattle.vx_base.specs.declared.arithmetic.Compare.TheVariants.{Ne}
use Rattle.vx_base.specs.declared.outcome.Trap.TheVariants.{Input as ByInput}
use Rattle.vx_ast.specs.declared.tree.UnaryOperator.{UnaryOperator}
use Rattle.vx_ast.specs.declared.tree.UnaryOperator.TheVariants.{Not}
use Rattle.vx_ast.specs.declared.tree.BinaryOperator.{BinaryOperator}
use Rattle.vx_ast.specs.declared.tree.Expression.{Expression}
use Rattle.vx_ast.specs.Tree.{Shape, One, Row, Tree, Literal, Local, Global, Element, Unary, Binary, Both, Either, Choice, Apply, ReadInt, MoreInput, NoMore, Then, Hand}
use Rattle.vx_ast.specs.declared.tree.Argument.{Argument}
use Rattle.vx_ast.specs.View.{tree_of, row_in, argument_before, arguments_in}
use Rattle.vx_ast.specs.Accepted.{row_length}
use Rattle.vx_flow.specs.declared.graph.Bank.TheVariants.{General, Branch}
use Rattle.vx_flow.specs.declared.graph.Operand.{Operand}
use Rattle.vx_flow.specs.declared.graph.Operand.TheVariants.{Held, Number}
use Rattle.vx_flow.specs.declared.graph.Op.TheVariants.{Compute, Load, More, Input}
use Rattle.vx_flow.specs.declared.graph.Exit.{Exit}
use Rattle.vx_flow.specs.declared.graph.Exit.TheVariants.{Goto, Call}
use Rattle.vx_flow.specs.declared.graph.Block.{Block}
use Rattle.vx_lower.specs.Seen.{Sees, size_at}
use Rattle.vx_lower.specs.Holds.{IsBelow, same, on, To, Into, Lands, fresh, into, Holds, global, element, unary, binary, both, either, choice, apply, read_int, more_input, copied, tested, compared, turned, both_tested, either_tested, no_more, then, hand, comparison_of, unary_op, ends, jump}
use Rattle.vx_lower.specs.Builds.{reserved, closed, filled, turned_to, with_value, Ready, Grows, Finishes, Opens, Puts, Branches, Guards}
use Rattle.vx_lower.specs.Emits.{way_of, Aimed, Lasts, IsMoved, Delivers, Checked, Combined, IsWithin, Emits, EmitsTest, EmitsRow, EmitsFront, EmitsBehind, row_before, Stands, Spare, Asked, Truth}
use Rattle.vx_lower.specs.declared.builder.Builder.{Builder}
use Rattle.vx_lower.proofs.Rows.{before_assoc, before_none, row_more, arguments_more, within_before, length_before}
use Rattle.vx_lower.proofs.Ties.{below_on}
use Rattle.vx_lower.proofs.Places.{get_last, length_more, set_other, set_length}
use Rattle.vx_lower.proofs.Building.{current_within, grows_self, grows_on, grows_value, grows_reserved, grows_closed, grows_filled, finishes_back, before_closed, before_filled, closed_stands, filled_stands, opens_closed}
use Rattle.vx_lower.proofs.PieceMaking.{lands_on, value_next, sets_of, guarded_of, branched_of}

-- numbers of values and of blocks

up_to : (a b c : ℕ) → a ≤ b → b ≤ c → a ≤ c
up_to a b c p q = omega arith

under_two : (t a b c d : ℕ) → t < a → a ≤ b → b ≤ c → d ≡ c → t < d
under_two t a b c d h p q e = omega arith

under_three : (t a b c d x : ℕ) → t < a → a ≤ b → b ≤ c → c ≤ d → x ≡ d → t < x
under_three t a b c d x h p q r e = omega arith

above : (n l m : ℕ) → n < l → l ≤ m → m ≡ n → ⊥
above n l m p q d = omega arith

not_same : (m j : ℕ) → m < j → j ≡ m → ⊥
not_same m j p d = omega arith

to_next : (a b x : ℕ) → a ≤ b → x ≡ b → a ≤ x
to_next a b x p e = omega arith

past_one : (a j l m : ℕ) → a ≤ j → l ≡ j + 1 → l ≤ m → a ≤ m
past_one a j l m p e q = omega arith

behind : (j l m : ℕ) → l ≡ j + 1 → l ≤ m → m ≡ j → ⊥
behind j l m e q d = omega arith

short : (j : ℕ) → length (jump j).ops ≤ 512
short j = omega arith

-- blocks that wait

pub spare_on : (a b : Builder) (n : ℕ) → Grows a b → Spare a n → Spare b n
spare_on a b n g s =
    let w = slice_get_within a.blocks n None s.free in
    record { free = g.kept n w s.apart ∙ s.free; apart = λ e. away e g.current }
  where
    away : n ≡ b.current → ((b.current ≡ a.current) ⊎ (length a.blocks ≤ b.current)) → ⊥
    away e (inl f) = s.apart (e ∙ f)
    away e (inr l) = let w = slice_get_within a.blocks n None s.free in omega arith

pub spare_closed : (b : Builder) (exit : Exit) (m n : ℕ) → Spare b n → (n ≡ m → ⊥) → Spare (closed b exit m) n
spare_closed b exit m n s d = record { free = set_other b.blocks b.current n (Some (record { ops = b.ops; exit = exit })) s.apart ∙ s.free; apart = d }

pub spare_filled : (b : Builder) (n m : ℕ) (block : Block) → Spare b m → (m ≡ n → ⊥) → Spare (filled b n block) m
spare_filled b n m block s d = record { free = set_other b.blocks n m (Some block) d ∙ s.free; apart = s.apart }

pub spare_reserved : (b : Builder) → Ready b → Spare (reserved b) (length b.blocks)
spare_reserved b r = let w = current_within b r in record { free = get_last b.blocks None; apart = λ e. omega arith }

pub ready_closed : (b : Builder) (exit : Exit) (n : ℕ) → Spare b n → Ready (closed b exit n)
ready_closed b exit n s = record { is = set_other b.blocks b.current n (Some (record { ops = b.ops; exit = exit })) s.apart ∙ s.free }

-- two arms that come together: one from b to c, where n waits, the other from n to d
pub record Joined (a c d e : Builder) (n j : ℕ) : Type 0 where
  pub grows : Grows a e
  pub first : (B : List Block) → Finishes B e → Finishes B c
  pub first_opens : (B : List Block) → Finishes B e → Opens B c (jump j)
  pub second : (B : List Block) → Finishes B e → Finishes B d
  pub second_opens : (B : List Block) → Finishes B e → Opens B d (jump j)

pub joined : (a b c d : Builder) (n : ℕ) → Ready a → Grows a b → Ready b → Grows b c → Spare b n → length a.blocks ≤ n → (Ready (closed (reserved c) (Goto (length c.blocks)) n) → Grows (closed (reserved c) (Goto (length c.blocks)) n) d) → Joined a c d (closed d (Goto (length c.blocks)) (length c.blocks)) n (length c.blocks)
joined a b c d n ra gab rb gbc sn late gd =
    let j = length c.blocks in
    let rc = gbc.ready in
    let g1 = grows_reserved c rc in
    let b7 = reserved c in
    let b8 = closed (reserved c) (Goto j) n in
    let sn7 = spare_on b b7 n (grows_on b c b7 rb gbc g1) sn in
    let wn = slice_get_within b.blocks n None sn.free in
    let lbc = gbc.longer in let lab = gab.longer in
    let apart : j ≡ n → ⊥ = λ e. omega arith in
    let r8 = ready_closed b7 (Goto j) n sn7 in
    let g8d = gd r8 in
    let gac = grows_on a b c ra gab gbc in
    let ga7 = grows_on a c b7 ra gac g1 in
    let ga8 = grows_closed a b7 (Goto j) n ra ga7 sn7.free sn7.apart late in
    let gad = grows_on a b8 d ra ga8 g8d in
    let sj8 = spare_closed b7 (Goto j) n j (spare_reserved c rc) apart in
    let sjd = spare_on b8 d j g8d sj8 in
    record {
      grows = grows_closed a d (Goto j) j ra gad sjd.free sjd.apart (omega arith);
      first = λ B f. finishes_back B c b7 rc g1 (before_closed B b7 (Goto j) n g1.ready (finishes_back B b8 d r8 g8d (before_closed B d (Goto j) j g8d.ready f)));
      first_opens = λ B f. let o = opens_closed B c (Goto j) (closed_stands B b7 (Goto j) n g1.ready (finishes_back B b8 d r8 g8d (before_closed B d (Goto j) j g8d.ready f))) in o;
      second = λ B f. before_closed B d (Goto j) j g8d.ready f;
      second_opens = λ B f. opens_closed B d (Goto j) (closed_stands B d (Goto j) j g8d.ready f);
    }

-- the value that is wanted

pub record Aim (dest : Option ℕ) (t : ℕ) (old new : Builder) : Type 0 where
  pub grows : Grows old new
  pub below : dest ≡ None → t < length new.banks
  pub lands : (q : Block) → Lands (length old.banks) (way_of dest (Held t) q) t q
  pub back : (B : List Block) (q : Block) → Opens B new q → Opens B old q

pub aim_of : (dest : Option ℕ) (t : ℕ) (b b1 : Builder) → Aimed dest t b b1 → Ready b → Aim dest t b b1
aim_of None t b b1 e r =
    let n = value_next b b1 General e.1 in let m = e.0 in
    record {
      grows = subst (Grows b) (sym e.1) (grows_value b General r);
      below = λ d. omega arith;
      lands = λ q. fresh (omega arith);
      back = λ B q o. let o2 = subst (λ z. Opens B z q) e.1 o in record { is = o2.is };
    }
aim_of (Some d) t b b1 e r = record {
  grows = subst (Grows b) (sym e.1) (grows_self b r);
  below = λ n. absurd (cc);
  lands = λ q. subst (λ z. Lands (length b.banks) (Into z q) t q) e.0 into;
  back = λ B q o. subst (λ z. Opens B z q) e.1 o;
}

pub asked_of : (compare : Compare) (o u : Operand) (c n : ℕ) (b b1 b2 : Builder) → (c ≡ length b.banks) × (b1 ≡ with_value b Branch) → (Ready b1 → Branches (Compute (ToBranch compare) c o u) c n b1 b2) → Ready b → Asked compare o u n b b2
asked_of compare o u c n b b1 b2 e p r =
    let x = branched_of b b1 b2 c n Branch (Compute (ToBranch compare) c o u) e p r in let f = x.fresh in
    record { c = c; above = omega arith; grows = x.grows; spare = x.spare; late = x.late; moved = x.moved; empty = x.empty; step = x.step }

-- an operand that is delivered
holds_moved : (B : List Block) (words : Sees) (e : Tree One) (dest : Option ℕ) (o r : Operand) (p q : Block) (lo : ℕ) → ((m : Block) → Holds B words One e m (To (o ∷ []) m) lo) → IsMoved B dest o r p q → Holds B words One e p (way_of dest r q) lo
holds_moved B words e None o r p q lo h m = subst (λ z. Holds B words One e p (To (z ∷ []) q) lo) (sym m.0) (subst (λ z. Holds B words One e p (To (o ∷ []) z) lo) m.1 (h p))
holds_moved B words e (Some t) o r p q lo h m = copied (h p) m.1

-- what is within n is within what is more
pub within_on : {k : Shape} (m n : ℕ) (t : Tree k) → m ≤ n → IsWithin m t → IsWithin n t
within_on m n (Literal z) le h = h
within_on m n (Local x) le h = omega arith
within_on m n (Global a) le h = h
within_on m n (Element a i) le h = within_on m n i le h
within_on m n (Unary operator a) le h = within_on m n a le h
within_on m n (Binary operator a b) le h = (within_on m n a le h.0, within_on m n b le h.1)
within_on m n (Both a b) le h = (within_on m n a le h.0, within_on m n b le h.1)
within_on m n (Either a b) le h = (within_on m n a le h.0, within_on m n b le h.1)
within_on m n (Choice c a b) le h = (within_on m n c le h.0, within_on m n a le h.1, within_on m n b le h.2)
within_on m n (Apply f row) le h = within_on m n row le h
within_on m n ReadInt le h = h
within_on m n MoreInput le h = h
within_on m n NoMore le h = h
within_on m n (Then a rest) le h = (within_on m n a le h.0, within_on m n rest le h.1)
within_on m n (Hand a rest) le h = within_on m n rest le h

module _ (words : Sees) where
  pub emits_operand : (e : Tree One) (dest : Option ℕ) (o r : Operand) (b b1 : Builder) → ((B : List Block) (m : Block) → Holds B words One e m (To (o ∷ []) m) (length b.banks)) → (IsWithin (length b.banks) e → IsBelow (length b.banks) o) → (Ready b → Delivers dest o r b b1) → Ready b → Emits words e dest r b b1
  emits_operand e dest o r b b1 h below d ready =
      let x = d ready in
      record {
        grows = x.grows;
        below = λ n is. subst (IsBelow (length b1.banks)) (sym (x.kept n)) (below_on (length b.banks) (length b1.banks) o x.grows.values (below is));
        code = λ is B q f w. let s = x.step B q f w in record { start = s.start; opens = s.opens; holds = holds_moved B words e dest o r s.start q (length b.banks) (h B) s.holds };
      }

  pub emits_global : (a t : ℕ) (dest : Option ℕ) (b b1 : Builder) → (Ready b → Lasts (Load t a (Number (pos 0)) false) dest t b b1) → Ready b → Emits words (Global a) dest (Held t) b b1
  emits_global a t dest b b1 p r =
      let x = p r in
      record { grows = x.grows; below = λ d is. x.below d; code = λ is B q f w. let s = x.step B q f w in record { start = s.start; opens = s.opens; holds = global s.holds (x.lands q) } }

  pub emits_more : (t : ℕ) (dest : Option ℕ) (b b1 : Builder) → (Ready b → Lasts (More t) dest t b b1) → Ready b → Emits words MoreInput dest (Held t) b b1
  emits_more t dest b b1 p r =
      let x = p r in
      record { grows = x.grows; below = λ d is. x.below d; code = λ is B q f w. let s = x.step B q f w in record { start = s.start; opens = s.opens; holds = more_input s.holds (x.lands q) } }

  pub emits_element : (a t place : ℕ) (dest : Option ℕ) (i : Tree One) (index : Operand) (b0 b1 b2 b3 : Builder) → (Ready b0 → Emits words i None index b0 b1) → (Ready b1 → Checked words a index place b1 b2) → (Ready b2 → Lasts (Load t a (Held place) false) dest t b2 b3) → Ready b0 → Emits words (Element a i) dest (Held t) b0 b3
  emits_element a t place dest i index b0 b1 b2 b3 ei ck pl r =
      let x = ei r in
      let k = ck x.grows.ready in
      let z = pl k.grows.ready in
      let v1 = x.grows.values in let v2 = k.grows.values in
      record {
        grows = grows_on b0 b1 b3 r x.grows (grows_on b1 b2 b3 x.grows.ready k.grows z.grows);
        below = λ d is. z.below d;
        code = λ is B q f w.
            let s3 = z.step B q f w in
            let f2 = finishes_back B b2 b3 k.grows.ready z.grows f in
            let s2 = k.step (x.below refl is) B s3.start f2 s3.opens in
            let s1 = x.code is B s2.start (finishes_back B b1 b2 x.grows.ready k.grows f2) s2.opens in
            let c = s2.holds in
            let lo = c.fresh in
            record { start = s1.start; opens = s1.opens; holds = element s1.holds (record { place = c.place; no = c.no; c = c.c; goes = c.goes; tests = c.tests; stops = c.stops; free = c.free; above = c.above; fresh = omega arith }) s3.holds (lands_on (length b0.banks) (length b2.banks) (way_of dest (Held t) q) t q (up_to (length b0.banks) (length b1.banks) (length b2.banks) v1 v2) (z.lands q)) };
      }

  pub emits_unary : (operator : UnaryOperator) (t : ℕ) (dest : Option ℕ) (a : Tree One) (o : Operand) (b0 b1 b2 : Builder) → (Ready b0 → Emits words a None o b0 b1) → (Ready b1 → Lasts (unary_op operator t o) dest t b1 b2) → Ready b0 → Emits words (Unary operator a) dest (Held t) b0 b2
  emits_unary operator t dest a o b0 b1 b2 ea p r =
      let x = ea r in let z = p x.grows.ready in let v = x.grows.values in
      record {
        grows = grows_on b0 b1 b2 r x.grows z.grows;
        below = λ d is. z.below d;
        code = λ is B q f w.
            let s2 = z.step B q f w in
            let s1 = x.code is B s2.start (finishes_back B b1 b2 x.grows.ready z.grows f) s2.opens in
            record { start = s1.start; opens = s1.opens; holds = unary s1.holds s2.holds (lands_on (length b0.banks) (length b1.banks) (way_of dest (Held t) q) t q v (z.lands q)) };
      }

  pub emits_binary : (operator : BinaryOperator) (t : ℕ) (dest : Option ℕ) (x y : Tree One) (ox oy : Operand) (b0 b1 b2 b3 : Builder) → (Ready b0 → Emits words x None ox b0 b1) → (Ready b1 → Emits words y None oy b1 b2) → (Ready b2 → Combined operator ox oy dest t b2 b3) → Ready b0 → Emits words (Binary operator x y) dest (Held t) b0 b3
  emits_binary operator t dest x y ox oy b0 b1 b2 b3 ex ey p r =
      let hx = ex r in let hy = ey hx.grows.ready in let z = p hy.grows.ready in
      let v1 = hx.grows.values in let v2 = hy.grows.values in
      record {
        grows = grows_on b0 b2 b3 r (grows_on b0 b1 b2 r hx.grows hy.grows) z.grows;
        below = λ d is. z.below d;
        code = λ is B q f w.
            let iy = within_on (length b0.banks) (length b1.banks) y v1 is.1 in
            let s3 = z.step B q f w in
            let f2 = finishes_back B b2 b3 hy.grows.ready z.grows f in
            let s2 = hy.code iy B s3.start f2 s3.opens in
            let s1 = hx.code is.0 B s2.start (finishes_back B b1 b2 hx.grows.ready hy.grows f2) s2.opens in
            record { start = s1.start; opens = s1.opens; holds = binary s1.holds v1 (hx.below refl is.0) s2.holds v2 (hy.below refl iy) s3.holds (lands_on (length b0.banks) (length b2.banks) (way_of dest (Held t) q) t q (up_to (length b0.banks) (length b1.banks) (length b2.banks) v1 v2) (z.lands q)) };
      }

  pub emits_read : (v c t : ℕ) (dest : Option ℕ) (b0 b1 b2 b3 b4 b5 : Builder) → (v ≡ length b0.banks) × (b1 ≡ with_value b0 General) → (Ready b1 → Puts (More v) b1 b2) → (c ≡ length b2.banks) × (b3 ≡ with_value b2 Branch) → (Ready b3 → Guards (Compute (ToBranch Ne) c (Held v) (Number (pos 0))) c ByInput b3 b4) → (Ready b4 → Lasts (Input t) dest t b4 b5) → Ready b0 → Emits words ReadInt dest (Held t) b0 b5
  emits_read v c t dest b0 b1 b2 b3 b4 b5 ev pv ec pc pt r =
      let x = sets_of b0 b1 b2 v General (More v) ev pv r in
      let k = guarded_of b2 b3 b4 c ByInput Branch (Compute (ToBranch Ne) c (Held v) (Number (pos 0))) ec pc x.grows.ready in
      let z = pt k.grows.ready in
      let fv = x.fresh in let fc = k.fresh in let v1 = x.grows.values in let v2 = k.grows.values in
      record {
        grows = grows_on b0 b2 b5 r x.grows (grows_on b2 b4 b5 x.grows.ready k.grows z.grows);
        below = λ d is. z.below d;
        code = λ is B q f w.
            let s3 = z.step B q f w in
            let f4 = finishes_back B b4 b5 k.grows.ready z.grows f in
            let s2 = k.step B s3.start f4 s3.opens in
            let s1 = x.step B s2.start (finishes_back B b2 b4 x.grows.ready k.grows f4) s2.opens in
            record { start = s1.start; opens = s1.opens; holds = read_int (omega arith) (omega arith) s1.holds s2.holds.1 s2.holds.2 s3.holds (lands_on (length b0.banks) (length b4.banks) (way_of dest (Held t) q) t q (up_to (length b0.banks) (length b2.banks) (length b4.banks) v1 v2) (z.lands q)) };
      }

  -- `&&`: where the left operand is not 0 the right one is evaluated, elsewhere the result is 0
  pub emits_both : (t n j : ℕ) (dest : Option ℕ) (x y : Tree One) (oy : Operand) (b0 b2 b3 b4 b5 b6 b7 b8 : Builder) → (Ready b0 → EmitsTest words x n b0 b2) → Aimed dest t b2 b3 → (Ready b3 → Emits words y None oy b3 b4) → (Ready b4 → Puts (Compute (ToGeneral Ne) t oy (Number (pos 0))) b4 b5) → (j ≡ length b5.blocks) × (b6 ≡ closed (reserved b5) (Goto j) n) → (Ready b6 → Puts (Compute Mov t (Number (pos 0)) (Number (pos 0))) b6 b7) → b8 ≡ closed b7 (Goto j) j → Ready b0 → Emits words (Both x y) dest (Held t) b0 b8
  emits_both t n j dest x y oy b0 b2 b3 b4 b5 b6 b7 b8 ex ai ey pf ej pn e8 r =
      let jj = length b5.blocks in
      let c6 : b6 ≡ closed (reserved b5) (Goto jj) n = ej.1 ∙ ap (λ m. closed (reserved b5) (Goto m) n) ej.0 in
      let c8 : b8 ≡ closed b7 (Goto jj) jj = e8 ∙ ap (λ m. closed b7 (Goto m) m) ej.0 in
      let k = ex r in
      let a = aim_of dest t b2 b3 ai k.grows.ready in
      let hy = ey a.grows.ready in
      let s = pf hy.grows.ready in
      let g25 = grows_on b2 b4 b5 k.grows.ready (grows_on b2 b3 b4 k.grows.ready a.grows hy.grows) s.grows in
      let pn6 = subst (λ z. Ready z → Puts (Compute Mov t (Number (pos 0)) (Number (pos 0))) z b7) c6 pn in
      let w = joined b0 b2 b5 b7 n r k.grows k.grows.ready g25 k.spare k.late (λ r6. (pn6 r6).grows) in
      let r6 = ready_closed (reserved b5) (Goto jj) n (spare_on b2 (reserved b5) n (grows_on b2 b5 (reserved b5) k.grows.ready g25 (grows_reserved b5 s.grows.ready)) k.spare) in
      let arm = pn6 r6 in
      let v2 = k.grows.values in let v3 = a.grows.values in let v4 = hy.grows.values in let v5 = s.grows.values in let v7 = arm.grows.values in
      let l3 = up_to (length b0.banks) (length b2.banks) (length b3.banks) v2 v3 in
      let same_banks : length b8.banks ≡ length b7.banks = ap (λ z. length z.banks) c8 in
      record {
        grows = subst (Grows b0) (sym c8) w.grows;
        below = λ d is. under_three t (length b3.banks) (length b4.banks) (length b5.banks) (length b7.banks) (length b8.banks) (a.below d) v4 v5 v7 same_banks;
        code = λ is B q f0 o0.
            let f = subst (Finishes B) c8 f0 in
            let o = subst (λ z. Opens B z q) c8 o0 in
            let s5 = s.step B (jump jj) (w.first B f) (w.first_opens B f) in
            let f4 = finishes_back B b4 b5 hy.grows.ready s.grows (w.first B f) in
            let s4 = hy.code (within_on (length b0.banks) (length b3.banks) y l3 is.1) B s5.start f4 s5.opens in
            let f3 = finishes_back B b3 b4 a.grows.ready hy.grows f4 in
            let f2 = finishes_back B b2 b3 k.grows.ready a.grows f3 in
            let s7 = arm.step B (jump jj) (w.second B f) (w.second_opens B f) in
            let s2 = k.code is.0 B s4.start s7.start f2 (a.back B s4.start s4.opens) s7.opens.is in
            record { start = s2.start; opens = s2.opens; holds = both s2.holds l3 s4.holds s5.holds (on jj q refl o.is (same refl)) s7.holds (on jj q refl o.is (same refl)) (lands_on (length b0.banks) (length b2.banks) (way_of dest (Held t) q) t q v2 (a.lands q)) };
      }

  -- `||`: where the left operand is not 0 the result is 1, elsewhere the right one is evaluated
  pub emits_either : (t n j : ℕ) (dest : Option ℕ) (x y : Tree One) (oy : Operand) (b0 b2 b3 b4 b5 b6 b7 b8 : Builder) → (Ready b0 → EmitsTest words x n b0 b2) → Aimed dest t b2 b3 → (Ready b3 → Puts (Compute Mov t (Number (pos 1)) (Number (pos 0))) b3 b4) → (j ≡ length b4.blocks) × (b5 ≡ closed (reserved b4) (Goto j) n) → (Ready b5 → Emits words y None oy b5 b6) → (Ready b6 → Puts (Compute (ToGeneral Ne) t oy (Number (pos 0))) b6 b7) → b8 ≡ closed b7 (Goto j) j → Ready b0 → Emits words (Either x y) dest (Held t) b0 b8
  emits_either t n j dest x y oy b0 b2 b3 b4 b5 b6 b7 b8 ex ai po ej ey pf e8 r =
      let jj = length b4.blocks in
      let b5c = closed (reserved b4) (Goto jj) n in
      let c5 : b5 ≡ closed (reserved b4) (Goto jj) n = ej.1 ∙ ap (λ m. closed (reserved b4) (Goto m) n) ej.0 in
      let c8 : b8 ≡ closed b7 (Goto jj) jj = e8 ∙ ap (λ m. closed b7 (Goto m) m) ej.0 in
      let k = ex r in
      let a = aim_of dest t b2 b3 ai k.grows.ready in
      let s = po a.grows.ready in
      let g24 = grows_on b2 b3 b4 k.grows.ready a.grows s.grows in
      let r5 = ready_closed (reserved b4) (Goto jj) n (spare_on b2 (reserved b4) n (grows_on b2 b4 (reserved b4) k.grows.ready g24 (grows_reserved b4 s.grows.ready)) k.spare) in
      let ey5 = subst (λ z. Ready z → Emits words y None oy z b6) c5 ey in
      let hy = ey5 r5 in
      let z = pf hy.grows.ready in
      let w = joined b0 b2 b4 b7 n r k.grows k.grows.ready g24 k.spare k.late (λ q5. grows_on b5c b6 b7 q5 (ey5 q5).grows (pf (ey5 q5).grows.ready).grows) in
      let v2 = k.grows.values in let v3 = a.grows.values in let v4 = s.grows.values in let v5 = hy.grows.values in let v6 = z.grows.values in
      let l3 = up_to (length b0.banks) (length b2.banks) (length b3.banks) v2 v3 in
      let l4 = up_to (length b0.banks) (length b3.banks) (length b4.banks) l3 v4 in
      let same_banks : length b8.banks ≡ length b7.banks = ap (λ z. length z.banks) c8 in
      record {
        grows = subst (Grows b0) (sym c8) w.grows;
        below = λ d is. under_three t (length b3.banks) (length b4.banks) (length b6.banks) (length b7.banks) (length b8.banks) (a.below d) v4 v5 v6 same_banks;
        code = λ is B q f0 o0.
            let f = subst (Finishes B) c8 f0 in
            let o = subst (λ z. Opens B z q) c8 o0 in
            let s4 = s.step B (jump jj) (w.first B f) (w.first_opens B f) in
            let f3 = finishes_back B b3 b4 a.grows.ready s.grows (w.first B f) in
            let f2 = finishes_back B b2 b3 k.grows.ready a.grows f3 in
            let s7 = z.step B (jump jj) (w.second B f) (w.second_opens B f) in
            let s6 = hy.code (within_on (length b0.banks) (length b5c.banks) y l4 is.1) B s7.start (finishes_back B b6 b7 hy.grows.ready z.grows (w.second B f)) s7.opens in
            let s2 = k.code is.0 B s4.start s6.start f2 (a.back B s4.start s4.opens) s6.opens.is in
            record { start = s2.start; opens = s2.opens; holds = either s2.holds l4 s6.holds s7.holds (on jj q refl o.is (same refl)) s4.holds (on jj q refl o.is (same refl)) (lands_on (length b0.banks) (length b2.banks) (way_of dest (Held t) q) t q v2 (a.lands q)) };
      }

  -- `?:`: either operand comes into the same value
  pub emits_choice : (t n j : ℕ) (dest : Option ℕ) (c x y : Tree One) (ox oy : Operand) (b0 b2 b3 b4 b5 b6 b7 : Builder) → (Ready b0 → EmitsTest words c n b0 b2) → Aimed dest t b2 b3 → (Ready b3 → Emits words x (Some t) ox b3 b4) → (j ≡ length b4.blocks) × (b5 ≡ closed (reserved b4) (Goto j) n) → (Ready b5 → Emits words y (Some t) oy b5 b6) → b7 ≡ closed b6 (Goto j) j → Ready b0 → Emits words (Choice c x y) dest (Held t) b0 b7
  emits_choice t n j dest c x y ox oy b0 b2 b3 b4 b5 b6 b7 ec ai ex ej ey e7 r =
      let jj = length b4.blocks in
      let b5c = closed (reserved b4) (Goto jj) n in
      let c5 : b5 ≡ closed (reserved b4) (Goto jj) n = ej.1 ∙ ap (λ m. closed (reserved b4) (Goto m) n) ej.0 in
      let c7 : b7 ≡ closed b6 (Goto jj) jj = e7 ∙ ap (λ m. closed b6 (Goto m) m) ej.0 in
      let k = ec r in
      let a = aim_of dest t b2 b3 ai k.grows.ready in
      let hx = ex a.grows.ready in
      let g24 = grows_on b2 b3 b4 k.grows.ready a.grows hx.grows in
      let r5 = ready_closed (reserved b4) (Goto jj) n (spare_on b2 (reserved b4) n (grows_on b2 b4 (reserved b4) k.grows.ready g24 (grows_reserved b4 hx.grows.ready)) k.spare) in
      let ey5 = subst (λ z. Ready z → Emits words y (Some t) oy z b6) c5 ey in
      let hy = ey5 r5 in
      let w = joined b0 b2 b4 b6 n r k.grows k.grows.ready g24 k.spare k.late (λ q5. (ey5 q5).grows) in
      let v2 = k.grows.values in let v3 = a.grows.values in let v4 = hx.grows.values in let v5 = hy.grows.values in
      let l3 = up_to (length b0.banks) (length b2.banks) (length b3.banks) v2 v3 in
      let l4 = up_to (length b0.banks) (length b3.banks) (length b4.banks) l3 v4 in
      let same_banks : length b7.banks ≡ length b6.banks = ap (λ z. length z.banks) c7 in
      record {
        grows = subst (Grows b0) (sym c7) w.grows;
        below = λ d is. under_two t (length b3.banks) (length b4.banks) (length b6.banks) (length b7.banks) (a.below d) v4 v5 same_banks;
        code = λ is B q f0 o0.
            let f = subst (Finishes B) c7 f0 in
            let o = subst (λ z. Opens B z q) c7 o0 in
            let s4 = hx.code (within_on (length b0.banks) (length b3.banks) x l3 is.1) B (jump jj) (w.first B f) (w.first_opens B f) in
            let f3 = finishes_back B b3 b4 a.grows.ready hx.grows (w.first B f) in
            let f2 = finishes_back B b2 b3 k.grows.ready a.grows f3 in
            let s6 = hy.code (within_on (length b0.banks) (length b5c.banks) y l4 is.2) B (jump jj) (w.second B f) (w.second_opens B f) in
            let s2 = k.code is.0 B s4.start s6.start f2 (a.back B s4.start s4.opens) s6.opens.is in
            record { start = s2.start; opens = s2.opens; holds = choice s2.holds l3 s4.holds (on jj q refl o.is (same refl)) l4 s6.holds (on jj q refl o.is (same refl)) (lands_on (length b0.banks) (length b2.banks) (way_of dest (Held t) q) t q v2 (a.lands q)) };
      }

  -- tests

  pub tests_value : (n : ℕ) (x : Tree One) (o : Operand) (b0 b1 b2 : Builder) → (Ready b0 → Emits words x None o b0 b1) → (Ready b1 → Truth o n b1 b2) → Ready b0 → EmitsTest words x n b0 b2
  tests_value n x o b0 b1 b2 ex tr r =
      let hx = ex r in let k = tr hx.grows.ready in
      let l1 = hx.grows.longer in
      record {
        grows = grows_on b0 b1 b2 r hx.grows k.grows;
        spare = k.spare;
        late = up_to (length b0.blocks) (length b1.blocks) n l1 k.late;
        moved = up_to (length b0.blocks) (length b1.blocks) b2.current l1 k.moved;
        empty = k.empty;
        code = λ is B one two f w at.
            let s2 = k.step B one two f w at in
            let s1 = hx.code is B s2.start (finishes_back B b1 b2 hx.grows.ready k.grows f) s2.opens in
            record { start = s1.start; opens = s1.opens; holds = tested s1.holds (up_to (length b0.banks) (length b1.banks) k.c hx.grows.values k.above) s2.holds };
      }

  pub tests_compare : (operator : BinaryOperator) (compare : Compare) (n : ℕ) (x y : Tree One) (ox oy : Operand) (b0 b1 b2 b3 : Builder) → comparison_of operator ≡ Some compare → (Ready b0 → Emits words x None ox b0 b1) → (Ready b1 → Emits words y None oy b1 b2) → (Ready b2 → Asked compare ox oy n b2 b3) → Ready b0 → EmitsTest words (Binary operator x y) n b0 b3
  tests_compare operator compare n x y ox oy b0 b1 b2 b3 e ex ey asks r =
      let hx = ex r in let hy = ey hx.grows.ready in let k = asks hy.grows.ready in
      let v1 = hx.grows.values in
      let v = up_to (length b0.banks) (length b1.banks) (length b2.banks) v1 hy.grows.values in
      let l = up_to (length b0.blocks) (length b1.blocks) (length b2.blocks) hx.grows.longer hy.grows.longer in
      record {
        grows = grows_on b0 b2 b3 r (grows_on b0 b1 b2 r hx.grows hy.grows) k.grows;
        spare = k.spare;
        late = up_to (length b0.blocks) (length b2.blocks) n l k.late;
        moved = up_to (length b0.blocks) (length b2.blocks) b3.current l k.moved;
        empty = k.empty;
        code = λ is B one two f w at.
            let s3 = k.step B one two f w at in
            let f2 = finishes_back B b2 b3 hy.grows.ready k.grows f in
            let s2 = hy.code (within_on (length b0.banks) (length b1.banks) y v1 is.1) B s3.start f2 s3.opens in
            let s1 = hx.code is.0 B s2.start (finishes_back B b1 b2 hx.grows.ready hy.grows f2) s2.opens in
            record { start = s1.start; opens = s1.opens; holds = compared compare e s1.holds v1 (hx.below refl is.0) s2.holds (up_to (length b0.banks) (length b2.banks) k.c v k.above) s3.holds };
      }

  -- `!`: the two ways are exchanged
  pub tests_not : (n y : ℕ) (x : Tree One) (b0 b1 b2 : Builder) → (Ready b0 → EmitsTest words x n b0 b1) → (y ≡ b1.current) × (b2 ≡ turned_to b1 n) → Ready b0 → EmitsTest words (Unary Not x) y b0 b2
  tests_not n y x b0 b1 b2 ex e r =
      let hx = ex r in
      let m = e.0 in let l = hx.late in let h = hx.moved in
      let at : b2.current ≡ n = ap (λ z. z.current) e.1 in
      let g : Grows b0 (turned_to b1 n) = record {
        ready = record { is = hx.spare.free };
        kept = hx.grows.kept;
        longer = hx.grows.longer;
        current = inr l;
        values = hx.grows.values;
        banks = hx.grows.banks;
        limited = λ k. let w = hx.grows.limited k in record { opened = w.opened; blocks = w.blocks };
      } in
      let ap2 : y ≡ n → ⊥ = λ d. hx.spare.apart (sym d ∙ m) in
      record {
        grows = subst (Grows b0) (sym e.1) g;
        spare = subst (λ z. Spare z y) (sym e.1) (record { free = ap (slice_get b1.blocks) m ∙ hx.grows.ready.is; apart = ap2 });
        late = omega arith;
        moved = omega arith;
        empty = ap (λ z. z.ops) e.1 ∙ hx.empty;
        code = λ is B one two f0 w0 at2.
            let f = subst (Finishes B) e.1 f0 in
            let w = subst (λ z. Opens B z one) e.1 w0 in
            let at_n : slice_get B n ≡ Some one = w.is ∙ ap (λ ops. let p : Block = record { ops = ops ++ one.ops; exit = one.exit } in Some p) hx.empty in
            let at_y : slice_get B b1.current ≡ Some (record { ops = b1.ops ++ two.ops; exit = two.exit }) = ap (slice_get B) (sym m) ∙ at2 ∙ ap (λ ops. let p : Block = record { ops = ops ++ two.ops; exit = two.exit } in Some p) (sym hx.empty) in
            let s = hx.code is B two one (record { stands = f.stands }) (record { is = at_y }) at_n in
            record { start = s.start; opens = s.opens; holds = turned s.holds };
      }

  -- `&&`: the right operand is tested where the left one holds; where either does not hold the code goes to one block
  pub tests_both : (n m j : ℕ) (x y : Tree One) (b0 b1 b2 b3 : Builder) → (Ready b0 → EmitsTest words x n b0 b1) → (Ready b1 → EmitsTest words y m b1 b2) → (j ≡ length b2.blocks) × (b3 ≡ filled (filled (reserved b2) n (jump j)) m (jump j)) → Ready b0 → EmitsTest words (Both x y) j b0 b3
  tests_both n m j x y b0 b1 b2 b3 ex ey e r =
      let hx = ex r in let hy = ey hx.grows.ready in
      let g12 = hy.grows in
      let g02 = grows_on b0 b1 b2 r hx.grows g12 in
      let l1 = hx.grows.longer in let l2 = g12.longer in let jl = e.0 in let v1 = hx.grows.values in
      let sn = spare_on b1 b2 n g12 hx.spare in
      let wn = slice_get_within b1.blocks n None hx.spare.free in
      let wm = slice_get_within b2.blocks m None hy.spare.free in
      let gr = grows_reserved b2 g12.ready in
      let b4 = reserved b2 in
      let sn4 = spare_on b2 b4 n gr sn in
      let sm4 = spare_on b2 b4 m gr hy.spare in
      let sj4 = spare_reserved b2 g12.ready in
      let g04 = grows_on b0 b2 b4 r g02 gr in
      let g05 = grows_filled b0 b4 n (jump j) r g04 sn4 hx.late (short j) in
      let nm : m ≡ n → ⊥ = above n (length b1.blocks) m wn hy.late in
      let b5 = filled b4 n (jump j) in
      let sm5 = spare_filled b4 n m (jump j) sm4 nm in
      let sj5 = spare_filled b4 n (length b2.blocks) (jump j) sj4 (above n (length b1.blocks) (length b2.blocks) wn l2) in
      let b6 = filled b5 m (jump j) in
      let g06 = grows_filled b0 b5 m (jump j) r g05 sm5 (up_to (length b0.blocks) (length b1.blocks) m l1 hy.late) (short j) in
      let sj6 = spare_filled b5 m (length b2.blocks) (jump j) sj5 (not_same m (length b2.blocks) wm) in
      let at_current : b3.current ≡ b2.current = ap (λ z. z.current) e.1 in
      record {
        grows = subst (Grows b0) (sym e.1) g06;
        spare = subst (λ z. Spare z j) (sym e.1) (subst (Spare b6) (sym jl) sj6);
        late = to_next (length b0.blocks) (length b2.blocks) j (up_to (length b0.blocks) (length b1.blocks) (length b2.blocks) l1 l2) jl;
        moved = to_next (length b0.blocks) b2.current b3.current (up_to (length b0.blocks) (length b1.blocks) b2.current l1 hy.moved) at_current;
        empty = ap (λ z. z.ops) e.1 ∙ hy.empty;
        code = λ is B one two f0 w0 at.
            let f6 : Finishes B b6 = subst (Finishes B) e.1 f0 in
            let w6 = subst (λ z. Opens B z one) e.1 w0 in
            let f5 = before_filled B b5 m (jump j) sm5 f6 in
            let f4 = before_filled B b4 n (jump j) sn4 f5 in
            let f2 = finishes_back B b2 b4 g12.ready gr f4 in
            let at_n : slice_get B n ≡ Some (jump j) = filled_stands B b4 n j sn4 f5 in
            let at_m : slice_get B m ≡ Some (jump j) = filled_stands B b5 m j sm5 f6 in
            let s2 = hy.code (within_on (length b0.banks) (length b1.banks) y v1 is.1) B one (jump j) f2 (record { is = w6.is }) at_m in
            let s1 = hx.code is.0 B s2.start (jump j) (finishes_back B b1 b2 hx.grows.ready g12 f2) s2.opens at_n in
            record { start = s1.start; opens = s1.opens; holds = both_tested s1.holds (on j two refl at (same refl)) v1 s2.holds (same refl) (on j two refl at (same refl)) };
      }

  -- `||`: the right operand is tested where the left one does not hold
  pub tests_either : (n m j : ℕ) (x y : Tree One) (b0 b1 b2 b3 b4 : Builder) → (Ready b0 → EmitsTest words x n b0 b1) → (j ≡ length b1.blocks) × (b2 ≡ closed (reserved b1) (Goto j) n) → (Ready b2 → EmitsTest words y m b2 b3) → b4 ≡ closed b3 (Goto j) j → Ready b0 → EmitsTest words (Either x y) m b0 b4
  tests_either n m j x y b0 b1 b2 b3 b4 ex ej ey e4 r =
      let jj = length b1.blocks in
      let b2c = closed (reserved b1) (Goto jj) n in
      let c2 : b2 ≡ b2c = ej.1 ∙ ap (λ m. closed (reserved b1) (Goto m) n) ej.0 in
      let c4 : b4 ≡ closed b3 (Goto jj) jj = e4 ∙ ap (λ m. closed b3 (Goto m) m) ej.0 in
      let hx = ex r in
      let gr = grows_reserved b1 hx.grows.ready in
      let sn = spare_on b1 (reserved b1) n gr hx.spare in
      let r2 = ready_closed (reserved b1) (Goto jj) n sn in
      let ey2 = subst (λ z. Ready z → EmitsTest words y m z b3) c2 ey in
      let hy = ey2 r2 in
      let w = joined b0 b1 b1 b3 n r hx.grows hx.grows.ready (grows_self b1 hx.grows.ready) hx.spare hx.late (λ q. (ey2 q).grows) in
      let l1 = hx.grows.longer in let v1 = hx.grows.values in
      let wn = slice_get_within b1.blocks n None hx.spare.free in
      let lr : length b2c.blocks ≡ length b1.blocks + 1 = set_length (reserved b1).blocks b1.current (Some (record { ops = b1.ops; exit = Goto jj })) ∙ length_more b1.blocks None in
      let mj : m ≡ jj → ⊥ = behind jj (length b2c.blocks) m lr hy.late in
      let at_current : b4.current ≡ jj = ap (λ z. z.current) c4 in
      record {
        grows = subst (Grows b0) (sym c4) w.grows;
        spare = subst (λ z. Spare z m) (sym c4) (spare_closed b3 (Goto jj) jj m hy.spare mj);
        late = past_one (length b0.blocks) jj (length b2c.blocks) m l1 lr hy.late;
        moved = to_next (length b0.blocks) jj b4.current l1 at_current;
        empty = ap (λ z. z.ops) c4;
        code = λ is B one two f0 o0 at.
            let f = subst (Finishes B) c4 f0 in
            let o = subst (λ z. Opens B z one) c4 o0 in
            let s3 = hy.code (within_on (length b0.banks) (length b2c.banks) y v1 is.1) B (jump jj) two (w.second B f) (w.second_opens B f) at in
            let s1 = hx.code is.0 B (jump jj) s3.start (w.first B f) (w.first_opens B f) s3.opens.is in
            record { start = s1.start; opens = s1.opens; holds = either_tested s1.holds (on jj one refl o.is (same refl)) v1 s3.holds (on jj one refl o.is (same refl)) (same refl) };
      }

  -- the front of a row: whatever row comes behind it makes a whole one
  pub no_front : (b : Builder) → Ready b → EmitsFront words NoMore [] b b
  no_front b r = record { grows = grows_self b r; many = omega arith; code = λ is B m f o. record { start = m; opens = o; holds = λ rest ros q h. h } }

  -- one number
  pub number_front : (e : Tree One) (o : Operand) (b0 b1 : Builder) → (Ready b0 → Emits words e None o b0 b1) → Ready b0 → EmitsFront words (Then e NoMore) (o ∷ []) b0 b1
  number_front e o b0 b1 ex r =
      let hx = ex r in
      record {
        grows = hx.grows;
        many = let a : row_length (Then e NoMore) ≡ 1 = refl in let b : length (o ∷ []) ≡ 1 = refl in omega arith;
        code = λ within B m f w. let s = hx.code within.0 B m f w in record { start = s.start; opens = s.opens; holds = λ rest ros q h. then s.holds hx.grows.values (hx.below refl within.0) h };
      }

  -- one array
  pub array_front : (a v : ℕ) (size : Operand) (b0 b1 : Builder) → size ≡ size_at words a → (Ready b0 → Stands words a v b0 b1) → Ready b0 → EmitsFront words (Hand a NoMore) (Held v ∷ size ∷ []) b0 b1
  array_front a v size b0 b1 e st r =
      let hx = st r in
      record {
        grows = hx.grows;
        many = let x : row_length (Hand a NoMore) ≡ 1 = refl in let y : length (Held v ∷ size ∷ []) ≡ 2 = refl in omega arith;
        code = λ within B m f w. let s = hx.step B m f w in record { start = s.start; opens = s.opens; holds = λ rest ros q h. subst (λ z. Holds B words Row (Hand a rest) s.start (To (Held v ∷ z ∷ ros) q) (length b0.banks)) (sym e) (hand s.holds hx.grows.values h) };
      }

  -- more behind it
  pub front_on : (front more : Tree Row) (os own os2 : List Operand) (b0 b1 b2 : Builder) → (Ready b0 → EmitsFront words front os b0 b1) → (Ready b1 → EmitsFront words more own b1 b2) → os2 ≡ os ++ own → Ready b0 → EmitsFront words (row_before front more) os2 b0 b2
  front_on front more os own os2 b0 b1 b2 row ex is r =
      let hr = row r in let hx = ex hr.grows.ready in
      record {
        grows = grows_on b0 b1 b2 r hr.grows hx.grows;
        many = let k = hr.many in let l = hx.many in let n = length_before front more in let m = length-append os own in let e = ap length is in omega arith;
        code = λ within B m f w.
            let w2 = within_before (length b0.banks) front more within in
            let s2 = hx.code (within_on (length b0.banks) (length b1.banks) more hr.grows.values w2.1) B m f w in
            let s1 = hr.code w2.0 B s2.start (finishes_back B b1 b2 hr.grows.ready hx.grows f) s2.opens in
            record { start = s1.start; opens = s1.opens; holds = λ rest ros q h. front_is B rest ros q s1.start (s1.holds (row_before more rest) (own ++ ros) q (s2.holds rest ros q h)) };
      }
    where
      front_is : (B : List Block) (rest : Tree Row) (ros : List Operand) (q p : Block) → Holds B words Row (row_before front (row_before more rest)) p (To (os ++ (own ++ ros)) q) (length b0.banks) → Holds B words Row (row_before (row_before front more) rest) p (To (os2 ++ ros) q) (length b0.banks)
      front_is B rest ros q p h =
          subst (λ z. Holds B words Row z p (To (os2 ++ ros) q) (length b0.banks)) (before_assoc front more rest)
          (subst (λ z. Holds B words Row (row_before front (row_before more rest)) p (To z q) (length b0.banks)) (sym (append_assoc os own ros) ∙ ap (λ z. z ++ ros) (sym is)) h)

  pub more_front : (xs : List Expression) (e : Expression) (os os2 : List Operand) (o : Operand) (b0 b1 b2 : Builder) → (Ready b0 → EmitsFront words (row_in xs) os b0 b1) → (Ready b1 → Emits words (tree_of e) None o b1 b2) → os2 ≡ os ++ o ∷ [] → Ready b0 → EmitsFront words (row_in (xs ++ e ∷ [])) os2 b0 b2
  more_front xs e os os2 o b0 b1 b2 row ex is r = subst (λ z. EmitsFront words z os2 b0 b2) (row_more xs e) (front_on (row_in xs) (Then (tree_of e) NoMore) os (o ∷ []) os2 b0 b1 b2 row (number_front (tree_of e) o b1 b2 ex) is r)

  pub more_arguments : (xs : List Argument) (x : Argument) (os os2 : List Operand) (b0 b1 b2 : Builder) → (Ready b0 → EmitsFront words (arguments_in xs) os b0 b1) → (Ready b1 → EmitsBehind words (argument_before x NoMore) os os2 b1 b2) → Ready b0 → EmitsFront words (arguments_in (xs ++ x ∷ [])) os2 b0 b2
  more_arguments xs x os os2 b0 b1 b2 row ex r =
      let hr = row r in
      let y = ex hr.grows.ready in
      subst (λ z. EmitsFront words z os2 b0 b2) (arguments_more xs x) (front_on (arguments_in xs) (argument_before x NoMore) os y.own os2 b0 b1 b2 (λ s. hr) (λ s. y.front) y.is r)

  pub whole_row : (row : Tree Row) (os : List Operand) (b0 b1 : Builder) → (Ready b0 → EmitsFront words row os b0 b1) → Ready b0 → EmitsRow words row os b0 b1
  whole_row row os b0 b1 front r =
      let hr = front r in
      record {
        grows = hr.grows;
        many = hr.many;
        code = λ is B q f w. let s = hr.code is B q f w in record { start = s.start; opens = s.opens; holds = whole B q s.start (s.holds NoMore [] q no_more) };
      }
    where
      whole : (B : List Block) (q p : Block) → Holds B words Row (row_before row NoMore) p (To (os ++ []) q) (length b0.banks) → Holds B words Row row p (To os q) (length b0.banks)
      whole B q p h = subst (λ z. Holds B words Row z p (To os q) (length b0.banks)) (before_none row) (subst (λ z. Holds B words Row (row_before row NoMore) p (To z q) (length b0.banks)) (append-nil os) h)

  pub emits_call : (f t n : ℕ) (dest : Option ℕ) (row : Tree Row) (os : List Operand) (b0 b1 b2 b3 b4 : Builder) → (Ready b0 → EmitsRow words row os b0 b1) → Aimed dest t b1 b2 → (n ≡ length b2.blocks) × (b3 ≡ reserved b2) → b4 ≡ closed b3 (Call f os (Some t) n) n → Ready b0 → Emits words (Apply f row) dest (Held t) b0 b4
  emits_call f t n dest row os b0 b1 b2 b3 b4 args ai en e4 r =
      let nn = length b2.blocks in
      let c4 : b4 ≡ closed (reserved b2) (Call f os (Some t) nn) nn = e4 ∙ ap (λ z. closed z (Call f os (Some t) n) n) en.1 ∙ ap (λ m. closed (reserved b2) (Call f os (Some t) m) m) en.0 in
      let hx = args r in
      let a = aim_of dest t b1 b2 ai hx.grows.ready in
      let gr = grows_reserved b2 a.grows.ready in
      let sp = spare_reserved b2 a.grows.ready in
      let g03 = grows_on b0 b1 (reserved b2) r hx.grows (grows_on b1 b2 (reserved b2) hx.grows.ready a.grows gr) in
      let l1 = hx.grows.longer in let l2 = a.grows.longer in let v1 = hx.grows.values in
      let g4 = grows_closed b0 (reserved b2) (Call f os (Some t) nn) nn r g03 sp.free sp.apart (up_to (length b0.blocks) (length b1.blocks) (length b2.blocks) l1 l2) in
      let same_banks : length b4.banks ≡ length b2.banks = ap (λ z. length z.banks) c4 in
      record {
        grows = subst (Grows b0) (sym c4) g4;
        below = λ d is. let h = a.below d in omega arith;
        code = λ is B q fin op.
            let f4 = subst (Finishes B) c4 fin in
            let o4 = subst (λ z. Opens B z q) c4 op in
            let f3 = before_closed B (reserved b2) (Call f os (Some t) nn) nn gr.ready f4 in
            let o3 = opens_closed B (reserved b2) (Call f os (Some t) nn) (closed_stands B (reserved b2) (Call f os (Some t) nn) nn gr.ready f4) in
            let o2 : Opens B b2 (ends (Call f os (Some t) nn)) = record { is = o3.is } in
            let f1 = finishes_back B b1 (reserved b2) hx.grows.ready (grows_on b1 b2 (reserved b2) hx.grows.ready a.grows gr) f3 in
            let s = hx.code is B (ends (Call f os (Some t) nn)) f1 (a.back B (ends (Call f os (Some t) nn)) o2) in
            record { start = s.start; opens = s.opens; holds = apply s.holds (same refl) o4.is (lands_on (length b0.banks) (length b1.banks) (way_of dest (Held t) q) t q v1 (a.lands q)) };
      }

pub emits_as : (words : Sees) (dest : Option ℕ) (o : Operand) (a b : Builder) (x y : Tree One) → x ≡ y → (Ready a → Emits words x dest o a b) → Ready a → Emits words y dest o a b
emits_as words dest o a b x y e f r = subst (λ z. Emits words z dest o a b) e (f r)

pub tests_as : (words : Sees) (n : ℕ) (a b : Builder) (x y : Tree One) → x ≡ y → (Ready a → EmitsTest words x n a b) → Ready a → EmitsTest words y n a b
tests_as words n a b x y e f r = subst (λ z. EmitsTest words z n a b) e (f r)
