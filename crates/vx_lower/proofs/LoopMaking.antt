-- The code of loops, and of statements that stand one after the other.
use Rattle.std.proofs.Common.{◌≡◌, ℕ, ◌+◌, ◌≤◌, List, [], ◌∷◌, ◌++◌, length, Option, Some, None, refl, sym, ap, ◌∙◌, subst, arith}
use Rattle.std.specs.Prelude.{slice_get}
use Rattle.std.proofs.lemmas.Option.{slice_get_within}
use Rattle.vx_ast.specs.declared.tree.Statement.{Statement}
use Rattle.vx_ast.specs.View.{code_of, all_in}
use Rattle.vx_ast.specs.Tree.{One, Tree, Code, Nothing, While, DoWhile, For}
use Rattle.vx_flow.specs.declared.graph.Exit.TheVariants.{Goto}
use Rattle.vx_flow.specs.declared.graph.Block.{Block}
use Rattle.vx_lower.specs.Seen.{Sees}
use Rattle.vx_lower.specs.Holds.{same, on, ends, jump}
use Rattle.vx_lower.specs.Does.{asks, Does, nothing, seq, while, do_while, for}
use Rattle.vx_lower.specs.Builds.{reserved, closed, Ready, Grows, Finishes, Opens}
use Rattle.vx_lower.specs.Emits.{EmitsTest, Spare}
use Rattle.vx_lower.specs.Makes.{CodeWithin, way_exit, MakesPlain, Makes, MakesTest}
use Rattle.vx_lower.specs.declared.builder.Builder.{Builder}
use Rattle.vx_lower.proofs.Places.{length_more}
use Rattle.vx_lower.proofs.Building.{grows_self, grows_on, grows_reserved, grows_closed, finishes_back, before_closed, closed_stands, opens_closed}
use Rattle.vx_lower.proofs.Emitting.{within_on, spare_on, spare_closed, spare_reserved, ready_closed}
use Rattle.vx_lower.proofs.PrintMaking.{begins_self, begins_on}
use Rattle.vx_lower.proofs.StatementMaking.{ended, ended_opens, ended_before}

-- the open block goes to one that is open then
pub record Enters (old new : Builder) (h : ℕ) : Type 0 where
  pub grows : Grows old new
  pub back : (B : List Block) → Finishes B new → Finishes B old
  pub opens : (B : List Block) → Finishes B new → Opens B old (jump h)
  pub at : (B : List Block) (q : Block) → Opens B new q → slice_get B h ≡ Some q

enters_next : (b : Builder) → Ready b → Enters b (closed (reserved b) (Goto (length b.blocks)) (length b.blocks)) (length b.blocks)
enters_next b r = record {
  grows = ended b b (Goto (length b.blocks)) r (grows_self b r);
  back = λ B f. ended_before B b (Goto (length b.blocks)) r f;
  opens = λ B f. ended_opens B b (Goto (length b.blocks)) (λ B n block h. h) r f;
  at = λ B q o. o.is;
}

pub enters_of : (a b : Builder) (h : ℕ) → (h ≡ length a.blocks) × (b ≡ closed (reserved a) (Goto h) h) → Ready a → Enters a b h
enters_of a b h e r =
    let c : b ≡ closed (reserved a) (Goto (length a.blocks)) (length a.blocks) = e.1 ∙ ap (λ m. closed (reserved a) (Goto m) m) e.0 in
    subst (λ z. Enters a z h) (sym c) (subst (Enters a (closed (reserved a) (Goto (length a.blocks)) (length a.blocks))) (sym e.0) (enters_next a r))

-- one more block waits
pub record Waits (old new : Builder) (n : ℕ) : Type 0 where
  pub grows : Grows old new
  pub spare : Spare new n
  pub late : length old.blocks ≤ n
  pub more : length new.blocks ≡ n + 1
  pub back : (B : List Block) → Finishes B new → Finishes B old
  pub opens : (B : List Block) (q : Block) → Opens B new q → Opens B old q

waits_next : (b : Builder) → Ready b → Waits b (reserved b) (length b.blocks)
waits_next b r = let g = grows_reserved b r in record {
  grows = g;
  spare = spare_reserved b r;
  late = omega arith;
  more = length_more b.blocks None;
  back = λ B f. finishes_back B b (reserved b) r g f;
  opens = λ B q o. record { is = o.is };
}

pub waits_of : (a b : Builder) (n : ℕ) → (n ≡ length a.blocks) × (b ≡ reserved a) → Ready a → Waits a b n
waits_of a b n e r = subst (λ z. Waits a z n) (sym e.1) (subst (Waits a (reserved a)) (sym e.0) (waits_next a r))

-- the open block goes somewhere, and one that waited is open
pub record Turns (old new : Builder) (target n : ℕ) : Type 0 where
  pub ready : Ready new
  pub banks : length new.banks ≡ length old.banks
  pub grows : (a : Builder) → Ready a → Grows a old → length a.blocks ≤ n → Grows a new
  pub spare : (m : ℕ) → Spare old m → (m ≡ n → ⊥) → Spare new m
  pub back : (B : List Block) → Finishes B new → Finishes B old
  pub opens : (B : List Block) → Finishes B new → Opens B old (jump target)
  pub at : (B : List Block) (q : Block) → Opens B new q → slice_get B n ≡ Some q

turns_next : (b : Builder) (target n : ℕ) → Ready b → Spare b n → Turns b (closed b (Goto target) n) target n
turns_next b target n r s = record {
  ready = ready_closed b (Goto target) n s;
  banks = refl;
  grows = λ a ra g l. grows_closed a b (Goto target) n ra g s.free s.apart l;
  spare = λ m w d. spare_closed b (Goto target) n m w d;
  back = λ B f. before_closed B b (Goto target) n r f;
  opens = λ B f. opens_closed B b (Goto target) (closed_stands B b (Goto target) n r f);
  at = λ B q o. o.is;
}

pub turns_of : (b c : Builder) (target n : ℕ) → c ≡ closed b (Goto target) n → Ready b → Spare b n → Turns b c target n
turns_of b c target n e r s = subst (λ z. Turns b z target n) (sym e) (turns_next b target n r s)

module _ (words : Sees) where
  -- `while`: h is its head, n where its test does not hold, x where it is left
  pub makes_while : (leaves again : Option ℕ) (h n x : ℕ) (e : Tree One) (body : Code) (b0 b1 b2 b3 b4 b5 b6 : Builder) (t0 t1 : List (List ℕ)) → (h ≡ length b0.blocks) × (b1 ≡ closed (reserved b0) (Goto h) h) → (Ready b1 → EmitsTest words e n b1 b2) → (x ≡ length b2.blocks) × (b3 ≡ reserved b2) → (Ready b3 → Makes words body (Some x) (Some h) b3 b4 t0 t1) → b5 ≡ closed b4 (Goto h) n → b6 ≡ closed b5 (Goto x) x → Ready b0 → Makes words (While e body) leaves again b0 b6 t0 t1
  makes_while leaves again h n x e body b0 b1 b2 b3 b4 b5 b6 t0 t1 eh et ex mb e5 e6 r =
      let d = enters_of b0 b1 h eh r in
      let k = et d.grows.ready in
      let w = waits_of b2 b3 x ex k.grows.ready in
      let one = mb w.grows.ready in
      let wn = slice_get_within b2.blocks n None k.spare.free in
      let sn = spare_on b3 b4 n one.grows (spare_on b2 b3 n w.grows k.spare) in
      let sx = spare_on b3 b4 x one.grows w.spare in
      let lx = w.late in
      let t5 = turns_of b4 b5 h n e5 one.grows.ready sn in
      let t6 = turns_of b5 b6 x x e6 t5.ready (t5.spare x sx (λ q. omega arith)) in
      let g2 = grows_on b0 b1 b2 r d.grows k.grows in
      let g4 = grows_on b0 b2 b4 r g2 (grows_on b2 b3 b4 k.grows.ready w.grows one.grows) in
      let l1 = d.grows.longer in let l2 = k.late in let l3 = g2.longer in
      let v1 = d.grows.values in let v2 = k.grows.values in let v3 = w.grows.values in
      record {
        grows = t6.grows b0 r (t5.grows b0 r g4 (omega arith)) (omega arith);
        texts = one.texts;
        code = λ vars is le B texts q g f o.
            let f5 = t6.back B f in
            let f4 = t5.back B f5 in
            let s3 = one.code vars is.1 (omega arith) B texts (jump h) g f4 (t5.opens B f5) in
            let f2 = w.back B (finishes_back B b3 b4 w.grows.ready one.grows f4) in
            let s1 = k.code (within_on vars (length b1.banks) e (omega arith) is.0) B s3.start (jump x) f2 (w.opens B s3.start s3.opens) (t5.at B (jump x) (t6.opens B f)) in
            let f1 = finishes_back B b1 b2 d.grows.ready k.grows f2 in
            let low : vars ≤ length b1.banks = omega arith in
            let out = on x q refl (t6.at B q o) (same refl) in
            record { start = jump h; opens = d.opens B f1; holds = while (same refl) (d.at B s1.start s1.opens) (asks s1.holds low) s3.holds (same refl) out out };
      }

  -- `do`: k is where its test begins
  pub makes_do_while : (leaves again : Option ℕ) (h n x k : ℕ) (body : Code) (e : Tree One) (b0 b1 b2 b3 b4 b5 b6 b7 b8 : Builder) (t0 t1 : List (List ℕ)) → (h ≡ length b0.blocks) × (b1 ≡ closed (reserved b0) (Goto h) h) → (x ≡ length b1.blocks) × (b2 ≡ reserved b1) → (k ≡ length b2.blocks) × (b3 ≡ reserved b2) → (Ready b3 → Makes words body (Some x) (Some k) b3 b4 t0 t1) → b5 ≡ closed b4 (Goto k) k → (Ready b5 → EmitsTest words e n b5 b6) → b7 ≡ closed b6 (Goto h) n → b8 ≡ closed b7 (Goto x) x → Ready b0 → Makes words (DoWhile body e) leaves again b0 b8 t0 t1
  makes_do_while leaves again h n x k body e b0 b1 b2 b3 b4 b5 b6 b7 b8 t0 t1 eh ex ek mb e5 et e7 e8 r =
      let d = enters_of b0 b1 h eh r in
      let w = waits_of b1 b2 x ex d.grows.ready in
      let y = waits_of b2 b3 k ek w.grows.ready in
      let one = mb y.grows.ready in
      let lx = w.late in let lk = y.late in let mx = w.more in let mk = y.more in
      let sk = spare_on b3 b4 k one.grows y.spare in
      let sx4 = spare_on b3 b4 x one.grows (spare_on b2 b3 x y.grows w.spare) in
      let t5 = turns_of b4 b5 k k e5 one.grows.ready sk in
      let sx5 = t5.spare x sx4 (λ q. omega arith) in
      let z = et t5.ready in
      let l1 = d.grows.longer in
      let g3 = grows_on b0 b1 b3 r d.grows (grows_on b1 b2 b3 d.grows.ready w.grows y.grows) in
      let g4 = grows_on b0 b3 b4 r g3 one.grows in
      let g5 = t5.grows b0 r g4 (omega arith) in
      let g6 = grows_on b0 b5 b6 r g5 z.grows in
      let wx = slice_get_within b5.blocks x None sx5.free in
      let ln = z.late in let l5 = g5.longer in
      let t7 = turns_of b6 b7 h n e7 z.grows.ready z.spare in
      let sx7 = t7.spare x (spare_on b5 b6 x z.grows sx5) (λ q. omega arith) in
      let t8 = turns_of b7 b8 x x e8 t7.ready sx7 in
      let v3 = g3.values in let v5 = g5.values in
      record {
        grows = t8.grows b0 r (t7.grows b0 r g6 (omega arith)) (omega arith);
        texts = one.texts;
        code = λ vars is le B texts q g f o.
            let f7 = t8.back B f in
            let f6 = t7.back B f7 in
            let s5 = z.code (within_on vars (length b5.banks) e (omega arith) is.1) B (jump h) (jump x) f6 (t7.opens B f7) (t7.at B (jump x) (t8.opens B f)) in
            let f5 = finishes_back B b5 b6 t5.ready z.grows f6 in
            let f4 = t5.back B f5 in
            let s3 = one.code vars is.0 (omega arith) B texts (jump k) g f4 (t5.opens B f5) in
            let f3 = finishes_back B b3 b4 y.grows.ready one.grows f4 in
            let f1 = w.back B (y.back B f3) in
            let o1 = w.opens B s3.start (y.opens B s3.start s3.opens) in
            let low : vars ≤ length b5.banks = omega arith in
            let to_test = on k s5.start refl (t5.at B s5.start s5.opens) (same refl) in
            let out = on x q refl (t8.at B q o) (same refl) in
            record { start = jump h; opens = d.opens B f1; holds = do_while (same refl) (d.at B s3.start o1) s3.holds to_test to_test s5.holds low (same refl) out out };
      }

  -- `for`: k is where its step begins
  pub makes_for : (leaves again : Option ℕ) (h n x k : ℕ) (first step body : Code) (test : Option (Tree One)) (b0 b1 b2 b3 b4 b5 b6 b7 b8 b9 b10 : Builder) (t0 t1 : List (List ℕ)) → (Ready b0 → MakesPlain words first b0 b1) → (h ≡ length b1.blocks) × (b2 ≡ closed (reserved b1) (Goto h) h) → (Ready b2 → MakesTest words test n b2 b3) → (x ≡ length b3.blocks) × (b4 ≡ reserved b3) → (k ≡ length b4.blocks) × (b5 ≡ reserved b4) → (Ready b5 → Makes words body (Some x) (Some k) b5 b6 t0 t1) → b7 ≡ closed b6 (Goto k) k → (Ready b7 → MakesPlain words step b7 b8) → b9 ≡ closed b8 (Goto h) n → b10 ≡ closed b9 (Goto x) x → Ready b0 → Makes words (For first test step body) leaves again b0 b10 t0 t1
  makes_for leaves again h n x k first step body test b0 b1 b2 b3 b4 b5 b6 b7 b8 b9 b10 t0 t1 mf eh mt ex ek mb e7 ms e9 e10 r =
      let m = mf r in
      let d = enters_of b1 b2 h eh m.grows.ready in
      let a = mt d.grows.ready in
      let w = waits_of b3 b4 x ex a.grows.ready in
      let y = waits_of b4 b5 k ek w.grows.ready in
      let one = mb y.grows.ready in
      let g2 = grows_on b0 b1 b2 r m.grows d.grows in
      let g3 = grows_on b0 b2 b3 r g2 a.grows in
      let g35 = grows_on b3 b4 b5 a.grows.ready w.grows y.grows in
      let g36 = grows_on b3 b5 b6 a.grows.ready g35 one.grows in
      let g6 = grows_on b0 b3 b6 r g3 g36 in
      let wn = slice_get_within b3.blocks n None a.spare.free in
      let lx = w.late in let lk = y.late in let mx = w.more in let mk = y.more in let ln = a.late in
      let l2 = g2.longer in let l3 = g3.longer in
      let sk6 = spare_on b5 b6 k one.grows y.spare in
      let sx6 = spare_on b5 b6 x one.grows (spare_on b4 b5 x y.grows w.spare) in
      let sn6 = spare_on b3 b6 n g36 a.spare in
      let t7 = turns_of b6 b7 k k e7 one.grows.ready sk6 in
      let sx7 = t7.spare x sx6 (λ q. omega arith) in
      let sn7 = t7.spare n sn6 (λ q. omega arith) in
      let s = ms t7.ready in
      let g7 = t7.grows b0 r g6 (omega arith) in
      let g8 = grows_on b0 b7 b8 r g7 s.grows in
      let t9 = turns_of b8 b9 h n e9 s.grows.ready (spare_on b7 b8 n s.grows sn7) in
      let sx9 = t9.spare x (spare_on b7 b8 x s.grows sx7) (λ q. omega arith) in
      let t10 = turns_of b9 b10 x x e10 t9.ready sx9 in
      let v2 = g2.values in let v3 = g3.values in let v35 = g35.values in let v7 = g7.values in
      record {
        grows = t10.grows b0 r (t9.grows b0 r g8 (omega arith)) (omega arith);
        texts = one.texts;
        code = λ vars is le B texts q g f o.
            let f9 = t10.back B f in
            let f8 = t9.back B f9 in
            let s7 = s.code vars is.2 (omega arith) B texts (jump h) (jump x) (jump h) f8 (t9.opens B f9) in
            let f7 = finishes_back B b7 b8 t7.ready s.grows f8 in
            let f6 = t7.back B f7 in
            let s5 = one.code vars is.3 (omega arith) B texts (jump k) g f6 (t7.opens B f7) in
            let f5 = finishes_back B b5 b6 y.grows.ready one.grows f6 in
            let f3 = w.back B (y.back B f5) in
            let s2 = a.code vars is.1 (omega arith) B s5.start (jump x) f3 (w.opens B s5.start (y.opens B s5.start s5.opens)) (t9.at B (jump x) (t10.opens B f)) in
            let f2 = finishes_back B b2 b3 d.grows.ready a.grows f3 in
            let s0 = m.code vars is.0 le B texts (jump h) (ends (way_exit leaves)) (ends (way_exit again)) (d.back B f2) (d.opens B f2) in
            let to_step = on k s7.start refl (t7.at B s7.start s7.opens) (same refl) in
            let leave = on x q refl (t10.at B q o) (same refl) in
            record { start = s0.start; opens = s0.opens; holds = for s0.holds (same refl) (d.at B s2.start s2.opens) s2.holds s5.holds to_step to_step s7.holds (same refl) leave leave };
      }

  -- statements, one after the other

  statements_within : (vars : ℕ) (xs : List Statement) (x : Statement) → CodeWithin words vars (all_in (xs ++ x ∷ [])) → CodeWithin words vars (all_in xs) × CodeWithin words vars (code_of x)
  statements_within vars [] x h = (tt, h.0)
  statements_within vars (y ∷ xs) x h = let w = statements_within vars xs x h.1 in ((h.0, w.0), w.1)

  statements_do : (B : List Block) (texts : List (List ℕ)) (vars : ℕ) (xs : List Statement) (x : Statement) {p m q out more : Block} → Does B words texts vars (all_in xs) p m out more → Does B words texts vars (code_of x) m q out more → Does B words texts vars (all_in (xs ++ x ∷ [])) p q out more
  statements_do B texts vars [] x nothing y = seq y nothing
  statements_do B texts vars (z ∷ xs) x (seq a rest) y = seq a (statements_do B texts vars xs x rest y)

  pub makes_nothing : (leaves again : Option ℕ) (b : Builder) (ts : List (List ℕ)) → Ready b → Makes words Nothing leaves again b b ts ts
  makes_nothing leaves again b ts r = record { grows = grows_self b r; texts = begins_self ts; code = λ vars is le B texts q g f o. record { start = q; opens = o; holds = nothing } }

  pub makes_more : (leaves again : Option ℕ) (xs : List Statement) (x : Statement) (b0 b1 b2 : Builder) (t0 t1 t2 : List (List ℕ)) → (Ready b0 → Makes words (all_in xs) leaves again b0 b1 t0 t1) → (Ready b1 → Makes words (code_of x) leaves again b1 b2 t1 t2) → Ready b0 → Makes words (all_in (xs ++ x ∷ [])) leaves again b0 b2 t0 t2
  makes_more leaves again xs x b0 b1 b2 t0 t1 t2 ex ey r =
      let hx = ex r in let hy = ey hx.grows.ready in let v = hx.grows.values in
      record {
        grows = grows_on b0 b1 b2 r hx.grows hy.grows;
        texts = begins_on t0 t1 t2 hx.texts hy.texts;
        code = λ vars is le B texts q g f o.
            let w = statements_within vars xs x is in
            let s2 = hy.code vars w.1 (omega arith) B texts q g f o in
            let s1 = hx.code vars w.0 le B texts s2.start (begins_on t1 t2 texts hy.texts g) (finishes_back B b1 b2 hx.grows.ready hy.grows f) s2.opens in
            record { start = s1.start; opens = s1.opens; holds = statements_do B texts vars xs x s1.holds s2.holds };
      }
