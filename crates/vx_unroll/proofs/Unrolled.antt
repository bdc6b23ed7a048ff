-- A program, and the same with loops unrolled.
use Rattle.std.proofs.Common.{◌≡◌, ℕ, zero, suc, ◌+◌, ◌-◌, ◌≤◌, ℤ, pos, Bool, true, false, List, [], ◌∷◌, length, map, Option, Some, None, slice_get, refl, sym, ap, ◌∙◌, subst, arith}
use Rattle.std.specs.Prelude.{if◌then◌else◌}
use Rattle.vx_base.specs.Outcome.{Outcome, output_of, IsOver, Begins, Within}
use Rattle.vx_base.proofs.Same.{begins_self}
use Rattle.vx_base.specs.declared.outcome.Trap.TheVariants.{Depth as ByDepth}
use Rattle.vx_ast.specs.Tree.{One, Tree, Action, Code, Nothing, Seq, Block, Head, If, IfElse, While, DoWhile, For, Function, Program}
use Rattle.vx_ast.specs.Meaning.{Store, Part, With, Trapped, Going, Leaves, Falls, Breaks, Continues, Returns, Calls, Argument, arrays_given, and_then, value, after_body, turns, test_of, does, spot_in, back_in, result_of, entered, activate, active, deepest, at_start, outcome_of, source}
use Rattle.vx_ast.proofs.MoreTurns.{out_of, Later, Leads, leads_self, leads_same, leads_then, CallsLead, leads_value, leads_tests, leads_on, leads_body, leads_turns, leads_turns_first, leads_does}
use Rattle.vx_unroll.specs.declared.size.Size.{Size}
use Rattle.vx_unroll.specs.Unrolling.{turns_of, while_body, for_body, has_loop, exchanged, keeps_limits, Decided, own_words, first_own, size_of, unrolled_in, unrolled_function}
use Rattle.vx_unroll.specs.Laws.{step_code, Unrolls, Kept, InSeq, InBlock, InIf, InIfElse, InWhile, InDoWhile, InFor, AWhile, AFor, AllUnroll, NoneLeft, AndMore, printed_by, EndsSo, StatementsKeep, UnrollingKeeps, UnrolledIsSame}
use Rattle.vx_unroll.proofs.Beside.{extra, widens, narrows}
use Rattle.vx_unroll.proofs.Copies.{step_falls, often_is, plain_turns}

falls_same : (t : Store) → Leads t.out (With Falls t) (With Falls t)
falls_same t = leads_same (With Falls t)

module _ (spot : ℕ → ℕ) (calls more : Calls) (lead : CallsLead calls more) (n j k : ℕ) where
  leads_test : (test : Option (Tree One)) (s : Store) → Leads s.out (test_of spot calls test s) (test_of spot more test s)
  leads_test None s = leads_same (With (pos 1) s)
  leads_test (Some e) s = leads_value spot calls more lead e s

  abbrev once : Calls → ℕ → Option Action → Code → Store → Part Leaves
  once c m step a t = after_body (does spot c m a t) (does spot c m (step_code step))

  for_widens : (test : Option (Tree One)) (step : Option Action) (a : Code) (s : Store) → Leads s.out (turns n (test_of spot calls test) (once calls n step a) s) (turns (n + j) (test_of spot more test) (once more (n + j) step (Block (turns_of k test step a))) s)
  for_widens test step a s =
      let h : n ≤ n + j = omega arith in
      subst (λ (turn : Store → Part Leaves). Leads s.out (turns n (test_of spot calls test) (once calls n step a) s) (turns (n + j) (test_of spot more test) turn s)) (often_is spot more (n + j) test step a k)
      (widens (test_of spot calls test) (test_of spot more test) (does spot calls n a) (does spot more (n + j) a) (does spot calls n (step_code step)) (does spot more (n + j) (step_code step)) (leads_test test) (leads_does spot calls more lead n j a) (leads_does spot calls more lead n j (step_code step)) (step_falls spot calls n step) (step_falls spot more (n + j) step) k n (n + j) h s)

  while_widens : (e : Tree One) (a : Code) (s : Store) → Leads s.out (does spot calls n (While e a) s) (does spot more (n + j) (While e (Block (turns_of k (Some e) None a))) s)
  while_widens e a s =
      subst (λ (x : Part Leaves). Leads s.out x (does spot more (n + j) (While e (Block (turns_of k (Some e) None a))) s)) (plain_turns (value spot calls e) (does spot calls n a) n s)
      (subst (λ (y : Part Leaves). Leads s.out (turns n (value spot calls e) (once calls n None a) s) y) (plain_turns (value spot more e) (does spot more (n + j) (Block (turns_of k (Some e) None a))) (n + j) s)
      (for_widens (Some e) None a s))

  for_narrows : extra k n ≤ j → (test : Option (Tree One)) (step : Option Action) (a : Code) (s : Store) → Leads s.out (turns n (test_of spot calls test) (once calls n step (Block (turns_of k test step a))) s) (turns (n + j) (test_of spot more test) (once more (n + j) step a) s)
  for_narrows far test step a s =
      let q : extra k n ≤ j = far in
      let h : n + extra k n ≤ n + j = omega arith in
      subst (λ (turn : Store → Part Leaves). Leads s.out (turns n (test_of spot calls test) turn s) (turns (n + j) (test_of spot more test) (once more (n + j) step a) s)) (often_is spot calls n test step a k)
      (narrows (test_of spot calls test) (test_of spot more test) (does spot calls n a) (does spot more (n + j) a) (does spot calls n (step_code step)) (does spot more (n + j) (step_code step)) (leads_test test) (leads_does spot calls more lead n j a) (leads_does spot calls more lead n j (step_code step)) (step_falls spot calls n step) (step_falls spot more (n + j) step) k n (n + j) h s)

  while_narrows : extra k n ≤ j → (e : Tree One) (a : Code) (s : Store) → Leads s.out (does spot calls n (While e (Block (turns_of k (Some e) None a))) s) (does spot more (n + j) (While e a) s)
  while_narrows far e a s =
      subst (λ (x : Part Leaves). Leads s.out x (does spot more (n + j) (While e a) s)) (plain_turns (value spot calls e) (does spot calls n (Block (turns_of k (Some e) None a))) n s)
      (subst (λ (y : Part Leaves). Leads s.out (turns n (value spot calls e) (once calls n None (Block (turns_of k (Some e) None a))) s) y) (plain_turns (value spot more e) (does spot more (n + j) a) (n + j) s)
      (for_narrows far (Some e) None a s))

  -- statements that have related parts
  module _ (a c : Code) (h : (s : Store) → Leads s.out (does spot calls n a s) (does spot more (n + j) c s)) where
    if_leads : (e : Tree One) (s : Store) → Leads s.out (does spot calls n (If e a) s) (does spot more (n + j) (If e c) s)
    if_leads e s = leads_tests s.out (value spot calls e s) (value spot more e s) (does spot calls n a) (does spot more (n + j) c) (λ t. With Falls t) (λ t. With Falls t) (leads_value spot calls more lead e s) h falls_same

    while_leads : (e : Tree One) (s : Store) → Leads s.out (does spot calls n (While e a) s) (does spot more (n + j) (While e c) s)
    while_leads e s = leads_turns (value spot calls e) (value spot more e) (does spot calls n a) (does spot more (n + j) c) (leads_value spot calls more lead e) h n j s

    do_leads : (e : Tree One) (s : Store) → Leads s.out (does spot calls n (DoWhile a e) s) (does spot more (n + j) (DoWhile c e) s)
    do_leads e s = leads_turns_first (value spot calls e) (value spot more e) (does spot calls n a) (does spot more (n + j) c) (leads_value spot calls more lead e) h n j s

    for_leads : (first : Code) (test : Option (Tree One)) (step : Code) (s : Store) → Leads s.out (does spot calls n (For first test step a) s) (does spot more (n + j) (For first test step c) s)
    for_leads first test step s =
        leads_on (turns n (test_of spot calls test) (λ t. after_body (does spot calls n a t) (does spot calls n step))) (turns (n + j) (test_of spot more test) (λ t. after_body (does spot more (n + j) c t) (does spot more (n + j) step)))
        (leads_turns (test_of spot calls test) (test_of spot more test) (λ t. after_body (does spot calls n a t) (does spot calls n step)) (λ t. after_body (does spot more (n + j) c t) (does spot more (n + j) step)) (leads_test test)
        (λ t. leads_body (does spot calls n step) (does spot more (n + j) step) (leads_does spot calls more lead n j step) t.out (does spot calls n a t) (does spot more (n + j) c t) (h t)) n j)
        s.out (does spot calls n first s) (does spot more (n + j) first s) (leads_does spot calls more lead n j first s)

  seq_leads : (a b c d : Code) → ((s : Store) → Leads s.out (does spot calls n a s) (does spot more (n + j) c s)) → ((s : Store) → Leads s.out (does spot calls n b s) (does spot more (n + j) d s)) → (s : Store) → Leads s.out (does spot calls n (Seq a b) s) (does spot more (n + j) (Seq c d) s)
  seq_leads a b c d h l s = leads_on (does spot calls n b) (does spot more (n + j) d) l s.out (does spot calls n a s) (does spot more (n + j) c s) (h s)

  either_leads : (e : Tree One) (a b c d : Code) → ((s : Store) → Leads s.out (does spot calls n a s) (does spot more (n + j) c s)) → ((s : Store) → Leads s.out (does spot calls n b s) (does spot more (n + j) d s)) → (s : Store) → Leads s.out (does spot calls n (IfElse e a b) s) (does spot more (n + j) (IfElse e c d) s)
  either_leads e a b c d h l s = leads_tests s.out (value spot calls e s) (value spot more e s) (does spot calls n a) (does spot more (n + j) c) (does spot calls n b) (does spot more (n + j) d) (leads_value spot calls more lead e s) h l

  -- the loops of one turn, beside those of several
  pub does_widens : {c d : Code} → Unrolls k c d → (s : Store) → Leads s.out (does spot calls n c s) (does spot more (n + j) d s)
  does_widens (Kept c) s = leads_does spot calls more lead n j c s
  does_widens (InSeq a b c d u v) s = seq_leads a b c d (does_widens u) (does_widens v) s
  does_widens (InBlock a c u) s = does_widens u s
  does_widens (InIf e a c u) s = if_leads a c (does_widens u) e s
  does_widens (InIfElse e a b c d u v) s = either_leads e a b c d (does_widens u) (does_widens v) s
  does_widens (InWhile e a c u) s = while_leads a c (does_widens u) e s
  does_widens (InDoWhile e a c u) s = do_leads a c (does_widens u) e s
  does_widens (InFor first test step a c u) s = for_leads a c (does_widens u) first test step s
  does_widens (AWhile e a) s = while_widens e a s
  does_widens (AFor first test step a) s =
      leads_on (turns n (test_of spot calls test) (once calls n step a)) (turns (n + j) (test_of spot more test) (once more (n + j) step (Block (turns_of k test step a)))) (for_widens test step a)
      s.out (does spot calls n first s) (does spot more (n + j) first s) (leads_does spot calls more lead n j first s)

  -- and the other way round, with k turns more for each
  pub does_narrows : extra k n ≤ j → {c d : Code} → Unrolls k c d → (s : Store) → Leads s.out (does spot calls n d s) (does spot more (n + j) c s)
  does_narrows far (Kept c) s = leads_does spot calls more lead n j c s
  does_narrows far (InSeq a b c d u v) s = seq_leads c d a b (does_narrows far u) (does_narrows far v) s
  does_narrows far (InBlock a c u) s = does_narrows far u s
  does_narrows far (InIf e a c u) s = if_leads c a (does_narrows far u) e s
  does_narrows far (InIfElse e a b c d u v) s = either_leads e c d a b (does_narrows far u) (does_narrows far v) s
  does_narrows far (InWhile e a c u) s = while_leads c a (does_narrows far u) e s
  does_narrows far (InDoWhile e a c u) s = do_leads c a (does_narrows far u) e s
  does_narrows far (InFor first test step a c u) s = for_leads c a (does_narrows far u) first test step s
  does_narrows far (AWhile e a) s = while_narrows far e a s
  does_narrows far (AFor first test step a) s =
      leads_on (turns n (test_of spot calls test) (once calls n step (Block (turns_of k test step a)))) (turns (n + j) (test_of spot more test) (once more (n + j) step a)) (for_narrows far test step a)
      s.out (does spot calls n first s) (does spot more (n + j) first s) (leads_does spot calls more lead n j first s)

-- calls

abbrev back_leaving : Store → Leaves → Store → Part ℤ
back_leaving caller Falls s = back_in caller (pos 0) s
back_leaving caller Breaks s = back_in caller (pos 0) s
back_leaving caller Continues s = back_in caller (pos 0) s
back_leaving caller (Returns r) s = back_in caller r s

back_is : (caller : Store) (x : Part Leaves) → result_of caller x ≡ and_then x (back_leaving caller)
back_is caller (With Falls s) = refl
back_is caller (With Breaks s) = refl
back_is caller (With Continues s) = refl
back_is caller (With (Returns r) s) = refl
back_is caller (Trapped k out) = refl
back_is caller (Going out) = refl

back_leads : (caller : Store) (l : Leaves) (t : Store) → Leads t.out (back_leaving caller l t) (back_leaving caller l t)
back_leads caller Falls t = leads_same (back_in caller (pos 0) t)
back_leads caller Breaks t = leads_same (back_in caller (pos 0) t)
back_leads caller Continues t = leads_same (back_in caller (pos 0) t)
back_leads caller (Returns r) t = leads_same (back_in caller r t)

leads_result : (caller : Store) (out : List ℕ) (x y : Part Leaves) → Leads out x y → Leads out (result_of caller x) (result_of caller y)
leads_result caller out x y h = rw (back_is caller x, back_is caller y) (leads_then out x y (back_leaving caller) (back_leaving caller) h (back_leads caller))

data OneUnrolls (k : ℕ) : Option Function → Option Function → Type 0 where
  NoFunction : OneUnrolls k None None
  AFunction : (f : Function) (body : Code) → Unrolls k f.body body → OneUnrolls k (Some f) (Some (record f { body = body }))

one_of : {k : ℕ} {fs gs : List Function} → AllUnroll k fs gs → (i : ℕ) → OneUnrolls k (slice_get fs i) (slice_get gs i)
one_of NoneLeft i = NoFunction
one_of (AndMore f body fs gs u all) zero = AFunction f body u
one_of (AndMore f body fs gs u all) (suc i) = one_of all i

going_leads : (s : Store) → Leads {A = ℤ} s.out (Going s.out) (Going s.out)
going_leads s = let p : Part ℤ = Going s.out in leads_same p

module _ (g : ℕ) (calls more : Calls) (lead : CallsLead calls more) (n j k : ℕ) (args : List Argument) (s : Store) where
  activate_widens : {o r : Option Function} → OneUnrolls k o r → Leads s.out (activate g o calls n args s) (activate g r more (n + j) args s)
  activate_widens NoFunction = going_leads s
  activate_widens (AFunction f body u) =
      leads_result s s.out (does (spot_in g (arrays_given args) (length s.arrays)) calls n f.body (entered f args s)) (does (spot_in g (arrays_given args) (length s.arrays)) more (n + j) body (entered f args s))
      (does_widens (spot_in g (arrays_given args) (length s.arrays)) calls more lead n j k u (entered f args s))

  activate_narrows : extra k n ≤ j → {o r : Option Function} → OneUnrolls k o r → Leads s.out (activate g r calls n args s) (activate g o more (n + j) args s)
  activate_narrows far NoFunction = going_leads s
  activate_narrows far (AFunction f body u) =
      leads_result s s.out (does (spot_in g (arrays_given args) (length s.arrays)) calls n body (entered f args s)) (does (spot_in g (arrays_given args) (length s.arrays)) more (n + j) f.body (entered f args s))
      (does_narrows (spot_in g (arrays_given args) (length s.arrays)) calls more lead n j k far u (entered f args s))

module _ (k : ℕ) (p : Program) (functions : List Function) (all : AllUnroll k p.functions functions) where
  abbrev after : Program
  after = record p { functions = functions }

  active_widens : (depth n j : ℕ) → CallsLead (active p depth n) (active after depth (n + j))
  active_widens zero n j f args s = let x : Part ℤ = Trapped ByDepth s.out in leads_same x
  active_widens (suc depth) n j f args s = activate_widens (length p.globals) (active p depth n) (active after depth (n + j)) (active_widens depth n j) n j k args s (one_of all f)

  active_narrows : (depth n j : ℕ) → extra k n ≤ j → CallsLead (active after depth n) (active p depth (n + j))
  active_narrows zero n j far f args s = let x : Part ℤ = Trapped ByDepth s.out in leads_same x
  active_narrows (suc depth) n j far f args s = activate_narrows (length p.globals) (active after depth n) (active p depth (n + j)) (active_narrows depth n j far) n j k args s far (one_of all f)

-- programs

over_of : (x y : Part ℤ) (o : Outcome) → Later x y → IsOver o → outcome_of x ≡ o → outcome_of y ≡ o
over_of (With r s) y o h v e = ap outcome_of h ∙ e
over_of (Trapped k out) y o h v e = ap outcome_of h ∙ e
over_of (Going out) y o h v e = absurd (subst IsOver (sym e) v)

out_is : (x : Part ℤ) → output_of (outcome_of x) ≡ out_of x
out_is (With r s) = refl
out_is (Trapped k out) = refl
out_is (Going out) = refl

later_grows : (x y : Part ℤ) → Later x y → Begins (out_of x) (out_of y)
later_grows (With r s) y h = subst (λ z. Begins s.out (out_of z)) (sym h) (begins_self s.out)
later_grows (Trapped k out) y h = subst (λ z. Begins out (out_of z)) (sym h) (begins_self out)
later_grows (Going out) y h = h

within_of : (x y : ℕ → Part ℤ) (more : ℕ → ℕ) → ((n : ℕ) → Later (x n) (y (n + more n))) → Within (λ n. outcome_of (x n)) (λ n. outcome_of (y n))
within_of x y more h = record {
  over = λ n o v e. (n + more n, over_of (x n) (y (n + more n)) o (h n) v e);
  output = λ n. (n + more n, rw (out_is (x n), out_is (y (n + more n))) (later_grows (x n) (y (n + more n)) (h n)));
}

pub unrolling_keeps : UnrollingKeeps
unrolling_keeps k p functions all input =
    let q : Program = record p { functions = functions } in
    let x : ℕ → Part ℤ = λ n. active p deepest n p.main [] (at_start p input) in
    let y : ℕ → Part ℤ = λ n. active q deepest n p.main [] (at_start p input) in
    let to : Within (source p input) (source q input) = within_of x y (λ n. 0) (λ n. (active_widens k p functions all deepest n 0 p.main [] (at_start p input)).later) in
    let fro : Within (source q input) (source p input) = within_of y x (λ n. extra k n) (λ n. let far : extra k n ≤ extra k n = omega arith in (active_narrows k p functions all deepest n (extra k n) far p.main [] (at_start p input)).later) in
    (to, fro)

-- the loops that are decided on are some loops

while_decided : (k : ℕ) (e : Tree One) (a : Code) (d : Decided) (now next : Size) (b f : Bool) → Unrolls k a d.code
    → Unrolls k (While e a) (While e (if b then d else (if f then record { code = while_body k e a; size = next } else record { code = a; size = now })).code)
while_decided k e a d now next true f u = InWhile e a d.code u
while_decided k e a d now next false true u = AWhile e a
while_decided k e a d now next false false u = Kept (While e a)

for_body_unrolls : (k : ℕ) (first : Code) (test : Option (Tree One)) (step a : Code) → Unrolls k (For first test step a) (For first test step (for_body k test step a))
for_body_unrolls k first test Nothing a = AFor first test None a
for_body_unrolls k first test (Head s) a = AFor first test (Some s) a
for_body_unrolls k first test step a = Kept (For first test step a)

for_decided : (k : ℕ) (first : Code) (test : Option (Tree One)) (step a : Code) (d : Decided) (now next : Size) (b f : Bool) → Unrolls k a d.code
    → Unrolls k (For first test step a) (For first test step (if b then d else (if f then record { code = for_body k test step a; size = next } else record { code = a; size = now })).code)
for_decided k first test step a d now next true f u = InFor first test step a d.code u
for_decided k first test step a d now next false true u = for_body_unrolls k first test step a
for_decided k first test step a d now next false false u = Kept (For first test step a)

module _ (k : ℕ) (words : ℕ → ℕ) where
  abbrev by : Size → Code → Decided
  by now c = unrolled_in k words now c

  pub decided_unrolls : (now : Size) (c : Code) → Unrolls k c (unrolled_in k words now c).code
  decided_unrolls now (Seq a b) = InSeq a b (by now a).code (by (by now a).size b).code (decided_unrolls now a) (decided_unrolls (by now a).size b)
  decided_unrolls now (Block a) = InBlock a (by now a).code (decided_unrolls now a)
  decided_unrolls now (If e a) = InIf e a (by now a).code (decided_unrolls now a)
  decided_unrolls now (IfElse e a b) = InIfElse e a b (by now a).code (by (by now a).size b).code (decided_unrolls now a) (decided_unrolls (by now a).size b)
  decided_unrolls now (While e a) =
      let new : Code = while_body k e a in
      while_decided k e a (by now a) now (exchanged words now a new) (has_loop a) (keeps_limits (exchanged words now a new)) (decided_unrolls now a)
  decided_unrolls now (DoWhile a e) = InDoWhile e a (by now a).code (decided_unrolls now a)
  decided_unrolls now (For first test step a) =
      let new : Code = for_body k test step a in
      for_decided k first test step a (by now a) now (exchanged words now a new) (has_loop a) (keeps_limits (exchanged words now a new)) (decided_unrolls now a)
  decided_unrolls now c = Kept c

pub all_unroll : (k globals : ℕ) (fs : List Function) → AllUnroll (k - 1) fs (map (unrolled_function k globals) fs)
all_unroll k globals [] = NoneLeft
all_unroll k globals (f ∷ fs) =
    AndMore f (unrolled_in (k - 1) (own_words (first_own globals f) f.arrays) (size_of globals f) f.body).code fs (map (unrolled_function k globals) fs) (decided_unrolls (k - 1) (own_words (first_own globals f) f.arrays) (size_of globals f) f.body) (all_unroll k globals fs)

pub unrolled_is_same : UnrolledIsSame
unrolled_is_same k p input = unrolling_keeps (k - 1) p (map (unrolled_function k (length p.globals)) p.functions) (all_unroll k (length p.globals) p.functions) input

-- statements

out_so : {A : Type 0} (x : Part A) → printed_by x ≡ out_of x
out_so (With a s) = refl
out_so (Trapped k out) = refl
out_so (Going out) = refl

ends_so : {A : Type 0} (x y : Part A) → Later x y → EndsSo x y
ends_so (With a s) y h = h
ends_so (Trapped k out) y h = h
ends_so (Going out) y h = subst (λ (l : List ℕ). Begins out l) (sym (out_so y)) h

pub statements_keep : StatementsKeep
statements_keep k c d u spot calls grows n s =
    let lead : CallsLead calls calls = λ f xs t. leads_self t.out (calls f xs t) (subst (λ (l : List ℕ). Begins t.out l) (out_so (calls f xs t)) (grows f xs t)) in
    let q : n + 0 ≡ n = omega arith in
    let far : extra k n ≤ extra k n = omega arith in
    let wide : EndsSo (does spot calls n c s) (does spot calls (n + 0) d s) = ends_so (does spot calls n c s) (does spot calls (n + 0) d s) (does_widens spot calls calls lead n 0 k u s).later in
    let narrow : EndsSo (does spot calls n d s) (does spot calls (n + extra k n) c s) = ends_so (does spot calls n d s) (does spot calls (n + extra k n) c s) (does_narrows spot calls calls lead n (extra k n) k far u s).later in
    (subst (λ (m : ℕ). EndsSo (does spot calls n c s) (does spot calls m d s)) q wide, (n + extra k n, narrow))
