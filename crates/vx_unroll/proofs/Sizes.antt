-- How much a function has where loops of it are unrolled.
use Rattle.std.proofs.Common.{◌≡◌, ℕ, zero, suc, ◌+◌, ◌-◌, ◌≤◌, ◌<◌, Bool, true, false, List, length, Option, Some, None, refl, ap, ◌∙◌, arith, ltb-true}
use Rattle.std.specs.Prelude.{if◌then◌else◌}
use Rattle.std.specs.List.{sum_by}
use Rattle.std.proofs.lemmas.Bool.{and_parts}
use Rattle.std.proofs.lemmas.List.{append-nil}
use Rattle.std.proofs.lemmas.List.Sums.{sum_by-append}
use Rattle.vx_ast.specs.Tree.{One, Tree, Action, Code, Nothing, Seq, Block, Head, If, IfElse, While, DoWhile, For, Function}
use Rattle.vx_ast.specs.Accepted.{at_most, nodes_of, test_nodes, code_nodes, function_nodes, arrays_of}
use Rattle.vx_unroll.specs.declared.size.Size.{Size}
use Rattle.vx_unroll.specs.Unrolling.{block_of, step_before, test_before, turns_of, while_body, for_body, has_loop, declared_words, exchanged, keeps_limits, Decided, inside, and_then, where_it_fits, unrolled_in, own_words, first_own, size_of, unrolled_function}
use Rattle.vx_unroll.specs.Growth.{step_cost, test_cost}
use Rattle.vx_unroll.specs.Laws.{WordsStayWithin}

-- so many times the same
abbrev pub times : ℕ → ℕ → ℕ
times zero n = 0
times (suc k) n = n + times k n

-- nodes of turns

-- a turn but the last, with what stands behind it
abbrev pub turn_nodes : Option (Tree One) → Option Action → Code → ℕ
turn_nodes test step a = code_nodes (block_of a) + step_cost step + test_cost test

pub block_least : (a : Code) → code_nodes a ≤ code_nodes (block_of a)
block_least (Block a) = omega arith
block_least a = omega arith

step_adds : (step : Option Action) (rest : Code) → code_nodes (step_before step rest) ≡ step_cost step + code_nodes rest
step_adds None rest = omega arith
step_adds (Some a) rest = omega arith

test_adds : (test : Option (Tree One)) (rest : Code) → code_nodes (test_before test rest) ≡ test_cost test + code_nodes rest
test_adds None rest = omega arith
test_adds (Some c) rest = omega arith

pub turns_nodes : (k : ℕ) (test : Option (Tree One)) (step : Option Action) (a : Code) → code_nodes (turns_of k test step a) ≡ code_nodes (block_of a) + times k (turn_nodes test step a)
turns_nodes zero test step a = refl
turns_nodes (suc k) test step a =
    let rest : Code = turns_of k test step a in
    let h : code_nodes rest ≡ code_nodes (block_of a) + times k (turn_nodes test step a) = turns_nodes k test step a in
    let s : code_nodes (step_before step (test_before test rest)) ≡ step_cost step + code_nodes (test_before test rest) = step_adds step (test_before test rest) in
    let t : code_nodes (test_before test rest) ≡ test_cost test + code_nodes rest = test_adds test rest in
    let r : code_nodes (block_of a) + code_nodes (step_before step (test_before test rest)) ≡ code_nodes (block_of a) + ((code_nodes (block_of a) + step_cost step + test_cost test) + times k (turn_nodes test step a)) = omega (arith, h, s, t) in
    r

-- the arrays of turns

pub block_arrays : (a : Code) → arrays_of (block_of a) ≡ arrays_of a
block_arrays (Block a) = refl
block_arrays a = append-nil (arrays_of a)

behind_arrays : (step : Option Action) (test : Option (Tree One)) (rest : Code) → arrays_of (step_before step (test_before test rest)) ≡ arrays_of rest
behind_arrays None None rest = refl
behind_arrays None (Some c) rest = refl
behind_arrays (Some a) None rest = refl
behind_arrays (Some a) (Some c) rest = refl

module _ (words : ℕ → ℕ) where
  abbrev declared : Code → ℕ
  declared c = declared_words words c

  pub both_words : (a b : Code) → declared (Seq a b) ≡ declared a + declared b
  both_words a b = sum_by-append words (arrays_of a) (arrays_of b)

  pub turns_words : (k : ℕ) (test : Option (Tree One)) (step : Option Action) (a : Code) → declared_words words (turns_of k test step a) ≡ declared_words words a + times k (declared_words words a)
  turns_words zero test step a = both_words (block_of a) Nothing ∙ ap (λ (xs : List ℕ). sum_by words xs + 0) (block_arrays a)
  turns_words (suc k) test step a =
      let rest : Code = turns_of k test step a in
      both_words (block_of a) (step_before step (test_before test rest))
      ∙ ap (λ (xs : List ℕ). sum_by words xs + declared (step_before step (test_before test rest))) (block_arrays a)
      ∙ ap (λ (xs : List ℕ). declared a + sum_by words xs) (behind_arrays step test rest)
      ∙ ap (λ (n : ℕ). declared a + n) (turns_words k test step a)

  -- what the function has behind

  pub record SizeSo (now : Size) (c : Code) (d : Decided) : Type 0 where
    pub nodes : d.size.nodes + code_nodes c ≡ now.nodes + code_nodes d.code
    pub words_so : d.size.words + declared_words words c ≡ now.words + declared_words words d.code
    pub few_nodes : now.nodes ≤ 4000 → d.size.nodes ≤ 4000
    pub few_words : now.words ≤ 8192 → d.size.words ≤ 8192

  stays : (now : Size) (c : Code) → SizeSo now c (record { code = c; size = now })
  stays now c = record { nodes = refl; words_so = refl; few_nodes = λ h. h; few_words = λ h. h }

  pub limits_kept : (size : Size) → keeps_limits size ≡ true → (size.nodes ≤ 4000) × (size.words ≤ 8192)
  limits_kept size e =
      let b = and_parts (at_most size.nodes 4000) (at_most size.words 8192) e in
      let m : size.nodes < 4001 = ltb-true size.nodes 4001 b.0 in
      let n : size.words < 8193 = ltb-true size.words 8193 b.1 in
      (omega (arith, m), omega (arith, n))

  changes : (now : Size) (old new : Code) → code_nodes old ≤ code_nodes new → declared old ≤ declared new → keeps_limits (exchanged words now old new) ≡ true → SizeSo now old (record { code = new; size = exchanged words now old new })
  changes now old new h k e =
      let l = limits_kept (exchanged words now old new) e in
      record { nodes = omega (arith, h); words_so = omega (arith, k); few_nodes = λ m. l.0; few_words = λ m. l.1 }

  if_fits : (now : Size) (old new : Code) → code_nodes old ≤ code_nodes new → declared old ≤ declared new → SizeSo now old (where_it_fits words now old new)
  if_fits now old new h k =
      let by : (f : Bool) → keeps_limits (exchanged words now old new) ≡ f → SizeSo now old (if f then record { code = new; size = exchanged words now old new } else record { code = old; size = now })
      = λ f. elim f as (λ f. keeps_limits (exchanged words now old new) ≡ f → SizeSo now old (if f then record { code = new; size = exchanged words now old new } else record { code = old; size = now })) [
        | true ↦ λ e. changes now old new h k e
        | false ↦ λ e. stays now old
      ] in
      by (keeps_limits (exchanged words now old new)) refl

  either_so : (now : Size) (a : Code) (x y : Decided) (b : Bool) → SizeSo now a x → SizeSo now a y → SizeSo now a (if b then x else y)
  either_so now a x y true h k = h
  either_so now a x y false h k = k

  turns_least : (k : ℕ) (test : Option (Tree One)) (step : Option Action) (a : Code) → (code_nodes a ≤ code_nodes (Block (turns_of k test step a))) × (declared a ≤ declared (Block (turns_of k test step a)))
  turns_least k test step a =
      let n = turns_nodes k test step a in let b = block_least a in let w = turns_words k test step a in
      (omega (arith, n, b), omega (arith, w))

  for_least : (k : ℕ) (test : Option (Tree One)) (step a : Code) → (code_nodes a ≤ code_nodes (for_body k test step a)) × (declared a ≤ declared (for_body k test step a))
  for_least k test Nothing a = turns_least k test None a
  for_least k test (Head s) a = turns_least k test (Some s) a
  for_least k test step a = (omega arith, omega arith)

  -- a statement round another
  round_so : (around : Code → Code) (more : ℕ) → ((x : Code) → code_nodes (around x) ≡ more + code_nodes x) → (front : ℕ) → ((x : Code) → declared (around x) ≡ front + declared x) → (now : Size) (a : Code) (d : Decided) → SizeSo now a d → SizeSo now (around a) (inside around d)
  round_so around more n front w now a d s =
      let na = n a in let nd = n d.code in let wa = w a in let wd = w d.code in let sn = s.nodes in let sw = s.words_so in
      record { nodes = omega (arith, na, nd, sn); words_so = omega (arith, wa, wd, sw); few_nodes = s.few_nodes; few_words = s.few_words }

  two_so : (around : Code → Code → Code) (more : ℕ) → ((x y : Code) → code_nodes (around x y) ≡ more + code_nodes x + code_nodes y) → ((x y : Code) → declared (around x y) ≡ declared x + declared y)
      → (now : Size) (a b : Code) (x : Decided) (f : Size → Decided) → SizeSo now a x → SizeSo x.size b (f x.size) → SizeSo now (around a b) (and_then around x f)
  two_so around more n w now a b x f s t =
      let na = n a b in let nd = n x.code (f x.size).code in let wa = w a b in let wd = w x.code (f x.size).code in
      let sn = s.nodes in let sw = s.words_so in let tn = t.nodes in let tw = t.words_so in
      record { nodes = omega (arith, na, nd, sn, tn); words_so = omega (arith, wa, wd, sw, tw); few_nodes = λ h. t.few_nodes (s.few_nodes h); few_words = λ h. t.few_words (s.few_words h) }

  module _ (k : ℕ) where
    pub decided_so : (now : Size) (c : Code) → SizeSo now c (unrolled_in k words now c)
    decided_so now (Seq a b) =
        let x : Decided = unrolled_in k words now a in
        two_so Seq 0 (λ x y. omega arith) (λ x y. both_words x y) now a b x (λ size. unrolled_in k words size b) (decided_so now a) (decided_so x.size b)
    decided_so now (Block a) = round_so Block 1 (λ x. refl) 0 (λ x. omega arith) now a (unrolled_in k words now a) (decided_so now a)
    decided_so now (If e a) = round_so (If e) (1 + nodes_of e) (λ x. refl) 0 (λ x. omega arith) now a (unrolled_in k words now a) (decided_so now a)
    decided_so now (IfElse e a b) =
        let x : Decided = unrolled_in k words now a in
        two_so (IfElse e) (1 + nodes_of e) (λ x y. refl) (λ x y. both_words x y) now a b x (λ size. unrolled_in k words size b) (decided_so now a) (decided_so x.size b)
    decided_so now (While e a) =
        let x : Decided = unrolled_in k words now a in
        let l = turns_least k (Some e) None a in
        let y : Decided = where_it_fits words now a (while_body k e a) in
        round_so (While e) (1 + nodes_of e) (λ x. refl) 0 (λ x. omega arith) now a (if has_loop a then x else y) (either_so now a x y (has_loop a) (decided_so now a) (if_fits now a (while_body k e a) l.0 l.1))
    decided_so now (DoWhile a e) = round_so (λ body. DoWhile body e) (1 + nodes_of e) (λ x. omega arith) 0 (λ x. omega arith) now a (unrolled_in k words now a) (decided_so now a)
    decided_so now (For first test step a) =
        let x : Decided = unrolled_in k words now a in
        let l = for_least k test step a in
        let y : Decided = where_it_fits words now a (for_body k test step a) in
        round_so (For first test step) (1 + code_nodes first + test_nodes test + code_nodes step) (λ x. refl) (declared first) (λ x. both_words first x) now a (if has_loop a then x else y)
        (either_so now a x y (has_loop a) (decided_so now a) (if_fits now a (for_body k test step a) l.0 l.1))
    decided_so now c = stays now c

pub nodes_stay_within : (k globals : ℕ) (f : Function) → function_nodes f ≤ 4000 → function_nodes (unrolled_function k globals f) ≤ 4000
nodes_stay_within k globals f h =
    let words : ℕ → ℕ = own_words (first_own globals f) f.arrays in
    let d : Decided = unrolled_in (k - 1) words (size_of globals f) f.body in
    let s = decided_so words (k - 1) (size_of globals f) f.body in
    let few : d.size.nodes ≤ 4000 = s.few_nodes h in
    let n : d.size.nodes + code_nodes f.body ≡ (1 + length f.takes + code_nodes f.body) + code_nodes d.code = s.nodes in
    let r : 1 + length f.takes + code_nodes d.code ≤ 4000 = omega (arith, few, n) in
    r

pub words_stay_within : WordsStayWithin
words_stay_within k globals f h =
    let words : ℕ → ℕ = own_words (first_own globals f) f.arrays in
    let d : Decided = unrolled_in (k - 1) words (size_of globals f) f.body in
    let s = decided_so words (k - 1) (size_of globals f) f.body in
    let few : d.size.words ≤ 8192 = s.few_words h in
    let n : d.size.words + declared_words words f.body ≡ declared_words words f.body + declared_words words d.code = s.words_so in
    let r : declared_words words d.code ≤ 8192 = omega (arith, few, n) in
    r
