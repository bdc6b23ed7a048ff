-- What is made of statements and of turns.
use Rattle.std.proofs.Common.{◌≡◌, ℕ, zero, suc, ◌+◌, ◌-◌, ◌*◌, ◌<◌, Bool, true, false, List, [], ◌∷◌, ◌++◌, Option, Some, None, refl, sym, ap, ◌∙◌, arith}
use Rattle.std.specs.Prelude.{if◌then◌else◌, option_map}
use Rattle.std.proofs.lemmas.Bool.{false≢true}
use Rattle.std.proofs.Math.Nat.{suc-mul}
use Rattle.vx_ast.specs.declared.tree.Statement.{Statement}
use Rattle.vx_ast.specs.declared.tree.Item.{Item}
use Rattle.vx_ast.specs.declared.tree.Item.TheVariants.{Scalar as ClearScalar, ScalarWith, Array}
use Rattle.vx_ast.specs.declared.tree.Simple.{Simple}
use Rattle.vx_ast.specs.Tree.{One, Tree, Action, Code, Nothing, Seq, Block, If, IfElse, While, DoWhile, For}
use Rattle.vx_ast.specs.View.{code_of, all_in, items_of, item_of, step_of, action_of}
use Rattle.vx_ast.specs.Accepted.{code_nodes}
use Rattle.vx_unroll.specs.declared.size.Size.{Size}
use Rattle.vx_unroll.specs.Unrolling.{block_of, step_before, test_before, turns_of, for_body, has_loop, declared_words, exchanged, keeps_limits, Decided, inside, and_then, where_it_fits, unrolled_in}
use Rattle.vx_unroll.specs.Growth.{fitting, grown, step_cost, test_cost, code_onto, decided_as}
use Rattle.vx_unroll.proofs.Sizes.{times, turn_nodes, turns_nodes, turns_words, block_least}

-- lists of statements

pub code_onto_push : (done : List Statement) (s : Statement) (rest : Code) → code_onto (done ++ s ∷ []) rest ≡ code_onto done (Seq (code_of s) rest)
code_onto_push [] s rest = refl
code_onto_push (d ∷ done) s rest = ap (Seq (code_of d)) (code_onto_push done s rest)

pub code_onto_end : (done : List Statement) → code_onto done Nothing ≡ all_in done
code_onto_end [] = refl
code_onto_end (d ∷ done) = ap (Seq (code_of d)) (code_onto_end done)

pub code_onto_last : (done all : List Statement) (last : Statement) (turn : Code) → all ≡ done ++ last ∷ [] → code_of last ≡ turn → all_in all ≡ code_onto done (Seq turn Nothing)
code_onto_last done all last turn e h =
    sym (code_onto_end all) ∙ ap (λ (z : List Statement). code_onto z Nothing) e ∙ code_onto_push done last Nothing ∙ ap (λ (z : Code). code_onto done (Seq z Nothing)) h

-- code without a loop stays as it is

neither : (a b : Bool) → (if a then true else b) ≡ false → (a ≡ false) × (b ≡ false)
neither true b e = absurd (false≢true (sym e))
neither false b e = (refl, e)

module _ (more : ℕ) (words : ℕ → ℕ) where
  abbrev by : Size → Code → Decided
  by now c = unrolled_in more words now c

  two_plain : (around : Code → Code → Code) (now : Size) (a b : Code) (x : Decided) → x ≡ decided_as a now → by now b ≡ decided_as b now → and_then around x (λ size. by size b) ≡ decided_as (around a b) now
  two_plain around now a b x e h = ap (λ (z : Decided). and_then around z (λ size. by size b)) e ∙ ap (λ (z : Decided). decided_as (around a z.code) z.size) h

  pub plain : (now : Size) (c : Code) → has_loop c ≡ false → unrolled_in more words now c ≡ decided_as c now
  plain now (Seq a b) e = let h = neither (has_loop a) (has_loop b) e in two_plain Seq now a b (by now a) (plain now a h.0) (plain now b h.1)
  plain now (Block a) e = ap (inside Block) (plain now a e)
  plain now (If t a) e = ap (inside (If t)) (plain now a e)
  plain now (IfElse t a b) e = let h = neither (has_loop a) (has_loop b) e in two_plain (IfElse t) now a b (by now a) (plain now a h.0) (plain now b h.1)
  plain now (While t a) e = absurd (false≢true (sym e))
  plain now (DoWhile a t) e = absurd (false≢true (sym e))
  plain now (For first test step a) e = absurd (false≢true (sym e))
  plain now c e = refl

item_loops : (i : Item) → has_loop (item_of i) ≡ false
item_loops (ClearScalar x) = refl
item_loops (ScalarWith x e) = refl
item_loops (Array a) = refl

pub items_loops : (is : List Item) → has_loop (items_of is) ≡ false
items_loops [] = refl
items_loops (i ∷ is) = ap (λ (b : Bool). if b then true else has_loop (items_of is)) (item_loops i) ∙ items_loops is

-- what the function has then

times_is : (k n : ℕ) → times k n ≡ k * n
times_is zero n = omega arith
times_is (suc k) n = let h = times_is k n in let m : suc k * n ≡ k * n + n = suc-mul k n in omega (arith, h, m)

pub size_same : (s t : Size) → s.nodes ≡ t.nodes → s.words ≡ t.words → s ≡ t
size_same s t e h = ap (λ (z : ℕ). record { nodes = z; words = s.words }) e ∙ ap (λ (z : ℕ). record { nodes = t.nodes; words = z }) h

pub exchanged_is : (more : ℕ) (words : ℕ → ℕ) (now : Size) (test : Option (Tree One)) (step : Option Action) (a : Code) → exchanged words now a (Block (turns_of more test step a)) ≡ grown more words now a (step_cost step + test_cost test)
exchanged_is more words now test step a =
    let n = turns_nodes more test step a in
    let w = turns_words words more test step a in
    let l = block_least a in
    let tn : times more (turn_nodes test step a) ≡ more * (code_nodes (block_of a) + (step_cost step + test_cost test)) =
    times_is more (turn_nodes test step a) ∙ ap (λ (z : ℕ). more * z) (let r : code_nodes (block_of a) + step_cost step + test_cost test ≡ code_nodes (block_of a) + (step_cost step + test_cost test) = omega arith in r) in
    let tw = times_is more (declared_words words a) in
    size_same (exchanged words now a (Block (turns_of more test step a))) (grown more words now a (step_cost step + test_cost test)) (omega (arith, n, l, tn)) (omega (arith, w, tw))

module _ (words : ℕ → ℕ) (now : Size) (old new : Code) (g : Size) (is : exchanged words now old new ≡ g) where
  abbrev choice : Size → Bool → Decided
  choice size f = if f then record { code = new; size = size } else record { code = old; size = now }

  pub where_it_does : (next : Size) → Some next ≡ fitting g → where_it_fits words now old new ≡ decided_as new next
  where_it_does next e =
      let by : (f : Bool) → Some next ≡ (if f then Some g else None) → choice g f ≡ decided_as new next
      = λ f. elim f as (λ f. Some next ≡ (if f then Some g else None) → choice g f ≡ decided_as new next) [
        | true ↦ λ h. let s : g ≡ next = cc in ap (decided_as new) s
        | false ↦ λ h. absurd (cc)
      ] in
      ap (λ (z : Size). choice z (keeps_limits z)) is ∙ by (keeps_limits g) e

  pub where_it_does_not : None ≡ fitting g → where_it_fits words now old new ≡ decided_as old now
  where_it_does_not e =
      let by : (f : Bool) → None ≡ (if f then Some g else None) → choice g f ≡ decided_as old now
      = λ f. elim f as (λ f. None ≡ (if f then Some g else None) → choice g f ≡ decided_as old now) [
        | true ↦ λ h. absurd (cc)
        | false ↦ λ h. refl
      ] in
      ap (λ (z : Size). choice z (keeps_limits z)) is ∙ by (keeps_limits g) e

pub for_body_is : (more : ℕ) (test : Option (Tree One)) (step : Option Simple) (a : Code) → for_body more test (step_of step) a ≡ Block (turns_of more test (option_map action_of step) a)
for_body_is more test None a = refl
for_body_is more test (Some s) a = refl

-- turns before the last one

pub turns_step : (made pushed next : List Statement) (turn : Statement) (m i : ℕ) (test : Option (Tree One)) (step : Option Action) (a whole : Code) → i < m → code_onto made (turns_of (m - i) test step a) ≡ whole
    → pushed ≡ made ++ turn ∷ [] → code_of turn ≡ block_of a → ((rest : Code) → code_onto next rest ≡ code_onto pushed (step_before step (test_before test rest))) → code_onto next (turns_of (m - (i + 1)) test step a) ≡ whole
turns_step made pushed next turn m i test step a whole l s p t n =
    let j = m - (i + 1) in
    let rest = step_before step (test_before test (turns_of j test step a)) in
    let k : suc j ≡ m - i = omega arith in
    n (turns_of j test step a) ∙ ap (λ (z : List Statement). code_onto z rest) p ∙ code_onto_push made turn rest ∙ ap (λ (z : Code). code_onto made (Seq z rest)) t
    ∙ ap (λ (z : ℕ). code_onto made (turns_of z test step a)) k ∙ s

-- statements of a list so far, with what is left

abbrev pub onto_decided : List Statement → Decided → Decided
onto_decided made d = record { code = code_onto made d.code; size = d.size }

pub record AllSo (more : ℕ) (words : ℕ → ℕ) (size reached : Size) (loops : Bool) (made left all : List Statement) : Type 0 where
  pub code_so : onto_decided made (unrolled_in more words reached (all_in left)) ≡ unrolled_in more words size (all_in all)
  pub loops_so : (if loops then true else has_loop (all_in left)) ≡ has_loop (all_in all)

pub all_begin : (more : ℕ) (words : ℕ → ℕ) (size : Size) (made all : List Statement) → made ≡ [] → AllSo more words size size false made all all
all_begin more words size made all e = record { code_so = ap (λ (z : List Statement). onto_decided z (unrolled_in more words size (all_in all))) e; loops_so = refl }

or_false : (a : Bool) → a ≡ (if a then true else false)
or_false true = refl
or_false false = refl

either_twice : (a b c : Bool) → (if (if a then true else b) then true else c) ≡ (if a then true else (if b then true else c))
either_twice true b c = refl
either_twice false b c = refl

pub all_step : (more : ℕ) (words : ℕ → ℕ) (size reached next : Size) (loops has after : Bool) (made pushed left rest all : List Statement) (x done : Statement) → AllSo more words size reached loops made left all → left ≡ x ∷ rest
    → decided_as (code_of done) next ≡ unrolled_in more words reached (code_of x) → has ≡ has_loop (code_of x) → after ≡ (if loops then true else has) → pushed ≡ made ++ done ∷ [] → AllSo more words size next after pushed rest all
all_step more words size reached next loops has after made pushed left rest all x done s e d h a p = record {
  code_so =
      ap (λ (z : List Statement). onto_decided z (unrolled_in more words next (all_in rest))) p
      ∙ ap (λ (z : Code). decided_as z (unrolled_in more words next (all_in rest)).size) (code_onto_push made done (unrolled_in more words next (all_in rest)).code)
      ∙ ap (λ (z : Decided). onto_decided made (and_then Seq z (λ t. unrolled_in more words t (all_in rest)))) d
      ∙ sym (ap (λ (z : List Statement). onto_decided made (unrolled_in more words reached (all_in z))) e) ∙ s.code_so;
  loops_so =
      ap (λ (z : Bool). if z then true else has_loop (all_in rest)) (a ∙ ap (λ (z : Bool). if loops then true else z) h) ∙ either_twice loops (has_loop (code_of x)) (has_loop (all_in rest))
      ∙ sym (ap (λ (z : List Statement). if loops then true else has_loop (all_in z)) e) ∙ s.loops_so;
}

pub all_end : (more : ℕ) (words : ℕ → ℕ) (size reached : Size) (loops : Bool) (made left all : List Statement) → AllSo more words size reached loops made left all → left ≡ []
    → (decided_as (all_in made) reached ≡ unrolled_in more words size (all_in all)) × (loops ≡ has_loop (all_in all))
all_end more words size reached loops made left all s e = (
  ap (λ (z : Code). decided_as z reached) (sym (code_onto_end made)) ∙ sym (ap (λ (z : List Statement). onto_decided made (unrolled_in more words reached (all_in z))) e) ∙ s.code_so,
  or_false loops ∙ sym (ap (λ (z : List Statement). if loops then true else has_loop (all_in z)) e) ∙ s.loops_so,
)

-- the body of a loop

pub same_code : (c d : Code) (s t : Size) → decided_as c s ≡ decided_as d t → c ≡ d
same_code c d s t e = ap (λ (z : Decided). z.code) e

module _ (more : ℕ) (words : ℕ → ℕ) (now : Size) (old new : Code) (g : Size) (is : exchanged words now old new ≡ g) (c : Code) (size : Size) (loops : Bool) (r : Option Size)
    (made : decided_as c size ≡ unrolled_in more words now old) (has : loops ≡ has_loop old) (none : loops ≡ false) (room : r ≡ fitting g) where
  no_loop : has_loop old ≡ false
  no_loop = sym has ∙ none

  -- a body without a loop comes out as it was
  pub plain_body : c ≡ old
  plain_body = same_code c old size now (made ∙ plain more words now old no_loop)

  chosen : (d : Decided) → d ≡ where_it_fits words now old new → d ≡ (if has_loop old then unrolled_in more words now old else where_it_fits words now old new)
  chosen d e = e ∙ sym (ap (λ (b : Bool). if b then unrolled_in more words now old else where_it_fits words now old new) no_loop)

  pub body_kept : r ≡ None → decided_as c size ≡ (if has_loop old then unrolled_in more words now old else where_it_fits words now old new)
  body_kept n = chosen (decided_as c size) (made ∙ plain more words now old no_loop ∙ sym (where_it_does_not words now old new g is (sym n ∙ room)))

  pub body_grown : (d : Code) (next : Size) → r ≡ Some next → d ≡ new → decided_as d next ≡ (if has_loop old then unrolled_in more words now old else where_it_fits words now old new)
  body_grown d next n e = chosen (decided_as d next) (ap (λ (z : Code). decided_as z next) e ∙ sym (where_it_does words now old new g is next (sym n ∙ room)))

-- all turns, by those before the last one
pub turns_closed : (front : List Statement) (c old d turns : Code) → d ≡ Block (code_onto front (Seq (block_of c) Nothing)) → c ≡ old → code_onto front (Seq (block_of old) Nothing) ≡ turns → d ≡ Block turns
turns_closed front c old d turns e h t = e ∙ ap (λ (z : Code). Block (code_onto front (Seq (block_of z) Nothing))) h ∙ ap Block t
