-- From the rest of one block to the rest of another.
use Rattle.std.proofs.Common.{◌≡◌, ℕ, suc, ◌<◌, ◌≤◌, Bool, true, false, cond, List, Option, Some, refl, ap, ◌∙◌, subst, arith}
use Rattle.std.specs.Prelude.{slice_get}
use Rattle.vx_base.specs.Arithmetic.{one_if}
use Rattle.vx_base.specs.Outcome.{Outcome, Traps, Goes as Unfinished, step_then, run}
use Rattle.vx_base.specs.declared.outcome.Trap.{Trap}
use Rattle.vx_ast.specs.Meaning.{Store, Part, With, Trapped, Going, and_then as then_do}
use Rattle.vx_flow.specs.declared.graph.Op.{Op}
use Rattle.vx_flow.specs.declared.graph.Exit.TheVariants.{Split, Ends}
use Rattle.vx_flow.specs.declared.graph.Block.{Block}
use Rattle.vx_flow.specs.Effects.{State, Setting, effect}
use Rattle.vx_flow.specs.Meaning.{Arrives, Program, Frame, Active, block_hop, and_then, by_test, after_hop, hop, next, setting_with}
use Rattle.vx_lower.specs.Holds.{Goes, same, on, then_op, ends, jump, Tests}

-- what stays in a body: the function, the spots of the arrays that were passed to it, where its own arrays begin, and those
-- that wait
pub record Here : Type 0 where
  pub function : ℕ
  pub passed : List (Option ℕ)
  pub base : ℕ
  pub waiting : List Frame

-- where the block of a point was entered
pub record Entry : Type 0 where
  pub block : ℕ
  pub state : State

abbrev pub active_at : Here → Entry → Active
active_at h e = record { function = h.function; block = e.block; passed = h.passed; base = h.base; state = e.state; waiting = h.waiting }

-- what the operations of the body depend on besides
abbrev pub setting_at : Program → Here → Setting
setting_at P h = setting_with P h.passed h.base

-- what a part ends with, where it ends with a value
abbrev pub AllWith : {A : Type 0} → (A → Store → Type 0) → Part A → Type 0
AllWith F (With a σ) = F a σ
AllWith F (Trapped k out) = Unit {0}
AllWith F (Going out) = Unit {0}

pub all_then : {A B : Type 0} (G : A → Store → Type 0) (F : B → Store → Type 0) (o : Part A) (f : A → Store → Part B) → AllWith G o → ((a : A) (σ : Store) → G a σ → AllWith F (f a σ)) → AllWith F (then_do o f)
all_then G F (With a σ) f x k = k a σ x
all_then G F (Trapped w out) f x k = tt
all_then G F (Going out) f x k = tt

pub all_with : {A : Type 0} (o : Part A) → AllWith (λ a σ. Unit {0}) o
all_with (With a σ) = tt
all_with (Trapped k out) = tt
all_with (Going out) = tt

module _ (P : Program) (h : Here) where
  abbrev pub output_at : Active → List ℕ
  output_at r = r.state.out

  -- at most n more blocks, from the rest of a block on
  abbrev pub rest_run : ℕ → Entry → Block → State → Outcome
  rest_run n e p s = step_then (run (next P) (λ r. r.state.out) n) (after_hop P (active_at h e) (block_hop (setting_at P h) e.block p.ops p.exit s))

  -- the blocks of the function
  abbrev pub HasBlocks : List Block → Type 0
  HasBlocks B = (b : ℕ) (q : Block) (s : State) → slice_get B b ≡ Some q → hop P (active_at h (record { block = b; state = s })) ≡ block_hop (setting_at P h) b q.ops q.exit s

  -- whatever runs from q at t runs from p at s, and no sooner
  pub record Comes (p : Block) (s : State) (q : Block) (t : State) : Type 0 where
    pub by : (e : Entry) → (f : Entry) × ((k : ℕ) → (j : ℕ) × (k ≤ j) × (rest_run j e p s ≡ rest_run k f q t))

  -- and later
  pub record Later (p : Block) (s : State) (q : Block) (t : State) : Type 0 where
    pub by : (e : Entry) → (f : Entry) × ((k : ℕ) → (j : ℕ) × (k < j) × (rest_run j e p s ≡ rest_run k f q t))

  -- at some bound the run goes on with this output
  pub record Passes (p : Block) (s : State) (out : List ℕ) : Type 0 where
    pub by : (e : Entry) → (m : ℕ) × (rest_run m e p s ≡ Unfinished out)

  pub comes_self : (p : Block) (s : State) → Comes p s p s
  comes_self p s = record { by = λ e. (e, λ k. (k, omega arith, refl)) }

  pub comes_on : {p q r : Block} {s t u : State} → Comes p s q t → Comes q t r u → Comes p s r u
  comes_on a b = record { by = λ e. let c = a.by e in let d = b.by c.0 in (d.0, λ k. let y = d.1 k in let x = c.1 y.0 in let l = x.1 in let m = y.1 in (x.0, omega arith, x.2 ∙ y.2)) }

  pub later_on : {p q r : Block} {s t u : State} → Comes p s q t → Later q t r u → Later p s r u
  later_on a b = record { by = λ e. let c = a.by e in let d = b.by c.0 in (d.0, λ k. let y = d.1 k in let x = c.1 y.0 in let l = x.1 in let m = y.1 in (x.0, omega arith, x.2 ∙ y.2)) }

  pub on_later : {p q r : Block} {s t u : State} → Later p s q t → Comes q t r u → Later p s r u
  on_later a b = record { by = λ e. let c = a.by e in let d = b.by c.0 in (d.0, λ k. let y = d.1 k in let x = c.1 y.0 in let l = x.1 in let m = y.1 in (x.0, omega arith, x.2 ∙ y.2)) }

  pub is_later : {p q : Block} {s t : State} → Later p s q t → Comes p s q t
  is_later a = record { by = λ e. let c = a.by e in (c.0, λ k. let x = c.1 k in let l = x.1 in (x.0, omega arith, x.2)) }

  pub passes_on : {p q : Block} {s t : State} {out : List ℕ} → Comes p s q t → Passes q t out → Passes p s out
  passes_on a b = record { by = λ e. let c = a.by e in let y = b.by c.0 in let x = c.1 y.0 in (x.0, x.2 ∙ y.1) }

  -- one operation
  pub comes_op : (op : Op) (q : Block) (s t : State) → effect (setting_at P h) s op s ≡ Some t → Comes (then_op op q) s q t
  comes_op op q s t e = record { by = λ f. (f, λ k. (k, omega arith, ap (λ o. step_then (run (next P) (λ r. r.state.out) k) (after_hop P (active_at h f) (and_then o (block_hop (setting_at P h) f.block q.ops q.exit)))) e)) }

  -- what a part of the source says of the graph, from p at s on: a trap, or as far, or Good
  abbrev pub Gives : {A : Type 0} → ℕ → Block → State → (A → Store → Type 0) → Part A → Type 0
  Gives n p s Good (With a σ) = Good a σ
  Gives n p s Good (Trapped k out) = (e : Entry) → (m : ℕ) × (rest_run m e p s ≡ Traps k out)
  Gives n p s Good (Going out) = (e : Entry) → (m : ℕ) × (n ≤ m) × (rest_run m e p s ≡ Unfinished out)

  -- a part, and what goes on from it
  pub bind : {A B : Type 0} (n : ℕ) (p q : Block) (s t : State) (Good : A → Store → Type 0) (Better : B → Store → Type 0) (f : A → Store → Part B) → Comes p s q t → (o : Part A) → Gives n q t Good o → ((a : A) (σ : Store) → Good a σ → Gives n p s Better (f a σ)) → Gives n p s Better (then_do o f)
  bind n p q s t Good Better f c (With a σ) g k = k a σ g
  bind n p q s t Good Better f c (Trapped w out) g k = λ e. let d = c.by e in let y = g d.0 in let x = d.1 y.0 in (x.0, x.2 ∙ y.1)
  bind n p q s t Good Better f c (Going out) g k = λ e. let d = c.by e in let y = g d.0 in let x = d.1 y.0 in let l = x.1 in let m = y.1 in (x.0, omega arith, x.2 ∙ y.2)

  -- the same where more is known of what the part ends with
  pub bind_with : {A B : Type 0} (n : ℕ) (p q : Block) (s t : State) (Good F : A → Store → Type 0) (Better : B → Store → Type 0) (f : A → Store → Part B) → Comes p s q t → (o : Part A) → AllWith F o → Gives n q t Good o → ((a : A) (σ : Store) → F a σ → Good a σ → Gives n p s Better (f a σ)) → Gives n p s Better (then_do o f)
  bind_with n p q s t Good F Better f c (With a σ) x g k = k a σ x g
  bind_with n p q s t Good F Better f c (Trapped w out) x g k = λ e. let d = c.by e in let y = g d.0 in let x = d.1 y.0 in (x.0, x.2 ∙ y.1)
  bind_with n p q s t Good F Better f c (Going out) x g k = λ e. let d = c.by e in let y = g d.0 in let x = d.1 y.0 in let l = x.1 in let m = y.1 in (x.0, omega arith, x.2 ∙ y.2)

  pub shift : {A : Type 0} (n : ℕ) (p q : Block) (s t : State) (Good Better : A → Store → Type 0) → Comes p s q t → (o : Part A) → Gives n q t Good o → ((a : A) (σ : Store) → Good a σ → Better a σ) → Gives n p s Better o
  shift n p q s t Good Better c (With a σ) g k = k a σ g
  shift n p q s t Good Better c (Trapped w out) g k = λ e. let d = c.by e in let y = g d.0 in let x = d.1 y.0 in (x.0, x.2 ∙ y.1)
  shift n p q s t Good Better c (Going out) g k = λ e. let d = c.by e in let y = g d.0 in let x = d.1 y.0 in let l = x.1 in let m = y.1 in (x.0, omega arith, x.2 ∙ y.2)

  -- with fewer blocks asked for
  pub fewer : {A : Type 0} (m n : ℕ) (p : Block) (s : State) (Good : A → Store → Type 0) (o : Part A) → m ≤ n → Gives n p s Good o → Gives m p s Good o
  fewer m n p s Good (With a σ) le g = g
  fewer m n p s Good (Trapped k out) le g = g
  fewer m n p s Good (Going out) le g = λ e. let y = g e in let l = y.1 in (y.0, omega arith, y.2)

  -- after a block, one more
  pub one_more : {A : Type 0} (m : ℕ) (p q : Block) (s t : State) (Good Better : A → Store → Type 0) (o : Part A) → Later p s q t → Gives m q t Good o → ((a : A) (σ : Store) → Good a σ → Better a σ) → Gives (suc m) p s Better o
  one_more m p q s t Good Better (With a σ) c g k = k a σ g
  one_more m p q s t Good Better (Trapped w out) c g k = λ e. let d = c.by e in let y = g d.0 in let x = d.1 y.0 in (x.0, x.2 ∙ y.1)
  one_more m p q s t Good Better (Going out) c g k = λ e. let d = c.by e in let y = g d.0 in let x = d.1 y.0 in let l = x.1 in let m = y.1 in (x.0, omega arith, x.2 ∙ y.2)

  -- where no block need be passed
  pub goes_on : {A : Type 0} (p : Block) (s : State) (Good : A → Store → Type 0) (out : List ℕ) → Passes p s out → Gives 0 p s Good (Going out)
  goes_on p s Good out x = λ e. let y = x.by e in (y.0, omega arith, y.1)

  module _ (B : List Block) (has : HasBlocks B) where
    pub arrival : (e : Entry) (b k : ℕ) (r : Block) (t : State) → slice_get B b ≡ Some r → run (next P) (λ q. q.state.out) (suc k) (active_at h (record { block = b; state = t })) ≡ rest_run k (record { block = b; state = t }) r t
    arrival e b k r t at = ap (λ x. step_then (run (next P) (λ q. q.state.out) k) (after_hop P (active_at h (record { block = b; state = t })) x)) (has b r t at)

    -- one block
    pub later_arrives : (p r : Block) (b : ℕ) (s t : State) → ((e : Entry) → block_hop (setting_at P h) e.block p.ops p.exit s ≡ Arrives e.block b t) → slice_get B b ≡ Some r → Later p s r t
    later_arrives p r b s t e at = record { by = λ f. (record { block = b; state = t }, λ k. (suc k, omega arith, ap (λ x. step_then (run (next P) (λ q. q.state.out) (suc k)) (after_hop P (active_at h f) x)) (e f) ∙ arrival f b k r t at)) }

    pub passes_arrival : (p : Block) (b : ℕ) (s t : State) → ((e : Entry) → block_hop (setting_at P h) e.block p.ops p.exit s ≡ Arrives e.block b t) → Passes p s t.out
    passes_arrival p b s t e = record { by = λ f. (0, ap (λ x. step_then (run (next P) (λ q. q.state.out) 0) (after_hop P (active_at h f) x)) (e f)) }

    pub comes_goes : (q p : Block) (s : State) → Goes B q p → Comes p s q s
    comes_goes q p s (same e) = subst (λ x. Comes p s x s) e (comes_self p s)
    comes_goes q p s (on b r e at g) = comes_on (is_later (later_arrives p r b s s (λ f. ap (λ x. block_hop (setting_at P h) f.block x.ops x.exit s) e) at)) (comes_goes q r s g)

    -- a jump passes a block
    pub later_jump : (p r : Block) (b : ℕ) (s : State) → Goes B (jump b) p → slice_get B b ≡ Some r → Later p s r s
    later_jump p r b s g at = later_on (comes_goes (jump b) p s g) (later_arrives (jump b) r b s s (λ f. refl) at)

    pub passes_jump : (p : Block) (b : ℕ) (s : State) → Goes B (jump b) p → Passes p s s.out
    passes_jump p b s g = passes_on (comes_goes (jump b) p s g) (passes_arrival (jump b) b s s (λ f. refl))

    -- to an operation, and past it
    pub comes_past : (op : Op) (p q : Block) (s t : State) → Goes B (then_op op q) p → effect (setting_at P h) s op s ≡ Some t → Comes p s q t
    comes_past op p q s t g e = comes_on (comes_goes (then_op op q) p s g) (comes_op op q s t e)

    -- a test, and one of the ways on
    pub record Came_to (p : Block) (s : State) (q : Block) (t : State) : Type 0 where
      pub comes : Comes p s q t
      pub passes : Passes p s t.out

    pub comes_tests : (op : Op) (c : ℕ) (p one two : Block) (s t : State) (v : Bool) → Tests B op c p one two → effect (setting_at P h) s op s ≡ Some t → t.values c ≡ Some (one_if v) → Came_to p s (cond v one two) t
    comes_tests op c p one two s t v x e at = way v at
      where
        before : Comes p s (ends (Split c x.y x.n)) t
        before = comes_on (comes_past op p x.test s t x.goes e) (comes_goes (ends (Split c x.y x.n)) x.test t x.splits)

        way : (v : Bool) → t.values c ≡ Some (one_if v) → Came_to p s (cond v one two) t
        way true at = record {
          comes = comes_on before (is_later (later_arrives (ends (Split c x.y x.n)) one x.y t t (λ f. ap (λ o. by_test o (Arrives f.block x.y t) (Arrives f.block x.n t)) at) x.at_yes));
          passes = passes_on before (passes_arrival (ends (Split c x.y x.n)) x.y t t (λ f. ap (λ o. by_test o (Arrives f.block x.y t) (Arrives f.block x.n t)) at));
        }
        way false at = record {
          comes = comes_on before (is_later (later_arrives (ends (Split c x.y x.n)) two x.n t t (λ f. ap (λ o. by_test o (Arrives f.block x.y t) (Arrives f.block x.n t)) at) x.at_no));
          passes = passes_on before (passes_arrival (ends (Split c x.y x.n)) x.n t t (λ f. ap (λ o. by_test o (Arrives f.block x.y t) (Arrives f.block x.n t)) at));
        }

    -- a stop
    pub stops : {A : Type 0} (n : ℕ) (k : Trap) (p q : Block) (s t : State) (Good : A → Store → Type 0) (out : List ℕ) → Comes p s q t → Goes B (ends (Ends k)) q → t.out ≡ out → Gives n p s Good (Trapped k out)
    stops n k p q s t Good out c g o = λ e. let d = (comes_on c (comes_goes (ends (Ends k)) q t g)).by e in let x = d.1 0 in (x.0, x.2 ∙ ap (Traps k) o)
