-- The graph follows a statement.
use Rattle.std.proofs.Common.{◌≡◌, ℕ, zero, suc, ◌<◌, ◌≤◌, ℤ, pos, negsuc, Bool, true, false, ◌&&◌, ◌||◌, List, [], ◌∷◌, length, map, slice_index_or, Option, Some, refl, sym, ap, ◌∙◌, subst, arith}
use Rattle.std.specs.Prelude.{nat_eq, slice_get}
use Rattle.std.proofs.lemmas.Bool.{eqb-true}
use Rattle.vx_base.specs.Arithmetic.{IsNumber}
use Rattle.vx_base.specs.declared.arithmetic.Code.TheVariants.{Mov}
use Rattle.vx_ast.specs.declared.tree.Gives.{Gives as GivesBack}
use Rattle.vx_ast.specs.declared.tree.Gives.TheVariants.{Int as GivesInt, Nothing as GivesNothing}
use Rattle.vx_ast.specs.declared.tree.Takes.{Takes}
use Rattle.vx_ast.specs.Tree.{NoMore, Then, Hand, One, Row, Tree, Code, Nothing, Seq, Empty, Block as Braces, Clear, Declare, ClearArray, Simply, Head, Print, If, IfElse, While, DoWhile, For, Break, Continue, Return, ReturnValue, Program as TreeProgram}
use Rattle.vx_ast.specs.Meaning.{Store, Part, With, Trapped, Going, Leaves, Falls, Breaks, Continues, Returns, go_on, after_body, after_turn, tests, turns, turns_first, test_of, Calls, Argument, NumberArgument, ArrayArgument, numbers_given, value, acts, does, unless_zero}
use Rattle.vx_ast.specs.Accepted.{Scope, is_in, suits, suits_test, suits_code, scope_after, is_format, numbers_of, row_length, has_numbers, takes_of_row}
use Rattle.vx_flow.specs.declared.graph.Operand.{Operand}
use Rattle.vx_flow.specs.declared.graph.Operand.TheVariants.{Number}
use Rattle.vx_flow.specs.declared.graph.Op.TheVariants.{Compute}
use Rattle.vx_flow.specs.declared.graph.Exit.TheVariants.{Return as Leave}
use Rattle.vx_flow.specs.declared.graph.Block.{Block}
use Rattle.vx_flow.specs.Effects.{State, held, with_value}
use Rattle.vx_flow.specs.Meaning.{Program}
use Rattle.vx_lower.specs.Holds.{Goes, same, Tested, Holds, ends, jump}
use Rattle.vx_lower.specs.Does.{Asks, always, asks, Does, nothing, seq, empty, braces, clear, declare, clear_array, simply, head, print, choose, choose_else, while, do_while, for, break, continue, return, return_value}
use Rattle.vx_lower.proofs.Base.{and_one, and_two}
use Rattle.vx_lower.proofs.Steps.{Here, setting_at, HasBlocks, Comes, Later, Passes, comes_self, comes_on, on_later, is_later, passes_on, comes_goes, comes_past, later_jump, passes_jump, Gives, bind, bind_with, shift, fewer, one_more, goes_on}
use Rattle.vx_lower.specs.Seen.{Sees, size_at}
use Rattle.vx_lower.proofs.Ties.{Above, Tied, held_kept, tied_scalar, row_length as words_of_row, held_size, size_below}
use Rattle.vx_lower.proofs.Values.{takes_given, passed_by, head_of, zero_fits, Fitting, Gained, Landed, Chosen, CallsMeet, choose as choose_way}
use Rattle.vx_lower.proofs.Zeros.{zeroes_run, tied_zeroed}
use Rattle.vx_lower.proofs.Exprs.{row_takes}
use Rattle.vx_lower.proofs.ActionLaws.{BothScopes, in_more, one_more_scalar, tied_narrow, Reaches, Stays, value_runs, sets, acts_run, shows_run}

-- of a row of numbers the numbers are passed
numbers_alone : (shapes : List ℕ) (row : Tree Row) (xs : List Argument) → has_numbers row ≡ true → takes_given xs ≡ takes_of_row row → passed_by shapes xs ≡ numbers_given xs
numbers_alone shapes NoMore [] plain e = refl
numbers_alone shapes NoMore (NumberArgument z ∷ xs) plain e = absurd (cc)
numbers_alone shapes NoMore (ArrayArgument k ∷ xs) plain e = absurd (cc)
numbers_alone shapes (Then a rest) [] plain e = absurd (cc)
numbers_alone shapes (Then a rest) (NumberArgument z ∷ xs) plain e = ap (λ zs. z ∷ zs) (numbers_alone shapes rest xs plain (ap behind e))
  where
    behind : List Takes → List Takes
    behind [] = []
    behind (x ∷ xs) = xs
numbers_alone shapes (Then a rest) (ArrayArgument k ∷ xs) plain e = absurd (cc)
numbers_alone shapes (Hand a rest) xs plain e = absurd (cc)

-- a statement leaves more in force
pub after_wider : (st : Code) (sc : Scope) → BothScopes (scope_after st sc) sc
after_wider Nothing sc = record { scalars = λ x i. i; arrays = λ x i. i }
after_wider (Seq a b) sc = let f = after_wider a sc in let g = after_wider b (scope_after a sc) in record { scalars = λ x i. g.scalars x (f.scalars x i); arrays = λ x i. g.arrays x (f.arrays x i) }
after_wider Empty sc = record { scalars = λ x i. i; arrays = λ x i. i }
after_wider (Braces a) sc = record { scalars = λ x i. i; arrays = λ x i. i }
after_wider (Clear y) sc = one_more_scalar y sc
after_wider (Declare y e) sc = one_more_scalar y sc
after_wider (ClearArray y) sc = record { scalars = λ x i. i; arrays = λ x i. in_more (nat_eq x y) (is_in x sc.arrays) i }
after_wider (Simply a) sc = record { scalars = λ x i. i; arrays = λ x i. i }
after_wider (Head a) sc = record { scalars = λ x i. i; arrays = λ x i. i }
after_wider (Print f row) sc = record { scalars = λ x i. i; arrays = λ x i. i }
after_wider (If e a) sc = record { scalars = λ x i. i; arrays = λ x i. i }
after_wider (IfElse e a b) sc = record { scalars = λ x i. i; arrays = λ x i. i }
after_wider (While e a) sc = record { scalars = λ x i. i; arrays = λ x i. i }
after_wider (DoWhile a e) sc = record { scalars = λ x i. i; arrays = λ x i. i }
after_wider (For f t s a) sc = record { scalars = λ x i. i; arrays = λ x i. i }
after_wider Break sc = record { scalars = λ x i. i; arrays = λ x i. i }
after_wider Continue sc = record { scalars = λ x i. i; arrays = λ x i. i }
after_wider Return sc = record { scalars = λ x i. i; arrays = λ x i. i }
after_wider (ReturnValue e) sc = record { scalars = λ x i. i; arrays = λ x i. i }

above_scalar : (words : Sees) (x vars : ℕ) (sc : Scope) → x < words.scalars → Above words sc vars → Above words (record sc { scalars = x ∷ sc.scalars }) vars
above_scalar words x vars sc lt b = record { scalars = λ y i. by y i (nat_eq y x) refl; few = b.few; there = b.there; handed = b.handed }
  where
    by : (y : ℕ) → is_in y (x ∷ sc.scalars) ≡ true → (t : Bool) → nat_eq y x ≡ t → y < words.scalars
    by y i true e = let q = eqb-true y x e in omega arith
    by y i false e = b.scalars y (sym (ap (λ t. t || is_in y sc.scalars) e) ∙ i)

above_array : (words : Sees) (a vars : ℕ) (sc : Scope) → a < length words.arrays → Above words sc vars → Above words (record sc { arrays = a ∷ sc.arrays }) vars
above_array words a vars sc lt b = record { scalars = b.scalars; few = b.few; there = λ y i. by y i (nat_eq y a) refl; handed = b.handed }
  where
    by : (y : ℕ) → is_in y (a ∷ sc.arrays) ≡ true → (t : Bool) → nat_eq y a ≡ t → y < length words.arrays
    by y i true e = let q = eqb-true y a e in omega arith
    by y i false e = b.there y (sym (ap (λ t. t || is_in y sc.arrays) e) ∙ i)

module _ (P : Program) (h : Here) (B : List Block) (has : HasBlocks P h B) (tree : TreeProgram) (kept : ℕ → Type 0) (shapes : List ℕ) (words : Sees) (vars : ℕ) where
  abbrev Tie : Scope → Store → State → Type 0
  Tie sc σ s = Tied P.globals (setting_at P h).spot sc kept shapes words σ s

  abbrev Reach : Scope → Block → State → Block → Store → Type 0
  Reach sc p s q σ = Reaches P h B has tree kept shapes words vars sc p s q σ

  -- the graph came to where r is returned
  pub record Comes_out (sc : Scope) (p : Block) (s : State) (r : ℤ) (σ : Store) : Type 0 where
    pub to : State
    pub from : Operand
    pub comes : Comes P h p s (ends (Leave from)) to
    pub holds : held to from ≡ Some r
    pub number : IsNumber r
    pub tied : Tied P.globals (setting_at P h).spot sc kept shapes words σ to

  -- what the ways of leaving a statement say of the graph
  abbrev pub Left : Scope → Scope → Block → State → Block → Block → Block → Leaves → Store → Type 0
  Left after sc p s q out more Falls σ = Reaches P h B has tree kept shapes words vars after p s q σ
  Left after sc p s q out more Breaks σ = Reaches P h B has tree kept shapes words vars sc p s out σ
  Left after sc p s q out more Continues σ = Reaches P h B has tree kept shapes words vars sc p s more σ
  Left after sc p s q out more (Returns r) σ = Comes_out sc p s r σ

  reaches_from : {sc narrow : Scope} {p q r : Block} {s t : State} {σ : Store} → BothScopes sc narrow → Comes P h p s q t → Reach sc q t r σ → Reach narrow p s r σ
  reaches_from {sc} {narrow} {σ = σ} b c g = record { to = g.to; comes = comes_on P h c g.comes; tied = tied_narrow P.globals (setting_at P h).spot kept shapes words sc narrow σ g.to b g.tied }

  out_from : {sc narrow : Scope} {p q : Block} {s t : State} {r : ℤ} {σ : Store} → BothScopes sc narrow → Comes P h p s q t → Comes_out sc q t r σ → Comes_out narrow p s r σ
  out_from {sc} {narrow} {σ = σ} b c g = record { to = g.to; from = g.from; comes = comes_on P h c g.comes; holds = g.holds; number = g.number; tied = tied_narrow P.globals (setting_at P h).spot kept shapes words sc narrow σ g.to b g.tied }

  goes_after : {sc : Scope} {p q r : Block} {s : State} {σ : Store} → Reach sc p s q σ → Goes B r q → Reach sc p s r σ
  goes_after {q = q} {r = r} g e = record { to = g.to; comes = comes_on P h g.comes (comes_goes P h B has r q g.to e); tied = g.tied }

  alike : (sc : Scope) → BothScopes sc sc
  alike sc = record { scalars = λ x i. i; arrays = λ x i. i }

  -- a statement's end, moved
  left_from : (after wide sc : Scope) (p m q r out more : Block) (s t : State) → BothScopes wide sc → Comes P h p s m t → Goes B r q → (l : Leaves) (σ : Store) → Left after wide m t q out more l σ → Left after sc p s r out more l σ
  left_from after wide sc p m q r out more s t b c g Falls σ x = goes_after (reaches_from (alike after) c x) g
  left_from after wide sc p m q r out more s t b c g Breaks σ x = reaches_from b c x
  left_from after wide sc p m q r out more s t b c g Continues σ x = reaches_from b c x
  left_from after wide sc p m q r out more s t b c g (Returns v) σ x = out_from b c x

  narrow_left : (after sc : Scope) (p q out more : Block) (s : State) → BothScopes after sc → (l : Leaves) (σ : Store) → Left after sc p s q out more l σ → Left sc sc p s q out more l σ
  narrow_left after sc p q out more s b Falls σ x = reaches_from b (comes_self P h p s) x
  narrow_left after sc p q out more s b Breaks σ x = x
  narrow_left after sc p q out more s b Continues σ x = x
  narrow_left after sc p q out more s b (Returns v) σ x = x

  -- a statement, and what goes on where it falls
  seq_gives : (n : ℕ) (mid after sc : Scope) (p m q out more : Block) (s : State) (f : Store → Part Leaves) (o : Part Leaves) → Gives P h n p s (Left mid sc p s m out more) o → ((σ : Store) → Reach mid p s m σ → Gives P h n p s (Left after sc p s q out more) (f σ)) → Gives P h n p s (Left after sc p s q out more) (go_on o f)
  seq_gives n mid after sc p m q out more s f (With Falls σ) g k = k σ g
  seq_gives n mid after sc p m q out more s f (With Breaks σ) g k = g
  seq_gives n mid after sc p m q out more s f (With Continues σ) g k = g
  seq_gives n mid after sc p m q out more s f (With (Returns r) σ) g k = g
  seq_gives n mid after sc p m q out more s f (Trapped w o) g k = g
  seq_gives n mid after sc p m q out more s f (Going o) g k = g

  -- a body, and the step behind it
  body_gives : (n : ℕ) (sc : Scope) (p m m' out : Block) (z q more : Block) (s : State) (f : Store → Part Leaves) (o : Part Leaves) → Gives P h n p s (Left sc sc p s m out m') o → Goes B z m → Goes B z m' → ((σ : Store) → Reach sc p s z σ → Gives P h n p s (Left sc sc p s q out more) (f σ)) → Gives P h n p s (Left sc sc p s q out more) (after_body o f)
  body_gives n sc p m m' out z q more s f (With Falls σ) g a b k = k σ (goes_after g a)
  body_gives n sc p m m' out z q more s f (With Breaks σ) g a b k = g
  body_gives n sc p m m' out z q more s f (With Continues σ) g a b k = k σ (goes_after g b)
  body_gives n sc p m m' out z q more s f (With (Returns r) σ) g a b k = g
  body_gives n sc p m m' out z q more s f (Trapped w o) g a b k = g
  body_gives n sc p m m' out z q more s f (Going o) g a b k = g

  -- a turn, and the others: the turn begins later than p at s
  turn_gives : (m n : ℕ) → m ≤ n → (sc : Scope) (p : Block) (s : State) (y again leaves q out more : Block) (u : State) (f : Store → Part Leaves) (o : Part Leaves) → Later P h p s y u → Goes B q leaves → Gives P h n y u (Left sc sc y u again leaves again) o → ((σ : Store) (w : State) → Later P h p s again w → Tie sc σ w → Gives P h m p s (Left sc sc p s q out more) (f σ)) → Gives P h m p s (Left sc sc p s q out more) (after_turn o f)
  turn_gives m n le sc p s y again leaves q out more u f (With Falls σ) c e g k = k σ g.to (on_later P h c g.comes) g.tied
  turn_gives m n le sc p s y again leaves q out more u f (With Breaks σ) c e g k = goes_after (reaches_from (alike sc) (is_later P h c) g) e
  turn_gives m n le sc p s y again leaves q out more u f (With Continues σ) c e g k = k σ g.to (on_later P h c g.comes) g.tied
  turn_gives m n le sc p s y again leaves q out more u f (With (Returns r) σ) c e g k = out_from (alike sc) (is_later P h c) g
  turn_gives m n le sc p s y again leaves q out more u f (Trapped w o) c e g k = λ b. let d = c.by b in let v = g d.0 in let x = d.1 v.0 in (x.0, x.2 ∙ v.1)
  turn_gives m n le sc p s y again leaves q out more u f (Going o) c e g k = λ b. let d = c.by b in let v = g d.0 in let x = d.1 v.0 in let l = x.1 in let r = v.1 in (x.0, omega arith, x.2 ∙ v.2)

  pub above_after : {texts : List (List ℕ)} {st : Code} {p q out more : Block} → Does B words texts vars st p q out more → (sc : Scope) → Above words sc vars → Above words (scope_after st sc) vars
  above_after nothing sc b = b
  above_after (seq x y) sc b = above_after y _ (above_after x sc b)
  above_after empty sc b = b
  above_after (braces x) sc b = b
  above_after (clear {x = x} lt g) sc b = above_scalar words x vars sc lt b
  above_after (declare {x = x} e le lt) sc b = above_scalar words x vars sc lt b
  above_after (clear_array {a = a} lt z) sc b = above_array words a vars sc lt b
  above_after (simply a) sc b = b
  above_after (head a) sc b = b
  above_after (print x le g) sc b = b
  above_after (choose x le d g k) sc b = b
  above_after (choose_else x le d g d2 g2) sc b = b
  above_after (while a b1 c d e f g) sc b = b
  above_after (do_while a b1 c d e f g k l m) sc b = b
  above_after (for f a b1 c d e g k l m r) sc b = b
  above_after (break g) sc b = b
  above_after (continue g) sc b = b
  above_after (return g) sc b = b
  above_after (return_value e le g) sc b = b

  -- a test of a loop, from the jump to its head
  pub record Asked (sc : Scope) (hb : ℕ) (s : State) (one two : Block) (v : ℤ) (σ : Store) : Type 0 where
    pub to : State
    pub later : Later P h (jump hb) s (unless_zero v one two) to
    pub passes : Passes P h (jump hb) s to.out
    pub tied : Tied P.globals (setting_at P h).spot sc kept shapes words σ to

  module _ (n : ℕ) (calls : Calls) (meets : CallsMeet P h B has tree kept shapes words n calls) (fitting : Fitting P h tree shapes words) where
    abbrev Tests : Scope → Block → State → Block → Block → ℕ → ℤ → Store → Type 0
    Tests sc p s one two lo v σ = Chosen P h B has tree kept shapes words n sc p s one two lo v σ

    runs : (sc : Scope) {e : Tree One} {p one two : Block} {lo : ℕ} → Holds B words One e p (Tested one two) lo → suits tree sc e ≡ true → Above words sc vars → vars ≤ lo → (σ : Store) (s : State) → Tie sc σ s → Gives P h n p s (Tests sc p s one two lo) (value (setting_at P h).spot calls e σ)
    runs sc x fit above le σ s tied = value_runs P h B has tree kept shapes words vars n calls meets fitting sc x fit above le σ s tied

    -- a condition, and then either part
    chooses : (sc after : Scope) {e : Tree One} {p one two : Block} {lo : ℕ} (q out more : Block) → Holds B words One e p (Tested one two) lo → suits tree sc e ≡ true → Above words sc vars → vars ≤ lo → (σ : Store) (s : State) → Tie sc σ s → (f g : Store → Part Leaves) → ((σ1 : Store) (u : State) → Comes P h p s one u → Tie sc σ1 u → Gives P h n p s (Left after sc p s q out more) (f σ1)) → ((σ1 : Store) (u : State) → Comes P h p s two u → Tie sc σ1 u → Gives P h n p s (Left after sc p s q out more) (g σ1)) → Gives P h n p s (Left after sc p s q out more) (tests (value (setting_at P h).spot calls e σ) f g)
    chooses sc after {e} {p} {one} {two} {lo} q out more x fit above le σ s tied f g yes_case no_case =
        bind P h n p p s s (Tests sc p s one two lo) (Left after sc p s q out more) _ (comes_self P h p s) (value (setting_at P h).spot calls e σ) (runs sc x fit above le σ s tied) (λ v σ1 g1.
        choose_way P h B has tree kept shapes words n v (f σ1) (g σ1) p one two s g1.to (Left after sc p s q out more) g1.comes (λ c. yes_case σ1 g1.to c g1.tied) (λ c. no_case σ1 g1.to c g1.tied))

    asks_run : {test : Option (Tree One)} {top one two : Block} → Asks B words vars test top one two → (sc : Scope) (hb : ℕ) → slice_get B hb ≡ Some top → suits_test tree sc test ≡ true → Above words sc vars → (σ : Store) (s : State) → Tie sc σ s → Gives P h n (jump hb) s (Asked sc hb s one two) (test_of (setting_at P h).spot calls test σ)
    asks_run (always {p = p} {yes = one} {no = two} g) sc hb at fit above σ s tied = record {
      to = s;
      later = on_later P h (later_jump P h B has (jump hb) p hb s (same refl) at) (comes_goes P h B has one p s g);
      passes = passes_jump P h B has (jump hb) hb s (same refl);
      tied = tied;
    }
    asks_run (asks {e = e} {p = p} {yes = one} {no = two} {lo = lo} x le) sc hb at fit above σ s tied =
        let l = later_jump P h B has (jump hb) p hb s (same refl) at in
        shift P h n (jump hb) p s s (Tests sc p s one two lo) (Asked sc hb s one two) (is_later P h l) (value (setting_at P h).spot calls e σ) (runs sc x fit above le σ s tied) (λ v σ1 g1. record {
          to = g1.to;
          later = on_later P h l g1.comes;
          passes = passes_on P h (is_later P h l) g1.passes;
          tied = g1.tied;
        })

    -- the way that a test of a loop chose
    asked_way : {A : Type 0} (m : ℕ) (sc : Scope) (hb : ℕ) (s u : State) (one two : Block) (Better : A → Store → Type 0) (v : ℤ) (a b : Part A) → Later P h (jump hb) s (unless_zero v one two) u → (Later P h (jump hb) s one u → Gives P h m (jump hb) s Better a) → (Later P h (jump hb) s two u → Gives P h m (jump hb) s Better b) → Gives P h m (jump hb) s Better (unless_zero v a b)
    asked_way m sc hb s u one two Better (pos zero) a b l f g = g l
    asked_way m sc hb s u one two Better (pos (suc k)) a b l f g = f l
    asked_way m sc hb s u one two Better (negsuc k) a b l f g = f l

    -- at most m turns, each with its test before it, from the jump to the head on
    loop_runs : (sc : Scope) (test : Store → Part ℤ) (hb : ℕ) (one two leaves q out more : Block) → ((σ : Store) (s : State) → Tie sc σ s → Gives P h n (jump hb) s (Asked sc hb s one two) (test σ)) → Goes B q two → Goes B q leaves → (turn : Store → Part Leaves) → ((σ : Store) (u : State) → Tie sc σ u → Gives P h n one u (Left sc sc one u (jump hb) leaves (jump hb)) (turn σ)) → (m : ℕ) → m ≤ n → (σ : Store) (s : State) → Tie sc σ s → Gives P h m (jump hb) s (Left sc sc (jump hb) s q out more) (turns m test turn σ)
    loop_runs sc test hb one two leaves q out more asked gq gl turn turns_well zero le σ s tied =
        bind P h 0 (jump hb) (jump hb) s s (Asked sc hb s one two) (Left sc sc (jump hb) s q out more) (λ v σ1. unless_zero v (Going σ1.out) (With Falls σ1)) (comes_self P h (jump hb) s) (test σ) (fewer P h 0 n (jump hb) s (Asked sc hb s one two) (test σ) le (asked σ s tied)) (λ v σ1 g1.
        asked_way 0 sc hb s g1.to one two (Left sc sc (jump hb) s q out more) v (Going σ1.out) (With Falls σ1) g1.later
        (λ l. goes_on P h (jump hb) s (Left sc sc (jump hb) s q out more) σ1.out (subst (λ o. Passes P h (jump hb) s o) g1.tied.out g1.passes))
        (λ l. record { to = g1.to; comes = comes_on P h (is_later P h l) (comes_goes P h B has q two g1.to gq); tied = g1.tied }))
    loop_runs sc test hb one two leaves q out more asked gq gl turn turns_well (suc m) le σ s tied =
        let few : m ≤ n = omega arith in
        bind P h (suc m) (jump hb) (jump hb) s s (Asked sc hb s one two) (Left sc sc (jump hb) s q out more) (λ v σ1. unless_zero v (after_turn (turn σ1) (turns m test turn)) (With Falls σ1)) (comes_self P h (jump hb) s) (test σ) (fewer P h (suc m) n (jump hb) s (Asked sc hb s one two) (test σ) le (asked σ s tied)) (λ v σ1 g1.
        asked_way (suc m) sc hb s g1.to one two (Left sc sc (jump hb) s q out more) v (after_turn (turn σ1) (turns m test turn)) (With Falls σ1) g1.later
        (λ l. turn_gives (suc m) n le sc (jump hb) s one (jump hb) leaves q out more g1.to (turns m test turn) (turn σ1) l gl (turns_well σ1 g1.to g1.tied) (λ σ2 w l2 t2.
        one_more P h m (jump hb) (jump hb) s w (Left sc sc (jump hb) w q out more) (Left sc sc (jump hb) s q out more) (turns m test turn σ2) l2 (loop_runs sc test hb one two leaves q out more asked gq gl turn turns_well m few σ2 w t2) (left_from sc sc sc (jump hb) (jump hb) q q out more s w (alike sc) (is_later P h l2) (same refl))))
        (λ l. record { to = g1.to; comes = comes_on P h (is_later P h l) (comes_goes P h B has q two g1.to gq); tied = g1.tied }))

    -- at most m turns, each with its test behind it
    first_runs : (sc : Scope) (e : Tree One) (hb : ℕ) (top z one two leaves q out more : Block) {lo : ℕ} → slice_get B hb ≡ Some top → Holds B words One e z (Tested one two) lo → suits tree sc e ≡ true → Above words sc vars → vars ≤ lo → Goes B (jump hb) one → Goes B q two → Goes B q leaves → (turn : Store → Part Leaves) → ((σ : Store) (u : State) → Tie sc σ u → Gives P h n top u (Left sc sc top u z leaves z) (turn σ)) → (m : ℕ) → m ≤ n → (σ : Store) (s : State) → Tie sc σ s → Gives P h m (jump hb) s (Left sc sc (jump hb) s q out more) (turns_first m (value (setting_at P h).spot calls e) turn σ)
    first_runs sc e hb top z one two leaves q out more at x fit above lv g1 gq gl turn turns_well zero le σ s tied = goes_on P h (jump hb) s (Left sc sc (jump hb) s q out more) σ.out (subst (λ o. Passes P h (jump hb) s o) tied.out (passes_jump P h B has (jump hb) hb s (same refl)))
    first_runs sc e hb top z one two leaves q out more {lo} at x fit above lv gy gq gl turn turns_well (suc m) le σ s tied =
        let few : m ≤ n = omega arith in
        turn_gives (suc m) n le sc (jump hb) s top z leaves q out more s (λ t. tests (value (setting_at P h).spot calls e t) (turns_first m (value (setting_at P h).spot calls e) turn) (λ u. With Falls u)) (turn σ) (later_jump P h B has (jump hb) top hb s (same refl) at) gl (turns_well σ s tied) (λ σ1 w l t1.
        bind P h (suc m) (jump hb) z s w (Tests sc z w one two lo) (Left sc sc (jump hb) s q out more) _ (is_later P h l) (value (setting_at P h).spot calls e σ1) (fewer P h (suc m) n z w (Tests sc z w one two lo) (value (setting_at P h).spot calls e σ1) le (runs sc x fit above lv σ1 w t1)) (λ v σ2 g2.
        asked_way (suc m) sc hb s g2.to one two (Left sc sc (jump hb) s q out more) v (turns_first m (value (setting_at P h).spot calls e) turn σ2) (With Falls σ2) (on_later P h l g2.comes)
        (λ l2. let l3 = on_later P h l2 (comes_goes P h B has (jump hb) one g2.to gy) in
        one_more P h m (jump hb) (jump hb) s g2.to (Left sc sc (jump hb) g2.to q out more) (Left sc sc (jump hb) s q out more) (turns_first m (value (setting_at P h).spot calls e) turn σ2) l3 (first_runs sc e hb top z one two leaves q out more at x fit above lv gy gq gl turn turns_well m few σ2 g2.to g2.tied) (left_from sc sc sc (jump hb) (jump hb) q q out more s g2.to (alike sc) (is_later P h l3) (same refl)))
        (λ l2. record { to = g2.to; comes = comes_on P h (is_later P h l2) (comes_goes P h B has q two g2.to gq); tied = g2.tied })))

    stays_left : (after sc : Scope) (p q out more : Block) (s : State) → (l : Leaves) (σ : Store) → Stays P h B has tree kept shapes words vars n calls meets fitting sc p s q l σ → Left sc sc p s q out more l σ
    stays_left after sc p q out more s Falls σ x = x
    stays_left after sc p q out more s Breaks σ x = absurd x
    stays_left after sc p q out more s Continues σ x = absurd x
    stays_left after sc p q out more s (Returns v) σ x = absurd x

    returns_suit : (gives : GivesBack) (loops : Bool) (sc : Scope) (e : Tree One) → suits_code tree gives loops sc (ReturnValue e) ≡ true → suits tree sc e ≡ true
    returns_suit GivesInt loops sc e fit = fit
    returns_suit GivesNothing loops sc e fit = absurd (cc)

    -- a body in its own scope
    inside : (sc : Scope) (a : Code) (p q out more : Block) (s : State) (o : Part Leaves) → Gives P h n p s (Left (scope_after a sc) sc p s q out more) o → Gives P h n p s (Left sc sc p s q out more) o
    inside sc a p q out more s o g = shift P h n p p s s (Left (scope_after a sc) sc p s q out more) (Left sc sc p s q out more) (comes_self P h p s) o g (narrow_left (scope_after a sc) sc p q out more s (after_wider a sc))

    pub stmt_runs : {st : Code} {p q out more : Block} → Does B words P.texts vars st p q out more → (sc : Scope) (gives : GivesBack) (loops : Bool) → suits_code tree gives loops sc st ≡ true → Above words sc vars → (σ : Store) (s : State) → Tie sc σ s → Gives P h n p s (Left (scope_after st sc) sc p s q out more) (does (setting_at P h).spot calls n st σ)
    stmt_runs (nothing {p = p}) sc gives loops fit above σ s tied = record { to = s; comes = comes_self P h p s; tied = tied }
    stmt_runs (seq {a = a} {b = b} {p = p} {m = m} {q = q} {out = out} {more = more} x y) sc gives loops fit above σ s tied =
        let sc1 = scope_after a sc in
        seq_gives n sc1 (scope_after b sc1) sc p m q out more s (does (setting_at P h).spot calls n b) (does (setting_at P h).spot calls n a σ) (stmt_runs x sc gives loops (and_one (suits_code tree gives loops sc a) (suits_code tree gives loops sc1 b) fit) above σ s tied) (λ σ1 g1.
        shift P h n p m s g1.to (Left (scope_after b sc1) sc1 m g1.to q out more) (Left (scope_after b sc1) sc p s q out more) g1.comes (does (setting_at P h).spot calls n b σ1) (stmt_runs y sc1 gives loops (and_two (suits_code tree gives loops sc a) (suits_code tree gives loops sc1 b) fit) (above_after x sc above) σ1 g1.to g1.tied) (left_from (scope_after b sc1) sc1 sc p m q q out more s g1.to (after_wider a sc) g1.comes (same refl)))
    stmt_runs (empty {p = p}) sc gives loops fit above σ s tied = record { to = s; comes = comes_self P h p s; tied = tied }
    stmt_runs (braces {a = a} {p = p} {q = q} {out = out} {more = more} x) sc gives loops fit above σ s tied = inside sc a p q out more s (does (setting_at P h).spot calls n a σ) (stmt_runs x sc gives loops fit above σ s tied)
    stmt_runs (clear {x = x} {p = p} {q = q} lt g) sc gives loops fit above σ s tied = record {
      to = with_value s x (Some (pos 0));
      comes = comes_past P h B has (Compute Mov x (Number (pos 0)) (Number (pos 0))) p q s (with_value s x (Some (pos 0))) g refl;
      tied = tied_scalar P.globals (setting_at P h).spot kept shapes words sc vars x σ s (pos 0) above lt zero_fits tied;
    }
    stmt_runs (declare {x = x} {lo = lo} {e = e} {p = p} {q = q} {out = out} {more = more} y le lt) sc gives loops fit above σ s tied =
        bind P h n p p s s (Landed P h B has tree kept shapes words n sc p s x q lo) (Left (record sc { scalars = x ∷ sc.scalars }) sc p s q out more) _ (comes_self P h p s) (value (setting_at P h).spot calls e σ) (value_runs P h B has tree kept shapes words vars n calls meets fitting sc y fit above le σ s tied) (λ v σ1 g1. sets P h B has tree kept shapes words vars n calls meets fitting sc p s x q lo v σ1 above lt g1)
    stmt_runs (clear_array {a = a} {p = p} {q = q} lt z) sc gives loops fit above σ s tied =
        let size = slice_index_or shapes ((setting_at P h).spot a) 0 in
        let size_is = words_of_row P.globals (setting_at P h).spot kept shapes words sc σ s ((setting_at P h).spot a) tied in
        let w = zeroes_run P h B has vars a size (size_at words a) p q z s.arrays size_is (fitting.small ((setting_at P h).spot a)) s (λ u k. held_kept vars s u (size_at words a) k (size_below words sc vars a above) ∙ held_size words (setting_at P h).spot shapes s a fitting.sized tied.handed) refl in
        record {
          to = w.to;
          comes = w.comes;
          tied = tied_zeroed P.globals (setting_at P h).spot sc kept shapes words a size vars σ s w.to above tied refl w.keeps w.arrays w.input w.out;
        }
    stmt_runs (simply {a = a} {p = p} {q = q} {out = out} {more = more} x) sc gives loops fit above σ s tied =
        shift P h n p p s s (Stays P h B has tree kept shapes words vars n calls meets fitting sc p s q) (Left sc sc p s q out more) (comes_self P h p s) (acts (setting_at P h).spot calls a σ) (acts_run P h B has tree kept shapes words vars n calls meets fitting x sc fit above σ s tied) (stays_left sc sc p q out more s)
    stmt_runs (head {a = a} {p = p} {q = q} {out = out} {more = more} x) sc gives loops fit above σ s tied =
        shift P h n p p s s (Stays P h B has tree kept shapes words vars n calls meets fitting sc p s q) (Left sc sc p s q out more) (comes_self P h p s) (acts (setting_at P h).spot calls a σ) (acts_run P h B has tree kept shapes words vars n calls meets fitting x sc fit above σ s tied) (stays_left sc sc p q out more s)
    stmt_runs (print {format = format} {row = row} {os = os} {p = p} {m = m} {q = q} {out = out} {more = more} {lo = lo} x le y) sc gives loops fit above σ s tied =
        let first = and_one (is_format format && (nat_eq (numbers_of format) (row_length row) && has_numbers row)) (suits tree sc row) fit in
        let plain = and_two (nat_eq (numbers_of format) (row_length row)) (has_numbers row) (and_two (is_format format) (nat_eq (numbers_of format) (row_length row) && has_numbers row) first) in
        bind_with P h n p p s s (Gained P h B has tree kept shapes words n sc p s m os lo Row) (λ xs u. takes_given xs ≡ takes_of_row row) (Left sc sc p s q out more) _ (comes_self P h p s) (value (setting_at P h).spot calls row σ) (row_takes (setting_at P h).spot calls row σ) (value_runs P h B has tree kept shapes words vars n calls meets fitting sc x (and_two (is_format format && (nat_eq (numbers_of format) (row_length row) && has_numbers row)) (suits tree sc row) fit) above le σ s tied) (λ xs σ1 kinds g1.
        let r = shows_run P h B has tree kept shapes words vars sc y (numbers_given xs) σ1 g1.to (g1.holds ∙ ap (map Some) (numbers_alone shapes row xs plain kinds)) g1.tied in
        record { to = r.to; comes = comes_on P h g1.comes r.comes; tied = r.tied })
    stmt_runs (choose {e = e} {a = a} {p = p} {yes = yb} {no = nb} {m = m} {q = q} {out = out} {more = more} x le da ga gb) sc gives loops fit above σ s tied =
        chooses sc sc q out more x (and_one (suits tree sc e) (suits_code tree gives loops sc a) fit) above le σ s tied (does (setting_at P h).spot calls n a) (λ t. With Falls t)
        (λ σ1 u c t1. shift P h n p yb s u (Left sc sc yb u m out more) (Left sc sc p s q out more) c (does (setting_at P h).spot calls n a σ1) (inside sc a yb m out more u (does (setting_at P h).spot calls n a σ1) (stmt_runs da sc gives loops (and_two (suits tree sc e) (suits_code tree gives loops sc a) fit) above σ1 u t1)) (left_from sc sc sc p yb m q out more s u (alike sc) c ga))
        (λ σ1 u c t1. record { to = u; comes = comes_on P h c (comes_goes P h B has q nb u gb); tied = t1 })
    stmt_runs (choose_else {e = e} {a = a} {b = b} {p = p} {yes = yb} {no = nb} {m = m} {n = z} {q = q} {out = out} {more = more} x le da ga db gb) sc gives loops fit above σ s tied =
        let fit2 = and_two (suits tree sc e) (suits_code tree gives loops sc a && suits_code tree gives loops sc b) fit in
        chooses sc sc q out more x (and_one (suits tree sc e) (suits_code tree gives loops sc a && suits_code tree gives loops sc b) fit) above le σ s tied (does (setting_at P h).spot calls n a) (does (setting_at P h).spot calls n b)
        (λ σ1 u c t1. shift P h n p yb s u (Left sc sc yb u m out more) (Left sc sc p s q out more) c (does (setting_at P h).spot calls n a σ1) (inside sc a yb m out more u (does (setting_at P h).spot calls n a σ1) (stmt_runs da sc gives loops (and_one (suits_code tree gives loops sc a) (suits_code tree gives loops sc b) fit2) above σ1 u t1)) (left_from sc sc sc p yb m q out more s u (alike sc) c ga))
        (λ σ1 u c t1. shift P h n p nb s u (Left sc sc nb u z out more) (Left sc sc p s q out more) c (does (setting_at P h).spot calls n b σ1) (inside sc b nb z out more u (does (setting_at P h).spot calls n b σ1) (stmt_runs db sc gives loops (and_two (suits_code tree gives loops sc a) (suits_code tree gives loops sc b) fit2) above σ1 u t1)) (left_from sc sc sc p nb z q out more s u (alike sc) c gb))
    stmt_runs (while {e = e} {a = a} {h = hb} {p = p} {head = top} {yes = yb} {no = nb} {m = m} {leaves = leaves} {q = q} {out = out} {more = more} g at x da gm gq gl) sc gives loops fit above σ s tied =
        let fit1 = and_one (suits tree sc e) (suits_code tree gives true sc a) fit in
        let fit2 = and_two (suits tree sc e) (suits_code tree gives true sc a) fit in
        shift P h n p (jump hb) s s (Left sc sc (jump hb) s q out more) (Left sc sc p s q out more) (comes_goes P h B has (jump hb) p s g) (does (setting_at P h).spot calls n (While e a) σ)
        (loop_runs sc (value (setting_at P h).spot calls e) hb yb nb leaves q out more (λ σ1 u t1. asks_run x sc hb at fit1 above σ1 u t1) gq gl (does (setting_at P h).spot calls n a) (λ σ1 u t1.
        shift P h n yb yb u u (Left sc sc yb u m leaves (jump hb)) (Left sc sc yb u (jump hb) leaves (jump hb)) (comes_self P h yb u) (does (setting_at P h).spot calls n a σ1) (inside sc a yb m leaves (jump hb) u (does (setting_at P h).spot calls n a σ1) (stmt_runs da sc gives true fit2 above σ1 u t1)) (left_from sc sc sc yb yb m (jump hb) leaves (jump hb) u u (alike sc) (comes_self P h yb u) gm)) n (omega arith) σ s tied)
        (left_from sc sc sc p (jump hb) q q out more s s (alike sc) (comes_goes P h B has (jump hb) p s g) (same refl))
    stmt_runs (do_while {e = e} {a = a} {h = hb} {lo = lo} {p = p} {head = top} {m = m} {z = z} {yes = yb} {no = nb} {leaves = leaves} {again = again} {q = q} {out = out} {more = more} g at da gm ga x le gy gq gl) sc gives loops fit above σ s tied =
        let fit1 = and_one (suits_code tree gives true sc a) (suits tree sc e) fit in
        let fit2 = and_two (suits_code tree gives true sc a) (suits tree sc e) fit in
        shift P h n p (jump hb) s s (Left sc sc (jump hb) s q out more) (Left sc sc p s q out more) (comes_goes P h B has (jump hb) p s g) (does (setting_at P h).spot calls n (DoWhile a e) σ)
        (first_runs sc e hb top z yb nb leaves q out more at x fit2 above le gy gq gl (does (setting_at P h).spot calls n a) (λ σ1 u t1.
        shift P h n top top u u (Left sc sc top u m leaves again) (Left sc sc top u z leaves z) (comes_self P h top u) (does (setting_at P h).spot calls n a σ1) (inside sc a top m leaves again u (does (setting_at P h).spot calls n a σ1) (stmt_runs da sc gives true fit1 above σ1 u t1)) (to_test sc top m z leaves again u gm ga)) n (omega arith) σ s tied)
        (left_from sc sc sc p (jump hb) q q out more s s (alike sc) (comes_goes P h B has (jump hb) p s g) (same refl))
      where
        to_test : (sc : Scope) (top m z leaves again : Block) (u : State) → Goes B z m → Goes B z again → (l : Leaves) (σ1 : Store) → Left sc sc top u m leaves again l σ1 → Left sc sc top u z leaves z l σ1
        to_test sc top m z leaves again u gm ga Falls σ1 y = goes_after y gm
        to_test sc top m z leaves again u gm ga Breaks σ1 y = y
        to_test sc top m z leaves again u gm ga Continues σ1 y = goes_after y ga
        to_test sc top m z leaves again u gm ga (Returns v) σ1 y = y
    stmt_runs (for {first = first} {step = step} {a = a} {test = test} {h = hb} {p = p} {s = sb} {head = top} {yes = yb} {no = nb} {m = m} {z = z} {n = e} {leaves = leaves} {again = again} {q = q} {out = out} {more = more} df g at x da gm ga ds ge gq gl) sc gives loops fit above σ s tied =
        let sc1 = scope_after first sc in
        let above1 = above_after df sc above in
        let fit1 = and_one (suits_code tree gives loops sc first) (suits_test tree sc1 test && (suits_code tree gives loops sc1 step && suits_code tree gives true sc1 a)) fit in
        let rest = and_two (suits_code tree gives loops sc first) (suits_test tree sc1 test && (suits_code tree gives loops sc1 step && suits_code tree gives true sc1 a)) fit in
        let fit2 = and_one (suits_test tree sc1 test) (suits_code tree gives loops sc1 step && suits_code tree gives true sc1 a) rest in
        let last = and_two (suits_test tree sc1 test) (suits_code tree gives loops sc1 step && suits_code tree gives true sc1 a) rest in
        let fit3 = and_one (suits_code tree gives loops sc1 step) (suits_code tree gives true sc1 a) last in
        let fit4 = and_two (suits_code tree gives loops sc1 step) (suits_code tree gives true sc1 a) last in
        let turn = λ (σ1 : Store). after_body (does (setting_at P h).spot calls n a σ1) (does (setting_at P h).spot calls n step) in
        seq_gives n sc1 sc sc p sb q out more s (turns n (test_of (setting_at P h).spot calls test) turn) (does (setting_at P h).spot calls n first σ) (stmt_runs df sc gives loops fit1 above σ s tied) (λ σ0 g0.
        let came = comes_on P h g0.comes (comes_goes P h B has (jump hb) sb g0.to g) in
        shift P h n p (jump hb) s g0.to (Left sc1 sc1 (jump hb) g0.to q out more) (Left sc sc p s q out more) came (turns n (test_of (setting_at P h).spot calls test) turn σ0)
        (loop_runs sc1 (test_of (setting_at P h).spot calls test) hb yb nb leaves q out more (λ σ1 u t1. asks_run x sc1 hb at fit2 above1 σ1 u t1) gq gl turn (λ σ1 u t1.
        body_gives n sc1 yb m again leaves z (jump hb) (jump hb) u (does (setting_at P h).spot calls n step) (does (setting_at P h).spot calls n a σ1) (inside sc1 a yb m leaves again u (does (setting_at P h).spot calls n a σ1) (stmt_runs da sc1 gives true fit4 above1 σ1 u t1)) gm ga (λ σ2 g2.
        shift P h n yb z u g2.to (Left sc1 sc1 z g2.to e leaves (jump hb)) (Left sc1 sc1 yb u (jump hb) leaves (jump hb)) g2.comes (does (setting_at P h).spot calls n step σ2) (inside sc1 step z e leaves (jump hb) g2.to (does (setting_at P h).spot calls n step σ2) (stmt_runs ds sc1 gives loops fit3 above1 σ2 g2.to g2.tied)) (left_from sc1 sc1 sc1 yb z e (jump hb) leaves (jump hb) u g2.to (alike sc1) g2.comes ge))) n (omega arith) σ0 g0.to g0.tied)
        (both_narrow first sc p (jump hb) q out more s g0.to came))
      where
        both_narrow : (first : Code) (sc : Scope) (p m q out more : Block) (s t : State) → Comes P h p s m t → (l : Leaves) (σ1 : Store) → Left (scope_after first sc) (scope_after first sc) m t q out more l σ1 → Left sc sc p s q out more l σ1
        both_narrow first sc p m q out more s t c Falls σ1 y = reaches_from (after_wider first sc) c y
        both_narrow first sc p m q out more s t c Breaks σ1 y = reaches_from (after_wider first sc) c y
        both_narrow first sc p m q out more s t c Continues σ1 y = reaches_from (after_wider first sc) c y
        both_narrow first sc p m q out more s t c (Returns v) σ1 y = out_from (after_wider first sc) c y
    stmt_runs (break {p = p} {out = out} g) sc gives loops fit above σ s tied = record { to = s; comes = comes_goes P h B has out p s g; tied = tied }
    stmt_runs (continue {p = p} {more = more} g) sc gives loops fit above σ s tied = record { to = s; comes = comes_goes P h B has more p s g; tied = tied }
    stmt_runs (return {p = p} g) sc gives loops fit above σ s tied = record { to = s; from = Number (pos 0); comes = comes_goes P h B has (ends (Leave (Number (pos 0)))) p s g; holds = refl; number = zero_fits; tied = tied }
    stmt_runs (return_value {e = e} {o = o} {p = p} {m = m} {q = q} {out = out} {more = more} {lo = lo} x le g) sc gives loops fit above σ s tied =
        bind P h n p p s s (Gained P h B has tree kept shapes words n sc p s m (o ∷ []) lo One) (Left sc sc p s q out more) _ (comes_self P h p s) (value (setting_at P h).spot calls e σ) (value_runs P h B has tree kept shapes words vars n calls meets fitting sc x (returns_suit gives loops sc e fit) above le σ s tied) (λ v σ1 g1. record { to = g1.to; from = o; comes = comes_on P h g1.comes (comes_goes P h B has (ends (Leave o)) m g1.to g); holds = ap head_of g1.holds; number = g1.number; tied = g1.tied })
