-- The graph follows a simple statement, and prints what a format says.
use Rattle.std.proofs.Common.{◌≡◌, ℕ, ◌<◌, ◌≤◌, ℤ, pos, Bool, true, false, ◌||◌, List, [], ◌∷◌, ◌++◌, map, slice_index_or, Some, None, refl, sym, ap, ◌∙◌, subst, inl, inr, arith, append_assoc, append-nil}
use Rattle.std.specs.Prelude.{nat_eq, slice_get}
use Rattle.std.specs.Fmt.{signed_decimal}
use Rattle.std.proofs.lemmas.Option.{get_or_from_slice_get}
use Rattle.vx_base.specs.Arithmetic.{IsNumber, product_of, sum_of, difference_of}
use Rattle.vx_base.specs.declared.arithmetic.Code.TheVariants.{Add, Sub}
use Rattle.vx_base.proofs.ArithmeticLaws.{value_fits_law}
use Rattle.vx_ast.specs.Tree.{Shape, One, Row, Tree, Literal, Local, Global, Element, Unary, Binary, Both, Either, Choice, Apply, ReadInt, MoreInput, Place, InLocal, InGlobal, InElement, Action, Program as TreeProgram}
use Rattle.vx_ast.specs.Meaning.{Store, Part, With, Leaves, Falls, Breaks, Continues, Returns, and_then, Calls, Result, value, combined, changes, acts, with_scalar, with_word, word_at, Piece, AByte, printed, prints}
use Rattle.vx_ast.specs.Accepted.{Scope, is_in, suits, suits_place, suits_whole, suits_action, takes_of_row, can_call, is_scalar, names_array}
use Rattle.vx_flow.specs.declared.graph.Operand.{Operand}
use Rattle.vx_flow.specs.declared.graph.Operand.TheVariants.{Held, Number, Stack}
use Rattle.vx_flow.specs.declared.graph.Op.TheVariants.{Compute, Load, Store as Keep, Text, Decimal}
use Rattle.vx_flow.specs.declared.graph.Exit.TheVariants.{Call}
use Rattle.vx_flow.specs.declared.graph.Block.{Block}
use Rattle.vx_flow.specs.Effects.{Content, State, held, with_value, with_cell, printed as shown}
use Rattle.vx_flow.specs.Meaning.{Program, known}
use Rattle.vx_lower.specs.Holds.{Goes, IsBelow, Way, To, Holds, then_op, ends}
use Rattle.vx_lower.specs.Does.{is_call, Change, By, Up, Down, action_of, Changes, by, up, down, Acts, evaluate, call, assign_local, assign_global, assign_element, change_local, change_global, change_element, Shows, done, number, bytes}
use Rattle.vx_lower.proofs.Base.{and_one, and_two, four_times, SameRow}
use Rattle.vx_lower.proofs.Steps.{Here, setting_at, HasBlocks, Comes, comes_self, comes_on, comes_goes, comes_past, Gives, bind, bind_with, shift}
use Rattle.vx_lower.specs.Seen.{Sees}
use Rattle.vx_lower.proofs.Ties.{InForce, Above, above_on, Tied, held_kept, below_on, keeps_value, value_there, computes, known_all, tied_value, tied_scalar, tied_word, row_length as words_of_row, loads, stores}
use Rattle.vx_lower.proofs.Values.{takes_given, passed_by, head_of, one_fits, Fitting, Landed, Good, Came_back, CallsMeet, land, combines, checks}
use Rattle.vx_lower.proofs.Exprs.{row_takes, expr_runs}

pub record BothScopes (wide narrow : Scope) : Type 0 where
  pub scalars : (x : ℕ) → is_in x narrow.scalars ≡ true → is_in x wide.scalars ≡ true
  pub arrays : (a : ℕ) → is_in a narrow.arrays ≡ true → is_in a wide.arrays ≡ true

pub in_more : (t b : Bool) → b ≡ true → (t || b) ≡ true
in_more true b e = refl
in_more false b e = e

pub one_more_scalar : (x : ℕ) (sc : Scope) → BothScopes (record sc { scalars = x ∷ sc.scalars }) sc
one_more_scalar x sc = record { scalars = λ y i. in_more (nat_eq y x) (is_in y sc.scalars) i; arrays = λ a i. i }

pub tied_narrow : (globals : ℕ) (spot : ℕ → ℕ) (kept : ℕ → Type 0) (shapes : List ℕ) (words : Sees) (wide narrow : Scope) (σ : Store) (s : State) → BothScopes wide narrow → Tied globals spot wide kept shapes words σ s → Tied globals spot narrow kept shapes words σ s
tied_narrow globals spot kept shapes words wide narrow σ s b tied = record {
  scalars = λ x i. tied.scalars x (b.scalars x i);
  handed = tied.handed;
  own = owns;
  others = tied.others;
  shape = tied.shape;
  source_shape = tied.source_shape;
  input = tied.input;
  out = tied.out;
  ranges = tied.ranges;
}
  where
    owns : (a : ℕ) → InForce globals narrow a → SameRow σ.arrays s.arrays (spot a)
    owns a (inl l) = tied.own a (inl l)
    owns a (inr i) = tied.own a (inr (b.arrays a i))

abbrev new_of : (ℕ → ℕ) → Calls → Change → ℤ → Store → Part ℤ
new_of spot calls (By operator e) old σ = and_then (value spot calls e σ) (λ v u. combined operator old v u)
new_of spot calls Up old σ = With (sum_of old (pos 1)) σ
new_of spot calls Down old σ = With (difference_of old (pos 1)) σ

acts_as : (spot : ℕ → ℕ) (calls : Calls) (target : Place) (c : Change) (σ : Store) → changes spot calls target (new_of spot calls c) σ ≡ acts spot calls (action_of target c) σ
acts_as spot calls target (By operator e) σ = refl
acts_as spot calls target Up σ = refl
acts_as spot calls target Down σ = refl

abbrev SuitsChange : TreeProgram → Scope → Change → Type 0
SuitsChange tree sc (By operator e) = suits tree sc e ≡ true
SuitsChange tree sc Up = Unit {0}
SuitsChange tree sc Down = Unit {0}

suits_change : (tree : TreeProgram) (sc : Scope) (target : Place) (c : Change) → suits_action tree sc (action_of target c) ≡ true → (suits_place tree sc target ≡ true) × SuitsChange tree sc c
suits_change tree sc target (By operator e) fit = (and_one (suits_place tree sc target) (suits tree sc e) fit, and_two (suits_place tree sc target) (suits tree sc e) fit)
suits_change tree sc target Up fit = (fit, tt)
suits_change tree sc target Down fit = (fit, tt)

printed_bytes : (text : List ℕ) (pieces : List Piece) (xs : List ℤ) → printed (map AByte text ++ pieces) xs ≡ text ++ printed pieces xs
printed_bytes [] pieces xs = refl
printed_bytes (b ∷ text) pieces xs = ap (λ z. b ∷ z) (printed_bytes text pieces xs)

same_held : (s : State) (text : List ℕ) (os : List Operand) → map (held (record s { out = text })) os ≡ map (held s) os
same_held s text [] = refl
same_held s text (o ∷ os) = ap (λ z. z ∷ map (held (record s { out = text })) os) (by o) ∙ ap (λ zs. held s o ∷ zs) (same_held s text os)
  where
    by : (o : Operand) → held (record s { out = text }) o ≡ held s o
    by (Held x) = refl
    by (Number z) = refl
    by Stack = refl

whole_suits : (tree : TreeProgram) (sc : Scope) (e : Tree One) → is_call e ≡ false → suits_whole tree sc e ≡ suits tree sc e
whole_suits tree sc (Literal z) n = refl
whole_suits tree sc (Local x) n = refl
whole_suits tree sc (Global a) n = refl
whole_suits tree sc (Element a i) n = refl
whole_suits tree sc (Unary operator a) n = refl
whole_suits tree sc (Binary operator a b) n = refl
whole_suits tree sc (Both a b) n = refl
whole_suits tree sc (Either a b) n = refl
whole_suits tree sc (Choice c a b) n = refl
whole_suits tree sc (Apply f row) n = absurd (cc)
whole_suits tree sc ReadInt n = refl
whole_suits tree sc MoreInput n = refl

module _ (P : Program) (h : Here) (B : List Block) (has : HasBlocks P h B) (tree : TreeProgram) (kept : ℕ → Type 0) (shapes : List ℕ) (words : Sees) (vars : ℕ) where
  abbrev Tie : Scope → Store → State → Type 0
  Tie sc σ s = Tied P.globals (setting_at P h).spot sc kept shapes words σ s

  pub record Reaches (sc : Scope) (p : Block) (s : State) (q : Block) (σ : Store) : Type 0 where
    pub to : State
    pub comes : Comes P h p s q to
    pub tied : Tied P.globals (setting_at P h).spot sc kept shapes words σ to

  pub record Shown (sc : Scope) (p : Block) (s : State) (q : Block) (σ : Store) (text : List ℕ) : Type 0 where
    pub to : State
    pub comes : Comes P h p s q to
    pub tied : Tied P.globals (setting_at P h).spot sc kept shapes words (prints text σ) to

  tied_printed : (sc : Scope) (σ : Store) (s : State) (text : List ℕ) → Tie sc σ s → Tie sc (prints text σ) (record s { out = s.out ++ text })
  tied_printed sc σ s text tied = record { scalars = tied.scalars; handed = tied.handed; own = tied.own; others = tied.others; shape = tied.shape; source_shape = tied.source_shape; input = tied.input; out = ap (λ t. t ++ text) tied.out; ranges = record { scalars = tied.ranges.scalars; words = tied.ranges.words; input = tied.ranges.input } }

  tied_more : (sc : Scope) (σ : Store) (s : State) (a b : List ℕ) → Tie sc (prints b (prints a σ)) s → Tie sc (prints (a ++ b) σ) s
  tied_more sc σ s a b tied = record { scalars = tied.scalars; handed = tied.handed; own = tied.own; others = tied.others; shape = tied.shape; source_shape = tied.source_shape; input = tied.input; out = tied.out ∙ append_assoc σ.out a b; ranges = record { scalars = tied.ranges.scalars; words = tied.ranges.words; input = tied.ranges.input } }

  no_front : (v : Content) (vs : List Content) → v ∷ vs ≡ [] → ⊥
  no_front v vs e = absurd (cc)

  abbrev tail_of : List Content → List Content
  tail_of [] = []
  tail_of (v ∷ vs) = vs

  pub shows_run : (sc : Scope) {pieces : List Piece} {os : List Operand} {p q : Block} → Shows B P.texts pieces os p q → (xs : List ℤ) (σ : Store) (s : State) → map (held s) os ≡ map Some xs → Tie sc σ s → Shown sc p s q σ (printed pieces xs)
  shows_run sc (done {p = p} {q = q} g) xs σ s e tied = record { to = s; comes = comes_goes P h B has q p s g; tied = record { scalars = tied.scalars; handed = tied.handed; own = tied.own; others = tied.others; shape = tied.shape; source_shape = tied.source_shape; input = tied.input; out = tied.out ∙ sym (append-nil σ.out); ranges = record { scalars = tied.ranges.scalars; words = tied.ranges.words; input = tied.ranges.input } } }
  shows_run sc (number {o = o} {os = os} {p = p} {m = m} g x) [] σ s e tied = absurd (no_front (held s o) (map (held s) os) e)
  shows_run sc (number {pieces = pieces} {o = o} {os = os} {p = p} {m = m} {q = q} g x) (v ∷ vs) σ s e tied =
      let s1 : State = record s { out = s.out ++ signed_decimal v } in
      let r = shows_run sc x vs (prints (signed_decimal v) σ) s1 (same_held s (s.out ++ signed_decimal v) os ∙ ap tail_of e) (tied_printed sc σ s (signed_decimal v) tied) in
      record {
        to = r.to;
        comes = comes_on P h (comes_past P h B has (Decimal o) p m s s1 g (ap (shown s s.out) (ap head_of e))) r.comes;
        tied = tied_more sc σ r.to (signed_decimal v) (printed pieces vs) r.tied;
      }
  shows_run sc (bytes {pieces = pieces} {os = os} {p = p} {m = m} {q = q} n text at g x) xs σ s e tied =
      let s1 : State = record s { out = s.out ++ text } in
      let r = shows_run sc x xs (prints text σ) s1 (same_held s (s.out ++ text) os ∙ e) (tied_printed sc σ s text tied) in
      record {
        to = r.to;
        comes = comes_on P h (comes_past P h B has (Text n) p m s s1 g (ap (λ t. Some (record s { out = s.out ++ t })) (get_or_from_slice_get P.texts n text [] at))) r.comes;
        tied = subst (λ t. Tie sc (prints t σ) r.to) (sym (printed_bytes text pieces xs)) (tied_more sc σ r.to text (printed pieces xs) r.tied);
      }

  module _ (n : ℕ) (calls : Calls) (meets : CallsMeet P h B has tree kept shapes words n calls) (fitting : Fitting P h tree shapes words) where
    abbrev Wanted : Scope → Block → State → ℕ → (k : Shape) → Way k → Result k → Store → Type 0
    Wanted sc p s lo k w v σ = Good P h B has tree kept shapes words n sc p s lo k w v σ

    abbrev InValue : Scope → Block → State → ℕ → Block → ℕ → ℤ → Store → Type 0
    InValue sc p s t q lo v σ = Landed P h B has tree kept shapes words n sc p s t q lo v σ

    -- a simple statement falls
    abbrev pub Stays : Scope → Block → State → Block → Leaves → Store → Type 0
    Stays sc p s q Falls σ = Reaches sc p s q σ
    Stays sc p s q Breaks σ = ⊥
    Stays sc p s q Continues σ = ⊥
    Stays sc p s q (Returns r) σ = ⊥

    pub value_runs : (sc : Scope) {k : Shape} {e : Tree k} {p : Block} {w : Way k} {lo : ℕ} → Holds B words k e p w lo → suits tree sc e ≡ true → Above words sc vars → vars ≤ lo → (σ : Store) (s : State) → Tie sc σ s → Gives P h n p s (Wanted sc p s lo k w) (value (setting_at P h).spot calls e σ)
    value_runs sc {lo = lo} x fit above le σ s tied = expr_runs P h B has tree kept shapes words n calls meets fitting sc x fit (above_on words sc vars lo le above) σ s tied

    -- a scalar has its new value
    pub sets : (sc : Scope) (p : Block) (s : State) (x : ℕ) (q : Block) (lo : ℕ) (v : ℤ) (σ : Store) → Above words sc vars → x < words.scalars → InValue sc p s x q lo v σ → Reaches (record sc { scalars = x ∷ sc.scalars }) p s q (with_scalar σ x v)
    sets sc p s x q lo v σ above lt g = record { to = with_value g.to x (Some v); comes = g.comes; tied = tied_scalar P.globals (setting_at P h).spot kept shapes words sc vars x σ g.to v above lt g.number g.tied }

    resets : (sc : Scope) (p : Block) (s : State) (x : ℕ) (q : Block) (lo : ℕ) (v : ℤ) (σ : Store) → Above words sc vars → x < words.scalars → InValue sc p s x q lo v σ → Reaches sc p s q (with_scalar σ x v)
    resets sc p s x q lo v σ above lt g = let r = sets sc p s x q lo v σ above lt g in record { to = r.to; comes = r.comes; tied = tied_narrow P.globals (setting_at P h).spot kept shapes words (record sc { scalars = x ∷ sc.scalars }) sc (with_scalar σ x v) r.to (one_more_scalar x sc) r.tied }

    -- a word is stored
    keeps_word : (sc : Scope) (a j : ℕ) (o x : Operand) (v : ℤ) (σ : Store) (p m q : Block) (s u : State) → InForce P.globals sc a → j < slice_index_or shapes ((setting_at P h).spot a) 0 → Goes B (then_op (Keep a o x) q) m → held u o ≡ Some (product_of (pos 4) (pos j)) → held u x ≡ Some v → IsNumber v → Comes P h p s m u → Tie sc σ u → Reaches sc p s q (with_word σ ((setting_at P h).spot a) j v)
    keeps_word sc a j o x v σ p m q s u force below g at is f came tied = record {
      to = with_cell u ((setting_at P h).spot a) j (Some v);
      comes = comes_on P h came (comes_past P h B has (Keep a o x) m q u (with_cell u ((setting_at P h).spot a) j (Some v)) g (stores (setting_at P h) a j (slice_index_or shapes ((setting_at P h).spot a) 0) o x v u (fitting.small ((setting_at P h).spot a)) below (words_of_row P.globals (setting_at P h).spot kept shapes words sc σ u ((setting_at P h).spot a) tied) at is));
      tied = tied_word P.globals (setting_at P h).spot kept shapes words sc a j v σ u force f tied;
    }

    -- a word is loaded, into a value that is no scalar
    reads_word : (sc : Scope) (a j t : ℕ) (o : Operand) (σ : Store) (m q : Block) (u : State) → InForce P.globals sc a → j < slice_index_or shapes ((setting_at P h).spot a) 0 → Goes B (then_op (Load t a o false) q) m → held u o ≡ Some (product_of (pos 4) (pos j)) → Tie sc σ u → Comes P h m u q (with_value u t (Some (word_at σ ((setting_at P h).spot a) j)))
    reads_word sc a j t o σ m q u force below g at tied = comes_past P h B has (Load t a o false) m q u (with_value u t (Some (word_at σ ((setting_at P h).spot a) j))) g (loads (setting_at P h) t a j (slice_index_or shapes ((setting_at P h).spot a) 0) o σ u (fitting.small ((setting_at P h).spot a)) below (words_of_row P.globals (setting_at P h).spot kept shapes words sc σ u ((setting_at P h).spot a) tied) (tied.own a force) at)

    first_place : (u : State) → held u (Number (pos 0)) ≡ Some (product_of (pos 4) (pos 0))
    first_place u = ap Some (sym (four_times 0 (omega arith)))

    first_below : (a : ℕ) → is_scalar (slice_get tree.globals a) ≡ true → 0 < slice_index_or shapes ((setting_at P h).spot a) 0
    first_below a fit = let size = fitting.one_word a fit in omega arith

    -- the new value is made of the old one
    change_runs : (sc : Scope) (lo : ℕ) (old : Operand) {c : Change} {p q : Block} {t : ℕ} → Changes B words lo old c p t q → SuitsChange tree sc c → Above words sc vars → vars ≤ lo → IsBelow lo old → (z : ℤ) → IsNumber z → (σ : Store) (s : State) → held s old ≡ Some z → Tie sc σ s → Gives P h n p s (InValue sc p s t q lo) (new_of (setting_at P h).spot calls c z σ)
    change_runs sc lo old (by {operator = operator} {e = e} {o = o} {p = p} {m = m} {q = q} {t = t} {at = at} x le bo g) fit above lv bold z fz σ s eold tied =
        bind P h n p p s s (Wanted sc p s lo One (To (o ∷ []) m)) (InValue sc p s t q lo) _ (comes_self P h p s) (value (setting_at P h).spot calls e σ) (value_runs sc x fit above lv σ s tied) (λ v σ1 g1.
        combines P h B has tree kept shapes words n sc lo at g le (above_on words sc vars lo lv above) (below_on lo at old le bold) bo z v σ1 p s g1.to g1.comes (held_kept lo s g1.to old g1.keeps bold ∙ eold) (ap head_of g1.holds) fz g1.number g1.tied g1.keeps)
    change_runs sc lo old (up {p = p} {q = q} {t = t} g) fit above lv bold z fz σ s eold tied =
        land P h B has tree kept shapes words n sc (Compute Add t old (Number (pos 1))) lo t (sum_of z (pos 1)) σ p p q s s s (comes_self P h p s) g (computes (setting_at P h) Add t old (Number (pos 1)) s z (pos 1) eold refl) tied (λ u l. refl) (value_fits_law Add z (pos 1) fz one_fits)
    change_runs sc lo old (down {p = p} {q = q} {t = t} g) fit above lv bold z fz σ s eold tied =
        land P h B has tree kept shapes words n sc (Compute Sub t old (Number (pos 1))) lo t (difference_of z (pos 1)) σ p p q s s s (comes_self P h p s) g (computes (setting_at P h) Sub t old (Number (pos 1)) s z (pos 1) eold refl) tied (λ u l. refl) (value_fits_law Sub z (pos 1) fz one_fits)

    abbrev Made : Scope → Block → State → Block → Action → Store → Type 0
    Made sc p s q a σ = Gives P h n p s (Stays sc p s q) (acts (setting_at P h).spot calls a σ)

    pub acts_run : {a : Action} {p q : Block} → Acts B words vars a p q → (sc : Scope) → suits_action tree sc a ≡ true → Above words sc vars → (σ : Store) (s : State) → Tie sc σ s → Gives P h n p s (Stays sc p s q) (acts (setting_at P h).spot calls a σ)
    acts_run (evaluate {e = e} {os = os} {p = p} {q = q} {lo = lo} plain x le) sc fit above σ s tied =
        bind P h n p p s s (Wanted sc p s lo One (To os q)) (Stays sc p s q) _ (comes_self P h p s) (value (setting_at P h).spot calls e σ) (value_runs sc x (sym (whole_suits tree sc e plain) ∙ fit) above le σ s tied) (λ v σ1 g1. record { to = g1.to; comes = g1.comes; tied = g1.tied })
    acts_run (call {f = f} {next = next} {lo = lo} {row = row} {os = os} {p = p} {m = m} {q = q} x le g at) sc fit above σ s tied =
        bind P h n p p s s (λ v σ1. Reaches sc p s q σ1) (Stays sc p s q) _ (comes_self P h p s) (value (setting_at P h).spot calls (Apply f row) σ)
        (bind_with P h n p p s s (Wanted sc p s lo Row (To os m)) (λ xs u. takes_given xs ≡ takes_of_row row) (λ v σ1. Reaches sc p s q σ1) _ (comes_self P h p s) (value (setting_at P h).spot calls row σ) (row_takes (setting_at P h).spot calls row σ) (value_runs sc x (and_two (can_call (λ gives. true) (takes_of_row row) (slice_get tree.functions f)) (suits tree sc row) fit) above le σ s tied) (λ xs σ1 kinds g1.
        let came = comes_on P h g1.comes (comes_goes P h B has (ends (Call f os None next)) m g1.to g) in
        shift P h n p (ends (Call f os None next)) s g1.to (Came_back P h B has tree kept shapes words n sc (ends (Call f os None next)) g1.to q None) (λ v σ2. Reaches sc p s q σ2) came (calls f xs σ1) (meets sc f os None next q xs σ1 g1.to (subst (λ j. can_call (λ gives. true) j (slice_get tree.functions f) ≡ true) (sym kinds) (and_one (can_call (λ gives. true) (takes_of_row row) (slice_get tree.functions f)) (suits tree sc row) fit)) g1.tied (ap known g1.holds ∙ known_all (passed_by shapes xs)) g1.number at) (λ v σ2 g2. record {
          to = g2.to;
          comes = comes_on P h came g2.comes;
          tied = g2.tied;
        })))
        (λ v σ1 g1. g1)
    acts_run (assign_local {x = x} {lo = lo} {e = e} {p = p} {q = q} y le) sc fit above σ s tied =
        bind P h n p p s s (InValue sc p s x q lo) (Stays sc p s q) _ (comes_self P h p s) (value (setting_at P h).spot calls e σ) (value_runs sc y (and_two (suits_place tree sc (InLocal x)) (suits tree sc e) fit) above le σ s tied) (λ v σ1 g1. resets sc p s x q lo v σ1 above (above.scalars x (and_one (suits_place tree sc (InLocal x)) (suits tree sc e) fit)) g1)
    acts_run (assign_global {a = a} {lo = lo} {e = e} {o = o} {p = p} {m = m} {q = q} x le g) sc fit above σ s tied =
        let is = and_one (suits_place tree sc (InGlobal a)) (suits tree sc e) fit in
        bind P h n p p s s (Wanted sc p s lo One (To (o ∷ []) m)) (Stays sc p s q) _ (comes_self P h p s) (value (setting_at P h).spot calls e σ) (value_runs sc x (and_two (suits_place tree sc (InGlobal a)) (suits tree sc e) fit) above le σ s tied) (λ v σ1 g1.
        keeps_word sc a 0 (Number (pos 0)) o v σ1 p m q s g1.to (inl (fitting.is_global a is)) (first_below a is) g (first_place g1.to) (ap head_of g1.holds) g1.number g1.comes g1.tied)
    acts_run (assign_element {a = a} {t = t} {lo = lo} {next = next} {i = i} {e = e} {oi = oi} {oe = oe} {p = p} {m = m} {y = y} {z = z} {q = q} xi le x lt le2 xe g) sc fit above σ s tied =
        let place = and_one (suits_place tree sc (InElement a i)) (suits tree sc e) fit in
        let force = fitting.named sc a (and_one (names_array tree sc a) (suits tree sc i) place) in
        bind P h n p p s s (Wanted sc p s lo One (To (oi ∷ []) m)) (Stays sc p s q) _ (comes_self P h p s) (value (setting_at P h).spot calls i σ) (value_runs sc xi (and_two (names_array tree sc a) (suits tree sc i) place) above le σ s tied) (λ v σ1 g1.
        checks P h B has tree kept shapes words n fitting sc vars a t oi v σ1 p m y s g1.to (Stays sc p s q) (λ j. and_then (value (setting_at P h).spot calls e σ1) (λ w σ2. With Falls (with_word σ2 ((setting_at P h).spot a) j w))) above x (ap head_of g1.holds) g1.number g1.tied g1.comes (λ j below u c tu ku at.
        bind P h n p y s u (Wanted sc y u next One (To (oe ∷ []) z)) (Stays sc p s q) _ c (value (setting_at P h).spot calls e σ1) (value_runs sc xe (and_two (suits_place tree sc (InElement a i)) (suits tree sc e) fit) above le2 σ1 u tu) (λ w σ2 g2.
        keeps_word sc a j (Held t) oe w σ2 p z q s g2.to force below g (g2.keeps t lt ∙ at) (ap head_of g2.holds) g2.number (comes_on P h c g2.comes) g2.tied)))
    acts_run (change_local {x = x} {lo = lo} {c = c} {p = p} {q = q} le lt g) sc fit above σ s tied =
        let both = suits_change tree sc (InLocal x) c fit in
        subst (λ o. Gives P h n p s (Stays sc p s q) o) (acts_as (setting_at P h).spot calls (InLocal x) c σ)
        (bind P h n p p s s (InValue sc p s x q lo) (Stays sc p s q) _ (comes_self P h p s) (new_of (setting_at P h).spot calls c (σ.scalars x) σ) (change_runs sc lo (Held x) g both.1 above le lt (σ.scalars x) (tied.ranges.scalars x) σ s (tied.scalars x both.0) tied) (λ v σ1 g1. resets sc p s x q lo v σ1 above (above.scalars x both.0) g1))
    acts_run (change_global {a = a} {u = u} {t = t} {lo = lo} {c = c} {p = p} {m = m} {z = z} {q = q} gl lu ul le g lt gs) sc fit above σ s tied =
        let both = suits_change tree sc (InGlobal a) c fit in
        let force : InForce P.globals sc a = inl (fitting.is_global a both.0) in
        let old = word_at σ ((setting_at P h).spot a) 0 in
        let s1 : State = with_value s u (Some old) in
        let came = reads_word sc a 0 u (Number (pos 0)) σ p m s force (first_below a both.0) gl (first_place s) tied in
        let t1 = tied_value P.globals (setting_at P h).spot kept shapes words sc vars u σ s (Some old) above lu tied in
        subst (λ o. Gives P h n p s (Stays sc p s q) o) (acts_as (setting_at P h).spot calls (InGlobal a) c σ)
        (bind P h n p m s s1 (InValue sc m s1 t z lo) (Stays sc p s q) _ came (new_of (setting_at P h).spot calls c old σ) (change_runs sc lo (Held u) g both.1 above le ul old (tied.ranges.words ((setting_at P h).spot a) 0) σ s1 (value_there u s (Some old)) t1) (λ v σ1 g1.
        keeps_word sc a 0 (Number (pos 0)) (Held t) v σ1 p z q s (with_value g1.to t (Some v)) force (first_below a both.0) gs (first_place g1.to) (value_there t g1.to (Some v)) g1.number (comes_on P h came g1.comes) (tied_value P.globals (setting_at P h).spot kept shapes words sc vars t σ1 g1.to (Some v) above lt g1.tied)))
    acts_run (change_element {a = a} {u = u} {t = t} {v = v} {lo = lo} {next = next} {i = i} {c = c} {oi = oi} {p = p} {m = m} {y = y} {n = nb} {z = z} {q = q} xi le x gl tu un le2 g tv lv gs) sc fit above σ s tied =
        let both = suits_change tree sc (InElement a i) c fit in
        let force = fitting.named sc a (and_one (names_array tree sc a) (suits tree sc i) both.0) in
        subst (λ o. Gives P h n p s (Stays sc p s q) o) (acts_as (setting_at P h).spot calls (InElement a i) c σ)
        (bind P h n p p s s (Wanted sc p s lo One (To (oi ∷ []) m)) (Stays sc p s q) _ (comes_self P h p s) (value (setting_at P h).spot calls i σ) (value_runs sc xi (and_two (names_array tree sc a) (suits tree sc i) both.0) above le σ s tied) (λ w σ1 g1.
        checks P h B has tree kept shapes words n fitting sc vars a t oi w σ1 p m y s g1.to (Stays sc p s q) (λ j. and_then (new_of (setting_at P h).spot calls c (word_at σ1 ((setting_at P h).spot a) j) σ1) (λ k σ2. With Falls (with_word σ2 ((setting_at P h).spot a) j k))) above x (ap head_of g1.holds) g1.number g1.tied g1.comes (λ j below b came tb kb at.
        let old = word_at σ1 ((setting_at P h).spot a) j in
        let b1 : State = with_value b u (Some old) in
        let lu : vars ≤ u = let f = x.fresh in omega arith in
        let came1 = comes_on P h came (reads_word sc a j u (Held t) σ1 y nb b force below gl at tb) in
        let t1 = tied_value P.globals (setting_at P h).spot kept shapes words sc vars u σ1 b (Some old) above lu tb in
        bind P h n p nb s b1 (InValue sc nb b1 v z next) (Stays sc p s q) _ came1 (new_of (setting_at P h).spot calls c old σ1) (change_runs sc next (Held u) g both.1 above le2 un old (tb.ranges.words ((setting_at P h).spot a) j) σ1 b1 (value_there u b (Some old)) t1) (λ k σ2 g2.
        keeps_word sc a j (Held t) (Held v) k σ2 p z q s (with_value g2.to v (Some k)) force below gs (keeps_value v v g2.to (Some k) (omega arith) t tv ∙ g2.keeps t (omega arith) ∙ keeps_value u u b (Some old) (omega arith) t tu ∙ at) (value_there v g2.to (Some k)) g2.number (comes_on P h came1 g2.comes) (tied_value P.globals (setting_at P h).spot kept shapes words sc vars v σ2 g2.to (Some k) above lv g2.tied)))))
