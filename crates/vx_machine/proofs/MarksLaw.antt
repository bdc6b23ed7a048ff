-- Marks find a register that is a destination twice.
use Rattle.std.proofs.Common.{◌≡◌, ℕ, ◌+◌, ◌<◌, ◌≤◌, Bool, true, false, ◌&&◌, ◌||◌, ◌==◌, nat_le, nat_lt, List, [], ◌∷◌, ◌++◌, length, replicate, get_or, set, refl, sym, ◌∙◌, inl, inr, get_or-set_same, get_or-set_other, eq-eqb, arith}
use Rattle.std.proofs.lemmas.Bool.{and_parts, cases_eq, leb-true, ltb-true}
use Rattle.std.proofs.lemmas.Bool.Decides.{nat_tests}
use Rattle.std.proofs.lemmas.List.{length-set, length-replicate, get_or-replicate}
use Rattle.std.proofs.lemmas.List.Folds.{list_all-append}
use Rattle.std.specs.List.{list_all, list_any, AllByRecursion}
use Rattle.vx_isa.specs.declared.operation.Register.{Register}
use Rattle.vx_isa.specs.declared.operation.Register.TheVariants.{General, Branch, Link}
use Rattle.vx_isa.specs.declared.operation.Operation.{Operation}
use Rattle.vx_isa.specs.Numbers.{Numbers, is_between, IsMachine}
use Rattle.vx_isa.specs.Operations.{same}
use Rattle.vx_isa.specs.Fits.{is_twice, is_in_file, operands, destinations}
use Rattle.vx_machine.specs.Marks.{mark_of, HasMark, is_marked_or_twice}

mark_below : (r : Register) → HasMark r → mark_of r < 289
mark_below (General r) (c, n) = omega arith
mark_below (Branch r) (c, n) = omega arith
mark_below Link h = omega arith

-- registers with one mark are one
same_mark : (r q : Register) → HasMark r → HasMark q → same r q ≡ (mark_of q == mark_of r)
same_mark (General r) (General q) (rc, rn) (qc, qn) = grind (arith, nat_tests)
same_mark (General r) (Branch q) (rc, rn) (qc, qn) = grind (arith, nat_tests)
same_mark (General r) Link (rc, rn) h = grind (arith, nat_tests)
same_mark (Branch r) (General q) (rc, rn) (qc, qn) = grind (arith, nat_tests)
same_mark (Branch r) (Branch q) (rc, rn) (qc, qn) = grind (arith, nat_tests)
same_mark (Branch r) Link (rc, rn) h = grind (arith, nat_tests)
same_mark Link (General q) h (qc, qn) = grind (arith, nat_tests)
same_mark Link (Branch q) h (qc, qn) = grind (arith, nat_tests)
same_mark Link Link h k = refl

abbrev is_marked : List Bool → Register → Bool
is_marked marks r = get_or marks (mark_of r) false

marked_after : (marks : List Bool) (r q : Register) → length marks ≡ 289 → HasMark r → HasMark q → is_marked (set marks (mark_of r) true) q ≡ (same r q || is_marked marks q)
marked_after marks r q long rh qh =
    let below : mark_of r < length marks = let b = mark_below r rh in omega arith in
    elim (cases_eq (mark_of q) (mark_of r)) [
      | inl equal ↦ rw (same_mark r q rh qh, equal, get_or-set_same marks (mark_of r) true false below, eq-eqb (mark_of r) (mark_of r) refl)
      | inr other ↦ rw (same_mark r q rh qh, get_or-set_other marks (mark_of r) (mark_of q) true false other) (grind (arith, nat_tests))
    ]

or_both : (a b c d : Bool) → ((a || b) || (c || d)) ≡ ((a || c) || (b || d))
or_both true b c d = refl
or_both false true true d = refl
or_both false true false d = refl
or_both false false c d = refl

any_after : (marks : List Bool) (r : Register) (rs : List Register) → length marks ≡ 289 → HasMark r → AllByRecursion HasMark rs
    → list_any (is_marked (set marks (mark_of r) true)) rs ≡ (list_any (same r) rs || list_any (is_marked marks) rs)
any_after marks r [] long rh h = refl
any_after marks r (q ∷ rs) long rh h =
    rw (marked_after marks r q long rh h.0, any_after marks r rs long rh h.1) (or_both (same r q) (is_marked marks q) (list_any (same r) rs) (list_any (is_marked marks) rs))

or_four : (s a b t : Bool) → (s || ((a || b) || t)) ≡ ((s || b) || (a || t))
or_four true a b t = refl
or_four false true true t = refl
or_four false true false t = refl
or_four false false b t = refl

twice_by_marks : (marks : List Bool) (rs : List Register) → length marks ≡ 289 → AllByRecursion HasMark rs → is_marked_or_twice marks rs ≡ (list_any (is_marked marks) rs || is_twice rs)
twice_by_marks marks [] long h = refl
twice_by_marks marks (r ∷ rs) long h =
    let later = twice_by_marks (set marks (mark_of r) true) rs (length-set marks (mark_of r) true ∙ long) h.1 in
    rw (later, any_after marks r rs long h.0 h.1) (or_four (is_marked marks r) (list_any (same r) rs) (list_any (is_marked marks) rs) (is_twice rs))

none_marked : (rs : List Register) → AllByRecursion HasMark rs → list_any (is_marked (replicate 289 false)) rs ≡ false
none_marked [] h = refl
none_marked (r ∷ rs) h = rw (get_or-replicate 289 (mark_of r) false false (mark_below r h.0), none_marked rs h.1)

pub twice_from_unmarked : (rs : List Register) → AllByRecursion HasMark rs → is_marked_or_twice (replicate 289 false) rs ≡ is_twice rs
twice_from_unmarked rs h = twice_by_marks (replicate 289 false) rs (length-replicate 289 false) h ∙ rw (none_marked rs h)

-- a machine's clusters and files are bounded
record Bounds (m : Numbers) : Type 0 where
  clusters : m.clusters ≤ 4
  registers : m.registers ≤ 64
  branches : m.branch_registers ≤ 8

front : (a b : Bool) → (a && b) ≡ true → a ≡ true
front a b h = (and_parts a b h).0

at_most : (low n top : ℕ) → is_between low top n ≡ true → n ≤ top
at_most low n top h = leb-true n top (and_parts (nat_le low n) (nat_le n top) h).1

bounds : (m : Numbers) → IsMachine m → Bounds m
bounds m h =
    let seven = front _ _ (front _ _ (front _ _ (front _ _ (front _ _ (front _ _ (front _ _ (front _ _ (front _ _ (front _ _ h))))))))) in
    let (six, branch) = and_parts _ _ seven in
    let (five, general) = and_parts _ _ six in
    let one = front _ _ (front _ _ (front _ _ (front _ _ five))) in
    record {
      clusters = at_most 1 m.clusters 4 one;
      registers = at_most 16 m.registers 64 general;
      branches = at_most (m.issue + 1) m.branch_registers 8 branch;
    }

-- the registers of a word that are in their files have marks

has_mark : (m : Numbers) (r : Register) → IsMachine m → is_in_file m r ≡ true → HasMark r
has_mark m (General r) h there =
    let b = bounds m h in
    let (c, n) = and_parts (nat_lt r.cluster m.clusters) (nat_lt r.number m.registers) there in
    let cluster = ltb-true r.cluster m.clusters c in
    let number = ltb-true r.number m.registers n in
    (omega arith, omega arith)
has_mark m (Branch r) h there =
    let b = bounds m h in
    let (c, n) = and_parts (nat_lt r.cluster m.clusters) (nat_lt r.number m.branch_registers) there in
    let cluster = ltb-true r.cluster m.clusters c in
    let number = ltb-true r.number m.branch_registers n in
    (omega arith, omega arith)
has_mark m Link h there = tt

have_marks : (m : Numbers) (rs : List Register) → IsMachine m → list_all (is_in_file m) rs ≡ true → AllByRecursion HasMark rs
have_marks m [] h all = tt
have_marks m (r ∷ rs) h all =
    let (here, more) = and_parts (is_in_file m r) (list_all (is_in_file m) rs) all in
    (has_mark m r h here, have_marks m rs h more)

pub destinations_have_marks : (m : Numbers) (ops : List Operation) → IsMachine m → list_all (is_in_file m) (operands ops ++ destinations ops) ≡ true → AllByRecursion HasMark (destinations ops)
destinations_have_marks m ops h all =
    have_marks m (destinations ops) h (and_parts (list_all (is_in_file m) (operands ops)) (list_all (is_in_file m) (destinations ops)) (sym (list_all-append (is_in_file m) (operands ops) (destinations ops)) ∙ all)).1
