-- An operation without a memory unit reads and writes no memory, takes no number of the input and prints nothing.
use Rattle.std.proofs.Common.{◌≡◌, ℕ, ◌+◌, ℤ, Bool, true, false, cond, None, List, [], ◌∷◌, count_by, refl, sym, ap, ◌∙◌, arith}
use Rattle.std.specs.List.{list_any, flat_map}
use Rattle.vx_isa.specs.declared.operation.UnitKind.TheVariants.{Memory}
use Rattle.vx_isa.specs.declared.operation.Operation.{Operation}
use Rattle.vx_isa.specs.declared.operation.Operation.TheVariants.{Compute, Move, Select, Load, Store, Input, More, OutText, OutDecimal, OutByte, Goto, BranchOn, Call, Return, FromLink, ToLink, EndByTrap, Halt}
use Rattle.vx_isa.specs.declared.program.WordProgram.{WordProgram}
use Rattle.vx_isa.specs.Fits.{is_of}
use Rattle.vx_isa.specs.Machine.{State, has_bad_address, takes_input, print_of, memory_after}
use Rattle.vx_isa.proofs.Lists.{count_by-cons}
use Rattle.vx_sim.specs.Shapes.{stuck_here}

record Inside (op : Operation) : Type 0 where
  address : (size : ℕ) (s : State) → has_bad_address size s op ≡ false
  input : takes_input op ≡ false
  text : (w : WordProgram) (s : State) → print_of w s op ≡ []
  store : (s : State) (ops : List Operation) (m : ℕ → ℤ) → memory_after s (op ∷ ops) m ≡ memory_after s ops m

inside : (op : Operation) → is_of Memory op ≡ false → Inside op
inside (Compute k code to a b) e = record { address = λ size s. refl; input = refl; text = λ w s. refl; store = λ s ops m. refl }
inside (Move k to a) e = record { address = λ size s. refl; input = refl; text = λ w s. refl; store = λ s ops m. refl }
inside (Select k to u a b) e = record { address = λ size s. refl; input = refl; text = λ w s. refl; store = λ s ops m. refl }
inside (Load k to o r d) e = absurd (cc)
inside (Store k o r a) e = absurd (cc)
inside (Input to) e = absurd (cc)
inside (More to) e = absurd (cc)
inside (OutText n) e = absurd (cc)
inside (OutDecimal a) e = absurd (cc)
inside (OutByte a) e = absurd (cc)
inside (Goto p) e = record { address = λ size s. refl; input = refl; text = λ w s. refl; store = λ s ops m. refl }
inside (BranchOn u w p) e = record { address = λ size s. refl; input = refl; text = λ w s. refl; store = λ s ops m. refl }
inside (Call p) e = record { address = λ size s. refl; input = refl; text = λ w s. refl; store = λ s ops m. refl }
inside Return e = record { address = λ size s. refl; input = refl; text = λ w s. refl; store = λ s ops m. refl }
inside (FromLink to) e = record { address = λ size s. refl; input = refl; text = λ w s. refl; store = λ s ops m. refl }
inside (ToLink a) e = record { address = λ size s. refl; input = refl; text = λ w s. refl; store = λ s ops m. refl }
inside (EndByTrap k) e = record { address = λ size s. refl; input = refl; text = λ w s. refl; store = λ s ops m. refl }
inside (Halt a) e = record { address = λ size s. refl; input = refl; text = λ w s. refl; store = λ s ops m. refl }

-- the same of a word without such an operation
record AllInside (ops : List Operation) : Type 0 where
  addresses : (size : ℕ) (s : State) → list_any (has_bad_address size s) ops ≡ false
  inputs : list_any takes_input ops ≡ false
  count : count_by takes_input ops ≡ 0
  texts : (w : WordProgram) (s : State) → flat_map (print_of w s) ops ≡ []
  stores : (s : State) (m : ℕ → ℤ) → memory_after s ops m ≡ m

one_inside : (op : Operation) (ops : List Operation) → Inside op → AllInside ops → AllInside (op ∷ ops)
one_inside op ops here rest = record {
  addresses = λ size s. let a = here.address size s in let b = rest.addresses size s in cc;
  inputs = let a = here.input in let b = rest.inputs in cc;
  count = count_by-cons takes_input op ops ∙ ap (λ (t : Bool). cond t 1 0 + count_by takes_input ops) here.input ∙ (let n : 0 + count_by takes_input ops ≡ 0 = let b = rest.count in omega (arith, b) in n);
  texts = λ w s. let a = here.text w s in let b = rest.texts w s in cc;
  stores = λ s m. here.store s ops m ∙ rest.stores s m;
}

all_inside : (ops : List Operation) → count_by (is_of Memory) ops ≡ 0 → AllInside ops
all_inside [] e = record { addresses = λ size s. refl; inputs = refl; count = refl; texts = λ w s. refl; stores = λ s m. refl }
all_inside (op ∷ ops) e = by (is_of Memory op) refl (all_inside ops)
  where
    more : count_by (is_of Memory) (op ∷ ops) ≡ cond (is_of Memory op) 1 0 + count_by (is_of Memory) ops
    more = count_by-cons (is_of Memory) op ops

    by : (b : Bool) → is_of Memory op ≡ b → (count_by (is_of Memory) ops ≡ 0 → AllInside ops) → AllInside (op ∷ ops)
    by true h rest = let n : count_by (is_of Memory) (op ∷ ops) ≡ 1 + count_by (is_of Memory) ops = more ∙ ap (λ (t : Bool). cond t 1 0 + count_by (is_of Memory) ops) h in absurd (omega (arith, n, e))
    by false h rest =
        let n : count_by (is_of Memory) (op ∷ ops) ≡ 0 + count_by (is_of Memory) ops = more ∙ ap (λ (t : Bool). cond t 1 0 + count_by (is_of Memory) ops) h in
        one_inside op ops (inside op h) (rest (omega (arith, n, e)))

-- the count of the operations with a memory unit, as it is found of a word

pub no_reason : (memory : ℕ) (w : WordProgram) (s : State) (ops : List Operation) → memory ≡ count_by (is_of Memory) ops → memory ≡ 0 → None ≡ stuck_here w s ops
no_reason memory w s ops is none =
    let all = all_inside ops (sym is ∙ none) in
    let a = all.addresses w.memory s in
    let b = all.inputs in
    cc

pub no_input : (memory : ℕ) (ops : List Operation) → memory ≡ count_by (is_of Memory) ops → memory ≡ 0 → 0 ≡ count_by takes_input ops
no_input memory ops is none = sym (all_inside ops (sym is ∙ none)).count

pub no_text : (memory : ℕ) (w : WordProgram) (s : State) (ops : List Operation) → memory ≡ count_by (is_of Memory) ops → memory ≡ 0 → [] ≡ flat_map (print_of w s) ops
no_text memory w s ops is none = sym ((all_inside ops (sym is ∙ none)).texts w s)

pub no_store : (memory : ℕ) (s : State) (ops : List Operation) (m : ℕ → ℤ) → memory ≡ count_by (is_of Memory) ops → memory ≡ 0 → m ≡ memory_after s ops m
no_store memory s ops m is none = sym ((all_inside ops (sym is ∙ none)).stores s m)
