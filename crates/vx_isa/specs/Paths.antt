-- Static paths of a program of words, with every branch either way and a return to everywhere, and the path property.
use Rattle.std.specs.Prelude.{◌≡◌, ◌⊎◌, ℕ, ◌+◌, ℤ, true, false, List, [], ◌∷◌, Option, Some, None, slice_get}
use Rattle.vx_base.specs.Paths.{NeverEarlyFrom}
use Rattle.vx_isa.specs.declared.operation.Register.{Register}
use Rattle.vx_isa.specs.declared.operation.Operation.{Operation}
use Rattle.vx_isa.specs.declared.operation.Operation.TheVariants.{Goto, BranchOn, Call, Return, EndByTrap, Halt}
use Rattle.vx_isa.specs.declared.program.Word.{Word}
use Rattle.vx_isa.specs.declared.program.WordProgram.{WordProgram}
use Rattle.vx_isa.specs.Numbers.{Numbers, IsMachine}
use Rattle.vx_isa.specs.Operations.{is_zero, destination_of, is_call, latency_of}
use Rattle.vx_isa.specs.Fits.{fits, operands, destinations}
use Rattle.vx_isa.specs.Machine.{cycles_of, issuing_machine, words_run}
use Rattle.vx_isa.specs.Strict.{Strict}

-- where a word may lead from its place
abbrev pub LeadsTo : List Operation → ℕ → ℕ → Type 0
LeadsTo [] here q = q ≡ here + 1
LeadsTo (Goto p ∷ ops) here q = q ≡ p
LeadsTo (BranchOn t w p ∷ ops) here q = (q ≡ p) ⊎ LeadsTo ops here q
LeadsTo (Call p ∷ ops) here q = q ≡ p
LeadsTo (Return ∷ ops) here q = Unit {0}
LeadsTo (EndByTrap k ∷ ops) here q = ⊥
LeadsTo (Halt a ∷ ops) here q = ⊥
LeadsTo (op ∷ ops) here q = LeadsTo ops here q

abbrev pub WordAt : WordProgram → ℕ → Word → Type 0
WordAt w p word = slice_get w.words p ≡ Some word

-- from a place of the program to a place of the program
abbrev pub Leads : WordProgram → ℕ → ℕ → Type 0
Leads w p q = (word : Word) × (next : Word) × WordAt w p word × WordAt w q next × LeadsTo word.ops p q

abbrev pub cycles_of_some : Option Word → ℕ
cycles_of_some None = 1
cycles_of_some (Some word) = cycles_of word

abbrev pub cycles_at : WordProgram → ℕ → ℕ
cycles_at w p = cycles_of_some (slice_get w.words p)

abbrev pub Among : {A : Type 0} → A → List A → Type 0
Among x [] = ⊥
Among x (y ∷ ys) = (x ≡ y) ⊎ Among x ys

abbrev pub ReadsAt : WordProgram → ℕ → Register → Type 0
ReadsAt w p r = (word : Word) × WordAt w p word × Among r (operands word.ops) × (is_zero r ≡ false)

-- the link that a call writes is there at the next word, and does not count
abbrev pub WritesAt : Numbers → WordProgram → ℕ → Register → ℕ → Type 0
WritesAt m w p r l = (word : Word) × (op : Operation) × WordAt w p word × Among op word.ops × (destination_of op ≡ Some r) × (is_zero r ≡ false) × (is_call op ≡ false) × (latency_of m op ≡ l)

abbrev pub NeverReadsEarly : Numbers → WordProgram → Type 0
NeverReadsEarly m w = NeverEarlyFrom 0 (Leads w) (cycles_at w) (ReadsAt w) (WritesAt m w)

-- nor is a register written while a write to it may be in flight
abbrev pub NamesAt : WordProgram → ℕ → Register → Type 0
NamesAt w p r = (word : Word) × WordAt w p word × Among r (destinations word.ops) × (is_zero r ≡ false)

abbrev pub NeverWritesEarly : Numbers → WordProgram → Type 0
NeverWritesEarly m w = NeverEarlyFrom 0 (Leads w) (cycles_at w) (NamesAt w) (WritesAt m w)

-- every word fits the machine that the version allows, and on no path from the start does a word read a register early
pub record PathStrict (m : Numbers) (w : WordProgram) : Type 0 where
  pub fit : (p : ℕ) (word : Word) → WordAt w p word → fits (issuing_machine w m) word.ops ≡ true
  pub never_early : NeverReadsEarly m w

-- the laws of paths, each the clause of a public function of this crate

-- a program whose paths have no early read has runs without early reads, under every timing
abbrev pub PathStrictLaw : Type 0
PathStrictLaw = (m : Numbers) (w : WordProgram) → PathStrict m w → Strict m w

-- where besides no word writes a register early, the runs under any two timings are alike, word for word
abbrev pub AnyTimingLaw : Type 0
AnyTimingLaw =
    (m : Numbers) (w : WordProgram) → IsMachine m → NeverReadsEarly m w → NeverWritesEarly m w →
    (times times' : List ℕ) (input : List ℤ) (n : ℕ) → words_run m times w input n ≡ words_run m times' w input n
