-- What the interpreter's answers say of the meaning of a source.
use Rattle.std.specs.Prelude.{◌≡◌, ℕ, ℤ, pos, List, [], length, Result, Ok, Err, Option, Some, None}
use Rattle.vx_base.specs.Outcome.{Outcome, Ends, Traps, Goes}
use Rattle.vx_ast.specs.Tree.{Place, InLocal, InGlobal, InElement}
use Rattle.vx_ast.specs.Meaning.{Store, and_then, after_body, after_turn, at_element, value, word_at, with_scalar, with_word, Part, With, Trapped, Going, Leaves, Falls, Breaks, Continues, Returns, Calls, Argument, numbers_given, arrays_given, spot_in, active}
use Rattle.vx_plain.specs.Kept.{Kept, store_of}
use Rattle.vx_ast.specs.View.{program_of}
use Rattle.vx_ast.specs.declared.tree.Program.{Program}
use Rattle.vx_plain.specs.declared.interpreter.End.{End}
use Rattle.vx_plain.specs.declared.interpreter.End.TheVariants.{Result as WithResult, Trap as ByTrap, Bound as AtBound}
use Rattle.vx_plain.specs.declared.interpreter.Ending.{Ending}
use Rattle.vx_plain.specs.declared.interpreter.Arguments.{Arguments}
use Rattle.vx_plain.specs.declared.interpreter.Stop.{Stop}
use Rattle.vx_plain.specs.declared.interpreter.Stop.TheVariants.{Trap as StopTrap, Bound as StopBound, Memory as StopMemory}
use Rattle.vx_plain.specs.declared.interpreter.Leave.{Leave}
use Rattle.vx_plain.specs.declared.interpreter.Leave.TheVariants.{Falls as LeaveFalls, Breaks as LeaveBreaks, Continues as LeaveContinues, Returns as LeaveReturns}
use Rattle.vx_plain.specs.declared.active.Active.{Active}
use Rattle.vx_plain.specs.declared.interpreter.Located.{Located}
use Rattle.vx_plain.specs.declared.interpreter.Located.TheVariants.{Scalar as AtScalar, Word as AtWord}

-- the outcome that an ending is
abbrev pub outcome_at : End → List ℕ → Outcome
outcome_at (WithResult r) out = Ends r out
outcome_at (ByTrap k) out = Traps k out
outcome_at AtBound out = Goes out

abbrev pub outcome_in : Ending → Outcome
outcome_in e = outcome_at e.end e.out

abbrev pub leaves_of : Leave → Leaves
leaves_of LeaveFalls = Falls
leaves_of LeaveBreaks = Breaks
leaves_of LeaveContinues = Continues
leaves_of (LeaveReturns r) = Returns r

-- where an array of the active function stands, and what the calls from it do
abbrev pub spot_at : Program → Active → ℕ → ℕ
spot_at p at = spot_in (length p.globals) at.given.now at.base

abbrev pub calls_at : Program → Active → Calls
calls_at p at = active (program_of p) at.depth at.turns

-- what was answered and is held is what a part comes to; of want of memory nothing is said
abbrev pub IsAnswered : {A B : Type 0} → (B → A) → Result B Stop → Kept → Part A → Type 0
IsAnswered f (Ok b) k p = p ≡ With (f b) (store_of k)
IsAnswered f (Err (StopTrap t)) k p = p ≡ Trapped t k.out
IsAnswered f (Err StopBound) k p = p ≡ Going k.out
IsAnswered f (Err StopMemory) k p = Unit {0}

pub record Comes {A B : Type 0} (f : B → A) (r : Result B Stop) (k : Kept) (p : Part A) : Type 0 where
  pub is : IsAnswered f r k p

-- what was given to a function is what a row of arguments comes to
pub record AreGiven (a : Arguments) (k : Kept) (p : Part (List Argument)) : Type 0 where
  pub all : List Argument
  pub is : p ≡ With all (store_of k)
  pub numbers : numbers_given all ≡ a.numbers.items
  pub arrays : arrays_given all ≡ a.arrays.items

abbrev pub Passes : Result Arguments Stop → Kept → Part (List Argument) → Type 0
Passes (Ok a) k p = AreGiven a k p
Passes (Err e) k p = Comes {B = Arguments} (λ a. []) (Err e) k p

abbrev pub itself : {A : Type 0} → A → A
itself a = a

abbrev pub falls : {A : Type 0} → A → Leaves
falls a = Falls

-- the place of a target, what it holds, and the store with another number there

abbrev pub held_at : Located → Store → ℤ
held_at (AtScalar x) s = s.scalars x
held_at (AtWord a i) s = word_at s a i

abbrev pub put_at : Located → ℤ → Store → Store
put_at (AtScalar x) v s = with_scalar s x v
put_at (AtWord a i) v s = with_word s a i v

abbrev pub located : (ℕ → ℕ) → Calls → Place → Store → Part Located
located spot calls (InLocal x) s = With (AtScalar x) s
located spot calls (InGlobal a) s = With (AtWord (spot a) 0) s
located spot calls (InElement a i) s = and_then (value spot calls i s) (λ index t. at_element (spot a) index t (λ j. With (AtWord (spot a) j) t))

-- how a loop is left behind a turn, where it is
abbrev pub IsAfterTurn : Leave → Option Leave → Type 0
IsAfterTurn left None = (s : Store) (f : Store → Part Leaves) → after_turn (With (leaves_of left) s) f ≡ f s
IsAfterTurn left (Some out) = (s : Store) (f : Store → Part Leaves) → after_turn (With (leaves_of left) s) f ≡ With (leaves_of out) s

abbrev pub IsAfterBody : Leave → Option Leave → Type 0
IsAfterBody left None = (s : Store) (f : Store → Part Leaves) → after_body (With (leaves_of left) s) f ≡ f s
IsAfterBody left (Some out) = (s : Store) (f g : Store → Part Leaves) → after_turn (after_body (With (leaves_of left) s) f) g ≡ With (leaves_of out) s

-- what a function gives, by how its body is left
abbrev pub given : Leave → ℤ
given LeaveFalls = pos 0
given LeaveBreaks = pos 0
given LeaveContinues = pos 0
given (LeaveReturns r) = r
