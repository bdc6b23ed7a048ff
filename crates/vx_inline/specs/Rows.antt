-- A worked call: the flow of two functions, and what it is with the call inlined.
use Rattle.std.specs.Prelude.{◌≡◌, ◌≤◌, ℕ, pos, Some, None, List, [], ◌∷◌, replicate}
use Rattle.vx_base.specs.declared.arithmetic.Code.TheVariants.{Add, ToBranch}
use Rattle.vx_base.specs.declared.arithmetic.Compare.TheVariants.{Eq}
use Rattle.vx_base.specs.declared.outcome.Trap.TheVariants.{Divide, Index}
use Rattle.vx_flow.specs.declared.graph.Operand.TheVariants.{Held, Number}
use Rattle.vx_flow.specs.declared.graph.Bank.{Bank}
use Rattle.vx_flow.specs.declared.graph.Bank.TheVariants.{General, Branch}
use Rattle.vx_flow.specs.declared.graph.Op.{Op}
use Rattle.vx_flow.specs.declared.graph.Op.TheVariants.{Compute, Decimal}
use Rattle.vx_flow.specs.declared.graph.Exit.TheVariants.{Goto, Split, Call, Return, Ends}
use Rattle.vx_flow.specs.declared.graph.Block.{Block}
use Rattle.vx_flow.specs.declared.graph.Graph.{Graph}
use Rattle.vx_flow.specs.declared.graph.Flow.{Flow}
use Rattle.vx_inline.specs.declared.site.Site.{Site}
use Rattle.vx_profile.specs.declared.counts.Counts.{Counts}
use Rattle.vx_inline.specs.Choosing.{Chosen}
use Rattle.vx_inline.specs.Inlined.{TheCall, CallAt, IsPermitted, Inlined, inlined, move}

abbrev pub row_of_values : (values : ℕ) → List Block → Graph
row_of_values n blocks = record { blocks = blocks; banks = replicate n General; parameters = []; arrays = [] }

-- v0 = mov 4, and a call of function 1 with v0, whose result is v1
abbrev pub first_block : Block
first_block = record { ops = move 0 (Number (pos 4)) ∷ []; exit = Call 1 (Held 0 ∷ []) (Some 1) 1 }

abbrev pub last_block : Block
last_block = record { ops = Decimal (Held 1) ∷ []; exit = Return (Number (pos 0)) }

-- twice its parameter
abbrev pub twice : Graph
twice = record { blocks = record { ops = Compute Add 1 (Held 0) (Held 0) ∷ []; exit = Return (Held 1) } ∷ []; banks = General ∷ General ∷ []; parameters = 0 ∷ []; arrays = [] }

abbrev pub flow_of : Graph → Flow
flow_of graph = record { functions = graph ∷ twice ∷ []; globals = []; texts = []; main = 0 }

-- the caller has so many values
abbrev pub before : (values : ℕ) → Flow
before n = flow_of (row_of_values n (first_block ∷ last_block ∷ []))

abbrev pub after : Flow
after = flow_of (row_of_values 4 (
    record { ops = move 0 (Number (pos 4)) ∷ move 2 (Held 0) ∷ []; exit = Goto 2 } ∷
    last_block ∷
    record { ops = Compute Add 3 (Held 2) (Held 2) ∷ move 1 (Held 3) ∷ []; exit = Goto 1 } ∷ []))

abbrev pub the_site : Site
the_site = record { function = 0; block = 0 }

-- with four values the call may be inlined, and this comes of it
abbrev pub RowIsInlined : Type 0
RowIsInlined = Inlined (before 4) the_site after

-- with three it may not
abbrev pub RowIsNotPermitted : Type 0
RowIsNotPermitted = (c : CallAt (before 3) the_site) (free : Bank → List ℕ) → IsPermitted (before 3) the_site c free → ⊥

-- with four values the call is chosen, where its callee's one operation is not too many
abbrev pub RowIsChosen : Type 0
RowIsChosen = (counts : Counts) (most : ℕ) → 1 ≤ most → Chosen (before 4) counts most (Some the_site)

-- with three nothing is
abbrev pub RowHasNone : Type 0
RowHasNone = (counts : Counts) (most : ℕ) → Chosen (before 3) counts most None

-- trap blocks of both become one for each kind, and two splits that now lead to one of them get blocks for their edges

abbrev pub test : ℕ → Op
test v = Compute (ToBranch Eq) v (Held 0) (Number (pos 0))

abbrev pub trapping_caller : List Block → Graph
trapping_caller blocks = record { blocks = blocks; banks = General ∷ General ∷ General ∷ Branch ∷ Branch ∷ []; parameters = 0 ∷ []; arrays = [] }

abbrev pub trapping_callee : Graph
trapping_callee = record {
  blocks =
      record { ops = test 1 ∷ []; exit = Split 1 1 3 } ∷
      record { ops = []; exit = Split 1 2 4 } ∷
      record { ops = []; exit = Return (Held 0) } ∷ record { ops = []; exit = Ends Index } ∷ record { ops = []; exit = Ends Divide } ∷ [];
  banks = General ∷ Branch ∷ [];
  parameters = 0 ∷ [];
  arrays = [];
}

abbrev pub trapping_call : TheCall
trapping_call = record {
  caller = trapping_caller (
      record { ops = test 3 ∷ []; exit = Split 3 1 3 } ∷ record { ops = []; exit = Call 1 (Held 0 ∷ []) (Some 1) 2 } ∷ last_block ∷ record { ops = []; exit = Ends Index } ∷ []);
  block = record { ops = []; exit = Call 1 (Held 0 ∷ []) (Some 1) 2 };
  called = 1;
  arguments = Held 0 ∷ [];
  result = Some 1;
  next = 2;
  callee = trapping_callee;
}

abbrev pub trapping_flow : Graph → Flow
trapping_flow graph = record { functions = graph ∷ trapping_callee ∷ []; globals = []; texts = []; main = 0 }

abbrev pub trapping_free : Bank → List ℕ
trapping_free General = 2 ∷ []
trapping_free Branch = 4 ∷ []

abbrev pub EdgesGetBlocks : Type 0
EdgesGetBlocks = inlined (trapping_flow trapping_call.caller) (record { function = 0; block = 1 }) trapping_call trapping_free ≡ trapping_flow (trapping_caller (
    record { ops = test 3 ∷ []; exit = Split 3 1 6 } ∷
    record { ops = move 2 (Held 0) ∷ []; exit = Goto 3 } ∷
    last_block ∷
    record { ops = Compute (ToBranch Eq) 4 (Held 2) (Number (pos 0)) ∷ []; exit = Split 4 4 7 } ∷
    record { ops = []; exit = Split 4 5 8 } ∷
    record { ops = move 1 (Held 2) ∷ []; exit = Goto 2 } ∷
    record { ops = []; exit = Goto 9 } ∷ record { ops = []; exit = Goto 9 } ∷ record { ops = []; exit = Ends Divide } ∷ record { ops = []; exit = Ends Index } ∷ []))
