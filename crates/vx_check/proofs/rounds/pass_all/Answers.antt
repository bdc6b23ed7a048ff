use Rattle.std.proofs.Common.{◌≡◌, ℕ, ◌+◌, Bool, true, false, List, sym, subst, ◌∙◌, arith}
use Rattle.vx_tables.specs.Rows.{is_marked}
use Rattle.vx_isa.specs.declared.program.WordProgram.{WordProgram}
use Rattle.vx_isa.specs.Numbers.{Numbers}
use Rattle.vx_check.specs.declared.rounds.Flights.{Flights}
use Rattle.vx_check.specs.InFlight.{AreDue}
use Rattle.vx_check.proofs.Passing.{PassedBelow, all_passed, below_passed, below_skipped}
use Rattle.vx_check.proofs.rounds.pass_all.Goals as goal
use Rattle.vx_check.proofs.rounds.pass_all.Goals.{then-is_marked+in_ok-pass, else-is_marked}

unmarked : (marks : List Bool) (p : ℕ) → is_marked marks p ≡ false → is_marked marks p ≡ true → ⊥
unmarked marks p e h = absurd (cc)

-- what holds of the tables that are reached
ends : (m : Numbers) (w : WordProgram) (start : Flights) (n : ℕ) (made here : Flights) → here ≡ made → AreDue m w made.at.items made.anywhere → PassedBelow m w (n + 1) start.at.items start.anywhere made.at.items made.anywhere →
    record { due : AreDue m w here.at.items here.anywhere; passed : PassedBelow m w (n + 1) start.at.items start.anywhere here.at.items here.anywhere }
ends m w start n made here e due passed = record {
  due = subst (λ (f : Flights). AreDue m w f.at.items f.anywhere) (sym e) due;
  passed = subst (λ (f : Flights). PassedBelow m w (n + 1) start.at.items start.anywhere f.at.items f.anywhere) (sym e) passed;
}

pub places-preserved : goal.places-preserved
places-preserved c =
    let m = c.args.machine.now in
    let w = c.args.program.now in
    let start = c.args.flights.now in
    let before = c.places.flights in
    elim c.if-is_marked.branch [
      | then-is_marked+in_ok-pass t ↦
          ends m w start c.places.place t.pass.new.flights c.if-is_marked.flights t.flights-is
          (t.in_ok-pass.ensures.due c.places.invariant.due)
          (below_passed m w c.places.place start.at.items before.at.items t.pass.new.flights.at.items start.anywhere before.anywhere t.pass.new.flights.anywhere c.places.invariant.passed t.in_ok-pass.ensures.passed)
      | else-is_marked t ↦
          ends m w start c.places.place before c.if-is_marked.flights t.flights-is c.places.invariant.due
          (below_skipped m w c.places.place start.at.items before.at.items start.anywhere before.anywhere c.places.invariant.passed
          (λ r. unmarked c.args.marks.now c.places.place (sym c.is_marked.ensures ∙ t.if-is_marked.false) (c.requires.marks.whole c.places.place r c.places-test.true)))
    ]

pub returns-clause-passed : goal.returns-clause-passed
returns-clause-passed c =
    let over = c.places-test.false in
    let len = c.requires.marks.len in
    all_passed c.args.machine.now c.args.program.now c.places.place c.args.flights.now.at.items c.places.flights.at.items c.args.flights.now.anywhere c.places.flights.anywhere (omega arith) c.places.invariant.passed
