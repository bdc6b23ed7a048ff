-- What is compiled of an unrolled program is compiled of the source: the words do what the source does, and functions have their names.
use Rattle.std.proofs.Common.{◌≡◌, ℕ, List, Option, None, sym, subst}
use Rattle.vx_base.proofs.Same.{same_on}
use Rattle.vx_io.specs.Outside.{Files}
use Rattle.vx_isa.specs.declared.program.WordProgram.{WordProgram}
use Rattle.vx_isa.specs.Machine.{words_run}
use Rattle.vx_isa.specs.Numbers.{Numbers}
use Rattle.vx_ast.specs.Tree.{Program}
use Rattle.vx_ast.specs.Meaning.{source}
use Rattle.vx_report.specs.Report.{names_of}
use Rattle.vx_unroll.specs.Unrolling.{UnrolledBy}
use Rattle.vx_unroll.proofs.Asking.{unrolled_by_is_same, names_stay_by}
use Rattle.vx_compiled.specs.Faithful.{Faithful}
use Rattle.vx_commands.specs.Executed.{CompiledBy}

module _ (asked : Option ℕ) (p q : Program) (turns : UnrolledBy asked p q) where
  pub faithful_back : (m : Numbers) (w : WordProgram) → Faithful q m w → Faithful p m w
  faithful_back m w f = record {
    same = λ input times numbers some. same_on (source p input) (source q input) (words_run m times w input) (unrolled_by_is_same asked p q turns input) (f.same input times numbers some);
    never_stuck = f.never_stuck;
  }

  pub names_back : names_of q ≡ names_of p
  names_back = names_stay_by asked p q turns

  pub compiled_back : (told : Option Files) (profile : Option (List ℕ)) (growth : ℕ) (inline select : Option ℕ) (m : Numbers) (w : WordProgram) → CompiledBy told profile growth None inline select q m w →
      CompiledBy told profile growth asked inline select p m w
  compiled_back told profile growth inline select m w by = record {
    counts = by.counts;
    counted = by.counted;
    unrolled = by.unrolled;
    turns = subst (UnrolledBy asked p) (sym by.turns) turns;
    plan = by.plan;
    compiled = by.compiled;
    rewritten = by.rewritten;
    faithful = faithful_back m w by.faithful;
  }
