use Rattle.std.proofs.Common.{◌≡◌, ◌+◌, ◌*◌, true, subst, sym}
use Rattle.vx_isa.specs.Machine.{memory_at_start}
use Rattle.vx_isa.specs.Sound.{is_start}
use Rattle.vx_target.specs.Frames.{first_or_zero}
use Rattle.vx_target.specs.Tied.{words_before}
use Rattle.vx_calls.proofs.Globals.{ascends, starts}
use Rattle.vx_calls.proofs.addresses.first_words.Goals as goal

pub returns-clause-start : goal.returns-clause-start
returns-clause-start c = λ a i x e h. subst (λ start. memory_at_start start (4 * (words_before c.args.globals.now a + i)) ≡ first_or_zero x.first i) (sym c.in_ok-start.ensures) (starts c.args.globals.now a i x e h)

pub returns-clause-ascending : goal.returns-clause-ascending
returns-clause-ascending c = λ memory h. subst (λ start. is_start memory 0 start ≡ true) (sym c.in_ok-start.ensures) (ascends c.args.globals.now memory h)
