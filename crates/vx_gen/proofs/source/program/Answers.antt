use Rattle.std.proofs.Common.{ℕ, ◌<◌, List, length, subst, sym}
use Rattle.vx_gen.proofs.Length.{program_length}
use Rattle.vx_gen.proofs.Pieces.{whole_program}
use Rattle.vx_gen.proofs.source.program.Goals as goal

pub returns-clause-text : goal.returns-clause-text
returns-clause-text c = whole_program c.args.seed c.args.size _ _ _ _ _ _ c.new-out.ensures.items c.in_ok-push_array.ensures c.in_ok-push_functions.ensures c.count_of_functions.ensures.number c.in_ok-push_main.ensures

pub returns-clause-short : goal.returns-clause-short
returns-clause-short c =
    let text = whole_program c.args.seed c.args.size _ _ _ _ _ _ c.new-out.ensures.items c.in_ok-push_array.ensures c.in_ok-push_functions.ensures c.count_of_functions.ensures.number c.in_ok-push_main.ensures in
    subst (λ (l : List ℕ). length l < 1048576) (sym text) (program_length c.args.seed c.args.size c.requires.small)
