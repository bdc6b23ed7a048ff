use Rattle.vx_profile.specs.Text.{header}
use Rattle.vx_profile.proofs.Numbers.{behind_is}
use Rattle.vx_profile.proofs.Progress.{bad_header, ok_at, err_at}
use Rattle.vx_profile.proofs.count_reader.read_counts.Goals as goal

pub returns-in-Some-clause-spelled : goal.returns-in-Some-clause-spelled
returns-in-Some-clause-spelled c = ok_at c.args.bytes.now c.in-Some.rows.now c.read_rows.result (behind_is header c.args.bytes.now c.in-Some.rows.now c.in-Some.ensures) c.read_rows.ensures.spelled

pub returns-in-Some-clause-fault : goal.returns-in-Some-clause-fault
returns-in-Some-clause-fault c = err_at c.args.bytes.now c.in-Some.rows.now c.read_rows.result (behind_is header c.args.bytes.now c.in-Some.rows.now c.in-Some.ensures) c.read_rows.ensures.fault

pub returns-in-None-clause-fault : goal.returns-in-None-clause-fault
returns-in-None-clause-fault c = λ _. bad_header c.args.bytes.now c.in-None.ensures
