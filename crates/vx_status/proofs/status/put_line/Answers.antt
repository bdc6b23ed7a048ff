-- The line of each status is the one that is put.
use Rattle.std.proofs.Common.{ap, sym}
use Rattle.vx_status.specs.Status.{status_line}
use Rattle.vx_status.proofs.Appending.{puts_as}
use Rattle.vx_status.proofs.status.put_line.Goals as goal

pub returns-in-Trapped : goal.returns-in-Trapped
returns-in-Trapped g c = puts_as (ap status_line (sym c.in-Trapped.is)) c.put_trap_line.ensures

pub returns-in-Usage : goal.returns-in-Usage
returns-in-Usage g c = puts_as (ap status_line (sym c.in-Usage.is)) c.put.ensures

pub returns-in-Limit : goal.returns-in-Limit
returns-in-Limit g c = puts_as (ap status_line (sym c.in-Limit.is)) c.put_limit_line.ensures

pub returns-in-Words : goal.returns-in-Words
returns-in-Words g c = puts_as (ap status_line (sym c.in-Words.is)) c.put_words_line.ensures

pub returns-in-Profile : goal.returns-in-Profile
returns-in-Profile g c = puts_as (ap status_line (sym c.in-Profile.is)) c.put_profile_line.ensures

pub returns-in-Machine : goal.returns-in-Machine
returns-in-Machine g c = puts_as (ap status_line (sym c.in-Machine.is)) c.put_machine_line.ensures

pub returns-in-NoFile : goal.returns-in-NoFile
returns-in-NoFile g c = puts_as (ap status_line (sym c.in-NoFile.is)) c.put_role_line.ensures

pub returns-in-ReadFault : goal.returns-in-ReadFault
returns-in-ReadFault g c = puts_as (ap status_line (sym c.in-ReadFault.is)) c.put_role_line-in-ReadFault.ensures

pub returns-in-WriteFault : goal.returns-in-WriteFault
returns-in-WriteFault g c = puts_as (ap status_line (sym c.in-WriteFault.is)) c.put-in-WriteFault.ensures

pub returns-in-Stopped : goal.returns-in-Stopped
returns-in-Stopped g c = puts_as (ap status_line (sym c.in-Stopped.is)) c.put-in-Stopped.ensures

pub returns-in-Input : goal.returns-in-Input
returns-in-Input g c = puts_as (ap status_line (sym c.in-Input.is)) c.put_input_line.ensures

pub returns-in-Stuck : goal.returns-in-Stuck
returns-in-Stuck g c = puts_as (ap status_line (sym c.in-Stuck.is)) c.put_stuck_line.ensures

pub returns-in-NoMemory : goal.returns-in-NoMemory
returns-in-NoMemory g c = puts_as (ap status_line (sym c.in-NoMemory.is)) c.put-in-NoMemory.ensures

pub returns-in-NotStrict : goal.returns-in-NotStrict
returns-in-NotStrict g c = puts_as (ap status_line (sym c.in-NotStrict.is)) c.put_breach_line.ensures

pub returns-in-Source : goal.returns-in-Source
returns-in-Source g c = puts_as (ap status_line (sym c.in-Source.is)) c.put_source_line.ensures
