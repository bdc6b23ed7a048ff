-- The line of each trap is the one that is put.
use Rattle.std.proofs.Common.{ap, sym}
use Rattle.vx_status.specs.Status.{trap_line}
use Rattle.vx_status.proofs.Appending.{puts_as}
use Rattle.vx_status.proofs.status.put_trap_line.Goals as goal

pub returns-in-Divide : goal.returns-in-Divide
returns-in-Divide g c = puts_as (ap trap_line (sym c.in-Divide.is)) c.put.ensures

pub returns-in-Index : goal.returns-in-Index
returns-in-Index g c = puts_as (ap trap_line (sym c.in-Index.is)) c.put-in-Index.ensures

pub returns-in-Input : goal.returns-in-Input
returns-in-Input g c = puts_as (ap trap_line (sym c.in-Input.is)) c.put-in-Input.ensures

pub returns-in-Depth : goal.returns-in-Depth
returns-in-Depth g c = puts_as (ap trap_line (sym c.in-Depth.is)) c.put-in-Depth.ensures
