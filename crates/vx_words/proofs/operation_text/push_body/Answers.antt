-- What stands behind the cluster is what the call of its operation puts.
use Rattle.std.proofs.Common.{◌++◌, codes, refl, ap, sym}
use Rattle.std.specs.Prelude.{decimal}
use Rattle.vx_words.specs.Spelling.{branch_on_text, compute_text, general_text, label_text, select_text, source_text}
use Rattle.vx_words.proofs.Pieces.{put_behind, put_named, put_whole, three_at_once, two_at_once}
use Rattle.vx_words.proofs.operation_text.push_body.Goals as goal

pub returns-in-Compute : goal.returns-in-Compute
returns-in-Compute c = put_whole c.push_compute.result c.args.out.now.items _ (compute_text c.in-Compute.code c.in-Compute.to c.in-Compute.left c.in-Compute.right) c.args.operation _ c.in-Compute.is refl c.push_compute.ensures

pub returns-in-Select : goal.returns-in-Select
returns-in-Select c = put_whole c.push_select.result c.args.out.now.items _ (select_text c.in-Select.to c.in-Select.test c.in-Select.left c.in-Select.right) c.args.operation _ c.in-Select.is refl c.push_select.ensures

pub returns-in-BranchOn : goal.returns-in-BranchOn
returns-in-BranchOn c = put_whole c.push_branch_on.result c.args.out.now.items _ (branch_on_text c.in-BranchOn.test c.in-BranchOn.taken_at_one c.in-BranchOn.target) c.args.operation _ c.in-BranchOn.is refl c.push_branch_on.ensures

pub returns-in-Return : goal.returns-in-Return
returns-in-Return c = put_whole c.push_bytes.result c.args.out.now.items _ (codes "return $l0.0") c.args.operation _ c.in-Return.is refl c.push_bytes.ensures

pub returns-in-Input : goal.returns-in-Input
returns-in-Input c = put_named c.push_named_general.result c.args.out.now.items _ (codes "in ") (general_text c.in-Input.to) c.args.operation _ c.in-Input.is refl c.push_named_general.ensures

pub returns-in-More : goal.returns-in-More
returns-in-More c = put_named c.push_named_general-in-More.result c.args.out.now.items _ (codes "more ") (general_text c.in-More.to) c.args.operation _ c.in-More.is refl c.push_named_general-in-More.ensures

pub returns-in-OutText : goal.returns-in-OutText
returns-in-OutText c = put_named c.push_named_number.result c.args.out.now.items _ (codes "outs T") (decimal c.in-OutText.text) c.args.operation _ c.in-OutText.is refl c.push_named_number.ensures

pub returns-in-OutDecimal : goal.returns-in-OutDecimal
returns-in-OutDecimal c = put_named c.push_named_source.result c.args.out.now.items _ (codes "outd ") (source_text c.in-OutDecimal.from) c.args.operation _ c.in-OutDecimal.is refl c.push_named_source.ensures

pub returns-in-OutByte : goal.returns-in-OutByte
returns-in-OutByte c = put_named c.push_named_source-in-OutByte.result c.args.out.now.items _ (codes "outb ") (source_text c.in-OutByte.from) c.args.operation _ c.in-OutByte.is refl c.push_named_source-in-OutByte.ensures

pub returns-in-Goto : goal.returns-in-Goto
returns-in-Goto c = put_named c.push_named_label.result c.args.out.now.items _ (codes "goto ") (label_text c.in-Goto.target) c.args.operation _ c.in-Goto.is refl c.push_named_label.ensures

pub returns-in-Call : goal.returns-in-Call
returns-in-Call c = put_named c.push_named_label-in-Call.result c.args.out.now.items _ (codes "call $l0.0 = ") (label_text c.in-Call.target) c.args.operation _ c.in-Call.is refl c.push_named_label-in-Call.ensures

pub returns-in-ToLink : goal.returns-in-ToLink
returns-in-ToLink c = put_named c.push_named_source-in-ToLink.result c.args.out.now.items _ (codes "mtl $l0.0 = ") (source_text c.in-ToLink.from) c.args.operation _ c.in-ToLink.is refl c.push_named_source-in-ToLink.ensures

pub returns-in-EndByTrap : goal.returns-in-EndByTrap
returns-in-EndByTrap c = put_named c.push_named_number-in-EndByTrap.result c.args.out.now.items _ (codes "trap ") (decimal c.number_of_trap.result) c.args.operation _ c.in-EndByTrap.is (ap (λ n. codes "trap " ++ decimal n) (sym c.number_of_trap.ensures)) c.push_named_number-in-EndByTrap.ensures

pub returns-in-Halt : goal.returns-in-Halt
returns-in-Halt c = put_named c.push_named_source-in-Halt.result c.args.out.now.items _ (codes "halt ") (source_text c.in-Halt.from) c.args.operation _ c.in-Halt.is refl c.push_named_source-in-Halt.ensures

pub returns-in_ok-push_general_to-in-Move : goal.returns-in_ok-push_general_to-in-Move
returns-in_ok-push_general_to-in-Move c =
    let old = c.args.out.now.items in
    let to = general_text c.in-Move.to in
    let from = source_text c.in-Move.from in
    let front = codes "mov " ++ to ++ codes " = " in
    let mid = three_at_once old _ (codes "mov ") to (codes " = ") c.in_ok-push_general_to-in-Move.ensures in
    put_whole c.push_source.result old _ (front ++ from) c.args.operation _ c.in-Move.is refl (put_behind c.push_source.result old _ _ front from mid c.push_source.ensures)

pub returns-in_ok-push_named_general-in-FromLink : goal.returns-in_ok-push_named_general-in-FromLink
returns-in_ok-push_named_general-in-FromLink c =
    let old = c.args.out.now.items in
    let to = general_text c.in-FromLink.to in
    let front = codes "mfl " ++ to in
    let mid = two_at_once old _ (codes "mfl ") to c.in_ok-push_named_general-in-FromLink.ensures in
    put_whole c.push_bytes-in-FromLink.result old _ (front ++ codes " = $l0.0") c.args.operation _ c.in-FromLink.is refl (put_behind c.push_bytes-in-FromLink.result old _ _ front (codes " = $l0.0") mid c.push_bytes-in-FromLink.ensures)
