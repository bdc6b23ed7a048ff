use Rattle.std.proofs.Common.{◌∷◌, ◌++◌, ◌∙◌, [], Result, Ok, Err, OnOk, sym, ap, subst}
use Rattle.std.proofs.lemmas.Result.{on_ok_weaker}
use Rattle.vx_bug.specs.Clusters.{general_reads, some_of}
use Rattle.vx_bug.specs.Copies.{copied_for}
use Rattle.vx_bug.specs.Laying.{Adds, standing}
use Rattle.vx_bug.specs.Ledgers.{homes_in}
use Rattle.vx_bug.proofs.Needing.{copies_before, no_copies_before, two_serve, none_serve}
use Rattle.vx_bug.proofs.cluster_copies.stand_with_copies.Goals as goal

either_way : {A E P : Type 0} (result : Result A E) → P → OnOk result P
either_way (Ok x) p = p
either_way (Err e) p = tt

pub returns-in_ok-add_served-clause-adds : goal.returns-in_ok-add_served-clause-adds
returns-in_ok-add_served-clause-adds c =
    let site = c.args.site.now in
    let homes = homes_in site.homes.now in
    either_way c.add_served-then-reads_copies.result
    (copies_before site.values homes c.args.served.now.items c.args.op.now site.cluster c.args.fixed (some_of c.copies_needed-needed.result.first ++ some_of c.copies_needed-needed.result.second) c.args.out.now c.put_with_copies.new.out
    (sym c.reads_copies.ensures ∙ c.if-reads_copies.true)
    (c.copies_needed-needed.ensures ∙ ap (λ z. copied_for homes site.cluster z (general_reads c.args.op.now)) c.as_slice.ensures.value)
    c.in_ok-put_with_copies.ensures)

pub returns-in_ok-add_served-clause-served : goal.returns-in_ok-add_served-clause-served
returns-in_ok-add_served-clause-served c =
    let site = c.args.site.now in
    let homes = homes_in site.homes.now in
    on_ok_weaker c.add_served-then-reads_copies.result
    (λ q. two_serve homes c.args.served.now.items c.add_served.new.served.items c.add_served-then-reads_copies.new.served.items c.args.op.now site.cluster c.args.fixed c.copies_needed-needed.result.first c.copies_needed-needed.result.second
    (sym c.reads_copies.ensures ∙ c.if-reads_copies.true)
    (c.copies_needed-needed.ensures ∙ ap (λ z. copied_for homes site.cluster z (general_reads c.args.op.now)) c.as_slice.ensures.value)
    c.in_ok-add_served.ensures q)
    c.add_served-then-reads_copies.ensures

pub returns-in_ok-op-clause-adds : goal.returns-in_ok-op-clause-adds
returns-in_ok-op-clause-adds c =
    let site = c.args.site.now in
    on_ok_weaker c.put.result
    (λ p. no_copies_before site.values (homes_in site.homes.now) c.args.served.now.items c.args.op.now site.cluster c.args.fixed c.args.out.now c.put.new.out (sym c.reads_copies.ensures ∙ c.if-reads_copies.false)
    (subst (λ o. Adds c.args.out.now c.put.new.out (standing o site.cluster c.args.fixed ∷ [])) c.in_ok-op.ensures p))
    c.put.ensures

pub returns-in_ok-op-clause-served : goal.returns-in_ok-op-clause-served
returns-in_ok-op-clause-served c =
    let site = c.args.site.now in
    either_way c.put.result (none_serve (homes_in site.homes.now) c.args.served.now.items c.args.op.now site.cluster c.args.fixed (sym c.reads_copies.ensures ∙ c.if-reads_copies.false))
