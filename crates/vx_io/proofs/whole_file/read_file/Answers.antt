use Rattle.std.proofs.Common.{◌≡◌, ◌≤◌, List, ℕ, length, refl, ◌∙◌, ap, arith}
use Rattle.vx_io.proofs.FileSoFar.{FileSoFar-start, FileSoFar-more, ReadsFile-whole, ReadsFile-too_long, reads_along, length_read}
use Rattle.vx_io.proofs.whole_file.read_file.Goals as goal

pub pieces-init : goal.pieces-init
pieces-init g c =
    let told = g.D.Depot.files c.args.depot.now in
    record {
      so_far = rw c.new-content.ensures.items (FileSoFar-start told c.args.name.now);
      within = omega (arith, c.new-content.ensures.len, ap (λ (xs : List ℕ). length xs) c.new-content.ensures.items);
      same = refl;
      reads = omega arith;
      replaces = omega arith;
    }

pub returns-then-count-eq0-clause-content : goal.returns-then-count-eq0-clause-content
returns-then-count-eq0-clause-content g c =
    let told = g.D.Depot.files c.args.depot.now in
    let at : c.len.result ≡ length c.pieces.content.items = omega (arith, c.len.ensures) in
    let read = reads_along told _ c.args.name.now c.read_at.new.into _ _ _ c.pieces.invariant.same at c.in_ok-count.ensures.bytes in
    ReadsFile-whole told c.args.name.now c.read_at.new.into c.pieces.content c.in_ok-count.count c.args.most c.pieces.invariant.so_far read c.if-count-eq0.true (omega (arith, c.read_at.auto.into)) c.pieces.invariant.within

pub returns-then-len-count-clause-content : goal.returns-then-len-count-clause-content
returns-then-len-count-clause-content g c =
    let told = g.D.Depot.files c.args.depot.now in
    let at : c.len.result ≡ length c.pieces.content.items = omega (arith, c.len.ensures) in
    let read = reads_along told _ c.args.name.now c.read_at.new.into _ _ _ c.pieces.invariant.same at c.in_ok-count.ensures.bytes in
    ReadsFile-too_long told c.args.name.now c.pieces.content.items c.read_at.new.into c.in_ok-count.count c.args.most c.pieces.invariant.so_far read (omega (arith, c.read_at.auto.into, c.in_ok-count.ensures.at_most_room)) (omega (arith, c.if-len-count.true, c.len-in-pieces.ensures))

pub pieces-preserved : goal.pieces-preserved
pieces-preserved g c =
    let told = g.D.Depot.files c.args.depot.now in
    let at : c.len.result ≡ length c.pieces.content.items = omega (arith, c.len.ensures) in
    let read = reads_along told _ c.args.name.now c.read_at.new.into _ _ _ c.pieces.invariant.same at c.in_ok-count.ensures.bytes in
    let content = c.pieces.content.items in
    let piece = c.read_at.new.into in
    let count = c.in_ok-count.count in
    let room : count ≤ length piece = omega (arith, c.read_at.auto.into, c.in_ok-count.ensures.at_most_room) in
    let longer = length_read content _ piece count c.in_ok-extend_from_slice.ensures.items room in
    record {
      so_far = rw c.in_ok-extend_from_slice.ensures.items (FileSoFar-more told c.args.name.now c.pieces.content.items c.read_at.new.into c.in_ok-count.count c.pieces.invariant.so_far read);
      within = omega (arith, c.if-len-count.false, c.len-in-pieces.ensures, longer);
      same = c.in_ok-count.ensures.same_files ∙ c.pieces.invariant.same;
      reads = omega (arith, c.pieces.invariant.reads, c.in_ok-count.ensures.reads_never_fall);
      replaces = omega (arith, c.pieces.invariant.replaces, c.in_ok-count.ensures.replaces_never_fall);
    }
