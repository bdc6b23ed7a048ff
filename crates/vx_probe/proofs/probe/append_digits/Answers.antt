-- A number below 10 ^ 10 has ten digits at most.
use Rattle.std.proofs.Common.{◌≡◌, ◌≤◌, ◌<◌, ◌^◌, ◌∙◌, ap, arith, length, decimal}
use Rattle.std.proofs.lemmas.Fmt.{length-decimal-le}
use Rattle.vx_probe.proofs.probe.append_digits.Goals as goal

pub append-requires : goal.append-requires
append-requires c =
    let n = c.args.number in
    let small : n < 10 ^ 10 = omega (arith, c.requires.small) in
    let fits : n < 2 ^ 64 = omega (arith, c.requires.small) in
    let short : length (decimal n) ≤ 10 = length-decimal-le 10 n (omega arith) small fits in
    let text : length c.as_bytes.result.now ≡ length (decimal n) = ap length (c.as_bytes.ensures.value ∙ c.format-digits.ensures.text) in
    omega (arith, short, text, c.requires.room)

pub returns-clause-behind : goal.returns-clause-behind
returns-clause-behind c =
    let n = c.args.number in
    let small : n < 10 ^ 10 = omega (arith, c.requires.small) in
    let fits : n < 2 ^ 64 = omega (arith, c.requires.small) in
    let short : length (decimal n) ≤ 10 = length-decimal-le 10 n (omega arith) small fits in
    let text : length c.as_bytes.result.now ≡ length (decimal n) = ap length (c.as_bytes.ensures.value ∙ c.format-digits.ensures.text) in
    let behind = c.append.ensures.behind in
    omega (arith, short, text, behind)
