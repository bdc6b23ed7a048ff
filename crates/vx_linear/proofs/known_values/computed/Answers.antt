use Rattle.std.proofs.Common.{◌≡◌, ◌≢◌, IfOk, true, false, subst, sym}
use Rattle.std.proofs.lemmas.Result.{IfOk-weaker}
use Rattle.vx_base.specs.declared.arithmetic.Code.TheVariants.{Mpylu, Mpyhs}
use Rattle.vx_linear.specs.declared.known_values.Known.{Known}
use Rattle.vx_linear.specs.Followed.{by_half, computed}
use Rattle.vx_linear.proofs.known_values.computed.Goals as goal

pub returns-in_default : goal.returns-in_default
returns-in_default c =
    let found : Known = computed c.args.place c.args.code c.args.left.operand c.args.right.operand c.args.left.known c.args.right.known in
    IfOk-weaker c.plain_made.result
    (λ known. c.args.code ≢ Mpylu → c.args.code ≢ Mpyhs → found ≡ known)
    (λ known. known ≡ found)
    (λ known h. sym (h c.in_default.not-Mpylu c.in_default.not-Mpyhs))
    c.plain_made.ensures

pub returns-in-Mpylu : goal.returns-in-Mpylu
returns-in-Mpylu c =
    let left = c.args.left in
    let right = c.args.right in
    subst (λ k. IfOk c.half_product.result (λ (known : Known). known ≡ computed c.args.place k left.operand right.operand left.known right.known)) (sym c.in-Mpylu.is)
    (subst (λ k. IfOk c.half_product.result (λ (known : Known). known ≡ by_half false c.args.place k left.operand right.operand left.known right.known)) c.in-Mpylu.is c.half_product.ensures)

pub returns-in-Mpyhs : goal.returns-in-Mpyhs
returns-in-Mpyhs c =
    let left = c.args.left in
    let right = c.args.right in
    subst (λ k. IfOk c.half_product-in-Mpyhs.result (λ (known : Known). known ≡ computed c.args.place k left.operand right.operand left.known right.known)) (sym c.in-Mpyhs.is)
    (subst (λ k. IfOk c.half_product-in-Mpyhs.result (λ (known : Known). known ≡ by_half true c.args.place k left.operand right.operand left.known right.known)) c.in-Mpyhs.is c.half_product-in-Mpyhs.ensures)
