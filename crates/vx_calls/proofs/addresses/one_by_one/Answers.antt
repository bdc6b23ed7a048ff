-- Each turn places one global more.
use Rattle.std.proofs.Common.{◌+◌, ◌∷◌, [], ℕ, drop, refl, ap, sym}
use Rattle.vx_calls.specs.Globals.{begins_from}
use Rattle.vx_calls.proofs.Globals.{words_more}
use Rattle.vx_calls.proofs.Pieces.{placed_all, placed_more}
use Rattle.vx_calls.proofs.addresses.one_by_one.Goals as goal

pub loop-global-preserved : goal.loop-global-preserved
loop-global-preserved c =
    let globals = c.args.globals.now in
    let i = c.loop-global.global-index in
    let n = c.loop-global.words in
    let h = c.loop-global.invariant in
    let lt = c.loop-global-test.true in
    let is = c.in_ok-words.ensures in
    record {
      begins = placed_more begins_from c.loop-global.begins _ n globals i h.begins c.push.new.self (n ∷ []) c.in_ok-words.words _ lt (ap (λ (k : ℕ). n ∷ begins_from k (drop (i + 1) globals)) (sym is)) c.in_ok-push.ensures.ok;
      words = words_more globals i n c.in_ok-words.words _ _ h.words lt is;
    }

pub returns-clause-begins : goal.returns-clause-begins
returns-clause-begins c = placed_all begins_from c.loop-global.begins _ c.loop-global.words c.args.globals.now c.loop-global.global-index c.loop-global.invariant.begins c.loop-global-test.false refl
