use Rattle.std.proofs.Common.{◌++◌, ap, refl, sym}
use Rattle.std.proofs.lemmas.Result.{on_ok_weaker}
use Rattle.vx_ast.specs.Meaning.{pieces_of}
use Rattle.vx_lower.specs.Makes.{bytes_of}
use Rattle.vx_lower.proofs.PrintMaking.{shifts_as, shifts_self, show_more, show_whole}
use Rattle.vx_lower.proofs.FittingStatements.{shows_all, shows_nothing, shows_on}
use Rattle.vx_lower.proofs.prints.show.Goals as goal

pub loop-byte-init : goal.loop-byte-init
loop-byte-init c =
    let ps = pieces_of c.args.bytes.now in
    let os = c.args.arguments.now in
    let b = c.args.b.now in
    let ts = c.args.texts.now in (
      λ r. shifts_as ps ps ps (bytes_of c.new.result ++ ps) os os b b ts ts refl (ap (λ z. bytes_of z ++ ps) (sym c.new.ensures)) (shifts_self ps os b ts r),
      shows_nothing os b ts,
    )

pub loop-byte-preserved : goal.loop-byte-preserved
loop-byte-preserved c = (
  show_more c.args.bytes.now c.loop-byte.byte-index _ _ c.args.arguments.now c.loop-byte.format c.show_byte.new.format c.args.b.now c.loop-byte.b c.show_byte.new.b c.args.texts.now c.loop-byte.texts c.show_byte.new.texts c.loop-byte-test.true refl c.loop-byte.invariant.0 c.in_ok-show_byte.ensures.code,
  shows_on c.args.arguments.now c.args.b.now c.loop-byte.b c.show_byte.new.b c.args.texts.now c.loop-byte.texts c.show_byte.new.texts c.loop-byte.invariant.1 c.in_ok-show_byte.ensures.fits,
)

pub returns-clause-code : goal.returns-clause-code
returns-clause-code c = on_ok_weaker c.show_text.result (λ h. show_whole c.args.bytes.now c.loop-byte.byte-index c.args.arguments.now c.loop-byte.format c.args.b.now c.loop-byte.b c.show_text.new.b c.args.texts.now c.loop-byte.texts c.show_text.new.texts c.loop-byte-test.false c.loop-byte.invariant.0 h.1) c.show_text.ensures.code

pub returns-clause-fits : goal.returns-clause-fits
returns-clause-fits c = on_ok_weaker c.show_text.result (λ h. shows_on c.args.arguments.now c.args.b.now c.loop-byte.b c.show_text.new.b c.args.texts.now c.loop-byte.texts c.show_text.new.texts c.loop-byte.invariant.1 (shows_all c.args.arguments.now c.loop-byte.b c.show_text.new.b c.loop-byte.texts c.show_text.new.texts h)) c.show_text.ensures.fits
