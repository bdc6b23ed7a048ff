-- What a call hands on where it stops.
use Rattle.std.proofs.Common.{◌≡◌, sym, subst, Result, Ok, Err, IfErr, IsErrAnd}
use Rattle.vx_parse.specs.declared.stop.Stop.{Stop}

-- the stop that `?` hands on is the one it was handed
pub handed_on : {T : Type 0} (P : Stop → Type 0) (r : Result T Stop) (s : Stop) → IsErrAnd r (λ t. t ≡ s) → P s → IfErr r P
handed_on P (Ok x) s e h = tt
handed_on P (Err t) s e h = subst P (sym e) h
