use Rattle.vx_claims.proofs.Bounds.{places_fit}
use Rattle.vx_claims.proofs.residues.times.Goals as goal

pub overflow_add-result : goal.overflow_add-result
overflow_add-result c = places_fit c.args.residue.places c.fewer-places.result c.empty_places.result _ c.fewer-places.ensures c.empty_places.ensures
