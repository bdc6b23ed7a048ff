use Rattle.vx_claims.proofs.residues.+empty_places.Given as goal

abbrev pub decreases-empty_places : goal.decreases-empty_places
decreases-empty_places l = l.places
