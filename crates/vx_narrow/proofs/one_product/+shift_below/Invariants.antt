use Rattle.vx_narrow.proofs.one_product.+shift_below.Given as goal

abbrev pub decreases-shift_below : goal.decreases-shift_below
decreases-shift_below l = l.most
