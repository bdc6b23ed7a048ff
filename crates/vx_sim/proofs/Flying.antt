-- What cycles make of the writes in flight.
use Rattle.std.proofs.Common.{◌≡◌, ℕ, suc, ◌+◌, ◌<◌, ℤ, List, ◌∷◌, map, length, sym, ap, ◌∙◌, arith, drop, get_or, drop-cons}
use Rattle.vx_base.specs.Flight.{written, landed, flying, landed_in, flying_in}
use Rattle.vx_isa.specs.declared.operation.Register.{Register}
use Rattle.vx_isa.specs.Operations.{same}
use Rattle.vx_isa.specs.Machine.{Write}
use Rattle.vx_sim.specs.declared.flight.Flight.{Flight}
use Rattle.vx_sim.specs.Flying.{write_of}

-- one write more
pub land_more : (held new all : Register → ℤ) (f : Flight) (fs : List Flight) → new ≡ written same held f.to f.number → landed same held (map (write_of 0) (f ∷ fs)) ≡ all → landed same new (map (write_of 0) fs) ≡ all
land_more held new all f fs e so_far = ap (λ r. landed same r (map (write_of 0) fs)) e ∙ so_far

-- cycles, one by one

pub landed_more : (n k : ℕ) (held new all : Register → ℤ) (ws us : List Write) → n ≡ suc k → new ≡ landed same held ws → us ≡ flying ws → landed_in same n held ws ≡ all → landed_in same k new us ≡ all
landed_more n k held new all ws us e h f so_far = ap (λ r. landed_in same k r us) h ∙ ap (landed_in same k (landed same held ws)) f ∙ sym (ap (λ i. landed_in same i held ws) e) ∙ so_far

pub flying_more : (n k : ℕ) (ws us all : List Write) → n ≡ suc k → us ≡ flying ws → flying_in n ws ≡ all → flying_in k us ≡ all
flying_more n k ws us all e f so_far = ap (flying_in k) f ∙ sym (ap (λ i. flying_in i ws) e) ∙ so_far

pub landed_end : (n : ℕ) (held all : Register → ℤ) (ws : List Write) → n ≡ 0 → landed_in same n held ws ≡ all → held ≡ all
landed_end n held all ws e so_far = sym (ap (λ i. landed_in same i held ws) e) ∙ so_far

-- the item at which a loop stands
pub item_here : {A : Type 0} (xs : List A) (i : ℕ) (x : A) → i < length xs → x ≡ get_or xs i x → drop i xs ≡ x ∷ drop (i + 1) xs
item_here xs i x lt e = drop-cons xs i x lt ∙ ap (λ y. y ∷ drop (suc i) xs) (sym e) ∙ ap (λ n. x ∷ drop n xs) (let s : suc i ≡ i + 1 = omega arith in s)
