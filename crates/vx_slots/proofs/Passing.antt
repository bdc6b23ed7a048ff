-- The steps by which transfers are passed.
use Rattle.std.proofs.Common.{◌≡◌, ◌-◌, ◌==◌, ℕ, zero, suc, true, false, List, refl, sym, ap, ◌∙◌, arith}
use Rattle.std.specs.Prelude.{slice_get}
use Rattle.std.proofs.lemmas.Bool.{eqb-true}
use Rattle.vx_mixed.specs.declared.layout.VirtualWord.{VirtualWord}
use Rattle.vx_target.specs.Target.{most_transfers, past_from, past_there}

pub past_none : (words : List VirtualWord) (n q : ℕ) → (n == 0) ≡ true → q ≡ past_from words n q
past_none words n q e = let z : n ≡ 0 = eqb-true n 0 e in ap (λ k. past_from words k q) (sym z)

-- a place that is not passed stays
stays : (words : List VirtualWord) (n q : ℕ) → past_there q (slice_get words q) ≡ q → q ≡ past_from words n q
stays words zero q e = refl
stays words (suc n) q e = stays words n q e ∙ ap (past_from words n) (sym e)

pub past_place : (words : List VirtualWord) (n q next : ℕ) → next ≡ past_there q (slice_get words q) → (next == q) ≡ true → q ≡ past_from words n q
past_place words n q next is e = let z : next ≡ q = eqb-true next q e in stays words n q (sym is ∙ z)

pub past_on : (words : List VirtualWord) (n q next : ℕ) → (n == 0) ≡ false → next ≡ past_there q (slice_get words q) → past_from words (n - 1) next ≡ past_from words n q
past_on words zero q next some is = let z : true ≡ false = some in cc
past_on words (suc n) q next some is = let z : suc n - 1 ≡ n = omega arith in ap (λ k. past_from words k next) z ∙ ap (past_from words n) is

-- as many as a jump goes past
pub past_most : (words : List VirtualWord) (d q : ℕ) → d ≡ past_from words 64 q → d ≡ past_from words most_transfers q
unfolding most_transfers
past_most words d q e = e
