use Rattle.std.proofs.Common.{◌≡◌, ℕ, ℤ, to_z, of_z, w32, rules, ap, ◌∙◌}
use Rattle.vx_isa.specs.declared.operation.GeneralRegister.{GeneralRegister}
use Rattle.vx_isa.specs.declared.operation.Operation.TheVariants.{Store}
use Rattle.vx_isa.specs.declared.operation.Source.{Source}
use Rattle.vx_target.specs.Target.{bytes, stack_on}
use Rattle.vx_calls.proofs.call_words.pass.Goals as goal

-- the store, by its parts
store_is : (k l : ℕ) (made o : ℤ) (n m : ℕ) (b : GeneralRegister) (s t : Source) → k ≡ l → o ≡ made → made ≡ bytes n → n ≡ m → b ≡ stack_on k → s ≡ t → Store k o b s ≡ Store l (bytes m) (stack_on l) t
store_is k l made o n m b s t cluster fit offset slot base from =
    ap (λ (z : ℤ). Store k z b s) (fit ∙ offset ∙ ap bytes slot)
    ∙ ap (λ (z : GeneralRegister). Store k (bytes m) z s) base
    ∙ ap (λ (z : ℕ). Store z (bytes m) (stack_on z) s) cluster
    ∙ ap (λ (z : Source). Store l (bytes m) (stack_on l) z) from

pub returns : goal.returns
returns c =
    let made = c.in_ok-offset.offset in
    let fit : to_z w32 (of_z w32 made) ≡ made = search rules in
    store_is _ _ made _ _ _ _ _ _ c.cluster_of-cluster.ensures fit c.in_ok-offset.ensures c.slot.ensures c.stack_on.ensures c.fetched.ensures
