use Rattle.std.proofs.Common.{◌≡◌, ◌∙◌, ◌++◌, ◌∷◌, [], List, ap, sym, map, append_assoc, append-nil}
use Rattle.std.proofs.lemmas.List.{nil_from_length}
use Rattle.vx_flow.specs.declared.trace.Join.{Join}
use Rattle.vx_dep.specs.declared.copies.Rejoin.{Rejoin}
use Rattle.vx_dep.specs.Compensation.{rejoin_of}
use Rattle.vx_join.proofs.joins.at_joins.Goals as goal

-- one more entry
one_more : (F : Join → Rejoin) (so_far next whole : List Rejoin) (left rest : List Join) (join : Join) (entry : Rejoin) → so_far ++ map F left ≡ whole → left ≡ join ∷ rest → entry ≡ F join → next ≡ so_far ++ entry ∷ [] → next ++ map F rest ≡ whole
one_more F so_far next whole left rest join entry so l e n =
    ap (λ xs. xs ++ map F rest) n ∙ append_assoc so_far (entry ∷ []) (map F rest) ∙ ap (λ x. so_far ++ x ∷ map F rest) e ∙ ap (λ xs. so_far ++ map F xs) (sym l) ∙ so

pub joins-preserved : goal.joins-preserved
joins-preserved c =
    one_more (rejoin_of c.args.placed.now.words) c.joins.rejoins.items c.push.new.self.items _ c.joins.rest.now c.in-Some.others.now c.in-Some.join.now c.in_ok-rejoin-in-Some.rejoin c.joins.invariant c.in-Some.ensures.cases.0 c.in_ok-rejoin-in-Some.ensures c.in_ok-push-in-Some.ensures.items

pub returns-in-None : goal.returns-in-None
returns-in-None c =
    sym (append-nil c.joins.rejoins.items) ∙ ap (λ xs. c.joins.rejoins.items ++ map (rejoin_of c.args.placed.now.words) xs) (sym (nil_from_length c.joins.rest.now c.in-None.ensures.cases)) ∙ c.joins.invariant
