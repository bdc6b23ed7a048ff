-- A decided split goes one way: with it gone, a block does the same wherever it has a meaning.
use Rattle.std.proofs.Common.{◌≡◌, ◌⊎◌, inl, inr, ℕ, zero, suc, ◌+◌, Bool, true, false, List, [], ◌∷◌, slice_get, Option, Some, None, refl, sym, ap, ◌∙◌, subst, arith}
use Rattle.std.specs.List.{list_all}
use Rattle.std.specs.Option.{option_map}
use Rattle.vx_base.specs.Arithmetic.{one_if}
use Rattle.vx_flow.specs.declared.graph.Array.{Array}
use Rattle.vx_flow.specs.declared.graph.Op.{Op}
use Rattle.vx_flow.specs.declared.graph.Exit.{Exit}
use Rattle.vx_flow.specs.declared.graph.Exit.TheVariants.{Goto, Split, Call, Return, Ends}
use Rattle.vx_flow.specs.declared.graph.Block.{Block}
use Rattle.vx_flow.specs.declared.graph.Graph.{Graph}
use Rattle.vx_flow.specs.Apart.{StandApart}
use Rattle.vx_flow.specs.Effects.{Content, State, Setting, effect}
use Rattle.vx_flow.specs.Meaning.{Hop, Arrives, Wrong, by_test, leave, and_then, block_hop, hop_of}
use Rattle.vx_claims.specs.declared.claim.Claim.{Claim}
use Rattle.vx_claims.specs.declared.fact.Fact.{Fact}
use Rattle.vx_claims.specs.Facts.{decided}
use Rattle.vx_claims.specs.declared.access.Access.{Access}
use Rattle.vx_claims.specs.Accesses.{accessed}
use Rattle.vx_claims.specs.Forming.{form, after_known, after_from}
use Rattle.vx_narrow.specs.Checking.{has_numbers}
use Rattle.vx_narrow.specs.Rewriting.{side_of, GoesTo}
use Rattle.vx_narrow.specs.Rewriting.{split_by, narrowed_exit, narrowed_block, narrowed_from, narrowed_graph, narrowed_functions}
use Rattle.vx_narrow.specs.Shortening.{shortened, improved, improved_from}
use Rattle.vx_narrow.proofs.Ranges.{and_one, and_two}
use Rattle.vx_narrow.proofs.Tests.{decided_holds}
use Rattle.vx_narrow.proofs.Operations.{Good, SpotsFit}
use Rattle.vx_narrow.proofs.Behind.{Follows, Known, KeepsKnown, Claimed, form_follows, form_known}
use Rattle.vx_narrow.proofs.Products.{shortened_same}
use Rattle.vx_narrow.proofs.NearPlaces.{placed_same}

-- the first has no meaning, or the second is the same
abbrev pub Refines : Hop → Hop → Type 0
Refines h k = (h ≡ Wrong) ⊎ (k ≡ h)

tested : (b c d : ℕ) (s : State) (x : Content) (answer : Bool) → (x ≡ None) ⊎ (x ≡ Some (one_if answer)) → Refines (by_test x (Arrives b c s) (Arrives b d s)) (Arrives b (side_of answer c d) s)
tested b c d s x answer (inl e) = inl (ap (λ z. by_test z (Arrives b c s) (Arrives b d s)) e)
tested b c d s x true (inr e) = inr (sym (ap (λ z. by_test z (Arrives b c s) (Arrives b d s)) e))
tested b c d s x false (inr e) = inr (sym (ap (λ z. by_test z (Arrives b c s) (Arrives b d s)) e))

split_refines : (b p c d : ℕ) (s : State) (fs : List Fact) → Good fs s → Refines (leave b (Split p c d) s) (leave b (split_by (decided fs p) p c d) s)
split_refines b p c d s fs g = by (decided fs p) refl
  where
    by : (o : Option Bool) → decided fs p ≡ o → Refines (leave b (Split p c d) s) (leave b (split_by o p c d) s)
    by None e = inr refl
    by (Some answer) e = tested b c d s (s.values p) answer (decided_holds s.values g.fits.values fs g.facts p answer e)

exit_refines : (b : ℕ) (exit : Exit) (s : State) (fs : List Fact) → Good fs s → Refines (leave b exit s) (leave b (narrowed_exit fs exit) s)
exit_refines b (Goto c) s fs g = inr refl
exit_refines b (Split p c d) s fs g = split_refines b p c d s fs g
exit_refines b (Call f arguments result to) s fs g = inr refl
exit_refines b (Return x) s fs g = inr refl
exit_refines b (Ends k) s fs g = inr refl

then_refines : (setting : Setting) (fs : List Fact) (xs : List Access) (o o' : Option State) (f f' : State → Hop) → (o ≡ None) ⊎ (o' ≡ o) → KeepsKnown setting fs xs o → ((t : State) → Known setting fs xs t → Refines (f t) (f' t)) → Refines (and_then o f) (and_then o' f')
then_refines setting fs xs None o' f f' e k h = inl refl
then_refines setting fs xs (Some t) o' f f' (inl e) k h = absurd (cc)
then_refines setting fs xs (Some t) o' f f' (inr e) k h = subst (λ o. Refines (f t) (and_then o f')) (sym e) (h t k)

-- ---- operations

improved_follows : (arrays : List Array) (block : List Op) (setting : Setting) (s : State) (fs : List Fact) (xs : List Access) (op : Op) → SpotsFit setting → has_numbers op ≡ true → Known setting fs xs s →
    (effect setting s op s ≡ None) ⊎ (effect setting s (improved arrays block fs xs op) s ≡ effect setting s op s)
improved_follows arrays block setting s fs xs op spots n k = by (form_follows setting s fs xs op spots n k.good k.tell)
  where
    by : Follows setting s op (form fs xs op) → (effect setting s op s ≡ None) ⊎ (effect setting s (improved arrays block fs xs op) s ≡ effect setting s op s)
    by (inl e) = inl e
    by (inr e) = inr (placed_same setting s arrays block fs xs (shortened fs (form fs xs op)) k.good.facts k.tell ∙ shortened_same setting s fs k.good (form fs xs op) ∙ e.0)

ops_refine : (arrays : List Array) (whole : List Op) (setting : Setting) → StandApart arrays setting.spot → SpotsFit setting → (b : ℕ) (ops : List Op) (exit : Exit) (fs : List Fact) (xs : List Access) (s : State) → Known setting fs xs s → list_all has_numbers ops ≡ true →
    Refines (block_hop setting b ops exit s) (block_hop setting b (improved_from arrays whole fs xs ops) (narrowed_exit (after_from arrays fs xs ops) exit) s)
ops_refine arrays whole setting apart spots b [] exit fs xs s k n = exit_refines b exit s fs k.good
ops_refine arrays whole setting apart spots b (op ∷ ops) exit fs xs s k n =
    let fs' = after_known fs xs op (form fs xs op) in
    let xs' = accessed arrays xs (form fs xs op) in
    let one = and_one (has_numbers op) (list_all has_numbers ops) n in
    then_refines setting fs' xs' (effect setting s op s) (effect setting s (improved arrays whole fs xs op) s) (block_hop setting b ops exit) (block_hop setting b (improved_from arrays whole fs' xs' ops) (narrowed_exit (after_from arrays fs' xs' ops) exit))
    (improved_follows arrays whole setting s fs xs op spots one k) (form_known arrays setting apart spots s fs xs op one k)
    (λ t h. ops_refine arrays whole setting apart spots b ops exit fs' xs' t h (and_two (has_numbers op) (list_all has_numbers ops) n))

pub block_refines : (arrays : List Array) (claims : ℕ → Claim) (setting : Setting) → StandApart arrays setting.spot → SpotsFit setting → (b : ℕ) (block : Block) (s : State) → Claimed setting (claims b) s → list_all has_numbers block.ops ≡ true →
    Refines (hop_of setting b (Some block) s) (hop_of setting b (Some (narrowed_block arrays claims b block)) s)
block_refines arrays claims setting apart spots b block s k n = ops_refine arrays block.ops setting apart spots b block.ops block.exit (claims b).facts (claims b).accesses s k n

-- ---- by number

pub get_block : (arrays : List Array) (claims : ℕ → Claim) (n : ℕ) (ks : List Block) (i : ℕ) → slice_get (narrowed_from arrays claims n ks) i ≡ option_map (narrowed_block arrays claims (n + i)) (slice_get ks i)
get_block arrays claims n [] i = refl
get_block arrays claims n (k ∷ ks) zero = let e : n ≡ n + 0 = omega arith in ap (λ m. Some (narrowed_block arrays claims m k)) e
get_block arrays claims n (k ∷ ks) (suc i) =
    let e : n + 1 + i ≡ n + suc i = omega arith in
    get_block arrays claims (n + 1) ks i ∙ ap (λ m. option_map (narrowed_block arrays claims m) (slice_get ks i)) e

pub get_function : (claims : ℕ → ℕ → Claim) (n : ℕ) (gs : List Graph) (i : ℕ) → slice_get (narrowed_functions claims n gs) i ≡ option_map (narrowed_graph (claims (n + i))) (slice_get gs i)
get_function claims n [] i = refl
get_function claims n (g ∷ gs) zero = let e : n ≡ n + 0 = omega arith in ap (λ m. Some (narrowed_graph (claims m) g)) e
get_function claims n (g ∷ gs) (suc i) =
    let e : n + 1 + i ≡ n + suc i = omega arith in
    get_function claims (n + 1) gs i ∙ ap (λ m. option_map (narrowed_graph (claims m)) (slice_get gs i)) e

-- ---- a goto leads where it says

pub goes : (setting : Setting) (b c : ℕ) (ops : List Op) (s : State) → GoesTo b c (block_hop setting b ops (Goto c) s)
goes setting b c [] s = inr (s, refl)
goes setting b c (op ∷ ops) s = by (effect setting s op s) (goes setting b c ops)
  where
    by : (o : Option State) → ((t : State) → GoesTo b c (block_hop setting b ops (Goto c) t)) → GoesTo b c (and_then o (block_hop setting b ops (Goto c)))
    by None h = inl refl
    by (Some t) h = h t
