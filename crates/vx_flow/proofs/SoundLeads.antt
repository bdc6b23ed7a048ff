-- The successors of a block of a sound graph are blocks.
use Rattle.std.proofs.Common.{◌≡◌, ◌⊎◌, inl, inr, ℕ, zero, suc, ◌<◌, Bool, true, false, ◌==◌, ◌&&◌, cond, List, [], ◌∷◌, length, slice_get, Option, Some, None, refl, sym, subst, ltb-true}
use Rattle.std.specs.List.{list_all}
use Rattle.std.specs.Prelude.{nat_lt}
use Rattle.vx_flow.specs.declared.graph.Exit.{Exit}
use Rattle.vx_flow.specs.declared.graph.Exit.TheVariants.{Goto, Split, Call, Return, Ends}
use Rattle.vx_flow.specs.declared.graph.Bank.{Bank}
use Rattle.vx_flow.specs.declared.graph.Block.{Block}
use Rattle.vx_flow.specs.declared.graph.Graph.{Graph}
use Rattle.vx_flow.specs.Effects.{IsIn}
use Rattle.vx_flow.specs.Sound.{is_sound, is_sound_block, is_sound_exit, is_sound_in, is_array_kept, is_general, is_branch, is_operand, is_general_or_none}
use Rattle.vx_flow.specs.Walk.{successors_in, successors_of}
use Rattle.vx_flow.specs.Walking.{LeadWithin}

and_one : (a b : Bool) → (a && b) ≡ true → a ≡ true
and_one true b h = refl
and_one false b h = h

and_two : (a b : Bool) → (a && b) ≡ true → b ≡ true
and_two true b h = h
and_two false b h = absurd (cc)

all_get : {A : Type 0} (p : A → Bool) (xs : List A) (i : ℕ) (x : A) → list_all p xs ≡ true → slice_get xs i ≡ Some x → p x ≡ true
all_get p [] i x h e = absurd (cc)
all_get p (y ∷ ys) zero x h e = let q : y ≡ x = cc in subst (λ z. p z ≡ true) q (and_one (p y) (list_all p ys) h)
all_get p (y ∷ ys) (suc i) x h e = all_get p ys i x (and_two (p y) (list_all p ys) h) e

in_ascending : (c d x : ℕ) (s t : Bool) → IsIn x (cond s (c ∷ []) (cond t (c ∷ d ∷ []) (d ∷ c ∷ []))) → (x ≡ c) ⊎ (x ≡ d)
in_ascending c d x true t (inl e) = inl e
in_ascending c d x true t (inr h) = absurd h
in_ascending c d x false true (inl e) = inl e
in_ascending c d x false true (inr (inl e)) = inr e
in_ascending c d x false true (inr (inr h)) = absurd h
in_ascending c d x false false (inl e) = inr e
in_ascending c d x false false (inr (inl e)) = inl e
in_ascending c d x false false (inr (inr h)) = absurd h

exit_within : (banks : List Bank) (n : ℕ) (exit : Exit) (x : ℕ) → is_sound_exit banks n exit ≡ true → IsIn x (successors_of exit) → x < n
exit_within banks n (Goto c) x h (inl e) = subst (λ y. y < n) (sym e) (ltb-true c n h)
exit_within banks n (Goto c) x h (inr z) = absurd z
exit_within banks n (Split p c d) x h m =
    let k : nat_lt c n ≡ true = and_two (is_branch banks p) (nat_lt c n) (and_one (is_branch banks p && nat_lt c n) (nat_lt d n) h) in
    elim (in_ascending c d x (c == d) (nat_lt c d) m) [
      | inl e ↦ subst (λ y. y < n) (sym e) (ltb-true c n k)
      | inr e ↦ subst (λ y. y < n) (sym e) (ltb-true d n (and_two (is_branch banks p && nat_lt c n) (nat_lt d n) h))
    ]
exit_within banks n (Call g arguments result next) x h (inl e) = subst (λ y. y < n) (sym e) (ltb-true next n (and_two (list_all (is_operand banks) arguments && is_general_or_none banks result) (nat_lt next n) h))
exit_within banks n (Call g arguments result next) x h (inr z) = absurd z
exit_within banks n (Return y) x h m = absurd m
exit_within banks n (Ends k) x h m = absurd m

leads_by : (g : Graph) (b : ℕ) (o : Option Block) → slice_get g.blocks b ≡ o → is_sound g ≡ true → (c : ℕ) → IsIn c (successors_in o) → c < length g.blocks
leads_by g b None e h c m = absurd m
leads_by g b (Some k) e h c m =
    let s : is_sound_block g k ≡ true = all_get (is_sound_block g) g.blocks b k (and_two (list_all (is_general g.banks) g.parameters) (list_all (is_sound_block g) g.blocks) (and_one (list_all (is_general g.banks) g.parameters && list_all (is_sound_block g) g.blocks) (list_all (is_array_kept g) g.arrays) h)) e in
    exit_within g.banks (length g.blocks) k.exit c (and_two (list_all (is_sound_in g) k.ops) (is_sound_exit g.banks (length g.blocks) k.exit) s) m

pub sound_leads_within : (g : Graph) → is_sound g ≡ true → LeadWithin g
sound_leads_within g h b c m = leads_by g b (slice_get g.blocks b) refl h c m
