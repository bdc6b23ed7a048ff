-- A counter from 0 to 9 that counts, as a row: where it then lies by the facts, what it holds, and that the law says so.
use Rattle.std.proofs.Common.{◌≡◌, ℕ, ◌==◌, not, true, ℤ, pos, Some, None, List, [], ◌∷◌, slice_index_or, refl, sym, subst, arith}
use Rattle.std.specs.Int.{int_wrap}
use Rattle.std.specs.Option.{option_map}
use Rattle.std.proofs.lemmas.Bool.{eq-eqb}
use Rattle.std.proofs.lemmas.Int.{ints}
use Rattle.vx_base.specs.Arithmetic.{sum_of}
use Rattle.vx_base.specs.declared.arithmetic.Code.TheVariants.{Add}
use Rattle.vx_flow.specs.declared.graph.Operand.TheVariants.{Held, Number}
use Rattle.vx_flow.specs.declared.graph.Op.{Op}
use Rattle.vx_flow.specs.declared.graph.Op.TheVariants.{Compute}
use Rattle.vx_flow.specs.Apart.{array_in, AreApart, StandApart}
use Rattle.vx_flow.specs.Effects.{Content, State, Setting, computed, with_value, effect}
use Rattle.vx_claims.specs.declared.fact.Fact.{Fact}
use Rattle.vx_claims.specs.declared.fact.Fact.TheVariants.{Between}
use Rattle.vx_claims.specs.Facts.{full, Within}
use Rattle.vx_claims.specs.Forming.{form, after_known}
use Rattle.vx_narrow.specs.Checking.{most_arrays}
use Rattle.vx_narrow.proofs.Operations.{number_fits}
use Rattle.vx_fact_laws.specs.FactLaws.{StandLow, Describe}
use Rattle.vx_fact_laws.proofs.FactSteps.{behind_law}

-- value 0 lies from so much to so much
abbrev lies : (low high : ℤ) → List Fact
lies low high = Between 0 (record { low = low; high = high }) ∷ []

-- i = i + 1
abbrev counts : Op
counts = Compute Add 0 (Held 0) (Number (pos 1))

abbrev behind_it : List Fact
behind_it = after_known (lies (pos 0) (pos 9)) [] counts (form (lies (pos 0) (pos 9)) [] counts)

counted : behind_it ≡ lies (pos 1) (pos 10)
unfolding int_wrap sum_of
counted = refl

abbrev at_five : State
at_five = record { values = λ v. Some (pos 5); arrays = []; input = []; out = [] }

abbrev alone : Setting
alone = record { spot = λ a. a; texts = [] }

six : option_map (λ (t : State). t.values 0) (effect alone at_five counts at_five) ≡ Some (Some (pos 6))
unfolding int_wrap sum_of
six = refl

-- the premises of the law hold of it

low : StandLow (λ a. a)
unfolding most_arrays
low a l = (omega (arith, ints, l), omega (arith, ints, l))

same_not_apart : (a : ℕ) → AreApart (array_in [] a) (array_in [] a) → ⊥
same_not_apart a h = let e : (a == a) ≡ true = eq-eqb a a refl in let q : not (a == a) ≡ true = h in absurd (cc)

apart : StandApart [] (λ a. a)
apart a b h e = same_not_apart a (subst (λ c. AreApart (array_in [] a) (array_in [] c)) (sym e) h)

abbrev no_rows : List (List Content)
no_rows = []

no_words : (a i : ℕ) → Within full (slice_index_or (slice_index_or no_rows a []) i None)
no_words a i = tt

described : Describe alone (lies (pos 0) (pos 9)) [] at_five
described = record {
  facts = ((omega (arith, ints), omega (arith, ints)), tt);
  accesses = tt;
  numbers = record { values = λ v. number_fits (pos 5) refl; words = no_words; input = λ n i. absurd i };
}

-- and so it lies from 1 to 10
lies_behind : Describe alone (lies (pos 1) (pos 10)) [] (with_value at_five 0 (computed Add (Some (pos 5)) (Some (pos 1))))
lies_behind = subst (λ (fs : List Fact). Describe alone fs [] (with_value at_five 0 (computed Add (Some (pos 5)) (Some (pos 1))))) counted (behind_law [] alone apart low at_five (with_value at_five 0 (computed Add (Some (pos 5)) (Some (pos 1)))) (lies (pos 0) (pos 9)) [] counts refl described refl)
