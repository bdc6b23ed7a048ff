-- A graph under names is entered with the arrays with which the old one is: its bases hold the arguments that the old ones do, and the
-- arrays of its own are those of the old one.
use Rattle.std.proofs.Common.{◌≡◌, ℕ, zero, suc, ◌==◌, Bool, true, false, cond, ℤ, List, [], ◌∷◌, map, drop, Option, Some, None, refl, ap, ◌∙◌}
use Rattle.std.proofs.lemmas.Bool.{and_parts, false≢true}
use Rattle.std.specs.Cmp.Derive.{both_true}
use Rattle.std.specs.List.{list_all}
use Rattle.std.specs.Prelude.{◌&&◌, not}
use Rattle.vx_flow.specs.declared.graph.Array.{Array}
use Rattle.vx_flow.specs.Sound.{has_base}
use Rattle.vx_flow.specs.Meaning.{at_entry, spot_held, with_spot, without_spot, spots_held, base_before, bases_in, words_before, words_in}
use Rattle.vx_rename.specs.Renaming.{parameter_name, renamed_base, renamed_array, enters_as, base_enters, array_enters}

-- ---- one base

-- both hold one argument, whatever the arguments are
same_argument : (old new : List ℕ) (ns : List ℤ) (v w : ℕ) → enters_as old new v w ≡ true → at_entry new ns w ≡ at_entry old ns v
same_argument [] new ns v w h = absurd (false≢true h)
same_argument (q ∷ qs) [] ns v w h = absurd (false≢true h)
same_argument (q ∷ qs) (r ∷ rs) [] v w h = refl
same_argument (q ∷ qs) (r ∷ rs) (n ∷ ns) v w h = by (v == q) (w == r) h (λ k. same_argument qs rs ns v w k)
  where
    by : (a b : Bool) → cond a b (not b && enters_as qs rs v w) ≡ true → (enters_as qs rs v w ≡ true → at_entry rs ns w ≡ at_entry qs ns v) → cond b (Some n) (at_entry rs ns w) ≡ cond a (Some n) (at_entry qs ns v)
    by true true k rec = refl
    by true false k rec = absurd (false≢true k)
    by false true k rec = absurd (false≢true k)
    by false false k rec = rec k

-- ---- arrays under names

module _ (name : ℕ → ℕ) where
  named_before : (b : Option ℕ) (bases : List (Option ℕ)) → base_before (renamed_base name b) (map (renamed_base name) bases) ≡ map (renamed_base name) (base_before b bases)
  named_before None [] = refl
  named_before None (c ∷ bases) = refl
  named_before (Some v) bases = refl

  bases_named : (arrays : List Array) → bases_in (map (renamed_array name) arrays) ≡ map (renamed_base name) (bases_in arrays)
  bases_named [] = refl
  bases_named (a ∷ arrays) = ap (base_before (renamed_base name a.base)) (bases_named arrays) ∙ named_before a.base (bases_in arrays)

  pub bases_behind : (n : ℕ) (arrays : List Array) → bases_in (drop n (map (renamed_array name) arrays)) ≡ map (renamed_base name) (bases_in (drop n arrays))
  bases_behind zero arrays = bases_named arrays
  bases_behind (suc n) [] = refl
  bases_behind (suc n) (a ∷ arrays) = bases_behind n arrays

  words_kept : (b : Option ℕ) (k : ℕ) (words : List ℕ) → words_before (renamed_base name b) k words ≡ words_before b k words
  words_kept None k words = refl
  words_kept (Some v) k words = refl

  words_named : (arrays : List Array) → words_in (map (renamed_array name) arrays) ≡ words_in arrays
  words_named [] = refl
  words_named (a ∷ arrays) = ap (words_before (renamed_base name a.base) a.words) (words_named arrays) ∙ words_kept a.base a.words (words_in arrays)

  pub words_behind : (n : ℕ) (arrays : List Array) → words_in (drop n (map (renamed_array name) arrays)) ≡ words_in (drop n arrays)
  words_behind zero arrays = words_named arrays
  words_behind (suc n) [] = refl
  words_behind (suc n) (a ∷ arrays) = words_behind n arrays

  pub same_words : (arrays : List Array) → map (λ a. a.words) (map (renamed_array name) arrays) ≡ map (λ a. a.words) arrays
  same_words [] = refl
  same_words (a ∷ arrays) = ap (λ ws. a.words ∷ ws) (same_words arrays)

  base_kept : (global : Bool) (k named : ℕ) (b : Option ℕ) → has_base (record { words = k; global = global; named = named; base = renamed_base name b }) ≡ has_base (record { words = k; global = global; named = named; base = b })
  base_kept global k named None = refl
  base_kept global k named (Some v) = refl

  pub same_bases : (arrays : List Array) → map has_base (map (renamed_array name) arrays) ≡ map has_base arrays
  same_bases [] = refl
  same_bases (a ∷ arrays) = ap (λ b. b ∷ map has_base (map (renamed_array name) arrays)) (base_kept a.global a.words a.named a.base) ∙ ap (λ bs. has_base a ∷ bs) (same_bases arrays)

-- ---- the spots that are passed

module _ (old new : List ℕ) where
  abbrev name : ℕ → ℕ
  name v = parameter_name old new v

  enters_before : (b : Option ℕ) (bases : List (Option ℕ)) → base_enters old new b ≡ true → list_all (base_enters old new) bases ≡ true → list_all (base_enters old new) (base_before b bases) ≡ true
  enters_before None [] h k = refl
  enters_before None (c ∷ bases) h k = both_true refl k
  enters_before (Some v) bases h k = both_true h k

  bases_enter : (arrays : List Array) → list_all (array_enters old new) arrays ≡ true → list_all (base_enters old new) (bases_in arrays) ≡ true
  bases_enter [] h = refl
  bases_enter (a ∷ arrays) h = let (here, later) = and_parts _ _ h in enters_before a.base (bases_in arrays) here (bases_enter arrays later)

  all_behind : (n : ℕ) (arrays : List Array) → list_all (array_enters old new) arrays ≡ true → list_all (array_enters old new) (drop n arrays) ≡ true
  all_behind zero arrays h = h
  all_behind (suc n) [] h = refl
  all_behind (suc n) (a ∷ arrays) h = all_behind n arrays (and_parts _ _ h).1

  spots_named : (count : ℕ) (ns : List ℤ) (bases : List (Option ℕ)) → list_all (base_enters old new) bases ≡ true → spots_held count (at_entry new ns) (map (renamed_base name) bases) ≡ spots_held count (at_entry old ns) bases
  spots_named count ns [] h = refl
  spots_named count ns (None ∷ bases) h = ap without_spot (spots_named count ns bases h)
  spots_named count ns (Some v ∷ bases) h =
      let (here, later) = and_parts _ _ h in
      ap (λ x. with_spot (spot_held count x) (spots_held count (at_entry new ns) (map (renamed_base name) bases))) (same_argument old new ns v (name v) here)
      ∙ ap (with_spot (spot_held count (at_entry old ns v))) (spots_named count ns bases later)

  pub spots_entered : (globals count : ℕ) (ns : List ℤ) (arrays : List Array) → list_all (array_enters old new) arrays ≡ true → spots_held count (at_entry new ns) (bases_in (drop globals (map (renamed_array name) arrays))) ≡ spots_held count (at_entry old ns) (bases_in (drop globals arrays))
  spots_entered globals count ns arrays h =
      ap (spots_held count (at_entry new ns)) (bases_behind name globals arrays)
      ∙ spots_named count ns (bases_in (drop globals arrays)) (bases_enter (drop globals arrays) (all_behind globals arrays h))
