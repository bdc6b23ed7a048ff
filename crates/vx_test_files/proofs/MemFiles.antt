-- Finding and setting a file by its name in a list of files.
use Rattle.std.proofs.Common.{◌≡◌, ◌<◌, ◌≤◌, ◌-◌, min, take, drop, take-append-drop, ℕ, Bool, true, false, not, if◌then◌else◌, List, [], ◌∷◌, ◌++◌, length, get_or, set, Option, None, Some, Vec, refl, ap, sym, ◌∙◌, arith, inl, inr, one-add}
use Rattle.std.specs.Prelude.{String, string_bytes}
use Rattle.std.specs.declared.alloc.Global.{Global}
use Rattle.std.specs.List.{prefix_len}
use Rattle.std.specs.Str.{bytes_eq}
use Rattle.std.proofs.lemmas.Bool.{cases_Bool, false≢true}
use Rattle.std.proofs.lemmas.Slice.Eq.{bytes_eq-Decides}
use Rattle.std.proofs.lemmas.List.Sums.{prefix_len_stops}
use Rattle.vx_io.specs.Outside.{held_with, Files, ReadsAt}
use Rattle.vx_test_files.specs.Memory.{content_in, named_files}

abbrev pub Stored : Type 0
Stored = String Global × Vec ℕ Global

-- a file of another name
abbrev pub is_other : List ℕ → Stored → Bool
is_other name file = not (bytes_eq name (string_bytes file.0))

-- the file at the place found is the one of the name
pub content-here : (files : List Stored) (name : List ℕ) (d : Stored) → prefix_len (is_other name) files < length files → content_in (named_files files) name ≡ Some (get_or files (prefix_len (is_other name) files) d).1.items
content-here [] name d below = absurd (omega arith)
content-here (file ∷ files) name d below =
    elim (cases_Bool (bytes_eq name (string_bytes file.0))) [
      | inl same ↦ rw same refl
      | inr other ↦
          let later = rw other at below in
          let here = content-here files name d (omega arith) in
          rw (other, one-add) here
    ]

-- no place found: no file has the name
pub content-none : (files : List Stored) (name : List ℕ) → length files ≤ prefix_len (is_other name) files → content_in (named_files files) name ≡ None
content-none [] name past = refl
content-none (file ∷ files) name past =
    elim (cases_Bool (bytes_eq name (string_bytes file.0))) [
      | inl same ↦ let later = rw same at past in absurd (omega arith)
      | inr other ↦
          let later = rw other at past in
          let here = content-none files name (omega arith) in
          rw other here
    ]

twice : (b : Bool) (x y z : Option (List ℕ)) → (if b then x else z) ≡ (if b then x else (if b then y else z))
twice true x y z = refl
twice false x y z = refl

swapped : (b c : Bool) (x y z : Option (List ℕ)) → (b ≡ true → c ≡ false) → (if c then y else (if b then x else z)) ≡ (if b then x else (if c then y else z))
swapped true true x y z differ = let e = differ refl in cc
swapped true false x y z differ = refl
swapped false true x y z differ = refl
swapped false false x y z differ = refl

-- a name that is not this one is no other's
unlike : (q name other : List ℕ) → bytes_eq name other ≡ false → bytes_eq q name ≡ true → bytes_eq q other ≡ false
unlike q name other differ same = let e = (bytes_eq-Decides q name).0 same in rw e differ

alike : (q name other : List ℕ) → bytes_eq name other ≡ true → bytes_eq q other ≡ bytes_eq q name
alike q name other same = let e = (bytes_eq-Decides name other).0 same in rw e refl

-- the file of the name is given a content
pub content-set : (files : List Stored) (name : List ℕ) (new : Stored) (q : List ℕ) → prefix_len (is_other name) files < length files → string_bytes new.0 ≡ name → content_in (named_files (set files (prefix_len (is_other name) files) new)) q ≡ held_with name new.1.items (content_in (named_files files)) q
content-set [] name new q below named = absurd (omega arith)
content-set (file ∷ files) name new q below named =
    elim (cases_Bool (bytes_eq name (string_bytes file.0))) [
      | inl same ↦ rw (same, named) (rw (alike q name (string_bytes file.0) same) (twice (bytes_eq q name) (Some new.1.items) (Some file.1.items) (content_in (named_files files) q)))
      | inr other ↦
          let later = rw other at below in
          let here = content-set files name new q (omega arith) named in
          rw (other, one-add) (rw here (swapped (bytes_eq q name) (bytes_eq q (string_bytes file.0)) (Some new.1.items) (Some file.1.items) (content_in (named_files files) q) (unlike q name (string_bytes file.0) other)))
    ]

-- the file at the place found has the name
pub name-here : (files : List Stored) (name : List ℕ) (d : Stored) → prefix_len (is_other name) files < length files → string_bytes (get_or files (prefix_len (is_other name) files) d).0 ≡ name
name-here files name d below =
    let file = get_or files (prefix_len (is_other name) files) d in
    let stops = prefix_len_stops (is_other name) files d below in
    elim (cases_Bool (bytes_eq name (string_bytes file.0))) [
      | inl same ↦ sym ((bytes_eq-Decides name (string_bytes file.0)).0 same)
      | inr other ↦ absurd (false≢true (sym stops ∙ ap not other))
    ]

-- a file of a new name at the end
pub content-push : (files : List Stored) (name : List ℕ) (new : Stored) (q : List ℕ) → length files ≤ prefix_len (is_other name) files → string_bytes new.0 ≡ name → content_in (named_files (files ++ new ∷ [])) q ≡ held_with name new.1.items (content_in (named_files files)) q
content-push [] name new q past named = rw named refl
content-push (file ∷ files) name new q past named =
    elim (cases_Bool (bytes_eq name (string_bytes file.0))) [
      | inl same ↦ let later = rw same at past in absurd (omega arith)
      | inr other ↦
          let later = rw other at past in
          let here = content-push files name new q (omega arith) named in
          rw here (swapped (bytes_eq q name) (bytes_eq q (string_bytes file.0)) (Some new.1.items) (Some file.1.items) (content_in (named_files files) q) (unlike q name (string_bytes file.0) other))
    ]

-- bytes copied from a place of a file on, as many as there are and have room
pub ReadsAt-copied : (held : Files) (name content old new : List ℕ) (place count : ℕ) → held name ≡ Some content → count ≡ min (length old) (length content - place) → take count new ≡ take count (drop place content) → length new ≡ length old → ReadsAt held name place count new
ReadsAt-copied held name content old new place count holds is front same = record {
  content = content;
  rest = drop count (drop place content);
  holds = holds;
  bytes = sym (take-append-drop count (drop place content)) ∙ ap (λ (xs : List ℕ). xs ++ drop count (drop place content)) (sym front);
  end = λ none room. omega arith;
}

-- what is not so, and a test that fails, go together
pub neither : {P : Type 0} (b : Bool) → b ≡ false → (P → ⊥) → (P → b ≡ true) × (b ≡ true → P)
neither b fails never = (λ p. absurd (never p), λ holds. absurd (false≢true (sym fails ∙ holds)))
