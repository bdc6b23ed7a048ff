-- What is handed over at a call: each array with a base stands at the spot that its base holds, and each argument is passed as it is
-- shown.
use Rattle.std.proofs.Common.{◌≡◌, ◌≤◌, ⊎_elim, ◌+◌, ◌-◌, ◌==◌, ℕ, zero, suc, ℤ, pos, true, false, Option, Some, None, List, [], ◌∷◌, length, map, refl, sym, ap, ◌∙◌, arith}
use Rattle.std.specs.Prelude.{if◌then◌else◌, slice_get, slice_index_or}
use Rattle.std.proofs.lemmas.Bool.{le-ltb}
use Rattle.vx_flow.specs.declared.graph.Array.{Array}
use Rattle.vx_flow.specs.declared.graph.Graph.{Graph}
use Rattle.vx_flow.specs.declared.graph.Operand.{Operand}
use Rattle.vx_flow.specs.declared.graph.Operand.TheVariants.{Held}
use Rattle.vx_flow.specs.Effects.{Content, State, IsIn, held}
use Rattle.vx_flow.specs.Sound.{base_of, base_at, has_base, is_given, Sound, IsBase, given, made, IsBaseOperand, base, IsGivenBase}
use Rattle.vx_flow.specs.Apart.{array_of, Aligned, PassedBelow}
use Rattle.vx_flow.specs.Meaning.{known, at_entry, spots_held, spot_behind, spot_in, bases_of}
use Rattle.vx_flow.proofs.Entering.{Holds}
use Rattle.vx_flow.proofs.Handing.{base_behind, number_at, spot_passed}
use Rattle.vx_target.proofs.Cells.{same_or_not}

-- the spots that bases hold

given_behind : (passed : List (Option ℕ)) (from j k : ℕ) → slice_index_or passed j None ≡ Some k → spot_behind passed from j ≡ k
given_behind [] from zero k e = absurd (cc)
given_behind [] from (suc j) k e = absurd (cc)
given_behind (Some s ∷ rest) from zero k e = cc
given_behind (Some s ∷ rest) from (suc j) k e = given_behind rest from j k e
given_behind (None ∷ rest) from zero k e = absurd (cc)
given_behind (None ∷ rest) from (suc j) k e = given_behind rest (from + 1) j k e

has_given : (a : ℕ) (o : Option Array) → has_base (array_of a o) ≡ is_given (base_of o)
has_given a None = refl
has_given a (Some array) = refl

none_there : (xs : List ℕ) (v : ℕ) → length xs ≡ 0 → IsIn v xs → ⊥
none_there [] v e i = i
none_there (x ∷ xs) v e i = absurd (omega arith)

nothing_there : (j : ℕ) → is_given (slice_index_or [] j None) ≡ false
nothing_there zero = refl
nothing_there (suc j) = refl

pub nothing_below : (count : ℕ) → PassedBelow count []
nothing_below count zero k e = absurd (cc)
nothing_below count (suc j) k e = absurd (cc)

module _ (globals : ℕ) (g : Graph) where
  -- a spot is passed for each array with a base, and for no other
  pub aligned_by : (count : ℕ) (passed : List (Option ℕ)) → Holds count (bases_of globals g) passed → Aligned globals g.arrays passed
  aligned_by count passed h j = has_given (globals + j) (slice_get g.arrays (globals + j)) ∙ ap is_given (sym (base_behind globals g j)) ∙ h.aligned j

  -- an array of a graph without parameters has no base, so nothing is passed where it is entered

  none_given : Sound g → length g.parameters ≡ 0 → (a : ℕ) → base_at g.arrays a ≡ None
  none_given sound none a = by (slice_get g.arrays a) refl
    where
      bare : (array : Array) → slice_get g.arrays a ≡ Some array → (o : Option ℕ) → array.base ≡ o → array.base ≡ None
      bare array is None e = e
      bare array is (Some v) e = absurd (none_there g.parameters v none (sound.handed a v array is e).2)

      by : (o : Option Array) → slice_get g.arrays a ≡ o → base_of o ≡ None
      by None is = refl
      by (Some array) is = bare array is array.base refl

  pub nothing_aligned : Sound g → length g.parameters ≡ 0 → Aligned globals g.arrays []
  nothing_aligned sound none j = has_given (globals + j) (slice_get g.arrays (globals + j)) ∙ ap is_given (none_given sound none (globals + j)) ∙ sym (nothing_there j)

  -- an array stands at the spot that its base holds where the graph is entered
  pub base_spot : (count : ℕ) (values : ℕ → Content) (passed : List (Option ℕ)) → spots_held count values (bases_of globals g) ≡ Some passed → (a v : ℕ) → globals ≤ a → base_at g.arrays a ≡ Some v → (k : ℕ) → values v ≡ Some (pos k) → spot_in globals passed count a ≡ k
  base_spot count values passed e a v le has k is =
      let place : globals + (a - globals) ≡ a = omega arith in
      let s = spot_passed count values (bases_of globals g) passed (a - globals) v e (base_behind globals g (a - globals) ∙ ap (base_at g.arrays) place ∙ has) in
      let same : Some (pos s.0) ≡ Some (pos k) = sym s.3 ∙ is in
      let q : s.0 ≡ k = cc in
      ap (λ z. if z then a else spot_behind passed count (a - globals)) (le-ltb a globals le) ∙ given_behind passed count (a - globals) s.0 s.1 ∙ q

-- numbers of arguments

-- an argument that is known has its number
pub known_at : (s : State) (arguments : List Operand) (ns : List ℤ) → known (map (held s) arguments) ≡ Some ns → (j : ℕ) (a : Operand) (n : ℤ) → slice_get arguments j ≡ Some a → slice_get ns j ≡ Some n → held s a ≡ Some n
known_at s arguments ns e j a n ea en = let w = number_at s arguments ns j a e ea in w.is ∙ sym w.has ∙ en

-- a value that holds a number at the entry is a parameter, and that is its argument's; with other arguments it holds theirs
pub record EntryAt (vs : List ℕ) (ns xs : List ℤ) (v : ℕ) (n : ℤ) : Type 0 where
  pub place : ℕ
  pub parameter : slice_get vs place ≡ Some v
  pub number : slice_get ns place ≡ Some n
  pub other : (x : ℤ) → slice_get xs place ≡ Some x → at_entry vs xs v ≡ Some x

entry_first : (q : ℕ) (vs : List ℕ) (m : ℤ) (ns xs : List ℤ) (v : ℕ) (n : ℤ) → (v == q) ≡ true → v ≡ q → m ≡ n → EntryAt (q ∷ vs) (m ∷ ns) xs v n
entry_first q vs m ns xs v n t same e = record { place = 0; parameter = ap Some (sym same); number = ap Some e; other = there xs }
  where
    there : (ys : List ℤ) (x : ℤ) → slice_get ys 0 ≡ Some x → at_entry (q ∷ vs) ys v ≡ Some x
    there [] x h = absurd (cc)
    there (y ∷ ys) x h = ap (λ b. if b then Some y else at_entry vs ys v) t ∙ h

entry_later : (q : ℕ) (vs : List ℕ) (m y : ℤ) (ns xs : List ℤ) (v : ℕ) (n : ℤ) → (v == q) ≡ false → EntryAt vs ns xs v n → EntryAt (q ∷ vs) (m ∷ ns) (y ∷ xs) v n
entry_later q vs m y ns xs v n t a = record { place = suc a.place; parameter = a.parameter; number = a.number; other = λ x h. ap (λ b. if b then Some y else at_entry vs xs v) t ∙ a.other x h }

entry_none : (q : ℕ) (vs : List ℕ) (m : ℤ) (ns : List ℤ) (v : ℕ) (n : ℤ) → EntryAt vs ns [] v n → EntryAt (q ∷ vs) (m ∷ ns) [] v n
entry_none q vs m ns v n a = record { place = suc a.place; parameter = a.parameter; number = a.number; other = λ x h. absurd (cc) }

pub entry_at : (vs : List ℕ) (ns xs : List ℤ) (v : ℕ) (n : ℤ) → at_entry vs ns v ≡ Some n → EntryAt vs ns xs v n
entry_at [] ns xs v n e = absurd (cc)
entry_at (q ∷ vs) [] xs v n e = absurd (cc)
entry_at (q ∷ vs) (m ∷ ns) [] v n e = ⊎_elim
    (λ s. let k : Some m ≡ Some n = sym (ap (λ b. if b then Some m else at_entry vs ns v) s.0) ∙ e in entry_first q vs m ns [] v n s.0 s.1 (cc))
    (λ s. entry_none q vs m ns v n (entry_at vs ns [] v n (sym (ap (λ b. if b then Some m else at_entry vs ns v) s.0) ∙ e)))
    (same_or_not v q)
entry_at (q ∷ vs) (m ∷ ns) (y ∷ xs) v n e = ⊎_elim
    (λ s. let k : Some m ≡ Some n = sym (ap (λ b. if b then Some m else at_entry vs ns v) s.0) ∙ e in entry_first q vs m ns (y ∷ xs) v n s.0 s.1 (cc))
    (λ s. entry_later q vs m y ns xs v n s.0 (entry_at vs ns xs v n (sym (ap (λ b. if b then Some m else at_entry vs ns v) s.0) ∙ e)))
    (same_or_not v q)

pub map_at : {A B : Type 0} (f : A → B) (xs : List A) (j : ℕ) (x : A) → slice_get xs j ≡ Some x → slice_get (map f xs) j ≡ Some (f x)
map_at f [] zero x e = absurd (cc)
map_at f [] (suc j) x e = absurd (cc)
map_at f (y ∷ ys) zero x e = let q : y ≡ x = cc in ap (λ z. Some (f z)) q
map_at f (y ∷ ys) (suc j) x e = map_at f ys j x e

-- an operand that is a base

pub base_operand : (g : Graph) (x : Operand) → IsBaseOperand g x → (c : ℕ) × (x ≡ Held c) × IsBase g c
base_operand g x (base {v = c} b) = (c, refl, b)

pub is_base_operand : (g : Graph) (c : ℕ) → IsBase g c → IsBaseOperand g (Held c)
is_base_operand g c b = base b

-- a parameter that is the base of no array is no base at all
pub not_base : (g : Graph) (v : ℕ) → Sound g → IsIn v g.parameters → (IsGivenBase g v → ⊥) → IsBase g v → ⊥
not_base g v sound i no_ (given a e) = no_ (record { array = a; base = e })
not_base g v sound i no_ (made a x has) = sound.base_parameter v a x has i

pub given_is_base : (g : Graph) (v : ℕ) → IsGivenBase g v → IsBase g v
given_is_base g v k = given k.array k.base
