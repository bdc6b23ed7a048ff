-- The first box of a name in a list that is taken apart from its end, and every box of a list.
use Rattle.std.proofs.Common.{◌≡◌, ℕ, ◌<◌, Bool, true, false, List, [], ◌∷◌, ◌++◌, map, length, is_some, arith, Option, Some, None, refl, ap, ◌∙◌, sym}
use Rattle.std.specs.Prelude.{find, option_map, codes}
use Rattle.std.specs.Str.{bytes_eq}
use Rattle.vx_probe.specs.Watch.{Watch}
use Rattle.vx_runs.specs.Boxes.{ProbeBox, probe_boxes, probes_named}

abbrev pub first_or : {A : Type 0} → Option A → Option A → Option A
first_or None other = other
first_or (Some x) other = Some x

abbrev pub if_found : {A : Type 0} → Bool → A → Option A → Option A
if_found true x other = Some x
if_found false x other = other

module _ {A B : Type 0} (is : A → Bool) (view : A → B) where
  pub find_behind : (xs : List A) (x : A) (found : Option B) →
      first_or (option_map view (find is (xs ++ x ∷ []))) found ≡ first_or (option_map view (find is xs)) (if_found (is x) (view x) found)
  find_behind [] x found = by (is x) refl
    where
      by : (b : Bool) → is x ≡ b → first_or (option_map view (find is (x ∷ []))) found ≡ if_found (is x) (view x) found
      by true e = rw e refl
      by false e = rw e refl
  find_behind (y ∷ ys) x found = by (is y) refl (find_behind ys x found)
    where
      by : (b : Bool) → is y ≡ b → first_or (option_map view (find is (ys ++ x ∷ []))) found ≡ first_or (option_map view (find is ys)) (if_found (is x) (view x) found) →
          first_or (option_map view (find is (y ∷ ys ++ x ∷ []))) found ≡ first_or (option_map view (find is (y ∷ ys))) (if_found (is x) (view x) found)
      by true e more = rw e refl
      by false e more = rw e more

map_behind : {T A : Type 0} (box : T → A) (rest : List T) (x : T) → map box (rest ++ x ∷ []) ≡ map box rest ++ box x ∷ []
map_behind box [] x = refl
map_behind box (y ∷ ys) x = ap (λ l. box y ∷ l) (map_behind box ys x)

-- the last box is taken away, and is the one found now where it has the name
pub one_less : {T A B : Type 0} (box : T → A) (is : A → Bool) (view : A → B) (items rest : List T) (x : T) (found whole : Option B) (b : Bool) → items ≡ rest ++ x ∷ [] → is (box x) ≡ b →
    first_or (option_map view (find is (map box items))) found ≡ whole → first_or (option_map view (find is (map box rest))) (if_found b (view (box x)) found) ≡ whole
one_less box is view items rest x found whole b items_are same so_far =
    ap (λ t. first_or (option_map view (find is (map box rest))) (if_found t (view (box x)) found)) (sym same)
    ∙ sym (find_behind is view (map box rest) (box x) found)
    ∙ ap (λ l. first_or (option_map view (find is l)) found) (sym (map_behind box rest x))
    ∙ ap (λ l. first_or (option_map view (find is (map box l))) found) (sym items_are)
    ∙ so_far

map_map : {T A B : Type 0} (box : T → A) (view : A → B) (items : List T) → map view (map box items) ≡ map (λ x. view (box x)) items
map_map box view [] = refl
map_map box view (x ∷ items) = ap (λ l. view (box x) ∷ l) (map_map box view items)

-- every box is asked for
pub every_probe : {T : Type 0} (called : T → List ℕ) (watch : T → Watch) (asked : Option (List ℕ)) (name : List ℕ) (items : List T) → asked ≡ Some name → bytes_eq name (codes "all") ≡ true → probes_named asked (probe_boxes called watch items) ≡ Some (map watch items)
every_probe called watch asked name items asks is = ap (λ (a : Option (List ℕ)). probes_named a (probe_boxes called watch items)) asks ∙ rw is (ap (λ (l : List Watch). Some l) (map_map (λ x. record { name = called x; watch = watch x }) (λ (b : ProbeBox). b.watch) items))

-- a probe is picked only where one is asked for
pub some_wanted : {S P : Type 0} (g : S → List ℕ) (name : Option S) (boxes : List ProbeBox) (f : P → Watch) (picked : List P) → probes_named (option_map g name) boxes ≡ Some (map f picked) → 0 < length picked → is_some name ≡ true
some_wanted g (Some name) boxes f picked is some = refl
some_wanted g None boxes f [] is some = absurd (omega (arith, some))
some_wanted g None boxes f (p ∷ ps) is some = absurd cc
