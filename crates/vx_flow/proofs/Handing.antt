-- Handing arrays over in a sound flow: the first function gets none, and each base of a function that is called holds what a base of its
-- caller did. So it is entered where the caller's bases hold spots of arrays that are there.
use Rattle.std.proofs.Common.{◌≡◌, inl, inr, ℕ, ℤ, zero, suc, pos, negsuc, ◌+◌, ◌<◌, Bool, true, false, ◌==◌, if◌then◌else◌, List, [], ◌∷◌, length, map, drop, Option, Some, None, slice_get, slice_index_or, refl, sym, ap, subst, ◌∙◌, eq-eqb, arith}
use Rattle.std.specs.Prelude.{nat_lt}
use Rattle.std.proofs.lemmas.Bool.{eqb-true, lt-ltb, ltb-true}
use Rattle.vx_flow.specs.declared.graph.Operand.{Operand}
use Rattle.vx_flow.specs.declared.graph.Operand.TheVariants.{Held}
use Rattle.vx_flow.specs.declared.graph.Exit.TheVariants.{Call}
use Rattle.vx_flow.specs.declared.graph.Array.{Array}
use Rattle.vx_flow.specs.declared.graph.Graph.{Graph}
use Rattle.vx_flow.specs.declared.graph.Flow.{Flow}
use Rattle.vx_flow.specs.Effects.{Content, State, IsIn, held}
use Rattle.vx_flow.specs.Sound.{base_of, base_at, HasExit, IsBase, IsBaseOperand, base, IsGivenBase, SoundFlow}
use Rattle.vx_flow.specs.Meaning.{known, with_front, at_entry, spot_held, with_spot, without_spot, spots_held, bases_of, own_of}
use Rattle.vx_flow.proofs.Entering.{behind, bases_at, Bare, bare_behind, no_bases_in, all_words_in, in_at}

-- ---- the first function

main_bare : (flow : Flow) (g : Graph) → SoundFlow flow → slice_get flow.functions flow.main ≡ Some g → Bare g.arrays
main_bare flow g s e a array f = by array.base refl
  where
    same : s.main.graph ≡ g
    same = let is = s.main.is in cc

    none : length g.parameters ≡ 0
    none = subst (λ h. length h.parameters ≡ 0) same s.main.parameters

    nothing_in : (ps : List ℕ) (v : ℕ) → length ps ≡ 0 → IsIn v ps → ⊥
    nothing_in [] v n m = m
    nothing_in (p ∷ ps) v n m = absurd (cc)

    by : (o : Option ℕ) → array.base ≡ o → array.base ≡ None
    by None b = b
    by (Some v) b = absurd (nothing_in g.parameters v none ((s.graphs g (in_at flow.functions flow.main g e)).handed a v array f b).2)

-- nothing is passed to it, and all its arrays behind the globals are its own
pub main_bases : (flow : Flow) (g : Graph) → SoundFlow flow → slice_get flow.functions flow.main ≡ Some g → bases_of (length flow.globals) g ≡ []
main_bases flow g s e = no_bases_in (drop (length flow.globals) g.arrays) (bare_behind (length flow.globals) g.arrays (main_bare flow g s e))

pub main_words : (flow : Flow) (g : Graph) → SoundFlow flow → slice_get flow.functions flow.main ≡ Some g → own_of (length flow.globals) g ≡ map (λ a. a.words) (drop (length flow.globals) g.arrays)
main_words flow g s e = all_words_in (drop (length flow.globals) g.arrays) (bare_behind (length flow.globals) g.arrays (main_bare flow g s e))

-- ---- bases are parameters

-- the base at place j behind the globals is that of the array which stands there
pub base_behind : (globals : ℕ) (g : Graph) (j : ℕ) → slice_index_or (bases_of globals g) j None ≡ base_at g.arrays (globals + j)
base_behind globals g j = bases_at (drop globals g.arrays) j ∙ ap base_of (behind g.arrays globals j)

pub bases_are_parameters : (flow : Flow) (g : Graph) → SoundFlow flow → IsIn g flow.functions → (j v : ℕ) → slice_index_or (bases_of (length flow.globals) g) j None ≡ Some v → IsIn v g.parameters
bases_are_parameters flow g s m j v e = by (slice_get g.arrays (length flow.globals + j)) refl (sym (base_behind (length flow.globals) g j) ∙ e)
  where
    by : (o : Option Array) → slice_get g.arrays (length flow.globals + j) ≡ o → base_of o ≡ Some v → IsIn v g.parameters
    by None f k = absurd (cc)
    by (Some array) f k = ((s.graphs g m).handed (length flow.globals + j) v array f k).2

-- ---- arguments

-- the argument for parameter v is a base of the caller
pub record HandsBase (g h : Graph) (arguments : List Operand) (v : ℕ) : Type 0 where
  pub place : ℕ
  pub parameter : slice_get h.parameters place ≡ Some v
  pub value : ℕ
  pub argument : slice_get arguments place ≡ Some (Held value)
  pub is : IsBase g value

place_of : (xs : List ℕ) (x : ℕ) → IsIn x xs → (i : ℕ) × (slice_get xs i ≡ Some x)
place_of [] x m = absurd m
place_of (y ∷ ys) x (inl e) = (zero, ap Some (sym e))
place_of (y ∷ ys) x (inr m) = let (i, e) = place_of ys x m in (suc i, e)

as_long : (ps : List ℕ) (xs : List Operand) (i p : ℕ) → length ps ≡ length xs → slice_get ps i ≡ Some p → (x : Operand) × (slice_get xs i ≡ Some x)
as_long [] xs i p n e = absurd (cc)
as_long (q ∷ ps) [] i p n e = absurd (cc)
as_long (q ∷ ps) (x ∷ xs) zero p n e = (x, refl)
as_long (q ∷ ps) (x ∷ xs) (suc i) p n e = as_long ps xs i p (omega arith) e

pub hands_base : (flow : Flow) (g h : Graph) (f next : ℕ) (arguments : List Operand) (result : Option ℕ) → SoundFlow flow → IsIn g flow.functions → HasExit g (Call f arguments result next) → slice_get flow.functions f ≡ Some h →
    (j v : ℕ) → slice_index_or (bases_of (length flow.globals) h) j None ≡ Some v → HandsBase g h arguments v
hands_base flow g h f next arguments result s m at e j v b =
    let (k, p) = place_of h.parameters v (bases_are_parameters flow h s (in_at flow.functions f h e) j v b) in
    let called = s.calls g f next arguments result m at in
    let same : called.graph ≡ h = (let is = called.is in cc) in
    let many : length h.parameters ≡ length arguments = subst (λ y. length y.parameters ≡ length arguments) same called.parameters in
    let (x, a) = as_long h.parameters arguments k v many p in
    let given : IsGivenBase h v = record { array = length flow.globals + j; base = sym (base_behind (length flow.globals) h j) ∙ b } in
    by k p x a ((s.handed g h f next k v arguments result x m at e a p).1 given)
  where
    by : (k : ℕ) → slice_get h.parameters k ≡ Some v → (x : Operand) → slice_get arguments k ≡ Some x → IsBaseOperand g x → HandsBase g h arguments v
    by k p x a (base {v = u} is) = record { place = k; parameter = p; value = u; argument = a; is = is }

-- ---- what is held at the entry

-- the number of an argument
pub record NumberAt (s : State) (x : Operand) (ns : List ℤ) (i : ℕ) : Type 0 where
  pub number : ℤ
  pub is : held s x ≡ Some number
  pub has : slice_get ns i ≡ Some number

with_front_some : (n : ℤ) (o : Option (List ℤ)) (ns : List ℤ) → with_front n o ≡ Some ns → (rest : List ℤ) × (o ≡ Some rest) × (ns ≡ n ∷ rest)
with_front_some n None ns e = absurd (cc)
with_front_some n (Some rest) ns e = (rest, refl, (let q : n ∷ rest ≡ ns = cc in sym q))

abbrev Later : State → Operand → List Operand → Type 0
Later s x ys = (j : ℕ) (rest : List ℤ) → known (map (held s) ys) ≡ Some rest → slice_get ys j ≡ Some x → NumberAt s x rest j

pub number_at : (s : State) (xs : List Operand) (ns : List ℤ) (i : ℕ) (x : Operand) → known (map (held s) xs) ≡ Some ns → slice_get xs i ≡ Some x → NumberAt s x ns i
number_at s [] ns i x e f = absurd (cc)
number_at s (y ∷ ys) ns i x e f = by (held s y) refl (λ j rest q r. number_at s ys rest j x q r) i f e
  where
    at : (j : ℕ) (n : ℤ) (rest : List ℤ) → held s y ≡ Some n → known (map (held s) ys) ≡ Some rest → Later s x ys → slice_get (y ∷ ys) j ≡ Some x → NumberAt s x (n ∷ rest) j
    at zero n rest q r later g = record { number = n; is = (let same : y ≡ x = cc in ap (held s) (sym same) ∙ q); has = refl }
    at (suc j) n rest q r later g = let w = later j rest r g in record { number = w.number; is = w.is; has = w.has }

    by : (o : Content) → held s y ≡ o → Later s x ys → (j : ℕ) → slice_get (y ∷ ys) j ≡ Some x → known (o ∷ map (held s) ys) ≡ Some ns → NumberAt s x ns j
    by None q later j g k = absurd (cc)
    by (Some n) q later j g k =
        let (rest, r, same) = with_front_some n (known (map (held s) ys)) ns k in subst (λ z. NumberAt s x z j) (sym same) (at j n rest q r later g)

-- no value is twice among the parameters
abbrev pub Distinct : List ℕ → Type 0
Distinct ps = (i j v : ℕ) → i < j → slice_get ps i ≡ Some v → slice_get ps j ≡ Some v → ⊥

pub distinct_in : (flow : Flow) (g : Graph) → SoundFlow flow → IsIn g flow.functions → Distinct g.parameters
distinct_in flow g s m i j v below e f = s.parameters g i j v m below e f

-- at the entry a parameter holds its argument
pub entry_holds : (ps : List ℕ) (ns : List ℤ) (i v : ℕ) (n : ℤ) → Distinct ps → slice_get ps i ≡ Some v → slice_get ns i ≡ Some n → at_entry ps ns v ≡ Some n
entry_holds [] ns i v n d e f = absurd (cc)
entry_holds (p ∷ ps) [] i v n d e f = absurd (cc)
entry_holds (p ∷ ps) (k ∷ ns) zero v n d e f =
    let same : p ≡ v = cc in
    let number : k ≡ n = cc in
    ap (λ t. if t then Some k else at_entry ps ns v) (eq-eqb v p (sym same)) ∙ ap Some number
entry_holds (p ∷ ps) (k ∷ ns) (suc i) v n d e f = by (v == p) refl (entry_holds ps ns i v n (λ a b u below x y. d (suc a) (suc b) u (omega arith) x y) e f)
  where
    by : (t : Bool) → (v == p) ≡ t → at_entry ps ns v ≡ Some n → (if t then Some k else at_entry ps ns v) ≡ Some n
    by true q later = absurd (d zero (suc i) v (omega arith) (ap Some (sym (eqb-true v p q))) e)
    by false q later = later

-- each base of the function that is called holds what a base of the caller does
pub base_is_handed : (flow : Flow) (g h : Graph) (f next : ℕ) (arguments : List Operand) (result : Option ℕ) (s : State) (ns : List ℤ) → SoundFlow flow → IsIn g flow.functions → HasExit g (Call f arguments result next) → slice_get flow.functions f ≡ Some h → known (map (held s) arguments) ≡ Some ns →
    (j v : ℕ) → slice_index_or (bases_of (length flow.globals) h) j None ≡ Some v → (u : ℕ) × IsBase g u × IsIn (Held u) arguments × (at_entry h.parameters ns v ≡ s.values u)
base_is_handed flow g h f next arguments result s ns sound m at e k j v b =
    let given = hands_base flow g h f next arguments result sound m at e j v b in
    let number = number_at s arguments ns given.place (Held given.value) k given.argument in
    let entry = entry_holds h.parameters ns given.place v number.number (distinct_in flow h sound (in_at flow.functions f h e)) given.parameter number.has in
    (given.value, given.is, in_at arguments given.place (Held given.value) given.argument, entry ∙ sym number.is)

-- ---- spots

-- the value holds the spot of one of so many arrays
abbrev pub HoldsSpot : ℕ → Content → Type 0
HoldsSpot count x = (k : ℕ) × (k < count) × (x ≡ Some (pos k))

spot_is : (count : ℕ) (x : Content) (k : ℕ) → k < count → x ≡ Some (pos k) → spot_held count x ≡ Some k
spot_is count x k l e = ap (spot_held count) e ∙ ap (λ t. if t then Some k else None) (lt-ltb k count l)

spot_of : (count : ℕ) (x : Content) (k : ℕ) → spot_held count x ≡ Some k → (k < count) × (x ≡ Some (pos k))
spot_of count None k e = absurd (cc)
spot_of count (Some (negsuc n)) k e = absurd (cc)
spot_of count (Some (pos j)) k e = by (nat_lt j count) refl e
  where
    by : (t : Bool) → nat_lt j count ≡ t → (if t then Some j else None) ≡ Some k → (k < count) × (Option.Some (pos j) ≡ Some (pos k))
    by true q f =
        let same : j ≡ k = cc in
        let below : j < count = ltb-true j count q in
        (subst (λ z. z < count) same below, ap (λ z. Some (pos z)) same)
    by false q f = absurd (cc)

-- where each base holds a spot, spots are passed
pub spots_are_held : (count : ℕ) (values : ℕ → Content) (bases : List (Option ℕ)) → ((j v : ℕ) → slice_index_or bases j None ≡ Some v → HoldsSpot count (values v)) → (passed : List (Option ℕ)) × (spots_held count values bases ≡ Some passed)
spots_are_held count values [] f = ([], refl)
spots_are_held count values (None ∷ bases) f =
    let (passed, e) = spots_are_held count values bases (λ j v b. f (suc j) v b) in (None ∷ passed, ap without_spot e)
spots_are_held count values (Some v ∷ bases) f =
    let (passed, e) = spots_are_held count values bases (λ j u b. f (suc j) u b) in
    let (k, l, is) = f zero v refl in
    (Some k ∷ passed, ap (λ x. with_spot x (spots_held count values bases)) (spot_is count (values v) k l is) ∙ ap (with_spot (Some k)) e)

-- at place i of what is passed is the spot that value v holds
abbrev pub Passed : (count : ℕ) → (ℕ → Content) → (v : ℕ) → List (Option ℕ) → ℕ → Type 0
Passed count values v passed i = (k : ℕ) × (slice_index_or passed i None ≡ Some k) × (k < count) × (values v ≡ Some (pos k))

-- what is passed is what the bases hold
pub spot_passed : (count : ℕ) (values : ℕ → Content) (bases passed : List (Option ℕ)) (j v : ℕ) → spots_held count values bases ≡ Some passed → slice_index_or bases j None ≡ Some v → Passed count values v passed j
spot_passed count values [] passed zero v e b = absurd (cc)
spot_passed count values [] passed (suc j) v e b = absurd (cc)
spot_passed count values (None ∷ bases) passed zero v e b = absurd (cc)
spot_passed count values (None ∷ bases) passed (suc j) v e b = by (spots_held count values bases) (λ rest q. spot_passed count values bases rest j v q b) e
  where
    by : (o : Option (List (Option ℕ))) → ((rest : List (Option ℕ)) → o ≡ Some rest → Passed count values v rest j) → without_spot o ≡ Some passed → Passed count values v passed (suc j)
    by None f q = absurd (cc)
    by (Some rest) f q = let same : None ∷ rest ≡ passed = cc in subst (λ z. Passed count values v z (suc j)) same (f rest refl)
spot_passed count values (Some u ∷ bases) passed j v e b = by (spot_held count (values u)) (spots_held count values bases) refl (λ rest i q g. spot_passed count values bases rest i v q g) j b e
  where
    at : (i s : ℕ) (rest : List (Option ℕ)) → spot_held count (values u) ≡ Some s → ((i : ℕ) → slice_index_or bases i None ≡ Some v → Passed count values v rest i) → slice_index_or (Some u ∷ bases) i None ≡ Some v → Passed count values v (Some s ∷ rest) i
    at zero s rest q f g =
        let same : u ≡ v = cc in
        let is = spot_of count (values u) s q in
        (s, refl, is.0, ap values (sym same) ∙ is.1)
    at (suc i) s rest q f g = f i g

    by : (x : Option ℕ) (o : Option (List (Option ℕ))) → spot_held count (values u) ≡ x → ((rest : List (Option ℕ)) (i : ℕ) → o ≡ Some rest → slice_index_or bases i None ≡ Some v → Passed count values v rest i) → (i : ℕ) → slice_index_or (Some u ∷ bases) i None ≡ Some v → with_spot x o ≡ Some passed → Passed count values v passed i
    by None o q f i g d = absurd (cc)
    by (Some s) None q f i g d = absurd (cc)
    by (Some s) (Some rest) q f i g d = let same : Some s ∷ rest ≡ passed = cc in subst (λ z. Passed count values v z i) same (at i s rest q (λ l r. f rest l refl r) g)
