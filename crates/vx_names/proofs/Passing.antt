-- The names of the file, as its definitions are passed one by one.
use Rattle.std.proofs.Common.{◌≡◌, ℕ, zero, suc, ◌+◌, ◌<◌, Bool, true, false, if◌then◌else◌, ◌||◌, List, [], ◌∷◌, ◌++◌, length, take, drop, get_or, refl, ap, sym, ◌∙◌, Option, Some, None, append_assoc, append-nil}
use Rattle.std.specs.Option.{is_some}
use Rattle.std.specs.List.{list_any}
use Rattle.vx_ast.specs.declared.names.Meant.{Meant}
use Rattle.vx_ast.specs.declared.names.FileName.{FileName}
use Rattle.vx_ast.specs.Scopes.{Known, find, same_name, in_file, known_of, predeclared, is_predeclared}
use Rattle.vx_ast.specs.Faults.{is_repeated}
use Rattle.vx_names.specs.Agrees.{Sees}
use Rattle.vx_names.specs.Entries.{unless_said, started}
use Rattle.vx_names.proofs.Lookups.{same_name-Decides}
use Rattle.vx_names.proofs.Lists.{drop_next, take_more}

abbrev pub entry : FileName → Known
entry n = in_file n.name n.named

abbrev pub entries : List FileName → List Known
entries [] = []
entries (n ∷ ns) = entry n ∷ entries ns

abbrev pub or_other : Option Meant → Option Meant → Option Meant
or_other (Some m) other = Some m
or_other None other = other

pub find_append : (x : List ℕ) (ks ls : List Known) → find x (ks ++ ls) ≡ or_other (find x ks) (find x ls)
find_append x [] ls = refl
find_append x (k ∷ ks) ls =
    let by : (b : Bool) → (if b then Some k.meant else find x (ks ++ ls)) ≡ or_other (if b then Some k.meant else find x ks) (find x ls)
    = λ b. elim b as (λ b. (if b then Some k.meant else find x (ks ++ ls)) ≡ or_other (if b then Some k.meant else find x ks) (find x ls)) [ true ↦ refl | false ↦ find_append x ks ls ] in
    by (same_name x k.name)

-- one more entry behind others: it is found where its name is, and no other says it before
pub find_more : (ks rest : List Known) (k : Known) (x : List ℕ) → find x (ks ++ (k ∷ rest)) ≡ or_other (find x ks) (if same_name x k.name then Some k.meant else find x rest)
find_more ks rest k x = find_append x ks (k ∷ rest)

other_name : (x y : List ℕ) (m : Option Meant) (b : Option Meant) → same_name x y ≡ false → (if same_name x y then m else b) ≡ b
other_name x y m b h = ap (λ (z : Bool). if z then m else b) h

same_is : (x y : List ℕ) (m : Option Meant) (b : Option Meant) → same_name x y ≡ true → (if same_name x y then m else b) ≡ m
same_is x y m b h = ap (λ (z : Bool). if z then m else b) h

-- with it in front of the rest, beside the rest alone, where another says the name before
pub said_before : (ks rest : List Known) (k : Known) (m : Meant) (x : List ℕ) → find k.name ks ≡ Some m → find x (ks ++ (k ∷ rest)) ≡ find x (ks ++ rest)
said_before ks rest k m x f =
    let here : same_name x k.name ≡ true → find x (ks ++ (k ∷ rest)) ≡ find x (ks ++ rest)
    = λ h. (let e : find x ks ≡ Some m = ap (λ (z : List ℕ). find z ks) ((same_name-Decides x k.name).0 h) ∙ f in
    find_append x ks (k ∷ rest) ∙ ap (λ (z : Option Meant). or_other z (find x (k ∷ rest))) e ∙ sym (ap (λ (z : Option Meant). or_other z (find x rest)) e) ∙ sym (find_append x ks rest)) in
    let other : same_name x k.name ≡ false → find x (ks ++ (k ∷ rest)) ≡ find x (ks ++ rest)
    = λ h. find_append x ks (k ∷ rest) ∙ ap (λ (z : Option Meant). or_other (find x ks) z) (other_name x k.name (Some k.meant) (find x rest) h) ∙ sym (find_append x ks rest) in
    let by : (b : Bool) → same_name x k.name ≡ b → find x (ks ++ (k ∷ rest)) ≡ find x (ks ++ rest)
    = λ b. elim b as (λ b. same_name x k.name ≡ b → find x (ks ++ (k ∷ rest)) ≡ find x (ks ++ rest)) [ true ↦ here | false ↦ other ] in
    by (same_name x k.name) refl

-- and where none does
pub said_first : (ks rest : List Known) (k : Known) (x : List ℕ) → find k.name ks ≡ None → find x (ks ++ (k ∷ rest)) ≡ (if same_name x k.name then Some k.meant else find x (ks ++ rest))
said_first ks rest k x f =
    let here : same_name x k.name ≡ true → find x (ks ++ (k ∷ rest)) ≡ (if same_name x k.name then Some k.meant else find x (ks ++ rest))
    = λ h. (let e : find x ks ≡ None = ap (λ (z : List ℕ). find z ks) ((same_name-Decides x k.name).0 h) ∙ f in
    find_append x ks (k ∷ rest) ∙ ap (λ (z : Option Meant). or_other z (find x (k ∷ rest))) e ∙ same_is x k.name (Some k.meant) (find x rest) h ∙ sym (same_is x k.name (Some k.meant) (find x (ks ++ rest)) h)) in
    let other : same_name x k.name ≡ false → find x (ks ++ (k ∷ rest)) ≡ (if same_name x k.name then Some k.meant else find x (ks ++ rest))
    = λ h. find_append x ks (k ∷ rest) ∙ ap (λ (z : Option Meant). or_other (find x ks) z) (other_name x k.name (Some k.meant) (find x rest) h) ∙ sym (find_append x ks rest) ∙ sym (other_name x k.name (Some k.meant) (find x (ks ++ rest)) h) in
    let by : (b : Bool) → same_name x k.name ≡ b → find x (ks ++ (k ∷ rest)) ≡ (if same_name x k.name then Some k.meant else find x (ks ++ rest))
    = λ b. elim b as (λ b. same_name x k.name ≡ b → find x (ks ++ (k ∷ rest)) ≡ (if same_name x k.name then Some k.meant else find x (ks ++ rest))) [ true ↦ here | false ↦ other ] in
    by (same_name x k.name) refl

-- the names above, and the functions below
pub known_split : (i : ℕ) (ns : List FileName) → known_of i ns ≡ entries (take i ns) ++ known_of 0 (drop i ns)
known_split zero [] = refl
known_split (suc i) [] = refl
known_split zero (n ∷ ns) = refl
known_split (suc i) (n ∷ ns) = ap (λ (z : List Known). entry n ∷ z) (known_split i ns)

entries_append : (ms ns : List FileName) → entries (ms ++ ns) ≡ entries ms ++ entries ns
entries_append [] ns = refl
entries_append (m ∷ ms) ns = ap (λ (z : List Known). entry m ∷ z) (entries_append ms ns)

-- as a function, or not, a name stands below
abbrev pub below : FileName → List FileName → List Known
below n ns = if n.everywhere then entry n ∷ known_of 0 ns else known_of 0 ns

known_at : (i : ℕ) (ns : List FileName) (n : FileName) → i < length ns → n ≡ get_or ns i n → known_of i ns ≡ entries (take i ns) ++ below n (drop (i + 1) ns)
known_at i ns n h e = known_split i ns ∙ ap (λ (z : List FileName). entries (take i ns) ++ known_of 0 z) (drop_next ns i n h e)

known_next : (i : ℕ) (ns : List FileName) (n : FileName) → i < length ns → n ≡ get_or ns i n → known_of (i + 1) ns ≡ entries (take i ns) ++ (entry n ∷ known_of 0 (drop (i + 1) ns))
known_next i ns n h e =
    known_split (i + 1) ns ∙ ap (λ (z : List FileName). entries z ++ known_of 0 (drop (i + 1) ns)) (take_more ns i n h e)
    ∙ ap (λ (z : List Known). z ++ known_of 0 (drop (i + 1) ns)) (entries_append (take i ns) (n ∷ []))
    ∙ append_assoc (entries (take i ns)) (entry n ∷ []) (known_of 0 (drop (i + 1) ns))

-- twice the same entry in front
twice : (ks rest : List Known) (k : Known) (x : List ℕ) → find x (ks ++ (k ∷ (k ∷ rest))) ≡ find x (ks ++ (k ∷ rest))
twice ks rest k x =
    find_append x ks (k ∷ (k ∷ rest)) ∙ ap (λ (z : Option Meant). or_other (find x ks) z) (by (same_name x k.name)) ∙ sym (find_append x ks (k ∷ rest))
  where
    by : (b : Bool) → (if b then Some k.meant else (if b then Some k.meant else find x rest)) ≡ (if b then Some k.meant else find x rest)
    by true = refl
    by false = refl

-- whether the name of the next definition stands below does not matter once it stands here
below_alike : (ks : List Known) (n : FileName) (ns : List FileName) (x : List ℕ) → find x (ks ++ (entry n ∷ below n ns)) ≡ find x (ks ++ (entry n ∷ known_of 0 ns))
below_alike ks n ns x =
    elim n.everywhere as (λ b. find x (ks ++ (entry n ∷ (if b then entry n ∷ known_of 0 ns else known_of 0 ns))) ≡ find x (ks ++ (entry n ∷ known_of 0 ns)))
    [ true ↦ twice ks (known_of 0 ns) (entry n) x | false ↦ refl ]

module _ (i : ℕ) (ns : List FileName) (n : FileName) (h : i < length ns) (e : n ≡ get_or ns i n) where
  here_known : (x : List ℕ) → find x (predeclared ++ known_of i ns) ≡ find x ((predeclared ++ entries (take i ns)) ++ below n (drop (i + 1) ns))
  here_known x = ap (λ (z : List Known). find x (predeclared ++ z)) (known_at i ns n h e) ∙ ap (λ (z : List Known). find x z) (sym (append_assoc predeclared (entries (take i ns)) (below n (drop (i + 1) ns))))

  next_known : (x : List ℕ) → find x (predeclared ++ known_of (i + 1) ns) ≡ find x ((predeclared ++ entries (take i ns)) ++ (entry n ∷ below n (drop (i + 1) ns)))
  next_known x =
      ap (λ (z : List Known). find x (predeclared ++ z)) (known_next i ns n h e) ∙ ap (λ (z : List Known). find x z) (sym (append_assoc predeclared (entries (take i ns)) (entry n ∷ known_of 0 (drop (i + 1) ns))))
      ∙ sym (below_alike (predeclared ++ entries (take i ns)) n (drop (i + 1) ns) x)

  -- a repeated name changes nothing
  pub passes_repeated : (m : Meant) (x : List ℕ) → find n.name (predeclared ++ entries (take i ns)) ≡ Some m → find x (predeclared ++ known_of (i + 1) ns) ≡ find x (predeclared ++ known_of i ns)
  passes_repeated m x f = next_known x ∙ said_before (predeclared ++ entries (take i ns)) (below n (drop (i + 1) ns)) (entry n) m x f ∙ sym (here_known x)

  -- a new one stands from now on
  pub passes_new : (x : List ℕ) → find n.name (predeclared ++ entries (take i ns)) ≡ None → find x (predeclared ++ known_of (i + 1) ns) ≡ (if same_name x n.name then Some (entry n).meant else find x (predeclared ++ known_of i ns))
  passes_new x f = next_known x ∙ said_first (predeclared ++ entries (take i ns)) (below n (drop (i + 1) ns)) (entry n) x f ∙ ap (λ (z : Option Meant). if same_name x n.name then Some (entry n).meant else z) (sym (here_known x))

  seen_next : (x : List ℕ) → find x (predeclared ++ entries (take (i + 1) ns)) ≡ find x ((predeclared ++ entries (take i ns)) ++ (entry n ∷ []))
  seen_next x = ap (λ (z : List FileName). find x (predeclared ++ entries z)) (take_more ns i n h e) ∙ ap (λ (z : List Known). find x (predeclared ++ z)) (entries_append (take i ns) (n ∷ []))
      ∙ ap (λ (z : List Known). find x z) (sym (append_assoc predeclared (entries (take i ns)) (entry n ∷ [])))

  pub sees_repeated : (m : Meant) (x : List ℕ) → find n.name (predeclared ++ entries (take i ns)) ≡ Some m → find x (predeclared ++ entries (take (i + 1) ns)) ≡ find x (predeclared ++ entries (take i ns))
  sees_repeated m x f = seen_next x ∙ said_before (predeclared ++ entries (take i ns)) [] (entry n) m x f ∙ ap (λ (z : List Known). find x z) (append-nil (predeclared ++ entries (take i ns)))

  pub sees_new : (x : List ℕ) → find n.name (predeclared ++ entries (take i ns)) ≡ None → find x (predeclared ++ entries (take (i + 1) ns)) ≡ (if same_name x n.name then Some (entry n).meant else find x (predeclared ++ entries (take i ns)))
  sees_new x f = seen_next x ∙ said_first (predeclared ++ entries (take i ns)) [] (entry n) x f ∙ ap (λ (z : List Known). if same_name x n.name then Some (entry n).meant else find x z) (append-nil (predeclared ++ entries (take i ns)))

-- what is repeated is what is found above

any_found : (x : List ℕ) (ns : List FileName) → is_some (find x (entries ns)) ≡ list_any (λ (n : FileName). same_name x n.name) ns
any_found x [] = refl
any_found x (n ∷ ns) =
    let by : (b : Bool) → is_some (if b then Some (entry n).meant else find x (entries ns)) ≡ (b || list_any (λ (n : FileName). same_name x n.name) ns)
    = λ b. elim b as (λ b. is_some (if b then Some (entry n).meant else find x (entries ns)) ≡ (b || list_any (λ (n : FileName). same_name x n.name) ns)) [ true ↦ refl | false ↦ any_found x ns ] in
    by (same_name x n.name)

any_known : (x : List ℕ) (ks : List Known) → is_some (find x ks) ≡ list_any (λ (k : Known). same_name x k.name) ks
any_known x [] = refl
any_known x (k ∷ ks) =
    let by : (b : Bool) → is_some (if b then Some k.meant else find x ks) ≡ (b || list_any (λ (k : Known). same_name x k.name) ks)
    = λ b. elim b as (λ b. is_some (if b then Some k.meant else find x ks) ≡ (b || list_any (λ (k : Known). same_name x k.name) ks)) [ true ↦ refl | false ↦ any_known x ks ] in
    by (same_name x k.name)

some_or : (a b : Option Meant) → is_some (or_other a b) ≡ (if is_some a then true else is_some b)
some_or None b = refl
some_or (Some m) b = refl

pub repeated_found : (above : List FileName) (x : List ℕ) → is_some (find x (predeclared ++ entries above)) ≡ is_repeated above x
repeated_found above x =
    ap (λ (z : Option Meant). is_some z) (find_append x predeclared (entries above)) ∙ some_or (find x predeclared) (find x (entries above))
    ∙ ap (λ (b : Bool). if b then true else is_some (find x (entries above))) (any_known x predeclared)
    ∙ ap (λ (b : Bool). if is_predeclared x then true else b) (any_found x above)

-- the table at the start: predeclared names and functions

take_known : (i : ℕ) (ns : List FileName) (n : FileName) → known_of 0 (ns ++ n ∷ []) ≡ known_of 0 ns ++ below n []
take_known i [] n = refl
take_known i (m ∷ ns) n =
    elim m.everywhere as (λ b. (if b then entry m ∷ known_of 0 (ns ++ n ∷ []) else known_of 0 (ns ++ n ∷ [])) ≡ (if b then entry m ∷ known_of 0 ns else known_of 0 ns) ++ below n [])
    [ true ↦ ap (λ (z : List Known). entry m ∷ z) (take_known i ns n) | false ↦ take_known i ns n ]

module _ (i : ℕ) (ns : List FileName) (n : FileName) (h : i < length ns) (e : n ≡ get_or ns i n) where
  start_next : (x : List ℕ) → find x (predeclared ++ known_of 0 (take (i + 1) ns)) ≡ find x ((predeclared ++ known_of 0 (take i ns)) ++ below n [])
  start_next x = ap (λ (z : List FileName). find x (predeclared ++ known_of 0 z)) (take_more ns i n h e) ∙ ap (λ (z : List Known). find x (predeclared ++ z)) (take_known i (take i ns) n)
      ∙ ap (λ (z : List Known). find x z) (sym (append_assoc predeclared (known_of 0 (take i ns)) (below n [])))

  pub starts_below : (x : List ℕ) → n.everywhere ≡ false → find x (predeclared ++ known_of 0 (take (i + 1) ns)) ≡ find x (predeclared ++ known_of 0 (take i ns))
  starts_below x v = start_next x ∙ ap (λ (b : Bool). find x ((predeclared ++ known_of 0 (take i ns)) ++ (if b then entry n ∷ [] else []))) v ∙ ap (λ (z : List Known). find x z) (append-nil (predeclared ++ known_of 0 (take i ns)))

  pub starts_repeated : (m : Meant) (x : List ℕ) → n.everywhere ≡ true → find n.name (predeclared ++ known_of 0 (take i ns)) ≡ Some m → find x (predeclared ++ known_of 0 (take (i + 1) ns)) ≡ find x (predeclared ++ known_of 0 (take i ns))
  starts_repeated m x v f = start_next x ∙ ap (λ (b : Bool). find x ((predeclared ++ known_of 0 (take i ns)) ++ (if b then entry n ∷ [] else []))) v
      ∙ said_before (predeclared ++ known_of 0 (take i ns)) [] (entry n) m x f ∙ ap (λ (z : List Known). find x z) (append-nil (predeclared ++ known_of 0 (take i ns)))

  pub starts_new : (x : List ℕ) → n.everywhere ≡ true → find n.name (predeclared ++ known_of 0 (take i ns)) ≡ None → find x (predeclared ++ known_of 0 (take (i + 1) ns)) ≡ (if same_name x n.name then Some (entry n).meant else find x (predeclared ++ known_of 0 (take i ns)))
  starts_new x v f = start_next x ∙ ap (λ (b : Bool). find x ((predeclared ++ known_of 0 (take i ns)) ++ (if b then entry n ∷ [] else []))) v
      ∙ said_first (predeclared ++ known_of 0 (take i ns)) [] (entry n) x f ∙ ap (λ (z : List Known). if same_name x n.name then Some (entry n).meant else find x z) (append-nil (predeclared ++ known_of 0 (take i ns)))

-- tables, by what they say

pub some_is : (o : Option Meant) (m : Meant) → o ≡ Some m → is_some o ≡ true
some_is o m e = ap (λ (z : Option Meant). is_some z) e

none_is : (o : Option Meant) → is_some o ≡ false → o ≡ None
none_is None e = refl
none_is (Some m) e = cc

there_is : (o : Option Meant) → is_some o ≡ true → (m : Meant) × (o ≡ Some m)
there_is None e = cc
there_is (Some m) e = (m, refl)

-- whether a name of the file was seen, by what stands above
seen_none : (says : List ℕ → Option Meant) (above : List FileName) (x : List ℕ) → Sees says above → says x ≡ None → find x (predeclared ++ entries above) ≡ None
seen_none says above x s e = none_is (find x (predeclared ++ entries above)) (repeated_found above x ∙ sym (s.has x) ∙ ap (λ (z : Option Meant). is_some z) e)

seen_some : (says : List ℕ → Option Meant) (above : List FileName) (x : List ℕ) (m : Meant) → Sees says above → says x ≡ Some m → (q : Meant) × (find x (predeclared ++ entries above) ≡ Some q)
seen_some says above x m s e = there_is (find x (predeclared ++ entries above)) (repeated_found above x ∙ sym (s.has x) ∙ ap (λ (z : Option Meant). is_some z) e)

module _ (i : ℕ) (ns : List FileName) (n : FileName) (h : i < length ns) (e : n ≡ get_or ns i n) where
  pub known_repeated : (table seen : List ℕ → Option Meant) (m : Meant) → ((x : List ℕ) → table x ≡ find x (predeclared ++ known_of i ns)) → Sees seen (take i ns) → seen n.name ≡ Some m → (x : List ℕ) → table x ≡ find x (predeclared ++ known_of (i + 1) ns)
  known_repeated table seen m t s k x = (let q = seen_some seen (take i ns) n.name m s k in t x ∙ sym (passes_repeated i ns n h e q.0 x q.1))

  pub known_new : (table next seen : List ℕ → Option Meant) → ((x : List ℕ) → table x ≡ find x (predeclared ++ known_of i ns)) → Sees seen (take i ns) → seen n.name ≡ None → ((x : List ℕ) → next x ≡ (if same_name x n.name then Some (entry n).meant else table x)) → (x : List ℕ) → next x ≡ find x (predeclared ++ known_of (i + 1) ns)
  known_new table next seen t s k u x = u x ∙ ap (λ (z : Option Meant). if same_name x n.name then Some (entry n).meant else z) (t x) ∙ sym (passes_new i ns n h e x (seen_none seen (take i ns) n.name s k))

  pub sees_still : (seen : List ℕ → Option Meant) (m : Meant) → Sees seen (take i ns) → seen n.name ≡ Some m → Sees seen (take (i + 1) ns)
  sees_still seen m s k = record {
    has = λ x. (let q = seen_some seen (take i ns) n.name m s k in
        s.has x ∙ sym (repeated_found (take i ns) x) ∙ sym (ap (λ (z : Option Meant). is_some z) (sees_repeated i ns n h e q.0 x q.1)) ∙ repeated_found (take (i + 1) ns) x);
  }

  pub sees_one_more : (seen next : List ℕ → Option Meant) → Sees seen (take i ns) → seen n.name ≡ None → ((x : List ℕ) → next x ≡ (if same_name x n.name then Some (entry n).meant else seen x)) → Sees next (take (i + 1) ns)
  sees_one_more seen next s k u = record {
    has = λ x.
        (let by : (b : Bool) → is_some (if b then Some (entry n).meant else seen x) ≡ is_some (if b then Some (entry n).meant else find x (predeclared ++ entries (take i ns)))
        = λ b. elim b as (λ b. is_some (if b then Some (entry n).meant else seen x) ≡ is_some (if b then Some (entry n).meant else find x (predeclared ++ entries (take i ns)))) [ true ↦ refl | false ↦ s.has x ∙ sym (repeated_found (take i ns) x) ] in
        ap (λ (z : Option Meant). is_some z) (u x) ∙ by (same_name x n.name) ∙ sym (ap (λ (z : Option Meant). is_some z) (sees_new i ns n h e x (seen_none seen (take i ns) n.name s k))) ∙ repeated_found (take (i + 1) ns) x);
  }

  -- the first table, name by name
  pub starts_more : (table next : List ℕ → Option Meant) → ((x : List ℕ) → table x ≡ find x (predeclared ++ known_of 0 (take i ns))) → ((x : List ℕ) → next x ≡ started n table x) → (x : List ℕ) → next x ≡ find x (predeclared ++ known_of 0 (take (i + 1) ns))
  starts_more table next t u x =
      let late : n.everywhere ≡ false → next x ≡ find x (predeclared ++ known_of 0 (take (i + 1) ns))
      = λ v. u x ∙ ap (λ (b : Bool). if b then unless_said (table n.name) (if same_name x n.name then Some (entry n).meant else table x) (table x) else table x) v ∙ t x ∙ sym (starts_below i ns n h e x v) in
      let said : n.everywhere ≡ true → (m : Meant) → table n.name ≡ Some m → next x ≡ find x (predeclared ++ known_of 0 (take (i + 1) ns))
      = λ v m k. u x ∙ ap (λ (b : Bool). if b then unless_said (table n.name) (if same_name x n.name then Some (entry n).meant else table x) (table x) else table x) v
      ∙ ap (λ (z : Option Meant). unless_said z (if same_name x n.name then Some (entry n).meant else table x) (table x)) k ∙ t x ∙ sym (starts_repeated i ns n h e m x v (sym (t n.name) ∙ k)) in
      let new : n.everywhere ≡ true → table n.name ≡ None → next x ≡ find x (predeclared ++ known_of 0 (take (i + 1) ns))
      = λ v k. u x ∙ ap (λ (b : Bool). if b then unless_said (table n.name) (if same_name x n.name then Some (entry n).meant else table x) (table x) else table x) v
      ∙ ap (λ (z : Option Meant). unless_said z (if same_name x n.name then Some (entry n).meant else table x) (table x)) k
      ∙ ap (λ (z : Option Meant). if same_name x n.name then Some (entry n).meant else z) (t x) ∙ sym (starts_new i ns n h e x v (sym (t n.name) ∙ k)) in
      let known : n.everywhere ≡ true → (o : Option Meant) → table n.name ≡ o → next x ≡ find x (predeclared ++ known_of 0 (take (i + 1) ns))
      = λ v o. elim o as (λ o. table n.name ≡ o → next x ≡ find x (predeclared ++ known_of 0 (take (i + 1) ns))) [ None ↦ new v | Some m ↦ said v m ] in
      let by : (b : Bool) → n.everywhere ≡ b → next x ≡ find x (predeclared ++ known_of 0 (take (i + 1) ns))
      = λ b. elim b as (λ b. n.everywhere ≡ b → next x ≡ find x (predeclared ++ known_of 0 (take (i + 1) ns))) [ true ↦ λ v. known v (table n.name) refl | false ↦ late ] in
      by n.everywhere refl

pub sees_none : (says : List ℕ → Option Meant) → ((x : List ℕ) → says x ≡ find x predeclared) → Sees says []
sees_none says t = record { has = λ x. ap (λ (z : Option Meant). is_some z) (t x ∙ ap (λ (z : List Known). find x z) (sym (append-nil predeclared))) ∙ repeated_found [] x }
