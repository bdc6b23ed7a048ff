-- The ring of the writes in flight: a place for each of the next 16 cycles.
use Rattle.std.proofs.Common.{◌≡◌, ℕ, zero, suc, ◌+◌, ◌-◌, ◌*◌, ◌%◌, ◌<◌, ◌≤◌, Bool, true, false, nat_lt, ℤ, List, [], ◌∷◌, ◌++◌, map, length, length-append, take, drop, set, get_or, refl, sym, ap, subst, ◌∙◌, arith, ltb-true, ltb-false, le-leb, append_assoc, append-nil, drop-cons, drop_of_length-le, mul-suc}
use Rattle.std.proofs.lemmas.Bool.Decides.{nat_tests}
use Rattle.std.proofs.lemmas.List.{drop-set-lt, drop-set-add, take-set-le, set-append_left, set-append_right, get_or-drop, get_or-take, get_or_append_left, get_or-append-add, get_or_past, take_all, length-drop, length-take, length-set}
use Rattle.std.proofs.Math.Nat.{mul-le-mul_left}
use Rattle.std.proofs.Math.Seq.{take-set-lt, take-suc-set}
use Rattle.vx_base.specs.Flight.{written, landed, flying}
use Rattle.vx_isa.specs.declared.operation.Register.{Register}
use Rattle.vx_isa.specs.Operations.{same}
use Rattle.vx_isa.specs.Machine.{Write}
use Rattle.vx_sim.specs.declared.flight.Flight.{Flight}
use Rattle.vx_sim.specs.declared.ring.Ring.{Ring}
use Rattle.vx_sim.specs.Flying.{write_of, turned, places_of, listed, flying_of, put_in, by_landing}
use Rattle.vx_sim.specs.Room.{HasRoom}
use Rattle.vx_sim.proofs.Sorting.{is_before, put_first, put_later}

-- places, as writes listed by landing cycle

-- none of the writes lands before so many cycles behind the next one
abbrev Behind : ℕ → List Write → Type 0
Behind k zs = (w : Write) → w.left - 1 ≤ k → put_in w zs ≡ w ∷ zs

behind_place : (k : ℕ) (fs : List Flight) (zs : List Write) → Behind k zs → Behind k (map (write_of k) fs ++ zs)
behind_place k [] zs h w l = h w l
behind_place k (f ∷ fs) zs h w l = put_first w (write_of k f) (map (write_of k) fs ++ zs) (le-leb (w.left - 1) (suc k - 1) (omega arith))

behind_less : (j k : ℕ) (zs : List Write) → j ≤ k → Behind k zs → Behind j zs
behind_less j k zs h b w l = b w (omega arith)

behind_listed : (k : ℕ) (ps : List (List Flight)) → Behind k (listed k ps)
behind_listed k [] w l = refl
behind_listed k (p ∷ ps) w l = behind_place k p (listed (suc k) ps) (behind_less k (suc k) (listed (suc k) ps) (omega arith) (behind_listed (suc k) ps)) w l

behind_later : (k : ℕ) (ps : List (List Flight)) → Behind k (listed (suc k) ps)
behind_later k ps = behind_less k (suc k) (listed (suc k) ps) (omega arith) (behind_listed (suc k) ps)

-- a place before what lands later
place_before : (k : ℕ) (fs : List Flight) (xs ys : List Write) → by_landing xs ≡ ys → Behind k ys → by_landing (map (write_of k) fs ++ xs) ≡ map (write_of k) fs ++ ys
place_before k [] xs ys e b = e
place_before k (f ∷ fs) xs ys e b = ap (put_in (write_of k f)) (place_before k fs xs ys e b) ∙ behind_place k fs ys b (write_of k f) (let h : suc k - 1 ≤ k = omega arith in h)

-- they are in their order
listed_sorted : (k : ℕ) (ps : List (List Flight)) → by_landing (listed k ps) ≡ listed k ps
listed_sorted k [] = refl
listed_sorted k (p ∷ ps) = place_before k p (listed (suc k) ps) (listed (suc k) ps) (listed_sorted (suc k) ps) (behind_later k ps)

-- one more write, which lands before them

place_after : (k : ℕ) (fs : List Flight) (w : Write) (xs ys : List Write) → w.left - 1 < k → by_landing xs ≡ w ∷ ys → Behind k ys → by_landing (map (write_of k) fs ++ xs) ≡ w ∷ (map (write_of k) fs ++ ys)
place_after k [] w xs ys l e b = e
place_after k (f ∷ fs) w xs ys l e b =
    let t : is_before (write_of k f) w ≡ false = (let h : w.left - 1 < suc k - 1 = omega arith in grind (arith, nat_tests)) in
    ap (put_in (write_of k f)) (place_after k fs w xs ys l e b)
    ∙ put_later (write_of k f) w (map (write_of k) fs ++ ys) t
    ∙ ap (λ zs. w ∷ zs) (behind_place k fs ys b (write_of k f) (let h : suc k - 1 ≤ k = omega arith in h))

one_before : (k : ℕ) (ps : List (List Flight)) (w : Write) → w.left - 1 < k → by_landing (listed k ps ++ w ∷ []) ≡ w ∷ listed k ps
one_before k [] w l = refl
one_before k (p ∷ ps) w l =
    ap by_landing (append_assoc (map (write_of k) p) (listed (suc k) ps) (w ∷ []))
    ∙ place_after k p w (listed (suc k) ps ++ w ∷ []) (listed (suc k) ps) l (one_before (suc k) ps w (omega arith)) (behind_later k ps)

map_push : (k : ℕ) (fs : List Flight) (f : Flight) (zs : List Write) → map (write_of k) fs ++ (write_of k f ∷ zs) ≡ map (write_of k) (fs ++ f ∷ []) ++ zs
map_push k [] f zs = refl
map_push k (g ∷ fs) f zs = ap (λ ws. write_of k g ∷ ws) (map_push k fs f zs)

-- a write behind those of its place
pub listed_put : (k n j : ℕ) (ps : List (List Flight)) (f : Flight) → n ≡ k + j → j < length ps → by_landing (listed k ps ++ write_of n f ∷ []) ≡ listed k (set ps j (get_or ps j [] ++ f ∷ []))
listed_put k n j [] f e lt = absurd (omega arith)
listed_put k n zero (p ∷ ps) f e lt =
    let same_place : n ≡ k = omega arith in
    let w = write_of k f in
    let first : by_landing (listed (suc k) ps ++ w ∷ []) ≡ w ∷ listed (suc k) ps = one_before (suc k) ps w (let h : suc k - 1 < suc k = omega arith in h) in
    let behind : Behind k (w ∷ listed (suc k) ps) = λ v l. put_first v w (listed (suc k) ps) (le-leb (v.left - 1) (suc k - 1) (omega arith)) in
    ap (λ i. by_landing (listed k (p ∷ ps) ++ write_of i f ∷ [])) same_place
    ∙ ap by_landing (append_assoc (map (write_of k) p) (listed (suc k) ps) (w ∷ []))
    ∙ place_before k p (listed (suc k) ps ++ w ∷ []) (w ∷ listed (suc k) ps) first behind
    ∙ map_push k p f (listed (suc k) ps)
listed_put k n (suc j) (p ∷ ps) f e lt =
    let later : n ≡ suc k + j = omega arith in
    let more : by_landing (listed (suc k) ps ++ write_of n f ∷ []) ≡ listed (suc k) (set ps j (get_or ps j [] ++ f ∷ [])) = listed_put (suc k) n j ps f later (omega arith) in
    ap by_landing (append_assoc (map (write_of k) p) (listed (suc k) ps) (write_of n f ∷ []))
    ∙ place_before k p (listed (suc k) ps ++ write_of n f ∷ []) (listed (suc k) (set ps j (get_or ps j [] ++ f ∷ []))) more (behind_later k (set ps j (get_or ps j [] ++ f ∷ [])))

-- one cycle

lands_none : (k : ℕ) (fs : List Flight) (zs : List Write) (held : Register → ℤ) → landed same held zs ≡ held → landed same held (map (write_of (suc k)) fs ++ zs) ≡ held
lands_none k [] zs held e = e
lands_none k (f ∷ fs) zs held e = lands_none k fs zs held e

later_lands_none : (k : ℕ) (ps : List (List Flight)) (held : Register → ℤ) → landed same held (listed (suc k) ps) ≡ held
later_lands_none k [] held = refl
later_lands_none k (p ∷ ps) held = lands_none k p (listed (suc (suc k)) ps) held (later_lands_none (suc k) ps held)

pub first_lands : (p : List Flight) (ps : List (List Flight)) (held : Register → ℤ) → landed same held (map (write_of 0) p) ≡ landed same held (listed 0 (p ∷ ps))
first_lands [] ps held = sym (later_lands_none 0 ps held)
first_lands (f ∷ p) ps held = first_lands p ps (written same held f.to f.number)

place_flies : (k : ℕ) (fs : List Flight) (xs ys : List Write) → flying xs ≡ ys → flying (map (write_of (suc k)) fs ++ xs) ≡ map (write_of k) fs ++ ys
place_flies k [] xs ys e = e
place_flies k (f ∷ fs) xs ys e = ap (λ ws. write_of k f ∷ ws) (place_flies k fs xs ys e)

later_flies : (k : ℕ) (ps : List (List Flight)) → flying (listed (suc k) ps) ≡ listed k ps
later_flies k [] = refl
later_flies k (p ∷ ps) = place_flies k p (listed (suc (suc k)) ps) (listed (suc k) ps) (later_flies (suc k) ps)

pub first_leaves : (p : List Flight) (ps : List (List Flight)) → flying (listed 0 (p ∷ ps)) ≡ listed 0 ps
first_leaves [] ps = later_flies 0 ps
first_leaves (f ∷ p) ps = first_leaves p ps

pub empty_behind : (k : ℕ) (ps : List (List Flight)) → listed k (ps ++ [] ∷ []) ≡ listed k ps
empty_behind k [] = refl
empty_behind k (p ∷ ps) = ap (λ ws. map (write_of k) p ++ ws) (empty_behind (suc k) ps)

-- places round the ring

module _ {A : Type 0} (xs : List A) (next : ℕ) (sixteen : length xs ≡ 16) (within : next < 16) where
  -- those behind the next one
  abbrev pub others : List A
  others = drop (next + 1) xs ++ take next xs

  pub first_is : (d : A) → turned next xs ≡ get_or xs next d ∷ others
  first_is d =
      let e : suc next ≡ next + 1 = omega arith in
      ap (λ zs. zs ++ take next xs) (drop-cons xs next d (let h : next < length xs = omega (arith, sixteen, within) in h) ∙ ap (λ i. get_or xs next d ∷ drop i xs) e)

  pub turned_on : (x : A) → turned ((next + 1) % 16) (set xs next x) ≡ others ++ x ∷ []
  turned_on x = by (nat_lt (next + 1) 16) refl
    where
      last : next < length xs
      last = omega (arith, sixteen, within)

      front : take (next + 1) (set xs next x) ≡ take next xs ++ x ∷ []
      front = let e : suc next ≡ next + 1 = omega arith in ap (λ i. take i (set xs next x)) (sym e) ∙ take-suc-set xs next x last

      back : drop (next + 1) (set xs next x) ≡ drop (next + 1) xs
      back = drop-set-lt (next + 1) xs next x (omega arith)

      by : (b : Bool) → nat_lt (next + 1) 16 ≡ b → turned ((next + 1) % 16) (set xs next x) ≡ others ++ x ∷ []
      by true e =
          let l = ltb-true (next + 1) 16 e in
          let m : (next + 1) % 16 ≡ next + 1 = omega arith in
          ap (λ i. turned i (set xs next x)) m
          ∙ ap (λ zs. zs ++ take (next + 1) (set xs next x)) back
          ∙ ap (λ zs. drop (next + 1) xs ++ zs) front
          ∙ sym (append_assoc (drop (next + 1) xs) (take next xs) (x ∷ []))
      by false e =
          let l = ltb-false (next + 1) 16 e in
          let m : (next + 1) % 16 ≡ 0 = omega arith in
          let all : length (set xs next x) ≤ next + 1 = (let n = length-set xs next x in omega (arith, n, sixteen, l)) in
          let none : drop (next + 1) xs ≡ [] = drop_of_length-le xs (let h : length xs ≤ next + 1 = omega (arith, sixteen, l) in h) in
          ap (λ i. turned i (set xs next x)) m
          ∙ append-nil (set xs next x)
          ∙ sym (take_all (next + 1) (set xs next x) all)
          ∙ front
          ∙ sym (ap (λ zs. (zs ++ take next xs) ++ x ∷ []) none)

  back_len : length (drop next xs) ≡ 16 - next
  back_len = let n = length-drop next xs in omega (arith, n, sixteen)

  turned_set : (k : ℕ) (x : A) → k < 16 → turned next (set xs ((next + k) % 16) x) ≡ set (turned next xs) k x
  turned_set k x lt = by (nat_lt (next + k) 16) refl
    where
      by : (b : Bool) → nat_lt (next + k) 16 ≡ b → turned next (set xs ((next + k) % 16) x) ≡ set (turned next xs) k x
      by true e =
          let l = ltb-true (next + k) 16 e in
          let m : (next + k) % 16 ≡ next + k = omega arith in
          let n = back_len in
          ap (λ i. turned next (set xs i x)) m
          ∙ ap (λ zs. zs ++ take next (set xs (next + k) x)) (drop-set-add next xs k x)
          ∙ ap (λ zs. set (drop next xs) k x ++ zs) (take-set-le next xs (next + k) x (omega arith))
          ∙ sym (set-append_left (drop next xs) (take next xs) k x (omega (arith, n, l)))
      by false e =
          let l = ltb-false (next + k) 16 e in
          let i = next + k - 16 in
          let m : (next + k) % 16 ≡ i = omega arith in
          let n = back_len in
          let h : i < next = omega arith in
          let j : i ≡ k - (16 - next) = omega arith in
          ap (λ q. turned next (set xs q x)) m
          ∙ ap (λ zs. zs ++ take next (set xs i x)) (drop-set-lt next xs i x h)
          ∙ ap (λ zs. drop next xs ++ zs) (take-set-lt next xs i x h)
          ∙ ap (λ q. drop next xs ++ set (take next xs) q x) j
          ∙ sym (set-append_right (drop next xs) (take next xs) (16 - next) k x n (omega arith))

  turned_get : (k : ℕ) (d : A) → k < 16 → get_or (turned next xs) k d ≡ get_or xs ((next + k) % 16) d
  turned_get k d lt = by (nat_lt (next + k) 16) refl
    where
      by : (b : Bool) → nat_lt (next + k) 16 ≡ b → get_or (turned next xs) k d ≡ get_or xs ((next + k) % 16) d
      by true e =
          let l = ltb-true (next + k) 16 e in
          let m : (next + k) % 16 ≡ next + k = omega arith in
          let n = back_len in
          get_or_append_left (drop next xs) (take next xs) d k (omega (arith, n, l)) ∙ get_or-drop next xs k d ∙ ap (λ i. get_or xs i d) (sym m)
      by false e =
          let l = ltb-false (next + k) 16 e in
          let i = next + k - 16 in
          let m : (next + k) % 16 ≡ i = omega arith in
          let n = back_len in
          let h : i < next = omega arith in
          let j : k ≡ length (drop next xs) + i = omega (arith, n, l, within) in
          ap (λ q. get_or (turned next xs) q d) j ∙ get_or-append-add (drop next xs) (take next xs) i d ∙ get_or-take next xs i d h ∙ ap (λ q. get_or xs q d) (sym m)

-- room

set_room : (ps : List (List Flight)) (j b : ℕ) (f : Flight) → length (get_or (set ps j (get_or ps j [] ++ f ∷ [])) b []) ≤ length (get_or ps b []) + 1
set_room [] j b f = omega arith
set_room (p ∷ ps) zero zero f = let n = length-append p (f ∷ []) in omega (arith, n)
set_room (p ∷ ps) zero (suc b) f = omega arith
set_room (p ∷ ps) (suc j) zero f = omega arith
set_room (p ∷ ps) (suc j) (suc b) f = set_room ps j b f

tail_get : (ps : List (List Flight)) (b : ℕ) → get_or (ps ++ [] ∷ []) b [] ≡ get_or ps b []
tail_get [] zero = refl
tail_get [] (suc b) = refl
tail_get (p ∷ ps) zero = refl
tail_get (p ∷ ps) (suc b) = tail_get ps b

abbrev pub Rooms : (widest here : ℕ) → List (List Flight) → Type 0
Rooms widest here ps = (b : ℕ) → length (get_or ps b []) ≤ widest * (15 - b) + here

room_later : (widest here : ℕ) (p : List Flight) (ps : List (List Flight)) → length ps ≡ 15 → here ≤ widest → Rooms widest here (p ∷ ps) → Rooms widest 0 (ps ++ [] ∷ [])
room_later widest here p ps fifteen few room b = by (nat_lt b 15) refl
  where
    same_len : length (get_or (ps ++ [] ∷ []) b []) ≡ length (get_or ps b [])
    same_len = ap length (tail_get ps b)

    by : (t : Bool) → nat_lt b 15 ≡ t → length (get_or (ps ++ [] ∷ []) b []) ≤ widest * (15 - b) + 0
    by true e =
        let l = ltb-true b 15 e in
        let r : length (get_or ps b []) ≤ widest * (15 - suc b) + here = room (suc b) in
        let k : 15 - b ≡ suc (15 - suc b) = omega arith in
        let s = same_len in
        rw k (let t = mul-suc widest (15 - suc b) in omega (arith, t, r, s, few))
    by false e =
        let l = ltb-false b 15 e in
        let n : length (get_or ps b []) ≡ 0 = ap length (get_or_past ps b [] (omega (arith, fifteen, l))) in
        let s = same_len in
        omega (arith, n, s)

-- what the ring's calls owe

module _ (xs ys : List (List Flight)) (next left place : ℕ) (f : Flight) (sixteen : length xs ≡ 16) (within : next < 16) (some : 1 ≤ left) (few : left ≤ 16) (at : place ≡ (next + left - 1) % 16) (new : ys ≡ set xs place (get_or xs place [] ++ f ∷ [])) where
  at_left : place ≡ (next + (left - 1)) % 16
  at_left = let e : next + left - 1 ≡ next + (left - 1) = omega arith in at ∙ ap (λ n. n % 16) e

  turned_put : turned next ys ≡ set (turned next xs) (left - 1) (get_or (turned next xs) (left - 1) [] ++ f ∷ [])
  turned_put =
      let lt : left - 1 < 16 = omega arith in
      ap (turned next) new
      ∙ ap (λ i. turned next (set xs i (get_or xs i [] ++ f ∷ []))) at_left
      ∙ turned_set xs next sixteen within (left - 1) (get_or xs ((next + (left - 1)) % 16) [] ++ f ∷ []) lt
      ∙ ap (λ fs. set (turned next xs) (left - 1) (fs ++ f ∷ [])) (sym (turned_get xs next sixteen within (left - 1) [] lt))

  turned_len : length (turned next xs) ≡ 16
  turned_len =
      let a = length-append (drop next xs) (take next xs) in
      let b = length-drop next xs in
      let d = length-take next xs in
      omega (arith, a, b, d, sixteen, within)

  pub puts_it : listed 0 (turned next ys) ≡ by_landing (listed 0 (turned next xs) ++ record { to = f.to; number = f.number; left = left } ∷ [])
  puts_it =
      let n = turned_len in
      let lt : left - 1 < length (turned next xs) = omega (arith, n, few, some) in
      let zeroth : left - 1 ≡ 0 + (left - 1) = omega arith in
      let e : suc (left - 1) ≡ left = omega arith in
      let w : write_of (left - 1) f ≡ (record { to = f.to; number = f.number; left = left }) = ap (λ k. record { to = f.to; number = f.number; left = k }) e in
      ap (listed 0) turned_put ∙ sym (listed_put 0 (left - 1) (left - 1) (turned next xs) f zeroth lt) ∙ ap (λ v. by_landing (listed 0 (turned next xs) ++ v ∷ [])) w

  pub put_room : (widest here : ℕ) → Rooms widest here (turned next xs) → Rooms widest (here + 1) (turned next ys)
  put_room widest here room b =
      let r : length (get_or (turned next xs) b []) ≤ widest * (15 - b) + here = room b in
      let s : length (get_or (set (turned next xs) (left - 1) (get_or (turned next xs) (left - 1) [] ++ f ∷ [])) b []) ≤ length (get_or (turned next xs) b []) + 1 = set_room (turned next xs) (left - 1) b f in
      let e : length (get_or (turned next ys) b []) ≡ length (get_or (set (turned next xs) (left - 1) (get_or (turned next xs) (left - 1) [] ++ f ∷ [])) b []) = ap (λ ps. length (get_or ps b [])) turned_put in
      omega (arith, r, s, e)

module _ (xs : List (List Flight)) (next left place : ℕ) (sixteen : length xs ≡ 16) (within : next < 16) (some : 1 ≤ left) (few : left ≤ 16) (at : place ≡ (next + left - 1) % 16) where
  -- its place is not full
  pub room_at : (widest here : ℕ) → here < widest → Rooms widest here (turned next xs) → length (get_or xs place []) < 16 * widest
  room_at widest here lt room =
      let at' : place ≡ (next + (left - 1)) % 16 = (let e : next + left - 1 ≡ next + (left - 1) = omega arith in at ∙ ap (λ n. n % 16) e) in
      let r : length (get_or (turned next xs) (left - 1) []) ≤ widest * (15 - (left - 1)) + here = room (left - 1) in
      let e : length (get_or xs place []) ≡ length (get_or (turned next xs) (left - 1) []) = ap (λ i. length (get_or xs i [])) at' ∙ ap length (sym (turned_get xs next sixteen within (left - 1) [] (let h : left - 1 < 16 = omega arith in h))) in
      let m : widest * (15 - (left - 1)) ≤ widest * 15 = mul-le-mul_left widest (let h : 15 - (left - 1) ≤ 15 = omega arith in h) in
      omega (arith, r, e, m, lt)

module _ (xs ys : List (List Flight)) (next : ℕ) (sixteen : length xs ≡ 16) (within : next < 16) (new : ys ≡ set xs next []) where
  old_places : turned next xs ≡ get_or xs next [] ∷ others xs next sixteen within
  old_places = first_is xs next sixteen within []

  new_places : turned ((next + 1) % 16) ys ≡ others xs next sixteen within ++ [] ∷ []
  new_places = ap (turned ((next + 1) % 16)) new ∙ turned_on xs next sixteen within []

  others_len : length (others xs next sixteen within) ≡ 15
  others_len =
      let a = length-append (drop (next + 1) xs) (take next xs) in
      let b = length-drop (next + 1) xs in
      let d = length-take next xs in
      omega (arith, a, b, d, sixteen, within)

  pub cycle_lands : (held new : Register → ℤ) → new ≡ landed same held (map (write_of 0) (get_or xs next [])) → new ≡ landed same held (listed 0 (turned next xs))
  cycle_lands held new e = e ∙ first_lands (get_or xs next []) (others xs next sixteen within) held ∙ ap (λ ps. landed same held (listed 0 ps)) (sym old_places)

  pub cycle_flies : listed 0 (turned ((next + 1) % 16) ys) ≡ flying (listed 0 (turned next xs))
  cycle_flies =
      ap (listed 0) new_places ∙ empty_behind 0 (others xs next sixteen within)
      ∙ sym (first_leaves (get_or xs next []) (others xs next sixteen within)) ∙ ap (λ ps. flying (listed 0 ps)) (sym old_places)

  pub cycle_room : (widest here : ℕ) → here ≤ widest → Rooms widest here (turned next xs) → Rooms widest 0 (turned ((next + 1) % 16) ys)
  cycle_room widest here few room =
      subst (Rooms widest 0) (sym new_places) (room_later widest here (get_or xs next []) (others xs next sixteen within) others_len few (subst (Rooms widest here) old_places room))

-- no write

pub ring_sorted : (ring : Ring) → by_landing (flying_of ring) ≡ flying_of ring
ring_sorted ring = listed_sorted 0 (places_of ring)

pub nothing_put : (ring : Ring) → flying_of ring ≡ by_landing (flying_of ring ++ [])
nothing_put ring = sym (ap by_landing (append-nil (flying_of ring)) ∙ ring_sorted ring)

pub room_more : (widest here : ℕ) (ring : Ring) → HasRoom widest here ring → HasRoom widest (here + 1) ring
room_more widest here ring room = (room.0, λ b. let r = room.1 b in omega (arith, r))
