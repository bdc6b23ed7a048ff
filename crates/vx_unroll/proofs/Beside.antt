-- A loop, and the same loop with several turns in one, beside each other.
use Rattle.std.proofs.Common.{◌≡◌, ℕ, zero, suc, ◌+◌, ◌≤◌, ℤ, pos, negsuc, refl, ap, ◌∙◌, arith}
use Rattle.vx_ast.specs.Meaning.{Store, Part, With, Trapped, Going, Leaves, Falls, Breaks, Continues, Returns, and_then, go_on, after_body, after_turn, tests, turns}
use Rattle.vx_ast.proofs.MoreTurns.{Leads, leads_same, leads_going, leads_then, leads_tests, leads_turn}

-- what only falls
abbrev pub falls_of : Part Leaves → Part Leaves
falls_of (With l s) = With Falls s
falls_of (Trapped k out) = Trapped k out
falls_of (Going out) = Going out

-- k turns, each with the step and the test behind it, and a last one
abbrev pub copies : (Store → Part ℤ) → (body step : Store → Part Leaves) → ℕ → Store → Part Leaves
copies test body step zero t = go_on (body t) (λ u. With Falls u)
copies test body step (suc i) t = go_on (body t) (λ u. go_on (step u) (λ v. tests (test v) (copies test body step i) (λ w. With Breaks w)))

-- how many turns more the loop takes
abbrev pub extra : (k n : ℕ) → ℕ
extra k zero = 0
extra k (suc n) = k + extra k n

abbrev leaving : (f g : Store → Part Leaves) → Leaves → Store → Part Leaves
leaving f g Falls s = f s
leaving f g Breaks s = With Falls s
leaving f g Continues s = g s
leaving f g (Returns r) s = With (Returns r) s

one_turn : (x : Part Leaves) (step f : Store → Part Leaves) → after_turn (after_body x step) f ≡ and_then x (leaving (λ u. after_turn (step u) f) (λ u. after_turn (step u) f))
one_turn (With Falls s) step f = refl
one_turn (With Breaks s) step f = refl
one_turn (With Continues s) step f = refl
one_turn (With (Returns r) s) step f = refl
one_turn (Trapped k out) step f = refl
one_turn (Going out) step f = refl

more_turns : (x : Part Leaves) (rest step f : Store → Part Leaves) → after_turn (after_body (go_on x rest) step) f ≡ and_then x (leaving (λ u. after_turn (after_body (rest u) step) f) (λ u. after_turn (step u) f))
more_turns (With Falls s) rest step f = refl
more_turns (With Breaks s) rest step f = refl
more_turns (With Continues s) rest step f = refl
more_turns (With (Returns r) s) rest step f = refl
more_turns (Trapped k out) rest step f = refl
more_turns (Going out) rest step f = refl

falls_turn : (x : Part Leaves) (f : Store → Part Leaves) → after_turn (falls_of x) f ≡ and_then x (λ l t. f t)
falls_turn (With l s) f = refl
falls_turn (Trapped k out) f = refl
falls_turn (Going out) f = refl

falls_more : (x : Part Leaves) (rest step f : Store → Part Leaves) → after_turn (after_body (go_on (falls_of x) rest) step) f ≡ and_then x (λ l t. after_turn (after_body (rest t) step) f)
falls_more (With l s) rest step f = refl
falls_more (Trapped k out) rest step f = refl
falls_more (Going out) rest step f = refl

step_turn : (x : Part Leaves) → x ≡ falls_of x → (f : Store → Part Leaves) → after_turn x f ≡ and_then x (λ l t. f t)
step_turn x e f = ap (λ y. after_turn y f) e ∙ falls_turn x f

step_more : (x : Part Leaves) → x ≡ falls_of x → (rest step f : Store → Part Leaves) → after_turn (after_body (go_on x rest) step) f ≡ and_then x (λ l t. after_turn (after_body (rest t) step) f)
step_more x e rest step f = ap (λ y. after_turn (after_body (go_on y rest) step) f) e ∙ falls_more x rest step f

test_more : (x : Part ℤ) (rest step f : Store → Part Leaves) → after_turn (after_body (tests x rest (λ w. With Breaks w)) step) f ≡ tests x (λ w. after_turn (after_body (rest w) step) f) (λ w. With Falls w)
test_more (With (pos zero) s) rest step f = refl
test_more (With (pos (suc n)) s) rest step f = refl
test_more (With (negsuc n) s) rest step f = refl
test_more (Trapped k out) rest step f = refl
test_more (Going out) rest step f = refl

leads_leaving : (f g c d : Store → Part Leaves) → ((t : Store) → Leads t.out (f t) (c t)) → ((t : Store) → Leads t.out (g t) (d t)) → (l : Leaves) (t : Store) → Leads t.out (leaving f g l t) (leaving c d l t)
leads_leaving f g c d h k Falls t = h t
leads_leaving f g c d h k Breaks t = leads_same (With Falls t)
leads_leaving f g c d h k Continues t = k t
leads_leaving f g c d h k (Returns r) t = leads_same (With (Returns r) t)

falls_same : (t : Store) → Leads t.out (With Falls t) (With Falls t)
falls_same t = leads_same (With Falls t)

going_same : (t : Store) → Leads {A = Leaves} t.out (Going t.out) (Going t.out)
going_same t = let p : Part Leaves = Going t.out in leads_same p

module _ (test more_test : Store → Part ℤ) (body more_body step more_step : Store → Part Leaves) (tested : (s : Store) → Leads s.out (test s) (more_test s)) (bodied : (s : Store) → Leads s.out (body s) (more_body s)) (stepped : (s : Store) → Leads s.out (step s) (more_step s)) (fell : (s : Store) → step s ≡ falls_of (step s)) (more_fell : (s : Store) → more_step s ≡ falls_of (more_step s)) (k : ℕ) where
  abbrev once : Store → Part Leaves
  once t = after_body (body t) step

  abbrev more_once : Store → Part Leaves
  more_once t = after_body (more_body t) more_step

  abbrev often : Store → Part Leaves
  often t = after_body (copies test body step k t) step

  abbrev more_often : Store → Part Leaves
  more_often t = after_body (copies more_test more_body more_step k t) more_step

  abbrev Widens : ℕ → ℕ → Type 0
  Widens n m = (s : Store) → Leads s.out (turns n test once s) (turns m more_test more_often s)

  abbrev WidensIn : ℕ → ℕ → ℕ → Type 0
  WidensIn n i m = (t : Store) → Leads t.out (after_turn (once t) (turns n test once)) (after_turn (after_body (copies more_test more_body more_step i t) more_step) (turns m more_test more_often))

  abbrev WidensTest : ℕ → ℕ → ℕ → Type 0
  WidensTest n i m = (v : Store) → Leads v.out (turns n test once v) (tests (more_test v) (λ w. after_turn (after_body (copies more_test more_body more_step i w) more_step) (turns m more_test more_often)) (λ w. With Falls w))

  widens_last : (n m : ℕ) → Widens n m → WidensIn n zero m
  widens_last n m h t =
      rw (one_turn (body t) step (turns n test once), more_turns (more_body t) (λ u. With Falls u) more_step (turns m more_test more_often))
      (leads_then t.out (body t) (more_body t) (leaving (λ u. after_turn (step u) (turns n test once)) (λ u. after_turn (step u) (turns n test once))) (leaving (λ u. after_turn (more_step u) (turns m more_test more_often)) (λ u. after_turn (more_step u) (turns m more_test more_often))) (bodied t)
      (leads_leaving (λ u. after_turn (step u) (turns n test once)) (λ u. after_turn (step u) (turns n test once)) (λ u. after_turn (more_step u) (turns m more_test more_often)) (λ u. after_turn (more_step u) (turns m more_test more_often))
      (λ u. leads_turn (turns n test once) (turns m more_test more_often) h u.out (step u) (more_step u) (stepped u))
      (λ u. leads_turn (turns n test once) (turns m more_test more_often) h u.out (step u) (more_step u) (stepped u))))

  widens_more : (n i m : ℕ) → Widens n m → WidensTest n i m → WidensIn n (suc i) m
  widens_more n i m h l t =
      let rest : Store → Part Leaves = λ v. tests (more_test v) (copies more_test more_body more_step i) (λ w. With Breaks w) in
      let next : Store → Part Leaves = λ u. go_on (more_step u) rest in
      let left : Store → Part Leaves = λ u. after_turn (step u) (turns n test once) in
      let right : Store → Part Leaves = λ u. after_turn (after_body (next u) more_step) (turns m more_test more_often) in
      let away : Store → Part Leaves = λ u. after_turn (more_step u) (turns m more_test more_often) in
      rw (one_turn (body t) step (turns n test once), more_turns (more_body t) next more_step (turns m more_test more_often))
      (leads_then t.out (body t) (more_body t) (leaving left left) (leaving right away) (bodied t)
      (leads_leaving left left right away
      (λ u. rw (step_turn (step u) (fell u) (turns n test once), step_more (more_step u) (more_fell u) rest more_step (turns m more_test more_often))
      (leads_then u.out (step u) (more_step u) (λ l v. turns n test once v) (λ l v. after_turn (after_body (rest v) more_step) (turns m more_test more_often)) (stepped u)
      (λ k v. rw (test_more (more_test v) (copies more_test more_body more_step i) more_step (turns m more_test more_often)) (l v))))
      (λ u. leads_turn (turns n test once) (turns m more_test more_often) h u.out (step u) (more_step u) (stepped u))))

  widens_test_none : (i m : ℕ) → WidensIn zero i m → WidensTest zero i m
  widens_test_none i m h v =
      leads_tests v.out (test v) (more_test v) (λ w. Going w.out) (λ w. after_turn (after_body (copies more_test more_body more_step i w) more_step) (turns m more_test more_often)) (λ w. With Falls w) (λ w. With Falls w) (tested v)
      (λ w. leads_going w.out (after_turn (after_body (copies more_test more_body more_step i w) more_step) (turns m more_test more_often)) (h w).grows) falls_same

  widens_test : (n i m : ℕ) → WidensIn n i m → WidensTest (suc n) i m
  widens_test n i m h v =
      leads_tests v.out (test v) (more_test v) (λ w. after_turn (once w) (turns n test once)) (λ w. after_turn (after_body (copies more_test more_body more_step i w) more_step) (turns m more_test more_often)) (λ w. With Falls w) (λ w. With Falls w) (tested v) h falls_same

  none_in : (m : ℕ) → Widens zero m → (i : ℕ) → WidensIn zero i m
  none_in m h zero = widens_last zero m h
  none_in m h (suc i) = widens_more zero i m h (widens_test_none i m (none_in m h i))

  none_widens : (m : ℕ) → Widens zero m
  none_widens zero s = leads_tests s.out (test s) (more_test s) (λ t. Going t.out) (λ t. Going t.out) (λ t. With Falls t) (λ t. With Falls t) (tested s) going_same falls_same
  none_widens (suc m) s = widens_test_none k m (none_in m (none_widens m) k) s

  abbrev Level : ℕ → Type 0
  Level n = ((m : ℕ) → n ≤ m → Widens n m) × ((i m : ℕ) → n ≤ m → WidensIn n i m)

  some_widens : (n : ℕ) → ((i m : ℕ) → n ≤ m → WidensIn n i m) → (m : ℕ) → suc n ≤ m → Widens (suc n) m
  some_widens n l zero h = let q : suc n ≤ zero = h in absurd (omega arith)
  some_widens n l (suc m) h = let q : suc n ≤ suc m = h in let r : n ≤ m = omega arith in widens_test n k m (l k m r)

  some_in : (n : ℕ) → ((i m : ℕ) → n ≤ m → WidensIn n i m) → (i m : ℕ) → suc n ≤ m → WidensIn (suc n) i m
  some_in n l zero m h = widens_last (suc n) m (some_widens n l m h)
  some_in n l (suc i) m h = let q : suc n ≤ m = h in let r : n ≤ m = omega arith in widens_more (suc n) i m (some_widens n l m h) (widens_test n i m (l i m r))

  level : (n : ℕ) → Level n
  level zero = (λ m h. none_widens m, λ i m h. none_in m (none_widens m) i)
  level (suc n) = let l : Level n = level n in (some_widens n l.1, some_in n l.1)

  -- the loop, beside the one with several turns in one
  pub widens : (n m : ℕ) → n ≤ m → (s : Store) → Leads s.out (turns n test once s) (turns m more_test more_often s)
  widens n m h s = (level n).0 m h s

  -- and the other way round

  abbrev Narrows : ℕ → ℕ → Type 0
  Narrows n m = (s : Store) → Leads s.out (turns n test often s) (turns m more_test more_once s)

  abbrev NarrowsIn : ℕ → ℕ → ℕ → Type 0
  NarrowsIn n i m = (t : Store) → Leads t.out (after_turn (after_body (copies test body step i t) step) (turns n test often)) (after_turn (more_once t) (turns m more_test more_once))

  narrows_last : (n m : ℕ) → Narrows n m → NarrowsIn n zero m
  narrows_last n m h t =
      rw (more_turns (body t) (λ u. With Falls u) step (turns n test often), one_turn (more_body t) more_step (turns m more_test more_once))
      (leads_then t.out (body t) (more_body t) (leaving (λ u. after_turn (step u) (turns n test often)) (λ u. after_turn (step u) (turns n test often))) (leaving (λ u. after_turn (more_step u) (turns m more_test more_once)) (λ u. after_turn (more_step u) (turns m more_test more_once))) (bodied t)
      (leads_leaving (λ u. after_turn (step u) (turns n test often)) (λ u. after_turn (step u) (turns n test often)) (λ u. after_turn (more_step u) (turns m more_test more_once)) (λ u. after_turn (more_step u) (turns m more_test more_once))
      (λ u. leads_turn (turns n test often) (turns m more_test more_once) h u.out (step u) (more_step u) (stepped u))
      (λ u. leads_turn (turns n test often) (turns m more_test more_once) h u.out (step u) (more_step u) (stepped u))))

  narrows_more : (n i m : ℕ) → Narrows n (suc m) → NarrowsIn n i m → NarrowsIn n (suc i) (suc m)
  narrows_more n i m h l t =
      let rest : Store → Part Leaves = λ v. tests (test v) (copies test body step i) (λ w. With Breaks w) in
      let next : Store → Part Leaves = λ u. go_on (step u) rest in
      let left : Store → Part Leaves = λ u. after_turn (after_body (next u) step) (turns n test often) in
      let away : Store → Part Leaves = λ u. after_turn (step u) (turns n test often) in
      let right : Store → Part Leaves = λ u. after_turn (more_step u) (turns (suc m) more_test more_once) in
      rw (more_turns (body t) next step (turns n test often), one_turn (more_body t) more_step (turns (suc m) more_test more_once))
      (leads_then t.out (body t) (more_body t) (leaving left away) (leaving right right) (bodied t)
      (leads_leaving left away right right
      (λ u. rw (step_more (step u) (fell u) rest step (turns n test often), step_turn (more_step u) (more_fell u) (turns (suc m) more_test more_once))
      (leads_then u.out (step u) (more_step u) (λ l v. after_turn (after_body (rest v) step) (turns n test often)) (λ l v. turns (suc m) more_test more_once v) (stepped u)
      (λ k v. rw (test_more (test v) (copies test body step i) step (turns n test often))
      (leads_tests v.out (test v) (more_test v) (λ w. after_turn (after_body (copies test body step i w) step) (turns n test often)) (λ w. after_turn (more_once w) (turns m more_test more_once)) (λ w. With Falls w) (λ w. With Falls w) (tested v) l falls_same))))
      (λ u. leads_turn (turns n test often) (turns (suc m) more_test more_once) h u.out (step u) (more_step u) (stepped u))))

  none_narrows : (m : ℕ) → Narrows zero m
  none_narrows zero s = leads_tests s.out (test s) (more_test s) (λ t. Going t.out) (λ t. Going t.out) (λ t. With Falls t) (λ t. With Falls t) (tested s) going_same falls_same
  none_narrows (suc m) s =
      leads_tests s.out (test s) (more_test s) (λ t. Going t.out) (λ t. after_turn (more_once t) (turns m more_test more_once)) (λ t. With Falls t) (λ t. With Falls t) (tested s)
      (λ t. leads_going t.out (after_turn (more_once t) (turns m more_test more_once)) (narrows_last zero m (none_narrows m) t).grows) falls_same

  narrows_in : (n : ℕ) → ((m : ℕ) → n + extra k n ≤ m → Narrows n m) → (i m : ℕ) → i + (n + extra k n) ≤ m → NarrowsIn n i m
  narrows_in n l zero m h = let q : 0 + (n + extra k n) ≤ m = h in let r : n + extra k n ≤ m = omega arith in narrows_last n m (l m r)
  narrows_in n l (suc i) zero h = let q : suc i + (n + extra k n) ≤ zero = h in absurd (omega arith)
  narrows_in n l (suc i) (suc m) h =
      let q : suc i + (n + extra k n) ≤ suc m = h in
      let r : i + (n + extra k n) ≤ m = omega arith in
      let far : n + extra k n ≤ suc m = omega arith in
      narrows_more n i m (l (suc m) far) (narrows_in n l i m r)

  some_narrows : (n : ℕ) → ((m : ℕ) → n + extra k n ≤ m → Narrows n m) → (m : ℕ) → suc n + extra k (suc n) ≤ m → Narrows (suc n) m
  some_narrows n l zero h s = let q : suc n + (k + extra k n) ≤ zero = h in absurd (omega arith)
  some_narrows n l (suc m) h s =
      let q : suc n + (k + extra k n) ≤ suc m = h in
      let r : k + (n + extra k n) ≤ m = omega arith in
      leads_tests s.out (test s) (more_test s) (λ t. after_turn (often t) (turns n test often)) (λ t. after_turn (more_once t) (turns m more_test more_once)) (λ t. With Falls t) (λ t. With Falls t) (tested s) (narrows_in n l k m r) falls_same

  pub narrows : (n m : ℕ) → n + extra k n ≤ m → (s : Store) → Leads s.out (turns n test often s) (turns m more_test more_once s)
  narrows zero m h = none_narrows m
  narrows (suc n) m h = some_narrows n (narrows n) m h
