-- Operations that only compute and choose, as they are and with values that were taken.
use Rattle.std.proofs.Common.{◌≡◌, ◌⊎◌, inl, inr, ℕ, ℤ, Bool, true, false, cond, List, [], ◌∷◌, ◌++◌, map, None, refl, sym, ap, subst, ◌∙◌, eq-eqb}
use Rattle.vx_base.specs.declared.arithmetic.Code.{Code}
use Rattle.vx_base.specs.Arithmetic.{value_of}
use Rattle.vx_flow.specs.declared.graph.Operand.{Operand}
use Rattle.vx_flow.specs.declared.graph.Operand.TheVariants.{Held, Number, Stack}
use Rattle.vx_flow.specs.declared.graph.Op.{Op}
use Rattle.vx_flow.specs.declared.graph.Op.TheVariants.{Compute, Select}
use Rattle.vx_flow.specs.declared.graph.Exit.{Exit}
use Rattle.vx_flow.specs.Effects.{Content, State, Setting, IsIn, held, is_unary, both, computed, chosen, with_value, value_in, reads, writes}
use Rattle.vx_flow.specs.Meaning.{block_hop}
use Rattle.vx_flow.specs.Operands.{with_value_in, with_operands}
use Rattle.vx_flow.specs.Sound.{tests_of}
use Rattle.vx_flow.specs.Agree.{SameWorld}
use Rattle.vx_flow.proofs.Members.{in_left, in_right, in_either}
use Rattle.vx_select.specs.Selected.{has, written, writing_to, after_write, moved, choice}
use Rattle.vx_select.proofs.Lists.{has_in, has_not, not_eqb, Distinct}

pub data Simple : Op → Type 0 where
  computes : {code : Code} {v : ℕ} {a b : Operand} → Simple (Compute code v a b)
  chooses : {v p : ℕ} {a b : Operand} → Simple (Select v p a b)

abbrev pub AllSimple : List Op → Type 0
AllSimple [] = Unit {0}
AllSimple (op ∷ ops) = Simple op × AllSimple ops

-- ---- what they do, which always has a meaning

abbrev pub given : State → Op → Content
given s (Compute code v a b) = computed code (held s a) (held s b)
given s (Select v p a b) = chosen (s.values p) (held s a) (held s b)
given s op = None

abbrev pub target : Op → ℕ
target (Compute code v a b) = v
target (Select v p a b) = v
target op = 0

abbrev pub step : State → Op → State
step s op = with_value s (target op) (given s op)

abbrev pub steps : List Op → State → State
steps [] s = s
steps (op ∷ ops) s = steps ops (step s op)

simple_hop : (setting : Setting) (b : ℕ) (op : Op) (rest : List Op) (exit : Exit) (s : State) → Simple op → block_hop setting b (op ∷ rest) exit s ≡ block_hop setting b rest exit (step s op)
simple_hop setting b op rest exit s computes = refl
simple_hop setting b op rest exit s chooses = refl

pub steps_hop : (setting : Setting) (b : ℕ) (ops rest : List Op) (exit : Exit) (s : State) → AllSimple ops → block_hop setting b (ops ++ rest) exit s ≡ block_hop setting b rest exit (steps ops s)
steps_hop setting b [] rest exit s f = refl
steps_hop setting b (op ∷ ops) rest exit s f = simple_hop setting b op (ops ++ rest) exit s f.0 ∙ steps_hop setting b ops rest exit (step s op) f.1

pub steps_append : (xs ys : List Op) (s : State) → steps (xs ++ ys) s ≡ steps ys (steps xs s)
steps_append [] ys s = refl
steps_append (op ∷ xs) ys s = steps_append xs ys (step s op)

pub simple_append : (xs ys : List Op) → AllSimple xs → AllSimple ys → AllSimple (xs ++ ys)
simple_append [] ys f g = g
simple_append (op ∷ xs) ys f g = (f.0, simple_append xs ys f.1 g)

pub steps_world : (ops : List Op) (s : State) → SameWorld s (steps ops s)
steps_world [] s = record { arrays = refl; input = refl; out = refl }
steps_world (op ∷ ops) s = let w = steps_world ops (step s op) in record { arrays = w.arrays; input = w.input; out = w.out }

target_written : (op : Op) → Simple op → IsIn (target op) (writes op)
target_written op computes = inl refl
target_written op chooses = inl refl

written_target : (op : Op) (v : ℕ) → Simple op → IsIn v (writes op) → v ≡ target op
written_target op v computes (inl e) = e
written_target op v computes (inr z) = absurd z
written_target op v chooses (inl e) = e
written_target op v chooses (inr z) = absurd z

step_there : (s : State) (op : Op) → (step s op).values (target op) ≡ given s op
step_there s op = ap (λ b. cond b (given s op) (s.values (target op))) (eq-eqb (target op) (target op) refl)

step_elsewhere : (s : State) (op : Op) (v : ℕ) → (v ≡ target op → ⊥) → (step s op).values v ≡ s.values v
step_elsewhere s op v f = ap (λ b. cond b (given s op) (s.values v)) (not_eqb v (target op) f)

pub steps_unwritten : (ops : List Op) (s : State) (v : ℕ) → AllSimple ops → (IsIn v (written ops) → ⊥) → (steps ops s).values v ≡ s.values v
steps_unwritten [] s v f n = refl
steps_unwritten (op ∷ ops) s v f n =
    steps_unwritten ops (step s op) v f.1 (λ m. n (in_right v (writes op) (written ops) m))
    ∙ step_elsewhere s op v (λ e. n (in_left v (writes op) (written ops) (subst (λ x. IsIn x (writes op)) (sym e) (target_written op f.0))))

-- ---- with values that were taken

module _ (to : ℕ → ℕ) (W : List ℕ) (Plain : ℕ → Type 0) (apart : (u w : ℕ) → IsIn w W → Plain u → to w ≡ u → ⊥) (one : (u w : ℕ) → IsIn u W → IsIn w W → to u ≡ to w → u ≡ w) where
  -- what a side may be made of: it reads and writes plain values, writes those of W alone, and tests none of them
  pub record Fine (op : Op) : Type 0 where
    pub simple : Simple op
    pub reads : (v : ℕ) → IsIn v (reads op) → Plain v
    pub writes : IsIn (target op) W
    pub tests : (v : ℕ) → IsIn v (tests_of op) → IsIn v W → ⊥

  abbrev pub AllFine : List Op → Type 0
  AllFine [] = Unit {0}
  AllFine (op ∷ ops) = Fine op × AllFine ops

  -- where each plain value now stands
  pub record Stands (now : ℕ → ℕ) (s t : State) : Type 0 where
    pub place : (u : ℕ) → Plain u → (now u ≡ u) ⊎ (IsIn u W × (now u ≡ to u))
    pub same : (u : ℕ) → Plain u → t.values (now u) ≡ s.values u

  abbrev pub taken : (ℕ → ℕ) → Op → Op
  taken now op = writing_to to (with_operands (with_value_in now) op)

  module _ (now : ℕ → ℕ) (s t : State) (stands : Stands now s t) where
    held_same : (x : Operand) → ((v : ℕ) → IsIn v (value_in x) → Plain v) → held t (with_value_in now x) ≡ held s x
    held_same (Held v) f = stands.same v (f v (inl refl))
    held_same (Number n) f = refl
    held_same Stack f = refl

    computed_same : (unary : Bool) (f : ℤ → ℤ → ℤ) (a b : Operand) → ((v : ℕ) → IsIn v (cond unary (value_in a) (value_in a ++ value_in b)) → Plain v) →
        cond unary (held t (with_value_in now a)) (both f (held t (with_value_in now a)) (held t (cond unary b (with_value_in now b)))) ≡ cond unary (held s a) (both f (held s a) (held s b))
    computed_same true f a b p = held_same a p
    computed_same false f a b p =
        ap (λ x. both f x (held t (with_value_in now b))) (held_same a (λ v m. p v (in_left v (value_in a) (value_in b) m)))
        ∙ ap (both f (held s a)) (held_same b (λ v m. p v (in_right v (value_in a) (value_in b) m)))

    test_now : (p : ℕ) → Plain p → (IsIn p W → ⊥) → t.values p ≡ s.values p
    test_now p l n = elim (stands.place p l) [ inl e ↦ ap t.values (sym e) ∙ stands.same p l | inr m ↦ absurd (n m.0) ]

    given_same : (op : Op) → Fine op → given t (taken now op) ≡ given s op
    given_same op fine = by op fine.simple fine.reads fine.tests
      where
        by : (op : Op) → Simple op → ((v : ℕ) → IsIn v (reads op) → Plain v) → ((v : ℕ) → IsIn v (tests_of op) → IsIn v W → ⊥) → given t (taken now op) ≡ given s op
        by op (computes {code} {v} {a} {b}) r n = computed_same (is_unary code) (value_of code) a b r
        by op (chooses {v} {p} {a} {b}) r n =
            ap (λ x. chosen x (held t (with_value_in now a)) (held t (with_value_in now b))) (test_now p (r p (inl refl)) (n p (inl refl)))
            ∙ ap (λ x. chosen (s.values p) x (held t (with_value_in now b))) (held_same a (λ u m. r u (inr (in_left u (value_in a) (value_in b) m))))
            ∙ ap (chosen (s.values p) (held s a)) (held_same b (λ u m. r u (inr (in_right u (value_in a) (value_in b) m))))

    taken_target : (op : Op) → Simple op → target (taken now op) ≡ to (target op)
    taken_target op computes = refl
    taken_target op chooses = refl

    now_apart : (u w : ℕ) → Plain u → IsIn w W → (u ≡ w → ⊥) → now u ≡ to w → ⊥
    now_apart u w l m n e = by (stands.place u l)
      where
        by : (now u ≡ u) ⊎ (IsIn u W × (now u ≡ to u)) → ⊥
        by (inl q) = apart u w m l (sym e ∙ q)
        by (inr q) = n (one u w q.0 m (sym q.1 ∙ e))

    -- behind one operation
    stands_on : (op : Op) → Fine op → Stands (after_write to (writes op) now) (step s op) (step t (taken now op))
    stands_on op fine = record { place = λ u l. place_by u l (has (writes op) u) refl; same = λ u l. same_by u l (has (writes op) u) refl }
      where
        place_by : (u : ℕ) → Plain u → (b : Bool) → has (writes op) u ≡ b → (cond b (to u) (now u) ≡ u) ⊎ (IsIn u W × (cond b (to u) (now u) ≡ to u))
        place_by u l true e = inr (subst (λ x. IsIn x W) (sym (written_target op u fine.simple (has_in (writes op) u e))) fine.writes, refl)
        place_by u l false e = stands.place u l

        same_by : (u : ℕ) → Plain u → (b : Bool) → has (writes op) u ≡ b → (step t (taken now op)).values (cond b (to u) (now u)) ≡ (step s op).values u
        same_by u l true e =
            let q : u ≡ target op = written_target op u fine.simple (has_in (writes op) u e) in
            ap (λ x. (step t (taken now op)).values (to x)) q ∙ ap (step t (taken now op)).values (sym (taken_target op fine.simple)) ∙ step_there t (taken now op) ∙ given_same op fine
            ∙ sym (step_there s op) ∙ ap (step s op).values (sym q)
        same_by u l false e =
            let n : u ≡ target op → ⊥ = λ q. has_not (writes op) u e (subst (λ x. IsIn x (writes op)) (sym q) (target_written op fine.simple)) in
            step_elsewhere t (taken now op) (now u) (λ q. now_apart u (target op) l fine.writes n (q ∙ taken_target op fine.simple)) ∙ stands.same u l ∙ sym (step_elsewhere s op u n)

  -- behind all of them each plain value stands where its own was taken, if one was
  pub moved_same : (ops : List Op) (now : ℕ → ℕ) (s t : State) → AllFine ops → ((u : ℕ) → (IsIn u (written ops) → ⊥) → now u ≡ to u) → Stands now s t →
      (u : ℕ) → Plain u → (steps (moved to now ops) t).values (to u) ≡ (steps ops s).values u
  moved_same [] now s t f e k u l = ap t.values (sym (e u (λ m. m))) ∙ k.same u l
  moved_same (op ∷ ops) now s t f e k u l = moved_same ops (after_write to (writes op) now) (step s op) (step t (taken now op)) f.1 (λ w n. by w n (has (writes op) w) refl) (stands_on now s t k op f.0) u l
    where
      by : (w : ℕ) → (IsIn w (written ops) → ⊥) → (b : Bool) → has (writes op) w ≡ b → cond b (to w) (now w) ≡ to w
      by w n true q = refl
      by w n false q = e w (λ m. elim (in_either w (writes op) (written ops) m) [ inl a ↦ has_not (writes op) w q a | inr b ↦ n b ])

  taken_simple : (now : ℕ → ℕ) (op : Op) → Simple op → Simple (taken now op)
  taken_simple now op computes = computes
  taken_simple now op chooses = chooses

  pub moved_simple : (ops : List Op) (now : ℕ → ℕ) → AllFine ops → AllSimple (moved to now ops)
  moved_simple [] now f = tt
  moved_simple (op ∷ ops) now f = (taken_simple now op f.0.simple, moved_simple ops (after_write to (writes op) now) f.1)

  pub fine_simple : (ops : List Op) → AllFine ops → AllSimple ops
  fine_simple [] f = tt
  fine_simple (op ∷ ops) f = (f.0.simple, fine_simple ops f.1)

  -- they write taken values alone
  pub moved_elsewhere : (ops : List Op) (now : ℕ → ℕ) (t : State) → AllFine ops → (v : ℕ) → ((w : ℕ) → IsIn w W → v ≡ to w → ⊥) → (steps (moved to now ops) t).values v ≡ t.values v
  moved_elsewhere [] now t f v n = refl
  moved_elsewhere (op ∷ ops) now t f v n =
      moved_elsewhere ops (after_write to (writes op) now) (step t (taken now op)) f.1 v n
      ∙ step_elsewhere t (taken now op) v (λ e. n (target op) f.0.writes (e ∙ target_is op f.0.simple))
    where
      target_is : (op : Op) → Simple op → target (taken now op) ≡ to (target op)
      target_is op computes = refl
      target_is op chooses = refl

-- ---- choices

module _ (left right : ℕ → ℕ) (p : ℕ) where
  abbrev pub choosing : List ℕ → List Op
  choosing vs = map (choice left right p) vs

  pub choosing_simple : (vs : List ℕ) → AllSimple (choosing vs)
  choosing_simple [] = tt
  choosing_simple (v ∷ vs) = (chooses, choosing_simple vs)

  pub unchosen : (vs : List ℕ) (t : State) (v : ℕ) → (IsIn v vs → ⊥) → (steps (choosing vs) t).values v ≡ t.values v
  unchosen [] t v n = refl
  unchosen (u ∷ us) t v n = unchosen us (step t (choice left right p u)) v (λ m. n (inr m)) ∙ step_elsewhere t (choice left right p u) v (λ e. n (inl e))

  pub choosing_gives : (vs : List ℕ) (t : State) → Distinct vs → (IsIn p vs → ⊥) → ((u v : ℕ) → IsIn u vs → IsIn v vs → (u ≡ v → ⊥) → (left v ≡ u → ⊥) × (right v ≡ u → ⊥)) → (v : ℕ) → IsIn v vs →
      (steps (choosing vs) t).values v ≡ chosen (t.values p) (t.values (left v)) (t.values (right v))
  choosing_gives [] t d n a v m = absurd m
  choosing_gives (u ∷ us) t d n a v (inl e) =
      ap (λ x. (steps (choosing us) (step t (choice left right p u))).values x) e ∙ unchosen us (step t (choice left right p u)) u d.0 ∙ step_there t (choice left right p u)
      ∙ ap (λ x. chosen (t.values p) (t.values (left x)) (t.values (right x))) (sym e)
  choosing_gives (u ∷ us) t d n a v (inr m) =
      let t1 : State = step t (choice left right p u) in
      let other : u ≡ v → ⊥ = λ e. d.0 (subst (λ x. IsIn x us) (sym e) m) in
      let q = a u v (inl refl) (inr m) other in
      choosing_gives us t1 d.1 (λ k. n (inr k)) (λ x y i j f. a x y (inr i) (inr j) f) v m
      ∙ ap (λ x. chosen x (t1.values (left v)) (t1.values (right v))) (step_elsewhere t (choice left right p u) p (λ e. n (inl e)))
      ∙ ap (λ x. chosen (t.values p) x (t1.values (right v))) (step_elsewhere t (choice left right p u) (left v) q.0)
      ∙ ap (chosen (t.values p) (t.values (left v))) (step_elsewhere t (choice left right p u) (right v) q.1)
