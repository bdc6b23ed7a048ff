-- What is new in a block behind a conversion is sound by itself, and leaves bases and the places of arrays that are no globals alone.
use Rattle.std.proofs.Common.{◌≡◌, ◌⊎◌, inl, inr, ℕ, Bool, true, false, cond, List, [], ◌∷◌, ◌++◌, length, map, drop, slice_get, Option, Some, None, refl, sym, ap, subst, ◌∙◌, eq-eqb}
use Rattle.std.specs.List.{list_any}
use Rattle.std.proofs.lemmas.Bool.{and_parts, false≢true}
use Rattle.std.specs.Cmp.Derive.{both_true}
use Rattle.vx_base.specs.declared.arithmetic.Code.{Code}
use Rattle.vx_base.specs.declared.arithmetic.Code.TheVariants.{Mov, ToBranch}
use Rattle.vx_flow.specs.declared.graph.Operand.{Operand}
use Rattle.vx_flow.specs.declared.graph.Operand.TheVariants.{Held, Number, Stack}
use Rattle.vx_flow.specs.declared.graph.Bank.{Bank}
use Rattle.vx_flow.specs.declared.graph.Bank.TheVariants.{General, Branch}
use Rattle.vx_flow.specs.declared.graph.Op.{Op}
use Rattle.vx_flow.specs.declared.graph.Op.TheVariants.{Select, Place, Base, PlaceIn}
use Rattle.vx_flow.specs.declared.graph.Block.{Block}
use Rattle.vx_flow.specs.declared.graph.Graph.{Graph}
use Rattle.vx_flow.specs.Effects.{IsIn, is_unary, value_in, reads, writes}
use Rattle.vx_flow.specs.Operands.{with_value_in, with_operands}
use Rattle.vx_flow.specs.Sound.{is_bank, is_general, is_branch, is_operand, is_right, is_written, is_sound_operation, is_given_base, Has, HasOperation, IsAccess, MakesPlace, IsPlace, in_own, in_handed, IsBase, given, made, Sound}
use Rattle.vx_flow.proofs.Members.{in_left, in_right, in_either}
use Rattle.vx_flow.proofs.SoundLists.{in_one, or_left, or_right, any_of}
use Rattle.vx_flow.proofs.SoundNames.{general_of, tests_are, operation_of}
use Rattle.vx_flow.proofs.SoundLaw.{place_general, base_general}
use Rattle.vx_flow.proofs.SoundFlowLaw.{given_base_of}
use Rattle.vx_select.specs.Selected.{Diamond, has, written, makes_address, is_address, is_free, left_takes, right_takes, writing_to, after_write, moved, as_is, choice, choices, both_sides, IsDiamond}
use Rattle.vx_select.proofs.Lists.{has_in, has_not, takes_off}
use Rattle.vx_select.proofs.Sides.{Simple, computes, chooses, target}
use Rattle.vx_select.proofs.Joined.{free_is, in_free, F, L, R, C, left_free, right_free, Side, the_left, the_right, operation, is_one_of, values_in, in_values, writes_it, in_mapped, mapped_from, chosen_is, chosen_general, split_test}

simple_makes_none : (op : Op) (v a : ℕ) → Simple op → MakesPlace v a op → ⊥
simple_makes_none op v a computes m = elim m [ ]
simple_makes_none op v a chooses m = elim m [ ]

simple_no_place_in : (op : Op) (w a v : ℕ) (i : Operand) → Simple op → op ≡ PlaceIn w a v i → ⊥
simple_no_place_in op w a v i computes e = cc
simple_no_place_in op w a v i chooses e = cc

simple_no_base : (op : Op) (v a : ℕ) (x : Operand) → Simple op → op ≡ Base v a x → ⊥
simple_no_base op v a x computes e = cc
simple_no_base op v a x chooses e = cc

no_access : (op : Op) (a : ℕ) (p : Operand) → Simple op → IsAccess a p op → ⊥
no_access op a p computes h = elim h [ ]
no_access op a p chooses h = elim h [ ]

branch_of : (g : Graph) (v : ℕ) → Has g v Branch → is_branch g.banks v ≡ true
branch_of g v e = ap (is_bank Branch) e

general_not_branch : (banks : List Bank) (v : ℕ) → is_general banks v ≡ true → is_branch banks v ≡ true → ⊥
general_not_branch banks v h k = by (slice_get banks v) h k
  where
    by : (o : Option Bank) → is_bank General o ≡ true → is_bank Branch o ≡ true → ⊥
    by None a b = false≢true a
    by (Some General) a b = false≢true b
    by (Some Branch) a b = false≢true a

written_kept : (banks : List Bank) (code : Code) (v w : ℕ) → is_written banks code v ≡ true → is_general banks v ≡ true → is_general banks w ≡ true → is_written banks code w ≡ true
written_kept banks (ToBranch compare) v w h k l = absurd (general_not_branch banks v k h)
written_kept banks code v w h k l = l

right_kept : (banks : List Bank) (code : Code) (x y : Operand) → is_right banks code x ≡ true → (is_operand banks x ≡ true → is_operand banks y ≡ true) → is_right banks code (cond (is_unary code) x y) ≡ true
right_kept banks Mov x y h k = h
right_kept banks code x y h k = k h

-- a value that stands for another in one of these operands
module _ (now : ℕ → ℕ) where
  pub record Stood (values : List ℕ) (v : ℕ) : Type 0 where
    pub value : ℕ
    pub stands : IsIn value values
    pub is : v ≡ now value

  value_from : (x : Operand) (v : ℕ) → IsIn v (value_in (with_value_in now x)) → Stood (value_in x) v
  value_from (Held u) v (inl e) = record { value = u; stands = inl refl; is = e }
  value_from (Held u) v (inr z) = absurd z
  value_from (Number n) v m = absurd m
  value_from Stack v m = absurd m

  stood_left : (xs ys : List ℕ) (v : ℕ) → Stood xs v → Stood (xs ++ ys) v
  stood_left xs ys v s = record { value = s.value; stands = in_left s.value xs ys s.stands; is = s.is }

  stood_right : (xs ys : List ℕ) (v : ℕ) → Stood ys v → Stood (xs ++ ys) v
  stood_right xs ys v s = record { value = s.value; stands = in_right s.value xs ys s.stands; is = s.is }

  two_from : (a b : Operand) (v : ℕ) → IsIn v (value_in (with_value_in now a) ++ value_in (with_value_in now b)) → Stood (value_in a ++ value_in b) v
  two_from a b v m = elim (in_either v (value_in (with_value_in now a)) (value_in (with_value_in now b)) m) [
    | inl x ↦ stood_left (value_in a) (value_in b) v (value_from a v x)
    | inr y ↦ stood_right (value_in a) (value_in b) v (value_from b v y)
  ]

  computed_from : (unary : Bool) (a b : Operand) (v : ℕ) → IsIn v (cond unary (value_in (with_value_in now a)) (value_in (with_value_in now a) ++ value_in (cond unary b (with_value_in now b)))) →
      Stood (cond unary (value_in a) (value_in a ++ value_in b)) v
  computed_from true a b v m = value_from a v m
  computed_from false a b v m = two_from a b v m

module _ (live : ℕ → ℕ → Bool) (most : ℕ) (g : Graph) (d : Diamond) (sound : Sound g) (it : IsDiamond live most g d) where
  abbrev IsFree : ℕ → Type 0
  IsFree v = is_free live g d v ≡ true

  named_is : (op : Op) → HasOperation g op → is_sound_operation g.banks (length g.arrays) op ≡ true
  named_is op at = operation_of g op (record {
    operands = λ x m. sound.operands op x at m;
    results = λ v m. sound.results op v at m;
    tests = λ v m. sound.tests op v at m;
    arrays = λ a m. sound.arrays op a at m;
    no_across = λ v u e. sound.no_across v u (subst (HasOperation g) e at);
    moves = λ v a b e. sound.moves v a b (subst (HasOperation g) e at);
  })

  free_general : (v : ℕ) → IsFree v → is_general g.banks v ≡ true
  free_general v f = (free_is live most g d sound it v f).general

  -- ---- places and bases

  -- the value is a place of an array that is no global, or a base
  pub data IsAddress (v : ℕ) : Type 0 where
    in_array : (a : ℕ) → IsPlace g v a → IsAddress v
    as_base : IsBase g v → IsAddress v

  made_here : (v : ℕ) (op : Op) → HasOperation g op → makes_address g.arrays v op ≡ true → is_address g v ≡ true
  made_here v op at h =
      or_left (list_any (λ (block : Block). list_any (makes_address g.arrays v) block.ops) g.blocks) (is_given_base g v)
      (any_of (λ (block : Block). list_any (makes_address g.arrays v) block.ops) g.blocks at.block at.has (any_of (makes_address g.arrays v) at.block.ops op at.stands h))

  place_is : (v a : ℕ) → IsPlace g v a → is_address g v ≡ true
  place_is v a (in_own i at own) = made_here v (Place v a i) at (both_true (eq-eqb v v refl) own)
  place_is v a (in_handed u i at) = made_here v (PlaceIn v a u i) at (eq-eqb v v refl)

  base_is : (v : ℕ) → IsBase g v → is_address g v ≡ true
  base_is v (given a e) = or_right (list_any (λ (block : Block). list_any (makes_address g.arrays v) block.ops) g.blocks) (is_given_base g v) (given_base_of g v (record { array = a; base = e }))
  base_is v (made a x at) = made_here v (Base v a x) at (eq-eqb v v refl)

  address_is : (v : ℕ) → IsAddress v → is_address g v ≡ true
  address_is v (in_array a place) = place_is v a place
  address_is v (as_base base) = base_is v base

  address_general : (v : ℕ) → IsAddress v → Has g v General
  address_general v (in_array a place) = place_general g v a sound place
  address_general v (as_base base) = base_general g v sound base

  not_free : (v : ℕ) → IsAddress v → IsFree v → ⊥
  not_free v address f = false≢true (sym (free_is live most g d sound it v f).no_address ∙ address_is v address)

  module _ (b : ℕ) (ops : List Op) (side : Side live most g d sound it b ops) where
    abbrev at : (op : Op) → IsIn op ops → HasOperation g op
    at op m = operation live most g d sound it b ops side op m

    simple_at : (op : Op) → IsIn op ops → Simple op × Has g (target op) General
    simple_at op m = is_one_of live most g d sound it b ops side op m

    address_unread : (v : ℕ) → IsAddress v → (op : Op) → IsIn op ops → IsIn v (reads op) → ⊥
    address_unread v (in_array a place) op m n = no_access op a (Held v) (simple_at op m).0 (sound.place_read v a op place (at op m) n).access
    address_unread v (as_base base) op m n = let r = sound.base_read v op base (at op m) n in simple_no_place_in op r.0 r.1 v r.2 (simple_at op m).0 r.3

    address_unwritten : (v : ℕ) → IsAddress v → IsIn v (written ops) → ⊥
    address_unwritten v address n =
        let f = mapped_from writes ops v n in
        by address f.op (at f.op f.stands) f.has (simple_at f.op f.stands).0
      where
        by : IsAddress v → (op : Op) → HasOperation g op → IsIn v (writes op) → Simple op → ⊥
        by (in_array a place) op there w s = simple_makes_none op v a s (sound.place_written v a op place there w)
        by (as_base base) op there w s = let r = sound.base_written v op base there w in simple_no_base op v r.0 r.1 s r.2

  -- ---- an operation that is new

  pub record Fresh (op : Op) : Type 0 where
    pub names : is_sound_operation g.banks (length g.arrays) op ≡ true
    pub simple : Simple op
    pub writes_none : (v : ℕ) → IsAddress v → IsIn v (writes op) → ⊥
    pub reads_none : (v : ℕ) → IsAddress v → IsIn v (reads op) → ⊥

  abbrev Good : (ℕ → ℕ) → Type 0
  Good now = (u : ℕ) → (now u ≡ u) ⊎ IsFree (now u)

  general_now : (now : ℕ → ℕ) → Good now → (v : ℕ) → is_general g.banks v ≡ true → is_general g.banks (now v) ≡ true
  general_now now good v h = elim (good v) [ inl e ↦ subst (λ x. is_general g.banks x ≡ true) (sym e) h | inr f ↦ free_general (now v) f ]

  operand_now : (now : ℕ → ℕ) → Good now → (x : Operand) → is_operand g.banks x ≡ true → is_operand g.banks (with_value_in now x) ≡ true
  operand_now now good (Held v) h = general_now now good v h
  operand_now now good (Number n) h = refl
  operand_now now good Stack h = h

  module _ (b : ℕ) (ops : List Op) (side : Side live most g d sound it b ops) (to : ℕ → ℕ) (frees : (w : ℕ) → IsIn w (written ops) → IsFree (to w)) where
    stood_elsewhere : (now : ℕ → ℕ) → Good now → (v : ℕ) → IsAddress v → (op : Op) → IsIn op ops → Stood now (reads op) v → ⊥
    stood_elsewhere now good v address op m s = by (good s.value)
      where
        by : (now s.value ≡ s.value) ⊎ IsFree (now s.value) → ⊥
        by (inl e) = address_unread b ops side v address op m (subst (λ x. IsIn x (reads op)) (sym (s.is ∙ e)) s.stands)
        by (inr f) = not_free v address (subst IsFree (sym s.is) f)

    taken_fresh : (now : ℕ → ℕ) → Good now → (op : Op) → IsIn op ops → Fresh (writing_to to (with_operands (with_value_in now) op))
    taken_fresh now good op m = by op (simple_at b ops side op m).0 (simple_at b ops side op m).1 (named_is op (at b ops side op m)) (frees (target op) (in_mapped writes ops op (target op) m (writes_it live most g d sound it b ops side op (simple_at b ops side op m).0)))
        (λ v address s. stood_elsewhere now good v address op m s)
      where
        by : (o : Op) → Simple o → Has g (target o) General → is_sound_operation g.banks (length g.arrays) o ≡ true → IsFree (to (target o)) → ((v : ℕ) → IsAddress v → Stood now (reads o) v → ⊥) →
            Fresh (writing_to to (with_operands (with_value_in now) o))
        by o (computes {code} {v} {a = x} {b = y}) general h f n =
            let (ab, c) = and_parts _ _ h in
            let (wr, left) = and_parts _ _ ab in
            record {
              names = both_true (both_true (written_kept g.banks code v (to v) wr (general_of g v general) (free_general (to v) f)) (operand_now now good x left)) (right_kept g.banks code y (with_value_in now y) c (operand_now now good y));
              simple = computes;
              writes_none = λ u address k. not_free u address (subst IsFree (sym (in_one u (to v) k)) f);
              reads_none = λ u address k. n u address (computed_from now (is_unary code) x y u k);
            }
        by o (chooses {v} {p} {a = x} {b = y}) general h f n =
            let (abc, right) = and_parts _ _ h in
            let (ab, left) = and_parts _ _ abc in
            let (wr, test) = and_parts _ _ ab in
            record {
              names = both_true (both_true (both_true (free_general (to v) f) test) (operand_now now good x left)) (operand_now now good y right);
              simple = chooses;
              writes_none = λ u address k. not_free u address (subst IsFree (sym (in_one u (to v) k)) f);
              reads_none = λ u address k. reads_by u address k;
            }
          where
            is_branch_value : Has g p Branch
            is_branch_value = tests_are g (Select v p x y) p h (inl refl)

            reads_by : (u : ℕ) → IsAddress u → IsIn u (p ∷ (value_in (with_value_in now x) ++ value_in (with_value_in now y))) → ⊥
            reads_by u address (inl e) =
                let q : slice_get g.banks u ≡ Some General = address_general u address in
                let r : slice_get g.banks u ≡ Some Branch = subst (λ z. Has g z Branch) (sym e) is_branch_value in
                absurd (cc)
            reads_by u address (inr k) = n u address (let s = two_from now x y u k in record { value = s.value; stands = inr s.stands; is = s.is })

    after_good : (now : ℕ → ℕ) → Good now → (op : Op) → IsIn op ops → Good (after_write to (writes op) now)
    after_good now good op m u = by (has (writes op) u) refl
      where
        by : (x : Bool) → has (writes op) u ≡ x → (cond x (to u) (now u) ≡ u) ⊎ IsFree (cond x (to u) (now u))
        by true e = inr (frees u (in_mapped writes ops op u m (has_in (writes op) u e)))
        by false e = good u

    moved_fresh : (xs : List Op) → ((op : Op) → IsIn op xs → IsIn op ops) → (now : ℕ → ℕ) → Good now → (op : Op) → IsIn op (moved to now xs) → Fresh op
    moved_fresh [] sub now good op m = absurd m
    moved_fresh (o ∷ xs) sub now good op (inl e) = subst Fresh (sym e) (taken_fresh now good o (sub o (inl refl)))
    moved_fresh (o ∷ xs) sub now good op (inr m) = moved_fresh xs (λ p k. sub p (inr k)) (after_write to (writes o) now) (after_good now good o (sub o (inl refl))) op m

  left_frees : (w : ℕ) → IsIn w (written d.left) → IsFree (left_takes live g d w)
  left_frees w m = in_free live most g d sound it (left_takes live g d w) (left_free live most g d sound it w (in_values live most g d sound it d.yes d.left (the_left live most g d sound it) w m))

  right_frees : (w : ℕ) → IsIn w (written d.right) → IsFree (right_takes live g d w)
  right_frees w m = in_free live most g d sound it (right_takes live g d w) (right_free live most g d sound it w (in_values live most g d sound it d.no d.right (the_right live most g d sound it) w m))

  -- where a value that is taken stands for another, it is free
  left_good : Good (left_takes live g d)
  left_good u = by (has (written d.left) u) refl
    where
      by : (x : Bool) → has (written d.left) u ≡ x → (left_takes live g d u ≡ u) ⊎ IsFree (left_takes live g d u)
      by true e = inr (left_frees u (has_in (written d.left) u e))
      by false e = inl (takes_off (L live most g d sound it) (F live most g d sound it) u (λ m. has_not (written d.left) u e (values_in live most g d sound it d.yes d.left (the_left live most g d sound it) u m)))

  right_good : Good (right_takes live g d)
  right_good u = by (has (written d.right) u) refl
    where
      by : (x : Bool) → has (written d.right) u ≡ x → (right_takes live g d u ≡ u) ⊎ IsFree (right_takes live g d u)
      by true e = inr (right_frees u (has_in (written d.right) u e))
      by false e = inl (takes_off (R live most g d sound it) (drop (length (L live most g d sound it)) (F live most g d sound it)) u (λ m. has_not (written d.right) u e (values_in live most g d sound it d.no d.right (the_right live most g d sound it) u m)))

  abbrev the_choice : ℕ → Op
  the_choice v = choice (left_takes live g d) (right_takes live g d) d.test v

  chosen_elsewhere : (v : ℕ) → IsAddress v → IsIn v (C live most g d sound it) → ⊥
  chosen_elsewhere v address m = by (chosen_is live most g d sound it v m).by_one
    where
      by : IsIn v (written d.left) ⊎ IsIn v (written d.right) → ⊥
      by (inl n) = address_unwritten d.yes d.left (the_left live most g d sound it) v address n
      by (inr n) = address_unwritten d.no d.right (the_right live most g d sound it) v address n

  good_elsewhere : (now : ℕ → ℕ) → Good now → (u v : ℕ) → IsAddress u → IsIn v (C live most g d sound it) → u ≡ now v → ⊥
  good_elsewhere now good u v address m e = by (good v)
    where
      by : (now v ≡ v) ⊎ IsFree (now v) → ⊥
      by (inl q) = chosen_elsewhere v (subst IsAddress (e ∙ q) address) m
      by (inr f) = not_free u address (subst IsFree (sym e) f)

  choice_fresh : (v : ℕ) → IsIn v (C live most g d sound it) → Fresh (the_choice v)
  choice_fresh v m =
      let general : is_general g.banks v ≡ true = general_of g v (chosen_general live most g d sound it v m) in
      let test : Has g d.test Branch = split_test live most g d sound it in
      record {
        names = both_true (both_true (both_true general (branch_of g d.test test)) (general_now (left_takes live g d) left_good v general)) (general_now (right_takes live g d) right_good v general);
        simple = chooses;
        writes_none = λ u address k. chosen_elsewhere v (subst IsAddress (in_one u v k) address) m;
        reads_none = λ u address k. reads_by u address k;
      }
    where
      reads_by : (u : ℕ) → IsAddress u → IsIn u (d.test ∷ left_takes live g d v ∷ right_takes live g d v ∷ []) → ⊥
      reads_by u address (inl e) =
          let q : slice_get g.banks u ≡ Some General = address_general u address in
          let r : slice_get g.banks u ≡ Some Branch = subst (λ z. Has g z Branch) (sym e) (split_test live most g d sound it) in
          absurd (cc)
      reads_by u address (inr (inl e)) = good_elsewhere (left_takes live g d) left_good u v address m e
      reads_by u address (inr (inr (inl e))) = good_elsewhere (right_takes live g d) right_good u v address m e
      reads_by u address (inr (inr (inr z))) = z

  choices_fresh : (vs : List ℕ) → ((v : ℕ) → IsIn v vs → IsIn v (C live most g d sound it)) → (op : Op) → IsIn op (map the_choice vs) → Fresh op
  choices_fresh [] sub op m = absurd m
  choices_fresh (v ∷ vs) sub op (inl e) = subst Fresh (sym e) (choice_fresh v (sub v (inl refl)))
  choices_fresh (v ∷ vs) sub op (inr m) = choices_fresh vs (λ u k. sub u (inr k)) op m

  -- both sides and the choices
  pub all_fresh : (op : Op) → IsIn op (both_sides live g d) → Fresh op
  all_fresh op m = elim (in_either op (moved (left_takes live g d) as_is d.left) (moved (right_takes live g d) as_is d.right ++ choices live g d) m) [
    | inl a ↦ moved_fresh d.yes d.left (the_left live most g d sound it) (left_takes live g d) left_frees d.left (λ o k. k) as_is (λ u. inl refl) op a
    | inr b ↦ elim (in_either op (moved (right_takes live g d) as_is d.right) (choices live g d) b) [
      | inl x ↦ moved_fresh d.no d.right (the_right live most g d sound it) (right_takes live g d) right_frees d.right (λ o k. k) as_is (λ u. inl refl) op x
      | inr y ↦ choices_fresh (C live most g d sound it) (λ u k. k) op y
    ]
  ]
