-- A sound graph stays sound behind a conversion.
use Rattle.std.proofs.Common.{◌≡◌, ◌⊎◌, inl, inr, ℕ, zero, suc, ◌<◌, ◌==◌, ℤ, Bool, true, false, cond, List, [], ◌∷◌, ◌++◌, length, slice_get, Option, Some, None, refl, sym, ap, subst, ◌∙◌, eq-eqb, arith}
use Rattle.std.specs.Option.{option_map}
use Rattle.std.proofs.lemmas.Bool.{and_parts, false≢true, eqb-true}
use Rattle.vx_base.specs.declared.arithmetic.Code.TheVariants.{Mov}
use Rattle.vx_flow.specs.declared.graph.Operand.{Operand}
use Rattle.vx_flow.specs.declared.graph.Operand.TheVariants.{Held, Number, Stack}
use Rattle.vx_flow.specs.declared.graph.Op.{Op}
use Rattle.vx_flow.specs.declared.graph.Op.TheVariants.{Compute, Place, Text, Across, Base, PlaceIn}
use Rattle.vx_flow.specs.declared.graph.Exit.{Exit}
use Rattle.vx_flow.specs.declared.graph.Exit.TheVariants.{Goto, Split, Call, Return, Ends}
use Rattle.vx_flow.specs.declared.graph.Block.{Block}
use Rattle.vx_flow.specs.declared.graph.Graph.{Graph}
use Rattle.vx_flow.specs.Effects.{IsIn}
use Rattle.vx_flow.specs.Sound.{operands_of_exit, tests_of_exit, results_of_exit, targets_of, IsOperandOf, HasOperation, HasExit, IsAccess, IsPlace, in_own, in_handed, IsBase, given, made, Sound}
use Rattle.vx_flow.proofs.Members.{in_left, in_either}
use Rattle.vx_flow.proofs.SoundNames.{zero_is, operands_are, results_are, tests_are, arrays_are}
use Rattle.vx_select.specs.Selected.{Diamond, both_sides, stays, numbered, led, changed, converted, IsDiamond}
use Rattle.vx_select.proofs.Sides.{Simple, computes, chooses}
use Rattle.vx_select.proofs.Joined.{get_below, get_in, the_left, the_right, is_one_of}
use Rattle.vx_select.proofs.Numbered.{side_is, block_at, old_at}
use Rattle.vx_select.proofs.Fresh.{in_array, as_base, Fresh, all_fresh}

pub record Placed {A : Type 0} (xs : List A) (x : A) : Type 0 where
  pub place : ℕ
  pub is : slice_get xs place ≡ Some x

pub in_get : {A : Type 0} (xs : List A) (x : A) → IsIn x xs → Placed xs x
in_get [] x m = absurd m
in_get (y ∷ ys) x (inl e) = record { place = 0; is = ap Some (sym e) }
in_get (y ∷ ys) x (inr m) = let p = in_get ys x m in record { place = suc p.place; is = p.is }

-- exits that lead elsewhere name the same values
pub led_operands : (to : ℕ → ℕ) (x : Exit) → operands_of_exit (led to x) ≡ operands_of_exit x
led_operands to (Goto c) = refl
led_operands to (Split p c e) = refl
led_operands to (Call f arguments result c) = refl
led_operands to (Return x) = refl
led_operands to (Ends k) = refl

pub led_results : (to : ℕ → ℕ) (x : Exit) → results_of_exit (led to x) ≡ results_of_exit x
led_results to (Goto c) = refl
led_results to (Split p c e) = refl
led_results to (Call f arguments None c) = refl
led_results to (Call f arguments (Some v) c) = refl
led_results to (Return x) = refl
led_results to (Ends k) = refl

pub led_tests : (to : ℕ → ℕ) (x : Exit) → tests_of_exit (led to x) ≡ tests_of_exit x
led_tests to (Goto c) = refl
led_tests to (Split p c e) = refl
led_tests to (Call f arguments result c) = refl
led_tests to (Return x) = refl
led_tests to (Ends k) = refl

pub record Target (to : ℕ → ℕ) (x : Exit) (c : ℕ) : Type 0 where
  pub old : ℕ
  pub has : IsIn old (targets_of x)
  pub is : c ≡ to old

pub led_targets : (to : ℕ → ℕ) (x : Exit) (c : ℕ) → IsIn c (targets_of (led to x)) → Target to x c
led_targets to (Goto a) c (inl e) = record { old = a; has = inl refl; is = e }
led_targets to (Goto a) c (inr z) = absurd z
led_targets to (Split p a b) c (inl e) = record { old = a; has = inl refl; is = e }
led_targets to (Split p a b) c (inr (inl e)) = record { old = b; has = inr (inl refl); is = e }
led_targets to (Split p a b) c (inr (inr z)) = absurd z
led_targets to (Call f arguments result a) c (inl e) = record { old = a; has = inl refl; is = e }
led_targets to (Call f arguments result a) c (inr z) = absurd z
led_targets to (Return x) c m = absurd m
led_targets to (Ends k) c m = absurd m

fresh_no_place : (op : Op) (v a : ℕ) (i : Operand) → Simple op → op ≡ Place v a i → ⊥
fresh_no_place op v a i computes e = cc
fresh_no_place op v a i chooses e = cc

fresh_no_access : (op : Op) (a : ℕ) (p : Operand) → Simple op → IsAccess a p op → ⊥
fresh_no_access op a p computes h = elim h [ ]
fresh_no_access op a p chooses h = elim h [ ]

fresh_no_across : (op : Op) (v u : ℕ) → Simple op → op ≡ Across v u → ⊥
fresh_no_across op v u computes e = cc
fresh_no_across op v u chooses e = cc

fresh_no_base : (op : Op) (v a : ℕ) (x : Operand) → Simple op → op ≡ Base v a x → ⊥
fresh_no_base op v a x computes e = cc
fresh_no_base op v a x chooses e = cc

fresh_no_place_in : (op : Op) (v a u : ℕ) (i : Operand) → Simple op → op ≡ PlaceIn v a u i → ⊥
fresh_no_place_in op v a u i computes e = cc
fresh_no_place_in op v a u i chooses e = cc

left_alone : (x : Exit) (to : ℕ → ℕ) (y : Operand) → Return y ≡ led to x → Return y ≡ x
left_alone (Goto c) to y e = absurd (cc)
left_alone (Split p c b) to y e = absurd (cc)
left_alone (Call f arguments result c) to y e = absurd (cc)
left_alone (Return z) to y e = e
left_alone (Ends k) to y e = absurd (cc)

fresh_no_text : (op : Op) (n : ℕ) → Simple op → op ≡ Text n → ⊥
fresh_no_text op n computes e = cc
fresh_no_text op n chooses e = cc

module _ (live : ℕ → ℕ → Bool) (most : ℕ) (g : Graph) (d : Diamond) (sound : Sound g) (it : IsDiamond live most g d) where
  abbrev h : Graph
  h = converted live g d

  abbrev joined : Block
  joined = record { ops = d.before ++ both_sides live g d; exit = Goto (numbered d d.join) }

  abbrev as_it_is : Block → Block
  as_it_is k = record { ops = k.ops; exit = led (numbered d) k.exit }

  -- what stands at a place of the new graph
  pub data Becomes (place : ℕ) (k new : Block) : Type 0 where
    the_split : place ≡ d.block → k ≡ record { ops = d.before; exit = Split d.test d.yes d.no } → new ≡ joined → Becomes place k new
    another : (place ≡ d.block → ⊥) → new ≡ as_it_is k → Becomes place k new

  pub becomes : (place : ℕ) (k : Block) → slice_get g.blocks place ≡ Some k → Becomes place k (changed live g d place k)
  becomes place k e = by (place == d.block) refl
    where
      is_split : place ≡ d.block → k ≡ record { ops = d.before; exit = Split d.test d.yes d.no }
      is_split q = let a : slice_get g.blocks d.block ≡ Some k = ap (slice_get g.blocks) (sym q) ∙ e in let b : slice_get g.blocks d.block ≡ Some (record { ops = d.before; exit = Split d.test d.yes d.no }) = it.splits in cc

      by : (x : Bool) → (place == d.block) ≡ x → Becomes place k (cond x joined (as_it_is k))
      by true q = let p : place ≡ d.block = eqb-true place d.block q in the_split p (is_split p) refl
      by false q = another (λ p. false≢true (sym q ∙ eq-eqb place d.block p)) refl

  -- ---- operations

  pub new_operation : (op : Op) → HasOperation h op → HasOperation g op ⊎ Fresh live most g d sound it op
  new_operation op at =
      let p = in_get h.blocks at.block at.has in
      let o = old_at live g d p.place at.block p.is in
      by o.place o.old o.has (changed live g d o.place o.old) (becomes o.place o.old o.has) (subst (λ (k : Block). IsIn op k.ops) o.is at.stands)
    where
      there : (place : ℕ) (k : Block) → slice_get g.blocks place ≡ Some k → IsIn op k.ops → HasOperation g op
      there place k e m = record { block = k; has = get_in g.blocks place k e; stands = m }

      by : (place : ℕ) (k : Block) → slice_get g.blocks place ≡ Some k → (new : Block) → Becomes place k new → IsIn op new.ops → HasOperation g op ⊎ Fresh live most g d sound it op
      by place k e new (the_split p q r) m = elim (in_either op d.before (both_sides live g d) (subst (λ (x : Block). IsIn op x.ops) r m)) [
        | inl a ↦ inl (there place k e (subst (λ (x : Block). IsIn op x.ops) (sym q) a))
        | inr b ↦ inr (all_fresh live most g d sound it op b)
      ]
      by place k e new (another p r) m = inl (there place k e (subst (λ (x : Block). IsIn op x.ops) r m))

  simple_side : (b : ℕ) (k : Block) → slice_get g.blocks b ≡ Some k → stays d b ≡ false → (op : Op) → IsIn op k.ops → Simple op
  simple_side b k e s op m = by (side_is d b s)
    where
      by : (b ≡ d.yes) ⊎ (b ≡ d.no) → Simple op
      by (inl q) =
          let a : slice_get g.blocks d.yes ≡ Some k = ap (slice_get g.blocks) (sym q) ∙ e in
          let c : slice_get g.blocks d.yes ≡ Some (record { ops = d.left; exit = Goto d.join }) = it.at_yes in
          let r : k ≡ record { ops = d.left; exit = Goto d.join } = cc in
          (is_one_of live most g d sound it d.yes d.left (the_left live most g d sound it) op (subst (λ (x : Block). IsIn op x.ops) r m)).0
      by (inr q) =
          let a : slice_get g.blocks d.no ≡ Some k = ap (slice_get g.blocks) (sym q) ∙ e in
          let c : slice_get g.blocks d.no ≡ Some (record { ops = d.right; exit = Goto d.join }) = it.at_no in
          let r : k ≡ record { ops = d.right; exit = Goto d.join } = cc in
          (is_one_of live most g d sound it d.no d.right (the_right live most g d sound it) op (subst (λ (x : Block). IsIn op x.ops) r m)).0

  -- an old operation that is not simple is still there
  old_operation : (op : Op) → (Simple op → ⊥) → HasOperation g op → HasOperation h op
  old_operation op n at =
      let p = in_get g.blocks at.block at.has in
      by p.place p.is (stays d p.place) refl
    where
      inside : (place : ℕ) (new : Block) → Becomes place at.block new → IsIn op new.ops
      inside place new (the_split p q r) = subst (λ (x : Block). IsIn op x.ops) (sym r) (in_left op d.before (both_sides live g d) (subst (λ (x : Block). IsIn op x.ops) q at.stands))
      inside place new (another p r) = subst (λ (x : Block). IsIn op x.ops) (sym r) at.stands

      by : (place : ℕ) → slice_get g.blocks place ≡ Some at.block → (s : Bool) → stays d place ≡ s → HasOperation h op
      by place e true s = record {
        block = changed live g d place at.block;
        has = get_in h.blocks (numbered d place) (changed live g d place at.block) (block_at live g d place s ∙ ap (option_map (changed live g d place)) e);
        stands = inside place (changed live g d place at.block) (becomes place at.block e);
      }
      by place e false s = absurd (n (simple_side place at.block e s op at.stands))

  -- ---- exits

  pub record OldExit (x : Exit) : Type 0 where
    pub old : Exit
    pub has : HasExit g old
    pub is : x ≡ led (numbered d) old
    pub stay : (c : ℕ) → IsIn c (targets_of old) → stays d c ≡ true

  targets_stay : (b : ℕ) (k : Block) → slice_get g.blocks b ≡ Some k → (b ≡ d.block → ⊥) → (c : ℕ) → IsIn c (targets_of k.exit) → stays d c ≡ true
  targets_stay b k has n c m = by (stays d c) refl
    where
      by : (x : Bool) → stays d c ≡ x → x ≡ true
      by true e = refl
      by false e = absurd (n (it.alone b c (record { block = k; has = has; leads = m }) e))

  pub new_exit : (x : Exit) → HasExit h x → OldExit x
  new_exit x at =
      let p = in_get h.blocks at.block at.has in
      let o = old_at live g d p.place at.block p.is in
      by o.place o.old o.has (changed live g d o.place o.old) (becomes o.place o.old o.has) (at.ends ∙ ap (λ (k : Block). k.exit) o.is)
    where
      join_stays : (c : ℕ) → IsIn c (d.join ∷ []) → stays d c ≡ true
      join_stays c (inl e) = ap (stays d) e ∙ it.beyond
      join_stays c (inr z) = absurd z

      by : (place : ℕ) (k : Block) → slice_get g.blocks place ≡ Some k → (new : Block) → Becomes place k new → x ≡ new.exit → OldExit x
      by place k e new (the_split p q r) f = record {
        old = Goto d.join;
        has = record { block = record { ops = d.left; exit = Goto d.join }; has = get_in g.blocks d.yes _ it.at_yes; ends = refl };
        is = f ∙ ap (λ (b : Block). b.exit) r;
        stay = join_stays;
      }
      by place k e new (another p r) f = record {
        old = k.exit;
        has = record { block = k; has = get_in g.blocks place k e; ends = refl };
        is = f ∙ ap (λ (b : Block). b.exit) r;
        stay = targets_stay place k e p;
      }

  exit_operand : (exit : Exit) (o : OldExit exit) (x : Operand) → IsIn x (operands_of_exit exit) → IsIn x (operands_of_exit o.old)
  exit_operand exit o x m = subst (IsIn x) (led_operands (numbered d) o.old) (subst (λ e. IsIn x (operands_of_exit e)) o.is m)

  exit_result : (exit : Exit) (o : OldExit exit) (v : ℕ) → IsIn v (results_of_exit exit) → IsIn v (results_of_exit o.old)
  exit_result exit o v m = subst (IsIn v) (led_results (numbered d) o.old) (subst (λ e. IsIn v (results_of_exit e)) o.is m)

  -- the block that an old one leads to is there
  number_below : (c : ℕ) → stays d c ≡ true → c < length g.blocks → numbered d c < length h.blocks
  number_below c s l = by (slice_get g.blocks c) refl
    where
      some_at : (xs : List Block) (i : ℕ) → i < length xs → slice_get xs i ≡ None → ⊥
      some_at [] i k e = absurd (omega arith)
      some_at (x ∷ xs) zero k e = cc
      some_at (x ∷ xs) (suc i) k e = some_at xs i (omega arith) e

      by : (o : Option Block) → slice_get g.blocks c ≡ o → numbered d c < length h.blocks
      by None e = absurd (some_at g.blocks c l e)
      by (Some k) e = get_below h.blocks (numbered d c) (changed live g d c k) (block_at live g d c s ∙ ap (option_map (changed live g d c)) e)

  exit_target : (exit : Exit) → OldExit exit → (c : ℕ) → IsIn c (targets_of exit) → c < length h.blocks
  exit_target exit o c m =
      let t = led_targets (numbered d) o.old c (subst (λ e. IsIn c (targets_of e)) o.is m) in
      let l : t.old < length g.blocks = sound.targets o.old t.old o.has t.has in
      subst (λ x. x < length h.blocks) (sym t.is) (number_below t.old (o.stay t.old t.has) l)

  -- ---- places and bases

  still : (op : Op) → HasOperation h op → (Simple op → ⊥) → HasOperation g op
  still op at n = elim (new_operation op at) [ inl a ↦ a | inr f ↦ absurd (n f.simple) ]

  old_place : (v a : ℕ) → IsPlace h v a → IsPlace g v a
  old_place v a (in_own i at own) = in_own i (still (Place v a i) at (λ s. fresh_no_place (Place v a i) v a i s refl)) own
  old_place v a (in_handed u i at) = in_handed u i (still (PlaceIn v a u i) at (λ s. fresh_no_place_in (PlaceIn v a u i) v a u i s refl))

  new_place : (v a : ℕ) → IsPlace g v a → IsPlace h v a
  new_place v a (in_own i at own) = in_own i (old_operation (Place v a i) (λ s. fresh_no_place (Place v a i) v a i s refl) at) own
  new_place v a (in_handed u i at) = in_handed u i (old_operation (PlaceIn v a u i) (λ s. fresh_no_place_in (PlaceIn v a u i) v a u i s refl) at)

  old_made : (v a : ℕ) (x : Operand) → HasOperation h (Base v a x) → HasOperation g (Base v a x)
  old_made v a x at = still (Base v a x) at (λ s. fresh_no_base (Base v a x) v a x s refl)

  pub base_was : (v : ℕ) → IsBase h v → IsBase g v
  base_was v (given a e) = given a e
  base_was v (made a x at) = made a x (old_made v a x at)

  pub base_stays : (v : ℕ) → IsBase g v → IsBase h v
  base_stays v (given a e) = given a e
  base_stays v (made a x at) = made a x (old_operation (Base v a x) (λ s. fresh_no_base (Base v a x) v a x s refl) at)

  old_return : (x : Operand) → HasExit h (Return x) → HasExit g (Return x)
  old_return x at = let o = new_exit (Return x) at in subst (HasExit g) (sym (left_alone o.old (numbered d) x o.is)) o.has

  -- ---- the whole

  named_new : {P : Type 0} (op : Op) → HasOperation h op → (HasOperation g op → P) → (Fresh live most g d sound it op → P) → P
  named_new op at f k = elim (new_operation op at) [ inl a ↦ f a | inr b ↦ k b ]

  as_operand : (x : Operand) → IsOperandOf g x → IsOperandOf h x
  as_operand (Held v) e = e
  as_operand (Number n) e = e
  as_operand Stack e = e

  pub stays_sound : Sound h
  stays_sound = record {
    parameters = λ v m. sound.parameters v m;
    operands = λ op x at m. as_operand x (named_new op at (λ a. sound.operands op x a m) (λ f. operands_are g op x f.names m));
    results = λ op v at m. named_new op at (λ a. sound.results op v a m) (λ f. results_are g op v f.names m);
    tests = λ op v at m. named_new op at (λ a. sound.tests op v a m) (λ f. tests_are g op v f.names m);
    arrays = λ op a at m. named_new op at (λ k. sound.arrays op a k m) (λ f. arrays_are g op a f.names m);
    exit_operands = λ exit x at m. let o = new_exit exit at in as_operand x (sound.exit_operands o.old x o.has (exit_operand exit o x m));
    exit_results = λ exit v at m. let o = new_exit exit at in sound.exit_results o.old v o.has (exit_result exit o v m);
    exit_tests = λ exit v at m. let o = new_exit exit at in sound.exit_tests o.old v o.has (subst (IsIn v) (led_tests (numbered d) o.old) (subst (λ e. IsIn v (tests_of_exit e)) o.is m));
    targets = λ exit c at m. exit_target exit (new_exit exit at) c m;
    no_across = λ v u at. named_new (Across v u) at (λ a. sound.no_across v u a) (λ f. fresh_no_across (Across v u) v u f.simple refl);
    base_from = λ v a x at. (let m = sound.base_from v a x (old_made v a x at) in record { array = m.array; is = m.is; bare = m.bare; from = m.from });
    place_bare = λ v a i at. sound.place_bare v a i (still (Place v a i) at (λ s. fresh_no_place (Place v a i) v a i s refl));
    place_base = λ v a u i at. sound.place_base v a u i (still (PlaceIn v a u i) at (λ s. fresh_no_place_in (PlaceIn v a u i) v a u i s refl));
    place_written = λ v a op place at m. named_new op at (λ k. sound.place_written v a op (old_place v a place) k m) (λ f. absurd (f.writes_none v (in_array a (old_place v a place)) m));
    place_read = λ v a op place at m. named_new op at (λ k. sound.place_read v a op (old_place v a place) k m) (λ f. absurd (f.reads_none v (in_array a (old_place v a place)) m));
    place_parameter = λ v a place m. sound.place_parameter v a (old_place v a place) m;
    place_exit = λ v a exit place at m. let o = new_exit exit at in sound.place_exit v a o.old (old_place v a place) o.has (elim m [ inl x ↦ inl (exit_operand exit o (Held v) x) | inr y ↦ inr (exit_result exit o v y) ]);
    placed = λ a p op at access own. named_new op at (λ k. placed_new a p (sound.placed a p op k access own)) (λ f. absurd (fresh_no_access op a p f.simple access));
    placed_by = λ a u p op at access e. named_new op at (λ k. let q = sound.placed_by a u p op k access e in (q.0, q.1, new_place q.0 a q.2)) (λ f. absurd (fresh_no_access op a p f.simple access));
    handed = λ a v array e b. sound.handed a v array e b;
    base_written = λ v op base at m. named_new op at (λ k. sound.base_written v op (base_was v base) k m) (λ f. absurd (f.writes_none v (as_base (base_was v base)) m));
    base_parameter = λ v a x at m. sound.base_parameter v a x (old_made v a x at) m;
    base_read = λ v op base at m. named_new op at (λ k. sound.base_read v op (base_was v base) k m) (λ f. absurd (f.reads_none v (as_base (base_was v base)) m));
    base_result = λ v exit base at m. (let o = new_exit exit at in sound.base_result v o.old (base_was v base) o.has (exit_result exit o v m));
    base_returned = λ v x base at e. sound.base_returned v x (base_was v base) (old_return x at) e;
    moves = λ v a b at. named_new (Compute Mov v a b) at (λ k. sound.moves v a b k) (λ f. zero_is b (and_parts _ _ f.names).1);
  }
    where
      placed_new : (a : ℕ) (p : Operand) → ((n : ℤ) × (p ≡ Number n)) ⊎ ((v : ℕ) × (p ≡ Held v) × IsPlace g v a) → ((n : ℤ) × (p ≡ Number n)) ⊎ ((v : ℕ) × (p ≡ Held v) × IsPlace h v a)
      placed_new a p (inl q) = inl q
      placed_new a p (inr q) = inr (q.0, q.1, new_place q.0 a q.2)
