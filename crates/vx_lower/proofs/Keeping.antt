-- What fits after the steps of a graph that is being made: where jumps may go, which blocks wait, how many values there are.
use Rattle.std.proofs.Common.{◌≡◌, ℕ, ◌+◌, ◌<◌, ◌≤◌, Bool, List, [], ◌∷◌, ◌++◌, length, count_by, Option, Some, None, refl, sym, ap, ◌∙◌, subst, inl, inr, arith}
use Rattle.std.specs.Prelude.{slice_get}
use Rattle.std.specs.List.{sum_by}
use Rattle.std.specs.Prelude.{cond}
use Rattle.std.proofs.lemmas.List.Sums.{sum_by-append}
use Rattle.std.proofs.lemmas.Option.{slice_get_within}
use Rattle.vx_base.specs.declared.outcome.Trap.{Trap}
use Rattle.vx_flow.specs.declared.graph.Bank.{Bank}
use Rattle.vx_flow.specs.declared.graph.Bank.TheVariants.{General, Branch}
use Rattle.vx_flow.specs.declared.graph.Op.{Op}
use Rattle.vx_flow.specs.declared.graph.Op.TheVariants.{Text}
use Rattle.vx_flow.specs.declared.graph.Exit.{Exit}
use Rattle.vx_flow.specs.declared.graph.Exit.TheVariants.{Goto, Split, Call, Return, Ends}
use Rattle.vx_flow.specs.declared.graph.Block.{Block}
use Rattle.vx_flow.specs.Effects.{IsIn}
use Rattle.vx_flow.specs.Sound.{MakesPlace, targets_of}
use Rattle.vx_lower.specs.Seen.{Sees}
use Rattle.vx_lower.specs.FlowOf.{is_general, is_branch}
use Rattle.vx_lower.specs.Holds.{ends}
use Rattle.vx_lower.specs.Builds.{reserved, closed, filled, turned_to, with_value, with_op}
use Rattle.vx_lower.specs.Emits.{Spare, Aimed}
use Rattle.vx_lower.specs.Adds.{entered, Added, near, far, Forked, Trapped, Last}
use Rattle.vx_lower.specs.Named.{Known, TakesArguments}
use Rattle.vx_ast.specs.declared.tree.Takes.{Takes as Kind}
use Rattle.vx_lower.specs.Fits.{Role, Scalar, Test, PlaceOf, Stand, MakesStand, bank_of_role, HasRole, OperandFits, OpFits, ResultFits, ArgumentsFit, ExitFits, split_targets, Fits, Shaped, Free, Keeps, DestFits, Takes}
use Rattle.vx_lower.specs.declared.builder.Builder.{Builder}
use Rattle.vx_lower.proofs.Places.{get_front, length_more, set_other, set_length}
use Rattle.vx_lower.proofs.Building.{current_within, grows_reserved}
use Rattle.vx_lower.proofs.Emitting.{spare_closed, spare_filled, spare_reserved, ready_closed}
use Rattle.vx_lower.proofs.Fitting.{Kept, get_waiting, get_set, split_is_target, target_fits, Leads, fits_reserved, fits_filled, fits_closed, fits_turned, fits_op, fits_value, fits_made, role_front, role_last}

-- counts

count_more : (p : Bank → Bool) (xs : List Bank) (x : Bank) (n : ℕ) → cond (p x) 1 0 ≡ n → count_by p (xs ++ x ∷ []) ≡ count_by p xs + n
count_more p xs x n e = let s = sum_by-append (λ y. cond (p y) 1 0) xs (x ∷ []) in let one : sum_by (λ y. cond (p y) 1 0) (x ∷ []) ≡ 0 + cond (p x) 1 0 = refl in omega arith

-- a jump, a call or a return from the open block
abbrev pub Leaves : {words : Sees} → Known words → List Role → Builder → Exit → Type 0
Leaves k roles b (Goto c) = Free b c
Leaves k roles b (Split test c d) = ⊥
Leaves k roles b (Call f os result c) = ((takes : List Kind) × TakesArguments k f takes × ArgumentsFit roles takes os) × ResultFits roles result × Free b c
Leaves k roles b (Return o) = OperandFits roles o
Leaves k roles b (Ends trap) = ⊥

leaves_fit : {words : Sees} (k : Known words) (roles : List Role) (b : Builder) (exit : Exit) → Leaves k roles b exit → ExitFits k roles (length b.blocks) exit
leaves_fit k roles b (Goto c) h = (h.above, h.below)
leaves_fit k roles b (Split test c d) h = absurd h
leaves_fit k roles b (Call f os result c) h = (h.0, h.1, (h.2.above, h.2.below))
leaves_fit k roles b (Return o) h = h
leaves_fit k roles b (Ends trap) h = absurd h

leaves_untrapped : {words : Sees} (k : Known words) (roles : List Role) (b : Builder) (exit : Exit) → Leaves k roles b exit → (trap : Trap) → exit ≡ Ends trap → ⊥
leaves_untrapped k roles b (Goto c) h trap e = cc
leaves_untrapped k roles b (Split test c d) h trap e = absurd h
leaves_untrapped k roles b (Call f os result c) h trap e = cc
leaves_untrapped k roles b (Return o) h trap e = cc
leaves_untrapped k roles b (Ends other) h trap e = absurd h

leaves_unsplit : {words : Sees} (k : Known words) (roles : List Role) (b : Builder) (exit : Exit) → Leaves k roles b exit → (c : ℕ) → IsIn c (split_targets exit) → ⊥
leaves_unsplit k roles b (Goto d) h c m = m
leaves_unsplit k roles b (Split test d e) h c m = absurd h
leaves_unsplit k roles b (Call f os result d) h c m = m
leaves_unsplit k roles b (Return o) h c m = m
leaves_unsplit k roles b (Ends trap) h c m = absurd h

one_free : (b : Builder) (c d : ℕ) → Free b d → IsIn c (d ∷ []) → Free b c
one_free b c d h (inl e) = subst (Free b) (sym e) h
one_free b c d h (inr m) = absurd m

leaves_free : {words : Sees} (k : Known words) (roles : List Role) (b : Builder) (exit : Exit) → Leaves k roles b exit → (c : ℕ) → IsIn c (targets_of exit) → Free b c
leaves_free k roles b (Goto d) h c m = one_free b c d h m
leaves_free k roles b (Split test d e) h c m = absurd h
leaves_free k roles b (Call f os result d) h c m = one_free b c d h.2 m
leaves_free k roles b (Return o) h c m = absurd m
leaves_free k roles b (Ends trap) h c m = absurd h

pub free_filled : (b : Builder) (p : ℕ) (z : Block) (c : ℕ) → (IsIn c (split_targets z.exit) → ⊥) → Free b c → Free (filled b p z) c
free_filled b p z c n h = let l = set_length b.blocks p (Some z) in let w = h.below in record {
  above = h.above;
  below = omega arith;
  unsplit = λ i x e m. elim (get_set b.blocks p z i x e) [ inl w ↦ n (subst (λ q. IsIn c (split_targets q.exit)) (sym w.1) m) | inr w ↦ h.unsplit i x w m ];
}

pub free_closed : {words : Sees} (k : Known words) (roles : List Role) {b : Builder} (exit : Exit) (n c : ℕ) → Leaves k roles b exit → Free b c → Free (closed b exit n) c
free_closed k roles {b} exit n c h free =
    let f = free_filled b b.current (record { ops = b.ops; exit = exit }) c (leaves_unsplit k roles b exit h c) free in
    record { above = f.above; below = f.below; unsplit = f.unsplit }

-- a fork: n waits
pub record Forks {words : Sees} (k : Known words) (texts : ℕ) (roles : List Role) (n : ℕ) (a b : Builder) : Type 0 where
  pub keeps : Keeps k texts roles roles 0 0 a b
  pub waits : Spare b n
  pub late : length a.blocks ≤ n
  pub moved : length a.blocks ≤ b.current

-- there may be more texts behind the second part
pub keeps_on : {words : Sees} {k : Known words} {before texts : ℕ} {r0 r1 r2 : List Role} {g1 h1 g2 h2 : ℕ} {a b c : Builder} → Keeps k before r0 r1 g1 h1 a b → Keeps k texts r1 r2 g2 h2 b c → Keeps k texts r0 r2 (g1 + g2) (h1 + h2) a c
keeps_on x y =
    let l1 = x.longer in let l2 = y.longer in let p1 = x.general_values in let p2 = y.general_values in let q1 = x.branch_values in let q2 = y.branch_values in
    record { shaped = y.shaped; kept = λ v role h. y.kept v role (x.kept v role h); free = λ d h. y.free d (x.free d h); spare = λ n h. y.spare n (x.spare n h); longer = omega arith; general_values = omega arith; branch_values = omega arith }

texts_more : {words : Sees} (k : Known words) (roles : List Role) (before texts : ℕ) → before ≤ texts → (op : Op) → OpFits k before roles op → OpFits k texts roles op
texts_more k roles before texts le (Text n) h = omega arith
texts_more k roles before texts le op h = h

pub shaped_texts : {words : Sees} {k : Known words} {roles : List Role} {b : Builder} (before texts : ℕ) → before ≤ texts → Shaped k before roles b → Shaped k texts roles b
shaped_texts {k = k} {roles = roles} before texts le s = let f = s.fits in record {
  ready = s.ready;
  fits = record { banks = f.banks; scalars = f.scalars; handed = f.handed; some = f.some; ops = λ op h. texts_more k roles before texts le op (f.ops op h); exits = f.exits; traps = f.traps; single = f.single; made = f.made; stands = f.stands };
}

-- the operation makes a general value of this role, whichever value it is
pub record Makes (role : Role) (op : ℕ → Op) : Type 0 where
  pub place : (v a : ℕ) → role ≡ PlaceOf a → MakesPlace v a (op v)
  pub stand : (v : ℕ) → role ≡ Stand → MakesStand v (op v)
  pub general : bank_of_role role ≡ General

module _ {words : Sees} {k : Known words} {texts : ℕ} where
  leaves_lead : (roles : List Role) (b : Builder) (exit : Exit) → Leaves k roles b exit → Leads k texts b exit
  leaves_lead roles b exit h = record {
    unsplit = λ c m. (leaves_free k roles b exit h c m).unsplit;
    untouched = λ c m i x e n. leaves_unsplit k roles b exit h c m;
  }

  pub keeps_self : {roles : List Role} {b : Builder} → Shaped k texts roles b → Keeps k texts roles roles 0 0 b b
  keeps_self s = record { shaped = s; kept = λ v role h. h; free = λ c h. h; spare = λ n h. h; longer = omega arith; general_values = omega arith; branch_values = omega arith }

  pub keeps_most : {roles later : List Role} {g h : ℕ} (g2 h2 : ℕ) {a b : Builder} → g ≤ g2 → h ≤ h2 → Keeps k texts roles later g h a b → Keeps k texts roles later g2 h2 a b
  keeps_most g2 h2 lg lh x =
      let p = x.general_values in let q = x.branch_values in
      record { shaped = x.shaped; kept = x.kept; free = x.free; spare = x.spare; longer = x.longer; general_values = omega arith; branch_values = omega arith }

  -- reserved blocks

  pub keeps_reserved : {roles : List Role} {b : Builder} → Shaped k texts roles b → Keeps k texts roles roles 0 0 b (reserved b)
  keeps_reserved {roles} {b} s = let l = length_more b.blocks None in record {
    shaped = record { ready = (grows_reserved b s.ready).ready; fits = fits_reserved k texts roles b s.fits };
    kept = λ v role h. h;
    free = λ c h. let w = h.below in record { above = h.above; below = omega arith; unsplit = λ i x e. h.unsplit i x (get_waiting b.blocks i x e) };
    spare = λ n h. record { free = get_front b.blocks (None ∷ []) n (slice_get_within b.blocks n None h.free) ∙ h.free; apart = h.apart };
    longer = omega arith;
    general_values = omega arith;
    branch_values = omega arith;
  }

  -- no exit leads behind the last block
  untouched : (roles : List Role) (b : Builder) → Fits k texts roles b → (c i : ℕ) (x : Block) → length b.blocks ≤ c → slice_get b.blocks i ≡ Some (Some x) → IsIn c (targets_of x.exit) → ⊥
  untouched roles b f c i x le e m = let t = target_fits k roles (length b.blocks) x.exit c (f.exits i x e) m in let w = t.1 in omega arith

  pub free_reserved : {roles : List Role} {b : Builder} → Shaped k texts roles b → Free (reserved b) (length b.blocks)
  free_reserved {roles} {b} s = let l = length_more b.blocks None in record {
    above = s.fits.some;
    below = omega arith;
    unsplit = λ i x e m. untouched roles b s.fits (length b.blocks) i x (omega arith) (get_waiting b.blocks i x e) (split_is_target x.exit (length b.blocks) m);
  }

  -- blocks that are finished

  pub keeps_closed : {roles later : List Role} {g h : ℕ} {a b : Builder} (exit : Exit) (n : ℕ) → Keeps k texts roles later g h a b → Spare b n → length a.blocks ≤ n → Leaves k later b exit → Keeps k texts roles later g h a (closed b exit n)
  keeps_closed {later} {a} {b} exit n x s late out =
      let l = set_length b.blocks b.current (Some (record { ops = b.ops; exit = exit })) in let w = x.longer in
      record {
        shaped = record { ready = ready_closed b exit n s; fits = fits_closed k texts later b exit n x.shaped.fits x.shaped.ready (leaves_fit k later b exit out) (leaves_untrapped k later b exit out) (leaves_lead later b exit out) };
        kept = x.kept;
        free = λ c f. free_closed k later exit n c out (x.free c f);
        spare = λ m q. spare_closed b exit n m (x.spare m q) (λ e. apart m q e);
        longer = omega arith;
        general_values = x.general_values;
        branch_values = x.branch_values;
      }
    where
      apart : (m : ℕ) → Spare a m → m ≡ n → ⊥
      apart m q e = let w = slice_get_within a.blocks m None q.free in omega arith

  keeps_set : {roles later : List Role} {g h : ℕ} {a b : Builder} (exit : Exit) (n : ℕ) → Keeps k texts roles later g h a b → Spare b n → length a.blocks ≤ n → ExitFits k later (length b.blocks) exit → Leads k texts b exit → ((c : ℕ) → IsIn c (split_targets exit) → ⊥) → Keeps k texts roles later g h a (filled b n (ends exit))
  keeps_set {later} {a} {b} exit n x s late fit leads unsplit =
      let l = set_length b.blocks n (Some (ends exit)) in let w = x.longer in
      record {
        shaped = record {
          ready = record { is = set_other b.blocks n b.current (Some (ends exit)) (λ e. s.apart (sym e)) ∙ x.shaped.ready.is };
          fits = fits_filled k texts later b n (ends exit) x.shaped.fits s.free (λ op m. absurd m) fit (λ trap e. refl) leads;
        };
        kept = x.kept;
        free = λ c f. free_filled b n (ends exit) c (unsplit c) (x.free c f);
        spare = λ m q. spare_filled b n m (ends exit) (x.spare m q) (λ e. apart m q e);
        longer = omega arith;
        general_values = x.general_values;
        branch_values = x.branch_values;
      }
    where
      apart : (m : ℕ) → Spare a m → m ≡ n → ⊥
      apart m q e = let w = slice_get_within a.blocks m None q.free in omega arith

  pub keeps_filled : {roles later : List Role} {g h : ℕ} {a b : Builder} (exit : Exit) (n : ℕ) → Keeps k texts roles later g h a b → Spare b n → length a.blocks ≤ n → Leaves k later b exit → Keeps k texts roles later g h a (filled b n (ends exit))
  keeps_filled {later} {a} {b} exit n x s late out = keeps_set exit n x s late (leaves_fit k later b exit out) (leaves_lead later b exit out) (leaves_unsplit k later b exit out)

  pub keeps_stopped : {roles later : List Role} {g h : ℕ} {a b : Builder} (trap : Trap) (n : ℕ) → Keeps k texts roles later g h a b → Spare b n → length a.blocks ≤ n → Keeps k texts roles later g h a (filled b n (ends (Ends trap)))
  keeps_stopped {later} {a} {b} trap n x s late = keeps_set (Ends trap) n x s late tt (record { unsplit = λ c m. absurd m; untouched = λ c m. absurd m }) (λ c m. m)

  pub keeps_turned : {roles later : List Role} {g h : ℕ} {a b : Builder} (n : ℕ) → Keeps k texts roles later g h a b → Spare b n → length a.blocks ≤ n → Keeps k texts roles later g h a (turned_to b n)
  keeps_turned {later} {a} {b} n x s late = record {
    shaped = record { ready = record { is = s.free }; fits = fits_turned k texts later b n x.shaped.fits };
    kept = x.kept;
    free = λ c f. let w = x.free c f in record { above = w.above; below = w.below; unsplit = w.unsplit };
    spare = λ m q. record { free = (x.spare m q).free; apart = λ e. apart m q e };
    longer = x.longer;
    general_values = x.general_values;
    branch_values = x.branch_values;
  }
    where
      apart : (m : ℕ) → Spare a m → m ≡ n → ⊥
      apart m q e = let w = slice_get_within a.blocks m None q.free in omega arith

  -- operations

  keeps_op : {roles : List Role} {b : Builder} (op : Op) → Shaped k texts roles b → OpFits k texts roles op → Keeps k texts roles roles 0 0 b (with_op b op)
  keeps_op {roles} {b} op s h = record {
    shaped = record { ready = record { is = s.ready.is }; fits = fits_op k texts roles b op s.fits h };
    kept = λ v role w. w;
    free = λ c f. record { above = f.above; below = f.below; unsplit = f.unsplit };
    spare = λ n f. record { free = f.free; apart = f.apart };
    longer = omega arith;
    general_values = omega arith;
    branch_values = omega arith;
  }

  pub keeps_entered : {roles : List Role} {b : Builder} → Shaped k texts roles b → Keeps k texts roles roles 0 0 b (entered b)
  keeps_entered {b} s = keeps_closed (Goto (length b.blocks)) (length b.blocks) (keeps_reserved s) (spare_reserved b s.ready) (omega arith) (free_reserved s)

  pub keeps_added : {roles : List Role} {op : Op} {a b : Builder} → Added op a b → Shaped k texts roles a → OpFits k texts roles op → Keeps k texts roles roles 0 0 a b
  keeps_added {roles} {op} {a} (near e) s h = subst (Keeps k texts roles roles 0 0 a) (sym e) (keeps_op op s h)
  keeps_added {roles} {op} {a} (far e) s h =
      let x = keeps_entered s in
      subst (Keeps k texts roles roles 0 0 a) (sym e) (keeps_on x (keeps_op op x.shaped h))

  -- values

  keeps_value : {roles : List Role} {b : Builder} (role : Role) (g h : ℕ) → Shaped k texts roles b → ((a : ℕ) → role ≡ PlaceOf a → ⊥) → (role ≡ Stand → ⊥) → cond (is_general (bank_of_role role)) 1 0 ≡ g → cond (is_branch (bank_of_role role)) 1 0 ≡ h → Keeps k texts roles (roles ++ role ∷ []) g h b (with_value b (bank_of_role role))
  keeps_value {roles} {b} role g h s other stand eg eh =
      let p = count_more is_general b.banks (bank_of_role role) g eg in let q = count_more is_branch b.banks (bank_of_role role) h eh in
      record {
        shaped = record { ready = record { is = s.ready.is }; fits = fits_value k texts roles b role s.fits other stand };
        kept = role_front k texts roles role;
        free = λ c f. record { above = f.above; below = f.below; unsplit = f.unsplit };
        spare = λ n f. record { free = f.free; apart = f.apart };
        longer = omega arith;
        general_values = omega arith;
        branch_values = omega arith;
      }

  pub taken_scalar : {roles : List Role} {t : ℕ} {a b : Builder} → (t ≡ length a.banks) × (b ≡ with_value a General) → Shaped k texts roles a → Takes k texts roles Scalar t 1 0 a b
  taken_scalar {roles} {t} {a} {b} e s = record {
    later = roles ++ Scalar ∷ [];
    keeps = subst (Keeps k texts roles (roles ++ Scalar ∷ []) 1 0 a) (sym e.1) (keeps_value Scalar 1 0 s (λ x d. cc) (λ d. cc) refl refl);
    has = subst (λ z. HasRole (roles ++ Scalar ∷ []) z Scalar) (sym e.0) (role_last k texts roles Scalar a s.fits);
  }

  pub taken_test : {roles : List Role} {t : ℕ} {a b : Builder} → (t ≡ length a.banks) × (b ≡ with_value a Branch) → Shaped k texts roles a → Takes k texts roles Test t 0 1 a b
  taken_test {roles} {t} {a} {b} e s = record {
    later = roles ++ Test ∷ [];
    keeps = subst (Keeps k texts roles (roles ++ Test ∷ []) 0 1 a) (sym e.1) (keeps_value Test 0 1 s (λ x d. cc) (λ d. cc) refl refl);
    has = subst (λ z. HasRole (roles ++ Test ∷ []) z Test) (sym e.0) (role_last k texts roles Test a s.fits);
  }

  pub aimed : {roles : List Role} (dest : Option ℕ) (t : ℕ) (a b : Builder) → Aimed dest t a b → Shaped k texts roles a → DestFits roles dest → Takes k texts roles Scalar t 1 0 a b
  aimed None t a b e s d = taken_scalar e s
  aimed {roles} (Some w) t a b e s d = record {
    later = roles;
    keeps = subst (Keeps k texts roles roles 1 0 a) (sym e.1) (keeps_most 1 0 (omega arith) (omega arith) (keeps_self s));
    has = subst (λ z. HasRole roles z Scalar) (sym e.0) d;
  }

  -- a last operation
  pub last : {roles : List Role} {op : Op} {dest : Option ℕ} {t : ℕ} {a b : Builder} → Last op dest t a b → Shaped k texts roles a → DestFits roles dest → ((later : List Role) → Kept roles later → HasRole later t Scalar → OpFits k texts later op) → Takes k texts roles Scalar t 1 0 a b
  last {roles} {op} {dest} {t} {a} {b} x s d fits =
      let w = aimed dest t a x.middle x.aimed s d in
      let p = keeps_added x.added w.keeps.shaped (fits w.later w.keeps.kept w.has) in
      record { later = w.later; keeps = keeps_on w.keeps p; has = w.has }

  -- a value that is made a place or a base at once

  keeps_made : {roles : List Role} {b : Builder} (role : Role) (op : ℕ → Op) → Makes role op → Shaped k texts roles b → OpFits k texts (roles ++ role ∷ []) (op (length b.banks)) → Keeps k texts roles (roles ++ role ∷ []) 1 0 b (with_op (with_value b General) (op (length b.banks)))
  keeps_made {roles} {b} role op makes s fit =
      let p = count_more is_general b.banks General 1 refl in let q = count_more is_branch b.banks General 0 refl in
      record {
        shaped = record { ready = record { is = s.ready.is }; fits = subst (λ bank. Fits k texts (roles ++ role ∷ []) (with_op (with_value b bank) (op (length b.banks)))) makes.general (fits_made k texts roles b role (op (length b.banks)) s.fits fit (makes.place (length b.banks)) (makes.stand (length b.banks))) };
        kept = role_front k texts roles role;
        free = λ c f. record { above = f.above; below = f.below; unsplit = f.unsplit };
        spare = λ n f. record { free = f.free; apart = f.apart };
        longer = omega arith;
        general_values = omega arith;
        branch_values = omega arith;
      }

  pub taken_made : {roles : List Role} {t : ℕ} {b0 b1 b2 : Builder} (role : Role) (op : ℕ → Op) → Makes role op → (t ≡ length b0.banks) × (b1 ≡ with_value b0 General) → Added (op t) b1 b2 → Shaped k texts roles b0 → ((later : List Role) → Kept roles later → HasRole later (length b0.banks) role → OpFits k texts later (op (length b0.banks))) → Takes k texts roles role t 1 0 b0 b2
  taken_made {roles} {t} {b0} {b1} {b2} role op makes e (near w) s fit = record {
    later = roles ++ role ∷ [];
    keeps = subst (Keeps k texts roles (roles ++ role ∷ []) 1 0 b0) (sym (w ∙ ap (λ z. with_op z (op t)) e.1 ∙ ap (λ z. with_op (with_value b0 General) (op z)) e.0)) (keeps_made role op makes s (fit (roles ++ role ∷ []) (role_front k texts roles role) (role_last k texts roles role b0 s.fits)));
    has = subst (λ z. HasRole (roles ++ role ∷ []) z role) (sym e.0) (role_last k texts roles role b0 s.fits);
  }
  taken_made {roles} {t} {b0} {b1} {b2} role op makes e (far w) s fit =
      let x = keeps_entered s in
      let is : b2 ≡ with_op (with_value (entered b0) General) (op (length b0.banks)) = w ∙ ap (λ z. with_op (entered z) (op t)) e.1 ∙ ap (λ z. with_op (with_value (entered b0) General) (op z)) e.0 in
      record {
        later = roles ++ role ∷ [];
        keeps = subst (Keeps k texts roles (roles ++ role ∷ []) 1 0 b0) (sym is) (keeps_on x (keeps_made role op makes x.shaped (fit (roles ++ role ∷ []) (role_front k texts roles role) (role_last k texts roles role b0 s.fits))));
        has = subst (λ z. HasRole (roles ++ role ∷ []) z role) (sym e.0) (role_last k texts roles role b0 s.fits);
      }

  -- tests

  split_leads : (roles : List Role) (m : Builder) (test : ℕ) → Fits k texts roles m → Leads k texts (reserved (reserved m)) (Split test (length m.blocks) (length (reserved m).blocks))
  split_leads roles m test f = let l = length_more m.blocks None in record {
    unsplit = λ c w i x e n. untouched roles m f c i x (least c w) (get_waiting m.blocks i x (get_waiting (reserved m).blocks i x e)) (split_is_target x.exit c n);
    untouched = λ c w i x e n. untouched roles m f c i x (least c w) (get_waiting m.blocks i x (get_waiting (reserved m).blocks i x e)) n;
  }
    where
      least : (c : ℕ) → IsIn c (length m.blocks ∷ length (reserved m).blocks ∷ []) → length m.blocks ≤ c
      least c (inl e) = omega arith
      least c (inr (inl e)) = let l = length_more m.blocks None in omega arith
      least c (inr (inr z)) = absurd z

  forks : (roles : List Role) (m : Builder) (test : ℕ) → Shaped k texts roles m → HasRole roles test Test → Forks k texts roles (length (reserved m).blocks) m (closed (reserved (reserved m)) (Split test (length m.blocks) (length (reserved m).blocks)) (length m.blocks))
  forks roles m test s h =
      let y = length m.blocks in
      let n = length (reserved m).blocks in
      let l1 = length_more m.blocks None in
      let l2 = length_more (reserved m).blocks None in
      let x1 = keeps_reserved s in
      let x2 = keeps_reserved x1.shaped in
      let exit : Exit = Split test y n in
      let z : Block = record { ops = m.ops; exit = exit } in
      let lz = set_length (reserved (reserved m)).blocks m.current (Some z) in
      let w = current_within m s.ready in
      let some = s.fits.some in
      let spare_y : Spare (reserved (reserved m)) y = x2.spare y (spare_reserved m s.ready) in
      let spare_n : Spare (reserved (reserved m)) n = spare_reserved (reserved m) x1.shaped.ready in
      let differ : y ≡ n → ⊥ = λ e. omega arith in
      let fit : ExitFits k roles (length (reserved (reserved m)).blocks) exit = (h, (some, omega arith), (omega arith, omega arith), differ) in
      record {
        keeps = record {
          shaped = record { ready = ready_closed (reserved (reserved m)) exit y spare_y; fits = fits_closed k texts roles (reserved (reserved m)) exit y x2.shaped.fits x2.shaped.ready fit (λ trap e. cc) (split_leads roles m test s.fits) };
          kept = λ v role q. q;
          free = λ c f. let q = free_filled (reserved (reserved m)) m.current z c (λ i. early c f.below i) (x2.free c (x1.free c f)) in record { above = q.above; below = q.below; unsplit = q.unsplit };
          spare = λ i q. spare_closed (reserved (reserved m)) exit y i (x2.spare i (x1.spare i q)) (λ e. behind i q e);
          longer = omega arith;
          general_values = omega arith;
          branch_values = omega arith;
        };
        waits = spare_closed (reserved (reserved m)) exit y n spare_n (λ e. differ (sym e));
        late = omega arith;
        moved = omega arith;
      }
    where
      early : (c : ℕ) → c < length m.blocks → IsIn c (length m.blocks ∷ length (reserved m).blocks ∷ []) → ⊥
      early c below (inl e) = omega arith
      early c below (inr (inl e)) = let l = length_more m.blocks None in omega arith
      early c below (inr (inr z)) = z

      behind : (i : ℕ) → Spare m i → i ≡ length m.blocks → ⊥
      behind i q e = let w = slice_get_within m.blocks i None q.free in omega arith

  pub forked : {roles : List Role} {op : Op} {test n : ℕ} {a b : Builder} → Forked op test n a b → Shaped k texts roles a → OpFits k texts roles op → HasRole roles test Test → Forks k texts roles n a b
  forked {roles} {op} {test} {n} {a} {b} x s fit h =
      let p = keeps_added x.added s fit in
      let f = forks roles x.middle test p.shaped h in
      let g : Forks k texts roles n x.middle b = subst (λ z. Forks k texts roles n x.middle z) (sym x.is) (subst (λ z. Forks k texts roles z x.middle (closed (reserved (reserved x.middle)) (Split test (length x.middle.blocks) z) (length x.middle.blocks))) (sym x.other) f) in
      let l1 = p.longer in let l2 = g.late in let l3 = g.moved in
      record { keeps = keeps_on p g.keeps; waits = g.waits; late = omega arith; moved = omega arith }

  pub trapped : {roles : List Role} {op : Op} {test : ℕ} {trap : Trap} {a b : Builder} → Trapped op test trap a b → Shaped k texts roles a → OpFits k texts roles op → HasRole roles test Test → Keeps k texts roles roles 0 0 a b
  trapped {roles} {op} {test} {trap} {a} {b} x s fit h =
      let f = forked x.forked s fit h in
      subst (Keeps k texts roles roles 0 0 a) (sym x.is) (keeps_stopped trap x.n f.keeps f.waits f.late)
