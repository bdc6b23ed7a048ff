-- All operations: the plain trace and the clustered one beside each other.
use Rattle.std.proofs.Common.{◌≡◌, ⊎_elim, refl, sym, ◌∙◌, ap, subst, arith, Bool, true, false, if◌then◌else◌, ℕ, zero, suc, ◌+◌, Option, Some, List, [], ◌∷◌, ◌++◌, length, map, take, drop, slice_get}
use Rattle.std.proofs.lemmas.List.{append_assoc, map-append}
use Rattle.vx_flow.specs.declared.graph.Edge.{Edge}
use Rattle.vx_flow.specs.declared.trace.TraceOp.{TraceOp}
use Rattle.vx_flow.specs.declared.trace.Trace.{Trace}
use Rattle.vx_flow.specs.Effects.{State, Setting, IsIn}
use Rattle.vx_linear.specs.Followed.{is_join}
use Rattle.vx_linear.specs.InOrder.{in_order, state_before}
use Rattle.vx_bug.specs.declared.served.Served.{Served}
use Rattle.vx_bug.specs.Clusters.{general_reads}
use Rattle.vx_bug.specs.Copies.{Standing, across, here, renamed_op, reads_copies, copied_for, with_its_copies, served_behind, pieces_from, pieces_of, joined}
use Rattle.vx_bug.specs.Laying.{standing, served_at, served_with}
use Rattle.vx_region.specs.Beside.{SameReadsOf, Wanted, Tied, serving_from, copied_from, CopiesFit, AlikeAt, RunBeside, CopiesLawFor, CopiesLaw}
use Rattle.vx_region.proofs.Lists.{run_through, behind, get_behind}
use Rattle.vx_region.proofs.CopySteps.{Below, fewer, copying, copied_here, op_here, Stepped, stepped}

abbrev pub op_of : Standing → TraceOp
op_of s = s.op

-- a piece

piece_by : (values : ℕ) (homes : ℕ → Option ℕ) (now : List Served) (op : TraceOp) (k : ℕ) (f : Option ℕ) (b : Bool) →
    (if b then map (across values k) (copied_for homes k now (general_reads op)) ++ standing (renamed_op (here values homes k) op) k f ∷ [] else standing op k f ∷ [])
    ≡ map (across values k) (if b then copied_for homes k now (general_reads op) else []) ++ standing (if b then renamed_op (here values homes k) op else op) k f ∷ []
piece_by values homes now op k f true = refl
piece_by values homes now op k f false = refl

pub piece_is : (values : ℕ) (homes : ℕ → Option ℕ) (now : List Served) (op : TraceOp) (k : ℕ) (f : Option ℕ) →
    with_its_copies values homes now op k f ≡ map (across values k) (copied_here homes now op k f) ++ standing (op_here values homes op k f) k f ∷ []
piece_is values homes now op k f = piece_by values homes now op k f (reads_copies f op)

pub ops_are : (values : ℕ) (homes : ℕ → Option ℕ) (now : List Served) (op : TraceOp) (k : ℕ) (f : Option ℕ) (rest : List Standing) →
    map op_of (with_its_copies values homes now op k f ++ rest) ≡ copying values k (copied_here homes now op k f) ++ op_here values homes op k f ∷ map op_of rest
ops_are values homes now op k f rest =
    let xs : List Standing = map (across values k) (copied_here homes now op k f) in
    let y : Standing = standing (op_here values homes op k f) k f in
    ap (λ p. map op_of (p ++ rest)) (piece_is values homes now op k f) ∙ map-append op_of (xs ++ y ∷ []) rest
    ∙ ap (λ z. z ++ map op_of rest) (map-append op_of xs (y ∷ [])) ∙ append_assoc (map op_of xs) (y.op ∷ []) (map op_of rest)

length_end : (xs ys : List Standing) (y : Standing) → length ((xs ++ y ∷ []) ++ ys) ≡ suc (length (map op_of xs) + length ys)
length_end [] ys y = let e : suc (length ys) ≡ suc (0 + length ys) = omega arith in e
length_end (x ∷ xs) ys y =
    let e : length ((xs ++ y ∷ []) ++ ys) ≡ suc (length (map op_of xs) + length ys) = length_end xs ys y in
    let g : suc (length ((xs ++ y ∷ []) ++ ys)) ≡ suc (suc (length (map op_of xs)) + length ys) = omega (arith, e) in g

pub length_with : (values : ℕ) (homes : ℕ → Option ℕ) (now : List Served) (op : TraceOp) (k : ℕ) (f : Option ℕ) (ys : List Standing) →
    length (with_its_copies values homes now op k f ++ ys) ≡ suc (length (copying values k (copied_here homes now op k f)) + length ys)
length_with values homes now op k f ys = ap (λ p. length (p ++ ys)) (piece_is values homes now op k f) ∙ length_end (map (across values k) (copied_here homes now op k f)) ys (standing (op_here values homes op k f) k f)

pub length_two : {A : Type 0} (xs ys : List A) → length (xs ++ ys) ≡ length xs + length ys
length_two [] ys = let e : length ys ≡ 0 + length ys = omega arith in e
length_two (x ∷ xs) ys = let e : length (xs ++ ys) ≡ length xs + length ys = length_two xs ys in let g : suc (length (xs ++ ys)) ≡ suc (length xs) + length ys = omega (arith, e) in g

-- what is asked of the rest

pub fits_tail : {values : ℕ} {op : TraceOp} {ops : List TraceOp} {k : ℕ} {chosen : List ℕ} {f : Option ℕ} {fixed : List (Option ℕ)} {c : List ℕ} {copied : List (List ℕ)} {lives : Edge → List ℕ → ℕ → Type 0} {end : ℕ → Type 0} →
    CopiesFit values (op ∷ ops) (k ∷ chosen) (f ∷ fixed) (c ∷ copied) lives end → CopiesFit values ops chosen fixed copied lives end
fits_tail {values} {op} {ops} {k} {chosen} {f} {fixed} {c} {copied} {lives} {end} F = record {
  each_fixed = let e : suc (length fixed) ≡ suc (length ops) = F.each_fixed in omega (arith, e);
  each_chosen = let e : suc (length chosen) ≡ suc (length ops) = F.each_chosen in omega (arith, e);
  reads = λ i vs v g m. F.reads (suc i) vs v g m;
  writes = λ i o u g m. F.writes (suc i) o u g m;
  free = λ i l vs v g h m. F.free (suc i) l vs v g h m;
}

-- the first operation, and the rest

module _ (t : Trace) (homes : ℕ → Option ℕ) (lives : Edge → List ℕ → ℕ → Type 0) (end : ℕ → Type 0) (setting : Setting) where
  abbrev Beside : (s s' : State) → (ops : List TraceOp) → List (List Standing) → List (List Served) → List TraceOp → Type 0
  Beside s s' ops pieces servings ops' = RunBeside t.values ops pieces servings lives end setting s s' ops'

  module _ (now : List Served) (op : TraceOp) (ops : List TraceOp) (k : ℕ) (f : Option ℕ) (s s' : State) (st : Stepped t.values homes now lives end setting s s' op ops k f)
      (pieces : List (List Standing)) (servings : List (List Served)) where
    abbrev cs : List TraceOp
    cs = copying t.values k (copied_here homes now op k f)

    abbrev there : TraceOp
    there = op_here t.values homes op k f

    abbrev s1 : State
    s1 = run_through setting s' cs

    abbrev rest : List TraceOp
    rest = map op_of (joined pieces)

    first : AlikeAt t.values (op ∷ ops) (with_its_copies t.values homes now op k f ∷ pieces) (served_with homes now op k f ∷ servings) lives end setting s s' (cs ++ there ∷ rest) 0 op
    first =
        let e : s1 ≡ state_before setting (cs ++ there ∷ rest) s' (length cs + 0) = sym (behind setting s' cs (there ∷ rest) 0) in
        record {
          place = length cs + 0;
          is_last = length_with t.values homes now op k f [];
          op_there = there;
          stands = get_behind cs (there ∷ rest) 0;
          reads = subst (λ x. SameReadsOf s x op there) e st.reads;
          serving = served_with homes now op k f;
          serves = refl;
          tied = subst (λ x. Tied t.values (served_with homes now op k f) (Wanted lives end (op ∷ ops)) s x) e st.tied;
        }

    later : (j : ℕ) (o : TraceOp) → AlikeAt t.values ops pieces servings lives end setting (in_order setting s op) (in_order setting s1 there) rest j o →
        AlikeAt t.values (op ∷ ops) (with_its_copies t.values homes now op k f ∷ pieces) (served_with homes now op k f ∷ servings) lives end setting s s' (cs ++ there ∷ rest) (suc j) o
    later j o r =
        let e : state_before setting rest (in_order setting s1 there) r.place ≡ state_before setting (cs ++ there ∷ rest) s' (length cs + suc r.place) = sym (behind setting s' cs (there ∷ rest) (suc r.place)) in
        record {
          place = length cs + suc r.place;
          is_last = length_with t.values homes now op k f (joined (take (suc j) pieces)) ∙ ap (λ n. suc (length cs + n)) r.is_last;
          op_there = r.op_there;
          stands = get_behind cs (there ∷ rest) (suc r.place) ∙ r.stands;
          reads = subst (λ x. SameReadsOf (state_before setting ops (in_order setting s op) j) x o r.op_there) e r.reads;
          serving = r.serving;
          serves = r.serves;
          tied = subst (λ x. Tied t.values r.serving (Wanted lives end (drop j ops)) (state_before setting ops (in_order setting s op) j) x) e r.tied;
        }

    whole : Beside (in_order setting s op) (in_order setting s1 there) ops pieces servings rest →
        Beside s s' (op ∷ ops) (with_its_copies t.values homes now op k f ∷ pieces) (served_with homes now op k f ∷ servings) (cs ++ there ∷ rest)
    whole r = record {
      at_each = λ j o e. by j o e;
      at_end =
          let e : state_before setting rest (in_order setting s1 there) (length rest) ≡ state_before setting (cs ++ there ∷ rest) s' (length (cs ++ there ∷ rest)) =
          sym (ap (λ n. state_before setting (cs ++ there ∷ rest) s' n) (length_two cs (there ∷ rest)) ∙ behind setting s' cs (there ∷ rest) (suc (length rest))) in
          subst (λ x. Tied t.values [] end (state_before setting ops (in_order setting s op) (length ops)) x) e r.at_end;
    }
      where
        by : (j : ℕ) (o : TraceOp) → slice_get (op ∷ ops) j ≡ Some o → AlikeAt t.values (op ∷ ops) (with_its_copies t.values homes now op k f ∷ pieces) (served_with homes now op k f ∷ servings) lives end setting s s' (cs ++ there ∷ rest) j o
        by zero o e = let q : op ≡ o = cc in subst (λ x. AlikeAt t.values (op ∷ ops) (with_its_copies t.values homes now op k f ∷ pieces) (served_with homes now op k f ∷ servings) lives end setting s s' (cs ++ there ∷ rest) 0 x) q first
        by (suc j) o e = later j o (r.at_each j o e)

  nothing : (served : List Served) (s s' : State) → Tied t.values served end s s' → Beside s s' [] [] [] []
  nothing served s s' T = record { at_each = λ k op e. absurd cc; at_end = fewer served [] (λ x m. absurd m) T }

  at_join : (b : Bool) (served : List Served) → Below t.values served → Below t.values (if b then [] else served)
  at_join true served h = λ e m. absurd m
  at_join false served h = h

  tied_at_join : (b : Bool) (served : List Served) (wants : ℕ → Type 0) (s s' : State) → Tied t.values served wants s s' → Tied t.values (if b then [] else served) wants s s'
  tied_at_join true served wants s s' T = fewer served [] (λ x m. absurd m) T
  tied_at_join false served wants s s' T = T

  pub beside : (i : ℕ) (served : List Served) (ops : List TraceOp) (chosen : List ℕ) (fixed : List (Option ℕ)) (s s' : State) → CopiesFit t.values ops chosen fixed (copied_from t homes i served ops chosen fixed) lives end →
      Below t.values (served_at t i served) → Tied t.values (served_at t i served) (Wanted lives end ops) s s' →
      Beside s s' ops (pieces_from t homes i served ops chosen fixed) (serving_from t homes i served ops chosen fixed) (map op_of (joined (pieces_from t homes i served ops chosen fixed)))
  beside i served [] chosen fixed s s' F below T = nothing (served_at t i served) s s' T
  beside i served (op ∷ ops) [] fixed s s' F below T = let h : 0 ≡ suc (length ops) = F.each_chosen in absurd (omega (arith, h))
  beside i served (op ∷ ops) (k ∷ chosen) [] s s' F below T = let h : 0 ≡ suc (length ops) = F.each_fixed in absurd (omega (arith, h))
  beside i served (op ∷ ops) (k ∷ chosen) (f ∷ fixed) s s' F below T =
      let now : List Served = served_at t i served in
      let next : List Served = served_behind homes now op k f in
      let st : Stepped t.values homes now lives end setting s s' op ops k f =
      stepped t.values homes now lives end setting s s' op ops k f below (λ v m. F.reads 0 (copied_here homes now op k f) v refl m) (λ u m. F.writes 0 op u refl m) (λ v m. F.free 0 k (copied_here homes now op k f) v refl refl m) T in
      let s1 : State = run_through setting s' (copying t.values k (copied_here homes now op k f)) in
      let pieces : List (List Standing) = pieces_from t homes (i + 1) next ops chosen fixed in
      let servings : List (List Served) = serving_from t homes (i + 1) next ops chosen fixed in
      let r : Beside (in_order setting s op) (in_order setting s1 (op_here t.values homes op k f)) ops pieces servings (map op_of (joined pieces)) =
      beside (i + 1) next ops chosen fixed (in_order setting s op) (in_order setting s1 (op_here t.values homes op k f)) (fits_tail F)
      (at_join (is_join t (i + 1)) next st.below) (tied_at_join (is_join t (i + 1)) next (Wanted lives end ops) (in_order setting s op) (in_order setting s1 (op_here t.values homes op k f)) st.behind) in
      subst (λ x. Beside s s' (op ∷ ops) (with_its_copies t.values homes now op k f ∷ pieces) (served_with homes now op k f ∷ servings) x) (sym (ops_are t.values homes now op k f (joined pieces)))
      (whole now op ops k f s s' st pieces servings r)

  -- from an entrance on

  none_at_join : (b : Bool) (served : List Served) → b ≡ true → (if b then [] else served) ≡ []
  none_at_join true served e = refl
  none_at_join false served e = let h : false ≡ true = e in absurd cc

  pub from_join : (q i : ℕ) (served : List Served) (ops : List TraceOp) (chosen : List ℕ) (fixed : List (Option ℕ)) (s s' : State) → CopiesFit t.values ops chosen fixed (copied_from t homes i served ops chosen fixed) lives end →
      is_join t (i + q) ≡ true → Tied t.values [] (Wanted lives end (drop q ops)) s s' →
      Beside s s' (drop q ops) (drop q (pieces_from t homes i served ops chosen fixed)) (drop q (serving_from t homes i served ops chosen fixed)) (map op_of (joined (drop q (pieces_from t homes i served ops chosen fixed))))
  from_join zero i served ops chosen fixed s s' F j T =
      let e : i + 0 ≡ i = omega arith in
      let none : served_at t i served ≡ [] = none_at_join (is_join t i) served (sym (ap (is_join t) e) ∙ j) in
      beside i served ops chosen fixed s s' F (subst (λ x. Below t.values x) (sym none) (λ x m. absurd m)) (subst (λ x. Tied t.values x (Wanted lives end ops) s s') (sym none) T)
  from_join (suc q) i served [] chosen fixed s s' F j T = nothing [] s s' T
  from_join (suc q) i served (op ∷ ops) [] fixed s s' F j T = let h : 0 ≡ suc (length ops) = F.each_chosen in absurd (omega (arith, h))
  from_join (suc q) i served (op ∷ ops) (k ∷ chosen) [] s s' F j T = let h : 0 ≡ suc (length ops) = F.each_fixed in absurd (omega (arith, h))
  from_join (suc q) i served (op ∷ ops) (k ∷ chosen) (f ∷ fixed) s s' F j T =
      let e : i + suc q ≡ (i + 1) + q = omega arith in
      from_join q (i + 1) (served_behind homes (served_at t i served) op k f) ops chosen fixed s s' (fits_tail F) (sym (ap (is_join t) e) ∙ j) T

drop_piece : (piece js rs : List Standing) → drop (length (piece ++ js)) (map op_of (piece ++ rs)) ≡ drop (length js) (map op_of rs)
drop_piece [] js rs = refl
drop_piece (x ∷ xs) js rs = drop_piece xs js rs

pub moved_entrance : (q : ℕ) (pieces : List (List Standing)) → drop (length (joined (take q pieces))) (map op_of (joined pieces)) ≡ map op_of (joined (drop q pieces))
moved_entrance zero pieces = refl
moved_entrance (suc q) [] = refl
moved_entrance (suc q) (piece ∷ pieces) = drop_piece piece (joined (take q pieces)) (joined pieces) ∙ moved_entrance q pieces

pub copies_law_for : (lives : Edge → List ℕ → ℕ → Type 0) (end : ℕ → Type 0) → CopiesLawFor lives end
copies_law_for lives end t homes chosen setting q s s' F E T =
    subst (λ x. RunBeside t.values (drop q t.ops) (drop q (pieces_of t homes chosen)) (drop q (serving_from t homes 0 [] t.ops chosen t.fixed)) lives end setting s s' x) (sym (moved_entrance q (pieces_of t homes chosen))) (⊎_elim at_start at_a_join E)
  where
    Goal : ℕ → Type 0
    Goal q = RunBeside t.values (drop q t.ops) (drop q (pieces_of t homes chosen)) (drop q (serving_from t homes 0 [] t.ops chosen t.fixed)) lives end setting s s' (map op_of (joined (drop q (pieces_of t homes chosen))))

    at_start : q ≡ 0 → Goal q
    at_start e =
        let T0 : Tied t.values [] (Wanted lives end (drop 0 t.ops)) s s' = subst (λ n. Tied t.values [] (Wanted lives end (drop n t.ops)) s s') e T in
        subst Goal (sym e) (beside t homes lives end setting 0 [] t.ops chosen t.fixed s s' F (at_join t homes lives end setting (is_join t 0) [] (λ x m. absurd m)) (tied_at_join t homes lives end setting (is_join t 0) [] (Wanted lives end t.ops) s s' T0))

    at_a_join : is_join t q ≡ true → Goal q
    at_a_join j = let e : 0 + q ≡ q = omega arith in from_join t homes lives end setting q 0 [] t.ops chosen t.fixed s s' F (ap (is_join t) e ∙ j) T

pub copies_law : CopiesLaw
copies_law end = copies_law_for (λ edge live v. IsIn v live) (λ v. IsIn v end)
