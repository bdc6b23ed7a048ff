-- Which copies an operation needs, and what stands for it.
use Rattle.std.proofs.Common.{◌≡◌, ◌&&◌, ◌||◌, ◌==◌, not, refl, sym, ◌∙◌, ap, subst, Bool, true, false, nat_eq, if◌then◌else◌, ℕ, Option, Some, None, List, [], ◌∷◌, ◌++◌, map}
use Rattle.std.specs.List.{list_any, filter}
use Rattle.std.proofs.Math.Path.{fun_ext}
use Rattle.std.proofs.lemmas.Bool.{eqb-true, eq-eqb}
use Rattle.std.proofs.lemmas.List.{append_assoc, map-append}
use Rattle.vx_flow.specs.declared.trace.TraceOp.{TraceOp}
use Rattle.vx_dep.specs.Delays.{writes_of}
use Rattle.vx_bug.specs.declared.cluster_copies.Standings.{Standings}
use Rattle.vx_bug.specs.declared.served.Served.{Served}
use Rattle.vx_bug.specs.Clusters.{some_of, general_reads}
use Rattle.vx_bug.specs.Copies.{is_away, reads_copies, is_served, serve, copied_for, renamed_op, here, Standing, across, with_its_copies, served_behind}
use Rattle.vx_bug.specs.Laying.{standing, Adds, served_with}

abbrev needs : (homes : ℕ → Option ℕ) → (cluster : ℕ) → List Served → (v : ℕ) → Bool
needs homes cluster served v = is_away (homes v) cluster && not (is_served served v cluster)

pub one_needed : (homes : ℕ → Option ℕ) (cluster v : ℕ) (served : List Served) → is_away (homes v) cluster ≡ true → is_served served v cluster ≡ false → some_of (Some v) ≡ copied_for homes cluster served (some_of (Some v))
one_needed homes cluster v served a s =
    let e : needs homes cluster served v ≡ true = ap (λ b. b && not (is_served served v cluster)) a ∙ ap not s in
    sym (ap (λ b. if b then v ∷ [] else []) e)

and_not_true : (a b : Bool) → b ≡ true → (a && not b) ≡ false
and_not_true true b e = ap not e
and_not_true false b e = refl

not_needed : (homes : ℕ → Option ℕ) (cluster v : ℕ) (served : List Served) → needs homes cluster served v ≡ false → some_of None ≡ copied_for homes cluster served (some_of (Some v))
not_needed homes cluster v served e = sym (ap (λ b. if b then v ∷ [] else []) e)

pub not_away : (homes : ℕ → Option ℕ) (cluster v : ℕ) (served : List Served) → is_away (homes v) cluster ≡ false → some_of None ≡ copied_for homes cluster served (some_of (Some v))
not_away homes cluster v served a = not_needed homes cluster v served (ap (λ b. b && not (is_served served v cluster)) a)

pub is_there : (homes : ℕ → Option ℕ) (cluster v : ℕ) (served : List Served) → is_served served v cluster ≡ true → some_of None ≡ copied_for homes cluster served (some_of (Some v))
is_there homes cluster v served s = not_needed homes cluster v served (and_not_true (is_away (homes v) cluster) (is_served served v cluster) s)

-- behind an operand of which a copy may be made

same_is : (n : ℕ) → (n == n) ≡ true
same_is n = eq-eqb n n refl

swap_eq : (a b : ℕ) (x : Bool) → nat_eq a b ≡ x → (b == a) ≡ x
swap_eq a b true e = eq-eqb b a (sym (eqb-true a b e))
swap_eq a b false e = by (b == a) refl
  where
    by : (y : Bool) → (b == a) ≡ y → (b == a) ≡ false
    by true f = let g : nat_eq a b ≡ true = eq-eqb a b (sym (eqb-true b a f)) in absurd cc
    by false f = f

or_false : (a : Bool) → (a || false) ≡ a
or_false true = refl
or_false false = refl

served_first : (cluster first v : ℕ) (served : List Served) (x : Bool) → list_any (nat_eq v) (some_of (Some first)) ≡ x → is_served (serve cluster (some_of (Some first)) ++ served) v cluster ≡ (x || is_served served v cluster)
served_first cluster first v served x e =
    let q : nat_eq v first ≡ x = sym (or_false (nat_eq v first)) ∙ e in
    ap (λ b. (b && (cluster == cluster)) || is_served served v cluster) (swap_eq v first x q)
    ∙ ap (λ b. (x && b) || is_served served v cluster) (same_is cluster)
    ∙ ap (λ b. b || is_served served v cluster) (and_true x)
  where
    and_true : (b : Bool) → (b && true) ≡ b
    and_true true = refl
    and_true false = refl

pub needed_before : (homes : ℕ → Option ℕ) (cluster v : ℕ) (first : Option ℕ) (served : List Served) → list_any (nat_eq v) (some_of first) ≡ true → some_of None ≡ copied_for homes cluster (serve cluster (some_of first) ++ served) (some_of (Some v))
needed_before homes cluster v None served e = absurd cc
needed_before homes cluster v (Some first) served e = is_there homes cluster v (serve cluster (some_of (Some first)) ++ served) (served_first cluster first v served true e)

needs_same : (homes : ℕ → Option ℕ) (cluster v : ℕ) (one two : List Served) → is_served one v cluster ≡ is_served two v cluster → copied_for homes cluster one (some_of (Some v)) ≡ copied_for homes cluster two (some_of (Some v))
needs_same homes cluster v one two e = ap (λ b. if is_away (homes v) cluster && not b then v ∷ [] else []) e

pub needed_behind : (homes : ℕ → Option ℕ) (cluster v : ℕ) (first result : Option ℕ) (served : List Served) → list_any (nat_eq v) (some_of first) ≡ false → some_of result ≡ copied_for homes cluster served (some_of (Some v)) →
    some_of result ≡ copied_for homes cluster (serve cluster (some_of first) ++ served) (some_of (Some v))
needed_behind homes cluster v None result served e r = r
needed_behind homes cluster v (Some first) result served e r = r ∙ needs_same homes cluster v served (serve cluster (some_of (Some first)) ++ served) (sym (served_first cluster first v served false e))

-- both operands

abbrev copied_whole : (homes : ℕ → Option ℕ) (cluster : ℕ) (served : List Served) (v : ℕ) (ys : List ℕ) → Bool → List ℕ
copied_whole homes cluster served v ys b = if b then v ∷ copied_for homes cluster (record { value = v; cluster = cluster } ∷ served) ys else copied_for homes cluster served ys

abbrev copied_parts : (homes : ℕ → Option ℕ) (cluster : ℕ) (served : List Served) (v : ℕ) (ys : List ℕ) → Bool → List ℕ
copied_parts homes cluster served v ys b = (if b then v ∷ [] else []) ++ copied_for homes cluster (serve cluster (if b then v ∷ [] else []) ++ served) ys

by_test : (homes : ℕ → Option ℕ) (cluster : ℕ) (served : List Served) (v : ℕ) (ys : List ℕ) (b : Bool) → needs homes cluster served v ≡ b →
    copied_whole homes cluster served v ys (needs homes cluster served v) ≡ copied_parts homes cluster served v ys (needs homes cluster served v)
by_test homes cluster served v ys true e = ap (copied_whole homes cluster served v ys) e ∙ sym (ap (copied_parts homes cluster served v ys) e)
by_test homes cluster served v ys false e = ap (copied_whole homes cluster served v ys) e ∙ sym (ap (copied_parts homes cluster served v ys) e)

copied_two : (homes : ℕ → Option ℕ) (cluster : ℕ) (served : List Served) (left : Option ℕ) (ys : List ℕ) → copied_for homes cluster served (some_of left ++ ys)
    ≡ copied_for homes cluster served (some_of left) ++ copied_for homes cluster (serve cluster (copied_for homes cluster served (some_of left)) ++ served) ys
copied_two homes cluster served None ys = refl
copied_two homes cluster served (Some v) ys = by_test homes cluster served v ys (needs homes cluster served v) refl

pub both_needed : (homes : ℕ → Option ℕ) (cluster : ℕ) (served : List Served) (op : TraceOp) (left right first second : Option ℕ) → general_reads op ≡ some_of left ++ some_of right →
    some_of first ≡ copied_for homes cluster served (some_of left) → some_of second ≡ copied_for homes cluster (serve cluster (some_of first) ++ served) (some_of right) →
    some_of first ++ some_of second ≡ copied_for homes cluster served (general_reads op)
both_needed homes cluster served op left right first second a p q =
    ap (λ x. some_of first ++ x) q
    ∙ ap (λ x. x ++ copied_for homes cluster (serve cluster x ++ served) (some_of right)) p
    ∙ sym (copied_two homes cluster served left (some_of right))
    ∙ ap (copied_for homes cluster served) (sym a)

-- what is laid down

adds_two : (a b c : Standings) (xs ys : List Standing) → Adds a b xs → Adds b c ys → Adds a c (xs ++ ys)
adds_two a b c xs ys p q = record {
  ops = q.ops ∙ ap (λ x. x ++ map (λ (s : Standing). s.op) ys) p.ops ∙ append_assoc a.ops (map (λ (s : Standing). s.op) xs) (map (λ (s : Standing). s.op) ys) ∙ ap (λ x. a.ops ++ x) (sym (map-append (λ (s : Standing). s.op) xs ys));
  clusters = q.clusters ∙ ap (λ x. x ++ map (λ (s : Standing). s.cluster) ys) p.clusters ∙ append_assoc a.clusters (map (λ (s : Standing). s.cluster) xs) (map (λ (s : Standing). s.cluster) ys) ∙ ap (λ x. a.clusters ++ x) (sym (map-append (λ (s : Standing). s.cluster) xs ys));
  fixed = q.fixed ∙ ap (λ x. x ++ map (λ (s : Standing). s.fixed) ys) p.fixed ∙ append_assoc a.fixed (map (λ (s : Standing). s.fixed) xs) (map (λ (s : Standing). s.fixed) ys) ∙ ap (λ x. a.fixed ++ x) (sym (map-append (λ (s : Standing). s.fixed) xs ys));
}

pub with_three : (values cluster : ℕ) (first second : Option ℕ) (last : List Standing) (a b c d : Standings) → Adds a b (map (across values cluster) (some_of first)) → Adds b c (map (across values cluster) (some_of second)) → Adds c d last →
    Adds a d (map (across values cluster) (some_of first ++ some_of second) ++ last)
with_three values cluster first second last a b c d p q r =
    subst (λ xs. Adds a d (xs ++ last)) (sym (map-append (across values cluster) (some_of first) (some_of second)))
    (adds_two a c d (map (across values cluster) (some_of first) ++ map (across values cluster) (some_of second)) last (adds_two a b c (map (across values cluster) (some_of first)) (map (across values cluster) (some_of second)) p q) r)

pub copies_before : (values : ℕ) (homes : ℕ → Option ℕ) (served : List Served) (op : TraceOp) (cluster : ℕ) (fixed : Option ℕ) (copied : List ℕ) (a b : Standings) → reads_copies fixed op ≡ true →
    copied ≡ copied_for homes cluster served (general_reads op) → Adds a b (map (across values cluster) copied ++ standing (renamed_op (here values homes cluster) op) cluster fixed ∷ []) →
    Adds a b (with_its_copies values homes served op cluster fixed)
copies_before values homes served op cluster fixed copied a b e c p =
    let last : List Standing = standing (renamed_op (here values homes cluster) op) cluster fixed ∷ [] in
    let with_them : List Standing = map (across values cluster) (copied_for homes cluster served (general_reads op)) ++ last in
    subst (λ xs. Adds a b xs) (sym (ap (λ x. if x then with_them else standing op cluster fixed ∷ []) e)) (subst (λ vs. Adds a b (map (across values cluster) vs ++ last)) c p)

pub no_copies_before : (values : ℕ) (homes : ℕ → Option ℕ) (served : List Served) (op : TraceOp) (cluster : ℕ) (fixed : Option ℕ) (a b : Standings) → reads_copies fixed op ≡ false →
    Adds a b (standing op cluster fixed ∷ []) → Adds a b (with_its_copies values homes served op cluster fixed)
no_copies_before values homes served op cluster fixed a b e p =
    let last : List Standing = standing (renamed_op (here values homes cluster) op) cluster fixed ∷ [] in
    let with_them : List Standing = map (across values cluster) (copied_for homes cluster served (general_reads op)) ++ last in
    subst (λ xs. Adds a b xs) (sym (ap (λ x. if x then with_them else standing op cluster fixed ∷ []) e)) p

-- what serves then

pub two_serve : (homes : ℕ → Option ℕ) (served one two : List Served) (op : TraceOp) (cluster : ℕ) (fixed first second : Option ℕ) → reads_copies fixed op ≡ true →
    some_of first ++ some_of second ≡ copied_for homes cluster served (general_reads op) → one ≡ serve cluster (some_of second) ++ served → two ≡ serve cluster (some_of first) ++ one →
    two ≡ served_with homes served op cluster fixed
two_serve homes served one two op cluster fixed first second e c p q =
    let all : List ℕ = copied_for homes cluster served (general_reads op) in
    q ∙ ap (λ x. serve cluster (some_of first) ++ x) p ∙ sym (append_assoc (serve cluster (some_of first)) (serve cluster (some_of second)) served)
    ∙ ap (λ x. x ++ served) (sym (map-append (λ (v : ℕ). let s : Served = record { value = v; cluster = cluster } in s) (some_of first) (some_of second)))
    ∙ ap (λ vs. serve cluster vs ++ served) c
    ∙ sym (ap (λ x. if x then serve cluster all ++ served else served) e)

pub none_serve : (homes : ℕ → Option ℕ) (served : List Served) (op : TraceOp) (cluster : ℕ) (fixed : Option ℕ) → reads_copies fixed op ≡ false → served ≡ served_with homes served op cluster fixed
none_serve homes served op cluster fixed e =
    let all : List ℕ = copied_for homes cluster served (general_reads op) in
    sym (ap (λ x. if x then serve cluster all ++ served else served) e)

pub served_now : (homes : ℕ → Option ℕ) (served one two : List Served) (op : TraceOp) (cluster : ℕ) (fixed written : Option ℕ) → some_of written ≡ writes_of op → one ≡ served_with homes served op cluster fixed →
    two ≡ filter (λ (s : Served). not (list_any (nat_eq s.value) (some_of written))) one → two ≡ served_behind homes served op cluster fixed
served_now homes served one two op cluster fixed written w p q =
    q ∙ ap (λ vs. filter (λ (s : Served). not (list_any (nat_eq s.value) vs)) one) w ∙ ap (filter (λ (s : Served). not (list_any (nat_eq s.value) (writes_of op)))) p

-- none of a value that is written, all others

pub keeps_all : (xs : List Served) → xs ≡ filter (λ (s : Served). not (list_any (nat_eq s.value) (some_of None))) xs
keeps_all [] = refl
keeps_all (x ∷ xs) = ap (λ ys. x ∷ ys) (keeps_all xs)

pub keeps_others : (xs ys : List Served) (v : ℕ) → ys ≡ filter (λ (s : Served). not (s.value == v)) xs → ys ≡ filter (λ (s : Served). not (list_any (nat_eq s.value) (some_of (Some v)))) xs
keeps_others xs ys v e =
    let one : Served → Bool = λ s. not (s.value == v) in
    let other : Served → Bool = λ s. not (list_any (nat_eq s.value) (some_of (Some v))) in
    let same : one ≡ other = fun_ext (λ s. ap not (sym (or_false (s.value == v)))) in
    e ∙ ap (λ (p : Served → Bool). filter p xs) same

pub keeps_none : (xs : List Served) (written : Option ℕ) → written ≡ None → xs ≡ filter (λ (s : Served). not (list_any (nat_eq s.value) (some_of written))) xs
keeps_none xs written e = keeps_all xs ∙ ap (λ w. filter (λ (s : Served). not (list_any (nat_eq s.value) (some_of w))) xs) (sym e)
