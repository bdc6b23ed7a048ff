-- What is kept of the operations above a place, from one place to the next.
use Rattle.std.proofs.Common.{◌≡◌, ◌⊎◌, inl, inr, ℕ, suc, ◌+◌, ◌<◌, ◌≤◌, refl, sym, ◌∙◌, ap, arith, Bool, true, false, ◌&&◌, ◌||◌, nat_lt, nat_eq, if◌then◌else◌, Option, Some, None, List, [], ◌∷◌, ◌++◌, length, drop, slice_get, subst}
use Rattle.std.proofs.lemmas.Bool.{cases_lt}
use Rattle.std.proofs.lemmas.Bool.Decides.{nat_tests}
use Rattle.std.proofs.lemmas.List.{length-append, append_assoc, append-nil}
use Rattle.std.specs.Map.{lookup}
use Rattle.vx_flow.specs.declared.trace.TraceOp.{TraceOp}
use Rattle.vx_flow.specs.declared.trace.Join.{Join}
use Rattle.vx_flow.specs.declared.trace.Trace.{Trace}
use Rattle.vx_linear.specs.declared.form.Form.{Form}
use Rattle.vx_linear.specs.declared.linear.Linear.{Linear}
use Rattle.vx_linear.specs.declared.known_values.Known.{Known}
use Rattle.vx_linear.specs.declared.passed.Passed.{Passed}
use Rattle.vx_linear.specs.Followed.{writes_it, made, known, index_made, is_join, above_of, form_at, forms_from, forms_of}
use Rattle.vx_linear.specs.Writers.{writes_there, writer, has_join, made_there, made_at, index_there}
use Rattle.vx_linear.specs.Passed.{Passes, IsFollowed}
use Rattle.vx_linear.proofs.Writing.{joins_there, joins_same, all_forms, at_drop, of_longer}

no_some : {A : Type 0} (n : A) → Option.None ≡ Some n → ⊥
no_some n e = cc

-- no join stands below a place, and not below the same
pub no_join : (joins : List Join) (i j : ℕ) → i ≤ j → has_join joins j i ≡ false
no_join [] i j h = refl
no_join (k ∷ ks) i j h = ap (λ b. b || has_join ks j i) (none k.place) ∙ no_join ks i j h
  where
    none : (p : ℕ) → (nat_lt j p && nat_lt p (suc i)) ≡ false
    none p = grind (arith, nat_tests)

pub passes_none : (t : Trace) (p : Passed) → p.knowns ≡ [] → p.indices ≡ [] → ((v : ℕ) → lookup (nat_eq v) p.writers.entries.entries ≡ None) → p.join ≡ 0 → Passes t 0 p
passes_none t p e f g h = record {
  made = λ j k q. absurd (no_some k (ap (λ xs. slice_get xs j) (sym e) ∙ q));
  indices = λ j a q. absurd (no_some a (ap (λ xs. slice_get xs j) (sym f) ∙ q));
  all_made = ap length e;
  all_indices = ap length f;
  writers = g;
  join = λ j b. no_join t.joins 0 j (omega arith) ∙ none j ∙ ap (λ n. nat_lt j n) (sym h);
}
  where
    none : (j : ℕ) → false ≡ nat_lt j 0
    none j = grind (arith, nat_tests)

join_behind : (t : Trace) (i last next : ℕ) → ((j : ℕ) → j ≤ i → has_join t.joins j i ≡ nat_lt j last) → next ≡ (if is_join t (suc i) then suc i else last) → (j : ℕ) → j ≤ suc i → has_join t.joins j (suc i) ≡ nat_lt j next
join_behind t i last next more e j h = by (is_join t (suc i)) refl (cases_lt i j)
  where
    by : (b : Bool) → is_join t (suc i) ≡ b → (i < j) ⊎ (j ≤ i) → has_join t.joins j (suc i) ≡ nat_lt j next
    by true f (inr l) = joins_there t.joins i j l f ∙ yes j l ∙ ap (nat_lt j) (sym (e ∙ ap (λ b. if b then suc i else last) f))
      where
        yes : (j : ℕ) → j ≤ i → true ≡ nat_lt j (suc i)
        yes j l = grind (arith, nat_tests)
    by true f (inl g) = no_join t.joins (suc i) j g ∙ no j g ∙ ap (nat_lt j) (sym (e ∙ ap (λ b. if b then suc i else last) f))
      where
        no : (j : ℕ) → i < j → false ≡ nat_lt j (suc i)
        no j l = grind (arith, nat_tests)
    by false f (inr l) = joins_same t.joins i j f ∙ more j l ∙ ap (nat_lt j) (sym (e ∙ ap (λ b. if b then suc i else last) f))
    by false f (inl g) = no_join t.joins (suc i) j g ∙ no j g (sym (more i (omega arith)) ∙ no_join t.joins i i (omega arith)) ∙ ap (nat_lt j) (sym (e ∙ ap (λ b. if b then suc i else last) f))
      where
        no : (j : ℕ) → i < j → nat_lt i last ≡ false → false ≡ nat_lt j last
        no j l h = grind (arith, nat_tests)

module _ (t : Trace) (i : ℕ) (p : Passed) (op : TraceOp) (found : Known) (index : Linear) (passes : Passes t i p) (there : slice_get t.ops i ≡ Some op) (is_made : found ≡ made i op (known (above_of t i))) (is_index : index ≡ index_made i op (above_of t i)) where
  made_behind : (j : ℕ) (k : Known) → (slice_get p.knowns j ≡ Some k) ⊎ ((j ≡ length p.knowns) × (k ≡ found)) → k ≡ made_at t j
  made_behind j k (inl q) = passes.made j k q
  made_behind j k (inr (at, q)) = q ∙ is_made ∙ ap (made_there t i) (sym there) ∙ ap (made_at t) (sym (at ∙ passes.all_made))

  index_behind : (j : ℕ) (a : Linear) → (slice_get p.indices j ≡ Some a) ⊎ ((j ≡ length p.indices) × (a ≡ index)) → a ≡ index_there t j (slice_get t.ops j)
  index_behind j a (inl q) = passes.indices j a q
  index_behind j a (inr (at, q)) = q ∙ is_index ∙ ap (index_there t i) (sym there) ∙ ap (λ n. index_there t n (slice_get t.ops n)) (sym (at ∙ passes.all_indices))

  passes_suc : (next : Passed) → next.knowns ≡ p.knowns ++ found ∷ [] → next.indices ≡ p.indices ++ index ∷ [] →
      ((v : ℕ) → lookup (nat_eq v) next.writers.entries.entries ≡ (if writes_it v op then Some i else lookup (nat_eq v) p.writers.entries.entries)) →
      next.join ≡ (if is_join t (suc i) then suc i else p.join) → Passes t (suc i) next
  passes_suc next e f g h = record {
    made = λ j k q. made_behind j k (of_longer p.knowns found j k (ap (λ xs. slice_get xs j) (sym e) ∙ q));
    indices = λ j a q. index_behind j a (of_longer p.indices index j a (ap (λ xs. slice_get xs j) (sym f) ∙ q));
    all_made = let n = passes.all_made in ap length e ∙ omega (arith, length-append p.knowns (found ∷ []), n);
    all_indices = let n = passes.all_indices in ap length f ∙ omega (arith, length-append p.indices (index ∷ []), n);
    writers = λ v. g v ∙ ap (λ x. if writes_it v op then Some i else x) (passes.writers v) ∙ ap (λ o. if writes_there v o then Some i else writer t.ops i v) (sym there);
    join = join_behind t i p.join next.join passes.join h;
  }

pub passes_next : (t : Trace) (i : ℕ) (p : Passed) (op : TraceOp) (found : Known) (index : Linear) → Passes t i p → slice_get t.ops i ≡ Some op → found ≡ made i op (known (above_of t i)) → index ≡ index_made i op (above_of t i) →
    (next : Passed) → next.knowns ≡ p.knowns ++ found ∷ [] → next.indices ≡ p.indices ++ index ∷ [] →
    ((v : ℕ) → lookup (nat_eq v) next.writers.entries.entries ≡ (if writes_it v op then Some i else lookup (nat_eq v) p.writers.entries.entries)) →
    next.join ≡ (if is_join t (i + 1) then i + 1 else p.join) → Passes t (i + 1) next
passes_next t i p op found index passes there is_made is_index next e f g h =
    let one : suc i ≡ i + 1 = omega arith in
    subst (λ n. Passes t n next) one (passes_suc t i p op found index passes there is_made is_index next e f g (h ∙ ap (λ n. if is_join t n then n else p.join) (sym one)))

-- from operation to operation

pub none_followed : (t : Trace) (p : Passed) (found : List (Option Form)) (left : List TraceOp) → Passes t 0 p → found ≡ [] → left ≡ t.ops → IsFollowed t p found left
none_followed t p found left passes e f = subst (λ fs. IsFollowed t p fs left) (sym e) (subst (λ ops. IsFollowed t p [] ops) (sym f) (record { passed = passes; forms = all_forms t; rest = refl }))

pub all_followed : (t : Trace) (p : Passed) (found : List (Option Form)) (left : List TraceOp) → IsFollowed t p found left → length left ≡ 0 → found ≡ forms_of t
all_followed t p found [] f e = sym (append-nil found) ∙ f.forms
all_followed t p found (op ∷ ops) f e = absurd (omega (arith, e))

pub stands_there : (t : Trace) (p : Passed) (found : List (Option Form)) (left others : List TraceOp) (op : TraceOp) → IsFollowed t p found left → left ≡ op ∷ others → slice_get t.ops (length found) ≡ Some op
stands_there t p found left others op f e = (at_drop t.ops others (length found) op (f.rest ∙ e)).get

pub one_more : (t : Trace) (p next : Passed) (found : List (Option Form)) (left others : List TraceOp) (op : TraceOp) (form : Option Form) →
    IsFollowed t p found left → left ≡ op ∷ others → form ≡ form_at t (length found) op → Passes t (length found + 1) next → IsFollowed t next (found ++ form ∷ []) others
one_more t p next found left others op form f e g passes =
    let place = at_drop t.ops others (length found) op (f.rest ∙ e) in
    let longer : length (found ++ form ∷ []) ≡ length found + 1 = omega (arith, length-append found (form ∷ [])) in
    let behind : suc (length found) ≡ length (found ++ form ∷ []) = omega (arith, longer) in
    record {
      passed = subst (λ n. Passes t n next) (sym longer) passes;
      forms =
          append_assoc found (form ∷ []) (forms_from t (length (found ++ form ∷ [])) others)
          ∙ ap (λ n. found ++ form ∷ forms_from t n others) (sym behind)
          ∙ ap (λ x. found ++ x ∷ forms_from t (suc (length found)) others) g
          ∙ ap (λ ops. found ++ forms_from t (length found) ops) (sym e)
          ∙ f.forms;
      rest = ap (λ n. drop n t.ops) longer ∙ place.rest;
    }
