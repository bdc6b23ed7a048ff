-- The tasks that are left of a visit do what the visit does.
use Rattle.std.proofs.Common.{◌≡◌, ◌<◌, ◌≤◌, ◌+◌, ◌-◌, ◌*◌, refl, sym, ◌∙◌, ap, arith, false, nat_eq, ℕ, zero, suc, Option, Some, None, List, [], ◌∷◌, ◌++◌, append_assoc, append-nil, slice_get}
use Rattle.std.specs.List.{list_any, flat_map}
use Rattle.std.proofs.lemmas.List.Concat.{flat_map-append}
use Rattle.vx_flow.specs.declared.trace.TraceOp.{TraceOp}
use Rattle.vx_flow.specs.declared.trace.Trace.{Trace}
use Rattle.vx_flow.specs.declared.operands.Reads.{Reads}
use Rattle.vx_flow.specs.Operands.{values_read}
use Rattle.vx_linear.specs.Writers.{writer}
use Rattle.vx_dep.specs.Delays.{reads_of}
use Rattle.vx_bug.specs.declared.order.Task.{Task}
use Rattle.vx_bug.specs.declared.order.Task.TheVariants.{Enter, Leave}
use Rattle.vx_bug.specs.Clusters.{some_of, writers_of, visit_each, visit}
use Rattle.vx_bug.specs.Tasks.{done, all_done, entries, turns, weight, all_weight}
use Rattle.vx_bug.proofs.Visiting.{visit_new}

-- what tasks do

pub last_done : (t : Trace) (tasks : List Task) (task : Task) (l : List ℕ) → all_done t (tasks ++ task ∷ []) l ≡ all_done t tasks (done t task l)
last_done t [] task l = refl
last_done t (x ∷ tasks) task l = ap (done t x) (last_done t tasks task l)

entries_done : (t : Trace) (d : ℕ) (is : List ℕ) (tasks : List Task) (l : List ℕ) → all_done t (tasks ++ entries d is) l ≡ all_done t tasks (visit_each (visit d t) is l)
entries_done t d [] tasks l = ap (λ ts. all_done t ts l) (append-nil tasks)
entries_done t d (i ∷ is) tasks l =
    ap (λ ts. all_done t ts l) (sym (append_assoc tasks (entries d is) (Enter d i ∷ [])))
    ∙ last_done t (tasks ++ entries d is) (Enter d i) l
    ∙ entries_done t d is tasks (visit d t i l)

-- how many they are

weight_end : (tasks more : List Task) → all_weight (tasks ++ more) ≡ all_weight tasks + all_weight more
weight_end [] more = omega arith
weight_end (x ∷ tasks) more = let e = weight_end tasks more in omega (arith, e)

-- the writers of the operands

abbrev pub above : Trace → ℕ → Option ℕ → List ℕ
above t i value = flat_map (λ v. some_of (writer t.ops i v)) (some_of value)

pub no_entries : (t : Trace) (d i : ℕ) (op : Option TraceOp) (tasks : List Task) → op ≡ None → tasks ≡ tasks ++ entries d (writers_of t i op)
no_entries t d i op tasks e = sym (append-nil tasks) ∙ ap (λ o. tasks ++ entries d (writers_of t i o)) (sym e)

pub no_entry : (t : Trace) (d i : ℕ) (value : Option ℕ) (tasks : List Task) → value ≡ None → tasks ≡ tasks ++ entries d (above t i value)
no_entry t d i value tasks e = sym (append-nil tasks) ∙ ap (λ o. tasks ++ entries d (above t i o)) (sym e)

pub none_above : (t : Trace) (d i v : ℕ) (value : Option ℕ) (tasks : List Task) → value ≡ Some v → writer t.ops i v ≡ None → tasks ≡ tasks ++ entries d (above t i value)
none_above t d i v value tasks e f = sym (append-nil tasks) ∙ ap (λ o. tasks ++ entries d (some_of o ++ [])) (sym f) ∙ ap (λ o. tasks ++ entries d (above t i o)) (sym e)

pub one_entry : (t : Trace) (d i v j : ℕ) (value : Option ℕ) (tasks : List Task) → value ≡ Some v → writer t.ops i v ≡ Some j → tasks ++ Enter d j ∷ [] ≡ tasks ++ entries d (above t i value)
one_entry t d i v j value tasks e f = ap (λ o. tasks ++ entries d (some_of o ++ [])) (sym f) ∙ ap (λ o. tasks ++ entries d (above t i o)) (sym e)

entries_end : (d : ℕ) (is js : List ℕ) → entries d (is ++ js) ≡ entries d js ++ entries d is
entries_end d [] js = sym (append-nil (entries d js))
entries_end d (i ∷ is) js = ap (λ ts. ts ++ Enter d i ∷ []) (entries_end d is js) ∙ append_assoc (entries d js) (entries d is) (Enter d i ∷ [])

pub all_entries : (t : Trace) (d i : ℕ) (there : Option TraceOp) (op : TraceOp) (r : Reads) (tasks one two three : List Task) → there ≡ Some op → reads_of op ≡ values_read r →
    one ≡ tasks ++ entries d (above t i r.third) → two ≡ one ++ entries d (above t i r.second) → three ≡ two ++ entries d (above t i r.first) →
    three ≡ tasks ++ entries d (writers_of t i there)
all_entries t d i there op r tasks one two three e a p q s =
    let w : ℕ → List ℕ = λ v. some_of (writer t.ops i v) in
    let first : List Task = entries d (above t i r.first) in
    let second : List Task = entries d (above t i r.second) in
    let third : List Task = entries d (above t i r.third) in
    let cut : flat_map w (reads_of op) ≡ above t i r.first ++ (above t i r.second ++ above t i r.third) =
    ap (flat_map w) a ∙ flat_map-append w (some_of r.first) (some_of r.second ++ some_of r.third) ∙ ap (λ x. above t i r.first ++ x) (flat_map-append w (some_of r.second) (some_of r.third)) in
    let whole : entries d (writers_of t i there) ≡ (third ++ second) ++ first =
    ap (λ o. entries d (writers_of t i o)) e ∙ ap (entries d) cut ∙ entries_end d (above t i r.first) (above t i r.second ++ above t i r.third)
    ∙ ap (λ x. x ++ first) (entries_end d (above t i r.second) (above t i r.third)) in
    s ∙ ap (λ x. x ++ first) (q ∙ ap (λ x. x ++ second) p ∙ append_assoc tasks third second)
    ∙ append_assoc tasks (third ++ second) first
    ∙ ap (λ x. tasks ++ x) (sym whole)

-- a place

some_turns : (d : ℕ) → 0 < turns d
some_turns zero = omega arith
some_turns (suc d) = omega arith

turns_suc : (d : ℕ) → 0 < d → turns d ≡ 2 + 3 * turns (d - 1)
turns_suc d h = let k : d ≡ suc (d - 1) = omega (arith, h) in ap turns k

pub fewer : (d n : ℕ) → n < n + turns d
fewer d n = let h = some_turns d in omega (arith, h)

pub one_entered : (tasks new : List Task) (task : Task) → new ≡ tasks ++ task ∷ [] → all_weight new ≡ all_weight tasks + weight task
one_entered tasks new task e =
    let h : all_weight new ≡ all_weight tasks + (weight task + 0) = ap all_weight e ∙ weight_end tasks (task ∷ []) in
    omega (arith, h)

pub entered_few : (d j : ℕ) (tasks new : List Task) → new ≡ tasks ++ Enter d j ∷ [] → all_weight new ≤ all_weight tasks + turns d
entered_few d j tasks new e = let h = one_entered tasks new (Enter d j) e in omega (arith, h)

pub entered : (t : Trace) (d i : ℕ) (l : List ℕ) (tasks pushed new : List Task) → 0 < d → list_any (nat_eq i) l ≡ false → pushed ≡ tasks ++ Leave i ∷ [] →
    new ≡ pushed ++ entries (d - 1) (writers_of t i (slice_get t.ops i)) → all_done t new l ≡ all_done t tasks (visit d t i l)
entered t d i l tasks pushed new some e p q =
    let is : List ℕ = writers_of t i (slice_get t.ops i) in
    let between : List ℕ = visit_each (visit (d - 1) t) is l in
    ap (λ ts. all_done t ts l) (q ∙ ap (λ ts. ts ++ entries (d - 1) is) p)
    ∙ entries_done t (d - 1) is (tasks ++ Leave i ∷ []) l
    ∙ last_done t tasks (Leave i) between
    ∙ ap (all_done t tasks) (visit_new t d i l between some e refl)

pub entered_fewer : (d i : ℕ) (tasks pushed new : List Task) → 0 < d → pushed ≡ tasks ++ Leave i ∷ [] → all_weight new ≤ all_weight pushed + 3 * turns (d - 1) → all_weight new < all_weight tasks + turns d
entered_fewer d i tasks pushed new some p q =
    let h = turns_suc d some in
    let k : all_weight pushed ≡ all_weight tasks + 1 = one_entered tasks pushed (Leave i) p in
    omega (arith, h, k, q)

-- the whole visit

pub next_turn : (t : Trace) (old rest new : List Task) (task : Task) (before after : List ℕ) → old ≡ rest ++ task ∷ [] → all_done t new after ≡ all_done t rest (done t task before) → all_done t new after ≡ all_done t old before
next_turn t old rest new task before after e d = d ∙ sym (last_done t rest task before) ∙ ap (λ ts. all_done t ts before) (sym e)
