-- The copies that the operations of a trace need where they read a value on another cluster than its home, and the trace with
-- them.
use Rattle.std.specs.Prelude.{◌+◌, ◌*◌, ◌&&◌, ◌==◌, not, ℕ, Bool, true, false, if◌then◌else◌, nat_eq, Option, Some, None, List, [], ◌∷◌, ◌++◌, length, map, take, flat_map}
use Rattle.std.specs.List.{list_any, filter}
use Rattle.vx_flow.specs.declared.graph.Op.{Op}
use Rattle.vx_flow.specs.declared.graph.Op.TheVariants.{Across, PlaceIn}
use Rattle.vx_flow.specs.declared.trace.TraceOp.{TraceOp}
use Rattle.vx_flow.specs.declared.trace.TraceOp.TheVariants.{Plain, Split}
use Rattle.vx_flow.specs.declared.trace.Join.{Join}
use Rattle.vx_flow.specs.declared.trace.Trace.{Trace}
use Rattle.vx_flow.specs.declared.trace.Clustered.{Clustered}
use Rattle.vx_flow.specs.Operands.{with_value_in, with_operands}
use Rattle.vx_linear.specs.Followed.{is_join}
use Rattle.vx_dep.specs.Delays.{writes_of}
use Rattle.vx_bug.specs.declared.served.Served.{Served}
use Rattle.vx_bug.specs.Clusters.{general_reads}

-- the copy of value v to a cluster, where the function's graph has so many values
abbrev pub copy_of : (values v cluster : ℕ) → ℕ
copy_of values v cluster = (cluster + 1) * values + v

-- the value stands on another cluster
abbrev pub is_away : Option ℕ → (cluster : ℕ) → Bool
is_away None cluster = false
is_away (Some home) cluster = not (home == cluster)

-- an operation that was copied as compensation names the copies that it reads; one across reads where its operand stands
abbrev pub reads_copies : (fixed : Option ℕ) → TraceOp → Bool
reads_copies (Some cluster) op = false
reads_copies None (Plain (Across v u)) = false
reads_copies None op = true

-- copies that serve

abbrev pub is_served : List Served → (v cluster : ℕ) → Bool
is_served served v cluster = list_any (λ (s : Served). (s.value == v) && (s.cluster == cluster)) served

abbrev pub serve : ℕ → List ℕ → List Served
serve cluster values = map (λ v. record { value = v; cluster = cluster }) values

-- the values of which a copy is made before an operation on a cluster, in the order of its operands, each once
abbrev pub copied_for : (homes : ℕ → Option ℕ) → (cluster : ℕ) → List Served → (values : List ℕ) → List ℕ
copied_for homes cluster served [] = []
copied_for homes cluster served (v ∷ vs) =
    if is_away (homes v) cluster && not (is_served served v cluster)
    then v ∷ copied_for homes cluster (record { value = v; cluster = cluster } ∷ served) vs
    else copied_for homes cluster served vs

-- the operation with other general values among its operands

abbrev pub renamed : (ℕ → ℕ) → Op → Op
renamed to (PlaceIn v a base i) = PlaceIn v a (to base) (with_value_in to i)
renamed to op = with_operands (with_value_in to) op

abbrev pub renamed_op : (ℕ → ℕ) → TraceOp → TraceOp
renamed_op to (Plain op) = Plain (renamed to op)
renamed_op to (Split test leaves_when edge live) = Split test leaves_when edge live

-- the value, or its copy where it stands on another cluster
abbrev pub here : (values : ℕ) → (homes : ℕ → Option ℕ) → (cluster v : ℕ) → ℕ
here values homes cluster v = if is_away (homes v) cluster then copy_of values v cluster else v

-- an operation as it stands in the clustered trace
pub record Standing : Type 0 where
  pub op : TraceOp
  pub cluster : ℕ
  pub fixed : Option ℕ

abbrev pub across : (values cluster v : ℕ) → Standing
across values cluster v = record { op = Plain (Across (copy_of values v cluster) v); cluster = cluster; fixed = None }

-- the copies before an operation, and the operation
abbrev pub with_its_copies : (values : ℕ) → (homes : ℕ → Option ℕ) → List Served → TraceOp → (cluster : ℕ) → (fixed : Option ℕ) → List Standing
with_its_copies values homes served op cluster fixed =
    if reads_copies fixed op
    then map (across values cluster) (copied_for homes cluster served (general_reads op)) ++ record { op = renamed_op (here values homes cluster) op; cluster = cluster; fixed = fixed } ∷ []
    else record { op = op; cluster = cluster; fixed = fixed } ∷ []

-- the copies that serve behind it: what it writes has no copy any more
abbrev pub served_behind : (homes : ℕ → Option ℕ) → List Served → TraceOp → (cluster : ℕ) → (fixed : Option ℕ) → List Served
served_behind homes served op cluster fixed =
    filter (λ (s : Served). not (list_any (nat_eq s.value) (writes_of op)))
    (if reads_copies fixed op then serve cluster (copied_for homes cluster served (general_reads op)) ++ served else served)

-- for each operation from place i on what stands in its place; behind a join no copy from above serves
abbrev pub pieces_from : Trace → (homes : ℕ → Option ℕ) → (i : ℕ) → List Served → (ops : List TraceOp) → (clusters : List ℕ) → (fixed : List (Option ℕ)) → List (List Standing)
pieces_from t homes i served [] clusters fixed = []
pieces_from t homes i served (op ∷ ops) [] fixed = []
pieces_from t homes i served (op ∷ ops) (k ∷ clusters) [] = []
pieces_from t homes i served (op ∷ ops) (k ∷ clusters) (f ∷ fixed) =
    let now = if is_join t i then [] else served in
    with_its_copies t.values homes now op k f ∷ pieces_from t homes (i + 1) (served_behind homes now op k f) ops clusters fixed

abbrev pub pieces_of : Trace → (homes : ℕ → Option ℕ) → (chosen : List ℕ) → List (List Standing)
pieces_of t homes chosen = pieces_from t homes 0 [] t.ops chosen t.fixed

abbrev pub joined : List (List Standing) → List Standing
joined pieces = flat_map (λ (piece : List Standing). piece) pieces

-- copies stand below the joins that their operation stands below
abbrev pub moved_join : List (List Standing) → Join → Join
moved_join pieces join = record join { place = length (joined (take join.place pieces)) }

-- the clustered trace, where `homes` are those after the last turn
abbrev pub with_copies : Trace → (homes : ℕ → Option ℕ) → (chosen : List ℕ) → Clustered
with_copies t homes chosen =
    let pieces = pieces_of t homes chosen in
    record {
      trace = record t {
        ops = map (λ (s : Standing). s.op) (joined pieces);
        fixed = map (λ (s : Standing). s.fixed) (joined pieces);
        joins = map (moved_join pieces) t.joins;
      };
      clusters = map (λ (s : Standing). s.cluster) (joined pieces);
    }
