-- An operation put behind the copies, or none where none stands.
use Rattle.std.proofs.Common.{◌≡◌, Bool, ℕ, Option, Some, None, List, [], ◌∷◌, ◌++◌, map, refl, sym, ap, ◌∙◌}
use Rattle.vx_flow.specs.declared.graph.Op.{Op}
use Rattle.vx_flow.specs.declared.trace.TraceOp.{TraceOp}
use Rattle.vx_region.specs.Planned.{op_of, cluster_of, dismissed_if}

nothing_behind : (xs : List Op) → xs ≡ xs ++ []
nothing_behind [] = refl
nothing_behind (x ∷ xs) = ap (λ z. x ∷ z) (nothing_behind xs)

pub none_pushed : (copies : List Op) (o : Option TraceOp) → o ≡ None → copies ≡ copies ++ op_of o
none_pushed copies o e = nothing_behind copies ∙ ap (λ z. copies ++ op_of z) (sym e)

pub one_pushed : (copies next : List Op) (o : Option TraceOp) (op : TraceOp) → o ≡ Some op → next ≡ copies ++ op_of (Some op) → next ≡ copies ++ op_of o
one_pushed copies next o op e h = h ∙ ap (λ z. copies ++ op_of z) (sym e)

pub none_placed : (copies : List Op) (freed : Bool) (o : Option TraceOp) → o ≡ None → copies ≡ copies ++ map (dismissed_if freed) (op_of o)
none_placed copies freed o e = nothing_behind copies ∙ ap (λ z. copies ++ map (dismissed_if freed) (op_of z)) (sym e)

pub one_placed : (copies next : List Op) (freed is : Bool) (o : Option TraceOp) (op : TraceOp) → o ≡ Some op → freed ≡ is → next ≡ copies ++ map (dismissed_if freed) (op_of (Some op)) → next ≡ copies ++ map (dismissed_if is) (op_of o)
one_placed copies next freed is o op e f h = h ∙ ap (λ z. copies ++ map (dismissed_if z) (op_of (Some op))) f ∙ ap (λ z. copies ++ map (dismissed_if is) (op_of z)) (sym e)

same_behind : (xs : List ℕ) → xs ≡ xs ++ []
same_behind [] = refl
same_behind (x ∷ xs) = ap (λ z. x ∷ z) (same_behind xs)

pub no_cluster : (clusters : List ℕ) (cluster : ℕ) (o : Option TraceOp) → o ≡ None → clusters ≡ clusters ++ cluster_of o cluster
no_cluster clusters cluster o e = same_behind clusters ∙ ap (λ z. clusters ++ cluster_of z cluster) (sym e)

pub one_cluster : (clusters next : List ℕ) (cluster is : ℕ) (o : Option TraceOp) (op : TraceOp) → o ≡ Some op → cluster ≡ is → next ≡ clusters ++ cluster_of (Some op) cluster → next ≡ clusters ++ cluster_of o is
one_cluster clusters next cluster is o op e f h = h ∙ ap (λ z. clusters ++ cluster_of (Some op) z) f ∙ ap (λ z. clusters ++ cluster_of z is) (sym e)
