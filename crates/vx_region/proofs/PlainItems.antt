-- The items of a trace on cluster 0, beside its operations.
use Rattle.std.proofs.Common.{◌≡◌, ℕ, zero, suc, ◌<◌, true, Some, None, List, [], ◌∷◌, length, drop, slice_get, refl, ap, arith}
use Rattle.vx_flow.specs.declared.graph.Op.TheVariants.{Load, Store, More, Input, Text, Decimal}
use Rattle.vx_flow.specs.declared.trace.TraceOp.{TraceOp}
use Rattle.vx_flow.specs.declared.trace.TraceOp.TheVariants.{Plain as TracePlain, Split as TraceSplit}
use Rattle.vx_flow.specs.Effects.{IsIn}
use Rattle.vx_isa.specs.Numbers.{Numbers}
use Rattle.vx_room.specs.Items.{latency_of_op}
use Rattle.vx_mixed.specs.Live.{item_reads, item_writes}
use Rattle.vx_motion.specs.Trace.{nth, inert}
use Rattle.vx_motion.specs.Facts.{IsSplit}
use Rattle.vx_motion.specs.Rows.{IsObservable, IsLoad, IsStore}
use Rattle.vx_mixed.specs.Way.{item_latency}
use Rattle.vx_motion.specs.Compensation.{live_of}
use Rattle.vx_mixed.specs.TraceItems.{plain_item, plain_items}
use Rattle.vx_dep.specs.Delays.{reads_of, writes_of, is_load, is_store, is_observable, leaves, latency_of, live_off}

pub plain_many : (ops : List TraceOp) → length (plain_items ops) ≡ length ops
plain_many [] = refl
plain_many (op ∷ ops) = ap suc (plain_many ops)

pub drop_plain : (q : ℕ) (ops : List TraceOp) → drop q (plain_items ops) ≡ plain_items (drop q ops)
drop_plain zero ops = refl
drop_plain (suc q) [] = refl
drop_plain (suc q) (op ∷ ops) = drop_plain q ops

pub nth_at : (ops : List TraceOp) (k : ℕ) (op : TraceOp) → slice_get ops k ≡ Some op → nth (plain_items ops) k ≡ plain_item op
nth_at [] k op e = absurd (cc)
nth_at (x ∷ ops) zero op e = let q : x ≡ op = cc in ap plain_item q
nth_at (x ∷ ops) (suc k) op e = nth_at ops k op e

pub nth_none : (ops : List TraceOp) (k : ℕ) → slice_get ops k ≡ None → nth (plain_items ops) k ≡ inert
nth_none [] k e = refl
nth_none (x ∷ ops) zero e = absurd (cc)
nth_none (x ∷ ops) (suc k) e = nth_none ops k e

pub some_at : {A : Type 0} (xs : List A) (k : ℕ) → k < length xs → (x : A) × (slice_get xs k ≡ Some x)
some_at [] k lt = absurd (omega arith)
some_at (x ∷ xs) zero lt = (x, refl)
some_at (x ∷ xs) (suc k) lt = some_at xs k (omega arith)

-- what an item does is what its operation does

pub writes_there : (op : TraceOp) (v : ℕ) → IsIn v (item_writes (plain_item op)) → IsIn v (writes_of op)
writes_there (TracePlain op) v h = h
writes_there (TraceSplit p y e live) v h = h

pub writes_back : (op : TraceOp) (v : ℕ) → IsIn v (writes_of op) → IsIn v (item_writes (plain_item op))
writes_back (TracePlain op) v h = h
writes_back (TraceSplit p y e live) v h = h

pub reads_there : (op : TraceOp) (v : ℕ) → IsIn v (item_reads (plain_item op)) → IsIn v (reads_of op)
reads_there (TracePlain op) v h = h
reads_there (TraceSplit p y e live) v h = h

pub live_there : (op : TraceOp) (v : ℕ) → IsIn v (live_of (Some op)) → IsIn v (live_off op)
live_there (TracePlain op) v h = h
live_there (TraceSplit p y e live) v h = h

pub latency_there : (m : Numbers) (op : TraceOp) (v : ℕ) → IsIn v (writes_of op) → item_latency (latency_of_op m) (plain_item op) ≡ latency_of m op
latency_there m (TracePlain op) v h = refl
latency_there m (TraceSplit p y e live) v h = absurd h

pub split_there : (op : TraceOp) → IsSplit (plain_item op) → leaves op ≡ true
split_there (TracePlain op) h = absurd h
split_there (TraceSplit p y e live) h = refl

pub store_there : (op : TraceOp) → IsStore (plain_item op) → is_store op ≡ true
store_there (TracePlain (Store a p x)) h = refl
store_there (TracePlain op) h = absurd h
store_there (TraceSplit p y e live) h = absurd h

pub load_there : (op : TraceOp) → IsLoad (plain_item op) → is_load op ≡ true
load_there (TracePlain (Load v a p d)) h = refl
load_there (TracePlain op) h = absurd h
load_there (TraceSplit p y e live) h = absurd h

pub observable_there : (op : TraceOp) → IsObservable (plain_item op) → is_observable op ≡ true
observable_there (TracePlain (More v)) h = refl
observable_there (TracePlain (Input v)) h = refl
observable_there (TracePlain (Text n)) h = refl
observable_there (TracePlain (Decimal x)) h = refl
observable_there (TracePlain op) h = absurd cc
observable_there (TraceSplit p y e live) h = absurd h
