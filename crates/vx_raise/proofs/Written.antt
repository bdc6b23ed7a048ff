-- An operation that may be raised always has a meaning once it may be dismissed, and then only writes its value.
use Rattle.std.proofs.Common.{◌≡◌, ℕ, pos, Bool, true, false, List, slice_index_or, Option, Some, None, refl, subst}
use Rattle.vx_flow.specs.declared.graph.Op.{Op}
use Rattle.vx_flow.specs.declared.graph.Op.TheVariants.{Compute, Select, Place, Load, Store, More, Input, Text, Decimal, Across, Base, PlaceIn}
use Rattle.vx_flow.specs.Effects.{Content, State, Setting, held, computed, chosen, place_of, place_by, row_of, cell_of, with_value, loaded, effect, reads, writes, dismissed}
use Rattle.vx_raise.specs.Raising.{result_of}

pub record Wrote (v : ℕ) (t : State) (o : Option State) : Type 0 where
  pub content : Content
  pub is : o ≡ Some (with_value t v content)

load_wrote : (t : State) (v : ℕ) (row : List Content) (i : Option ℕ) → Wrote v t (loaded t v row i true)
load_wrote t v row None = record { content = None; is = refl }
load_wrote t v row (Some i) = record { content = slice_index_or row i None; is = refl }

same_value : (u v : ℕ) → ◌≡◌ {A = Option ℕ} (Some u) (Some v) → u ≡ v
same_value u v e = cc

pub wrote : (setting : Setting) (op : Op) (v : ℕ) (s t : State) → result_of op ≡ Some v → Wrote v t (effect setting s (dismissed op) t)
wrote setting (Compute code u a c) v s t e = subst (λ w. Wrote w t (effect setting s (Compute code u a c) t)) (same_value u v e) (record { content = computed code (held s a) (held s c); is = refl })
wrote setting (Select u p a c) v s t e = subst (λ w. Wrote w t (effect setting s (Select u p a c) t)) (same_value u v e) (record { content = chosen (s.values p) (held s a) (held s c); is = refl })
wrote setting (Place u a i) v s t e = subst (λ w. Wrote w t (effect setting s (Place u a i) t)) (same_value u v e) (record { content = place_of (held s i); is = refl })
wrote setting (Load u a p dismissible) v s t e = subst (λ w. Wrote w t (effect setting s (Load u a p true) t)) (same_value u v e) (load_wrote t u (row_of s (setting.spot a)) (cell_of setting s a p))
wrote setting (Store a p x) v s t e = absurd (cc)
wrote setting (More u) v s t e = absurd (cc)
wrote setting (Input u) v s t e = absurd (cc)
wrote setting (Text n) v s t e = absurd (cc)
wrote setting (Decimal x) v s t e = absurd (cc)
wrote setting (Across u w) v s t e = absurd (cc)
wrote setting (Base u a x) v s t e = subst (λ w. Wrote w t (effect setting s (Base u a x) t)) (same_value u v e) (record { content = Some (pos (setting.spot a)); is = refl })
wrote setting (PlaceIn u a w i) v s t e = subst (λ z. Wrote z t (effect setting s (PlaceIn u a w i) t)) (same_value u v e) (record { content = place_by (s.values w) (held s i); is = refl })

-- where it has a meaning as it stands it has the same once it may be dismissed

load_dismissed : (t t' : State) (v : ℕ) (row : List Content) (i : Option ℕ) (dismissible : Bool) → loaded t v row i dismissible ≡ Some t' → loaded t v row i true ≡ Some t'
load_dismissed t t' v row None true e = e
load_dismissed t t' v row None false e = absurd (cc)
load_dismissed t t' v row (Some i) dismissible e = e

pub dismissed_same : (setting : Setting) (op : Op) (s t t' : State) → effect setting s op t ≡ Some t' → effect setting s (dismissed op) t ≡ Some t'
dismissed_same setting (Compute code u a c) s t t' e = e
dismissed_same setting (Select u p a c) s t t' e = e
dismissed_same setting (Place u a i) s t t' e = e
dismissed_same setting (Load u a p dismissible) s t t' e = load_dismissed t t' u (row_of s (setting.spot a)) (cell_of setting s a p) dismissible e
dismissed_same setting (Store a p x) s t t' e = e
dismissed_same setting (More u) s t t' e = e
dismissed_same setting (Input u) s t t' e = e
dismissed_same setting (Text n) s t t' e = e
dismissed_same setting (Decimal x) s t t' e = e
dismissed_same setting (Across u w) s t t' e = e
dismissed_same setting (Base u a x) s t t' e = e
dismissed_same setting (PlaceIn u a w i) s t t' e = e

pub dismissed_reads : (op : Op) → reads (dismissed op) ≡ reads op
dismissed_reads (Compute code u a c) = refl
dismissed_reads (Select u p a c) = refl
dismissed_reads (Place u a i) = refl
dismissed_reads (Load u a p dismissible) = refl
dismissed_reads (Store a p x) = refl
dismissed_reads (More u) = refl
dismissed_reads (Input u) = refl
dismissed_reads (Text n) = refl
dismissed_reads (Decimal x) = refl
dismissed_reads (Across u w) = refl
dismissed_reads (Base u a x) = refl
dismissed_reads (PlaceIn u a w i) = refl

pub dismissed_writes : (op : Op) → writes (dismissed op) ≡ writes op
dismissed_writes (Compute code u a c) = refl
dismissed_writes (Select u p a c) = refl
dismissed_writes (Place u a i) = refl
dismissed_writes (Load u a p dismissible) = refl
dismissed_writes (Store a p x) = refl
dismissed_writes (More u) = refl
dismissed_writes (Input u) = refl
dismissed_writes (Text n) = refl
dismissed_writes (Decimal x) = refl
dismissed_writes (Across u w) = refl
dismissed_writes (Base u a x) = refl
dismissed_writes (PlaceIn u a w i) = refl
