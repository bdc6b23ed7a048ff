-- Frames of functions, one after the other, and the largest of them.
use Rattle.std.proofs.Common.{◌≡◌, ◌⊎◌, ◌<◌, ◌≤◌, ◌+◌, cond, Less, Equal, Greater, Ordering, ℕ, List, [], ◌∷◌, ◌++◌, length, get_or, slice_index_or, inl, inr, sym, subst, arith}
use Rattle.std.specs.Ordering.{MatchOrdering, is_lt, nat_cmp, ord_max}
use Rattle.std.specs.Cmp.{ranks}
use Rattle.std.proofs.lemmas.Bool.{cases_eq}
use Rattle.std.proofs.lemmas.List.{get_or_append_left, get_or_push, get_or_read}
use Rattle.vx_flow.specs.declared.graph.Graph.{Graph}
use Rattle.vx_mixed.specs.declared.layout.VWords.{VWords}
use Rattle.vx_regs.specs.declared.map.RegMap.{RegMap}
use Rattle.vx_calls.specs.Framing.{IsFrameOf}
use Rattle.vx_slots.specs.Seen.{no_frame, no_graph, no_layout, no_map}
use Rattle.vx_slots.specs.declared.program.FunctionFrame.{FunctionFrame}

module _ (graphs : List Graph) (layouts : List VWords) (maps : List RegMap) (addresses : List ℕ) where
  abbrev pub Stands : List FunctionFrame → ℕ → Type 0
  Stands frames f = IsFrameOf (slice_index_or graphs f no_graph) (slice_index_or layouts f no_layout) (slice_index_or maps f no_map) addresses (slice_index_or frames f no_frame)

  pub frames_more : (frames new : List FunctionFrame) (n : ℕ) (g : Graph) (l : VWords) (m : RegMap) (frame : FunctionFrame) → n < length graphs → n < length layouts → n < length maps →
      g ≡ get_or graphs n g → l ≡ get_or layouts n l → m ≡ get_or maps n m → length frames ≡ n → ((f : ℕ) → f < n → Stands frames f) → IsFrameOf g l m addresses frame → new ≡ frames ++ (frame ∷ []) →
      (f : ℕ) → f < n + 1 → Stands new f
  frames_more frames new n g l m frame in_graphs in_layouts in_maps g_is l_is m_is e before here q f h = by (cases_eq f n)
    where
      last : Stands (frames ++ (frame ∷ [])) n
      last =
          let a : g ≡ slice_index_or graphs n no_graph = get_or_read graphs n g in_graphs g_is no_graph in
          let b : l ≡ slice_index_or layouts n no_layout = get_or_read layouts n l in_layouts l_is no_layout in
          let c : m ≡ slice_index_or maps n no_map = get_or_read maps n m in_maps m_is no_map in
          let d : frame ≡ slice_index_or (frames ++ (frame ∷ [])) n no_frame = sym (get_or_push frames frame no_frame n e) in
          let x : IsFrameOf (slice_index_or graphs n no_graph) l m addresses frame = subst (λ z. IsFrameOf z l m addresses frame) a here in
          let y : IsFrameOf (slice_index_or graphs n no_graph) (slice_index_or layouts n no_layout) m addresses frame = subst (λ z. IsFrameOf (slice_index_or graphs n no_graph) z m addresses frame) b x in
          let z : IsFrameOf (slice_index_or graphs n no_graph) (slice_index_or layouts n no_layout) (slice_index_or maps n no_map) addresses frame = subst (λ k. IsFrameOf (slice_index_or graphs n no_graph) (slice_index_or layouts n no_layout) k addresses frame) c y in
          subst (IsFrameOf (slice_index_or graphs n no_graph) (slice_index_or layouts n no_layout) (slice_index_or maps n no_map) addresses) d z

      by : (f ≡ n) ⊎ (f ≡ n → ⊥) → Stands new f
      by (inl s) = subst (λ k. Stands new k) (sym s) (subst (λ fs. Stands fs n) (sym q) last)
      by (inr s) =
          let lt : f < n = omega arith in
          let within : f < length frames = omega arith in
          subst (λ fs. Stands fs f) (sym q) (subst (IsFrameOf (slice_index_or graphs f no_graph) (slice_index_or layouts f no_layout) (slice_index_or maps f no_map) addresses) (sym (get_or_append_left frames (frame ∷ []) no_frame f within)) (before f lt))

-- the greater of two numbers
pub record IsGreater (a b m : ℕ) : Type 0 where
  pub left : a ≤ m
  pub right : b ≤ m
  pub one : (m ≡ a) ⊎ (m ≡ b)

pub greater_is : (a b m : ℕ) → m ≡ ord_max nat_cmp a b → IsGreater a b m
greater_is a b m e = by (nat_cmp b a) (ranks b a) e
  where
    by : (r : Ordering) → MatchOrdering r (b < a) (b ≡ a) (a < b) → m ≡ cond (is_lt r) a b → IsGreater a b m
    by Less lt q = record { left = omega (arith, q); right = omega (arith, q, lt); one = inl q }
    by Equal same q = record { left = omega (arith, q, same); right = omega (arith, q); one = inr q }
    by Greater lt q = record { left = omega (arith, q, lt); right = omega (arith, q); one = inr q }

pub greater_within : (a b m n : ℕ) → IsGreater a b m → a ≤ n → b ≤ n → m ≤ n
greater_within a b m n g h k = elim g.one [ inl e ↦ omega (arith, e, h) | inr e ↦ omega (arith, e, k) ]

module _ (frames : List FunctionFrame) (i : ℕ) (x : FunctionFrame) (lt : i < length frames) (is : x ≡ get_or frames i x) where
  pub frame_within : (n : ℕ) → ((f : ℕ) → f < length frames → (slice_index_or frames f no_frame).words ≤ n) → x.words ≤ n
  frame_within n all = subst (λ (z : FunctionFrame). z.words ≤ n) (sym (get_or_read frames i x lt is no_frame)) (all i lt)

  pub frame_most : (most m : ℕ) → most ≤ m → x.words ≤ m → ((f : ℕ) → f < i → (slice_index_or frames f no_frame).words ≤ most) → (f : ℕ) → f < i + 1 → (slice_index_or frames f no_frame).words ≤ m
  frame_most most m a b before f h = by (cases_eq f i)
    where
      by : (f ≡ i) ⊎ (f ≡ i → ⊥) → (slice_index_or frames f no_frame).words ≤ m
      by (inl e) = subst (λ k. (slice_index_or frames k no_frame).words ≤ m) (sym e) (subst (λ (z : FunctionFrame). z.words ≤ m) (get_or_read frames i x lt is no_frame) b)
      by (inr n) = let l : f < i = omega arith in let p = before f l in omega (arith, p, a)
