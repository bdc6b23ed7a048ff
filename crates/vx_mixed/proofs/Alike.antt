-- One word from two states that have the same arrays, input and output, and agree on what the word reads.
use Rattle.std.proofs.Common.{◌≡◌, ℕ, ℤ, Bool, true, false, Option, Some, None, List, [], ◌∷◌, ◌++◌, cond, length, slice_index_or, slice_set, refl, sym, ap, ◌∙◌, subst, ⊎_elim, inl, inr}
use Rattle.std.specs.Prelude.{◌⊎◌}
use Rattle.std.proofs.lemmas.Bool.{cases_eq, eq-eqb, ne_eqb}
use Rattle.std.specs.Fmt.{signed_decimal}
use Rattle.vx_flow.specs.Effects.{Content, State, Setting, text_at, held, cell_in, row_of, with_value, loaded, stored, next_input, printed, effect, value_in, reads, writes, IsIn}
use Rattle.vx_flow.specs.declared.graph.Op.{Op}
use Rattle.vx_flow.specs.declared.graph.Op.TheVariants.{Load, Store, Input, Text, Decimal}
use Rattle.vx_flow.specs.declared.graph.Operand.{Operand}
use Rattle.vx_flow.proofs.EffectsAlike.{content, content_refined}
use Rattle.vx_mixed.specs.declared.region.Item.{Item}
use Rattle.vx_mixed.specs.declared.region.Item.TheVariants.{Plain, Split}
use Rattle.vx_mixed.specs.Meaning.{word_effect, into}
use Rattle.vx_mixed.specs.Live.{word_reads, word_writes}
use Rattle.vx_mixed.specs.Agree.{SameWorld}
use Rattle.vx_mixed.proofs.Contents.{Grows, none_is, in_append, grows_held, cell_from}

pub record Both (ws : List ℕ) (x y x' y' : State) : Type 0 where
  pub world : SameWorld x' y'
  pub written : (v : ℕ) → IsIn v ws → Grows (x'.values v) (y'.values v)
  pub left : (v : ℕ) → (IsIn v ws → ⊥) → x'.values v ≡ x.values v
  pub right : (v : ℕ) → (IsIn v ws → ⊥) → y'.values v ≡ y.values v

abbrev pub Follow : List ℕ → State → State → Option State → Option State → Type 0
Follow ws x y None o = Unit {0}
Follow ws x y (Some x') None = ⊥
Follow ws x y (Some x') (Some y') = Both ws x y x' y'

in_one : (v u : ℕ) → IsIn v (u ∷ []) → v ≡ u
in_one v u (inl e) = e
in_one v u (inr e) = absurd e

at_value : (t : State) (v w : ℕ) (x : Content) → w ≡ v → (with_value t v x).values w ≡ x
at_value t v w x e = ap (λ b. cond b x (t.values w)) (eq-eqb w v e)

off_value : (t : State) (v w : ℕ) (x : Content) → (w ≡ v → ⊥) → (with_value t v x).values w ≡ t.values w
off_value t v w x n = ap (λ b. cond b x (t.values w)) (ne_eqb w v n)

value : (x y : State) (v : ℕ) (a b : Content) → SameWorld x y → Grows a b → Both (v ∷ []) x y (with_value x v a) (with_value y v b)
value x y v a b w g = record {
  world = record { arrays = w.arrays; input = w.input; out = w.out };
  written = λ u h n e. at_value y v u b (in_one u v h) ∙ g n (sym (at_value x v u a (in_one u v h)) ∙ e);
  left = λ u n. off_value x v u a (λ e. n (inl e));
  right = λ u n. off_value y v u b (λ e. n (inl e));
}

row_same : (s t : State) (a : ℕ) → SameWorld s t → row_of t a ≡ row_of s a
row_same s t a w = ap (λ z. slice_index_or z a []) w.arrays

loads_on : (x y : State) (v : ℕ) (row row' : List Content) (o o' : Option ℕ) (d : Bool) → SameWorld x y → row' ≡ row → ((i : ℕ) → o ≡ Some i → o' ≡ Some i) → Follow (v ∷ []) x y (loaded x v row o d) (loaded y v row' o' d)
loads_on x y v row row' None o' false w e g = tt
loads_on x y v row row' None None true w e g = value x y v None None w (λ n q. q)
loads_on x y v row row' None (Some j) true w e g = value x y v None (slice_index_or row' j None) w (λ n q. none_is q)
loads_on x y v row row' (Some i) None d w e g = none_is (g i refl)
loads_on x y v row row' (Some i) (Some j) d w e g =
    let q = g i refl in
    let ij : j ≡ i = cc in
    value x y v (slice_index_or row i None) (slice_index_or row' j None) w (λ n h. ap (λ z. slice_index_or z j None) e ∙ ap (λ z. slice_index_or row z None) ij ∙ h)

stores : (x y : State) (a : ℕ) (o o' : Option ℕ) (p q : Content) → SameWorld x y → ((i : ℕ) → o ≡ Some i → o' ≡ Some i) → Grows p q → Follow [] x y (stored x a o p) (stored y a o' q)
stores x y a None o' p q w g h = tt
stores x y a (Some i) o' None q w g h = tt
stores x y a (Some i) None (Some n) q w g h = none_is (g i refl)
stores x y a (Some i) (Some j) (Some n) None w g h = none_is (h n refl)
stores x y a (Some i) (Some j) (Some n) (Some m) w g h =
    let e = g i refl in
    let ij : j ≡ i = cc in
    let f = h n refl in
    let nm : m ≡ n = cc in
    record {
      world = record {
        arrays = ap (λ z. slice_set z a (slice_set (slice_index_or z a []) j (Some m))) w.arrays ∙ ap (λ z. slice_set x.arrays a (slice_set (row_of x a) z (Some m))) ij ∙ ap (λ z. slice_set x.arrays a (slice_set (row_of x a) i (Some z))) nm;
        input = w.input;
        out = w.out;
      };
      written = λ v k. absurd k;
      left = λ v k. refl;
      right = λ v k. refl;
    }

takes : (x y : State) (v : ℕ) (ns : List ℤ) → SameWorld x y → Follow (v ∷ []) x y (next_input x v ns) (next_input y v ns)
takes x y v [] w = tt
takes x y v (n ∷ ns) w =
    let b = value x y v (Some n) (Some n) w (λ m e. e) in
    record { world = record { arrays = w.arrays; input = refl; out = w.out }; written = b.written; left = b.left; right = b.right }

shows : (x y : State) (out : List ℕ) (p q : Content) → SameWorld x y → Grows p q → Follow [] x y (printed x out p) (printed y out q)
shows x y out None q w g = tt
shows x y out (Some n) None w g = none_is (g n refl)
shows x y out (Some n) (Some m) w g =
    let e = g n refl in
    let nm : m ≡ n = cc in
    record { world = record { arrays = w.arrays; input = w.input; out = ap (λ z. out ++ signed_decimal z) nm }; written = λ v k. absurd k; left = λ v k. refl; right = λ v k. refl }

pub in_or : (v : ℕ) (vs : List ℕ) → IsIn v vs ⊎ (IsIn v vs → ⊥)
in_or v [] = inr (λ h. h)
in_or v (u ∷ vs) = ⊎_elim (λ e. inl (inl e)) (λ n. ⊎_elim (λ h. inl (inr h)) (λ m. inr (λ h. ⊎_elim n m h)) (in_or v vs)) (cases_eq v u)

pub split_in : (v : ℕ) (xs ys : List ℕ) → IsIn v (xs ++ ys) → IsIn v xs ⊎ IsIn v ys
split_in v [] ys h = inr h
split_in v (x ∷ xs) ys (inl h) = inl (inl h)
split_in v (x ∷ xs) ys (inr h) = ⊎_elim (λ a. inl (inr a)) (λ a. inr a) (split_in v xs ys h)

module _ (setting : Setting) (s t : State) (w : SameWorld s t) where
  abbrev pub Known : List ℕ → Type 0
  Known vs = (v : ℕ) → IsIn v vs → Grows (s.values v) (t.values v)

  operand : (x : Operand) (vs : List ℕ) → Known vs → ((v : ℕ) → IsIn v (value_in x) → IsIn v vs) → Grows (held s x) (held t x)
  operand x vs k h = grows_held s t x (λ v r. k v (h v r))

  cell_same : (a : ℕ) (p : Operand) → Grows (held s p) (held t p) → (i : ℕ) → cell_in (length (row_of s (setting.spot a))) (held s p) ≡ Some i → cell_in (length (row_of t (setting.spot a))) (held t p) ≡ Some i
  cell_same a p g i e = ap (λ z. cell_in (length z) (held t p)) (row_same s t (setting.spot a) w) ∙ cell_from (length (row_of s (setting.spot a))) (held s p) (held t p) i g e

  pub op_follows : (op : Op) (x y : State) → Known (reads op) → SameWorld x y → Follow (writes op) x y (effect setting s op x) (effect setting t op y)
  op_follows (Load v a p d) x y k e = loads_on x y v _ _ _ _ d e (row_same s t (setting.spot a) w) (cell_same a p (operand p (value_in p) k (λ u r. r)))
  op_follows (Store a p z) x y k e = stores x y (setting.spot a) _ _ _ _ e (cell_same a p (operand p (value_in p ++ value_in z) k (λ u r. in_append u (value_in p) (value_in z) (inl r)))) (operand z (value_in p ++ value_in z) k (λ u r. in_append u (value_in p) (value_in z) (inr r)))
  op_follows (Input v) x y k e = subst (λ z. Follow (v ∷ []) x y (next_input x v s.input) (next_input y v z)) (sym w.input) (takes x y v s.input e)
  op_follows (Text n) x y k e = record { world = record { arrays = e.arrays; input = e.input; out = ap (λ z. z ++ text_at setting n) w.out }; written = λ v h. absurd h; left = λ v h. refl; right = λ v h. refl }
  op_follows (Decimal p) x y k e = subst (λ z. Follow [] x y (printed x s.out (held s p)) (printed y z (held t p))) (sym w.out) (shows x y s.out _ _ e (operand p (value_in p) k (λ u r. r)))
  op_follows op x y k e = value x y _ (content setting s op) (content setting t op) e (content_refined setting op s t k (λ r. w.input))

  -- after the first operation the rest
  chain : (us vs : List ℕ) (x y x1 y1 : State) (o p : Option State) → Both us x y x1 y1 → Follow vs x1 y1 o p → Follow (us ++ vs) x y o p
  chain us vs x y x1 y1 None p b f = tt
  chain us vs x y x1 y1 (Some x2) None b f = absurd f
  chain us vs x y x1 y1 (Some x2) (Some y2) b f = record {
    world = f.world;
    written = λ v h. ⊎_elim (λ q. f.written v q) (λ n. ⊎_elim (λ q. (λ m e. f.right v n ∙ b.written v q m (sym (f.left v n) ∙ e))) (λ q. absurd (n q)) (split_in v us vs h)) (in_or v vs);
    left = λ v n. f.left v (λ q. n (in_append v us vs (inr q))) ∙ b.left v (λ q. n (in_append v us vs (inl q)));
    right = λ v n. f.right v (λ q. n (in_append v us vs (inr q))) ∙ b.right v (λ q. n (in_append v us vs (inl q)));
  }

  pub word_follows : (word : List Item) (x y : State) → Known (word_reads word) → SameWorld x y → Follow (word_writes word) x y (word_effect setting s word x) (word_effect setting t word y)
  word_follows [] x y k e = record { world = e; written = λ v h. absurd h; left = λ v n. refl; right = λ v n. refl }
  word_follows (Plain op cluster ∷ is) x y k e =
      by (effect setting s op x) (effect setting t op y) (op_follows op x y (λ v r. k v (in_append v (reads op) (word_reads is) (inl r))) e) (λ x1 y1 b. word_follows is x1 y1 (λ v r. k v (in_append v (reads op) (word_reads is) (inr r))) b.world)
    where
      by : (o p : Option State) → Follow (writes op) x y o p → ((x1 y1 : State) → Both (writes op) x y x1 y1 → Follow (word_writes is) x1 y1 (word_effect setting s is x1) (word_effect setting t is y1)) → Follow (writes op ++ word_writes is) x y (into o (word_effect setting s is)) (into p (word_effect setting t is))
      by None p f go = tt
      by (Some x1) None f go = absurd f
      by (Some x1) (Some y1) f go = chain (writes op) (word_writes is) x y x1 y1 (word_effect setting s is x1) (word_effect setting t is y1) f (go x1 y1 f)
  word_follows (Split p when edge d ∷ is) x y k e = word_follows is x y (λ v r. k v (in_append v (p ∷ []) (word_reads is) (inr r))) e
