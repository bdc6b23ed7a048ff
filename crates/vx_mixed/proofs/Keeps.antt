-- A hop only adds to the output, and leaves as many arrays as there were.
use Rattle.std.proofs.Common.{◌≡◌, ℕ, ◌+◌, ℤ, Bool, true, false, Option, Some, None, List, [], ◌∷◌, ◌++◌, length, slice_get, drop, map, refl, ◌∙◌}
use Rattle.std.specs.Prelude.{if◌then◌else◌}
use Rattle.std.specs.Fmt.{signed_decimal}
use Rattle.vx_base.specs.Flight.{flying_in, landing_time}
use Rattle.vx_base.specs.Timed.{asked_by, delayed}
use Rattle.vx_base.specs.Outcome.{Begins}
use Rattle.vx_base.proofs.Same.{begins_self, begins_on}
use Rattle.vx_flow.specs.declared.graph.Op.{Op}
use Rattle.vx_flow.specs.declared.graph.Op.TheVariants.{Load, Store, Input, Text, Decimal}
use Rattle.vx_flow.specs.declared.graph.Exit.{Exit}
use Rattle.vx_flow.specs.declared.graph.Exit.TheVariants.{Goto, Split as Branch, Call, Return, Ends}
use Rattle.vx_flow.specs.Effects.{Content, State, Setting, effect, is_one, loaded, stored, next_input, printed, held, cell_of, row_of, text_at}
use Rattle.vx_flow.specs.Meaning.{Hop, Arrives, Calls, Leaves, Stops, Wrong, by_test, calls, leaves, leave, known, and_then, block_hop}
use Rattle.vx_mixed.specs.declared.region.Item.{Item}
use Rattle.vx_mixed.specs.declared.region.Item.TheVariants.{Plain, Split}
use Rattle.vx_mixed.specs.declared.region.Region.{Region}
use Rattle.vx_mixed.specs.declared.region.Node.{Node}
use Rattle.vx_mixed.specs.declared.region.Node.TheVariants.{Unused, Enters, Inner}
use Rattle.vx_mixed.specs.declared.mixed.MixedGraph.{MixedGraph}
use Rattle.vx_mixed.specs.Meaning.{into, word_effect, Taken, Stays, Takes, Unsure, taken, InFlight, waited, quiet, given_by, after_timed, issued, timed_words, timed_from_start, in_region, node_hop, hop}
use Rattle.vx_mixed.proofs.Shape.{Kept, effect_kept, word_kept}

abbrev pub Grown : List ℕ → Option State → Type 0
Grown xs None = Unit {0}
Grown xs (Some t) = Begins xs t.out

-- so much output is there, and so many arrays
abbrev pub Good : List ℕ → ℕ → State → Type 0
Good xs n t = Begins xs t.out × (length t.arrays ≡ n)

abbrev pub GoodOr : List ℕ → ℕ → Option State → Type 0
GoodOr xs n None = Unit {0}
GoodOr xs n (Some t) = Good xs n t

abbrev pub HopGood : List ℕ → ℕ → Hop → Type 0
HopGood xs n (Arrives from to t) = Good xs n t
HopGood xs n (Calls g arguments result from next t) = Good xs n t
HopGood xs n (Leaves r t) = Good xs n t
HopGood xs n (Stops k t) = Good xs n t
HopGood xs n Wrong = Unit {0}

module _ (xs : List ℕ) (n : ℕ) where
  loaded_grows : (t : State) (v : ℕ) (row : List Content) (i : Option ℕ) (d : Bool) → Begins xs t.out → Grown xs (loaded t v row i d)
  loaded_grows t v row None true h = h
  loaded_grows t v row None false h = tt
  loaded_grows t v row (Some i) d h = h

  stored_grows : (t : State) (a : ℕ) (i : Option ℕ) (x : Content) → Begins xs t.out → Grown xs (stored t a i x)
  stored_grows t a None x h = tt
  stored_grows t a (Some i) None h = tt
  stored_grows t a (Some i) (Some m) h = h

  input_grows : (t : State) (v : ℕ) (ns : List ℤ) → Begins xs t.out → Grown xs (next_input t v ns)
  input_grows t v [] h = tt
  input_grows t v (m ∷ ns) h = h

  printed_grows : (s t : State) (x : Content) → Begins xs s.out → Grown xs (printed t s.out x)
  printed_grows s t None h = tt
  printed_grows s t (Some m) h = begins_on xs s.out _ h (record { rest = signed_decimal m; is = refl })

  effect_grows : (setting : Setting) (s : State) (op : Op) (t : State) → Begins xs s.out → Begins xs t.out → Grown xs (effect setting s op t)
  effect_grows setting s (Load v a p d) t k h = loaded_grows t v (row_of s (setting.spot a)) (cell_of setting s a p) d h
  effect_grows setting s (Store a p x) t k h = stored_grows t (setting.spot a) (cell_of setting s a p) (held s x) h
  effect_grows setting s (Input v) t k h = input_grows t v s.input h
  effect_grows setting s (Text m) t k h = begins_on xs s.out _ k (record { rest = text_at setting m; is = refl })
  effect_grows setting s (Decimal x) t k h = printed_grows s t (held s x) k
  effect_grows setting s op t k h = h

  pub both_parts : (t : State) (o : Option State) → Grown xs o → Kept t o → length t.arrays ≡ n → GoodOr xs n o
  both_parts t None g k e = tt
  both_parts t (Some u) g k e = (g, k.arrays ∙ e)

  pub test_good : (x : Content) (a b : Hop) → HopGood xs n a → HopGood xs n b → HopGood xs n (by_test x a b)
  test_good None a b h k = tt
  test_good (Some z) a b h k = by (is_one z)
    where
      by : (c : Bool) → HopGood xs n (if c then a else b)
      by true = h
      by false = k

  pub calls_good : (g : ℕ) (ns : Option (List ℤ)) (result : Option ℕ) (from to : ℕ) (s : State) → Good xs n s → HopGood xs n (calls g ns result from to s)
  calls_good g None result from to s h = tt
  calls_good g (Some ns) result from to s h = h

  pub leaves_good : (x : Content) (s : State) → Good xs n s → HopGood xs n (leaves x s)
  leaves_good None s h = tt
  leaves_good (Some r) s h = h

  leave_good : (b : ℕ) (x : Exit) (s : State) → Good xs n s → HopGood xs n (leave b x s)
  leave_good b (Goto c) s h = h
  leave_good b (Branch p c d) s h = test_good (s.values p) (Arrives b c s) (Arrives b d s) h h
  leave_good b (Call g arguments result next) s h = calls_good g (known (map (held s) arguments)) result b next s h
  leave_good b (Return x) s h = leaves_good (held s x) s h
  leave_good b (Ends k) s h = h

  pub then_good : (o : Option State) (f : State → Hop) → GoodOr xs n o → ((t : State) → Good xs n t → HopGood xs n (f t)) → HopGood xs n (and_then o f)
  then_good None f h k = tt
  then_good (Some t) f h k = k t h

  block_good : (setting : Setting) (b : ℕ) (ops : List Op) (x : Exit) (s : State) → Good xs n s → HopGood xs n (block_hop setting b ops x s)
  block_good setting b [] x s h = leave_good b x s h
  block_good setting b (op ∷ ops) x s h =
      then_good (effect setting s op s) (block_hop setting b ops x) (both_parts s (effect setting s op s) (effect_grows setting s op s h.0 h.0) (effect_kept setting s s op) h.1) (block_good setting b ops x)

  into_grows : (o : Option State) (f : State → Option State) → Grown xs o → ((t : State) → Begins xs t.out → Grown xs (f t)) → Grown xs (into o f)
  into_grows None f h k = tt
  into_grows (Some t) f h k = k t h

  pub word_grows : (setting : Setting) (s : State) (items : List Item) (t : State) → Begins xs s.out → Begins xs t.out → Grown xs (word_effect setting s items t)
  word_grows setting s [] t k h = h
  word_grows setting s (Plain op cluster ∷ items) t k h = into_grows (effect setting s op t) (word_effect setting s items) (effect_grows setting s op t k h) (λ u. word_grows setting s items u k)
  word_grows setting s (Split p y edge d ∷ items) t k h = word_grows setting s items t k h

  quiet_good : (ws : InFlight) (h : Hop) → HopGood xs n h → HopGood xs n (quiet ws h)
  quiet_good [] h k = k
  quiet_good (w ∷ ws) h k = tt

  after_good : (way : Taken) (t : State) (ws : InFlight) (on : State → InFlight → Hop) → Good xs n t → ((u : State) (vs : InFlight) → Good xs n u → HopGood xs n (on u vs)) → HopGood xs n (after_timed way t ws on)
  after_good Unsure t ws on h k = tt
  after_good (Takes b c d) t ws on h k = quiet_good (flying_in (d + 1) ws) (Arrives b c (waited (d + 1) t ws)) h
  after_good Stays t ws on h k = k (waited 1 t ws) (flying_in 1 ws) h

  issued_good : (o : Option State) (times : List ℕ) (latency : Op → ℕ) (s : State) (word : List Item) (asked : ℕ) (ws : InFlight) (on : ℕ → State → InFlight → Hop) → GoodOr xs n o → ((more : ℕ) (u : State) (vs : InFlight) → Good xs n u → HopGood xs n (on more u vs)) → HopGood xs n (issued o times latency s word asked ws on)
  issued_good None times latency s word asked ws on h k = tt
  issued_good (Some t) times latency s word asked ws on h k =
      after_good (taken s word) (record t { values = s.values }) (ws ++ delayed (landing_time times) asked (given_by latency t word)) (on (asked + asked_by (given_by latency t word))) h (k (asked + asked_by (given_by latency t word)))

  timed_good : (setting : Setting) (times : List ℕ) (latency : Op → ℕ) (r : Region) (words : List (List Item)) (asked : ℕ) (s : State) (ws : InFlight) → Good xs n s → HopGood xs n (timed_words setting times latency r words asked s ws)
  timed_good setting times latency r [] asked s ws h = quiet_good (flying_in r.drain ws) (leave r.from r.last (waited r.drain s ws)) (leave_good r.from r.last (waited r.drain s ws) h)
  timed_good setting times latency r (word ∷ words) asked s ws h =
      issued_good (word_effect setting s word s) times latency s word asked ws (timed_words setting times latency r words)
      (both_parts s (word_effect setting s word s) (word_grows setting s word s h.0 h.0) (word_kept setting s s word) h.1)
      (λ more u vs k. timed_good setting times latency r words more u vs k)

  region_good : (setting : Setting) (times : List ℕ) (latency : Op → ℕ) (w : ℕ) (r : Option Region) (s : State) → Good xs n s → HopGood xs n (in_region (timed_from_start setting times latency) w r s)
  region_good setting times latency w None s h = tt
  region_good setting times latency w (Some r) s h = timed_good setting times latency r (drop w r.words) 0 s [] h

  node_good : (setting : Setting) (times : List ℕ) (latency : Op → ℕ) (m : MixedGraph) (b : ℕ) (o : Option Node) (s : State) → Good xs n s → HopGood xs n (node_hop setting (timed_from_start setting times latency) m b o s)
  node_good setting times latency m b None s h = tt
  node_good setting times latency m b (Some (Unused k)) s h = block_good setting b k.ops k.exit s h
  node_good setting times latency m b (Some (Enters r w)) s h = region_good setting times latency w (slice_get m.regions r) s h
  node_good setting times latency m b (Some Inner) s h = tt

pub hop_good : (setting : Setting) (times : List ℕ) (latency : Op → ℕ) (m : MixedGraph) (b : ℕ) (s : State) → HopGood s.out (length s.arrays) (hop setting times latency m b s)
hop_good setting times latency m b s = node_good s.out (length s.arrays) setting times latency m b (slice_get m.nodes b) s (begins_self s.out, refl)
