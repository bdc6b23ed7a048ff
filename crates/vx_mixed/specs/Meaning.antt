-- What a graph of blocks and regions does from one of its entrances, which is a block's number: until it leaves by an edge,
-- a call, a return or a trap. Once with every write landing at the next word, and once whenever writes land.
use Rattle.std.specs.Prelude.{ℕ, ◌+◌, ◌==◌, Bool, true, false, not, cond, Option, Some, None, List, [], ◌∷◌, ◌++◌, map, drop, slice_get}
use Rattle.vx_base.specs.Flight.{Write, landed_in, flying_in, landing_time}
use Rattle.vx_base.specs.Timed.{Given, Lands, asked_by, delayed}
use Rattle.vx_flow.specs.declared.graph.Op.{Op}
use Rattle.vx_flow.specs.Effects.{Content, State, Setting, is_one, effect, writes}
use Rattle.vx_flow.specs.Meaning.{Hop, Arrives, Wrong, leave, block_hop}
use Rattle.vx_mixed.specs.declared.region.Item.{Item}
use Rattle.vx_mixed.specs.declared.region.Item.TheVariants.{Plain, Split}
use Rattle.vx_mixed.specs.declared.region.Region.{Region}
use Rattle.vx_mixed.specs.declared.region.Node.{Node}
use Rattle.vx_mixed.specs.declared.region.Node.TheVariants.{Unused, Enters, Inner}
use Rattle.vx_mixed.specs.declared.mixed.MixedGraph.{MixedGraph}

-- words

abbrev pub into : Option State → (State → Option State) → Option State
into None f = None
into (Some t) f = f t

-- the operations of a word all read in s
abbrev pub word_effect : Setting → State → List Item → State → Option State
word_effect setting s [] t = Some t
word_effect setting s (Plain op cluster ∷ items) t = into (effect setting s op t) (word_effect setting s items)
word_effect setting s (Split p y e d ∷ items) t = word_effect setting s items t

-- whether a split that leaves with the answer y is taken; None where its test is undefined
abbrev pub leaves_on : Content → Bool → Option Bool
leaves_on None y = None
leaves_on (Some z) y = Some (cond (is_one z) y (not y))

abbrev pub picked : {A : Type 0} → Option Bool → A → A → A → A
picked None unsure out on = unsure
picked (Some true) unsure out on = out
picked (Some false) unsure out on = on

-- how a word is left: on to the next one, or by the first of its splits that is taken
pub data Taken : Type 0 where
  Stays : Taken
  Takes : (from to drain : ℕ) → Taken
  Unsure : Taken

abbrev pub taken : State → List Item → Taken
taken s [] = Stays
taken s (Plain op cluster ∷ items) = taken s items
taken s (Split p y e d ∷ items) = picked (leaves_on (s.values p) y) Unsure (Takes e.from e.to d) (taken s items)

-- every write at once

abbrev pub after_word : Option State → Taken → (State → Hop) → Hop
after_word None way on = Wrong
after_word (Some t) Unsure on = Wrong
after_word (Some t) (Takes from to d) on = Arrives from to t
after_word (Some t) Stays on = on t

-- the words of a region, or its last ones, and then its exit
abbrev pub early_words : Setting → Region → List (List Item) → State → Hop
early_words setting r [] s = leave r.from r.last s
early_words setting r (word ∷ words) s = after_word (word_effect setting s word s) (taken s word) (early_words setting r words)

-- whenever writes land

-- values are told apart by their numbers
abbrev pub is_same : ℕ → ℕ → Bool
is_same u v = u == v

abbrev pub InFlight : Type 0
InFlight = List (Write ℕ Content)

abbrev pub waited : ℕ → State → InFlight → State
waited n s flight = record s { values = landed_in is_same n s.values flight }

-- nothing may be in flight any more after so many cycles
abbrev pub quiet : InFlight → Hop → Hop
quiet [] h = h
quiet (w ∷ ws) h = Wrong

abbrev pub drained : ℕ → State → InFlight → (State → Hop) → Hop
drained n s flight on = quiet (flying_in n flight) (on (waited n s flight))

-- what the operations of a word give to values, where t is the state with all of it
abbrev pub given_by : (Op → ℕ) → State → List Item → List (Given ℕ Content)
given_by latency t [] = []
given_by latency t (Plain op cluster ∷ items) = map (λ v. Lands v (t.values v) (latency op)) (writes op) ++ given_by latency t items
given_by latency t (Split p y e d ∷ items) = given_by latency t items

abbrev pub after_timed : Taken → State → InFlight → (State → InFlight → Hop) → Hop
after_timed Unsure s flight on = Wrong
after_timed (Takes from to d) s flight on = drained (d + 1) s flight (Arrives from to)
after_timed Stays s flight on = on (waited 1 s flight) (flying_in 1 flight)

-- a word is issued: it leaves the values as they are, and its writes in flight
abbrev pub issued : Option State → List ℕ → (Op → ℕ) → State → List Item → (asked : ℕ) → InFlight → (ℕ → State → InFlight → Hop) → Hop
issued None times latency s word asked flight on = Wrong
issued (Some t) times latency s word asked flight on =
    after_timed (taken s word) (record t { values = s.values }) (flight ++ delayed (landing_time times) asked (given_by latency t word)) (on (asked + asked_by (given_by latency t word)))

abbrev pub timed_words : Setting → List ℕ → (Op → ℕ) → Region → List (List Item) → (asked : ℕ) → State → InFlight → Hop
timed_words setting times latency r [] asked s flight = drained r.drain s flight (leave r.from r.last)
timed_words setting times latency r (word ∷ words) asked s flight =
    issued (word_effect setting s word s) times latency s word asked flight (timed_words setting times latency r words)

-- entrances

abbrev pub in_region : (Region → List (List Item) → State → Hop) → (word : ℕ) → Option Region → State → Hop
in_region go w None s = Wrong
in_region go w (Some r) s = go r (drop w r.words) s

abbrev pub node_hop : Setting → (Region → List (List Item) → State → Hop) → MixedGraph → ℕ → Option Node → State → Hop
node_hop setting go m b None s = Wrong
node_hop setting go m b (Some (Unused block)) s = block_hop setting b block.ops block.exit s
node_hop setting go m b (Some (Enters r w)) s = in_region go w (slice_get m.regions r) s
node_hop setting go m b (Some Inner) s = Wrong

abbrev pub early_hop : Setting → MixedGraph → ℕ → State → Hop
early_hop setting m b s = node_hop setting (early_words setting) m b (slice_get m.nodes b) s

abbrev pub timed_from_start : Setting → List ℕ → (Op → ℕ) → Region → List (List Item) → State → Hop
timed_from_start setting times latency r words s = timed_words setting times latency r words 0 s []

abbrev pub hop : Setting → List ℕ → (Op → ℕ) → MixedGraph → ℕ → State → Hop
hop setting times latency m b s = node_hop setting (timed_from_start setting times latency) m b (slice_get m.nodes b) s
