-- Words whose splits go to blocks of other names read and write what they did, and a settled region stays settled.
use Rattle.std.proofs.Common.{◌≡◌, ℕ, zero, suc, ◌+◌, ◌≤◌, Some, List, [], ◌∷◌, ◌++◌, length, take, drop, refl, sym, ap, ◌∙◌, subst, inl, inr, map}
use Rattle.std.specs.Prelude.{slice_get}
use Rattle.vx_flow.specs.declared.graph.Op.{Op}
use Rattle.vx_flow.specs.declared.graph.Exit.{Exit}
use Rattle.vx_mixed.specs.declared.region.Item.{Item}
use Rattle.vx_mixed.specs.declared.region.Item.TheVariants.{Plain, Split}
use Rattle.vx_mixed.specs.declared.region.Region.{Region}
use Rattle.vx_flow.specs.Effects.{IsIn}
use Rattle.vx_mixed.specs.Live.{item_reads, item_writes, word_reads, word_writes, ReadsFirst, Untouched}
use Rattle.vx_flow.specs.Live.{reads_of_exit}
use Rattle.vx_mixed.specs.Settled.{NoTwice, InTime, WritesIn, ReadsIn}
use Rattle.vx_mixed.specs.Next.{rename}
use Rattle.vx_mixed.proofs.Renames.{old_word, old_split, old_op}

pub reads_renamed : (to : ℕ → ℕ → ℕ) (word : List Item) → word_reads (map (rename to) word) ≡ word_reads word
reads_renamed to [] = refl
reads_renamed to (Plain op cluster ∷ is) = ap (λ z. item_reads (Plain op cluster) ++ z) (reads_renamed to is)
reads_renamed to (Split p y edge d ∷ is) = ap (λ z. p ∷ z) (reads_renamed to is)

pub writes_renamed : (to : ℕ → ℕ → ℕ) (word : List Item) → word_writes (map (rename to) word) ≡ word_writes word
writes_renamed to [] = refl
writes_renamed to (Plain op cluster ∷ is) = ap (λ z. item_writes (Plain op cluster) ++ z) (writes_renamed to is)
writes_renamed to (Split p y edge d ∷ is) = writes_renamed to is

pub reads_first_renamed : (to : ℕ → ℕ → ℕ) (ws : List (List Item)) (x x' : Exit) (v : ℕ) → reads_of_exit x' ≡ reads_of_exit x → ReadsFirst (map (map (rename to)) ws) x' v → ReadsFirst ws x v
reads_first_renamed to [] x x' v e h = subst (λ z. IsIn v z) e h
reads_first_renamed to (w ∷ ws) x x' v e (inl h) = inl (subst (λ z. IsIn v z) (reads_renamed to w) h)
reads_first_renamed to (w ∷ ws) x x' v e (inr h) = inr ((λ q. h.0 (subst (λ z. IsIn v z) (sym (writes_renamed to w)) q)), reads_first_renamed to ws x x' v e h.1)

pub reads_first_exit : (ws : List (List Item)) (x x' : Exit) (v : ℕ) → reads_of_exit x' ≡ reads_of_exit x → ReadsFirst ws x' v → ReadsFirst ws x v
reads_first_exit [] x x' v e h = subst (λ z. IsIn v z) e h
reads_first_exit (w ∷ ws) x x' v e (inl h) = inl h
reads_first_exit (w ∷ ws) x x' v e (inr h) = inr (h.0, reads_first_exit ws x x' v e h.1)

pub untouched_renamed : (to : ℕ → ℕ → ℕ) (ws : List (List Item)) (v : ℕ) → Untouched (map (map (rename to)) ws) v → Untouched ws v
untouched_renamed to [] v h = tt
untouched_renamed to (w ∷ ws) v h = ((λ q. h.0 (subst (λ z. IsIn v z) (sym (writes_renamed to w)) q)), untouched_renamed to ws v h.1)

pub drop_map : (f : List Item → List Item) (ws : List (List Item)) (w : ℕ) → drop w (map f ws) ≡ map f (drop w ws)
drop_map f ws zero = refl
drop_map f [] (suc w) = refl
drop_map f (x ∷ ws) (suc w) = drop_map f ws w

pub take_map : (f : List Item → List Item) (ws : List (List Item)) (w : ℕ) → take w (map f ws) ≡ map f (take w ws)
take_map f ws zero = refl
take_map f [] (suc w) = refl
take_map f (x ∷ ws) (suc w) = ap (λ z. f x ∷ z) (take_map f ws w)

length_renamed : (f : List Item → List Item) (ws : List (List Item)) → length (map f ws) ≡ length ws
length_renamed f [] = refl
length_renamed f (x ∷ ws) = ap suc (length_renamed f ws)

-- a settled region stays settled
module _ (latency : Op → ℕ) (g g' : Region) (to : ℕ → ℕ → ℕ) (words : g'.words ≡ map (map (rename to)) g.words) (drain : g'.drain ≡ g.drain) (settled : InTime latency g) where
  word_of : (i : ℕ) (wd : List Item) → slice_get g'.words i ≡ Some wd → (o : List Item) × (slice_get g.words i ≡ Some o) × (wd ≡ map (rename to) o)
  word_of i wd e = old_word (map (rename to)) g.words i wd (ap (λ z. slice_get z i) (sym words) ∙ e)

  writes_of : (i v l : ℕ) → WritesIn latency g'.words i v l → WritesIn latency g.words i v l
  writes_of i v l w = let o = word_of i w.0 w.3 in (o.0, w.1, w.2, o.1, old_op to o.0 w.1 w.2 (subst (λ z. IsIn (Plain w.1 w.2) z) o.2 w.4), w.5, w.6)

  reads_of : (j v : ℕ) → ReadsIn g'.words j v → ReadsIn g.words j v
  reads_of j v r = let o = word_of j r.0 r.1 in (o.0, o.1, subst (λ z. IsIn v z) (ap (λ z. word_reads z) o.2 ∙ reads_renamed to o.0) r.2)

  pub settled_renamed : InTime latency g'
  settled_renamed = record {
    once = λ i wd e. let o = word_of i wd e in subst NoTwice (sym (ap (λ z. word_writes z) o.2 ∙ writes_renamed to o.0)) (settled.once i o.0 o.1);
    reads = λ i j v l lt w r. settled.reads i j v l lt (writes_of i v l w) (reads_of j v r);
    writes = λ i j v l k lt w u. settled.writes i j v l k lt (writes_of i v l w) (writes_of j v k u);
    splits = λ i j v l p d edge y wd le w e h.
        let o = word_of j wd e in
        let s = old_split to o.0 p d edge y (subst (λ z. IsIn (Split p y edge d) z) o.2 h) in
        settled.splits i j v l p d s.0 y o.0 le (writes_of i v l w) o.1 s.1;
    last = λ i v l w. subst (λ z. i + l ≤ z) (ap (λ z. z + g.drain) (sym (ap length words ∙ length_renamed (map (rename to)) g.words)) ∙ ap (λ z. length g'.words + z) (sym drain)) (settled.last i v l (writes_of i v l w));
  }
