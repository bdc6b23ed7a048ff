-- What the words of a region, or the copies of a made block, read first or leave untouched.
use Rattle.std.proofs.Common.{◌≡◌, ℕ, zero, suc, ◌+◌, ◌<◌, ◌≤◌, Bool, true, false, List, [], ◌∷◌, ◌++◌, cond, length, take, refl, sym, ap, ◌∙◌, subst, ⊎_elim, inl, inr, arith, map, flat_map}
use Rattle.std.specs.Prelude.{◌⊎◌}
use Rattle.std.proofs.lemmas.Bool.{cases_eq}
use Rattle.vx_flow.specs.Effects.{reads, writes, IsIn}
use Rattle.vx_flow.specs.declared.graph.Exit.{Exit}
use Rattle.vx_mixed.specs.declared.region.Item.{Item}
use Rattle.vx_mixed.specs.declared.region.Item.TheVariants.{Plain, Split}
use Rattle.vx_mixed.specs.Live.{item_reads, item_writes, word_reads, word_writes, ReadsFirst, Untouched, single}
use Rattle.vx_flow.specs.Live.{reads_of_exit}
use Rattle.vx_motion.specs.Items.{Marked}
use Rattle.vx_motion.specs.Trace.{nth}
use Rattle.vx_motion.specs.Facts.{places, row, words_from, ops_of, copies}
use Rattle.vx_mixed.proofs.Contents.{in_append}
use Rattle.vx_motion.proofs.Times.{in_places, to_places}
use Rattle.vx_motion.proofs.Waits.{of_flat, reads_same, writes_same}
use Rattle.vx_mixed.proofs.Alive.{in_whole}

to_flat : (f : Item → List ℕ) (mark : ℕ → Item) (ks : List ℕ) (k v : ℕ) → IsIn k ks → IsIn v (f (mark k)) → IsIn v (flat_map f (map mark ks))
to_flat f mark [] k v h w = absurd h
to_flat f mark (j ∷ ks) k v (inl e) w = in_append v (f (mark j)) (flat_map f (map mark ks)) (inl (subst (λ z. IsIn v (f (mark z))) e w))
to_flat f mark (j ∷ ks) k v (inr h) w = in_append v (f (mark j)) (flat_map f (map mark ks)) (inr (to_flat f mark ks k v h w))

pub take_words : (f : ℕ → List Item) (n m w : ℕ) → take n (words_from f w (n + m)) ≡ words_from f w n
take_words f zero m w = refl
take_words f (suc n) m w = let x : suc n + m ≡ suc (n + m) = omega arith in ap (λ z. take (suc n) (words_from f w z)) x ∙ ap (λ z. f w ∷ z) (take_words f n m (suc w))

module _ (is : List Item) (word : ℕ → ℕ) (mark : ℕ → Item) (marked : (k : ℕ) → Marked (nth is k) (mark k)) where
  abbrev N : ℕ
  N = length is

  abbrev pub Reads : ℕ → ℕ → Type 0
  Reads k v = IsIn v (item_reads (nth is k))

  abbrev pub Writes : ℕ → ℕ → Type 0
  Writes k v = IsIn v (item_writes (nth is k))

  -- no item of the words from w up to z writes v
  abbrev pub NoWriter : ℕ → ℕ → ℕ → Type 0
  NoWriter w z v = (i : ℕ) → i < N → w ≤ word i → word i < z → Writes i v → ⊥

  reader : (w v : ℕ) → IsIn v (word_reads (row word mark 0 N w)) → (k : ℕ) × (word k ≡ w) × (k < N) × Reads k v
  reader w v h =
      let r = of_flat item_reads mark (places word w 0 N) v h in
      let p = in_places word w 0 N r.0 r.1 in
      (r.0, p.0, (let q = p.1 in omega arith), subst (λ z. IsIn v z) (reads_same (nth is r.0) (mark r.0) (marked r.0)) r.2)

  writer : (w v i : ℕ) → i < N → word i ≡ w → Writes i v → IsIn v (word_writes (row word mark 0 N w))
  writer w v i lt e h = to_flat item_writes mark (places word w 0 N) i v (to_places word w 0 N i e (omega arith) (omega arith)) (subst (λ z. IsIn v z) (sym (writes_same (nth is i) (mark i) (marked i))) h)

  pub first_in_words : (n w : ℕ) (x : Exit) (v : ℕ) → ReadsFirst (words_from (row word mark 0 N) w n) x v → ((k : ℕ) × (k < N) × (w ≤ word k) × (word k < w + n) × Reads k v × NoWriter w (word k) v) ⊎ (NoWriter w (w + n) v × IsIn v (reads_of_exit x))
  first_in_words zero w x v h = inr ((λ i lt a b wr. absurd (omega arith)), h)
  first_in_words (suc n) w x v (inl h) = let r = reader w v h in let e = r.1 in inl (r.0, r.2, omega arith, omega arith, r.3, (λ i lt a b wr. absurd (omega arith)))
  first_in_words (suc n) w x v (inr (none, rest)) =
      ⊎_elim
      (λ a. let lo = a.2 in let hi = a.3 in inl (a.0, a.1, omega arith, omega arith, a.4, (λ i lt b c wr. ⊎_elim (λ e. none (writer w v i lt (sym e) wr)) (λ n. a.5 i lt (let n' = n in omega arith) c wr) (cases_eq w (word i)))))
      (λ a. inr ((λ i lt b c wr. ⊎_elim (λ e. none (writer w v i lt (sym e) wr)) (λ n. a.0 i lt (let n' = n in omega arith) (omega arith) wr) (cases_eq w (word i))), a.1))
      (first_in_words n (suc w) x v rest)

  pub untouched_words : (n w v : ℕ) → Untouched (words_from (row word mark 0 N) w n) v → NoWriter w (w + n) v
  untouched_words zero w v h i lt a b wr = absurd (omega arith)
  untouched_words (suc n) w v h i lt a b wr =
      ⊎_elim (λ e. h.0 (writer w v i lt (sym e) wr)) (λ n'. untouched_words n (suc w) v h.1 i lt (let q = n' in omega arith) (omega arith) wr) (cases_eq w (word i))

-- copies
module _ (chosen : ℕ → Bool) (put : ℕ → Item) where
  abbrev pub NoCopy : ℕ → ℕ → ℕ → Type 0
  NoCopy k z v = (i : ℕ) → k ≤ i → i < z → chosen i ≡ true → IsIn v (item_writes (put i)) → ⊥

  pub none_copied : (m k : ℕ) → copies chosen put k m ≡ [] → (v : ℕ) → NoCopy k (k + m) v
  none_copied zero k e v i a b c w = absurd (omega arith)
  none_copied (suc m) k e v i a b c w =
      let here_ = λ (q : i ≡ k). one (chosen k) (put k) (ap chosen (sym q) ∙ c) (subst (λ z. IsIn v (item_writes (put z))) q w) e in
      ⊎_elim here_ (λ n. none_copied m (suc k) (rest (chosen k) (put k) e) v i (let n' = n in omega arith) (omega arith) c w) (cases_eq i k)
    where
      one : (b : Bool) (p : Item) → b ≡ true → IsIn v (item_writes p) → cond b (ops_of p) [] ++ copies chosen put (suc k) m ≡ [] → ⊥
      one true (Plain op cluster) f h g = cc
      one true (Split p u edge d) f h g = h
      one false p f h g = cc

      rest : (b : Bool) (p : Item) → cond b (ops_of p) [] ++ copies chosen put (suc k) m ≡ [] → copies chosen put (suc k) m ≡ []
      rest true (Plain op cluster) g = absurd (cc)
      rest true (Split p u edge d) g = g
      rest false p g = g

  pub first_in_copies : (m k : ℕ) (x : Exit) (v : ℕ) → ReadsFirst (map single (copies chosen put k m)) x v → ((j : ℕ) × (k ≤ j) × (j < k + m) × (chosen j ≡ true) × IsIn v (item_reads (put j)) × NoCopy k j v) ⊎ (NoCopy k (k + m) v × IsIn v (reads_of_exit x))
  first_in_copies zero k x v h = inr ((λ i a b c w. absurd (omega arith)), h)
  first_in_copies (suc m) k x v h = by (chosen k) (put k) refl refl h (λ g. first_in_copies m (suc k) x v g)
    where
      skip : (chosen k ≡ true → IsIn v (item_writes (put k)) → ⊥) → ((j : ℕ) × (suc k ≤ j) × (j < suc k + m) × (chosen j ≡ true) × IsIn v (item_reads (put j)) × NoCopy (suc k) j v) ⊎ (NoCopy (suc k) (suc k + m) v × IsIn v (reads_of_exit x)) → ((j : ℕ) × (k ≤ j) × (j < k + suc m) × (chosen j ≡ true) × IsIn v (item_reads (put j)) × NoCopy k j v) ⊎ (NoCopy k (k + suc m) v × IsIn v (reads_of_exit x))
      skip none r =
          ⊎_elim
          (λ a. let lo = a.1 in let hi = a.2 in inl (a.0, omega arith, omega arith, a.3, a.4, (λ i b c d w. ⊎_elim (λ q. none (ap chosen (sym q) ∙ d) (subst (λ z. IsIn v (item_writes (put z))) q w)) (λ n. a.5 i (let n' = n in omega arith) c d w) (cases_eq i k))))
          (λ a. inr ((λ i b c d w. ⊎_elim (λ q. none (ap chosen (sym q) ∙ d) (subst (λ z. IsIn v (item_writes (put z))) q w)) (λ n. a.0 i (let n' = n in omega arith) (omega arith) d w) (cases_eq i k)), a.1))
          r

      by : (b : Bool) (p : Item) → chosen k ≡ b → put k ≡ p → ReadsFirst (map single (cond b (ops_of p) [] ++ copies chosen put (suc k) m)) x v → (ReadsFirst (map single (copies chosen put (suc k) m)) x v → ((j : ℕ) × (suc k ≤ j) × (j < suc k + m) × (chosen j ≡ true) × IsIn v (item_reads (put j)) × NoCopy (suc k) j v) ⊎ (NoCopy (suc k) (suc k + m) v × IsIn v (reads_of_exit x))) → ((j : ℕ) × (k ≤ j) × (j < k + suc m) × (chosen j ≡ true) × IsIn v (item_reads (put j)) × NoCopy k j v) ⊎ (NoCopy k (k + suc m) v × IsIn v (reads_of_exit x))
      by true (Plain op cluster) ec ep (inl h) go = inl (k, omega arith, omega arith, ec, subst (λ z. IsIn v (item_reads z)) (sym ep) (in_whole v (reads op) h), (λ i a b c w. absurd (omega arith)))
      by true (Plain op cluster) ec ep (inr h) go = skip (λ c w. h.0 (in_append v (writes op) [] (inl (subst (λ z. IsIn v (item_writes z)) ep w)))) (go h.1)
      by true (Split p u edge d) ec ep h go = skip (λ c w. subst (λ z. IsIn v (item_writes z)) ep w) (go h)
      by false p ec ep h go = skip (λ c w. let q : true ≡ false = sym c ∙ ec in cc) (go h)

  pub untouched_copies : (m k v : ℕ) → Untouched (map single (copies chosen put k m)) v → NoCopy k (k + m) v
  untouched_copies zero k v h i a b c w = absurd (omega arith)
  untouched_copies (suc m) k v h i a b c w =
      ⊎_elim
      (λ q. (by (chosen k) (put k) refl refl h).0 (ap chosen (sym q) ∙ c) (subst (λ z. IsIn v (item_writes (put z))) q w))
      (λ n. untouched_copies m (suc k) v (by (chosen k) (put k) refl refl h).1 i (let n' = n in omega arith) (omega arith) c w)
      (cases_eq i k)
    where
      by : (b : Bool) (p : Item) → chosen k ≡ b → put k ≡ p → Untouched (map single (cond b (ops_of p) [] ++ copies chosen put (suc k) m)) v → (chosen k ≡ true → IsIn v (item_writes (put k)) → ⊥) × Untouched (map single (copies chosen put (suc k) m)) v
      by true (Plain op cluster) ec ep h = ((λ c w. h.0 (in_append v (writes op) [] (inl (subst (λ z. IsIn v (item_writes z)) ep w)))), h.1)
      by true (Split p u edge d) ec ep h = ((λ c w. subst (λ z. IsIn v (item_writes z)) ep w), h)
      by false p ec ep h = ((λ c w. let q : true ≡ false = sym c ∙ ec in cc), h)
