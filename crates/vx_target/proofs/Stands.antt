-- The words of a placed program stand where its target says.
use Rattle.std.proofs.Common.{◌≡◌, ◌<◌, inl, inr, ⊎_elim, ◌+◌, ℕ, zero, suc, Bool, Some, List, [], ◌∷◌, ◌++◌, length, length-append, append_assoc, refl, sym, ap, ◌∙◌, subst, arith}
use Rattle.std.specs.Prelude.{slice_get}
use Rattle.vx_base.specs.declared.outcome.Trap.TheVariants.{Depth as ByDepth}
use Rattle.vx_flow.specs.Effects.{IsIn}
use Rattle.vx_flow.proofs.Members.{in_left, in_right}
use Rattle.vx_isa.specs.declared.operation.Operation.TheVariants.{EndByTrap}
use Rattle.vx_isa.specs.declared.program.Word.{Word}
use Rattle.vx_mixed.specs.declared.layout.Laid.{Laid}
use Rattle.vx_mixed.specs.declared.layout.Laid.TheVariants.{Plain, Split}
use Rattle.vx_mixed.specs.declared.layout.VirtualWord.{VirtualWord}
use Rattle.vx_mixed.specs.declared.layout.VirtualWord.TheVariants.{Planned}
use Rattle.vx_mixed.specs.LaidSettled.{laid_writes}
use Rattle.vx_target.specs.Target.{Target, slotted, one, landing_words, word_words, entry_words, start_words}
use Rattle.vx_target.specs.Placed.{Start, Entry, At, Landing, Depth, Labelled, place_of, PlacedAt, laid_pieces, landing_of, item_landings, word_landings, landing_pieces, function_pieces, functions_pieces, all_pieces, words_of, IsPlaced}
use Rattle.vx_target.proofs.Steps.{Stands}

get_at : (before rest : List Word) (w : Word) → slice_get (before ++ w ∷ rest) (length before) ≡ Some w
get_at [] rest w = refl
get_at (x ∷ before) rest w = get_at before rest w

-- words stand where their piece begins
stands_here : (before ws rest : List Word) → Stands (before ++ (ws ++ rest)) (length before) ws
stands_here before [] rest = tt
stands_here before (w ∷ ws) rest =
    let e : (before ++ (w ∷ [])) ++ (ws ++ rest) ≡ before ++ (w ∷ (ws ++ rest)) = append_assoc before (w ∷ []) (ws ++ rest) in
    let l : length (before ++ (w ∷ [])) ≡ length before + 1 = length-append before (w ∷ []) in
    (get_at before (ws ++ rest) w, subst (λ n. Stands (before ++ (w ∷ (ws ++ rest))) n ws) l (subst (λ z. Stands z (length (before ++ (w ∷ []))) ws) e (stands_here (before ++ (w ∷ [])) ws rest)))

module _ (T : Target) where
  piece_stands : (before : List Word) (xs : List Labelled) (x : Labelled) → PlacedAt T (length before) xs → IsIn x xs → Stands (before ++ words_of xs) (place_of T x.label) x.words
  piece_stands before [] x p i = absurd i
  piece_stands before (y ∷ xs) x p i =
      let l : length before + length y.words ≡ length (before ++ y.words) = sym (length-append before y.words) in
      ⊎_elim
      (λ e. subst (λ z. Stands (before ++ (y.words ++ words_of xs)) (place_of T z.label) z.words) (sym e) (subst (λ n. Stands (before ++ (y.words ++ words_of xs)) n y.words) (sym p.0) (stands_here before y.words (words_of xs))))
      (λ k. subst (λ z. Stands z (place_of T x.label) x.words) (append_assoc before y.words (words_of xs)) (piece_stands (before ++ y.words) xs x (subst (λ n. PlacedAt T n xs) l p.1) k))
      i

  pub at_left : (o : ℕ) (xs ys : List Labelled) → PlacedAt T o (xs ++ ys) → PlacedAt T o xs
  at_left o [] ys p = tt
  at_left o (x ∷ xs) ys p = (p.0, at_left (o + length x.words) xs ys p.1)

  pub at_right : (o : ℕ) (xs ys : List Labelled) → PlacedAt T o (xs ++ ys) → PlacedAt T (o + length (words_of xs)) ys
  at_right o [] ys p = let z : o ≡ o + 0 = omega arith in subst (λ n. PlacedAt T n ys) z p
  at_right o (x ∷ xs) ys p =
      let l : length (x.words ++ words_of xs) ≡ length x.words + length (words_of xs) = length-append x.words (words_of xs) in
      let z : o + length x.words + length (words_of xs) ≡ o + length (x.words ++ words_of xs) = omega arith in
      subst (λ n. PlacedAt T n ys) z (at_right (o + length x.words) xs ys p.1)

  abbrev pub piece_at : ℕ → ℕ → VirtualWord → Labelled
  piece_at f p word = record { label = At f p; words = word_words T f p word }

  pub in_laid : (f p i : ℕ) (words : List VirtualWord) (word : VirtualWord) → slice_get words i ≡ Some word → IsIn (piece_at f (p + i) word) (laid_pieces T f p words)
  in_laid f p i [] word e = absurd (cc)
  in_laid f p zero (x ∷ words) word e = let q : p + 0 ≡ p = omega arith in let s : word ≡ x = cc in inl (ap (λ n. piece_at f n word) q ∙ ap (piece_at f p) s)
  in_laid f p (suc i) (x ∷ words) word e = let q : suc p + i ≡ p + suc i = omega arith in inr (subst (λ n. IsIn (piece_at f n word) (laid_pieces T f (suc p) words)) q (in_laid f (suc p) i words word e))

  laid_first : (f o p : ℕ) (words : List VirtualWord) → PlacedAt T o (laid_pieces T f p words) → T.starts f p ≡ o
  laid_first f o p [] a = a.0
  laid_first f o p (x ∷ words) a = a.0

  laid_next : (f o p i : ℕ) (words : List VirtualWord) (word : VirtualWord) → PlacedAt T o (laid_pieces T f p words) → slice_get words i ≡ Some word → T.starts f (suc (p + i)) ≡ T.starts f (p + i) + length (word_words T f (p + i) word)
  laid_next f o p i [] word a e = absurd (cc)
  laid_next f o p zero (x ∷ words) word a e =
      let s : x ≡ word = cc in
      let q : p + 0 ≡ p = omega arith in
      subst (λ n. T.starts f (suc n) ≡ T.starts f n + length (word_words T f n word)) (sym q)
      (laid_first f (o + length (word_words T f p x)) (suc p) words a.1 ∙ ap (λ n. n + length (word_words T f p x)) (sym a.0) ∙ ap (λ y. T.starts f p + length (word_words T f p y)) s)
  laid_next f o p (suc i) (x ∷ words) word a e =
      let q : suc p + i ≡ p + suc i = omega arith in
      subst (λ n. T.starts f (suc n) ≡ T.starts f n + length (word_words T f n word)) q (laid_next f (o + length (word_words T f p x)) (suc p) i words word a.1 e)

  abbrev pub landing_at : ℕ → ℕ → ℕ → List Laid → Labelled
  landing_at f p q items = record { label = Landing f p q; words = landing_words T f items q }

  in_landing : (f p : ℕ) (items : List Laid) (xs : List ℕ) (q v : ℕ) (vs : List ℕ) → xs ≡ v ∷ vs → IsIn (landing_at f p q items) (landing_of T f p items xs q)
  in_landing f p items xs q v vs e = subst (λ z. IsIn (landing_at f p q items) (landing_of T f p items z q)) (sym e) (inl refl)

  in_items : (f p q test : ℕ) (y : Bool) (items rest : List Laid) (v : ℕ) (vs : List ℕ) → slotted T f (laid_writes items) ≡ v ∷ vs → IsIn (Split test y q) rest → IsIn (landing_at f p q items) (item_landings T f p items rest)
  in_items f p q test y items [] v vs s i = absurd i
  in_items f p q test y items (Plain op k ∷ rest) v vs s i = ⊎_elim (λ e. absurd (cc)) (in_items f p q test y items rest v vs s) i
  in_items f p q test y items (Split t z r ∷ rest) v vs s i = ⊎_elim
      (λ e. let x : q ≡ r = cc in in_left (landing_at f p q items) (landing_of T f p items (slotted T f (laid_writes items)) r) (item_landings T f p items rest) (subst (λ n. IsIn (landing_at f p q items) (landing_of T f p items (slotted T f (laid_writes items)) n)) x (in_landing f p items (slotted T f (laid_writes items)) q v vs s)))
      (λ k. in_right (landing_at f p q items) (landing_of T f p items (slotted T f (laid_writes items)) r) (item_landings T f p items rest) (in_items f p q test y items rest v vs s k))
      i

  pub in_landings : (f p i q test rg wd : ℕ) (y : Bool) (words : List VirtualWord) (items : List Laid) (v : ℕ) (vs : List ℕ) → slice_get words i ≡ Some (Planned rg wd items) → slotted T f (laid_writes items) ≡ v ∷ vs → IsIn (Split test y q) items → IsIn (landing_at f (p + i) q items) (landing_pieces T f p words)
  in_landings f p i q test rg wd y [] items v vs e s m = absurd (cc)
  in_landings f p zero q test rg wd y (x ∷ words) items v vs e s m =
      let k : Planned rg wd items ≡ x = cc in
      let z : p + 0 ≡ p = omega arith in
      subst (λ n. IsIn (landing_at f n q items) (landing_pieces T f p (x ∷ words))) (sym z)
      (in_left (landing_at f p q items) (word_landings T f p x) (landing_pieces T f (suc p) words) (subst (λ w. IsIn (landing_at f p q items) (word_landings T f p w)) k (in_items f p q test y items items v vs s m)))
  in_landings f p (suc i) q test rg wd y (x ∷ words) items v vs e s m =
      let z : suc p + i ≡ p + suc i = omega arith in
      in_right (landing_at f (p + suc i) q items) (word_landings T f p x) (landing_pieces T f (suc p) words) (subst (λ n. IsIn (landing_at f n q items) (landing_pieces T f (suc p) words)) z (in_landings f (suc p) i q test rg wd y words items v vs e s m))

  in_functions : (x : Labelled) (f k n : ℕ) → k < n → IsIn x (function_pieces T (f + k)) → IsIn x (functions_pieces T f n)
  in_functions x f k zero lt i = absurd (omega arith)
  in_functions x f zero (suc n) lt i = let z : f + 0 ≡ f = omega arith in in_left x (function_pieces T f) (functions_pieces T (suc f) n) (subst (λ m. IsIn x (function_pieces T m)) z i)
  in_functions x f (suc k) (suc n) lt i = let z : f + suc k ≡ suc f + k = omega arith in in_right x (function_pieces T f) (functions_pieces T (suc f) n) (in_functions x (suc f) k n (omega arith) (subst (λ m. IsIn x (function_pieces T m)) z i))

  function_at : (o f k n : ℕ) → k < n → PlacedAt T o (functions_pieces T f n) → (m : ℕ) × PlacedAt T m (function_pieces T (f + k))
  function_at o f k zero lt a = absurd (omega arith)
  function_at o f zero (suc n) lt a = let z : f ≡ f + 0 = omega arith in (o, subst (λ m. PlacedAt T o (function_pieces T m)) z (at_left o (function_pieces T f) (functions_pieces T (suc f) n) a))
  function_at o f (suc k) (suc n) lt a =
      let z : suc f + k ≡ f + suc k = omega arith in
      let h = function_at (o + length (words_of (function_pieces T f))) (suc f) k n (omega arith) (at_right o (function_pieces T f) (functions_pieces T (suc f) n) a) in (h.0, subst (λ m. PlacedAt T h.0 (function_pieces T m)) z h.1)

  module _ (main count : ℕ) (words : List Word) (placed : IsPlaced T main count words) where
    all_stands : (x : Labelled) → IsIn x (all_pieces T main count) → Stands words (place_of T x.label) x.words
    all_stands x i = subst (λ ws. Stands ws (place_of T x.label) x.words) (sym placed.is) (piece_stands [] (all_pieces T main count) x placed.places i)

    depth_list : List Labelled
    depth_list = record { label = Depth; words = one (EndByTrap ByDepth) ∷ [] } ∷ []

    pub of_function : (f : ℕ) (x : Labelled) → f < count → IsIn x (function_pieces T f) → IsIn x (all_pieces T main count)
    of_function f x lt i = let z : 0 + f ≡ f = omega arith in
        inr (in_left x (functions_pieces T 0 count) (record { label = Depth; words = one (EndByTrap ByDepth) ∷ [] } ∷ []) (in_functions x 0 f count lt (subst (λ m. IsIn x (function_pieces T m)) (sym z) i)))

    -- the words of a place of a layout
    pub word_stands : (f p : ℕ) (word : VirtualWord) → f < count → slice_get (T.layout f).words p ≡ Some word → Stands words (T.starts f p) (word_words T f p word)
    word_stands f p word lt e =
        let z : 0 + p ≡ p = omega arith in
        all_stands (piece_at f p word) (of_function f (piece_at f p word) lt (inr (in_left (piece_at f p word) (laid_pieces T f 0 (T.layout f).words) (landing_pieces T f 0 (T.layout f).words) (subst (λ n. IsIn (piece_at f n word) (laid_pieces T f 0 (T.layout f).words)) z (in_laid f 0 p (T.layout f).words word e)))))

    pub landing_stands : (f p q test rg wd : ℕ) (y : Bool) (items : List Laid) (v : ℕ) (vs : List ℕ) → f < count → slice_get (T.layout f).words p ≡ Some (Planned rg wd items) → slotted T f (laid_writes items) ≡ v ∷ vs → IsIn (Split test y q) items → Stands words (T.landing f p q) (landing_words T f items q)
    landing_stands f p q test rg wd y items v vs lt e s m =
        let z : 0 + p ≡ p = omega arith in
        all_stands (landing_at f p q items) (of_function f (landing_at f p q items) lt (inr (in_right (landing_at f p q items) (laid_pieces T f 0 (T.layout f).words) (landing_pieces T f 0 (T.layout f).words) (subst (λ n. IsIn (landing_at f n q items) (landing_pieces T f 0 (T.layout f).words)) z (in_landings f 0 p q test rg wd y (T.layout f).words items v vs e s m)))))

    -- the next word stands behind it
    pub word_next : (f p : ℕ) (word : VirtualWord) → f < count → slice_get (T.layout f).words p ≡ Some word → T.starts f (suc p) ≡ T.starts f p + length (word_words T f p word)
    word_next f p word lt e =
        let a = at_left (0 + length (start_words T main)) (functions_pieces T 0 count) (record { label = Depth; words = one (EndByTrap ByDepth) ∷ [] } ∷ []) placed.places.1 in
        let h = function_at (0 + length (start_words T main)) 0 f count lt a in
        let z : 0 + f ≡ f = omega arith in
        let b : PlacedAt T h.0 (function_pieces T f) = subst (λ m. PlacedAt T h.0 (function_pieces T m)) z h.1 in
        let c = at_left (h.0 + length (entry_words T f)) (laid_pieces T f 0 (T.layout f).words) (landing_pieces T f 0 (T.layout f).words) b.1 in
        let y : 0 + p ≡ p = omega arith in
        subst (λ n. T.starts f (suc n) ≡ T.starts f n + length (word_words T f n word)) y (laid_next f (h.0 + length (entry_words T f)) 0 p (T.layout f).words word c e)

    pub entry_stands : (f : ℕ) → f < count → Stands words (T.entry f) (entry_words T f)
    entry_stands f lt = all_stands (record { label = Entry f; words = entry_words T f }) (of_function f (record { label = Entry f; words = entry_words T f }) lt (inl refl))

    -- the words of a layout stand behind the entry
    pub entry_next : (f : ℕ) → f < count → T.starts f 0 ≡ T.entry f + length (entry_words T f)
    entry_next f lt =
        let a = at_left (0 + length (start_words T main)) (functions_pieces T 0 count) (record { label = Depth; words = one (EndByTrap ByDepth) ∷ [] } ∷ []) placed.places.1 in
        let h = function_at (0 + length (start_words T main)) 0 f count lt a in
        let z : 0 + f ≡ f = omega arith in
        let b : PlacedAt T h.0 (function_pieces T f) = subst (λ m. PlacedAt T h.0 (function_pieces T m)) z h.1 in
        let c = at_left (h.0 + length (entry_words T f)) (laid_pieces T f 0 (T.layout f).words) (landing_pieces T f 0 (T.layout f).words) b.1 in
        laid_first f (h.0 + length (entry_words T f)) 0 (T.layout f).words c ∙ ap (λ n. n + length (entry_words T f)) (sym b.0)

    pub start_stands : Stands words 0 (start_words T main)
    start_stands = all_stands (record { label = Start; words = start_words T main }) (inl refl)

    pub depth_stands : Stands words T.depth_trap (one (EndByTrap ByDepth) ∷ [])
    depth_stands = all_stands (record { label = Depth; words = one (EndByTrap ByDepth) ∷ [] }) (inr (in_right (record { label = Depth; words = one (EndByTrap ByDepth) ∷ [] }) (functions_pieces T 0 count) (record { label = Depth; words = one (EndByTrap ByDepth) ∷ [] } ∷ []) (inl refl)))
