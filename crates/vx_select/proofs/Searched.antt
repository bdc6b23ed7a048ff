-- The first diamond, looked for block by block, is the one with the lowest block.
use Rattle.std.proofs.Common.{◌≡◌, ◌⊎◌, inl, inr, ℕ, zero, suc, ◌+◌, ◌≤◌, ◌==◌, ◌||◌, Bool, true, false, cond, List, [], ◌∷◌, ◌++◌, length, slice_get, Option, Some, None, refl, sym, ap, subst, ◌∙◌, eq-eqb, arith}
use Rattle.std.specs.List.{list_all}
use Rattle.std.proofs.lemmas.Bool.{and_parts, false≢true, eqb-true, leb-true, le-leb}
use Rattle.std.specs.Cmp.Derive.{both_true}
use Rattle.vx_flow.specs.declared.graph.Op.{Op}
use Rattle.vx_flow.specs.declared.graph.Exit.{Exit}
use Rattle.vx_flow.specs.declared.graph.Exit.TheVariants.{Goto, Split, Call, Return, Ends}
use Rattle.vx_flow.specs.declared.graph.Block.{Block}
use Rattle.vx_flow.specs.declared.graph.Graph.{Graph}
use Rattle.vx_flow.specs.Effects.{IsIn}
use Rattle.vx_flow.specs.Sound.{targets_of}
use Rattle.vx_flow.proofs.SoundLists.{differs, differs_of, all_in, all_of, or_parts}
use Rattle.vx_select.specs.Selected.{Diamond, stays, left_values, right_values, free_values, both_sides, IsDiamond}
use Rattle.vx_select.specs.Search.{are_alone, is_good, if_good, by_goals, by_sides, by_exit, diamond_at, or_else, first_from, first_diamond, IsFirst}
use Rattle.vx_select.specs.Laws.{FirstIsFirst}

none_not_some : {A : Type 0} (x : A) → Option.None ≡ Some x → ⊥
none_not_some x e = cc

some_is : {A : Type 0} (x y : A) → Option.Some x ≡ Some y → x ≡ y
some_is x y e = cc

-- ---- no other block leads to a side

alone_is : (d : Diamond) (b : ℕ) (blocks : List Block) → are_alone d b blocks ≡ true → (i c : ℕ) (block : Block) → slice_get blocks i ≡ Some block → IsIn c (targets_of block.exit) → stays d c ≡ false → b + i ≡ d.block
alone_is d b [] h i c block e m s = absurd (cc)
alone_is d b (x ∷ xs) h zero c block e m s =
    let (one, rest) = and_parts ((b == d.block) || list_all (stays d) (targets_of x.exit)) (are_alone d (suc b) xs) h in
    let q : x ≡ block = some_is x block e in
    by (or_parts (b == d.block) (list_all (stays d) (targets_of x.exit)) one) (subst (λ (k : Block). IsIn c (targets_of k.exit)) (sym q) m)
  where
    by : ((b == d.block) ≡ true) ⊎ (list_all (stays d) (targets_of x.exit) ≡ true) → IsIn c (targets_of x.exit) → b + 0 ≡ d.block
    by (inl t) n = let q : b ≡ d.block = eqb-true b d.block t in omega arith
    by (inr t) n = absurd (false≢true (sym s ∙ all_in (stays d) (targets_of x.exit) c t n))
alone_is d b (x ∷ xs) h (suc i) c block e m s =
    let (one, rest) = and_parts ((b == d.block) || list_all (stays d) (targets_of x.exit)) (are_alone d (suc b) xs) h in
    let r = alone_is d (suc b) xs rest i c block e m s in
    omega arith

alone_of : (d : Diamond) (b : ℕ) (blocks : List Block) → ((i c : ℕ) (block : Block) → slice_get blocks i ≡ Some block → IsIn c (targets_of block.exit) → stays d c ≡ false → b + i ≡ d.block) → are_alone d b blocks ≡ true
alone_of d b [] f = refl
alone_of d b (x ∷ xs) f = both_true (by (b == d.block) refl) (alone_of d (suc b) xs (λ i c block e m s. let r = f (suc i) c block e m s in omega arith))
  where
    stay : (b ≡ d.block → ⊥) → (c : ℕ) → IsIn c (targets_of x.exit) → stays d c ≡ true
    stay n c m = at (stays d c) refl
      where
        at : (t : Bool) → stays d c ≡ t → t ≡ true
        at true s = refl
        at false s = let r : b + 0 ≡ d.block = f 0 c x refl m s in absurd (n (omega arith))

    by : (t : Bool) → (b == d.block) ≡ t → (t || list_all (stays d) (targets_of x.exit)) ≡ true
    by true q = refl
    by false q = all_of (stays d) (targets_of x.exit) (stay (λ e. false≢true (sym q ∙ eq-eqb b d.block e)))

-- ---- the form

record Formed (live : ℕ → ℕ → Bool) (most : ℕ) (g : Graph) (b : ℕ) (block : Block) (d : Diamond) : Type 0 where
  splits : block ≡ record { ops = d.before; exit = Split d.test d.yes d.no }
  at_yes : slice_get g.blocks d.yes ≡ Some (record { ops = d.left; exit = Goto d.join })
  at_no : slice_get g.blocks d.no ≡ Some (record { ops = d.right; exit = Goto d.join })
  at_block : d.block ≡ b
  good : is_good live most g d ≡ true

module _ (live : ℕ → ℕ → Bool) (most : ℕ) (g : Graph) (b : ℕ) where
  good_by : (d e : Diamond) (t : Bool) → is_good live most g e ≡ t → cond t (Some e) None ≡ Some d → (d ≡ e) × (is_good live most g e ≡ true)
  good_by d e true h q = (sym (some_is e d q), h)
  good_by d e false h q = absurd (none_not_some d q)

  abbrev of_parts : (test y n c : ℕ) (before left right : List Op) → Diamond
  of_parts test y n c before left right = record { block = b; test = test; yes = y; no = n; join = c; before = before; left = left; right = right }

  goals_formed : (test y n : ℕ) (before left right : List Op) (x z : Exit) (d : Diamond) → slice_get g.blocks y ≡ Some (record { ops = left; exit = x }) → slice_get g.blocks n ≡ Some (record { ops = right; exit = z }) →
      by_goals live most g b test y n before left right x z ≡ Some d → Formed live most g b (record { ops = before; exit = Split test y n }) d
  goals_formed test y n before left right (Goto c) (Goto e) d hy hn q = by (c == e) refl q
    where
      same_made : c ≡ e → (d ≡ of_parts test y n c before left right) × (is_good live most g (of_parts test y n c before left right) ≡ true) → Formed live most g b (record { ops = before; exit = Split test y n }) d
      same_made r k =
          let formed : Formed live most g b (record { ops = before; exit = Split test y n }) (of_parts test y n c before left right) = record { splits = refl; at_yes = hy; at_no = hn ∙ ap (λ i. Some (record { ops = right; exit = Goto i })) (sym r); at_block = refl; good = k.1 } in
          subst (Formed live most g b (record { ops = before; exit = Split test y n })) (sym k.0) formed

      by : (t : Bool) → (c == e) ≡ t → cond t (if_good live most g (of_parts test y n c before left right)) None ≡ Some d → Formed live most g b (record { ops = before; exit = Split test y n }) d
      by true r p = same_made (eqb-true c e r) (good_by d (of_parts test y n c before left right) (is_good live most g (of_parts test y n c before left right)) refl p)
      by false r p = absurd (none_not_some d p)
  goals_formed test y n before left right (Goto c) (Split p e a) d hy hn q = absurd (none_not_some d q)
  goals_formed test y n before left right (Goto c) (Call f arguments result e) d hy hn q = absurd (none_not_some d q)
  goals_formed test y n before left right (Goto c) (Return e) d hy hn q = absurd (none_not_some d q)
  goals_formed test y n before left right (Goto c) (Ends e) d hy hn q = absurd (none_not_some d q)
  goals_formed test y n before left right (Split p e a) z d hy hn q = absurd (none_not_some d q)
  goals_formed test y n before left right (Call f arguments result e) z d hy hn q = absurd (none_not_some d q)
  goals_formed test y n before left right (Return e) z d hy hn q = absurd (none_not_some d q)
  goals_formed test y n before left right (Ends e) z d hy hn q = absurd (none_not_some d q)

  sides_formed : (test y n : ℕ) (before : List Op) (o p : Option Block) (d : Diamond) → slice_get g.blocks y ≡ o → slice_get g.blocks n ≡ p → by_sides live most g b test y n before o p ≡ Some d → Formed live most g b (record { ops = before; exit = Split test y n }) d
  sides_formed test y n before (Some left) (Some right) d hy hn q = goals_formed test y n before left.ops right.ops left.exit right.exit d hy hn q
  sides_formed test y n before (Some left) None d hy hn q = absurd (none_not_some d q)
  sides_formed test y n before None p d hy hn q = absurd (none_not_some d q)

  exit_formed : (before : List Op) (x : Exit) (d : Diamond) → by_exit live most g b before x ≡ Some d → Formed live most g b (record { ops = before; exit = x }) d
  exit_formed before (Split test y n) d q = sides_formed test y n before (slice_get g.blocks y) (slice_get g.blocks n) d refl refl q
  exit_formed before (Goto c) d q = absurd (none_not_some d q)
  exit_formed before (Call f arguments result c) d q = absurd (none_not_some d q)
  exit_formed before (Return x) d q = absurd (none_not_some d q)
  exit_formed before (Ends k) d q = absurd (none_not_some d q)

  formed_at : (block : Block) (d : Diamond) → diamond_at live most g b block ≡ Some d → Formed live most g b block d
  formed_at block d q = exit_formed block.ops block.exit d q

  at_formed : (block : Block) (d : Diamond) → Formed live most g b block d → diamond_at live most g b block ≡ Some d
  at_formed block d f =
      ap (diamond_at live most g b) f.splits
      ∙ ap (λ o. by_sides live most g b d.test d.yes d.no d.before o (slice_get g.blocks d.no)) f.at_yes
      ∙ ap (λ o. by_sides live most g b d.test d.yes d.no d.before (Some (record { ops = d.left; exit = Goto d.join })) o) f.at_no
      ∙ ap (λ t. cond t (if_good live most g (record { block = b; test = d.test; yes = d.yes; no = d.no; join = d.join; before = d.before; left = d.left; right = d.right })) None) (eq-eqb d.join d.join refl)
      ∙ ap (λ k. if_good live most g (record { block = k; test = d.test; yes = d.yes; no = d.no; join = d.join; before = d.before; left = d.left; right = d.right })) (sym f.at_block)
      ∙ ap (λ t. cond t (Some d) None) f.good

-- ---- the test and the words

module _ (live : ℕ → ℕ → Bool) (most : ℕ) (g : Graph) where
  formed_is : (b : ℕ) (block : Block) (d : Diamond) → slice_get g.blocks b ≡ Some block → Formed live most g b block d → IsDiamond live most g d
  formed_is b block d e f =
      let (p9, short) = and_parts _ _ f.good in
      let (p8, room) = and_parts _ _ p9 in
      let (p7, few) = and_parts _ _ p8 in
      let (p6, some) = and_parts _ _ p7 in
      let (p5, right) = and_parts _ _ p6 in
      let (p4, left) = and_parts _ _ p5 in
      let (p3, entry) = and_parts _ _ p4 in
      let (p2, forward) = and_parts _ _ p3 in
      let (alone, beyond) = and_parts _ _ p2 in
      record {
        splits = ap (slice_get g.blocks) f.at_block ∙ e ∙ ap Some f.splits;
        at_yes = f.at_yes;
        at_no = f.at_no;
        alone = λ i c l s. (let r : 0 + i ≡ d.block = alone_is d 0 g.blocks alone i c l.block l.has l.leads s in omega arith);
        beyond = beyond;
        forward = differs d.join d.block forward;
        entry = entry;
        simple_left = left;
        simple_right = right;
        some = leb-true 1 (length d.left + length d.right) some;
        few = leb-true (length d.left + length d.right) most few;
        room = leb-true (length (left_values g d) + length (right_values g d)) (length (free_values live g d)) room;
        short = leb-true (length (d.before ++ both_sides live g d)) 512 short;
      }

  is_formed : (b : ℕ) (block : Block) (d : Diamond) → slice_get g.blocks b ≡ Some block → d.block ≡ b → IsDiamond live most g d → Formed live most g b block d
  is_formed b block d e q it = record {
    splits = some_is block (record { ops = d.before; exit = Split d.test d.yes d.no }) (sym e ∙ ap (slice_get g.blocks) (sym q) ∙ it.splits);
    at_yes = it.at_yes;
    at_no = it.at_no;
    at_block = q;
    good = both_true (both_true (both_true (both_true (both_true (both_true (both_true (both_true (both_true
        (alone_of d 0 g.blocks (λ i c k has m s. let r : i ≡ d.block = it.alone i c (record { block = k; has = has; leads = m }) s in omega arith))
        it.beyond) (differs_of d.join d.block it.forward)) it.entry) it.simple_left) it.simple_right)
        (le-leb 1 (length d.left + length d.right) it.some)) (le-leb (length d.left + length d.right) most it.few))
        (le-leb (length (left_values g d) + length (right_values g d)) (length (free_values live g d)) it.room)) (le-leb (length (d.before ++ both_sides live g d)) 512 it.short);
  }

  -- ---- block by block

  abbrev FirstFrom : ℕ → List Block → Option Diamond → Type 0
  FirstFrom b blocks None = (d : Diamond) (i : ℕ) (block : Block) → slice_get blocks i ≡ Some block → d.block ≡ b + i → IsDiamond live most g d → ⊥
  FirstFrom b blocks (Some d) = IsDiamond live most g d × ((e : Diamond) (i : ℕ) (block : Block) → slice_get blocks i ≡ Some block → e.block ≡ b + i → IsDiamond live most g e → d.block ≤ e.block)

  found_from : (b : ℕ) (blocks : List Block) → ((i : ℕ) (block : Block) → slice_get blocks i ≡ Some block → slice_get g.blocks (b + i) ≡ Some block) → FirstFrom b blocks (first_from live most g b blocks)
  found_from b [] f = λ d i block e q it. absurd (none_not_some block e)
  found_from b (x ∷ xs) f = by (diamond_at live most g b x) (first_from live most g (suc b) xs) refl (found_from (suc b) xs (λ i block e. let q : b + suc i ≡ suc b + i = omega arith in subst (λ n. slice_get g.blocks n ≡ Some block) q (f (suc i) block e)))
    where
      here : slice_get g.blocks b ≡ Some x
      here = let q : b + 0 ≡ b = omega arith in subst (λ n. slice_get g.blocks n ≡ Some x) q (f 0 x refl)

      at_here : (d : Diamond) → d.block ≡ b → IsDiamond live most g d → diamond_at live most g b x ≡ Some d
      at_here d q it = at_formed live most g b x d (is_formed b x d here q it)

      by : (o q : Option Diamond) → diamond_at live most g b x ≡ o → FirstFrom (suc b) xs q → FirstFrom b (x ∷ xs) (or_else o q)
      by None None r k = λ d i block e p it. none_here d i block e p it
        where
          none_here : (d : Diamond) (i : ℕ) (block : Block) → slice_get (x ∷ xs) i ≡ Some block → d.block ≡ b + i → IsDiamond live most g d → ⊥
          none_here d zero block e p it = none_not_some d (sym r ∙ at_here d (omega arith) it)
          none_here d (suc i) block e p it = k d i block e (omega arith) it
      by None (Some d) r k = (k.0, λ e i block h p it. later e i block h p it)
        where
          later : (e : Diamond) (i : ℕ) (block : Block) → slice_get (x ∷ xs) i ≡ Some block → e.block ≡ b + i → IsDiamond live most g e → d.block ≤ e.block
          later e zero block h p it = absurd (none_not_some e (sym r ∙ at_here e (omega arith) it))
          later e (suc i) block h p it = k.1 e i block h (omega arith) it
      by (Some d) q r k =
          let formed = formed_at live most g b x d r in
          let at : d.block ≡ b = formed.at_block in
          (formed_is b x d here formed, λ e i block h p it. omega arith)

  whole : (o : Option Diamond) → FirstFrom 0 g.blocks o → IsFirst live most g o
  whole None h = λ d it. h d d.block (record { ops = d.before; exit = Split d.test d.yes d.no }) it.splits (omega arith) it
  whole (Some d) h = (h.0, λ e it. h.1 e e.block (record { ops = e.before; exit = Split e.test e.yes e.no }) it.splits (omega arith) it)

pub first_is_first : FirstIsFirst
first_is_first live most g = whole live most g (first_diamond live most g) (found_from live most g 0 g.blocks (λ i block e. let q : i ≡ 0 + i = omega arith in subst (λ n. slice_get g.blocks n ≡ Some block) q e))
