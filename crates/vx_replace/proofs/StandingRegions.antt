-- Regions that are left by no edge on which a block is made stay as they are.
use Rattle.std.proofs.Common.{◌≡◌, ℕ, ◌+◌, Bool, true, false, Some, None, List, [], ◌∷◌, ◌++◌, length, map, refl, sym, ap, ◌∙◌}
use Rattle.std.specs.Prelude.{◌||◌, if◌then◌else◌}
use Rattle.std.specs.List.{list_any}
use Rattle.vx_flow.specs.declared.graph.Edge.{Edge}
use Rattle.vx_flow.specs.declared.graph.Exit.{Exit}
use Rattle.vx_flow.specs.declared.graph.Exit.TheVariants.{Goto, Split as Branch, Call, Return, Ends}
use Rattle.vx_flow.specs.Walk.{edge}
use Rattle.vx_mixed.specs.declared.mixed.MixedGraph.{MixedGraph}
use Rattle.vx_mixed.specs.declared.region.Item.{Item}
use Rattle.vx_mixed.specs.declared.region.Item.TheVariants.{Plain, Split}
use Rattle.vx_mixed.specs.declared.region.Made.{Made}
use Rattle.vx_mixed.specs.declared.region.Region.{Region}
use Rattle.vx_mixed.specs.declared.replacement.Replacement.{Replacement}
use Rattle.vx_mixed.specs.FromGraph.{same_edge}
use Rattle.vx_mixed.specs.Next.{block_or, made_on, new_end, new_region, next_mixed, rename, renamed_exit, renamed_region}
use Rattle.vx_replace.specs.MadeEdges.{exit_leads, is_made_on, item_leads, region_leads}

left_false : (a b : Bool) → (a || b) ≡ false → a ≡ false
left_false false b h = refl
left_false true b h = absurd (cc)

right_false : (a b : Bool) → (a || b) ≡ false → b ≡ false
right_false false b h = h
right_false true b h = absurd (cc)

none_made : (b : ℕ) (made : List Made) (e : Edge) → is_made_on made e ≡ false → made_on b made e ≡ None
none_made b [] e h = refl
none_made b (x ∷ made) e h =
    ap (λ t. if t then Some b else made_on (b + 1) made e) (left_false (same_edge x.edge e) (is_made_on made e) h)
    ∙ none_made (b + 1) made e (right_false (same_edge x.edge e) (is_made_on made e) h)

module _ (m : MixedGraph) (made : List Made) where
  abbrev To : ℕ → ℕ → ℕ
  To = new_end m made

  end_stays : (b c : ℕ) → is_made_on made (edge b c) ≡ false → To b c ≡ c
  end_stays b c h = ap (λ o. block_or o c) (none_made (length m.nodes) made (edge b c) h)

  exit_stays : (b : ℕ) (x : Exit) → exit_leads made b x ≡ false → renamed_exit (To b) x ≡ x
  exit_stays b (Goto c) h = ap Goto (end_stays b c h)
  exit_stays b (Branch p c d) h =
      ap (λ z. Branch p z (To b d)) (end_stays b c (left_false (is_made_on made (edge b c)) (is_made_on made (edge b d)) h))
      ∙ ap (Branch p c) (end_stays b d (right_false (is_made_on made (edge b c)) (is_made_on made (edge b d)) h))
  exit_stays b (Call g arguments result next) h = ap (Call g arguments result) (end_stays b next h)
  exit_stays b (Return x) h = refl
  exit_stays b (Ends k) h = refl

  item_stays : (i : Item) → item_leads made i ≡ false → rename To i ≡ i
  item_stays (Plain op cluster) h = refl
  item_stays (Split p y e d) h = ap (λ z. Split p y (edge e.from z) d) (end_stays e.from e.to h)

  word_stays : (word : List Item) → list_any (item_leads made) word ≡ false → map (rename To) word ≡ word
  word_stays [] h = refl
  word_stays (i ∷ is) h =
      ap (λ z. z ∷ map (rename To) is) (item_stays i (left_false (item_leads made i) (list_any (item_leads made) is) h))
      ∙ ap (λ z. i ∷ z) (word_stays is (right_false (item_leads made i) (list_any (item_leads made) is) h))

  words_stay : (words : List (List Item)) → list_any (list_any (item_leads made)) words ≡ false → map (map (rename To)) words ≡ words
  words_stay [] h = refl
  words_stay (w ∷ ws) h =
      ap (λ z. z ∷ map (map (rename To)) ws) (word_stays w (left_false (list_any (item_leads made) w) (list_any (list_any (item_leads made)) ws) h))
      ∙ ap (λ z. w ∷ z) (words_stay ws (right_false (list_any (item_leads made) w) (list_any (list_any (item_leads made)) ws) h))

  region_stays : (g : Region) → region_leads made g ≡ false → renamed_region To g ≡ g
  region_stays g h =
      ap (λ z. record g { words = z; last = renamed_exit (To g.from) g.last }) (words_stay g.words (left_false (list_any (list_any (item_leads made)) g.words) (exit_leads made g.from g.last) h))
      ∙ ap (λ z. record g { last = z }) (exit_stays g.from g.last (right_false (list_any (list_any (item_leads made)) g.words) (exit_leads made g.from g.last) h))

  regions_stay : (gs : List Region) → list_any (region_leads made) gs ≡ false → map (renamed_region To) gs ≡ gs
  regions_stay [] h = refl
  regions_stay (g ∷ gs) h =
      ap (λ z. z ∷ map (renamed_region To) gs) (region_stays g (left_false (region_leads made g) (list_any (region_leads made) gs) h))
      ∙ ap (λ z. g ∷ z) (regions_stay gs (right_false (region_leads made g) (list_any (region_leads made) gs) h))

-- the region of the trace is put behind them
pub put_behind_standing : (m new : MixedGraph) (r : Replacement) → list_any (region_leads r.made) m.regions ≡ false → new ≡ record m { regions = m.regions ++ new_region m r ∷ [] } → new ≡ record m { regions = (next_mixed m r).regions }
put_behind_standing m new r none is = is ∙ ap (λ gs. record m { regions = gs ++ new_region m r ∷ [] }) (sym (regions_stay m r.made m.regions none))
