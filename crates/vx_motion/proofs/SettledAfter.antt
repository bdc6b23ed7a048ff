-- A graph that was settled is settled after a replacement.
use Rattle.std.proofs.Common.{◌≡◌, ℕ, Bool, true, false, Option, Some, None, List, [], ◌∷◌, ◌++◌, length, map, slice_get, refl, sym, ap, ◌∙◌, subst, ⊎_elim}
use Rattle.std.specs.Prelude.{◌-◌, ◌/◌, nat_lt, if◌then◌else◌}
use Rattle.vx_flow.specs.declared.graph.Bank.{Bank}
use Rattle.vx_flow.specs.declared.graph.Bank.TheVariants.{General, Branch}
use Rattle.vx_flow.specs.declared.graph.Op.{Op}
use Rattle.vx_flow.specs.Effects.{IsIn}
use Rattle.vx_mixed.specs.declared.region.Item.{Item}
use Rattle.vx_mixed.specs.declared.region.Item.TheVariants.{Plain, Split}
use Rattle.vx_mixed.specs.declared.region.Region.{Region}
use Rattle.vx_mixed.specs.declared.mixed.MixedGraph.{MixedGraph}
use Rattle.vx_mixed.specs.declared.replacement.Replacement.{Replacement}
use Rattle.vx_mixed.specs.Next.{rename, new_end, renamed_region, new_region, next_mixed}
use Rattle.vx_mixed.specs.Settled.{has_home, home_of, bank_of, stands_for, StandsOn, OnClusters, InTime, Settled, HomesStay}
use Rattle.vx_mixed.specs.Valid.{Valid, region_op}
use Rattle.vx_motion.specs.Scheduled.{IsRoom, WordsStand}
use Rattle.vx_mixed.proofs.Renames.{old_word, old_op, old_split}
use Rattle.vx_motion.proofs.SettledRenamed.{settled_renamed}
use Rattle.vx_mixed.proofs.NewNodes.{of_regions}

last_region : (f : Region → Region) (gs : List Region) (g : Region) → slice_get (map f gs ++ g ∷ []) (length gs) ≡ Some g
last_region f [] g = refl
last_region f (o ∷ gs) g = last_region f gs g

pub the_region : (old : MixedGraph) (r : Replacement) (n : ℕ) (g : Region) → n ≡ length old.regions → slice_get (next_mixed old r).regions n ≡ Some g → g ≡ new_region old r
the_region old r n g e at =
    let f = renamed_region (new_end old r.made) in
    let h : Some g ≡ Some (new_region old r) = sym at ∙ ap (slice_get (next_mixed old r).regions) e ∙ last_region f old.regions (new_region old r) in
    cc

stands_moves : (o : Option Bank) (h h' : Option ℕ) (c : ℕ) → ((k : ℕ) → h ≡ Some k → h' ≡ Some k) → stands_for o h c → stands_for o h' c
stands_moves None h h' c move s = s
stands_moves (Some General) h h' c move s = move c s
stands_moves (Some Branch) h h' c move s = s

module _ (latency : Op → ℕ) (old : MixedGraph) (r : Replacement) (valid : Valid old) (stay : HomesStay old.homes.clusters r.homes.clusters) where
  abbrev New : MixedGraph
  New = next_mixed old r

  abbrev To : ℕ → ℕ → ℕ
  To = new_end old r.made

  home_moves : (v k : ℕ) → home_of old v ≡ Some k → home_of New v ≡ Some k
  home_moves v k e = by (nat_lt v (length old.banks)) e
    where
      by : (b : Bool) → (if b then has_home old.homes.clusters v else Some (v / length old.banks - 1)) ≡ Some k → (if b then has_home r.homes.clusters v else Some (v / length old.banks - 1)) ≡ Some k
      by true h = stay v k h
      by false h = h

  stands_on : (v c : ℕ) → StandsOn old v c → StandsOn New v c
  stands_on v c s = stands_moves (bank_of old v) (home_of old v) (home_of New v) c (home_moves v) s

  word_before : (g : Region) (i : ℕ) (word : List Item) → slice_get (renamed_region To g).words i ≡ Some word → (o : List Item) × (slice_get g.words i ≡ Some o) × (word ≡ map (rename To) o)
  word_before g i word e = old_word (map (rename To)) g.words i word e

  clusters_moved : (g : Region) → OnClusters old g → OnClusters New (renamed_region To g)
  clusters_moved g on = record {
    reads = λ i v c op word at h n. let o = word_before g i word at in stands_on v c (on.reads i v c op o.0 o.1 (old_op To o.0 op c (subst (λ z. IsIn (Plain op c) z) o.2 h)) n);
    writes = λ i v c op word at h n. let o = word_before g i word at in stands_on v c (on.writes i v c op o.0 o.1 (old_op To o.0 op c (subst (λ z. IsIn (Plain op c) z) o.2 h)) n);
    tests = λ i p d e y word at h. let o = word_before g i word at in let x = old_split To o.0 p d e y (subst (λ z. IsIn (Split p y e d) z) o.2 h) in on.tests i p d x.0 y o.0 o.1 x.1;
  }

  module _ (room : List (Option ℕ) → List Item → Bool) (is_room : IsRoom room) (settled : Settled room latency old) where
    room_moved : (q i : ℕ) (g : Region) (word : List Item) → slice_get old.regions q ≡ Some g → slice_get (renamed_region To g).words i ≡ Some word → room r.homes.clusters word ≡ true
    room_moved q i g word here at =
        let o = word_before g i word at in
        let same = is_room.homes old.homes.clusters r.homes.clusters o.0 (λ v u c h. let a = valid.away v u (region_op q i c g o.0 here o.1 h) in stay u a.1 a.2 ∙ sym a.2) in
        ap (room r.homes.clusters) o.2 ∙ is_room.edges r.homes.clusters To o.0 ∙ same ∙ settled.fits q i g o.0 here o.1

    pub settled_after : WordsStand room old r → InTime latency (new_region old r) → Settled room latency (next_mixed old r)
    settled_after stand time = record {
      fits = λ q i g word at in_word.
          ⊎_elim
          (λ o. room_moved q i o.0 word o.1 (ap (λ (z : Region). slice_get z.words i) (sym o.2) ∙ in_word))
          (λ e. stand.fits i word (ap (λ (z : Region). slice_get z.words i) (sym e) ∙ in_word))
          (of_regions (renamed_region To) old.regions (new_region old r) g q at);
      clusters = λ q g at.
          ⊎_elim
          (λ o. subst (OnClusters New) (sym o.2) (clusters_moved o.0 (settled.clusters q o.0 o.1)))
          (λ e. subst (OnClusters New) (sym e) stand.clusters)
          (of_regions (renamed_region To) old.regions (new_region old r) g q at);
      times = λ q g at.
          ⊎_elim
          (λ o. subst (InTime latency) (sym o.2) (settled_renamed latency o.0 (renamed_region To o.0) To refl refl (settled.times q o.0 o.1)))
          (λ e. subst (InTime latency) (sym e) time)
          (of_regions (renamed_region To) old.regions (new_region old r) g q at);
    }
