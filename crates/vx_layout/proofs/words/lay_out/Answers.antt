use Rattle.std.proofs.Common.{◌≡◌, ℕ, List, length, ap, ◌∙◌}
use Rattle.vx_flow.specs.declared.graph.Bank.{Bank}
use Rattle.vx_flow.specs.declared.trace.Homes.{Homes}
use Rattle.vx_mixed.specs.declared.layout.VirtualWord.{VirtualWord}
use Rattle.vx_mixed.specs.declared.layout.VWords.{VWords}
use Rattle.vx_mixed.specs.Layout.{place_of, all_words}
use Rattle.vx_layout.specs.Laying.{place_in}
use Rattle.vx_layout.proofs.LayingSteps.{places_are}
use Rattle.vx_layout.proofs.words.lay_out.Goals as goal

abbrev make : List Bank → Homes → List VirtualWord → (entry regions : ℕ) → VWords
make banks homes words entry regions = record { banks = banks; homes = homes; words = words; entry = entry; regions = regions }

same : (b b' : List Bank) (h h' : Homes) (w w' : List VirtualWord) (e e' r r' : ℕ) → b ≡ b' → h ≡ h' → w ≡ w' → e ≡ e' → r ≡ r' → make b h w e r ≡ make b' h' w' e' r'
same b b' h h' w w' e e' r r' eb eh ew ee er = ap (λ z. make z h w e r) eb ∙ ap (λ z. make b' z w e r) eh ∙ ap (λ z. make b' h' z e r) ew ∙ ap (λ z. make b' h' w' z r) ee ∙ ap (make b' h' w' e') er

pub graph_words-requires : goal.graph_words-requires
graph_words-requires c = λ b. ap (λ z. place_in z b) (c.deref.ensures.value ∙ c.in_ok-places.ensures) ∙ places_are c.args.graph.now b

pub returns : goal.returns
returns c =
    let m = c.args.graph.now in
    same c.in_ok-banks.banks m.banks c.in_ok-homes.homes m.homes c.in_ok-words.words (all_words m 0 0 m.regions) c.place_at.result (place_of m 0) c.region_count.result (length m.regions) (c.in_ok-banks.ensures ∙ c.as_slice.ensures) c.in_ok-homes.ensures c.in_ok-words.ensures
    (c.place_at.ensures ∙ ap (λ z. place_in z 0) (c.deref-2.ensures.value ∙ c.in_ok-places.ensures) ∙ places_are m 0) c.region_count.ensures
