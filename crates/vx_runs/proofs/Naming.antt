-- The command of a name, and the words that clap is handed.
use Rattle.std.proofs.Common.{◌≡◌, ◌∙◌, ℕ, ◌+◌, ◌<◌, List, [], ◌∷◌, ◌++◌, map, take, length, get_or, true, false, refl, sym, ap}
use Rattle.std.proofs.lemmas.List.{map-append, map_more}
use Rattle.std.specs.Prelude.{codes}
use Rattle.std.specs.Str.{bytes_eq}
use Rattle.vx_runs.specs.declared.names.Named.TheVariants.{Compile, Sim, Exec, Profile, Soak, Check, Nothing}
use Rattle.vx_runs.specs.Names.{IsNamed}

module _ (name : List ℕ) where
  pub named_compile : bytes_eq name (codes "compile") ≡ true → IsNamed name Compile
  named_compile a = record { known = rw a refl; asks = λ words. rw a refl }

  pub named_sim : bytes_eq name (codes "compile") ≡ false → bytes_eq name (codes "sim") ≡ true → IsNamed name Sim
  named_sim a b = record { known = rw (a, b) refl; asks = λ words. rw (a, b) refl }

  pub named_exec : bytes_eq name (codes "compile") ≡ false → bytes_eq name (codes "sim") ≡ false → bytes_eq name (codes "exec") ≡ true → IsNamed name Exec
  named_exec a b d = record { known = rw (a, b, d) refl; asks = λ words. rw (a, b, d) refl }

  pub named_profile : bytes_eq name (codes "compile") ≡ false → bytes_eq name (codes "sim") ≡ false → bytes_eq name (codes "exec") ≡ false → bytes_eq name (codes "profile") ≡ true → IsNamed name Profile
  named_profile a b d e = record { known = rw (a, b, d, e) refl; asks = λ words. rw (a, b, d, e) refl }

  pub named_soak : bytes_eq name (codes "compile") ≡ false → bytes_eq name (codes "sim") ≡ false → bytes_eq name (codes "exec") ≡ false → bytes_eq name (codes "profile") ≡ false → bytes_eq name (codes "soak") ≡ true → IsNamed name Soak
  named_soak a b d e f = record { known = rw (a, b, d, e, f) refl; asks = λ words. rw (a, b, d, e, f) refl }

  pub named_check : bytes_eq name (codes "compile") ≡ false → bytes_eq name (codes "sim") ≡ false → bytes_eq name (codes "exec") ≡ false → bytes_eq name (codes "profile") ≡ false → bytes_eq name (codes "soak") ≡ false → bytes_eq name (codes "check") ≡ true →
      IsNamed name Check
  named_check a b d e f h = record { known = rw (a, b, d, e, f, h) refl; asks = λ words. rw (a, b, d, e, f, h) refl }

  pub named_nothing : bytes_eq name (codes "compile") ≡ false → bytes_eq name (codes "sim") ≡ false → bytes_eq name (codes "exec") ≡ false → bytes_eq name (codes "profile") ≡ false → bytes_eq name (codes "soak") ≡ false → bytes_eq name (codes "check") ≡ false →
      IsNamed name Nothing
  named_nothing a b d e f h = record { known = rw (a, b, d, e, f, h) refl; asks = λ words. rw (a, b, d, e, f, h) refl }

-- one word more
pub words_more : {X S : Type 0} (f : X → List ℕ) (g : S → List ℕ) (first : List ℕ) (old new : List X) (x : X) (others : List S) (i : ℕ) (other : S) →
    new ≡ old ++ x ∷ [] → map f old ≡ first ∷ map g (take i others) → f x ≡ g other → other ≡ get_or others i other → i < length others → map f new ≡ first ∷ map g (take (i + 1) others)
words_more f g first old new x others i other pushed so_far same is lt =
    ap (map f) pushed ∙ map-append f old (x ∷ []) ∙ ap (λ words. words ++ f x ∷ []) so_far
    ∙ ap (λ words. first ∷ words) (ap (λ word. map g (take i others) ++ word ∷ []) (same ∙ ap g is) ∙ sym (map_more g others i other lt))
