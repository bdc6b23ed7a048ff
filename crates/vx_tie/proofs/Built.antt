-- A placed program is made of labelled pieces, each with what may be in flight at its start: where each of them meets nothing in
-- flight and comes to others with no more than these allow, no register is read or written early.
use Rattle.std.proofs.Common.{◌≡◌, ⊎_elim, ◌+◌, ℕ, suc, List, [], ◌∷◌, ◌++◌, length, length-append, append_assoc, refl, sym, ap, ◌∙◌, subst, arith}
use Rattle.vx_base.proofs.Pieces.{Piece, words_of as words_of_pieces, heats, heats_of, next_heat, look_up, look_at, Fine, Joined}
use Rattle.vx_flow.specs.Effects.{IsIn}
use Rattle.vx_isa.specs.declared.operation.Register.{Register}
use Rattle.vx_isa.specs.declared.program.Word.{Word}
use Rattle.vx_isa.specs.declared.program.WordProgram.{WordProgram}
use Rattle.vx_isa.specs.Paths.{NeverReadsEarly, NeverWritesEarly}
use Rattle.vx_target.specs.Target.{Target}
use Rattle.vx_target.specs.Placed.{Label, Labelled, place_of, PlacedAt, all_pieces, words_of, IsPlaced}
use Rattle.vx_tie.proofs.Early.{words_kind, words_cool, pieces_late}

abbrev Heat : Type 0
Heat = Register → ℕ

module _ (T : Target) (start : Label → Heat) where
  abbrev piece_of : Labelled → Piece Word Register
  piece_of x = record { start = start x.label; words = x.words }

  abbrev pub pieces : List Labelled → List (Piece Word Register)
  pieces [] = []
  pieces (x ∷ xs) = piece_of x ∷ pieces xs

  pieces_words : (xs : List Labelled) → words_of xs ≡ words_of_pieces (pieces xs)
  pieces_words [] = refl
  pieces_words (x ∷ xs) = ap (λ ws. x.words ++ ws) (pieces_words xs)

  abbrev Heats : Heat → List Word → List Heat
  Heats h ws = heats (words_kind T.machine) h ws

  abbrev HeatsOf : List Labelled → List Heat
  HeatsOf xs = heats_of (words_kind T.machine) (pieces xs)

  heats_length : (h : Heat) (ws : List Word) → length (Heats h ws) ≡ length ws
  heats_length h [] = refl
  heats_length h (w ∷ ws) = ap suc (heats_length (next_heat (words_kind T.machine) w h) ws)

  heat_case : (done rest : List Heat) (h : Heat) (ws : List Word) (w : Word) (vs : List Word) → ws ≡ w ∷ vs → look_up (done ++ (Heats h ws ++ rest)) (length done) ≡ h
  heat_case done rest h ws w vs e = subst (λ z. look_up (done ++ (Heats h z ++ rest)) (length done) ≡ h) (sym e) (look_at (words_kind T.machine) (words_cool T.machine) done (Heats (next_heat (words_kind T.machine) w h) vs ++ rest) h)

  -- at the place of a piece that is not empty no more is in flight than its start says
  piece_heat : (done : List Heat) (xs : List Labelled) (x : Labelled) (w : Word) (vs : List Word) → PlacedAt T (length done) xs → IsIn x xs → x.words ≡ w ∷ vs → look_up (done ++ HeatsOf xs) (place_of T x.label) ≡ start x.label
  piece_heat done [] x w vs p i e = absurd i
  piece_heat done (y ∷ xs) x w vs p i e =
      let l : length done + length y.words ≡ length (done ++ Heats (start y.label) y.words) = (let a = length-append done (Heats (start y.label) y.words) in let b = heats_length (start y.label) y.words in omega arith) in
      ⊎_elim
      (λ q. ap (look_up (done ++ (Heats (start y.label) y.words ++ HeatsOf xs))) (ap (λ z. place_of T z.label) q ∙ p.0) ∙ heat_case done (HeatsOf xs) (start y.label) y.words w vs (ap (λ z. z.words) (sym q) ∙ e) ∙ ap (λ z. start z.label) (sym q))
      (λ k. ap (λ z. look_up z (place_of T x.label)) (sym (append_assoc done (Heats (start y.label) y.words) (HeatsOf xs))) ∙ piece_heat (done ++ Heats (start y.label) y.words) xs x w vs (subst (λ n. PlacedAt T n xs) l p.1) k e)
      i

  module _ (heat : ℕ → Heat) where
    -- the piece fits in its place
    abbrev pub Fits : Labelled → Type 0
    Fits x = Fine (words_kind T.machine) heat (start x.label) x.words (heat (place_of T x.label + length x.words))

    abbrev pub AllFit : List Labelled → Type 0
    AllFit [] = Unit {0}
    AllFit (x ∷ xs) = Fits x × AllFit xs

    pub fit_append : (xs ys : List Labelled) → AllFit xs → AllFit ys → AllFit (xs ++ ys)
    fit_append [] ys a b = b
    fit_append (x ∷ xs) ys a b = (a.0, fit_append xs ys a.1 b)

    joined_from : (o : ℕ) (xs : List Labelled) → PlacedAt T o xs → AllFit xs → Joined (words_kind T.machine) heat o (pieces xs)
    joined_from o [] p h = tt
    joined_from o (x ∷ xs) p h = (subst (λ n. Fine (words_kind T.machine) heat (start x.label) x.words (heat (n + length x.words))) p.0 h.0, joined_from (o + length x.words) xs p.1 h.1)

  module _ (main count : ℕ) (w : WordProgram) (placed : IsPlaced T main count w.words) where
    abbrev pub heat_at : ℕ → Heat
    heat_at = look_up (HeatsOf (all_pieces T main count))

    pub heat_of : (x : Labelled) (word : Word) (words : List Word) → IsIn x (all_pieces T main count) → x.words ≡ word ∷ words → heat_at (place_of T x.label) ≡ start x.label
    heat_of x word words i e = piece_heat [] (all_pieces T main count) x word words placed.places i e

    pub built_late : AllFit heat_at (all_pieces T main count) → NeverReadsEarly T.machine w × NeverWritesEarly T.machine w
    built_late fit = pieces_late T.machine w (pieces (all_pieces T main count)) (placed.is ∙ pieces_words (all_pieces T main count)) (joined_from heat_at 0 (all_pieces T main count) placed.places fit)
