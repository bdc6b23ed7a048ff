-- The lines of a profile: what is written is read again, what is read was written so, and a text is cut into lines in one way.
use Rattle.std.proofs.Common.{◌≡◌, ℕ, ◌^◌, List, [], ◌∷◌, ◌++◌, Option, Some, None, refl, sym, ap, subst, ◌∙◌, append_assoc}
use Rattle.std.specs.Prelude.{codes}
use Rattle.std.specs.List.{AllByRecursion, flat_map}
use Rattle.vx_flow.specs.Meaning.{Visit, AtBlock, AlongEdge}
use Rattle.vx_profile.specs.Reading.{first_of, below, behind, number_at, name_at, block_at, edge_at, visit_at, row_at}
use Rattle.vx_profile.specs.Text.{number_text, visit_text, Row, row_text, IsNamed, Fits, TooLarge}
use Rattle.vx_profile.proofs.Numbers.{bind_some, some_is, never, below_again, below_none, behind_is, number_is, number_again, name_is, name_again}

-- what is read was written so

abbrev two_names : (f b : List ℕ) → List ℕ
two_names f b = ((f ++ 32 ∷ []) ++ b) ++ 32 ∷ []

two_joined : (f b rest : List ℕ) → two_names f b ++ rest ≡ f ++ 32 ∷ (b ++ 32 ∷ rest)
two_joined f b rest = append_assoc ((f ++ 32 ∷ []) ++ b) (32 ∷ []) rest ∙ append_assoc (f ++ 32 ∷ []) b (32 ∷ rest) ∙ append_assoc f (32 ∷ []) (b ++ 32 ∷ rest)

abbrev three_names : (f b c : List ℕ) → List ℕ
three_names f b c = (two_names f b ++ c) ++ 32 ∷ []

three_joined : (f b c rest : List ℕ) → three_names f b c ++ rest ≡ f ++ 32 ∷ (b ++ 32 ∷ (c ++ 32 ∷ rest))
three_joined f b c rest = append_assoc (two_names f b ++ c) (32 ∷ []) rest ∙ append_assoc (two_names f b) c (32 ∷ rest) ∙ two_joined f b (c ++ 32 ∷ rest)

row_joined : (v n rest : List ℕ) → ((v ++ n) ++ 10 ∷ []) ++ rest ≡ v ++ (n ++ 10 ∷ rest)
row_joined v n rest = append_assoc (v ++ n) (10 ∷ []) rest ∙ append_assoc v n (10 ∷ rest)

abbrev IsVisit : List ℕ → Visit × List ℕ → Type 0
IsVisit text x = IsNamed x.0 × (text ≡ visit_text x.0 ++ x.1)

block_is : (text : List ℕ) (x : Visit × List ℕ) → block_at text ≡ Some x → IsVisit text x
unfolding block_at
block_is text x e =
    let names = bind_some (behind (codes "block ") text) _ x e in
    let f = bind_some (name_at names.0) _ x names.2 in
    let b = bind_some (name_at f.0.1) _ x f.2 in
    let same = some_is (AtBlock f.0.0 b.0.0, b.0.1) x b.2 in
    let front = behind_is (codes "block ") text names.0 names.1 in
    let first = name_is names.0 f.0 f.1 in
    let second = name_is f.0.1 b.0 b.1 in
    let tail : names.0 ≡ two_names (number_text f.0.0) (number_text b.0.0) ++ b.0.1 =
    first.1 ∙ ap (λ t. number_text f.0.0 ++ 32 ∷ t) second.1 ∙ sym (two_joined (number_text f.0.0) (number_text b.0.0) b.0.1) in
    subst (IsVisit text) same ((first.0, second.0), front ∙ ap (λ t. codes "block " ++ t) tail)

edge_is : (text : List ℕ) (x : Visit × List ℕ) → edge_at text ≡ Some x → IsVisit text x
unfolding edge_at
edge_is text x e =
    let names = bind_some (behind (codes "edge ") text) _ x e in
    let f = bind_some (name_at names.0) _ x names.2 in
    let b = bind_some (name_at f.0.1) _ x f.2 in
    let c = bind_some (name_at b.0.1) _ x b.2 in
    let same = some_is (AlongEdge f.0.0 b.0.0 c.0.0, c.0.1) x c.2 in
    let front = behind_is (codes "edge ") text names.0 names.1 in
    let first = name_is names.0 f.0 f.1 in
    let second = name_is f.0.1 b.0 b.1 in
    let third = name_is b.0.1 c.0 c.1 in
    let tail : names.0 ≡ three_names (number_text f.0.0) (number_text b.0.0) (number_text c.0.0) ++ c.0.1 =
    first.1 ∙ ap (λ t. number_text f.0.0 ++ 32 ∷ t) (second.1 ∙ ap (λ t. number_text b.0.0 ++ 32 ∷ t) third.1)
    ∙ sym (three_joined (number_text f.0.0) (number_text b.0.0) (number_text c.0.0) c.0.1) in
    subst (IsVisit text) same ((first.0, second.0, third.0), front ∙ ap (λ t. codes "edge " ++ t) tail)

visit_is : (text : List ℕ) (x : Visit × List ℕ) → visit_at text ≡ Some x → IsVisit text x
unfolding visit_at
visit_is text x e = by (block_at text) refl e
  where
    by : (found : Option (Visit × List ℕ)) → block_at text ≡ found → first_of found (edge_at text) ≡ Some x → IsVisit text x
    by (Some y) is e = block_is text x (is ∙ e)
    by None is e = edge_is text x e

pub row_is : (text : List ℕ) (x : Visit × Option ℕ × List ℕ) → row_at text ≡ Some x
    → IsNamed x.0 × (n : ℕ) × (below (2 ^ 64) n ≡ x.1) × (text ≡ row_text (record { visit = x.0; count = n }) ++ x.2)
unfolding row_at
row_is text x e =
    let v = bind_some (visit_at text) _ x e in
    let n = bind_some (number_at v.0.1) _ x v.2 in
    let rest = bind_some (behind (codes "\n") n.0.1) _ x n.2 in
    let same = some_is (v.0.0, n.0.0, rest.0) x rest.2 in
    let visit = visit_is text v.0 v.1 in
    let number = number_is v.0.1 n.0 n.1 in
    let feed = behind_is (codes "\n") n.0.1 rest.0 rest.1 in
    let whole : text ≡ row_text (record { visit = v.0.0; count = number.0 }) ++ rest.0 =
    visit.1 ∙ ap (λ t. visit_text v.0.0 ++ t) (number.2 ∙ ap (λ t. number_text number.0 ++ t) feed) ∙ sym (row_joined (visit_text v.0.0) (number_text number.0) rest.0) in
    subst (λ (y : Visit × Option ℕ × List ℕ). IsNamed y.0 × (n : ℕ) × (below (2 ^ 64) n ≡ y.1) × (text ≡ row_text (record { visit = y.0; count = n }) ++ y.2)) same
    (visit.0, number.0, number.1, whole)

-- what is written is read again

visit_again : (v : Visit) (rest : List ℕ) → IsNamed v → visit_at (visit_text v ++ rest) ≡ Some (v, rest)
unfolding visit_at block_at edge_at behind
visit_again (AtBlock f b) rest named =
    let cut : visit_text (AtBlock f b) ++ rest ≡ codes "block " ++ (number_text f ++ 32 ∷ (number_text b ++ 32 ∷ rest)) =
    ap (λ t. codes "block " ++ t) (two_joined (number_text f) (number_text b) rest) in
    ap visit_at cut ∙ rw (name_again f (number_text b ++ 32 ∷ rest) named.0, name_again b rest named.1) refl
visit_again (AlongEdge f b c) rest named =
    let cut : visit_text (AlongEdge f b c) ++ rest ≡ codes "edge " ++ (number_text f ++ 32 ∷ (number_text b ++ 32 ∷ (number_text c ++ 32 ∷ rest))) =
    ap (λ t. codes "edge " ++ t) (three_joined (number_text f) (number_text b) (number_text c) rest) in
    ap visit_at cut
    ∙ rw (name_again f (number_text b ++ 32 ∷ (number_text c ++ 32 ∷ rest)) named.0, name_again b (number_text c ++ 32 ∷ rest) named.1, name_again c rest named.2) refl

pub row_again : (row : Row) (more : List ℕ) → IsNamed row.visit → row_at (row_text row ++ more) ≡ Some (row.visit, below (2 ^ 64) row.count, more)
unfolding row_at behind
row_again row more named =
    let cut : row_text row ++ more ≡ visit_text row.visit ++ (number_text row.count ++ 10 ∷ more) = row_joined (visit_text row.visit) (number_text row.count) more in
    ap row_at cut ∙ rw (visit_again row.visit (number_text row.count ++ 10 ∷ more) named, number_again row.count (10 ∷ more) refl) refl

pub fits_again : (row : Row) (more : List ℕ) → Fits row → row_at (row_text row ++ more) ≡ Some (row.visit, Some row.count, more)
fits_again row more fits = row_again row more fits.0 ∙ ap (λ n. Some (row.visit, n, more)) (below_again (2 ^ 64) row.count fits.1)

pub large_again : (row : Row) (more : List ℕ) → TooLarge row → row_at (row_text row ++ more) ≡ Some (row.visit, None, more)
large_again row more large = row_again row more large.0 ∙ ap (λ n. Some (row.visit, n, more)) (below_none (2 ^ 64) row.count large.1)

pub nothing_read : row_at [] ≡ None
unfolding row_at visit_at block_at edge_at behind
nothing_read = refl

-- cut into lines in one way

-- no line that fits stands in front
abbrev pub Stops : List ℕ → Type 0
Stops rest = (v : Visit) (n : ℕ) (more : List ℕ) → row_at rest ≡ Some (v, Some n, more) → ⊥

pub stops_at_end : Stops []
stops_at_end v n more e = never (row_at []) (v, Some n, more) nothing_read e

abbrev read_as : Row → List ℕ → Option (Visit × Option ℕ × List ℕ)
read_as row rest = Some (row.visit, Some row.count, rest)

same_row : (a b : Row) (x y : List ℕ) → read_as a x ≡ read_as b y → (a ≡ b) × (x ≡ y)
same_row a b x y e =
    let p = some_is {X = Visit × Option ℕ × List ℕ} (a.visit, Some a.count, x) (b.visit, Some b.count, y) e in
    let visits : a.visit ≡ b.visit = ap (λ (t : Visit × Option ℕ × List ℕ). t.0) p in
    let counts : a.count ≡ b.count = some_is a.count b.count (ap (λ (t : Visit × Option ℕ × List ℕ). t.1) p) in
    (ap (λ v. record { visit = v; count = a.count }) visits ∙ ap (λ n. record { visit = b.visit; count = n }) counts, ap (λ (t : Visit × Option ℕ × List ℕ). t.2) p)

pub cut_once : (rows others : List Row) (x y : List ℕ) → AllByRecursion Fits rows → AllByRecursion Fits others → Stops x → Stops y
    → flat_map row_text rows ++ x ≡ flat_map row_text others ++ y → (rows ≡ others) × (x ≡ y)
cut_once [] [] x y f g s t e = (refl, e)
cut_once [] (b ∷ qs) x y f g s t e =
    absurd (s b.visit b.count (flat_map row_text qs ++ y) (ap row_at (e ∙ append_assoc (row_text b) (flat_map row_text qs) y) ∙ fits_again b (flat_map row_text qs ++ y) g.0))
cut_once (a ∷ ps) [] x y f g s t e =
    absurd (t a.visit a.count (flat_map row_text ps ++ x) (ap row_at (sym e ∙ append_assoc (row_text a) (flat_map row_text ps) x) ∙ fits_again a (flat_map row_text ps ++ x) f.0))
cut_once (a ∷ ps) (b ∷ qs) x y f g s t e =
    let both : row_text a ++ (flat_map row_text ps ++ x) ≡ row_text b ++ (flat_map row_text qs ++ y) =
    sym (append_assoc (row_text a) (flat_map row_text ps) x) ∙ e ∙ append_assoc (row_text b) (flat_map row_text qs) y in
    let read : read_as a (flat_map row_text ps ++ x) ≡ read_as b (flat_map row_text qs ++ y) =
    sym (fits_again a (flat_map row_text ps ++ x) f.0) ∙ ap row_at both ∙ fits_again b (flat_map row_text qs ++ y) g.0 in
    let first = same_row a b (flat_map row_text ps ++ x) (flat_map row_text qs ++ y) read in
    let later = cut_once ps qs x y f.1 g.1 s t first.1 in
    (ap (λ r. r ∷ ps) first.0 ∙ ap (λ rs. b ∷ rs) later.0, later.1)
