-- Blocks that are made for copies on edges, where each edge has one list of copies.
use Rattle.std.proofs.Common.{◌≡◌, ◌≢◌, ◌⊎◌, inl, inr, ℕ, zero, suc, false, Some, List, [], ◌∷◌, ◌++◌, slice_get, refl, sym, ap, ◌∙◌}
use Rattle.std.specs.Prelude.{if◌then◌else◌}
use Rattle.vx_flow.specs.declared.graph.Edge.{Edge}
use Rattle.vx_flow.specs.declared.graph.Op.{Op}
use Rattle.vx_flow.specs.Effects.{IsIn}
use Rattle.vx_flow.proofs.Members.{in_either}
use Rattle.vx_mixed.specs.declared.region.Made.{Made}
use Rattle.vx_mixed.specs.FromGraph.{same_edge}
use Rattle.vx_mixed.specs.Next.{on_edge}
use Rattle.vx_mixed.proofs.NewNodes.{is_same_edge, edges_or}
use Rattle.vx_mixed.proofs.Linked.{index_in}
use Rattle.vx_region.specs.Planned.{made_of}

-- the operations that are copied onto an edge, and their clusters
pub record Copy : Type 0 where
  pub edge : Edge
  pub ops : List Op
  pub clusters : List ℕ

abbrev pub made_all : List Copy → List Made
made_all [] = []
made_all (x ∷ xs) = made_of x.edge x.ops x.clusters ++ made_all xs

-- no edge twice
abbrev pub Distinct : List Copy → Type 0
Distinct [] = Unit {0}
Distinct (x ∷ xs) = ((y : Copy) → IsIn y xs → y.edge ≢ x.edge) × Distinct xs

join_lists : {A : Type 0} (xs ys zs : List A) → (xs ++ ys) ++ zs ≡ xs ++ (ys ++ zs)
join_lists [] ys zs = refl
join_lists (x ∷ xs) ys zs = ap (λ z. x ∷ z) (join_lists xs ys zs)

pub made_append : (xs ys : List Copy) → made_all (xs ++ ys) ≡ made_all xs ++ made_all ys
made_append [] ys = refl
made_append (x ∷ xs) ys = ap (λ z. made_of x.edge x.ops x.clusters ++ z) (made_append xs ys) ∙ sym (join_lists (made_of x.edge x.ops x.clusters) (made_all xs) (made_all ys))

pub distinct_append : (xs ys : List Copy) → Distinct xs → Distinct ys → ((x y : Copy) → IsIn x xs → IsIn y ys → y.edge ≢ x.edge) → Distinct (xs ++ ys)
distinct_append [] ys dx dy f = dy
distinct_append (x ∷ xs) ys dx dy f = (other, distinct_append xs ys dx.1 dy (λ u y h i. f u y (inr h) i))
  where
    other : (y : Copy) → IsIn y (xs ++ ys) → y.edge ≢ x.edge
    other y h = elim (in_either y xs ys h) [ inl a ↦ dx.0 y a | inr b ↦ f x y (inl refl) b ]

-- what stands on an edge

skip : (e f : Edge) (ops : List Op) (clusters : List ℕ) (rest : List Made) → same_edge e f ≡ false → on_edge (made_of e ops clusters ++ rest) f ≡ on_edge rest f
skip e f [] clusters rest n = refl
skip e f (op ∷ ops) clusters rest n = ap (λ b. if b then op ∷ ops else on_edge rest f) n

here : (e : Edge) (ops : List Op) (clusters : List ℕ) (rest : List Made) → on_edge rest e ≡ [] → on_edge (made_of e ops clusters ++ rest) e ≡ ops
here e [] clusters rest none = none
here e (op ∷ ops) clusters rest none = ap (λ b. if b then op ∷ ops else on_edge rest e) (is_same_edge e e refl)

not_same : (e f : Edge) → (f ≡ e → ⊥) → same_edge e f ≡ false
not_same e f n = elim (edges_or e f) [ inl q ↦ absurd (n (sym q)) | inr h ↦ h ]

nothing_on : (xs : List Copy) (e : Edge) → ((y : Copy) → IsIn y xs → y.edge ≢ e) → on_edge (made_all xs) e ≡ []
nothing_on [] e n = refl
nothing_on (x ∷ xs) e n = skip x.edge e x.ops x.clusters (made_all xs) (not_same x.edge e (λ q. n x (inl refl) (sym q))) ∙ nothing_on xs e (λ y h. n y (inr h))

pub on_edge_is : (xs : List Copy) (x : Copy) → Distinct xs → IsIn x xs → on_edge (made_all xs) x.edge ≡ x.ops
on_edge_is [] x d h = absurd h
on_edge_is (y ∷ ys) x d (inl q) =
    ap (λ (z : Copy). on_edge (made_of y.edge y.ops y.clusters ++ made_all ys) z.edge) q ∙ here y.edge y.ops y.clusters (made_all ys) (nothing_on ys y.edge d.0) ∙ ap (λ (z : Copy). z.ops) (sym q)
on_edge_is (y ∷ ys) x d (inr h) = skip y.edge x.edge y.ops y.clusters (made_all ys) (not_same y.edge x.edge (d.0 x h)) ∙ on_edge_is ys x d.1 h

-- what is made

pub record OfCopy (xs : List Copy) (x : Made) : Type 0 where
  pub copy : Copy
  pub has : IsIn copy xs
  pub edge : x.edge ≡ copy.edge
  pub some : x.ops ≢ []

of_one : (e : Edge) (ops : List Op) (clusters : List ℕ) (x : Made) → IsIn x (made_of e ops clusters) → (x.edge ≡ e) × (x.ops ≢ [])
of_one e [] clusters x h = absurd h
of_one e (op ∷ ops) clusters x (inl q) = (ap (λ (z : Made). z.edge) q, (λ n. let t : op ∷ ops ≡ [] = sym (ap (λ (z : Made). z.ops) q) ∙ n in cc))
of_one e (op ∷ ops) clusters x (inr h) = absurd h

pub of_copy : (xs : List Copy) (x : Made) → IsIn x (made_all xs) → OfCopy xs x
of_copy [] x h = absurd h
of_copy (y ∷ ys) x h = by (in_either x (made_of y.edge y.ops y.clusters) (made_all ys) h) (of_copy ys x)
  where
    by : IsIn x (made_of y.edge y.ops y.clusters) ⊎ IsIn x (made_all ys) → (IsIn x (made_all ys) → OfCopy ys x) → OfCopy (y ∷ ys) x
    by (inl a) more = let f = of_one y.edge y.ops y.clusters x a in record { copy = y; has = inl refl; edge = f.0; some = f.1 }
    by (inr b) more = let f = more b in record { copy = f.copy; has = inr f.has; edge = f.edge; some = f.some }

pub made_once : (xs : List Copy) → Distinct xs → (i k : ℕ) (x y : Made) → slice_get (made_all xs) i ≡ Some x → slice_get (made_all xs) k ≡ Some y → x.edge ≡ y.edge → i ≡ k
made_once [] d i k x y a b e = absurd (cc)
made_once (c ∷ cs) d i k x y a b e = by c.ops i k a b (made_once cs d.1)
  where
    behind : (n : ℕ) (z : Made) → slice_get (made_all cs) n ≡ Some z → z.edge ≡ c.edge → ⊥
    behind n z h q = let f = of_copy cs z (index_in (made_all cs) n z h) in d.0 f.copy f.has (sym f.edge ∙ q)

    by : (ops : List Op) (i k : ℕ) → slice_get (made_of c.edge ops c.clusters ++ made_all cs) i ≡ Some x → slice_get (made_of c.edge ops c.clusters ++ made_all cs) k ≡ Some y → ((i k : ℕ) (x y : Made) → slice_get (made_all cs) i ≡ Some x → slice_get (made_all cs) k ≡ Some y → x.edge ≡ y.edge → i ≡ k) → i ≡ k
    by [] i k a b more = more i k x y a b e
    by (op ∷ ops) zero zero a b more = refl
    by (op ∷ ops) zero (suc k) a b more = absurd (behind k y b (sym e ∙ (of_one c.edge (op ∷ ops) c.clusters x (index_in (made_of c.edge (op ∷ ops) c.clusters) 0 x a)).0))
    by (op ∷ ops) (suc i) zero a b more = absurd (behind i x a (e ∙ (of_one c.edge (op ∷ ops) c.clusters y (index_in (made_of c.edge (op ∷ ops) c.clusters) 0 y b)).0))
    by (op ∷ ops) (suc i) (suc k) a b more = ap suc (more i k x y a b e)
