-- One edge more.
use Rattle.std.proofs.Common.{◌≡◌, ◌⊎◌, inl, inr, ℕ, zero, suc, ◌+◌, ◌-◌, ◌<◌, ◌≤◌, ◌^◌, Bool, true, false, List, [], ◌∷◌, ◌++◌, Some, length, get_or, slice_get, slice_index_or, slice_set, refl, sym, ap, subst, ◌∙◌, arith}
use Rattle.std.specs.Prelude.{replicate}
use Rattle.std.proofs.lemmas.List.{get_or_read, get_or-replicate, get_or-set_same, get_or-set_other, length-set}
use Rattle.std.proofs.lemmas.Bool.Decides.{eqb_tells}
use Rattle.std.proofs.lemmas.Option.{same_Some}
use Rattle.vx_flow.specs.declared.graph.Block.{Block}
use Rattle.vx_flow.specs.Effects.{IsIn}
use Rattle.vx_flow.specs.Sound.{targets_of}
use Rattle.vx_flow.proofs.IndexSteps.{get_some}
use Rattle.vx_flow.proofs.Members.{in_either, in_left, in_right}
use Rattle.vx_shape.specs.Origins.{AreOrigins, LeadsBefore, IsJoined, IsNoted, NoteIsTrue, NotedBefore, Takes, TrueBefore}

same_or_not : (m n : ℕ) → (m ≡ n) ⊎ (m ≡ n → ⊥)
same_or_not m n = elim (eqb_tells m n) [ inl t ↦ inl t.1 | inr t ↦ inr t.1 ]

pub takes_none : (from : ℕ) (origins : List ℕ) → Takes from [] origins origins
takes_none from origins = record { count = refl; noted = λ b lt i. absurd i; stays = λ other b lo lt h. h; joins = λ b lt. inl refl }

pub joins_this : (many known from : ℕ) → IsJoined many known from from
joins_this many known from = inl refl

pub joins_many : (many known from : ℕ) → known < 2 ^ 64 - 1 → (known ≡ from → ⊥) → IsJoined many known from many
joins_many many known from small other = inr (refl, small, other)

-- an edge that is found after another from the same block changes nothing
joined_again : (many known now from x : ℕ) → IsJoined many known from now → IsJoined many now from x → IsJoined many known from x
joined_again many known now from x j (inl e) = inl e
joined_again many known now from x (inl q) (inr h) = absurd (h.2 q)
joined_again many known now from x (inr g) (inr h) = inr (h.0, g.1, g.2)

pub takes_both : (from : ℕ) (xs ys before now after : List ℕ) → from < length before → Takes from xs before now → Takes from ys now after → Takes from (xs ++ ys) before after
takes_both from xs ys before now after there g h = record {
  count = h.count ∙ g.count;
  noted = λ b lt i. elim (in_either b xs ys i) [
    | inl a ↦ h.stays from b (subst (λ z. from < z) (sym g.count) there) (subst (λ z. b < z) (sym g.count) lt) (g.noted b lt a)
    | inr c ↦ h.noted b (subst (λ z. b < z) (sym g.count) lt) c
  ];
  stays = λ other b lo lt n. h.stays other b (subst (λ z. other < z) (sym g.count) lo) (subst (λ z. b < z) (sym g.count) lt) (g.stays other b lo lt n);
  joins = λ b lt. elim (h.joins b (subst (λ z. b < z) (sym g.count) lt)) [
    | inl e ↦ elim (g.joins b lt) [
      | inl q ↦ inl (e ∙ q)
      | inr j ↦ inr (in_left b xs ys j.0, subst (IsJoined (length before) (slice_index_or before b 0) from) (sym e) j.1)
    ]
    | inr k ↦
        let l : IsJoined (length before) (slice_index_or now b 0) from (slice_index_or after b 0) = subst (λ z. IsJoined z (slice_index_or now b 0) from (slice_index_or after b 0)) g.count k.1 in
        elim (g.joins b lt) [
          | inl q ↦ inr (in_right b xs ys k.0, subst (λ z. IsJoined (length before) z from (slice_index_or after b 0)) q l)
          | inr j ↦ inr (in_right b xs ys k.0, joined_again (length before) (slice_index_or before b 0) (slice_index_or now b 0) from (slice_index_or after b 0) j.1 l)
        ]
  ];
}

pub takes_past : (from p : ℕ) (origins : List ℕ) → length origins ≤ p → Takes from (p ∷ []) origins origins
takes_past from p origins past = record {
  count = refl;
  noted = λ b lt i. elim i [ inl e ↦ absurd (omega arith) | inr z ↦ absurd z ];
  stays = λ other b lo lt h. h;
  joins = λ b lt. inl refl;
}

pub takes_one : (from p known x : ℕ) (origins : List ℕ) → p < length origins → from < length origins → length origins < 2 ^ 64 - 1 → known ≡ slice_index_or origins p known → IsJoined (length origins) known from x → (known < 2 ^ 64 - 1 → (known ≡ from → ⊥) → x ≡ length origins) → Takes from (p ∷ []) origins (slice_set origins p x)
takes_one from p known x origins there begins few is either other = record {
  count = same;
  noted = λ b lt i. elim i [ inl e ↦ subst (IsNoted (slice_set origins p x) from) (sym e) at_p | inr z ↦ absurd z ];
  stays = λ o b lo lt h. elim (same_or_not b p) [
    | inl e ↦ subst (IsNoted (slice_set origins p x) o) (sym e) (kept o lo (subst (IsNoted origins o) e h))
    | inr n ↦ elim h [
      | inl q ↦ inl (get_or-set_other origins p b x 0 n ∙ q)
      | inr q ↦ inr (get_or-set_other origins p b x 0 n ∙ q ∙ sym same)
    ]
  ];
  joins = λ b lt. elim (same_or_not b p) [
    | inl e ↦ inr (inl e, subst (λ z. IsJoined (length origins) (slice_index_or origins z 0) from (slice_index_or (slice_set origins p x) z 0)) (sym e) at_p_joined)
    | inr n ↦ inl (get_or-set_other origins p b x 0 n)
  ];
}
  where
    same : length (slice_set origins p x) ≡ length origins
    same = length-set origins p x

    set_is : slice_index_or (slice_set origins p x) p 0 ≡ x
    set_is = get_or-set_same origins p x 0 there

    known_is : known ≡ slice_index_or origins p 0
    known_is = get_or_read origins p known there is 0

    at_p : IsNoted (slice_set origins p x) from p
    at_p = elim either [ inl e ↦ inl (set_is ∙ e) | inr j ↦ inr (set_is ∙ j.0 ∙ sym same) ]

    at_p_joined : IsJoined (length origins) (slice_index_or origins p 0) from (slice_index_or (slice_set origins p x) p 0)
    at_p_joined = subst (IsJoined (length origins) (slice_index_or origins p 0) from) (sym set_is) (subst (λ z. IsJoined (length origins) z from x) known_is either)

    many : known < 2 ^ 64 - 1 → (known ≡ from → ⊥) → slice_index_or (slice_set origins p x) p 0 ≡ length (slice_set origins p x)
    many small ne = set_is ∙ other small ne ∙ sym same

    kept : (o : ℕ) → o < length origins → IsNoted origins o p → IsNoted (slice_set origins p x) o p
    kept o lo (inl q) =
        let k : known ≡ o = known_is ∙ q in
        elim (same_or_not known from) [
          | inl e ↦ subst (λ z. IsNoted (slice_set origins p x) z p) (sym e ∙ k) at_p
          | inr n ↦ inr (many (omega arith) n)
        ]
    kept o lo (inr q) = let k : known ≡ length origins = known_is ∙ q in inr (many (omega arith) (λ e. absurd (omega arith)))

pub noted_more : (blocks : List Block) (i : ℕ) (block : Block) (before after : List ℕ) → i < length blocks → block ≡ get_or blocks i block → length before ≡ length blocks → NotedBefore blocks i before → Takes i (targets_of block.exit) before after → NotedBefore blocks (i + 1) after
noted_more blocks i block before after lt is many h t from b found lo at leads below = elim (same_or_not from i) [
  | inl e ↦
      let here : slice_get blocks i ≡ Some block = get_some blocks i block lt is in
      let same : found ≡ block = same_Some found block (sym at ∙ ap (slice_get blocks) e ∙ here) in
      subst (λ z. IsNoted after z b) (sym e) (t.noted b (omega arith) (subst (λ (z : Block). IsIn b (targets_of z.exit)) same leads))
  | inr n ↦ t.stays from b (let k : from < i = grind arith in omega arith) (omega arith) (h from b found (grind arith) at leads below)
]

-- what is noted stays true

later : (blocks : List Block) (i from b : ℕ) → LeadsBefore blocks i from b → LeadsBefore blocks (i + 1) from b
later blocks i from b h = let s : from < i = h.0 in (omega arith, h.1)

true_later : (blocks : List Block) (i many b noted : ℕ) → NoteIsTrue blocks i many b noted → NoteIsTrue blocks (i + 1) many b noted
true_later blocks i many b noted (inl e) = inl e
true_later blocks i many b noted (inr (inl h)) = inr (inl (later blocks i noted b h))
true_later blocks i many b noted (inr (inr h)) = inr (inr (
  h.0,
  record {
    one = h.1.one;
    other = h.1.other;
    differ = h.1.differ;
    from_one = later blocks i h.1.one b h.1.from_one;
    from_other = later blocks i h.1.other b h.1.from_other;
  },
))

true_joined : (blocks : List Block) (i many b known x : ℕ) → LeadsBefore blocks (i + 1) i b → NoteIsTrue blocks (i + 1) many b known → IsJoined many known i x → NoteIsTrue blocks (i + 1) many b x
true_joined blocks i many b known x leads t (inl e) = inr (inl (subst (λ z. LeadsBefore blocks (i + 1) z b) (sym e) leads))
true_joined blocks i many b known x leads (inl none) (inr j) = let small : known < 2 ^ 64 - 1 = j.1 in absurd (omega arith)
true_joined blocks i many b known x leads (inr (inl h)) (inr j) = inr (inr (j.0, record { one = known; other = i; differ = j.2; from_one = h; from_other = leads }))
true_joined blocks i many b known x leads (inr (inr h)) (inr j) = inr (inr (j.0, h.1))

pub true_none : (blocks : List Block) (n b : ℕ) → b < n → NoteIsTrue blocks 0 (length blocks) b (slice_index_or (replicate n (2 ^ 64 - 1)) b 0)
true_none blocks n b lt = inl (get_or-replicate n b (2 ^ 64 - 1) 0 lt)

pub none_before : (blocks : List Block) (n : ℕ) → n ≡ length blocks → TrueBefore blocks 0 (replicate n (2 ^ 64 - 1))
none_before blocks n e b lt = true_none blocks n b (subst (λ z. b < z) (sym e) lt)

pub true_more : (blocks : List Block) (i : ℕ) (block : Block) (before after : List ℕ) → i < length blocks → block ≡ get_or blocks i block → length before ≡ length blocks → TrueBefore blocks i before → Takes i (targets_of block.exit) before after → TrueBefore blocks (i + 1) after
true_more blocks i block before after lt is many h t b below = elim (t.joins b (omega arith)) [
  | inl e ↦ subst (NoteIsTrue blocks (i + 1) (length blocks) b) (sym e) old
  | inr j ↦ true_joined blocks i (length blocks) b (slice_index_or before b 0) (slice_index_or after b 0)
      (let at : i < i + 1 = omega arith in at, record { block = block; has = get_some blocks i block lt is; leads = j.0 })
      old (subst (λ z. IsJoined z (slice_index_or before b 0) i (slice_index_or after b 0)) many j.1)
]
  where
    old : NoteIsTrue blocks (i + 1) (length blocks) b (slice_index_or before b 0)
    old = true_later blocks i (length blocks) b (slice_index_or before b 0) (h b below)

pub true_all : (blocks : List Block) (i : ℕ) (origins : List ℕ) → i ≡ length blocks → TrueBefore blocks i origins → TrueBefore blocks (length blocks) origins
true_all blocks i origins e h = subst (λ z. TrueBefore blocks z origins) e h
