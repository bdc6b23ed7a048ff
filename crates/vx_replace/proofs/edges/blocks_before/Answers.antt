use Rattle.std.proofs.Common.{◌≡◌, ◌<◌, ◌-◌, ◌∙◌, ℕ, Vec, Global, Option, None, drop, length, slice_index_or, take, sym, ap, subst}
use Rattle.std.specs.Prelude.{replicate}
use Rattle.vx_mixed.specs.MovedEdges.{before_each, with_before}
use Rattle.vx_replace.proofs.PutSteps.{first_of, in_rest, none_many, none_of}
use Rattle.vx_replace.proofs.edges.blocks_before.Goals.{in_default, in-len1-up}
use Rattle.vx_replace.proofs.edges.blocks_before.Goals as goal

pub put_before-requires : goal.put_before-requires
put_before-requires c = λ b h.
    let many : length c.in_ok-before.before.items ≡ c.args.nodes = ap length c.in_ok-before.ensures ∙ none_many c.args.nodes in
    subst (λ n. b < n) (sym many) (c.requires b (in_rest c.args.blocks.now (length c.args.blocks.now - 1) b h))

pub returns : goal.returns
returns c =
    let bs = c.args.blocks.now in
    elim c.if-blocks-lt1.branch [
      | in_default w ↦
          ap (λ (v : Vec (Option ℕ) Global). v.items) w.before-is
          ∙ c.in_ok-before.ensures
          ∙ ap (λ blocks. before_each blocks (replicate c.args.nodes None)) (sym (none_of bs w.in_default.len_below))
      | in-len1-up w ↦
          ap (λ (v : Vec (Option ℕ) Global). v.items) w.before-is
          ∙ w.put_before.ensures
          ∙ ap (with_before (slice_index_or bs 0 0) (take (length bs - 1) (drop 1 bs))) c.in_ok-before.ensures
          ∙ ap (λ blocks. before_each blocks (replicate c.args.nodes None)) (sym (first_of bs w.in-len1-up.len_at_least))
    ]
