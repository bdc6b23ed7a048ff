use Rattle.std.proofs.Common.{◌≡◌, ℕ, List, IfSome, ap, subst, ◌∙◌}
use Rattle.vx_flow.specs.declared.graph.Array.{Array}
use Rattle.vx_flow.specs.declared.graph.Op.{Op}
use Rattle.vx_flow.specs.declared.graph.Exit.{Exit}
use Rattle.vx_flow.specs.declared.graph.Block.{Block}
use Rattle.vx_claims.specs.declared.fact.Fact.{Fact}
use Rattle.vx_claims.specs.declared.access.Access.{Access}
use Rattle.vx_claims.specs.declared.claim.Claim.{Claim}
use Rattle.vx_claims.specs.Claims.{listed_claims}
use Rattle.vx_claims.specs.Forming.{after_all, after_from}
use Rattle.vx_narrow.specs.Shortening.{improved_all, improved_from}
use Rattle.vx_narrow.specs.Rewriting.{narrowed_block, narrowed_exit}
use Rattle.vx_narrow.proofs.block_pass.narrowed_block.Goals as goal

abbrev block_of : List Op → Exit → Block
block_of ops exit = record { ops = ops; exit = exit }

from_claim : {X : Type 0} (F : List Fact → List Access → List Op → X) (claim : Claim) (block : Block) (fs : List Fact) (xs : List Access) (ops : List Op) → fs ≡ claim.facts → xs ≡ claim.accesses → ops ≡ block.ops → F fs xs ops ≡ F claim.facts claim.accesses block.ops
from_claim F claim block fs xs ops f x o = ap (λ (h : List Fact). F h xs ops) f ∙ ap (λ (h : List Access). F claim.facts h ops) x ∙ ap (λ (h : List Op). F claim.facts claim.accesses h) o

block_is : (arrays : List Array) (claims : ℕ → Claim) (place : ℕ) (block : Block) (fs behind : List Fact) (xs : List Access) (ops made : List Op) (exit : Exit) → fs ≡ (claims place).facts → xs ≡ (claims place).accesses → ops ≡ block.ops
    → made ≡ improved_from arrays ops fs xs ops → behind ≡ after_from arrays fs xs ops → exit ≡ narrowed_exit behind block.exit → block_of made exit ≡ narrowed_block arrays claims place block
block_is arrays claims place block fs behind xs ops made exit f x o m b e =
    let all : made ≡ improved_all arrays (claims place) block.ops = m ∙ from_claim (λ (h : List Fact) (x : List Access) (o : List Op). improved_from arrays o h x o) (claims place) block fs xs ops f x o in
    let known : behind ≡ after_all arrays (claims place) block.ops = b ∙ from_claim (after_from arrays) (claims place) block fs xs ops f x o in
    ap (λ (h : List Op). block_of h exit) all
    ∙ ap (λ (h : Exit). block_of (improved_all arrays (claims place) block.ops) h) (e ∙ ap (λ (h : List Fact). narrowed_exit h block.exit) known)

pub returns-in-Ok-Some-clause-narrowed : goal.returns-in-Ok-Some-clause-narrowed
returns-in-Ok-Some-clause-narrowed c =
    let block : Block = c.args.block.now in
    let passed = c.in_ok-passed.passed in
    let e : c.in-Ok-Some.exit ≡ narrowed_exit passed.facts block.exit = subst (λ o. IfSome o (λ made. made ≡ narrowed_exit passed.facts block.exit)) c.in-Ok-Some.field-0-is c.in-Ok-Some.ensures.narrowed in
    block_is c.args.arrays.now (listed_claims c.args.table.now) c.args.place block c.facts_in.result.now passed.facts c.accesses_in.result.now c.as_slice.result.now passed.ops c.in-Ok-Some.exit
    c.facts_in.ensures c.accesses_in.ensures c.as_slice.ensures c.in_ok-passed.ensures.ops c.in_ok-passed.ensures.facts e
