use Rattle.std.proofs.Common.{◌≡◌, ◌∷◌, [], ℕ, ◌+◌, ◌-◌, ◌<◌, ◌≤◌, length, ◌++◌, sym, ◌∙◌, arith}
use Rattle.vx_ast.specs.declared.token.Piece.TheVariants.{Skipped, Spelled, Faulty}
use Rattle.vx_ast.specs.declared.token.TokenKind.TheVariants.{End}
use Rattle.vx_ast.specs.Tokens.{piece_at, token_at, LexesFrom}
use Rattle.vx_lex.proofs.Scan.{skip_within, token_within, fault_within, lexes_skip, lexes_token, refuses_skip, refuses_token, refuses_fault}
use Rattle.vx_lex.proofs.scanner.tokens.Goals as goal

nearer : (len place count next : ℕ) → 0 < count → place + count ≤ len → next ≡ place + count → len - next < len - place
nearer len place count next some fits e = omega arith

fits_at : (len place count next : ℕ) → place + count ≤ len → next ≡ place + count → next ≤ len
fits_at len place count next fits e = omega arith

few_at : (len place count : ℕ) → place + count ≤ len → len ≤ 1048576 → place + count ≤ 1048576
few_at len place count fits few = omega arith

ends_at : (len place : ℕ) → place ≤ len → len ≤ place → place ≡ len
ends_at len place a b = omega arith

pub behind-spot-requires-clause-within : goal.behind-spot-requires-clause-within
behind-spot-requires-clause-within c =
    let is : Skipped c.in-Skipped.count ≡ piece_at c.args.bytes.now c.pieces.spot.place = sym c.in-Skipped.is ∙ c.in_ok-piece.ensures in
    (skip_within _ _ _ c.pieces-test.true is).1

pub pieces-smaller-in-Skipped : goal.pieces-smaller-in-Skipped
pieces-smaller-in-Skipped c =
    let is : Skipped c.in-Skipped.count ≡ piece_at c.args.bytes.now c.pieces.spot.place = sym c.in-Skipped.is ∙ c.in_ok-piece.ensures in
    let fits = skip_within _ _ _ c.pieces-test.true is in
    nearer _ _ _ _ fits.0 fits.1 c.behind-spot.ensures.place

pub pieces-preserved-in-Skipped : goal.pieces-preserved-in-Skipped
pieces-preserved-in-Skipped c =
    let is : Skipped c.in-Skipped.count ≡ piece_at c.args.bytes.now c.pieces.spot.place = sym c.in-Skipped.is ∙ c.in_ok-piece.ensures in
    let fits = skip_within _ _ _ c.pieces-test.true is in
    record {
      spot = c.behind-spot.ensures.spot;
      within = fits_at _ _ _ _ fits.1 c.behind-spot.ensures.place;
      lexes = λ rest d. c.pieces.invariant.lexes rest (lexes_skip _ _ _ _ rest c.pieces-test.true is c.behind-spot.ensures.place d);
      refuses = λ f d. c.pieces.invariant.refuses f (refuses_skip _ _ _ _ f c.pieces-test.true is c.behind-spot.ensures.place d);
    }

pub token_at-requires-clause-few : goal.token_at-requires-clause-few
token_at-requires-clause-few c =
    let is : Spelled c.in-Spelled.kind c.in-Spelled.count ≡ piece_at c.args.bytes.now c.pieces.spot.place = sym c.in-Spelled.is ∙ c.in_ok-piece.ensures in
    few_at _ _ _ (token_within _ _ _ _ c.pieces-test.true is).1 c.requires

pub behind-spot-requires-in-Spelled-clause-within : goal.behind-spot-requires-in-Spelled-clause-within
behind-spot-requires-in-Spelled-clause-within c =
    let is : Spelled c.in-Spelled.kind c.in-Spelled.count ≡ piece_at c.args.bytes.now c.pieces.spot.place = sym c.in-Spelled.is ∙ c.in_ok-piece.ensures in
    (token_within _ _ _ _ c.pieces-test.true is).1

pub pieces-smaller : goal.pieces-smaller
pieces-smaller c =
    let is : Spelled c.in-Spelled.kind c.in-Spelled.count ≡ piece_at c.args.bytes.now c.pieces.spot.place = sym c.in-Spelled.is ∙ c.in_ok-piece.ensures in
    let fits = token_within _ _ _ _ c.pieces-test.true is in
    nearer _ _ _ _ fits.0 fits.1 c.behind-spot-in-Spelled.ensures.place

pub pieces-preserved : goal.pieces-preserved
pieces-preserved c =
    let is : Spelled c.in-Spelled.kind c.in-Spelled.count ≡ piece_at c.args.bytes.now c.pieces.spot.place = sym c.in-Spelled.is ∙ c.in_ok-piece.ensures in
    let fits = token_within _ _ _ _ c.pieces-test.true is in
    let pushed : c.push.new.self.items ≡ c.pieces.tokens.items ++ token_at c.args.bytes.now c.in-Spelled.kind c.pieces.spot.place c.in-Spelled.count ∷ []
    = rw (← c.token_at.ensures) c.in_ok-push-in-Spelled.ensures.items in
    record {
      spot = c.behind-spot-in-Spelled.ensures.spot;
      within = fits_at _ _ _ _ fits.1 c.behind-spot-in-Spelled.ensures.place;
      lexes = λ rest d. lexes_token _ _ _ _ c.in-Spelled.kind _ _ rest c.pieces-test.true is c.behind-spot-in-Spelled.ensures.place pushed c.pieces.invariant.lexes d;
      refuses = λ f d. c.pieces.invariant.refuses f (refuses_token _ _ _ _ c.in-Spelled.kind f c.pieces-test.true is c.behind-spot-in-Spelled.ensures.place d);
    }

pub behind-line-requires-clause-within : goal.behind-line-requires-clause-within
behind-line-requires-clause-within c =
    let is : Faulty c.in-Faulty.code c.in-Faulty.count ≡ piece_at c.args.bytes.now c.pieces.spot.place = sym c.in-Faulty.is ∙ c.in_ok-piece.ensures in
    fault_within _ _ _ _ c.pieces-test.true is

pub returns-in-Faulty-clause-fault : goal.returns-in-Faulty-clause-fault
returns-in-Faulty-clause-fault c =
    let is : Faulty c.in-Faulty.code c.in-Faulty.count ≡ piece_at c.args.bytes.now c.pieces.spot.place = sym c.in-Faulty.is ∙ c.in_ok-piece.ensures in
    c.pieces.invariant.refuses _ (refuses_fault _ _ _ _ _ _ _ c.pieces-test.true is c.behind-line.ensures.place c.behind-line.ensures.spot.line c.behind-line.ensures.spot.column)

pub returns-clause-ok : goal.returns-clause-ok
returns-clause-ok c =
    let ended : c.pieces.spot.place ≡ length c.args.bytes.now = ends_at _ _ c.pieces.invariant.within c.pieces-test.false in
    let pushed : c.push-2.new.self.items ≡ c.pieces.tokens.items ++ token_at c.args.bytes.now End c.pieces.spot.place 0 ∷ []
    = rw (← c.token_at-2.ensures) c.in_ok-push.ensures.items in
    rw pushed (c.pieces.invariant.lexes _ (LexesFrom.end ended))
