-- Where seats are: within the memory, apart from each other, and apart from links and slots.
use Rattle.std.proofs.Common.{◌≡◌, ◌≢◌, ◌<◌, ◌≤◌, ◌⊎◌, inl, inr, ⊎_elim, ◌+◌, ◌-◌, ◌*◌, ℕ, ℤ, Bool, true, false, Some, None, List, [], ◌∷◌, length, refl, sym, ap, ◌∙◌, subst, arith, leb}
use Rattle.std.specs.Prelude.{if◌then◌else◌, slice_get, slice_index_or}
use Rattle.std.proofs.lemmas.Bool.{le-leb, lt-leb, leb-true, leb-false}
use Rattle.std.proofs.lemmas.Option.{get_or_from_slice_get}
use Rattle.vx_flow.specs.declared.graph.Array.{Array}
use Rattle.vx_flow.specs.declared.graph.Global.{Global}
use Rattle.vx_flow.specs.declared.graph.Flow.{Flow}
use Rattle.vx_flow.specs.Effects.{Content, IsIn}
use Rattle.vx_flow.specs.Meaning.{spot_in, deepest}
use Rattle.vx_flow.specs.Sound.{SoundFlow}
use Rattle.vx_mixed.specs.declared.layout.VWords.{VWords}
use Rattle.vx_target.specs.Target.{Target, memory_words}
use Rattle.vx_target.specs.Tied.{Stacked, WasPassed, HasCell, IsStack, Seated, seat, words_before, row_in, begins_at, own_arrays, IsFunction}
use Rattle.vx_target.specs.Frames.{HasWord, IsFramed}
use Rattle.vx_target.specs.Seats.{HasFrames, Seats, Framed, is_link, is_slot}
use Rattle.vx_target.proofs.Cells.{row_there}
use Rattle.vx_target.proofs.Owned.{own_from, own_there, own_once, own_at, own_spot, handed_spot}
use Rattle.vx_target.proofs.Frames.{get_below, get_some, before_all, before_le, before_apart, array_kind}

-- the seat of a row of the latest activation, and of one in front of those

pub seat_here : (T : Target) (globals : List Global) (x : Stacked) (xs : List Stacked) (k j a : ℕ) → k ≡ x.base + j → slice_get (own_arrays T (length globals) x.function) j ≡ Some a → seat T globals (x ∷ xs) k ≡ x.frame + T.array_at x.function a
seat_here T globals x xs k j a e own =
    let q : k - x.base ≡ j = omega arith in
    ap (λ b. if b then x.frame + T.array_at x.function (slice_index_or (own_arrays T (length globals) x.function) (k - x.base) 0) else seat T globals xs k) (le-leb x.base k (omega arith))
    ∙ ap (λ i. x.frame + T.array_at x.function (slice_index_or (own_arrays T (length globals) x.function) i 0)) q
    ∙ ap (λ c. x.frame + T.array_at x.function c) (get_or_from_slice_get (own_arrays T (length globals) x.function) j a 0 own)

pub seat_before : (T : Target) (globals : List Global) (x : Stacked) (xs : List Stacked) (k : ℕ) → k < x.base → seat T globals (x ∷ xs) k ≡ seat T globals xs k
seat_before T globals x xs k lt = ap (λ b. if b then x.frame + T.array_at x.function (slice_index_or (own_arrays T (length globals) x.function) (k - x.base) 0) else seat T globals xs k) (lt-leb x.base k lt)

-- own rows of an activation, or rows in front of them
pub own_or_before : (base k : ℕ) → (base ≤ k) ⊎ (k < base)
own_or_before base k = by (leb base k) refl
  where
    by : (b : Bool) → leb base k ≡ b → (base ≤ k) ⊎ (k < base)
    by true e = inl (leb-true base k e)
    by false e = inr (leb-false base k e)

module _ (T : Target) (flow : Flow) (ls : List VWords) where
  abbrev pub Globals : ℕ
  Globals = length flow.globals

  -- the globals stand in front of all other rows, and frames end within the memory

  pub globals_first : (stack : List Stacked) (from behind : ℕ) → IsStack T flow ls from behind stack → Globals ≤ behind
  globals_first [] from behind is = let e = is.1 in omega arith
  globals_first (x ∷ xs) from behind is = let e = is.2 in let r = globals_first xs (from + T.frame) x.base is.4 in omega arith

  pub frames_inside : (stack : List Stacked) (from behind : ℕ) → IsStack T flow ls from behind stack → from ≤ memory_words T
  frames_inside [] from behind is = let e = is.0 in omega arith
  frames_inside (x ∷ xs) from behind is = let r = frames_inside xs (from + T.frame) x.base is.4 in omega arith

  pub frame_inside : (stack : List Stacked) (from behind : ℕ) → IsStack T flow ls from behind stack → (x : Stacked) → IsIn x stack → (from ≤ x.frame) × (x.frame + T.frame ≤ memory_words T)
  frame_inside [] from behind is x i = absurd i
  frame_inside (y ∷ ys) from behind is x (inl e) = let r = frames_inside ys (from + T.frame) y.base is.4 in let q : x.frame ≡ y.frame = ap (λ z. z.frame) e in let p = is.1 in (omega arith, omega arith)
  frame_inside (y ∷ ys) from behind is x (inr i) = let r = frame_inside ys (from + T.frame) y.base is.4 x i in let a = r.0 in (omega arith, r.1)

  -- the link and the slots of an activation are not below its frame
  pub framed_from : (stack : List Stacked) (from behind : ℕ) → IsStack T flow ls from behind stack → (x : Stacked) (word : ℕ) → IsIn x stack → Framed T x word → from ≤ word
  framed_from stack from behind is x word i (is_link q) = let r = frame_inside stack from behind is x i in let a = r.0 in omega arith
  framed_from stack from behind is x word i (is_slot v needs q) = let r = frame_inside stack from behind is x i in let a = r.0 in omega arith

  -- each is of a function
  pub function_in : (stack : List Stacked) (from behind : ℕ) → IsStack T flow ls from behind stack → (x : Stacked) → IsIn x stack → IsFunction T flow ls x.function
  function_in [] from behind is x i = absurd i
  function_in (y ∷ ys) from behind is x (inl e) = subst (λ (z : Stacked). IsFunction T flow ls z.function) (sym e) is.0
  function_in (y ∷ ys) from behind is x (inr i) = function_in ys (from + T.frame) y.base is.4 x i

  -- and of each what was passed to it stands in front of its own arrays
  pub passed_in : (stack : List Stacked) (from behind : ℕ) → IsStack T flow ls from behind stack → (x : Stacked) → IsIn x stack → WasPassed T Globals x
  passed_in [] from behind is x i = absurd i
  passed_in (y ∷ ys) from behind is x (inl e) = subst (WasPassed T Globals) (sym e) is.3
  passed_in (y ∷ ys) from behind is x (inr i) = passed_in ys (from + T.frame) y.base is.4 x i

  -- its own arrays are rows in front of where the rows end
  pub own_low : (stack : List Stacked) (from behind : ℕ) → IsStack T flow ls from behind stack → (x : Stacked) → IsIn x stack → (j a : ℕ) → slice_get (own_arrays T Globals x.function) j ≡ Some a → x.base + j < behind
  own_low [] from behind is x i j a own = absurd i
  own_low (y ∷ ys) from behind is x (inl e) j a own =
      let l = is.2 in
      let b : x.base ≡ y.base = ap (λ (z : Stacked). z.base) e in
      let c : length (own_arrays T Globals x.function) ≡ length (own_arrays T Globals y.function) = ap (λ (z : Stacked). length (own_arrays T Globals z.function)) e in
      let d = get_below (own_arrays T Globals x.function) j a own in omega arith
  own_low (y ∷ ys) from behind is x (inr i) j a own = let r = own_low ys (from + T.frame) y.base is.4 x i j a own in let l = is.2 in omega arith

module _ (T : Target) (flow : Flow) (ls : List VWords) (sound : SoundFlow flow) (frames : HasFrames T flow ls) where
  abbrev G : ℕ
  G = length flow.globals

  abbrev pub Seat : List Stacked → ℕ → ℕ
  Seat stack k = seat T flow.globals stack k

  -- the spots of its arrays are in front of where the rows end
  pub spot_low : (stack : List Stacked) (from behind : ℕ) → IsStack T flow ls from behind stack → (x : Stacked) → IsIn x stack → (a : ℕ) (array : Array) → slice_get (T.graph x.function).arrays a ≡ Some array → spot_in G x.passed x.base a < behind
  spot_low [] from behind is x i a array has = absurd i
  spot_low (y ∷ ys) from behind is x (inl e) a array has = subst (λ (z : Stacked). slice_get (T.graph z.function).arrays a ≡ Some array → spot_in G z.passed z.base a < behind) (sym e) here has
    where
      here : slice_get (T.graph y.function).arrays a ≡ Some array → spot_in G y.passed y.base a < behind
      here h = ⊎_elim
          (λ g. let s = g.spot y.passed y.base in let b = g.below in let f = globals_first T flow ls ys (from + T.frame) y.base is.4 in let l = is.2 in omega arith)
          (λ k. ⊎_elim
          (λ o. let r = own_at T G y.function a array o.from h o.bare in let s = own_spot T G y is.3 r.0 a r.1 in let l = is.2 in let c = get_below (own_arrays T G y.function) r.0 a r.1 in omega arith)
          (λ d. let s = handed_spot T G y is.3 a d.value array d.from h d.base in let l = is.2 in omega arith)
          k)
          (array_kind T flow frames.some frames.globals sound y.function ls is.0 (frames.each y.function is.0) a array h)
  spot_low (y ∷ ys) from behind is x (inr i) a array has = let r = spot_low ys (from + T.frame) y.base is.4 x i a array has in let l = is.2 in omega arith

  -- array a of an activation begins at the seat of its spot, where it was not handed over
  pub begins_there : (stack : List Stacked) (from behind : ℕ) → IsStack T flow ls from behind stack → (x : Stacked) → IsIn x stack → (a : ℕ) (array : Array) → slice_get (T.graph x.function).arrays a ≡ Some array → array.base ≡ None → begins_at T x.frame x.function a ≡ Seat stack (spot_in G x.passed x.base a)
  begins_there [] from behind is x i a array has bare = absurd i
  begins_there (y ∷ ys) from behind is x (inl e) a array has bare = subst (λ (z : Stacked). slice_get (T.graph z.function).arrays a ≡ Some array → begins_at T z.frame z.function a ≡ Seat (y ∷ ys) (spot_in G z.passed z.base a)) (sym e) here has
    where
      among : (stack : List Stacked) (from behind : ℕ) → IsStack T flow ls from behind stack → a < G → Seat stack a ≡ words_before flow.globals a
      among [] from behind is lt = refl
      among (z ∷ zs) from behind is lt = seat_before T flow.globals z zs a (let g = globals_first T flow ls zs (from + T.frame) z.base is.4 in omega arith) ∙ among zs (from + T.frame) z.base is.4 lt

      here : slice_get (T.graph y.function).arrays a ≡ Some array → begins_at T y.frame y.function a ≡ Seat (y ∷ ys) (spot_in G y.passed y.base a)
      here h = ⊎_elim
          (λ g. g.begins y.frame ∙ sym (ap (Seat (y ∷ ys)) (g.spot y.passed y.base) ∙ among (y ∷ ys) from behind is g.below))
          (λ k. ⊎_elim
          (λ o. let r = own_at T G y.function a array o.from h bare in o.begins y.frame ∙ sym (ap (Seat (y ∷ ys)) (own_spot T G y is.3 r.0 a r.1) ∙ seat_here T flow.globals y ys (y.base + r.0) r.0 a refl r.1))
          (λ d. absurd (let z : None ≡ Some d.value = sym bare ∙ d.base in cc))
          k)
          (array_kind T flow frames.some frames.globals sound y.function ls is.0 (frames.each y.function is.0) a array h)
  begins_there (y ∷ ys) from behind is x (inr i) a array has bare =
      begins_there ys (from + T.frame) y.base is.4 x i a array has bare ∙ sym (seat_before T flow.globals y ys (spot_in G x.passed x.base a) (spot_low ys (from + T.frame) y.base is.4 x i a array has))

  -- each row begins within the memory, also one without words
  pub seat_low : (stack : List Stacked) (from behind : ℕ) → IsStack T flow ls from behind stack → (k : ℕ) → k < behind → Seat stack k ≤ memory_words T
  seat_low [] from behind is k lt = let e = is.1 in let b = before_le flow.globals k (omega arith) in let g = frames.globals in let m : memory_words T ≡ T.globals + T.frame * deepest = refl in omega arith
  seat_low (x ∷ xs) from behind is k lt = ⊎_elim
      (λ le.
      let l = is.2 in
      let j : ℕ = k - x.base in
      let row_is : k ≡ x.base + j = omega arith in
      let g = get_some (own_arrays T G x.function) j (omega arith) in
      let t = own_there T G x.function j g.0 g.1 in
      let s = seat_here T flow.globals x xs k j g.0 row_is g.1 in
      let e = (frames.each x.function is.0).own_end g.0 t.0 (own_from T G x.function j g.0 g.1) t.1 in
      let f = is.1 in
      let m = frames_inside T flow ls xs (from + T.frame) x.base is.4 in omega arith)
      (λ less. let s = seat_before T flow.globals x xs k less in let r = seat_low xs (from + T.frame) x.base is.4 k less in omega arith)
      (own_or_before x.base k)

  module _ (rows : List (List Content)) where
    abbrev Global_sizes : Type 0
    Global_sizes = (k : ℕ) (x : Global) → slice_get flow.globals k ≡ Some x → length (row_in rows k) ≡ x.words

    abbrev Own_sizes : List Stacked → Type 0
    Own_sizes stack = (x : Stacked) (j a : ℕ) (array : Array) → IsIn x stack → slice_get (own_arrays T G x.function) j ≡ Some a → slice_get (T.graph x.function).arrays a ≡ Some array → length (row_in rows (x.base + j)) ≡ array.words

    -- a word of a row of globals is one of a global, and one of a row of an activation one of its array
    global_cell : Global_sizes → (k i : ℕ) → k < G → HasCell rows k i → (x : Global) × (slice_get flow.globals k ≡ Some x) × (i < x.words)
    global_cell sizes k i lt has = let x = get_some flow.globals k lt in let s = sizes k x.0 x.1 in (x.0, x.1, omega arith)

    record OwnCell (x : Stacked) (xs : List Stacked) (k i : ℕ) : Type 0 where
      rank : ℕ
      number : ℕ
      row : k ≡ x.base + rank
      own : slice_get (own_arrays T G x.function) rank ≡ Some number
      from : G ≤ number
      word : HasWord T x.function number i
      stands : Seat (x ∷ xs) k ≡ x.frame + T.array_at x.function number

    own_cell : (x : Stacked) (xs : List Stacked) (behind : ℕ) → x.base + length (own_arrays T G x.function) ≡ behind → Own_sizes (x ∷ xs) → (k i : ℕ) → x.base ≤ k → k < behind → HasCell rows k i → OwnCell x xs k i
    own_cell x xs behind last sizes k i le lt has =
        let j : ℕ = k - x.base in
        let row_is : k ≡ x.base + j = omega arith in
        let g = get_some (own_arrays T G x.function) j (omega arith) in
        let t = own_there T G x.function j g.0 g.1 in
        let s = sizes x j g.0 t.0 (inl refl) g.1 t.1 in
        let r : length (row_in rows k) ≡ t.0.words = ap (λ y. length (row_in rows y)) row_is ∙ s in
        record { rank = j; number = g.0; row = row_is; own = g.1; from = own_from T G x.function j g.0 g.1; word = record { array = t.0; is = t.1; below = omega arith }; stands = seat_here T flow.globals x xs k j g.0 row_is g.1 }

    -- where a word of a row is: among the globals, or in frames from the latest on
    pub seat_room : Global_sizes → (stack : List Stacked) (from behind : ℕ) → IsStack T flow ls from behind stack → Own_sizes stack → (k i : ℕ) → k < behind → HasCell rows k i → (Seat stack k + i < T.globals) ⊎ ((from ≤ Seat stack k + i) × (Seat stack k + i < memory_words T))
    seat_room globals [] from behind is own k i lt has = inl (let e = is.1 in let c = global_cell globals k i (omega arith) has in let b = before_all flow.globals k i c.0 c.1 c.2 in let g = frames.globals in omega arith)
    seat_room globals (x ∷ xs) from behind is own k i lt has = ⊎_elim
        (λ le. let o = own_cell x xs behind is.2 own k i le lt has in let c = (frames.each x.function is.0).own_to o.number i o.from o.word in let s = o.stands in let f = is.1 in let m = frames_inside T flow ls xs (from + T.frame) x.base is.4 in inr (omega arith, omega arith))
        (λ less. let s = seat_before T flow.globals x xs k less in ⊎_elim
        (λ g. inl (omega arith))
        (λ r. let a = r.0 in let b = r.1 in inr (omega arith, omega arith))
        (seat_room globals xs (from + T.frame) x.base is.4 (λ y r a array j o h. own y r a array (inr j) o h) k i less has))
        (own_or_before x.base k)

    -- a word in the frame of the latest activation is none of the rows in front of it
    below_rest : Global_sizes → (x : Stacked) (xs : List Stacked) (from behind : ℕ) → IsStack T flow ls from behind (x ∷ xs) → T.globals ≤ from → Own_sizes (x ∷ xs) → (k i z : ℕ) → k < x.base → HasCell rows k i → z < T.frame → x.frame + z ≢ Seat (x ∷ xs) k + i
    below_rest globals x xs from behind is high own k i z less has inside e =
        let s = seat_before T flow.globals x xs k less in
        let f = is.1 in ⊎_elim
        (λ g. absurd (omega arith))
        (λ r. let a = r.0 in absurd (omega arith))
        (seat_room globals xs (from + T.frame) x.base is.4 (λ y r a array j o h. own y r a array (inr j) o h) k i less has)

    -- two words of rows are two words of memory
    pub seats_apart : Global_sizes → (stack : List Stacked) (from behind : ℕ) → IsStack T flow ls from behind stack → T.globals ≤ from → Own_sizes stack → (k l i j : ℕ) → k < behind → l < behind → HasCell rows k i → HasCell rows l j → Seat stack k + i ≡ Seat stack l + j → (k ≡ l) × (i ≡ j)
    seats_apart globals [] from behind is high own k l i j lk ll hk hl e =
        let b = is.1 in
        let c = global_cell globals k i (omega arith) hk in
        let d = global_cell globals l j (omega arith) hl in
        before_apart flow.globals k l i j c.0 d.0 c.1 d.1 c.2 d.2 e
    seats_apart globals (x ∷ xs) from behind is high own k l i j lk ll hk hl e = ⊎_elim
        (λ a. ⊎_elim
        (λ b. both a b)
        (λ b. absurd (mixed k l i j a lk hk b hl e))
        (own_or_before x.base l))
        (λ a. ⊎_elim
        (λ b. absurd (mixed l k j i b ll hl a hk (sym e)))
        (λ b. seats_apart globals xs (from + T.frame) x.base is.4 (omega arith) (λ y r c array m o h. own y r c array (inr m) o h) k l i j a b hk hl (sym (ap (λ z. z + i) (seat_before T flow.globals x xs k a)) ∙ e ∙ ap (λ z. z + j) (seat_before T flow.globals x xs l b)))
        (own_or_before x.base l))
        (own_or_before x.base k)
      where
        framed : IsFramed T flow x.function
        framed = frames.each x.function is.0

        mixed : (k l i j : ℕ) → x.base ≤ k → k < behind → HasCell rows k i → l < x.base → HasCell rows l j → Seat (x ∷ xs) k + i ≡ Seat (x ∷ xs) l + j → ⊥
        mixed k l i j le lk hk less hl e =
            let o = own_cell x xs behind is.2 own k i le lk hk in
            let s = o.stands in
            below_rest globals x xs from behind is high own l j (T.array_at x.function o.number + i) less hl (framed.own_to o.number i o.from o.word) (omega arith)

        both : x.base ≤ k → x.base ≤ l → (k ≡ l) × (i ≡ j)
        both a b =
            let o = own_cell x xs behind is.2 own k i a lk hk in
            let p = own_cell x xs behind is.2 own l j b ll hl in
            let s = o.stands in
            let t = p.stands in
            let q = framed.own_apart o.number p.number i j o.from p.from o.word p.word (omega arith) in
            let c = own_once T G x.function o.rank p.rank o.number p.number o.own p.own q.0 in
            let d = o.row in
            let f = p.row in (omega arith, q.1)

    -- and none is a word of a frame that is none of the own arrays there
    pub frame_free : Global_sizes → (stack : List Stacked) (from behind : ℕ) → IsStack T flow ls from behind stack → T.globals ≤ from → Own_sizes stack → (y : Stacked) → IsIn y stack → (z : ℕ) → z < T.frame → ((a i : ℕ) → G ≤ a → HasWord T y.function a i → z ≢ T.array_at y.function a + i) →
        (k i : ℕ) → k < behind → HasCell rows k i → y.frame + z ≢ Seat stack k + i
    frame_free globals [] from behind is high own y m z inside free k i lt has e = absurd m
    frame_free globals (x ∷ xs) from behind is high own y (inl q) z inside free k i lt has e = ⊎_elim
        (λ le. absurd (let o = own_cell x xs behind is.2 own k i le lt has in
        let s = o.stands in
        let c : y.frame ≡ x.frame = ap (λ v. v.frame) q in
        free_x o.number i o.from o.word (omega arith)))
        (λ less. let c : y.frame ≡ x.frame = ap (λ v. v.frame) q in below_rest globals x xs from behind is high own k i z less has inside (ap (λ v. v + z) (sym c) ∙ e))
        (own_or_before x.base k)
      where
        free_x : (a i : ℕ) → G ≤ a → HasWord T x.function a i → z ≢ T.array_at x.function a + i
        free_x = subst (λ (v : Stacked). (a i : ℕ) → G ≤ a → HasWord T v.function a i → z ≢ T.array_at v.function a + i) q free
    frame_free globals (x ∷ xs) from behind is high own y (inr m) z inside free k i lt has e = ⊎_elim
        (λ le. absurd (let o = own_cell x xs behind is.2 own k i le lt has in
        let w = (frames.each x.function is.0).own_to o.number i o.from o.word in
        let s = o.stands in
        let f = is.1 in
        let r = frame_inside T flow ls xs (from + T.frame) x.base is.4 y m in
        let a = r.0 in omega arith))
        (λ less. frame_free globals xs (from + T.frame) x.base is.4 (omega arith) (λ v r a array j o h. own v r a array (inr j) o h) y m z inside free k i less has (e ∙ ap (λ v. v + i) (seat_before T flow.globals x xs k less)))
        (own_or_before x.base k)

  -- together: rows that are seated in a stack have a table of seats
  pub table : (stack : List Stacked) (from : ℕ) (rows : List (List Content)) (memory : ℕ → ℤ) → IsStack T flow ls from (length rows) stack → T.globals ≤ from → Seated T flow.globals stack rows memory → Seats T G stack rows memory (seat T flow.globals stack)
  table stack from rows memory is high seated =
      let sized = seated.sized in
      let there : (k i : ℕ) → HasCell rows k i → k < length rows = λ k i has. row_there rows k i has in
      record {
        known = seated.known;
        inside = λ k i has. ⊎_elim (λ g. let m = frames_inside T flow ls stack from (length rows) is in omega arith) (λ r. r.1) (seat_room rows sized.global stack from (length rows) is sized.own k i (there k i has) has);
        apart = λ k l i j hk hl e. seats_apart rows sized.global stack from (length rows) is high sized.own k l i j (there k i hk) (there l j hl) hk hl e;
        free = λ x word k i m framed has. by_word x word k i m (function_in T flow ls stack from (length rows) is x m) framed has;
        low = λ k lt. seat_low stack from (length rows) is k lt;
        stands = λ x a array m has. spot_low stack from (length rows) is x m a array has;
        begins = λ x a array m has bare. begins_there stack from (length rows) is x m a array has bare;
        sizes = λ x a array m has bare. ⊎_elim
            (λ g. ap (λ j. length (row_in rows j)) (g.spot x.passed x.base) ∙ sized.global a g.item g.has ∙ sym g.words)
            (λ k. ⊎_elim
            (λ o. let r = own_at T G x.function a array o.from has bare in ap (λ j. length (row_in rows j)) (own_spot T G x (passed_in T flow ls stack from (length rows) is x m) r.0 a r.1) ∙ sized.own x r.0 a array m r.1 has)
            (λ d. absurd (let z : None ≡ Some d.value = sym bare ∙ d.base in cc))
            k)
            (array_kind T flow frames.some frames.globals sound x.function ls (function_in T flow ls stack from (length rows) is x m) (frames.each x.function (function_in T flow ls stack from (length rows) is x m)) a array has);
      }
    where
      by_word : (x : Stacked) (word k i : ℕ) → IsIn x stack → IsFunction T flow ls x.function → Framed T x word → HasCell rows k i → word ≢ seat T flow.globals stack k + i
      by_word x word k i m f (is_link q) has e =
          frame_free rows seated.sized.global stack from (length rows) is high seated.sized.own x m 0 (let z = frames.some in omega arith) (λ a j le w z. let g = (frames.each x.function f).own_from a j le w in omega arith) k i (row_there rows k i has) has (omega arith)
      by_word x word k i m f (is_slot v needs q) has e =
          let g = frames.each x.function f in
          frame_free rows seated.sized.global stack from (length rows) is high seated.sized.own x m (T.slot x.function v) (g.slot_to v needs) (λ a j le w. g.slot_own v a j needs le w) k i (row_there rows k i has) has (sym q ∙ e)
