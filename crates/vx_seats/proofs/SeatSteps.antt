-- Steps of a run keep rows seated.
use Rattle.std.proofs.Common.{◌+◌, ◌*◌, ℕ, ℤ, Some, List, length, refl, sym, ap, ◌∙◌, subst, arith}
use Rattle.vx_flow.specs.declared.graph.Flow.{Flow}
use Rattle.vx_flow.specs.Effects.{Content, IsIn}
use Rattle.vx_flow.specs.Meaning.{spot_in}
use Rattle.vx_flow.specs.Sound.{SoundFlow, is_sound_flow}
use Rattle.vx_flow.proofs.SoundFlowLaw.{told}
use Rattle.vx_isa.specs.Machine.{stored}
use Rattle.vx_mixed.specs.declared.layout.VWords.{VWords}
use Rattle.vx_target.specs.Target.{Target}
use Rattle.vx_target.specs.Tied.{Stacked, HasCell, IsStack, seat, word_at}
use Rattle.vx_target.specs.Seats.{HasFrames, Framed, Seats}
use Rattle.vx_target.proofs.Cells.{set_shape, store_off}
use Rattle.vx_target.proofs.SeatRoom.{table}
use Rattle.vx_target.proofs.SeatSteps.{seated_on, seated_store, entered_stack, entered_seated, returned_stack, returned_seated}
use Rattle.vx_seats.specs.Arrays.{Arrays}
use Rattle.vx_seats.specs.SeatLaws.{InStack, with_word, TableLaw, StoreLaw, SlotLaw, EnteredLaw, ReturnedLaw, ArraysLaw}

module _ (T : Target) (flow : Flow) (ls : List VWords) (sound : SoundFlow flow) (frames : HasFrames T flow ls) (from : ℕ) (stack : List Stacked) (rows : List (List Content)) (memory : ℕ → ℤ) (s : InStack T flow ls from stack rows memory) where
  its_table : Seats T (length flow.globals) stack rows memory (seat T flow.globals stack)
  its_table = table T flow ls sound frames stack from rows memory s.stacked s.above s.seated

  store_kept : (k i : ℕ) (n : ℤ) → HasCell rows k i → InStack T flow ls from stack (with_word rows k i n) (stored memory (4 * (seat T flow.globals stack k + i)) n)
  store_kept k i n has = record {
    stacked = subst (λ c. IsStack T flow ls from c stack) (sym (set_shape rows k i (Some n) has).count) s.stacked;
    above = s.above;
    seated = seated_store T flow.globals stack rows memory k i n has (λ l j there e. its_table.apart l k j i there has e) s.seated;
  }

  slot_kept : (x : Stacked) (word : ℕ) (n : ℤ) → IsIn x stack → Framed T x word → InStack T flow ls from stack rows (stored memory (4 * word) n)
  slot_kept x word n i framed = record {
    stacked = s.stacked;
    above = s.above;
    seated = seated_on T flow.globals stack rows memory (stored memory (4 * word) n) (λ k j has. store_off memory word (seat T flow.globals stack k + j) n (λ e. its_table.free x word k j i framed has (sym e))) s.seated;
  }

  arrays_of : (x : Stacked) → IsIn x stack → Arrays T (length flow.globals) memory (seat T flow.globals stack) x rows
  arrays_of x m = record {
    row = λ a array has bare.
        let size = its_table.sizes x a array m has bare in
        record {
          size = size;
          is = λ i n lt e. ap (λ b. word_at memory (b + i)) (its_table.begins x a array m has bare) ∙ its_table.known (spot_in (length flow.globals) x.passed x.base a) i n (omega arith) e;
        };
    handed = λ a array has. record { size = refl; is = λ i n lt e. its_table.known (spot_in (length flow.globals) x.passed x.base a) i n lt e };
    stands = λ a array has. its_table.stands x a array m has;
  }

pub table_law : TableLaw
table_law T flow ls sound frames from stack rows memory s = its_table T flow ls ((told flow (is_sound_flow flow) refl).0 sound) frames from stack rows memory s

pub store_law : StoreLaw
store_law T flow ls sound frames from stack rows memory s k i n has = store_kept T flow ls ((told flow (is_sound_flow flow) refl).0 sound) frames from stack rows memory s k i n has

pub slot_law : SlotLaw
slot_law T flow ls sound frames from stack rows memory s x word n i framed = slot_kept T flow ls ((told flow (is_sound_flow flow) refl).0 sound) frames from stack rows memory s x word n i framed

pub entered_law : EnteredLaw
entered_law T flow ls sound frames from stack rows memory s g passed is was high = record {
  stacked = entered_stack T flow ls stack from rows g passed is was s.stacked;
  above = high;
  seated = entered_seated T flow ls stack (from + T.frame) rows memory g from passed s.stacked s.seated;
}

pub returned_law : ReturnedLaw
returned_law T flow ls sound frames from x stack rows memory s = record {
  stacked = returned_stack T flow ls x stack from rows s.stacked;
  above = (let a = s.above in omega arith);
  seated = returned_seated T flow ls x stack from rows s.stacked memory s.seated;
}

pub arrays_law : ArraysLaw
arrays_law T flow ls sound frames from stack rows memory s x m = arrays_of T flow ls ((told flow (is_sound_flow flow) refl).0 sound) frames from stack rows memory s x m
