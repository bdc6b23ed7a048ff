-- No command is named, or there is no memory for the words: nothing was read or put.
use Rattle.std.proofs.Common.{◌≡◌, ◌<◌, ℕ, List, [], ◌∷◌, None, inl, inr, length, map, refl, arith}
use Rattle.vx_command.specs.Command.{command_of}
use Rattle.vx_commands.proofs.Performing.{performed_none}
use Rattle.vx_commands.proofs.commands.perform.Goals as goal

none_named : {S : Type 0} (text : S → List ℕ) (words : List S) → length words < 2 → command_of (map text words) ≡ None
none_named text [] few = refl
none_named text (program ∷ []) few = refl
none_named text (program ∷ name ∷ words) few = absurd (omega (arith, few))

pub returns-in_default : goal.returns-in_default
returns-in_default g c =
    performed_none _ _ _ _ _ _ (record { files = refl; reads = refl; replaces = refl; output = refl; faults = refl }) (inr (c.tell.ensures.same, none_named _ c.args.words.now c.in_default.len_below)) c.tell.ensures.tells c.tell.ensures.adds

pub returns-in-Err : goal.returns-in-Err
returns-in-Err g c =
    performed_none _ _ _ _ _ _ (record { files = refl; reads = refl; replaces = refl; output = refl; faults = refl }) (inl c.tell-in-Err.ensures.same) c.tell-in-Err.ensures.tells c.tell-in-Err.ensures.adds
