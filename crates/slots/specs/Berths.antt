-- What the calls of a slot find of their numbers before they look at the slot, or change it. Assumes nothing: these are definitions.
use Rattle.std.specs.Prelude.{ℕ, not, cond, List, get_or}
use Rattle.std.specs.declared.result.Result.{Result}
use Rattle.std.specs.declared.result.Result.TheVariants.{Ok, Err}
use Rattle.rules.specs.Lists.{within}
use Rattle.rules.specs.Readers.{reader_in, attached}
use Rattle.rules.specs.Calls.{no_slot, docked}
use Rattle.rules.specs.declared.Reader.{Reader}
use Rattle.rules.specs.declared.Refusal.{Refusal}
use Rattle.rules.specs.declared.Refusal.TheVariants.{NoSlot, NoFile, NoPace, SlotEmpty, NoRange}
use Rattle.parts.specs.Files.{no_file_in, no_range_in}
use Rattle.slots.specs.declared.Berth.{Berth}

-- the slot, the file and the record of an Attach, or 2, 3, 4 or 15
abbrev pub berth_of : List ℕ → ℕ → ℕ → ℕ → ℕ → ℕ → Result Berth Refusal
berth_of sizes slot file pace start last =
    cond (no_slot slot) (Err NoSlot)
    (cond (no_file_in sizes file) (Err NoFile)
    (cond (not (within 1 1000 pace)) (Err NoPace)
    (cond (no_range_in (get_or sizes file 0) start last) (Err NoRange)
    (Ok (record { slot = slot; file = file; reader = docked file pace start last })))))

-- the slot of a reader, or 2 or 6
abbrev pub reader_slot : List Reader → ℕ → Result ℕ Refusal
reader_slot readers slot =
    cond (no_slot slot) (Err NoSlot)
    (cond (attached (reader_in readers slot)) (Ok slot) (Err SlotEmpty))
