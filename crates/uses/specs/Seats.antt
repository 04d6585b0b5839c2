-- What the searches read of the readers: positions, paces, last pages, and for each file the set of its slots. Assumes nothing: these are definitions.
use Rattle.std.specs.Prelude.{ℕ, ◌≤◌, ◌<◌, ◌≡◌, Bool, false, not, ◌&&◌, List, get_or, slice_index, length, T, eqb}
use Rattle.bits.specs.Map.{digit}
use Rattle.rules.specs.Readers.{reader_in, attached, reads_file}
use Rattle.rules.specs.declared.Reader.{Reader}
use Rattle.uses.specs.declared.Seats.{Seats}
use Rattle.uses.specs.declared.SlotSet.{SlotSet}

-- is slot j in the set?
abbrev pub has_slot : SlotSet → ℕ → Bool
has_slot slots j = eqb (digit slots.0 j) 1

-- the first slot of the set has been taken out
pub record Popped (old : SlotSet) (slot : ℕ) (new : SlotSet) : Type 0 where
  pub low : slot < 16
  pub its : T (has_slot old slot)
  pub first : (j : ℕ) → j < slot → has_slot old j ≡ false
  pub rest : (j : ℕ) → has_slot new j ≡ (not (eqb j slot) && has_slot old j)
  pub fewer : new.0 < old.0

-- the slots with a reader of file f
abbrev pub slots_of : Seats → ℕ → SlotSet
slots_of seats f = get_or seats.slots f (record { 0 = 0 })

-- no slot with a reader of file f has a position past page 1,024
abbrev pub SeatsFit : Seats → ℕ → Type 0
SeatsFit seats f = (j : ℕ) → T (has_slot (slots_of seats f) j) → slice_index seats.positions j ≤ 1024

-- the seats are those of the first n slots
pub record Seated (readers : List Reader) (n : ℕ) (seats : Seats) : Type 0 where
  pub sixteen : length seats.positions ≡ 16
  pub position : (j : ℕ) → j < n → slice_index seats.positions j ≡ (reader_in readers j).position
  pub pace : (j : ℕ) → j < n → T (attached (reader_in readers j)) → slice_index seats.paces j ≡ (reader_in readers j).pace
  pub reach : (j : ℕ) → j < n → T (attached (reader_in readers j)) → slice_index seats.lasts j ≡ (reader_in readers j).last
  pub slots : (f j : ℕ) → f < 8 → j < n → has_slot (slots_of seats f) j ≡ reads_file f (reader_in readers j)
  pub beyond : (f j : ℕ) → f < 8 → n ≤ j → has_slot (slots_of seats f) j ≡ false
