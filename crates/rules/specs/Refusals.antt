-- The number of each refusal: 01, "Calls" and "The program `quay`"; A.1: 15; A.2: 16. Assumes nothing: this is a definition.
use Rattle.std.specs.Prelude.{ℕ}
use Rattle.rules.specs.declared.Refusal.{Refusal}
use Rattle.rules.specs.declared.Refusal.TheVariants.{
  OutOfRange,
  NoSlot,
  NoFile,
  NoPace,
  SlotTaken,
  SlotEmpty,
  ReaderWaits,
  NoPage,
  NotInFetch,
  FetchOpen,
  TooManyTurns,
  NoRoom,
  NoImage,
  NoRequest,
  NoRange,
  NoInterval,
}

abbrev pub refusal_number : Refusal → ℕ
-- "any value out of range"
refusal_number OutOfRange = 1
-- "slot above 15"
refusal_number NoSlot = 2
-- "file above 7 or of size 0"
refusal_number NoFile = 3
-- "pace out of range"
refusal_number NoPace = 4
-- "slot not empty"
refusal_number SlotTaken = 5
-- "slot empty"
refusal_number SlotEmpty = 6
-- "reader waiting"
refusal_number ReaderWaits = 7
-- "page 0 or above the size"
refusal_number NoPage = 8
-- "page not in fetch"
refusal_number NotInFetch = 9
-- "a page is in fetch"
refusal_number FetchOpen = 10
-- "above 16,384"
refusal_number TooManyTurns = 11
-- "list too short", "buffer shorter"; A.4: "More than 1,024 rows, or a short answer list"
refusal_number NoRoom = 12
-- what Restore refuses, and a C buffer that is not as long as an image
refusal_number NoImage = 13
-- "any other line"
refusal_number NoRequest = 14
-- A.1: "last page 0 or above the size, or start above the last"
refusal_number NoRange = 15
-- A.2: an interval that is not 1 to 1,000,000, or more blocked than it has
refusal_number NoInterval = 16
