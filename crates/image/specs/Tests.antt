-- Restore's tests as its code makes them. Assumes nothing: these are definitions.
use Rattle.std.specs.Prelude.{ℕ, ◌≤◌, ◌+◌, ◌*◌, ◌-◌, Bool, not, ◌&&◌, ◌||◌, List, get_or, leb, eqb}
use Rattle.bits.specs.Map.{bit, ones}
use Rattle.rules.specs.Lists.{range, every}
use Rattle.rules.specs.Calls.{settings_in}
use Rattle.rules.specs.Readers.{no_reader}
use Rattle.rules.specs.Image.{rule_number, reader_number, reader_holds}
use Rattle.rules.specs.declared.State.{State}
use Rattle.rules.specs.declared.Reader.{Reader}

-- no size is too large
abbrev pub SizesLow : List ℕ → Type 0
SizesLow sizes = (f : ℕ) → get_or sizes f 0 ≤ 1024

-- the number of a slot's condition is that of one
abbrev pub known_condition : List ℕ → ℕ → Bool
known_condition numbers slot = leb (reader_number numbers slot 0) 2

-- and so are those of all slots and that of the rule
abbrev pub readable : List ℕ → Bool
readable numbers = every (known_condition numbers) (range 0 16) && leb (get_or numbers 366 0) 1

-- a slot's mark is at most its position
abbrev pub mark_in : List ℕ → List Reader → ℕ → Bool
mark_in marks readers slot = leb (get_or marks slot 0) (get_or readers slot no_reader).position

-- the page of key k is not in both maps
abbrev pub apart_at : List ℕ → List ℕ → ℕ → Bool
apart_at cached fetching k = not (eqb (bit cached k) 1 && eqb (bit fetching k) 1)

-- it is in neither
abbrev pub clear_at : List ℕ → List ℕ → ℕ → Bool
clear_at cached fetching k = not (eqb (bit cached k) 1 || eqb (bit fetching k) 1)

-- no page above so many of file f is in a map
unfoldable pub clear_above : List ℕ → List ℕ → ℕ → ℕ → Bool
clear_above cached fetching f size = every (clear_at cached fetching) (range (f * 1024 + size) (1024 - size))

-- no page above the size of file f is
abbrev pub size_holds : List ℕ → List ℕ → List ℕ → ℕ → Bool
size_holds sizes cached fetching f = clear_above cached fetching f (get_or sizes f 0)

-- the ranges, the readers, the marks, the room and the maps of what is read
unfoldable pub tests : State → Bool
tests s =
    settings_in s.frames s.look_ahead s.fetch_time s.sizes (rule_number s.rule) s.expected
    && (leb s.turn 15 && every (reader_holds s) s.readers && every (mark_in s.marks s.readers) (range 0 16) && leb (ones s.cached 0 8192) s.frames
    && every (apart_at s.cached s.fetching) (range 0 8192) && every (size_holds s.sizes s.cached s.fetching) (range 0 8))
