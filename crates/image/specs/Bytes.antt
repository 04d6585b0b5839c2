-- Bytes put into a buffer and numbers read from an image: what the parts of Save and Restore do. Assumes nothing: these are definitions.
use Rattle.std.specs.Prelude.{ℕ, ◌+◌, ◌*◌, List, [], ◌∷◌, ◌++◌, map, take, drop}
use Rattle.rules.specs.Lists.{range, each}
use Rattle.rules.specs.Image.{Field, field, reader_fields, bytes_of, encoded, number_of, image_numbers, state_from}
use Rattle.rules.specs.declared.State.{State}
use Rattle.rules.specs.declared.Reader.{Reader}

-- the bytes of a slot's record
unfoldable pub reader_bytes : Reader → List ℕ
reader_bytes r = encoded (reader_fields r)

-- frames, turn, 0, L and T
abbrev pub settings_fields : ℕ → ℕ → ℕ → ℕ → List Field
settings_fields frames turn look time = field 2 frames ∷ field 1 turn ∷ field 1 0 ∷ field 4 look ∷ field 4 time ∷ []

-- the marks, the rule, 0, the readers expected and the attaches
unfoldable pub tail_bytes : List ℕ → ℕ → List ℕ → List ℕ → List ℕ
tail_bytes marks rule expected attaches =
    each (bytes_of 2) marks ++ (bytes_of 1 rule ++ (bytes_of 1 0 ++ (each (bytes_of 2) expected ++ each (bytes_of 2) attaches)))

-- the number of so many bytes from a place on
abbrev pub number_at : ℕ → List ℕ → ℕ → ℕ
number_at width image at = number_of (take width (drop at image))

-- number k of those of one width that stand one after the other from a place on
abbrev pub number_from : ℕ → List ℕ → ℕ → ℕ → ℕ
number_from width image at k = number_at width image (at + width * k)

-- n of them
abbrev pub numbers_at : ℕ → List ℕ → ℕ → ℕ → List ℕ
numbers_at width image at n = map (number_from width image at) (range 0 n)

-- the state that an image's numbers are of
abbrev pub state_in : List ℕ → State
state_in image = state_from (image_numbers image)
