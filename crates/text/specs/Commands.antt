-- What a line asks, taken apart. Assumes nothing: these are definitions.
use Rattle.std.specs.Prelude.{ℕ, ◌+◌, ◌-◌, ◌≤◌, ◌≡◌, Bool, true, cond, ◌&&◌, List, []}
use Rattle.std.specs.Prelude.{◌∷◌, ◌++◌, map, get_or, length, drop, replicate, leb, eqb, Option, Some, None}
use Prim.Native.Char.{code as ascii}
use Rattle.std.proofs.Math.Seq.{slice}
use Rattle.rules.specs.Lists.{every}
use Rattle.rules.specs.Lines.{split, is_digit, is_field, decimal_value, fields_of, well_formed}
use Rattle.text.specs.declared.Command.{Command}
use Rattle.text.specs.declared.Field.{Field}

-- the bytes before the first separator, or all
abbrev pub first_piece : ℕ → List ℕ → List ℕ
first_piece separator bytes = get_or (split separator bytes) 0 []

-- a value with one more digit behind it, where that is a digit and the value is still a field's
unfoldable pub grown_by : ℕ → ℕ → Option ℕ
grown_by value b = cond (is_digit b && leb (decimal_value value (b ∷ [])) 4294967295) (Some (decimal_value value (b ∷ []))) None

-- the digits of a line between two places, and their value
pub record Digits (line : List ℕ) (from to value : ℕ) : Type 0 where
  pub order : from ≤ to
  pub inside : to ≤ length line
  pub digits : every is_digit (slice from to line) ≡ true
  pub value_is : value ≡ decimal_value 0 (slice from to line)
  pub small : value ≤ 4294967295

-- a piece of a line as a field, with the place after it
unfoldable pub field_from : List ℕ → ℕ → Option Field
field_from piece next = cond (is_field piece) (Some (record { value = decimal_value 0 piece; next = next })) None

-- the field that starts at a place of a line
abbrev pub field_at : List ℕ → ℕ → Option Field
field_at line from = field_from (first_piece (ascii ",") (drop from line)) (from + length (first_piece (ascii ",") (drop from line)))

-- a line starts with one byte before the first comma
abbrev pub starts_well : List ℕ → Bool
starts_well line = eqb (length (first_piece (ascii ",") line)) 1

-- the values of a line's fields
abbrev pub values_of : List ℕ → List ℕ
values_of line = map (decimal_value 0) (fields_of line)

-- a well-formed line with at most eleven fields: no letter takes more
unfoldable pub is_command : List ℕ → Bool
is_command line = well_formed line && leb (length (fields_of line)) 11

-- the letter, the number of fields, and their values in front of zeros
abbrev pub command_in : List ℕ → Command
command_in line =
    record { letter = get_or line 0 0; count = length (fields_of line); fields = values_of line ++ replicate (11 - length (fields_of line)) 0 }

-- what a line asks; any other line asks nothing
unfoldable pub command_of : List ℕ → Option Command
command_of line = cond (is_command line) (Some (command_in line)) None
