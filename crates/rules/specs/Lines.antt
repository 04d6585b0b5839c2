-- The program's lines and answers: 01, "The program quay". Assumes nothing: these are definitions.
use Rattle.std.specs.Prelude.{
  ℕ,
  zero,
  suc,
  ◌+◌,
  ◌*◌,
  ◌-◌,
  ◌/◌,
  ◌%◌,
  Bool,
  true,
  false,
  not,
  cond,
  ◌&&◌,
  List,
  [],
  ◌∷◌,
  ◌++◌,
  map,
  get_or,
  length,
  drop,
  replicate,
  leb,
  ltb,
  eqb,
}
use Prim.Native.Char.{code as ascii}
use Rattle.rules.specs.Lists.{each, every, within}
use Rattle.rules.specs.Pages.{file_of, page_of, clusters}
use Rattle.rules.specs.Orders.{steal_order, fetch_order}
use Rattle.rules.specs.Calls.{refused, no_file, idle, setup_of, attach_of, read_of, steal_of, arrive_of, detach_of, lost_of, prefetch_of}
use Rattle.rules.specs.Run.{run_of}
use Rattle.rules.specs.Entries.{letter, carried_out}
use Rattle.rules.specs.Refusals.{refusal_number}
use Rattle.rules.specs.declared.Refusal.TheVariants.{NoFile, NoRequest}
use Rattle.rules.specs.declared.State.{State}
use Rattle.rules.specs.declared.Reply.{Reply}
use Rattle.rules.specs.declared.Answer.{Answer}
use Rattle.rules.specs.declared.Answer.TheVariants.{Refused, Done, Hit, Wait, Fetch, End, Nothing, Stolen, Arrived, Replaced, Ran}

-- ---- a line that is read

-- one byte more before the pieces: a separator starts a piece, any other byte goes to the front of the first
abbrev pub grow : Bool → ℕ → List (List ℕ) → List (List ℕ)
grow true b pieces = [] ∷ pieces
grow false b [] = (b ∷ []) ∷ []
grow false b (piece ∷ pieces) = (b ∷ piece) ∷ pieces

-- the pieces between the separators, one more than there are separators
unfoldable pub split : ℕ → List ℕ → List (List ℕ)
split separator [] = [] ∷ []
split separator (b ∷ bs) = grow (eqb b separator) b (split separator bs)

abbrev pub is_digit : ℕ → Bool
is_digit = within (ascii "0") (ascii "9")

-- "decimal .., no leading zero"
unfoldable pub is_decimal : List ℕ → Bool
is_decimal [] = false
is_decimal (b ∷ []) = is_digit b
is_decimal (b ∷ (c ∷ bs)) = not (eqb b (ascii "0")) && every is_digit (b ∷ (c ∷ bs))

-- the number n, with the digits after it
unfoldable pub decimal_value : ℕ → List ℕ → ℕ
decimal_value n [] = n
decimal_value n (b ∷ bs) = decimal_value (n * 10 + (b - ascii "0")) bs

-- "decimal fields .. each at most 4,294,967,295"
unfoldable pub is_field : List ℕ → Bool
is_field piece = is_decimal piece && leb (decimal_value 0 piece) 4294967295

-- the fields, "parted by commas", after the letter
abbrev pub fields_of : List ℕ → List (List ℕ)
fields_of line = drop 1 (split (ascii ",") line)

-- "lines of at most 200 bytes, ..: a letter, then decimal fields parted by commas"
unfoldable pub well_formed : List ℕ → Bool
well_formed line = leb (length line) 200 && (eqb (length (get_or (split (ascii ",") line) 0 [])) 1 && every is_field (fields_of line))

-- ---- an answer line

-- the digits of n, or the last of them if there are more than so many
unfoldable pub digits_of : ℕ → ℕ → List ℕ
digits_of zero n = []
digits_of (suc more) n = cond (ltb n 10) [] (digits_of more (n / 10)) ++ (ascii "0" + n % 10) ∷ []

-- a number of an answer line, behind its comma; every number here has at most ten digits
abbrev pub field_of : ℕ → List ℕ
field_of n = ascii "," ∷ digits_of 10 n

-- a letter, then the numbers
unfoldable pub line_of : ℕ → List ℕ → List ℕ
line_of first numbers = first ∷ each field_of numbers

-- what stands behind the letter: "E,number"; "H, W or F with file,page"; ".. S,file,page; I alone or with file,page; N,fetches,reads"
abbrev pub numbers_of : Answer → List ℕ
numbers_of (Refused why) = refusal_number why ∷ []
numbers_of Done = []
numbers_of (Hit file page) = file ∷ page ∷ []
numbers_of (Wait file page) = file ∷ page ∷ []
numbers_of (Fetch file page) = file ∷ page ∷ []
numbers_of End = []
numbers_of Nothing = []
numbers_of (Stolen file page) = file ∷ page ∷ []
numbers_of Arrived = []
numbers_of (Replaced file page) = file ∷ page ∷ []
numbers_of (Ran fetches reads) = fetches ∷ reads ∷ []

abbrev pub answer_line : Answer → List ℕ
answer_line a = line_of (letter a) (numbers_of a)

-- a key as the numbers of its file and its page
abbrev pub pair_of : ℕ → List ℕ
pair_of k = file_of k ∷ page_of k ∷ []

-- "L or Q with count and file,page pairs"
abbrev pub order_line : ℕ → List ℕ → List ℕ
order_line first keys = line_of first (length keys ∷ each pair_of keys)

-- "C with count and low,high pairs"
abbrev pub clusters_line : List ℕ → List ℕ
clusters_line ends = line_of (ascii "C") (length ends / 2 ∷ ends)

-- ---- a line and its answer

-- the next state, and the answer line without its line end
pub record Response : Type 0 where
  pub state : State
  pub line : List ℕ

abbrev pub told : Reply → Response
told r = record { state = r.state; line = answer_line r.answer }

-- "after a refused S the program keeps its old state"
abbrev pub told_setup : State → Reply → Response
told_setup s r = record { state = cond (carried_out r.answer) r.state s; line = answer_line r.answer }

abbrev pub shown : State → List ℕ → Response
shown s line = record { state = s; line = line }

-- a letter with so many fields
abbrev pub asks : ℕ → List ℕ → ℕ → ℕ → Bool
asks first numbers wanted count = eqb first wanted && eqb (length numbers) count

-- "S setup, A attach, D detach, R read, I arrive, X lost, P prefetch, T steal, N run, L steal list, Q fetch list, C clusters"; "14: any other line";
-- A.1: the A line takes the start and the last page at its end; A.6: "The S line keeps its form: 1989, E 0"
unfoldable pub obeyed : State → ℕ → List ℕ → Response
obeyed s c x =
    cond (asks c x (ascii "S") 11) (told_setup s (setup_of (get_or x 0 0) (get_or x 1 0) (get_or x 2 0) (drop 3 x) 0 (replicate 8 0)))
    (cond (asks c x (ascii "A") 5) (told (attach_of s (get_or x 0 0) (get_or x 1 0) (get_or x 2 0) (get_or x 3 0) (get_or x 4 0)))
    (cond (asks c x (ascii "D") 1) (told (detach_of s (get_or x 0 0)))
    (cond (asks c x (ascii "R") 1) (told (read_of s (get_or x 0 0)))
    (cond (asks c x (ascii "I") 2) (told (arrive_of s (get_or x 0 0) (get_or x 1 0)))
    (cond (asks c x (ascii "X") 2) (told (lost_of s (get_or x 0 0) (get_or x 1 0)))
    (cond (asks c x (ascii "P") 0) (told (prefetch_of s))
    (cond (asks c x (ascii "T") 0) (told (steal_of s))
    (cond (asks c x (ascii "N") 1) (told (run_of s (get_or x 0 0)))
    (cond (asks c x (ascii "L") 0) (shown s (order_line c (steal_order s)))
    (cond (asks c x (ascii "Q") 0) (shown s (order_line c (fetch_order s)))
    (cond (asks c x (ascii "C") 1) (cond (no_file s (get_or x 0 0)) (told (refused s NoFile)) (shown s (clusters_line (clusters s (get_or x 0 0)))))
    (told (refused s NoRequest)))))))))))))

-- one line's bytes to the next state and one answer line
unfoldable pub respond_of : State → List ℕ → Response
respond_of s line = cond (well_formed line) (obeyed s (get_or line 0 0) (map (decimal_value 0) (fields_of line))) (told (refused s NoRequest))

-- ---- the whole input and output

-- the pieces between line ends are the lines; "A last line may lack its line end", and an empty rest after the last line end is not a line
unfoldable pub lines_of : List (List ℕ) → List (List ℕ)
lines_of [] = []
lines_of (piece ∷ []) = cond (eqb (length piece) 0) [] (piece ∷ [])
lines_of (piece ∷ (next ∷ pieces)) = piece ∷ lines_of (next ∷ pieces)

-- "One line answers each"
unfoldable pub answers : State → List (List ℕ) → List ℕ
answers s [] = []
answers s (line ∷ lines) = (respond_of s line).line ++ ascii "\n" ∷ answers (respond_of s line).state lines

-- "It starts idle and reads lines .. from standard input"
unfoldable pub program_of : List ℕ → List ℕ
program_of input = answers idle (lines_of (split (ascii "\n") input))
