-- Save and Restore: 01, "Calls", with the last pages of A.1, the marks of A.2 and what the rule of A.6 goes by. Assumes nothing: these are definitions.
use Rattle.std.specs.Prelude.{
  ℕ,
  zero,
  suc,
  ◌+◌,
  ◌*◌,
  ◌/◌,
  ◌%◌,
  ◌≡◌,
  ◌⊎◌,
  Bool,
  not,
  cond,
  ◌&&◌,
  ◌||◌,
  List,
  [],
  ◌∷◌,
  ◌++◌,
  map,
  get_or,
  length,
  take,
  drop,
  replicate,
  leb,
  ltb,
  eqb,
}
use Rattle.rules.specs.Lists.{range, each, every, within}
use Rattle.rules.specs.Pages.{size, file_of, page_of, cached, in_fetch, cached_pages}
use Rattle.rules.specs.Readers.{reader_at, mark_at, by_condition, awaits}
use Rattle.rules.specs.Calls.{reply, refused, settings_in, rule_of, idle, no_file}
use Rattle.rules.specs.Orders.{by_rule}
use Rattle.rules.specs.declared.Rule.{Rule}
use Rattle.rules.specs.declared.Refusal.TheVariants.{NoRoom, NoImage}
use Rattle.rules.specs.declared.State.{State}
use Rattle.rules.specs.declared.Reader.{Reader}
use Rattle.rules.specs.declared.Reply.{Reply}
use Rattle.rules.specs.declared.Answer.{Answer}
use Rattle.rules.specs.declared.Answer.TheVariants.{Refused, Done}
use Rattle.rules.specs.declared.Condition.{Condition}
use Rattle.rules.specs.declared.Condition.TheVariants.{Empty, Running, Waiting}

-- ---- the layout

-- a number of the image and its width in bytes
pub record Field : Type 0 where
  pub width : ℕ
  pub value : ℕ

abbrev pub field : ℕ → ℕ → Field
field width value = record { width = width; value = value }

-- "condition 0, 1 or 2 as listed above"
abbrev pub condition_number : Condition → ℕ
condition_number c = by_condition c 0 1 2

-- "8 bytes (condition ..; file; pace 2; position 2; two of 0)"; A.1: "The two 0 bytes of a reader in the image hold the last page"
abbrev pub reader_fields : Reader → List Field
reader_fields r =
    field 1 (condition_number r.condition) ∷ field 1 r.file ∷ field 2 r.pace ∷ field 2 r.position ∷ field 2 r.last ∷ []

-- A.6: "(0 for 1989, 1 for 1993)"
abbrev pub rule_number : Rule → ℕ
rule_number rule = by_rule rule 0 1

-- the fields behind those of 01. A.2: "The image grows to 2,240 bytes by sixteen 2-byte marks at its end"; A.6: "The image of 2,274 bytes adds a rule byte
-- (0 for 1989, 1 for 1993), a 0 byte, then eight 2-byte E and eight R"
abbrev pub tail : State → List Field
tail s = map (field 2) s.marks ++ (field 1 (rule_number s.rule) ∷ field 1 0 ∷ (map (field 2) s.expected ++ map (field 2) s.attaches))

-- the one table: "frames (2), turn (1), 0 (1), L (4), T (4), sizes (8 of 2), sixteen readers .., 4 bytes of 0, cached map 1,024, fetch map 1,024",
-- and the tail. A map's word is 8 bytes, lowest first, so that "page 1 [is] in the lowest bit of the first".
unfoldable pub layout : State → List Field
layout s =
    field 2 s.frames ∷ field 1 s.turn ∷ field 1 0 ∷ field 4 s.look_ahead ∷ field 4 s.fetch_time
    ∷ (map (field 2) s.sizes ++ (each reader_fields s.readers ++ (field 4 0 ∷ (map (field 8) s.cached ++ (map (field 8) s.fetching ++ tail s)))))

-- a number as so many bytes, "little-endian"
unfoldable pub bytes_of : ℕ → ℕ → List ℕ
bytes_of zero n = []
bytes_of (suc width) n = n % 256 ∷ bytes_of width (n / 256)

-- the bytes of some fields, one field after the other
abbrev pub encoded : List Field → List ℕ
encoded = each (λ f. bytes_of f.width f.value)

-- how many bytes Save writes
abbrev pub image_length : ℕ
image_length = 2274

-- ---- Save

-- the image of a state
unfoldable pub image_of : State → List ℕ
image_of s = encoded (layout s)

-- the answer, and the lent buffer after the call
pub record Saved : Type 0 where
  pub answer : Answer
  pub buffer : List ℕ

-- "12: buffer shorter; bytes after" the image "keep"; A.6: "Saving and the C buffer use this length"
unfoldable pub save_of : State → List ℕ → Saved
save_of s buffer =
    cond (ltb (length buffer) image_length) (record { answer = Refused NoRoom; buffer = buffer })
    (record { answer = Done; buffer = image_of s ++ drop image_length buffer })

-- ---- Restore

-- the number of some bytes, "little-endian"
unfoldable pub number_of : List ℕ → ℕ
number_of [] = 0
number_of (b ∷ bs) = b + 256 * number_of bs

-- the numbers of some bytes, by a table's widths
unfoldable pub numbers_in : List Field → List ℕ → List ℕ
numbers_in [] image = []
numbers_in (f ∷ fs) image = number_of (take f.width image) ∷ numbers_in fs (drop f.width image)

-- the numbers of an image
abbrev pub image_numbers : List ℕ → List ℕ
image_numbers = numbers_in (layout idle)

abbrev pub condition_of : ℕ → Condition
condition_of zero = Empty
condition_of (suc zero) = Running
condition_of (suc (suc n)) = Waiting

-- number i of the reader in a slot: five numbers a slot, behind the first five numbers and the eight sizes
abbrev pub reader_number : List ℕ → ℕ → ℕ → ℕ
reader_number numbers slot i = get_or numbers (13 + 5 * slot + i) 0

abbrev pub reader_from : List ℕ → ℕ → Reader
reader_from numbers slot =
    record {
      condition = condition_of (reader_number numbers slot 0);
      file = reader_number numbers slot 1;
      pace = reader_number numbers slot 2;
      position = reader_number numbers slot 3;
      last = reader_number numbers slot 4;
    }

-- the state that the table's numbers are of, each at its place in `layout`: five numbers, of which the third is a 0, eight sizes from 5 on, sixteen readers
-- of five from 13 on, a 0, the two maps of 128 words from 94 and from 222 on; and in the tail sixteen marks from 350 on, the rule, a 0, eight E from 368 and
-- eight R from 376 on
unfoldable pub state_from : List ℕ → State
state_from numbers =
    record {
      frames = get_or numbers 0 0;
      turn = get_or numbers 1 0;
      look_ahead = get_or numbers 3 0;
      fetch_time = get_or numbers 4 0;
      sizes = take 8 (drop 5 numbers);
      readers = map (reader_from numbers) (range 0 16);
      marks = take 16 (drop 350 numbers);
      rule = rule_of (get_or numbers 366 0);
      expected = take 8 (drop 368 numbers);
      attaches = take 8 (drop 376 numbers);
      cached = take 128 (drop 94 numbers);
      fetching = take 128 (drop 222 numbers);
    }

-- "a file of size 0", file and pace in range; A.1: "A last page above the size or below the position .. gets 13", and so does "a position above the size";
-- A.2: in the new length, "or a longer one, a taken slot's last page of 0 gets 13"
unfoldable pub reader_placed : State → Reader → Bool
reader_placed s r = not (no_file s r.file) && (within 1 1000 r.pace && (within 1 (size s r.file) r.last && leb r.position r.last))

-- "an empty slot not all 0", "a waiting reader whose next page is not in fetch"; A.1: "or a waiting reader at" its last page
unfoldable pub reader_holds : State → Reader → Bool
reader_holds s r =
    by_condition r.condition (eqb r.file 0 && (eqb r.pace 0 && (eqb r.position 0 && eqb r.last 0))) (reader_placed s r)
    (reader_placed s r && awaits s r)

-- A.2: a mark is "0 for an empty slot, each at most the position, else 13": one test for both, since an empty slot that `slot_holds` passes has position 0
abbrev pub mark_holds : State → ℕ → Bool
mark_holds s slot = leb (mark_at s slot) (reader_at s slot).position

-- a slot's record, its condition in range
unfoldable pub slot_holds : List ℕ → ℕ → Bool
slot_holds numbers slot = within 0 2 (reader_number numbers slot 0) && reader_holds (state_from numbers) (reader_from numbers slot)

-- "a bit above the size, a page in both maps"
unfoldable pub key_holds : State → ℕ → Bool
key_holds s k = not (cached s k && in_fetch s k) && (not (cached s k || in_fetch s k) || leb (page_of k) (size s (file_of k)))

-- "a 0 byte that is not 0"; A.6: "a filler byte not 0"
abbrev pub gaps_hold : List ℕ → Bool
gaps_hold numbers = eqb (get_or numbers 2 0) 0 && (eqb (get_or numbers 93 0) 0 && eqb (get_or numbers 367 0) 0)

-- the table's numbers are those of a state: all grounds for 13 but the length, which is tested before them. A.6: "A rule byte above 1, .. or an E above
-- 1,000" are among the settings; any R of two bytes is one, and stays as it is: Restore is no attach
unfoldable pub accepts : List ℕ → Bool
accepts numbers =
    settings_in (state_from numbers).frames (state_from numbers).look_ahead (state_from numbers).fetch_time (state_from numbers).sizes
    (get_or numbers 366 0) (state_from numbers).expected
    && (within 0 15 (state_from numbers).turn
    && (every (slot_holds numbers) (range 0 16)
    && (every (key_holds (state_from numbers)) (range 0 8192)
    && (leb (length (cached_pages (state_from numbers))) (state_from numbers).frames
    && (gaps_hold numbers && every (mark_holds (state_from numbers)) (range 0 16))))))

-- Restore of an image as long as Save writes it. "13: another length, ..": that of an older image too. "The idle state comes back"
unfoldable pub restore_whole : List ℕ → Reply
restore_whole image =
    cond (eqb (length image) image_length && accepts (image_numbers image)) (reply (state_from (image_numbers image)) Done) (refused idle NoImage)

-- ---- older images

-- the length of an image without marks
abbrev pub unmarked_length : ℕ
unmarked_length = 2208

-- A.1: "0 there, in an old image, means the file's size": the last page of a slot, which is taken where its condition is not 0
abbrev pub last_from : List ℕ → ℕ → ℕ
last_from numbers slot =
    cond (not (eqb (reader_number numbers slot 0) 0) && eqb (reader_number numbers slot 4) 0)
    (get_or (take 8 (drop 5 numbers)) (reader_number numbers slot 1) 0)
    (reader_number numbers slot 4)

-- the 8 bytes of a slot in an image without marks, the last page filled in: the records begin behind 28 bytes
unfoldable pub filled_slot : List ℕ → ℕ → List ℕ
filled_slot image slot = take 6 (drop (28 + 8 * slot) image) ++ bytes_of 2 (last_from (image_numbers image) slot)

-- its mark, which equals the position
abbrev pub first_mark : List ℕ → ℕ → List ℕ
first_mark image slot = bytes_of 2 (reader_number (image_numbers image) slot 3)

-- A.2: "2,208 bytes are still read, marks equal to positions": such an image with the last pages filled in and the marks behind it. An image of any
-- other length stays as it is.
unfoldable pub marked : List ℕ → List ℕ
marked image =
    cond (eqb (length image) unmarked_length)
    (take 28 image ++ (each (filled_slot image) (range 0 16) ++ (drop 156 image ++ each (first_mark image) (range 0 16))))
    image

-- the length of an image with marks and without a rule
abbrev pub unruled_length : ℕ
unruled_length = 2240

-- A.6: "shorter ones are read as 1989 with E and R 0": rule, filler, E and R are 34 bytes of 0 at the image's end. An image of any other length stays as it is.
unfoldable pub ruled : List ℕ → List ℕ
ruled image = cond (eqb (length image) unruled_length) (image ++ replicate 34 0) image

-- an image of one of the two older lengths
abbrev pub Older : List ℕ → Type 0
Older image = (length image ≡ unmarked_length) ⊎ (length image ≡ unruled_length)

-- what an older image is read as
unfoldable pub upgraded : List ℕ → List ℕ
upgraded image = ruled (marked image)

-- Restore: an older image is read as the one that it is upgraded to
unfoldable pub restore_of : List ℕ → Reply
restore_of image = restore_whole (upgraded image)
