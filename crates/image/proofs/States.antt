-- The state that an image's numbers are of, read number by number. Assumes nothing.
use Rattle.std.proofs.Common.{ℕ, ◌≡◌, ◌+◌, ◌*◌, ◌≤◌, ◌<◌, Bool, true, false, ◌&&◌, List, map, length, get_or, take, drop, leb, refl, sym, ap, ◌∙◌, arith}
use borrow.Author.Tests.{le-leb, lt-leb}
use lib.Seq.{ext_get_or}
use Rattle.rules.specs.Lists.{range, each, every}
use Rattle.rules.specs.Calls.{idle, rule_of}
use Rattle.rules.specs.Views.{state_of, view_of}
use Rattle.rules.specs.Image.{layout, condition_number, condition_of, rule_number, reader_number, reader_from, state_from, image_numbers}
use Rattle.rules.proofs.laws.Indexed.{part-listed, length-listed, get_or-listed}
use Rattle.rules.proofs.images.Tables.{numbers-length}
use Rattle.rules.proofs.images.Offsets.{
  sizes_at,
  readers_at,
  cached_at,
  fetching_at,
  marks_at,
  rule_at,
  expected_start,
  attaches_start,
  setting-at,
  size-at,
  slot_at,
  cached-at,
  fetching-at,
  mark-at,
  rule-at,
  expected-at,
  attaches-at,
}
use Rattle.image.specs.Bytes.{number_at, number_from, numbers_at, state_in}
use Rattle.image.specs.Tests.{known_condition, readable}
use Rattle.rules.specs.declared.View.{View}
use Rattle.rules.specs.declared.Reader.{Reader}
use Rattle.rules.specs.declared.Rule.{Rule}
use Rattle.rules.specs.declared.Rule.TheVariants.{Of1989, Of1993}
use Rattle.rules.specs.declared.Condition.{Condition}
use Rattle.rules.specs.declared.Condition.TheVariants.{Empty, Running, Waiting}

-- the second of two tests fails
not-and : (a b : Bool) → b ≡ false → (a && b) ≡ false
not-and true b e = e
not-and false b e = refl

-- a condition and a rule are those of their numbers
of-condition : (c : Condition) → condition_of (condition_number c) ≡ c
of-condition Empty = refl
of-condition Running = refl
of-condition Waiting = refl

of-rule : (r : Rule) → rule_of (rule_number r) ≡ r
of-rule Of1989 = refl
of-rule Of1993 = refl

-- so a condition and a rule are those that their numbers stand for
pub condition-told : (c : Condition) (number : ℕ) → number ≡ condition_number c → c ≡ condition_of number
condition-told c number e = sym (of-condition c) ∙ ap condition_of (sym e)

pub rule-told : (r : Rule) (number : ℕ) → number ≡ rule_number r → r ≡ rule_of number
rule-told r number e = sym (of-rule r) ∙ ap rule_of (sym e)

condition-high : (c : Condition) → condition_number c ≤ 2
condition-high Empty = omega arith
condition-high Running = omega arith
condition-high Waiting = omega arith

pub rule-high : (r : Rule) → rule_number r ≤ 1
rule-high Of1989 = omega arith
rule-high Of1993 = omega arith

module _ (image : List ℕ) where
  numbers-long : length (image_numbers image) ≡ 384
  unfolding layout each
  numbers-long = numbers-length (layout idle) image

  -- numbers of one width that stand one after the other are those of the table
  pub part_at : (w place o n : ℕ) → ((k : ℕ) → k < n → get_or (image_numbers image) (o + k) 0 ≡ number_from w image place k) → o + n ≤ 384
      → numbers_at w image place n ≡ take n (drop o (image_numbers image))
  part_at w place o n at fits =
      let f : ℕ → ℕ = number_from w image place in
      let g : ℕ → ℕ = λ k. get_or (image_numbers image) (o + k) 0 in
      ext_get_or 0 (map f (range 0 n)) (map g (range 0 n)) (length-listed f n ∙ sym (length-listed g n)) (λ k l.
      let low : k < n = omega (arith, length-listed f n) in
      get_or-listed f n k 0 low ∙ sym (at k low) ∙ sym (get_or-listed g n k 0 low))
      ∙ sym (part-listed (image_numbers image) 0 o n (omega (arith, numbers-long)))

  -- the number of a slot's condition
  module _ (j number : ℕ) (l : j < 16) (e : number ≡ number_at 1 image (readers_at + 8 * j)) where
    first : number ≡ reader_number (image_numbers image) j 0
    first =
        let start : readers_at + 8 * j + 0 ≡ readers_at + 8 * j = omega arith in
        e ∙ ap (number_at 1 image) (sym start) ∙ sym (slot_at image j 0 l (omega arith))

    -- is none's
    pub condition-unknown : 2 < number → known_condition (image_numbers image) j ≡ false
    condition-unknown h = ap (λ n. leb n 2) (sym first) ∙ lt-leb number 2 h

    -- is that of one
    pub condition-known : (c : Condition) → number ≡ condition_number c → known_condition (image_numbers image) j ≡ true
    condition-known c f = ap (λ n. leb n 2) (sym first ∙ f) ∙ le-leb (condition_number c) 2 (condition-high c)

    -- and the record of the slot, whatever the number: the condition is the one that it stands for
    pub reader-read : (c : Condition) (file pace position last : ℕ) → c ≡ condition_of number
        → file ≡ number_at 1 image (readers_at + 8 * j + 1)
        → pace ≡ number_at 2 image (readers_at + 8 * j + 2)
        → position ≡ number_at 2 image (readers_at + 8 * j + 4)
        → last ≡ number_at 2 image (readers_at + 8 * j + 6)
        → ◌≡◌ {A = Reader} (record { condition = c; file = file; pace = pace; position = position; last = last }) (reader_from (image_numbers image) j)
    reader-read c file pace position last e₀ e₁ e₂ e₃ e₄ = λ i.
        record {
          condition = (e₀ ∙ ap condition_of first) i;
          file = (e₁ ∙ sym (slot_at image j 1 l (omega arith))) i;
          pace = (e₂ ∙ sym (slot_at image j 2 l (omega arith))) i;
          position = (e₃ ∙ sym (slot_at image j 3 l (omega arith))) i;
          last = (e₄ ∙ sym (slot_at image j 4 l (omega arith))) i;
        }

  -- the number of the rule is none's
  pub rule-unknown : (number : ℕ) → number ≡ number_at 1 image rule_at → 1 < number → readable (image_numbers image) ≡ false
  rule-unknown number e h =
      not-and (every (known_condition (image_numbers image)) (range 0 16)) _
      (ap (λ n. leb n 1) (rule-at image ∙ sym e) ∙ lt-leb number 1 h)

  -- is that of one
  pub rule-known : (r : Rule) (number : ℕ) → number ≡ number_at 1 image rule_at → number ≡ rule_number r
      → every (known_condition (image_numbers image)) (range 0 16) ≡ true → readable (image_numbers image) ≡ true
  rule-known r number e f h =
      rw (h, rule-at image ∙ sym e ∙ f) (le-leb (rule_number r) 1 (rule-high r))

  -- a condition's is none's
  pub conditions-unknown : every (known_condition (image_numbers image)) (range 0 16) ≡ false → readable (image_numbers image) ≡ false
  conditions-unknown h = rw h

  -- the numbers of the files, the marks and the maps
  sizes_read : numbers_at 2 image sizes_at 8 ≡ (state_in image).sizes
  unfolding state_from
  sizes_read = part_at 2 sizes_at 5 8 (size-at image) (omega arith)

  expected-read : numbers_at 2 image expected_start 8 ≡ (state_in image).expected
  unfolding state_from
  expected-read = part_at 2 expected_start 368 8 (expected-at image) (omega arith)

  attaches-read : numbers_at 2 image attaches_start 8 ≡ (state_in image).attaches
  unfolding state_from
  attaches-read = part_at 2 attaches_start 376 8 (attaches-at image) (omega arith)

  marks-read : numbers_at 2 image marks_at 16 ≡ (state_in image).marks
  unfolding state_from
  marks-read = part_at 2 marks_at 350 16 (mark-at image) (omega arith)

  pub cached-read : numbers_at 8 image cached_at 128 ≡ (state_in image).cached
  unfolding state_from
  cached-read = part_at 8 cached_at 94 128 (cached-at image) (omega arith)

  pub fetching_read : numbers_at 8 image fetching_at 128 ≡ (state_in image).fetching
  unfolding state_from
  fetching_read = part_at 8 fetching_at 222 128 (fetching-at image) (omega arith)

  -- the cached map has 128 words
  pub cached-long : length (state_in image).cached ≡ 128
  cached-long = ap length (sym cached-read) ∙ length-listed (number_from 8 image cached_at) 128

  -- the state but its maps, whatever the number of the rule: the rule is the one that it stands for
  pub view-read : (frames turn look time : ℕ) (sizes : List ℕ) (readers : List Reader) (marks : List ℕ) (rule : Rule) (number : ℕ) (expected attaches : List ℕ)
      → frames ≡ number_at 2 image 0
      → turn ≡ number_at 1 image 2
      → look ≡ number_at 4 image 4
      → time ≡ number_at 4 image 8
      → sizes ≡ numbers_at 2 image sizes_at 8
      → readers ≡ map (reader_from (image_numbers image)) (range 0 16)
      → marks ≡ numbers_at 2 image marks_at 16
      → number ≡ number_at 1 image rule_at
      → rule ≡ rule_of number
      → expected ≡ numbers_at 2 image expected_start 8
      → attaches ≡ numbers_at 2 image attaches_start 8
      → ◌≡◌ {A = View}
      (record {
        marks = marks;
        expected = expected;
        attaches = attaches;
        frames = frames;
        turn = turn;
        rule = rule;
        look_ahead = look;
        fetch_time = time;
        sizes = sizes;
        readers = readers;
      })
      (view_of (state_in image))
  unfolding state_from
  view-read frames turn look time sizes readers marks rule number expected attaches e₀ e₁ e₃ e₄ z r m e₅ n x a = λ i.
      record {
        marks = (m ∙ marks-read) i;
        expected = (x ∙ expected-read) i;
        attaches = (a ∙ attaches-read) i;
        frames = (e₀ ∙ sym (setting-at image 0 (omega arith))) i;
        turn = (e₁ ∙ sym (setting-at image 1 (omega arith))) i;
        rule = (n ∙ ap rule_of (e₅ ∙ sym (rule-at image))) i;
        look_ahead = (e₃ ∙ sym (setting-at image 3 (omega arith))) i;
        fetch_time = (e₄ ∙ sym (setting-at image 4 (omega arith))) i;
        sizes = (z ∙ sizes_read) i;
        readers = r i;
      }

  -- with its maps it is whole
  pub state-read : (v : View) (cached fetching : List ℕ) → v ≡ view_of (state_in image)
      → cached ≡ (state_in image).cached → fetching ≡ (state_in image).fetching
      → state_of v cached fetching ≡ state_in image
  state-read v cached fetching e c f = λ i. state_of (e i) (c i) (f i)
