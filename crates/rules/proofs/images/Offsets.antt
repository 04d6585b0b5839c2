-- Where each number of an image stands. Assumes nothing.
use mathlib.Core.Path.{◌≡◌, ap, ap₂, ◌∙◌}
use mathlib.Core.Bool.{Bool, ◌&&◌}
use mathlib.Core.List.{List, [], ◌∷◌}
use Prim.Native.Nat.{ℕ, ◌+◌, ◌*◌, ◌/◌, ◌%◌, ◌<◌}
use native.Mathlib.Omega.{arith}
use lib.ListN.{get_or, take, drop}
use lib.Dec.{T, eqb, eqb→eq}
use Rattle.rules.specs.Lists.{range, each, every}
use Rattle.rules.specs.Calls.{idle}
use Rattle.rules.specs.Image.{layout, number_of, image_numbers, reader_number}
use Rattle.rules.proofs.laws.Tests.{and_first, and_second}
use Rattle.rules.proofs.laws.Members.{range_at}
use Rattle.rules.proofs.laws.Indexed.{every-all}
use Rattle.rules.proofs.images.Tables.{widths, total, number_at}

-- where the sizes, the readers, the 4 bytes of 0, the cached map, the fetch map, the marks, the rule with the 0 behind it, E and R begin: the laws below
-- compute it from the table
abbrev pub sizes_at : ℕ
sizes_at = 12

abbrev pub readers_at : ℕ
readers_at = 28

abbrev pub gap_at : ℕ
gap_at = 156

abbrev pub cached_at : ℕ
cached_at = 160

abbrev pub fetching_at : ℕ
fetching_at = 1184

abbrev pub marks_at : ℕ
marks_at = 2208

abbrev pub rule_at : ℕ
rule_at = 2240

abbrev pub filler_at : ℕ
filler_at = 2241

abbrev pub expected_start : ℕ
expected_start = 2242

abbrev pub attaches_start : ℕ
attaches_start = 2258

-- the width of a field of the table, and the place of its first byte
abbrev wide : ℕ → ℕ
wide i = get_or (widths (layout idle)) i 0

abbrev start : ℕ → ℕ
start i = total (take i (widths (layout idle)))

-- n fields have these widths and stand at these places
abbrev Stand : (index width place : ℕ → ℕ) → ℕ → Bool
Stand index width place n = every (λ k. eqb (wide (index k)) (width k) && eqb (start (index k)) (place k)) (range 0 n)

-- so their numbers are read there: a table of closed numbers is tested by computing
pub numbers-at : (index width place : ℕ → ℕ) (n : ℕ) → T (Stand index width place n) → (image : List ℕ) (k : ℕ) → k < n
    → get_or (image_numbers image) (index k) 0 ≡ number_of (take (width k) (drop (place k) image))
numbers-at index width place n h image k l =
    let row = range_at (λ i. T (eqb (wide (index i)) (width i) && eqb (start (index i)) (place i))) 0 n k (every-all _ (range 0 n) h)
    (omega arith) (omega arith) in
    let w = eqb→eq (wide (index k)) (width k) (and_first (eqb (wide (index k)) (width k)) _ row) in
    let o = eqb→eq (start (index k)) (place k) (and_second (eqb (wide (index k)) (width k)) _ row) in
    number_at (layout idle) image (index k) ∙ ap₂ (λ a b. number_of (take a (drop b image))) w o

-- the widths of a slot's five numbers, and their places in its record
abbrev slot_width : ℕ → ℕ
slot_width i = get_or (1 ∷ 1 ∷ 2 ∷ 2 ∷ 2 ∷ []) i 0

abbrev slot_place : ℕ → ℕ
slot_place i = get_or (0 ∷ 1 ∷ 2 ∷ 4 ∷ 6 ∷ []) i 0

module _ (image : List ℕ) where
  -- frames, turn, 0, L, T
  pub setting-at : (i : ℕ) → i < 5
      → get_or (image_numbers image) i 0 ≡ number_of (take (get_or (2 ∷ 1 ∷ 1 ∷ 4 ∷ 4 ∷ []) i 0) (drop (get_or (0 ∷ 2 ∷ 3 ∷ 4 ∷ 8 ∷ []) i 0) image))
  unfolding layout each every range total
  setting-at = numbers-at (λ i. i) (λ i. get_or (2 ∷ 1 ∷ 1 ∷ 4 ∷ 4 ∷ []) i 0) (λ i. get_or (0 ∷ 2 ∷ 3 ∷ 4 ∷ 8 ∷ []) i 0) 5 tt image

  -- the size of file f
  pub size-at : (f : ℕ) → f < 8 → get_or (image_numbers image) (5 + f) 0 ≡ number_of (take 2 (drop (sizes_at + 2 * f) image))
  unfolding layout each every range total
  size-at = numbers-at (λ f. 5 + f) (λ f. 2) (λ f. sizes_at + 2 * f) 8 tt image

  -- condition, file, pace, position and last page of slot j
  pub slot_at : (j i : ℕ) → j < 16 → i < 5
      → reader_number (image_numbers image) j i ≡ number_of (take (slot_width i) (drop (readers_at + 8 * j + slot_place i) image))
  unfolding layout each every range total
  slot_at j i l m =
      let at : 13 + 5 * j + i ≡ 13 + (5 * j + i) = omega arith in
      let slot : (5 * j + i) / 5 ≡ j = omega arith in
      let number : (5 * j + i) % 5 ≡ i = omega arith in
      ap (λ n. get_or (image_numbers image) n 0) at
      ∙ numbers-at (λ m. 13 + m) (λ m. slot_width (m % 5)) (λ m. readers_at + 8 * (m / 5) + slot_place (m % 5)) 80 tt image (5 * j + i) (omega arith)
      ∙ ap₂ (λ a b. number_of (take (slot_width b) (drop (readers_at + 8 * a + slot_place b) image))) slot number

  -- the 4 bytes of 0
  pub gap-at : get_or (image_numbers image) 93 0 ≡ number_of (take 4 (drop gap_at image))
  unfolding layout each every range total
  gap-at = numbers-at (λ _. 93) (λ _. 4) (λ _. gap_at) 1 tt image 0 (omega arith)

  -- word k of the cached map
  pub cached-at : (k : ℕ) → k < 128 → get_or (image_numbers image) (94 + k) 0 ≡ number_of (take 8 (drop (cached_at + 8 * k) image))
  unfolding layout each every range total
  cached-at = numbers-at (λ k. 94 + k) (λ k. 8) (λ k. cached_at + 8 * k) 128 tt image

  -- word k of the fetch map
  pub fetching-at : (k : ℕ) → k < 128 → get_or (image_numbers image) (222 + k) 0 ≡ number_of (take 8 (drop (fetching_at + 8 * k) image))
  unfolding layout each every range total
  fetching-at = numbers-at (λ k. 222 + k) (λ k. 8) (λ k. fetching_at + 8 * k) 128 tt image

  -- the mark of slot j
  pub mark-at : (j : ℕ) → j < 16 → get_or (image_numbers image) (350 + j) 0 ≡ number_of (take 2 (drop (marks_at + 2 * j) image))
  unfolding layout each every range total
  mark-at = numbers-at (λ j. 350 + j) (λ j. 2) (λ j. marks_at + 2 * j) 16 tt image

  -- the rule
  pub rule-at : get_or (image_numbers image) 366 0 ≡ number_of (take 1 (drop rule_at image))
  unfolding layout each every range total
  rule-at = numbers-at (λ _. 366) (λ _. 1) (λ _. rule_at) 1 tt image 0 (omega arith)

  -- the 0 byte behind it
  pub filler-at : get_or (image_numbers image) 367 0 ≡ number_of (take 1 (drop filler_at image))
  unfolding layout each every range total
  filler-at = numbers-at (λ _. 367) (λ _. 1) (λ _. filler_at) 1 tt image 0 (omega arith)

  -- the readers expected of file f
  pub expected-at : (f : ℕ) → f < 8 → get_or (image_numbers image) (368 + f) 0 ≡ number_of (take 2 (drop (expected_start + 2 * f) image))
  unfolding layout each every range total
  expected-at = numbers-at (λ f. 368 + f) (λ f. 2) (λ f. expected_start + 2 * f) 8 tt image

  -- the attaches to file f
  pub attaches-at : (f : ℕ) → f < 8 → get_or (image_numbers image) (376 + f) 0 ≡ number_of (take 2 (drop (attaches_start + 2 * f) image))
  unfolding layout each every range total
  attaches-at = numbers-at (λ f. 376 + f) (λ f. 2) (λ f. attaches_start + 2 * f) 8 tt image
