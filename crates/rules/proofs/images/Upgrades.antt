-- An older image and the one that it is upgraded to: its parts, its length, and that it has bytes. Assumes nothing.
use mathlib.Core.Path.{◌≡◌, refl, sym, ap, ◌∙◌, subst}
use mathlib.Core.Bool.{not, cond, ◌&&◌}
use mathlib.Core.List.{List, ◌++◌, map}
use mathlib.Core.Logic.{inl, inr, ⊎_elim}
use Prim.Native.Nat.{ℕ, ◌+◌, ◌*◌, ◌<◌}
use native.Mathlib.Decide.{ℕ_discrete}
use native.Mathlib.Omega.{arith}
use borrow.Author.Tests.{eq-eqb, ne_eqb}
use lib.ListN.{length, get_or, take, drop, length-append, length-take, length-drop, replicate}
use lib.Dec.{eqb}
use Rattle.rules.specs.Lists.{range, each}
use Rattle.rules.specs.Image.{
  bytes_of,
  image_length,
  reader_number,
  image_numbers,
  unmarked_length,
  last_from,
  filled_slot,
  first_mark,
  marked,
  unruled_length,
  ruled,
  Older,
  upgraded,
}
use Rattle.rules.proofs.laws.Tests.{key}
use Rattle.rules.proofs.laws.Members.{range-in}
use Rattle.rules.proofs.laws.Indexed.{
  always-append,
  always-replicate,
  always-take,
  always-drop,
  always-map,
  always-each,
  each_same,
  length-range,
  length-listed,
  part-listed,
  length-each,
}
use Rattle.rules.proofs.laws.Numbers.{Bytes, bytes-length, bytes_low}

-- a last page that does not stand for another is read as it stands
pub last-raw : (v : List ℕ) (j : ℕ) → ((reader_number v j 0 ≡ 0 → ⊥) → reader_number v j 4 ≡ 0 → ⊥) → last_from v j ≡ reader_number v j 4
last-raw v j none =
    let n = reader_number v j 4 in
    let x = get_or (take 8 (drop 5 v)) (reader_number v j 1) 0 in
    key (reader_number v j 0) 0 (λ b. cond (not b && eqb n 0) x n ≡ n) (λ _. refl)
    (λ taken. key n 0 (λ b. cond b x n ≡ n) (λ e. absurd (none taken e)) (λ _. refl))

-- 0 in a taken slot is read as its file's size
pub last-filled : (v : List ℕ) (j : ℕ) → (reader_number v j 0 ≡ 0 → ⊥) → reader_number v j 4 ≡ 0
    → last_from v j ≡ get_or (take 8 (drop 5 v)) (reader_number v j 1) 0
last-filled v j taken old =
    let n = reader_number v j 4 in
    let x = get_or (take 8 (drop 5 v)) (reader_number v j 1) 0 in
    key (reader_number v j 0) 0 (λ b. cond (not b && eqb n 0) x n ≡ x) (λ e. absurd (taken e))
    (λ _. key n 0 (λ b. cond b x n ≡ x) (λ _. refl) (λ ne. absurd (ne old)))

-- where its length is not that of the step, an image stays as it is
pub marked-same : (image : List ℕ) → (length image ≡ unmarked_length → ⊥) → marked image ≡ image
unfolding marked
marked-same image n = rw (ne_eqb (length image) unmarked_length n)

ruled-same : (image : List ℕ) → (length image ≡ unruled_length → ⊥) → ruled image ≡ image
unfolding ruled
ruled-same image n = rw (ne_eqb (length image) unruled_length n)

-- A.6: "only shorter images come back longer"
pub upgraded-same : (image : List ℕ) → (Older image → ⊥) → upgraded image ≡ image
unfolding upgraded
upgraded-same image n = ap ruled (marked-same image (λ e. n (inl e))) ∙ ruled-same image (λ e. n (inr e))

-- ---- the first step: the last pages and the marks

-- a slot's 8 bytes: six as they were, then the last page
abbrev pub slot_bytes : List ℕ → ℕ → List ℕ
slot_bytes image j = map (λ i. get_or image (28 + 8 * j + i) 0) (range 0 6) ++ bytes_of 2 (last_from (image_numbers image) j)

pub slot-wide : (image : List ℕ) (j : ℕ) → length (slot_bytes image j) ≡ 8
slot-wide image j =
    let f : ℕ → ℕ = λ i. get_or image (28 + 8 * j + i) 0 in
    omega (
      arith,
      length-append (map f (range 0 6)) (bytes_of 2 (last_from (image_numbers image) j)),
      length-listed f 6,
      bytes-length 2 (last_from (image_numbers image) j),
    )

pub mark-wide : (image : List ℕ) (j : ℕ) → length (first_mark image j) ≡ 2
mark-wide image j = bytes-length 2 _

-- the bytes of the sixteen slots, and their marks
abbrev pub slots_bytes : List ℕ → List ℕ
slots_bytes image = each (slot_bytes image) (range 0 16)

abbrev pub first_marks : List ℕ → List ℕ
first_marks image = each (first_mark image) (range 0 16)

module _ (image : List ℕ) (old : length image ≡ unmarked_length) where
  -- the parts of an image without marks and its marks
  pub marked-parts : marked image ≡ take 28 image ++ (slots_bytes image ++ (drop 156 image ++ first_marks image))
  unfolding marked filled_slot
  marked-parts = rw (eq-eqb (length image) unmarked_length old)
      (ap (λ r. take 28 image ++ (r ++ (drop 156 image ++ first_marks image)))
      (each_same (filled_slot image) (slot_bytes image) (range 0 16) (range-in (λ j. filled_slot image j ≡ slot_bytes image j) 0 16 (λ j _ l.
      ap (λ r. r ++ bytes_of 2 (last_from (image_numbers image) j)) (part-listed image 0 (28 + 8 * j) 6 (omega arith))))))

  pub slots-long : length (slots_bytes image) ≡ 128
  slots-long = omega (arith, length-each (slot_bytes image) 8 (slot-wide image) (range 0 16), length-range 0 16)

  marks-long : length (first_marks image) ≡ 32
  marks-long = omega (arith, length-each (first_mark image) 2 (mark-wide image) (range 0 16), length-range 0 16)

  -- it is as long as one with marks
  marked-long : length (marked image) ≡ unruled_length
  marked-long =
      ap length marked-parts
      ∙ omega (
        arith,
        length-append (take 28 image) (slots_bytes image ++ (drop 156 image ++ first_marks image)),
        length-append (slots_bytes image) (drop 156 image ++ first_marks image),
        length-append (drop 156 image) (first_marks image),
        length-take 28 image,
        length-drop 156 image,
        slots-long,
        marks-long,
      )

  -- and of bytes, where the image is
  unmarked-bytes : Bytes image → Bytes (marked image)
  unmarked-bytes bytes =
      let low : ℕ → Type 0 = λ b. b < 256 in
      let zero-low : 0 < 256 = omega arith in
      let slot : (j : ℕ) → Bytes (slot_bytes image j) =
      λ j. always-append low 0 (map (λ i. get_or image (28 + 8 * j + i) 0) (range 0 6)) (bytes_of 2 (last_from (image_numbers image) j))
      (always-map low 0 zero-low 0 (λ i. get_or image (28 + 8 * j + i) 0) (range 0 6) (λ i. bytes (28 + 8 * j + get_or (range 0 6) i 0)))
      (bytes_low 2 (last_from (image_numbers image) j)) in
      subst Bytes (sym marked-parts)
      (always-append low 0 (take 28 image) _ (always-take low 0 zero-low 28 image bytes)
      (always-append low 0 (slots_bytes image) _ (always-each low 0 zero-low 0 (slot_bytes image) (range 0 16) (λ j. slot (get_or (range 0 16) j 0)))
      (always-append low 0 (drop 156 image) _ (always-drop low 0 156 image bytes)
      (always-each low 0 zero-low 0 (first_mark image) (range 0 16) (λ j. bytes_low 2 _)))))

marked-bytes : (image : List ℕ) → Bytes image → Bytes (marked image)
marked-bytes image bytes = go (ℕ_discrete (length image) unmarked_length)
  where
    go : Dec (length image ≡ unmarked_length) → Bytes (marked image)
    go (yes e) = unmarked-bytes image e bytes
    go (no n) = subst Bytes (sym (marked-same image n)) bytes

-- ---- the second: the rule, E and R

ruled-parts : (image : List ℕ) → length image ≡ unruled_length → ruled image ≡ image ++ replicate 34 0
unfolding ruled
ruled-parts image e = rw (eq-eqb (length image) unruled_length e)

ruled-bytes : (image : List ℕ) → Bytes image → Bytes (ruled image)
ruled-bytes image bytes = go (ℕ_discrete (length image) unruled_length)
  where
    go : Dec (length image ≡ unruled_length) → Bytes (ruled image)
    go (yes e) =
        subst Bytes (sym (ruled-parts image e))
        (always-append (λ b. b < 256) 0 image (replicate 34 0) bytes (always-replicate (λ b. b < 256) 0 (omega arith) 34))
    go (no n) = subst Bytes (sym (ruled-same image n)) bytes

-- ---- both

-- bytes are upgraded to bytes
pub upgraded-bytes : (image : List ℕ) → Bytes image → Bytes (upgraded image)
unfolding upgraded
upgraded-bytes image bytes = ruled-bytes (marked image) (marked-bytes image bytes)

module _ (image : List ℕ) (older : Older image) where
  -- with its marks, an older image is as long as the one that had them first
  pub older-long : length (marked image) ≡ unruled_length
  older-long = ⊎_elim (marked-long image) (λ e. ap length (marked-same image (λ o. omega arith)) ∙ e) older

  -- the bytes behind them are 0
  pub upgraded-parts : upgraded image ≡ marked image ++ replicate 34 0
  unfolding upgraded
  upgraded-parts = ruled-parts (marked image) older-long

  -- it is as long as Save writes it
  pub upgraded-long : length (upgraded image) ≡ image_length
  upgraded-long = ap length upgraded-parts ∙ length-append (marked image) (replicate 34 0) ∙ ap (λ n. n + 34) older-long
