-- Where a line of a chunk ends, and the text in its buffer. Assumes nothing.
use Rattle.std.proofs.Common.{ℕ, suc, ◌+◌, ◌-◌, ◌≤◌, ◌<◌, ◌≡◌, ◌∙◌, List, [], ◌∷◌, ◌++◌, length, get_or, take, drop, set, leb, eqb}
use Rattle.std.proofs.Common.{refl, sym, ap, append_assoc, append-nil, arith, le-leb}
use Rattle.std.proofs.Common.{leb-true, leb-false, length-append, length-drop, length-take-le, take_at, drop-drop, drop_of_length-le}
use Prim.Native.Char.{code as ascii}
use borrow.Author.Tests.{lt-leb}
use Rattle.rules.specs.Lines.{split}
use Rattle.text.specs.Commands.{first_piece}
use Rattle.rules.specs.Lists.{written}
use Rattle.text.specs.Cuts.{line_in, end_of, too_long, clipped, text_in, kept}
use Rattle.text.proofs.Pieces.{by-test, split_at, first_on, Walked, walked_at, walked_end}
use Rattle.text.proofs.Feeds.{split-ended, split-whole}

pub by_most : {A : Type 0} (a b : ℕ) → (a ≤ b → A) → (b < a → A) → A
by_most a b f g = by-test (leb a b) (λ e. f (leb-true a b e)) (λ e. g (leb-false a b e))

-- ---- where a line ends

module _ (chunk : List ℕ) (from i : ℕ) (w : Walked (ascii "\n") chunk from i) where
  -- at a line end
  pub end-met : i < length chunk → get_or chunk i 0 ≡ ascii "\n" → i ≡ end_of chunk from
  end-met h e = rw (walked_at (ascii "\n") chunk from i w h e) (sym w.long)

  -- with the chunk
  pub end-all : length chunk ≤ i → i ≡ end_of chunk from
  end-all h = rw (walked_end (ascii "\n") chunk from i w h) (sym w.long)

-- the first piece is the front
pub first-front : (sep : ℕ) (l : List ℕ) → first_piece sep l ≡ take (length (first_piece sep l)) l
unfolding split
first-front sep [] = refl
first-front sep (b ∷ bs) =
    by-test (eqb b sep)
    (λ e. rw (split_at sep b bs e))
    (λ e. rw (first_on sep b bs e) (ap (λ l. b ∷ l) (first-front sep bs)))

module _ (chunk : List ℕ) (from : ℕ) where
  -- a line that ends within the chunk, and the pieces behind it
  pub end_line : end_of chunk from < length chunk
      → split (ascii "\n") (drop from chunk) ≡ take (end_of chunk from - from) (drop from chunk) ∷ split (ascii "\n") (drop (end_of chunk from + 1) chunk)
  end_line h =
      let l = drop from chunk in
      let n = length (line_in l) in
      let long : n < length l = omega (arith, length-drop from chunk) in
      let two : 1 < length (split (ascii "\n") l) = by_most (length (split (ascii "\n") l)) 1 (λ few. absurd (one few)) (λ k. k) in
      let parts = (split-ended (ascii "\n") l two).pieces in
      let behind : from + suc n ≡ end_of chunk from + 1 = omega arith in
      let width : n ≡ end_of chunk from - from = omega arith in
      parts
      ∙ rw (drop-drop, behind)
      (ap (λ x. x ∷ split (ascii "\n") (drop (end_of chunk from + 1) chunk)) (first-front (ascii "\n") l ∙ ap (λ m. take m l) width))
    where
      one : length (split (ascii "\n") (drop from chunk)) ≤ 1 → ⊥
      one few =
          let whole = ap (λ ps. length (get_or ps 0 [])) (split-whole (ascii "\n") (drop from chunk) few) in
          omega (arith, length-drop from chunk, h)

  -- one that does not
  pub end-last : from ≤ length chunk → length chunk ≤ end_of chunk from → split (ascii "\n") (drop from chunk) ≡ drop from chunk ∷ []
  end-last low h =
      split-whole (ascii "\n") (drop from chunk)
      (by_most (length (split (ascii "\n") (drop from chunk))) 1 (λ few. few)
      (λ two. absurd (omega (arith, (split-ended (ascii "\n") (drop from chunk) two).inside, length-drop from chunk))))

-- ---- the text in its buffer

kept-short : (t buffer : List ℕ) → length t ≤ 200 → kept buffer t ≡ length t ∷ (t ++ drop (1 + length t) buffer)
unfolding kept
kept-short t buffer h = rw (le-leb _ _ h)

kept-long : (t buffer : List ℕ) → 200 < length t → kept buffer t ≡ 201 ∷ drop 1 buffer
unfolding kept
kept-long t buffer h = rw (lt-leb _ _ h)

pub clipped-long : (t : List ℕ) → 200 < length t → clipped t ≡ too_long
unfolding clipped
clipped-long t h = rw (lt-leb _ _ h)

text-short : (x : ℕ) (rest : List ℕ) → x ≤ 200 → text_in (x ∷ rest) ≡ take x rest
unfolding text_in
text-short x rest h = rw (le-leb _ _ h)

text-long : (x : ℕ) (rest : List ℕ) → 200 < x → text_in (x ∷ rest) ≡ too_long
unfolding text_in
text-long x rest h = rw (lt-leb _ _ h)

module _ (t : List ℕ) where
  pub clipped-short : length t ≤ 200 → clipped t ≡ t
  unfolding clipped
  clipped-short h = rw (le-leb _ _ h)

  -- a text and the same as far as it matters are kept alike
  pub kept-clipped : (buffer : List ℕ) → kept buffer (clipped t) ≡ kept buffer t
  kept-clipped buffer =
      by_most (length t) 200
      (λ h. rw (clipped-short h))
      (λ h. rw (clipped-long t h) (kept-long too_long buffer (omega arith) ∙ sym (kept-long t buffer h)))

  -- more bytes behind it
  pub clipped-more : (bytes : List ℕ) → clipped (clipped t ++ bytes) ≡ clipped (t ++ bytes)
  clipped-more bytes =
      by_most (length t) 200
      (λ h. rw (clipped-short h))
      (λ h.
      let over : 200 < length (too_long ++ bytes) = rw (length-append too_long bytes) (omega arith) in
      let long : 200 < length (t ++ bytes) = rw (length-append t bytes) (omega arith) in
      rw (clipped-long t h) (clipped-long (too_long ++ bytes) over ∙ sym (clipped-long (t ++ bytes) long)))

  -- what is kept is in the buffer
  pub text-kept : (buffer : List ℕ) → length buffer ≡ 201 → text_in (kept buffer t) ≡ clipped t
  text-kept buffer full =
      by_most (length t) 200
      (λ h. rw (kept-short t buffer h, text-short _ _ h, clipped-short h) (take_at t (drop (1 + length t) buffer) (length t) refl))
      (λ h. rw (kept-long t buffer h, clipped-long t h) (text-long 201 (drop 1 buffer) (omega arith)))

  pub kept-length : (buffer : List ℕ) → length buffer ≡ 201 → length (kept buffer t) ≡ 201
  kept-length buffer full =
      by_most (length t) 200
      (λ h. rw (kept-short t buffer h) (omega (arith, length-append t (drop (1 + length t) buffer), length-drop (1 + length t) buffer)))
      (λ h. rw (kept-long t buffer h) (omega (arith, length-drop 1 buffer)))

-- bytes put behind it
module _ (bytes : List ℕ) where
  joined : (x : ℕ) (rest : List ℕ) → length (x ∷ rest) ≡ 201 → x ≤ 200 → length (take x rest ++ bytes) ≡ x + length bytes
  joined x rest full h = omega (arith, length-append (take x rest) bytes, length-take-le x rest (omega arith))

  -- the text gets too long, or was
  pub append-over : (buffer : List ℕ) → length buffer ≡ 201 → 200 < get_or buffer 0 0 + length bytes
      → set buffer 0 201 ≡ kept buffer (text_in buffer ++ bytes)
  append-over [] full h = absurd (omega arith)
  append-over (x ∷ rest) full h =
      by_most x 200
      (λ k.
      let over : 200 < length (take x rest ++ bytes) = omega (arith, joined x rest full k) in
      rw (text-short x rest k, kept-long (take x rest ++ bytes) (x ∷ rest) over))
      (λ k.
      let over : 200 < length (too_long ++ bytes) = rw (length-append too_long bytes) (omega arith) in
      rw (text-long x rest k, kept-long (too_long ++ bytes) (x ∷ rest) over))

  -- it has room for the bytes
  pub append-fits : (buffer : List ℕ) → length buffer ≡ 201 → get_or buffer 0 0 + length bytes ≤ 200
      → set (written buffer (1 + get_or buffer 0 0) bytes) 0 (get_or buffer 0 0 + length bytes) ≡ kept buffer (text_in buffer ++ bytes)
  unfolding written
  append-fits [] full h = absurd (omega arith)
  append-fits (x ∷ rest) full h =
      let low : x ≤ 200 = omega arith in
      let long = joined x rest full low in
      let fits : length (take x rest ++ bytes) ≤ 200 = omega (arith, long) in
      let sum : 1 + x ≡ suc x = omega arith in
      let far : 1 + x + length bytes ≡ 1 + (x + length bytes) = omega arith in
      rw (text-short x rest low, kept-short (take x rest ++ bytes) (x ∷ rest) fits, long, append_assoc, far, sum)

-- ---- a text read back

-- none
pub text-none : (buffer : List ℕ) → get_or buffer 0 0 ≡ 0 → text_in buffer ≡ []
unfolding text_in
text-none buffer e = rw e

-- a text that has no byte is none, also as far as it matters
pub text-some : (buffer : List ℕ) → length buffer ≡ 201 → text_in buffer ≡ [] → get_or buffer 0 0 ≡ 0
text-some [] full e = refl
text-some (x ∷ rest) full e =
    by_most x 200
    (λ h. omega (arith, ap length (sym (text-short x rest h) ∙ e), length-take-le x rest (omega arith)))
    (λ h. absurd (omega (arith, ap length (sym (text-long x rest h) ∙ e))))

pub clipped-none : (t : List ℕ) → clipped t ≡ [] → t ≡ []
clipped-none t e =
    by_most (length t) 200
    (λ h. sym (clipped-short t h) ∙ e)
    (λ h. absurd (omega (arith, ap length (sym (clipped-long t h) ∙ e))))

module _ (t buffer : List ℕ) where
  -- by what the buffer says of it, a text fits or is too long
  pub kept-over : 200 < get_or (kept buffer t) 0 0 → 200 < length t
  kept-over h = by_most (length t) 200 (λ k. absurd (omega (arith, ap (λ l. get_or l 0 0) (kept-short t buffer k)))) (λ k. k)

  pub kept-fits : get_or (kept buffer t) 0 0 ≤ 200 → length t ≤ 200
  kept-fits h = by_most (length t) 200 (λ k. k) (λ k. absurd (omega (arith, ap (λ l. get_or l 0 0) (kept-long t buffer k))))

  -- a byte says it
  pub kept_low : (l : List ℕ) → l ≡ kept buffer t → get_or l 0 0 ≤ 201
  kept_low l e =
      by_most (length t) 200
      (λ k. rw (e, kept-short t buffer k) (omega arith))
      (λ k. rw (e, kept-long t buffer k) (omega arith))

  -- one that fits stands behind its length
  pub kept-front : length t ≤ 200 → take (get_or (kept buffer t) 0 0) (drop 1 (kept buffer t)) ≡ t
  kept-front h = rw (kept-short t buffer h) (take_at t (drop (1 + length t) buffer) (length t) refl)

-- what is kept depends on the bytes that are overwritten in nothing
pub kept_same : (a b t : List ℕ) → drop 1 a ≡ drop 1 b → kept a t ≡ kept b t
unfolding kept
kept_same a b t e = rw (← drop-drop (length t) 1 a, ← drop-drop (length t) 1 b, e)

-- a buffer without a text keeps none
pub kept-none : (a b : List ℕ) → length b ≡ 201 → get_or b 0 0 ≡ 0 → drop 1 b ≡ drop 1 a → kept a [] ≡ b
unfolding kept
kept-none a [] full e h = absurd (omega arith)
kept-none a (x ∷ rest) full e h = rw (e, h)

-- a buffer copied whole
pub copied-whole : (l t : List ℕ) → length l ≡ length t → written l 0 t ≡ t
unfolding written
copied-whole l t e = let past : length l ≤ 0 + length t = omega arith in rw (drop_of_length-le l past, append-nil)
