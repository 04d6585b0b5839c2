-- A field of a line, read digit by digit. Assumes nothing.
use Rattle.std.proofs.Common.{ℕ, suc, ◌+◌, ◌*◌, ◌-◌, ◌≤◌, ◌<◌, ◌≡◌, ◌∙◌, Some, None, take}
use Rattle.std.proofs.Common.{true, false, not, ◌&&◌, List, [], ◌∷◌, ◌++◌, length, get_or, drop, leb, eqb}
use Rattle.std.proofs.Common.{refl, sym, ap, get_or-take, get_or-drop, add-zero, append_assoc, arith, le-leb, leb-true, leb-false, eq-eqb, ne_eqb}
use Prim.Native.Char.{code as ascii}
use Rattle.std.proofs.lemmas.Option.{cond_some}
use mathlib.Core.Bool.{and-false, and-true as and_one}
use borrow.Author.Tests.{lt-leb}
use Rattle.std.proofs.Math.Seq.{slice, slice_empty, slice-cons}
use Rattle.rules.specs.Lists.{every}
use Rattle.rules.specs.Lines.{is_digit, is_decimal, decimal_value, is_field}
use Rattle.rules.proofs.laws.Cases.{and-true}
use Rattle.rules.proofs.laws.Lists.{every_append}
use Rattle.text.specs.Commands.{first_piece, grown_by, Digits, field_from, field_at}
use Rattle.text.specs.declared.Field.{Field}
use Rattle.text.proofs.Pieces.{by-test, none-if, slice-more, Walked, walked_at, walked_end, walked_more, split-some}

-- a field, and the place after it
abbrev pub found : ℕ → ℕ → Field
found value next = record { value = value; next = next }

-- ---- digits one after the other

value-append : (n : ℕ) (xs ys : List ℕ) → decimal_value n (xs ++ ys) ≡ decimal_value (decimal_value n xs) ys
unfolding decimal_value
value-append n [] ys = refl
value-append n (x ∷ xs) ys = value-append (n * 10 + (x - ascii "0")) xs ys

value_grows : (n : ℕ) (xs : List ℕ) → n ≤ decimal_value n xs
unfolding decimal_value
value_grows n [] = omega arith
value_grows n (x ∷ xs) = omega (arith, value_grows (n * 10 + (x - ascii "0")) xs)

decimal-digits : (p : List ℕ) → every is_digit p ≡ false → is_decimal p ≡ false
unfolding is_decimal every
decimal-digits [] e = refl
decimal-digits (b ∷ []) e = rw and_one at e
decimal-digits (b ∷ (c ∷ bs)) e = rw e (and-false (not (eqb b (ascii "0"))))

-- no field has a byte that is no digit
not_digit : (q : List ℕ) (b : ℕ) (more : List ℕ) → is_digit b ≡ false → is_field (q ++ b ∷ more) ≡ false
unfolding is_field every
not_digit q b more e =
    let d : every is_digit (q ++ b ∷ more) ≡ false = every_append is_digit q (b ∷ more) ∙ rw e (and-false (every is_digit q)) in
    rw (decimal-digits (q ++ b ∷ more) d)

-- no field has a part above the largest value
too_large : (q : List ℕ) (b : ℕ) (more : List ℕ) → 4294967295 < decimal_value (decimal_value 0 q) (b ∷ []) → is_field (q ++ b ∷ more) ≡ false
unfolding is_field decimal_value
too_large q b more h =
    let v = value-append 0 q (b ∷ more) in
    let g = value_grows (decimal_value 0 q * 10 + (b - ascii "0")) more in
    let l : leb (decimal_value 0 (q ++ b ∷ more)) 4294967295 ≡ false = lt-leb (decimal_value 0 (q ++ b ∷ more)) 4294967295 (omega arith) in
    rw l (and-false (is_decimal (q ++ b ∷ more)))

-- so a field stops before such a byte
bad-byte : (q : List ℕ) (b : ℕ) (more : List ℕ) → grown_by (decimal_value 0 q) b ≡ None → is_field (q ++ b ∷ more) ≡ false
unfolding grown_by
bad-byte q b more e =
    let v = decimal_value (decimal_value 0 q) (b ∷ []) in
    let t = none-if (is_digit b && leb v 4294967295) v e in
    by-test (is_digit b) (λ d. too_large q b more (leb-false v 4294967295 (rw d at t))) (not_digit q b more)

module _ (value b : ℕ) where
  -- no digit
  pub grown-other : false ≡ is_digit b → None ≡ grown_by value b
  unfolding grown_by
  grown-other e = rw (← e)

  -- a digit that makes the value too large
  pub grown-over : true ≡ is_digit b → 4294967295 < value * 10 + (b - ascii "0") → None ≡ grown_by value b
  unfolding grown_by decimal_value
  grown-over e o = rw (← e, lt-leb _ _ o)

  -- any other
  pub grown-within : true ≡ is_digit b → value * 10 + (b - ascii "0") ≤ 4294967295 → Some (value * 10 + (b - ascii "0")) ≡ grown_by value b
  unfolding grown_by decimal_value
  grown-within e o = rw (← e, le-leb _ _ o)

-- ---- a field's digits between two places of a line

-- none yet
pub digits-start : (line : List ℕ) (from : ℕ) → from ≤ length line → Digits line from from 0
unfolding every decimal_value
digits-start line from h =
    record { order = omega arith; inside = h; digits = rw (slice_empty from line); value_is = rw (slice_empty from line); small = omega arith }

module _ (line : List ℕ) (from i value : ℕ) (d : Digits line from i value) where
  -- one more
  pub digits_step : (more : ℕ) → i < length line → grown_by value (get_or line i 0) ≡ Some more → Digits line from (i + 1) more
  unfolding grown_by every decimal_value
  digits_step more h e =
      let b = get_or line i 0 in
      let w = cond_some (is_digit b && leb (decimal_value value (b ∷ [])) 4294967295) (decimal_value value (b ∷ [])) more e in
      let t = and-true (is_digit b) (leb (decimal_value value (b ∷ [])) 4294967295) w.0 in
      let s = slice-more from i line d.order h in
      let long : i + 1 ≤ length line = omega arith in
      record {
        order = omega (arith, d.order);
        inside = long;
        digits = rw (s, every_append is_digit (slice from i line) (b ∷ []), d.digits, t.0);
        value_is = sym w.1 ∙ rw (s, value-append 0 (slice from i line) (b ∷ []), ← d.value_is);
        small = rw (← w.1) (leb-true _ _ t.1);
      }

  is-field : is_decimal (slice from i line) ≡ true → Some (found value i) ≡ field_from (slice from i line) i
  unfolding field_from is_field
  is-field e = rw (e, ← d.value_is, le-leb _ _ d.small)

  is-bad : is_decimal (slice from i line) ≡ false → None ≡ field_from (slice from i line) i
  unfolding field_from is_field
  is-bad e = rw e

  one : i ≡ from + 1 → slice from i line ≡ get_or line from 0 ∷ []
  one e =
      let f : i ≡ suc from = omega arith in
      slice-cons from i line 0 (omega arith) d.inside ∙ rw (f, slice_empty (suc from) line)

  two : from + 1 < i → slice from i line ≡ get_or line from 0 ∷ (get_or line (suc from) 0 ∷ slice (suc (suc from)) i line)
  two h =
      slice-cons from i line 0 (omega arith) d.inside
      ∙ ap (λ l. get_or line from 0 ∷ l) (slice-cons (suc from) i line 0 (omega arith) d.inside)

  -- its first byte, as the code reads it
  pub first-byte : from < i → get_or (take (i - from) (drop from line)) 0 0 ≡ get_or line from 0
  first-byte h = get_or-take (i - from) (drop from line) 0 0 (omega arith) ∙ rw (get_or-drop, add-zero)

  -- no digit: no field
  pub field-none : i ≤ from → None ≡ field_from (slice from i line) i
  unfolding is_decimal
  field-none h =
      let e : i ≡ from = omega (arith, d.order) in
      is-bad (rw (e, slice_empty from line))

  -- one digit
  pub field-one : i ≡ from + 1 → Some (found value i) ≡ field_from (slice from i line) i
  unfolding is_decimal every
  field-one e = is-field (rw (one e) (rw (one e, and_one) at d.digits))

  -- a zero and more digits: no field
  pub field-zero : from + 1 < i → get_or line from 0 ≡ ascii "0" → None ≡ field_from (slice from i line) i
  unfolding is_decimal
  field-zero h e = is-bad (rw (two h, eq-eqb _ _ e))

  -- more digits
  pub field-more : from + 1 < i → (get_or line from 0 ≡ ascii "0" → ⊥) → Some (found value i) ≡ field_from (slice from i line) i
  unfolding is_decimal
  field-more h n = is-field (rw (two h, ne_eqb _ _ n) (rw (two h) at d.digits))

  module _ (w : Walked (ascii ",") line from i) where
    -- the line ends
    pub field-last : length line ≤ i → field_from (slice from i line) i ≡ field_at line from
    field-last h = rw (walked_end (ascii ",") line from i w h, w.long)

    -- a comma ends the field
    pub field-comma : i < length line → get_or line i 0 ≡ ascii "," → field_from (slice from i line) i ≡ field_at line from
    field-comma h e = rw (walked_at (ascii ",") line from i w h e, w.long)

    -- another byte spoils it
    pub field-bad : i < length line → (get_or line i 0 ≡ ascii "," → ⊥) → grown_by value (get_or line i 0) ≡ None → None ≡ field_at line from
    unfolding field_from
    field-bad h n e =
        let b = get_or line i 0 in
        let more = first_piece (ascii ",") (drop (i + 1) line) in
        let p : first_piece (ascii ",") (drop from line) ≡ slice from i line ++ b ∷ more
        = rw (
          (walked_more (ascii ",") line from i w h n).pieces,
          split-some (ascii ",") (drop (i + 1) line),
          slice-more from i line d.order h,
          append_assoc,
        ) in
        rw (p, bad-byte (slice from i line) b more (rw (← d.value_is) e))
