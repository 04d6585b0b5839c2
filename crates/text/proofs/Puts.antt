-- Bytes written into a buffer, and the digits of a number. Assumes nothing.
use Rattle.std.proofs.Common.{ℕ, zero, suc, ◌+◌, ◌/◌, ◌%◌, ◌^◌, ◌≤◌, ◌<◌, ◌≡◌, ◌∙◌, Bool}
use Rattle.std.proofs.Common.{true, false, cond, List, [], ◌∷◌, ◌++◌, reverse, take, drop, length, set, ltb}
use Rattle.std.proofs.Common.{refl, sym, ap, append_assoc, append-nil, pow-suc, arith}
use Rattle.std.proofs.Common.{lt-ltb, le-ltb, length-take-le, take_at, drop_at, length-append, length-set}
use Prim.Native.Char.{code as ascii}
use Rattle.std.proofs.lemmas.List.{reverse-reverse, length-reverse}
use Rattle.std.proofs.lemmas.Grind.{reverse_onto}
use borrow.Rule.Slice.PartMut.{put_mid}
use Rattle.rules.specs.Lines.{digits_of}
use Rattle.rules.specs.Lists.{written}
use Rattle.rules.proofs.laws.Lists.{written_none, written_one, written-more}
use Rattle.text.specs.Written.{Put}

-- ---- a buffer

-- bytes put behind bytes
pub put-more : (l m out : List ℕ) (at i j : ℕ) (xs ys : List ℕ) → Put l at xs m i → Put m i ys out j
    → at + length xs + length ys ≤ length l → Put l at (xs ++ ys) out j
put-more l m out at i j xs ys p q h =
    let place : j ≡ at + length (xs ++ ys) = rw length-append (omega (arith, p.next_is, q.next_is)) in
    record { buffer = q.buffer ∙ rw (p.next_is, p.buffer) (written-more l at xs ys h); next_is = place }

-- ---- the digits of a number

shorter : (t : Bool) (l : List ℕ) (m : ℕ) → length l ≤ m → length (cond t [] l) ≤ m
shorter true l m h = omega arith
shorter false l m h = h

-- at most so many
pub digits-length : (m n : ℕ) → length (digits_of m n) ≤ m
unfolding digits_of
digits-length zero n = omega arith
digits-length (suc m) n = rw length-append (omega (arith, shorter (ltb n 10) (digits_of m (n / 10)) m (digits-length m (n / 10))))

-- one digit
pub digits-one : (m n : ℕ) → n < 10 → digits_of (suc m) n ≡ (ascii "0" + n) ∷ []
unfolding digits_of
digits-one m n h =
    let e : n % 10 ≡ n = omega arith in
    rw (lt-ltb n 10 h, e)

-- more digits
pub digits_more : (m n : ℕ) → 10 ≤ n → digits_of (suc m) n ≡ digits_of m (n / 10) ++ (ascii "0" + n % 10) ∷ []
unfolding digits_of
digits_more m n h = rw (le-ltb n 10 h)

-- at least one
pub digits-some : (m n : ℕ) → 1 ≤ length (digits_of (suc m) n)
unfolding digits_of
digits-some m n = rw length-append (omega arith)

-- the digits of n are those of a number that is left, then a tail
pub record Left (n left : ℕ) (tail : List ℕ) : Type 0 where
  pub more : ℕ
  pub below : left < 10 ^ suc more
  pub digits : digits_of 10 n ≡ digits_of (suc more) left ++ tail

-- at first all is left
pub left-all : (n : ℕ) → n < 10000000000 → Left n n []
left-all n h = record { more = 9; below = h; digits = sym (append-nil (digits_of 10 n)) }

module _ (n left : ℕ) (tail : List ℕ) (l : Left n left tail) where
  -- a digit is left
  pub left-some : suc (length tail) ≤ length (digits_of 10 n)
  left-some = rw (l.digits, length-append) (omega (arith, digits-some l.more left))

  -- the last digit is left
  pub left-last : left < 10 → digits_of 10 n ≡ (ascii "0" + left) ∷ tail
  left-last h = l.digits ∙ rw (digits-one l.more left h)

less : (n left : ℕ) (tail : List ℕ) (more : ℕ) → left < 10 ^ suc more → digits_of 10 n ≡ digits_of (suc more) left ++ tail → 10 ≤ left
    → Left n (left / 10) ((ascii "0" + left % 10) ∷ tail)
less n left tail zero b d h = let z : ⊥ = omega arith in absurd z
less n left tail (suc more) b d h =
    let p = pow-suc 10 (suc more) in
    let q : left / 10 < 10 ^ suc more = omega arith in
    record { more = more; below = q; digits = d ∙ rw (digits_more (suc more) left h, append_assoc) }

-- one digit fewer is left
pub left_less : (n left : ℕ) (tail : List ℕ) → Left n left tail → 10 ≤ left → Left n (left / 10) ((ascii "0" + left % 10) ∷ tail)
left_less n left tail l = less n left tail l.more l.below l.digits

-- ---- digits written the last one first, and then turned round

-- those behind the number that is left stand from `at` up to i
pub record Turned (l : List ℕ) (n at left i : ℕ) (out : List ℕ) : Type 0 where
  pub tail : List ℕ
  pub digits : Left n left tail
  pub buffer : out ≡ written l at (reverse tail)
  pub next_is : i ≡ at + length tail
  pub same : length out ≡ length l

-- nothing is written
pub turned_start : (l : List ℕ) (n at : ℕ) → n < 10000000000 → Turned l n at n at l
turned_start l n at h = record { tail = []; digits = left-all n h; buffer = written_none l at; next_is = omega arith; same = refl }

-- a part of what is written turned round
turn : (l ds : List ℕ) (at k : ℕ) → at + length ds ≤ length l → k ≡ length ds
    → put_mid at k (written l at ds) (reverse (take k (drop at (written l at ds)))) ≡ written l at (reverse ds)
unfolding written
turn l ds at k h e =
    let n : length (take at l) ≡ at = length-take-le at l (omega arith) in
    let r : List ℕ = drop (at + length ds) l in
    rw (e, drop_at (take at l) (ds ++ r) at n, take_at (take at l) (ds ++ r) at n, take_at ds r (length ds) refl, drop_at ds r (length ds) refl, length-reverse)

module _ (l : List ℕ) (n at left i : ℕ) (out : List ℕ) (t : Turned l n at left i out) (room : at + length (digits_of 10 n) ≤ length l) where
  -- there is a place for one more
  pub turned-room : i < length out
  turned-room = omega (arith, left-some n left t.tail t.digits, t.next_is, t.same)

  write : (x : ℕ) → set out i x ≡ written l at (reverse (x ∷ t.tail))
  write x =
      let far : at + length (reverse t.tail) + 1 ≤ length l = rw length-reverse (omega (arith, turned-room, t.next_is, t.same)) in
      let more : reverse (x ∷ t.tail) ≡ reverse t.tail ++ x ∷ [] = reverse_onto t.tail x [] in
      let place : i ≡ at + length (reverse t.tail) = rw length-reverse t.next_is in
      written_one out i x turned-room ∙ rw (t.buffer, place, more) (written-more l at (reverse t.tail) (x ∷ []) far)

  -- one digit more
  pub turned_step : 10 ≤ left → Turned l n at (left / 10) (i + 1) (set out i (ascii "0" + left % 10))
  turned_step h =
      let place : i + 1 ≡ at + suc (length t.tail) = omega (arith, t.next_is) in
      record {
        tail = (ascii "0" + left % 10) ∷ t.tail;
        digits = left_less n left t.tail t.digits h;
        buffer = write (ascii "0" + left % 10);
        next_is = place;
        same = length-set out i (ascii "0" + left % 10) ∙ t.same;
      }

  -- the last digit, and all are turned
  pub turned_end : left < 10 → (k : ℕ) → at + k ≡ i + 1
      → Put l at (digits_of 10 n) (put_mid at k (set out i (ascii "0" + left)) (reverse (take k (drop at (set out i (ascii "0" + left)))))) (i + 1)
  turned_end h k e =
      let d = left-last n left t.tail t.digits h in
      let long : length (digits_of 10 n) ≡ suc (length t.tail) = ap length d in
      let ds : List ℕ = reverse ((ascii "0" + left) ∷ t.tail) in
      let many : length ds ≡ suc (length t.tail) = length-reverse ((ascii "0" + left) ∷ t.tail) in
      let place : i + 1 ≡ at + length (digits_of 10 n) = omega (arith, t.next_is) in
      record {
        buffer = rw (write (ascii "0" + left)) (turn l ds at k (omega arith) (omega (arith, t.next_is)) ∙ rw (reverse-reverse, d));
        next_is = place;
      }
