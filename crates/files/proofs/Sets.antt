-- Sets of files: the set of one, one file more, the first file, and how far the files go. Assumes nothing.
use Rattle.std.proofs.Common.{ℕ, ◌*◌, ◌^◌, ◌%◌, ◌≤◌, ◌<◌, ◌≡◌, ◌∙◌, Bool, true, false, cond, [], ◌∷◌, T, eqb, refl, sym, subst, arith}
use native.Mathlib.Decide.{ℕ_discrete, dec_lt}
use borrow.Author.Tests.{eq-eqb, ne_eqb}
use lib.Dec.{eqb→eq}
use Rattle.bits.specs.Map.{digit, bit, next_bit, last_bit}
use Rattle.bits.proofs.Bits.{bit_word}
use Rattle.bits.proofs.Finds.{next_is, last-is}
use Rattle.rules.specs.Lists.{range, every}
use Rattle.rules.specs.Schedules.{num}
use Rattle.rules.proofs.laws.Cases.{passed}
use Rattle.rules.proofs.laws.Members.{range_at}
use Rattle.rules.proofs.laws.Indexed.{every-all}
use Rattle.files.specs.Sets.{in_set, NoFile}
use Rattle.files.specs.declared.FileSet.{FileSet}

-- a file of the set is below n, where none from n on is
pub below : (files : ℕ → Bool) (n : ℕ) → NoFile files n 8 → (f : ℕ) → f < 8 → T (files f) → f < n
below files n none f l o = by (dec_lt f n)
  where
    by : Dec (f < n) → f < n
    by (yes h) = h
    by (no h) = absurd (none f (omega arith) l o)

-- ---- where the files are

-- it has its digit
digit_set : (files : FileSet) (f : ℕ) → f < 64 → T (in_set files f) → bit (files.0 ∷ []) f ≡ 1
digit_set files f l o = bit_word files.0 f l ∙ eqb→eq (digit files.0 f) 1 o

-- none is before the first digit
pub set_first : (files : FileSet) (r : ℕ) → r ≡ next_bit (files.0 ∷ []) 1 0 64 → NoFile (in_set files) 0 r
set_first files r e f l u o =
    let t = next_is (files.0 ∷ []) 1 0 64 in
    t.before f l (omega arith) (digit_set files f (omega (arith, t.high)) o)

-- none is after the last one
pub set_last : (files : FileSet) (r : ℕ) → r ≡ last_bit (files.0 ∷ []) 0 8 → (r ≤ 8) × NoFile (in_set files) r 8
set_last files r e =
    let t = last-is (files.0 ∷ []) 0 8 in
    (omega (arith, t.high), λ f l u o. omega (arith, t.after f (omega arith) (omega arith), digit_set files f (omega arith) o))

-- ---- the set of one file

-- a shifted 1 has that digit, and of the eight no other
one-in-set : every (λ f. every (λ g. eqb (num (in_set (record { 0 = 1 * 2 ^ f % 2 ^ 64 }) g)) (num (eqb g f))) (range 0 8)) (range 0 8) ≡ true
unfolding every range
one-in-set = refl

num-same : (a b : Bool) → num a ≡ num b → a ≡ b
num-same true true e = refl
num-same false false e = refl
num-same true false e = absurd (omega arith)
num-same false true e = absurd (omega arith)

pub set-of-one : (b : ℕ) → b < 8 → (f : ℕ) → f < 8 → in_set (record { 0 = 1 * 2 ^ b % 2 ^ 64 }) f ≡ eqb f b
set-of-one b l f m =
    let row : ℕ → Bool = λ i. every (λ g. eqb (num (in_set (record { 0 = 1 * 2 ^ i % 2 ^ 64 }) g)) (num (eqb g i))) (range 0 8) in
    let here = range_at (λ i. T (row i)) 0 8 b (every-all row (range 0 8) (subst T (sym one-in-set) tt)) (omega arith) (omega arith) in
    let test : ℕ → Bool = λ g. eqb (num (in_set (record { 0 = 1 * 2 ^ b % 2 ^ 64 }) g)) (num (eqb g b)) in
    let there = range_at (λ g. T (test g)) 0 8 f (every-all test (range 0 8) here) (omega arith) (omega arith) in
    num-same _ _ (eqb→eq (num (in_set (record { 0 = 1 * 2 ^ b % 2 ^ 64 }) f)) (num (eqb f b)) there)

-- ---- a file more

-- a file taken into a set is in it, and so is what was
pub set_grown : (set r : FileSet) (file : ℕ) → ((f : ℕ) → digit r.0 f ≡ cond (eqb f file) 1 (digit set.0 f))
    → ((f : ℕ) → T (in_set set f) → T (in_set r f)) × T (in_set r file)
set_grown set r file e = (λ f h. by f h (ℕ_discrete f file), new file refl)
  where
    new : (f : ℕ) → f ≡ file → T (in_set r f)
    new f q = passed _ (eq-eqb (digit r.0 f) 1 (e f ∙ rw (eq-eqb f file q)))

    by : (f : ℕ) → T (in_set set f) → Dec (f ≡ file) → T (in_set r f)
    by f h (yes q) = new f q
    by f h (no q) = let d : digit r.0 f ≡ digit set.0 f = e f ∙ rw (ne_eqb f file q) in rw d h
