-- Numbers as bytes and back. Assumes nothing.
use mathlib.Core.Path.{◌≡◌, refl, ap, ap₂, ◌∙◌}
use mathlib.Core.List.{List, [], ◌∷◌}
use Prim.Native.Nat.{ℕ, zero, suc, ◌+◌, ◌*◌, ◌/◌, ◌^◌, ◌<◌}
use native.Mathlib.Nat.{pow-suc}
use native.Mathlib.Omega.{arith}
use lib.ListN.{length}
use Rattle.rules.specs.Image.{bytes_of, number_of}
use Rattle.rules.proofs.laws.Indexed.{Always}

-- every element is a byte
abbrev pub Bytes : List ℕ → Type 0
Bytes = Always (λ b. b < 256) 0

-- a number has as many bytes as asked for
pub bytes-length : (w n : ℕ) → length (bytes_of w n) ≡ w
unfolding bytes_of
bytes-length zero n = refl
bytes-length (suc w) n = ap suc (bytes-length w (n / 256))

-- they are bytes
pub bytes_low : (w n : ℕ) → Bytes (bytes_of w n)
unfolding bytes_of
bytes_low zero n i = omega arith
bytes_low (suc w) n zero = omega arith
bytes_low (suc w) n (suc i) = bytes_low w (n / 256) i

-- the bytes of a number that fits stand for it
pub number-bytes : (w n : ℕ) → n < 256 ^ w → number_of (bytes_of w n) ≡ n
unfolding bytes_of number_of
number-bytes zero n h = omega arith
number-bytes (suc w) n h = omega (arith, number-bytes w (n / 256) (omega (arith, pow-suc 256 w)))

-- bytes are those of the number that they stand for
pub bytes-number : (bs : List ℕ) → Bytes bs → bytes_of (length bs) (number_of bs) ≡ bs
unfolding bytes_of number_of
bytes-number [] h = refl
bytes-number (b ∷ bs) h =
    let l = h zero in
    let high : (b + 256 * number_of bs) / 256 ≡ number_of bs = omega arith in
    ap₂ ◌∷◌ (omega arith) (ap (bytes_of (length bs)) high ∙ bytes-number bs (λ i. h (suc i)))

-- a number of so many bytes fits them
pub number-low : (bs : List ℕ) → Bytes bs → number_of bs < 256 ^ length bs
unfolding number_of
number-low [] h = omega arith
number-low (b ∷ bs) h = omega (arith, h zero, number-low bs (λ i. h (suc i)), pow-suc 256 (length bs))
