-- A table of fields, any one, as bytes and as numbers. Assumes nothing.
use mathlib.Core.Path.{◌≡◌, refl, sym, ap, ap₂, ◌∙◌}
use mathlib.Core.List.{List, [], ◌∷◌, ◌++◌, map, append_assoc, head-eq_of_cons-eq, tail-eq_of_cons-eq}
use Prim.Native.Nat.{ℕ, zero, suc, ◌+◌, ◌^◌, ◌≤◌, ◌<◌}
use native.Mathlib.Nat.{pow-le-pow_right, lt_of_lt_of_le}
use native.Mathlib.Omega.{arith}
use lib.ListN.{length, get_or, take, drop, length-append, length-take, length-drop, take-append-drop}
use lib.Seq.{take_at, drop_at, drop-drop, length-take-le}
use Rattle.rules.specs.Lists.{each}
use Rattle.rules.specs.Image.{Field, field, bytes_of, encoded, number_of, numbers_in}
use Rattle.rules.proofs.laws.Indexed.{Always, always-take, always-drop}
use Rattle.rules.proofs.laws.Numbers.{Bytes, bytes-length, number-bytes, bytes-number, number-low}

-- a table's widths
abbrev pub widths : List Field → List ℕ
widths = map (λ f. f.width)

-- a table's values
abbrev pub values : List Field → List ℕ
values = map (λ f. f.value)

-- the value fits its width
abbrev pub Fit : Field → Type 0
Fit f = f.value < 256 ^ f.width

-- every value fits its width
abbrev pub Fits : List Field → Type 0
Fits = Always Fit (field 0 0)

-- the sum of some widths
unfoldable pub total : List ℕ → ℕ
total [] = 0
total (w ∷ ws) = w + total ws

-- there are as many bytes as the widths sum to
pub encoded-length : (fs : List Field) → length (encoded fs) ≡ total (widths fs)
unfolding each total
encoded-length [] = refl
encoded-length (f ∷ fs) =
    omega (arith, length-append (bytes_of f.width f.value) (encoded fs), bytes-length f.width f.value, encoded-length fs)

-- the numbers of a table's bytes are its values
pub numbers-encoded : (fs : List Field) (rest : List ℕ) → Fits fs → numbers_in fs (encoded fs ++ rest) ≡ values fs
unfolding each numbers_in
numbers-encoded [] rest h = refl
numbers-encoded (f ∷ fs) rest h =
    let w = f.width in
    let bs = bytes_of w f.value in
    let more = encoded fs ++ rest in
    let cut = append_assoc bs (encoded fs) rest in
    ap₂ ◌∷◌
    (ap number_of (ap (take w) cut ∙ take_at bs more w (bytes-length w f.value)) ∙ number-bytes w f.value (h zero))
    (ap (numbers_in fs) (ap (drop w) cut ∙ drop_at bs more w (bytes-length w f.value)) ∙ numbers-encoded fs rest (λ i. h (suc i)))

-- bytes of the table's length are those of a table with their numbers
pub encoded-numbers : (fs : List Field) (image : List ℕ) → length image ≡ total (widths fs) → Bytes image → values fs ≡ numbers_in fs image → encoded fs ≡ image
unfolding each numbers_in total
encoded-numbers [] [] l h e = refl
encoded-numbers [] (b ∷ image) l h e = absurd (omega arith)
encoded-numbers (f ∷ fs) image l h e =
    let w = f.width in
    let first = take w image in
    let long : length first ≡ w = length-take-le w image (omega arith) in
    let same : bytes_of w f.value ≡ bytes_of (length first) (number_of first) = ap₂ bytes_of (sym long) (head-eq_of_cons-eq e) in
    let rest = encoded-numbers fs (drop w image) (omega (arith, length-drop w image)) (always-drop (λ b. b < 256) 0 w image h) (tail-eq_of_cons-eq e) in
    ap₂ ◌++◌ (same ∙ bytes-number first (always-take (λ b. b < 256) 0 (omega arith) w image h)) rest ∙ take-append-drop w image

-- the numbers depend on the widths alone
pub numbers-alike : (fs gs : List Field) (image : List ℕ) → widths fs ≡ widths gs → numbers_in fs image ≡ numbers_in gs image
unfolding numbers_in
numbers-alike [] [] image e = refl
numbers-alike [] (g ∷ gs) image e = let l = ap length e in absurd (omega arith)
numbers-alike (f ∷ fs) [] image e = let l = ap length e in absurd (omega arith)
numbers-alike (f ∷ fs) (g ∷ gs) image e =
    let w : f.width ≡ g.width = head-eq_of_cons-eq e in
    ap₂ ◌∷◌ (ap (λ n. number_of (take n image)) w) (ap (λ n. numbers_in fs (drop n image)) w ∙ numbers-alike fs gs (drop g.width image) (tail-eq_of_cons-eq e))

-- there are as many numbers as fields
pub numbers-length : (fs : List Field) (image : List ℕ) → length (numbers_in fs image) ≡ length fs
unfolding numbers_in
numbers-length [] image = refl
numbers-length (f ∷ fs) image = ap suc (numbers-length fs (drop f.width image))

-- the numbers from number i on are those of the fields from there on
pub numbers-drop : (fs : List Field) (image : List ℕ) (i : ℕ)
    → drop i (numbers_in fs image) ≡ numbers_in (drop i fs) (drop (total (take i (widths fs))) image)
unfolding numbers_in total
numbers-drop fs image zero = refl
numbers-drop [] image (suc i) = refl
numbers-drop (f ∷ fs) image (suc i) =
    numbers-drop fs (drop f.width image) i ∙ ap (numbers_in (drop i fs)) (drop-drop (total (take i (widths fs))) f.width image)

-- number i stands at the sum of the widths before it, in as many bytes as its width
pub number_at : (fs : List Field) (image : List ℕ) (i : ℕ)
    → get_or (numbers_in fs image) i 0 ≡ number_of (take (get_or (widths fs) i 0) (drop (total (take i (widths fs))) image))
unfolding numbers_in number_of total
number_at [] image i = refl
number_at (f ∷ fs) image zero = refl
number_at (f ∷ fs) image (suc i) =
    let ws = widths fs in
    number_at fs (drop f.width image) i ∙ ap (λ r. number_of (take (get_or ws i 0) r)) (drop-drop (total (take i ws)) f.width image)

-- a number read fits its width
pub numbers-low : (fs : List Field) (image : List ℕ) → Bytes image → (i : ℕ) → get_or (numbers_in fs image) i 0 < 256 ^ get_or (widths fs) i 0
numbers-low fs image h i =
    let w = get_or (widths fs) i 0 in
    let after = drop (total (take i (widths fs))) image in
    let bytes : Bytes after = always-drop (λ b. b < 256) 0 (total (take i (widths fs))) image h in
    let short : length (take w after) ≤ w = omega (arith, length-take w after) in
    rw (number_at fs image i)
    (lt_of_lt_of_le (number-low (take w after) (always-take (λ b. b < 256) 0 (omega arith) w after bytes)) (pow-le-pow_right (omega arith) short))
