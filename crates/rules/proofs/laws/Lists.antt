-- Laws about the words of specs/Lists.antt: parts of lists one after the other, and a list written into. Assumes nothing.
use mathlib.Core.Path.{◌≡◌, refl, sym, ap, ◌∙◌}
use mathlib.Core.Bool.{Bool, true, false, cond, ◌&&◌, and_assoc}
use mathlib.Core.List.{List, [], ◌∷◌, ◌++◌, append_assoc}
use Prim.Native.Nat.{ℕ, zero, suc, ◌+◌, ◌≤◌, ◌<◌}
use native.Mathlib.Nat.{zero-add, add-zero, suc-add}
use native.Mathlib.Omega.{arith}
use native.Mathlib.Numerals.{add-one}
use lib.ListN.{length, get_or, take, drop, set, length-append, take-append-drop}
use lib.Seq.{length-take-le, set_at, set_split, take_at, take-suc, drop-drop}
use Rattle.rules.specs.Lists.{range, each, only, every, written}
use Rattle.rules.proofs.laws.Indexed.{drop_past}

-- a range in two parts
pub range-add : (a m n : ℕ) → range a (m + n) ≡ range a m ++ range (a + m) n
unfolding range
range-add a zero n = rw (zero-add n, add-zero a) refl
range-add a (suc m) n =
    let e : a + 1 + m ≡ a + suc m = omega arith in
    rw (suc-add m n, ← e) (ap (λ l. a ∷ l) (range-add (a + 1) m n))

-- what is picked from two lists
pub only-append : (P : ℕ → Bool) (a b : List ℕ) → only P (a ++ b) ≡ only P a ++ only P b
unfolding only
only-append P [] b = refl
only-append P (x ∷ a) b = rw (only-append P a b) (go (P x))
  where
    go : (t : Bool) → cond t (x ∷ (only P a ++ only P b)) (only P a ++ only P b) ≡ cond t (x ∷ only P a) (only P a) ++ only P b
    go true = refl
    go false = refl

-- the lists of two parts
pub each_append : {A B : Type 0} (g : A → List B) (xs ys : List A) → each g (xs ++ ys) ≡ each g xs ++ each g ys
unfolding each
each_append g [] ys = refl
each_append g (x ∷ xs) ys = ap (λ l. g x ++ l) (each_append g xs ys) ∙ sym (append_assoc (g x) (each g xs) (each g ys))

-- every member of two lists
pub every_append : {A : Type 0} (P : A → Bool) (xs ys : List A) → every P (xs ++ ys) ≡ (every P xs && every P ys)
unfolding every
every_append P [] ys = refl
every_append P (x ∷ xs) ys = ap (λ t. P x && t) (every_append P xs ys) ∙ sym (and_assoc (P x) (every P xs) (every P ys))

-- ---- a list written into

-- nothing written
pub written_none : (l : List ℕ) (at : ℕ) → l ≡ written l at []
unfolding written
written_none l at = rw add-zero (sym (take-append-drop at l))

-- one byte
pub written_one : (l : List ℕ) (at b : ℕ) → at < length l → set l at b ≡ written l at (b ∷ [])
unfolding written
written_one l at b h = rw add-one (set_split l at b h)

-- a byte in front of those written
pub written-front : (l : List ℕ) (at b : ℕ) (bytes : List ℕ) → at < length l → set (written l (at + 1) bytes) at b ≡ written l at (b ∷ bytes)
unfolding written
written-front l at b bytes h =
    let e : at + 1 + length bytes ≡ at + suc (length bytes) = omega arith in
    let r : List ℕ = bytes ++ drop (at + suc (length bytes)) l in
    rw (e, add-one, take-suc l at 0 h, append_assoc (take at l) (get_or l at 0 ∷ []) r)
    (set_at (take at l) (get_or l at 0) r b at (length-take-le at l (omega arith)))

-- more bytes behind those written
pub written-more : (l : List ℕ) (at : ℕ) (xs ys : List ℕ) → at + length xs + length ys ≤ length l
    → written (written l at xs) (at + length xs) ys ≡ written l at (xs ++ ys)
unfolding written
written-more l at xs ys h =
    let n : ℕ = at + length xs in
    let front : List ℕ = take at l ++ xs in
    let rest : List ℕ = drop n l in
    let far : length front ≡ n = omega (arith, length-append (take at l) xs, length-take-le at l (omega arith)) in
    let end : n + length ys ≡ at + length (xs ++ ys) = omega (arith, length-append xs ys) in
    let past : drop (n + length ys) (front ++ rest) ≡ drop (at + length (xs ++ ys)) l
    = drop_past front rest n far (length ys) ∙ drop-drop (length ys) n l ∙ rw end in
    rw (← append_assoc (take at l) xs rest, take_at front rest n far, past, append_assoc (take at l) xs, append_assoc xs ys)
