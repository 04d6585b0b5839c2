-- What holds at every index of a list, and the parts of lists made by `map`, `each` and `range`. Assumes nothing.
use mathlib.Core.Path.{◌≡◌, refl, sym, ap, ap₂, ◌∙◌}
use mathlib.Core.Bool.{Bool}
use mathlib.Core.List.{List, [], ◌∷◌, ◌++◌, map, map-append}
use Prim.Native.Nat.{ℕ, zero, suc, ◌+◌, ◌*◌, ◌≤◌, ◌<◌}
use native.Mathlib.Omega.{arith}
use native.Mathlib.Nat.{zero-add}
use lib.ListN.{length, get_or, take, drop, length-append, length-take, length-drop, length-map, take-append-drop, replicate, get_or-append}
use lib.Seq.{get_or-drop, get_or-append-add, drop-append-add, take-add, drop-drop, get_or-take, ext_get_or}
use lib.Dec.{T}
use Rattle.rules.specs.Lists.{range, each, every}
use Rattle.rules.proofs.laws.Tests.{and_both, and_first, and_second}
use Rattle.rules.proofs.laws.Members.{All}

-- ---- what holds at every index

-- P of every element, and of the default past the end
abbrev pub Always : {A : Type 0} → (A → Type 0) → A → List A → Type 0
Always P d xs = (i : ℕ) → P (get_or xs i d)

module _ {A : Type 0} (P : A → Type 0) (d : A) where
  -- of two lists, one after the other
  pub always-append : (a b : List A) → Always P d a → Always P d b → Always P d (a ++ b)
  always-append [] b h k i = k i
  always-append (x ∷ a) b h k zero = h zero
  always-append (x ∷ a) b h k (suc i) = always-append a b (λ j. h (suc j)) k i

  -- of what is left of a list
  pub always-drop : (n : ℕ) (xs : List A) → Always P d xs → Always P d (drop n xs)
  always-drop n xs h i = rw (get_or-drop n xs i d) (h (n + i))

  module _ (p : P d) where
    -- of the default, n times
    pub always-replicate : (n : ℕ) → Always P d (replicate n d)
    always-replicate zero i = p
    always-replicate (suc n) zero = p
    always-replicate (suc n) (suc i) = always-replicate n i

    -- of the front of a list
    pub always-take : (n : ℕ) (xs : List A) → Always P d xs → Always P d (take n xs)
    always-take zero xs h i = p
    always-take (suc n) [] h i = p
    always-take (suc n) (x ∷ xs) h zero = h zero
    always-take (suc n) (x ∷ xs) h (suc i) = always-take n xs (λ j. h (suc j)) i

    module _ {B : Type 0} (e : B) where
      -- of what members are turned into
      pub always-map : (f : B → A) (xs : List B) → ((j : ℕ) → P (f (get_or xs j e))) → Always P d (map f xs)
      always-map f [] h i = p
      always-map f (x ∷ xs) h zero = h zero
      always-map f (x ∷ xs) h (suc i) = always-map f xs (λ j. h (suc j)) i

      -- of the lists of the members
      pub always-each : (g : B → List A) (xs : List B) → ((j : ℕ) → Always P d (g (get_or xs j e))) → Always P d (each g xs)
      unfolding each
      always-each g [] h = λ i. p
      always-each g (x ∷ xs) h = always-append (g x) (each g xs) (h zero) (always-each g xs (λ j. h (suc j)))

-- of every member, so at every index
pub all-always : (Q : ℕ → Type 0) (d : ℕ) → Q d → (l : List ℕ) → All Q l → Always Q d l
all-always Q d q [] h i = q
all-always Q d q (x ∷ l) h zero = h.0
all-always Q d q (x ∷ l) h (suc i) = all-always Q d q l h.1 i

-- at every index, so of every member
pub always-all : (Q : ℕ → Type 0) (d : ℕ) (l : List ℕ) → Always Q d l → All Q l
always-all Q d [] h = tt
always-all Q d (x ∷ l) h = (h zero, always-all Q d l (λ i. h (suc i)))

-- `every` tests all members
pub every-all : (P : ℕ → Bool) (l : List ℕ) → T (every P l) → All (λ x. T (P x)) l
unfolding every
every-all P [] h = tt
every-all P (x ∷ l) h = (and_first (P x) (every P l) h, every-all P l (and_second (P x) (every P l) h))

-- and is passed where all pass
pub all-every : (P : ℕ → Bool) (l : List ℕ) → All (λ x. T (P x)) l → T (every P l)
unfolding every
all-every P [] h = tt
all-every P (x ∷ l) h = and_both (P x) (every P l) h.0 (all-every P l h.1)

-- ---- maps, ranges and lists one after the other

-- past a front of known length
module _ {A : Type 0} (a b : List A) (n : ℕ) (long : length a ≡ n) where
  -- what is left there
  pub drop_past : (m : ℕ) → drop (n + m) (a ++ b) ≡ drop m b
  drop_past m = rw (← long) (drop-append-add a b m)

  -- an element there
  pub get_d_past : (m : ℕ) (d : A) → get_or (a ++ b) (n + m) d ≡ get_or b m d
  get_d_past m d = rw (← long) (get_or-append-add a b m d)

get_d_map : {A B : Type 0} (f : A → B) (xs : List A) (i : ℕ) (e : A) (d : B) → i < length xs → get_or (map f xs) i d ≡ f (get_or xs i e)
get_d_map f [] i e d h = absurd (omega arith)
get_d_map f (x ∷ xs) zero e d h = refl
get_d_map f (x ∷ xs) (suc i) e d h = get_d_map f xs i e d (omega arith)

-- a map of lists one after the other
pub map_each : {A B C : Type 0} (f : B → C) (g : A → List B) (xs : List A) → map f (each g xs) ≡ each (λ x. map f (g x)) xs
unfolding each
map_each f g [] = refl
map_each f g (x ∷ xs) = map-append f (g x) (each g xs) ∙ ap (λ r. map f (g x) ++ r) (map_each f g xs)

-- the lists of a map
pub each_map : {A B C : Type 0} (g : B → List C) (f : A → B) (xs : List A) → each g (map f xs) ≡ each (λ x. g (f x)) xs
unfolding each
each_map g f [] = refl
each_map g f (x ∷ xs) = ap (λ r. g (f x) ++ r) (each_map g f xs)

-- the same lists, member by member
pub each_same : {A : Type 0} (g h : ℕ → List A) (l : List ℕ) → All (λ x. g x ≡ h x) l → each g l ≡ each h l
unfolding each
each_same g h [] e = refl
each_same g h (x ∷ l) e = ap₂ ◌++◌ e.0 (each_same g h l e.1)

-- the same for every member: the length alone counts
pub map-alike : {A B C : Type 0} (c : C) (xs : List A) (ys : List B) → length xs ≡ length ys → map (λ _. c) xs ≡ map (λ _. c) ys
map-alike c [] [] e = refl
map-alike c [] (y ∷ ys) e = absurd (omega arith)
map-alike c (x ∷ xs) [] e = absurd (omega arith)
map-alike c (x ∷ xs) (y ∷ ys) e = ap (λ r. c ∷ r) (map-alike c xs ys (omega arith))

-- the same list for every member: the length alone counts
pub each-alike : {A B C : Type 0} (c : List C) (xs : List A) (ys : List B) → length xs ≡ length ys → each (λ _. c) xs ≡ each (λ _. c) ys
unfolding each
each-alike c [] [] e = refl
each-alike c [] (y ∷ ys) e = absurd (omega arith)
each-alike c (x ∷ xs) [] e = absurd (omega arith)
each-alike c (x ∷ xs) (y ∷ ys) e = ap (λ r. c ++ r) (each-alike c xs ys (omega arith))

-- a range has so many numbers
pub length-range : (a n : ℕ) → length (range a n) ≡ n
unfolding range
length-range a zero = refl
length-range a (suc n) = ap suc (length-range (a + 1) n)

-- and they follow one another
pub get_or-range : (a n i d : ℕ) → i < n → get_or (range a n) i d ≡ a + i
unfolding range
get_or-range a zero i d h = absurd (omega arith)
get_or-range a (suc n) zero d h = omega arith
get_or-range a (suc n) (suc i) d h = get_or-range (a + 1) n i d (omega arith) ∙ omega arith

-- as many as numbers below n
pub length-listed : {A : Type 0} (f : ℕ → A) (n : ℕ) → length (map f (range 0 n)) ≡ n
length-listed f n = length-map (range 0 n) f ∙ length-range 0 n

-- element i of what the numbers below n are turned into
pub get_or-listed : {A : Type 0} (f : ℕ → A) (n i : ℕ) (d : A) → i < n → get_or (map f (range 0 n)) i d ≡ f i
get_or-listed f n i d h = get_d_map f (range 0 n) i 0 d (omega (arith, length-range 0 n)) ∙ ap f (get_or-range 0 n i 0 h ∙ zero-add i)

-- parts of one width, one after the other, are all of it
pub each_part : {A : Type 0} (v : List A) (w b a n : ℕ) → each (λ j. take w (drop (b + w * j) v)) (range a n) ≡ take (w * n) (drop (b + w * a) v)
unfolding each range
each_part {A} v w b a zero = let none : 0 ≡ w * 0 = omega arith in ap (λ k. take k (drop (b + w * a) v)) none
each_part {A} v w b a (suc n) =
    let from : List A = drop (b + w * a) v in
    let next : b + w * (a + 1) ≡ b + w * a + w = omega arith in
    let more : w + w * n ≡ w * suc n = omega arith in
    ap (λ r. take w from ++ r) (each_part v w b (a + 1) n ∙ ap (λ k. take (w * n) (drop k v)) next ∙ ap (take (w * n)) (sym (drop-drop w (b + w * a) v)))
    ∙ sym (take-add w (w * n) from)
    ∙ ap (λ k. take k from) more

module _ {A B : Type 0} (g : A → List B) (w : ℕ) (wide : (x : A) → length (g x) ≡ w) where
  -- lists of one width, one after the other, are so long
  pub length-each : (xs : List A) → length (each g xs) ≡ length xs * w
  unfolding each
  length-each [] = omega arith
  length-each (x ∷ xs) = omega (arith, length-append (g x) (each g xs), wide x, length-each xs)

  -- element i of the part of member j
  pub get_or-each : (xs : List A) (e : A) (d : B) (j i : ℕ) → j < length xs → i < w → get_or (each g xs) (w * j + i) d ≡ get_or (g (get_or xs j e)) i d
  unfolding each
  get_or-each [] e d j i l m = absurd (omega arith)
  get_or-each (x ∷ xs) e d zero i l m =
      let start : w * 0 + i ≡ i = omega arith in
      ap (λ k. get_or (g x ++ each g xs) k d) start ∙ get_or-append (g x) (each g xs) d i (omega (arith, wide x))
  get_or-each (x ∷ xs) e d (suc j) i l m =
      let past : w * suc j + i ≡ length (g x) + (w * j + i) = omega (arith, wide x) in
      ap (λ k. get_or (g x ++ each g xs) k d) past ∙ get_or-append-add (g x) (each g xs) (w * j + i) d ∙ get_or-each xs e d j i (omega arith) m

-- a part and what follows it
pub rejoin : {A : Type 0} (v : List A) (o n : ℕ) → take n (drop o v) ++ drop (o + n) v ≡ drop o v
rejoin v o n = ap (λ r. take n (drop o v) ++ r) (sym (drop-drop n o v)) ∙ take-append-drop n (drop o v)

-- a part, element by element
pub part-listed : {A : Type 0} (v : List A) (d : A) (o n : ℕ) → o + n ≤ length v → take n (drop o v) ≡ map (λ i. get_or v (o + i) d) (range 0 n)
part-listed v d o n h =
    let long : length (take n (drop o v)) ≡ n = omega (arith, length-take n (drop o v), length-drop o v) in
    ext_get_or d (take n (drop o v)) (map (λ i. get_or v (o + i) d) (range 0 n)) (long ∙ sym (length-listed (λ i. get_or v (o + i) d) n)) (λ i l.
    let low : i < n = omega arith in
    get_or-take n (drop o v) i d low ∙ get_or-drop o v i d ∙ sym (get_or-listed (λ k. get_or v (o + k) d) n i d low))
