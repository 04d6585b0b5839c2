-- Bytes put into a buffer. Assumes nothing.
use mathlib.Core.Path.{◌≡◌, refl, sym, ap, ◌∙◌}
use mathlib.Core.List.{List, [], ◌∷◌, ◌++◌, append_assoc, append-nil}
use Prim.Native.Nat.{ℕ, zero, suc, ◌+◌, ◌-◌, ◌*◌, ◌/◌, ◌%◌, ◌^◌, ◌≤◌, ◌<◌}
use native.Mathlib.Nat.{pow-suc, mod-eq_of_lt, div-div-eq-div-mul, mul-le-mul_left, mul_comm}
use native.Mathlib.Omega.{arith}
use borrow.Rule.Slice.PartMut.{put_mid}
use Rattle.std.specs.Int.{byte_at, bytes_low_first}
use lib.ListN.{length, get_or, take, set, length-append, take-append-drop}
use lib.Seq.{drop-drop, length-take-le, take_all, take-suc}
use Rattle.rules.specs.Lists.{each, written}
use Rattle.rules.specs.Image.{Field, bytes_of, encoded}
use Rattle.rules.proofs.laws.Indexed.{length-each}
use Rattle.rules.proofs.laws.Numbers.{bytes-length}
use Rattle.image.specs.Bytes.{reader_bytes}
use Rattle.rules.specs.declared.Reader.{Reader}
use Rattle.rules.proofs.laws.Lists.{each_append, written_one, written-more}

-- one byte
pub written_byte : (l : List ℕ) (at n : ℕ) → at + 1 ≤ length l → n < 256 → set l at n ≡ written l at (bytes_of 1 n)
unfolding bytes_of
written_byte l at n h f = rw (mod-eq_of_lt f) (written_one l at n (omega arith))

-- bytes after those that a call wrote
pub written_next : (l b t : List ℕ) (at n : ℕ) (bs cs : List ℕ) → length bs ≡ n → b ≡ written l at bs → t ≡ written b (at + n) cs
    → at + n + length cs ≤ length l → t ≡ written l at (bs ++ cs)
written_next l b t at n bs cs long e f fits =
    f
    ∙ ap (λ m. written m (at + n) cs) e
    ∙ ap (λ k. written (written l at bs) (at + k) cs) (sym long)
    ∙ written-more l at bs cs (omega arith)

-- a buffer in which so far n bytes are put, from a place on
pub record Filled (l : List ℕ) (at : ℕ) (t : List ℕ) (n : ℕ) (bs : List ℕ) : Type 0 where
  pub far : length bs ≡ n
  pub so : t ≡ written l at bs

-- w more
pub fill : {l k : List ℕ} {at n : ℕ} {bs : List ℕ} (t cs : List ℕ) (w : ℕ) → Filled l at k n bs → length cs ≡ w → t ≡ written k (at + n) cs
    → at + n + w ≤ length l → Filled l at t (n + w) (bs ++ cs)
fill {l} {k} {at} {n} {bs} t cs w f wide e fits =
    record {
      far = length-append bs cs ∙ omega (arith, f.far, wide);
      so = written_next l k t at n bs cs f.far f.so e (omega (arith, wide));
    }

-- std's bytes of a number are the rules'
low-bytes : (i w n : ℕ) → bytes_low_first i w n ≡ bytes_of w (n / 256 ^ i)
unfolding bytes_of
low-bytes i zero n = refl
low-bytes i (suc w) n =
    let more : n / 256 ^ suc i ≡ n / 256 ^ i / 256 = ap (λ p. n / p) (pow-suc 256 i) ∙ sym (div-div-eq-div-mul n (256 ^ i) 256) in
    ap (λ b. b ∷ bytes_low_first (suc i) w n) (first i) ∙ ap (λ l. n / 256 ^ i % 256 ∷ l) (low-bytes (suc i) w n ∙ ap (bytes_of w) more)
  where
    first : (i : ℕ) → byte_at i n ≡ n / 256 ^ i % 256
    first zero = omega arith
    first (suc i) = refl

-- they are put in the place of as many
pub written-bytes : (w : ℕ) (l : List ℕ) (at n : ℕ) (bs : List ℕ) → bs ≡ bytes_low_first 0 w n → put_mid at (at + w - at) l bs ≡ written l at (bytes_of w n)
unfolding written
written-bytes w l at n bs e =
    let whole : n / 256 ^ 0 ≡ n = omega arith in
    let k : at + w - at ≡ w = omega arith in
    let same : bs ≡ bytes_of w n = e ∙ low-bytes 0 w n ∙ ap (bytes_of w) whole in
    rw (k, same, bytes-length w n, drop-drop w at l) refl

each-suc : {A B : Type 0} (g : A → List B) (xs : List A) (d : A) (k : ℕ) → k < length xs → each g (take k xs) ++ g (get_or xs k d) ≡ each g (take (k + 1) xs)
unfolding each
each-suc g xs d k h =
    let next : k + 1 ≡ suc k = omega arith in
    sym (rw (next, take-suc xs k d h) (each_append g (take k xs) (get_or xs k d ∷ []) ∙ ap (λ l. each g (take k xs) ++ l) (append-nil (g (get_or xs k d)))))

-- lists of one width, those of n members, put one after the other
module _ {A : Type 0} (g : A → List ℕ) (w : ℕ) (wide : (x : A) → length (g x) ≡ w) where
  -- none yet
  pub each_none : (l : List ℕ) (at : ℕ) (xs : List A) → l ≡ written l at (each g (take 0 xs))
  unfolding written each
  each_none l at xs =
      let here : at + 0 ≡ at = omega arith in
      sym (rw here (take-append-drop at l))

  -- one more
  pub each_more : (l b t : List ℕ) (at k : ℕ) (xs : List A) (x : A) → b ≡ written l at (each g (take k xs)) → x ≡ get_or xs k x
      → t ≡ written b (at + w * k) (g x) → k < length xs → at + w * length xs ≤ length l → t ≡ written l at (each g (take (k + 1) xs))
  each_more l b t at k xs x e is f less fits =
      let room : w * (k + 1) ≤ w * length xs = mul-le-mul_left w (omega arith) in
      let part : length (take k xs) ≡ k = length-take-le k xs (omega arith) in
      let far : length (each g (take k xs)) ≡ w * k = length-each g w wide (take k xs) ∙ rw part (mul_comm k w) in
      written_next l b t at (w * k) (each g (take k xs)) (g x) far e f (omega (arith, wide x))
      ∙ ap (λ y. written l at (each g (take k xs) ++ g y)) is
      ∙ ap (written l at) (each-suc g xs x k less)

  -- all of them
  pub each_all : (l b : List ℕ) (at k : ℕ) (xs : List A) → b ≡ written l at (each g (take k xs)) → length xs ≤ k → b ≡ written l at (each g xs)
  each_all l b at k xs e h = e ∙ ap (λ ys. written l at (each g ys)) (take_all k xs h)

-- ---- fields

-- the bytes of a field
abbrev bytes : Field → List ℕ
bytes f = bytes_of f.width f.value

-- five fields, put one after the other
module _ (f g h i j : Field) where
  pub written-five : (l k m n o p : List ℕ) (at : ℕ) → k ≡ written l at (bytes f) → m ≡ written k (at + f.width) (bytes g)
      → n ≡ written m (at + (f.width + g.width)) (bytes h)
      → o ≡ written n (at + (f.width + g.width + h.width)) (bytes i)
      → p ≡ written o (at + (f.width + g.width + h.width + i.width)) (bytes j)
      → at + (f.width + g.width + h.width + i.width + j.width) ≤ length l
      → p ≡ written l at (encoded (f ∷ g ∷ h ∷ i ∷ j ∷ []))
  unfolding each
  written-five l k m n o p at e₁ e₂ e₃ e₄ e₅ fits =
      let s₁ : Filled l at k f.width (bytes f) = record { far = bytes-length f.width f.value; so = e₁ } in
      let s₂ = fill m (bytes g) g.width s₁ (bytes-length g.width g.value) e₂ (omega arith) in
      let s₃ = fill n (bytes h) h.width s₂ (bytes-length h.width h.value) e₃ (omega arith) in
      let s₄ = fill o (bytes i) i.width s₃ (bytes-length i.width i.value) e₄ (omega arith) in
      let s₅ = fill p (bytes j) j.width s₄ (bytes-length j.width j.value) e₅ (omega arith) in
      s₅.so ∙ ap (written l at) (simp (append_assoc, append-nil))

-- a record is 8 bytes
pub reader-wide : (r : Reader) → length (reader_bytes r) ≡ 8
unfolding reader_bytes each bytes_of
reader-wide r = refl
