-- The parts of a state's image. Assumes nothing.
use mathlib.Core.Path.{◌≡◌, refl, sym, ap, ap₂, ◌∙◌}
use mathlib.Core.List.{List, [], ◌∷◌, ◌++◌, map, append_assoc, append-nil}
use Prim.Native.Nat.{ℕ, ◌+◌, ◌*◌, ◌≤◌}
use native.Mathlib.Omega.{arith}
use lib.ListN.{length, length-append, drop_of_length-le}
use Rattle.rules.specs.Lists.{each, written}
use Rattle.rules.specs.Valid.{Valid}
use Rattle.rules.specs.Image.{Field, field, reader_fields, layout, bytes_of, image_of, encoded, tail, image_length, rule_number}
use Rattle.rules.proofs.laws.Indexed.{each_map, length-each}
use Rattle.rules.proofs.laws.Numbers.{bytes-length}
use Rattle.rules.proofs.images.Offsets.{sizes_at, readers_at, gap_at, cached_at, fetching_at, marks_at, rule_at, filler_at, expected_start, attaches_start}
use Rattle.image.specs.Bytes.{reader_bytes, settings_fields, tail_bytes}
use Rattle.rules.proofs.laws.Lists.{each_append}
use Rattle.image.proofs.Puts.{Filled, fill, reader-wide}
use Rattle.rules.specs.declared.State.{State}
use Rattle.rules.specs.declared.Reader.{Reader}

-- the records' fields, record by record
encoded-readers : (rs : List Reader) → encoded (each reader_fields rs) ≡ each reader_bytes rs
unfolding each reader_bytes
encoded-readers [] = refl
encoded-readers (r ∷ rs) =
    each_append (λ f. bytes_of f.width f.value) (reader_fields r) (each reader_fields rs)
    ∙ ap (λ l. encoded (reader_fields r) ++ l) (encoded-readers rs)

-- the bytes before the sizes
abbrev settings : State → List ℕ
settings s = encoded (settings_fields s.frames s.turn s.look_ahead s.fetch_time)

settings-long : (s : State) → length (settings s) ≡ sizes_at
unfolding each bytes_of
settings-long s = refl

-- the bytes behind the maps
abbrev tail_of : State → List ℕ
tail_of s = tail_bytes s.marks (rule_number s.rule) s.expected s.attaches

encoded-tail : (s : State) → encoded (tail s) ≡ tail_of s
unfolding each tail_bytes
encoded-tail s =
    let g : Field → List ℕ = λ f. bytes_of f.width f.value in
    let expected = map (field 2) s.expected in
    let attaches = map (field 2) s.attaches in
    let counts = each_append g expected attaches ∙ ap₂ ◌++◌ (each_map g (field 2) s.expected) (each_map g (field 2) s.attaches) in
    each_append g (map (field 2) s.marks) (field 1 (rule_number s.rule) ∷ field 1 0 ∷ (expected ++ attaches))
    ∙ ap₂ ◌++◌ (each_map g (field 2) s.marks) (ap (λ l. bytes_of 1 (rule_number s.rule) ++ (bytes_of 1 0 ++ l)) counts)

image-parts : (s : State)
    → settings s ++ (each (bytes_of 2) s.sizes ++ (each reader_bytes s.readers
    ++ (bytes_of 4 0 ++ (each (bytes_of 8) s.cached ++ (each (bytes_of 8) s.fetching ++ tail_of s))))) ≡ image_of s
unfolding image_of layout each
image-parts s =
    let g : Field → List ℕ = λ f. bytes_of f.width f.value in
    let end : List Field = map (field 8) s.fetching ++ tail s in
    let ends = each_append g (map (field 8) s.fetching) (tail s) ∙ ap₂ ◌++◌ (each_map g (field 8) s.fetching) (encoded-tail s) in
    let words = each_append g (map (field 8) s.cached) end ∙ ap₂ ◌++◌ (each_map g (field 8) s.cached) ends in
    let maps : List Field = field 4 0 ∷ (map (field 8) s.cached ++ end) in
    let slots = each_append g (each reader_fields s.readers) maps ∙ ap₂ ◌++◌ (encoded-readers s.readers) (ap (λ l. bytes_of 4 0 ++ l) words) in
    let rest : List Field = each reader_fields s.readers ++ maps in
    let sizes = each_append g (map (field 2) s.sizes) rest ∙ ap₂ ◌++◌ (each_map g (field 2) s.sizes) slots in
    let first : List Field = settings_fields s.frames s.turn s.look_ahead s.fetch_time in
    sym (each_append g first (map (field 2) s.sizes ++ rest) ∙ ap (λ l. settings s ++ l) sizes)

-- bytes that fill the buffer are all of it
written_all : (l bs : List ℕ) → length bs ≡ length l → written l 0 bs ≡ bs
unfolding written
written_all l bs e = ap (λ r. bs ++ r) (drop_of_length-le l {i = 0 + length bs} (omega arith)) ∙ append-nil bs

-- the bytes of so many numbers of one width
run-wide : (w : ℕ) (ns : List ℕ) (n : ℕ) → length ns ≡ n → length (each (bytes_of w) ns) ≡ n * w
run-wide w ns n e = length-each (bytes_of w) w (bytes-length w) ns ∙ ap (λ m. m * w) e

module _ (marks : List ℕ) (rule : ℕ) (expected attaches : List ℕ) (sixteen : length marks ≡ 16) (eight : length expected ≡ 8) (all : length attaches ≡ 8) where
  tail-wide : length (tail_bytes marks rule expected attaches) ≡ 66
  unfolding tail_bytes
  tail-wide =
      let counts = each (bytes_of 2) expected ++ each (bytes_of 2) attaches in
      omega (
        arith,
        length-append (each (bytes_of 2) marks) (bytes_of 1 rule ++ (bytes_of 1 0 ++ counts)),
        length-append (bytes_of 1 rule) (bytes_of 1 0 ++ counts),
        length-append (bytes_of 1 0) counts,
        length-append (each (bytes_of 2) expected) (each (bytes_of 2) attaches),
        run-wide 2 marks 16 sixteen,
        bytes-length 1 rule,
        bytes-length 1 0,
        run-wide 2 expected 8 eight,
        run-wide 2 attaches 8 all,
      )

  -- the parts of the tail, put one after the other
  pub written-tail : (l k m n o p : List ℕ) → image_length ≤ length l
      → k ≡ written l marks_at (each (bytes_of 2) marks)
      → m ≡ written k rule_at (bytes_of 1 rule)
      → n ≡ written m filler_at (bytes_of 1 0)
      → o ≡ written n expected_start (each (bytes_of 2) expected)
      → p ≡ written o attaches_start (each (bytes_of 2) attaches)
      → p ≡ written l marks_at (tail_bytes marks rule expected attaches)
  unfolding tail_bytes
  written-tail l k m n o p fits e₁ e₂ e₃ e₄ e₅ =
      let s₁ : Filled l marks_at k 32 (each (bytes_of 2) marks) = record { far = run-wide 2 marks 16 sixteen; so = e₁ } in
      let s₂ = fill m (bytes_of 1 rule) 1 s₁ (bytes-length 1 rule) e₂ (omega arith) in
      let s₃ = fill n (bytes_of 1 0) 1 s₂ (bytes-length 1 0) e₃ (omega arith) in
      let s₄ = fill o (each (bytes_of 2) expected) 16 s₃ (run-wide 2 expected 8 eight) e₄ (omega arith) in
      let s₅ = fill p (each (bytes_of 2) attaches) 16 s₄ (run-wide 2 attaches 8 all) e₅ (omega arith) in
      s₅.so ∙ ap (written l marks_at) (simp append_assoc)

-- the parts, put one after the other, are the image
module _ (s : State) (v : Valid s) where
  pub written-image : (l k m n o p q t : List ℕ) → length l ≡ image_length
      → k ≡ written l 0 (settings s)
      → m ≡ written k sizes_at (each (bytes_of 2) s.sizes)
      → n ≡ written m readers_at (each reader_bytes s.readers)
      → o ≡ written n gap_at (bytes_of 4 0)
      → p ≡ written o cached_at (each (bytes_of 8) s.cached)
      → q ≡ written p fetching_at (each (bytes_of 8) s.fetching)
      → t ≡ written q marks_at (tail_of s)
      → t ≡ image_of s
  written-image l k m n o p q t fits e₁ e₂ e₃ e₄ e₅ e₆ e₇ =
      let records : length (each reader_bytes s.readers) ≡ 128 = omega (arith, length-each reader_bytes 8 reader-wide s.readers, v.sixteen) in
      let s₁ : Filled l 0 k sizes_at (settings s) = record { far = settings-long s; so = e₁ } in
      let s₂ = fill m (each (bytes_of 2) s.sizes) 16 s₁ (run-wide 2 s.sizes 8 v.eight) e₂ (omega arith) in
      let s₃ = fill n (each reader_bytes s.readers) 128 s₂ records e₃ (omega arith) in
      let s₄ = fill o (bytes_of 4 0) 4 s₃ (bytes-length 4 0) e₄ (omega arith) in
      let s₅ = fill p (each (bytes_of 8) s.cached) 1024 s₄ (run-wide 8 s.cached 128 v.cached_map.all) e₅ (omega arith) in
      let s₆ = fill q (each (bytes_of 8) s.fetching) 1024 s₅ (run-wide 8 s.fetching 128 v.fetching_map.all) e₆ (omega arith) in
      let s₇ = fill t (tail_of s) 66 s₆ (tail-wide s.marks (rule_number s.rule) s.expected s.attaches v.marks_all v.expected_all v.attaches_all) e₇
      (omega arith) in
      s₇.so ∙ written_all l _ (s₇.far ∙ sym fits) ∙ simp append_assoc (image-parts s)
