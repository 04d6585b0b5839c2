-- The test of a slot. Assumes nothing.
use mathlib.Core.Path.{◌≡◌, refl, sym, ap, ◌∙◌}
use mathlib.Core.Bool.{Bool, true, false, not, ◌&&◌, ◌||◌}
use mathlib.Core.List.{List, []}
use Prim.Native.Nat.{ℕ, ◌≤◌, ◌<◌}
use native.Mathlib.Omega.{arith}
use borrow.Author.Tests.{not-true, le-leb, lt-leb}
use lib.ListN.{get_or}
use lib.Dec.{leb, ltb, eqb}
use Rattle.rules.specs.Lists.{every, within}
use Rattle.rules.specs.Calls.{no_file}
use Rattle.rules.specs.Readers.{awaits}
use Rattle.rules.specs.Image.{reader_placed, reader_holds}
use Rattle.rules.proofs.laws.Cases.{passed, within-true, file_there}
use Rattle.rules.proofs.laws.Tests.{less, is_true, and_first, and_second}
use Rattle.parts.specs.Files.{sized_with, no_range_in}
use Rattle.rules.specs.declared.State.{State}
use Rattle.rules.specs.declared.Reader.{Reader}
use Rattle.rules.specs.declared.Condition.TheVariants.{Empty, Running, Waiting}

module _ (sizes fetching : List ℕ) (r : Reader) where
  -- an empty slot
  pub holds-empty : (t : Bool) → r.condition ≡ Empty → t ≡ (eqb r.file 0 && (eqb r.pace 0 && (eqb r.position 0 && eqb r.last 0)))
      → t ≡ reader_holds (sized_with sizes fetching) r
  unfolding reader_holds
  holds-empty t e f = rw e f

  -- a running reader
  pub holds-running : (t : Bool) → r.condition ≡ Running → t ≡ reader_placed (sized_with sizes []) r → t ≡ reader_holds (sized_with sizes fetching) r
  unfolding reader_holds reader_placed
  holds-running t e f = rw e f

  -- a waiting reader
  pub holds-waiting : (t : Bool) → r.condition ≡ Waiting → t ≡ (reader_placed (sized_with sizes []) r && awaits (sized_with [] fetching) r)
      → t ≡ reader_holds (sized_with sizes fetching) r
  unfolding reader_holds reader_placed awaits
  holds-waiting t e f = rw e f

  -- a reader in its place has a file below 8
  pub placed-file : (t : Bool) → t ≡ reader_placed (sized_with sizes []) r → t ≡ true → r.file < 8
  unfolding reader_placed
  placed-file t e h =
      let s : State = sized_with sizes [] in
      let all = passed (reader_placed s r) (sym e ∙ h) in
      let none = no_file s r.file in
      (file_there s r.file (not-true none (is_true (not none) (and_first (not none) _ all)))).0

  -- and a last page up to its size
  pub placed-last : (t : Bool) → t ≡ reader_placed (sized_with sizes []) r → t ≡ true → ((f : ℕ) → get_or sizes f 0 ≤ 1024) → r.last ≤ 1024
  unfolding reader_placed
  placed-last t e h low =
      let s : State = sized_with sizes [] in
      let all = passed (reader_placed s r) (sym e ∙ h) in
      let z : ℕ = get_or sizes r.file 0 in
      let reach = and_second (within 1 1000 r.pace) _ (and_second (not (no_file s r.file)) _ all) in
      let last = within-true 1 z r.last (is_true (within 1 z r.last) (and_first (within 1 z r.last) _ reach)) in
      omega (arith, last.1, low r.file)

-- the test of records looks at the sizes and the fetches alone
pub readers-sized : (s : State) (rs : List Reader) → every (reader_holds (sized_with s.sizes s.fetching)) rs ≡ every (reader_holds s) rs
unfolding reader_holds reader_placed awaits
readers-sized s rs = refl

-- not refused by `no_range` is in place
pub range-holds : (size position last : ℕ) (q : Bool) → q ≡ no_range_in size position last → not q ≡ (within 1 size last && leb position last)
range-holds size position last q e = ap not e ∙ go (within 1 size last)
  where
    go : (w : Bool) → not (not w || ltb last position) ≡ (w && leb position last)
    go true = less last position (λ b. not b ≡ leb position last) (λ l. sym (lt-leb position last l)) (λ l. sym (le-leb position last l))
    go false = refl
