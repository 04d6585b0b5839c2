-- What is known of a file and a page once their tests have let them pass. Assumes nothing.
use Prim.Native.Nat.{ℕ, ◌≤◌, ◌<◌, ◌^◌}
use mathlib.Core.Path.{◌≡◌, sym, ◌∙◌}
use mathlib.Core.Bool.{Bool, false}
use mathlib.Core.List.{List}
use native.Mathlib.Omega.{arith}
use borrow.Author.Rules.{Fits-under}
use borrow.Author.Tests.{ltb-false, not-false}
use lib.ListN.{get_or}
use lib.Dec.{T, leb, ltb, eqb}
use mir.Syntax.{Width}
use mir.Val.{Fits, bits}
use Rattle.rules.specs.Lists.{within}
use Rattle.rules.specs.Pages.{key_of}
use Rattle.rules.proofs.laws.Cases.{or-false, within-true}
use Rattle.parts.specs.Files.{no_file_in, no_page_in, Small}

-- a file that is there is one of the eight
pub file_high : (q : Bool) (sizes : List ℕ) (file : ℕ) → q ≡ no_file_in sizes file → q ≡ false → file < 8
file_high q sizes file e h = omega (arith, ltb-false 7 file (or-false (ltb 7 file) (eqb (get_or sizes file 0) 0) (sym e ∙ h)).0)

-- and fits
pub file-fits : (w : Width) (q : Bool) (sizes : List ℕ) (file : ℕ) → q ≡ no_file_in sizes file → q ≡ false → T (leb 8 (2 ^ bits w)) → Fits w file
file-fits w q sizes file e h = Fits-under w file 8 (file_high q sizes file e h)

-- a page that is there is from 1 to the size
page-in : (q : Bool) (sizes : List ℕ) (file page : ℕ) → q ≡ no_page_in sizes file page → q ≡ false → (1 ≤ page) × (page ≤ get_or sizes file 0)
page-in q sizes file page e h = within-true 1 (get_or sizes file 0) page (not-false (within 1 (get_or sizes file 0) page) (sym e ∙ h))

module _ (f w : Bool) (sizes : List ℕ) (file page : ℕ) (a : f ≡ no_file_in sizes file) (b : f ≡ false) (c : w ≡ no_page_in sizes file page) (d : w ≡ false)
    (high : get_or sizes file 0 ≤ 1024) where
  -- the key of a page that is there can be worked out
  pub there-small : Small file page
  there-small =
      let l = file_high f sizes file a b in
      let p = page-in w sizes file page c d in
      record { file_small = omega arith; page_low = p.0; page_small = omega arith }

  -- and is one of a map's
  pub there-low : (k : ℕ) → k ≡ key_of file page → k < 8192
  there-low k e =
      let l = file_high f sizes file a b in
      let p = page-in w sizes file page c d in
      omega arith
