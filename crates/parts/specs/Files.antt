-- The rules' tests of files and pages by the sizes alone, the files' weights, and the numbers whose key can be worked out. Assumes nothing: these are
-- definitions.
use Rattle.std.specs.Prelude.{ℕ, ◌≤◌, ◌<◌, Bool, not, cond, ◌||◌, ltb, List, get_or, replicate}
use Rattle.std.specs.declared.result.Result.{Result}
use Rattle.std.specs.declared.result.Result.TheVariants.{Ok, Err}
use Rattle.rules.specs.Lists.{within}
use Rattle.rules.specs.Pages.{key_of}
use Rattle.rules.specs.Calls.{no_slot, no_file, no_page, fresh, with_fetching}
use Rattle.rules.specs.Orders.{weight_of}
use Rattle.rules.specs.Views.{no_pages}
use Rattle.rules.specs.declared.Refusal.{Refusal}
use Rattle.rules.specs.declared.Refusal.TheVariants.{NoSlot, NoFile, NoPage}
use Rattle.rules.specs.declared.Rule.TheVariants.{Of1989}
use Rattle.rules.specs.declared.State.{State}

-- a state of these sizes and fetches: the rules' tests of files, pages and readers look at no more of it
abbrev pub sized_with : List ℕ → List ℕ → State
sized_with sizes fetching = with_fetching (fresh 1 1 0 sizes Of1989 (replicate 8 0)) fetching

-- of these sizes, with nothing in fetch, which tests of files and pages do not look at
abbrev sized : List ℕ → State
sized sizes = sized_with sizes no_pages

-- the rules' 3 and 8 by the sizes
abbrev pub no_file_in : List ℕ → ℕ → Bool
no_file_in sizes file = no_file (sized sizes) file

abbrev pub no_page_in : List ℕ → ℕ → ℕ → Bool
no_page_in sizes file page = no_page (sized sizes) file page

-- 15 by the file's size
abbrev pub no_range_in : ℕ → ℕ → ℕ → Bool
no_range_in size start last = not (within 1 size last) || ltb last start

-- the file, the key of the page, and the slot of such numbers, or the refusal
abbrev pub file_in : List ℕ → ℕ → Result ℕ Refusal
file_in sizes file = cond (no_file_in sizes file) (Err NoFile) (Ok file)

abbrev pub key_in : List ℕ → ℕ → ℕ → Result ℕ Refusal
key_in sizes file page = cond (no_file_in sizes file) (Err NoFile) (cond (no_page_in sizes file page) (Err NoPage) (Ok (key_of file page)))

abbrev pub slot_in : ℕ → Result ℕ Refusal
slot_in slot = cond (no_slot slot) (Err NoSlot) (Ok slot)

-- a file's weight (A.6) by E, R and the sizes
abbrev pub weight_in : List ℕ → List ℕ → List ℕ → ℕ → ℕ
weight_in expected attaches sizes f = weight_of (get_or expected f 0) (get_or attaches f 0) (get_or sizes f 0)

-- the ranges in which the numbers of files are worked out; every valid state has them
pub record Weighable (frames : ℕ) (expected sizes : List ℕ) : Type 0 where
  pub frames_high : frames ≤ 1024
  pub expected_high : (f : ℕ) → get_or expected f 0 ≤ 1000
  pub sizes_high : (f : ℕ) → get_or sizes f 0 ≤ 1024

-- numbers of a file and a page whose key can be worked out
pub record Small (file page : ℕ) : Type 0 where
  pub file_small : file < 256
  pub page_low : 1 ≤ page
  pub page_small : page ≤ 65536
