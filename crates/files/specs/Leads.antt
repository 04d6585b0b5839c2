-- The choice of a file by the 1993 rule (A.6), one file after the other. Assumes nothing: these are definitions.
use Rattle.std.specs.Prelude.{ℕ, ◌≤◌, ◌<◌, ◌≡◌, Bool, true, cond, ◌&&◌, List, Option, None, Some, get_or, ltb}
use Rattle.rules.specs.Orders.{weight_sum, standing}
use Rattle.rules.specs.declared.Rule.TheVariants.{Of1989, Of1993}
use Rattle.rules.specs.declared.View.{View}
use Rattle.parts.specs.Files.{weight_in}
use Rattle.files.specs.declared.Lead.{Lead}
use Rattle.files.specs.declared.Shares.{Shares}

-- ---- the shares

-- the files' weights
abbrev pub weights_of : View → ℕ → ℕ
weights_of v = weight_in v.expected v.attaches v.sizes

-- these are a view's: the frames, the weights, and `weight_sum`, which is never 0
pub record Shared (v : View) (s : Shares) : Type 0 where
  pub by_1993 : v.rule ≡ Of1993
  pub frames_are : s.frames ≡ v.frames
  pub weights_are : (f : ℕ) → f < 8 → get_or s.weights f 0 ≡ weights_of v f
  pub sum_is : s.sum ≡ weight_sum (weights_of v)

-- under the 1989 rule there are none
abbrev pub SharesOf : View → Option Shares → Type 0
SharesOf v None = v.rule ≡ Of1989
SharesOf v (Some s) = Shared v s

-- ---- the file that leads

-- how many cached pages file f has, by the files' counts
abbrev pub pages_in : List ℕ → ℕ → ℕ
pages_in held f = get_or held f 0

-- the number of file f where it has so many cached pages
abbrev pub number_in : Shares → ℕ → ℕ → ℕ
number_in s f pages = standing s.frames s.sum (get_or s.weights f 0) f pages

-- is the number above that of the file that leads, if any does?
abbrev pub above : Option Lead → ℕ → Bool
above None number = true
above (Some best) number = ltb best.number number

-- the file that leads after a look at file f, which has so many cached pages: it leads if it has some and its number is higher
abbrev pub leading : Shares → ℕ → ℕ → Option Lead → Option Lead
leading s f pages best =
    cond (ltb 0 pages && above best (number_in s f pages)) (Some (record { file = f; number = number_in s f pages })) best

-- the file has cached pages, and of the first n files none with cached pages has a higher number
pub record Tops (s : Shares) (held : List ℕ) (n file : ℕ) : Type 0 where
  pub low : file < 8
  pub some : 0 < pages_in held file
  pub top : (f : ℕ) → f < n → 0 < pages_in held f → number_in s f (pages_in held f) ≤ number_in s file (pages_in held file)

-- so does the file chosen; none is where no file has cached pages
abbrev pub Foremost : Shares → List ℕ → Option ℕ → Type 0
Foremost s held None = (f : ℕ) → f < 8 → 0 < pages_in held f → ⊥
Foremost s held (Some file) = Tops s held 8 file
