-- Pages counted by the bits of a map: whether a frame is free, and what is known of a page before it is counted in or out. Assumes nothing.
use Prim.Native.Nat.{ℕ, ◌≤◌, ◌<◌}
use mathlib.Core.Path.{◌≡◌, refl, sym, ap, ◌∙◌}
use mathlib.Core.Bool.{true}
use mathlib.Core.List.{List}
use Rattle.std.specs.declared.option.Option.{Option}
use Rattle.std.specs.declared.option.Option.TheVariants.{Some, None}
use native.Mathlib.Decide.{ℕ_discrete}
use native.Mathlib.Omega.{arith}
use lib.ListN.{length}
use lib.Dec.{T, leb}
use Rattle.bits.specs.Map.{bit, ones, on, put_bit}
use Rattle.bits.proofs.Bits.{bit_le, put_other, put-length}
use Rattle.rules.specs.Lists.{only}
use Rattle.rules.specs.Pages.{pages, Page, cached_pages}
use Rattle.rules.specs.Valid.{Valid}
use Rattle.rules.specs.Orders.{victim}
use Rattle.rules.specs.Calls.{full, dropped}
use Rattle.rules.specs.declared.State.{State}
use Rattle.calls.specs.Inner.{CachedIn, eased}
use Rattle.rules.proofs.laws.Cases.{cond_yes, cond_no, passed, outcomes}
use Rattle.rules.proofs.laws.Tests.{key}
use Rattle.rules.proofs.laws.Counts.{count_ones, pages-count}

-- a map of pages of the files has as many of them as set bits
pub pages-ones : (s : State) → Valid s → (words : List ℕ) → ((k : ℕ) → T (on words k) → Page s k) → length (only (on words) (pages s)) ≡ ones words 0 8192
pages-ones s v words inside = pages-count s v.sizes_high (on words) inside ∙ count_ones words 8192

module _ (s : State) (v : Valid s) (n : ℕ) (e : n ≡ ones s.cached 0 8192) where
  -- n counts the cached pages
  held : length (cached_pages s) ≡ n
  unfolding cached_pages
  held = pages-ones s v s.cached v.cached_in ∙ sym e

  -- a frame is free, and no page is dropped
  pub free-none : n < s.frames → None ≡ dropped s
  unfolding dropped full
  free-none h = cond_no (λ o. None ≡ o) (leb s.frames (length (cached_pages s))) (victim s) None (rw held (search outcomes)) refl

  -- all are taken, and the page to give up is
  pub taken-victim : s.frames ≤ n → victim s ≡ dropped s
  unfolding dropped full
  taken-victim h = cond_yes (λ o. victim s ≡ o) (leb s.frames (length (cached_pages s))) (victim s) None (rw held (search outcomes)) refl

-- a page that is not cached is not once room is made
pub eased-clear : (cached : List ℕ) (gone : Option ℕ) (k : ℕ) → CachedIn cached gone → bit cached k ≡ 0 → bit (eased cached gone) k ≡ 0
eased-clear cached None k a e = e
eased-clear cached (Some g) k a e = by (ℕ_discrete k g)
  where
    by : Dec (k ≡ g) → bit (put_bit cached g 0) k ≡ 0
    by (yes q) = absurd (omega (arith, e, ap (bit cached) q, (a g refl).1))
    by (no q) = put_other cached g 0 k (omega arith) q ∙ e

-- the map is as long as it was
pub eased-length : (cached : List ℕ) (gone : Option ℕ) → length (eased cached gone) ≡ length cached
eased-length cached None = refl
eased-length cached (Some g) = put-length cached g 0

-- a page in fetch is not cached
pub fetch-clear : (s : State) → Valid s → (k : ℕ) → on s.fetching k ≡ true → bit s.cached k ≡ 0
fetch-clear s v k e =
    key (bit s.cached k) 1 (λ t. (T t → ⊥) → bit s.cached k ≡ 0) (λ _ n. absurd (n tt)) (λ n _. omega (arith, bit_le s.cached k))
    (λ t. v.apart k t (passed _ e))
