-- Where no page is in fetch, both orders are what they were before a page in fetch counted as cached (A.5): those of 01's own q, which counts the pages not
-- cached. The orders are laid out with q as a parameter; the rules' own are those of `between`. Assumes nothing.
use mathlib.Core.Path.{◌≡◌, refl, ap, ap₂, ◌∙◌, subst, fun_ext}
use mathlib.Core.Bool.{Bool, not, cond, ◌&&◌, or-false}
use mathlib.Core.List.{List, ◌++◌}
use Prim.Native.Nat.{ℕ, zero, suc, ◌+◌, ◌-◌, ◌*◌, ◌/◌}
use lib.Dec.{T, leb, not_T}
use Rattle.bits.specs.Map.{on}
use Rattle.rules.specs.Lists.{only, falling, rising, some_of, least}
use Rattle.rules.specs.Pages.{key_of, pages, cached, in_fetch}
use Rattle.rules.specs.Readers.{reader_at}
use Rattle.rules.specs.UseTimes.{before, steps, present, missing, between, pruned, sees, time_for, seat, never, use_for, use_key, ahead, seen}
use Rattle.rules.specs.Orders.{place, not_ahead, not_seen, use_time, order1989, absent, fetch_order}
use Rattle.rules.specs.Views.{no_pages}
use Rattle.rules.proofs.laws.Tests.{is_false}
use Rattle.rules.proofs.calls.Kept.{blank-off}
use Rattle.rules.specs.declared.State.{State}
use Rattle.rules.specs.declared.Reader.{Reader}

-- ---- 01's orders by q, the number of pages that a reader still lacks on its way to a page

module _ (s : State) (q : Reader → ℕ → ℕ) where
  abbrev sees_by : Reader → ℕ → Bool
  sees_by r k = before r k && (leb (steps r k) (s.look_ahead / r.pace) && not (pruned s (q r k)))

  abbrev time_by : Reader → ℕ → ℕ
  time_by r k = steps r k * r.pace + q r k * s.fetch_time

  abbrev use_by : ℕ → ℕ → ℕ
  use_by k slot = cond (sees_by (reader_at s slot) k) (time_by (reader_at s slot) k * 16 + seat s slot) never

  abbrev key_by : ℕ → ℕ
  key_by k = least 16 (use_by k) never

  abbrev seen_by_slot : ℕ → Bool
  seen_by_slot k = some_of 16 (λ slot. sees_by (reader_at s slot) k)

  abbrev pub steal_by : List ℕ
  steal_by =
      falling place (only (λ k. cached s k && not (ahead s k)) (pages s))
      ++ (falling place (only (λ k. cached s k && (ahead s k && not (seen_by_slot k))) (pages s))
      ++ falling key_by (only (λ k. cached s k && seen_by_slot k) (pages s)))

  abbrev pub fetch_by : List ℕ
  fetch_by = rising key_by (only (λ k. seen_by_slot k && absent s k) (pages s))

-- the rules' own are those by `between`
steal-by : (s : State) → order1989 s ≡ steal_by s (between s)
unfolding order1989 not_ahead not_seen use_time use_key seen use_for time_for sees
steal-by s = refl

fetch-by : (s : State) → fetch_order s ≡ fetch_by s (between s)
unfolding fetch_order use_key seen use_for time_for sees
fetch-by s = refl

-- ---- 01's q

-- how many of the pages c + 1 to c + n of file f are not cached
unfoldable pub not_cached : State → ℕ → ℕ → ℕ → ℕ
not_cached s f c zero = 0
not_cached s f c (suc n) = cond (cached s (key_of f (c + suc n))) 0 1 + not_cached s f c n

-- "q being the number of those pages not cached. A page in fetch is not cached"
abbrev pub q01 : State → Reader → ℕ → ℕ
q01 s r k = not_cached s r.file r.position (steps r k - 1)

-- ---- no page is in fetch

-- so it is where the fetch map is empty, as in all soundings
pub blank-closed : (s : State) → s.fetching ≡ no_pages → (k : ℕ) → T (in_fetch s k) → ⊥
blank-closed s e k h = subst T (blank-off k) (subst (λ words. T (on words k)) e h)

module _ (s : State) (closed : (k : ℕ) → T (in_fetch s k) → ⊥) where
  present-cached : (k : ℕ) → present s k ≡ cached s k
  unfolding present
  present-cached k = rw (is_false (in_fetch s k) (not_T (in_fetch s k) (closed k))) (or-false (cached s k))

  missing-cached : (f c n : ℕ) → missing s f c n ≡ not_cached s f c n
  unfolding missing not_cached
  missing-cached f c zero = refl
  missing-cached f c (suc n) = ap₂ (λ b m. cond b 0 1 + m) (present-cached (key_of f (c + suc n))) (missing-cached f c n)

  between-01 : between s ≡ q01 s
  between-01 = fun_ext (λ r. fun_ext (λ k. missing-cached r.file r.position (steps r k - 1)))

  -- the orders are those of 01
  pub steal-01 : order1989 s ≡ steal_by s (q01 s)
  steal-01 = steal-by s ∙ ap (steal_by s) between-01

  pub fetch-01 : fetch_order s ≡ fetch_by s (q01 s)
  fetch-01 = fetch-by s ∙ ap (fetch_by s) between-01
