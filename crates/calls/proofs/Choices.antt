-- The pages that the rules choose to give up are cached, and the one that they choose to fetch is a page. Assumes nothing.
use Rattle.std.proofs.Common.{ℕ, ◌≡◌, ◌<◌, Some, sym, ◌∙◌}
use borrow.Author.Tests.{eqb-true}
use lib.Dec.{T}
use Rattle.std.specs.declared.option.Option.{Option}
use Rattle.bits.specs.Map.{bit}
use Rattle.rules.specs.Lists.{head}
use Rattle.rules.specs.Pages.{cached}
use Rattle.rules.specs.Valid.{Valid}
use Rattle.rules.specs.Orders.{fetch_order, victim}
use Rattle.rules.specs.Calls.{dropped}
use Rattle.rules.specs.declared.State.{State}
use Rattle.rules.proofs.laws.Tests.{is_true}
use Rattle.rules.proofs.orders.Distinct.{wanted-page, fetch-wanted}
use Rattle.rules.proofs.orders.Victims.{victim-cached}
use Rattle.rules.proofs.calls.Landings.{dropped-some}
use Rattle.calls.specs.Inner.{CachedIn}

module _ (s : State) (v : Valid s) (g : Option ℕ) where
  -- a cached page
  has : (k : ℕ) → T (cached s k) → (k < 8192) × (bit s.cached k ≡ 1)
  has k t = ((v.cached_in k t).low, eqb-true (bit s.cached k) 1 (is_true _ t))

  -- the page to give up is one
  pub victim-has : g ≡ victim s → (k : ℕ) → g ≡ Some k → (k < 8192) × (bit s.cached k ≡ 1)
  victim-has b k e = has k (victim-cached s v k (sym b ∙ e))

  -- and so is the page that gives up its frame, if one does
  pub dropped-has : g ≡ dropped s → CachedIn s.cached g
  dropped-has b k e = has k (dropped-some s v k (sym b ∙ e))

  -- the page to fetch is a page
  pub next_low : g ≡ head (fetch_order s) → (k : ℕ) → g ≡ Some k → k < 8192
  next_low b k e = (wanted-page s v k (fetch-wanted s v k (sym b ∙ e))).low
