-- The page that goes first of a set's files, as either search finds it. Assumes nothing.
use mathlib.Core.Path.{◌≡◌}
use mathlib.Core.Bool.{Bool}
use Rattle.std.specs.declared.option.Option.TheVariants.{Some, None}
use Prim.Native.Nat.{ℕ, ◌<◌}
use native.Mathlib.Omega.{arith}
use Rattle.rules.specs.Valid.{Valid}
use Rattle.rules.specs.Ranks.{victim_among}
use Rattle.rules.proofs.orders.Distinct.{rank-positive, among_none, head-is}
use Rattle.rules.specs.declared.State.{State}
use Rattle.uses.specs.declared.Pick.{Pick}
use Rattle.rears.specs.Rears.{Rear}
use Rattle.rears.proofs.Rearing.{rear-top}
use Rattle.order.specs.Searches.{First}

module _ (s : State) (w : Valid s) (files : ℕ → Bool) (p : Pick) where
  -- one that is ahead of no reader
  pub first-rear : Rear s files 8 p → 0 < p.value → First s files p
  first-rear a h = record { page = a.page; top = rear-top s w files p a h }

  module _ (a : First s files p) where
    -- it is the one to give up
    pub first-victim : (p.value ≡ 0 → ⊥) → victim_among files s ≡ Some p.key
    first-victim ne =
        let h : 0 < p.value = omega arith in
        head-is s w files p.key (a.page.held h) (λ k c. omega (arith, a.top k c, a.page.its h))

    -- there is none
    pub first-nothing : p.value ≡ 0 → victim_among files s ≡ None
    first-nothing e = (among_none s w files).1 (λ k c. omega (arith, a.top k c, rank-positive s w k))
