-- The page to give up under the 1989 rule, by the files with cached pages. Assumes nothing.
use mathlib.Core.Path.{◌≡◌}
use mathlib.Core.List.{List}
use Prim.Native.Nat.{ℕ, ◌<◌}
use native.Mathlib.Omega.{arith}
use lib.Dec.{T, eqb→eq}
use lib.ListN.{get_or}
use Rattle.bits.specs.Map.{bit}
use Rattle.rules.specs.Pages.{file_of, cached}
use Rattle.rules.specs.Valid.{Valid}
use Rattle.rules.specs.Orders.{victim}
use Rattle.rules.specs.Ranks.{victim_among}
use Rattle.rules.proofs.orders.Victims.{among-all}
use Rattle.rules.specs.declared.Rule.TheVariants.{Of1989}
use Rattle.rules.specs.declared.State.{State}
use Rattle.parts.specs.Held.{Held}
use Rattle.parts.proofs.Carried.{held-some}
use Rattle.files.specs.Sets.{in_set}
use Rattle.files.specs.declared.FileSet.{FileSet}

-- under the 1989 rule the page to give up is that of the files with cached pages
pub victim-of-held : (s : State) → Valid s → s.rule ≡ Of1989 → (held : List ℕ) → Held s.cached held → (files : FileSet)
    → ((f : ℕ) → f < 8 → 0 < get_or held f 0 → T (in_set files f)) → victim_among (in_set files) s ≡ victim s
victim-of-held s w e held h files has = among-all s w e (in_set files) (λ k c. in-set k c (w.cached_in k c).low)
  where
    in-set : (k : ℕ) → T (cached s k) → k < 8192 → T (in_set files (file_of k))
    in-set k c l =
        has (file_of k) (omega arith)
        (held-some s.cached held h k l (omega (arith, w.cached_map.all)) (eqb→eq (bit s.cached k) 1 c))
