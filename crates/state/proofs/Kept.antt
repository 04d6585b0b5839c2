-- A box that is changed by a rule stays valid, and one without pages has none counted. Assumes nothing.
use Rattle.std.proofs.Common.{ℕ, ◌≡◌, ◌+◌, ◌*◌, replicate, refl, subst, sym, ap, ◌∙◌, arith}
use borrow.Author.Tests.{eqb-false}
use lib.ListN.{get_or-replicate}
use Rattle.bits.specs.Map.{bit}
use Rattle.bits.proofs.Bits.{bit_le}
use Rattle.bits.proofs.Counts.{ones-clear}
use Rattle.rules.specs.Calls.{reply}
use Rattle.rules.specs.Entries.{Call, call_of}
use Rattle.rules.specs.Valid.{Valid}
use Rattle.rules.specs.Views.{no_pages}
use Rattle.rules.specs.declared.State.{State}
use Rattle.rules.specs.declared.Answer.{Answer}
use Rattle.rules.proofs.calls.Kept.{kept, blank-off}
use Rattle.parts.specs.Held.{Held}

-- what a call gives by its rule is valid, if the state before it was
pub kept-by : (c : Call) (s t : State) (a : Answer) → reply t a ≡ call_of c s → Valid s → Valid t
kept-by c s t a e v = subst Valid (sym (ap (λ r. r.state) e)) (kept c s v)

-- with no page cached, each file has 0
pub none-held : Held no_pages (replicate 8 0)
none-held = record {
  eight = refl;
  pages = λ f l. get_or-replicate 8 f 0 0 l ∙ sym (ones-clear no_pages (f * 1024) 1024 (λ j _. clear (f * 1024 + j)));
}
  where
    clear : (k : ℕ) → bit no_pages k ≡ 0
    clear k = let n = eqb-false (bit no_pages k) 1 (blank-off k) in omega (arith, n, bit_le no_pages k)
