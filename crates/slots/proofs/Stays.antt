-- A call of a slot by its rule leaves the other slots' records. Assumes nothing.
use Rattle.std.proofs.Common.{ℕ, ◌≡◌, ap, ◌∙◌}
use Rattle.rules.specs.Readers.{reader_at, mark_at}
use Rattle.rules.specs.Calls.{reply}
use Rattle.rules.specs.Entries.{call_of}
use Rattle.rules.specs.declared.State.{State}
use Rattle.rules.specs.declared.Answer.{Answer}
use Rattle.rules.proofs.calls.OneRecord.{SlotCall, call_at, one-record}
use Rattle.slots.specs.Others.{OthersStay}

pub stay : (c : SlotCall) (s t : State) (slot : ℕ) (a : Answer) → reply t a ≡ call_of (call_at c slot) s → OthersStay s slot t
stay c s t slot a e j n =
    let one = one-record c s slot in
    (ap (λ q. reader_at q.state j) e ∙ one.others j n, ap (λ q. mark_at q.state j) e ∙ one.marks j n)
