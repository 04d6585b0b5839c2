-- A closure that does a call. Assumes nothing: this is a definition.
use Rattle.std.specs.Prelude.{◌≡◌}
use Rattle.std.specs.Borrow.{MutBor}
use Rattle.std.specs.Fn.{Once, FnOnceReturnsAtMut}
use Rattle.rules.specs.Calls.{reply}
use Rattle.rules.specs.Entries.{Call, call_of}
use Rattle.rules.specs.declared.State.{State}
use Rattle.rules.specs.declared.Answer.{Answer}

-- whatever the box that it is given, what it leaves and answers is by the call's rule
abbrev pub Does : {F : Type 0} → Once F (MutBor State × Unit {0}) (Answer × (MutBor State × Unit {0})) → F → Call → Type 0
Does g f c = (s t : State) (a : Answer) → FnOnceReturnsAtMut g f s a t → reply t a ≡ call_of c s
