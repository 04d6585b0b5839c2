-- The heads of the files over the turns of a Run, each with what its page ranks by. Assumes nothing: these are definitions.
use Rattle.std.specs.Prelude.{ℕ, ◌+◌, ◌≤◌, ◌<◌, ◌≡◌, Bool, false, cond, T, Option, None, Some, ltb, eqb, get_or}
use Rattle.rules.specs.Pages.{file_of}
use Rattle.rules.specs.Readers.{reads_file}
use Rattle.rules.specs.UseTimes.{never}
use Rattle.rules.specs.Ranks.{rank, cached_among}
use Rattle.rules.specs.declared.State.{State}
use Rattle.rules.specs.declared.Reader.{Reader}
use Rattle.uses.specs.declared.Pick.{Pick}
use Rattle.heads.specs.declared.Heads.{Heads}

-- the set of one file
abbrev pub alone : ℕ → ℕ → Bool
alone f g = eqb g f

-- a rank after so many turns, as a number that stays while nothing of the page's file moves: to a use key the turns made are added. In a valid state a use key
-- is 16 to 64,000,015, so with the 16,384 turns of a Run at most it stays below `never`: the order of the ranks is kept
abbrev pub lasting : ℕ → ℕ → ℕ
lasting done rank = cond (ltb rank never) (rank + done) rank

-- a page found, if any, with that number in place of its rank; the number is 0 where there is none
abbrev pub last_of : ℕ → Pick → Pick
last_of done p = record { key = p.key; value = cond (eqb p.value 0) 0 (lasting done p.value) }

-- after so many turns p is the head of a page of the set, or of none, and no cached page of the set in the first n files goes before it
pub record HeadIs (s : State) (done : ℕ) (files : ℕ → Bool) (n : ℕ) (p : Pick) : Type 0 where
  pub held : 0 < p.value → T (cached_among files s p.key)
  pub its : 0 < p.value → lasting done (rank s p.key) ≡ p.value
  pub top : (k : ℕ) → file_of k < n → T (cached_among files s k) → lasting done (rank s k) ≤ p.value

-- what is known of file f
abbrev pub known_of : Heads → ℕ → Option Pick
known_of heads f = get_or heads.known f None

-- nothing is known
abbrev pub NoneKnown : Heads → Type 0
NoneKnown heads = (f : ℕ) → f < 8 → known_of heads f ≡ None

-- each head that is known is its file's
pub record Kept (s : State) (done : ℕ) (heads : Heads) : Type 0 where
  pub each : (f : ℕ) → f < 8 → (p : Pick) → known_of heads f ≡ Some p → HeadIs s done (alone f) 8 p

-- `left` is what was known with some forgotten: what is still known is as it was, and its file is one that stays
pub record Forgot (heads : Heads) (Stays : ℕ → Type 0) (left : Heads) : Type 0 where
  pub stays : (f : ℕ) → f < 8 → (p : Pick) → known_of left f ≡ Some p → Stays f
  pub same : (f : ℕ) → f < 8 → (p : Pick) → known_of left f ≡ Some p → known_of heads f ≡ Some p

-- the slot is empty, or its reader's file is another
abbrev pub NotRead : ℕ → Reader → Type 0
NotRead f r = reads_file f r ≡ false
