-- The numbers that the server in C is given: 01, "The server is in C and calls the box on numbers and an image buffer". Assumes nothing: these are definitions.
use Rattle.std.specs.Prelude.{ℕ, ◌+◌, ◌*◌, Bool, true, false, cond, List}
use Prim.Native.Char.{code as ascii}
use Rattle.rules.specs.Pages.{key_of}
use Rattle.rules.specs.Calls.{attach_of, read_of, steal_of, arrive_of, detach_of, lost_of, prefetch_of, measure_of}
use Rattle.rules.specs.Run.{run_of}
use Rattle.rules.specs.Image.{image_of, restore_whole}
use Rattle.rules.specs.Refusals.{refusal_number}
use Rattle.rules.specs.declared.State.{State}
use Rattle.rules.specs.declared.Reply.{Reply}
use Rattle.rules.specs.declared.Answer.{Answer}
use Rattle.rules.specs.declared.Answer.TheVariants.{Refused, Done, Hit, Wait, Fetch, End, Nothing, Stolen, Arrived, Replaced, Ran}

-- the answer's letter; E stands on a refusal's line
abbrev pub letter : Answer → ℕ
letter (Refused why) = ascii "E"
letter Done = ascii "O"
letter (Hit file page) = ascii "H"
letter (Wait file page) = ascii "W"
letter (Fetch file page) = ascii "F"
letter End = ascii "Z"
letter Nothing = ascii "U"
letter (Stolen file page) = ascii "S"
letter Arrived = ascii "I"
letter (Replaced file page) = ascii "I"
letter (Ran fetches reads) = ascii "N"

-- "the answer letter's ASCII code × 65,536 + (key + 1, or 0 without a page)"
abbrev pub lettered : Answer → ℕ → ℕ
lettered a n = letter a * 65536 + n

-- "The number returned is the refusal's, or the answer letter's ..; for Run 4,294,967,296 + fetches × 65,536 + reads"
unfoldable pub code : Answer → ℕ
code (Refused why) = refusal_number why
code Done = lettered Done 0
code (Hit file page) = lettered (Hit file page) (key_of file page + 1)
code (Wait file page) = lettered (Wait file page) (key_of file page + 1)
code (Fetch file page) = lettered (Fetch file page) (key_of file page + 1)
code End = lettered End 0
code Nothing = lettered Nothing 0
code (Stolen file page) = lettered (Stolen file page) (key_of file page + 1)
code Arrived = lettered Arrived 0
code (Replaced file page) = lettered (Replaced file page) (key_of file page + 1)
code (Ran fetches reads) = 4294967296 + fetches * 65536 + reads

-- the call was carried out: it was not refused
abbrev pub carried_out : Answer → Bool
carried_out (Refused why) = false
carried_out other = true

-- "Attach, Detach, Read, Arrive, Lost, Prefetch, Steal, Run", with their numbers; A.1: Attach has the start and the last page at its end; A.2: "a call
-- with slot, interval .. and the ticks blocked in it", which "answers O, in a C entry too"
pub data Call : Type 0 where
  attach : ℕ → ℕ → ℕ → ℕ → ℕ → Call
  detach : ℕ → Call
  read : ℕ → Call
  arrive : ℕ → ℕ → Call
  lost : ℕ → ℕ → Call
  prefetch : Call
  steal : Call
  run : ℕ → Call
  measure : ℕ → ℕ → ℕ → Call

abbrev pub call_of : Call → State → Reply
call_of (attach slot file pace start last) s = attach_of s slot file pace start last
call_of (detach slot) s = detach_of s slot
call_of (read slot) s = read_of s slot
call_of (arrive file page) s = arrive_of s file page
call_of (lost file page) s = lost_of s file page
call_of prefetch s = prefetch_of s
call_of steal s = steal_of s
call_of (run turns) s = run_of s turns
call_of (measure slot interval blocked) s = measure_of s slot interval blocked

-- the number returned, and the buffer after the call
pub record Entered : Type 0 where
  pub number : ℕ
  pub image : List ℕ

-- "a refusal leaves it", the buffer
abbrev pub entered : List ℕ → Reply → Entered
entered image r = record { number = code r.answer; image = cond (carried_out r.answer) (image_of r.state) image }

-- "each as Restore, call, Save. The buffer must be exactly" as long as Save writes it, "else 13, tested first". A.6: "Saving and the C buffer use this
-- length", so the older ones, which Restore reads, get 13 here
unfoldable pub enter : Call → List ℕ → Entered
enter call image =
    cond (carried_out (restore_whole image).answer) (entered image (call_of call (restore_whole image).state))
    (record { number = code (restore_whole image).answer; image = image })
