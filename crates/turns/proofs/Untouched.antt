-- A map's bits that a call on another page leaves. Assumes nothing.
use Rattle.std.proofs.Common.{ℕ, ◌<◌, ◌≡◌, ◌≢◌, List, Option, None, Some, eqb, refl, sym, ap, arith}
use Rattle.bits.specs.Map.{on, put_bit}
use Rattle.bits.proofs.Bits.{put_other}
use Rattle.rules.specs.Pages.{file_of}
use Rattle.calls.specs.Inner.{eased}

-- a page of another file is not touched
pub on-other : (words : List ℕ) (key v k : ℕ) → v < 2 → k ≢ key → on (put_bit words key v) k ≡ on words k
on-other words key v k l ne = ap (λ b. eqb b 1) (put_other words key v k (omega arith) ne)

-- nor where a page gave up its frame, if one did
pub eased-other : (words : List ℕ) (gone : Option ℕ) (k : ℕ) → ((i : ℕ) → gone ≡ Some i → file_of i ≢ file_of k) → on (eased words gone) k ≡ on words k
eased-other words None k h = refl
eased-other words (Some i) k h = on-other words i 0 k (omega arith) (λ e. h i refl (ap file_of (sym e)))
