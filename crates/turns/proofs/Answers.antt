-- An answer that is no F, as code knows it, and how many H one is. Assumes nothing.
use Prim.Native.Nat.{ℕ, ◌≤◌}
use mathlib.Core.Path.{◌≡◌, refl}
use native.Mathlib.Omega.{arith}
use lib.ListN.{length}
use Rattle.rules.specs.Run.{on_fetch, hit_page}
use Rattle.rules.specs.declared.Answer.{Answer}
use Rattle.rules.specs.declared.Answer.TheVariants.{Refused, Done, Hit, Wait, Fetch, End, Nothing, Stolen, Arrived, Replaced, Ran}

-- no F
abbrev pub NoFetch : Answer → Type 0
NoFetch a = (file page : ℕ) → a ≡ Fetch file page → ⊥

-- what is made of an answer that is no F
pub not-fetch : {A : Type 0} (a : Answer) (f : ℕ → ℕ → A) (y : A) → NoFetch a → y ≡ on_fetch a f y
not-fetch (Refused n) f y k = refl
not-fetch Done f y k = refl
not-fetch (Hit file page) f y k = refl
not-fetch (Wait file page) f y k = refl
not-fetch (Fetch file page) f y k = absurd (k file page refl)
not-fetch End f y k = refl
not-fetch Nothing f y k = refl
not-fetch (Stolen file page) f y k = refl
not-fetch Arrived f y k = refl
not-fetch (Replaced file page) f y k = refl
not-fetch (Ran fetches reads) f y k = refl

-- an answer is at most one H
pub one_hit : (a : Answer) → length (hit_page a) ≤ 1
one_hit (Refused n) = omega arith
one_hit Done = omega arith
one_hit (Hit file page) = omega arith
one_hit (Wait file page) = omega arith
one_hit (Fetch file page) = omega arith
one_hit End = omega arith
one_hit Nothing = omega arith
one_hit (Stolen file page) = omega arith
one_hit Arrived = omega arith
one_hit (Replaced file page) = omega arith
one_hit (Ran fetches reads) = omega arith
