-- A reader that begins to wait, and its page in fetch, leave the steal order as it was where fetches take no time. Assumes nothing.
use mathlib.Core.Path.{◌≡◌, refl, sym, ap}
use mathlib.Core.List.{List}
use mathlib.Core.Logic.{inl}
use Prim.Native.Nat.{ℕ, ◌<◌}
use native.Mathlib.Omega.{arith}
use lib.ListN.{get_or, set, length}
use lib.Seq.{get_or-set_same, get_or-set_other}
use lib.Dec.{T}
use Rattle.rules.specs.Readers.{no_reader, reader_at, attached, in_condition}
use Rattle.rules.specs.Valid.{Valid}
use Rattle.rules.specs.Orders.{weight, repeated, order1993, by_rule, steal_order}
use Rattle.rules.specs.Calls.{with_readers, with_fetching}
use Rattle.rules.proofs.laws.Tests.{key, is_true}
use Rattle.rules.proofs.orders.Local.{AlikeReader, alike_same, steal-local}
use Rattle.rules.specs.declared.State.{State}
use Rattle.rules.specs.declared.Reader.{Reader}
use Rattle.rules.specs.declared.Condition.TheVariants.{Waiting}

-- the records with one reader waiting
abbrev pub paused : State → ℕ → List Reader
paused s u = set s.readers u (in_condition Waiting (reader_at s u))

module _ (s : State) (v : Valid s) (u : ℕ) (l : u < 16) (here : T (attached (reader_at s u))) where
  -- they are alike in what the orders read
  pub paused-alike : (j : ℕ) → AlikeReader (get_or (paused s u) j no_reader) (reader_at s j)
  paused-alike j = key u j (λ _. AlikeReader (get_or (paused s u) j no_reader) (reader_at s j))
      (λ e.
      rw (← e, get_or-set_same s.readers u _ no_reader (omega arith))
      (record { attached-same = sym (is_true _ here); file-same = refl; pace-same = refl; position-same = refl; last-same = refl }))
      (λ ne. alike_same (get_or-set_other s.readers u j _ no_reader (λ e. ne (sym e))))

  -- the steal order once reader u waits, whatever is in fetch, under either rule. A page in fetch is one less that q counts (A.5); with T = 0, which the
  -- third statement has, that moves no use key
  pub steal-same : s.fetch_time ≡ 0 → (fetching : List ℕ) → Valid (with_fetching (with_readers s (paused s u)) fetching)
      → steal_order (with_fetching (with_readers s (paused s u)) fetching) ≡ steal_order s
  unfolding steal_order order1993
  steal-same free fetching w =
      ap (λ l. by_rule s.rule l (repeated s.frames (weight s) (length l) l))
      (steal-local (with_fetching (with_readers s (paused s u)) fetching) s w v
      (λ f.
      record {
        like = record {
          look-same = refl;
          time-same = refl;
          size_same = refl;
          readers-same = λ j. inl (paused-alike j);
          cached-same = λ k _. refl;
          present-same = λ h. absurd (omega (arith, free));
        };
        turn-same = refl;
      }))
