-- What a turn leaves of the heads kept: those of the files that its reader does not read. Assumes nothing.
use Rattle.std.proofs.Common.{ℕ, ◌+◌, ◌<◌, ◌≡◌, ◌≢◌, ◌∙◌, ◌&&◌, ◌||◌, List, Option, T, eqb, refl, sym, ap, arith, set, get_or-set_same, get_or-set_other}
use mathlib.Core.Logic.{◌⊎◌, inl, inr}
use native.Mathlib.Decide.{ℕ_discrete}
use borrow.Author.Tests.{eqb-false}
use Rattle.bits.specs.Map.{on, put_bit}
use Rattle.rules.specs.Pages.{file_of}
use Rattle.rules.specs.Readers.{no_reader, reader_in, attached}
use Rattle.rules.specs.Valid.{Valid}
use Rattle.rules.specs.UseTimes.{present}
use Rattle.rules.specs.Views.{state_of}
use Rattle.rules.specs.declared.State.{State}
use Rattle.rules.specs.declared.Reader.{Reader}
use Rattle.rules.specs.declared.View.{View}
use Rattle.rules.proofs.laws.Tests.{is_true}
use Rattle.rules.proofs.orders.Local.{AlikeReader, alike_same, NotOf, SameFile}
use Rattle.rules.proofs.orders.Passing.{PassedFile}
use Rattle.rules.proofs.third.Moves.{now_at, goes_now, key_now}
use Rattle.rules.proofs.third.Waits.{paused-alike}
use Rattle.rules.proofs.third.Turns.{goes-here, own-file}
use Rattle.files.specs.declared.Shares.{Shares}
use Rattle.uses.specs.declared.Terms.{Terms}
use Rattle.uses.specs.declared.Seats.{Seats}
use Rattle.uses.specs.Sights.{state_under}
use Rattle.heads.specs.Heads.{Kept, Forgot, NotRead}
use Rattle.heads.specs.declared.Heads.{Heads}
use Rattle.heads.proofs.Keeping.{head-same, head_passed, kept-over}
use Rattle.parts.specs.Positions.{moved_to}
use Rattle.turns.specs.Places.{after_turn, Turning}
use Rattle.turns.proofs.Untouched.{on-other}
use Rattle.turns.proofs.Turnings.{valid, waits}

-- the readers of two states that differ in one slot alone, which has no reader of the file in either
readers-pass : (f slot : ℕ) (a b : List Reader) → ((j : ℕ) → j ≢ slot → reader_in a j ≡ reader_in b j) → NotOf f (reader_in a slot) → NotOf f (reader_in b slot)
    → (j : ℕ) → AlikeReader (reader_in a j) (reader_in b j) ⊎ (NotOf f (reader_in a j) × NotOf f (reader_in b j))
readers-pass f slot a b same na nb j = by (ℕ_discrete j slot)
  where
    by : Dec (j ≡ slot) → AlikeReader (reader_in a j) (reader_in b j) ⊎ (NotOf f (reader_in a j) × NotOf f (reader_in b j))
    by (yes e) = inr (rw e na, rw e nb)
    by (no e) = inl (alike_same (same j e))

-- a file that an attached reader does not read is not its own
not_own : (f : ℕ) (r : Reader) → T (attached r) → NotRead f r → r.file ≢ f
not_own f r h n = eqb-false r.file f (sym (ap (λ b. b && eqb r.file f) (is_true (attached r) h)) ∙ n)

module _ (v : View) (t : Terms) (shares : Option Shares) (seats : Seats) (heads : Heads) (map fetching : List ℕ) (w : View)
    (g : Turning v t shares seats heads map fetching w) where
  abbrev s : State
  s = state_under t w map fetching

  here : Valid s
  here = valid v t shares seats heads map fetching w g

  -- ---- the turn met no F

  module _ (p : ℕ) (still : List ℕ) (e : still ≡ fetching) where
    abbrev after : State
    after = state_of (after_turn t w p) map still

    moved : Reader
    moved = moved_to p (now_at s)

    -- the turn's record is put
    put : reader_in (set w.readers t.turn (moved_to p (now_at s))) t.turn ≡ moved_to p (now_at s)
    put = get_or-set_same w.readers t.turn (moved_to p (now_at s)) no_reader (omega (arith, here.sixteen, here.turn_high))

    passes : (f : ℕ) → NotRead f (now_at s) → PassedFile f s after
    unfolding present
    passes f n = record {
      like = record {
        look-same = refl;
        time-same = refl;
        size_same = refl;
        readers-same = readers-pass f t.turn w.readers (set w.readers t.turn (moved_to p (now_at s)))
            (λ j ne. sym (get_or-set_other w.readers t.turn j (moved_to p (now_at s)) no_reader ne)) n (rw put n);
        cached-same = λ k _. refl;
        present-same = λ _ k _. ap (λ m. on map k || on m k) (sym e);
      };
      turn-next = refl;
      idle = n;
    }

    -- only the head of its reader's file is to be forgotten
    pub kept-moved : (left : Heads) → Valid after → Forgot heads (λ f. NotRead f (now_at s)) left → Kept after (t.done + 1) left
    kept-moved left v o =
        kept-over s after t.done (t.done + 1) heads left (λ f. NotRead f (now_at s)) o
        (λ f l n. head_passed s after t.done f here v (passes f n)) g.kept

  -- ---- it met F

  module _ (on-goes : T (goes_now s)) (opened : List ℕ) (e : opened ≡ put_bit fetching (key_now s) 1) where
    attached-now : T (attached (now_at s))
    attached-now = goes-here (now_at s) on-goes

    abbrev waiting : State
    waiting = state_under t (waits v t shares seats heads map fetching w g) map opened

    fetched : (f : ℕ) → (0 < t.fetch_time → NotRead f (now_at s)) → SameFile f waiting s
    unfolding present
    fetched f n = record {
      like = record {
        look-same = refl;
        time-same = refl;
        size_same = refl;
        readers-same = λ j. inl (paused-alike s here t.turn here.turn_high attached-now j);
        cached-same = λ k _. refl;
        present-same = λ h k q. ap (λ b. on map k || b) (rw e (on-other fetching (key_now s) 1 k (omega arith) (λ z. away h (sym q ∙ ap file_of z))));
      };
      turn-same = refl;
    }
      where
        -- its page is of the reader's file
        away : 0 < t.fetch_time → f ≢ file_of (key_now s)
        away h z = not_own f (now_at s) attached-now (n h) (sym (own-file s here g.quiet on-goes) ∙ sym z)

    -- while its page is in fetch, the head of its reader's file is, where fetches take time
    pub kept-fetched : (left : Heads) → Forgot heads (λ f. (0 < t.fetch_time → NotRead f (now_at s))) left → Kept waiting t.done left
    kept-fetched left o =
        kept-over s waiting t.done t.done heads left (λ f. (0 < t.fetch_time → NotRead f (now_at s))) o
        (λ f l n. head-same s waiting t.done f (fetched f n)) g.kept
