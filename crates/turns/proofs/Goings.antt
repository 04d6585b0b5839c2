-- Turns of a Run under way in their loop: the view that the leg began with, and the seats, the heads and the maps as the turns so far have left them. Assumes
-- nothing.
use Rattle.std.proofs.Common.{ℕ, ◌+◌, ◌%◌, ◌≤◌, ◌<◌, ◌≡◌, List, Option, refl, sym, subst, set, arith, add-zero, add_assoc}
use Rattle.rules.specs.Readers.{reader_in}
use Rattle.rules.specs.Valid.{Valid}
use Rattle.rules.specs.Views.{state_of}
use Rattle.rules.specs.Run.{turns_of}
use Rattle.rules.specs.declared.State.{State}
use Rattle.rules.specs.declared.Reader.{Reader}
use Rattle.rules.specs.declared.View.{View}
use Rattle.parts.specs.Positions.{moved_to}
use Rattle.files.specs.Leads.{SharesOf}
use Rattle.files.specs.declared.Shares.{Shares}
use Rattle.uses.specs.declared.Seats.{Seats}
use Rattle.uses.specs.Sights.{terms_of}
use Rattle.heads.specs.Heads.{Kept}
use Rattle.heads.specs.declared.Heads.{Heads}
use Rattle.turns.specs.declared.Turned.{Turned}
use Rattle.turns.specs.declared.Run.{Run}
use Rattle.turns.specs.Places.{reseated, Following, Quiet, Turning}
use Rattle.turns.specs.Tallies.{Single, Made, so_far}
use Rattle.turns.specs.Runs.{Ready, Few, and_then, IsLeg, GoesOn, Underway}
use Rattle.turns.proofs.Rounds.{turns-none, turns_then, turns_more, turn-valid}
use Rattle.turns.proofs.Turnings.{shares-again}
use Rattle.turns.proofs.Seatings.{Posed, following-is, posed-first, posed-made}

-- a Run r goes on, with these maps at first: n turns are made in all, it is this slot's turn then, and so many fetches and reads were made. Those of r may be
-- counted from any state on
pub record Going (r : Run) (map opened : List ℕ) (slot n fetches reads : ℕ) (seats : Seats) (heads : Heads) (cached fetching : List ℕ) : Type 0 where
  pub after : List Reader
  pub posed : Posed r.view.readers seats after
  pub valid : Valid (state_of (reseated r.view slot after) cached fetching)
  pub quiet : Quiet fetching
  pub kept : Kept (state_of (reseated r.view slot after) cached fetching) n heads
  pub few : (fetches ≤ n) × (reads ≤ n)
  pub told : (s : State) → so_far (state_of r.view map opened) r.fetches r.reads ≡ turns_of r.turns s
      → so_far (state_of (reseated r.view slot after) cached fetching) fetches reads ≡ turns_of n s

-- a leg begins
pub going-first : (r : Run) (cached fetching : List ℕ) (n : ℕ) → n ≡ r.turns → Ready r cached fetching → Few r
    → Going r cached fetching r.view.turn n r.fetches r.reads r.seats r.heads cached fetching
going-first r cached fetching n e u few = record {
  after = r.view.readers;
  posed = posed-first r.view.readers r.seats u.seated;
  valid = u.valid;
  quiet = u.quiet;
  kept = rw e u.kept;
  few = rw e few;
  told = λ s h. rw e h;
}

module _ (r : Run) (map opened : List ℕ) (slot n fetches reads : ℕ) (seats : Seats) (heads : Heads) (cached fetching : List ℕ)
    (u : Going r map opened slot n fetches reads seats heads cached fetching) where
  abbrev pub view_now : View
  view_now = reseated r.view slot u.after

  -- the next turn as its code reads the view
  module _ (low : slot < 16) (shares : Option Shares) (a : SharesOf r.view shares) where
    pub going-turning : Turning r.view (terms_of r.view slot n) shares seats heads cached fetching view_now
    going-turning = record {
      sighted = record { valid = u.valid; seated = u.posed.seated; sizes_are = refl };
      shares_are = shares-again r.view slot u.after shares a;
      quiet = u.quiet;
      reader_is = sym (u.posed.moved slot low);
      kept = u.kept;
    }

    -- one turn more
    pub going-more : (q : Turned) (seats' : Seats) (heads' : Heads) (cached' fetching' : List ℕ) → Single q
        → ((p : ℕ) × Made (terms_of r.view slot n) view_now seats cached fetching q seats' heads' cached' fetching' p)
        → Going r map opened ((slot + 1) % 16) (n + 1) (fetches + q.fetched) (reads + q.read) seats' heads' cached' fetching'
    going-more q seats' heads' cached' fetching' one m = record {
      after = set u.after slot (moved_to m.0 (reader_in u.after slot));
      posed = posed-made r.view.readers seats seats' u.after slot m.0 low u.valid.sixteen u.posed m.1.placed;
      valid = turn-valid _ u.valid _ m.1.told;
      quiet = m.1.still;
      kept = m.1.kept;
      few = let few = u.few in (omega (arith, few.0, one.0), omega (arith, few.1, one.1));
      told = λ s e. turns_more s _ fetches reads n _ (u.told s e) m.1.told;
    }

  -- all of them: the view after them is as the seats have the readers
  module _ (w : View) (f : Following r.view slot seats.positions w) where
    abbrev gone : View → Run
    gone w = record { view = w; seats = seats; heads = heads; turns = n; fetches = fetches; reads = reads }

    view-is : view_now ≡ w
    view-is = sym (following-is r.view w slot seats u.after f u.valid.sixteen u.posed)

    pub going-ready : Ready (gone w) cached fetching
    going-ready = subst (λ w. Ready (gone w) cached fetching) view-is
        (record { valid = u.valid; quiet = u.quiet; seated = u.posed.seated; kept = u.kept })

    -- from any state on
    pub going-all : (s : State) → Underway s r map opened → Underway s (gone w) cached fetching
    going-all s a = record {
      told = subst (λ w. so_far (state_of w cached fetching) fetches reads ≡ turns_of n s) view-is (u.told s a.told);
      ready = going-ready;
    }

-- ---- the turns of the leg alone

-- so r goes on, by n turns more, which alone fetched and read so many (`fetched`, `read`): they are what n turns do from r's state on
pub record OnLeg (r : Run) (map opened : List ℕ) (slot n fetches reads : ℕ) (seats : Seats) (heads : Heads) (cached fetching : List ℕ) : Type 0 where
  pub going : Going r map opened slot (r.turns + n) fetches reads seats heads cached fetching
  pub fetched : ℕ
  pub read : ℕ
  pub counts : (fetches ≡ r.fetches + fetched) × (reads ≡ r.reads + read)
  pub told : so_far (state_of (reseated r.view slot going.after) cached fetching) fetched read ≡ turns_of n (state_of r.view map opened)

-- a leg begins
pub leg-first : (r : Run) (cached fetching : List ℕ) (n : ℕ) → n ≡ 0 → Ready r cached fetching → Few r
    → OnLeg r cached fetching r.view.turn n r.fetches r.reads r.seats r.heads cached fetching
unfolding going-first
leg-first r cached fetching n e u few = rw e (record {
  going = going-first r cached fetching (r.turns + 0) (add-zero r.turns) u few;
  fetched = 0;
  read = 0;
  counts = (sym (add-zero r.fetches), sym (add-zero r.reads));
  told = turns-none (state_of r.view cached fetching);
})

module _ (r : Run) (map opened : List ℕ) (slot n fetches reads : ℕ) (seats : Seats) (heads : Heads) (cached fetching : List ℕ)
    (u : OnLeg r map opened slot n fetches reads seats heads cached fetching) where
  module _ (low : slot < 16) (shares : Option Shares) (a : SharesOf r.view shares) where
    -- the next turn as its code reads the view
    pub leg-turning : Turning r.view (terms_of r.view slot (r.turns + n)) shares seats heads cached fetching (reseated r.view slot u.going.after)
    leg-turning = going-turning r map opened slot (r.turns + n) fetches reads seats heads cached fetching u.going low shares a

    -- one turn more
    pub leg-more : (q : Turned) (seats' : Seats) (heads' : Heads) (cached' fetching' : List ℕ) → Single q
        → ((p : ℕ) × Made (terms_of r.view slot (r.turns + n)) (reseated r.view slot u.going.after) seats cached fetching q seats' heads' cached' fetching' p)
        → OnLeg r map opened ((slot + 1) % 16) (n + 1) (fetches + q.fetched) (reads + q.read) seats' heads' cached' fetching'
    unfolding going-more
    leg-more q seats' heads' cached' fetching' one m = record {
      going = going;
      fetched = u.fetched + q.fetched;
      read = u.read + q.read;
      counts = (omega (arith, u.counts.0), omega (arith, u.counts.1));
      told = turns_more (state_of r.view map opened) _ u.fetched u.read n _ u.told m.1.told;
    }
      where
        more : Going r map opened ((slot + 1) % 16) (r.turns + n + 1) (fetches + q.fetched) (reads + q.read) seats' heads' cached' fetching'
        more =
            going-more r map opened slot (r.turns + n) fetches reads seats heads cached fetching u.going low shares a q seats' heads' cached' fetching' one m

        going : Going r map opened ((slot + 1) % 16) (r.turns + (n + 1)) (fetches + q.fetched) (reads + q.read) seats' heads' cached' fetching'
        going = record {
          after = more.after;
          posed = more.posed;
          valid = more.valid;
          quiet = more.quiet;
          kept = rw (← add_assoc r.turns n 1) more.kept;
          few = rw (← add_assoc r.turns n 1) more.few;
          told = λ s e. rw (← add_assoc r.turns n 1) (more.told s e);
        }

  -- all of them are a leg: the view after them is as the seats have the readers
  module _ (w : View) (f : Following r.view slot seats.positions w) where
    -- they alone
    abbrev leg : View → Run
    leg w = record { view = w; seats = seats; heads = heads; turns = n; fetches = u.fetched; reads = u.read }

    is-leg : IsLeg (state_of r.view map opened) r.turns n (leg w) cached fetching
    is-leg = record {
      told =
          subst (λ w. so_far (state_of w cached fetching) u.fetched u.read ≡ turns_of n (state_of r.view map opened))
          (view-is r map opened slot (r.turns + n) fetches reads seats heads cached fetching u.going w f) u.told;
      ready =
          let a = going-ready r map opened slot (r.turns + n) fetches reads seats heads cached fetching u.going w f in
          record { valid = a.valid; quiet = a.quiet; seated = a.seated; kept = a.kept };
      within = omega arith;
    }

    pub leg-all : GoesOn r map opened n (gone r map opened slot (r.turns + n) fetches reads seats heads cached fetching u.going w f w) cached fetching
    leg-all = (leg w, is-leg, rw (u.counts.0, u.counts.1) refl)

-- turns under way, and a leg after them
pub underway-on : (s : State) (n : ℕ) (a b : Run) (cached fetching cached' fetching' : List ℕ) → Underway s a cached fetching
    → IsLeg (state_of a.view cached fetching) a.turns n b cached' fetching' → Underway s (and_then a b) cached' fetching'
underway-on s n a b cached fetching cached' fetching' u h = record {
  told = turns_then s _ _ a.fetches a.reads b.fetches b.reads a.turns b.turns u.told h.told;
  ready = record { valid = h.ready.valid; quiet = h.ready.quiet; seated = h.ready.seated; kept = h.ready.kept };
}
