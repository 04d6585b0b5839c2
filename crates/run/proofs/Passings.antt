-- Legs of a Run, one after the other, and turns passed at once, after those that it has made. Assumes nothing.
use Rattle.std.proofs.Common.{ℕ, ◌+◌, ◌%◌, ◌≤◌, ◌<◌, ◌≡◌, ◌∙◌, List, T, refl, sym, ap, subst, arith, zero-add, add-zero, add_assoc}
use mathlib.Core.Path.{ap₂}
use Rattle.bits.specs.Map.{on}
use Rattle.rules.specs.Lists.{total}
use Rattle.rules.specs.Readers.{reader_in}
use Rattle.rules.specs.Valid.{Valid}
use Rattle.rules.specs.Views.{state_of}
use Rattle.rules.specs.Run.{Turns, turns_of}
use Rattle.rules.specs.declared.State.{State}
use Rattle.rules.specs.declared.View.{View}
use Rattle.rules.proofs.laws.Leasts.{total-most}
use Rattle.rules.proofs.calls.Kept.{turns-kept}
use Rattle.parts.specs.Positions.{moved_to}
use Rattle.uses.specs.declared.Seats.{Seats}
use Rattle.uses.specs.Seats.{Seated}
use Rattle.uses.proofs.Seating.{Alike, seated-alike}
use Rattle.heads.specs.Heads.{Kept, NoneKnown}
use Rattle.heads.specs.declared.Heads.{Heads}
use Rattle.heads.proofs.Keeping.{kept-none}
use Rattle.hits.specs.Hits.{reads_of, Clear, Advanced}
use Rattle.hits.proofs.Passes.{MovedBy, hits-made}
use Rattle.turns.specs.declared.Run.{Run}
use Rattle.turns.specs.Places.{reseated, Following}
use Rattle.turns.specs.Tallies.{so_far}
use Rattle.turns.specs.Runs.{Ready, Few, and_then, IsLeg, GoesOn, Underway}
use Rattle.turns.proofs.Rounds.{turns-none, turns_then, turns-few}
use Rattle.turns.proofs.Goings.{underway-on}

-- a leg has no more fetches than turns, and no more reads
pub leg-few : (s : State) (done most : ℕ) (r : Run) (cached fetching : List ℕ) → IsLeg s done most r cached fetching → Few r
leg-few s done most r cached fetching g =
    let few = turns-few r.turns s in
    (subst (λ (ts : Turns). ts.fetches ≤ r.turns) (sym g.told) few.0, subst (λ (ts : Turns). ts.reads ≤ r.turns) (sym g.told) few.1)

-- turns under way are a leg, with none before it
pub underway-leg : (s : State) (r : Run) (cached fetching : List ℕ) → Underway s r cached fetching → IsLeg s 0 r.turns r cached fetching
underway-leg s r cached fetching u = record { told = u.told; ready = rw (zero-add r.turns) u.ready; within = omega arith }

pub underway-few : (s : State) (r : Run) (cached fetching : List ℕ) → Underway s r cached fetching → Few r
underway-few s r cached fetching u = leg-few s 0 r.turns r cached fetching (underway-leg s r cached fetching u)

-- a leg with none before it is turns under way
pub leg-underway : (s : State) (most : ℕ) (r : Run) (cached fetching : List ℕ) → IsLeg s 0 most r cached fetching → Underway s r cached fetching
leg-underway s most r cached fetching g = record { told = g.told; ready = rw (zero-add r.turns) at g.ready }

-- no turn yet
abbrev pub none_yet : View → Seats → Heads → Run
none_yet v seats heads = record { view = v; seats = seats; heads = heads; turns = 0; fetches = 0; reads = 0 }

pub leg-none : (v : View) (seats : Seats) (heads : Heads) (most : ℕ) (cached fetching : List ℕ) → Ready (none_yet v seats heads) cached fetching
    → IsLeg (state_of v cached fetching) 0 most (none_yet v seats heads) cached fetching
leg-none v seats heads most cached fetching r = record { told = turns-none _; ready = r; within = omega arith }

pub underway-none : (v : View) (seats : Seats) (heads : Heads) (cached fetching : List ℕ) → Valid (state_of v cached fetching)
    → ((k : ℕ) → T (on fetching k) → ⊥) → Seated v.readers 16 seats → NoneKnown heads
    → Underway (state_of v cached fetching) (none_yet v seats heads) cached fetching
underway-none v seats heads cached fetching valid quiet seated none =
    leg-underway _ 0 (none_yet v seats heads) cached fetching (leg-none v seats heads 0 cached fetching
    (record { valid = valid; quiet = quiet; seated = seated; kept = kept-none _ _ heads none }))

-- a leg of fewer turns than were asked for
pub leg-within : (s : State) (done part most : ℕ) (r : Run) (cached fetching : List ℕ) → part ≤ most → IsLeg s done part r cached fetching
    → IsLeg s done most r cached fetching
leg-within s done part most r cached fetching l g = record { told = g.told; ready = g.ready; within = omega (arith, l, g.within) }

-- a leg, and one from where it ends
pub leg-then : (s : State) (done part most more d : ℕ) (a b : Run) (cached fetching cached' fetching' : List ℕ) → IsLeg s done part a cached fetching
    → d ≡ done + a.turns → a.turns + more ≤ most → IsLeg (state_of a.view cached fetching) d more b cached' fetching'
    → IsLeg s done most (and_then a b) cached' fetching'
leg-then s done part most more d a b cached fetching cached' fetching' g e l h = record {
  told = turns_then s _ _ a.fetches a.reads b.fetches b.reads a.turns b.turns g.told h.told;
  ready =
      let x : d + b.turns ≡ done + (a.turns + b.turns) = omega (arith, e) in
      record {
        valid = h.ready.valid;
        quiet = h.ready.quiet;
        seated = h.ready.seated;
        kept = subst (λ n. Kept (state_of b.view cached' fetching') n b.heads) x h.ready.kept;
      };
  within = omega (arith, l, h.within);
}

-- the same of turns under way, and others under way from where they end, whose heads are those kept after both
pub underway-then : (s : State) (a b : Run) (cached fetching cached' fetching' : List ℕ) → Underway s a cached fetching
    → Underway (state_of a.view cached fetching) b cached' fetching' → Kept (state_of b.view cached' fetching') (a.turns + b.turns) b.heads
    → Underway s (and_then a b) cached' fetching'
underway-then s a b cached fetching cached' fetching' u h kept =
    underway-on s b.turns a b cached fetching cached' fetching' u (record {
      told = h.told;
      ready = record { valid = h.ready.valid; quiet = h.ready.quiet; seated = h.ready.seated; kept = kept };
      within = omega arith;
    })

-- a Run that goes on by a leg, and once more by another, goes on by both
pub on-then : (r m q : Run) (part most more : ℕ) (cached fetching cached' fetching' cached'' fetching'' : List ℕ)
    → GoesOn r cached fetching part m cached' fetching' → part + more ≤ most → GoesOn m cached' fetching' more q cached'' fetching''
    → GoesOn r cached fetching most q cached'' fetching''
on-then r m q part most more cached fetching cached' fetching' cached'' fetching'' (a, g, e) l (b, h, k) = (
  and_then a b,
  leg-then _ r.turns part most more (r.turns + a.turns) a b cached' fetching' cached'' fetching'' g refl (omega (arith, l, g.within)) (rw e at h),
  k ∙ rw (e, add_assoc r.turns a.turns b.turns, add_assoc r.fetches a.fetches b.fetches, add_assoc r.reads a.reads b.reads) refl,
)

module _ (r : Run) (cached fetching : List ℕ) (u : Ready r cached fetching) (n : ℕ) (clear : Clear r.view cached 16 n) where
  -- the view after them is that of these positions
  module _ (w : View) (reads slot : ℕ) (positions : List ℕ) (a : Advanced r.view n 16 positions) (e : reads ≡ total 16 (reads_of r.view n))
      (el : slot ≡ (r.view.turn + n) % 16) (f : Following r.view slot positions w) where
    moved : MovedBy r.view n w.readers
    moved = record { sixteen = f.sixteen; each = λ j h. f.moved j h ∙ ap (λ p. moved_to p (reader_in r.view.readers j)) (a.moved j h) }

    told : so_far (state_of w cached fetching) 0 reads ≡ turns_of n (state_of r.view cached fetching)
    told =
        ap₂ (λ (x : View) m. so_far (state_of x cached fetching) 0 m) (f.same ∙ ap (λ t. reseated r.view t w.readers) el) e
        ∙ hits-made n (state_of r.view cached fetching) u.valid u.quiet clear w.readers moved

    alike : (j : ℕ) → j < 16 → Alike (reader_in w.readers j) (reader_in r.view.readers j)
    alike j h =
        subst (λ q. Alike q (reader_in r.view.readers j)) (sym (f.moved j h))
        (record { here = refl; file-same = refl; pace-same = refl; last-same = refl })

    abbrev seats : Seats
    seats = record r.seats { positions = positions }

    seated : Seated w.readers 16 seats
    seated = seated-alike r.view.readers w.readers r.seats positions u.seated alike a.long (λ j h. sym (ap (λ q. q.position) (f.moved j h)))

    -- these turns alone are a leg
    abbrev alone : Heads → Run
    alone heads = record { view = w; seats = seats; heads = heads; turns = n; fetches = 0; reads = reads }

    pub leg-passed : (heads : Heads) → NoneKnown heads → (done most : ℕ) → n ≤ most
        → IsLeg (state_of r.view cached fetching) done most (alone heads) cached fetching
    leg-passed heads none done most l = record {
      told = told;
      ready = record {
        valid = subst (λ (ts : Turns). Valid ts.after) (sym told) (turns-kept n (state_of r.view cached fetching) u.valid);
        quiet = u.quiet;
        seated = seated;
        kept = kept-none _ _ heads none;
      };
      within = l;
    }

    -- after the Run's turns
    abbrev both : Heads → Run
    both heads = record { view = w; seats = seats; heads = heads; turns = r.turns + n; fetches = r.fetches; reads = r.reads + reads }

    pub passed-ready : (heads : Heads) → NoneKnown heads → Ready (both heads) cached fetching
    passed-ready heads none =
        let a = (leg-passed heads none r.turns n (omega arith)).ready in
        record { valid = a.valid; quiet = a.quiet; seated = a.seated; kept = a.kept }

    pub passed-counts : Few r → (heads : Heads) → NoneKnown heads → Few (both heads)
    passed-counts few heads none =
        let more = leg-few _ _ _ _ _ _ (leg-passed heads none r.turns n (omega arith)) in
        (omega (arith, few.0), omega (arith, few.1, more.1))

    both-is : (heads : Heads) → both heads ≡ and_then r (alone heads)
    both-is heads = rw (add-zero r.fetches) refl

    -- they are a leg
    pub passed-on : (heads : Heads) → NoneKnown heads → (most : ℕ) → n ≤ most
        → GoesOn r cached fetching most (both heads) cached fetching
    passed-on heads none most l = (alone heads, leg-passed heads none r.turns most l, both-is heads)

    -- they are made as the rule has them
    pub passed : (s : State) → Underway s r cached fetching → (heads : Heads) → NoneKnown heads → Underway s (both heads) cached fetching
    passed s g heads none =
        rw (both-is heads) (underway-on s n r (alone heads) cached fetching cached fetching g (leg-passed heads none r.turns n (omega arith)))

-- so many turns read so many pages at most
pub passed-few : (v : View) (n : ℕ) → n ≤ 16384 → total 16 (reads_of v n) ≤ 16384
passed-few v n l = total-most 16 (reads_of v n) 1024 (λ j. omega arith)
