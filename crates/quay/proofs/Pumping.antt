-- A chunk fed piece by piece. Assumes nothing.
use Rattle.std.proofs.Common.{ℕ, ◌<◌, ◌≤◌, ◌≡◌, List, length, drop, refl, sym, subst, ◌∙◌, ap, arith, drop_of_length-le}
use Rattle.rules.specs.Calls.{idle}
use Rattle.rules.specs.Image.{image_of}
use Rattle.text.specs.Streams.{Fed, feed, unfed}
use Rattle.text.proofs.Feeds.{feed-none}
use Rattle.answers.specs.Responses.{Roomy}
use Rattle.lines.specs.Sessions.{no_text, feed_of, StandsIn}
use Rattle.lines.proofs.Stands.{stands_on, stands-first}
use Rattle.quay.specs.Program.{Stands, Handed, handed_in, handed_of}

-- the program starts idle, with no text
pub starts : (image text : List ℕ) → image ≡ image_of idle → text ≡ no_text → Stands image text
starts image text e t = (unfed, subst (λ i. StandsIn i text unfed) (sym e) (subst (λ u. StandsIn (image_of idle) u unfed) (sym t) stands-first))

-- a chunk is fed so far: what is left of it is still to be fed
pub record FedTo (image text chunk now held : List ℕ) (next : ℕ) : Type 0 where
  pub stands : Stands now held
  pub left : (f : Fed) → StandsIn image text f → (to : Fed) × StandsIn now held to × (feed f chunk ≡ feed to (drop next chunk))

-- at first
pub fed-none : (image text chunk : List ℕ) → Stands image text → FedTo image text chunk image text 0
fed-none image text chunk s = record { stands = s; left = λ f at. (f, at, refl) }

module _ (image text chunk now held : List ℕ) (next : ℕ) (k : FedTo image text chunk now held next) where
  module _ (out : List ℕ) (roomy : Roomy out) (inside : next < length chunk) (after kept said : List ℕ) (to : ℕ)
      (e : handed_in after kept said to ≡ handed_of (feed_of now held chunk next out)) where
    -- what the call left stands for the program that it was fed to
    on : (f : Fed) → StandsIn now held f → (g : Fed) × StandsIn after kept g × (feed f (drop next chunk) ≡ feed g (drop to chunk)) × (next < to)
    on f at =
        let s = stands_on now held chunk next out f at roomy (omega arith) in
        let image_is = ap (λ (t : Handed). t.image) e in
        let text_is = ap (λ (t : Handed). t.text) e in
        let next_is = ap (λ (t : Handed). t.next) e in
        (s.to, rw (image_is, text_is) s.stands, rw next_is s.rest, rw next_is (s.more inside))

    -- some more
    pub fed-more : FedTo image text chunk after kept to
    fed-more =
        let s = on k.stands.0 k.stands.1 in
        record {
          stands = (s.0, s.1);
          left = λ f at.
              let l = k.left f at in
              let h = on l.0 l.1 in
              (h.0, h.1, l.2 ∙ h.2);
        }

    -- it goes on
    pub fed-far : next < to
    fed-far = (on k.stands.0 k.stands.1).3

  -- all of it
  pub fed-all : length chunk ≤ next → (f : Fed) → StandsIn image text f → StandsIn now held (feed f chunk)
  fed-all h f at =
      let l = k.left f at in
      subst (StandsIn now held) (sym (l.2 ∙ rw (drop_of_length-le chunk h) (feed-none l.0 l.1.one))) l.1
