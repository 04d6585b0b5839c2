-- A chunk taken line by line: what each turn of the loop leaves to be taken. Assumes nothing.
use Rattle.std.proofs.Common.{ℕ, ◌+◌, ◌-◌, ◌<◌, ◌≤◌, ◌≡◌, true, false, ◌&&◌, eqb, leb, List, [], ◌∷◌, ◌++◌, length, get_or, take, drop, set, None}
use Rattle.std.proofs.Common.{refl, sym, ◌∙◌, ap, true≢false, ⊎_elim, append_assoc, append-nil, arith, le-leb, eq-eqb, ne_eqb, leb-true, eqb-true}
use Rattle.std.proofs.Common.{length-append, length-take, length-drop, length-set, drop_of_length-le, take-append-drop}
use Rattle.std.proofs.Common.{length-take-le, take_all, take_at, drop_at, drop-drop, drop-set-lt, get_or-set_same}
use borrow.Rule.Slice.PartMut.{put_mid}
use borrow.Author.Tests.{lt-leb}
use Prim.Native.Char.{code as ascii}
use Rattle.rules.specs.Valid.{Valid}
use Rattle.rules.specs.Entries.{carried_out}
use Rattle.rules.specs.Image.{image_of, restore_whole}
use Rattle.rules.specs.Lines.{split, Response, respond_of}
use Rattle.rules.specs.declared.State.{State}
use Rattle.rules.specs.declared.Answer.TheVariants.{Done}
use Rattle.rules.proofs.images.Images.{done-or-not, whole-refused}
use Rattle.rules.proofs.laws.Cases.{and-true, cond-all}
use Rattle.rules.specs.Lists.{written}
use Rattle.text.specs.Written.{Put}
use Rattle.text.specs.Commands.{first_piece, command_of}
use Rattle.text.specs.Cuts.{end_of, text_in, kept}
use Rattle.text.specs.Streams.{Fed, behind, answered}
use Rattle.text.proofs.Pieces.{split-some}
use Rattle.text.proofs.Keeps.{by_most, end_line, end-last, text-none, kept-over, kept-fits, kept-front, kept_same, kept-none}
use Rattle.text.proofs.Asks.{parsed-long}
use Rattle.answers.specs.Responses.{answer_room, Roomy, line_end, Gives}
use Rattle.lines.specs.Sessions.{taken, start_of, Gone, gone_of, Left, Taken, left_in, fed_in, ready, saved, feed_of, finish_of}
use Rattle.lines.proofs.Kept.{respond-kept}

-- ---- can lines be taken?

module _ (text chunk : List ℕ) (from : ℕ) (out : List ℕ) where
  pub ready-short : length out < answer_room → false ≡ ready text chunk from out
  unfolding ready
  ready-short h = rw (lt-leb _ _ h)

  pub ready-other : answer_room ≤ length out → (length text ≡ 201 → ⊥) → false ≡ ready text chunk from out
  unfolding ready
  ready-other h n = rw (le-leb _ _ h, ne_eqb _ _ n)

  pub ready-last : answer_room ≤ length out → length text ≡ 201 → leb from (length chunk) ≡ ready text chunk from out
  unfolding ready
  ready-last h e = rw (le-leb _ _ h, eq-eqb _ _ e)

  pub ready-all : answer_room ≤ length out → length text ≡ 201 → from ≤ length chunk → true ≡ ready text chunk from out
  unfolding ready
  ready-all h e p = rw (le-leb _ _ h, eq-eqb _ _ e, le-leb _ _ p)

  pub ready-room : ready text chunk from out ≡ true → (answer_room ≤ length out) × (length text ≡ 201) × (from ≤ length chunk)
  unfolding ready
  ready-room t =
      let a = and-true _ _ t in
      let b = and-true _ _ a.1 in
      (leb-true _ _ a.0, eqb-true _ _ b.0, leb-true _ _ b.1)

-- ---- a line that a piece completes

module _ (line text piece : List ℕ) (joined : line ≡ kept text (text_in text ++ piece)) where
  -- it is too long
  pub command-long : 200 < get_or line 0 0 → None ≡ command_of (text_in text ++ piece)
  command-long h = sym (parsed-long (text_in text ++ piece) (kept-over (text_in text ++ piece) text (rw joined at h)))

  -- it stands behind its length
  pub command-short : get_or line 0 0 ≤ 200 → command_of (take (1 + get_or line 0 0 - 1) (drop 1 line)) ≡ command_of (text_in text ++ piece)
  command-short h =
      let held = get_or (kept text (text_in text ++ piece)) 0 0 in
      let fits : held ≤ 200 = rw joined at h in
      let width : 1 + held - 1 ≡ held = omega arith in
      rw (joined, width, kept-front (text_in text ++ piece) text (kept-fits (text_in text ++ piece) text fits))

-- ---- the pieces from a place on

-- a piece that others follow is a line: there is room for its answer, or none
module _ (room : ℕ) (f : Fed) (at : ℕ) (piece more : List ℕ) (pieces : List (List ℕ)) where
  pub taken-cons : length f.output + answer_room ≤ room
      → taken room f at (piece ∷ (more ∷ pieces)) ≡ taken room (answered f (f.text ++ piece)) (at + length piece + 1) (more ∷ pieces)
  unfolding taken
  taken-cons h = rw (le-leb _ _ h)

  pub taken-stop : room < length f.output + answer_room → taken room f at (piece ∷ (more ∷ pieces)) ≡ record { fed = f; next = at }
  unfolding taken
  taken-stop h = rw (lt-leb _ _ h)

module _ (room : ℕ) (f : Fed) (chunk : List ℕ) (at : ℕ) where
  -- the pieces where a line ends
  parts : end_of chunk at < length chunk
      → split (ascii "\n") (drop at chunk)
      ≡ take (end_of chunk at - at) (drop at chunk)
      ∷ (first_piece (ascii "\n") (drop (end_of chunk at + 1) chunk) ∷ drop 1 (split (ascii "\n") (drop (end_of chunk at + 1) chunk)))
  parts h = end_line chunk at h ∙ ap (λ ps. take (end_of chunk at - at) (drop at chunk) ∷ ps) (split-some (ascii "\n") (drop (end_of chunk at + 1) chunk))

  -- it is answered, if there is room for its answer
  pub taken-line : end_of chunk at < length chunk → length f.output + answer_room ≤ room
      → taken room f at (split (ascii "\n") (drop at chunk))
      ≡ taken room (answered f (f.text ++ take (end_of chunk at - at) (drop at chunk))) (end_of chunk at + 1)
      (split (ascii "\n") (drop (end_of chunk at + 1) chunk))
  taken-line h fits =
      let p = take (end_of chunk at - at) (drop at chunk) in
      let width : length p ≡ end_of chunk at - at = length-take-le (end_of chunk at - at) (drop at chunk) (omega (arith, length-drop at chunk)) in
      let place : at + length p + 1 ≡ end_of chunk at + 1 = omega arith in
      ap (taken room f at) (parts h)
      ∙ taken-cons room f at p _ _ fits
      ∙ ap (taken room (answered f (f.text ++ p)) (at + length p + 1)) (sym (split-some (ascii "\n") (drop (end_of chunk at + 1) chunk)))
      ∙ ap (λ n. taken room (answered f (f.text ++ p)) n (split (ascii "\n") (drop (end_of chunk at + 1) chunk))) place

  -- there is none
  pub taken-full : end_of chunk at < length chunk → room < length f.output + answer_room
      → taken room f at (split (ascii "\n") (drop at chunk)) ≡ record { fed = f; next = at }
  taken-full h full = ap (taken room f at) (parts h) ∙ taken-stop room f at _ _ _ full

  -- no line ends
  pub taken-rest : at ≤ length chunk → length chunk ≤ end_of chunk at
      → taken room f at (split (ascii "\n") (drop at chunk)) ≡ record { fed = behind f (drop at chunk); next = length chunk }
  unfolding taken
  taken-rest low h =
      let place : at + length (drop at chunk) ≡ length chunk = omega (arith, length-drop at chunk) in
      rw (end-last chunk at low h, place)

-- every line keeps the state valid
pub taken-valid : (room : ℕ) (pieces : List (List ℕ)) (f : Fed) (at : ℕ) → Valid f.state → Valid (taken room f at pieces).fed.state
unfolding taken
taken-valid room [] f at v = v
taken-valid room (piece ∷ []) f at v = v
taken-valid room (piece ∷ (more ∷ pieces)) f at v =
    by_most (length f.output + answer_room) room
    (λ h.
    rw (taken-cons room f at piece more pieces h)
    (taken-valid room (more ∷ pieces) (answered f (f.text ++ piece)) (at + length piece + 1) (respond-kept f.state (f.text ++ piece) v)))
    (λ h. rw (taken-stop room f at piece more pieces h) v)

-- ---- an answer behind others

module _ (m part : List ℕ) (at len : ℕ) (bytes : List ℕ) (inside : at ≤ length m) where
  -- bytes put at the front of the part behind a place are put at the place
  put-behind : Put (take (length m - at) (drop at m)) 0 bytes part len → Put m at bytes (put_mid at (length m - at) m part) (at + len)
  unfolding written
  put-behind p =
      let past : length (drop at m) ≤ length m - at = omega (arith, length-drop at m) in
      let whole : take (length m - at) (drop at m) ≡ drop at m = take_all (length m - at) (drop at m) past in
      let sums : at + (0 + length bytes) ≡ at + length bytes = omega arith in
      let none : drop (length m - at) (drop at m) ≡ [] = drop_of_length-le (drop at m) past in
      let behind : part ≡ bytes ++ drop (at + length bytes) m = p.buffer ∙ rw (whole, drop-drop, sums) in
      record { buffer = rw (none, append-nil) (ap (λ l. take at m ++ l) behind); next_is = omega (arith, p.next_is) }

module _ (m after bytes : List ℕ) (at next : ℕ) (inside : at ≤ length m) (p : Put m at bytes after next) where
  front : length (take at m ++ bytes) ≡ next
  front = omega (arith, p.next_is, length-append (take at m) bytes, length-take-le at m inside)

  whole : after ≡ (take at m ++ bytes) ++ drop next m
  unfolding written
  whole = p.buffer ∙ rw (← p.next_is, append_assoc)

  -- what stands up to its end, and behind it
  put_front : take next after ≡ take at m ++ bytes
  put_front = ap (take next) whole ∙ take_at (take at m ++ bytes) (drop next m) next front

  put-past : drop next after ≡ drop next m
  put-past = ap (drop next) whole ∙ drop_at (take at m ++ bytes) (drop next m) next front

-- behind the answers before it there is room for any answer
pub part_room : (out : List ℕ) (len : ℕ) → answer_room ≤ length out - len → Roomy (take (length out - len) (drop len out))
part_room out len h = omega (arith, h, length-take (length out - len) (drop len out), length-drop len out)

-- ---- the loop

-- what is still to be taken of a chunk gives what was to be taken at first. `room` is the length of the buffer of answers; `len` bytes of it are written.
pub record Going (start : State) (text₀ chunk : List ℕ) (from : ℕ) (out₀ : List ℕ) (s : State) (text out : List ℕ) (next len end : ℕ) : Type 0 where
  pub same : taken (length out₀) (start_of start text₀) from (split (ascii "\n") (drop from chunk))
      ≡ taken (length out₀) (record { state = s; text = text_in text; output = take len out }) next (split (ascii "\n") (drop next chunk))
  pub fits : len ≤ length out
  pub past : drop len out ≡ drop len out₀
  pub long : length out ≡ length out₀
  pub sized : length text ≡ 201
  pub bytes : drop 1 text ≡ drop 1 text₀
  pub emptied : 0 < len → get_or text 0 0 ≡ 0
  pub ends : end ≡ end_of chunk next
  pub inside : next ≤ length chunk

module _ (start : State) (text₀ chunk : List ℕ) (from : ℕ) (out₀ : List ℕ) (s : State) (text out : List ℕ) (next len end : ℕ)
    (k : Going start text₀ chunk from out₀ s text out next len end) where
  output-is : length (take len out) ≡ len
  output-is = length-take-le len out k.fits

  out-is : take len out ++ drop len out₀ ≡ out
  out-is = rw (← k.past) (take-append-drop len out)

  -- an answer more, whatever it is, fits
  pub going-fits : (r : Response) (part : List ℕ) (t : State) (more : ℕ)
      → Gives r (take (length out - len) (drop len out)) part t more
      → length (put_mid len (length out - len) out part) ≡ length out → len + more ≤ length out₀
  going-fits r part t more g same =
      let bytes = r.line ++ line_end in
      let p = put-behind out part len more bytes k.fits g.line in
      let after = put_mid len (length out - len) out part in
      let whole_is = ap length (whole out after bytes len (len + more) k.fits p) in
      omega (
        arith,
        k.long,
        same,
        whole_is,
        length-append (take len out ++ bytes) (drop (len + more) out),
        front out after bytes len (len + more) k.fits p,
      )

  -- one line more, which leaves the text empty
  pub going_more : end < length chunk → answer_room ≤ length out - len → (part : List ℕ) (t : State) (more : ℕ)
      → Gives (respond_of s (text_in text ++ take (end - next) (drop next chunk))) (take (length out - len) (drop len out)) part t more
      → length (put_mid len (length out - len) out part) ≡ length out → (none : List ℕ) → none ≡ set text 0 0 → (to : ℕ) → to ≡ end_of chunk (end + 1)
      → Going start text₀ chunk from out₀ t none (put_mid len (length out - len) out part) (end + 1) (len + more) to
  going_more h room part t more g same none emptied to ends =
      let line = text_in text ++ take (end - next) (drop next chunk) in
      let f : Fed = record { state = s; text = text_in text; output = take len out } in
      let bytes = (respond_of s line).line ++ line_end in
      let p = put-behind out part len more bytes k.fits g.line in
      let after = put_mid len (length out - len) out part in
      let front-is = put_front out after bytes len (len + more) k.fits p in
      let first : 0 < length text = omega (arith, k.sized) in
      let zero : get_or none 0 0 ≡ 0 = rw emptied (get_or-set_same text 0 0 0 first) in
      let here : end_of chunk next < length chunk = rw (← k.ends) h in
      let fits : length (take len out) + answer_room ≤ length out₀ = rw output-is (omega (arith, k.long)) in
      let step : taken (length out₀) f next (split (ascii "\n") (drop next chunk))
      ≡ taken (length out₀) (answered f line) (end + 1) (split (ascii "\n") (drop (end + 1) chunk))
      = rw k.ends (taken-line (length out₀) f chunk next here fits) in
      let fed : answered f line ≡ record { state = t; text = text_in none; output = take (len + more) after } =
      rw (g.state_is, text-none none zero, front-is) in
      record {
        same = k.same ∙ step ∙ ap (λ g. taken (length out₀) g (end + 1) (split (ascii "\n") (drop (end + 1) chunk))) fed;
        fits = rw (same, k.long) (going-fits (respond_of s line) part t more g same);
        past = put-past out after bytes len (len + more) k.fits p ∙ further;
        long = same ∙ k.long;
        sized = rw emptied (length-set text 0 0 ∙ k.sized);
        bytes = rw emptied (drop-set-lt 1 text 0 0 (omega arith) ∙ k.bytes);
        emptied = λ _. zero;
        ends = ends;
        inside = omega arith;
      }
    where
      further : drop (len + more) out ≡ drop (len + more) out₀
      further = sym (drop-drop more len out) ∙ ap (drop more) k.past ∙ drop-drop more len out₀

  -- no line ends: the bytes left go behind the text
  pub going-rest : length chunk ≤ end → (to : ℕ) (after : List ℕ) → (to ≡ length chunk) × (after ≡ kept text (text_in text ++ drop next chunk))
      → record { state = s; text = after; out = out; next = to; len = len } ≡ gone_of start text₀ chunk from out₀
  unfolding gone_of
  going-rest h to after e =
      let f : Fed = record { state = s; text = text_in text; output = take len out } in
      let far : length chunk ≤ end_of chunk next = rw (← k.ends) h in
      let t = k.same ∙ taken-rest (length out₀) f chunk next k.inside far in
      let text_is : after ≡ kept text₀ (text_in text ++ drop next chunk) = e.1 ∙ kept_same text text₀ (text_in text ++ drop next chunk) k.bytes in
      rw (t, output-is, e.0, text_is, out-is)

  -- no room is left
  pub going-full : end < length chunk → length out - len < answer_room → answer_room ≤ length out₀ → (to : ℕ) (after : List ℕ) → (to ≡ next) × (after ≡ text)
      → record { state = s; text = after; out = out; next = to; len = len } ≡ gone_of start text₀ chunk from out₀
  unfolding gone_of
  going-full h full roomy to after e =
      let f : Fed = record { state = s; text = text_in text; output = take len out } in
      let here : end_of chunk next < length chunk = rw (← k.ends) h in
      let none : length out₀ < length (take len out) + answer_room = rw output-is (omega (arith, k.long, k.fits)) in
      let t = k.same ∙ taken-full (length out₀) f chunk next here none in
      let zero = k.emptied (omega (arith, k.long)) in
      let text_is : kept text₀ (text_in text) ≡ text = ap (kept text₀) (text-none text zero) ∙ kept-none text₀ text k.sized zero k.bytes in
      rw (t, output-is, text_is, out-is, e.0, e.1)

-- ---- on lent buffers

module _ (image text chunk : List ℕ) (from : ℕ) (out : List ℕ) where
  -- the buffers or the place cannot be
  pub feed-unready : false ≡ ready text chunk from out → fed_in (record { next = from; len = 0 }) image text out ≡ feed_of image text chunk from out
  unfolding feed_of
  feed-unready e = rw (← e)

  -- Restore refuses the image
  pub feed-refused : ready text chunk from out ≡ true → carried_out (restore_whole image).answer ≡ false
      → fed_in (record { next = from; len = 0 }) image text out ≡ feed_of image text chunk from out
  unfolding feed_of
  feed-refused t e = rw (t, e)

  -- lines are taken
  pub feed-taken : ready text chunk from out ≡ true → carried_out (restore_whole image).answer ≡ true
      → saved (gone_of (restore_whole image).state text chunk from out) ≡ feed_of image text chunk from out
  unfolding feed_of
  feed-taken t e = rw (t, e)

-- an image that is not refused is done
pub taken-done : (image : List ℕ) → carried_out (restore_whole image).answer ≡ true → (restore_whole image).answer ≡ Done
taken-done image e =
    ⊎_elim (λ d. d) (λ n. absurd (true≢false (sym e ∙ ap (λ q. carried_out q.answer) (whole-refused image n)))) (done-or-not image)

-- lines were taken, and the image of the state after them is saved
pub feed-went : (image text chunk : List ℕ) (from : ℕ) (out : List ℕ) (s : State) (g : Gone) (after : List ℕ)
    → ready text chunk from out ≡ true → carried_out (restore_whole image).answer ≡ true → s ≡ (restore_whole image).state
    → g ≡ gone_of s text chunk from out → after ≡ image_of g.state
    → fed_in (record { next = g.next; len = g.len }) after g.text g.out ≡ feed_of image text chunk from out
feed-went image text chunk from out s g after t e same went is =
    ap (λ i. fed_in (record { next = g.next; len = g.len }) i g.text g.out) is
    ∙ ap saved (went ∙ ap (λ r. gone_of r text chunk from out) same)
    ∙ feed-taken image text chunk from out t e

-- the answers are in their buffer, whatever the buffers
pub feed-fits : (image text chunk : List ℕ) (from : ℕ) (out : List ℕ) (t : Taken) → t ≡ feed_of image text chunk from out → t.left.len ≤ length t.left.out
unfolding feed_of gone_of
feed-fits image text chunk from out t e =
    let said = (taken (length out) (start_of (restore_whole image).state text) from (split (ascii "\n") (drop from chunk))).fed.output in
    rw e
    (cond-all (λ (u : Taken). u.left.len ≤ length u.left.out) (ready text chunk from out && carried_out (restore_whole image).answer) _ _
    (λ _. omega (arith, length-append said (drop (length said) out))) (λ _. omega arith))

pub finish-fits : (image text out : List ℕ) (l : Left) → l ≡ finish_of image text out → l.len ≤ length l.out
unfolding finish_of
finish-fits image text out l e =
    rw e
    (cond-all (λ (u : Left). u.len ≤ length u.out) (eqb (get_or text 0 0) 0) _ _ (λ _. omega arith) (λ _. feed-fits image text line_end 0 out _ refl))

-- no text: no line
pub finish-none : (image text out : List ℕ) → get_or text 0 0 ≡ 0 → left_in 0 image text out ≡ finish_of image text out
unfolding finish_of
finish-none image text out e = rw e

pub finish-short : (image text out : List ℕ) → length text ≡ 0 → left_in 0 image text out ≡ finish_of image text out
finish-short image [] out e = finish-none image [] out refl
finish-short image (x ∷ text) out e = absurd (omega arith)

-- one last line
pub finish-line : (image text out : List ℕ) (t : Taken) → (get_or text 0 0 ≡ 0 → ⊥) → t ≡ feed_of image text line_end 0 out → t.left ≡ finish_of image text out
unfolding finish_of
finish-line image text out t n e = rw (ne_eqb _ _ n, e)
