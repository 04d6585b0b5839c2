-- Invariant: the walk has come so far on its course, the words counted are those of the pages tested, and where it goes on a word begins. Measure: the pages
-- that are left in reach.
use Rattle.std.proofs.Common.{◌≡◌, refl, ◌<◌, inl, inr, ⊎_elim, arith}
use Rattle.walk.proofs.Alongs.{along-none, walk_ends, word-shown}
use Rattle.walk.proofs.Words.{spanned-none, spanned-small, spanned-more}
use Rattle.walk.proofs.course.Course.walk_words.Goals as goal

pub loop-at-init : goal.loop-at-init
loop-at-init c = record {
  on_course = record { tested_in = omega arith; missing_low = omega arith; number_is = omega arith };
  words_are = spanned-none c.args.self.from;
  fresh = λ _ _. inl refl;
  along = λ s j _ _. along-none s j c.args.table.now _;
}

pub overflow_add-words : goal.overflow_add-words
overflow_add-words c = omega (arith, spanned-small c.args.self.from c.loop-at.at.tested)

pub loop-at-preserved : goal.loop-at-preserved
loop-at-preserved c =
    let a = c.args in
    let at = c.loop-at.at in
    let i = c.loop-at.invariant in
    let e = c.walk_word-at.ensures in
    let f = e.far.1 in
    let next = c.walk_word-at.result in
    -- a word's walk tests a page at least
    let further : at.tested < next.tested = ⊎_elim (λ g. omega (arith, g)) (λ g. omega (arith, g)) f.ends in record {
      on_course = e.far.0;
      words_are = spanned-more a.self.from at.tested next.tested c.loop-at.words (i.fresh (omega arith) (omega arith)) further (omega arith) i.words_are;
      -- where the walk goes on, it has come to the border
      fresh = λ l m.
          let g : next.tested ≡ c.min-end.result = ⊎_elim (λ g. g) (λ g. absurd (omega (arith, g, m))) f.ends in
          inr (omega (arith, g, l));
      along = λ s j course shows.
          e.along s j a.table.now course (rw c.word.ensures (word-shown s _ _ a.self.from at.tested c.min-end.result shows (omega arith)))
          (i.along s j course shows);
    }

pub returns-else-at-self-clause-walked : goal.returns-else-at-self-clause-walked
returns-else-at-self-clause-walked c = λ s j course shows.
    let i = c.loop-at.invariant in
    walk_ends s j c.args.self course _ _ c.loop-at.at i.on_course (i.along s j course shows) (inr c.if-at-self.false)

pub returns-after-loop-at-clause-walked : goal.returns-after-loop-at-clause-walked
returns-after-loop-at-clause-walked c = λ s j course shows.
    let i = c.loop-at.invariant in
    walk_ends s j c.args.self course _ _ c.loop-at.at i.on_course (i.along s j course shows) (inl (omega (arith, i.on_course.tested_in)))
